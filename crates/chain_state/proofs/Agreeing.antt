-- For links, a window gives the same results as the list of all forwarded frames.
use Rattle.std.proofs.Common.{◌≡◌, ◌+◌, ◌-◌, ◌^◌, ◌<◌, ◌≤◌, ℕ, Bool, true, false, ◌&&◌, ◌||◌, not, cond, List, [], ◌∷◌, inl, inr, ap, refl, sym, ◌∙◌, arith}
use Rattle.std.specs.Prelude.{◌==◌, nat_lt, nat_le}
use Rattle.std.specs.Int.{bit_at}
use Rattle.std.proofs.lemmas.Bool.{cases_eq, eqb-true, le-ltb, ne_eqb}
use Rattle.std.proofs.lemmas.Nat.Bits.{bit_at_above}
use Rattle.sfu_base.specs.declared.frame.FrameMeaning.{FrameMeaning}
use Rattle.forwarding_model.specs.forwarding.Selection.{chain_link, is_link_broken}
use Rattle.forwarding_model.specs.forwarding.Standing.{has_below as has_frame_below}
use Rattle.ref_window.specs.Numbers.{AreBelow, IsAboveAll, has_below, held_of}
use Rattle.ref_window.proofs.Forgetting.{answers_for_all}
use Rattle.chain_state.specs.declared.LinkState.TheVariants.{Intact, Broken}
use Rattle.chain_state.specs.Links.{LinkedIsIntact, link_of, numbers_of}

pub has_numbers : (frames : List FrameMeaning) (n d : ℕ) → has_below (numbers_of frames) n d ≡ has_frame_below frames n d
has_numbers [] n d = refl
has_numbers (f ∷ frames) n d = ap (λ b. ((f.number + d) == n) || b) (has_numbers frames n d)

-- this holds for each distance up to 4,096 below a frame that is above all frames of the list
pub window_answers : (window : List ℕ) (frames : List FrameMeaning) (n d : ℕ) → window ≡ held_of (numbers_of frames) → IsAboveAll n (numbers_of frames)
    → d ≤ 4096 → has_below window n d ≡ has_frame_below frames n d
window_answers window frames n d is above near =
    ap (λ w. has_below w n d) is ∙ answers_for_all n d (numbers_of frames) above near ∙ has_numbers frames n d

pub link_stands : (window : List ℕ) (frames : List FrameMeaning) (f : FrameMeaning) (target opened : ℕ) → window ≡ held_of (numbers_of frames)
    → IsAboveAll f.number (numbers_of frames) → chain_link f target ≤ 4096
    → link_of (has_below window f.number) f target opened ≡ link_of (has_frame_below frames f.number) f target opened
link_stands window frames f target opened is above near =
    ap (λ b. cond (nat_lt 0 f.chain_count && (nat_lt 0 (chain_link f target) && (nat_le (opened + chain_link f target) f.number && not b))) (Broken (f.number - chain_link f target)) Intact)
    (window_answers window frames f.number (chain_link f target) is above near)

-- a chain whose previous frame was forwarded is intact, and so is a frame without chains
none_broken : (has : ℕ → Bool) (f : FrameMeaning) (target opened : ℕ) → has (chain_link f target) ≡ true → is_link_broken has f target opened ≡ false
none_broken has f target opened passed =
    ap (λ b. nat_lt 0 f.chain_count && (nat_lt 0 (chain_link f target) && (nat_le (opened + chain_link f target) f.number && not b))) passed
    ∙ go (nat_lt 0 f.chain_count) (nat_lt 0 (chain_link f target)) (nat_le (opened + chain_link f target) f.number)
  where
    go : (a b c : Bool) → (a && (b && (c && false))) ≡ false
    go true true true = refl
    go true true false = refl
    go true false c = refl
    go false b c = refl

no_chains : (has : ℕ → Bool) (f : FrameMeaning) (target opened : ℕ) → f.chain_count ≡ 0 → is_link_broken has f target opened ≡ false
no_chains has f target opened none =
    ap (λ n. nat_lt 0 n && (nat_lt 0 (chain_link f target) && (nat_le (opened + chain_link f target) f.number && not (has (chain_link f target))))) none

-- the same, by the mask of the frames just below
near_link : (frames : List FrameMeaning) (f : FrameMeaning) (target opened mask : ℕ) → AreBelow (held_of (numbers_of frames)) f.number mask
    → IsAboveAll f.number (numbers_of frames) → bit_at mask (chain_link f target) ≡ 1 → is_link_broken (has_frame_below frames f.number) f target opened ≡ false
near_link frames f target opened mask below above set =
    let at = below (chain_link f target) set in
    none_broken (has_frame_below frames f.number) f target opened
    (sym (window_answers (held_of (numbers_of frames)) frames f.number (chain_link f target) refl above (let lt = at.1 in omega (arith, lt))) ∙ at.2)

pub linked_is_intact : LinkedIsIntact
linked_is_intact frames f target opened mask below above linked = elim (cases_eq f.chain_count 0) [
  | inl none ↦ no_chains (has_frame_below frames f.number) f target opened none
  | inr some ↦
      near_link frames f target opened mask below above
      (eqb-true (bit_at mask (chain_link f target)) 1 (sym (ap (λ b. b || (bit_at mask (chain_link f target) == 1)) (ne_eqb f.chain_count 0 some)) ∙ linked))
]

-- a word has no bit above its highest one
pub no_bit : (mask place : ℕ) → mask < 2 ^ 64 → 64 ≤ place → nat_lt place 64 ≡ (bit_at mask place == 1)
no_bit mask place small past = le-ltb place 64 past ∙ sym (ap (λ b. b == 1) (bit_at_above mask 64 place small past))
