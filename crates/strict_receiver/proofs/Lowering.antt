-- Numbers that are lowered one by one have the same distance below the newest as before.
use Rattle.std.proofs.Common.{◌≡◌, inl, inr, ℕ, ◌+◌, ◌-◌, ◌%◌, ◌<◌, ◌≤◌, Bool, true, false, ◌&&◌, ◌||◌, List, [], ◌∷◌, sym, ap, ◌∙◌, arith}
use Rattle.std.specs.Prelude.{nat_lt}
use Rattle.std.specs.List.{AllByRecursion}
use Rattle.std.proofs.lemmas.Bool.{cases_eq, eq-eqb, ne_eqb, lt-ltb, le-ltb}
use Rattle.std.proofs.lemmas.Bool.Decides.{Decides-ltb, Decides-like, same_from_decides}
use Rattle.dd_descriptor.proofs.Items.{all_weaker}
use Rattle.forwarding_model.specs.Receiver.{Received, is_received}
use Rattle.ref_window.specs.Numbers.{IsAboveAll, held_of, is_among}
use Rattle.ref_window.proofs.Forgetting.{has_below-is_among}
use Rattle.strict_receiver.specs.Numbers.{AreKeptOf}
use Rattle.strict_receiver.proofs.Distances.{all_filtered, held_in_reach}

-- the numbers from here on aren't lowered yet
abbrev pub lowered_so_far : List ℕ → ℕ → ℕ → ℕ → Bool
lowered_so_far window newest number d = nat_lt newest (number + d) && is_received window newest d

pub nothing_lowered : (window : List ℕ) (newest number d : ℕ) → number + d ≤ newest → false ≡ lowered_so_far window newest number d
nothing_lowered window newest number d le = sym (ap (λ (b : Bool). b && is_received window newest d) (le-ltb newest (number + d) le))

pub all_lowered : (window : List ℕ) (newest number d : ℕ) → newest < number + d → lowered_so_far window newest number d ≡ is_received window newest d
all_lowered window newest number d lt = ap (λ (b : Bool). b && is_received window newest d) (lt-ltb newest (number + d) lt)

-- the numbers below this one are lowered, and no others
pub record AreLowered (window lowered : List ℕ) (newest by number : ℕ) : Type 0 where
  pub below : AllByRecursion (λ m. m + by < number) lowered
  pub held : (d : ℕ) → d < 4096 → is_received lowered (newest - by) d ≡ lowered_so_far window newest number d

pub none_lowered : (window : List ℕ) (newest by number : ℕ) → number + 4095 ≤ newest → AreLowered window [] newest by number
none_lowered window newest by number le = record {
  below = tt;
  held = λ d near. nothing_lowered window newest number d (omega arith);
}

module _ (window lowered : List ℕ) (newest by number x : ℕ) (same : x + by ≡ number) (high : by ≤ newest) (le : number ≤ newest)
    (so_far : AreLowered window lowered newest by number) where
  -- a number at another distance
  elsewhere : (d : ℕ) → d < 4096 → (number + d ≡ newest → ⊥) → is_received lowered (newest - by) d ≡ lowered_so_far window newest (number + 1) d
  elsewhere d near ne = so_far.held d near ∙ ap (λ (b : Bool). b && is_received window newest d) same_test
    where
      same_test : nat_lt newest (number + d) ≡ nat_lt newest (number + 1 + d)
      same_test =
          same_from_decides (nat_lt newest (number + d)) (nat_lt newest (number + 1 + d)) (Decides-ltb newest (number + d))
          (Decides-like (nat_lt newest (number + 1 + d)) (λ h. omega arith) (λ h. omega arith) (Decides-ltb newest (number + 1 + d)))

  -- this number
  here : (d : ℕ) → number + d ≡ newest → lowered_so_far window newest (number + 1) d ≡ is_among window number
  here d e =
      all_lowered window newest (number + 1) d (omega arith) ∙ has_below-is_among window newest d (omega arith)
      ∙ ap (is_among window) (let same : newest - d ≡ number = omega arith in same)

  still_below : AllByRecursion (λ m. m + by < number + 1) lowered
  still_below = all_weaker (λ m. m + by < number) (λ m. m + by < number + 1) (λ m lt. omega arith) lowered so_far.below

  pub above_all : IsAboveAll x lowered
  above_all = all_weaker (λ m. m + by < number) (λ m. m < x) (λ m lt. omega arith) lowered so_far.below

  pub lowered_more : is_among window number ≡ true → AreLowered window (held_of (x ∷ lowered)) newest by (number + 1)
  lowered_more held = record {
    below = (omega arith, all_filtered (λ m. m + by < number + 1) _ lowered still_below);
    held = λ d near.
        held_in_reach x (newest - by) d lowered (omega arith) (omega arith)
        ∙ elim (cases_eq (number + d) newest) [
          | inl e ↦ ap (λ (b : Bool). b || is_received lowered (newest - by) d) (eq-eqb (x + d) (newest - by) (omega arith)) ∙ sym (here d e ∙ held)
          | inr ne ↦ ap (λ (b : Bool). b || is_received lowered (newest - by) d) (ne_eqb (x + d) (newest - by) (λ e. ne (omega arith))) ∙ elsewhere d near ne
        ];
  }

  pub lowered_no_more : is_among window number ≡ false → AreLowered window lowered newest by (number + 1)
  lowered_no_more held = record {
    below = still_below;
    held = λ d near. elim (cases_eq (number + d) newest) [
      | inl e ↦ so_far.held d near ∙ sym (nothing_lowered window newest number d (omega arith)) ∙ sym (here d e ∙ held)
      | inr ne ↦ elsewhere d near ne
    ];
  }

pub up_to : (lowered : List ℕ) (by number n : ℕ) → number ≤ n + by + 1 → AllByRecursion (λ m. m + by < number) lowered → AllByRecursion (λ m. m ≤ n) lowered
up_to lowered by number n le below = all_weaker (λ m. m + by < number) (λ m. m ≤ n) (λ m lt. omega arith) lowered below

-- numbers that are lowered in this way are kept as before
pub lowered_kept : (old new received : Received) (by : ℕ) → new.newest + by ≡ old.newest → by % 65536 ≡ 0 → AllByRecursion (λ m. m ≤ new.newest) new.numbers
    → ((d : ℕ) → d < 4096 → is_received new.numbers new.newest d ≡ is_received old.numbers old.newest d) → AreKeptOf old received → AreKeptOf new received
lowered_kept old new received by same whole below held stands = record {
  newest = (let e = stands.newest in omega arith);
  below = below;
  before = stands.before;
  distances = λ d near. held d near ∙ stands.distances d near;
}
