-- Heads, followed by bare heads.
use Rattle.std.proofs.Common.{◌≡◌, ◌<◌, ◌≤◌, ℕ, suc, ◌+◌, ◌-◌, ◌%◌, List, [], ◌∷◌, ◌++◌, None, Some, length, drop, set, get_or, slice_get, refl, sym, ap, ◌∙◌, arith, append_assoc, length-append}
use Rattle.std.specs.Prelude.{All, replicate}
use Rattle.std.proofs.lemmas.List.{get_or-append_right, get_or-replicate, get_or_append_left, length-replicate, length-set, set-append_left, set_at}
use Rattle.std.proofs.lemmas.List.Elements.{All-append, All-nil, All-replicate, All-same}
use Rattle.out_ring.specs.declared.heads.Head.{Head}
use Rattle.out_ring.specs.Held.{turned}
use Rattle.out_ring.specs.Slots.{bare, padded}
use Rattle.out_ring.proofs.Turned.{item_there, put_in_first}

pub size_padded : (heads : List Head) → length heads ≤ 1536 → length (padded heads) ≡ 1536
unfolding padded
size_padded heads few =
    length-append heads (replicate (1536 - length heads) bare)
    ∙ ap (λ (k : ℕ). length heads + k) (length-replicate (1536 - length heads) bare)
    ∙ omega (arith, few)

pub get_or-padded : (heads : List Head) (i : ℕ) (d : Head) → i < length heads → get_or (padded heads) i d ≡ get_or heads i d
unfolding padded
get_or-padded heads i d within = get_or_append_left heads (replicate (1536 - length heads) bare) d i within

-- after the heads
pub bare_behind : (heads : List Head) (i : ℕ) (d : Head) → length heads ≤ i → i < 1536 → get_or (padded heads) i d ≡ bare
unfolding padded
bare_behind heads i d behind within =
    get_or-append_right heads (replicate (1536 - length heads) bare) (length heads) i d refl behind
    ∙ get_or-replicate (1536 - length heads) (i - length heads) bare d (omega (arith, behind, within))

pub set-padded : (heads : List Head) (i : ℕ) (head : Head) → i < length heads → padded (set heads i head) ≡ set (padded heads) i head
unfolding padded
set-padded heads i head within =
    ap (λ (k : ℕ). set heads i head ++ replicate (1536 - k) bare) (length-set heads i head)
    ∙ sym (set-append_left heads (replicate (1536 - length heads) bare) i head within)

-- one more head takes the place of the first bare one
pub put-padded : (heads : List Head) (i : ℕ) (head : Head) → i ≡ length heads → length heads < 1536 → padded (heads ++ head ∷ []) ≡ set (padded heads) i head
unfolding padded
put-padded heads i head last few =
    let left : ℕ = 1535 - length heads in
    ap (λ (k : ℕ). (heads ++ head ∷ []) ++ replicate k bare)
    (let e : 1536 - length (heads ++ head ∷ []) ≡ left = omega (arith, length-append heads (head ∷ [])) in e)
    ∙ append_assoc heads (head ∷ []) (replicate left bare)
    ∙ sym (set_at heads bare (replicate left bare) head i (sym last))
    ∙ ap (λ (k : ℕ). set (heads ++ replicate k bare) i head) (let e : suc left ≡ 1536 - length heads = omega (arith, few) in e)

-- ---- in a ring

pub none_shared : (heads : List Head) → heads ≡ [] → All (λ (head : Head). head.shared ≡ None) (turned 0 (padded heads))
unfolding padded
none_shared heads none =
    All-append (λ (head : Head). head.shared ≡ None) (padded heads) []
    (All-append (λ (head : Head). head.shared ≡ None) heads (replicate (1536 - length heads) bare)
    (All-same (λ (head : Head). head.shared ≡ None) heads [] none (All-nil (λ (head : Head). head.shared ≡ None)))
    (All-replicate (λ (head : Head). head.shared ≡ None) (1536 - length heads) bare refl))
    (All-nil (λ (head : Head). head.shared ≡ None))

module _ (oldest place index : ℕ) (heads : List Head) (few : length heads ≤ 1536) (below : oldest < 1536) (within : place < 1536)
    (at : index ≡ (oldest + place) % 1536) where
  pub head_there : (head : Head) → index < length heads → head ≡ get_or heads index head → slice_get (turned oldest (padded heads)) place ≡ Some head
  head_there head there is =
      item_there oldest place (padded heads) head (size_padded heads few) below within
      (is ∙ sym (get_or-padded heads index head there) ∙ ap (λ (k : ℕ). get_or (padded heads) k head) at)

  pub bare_there : length heads ≤ index → slice_get (turned oldest (padded heads)) place ≡ Some bare
  bare_there behind =
      item_there oldest place (padded heads) bare (size_padded heads few) below within
      (sym (bare_behind heads index bare behind (omega (arith, at))) ∙ ap (λ (k : ℕ). get_or (padded heads) k bare) at)

-- a head that takes the oldest one's place is the newest
pub put_newest : (oldest next : ℕ) (heads new : List Head) (head : Head) → length heads ≤ 1536 → oldest < 1536 → next ≡ (oldest + 1) % 1536
    → padded new ≡ set (padded heads) oldest head → turned next (padded new) ≡ drop 1 (turned oldest (padded heads)) ++ head ∷ []
put_newest oldest next heads new head few below at is =
    ap (λ (k : ℕ). turned k (padded new)) at ∙ ap (turned ((oldest + 1) % 1536)) is
    ∙ put_in_first oldest (padded heads) head (size_padded heads few) below
