-- The order of pages, and copies in them.
use Rattle.std.proofs.Common.{◌≡◌, ◌≢◌, ◌<◌, ◌≤◌, inl, inr, ℕ, zero, suc, ◌+◌, ◌-◌, List, [], ◌∷◌, ◌++◌, length, take, drop, get_or, refl, sym, ap, ap₂, subst, ◌∙◌, arith, length-append, length-drop}
use Rattle.std.specs.Prelude.{◌==◌}
use Rattle.std.specs.List.{remove}
use Rattle.std.proofs.lemmas.Bool.{cases_eq, cases_lt, cond-false, cond-true, eq-eqb, ne_eqb}
use Rattle.std.proofs.lemmas.List.{drop-append-le, drop-drop, drop-take, drop_at, get_or_append_left, get_or_push, get_or_read, length-take-le, length_push, take-append-le, take-take, take_at}
use Rattle.std.proofs.lemmas.Slice.{drop-put_mid}
use Rattle.std.proofs.lemmas.List.Edits.{get_or-remove_above, get_or-remove_below, length-remove}
use Rattle.out_ring.specs.Pages.{IsOrder, Writes, place_of}

-- ---- the place of a page in the order

here : (first page : ℕ) (order : List ℕ) → first ≡ page → place_of (first ∷ order) page ≡ 0
here first page order same = cond-true (first == page) 0 (suc (place_of order page)) (eq-eqb first page same)

further : (first page : ℕ) (order : List ℕ) → first ≢ page → place_of (first ∷ order) page ≡ suc (place_of order page)
further first page order other = cond-false (first == page) 0 (suc (place_of order page)) (ne_eqb first page other)

pub place_first : (order : List ℕ) (i page : ℕ) → i < length order → get_or order i 0 ≡ page → ((j : ℕ) → j < i → get_or order j 0 ≢ page) → place_of order page ≡ i
place_first [] i page lt at before = absurd (omega (arith, lt))
place_first (first ∷ order) zero page lt at before = here first page order at
place_first (first ∷ order) (suc i) page lt at before =
    further first page order (before 0 (omega arith)) ∙ ap suc (place_first order i page (omega (arith, lt)) at (λ j below. before (suc j) (omega (arith, below))))

pub place_nowhere : (order : List ℕ) (page : ℕ) → ((j : ℕ) → j < length order → get_or order j 0 ≢ page) → place_of order page ≡ length order
place_nowhere [] page none = refl
place_nowhere (first ∷ order) page none =
    further first page order (none 0 (omega arith)) ∙ ap suc (place_nowhere order page (λ j below. none (suc j) (omega (arith, below))))

place_pushed : (order : List ℕ) (page last : ℕ) → place_of order page < length order → place_of (order ++ last ∷ []) page ≡ place_of order page
place_pushed [] page last lt = absurd (omega (arith, lt))
place_pushed (first ∷ order) page last lt = elim (cases_eq first page) [
  | inl same ↦ here first page (order ++ last ∷ []) same ∙ sym (here first page order same)
  | inr other ↦
      let e = further first page order other in
      further first page (order ++ last ∷ []) other ∙ ap suc (place_pushed order page last (omega (arith, e, lt))) ∙ sym e
]

place_of_last : (order : List ℕ) (last : ℕ) → place_of order last ≡ length order → place_of (order ++ last ∷ []) last ≡ length order
place_of_last [] last none = here last last [] refl
place_of_last (first ∷ order) last none = elim (cases_eq first last) [
  | inl same ↦ let e = here first last order same in absurd (omega (arith, e, none))
  | inr other ↦
      let e = further first last order other in
      further first last (order ++ last ∷ []) other ∙ ap suc (place_of_last order last (omega (arith, e, none)))
]

place_behind : (order : List ℕ) (i page : ℕ) → i < place_of order page → place_of (remove order i) page ≡ place_of order page - 1
place_behind [] i page lt = absurd (omega (arith, lt))
place_behind (first ∷ order) zero page lt = elim (cases_eq first page) [
  | inl same ↦ let e = here first page order same in absurd (omega (arith, e, lt))
  | inr other ↦ let e = further first page order other in omega (arith, e)
]
place_behind (first ∷ order) (suc i) page lt = elim (cases_eq first page) [
  | inl same ↦ let e = here first page order same in absurd (omega (arith, e, lt))
  | inr other ↦
      let e = further first page order other in
      let rest = place_behind order i page (omega (arith, e, lt)) in
      further first page (remove order i) other ∙ omega (arith, e, rest, lt)
]

place_before : (order : List ℕ) (i page : ℕ) → place_of order page < i → place_of (remove order i) page ≡ place_of order page
place_before order zero page lt = absurd (omega (arith, lt))
place_before [] (suc i) page lt = refl
place_before (first ∷ order) (suc i) page lt = elim (cases_eq first page) [
  | inl same ↦ here first page (remove order i) same ∙ sym (here first page order same)
  | inr other ↦
      let e = further first page order other in
      further first page (remove order i) other ∙ ap suc (place_before order i page (omega (arith, e, lt))) ∙ sym e
]

-- ---- a page is begun

abbrev pub begun : List ℕ → ℕ → List ℕ
begun order i = remove order i ++ get_or order i 0 ∷ []

size_removed : (order : List ℕ) (i : ℕ) → IsOrder order → i < 49 → length (remove order i) ≡ 48
size_removed order i is lt = let size = is.size in let e = length-remove order i (omega (arith, size, lt)) in omega (arith, e, size)

-- the other pages behind it move down by one
pub place_begun : (order : List ℕ) (i page : ℕ) → IsOrder order → i < 49 → i < place_of order page → place_of order page < 49
    → place_of (begun order i) page ≡ place_of order page - 1
place_begun order i page is lt above there =
    let e = place_behind order i page above in
    place_pushed (remove order i) page (get_or order i 0) (omega (arith, e, size_removed order i is lt, there, above)) ∙ e

removed_elsewhere : (order : List ℕ) (i j : ℕ) → IsOrder order → i < 49 → j < 48 → get_or (remove order i) j 0 ≢ get_or order i 0
removed_elsewhere order i j is lt below same = elim (cases_lt j i) [
  | inl before ↦
      let e = get_or-remove_below order i 0 j before (omega (arith, is.size, lt)) in
      let k = ap (place_of order) (sym e ∙ same) in
      let there = is.apart j (omega (arith, below)) in
      let here = is.apart i lt in
      omega (arith, k, there, here, before)
  | inr behind ↦
      let e = get_or-remove_above order i 0 j behind (omega (arith, is.size, lt)) in
      let k = ap (place_of order) (sym e ∙ same) in
      let there = is.apart (j + 1) (omega (arith, below)) in
      let here = is.apart i lt in
      omega (arith, k, there, here, behind)
]

place_current : (order : List ℕ) (i : ℕ) → IsOrder order → i < 49 → place_of (begun order i) (get_or order i 0) ≡ 48
place_current order i is lt =
    let size = size_removed order i is lt in
    place_of_last (remove order i) (get_or order i 0)
    (place_nowhere (remove order i) (get_or order i 0) (λ j below. removed_elsewhere order i j is lt (omega (arith, below, size))))
    ∙ size

pub order_begun : (order : List ℕ) (i : ℕ) → IsOrder order → i < 49 → IsOrder (begun order i)
order_begun order i is lt = record {
  size = length_push (remove order i) (get_or order i 0) ∙ omega (arith, size_removed order i is lt);
  small = λ k below. go k below (λ page. page < 49) (is.small i lt) (λ j within. is.small j within);
  apart = λ k below. apart k below;
}
  where
    inside : (k : ℕ) → k < 48 → get_or (begun order i) k 0 ≡ get_or (remove order i) k 0
    inside k below = get_or_append_left (remove order i) (get_or order i 0 ∷ []) 0 k (omega (arith, below, size_removed order i is lt))

    last : (k : ℕ) → k ≡ 48 → get_or (begun order i) k 0 ≡ get_or order i 0
    last k is_last = get_or_push (remove order i) (get_or order i 0) 0 k (size_removed order i is lt ∙ sym is_last)

    go : (k : ℕ) → k < 49 → (P : ℕ → Type 0) → P (get_or order i 0) → ((j : ℕ) → j < 49 → P (get_or order j 0)) → P (get_or (begun order i) k 0)
    go k below P current others = elim (cases_lt k 48) [
      | inr end ↦ subst P (sym (last k (omega (arith, end, below)))) current
      | inl within ↦ elim (cases_lt k i) [
        | inl before ↦
            subst P (sym (inside k within ∙ get_or-remove_below order i 0 k before (omega (arith, is.size, lt)))) (others k below)
        | inr behind ↦
            subst P (sym (inside k within ∙ get_or-remove_above order i 0 k behind (omega (arith, is.size, lt)))) (others (k + 1) (omega (arith, within)))
      ]
    ]

    apart : (k : ℕ) → k < 49 → place_of (begun order i) (get_or (begun order i) k 0) ≡ k
    apart k below = elim (cases_lt k 48) [
      | inr end ↦
          ap (place_of (begun order i)) (last k (omega (arith, end, below))) ∙ place_current order i is lt ∙ omega (arith, end, below)
      | inl within ↦ elim (cases_lt k i) [
        | inl before ↦
            let there = is.apart k below in
            let e = place_before order i (get_or order k 0) (omega (arith, there, before)) in
            ap (place_of (begun order i)) (inside k within ∙ get_or-remove_below order i 0 k before (omega (arith, is.size, lt)))
            ∙ place_pushed (remove order i) (get_or order k 0) (get_or order i 0) (omega (arith, e, there, size_removed order i is lt, within))
            ∙ e ∙ there
        | inr behind ↦
            let there = is.apart (k + 1) (omega (arith, within)) in
            ap (place_of (begun order i)) (inside k within ∙ get_or-remove_above order i 0 k behind (omega (arith, is.size, lt)))
            ∙ place_begun order i (get_or order (k + 1) 0) is lt (omega (arith, there, behind)) (omega (arith, there, within))
            ∙ omega (arith, there)
      ]
    ]

-- the page at the end is the current one
pub current_begun : (order : List ℕ) (i : ℕ) → IsOrder order → i < 49 → get_or (begun order i) 48 0 ≡ get_or order i 0
current_begun order i is lt = get_or_push (remove order i) (get_or order i 0) 0 48 (size_removed order i is lt)

-- what a page that is taken out and appended leaves
pub moved_last : (order without new : List ℕ) (i page : ℕ) → IsOrder order → i < 49 → without ≡ remove order i → page ≡ get_or order i page → new ≡ without ++ page ∷ []
    → new ≡ begun order i
moved_last order without new i page is lt taken read pushed =
    pushed ∙ ap₂ (λ (l : List ℕ) (p : ℕ). l ++ p ∷ []) taken (get_or_read order i page (omega (arith, is.size, lt)) read 0)

pub current_moved : (order without new : List ℕ) (i page : ℕ) → IsOrder order → i < 49 → without ≡ remove order i → page ≡ get_or order i page
    → new ≡ without ++ page ∷ [] → get_or new 48 0 ≡ page
current_moved order without new i page is lt taken read pushed =
    ap (λ (l : List ℕ). get_or l 48 0) (moved_last order without new i page is lt taken read pushed) ∙ current_begun order i is lt
    ∙ sym (get_or_read order i page (omega (arith, is.size, lt)) read 0)

-- the first order of all
pub falling : (order : List ℕ) → length order ≡ 49 → ((k : ℕ) → k < 49 → get_or order k 0 ≡ 48 - k) → IsOrder order
falling order size each = record {
  size = size;
  small = λ k below. let e = each k below in omega (arith, e);
  apart = λ k below.
      place_first order k (get_or order k 0) (omega (arith, size, below)) refl
      (λ j before same. let e = each k below in let f = each j (omega (arith, before, below)) in omega (arith, e, f, same, before, below));
}

-- ---- copies

-- bytes before what is overwritten
read_before : (bytes packet : List ℕ) (at from size : ℕ) → from + size ≤ at → at ≤ length bytes
    → take size (drop from (take at bytes ++ (packet ++ drop (at + length packet) bytes))) ≡ take size (drop from bytes)
read_before bytes packet at from size below within =
    let rest : List ℕ = packet ++ drop (at + length packet) bytes in
    let count = length-take-le at bytes within in
    let left : ℕ = at - from in
    ap (take size) (drop-append-le from (take at bytes) rest (omega (arith, count, below)))
    ∙ take-append-le size (drop from (take at bytes)) rest (omega (arith, length-drop from (take at bytes), count, below))
    ∙ ap (λ (n : ℕ). take size (drop from (take n bytes))) (let e : at ≡ from + left = omega (arith, below) in e)
    ∙ ap (take size) (drop-take from left bytes)
    ∙ take-take size left (drop from bytes) (omega (arith, below))

-- bytes behind it
read_behind : (bytes packet : List ℕ) (at from : ℕ) → at + length packet ≤ from → at ≤ length bytes
    → drop from (take at bytes ++ (packet ++ drop (at + length packet) bytes)) ≡ drop from bytes
read_behind bytes packet at from above within =
    ap (λ (l : List ℕ). drop from (take at bytes ++ (packet ++ l))) (sym (drop-drop (length packet) at bytes))
    ∙ drop-put_mid at (length packet) bytes packet from above within refl

pub writes : (bytes new packet : List ℕ) (at : ℕ) → at + length packet ≤ length bytes
    → new ≡ take at bytes ++ (packet ++ drop (at + length packet) bytes) → Writes bytes at packet new
writes bytes new packet at end is = record {
  size =
      ap length is
      ∙ (let a = length-append (take at bytes) (packet ++ drop (at + length packet) bytes) in
      let b = length-append packet (drop (at + length packet) bytes) in
      let c = length-drop (at + length packet) bytes in
      let d = length-take-le at bytes (omega (arith, end)) in
      omega (arith, a, b, c, d, end));
  there =
      ap (λ (l : List ℕ). take (length packet) (drop at l)) is
      ∙ ap (take (length packet)) (drop_at (take at bytes) (packet ++ drop (at + length packet) bytes) at (length-take-le at bytes (omega (arith, end))))
      ∙ take_at packet (drop (at + length packet) bytes) (length packet) refl;
  before = λ from count below. ap (λ (l : List ℕ). take count (drop from l)) is ∙ read_before bytes packet at from count below (omega (arith, end));
  behind = λ from count above.
      ap (λ (l : List ℕ). take count (drop from l)) is ∙ ap (take count) (read_behind bytes packet at from above (omega (arith, end)));
}

-- bytes that stay where more are appended
pub read_grown : (bytes new : List ℕ) (from size : ℕ) → take (length bytes) new ≡ bytes → from + size ≤ length bytes
    → take size (drop from new) ≡ take size (drop from bytes)
read_grown bytes new from size same within =
    let left : ℕ = length bytes - from in
    sym (take-take size left (drop from new) (omega (arith, within)))
    ∙ ap (take size) (sym (drop-take from left new))
    ∙ ap (λ (n : ℕ). take size (drop from (take n new))) (let e : from + left ≡ length bytes = omega (arith, within) in e)
    ∙ ap (λ (l : List ℕ). take size (drop from l)) same
