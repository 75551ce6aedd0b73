-- Lists that begin at some place of a ring and continue around its end.
use Rattle.std.proofs.Common.{◌≡◌, ◌<◌, ◌≤◌, ℕ, ◌+◌, ◌-◌, ◌%◌, List, [], ◌∷◌, ◌++◌, length, take, drop, set, get_or, slice_get, sym, ap, ap₂, ◌∙◌, inl, inr, arith, Some, append-nil, append_assoc, length-append, length-drop, length-set, length-take, get_or-drop, get_or-take}
use Rattle.std.proofs.Math.Seq.{take-set-lt}
use Rattle.std.proofs.lemmas.Bool.{cases_lt}
use Rattle.std.proofs.lemmas.List.{drop-append-le, drop-drop, drop-set-add, drop-set-lt, drop_all, get_or-append_right, get_or_append_left, set-append_left, set-append_right, take-set-le, take_all, take_more_set}
use Rattle.std.proofs.lemmas.Option.{slice_get_read}
use Rattle.out_ring.specs.Held.{turned}

module _ {X : Type 0} where
  pub size_turned : (place : ℕ) (xs : List X) → length (turned place xs) ≡ length xs
  size_turned place xs = omega (arith, length-append (drop place xs) (take place xs), length-drop place xs, length-take place xs)

  -- a list that begins after the last item begins at the first item
  turned_whole : (place : ℕ) (xs : List X) → length xs ≡ 1536 → place ≤ 1536 → turned (place % 1536) xs ≡ turned place xs
  turned_whole place xs full within = elim (cases_lt place 1536) [
    | inl below ↦ ap (λ (k : ℕ). turned k xs) (let e : place % 1536 ≡ place = omega (arith, below) in e)
    | inr above ↦
        ap (λ (k : ℕ). turned k xs) (let e : place % 1536 ≡ 0 = omega (arith, above, within) in e)
        ∙ append-nil xs
        ∙ sym (take_all place xs (omega (arith, full, above)))
        ∙ ap (λ (l : List X). l ++ take place xs) (sym (drop_all place xs (omega (arith, full, above))))
  ]

  -- an item that replaces the first one is the last item, if the list then begins after it
  pub put_in_first : (first : ℕ) (xs : List X) (x : X) → length xs ≡ 1536 → first < 1536
      → turned ((first + 1) % 1536) (set xs first x) ≡ drop 1 (turned first xs) ++ x ∷ []
  put_in_first first xs x full below =
      turned_whole (first + 1) (set xs first x) (length-set xs first x ∙ full) (omega (arith, below))
      ∙ ap₂ (λ (l m : List X). l ++ m) (drop-set-lt (first + 1) xs first x (omega arith)) (take_more_set xs first x (omega (arith, full, below)))
      ∙ sym (append_assoc (drop (first + 1) xs) (take first xs) (x ∷ []))
      ∙ ap (λ (l : List X). (l ++ take first xs) ++ x ∷ []) (sym (drop-drop 1 first xs))
      ∙ ap (λ (l : List X). l ++ x ∷ []) (sym (drop-append-le 1 (drop first xs) (take first xs) (omega (arith, length-drop first xs, full, below))))

  get_or-turned : (first i : ℕ) (xs : List X) (d : X) → length xs ≡ 1536 → first < 1536 → i < 1536
      → get_or (turned first xs) i d ≡ get_or xs ((first + i) % 1536) d
  get_or-turned first i xs d full below within =
      let size = length-drop first xs in
      elim (cases_lt (first + i) 1536) [
        | inl low ↦
            get_or_append_left (drop first xs) (take first xs) d i (omega (arith, size, full, low))
            ∙ get_or-drop first xs i d
            ∙ ap (λ (k : ℕ). get_or xs k d) (let e : first + i ≡ (first + i) % 1536 = omega (arith, low) in e)
        | inr high ↦
            get_or-append_right (drop first xs) (take first xs) (1536 - first) i d (omega (arith, size, full)) (omega (arith, high))
            ∙ get_or-take first xs (i - (1536 - first)) d (omega (arith, high, within, below))
            ∙ ap (λ (k : ℕ). get_or xs k d) (let e : i - (1536 - first) ≡ (first + i) % 1536 = omega (arith, high, within, below) in e)
      ]

  -- which item is at a place
  pub item_there : (first i : ℕ) (xs : List X) (x : X) → length xs ≡ 1536 → first < 1536 → i < 1536 → x ≡ get_or xs ((first + i) % 1536) x
      → slice_get (turned first xs) i ≡ Some x
  item_there first i xs x full below within is =
      slice_get_read (turned first xs) 1536 i x (sym (size_turned first xs ∙ full)) within (is ∙ sym (get_or-turned first i xs x full below within))

  -- replacing an item of this list is replacing it at its place in the ring
  pub put_in_there : (first i : ℕ) (xs : List X) (x : X) → length xs ≡ 1536 → first < 1536 → i < 1536
      → turned first (set xs ((first + i) % 1536) x) ≡ set (turned first xs) i x
  put_in_there first i xs x full below within =
      let size = length-drop first xs in
      elim (cases_lt (first + i) 1536) [
        | inl low ↦
            ap (λ (k : ℕ). turned first (set xs k x)) (let e : (first + i) % 1536 ≡ first + i = omega (arith, low) in e)
            ∙ ap₂ (λ (l m : List X). l ++ m) (drop-set-add first xs i x) (take-set-le first xs (first + i) x (omega arith))
            ∙ sym (set-append_left (drop first xs) (take first xs) i x (omega (arith, size, full, low)))
        | inr high ↦
            ap (λ (k : ℕ). turned first (set xs k x)) (let e : (first + i) % 1536 ≡ i - (1536 - first) = omega (arith, high, within, below) in e)
            ∙ ap₂ (λ (l m : List X). l ++ m) (drop-set-lt first xs (i - (1536 - first)) x (omega (arith, high, within, below)))
            (take-set-lt first xs (i - (1536 - first)) x (omega (arith, high, within, below)))
            ∙ sym (set-append_right (drop first xs) (take first xs) (1536 - first) i x (omega (arith, size, full)) (omega (arith, high)))
      ]
