-- Words that are appended to a buffer one after another, and the space that they need.
use Rattle.std.proofs.Common.{◌≡◌, ◌<◌, ◌≤◌, ℕ, ◌+◌, List, [], ◌∷◌, ◌++◌, length, drop, get_or, sym, ap, ◌∙◌, arith, append_assoc}
use Rattle.std.specs.List.{flat_map}
use Rattle.std.proofs.lemmas.List.{drop_more, length-append}
use Rattle.script_texts.specs.Pieces.{piece_word}
use Rattle.script_texts.specs.Sizes.{piece_size, pieces_size}
use Rattle.script_texts.specs.declared.pieces.Piece.{Piece}

pub size_more : (xs : List Piece) (i : ℕ) (d : Piece) → i < length xs
    → pieces_size (drop i xs) ≡ 1 + piece_size (get_or xs i d) + pieces_size (drop (i + 1) xs)
size_more xs i d lt = ap pieces_size (drop_more xs i d lt)

pub put_more : (xs : List Piece) (i : ℕ) (d : Piece) (out spaced now all : List ℕ) → i < length xs
    → spaced ≡ out ++ 32 ∷ [] → now ≡ spaced ++ piece_word (get_or xs i d)
    → out ++ flat_map (λ next. 32 ∷ piece_word next) (drop i xs) ≡ all → now ++ flat_map (λ next. 32 ∷ piece_word next) (drop (i + 1) xs) ≡ all
put_more xs i d out spaced now all lt a b so_far =
    ap (λ (x : List ℕ). x ++ flat_map (λ next. 32 ∷ piece_word next) (drop (i + 1) xs)) (b ∙ ap (λ (x : List ℕ). x ++ piece_word (get_or xs i d)) a)
    ∙ append_assoc (out ++ 32 ∷ []) (piece_word (get_or xs i d)) (flat_map (λ next. 32 ∷ piece_word next) (drop (i + 1) xs))
    ∙ append_assoc out (32 ∷ []) (piece_word (get_or xs i d) ++ flat_map (λ next. 32 ∷ piece_word next) (drop (i + 1) xs))
    ∙ ap (λ (left : List Piece). out ++ flat_map (λ next. 32 ∷ piece_word next) left) (sym (drop_more xs i d lt))
    ∙ so_far

one_longer : (out spaced : List ℕ) → spaced ≡ out ++ 32 ∷ [] → length spaced ≡ length out + 1
one_longer out spaced e = ap length e ∙ length-append out (32 ∷ [])

pub capacity_here : (xs : List Piece) (i : ℕ) (d : Piece) (out spaced : List ℕ) → i < length xs → spaced ≡ out ++ 32 ∷ []
    → length out + pieces_size (drop i xs) ≤ 2048 → length spaced + piece_size (get_or xs i d) ≤ 2048
capacity_here xs i d out spaced lt e capacity = omega (arith, size_more xs i d lt, one_longer out spaced e)

pub capacity_after : (xs : List Piece) (i : ℕ) (d : Piece) (out spaced now : List ℕ) → i < length xs → spaced ≡ out ++ 32 ∷ []
    → length now ≤ length spaced + piece_size (get_or xs i d) → length out + pieces_size (drop i xs) ≤ 2048
    → length now + pieces_size (drop (i + 1) xs) ≤ 2048
capacity_after xs i d out spaced now lt e used capacity = omega (arith, size_more xs i d lt, one_longer out spaced e)
