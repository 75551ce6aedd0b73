-- The words of a seat, its calls with their answers, in a history that grows.
use Rattle.std.proofs.Common.{◌≡◌, ℕ, suc, length, Bool, true, false, cond, eqb, List, [], ◌∷◌, ◌++◌, refl, ap, sym, ◌∙◌, append-nil, eq-eqb, append_assoc}
use Rattle.std.proofs.lemmas.List.{append_cancel_left, append_cancel_right}
use mathlib.Core.List.{IsPrefix}
use Rattle.turn_lock.specs.declared.history.Entry.{Entry}
use Rattle.turn_lock.specs.History.{own_of}
use Rattle.turn_lock.proofs.Histories.{own_append, own_here}
use Rattle.session_steps.specs.Deeds.{Word}
use Rattle.sfu_serve.specs.Words.{word_at, words_from}

nothing : {C : Type 0} (o b : List (Entry C)) → o ++ b ≡ o → b ≡ []
nothing [] b e = e
nothing (x ∷ o) b e = nothing o b (cc e)

module _ {C A : Type 0} where
  pushed : (b : Bool) (w : Word C A) (xs ys : List (Word C A)) → cond b (w ∷ xs ++ ys) (xs ++ ys) ≡ cond b (w ∷ xs) xs ++ ys
  pushed true w xs ys = refl
  pushed false w xs ys = refl

  pub words_append : (reply : List (Entry C) → C → A) (starved : A) (before : List (Entry C)) (n : ℕ) (h g : List (Entry C)) → words_from reply starved before n (h ++ g) ≡ words_from reply starved before n h ++ words_from reply starved (before ++ h) n g
  words_append reply starved before n [] g = ap (λ (l : List (Entry C)). words_from reply starved l n g) (sym (append-nil before))
  words_append reply starved before n (e ∷ h) g =
      let more : List (Entry C) = before ++ e ∷ [] in
      let w : Word C A = word_at reply starved before e in
      ap (λ (l : List (Word C A)). cond (eqb e.seat n) (w ∷ l) l) (words_append reply starved more n h g ∙ ap (λ (m : List (Entry C)). words_from reply starved more n h ++ words_from reply starved m n g) (append_assoc before (e ∷ []) h))
      ∙ pushed (eqb e.seat n) w (words_from reply starved more n h) (words_from reply starved (before ++ e ∷ h) n g)

  none_if : (b : Bool) (w : Word C A) (e : Entry C) (xs : List (Word C A)) (os : List (Entry C)) → cond b (e ∷ os) os ≡ [] → (os ≡ [] → xs ≡ []) → cond b (w ∷ xs) xs ≡ []
  none_if true w e xs os h f = absurd (cc h)
  none_if false w e xs os h f = f h

  -- a seat without an entry has no word
  pub words_none : (reply : List (Entry C) → C → A) (starved : A) (before : List (Entry C)) (n : ℕ) (h : List (Entry C)) → own_of n h ≡ [] → words_from reply starved before n h ≡ []
  words_none reply starved before n [] e = refl
  words_none reply starved before n (x ∷ h) e = none_if (eqb x.seat n) (word_at reply starved before x) x (words_from reply starved (before ++ x ∷ []) n h) (own_of n h) e (words_none reply starved (before ++ x ∷ []) n h)

  -- a turn adds its word to the words of the seat
  pub words_turn : (reply : List (Entry C) → C → A) (starved : A) (n : ℕ) (seen h seen' : List (Entry C)) (e : Entry C) (own : List (Entry C)) → IsPrefix seen h → seen' ≡ h ++ e ∷ [] → e.seat ≡ n → own_of n seen ≡ own → own_of n seen' ≡ own ++ e ∷ []
      → words_from reply starved [] n seen' ≡ words_from reply starved [] n seen ++ word_at reply starved h e ∷ []
  words_turn reply starved n seen h seen' e own pre is by had has =
      let split : own_of n h ++ e ∷ [] ≡ own ++ e ∷ [] = ap (λ (l : List (Entry C)). own_of n h ++ l) (sym (own_here n e by)) ∙ (sym (own_append n h (e ∷ [])) ∙ (ap (own_of n) (sym is) ∙ has)) in
      let before : own_of n h ≡ own = append_cancel_right (own_of n h) own (e ∷ []) split in
      let none : own_of n pre.0 ≡ [] = nothing own (own_of n pre.0) (ap (λ (l : List (Entry C)). l ++ own_of n pre.0) (sym had) ∙ (sym (own_append n seen pre.0) ∙ (ap (own_of n) pre.1 ∙ before))) in
      let same : words_from reply starved [] n h ≡ words_from reply starved [] n seen = ap (words_from reply starved [] n) (sym pre.1) ∙ (words_append reply starved [] n seen pre.0 ∙ (ap (λ (l : List (Word C A)). words_from reply starved [] n seen ++ l) (words_none reply starved seen n pre.0 none) ∙ append-nil (words_from reply starved [] n seen))) in
      let last : words_from reply starved h n (e ∷ []) ≡ word_at reply starved h e ∷ [] = ap (λ (b : Bool). cond b (word_at reply starved h e ∷ []) []) (eq-eqb e.seat n by) in
      ap (words_from reply starved [] n) is ∙ (words_append reply starved [] n h (e ∷ []) ∙ (λ i. same i ++ last i))

module _ {C A : Type 0} where
  -- a later history in which the seat has no further entries has no further words of it
  pub words_same : (reply : List (Entry C) → C → A) (starved : A) (n : ℕ) (seen seen' : List (Entry C)) (own : List (Entry C)) → IsPrefix seen seen' → own_of n seen ≡ own → own_of n seen' ≡ own → words_from reply starved [] n seen' ≡ words_from reply starved [] n seen
  words_same reply starved n seen seen' own pre had has =
      let none : own_of n pre.0 ≡ [] = nothing own (own_of n pre.0) (ap (λ (l : List (Entry C)). l ++ own_of n pre.0) (sym had) ∙ (sym (own_append n seen pre.0) ∙ (ap (own_of n) pre.1 ∙ has))) in
      ap (words_from reply starved [] n) (sym pre.1) ∙ (words_append reply starved [] n seen pre.0 ∙ (ap (λ (l : List (Word C A)). words_from reply starved [] n seen ++ l) (words_none reply starved seen n pre.0 none) ∙ append-nil (words_from reply starved [] n seen)))

module _ {C A : Type 0} where
  as_long : (b : Bool) (w : Word C A) (e : Entry C) (ws : List (Word C A)) (os : List (Entry C)) → length ws ≡ length os → length (cond b (w ∷ ws) ws) ≡ length (cond b (e ∷ os) os)
  as_long true w e ws os same = ap suc same
  as_long false w e ws os same = same

  -- a seat has as many words as it has entries
  pub words_length : (reply : List (Entry C) → C → A) (starved : A) (before : List (Entry C)) (n : ℕ) (h : List (Entry C)) → length (words_from reply starved before n h) ≡ length (own_of n h)
  words_length reply starved before n [] = refl
  words_length reply starved before n (e ∷ h) =
      as_long (eqb e.seat n) (word_at reply starved before e) e (words_from reply starved (before ++ e ∷ []) n h) (own_of n h) (words_length reply starved (before ++ e ∷ []) n h)

module _ {C A : Type 0} where
  -- the words that a seat gains are those of the entries that it sees later
  pub words_since : (reply : List (Entry C) → C → A) (starved : A) (n m : ℕ) (seen seen' added : List (Entry C)) (said : List (Word C A)) → n ≡ m → seen' ≡ seen ++ added
      → words_from reply starved [] n seen' ≡ words_from reply starved [] m seen ++ said → words_from reply starved seen n added ≡ said
  words_since reply starved n m seen seen' added said same goes_on more =
      append_cancel_left (words_from reply starved [] n seen) (words_from reply starved seen n added) said
      (sym (words_append reply starved [] n seen added) ∙ (sym (ap (words_from reply starved [] n) goes_on) ∙ (more ∙ ap (λ (k : ℕ). words_from reply starved [] k seen ++ said) (sym same))))
