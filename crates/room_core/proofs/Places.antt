-- A write of one entry, by its key or by its place.
use Rattle.std.proofs.Common.{◌≡◌, ℕ, Bool, true, false, cond, List, [], ◌∷◌, refl, sym, ap, subst, ◌∙◌, Option, Some, None, IsSome, nat_eq, slice_get, is_some}
use Rattle.std.specs.Prelude.{IfSome}
use Rattle.std.proofs.lemmas.Bool.{eqb-true}
use Rattle.std.proofs.lemmas.Option.{slice_get-map}
use Rattle.std.specs.Cmp.{nat_eq_equiv}
use Rattle.std.specs.Map.{keys_of, lookup_key, values_of}
use Rattle.std.specs.Option.{option_map}
use Rattle.indexmap.specs.IndexMap.{IndexMap, IsUnique, WritesThrough, get, index_map_len, index_of_by, values, with_value_at}
use Rattle.indexmap.proofs.CallerLemmas.{index_map_len-with_value_at, updates-with_value_at}
use Rattle.indexmap.proofs.MapLemmas.{Found-position}
use Rattle.room_core.specs.Tables.{IsPlace}

-- ---- the place of a key

key_found : {V : Type 0} (k : ℕ) (es : List (ℕ × V)) (n : ℕ) → lookup_key (nat_eq k) es ≡ Some n → k ≡ n
key_found k [] n is = absurd cc
key_found k (e ∷ es) n is = by (nat_eq k e.0) refl is (key_found k es n)
  where
    by : (b : Bool) → nat_eq k e.0 ≡ b → cond b (Some e.0) (lookup_key (nat_eq k) es) ≡ Some n → (lookup_key (nat_eq k) es ≡ Some n → k ≡ n) → k ≡ n
    by true same is rest = eqb-true k e.0 same ∙ (let key : e.0 ≡ n = cc in key)
    by false other is rest = rest is

some_entry : {V : Type 0} (o : Option (ℕ × V)) (v : V) → option_map (λ e. e.1) o ≡ Some v → (e : ℕ × V) × (o ≡ Some e) × (e.1 ≡ v)
some_entry None v is = absurd cc
some_entry (Some e) v is = (e, refl, let same : e.1 ≡ v = cc in same)

-- the entry at the place where this key and value are found
entry_found : {V : Type 0} (es : List (ℕ × V)) (k place : ℕ) (v : V) → lookup_key (nat_eq k) es ≡ slice_get (keys_of es) place → slice_get (values_of es) place ≡ Some v
    → slice_get es place ≡ Some (k, v)
entry_found es k place v key value =
    let e = some_entry (slice_get es place) v (sym (slice_get-map (λ p. p.1) es place) ∙ value) in
    let at : slice_get (keys_of es) place ≡ Some e.0.0 = slice_get-map (λ p. p.0) es place ∙ ap (option_map (λ p. p.0)) e.1 in
    let same : k ≡ e.0.0 = key_found k es e.0.0 (key ∙ at) in
    e.1 ∙ ap (λ n. Some (n, e.0.1)) (sym same) ∙ ap (λ x. Some (k, x)) e.2

module _ {V S : Type 0} where
  -- the place that the table returns
  pub place_found : (m : IndexMap ℕ V S) (k : ℕ) (result : Option ℕ) → result ≡ index_of_by (nat_eq k) m → is_some result ≡ is_some (get nat_eq m k)
      → IfSome result (λ place. slice_get (values m) place ≡ get nat_eq m k) → IsPlace k m.entries (get nat_eq m k) result
  place_found m k None index some value = none (get nat_eq m k) some
    where
      none : (o : Option V) → false ≡ is_some o → o ≡ None
      none None e = refl
      none (Some v) e = absurd cc
  place_found m k (Some place) index some value = by (get nat_eq m k) refl some
    where
      by : (o : Option V) → get nat_eq m k ≡ o → true ≡ is_some o → IsPlace k m.entries (get nat_eq m k) (Some place)
      by None is e = absurd cc
      by (Some v) is e = (v, entry_found m.entries k place v (Found-position (nat_eq k) m.entries place (sym index)).key (value ∙ is), is)

  pub known_there : (m : IndexMap ℕ V S) (k place : ℕ) (known : V) → IsPlace k m.entries (get nat_eq m k) (Some place) → Some known ≡ slice_get (values m) place
      → (slice_get m.entries place ≡ Some (k, known)) × (Some known ≡ get nat_eq m k)
  known_there m k place known there at =
      let value : Some known ≡ Some there.0 = at ∙ slice_get-map (λ p. p.1) m.entries place ∙ ap (option_map (λ p. p.1)) there.1 in
      let same : there.0 ≡ known = cc in
      (there.1 ∙ ap (λ x. Some (k, x)) same, value ∙ sym there.2)

  pub not_there : (m : IndexMap ℕ V S) (k place : ℕ) → IsPlace k m.entries (get nat_eq m k) (Some place) → None ≡ slice_get (values m) place → ⊥
  not_there m k place there none =
      let value : None ≡ Some there.0 = none ∙ slice_get-map (λ p. p.1) m.entries place ∙ ap (option_map (λ p. p.1)) there.1 in
      cc

  -- ---- the write

  -- the table has this value under the key k, and is otherwise as before
  pub record IsWritten (k : ℕ) (old new : IndexMap ℕ V S) (now : V) : Type 0 where
    pub count : index_map_len new ≡ index_map_len old
    pub found : (n : ℕ) → get nat_eq new n ≡ cond (nat_eq k n) (Some now) (get nat_eq old n)

  pub written_by_key : (k : ℕ) (old new : IndexMap ℕ V S) (known now : V) → Some known ≡ get nat_eq old k → WritesThrough nat_eq (nat_eq k) old now new → IsWritten k old new now
  written_by_key k old new known now there writes =
      record { count = writes.2; found = (writes.3 (subst (λ (o : Option V). IsSome o) there refl)).0 }

  pub written_at : (k : ℕ) (old : IndexMap ℕ V S) (place : ℕ) (known now : V) → IsUnique nat_eq old → slice_get old.entries place ≡ Some (k, known)
      → IsWritten k old (with_value_at old place now) now
  written_at k old place known now unique at =
      record { count = index_map_len-with_value_at old place now; found = (updates-with_value_at old place now nat_eq_equiv unique k known at).0 }
