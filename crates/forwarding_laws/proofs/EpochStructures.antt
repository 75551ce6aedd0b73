-- A structure for each epoch, if all frames of an epoch have the same.
use Rattle.std.proofs.Common.{◌≡◌, inl, inr, ℕ, Bool, true, false, List, [], ◌∷◌, refl, sym, ap, cond}
use Rattle.std.specs.Prelude.{◌==◌}
use Rattle.std.proofs.lemmas.Bool.{eqb-true, eq-eqb}
use Rattle.std.specs.List.{AllByRecursion}
use Rattle.std.specs.declared.option.Option.{Option}
use Rattle.std.specs.declared.option.Option.TheVariants.{None, Some}
use Rattle.forwarding_model.specs.Lists.{IsMember}
use Rattle.forwarding_model.specs.forwarding.Timeline.{Frame}
use Rattle.forwarding_laws.specs.frames.WholeFrames.{HaveEpochStructures}
use Rattle.forwarding_laws.proofs.Members.{each_of, each_member}

-- the structure of the newest frame of the epoch
abbrev pub structure_of : {S : Type 0} → List (Frame S) → ℕ → Option S
structure_of [] epoch = None
structure_of (x ∷ xs) epoch = cond (x.meaning.epoch == epoch) (Some x.structure) (structure_of xs epoch)

member_structure : {S : Type 0} (xs : List (Frame S)) (x : Frame S) → HaveEpochStructures xs → IsMember x xs → structure_of xs x.meaning.epoch ≡ Some x.structure
member_structure [] x h m = elim m [ ]
member_structure (y ∷ ys) x h (inl e) = rw (← e) (rw (eq-eqb x.meaning.epoch x.meaning.epoch refl) refl)
member_structure {S} (y ∷ ys) x h (inr m) = go (y.meaning.epoch == x.meaning.epoch) refl (member_structure ys x h.1 m)
  where
    same : x.meaning.epoch ≡ y.meaning.epoch → x.structure ≡ y.structure
    same = each_member (λ (older : Frame S). older.meaning.epoch ≡ y.meaning.epoch → older.structure ≡ y.structure) ys x h.0 m

    go : (b : Bool) → (y.meaning.epoch == x.meaning.epoch) ≡ b → structure_of ys x.meaning.epoch ≡ Some x.structure → cond b (Some y.structure) (structure_of ys x.meaning.epoch) ≡ Some x.structure
    go true e rec = ap Some (sym (same (sym (eqb-true y.meaning.epoch x.meaning.epoch e))))
    go false e rec = rec

pub epoch_structures : {S : Type 0} (xs : List (Frame S)) → HaveEpochStructures xs
    → AllByRecursion (λ x. structure_of xs x.meaning.epoch ≡ Some x.structure) xs
epoch_structures xs h = each_of _ xs (λ x m. member_structure xs x h m)
