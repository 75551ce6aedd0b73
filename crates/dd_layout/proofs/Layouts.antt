-- The test of whether two structures are the same is true exactly if they are equal.
use Rattle.std.proofs.Common.{◌≡◌, ℕ, zero, suc, ◌+◌, ◌-◌, ◌<◌, ◌≤◌, Bool, cond, List, [], ◌∷◌, ◌++◌, length, get_or, set, drop, replicate, refl, sym, subst, ap, ◌∙◌, arith, append_assoc, length-append, Decides}
use Rattle.std.specs.Prelude.{◌≢◌}
use Rattle.std.proofs.lemmas.List.{drop-replicate, get_or_append_left, set_at}
use Rattle.std.proofs.lemmas.Bool.{ne_eqb}
use Rattle.forwarding_model.specs.frames.Reading.{IsLayout}
use Rattle.dd_structure.specs.Reading.{guard_count}
use Rattle.dd_structure.specs.Spelling.{IsWellFormed}
use Rattle.std.proofs.lemmas.Bool.Decides.{Decides-eqb, Decides-and, Decides-like}
use Rattle.std.proofs.lemmas.Slice.Eq.{slice_eq-Decides}
use Rattle.sfu_base.specs.declared.frame.Dti.{Dti}
use Rattle.sfu_base.specs.declared.frame.Dti.TheVariants.{NotPresent, Discardable, Switch, Required}
use Rattle.dd_structure.specs.declared.layer.Layer.{Layer}
use Rattle.sfu_base.specs.Frame.{dti_code}
use Rattle.std.specs.List.{AllByRecursion}
use Rattle.dd_structure.specs.TemplateStructure.{Template, TemplateStructure}
use Rattle.dd_layout.specs.Layouts.{filled_up, layout_of, is_same_indication, is_same_layer, is_same_template, is_same_resolution, is_same_structure}

same_code : (a b : Dti) → dti_code a ≡ dti_code b → a ≡ b
same_code NotPresent NotPresent e = refl
same_code NotPresent Discardable e = absurd (omega arith)
same_code NotPresent Switch e = absurd (omega arith)
same_code NotPresent Required e = absurd (omega arith)
same_code Discardable NotPresent e = absurd (omega arith)
same_code Discardable Discardable e = refl
same_code Discardable Switch e = absurd (omega arith)
same_code Discardable Required e = absurd (omega arith)
same_code Switch NotPresent e = absurd (omega arith)
same_code Switch Discardable e = absurd (omega arith)
same_code Switch Switch e = refl
same_code Switch Required e = absurd (omega arith)
same_code Required NotPresent e = absurd (omega arith)
same_code Required Discardable e = absurd (omega arith)
same_code Required Switch e = absurd (omega arith)
same_code Required Required e = refl

same_indication : (a b : Dti) → Decides (is_same_indication a b) (a ≡ b)
same_indication a b = Decides-like _ (same_code a b) (λ e. ap dti_code e) (Decides-eqb (dti_code a) (dti_code b))

same_layer : (a b : Layer) → Decides (is_same_layer a b) (a ≡ b)
same_layer a b =
    Decides-like _ (λ h. λ i. record { spatial = h.0 i; temporal = h.1 i }) (λ e. (ap (λ (l : Layer). l.spatial) e, ap (λ (l : Layer). l.temporal) e))
    (Decides-and _ _ (Decides-eqb a.spatial b.spatial) (Decides-eqb a.temporal b.temporal))

same_resolution : (a b : ℕ × ℕ) → Decides (is_same_resolution a b) (a ≡ b)
same_resolution a b =
    Decides-like _ (λ h. λ i. (h.0 i, h.1 i)) (λ e. (ap (λ (r : ℕ × ℕ). r.0) e, ap (λ (r : ℕ × ℕ). r.1) e))
    (Decides-and _ _ (Decides-eqb a.0 b.0) (Decides-eqb a.1 b.1))

same_template : (a b : Template) → Decides (is_same_template a b) (a ≡ b)
same_template a b =
    Decides-like _ (λ h. λ i. record { layer = h.0 i; indications = h.1.0 i; distances = h.1.1.0 i; links = h.1.1.1 i })
    (λ e. (ap (λ (t : Template). t.layer) e, (ap (λ (t : Template). t.indications) e, (ap (λ (t : Template). t.distances) e, ap (λ (t : Template). t.links) e))))
    (Decides-and _ _ (same_layer a.layer b.layer)
    (Decides-and _ _ (slice_eq-Decides same_indication a.indications b.indications _ refl)
    (Decides-and _ _ (slice_eq-Decides Decides-eqb a.distances b.distances _ refl) (slice_eq-Decides Decides-eqb a.links b.links _ refl))))

pub same_structure : (a b : TemplateStructure) → Decides (is_same_structure a b) (a ≡ b)
same_structure a b =
    Decides-like _ (λ h. λ i. record { offset = h.0 i; target_count = h.1.0 i; chain_count = h.1.1.0 i; templates = h.1.1.1.0 i; guards = h.1.1.1.1.0 i; resolutions = h.1.1.1.1.1 i })
    (λ e. (
      ap (λ (t : TemplateStructure). t.offset) e,
      (
        ap (λ (t : TemplateStructure). t.target_count) e,
        (
          ap (λ (t : TemplateStructure). t.chain_count) e,
          (ap (λ (t : TemplateStructure). t.templates) e, (ap (λ (t : TemplateStructure). t.guards) e, ap (λ (t : TemplateStructure). t.resolutions) e)),
        ),
      ),
    ))
    (Decides-and _ _ (Decides-eqb a.offset b.offset)
    (Decides-and _ _ (Decides-eqb a.target_count b.target_count)
    (Decides-and _ _ (Decides-eqb a.chain_count b.chain_count)
    (Decides-and _ _ (slice_eq-Decides same_template a.templates b.templates _ refl)
    (Decides-and _ _ (slice_eq-Decides Decides-eqb a.guards b.guards _ refl) (slice_eq-Decides same_resolution a.resolutions b.resolutions _ refl))))))

-- ---- a filled-up list begins with the items of the list

pub at_front : {A : Type 0} (n : ℕ) (x d : A) (xs : List A) (i : ℕ) → i < length xs → get_or (filled_up n x xs) i d ≡ get_or xs i d
at_front n x d xs i lt = get_or_append_left xs (drop (length xs) (replicate n x)) d i lt

-- one more item takes the next place
pub filled_more : {A : Type 0} (n : ℕ) (x y : A) (xs : List A) (k : ℕ) → length xs ≡ k → k < n → set (filled_up n x xs) k y ≡ filled_up n x (xs ++ y ∷ [])
filled_more {A = A} n x y xs k len lt =
    let gap : (n - length xs) ≡ suc (n - (k + 1)) = omega (arith, len) in
    let more : (n - length (xs ++ y ∷ [])) ≡ n - (k + 1) = omega (arith, len, length-append xs (y ∷ [])) in
    let here : filled_up n x xs ≡ xs ++ x ∷ replicate (n - (k + 1)) x = ap (λ (zs : List A). xs ++ zs) (drop-replicate (length xs) n x ∙ ap (λ (j : ℕ). replicate j x) gap) in
    let there : filled_up n x (xs ++ y ∷ []) ≡ (xs ++ y ∷ []) ++ replicate (n - (k + 1)) x = ap (λ (zs : List A). (xs ++ y ∷ []) ++ zs) (drop-replicate (length (xs ++ y ∷ [])) n x ∙ ap (λ (j : ℕ). replicate j x) more) in
    ap (λ (zs : List A). set zs k y) here ∙ set_at xs x (replicate (n - (k + 1)) x) y k len ∙ sym (there ∙ append_assoc xs (y ∷ []) (replicate (n - (k + 1)) x))

-- ---- layouts

all_at : {A : Type 0} (P : A → Type 0) (xs : List A) (i : ℕ) (d : A) → AllByRecursion P xs → i < length xs → P (get_or xs i d)
all_at P [] i d all lt = absurd (omega arith)
all_at P (x ∷ xs) zero d all lt = all.0
all_at P (x ∷ xs) (suc i) d all lt = all_at P xs i d all.1 (omega arith)

guards_all : (s : TemplateStructure) → IsWellFormed s → s.chain_count ≢ 0 → length s.guards ≡ s.target_count
guards_all s well some = well.guards ∙ ap (λ (b : Bool). cond b 0 s.target_count) (ne_eqb s.chain_count 0 some)

pub is_layout : (s : TemplateStructure) → IsWellFormed s → IsLayout (layout_of s)
is_layout s well = record {
  targets = well.few_targets;
  chains = omega (arith, well.chains, well.few_targets);
  guards = λ some t lt.
      let within : t < length s.guards = omega (arith, guards_all s well some) in
      subst (λ (g : ℕ). g < s.chain_count) (sym (at_front 32 0 0 s.guards t within)) (all_at (λ (g : ℕ). g < s.chain_count) s.guards t 0 well.small_guards within);
}
