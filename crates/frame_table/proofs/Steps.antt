-- The results of a table's steps.
use Rattle.std.proofs.Common.{◌≡◌, ◌⊎◌, inl, inr, ℕ, zero, suc, [], ◌∷◌, length-append, ◌+◌, ◌-◌, ◌%◌, ◌<◌, ◌≤◌, ◌^◌, ◌++◌, Bool, true, false, cond, not, List, length, take, drop, replicate, set, Option, Some, None, Result, Ok, Err, refl, sym, subst, ap, ◌∙◌, arith}
use Rattle.std.specs.Prelude.{pos, ◌&&◌, ◌==◌, nat_lt, IfSome, is_some, slice_index}
use Rattle.std.specs.Bool.{Decides}
use Rattle.std.proofs.lemmas.Bool.{ltb-true, ltb-false, eqb-true, le-ltb, lt-ltb, cases_lt}
use Rattle.std.proofs.lemmas.Bool.Decides.{nat_tests, same_from_decides}
use Rattle.sfu_base.specs.declared.frame.FrameMeaning.{FrameMeaning}
use Rattle.sfu_base.specs.Frame.{IsDistance, IsValid}
use Rattle.wrap_number.specs.Number.{ahead_of, is_above, least_above, number_above}
use Rattle.forwarding_model.specs.frames.Reading.{Descriptor as Said, is_key_start, keeps_structure}
use Rattle.forwarding_model.specs.frames.Frames.{Force, after_descriptor, key_number, mask_by, meaning_by, number_of}
use Rattle.dd_structure.specs.Pair.{pair_of}
use Rattle.dd_structure.specs.TemplateStructure.{TemplateStructure}
use Rattle.dd_structure.specs.Spelling.{IsWellFormed}
use Rattle.dd_descriptor.specs.declared.descriptor.Descriptor.{Descriptor}
use Rattle.dd_descriptor.specs.Content.{holding}
use Rattle.dd_layout.specs.Layouts.{filled_up, layout_of, pairs_below, is_same_structure, structures_alone}
use Rattle.dd_descriptor.specs.Seen.{content_of}
use Rattle.dd_descriptor.proofs.Items.{all_at}
use Rattle.dd_layout.proofs.Layouts.{at_front, is_layout, same_structure}
use Rattle.dd_descriptor.specs.Spelling.{IsReference}
use Rattle.frame_table.specs.declared.table.Stale.{Stale}
use Rattle.frame_table.specs.declared.table.FrameHead.{FrameHead}
use Rattle.frame_table.specs.Seen.{IsFirst, IsReadBy, said_of, meant, meant_with}
use Rattle.frame_table.specs.Heads.{HasReferences, head_of, meaning_at, meant_at, meant_with_head, number_at, number_or_stale, numbered_at, or_stale}
use Rattle.frame_table.proofs.ReadDescriptors.{writable_from}

pub pairs_length : (s : TemplateStructure) (n : ℕ) → length (pairs_below s n) ≡ n
pairs_length s zero = refl
pairs_length s (suc n) = omega (arith, pairs_length s n, length-append (pairs_below s n) (pair_of s n ∷ []))

-- ---- structures

pub keeps_from : (force : Option TemplateStructure) (current s : TemplateStructure) (r : Bool) → Decides r (s ≡ current) → force ≡ Some current
    → r ≡ keeps_structure structures_alone force (Some s)
keeps_from force current s r same is =
    same_from_decides r (is_same_structure s current) same (same_structure s current)
    ∙ sym (ap (λ (o : Option TemplateStructure). keeps_structure structures_alone o (Some s)) is)

-- ---- numbers

pub near_above : (newest n m : ℕ) → n < 65536 → m ≡ least_above newest n → m - newest < 32768 → (is_above newest n ≡ true) × (number_above newest n ≡ m)
near_above newest n m small is near =
    let some : 0 < ahead_of (pos newest) n = omega arith in
    let few : ahead_of (pos newest) n < 32768 = omega arith in
    let sum : number_above newest n ≡ m = omega arith in
    (both (lt-ltb 0 (ahead_of (pos newest) n) some) (lt-ltb (ahead_of (pos newest) n) 32768 few), sum)
  where
    both : {a b : Bool} → a ≡ true → b ≡ true → (a && b) ≡ true
    both e f = cc

pub far_behind : (newest n m : ℕ) → n < 65536 → m ≡ least_above newest n → 32768 ≤ m - newest → is_above newest n ≡ false
far_behind newest n m small is far = outside (ahead_of (pos newest) n) (
    elim (cases_lt 0 (ahead_of (pos newest) n)) [
      | inl some ↦ inr (omega arith)
      | inr none ↦ inl (omega arith)
    ])
  where
    outside : (d : ℕ) → (d ≡ 0) ⊎ (32768 ≤ d) → (nat_lt 0 d && nat_lt d 32768) ≡ false
    outside d (inl e) = rw e refl
    outside d (inr over) = last (nat_lt 0 d) (nat_lt d 32768) (le-ltb d 32768 over)
      where
        last : (a b : Bool) → b ≡ false → (a && b) ≡ false
        last true b e = e
        last false b e = refl

-- the number of a whole frame, computed with the least number above, as the code does
pub number_near : (force : Force TemplateStructure) (head : FrameHead) (m : ℕ) → head.number < 65536 → head.key ≡ false → m ≡ least_above force.newest head.number
    → m - force.newest < 32768 → Ok m ≡ number_or_stale force head
number_near force head m small plain is near =
    let found = near_above force.newest head.number m small is near in
    rw (plain, found.0) (ap (λ (n : ℕ). Ok n) (sym found.1))

pub number_far : (force : Force TemplateStructure) (head : FrameHead) (m : ℕ) → head.number < 65536 → head.key ≡ false → m ≡ least_above force.newest head.number
    → 32768 ≤ m - force.newest → ◌≡◌ {A = Result ℕ Stale} (Err (record { newest = force.newest })) (number_or_stale force head)
number_far force head m small plain is far = rw (plain, far_behind force.newest head.number m small is far) refl

-- ---- meanings

or_stale_ok : (newest : ℕ) (o : Option ℕ) (n : ℕ) → or_stale newest o ≡ Ok n → o ≡ Some n
or_stale_ok newest None n e = absurd (cc)
or_stale_ok newest (Some m) n e = cc

pub meant_from : (s : TemplateStructure) (force : Force TemplateStructure) (head : FrameHead) (n : ℕ) (m : FrameMeaning)
    → number_or_stale force head ≡ Ok n → m ≡ meaning_at (layout_of s) force n head
    → Ok m ≡ meant_at s force head
meant_from s force head n m number is =
    ap (λ (x : FrameMeaning). Ok x) is ∙ sym (ap (meant_with_head s force head) (or_stale_ok force.newest (number_at force head) n number))

pub numbered_from : (force : Force TemplateStructure) (head : FrameHead) (n : ℕ) → number_or_stale force head ≡ Ok n
    → ◌≡◌ {A = Force TemplateStructure} (record force { newest = n }) (numbered_at force head)
numbered_from force head n number = rw (or_stale_ok force.newest (number_at force head) n number) refl

pub valid_meaning : (s : TemplateStructure) (force : Force TemplateStructure) (n : ℕ) (head : FrameHead) → IsWellFormed s → force.mask < 2 ^ s.target_count
    → force.start ≤ n → HasReferences head → IsValid (meaning_at (layout_of s) force n head)
valid_meaning s force n head well mask start refs =
    let layout = is_layout s well in
    record {
      targets = layout.targets;
      chains = layout.chains;
      references = refs.few;
      mask = mask;
      start = start;
      distances = refs.distances;
      guards = layout.guards;
    }

-- ---- heads

same_holding : (force carried : Option TemplateStructure) (s : TemplateStructure) → force ≡ Some s → (carried ≡ None) ⊎ (carried ≡ Some s) → holding carried force ≡ Some s
same_holding force carried s is (inl none) = ap (λ (o : Option TemplateStructure). holding o force) none ∙ is
same_holding force carried s is (inr own) = ap (λ (o : Option TemplateStructure). holding o force) own

pub head_references : (force : Force TemplateStructure) (d : Descriptor) → IfSome force.structure IsWellFormed → IsFirst force d → HasReferences (head_of (said_of force.structure d))
head_references force d well first =
    let w = writable_from force.structure d first.structure well first.read (same_holding force.structure d.structure first.structure first.is first.keeps) in
    record {
      few = w.frame.few_distances;
      distances = λ i lt.
          let found = all_at IsReference (take d.ref_count d.refs) i 0 w.frame.distances lt in
          subst IsDistance (sym (at_front 16 0 0 (take d.ref_count d.refs) i lt)) (record { back = found.0; near = found.1 });
    }

meant_same_with : (s : TemplateStructure) (force : Force TemplateStructure) (d : Said TemplateStructure) (o : Option ℕ) → meant_with_head s force (head_of d) o ≡ meant_with s force d o
meant_same_with s force d None = refl
meant_same_with s force d (Some n) = refl

-- a frame's meaning by its head is its meaning by its first descriptor
pub meant_same : (s : TemplateStructure) (force : Force TemplateStructure) (d : Descriptor) (head : FrameHead) → head ≡ head_of (said_of force.structure d)
    → meant_at s force head ≡ meant s force d
meant_same s force d head is =
    ap (meant_at s force) is ∙ meant_same_with s force (said_of force.structure d) (number_of force (said_of force.structure d))
