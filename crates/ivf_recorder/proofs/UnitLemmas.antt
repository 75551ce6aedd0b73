-- A file's units after one more frame.
use Rattle.std.proofs.Common.{◌≡◌, Bool, true, false, cond, List, [], ◌∷◌, ◌++◌, refl, sym, ap, ◌∙◌}
use Rattle.ivf_recorder.specs.Units.{RecordedFrame, TemporalUnit, begins, grown, joins, next_time, units_from, units_of}

-- the units that a unit becomes with one more frame
abbrev pub with_content : TemporalUnit → RecordedFrame → List TemporalUnit
with_content unit content = cond (joins unit content) (grown unit content ∷ []) (unit ∷ begins (next_time unit content) content ∷ [])

abbrev pub extended : List TemporalUnit → RecordedFrame → List TemporalUnit
extended [] content = []
extended (unit ∷ []) content = with_content unit content
extended (unit ∷ next ∷ others) content = unit ∷ extended (next ∷ others) content

units_some : (unit : TemporalUnit) (contents : List RecordedFrame) → (first : TemporalUnit) × (others : List TemporalUnit) × (units_from unit contents ≡ first ∷ others)
units_some unit [] = (unit, [], refl)
units_some unit (f ∷ more) = go (joins unit f) (units_some (grown unit f) more) (units_some (begins (next_time unit f) f) more)
  where
    go : (b : Bool) → ((first : TemporalUnit) × (others : List TemporalUnit) × (units_from (grown unit f) more ≡ first ∷ others))
        → ((first : TemporalUnit) × (others : List TemporalUnit) × (units_from (begins (next_time unit f) f) more ≡ first ∷ others))
        → (first : TemporalUnit) × (others : List TemporalUnit) × (cond b (units_from (grown unit f) more) (unit ∷ units_from (begins (next_time unit f) f) more) ≡ first ∷ others)
    go true p q = p
    go false p q = (unit, units_from (begins (next_time unit f) f) more, refl)

extended_behind : (unit : TemporalUnit) (us : List TemporalUnit) (content : RecordedFrame) → ((first : TemporalUnit) × (others : List TemporalUnit) × (us ≡ first ∷ others))
    → extended (unit ∷ us) content ≡ unit ∷ extended us content
extended_behind unit us content some = rw some.2 refl

pub units_from_more : (unit : TemporalUnit) (contents : List RecordedFrame) (content : RecordedFrame) → units_from unit (contents ++ content ∷ []) ≡ extended (units_from unit contents) content
units_from_more unit [] content = refl
units_from_more unit (f ∷ more) content =
    go (joins unit f) (units_from_more (grown unit f) more content) (units_from_more (begins (next_time unit f) f) more content)
  where
    go : (b : Bool) → units_from (grown unit f) (more ++ content ∷ []) ≡ extended (units_from (grown unit f) more) content
        → units_from (begins (next_time unit f) f) (more ++ content ∷ []) ≡ extended (units_from (begins (next_time unit f) f) more) content
        → cond b (units_from (grown unit f) (more ++ content ∷ [])) (unit ∷ units_from (begins (next_time unit f) f) (more ++ content ∷ []))
        ≡ extended (cond b (units_from (grown unit f) more) (unit ∷ units_from (begins (next_time unit f) f) more)) content
    go true p q = p
    go false p q =
        ap (λ (x : List TemporalUnit). unit ∷ x) q
        ∙ sym (extended_behind unit (units_from (begins (next_time unit f) f) more) content (units_some (begins (next_time unit f) f) more))

pub extended_last : (closed : List TemporalUnit) (unit : TemporalUnit) (content : RecordedFrame) → extended (closed ++ unit ∷ []) content ≡ closed ++ with_content unit content
extended_last [] unit content = refl
extended_last (c ∷ []) unit content = refl
extended_last (c ∷ d ∷ closed) unit content = ap (λ (x : List TemporalUnit). c ∷ x) (extended_last (d ∷ closed) unit content)

-- these are the units, the newest last
pub units_more : (contents : List RecordedFrame) (content : RecordedFrame) (closed : List TemporalUnit) (unit : TemporalUnit) → units_of contents ≡ closed ++ unit ∷ []
    → units_of (contents ++ content ∷ []) ≡ closed ++ with_content unit content
units_more [] content [] unit e = absurd cc
units_more [] content (c ∷ closed) unit e = absurd cc
units_more (f ∷ more) content closed unit e =
    units_from_more (begins 0 f) more content ∙ ap (λ (x : List TemporalUnit). extended x content) e ∙ extended_last closed unit content
