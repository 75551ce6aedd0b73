-- Decode targets: which of them a wish allows, which is better, and the aim.
-- A frame's indications, pairs and mask are those of AV1 RTP payload format, Appendix A (decode target indications, templates'
-- layers, active_decode_targets_bitmask). What is allowed and what is better are this project's own rules.
-- The code reads fixed arrays in one loop over the targets; `IsBest` says in words what the loop finds.
use Rattle.std.specs.Prelude.{◌≡◌, ◌⊎◌, ◌<◌, ◌/◌, ◌%◌, ◌^◌, ℕ, zero, suc, List, Bool, true, false, if◌then◌else◌, ◌==◌, ◌&&◌, ◌||◌, nat_lt, nat_le, slice_index_or, take}
use Rattle.std.specs.declared.option.Option.{Option}
use Rattle.std.specs.declared.option.Option.TheVariants.{None, Some}
use Rattle.sfu_base.specs.declared.frame.FrameMeaning.{FrameMeaning}
use Rattle.sfu_base.specs.declared.frame.Dti.{Dti}
use Rattle.sfu_base.specs.declared.frame.Dti.TheVariants.{NotPresent, Discardable, Switch, Required}
use Rattle.sfu_base.specs.declared.frame.Wish.{Wish}

-- the distances of the frames that f refers to (frame_fdiff)
abbrev pub references : FrameMeaning → List ℕ
references f = take f.ref_count f.refs

abbrev pub indication : FrameMeaning → ℕ → Dti
indication f target = slice_index_or f.dtis target NotPresent

abbrev pub says_switch : Dti → Bool
says_switch NotPresent = false
says_switch Discardable = false
says_switch Switch = true
says_switch Required = false

abbrev pub says_present : Dti → Bool
says_present NotPresent = false
says_present Discardable = true
says_present Switch = true
says_present Required = true

-- a decoder can switch to the target at f
abbrev pub is_switch : FrameMeaning → ℕ → Bool
is_switch f target = says_switch (indication f target)

-- f belongs to the target
abbrev pub is_present : FrameMeaning → ℕ → Bool
is_present f target = nat_lt target f.target_count && says_present (indication f target)

-- the target's bit is set in the mask, the lowest bit for target 0
abbrev pub is_active : FrameMeaning → ℕ → Bool
is_active f target = (f.mask / 2 ^ target) % 2 == 1

-- the greatest spatial and the greatest temporal id of the target, if a template is present in it
abbrev pub layers : FrameMeaning → ℕ → Option Wish
layers f target = slice_index_or f.pairs target None

-- there is a pair, and its spatial and temporal id are at most the wish's
abbrev pub is_within : Wish → Option Wish → Bool
is_within wish None = false
is_within wish (Some pair) = nat_le pair.spatial wish.spatial && nat_le pair.temporal wish.temporal

abbrev pub is_allowed : Wish → FrameMeaning → ℕ → Bool
is_allowed wish f target = is_active f target && is_within wish (layers f target)

-- of two targets with these pairs and indexes, the first is better: the greater spatial id decides, then the greater temporal id, then the lower index
abbrev pub is_better_pair : Wish → Wish → ℕ → ℕ → Bool
is_better_pair p q target other =
    nat_lt q.spatial p.spatial
    || (p.spatial == q.spatial && (nat_lt q.temporal p.temporal || (p.temporal == q.temporal && nat_lt target other)))

abbrev pub is_better_of : Option Wish → Option Wish → ℕ → ℕ → Bool
is_better_of None q target other = false
is_better_of (Some p) None target other = true
is_better_of (Some p) (Some q) target other = is_better_pair p q target other

abbrev pub is_better : FrameMeaning → ℕ → ℕ → Bool
is_better f target other = is_better_of (layers f target) (layers f other) target other

-- the better of two targets: this one, if it passes the test, and the best one before it
abbrev pub better_one : FrameMeaning → Bool → ℕ → Option ℕ → Option ℕ
better_one f passes target None = if passes then Some target else None
better_one f passes target (Some other) = if passes && is_better f target other then Some target else Some other

-- the best of the targets below a number that pass a test
abbrev pub best_below : FrameMeaning → (ℕ → Bool) → ℕ → Option ℕ
best_below f test zero = None
best_below f test (suc target) = better_one f (test target) target (best_below f test target)

abbrev pub best : FrameMeaning → (ℕ → Bool) → Option ℕ
best f test = best_below f test f.target_count

-- the best allowed target
abbrev pub aim : Wish → FrameMeaning → Option ℕ
aim wish f = best f (is_allowed wish f)

-- ---- what the best is, in words

abbrev pub IsBetterPair : Wish → Wish → ℕ → ℕ → Type 0
IsBetterPair p q target other =
    (q.spatial < p.spatial)
    ⊎ ((p.spatial ≡ q.spatial) × ((q.temporal < p.temporal) ⊎ ((p.temporal ≡ q.temporal) × (target < other))))

abbrev pub IsBetterOf : Option Wish → Option Wish → ℕ → ℕ → Type 0
IsBetterOf None q target other = ⊥
IsBetterOf (Some p) None target other = Unit {0}
IsBetterOf (Some p) (Some q) target other = IsBetterPair p q target other

abbrev pub IsBetter : FrameMeaning → ℕ → ℕ → Type 0
IsBetter f target other = IsBetterOf (layers f target) (layers f other) target other

-- None of the targets below n passes the test; or this target does, and is better than every other target that does.
abbrev pub IsBest : FrameMeaning → (ℕ → Bool) → ℕ → Option ℕ → Type 0
IsBest f test n None = (target : ℕ) → target < n → test target ≡ true → ⊥
IsBest f test n (Some best) =
    (best < n) × (test best ≡ true) × ((target : ℕ) → target < n → test target ≡ true → (target ≡ best) ⊎ IsBetter f best target)
