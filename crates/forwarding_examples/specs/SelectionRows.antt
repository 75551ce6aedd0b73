-- Timelines that show single rules of selection, causes and markers. The results were worked out by hand, and are checked by computation. Each
-- has another result if its rule is changed. Structures A and C are those of `Rows`. Structure D has four targets with layers (1, 1), (1, 0),
-- (0, 1) and (0, 0), which chains 1, 1, 0 and 0 protect.
use Rattle.std.specs.Prelude.{◌≡◌, ℕ, List, [], ◌∷◌, ◌++◌, Bool, true, false, map, length, replicate}
use Rattle.std.specs.declared.option.Option.TheVariants.{None, Some}
use Rattle.sfu_base.specs.declared.frame.Dti.{Dti}
use Rattle.sfu_base.specs.declared.frame.Dti.TheVariants.{NotPresent, Discardable, Switch, Required}
use Rattle.sfu_base.specs.declared.frame.Wish.{Wish}
use Rattle.sfu_base.specs.declared.frame.Verdict.{Verdict}
use Rattle.sfu_base.specs.declared.frame.Verdict.TheVariants.{Passed, NotOfTarget, Reference, Full, Link, Unopened, Hole}
use Rattle.forwarding_model.specs.forwarding.Timeline.{Event}
use Rattle.forwarding_model.specs.forwarding.Timeline.Event.{WholeFrame, WishChange}
use Rattle.forwarding_model.specs.forwarding.Causes.{cause, path}
use Rattle.forwarding_model.specs.forwarding.Outgoing.{outgoing, next_number, oldest_number, send_marked}
use Rattle.forwarding_examples.specs.Rows.{broken_chain, layers_wish, packet, one_target, key_a, two_targets, upper_c, masked, markers, joined_at_10}

-- ---- opening

-- Frame 3 passes and opens nothing, so frame 1 stays the opening frame. Frame 4 links to frame 2, which lies between frames 1 and 3 and was
-- lost.
abbrev pub PassingOpensNothing : Type 0
PassingOpensNothing =
    map
    (cause (layers_wish 1 0)
    (one_target 4 1 1 false Required 2 (1 ∷ []) (packet true ∷ [])
    ∷ one_target 3 1 1 false Required 2 (2 ∷ []) (packet true ∷ [])
    ∷ key_a 1 1
    ∷ []))
    (3 ∷ 4 ∷ [])
    ≡ Passed ∷ Link 4 2 ∷ []

-- ---- reasons

-- Frame 3 closes the target because of its link. Key frame 5 begins another epoch, but the queue is full, so the verdict on frame 6 is unopened since frame 5.
abbrev pub NewEpochGivesTheReason : Type 0
NewEpochGivesTheReason =
    map
    (cause (layers_wish 1 0)
    (one_target 6 5 2 false Required 0 [] (packet true ∷ [])
    ∷ one_target 5 5 2 true Switch 0 [] (replicate 512 (packet true))
    ∷ one_target 3 1 1 false Required 1 (1 ∷ []) (packet true ∷ [])
    ∷ key_a 1 1
    ∷ []))
    (3 ∷ 5 ∷ 6 ∷ [])
    ≡ Reference 2 ∷ Full 1 512 ∷ Unopened 5 ∷ []

-- A subscriber that joined in the middle of an epoch: the first frame that it sees begins the epoch for it, though it doesn't pass.
abbrev pub WithheldFramesBeginEpochs : Type 0
WithheldFramesBeginEpochs =
    map
    (cause (layers_wish 1 0)
    (one_target 3 1 1 false Switch 0 [] (packet true ∷ []) ∷ one_target 2 1 1 false Switch 0 [] (packet true ∷ []) ∷ []))
    (2 ∷ 3 ∷ [])
    ≡ Unopened 2 ∷ Unopened 2 ∷ []

-- ---- temporal layers, discardable frames, and targets above the second

abbrev pub four_targets : (number : ℕ) → Bool → (mask : ℕ) → List Dti → (links refs : List ℕ) → Event ℕ
four_targets number key mask dtis links refs =
    WholeFrame (record {
      meaning = record {
        number = number;
        start = 0;
        epoch = 1;
        spatial = 0;
        temporal = 0;
        key = key;
        mask = mask;
        target_count = 4;
        dtis = dtis;
        pairs = Some (layers_wish 1 1) ∷ Some (layers_wish 1 0) ∷ Some (layers_wish 0 1) ∷ Some (layers_wish 0 0) ∷ [];
        chain_count = 2;
        guards = 1 ∷ 1 ∷ 0 ∷ 0 ∷ [];
        links = links;
        ref_count = length refs;
        refs = refs;
      };
      structure = 0;
      packets = packet true ∷ [];
    })

abbrev pub key_d : Event ℕ
key_d = four_targets 0 true 15 (Required ∷ Required ∷ Switch ∷ Switch ∷ []) (0 ∷ 0 ∷ []) []

-- a frame of the layer (0, 1), which is discardable for target 2 and not present in the targets of temporal id 0
abbrev pub odd_d : Event ℕ
odd_d = four_targets 2 false 15 (Required ∷ NotPresent ∷ Discardable ∷ NotPresent ∷ []) (2 ∷ 1 ∷ []) (2 ∷ [])

-- the wish (0, 0) allows only target 3
abbrev pub TemporalWishIsKept : Type 0
TemporalWishIsKept = cause (layers_wish 0 0) (odd_d ∷ key_d ∷ []) 2 ≡ NotOfTarget (Some 3)

-- a discardable frame is present
abbrev pub DiscardableFramesPass : Type 0
DiscardableFramesPass = cause (layers_wish 0 1) (odd_d ∷ key_d ∷ []) 2 ≡ Passed

-- a discardable frame isn't a switch: it doesn't open target 2 for a higher wish
abbrev pub DiscardableFramesOpenNothing : Type 0
DiscardableFramesOpenNothing = cause (layers_wish 0 0) (odd_d ∷ WishChange (layers_wish 0 1) ∷ key_d ∷ []) 2 ≡ NotOfTarget (Some 3)

-- the mask 8 leaves only target 3, which the frame opens
abbrev pub FourthBitIsTargetThree : Type 0
FourthBitIsTargetThree =
    cause (layers_wish 1 1) (four_targets 2 false 8 (Required ∷ Required ∷ Switch ∷ Switch ∷ []) (2 ∷ 1 ∷ []) (2 ∷ []) ∷ key_d ∷ []) 2
    ≡ Passed

-- ---- the order of verdicts if no target is open

-- A frame that isn't present in the aim, first with a reference that wasn't passed, then without one. Its absence decides the verdict before
-- the reference does, and before the target's reason does.
abbrev pub AbsenceComesFirst : Type 0
AbsenceComesFirst =
    cause (layers_wish 0 0) (upper_c 4 1 1 (1 ∷ []) ∷ []) 4 ∷ cause (layers_wish 0 0) (upper_c 4 1 1 [] ∷ []) 4 ∷ []
    ≡ NotOfTarget (Some 1) ∷ NotOfTarget (Some 1) ∷ []

-- The mask leaves no target, and frame 3 refers to frame 2, which was lost.
abbrev pub masked_referring : (number mask : ℕ) → Dti → List ℕ → Event ℕ
masked_referring number mask dti refs =
    WholeFrame (record {
      meaning = record {
        number = number;
        start = 1;
        epoch = 1;
        spatial = 0;
        temporal = 0;
        key = false;
        mask = mask;
        target_count = 1;
        dtis = dti ∷ [];
        pairs = Some (layers_wish 0 0) ∷ [];
        chain_count = 1;
        guards = 0 ∷ [];
        links = 0 ∷ [];
        ref_count = length refs;
        refs = refs;
      };
      structure = 0;
      packets = packet true ∷ [];
    })

abbrev pub NoTargetComesFirst : Type 0
NoTargetComesFirst = cause (layers_wish 1 0) (masked_referring 3 0 Switch (1 ∷ []) ∷ key_a 1 1 ∷ []) 3 ≡ NotOfTarget None

-- ---- causes

-- a hole names the greatest of the frames below it
abbrev pub GreatestBelowIsReported : Type 0
GreatestBelowIsReported =
    cause (layers_wish 1 0)
    (one_target 4 1 1 false Switch 0 [] (packet true ∷ []) ∷ one_target 2 1 1 false Switch 0 [] (packet true ∷ []) ∷ key_a 1 1 ∷ []) 3
    ≡ Hole (Some 2) 4

-- nine frames came after the oldest one, which keeps its cause
abbrev pub OldFramesKeepTheirCauses : Type 0
OldFramesKeepTheirCauses =
    map
    (cause (layers_wish 1 0)
    (map (λ n. one_target n 1 1 false Switch 0 [] (packet true ∷ [])) (10 ∷ 9 ∷ 8 ∷ 7 ∷ 6 ∷ 5 ∷ 4 ∷ 3 ∷ 2 ∷ []) ++ key_a 1 1 ∷ []))
    (1 ∷ 2 ∷ [])
    ≡ Passed ∷ Passed ∷ []

-- the key frame lies 4,999 below frame 5,000, and still counts as passed
abbrev pub KeyFramesArentForgotten : Type 0
KeyFramesArentForgotten = cause (layers_wish 1 0) (masked 5000 1 Switch ∷ masked 2 0 Switch ∷ key_a 1 1 ∷ []) 5000 ≡ Passed

-- ---- what is forwarded

-- a marker that is set on a frame below the target's layer is kept
abbrev pub LowerMarkersAreKept : Type 0
LowerMarkersAreKept = markers (outgoing send_marked joined_at_10 (two_targets 1 1 1 true 3 0 Required Switch 0 0 [] true ∷ [])) ≡ true ∷ []

-- right after the join
abbrev pub FirstNumbers : Type 0
FirstNumbers =
    next_number {S = ℕ} send_marked joined_at_10 [] ∷ oldest_number {S = ℕ} send_marked joined_at_10 [] ∷ [] ≡ 10 ∷ 10 ∷ []

-- ---- which of two targets is better

-- the mask 6 leaves target 1 with layers (1, 0) and target 2 with layers (0, 1): the spatial id is compared first
abbrev pub SpatialComesFirst : Type 0
SpatialComesFirst =
    cause (layers_wish 1 1)
    (four_targets 2 false 6 (Required ∷ NotPresent ∷ Discardable ∷ NotPresent ∷ []) (0 ∷ 0 ∷ []) (2 ∷ [])
    ∷ four_targets 0 true 6 (Required ∷ Required ∷ Switch ∷ Switch ∷ []) (0 ∷ 0 ∷ []) []
    ∷ [])
    2
    ≡ NotOfTarget (Some 1)

-- of two targets of the same layers the first is better
abbrev pub equal_targets : (number : ℕ) → Bool → (first second : Dti) → List ℕ → Event ℕ
equal_targets number key first second refs =
    WholeFrame (record {
      meaning = record {
        number = number;
        start = 1;
        epoch = 1;
        spatial = 0;
        temporal = 0;
        key = key;
        mask = 3;
        target_count = 2;
        dtis = first ∷ second ∷ [];
        pairs = Some (layers_wish 0 0) ∷ Some (layers_wish 0 0) ∷ [];
        chain_count = 0;
        guards = [];
        links = [];
        ref_count = length refs;
        refs = refs;
      };
      structure = 0;
      packets = packet true ∷ [];
    })

abbrev pub FirstOfEquals : Type 0
FirstOfEquals =
    cause (layers_wish 0 0) (equal_targets 2 false Required NotPresent (1 ∷ []) ∷ equal_targets 1 true Switch Switch [] ∷ []) 2 ≡ Passed

-- ---- the path from a withheld frame

abbrev pub BrokenChainPath : Type 0
BrokenChainPath =
    path (cause (layers_wish 1 0) broken_chain) 4
    ≡ record { number = 4; verdict = Reference 3 } ∷ record { number = 3; verdict = Link 3 2 } ∷ record { number = 2; verdict = Hole (Some 1) 3 } ∷ []

-- ---- a target of greater layers is better, even if it has the higher index

abbrev pub ascending_targets : (greater : Wish) → (number : ℕ) → Bool → (lower upper : Dti) → List ℕ → Event ℕ
ascending_targets greater number key lower upper refs =
    WholeFrame (record {
      meaning = record {
        number = number;
        start = 1;
        epoch = 1;
        spatial = 0;
        temporal = 0;
        key = key;
        mask = 3;
        target_count = 2;
        dtis = lower ∷ upper ∷ [];
        pairs = Some (layers_wish 0 0) ∷ Some greater ∷ [];
        chain_count = 0;
        guards = [];
        links = [];
        ref_count = length refs;
        refs = refs;
      };
      structure = 0;
      packets = packet true ∷ [];
    })

abbrev pub opened_under : Wish → Verdict
opened_under wish =
    cause wish (ascending_targets wish 2 false NotPresent Required (1 ∷ []) ∷ ascending_targets wish 1 true Switch Switch [] ∷ []) 2

-- the better target has the greater spatial id, or the same spatial and the greater temporal id
abbrev pub GreaterLayersFirst : Type 0
GreaterLayersFirst = opened_under (layers_wish 1 0) ∷ opened_under (layers_wish 0 1) ∷ [] ≡ Passed ∷ Passed ∷ []
