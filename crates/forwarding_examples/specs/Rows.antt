-- Small timelines whose verdicts and outgoing packets were worked out by hand. They are checked by computation. Structure A has one decode
-- target and one chain; each of its frames, except for key frames, refers to the frame before it. B is A, except that its frames aren't
-- switches. C has two targets: target 0 has layers (1, 0) and chain 1, target 1 has layers (0, 0) and chain 0.
use Rattle.std.specs.Prelude.{◌≡◌, ℕ, List, [], ◌∷◌, ◌++◌, Bool, true, false, map, length, replicate}
use Rattle.std.specs.declared.option.Option.TheVariants.{None, Some}
use Rattle.sfu_base.specs.declared.frame.Dti.{Dti}
use Rattle.sfu_base.specs.declared.frame.Dti.TheVariants.{NotPresent, Switch, Required}
use Rattle.sfu_base.specs.declared.frame.Wish.{Wish}
use Rattle.sfu_base.specs.declared.frame.Verdict.TheVariants.{Passed, NotOfTarget, Behind, Reference, Full, Link, Unopened, Hole}
use Rattle.forwarding_model.specs.forwarding.Timeline.{Event, Packet}
use Rattle.forwarding_model.specs.forwarding.Timeline.Event.{WholeFrame, PlainPacket, WishChange, Take}
use Rattle.forwarding_model.specs.forwarding.Causes.{cause, is_ahead, is_too_old}
use Rattle.forwarding_model.specs.forwarding.Outgoing.{Subscriber, outgoing, resent, send_marked}

abbrev pub layers_wish : ℕ → ℕ → Wish
layers_wish spatial temporal = record { spatial = spatial; temporal = temporal }

abbrev pub packet : Bool → Packet
packet marker = record { sequence_number = 0; ssrc = 1; marker = marker; rest = [] }

-- a frame with structure A or B; the structure itself isn't used, so a number takes its place
abbrev pub one_target : (number start epoch : ℕ) → Bool → Dti → (link : ℕ) → List ℕ → List Packet → Event ℕ
one_target number start epoch key dti link refs packets =
    WholeFrame (record {
      meaning = record {
        number = number;
        start = start;
        epoch = epoch;
        spatial = 0;
        temporal = 0;
        key = key;
        mask = 1;
        target_count = 1;
        dtis = dti ∷ [];
        pairs = Some (layers_wish 0 0) ∷ [];
        chain_count = 1;
        guards = 0 ∷ [];
        links = link ∷ [];
        ref_count = length refs;
        refs = refs;
      };
      structure = 0;
      packets = packets;
    })

abbrev pub key_a : (number epoch : ℕ) → Event ℕ
key_a number epoch = one_target number number epoch true Switch 0 [] (packet true ∷ [])

-- a frame with structure C
abbrev pub two_targets : (number start epoch : ℕ) → Bool → (mask spatial : ℕ) → (upper lower : Dti) → (link_lower link_upper : ℕ) → List ℕ → Bool → Event ℕ
two_targets number start epoch key mask spatial upper lower link_lower link_upper refs marker =
    WholeFrame (record {
      meaning = record {
        number = number;
        start = start;
        epoch = epoch;
        spatial = spatial;
        temporal = 0;
        key = key;
        mask = mask;
        target_count = 2;
        dtis = upper ∷ lower ∷ [];
        pairs = Some (layers_wish 1 0) ∷ Some (layers_wish 0 0) ∷ [];
        chain_count = 2;
        guards = 1 ∷ 0 ∷ [];
        links = link_lower ∷ link_upper ∷ [];
        ref_count = length refs;
        refs = refs;
      };
      structure = 0;
      packets = packet marker ∷ [];
    })

abbrev pub key_c : (number epoch : ℕ) → Event ℕ
key_c number epoch = two_targets number number epoch true 3 0 Required Switch 0 0 [] false

-- A frame of the lower layer refers two frames back. A frame of the upper layer refers to it alone, or also to the upper layer two frames before.
abbrev pub lower_c : (number start epoch mask : ℕ) → Event ℕ
lower_c number start epoch mask = two_targets number start epoch false mask 0 Required Switch 2 1 (2 ∷ []) false

abbrev pub upper_c : (number start epoch : ℕ) → List ℕ → Event ℕ
upper_c number start epoch refs = two_targets number start epoch false 3 1 Switch NotPresent 1 1 refs true

abbrev pub sequence_numbers : List Packet → List ℕ
sequence_numbers packets = map (λ p. p.sequence_number) packets

abbrev pub markers : List Packet → List Bool
markers packets = map (λ p. p.marker) packets

abbrev pub joined_at_10 : Subscriber
joined_at_10 = record { ssrc = 2; first = 10; wish = layers_wish 1 0 }

-- ---- a broken chain: frame 2 is lost, so frame 3 closes the target, and the next key frame opens it

abbrev pub broken_chain : List (Event ℕ)
broken_chain =
    key_a 5 2
    ∷ one_target 4 1 1 false Required 1 (1 ∷ []) (packet true ∷ [])
    ∷ one_target 3 1 1 false Required 1 (2 ∷ []) (packet true ∷ [])
    ∷ key_a 1 1
    ∷ []

abbrev pub BrokenChainCauses : Type 0
BrokenChainCauses = map (cause (layers_wish 1 0) broken_chain) (1 ∷ 2 ∷ 3 ∷ 4 ∷ 5 ∷ []) ≡ Passed ∷ Hole (Some 1) 3 ∷ Link 3 2 ∷ Reference 3 ∷ Passed ∷ []

abbrev pub BrokenChainNumbers : Type 0
BrokenChainNumbers = sequence_numbers (outgoing send_marked joined_at_10 broken_chain) ≡ 10 ∷ 11 ∷ []

-- frame 3 has a broken link and lacks its reference; frame 4 has no link, and all its references passed, but it isn't a restart
abbrev pub broken_link : List (Event ℕ)
broken_link =
    one_target 4 1 1 false Required 0 (3 ∷ []) (packet true ∷ [])
    ∷ one_target 3 1 1 false Required 1 (1 ∷ []) (packet true ∷ [])
    ∷ key_a 1 1
    ∷ []

abbrev pub BrokenLinkCauses : Type 0
BrokenLinkCauses = map (cause (layers_wish 1 0) broken_link) (3 ∷ 4 ∷ []) ≡ Reference 2 ∷ Link 3 2 ∷ []

-- the same frame passes if there was no broken link before it
abbrev pub UnlinkedCause : Type 0
UnlinkedCause = cause (layers_wish 1 0) (one_target 4 1 1 false Required 0 (3 ∷ []) (packet true ∷ []) ∷ key_a 1 1 ∷ []) 4 ≡ Passed

-- a link to a frame before the one that opened the target closes nothing
abbrev pub EarlyLinkCauses : Type 0
EarlyLinkCauses =
    map
    (cause (layers_wish 1 0) (one_target 4 2 1 false Required 2 (1 ∷ []) (packet true ∷ [])
    ∷ one_target 3 2 1 false Required 2 (1 ∷ []) (packet true ∷ []) ∷ key_a 2 1 ∷ []))
    (3 ∷ 4 ∷ [])
    ≡ Passed ∷ Passed ∷ []

-- ---- the upper layer is lost: frame 3 opens the lower target, and ends the picture for the subscriber

abbrev pub upper_lost : List (Event ℕ)
upper_lost =
    upper_c 6 5 2 (1 ∷ [])
    ∷ key_c 5 2
    ∷ upper_c 4 1 1 (1 ∷ 2 ∷ [])
    ∷ lower_c 3 1 1 3
    ∷ key_c 1 1
    ∷ []

abbrev pub UpperLostCauses : Type 0
UpperLostCauses = map (cause (layers_wish 1 0) upper_lost) (3 ∷ 4 ∷ 5 ∷ 6 ∷ []) ≡ Passed ∷ NotOfTarget (Some 1) ∷ Passed ∷ Passed ∷ []

abbrev pub UpperLostMarkers : Type 0
UpperLostMarkers = markers (outgoing send_marked joined_at_10 upper_lost) ≡ false ∷ true ∷ false ∷ true ∷ []

-- ---- a frame of three packets of the target's layer ends the picture with its last packet; markers that are set stay set

abbrev pub three_packets : List Packet → List (Event ℕ)
three_packets packets = one_target 2 1 1 false Switch 1 (1 ∷ []) packets ∷ key_a 1 1 ∷ []

abbrev pub ThreePacketMarkers : Type 0
ThreePacketMarkers =
    markers (outgoing send_marked joined_at_10 (three_packets (packet false ∷ packet false ∷ packet false ∷ []))) ≡ true ∷ false ∷ false ∷ true ∷ []

abbrev pub KeptMarkers : Type 0
KeptMarkers =
    markers (outgoing send_marked joined_at_10 (three_packets (packet true ∷ packet false ∷ packet true ∷ []))) ≡ true ∷ true ∷ false ∷ true ∷ []

-- ---- the mask of frame 3 lacks the upper target, so frame 3 ends the picture

abbrev pub masked_upper : List (Event ℕ)
masked_upper =
    lower_c 5 1 1 2
    ∷ lower_c 3 1 1 2
    ∷ upper_c 2 1 1 (1 ∷ [])
    ∷ key_c 1 1
    ∷ []

abbrev pub MaskMarkers : Type 0
MaskMarkers = markers (outgoing send_marked joined_at_10 masked_upper) ≡ false ∷ true ∷ true ∷ true ∷ []

-- ---- the mask of frame 2 lacks the only target; the mask of frame 3 has it again, but frame 3 isn't a switch and opens nothing

abbrev pub masked : (number mask : ℕ) → Dti → Event ℕ
masked number mask dti =
    WholeFrame (record {
      meaning = record {
        number = number;
        start = 1;
        epoch = 1;
        spatial = 0;
        temporal = 0;
        key = false;
        mask = mask;
        target_count = 1;
        dtis = dti ∷ [];
        pairs = Some (layers_wish 0 0) ∷ [];
        chain_count = 1;
        guards = 0 ∷ [];
        links = 0 ∷ [];
        ref_count = 0;
        refs = [];
      };
      structure = 0;
      packets = packet true ∷ [];
    })

abbrev pub MaskedCauses : Type 0
MaskedCauses =
    map (cause (layers_wish 1 0) (masked 5 1 Required ∷ masked 4 1 Switch ∷ masked 3 1 Required ∷ masked 2 0 Switch ∷ key_a 1 1 ∷ [])) (2 ∷ 3 ∷ 4 ∷ 5 ∷ [])
    ≡ NotOfTarget None ∷ Unopened 2 ∷ Passed ∷ Passed ∷ []

-- ---- an intact upper target stays open although frame 3 could open the lower one, so frame 3 doesn't end the picture

abbrev pub intact_upper : List (Event ℕ)
intact_upper = lower_c 3 1 1 3 ∷ upper_c 2 1 1 (1 ∷ []) ∷ key_c 1 1 ∷ []

abbrev pub IntactUpperMarkers : Type 0
IntactUpperMarkers = markers (outgoing send_marked joined_at_10 intact_upper) ≡ false ∷ true ∷ false ∷ []

-- ---- a lowered wish alone closes nothing: frame 3 opens no lower target, and passes in the upper one

abbrev pub LoweredWishCause : Type 0
LoweredWishCause =
    cause (layers_wish 1 0) (upper_c 3 1 1 (1 ∷ []) ∷ WishChange (layers_wish 0 0) ∷ upper_c 2 1 1 (1 ∷ []) ∷ key_c 1 1 ∷ []) 3 ≡ Passed

-- ---- the wish goes down before frame 3, and up before frame 5; frame 6 opens the upper target again only if its references passed

abbrev pub wishes : List ℕ → List (Event ℕ)
wishes last_refs =
    upper_c 6 1 1 last_refs
    ∷ lower_c 5 1 1 3
    ∷ WishChange (layers_wish 1 0)
    ∷ upper_c 4 1 1 (1 ∷ 2 ∷ [])
    ∷ lower_c 3 1 1 3
    ∷ WishChange (layers_wish 0 0)
    ∷ upper_c 2 1 1 (1 ∷ [])
    ∷ key_c 1 1
    ∷ []

abbrev pub WishCauses : Type 0
WishCauses = map (cause (layers_wish 1 0) (wishes (1 ∷ []))) (1 ∷ 2 ∷ 3 ∷ 4 ∷ 5 ∷ 6 ∷ []) ≡ Passed ∷ Passed ∷ Passed ∷ NotOfTarget (Some 1) ∷ Passed
    ∷ Passed ∷ []

-- frames 3 and 5 are forwarded with the marker
abbrev pub WishMarkers : Type 0
WishMarkers = markers (outgoing send_marked joined_at_10 (wishes (1 ∷ []))) ≡ false ∷ true ∷ true ∷ true ∷ true ∷ []

-- frame 4 arrived and didn't pass
abbrev pub WishCauseUnpassed : Type 0
WishCauseUnpassed = cause (layers_wish 1 0) (wishes (1 ∷ 2 ∷ [])) 6 ≡ NotOfTarget (Some 1)

-- ---- a full queue: 511 packets are queued when a frame of two comes

abbrev pub full_queue : List (Event ℕ) → List (Event ℕ)
full_queue takes =
    one_target 513 1 1 false Switch 1 (1 ∷ []) (packet true ∷ [])
    ∷ one_target 512 1 1 false Switch 1 (1 ∷ []) (packet false ∷ packet true ∷ [])
    ∷ takes
    ++ one_target 511 1 1 false Switch 0 [] (replicate 510 (packet true))
    ∷ key_a 1 1
    ∷ []

abbrev pub FullCauses : Type 0
FullCauses = map (cause (layers_wish 1 0) (full_queue [])) (512 ∷ 513 ∷ []) ≡ Full 511 2 ∷ Reference 512 ∷ []

-- a subscriber that took one packet
abbrev pub FullTakenCauses : Type 0
FullTakenCauses = map (cause (layers_wish 1 0) (full_queue (Take ∷ []))) (512 ∷ 513 ∷ []) ≡ Passed ∷ Full 512 1 ∷ []

-- ---- the verdicts behind and unopened: frame 4 refers to frame 2, which is before key frame 3; and a subscriber that joined after frame 1

abbrev pub behind : List (Event ℕ)
behind =
    one_target 4 3 2 false Switch 1 (2 ∷ []) (packet true ∷ [])
    ∷ key_a 3 2
    ∷ one_target 2 1 1 false Switch 0 [] (packet true ∷ [])
    ∷ []

abbrev pub LateJoinCauses : Type 0
LateJoinCauses = map (cause (layers_wish 0 0) behind) (1 ∷ 2 ∷ 3 ∷ []) ≡ Hole None 2 ∷ Unopened 2 ∷ Passed ∷ []

abbrev pub BehindCause : Type 0
BehindCause = cause (layers_wish 1 0) (behind ++ key_a 1 1 ∷ []) 4 ≡ Behind 2 3

-- ---- a missing packet was given up: frame 2 was torn, so frame 3 lacks its reference

abbrev pub torn : List (Event ℕ)
torn = one_target 3 1 1 false Switch 1 (1 ∷ []) (packet true ∷ []) ∷ key_a 1 1 ∷ []

abbrev pub HoldCauses : Type 0
HoldCauses = map (cause (layers_wish 1 0) torn) (1 ∷ 2 ∷ 3 ∷ []) ≡ Passed ∷ Hole (Some 1) 3 ∷ Reference 2 ∷ []

-- ---- a plain track: two packets, each taken right after it was queued; the second is retransmitted

abbrev pub plain_taken : List (Event ℕ)
plain_taken = Take ∷ PlainPacket (packet true) ∷ Take ∷ PlainPacket (packet false) ∷ []

abbrev pub PlainResend : Type 0
PlainResend = resent send_marked joined_at_10 plain_taken 11 ≡ Some (record { sequence_number = 11; ssrc = 2; marker = true; rest = [] })

-- ---- which causes are known, and the frame below a hole: a number is too old if it is 4,096 or more below the newest

abbrev pub AskedNumbers : Type 0
AskedNumbers =
    is_ahead None 0 ∷ is_ahead (Some 5) 5 ∷ is_ahead (Some 5) 6 ∷ is_too_old (Some 4095) 0 ∷ is_too_old (Some 4096) 0 ∷ is_too_old (Some 4097) 2 ∷ []
    ≡ true ∷ false ∷ true ∷ false ∷ true ∷ false ∷ []

abbrev pub HoleBounds : Type 0
HoleBounds =
    cause (layers_wish 1 0) (one_target 4096 1 1 false Switch 0 [] (packet true ∷ []) ∷ key_a 1 1 ∷ []) 2
    ∷ cause (layers_wish 1 0) (one_target 4097 1 1 false Switch 0 [] (packet true ∷ []) ∷ key_a 1 1 ∷ []) 2
    ∷ []
    ≡ Hole (Some 1) 4096 ∷ Hole None 4097 ∷ []
