-- Histories of layered tracks: packets that arrive or are lost, and the resulting causes and forwarded packets. The packets are read with the
-- format of `LayeredFormat`. The results were worked out by hand, and are checked by computation. Items and histories have the newest first.
use Rattle.std.specs.Prelude.{◌≡◌, ℕ, List, [], ◌∷◌, Bool, true, false, map}
use Rattle.std.specs.declared.option.Option.TheVariants.{None, Some}
use Rattle.sfu_base.specs.declared.frame.Verdict.{Verdict}
use Rattle.sfu_base.specs.declared.frame.Verdict.TheVariants.{Passed, NotOfTarget, Behind, Reference, Link, Unopened, Hole}
use Rattle.forwarding_model.specs.forwarding.Timeline.{Event, Packet}
use Rattle.forwarding_model.specs.frames.Frames.{Item}
use Rattle.forwarding_model.specs.frames.Frames.Item.{Missing, Arrived}
use Rattle.forwarding_model.specs.forwarding.Causes.{cause}
use Rattle.forwarding_model.specs.forwarding.Outgoing.{Subscriber, outgoing, send_marked}
use Rattle.forwarding_model.specs.History.{Entry, timeline}
use Rattle.forwarding_model.specs.History.Entry.{Released, Joined, Aimed}
use Rattle.forwarding_examples.specs.LayeredFormat.{layered_format}

-- a packet that is a whole frame: marker, frame number, carried structure or 0, mask plus one or 0, template, own distances
abbrev pub frame_of : Bool → (number carried mask template : ℕ) → List ℕ → Item
frame_of marker number carried mask template own =
    Arrived (record { sequence_number = 0; ssrc = 1; marker = marker; rest = 1 ∷ 1 ∷ number ∷ carried ∷ mask ∷ 0 ∷ 0 ∷ template ∷ own })

abbrev pub subscriber : Subscriber
subscriber = record { ssrc = 2; first = 10; wish = record { spatial = 1; temporal = 0 } }

abbrev pub late_subscriber : Subscriber
late_subscriber = record { ssrc = 3; first = 0; wish = record { spatial = 0; temporal = 0 } }

-- the history of a subscriber that joined before all of these items, with one call for each item
abbrev pub released : List Item → List Entry
released [] = Joined 1 subscriber ∷ []
released (item ∷ past) = Released (item ∷ []) ∷ released past

abbrev pub happened : List Item → List (Event ℕ)
happened items = timeline layered_format send_marked 1 (released items)

abbrev pub causes_in : List (Event ℕ) → List ℕ → List Verdict
causes_in events numbers = map (cause subscriber.wish events) numbers

-- the number and the marker of each forwarded packet
abbrev pub Summary : Type 0
Summary = List (ℕ × Bool)

abbrev pub summary : List (Event ℕ) → Summary
summary events = map (λ (p : Packet). (p.sequence_number, p.marker)) (outgoing send_marked subscriber events)

-- ---- a broken chain: frame 2 is lost, and frame 3, which refers to frame 1 by a distance of its own, has a chain link to frame 2

abbrev pub broken_chain : List (Event ℕ)
broken_chain = happened (frame_of true 5 2 0 0 [] ∷ frame_of true 4 0 0 1 [] ∷ frame_of true 3 0 0 1 (2 ∷ []) ∷ Missing ∷ frame_of true 1 2 0 0 [] ∷ [])

abbrev pub BrokenChain : Type 0
BrokenChain = causes_in broken_chain (1 ∷ 2 ∷ 3 ∷ 4 ∷ 5 ∷ []) ≡ Passed ∷ Hole (Some 1) 3 ∷ Link 3 2 ∷ Reference 3 ∷ Passed ∷ []

abbrev pub BrokenChainSent : Type 0
BrokenChainSent = summary broken_chain ≡ (10, true) ∷ (11, true) ∷ []

-- ---- the upper layer, frame 2, is lost: frame 3 opens the lower target, and ends the picture for the subscriber

abbrev pub upper_lost : List (Event ℕ)
upper_lost =
    happened
    (frame_of true 6 0 0 2 [] ∷ frame_of false 5 1 0 0 [] ∷ frame_of true 4 0 0 3 [] ∷ frame_of false 3 0 0 1 [] ∷ Missing ∷ frame_of false 1 1 0 0 [] ∷ [])

abbrev pub UpperLost : Type 0
UpperLost = causes_in upper_lost (3 ∷ 4 ∷ 5 ∷ 6 ∷ []) ≡ Passed ∷ NotOfTarget (Some 1) ∷ Passed ∷ Passed ∷ []

abbrev pub UpperLostSent : Type 0
UpperLostSent = summary upper_lost ≡ (10, false) ∷ (11, true) ∷ (12, false) ∷ (13, true) ∷ []

-- ---- the mask of frame 3 lacks the upper target, so frame 3 ends the picture; no frame has the number 4

abbrev pub MaskSent : Type 0
MaskSent =
    summary (happened (frame_of false 5 0 0 1 [] ∷ frame_of false 3 0 3 1 [] ∷ frame_of true 2 0 0 2 [] ∷ frame_of false 1 1 0 0 [] ∷ []))
    ≡ (10, false) ∷ (11, true) ∷ (12, true) ∷ (13, true) ∷ []

-- ---- the wish is lowered after frame 2 and raised after frame 4; frame 6 refers to frame 5 alone, by a distance of its own, and opens the
-- upper target; by its template it would refer to frame 4 too, which wasn't passed, and be of the lower target, in which it isn't present

abbrev pub wished : Item → List Entry
wished last =
    Released (last ∷ [])
    ∷ Released (frame_of false 5 0 0 1 [] ∷ [])
    ∷ Aimed 1 (record { spatial = 1; temporal = 0 })
    ∷ Released (frame_of true 4 0 0 3 [] ∷ [])
    ∷ Released (frame_of false 3 0 0 1 [] ∷ [])
    ∷ Aimed 1 (record { spatial = 0; temporal = 0 })
    ∷ Released (frame_of true 2 0 0 2 [] ∷ [])
    ∷ Released (frame_of false 1 1 0 0 [] ∷ [])
    ∷ Joined 1 subscriber
    ∷ []

abbrev pub WishedCauses : Type 0
WishedCauses =
    causes_in (timeline layered_format send_marked 1 (wished (frame_of true 6 0 0 3 (1 ∷ [])))) (1 ∷ 2 ∷ 3 ∷ 4 ∷ 5 ∷ 6 ∷ [])
    ≡ Passed ∷ Passed ∷ Passed ∷ NotOfTarget (Some 1) ∷ Passed ∷ Passed ∷ []

abbrev pub WishedSent : Type 0
WishedSent =
    summary (timeline layered_format send_marked 1 (wished (frame_of true 6 0 0 3 (1 ∷ []))))
    ≡ (10, false) ∷ (11, true) ∷ (12, true) ∷ (13, true) ∷ (14, true) ∷ []

abbrev pub WishedUnmet : Type 0
WishedUnmet = causes_in (timeline layered_format send_marked 1 (wished (frame_of true 6 0 0 3 []))) (6 ∷ []) ≡ NotOfTarget (Some 1) ∷ []

-- ---- a packet isn't read if its structure lacks the template, or if its mask is too wide for the structure

abbrev pub OtherTemplate : Type 0
OtherTemplate =
    causes_in (happened (frame_of true 4 0 0 1 [] ∷ frame_of true 3 0 3 1 [] ∷ frame_of true 2 0 0 2 [] ∷ frame_of true 1 2 0 0 [] ∷ [])) (2 ∷ 3 ∷ 4 ∷ [])
    ≡ Hole (Some 1) 4 ∷ Hole (Some 1) 4 ∷ Reference 3 ∷ []

-- ---- a key frame carries another structure: its one target is of the lower layer, so its frames end the picture

abbrev pub NewStructureSent : Type 0
NewStructureSent =
    summary (happened (frame_of false 3 0 0 1 [] ∷ frame_of false 2 2 0 0 [] ∷ frame_of false 1 1 0 0 [] ∷ []))
    ≡ (10, false) ∷ (11, true) ∷ (12, true) ∷ []

-- ---- subscriber 2 joins after key frame 1; frame 2, without references, opens nothing for it; key frame 3 begins another epoch, before
-- which frame 4 refers by a distance of its own

abbrev pub late_join : List Entry
late_join =
    Released (frame_of true 4 0 0 1 (2 ∷ []) ∷ [])
    ∷ Released (frame_of true 3 2 0 0 [] ∷ [])
    ∷ Released (frame_of true 2 0 0 0 [] ∷ [])
    ∷ Joined 2 late_subscriber
    ∷ Released (frame_of true 1 2 0 0 [] ∷ [])
    ∷ Joined 1 subscriber
    ∷ []

abbrev pub LateJoinCausesOfTwo : Type 0
LateJoinCausesOfTwo = map (cause late_subscriber.wish (timeline layered_format send_marked 2 late_join)) (1 ∷ 2 ∷ []) ≡ Hole None 2 ∷ Unopened 2 ∷ []

abbrev pub LateJoinCausesOfOne : Type 0
LateJoinCausesOfOne = causes_in (timeline layered_format send_marked 1 late_join) (4 ∷ []) ≡ Behind 2 3 ∷ []
