-- The rule of each session, turn by turn: a tree of receives, calls and sends. Own rule. Each definition takes what follows it as an argument.
use Rattle.std.specs.Prelude.{ℕ, zero, suc, ◌+◌, ◌%◌, nat_le, ◌==◌, ◌&&◌, Bool, true, false, if◌then◌else◌, List, [], ◌∷◌, Option, None, Some}
use Rattle.sfu_base.specs.Answer.{Answer, Sent, Named, KeyIs}
use Rattle.sfu_base.specs.declared.call.Call.{Call}
use Rattle.sfu_base.specs.declared.call.Call.TheVariants.{Packet, Tick, Take, Resend, Missing, KeyWanted, Plead}
use Rattle.rtcp_feedback.specs.declared.feedback.Feedback.{Feedback}
use Rattle.rtcp_feedback.specs.declared.feedback.Feedback.TheVariants.{Nack, Pli}
use Rattle.rtx_stream.specs.declared.retransmission.Rtx.{Rtx}
use Rattle.session_steps.specs.Deeds.{Deed, Listen, Ask, Post, Over}
use Rattle.session_steps.specs.Datagrams.{Datagram, Bytes, NackFor, PliFor, Wrapped, is_rtcp, feedback_in, media_of, control_call, fault_line, text_for}

-- what a session has to do
abbrev pub Doing : Type 0
Doing = Deed Call Answer Datagram

-- ---- control: a line is a call, and the text of its answer is sent; the reply to any other datagram is `fault line`

abbrev pub answers : Option Call → Doing → Doing
answers None next = Post fault_line next
answers (Some call) next = Ask call (λ answer. Post (text_for answer) next)

abbrev pub controls : Option (List ℕ) → Doing → Doing
controls None next = next
controls (Some bytes) next = answers (control_call bytes) next

-- this many turns
abbrev pub control_deed : ℕ → Doing
control_deed zero = Over
control_deed (suc left) = Listen (λ got moment. controls got (control_deed left))

-- ---- subscriber: each item of feedback on its SSRC is a call; then packets are taken, until a take is refused or 32 were taken

-- if a packet was returned, it is sent and `more` follows; otherwise `next` follows
abbrev pub sends_on : Answer → Doing → Doing → Doing
sends_on (Sent bytes) more next = Post (Bytes bytes) more
sends_on answer more next = next

-- A retransmission: the packet as it was first sent or, with a retransmission stream, the packet wrapped with this number.
abbrev pub resent : Option Rtx → ℕ → List ℕ → Datagram
resent None number packet = Bytes packet
resent (Some rtx) number packet = Wrapped rtx number packet

-- A packet that was returned is sent again. What follows gets the number of the next retransmission.
abbrev pub resends : Option Rtx → ℕ → Answer → (ℕ → Doing) → Doing
resends way number (Sent bytes) next = Post (resent way number bytes) (next ((number + 1) % 65536))
resends way number answer next = next number

abbrev pub call_for : ℕ → Feedback → Call
call_for subscriber (Nack media seq) = Resend subscriber seq
call_for subscriber (Pli media) = Plead subscriber

-- an item with this SSRC as its media source is served; any other item is skipped
abbrev pub serves_one : ℕ → ℕ → Option Rtx → Feedback → ℕ → (ℕ → Doing) → Doing
serves_one subscriber ssrc way item number next =
    if media_of item == ssrc then Ask (call_for subscriber item) (λ answer. resends way number answer next) else next number

abbrev pub serves : ℕ → ℕ → Option Rtx → List Feedback → ℕ → (ℕ → Doing) → Doing
serves subscriber ssrc way [] number next = next number
serves subscriber ssrc way (item ∷ items) number next = serves_one subscriber ssrc way item number (λ later. serves subscriber ssrc way items later next)

-- the feedback of a received datagram is served
abbrev pub hears_feedback : ℕ → ℕ → Option Rtx → Option (List ℕ) → ℕ → (ℕ → Doing) → Doing
hears_feedback subscriber ssrc way None number next = next number
hears_feedback subscriber ssrc way (Some bytes) number next = serves subscriber ssrc way (feedback_in bytes) number next

-- at most this many takes
abbrev pub takes : ℕ → ℕ → Doing → Doing
takes subscriber zero next = next
takes subscriber (suc left) next = Ask (Take subscriber) (λ answer. sends_on answer (takes subscriber left next) next)

-- this many turns of a session of this subscriber with this SSRC; `number` is that of the next retransmission
abbrev pub outgoing_deed : ℕ → ℕ → Option Rtx → ℕ → ℕ → Doing
outgoing_deed subscriber ssrc way zero number = Over
outgoing_deed subscriber ssrc way (suc left) number =
    Listen (λ got moment. hears_feedback subscriber ssrc way got number (λ later. takes subscriber 32 (outgoing_deed subscriber ssrc way left later)))

-- a retransmission is the packet as it was first sent
abbrev pub subscriber_deed : ℕ → ℕ → ℕ → Doing
subscriber_deed subscriber ssrc limit = outgoing_deed subscriber ssrc None limit 0

-- retransmissions are sent on a separate stream, numbered from 0
abbrev pub rtx_deed : ℕ → ℕ → Rtx → ℕ → Doing
rtx_deed subscriber ssrc rtx limit = outgoing_deed subscriber ssrc (Some rtx) limit 0

-- ---- publisher: a packet if one came, a tick, and in some turns the calls about missing packets and about a key frame

abbrev pub brings : ℕ → ℕ → Option (List ℕ) → Doing → Doing
brings track moment None next = next
brings track moment (Some bytes) next = if is_rtcp bytes then next else Ask (Packet track moment bytes) (λ answer. next)

-- one NACK for all the numbers, if there are any
abbrev pub nacks : ℕ → Answer → Doing → Doing
nacks ssrc (Named (name ∷ names)) next = Post (NackFor ssrc (name ∷ names)) next
nacks ssrc answer next = next

-- the moment is at least `apart` milliseconds after the last one, or there was no last one
abbrev pub is_due : ℕ → ℕ → Option ℕ → Bool
is_due apart moment None = true
is_due apart moment (Some last) = nat_le (last + apart) moment

abbrev pub wants_key : Answer → Bool
wants_key (KeyIs wanted) = wanted
wants_key answer = false

-- A PLI, if a key frame is wanted and no PLI was sent in the last
-- 500 milliseconds. What follows gets the moment of the last PLI.
abbrev pub pleads : ℕ → ℕ → Option ℕ → Answer → (Option ℕ → Doing) → Doing
pleads ssrc moment pleaded answer next =
    if wants_key answer && is_due 500 moment pleaded then Post (PliFor ssrc) (next (Some moment)) else next pleaded

-- A turn makes these calls if no turn made them in the last 20 milliseconds.
-- What follows gets the moments of the last calls and of the last PLI.
abbrev pub asks : ℕ → ℕ → ℕ → Option ℕ → Option ℕ → (Option ℕ → Option ℕ → Doing) → Doing
asks track ssrc moment asked pleaded next =
    if is_due 20 moment asked
    then Ask (Missing track) (λ names. nacks ssrc names (Ask (KeyWanted track) (λ key. pleads ssrc moment pleaded key (next (Some moment)))))
    else next asked pleaded

-- this many turns of a session on this track with this SSRC, with the moments of the last such calls and of the last PLI
abbrev pub publisher_deed : ℕ → ℕ → ℕ → Option ℕ → Option ℕ → Doing
publisher_deed track ssrc zero asked pleaded = Over
publisher_deed track ssrc (suc left) asked pleaded =
    Listen (λ got moment. brings track moment got (Ask (Tick track moment) (λ ticked.
    asks track ssrc moment asked pleaded (publisher_deed track ssrc left))))
