-- The packets that calls returned. Own rule.
use Rattle.std.specs.Prelude.{◌≡◌, ℕ, ◌+◌, ◌%◌, List, [], ◌∷◌, ◌++◌, Option}
use Rattle.sfu_base.specs.Answer.{Answer, Sent}
use Rattle.sfu_base.specs.declared.call.Call.{Call}
use Rattle.sfu_base.specs.declared.call.Call.TheVariants.{Take, Resend}
use Rattle.session_steps.specs.Deeds.{Post, Word}
use Rattle.rtx_stream.specs.declared.retransmission.Rtx.{Rtx}
use Rattle.session_steps.specs.Datagrams.{Datagram, Bytes, IsOne}
use Rattle.session_steps.specs.Sessions.{Doing, resent}

-- the packet in an answer, if the answer is a packet
abbrev pub packet_of : Answer → List (List ℕ)
packet_of (Sent bytes) = bytes ∷ []
packet_of answer = []

-- the packet that a take or a resend returned, if it returned one
abbrev pub packet_given : Call → Answer → List (List ℕ)
packet_given (Take subscriber) answer = packet_of answer
packet_given (Resend subscriber seq) answer = packet_of answer
packet_given call answer = []

-- the packets that takes and resends returned, in order
abbrev pub packets_given : List (Word Call Answer) → List (List ℕ)
packets_given [] = []
packets_given (word ∷ words) = packet_given word.call word.answer ++ packets_given words

-- the next packet to send, if there is one
abbrev pub unsent : Doing → List (List ℕ)
unsent (Post (Bytes bytes) next) = bytes ∷ []
unsent rest = []

-- ---- the same as datagrams, if retransmissions are sent on their own stream

-- the datagram of the packet that a take or a resend returned, if it returned one; `before` resends returned a packet earlier
abbrev pub datagram_given : Option Rtx → ℕ → Call → Answer → List Datagram
datagram_given way before (Take subscriber) (Sent bytes) = Bytes bytes ∷ []
datagram_given way before (Resend subscriber seq) (Sent bytes) = resent way (before % 65536) bytes ∷ []
datagram_given way before call answer = []

-- the number of resends that have returned a packet, including this call
abbrev pub resent_then : ℕ → Call → Answer → ℕ
resent_then before (Resend subscriber seq) (Sent bytes) = before + 1
resent_then before call answer = before

-- the datagrams of the packets that takes and resends returned, in order
abbrev pub datagrams_given : Option Rtx → ℕ → List (Word Call Answer) → List Datagram
datagrams_given way before [] = []
datagrams_given way before (word ∷ words) =
    datagram_given way before word.call word.answer ++ datagrams_given way (resent_then before word.call word.answer) words

-- the next datagram to send, if there is one
abbrev pub unsent_datagram : Doing → List Datagram
unsent_datagram (Post what next) = what ∷ []
unsent_datagram rest = []

-- these bytes are those of the first datagrams, in order; the other datagrams remain
abbrev pub AreSent : List (List ℕ) → List Datagram → List Datagram → Type 0
AreSent [] datagrams left = datagrams ≡ left
AreSent (bytes ∷ sent) [] left = ⊥
AreSent (bytes ∷ sent) (what ∷ datagrams) left = IsOne what bytes × AreSent sent datagrams left
