-- The packets that the sessions of subscribers sent, by the calls of their seats. Own statement.
use Rattle.std.specs.Prelude.{◌≡◌, ℕ, List, ◌++◌, Option, Some}
use Rattle.sfu_base.specs.Links.{Traffic}
use Rattle.sfu_base.specs.declared.call.Call.{Call}
use Rattle.turn_lock.specs.declared.history.Entry.{Entry}
use Rattle.turn_lock.specs.Known.{Known}
use Rattle.session_steps.specs.Deeds.{sent_of}
use Rattle.sfu_serve.specs.declared.ends.SessionEnd.{SessionEnd}
use Rattle.rtx_stream.specs.declared.retransmission.Rtx.{Rtx}
use Rattle.session_steps.specs.Sessions.{subscriber_deed, rtx_deed}
use Rattle.sfu_serve.specs.Parts.{Keeps, words_behind, words_of}
use Rattle.sfu_serve.specs.Runs.{IsSession}
use Rattle.sfu_serve.specs.Packets.{AreSent, datagrams_given, packets_given, unsent, unsent_datagram}

-- The session sent, in order, the packets that the takes and resends of its seat returned
-- in the history. If the last send failed, the packet of that send isn't among them.
abbrev pub SubscribersSendWhatTheyWereGiven : Type 0
SubscribersSendWhatTheyWereGiven = (subscriber ssrc limit number found : ℕ) (history : List (Entry Call)) (traffic traffic' : Option Traffic)
    (before after : ℕ) (end : SessionEnd)
    → (s : IsSession (subscriber_deed subscriber ssrc limit) limit number found history traffic traffic' before after end)
    → packets_given (words_of number history) ≡ sent_of s.steps ++ unsent s.rest

-- With a retransmission stream: the session sent each packet of a take unchanged. It sent the packet of the
-- i-th resend that returned one, counted from 0, as a retransmission with the number i modulo 65,536 on
-- that stream. All were sent in order. If the last send failed, the datagram of that send isn't among them.
abbrev pub RtxSessionsSendWhatTheyWereGiven : Type 0
RtxSessionsSendWhatTheyWereGiven = (subscriber ssrc : ℕ) (rtx : Rtx) (limit number found : ℕ) (history : List (Entry Call))
    (traffic traffic' : Option Traffic) (before after : ℕ) (end : SessionEnd)
    → (s : IsSession (rtx_deed subscriber ssrc rtx limit) limit number found history traffic traffic' before after end)
    → AreSent (sent_of s.steps) (datagrams_given (Some rtx) 0 (words_of number history)) (unsent_datagram s.rest)

-- The same by what a session leaves in its seat and link (`Keeps`), whatever the seat did before. `added` are the entries
-- that the seat has seen since the session began. The session sent each packet that a take returned in these entries
-- unchanged. It sent the packet of the i-th resend that returned one, counted from 0, as a retransmission with the number
-- i modulo 65,536. All were sent in order. If the last send failed, the datagram of that send isn't among them.
abbrev pub SendsWhatItWasGiven : (Call → Type 0) → ℕ → ℕ → Rtx → ℕ → Known Call → Known Call → Option Traffic → Option Traffic → ℕ → ℕ → SessionEnd → Type 0
SendsWhatItWasGiven MayStarve subscriber ssrc rtx limit old new traffic traffic' before after end =
    (k : Keeps MayStarve (rtx_deed subscriber ssrc rtx limit) limit old new traffic traffic' before after end) (added : List (Entry Call))
    → new.seen ≡ old.seen ++ added
    → AreSent (sent_of k.done.steps) (datagrams_given (Some rtx) 0 (words_behind new.number old.seen added)) (unsent_datagram k.rest)

-- This is true of each such session, whichever calls may run out of memory.
abbrev pub RtxSeatsSendWhatTheyWereGiven : (Call → Type 0) → Type 0
RtxSeatsSendWhatTheyWereGiven MayStarve = (subscriber ssrc : ℕ) (rtx : Rtx) (limit : ℕ) (old new : Known Call) (traffic traffic' : Option Traffic)
    (before after : ℕ) (end : SessionEnd) → SendsWhatItWasGiven MayStarve subscriber ssrc rtx limit old new traffic traffic' before after end
