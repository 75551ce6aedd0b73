-- Sessions of subscribers send the packets that their takes and resends returned, in the form in which they are sent.
use Rattle.std.proofs.Common.{◌≡◌, ℕ, zero, suc, ◌+◌, ◌%◌, Bool, true, false, if◌then◌else◌, cond, ◌==◌, List, [], ◌∷◌, ◌++◌, refl, ap, sym, subst, ◌∙◌, append-nil, map, arith, Option}
use Rattle.std.proofs.lemmas.List.{map-append}
use Rattle.std.specs.Prelude.{None, Some}
use Rattle.sfu_base.specs.Answer.{Answer, Done, Sent, Named, Refused}
use Rattle.sfu_base.specs.Links.{Traffic}
use Rattle.sfu_base.specs.declared.call.Call.{Call}
use Rattle.sfu_base.specs.declared.call.Call.TheVariants as call
use Rattle.sfu_base.specs.declared.call.Refusal.TheVariants.{NoMemory}
use Rattle.turn_lock.specs.declared.history.Entry.{Entry}
use Rattle.rtcp_feedback.specs.declared.feedback.Feedback.{Feedback}
use Rattle.rtcp_feedback.specs.declared.feedback.Feedback.TheVariants.{Nack, Pli}
use Rattle.rtx_stream.specs.declared.retransmission.Rtx.{Rtx}
use Rattle.room_core.specs.History.{accepted}
use Rattle.room_core.specs.Live.{Published, published}
use Rattle.room_core.specs.Replies.{answer, of_track}
use Rattle.session_steps.specs.Deeds.{Step, Listen, Ask, Post, Over, Heard, Said, Posted, Word, Leads, said_of, sent_of}
use Rattle.sfu_serve.specs.Words.{words_from}
use Rattle.sfu_serve.specs.declared.ends.SessionEnd.{SessionEnd}
use Rattle.sfu_serve.specs.History.{entries_of}
use Rattle.session_steps.specs.Datagrams.{Datagram, Bytes, NackFor, PliFor, Wrapped, IsOne, feedback_in, media_of}
use Rattle.session_steps.specs.Sessions.{Doing, call_for, sends_on, resends, resent, serves, hears_feedback, takes, outgoing_deed, subscriber_deed}
use Rattle.turn_lock.specs.Known.{Known}
use Rattle.sfu_serve.specs.Parts.{Keeps, reply_after, words_behind, words_of}
use Rattle.sfu_serve.specs.Runs.{IsSession}
use Rattle.sfu_serve.specs.Packets.{AreSent, datagram_given, datagrams_given, packet_of, packet_given, packets_given, resent_then, unsent, unsent_datagram}
use Rattle.sfu_serve.proofs.Words.{words_since}
use Rattle.sfu_serve.proofs.Texts.{is_short, done_short, track_short, control_short}

-- ---- only takes and resends have packets as answers

short_none : (a : Answer) → is_short a ≡ true → packet_of a ≡ []
unfolding is_short
short_none (Sent bytes) short = absurd (cc short)
short_none a short = refl

named_none : (o : Option Published) (f : Published → List ℕ) → packet_of (of_track o (λ p. Named (f p))) ≡ []
named_none None f = refl
named_none (Some p) f = refl

given_only : (past : List Call) (said : Call) → packet_of (answer past said) ≡ packet_given said (answer past said)
given_only past (call.Take subscriber) = refl
given_only past (call.Resend subscriber seq) = refl
given_only past (call.Packet track moment bytes) = short_none (answer past (call.Packet track moment bytes)) (track_short (published track past) _ (λ p. done_short _))
given_only past (call.Tick track moment) = short_none (answer past (call.Tick track moment)) (track_short (published track past) (λ p. Done) (λ p. done_short None))
given_only past (call.Missing track) = named_none (published track past) _
given_only past (call.Publish track kind ssrc hold) = short_none _ (control_short past (call.Publish track kind ssrc hold) refl)
given_only past (call.Unpublish track) = short_none _ (control_short past (call.Unpublish track) refl)
given_only past (call.Join subscriber track ssrc first wish) = short_none _ (control_short past (call.Join subscriber track ssrc first wish) refl)
given_only past (call.Leave subscriber) = short_none _ (control_short past (call.Leave subscriber) refl)
given_only past (call.Aim subscriber wish) = short_none _ (control_short past (call.Aim subscriber wish) refl)
given_only past (call.KeyWanted track) = short_none _ (control_short past (call.KeyWanted track) refl)
given_only past (call.Plead subscriber) = short_none _ (control_short past (call.Plead subscriber) refl)
given_only past (call.Why subscriber number) = short_none _ (control_short past (call.Why subscriber number) refl)

none_starved : (said : Call) → [] ≡ packet_given said (Refused NoMemory)
none_starved (call.Take subscriber) = refl
none_starved (call.Resend subscriber seq) = refl
none_starved other = refl

answered_only : (starved : Bool) (history : List (Entry Call)) (said : Call)
    → packet_of (if starved then Refused NoMemory else reply_after history said) ≡ packet_given said (if starved then Refused NoMemory else reply_after history said)
answered_only true history said = none_starved said
answered_only false history said = given_only (accepted (entries_of history)) said

-- ---- a packet that was returned, in the form in which it is sent

given_on : Option Rtx → ℕ → Call → Answer → List Datagram
given_on way i (call.Take subscriber) (Sent bytes) = Bytes bytes ∷ []
given_on way i said (Sent bytes) = resent way (i % 65536) bytes ∷ []
given_on way i said answer = []

count_on : ℕ → Call → Answer → ℕ
count_on i (call.Take subscriber) answer = i
count_on i said (Sent bytes) = i + 1
count_on i said answer = i

all_given : Option Rtx → ℕ → List (Word Call Answer) → List Datagram
all_given way i [] = []
all_given way i (word ∷ words) = given_on way i word.call word.answer ++ all_given way (count_on i word.call word.answer) words

-- the two definitions agree on the room's answer
no_packet : (way : Option Rtx) (i : ℕ) (said : Call) (a : Answer) → packet_of a ≡ packet_given said a
    → (given_on way i said a ≡ datagram_given way i said a) × (count_on i said a ≡ resent_then i said a)
unfolding given_on count_on
no_packet way i (call.Take subscriber) (Sent bytes) e = (refl, refl)
no_packet way i (call.Take subscriber) a e = (refl, refl)
no_packet way i (call.Resend subscriber seq) (Sent bytes) e = (refl, refl)
no_packet way i (call.Resend subscriber seq) a e = (refl, refl)
no_packet way i said (Sent bytes) e = absurd (cc e)
no_packet way i said a e = (refl, refl)

words_only : (way : Option Rtx) (i : ℕ) (before : List (Entry Call)) (n : ℕ) (h : List (Entry Call))
    → all_given way i (words_from reply_after (Refused NoMemory) before n h) ≡ datagrams_given way i (words_from reply_after (Refused NoMemory) before n h)
unfolding all_given
words_only way i before n [] = refl
words_only way i before n (e ∷ h) =
    let w : Word Call Answer = record { call = e.call; answer = if e.starved then Refused NoMemory else reply_after before e.call } in
    if_word (e.seat == n) w (words_from reply_after (Refused NoMemory) (before ++ e ∷ []) n h) (answered_only e.starved before e.call) (λ j. words_only way j (before ++ e ∷ []) n h)
  where
    if_word : (b : Bool) (w : Word Call Answer) (ws : List (Word Call Answer)) → packet_of w.answer ≡ packet_given w.call w.answer → ((j : ℕ) → all_given way j ws ≡ datagrams_given way j ws)
        → all_given way i (cond b (w ∷ ws) ws) ≡ datagrams_given way i (cond b (w ∷ ws) ws)
    if_word true w ws here others =
        let same = no_packet way i w.call w.answer here in
        ap (λ (l : List Datagram). l ++ all_given way (count_on i w.call w.answer) ws) same.0
        ∙ ap (λ (l : List Datagram). datagram_given way i w.call w.answer ++ l) (ap (λ (j : ℕ). all_given way j ws) same.1 ∙ others (resent_then i w.call w.answer))
    if_word false w ws here others = others i

-- ---- each packet that is returned is sent next, and no other is

-- the deed first sends the packets that remain to be sent, after this number of resends returned packets
Owes : Option Rtx → ℕ → Doing → List Datagram → Type 0
Owes way i (Listen f) owed = (owed ≡ []) × ((got : Option (List ℕ)) (moment : ℕ) → Owes way i (f got moment) [])
Owes way i (Ask call f) owed = (owed ≡ []) × ((answer : Answer) → Owes way (count_on i call answer) (f answer) (given_on way i call answer))
Owes way i (Post what next) owed = (owed ≡ what ∷ []) × Owes way i next []
Owes way i Over owed = owed ≡ []

owes_now : (way : Option Rtx) (i : ℕ) (d : Doing) (owed : List Datagram) → Owes way i d owed → owed ≡ unsent_datagram d
unfolding Owes
owes_now way i (Listen f) owed o = o.0
owes_now way i (Ask call f) owed o = o.0
owes_now way i (Post what next) owed o = o.0
owes_now way i Over owed o = o

all_sent : (way : Option Rtx) (i : ℕ) (d : Doing) (ss : List (Step Call Answer)) (rest : Doing) (owed : List Datagram) → Leads IsOne d ss rest → Owes way i d owed
    → AreSent (sent_of ss) (owed ++ all_given way i (said_of ss)) (unsent_datagram rest)
unfolding Owes all_given
all_sent way i d [] rest owed p o = append-nil owed ∙ (owes_now way i d owed o ∙ ap unsent_datagram p)
all_sent way i (Listen f) (Heard got moment ∷ ss) rest owed p o =
    subst (λ (l : List Datagram). AreSent (sent_of ss) (l ++ all_given way i (said_of ss)) (unsent_datagram rest)) (sym o.0)
    (all_sent way i p.0 ss rest [] p.2 (subst (λ (e : Doing). Owes way i e []) p.1 (o.1 got moment)))
all_sent way i (Ask call f) (Said said answer ∷ ss) rest owed p o =
    let later : Owes way (count_on i call answer) p.0 (given_on way i call answer) = subst (λ (e : Doing). Owes way (count_on i call answer) e (given_on way i call answer)) p.1.1 (o.1 answer) in
    let now : Owes way (count_on i said answer) p.0 (given_on way i said answer) = subst (λ (c : Call). Owes way (count_on i c answer) p.0 (given_on way i c answer)) (sym p.1.0) later in
    subst (λ (l : List Datagram). AreSent (sent_of ss) (l ++ (given_on way i said answer ++ all_given way (count_on i said answer) (said_of ss))) (unsent_datagram rest)) (sym o.0)
    (all_sent way (count_on i said answer) p.0 ss rest (given_on way i said answer) p.2 now)
all_sent way i (Post what next) (Posted packet ∷ ss) rest owed p o =
    subst (λ (l : List Datagram). AreSent (packet ∷ sent_of ss) (l ++ all_given way i (said_of ss)) (unsent_datagram rest)) (sym o.0)
    (p.1.0, all_sent way i p.0 ss rest [] p.2 (subst (λ (e : Doing). Owes way i e []) p.1.1 o.1))
all_sent way i d (s ∷ ss) rest owed p o = absurd p.1

-- ---- this is true of sessions of subscribers

module _ (way : Option Rtx) where
  by_take : (i subscriber : ℕ) (answer : Answer) (more next : Doing) → Owes way i more [] → Owes way i next []
      → Owes way (count_on i (call.Take subscriber) answer) (sends_on answer more next) (given_on way i (call.Take subscriber) answer)
  unfolding Owes given_on count_on
  by_take i subscriber (Sent bytes) more next m n = (refl, m)
  by_take i subscriber answer more next m n = n

  takes_owe : (i subscriber most : ℕ) (next : Doing) → Owes way i next [] → Owes way i (takes subscriber most next) []
  unfolding Owes
  takes_owe i subscriber zero next n = n
  takes_owe i subscriber (suc left) next n = (refl, λ answer. by_take i subscriber answer (takes subscriber left next) next (takes_owe i subscriber left next n) n)

  chosen : (i : ℕ) (b : Bool) (d e : Doing) → Owes way i d [] → Owes way i e [] → Owes way i (if b then d else e) []
  chosen i true d e p q = p
  chosen i false d e p q = q

  -- the rest is right for each count of resent packets, with the number that remains of it
  AllOwe : (ℕ → Doing) → Type 0
  AllOwe next = (i : ℕ) → Owes way i (next (i % 65536)) []

  next_number : (i : ℕ) → (i + 1) % 65536 ≡ (i % 65536 + 1) % 65536
  next_number i = omega arith

  by_resend : (i subscriber : ℕ) (item : Feedback) (answer : Answer) (next : ℕ → Doing) → AllOwe next
      → Owes way (count_on i (call_for subscriber item) answer) (resends way (i % 65536) answer next) (given_on way i (call_for subscriber item) answer)
  unfolding Owes given_on count_on AllOwe
  by_resend i subscriber (Nack media seq) (Sent bytes) next all = (refl, subst (λ (n : ℕ). Owes way (i + 1) (next n) []) (next_number i) (all (i + 1)))
  by_resend i subscriber (Pli media) (Sent bytes) next all = (refl, subst (λ (n : ℕ). Owes way (i + 1) (next n) []) (next_number i) (all (i + 1)))
  by_resend i subscriber (Nack media seq) answer next all = all i
  by_resend i subscriber (Pli media) answer next all = all i

  serves_owe : (i subscriber ssrc : ℕ) (items : List Feedback) (next : ℕ → Doing) → AllOwe next → Owes way i (serves subscriber ssrc way items (i % 65536) next) []
  unfolding Owes AllOwe
  serves_owe i subscriber ssrc [] next all = all i
  serves_owe i subscriber ssrc (item ∷ items) next all =
      let others : ℕ → Doing = λ (later : ℕ). serves subscriber ssrc way items later next in
      let rest : (j : ℕ) → Owes way j (others (j % 65536)) [] = λ j. serves_owe j subscriber ssrc items next all in
      chosen i (media_of item == ssrc) (Ask (call_for subscriber item) (λ answer. resends way (i % 65536) answer others)) (others (i % 65536)) (refl, λ answer. by_resend i subscriber item answer others rest) (rest i)

  hears_owe : (i subscriber ssrc : ℕ) (got : Option (List ℕ)) (next : ℕ → Doing) → AllOwe next → Owes way i (hears_feedback subscriber ssrc way got (i % 65536) next) []
  unfolding AllOwe
  hears_owe i subscriber ssrc None next all = all i
  hears_owe i subscriber ssrc (Some bytes) next all = serves_owe i subscriber ssrc (feedback_in bytes) next all

  deed_owes : (i subscriber ssrc limit : ℕ) → Owes way i (outgoing_deed subscriber ssrc way limit (i % 65536)) []
  unfolding Owes AllOwe
  deed_owes i subscriber ssrc zero = refl
  deed_owes i subscriber ssrc (suc left) = (
    refl,
    λ got moment. hears_owe i subscriber ssrc got (λ (later : ℕ). takes subscriber 32 (outgoing_deed subscriber ssrc way left later))
        (λ j. takes_owe j subscriber 32 (outgoing_deed subscriber ssrc way left (j % 65536)) (deed_owes j subscriber ssrc left)),
  )

  -- What such a session sent is what its seat's takes and resends returned in the history, in order; if its last send failed, that
  -- datagram is unsent.
  pub sent_datagrams : (subscriber ssrc limit number found : ℕ) (history : List (Entry Call)) (traffic traffic' : Option Traffic) (before after : ℕ) (end : SessionEnd)
      → (s : IsSession (outgoing_deed subscriber ssrc way limit 0) limit number found history traffic traffic' before after end)
      → AreSent (sent_of s.steps) (datagrams_given way 0 (words_of number history)) (unsent_datagram s.rest)
  sent_datagrams subscriber ssrc limit number found history traffic traffic' before after end s =
      subst (λ (l : List Datagram). AreSent (sent_of s.steps) l (unsent_datagram s.rest)) (ap (all_given way 0) (sym s.words) ∙ words_only way 0 [] number history)
      (all_sent way 0 (outgoing_deed subscriber ssrc way limit 0) s.steps s.rest [] s.leads (deed_owes 0 subscriber ssrc limit))

  -- The same for what a session leaves in a seat, for the entries that the seat saw since it began.
  pub sent_since : (MayStarve : Call → Type 0) (subscriber ssrc limit : ℕ) (old new : Known Call) (traffic traffic' : Option Traffic) (before after : ℕ) (end : SessionEnd)
      → (k : Keeps MayStarve (outgoing_deed subscriber ssrc way limit 0) limit old new traffic traffic' before after end) (added : List (Entry Call)) → new.seen ≡ old.seen ++ added
      → AreSent (sent_of k.done.steps) (datagrams_given way 0 (words_behind new.number old.seen added)) (unsent_datagram k.rest)
  sent_since MayStarve subscriber ssrc limit old new traffic traffic' before after end k added goes_on =
      let said : words_behind new.number old.seen added ≡ said_of k.done.steps =
      words_since reply_after (Refused NoMemory) new.number old.number old.seen new.seen added (said_of k.done.steps) k.done.seat.2 goes_on k.done.words in
      subst (λ (l : List Datagram). AreSent (sent_of k.done.steps) l (unsent_datagram k.rest)) (ap (all_given way 0) (sym said) ∙ words_only way 0 old.seen new.number added)
      (all_sent way 0 (outgoing_deed subscriber ssrc way limit 0) k.done.steps k.rest [] k.done.leads (deed_owes 0 subscriber ssrc limit))

-- ---- retransmissions that are sent as the packets were first sent

bytes_given : (i : ℕ) (said : Call) (a : Answer) → datagram_given None i said a ≡ map Bytes (packet_given said a)
bytes_given i (call.Take subscriber) (Sent bytes) = refl
bytes_given i (call.Take subscriber) a = refl
bytes_given i (call.Resend subscriber seq) (Sent bytes) = refl
bytes_given i (call.Resend subscriber seq) a = refl
bytes_given i said a = refl

all_bytes : (i : ℕ) (words : List (Word Call Answer)) → datagrams_given None i words ≡ map Bytes (packets_given words)
all_bytes i [] = refl
all_bytes i (w ∷ ws) =
    ap (λ (l : List Datagram). l ++ datagrams_given None (resent_then i w.call w.answer) ws) (bytes_given i w.call w.answer)
    ∙ (ap (λ (l : List Datagram). map Bytes (packet_given w.call w.answer) ++ l) (all_bytes (resent_then i w.call w.answer) ws) ∙ sym (map-append Bytes (packet_given w.call w.answer) (packets_given ws)))

abbrev bytes_of : Datagram → List (List ℕ)
bytes_of (Bytes bytes) = bytes ∷ []
bytes_of what = []

abbrev bytes_of_all : List Datagram → List (List ℕ)
bytes_of_all [] = []
bytes_of_all (what ∷ whats) = bytes_of what ++ bytes_of_all whats

bytes_again : (ps : List (List ℕ)) → bytes_of_all (map Bytes ps) ≡ ps
bytes_again [] = refl
bytes_again (p ∷ ps) = ap (λ (l : List (List ℕ)). p ∷ l) (bytes_again ps)

as_bytes : (ps sent : List (List ℕ)) (left : List Datagram) → AreSent sent (map Bytes ps) left → ps ≡ sent ++ bytes_of_all left
as_bytes ps [] left are = sym (bytes_again ps) ∙ ap bytes_of_all are
as_bytes [] (x ∷ sent) left are = absurd are
as_bytes (p ∷ ps) (x ∷ sent) left are = ap (λ (y : List ℕ). y ∷ ps) (sym are.0) ∙ ap (λ (l : List (List ℕ)). x ∷ l) (as_bytes ps sent left are.1)

unsent_bytes : (rest : Doing) → bytes_of_all (unsent_datagram rest) ≡ unsent rest
unsent_bytes (Post (Bytes bytes) next) = refl
unsent_bytes (Post (NackFor media names) next) = refl
unsent_bytes (Post (PliFor media) next) = refl
unsent_bytes (Post (Wrapped rtx number packet) next) = refl
unsent_bytes rest = refl

-- A subscriber's session sent the packets that its seat's takes and resends returned in the history, in order. If its last send
-- failed, that packet is unsent.
pub sent_packets : (subscriber ssrc limit number found : ℕ) (history : List (Entry Call)) (traffic traffic' : Option Traffic) (before after : ℕ) (end : SessionEnd)
    → (s : IsSession (subscriber_deed subscriber ssrc limit) limit number found history traffic traffic' before after end) → packets_given (words_of number history) ≡ sent_of s.steps ++ unsent s.rest
sent_packets subscriber ssrc limit number found history traffic traffic' before after end s =
    as_bytes (packets_given (words_of number history)) (sent_of s.steps) (unsent_datagram s.rest)
    (subst (λ (l : List Datagram). AreSent (sent_of s.steps) l (unsent_datagram s.rest)) (all_bytes 0 (words_of number history))
    (sent_datagrams None subscriber ssrc limit number found history traffic traffic' before after end s))
    ∙ ap (λ (l : List (List ℕ)). sent_of s.steps ++ l) (unsent_bytes s.rest)
