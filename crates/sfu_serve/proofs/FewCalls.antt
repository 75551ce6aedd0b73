-- A session makes at most 10,000 calls per turn.
use Rattle.std.proofs.Common.{◌≤◌, ◌+◌, ◌*◌, ◌%◌, ℕ, zero, suc, Bool, true, false, if◌then◌else◌, ◌==◌, ◌&&◌, List, [], ◌∷◌, length, arith, Option}
use Rattle.std.specs.Prelude.{None, Some}
use Rattle.sfu_base.specs.Answer.{Answer, Sent, Named}
use Rattle.sfu_base.specs.declared.call.Call.{Call}
use Rattle.sfu_base.specs.declared.call.Call.TheVariants.{Packet, Tick, Take, Missing, KeyWanted}
use Rattle.rtcp_feedback.specs.declared.feedback.Feedback.{Feedback}
use Rattle.rtx_stream.specs.declared.retransmission.Rtx.{Rtx}
use Rattle.session_steps.specs.Deeds.{Ask, Post}
use Rattle.sfu_serve.specs.Doing.{FitsBuffer}
use Rattle.sfu_serve.proofs.Counting.{AsksAtMost, asks_more, asks_one}
use Rattle.sfu_serve.specs.declared.run.Role.{Role}
use Rattle.sfu_serve.specs.declared.run.Role.TheVariants.{Publisher, Subscriber, Control, Rtx as OnRtx}
use Rattle.session_steps.specs.Datagrams.{PliFor, is_rtcp, feedback_in, media_of, control_call, text_for}
use Rattle.session_steps.specs.Sessions.{Doing, answers, controls, call_for, sends_on, resends, serves_one, serves, hears_feedback, takes, brings, nacks, is_due, wants_key, pleads, asks, control_deed, outgoing_deed, publisher_deed}
use Rattle.sfu_serve.specs.Runs.{deed_of}
use Rattle.sfu_serve.proofs.FewItems.{feedback_few}

chosen : (b : Bool) (d e : Doing) (n : ℕ) → AsksAtMost d n → AsksAtMost e n → AsksAtMost (if b then d else e) n
chosen true d e n p q = p
chosen false d e n p q = q

-- ---- control

line_few : (call : Option Call) (next : Doing) (n : ℕ) → AsksAtMost next n → AsksAtMost (answers call next) (1 + n)
line_few None next n p = asks_more next n (1 + n) (omega arith) p
line_few (Some call) next n p = asks_one call (λ answer. Post (text_for answer) next) n (λ answer. p)

controls_few : (got : Option (List ℕ)) (next : Doing) (n : ℕ) → AsksAtMost next n → AsksAtMost (controls got next) (1 + n)
controls_few None next n p = asks_more next n (1 + n) (omega arith) p
controls_few (Some bytes) next n p = line_few (control_call bytes) next n p

control_few : (limit : ℕ) → AsksAtMost (control_deed limit) (10000 * limit)
control_few zero = tt
control_few (suc left) = λ got moment fits.
    let more : 1 + 10000 * left ≤ 10000 * suc left = omega arith in
    asks_more (controls got (control_deed left)) (1 + 10000 * left) (10000 * suc left) more (controls_few got (control_deed left) (10000 * left) (control_few left))

-- ---- subscriber

sends_few : (answer : Answer) (more next : Doing) (n : ℕ) → AsksAtMost more n → AsksAtMost next n → AsksAtMost (sends_on answer more next) n
sends_few (Sent bytes) more next n p q = p
sends_few answer more next n p q = q

resends_few : (way : Option Rtx) (number : ℕ) (answer : Answer) (next : ℕ → Doing) (n : ℕ) → ((later : ℕ) → AsksAtMost (next later) n) → AsksAtMost (resends way number answer next) n
resends_few way number (Sent bytes) next n p = p ((number + 1) % 65536)
resends_few way number answer next n p = p number

one_few : (subscriber ssrc : ℕ) (way : Option Rtx) (item : Feedback) (number : ℕ) (next : ℕ → Doing) (n : ℕ) → ((later : ℕ) → AsksAtMost (next later) n) → AsksAtMost (serves_one subscriber ssrc way item number next) (1 + n)
one_few subscriber ssrc way item number next n p =
    chosen (media_of item == ssrc) (Ask (call_for subscriber item) (λ answer. resends way number answer next)) (next number) (1 + n)
    (asks_one (call_for subscriber item) (λ answer. resends way number answer next) n (λ answer. resends_few way number answer next n p))
    (asks_more (next number) n (1 + n) (omega arith) (p number))

serves_few : (subscriber ssrc : ℕ) (way : Option Rtx) (items : List Feedback) (number : ℕ) (next : ℕ → Doing) (n : ℕ) → ((later : ℕ) → AsksAtMost (next later) n)
    → AsksAtMost (serves subscriber ssrc way items number next) (length items + n)
serves_few subscriber ssrc way [] number next n p = asks_more (next number) n (0 + n) (omega arith) (p number)
serves_few subscriber ssrc way (item ∷ items) number next n p =
    let others : ℕ → Doing = λ (later : ℕ). serves subscriber ssrc way items later next in
    let more : 1 + (length items + n) ≤ suc (length items) + n = omega arith in
    asks_more (serves_one subscriber ssrc way item number others) (1 + (length items + n)) (suc (length items) + n) more
    (one_few subscriber ssrc way item number others (length items + n) (λ later. serves_few subscriber ssrc way items later next n p))

hears_few : (subscriber ssrc : ℕ) (way : Option Rtx) (got : Option (List ℕ)) (number : ℕ) (next : ℕ → Doing) (n : ℕ) → FitsBuffer got → ((later : ℕ) → AsksAtMost (next later) n)
    → AsksAtMost (hears_feedback subscriber ssrc way got number next) (8704 + n)
hears_few subscriber ssrc way None number next n fits p = asks_more (next number) n (8704 + n) (omega arith) (p number)
hears_few subscriber ssrc way (Some bytes) number next n fits p =
    let few = feedback_few bytes fits in
    asks_more (serves subscriber ssrc way (feedback_in bytes) number next) (length (feedback_in bytes) + n) (8704 + n) (omega (arith, few)) (serves_few subscriber ssrc way (feedback_in bytes) number next n p)

takes_few : (subscriber most : ℕ) (next : Doing) (n : ℕ) → AsksAtMost next n → AsksAtMost (takes subscriber most next) (most + n)
takes_few subscriber zero next n p = asks_more next n (0 + n) (omega arith) p
takes_few subscriber (suc left) next n p =
    let others : Doing = takes subscriber left next in
    let less : n ≤ left + n = omega arith in
    let more : 1 + (left + n) ≤ suc left + n = omega arith in
    asks_more (takes subscriber (suc left) next) (1 + (left + n)) (suc left + n) more
    (asks_one (Take subscriber) (λ answer. sends_on answer others next) (left + n) (λ answer. sends_few answer others next (left + n) (takes_few subscriber left next n p) (asks_more next n (left + n) less p)))

outgoing_few : (subscriber ssrc : ℕ) (way : Option Rtx) (limit number : ℕ) → AsksAtMost (outgoing_deed subscriber ssrc way limit number) (10000 * limit)
outgoing_few subscriber ssrc way zero number = tt
outgoing_few subscriber ssrc way (suc left) number = λ got moment fits.
    let next : ℕ → Doing = λ (later : ℕ). takes subscriber 32 (outgoing_deed subscriber ssrc way left later) in
    let more : 8704 + (32 + 10000 * left) ≤ 10000 * suc left = omega arith in
    asks_more (hears_feedback subscriber ssrc way got number next) (8704 + (32 + 10000 * left)) (10000 * suc left) more
    (hears_few subscriber ssrc way got number next (32 + 10000 * left) fits (λ later. takes_few subscriber 32 (outgoing_deed subscriber ssrc way left later) (10000 * left) (outgoing_few subscriber ssrc way left later)))

-- ---- publisher

brings_few : (track moment : ℕ) (got : Option (List ℕ)) (next : Doing) (n : ℕ) → AsksAtMost next n → AsksAtMost (brings track moment got next) (1 + n)
brings_few track moment None next n p = asks_more next n (1 + n) (omega arith) p
brings_few track moment (Some bytes) next n p =
    chosen (is_rtcp bytes) next (Ask (Packet track moment bytes) (λ answer. next)) (1 + n)
    (asks_more next n (1 + n) (omega arith) p) (asks_one (Packet track moment bytes) (λ answer. next) n (λ answer. p))

nacks_few : (ssrc : ℕ) (answer : Answer) (next : Doing) (n : ℕ) → AsksAtMost next n → AsksAtMost (nacks ssrc answer next) n
nacks_few ssrc (Named (name ∷ names)) next n p = p
nacks_few ssrc answer next n p = p

pleads_few : (ssrc moment : ℕ) (pleaded : Option ℕ) (answer : Answer) (next : Option ℕ → Doing) (n : ℕ) → ((last : Option ℕ) → AsksAtMost (next last) n) → AsksAtMost (pleads ssrc moment pleaded answer next) n
pleads_few ssrc moment pleaded answer next n p =
    chosen (wants_key answer && is_due 500 moment pleaded) (Post (PliFor ssrc) (next (Some moment))) (next pleaded) n (p (Some moment)) (p pleaded)

asks_few : (track ssrc moment : ℕ) (asked pleaded : Option ℕ) (next : Option ℕ → Option ℕ → Doing) (n : ℕ) → ((last pli : Option ℕ) → AsksAtMost (next last pli) n) → AsksAtMost (asks track ssrc moment asked pleaded next) (2 + n)
asks_few track ssrc moment asked pleaded next n p =
    let key : Answer → Doing = λ (a : Answer). pleads ssrc moment pleaded a (next (Some moment)) in
    let names : Answer → Doing = λ (a : Answer). nacks ssrc a (Ask (KeyWanted track) key) in
    let same : 1 + (1 + n) ≤ 2 + n = omega arith in
    chosen (is_due 20 moment asked) (Ask (Missing track) names) (next asked pleaded) (2 + n)
    (asks_more (Ask (Missing track) names) (1 + (1 + n)) (2 + n) same
    (asks_one (Missing track) names (1 + n) (λ a. nacks_few ssrc a (Ask (KeyWanted track) key) (1 + n) (asks_one (KeyWanted track) key n (λ b. pleads_few ssrc moment pleaded b (next (Some moment)) n (p (Some moment)))))))
    (asks_more (next asked pleaded) n (2 + n) (omega arith) (p asked pleaded))

publisher_few : (track ssrc limit : ℕ) (asked pleaded : Option ℕ) → AsksAtMost (publisher_deed track ssrc limit asked pleaded) (10000 * limit)
publisher_few track ssrc zero asked pleaded = tt
publisher_few track ssrc (suc left) asked pleaded = λ got moment fits.
    let next : Option ℕ → Option ℕ → Doing = publisher_deed track ssrc left in
    let rest : Answer → Doing = λ (a : Answer). asks track ssrc moment asked pleaded next in
    let n : ℕ = 10000 * left in
    let more : 1 + (1 + (2 + n)) ≤ 10000 * suc left = omega arith in
    asks_more (brings track moment got (Ask (Tick track moment) rest)) (1 + (1 + (2 + n))) (10000 * suc left) more
    (brings_few track moment got (Ask (Tick track moment) rest) (1 + (2 + n)) (asks_one (Tick track moment) rest (2 + n) (λ a. asks_few track ssrc moment asked pleaded next n (publisher_few track ssrc left))))

-- ---- a session of any role
pub deed_few : (role : Role) (limit : ℕ) → AsksAtMost (deed_of role limit) (10000 * limit)
deed_few (Publisher track ssrc) limit = publisher_few track ssrc limit None None
deed_few (Subscriber subscriber ssrc) limit = outgoing_few subscriber ssrc None limit 0
deed_few Control limit = control_few limit
deed_few (OnRtx subscriber ssrc rtx) limit = outgoing_few subscriber ssrc (Some rtx) limit 0
