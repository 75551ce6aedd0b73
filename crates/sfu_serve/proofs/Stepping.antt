-- A session continues step by step, and ends.
use Rattle.std.proofs.Common.{◌≡◌, ℕ, suc, ◌+◌, ◌-◌, ◌<◌, ◌≤◌, Bool, true, false, List, [], ◌∷◌, length, Option, Result, Ok, Err, IfOk, IfErr, refl, ap, sym, subst, arith}
use Rattle.sfu_base.specs.Answer.{Answer, Refused, answer_of, is_starved}
use Rattle.sfu_base.specs.Faults.{HasCause}
use Rattle.sfu_base.specs.Links.{Traffic, after_send, datagram, with_more}
use Rattle.sfu_base.specs.declared.call.Call.{Call}
use Rattle.sfu_base.specs.declared.call.Reply.{Reply}
use Rattle.sfu_base.specs.declared.call.Refusal.TheVariants.{NoMemory}
use Rattle.turn_lock.specs.History.{entry}
use Rattle.turn_lock.specs.Known.{FindsWorn, Fits, Known, MakesTurn}
use Rattle.session_steps.specs.Deeds.{Ask, Listen, Over, Post}
use Rattle.sfu_serve.specs.Doing.{FitsBuffer}
use Rattle.sfu_serve.proofs.Doing as doing
use Rattle.sfu_serve.specs.declared.ends.SessionEnd.TheVariants.{AllTurns, LinkFault, Worn}
use Rattle.session_steps.specs.declared.session.Output.{Output}
use Rattle.session_steps.specs.declared.session.Output.TheVariants.{Nothing, Packet}
use Rattle.session_steps.specs.Datagrams.{IsOne}
use Rattle.session_steps.specs.Sessions.{Doing}
use Rattle.session_steps.specs.Stepping.{Asks, GoesOn, IsReplyIn, IsReplyTo, Waits, answered, heard}
use Rattle.sfu_serve.specs.History.{entries_of}
use Rattle.sfu_serve.specs.Replies.{IsReplied, MayStarve}
use Rattle.sfu_serve.proofs.Replying.{holds_by, starved_by, told_by}
use Rattle.sfu_serve.specs.Parts.{Done, FailedOnce, HasHeadline, Keeps, NoneMayStarve, reply_after}

-- ---- the rest of a session

-- the rest, in an equal form
pub leaves : {P : Call → Type 0} {whole : Doing} {a b : Known Call} {traffic traffic' : Option Traffic} {x y n : ℕ} (mid rest : Doing) → mid ≡ rest → Done P whole mid a b traffic traffic' x y n → Done P whole rest a b traffic traffic' x y n
leaves {P = P} {whole = whole} {a = a} {b = b} {traffic = traffic} {traffic' = traffic'} {x = x} {y = y} {n = n} mid rest same d = subst (λ (r : Doing). Done P whole r a b traffic traffic' x y n) same d

-- a step without a receive, after the steps before it
pub after : {P : Call → Type 0} {whole mid rest : Doing} {a b c : Known Call} {traffic traffic' traffic'' : Option Traffic} {x y z n : ℕ} → Done P whole mid a b traffic traffic' x y n → Done P mid rest b c traffic' traffic'' y z 0 → Done P whole rest a c traffic traffic'' x z n
after {P = P} {whole = whole} {mid = mid} {rest = rest} {a = a} {b = b} {c = c} {traffic = traffic} {traffic' = traffic'} {traffic'' = traffic''} {x = x} {y = y} {z = z} {n = n} p q =
    let same : n + 0 ≡ n = omega arith in
    subst (λ (m : ℕ). Done P whole rest a c traffic traffic'' x z m) same (doing.joins reply_after (Refused NoMemory) P IsOne HasHeadline whole mid rest a b c traffic traffic' traffic'' x y z n 0 p q)

-- a part without a call is done, whichever calls may run out of memory
silent : {P : Call → Type 0} {whole rest : Doing} {a b : Known Call} {traffic traffic' : Option Traffic} {x y n : ℕ} → Done NoneMayStarve whole rest a b traffic traffic' x y n → Done P whole rest a b traffic traffic' x y n
silent {P = P} {whole = whole} {rest = rest} {a = a} {b = b} {traffic = traffic} {traffic' = traffic'} {x = x} {y = y} {n = n} d =
    doing.widens reply_after (Refused NoMemory) NoneMayStarve P IsOne HasHeadline whole rest a b traffic traffic' x y n (λ call none. absurd none) d

pub silent_after : {P : Call → Type 0} {whole mid rest : Doing} {a b c : Known Call} {traffic traffic' traffic'' : Option Traffic} {x y z n : ℕ} → Done P whole mid a b traffic traffic' x y n → Done NoneMayStarve mid rest b c traffic' traffic'' y z 0 → Done P whole rest a c traffic traffic'' x z n
silent_after p q = after p (silent q)

-- ---- a datagram is sent, or not

pub emits_none : (output : Output) (bytes : List ℕ) (seat : Known Call) (traffic : Option Traffic) (faults : ℕ) (whole rest : Doing) → output ≡ Nothing → Fits seat → GoesOn whole rest bytes output
    → Done NoneMayStarve whole rest seat seat traffic traffic faults faults 0
emits_none output bytes seat traffic faults whole rest is fits goes =
    leaves whole rest (subst (GoesOn whole rest bytes) is goes) (doing.begins reply_after (Refused NoMemory) NoneMayStarve IsOne HasHeadline whole seat traffic faults fits)

pub emits : {T E : Type 0} (r : Result T E) (output : Output) (bytes : List ℕ) (traffic traffic' : Option Traffic) (x y : ℕ) → output ≡ Packet → traffic' ≡ after_send r bytes traffic → HasCause x y r
    → IfOk r (λ sent. (whole rest : Doing) (seat : Known Call) → Fits seat → GoesOn whole rest bytes output → Done NoneMayStarve whole rest seat seat traffic traffic' x y 0)
emits (Ok value) output bytes traffic traffic' x y is link cause = λ whole rest seat fits goes.
    let g = subst (GoesOn whole rest bytes) is goes in
    subst (λ (d : Doing). Done NoneMayStarve d rest seat seat traffic traffic' x y 0) (sym g.1)
    (doing.posts reply_after (Refused NoMemory) NoneMayStarve IsOne HasHeadline g.0 bytes rest seat traffic traffic' x y fits g.2 link cause.counts)
emits (Err why) output bytes traffic traffic' x y is link cause = tt

pub emits_not : {T E : Type 0} (r : Result T E) (output : Output) (bytes : List ℕ) (traffic traffic' : Option Traffic) (x y : ℕ) → output ≡ Packet → traffic' ≡ after_send r bytes traffic → HasCause x y r
    → IfErr r (λ failed. (output ≡ Packet) × (traffic' ≡ traffic) × FailedOnce x y)
emits_not (Ok value) output bytes traffic traffic' x y is link cause = tt
emits_not (Err why) output bytes traffic traffic' x y is link cause = (is, link, record { never_falls = cause.never_falls; counts = cause.counts })

-- ---- the steps of a session, after those before; `left` says what remains of it for each number of remaining turns

-- before the first turn
pub starts : {P : Call → Type 0} (left : ℕ → Doing) (limit : ℕ) (seat : Known Call) (traffic : Option Traffic) (faults : ℕ) → Fits seat → Done P (left limit) (left (limit - 0)) seat seat traffic traffic faults faults 0
starts {P = P} left limit seat traffic faults fits =
    let same : limit ≡ limit - 0 = omega arith in
    subst (λ (n : ℕ). Done P (left limit) (left n) seat seat traffic traffic faults faults 0) same (doing.begins reply_after (Refused NoMemory) P IsOne HasHeadline (left limit) seat traffic faults fits)

fits_buffer : (came : Bool) (bytes : List ℕ) → length bytes ≤ 2048 → FitsBuffer (datagram came bytes)
fits_buffer true bytes p = p
fits_buffer false bytes p = tt

first_failed : (a b c : ℕ) → b ≡ a → FailedOnce b c → FailedOnce a c
first_failed a b c none once = subst (λ (n : ℕ). FailedOnce n c) none once

module _ {P : Call → Type 0} {whole : Doing} {old : Known Call} {traffic : Option Traffic} {x : ℕ} where
  unfailed : {rest : Doing} {b : Known Call} {traffic' : Option Traffic} {y n : ℕ} → Done P whole rest old b traffic traffic' x y n → Done P whole rest old b traffic traffic' x x n
  unfailed {rest = rest} {b = b} {traffic' = traffic'} {n = n} d = subst (λ (y : ℕ). Done P whole rest old b traffic traffic' x y n) d.faults d

  hears_at : (left : Doing) (turns : ℕ) (came : Bool) (bytes : List ℕ) (moment : ℕ) (new : Known Call) (traffic' traffic'' : Option Traffic) (y z n : ℕ) → Waits left (suc turns) → Done P whole left old new traffic traffic' x y n
      → length bytes ≤ 2048 → traffic'' ≡ with_more (datagram came bytes ∷ []) [] traffic' → z ≡ y → Done P whole (heard left (datagram came bytes) moment) old new traffic traffic'' x z (n + 1)
  hears_at (Listen f) turns came bytes moment new traffic' traffic'' y z n waits d short link calm =
      doing.joins reply_after (Refused NoMemory) P IsOne HasHeadline whole (Listen f) (f (datagram came bytes) moment) old new new traffic traffic' traffic'' x y z n 1 d
      (doing.hears reply_after (Refused NoMemory) P IsOne HasHeadline f (datagram came bytes) moment new traffic' traffic'' y z d.fits (fits_buffer came bytes short) link calm)
  hears_at (Ask call f) turns came bytes moment new traffic' traffic'' y z n waits d short link calm = absurd waits
  hears_at (Post what next) turns came bytes moment new traffic' traffic'' y z n waits d short link calm = absurd waits
  hears_at Over turns came bytes moment new traffic' traffic'' y z n waits d short link calm = absurd waits

  unheard_at : (left : Doing) (turns limit turn : ℕ) (new : Known Call) (traffic' traffic'' : Option Traffic) (y z : ℕ) → Waits left (suc turns) → turn < limit → Done P whole left old new traffic traffic' x y turn → traffic'' ≡ traffic' → FailedOnce y z
      → Keeps P whole limit old new traffic traffic'' x z (LinkFault turn)
  unheard_at (Listen f) turns limit turn new traffic' traffic'' y z waits less d same once = record {
    rest = Listen f;
    turns = turn;
    done = doing.still reply_after (Refused NoMemory) P IsOne HasHeadline whole (Listen f) old new traffic traffic' traffic'' x y turn d same;
    ends = (first_failed x y z d.faults once, less, refl);
  }
  unheard_at (Ask call f) turns limit turn new traffic' traffic'' y z waits less d same once = absurd waits
  unheard_at (Post what next) turns limit turn new traffic' traffic'' y z waits less d same once = absurd waits
  unheard_at Over turns limit turn new traffic' traffic'' y z waits less d same once = absurd waits

  over_at : (left : Doing) (limit : ℕ) (new : Known Call) (traffic' : Option Traffic) (y : ℕ) → Waits left 0 → Done P whole left old new traffic traffic' x y limit → Keeps P whole limit old new traffic traffic' x y AllTurns
  over_at Over limit new traffic' y waits d = record { rest = Over; turns = limit; done = unfailed d; ends = (d.faults, refl) }
  over_at (Listen f) limit new traffic' y waits d = absurd waits
  over_at (Ask call f) limit new traffic' y waits d = absurd waits
  over_at (Post what next) limit new traffic' y waits d = absurd waits

  module _ (left : ℕ → Doing) (limit turn : ℕ) (new : Known Call) (traffic' : Option Traffic) (y : ℕ) (waits : (turns : ℕ) → Waits (left turns) turns) (d : Done P whole (left (limit - turn)) old new traffic traffic' x y turn) where
    -- there is one more turn, and its receive returned a datagram or none
    pub hears : (came : Bool) (bytes : List ℕ) (moment : ℕ) (traffic'' : Option Traffic) (z : ℕ) → turn < limit → length bytes ≤ 2048 → traffic'' ≡ with_more (datagram came bytes ∷ []) [] traffic' → z ≡ y
        → Done P whole (heard (left (suc (limit - (turn + 1)))) (datagram came bytes) moment) old new traffic traffic'' x z (turn + 1)
    hears came bytes moment traffic'' z less short link calm =
        let same : limit - turn ≡ suc (limit - (turn + 1)) = omega (arith, less) in
        hears_at (left (suc (limit - (turn + 1)))) (limit - (turn + 1)) came bytes moment new traffic' traffic'' y z turn (waits (suc (limit - (turn + 1))))
        (subst (λ (n : ℕ). Done P whole (left n) old new traffic traffic' x y turn) same d) short link calm

    -- the turn's receive failed
    pub unheard : (traffic'' : Option Traffic) (z : ℕ) → turn < limit → traffic'' ≡ traffic' → FailedOnce y z → Keeps P whole limit old new traffic traffic'' x z (LinkFault turn)
    unheard traffic'' z less link once =
        let same : limit - turn ≡ suc (limit - (turn + 1)) = omega (arith, less) in
        unheard_at (left (suc (limit - (turn + 1)))) (limit - (turn + 1)) limit turn new traffic' traffic'' y z (waits (suc (limit - (turn + 1)))) less
        (subst (λ (n : ℕ). Done P whole (left n) old new traffic traffic' x y turn) same d) link once

    -- no turn remains
    pub ends : turn ≡ limit → Keeps P whole limit old new traffic traffic' x y AllTurns
    ends all =
        let none : limit - turn ≡ 0 = omega (arith, all) in
        over_at (left 0) limit new traffic' y (waits 0) (subst (λ (n : ℕ). Done P whole (left 0) old new traffic traffic' x y n) all (subst (λ (n : ℕ). Done P whole (left n) old new traffic traffic' x y turn) none d))

  -- a datagram wasn't sent
  pub unsent : (left rest : Doing) (bytes : List ℕ) (output : Output) (limit turn : ℕ) (new : Known Call) (traffic' traffic'' : Option Traffic) (y z : ℕ) → output ≡ Packet → GoesOn left rest bytes output → turn < limit
      → Done P whole left old new traffic traffic' x y (turn + 1) → traffic'' ≡ traffic' → FailedOnce y z → Keeps P whole limit old new traffic traffic'' x z (LinkFault turn)
  unsent left rest bytes output limit turn new traffic' traffic'' y z is goes less d link once =
      let g = subst (GoesOn left rest bytes) is goes in
      let e = leaves left (Post g.0 rest) g.1 d in record {
        rest = Post g.0 rest;
        turns = turn + 1;
        done = doing.still reply_after (Refused NoMemory) P IsOne HasHeadline whole (Post g.0 rest) old new traffic traffic' traffic'' x y (turn + 1) e link;
        ends = (first_failed x y z d.faults once, less, refl);
      }

  -- a call wasn't made
  pub worn : (left : Doing) (call : Call) (limit turn : ℕ) (new new' : Known Call) (traffic' : Option Traffic) (y : ℕ) → Asks left call → turn < limit → Done P whole left old new traffic traffic' x y (turn + 1) → FindsWorn new new' → Fits new'
      → Keeps P whole limit old new' traffic traffic' x y Worn
  worn (Ask own f) call limit turn new new' traffic' y asks less d finds fits = record {
    rest = Ask own f;
    turns = turn + 1;
    done = unfailed (doing.stays reply_after (Refused NoMemory) P IsOne HasHeadline whole (Ask own f) old new new' traffic traffic' x y (turn + 1) d finds fits);
    ends = (d.faults, ap (λ (k : Known Call). k.found) finds.0, omega (arith, less));
  }
  worn (Listen f) call limit turn new new' traffic' y asks less d finds fits = absurd asks
  worn (Post what next) call limit turn new new' traffic' y asks less d finds fits = absurd asks
  worn Over call limit turn new new' traffic' y asks less d finds fits = absurd asks

said_at : {P : Call → Type 0} (left : Doing) (call : Call) (answer : Answer) (b c : Known Call) (traffic : Option Traffic) (faults : ℕ) → Asks left call
    → ((f : Answer → Doing) → Done P (Ask call f) (f answer) b c traffic traffic faults faults 0) → Done P left (answered left answer) b c traffic traffic faults faults 0
said_at {P = P} (Ask own f) call answer b c traffic faults is p = subst (λ (k : Call). Done P (Ask k f) (f answer) b c traffic traffic faults faults 0) is (p f)
said_at (Listen f) call answer b c traffic faults is p = absurd is
said_at (Post what next) call answer b c traffic faults is p = absurd is
said_at Over call answer b c traffic faults is p = absurd is

-- a call was made in a turn of the lock
pub said : {R : Type 0} (may_refuse : R → Bool) (left : Doing) (call : Call) (given : Reply) (bytes numbers : List ℕ) (place : ℕ) (b c : Known Call) (traffic : Option Traffic) (faults : ℕ) → Asks left call → Fits b
    → MakesTurn b c (entry b.number call (is_starved given)) place (λ h. IsReplied may_refuse (entries_of h) b.number call given bytes numbers) → Fits c
    → Done (MayStarve may_refuse) left (answered left (answer_of given bytes numbers)) b c traffic traffic faults faults 0
said may_refuse left call given bytes numbers place b c traffic faults asks fits turn fits' =
    said_at left call (answer_of given bytes numbers) b c traffic faults asks (λ f.
    doing.says reply_after (Refused NoMemory) (MayStarve may_refuse) IsOne HasHeadline call f (answer_of given bytes numbers) (is_starved given) _ place b c traffic faults fits turn
    (λ h. told_by may_refuse h b.number call given bytes numbers) (λ h. starved_by may_refuse h b.number call given bytes numbers) (λ h. holds_by may_refuse h b.number call given bytes numbers) fits')

-- the turn's reply is one of the room's
pub replies : (left : Doing) (call : Call) (given : Reply) (bytes names : List ℕ) → Asks left call → IsReplyTo call given bytes names → IsReplyIn left given bytes names
replies (Ask own f) call given bytes names is traffic = subst (λ (k : Call). IsReplyTo k given bytes names) is traffic
replies (Listen f) call given bytes names is traffic = absurd is
replies (Post what next) call given bytes names is traffic = absurd is
replies Over call given bytes names is traffic = absurd is
