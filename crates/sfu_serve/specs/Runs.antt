-- The combined effect of concurrent sessions.
use Rattle.std.specs.Prelude.{◌≡◌, ◌≢◌, IsTrue, ℕ, ◌+◌, ◌*◌, ◌<◌, ◌≤◌, List, [], ◌∷◌, ◌++◌, length, Option, None}
use Rattle.sfu_base.specs.Links.{Traffic, with_more}
use Rattle.sfu_base.specs.Answer.{Answer}
use Rattle.sfu_base.specs.declared.call.Call.{Call}
use Rattle.turn_lock.specs.declared.history.Entry.{Entry}
use Rattle.turn_lock.specs.History.{own_of, AllBelow}
use Rattle.turn_lock.specs.Known.{Known, Fits, AllJoinedIn}
use Rattle.session_steps.specs.Deeds.{Step, Leads, received_of, said_of, sent_of}
use Rattle.sfu_serve.specs.Doing.{AllFitBuffers}
use Rattle.sfu_serve.specs.declared.ends.SessionEnd.{SessionEnd}
use Rattle.sfu_serve.specs.declared.run.Role.{Role}
use Rattle.sfu_serve.specs.declared.run.Role.TheVariants.{Publisher, Subscriber, Control, Rtx}
use Rattle.session_steps.specs.Datagrams.{IsOne}
use Rattle.session_steps.specs.Sessions.{Doing, publisher_deed, subscriber_deed, rtx_deed, control_deed}
use Rattle.sfu_serve.specs.Parts.{MeetsEnd, words_of}

-- the rule of a session of this role, for `limit` turns
abbrev pub deed_of : Role → ℕ → Doing
deed_of (Publisher track ssrc) limit = publisher_deed track ssrc limit None None
deed_of (Subscriber subscriber ssrc) limit = subscriber_deed subscriber ssrc limit
deed_of Control limit = control_deed limit
deed_of (Rtx subscriber ssrc rtx) limit = rtx_deed subscriber ssrc rtx limit

-- A session of this role is possible: a retransmission stream has its own SSRC and a payload type of seven bits.
abbrev pub CanBe : Role → Type 0
CanBe (Rtx subscriber ssrc rtx) = (rtx.ssrc ≢ ssrc) × (rtx.payload_type < 128)
CanBe role = Unit {0}

-- A session of the seat with this number, as seen in any later history. The seat had no
-- entries before. `found` is the greatest ticket number that was found in that history.
pub record IsSession (whole : Doing) (limit number found : ℕ) (history : List (Entry Call)) (traffic traffic' : Option Traffic) (before after : ℕ)
    (end : SessionEnd) : Type 0 where
  pub steps : List (Step Call Answer)
  pub rest : Doing
  pub leads : Leads IsOne whole steps rest
  -- the seat's entries are the calls of the steps, with their answers in the history
  pub words : words_of number history ≡ said_of steps
  -- the link also reports the receives and the datagrams of the steps
  pub link : traffic' ≡ with_more (received_of steps) (sent_of steps) traffic
  pub short : AllFitBuffers (received_of steps)
  -- at most 10,000 calls per turn: feedback of 2,048 bytes has at most 8,704 items, and at most 32 takes follow
  pub most : length (said_of steps) ≤ 10000 * limit
  pub ends : MeetsEnd before after found limit rest (length (received_of steps)) end

-- a job before its session: its role, what its link reports and the link's count of faults
pub record Before : Type 0 where
  pub role : Role
  pub traffic : Option Traffic
  pub faults : ℕ

-- a job after its session
pub record After : Type 0 where
  pub end : SessionEnd
  pub traffic : Option Traffic
  pub faults : ℕ

abbrev pub job_before : Role → Option Traffic → ℕ → Before
job_before role traffic faults = record { role = role; traffic = traffic; faults = faults }

abbrev pub job_after : SessionEnd → Option Traffic → ℕ → After
job_after end traffic faults = record { end = end; traffic = traffic; faults = faults }

-- each job and its end have a session; the first job has the seat with this number, and each later job has the next seat
abbrev pub AreSessions : ℕ → ℕ → List (Entry Call) → ℕ → List Before → List After → Type 0
AreSessions limit found history number [] [] = Unit {0}
AreSessions limit found history number (job ∷ jobs) (ended ∷ others) =
    IsSession (deed_of job.role limit) limit number found history job.traffic ended.traffic job.faults ended.faults ended.end
    × AreSessions limit found history (number + 1) jobs others
AreSessions limit found history number _ _ = ⊥

-- only entries whose calls may run out of memory did so
abbrev pub AllMayStarve : (Call → Type 0) → List (Entry Call) → Type 0
AllMayStarve MayStarve [] = Unit {0}
AllMayStarve MayStarve (e ∷ es) = (IsTrue e.starved → MayStarve e.call) × AllMayStarve MayStarve es

-- The first seat has seen more of the history. The added entries are those of the jobs' seats, and include each job's session.
pub record HaveRun (MayStarve : Call → Type 0) (limit : ℕ) (old new : Known Call) (jobs : List Before) (ends : List After) : Type 0 where
  pub kept : (new.lock ≡ old.lock) × (new.first ≡ old.first) × (new.number ≡ 0)
  -- the first seat and one seat for each job were made, and the greatest number found never falls
  pub count : new.count ≡ length jobs + 1
  pub found : old.found ≤ new.found
  pub fits : Fits new
  -- each other seat was joined into the first one, so the lock can be closed
  pub came : AllJoinedIn new
  pub added : List (Entry Call)
  pub seen : new.seen ≡ old.seen ++ added
  pub no_other : own_of 0 added ≡ []
  pub below : AllBelow (length jobs + 1) added
  -- only calls that may run out of memory did so
  pub memory : AllMayStarve MayStarve added
  pub few : length added ≤ length jobs * (10000 * limit)
  pub each : AreSessions limit new.found new.seen 1 jobs ends
