-- The command `serve`: seat 0 makes the calls of the configuration, the ports are bound, and each port has its own session.
use Rattle.std.specs.Prelude.{◌≡◌, ◌⊎◌, ◌+◌, ℕ, true, false, List, [], ◌++◌, length, map, Option, None}
use Rattle.std.specs.Io.KnownBytes.{Appends, Consumes, IsAtEnd}
use Rattle.sfu_base.specs.Faults.{Rose}
use Rattle.sfu_base.specs.Links.{Traffic}
use Rattle.sfu_base.specs.declared.call.Call.{Call}
use Rattle.turn_lock.specs.declared.history.Entry as turn
use Rattle.turn_lock.specs.History.{AllBelow, own_of}
use Rattle.room_core.specs.Content.{TakesMemory}
use Rattle.room_core.specs.Headline.{Headline}
use Rattle.room_core.specs.History.{accepted}
use Rattle.sfu_serve.specs.declared.run.Ended.{Ended}
use Rattle.sfu_serve.specs.History.{entries_of}
use Rattle.sfu_serve.specs.Runs.{After, AllMayStarve, AreSessions, Before, job_after}
use Rattle.sfu_driver.specs.Exchange.{Exchange}
use Rattle.sfu_driver.specs.Drive.{WritesPart}
use Rattle.sfu_driver.specs.Statuses.{FirstFault}
use Rattle.sfu_program.specs.ServeEnds.{AreUnworn, all_made, ends_of, ends_text}
use Rattle.sfu_program.specs.ServeOpening.{first_text, made_first}
use Rattle.sfu_program.specs.ServePorts.{AreFresh, AreNamedFrom, PortsSeen, WasUnbound, after_backs}
use Rattle.port_config.specs.ports.Reading.{ReadsNoSetup}
use Rattle.sfu_script.specs.declared.ports.PortLine.{PortLine}
use Rattle.port_config.specs.ports.Script.{configuration_of}

-- the sessions that ended: how they ended, and the traffic and faults of their links
abbrev pub afters : {L : Type 0} → (L → Option Traffic) → (L → ℕ) → List (Ended L) → List After
afters traffic faults ended = map (λ session. job_after session.end (traffic session.link) (faults session.link)) ended

-- There is one history that begins with these calls by seat 0. In it each job had its session, by the seat with the job's number,
-- counted from 1. No other seat made a call after the calls of seat 0. No session found that all tickets of the lock were drawn.
pub record HaveServed (limit : ℕ) (calls : List Call) (jobs : List Before) (ended : List After) : Type 0 where
  pub history : List (turn.Entry Call)
  pub added : List (turn.Entry Call)
  pub begins : history ≡ made_first calls ++ added
  pub no_other : own_of 0 added ≡ []
  pub below : AllBelow (length jobs + 1) added
  pub each : AreSessions limit 0 history 1 jobs ended
  pub unworn : AreUnworn (map (λ after. after.end) ended)
  -- only a publish or a join ran out of memory
  pub memory : AllMayStarve TakesMemory history
  pub headline : Headline (accepted (entries_of history))

-- All ports of these lines were bound, in order. The K-th port had the session of the K-th line, on its own link. Afterwards all ports were released
-- in this order.
pub record HasServed {L : Type 0} (traffic : L → Option Traffic) (faults name : L → ℕ) (limit : ℕ) (calls : List Call) (lines : List PortLine)
    (old new : PortsSeen L) (ended : List (Ended L)) : Type 0 where
  pub jobs : List Before
  pub fresh : AreFresh lines jobs
  pub served : HaveServed limit calls jobs (afters traffic faults ended)
  -- the link of the K-th session is the K-th port that was bound
  pub names : AreNamedFrom name 0 (map (λ session. session.link) ended)
  pub bound : new.bound ≡ length lines
  pub back : new.back ≡ length lines
  pub returned : new.returned ≡ after_backs (map (λ session. session.link) ended) old.returned

-- If memory ran out, no bind failed. Either no port failed, or all sessions had ended and all ports were released.
abbrev pub Starved : {L : Type 0} → (L → Option Traffic) → (L → ℕ) → (L → ℕ) → ℕ → List Call → List PortLine → PortsSeen L → PortsSeen L → Type 0
Starved {L} traffic faults name limit calls lines old new =
    (new.faults ≡ old.faults) ⊎ ((ended : List (Ended L)) × HasServed traffic faults name limit calls lines old new ended)

-- The outcome for the ports of these lines, after these calls.
pub record Ends {L : Type 0} (traffic : L → Option Traffic) (faults name : L → ℕ) (limit : ℕ) (calls : List Call) (lines : List PortLine)
    (written written' : Option (List ℕ)) (writes writes' : ℕ) (old new : PortsSeen L) (status : ℕ) : Type 0 where
  -- 0: each session made all its turns, and a line for each was written
  pub done : status ≡ 0 → (ended : List (Ended L)) × HasServed traffic faults name limit calls lines old new ended × (all_made (ends_of ended) ≡ true)
      × Appends written written' (ends_text 1 (ends_of ended))
  -- 4: the sink failed while these lines were written
  pub sink : status ≡ 4 → Rose writes writes'
  pub unwritten : status ≡ 4 → (ended : List (Ended L)) × HasServed traffic faults name limit calls lines old new ended
      × WritesPart written written' (ends_text 1 (ends_of ended))
  -- 6: memory ran out, and nothing was written; no bind failed; if a session's link failed, all ports were released
  pub memory : status ≡ 6 → Appends written written' [] × Starved traffic faults name limit calls lines old new
  -- 7: a port wasn't bound, so no session started; or a session's link failed, and the lines were written
  pub ports : status ≡ 7 → Rose old.faults new.faults
  pub failed : status ≡ 7 → (WasUnbound traffic faults name lines old new × Appends written written' [])
      ⊎ ((ended : List (Ended L)) × HasServed traffic faults name limit calls lines old new ended × (all_made (ends_of ended) ≡ false)
      × Appends written written' (ends_text 1 (ends_of ended)))
  pub only : (status ≡ 0) ⊎ (status ≡ 4) ⊎ (status ≡ 6) ⊎ (status ≡ 7)
  -- no write failed except the one that ended the command; with status 0 no bind, receive or send failed
  pub first_fault : FirstFault 0 0 writes writes' status
  pub calm : status ≡ 0 → new.faults ≡ old.faults

-- all texts that are due: the replies to the first calls, and then a line for each session
abbrev pub serve_text : {L : Type 0} → List Call → List (Ended L) → List ℕ
serve_text calls ended = first_text calls ++ ends_text 1 (ends_of ended)

-- The outcome for these calls and lines.
pub record Acts {L : Type 0} (traffic : L → Option Traffic) (faults name : L → ℕ) (limit : ℕ) (calls : List Call) (lines : List PortLine)
    (written written' : Option (List ℕ)) (writes writes' : ℕ) (old new : PortsSeen L) (status : ℕ) : Type 0 where
  -- 0: each session made all its turns, and all texts that are due were written
  pub done : status ≡ 0 → (ended : List (Ended L)) × HasServed traffic faults name limit calls lines old new ended × (all_made (ends_of ended) ≡ true)
      × Appends written written' (serve_text calls ended)
  -- 4: the sink failed; a strict prefix of the texts that are due was written; no port was bound before the replies were written
  pub sink : status ≡ 4 → Rose writes writes'
  pub unwritten : status ≡ 4 → (WritesPart written written' (first_text calls) × (new ≡ old))
      ⊎ ((ended : List (Ended L)) × HasServed traffic faults name limit calls lines old new ended × WritesPart written written' (serve_text calls ended))
  -- 6: memory ran out; nothing was written, or only the replies to the first calls; no bind failed; if a session's link failed, all ports were released
  pub memory : status ≡ 6 → (Appends written written' [] × (new ≡ old))
      ⊎ (Appends written written' (first_text calls) × Starved traffic faults name limit calls lines old new)
  -- 7: a port wasn't bound, so no session started and only the replies were written; or a session's link failed, and all texts were written
  pub ports : status ≡ 7 → Rose old.faults new.faults
  pub failed : status ≡ 7 → (WasUnbound traffic faults name lines old new × Appends written written' (first_text calls))
      ⊎ ((ended : List (Ended L)) × HasServed traffic faults name limit calls lines old new ended × (all_made (ends_of ended) ≡ false)
      × Appends written written' (serve_text calls ended))
  pub only : (status ≡ 0) ⊎ (status ≡ 4) ⊎ (status ≡ 6) ⊎ (status ≡ 7)
  -- no write failed except the one that ended the command; with status 0 no bind, receive or send failed
  pub first_fault : FirstFault 0 0 writes writes' status
  pub calm : status ≡ 0 → new.faults ≡ old.faults

-- The source was read to its end, its bytes are a configuration, and this is the outcome for its calls and ports.
pub record ActsOn {L : Type 0} (traffic : L → Option Traffic) (faults name : L → ℕ) (limit : ℕ) (left left' written written' : Option (List ℕ))
    (writes writes' : ℕ) (old new : PortsSeen L) (status : ℕ) : Type 0 where
  pub bytes : List ℕ
  pub consumed : Consumes left left' bytes
  pub at_end : IsAtEnd left'
  pub whole : (configuration_of bytes).fault ≡ None
  pub acts : Acts traffic faults name limit (configuration_of bytes).setup.calls (configuration_of bytes).setup.ports written written' writes writes' old new status

-- The effect of `serve`. No call is made and no port is bound if the source fails (3),
-- a line is outside the grammar (5), or memory runs out for the configuration (6).
pub record Serves {L : Type 0} (traffic : L → Option Traffic) (faults name : L → ℕ) (limit : ℕ) (x : Exchange) (old new : PortsSeen L) (status : ℕ) : Type 0 where
  pub came : (ReadsNoSetup x.left x.left' x.written x.written' x.reads x.reads' x.writes x.writes' status × (new ≡ old))
      ⊎ ActsOn traffic faults name limit x.left x.left' x.written x.written' x.writes x.writes' old new status
  -- the first read or write that fails ends the command; with status 0 no bind, receive or send failed
  pub first_fault : FirstFault x.reads x.reads' x.writes x.writes' status
  pub calm : status ≡ 0 → new.faults ≡ old.faults
  -- there is no other status
  pub only : (status ≡ 0) ⊎ (status ≡ 3) ⊎ (status ≡ 4) ⊎ (status ≡ 5) ⊎ (status ≡ 6) ⊎ (status ≡ 7)
  -- if nothing outside fails, all sessions make all their turns, unless a line is outside the grammar
  pub complete : ¬ (Rose x.reads x.reads') → ¬ (Rose x.writes x.writes') → ¬ (Rose old.faults new.faults) → (status ≡ 0) ⊎ (status ≡ 5) ⊎ (status ≡ 6)
