-- Ports that are bound for sessions, and then released. Own rule.
use Rattle.std.specs.Prelude.{◌≡◌, ◌⊎◌, ◌<◌, ◌+◌, ℕ, List, [], ◌∷◌, ◌++◌, length, map, take, Option}
use Rattle.std.specs.Option.{option_map}
use Rattle.sfu_base.specs.Faults.{raised}
use Rattle.sfu_base.specs.Links.{Traffic}
use Rattle.sfu_base.specs.Ports.{has_no_traffic_yet}
use Rattle.sfu_script.specs.declared.ports.PortLine.{PortLine}
use Rattle.sfu_script.specs.declared.ports.PortRole.{PortRole}
use Rattle.sfu_script.specs.declared.ports.PortRole.TheVariants as line
use Rattle.sfu_serve.specs.declared.run.Job.{Job}
use Rattle.sfu_serve.specs.declared.run.Role.{Role}
use Rattle.sfu_serve.specs.declared.run.Role.TheVariants.{Publisher, Subscriber, Control, Rtx}
use Rattle.sfu_serve.specs.Runs.{Before, job_before}

-- the role of the session that a port's line requests
abbrev pub role_of : PortRole → Role
role_of (line.Publisher track ssrc) = Publisher track ssrc
role_of (line.Subscriber subscriber ssrc) = Subscriber subscriber ssrc
role_of line.Control = Control
role_of (line.Rtx subscriber ssrc rtx_ssrc payload_type) = Rtx subscriber ssrc (record { ssrc = rtx_ssrc; payload_type = payload_type })

-- ---- ports that are bound

-- The port of a job was just bound for this line. It has no faults yet and, if contracts see its traffic, no traffic.
pub record IsFresh (line : PortLine) (job : Before) : Type 0 where
  pub role : job.role ≡ role_of line.role
  pub quiet : job.faults ≡ 0
  pub silent : has_no_traffic_yet job.traffic

-- the same for each line and its job, in order
abbrev pub AreFresh : List PortLine → List Before → Type 0
AreFresh [] [] = Unit {0}
AreFresh (line ∷ lines) (job ∷ jobs) = IsFresh line job × AreFresh lines jobs
AreFresh _ _ = ⊥

-- jobs before their sessions: their roles, and the traffic and faults of their links
abbrev pub befores : {L : Type 0} → (L → Option Traffic) → (L → ℕ) → List (Job L) → List Before
befores traffic faults jobs = map (λ job. job_before job.role (traffic job.link) (faults job.link)) jobs

-- the links are those of the ports that were bound n-th, n + 1-th and so on, counted from 0
abbrev pub AreNamedFrom : {L : Type 0} → (L → ℕ) → ℕ → List L → Type 0
AreNamedFrom name n [] = Unit {0}
AreNamedFrom name n (link ∷ links) = (name link ≡ n) × AreNamedFrom name (n + 1) links

-- ---- ports that are released

-- these ports were released, in this order
abbrev pub after_backs : {L : Type 0} → List L → Option (List L) → Option (List L)
after_backs ports traffic = option_map (λ others. others ++ ports) traffic

-- one of these links has faults
abbrev pub SomeFault : {L : Type 0} → (L → ℕ) → List L → Type 0
SomeFault faults [] = ⊥
SomeFault faults (link ∷ links) = (0 < faults link) ⊎ SomeFault faults links

-- none of these links has faults
abbrev pub NoFault : {L : Type 0} → (L → ℕ) → List L → Type 0
NoFault faults [] = Unit {0}
NoFault faults (link ∷ links) = (faults link ≡ 0) × NoFault faults links

-- the state of ports: the numbers of bound and released ports, which ports were released, and the number of faults
pub record PortsSeen (L : Type 0) : Type 0 where
  pub bound : ℕ
  pub back : ℕ
  pub returned : Option (List L)
  pub faults : ℕ

abbrev pub seen_ports : {L : Type 0} → ℕ → ℕ → Option (List L) → ℕ → PortsSeen L
seen_ports bound back returned faults = record { bound = bound; back = back; returned = returned; faults = faults }

-- A port wasn't bound: one bind failed, and no further bind was made. The ports of the lines before it were bound, in order, and released.
pub record WasUnbound {L : Type 0} (traffic : L → Option Traffic) (faults name : L → ℕ) (lines : List PortLine) (old new : PortsSeen L) : Type 0 where
  pub jobs : List (Job L)
  pub fewer : length jobs < length lines
  pub fresh : AreFresh (take (length jobs) lines) (befores traffic faults jobs)
  -- the K-th job has the K-th port
  pub names : AreNamedFrom name 0 (map (λ job. job.link) jobs)
  pub bound : new.bound ≡ length jobs
  pub back : new.back ≡ length jobs
  pub returned : new.returned ≡ after_backs (map (λ job. job.link) jobs) old.returned
  pub once : new.faults ≡ raised old.faults
