-- What ports record and count, and what contracts see of ports in memory. Own rule.
use Rattle.std.specs.Prelude.{◌≡◌, ℕ, ◌+◌, ◌<◌, ◌≤◌, ◌==◌, List, [], ◌∷◌, ◌++◌, drop, Option, Some, None, Result, Ok, Err, if◌then◌else◌}
use Rattle.std.specs.Option.{option_map}
use Rattle.sfu_base.specs.Faults.{Rose, raised}
use Rattle.sfu_base.specs.Links.{LinkInMemory, Traffic, fresh, no_traffic}

-- how many ports are bound after a call of bind: one more if it succeeded
abbrev pub after_bind : {T E : Type 0} → Result T E → ℕ → ℕ
after_bind (Ok port) count = count + 1
after_bind (Err why) count = count

-- a port that comes back is appended to the recorded list
abbrev pub after_back : {P : Type 0} → P → Option (List P) → Option (List P)
after_back port returned = option_map (λ ports. ports ++ port ∷ []) returned

-- a link that records nothing, or whose record is still empty
abbrev pub has_no_traffic_yet : Option Traffic → Type 0
has_no_traffic_yet None = Unit {0}
has_no_traffic_yet (Some traffic) = traffic ≡ no_traffic

-- The count never falls, and rises exactly when the port that came back has faults of its own.
pub record CountsBack (own before now : ℕ) : Type 0 where
  pub never_falls : before ≤ now
  pub rises : 0 < own → Rose before now
  pub stays : own ≡ 0 → now ≡ before

-- Ports in memory: the remaining prepared links; the ports that came back; the numbers, counted from 0, of the binds
-- that are to fail; how many binds were made, at most 2^64 - 1; how many ports were bound; and the count of faults.
pub record PortsInMemory : Type 0 where
  pub prepared : List LinkInMemory
  pub returned : List LinkInMemory
  pub failing : List ℕ
  pub binds : ℕ
  pub bound : ℕ
  pub faults : ℕ

-- the first prepared link, or a link with nothing prepared if there is none
abbrev pub first_link : List LinkInMemory → LinkInMemory
first_link [] = fresh [] [] []
first_link (link ∷ rest) = link

-- the link that a bind returns: its name is the number of links bound before it
abbrev pub next_link : ℕ → List LinkInMemory → LinkInMemory
next_link bound prepared = record (first_link prepared) { name = bound }

-- after a bind that failed: one more bind, one more fault
abbrev pub failed_bind : PortsInMemory → PortsInMemory
failed_bind ports = record ports { binds = raised ports.binds; faults = raised ports.faults }

-- after a bind: the first prepared link is removed, and one more port is bound
abbrev pub bound_one : PortsInMemory → PortsInMemory
bound_one ports = record ports { prepared = drop 1 ports.prepared; binds = raised ports.binds; bound = ports.bound + 1 }

-- after a port came back: it is appended to the list, and if it has faults of its own, that is one more fault
abbrev pub came_back : PortsInMemory → LinkInMemory → PortsInMemory
came_back ports port =
    record ports {
      returned = ports.returned ++ port ∷ [];
      faults = if port.faults == 0 then ports.faults else raised ports.faults;
    }

-- no more ports came back than were bound, at most 64 are bound, and capacity for 64 is reserved
pub record HaveCapacity (back bound places : ℕ) : Type 0 where
  pub within : back ≤ bound
  pub limited : bound ≤ 64
  pub reserved : 64 ≤ places
