-- What a link records, and what contracts see of a link in memory. Own rule.
use Rattle.std.specs.Prelude.{◌≡◌, ℕ, ◌==◌, Bool, false, List, [], ◌∷◌, ◌++◌, drop, Option, Some, None, Result, Ok, Err, MatchResult, if◌then◌else◌}
use Rattle.std.specs.List.{list_any}
use Rattle.sfu_base.specs.Faults.{raised}

-- The receives and the sent datagrams of a link, in order. Each receive returned a datagram or none.
pub record Traffic : Type 0 where
  pub received : List (Option (List ℕ))
  pub sent : List (List ℕ)

-- the record of a link before its first call
abbrev pub no_traffic : Traffic
no_traffic = record { received = []; sent = [] }

-- the record with these receives and these sent datagrams appended, if the link keeps a record
abbrev pub with_more : List (Option (List ℕ)) → List (List ℕ) → Option Traffic → Option Traffic
with_more received sent None = None
with_more received sent (Some traffic) = Some (record { received = traffic.received ++ received; sent = traffic.sent ++ sent })

-- what a receive returned: the bytes of the buffer, or none
abbrev pub datagram : Bool → List ℕ → Option (List ℕ)
datagram came bytes = if came then Some bytes else None

-- a receive is appended to the record; a failed one changes nothing
abbrev pub after_receive : {E : Type 0} → Result Bool E → List ℕ → Option Traffic → Option Traffic
after_receive (Ok came) bytes traffic = with_more (datagram came bytes ∷ []) [] traffic
after_receive (Err why) bytes traffic = traffic

-- a sent datagram is appended to the record; a failed send changes nothing
abbrev pub after_send : {T E : Type 0} → Result T E → List ℕ → Option Traffic → Option Traffic
after_send (Ok done) bytes traffic = with_more [] (bytes ∷ []) traffic
after_send (Err why) bytes traffic = traffic

-- a receive changes its buffer only if a datagram came
abbrev pub FillsOnlyWhere : {E : Type 0} → Result Bool E → List ℕ → List ℕ → Type 0
FillsOnlyWhere result before now = MatchResult result (λ came. came ≡ false → now ≡ before) (λ _. now ≡ before)

-- A link in memory: the remaining prepared datagrams; its traffic; the numbers, counted from 0, of the receives and of the sends that are
-- to fail; how many of each were made, at most 2^64 - 1; its name; and the count of faults. The code keeps a position in its datagrams.
pub record LinkInMemory : Type 0 where
  pub prepared : List (List ℕ)
  pub traffic : Traffic
  pub failing_receives : List ℕ
  pub failing_sends : List ℕ
  pub receives : ℕ
  pub sends : ℕ
  pub name : ℕ
  pub faults : ℕ

-- a link in memory before its first call, and before ports set its name
abbrev pub fresh : List (List ℕ) → List ℕ → List ℕ → LinkInMemory
fresh prepared failing_receives failing_sends =
    record {
      prepared = prepared;
      traffic = no_traffic;
      failing_receives = failing_receives;
      failing_sends = failing_sends;
      receives = 0;
      sends = 0;
      name = 0;
      faults = 0;
    }

-- no call was made yet
abbrev pub IsFresh : LinkInMemory → Type 0
IsFresh link = link ≡ fresh link.prepared link.failing_receives link.failing_sends

-- the datagram that comes next, if one is left
abbrev pub next_of : List (List ℕ) → Option (List ℕ)
next_of [] = None
next_of (bytes ∷ rest) = Some bytes

-- the call with this number is one of those that are to fail
abbrev pub is_listed : ℕ → List ℕ → Bool
is_listed place failing = list_any (λ other. other == place) failing

-- after a receive that failed: one more receive, one more fault
abbrev pub failed_receive : LinkInMemory → LinkInMemory
failed_receive link = record link { receives = raised link.receives; faults = raised link.faults }

-- after a receive that returned this result: the result is appended to the traffic, and the first prepared datagram is removed
abbrev pub received : LinkInMemory → Option (List ℕ) → LinkInMemory
received link brought =
    record link {
      prepared = drop 1 link.prepared;
      traffic = record { received = link.traffic.received ++ brought ∷ []; sent = link.traffic.sent };
      receives = raised link.receives;
    }

-- after a send that failed: one more send, one more fault
abbrev pub failed_send : LinkInMemory → LinkInMemory
failed_send link = record link { sends = raised link.sends; faults = raised link.faults }

-- after a send: the datagram is appended to the traffic
abbrev pub sent : LinkInMemory → List ℕ → LinkInMemory
sent link bytes =
    record link {
      traffic = record { received = link.traffic.received; sent = link.traffic.sent ++ bytes ∷ [] };
      sends = raised link.sends;
    }
