-- A configuration has at most 64 ports and at most 4,294,967,295 calls.
use Rattle.std.proofs.Common.{◌≡◌, ℕ, ◌+◌, ◌<◌, ◌≤◌, Bool, true, false, cond, leb, ltb, List, [], ◌∷◌, length, refl, arith, length-append, Option, Some, None}
use Rattle.std.proofs.lemmas.Bool.{leb-true, ltb-true}
use Rattle.sfu_driver.specs.Scan.{Scan, More, Whole, NoUnit}
use Rattle.sfu_driver.specs.Input.{Line, lines_of, said}
use Rattle.sfu_script.specs.declared.ports.PortLine.{PortLine}
use Rattle.sfu_script.specs.Skipped.{is_skipped}
use Rattle.port_config.specs.ports.Script.{Configured, Said, Makes, Serves, Setup, and_said, configuration_of, may_follow, nothing_said, said_behind, said_by, stops_at, with_line, with_said}

ports_with : (setup : Setup) (seen : Scan) (n : ℕ) (next : Setup → Configured) → length setup.ports ≤ 64 → ((later : Setup) → length later.ports ≤ 64 → length (next later).setup.ports ≤ 64) → length (with_line setup seen n next).setup.ports ≤ 64
ports_with setup More n next few rest = rest setup few
ports_with setup NoUnit n next few rest = few
ports_with setup (Whole text) n next few rest = go (leb n 4294967295) (is_skipped text) (said_by text)
  where
    by_room : (port : PortLine) (may : Bool) → ltb (length setup.ports) 64 ≡ may → length (cond may (next (and_said setup (Serves port))) (stops_at setup n)).setup.ports ≤ 64
    by_room port true is = let lt = ltb-true (length setup.ports) 64 is in let k = length-append setup.ports (port ∷ []) in rest (and_said setup (Serves port)) (omega arith)
    by_room port false is = few

    by_said : (x : Said) → length (cond (may_follow setup x) (next (and_said setup x)) (stops_at setup n)).setup.ports ≤ 64
    by_said (Makes call) = rest (and_said setup (Makes call)) few
    by_said (Serves port) = by_room port (ltb (length setup.ports) 64) refl

    go : (b skipped : Bool) (found : Option Said) → length (cond b (cond skipped (next setup) (with_said setup found n next)) (stops_at setup n)).setup.ports ≤ 64
    go false skipped found = few
    go true true found = rest setup few
    go true false None = few
    go true false (Some x) = by_said x

ports_behind : (lines : List Line) (n : ℕ) (setup : Setup) → length setup.ports ≤ 64 → length (said_behind setup lines n).setup.ports ≤ 64
ports_behind [] n setup few = few
ports_behind (line ∷ lines) n setup few = ports_with setup (said line) n (λ later. said_behind later lines (n + 1)) few (λ later. ports_behind lines (n + 1) later)

pub few_ports : (bytes : List ℕ) → length (configuration_of bytes).setup.ports ≤ 64
few_ports bytes = ports_behind (lines_of bytes) 1 nothing_said (omega arith)

calls_with : (setup : Setup) (seen : Scan) (n : ℕ) (next : Setup → Configured) → length setup.calls < n → length setup.calls ≤ 4294967295
    → ((later : Setup) → length later.calls < n + 1 → length later.calls ≤ 4294967295 → length (next later).setup.calls ≤ 4294967295) → length (with_line setup seen n next).setup.calls ≤ 4294967295
calls_with setup More n next low few rest = rest setup (omega arith) few
calls_with setup NoUnit n next low few rest = few
calls_with setup (Whole text) n next low few rest = go (leb n 4294967295) refl (is_skipped text) (said_by text)
  where
    by_room : (port : PortLine) (may : Bool) → length (cond may (next (and_said setup (Serves port))) (stops_at setup n)).setup.calls ≤ 4294967295
    by_room port true = rest (and_said setup (Serves port)) (omega arith) few
    by_room port false = few

    by_said : (x : Said) → n ≤ 4294967295 → length (cond (may_follow setup x) (next (and_said setup x)) (stops_at setup n)).setup.calls ≤ 4294967295
    by_said (Makes call) within = let k = length-append setup.calls (call ∷ []) in rest (and_said setup (Makes call)) (omega arith) (omega arith)
    by_said (Serves port) within = by_room port (ltb (length setup.ports) 64)

    go : (b : Bool) → leb n 4294967295 ≡ b → (skipped : Bool) (found : Option Said) → length (cond b (cond skipped (next setup) (with_said setup found n next)) (stops_at setup n)).setup.calls ≤ 4294967295
    go false is skipped found = few
    go true is true found = rest setup (omega arith) few
    go true is false None = few
    go true is false (Some x) = by_said x (leb-true n 4294967295 is)

calls_behind : (lines : List Line) (n : ℕ) (setup : Setup) → length setup.calls < n → length setup.calls ≤ 4294967295 → length (said_behind setup lines n).setup.calls ≤ 4294967295
calls_behind [] n setup low few = few
calls_behind (line ∷ lines) n setup low few = calls_with setup (said line) n (λ later. said_behind later lines (n + 1)) low few (λ later. calls_behind lines (n + 1) later)

pub few_calls : (bytes : List ℕ) → length (configuration_of bytes).setup.calls ≤ 4294967295
few_calls bytes = calls_behind (lines_of bytes) 1 nothing_said (omega arith) (omega arith)
