-- The retransmissions of each port of a configuration can be distinguished from other packets.
use Rattle.std.proofs.Common.{◌≡◌, ℕ, ◌+◌, Bool, true, false, cond, leb, ltb, List, [], ◌∷◌, ◌++◌, length, refl, ◌∙◌, Option, Some, None}
use Rattle.std.specs.Prelude.{◌&&◌, IsTrue}
use Rattle.std.proofs.lemmas.List.Folds.{list_all-append}
use Rattle.sfu_base.specs.declared.call.Call.{Call}
use Rattle.sfu_base.specs.declared.call.Call.TheVariants.{Publish, Join}
use Rattle.sfu_driver.specs.Scan.{Scan, More, Whole, NoUnit}
use Rattle.sfu_driver.specs.Input.{Line, lines_of, said}
use Rattle.sfu_script.specs.declared.ports.PortLine.{PortLine}
use Rattle.sfu_script.specs.Ports.{is_apart, port_of}
use Rattle.sfu_script.specs.ReadLines.{call_of}
use Rattle.sfu_script.specs.Skipped.{is_skipped}
use Rattle.sfu_script.proofs.PortLaws.{port_found}
use Rattle.port_config.specs.ports.Script.{Configured, Said, Makes, Serves, Setup, all_apart, and_said, configuration_of, makes_first, may_follow, nothing_said, or_port, said_behind, said_by, stops_at, with_line, with_said}

-- ---- one line

not_first : (call : Call) (port : PortLine) → makes_first call ≡ Some (Serves port) → ⊥
not_first (Publish track kind ssrc hold) port e = absurd (cc e)
not_first (Join subscriber track ssrc first wish) port e = absurd (cc e)
not_first other port e = absurd (cc e)

port_said : (found : Option Call) (read : Option PortLine) (port : PortLine) → or_port found read ≡ Some (Serves port) → read ≡ Some port
port_said None None port e = absurd (cc e)
port_said None (Some p) port e = cc e
port_said (Some call) read port e = absurd (not_first call port e)

line_apart : (text : List ℕ) (port : PortLine) → said_by text ≡ Some (Serves port) → IsTrue (is_apart port.role)
line_apart text port e = (port_found text port (port_said (call_of text) (port_of text) port e)).0

both : (a b : Bool) → a ≡ true → b ≡ true → (a && b) ≡ true
both true b p q = q
both false b p q = p

apart_more : (ports : List PortLine) (port : PortLine) → IsTrue (all_apart ports) → IsTrue (is_apart port.role) → IsTrue (all_apart (ports ++ port ∷ []))
apart_more ports port all one =
    list_all-append (λ p. is_apart p.role) ports (port ∷ []) ∙ both (all_apart ports) (all_apart (port ∷ [])) all (both (is_apart port.role) true one refl)

-- ---- all lines

apart_with : (setup : Setup) (seen : Scan) (n : ℕ) (next : Setup → Configured) → IsTrue (all_apart setup.ports) → ((later : Setup) → IsTrue (all_apart later.ports) → IsTrue (all_apart (next later).setup.ports))
    → IsTrue (all_apart (with_line setup seen n next).setup.ports)
apart_with setup More n next all rest = rest setup all
apart_with setup NoUnit n next all rest = all
apart_with setup (Whole text) n next all rest = go (leb n 4294967295) (is_skipped text) (said_by text) refl
  where
    by_room : (port : PortLine) (may : Bool) → IsTrue (is_apart port.role) → IsTrue (all_apart (cond may (next (and_said setup (Serves port))) (stops_at setup n)).setup.ports)
    by_room port true one = rest (and_said setup (Serves port)) (apart_more setup.ports port all one)
    by_room port false one = all

    by_said : (x : Said) → said_by text ≡ Some x → IsTrue (all_apart (cond (may_follow setup x) (next (and_said setup x)) (stops_at setup n)).setup.ports)
    by_said (Makes call) is = rest (and_said setup (Makes call)) all
    by_said (Serves port) is = by_room port (ltb (length setup.ports) 64) (line_apart text port is)

    go : (b skipped : Bool) (found : Option Said) → said_by text ≡ found → IsTrue (all_apart (cond b (cond skipped (next setup) (with_said setup found n next)) (stops_at setup n)).setup.ports)
    go false skipped found is = all
    go true true found is = rest setup all
    go true false None is = all
    go true false (Some x) is = by_said x is

apart_behind : (lines : List Line) (n : ℕ) (setup : Setup) → IsTrue (all_apart setup.ports) → IsTrue (all_apart (said_behind setup lines n).setup.ports)
apart_behind [] n setup all = all
apart_behind (line ∷ lines) n setup all = apart_with setup (said line) n (λ later. said_behind later lines (n + 1)) all (λ later. apart_behind lines (n + 1) later)

pub apart_ports : (bytes : List ℕ) → IsTrue (all_apart (configuration_of bytes).setup.ports)
apart_ports bytes = apart_behind (lines_of bytes) 1 nothing_said refl
