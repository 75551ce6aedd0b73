-- The sessions of a configuration's ports have possible roles.
use Rattle.std.proofs.Common.{◌≡◌, ◌≢◌, ◌<◌, ℕ, zero, suc, Bool, true, false, ltb, List, [], ◌∷◌, length, get_or, refl, sym, subst, arith, eq-eqb, Option}
use Rattle.std.specs.Prelude.{◌==◌, ◌&&◌, ◌||◌, not, nat_lt, nat_le, IsTrue}
use Rattle.std.proofs.lemmas.Bool.{ltb-true}
use Rattle.sfu_base.specs.Links.{Traffic}
use Rattle.sfu_script.specs.declared.ports.PortLine.{PortLine}
use Rattle.sfu_script.specs.declared.ports.PortRole.{PortRole}
use Rattle.sfu_script.specs.declared.ports.PortRole.TheVariants as line
use Rattle.sfu_script.specs.Ports.{is_apart}
use Rattle.sfu_serve.specs.declared.run.Job.{Job}
use Rattle.sfu_serve.specs.Runs.{CanBe}
use Rattle.port_config.specs.ports.Script.{all_apart}
use Rattle.sfu_program.specs.ServePorts.{AreFresh, befores, role_of}

first_true : (a b : Bool) → (a && b) ≡ true → a ≡ true
first_true true b e = refl
first_true false b e = e

second_true : (a b : Bool) → (a && b) ≡ true → b ≡ true
second_true true b e = e
second_true false b e = cc

not_same : (x y : ℕ) → not (x == y) ≡ true → x ≢ y
not_same x y e = λ same. let is = eq-eqb x y same in cc

seven_bits : (p : ℕ) → (nat_lt p 64 || (nat_le 96 p && nat_lt p 128)) ≡ true → p < 128
seven_bits p e = go (ltb p 64) refl e
  where
    go : (b : Bool) → ltb p 64 ≡ b → (b || (nat_le 96 p && nat_lt p 128)) ≡ true → p < 128
    go true low e = let less = ltb-true p 64 low in omega (arith, less)
    go false low e = ltb-true p 128 (second_true (nat_le 96 p) (nat_lt p 128) e)

can_be : (role : PortRole) → IsTrue (is_apart role) → CanBe (role_of role)
can_be (line.Publisher track ssrc) apart = tt
can_be (line.Subscriber subscriber ssrc) apart = tt
can_be line.Control apart = tt
can_be (line.Rtx subscriber ssrc rtx_ssrc payload_type) apart = (
  not_same rtx_ssrc ssrc (first_true (not (rtx_ssrc == ssrc)) _ apart),
  seven_bits payload_type (second_true (not (rtx_ssrc == ssrc)) _ apart),
)

module _ {L : Type 0} (traffic : L → Option Traffic) (faults : L → ℕ) where
  -- the role of each job whose port was bound for a line of a configuration is possible
  pub can_all : (lines : List PortLine) (jobs : List (Job L)) → AreFresh lines (befores traffic faults jobs) → IsTrue (all_apart lines)
      → (i : ℕ) (d : Job L) → i < length jobs → CanBe (get_or jobs i d).role
  can_all lines [] fresh apart i d low = absurd (omega (arith, low))
  can_all [] (j ∷ js) fresh apart i d low = absurd fresh
  can_all (l ∷ ls) (j ∷ js) fresh apart zero d low = subst CanBe (sym fresh.0.role) (can_be l.role (first_true (is_apart l.role) (all_apart ls) apart))
  can_all (l ∷ ls) (j ∷ js) fresh apart (suc i) d low = can_all ls js fresh.1 (second_true (is_apart l.role) (all_apart ls) apart) i d (omega (arith, low))
