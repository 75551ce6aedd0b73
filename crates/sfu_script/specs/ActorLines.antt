-- The lines of actors that run at the same time: `@K` and the line of a call, with K from 1 to 8. Own rule.
use Rattle.std.specs.Prelude.{◌≡◌, ℕ, ◌-◌, ◌≤◌, ◌==◌, ◌&&◌, nat_le, if◌then◌else◌, List, [], ◌∷◌, ◌++◌, Option, Some, None, codes, decimal}
use Rattle.sfu_base.specs.declared.call.Call.{Call}
use Rattle.script_texts.specs.Lines.{IsLine}
use Rattle.sfu_script.specs.Reading.{◌>>=◌, cut}
use Rattle.sfu_script.specs.ReadLines.{call_of}

-- The line is one of this actor with this call.
pub record IsActorLine (actor : ℕ) (call : Call) (line : List ℕ) : Type 0 where
  pub first : 1 ≤ actor
  pub last : actor ≤ 8
  pub rest : List ℕ
  pub said : IsLine call rest
  pub is : line ≡ codes "@" ++ (decimal actor ++ (32 ∷ rest))

-- the actor of a word `@K`
abbrev pub actor_of : List ℕ → Option ℕ
actor_of (mark ∷ digit ∷ []) = if mark == 64 && (nat_le 49 digit && nat_le digit 56) then Some (digit - 48) else None
actor_of word = None

-- the actor and the call of a line
abbrev pub actor_call_of : List ℕ → Option (ℕ × Call)
actor_call_of line = do
  parts ← cut line
  actor ← actor_of parts.0
  call ← call_of parts.1
  Some (actor, call)
