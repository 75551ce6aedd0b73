-- The meaning of the bytes of a script for `together`: an opening part of plain lines, then lines of actors, then a closing part of plain
-- lines. Own rule. The code never has a whole script at once: it reads pieces of any size, and collects the calls of the lines in lists.
use Rattle.std.specs.Prelude.{◌≡◌, ℕ, ◌+◌, ◌==◌, ◌||◌, nat_le, if◌then◌else◌, Bool, true, false, List, [], ◌∷◌, ◌++◌, map, Option, Some, None}
use Rattle.sfu_base.specs.declared.call.Call.{Call}
use Rattle.sfu_driver.specs.Input.{Line, judged_lines, lines_of, said}
use Rattle.sfu_driver.specs.Scan.{Scan, More, Whole, NoUnit}
use Rattle.script_texts.specs.declared.journal.Actors.{Actors}
use Rattle.sfu_script.specs.ActorLines.{actor_call_of}
use Rattle.sfu_script.specs.ReadLines.{call_of}
use Rattle.sfu_script.specs.Skipped.{is_skipped}

-- ---- a line

-- a call and its actor, 1 to 8; the actor of a plain line is 0
pub record Said : Type 0 where
  pub actor : ℕ
  pub call : Call

abbrev pub of_actor : Option (ℕ × Call) → Option Said
of_actor None = None
of_actor (Some by) = Some (record { actor = by.0; call = by.1 })

abbrev pub or_actor : Option Call → Option (ℕ × Call) → Option Said
or_actor None by = of_actor by
or_actor (Some call) by = Some (record { actor = 0; call = call })

-- the meaning of a line, if it is a call's line or an actor's
abbrev pub said_by : List ℕ → Option Said
said_by line = or_actor (call_of line) (actor_call_of line)

-- ---- the parts of lines

abbrev pub is_plain : Said → Bool
is_plain said = said.actor == 0

-- the calls of one actor, in order; for 0 those of plain lines
abbrev pub calls_by : ℕ → List Said → List Call
calls_by actor [] = []
calls_by actor (x ∷ xs) = if x.actor == actor then x.call ∷ calls_by actor xs else calls_by actor xs

-- the plain lines before the first line of an actor
abbrev pub opening_of : List Said → List Call
opening_of [] = []
opening_of (x ∷ xs) = if is_plain x then x.call ∷ opening_of xs else []

-- the plain lines after the first line of an actor
abbrev pub closing_of : List Said → List Call
closing_of [] = []
closing_of (x ∷ xs) = if is_plain x then closing_of xs else calls_by 0 xs

-- the calls of each actor, those of actor 1 first
abbrev pub acts_of : List Said → List (List Call)
acts_of xs = map (λ actor. calls_by actor xs) (1 ∷ 2 ∷ 3 ∷ 4 ∷ 5 ∷ 6 ∷ 7 ∷ 8 ∷ [])

-- These are the parts of the lines.
pub record AreActors (xs : List Said) (actors : Actors) : Type 0 where
  pub opening : actors.opening ≡ opening_of xs
  pub acts : actors.actors ≡ acts_of xs
  pub closing : actors.closing ≡ closing_of xs

-- ---- a whole script

abbrev pub is_empty : {A : Type 0} → List A → Bool
is_empty [] = true
is_empty (x ∷ xs) = false

-- This line may follow the earlier lines: no line of an actor follows a line of the closing part.
abbrev pub may_follow : List Said → Said → Bool
may_follow past next = is_plain next || is_empty (closing_of past)

-- the meanings of the lines before the first one outside the grammar, and the number of that line, if there is one
pub record Lines : Type 0 where
  pub said : List Said
  pub fault : Option ℕ

-- the line with this number is outside the grammar
abbrev pub stops_at : List Said → ℕ → Lines
stops_at past number = record { said = past; fault = Some number }

abbrev pub with_said : List Said → Option Said → ℕ → (List Said → Lines) → Lines
with_said past None number next = stops_at past number
with_said past (Some x) number next = if may_follow past x then next (past ++ x ∷ []) else stops_at past number

-- A line with this text, and then the others. There are at most 100,000 lines, including those that are skipped.
abbrev pub with_text : List Said → List ℕ → ℕ → (List Said → Lines) → Lines
with_text past text number next =
    if nat_le number 100000 then (if is_skipped text then next past else with_said past (said_by text) number next) else stops_at past number

abbrev pub with_line : List Said → Scan → ℕ → (List Said → Lines) → Lines
with_line past More number next = next past
with_line past (Whole text) number next = with_text past text number next
with_line past NoUnit number next = stops_at past number

-- the meaning of lines that follow lines with this meaning; the first has this number
abbrev pub said_behind : List Said → List Line → ℕ → Lines
said_behind past [] number = record { said = past; fault = None }
said_behind past (line ∷ lines) number = with_line past (said line) number (λ later. said_behind later lines (number + 1))

-- the meaning of a whole script
abbrev pub together_script : List ℕ → Lines
together_script bytes = said_behind [] (lines_of bytes) 1

-- the meaning of the lines that are judged before the end of the script is reached
abbrev pub together_so_far : List ℕ → Lines
together_so_far bytes = said_behind [] (judged_lines (lines_of bytes)) 1
