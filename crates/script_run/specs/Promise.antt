-- The guarantees for the subscribers of a script. Own statement. By the statuses of `run`, its
-- replies are those of the script's history. These guarantees hold for every such history.
use Rattle.std.specs.Prelude.{◌≡◌, ℕ, List, ◌++◌, map}
use Rattle.room_core.specs.History.{Entry, accepted}
use Rattle.room_core.specs.Headline.{Headline}
use Rattle.sfu_base.specs.Bytes.{AreBytes}
use Rattle.script_records.specs.declared.form.Form.{Form}
use Rattle.script_records.specs.declared.form.Form.TheVariants.{Lines, Records}
use Rattle.script_run.specs.Run.{entry_of}
use Rattle.script_records.specs.Script.{Script, form_of, script_of, script_so_far}

-- the history of a script's calls
abbrev pub history_of : Script → List Entry
history_of script = map entry_of script.calls

-- The guarantees (`Headline`) hold for the history of the script with these bytes, and for the history of each prefix of the bytes.
pub record IsServed (bytes : List ℕ) : Type 0 where
  pub whole : Headline (accepted (history_of (script_of bytes)))
  pub so_far : (front rest : List ℕ) → front ++ rest ≡ bytes → Headline (accepted (history_of (script_so_far front)))

-- In a script of records each item is a byte, since its numbers are made of bytes. In a script of lines its numbers are made of digits.
abbrev pub IsOfBytes : Form → List ℕ → Type 0
IsOfBytes Lines bytes = Unit {0}
IsOfBytes Records bytes = AreBytes bytes

-- The same for all bytes that a source may have, whether contracts see them or not.
abbrev pub AreServed : Type 0
AreServed = (bytes : List ℕ) → IsOfBytes (form_of bytes) bytes → IsServed bytes
