-- The command-line words, and the command that they name. Own rule.
use Rattle.std.specs.Prelude.{◌≡◌, ℕ, List, [], ◌∷◌, Option, Some, None, codes}
use Rattle.sfu_commands.specs.declared.words.Command.{Command}
use Rattle.sfu_commands.specs.declared.words.Command.TheVariants.{Run, Convert, Simulcast, Help, Check, Record, Trial, Cascade}
use Rattle.sfu_commands.specs.Convert.{IsConvert}
use Rattle.sfu_commands.specs.Check.{IsCheck}
use Rattle.sfu_commands.specs.Record.{IsRecord}
use Rattle.sfu_commands.specs.Help.{IsHelp}
use Rattle.sfu_commands.specs.StreamWords.{IsCascade, IsTrial}

-- the command `run`, which `script_run` implements
abbrev pub IsRun : List (List ℕ) → Type 0
IsRun words = words ≡ codes "run" ∷ []

-- the command `simulcast`, which `sfu_program` implements
abbrev pub IsSimulcast : List (List ℕ) → Type 0
IsSimulcast words = words ≡ codes "simulcast" ∷ []

-- the words are those of this command
abbrev pub Says : List (List ℕ) → Command → Type 0
Says words Run = IsRun words
Says words Convert = IsConvert words
Says words Simulcast = IsSimulcast words
Says words Help = IsHelp words
Says words (Check id) = IsCheck words id
Says words (Record id) = IsRecord words id
Says words (Trial frames start loss) = IsTrial words (record { frames = frames; start = start; loss = loss })
Says words (Cascade frames start loss) = IsCascade words (record { frames = frames; start = start; loss = loss })

-- the words are those of some command
abbrev pub IsForm : List (List ℕ) → Type 0
IsForm words = (command : Command) × Says words command

-- the command that the words name, if they name one
abbrev pub Reads : List (List ℕ) → Option Command → Type 0
Reads words (Some command) = Says words command
Reads words None = ¬ (IsForm words)

-- the command that a single word names, if it names one
abbrev pub ReadsWord : List ℕ → Option Command → Type 0
ReadsWord word command = Reads (word ∷ []) command

-- the command that two words name, if they name one
abbrev pub ReadsTwo : List ℕ → List ℕ → Option Command → Type 0
ReadsTwo word id command = Reads (word ∷ id ∷ []) command

-- the command that four words name, if they name one
abbrev pub ReadsFour : List ℕ → List ℕ → List ℕ → List ℕ → Option Command → Type 0
ReadsFour name frames start loss command = Reads (name ∷ frames ∷ start ∷ loss ∷ []) command
