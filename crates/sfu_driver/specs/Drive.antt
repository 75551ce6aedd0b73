-- What a command reads from its source and writes to its sink.
use Rattle.std.specs.Prelude.{◌≡◌, ◌⊎◌, ℕ, ◌<◌, ◌≤◌, List, [], ◌++◌, length, take, Option, Some, None, IsOk, MatchResult, Result, Ok, Err}
use Rattle.std.specs.Io.KnownBytes.{Appends, Consumes, IsAtEnd}
use Rattle.sfu_base.specs.Faults.{Rose, raised}
use Rattle.sfu_driver.specs.declared.halt.Ending.{Ending}
use Rattle.sfu_driver.specs.declared.halt.Ending.TheVariants.{Outside}
use Rattle.sfu_driver.specs.declared.halt.Halt.{Halt}
use Rattle.sfu_driver.specs.declared.halt.Halt.TheVariants.{Ended, Starved}
use Rattle.sfu_driver.specs.declared.halt.Interruption.{Interruption}
use Rattle.sfu_driver.specs.declared.halt.Interruption.TheVariants.{SourceFault, SinkFault, Halted}
use Rattle.sfu_driver.specs.Outcome.{End, Outcome, ends_with, takes, then_due}
use Rattle.sfu_driver.specs.Reads.{BeginsWith, most_bytes}

-- ---- texts that were written

-- A prefix of this text was written, possibly all of it.
abbrev pub WritesFront : Option (List ℕ) → Option (List ℕ) → List ℕ → Type 0
WritesFront written written' all = (text : List ℕ) × (more : List ℕ) × Appends written written' text × (all ≡ text ++ more)

-- A strict prefix of this text was written.
pub record WritesPart (written written' : Option (List ℕ)) (all : List ℕ) : Type 0 where
  pub text : List ℕ
  pub more : List ℕ
  pub wrote : Appends written written' text
  pub split : all ≡ text ++ more
  pub missing : 0 < length more

-- All of this text was written, and then the last text. If the sink failed, only a prefix of the last text was written.
pub record WritesEnd (written written' : Option (List ℕ)) (faults faults' : ℕ) (text last : List ℕ) : Type 0 where
  pub front : List ℕ
  pub more : List ℕ
  pub wrote : Appends written written' (text ++ front)
  pub split : last ≡ front ++ more
  pub whole : Rose faults faults' ⊎ (more ≡ [])

-- ---- a unit, and the bytes of a piece

-- the reason why a command ends, and its last text
abbrev pub end_by : Ending → List ℕ → End
end_by why text = record { why = why; text = text }

-- the end at a unit outside the grammar, if there is such a unit: the last text names its number
abbrev pub outside_end : (ℕ → List ℕ) → Option ℕ → Option End
outside_end text None = None
outside_end text (Some number) = Some (end_by Outside (text number))

-- The due text was appended to `ready`, and the object is in the next state. Or the command
-- ends, and only its last text was appended. Or memory ran out, and nothing was appended.
abbrev pub Judges : {U S : Type 0} → (U → S → Type 0) → Outcome S → U → List ℕ → List ℕ → Result (Unit {0}) Halt → Type 0
Judges {U} {S} stands due new ready ready' (Ok _) = (later : S) × (due.result ≡ Ok later) × stands new later × (ready' ≡ ready ++ due.text)
Judges {U} {S} stands due new ready ready' (Err (Ended why)) = (last : List ℕ) × (due ≡ ends_with why last) × (ready' ≡ ready ++ last)
Judges {U} {S} stands due new ready ready' (Err Starved) = ready' ≡ ready

-- The same for the bytes of a piece: for the first `count` bytes, or for all of them if the command ends.
abbrev pub Nexts : {U S : Type 0} → (U → S → Type 0) → (S → ℕ → Outcome S) → S → List ℕ → U → List ℕ → List ℕ → Result ℕ Halt → Type 0
Nexts stands byte state piece new ready ready' (Ok count) = Judges stands (takes byte state (take count piece)) new ready ready' (Ok tt)
Nexts stands byte state piece new ready ready' (Err halt) = Judges stands (takes byte state piece) new ready ready' (Err halt)

-- The text that was written if a unit ends the command.
abbrev pub Halts : Interruption → Halt → List ℕ → List ℕ → Option (List ℕ) → Option (List ℕ) → ℕ → ℕ → Type 0
Halts SourceFault halt ready last written written' faults faults' = ⊥
Halts SinkFault halt ready last written written' faults faults' = Rose faults faults' × WritesPart written written' ready
Halts (Halted (Ended why)) halt ready last written written' faults faults' = (halt ≡ Ended why) × WritesEnd written written' faults faults' ready last
Halts (Halted Starved) halt ready last written written' faults faults' = (halt ≡ Starved) × Appends written written' ready

-- ---- bytes that were taken

-- Bytes were taken. A part of their text was written after the ready texts, the rest of it is ready, and the object is in the next state.
pub record Fed {U S : Type 0} (stands : U → S → Type 0) (byte : S → ℕ → Outcome S) (state : S) (bytes : List ℕ) (new : U) (ready ready' : List ℕ)
    (written written' : Option (List ℕ)) : Type 0 where
  pub later : S
  pub goes : (takes byte state bytes).result ≡ Ok later
  pub at : stands new later
  pub flushed : List ℕ
  pub wrote : Appends written written' flushed
  pub whole : ready ++ (takes byte state bytes).text ≡ flushed ++ ready'

-- For a prefix of the bytes, all texts that are due were written, and the command would continue.
pub record WritesFor {S : Type 0} (byte : S → ℕ → Outcome S) (state : S) (bytes ready : List ℕ) (written written' : Option (List ℕ)) : Type 0 where
  pub front : List ℕ
  pub more : List ℕ
  pub split : bytes ≡ front ++ more
  pub goes : IsOk ((takes byte state front).result)
  pub wrote : Appends written written' (ready ++ (takes byte state front).text)

-- The same; also, memory ran out in the state after that prefix, or the prefix is all of the bytes.
pub record HaltsFor {S : Type 0} (wants : S → Type 0) (byte : S → ℕ → Outcome S) (state : S) (bytes ready : List ℕ)
    (written written' : Option (List ℕ)) : Type 0 where
  pub writes : WritesFor byte state bytes ready written written'
  pub later : S
  pub goes : (takes byte state writes.front).result ≡ Ok later
  pub at : wants later ⊎ (writes.more ≡ [])

-- The text that was written when the command stopped at these bytes, by the reason.
abbrev pub Stopped : {S : Type 0} → (S → Type 0) → Interruption → (S → ℕ → Outcome S) → S → List ℕ → List ℕ → Option (List ℕ) → Option (List ℕ) → ℕ → ℕ → Type 0
Stopped wants SourceFault byte state bytes ready written written' faults faults' =
    IsOk ((takes byte state bytes).result) × Appends written written' (ready ++ (takes byte state bytes).text)
Stopped wants SinkFault byte state bytes ready written written' faults faults' =
    Rose faults faults' × WritesPart written written' (ready ++ (takes byte state bytes).text)
Stopped wants (Halted (Ended why)) byte state bytes ready written written' faults faults' =
    (last : List ℕ) × ((takes byte state bytes).result ≡ Err (end_by why last))
    × WritesEnd written written' faults faults' (ready ++ (takes byte state bytes).text) last
Stopped wants (Halted Starved) byte state bytes ready written written' faults faults' = HaltsFor wants byte state bytes ready written written'

abbrev pub FeedsBy : {U S : Type 0} → (U → S → Type 0) → (U → S → Type 0) → (S → ℕ → Outcome S) → S → List ℕ → U → List ℕ → List ℕ → Option (List ℕ)
    → Option (List ℕ) → ℕ → ℕ → Result (Unit {0}) Interruption → Type 0
FeedsBy wants stands byte state bytes new ready ready' written written' faults faults' (Ok _) = Fed stands byte state bytes new ready ready' written written'
FeedsBy wants stands byte state bytes new ready ready' written written' faults faults' (Err stop) = Stopped
    (wants new) stop byte state bytes ready written written' faults faults'

-- The bytes had this effect, for each state in which the object may have been.
abbrev pub Feeds : {U S : Type 0} → (U → S → Type 0) → (U → S → Type 0) → (S → ℕ → Outcome S) → U → List ℕ → U → List ℕ → List ℕ → Option (List ℕ)
    → Option (List ℕ) → ℕ → ℕ → Result (Unit {0}) Interruption → Type 0
Feeds {U} {S} wants stands byte old bytes new ready ready' written written' faults faults' result =
    (state : S) → stands old state → FeedsBy wants stands byte state bytes new ready ready' written written' faults faults' result

-- The command continues after these bytes, and all texts that are due for them were written first.
abbrev pub WritesFirst : {S : Type 0} → (S → ℕ → Outcome S) → S → List ℕ → Option (List ℕ) → Option (List ℕ) → Type 0
WritesFirst byte state bytes written written' =
    IsOk ((takes byte state bytes).result) × (more : List ℕ) × Appends written written' ((takes byte state bytes).text ++ more)

-- Bytes were taken from the source. `WritesFirst` is true of the bytes before the last piece, and `Feeds` of all bytes.
pub record Took {U S : Type 0} (wants stands : U → S → Type 0) (byte : S → ℕ → Outcome S) (old new : U) (ready ready' : List ℕ)
    (left left' written written' : Option (List ℕ)) (faults faults' : ℕ) (result : Result (Unit {0}) Interruption) : Type 0 where
  pub earlier : List ℕ
  pub piece : List ℕ
  pub consumed : Consumes left left' (earlier ++ piece)
  pub small : length piece ≤ 65536
  pub bounded : length earlier < most_bytes
  pub first : (state : S) → stands old state → WritesFirst byte state earlier written written'
  pub feeds : Feeds wants stands byte old (earlier ++ piece) new ready ready' written written' faults faults' result

-- The same, where the bytes taken begin with those of a first read.
pub record TookBehind {U S : Type 0} (first : List ℕ) (wants stands : U → S → Type 0) (byte : S → ℕ → Outcome S) (old new : U) (ready ready' : List ℕ)
    (left left' written written' : Option (List ℕ)) (faults faults' : ℕ) (result : Result (Unit {0}) Interruption) : Type 0 where
  pub took : Took wants stands byte old new ready ready' left left' written written' faults faults' result
  pub begins : BeginsWith first (took.earlier ++ took.piece)

-- ---- the first fault

-- The count of failed writes when a command stopped. It rose by one if a write stopped the command, by at most one if the input did, and otherwise not.
abbrev pub StopWrites : ℕ → ℕ → Interruption → Type 0
StopWrites writes writes' SinkFault = writes' ≡ raised writes
StopWrites writes writes' (Halted (Ended why)) = (writes' ≡ writes) ⊎ (writes' ≡ raised writes)
StopWrites writes writes' (Halted Starved) = writes' ≡ writes
StopWrites writes writes' SourceFault = writes' ≡ writes

-- The count of failed reads when a command stopped. It rose by one if a read stopped the command, and otherwise not.
abbrev pub StopReads : ℕ → ℕ → Interruption → Type 0
StopReads reads reads' SourceFault = reads' ≡ raised reads
StopReads reads reads' SinkFault = reads' ≡ reads
StopReads reads reads' (Halted why) = reads' ≡ reads

-- the count of failed writes, by the command's result
abbrev pub CountsWrites : {T : Type 0} → ℕ → ℕ → Result T Interruption → Type 0
CountsWrites writes writes' result = MatchResult result (λ _. writes' ≡ writes) (λ stop. StopWrites writes writes' stop)

-- the count of failed reads, by the command's result
abbrev pub CountsReads : {T : Type 0} → ℕ → ℕ → Result T Interruption → Type 0
CountsReads reads reads' result = MatchResult result (λ _. reads' ≡ reads) (λ stop. StopReads reads reads' stop)

-- The first call that fails ends a command, and the result says whether it was a read or a write.
pub record CauseOf (reads reads' writes writes' : ℕ) (result : Result (Unit {0}) Interruption) : Type 0 where
  pub reading : CountsReads reads reads' result
  pub writing : CountsWrites writes writes' result

-- ---- the end of the input

-- The text that was written at the end of the input, by the reason why the command stopped there.
abbrev pub EndsBy : {U T : Type 0} → (U → T → Type 0) → Outcome T → U → Option (List ℕ) → Option (List ℕ) → ℕ → ℕ → Result (Unit {0}) Interruption → Type 0
EndsBy {U} {T} stands due new written written' faults faults' (Ok _) = (later : T) × (due.result ≡ Ok later) × stands new later
    × Appends written written' due.text
EndsBy {U} {T} stands due new written written' faults faults' (Err SourceFault) = ⊥
EndsBy {U} {T} stands due new written written' faults faults' (Err SinkFault) = WritesPart written written' due.text
EndsBy {U} {T} stands due new written written' faults faults' (Err (Halted (Ended why))) =
    (last : List ℕ) × (due.result ≡ Err (end_by why last)) × WritesEnd written written' faults faults' due.text last
EndsBy {U} {T} stands due new written written' faults faults' (Err (Halted Starved)) = Appends written written' []

-- ---- the whole input

-- Facts about a command that took these bytes, by the reason why it stopped. All texts that are due for the bytes were written
-- and, at the end of the input, also the text that is due there. If the input ended the command, these bytes or their end did.
abbrev pub DroveBy : {U S T : Type 0} → (U → T → Type 0) → (S → ℕ → Outcome S) → (S → Outcome T) → S → List ℕ → U → Option (List ℕ) → Option (List ℕ)
    → Option (List ℕ) → ℕ → ℕ → Result (Unit {0}) Interruption → Type 0
DroveBy {U} {S} {T} stands byte ends state taken new left' written written' faults faults' (Ok _) =
    IsAtEnd left' × EndsBy stands (then_due (takes byte state taken) ends) new written written' faults faults' (Ok tt)
DroveBy {U} {S} {T} stands byte ends state taken new left' written written' faults faults' (Err SourceFault) =
    IsOk ((takes byte state taken).result) × Appends written written' (takes byte state taken).text
DroveBy {U} {S} {T} stands byte ends state taken new left' written written' faults faults' (Err SinkFault) =
    WritesPart written written' (takes byte state taken).text ⊎ (IsAtEnd left' × WritesPart written written' (then_due (takes byte state taken) ends).text)
DroveBy {U} {S} {T} stands byte ends state taken new left' written written' faults faults' (Err (Halted (Ended why))) =
    (((last : List ℕ) × ((takes byte state taken).result ≡ Err (end_by why last))) ⊎ IsAtEnd left')
    × EndsBy stands (then_due (takes byte state taken) ends) new written written' faults faults' (Err (Halted (Ended why)))
DroveBy {U} {S} {T} stands byte ends state taken new left' written written' faults faults'
    (Err (Halted Starved)) = WritesFor byte state taken [] written written'

-- Bytes were taken from the source. `WritesFirst` is true of the bytes before the last piece, and `DroveBy` of all bytes.
pub record Drove {U S T : Type 0} (stands : U → T → Type 0) (byte : S → ℕ → Outcome S) (ends : S → Outcome T) (state : S) (new : U)
    (left left' written written' : Option (List ℕ)) (faults faults' : ℕ) (result : Result (Unit {0}) Interruption) : Type 0 where
  pub earlier : List ℕ
  pub piece : List ℕ
  pub consumed : Consumes left left' (earlier ++ piece)
  pub small : length piece ≤ 65536
  pub bounded : length earlier < most_bytes
  pub first : WritesFirst byte state earlier written written'
  pub by_result : DroveBy stands byte ends state (earlier ++ piece) new left' written written' faults faults' result

-- The same, where the bytes taken begin with those of a first read.
pub record DroveBehind {U S T : Type 0} (first : List ℕ) (stands : U → T → Type 0) (byte : S → ℕ → Outcome S) (ends : S → Outcome T) (state : S)
    (new : U) (left left' written written' : Option (List ℕ)) (faults faults' : ℕ) (result : Result (Unit {0}) Interruption) : Type 0 where
  pub drove : Drove stands byte ends state new left left' written written' faults faults' result
  pub begins : BeginsWith first (drove.earlier ++ drove.piece)

-- If memory ran out, all texts that are due for the bytes before were written.
abbrev pub Starves : {U S : Type 0} → (U → S → Type 0) → (S → ℕ → Outcome S) → S → U → Option (List ℕ) → Option (List ℕ) → Option (List ℕ)
    → Option (List ℕ) → Result (Unit {0}) Interruption → Type 0
Starves wants byte state new left left' written written' (Err (Halted Starved)) =
    (taken : List ℕ) × Consumes left left' taken × HaltsFor (wants new) byte state taken [] written written'
Starves wants byte state new left left' written written' other = Unit {0}
