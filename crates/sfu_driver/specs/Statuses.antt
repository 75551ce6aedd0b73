-- The meaning of each status, for every command that reads its input unit by unit. `whole` is what is due for all bytes of the source and for
-- its end; `part` is what is due for bytes whose end wasn't reached. Contracts may not see the bytes of a source. It has bytes nevertheless,
-- and the clause `every` is about these. If contracts don't see a sink's bytes, they say nothing about the text that was written.
use Rattle.std.specs.Prelude.{◌≡◌, ◌⊎◌, ℕ, ◌<◌, ◌≤◌, List, [], ◌++◌, length, Option, Some, None, IfSome, Result, Ok, Err}
use Rattle.std.specs.Io.KnownBytes.{Appends, Consumes, IsAtEnd}
use Rattle.sfu_base.specs.Faults.{Rose, raised}
use Rattle.sfu_driver.specs.declared.halt.Ending.{Ending}
use Rattle.sfu_driver.specs.declared.halt.Ending.TheVariants as ending
use Rattle.sfu_driver.specs.declared.halt.Halt.TheVariants.{Ended, Starved}
use Rattle.sfu_driver.specs.declared.halt.Interruption.{Interruption}
use Rattle.sfu_driver.specs.declared.halt.Interruption.TheVariants.{SourceFault, SinkFault, Halted}
use Rattle.sfu_driver.specs.declared.statuses.Status.{Status}
use Rattle.sfu_driver.specs.declared.statuses.Status.TheVariants as status
use Rattle.sfu_driver.specs.Outcome.{End, Outcome}
use Rattle.sfu_driver.specs.Drive.{WritesEnd, WritesFront, WritesPart, end_by}
use Rattle.sfu_driver.specs.Reads.{BeginsWith, most_bytes}

-- a text and, if the input ends the command after it, the reason and the last text
pub record Due : Type 0 where
  pub text : List ℕ
  pub end : Option End

abbrev pub end_of : {S : Type 0} → Result S End → Option End
end_of (Ok state) = None
end_of (Err end) = Some end

-- an outcome without its state
abbrev pub due_of : {S : Type 0} → Outcome S → Due
due_of outcome = record { text = outcome.text; end = end_of outcome.result }

-- a text put before the text that is due
abbrev pub text_before : List ℕ → Due → Due
text_before text due = record { text = text ++ due.text; end = due.end }

-- the last text, if there is one
abbrev pub last_text : Option End → List ℕ
last_text None = []
last_text (Some end) = end.text

-- all texts that are due
abbrev pub full_text : Due → List ℕ
full_text due = due.text ++ last_text due.end

-- the status for the reason why the input ends the command
abbrev pub status_of : Ending → ℕ
status_of ending.Outside = 5
status_of ending.Complaint = 8
status_of ending.Obu = 10

-- the status of a command
abbrev pub status_for : Result (Unit {0}) Interruption → ℕ
status_for (Ok _) = 0
status_for (Err SourceFault) = 3
status_for (Err SinkFault) = 4
status_for (Err (Halted Starved)) = 6
status_for (Err (Halted (Ended why))) = status_of why

-- the program's exit status
abbrev pub number_of : Status → ℕ
number_of status.Done = 0
number_of status.NoCommand = 2
number_of status.SourceFault = 3
number_of status.SinkFault = 4
number_of status.NoMemory = 6
number_of status.PortFault = 7
number_of (status.Ended why) = status_of why

-- If nothing outside fails, the status is that of the input, or the one for out of memory.
abbrev pub Completes : Option End → ℕ → Type 0
Completes None status = (status ≡ 0) ⊎ (status ≡ 6)
Completes (Some end) status = (status ≡ status_of end.why) ⊎ (status ≡ 6)

-- no write failed, except one that cut a last text short
abbrev pub KeptOrCut : ℕ → ℕ → Type 0
KeptOrCut writes writes' = (writes' ≡ writes) ⊎ (writes' ≡ raised writes)

-- The first failing read or write ends a command.
pub record FirstFault (reads reads' writes writes' status : ℕ) : Type 0 where
  -- 0 and 6: no read or write failed
  pub none : (status ≡ 0) ⊎ (status ≡ 6) → (reads' ≡ reads) × (writes' ≡ writes)
  -- 3: exactly one read failed
  pub source : status ≡ 3 → (reads' ≡ raised reads) × (writes' ≡ writes)
  -- 4: exactly one write failed
  pub sink : status ≡ 4 → (reads' ≡ reads) × (writes' ≡ raised writes)
  -- 2, 5, 8 and 10: no read failed, and no write except one that cut the last text short
  pub ended : (why : Ending) → status ≡ status_of why → (reads' ≡ reads) × KeptOrCut writes writes'
  pub refused : status ≡ 2 → (reads' ≡ reads) × KeptOrCut writes writes'
  -- 7: no read or write failed, but a port did
  pub ports : status ≡ 7 → (reads' ≡ reads) × (writes' ≡ writes)

-- The bytes taken end the command, or the end of the input does.
abbrev pub Decides : (List ℕ → Due) → Ending → Option (List ℕ) → List ℕ → Type 0
Decides part why left' taken = ((last : List ℕ) × ((part taken).end ≡ Some (end_by why last))) ⊎ IsAtEnd left'

-- The command reads no further than the piece in which it ends: the bytes before the last piece don't end it, and
-- that piece has at most 65,536 bytes. If there are earlier bytes, all texts that are due for them were written.
pub record IsPrompt (part : List ℕ → Due) (left left' written written' : Option (List ℕ)) : Type 0 where
  pub earlier : List ℕ
  pub piece : List ℕ
  pub consumed : Consumes left left' (earlier ++ piece)
  pub small : length piece ≤ 65536
  pub goes : (part earlier).end ≡ None
  pub wrote : 0 < length earlier → (more : List ℕ) × Appends written written' ((part earlier).text ++ more)

-- The meaning of a status for the bytes that were taken.
pub record SaysOf (whole part : List ℕ → Due) (taken : List ℕ) (left' written written' : Option (List ℕ)) (writes writes' status : ℕ) : Type 0 where
  -- 0: the source is at its end, and all texts that are due were written
  pub done : status ≡ 0 → IsAtEnd left' × ((whole taken).end ≡ None) × Appends written written' (whole taken).text
  -- 3: the bytes don't end the command, and the text that is due for them was written
  pub judged : status ≡ 3 → ((part taken).end ≡ None) × Appends written written' (part taken).text
  -- 4: a strict prefix of the text that is due for the bytes was written; at the source's end this text includes the one due there
  pub unwritten : status ≡ 4 → WritesPart written written' (part taken).text ⊎ (IsAtEnd left' × WritesPart written written' (whole taken).text)
  -- 5, 8 and 10: the bytes, or the end of the input, end the command; all texts due
  -- before were written, and then the last text, or a prefix of it if the sink failed
  pub ended : (why : Ending) → status ≡ status_of why → Decides part why left' taken × (last : List ℕ) × ((whole taken).end ≡ Some (end_by why last))
      × WritesEnd written written' writes writes' (whole taken).text last
  -- 6: the text that is due for a prefix of the bytes was written, and that prefix doesn't end the command
  pub memory : status ≡ 6 → (front : List ℕ) × (more : List ℕ) × (taken ≡ front ++ more) × ((part front).end ≡ None)
      × Appends written written' (part front).text
  -- for every status, a prefix of the texts that are due was written
  pub begun : WritesFront written written' (full_text (whole taken))

-- Facts about every source. Units are bounded in length and number, and so are the bytes before the last piece.
pub record OfEvery (whole part : List ℕ → Due) (left left' written written' : Option (List ℕ)) (reads reads' writes writes' status : ℕ) : Type 0 where
  pub prompt : IsPrompt part left left' written written'
  pub bounded : length prompt.earlier < most_bytes
  pub says : SaysOf whole part (prompt.earlier ++ prompt.piece) left' written written' writes writes' status
  -- if nothing outside fails, the status is that of the bytes that were taken, or 6
  pub complete : ¬ (Rose reads reads') → ¬ (Rose writes writes') → Completes (whole (prompt.earlier ++ prompt.piece)).end status
  pub first_fault : FirstFault reads reads' writes writes' status

-- The meaning of a status. The first failure or end that occurs ends the command.
pub record Statuses (whole part : List ℕ → Due) (left left' written written' : Option (List ℕ)) (reads reads' writes writes' status : ℕ) : Type 0 where
  -- 0: the source was read to its end, and all texts that are due were written
  pub done : status ≡ 0 → IfSome left (λ bytes. IsAtEnd left' × ((whole bytes).end ≡ None) × Appends written written' (whole bytes).text)
  -- 3: the source failed; the bytes that were taken don't end the command, and the text that is due for them was written
  pub source : status ≡ 3 → Rose reads reads'
  pub judged : status ≡ 3 → IfSome left (λ bytes. (taken : List ℕ) × Consumes left left' taken × ((part taken).end ≡ None)
      × Appends written written' (part taken).text)
  -- 4: the sink failed; a strict prefix of the text that is due before a last text was written
  pub sink : status ≡ 4 → Rose writes writes'
  pub unwritten : status ≡ 4 → IfSome left (λ bytes. WritesPart written written' (whole bytes).text)
  -- 5, 8 and 10: the input ended the command; all texts due before were written, and then the last text, or a prefix of it if the sink failed
  pub ended : (why : Ending) → status ≡ status_of why → IfSome left (λ bytes. (last : List ℕ) × ((whole bytes).end ≡ Some (end_by why last))
      × WritesEnd written written' writes writes' (whole bytes).text last)
  -- the reason is in the bytes that were taken, whatever follows them, or in the input's end
  pub decided : (why : Ending) → status ≡ status_of why → IfSome left (λ bytes. (taken : List ℕ) × Consumes left left' taken × Decides part why left' taken)
  -- 6: memory ran out; the text that is due for a prefix of the bytes that were taken was written, and that prefix doesn't end the command
  pub memory : status ≡ 6 → IfSome left (λ bytes. (front : List ℕ) × (more : List ℕ) × Consumes left left' (front ++ more) × ((part front).end ≡ None)
      × Appends written written' (part front).text)
  -- for every status, no more was read than was judged, and a prefix of the texts that are due was written
  pub prompt : IfSome left (λ bytes. IsPrompt part left left' written written')
  pub begun : IfSome left (λ bytes. WritesFront written written' (full_text (whole bytes)))
  -- any other status is that of an input that ends the command
  pub only : (status ≡ 0) ⊎ (status ≡ 3) ⊎ (status ≡ 4) ⊎ (status ≡ 6)
      ⊎ ((bytes : List ℕ) × (end : End) × ((whole bytes).end ≡ Some end) × (status ≡ status_of end.why))
  pub complete : ¬ (Rose reads reads') → ¬ (Rose writes writes') → IfSome left (λ bytes. Completes (whole bytes).end status)
  -- for every source, including one whose bytes contracts don't see
  pub every : OfEvery whole part left left' written written' reads reads' writes writes' status

-- The same, where the bytes taken begin with those of a first read.
pub record StatusesBehind (first : List ℕ) (whole part : List ℕ → Due) (left left' written written' : Option (List ℕ))
    (reads reads' writes writes' status : ℕ) : Type 0 where
  pub statuses : Statuses whole part left left' written written' reads reads' writes writes' status
  pub every : OfEvery whole part left left' written written' reads reads' writes writes' status
  pub begins : BeginsWith first (every.prompt.earlier ++ every.prompt.piece)
