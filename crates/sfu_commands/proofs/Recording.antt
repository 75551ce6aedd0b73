-- The text that is due for lines of packets, one after another, is the file of the frames that a recorder
-- takes from them. Or it is the recorder's first fault, or the fault of the first line that isn't a packet.
use Rattle.std.proofs.Common.{◌≡◌, ◌⊎◌, inl, inr, ℕ, ◌+◌, Bool, true, false, cond, leb, List, [], ◌∷◌, ◌++◌, map, refl, sym, ap, ◌∙◌, arith, append_assoc, append-nil, Option, Some, None}
use Rattle.ivf_recorder.specs.declared.fault.RecordFault.{RecordFault}
use Rattle.ivf_recorder.specs.Frames.{fault_over, ivf_over}
use Rattle.sfu_driver.specs.declared.halt.Ending.{Ending}
use Rattle.sfu_driver.specs.declared.halt.Ending.TheVariants as ending
use Rattle.sfu_driver.specs.Drive.{outside_end}
use Rattle.sfu_driver.specs.Exchange.{exchange_by}
use Rattle.sfu_driver.specs.Outcome.{End, Outcome, goes_on, takes, then_due}
use Rattle.sfu_driver.specs.Scan.{Scan, More, Whole, NoUnit}
use Rattle.sfu_driver.specs.Lines.{line_scan, line_scan_end}
use Rattle.sfu_driver.specs.Point.{Rule, byte, due, is_outside, judged}
use Rattle.sfu_driver.specs.Input.{Line, due_all, judged_all, judged_lines, lines_of, said}
use Rattle.sfu_driver.specs.Statuses.{Due, due_of, status_of}
use Rattle.sfu_driver.specs.Units.{rule_of}
use Rattle.sfu_driver.proofs.Cutting.{at}
use Rattle.sfu_driver.proofs.LineInputs.{due_is_lines, judged_is_lines}
use Rattle.sfu_script.specs.Reading.{bytes_of}
use Rattle.sfu_script.specs.Skipped.{is_skipped}
use Rattle.script_texts.specs.WholeLines.{fault_line}
use Rattle.sfu_commands.specs.PacketScript.{PacketScript, breaks_at, packets_of, with_packet, with_packet_line}
use Rattle.sfu_commands.specs.Check.{Reception, bytes_in, unless_ended, with_one}
use Rattle.sfu_commands.specs.Record.{IsRecordStatus, Records, end_from, end_unless, file_of, record_due, record_part, recorded, recorded_as, records}

-- the verdicts on the lines of packets
abbrev pub record_rule : Rule Reception
record_rule = rule_of line_scan line_scan_end recorded fault_line file_of

abbrev came_so : ℕ → List (List ℕ) → Reception
came_so id came = record { id = id; packets = came }

-- what is due for the rest of a script, if this text is due at its end
abbrev rest_due : (List (List ℕ) → List ℕ) → ℕ → List (List ℕ) → PacketScript → Due
rest_due text id came script = unless_ended (end_from id came script.packets (outside_end fault_line script.fault)) (text (came ++ bytes_in script.packets))

module _ (text : List (List ℕ) → List ℕ) (id n : ℕ) (next : Reception → Outcome Reception) (others : PacketScript)
    (rest : (came : List (List ℕ)) → due_of (next (came_so id came)) ≡ rest_due text id came others) (came : List (List ℕ)) where
  by_fault : (bytes : List ℕ) (o : Option RecordFault) → fault_over id (came ++ bytes ∷ []) ≡ o
      → due_of (then_due (recorded_as o n (with_one (came_so id came) bytes)) next)
      ≡ unless_ended (end_unless o n (end_from id (came ++ bytes ∷ []) others.packets (outside_end fault_line others.fault))) (text (came ++ bytes ∷ bytes_in others.packets))
  by_fault bytes None is =
      rest (came ++ bytes ∷ [])
      ∙ ap (λ (x : List (List ℕ)). unless_ended (end_from id (came ++ bytes ∷ []) others.packets (outside_end fault_line others.fault)) (text x)) (append_assoc came (bytes ∷ []) (bytes_in others.packets))
  by_fault bytes (Some f) is = refl

  by_test : (few skipped : Bool) (packet : Option (List ℕ))
      → due_of (then_due (cond few (cond skipped (goes_on (came_so id came)) (records packet n (came_so id came))) (is_outside (fault_line n))) next)
      ≡ rest_due text id came (cond few (cond skipped others (with_packet packet n others)) (breaks_at n))
  by_test true true packet = rest came
  by_test true false None = refl
  by_test true false (Some bytes) = by_fault bytes (fault_over id (came ++ bytes ∷ [])) refl
  by_test false skipped packet = refl

  by_line : (seen : Scan) → due_of (then_due (judged record_rule (came_so id came) n seen) next) ≡ rest_due text id came (with_packet_line seen n others)
  by_line More = rest came
  by_line NoUnit = refl
  by_line (Whole line) = by_test (leb n 4294967295) (is_skipped line) (bytes_of line)

due_packets : (id : ℕ) (lines : List Line) (n : ℕ) (came : List (List ℕ)) → due_of (due_all record_rule (map said lines) n (came_so id came)) ≡ rest_due (ivf_over id) id came (packets_of lines n)
due_packets id [] n came = ap (λ (x : List (List ℕ)). record { text = ivf_over id x; end = None }) (sym (append-nil came))
due_packets id (line ∷ lines) n came =
    by_line (ivf_over id) id n (λ later. due_all record_rule (map said lines) (n + 1) later) (packets_of lines (n + 1)) (λ later. due_packets id lines (n + 1) later) came (said line)

judged_packets : (id : ℕ) (lines : List Line) (n : ℕ) (came : List (List ℕ)) → due_of (judged_all record_rule (map said lines) n (came_so id came)) ≡ rest_due (λ _. []) id came (packets_of lines n)
judged_packets id [] n came = refl
judged_packets id (line ∷ lines) n came =
    by_line (λ _. []) id n (λ later. judged_all record_rule (map said lines) (n + 1) later) (packets_of lines (n + 1)) (λ later. judged_packets id lines (n + 1) later) came (said line)

no_text : (end : Option End) → unless_ended end [] ≡ record { text = []; end = end }
no_text None = refl
no_text (Some end) = refl

pub record_is_due : (id : ℕ) (bytes : List ℕ) → due_of (due record_rule (at (came_so id []) 1 []) bytes) ≡ record_due id bytes
record_is_due id bytes =
    ap due_of (due_is_lines recorded fault_line file_of (came_so id []) 1 [] bytes refl (omega arith)) ∙ due_packets id (lines_of bytes) 1 []

pub record_is_part : (id : ℕ) (bytes : List ℕ) → due_of (takes (byte record_rule) (at (came_so id []) 1 []) bytes) ≡ record_part id bytes
record_is_part id bytes =
    judged_is_lines recorded fault_line file_of (came_so id []) 1 [] bytes refl (omega arith) ∙ (judged_packets id (judged_lines (lines_of bytes)) 1 []
    ∙ no_text (end_from id [] (packets_of (judged_lines (lines_of bytes)) 1).packets (outside_end fault_line (packets_of (judged_lines (lines_of bytes)) 1).fault)))

-- ---- statuses

pub record_only : (id : ℕ) (left left' w w' : Option (List ℕ)) (g g' f f' status : ℕ) → Records id (exchange_by left left' w w' g g' f f') status → IsRecordStatus status
record_only id left left' w w' g g' f f' status records = by_status records.only
  where
    by_why : (why : Ending) → status ≡ status_of why → IsRecordStatus status
    by_why ending.Outside is = inr (inr (inr (inl is)))
    by_why ending.Complaint is = inr (inr (inr (inr (inr (inl is)))))
    by_why ending.Obu is = inr (inr (inr (inr (inr (inr is)))))

    by_status : (status ≡ 0) ⊎ (status ≡ 3) ⊎ (status ≡ 4) ⊎ (status ≡ 6) ⊎ ((bytes : List ℕ) × (end : End) × ((record_due id bytes).end ≡ Some end) × (status ≡ status_of end.why)) → IsRecordStatus status
    by_status (inl is) = inl is
    by_status (inr (inl is)) = inr (inl is)
    by_status (inr (inr (inl is))) = inr (inr (inl is))
    by_status (inr (inr (inr (inl is)))) = inr (inr (inr (inr (inl is))))
    by_status (inr (inr (inr (inr x)))) = by_why (x.1).why x.3
