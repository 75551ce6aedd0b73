-- Each call of a line or record is one that the code can receive, so the accepted calls of a script are well formed.
use Rattle.std.proofs.Common.{zero, suc, ◌≡◌, ◌<◌, ℕ, ◌+◌, Bool, true, false, cond, leb, eqb, List, [], ◌∷◌, ◌++◌, map, refl, sym, subst, arith, Option, Some, None}
use Rattle.std.specs.Prelude.{fold}
use Rattle.std.specs.List.{AllByRecursion}
use Rattle.sfu_base.specs.Bytes.{AreBytes}
use Rattle.sfu_base.specs.declared.call.Call.{Call}
use Rattle.sfu_base.specs.declared.call.Call.TheVariants as call
use Rattle.sfu_driver.specs.Scan.{Scan, More, Whole, NoUnit}
use Rattle.sfu_driver.specs.Input.{judged_lines, last_unit, lines_of, said, units_of, with_unit}
use Rattle.script_texts.specs.Lines.{HasLine, IsLine}
use Rattle.sfu_script.proofs.LineLaws.{call_found}
use Rattle.script_records.specs.Kinds.{may_have}
use Rattle.script_records.proofs.RecordLaws as records
use Rattle.room_core.specs.History.{after_entry}
use Rattle.room_core.specs.WellFormed.{AreWellFormed, IsValue}
use Rattle.room_core.proofs.WellFormed.{well_formed_after}
use Rattle.room_core.proofs.Promising.{headline}
use Rattle.script_records.specs.declared.form.Form.{Form}
use Rattle.script_records.specs.declared.form.Form.TheVariants.{Lines, Records}
use Rattle.script_records.specs.RecordCut.{body_so_far, header_so_far, is_header, is_length, length_said, record_scan, record_scan_end, record_so_far, unit_so_far}
use Rattle.script_run.specs.Run.{entry_of}
use Rattle.script_records.specs.Script.{Script, call_in, calls_of, first_number, form_of, is_silent, script_of, script_so_far, stops_at, units_in, units_so_far, with_call}
use Rattle.script_records.specs.Script as script
use Rattle.script_run.specs.Promise.{AreServed, IsOfBytes, IsServed}

pub line_is_value : (c : Call) (line : List ℕ) → IsLine c line → IsValue c
line_is_value (call.Join subscriber track ssrc first wish) line says = says.3.3.3.2.0
line_is_value (call.Publish track kind ssrc hold) line says = tt
line_is_value (call.Unpublish track) line says = tt
line_is_value (call.Packet track moment bytes) line says = tt
line_is_value (call.Tick track moment) line says = tt
line_is_value (call.Leave subscriber) line says = tt
line_is_value (call.Aim subscriber wish) line says = tt
line_is_value (call.Take subscriber) line says = tt
line_is_value (call.Resend subscriber sequence) line says = tt
line_is_value (call.Missing track) line says = tt
line_is_value (call.KeyWanted track) line says = tt
line_is_value (call.Plead subscriber) line says = tt
line_is_value (call.Why subscriber number) line says = tt

within_is_value : (c : Call) → HasLine c → IsValue c
within_is_value (call.Join subscriber track ssrc first wish) within = within.1.1.1.0
within_is_value (call.Publish track kind ssrc hold) within = tt
within_is_value (call.Unpublish track) within = tt
within_is_value (call.Packet track moment bytes) within = tt
within_is_value (call.Tick track moment) within = tt
within_is_value (call.Leave subscriber) within = tt
within_is_value (call.Aim subscriber wish) within = tt
within_is_value (call.Take subscriber) within = tt
within_is_value (call.Resend subscriber sequence) within = tt
within_is_value (call.Missing track) within = tt
within_is_value (call.KeyWanted track) within = tt
within_is_value (call.Plead subscriber) within = tt
within_is_value (call.Why subscriber number) within = tt

-- ---- the bytes of records

abbrev IsByte : ℕ → Type 0
IsByte b = b < 256

abbrev AllBytes : List ℕ → Type 0
AllBytes bytes = AllByRecursion IsByte bytes

all_bytes : (bytes : List ℕ) → AreBytes bytes → AllBytes bytes
all_bytes [] are = tt
all_bytes (b ∷ bytes) are = (are 0, all_bytes bytes (λ i. are (suc i)))

are_bytes : (bytes : List ℕ) → AllBytes bytes → AreBytes bytes
are_bytes [] all i = omega arith
are_bytes (b ∷ bytes) all zero = all.0
are_bytes (b ∷ bytes) all (suc i) = are_bytes bytes all.1 i

one_more : (kept : List ℕ) (b : ℕ) → AllBytes kept → IsByte b → AllBytes (kept ++ b ∷ [])
one_more [] b all fits = (fits, tt)
one_more (x ∷ kept) b all fits = (all.0, one_more kept b all.1 fits)

front_bytes : (front rest : List ℕ) → AllBytes (front ++ rest) → AllBytes front
front_bytes [] rest all = tt
front_bytes (b ∷ front) rest all = (all.0, front_bytes front rest all.1)

-- the call of a unit is one that the code can receive
abbrev Fits : Form → List ℕ → Type 0
Fits Lines text = Unit {0}
Fits Records text = AllBytes text

abbrev FitsScan : Form → Scan → Type 0
FitsScan form More = Unit {0}
FitsScan form (Whole text) = Fits form text
FitsScan form NoUnit = Unit {0}

abbrev AllFit : Form → List Scan → Type 0
AllFit form units = AllByRecursion (FitsScan form) units

lines_fit : (units : List Scan) → AllFit Lines units
lines_fit [] = tt
lines_fit (More ∷ units) = (tt, lines_fit units)
lines_fit (Whole text ∷ units) = (tt, lines_fit units)
lines_fit (NoUnit ∷ units) = (tt, lines_fit units)

header_fits : (bytes : List ℕ) → AllBytes bytes → FitsScan Records (header_so_far bytes)
header_fits [] all = tt
header_fits (a ∷ []) all = tt
header_fits (a ∷ b ∷ []) all = tt
header_fits (a ∷ b ∷ c ∷ []) all = tt
header_fits (a ∷ b ∷ c ∷ d ∷ []) all = by_test (is_header a b c d)
  where
    by_test : (t : Bool) → FitsScan Records (cond t (Whole (a ∷ b ∷ c ∷ d ∷ [])) NoUnit)
    by_test true = all
    by_test false = tt
header_fits (a ∷ b ∷ c ∷ d ∷ e ∷ more) all = tt

body_fits : (count : ℕ) (body : List ℕ) → AllBytes body → FitsScan Records (body_so_far count body)
body_fits count [] all = by_test (is_length count)
  where
    by_test : (t : Bool) → FitsScan Records (cond t More NoUnit)
    by_test true = tt
    by_test false = tt
body_fits count (kind ∷ fields) all = by_test (may_have kind count) _
  where
    by_test : (t whole : Bool) → FitsScan Records (cond t (cond whole (Whole (kind ∷ fields)) More) NoUnit)
    by_test true true = all
    by_test true false = tt
    by_test false whole = tt

record_fits : (bytes : List ℕ) → AllBytes bytes → FitsScan Records (record_so_far bytes)
record_fits [] all = tt
record_fits (a ∷ []) all = tt
record_fits (a ∷ b ∷ body) all = body_fits (length_said a b) body all.1.1

unit_fits : (n : ℕ) (bytes : List ℕ) → AllBytes bytes → FitsScan Records (unit_so_far n bytes)
unit_fits n bytes all = by_test (eqb n 0)
  where
    by_test : (t : Bool) → FitsScan Records (cond t (header_so_far bytes) (record_so_far bytes))
    by_test true = header_fits bytes all
    by_test false = record_fits bytes all

-- the units of bytes, whatever the last unit is at the end of the input
module _ (scan_end : ℕ → List ℕ → Scan) (last_fits : (n : ℕ) (kept : List ℕ) → FitsScan Records (scan_end n kept)) where
  last_one : (seen : Scan) → FitsScan Records seen → AllFit Records (last_unit seen)
  last_one More fits = tt
  last_one (Whole text) fits = (fits, tt)
  last_one NoUnit fits = (tt, tt)

  by_scan : (seen : Scan) (same next : List Scan) → FitsScan Records seen → AllFit Records same → AllFit Records next → AllFit Records (with_unit seen same next)
  by_scan More same next fits one other = one
  by_scan (Whole text) same next fits one other = (fits, other)
  by_scan NoUnit same next fits one other = (tt, tt)

  units_fit : (n : ℕ) (kept bytes : List ℕ) → AllBytes kept → AllBytes bytes → AllFit Records (units_of record_scan scan_end n kept bytes)
  units_fit n kept [] first all = last_one (scan_end n kept) (last_fits n kept)
  units_fit n kept (b ∷ bytes) first all =
      let one = one_more kept b first all.0 in
      by_scan (record_scan n kept b) _ _ (unit_fits n (kept ++ b ∷ []) one) (units_fit n (kept ++ b ∷ []) bytes one all.1) (units_fit (n + 1) [] bytes tt all.1)

end_fits : (n : ℕ) (kept : List ℕ) → FitsScan Records (record_scan_end n kept)
end_fits n [] = by_test (eqb n 0)
  where
    by_test : (t : Bool) → FitsScan Records (cond t NoUnit More)
    by_test true = tt
    by_test false = tt
end_fits n (b ∷ kept) = tt

whole_fits : (form : Form) (bytes : List ℕ) → IsOfBytes form bytes → AllFit form (units_in form bytes)
whole_fits Lines bytes are = lines_fit (map said (lines_of bytes))
whole_fits Records bytes are = units_fit record_scan_end end_fits 0 [] bytes tt (all_bytes bytes are)

part_fits : (form : Form) (bytes : List ℕ) → IsOfBytes form bytes → AllFit form (units_so_far form bytes)
part_fits Lines bytes are = lines_fit (map said (judged_lines (lines_of bytes)))
part_fits Records bytes are = units_fit (λ _ _. More) (λ n kept. tt) 0 [] bytes tt (all_bytes bytes are)

-- ---- calls

call_fits : (form : Form) (text : List ℕ) (c : Call) → Fits form text → call_in form text ≡ Some c → IsValue c
call_fits Lines text c fits is = line_is_value c text (call_found text c is)
call_fits Records text c fits is = within_is_value c (records.call_found text c (are_bytes text fits) is).within

abbrev AreValues : List Call → Type 0
AreValues calls = AllByRecursion IsValue calls

by_unit : (form : Form) (seen : Scan) (n : ℕ) (others : Script) → FitsScan form seen → AreValues others.calls → AreValues (script.with_unit form seen n others).calls
by_unit form More n others fits all = all
by_unit form NoUnit n others fits all = tt
by_unit form (Whole text) n others fits all = go (leb n 4294967295) (is_silent form n text) (call_in form text) refl
  where
    go : (few silent : Bool) (c : Option Call) → call_in form text ≡ c
        → AreValues (cond few (cond silent others (with_call c n others)) (stops_at n)).calls
    go true true c e = all
    go true false None e = tt
    go true false (Some c) e = (call_fits form text c fits e, all)
    go false silent c e = tt

values : (form : Form) (units : List Scan) (n : ℕ) → AllFit form units → AreValues (calls_of form units n).calls
values form [] n fit = tt
values form (unit ∷ units) n fit = by_unit form unit n (calls_of form units (n + 1)) fit.0 (values form units (n + 1) fit.1)

served_well : (calls past : List Call) → AreValues calls → AreWellFormed past → AreWellFormed (fold after_entry past (map entry_of calls))
served_well [] past all well = well
served_well (c ∷ calls) past all well = served_well calls (after_entry past (entry_of c)) all.1 (well_formed_after past c all.0 well)

-- a prefix of bytes consists of bytes
front_fits : (form : Form) (front rest : List ℕ) → IsOfBytes form (front ++ rest) → IsOfBytes form front
front_fits Lines front rest are = tt
front_fits Records front rest are = are_bytes front (front_bytes front rest (all_bytes (front ++ rest) are))

same_form : (front rest : List ℕ) → IsOfBytes (form_of (front ++ rest)) (front ++ rest) → IsOfBytes (form_of front) front
same_form [] rest are = tt
same_form (b ∷ front) rest are = front_fits (form_of (b ∷ front)) (b ∷ front) rest are

pub bytes_are_served : (bytes : List ℕ) → IsOfBytes (form_of bytes) bytes → IsServed bytes
bytes_are_served bytes are = record {
  whole = headline (map entry_of (script_of bytes).calls)
      (served_well (script_of bytes).calls [] (values (form_of bytes) (units_in (form_of bytes) bytes) (first_number (form_of bytes)) (whole_fits (form_of bytes) bytes are)) tt);
  so_far = λ front rest same.
      let fits = same_form front rest (subst (λ (xs : List ℕ). IsOfBytes (form_of xs) xs) (sym same) are) in
      headline (map entry_of (script_so_far front).calls)
      (served_well (script_so_far front).calls [] (values (form_of front) (units_so_far (form_of front) front) (first_number (form_of front)) (part_fits (form_of front) front fits)) tt);
}

pub are_served : AreServed
are_served bytes are = bytes_are_served bytes are
