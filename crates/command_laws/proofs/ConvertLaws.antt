-- A converted script is read back as the calls of the lines.
use Rattle.std.proofs.Common.{suc, ◌≡◌, ◌≤◌, ◌<◌, ℕ, ◌+◌, ◌-◌, Bool, true, false, cond, leb, eqb, List, [], ◌∷◌, ◌++◌, length, take, drop, map, refl, sym, ap, ◌∙◌, subst, arith, Option, Some, None, append_assoc, append-nil}
use Rattle.std.specs.Prelude.{codes}
use Rattle.std.specs.List.{AllByRecursion}
use Rattle.std.proofs.lemmas.Bool.{eqb-true}
use Rattle.std.proofs.lemmas.Bool.Decides.{nat_tests}
use Rattle.std.proofs.Math.Seq.{take-length}
use Rattle.byteorder.specs.Endian.{big_bytes, big_number}
use Rattle.byteorder.specs.Numbers.{length-bytes_high_first}
use Rattle.sfu_base.specs.declared.call.Call.{Call}
use Rattle.sfu_base.specs.declared.call.Call.TheVariants as call
use Rattle.sfu_base.specs.declared.call.Kind.TheVariants.{Plain, Layered}
use Rattle.sfu_driver.specs.declared.halt.Ending.TheVariants.{Outside}
use Rattle.sfu_driver.specs.Drive.{end_by}
use Rattle.sfu_driver.specs.Input.{Line, last_unit, lines_of, onto_line, said, units_of, with_unit}
use Rattle.sfu_driver.specs.Lines.{ends_in_cr, without_cr}
use Rattle.sfu_driver.specs.Scan.{AllMore, EndsAt, Scan, More, NoUnit, Whole}
use Rattle.script_texts.specs.Lines.{HasLine, IsLine}
use Rattle.sfu_script.specs.ReadLines.{call_of}
use Rattle.sfu_script.specs.Skipped.{is_skipped}
use Rattle.sfu_script.proofs.LineLaws.{call_found}
use Rattle.script_records.specs.Kinds.{is_in_table, may_have}
use Rattle.script_records.specs.ReadRecords as records
use Rattle.script_records.specs.Records.{body_of, record_of}
use Rattle.script_records.proofs.RecordLaws.{again, converted, in_table, length_back}
use Rattle.script_records.specs.declared.form.Form.{Form}
use Rattle.script_records.specs.declared.form.Form.TheVariants.{Lines, Records}
use Rattle.script_records.specs.RecordCut.{record_scan, record_scan_end, record_so_far}
use Rattle.script_records.specs.Script.{Script, calls_of, form_of, script_in, script_of, stops_at, with_call}
use Rattle.script_records.specs.Script as script
use Rattle.script_run.specs.Run.{due_for, due_in, run_due}
use Rattle.sfu_commands.specs.Convert.{convert_due, records_of, silent_end}
use Rattle.script_records.proofs.RecordScans.{by_newest, ends_by, kind_goes, record_is_whole, records_scan}
use Rattle.script_records.proofs.RecordScans as scans

-- ---- a record before other records

units_more : (scan : ℕ → List ℕ → ℕ → Scan) (scan_end : ℕ → List ℕ → Scan) (n : ℕ) (kept front rest : List ℕ) → AllMore (scan n) kept front
    → units_of scan scan_end n kept (front ++ rest) ≡ units_of scan scan_end n (kept ++ front) rest
units_more scan scan_end n kept [] rest going = ap (λ (xs : List ℕ). units_of scan scan_end n xs rest) (sym (append-nil kept))
units_more scan scan_end n kept (b ∷ front) rest going =
    ap (λ (seen : Scan). with_unit seen (units_of scan scan_end n (kept ++ b ∷ []) (front ++ rest)) (units_of scan scan_end (n + 1) [] (front ++ rest))) going.0
    ∙ units_more scan scan_end n (kept ++ b ∷ []) front rest going.1
    ∙ ap (λ (xs : List ℕ). units_of scan scan_end n xs rest) (append_assoc kept (b ∷ []) front)

units_end : (scan : ℕ → List ℕ → ℕ → Scan) (scan_end : ℕ → List ℕ → Scan) (n : ℕ) (piece rest text : List ℕ) → EndsAt (scan n) [] piece (length piece) (Whole text)
    → units_of scan scan_end n [] (piece ++ rest) ≡ Whole text ∷ units_of scan scan_end (n + 1) [] rest
units_end scan scan_end n piece rest text e =
    let whole : piece ≡ e.front ++ e.byte ∷ [] = sym (take-length piece) ∙ e.split in
    ap (λ (xs : List ℕ). units_of scan scan_end n [] (xs ++ rest)) whole
    ∙ ap (units_of scan scan_end n []) (append_assoc e.front (e.byte ∷ []) rest)
    ∙ units_more scan scan_end n [] e.front (e.byte ∷ rest) e.going
    ∙ ap (λ (seen : Scan). with_unit seen (units_of scan scan_end n (e.front ++ e.byte ∷ []) rest) (units_of scan scan_end (n + 1) [] rest)) e.ends

-- a body after the two bytes of its length
record_ends : (head body : List ℕ) (n : ℕ) → 0 < n → length head ≡ 2 → big_number 2 (head ++ body) ≡ length body → is_in_table body ≡ true
    → EndsAt (record_scan n) [] (head ++ body) (length (head ++ body)) (Whole body)
record_ends [] body n above two len ok = absurd (omega arith)
record_ends (a ∷ []) body n above two len ok = absurd (omega arith)
record_ends (a ∷ b ∷ c ∷ head) body n above two len ok = absurd (omega arith)
record_ends (a ∷ b ∷ []) [] n above two len ok = absurd cc
record_ends (a ∷ b ∷ []) (kind ∷ fields) n above two len ok =
    let body = kind ∷ fields in
    let piece = a ∷ b ∷ body in
    let size : scans.said piece ≡ length body = omega (arith, len) in
    let kind_ok : may_have kind (scans.said piece) ≡ true = ap (λ (count : ℕ). may_have kind count) size ∙ ok in
    subst (λ (scan : List ℕ → ℕ → Scan). EndsAt scan [] piece (length piece) (Whole body)) (records_scan n above)
    (ends_by record_so_far [] piece (length piece) (Whole body) (omega arith) (omega arith)
    (λ k some less. kind_goes piece k kind_ok (omega (arith, size)) (omega arith) (omega arith))
    (ap (λ (k : ℕ). record_so_far (take k piece)) (let e : 0 + length piece ≡ length piece = omega arith in e)
    ∙ record_is_whole piece (length piece) kind_ok (omega (arith, size)) (omega arith) (omega arith)
    ∙ ap (λ (xs : List ℕ). Whole (drop 2 xs)) (take-length piece)))

unit_of : (n : ℕ) → 0 < n → (c : Call) → HasLine c → (rest : List ℕ)
    → units_of record_scan record_scan_end n [] (record_of c ++ rest) ≡ Whole (body_of c) ∷ units_of record_scan record_scan_end (n + 1) [] rest
unit_of n above c has rest =
    let body = body_of c in
    units_end record_scan record_scan_end n (record_of c) rest body
    (record_ends (big_bytes 2 (length body)) body n above (length-bytes_high_first 2 (length body)) (length_back c has) (in_table body c (again c has)))

-- ---- all records

abbrev AllHaveLines : List Call → Type 0
AllHaveLines calls = AllByRecursion HasLine calls

-- the number of the last line is at most 4,294,967,295
abbrev AreFew : List Call → ℕ → Type 0
AreFew calls n = 0 < length calls → length calls + n ≤ 4294967296

read_back : (calls : List Call) (n : ℕ) → 0 < n → AllHaveLines calls → AreFew calls n
    → calls_of Records (units_of record_scan record_scan_end n [] (records_of calls)) n ≡ record { calls = calls; fault = None }
read_back [] n above has few =
    let e : eqb n 0 ≡ false = grind (arith, nat_tests) in
    ap (λ (t : Bool). calls_of Records (last_unit (cond t NoUnit More)) n) e
read_back (c ∷ calls) n above has few =
    let small : n ≤ 4294967295 = let f = few (omega arith) in omega arith in
    let e1 : leb n 4294967295 ≡ true = grind (arith, nat_tests) in
    let e2 : eqb n 0 ≡ false = grind (arith, nat_tests) in
    let others = calls_of Records (units_of record_scan record_scan_end (n + 1) [] (records_of calls)) (n + 1) in
    let rest : others ≡ record { calls = calls; fault = None } = read_back calls (n + 1) (omega arith) has.1 (λ some. let f = few (omega arith) in omega arith) in
    ap (λ (units : List Scan). calls_of Records units n) (unit_of n above c has.0 (records_of calls))
    ∙ ap (λ (t : Bool). cond t (cond (eqb n 0) others (with_call (records.call_of (body_of c)) n others)) (stops_at n)) e1
    ∙ ap (λ (t : Bool). cond t others (with_call (records.call_of (body_of c)) n others)) e2
    ∙ ap (λ (said : Option Call). with_call said n others) (again c has.0)
    ∙ ap (λ (s : Script). with_call (Some c) n s) rest

-- ---- the lines

abbrev IsFine : Script → ℕ → Type 0
IsFine s n = AllHaveLines s.calls × AreFew s.calls n

by_unit : (seen : Scan) (n : ℕ) (others : Script) → AllHaveLines others.calls → AreFew others.calls (n + 1) → AllHaveLines (script.with_unit Lines seen n others).calls × AreFew (script.with_unit Lines seen n others).calls n
by_unit More n others has few = (has, λ some. let f = few some in omega arith)
by_unit NoUnit n others has few = (tt, λ some. absurd (omega arith))
by_unit (Whole text) n others has few = go (leb n 4294967295) (is_skipped text) (call_of text) refl refl
  where
    many : (calls : List Call) → n ≤ 4294967295 → (0 < length calls → length calls + (n + 1) ≤ 4294967296) → suc (length calls) + n ≤ 4294967296
    many [] small few = omega arith
    many (c ∷ calls) small few = let f = few (omega arith) in omega arith

    go : (t skipped : Bool) (c : Option Call) → leb n 4294967295 ≡ t → call_of text ≡ c → IsFine (cond t (cond skipped others (with_call c n others)) (stops_at n)) n
    go true true c e is = (has, λ some. let f = few some in omega arith)
    go true false None e is = (tt, λ some. absurd (omega arith))
    go true false (Some c) e is =
        let small : n ≤ 4294967295 = grind (arith, nat_tests) in
        (((converted c text (call_found text c is)).0.within, has), λ some. many others.calls small few)
    go false skipped c e is = (tt, λ some. absurd (omega arith))

lines_fine : (units : List Scan) (n : ℕ) → AllHaveLines (calls_of Lines units n).calls × AreFew (calls_of Lines units n).calls n
lines_fine [] n = (tt, λ some. absurd (omega arith))
lines_fine (unit ∷ units) n = let rest = lines_fine units (n + 1) in by_unit unit n (calls_of Lines units (n + 1)) rest.0 rest.1

-- ---- a script of records as lines

abbrev first_of : List ℕ → ℕ
first_of [] = 0
first_of (b ∷ bytes) = b

worded : (word after text more : List ℕ) → word ≡ text → 0 < first_of text → 0 ∷ more ≡ word ++ 32 ∷ after → ⊥
worded word after [] more is some e = omega arith
worded word after (b ∷ bytes) more is some e =
    let same : 0 ∷ more ≡ b ∷ (bytes ++ 32 ∷ after) = e ∙ ap (λ (xs : List ℕ). xs ++ 32 ∷ after) is in
    let first : 0 ≡ b = cc in omega arith

-- no line begins with a zero byte
no_line : (c : Call) (more : List ℕ) → IsLine c (0 ∷ more) → ⊥
no_line (call.Publish track Plain ssrc hold) more says = worded says.0 says.1 (codes "publish") more says.2 (omega arith) says.4
no_line (call.Publish track (Layered id) ssrc hold) more says = worded says.0 says.1 (codes "publish") more says.2 (omega arith) says.4
no_line (call.Unpublish track) more says = worded says.0 says.1 (codes "unpublish") more says.2 (omega arith) says.4
no_line (call.Packet track moment bytes) more says = worded says.0 says.1 (codes "packet") more says.2 (omega arith) says.4
no_line (call.Tick track moment) more says = worded says.0 says.1 (codes "tick") more says.2 (omega arith) says.4
no_line (call.Join subscriber track ssrc first wish) more says = worded says.0 says.1 (codes "join") more says.2 (omega arith) says.4
no_line (call.Leave subscriber) more says = worded says.0 says.1 (codes "leave") more says.2 (omega arith) says.4
no_line (call.Aim subscriber wish) more says = worded says.0 says.1 (codes "aim") more says.2 (omega arith) says.4
no_line (call.Take subscriber) more says = worded says.0 says.1 (codes "take") more says.2 (omega arith) says.4
no_line (call.Resend subscriber sequence) more says = worded says.0 says.1 (codes "resend") more says.2 (omega arith) says.4
no_line (call.Missing track) more says = worded says.0 says.1 (codes "missing") more says.2 (omega arith) says.4
no_line (call.KeyWanted track) more says = worded says.0 says.1 (codes "key") more says.2 (omega arith) says.4
no_line (call.Plead subscriber) more says = worded says.0 says.1 (codes "plead") more says.2 (omega arith) says.4
no_line (call.Why subscriber number) more says = worded says.0 says.1 (codes "why") more says.2 (omega arith) says.4

no_call : (more : List ℕ) → call_of (0 ∷ more) ≡ None
no_call more = go (call_of (0 ∷ more)) refl
  where
    go : (c : Option Call) → call_of (0 ∷ more) ≡ c → c ≡ None
    go None e = refl
    go (Some c) e = absurd (no_line c more (call_found (0 ∷ more) c e))

-- if a line begins with a zero byte, its text does too
begins : (l : List ℕ) (ended : Bool) → (more : List ℕ) × (cond ended (without_cr (0 ∷ l)) (0 ∷ l) ≡ 0 ∷ more)
begins l false = (l, refl)
begins [] true = ([], refl)
begins (y ∷ l) true = by_cr (ends_in_cr (y ∷ l))
  where
    by_cr : (cr : Bool) → (more : List ℕ) × (cond cr (take (length (0 ∷ y ∷ l) - 1) (0 ∷ y ∷ l)) (0 ∷ y ∷ l) ≡ 0 ∷ more)
    by_cr true = let e : length (0 ∷ y ∷ l) - 1 ≡ suc (length l) = omega arith in (take (length l) (y ∷ l), ap (λ (n : ℕ). take n (0 ∷ y ∷ l)) e)
    by_cr false = (y ∷ l, refl)

breaks : (text : List ℕ) (others : Script) → (more : List ℕ) × (text ≡ 0 ∷ more) → script.with_unit Lines (Whole text) 1 others ≡ stops_at 1
breaks text others is =
    ap (λ (xs : List ℕ). script.with_unit Lines (Whole xs) 1 others) is.1 ∙ ap (λ (c : Option Call). with_call c 1 others) (no_call is.0)

first_breaks : (l : List ℕ) (ended : Bool) (others : Script) → script.with_unit Lines (said (record { bytes = 0 ∷ l; ended = ended })) 1 others ≡ stops_at 1
first_breaks l ended others = by_length (leb (length (0 ∷ l)) 4200)
  where
    text : List ℕ
    text = cond ended (without_cr (0 ∷ l)) (0 ∷ l)

    by_length : (t : Bool) → script.with_unit Lines (cond t (Whole text) NoUnit) 1 others ≡ stops_at 1
    by_length true = breaks text others (begins l ended)
    by_length false = refl

zero_breaks : (lines : List Line) → calls_of Lines (map said (onto_line 0 lines)) 1 ≡ stops_at 1
zero_breaks [] = first_breaks [] false (calls_of Lines [] 2)
zero_breaks (l ∷ lines) = first_breaks l.bytes l.ended (calls_of Lines (map said lines) 2)

pub records_no_lines : (bytes : List ℕ) → form_of bytes ≡ Records → script_in Lines bytes ≡ stops_at 1
records_no_lines [] is = absurd cc
records_no_lines (b ∷ bytes) is = ap (λ (x : ℕ). script_in Lines (x ∷ bytes)) (zero_is (eqb b 0) refl is) ∙ zero_breaks (lines_of bytes)
  where
    zero_is : (t : Bool) → eqb b 0 ≡ t → cond t Records Lines ≡ Records → b ≡ 0
    zero_is true e same = eqb-true b 0 e
    zero_is false e same = absurd cc

-- ---- both

no_fault : (fault : Option ℕ) → silent_end fault ≡ None → fault ≡ None
no_fault None is = refl
no_fault (Some number) is = absurd cc

with_fault : (s : Script) → s.fault ≡ None → s ≡ record { calls = s.calls; fault = None }
with_fault s is = ap (λ (f : Option ℕ). let r : Script = record { calls = s.calls; fault = f } in r) is

-- a script of records isn't a script of lines
line_form : (bytes : List ℕ) (form : Form) → form_of bytes ≡ form → (convert_due bytes).end ≡ None → form_of bytes ≡ Lines
line_form bytes Lines is calm = is
line_form bytes Records is calm =
    let bad : Some (end_by Outside []) ≡ None = sym (ap (λ (s : Script). silent_end s.fault) (records_no_lines bytes is)) ∙ calm in absurd cc

pub calls_alike : (bytes : List ℕ) → (convert_due bytes).end ≡ None → script_of (convert_due bytes).text ≡ script_of bytes
calls_alike bytes calm =
    let s = script_in Lines bytes in
    let fine = lines_fine (map said (lines_of bytes)) 1 in
    read_back s.calls 1 (omega arith) fine.0 fine.1 ∙ sym (with_fault s (no_fault s.fault calm))
    ∙ sym (ap (λ (form : Form). script_in form bytes) (line_form bytes (form_of bytes) refl calm))

same_form : (form : Form) (s : Script) → s.fault ≡ None → due_for form s [] ≡ due_for Lines s []
same_form Lines s is = refl
same_form Records s is = ap (λ (q : Script). due_for Records q []) (with_fault s is) ∙ sym (ap (λ (q : Script). due_for Lines q []) (with_fault s is))

pub replies_alike : (bytes : List ℕ) → (convert_due bytes).end ≡ None → run_due (convert_due bytes).text ≡ run_due bytes
replies_alike bytes calm =
    let s = script_in Lines bytes in
    let lines = line_form bytes (form_of bytes) refl calm in
    ap (λ (q : Script). due_for Records q []) (calls_alike bytes calm ∙ ap (λ (form : Form). script_in form bytes) lines)
    ∙ same_form Records s (no_fault s.fault calm)
    ∙ sym (ap (λ (form : Form). due_in form bytes) lines)
