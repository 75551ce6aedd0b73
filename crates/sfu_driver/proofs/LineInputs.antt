-- The text that is due for bytes, one after another, is the one due for their lines.
use Rattle.std.proofs.Common.{◌≡◌, ◌≤◌, ◌<◌, ℕ, ◌+◌, Bool, true, false, not, cond, leb, eqb, List, [], ◌∷◌, ◌++◌, length, map, refl, sym, ap, ◌∙◌, subst, arith, Result, Ok, Err, append_assoc, append-nil, length-append}
use Rattle.std.proofs.lemmas.Bool.{and_parts, eqb-true}
use Rattle.std.proofs.lemmas.Bool.Decides.{nat_tests}
use Rattle.sfu_driver.specs.Outcome.{End, Outcome, after, goes_on, takes, then_due}
use Rattle.sfu_driver.specs.Scan.{Scan, More, NoUnit, Whole}
use Rattle.sfu_driver.specs.Lines.{is_unended, line_scan, line_scan_end, short_line, without_cr}
use Rattle.sfu_driver.specs.Point.{Point, Rule, behind, byte, due, ended, ends, judged}
use Rattle.sfu_driver.specs.Units.{rule_of}
use Rattle.sfu_driver.specs.Input.{Line, due_all, is_judged, judged_all, judged_lines, lines_of, onto_line, said}
use Rattle.sfu_driver.specs.Statuses.{Due, due_of, text_before}
use Rattle.sfu_driver.proofs.Takes.{after_same, then_assoc}
use Rattle.sfu_driver.proofs.Cutting.{IsEnd, at, by_scan, end_moves}

-- ---- lines

is_false : (b : Bool) → not b ≡ true → b ≡ false
is_false true h = cc
is_false false h = refl

abbrev line : List ℕ → Bool → Line
line bytes ended = record { bytes = bytes; ended = ended }

-- a line with its LF
lines_of-end : (l rest : List ℕ) → is_unended l ≡ true → lines_of (l ++ 10 ∷ rest) ≡ line l true ∷ lines_of rest
lines_of-end [] rest h = refl
lines_of-end (b ∷ l) rest h =
    let parts = and_parts (not (eqb b 10)) (is_unended l) h in
    ap (λ (t : Bool). cond t (line [] true ∷ lines_of (l ++ 10 ∷ rest)) (onto_line b (lines_of (l ++ 10 ∷ rest)))) (is_false (eqb b 10) parts.0)
    ∙ ap (onto_line b) (lines_of-end l rest parts.1)

-- the first line begins with these bytes
abbrev BeginsWith : List ℕ → List Line → Type 0
BeginsWith front lines = (more : List ℕ) × (t : Bool) × (others : List Line) × (lines ≡ line (front ++ more) t ∷ others)

onto_some : (b : ℕ) (lines : List Line) → BeginsWith (b ∷ []) (onto_line b lines)
onto_some b [] = ([], false, [], refl)
onto_some b (l ∷ lines) = (l.bytes, l.ended, lines, refl)

lines_of-front : (l rest : List ℕ) → is_unended l ≡ true → 0 < length l → BeginsWith l (lines_of (l ++ rest))
lines_of-front [] rest h some = absurd (omega arith)
lines_of-front (b ∷ []) rest h some =
    let parts = and_parts (not (eqb b 10)) (is_unended []) h in
    subst (BeginsWith (b ∷ [])) (sym (ap (λ (t : Bool). cond t (line [] true ∷ lines_of rest) (onto_line b (lines_of rest))) (is_false (eqb b 10) parts.0))) (onto_some b (lines_of rest))
lines_of-front (b ∷ c ∷ l) rest h some =
    let parts = and_parts (not (eqb b 10)) (is_unended (c ∷ l)) h in
    let later = lines_of-front (c ∷ l) rest parts.1 (omega arith) in (
      later.0,
      later.1,
      later.2,
      ap (λ (t : Bool). cond t (line [] true ∷ lines_of ((c ∷ l) ++ rest)) (onto_line b (lines_of ((c ∷ l) ++ rest)))) (is_false (eqb b 10) parts.0) ∙ ap (onto_line b) later.3,
    )

-- a last line without its LF
lines_of-last : (l : List ℕ) → is_unended l ≡ true → 0 < length l → lines_of l ≡ line l false ∷ []
lines_of-last [] h some = absurd (omega arith)
lines_of-last (b ∷ []) h some =
    let parts = and_parts (not (eqb b 10)) (is_unended []) h in
    ap (λ (t : Bool). cond t (line [] true ∷ lines_of []) (onto_line b (lines_of []))) (is_false (eqb b 10) parts.0)
lines_of-last (b ∷ c ∷ l) h some =
    let parts = and_parts (not (eqb b 10)) (is_unended (c ∷ l)) h in
    ap (λ (t : Bool). cond t (line [] true ∷ lines_of (c ∷ l)) (onto_line b (lines_of (c ∷ l)))) (is_false (eqb b 10) parts.0)
    ∙ ap (onto_line b) (lines_of-last (c ∷ l) parts.1 (omega arith))

unended_more : (xs : List ℕ) (b : ℕ) → is_unended xs ≡ true → eqb b 10 ≡ false → is_unended (xs ++ b ∷ []) ≡ true
unended_more [] b h e = rw e refl
unended_more (x ∷ xs) b h e =
    let parts = and_parts (not (eqb x 10)) (is_unended xs) h in rw (parts.0, unended_more xs b parts.1 e) refl

-- ---- the searches

never_more : (l text : List ℕ) → IsEnd (short_line l text)
never_more l text = by_test (leb (length l) 4200)
  where
    by_test : (t : Bool) → IsEnd (cond t (Whole text) NoUnit)
    by_test true = tt
    by_test false = tt

long_said : (l text : List ℕ) → 4200 < length l → short_line l text ≡ NoUnit
long_said l text long = let e : leb (length l) 4200 ≡ false = grind (arith, nat_tests) in ap (λ (t : Bool). cond t (Whole text) NoUnit) e

-- ---- the whole input

-- one byte, and then the others
due_byte : {S : Type 0} (rule : Rule S) (p : Point S) (b : ℕ) (bytes : List ℕ) → due rule p (b ∷ bytes) ≡ then_due (byte rule p b) (λ q. due rule q bytes)
due_byte rule p b bytes = then_assoc (byte rule p b) (λ q. takes (byte rule) q bytes) (λ q. ends rule q)

-- a byte that continues a unit
pub due_more : {S : Type 0} (rule : Rule S) (s : S) (n : ℕ) (kept : List ℕ) (b : ℕ) (bytes : List ℕ) → rule.scan n kept b ≡ More → due rule (at s n kept) (b ∷ bytes) ≡ due rule (at s n (kept ++ b ∷ [])) bytes
due_more {S} rule s n kept b bytes is =
    due_byte rule (at s n kept) b bytes ∙ ap (λ (o : Outcome (Point S)). then_due o (λ q. due rule q bytes)) (by_scan rule s n kept b More is)

-- a byte that ends a unit
pub due_end : {S : Type 0} (rule : Rule S) (s : S) (n : ℕ) (kept : List ℕ) (b : ℕ) (bytes : List ℕ) (seen : Scan) → IsEnd seen → rule.scan n kept b ≡ seen
    → due rule (at s n kept) (b ∷ bytes) ≡ then_due (judged rule s n seen) (λ later. due rule (behind n later) bytes)
due_end {S} rule s n kept b bytes seen end is =
    due_byte rule (at s n kept) b bytes
    ∙ ap (λ (o : Outcome (Point S)). then_due o (λ q. due rule q bytes)) (by_scan rule s n kept b seen is ∙ end_moves rule s n kept b seen end)
    ∙ then_assoc (judged rule s n seen) (λ later. goes_on (behind n later)) (λ q. due rule q bytes)

pub due_same : {S T : Type 0} (o : Outcome S) (f g : S → Outcome T) → ((s : S) → f s ≡ g s) → then_due o f ≡ then_due o g
due_same o f g same = after_same o.text o.result f g same

abbrev line_rule : {S : Type 0} → (S → ℕ → List ℕ → Outcome S) → (ℕ → List ℕ) → (S → List ℕ) → Rule S
line_rule step outside closing = rule_of line_scan line_scan_end step outside closing

pub due_is_lines : {S : Type 0} (step : S → ℕ → List ℕ → Outcome S) (outside : ℕ → List ℕ) (closing : S → List ℕ) (s : S) (n : ℕ) (kept bytes : List ℕ) → is_unended kept ≡ true → length kept ≤ 4200
    → due (line_rule step outside closing) (at s n kept) bytes ≡ due_all (line_rule step outside closing) (map said (lines_of (kept ++ bytes))) n s
due_is_lines step outside closing s n [] [] unended short = refl
due_is_lines {S} step outside closing s n (k ∷ kept) [] unended short =
    sym (ap (λ (lines : List Line). due_all (line_rule step outside closing) (map said lines) n s)
    (ap lines_of (append-nil (k ∷ kept)) ∙ lines_of-last (k ∷ kept) unended (omega arith)))
due_is_lines {S} step outside closing s n kept (b ∷ bytes) unended short =
    by_byte (λ later. due_is_lines step outside closing later (n + 1) [] bytes refl (omega arith)) (λ go le. due_is_lines step outside closing s n (kept ++ b ∷ []) bytes go le)
    (eqb b 10) (leb 4200 (length kept)) refl refl
  where
    rule : Rule S
    rule = line_rule step outside closing

    by_byte : ((later : S) → due rule (behind n later) bytes ≡ due_all rule (map said (lines_of bytes)) (n + 1) later)
        → (is_unended (kept ++ b ∷ []) ≡ true → length (kept ++ b ∷ []) ≤ 4200 → due rule (at s n (kept ++ b ∷ [])) bytes ≡ due_all rule (map said (lines_of ((kept ++ b ∷ []) ++ bytes))) n s)
        → (lf long : Bool) → eqb b 10 ≡ lf → leb 4200 (length kept) ≡ long
        → due rule (at s n kept) (b ∷ bytes) ≡ due_all rule (map said (lines_of (kept ++ b ∷ bytes))) n s
    by_byte next more true long lf_is long_is =
        let seen = short_line kept (without_cr kept) in
        let is : line_scan n kept b ≡ seen = ap (λ (t : Bool). cond t seen (cond (leb 4200 (length kept)) NoUnit More)) lf_is in
        let lf : b ≡ 10 = eqb-true b 10 lf_is in
        due_end rule s n kept b bytes seen (never_more kept (without_cr kept)) is
        ∙ due_same (judged rule s n seen) (λ later. due rule (behind n later) bytes) (λ later. due_all rule (map said (lines_of bytes)) (n + 1) later)
        next
        ∙ sym (ap (λ (lines : List Line). due_all rule (map said lines) n s) (ap (λ (c : ℕ). lines_of (kept ++ c ∷ bytes)) lf ∙ lines_of-end kept bytes unended))
    by_byte next more false false lf_is long_is =
        let seen = short_line kept (without_cr kept) in
        let is : line_scan n kept b ≡ More = ap (λ (t : Bool). cond t seen (cond (leb 4200 (length kept)) NoUnit More)) lf_is ∙ ap (λ (t : Bool). cond t NoUnit More) long_is in
        let less : length kept < 4200 = grind (arith, nat_tests) in
        due_more rule s n kept b bytes is
        ∙ more (unended_more kept b unended lf_is) (omega (arith, length-append kept (b ∷ [])))
        ∙ ap (λ (xs : List ℕ). due_all rule (map said (lines_of xs)) n s) (append_assoc kept (b ∷ []) bytes)
    by_byte next more false true lf_is long_is =
        let seen = short_line kept (without_cr kept) in
        let is : line_scan n kept b ≡ NoUnit = ap (λ (t : Bool). cond t seen (cond (leb 4200 (length kept)) NoUnit More)) lf_is ∙ ap (λ (t : Bool). cond t NoUnit More) long_is in
        let least : 4200 ≤ length kept = grind (arith, nat_tests) in
        let begins = lines_of-front (kept ++ b ∷ []) bytes (unended_more kept b unended lf_is) (omega (arith, length-append kept (b ∷ []))) in
        let first = line ((kept ++ b ∷ []) ++ begins.0) begins.1 in
        let size : 4200 < length ((kept ++ b ∷ []) ++ begins.0) = omega (arith, length-append (kept ++ b ∷ []) begins.0, length-append kept (b ∷ [])) in
        let none : said first ≡ NoUnit = long_said ((kept ++ b ∷ []) ++ begins.0) (cond begins.1 (without_cr ((kept ++ b ∷ []) ++ begins.0)) ((kept ++ b ∷ []) ++ begins.0)) size in
        due_end rule s n kept b bytes NoUnit tt is
        ∙ sym (ap (λ (xs : List ℕ). due_all rule (map said (lines_of xs)) n s) (sym (append_assoc kept (b ∷ []) bytes))
        ∙ ap (λ (lines : List Line). due_all rule (map said lines) n s) begins.3
        ∙ ap (λ (l : Scan). then_due (judged rule s n l) (λ later. due_all rule (map said begins.2) (n + 1) later)) none)

-- ---- the lines that are judged before the end is reached

pub takes_more : {S : Type 0} (rule : Rule S) (s : S) (n : ℕ) (kept : List ℕ) (b : ℕ) (bytes : List ℕ) → rule.scan n kept b ≡ More
    → takes (byte rule) (at s n kept) (b ∷ bytes) ≡ takes (byte rule) (at s n (kept ++ b ∷ [])) bytes
takes_more {S} rule s n kept b bytes is = ap (λ (o : Outcome (Point S)). then_due o (λ q. takes (byte rule) q bytes)) (by_scan rule s n kept b More is)

pub takes_end : {S : Type 0} (rule : Rule S) (s : S) (n : ℕ) (kept : List ℕ) (b : ℕ) (bytes : List ℕ) (seen : Scan) → IsEnd seen → rule.scan n kept b ≡ seen
    → takes (byte rule) (at s n kept) (b ∷ bytes) ≡ then_due (judged rule s n seen) (λ later. takes (byte rule) (behind n later) bytes)
takes_end {S} rule s n kept b bytes seen end is =
    ap (λ (o : Outcome (Point S)). then_due o (λ q. takes (byte rule) q bytes)) (by_scan rule s n kept b seen is ∙ end_moves rule s n kept b seen end)
    ∙ then_assoc (judged rule s n seen) (λ later. goes_on (behind n later)) (λ q. takes (byte rule) q bytes)

-- what follows may be replaced by what has the same texts due
pub then_same : {S T V : Type 0} (o : Outcome S) (f : S → Outcome T) (g : S → Outcome V) → ((s : S) → due_of (f s) ≡ due_of (g s)) → due_of (then_due o f) ≡ due_of (then_due o g)
then_same {S} {T} {V} o f g same = by_result o.result
  where
    by_result : (r : Result S End) → due_of (after o.text r f) ≡ due_of (after o.text r g)
    by_result (Ok s) = ap (λ (d : Due). text_before o.text d) (same s)
    by_result (Err end) = refl

long_judged : (l : List ℕ) (t : Bool) → 4200 < length l → is_judged (line l t) ≡ true
long_judged l true long = refl
long_judged l false long = grind (arith, nat_tests)

short_unjudged : (l : List ℕ) → length l ≤ 4200 → is_judged (line l false) ≡ false
short_unjudged l short = grind (arith, nat_tests)

pub judged_is_lines : {S : Type 0} (step : S → ℕ → List ℕ → Outcome S) (outside : ℕ → List ℕ) (closing : S → List ℕ) (s : S) (n : ℕ) (kept bytes : List ℕ) → is_unended kept ≡ true → length kept ≤ 4200
    → due_of (takes (byte (line_rule step outside closing)) (at s n kept) bytes) ≡ due_of (judged_all (line_rule step outside closing) (map said (judged_lines (lines_of (kept ++ bytes)))) n s)
judged_is_lines step outside closing s n [] [] unended short = refl
judged_is_lines {S} step outside closing s n (k ∷ kept) [] unended short =
    sym (ap (λ (lines : List Line). due_of (judged_all (line_rule step outside closing) (map said (judged_lines lines)) n s)) (ap lines_of (append-nil (k ∷ kept)) ∙ lines_of-last (k ∷ kept) unended (omega arith))
    ∙ ap (λ (t : Bool). due_of (judged_all (line_rule step outside closing) (map said (cond t (line (k ∷ kept) false ∷ []) [])) n s)) (short_unjudged (k ∷ kept) short))
judged_is_lines {S} step outside closing s n kept (b ∷ bytes) unended short =
    by_byte (λ later. judged_is_lines step outside closing later (n + 1) [] bytes refl (omega arith)) (λ go le. judged_is_lines step outside closing s n (kept ++ b ∷ []) bytes go le)
    (eqb b 10) (leb 4200 (length kept)) refl refl
  where
    rule : Rule S
    rule = line_rule step outside closing

    by_byte : ((later : S) → due_of (takes (byte rule) (behind n later) bytes) ≡ due_of (judged_all rule (map said (judged_lines (lines_of bytes))) (n + 1) later))
        → (is_unended (kept ++ b ∷ []) ≡ true → length (kept ++ b ∷ []) ≤ 4200 → due_of (takes (byte rule) (at s n (kept ++ b ∷ [])) bytes) ≡ due_of (judged_all rule (map said (judged_lines (lines_of ((kept ++ b ∷ []) ++ bytes)))) n s))
        → (lf long : Bool) → eqb b 10 ≡ lf → leb 4200 (length kept) ≡ long
        → due_of (takes (byte rule) (at s n kept) (b ∷ bytes)) ≡ due_of (judged_all rule (map said (judged_lines (lines_of (kept ++ b ∷ bytes)))) n s)
    by_byte next more true long lf_is long_is =
        let seen = short_line kept (without_cr kept) in
        let is : line_scan n kept b ≡ seen = ap (λ (t : Bool). cond t seen (cond (leb 4200 (length kept)) NoUnit More)) lf_is in
        let lf : b ≡ 10 = eqb-true b 10 lf_is in
        ap due_of (takes_end rule s n kept b bytes seen (never_more kept (without_cr kept)) is)
        ∙ then_same (judged rule s n seen) (λ later. takes (byte rule) (behind n later) bytes) (λ later. judged_all rule (map said (judged_lines (lines_of bytes))) (n + 1) later) next
        ∙ sym (ap (λ (lines : List Line). due_of (judged_all rule (map said (judged_lines lines)) n s)) (ap (λ (c : ℕ). lines_of (kept ++ c ∷ bytes)) lf ∙ lines_of-end kept bytes unended))
    by_byte next more false false lf_is long_is =
        let seen = short_line kept (without_cr kept) in
        let is : line_scan n kept b ≡ More = ap (λ (t : Bool). cond t seen (cond (leb 4200 (length kept)) NoUnit More)) lf_is ∙ ap (λ (t : Bool). cond t NoUnit More) long_is in
        let less : length kept < 4200 = grind (arith, nat_tests) in
        ap due_of (takes_more rule s n kept b bytes is)
        ∙ more (unended_more kept b unended lf_is) (omega (arith, length-append kept (b ∷ [])))
        ∙ ap (λ (xs : List ℕ). due_of (judged_all rule (map said (judged_lines (lines_of xs))) n s)) (append_assoc kept (b ∷ []) bytes)
    by_byte next more false true lf_is long_is =
        let seen = short_line kept (without_cr kept) in
        let is : line_scan n kept b ≡ NoUnit = ap (λ (t : Bool). cond t seen (cond (leb 4200 (length kept)) NoUnit More)) lf_is ∙ ap (λ (t : Bool). cond t NoUnit More) long_is in
        let least : 4200 ≤ length kept = grind (arith, nat_tests) in
        let begins = lines_of-front (kept ++ b ∷ []) bytes (unended_more kept b unended lf_is) (omega (arith, length-append kept (b ∷ []))) in
        let first = line ((kept ++ b ∷ []) ++ begins.0) begins.1 in
        let size : 4200 < length ((kept ++ b ∷ []) ++ begins.0) = omega (arith, length-append (kept ++ b ∷ []) begins.0, length-append kept (b ∷ [])) in
        let none : said first ≡ NoUnit = long_said ((kept ++ b ∷ []) ++ begins.0) (cond begins.1 (without_cr ((kept ++ b ∷ []) ++ begins.0)) ((kept ++ b ∷ []) ++ begins.0)) size in
        let now : is_judged first ≡ true = long_judged ((kept ++ b ∷ []) ++ begins.0) begins.1 size in
        ap due_of (takes_end rule s n kept b bytes NoUnit tt is)
        ∙ sym (ap (λ (xs : List ℕ). due_of (judged_all rule (map said (judged_lines (lines_of xs))) n s)) (sym (append_assoc kept (b ∷ []) bytes))
        ∙ ap (λ (lines : List Line). due_of (judged_all rule (map said (judged_lines lines)) n s)) begins.3
        ∙ ap (λ (t : Bool). due_of (judged_all rule (map said (cond t (first ∷ judged_lines begins.2) [])) n s)) now
        ∙ ap (λ (l : Scan). due_of (then_due (judged rule s n l) (λ later. judged_all rule (map said (judged_lines begins.2)) (n + 1) later))) none)
