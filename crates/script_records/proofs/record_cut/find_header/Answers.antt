use Rattle.std.proofs.Common.{◌≡◌, ◌≤◌, ◌+◌, ◌++◌, ℕ, true, false, length, take, sym, ap, ◌∙◌, arith, rules, length-append}
use Rattle.sfu_driver.specs.Scan.{NoUnit, Whole, between}
use Rattle.script_records.specs.RecordCut.{header_so_far}
use Rattle.script_records.proofs.RecordScans.{all_more_by, begins_well, between_all, ends_by, header_ends, header_goes, header_is_whole}
use Rattle.script_records.proofs.record_cut.find_header.Goals as goal

pub returns-then-kept-piece : goal.returns-then-kept-piece
returns-then-kept-piece c =
    let kept = c.args.kept.now in
    let piece = c.args.piece.now in
    (all_more_by header_so_far kept piece (λ n a le. header_goes (kept ++ piece) n (omega (arith, c.if-kept-piece.true))), omega (arith, c.if-kept-piece.true))

-- more bytes than those of the header were kept
pub returns-then-kept : goal.returns-then-kept
returns-then-kept c =
    let kept = c.args.kept.now in
    let piece = c.args.piece.now in
    let to = c.count_to-count.ensures in
    let size = length-append kept piece in
    ends_by header_so_far kept piece c.count_to-count.result NoUnit to.some (omega (arith, to.least, c.if-kept-piece.false, c.requires.some))
    (λ n a b. header_goes (kept ++ piece) n (to.first n a b))
    (header_ends (kept ++ piece) (length kept + c.count_to-count.result) to.reached (omega (arith, size, to.least, c.if-kept-piece.false, c.requires.some)) (λ e. absurd (omega (arith, e, to.some, c.if-kept.true))))

pub returns-then-not-has_header : goal.returns-then-not-has_header
returns-then-not-has_header c =
    let kept = c.args.kept.now in
    let piece = c.args.piece.now in
    let to = c.count_to-count.ensures in
    let size = length-append kept piece in
    let none : begins_well (kept ++ piece) ≡ false = search rules in
    ends_by header_so_far kept piece c.count_to-count.result NoUnit to.some (omega (arith, to.least, c.if-kept-piece.false, c.requires.some))
    (λ n a b. header_goes (kept ++ piece) n (to.first n a b))
    (header_ends (kept ++ piece) (length kept + c.count_to-count.result) to.reached (omega (arith, size, to.least, c.if-kept-piece.false, c.requires.some)) (λ e. none))

pub returns : goal.returns
returns c =
    let kept = c.args.kept.now in
    let piece = c.args.piece.now in
    let count = c.count_to-count.result in
    let to = c.count_to-count.ensures in
    let size = length-append kept piece in
    let four : length kept + count ≡ 4 = omega (arith, to.least, to.reached, c.if-kept.false) in
    let within : count ≤ length piece = omega (arith, to.least, c.if-kept-piece.false, c.requires.some) in
    let well : begins_well (kept ++ piece) ≡ true = search rules in
    let whole : header_so_far (take (length kept + count) (kept ++ piece)) ≡ Whole (between 0 4 (kept ++ take count piece)) =
    ap (λ (n : ℕ). header_so_far (take n (kept ++ piece))) four ∙ header_is_whole (kept ++ piece) (omega (arith, size, c.if-kept-piece.false)) well
    ∙ ap (λ (n : ℕ). Whole (take n (kept ++ piece))) (sym four) ∙ ap Whole (sym (between_all 0 kept piece count within)) ∙ ap (λ (n : ℕ). Whole (between 0 n (kept ++ take count piece))) four in (
      ends_by header_so_far kept piece count (Whole (between 0 4 (kept ++ take count piece))) to.some within (λ n a b. header_goes (kept ++ piece) n (to.first n a b)) whole,
      omega (arith, four),
      omega arith,
      omega (arith, four),
    )
