use Rattle.std.proofs.Common.{◌≡◌, ◌≤◌, ◌+◌, ◌++◌, ℕ, List, true, false, length, take, sym, ap, ◌∙◌, subst, arith, rules, length-append}
use Rattle.sfu_driver.specs.Scan.{AllMore, EndsAt, NoUnit, Scan, Whole, between}
use Rattle.script_records.specs.Kinds.{may_have}
use Rattle.script_records.specs.RecordCut.{is_length, record_so_far}
use Rattle.script_records.proofs.RecordScans.{all_more_by, between_all, ends_by, fewer_go, kind_ends, kind_goes, length_ends, length_goes, record_is_whole, records_scan, said, small_is}
use Rattle.script_records.proofs.record_cut.find_record.Goals as goal

pub returns-then-total-lt2 : goal.returns-then-total-lt2
returns-then-total-lt2 c number above =
    let kept = c.args.kept.now in
    let piece = c.args.piece.now in (
      subst (λ (scan : List ℕ → ℕ → Scan). AllMore scan kept piece) (records_scan number above)
          (all_more_by record_so_far kept piece (λ n a le. fewer_go (kept ++ piece) n (omega (arith, c.if-total-lt2.true)))),
      omega (arith, c.if-total-lt2.true),
    )

pub returns-then-not-is_body_length : goal.returns-then-not-is_body_length
returns-then-not-is_body_length c number above =
    let kept = c.args.kept.now in
    let piece = c.args.piece.now in
    let all = kept ++ piece in
    let end = length kept + c.count_to.result in
    let size = length-append kept piece in
    let none : is_length (said all) ≡ false = search rules in
    subst (λ (scan : List ℕ → ℕ → Scan). EndsAt scan kept piece c.count_to.result NoUnit) (records_scan number above)
    (ends_by record_so_far kept piece c.count_to.result NoUnit c.count_to.ensures.some (omega (arith, c.count_to.ensures.least, c.if-total-lt2.false, c.requires.some))
    (λ n a b. fewer_go all n (c.count_to.ensures.first n a b))
    (length_ends all end none c.count_to.ensures.reached (omega (arith, size, c.count_to.ensures.least, c.if-total-lt2.false, c.requires.some))))

pub returns-then-not-may_have_length : goal.returns-then-not-may_have_length
returns-then-not-may_have_length c number above =
    let kept = c.args.kept.now in
    let piece = c.args.piece.now in
    let all = kept ++ piece in
    let count = c.count_to-then-not-may_have_length.result in
    let end = length kept + count in
    let size = length-append kept piece in
    let to = c.count_to-then-not-may_have_length.ensures in
    let ok : is_length (said all) ≡ true = search rules in
    let none : may_have c.joined.result (said all) ≡ false = search rules in
    subst (λ (scan : List ℕ → ℕ → Scan). EndsAt scan kept piece count NoUnit) (records_scan number above)
    (ends_by record_so_far kept piece count NoUnit to.some (omega (arith, to.least, c.if-total-lt3.false, c.requires.some))
    (λ n a b. length_goes all n (omega (arith, size, c.if-total-lt3.false)) ok (to.first n a b))
    (kind_ends all end (sym (ap (λ (code : ℕ). may_have code (said all)) c.joined.ensures) ∙ none) to.reached (omega (arith, size, to.least, c.if-total-lt3.false, c.requires.some))))

pub returns-then-total-length : goal.returns-then-total-length
returns-then-total-length c number above =
    let kept = c.args.kept.now in
    let piece = c.args.piece.now in
    let all = kept ++ piece in
    let size = length-append kept piece in
    let is : c.body_length-length.result ≡ said all = c.body_length-length.ensures in
    let ok : may_have c.joined.result (said all) ≡ true = search rules in
    let few : is_length (said all) ≡ true = search rules in
    let bounds = small_is (said all) few in
    let small : c.body_length-length.result ≤ 2061 = omega (arith, is, bounds.1) in (
      subst (λ (scan : List ℕ → ℕ → Scan). AllMore scan kept piece) (records_scan number above)
          (all_more_by record_so_far kept piece (λ n a le.
          kind_goes all n (sym (ap (λ (code : ℕ). may_have code (said all)) c.joined.ensures) ∙ ok) (omega (arith, is, c.if-total-length.true)) (omega (arith, size)) (omega (arith, size, c.if-total-lt3.false)))),
      omega (arith, c.if-total-length.true, small),
    )

pub returns : goal.returns
returns c number above =
    let kept = c.args.kept.now in
    let piece = c.args.piece.now in
    let all = kept ++ piece in
    let count = c.count_to-count.result in
    let end = length kept + count in
    let size = length-append kept piece in
    let to = c.count_to-count.ensures in
    let is : c.body_length-length.result ≡ said all = c.body_length-length.ensures in
    let ok : may_have c.joined.result (said all) ≡ true = search rules in
    let kind_ok = sym (ap (λ (code : ℕ). may_have code (said all)) c.joined.ensures) ∙ ok in
    let few : is_length (said all) ≡ true = search rules in
    let bounds = small_is (said all) few in
    let small : c.body_length-length.result ≤ 2061 = omega (arith, is, bounds.1) in
    let within : count ≤ length piece = omega (arith, to.least, c.if-total-length.false, c.requires.some) in
    let text = between 2 end (kept ++ take count piece) in
    let three : 3 ≤ end = omega (arith, is, to.reached, bounds.0) in (
      subst (λ (scan : List ℕ → ℕ → Scan). EndsAt scan kept piece count (Whole text)) (records_scan number above)
          (ends_by record_so_far kept piece count (Whole text) to.some within
          (λ n a b. kind_goes all n kind_ok (omega (arith, is, to.first n a b)) (omega (arith, size, within)) (omega (arith, size, c.if-total-lt3.false)))
          (record_is_whole all end kind_ok (omega (arith, is, to.reached)) (omega (arith, size, within)) three ∙ ap Whole (sym (between_all 2 kept piece count within)))),
      omega (arith, to.least, c.requires.kept, small),
      omega (arith, to.reached),
      omega arith,
    )
