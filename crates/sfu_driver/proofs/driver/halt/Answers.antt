use Rattle.std.proofs.Common.{◌≡◌, ◌-◌, ◌∙◌, ℕ, List, length, take, drop, subst, sym, ap, refl}
use Rattle.std.specs.Io.KnownBytes.{Appends}
use Rattle.std.proofs.lemmas.List.{take_rest}
use Rattle.sfu_driver.specs.declared.halt.Halt.{Halt}
use Rattle.sfu_driver.specs.declared.halt.Interruption.TheVariants.{Halted}
use Rattle.sfu_driver.specs.Drive.{Halts, StopWrites, WritesEnd}
use Rattle.sfu_driver.proofs.Fronts.{end_behind}
use Rattle.sfu_driver.proofs.Counting.{kept_first, kept_or_cut}
use Rattle.sfu_driver.proofs.Results.{known_ok}
use Rattle.sfu_driver.proofs.driver.halt.Goals as goal

pub returns-in-Ended-clause-halts : goal.returns-in-Ended-clause-halts
returns-in-Ended-clause-halts g c =
    let w0 = g.K.Sink.written c.args.sink.now in
    let w1 = g.K.Sink.written c.write_all.new.sink in
    let w2 = g.K.Sink.written c.write_all-in-Ended.new.sink in
    let f0 = g.K.Sink.faults c.args.sink.now in
    let f1 = g.K.Sink.faults c.write_all.new.sink in
    let f2 = g.K.Sink.faults c.write_all-in-Ended.new.sink in
    let ready = c.args.ready.now in
    let mark = c.args.mark in
    let wrote : Appends w0 w1 (take mark c.bytes.result.now) = known_ok c.write_all.result (Appends w0 w1 (take mark c.bytes.result.now)) c.if-is_err.ensures.value c.write_all.ensures.ok in
    let first : Appends w0 w1 (take mark ready) = subst (λ (xs : List ℕ). Appends w0 w1 (take mark xs)) c.bytes.ensures wrote in
    let again = c.bytes-in-Ended.result.now in
    let rest : take (length again - mark) (drop mark again) ≡ drop mark ready = take_rest again mark ∙ ap (λ (xs : List ℕ). drop mark xs) c.bytes-in-Ended.ensures in
    let last : WritesEnd w0 w2 f0 f2 (take mark ready) (drop mark ready) =
    subst (λ (text : List ℕ). WritesEnd w0 w2 f0 f2 (take mark ready) text) rest
    (end_behind w0 w1 w2 f0 f1 f2 (take mark ready) (take (length again - mark) (drop mark again)) c.write_all-in-Ended.result c.write_all.ensures.never_falls first
    c.write_all-in-Ended.ensures.ok c.write_all-in-Ended.ensures.part c.write_all-in-Ended.ensures.rose) in
    subst (λ (why : Halt). Halts (Halted why) why (take mark ready) (drop mark ready) w0 w2 f0 f2) (sym c.in-Ended.is) (refl, last)

pub returns-in-Ended-clause-counts : goal.returns-in-Ended-clause-counts
returns-in-Ended-clause-counts g c =
    let f0 = g.K.Sink.faults c.args.sink.now in
    let f1 = g.K.Sink.faults c.write_all.new.sink in
    let f2 = g.K.Sink.faults c.write_all-in-Ended.new.sink in
    subst (λ (why : Halt). StopWrites f0 f2 (Halted why)) (sym c.in-Ended.is)
    (kept_or_cut c.write_all-in-Ended.result f0 f1 f2 (kept_first c.write_all.result f0 f1 c.if-is_err.ensures.value c.write_all.ensures.counts) c.write_all-in-Ended.ensures.counts)
