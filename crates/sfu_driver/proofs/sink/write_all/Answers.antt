use Rattle.std.proofs.Common.{◌≡◌, ◌-◌, ◌∙◌, length, ℕ, List, length-take, length-drop, take, drop, [], ◌++◌, append-nil, ap, subst, sym, arith}
use Rattle.std.specs.Io.KnownBytes.{Appends}
use Rattle.std.proofs.KnownBytes.{Appends-kept, Appends-trans}
use Rattle.std.proofs.Math.Seq.{take-add}
use Rattle.std.proofs.lemmas.List.{take_rest, take-append-drop}
use Rattle.sfu_base.specs.Faults.{raised}
use Rattle.sfu_driver.proofs.Counting.{faults_err, took_none, took_some}
use Rattle.sfu_driver.proofs.Results.{on_err}
use Rattle.sfu_driver.proofs.sink.write_all.Goals as goal

pub loop-at-preserved : goal.loop-at-preserved
loop-at-preserved g c = record {
  within = omega (arith, c.in_ok-count.ensures.bound, length-take {A = ℕ}, length-drop {A = ℕ});
  written = subst (λ (bytes : List ℕ). Appends (g.K.Sink.written c.args.sink.now) (g.K.Sink.written c.write.new.self) bytes) (sym (take-add c.loop-at.at c.in_ok-count.count c.args.text.now))
      (Appends-trans _ _ _ _ _ c.loop-at.invariant.written
      (subst (λ (piece : List ℕ). Appends (g.K.Sink.written c.loop-at.sink) (g.K.Sink.written c.write.new.self) (take c.in_ok-count.count piece)) (take_rest c.args.text.now c.loop-at.at) c.in_ok-count.ensures.bytes));
  kept = took_some c.in_ok-count.count (g.K.Sink.faults c.loop-at.sink) (g.K.Sink.faults c.write.new.self) _ (omega arith) c.in_ok-count.ensures.cause.counts ∙ c.loop-at.invariant.kept;
}

pub returns-in_err-count-clause-part : goal.returns-in_err-count-clause-part
returns-in_err-count-clause-part g c = on_err c.from_residual.result _ (record {
  text = take c.loop-at.at c.args.text.now;
  more = drop c.loop-at.at c.args.text.now;
  wrote = Appends-kept _ _ _ _ c.loop-at.invariant.written c.in_err-count.ensures.bytes;
  split = sym (take-append-drop c.loop-at.at c.args.text.now);
  missing = omega (arith, length-drop {A = ℕ});
})

pub returns-then-count-eq0-clause-part : goal.returns-then-count-eq0-clause-part
returns-then-count-eq0-clause-part g c =
    let piece = take (length c.args.text.now - c.loop-at.at) (drop c.loop-at.at c.args.text.now) in
    let none : take c.in_ok-count.count piece ≡ [] = ap (λ (n : ℕ). take n piece) c.if-count-eq0.true in record {
      text = take c.loop-at.at c.args.text.now ++ [];
      more = drop c.loop-at.at c.args.text.now;
      wrote = Appends-trans _ _ _ _ _ c.loop-at.invariant.written (subst (λ (bs : List ℕ). Appends (g.K.Sink.written c.loop-at.sink) (g.K.Sink.written c.write.new.self) bs) none c.in_ok-count.ensures.bytes);
      split = sym (ap (λ (bs : List ℕ). bs ++ drop c.loop-at.at c.args.text.now) (append-nil (take c.loop-at.at c.args.text.now)) ∙ take-append-drop c.loop-at.at c.args.text.now);
      missing = omega (arith, length-drop {A = ℕ});
    }

pub returns-in_err-count-clause-counts : goal.returns-in_err-count-clause-counts
returns-in_err-count-clause-counts g c = faults_err c.from_residual.result c.in_err-count.field-0.0 (g.K.Sink.faults c.args.sink.now) (g.K.Sink.faults c.write.new.self) c.from_residual.ensures.1
    (c.in_err-count.ensures.cause.counts ∙ ap raised c.loop-at.invariant.kept)

pub returns-then-count-eq0-clause-counts : goal.returns-then-count-eq0-clause-counts
returns-then-count-eq0-clause-counts g c = took_none c.in_ok-count.count (g.K.Sink.faults c.loop-at.sink) (g.K.Sink.faults c.write.new.self) _ c.if-count-eq0.true
    (omega (arith, length-take {A = ℕ}, length-drop {A = ℕ})) c.in_ok-count.ensures.cause.counts ∙ ap raised c.loop-at.invariant.kept
