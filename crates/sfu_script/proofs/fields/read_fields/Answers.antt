use Rattle.std.proofs.Common.{◌∙◌, sym, arith}
use Rattle.std.proofs.Math.ListN.{length-set}
use Rattle.sfu_script.proofs.FieldSteps.{last_read, field_cut_short, field_read, on_err}
use Rattle.sfu_script.proofs.FieldLaws.{fields_within}
use Rattle.sfu_script.proofs.fields.read_fields.Goals as goal

pub returns-then-i-clause-value : goal.returns-then-i-clause-value
returns-then-i-clause-value g c =
    last_read c.args.places.now c.loop-i.numbers c.loop-i.rest.now c.loop-i.i c.in_ok-numbers.field-0 _ _ (omega arith) c.loop-i.invariant.whole (sym c.in_ok-numbers.ensures) c.loop-i.invariant.reads

pub returns-then-i-clause-within : goal.returns-then-i-clause-within
returns-then-i-clause-within g c =
    fields_within c.args.places.now c.args.text.now _
    (last_read c.args.places.now c.loop-i.numbers c.loop-i.rest.now c.loop-i.i c.in_ok-numbers.field-0 _ _ (omega arith) c.loop-i.invariant.whole (sym c.in_ok-numbers.ensures) c.loop-i.invariant.reads)

pub returns-in_err-word-clause-value : goal.returns-in_err-word-clause-value
returns-in_err-word-clause-value g c =
    on_err c.from_residual-in_err-word.result _ _ c.from_residual-in_err-word.ensures.0
    (field_cut_short c.args.places.now c.loop-i.numbers c.loop-i.rest.now c.loop-i.i _ (omega arith) c.in_err-word.ensures c.loop-i.invariant.reads)

pub loop-i-preserved : goal.loop-i-preserved
loop-i-preserved g c = record {
  whole = length-set _ _ _ ∙ c.loop-i.invariant.whole;
  reads = field_read c.args.places.now c.loop-i.numbers c.loop-i.rest.now c.in_ok-word.word.now c.in_ok-word.after.now c.loop-i.i c.in_ok-numbers-2.field-0 _ _ (omega arith) (omega arith)
      c.in_ok-word.ensures (sym c.in_ok-numbers-2.ensures) c.loop-i.invariant.reads;
}
