use Rattle.std.proofs.Common.{◌≡◌, length, refl, arith, ◌∙◌}
use Rattle.std.proofs.lemmas.List.{length-set, length-take, take_more_set}
use Rattle.std.proofs.lemmas.Result.{err_from_is_err_and}
use Rattle.dd_bits.proofs.ReadingLoops.{until_fails, until_done, until_full, array_until_more}
use Rattle.dd_structure.specs.Reading.{next_layer_at, layers_at}
use Rattle.dd_structure.specs.TemplateStructure.{first_layer}
use Rattle.dd_structure.specs.declared.fault.StructureFault.TheVariants.{Templates}
use Rattle.dd_structure.proofs.reading.layers.fill_layers.Goals as goal

pub loop-count-init : goal.loop-count-init
unfolding layers_at
loop-count-init c =
    let whole : length c.args.out.now ≡ 64 = search in
    record { whole = length-set _ _ _ ∙ whole; reads = rw (take_more_set c.args.out.now 0 first_layer (omega (arith, whole))) refl }

pub returns-in_err-next_layer-clause-read : goal.returns-in_err-next_layer-clause-read
returns-in_err-next_layer-clause-read c =
    let p = err_from_is_err_and c.from_residual.result c.from_residual.ensures.1 in
    rw (p.1, p.2) (until_fails next_layer_at Templates _ _ _ _ _ _ c.in_err-next_layer.ensures c.loop-count.invariant.reads)

pub returns-in-None-clause-read : goal.returns-in-None-clause-read
returns-in-None-clause-read c = until_done next_layer_at Templates _ _ _ _ _ _ (rw c.in-None.is at c.in_ok-next_layer.ensures) c.loop-count.invariant.reads

pub loop-count-preserved : goal.loop-count-preserved
loop-count-preserved c = record {
  whole = length-set _ _ _ ∙ c.loop-count.invariant.whole;
  reads = array_until_more next_layer_at Templates _ 64 c.loop-count.count _ _ _ _ _ (omega arith) c.loop-count-test.true (rw c.in-Some.is at c.in_ok-next_layer.ensures) c.loop-count.invariant.reads;
}

pub returns-in_err-next_layer-2-clause-read : goal.returns-in_err-next_layer-2-clause-read
returns-in_err-next_layer-2-clause-read c =
    let p = err_from_is_err_and c.from_residual-in_err-next_layer-2.result c.from_residual-in_err-next_layer-2.ensures.1 in
    rw (p.1, p.2) (until_fails next_layer_at Templates _ _ _ _ _ _ c.in_err-next_layer-2.ensures c.loop-count.invariant.reads)

pub returns-in-None-2-clause-read : goal.returns-in-None-2-clause-read
returns-in-None-2-clause-read c =
    let all : c.loop-count.count ≡ 64 = omega arith in
    until_done next_layer_at Templates _ _ _ _ _ _ (rw c.in-None-2.is at c.in_ok-next_layer-2.ensures) c.loop-count.invariant.reads ∙ rw all refl

pub returns-in-Some-2-clause-read : goal.returns-in-Some-2-clause-read
returns-in-Some-2-clause-read c = until_full next_layer_at Templates _ 64 c.loop-count.count _ _ _ _ _ c.loop-count-test.false (rw c.in-Some-2.is at c.in_ok-next_layer-2.ensures) c.loop-count.invariant.reads

pub returns-in-None-2-clause-many : goal.returns-in-None-2-clause-many
returns-in-None-2-clause-many c = length-take 64 _ ∙ rw c.loop-count.invariant.whole refl
