use Rattle.std.proofs.Common.{◌≡◌, ℕ, ◌+◌, ◌-◌, refl, ap, arith, ◌∙◌}
use Rattle.std.proofs.lemmas.List.{length-set}
use Rattle.std.proofs.lemmas.Result.{err_from_is_err_and}
use Rattle.dd_bits.proofs.ReadingLoops.{with_front, with_front-nil, until_fails, until_done, until_full, until_any, array_until_more}
use Rattle.dd_structure.specs.Reading.{next_distance_at, distances_at}
use Rattle.dd_structure.specs.declared.fault.StructureFault.TheVariants.{References}
use Rattle.dd_structure.proofs.reading.distances.distances.Goals as goal

pub loop-count-init : goal.loop-count-init
unfolding distances_at
loop-count-init c = record { whole = refl; reads = with_front-nil _ }

pub returns-in_err-next_distance : goal.returns-in_err-next_distance
returns-in_err-next_distance c =
    let p = err_from_is_err_and c.from_residual.result c.from_residual.ensures.1 in
    rw (p.1, p.2) (until_fails (λ (before : ℕ). next_distance_at) References _ _ 0 _ _ _ c.in_err-next_distance.ensures c.loop-count.invariant.reads)

pub returns-in-None : goal.returns-in-None
returns-in-None c = until_done (λ (before : ℕ). next_distance_at) References _ _ 0 _ _ _ (rw c.in-None.is at c.in_ok-next_distance.ensures) c.loop-count.invariant.reads

pub loop-count-preserved : goal.loop-count-preserved
loop-count-preserved c = record {
  whole = length-set _ _ _ ∙ c.loop-count.invariant.whole;
  reads =
      ap (with_front _) (until_any next_distance_at References (16 - (c.loop-count.count + 1)) 0 _ _)
      ∙ array_until_more (λ (before : ℕ). next_distance_at) References _ 16 c.loop-count.count 0 _ _ _ _ (omega arith) c.loop-count-test.true (rw c.in-Some.is at c.in_ok-next_distance.ensures) c.loop-count.invariant.reads;
}

pub returns-in_err-next_distance-2 : goal.returns-in_err-next_distance-2
returns-in_err-next_distance-2 c =
    let p = err_from_is_err_and c.from_residual-in_err-next_distance-2.result c.from_residual-in_err-next_distance-2.ensures.1 in
    rw (p.1, p.2) (until_fails (λ (before : ℕ). next_distance_at) References _ _ 0 _ _ _ c.in_err-next_distance-2.ensures c.loop-count.invariant.reads)

pub returns-in-None-2 : goal.returns-in-None-2
returns-in-None-2 c =
    let all : c.loop-count.count ≡ 16 = omega arith in
    until_done (λ (before : ℕ). next_distance_at) References _ _ 0 _ _ _ (rw c.in-None-2.is at c.in_ok-next_distance-2.ensures) c.loop-count.invariant.reads ∙ rw all refl

pub returns-in-Some-2 : goal.returns-in-Some-2
returns-in-Some-2 c = until_full (λ (before : ℕ). next_distance_at) References _ 16 c.loop-count.count 0 _ _ _ _ c.loop-count-test.false (rw c.in-Some-2.is at c.in_ok-next_distance-2.ensures) c.loop-count.invariant.reads
