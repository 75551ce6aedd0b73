use Rattle.std.proofs.Common.{Result, Ok, Err, subst}
use Rattle.std.specs.Prelude.{OnErr, OnOk}
use Rattle.std.specs.Option.{option_copied}
use Rattle.sfu_base.specs.Bytes.{AreBytes}
use Rattle.packet_format.proofs.Filled.{value_filled, value_too_long}
use Rattle.packet_format.proofs.remasking.fill_value.Goals as goal

on_ok : {A E : Type 0} {P Q : Type 0} (r : Result A E) → (P → Q) → OnOk r P → OnOk r Q
on_ok (Ok x) f p = f p
on_ok (Err e) f p = tt

where_err : {A E : Type 0} {P Q : Type 0} (r : Result A E) → (P → Q) → OnErr r P → OnErr r Q
where_err (Ok x) f p = tt
where_err (Err e) f p = f p

pub returns-clause-ok : goal.returns-clause-ok
returns-clause-ok c =
    on_ok c.remask_lowest-result.result
    (value_filled c.args.descriptor.now (option_copied c.args.force) c.args.mask c.remask_lowest-result.new.out (subst AreBytes c.bytes.ensures.bytes c.lemma_are_bytes.ensures))
    c.remask_lowest-result.ensures.ok

pub returns-clause-err : goal.returns-clause-err
returns-clause-err c =
    where_err c.remask_lowest-result.result
    (value_too_long c.args.descriptor.now (option_copied c.args.force) c.args.mask c.remask_lowest-result.new.out)
    c.remask_lowest-result.ensures.err
