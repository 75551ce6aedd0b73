use Rattle.std.proofs.Common.{◌∙◌, refl, arith}
use Rattle.frame_table.specs.Heads.{written_or_stale}
use Rattle.track_core.proofs.Pushing.{pushed_other, pushed_whole, whole_head, written_ok, written_valid}
use Rattle.track_core.proofs.layers.Layers.push.Goals as goal

pub whole_into-requires-clause-references : goal.whole_into-requires-clause-references
whole_into-requires-clause-references c =
    let started = rw c.get.ensures at c.keep_head.ensures.started in
    let p = c.requires.pushable in
    (whole_head c.args.self.now (record c.args.self.now { assembly = c.push_slot.new.self; head = c.keep_head.new.head }) c.args.mark.now c.args.slot.now.value c.push_slot.result
    c.push_slot.ensures.outcome c.push_slot.ensures.stands started c.keep_head.ensures.kept
    p.marks p.next p.running p.same p.first refl c.in-Whole.is).references

pub returns-in-Whole-clause-pushed : goal.returns-in-Whole-clause-pushed
returns-in-Whole-clause-pushed c marks m running same first =
    let started = rw c.get.ensures at c.keep_head.ensures.started in
    let p = pushed_whole c.args.self.now (record { id = c.args.self.now.id; table = c.whole_into.new.self; assembly = c.push_slot.new.self; head = c.keep_head.new.head; newest = c.args.self.now.newest })
    c.args.mark.now c.args.slot.now.value c.push_slot.result
    c.push_slot.ensures.outcome c.push_slot.ensures.stands started c.keep_head.ensures.kept
    marks m running same first (written_or_stale c.whole_into.result c.whole_into.new.out c.args.self.now.table.newest) c.in-Whole.is c.whole_into.ensures.meaning c.whole_into.ensures.force in
    record { running = p.running; force = p.force; made = written_ok c.whole_into.result c.whole_into.new.out c.args.self.now.table.newest ∙ p.made }

pub returns-in-Whole-clause-valid : goal.returns-in-Whole-clause-valid
returns-in-Whole-clause-valid c = written_valid c.whole_into.result c.whole_into.new.out c.whole_into.ensures.valid

pub returns-in_default : goal.returns-in_default
returns-in_default c = record {
  id = refl;
  near = omega arith;
  pushed = λ marks m running same first.
      let started = rw c.get.ensures at c.keep_head.ensures.started in
      pushed_other c.args.self.now (record { id = c.args.self.now.id; table = c.args.self.now.table; assembly = c.push_slot.new.self; head = c.keep_head.new.head; newest = c.args.self.now.newest })
      c.args.mark.now c.args.slot.now.value c.push_slot.result
      c.push_slot.ensures.outcome c.push_slot.ensures.stands started c.keep_head.ensures.kept
      marks m running same first c.in_default.not-Whole refl;
  valid = tt;
}
