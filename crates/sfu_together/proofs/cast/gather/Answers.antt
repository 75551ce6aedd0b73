use Rattle.std.proofs.Common.{ap, sym, ◌∙◌, ◌++◌, List, append-nil, append_assoc}
use Rattle.port_config.specs.declared.actors.turns.Placed.{Placed}
use Rattle.sfu_together.specs.Acting.{kept_by}
use Rattle.sfu_together.proofs.Seating.{kept_more, none_joined, one_joined}
use Rattle.sfu_together.proofs.cast.gather.Goals as goal

pub loop-done-init : goal.loop-done-init
loop-done-init c = record {
  fits = c.requires.fits;
  joined = none_joined c.args.seat.now;
  kept = sym (append-nil c.args.kept.now.items);
}

pub loop-done-preserved : goal.loop-done-preserved
loop-done-preserved c =
    let i = c.loop-done.invariant in
    let d = c.in-Some.done in
    let s = c.join.ensures.seen in
    record {
      fits = c.join.ensures.fits;
      joined = one_joined c.args.seat.now c.loop-done.seat c.join.new.into c.loop-done.yielded d i.joined c.join.ensures.joined s.0 s.1;
      kept = c.in_ok-put_all.ensures ∙ (ap (λ (l : List Placed). l ++ d.kept.items) i.kept ∙ (append_assoc c.args.kept.now.items (kept_by c.loop-done.yielded) d.kept.items ∙ ap (λ (l : List Placed). c.args.kept.now.items ++ l) (sym (kept_more c.loop-done.yielded d))));
    }
