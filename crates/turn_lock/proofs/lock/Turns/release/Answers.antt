use Rattle.std.proofs.Common.{rules, sym, subst, refl, List, ◌+◌, ◌%◌, ◌^◌}
use mathlib.Core.Option.{none}
use Rattle.atomic_table.specs.Table.{Allows, step}
use Rattle.turn_lock.specs.declared.history.Entry.{Entry}
use Rattle.turn_lock.specs.Rule.{Kept, served}
use Rattle.turn_lock.proofs.Keeps.{serves}
use Rattle.turn_lock.proofs.lock.Turns.release.Goals as goal

pub fetch_add-requires : goal.fetch_add-requires
fetch_add-requires g c =
    let z = c.self.inside.table.shared.table_id in
    let me = c.args.inner.now.me in
    let ready = c.requires.ready in (
      search rules,
      search rules,
      subst (λ (es : List (Entry g.row.H-Call.Denot)). Allows (Kept g.H.Held.stands c.self.inside.table.shared.key) z.slots c.args.inner.now.id me 1 (λ n. (n + 1) % 2 ^ 64) (served es (step z.slots 1 1 0 none) me)) (sym c.requires.adds)
          (serves g.H.Held.stands c.self.inside.table.shared.key z.slots c.args.inner.now.id me ready.0 _ ready.1 ready.2 ready.3 refl ready.4),
    )
