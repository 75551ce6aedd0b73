use Rattle.std.proofs.Common.{subst, sym, ap, ◌∙◌, ◌≡◌, ◌++◌, ◌∷◌, [], List, Option, Some}
use Rattle.atomic_table.specs.Table.{opening}
use Rattle.turn_lock.specs.Views.{first_seat}
use Rattle.turn_lock.specs.Rule.{Kept}
use Rattle.turn_lock.proofs.Keeps.{starts}
use Rattle.turn_lock.proofs.lock.Turns.new.Goals as goal

pub new-requires : goal.new-requires
new-requires g c = let n = c.args.first in let items : c.push.new.self.items ≡ Some c.args.value ∷ [] = c.in-Ok.ensures.items ∙ ap (λ xs. xs ++ Some c.args.value ∷ []) c.new-slots.ensures.items in
    subst (λ (xs : List (Option g.row.H.Denot)). Kept g.H.Held.stands n (opening (n ∷ n ∷ []) xs (first_seat n))) (sym items) (starts g.H.Held.stands n c.args.value c.requires.empty c.requires.first)
