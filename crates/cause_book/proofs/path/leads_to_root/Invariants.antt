use Rattle.std.proofs.Common.{◌≡◌, ◌-◌, ◌≤◌, drop}
use Rattle.cause_book.specs.Path.{is_path}
use Rattle.cause_book.proofs.path.leads_to_root.Given as goal

abbrev pub invariant-loop-i : goal.invariant-loop-i
invariant-loop-i l = record {
  least : 1 ≤ l.i;
  rest : is_path l.steps ≡ is_path (drop (l.i - 1) l.steps);
}
