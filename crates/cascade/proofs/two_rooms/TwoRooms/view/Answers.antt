use Rattle.std.proofs.Common.{List, refl, sym, subst, ◌∙◌}
use Rattle.sfu_base.specs.declared.call.Call.{Call}
use Rattle.cascade.specs.Calls.{all_taken}
use Rattle.cascade.specs.Standing.{WasFed}
use Rattle.cascade.proofs.Standing.{given_other}
use Rattle.cascade.proofs.two_rooms.TwoRooms.view.Goals as goal

pub returns : goal.returns
returns c both s =
    let p1 : List Call = all_taken 1 both.second in
    let p2 : List Call = all_taken 2 p1 in
    let r1 = c.take_all.ensures.room both.second s.second in
    let r2 = c.take_all-2.ensures.room p1 r1 in
    record {
      first = s.first;
      second = c.take_all-3.ensures.room p2 r2;
      one = subst (WasFed c.take_all.new.self) (sym (given_other 513 3 1 p2 refl ∙ given_other 513 2 1 p1 refl)) (c.take_all.ensures.fed both.second s.second s.one);
      two = subst (WasFed c.take_all-2.new.self) (sym (given_other 513 3 2 p2 refl))
          (c.take_all-2.ensures.fed p1 r1 (subst (WasFed c.args.self.now.two) (sym (given_other 513 1 2 both.second refl)) s.two));
      three = c.take_all-3.ensures.fed p2 r2 (subst (WasFed c.args.self.now.three) (sym (given_other 513 2 3 p1 refl ∙ given_other 513 1 3 both.second refl)) s.three);
    }
