use Rattle.std.proofs.Common.{◌≡◌, ◌∷◌, ◌++◌, ◌-◌, ◌<◌, [], List, ℕ, ap, sym, ◌∙◌, false, eqb, ne_eqb, arith, get_or, set}
use Rattle.std.proofs.lemmas.List.{map-set}
use Rattle.std.proofs.Math.ListN.{get_or-map}
use Rattle.sfu_base.specs.declared.call.Call.{Call}
use Rattle.port_config.specs.actors.Script.{calls_by}
use Rattle.port_config.proofs.Parts.{act_of, acted_act, acts_more, close_act, on_ok, open_act, said}
use Rattle.port_config.proofs.actors.reader.ActorsReader.add_act.Goals as goal

pub returns : goal.returns
returns c = on_ok c.put_last.result c.put_last.ensures (λ is past holds.
    let k : ℕ = c.args.actor in
    let some : 0 < k = c.requires.some in
    let act : eqb k 0 ≡ false = ne_eqb k 0 (λ e. omega arith) in
    let acts = c.args.self.now.acts in
    let old = c.index-self-from.result in
    let here : (get_or acts (c.from.result - 1) old).items ≡ calls_by k past =
    sym (get_or-map (λ v. v.items) acts (c.from.result - 1) old) ∙ ((λ i. get_or (holds.acts i) (c.from.ensures i - 1) old.items) ∙ act_of past k old.items some c.requires.within) in
    let items : c.put_last.new.list.items ≡ calls_by k past ++ c.args.call ∷ [] = is ∙ ap (λ (l : List Call). l ++ c.args.call ∷ []) here in
    record {
      opening = holds.opening ∙ sym (open_act past (said k c.args.call) act);
      acts = map-set (λ v. v.items) c.args.self.now.acts (c.from.result - 1) _ ∙ ((λ i. set (holds.acts i) (c.from.ensures i - 1) (items i)) ∙ acts_more past k c.args.call some c.requires.within);
      closing = holds.closing ∙ sym (close_act past (said k c.args.call) act);
      acted = sym (acted_act past (said k c.args.call) act);
    })
