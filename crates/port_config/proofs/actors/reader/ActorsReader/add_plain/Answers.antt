use Rattle.std.proofs.Common.{◌∷◌, ◌++◌, [], ap, sym, ◌∙◌}
use Rattle.port_config.proofs.Parts.{acted_plain, acts_plain, close_more, close_same, on_ok, open_more, open_same}
use Rattle.port_config.proofs.actors.reader.ActorsReader.add_plain.Goals as goal

pub returns-then-self : goal.returns-then-self
returns-then-self c = on_ok c.put_last.result c.put_last.ensures (λ is past holds.
    let acted = sym holds.acted ∙ c.if-self.true in record {
      opening = holds.opening ∙ sym (open_same past _ acted);
      acts = holds.acts ∙ sym (acts_plain past c.args.call);
      closing = is ∙ (ap (λ l. l ++ c.args.call ∷ []) holds.closing ∙ sym (close_more past c.args.call acted));
      acted = holds.acted ∙ sym (acted_plain past c.args.call);
    })

pub returns-else-self : goal.returns-else-self
returns-else-self c = on_ok c.put_last-else-self.result c.put_last-else-self.ensures (λ is past holds.
    let acted = sym holds.acted ∙ c.if-self.false in record {
      opening = is ∙ (ap (λ l. l ++ c.args.call ∷ []) holds.opening ∙ sym (open_more past c.args.call acted));
      acts = holds.acts ∙ sym (acts_plain past c.args.call);
      closing = holds.closing ∙ sym (close_same past c.args.call acted);
      acted = holds.acted ∙ sym (acted_plain past c.args.call);
    })
