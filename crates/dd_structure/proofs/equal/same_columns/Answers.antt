use Rattle.std.proofs.Common.{refl}
use Rattle.dd_structure.specs.Columns.{HaveSameCounts}
use Rattle.dd_structure.proofs.EqualLemmas.{same_structure, counts_from, fields_from}
use Rattle.dd_structure.proofs.equal.same_columns.Goals as goal

pub returns-then-not-same_counts : goal.returns-then-not-same_counts
returns-then-not-same_counts c = (λ h. absurd cc, λ e. absurd (let yes = c.same_counts.ensures.1 (counts_from c.args.a.now c.args.b.now c.requires.a.within c.requires.b.within e) in cc))

pub returns : goal.returns
returns c =
    let counts : HaveSameCounts c.args.a.now c.args.b.now = c.if-not-same_counts.ensures.0 refl in
    (λ h. same_structure c.args.a.now c.args.b.now counts (c.same_fields.ensures.0 h), λ e. c.same_fields.ensures.1 (fields_from c.args.a.now c.args.b.now c.requires.a.within c.requires.b.within counts e))
