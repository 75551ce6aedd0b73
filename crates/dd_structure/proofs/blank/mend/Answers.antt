use Rattle.std.proofs.Common.{◌≡◌, length, refl}
use Rattle.dd_structure.proofs.FirstRows.{one_blank_template}
use Rattle.dd_structure.proofs.blank.mend.Goals as goal

pub returns : goal.returns
returns c =
    let layers : length c.args.out.now.layers ≡ 64 = search in
    let indications : length c.args.out.now.indications ≡ 64 = search in
    let distances : length c.args.out.now.distances ≡ 64 = search in
    let links : length c.args.out.now.links ≡ 64 = search in
    one_blank_template _ _ _ _ _ _ _ _ layers indications distances links refl refl refl
