use Rattle.go_package_defs.specs.Sources.{package_of}
use Rattle.go_heads_types.specs.Portions.{files_of}
use Rattle.go_heads_types.proofs.Steps.{answered}
use Rattle.go_heads_types.proofs.Typings.{is_faultless, types_kept}
use Rattle.go_heads_types.proofs.laws.functions_keep_their_types.Goals as goal

pub returns : goal.returns
returns c ss us names others x y h k e t z before after =
    let old = answered ss t before in
    let new = answered us z after in
    let clean = is_faultless ss names t x h old in
    let clean_new = is_faultless us others z y k new in
    types_kept ss us names others x y t z old new
    (c.answers_stay.ensures ss us t.uses z.uses names others clean clean_new e)
    (c.objects_keep_their_numbers.ensures (files_of names ss) (files_of others us) h k e)
    (c.typed_functions_stay.ensures (package_of ss t.uses) (package_of us z.uses) names others clean clean_new e)
