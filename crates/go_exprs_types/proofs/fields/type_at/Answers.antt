use Rattle.std.proofs.Common.{refl, get_or}
use Rattle.std.proofs.lemmas.Option.{slice_get-get_or}
use Rattle.go_exprs_types.proofs.fields.type_at.Goals as goal

pub returns : goal.returns
returns c =
    let f = c.index-fields-number.result in
    (get_or c.args.fields.now c.args.number f, slice_get-get_or c.args.fields.now c.args.number f c.requires, refl)
