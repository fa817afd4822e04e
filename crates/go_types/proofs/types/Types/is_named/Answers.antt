use Rattle.std.proofs.Common.{subst, ap, sym, ◌∙◌}
use Rattle.go_types.specs.Trees.{is_named}
use Rattle.go_types.specs.Tables.{IsTable, type_of}
use Rattle.go_types.proofs.NumberedTypes.{type_of_shape}
use Rattle.go_types.proofs.types.Types.is_named.Goals as goal

pub returns : goal.returns
returns c =
    let ok : IsTable c.args.self.now = subst IsTable c.self.view_is c.self.invariant.kept.resolved.table in
    c.is_named.ensures (type_of c.args.self.now.shapes) ∙ sym (ap is_named (type_of_shape c.args.self.now.shapes ok.parts_below c.args.a c.shape.result.now c.shape.ensures))
