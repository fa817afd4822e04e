use Rattle.std.proofs.Common.{subst, refl}
use Rattle.go_types.specs.Tables.{IsTable}
use Rattle.go_types.proofs.Settling.{settled_finite}
use Rattle.go_types.proofs.types.Types.can_define.Goals as goal

pub returns-then-is_open-clause-finite : goal.returns-then-is_open-clause-finite
returns-then-is_open-clause-finite c h =
    let ok : IsTable c.args.self.now = subst IsTable c.self.view_is c.self.invariant.kept.resolved.table in
    settled_finite c.args.self.now ok c.args.named c.args.right (c.if-is_open.ensures.0 refl) (c.is_settled.ensures.0 h)
