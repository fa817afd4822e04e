use Rattle.std.proofs.Common.{subst}
use Rattle.go_types.specs.Tables.{IsTable}
use Rattle.go_types.proofs.Underlyings.{leads_underlying}
use Rattle.go_types.proofs.types.Types.underlying.Goals as goal

pub returns-clause-underlying : goal.returns-clause-underlying
returns-clause-underlying c =
    let ok : IsTable c.args.self.now = subst IsTable c.self.view_is c.self.invariant.kept.resolved.table in
    leads_underlying c.args.self.now ok c.args.a c.underlying_id.result c.requires.known c.underlying_id.ensures.leads
