use Rattle.std.proofs.Common.{subst, refl}
use Rattle.go_types.specs.Tables.{IsTable}
use Rattle.go_types.proofs.Judging.{judged_settled}
use Rattle.go_types.proofs.types.Types.is_settled.Goals as goal

pub returns-in-Some : goal.returns-in-Some
returns-in-Some c =
    let ok : IsTable c.args.self.now = subst IsTable c.self.view_is c.self.invariant.kept.resolved.table in
    let told = c.in-Some.ensures.found in
    (λ h. judged_settled c.args.self.now ok c.args.a c.in-Some.field-0.comparable told.0 told.1, λ h. refl)
