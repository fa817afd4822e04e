use Rattle.std.proofs.Common.{subst, sym, ◌∙◌}
use Rattle.go_types.specs.Tables.{IsTable}
use Rattle.go_types.proofs.Judging.{judged_comparable}
use Rattle.go_types.proofs.types.Types.comparable.Goals as goal

pub returns : goal.returns
returns c =
    let ok : IsTable c.args.self.now = subst IsTable c.self.view_is c.self.invariant.kept.resolved.table in
    let told = c.in-Some.ensures.found in
    let same = judged_comparable c.args.self.now ok c.args.a c.in-Some.verdict.comparable told.0 told.1 in
    (λ h. same.0 (sym c.comparable.ensures ∙ h), λ h. c.comparable.ensures ∙ same.1 h)
