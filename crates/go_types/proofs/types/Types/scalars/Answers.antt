use Rattle.std.proofs.Common.{subst, ap, ◌∙◌}
use Rattle.go_types.specs.Tables.{IsTable, type_of, rights_of}
use Rattle.go_types.specs.Verdicts.{kept_count}
use Rattle.go_types.proofs.Counting.{judged_counts, one_count}
use Rattle.go_types.proofs.types.Types.scalars.Goals as goal

pub returns-clause-one : goal.returns-clause-one
returns-clause-one c =
    let ok : IsTable c.args.self.now = subst IsTable c.self.view_is c.self.invariant.kept.resolved.table in
    let told = c.in-Some.ensures.found in
    (told.0, judged_counts c.args.self.now ok c.args.a c.in-Some.verdict.comparable told.0 told.1)

pub returns-clause-count : goal.returns-clause-count
returns-clause-count c n s =
    let ok : IsTable c.args.self.now = subst IsTable c.self.view_is c.self.invariant.kept.resolved.table in
    let told = c.in-Some.ensures.found in
    let found = judged_counts c.args.self.now ok c.args.a c.in-Some.verdict.comparable told.0 told.1 in
    (c.scalars.ensures ∙ told.2) ∙ ap kept_count (one_count (rights_of c.args.self.now) (type_of c.args.self.now.shapes c.args.a) told.0 n found s)
