use Rattle.std.proofs.Common.{ap, sym, subst, ◌∙◌, get_or, length, Bor}
use Rattle.std.proofs.lemmas.Option.{slice_get-get_or}
use Rattle.go_types.specs.Tables.{type_of}
use Rattle.go_typed.specs.declared.sort.Sort.{Sort}
use Rattle.go_typed.specs.Trees.{sort_mapped}
use Rattle.go_typed.specs.Views.{sort_view, KnownSort}
use Rattle.go_exprs_rules.specs.Sorts.{known}
use Rattle.go_exprs_types.specs.Naming.{need_seen, objects_seen}
use Rattle.go_exprs_types.proofs.Standings.{known_by_need, behind_told, mapped_there}
use Rattle.std.specs.Prelude.{slice_get}
use Rattle.go_exprs_types.proofs.scope.package_sort.Goals as goal

pub returns-then-number-scope-clause-known : goal.returns-then-number-scope-clause-known
returns-then-number-scope-clause-known c =
    let told = c.args.scope.now.told.now in
    let n = length c.args.types.now.shapes in
    let x = get_or told c.args.number c.index-scope-number.result in
    let there = slice_get-get_or told c.args.number c.index-scope-number.result c.if-number-scope.true in
    subst (KnownSort n) (sym c.sort.ensures) (known_by_need n x (need_seen c.args.need) (c.requires.told c.args.number x there))

pub returns-else-number-scope-clause-tree : goal.returns-else-number-scope-clause-tree
returns-else-number-scope-clause-tree c =
    let t = c.args.types.now in
    let env = c.args.scope.now.env.now.objects in
    let see : Bor Sort → _ = λ s. sort_view s.now in
    ap known (mapped_there see (sort_mapped (type_of t.shapes)) env c.args.number c.sort-else-number-scope.result c.sort-else-number-scope.ensures)
    ∙ sym (behind_told t c.args.scope.now.told.now (need_seen c.args.need) c.args.number (slice_get (objects_seen t env) c.args.number) c.if-number-scope.false)
