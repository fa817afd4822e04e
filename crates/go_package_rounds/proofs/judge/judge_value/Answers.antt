use Rattle.std.proofs.Common.{◌≡◌, length, refl, ap, sym, subst, ◌∙◌}
use Rattle.go_typed.specs.Scopes.{LocalsView}
use Rattle.go_exprs_rules.specs.Seen.{AreBasics}
use Rattle.go_exprs_rules.specs.Faults.{least}
use Rattle.go_exprs_types.specs.Naming.{names}
use Rattle.go_package_defs.specs.Knowledge as knowledge
use Rattle.go_package_defs.specs.Knowledge.{free_scope, told_scope}
use Rattle.go_package_defs.specs.Verdicts.{own_value, own_faults, value_state, type_faults, typed_type, right_found}
use Rattle.go_declarations.specs.Judged.{PartRead}
use Rattle.go_declarations.specs.States.{ShowsState}
use Rattle.go_declarations.specs.Views.{specification_view}
use Rattle.go_package_rounds.specs.World.{package_in, outlines_in}
use Rattle.go_package_rounds.proofs.Judged.{value_shown, own_read}
use Rattle.go_package_rounds.proofs.judge.judge_value.Goals as goal

pub judge_name-requires-clause-scope : goal.judge_name-requires-clause-scope
judge_name-requires-clause-scope c =
    c.scope_in-scope.ensures.known c.args.types.now (length c.args.types.now.shapes) c.requires.fits (ap (λ (l : LocalsView). l.sorts) c.in_ok-locals.ensures) c.requires.known

pub judge_name-requires-clause-basics : goal.judge_name-requires-clause-basics
judge_name-requires-clause-basics c = subst (AreBasics c.args.types.now) (sym c.scope_in-scope.ensures.basics) c.requires.fits.basics

pub judge_name-requires-clause-of : goal.judge_name-requires-clause-of
judge_name-requires-clause-of c =
    let d = specification_view c.args.specification.now in
    subst (λ texts. PartRead texts d.type_tree) (sym (c.scope_in-scope.ensures.texts d.file c.in-Some.ensures.tokens)) c.requires.literals.of

pub judge_name-requires-clause-value : goal.judge_name-requires-clause-value
judge_name-requires-clause-value c =
    let d = specification_view c.args.specification.now in
    let texts = c.scope_in-scope.ensures.texts d.file c.in-Some.ensures.tokens in
    subst (λ ts. PartRead ts (own_value d c.args.column)) (sym texts) (own_read _ d c.args.column c.requires.literals)

pub returns-clause-shows : goal.returns-clause-shows
returns-clause-shows c = λ ss stands rights.
    let w = c.args.world.now in
    let a = c.args.types.now in
    let z = c.judge_name.new.types in
    let v = c.in_ok-verdict.verdict in
    let d = specification_view c.args.specification.now in
    let n = c.args.column in
    let free = free_scope (package_in w) (outlines_in w) ss d in
    let same = c.scope_in-scope.ensures.is a knowledge.is_sound ss d c.requires.fits stands rights c.in-Some.ensures.tokens c.in-Some.ensures.number c.in_ok-locals.ensures refl in
    value_shown z v free d n (subst (λ s. ShowsState z v (value_state s d n (own_faults s d n))) same c.in_ok-verdict.ensures.shows)

pub returns-clause-known : goal.returns-clause-known
returns-clause-known c = record { right = tt; stands = c.in_ok-verdict.ensures.known }
