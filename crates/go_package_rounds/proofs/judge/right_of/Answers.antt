use Rattle.std.proofs.Common.{◌≡◌, length, refl, ap, sym, subst, ◌∙◌}
use Rattle.std.proofs.lemmas.Result.{IfOk-weaker}
use Rattle.go_typed.specs.Scopes.{LocalsView}
use Rattle.go_exprs_rules.specs.Seen.{AreBasics}
use Rattle.go_exprs_rules.specs.Faults.{least}
use Rattle.go_exprs_types.specs.Naming.{names}
use Rattle.go_package_defs.specs.Knowledge as knowledge
use Rattle.go_package_defs.specs.Knowledge.{free_scope, told_scope}
use Rattle.go_package_defs.specs.Verdicts.{own_value, own_faults, value_state, type_faults, typed_type, right_found}
use Rattle.go_declarations.specs.Judged.{PartRead}
use Rattle.go_declarations.specs.States.{ShowsState}
use Rattle.go_declarations.specs.Views.{specification_view}
use Rattle.go_package_rounds.specs.World.{package_in, outlines_in}
use Rattle.go_package_rounds.proofs.Judged.{some_known}
use Rattle.go_package_rounds.proofs.judge.right_of.Goals as goal

pub right_side-requires-clause-scope : goal.right_side-requires-clause-scope
right_side-requires-clause-scope c =
    c.scope_in-scope.ensures.known c.args.types.now (length c.args.types.now.shapes) c.requires.fits (ap (λ (l : LocalsView). l.sorts) c.in_ok-locals.ensures) c.requires.known

pub right_side-requires-clause-basics : goal.right_side-requires-clause-basics
right_side-requires-clause-basics c = subst (AreBasics c.args.types.now) (sym c.scope_in-scope.ensures.basics) c.requires.fits.basics

pub right_side-requires-clause-of : goal.right_side-requires-clause-of
right_side-requires-clause-of c =
    let d = specification_view c.args.specification.now in
    subst (λ texts. PartRead texts d.type_tree) (sym (c.scope_in-scope.ensures.texts d.file c.in-Some.ensures.tokens)) c.requires.literals.of

pub returns-clause-right : goal.returns-clause-right
returns-clause-right c = λ ss stands rights.
    let w = c.args.world.now in
    let a = c.args.types.now in
    let z = c.right_side.new.types in
    let d = specification_view c.args.specification.now in
    let same = c.scope_in-scope.ensures.is a knowledge.is_told ss d c.requires.fits stands rights c.in-Some.ensures.tokens c.in-Some.ensures.number c.in_ok-locals.ensures refl in
    IfOk-weaker c.right_side.result _ _ (λ t h. h ∙ ap (λ s. right_found (type_faults s d) (typed_type s d)) same) c.right_side.ensures.right

pub returns-clause-known : goal.returns-clause-known
returns-clause-known c = IfOk-weaker c.right_side.result _ _ (λ t h. some_known (length c.right_side.new.types.shapes) t h) c.right_side.ensures.known
