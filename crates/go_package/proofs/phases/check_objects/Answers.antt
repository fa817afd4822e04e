use Rattle.std.proofs.Common.{◌≡◌, ◌∙◌, Err, None, Some, refl, ap, subst}
use Rattle.std.specs.Option.{option_map}
use Rattle.go_base.specs.Gives.{Unless}
use Rattle.go_tree.specs.Faults.{reported}
use Rattle.go_tree.specs.Uses as names
use Rattle.go_scopes_lookup.specs.Views.{units_view}
use Rattle.go_scopes.specs.Resolve as resolving
use Rattle.go_scopes.specs.Views.{failure_of}
use Rattle.go_package_defs.specs.Checked.{names_answer}
use Rattle.go_package.specs.Checks.{declared, declarations_behind}
use Rattle.go_package.proofs.Following.{gives_behind, fails_behind, names_sound, names_fault}
use Rattle.go_package.proofs.phases.check_objects.Goals as goal

pub check_declarations-requires-clause-units : goal.check_declarations-requires-clause-units
check_declarations-requires-clause-units c = ap units_view c.deref-in-Ok.ensures.value ∙ c.in_ok-units.ensures.units

pub check_declarations-requires-clause-sound : goal.check_declarations-requires-clause-sound
check_declarations-requires-clause-sound c =
    subst (λ us. reported us ≡ None) (ap units_view c.deref.ensures.value ∙ c.in_ok-units.ensures.units) c.in-Ok.ensures.0

pub check_declarations-requires-clause-uses : goal.check_declarations-requires-clause-uses
check_declarations-requires-clause-uses c =
    subst (λ us. c.in-Ok.uses ≡ names.uses us) (ap units_view c.deref.ensures.value ∙ c.in_ok-units.ensures.units) c.in-Ok.ensures.1

pub returns-in-Ok-clause-exact : goal.returns-in-Ok-clause-exact
returns-in-Ok-clause-exact c =
    let files = c.args.files.now in
    let us = resolving.units_of files in
    let same = ap units_view c.deref.ensures.value ∙ c.in_ok-units.ensures.units in
    let sound = subst (λ us. reported us ≡ None) same c.in-Ok.ensures.0 in
    let is = subst (λ us. c.in-Ok.uses ≡ names.uses us) same c.in-Ok.ensures.1 in
    gives_behind declared (names_answer us) c.in-Ok.uses (declarations_behind files) c.check_declarations.result (names_sound us c.in-Ok.uses sound is) c.check_declarations.ensures.exact

pub returns-clause-exact : goal.returns-clause-exact
returns-clause-exact c =
    let files = c.args.files.now in
    let us = resolving.units_of files in
    let same = ap units_view c.deref.ensures.value ∙ c.in_ok-units.ensures.units in
    let o = resolving.refusal_of c.in-Err.error in
    let stops = subst (λ us. Unless o (λ f. reported us ≡ Some (failure_of f))) same c.in-Err.ensures in
    fails_behind declared (names_answer us) (declarations_behind files) (option_map failure_of o) c.of_names.result (Err c.of_names.result) (names_fault us o stops) c.of_names.ensures refl
