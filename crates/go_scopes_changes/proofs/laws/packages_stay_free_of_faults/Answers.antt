use Rattle.std.specs.Prelude.{◌≡◌, ◌≤◌, []}
use Rattle.std.proofs.Common.{◌∙◌, ap, subst, sym}
use Rattle.go_tree.specs.Clauses.{missing_bodies}
use Rattle.go_tree.specs.Declarations.{found}
use Rattle.go_heads.specs.Functions.{function_alone}
use Rattle.go_heads.specs.Locals.{AreNamed}
use Rattle.go_heads.specs.Objects.{units_of}
use Rattle.go_scopes_bodies.specs.Faults.{IsFaultlessByFunctions, IsFaultlessOutside, own_faults}
use Rattle.go_scopes_changes.proofs.Clauses.{no_missing}
use Rattle.go_scopes_changes.proofs.laws.packages_stay_free_of_faults.Goals as goal

pub returns : goal.returns
returns c = λ old new h k e r bodied imported fine.
    let i : AreNamed old = c.functions_have_names.ensures old h r in
    let j : AreNamed new = c.functions_stay_named.ensures old new h k e i in
    let before : IsFaultlessByFunctions old = (c.faults_are_those_of_functions.ensures old h i).apart r in
    let was : IsFaultlessOutside old = before.outside in
    let counts = c.statements_are_counted_by_functions.ensures new k in
    let bodies : missing_bodies (found (units_of new)) (units_of new) ≡ [] = c.bodies_stay_there.ensures old new h k e bodied (no_missing (units_of old) was.clauses) in
    (c.faults_are_those_of_functions.ensures new k j).together (record {
      outside = record {
        clauses = c.clauses_stay_faultless.ensures old new h k e was.clauses bodies;
        declared_once = c.names_stay_declared_once.ensures old new h k e was.declared_once;
        not_hidden = c.imports_stay_seen.ensures old new h k e was.not_hidden;
        imported_once = c.imports_stay_single.ensures old new h k e was.imported_once;
        lookups = c.names_stay_looked_up.ensures old new h k e was.lookups;
        members_once = c.members_stay_different.ensures old new h k e was.members_once;
        needs = c.declarations_stay_in_order.ensures old new h k e was.needs;
      };
      imports = c.imports_stay_used.ensures old new h i k j e imported before.imports;
      statements = counts.enough (subst (λ x. x ≤ 65536) (sym counts.counted) fine.statements);
      functions = λ x n g s t. ap (own_faults (function_alone g)) (λ a w. c.names_outside_of_functions_stay.ensures old new h k e n w a) ∙ fine.functions x n g s t;
    })
