use Rattle.std.proofs.Common.{◌≡◌, ◌≤◌, ◌++◌, ◌∷◌, [], length, map, refl, ap, sym, subst, ◌∙◌, arith}
use Rattle.std.specs.List.{AllByRecursion}
use Rattle.go_tree.specs.declared.context.Entity.TheVariants as entity
use Rattle.go_types.specs.Tables.{rights_of}
use Rattle.go_types_relations.proofs.Public.{extends_self, extends_both}
use Rattle.go_typed.specs.Views.{seen, Known}
use Rattle.go_declarations.specs.Views.{specification_view, seen_all}
use Rattle.go_package_defs.specs.Bodies.{those_of, portion_of, variable_of, variables_of}
use Rattle.go_stmts.proofs.Public.{all_more}
use Rattle.go_package.specs.Functions.{package_in, around_in, IsStanding, IsPlain}
use Rattle.go_package.proofs.Rows.{taken, passed, nodes_known, objects_known, none_all, none_left, nothing_typed, variables_more, variables_end, around_stays}
use Rattle.go_package.proofs.variables.type_each.Goals as goal

pub loop-specification-init : goal.loop-specification-init
loop-specification-init c =
    let p = package_in c.args.files.now c.args.uses.now in
    let a = around_in c.args.types.now c.args.env.now in
    record {
      extends = extends_self c.args.types.now;
      rights = refl;
      known = none_all _ c.new-variables.result.items c.new-variables.ensures.items;
      standing = c.requires.standing;
      plain = c.requires.plain;
      told = nothing_typed c.args.types.now c.new-variables.result.items (variables_of p a (rights_of c.args.types.now) (those_of entity.Variable (seen_all c.args.specifications.now))) c.new-variables.ensures.items;
    }

pub loop-specification-preserved-then-not-is_variable : goal.loop-specification-preserved-then-not-is_variable
loop-specification-preserved-then-not-is_variable c =
    let p = package_in c.args.files.now c.args.uses.now in
    let a = around_in c.args.types.now c.args.env.now in
    let inv = c.loop-specification.invariant in
    let same = passed entity.Variable c.args.specifications.now c.loop-specification.specification-index c.loop-specification-test.true c.specification-item.result _ c.specification-item.is
    (sym c.if-not-is_variable.true ∙ c.is_variable.ensures) in
    record {
      extends = inv.extends;
      rights = inv.rights;
      known = inv.known;
      standing = subst (AllByRecursion (IsStanding p)) same inv.standing;
      plain = subst (AllByRecursion (λ d. IsPlain d.tree)) same inv.plain;
      told = ap (λ ds. map (seen c.loop-specification.types) c.loop-specification.variables.items ++ variables_of p a (rights_of c.args.types.now) ds) (sym same) ∙ inv.told;
    }

pub type_variable-requires-clause-objects : goal.type_variable-requires-clause-objects
type_variable-requires-clause-objects c = objects_known c.args.types.now c.loop-specification.types c.count.ensures.table c.loop-specification.invariant.extends c.args.env.now c.requires.objects

pub type_variable-requires-clause-standing : goal.type_variable-requires-clause-standing
type_variable-requires-clause-standing c =
    let p = package_in c.args.files.now c.args.uses.now in
    let is = taken entity.Variable c.args.specifications.now c.loop-specification.specification-index c.loop-specification-test.true c.specification-item.result _ c.specification-item.is
    (sym c.if-not-is_variable.false ∙ c.is_variable.ensures) in
    (subst (AllByRecursion (IsStanding p)) is c.loop-specification.invariant.standing).0

pub type_variable-requires-clause-plain : goal.type_variable-requires-clause-plain
type_variable-requires-clause-plain c =
    let is = taken entity.Variable c.args.specifications.now c.loop-specification.specification-index c.loop-specification-test.true c.specification-item.result _ c.specification-item.is
    (sym c.if-not-is_variable.false ∙ c.is_variable.ensures) in
    (subst (AllByRecursion (λ d. IsPlain d.tree)) is c.loop-specification.invariant.plain).0

pub returns-in_err-typed-clause-extends : goal.returns-in_err-typed-clause-extends
returns-in_err-typed-clause-extends c = extends_both c.args.types.now c.loop-specification.types c.type_variable.new.types c.loop-specification.invariant.extends c.type_variable.ensures.extends

pub returns-in_err-push-clause-extends : goal.returns-in_err-push-clause-extends
returns-in_err-push-clause-extends c = extends_both c.args.types.now c.loop-specification.types c.type_variable.new.types c.loop-specification.invariant.extends c.type_variable.ensures.extends

pub loop-specification-preserved : goal.loop-specification-preserved
loop-specification-preserved c =
    let p = package_in c.args.files.now c.args.uses.now in
    let a = around_in c.args.types.now c.args.env.now in
    let start = c.args.types.now in
    let old = c.loop-specification.types in
    let new = c.type_variable.new.types in
    let inv = c.loop-specification.invariant in
    let ns = c.loop-specification.variables.items in
    let ms = c.push.new.self.items in
    let n = c.in_ok-typed.typed in
    let more : ms ≡ ns ++ n ∷ [] = c.in_ok-push.ensures.items in
    let ok = c.count-in-loop-specification.ensures.table in
    let d = specification_view c.specification-item.result in
    let is = taken entity.Variable c.args.specifications.now c.loop-specification.specification-index c.loop-specification-test.true c.specification-item.result _ c.specification-item.is
    (sym c.if-not-is_variable.false ∙ c.is_variable.ensures) in
    let same = around_stays start old c.count.ensures.table inv.extends c.args.env.now c.requires.objects in
    record {
      extends = extends_both start old new inv.extends c.type_variable.ensures.extends;
      rights = c.in_ok-typed.ensures.rights ∙ inv.rights;
      known = all_more (Known (length new.shapes)) ns ms n (nodes_known old new ok c.type_variable.ensures.extends ns inv.known) c.in_ok-typed.ensures.known more;
      standing = (subst (AllByRecursion (IsStanding p)) is inv.standing).1;
      plain = (subst (AllByRecursion (λ d. IsPlain d.tree)) is inv.plain).1;
      told = variables_more old new ok c.type_variable.ensures.extends p a (rights_of start) _ ns ms n _ d _ inv.known inv.told is
          (ap (λ b. variable_of b (rights_of start) (portion_of p d)) (sym same) ∙ ap (λ rs. variable_of (around_in old c.args.env.now) rs (portion_of p d)) (sym inv.rights) ∙ c.in_ok-typed.ensures.exact) more;
    }

pub returns-clause-extends : goal.returns-clause-extends
returns-clause-extends c = c.loop-specification.invariant.extends

pub returns-clause-rights : goal.returns-clause-rights
returns-clause-rights c = c.loop-specification.invariant.rights

pub returns-clause-exact : goal.returns-clause-exact
returns-clause-exact c =
    let p = package_in c.args.files.now c.args.uses.now in
    let a = around_in c.args.types.now c.args.env.now in
    let ended : length c.args.specifications.now ≤ c.loop-specification.specification-index = omega (arith, c.loop-specification-test.false) in
    variables_end p a (rights_of c.args.types.now) (map (seen c.loop-specification.types) c.loop-specification.variables.items) _ _ c.loop-specification.invariant.told
    (none_left entity.Variable c.args.specifications.now c.loop-specification.specification-index ended)

pub returns-clause-known : goal.returns-clause-known
returns-clause-known c = c.loop-specification.invariant.known
