use Rattle.std.proofs.Common.{◌≡◌, ◌≤◌, ◌++◌, ◌∷◌, [], Err, length, ap, sym, subst, ◌∙◌, rules, arith}
use Rattle.std.specs.List.{AllByRecursion}
use Rattle.go_tree.specs.declared.context.Entity.TheVariants as entity
use Rattle.go_types.specs.Tables.{rights_of}
use Rattle.go_types_relations.proofs.Public.{extends_self, extends_both}
use Rattle.go_declarations.specs.Views.{specification_view, seen_all}
use Rattle.go_package_defs.specs.Bodies.{those_of, placed, typed_function}
use Rattle.go_stmts.specs.Bodies.{KnownFunction}
use Rattle.go_stmts.proofs.Public.{all_more}
use Rattle.go_package.specs.Functions.{package_in, around_in, functions_seen, IsStanding, check_failure}
use Rattle.go_base.specs.Gives.{Unless}
use Rattle.go_package.proofs.Rows.{taken, passed, functions_known, objects_known, none_all, none_left, told_start, told_same, told_fails, told_end, told_more, around_stays}
use Rattle.go_package.proofs.functions.type_each.Goals as goal

pub loop-specification-init : goal.loop-specification-init
loop-specification-init c =
    let p = package_in c.args.files.now c.args.uses.now in
    let a = around_in c.args.types.now c.args.env.now in
    record {
      extends = extends_self c.args.types.now;
      known = none_all _ c.new-functions.result.items c.new-functions.ensures.items;
      standing = c.requires.standing;
      told = told_start p a c.args.types.now 0 (those_of entity.Function (seen_all c.args.specifications.now)) c.new-functions.result.items c.new-functions.ensures.items;
    }

pub loop-specification-preserved-then-not-is_function : goal.loop-specification-preserved-then-not-is_function
loop-specification-preserved-then-not-is_function c =
    let p = package_in c.args.files.now c.args.uses.now in
    let a = around_in c.args.types.now c.args.env.now in
    let inv = c.loop-specification.invariant in
    let same = passed entity.Function c.args.specifications.now c.loop-specification.specification-index c.loop-specification-test.true c.specification-item.result _ c.specification-item.is
    (sym c.if-not-is_function.true ∙ c.is_function.ensures) in
    record {
      extends = inv.extends;
      known = inv.known;
      standing = subst (AllByRecursion (IsStanding p)) same inv.standing;
      told = told_same p a _ c.loop-specification.types c.loop-specification.functions.items c.loop-specification.number _ _ inv.told same;
    }

pub type_function-requires-clause-objects : goal.type_function-requires-clause-objects
type_function-requires-clause-objects c = objects_known c.args.types.now c.loop-specification.types c.count.ensures.table c.loop-specification.invariant.extends c.args.env.now c.requires.objects

pub type_function-requires-clause-standing : goal.type_function-requires-clause-standing
type_function-requires-clause-standing c =
    let p = package_in c.args.files.now c.args.uses.now in
    let is = taken entity.Function c.args.specifications.now c.loop-specification.specification-index c.loop-specification-test.true c.specification-item.result _ c.specification-item.is
    (sym c.if-not-is_function.false ∙ c.is_function.ensures) in
    (subst (AllByRecursion (IsStanding p)) is c.loop-specification.invariant.standing).0

pub returns-in_err-typed-clause-extends : goal.returns-in_err-typed-clause-extends
returns-in_err-typed-clause-extends c = extends_both c.args.types.now c.loop-specification.types c.type_function.new.types c.loop-specification.invariant.extends c.type_function.ensures.extends

pub returns-in_err-typed-clause-exact : goal.returns-in_err-typed-clause-exact
returns-in_err-typed-clause-exact c =
    let p = package_in c.args.files.now c.args.uses.now in
    let a = around_in c.args.types.now c.args.env.now in
    let old = c.loop-specification.types in
    let inv = c.loop-specification.invariant in
    let is = taken entity.Function c.args.specifications.now c.loop-specification.specification-index c.loop-specification-test.true c.specification-item.result _ c.specification-item.is
    (sym c.if-not-is_function.false ∙ c.is_function.ensures) in
    let same = around_stays c.args.types.now old c.count.ensures.table inv.extends c.args.env.now c.requires.objects in
    let d = specification_view c.specification-item.result in
    let e = c.in_err-typed.field-0.0 in
    told_fails p a (λ v. functions_seen c.type_function.new.types v.items) _ old c.loop-specification.functions.items c.loop-specification.number _ d _ e c.from_residual.result inv.told is
    (subst (λ b. Unless (check_failure e) (λ g. placed p d (typed_function p b (rights_of old) c.loop-specification.number d) ≡ Err g)) same c.in_err-typed.ensures.exact) (search rules)

pub returns-in_err-push-clause-extends : goal.returns-in_err-push-clause-extends
returns-in_err-push-clause-extends c = extends_both c.args.types.now c.loop-specification.types c.type_function.new.types c.loop-specification.invariant.extends c.type_function.ensures.extends

pub returns-in_err-number-clause-extends : goal.returns-in_err-number-clause-extends
returns-in_err-number-clause-extends c = extends_both c.args.types.now c.loop-specification.types c.type_function.new.types c.loop-specification.invariant.extends c.type_function.ensures.extends

pub loop-specification-preserved : goal.loop-specification-preserved
loop-specification-preserved c =
    let p = package_in c.args.files.now c.args.uses.now in
    let a = around_in c.args.types.now c.args.env.now in
    let old = c.loop-specification.types in
    let new = c.type_function.new.types in
    let inv = c.loop-specification.invariant in
    let fs = c.loop-specification.functions.items in
    let gs = c.push.new.self.items in
    let f = c.in_ok-typed.typed in
    let more : gs ≡ fs ++ f ∷ [] = c.in_ok-push.ensures.items in
    let ok = c.count-in-loop-specification.ensures.table in
    let d = specification_view c.specification-item.result in
    let is = taken entity.Function c.args.specifications.now c.loop-specification.specification-index c.loop-specification-test.true c.specification-item.result _ c.specification-item.is
    (sym c.if-not-is_function.false ∙ c.is_function.ensures) in
    let same = around_stays c.args.types.now old c.count.ensures.table inv.extends c.args.env.now c.requires.objects in
    record {
      extends = extends_both c.args.types.now old new inv.extends c.type_function.ensures.extends;
      known = all_more (KnownFunction (length new.shapes)) fs gs f (functions_known old new ok c.type_function.ensures.extends fs inv.known) c.in_ok-typed.ensures.known more;
      standing = (subst (AllByRecursion (IsStanding p)) is inv.standing).1;
      told = told_more p a old new ok c.type_function.ensures.extends _ fs gs f c.loop-specification.number c.in_ok-number.number _ d _ inv.known inv.told is
          (ap (λ b. placed p d (typed_function p b (rights_of old) c.loop-specification.number d)) (sym same) ∙ c.in_ok-typed.ensures.exact) more c.in_ok-number.ensures;
    }

pub returns-clause-extends : goal.returns-clause-extends
returns-clause-extends c = c.loop-specification.invariant.extends

pub returns-clause-exact : goal.returns-clause-exact
returns-clause-exact c =
    let p = package_in c.args.files.now c.args.uses.now in
    let a = around_in c.args.types.now c.args.env.now in
    let ended : length c.args.specifications.now ≤ c.loop-specification.specification-index = omega (arith, c.loop-specification-test.false) in
    told_end p a _ c.loop-specification.types c.loop-specification.functions.items c.loop-specification.number _ c.loop-specification.invariant.told
    (none_left entity.Function c.args.specifications.now c.loop-specification.specification-index ended)

pub returns-clause-known : goal.returns-clause-known
returns-clause-known c = c.loop-specification.invariant.known
