use Rattle.std.proofs.Common.{◌≡◌, ◌++◌, ◌≤◌, ◌∷◌, [], length, refl, ap, ◌∙◌, arith}
use Rattle.std.proofs.lemmas.List.{length-append}
use Rattle.go_types_relations.proofs.Public.{extends_self, extends_both}
use Rattle.go_package_defs.specs.Bodies.{which_types}
use Rattle.go_stmts.proofs.OwnTypes.{rights_step, size_step, own_step, rights_end, nothing_own}
use Rattle.go_stmts.proofs.own.own_types.Goals as goal

pub loop-local-init : goal.loop-local-init
loop-local-init c = record {
  extends = extends_self c.args.types.now;
  count = ap length c.new-own.ensures.items;
  rights = refl;
  size = refl;
  own = nothing_own c.args.types.now (length c.args.types.now.rights) (which_types c.args.locals.now) c.new-own.result.items c.new-own.ensures.items;
}

pub returns-in_err-of-clause-extends : goal.returns-in_err-of-clause-extends
returns-in_err-of-clause-extends c = extends_both c.args.types.now c.loop-local.types c.own_type.new.types c.loop-local.invariant.extends c.own_type.ensures.extends

pub returns-in_err-push-clause-extends : goal.returns-in_err-push-clause-extends
returns-in_err-push-clause-extends c = extends_both c.args.types.now c.loop-local.types c.own_type.new.types c.loop-local.invariant.extends c.own_type.ensures.extends

pub loop-local-preserved : goal.loop-local-preserved
loop-local-preserved c =
    let old = c.loop-local.types in
    let new = c.own_type.new.types in
    let ds = c.args.locals.now in
    let k = c.loop-local.local-index in
    let inv = c.loop-local.invariant in
    let more : c.push.new.self.items ≡ c.loop-local.own.items ++ c.in_ok-of.of ∷ [] = c.in_ok-push.ensures.items in
    let size = ap length more ∙ length-append c.loop-local.own.items (c.in_ok-of.of ∷ []) in
    let count = inv.count in
    record {
      extends = extends_both c.args.types.now old new inv.extends c.own_type.ensures.extends;
      count = omega (arith, size, count);
      rights = rights_step old new ds k c.loop-local-test.true _ c.in_ok-of.of c.in_ok-of.ensures.own _ inv.rights;
      size = size_step old new ds k c.loop-local-test.true _ c.in_ok-of.of c.in_ok-of.ensures.own _ inv.size;
      own = own_step old new ds k c.loop-local-test.true _ c.in_ok-of.of c.in_ok-of.ensures.own (length c.args.types.now.rights) c.loop-local.own.items c.push.new.self.items c.own_type.ensures.table c.own_type.ensures.extends inv.size inv.count more inv.own;
    }

pub returns-clause-extends : goal.returns-clause-extends
returns-clause-extends c = c.loop-local.invariant.extends

pub returns-clause-rights : goal.returns-clause-rights
returns-clause-rights c =
    let ended : length c.args.locals.now ≤ c.loop-local.local-index = omega (arith, c.loop-local-test.false) in
    rights_end c.loop-local.types c.args.locals.now c.loop-local.local-index _ ended c.loop-local.invariant.rights

pub returns-clause-own : goal.returns-clause-own
returns-clause-own c = c.loop-local.invariant.own

pub returns-clause-count : goal.returns-clause-count
returns-clause-count c = let count = c.loop-local.invariant.count in omega (arith, count, c.loop-local-test.false, c.loop-local.auto.local-index-end)
