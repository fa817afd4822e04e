use Rattle.std.proofs.Common.{◌++◌, length, ap, sym, ◌∙◌}
use Rattle.go_types.specs.Tables.{rights_of}
use Rattle.go_types_relations.proofs.Public.{extends_self, extends_both}
use Rattle.go_package_types.specs.Numbers.{open_rights}
use Rattle.go_package_types.proofs.Declaring.{open_step, nothing_named, no_rights}
use Rattle.go_package_types.proofs.declare.declare_types.Goals as goal

pub loop-object-init : goal.loop-object-init
loop-object-init c = record {
  extends = extends_self c.args.types.now;
  named = nothing_named c.args.types.now c.new-named.result.items c.new-named.ensures.items;
  count = ap length c.new-named.ensures.items ∙ sym (ap length c.requires);
  rights = ap (λ r. r ++ open_rights c.args.objects.now) (no_rights c.args.types.now c.requires);
}

pub returns-in_err-declare_one-clause-extends : goal.returns-in_err-declare_one-clause-extends
returns-in_err-declare_one-clause-extends c = extends_both c.args.types.now c.loop-object.types c.declare_one.new.types c.loop-object.invariant.extends c.declare_one.ensures.extends

pub loop-object-preserved : goal.loop-object-preserved
loop-object-preserved c =
    let old = c.loop-object.types in
    let new = c.declare_one.new.types in
    record {
      extends = extends_both c.args.types.now old new c.loop-object.invariant.extends c.declare_one.ensures.extends;
      named = c.in_ok-declare_one.ensures.named;
      count = c.in_ok-declare_one.ensures.count;
      rights = open_step c.args.objects.now c.loop-object.object-index _ (rights_of old) (rights_of new) (open_rights c.args.objects.now) c.loop-object-test.true c.in_ok-declare_one.ensures.rights c.loop-object.invariant.rights;
    }
