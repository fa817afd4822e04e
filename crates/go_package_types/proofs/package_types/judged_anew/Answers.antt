use Rattle.std.proofs.Common.{ap, sym, subst, ◌∙◌}
use Rattle.go_types_relations.proofs.Public.{extends_both}
use Rattle.go_package_rounds.specs.World.{AreNamed}
use Rattle.go_package_rounds.proofs.Public.{named_more}
use Rattle.go_package_types.specs.Numbers.{open_rights}
use Rattle.go_package_types.proofs.package_types.judged_anew.Goals as goal

pub judged_in_rounds-requires-clause-fits : goal.judged_in_rounds-requires-clause-fits
judged_in_rounds-requires-clause-fits c =
    let h = c.requires.fits.1 in
    record {
      needs = h.needs;
      env = h.env;
      named = subst (AreNamed c.basics.new.types) (sym c.deref.ensures.value) (named_more c.declare_types.new.types c.basics.new.types c.count-2.ensures.table c.in_ok-basics.ensures.grows.extends c.in_ok-named.named.items c.in_ok-named.ensures.named);
      basics = c.in_ok-basics.ensures.basics;
      literals = h.literals;
    }

pub judged_in_rounds-requires-clause-fresh : goal.judged_in_rounds-requires-clause-fresh
judged_in_rounds-requires-clause-fresh c = c.in_ok-basics.ensures.grows.rights ∙ c.in_ok-named.ensures.rights ∙ ap open_rights c.package_objects.ensures.objects

pub returns-clause-extends : goal.returns-clause-extends
returns-clause-extends c =
    extends_both c.args.types.now c.basics.new.types c.judged_in_rounds.new.types (extends_both c.args.types.now c.declare_types.new.types c.basics.new.types c.declare_types.ensures.extends c.basics.ensures.grows.extends) c.judged_in_rounds.ensures.extends
