use Rattle.std.proofs.Common.{sym, subst}
use Rattle.std.specs.List.{AllByRecursion}
use Rattle.go_package_defs.specs.Answer.{specifications}
use Rattle.go_tree.specs.Uses.{UsesView}
use Rattle.go_heads_types.proofs.Below.{names_own}
use Rattle.go_heads_types.proofs.Entities.{Declares, types_declared}
use Rattle.go_heads_types.proofs.laws.objects_name_types_of_the_package.Goals as goal

pub returns : goal.returns
returns c ss names x h u e same answer =
    names_own ss u (subst (λ (v : UsesView). AllByRecursion (Declares (specifications 0 ss)) v.package_level) (sym same) (types_declared c.names_are_in_order.ensures names ss x h)) e answer
