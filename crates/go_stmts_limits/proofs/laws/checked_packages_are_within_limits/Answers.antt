use Rattle.go_stmts_limits.proofs.Arrays.{AreTold}
use Rattle.go_stmts_limits.proofs.Packages.{sources_within, checked_within}
use Rattle.go_stmts_limits.proofs.Renamed.{package_within}
use Rattle.go_stmts_limits.proofs.laws.checked_packages_are_within_limits.Goals as goal

pub returns : goal.returns
returns c =
    let tells : AreTold = λ rights u n h. (c.functions_are_the_relations.ensures.scalars rights u n).1 h in
    record {
      sources = λ limit ss t e w. sources_within limit tells ss t e w;
      checked = λ limit texts d h t e w. checked_within limit tells texts d h t e w;
      renamed = λ p h limit other t e w same judged. package_within tells p h limit other t e w same judged;
    }
