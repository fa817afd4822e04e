-- The types that a package without faults in its declarations names.
use Rattle.std.proofs.Common.{◌≡◌, List, length, Option, Some, None, subst}
use Rattle.std.specs.Prelude.{Ok}
use Rattle.std.specs.List.{AllByRecursion}
use Rattle.go_tree.specs.Failures.{Failure}
use Rattle.go_tree.specs.Uses.{UsesView}
use Rattle.go_package_defs.specs.Answer.{Environment, specifications, environment_of, package_answer, unless}
use Rattle.go_package_defs.specs.Checked.{surroundings_of}
use Rattle.go_package_defs.specs.Knowledge.{outlines}
use Rattle.go_package_defs.specs.Sources.{Source, Package, package_of, rounds}
use Rattle.go_package_defs.specs.Verdicts.{known}
use Rattle.go_renumbering.specs.Functions.{AreBelow}
use Rattle.go_heads_types.proofs.Entities.{Declares}
use Rattle.go_heads_types.proofs.Rounds.{known_below}

answer_there : (o : Option Failure) (x y : Environment) → unless o x ≡ Ok y → x ≡ y
answer_there None x y e = cc
answer_there (Some f) x y e = absurd cc

abbrev NamesOwn : UsesView → Environment → Type 0
NamesOwn u e = AreBelow (length e.rights) (surroundings_of u e) e.rights

module _ (ss : List Source) (u : UsesView) (h : AllByRecursion (Declares (specifications 0 ss)) u.package_level) where
  abbrev p : Package
  p = package_of ss u

  pub names_own : (e : Environment) → package_answer ss u ≡ Ok e → NamesOwn u e
  names_own e a = subst (NamesOwn u) (answer_there _ (environment_of p (known p (outlines p (specifications 0 ss)) (rounds p))) e a) (known_below p (specifications 0 ss) h (rounds p))
