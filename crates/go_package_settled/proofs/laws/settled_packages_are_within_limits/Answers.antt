use Rattle.go_package_defs.specs.Answer.{specifications}
use Rattle.go_package_defs.specs.Knowledge.{outlines}
use Rattle.go_package_defs.specs.Sources.{package_of, rounds}
use Rattle.go_package_defs.specs.Verdicts.{known}
use Rattle.go_package_laws.proofs.Public.{are_found}
use Rattle.go_package_settled.proofs.laws.settled_packages_are_within_limits.Goals as goal

pub returns : goal.returns
returns c = record {
  found = λ limit p os s e w.
      let states = known p os (rounds p) in
      c.ordered_objects_are_within_limits.ensures.found limit p os states s.ranks (are_found p os states s.ranks s.staged) e w;
  answer = λ limit ss u e s a r w.
      let p = package_of ss u in
      let os = outlines p (specifications 0 ss) in
      let states = known p os (rounds p) in
      c.ordered_objects_are_within_limits.ensures.answer limit ss u e states s.ranks (are_found p os states s.ranks s.staged) s.low a r w;
}
