use Rattle.std.proofs.Common.{ap}
use Rattle.go_package_defs.specs.Answer.{specifications, answer_on}
use Rattle.go_package_defs.specs.Knowledge.{outlines}
use Rattle.go_package_defs.specs.Sources.{package_of, rounds}
use Rattle.go_package_laws.proofs.Rounds.{settled, further}
use Rattle.go_package_laws.proofs.laws.rounds_settle.Goals as goal

pub returns : goal.returns
returns c = record {
  known = λ p os found ranks k a m. settled p os found ranks a k m;
  answer = λ ss u found ranks a m.
      let p = package_of ss u in
      let ds = specifications 0 ss in
      ap (answer_on p ds (outlines p ds)) (settled p (outlines p ds) found ranks a (rounds p) m);
  further = λ p os found ranks k a m. further p os found ranks a k m;
}
