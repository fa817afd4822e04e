use Rattle.std.proofs.Common.{◌≡◌, ℕ, arith, subst, sym, rules}
use Rattle.go_base.specs.Package.{IsPackage}
use Rattle.clone_server.specs.Made as specs
use Rattle.clone_server.proofs.Making.{text_length}
use Rattle.clone_server.proofs.made.made.Goals as goal

made_is_package : (seed : ℕ) → IsPackage (specs.made seed)
made_is_package seed = record { ascends = (tt, tt); few = omega arith; small = let t = text_length seed in omega (arith, t) }

pub returns-clause-package : goal.returns-clause-package
returns-clause-package c =
    let is : c.push.new.self.items ≡ specs.made c.args.seed = search rules in
    subst IsPackage (sym is) (made_is_package c.args.seed)
