use Rattle.std.proofs.Common.{◌≡◌, ◌++◌, ◌∷◌, [], sym, subst}
use Rattle.go_types.specs.Tables.{rights_of}
use Rattle.go_package_defs.specs.Knowledge.{is_type}
use Rattle.go_package_rounds.specs.World.{AreNamed}
use Rattle.go_package_types.specs.Numbers.{open_right}
use Rattle.go_package_types.proofs.Declaring.{named_next, rights_next}
use Rattle.go_package_types.proofs.declare.declare_one.Goals as goal

pub returns-in_ok-push-in-Type-clause-named : goal.returns-in_ok-push-in-Type-clause-named
returns-in_ok-push-in-Type-clause-named c =
    let more : c.push.new.self.items ≡ c.args.named.now.items ++ c.in_ok-of-in-Type.of ∷ [] = c.in_ok-push-in-Type.ensures.items in
    subst (AreNamed c.declare.new.self) (sym more) (named_next c.args.types.now c.declare.new.self c.in_ok-of-in-Type.of c.count.ensures.table c.count-in-Type.ensures.table c.in_ok-of-in-Type.ensures.answer c.args.named.now.items c.requires.named c.requires.count)

pub returns-in_ok-push-in-Type-clause-rights : goal.returns-in_ok-push-in-Type-clause-rights
returns-in_ok-push-in-Type-clause-rights c =
    let old = c.args.types.now in
    let new = c.declare.new.self in
    subst (λ e. rights_of new ≡ rights_of old ++ open_right (is_type e)) (sym c.in-Type.is) (rights_next old new c.in_ok-of-in-Type.of c.count.ensures.table c.count-in-Type.ensures.table c.in_ok-of-in-Type.ensures.answer)
