use Rattle.go_package_settled.proofs.Settling.{settled}
use Rattle.go_package_settled.specs.Agreeing.{ExpressionsAgree, TypesAgree}
use Rattle.go_package_settled.proofs.laws.ordered_packages_settle.Goals as goal

pub returns : goal.returns
returns c p os x a =
    let expressions : ExpressionsAgree = λ within s new r h t n g e w. c.expressions_agree.ensures within s new r h t n g e w in
    let types : TypesAgree = λ within s new r h t n g e w. c.types_agree.ensures.limited within s new r h t n g e w in
    settled expressions types p os x a
