use Rattle.std.proofs.Common.{refl}
use Rattle.go_package_laws.proofs.Names.{Of, expression_agrees}
use Rattle.go_package_laws.proofs.Typing.{typed_so}
use Rattle.go_package_laws.proofs.laws.expressions_agree.Goals as goal

pub returns : goal.returns
returns c p s new r h t n a e w =
    let of : Of p s.sorts r s.objects new s _ = record { stand = refl; name = refl; need = n } in
    typed_so p new r s h t a (expression_agrees p s.sorts r s.objects new s h t of e) w
