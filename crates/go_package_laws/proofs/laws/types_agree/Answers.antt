use Rattle.std.proofs.Common.{refl}
use Rattle.go_package_laws.proofs.Names.{Of, type_agrees}
use Rattle.go_package_laws.proofs.Typing.{typed_so}
use Rattle.go_package_laws.proofs.Types.{same_type}
use Rattle.go_package_laws.proofs.laws.types_agree.Goals as goal

pub returns : goal.returns
returns c = record {
  limited = λ p s new r h t n a e w.
      let of : Of p s.sorts r s.objects new s _ = record { stand = refl; name = refl; need = n } in
      typed_so p new r s h t a (type_agrees p s.sorts r s.objects new s h t of e) w;
  unlimited = λ p s new r h t n lim a told e.
      let of : Of p s.sorts r s.objects new s _ = record { stand = refl; name = refl; need = n } in
      same_type p s.sorts r s.objects new s h t of lim a told e;
}
