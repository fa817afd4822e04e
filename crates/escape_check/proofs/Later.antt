-- What occurs behind a member, as the program tells it.
use Rattle.std.proofs.Common.{◌≡◌, ◌∙◌, ℕ, ap}
use Rattle.std.specs.Prelude.{nat_lt}
use Rattle.go_typed.specs.Funcs.{IsTypedFunc}
use Rattle.go_typed.specs.Packages.{PackageView}
use Rattle.param_choose.specs.Ends.{end_at}
use Rattle.param_choose.specs.Members.{occurs_later}
use Rattle.param_choose.proofs.Public.{ends_occur}
use Rattle.escape_check.specs.declared.member.Member.{Member}
use Rattle.escape_check.specs.Shown.{IsSound, member_view}

pub occurs_told : (p : PackageView) (m : Member) (n : ℕ) → IsSound p m → IsTypedFunc m.func.now → nat_lt m.upto (end_at m.ends.now n) ≡ occurs_later (member_view m) n
occurs_told p m n s f = ap (λ es. nat_lt m.upto (end_at es n)) s.ends ∙ ends_occur m.func.now f.tokens m.upto n
