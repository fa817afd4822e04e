use Rattle.std.proofs.Common.{◌≡◌, ℕ, Option, Some, None, Decides, refl, ap, sym, ◌∙◌, eqb}
use Rattle.std.proofs.lemmas.Bool.Decides.{Decides-eqb}
use Rattle.std.proofs.lemmas.Option.{same_Some}
use Rattle.std.proofs.lemmas.Slice.Eq.{slice_eq-Decides}
use Rattle.std.specs.Option.{option_eq}
use Rattle.go_package_order.specs.Progress.{sides}
use Rattle.go_package_order.proofs.sides.are_held.Goals as goal

option_tells : (a b : Option ℕ) → Decides (option_eq eqb a b) (a ≡ b)
option_tells None None = (λ _. refl, λ _. refl)
option_tells None (Some y) = (λ e. absurd cc, λ e. absurd cc)
option_tells (Some x) None = (λ e. absurd cc, λ e. absurd cc)
option_tells (Some x) (Some y) = (λ e. ap (λ z. Some z) ((Decides-eqb x y).0 e), λ e. (Decides-eqb x y).1 (same_Some x y e))

pub returns : goal.returns
returns c = λ h t.
    let same : c.as_slice.result.now ≡ c.args.rights.now = (slice_eq-Decides option_tells c.as_slice.result.now c.args.rights.now c.eq.result c.eq.ensures).0 h in
    ap (sides t) (sym same ∙ c.as_slice.ensures.value) ∙ c.in_ok-held.ensures.are t
