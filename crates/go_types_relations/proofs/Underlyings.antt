-- The underlying type that is told is the one of the relation.
use Rattle.std.proofs.Common.{◌≡◌, ℕ, Option, Some, refl, ◌∙◌, subst, false}
use Rattle.std.proofs.lemmas.Option.{same_Some}
use Rattle.go_types.specs.Trees.{TypeTree, boolean, text, integer, array, slice, structure, function, declared, is_declared}
use Rattle.go_types.specs.Relations.{Rights, Underlying, itself, through}
use Rattle.go_types_relations.specs.Questions.{answers}
use Rattle.go_types_relations.specs.Tests.{underlying_by, underlying_of}
use Rattle.go_types_relations.proofs.Rounds.{Monotone, right_answers, asked_holds}

pub underlying_monotone : Monotone underlying_by
underlying_monotone f g w (declared n) x e = w n x e
underlying_monotone f g w boolean x e = e
underlying_monotone f g w text x e = e
underlying_monotone f g w (integer _) x e = e
underlying_monotone f g w (array _ _) x e = e
underlying_monotone f g w (slice _) x e = e
underlying_monotone f g w (structure _ _) x e = e
underlying_monotone f g w (function _ _) x e = e

by_itself : (known : ℕ → Option TypeTree) (t : TypeTree) → is_declared t ≡ false → underlying_by known t ≡ Some t
by_itself known (declared n) e = cc
by_itself known boolean e = refl
by_itself known text e = refl
by_itself known (integer _) e = refl
by_itself known (array _ _) e = refl
by_itself known (slice _) e = refl
by_itself known (structure _ _) e = refl
by_itself known (function _ _) e = refl

pub underlying_told : (rights : Rights) (t u : TypeTree) → Underlying rights t u → underlying_of rights t ≡ Some u
underlying_told rights t u (itself _ e) = by_itself (answers underlying_by rights) t e
underlying_told rights t u (through n r _ h l) = right_answers underlying_by underlying_monotone rights n r h ∙ underlying_told rights r u l

step : (rights : Rights) (known : ℕ → Option TypeTree) → ((n : ℕ) (x : TypeTree) → known n ≡ Some x → Underlying rights (declared n) x) → (t x : TypeTree) → underlying_by known t ≡ Some x → Underlying rights t x
step rights known f (declared n) x e = f n x e
step rights known f boolean x e = subst (Underlying rights boolean) (same_Some boolean x e) (itself boolean refl)
step rights known f text x e = subst (Underlying rights text) (same_Some text x e) (itself text refl)
step rights known f (integer k) x e = subst (Underlying rights (integer k)) (same_Some (integer k) x e) (itself (integer k) refl)
step rights known f (array n t) x e = subst (Underlying rights (array n t)) (same_Some (array n t) x e) (itself (array n t) refl)
step rights known f (slice t) x e = subst (Underlying rights (slice t)) (same_Some (slice t) x e) (itself (slice t) refl)
step rights known f (structure ns ts) x e = subst (Underlying rights (structure ns ts)) (same_Some (structure ns ts) x e) (itself (structure ns ts) refl)
step rights known f (function ps rs) x e = subst (Underlying rights (function ps rs)) (same_Some (function ps rs) x e) (itself (function ps rs) refl)

pub told_underlying : (rights : Rights) (t u : TypeTree) → underlying_of rights t ≡ Some u → Underlying rights t u
told_underlying rights = asked_holds underlying_by rights (Underlying rights) (λ n r x h l. through n r x h l) (step rights)
