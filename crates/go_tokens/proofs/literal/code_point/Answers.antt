use Rattle.std.proofs.Common.{ℕ, Option, Some, None, SomeIff, IfSome, ◌≡◌}
use Rattle.std.specs.Char.{IsScalar}
use Rattle.go_tokens.proofs.Numbers.{code_point_is}
use Rattle.go_tokens.proofs.literal.code_point.Goals as goal

same : (o : Option ℕ) (v : ℕ) → SomeIff o (IsScalar v) v → IfSome o (λ c. c ≡ v)
same None v h = tt
same (Some c) v h = h.1

pub returns : goal.returns
returns c = code_point_is c.args.value c.from_u32.result c.from_u32.ensures.cases (same c.from_u32.result c.args.value c.from_u32.ensures.value)
