use Rattle.std.proofs.Common.{sym, arith}
use Rattle.go_values.proofs.Equality.{other_lengths}
use Rattle.go_values.proofs.comparisons.+equal.Goals as goal

pub all_equal-returns-then-a-b : goal.all_equal-returns-then-a-b
all_equal-returns-then-a-b t c = sym (other_lengths c.args.a.now c.args.b.now (λ e. absurd (omega (arith, e))))
