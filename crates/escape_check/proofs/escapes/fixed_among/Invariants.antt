use Rattle.std.proofs.Common.{◌≡◌, ℕ, Bool, ◌++◌, filter, drop}
use Rattle.std.specs.Prelude.{nat_lt}
use Rattle.clone_window.specs.Sameness.{sort_at, standing}
use Rattle.escape_check.proofs.escapes.fixed_among.Given as goal

abbrev pub invariant-loop-local : goal.invariant-loop-local
invariant-loop-local l =
    let fixed : ℕ → Bool = λ n. nat_lt 1 (standing (sort_at l.func.locals n)) in
    filter fixed l.locals ≡ l.fixed.items ++ filter fixed (drop l.local-index l.locals)
