-- The first name of a local among tokens that passes a test, token by token.
use Rattle.std.proofs.Common.{◌≡◌, ◌∙◌, ℕ, suc, ◌+◌, ◌-◌, ◌<◌, ◌≤◌, Bool, List, [], ◌++◌, Option, ap, arith}
use Rattle.go_typed.specs.declared.walk.LocalUse.{LocalUse}
use Rattle.go_typed.specs.Funcs.{named_at}
use Rattle.go_typed.specs.Windows.{use_at, uses_from}
use Rattle.escape_check.specs.Firsts.{first_where, either}
use Rattle.escape_check.proofs.Firsts.{where_append}

next-use : (tokens : List (Option ℕ)) (t to : ℕ) → t < to → uses_from tokens t (to - t) ≡ use_at t (named_at tokens t) ++ uses_from tokens (t + 1) (to - (t + 1))
next-use tokens t to h =
    let e : to - t ≡ suc (to - (t + 1)) = omega arith in
    let s : suc t ≡ t + 1 = omega arith in
    ap (uses_from tokens t) e ∙ ap (λ u. use_at t (named_at tokens t) ++ uses_from tokens u (to - (t + 1))) s

-- none is left at the end
pub none_left : (tokens : List (Option ℕ)) (t to : ℕ) → to ≤ t → uses_from tokens t (to - t) ≡ []
none_left tokens t to h = let e : to - t ≡ 0 = omega arith in ap (uses_from tokens t) e

-- that of a token, or of those behind it
pub first_next : (test : LocalUse → Bool) (tokens : List (Option ℕ)) (t to : ℕ) → t < to →
    first_where test (uses_from tokens t (to - t)) ≡ either (first_where test (use_at t (named_at tokens t))) (first_where test (uses_from tokens (t + 1) (to - (t + 1))))
first_next test tokens t to h =
    ap (first_where test) (next-use tokens t to h) ∙ where_append test (use_at t (named_at tokens t)) (uses_from tokens (t + 1) (to - (t + 1)))
