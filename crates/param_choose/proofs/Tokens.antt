-- Tokens one by one: which locals they name.
use Rattle.std.proofs.Common.{◌≡◌, ◌∙◌, ℕ, suc, ◌+◌, ◌-◌, ◌<◌, ◌≤◌, Bool, true, false, List, [], ◌∷◌, ◌++◌, map, Option, Some, None, refl, sym, ap, arith, append_assoc}
use Rattle.std.proofs.lemmas.List.{map-append}
use Rattle.std.specs.Prelude.{◌||◌, if◌then◌else◌}
use Rattle.std.specs.List.{list_any}
use Rattle.go_typed.specs.declared.walk.LocalUse.{LocalUse}
use Rattle.go_typed.specs.Funcs.{named_at}
use Rattle.go_typed.specs.Windows.{use_at, uses_from}
use Rattle.param_choose.specs.Locals.{each_local, has, once}

or-assoc : (a b c : Bool) → (a || (b || c)) ≡ ((a || b) || c)
or-assoc true b c = refl
or-assoc false b c = refl

pub or-false : (a : Bool) → (a || false) ≡ a
or-false true = refl
or-false false = refl

pub any-append : {A : Type 0} (test : A → Bool) (xs ys : List A) → list_any test (xs ++ ys) ≡ (list_any test xs || list_any test ys)
any-append test [] ys = refl
any-append test (x ∷ xs) ys = ap (λ b. test x || b) (any-append test xs ys) ∙ or-assoc (test x) (list_any test xs) (list_any test ys)

-- the locals from a token on
next_use : (tokens : List (Option ℕ)) (t to : ℕ) → t < to → uses_from tokens t (to - t) ≡ use_at t (named_at tokens t) ++ uses_from tokens (t + 1) (to - (t + 1))
next_use tokens t to h =
    let e : to - t ≡ suc (to - (t + 1)) = omega arith in
    let s : suc t ≡ t + 1 = omega arith in
    ap (uses_from tokens t) e ∙ ap (λ u. use_at t (named_at tokens t) ++ uses_from tokens u (to - (t + 1))) s

-- none is left at the end
pub no_uses : (tokens : List (Option ℕ)) (t to : ℕ) → to ≤ t → uses_from tokens t (to - t) ≡ []
no_uses tokens t to h = let e : to - t ≡ 0 = omega arith in ap (uses_from tokens t) e

-- ---- a test of uses

pub any_next : (test : LocalUse → Bool) (tokens : List (Option ℕ)) (t to : ℕ) → t < to →
    list_any test (uses_from tokens t (to - t)) ≡ (list_any test (use_at t (named_at tokens t)) || list_any test (uses_from tokens (t + 1) (to - (t + 1))))
any_next test tokens t to h =
    ap (list_any test) (next_use tokens t to h) ∙ any-append test (use_at t (named_at tokens t)) (uses_from tokens (t + 1) (to - (t + 1)))

-- ---- locals by first occurrence

pub locals_next : (tokens : List (Option ℕ)) (t to : ℕ) → t < to →
    each_local (uses_from tokens t (to - t)) ≡ each_local (use_at t (named_at tokens t)) ++ each_local (uses_from tokens (t + 1) (to - (t + 1)))
locals_next tokens t to h =
    ap each_local (next_use tokens t to h) ∙ map-append (λ (u : LocalUse). u.local) (use_at t (named_at tokens t)) (uses_from tokens (t + 1) (to - (t + 1)))

once_by : (out rest : List ℕ) (n : ℕ) (b : Bool) → has out n ≡ b →
    out ++ once out (n ∷ rest) ≡ (if b then out else out ++ n ∷ []) ++ once (if b then out else out ++ n ∷ []) rest
once_by out rest n true e = ap (λ c. out ++ (if c then once out rest else n ∷ once (out ++ n ∷ []) rest)) e
once_by out rest n false e =
    ap (λ c. out ++ (if c then once out rest else n ∷ once (out ++ n ∷ []) rest)) e ∙ sym (append_assoc out (n ∷ []) (once (out ++ n ∷ []) rest))

-- one local more
pub once_more : (out rest : List ℕ) (n : ℕ) →
    out ++ once out (n ∷ rest) ≡ (if has out n then out else out ++ n ∷ []) ++ once (if has out n then out else out ++ n ∷ []) rest
once_more out rest n = once_by out rest n (has out n) refl
