-- The functions of a package by number.
use Rattle.std.proofs.Common.{◌≡◌, ◌∙◌, ℕ, zero, suc, ◌+◌, true, List, [], ◌∷◌, None, Some, slice_get, refl, sym, ap, arith}
use Rattle.std.specs.Prelude.{nat_eq}
use Rattle.std.proofs.lemmas.Bool.{eqb-true, and_parts}
use Rattle.std.proofs.lemmas.Option.{same_Some}
use Rattle.go_typed.specs.Funcs.{FuncView, tree_of}
use Rattle.go_typed.specs.Packages.{are_numbered}
use Rattle.clone_window.specs.declared.bounds.Bounds.{Bounds}
use Rattle.clone_window.specs.Windows.{windows}
use Rattle.clone_window.specs.Bodies.{body_of, bodies_of}
use Rattle.alpha_hash_defs.specs.Sharing.{windows_there, windows_of_func}

-- the number of a function is its place
own-number : (fs : List FuncView) (n i : ℕ) (f : FuncView) → are_numbered n fs ≡ true → slice_get fs i ≡ Some f → f.number ≡ n + i
own-number [] n i f h e = cc
own-number (g ∷ fs) n zero f h e =
    let p = and_parts (nat_eq g.number n) (are_numbered (suc n) fs) h in
    ap (λ x. x.number) (sym (same_Some g f e)) ∙ eqb-true g.number n p.0 ∙ (let k : n ≡ n + 0 = omega arith in k)
own-number (g ∷ fs) n (suc i) f h e =
    let p = and_parts (nat_eq g.number n) (are_numbered (suc n) fs) h in
    own-number fs (suc n) i f p.1 e ∙ (let k : suc n + i ≡ n + suc i = omega arith in k)

body-there : (fs : List FuncView) (i : ℕ) (f : FuncView) → slice_get fs i ≡ Some f → slice_get (bodies_of fs) i ≡ Some (body_of f)
body-there [] i f e = cc
body-there (g ∷ fs) zero f e = ap (λ x. Some (body_of x)) (same_Some g f e)
body-there (g ∷ fs) (suc i) f e = body-there fs i f e

no-body : (fs : List FuncView) (i : ℕ) → slice_get fs i ≡ None → slice_get (bodies_of fs) i ≡ None
no-body [] i e = refl
no-body (g ∷ fs) zero e = cc
no-body (g ∷ fs) (suc i) e = no-body fs i e

-- the windows of a function that is there, and of one that isn't
pub own-windows : (bounds : Bounds) (fs : List FuncView) (i : ℕ) (f : FuncView) → are_numbered 0 fs ≡ true → slice_get fs i ≡ Some f →
    windows bounds f.number (tree_of f) ≡ windows_of_func bounds (bodies_of fs) i
own-windows bounds fs i f h e =
    let n : f.number ≡ i = own-number fs 0 i f h e ∙ (let z : 0 + i ≡ i = omega arith in z) in
    ap (λ k. windows bounds k (tree_of f)) n ∙ ap (windows_there bounds i) (sym (body-there fs i f e))

pub no-windows : (bounds : Bounds) (fs : List FuncView) (i : ℕ) → slice_get fs i ≡ None → windows_of_func bounds (bodies_of fs) i ≡ []
no-windows bounds fs i e = ap (windows_there bounds i) (no-body fs i e)
