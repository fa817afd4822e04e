-- How many places of declared types there are.
use Rattle.std.proofs.Common.{◌≡◌, ◌∙◌, ℕ, zero, suc, ◌+◌, Bool, true, false, cond, List, [], ◌∷◌, length, drop, count_by, Some, slice_get, refl, sym, ap, arith}
use Rattle.std.proofs.lemmas.Option.{same_Some}
use Rattle.std.proofs.lemmas.List.{length-append}
use Rattle.std.proofs.lemmas.List.Sums.{sum_by-cons}
use Rattle.std.specs.Prelude.{if◌then◌else◌}
use Rattle.go_tree.specs.declared.object.Declared.{Declared}
use Rattle.go_typed.specs.declared.origin.Origin.{Origin}
use Rattle.go_typed.specs.declared.origin.Origin.TheVariants as origin
use Rattle.go_package_defs.specs.Checked.{package_origins, local_origins, function_origins}
use Rattle.go_package_defs.specs.Knowledge.{is_type}

abbrev pub types_among : List Declared → ℕ
types_among ds = count_by (λ d. is_type d.entity) ds

one-more : (b : Bool) (o : Origin) (os : List Origin) (n : ℕ) → length os ≡ n → length (if b then o ∷ os else os) ≡ cond b 1 0 + n
one-more true o os n e = let z : suc n ≡ 1 + n = omega arith in ap suc e ∙ z
one-more false o os n e = let z : n ≡ 0 + n = omega arith in e ∙ z

pub in-package : (n : ℕ) (ds : List Declared) → length (package_origins n ds) ≡ types_among ds
in-package n [] = refl
in-package n (d ∷ ds) =
    one-more (is_type d.entity) (origin.Package n) (package_origins (suc n) ds) (types_among ds) (in-package (suc n) ds) ∙ sym (sum_by-cons (λ x. cond (is_type x.entity) 1 0) d ds)

in-function : (f n : ℕ) (ds : List Declared) → length (local_origins f n ds) ≡ types_among ds
in-function f n [] = refl
in-function f n (d ∷ ds) =
    one-more (is_type d.entity) (origin.Local f n) (local_origins f (suc n) ds) (types_among ds) (in-function f (suc n) ds) ∙ sym (sum_by-cons (λ x. cond (is_type x.entity) 1 0) d ds)

abbrev pub types_in_all : List (List Declared) → ℕ
types_in_all [] = 0
types_in_all (ds ∷ dss) = types_among ds + types_in_all dss

pub in-functions : (f : ℕ) (dss : List (List Declared)) → length (function_origins f dss) ≡ types_in_all dss
in-functions f [] = refl
in-functions f (ds ∷ dss) =
    length-append (local_origins f 0 ds) (function_origins (suc f) dss) ∙ ap (λ n. n + length (function_origins (suc f) dss)) (in-function f 0 ds) ∙ ap (λ n. types_among ds + n) (in-functions (suc f) dss)

next-types : (dss : List (List Declared)) (n : ℕ) (ds : List Declared) → slice_get dss n ≡ Some ds → types_in_all (drop n dss) ≡ types_among ds + types_in_all (drop (n + 1) dss)
next-types [] n ds e = cc
next-types (xs ∷ dss) zero ds e = ap (λ ys. types_among ys + types_in_all dss) (same_Some xs ds e)
next-types (xs ∷ dss) (suc n) ds e = next-types dss n ds e ∙ (let k : suc (n + 1) ≡ suc n + 1 = omega arith in ap (λ m. types_among ds + types_in_all (drop m (xs ∷ dss))) k)

pub types-step : (dss : List (List Declared)) (n : ℕ) (ds : List Declared) (all old new : ℕ) → slice_get dss n ≡ Some ds → all ≡ old + types_in_all (drop n dss) → new ≡ old + types_among ds →
    all ≡ new + types_in_all (drop (n + 1) dss)
types-step dss n ds all old new e h k = omega (arith, h, k, next-types dss n ds e)
