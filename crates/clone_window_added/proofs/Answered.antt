-- What a package that type-checks is, step by step; and which functions its specifications tell.
use Rattle.std.proofs.Common.{◌≡◌, ◌∙◌, ℕ, zero, suc, Bool, true, false, List, [], ◌∷◌, ◌++◌, length, map, Option, Some, None, slice_get, ap, refl, subst, arith}
use Rattle.std.specs.Prelude.{if◌then◌else◌, Result, Ok, Err}
use Rattle.std.specs.List.{AllByRecursion}
use Rattle.go_base.specs.Gives.{◌>>=◌}
use Rattle.go_heads.specs.Objects.{units_of}
use Rattle.go_heads_added.specs.Added.{beyond}
use Rattle.go_heads_types.specs.Portions.{AreNamed, files_of}
use Rattle.go_package_added.specs.Appended.{package_in}
use Rattle.go_package_added.proofs.Public.{beyond_first, beyond_suc, beyond_zero}
use Rattle.go_package_defs.specs.Answer.{Environment, package_answer, specifications, unless}
use Rattle.go_package_defs.specs.Bodies.{Functions, functions_from, is_this, those_of}
use Rattle.go_package_defs.specs.Checked.{Typing, bodies_answer, sources_answer, surroundings_of}
use Rattle.go_package_defs.specs.Declarations.{Specification}
use Rattle.go_package_defs.specs.Sources.{Source, unit_of}
use Rattle.go_tree.specs.Failures.{Failure}
use Rattle.go_tree.specs.Faults.{reported}
use Rattle.go_tree.specs.Uses.{UsesView, uses}
use Rattle.go_tree.specs.declared.context.Entity.{Entity}
use Rattle.go_tree.specs.declared.context.Entity.TheVariants as entity

-- a call that answers goes on with a value
taken : {A B : Type 0} (r : Result A Failure) (f : A → Result B Failure) (y : B) → (r >>= f) ≡ Ok y → (x : A) × (r ≡ Ok x) × (f x ≡ Ok y)
taken (Ok x) f y e = (x, refl, e)
taken (Err z) f y e = absurd cc

same_answer : {A : Type 0} (x y : A) → ◌≡◌ {A = Result A Failure} (Ok x) (Ok y) → x ≡ y
same_answer x y e = cc

pub two_answers : {A E : Type 0} (r : Result A E) (x y : A) → r ≡ Ok x → r ≡ Ok y → y ≡ x
two_answers r x y e f = cc

-- The phases of a package that type-checks.
pub record Answered (ss : List Source) (t : Typing) : Type 0 where
  pub clean : reported (map unit_of ss) ≡ None
  pub meant : t.uses ≡ uses (map unit_of ss)
  pub environment : package_answer ss (uses (map unit_of ss)) ≡ Ok t.environment
  pub bodies : functions_from (package_in ss) (surroundings_of (uses (map unit_of ss)) t.environment) t.environment.rights 0 (those_of entity.Function (specifications 0 ss)) ≡ Ok t.bodies

made : (ss : List Source) (x : Environment) (b : Functions) (t : Typing) → reported (map unit_of ss) ≡ None → package_answer ss (uses (map unit_of ss)) ≡ Ok x
    → functions_from (package_in ss) (surroundings_of (uses (map unit_of ss)) x) x.rights 0 (those_of entity.Function (specifications 0 ss)) ≡ Ok b
    → (let z : Typing = record { uses = uses (map unit_of ss); environment = x; bodies = b; specifications = specifications 0 ss } in z) ≡ t → Answered ss t
made ss x b t clean known typed same = subst (Answered ss) same (record { clean = clean; meant = refl; environment = known; bodies = typed })

pub answered : (ss : List Source) (t : Typing) → sources_answer ss ≡ Ok t → Answered ss t
answered ss t e = by (reported (map unit_of ss)) refl e
  where
    by : (o : Option Failure) → reported (map unit_of ss) ≡ o → (unless o (uses (map unit_of ss)) >>= λ v. package_answer ss v >>= λ x. bodies_answer ss (specifications 0 ss) v x) ≡ Ok t → Answered ss t
    by None clean z =
        let u : UsesView = uses (map unit_of ss) in
        let known = taken (package_answer ss u) (λ x. bodies_answer ss (specifications 0 ss) u x) t z in
        let x : Environment = known.0 in
        let typed = taken (functions_from (package_in ss) (surroundings_of u x) x.rights 0 (those_of entity.Function (specifications 0 ss)))
        (λ b. Ok (record { uses = u; environment = x; bodies = b; specifications = specifications 0 ss })) t known.2 in
        made ss x typed.0 t clean known.1 typed.1 (same_answer (record { uses = u; environment = x; bodies = typed.0; specifications = specifications 0 ss }) t typed.2)
    by (Some f) clean z = absurd cc

-- ---- files as names see them

pub units_same : (ws : List (List ℕ)) (ss : List Source) → AreNamed ws ss → units_of (files_of ws ss) ≡ map unit_of ss
units_same [] [] e = refl
units_same [] (s ∷ ss) e = absurd (omega (arith, e))
units_same (w ∷ ws) [] e = absurd (omega (arith, e))
units_same (w ∷ ws) (s ∷ ss) e = ap (λ us. unit_of s ∷ us) (units_same ws ss (omega (arith, e)))

-- ---- functions among specifications

pub those_have : (P : Specification → Type 0) (e : Entity) (xs : List Specification) → AllByRecursion P xs → AllByRecursion P (those_of e xs)
those_have P e [] h = tt
those_have P e (x ∷ xs) h = by (is_this e x.entity) (those_have P e xs h.1)
  where
    by : (b : Bool) → AllByRecursion P (those_of e xs) → AllByRecursion P (if b then x ∷ those_of e xs else those_of e xs)
    by true z = (h.0, z)
    by false z = z

-- A function stands behind another one that is put in front of it under the next number.
pub beyond_there : (front rest : List Specification) (own : Specification) (n : ℕ) → slice_get (front ++ own ∷ rest) (beyond (length front) n) ≡ slice_get (front ++ rest) n
beyond_there [] rest own n = ap (slice_get (own ∷ rest)) (beyond_first n)
beyond_there (x ∷ xs) rest own zero = ap (slice_get (x ∷ (xs ++ own ∷ rest))) (beyond_zero (length xs))
beyond_there (x ∷ xs) rest own (suc n) = ap (slice_get (x ∷ (xs ++ own ∷ rest))) (beyond_suc (length xs) n) ∙ beyond_there xs rest own n
