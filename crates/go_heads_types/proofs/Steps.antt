-- What a package is with its types, step by step.
use Rattle.std.proofs.Common.{◌≡◌, ◌∙◌, ℕ, zero, suc, ◌+◌, List, [], ◌∷◌, map, Option, Some, None, refl, sym, ap, subst, arith}
use Rattle.std.specs.Prelude.{Result, Ok, Err, slice_get}
use Rattle.go_base.specs.Gives.{◌>>=◌}
use Rattle.go_heads.proofs.Public.{same_some}
use Rattle.go_tree.specs.declared.context.Entity.TheVariants as entity
use Rattle.go_tree.specs.Failures.{Failure}
use Rattle.go_tree.specs.Faults.{reported}
use Rattle.go_tree.specs.Uses.{UsesView, uses}
use Rattle.go_types.specs.Relations.{Rights}
use Rattle.go_exprs_rules.specs.declared.fault.TypeFault.{TypeFault}
use Rattle.go_package_defs.specs.Answer.{Environment, specifications, package_answer, unless}
use Rattle.go_package_defs.specs.Bodies.{Behind, Functions, Surroundings, functions_from, placed, those_of, typed_function, with_function}
use Rattle.go_package_defs.specs.Checked.{Typing, names_answer, bodies_answer, sources_answer, surroundings_of}
use Rattle.go_package_defs.specs.Declarations.{Specification}
use Rattle.go_package_defs.specs.Sources.{Source, Package, package_of, unit_of}
use Rattle.go_heads_types.specs.Typings.{rights_behind, rights_after}

-- a call that answers goes on with a value
taken : {A B : Type 0} (r : Result A Failure) (f : A → Result B Failure) (y : B) → (r >>= f) ≡ Ok y → (x : A) × (r ≡ Ok x) × (f x ≡ Ok y)
taken (Ok x) f y e = (x, refl, e)
taken (Err z) f y e = absurd cc

answer_there : {A : Type 0} (o : Option Failure) (x y : A) → unless o x ≡ Ok y → (o ≡ None) × (y ≡ x)
answer_there None x y e = (refl, cc)
answer_there (Some f) x y e = absurd cc

pub two_answers : {A E : Type 0} (r : Result A E) (x y : A) → r ≡ Ok x → r ≡ Ok y → y ≡ x
two_answers r x y e f = cc

abbrev is_answer : {A : Type 0} → A → Result A Failure
is_answer x = Ok x

same_answer : {A : Type 0} (x y : A) → is_answer x ≡ Ok y → x ≡ y
same_answer x y e = cc

-- The phases of a package that is free of faults.
pub record Answered (ss : List Source) (t : Typing) : Type 0 where
  pub clean : reported (map unit_of ss) ≡ None
  pub meant : t.uses ≡ uses (map unit_of ss)
  pub environment : package_answer ss t.uses ≡ Ok t.environment
  pub bodies : functions_from (package_of ss t.uses) (surroundings_of t.uses t.environment) t.environment.rights 0 (those_of entity.Function (specifications 0 ss)) ≡ Ok t.bodies

made : (ss : List Source) (u : UsesView) (x : Environment) (b : Functions) (t : Typing) → reported (map unit_of ss) ≡ None → u ≡ uses (map unit_of ss) → package_answer ss u ≡ Ok x
    → functions_from (package_of ss u) (surroundings_of u x) x.rights 0 (those_of entity.Function (specifications 0 ss)) ≡ Ok b
    → (let z : Typing = record { uses = u; environment = x; bodies = b; specifications = specifications 0 ss } in z) ≡ t → Answered ss t
made ss u x b t clean meant known typed same = subst (Answered ss) same (record { clean = clean; meant = meant; environment = known; bodies = typed })

pub answered : (ss : List Source) (t : Typing) → sources_answer ss ≡ Ok t → Answered ss t
answered ss t e =
    let named = taken (names_answer (map unit_of ss)) (λ u. package_answer ss u >>= λ x. bodies_answer ss (specifications 0 ss) u x) t e in
    let u : UsesView = named.0 in
    let known = taken (package_answer ss u) (λ x. bodies_answer ss (specifications 0 ss) u x) t named.2 in
    let x : Environment = known.0 in
    let typed = taken (functions_from (package_of ss u) (surroundings_of u x) x.rights 0 (those_of entity.Function (specifications 0 ss)))
    (λ b. Ok (record { uses = u; environment = x; bodies = b; specifications = specifications 0 ss })) t known.2 in
    let names = answer_there (reported (map unit_of ss)) (uses (map unit_of ss)) u named.1 in
    made ss u x typed.0 t names.0 names.1 known.1 typed.1 (same_answer (record { uses = u; environment = x; bodies = typed.0; specifications = specifications 0 ss }) t typed.2)

module _ (p : Package) (a : Surroundings) where
  -- the first function, and those behind it
  record First (rights : Rights) (n : ℕ) (c : Specification) (ds : List Specification) (y : Functions) : Type 0 where
    behind : Behind
    typed : typed_function p a rights n c ≡ Ok behind
    others : Functions
    rest : functions_from p a behind.rights (suc n) ds ≡ Ok others
    whole : y ≡ with_function behind.function others

  first : (rights : Rights) (n : ℕ) (c : Specification) (ds : List Specification) (y : Functions) (r : Result Behind TypeFault) → typed_function p a rights n c ≡ r
      → (placed p c r >>= λ b. functions_from p a b.rights (suc n) ds >>= λ fs. Ok (with_function b.function fs)) ≡ Ok y → First rights n c ds y
  first rights n c ds y (Err f) g e = absurd cc
  first rights n c ds y (Ok b) g e =
      let z = taken (functions_from p a b.rights (suc n) ds) (λ fs. Ok (with_function b.function fs)) y e in
      record { behind = b; typed = g; others = z.0; rest = z.1; whole = sym (same_answer (with_function b.function z.0) y z.2) }

  -- a function, behind the right sides of those in front of it
  pub record AtStep (rights : Rights) (n : ℕ) (ds : List Specification) (y : Functions) (k : ℕ) (d : Specification) : Type 0 where
    pub behind : Behind
    pub typed : typed_function p a (rights_after p a rights n ds k) (n + k) d ≡ Ok behind
    pub stands : slice_get y.functions k ≡ Some behind.function
    pub next : rights_after p a rights n ds (suc k) ≡ behind.rights

  step_zero : (rights : Rights) (n : ℕ) (c d : Specification) (ds : List Specification) (y : Functions) → First rights n c ds y → c ≡ d → AtStep rights n (c ∷ ds) y zero d
  step_zero rights n c d ds y z e =
      let number : n + zero ≡ n = omega arith in
      record {
        behind = z.behind;
        typed = ap (λ i. typed_function p a rights i d) number ∙ ap (typed_function p a rights n) (sym e) ∙ z.typed;
        stands = ap (λ (v : Functions). slice_get v.functions 0) z.whole;
        next = ap (rights_behind rights) z.typed;
      }

  step_later : (rights : Rights) (n : ℕ) (c d : Specification) (ds : List Specification) (y : Functions) (k : ℕ) (z : First rights n c ds y) → AtStep z.behind.rights (suc n) ds z.others k d
      → AtStep rights n (c ∷ ds) y (suc k) d
  step_later rights n c d ds y k z s =
      let number : n + suc k ≡ suc n + k = omega arith in
      let front : (i : ℕ) → rights_after p a rights n (c ∷ ds) (suc i) ≡ rights_after p a z.behind.rights (suc n) ds i = λ i. ap (λ r. rights_after p a (rights_behind rights r) (suc n) ds i) z.typed in
      record {
        behind = s.behind;
        typed = ap (λ i. typed_function p a (rights_after p a rights n (c ∷ ds) (suc k)) i d) number ∙ ap (λ r. typed_function p a r (suc n + k) d) (front k) ∙ s.typed;
        stands = ap (λ (v : Functions). slice_get v.functions (suc k)) z.whole ∙ s.stands;
        next = front (suc k) ∙ s.next;
      }

  pub at_step : (rights : Rights) (n : ℕ) (ds : List Specification) (y : Functions) (k : ℕ) (d : Specification) → functions_from p a rights n ds ≡ Ok y → slice_get ds k ≡ Some d → AtStep rights n ds y k d
  at_step rights n [] y k d e s = absurd cc
  at_step rights n (c ∷ ds) y zero d e s = step_zero rights n c d ds y (first rights n c ds y (typed_function p a rights n c) refl e) (same_some c d s)
  at_step rights n (c ∷ ds) y (suc k) d e s =
      let z : First rights n c ds y = first rights n c ds y (typed_function p a rights n c) refl e in
      step_later rights n c d ds y k z (at_step z.behind.rights (suc n) ds z.others k d z.rest s)
