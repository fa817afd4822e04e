-- The reported fault of a package with one function more is that of the package without it.
use Rattle.std.proofs.Common.{◌≡◌, ◌∙◌, ℕ, suc, ◌+◌, List, [], ◌∷◌, ◌++◌, length, map, Option, Some, None, refl, sym, ap, subst, arith}
use Rattle.std.specs.Prelude.{Result, Ok, Err}
use Rattle.go_base.specs.Gives.{◌>>=◌}
use Rattle.go_tree.specs.declared.context.Entity.TheVariants as entity
use Rattle.go_tree.specs.Failures.{Failure}
use Rattle.go_tree.specs.Faults.{reported}
use Rattle.go_tree.specs.Uses.{uses}
use Rattle.go_types.specs.Relations.{Rights}
use Rattle.go_exprs_rules.specs.Sorts.{Stands}
use Rattle.go_heads_added.specs.Added.{Gap}
use Rattle.go_heads_added.specs.Kept.{KeepsPackage}
use Rattle.go_package_defs.specs.Answer.{Environment, package_answer, specifications, unless}
use Rattle.go_package_defs.specs.Bodies.{Behind, Functions, Surroundings, functions_from, placed, those_of, typed_function}
use Rattle.go_package_defs.specs.Bodies as bodies
use Rattle.go_package_defs.specs.Checked.{bodies_answer, names_answer, sources_answer, surroundings_of}
use Rattle.go_package_defs.specs.Declarations.{Specification}
use Rattle.go_package_defs.specs.Sources.{Package, Source, unit_of}
use Rattle.go_package_settled.specs.Read.{IsFaultless}
use Rattle.go_package_added.specs.Appended.{IsAppended, function_specification, package_in}
use Rattle.go_package_added.specs.OneMore.{with_function}
use Rattle.go_package_added.specs.Reported.{FunctionsStay, KeepsBodies, answered_with}
use Rattle.go_package_added.proofs.Counted.{AreInOrder, counted}

-- ---- the functions of a package

module _ (p : Package) (a : Surroundings) where
  more_fails : (b : Behind) (f : Failure) (r s : Result Functions Failure) → (r >>= λ fs. Ok (bodies.with_function b.function fs)) ≡ Err f → ((g : Failure) → r ≡ Err g → s ≡ Err g)
      → (s >>= λ fs. Ok (bodies.with_function b.function fs)) ≡ Err f
  more_fails b f (Ok x) s e h = absurd cc
  more_fails b f (Err g) s e h = ap (λ z. z >>= λ fs. Ok (bodies.with_function b.function fs)) (h g refl) ∙ e

  one_fails : (n : ℕ) (xs ys : List Specification) (f : Failure) (r : Result Behind Failure) → ((rights : Rights) (g : Failure) → functions_from p a rights (suc n) xs ≡ Err g → functions_from p a rights (suc n) (xs ++ ys) ≡ Err g)
      → (r >>= λ b. functions_from p a b.rights (suc n) xs >>= λ fs. Ok (bodies.with_function b.function fs)) ≡ Err f
      → (r >>= λ b. functions_from p a b.rights (suc n) (xs ++ ys) >>= λ fs. Ok (bodies.with_function b.function fs)) ≡ Err f
  one_fails n xs ys f (Ok b) later e = more_fails b f (functions_from p a b.rights (suc n) xs) (functions_from p a b.rights (suc n) (xs ++ ys)) e (later b.rights)
  one_fails n xs ys f (Err g) later e = e

  front_fails : (rights : Rights) (n : ℕ) (xs ys : List Specification) (f : Failure) → functions_from p a rights n xs ≡ Err f → functions_from p a rights n (xs ++ ys) ≡ Err f
  front_fails rights n [] ys f e = absurd cc
  front_fails rights n (d ∷ xs) ys f e = one_fails n xs ys f (placed p d (typed_function p a rights n d)) (λ r g z. front_fails r (suc n) xs ys g z) e

  same_rights : (r : Result Functions Failure) (x y : Functions) → r ≡ Ok x → r ≡ Ok y → x.rights ≡ y.rights
  same_rights r x y e g = ap (λ (z : Functions). z.rights) (let same : x ≡ y = cc in same)

  abbrev FailsBehind : ℕ → List Specification → List Specification → Type 0
  FailsBehind n xs ys = (rights : Rights) (y : Functions) (f : Failure) → functions_from p a rights n xs ≡ Ok y → functions_from p a y.rights (n + length xs) ys ≡ Err f → functions_from p a rights n (xs ++ ys) ≡ Err f

  more_behind : (n : ℕ) (xs ys : List Specification) (b : Behind) (y : Functions) (f : Failure) (r : Result Functions Failure) → FailsBehind (suc n) xs ys → functions_from p a b.rights (suc n) xs ≡ r
      → (r >>= λ fs. Ok (bodies.with_function b.function fs)) ≡ Ok y → functions_from p a y.rights (suc n + length xs) ys ≡ Err f
      → (functions_from p a b.rights (suc n) (xs ++ ys) >>= λ fs. Ok (bodies.with_function b.function fs)) ≡ Err f
  more_behind n xs ys b y f (Err g) later h e z = absurd cc
  more_behind n xs ys b y f (Ok w) later h e z =
      ap (λ r. r >>= λ fs. Ok (bodies.with_function b.function fs))
      (later b.rights w f h (subst (λ r. functions_from p a r (suc n + length xs) ys ≡ Err f) (same_rights (Ok y) y (bodies.with_function b.function w) refl (sym e)) z))

  one_behind : (n : ℕ) (xs ys : List Specification) (y : Functions) (f : Failure) (r : Result Behind Failure) → FailsBehind (suc n) xs ys
      → (r >>= λ b. functions_from p a b.rights (suc n) xs >>= λ fs. Ok (bodies.with_function b.function fs)) ≡ Ok y → functions_from p a y.rights (suc n + length xs) ys ≡ Err f
      → (r >>= λ b. functions_from p a b.rights (suc n) (xs ++ ys) >>= λ fs. Ok (bodies.with_function b.function fs)) ≡ Err f
  one_behind n xs ys y f (Ok b) later e z = more_behind n xs ys b y f (functions_from p a b.rights (suc n) xs) later refl e z
  one_behind n xs ys y f (Err g) later e z = absurd cc

  behind_fails : (n : ℕ) (xs ys : List Specification) → FailsBehind n xs ys
  behind_fails n [] ys rights y f e z =
      subst (λ r. functions_from p a r n ys ≡ Err f) (sym (same_rights (functions_from p a rights n []) (record { functions = []; rights = rights }) y refl e))
      (subst (λ i. functions_from p a y.rights i ys ≡ Err f) (let e : n + 0 ≡ n = omega arith in e) z)
  behind_fails n (d ∷ xs) ys rights y f e z =
      one_behind n xs ys y f (placed p d (typed_function p a rights n d)) (behind_fails (suc n) xs ys) e
      (subst (λ i. functions_from p a y.rights i ys ≡ Err f) (let e : n + suc (length xs) ≡ suc n + length xs = omega arith in e) z)

  own_passes : (rights : Rights) (n : ℕ) (d : Specification) (ds : List Specification) (c : Behind) (f : Failure) → placed p d (typed_function p a rights n d) ≡ Ok c
      → functions_from p a c.rights (suc n) ds ≡ Err f → functions_from p a rights n (d ∷ ds) ≡ Err f
  own_passes rights n d ds c f e z =
      ap (λ r. r >>= λ b. functions_from p a b.rights (suc n) ds >>= λ fs. Ok (bodies.with_function b.function fs)) e ∙ ap (λ r. r >>= λ fs. Ok (bodies.with_function c.function fs)) z

-- ---- functions that stay

stay_fails : (p : Package) (g : Gap) (n : ℕ) (ds : List Specification) (f : Failure) (r s : Result Functions Failure) → FunctionsStay p g n ds r s → r ≡ Err f → s ≡ Err f
stay_fails p g n ds f (Ok x) (Ok y) h e = absurd cc
stay_fails p g n ds f (Err u) (Err v) h e = ap Err h ∙ e
stay_fails p g n ds f (Ok x) (Err v) h e = absurd h
stay_fails p g n ds f (Err u) (Ok y) h e = absurd h

stay_typed : (p : Package) (g : Gap) (n : ℕ) (ds : List Specification) (x : Functions) (r s : Result Functions Failure) → FunctionsStay p g n ds r s → r ≡ Ok x → (y : Functions) × (s ≡ Ok y) × (y.rights ≡ x.rights)
stay_typed p g n ds x (Ok w) (Ok y) h e = (y, refl, h.1 ∙ ap (λ (z : Functions). z.rights) (let same : w ≡ x = cc in same))
stay_typed p g n ds x (Err u) (Err v) h e = absurd cc
stay_typed p g n ds x (Ok w) (Err v) h e = absurd h
stay_typed p g n ds x (Err u) (Ok y) h e = absurd h

-- ---- the phases

fails_is : {A : Type 0} (o : Option Failure) (x : A) (f : Failure) → unless o x ≡ Err f → o ≡ Some f
fails_is None x f e = absurd cc
fails_is (Some g) x f e = cc

pub names_fail : (ss us : List Source) → reported (map unit_of us) ≡ reported (map unit_of ss) → (f : Failure) → names_answer (map unit_of ss) ≡ Err f → sources_answer us ≡ Err f
names_fail ss us e f z =
    ap (λ o. unless o (uses (map unit_of us)) >>= λ u. package_answer us u >>= λ x. bodies_answer us (specifications 0 us) u x) (e ∙ fails_is (reported (map unit_of ss)) (uses (map unit_of ss)) f z)

pub declarations_fail : (ss us : List Source) (shared : ℕ) (s : Stands) → reported (map unit_of us) ≡ None → package_answer us (uses (map unit_of us)) ≡ answered_with shared s (package_answer ss (uses (map unit_of ss)))
    → (f : Failure) → package_answer ss (uses (map unit_of ss)) ≡ Err f → sources_answer us ≡ Err f
declarations_fail ss us shared s none same f e =
    ap (λ o. unless o (uses (map unit_of us)) >>= λ u. package_answer us u >>= λ x. bodies_answer us (specifications 0 us) u x) none
    ∙ ap (λ r. r >>= λ x. bodies_answer us (specifications 0 us) (uses (map unit_of us)) x) (same ∙ ap (answered_with shared s) e)

bodies_fail : (us : List Source) (x : Environment) → reported (map unit_of us) ≡ None → package_answer us (uses (map unit_of us)) ≡ Ok x → (f : Failure)
    → functions_from (package_in us) (surroundings_of (uses (map unit_of us)) x) x.rights 0 (those_of entity.Function (specifications 0 us)) ≡ Err f → sources_answer us ≡ Err f
bodies_fail us x none e f z =
    ap (λ o. unless o (uses (map unit_of us)) >>= λ u. package_answer us u >>= λ x. bodies_answer us (specifications 0 us) u x) none
    ∙ ap (λ r. r >>= λ x. bodies_answer us (specifications 0 us) (uses (map unit_of us)) x) e
    ∙ ap (λ r. r >>= λ b. Ok (record { uses = uses (map unit_of us); environment = x; bodies = b; specifications = specifications 0 us })) z

module _ (k : ℕ) (ss us : List Source) (h : IsAppended k ss us) (keeps : KeepsPackage k h.count (suc h.first) (map unit_of ss) (map unit_of us)) (old : IsFaultless ss) (new : IsFaultless us) (olds : AreInOrder ss) (news : AreInOrder us)
    (x : Environment) (s : Stands) (answer : package_answer us (uses (map unit_of us)) ≡ Ok (with_function keeps.gap.shared s x)) where
  abbrev p : Package
  p = package_in ss

  abbrev q : Package
  q = package_in us

  abbrev a : Surroundings
  a = surroundings_of (uses (map unit_of ss)) x

  abbrev b : Surroundings
  b = surroundings_of (uses (map unit_of us)) (with_function keeps.gap.shared s x)

  abbrev own : Specification
  own = function_specification k ss us h

  module _ (kept : KeepsBodies p q keeps.gap a b own (those_of entity.Function (specifications 0 ss)) (those_of entity.Function (specifications 0 us))) where
    count : length kept.front ≡ keeps.gap.functions
    count = counted k ss us h keeps old olds news kept.front kept.rest kept.was kept.is

    front_stays : FunctionsStay p keeps.gap 0 kept.front (functions_from p a x.rights 0 kept.front) (functions_from q b x.rights 0 kept.front)
    front_stays = kept.front_stay x.rights 0 (let e = count in omega (arith, e))

    fails : (f : Failure) → functions_from q b x.rights 0 (kept.front ++ own ∷ kept.rest) ≡ Err f → sources_answer us ≡ Err f
    fails f z = bodies_fail us (with_function keeps.gap.shared s x) new.names answer f (ap (functions_from q b x.rights 0) kept.is ∙ z)

    pub fails_in_front : (f : Failure) → functions_from p a x.rights 0 kept.front ≡ Err f → sources_answer us ≡ Err f
    fails_in_front f z =
        fails f
        (front_fails q b x.rights 0 kept.front (own ∷ kept.rest) f
        (stay_fails p keeps.gap 0 kept.front f (functions_from p a x.rights 0 kept.front) (functions_from q b x.rights 0 kept.front) front_stays z))

    pub fails_behind : (y : Functions) → functions_from p a x.rights 0 kept.front ≡ Ok y → (c : Behind) → placed q own (typed_function q b y.rights keeps.gap.functions own) ≡ Ok c → c.rights ≡ y.rights
        → (f : Failure) → functions_from p a y.rights keeps.gap.functions kept.rest ≡ Err f → sources_answer us ≡ Err f
    fails_behind y e c typed rights f z =
        let there = stay_typed p keeps.gap 0 kept.front y (functions_from p a x.rights 0 kept.front) (functions_from q b x.rights 0 kept.front) front_stays e in
        let later : functions_from q b y.rights (suc keeps.gap.functions) kept.rest ≡ Err f =
        stay_fails p keeps.gap keeps.gap.functions kept.rest f (functions_from p a y.rights keeps.gap.functions kept.rest) (functions_from q b y.rights (suc keeps.gap.functions) kept.rest)
        (kept.rest_stay y.rights keeps.gap.functions (omega arith)) z in
        let whole : functions_from q b y.rights keeps.gap.functions (own ∷ kept.rest) ≡ Err f =
        own_passes q b y.rights keeps.gap.functions own kept.rest c f typed (subst (λ r. functions_from q b r (suc keeps.gap.functions) kept.rest ≡ Err f) (sym rights) later) in
        fails f
        (behind_fails q b 0 kept.front (own ∷ kept.rest) x.rights there.0 f there.1
        (subst (λ i. functions_from q b there.0.rights i (own ∷ kept.rest) ≡ Err f)
        (let e = count in let place : keeps.gap.functions ≡ 0 + length kept.front = omega (arith, e) in place)
        (subst (λ r. functions_from q b r keeps.gap.functions (own ∷ kept.rest) ≡ Err f) (sym there.2) whole)))
