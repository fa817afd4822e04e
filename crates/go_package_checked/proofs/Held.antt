-- What the answer of a check says of the specifications and the objects of the package block.
use Rattle.std.proofs.Common.{◌≡◌, ℕ, zero, suc, false, List, [], ◌∷◌, length, map, Some, Ok, subst, refl, arith}
use Rattle.std.specs.Prelude.{slice_get}
use Rattle.std.specs.List.{AllByRecursion}
use Rattle.go_grammar.specs.Grammar.{IsFile}
use Rattle.go_tokens.specs.Tokens.{kinds}
use Rattle.go_tree.specs.Uses.{uses}
use Rattle.go_exprs_rules.specs.Sorts.{Stands, is_open}
use Rattle.go_package_defs.specs.Answer.{Environment, specifications, environment_of, package_answer}
use Rattle.go_package_defs.specs.Declarations.{Specification}
use Rattle.go_package_defs.specs.Knowledge.{Outline, outlines, State, state_of, rights_of}
use Rattle.go_package_defs.specs.Sources.{Source, Package, package_of, unit_of, rounds}
use Rattle.go_package_defs.specs.Verdicts.{known}
use Rattle.go_package_laws.proofs.Public.{are_found}
use Rattle.go_package_settled.specs.Ordered.{IsSettled}
use Rattle.go_package_checked.specs.Names.{NamesStand}
use Rattle.go_stmts_final_types.specs.Placed.{IsKnownObject}
use Rattle.go_package_checked.specs.Objects.{ObjectsAreKnown}
use Rattle.go_package_checked.specs.Rules.{AllRulesHold}
use Rattle.go_package_checked.proofs.Failing.{IsFine, IsRuled, answered}
use Rattle.go_package_checked.proofs.Objects.{object_known, object_typed}
use Rattle.go_package_checked.proofs.Shapes.{Derivations}
use Rattle.go_package_checked.proofs.Sorts.{files_derived}

-- ---- rules

both_hold : (p : Package) (os : List Outline) (found : List State) (ds : List Specification) → AllByRecursion (IsFine p os found) ds → AllByRecursion (IsRuled p os found) ds → AllRulesHold p os found ds
both_hold p os found [] f r = tt
both_hold p os found (d ∷ ds) f r = (record { fine = f.0; ruled = r.0 }, both_hold p os found ds f.1 r.1)

pub rules_hold : (ss : List Source) (e : Environment) → package_answer ss (uses (map unit_of ss)) ≡ Ok e → let p = package_of ss (uses (map unit_of ss)) in let ds = specifications 0 ss in let found = known p (outlines p ds) (rounds p) in
    AllRulesHold p (outlines p ds) found ds × (environment_of p found ≡ e)
rules_hold ss e a =
    let p = package_of ss (uses (map unit_of ss)) in
    let ds = specifications 0 ss in
    let found = known p (outlines p ds) (rounds p) in
    let h = answered p (outlines p ds) found ds e a in
    (both_hold p (outlines p ds) found ds h.fine h.ruled, h.environment)

-- ---- objects

-- the state that an object's sort is of
state_there : (ss : List State) (n : ℕ) (x : Stands) → slice_get (map (λ (s : State). s.stands) ss) n ≡ Some x → (state_of ss n).stands ≡ x
state_there [] n x e = absurd cc
state_there (s ∷ ss) zero x e = cc
state_there (s ∷ ss) (suc n) x e = state_there ss n x e

there_too : {A B : Type 0} (xs : List A) (f : A → B) (n : ℕ) (y : B) → slice_get (map f xs) n ≡ Some y → (x : A) × (slice_get xs n ≡ Some x)
there_too [] f n y e = absurd cc
there_too (x ∷ xs) f zero y e = (x, refl)
there_too (x ∷ xs) f (suc n) y e = there_too xs f n y e

outline_there : {A B : Type 0} (xs : List A) (ys : List B) (n : ℕ) (y : B) → length ys ≡ length xs → slice_get ys n ≡ Some y → (x : A) × (slice_get xs n ≡ Some x)
outline_there [] [] n y l e = absurd cc
outline_there [] (z ∷ ys) n y l e = absurd (omega (arith, l))
outline_there (x ∷ xs) [] n y l e = absurd (omega (arith, l))
outline_there (x ∷ xs) (z ∷ ys) zero y l e = (x, refl)
outline_there (x ∷ xs) (z ∷ ys) (suc n) y l e = outline_there xs ys n y (omega (arith, l)) e

pub objects_known : Derivations → (ss : List Source) (e : Environment) → let p = package_of ss (uses (map unit_of ss)) in let ds = specifications 0 ss in
    IsSettled p (outlines p ds) → package_answer ss (uses (map unit_of ss)) ≡ Ok e → AllByRecursion (λ s. IsFile (kinds s.tokens.tokens) s.tree) ss → NamesStand p ds (known p (outlines p ds) (rounds p)) → ObjectsAreKnown p e
objects_known derives ss e s a f n =
    let p = package_of ss (uses (map unit_of ss)) in
    let ds = specifications 0 ss in
    let found = known p (outlines p ds) (rounds p) in
    let h = answered p (outlines p ds) found ds e a in
    let w = are_found p (outlines p ds) found s.ranks s.staged in
    let d = files_derived derives 0 ss f in
    subst (ObjectsAreKnown p) h.environment (record {
      each = λ m x q.
          let t = there_too found (λ (z : State). z.stands) m x q in
          let o = outline_there (outlines p ds) found m t.0 w.as_many t.1 in
          subst (IsKnownObject (rights_of p found)) (state_there found m x q) (object_known p ds found s.ranks w h.fine h.ruled n d m o.0 o.1);
      typed = λ m k x q r.
          let t = there_too found (λ (z : State). z.stands) m x q in
          let o = outline_there (outlines p ds) found m t.0 w.as_many t.1 in
          subst (λ z. is_open z ≡ false) (state_there found m x q) (object_typed p ds found s.ranks w h.fine h.ruled n d m k o.0 o.1 r);
    })
