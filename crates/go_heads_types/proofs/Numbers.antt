-- Functions of packages with equal heads, behind bodies that declare other types.
use Rattle.std.proofs.Common.{◌≡◌, ◌∙◌, ℕ, zero, suc, ◌+◌, List, [], ◌∷◌, ◌++◌, length, Option, Some, Ok, Err, Result, refl, sym, ap, subst, append_assoc, arith}
use Rattle.std.specs.Prelude.{slice_get}
use Rattle.go_types.specs.Relations.{Rights}
use Rattle.go_typed.specs.Contents.{FuncContent}
use Rattle.go_exprs_rules.specs.declared.fault.TypeFault.{TypeFault}
use Rattle.go_package_defs.specs.Answer.{Environment}
use Rattle.go_package_defs.specs.Bodies.{Behind, Surroundings, function_of, portion_of, typed_function, types_in}
use Rattle.go_package_defs.specs.Checked.{Typing, surroundings_of}
use Rattle.go_package_defs.specs.Declarations.{Specification}
use Rattle.go_package_defs.specs.Sources.{Source, Package, package_of}
use Rattle.go_heads_types.specs.Portions.{files_of, AreNamed, function_specifications}
use Rattle.go_renumbering.specs.Functions.{RenamedFunctions, shifted, AreBelow}
use Rattle.go_renumbering.proofs.Public.{behind_more}
use Rattle.go_heads_types.specs.Answers.{KeepsAnswer}
use Rattle.go_heads.specs.Objects.{KeepsObjects}
use Rattle.go_heads_types.specs.HeadPortions.{KeepsTypedFunctions}
use Rattle.go_heads_types.specs.Typings.{rights_after, rights_before, rights_behind, KeepsBody}
use Rattle.go_heads_types.proofs.Rights.{rights_added}
use Rattle.go_heads_types.proofs.Steps.{Answered}
use Rattle.go_heads_types.proofs.Typings.{surroundings_same, environment_same, step_old, step_new}
use Rattle.go_heads_types.specs.Renumbered.{AreOne}

-- ---- right sides in front of a function

record StandBehind (front all : Rights) : Type 0 where
  rest : Rights
  is : all ≡ front ++ rest

append_none : (xs : Rights) → xs ++ [] ≡ xs
append_none [] = refl
append_none (x ∷ xs) = ap (λ l. x ∷ l) (append_none xs)

none_behind : (rights : Rights) → StandBehind rights rights
none_behind rights = record { rest = []; is = sym (append_none rights) }

module _ (p : Package) (a : Surroundings) where
  behind_one : (rights : Rights) (n : ℕ) (d : Specification) (r : Result Behind TypeFault) → typed_function p a rights n d ≡ r → StandBehind rights (rights_behind rights r)
  behind_one rights n d (Ok b) e = let more = rights_added p a rights n d b e in record { rest = more.own; is = more.is }
  behind_one rights n d (Err f) e = none_behind rights

  both : (x y z : Rights) → StandBehind x y → StandBehind y z → StandBehind x z
  both x y z f g = record { rest = f.rest ++ g.rest; is = g.is ∙ ap (λ l. l ++ g.rest) f.is ∙ append_assoc x f.rest g.rest }

  all_behind : (rights : Rights) (n : ℕ) (ds : List Specification) (k : ℕ) → StandBehind rights (rights_after p a rights n ds k)
  all_behind rights n ds zero = none_behind rights
  all_behind rights n [] (suc k) = none_behind rights
  all_behind rights n (d ∷ ds) (suc k) =
      let next = rights_behind rights (typed_function p a rights n d) in
      both rights next (rights_after p a next (suc n) ds k) (behind_one rights n d (typed_function p a rights n d) refl) (all_behind next (suc n) ds k)

-- ---- one function behind two rows of right sides

one_of : (k m n : ℕ) (r : Result Behind TypeFault) (b c : Behind) (f g : Option FuncContent) → RenamedFunctions (shifted k m) r (Ok b) → RenamedFunctions (shifted k n) r (Ok c) → f ≡ Some b.function → g ≡ Some c.function → AreOne k f g
one_of k m n (Ok x) b c f g s t d e = record { function = x.function; before = m; after = n; old = d ∙ ap (λ y. Some y) s.0; new = e ∙ ap (λ y. Some y) t.0 }
one_of k m n (Err x) b c f g s t d e = absurd s

module _ (ss us : List Source) (names others : List (List ℕ)) (x : AreNamed names ss) (y : AreNamed others us) (t z : Typing) (before : Answered ss t) (after : Answered us z)
    (answer : KeepsAnswer ss us t.uses z.uses) (objects : KeepsObjects (files_of names ss) (files_of others us)) (functions : KeepsTypedFunctions (package_of ss t.uses) (package_of us z.uses) names others) where
  abbrev p : Package
  p = package_of ss t.uses

  abbrev q : Package
  q = package_of us z.uses

  abbrev a : Surroundings
  a = surroundings_of t.uses t.environment

  abbrev b : Surroundings
  b = surroundings_of z.uses z.environment

  abbrev front : Rights
  front = t.environment.rights

  -- the function behind these right sides, in the first package
  abbrev there : (d : Specification) (k : ℕ) → Rights → Result Behind TypeFault
  there d k rights = function_of a rights k (types_in p k) (portion_of p d)

  same_front : z.environment.rights ≡ front
  same_front = ap (λ (e : Environment). e.rights) (environment_same ss us names others x y t z before after answer objects functions)

  pub one_function : AreBelow (length front) a front → (k : ℕ) → KeepsBody p q names others k → AreOne (length front) (slice_get t.bodies.functions k) (slice_get z.bodies.functions k)
  one_function below k s =
      let old = step_old ss us names others x y t z before after answer objects functions k s in
      let new = step_new ss us names others x y t z before after answer objects functions k s in
      let number : 0 + k ≡ k = omega arith in
      let first = all_behind p a front 0 (function_specifications p) k in
      let second = all_behind q b z.environment.rights 0 (function_specifications q) k in
      let seen : there s.old k (front ++ first.rest) ≡ Ok old.behind =
      ap (there s.old k) (sym first.is) ∙ ap (λ i. typed_function p a (rights_before ss t k) i s.old) (sym number) ∙ old.typed in
      let met : there s.old k (front ++ second.rest) ≡ Ok new.behind =
      ap (λ r. there s.old k (r ++ second.rest)) (sym same_front)
      ∙ ap (there s.old k) (sym second.is)
      ∙ sym (functions.typed k s.old s.new s.same a (rights_before us z k))
      ∙ ap (λ c. typed_function q c (rights_before us z k) k s.new) (sym (surroundings_same ss us names others x y t z before after answer objects functions))
      ∙ ap (λ i. typed_function q b (rights_before us z k) i s.new) (sym number)
      ∙ new.typed in
      one_of (length front) (length first.rest) (length second.rest) (there s.old k front) old.behind new.behind (slice_get t.bodies.functions k) (slice_get z.bodies.functions k)
      (subst (RenamedFunctions (shifted (length front) (length first.rest)) (there s.old k front)) seen (behind_more a front first.rest k (types_in p k) (portion_of p s.old) below))
      (subst (RenamedFunctions (shifted (length front) (length second.rest)) (there s.old k front)) met (behind_more a front second.rest k (types_in p k) (portion_of p s.old) below))
      old.stands new.stands
