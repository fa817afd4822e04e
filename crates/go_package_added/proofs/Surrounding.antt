-- What surrounds the bodies of a package, with a function more, and the functions that stay as they are.
use Rattle.std.proofs.Common.{◌≡◌, ◌∙◌, ℕ, zero, suc, ◌≤◌, inl, inr, Bool, true, List, [], ◌∷◌, ◌++◌, length, map, Option, Some, None, Ok, refl, sym, ap, subst, length-append, arith}
use Rattle.std.specs.Prelude.{slice_get}
use Rattle.std.specs.List.{AllByRecursion}
use Rattle.go_tree.specs.declared.object.Declared.{Declared}
use Rattle.go_tree.specs.Failures.{Failure, least}
use Rattle.go_tree.specs.Uses.{uses}
use Rattle.go_types.specs.Relations.{Rights}
use Rattle.go_exprs_rules.specs.Sorts.{Stands}
use Rattle.go_stmts_elsewhere.specs.Functions.{AlongFunctions}
use Rattle.go_package_defs.specs.Answer.{Environment, environment_of, package_answer, package_failures, specifications, unless}
use Rattle.go_package_defs.specs.Bodies.{Surroundings, portion_of, stands_there, which_types, locals_there, types_in, function_of, typed_function}
use Rattle.go_package_defs.specs.Checked.{surroundings_of}
use Rattle.go_package_defs.specs.Declarations.{Specification}
use Rattle.go_package_defs.specs.Knowledge.{State, is_type}
use Rattle.go_package_defs.specs.Sources.{Source, Package, unit_of, rounds}
use Rattle.go_heads_added.specs.Added.{beyond, longer_declared}
use Rattle.go_heads_added.specs.Kept.{KeepsPackage}
use Rattle.go_package_settled.specs.Read.{IsFaultless}
use Rattle.go_package_added.specs.Appended.{IsAppended, package_in, outlines_in, found_in}
use Rattle.go_package_added.specs.OneMore.{inserted, function_moves, with_function}
use Rattle.go_package_added.specs.Unchanged.{SurroundsAlong, StandsWhole, StaysTyped, last_in}
use Rattle.go_package_added.proofs.Appending.{all_placed, inside, referents_same, texts}
use Rattle.go_package_added.proofs.Inserted.{other_there, mapped_count}
use Rattle.go_package_added.proofs.Outlined.{put_in}
use Rattle.go_package_added.proofs.Rounds.{known_count}
use Rattle.go_package_added.proofs.Scopes.{KeepsWords}
use Rattle.go_package_added.proofs.Specified.{IsPlaced}
use Rattle.go_package_added.proofs.Unchanged.{FunctionsElsewhere, function_stays}

answer_is : (o : Option Failure) (x z : Environment) → unless o x ≡ Ok z → z ≡ x
answer_is None x z e = cc
answer_is (Some f) x z e = cc

module _ (k : ℕ) (ss us : List Source) (h : IsAppended k ss us) (keeps : KeepsPackage k h.count (suc h.first) (map unit_of ss) (map unit_of us)) (faultless : IsFaultless ss) where
  outlines_count : length (outlines_in ss) ≡ length (package_in ss).uses.package_level
  outlines_count = mapped_count _ (package_in ss).uses.package_level

  many : (x : Environment) → package_answer ss (uses (map unit_of ss)) ≡ Ok x → keeps.gap.shared ≤ length x.objects
  many x e =
      let is = answer_is (least (package_failures (package_in ss) (outlines_in ss) (found_in ss) (specifications 0 ss))) (environment_of (package_in ss) (found_in ss)) x e in
      let count = ap (λ (z : Environment). length z.objects) is in
      let states = mapped_count (λ (z : State). z.stands) (found_in ss) in
      let known = known_count (package_in ss) (outlines_in ss) (rounds (package_in ss)) in
      let outlined = outlines_count in
      let l = inside k ss us h keeps faultless in
      omega (arith, count, states, known, outlined, l)

  pub surrounds : (x : Environment) → package_answer ss (uses (map unit_of ss)) ≡ Ok x → (s : Stands)
      → SurroundsAlong keeps.gap (surroundings_of (uses (map unit_of ss)) x) (surroundings_of (uses (map unit_of us)) (with_function keeps.gap.shared s x))
  surrounds x e s = record {
    objects = λ n. ap stands_there (other_there keeps.gap.shared s x.objects n (many x e));
    referents = referents_same k ss us h keeps faultless;
  }

  -- ---- the types among the locals of a function

  abbrev p : Package
  p = package_in ss

  abbrev q : Package
  q = package_in us

  abbrev to : List Declared → List Declared
  to ds = map (longer_declared k keeps.end) ds

  types_to : (ds : List Declared) → which_types (to ds) ≡ which_types ds
  types_to [] = refl
  types_to (d ∷ ds) = ap (λ bs. is_type d.entity ∷ bs) (types_to ds)

  abbrev bools_there : Option (List Bool) → List Bool
  bools_there None = []
  bools_there (Some bs) = bs

  there_types : (ls : List (List Declared)) (i : ℕ) → which_types (locals_there (slice_get ls i)) ≡ bools_there (slice_get (map which_types ls) i)
  there_types [] i = refl
  there_types (l ∷ ls) zero = refl
  there_types (l ∷ ls) (suc i) = there_types ls i

  each_to : (ls : List (List Declared)) → AllByRecursion (λ l. which_types (to l) ≡ which_types l) ls
  each_to [] = tt
  each_to (l ∷ ls) = (types_to l, each_to ls)

  functions_inside : keeps.gap.functions ≤ length (map which_types (uses (map unit_of ss)).locals)
  functions_inside =
      let x = ap length keeps.locals.were in
      let c = length-append keeps.locals.first keeps.locals.second in
      let e = keeps.locals.place in
      let n = mapped_count which_types (uses (map unit_of ss)).locals in
      omega (arith, x, c, e, n)

  types_same : (number : ℕ) → types_in q (beyond keeps.gap.functions number) ≡ types_in p number
  types_same number =
      there_types (uses (map unit_of us)).locals (beyond keeps.gap.functions number)
      ∙ ap (λ bss. bools_there (slice_get bss (beyond keeps.gap.functions number)))
      (ap (map which_types) keeps.locals.are
      ∙ put_in to which_types which_types keeps.locals.own (which_types keeps.locals.own) keeps.locals.first keeps.locals.second keeps.gap.functions keeps.locals.place refl (each_to (keeps.locals.first ++ keeps.locals.second))
      ∙ ap (λ ls. inserted keeps.gap.functions (which_types keeps.locals.own) (map which_types ls)) (sym keeps.locals.were))
      ∙ ap bools_there (other_there keeps.gap.functions (which_types keeps.locals.own) (map which_types (uses (map unit_of ss)).locals) number functions_inside)
      ∙ sym (there_types (uses (map unit_of ss)).locals number)

  stands_whole : (d : Specification) → IsPlaced k h.count d → StandsWhole k h.count d
  stands_whole d (inl e) = inl e
  stands_whole d (inr b) = inr b.ends

  module _ (law : FunctionsElsewhere) (words : KeepsWords) (x : Environment) (e : package_answer ss (uses (map unit_of ss)) ≡ Ok x) (s : Stands) where
    abbrev a : Surroundings
    a = surroundings_of (uses (map unit_of ss)) x

    abbrev b : Surroundings
    b = surroundings_of (uses (map unit_of us)) (with_function keeps.gap.shared s x)

    stays : (d : Specification) → IsPlaced k h.count d → (rights : Rights) (number : ℕ) → StaysTyped p q keeps.gap a b rights number d
    stays d w rights number =
        subst (λ bs. AlongFunctions (function_moves keeps.gap) (λ n. true) (last_in (portion_of p d).tree) (beyond keeps.gap.functions number) (typed_function p a rights number d)
        (function_of b rights (beyond keeps.gap.functions number) bs (portion_of q d))) (sym (types_same number))
        (function_stays keeps.gap law words a b (surrounds x e s) rights number (beyond keeps.gap.functions number) (types_in p number) k h.count p q (texts k ss us h keeps faultless) keeps.objects.objects d (stands_whole d w))

    all_stay : (ds : List Specification) → AllByRecursion (IsPlaced k h.count) ds → AllByRecursion (λ d. (rights : Rights) (number : ℕ) → StaysTyped p q keeps.gap a b rights number d) ds
    all_stay [] w = tt
    all_stay (d ∷ ds) w = (stays d w.0, all_stay ds w.1)

    pub functions_stay : AllByRecursion (λ d. (rights : Rights) (number : ℕ) → StaysTyped p q keeps.gap a b rights number d) (specifications 0 ss)
    functions_stay = all_stay (specifications 0 ss) (all_placed k ss us h keeps faultless)
