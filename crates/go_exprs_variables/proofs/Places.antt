-- The rule on places, of which a constant and a variable of its type fail none but the same.
use Rattle.std.proofs.Common.{◌≡◌, ℕ, Bool, true, false, [], Option, Some, refl}
use Rattle.go_types.specs.Trees.{TypeTree}
use Rattle.go_types.specs.Relations.{Rights}
use Rattle.go_typed.specs.Trees.{Sort}
use Rattle.go_typed.specs.Trees as sort
use Rattle.go_exprs_rules.specs.declared.family.OpenKind.{OpenKind}
use Rattle.go_exprs_rules.specs.Names.{place_failing, not_a_value, is_no_type}
use Rattle.go_exprs_rules.specs.Scopes.{Hint, value, several, type_place, loose, inside, one_inside, loose_inside, callee, statement, target, declares, free, element, member, elided}
use Rattle.go_exprs_rules.specs.Sorts.{Stands, open_kind}
use Rattle.go_exprs_variables.specs.Stood.{Stood, as_before, in_place, early}

module _ (rights : Rights) (i j : ℕ) where
  -- a value stands wherever no type has to
  pub stands : (h : Hint) (t : TypeTree) (a : Stands) → is_no_type a ≡ true → place_failing rights h i j a ≡ [] → place_failing rights h i j (sort.Value t) ≡ []
  stands type_place t a n e = absurd (no_type (is_no_type a) n e)
    where
      no_type : (b : Bool) → b ≡ true → not_a_value b i j ≡ [] → ⊥
      no_type true m f = cc
      no_type false m f = cc
  stands loose t a n e = absurd (no_type (is_no_type a) n e)
    where
      no_type : (b : Bool) → b ≡ true → not_a_value b i j ≡ [] → ⊥
      no_type true m f = cc
      no_type false m f = cc
  stands value t a n e = refl
  stands several t a n e = refl
  stands inside t a n e = refl
  stands one_inside t a n e = refl
  stands loose_inside t a n e = refl
  stands callee t a n e = refl
  stands statement t a n e = refl
  stands target t a n e = refl
  stands declares t a n e = refl
  stands free t a n e = refl
  stands (element u) t a n e = refl
  stands (member u) t a n e = refl
  stands elided t a n e = refl

  pub untyped_is_none : (a : Stands) (k : OpenKind) → open_kind a ≡ Some k → is_no_type a ≡ true
  untyped_is_none (sort.Open u) k e = refl
  untyped_is_none (sort.OpenConstant c) k e = refl
  untyped_is_none (sort.Value t) k e = refl
  untyped_is_none (sort.Constant t c) k e = refl
  untyped_is_none sort.Nothing k e = refl
  untyped_is_none sort.Blank k e = refl
  untyped_is_none sort.Nil k e = refl
  untyped_is_none (sort.Builtin b) k e = refl
  untyped_is_none sort.Println k e = refl
  untyped_is_none sort.Package k e = refl
  untyped_is_none (sort.Results t) k e = refl
  untyped_is_none sort.Unknown k e = cc
  untyped_is_none (sort.IsType t) k e = cc

  pub place_row : (h : Hint) (o : Option TypeTree) (a b : Stands) → Stood rights o a b → place_failing rights h i j a ≡ [] → place_failing rights h i j b ≡ []
  place_row h o a b (as_before v c) e = e
  place_row h o a b (in_place v t c) e = stands h t (sort.Constant t c) refl e
  place_row h o a b (early t c k m n) e = stands h t c (untyped_is_none c k m) e
