-- Type identity as a function (Go specification, "Type identity").
use Rattle.std.specs.Prelude.{ℕ, Bool, true, false, ◌&&◌, nat_eq, List, [], ◌∷◌}
use Rattle.go_types.specs.Trees.{TypeTree, boolean, text, integer, array, slice, structure, function, declared, TypeRow, none, more}
use Rattle.go_types.specs.Keys.{kind_number}

abbrev pub same_name : List ℕ → List ℕ → Bool
same_name [] [] = true
same_name (x ∷ xs) (y ∷ ys) = nat_eq x y && same_name xs ys
same_name _ _ = false

abbrev pub same_names : List (List ℕ) → List (List ℕ) → Bool
same_names [] [] = true
same_names (x ∷ xs) (y ∷ ys) = same_name x y && same_names xs ys
same_names _ _ = false

abbrev mutual
  pub is_identical : TypeTree → TypeTree → Bool
  is_identical boolean boolean = true
  is_identical text text = true
  is_identical (integer k) (integer l) = nat_eq (kind_number k) (kind_number l)
  is_identical (array n t) (array m u) = nat_eq n m && is_identical t u
  is_identical (slice t) (slice u) = is_identical t u
  is_identical (structure ns ts) (structure ms us) = same_names ns ms && are_identical ts us
  is_identical (function ps rs) (function qs ss) = are_identical ps qs && are_identical rs ss
  is_identical (declared n) (declared m) = nat_eq n m
  is_identical _ _ = false

  pub are_identical : TypeRow → TypeRow → Bool
  are_identical none none = true
  are_identical (more t ts) (more u us) = is_identical t u && are_identical ts us
  are_identical _ _ = false
