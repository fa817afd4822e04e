-- Underlying types, comparability and assignability as functions. Of a declared type without a right side nothing is told.
use Rattle.std.specs.Prelude.{ℕ, Bool, true, false, ◌&&◌, ◌||◌, not, Option, Some, None}
use Rattle.go_types.specs.Trees.{TypeTree, boolean, text, integer, array, slice, structure, function, declared, TypeRow, none, more, is_named}
use Rattle.go_types.specs.Relations.{Rights}
use Rattle.go_types_relations.specs.Questions.{Question, asked, on_both}
use Rattle.go_types_relations.specs.Identity.{is_identical}

-- ---- underlying types

abbrev pub underlying_by : Question TypeTree
underlying_by known (declared n) = known n
underlying_by known t = Some t

-- the underlying type, if there is one
abbrev pub underlying_of : Rights → TypeTree → Option TypeTree
underlying_of rights t = asked underlying_by rights t

-- ---- comparability

abbrev mutual
  pub comparable_by : Question Bool
  comparable_by known boolean = Some true
  comparable_by known text = Some true
  comparable_by known (integer k) = Some true
  comparable_by known (array n t) = comparable_by known t
  comparable_by known (slice t) = Some false
  comparable_by known (structure ns ts) = all_comparable_by known ts
  comparable_by known (function ps rs) = Some false
  comparable_by known (declared n) = known n

  pub all_comparable_by : (ℕ → Option Bool) → TypeRow → Option Bool
  all_comparable_by known none = Some true
  all_comparable_by known (more t ts) = on_both (λ a b. a && b) (comparable_by known t) (all_comparable_by known ts)

-- whether values are comparable, if it can be told
abbrev pub comparability_of : Rights → TypeTree → Option Bool
comparability_of rights t = asked comparable_by rights t

abbrev pub is_yes : Option Bool → Bool
is_yes (Some b) = b
is_yes None = false

abbrev pub is_comparable : Rights → TypeTree → Bool
is_comparable rights t = is_yes (comparability_of rights t)

-- ---- assignability

abbrev pub both_identical : Option TypeTree → Option TypeTree → Bool
both_identical (Some t) (Some u) = is_identical t u
both_identical _ _ = false

-- the types are identical, or their underlying types are and one of the two isn't a named type
unfoldable pub is_assignable : Rights → TypeTree → TypeTree → Bool
is_assignable rights from to = is_identical from to || (both_identical (underlying_of rights from) (underlying_of rights to) && not (is_named from && is_named to))
