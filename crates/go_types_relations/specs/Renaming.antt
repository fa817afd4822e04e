-- Renaming the declared types.
use Rattle.std.specs.Prelude.{◌≡◌, ℕ}
use Rattle.std.specs.Option.{option_map}
use Rattle.go_types.specs.Trees.{TypeTree, boolean, text, integer, array, slice, structure, function, declared, TypeRow, none, more}
use Rattle.go_types.specs.Relations.{Rights}
use Rattle.go_types_relations.specs.Questions.{entry}

abbrev mutual
  -- the type with other numbers of declared types
  pub renamed : (ℕ → ℕ) → TypeTree → TypeTree
  renamed name boolean = boolean
  renamed name text = text
  renamed name (integer k) = integer k
  renamed name (array n t) = array n (renamed name t)
  renamed name (slice t) = slice (renamed name t)
  renamed name (structure ns ts) = structure ns (renamed_row name ts)
  renamed name (function ps rs) = function (renamed_row name ps) (renamed_row name rs)
  renamed name (declared n) = declared (name n)

  pub renamed_row : (ℕ → ℕ) → TypeRow → TypeRow
  renamed_row name none = none
  renamed_row name (more t ts) = more (renamed name t) (renamed_row name ts)

abbrev pub IsOneToOne : (ℕ → ℕ) → Type 0
IsOneToOne name = (n m : ℕ) → name n ≡ name m → n ≡ m

-- Each declared type has its renamed right side under its new number, or none where it had none. Further declared types may
-- stand in between.
abbrev pub AreRenamed : (ℕ → ℕ) → Rights → Rights → Type 0
AreRenamed name old new = (n : ℕ) → entry new (name n) ≡ option_map (renamed name) (entry old n)
