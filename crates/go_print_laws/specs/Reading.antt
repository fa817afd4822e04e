-- Printed types and constants, typed again.
use Rattle.std.specs.Prelude.{◌≡◌, ℕ, suc, ◌<◌, ◌^◌, true, false, List, [], ◌∷◌, ◌++◌, Option, pos, negsuc, codes}
use Rattle.std.specs.Option.{option_map}
use Rattle.std.specs.List.{list_all, AllByRecursion}
use Rattle.std.specs.Fmt.{decimal}
use Rattle.go_constants.specs.declared.values.Const.{Const}
use Rattle.go_constants.specs.declared.values.Const.TheVariants as const
use Rattle.go_grammar.specs.Trees.{Tree, last}
use Rattle.go_tree.specs.declared.object.Object.{Object}
use Rattle.go_tree.specs.declared.object.Object.TheVariants as object
use Rattle.go_tree.specs.Predeclared.{known_names, known_in}
use Rattle.go_types.specs.Trees.{TypeTree, TypeRow, boolean, text, integer, array, slice, structure, function, declared, none, more}
use Rattle.go_types_relations.specs.Sizes.{scalars_of}
use Rattle.go_typed.specs.Trees.{sort_of}
use Rattle.go_typed.specs.Trees as sort
use Rattle.go_exprs_rules.specs.Sorts.{Stands}
use Rattle.go_exprs_rules.specs.Scopes.{Scope, Hint, value, type_place, loose}
use Rattle.go_exprs_rules.specs.TypeNodes.{exceeds}
use Rattle.go_exprs_rules.specs.Names.{name_sort}
use Rattle.go_exprs_rules.specs.Tables.{no_faults}
use Rattle.go_exprs_rules.specs.Typing.{typing, faults}
use Rattle.go_print.specs.Texts.{kind_text}
use Rattle.go_print.specs.Literals.{boolean_text, bytes_text}
use Rattle.go_print_laws.specs.Trees.{type_tree, list_end}
use Rattle.go_print_laws.specs.Literals.{literal_tree}

-- ---- what the tokens say and mean

-- what a name means where nothing declares it
abbrev pub in_universe : List ℕ → Option Object
in_universe name = option_map object.Predeclared (known_in known_names name)

abbrev mutual
  -- From a token on, lengths and the names of fields are read as they are printed, predeclared names mean what they do in the
  -- universe, and those of declared types mean these.
  pub ReadsType : Scope → Hint → ℕ → TypeTree → Type 0
  ReadsType s h i boolean = s.objects i ≡ in_universe (codes "bool")
  ReadsType s h i text = s.objects i ≡ in_universe (codes "string")
  ReadsType s h i (integer k) = s.objects i ≡ in_universe (kind_text k)
  ReadsType s h i (array n t) = (s.texts (suc i) ≡ decimal n) × ReadsType s h (suc (suc (suc i))) t
  ReadsType s h i (slice t) = ReadsType s loose (suc (suc i)) t
  ReadsType s h i (structure ns ts) = ReadsFields s h (suc (suc i)) ns ts
  ReadsType s h i (function ps rs) = ReadsRow s (suc (suc i)) ps × ReadsResults s (suc (list_end (suc (suc i)) ps)) rs
  ReadsType s h i (declared n) = name_sort s h i ≡ sort.IsType (declared n)

  -- types with one token between each two
  pub ReadsRow : Scope → ℕ → TypeRow → Type 0
  ReadsRow s i none = Unit {0}
  ReadsRow s i (more t ts) = ReadsType s loose i t × ReadsRow s (suc (last (type_tree i t))) ts

  -- one type, or types in parentheses
  pub ReadsResults : Scope → ℕ → TypeRow → Type 0
  ReadsResults s i none = Unit {0}
  ReadsResults s i (more t none) = ReadsType s loose i t
  ReadsResults s i (more t (more u us)) = ReadsType s loose (suc i) t × ReadsRow s (suc (last (type_tree (suc i) t))) (more u us)

  -- as many names as types
  pub ReadsFields : Scope → Hint → ℕ → List (List ℕ) → TypeRow → Type 0
  ReadsFields s h i [] none = Unit {0}
  ReadsFields s h i [] (more t ts) = ⊥
  ReadsFields s h i (n ∷ ns) none = ⊥
  ReadsFields s h i (n ∷ ns) (more t ts) = (s.texts i ≡ n) × ReadsType s h (suc i) t × ReadsFields s h (suc (last (type_tree (suc i) t))) ns ts

abbrev mutual
  -- Lengths are such as the program keeps, and where the limit on scalars is judged, no array type is above it.
  pub IsWithin : Scope → TypeTree → Type 0
  IsWithin s boolean = Unit {0}
  IsWithin s text = Unit {0}
  IsWithin s (integer k) = Unit {0}
  IsWithin s (array n t) = (n < 2 ^ 32) × (s.limits ≡ true → exceeds (scalars_of s.rights (array n t)) ≡ false) × IsWithin s t
  IsWithin s (slice t) = IsWithin s t
  IsWithin s (structure ns ts) = RowIsWithin s ts
  IsWithin s (function ps rs) = RowIsWithin s ps × RowIsWithin s rs
  IsWithin s (declared n) = Unit {0}

  pub RowIsWithin : Scope → TypeRow → Type 0
  RowIsWithin s none = Unit {0}
  RowIsWithin s (more t ts) = IsWithin s t × RowIsWithin s ts

-- From a token on, a constant is read as it is printed.
abbrev pub ReadsLiteral : Scope → ℕ → Const → Type 0
ReadsLiteral s i (const.Bool b) = s.objects i ≡ in_universe (boolean_text b)
ReadsLiteral s i (const.Int (pos n) rune) = s.texts i ≡ decimal n
ReadsLiteral s i (const.Int (negsuc n) rune) = s.texts (suc i) ≡ decimal (suc n)
ReadsLiteral s i (const.Text bs) = s.characters i ≡ codes "\"" ++ bytes_text bs ++ codes "\""

-- A number is an untyped one other than -2 ^ 127, and a text is one of bytes.
abbrev pub CanBeRead : Const → Type 0
CanBeRead (const.Bool b) = Unit {0}
CanBeRead (const.Int (pos n) rune) = n < 2 ^ 127
CanBeRead (const.Int (negsuc n) rune) = suc n < 2 ^ 127
CanBeRead (const.Text bs) = AllByRecursion (λ b. b < 256) bs

-- a number isn't marked as a rune, since none is printed as one
abbrev pub unmarked : Const → Const
unmarked (const.Int z rune) = const.Int z false
unmarked v = v

-- ---- the laws

-- The tree stands for this in the scope, and no rule fails in it.
pub record IsTypedAs (s : Scope) (h : Hint) (t : Tree) (x : Stands) : Type 0 where
  pub stands : sort_of (typing s h t) ≡ x
  pub faultless : list_all no_faults (faults s h t) ≡ true

-- the place of a type
pub data IsTypePlace : Hint → Type 0 where
  at_place : IsTypePlace type_place
  in_loose : IsTypePlace loose

-- A printed type is typed as that very type, and so as an identical one.
abbrev pub TypesReadBack : Type 0
TypesReadBack = (s : Scope) (h : Hint) (i : ℕ) (t : TypeTree) → IsTypePlace h → IsWithin s t → ReadsType s h i t → IsTypedAs s h (type_tree i t) (sort.IsType t)

-- A printed constant is typed as an untyped constant of its value.
abbrev pub LiteralsReadBack : Type 0
LiteralsReadBack = (s : Scope) (i : ℕ) (v : Const) → CanBeRead v → ReadsLiteral s i v → IsTypedAs s value (literal_tree i v) (sort.OpenConstant (unmarked v))
