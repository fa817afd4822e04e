-- Where types are declared in a statement, and the numbers that they have there.
use Rattle.std.specs.Prelude.{◌≡◌, ℕ, ◌≤◌, Bool, true, false, List, [], ◌∷◌, ◌++◌, Option, Some, None, slice_get}
use Rattle.go_grammar.specs.declared.kind.Category.{Category}
use Rattle.go_grammar.specs.declared.kind.Category.TheVariants as category
use Rattle.go_grammar.specs.declared.kind.Kind.{Kind}
use Rattle.go_grammar.specs.declared.kind.Kind.TheVariants as kind
use Rattle.go_grammar.specs.declared.kind.Sort.TheVariants as declaring
use Rattle.go_grammar.specs.Trees.{Tree, node, Trees, none, more, skip}
use Rattle.go_exprs_variables.specs.Shapes.{IsShaped}
use Rattle.go_stmts_steady.specs.Ordered.{Numbers, next, Follows, Ordered}

abbrev pub place_in : Kind → ℕ → List ℕ
place_in (kind.Specification declaring.Type) i = i ∷ []
place_in d i = []

abbrev mutual
  -- the tokens at which types are declared, in order
  pub type_places : Tree → List ℕ
  type_places (node d i j ps) = place_in d i ++ all_type_places ps

  pub all_type_places : Trees → List ℕ
  all_type_places none = []
  all_type_places (more p ps) = type_places p ++ all_type_places ps
  all_type_places (skip ps) = all_type_places ps

-- The types that are declared at these tokens have numbers in order, from k on.
abbrev pub Rise : Numbers → ℕ → List ℕ → Type 0
Rise t k [] = Unit {0}
Rise t k (i ∷ is) = Follows (t i) k × Rise t (next (t i) k) is

-- no function is declared in a text of the category (Go specification: Function declarations)
abbrev pub is_inner : Category → Bool
is_inner category.File = false
is_inner category.Declaration = false
is_inner c = true

-- A statement whose types have numbers in order at their tokens is ordered.
abbrev pub StatementsAreOrdered : Type 0
StatementsAreOrdered = (c : Category) (t : Numbers) (k : ℕ) (x : Tree) → is_inner c ≡ true → IsShaped c x → Rise t k (type_places x) → Ordered t k x

-- ---- numbers by locals

abbrev pub IsLaterType : List Bool → ℕ → Option ℕ → Type 0
IsLaterType bs n (Some m) = (n ≤ m) × (slice_get bs m ≡ Some true)
IsLaterType bs n None = Unit {0}

-- The locals that are declared at these tokens are types, and have numbers in order, from n on; of the locals the list says which are types.
abbrev pub LocalsRise : Numbers → List Bool → ℕ → List ℕ → Type 0
LocalsRise o bs n [] = Unit {0}
LocalsRise o bs n (i ∷ is) = IsLaterType bs n (o i) × LocalsRise o bs (next (o i) n) is
