-- Types in which no field stands twice, by the tokens of their names (Go specification: Struct types).
use Rattle.std.specs.Prelude.{◌≡◌, ℕ, suc, false, List, [], ◌∷◌}
use Rattle.go_grammar.specs.Trees.{last}
use Rattle.go_print_laws.specs.Calls.{Call}
use Rattle.go_print_laws.specs.Headers.{Header, parameters_end}
use Rattle.go_print_laws.specs.Trees.{type_tree, list_end}
use Rattle.go_tokens.specs.Spellings.{same_text}
use Rattle.go_tree.specs.Units.{is_blank}
use Rattle.go_types.specs.Trees.{TypeTree, boolean, text, integer, array, slice, structure, function, declared, TypeRow, none, more}

-- The token is spelled like none of these.
abbrev pub IsOther : (ℕ → List ℕ) → ℕ → List ℕ → Type 0
IsOther w x [] = Unit {0}
IsOther w x (y ∷ ys) = (same_text (w x) (w y) ≡ false) × IsOther w x ys

abbrev mutual
  -- In the struct types of a printed type, which is written from a token on, no field is blank or stands twice.
  pub FieldsOnce : (ℕ → List ℕ) → ℕ → TypeTree → Type 0
  FieldsOnce w i boolean = Unit {0}
  FieldsOnce w i text = Unit {0}
  FieldsOnce w i (integer k) = Unit {0}
  FieldsOnce w i (array n t) = FieldsOnce w (suc (suc (suc i))) t
  FieldsOnce w i (slice t) = FieldsOnce w (suc (suc i)) t
  FieldsOnce w i (structure ns ts) = FieldsApart w [] (suc (suc i)) ns ts
  FieldsOnce w i (function ps rs) = ListOnce w (suc (suc i)) ps × ResultsOnce w (suc (list_end (suc (suc i)) ps)) rs
  FieldsOnce w i (declared n) = Unit {0}

  -- types with commas between
  pub ListOnce : (ℕ → List ℕ) → ℕ → TypeRow → Type 0
  ListOnce w i none = Unit {0}
  ListOnce w i (more t ts) = FieldsOnce w i t × BehindOnce w (last (type_tree i t)) ts

  -- types behind one that ends here
  pub BehindOnce : (ℕ → List ℕ) → ℕ → TypeRow → Type 0
  BehindOnce w i none = Unit {0}
  BehindOnce w i (more t ts) = FieldsOnce w (suc i) t × BehindOnce w (last (type_tree (suc i) t)) ts

  -- nothing, one type, or types in parentheses
  pub ResultsOnce : (ℕ → List ℕ) → ℕ → TypeRow → Type 0
  ResultsOnce w i none = Unit {0}
  ResultsOnce w i (more t none) = FieldsOnce w i t
  ResultsOnce w i (more t (more u us)) = FieldsOnce w (suc i) t × BehindOnce w (last (type_tree (suc i) t)) (more u us)

  -- fields, where these stand in front of them
  pub FieldsApart : (ℕ → List ℕ) → List ℕ → ℕ → List (List ℕ) → TypeRow → Type 0
  FieldsApart w front i [] ts = Unit {0}
  FieldsApart w front i (n ∷ ns) none = Unit {0}
  FieldsApart w front i (n ∷ ns) (more t ts) = (is_blank (w i) ≡ false) × IsOther w i front × FieldsOnce w (suc i) t × LaterApart w (i ∷ front) (last (type_tree (suc i) t)) ns ts

  -- fields behind one that ends here
  pub LaterApart : (ℕ → List ℕ) → List ℕ → ℕ → List (List ℕ) → TypeRow → Type 0
  LaterApart w front i [] ts = Unit {0}
  LaterApart w front i (n ∷ ns) none = Unit {0}
  LaterApart w front i (n ∷ ns) (more t ts) = (is_blank (w (suc i)) ≡ false) × IsOther w (suc i) front × FieldsOnce w (suc (suc i)) t × LaterApart w (suc i ∷ front) (last (type_tree (suc (suc i)) t)) ns ts

-- No parameter that stands behind one which ends here is spelled like another one, nor stands a field twice in its type.
abbrev pub FurtherOnce : (ℕ → List ℕ) → List ℕ → ℕ → List (List ℕ) → TypeRow → Type 0
FurtherOnce w front i [] ts = Unit {0}
FurtherOnce w front i (n ∷ ns) none = Unit {0}
FurtherOnce w front i (n ∷ ns) (more t ts) = IsOther w (suc i) front × FieldsOnce w (suc (suc i)) t × FurtherOnce w (suc i ∷ front) (last (type_tree (suc (suc i)) t)) ns ts

abbrev pub ParametersOnce : (ℕ → List ℕ) → ℕ → List (List ℕ) → TypeRow → Type 0
ParametersOnce w i [] ts = Unit {0}
ParametersOnce w i (n ∷ ns) none = Unit {0}
ParametersOnce w i (n ∷ ns) (more t ts) = FieldsOnce w (suc i) t × FurtherOnce w (i ∷ []) (last (type_tree (suc i) t)) ns ts

-- of the signature whose first token has this number
abbrev pub SignatureOnce : (ℕ → List ℕ) → ℕ → Header → Type 0
SignatureOnce w i h = ParametersOnce w (suc i) h.parameters h.types × ResultsOnce w (suc (parameters_end (suc i) h.parameters h.types)) h.results

-- the types of the variables that are declared in front of a call, from a token on
abbrev pub DeclaredOnce : (ℕ → List ℕ) → ℕ → List (List ℕ) → TypeRow → Type 0
DeclaredOnce w i [] ts = Unit {0}
DeclaredOnce w i (y ∷ ys) none = Unit {0}
DeclaredOnce w i (y ∷ ys) (more t ts) = FieldsOnce w (suc (suc i)) t × DeclaredOnce w (suc (last (type_tree (suc (suc i)) t))) ys ts

-- No field stands twice in a type that is written down with the call.
abbrev pub CallFieldsOnce : (ℕ → List ℕ) → ℕ → Call → Type 0
CallFieldsOnce w i c = DeclaredOnce w i c.declared c.types
