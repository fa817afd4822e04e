-- Types whose fields have names, and what stands for such types (Go specification: Struct types).
use Rattle.std.specs.Prelude.{ℕ, List, [], ◌∷◌}
use Rattle.go_grammar.specs.declared.kind.Kind.{Kind}
use Rattle.go_grammar.specs.declared.kind.Kind.TheVariants as kind
use Rattle.go_grammar.specs.Trees.{Tree, node, Trees, none, more, skip}
use Rattle.go_types.specs.Trees.{TypeTree, TypeRow, boolean, text, integer, array, slice, structure, function, declared}
use Rattle.go_types.specs.Trees as types
use Rattle.go_types.specs.Relations.{Rights, HasRight}
use Rattle.go_typed.specs.Contents.{FuncContent}
use Rattle.go_typed.specs.Trees.{SortHas, Every}
use Rattle.go_print_laws.specs.Lexemes.{IsName, AreNames}
use Rattle.go_exprs_rules.specs.Sorts.{Stands}

abbrev mutual
  -- the names of all fields are spelled as names are
  pub IsNamed : TypeTree → Type 0
  IsNamed boolean = Unit {0}
  IsNamed text = Unit {0}
  IsNamed (integer k) = Unit {0}
  IsNamed (array n t) = IsNamed t
  IsNamed (slice t) = IsNamed t
  IsNamed (structure ns ts) = AreNames ns × RowIsNamed ts
  IsNamed (function ps rs) = RowIsNamed ps × RowIsNamed rs
  IsNamed (declared n) = Unit {0}

  pub RowIsNamed : TypeRow → Type 0
  RowIsNamed types.none = Unit {0}
  RowIsNamed (types.more t ts) = IsNamed t × RowIsNamed ts

abbrev pub StandsIsNamed : Stands → Type 0
StandsIsNamed x = SortHas IsNamed x

abbrev pub AllStandNamed : List Stands → Type 0
AllStandNamed [] = Unit {0}
AllStandNamed (x ∷ xs) = StandsIsNamed x × AllStandNamed xs

abbrev pub RightsAreNamed : Rights → Type 0
RightsAreNamed rights = (n : ℕ) (r : TypeTree) → HasRight rights n r → IsNamed r

-- a function's signature, what its locals stand for, and all its nodes
pub record FunctionIsNamed (f : FuncContent) : Type 0 where
  pub signature : IsNamed f.signature
  pub locals : AllStandNamed f.locals
  pub tree : Every IsNamed f.tree

abbrev pub AllFunctionsNamed : List FuncContent → Type 0
AllFunctionsNamed [] = Unit {0}
AllFunctionsNamed (f ∷ fs) = FunctionIsNamed f × AllFunctionsNamed fs

-- ---- trees whose tokens say so

-- a name that is declared is spelled as names are
abbrev pub NodeIsNamed : (ℕ → List ℕ) → Kind → ℕ → Type 0
NodeIsNamed texts kind.DeclaredName i = IsName (texts i)
NodeIsNamed texts k i = Unit {0}

abbrev mutual
  -- so is each in a tree, where tokens say this
  pub TreeIsNamed : (ℕ → List ℕ) → Tree → Type 0
  TreeIsNamed texts (node k i j ps) = NodeIsNamed texts k i × TreesAreNamed texts ps

  pub TreesAreNamed : (ℕ → List ℕ) → Trees → Type 0
  TreesAreNamed texts none = Unit {0}
  TreesAreNamed texts (more p ps) = TreeIsNamed texts p × TreesAreNamed texts ps
  TreesAreNamed texts (skip ps) = TreesAreNamed texts ps
