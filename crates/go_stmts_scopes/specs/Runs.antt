-- What is run of an expression: its nodes, the locals that are read in it, and the one that is written where it is a place (Go
-- specification: Expressions, Assignment statements).
use Rattle.std.specs.Prelude.{◌≡◌, ℕ, Bool, true, false, ◌⊎◌}
use Rattle.go_grammar.specs.declared.kind.Category.TheVariants as category
use Rattle.go_grammar.specs.declared.kind.Kind.{Kind}
use Rattle.go_grammar.specs.declared.kind.Kind.TheVariants as kind
use Rattle.go_grammar.specs.Categories.{within}
use Rattle.go_grammar.specs.Trees.{Tree, node, Trees, kind_of}
use Rattle.go_grammar.specs.Trees as syntax
use Rattle.go_types.specs.Trees.{TypeTree, array}
use Rattle.go_types.specs.Relations.{Rights}
use Rattle.go_typed.specs.declared.form.Form.{Form}
use Rattle.go_typed.specs.declared.form.Form.TheVariants as form
use Rattle.go_typed.specs.declared.form.Referent.TheVariants as referent
use Rattle.go_typed.specs.Trees.{Sort, Constant, OpenConstant, Typed, typed, Typeds, none, more, skip}
use Rattle.go_meaning.specs.Planning.{shape_at}

-- nodes of which no part is run
abbrev pub is_leaf : Form → Bool
is_leaf (form.Local n) = true
is_leaf (form.Object r) = true
is_leaf form.Blank = true
is_leaf form.Literal = true
is_leaf form.Type = true
is_leaf (form.Held k) = true
is_leaf f = false

-- nodes whose parts are expressions, and are run
abbrev pub holds_expressions : Form → Bool
holds_expressions form.Parenthesized = true
holds_expressions (form.Selector n) = true
holds_expressions form.Index = true
holds_expressions form.Slice = true
holds_expressions form.Call = true
holds_expressions form.Conversion = true
holds_expressions form.Composite = true
holds_expressions (form.Unary o) = true
holds_expressions (form.Binary o) = true
holds_expressions (form.Keyed n) = true
holds_expressions f = false

abbrev mutual
  -- a tree in which no statement is run, and no name that is declared
  pub IsExpression : Typed TypeTree → Type 0
  IsExpression (typed f i j l ps) = (is_leaf f ≡ true) ⊎ ((holds_expressions f ≡ true) × AreExpressions ps)

  pub AreExpressions : Typeds TypeTree → Type 0
  AreExpressions none = Unit {0}
  AreExpressions (more p ps) = IsExpression p × AreExpressions ps
  AreExpressions (skip ps) = AreExpressions ps

-- ---- locals

-- A constant is its value, and what stands below it isn't run.
abbrev pub is_given : Sort TypeTree → Bool
is_given (Constant t c) = true
is_given (OpenConstant c) = true
is_given x = false

abbrev pub Unless : Bool → Type 0 → Type 0
Unless true T = Unit {0}
Unless false T = T

abbrev pub LocalHas : (ℕ → Type 0) → Form → Type 0
LocalHas R (form.Local n) = R n
LocalHas R f = Unit {0}

abbrev mutual
  -- each local that is read where the expression is run has the property
  pub EachRead : (ℕ → Type 0) → Typed TypeTree → Type 0
  EachRead R (typed f i j l ps) = Unless (is_given l.sort) (LocalHas R f × Unless (is_leaf f) (AllRead R ps))

  pub AllRead : (ℕ → Type 0) → Typeds TypeTree → Type 0
  AllRead R none = Unit {0}
  AllRead R (more p ps) = EachRead R p × AllRead R ps
  AllRead R (skip ps) = AllRead R ps

-- ---- places

abbrev pub is_array : TypeTree → Bool
is_array (array n t) = true
is_array t = false

-- whether the node is what its first part is, or a part of it
abbrev pub is_part : Rights → Form → Typeds TypeTree → Bool
is_part rights form.Parenthesized ps = true
is_part rights (form.Selector n) ps = true
is_part rights form.Index ps = is_array (shape_at rights ps 0)
is_part rights (form.Keyed n) ps = true
is_part rights f ps = false

-- A local that is written has both properties. Of what is declared outside only variables of the package are places.
abbrev pub PlaceHas : (R W : ℕ → Type 0) → Form → Type 0
PlaceHas R W (form.Local n) = R n × W n
PlaceHas R W (form.Object (referent.Variable n)) = Unit {0}
PlaceHas R W (form.Object r) = ⊥
PlaceHas R W f = Unit {0}

abbrev mutual
  -- Each local that is read where it is found out which place the expression is has the property R, and the one that is written, or
  -- of which a part is, the property W. No constant is a place.
  pub EachPlaced : Rights → (R W : ℕ → Type 0) → Typed TypeTree → Type 0
  EachPlaced rights R W (typed f i j l ps) = (is_given l.sort ≡ false) × PlaceHas R W f × Unless (is_leaf f) (FirstPlaced rights R W (is_part rights f ps) ps)

  pub FirstPlaced : Rights → (R W : ℕ → Type 0) → Bool → Typeds TypeTree → Type 0
  FirstPlaced rights R W true none = Unit {0}
  FirstPlaced rights R W true (more p ps) = EachPlaced rights R W p × AllRead R ps
  FirstPlaced rights R W true (skip ps) = AllRead R ps
  FirstPlaced rights R W false ps = AllRead R ps

-- ---- grammar trees

-- What stands in the brackets of an index or slice expression is an index, or bounds.
abbrev pub HasBracket : Kind → Trees → Type 0
HasBracket kind.Bracketed (syntax.more x (syntax.more y ps)) = within category.Bracket (kind_of y) ≡ true
HasBracket kind.Bracketed (syntax.skip (syntax.more y ps)) = within category.Bracket (kind_of y) ≡ true
HasBracket k ps = Unit {0}

abbrev mutual
  pub HasBrackets : Tree → Type 0
  HasBrackets (node k i j ps) = HasBracket k ps × AllHaveBrackets ps

  pub AllHaveBrackets : Trees → Type 0
  AllHaveBrackets syntax.none = Unit {0}
  AllHaveBrackets (syntax.more p ps) = HasBrackets p × AllHaveBrackets ps
  AllHaveBrackets (syntax.skip ps) = AllHaveBrackets ps
