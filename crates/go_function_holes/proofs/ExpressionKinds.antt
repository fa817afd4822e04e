-- Kinds of expressions, where they stand, and what their places ask of them.
use Rattle.std.proofs.Common.{◌≡◌, ◌∙◌, ℕ, Bool, true, false, [], refl, sym}
use Rattle.std.specs.Prelude.{nat_le}
use Rattle.go_grammar.specs.declared.kind.Category.{Category}
use Rattle.go_grammar.specs.declared.kind.Category.TheVariants as category
use Rattle.go_grammar.specs.declared.kind.Kind.{Kind}
use Rattle.go_grammar.specs.declared.kind.Kind.TheVariants as kind
use Rattle.go_grammar.specs.declared.kind.Level.{Level}
use Rattle.go_grammar.specs.declared.kind.Level.TheVariants as level
use Rattle.go_grammar.specs.Categories.{tightness, is_expression}
use Rattle.go_grammar.specs.declared.kind.Operator.{Operator}
use Rattle.go_grammar.specs.Operators.{rank, operator_level}
use Rattle.go_rewriting.specs.Replacing.{takes_level}
use Rattle.go_types.specs.Relations.{Rights}
use Rattle.go_typed.specs.Trees as sort
use Rattle.go_exprs_rules.specs.Names.{is_no_type, not_a_value, place_failing}
use Rattle.go_exprs_rules.specs.Scopes.{Hint, value, several, type_place, target, statement, element, member, elided}
use Rattle.go_exprs_rules.specs.Sorts.{Stands, is_unknown}
use Rattle.go_exprs_rules.specs.Tables.{is_type}
use Rattle.go_function_holes.specs.Holes.{is_operand_place}
use Rattle.go_function_holes.proofs.Holed.{differ}

-- what stands there
abbrev pub is_operand : Kind → Bool
is_operand kind.Bounds = true
is_operand kind.BoundsFrom = true
is_operand kind.LiteralValue = true
is_operand kind.Keyed = true
is_operand k = is_expression k

level-takes : (l : Level) → nat_le (rank l) (rank level.Primary) ≡ true
level-takes level.Either = refl
level-takes level.Both = refl
level-takes level.Comparison = refl
level-takes level.Sum = refl
level-takes level.Product = refl
level-takes level.Unary = refl
level-takes level.Primary = refl

pub operand-takes : (c : Category) → is_operand_place c ≡ true → takes_level level.Primary c ≡ true
operand-takes (category.Expression l p) e = level-takes l
operand-takes category.Bracket e = refl
operand-takes category.Element e = refl
operand-takes category.Value e = refl
operand-takes c e = absurd (differ e)

level-tight : (l : Level) → nat_le 1 (rank l) ≡ true
level-tight level.Either = refl
level-tight level.Both = refl
level-tight level.Comparison = refl
level-tight level.Sum = refl
level-tight level.Product = refl
level-tight level.Unary = refl
level-tight level.Primary = refl

operator-tight : (o : Operator) → is_expression (kind.Binary o) ≡ true
operator-tight o = level-tight (operator_level o)

tight-operand : (r : ℕ) (k : Kind) → nat_le r 0 ≡ false → nat_le r (tightness k) ≡ true → is_expression k ≡ true
tight-operand r kind.Name z e = refl
tight-operand r kind.Integer z e = refl
tight-operand r kind.Rune z e = refl
tight-operand r kind.Text z e = refl
tight-operand r kind.Parenthesized z e = refl
tight-operand r kind.Selector z e = refl
tight-operand r kind.Bracketed z e = refl
tight-operand r kind.Call z e = refl
tight-operand r kind.Composite z e = refl
tight-operand r kind.SequenceType z e = refl
tight-operand r kind.FunctionType z e = refl
tight-operand r kind.StructType z e = refl
tight-operand r (kind.Unary s) z e = refl
tight-operand r (kind.Binary o) z e = operator-tight o
tight-operand r k z e = absurd (differ (sym z ∙ e))

pub expression-kind : (l : Level) (k : Kind) → nat_le (rank l) (tightness k) ≡ true → is_expression k ≡ true
expression-kind level.Either k e = tight-operand 1 k refl e
expression-kind level.Both k e = tight-operand 2 k refl e
expression-kind level.Comparison k e = tight-operand 3 k refl e
expression-kind level.Sum k e = tight-operand 4 k refl e
expression-kind level.Product k e = tight-operand 5 k refl e
expression-kind level.Unary k e = tight-operand 6 k refl e
expression-kind level.Primary k e = tight-operand 7 k refl e

-- ---- what places ask

-- what is no type stands there
abbrev pub judges_values : Hint → Bool
judges_values value = true
judges_values several = true
judges_values target = true
judges_values statement = true
judges_values (element t) = true
judges_values (member t) = true
judges_values elided = true
judges_values h = false

pub no-type : (r : Rights) (h : Hint) (i j : ℕ) (s : Stands) → judges_values h ≡ true → place_failing r h i j s ≡ [] → is_type s ≡ false
no-type r value i j (sort.IsType t) e f = absurd cc
no-type r several i j (sort.IsType t) e f = absurd cc
no-type r target i j (sort.IsType t) e f = absurd cc
no-type r statement i j (sort.IsType t) e f = absurd cc
no-type r (element u) i j (sort.IsType t) e f = absurd cc
no-type r (member u) i j (sort.IsType t) e f = absurd cc
no-type r elided i j (sort.IsType t) e f = absurd cc
no-type r h i j (sort.IsType t) e f = absurd (differ e)
no-type r h i j s e f = refl

type-there : (i j : ℕ) (s : Stands) → not_a_value (is_no_type s) i j ≡ [] → is_unknown s ≡ false → is_type s ≡ true
type-there i j (sort.IsType t) e u = refl
type-there i j sort.Unknown e u = absurd (differ (sym u))
type-there i j s e u = absurd cc

-- a type stands where one has to
pub a-type : (r : Rights) (i j : ℕ) (s : Stands) → place_failing r type_place i j s ≡ [] → is_unknown s ≡ false → is_type s ≡ true
a-type r i j s e u = type-there i j s e u
