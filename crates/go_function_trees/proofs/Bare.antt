-- Which parts of nodes are no statements and hold none.
use Rattle.std.proofs.Common.{◌≡◌, ◌∙◌, ℕ, Bool, true, false, refl, sym}
use Rattle.std.specs.Prelude.{nat_le}
use Rattle.go_grammar.specs.declared.kind.Category.{Category}
use Rattle.go_grammar.specs.declared.kind.Category.TheVariants as category
use Rattle.go_grammar.specs.declared.kind.Kind.{Kind}
use Rattle.go_grammar.specs.declared.kind.Kind.TheVariants as kind
use Rattle.go_grammar.specs.declared.kind.Level.{Level}
use Rattle.go_grammar.specs.declared.kind.Level.TheVariants as level
use Rattle.go_grammar.specs.declared.kind.Place.{Place}
use Rattle.go_grammar.specs.declared.kind.Sort.TheVariants as declaring
use Rattle.go_grammar.specs.Categories.{within, tightness, is_type}
use Rattle.go_grammar.specs.Grammar.{rule}
use Rattle.go_grammar.specs.Operators.{rank}
use Rattle.go_grammar.specs.Rules.{Rule, End, Then, Maybe, Unless, Many, item}
use Rattle.go_grammar.specs.Trees.{Tree, node, Trees, none, more, skip, kind_of}
use Rattle.go_stmts_defs.specs.Reading.{is_statement}
use Rattle.go_stmts_final_types.specs.Shapes.{IsShaped, AreShaped}
use Rattle.go_function_trees.proofs.Listed.{differ}

-- categories of texts without statements
abbrev pub is_bare : Category → Bool
is_bare category.NameList = true
is_bare category.ConstantRest = true
is_bare category.VariableRest = true
is_bare category.Type = true
is_bare (category.Expression l p) = true
is_bare (category.ExpressionList p) = true
is_bare (category.LeftList p) = true
is_bare (category.Targets p) = true
is_bare (category.NewNames p) = true
is_bare c = false

bare-type : (k : Kind) → is_type k ≡ true → is_statement k ≡ false
bare-type kind.Name e = refl
bare-type kind.ParenthesizedType e = refl
bare-type kind.SequenceType e = refl
bare-type kind.FunctionType e = refl
bare-type kind.StructType e = refl
bare-type k e = absurd (differ e)

bare-tight : (r : ℕ) (k : Kind) → nat_le r 0 ≡ false → nat_le r (tightness k) ≡ true → is_statement k ≡ false
bare-tight r kind.FunctionDeclaration z e = absurd (differ (sym z ∙ e))
bare-tight r (kind.Declaration d) z e = absurd (differ (sym z ∙ e))
bare-tight r (kind.Group d) z e = absurd (differ (sym z ∙ e))
bare-tight r (kind.Specification d) z e = absurd (differ (sym z ∙ e))
bare-tight r kind.Block z e = absurd (differ (sym z ∙ e))
bare-tight r kind.Return z e = absurd (differ (sym z ∙ e))
bare-tight r kind.Break z e = absurd (differ (sym z ∙ e))
bare-tight r kind.Continue z e = absurd (differ (sym z ∙ e))
bare-tight r kind.Fallthrough z e = absurd (differ (sym z ∙ e))
bare-tight r kind.ExpressionStatement z e = absurd (differ (sym z ∙ e))
bare-tight r (kind.StepStatement o) z e = absurd (differ (sym z ∙ e))
bare-tight r kind.Assignment z e = absurd (differ (sym z ∙ e))
bare-tight r (kind.OperatorAssignment o) z e = absurd (differ (sym z ∙ e))
bare-tight r kind.Define z e = absurd (differ (sym z ∙ e))
bare-tight r kind.If z e = absurd (differ (sym z ∙ e))
bare-tight r kind.Else z e = absurd (differ (sym z ∙ e))
bare-tight r kind.LateCondition z e = absurd (differ (sym z ∙ e))
bare-tight r kind.InitializedCondition z e = absurd (differ (sym z ∙ e))
bare-tight r kind.Switch z e = absurd (differ (sym z ∙ e))
bare-tight r kind.LateTag z e = absurd (differ (sym z ∙ e))
bare-tight r kind.InitializedTag z e = absurd (differ (sym z ∙ e))
bare-tight r kind.Case z e = absurd (differ (sym z ∙ e))
bare-tight r kind.Default z e = absurd (differ (sym z ∙ e))
bare-tight r kind.For z e = absurd (differ (sym z ∙ e))
bare-tight r kind.ForClause z e = absurd (differ (sym z ∙ e))
bare-tight r kind.InitializedForClause z e = absurd (differ (sym z ∙ e))
bare-tight r kind.Range z e = absurd (differ (sym z ∙ e))
bare-tight r kind.AssigningRange z e = absurd (differ (sym z ∙ e))
bare-tight r kind.DefiningRange z e = absurd (differ (sym z ∙ e))
bare-tight r k z e = refl

bare-expression : (l : Level) (k : Kind) → nat_le (rank l) (tightness k) ≡ true → is_statement k ≡ false
bare-expression level.Either k e = bare-tight 1 k refl e
bare-expression level.Both k e = bare-tight 2 k refl e
bare-expression level.Comparison k e = bare-tight 3 k refl e
bare-expression level.Sum k e = bare-tight 4 k refl e
bare-expression level.Product k e = bare-tight 5 k refl e
bare-expression level.Unary k e = bare-tight 6 k refl e
bare-expression level.Primary k e = bare-tight 7 k refl e

bare-names : (k : Kind) → within category.NameList k ≡ true → is_statement k ≡ false
bare-names kind.NameList e = refl
bare-names k e = absurd (differ e)

bare-values : (k : Kind) → within category.ConstantRest k ≡ true → is_statement k ≡ false
bare-values kind.Values e = refl
bare-values kind.TypedValues e = refl
bare-values k e = absurd (differ e)

bare-rest : (k : Kind) → within category.VariableRest k ≡ true → is_statement k ≡ false
bare-rest kind.Values e = refl
bare-rest kind.TypedValues e = refl
bare-rest kind.Name e = refl
bare-rest kind.ParenthesizedType e = refl
bare-rest kind.SequenceType e = refl
bare-rest kind.FunctionType e = refl
bare-rest kind.StructType e = refl
bare-rest k e = absurd (differ e)

bare-list : (p : Place) (k : Kind) → within (category.ExpressionList p) k ≡ true → is_statement k ≡ false
bare-list p kind.ExpressionList e = refl
bare-list p k e = absurd (differ e)

bare-left : (p : Place) (k : Kind) → within (category.LeftList p) k ≡ true → is_statement k ≡ false
bare-left p kind.ExpressionList e = refl
bare-left p k e = absurd (differ e)

bare-targets : (p : Place) (k : Kind) → within (category.Targets p) k ≡ true → is_statement k ≡ false
bare-targets p kind.Targets e = refl
bare-targets p k e = absurd (differ e)

bare-new : (p : Place) (k : Kind) → within (category.NewNames p) k ≡ true → is_statement k ≡ false
bare-new p kind.NewNames e = refl
bare-new p k e = absurd (differ e)

bare-kind : (c : Category) (k : Kind) → is_bare c ≡ true → within c k ≡ true → is_statement k ≡ false
bare-kind category.NameList k b e = bare-names k e
bare-kind category.ConstantRest k b e = bare-values k e
bare-kind category.VariableRest k b e = bare-rest k e
bare-kind category.Type k b e = bare-type k e
bare-kind (category.Expression l p) k b e = bare-expression l k e
bare-kind (category.ExpressionList p) k b e = bare-list p k e
bare-kind (category.LeftList p) k b e = bare-left p k e
bare-kind (category.Targets p) k b e = bare-targets p k e
bare-kind (category.NewNames p) k b e = bare-new p k e
bare-kind c k b e = absurd (differ b)

pub shaped-bare : (c : Category) (t : Tree) → is_bare c ≡ true → IsShaped c t → is_statement (kind_of t) ≡ false
shaped-bare c (node k i j ps) b h = bare-kind c k b h.0

-- ---- rows of such parts

-- each part that is there is no statement
abbrev pub AreBare : Trees → Type 0
AreBare none = Unit {0}
AreBare (more p ps) = (is_statement (kind_of p) ≡ false) × AreBare ps
AreBare (skip ps) = AreBare ps

abbrev BareRule : Rule → Type 0
BareRule (End ws) = Unit {0}
BareRule (Then ws c r) = (is_bare c ≡ true) × BareRule r
BareRule (Maybe ws c r) = (is_bare c ≡ true) × BareRule r
BareRule (Unless ws c us r) = (is_bare c ≡ true) × BareRule r
BareRule (Many ws l) = is_bare (item l) ≡ true

row-bare : (r : Rule) (ps : Trees) → BareRule r → AreShaped r ps → AreBare ps
row-bare (End ws) none b h = tt
row-bare (End ws) (more p ps) b h = absurd h
row-bare (End ws) (skip ps) b h = absurd h
row-bare (Then ws c r) none b h = absurd h
row-bare (Then ws c r) (more p ps) b h = (shaped-bare c p b.0 h.0, row-bare r ps b.1 h.1)
row-bare (Then ws c r) (skip ps) b h = absurd h
row-bare (Maybe ws c r) none b h = absurd h
row-bare (Maybe ws c r) (more p ps) b h = (shaped-bare c p b.0 h.0, row-bare r ps b.1 h.1)
row-bare (Maybe ws c r) (skip ps) b h = row-bare r ps b.1 h
row-bare (Unless ws c us r) none b h = absurd h
row-bare (Unless ws c us r) (more p ps) b h = (shaped-bare c p b.0 h.0, row-bare r ps b.1 h.1)
row-bare (Unless ws c us r) (skip ps) b h = row-bare r ps b.1 h
row-bare (Many ws l) none b h = tt
row-bare (Many ws l) (more p ps) b h = (shaped-bare (item l) p b h.0, row-bare (Many ws l) ps b h.1)
row-bare (Many ws l) (skip ps) b h = absurd h

-- kinds of nodes that hold no statements
abbrev pub holds_none : Kind → Bool
holds_none (kind.Specification d) = true
holds_none kind.Return = true
holds_none kind.Break = true
holds_none kind.Continue = true
holds_none kind.Fallthrough = true
holds_none kind.ExpressionStatement = true
holds_none (kind.StepStatement o) = true
holds_none kind.Assignment = true
holds_none (kind.OperatorAssignment o) = true
holds_none kind.Define = true
holds_none kind.LateCondition = true
holds_none kind.LateTag = true
holds_none kind.Range = true
holds_none kind.AssigningRange = true
holds_none kind.DefiningRange = true
holds_none k = false

pub parts-bare : (p : Place) (k : Kind) (ps : Trees) → holds_none k ≡ true → AreShaped (rule p k) ps → AreBare ps
parts-bare p (kind.Specification declaring.Constant) ps e h = row-bare (rule p (kind.Specification declaring.Constant)) ps (refl, (refl, tt)) h
parts-bare p (kind.Specification declaring.Type) ps e h = row-bare (rule p (kind.Specification declaring.Type)) ps (refl, tt) h
parts-bare p (kind.Specification declaring.Variable) ps e h = row-bare (rule p (kind.Specification declaring.Variable)) ps (refl, (refl, tt)) h
parts-bare p kind.Return ps e h = row-bare (rule p kind.Return) ps (refl, tt) h
parts-bare p kind.Break ps e h = row-bare (rule p kind.Break) ps tt h
parts-bare p kind.Continue ps e h = row-bare (rule p kind.Continue) ps tt h
parts-bare p kind.Fallthrough ps e h = row-bare (rule p kind.Fallthrough) ps tt h
parts-bare p kind.ExpressionStatement ps e h = row-bare (rule p kind.ExpressionStatement) ps (refl, tt) h
parts-bare p (kind.StepStatement o) ps e h = row-bare (rule p (kind.StepStatement o)) ps (refl, tt) h
parts-bare p kind.Assignment ps e h = row-bare (rule p kind.Assignment) ps (refl, (refl, tt)) h
parts-bare p (kind.OperatorAssignment o) ps e h = row-bare (rule p (kind.OperatorAssignment o)) ps (refl, (refl, tt)) h
parts-bare p kind.Define ps e h = row-bare (rule p kind.Define) ps (refl, (refl, tt)) h
parts-bare p kind.LateCondition ps e h = row-bare (rule p kind.LateCondition) ps (refl, tt) h
parts-bare p kind.LateTag ps e h = row-bare (rule p kind.LateTag) ps (refl, tt) h
parts-bare p kind.Range ps e h = row-bare (rule p kind.Range) ps (refl, tt) h
parts-bare p kind.AssigningRange ps e h = row-bare (rule p kind.AssigningRange) ps (refl, (refl, tt)) h
parts-bare p kind.DefiningRange ps e h = row-bare (rule p kind.DefiningRange) ps (refl, (refl, tt)) h
parts-bare p k ps e h = absurd (differ e)
