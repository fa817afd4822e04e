-- Which kinds of nodes are read as statements, by the categories that are asked for.
use Rattle.std.proofs.Common.{◌≡◌, ◌∙◌, Bool, true, false, refl, sym}
use Rattle.std.specs.Prelude.{◌&&◌}
use Rattle.go_grammar.specs.declared.kind.Category.{Category}
use Rattle.go_grammar.specs.declared.kind.Category.TheVariants as category
use Rattle.go_grammar.specs.declared.kind.Kind.{Kind}
use Rattle.go_grammar.specs.declared.kind.Kind.TheVariants as kind
use Rattle.go_grammar.specs.declared.kind.Place.{Place}
use Rattle.go_grammar.specs.declared.kind.Sort.{Sort}
use Rattle.go_grammar.specs.Categories.{within, is_type, is_expression}
use Rattle.go_grammar.specs.Rules.{Rule, End, Then, Maybe, Unless, Many, item}
use Rattle.go_grammar.specs.Grammar.{rule}
use Rattle.go_grammar.specs.Trees.{Tree, Trees}
use Rattle.go_grammar.specs.Trees as syntax
use Rattle.go_rewriting.specs.Replacing.{next_category, next_rule}
use Rattle.go_exprs_rules.specs.Tables.{is_placed}
use Rattle.go_stmts_defs.specs.Reading.{is_list, is_declared_name, is_statement}
use Rattle.go_stmts_final_types.specs.Shapes.{AreShaped}
use Rattle.go_function_holes.proofs.Public.{differ, expression-kind}

-- ---- what isn't read as a statement

-- what no statement is
abbrev pub is_foreign : Category → Bool
is_foreign (category.Expression l q) = true
is_foreign category.Type = true
is_foreign category.DeclaredName = true
is_foreign category.NameList = true
is_foreign (category.ExpressionList q) = true
is_foreign (category.LeftList q) = true
is_foreign (category.Targets q) = true
is_foreign (category.NewNames q) = true
is_foreign category.VariableRest = true
is_foreign category.ConstantRest = true
is_foreign c = false

-- a kind that is both
abbrev both_are : Category → Kind → Bool
both_are c k = is_statement k && within c k

type-foreign : (k : Kind) → both_are category.Type k ≡ false
type-foreign kind.Name = refl
type-foreign k = refl

declared-foreign : (k : Kind) → both_are category.DeclaredName k ≡ false
declared-foreign kind.DeclaredName = refl
declared-foreign k = refl

names-foreign : (k : Kind) → both_are category.NameList k ≡ false
names-foreign kind.NameList = refl
names-foreign k = refl

list-foreign : (q : Place) (k : Kind) → both_are (category.ExpressionList q) k ≡ false
list-foreign q kind.ExpressionList = refl
list-foreign q k = refl

left-foreign : (q : Place) (k : Kind) → both_are (category.LeftList q) k ≡ false
left-foreign q kind.ExpressionList = refl
left-foreign q k = refl

targets-foreign : (q : Place) (k : Kind) → both_are (category.Targets q) k ≡ false
targets-foreign q kind.Targets = refl
targets-foreign q k = refl

new-foreign : (q : Place) (k : Kind) → both_are (category.NewNames q) k ≡ false
new-foreign q kind.NewNames = refl
new-foreign q k = refl

rest-foreign : (k : Kind) → both_are category.VariableRest k ≡ false
rest-foreign kind.Values = refl
rest-foreign k = refl

constant-foreign : (k : Kind) → both_are category.ConstantRest k ≡ false
constant-foreign kind.Values = refl
constant-foreign k = refl

expression-plain : (k : Kind) → (is_statement k && is_expression k) ≡ false
expression-plain kind.Name = refl
expression-plain k = refl

not-first : (a b : Bool) → (a && b) ≡ false → b ≡ true → a ≡ false
not-first true b e f = absurd (differ (sym e ∙ f))
not-first false b e f = refl

pub expression-statement : (k : Kind) → is_expression k ≡ true → is_statement k ≡ false
expression-statement k e = not-first (is_statement k) (is_expression k) (expression-plain k) e

pub foreign : (c : Category) (k : Kind) → is_foreign c ≡ true → within c k ≡ true → is_statement k ≡ false
foreign (category.Expression l q) k e w = expression-statement k (expression-kind l k w)
foreign category.Type k e w = not-first (is_statement k) (within category.Type k) (type-foreign k) w
foreign category.DeclaredName k e w = not-first (is_statement k) (within category.DeclaredName k) (declared-foreign k) w
foreign category.NameList k e w = not-first (is_statement k) (within category.NameList k) (names-foreign k) w
foreign (category.ExpressionList q) k e w = not-first (is_statement k) (within (category.ExpressionList q) k) (list-foreign q k) w
foreign (category.LeftList q) k e w = not-first (is_statement k) (within (category.LeftList q) k) (left-foreign q k) w
foreign (category.Targets q) k e w = not-first (is_statement k) (within (category.Targets q) k) (targets-foreign q k) w
foreign (category.NewNames q) k e w = not-first (is_statement k) (within (category.NewNames q) k) (new-foreign q k) w
foreign category.VariableRest k e w = not-first (is_statement k) (within category.VariableRest k) (rest-foreign k) w
foreign category.ConstantRest k e w = not-first (is_statement k) (within category.ConstantRest k) (constant-foreign k) w
foreign c k e w = absurd (differ e)

-- ---- lists

abbrev pub HeldRule : Rule → Type 0
HeldRule (End ws) = Unit {0}
HeldRule (Then ws d r) = (is_foreign d ≡ true) × HeldRule r
HeldRule (Maybe ws d r) = (is_foreign d ≡ true) × HeldRule r
HeldRule (Unless ws d us r) = (is_foreign d ≡ true) × HeldRule r
HeldRule (Many ws l) = is_foreign (item l) ≡ true

pub held-more : (r : Rule) (p : Tree) (ps : Trees) → AreShaped r (syntax.more p ps) → HeldRule r → (is_foreign (next_category r) ≡ true) × HeldRule (next_rule r)
held-more (End ws) p ps w e = absurd w
held-more (Then ws d r) p ps w e = e
held-more (Maybe ws d r) p ps w e = e
held-more (Unless ws d us r) p ps w e = e
held-more (Many ws l) p ps w e = (e, e)

pub held-skip : (r : Rule) (ps : Trees) → AreShaped r (syntax.skip ps) → HeldRule r → HeldRule (next_rule r)
held-skip (End ws) ps w e = absurd w
held-skip (Then ws d r) ps w e = absurd w
held-skip (Maybe ws d r) ps w e = e.1
held-skip (Unless ws d us r) ps w e = e.1
held-skip (Many ws l) ps w e = absurd w

pub list-rule : (q : Place) (k : Kind) → is_list k ≡ true → HeldRule (rule q k)
list-rule q kind.NameList e = (refl, refl)
list-rule q kind.NewNames e = (refl, tt)
list-rule q kind.Targets e = (refl, tt)
list-rule q kind.ExpressionList e = (refl, refl)
list-rule q kind.TypedValues e = (refl, (refl, tt))
list-rule q kind.Values e = (refl, tt)
list-rule q k e = absurd (differ e)

-- ---- expressions and types

pub expression-unlisted : (k : Kind) → is_expression k ≡ true → is_list k ≡ false
expression-unlisted kind.NameList e = absurd (differ e)
expression-unlisted kind.NewNames e = absurd (differ e)
expression-unlisted kind.Targets e = absurd (differ e)
expression-unlisted kind.ExpressionList e = absurd (differ e)
expression-unlisted kind.TypedValues e = absurd (differ e)
expression-unlisted kind.Values e = absurd (differ e)
expression-unlisted k e = refl

pub expression-undeclared : (k : Kind) → is_expression k ≡ true → is_declared_name k ≡ false
expression-undeclared kind.DeclaredName e = absurd (differ e)
expression-undeclared k e = refl

pub type-unlisted : (k : Kind) → is_type k ≡ true → is_list k ≡ false
type-unlisted kind.Name e = refl
type-unlisted kind.ParenthesizedType e = refl
type-unlisted kind.SequenceType e = refl
type-unlisted kind.FunctionType e = refl
type-unlisted kind.StructType e = refl
type-unlisted k e = absurd (differ e)

pub type-undeclared : (k : Kind) → is_type k ≡ true → is_declared_name k ≡ false
type-undeclared kind.Name e = refl
type-undeclared kind.ParenthesizedType e = refl
type-undeclared kind.SequenceType e = refl
type-undeclared kind.FunctionType e = refl
type-undeclared kind.StructType e = refl
type-undeclared k e = absurd (differ e)

pub type-placed : (k : Kind) → is_type k ≡ true → is_placed k ≡ true
type-placed kind.Name e = refl
type-placed kind.ParenthesizedType e = refl
type-placed kind.SequenceType e = refl
type-placed kind.FunctionType e = refl
type-placed kind.StructType e = refl
type-placed k e = absurd (differ e)

-- ---- headers

pub if-expression : (k : Kind) → within category.IfHeader k ≡ true → is_statement k ≡ false → is_expression k ≡ true
if-expression kind.LateCondition w m = absurd (differ (sym m))
if-expression kind.InitializedCondition w m = absurd (differ (sym m))
if-expression k w m = w

pub switch-expression : (k : Kind) → within category.SwitchHeader k ≡ true → is_statement k ≡ false → is_expression k ≡ true
switch-expression kind.LateTag w m = absurd (differ (sym m))
switch-expression kind.InitializedTag w m = absurd (differ (sym m))
switch-expression k w m = w

pub for-expression : (k : Kind) → within category.ForHeader k ≡ true → is_statement k ≡ false → is_expression k ≡ true
for-expression kind.ForClause w m = absurd (differ (sym m))
for-expression kind.InitializedForClause w m = absurd (differ (sym m))
for-expression kind.Range w m = absurd (differ (sym m))
for-expression kind.AssigningRange w m = absurd (differ (sym m))
for-expression kind.DefiningRange w m = absurd (differ (sym m))
for-expression k w m = w

-- ---- what only statements are

block-read : (k : Kind) → within category.Block k ≡ true → is_statement k ≡ true
block-read kind.Block w = refl
block-read k w = absurd (differ w)

else-read : (k : Kind) → within category.Else k ≡ true → is_statement k ≡ true
else-read kind.Else w = refl
else-read k w = absurd (differ w)

branch-read : (k : Kind) → within category.Branch k ≡ true → is_statement k ≡ true
branch-read kind.If w = refl
branch-read kind.Block w = refl
branch-read k w = absurd (differ w)

clause-read : (k : Kind) → within category.Clause k ≡ true → is_statement k ≡ true
clause-read kind.Case w = refl
clause-read kind.Default w = refl
clause-read k w = absurd (differ w)

body-read : (d : Sort) (k : Kind) → within (category.DeclarationBody d) k ≡ true → is_statement k ≡ true
body-read d (kind.Specification t) w = refl
body-read d (kind.Group t) w = refl
body-read d k w = absurd (differ w)

specification-read : (d : Sort) (k : Kind) → within (category.Specification d) k ≡ true → is_statement k ≡ true
specification-read d (kind.Specification t) w = refl
specification-read d k w = absurd (differ w)

post-read : (k : Kind) → within category.Post k ≡ true → is_statement k ≡ true
post-read kind.ExpressionStatement w = refl
post-read (kind.StepStatement b) w = refl
post-read kind.Assignment w = refl
post-read (kind.OperatorAssignment b) w = refl
post-read k w = absurd (differ w)

simple-read : (k : Kind) → within category.Simple k ≡ true → is_statement k ≡ true
simple-read kind.ExpressionStatement w = refl
simple-read (kind.StepStatement b) w = refl
simple-read kind.Assignment w = refl
simple-read (kind.OperatorAssignment b) w = refl
simple-read kind.Define w = refl
simple-read k w = absurd (differ w)

statement-read : (k : Kind) → within category.Statement k ≡ true → is_statement k ≡ true
statement-read (kind.Declaration d) w = refl
statement-read kind.Return w = refl
statement-read kind.Break w = refl
statement-read kind.Continue w = refl
statement-read kind.Fallthrough w = refl
statement-read kind.Block w = refl
statement-read kind.If w = refl
statement-read kind.Switch w = refl
statement-read kind.For w = refl
statement-read kind.ExpressionStatement w = refl
statement-read (kind.StepStatement b) w = refl
statement-read kind.Assignment w = refl
statement-read (kind.OperatorAssignment b) w = refl
statement-read kind.Define w = refl
statement-read k w = absurd (differ w)

-- statements and parts of them that aren't expressions
abbrev pub is_sentence : Category → Bool
is_sentence category.Block = true
is_sentence category.Else = true
is_sentence category.Branch = true
is_sentence category.Clause = true
is_sentence (category.DeclarationBody d) = true
is_sentence (category.Specification d) = true
is_sentence category.Statement = true
is_sentence category.Simple = true
is_sentence category.Post = true
is_sentence c = false

pub sentence-read : (c : Category) (k : Kind) → is_sentence c ≡ true → within c k ≡ true → is_statement k ≡ true
sentence-read category.Block k e w = block-read k w
sentence-read category.Else k e w = else-read k w
sentence-read category.Branch k e w = branch-read k w
sentence-read category.Clause k e w = clause-read k w
sentence-read (category.DeclarationBody d) k e w = body-read d k w
sentence-read (category.Specification d) k e w = specification-read d k w
sentence-read category.Statement k e w = statement-read k w
sentence-read category.Simple k e w = simple-read k w
sentence-read category.Post k e w = post-read k w
sentence-read c k e w = absurd (differ e)
