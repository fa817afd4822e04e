-- Each kind of statement over its parts, and what it is where a category is asked for.
use Rattle.std.proofs.Common.{◌≡◌, ◌∙◌, ℕ, Bool, true, false, [], refl, sym, ap}
use Rattle.std.specs.Prelude.{◌&&◌}
use Rattle.go_grammar.specs.declared.kind.Category.{Category}
use Rattle.go_grammar.specs.declared.kind.Category.TheVariants as category
use Rattle.go_grammar.specs.declared.kind.Kind.{Kind}
use Rattle.go_grammar.specs.declared.kind.Kind.TheVariants as kind
use Rattle.go_grammar.specs.declared.kind.Sort.TheVariants as declaring
use Rattle.go_grammar.specs.Categories.{within, place_of}
use Rattle.go_grammar.specs.Grammar.{rule}
use Rattle.go_grammar.specs.Trees.{Tree, Trees, node}
use Rattle.go_exprs_rules.specs.Scopes.{Hint}
use Rattle.go_exprs_rules.specs.Settling.{Part}
use Rattle.go_exprs_rules.specs.Tables.{Parts}
use Rattle.go_stmts_defs.specs.Frames.{Frame}
use Rattle.go_stmts_defs.specs.Laying.{layout, form_by}
use Rattle.go_stmts_defs.specs.Reading.{is_statement}
use Rattle.go_stmts_defs.specs.Rules.{own_faults}
use Rattle.go_function_holes.proofs.Public.{Below, OfHole, differ}
use Rattle.go_function_holes_windows.proofs.Rows.{Fine, IsBare, IsOwn}
use Rattle.go_function_holes_windows.proofs.Read.{Declares, Headed, ReadAs, RowAs, Specifies}
use Rattle.go_function_holes_windows.proofs.Layouts as layouts
use Rattle.go_function_holes_windows.proofs.Layouts.{Unfailing, built-form, node_of}
use Rattle.go_function_holes_windows.proofs.Declarations as declarations
use Rattle.go_function_holes_windows.proofs.Declarations.{specification-declares}
use Rattle.go_function_holes_windows.proofs.Assignments as assignments
use Rattle.go_function_holes_windows.proofs.Loops as loops
use Rattle.go_function_holes_windows.proofs.Loops.{headed-fine, headed-weaker, is_assigning}
use Rattle.go_function_holes_windows.proofs.StatementKinds.{expression-statement, foreign, is_foreign}
use Rattle.go_function_holes_windows.proofs.Within.{Within, below, fine-within}

-- ---- by kinds

abbrev pub KindAs : OfHole → Kind → Part → Type 0
KindAs P (kind.Specification declaring.Constant) x = Specifies IsOwn x
KindAs P (kind.Specification declaring.Type) x = Specifies IsBare x
KindAs P (kind.Group declaring.Constant) x = Declares IsOwn x
KindAs P (kind.Group declaring.Type) x = Declares IsBare x
KindAs P kind.ForClause x = Headed P x
KindAs P kind.InitializedForClause x = Headed P x
KindAs P kind.Range x = Headed P x
KindAs P kind.AssigningRange x = Headed P x
KindAs P kind.DefiningRange x = Headed P x
KindAs P kind.FunctionDeclaration x = Unit {0}
KindAs P k x = Fine P x

module _ (o : Bool) (c : Category) (s : Frame) (h : Hint) (i j : ℕ) (ps : Trees) where
  abbrev P : Kind → OfHole
  P k = Below o c (node k i j ps)

  header : (k : Kind) (xs : Parts) → is_assigning (form_by k xs) ≡ false → Fine (P k) (node_of s k i j xs) → Headed (P k) (node_of s k i j xs)
  header k xs e h =
      let ys = layout s k i xs in
      headed-fine (P k) (node_of s k i j xs) (ap is_assigning (built-form s k (form_by k xs) i j ys (own_faults s k (form_by k xs) i j ys)) ∙ e) h

  pub node-as : (k : Kind) (xs : Parts) → is_statement k ≡ true → RowAs c k h ps (rule (place_of c) k) 0 [] xs → Unfailing s k i j xs → KindAs (P k) k (node_of s k i j xs)
  node-as kind.FunctionDeclaration xs m r u = tt
  node-as (kind.Declaration declaring.Constant) xs m r u = declarations.constants c s h i j ps (P (kind.Declaration declaring.Constant)) xs r u
  node-as (kind.Declaration declaring.Type) xs m r u = declarations.type_names c s h i j ps (P (kind.Declaration declaring.Type)) xs r u
  node-as (kind.Declaration declaring.Variable) xs m r u = layouts.variables o c s h i j ps xs r u
  node-as (kind.Group declaring.Constant) xs m r u = declarations.constants_group c s h i j ps xs r u
  node-as (kind.Group declaring.Type) xs m r u = declarations.types_group c s h i j ps xs r u
  node-as (kind.Group declaring.Variable) xs m r u = layouts.variables_group o c s h i j ps xs r u
  node-as (kind.Specification declaring.Constant) xs m r u = declarations.constants_specification c s h i j ps xs r u
  node-as (kind.Specification declaring.Type) xs m r u = declarations.types_specification c s h i j ps xs u
  node-as (kind.Specification declaring.Variable) xs m r u = declarations.variables_specification c s h i j ps o xs r u
  node-as kind.Block xs m r u = layouts.block o c s h i j ps xs r u
  node-as kind.Return xs m r u = layouts.returns_values o c s h i j ps xs r u
  node-as kind.Break xs m r u = layouts.broken o c s h i j ps xs r u
  node-as kind.Continue xs m r u = layouts.continued o c s h i j ps xs r u
  node-as kind.Fallthrough xs m r u = layouts.falling o c s h i j ps xs r u
  node-as kind.ExpressionStatement xs m r u = layouts.expression o c s h i j ps xs r u
  node-as (kind.StepStatement b) xs m r u = layouts.step o c s h i j ps b xs r u
  node-as kind.Assignment xs m r u = assignments.assignment o c s h i j ps xs r u
  node-as (kind.OperatorAssignment b) xs m r u = layouts.operates o c s h i j ps b xs r u
  node-as kind.Define xs m r u = assignments.define o c s h i j ps xs r u
  node-as kind.If xs m r u = layouts.branches o c s h i j ps xs r u
  node-as kind.Else xs m r u = layouts.otherwise o c s h i j ps xs r u
  node-as kind.LateCondition xs m r u = layouts.late_condition o c s h i j ps xs r u
  node-as kind.InitializedCondition xs m r u = layouts.initialized_condition o c s h i j ps xs r u
  node-as kind.Switch xs m r u = layouts.switches o c s h i j ps xs r u
  node-as kind.LateTag xs m r u = layouts.late_tag o c s h i j ps xs r u
  node-as kind.InitializedTag xs m r u = layouts.initialized_tag o c s h i j ps xs r u
  node-as kind.Case xs m r u = layouts.case_clause o c s h i j ps xs r u
  node-as kind.Default xs m r u = layouts.default_clause o c s h i j ps xs r u
  node-as kind.For xs m r u = loops.loop o c s h i j ps xs r u
  node-as kind.ForClause xs m r u = header kind.ForClause xs refl (layouts.for_clause o c s h i j ps xs r u)
  node-as kind.InitializedForClause xs m r u = header kind.InitializedForClause xs refl (layouts.initialized_for_clause o c s h i j ps xs r u)
  node-as kind.Range xs m r u = header kind.Range xs refl (layouts.ranges o c s h i j ps xs r u)
  node-as kind.AssigningRange xs m r u = loops.assigning_range o c s h i j ps xs r u
  node-as kind.DefiningRange xs m r u = header kind.DefiningRange xs refl (loops.defining_range o c s h i j ps xs r u)
  node-as k xs m r u = absurd (differ m)

-- ---- by categories

-- kinds of which more is known, or something else
abbrev is_special : Kind → Bool
is_special (kind.Specification declaring.Constant) = true
is_special (kind.Specification declaring.Type) = true
is_special (kind.Group declaring.Constant) = true
is_special (kind.Group declaring.Type) = true
is_special kind.ForClause = true
is_special kind.InitializedForClause = true
is_special kind.Range = true
is_special kind.AssigningRange = true
is_special kind.DefiningRange = true
is_special kind.FunctionDeclaration = true
is_special k = false

plain-kind : (P : OfHole) (k : Kind) (x : Part) → is_special k ≡ false → KindAs P k x → Fine P x
plain-kind P (kind.Specification declaring.Constant) x e h = absurd (differ (sym e))
plain-kind P (kind.Specification declaring.Type) x e h = absurd (differ (sym e))
plain-kind P (kind.Group declaring.Constant) x e h = absurd (differ (sym e))
plain-kind P (kind.Group declaring.Type) x e h = absurd (differ (sym e))
plain-kind P kind.ForClause x e h = absurd (differ (sym e))
plain-kind P kind.InitializedForClause x e h = absurd (differ (sym e))
plain-kind P kind.Range x e h = absurd (differ (sym e))
plain-kind P kind.AssigningRange x e h = absurd (differ (sym e))
plain-kind P kind.DefiningRange x e h = absurd (differ (sym e))
plain-kind P kind.FunctionDeclaration x e h = absurd (differ (sym e))
plain-kind P (kind.Specification declaring.Variable) x e h = h
plain-kind P (kind.Group declaring.Variable) x e h = h
plain-kind P k x e h = h

-- a special kind that the category has
abbrev special_in : Category → Kind → Bool
special_in c k = is_special k && within c k

none-behind : (b : Bool) → (b && false) ≡ false
none-behind true = refl
none-behind false = refl

block-kinds : (k : Kind) → special_in category.Block k ≡ false
block-kinds kind.Block = refl
block-kinds (kind.Group d) = none-behind (is_special (kind.Group d))
block-kinds (kind.Specification d) = none-behind (is_special (kind.Specification d))
block-kinds k = refl

else-kinds : (k : Kind) → special_in category.Else k ≡ false
else-kinds kind.Else = refl
else-kinds (kind.Group d) = none-behind (is_special (kind.Group d))
else-kinds (kind.Specification d) = none-behind (is_special (kind.Specification d))
else-kinds k = refl

branch-kinds : (k : Kind) → special_in category.Branch k ≡ false
branch-kinds kind.If = refl
branch-kinds (kind.Group d) = none-behind (is_special (kind.Group d))
branch-kinds (kind.Specification d) = none-behind (is_special (kind.Specification d))
branch-kinds k = refl

clause-kinds : (k : Kind) → special_in category.Clause k ≡ false
clause-kinds kind.Case = refl
clause-kinds (kind.Group d) = none-behind (is_special (kind.Group d))
clause-kinds (kind.Specification d) = none-behind (is_special (kind.Specification d))
clause-kinds k = refl

statement-kinds : (k : Kind) → special_in category.Statement k ≡ false
statement-kinds kind.Return = refl
statement-kinds (kind.Group d) = none-behind (is_special (kind.Group d))
statement-kinds (kind.Specification d) = none-behind (is_special (kind.Specification d))
statement-kinds k = refl

simple-kinds : (k : Kind) → special_in category.Simple k ≡ false
simple-kinds kind.Define = refl
simple-kinds (kind.Group d) = none-behind (is_special (kind.Group d))
simple-kinds (kind.Specification d) = none-behind (is_special (kind.Specification d))
simple-kinds k = refl

post-kinds : (k : Kind) → special_in category.Post k ≡ false
post-kinds kind.Assignment = refl
post-kinds (kind.Group d) = none-behind (is_special (kind.Group d))
post-kinds (kind.Specification d) = none-behind (is_special (kind.Specification d))
post-kinds k = refl

if-kinds : (k : Kind) → special_in category.IfHeader k ≡ false
if-kinds kind.LateCondition = refl
if-kinds (kind.Group d) = none-behind (is_special (kind.Group d))
if-kinds (kind.Specification d) = none-behind (is_special (kind.Specification d))
if-kinds k = refl

switch-kinds : (k : Kind) → special_in category.SwitchHeader k ≡ false
switch-kinds kind.LateTag = refl
switch-kinds (kind.Group d) = none-behind (is_special (kind.Group d))
switch-kinds (kind.Specification d) = none-behind (is_special (kind.Specification d))
switch-kinds k = refl

variable-kinds : (k : Kind) → special_in (category.Specification declaring.Variable) k ≡ false
variable-kinds (kind.Specification declaring.Constant) = refl
variable-kinds (kind.Specification declaring.Type) = refl
variable-kinds (kind.Specification declaring.Variable) = refl
variable-kinds (kind.Group d) = none-behind (is_special (kind.Group d))
variable-kinds k = refl

body-kinds : (k : Kind) → special_in (category.DeclarationBody declaring.Variable) k ≡ false
body-kinds (kind.Specification declaring.Constant) = refl
body-kinds (kind.Specification declaring.Type) = refl
body-kinds (kind.Specification declaring.Variable) = refl
body-kinds (kind.Group declaring.Constant) = refl
body-kinds (kind.Group declaring.Type) = refl
body-kinds (kind.Group declaring.Variable) = refl
body-kinds k = refl

first-false : (a b : Bool) → (a && b) ≡ false → b ≡ true → a ≡ false
first-false true b e f = absurd (differ (sym e ∙ f))
first-false false b e f = refl

none-both : {A : Type 0} (b : Bool) → b ≡ true → b ≡ false → A
none-both b e f = absurd (differ (sym f ∙ e))

constant-specification : (P : OfHole) (k : Kind) (x : Part) → within (category.Specification declaring.Constant) k ≡ true → KindAs P k x → Specifies IsOwn x
constant-specification P (kind.Specification declaring.Constant) x w h = h
constant-specification P (kind.Specification declaring.Variable) x w h = absurd (differ w)
constant-specification P (kind.Specification declaring.Type) x w h = absurd (differ w)
constant-specification P k x w h = absurd (differ w)

type-specification : (P : OfHole) (k : Kind) (x : Part) → within (category.Specification declaring.Type) k ≡ true → KindAs P k x → Specifies IsBare x
type-specification P (kind.Specification declaring.Type) x w h = h
type-specification P (kind.Specification declaring.Variable) x w h = absurd (differ w)
type-specification P (kind.Specification declaring.Constant) x w h = absurd (differ w)
type-specification P k x w h = absurd (differ w)

constant-body : (P : OfHole) (k : Kind) (x : Part) → within (category.DeclarationBody declaring.Constant) k ≡ true → KindAs P k x → Declares IsOwn x
constant-body P (kind.Specification declaring.Constant) x w h = specification-declares IsOwn x h
constant-body P (kind.Specification declaring.Variable) x w h = absurd (differ w)
constant-body P (kind.Specification declaring.Type) x w h = absurd (differ w)
constant-body P (kind.Group declaring.Constant) x w h = h
constant-body P (kind.Group declaring.Variable) x w h = absurd (differ w)
constant-body P (kind.Group declaring.Type) x w h = absurd (differ w)
constant-body P k x w h = absurd (differ w)

type-body : (P : OfHole) (k : Kind) (x : Part) → within (category.DeclarationBody declaring.Type) k ≡ true → KindAs P k x → Declares IsBare x
type-body P (kind.Specification declaring.Type) x w h = specification-declares IsBare x h
type-body P (kind.Specification declaring.Variable) x w h = absurd (differ w)
type-body P (kind.Specification declaring.Constant) x w h = absurd (differ w)
type-body P (kind.Group declaring.Type) x w h = h
type-body P (kind.Group declaring.Variable) x w h = absurd (differ w)
type-body P (kind.Group declaring.Constant) x w h = absurd (differ w)
type-body P k x w h = absurd (differ w)

loop-header : (P : OfHole) (k : Kind) (x : Part) → is_statement k ≡ true → within category.ForHeader k ≡ true → KindAs P k x → Headed P x
loop-header P kind.ForClause x m w h = h
loop-header P kind.InitializedForClause x m w h = h
loop-header P kind.Range x m w h = h
loop-header P kind.AssigningRange x m w h = h
loop-header P kind.DefiningRange x m w h = h
loop-header P k x m w h = none-both (is_statement k) m (expression-statement k w)

module _ (o : Bool) (g : Hint) (k : Kind) (i j : ℕ) (ps : Trees) (x : Part) (m : is_statement k ≡ true) where
  abbrev t : Tree
  t = node k i j ps

  plain-as : (c : Category) → special_in c k ≡ false → within c k ≡ true → KindAs (Below o c t) k x → Fine (Within o c t) x
  plain-as c e w h = fine-within o c t x (plain-kind (Below o c t) k x (first-false (is_special k) (within c k) e w) h)

  no-foreign : {A : Type 0} (c : Category) → is_foreign c ≡ true → within c k ≡ true → A
  no-foreign c e w = none-both (is_statement k) m (foreign c k e w)

  pub kind-as : (c : Category) → within c k ≡ true → KindAs (Below o c t) k x → ReadAs o c g t x
  kind-as (category.Expression l q) w h = no-foreign (category.Expression l q) refl w
  kind-as category.Type w h = no-foreign category.Type refl w
  kind-as category.DeclaredName w h = no-foreign category.DeclaredName refl w
  kind-as category.NameList w h = no-foreign category.NameList refl w
  kind-as (category.ExpressionList q) w h = no-foreign (category.ExpressionList q) refl w
  kind-as (category.LeftList q) w h = no-foreign (category.LeftList q) refl w
  kind-as (category.Targets q) w h = no-foreign (category.Targets q) refl w
  kind-as (category.NewNames q) w h = no-foreign (category.NewNames q) refl w
  kind-as category.VariableRest w h = no-foreign category.VariableRest refl w
  kind-as (category.Specification declaring.Constant) w h = constant-specification (Below o (category.Specification declaring.Constant) t) k x w h
  kind-as (category.Specification declaring.Type) w h = type-specification (Below o (category.Specification declaring.Type) t) k x w h
  kind-as (category.Specification declaring.Variable) w h = plain-as (category.Specification declaring.Variable) (variable-kinds k) w h
  kind-as (category.DeclarationBody declaring.Constant) w h = constant-body (Below o (category.DeclarationBody declaring.Constant) t) k x w h
  kind-as (category.DeclarationBody declaring.Type) w h = type-body (Below o (category.DeclarationBody declaring.Type) t) k x w h
  kind-as (category.DeclarationBody declaring.Variable) w h = plain-as (category.DeclarationBody declaring.Variable) (body-kinds k) w h
  kind-as category.ForHeader w h = λ v. headed-weaker (Below o category.ForHeader t) (Within o category.ForHeader t) (λ a b q. below q) x (loop-header (Below o category.ForHeader t) k x m w h)
  kind-as category.IfHeader w h = λ v. plain-as category.IfHeader (if-kinds k) w h
  kind-as category.SwitchHeader w h = λ v. plain-as category.SwitchHeader (switch-kinds k) w h
  kind-as category.Block w h = plain-as category.Block (block-kinds k) w h
  kind-as category.Else w h = plain-as category.Else (else-kinds k) w h
  kind-as category.Branch w h = plain-as category.Branch (branch-kinds k) w h
  kind-as category.Clause w h = plain-as category.Clause (clause-kinds k) w h
  kind-as category.Statement w h = plain-as category.Statement (statement-kinds k) w h
  kind-as category.Simple w h = plain-as category.Simple (simple-kinds k) w h
  kind-as category.Post w h = plain-as category.Post (post-kinds k) w h
  kind-as c w h = tt
