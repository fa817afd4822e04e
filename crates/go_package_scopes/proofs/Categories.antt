-- Which syntax trees may declare names, and where: the categories of statements, and of what declares nothing.
use Rattle.std.proofs.Common.{◌≡◌, Bool, true, false, refl}
use Rattle.std.specs.Prelude.{◌&&◌, ◌||◌}
use Rattle.go_grammar.specs.declared.kind.Kind.{Kind}
use Rattle.go_grammar.specs.declared.kind.Kind.TheVariants as kind
use Rattle.go_grammar.specs.declared.kind.Sort.TheVariants as declaring
use Rattle.go_grammar.specs.declared.kind.Category.{Category}
use Rattle.go_grammar.specs.declared.kind.Category.TheVariants as category
use Rattle.go_grammar.specs.declared.kind.Place.{Place}
use Rattle.go_grammar.specs.Categories.{within, is_expression}
use Rattle.go_grammar.specs.Grammar.{rule}
use Rattle.go_grammar.specs.Rules.{Rule, End, Then, Maybe, Unless, Many, item}
use Rattle.go_scopes_events.proofs.Public.{has_plain, is_plain}
use Rattle.go_stmts_defs.specs.Reading.{is_statement}
use Rattle.go_package_scopes.proofs.Roomed.{is_ranging, is_apart, is_silent, is_loop, is_clause}

pub never : {A : Type 0} → false ≡ true → A
never e = absurd (let z : false ≡ true = e in cc)

pub never_true : {A : Type 0} → true ≡ false → A
never_true e = absurd (let z : true ≡ false = e in cc)

-- ---- what declares nothing

pub plain_still : (k : Kind) → is_plain k ≡ true → is_statement k ≡ false
plain_still (kind.Declaration s) e = never e
plain_still (kind.Group s) e = never e
plain_still (kind.Specification s) e = never e
plain_still kind.FunctionDeclaration e = never e
plain_still kind.Block e = never e
plain_still kind.Return e = never e
plain_still kind.Break e = never e
plain_still kind.Continue e = never e
plain_still kind.Fallthrough e = never e
plain_still kind.ExpressionStatement e = never e
plain_still (kind.StepStatement o) e = never e
plain_still kind.Assignment e = never e
plain_still (kind.OperatorAssignment o) e = never e
plain_still kind.Define e = never e
plain_still kind.If e = never e
plain_still kind.Else e = never e
plain_still kind.LateCondition e = never e
plain_still kind.InitializedCondition e = never e
plain_still kind.Switch e = never e
plain_still kind.LateTag e = never e
plain_still kind.InitializedTag e = never e
plain_still kind.Case e = never e
plain_still kind.Default e = never e
plain_still kind.For e = never e
plain_still kind.ForClause e = never e
plain_still kind.InitializedForClause e = never e
plain_still kind.Range e = never e
plain_still kind.AssigningRange e = never e
plain_still kind.DefiningRange e = never e
plain_still k e = refl

pub still_plain : (k : Kind) → is_statement k ≡ false → is_apart k ≡ false → is_plain k ≡ true
still_plain (kind.Declaration d) s a = never_true s
still_plain (kind.Group d) s a = never_true s
still_plain (kind.Specification d) s a = never_true s
still_plain kind.FunctionDeclaration s a = never_true s
still_plain kind.Block s a = never_true s
still_plain kind.Return s a = never_true s
still_plain kind.Break s a = never_true s
still_plain kind.Continue s a = never_true s
still_plain kind.Fallthrough s a = never_true s
still_plain kind.ExpressionStatement s a = never_true s
still_plain (kind.StepStatement o) s a = never_true s
still_plain kind.Assignment s a = never_true s
still_plain (kind.OperatorAssignment o) s a = never_true s
still_plain kind.Define s a = never_true s
still_plain kind.If s a = never_true s
still_plain kind.Else s a = never_true s
still_plain kind.LateCondition s a = never_true s
still_plain kind.InitializedCondition s a = never_true s
still_plain kind.Switch s a = never_true s
still_plain kind.LateTag s a = never_true s
still_plain kind.InitializedTag s a = never_true s
still_plain kind.Case s a = never_true s
still_plain kind.Default s a = never_true s
still_plain kind.For s a = never_true s
still_plain kind.ForClause s a = never_true s
still_plain kind.InitializedForClause s a = never_true s
still_plain kind.Range s a = never_true s
still_plain kind.AssigningRange s a = never_true s
still_plain kind.DefiningRange s a = never_true s
still_plain kind.File s a = never_true a
still_plain kind.Imports s a = never_true a
still_plain kind.Import s a = never_true a
still_plain kind.ImportPath s a = never_true a
still_plain kind.ImportGroup s a = never_true a
still_plain k s a = refl

pub plain_inside : (k : Kind) → is_plain k ≡ true → is_apart k ≡ false
plain_inside kind.Range e = never e
plain_inside kind.AssigningRange e = never e
plain_inside kind.DefiningRange e = never e
plain_inside (kind.Group declaring.Constant) e = never e
plain_inside (kind.Group declaring.Type) e = never e
plain_inside (kind.Specification declaring.Constant) e = never e
plain_inside (kind.Specification declaring.Type) e = never e
plain_inside kind.FunctionDeclaration e = never e
plain_inside kind.File e = never e
plain_inside kind.Imports e = never e
plain_inside kind.Import e = never e
plain_inside kind.ImportPath e = never e
plain_inside kind.ImportGroup e = never e
plain_inside k e = refl

-- ---- statements, and what holds them

abbrev pub is_calm : Category → Bool
is_calm category.Statement = true
is_calm category.Simple = true
is_calm category.Post = true
is_calm category.IfHeader = true
is_calm category.SwitchHeader = true
is_calm category.Block = true
is_calm category.Else = true
is_calm category.Branch = true
is_calm category.Clause = true
is_calm (category.DeclarationBody declaring.Variable) = true
is_calm (category.Specification declaring.Variable) = true
is_calm c = false

statement_calm : (k : Kind) → within category.Statement k ≡ true → is_apart k ≡ false
statement_calm kind.Range e = never e
statement_calm kind.AssigningRange e = never e
statement_calm kind.DefiningRange e = never e
statement_calm (kind.Group declaring.Constant) e = never e
statement_calm (kind.Group declaring.Type) e = never e
statement_calm (kind.Specification declaring.Constant) e = never e
statement_calm (kind.Specification declaring.Type) e = never e
statement_calm kind.FunctionDeclaration e = never e
statement_calm kind.File e = never e
statement_calm kind.Imports e = never e
statement_calm kind.Import e = never e
statement_calm kind.ImportPath e = never e
statement_calm kind.ImportGroup e = never e
statement_calm k e = refl

simple_calm : (k : Kind) → within category.Simple k ≡ true → is_apart k ≡ false
simple_calm kind.Range e = never e
simple_calm kind.AssigningRange e = never e
simple_calm kind.DefiningRange e = never e
simple_calm (kind.Group declaring.Constant) e = never e
simple_calm (kind.Group declaring.Type) e = never e
simple_calm (kind.Specification declaring.Constant) e = never e
simple_calm (kind.Specification declaring.Type) e = never e
simple_calm kind.FunctionDeclaration e = never e
simple_calm kind.File e = never e
simple_calm kind.Imports e = never e
simple_calm kind.Import e = never e
simple_calm kind.ImportPath e = never e
simple_calm kind.ImportGroup e = never e
simple_calm k e = refl

post_calm : (k : Kind) → within category.Post k ≡ true → is_apart k ≡ false
post_calm kind.Range e = never e
post_calm kind.AssigningRange e = never e
post_calm kind.DefiningRange e = never e
post_calm (kind.Group declaring.Constant) e = never e
post_calm (kind.Group declaring.Type) e = never e
post_calm (kind.Specification declaring.Constant) e = never e
post_calm (kind.Specification declaring.Type) e = never e
post_calm kind.FunctionDeclaration e = never e
post_calm kind.File e = never e
post_calm kind.Imports e = never e
post_calm kind.Import e = never e
post_calm kind.ImportPath e = never e
post_calm kind.ImportGroup e = never e
post_calm k e = refl

if_header_calm : (k : Kind) → within category.IfHeader k ≡ true → is_apart k ≡ false
if_header_calm kind.Range e = never e
if_header_calm kind.AssigningRange e = never e
if_header_calm kind.DefiningRange e = never e
if_header_calm (kind.Group declaring.Constant) e = never e
if_header_calm (kind.Group declaring.Type) e = never e
if_header_calm (kind.Specification declaring.Constant) e = never e
if_header_calm (kind.Specification declaring.Type) e = never e
if_header_calm kind.FunctionDeclaration e = never e
if_header_calm kind.File e = never e
if_header_calm kind.Imports e = never e
if_header_calm kind.Import e = never e
if_header_calm kind.ImportPath e = never e
if_header_calm kind.ImportGroup e = never e
if_header_calm k e = refl

switch_header_calm : (k : Kind) → within category.SwitchHeader k ≡ true → is_apart k ≡ false
switch_header_calm kind.Range e = never e
switch_header_calm kind.AssigningRange e = never e
switch_header_calm kind.DefiningRange e = never e
switch_header_calm (kind.Group declaring.Constant) e = never e
switch_header_calm (kind.Group declaring.Type) e = never e
switch_header_calm (kind.Specification declaring.Constant) e = never e
switch_header_calm (kind.Specification declaring.Type) e = never e
switch_header_calm kind.FunctionDeclaration e = never e
switch_header_calm kind.File e = never e
switch_header_calm kind.Imports e = never e
switch_header_calm kind.Import e = never e
switch_header_calm kind.ImportPath e = never e
switch_header_calm kind.ImportGroup e = never e
switch_header_calm k e = refl

block_calm : (k : Kind) → within category.Block k ≡ true → is_apart k ≡ false
block_calm kind.Range e = never e
block_calm kind.AssigningRange e = never e
block_calm kind.DefiningRange e = never e
block_calm (kind.Group declaring.Constant) e = never e
block_calm (kind.Group declaring.Type) e = never e
block_calm (kind.Specification declaring.Constant) e = never e
block_calm (kind.Specification declaring.Type) e = never e
block_calm kind.FunctionDeclaration e = never e
block_calm kind.File e = never e
block_calm kind.Imports e = never e
block_calm kind.Import e = never e
block_calm kind.ImportPath e = never e
block_calm kind.ImportGroup e = never e
block_calm k e = refl

else_calm : (k : Kind) → within category.Else k ≡ true → is_apart k ≡ false
else_calm kind.Range e = never e
else_calm kind.AssigningRange e = never e
else_calm kind.DefiningRange e = never e
else_calm (kind.Group declaring.Constant) e = never e
else_calm (kind.Group declaring.Type) e = never e
else_calm (kind.Specification declaring.Constant) e = never e
else_calm (kind.Specification declaring.Type) e = never e
else_calm kind.FunctionDeclaration e = never e
else_calm kind.File e = never e
else_calm kind.Imports e = never e
else_calm kind.Import e = never e
else_calm kind.ImportPath e = never e
else_calm kind.ImportGroup e = never e
else_calm k e = refl

branch_calm : (k : Kind) → within category.Branch k ≡ true → is_apart k ≡ false
branch_calm kind.Range e = never e
branch_calm kind.AssigningRange e = never e
branch_calm kind.DefiningRange e = never e
branch_calm (kind.Group declaring.Constant) e = never e
branch_calm (kind.Group declaring.Type) e = never e
branch_calm (kind.Specification declaring.Constant) e = never e
branch_calm (kind.Specification declaring.Type) e = never e
branch_calm kind.FunctionDeclaration e = never e
branch_calm kind.File e = never e
branch_calm kind.Imports e = never e
branch_calm kind.Import e = never e
branch_calm kind.ImportPath e = never e
branch_calm kind.ImportGroup e = never e
branch_calm k e = refl

clause_calm : (k : Kind) → within category.Clause k ≡ true → is_apart k ≡ false
clause_calm kind.Range e = never e
clause_calm kind.AssigningRange e = never e
clause_calm kind.DefiningRange e = never e
clause_calm (kind.Group declaring.Constant) e = never e
clause_calm (kind.Group declaring.Type) e = never e
clause_calm (kind.Specification declaring.Constant) e = never e
clause_calm (kind.Specification declaring.Type) e = never e
clause_calm kind.FunctionDeclaration e = never e
clause_calm kind.File e = never e
clause_calm kind.Imports e = never e
clause_calm kind.Import e = never e
clause_calm kind.ImportPath e = never e
clause_calm kind.ImportGroup e = never e
clause_calm k e = refl

body_calm : (k : Kind) → within (category.DeclarationBody declaring.Variable) k ≡ true → is_apart k ≡ false
body_calm kind.Range e = never e
body_calm kind.AssigningRange e = never e
body_calm kind.DefiningRange e = never e
body_calm (kind.Group declaring.Constant) e = never e
body_calm (kind.Group declaring.Type) e = never e
body_calm (kind.Specification declaring.Constant) e = never e
body_calm (kind.Specification declaring.Type) e = never e
body_calm kind.FunctionDeclaration e = never e
body_calm kind.File e = never e
body_calm kind.Imports e = never e
body_calm kind.Import e = never e
body_calm kind.ImportPath e = never e
body_calm kind.ImportGroup e = never e
body_calm k e = refl

specification_calm : (k : Kind) → within (category.Specification declaring.Variable) k ≡ true → is_apart k ≡ false
specification_calm kind.Range e = never e
specification_calm kind.AssigningRange e = never e
specification_calm kind.DefiningRange e = never e
specification_calm (kind.Group declaring.Constant) e = never e
specification_calm (kind.Group declaring.Type) e = never e
specification_calm (kind.Specification declaring.Constant) e = never e
specification_calm (kind.Specification declaring.Type) e = never e
specification_calm kind.FunctionDeclaration e = never e
specification_calm kind.File e = never e
specification_calm kind.Imports e = never e
specification_calm kind.Import e = never e
specification_calm kind.ImportPath e = never e
specification_calm kind.ImportGroup e = never e
specification_calm k e = refl

pub calm_inside : (c : Category) (k : Kind) → is_calm c ≡ true → within c k ≡ true → is_apart k ≡ false
calm_inside category.Statement k e h = statement_calm k h
calm_inside category.Simple k e h = simple_calm k h
calm_inside category.Post k e h = post_calm k h
calm_inside category.IfHeader k e h = if_header_calm k h
calm_inside category.SwitchHeader k e h = switch_header_calm k h
calm_inside category.Block k e h = block_calm k h
calm_inside category.Else k e h = else_calm k h
calm_inside category.Branch k e h = branch_calm k h
calm_inside category.Clause k e h = clause_calm k h
calm_inside (category.DeclarationBody declaring.Variable) k e h = body_calm k h
calm_inside (category.Specification declaring.Variable) k e h = specification_calm k h
calm_inside c k e h = never e

-- a part of which more isn't known
abbrev pub is_known : Category → Bool
is_known c = has_plain c || is_calm c

abbrev pub all_known : Rule → Bool
all_known (End ws) = true
all_known (Then ws c r) = is_known c && all_known r
all_known (Maybe ws c r) = is_known c && all_known r
all_known (Unless ws c us r) = is_known c && all_known r
all_known (Many ws l) = is_known (item l)

abbrev pub is_naming : Kind → Bool
is_naming kind.Define = true
is_naming (kind.Specification s) = true
is_naming k = false

pub rule_known : (p : Place) (k : Kind) → is_statement k ≡ true → is_silent k ≡ false → is_loop k ≡ false → is_apart k ≡ false → all_known (rule p k) ≡ true
rule_known p (kind.Declaration declaring.Variable) e s l a = refl
rule_known p (kind.Group declaring.Variable) e s l a = refl
rule_known p (kind.Specification declaring.Variable) e s l a = refl
rule_known p kind.Block e s l a = refl
rule_known p kind.Return e s l a = refl
rule_known p kind.Break e s l a = refl
rule_known p kind.Continue e s l a = refl
rule_known p kind.Fallthrough e s l a = refl
rule_known p kind.ExpressionStatement e s l a = refl
rule_known p (kind.StepStatement o) e s l a = refl
rule_known p kind.Assignment e s l a = refl
rule_known p (kind.OperatorAssignment o) e s l a = refl
rule_known p kind.Define e s l a = refl
rule_known p kind.If e s l a = refl
rule_known p kind.Else e s l a = refl
rule_known p kind.LateCondition e s l a = refl
rule_known p kind.InitializedCondition e s l a = refl
rule_known p kind.Switch e s l a = refl
rule_known p kind.LateTag e s l a = refl
rule_known p kind.InitializedTag e s l a = refl
rule_known p kind.Case e s l a = refl
rule_known p kind.Default e s l a = refl
rule_known p kind.ForClause e s l a = refl
rule_known p kind.InitializedForClause e s l a = refl
rule_known p (kind.Declaration declaring.Constant) e s l a = never_true s
rule_known p (kind.Declaration declaring.Type) e s l a = never_true s
rule_known p kind.For e s l a = never_true l
rule_known p kind.Range e s l a = never_true a
rule_known p kind.AssigningRange e s l a = never_true a
rule_known p kind.DefiningRange e s l a = never_true a
rule_known p (kind.Group declaring.Constant) e s l a = never_true a
rule_known p (kind.Group declaring.Type) e s l a = never_true a
rule_known p (kind.Specification declaring.Constant) e s l a = never_true a
rule_known p (kind.Specification declaring.Type) e s l a = never_true a
rule_known p kind.FunctionDeclaration e s l a = never_true a
rule_known p k e s l a = never e

-- ---- headers of loops

pub header_expression : (k : Kind) → within category.ForHeader k ≡ true → is_ranging k ≡ false → is_clause k ≡ false → is_expression k ≡ true
header_expression kind.ForClause e r c = never_true c
header_expression kind.InitializedForClause e r c = never_true c
header_expression kind.Range e r c = never_true r
header_expression kind.AssigningRange e r c = never_true r
header_expression kind.DefiningRange e r c = never_true r
header_expression k e r c = e

pub expression_plain : (k : Kind) → is_expression k ≡ true → is_plain k ≡ true
expression_plain kind.Name e = refl
expression_plain kind.Integer e = refl
expression_plain kind.Rune e = refl
expression_plain kind.Text e = refl
expression_plain kind.Parenthesized e = refl
expression_plain kind.Selector e = refl
expression_plain kind.Bracketed e = refl
expression_plain kind.Call e = refl
expression_plain kind.Composite e = refl
expression_plain kind.SequenceType e = refl
expression_plain kind.FunctionType e = refl
expression_plain kind.StructType e = refl
expression_plain (kind.Unary s) e = refl
expression_plain (kind.Binary o) e = refl
expression_plain k e = never e
