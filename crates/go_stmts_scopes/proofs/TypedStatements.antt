-- Simple statements are read as such.
use Rattle.std.proofs.Common.{◌≡◌, ℕ, Bool, true, false, List, [], ◌∷◌, ◌++◌, Option, Some, None, refl, sym, subst}
use Rattle.std.specs.Prelude.{if◌then◌else◌, nat_lt}
use Rattle.go_grammar.specs.declared.kind.Kind.{Kind}
use Rattle.go_grammar.specs.declared.kind.Kind.TheVariants as kind
use Rattle.go_grammar.specs.Categories.{is_expression}
use Rattle.go_grammar.specs.Grammar.{count}
use Rattle.go_grammar.specs.Trees.{Tree, node, Trees, kind_of}
use Rattle.go_grammar.specs.Trees as syntax
use Rattle.go_typed.specs.declared.form.Form.{Form}
use Rattle.go_typed.specs.Trees.{typed}
use Rattle.go_exprs_rules.specs.declared.fault.TypeFault.{TypeFault}
use Rattle.go_exprs_rules.specs.Scopes.{Hint, value, several, target, free}
use Rattle.go_exprs_rules.specs.Settling.{Part}
use Rattle.go_exprs_rules.specs.Tables.{Parts, held, all_held}
use Rattle.go_exprs_rules.specs.Typing.{typing}
use Rattle.go_stmts_defs.specs.Assigning.{Taking, takes, stands}
use Rattle.go_stmts_defs.specs.Frames.{Frame, scope_of}
use Rattle.go_stmts_defs.specs.Laying.{alone_or_value, told, form_by, layout, without_absent}
use Rattle.go_stmts_defs.specs.Reading.{Found, is_list, is_declared_name, list_node, name_node, holding, holdings, held_faults, entering, beginning, Reading, read, Readings, all_read, is_statement, closed, after, reading, readings}
use Rattle.go_stmts_defs.specs.Rules.{own_faults, given_part, all_given, taking, built_by}
use Rattle.go_stmts_scopes.specs.Runs.{IsExpression, HasBrackets}
use Rattle.go_stmts_scopes.specs.Scoped.{is_use}
use Rattle.go_stmts_scopes.specs.Statements.{tree_in, is_simple, IsSimple, AllOperands, IsOperandList, AllOperandLists, IsTargetList, IsSimpleTree}
use Rattle.go_stmts_scopes.proofs.Typed.{AllRun, row_runs, one_more, held_parts, given_runs, typing_runs}

-- ---- readings

abbrev pub faults_in : Reading → Found
faults_in (read x fs s) = fs

abbrev pub frame_in : Reading → Frame
frame_in (read x fs s) = s

abbrev pub parts_in : Readings → Parts
parts_in (all_read xs fs s) = xs

pub after_read : (r : Reading) (next : Part → Found → Frame → Readings) → after r next ≡ next (tree_in r) (faults_in r) (frame_in r)
after_read (read x fs s) next = refl

-- ---- what parts take

pub part_runs : (k : Taking) (x : Part) → IsExpression x → IsExpression (given_part k x)
part_runs (takes k) x h = given_runs k x h
part_runs (stands y) (typed f i j l ps) h = h

pub all_take : (ks : List Taking) (xs : Parts) → AllRun xs → AllRun (all_given ks xs)
all_take [] xs h = h
all_take (k ∷ ks) [] h = tt
all_take (k ∷ ks) (None ∷ xs) h = all_take ks xs h
all_take (k ∷ ks) (Some x ∷ xs) h = (part_runs k x h.0, all_take ks xs h.1)

built_simple : (s : Frame) (k : Kind) (f : Form) (i j : ℕ) (ys : Parts) (es : List TypeFault) → is_simple f ≡ true → AllRun ys → IsSimple (built_by s k f i j ys es)
built_simple s k f i j ys [] e h = (refl, e, row_runs (all_given (taking s k f ys) ys) (all_take (taking s k f ys) ys h))
built_simple s k f i j ys (x ∷ es) e h = (refl, e, row_runs ys h)

-- ---- operands

pub no_list : (k : Kind) → is_expression k ≡ true → is_list k ≡ false
no_list kind.NameList e = cc
no_list kind.NewNames e = cc
no_list kind.Targets e = cc
no_list kind.ExpressionList e = cc
no_list kind.TypedValues e = cc
no_list kind.Values e = cc
no_list k e = refl

pub no_name : (k : Kind) → is_expression k ≡ true → is_declared_name k ≡ false
no_name kind.DeclaredName e = cc
no_name k e = refl

pub no_statement : (k : Kind) → is_expression k ≡ true → is_statement k ≡ false
no_statement kind.FunctionDeclaration e = cc
no_statement (kind.Declaration d) e = cc
no_statement (kind.Group d) e = cc
no_statement (kind.Specification d) e = cc
no_statement kind.Block e = cc
no_statement kind.Return e = cc
no_statement kind.Break e = cc
no_statement kind.Continue e = cc
no_statement kind.Fallthrough e = cc
no_statement kind.ExpressionStatement e = cc
no_statement (kind.StepStatement o) e = cc
no_statement kind.Assignment e = cc
no_statement (kind.OperatorAssignment o) e = cc
no_statement kind.Define e = cc
no_statement kind.If e = cc
no_statement kind.Else e = cc
no_statement kind.LateCondition e = cc
no_statement kind.InitializedCondition e = cc
no_statement kind.Switch e = cc
no_statement kind.LateTag e = cc
no_statement kind.InitializedTag e = cc
no_statement kind.Case e = cc
no_statement kind.Default e = cc
no_statement kind.For e = cc
no_statement kind.ForClause e = cc
no_statement kind.InitializedForClause e = cc
no_statement kind.Range e = cc
no_statement kind.AssigningRange e = cc
no_statement kind.DefiningRange e = cc
no_statement k e = refl

pub operand_held : (s : Frame) (h : Hint) (t : Tree) → is_expression (kind_of t) ≡ true → is_use h ≡ true → HasBrackets t → IsExpression (holding s h t)
operand_held s h (node k i j ps) x e g =
    subst (λ b. IsExpression (if b then list_node s k i j (layout s k i (holdings s k h ps [] ps)) else (if is_declared_name k then name_node s i j else typing (scope_of s) h (node k i j ps)))) (sym (no_list k x))
    (subst (λ b. IsExpression (if b then name_node s i j else typing (scope_of s) h (node k i j ps))) (sym (no_name k x)) (typing_runs (scope_of s) h (node k i j ps) e g))

pub operand_read : (s : Frame) (h : Hint) (t : Tree) → is_expression (kind_of t) ≡ true → is_use h ≡ true → HasBrackets t → IsExpression (tree_in (reading s h t))
operand_read s h (node k i j ps) x e g =
    subst (λ b. IsExpression (tree_in (if b then closed s k i j ps (readings (beginning k i s) k h ps [] [] ps) else read (holding s h (node k i j ps)) (held_faults s h (node k i j ps)) s))) (sym (no_statement k x))
    (operand_held s h (node k i j ps) x e g)

-- the operands of a node that tells all of them so
operands_read : (s : Frame) (k : Kind) (h : Hint) (all : Trees) (xs : Parts) (fs : Found) (ps : Trees) → ((ys : Parts) (n : Kind) → is_use (told k h all ys n) ≡ true) → AllRun xs → AllOperands ps
    → AllRun (parts_in (readings s k h all xs fs ps))
operands_read s k h all xs fs syntax.none u x g = x
operands_read s k h all xs fs (syntax.more p ps) u x g =
    let r : Reading = reading (entering k xs s) (told k h all xs (kind_of p)) p in
    subst (λ z. AllRun (parts_in z)) (sym (after_read r (λ y gs t. readings t k h all (xs ++ Some y ∷ []) (fs ++ gs) ps)))
    (operands_read (frame_in r) k h all (xs ++ Some (tree_in r) ∷ []) (fs ++ faults_in r) ps u (one_more xs (tree_in r) x (operand_read (entering k xs s) (told k h all xs (kind_of p)) p g.0 (u xs (kind_of p)) g.1)) g.2)
operands_read s k h all xs fs (syntax.skip ps) u x g = absurd g

-- ---- lists of operands

pub use_list : (ps : Trees) (h : Hint) → is_use h ≡ true → is_use (alone_or_value ps h) ≡ true
use_list ps several e = by (nat_lt 1 (count ps))
  where
    by : (b : Bool) → is_use (if b then value else several) ≡ true
    by true = refl
    by false = refl
use_list ps h e = e

operands_held : (s : Frame) (h : Hint) (all : Trees) (xs : Parts) (ps : Trees) → is_use h ≡ true → AllRun xs → AllOperands ps → AllRun (holdings s kind.ExpressionList h all xs ps)
operands_held s h all xs syntax.none e x g = x
operands_held s h all xs (syntax.more p ps) e x g =
    let q : Part = holding s (alone_or_value all h) p in
    operands_held s h all (xs ++ Some q ∷ []) ps e (one_more xs q x (operand_held s (alone_or_value all h) p g.0 (use_list all h e) g.1)) g.2
operands_held s h all xs (syntax.skip ps) e x g = absurd g

-- what a holder holds
abbrev pub HoldsRun : Part → Type 0
HoldsRun x = AllRun (held (Some x))

pub list_held : (s : Frame) (h : Hint) (t : Tree) → IsOperandList t → is_use h ≡ true → HoldsRun (holding s h t)
list_held s h (node kind.ExpressionList i j ps) g e = held_parts (holdings s kind.ExpressionList h ps [] ps) (operands_held s h ps [] ps e tt g)
list_held s h (node k i j ps) g e = absurd g

pub list_read : (s : Frame) (h : Hint) (t : Tree) → IsOperandList t → is_use h ≡ true → HoldsRun (tree_in (reading s h t))
list_read s h (node kind.ExpressionList i j ps) g e = list_held s h (node kind.ExpressionList i j ps) g e
list_read s h (node k i j ps) g e = absurd g

-- so it is with all of them
abbrev pub AllHold : Parts → Type 0
AllHold [] = Unit {0}
AllHold (None ∷ xs) = AllHold xs
AllHold (Some x ∷ xs) = HoldsRun x × AllHold xs

pub run_append : (xs ys : Parts) → AllRun xs → AllRun ys → AllRun (xs ++ ys)
run_append [] ys h g = g
run_append (None ∷ xs) ys h g = run_append xs ys h g
run_append (Some x ∷ xs) ys h g = (h.0, run_append xs ys h.1 g)

pub all_held_run : (xs : Parts) → AllHold xs → AllRun (all_held xs)
all_held_run [] h = tt
all_held_run (None ∷ xs) h = all_held_run xs h
all_held_run (Some x ∷ xs) h = run_append (held (Some x)) (all_held xs) h.0 (all_held_run xs h.1)

one_holds : (xs : Parts) (x : Part) → AllHold xs → HoldsRun x → AllHold (xs ++ Some x ∷ [])
one_holds [] x h e = (e, tt)
one_holds (None ∷ xs) x h e = one_holds xs x h e
one_holds (Some y ∷ xs) x h e = (h.0, one_holds xs x h.1 e)

pub absent_run : (xs : Parts) → AllRun xs → AllRun (without_absent xs)
absent_run [] h = tt
absent_run (None ∷ xs) h = absent_run xs h
absent_run (Some x ∷ xs) h = (h.0, absent_run xs h.1)

lists_held : (s : Frame) (h : Hint) (all : Trees) (xs : Parts) (ps : Trees) → AllHold xs → AllOperandLists ps → AllHold (holdings s kind.Targets h all xs ps)
lists_held s h all xs syntax.none x g = x
lists_held s h all xs (syntax.more p ps) x g = let q : Part = holding s target p in lists_held s h all (xs ++ Some q ∷ []) ps (one_holds xs q x (list_held s target p g.0 refl)) g.1
lists_held s h all xs (syntax.skip ps) x g = absurd g

pub targets_read : (s : Frame) (h : Hint) (t : Tree) → IsTargetList t → HoldsRun (tree_in (reading s h t))
targets_read s h (node kind.Targets i j ps) g = held_parts (all_held (holdings s kind.Targets h ps [] ps)) (all_held_run (holdings s kind.Targets h ps [] ps) (lists_held s h ps [] ps tt g))
targets_read s h (node k i j ps) g = absurd g

-- the lists behind the first part
lists_read : (s : Frame) (k : Kind) (h : Hint) (all : Trees) (x : Option Part) (xs : Parts) (fs : Found) (ps : Trees) → ((ys : Parts) (n : Kind) → is_use (told k h all (x ∷ ys) n) ≡ true) → AllHold (x ∷ xs) → AllOperandLists ps
    → AllHold (parts_in (readings s k h all (x ∷ xs) fs ps))
lists_read s k h all x xs fs syntax.none u y g = y
lists_read s k h all x xs fs (syntax.more p ps) u y g =
    let r : Reading = reading (entering k (x ∷ xs) s) (told k h all (x ∷ xs) (kind_of p)) p in
    subst (λ z. AllHold (parts_in z)) (sym (after_read r (λ q gs t. readings t k h all (x ∷ (xs ++ Some q ∷ [])) (fs ++ gs) ps)))
    (lists_read (frame_in r) k h all x (xs ++ Some (tree_in r) ∷ []) (fs ++ faults_in r) ps u
    (one_holds (x ∷ xs) (tree_in r) y (list_read (entering k (x ∷ xs) s) (told k h all (x ∷ xs) (kind_of p)) p g.0 (u xs (kind_of p)))) g.1)
lists_read s k h all x xs fs (syntax.skip ps) u y g = absurd g

-- ---- statements

-- the tree of a node over its parts
closed_simple : (before : Frame) (k : Kind) (i j : ℕ) (ps : Trees) (r : Readings) → is_simple (form_by k (parts_in r)) ≡ true → ((s : Frame) → AllRun (layout s k i (parts_in r))) → IsSimple (tree_in (closed before k i j ps r))
closed_simple before k i j ps (all_read xs fs s) e h = built_simple s k (form_by k xs) i j (layout s k i xs) (own_faults s k (form_by k xs) i j (layout s k i xs)) e (h s)

pub reading_simple : (s : Frame) (h : Hint) (t : Tree) → IsSimpleTree t → IsSimple (tree_in (reading s h t))
reading_simple s h (node kind.ExpressionStatement i j ps) g =
    let r : Readings = readings s kind.ExpressionStatement h ps [] [] ps in
    closed_simple s kind.ExpressionStatement i j ps r refl (λ t. operands_read s kind.ExpressionStatement h ps [] [] ps (λ ys n. refl) tt g)
reading_simple s h (node (kind.StepStatement o) i j ps) g =
    let r : Readings = readings s (kind.StepStatement o) h ps [] [] ps in
    closed_simple s (kind.StepStatement o) i j ps r refl (λ t. operands_read s (kind.StepStatement o) h ps [] [] ps (λ ys n. refl) tt g)
reading_simple s h (node (kind.OperatorAssignment o) i j ps) g =
    let r : Readings = readings s (kind.OperatorAssignment o) h ps [] [] ps in
    closed_simple s (kind.OperatorAssignment o) i j ps r refl (λ t. operands_read s (kind.OperatorAssignment o) h ps [] [] ps (λ ys n. refl) tt g)
reading_simple s h (node kind.Assignment i j (syntax.more t ps)) g =
    let all : Trees = syntax.more t ps in
    let q : Reading = reading s free t in
    let next : Part → Found → Frame → Readings = λ x gs f. readings f kind.Assignment h all (Some x ∷ []) gs ps in
    let r : Readings = readings s kind.Assignment h all [] [] all in
    let held : AllHold (parts_in r) =
    subst (λ z. AllHold (parts_in z)) (sym (after_read q next)) (lists_read (frame_in q) kind.Assignment h all (Some (tree_in q)) [] (faults_in q) ps (λ ys n. refl) (targets_read s free t g.0, tt) g.1) in
    closed_simple s kind.Assignment i j all r refl (λ f. all_held_run (parts_in r) held)
reading_simple s h (node kind.Return i j syntax.none) g = closed_simple s kind.Return i j syntax.none (readings s kind.Return h syntax.none [] [] syntax.none) refl (λ f. tt)
reading_simple s h (node kind.Return i j (syntax.skip syntax.none)) g =
    closed_simple s kind.Return i j (syntax.skip syntax.none) (readings s kind.Return h (syntax.skip syntax.none) [] [] (syntax.skip syntax.none)) refl (λ f. tt)
reading_simple s h (node kind.Return i j (syntax.more t ps)) g =
    let all : Trees = syntax.more t ps in
    let q : Reading = reading s several t in
    let next : Part → Found → Frame → Readings = λ x gs f. readings f kind.Return h all (Some x ∷ []) gs ps in
    let r : Readings = readings s kind.Return h all [] [] all in
    let held : AllHold (parts_in r) =
    subst (λ z. AllHold (parts_in z)) (sym (after_read q next)) (lists_read (frame_in q) kind.Return h all (Some (tree_in q)) [] (faults_in q) ps (λ ys n. refl) (list_read s several t g.0 refl, tt) g.1) in
    closed_simple s kind.Return i j all r refl (λ f. absent_run (all_held (parts_in r)) (all_held_run (parts_in r) held))
reading_simple s h (node k i j ps) g = absurd g
