-- Each statement of a function, and the function, is read as one of the shape that evaluation asks for.
use Rattle.std.proofs.Common.{◌≡◌, inl, ℕ, true, false, List, [], ◌∷◌, ◌++◌, Option, Some, None, refl, sym, subst}
use Rattle.go_grammar.specs.declared.kind.Kind.{Kind}
use Rattle.go_grammar.specs.Trees.{Tree, node, Trees, kind_of}
use Rattle.go_grammar.specs.declared.kind.Category.TheVariants as category
use Rattle.go_grammar.specs.declared.kind.Kind.TheVariants as kind
use Rattle.go_grammar.specs.declared.kind.Place.TheVariants as place
use Rattle.go_grammar.specs.declared.kind.Sort.TheVariants as declaring
use Rattle.go_grammar.specs.Trees as syntax
use Rattle.go_typed.specs.Trees.{typed, row}
use Rattle.go_typed.specs.declared.form.Form.TheVariants as form
use Rattle.go_exprs_rules.specs.declared.fault.TypeFault.{TypeFault}
use Rattle.go_exprs_rules.specs.Scopes.{Hint, value}
use Rattle.go_exprs_rules.specs.Settling.{Part, default}
use Rattle.go_exprs_rules.specs.Tables.{Parts, held, all_held}
use Rattle.go_stmts_defs.specs.Frames.{Frame}
use Rattle.go_stmts_defs.specs.Laying.{told, layout, specifications, switch_parts, first_count, header_parts}
use Rattle.go_stmts_defs.specs.Reading.{Found, entering, Reading, reading, readings}
use Rattle.go_stmts_defs.specs.Rules.{built_by}
use Rattle.go_stmts_final_types.specs.Shapes.{IsShaped}
use Rattle.go_stmts_scopes.specs.Shapes.{IsFirst, IsStatement, IsElse, IsClause, IsFunction}
use Rattle.go_stmts_scopes.specs.Statements.{tree_in}
use Rattle.go_stmts_scopes.proofs.Derivations.{AllShaped, many_shaped, list_shaped, simple_tree, return_tree}
use Rattle.go_stmts_scopes.proofs.Simple.{more_shape, closed_shape, list_row, define_read}
use Rattle.go_stmts_scopes.proofs.Typed.{given_runs}
use Rattle.go_stmts_scopes.proofs.TypedStatements.{faults_in, frame_in, parts_in, after_read, reading_simple}
use Rattle.go_stmts_scopes.proofs.Variables.{variables_read}
use Rattle.go_stmts_scopes.proofs.Headers.{FirstOr, OperandOr, IsCondition, IsTag, condition_read, tag_read}
use Rattle.go_stmts_scopes.proofs.Rows.{AllStated, row_stated, one_stated, simple_statement, if_row, block_row, values_read, case_row, default_row, IsBehind, AllClauses, one_clause, clauses_row}
use Rattle.go_stmts_scopes.proofs.Loops.{IsLoopHeader, IsBody, header_read, header_row, endless_row, HoldsValues}
use Rattle.go_stmts_scopes.proofs.Never.{never}

pub first_statement : (x : Part) → IsFirst x → IsStatement x
first_statement (typed (form.Define n) i j l ps) h = h
first_statement (typed form.Expression i j l ps) h = (h.0, h.2)
first_statement (typed (form.Step o) i j l ps) h = (h.0, h.2)
first_statement (typed (form.Assign n) i j l ps) h = (h.0, h.2)
first_statement (typed (form.Operate o) i j l ps) h = (h.0, h.2)
first_statement (typed f i j l ps) h = let z : false ≡ true = h.1 in cc

-- ---- rows

pub switch_row : (s : Frame) (i j : ℕ) (x : Part) (cs : Parts) (es : List TypeFault) → IsTag x → AllClauses cs → IsStatement (built_by s kind.Switch form.Switch i j (header_parts (Some x) ++ cs) es)
switch_row s i j x cs es t h = subst (λ ys. IsStatement (built_by s kind.Switch form.Switch i j (ys ++ cs) es)) (sym t.parts) (by t.first t.tag es t.may t.is)
  where
    by : (f c : Option Part) (es : List TypeFault) → FirstOr f → OperandOr c → IsStatement (built_by s kind.Switch form.Switch i j (f ∷ c ∷ cs) es)
    by None None [] m u = (refl, clauses_row cs h)
    by None None (e ∷ es) m u = (refl, clauses_row cs h)
    by None (Some c) [] m u = (refl, (given_runs default c u, clauses_row cs h))
    by None (Some c) (e ∷ es) m u = (refl, (u, clauses_row cs h))
    by (Some f) None [] m u = (refl, (m, clauses_row cs h))
    by (Some f) None (e ∷ es) m u = (refl, (m, clauses_row cs h))
    by (Some f) (Some c) [] m u = (refl, (m, (given_runs default c u, clauses_row cs h)))
    by (Some f) (Some c) (e ∷ es) m u = (refl, (m, (u, clauses_row cs h)))

pub bare_switch : (s : Frame) (i j : ℕ) (cs : Parts) (es : List TypeFault) → AllClauses cs → IsStatement (built_by s kind.Switch form.Switch i j (None ∷ None ∷ cs) es)
bare_switch s i j cs [] h = (refl, clauses_row cs h)
bare_switch s i j cs (e ∷ es) h = (refl, clauses_row cs h)

pub block_tail : (s : Frame) (i j : ℕ) (xs : Parts) (es : List TypeFault) → AllStated xs → IsBody (built_by s kind.Block form.Block i j xs es)
block_tail s i j xs [] h = (refl, (refl, row_stated xs h))
block_tail s i j xs (e ∷ es) h = (refl, (refl, row_stated xs h))

pub else_row : (s : Frame) (i j : ℕ) (b : Part) (es : List TypeFault) → IsBody b → IsElse (row (held (Some (built_by s kind.Else (form.Held kind.Else) i j (Some b ∷ []) es))))
else_row s i j b [] h = h
else_row s i j b (e ∷ es) h = h

pub branch_row : (s : Frame) (i j : ℕ) (ys : Parts) (es : List TypeFault) → IsStatement (built_by s kind.If form.If i j ys es) → IsBody (built_by s kind.If form.If i j ys es)
branch_row s i j ys [] h = (refl, h)
branch_row s i j ys (e ∷ es) h = (refl, h)

pub variables_done : (s : Frame) (i j : ℕ) (xs : Parts) (es : List TypeFault) → AllStated xs → IsStatement (built_by s (kind.Declaration declaring.Variable) form.Variables i j xs es)
variables_done s i j xs [] h = (refl, row_stated xs h)
variables_done s i j xs (e ∷ es) h = (refl, row_stated xs h)

pub constants_done : (s : Frame) (i j : ℕ) (xs : Parts) (es : List TypeFault) → IsStatement (built_by s (kind.Declaration declaring.Constant) form.Constants i j xs es)
constants_done s i j xs [] = refl
constants_done s i j xs (e ∷ es) = refl

pub types_done : (s : Frame) (i j : ℕ) (xs : Parts) (es : List TypeFault) → IsStatement (built_by s (kind.Declaration declaring.Type) form.TypeNames i j xs es)
types_done s i j xs [] = refl
types_done s i j xs (e ∷ es) = refl

pub break_done : (s : Frame) (i j : ℕ) (xs : Parts) (es : List TypeFault) → IsStatement (built_by s kind.Break form.Break i j xs es)
break_done s i j xs [] = refl
break_done s i j xs (e ∷ es) = refl

pub continue_done : (s : Frame) (i j : ℕ) (xs : Parts) (es : List TypeFault) → IsStatement (built_by s kind.Continue form.Continue i j xs es)
continue_done s i j xs [] = refl
continue_done s i j xs (e ∷ es) = refl

pub fallthrough_done : (s : Frame) (i j : ℕ) (xs : Parts) (es : List TypeFault) → IsStatement (built_by s kind.Fallthrough form.Fallthrough i j xs es)
fallthrough_done s i j xs [] = refl
fallthrough_done s i j xs (e ∷ es) = refl

pub function_row : (s : Frame) (i j : ℕ) (b : Part) (es : List TypeFault) → IsStatement b → IsFunction (built_by s kind.FunctionDeclaration form.Function i j (Some b ∷ []) es)
function_row s i j b [] h = (refl, (h, tt))
function_row s i j b (e ∷ es) h = (refl, (h, tt))

pub bodiless_row : (s : Frame) (i j : ℕ) (es : List TypeFault) → IsFunction (built_by s kind.FunctionDeclaration form.Function i j [] es)
bodiless_row s i j [] = (refl, tt)
bodiless_row s i j (e ∷ es) = (refl, tt)

-- ---- groups of variables

pub variables_group : (s : Frame) (h : Hint) (all : Trees) (xs : Parts) (fs : Found) (ps : Trees) → AllShaped (category.Specification declaring.Variable) ps → AllStated xs
    → AllStated (parts_in (readings s (kind.Group declaring.Variable) h all xs fs ps))
variables_group s h all xs fs syntax.none g e = e
variables_group s h all xs fs (syntax.more p ps) g e =
    let r : Reading = reading s value p in
    subst (λ z. AllStated (parts_in z)) (sym (after_read r (λ x gs t. readings t (kind.Group declaring.Variable) h all (xs ++ Some x ∷ []) (fs ++ gs) ps)))
    (variables_group (frame_in r) h all (xs ++ Some (tree_in r) ∷ []) (fs ++ faults_in r) ps g.1 (one_stated xs (tree_in r) e (variables_read s value p g.0).0))
variables_group s h all xs fs (syntax.skip ps) g e = absurd g

-- the specifications of a declaration
abbrev pub HasSpecifications : Part → Type 0
HasSpecifications x = AllStated (specifications (Some x ∷ []))

pub one_specification : (x : Part) → IsStatement x → HasSpecifications x
one_specification (typed (form.Held k) i j l ps) h = absurd h
one_specification (typed f i j l ps) h = (h, tt)

pub group_row : (s : Frame) (i j : ℕ) (xs : Parts) (es : List TypeFault) → AllStated xs → HasSpecifications (built_by s (kind.Group declaring.Variable) (form.Held (kind.Group declaring.Variable)) i j xs es)
group_row s i j xs [] h = subst AllStated (sym (list_row xs)) h
group_row s i j xs (e ∷ es) h = subst AllStated (sym (list_row xs)) h

pub body_read : (s : Frame) (h : Hint) (t : Tree) → IsShaped (category.DeclarationBody declaring.Variable) t → HasSpecifications (tree_in (reading s h t))
body_read s h (node (kind.Specification declaring.Variable) i j ps) g =
    let t : Tree = node (kind.Specification declaring.Variable) i j ps in one_specification (tree_in (reading s h t)) (variables_read s h t (refl, g.1, g.2)).0
body_read s h (node (kind.Group declaring.Variable) i j ps) g =
    closed_shape HasSpecifications s (kind.Group declaring.Variable) i j ps (readings s (kind.Group declaring.Variable) h ps [] [] ps)
    (λ u es. group_row u i j (parts_in (readings s (kind.Group declaring.Variable) h ps [] [] ps)) es (variables_group s h ps [] [] ps (many_shaped _ _ ps g.1) tt))
body_read s h (node k i j ps) g = absurd (never g.0)

-- ---- statements

abbrev pub HasElse : Part → Type 0
HasElse x = IsElse (row (held (Some x)))

mutual
  pub statement_read : (s : Frame) (h : Hint) (t : Tree) → IsShaped category.Statement t → IsStatement (tree_in (reading s h t))
  statement_read s h (node kind.ExpressionStatement i j ps) g = let t : Tree = node kind.ExpressionStatement i j ps in simple_statement (tree_in (reading s h t)) (reading_simple s h t (simple_tree category.Statement t refl g))
  statement_read s h (node (kind.StepStatement o) i j ps) g = let t : Tree = node (kind.StepStatement o) i j ps in simple_statement (tree_in (reading s h t)) (reading_simple s h t (simple_tree category.Statement t refl g))
  statement_read s h (node (kind.OperatorAssignment o) i j ps) g = let t : Tree = node (kind.OperatorAssignment o) i j ps in simple_statement (tree_in (reading s h t)) (reading_simple s h t (simple_tree category.Statement t refl g))
  statement_read s h (node kind.Assignment i j ps) g = let t : Tree = node kind.Assignment i j ps in simple_statement (tree_in (reading s h t)) (reading_simple s h t (simple_tree category.Statement t refl g))
  statement_read s h (node kind.Return i j ps) g = let t : Tree = node kind.Return i j ps in simple_statement (tree_in (reading s h t)) (reading_simple s h t (return_tree category.Statement i j ps g))
  statement_read s h (node kind.Define i j ps) g = first_statement (tree_in (reading s h (node kind.Define i j ps))) (define_read category.Statement s h i j ps g)
  statement_read s h (node kind.Break i j ps) g = closed_shape IsStatement s kind.Break i j ps (readings s kind.Break h ps [] [] ps) (λ u es. break_done u i j (layout u kind.Break i (parts_in (readings s kind.Break h ps [] [] ps))) es)
  statement_read s h (node kind.Continue i j ps) g = closed_shape IsStatement s kind.Continue i j ps (readings s kind.Continue h ps [] [] ps)
      (λ u es. continue_done u i j (layout u kind.Continue i (parts_in (readings s kind.Continue h ps [] [] ps))) es)
  statement_read s h (node kind.Fallthrough i j ps) g = closed_shape IsStatement s kind.Fallthrough i j ps (readings s kind.Fallthrough h ps [] [] ps)
      (λ u es. fallthrough_done u i j (layout u kind.Fallthrough i (parts_in (readings s kind.Fallthrough h ps [] [] ps))) es)
  statement_read s h (node (kind.Declaration declaring.Constant) i j ps) g =
      closed_shape IsStatement s (kind.Declaration declaring.Constant) i j ps (readings s (kind.Declaration declaring.Constant) h ps [] [] ps)
      (λ u es. constants_done u i j (layout u (kind.Declaration declaring.Constant) i (parts_in (readings s (kind.Declaration declaring.Constant) h ps [] [] ps))) es)
  statement_read s h (node (kind.Declaration declaring.Type) i j ps) g = closed_shape IsStatement s (kind.Declaration declaring.Type) i j ps (readings s (kind.Declaration declaring.Type) h ps [] [] ps)
      (λ u es. types_done u i j (layout u (kind.Declaration declaring.Type) i (parts_in (readings s (kind.Declaration declaring.Type) h ps [] [] ps))) es)
  statement_read s h (node (kind.Declaration declaring.Variable) i j (syntax.more d syntax.none)) g =
      let k : Kind = kind.Declaration declaring.Variable in
      let all : Trees = syntax.more d syntax.none in
      more_shape IsStatement HasSpecifications s k h i j all s [] [] d syntax.none (body_read s value d g.1.0)
      (λ x gs t x1. closed_shape IsStatement s k i j all (readings t k h all (Some x ∷ []) gs syntax.none) (λ u es. variables_done u i j (specifications (Some x ∷ [])) es x1))
  statement_read s h (node (kind.Declaration declaring.Variable) i j syntax.none) g = absurd g.1
  statement_read s h (node (kind.Declaration declaring.Variable) i j (syntax.skip ps)) g = absurd g.1
  statement_read s h (node (kind.Declaration declaring.Variable) i j (syntax.more d (syntax.more y ps))) g = absurd g.1.1
  statement_read s h (node (kind.Declaration declaring.Variable) i j (syntax.more d (syntax.skip ps))) g = absurd g.1.1
  statement_read s h (node kind.Block i j ps) g = closed_shape IsStatement s kind.Block i j ps (readings s kind.Block h ps [] [] ps)
      (λ u es. block_row u i j (parts_in (readings s kind.Block h ps [] [] ps)) es (statements_read s kind.Block h ps [] [] ps (many_shaped _ _ ps g.1) tt))
  statement_read s h (node kind.If i j (syntax.more c (syntax.more b (syntax.more e syntax.none)))) g =
      let all : Trees = syntax.more c (syntax.more b (syntax.more e syntax.none)) in
      more_shape IsStatement IsCondition s kind.If h i j all s [] [] c (syntax.more b (syntax.more e syntax.none)) (condition_read s value c refl g.1.0)
      (λ x gs t x1. more_shape IsStatement IsBody s kind.If h i j all t (Some x ∷ []) gs b (syntax.more e syntax.none) (block_read t value b g.1.1.0)
      (λ y fs u y1. more_shape IsStatement HasElse s kind.If h i j all u (Some x ∷ Some y ∷ []) (gs ++ fs) e syntax.none (else_read u value e g.1.1.1.0)
      (λ z ks v z1. closed_shape IsStatement s kind.If i j all (readings v kind.If h all (Some x ∷ Some y ∷ Some z ∷ []) ((gs ++ fs) ++ ks) syntax.none) (λ w es. if_row w i j x y (Some z) es x1 y1 z1))))
  statement_read s h (node kind.If i j (syntax.more c (syntax.more b (syntax.skip syntax.none)))) g =
      let all : Trees = syntax.more c (syntax.more b (syntax.skip syntax.none)) in
      more_shape IsStatement IsCondition s kind.If h i j all s [] [] c (syntax.more b (syntax.skip syntax.none)) (condition_read s value c refl g.1.0)
      (λ x gs t x1. more_shape IsStatement IsBody s kind.If h i j all t (Some x ∷ []) gs b (syntax.skip syntax.none) (block_read t value b g.1.1.0)
      (λ y fs u y1. closed_shape IsStatement s kind.If i j all (readings u kind.If h all (Some x ∷ Some y ∷ []) (gs ++ fs) (syntax.skip syntax.none)) (λ w es. if_row w i j x y None es x1 y1 tt)))
  statement_read s h (node kind.Switch i j (syntax.more c ps)) g =
      let all : Trees = syntax.more c ps in
      more_shape IsStatement IsTag s kind.Switch h i j all s [] [] c ps (tag_read s value c refl g.1.0)
      (λ x gs t x1. let r = clauses_read t h all (Some x) [] gs ps (many_shaped _ _ ps g.1.1) tt in
      closed_shape IsStatement s kind.Switch i j all (readings t kind.Switch h all (Some x ∷ []) gs ps)
      (λ u es. subst (λ ys. IsStatement (built_by u kind.Switch form.Switch i j (switch_parts ys) es)) (sym r.is) (switch_row u i j x r.rest es x1 r.has)))
  statement_read s h (node kind.Switch i j (syntax.skip ps)) g =
      let all : Trees = syntax.skip ps in
      let r = clauses_read s h all None [] [] ps (many_shaped _ _ ps g.1) tt in
      closed_shape IsStatement s kind.Switch i j all (readings s kind.Switch h all [] [] all) (λ u es. subst (λ ys. IsStatement (built_by u kind.Switch form.Switch i j (switch_parts ys) es)) (sym r.is) (bare_switch u i j r.rest es r.has))
  statement_read s h (node kind.Switch i j syntax.none) g = absurd g.1
  statement_read s h (node kind.For i j (syntax.more c (syntax.more b syntax.none))) g =
      let all : Trees = syntax.more c (syntax.more b syntax.none) in
      more_shape IsStatement IsLoopHeader s kind.For h i j all s [] [] c (syntax.more b syntax.none) (header_read s value c refl g.1.0)
      (λ x gs t x1. more_shape IsStatement IsBody s kind.For h i j all t (Some x ∷ []) gs b syntax.none (block_read t value b g.1.1.0)
      (λ y fs u y1. closed_shape IsStatement s kind.For i j all (readings u kind.For h all (Some x ∷ Some y ∷ []) (gs ++ fs) syntax.none) (λ w es. header_row w i j x y es x1 y1)))
  statement_read s h (node kind.For i j (syntax.skip (syntax.more b syntax.none))) g =
      let all : Trees = syntax.skip (syntax.more b syntax.none) in
      more_shape IsStatement IsBody s kind.For h i j all s (None ∷ []) [] b syntax.none (block_read s value b g.1.0)
      (λ y fs u y1. closed_shape IsStatement s kind.For i j all (readings u kind.For h all (None ∷ Some y ∷ []) fs syntax.none) (λ w es. endless_row w i j y es y1))
  statement_read s h (node kind.If i j syntax.none) g = absurd g.1
  statement_read s h (node kind.If i j (syntax.skip qs)) g = absurd g.1
  statement_read s h (node kind.If i j (syntax.more x0 syntax.none)) g = absurd g.1.1
  statement_read s h (node kind.If i j (syntax.more x0 (syntax.skip qs))) g = absurd g.1.1
  statement_read s h (node kind.If i j (syntax.more x0 (syntax.more x1 syntax.none))) g = absurd g.1.1.1
  statement_read s h (node kind.If i j (syntax.more x0 (syntax.more x1 (syntax.skip (syntax.more y qs))))) g = absurd g.1.1.1
  statement_read s h (node kind.If i j (syntax.more x0 (syntax.more x1 (syntax.skip (syntax.skip qs))))) g = absurd g.1.1.1
  statement_read s h (node kind.If i j (syntax.more x0 (syntax.more x1 (syntax.more x2 (syntax.more y qs))))) g = absurd g.1.1.1.1
  statement_read s h (node kind.If i j (syntax.more x0 (syntax.more x1 (syntax.more x2 (syntax.skip qs))))) g = absurd g.1.1.1.1
  statement_read s h (node kind.For i j syntax.none) g = absurd g.1
  statement_read s h (node kind.For i j (syntax.skip syntax.none)) g = absurd g.1
  statement_read s h (node kind.For i j (syntax.skip (syntax.skip qs))) g = absurd g.1
  statement_read s h (node kind.For i j (syntax.skip (syntax.more x1 (syntax.more y qs)))) g = absurd g.1.1
  statement_read s h (node kind.For i j (syntax.skip (syntax.more x1 (syntax.skip qs)))) g = absurd g.1.1
  statement_read s h (node kind.For i j (syntax.more x0 syntax.none)) g = absurd g.1.1
  statement_read s h (node kind.For i j (syntax.more x0 (syntax.skip qs))) g = absurd g.1.1
  statement_read s h (node kind.For i j (syntax.more x0 (syntax.more x1 (syntax.more y qs)))) g = absurd g.1.1.1
  statement_read s h (node kind.For i j (syntax.more x0 (syntax.more x1 (syntax.skip qs)))) g = absurd g.1.1.1
  statement_read s h (node k i j ps) g = absurd (never g.0)

  statements_read : (s : Frame) (k : Kind) (h : Hint) (all : Trees) (xs : Parts) (fs : Found) (ps : Trees) → AllShaped category.Statement ps → AllStated xs → AllStated (parts_in (readings s k h all xs fs ps))
  statements_read s k h all xs fs syntax.none g e = e
  statements_read s k h all xs fs (syntax.more p ps) g e =
      let r : Reading = reading (entering k xs s) (told k h all xs (kind_of p)) p in
      subst (λ z. AllStated (parts_in z)) (sym (after_read r (λ x gs t. readings t k h all (xs ++ Some x ∷ []) (fs ++ gs) ps)))
      (statements_read (frame_in r) k h all (xs ++ Some (tree_in r) ∷ []) (fs ++ faults_in r) ps g.1 (one_stated xs (tree_in r) e (statement_read (entering k xs s) (told k h all xs (kind_of p)) p g.0)))
  statements_read s k h all xs fs (syntax.skip ps) g e = absurd g

  behind_read : (s : Frame) (k : Kind) (h : Hint) (all : Trees) (x : Option Part) (xs : Parts) (fs : Found) (ps : Trees) → AllShaped category.Statement ps → AllStated xs
      → IsBehind AllStated x (parts_in (readings s k h all (x ∷ xs) fs ps))
  behind_read s k h all x xs fs syntax.none g e = record { rest = xs; is = refl; has = e }
  behind_read s k h all x xs fs (syntax.more p ps) g e =
      let r : Reading = reading (entering k (x ∷ xs) s) (told k h all (x ∷ xs) (kind_of p)) p in
      subst (λ z. IsBehind AllStated x (parts_in z)) (sym (after_read r (λ y gs t. readings t k h all (x ∷ (xs ++ Some y ∷ [])) (fs ++ gs) ps)))
      (behind_read (frame_in r) k h all x (xs ++ Some (tree_in r) ∷ []) (fs ++ faults_in r) ps g.1 (one_stated xs (tree_in r) e (statement_read (entering k (x ∷ xs) s) (told k h all (x ∷ xs) (kind_of p)) p g.0)))
  behind_read s k h all x xs fs (syntax.skip ps) g e = absurd g

  clause_read : (s : Frame) (h : Hint) (t : Tree) → IsShaped category.Clause t → IsClause (tree_in (reading s h t))
  clause_read s h (node kind.Case i j (syntax.more v ps)) g =
      let all : Trees = syntax.more v ps in
      more_shape IsClause HoldsValues s kind.Case h i j all s [] [] v ps (values_read s value v (list_shaped (category.ExpressionList place.Free) place.Free v (inl refl) g.1.0) refl)
      (λ x gs t x1. let r = behind_read t kind.Case h all (Some x) [] gs ps (many_shaped _ _ ps g.1.1) tt in
      closed_shape IsClause s kind.Case i j all (readings t kind.Case h all (Some x ∷ []) gs ps)
      (λ u es. subst (λ ys. IsClause (built_by u kind.Case (form.Case (first_count ys)) i j (all_held ys) es)) (sym r.is) (case_row u i j x r.rest es x1 r.has)))
  clause_read s h (node kind.Case i j syntax.none) g = absurd g.1
  clause_read s h (node kind.Case i j (syntax.skip ps)) g = absurd g.1
  clause_read s h (node kind.Default i j ps) g = closed_shape IsClause s kind.Default i j ps (readings s kind.Default h ps [] [] ps)
      (λ u es. default_row u i j (parts_in (readings s kind.Default h ps [] [] ps)) es (statements_read s kind.Default h ps [] [] ps (many_shaped _ _ ps g.1) tt))
  clause_read s h (node k i j ps) g = absurd (never g.0)

  clauses_read : (s : Frame) (h : Hint) (all : Trees) (x : Option Part) (xs : Parts) (fs : Found) (ps : Trees) → AllShaped category.Clause ps → AllClauses xs → IsBehind AllClauses x (parts_in (readings s kind.Switch h all (x ∷ xs) fs ps))
  clauses_read s h all x xs fs syntax.none g e = record { rest = xs; is = refl; has = e }
  clauses_read s h all x xs fs (syntax.more p ps) g e =
      let r : Reading = reading (entering kind.Switch (x ∷ xs) s) value p in
      subst (λ z. IsBehind AllClauses x (parts_in z)) (sym (after_read r (λ y gs t. readings t kind.Switch h all (x ∷ (xs ++ Some y ∷ [])) (fs ++ gs) ps)))
      (clauses_read (frame_in r) h all x (xs ++ Some (tree_in r) ∷ []) (fs ++ faults_in r) ps g.1 (one_clause xs (tree_in r) e (clause_read (entering kind.Switch (x ∷ xs) s) value p g.0)))
  clauses_read s h all x xs fs (syntax.skip ps) g e = absurd g

  block_read : (s : Frame) (h : Hint) (t : Tree) → IsShaped category.Block t → IsBody (tree_in (reading s h t))
  block_read s h (node kind.Block i j ps) g = closed_shape IsBody s kind.Block i j ps (readings s kind.Block h ps [] [] ps)
      (λ u es. block_tail u i j (parts_in (readings s kind.Block h ps [] [] ps)) es (statements_read s kind.Block h ps [] [] ps (many_shaped _ _ ps g.1) tt))
  block_read s h (node k i j ps) g = absurd (never g.0)

  else_read : (s : Frame) (h : Hint) (t : Tree) → IsShaped category.Else t → HasElse (tree_in (reading s h t))
  else_read s h (node kind.Else i j (syntax.more b syntax.none)) g =
      let all : Trees = syntax.more b syntax.none in
      more_shape HasElse IsBody s kind.Else h i j all s [] [] b syntax.none (branch_read s value b g.1.0)
      (λ x gs t x1. closed_shape HasElse s kind.Else i j all (readings t kind.Else h all (Some x ∷ []) gs syntax.none) (λ u es. else_row u i j x es x1))
  else_read s h (node kind.Else i j syntax.none) g = absurd g.1
  else_read s h (node kind.Else i j (syntax.skip qs)) g = absurd g.1
  else_read s h (node kind.Else i j (syntax.more x0 (syntax.more y qs))) g = absurd g.1.1
  else_read s h (node kind.Else i j (syntax.more x0 (syntax.skip qs))) g = absurd g.1.1
  else_read s h (node k i j ps) g = absurd (never g.0)

  branch_read : (s : Frame) (h : Hint) (t : Tree) → IsShaped category.Branch t → IsBody (tree_in (reading s h t))
  branch_read s h (node kind.Block i j ps) g = closed_shape IsBody s kind.Block i j ps (readings s kind.Block h ps [] [] ps)
      (λ u es. block_tail u i j (parts_in (readings s kind.Block h ps [] [] ps)) es (statements_read s kind.Block h ps [] [] ps (many_shaped _ _ ps g.1) tt))
  branch_read s h (node kind.If i j (syntax.more c (syntax.more b (syntax.more e syntax.none)))) g =
      let all : Trees = syntax.more c (syntax.more b (syntax.more e syntax.none)) in
      more_shape IsBody IsCondition s kind.If h i j all s [] [] c (syntax.more b (syntax.more e syntax.none)) (condition_read s value c refl g.1.0)
      (λ x gs t x1. more_shape IsBody IsBody s kind.If h i j all t (Some x ∷ []) gs b (syntax.more e syntax.none) (block_read t value b g.1.1.0)
      (λ y fs u y1. more_shape IsBody HasElse s kind.If h i j all u (Some x ∷ Some y ∷ []) (gs ++ fs) e syntax.none (else_read u value e g.1.1.1.0)
      (λ z ks v z1. closed_shape IsBody s kind.If i j all (readings v kind.If h all (Some x ∷ Some y ∷ Some z ∷ []) ((gs ++ fs) ++ ks) syntax.none)
      (λ w es. branch_row w i j (header_parts (Some x) ++ Some y ∷ held (Some z)) es (if_row w i j x y (Some z) es x1 y1 z1)))))
  branch_read s h (node kind.If i j (syntax.more c (syntax.more b (syntax.skip syntax.none)))) g =
      let all : Trees = syntax.more c (syntax.more b (syntax.skip syntax.none)) in
      more_shape IsBody IsCondition s kind.If h i j all s [] [] c (syntax.more b (syntax.skip syntax.none)) (condition_read s value c refl g.1.0)
      (λ x gs t x1. more_shape IsBody IsBody s kind.If h i j all t (Some x ∷ []) gs b (syntax.skip syntax.none) (block_read t value b g.1.1.0)
      (λ y fs u y1. closed_shape IsBody s kind.If i j all (readings u kind.If h all (Some x ∷ Some y ∷ []) (gs ++ fs) (syntax.skip syntax.none))
      (λ w es. branch_row w i j (header_parts (Some x) ++ Some y ∷ held None) es (if_row w i j x y None es x1 y1 tt))))
  branch_read s h (node kind.If i j syntax.none) g = absurd g.1
  branch_read s h (node kind.If i j (syntax.skip qs)) g = absurd g.1
  branch_read s h (node kind.If i j (syntax.more x0 syntax.none)) g = absurd g.1.1
  branch_read s h (node kind.If i j (syntax.more x0 (syntax.skip qs))) g = absurd g.1.1
  branch_read s h (node kind.If i j (syntax.more x0 (syntax.more x1 syntax.none))) g = absurd g.1.1.1
  branch_read s h (node kind.If i j (syntax.more x0 (syntax.more x1 (syntax.skip (syntax.more y qs))))) g = absurd g.1.1.1
  branch_read s h (node kind.If i j (syntax.more x0 (syntax.more x1 (syntax.skip (syntax.skip qs))))) g = absurd g.1.1.1
  branch_read s h (node kind.If i j (syntax.more x0 (syntax.more x1 (syntax.more x2 (syntax.more y qs))))) g = absurd g.1.1.1.1
  branch_read s h (node kind.If i j (syntax.more x0 (syntax.more x1 (syntax.more x2 (syntax.skip qs))))) g = absurd g.1.1.1.1
  branch_read s h (node k i j ps) g = absurd (never g.0)

-- a function
pub function_read : (s : Frame) (h : Hint) (i j : ℕ) (ps : Trees) → IsShaped category.Declaration (node kind.FunctionDeclaration i j ps) → IsFunction (tree_in (reading s h (node kind.FunctionDeclaration i j ps)))
function_read s h i j (syntax.more q (syntax.more b syntax.none)) g =
    let k : Kind = kind.FunctionDeclaration in
    let all : Trees = syntax.more q (syntax.more b syntax.none) in
    more_shape IsFunction (λ x. Unit {0}) s k h i j all s [] [] q (syntax.more b syntax.none) tt
    (λ x gs t x1. more_shape IsFunction IsBody s k h i j all t (Some x ∷ []) gs b syntax.none (block_read (entering k (Some x ∷ []) t) value b g.1.1.0)
    (λ y fs u y1. closed_shape IsFunction s k i j all (readings u k h all (Some x ∷ Some y ∷ []) (gs ++ fs) syntax.none) (λ w es. function_row w i j y es y1.1)))
function_read s h i j (syntax.more q (syntax.skip syntax.none)) g =
    let k : Kind = kind.FunctionDeclaration in
    let all : Trees = syntax.more q (syntax.skip syntax.none) in
    more_shape IsFunction (λ x. Unit {0}) s k h i j all s [] [] q (syntax.skip syntax.none) tt
    (λ x gs t x1. closed_shape IsFunction s k i j all (readings t k h all (Some x ∷ []) gs (syntax.skip syntax.none)) (λ w es. bodiless_row w i j es))
function_read s h i j syntax.none g = absurd g.1
function_read s h i j (syntax.skip qs) g = absurd g.1
function_read s h i j (syntax.more x0 syntax.none) g = absurd g.1.1
function_read s h i j (syntax.more x0 (syntax.skip (syntax.more y qs))) g = absurd g.1.1
function_read s h i j (syntax.more x0 (syntax.skip (syntax.skip qs))) g = absurd g.1.1
function_read s h i j (syntax.more x0 (syntax.more x1 (syntax.more y qs))) g = absurd g.1.1.1
function_read s h i j (syntax.more x0 (syntax.more x1 (syntax.skip qs))) g = absurd g.1.1.1
