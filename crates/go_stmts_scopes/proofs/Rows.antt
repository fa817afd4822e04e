-- Statements have the shape that evaluation asks for where their parts have it.
use Rattle.std.proofs.Common.{◌≡◌, ℕ, true, false, List, [], ◌∷◌, ◌++◌, length, Option, Some, None, refl, sym, subst}
use Rattle.std.specs.Prelude.{replicate}
use Rattle.go_grammar.specs.Trees.{Tree, node, Trees}
use Rattle.go_grammar.specs.declared.kind.Kind.TheVariants as kind
use Rattle.go_grammar.specs.Trees as syntax
use Rattle.go_types.specs.Trees.{boolean}
use Rattle.go_typed.specs.Trees.{typed, row, form_of}
use Rattle.go_typed.specs.declared.form.Form.TheVariants as form
use Rattle.go_exprs_rules.specs.declared.fault.TypeFault.{TypeFault}
use Rattle.go_exprs_rules.specs.Scopes.{Hint}
use Rattle.go_exprs_rules.specs.Settling.{Part, as_type}
use Rattle.go_exprs_rules.specs.Tables.{Parts, held, all_held}
use Rattle.go_exprs_rules.specs.Sorts.{own_type}
use Rattle.go_stmts_defs.specs.Assigning.{Taking, type_or_default}
use Rattle.go_stmts_defs.specs.Frames.{Frame}
use Rattle.go_stmts_defs.specs.Laying.{alone_or_value, held_count, header_parts}
use Rattle.go_stmts_defs.specs.Reading.{holding, holdings, reading}
use Rattle.go_stmts_defs.specs.Rules.{all_given, built_by}
use Rattle.go_stmts_scopes.specs.Runs.{IsExpression}
use Rattle.go_stmts_scopes.specs.Shapes.{is_tail, IsStatement, AreStatements, IsElse, AreClauses, IsClause, IsCase}
use Rattle.go_stmts_scopes.specs.Statements.{tree_in, IsSimple, AllOperands, IsOperandList}
use Rattle.go_stmts_scopes.specs.Scoped.{is_use}
use Rattle.go_stmts_scopes.proofs.Simple.{list_row}
use Rattle.go_stmts_scopes.proofs.Typed.{given_runs}
use Rattle.go_stmts_scopes.proofs.TypedStatements.{operand_held, use_list, part_runs}
use Rattle.go_stmts_scopes.proofs.Headers.{FirstOr, IsCondition}

-- ---- statements in order

abbrev pub AllStated : Parts → Type 0
AllStated [] = Unit {0}
AllStated (None ∷ xs) = AllStated xs
AllStated (Some x ∷ xs) = IsStatement x × AllStated xs

pub row_stated : (xs : Parts) → AllStated xs → AreStatements (row xs)
row_stated [] h = tt
row_stated (None ∷ xs) h = row_stated xs h
row_stated (Some x ∷ xs) h = (h.0, row_stated xs h.1)

pub one_stated : (xs : Parts) (x : Part) → AllStated xs → IsStatement x → AllStated (xs ++ Some x ∷ [])
one_stated [] x h e = (e, tt)
one_stated (None ∷ xs) x h e = one_stated xs x h e
one_stated (Some y ∷ xs) x h e = (h.0, one_stated xs x h.1 e)

pub statement_unheld : (x : Part) → IsStatement x → held (Some x) ≡ Some x ∷ []
statement_unheld (typed (form.Held k) i j l ps) h = absurd h
statement_unheld (typed f i j l ps) h = refl

pub all_unheld : (xs : Parts) → AllStated xs → AllStated (all_held xs)
all_unheld [] h = tt
all_unheld (None ∷ xs) h = all_unheld xs h
all_unheld (Some x ∷ xs) h = subst (λ ys. AllStated (ys ++ all_held xs)) (sym (statement_unheld x h.0)) (h.0, all_unheld xs h.1)

-- ---- simple statements

pub simple_statement : (x : Part) → IsSimple x → IsStatement x
simple_statement (typed form.Expression i j l ps) h = (h.0, h.2)
simple_statement (typed (form.Step o) i j l ps) h = (h.0, h.2)
simple_statement (typed (form.Assign n) i j l ps) h = (h.0, h.2)
simple_statement (typed (form.Operate o) i j l ps) h = (h.0, h.2)
simple_statement (typed form.Return i j l ps) h = (h.0, h.2)
simple_statement (typed f i j l ps) h = let z : false ≡ true = h.1 in cc

-- ---- `if`

pub if_row : (s : Frame) (i j : ℕ) (h b : Part) (e : Option Part) (es : List TypeFault) → IsCondition h → (is_tail (form_of b) ≡ true) × IsStatement b → IsElse (row (held e))
    → IsStatement (built_by s kind.If form.If i j (header_parts (Some h) ++ Some b ∷ held e) es)
if_row s i j h b e es g x y = subst (λ zs. IsStatement (built_by s kind.If form.If i j (zs ++ Some b ∷ held e) es)) (sym g.parts) (by g.first g.may es)
  where
    by : (f : Option Part) → FirstOr f → (es : List TypeFault) → IsStatement (built_by s kind.If form.If i j (f ∷ Some g.condition ∷ Some b ∷ held e) es)
    by None m [] = (refl, (given_runs (as_type boolean) g.condition g.is, x, y))
    by None m (z ∷ es) = (refl, (g.is, x, y))
    by (Some f) m [] = (refl, (m, (given_runs (as_type boolean) g.condition g.is, x, y)))
    by (Some f) m (z ∷ es) = (refl, (m, (g.is, x, y)))

-- ---- blocks

pub block_row : (s : Frame) (i j : ℕ) (xs : Parts) (es : List TypeFault) → AllStated xs → IsStatement (built_by s kind.Block form.Block i j xs es)
block_row s i j xs [] h = (refl, row_stated xs h)
block_row s i j xs (e ∷ es) h = (refl, row_stated xs h)

-- ---- values of a clause

abbrev pub AllValues : Parts → Type 0
AllValues [] = Unit {0}
AllValues (None ∷ xs) = ⊥
AllValues (Some x ∷ xs) = IsExpression x × AllValues xs

pub one_value : (xs : Parts) (x : Part) → AllValues xs → IsExpression x → AllValues (xs ++ Some x ∷ [])
one_value [] x h e = (e, tt)
one_value (None ∷ xs) x h e = absurd h
one_value (Some y ∷ xs) x h e = (h.0, one_value xs x h.1 e)

pub values_held : (s : Frame) (h : Hint) (all : Trees) (xs : Parts) (ps : Trees) → is_use h ≡ true → AllValues xs → AllOperands ps → AllValues (holdings s kind.ExpressionList h all xs ps)
values_held s h all xs syntax.none e x g = x
values_held s h all xs (syntax.more p ps) e x g =
    let q : Part = holding s (alone_or_value all h) p in
    values_held s h all (xs ++ Some q ∷ []) ps e (one_value xs q x (operand_held s (alone_or_value all h) p g.0 (use_list all h e) g.1)) g.2
values_held s h all xs (syntax.skip ps) e x g = absurd g

pub values_read : (s : Frame) (h : Hint) (t : Tree) → IsOperandList t → is_use h ≡ true → AllValues (held (Some (tree_in (reading s h t))))
values_read s h (node kind.ExpressionList i j ps) g e = subst AllValues (sym (list_row (holdings s kind.ExpressionList h ps [] ps))) (values_held s h ps [] ps e tt g)
values_read s h (node k i j ps) g e = absurd g

pub case_zero : (ss : Parts) → AllStated ss → IsCase 0 (row ss)
case_zero [] h = tt
case_zero (None ∷ ss) h = row_stated ss h
case_zero (Some x ∷ ss) h = (h.0, row_stated ss h.1)

pub case_given : (k : Taking) (vs ss : Parts) → AllValues vs → AllStated ss → IsCase (length vs) (row (all_given (replicate (length vs) k) (vs ++ ss)))
case_given k [] ss h g = case_zero ss g
case_given k (None ∷ vs) ss h g = absurd h
case_given k (Some v ∷ vs) ss h g = (part_runs k v h.0, case_given k vs ss h.1 g)

pub case_plain : (vs ss : Parts) → AllValues vs → AllStated ss → IsCase (length vs) (row (vs ++ ss))
case_plain [] ss h g = case_zero ss g
case_plain (None ∷ vs) ss h g = absurd h
case_plain (Some v ∷ vs) ss h g = (h.0, case_plain vs ss h.1 g)

pub case_row : (s : Frame) (i j : ℕ) (x : Part) (ss : Parts) (es : List TypeFault) → AllValues (held (Some x)) → AllStated ss → IsClause (built_by s kind.Case (form.Case (held_count (Some x))) i j (held (Some x) ++ all_held ss) es)
case_row s i j x ss [] h g = (refl, case_given (type_or_default (own_type s.tag)) (held (Some x)) (all_held ss) h (all_unheld ss g))
case_row s i j x ss (e ∷ es) h g = (refl, case_plain (held (Some x)) (all_held ss) h (all_unheld ss g))

pub default_row : (s : Frame) (i j : ℕ) (ss : Parts) (es : List TypeFault) → AllStated ss → IsClause (built_by s kind.Default form.Default i j ss es)
default_row s i j ss [] g = (refl, row_stated ss g)
default_row s i j ss (e ∷ es) g = (refl, row_stated ss g)

-- ---- parts behind the first one

pub record IsBehind (Q : Parts → Type 0) (x : Option Part) (zs : Parts) : Type 0 where
  pub rest : Parts
  pub is : zs ≡ x ∷ rest
  pub has : Q rest

abbrev pub AllClauses : Parts → Type 0
AllClauses [] = Unit {0}
AllClauses (None ∷ xs) = ⊥
AllClauses (Some x ∷ xs) = IsClause x × AllClauses xs

pub one_clause : (xs : Parts) (x : Part) → AllClauses xs → IsClause x → AllClauses (xs ++ Some x ∷ [])
one_clause [] x h e = (e, tt)
one_clause (None ∷ xs) x h e = absurd h
one_clause (Some y ∷ xs) x h e = (h.0, one_clause xs x h.1 e)

pub clauses_row : (xs : Parts) → AllClauses xs → AreClauses (row xs)
clauses_row [] h = tt
clauses_row (None ∷ xs) h = absurd h
clauses_row (Some x ∷ xs) h = (h.0, clauses_row xs h.1)
