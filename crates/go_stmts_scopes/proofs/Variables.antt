-- Specifications of variables are read as statements that declare names.
use Rattle.std.proofs.Common.{◌≡◌, inl, ℕ, false, List, [], ◌∷◌, ◌++◌, length, Option, Some, None, refl, sym, subst}
use Rattle.std.specs.Prelude.{replicate}
use Rattle.go_grammar.specs.declared.kind.Category.TheVariants as category
use Rattle.go_grammar.specs.declared.kind.Kind.{Kind}
use Rattle.go_grammar.specs.declared.kind.Kind.TheVariants as kind
use Rattle.go_grammar.specs.declared.kind.Place.TheVariants as place
use Rattle.go_grammar.specs.declared.kind.Sort.TheVariants as declaring
use Rattle.go_grammar.specs.Trees.{Tree, node, Trees, kind_of}
use Rattle.go_grammar.specs.Trees as syntax
use Rattle.go_types.specs.Trees.{TypeTree}
use Rattle.go_typed.specs.declared.form.Form.TheVariants as form
use Rattle.go_typed.specs.Trees.{Nothing, typed, row, list_of, form_of}
use Rattle.go_exprs_rules.specs.declared.fault.TypeFault.{TypeFault}
use Rattle.go_exprs_rules.specs.Scopes.{Hint, several, type_place, declares}
use Rattle.go_exprs_rules.specs.Settling.{Part}
use Rattle.go_exprs_rules.specs.Tables.{Parts, is_held, held, first_cut}
use Rattle.go_stmts_defs.specs.Assigning.{rests, Wanted, declared_names, whole_results, value_types_by, values_take}
use Rattle.go_stmts_defs.specs.Frames.{Frame, rights_of}
use Rattle.go_stmts_defs.specs.Laying.{behind_names, held_count, typed_or_not}
use Rattle.go_stmts_defs.specs.Reading.{holding, holdings, reading, readings}
use Rattle.go_stmts_defs.specs.Rules.{variables_take, type_there, values_there, built_by}
use Rattle.go_stmts_final_types.specs.Shapes.{IsShaped}
use Rattle.go_stmts_scopes.specs.Runs.{IsExpression}
use Rattle.go_stmts_scopes.specs.Shapes.{IsName, IsStatement}
use Rattle.go_stmts_scopes.specs.Statements.{tree_in}
use Rattle.go_stmts_scopes.proofs.DeclaredNames.{AreOpen, AllNames, names_row, names_given, open_append, open_names, open_values, declared_name}
use Rattle.go_stmts_scopes.proofs.Derivations.{AllShaped, many_shaped, list_shaped}
use Rattle.go_stmts_scopes.proofs.Simple.{more_shape, closed_shape, list_row, HoldsNames}
use Rattle.go_stmts_scopes.proofs.Typed.{AllRun, held_parts, first_cut_runs}
use Rattle.go_stmts_scopes.proofs.TypedStatements.{run_append, list_held}
use Rattle.go_stmts_scopes.proofs.Operands.{IsOperand, type_kind, type_operand, held_type}
use Rattle.go_stmts_scopes.proofs.Never.{never}

-- ---- specifications of variables

one_name : (xs : Parts) (x : Part) → AllNames xs → IsName x → AllNames (xs ++ Some x ∷ [])
one_name [] x h e = (e, tt)
one_name (None ∷ xs) x h e = absurd h
one_name (Some y ∷ xs) x h e = (h.0, one_name xs x h.1 e)

names_declared : (s : Frame) (h : Hint) (all : Trees) (xs : Parts) (ps : Trees) → AllShaped category.DeclaredName ps → AllNames xs → AllNames (holdings s kind.NameList h all xs ps)
names_declared s h all xs syntax.none g e = e
names_declared s h all xs (syntax.more (node kind.DeclaredName i j qs) ps) g e =
    let q : Part = holding s declares (node kind.DeclaredName i j qs) in
    names_declared s h all (xs ++ Some q ∷ []) ps g.1 (one_name xs q e (declared_name s.around (s.around.objects i) Nothing i j _ _ _ refl))
names_declared s h all xs (syntax.more (node k i j qs) ps) g e = absurd (never g.0.0)
names_declared s h all xs (syntax.skip ps) g e = absurd g

pub name_list : (s : Frame) (h : Hint) (t : Tree) → IsShaped category.NameList t → HoldsNames (tree_in (reading s h t))
name_list s h (node kind.NameList i j (syntax.more p ps)) g =
    let all : Trees = syntax.more p ps in
    subst AllNames (sym (list_row (holdings s kind.NameList h all [] all))) (names_declared s h all [] all (g.1.0, many_shaped _ _ ps g.1.1) tt)
name_list s h (node kind.NameList i j syntax.none) g = absurd g.1
name_list s h (node kind.NameList i j (syntax.skip ps)) g = absurd g.1
name_list s h (node k i j ps) g = absurd (never g.0)

-- a type, or values, or both
abbrev IsRest : Part → Type 0
IsRest x = AllRun (first_cut (typed_or_not (Some x)))

open_variables : (s : Frame) (n : ℕ) (t : Option TypeTree) (xs : List Part) → AreOpen (variables_take (rights_of s) n t xs)
open_variables s n t xs =
    let ts : Wanted = replicate n t in
    open_append (declared_names (rights_of s) ts xs) (rests ∷ values_take ts xs) (open_names ts (value_types_by xs (whole_results (rights_of s) xs))) (tt, open_values ts xs)

variables_parts : (s : Frame) (i j : ℕ) (ns vs : Parts) (es : List TypeFault) → AllNames ns → AllRun vs
    → IsStatement (built_by s (kind.Specification declaring.Variable) (form.Specified (length ns)) i j (ns ++ vs) es)
variables_parts s i j ns vs [] g e = (
  refl,
  names_given (variables_take (rights_of s) (length ns) (type_there (length ns) (ns ++ vs)) (values_there (length ns) (ns ++ vs))) ns vs
      (open_variables s (length ns) (type_there (length ns) (ns ++ vs)) (values_there (length ns) (ns ++ vs))) g e,
)
variables_parts s i j ns vs (z ∷ es) g e = (refl, names_row ns vs g e)

variables_row : (s : Frame) (i j : ℕ) (x r : Part) (es : List TypeFault) → HoldsNames x → AllRun (first_cut (typed_or_not (Some r)))
    → IsStatement (built_by s (kind.Specification declaring.Variable) (form.Specified (held_count (Some x))) i j (held (Some x) ++ first_cut (typed_or_not (Some r))) es)
variables_row s i j x r es g e = variables_parts s i j (held (Some x)) (first_cut (typed_or_not (Some r))) es g e

rest_unheld : (x : Part) → is_held (form_of x) ≡ false → IsExpression x → IsRest x
rest_unheld (typed (form.Held k) i j l ps) e h = cc
rest_unheld (typed f i j l ps) e h = first_cut_runs (Some (typed f i j l ps) ∷ []) (h, tt)

operand_rest : (x : Part) → IsOperand x → IsRest x
operand_rest x e = rest_unheld x e.1 e.0

variable_rest : (s : Frame) (r : Tree) → IsShaped category.VariableRest r → IsRest (tree_in (reading s (behind_names (kind_of r) several) r))
variable_rest s (node kind.Values i j (syntax.more l syntax.none)) g =
    let q : Part = holding s several l in
    held_parts (held (Some q) ++ []) (run_append (held (Some q)) [] (list_held s several l (list_shaped (category.ExpressionList place.Free) place.Free l (inl refl) g.1.0) refl) tt)
variable_rest s (node kind.Values i j (syntax.more l (syntax.more y ps))) g = absurd g.1.1
variable_rest s (node kind.Values i j (syntax.more l (syntax.skip ps))) g = absurd g.1.1
variable_rest s (node kind.Values i j syntax.none) g = absurd g.1
variable_rest s (node kind.Values i j (syntax.skip ps)) g = absurd g.1
variable_rest s (node kind.TypedValues i j (syntax.more t (syntax.more l syntax.none))) g =
    let q : Part = holding s several l in
    let y : Part = holding s type_place t in
    let all : Parts = held (Some y) ++ (held (Some q) ++ []) in
    first_cut_runs (list_of (row all))
    (held_parts all
    (run_append (held (Some y)) (held (Some q) ++ []) (held_type category.Type s type_place t g.1.0 (type_kind t g.1.0) refl)
    (run_append (held (Some q)) [] (list_held s several l (list_shaped (category.ExpressionList place.Free) place.Free l (inl refl) g.1.1.0) refl) tt)))
variable_rest s (node kind.TypedValues i j (syntax.more t (syntax.more l (syntax.more y ps)))) g = absurd g.1.1.1
variable_rest s (node kind.TypedValues i j (syntax.more t (syntax.more l (syntax.skip ps)))) g = absurd g.1.1.1
variable_rest s (node kind.TypedValues i j (syntax.more t syntax.none)) g = absurd g.1.1
variable_rest s (node kind.TypedValues i j (syntax.more t (syntax.skip ps))) g = absurd g.1.1
variable_rest s (node kind.TypedValues i j syntax.none) g = absurd g.1
variable_rest s (node kind.TypedValues i j (syntax.skip ps)) g = absurd g.1
variable_rest s (node k i j ps) g = operand_rest (tree_in (reading s type_place (node k i j ps))) (type_operand category.VariableRest s type_place (node k i j ps) g g.0 refl)

-- a specification of variables
pub variables_read : (s : Frame) (h : Hint) (t : Tree) → IsShaped (category.Specification declaring.Variable) t → IsStatement (tree_in (reading s h t)) × (is_held (form_of (tree_in (reading s h t))) ≡ false)
variables_read s h t g = (by t g, held_no (tree_in (reading s h t)) (by t g))
  where
    held_no : (x : Part) → IsStatement x → is_held (form_of x) ≡ false
    held_no (typed (form.Held k) i j l ps) h = absurd h
    held_no (typed f i j l ps) h = refl

    by : (t : Tree) → IsShaped (category.Specification declaring.Variable) t → IsStatement (tree_in (reading s h t))
    by (node (kind.Specification declaring.Variable) i j (syntax.more x (syntax.more r syntax.none))) g =
        let k : Kind = kind.Specification declaring.Variable in
        let all : Trees = syntax.more x (syntax.more r syntax.none) in
        more_shape IsStatement HoldsNames s k h i j all s [] [] x (syntax.more r syntax.none) (name_list s declares x g.1.0)
        (λ y gs t ey. more_shape IsStatement IsRest s k h i j all t (Some y ∷ []) gs r syntax.none (variable_rest t r g.1.1.0)
        (λ z fs u ez. closed_shape IsStatement s k i j all (readings u k h all (Some y ∷ Some z ∷ []) (gs ++ fs) syntax.none) (λ v es. variables_row v i j y z es ey ez)))
    by (node (kind.Specification declaring.Variable) i j (syntax.more x (syntax.more r (syntax.more y ps)))) g = absurd g.1.1.1
    by (node (kind.Specification declaring.Variable) i j (syntax.more x (syntax.more r (syntax.skip ps)))) g = absurd g.1.1.1
    by (node (kind.Specification declaring.Variable) i j (syntax.more x syntax.none)) g = absurd g.1.1
    by (node (kind.Specification declaring.Variable) i j (syntax.more x (syntax.skip ps))) g = absurd g.1.1
    by (node (kind.Specification declaring.Variable) i j syntax.none) g = absurd g.1
    by (node (kind.Specification declaring.Variable) i j (syntax.skip ps)) g = absurd g.1
    by (node k i j ps) g = absurd (never g.0)
