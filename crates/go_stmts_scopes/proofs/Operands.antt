-- Expressions that are derived from the grammar are read as operands: expressions that hold nothing else.
use Rattle.std.proofs.Common.{◌≡◌, ◌∙◌, ◌⊎◌, inl, inr, ℕ, true, false, [], refl, sym, ap, subst}
use Rattle.std.specs.Prelude.{if◌then◌else◌}
use Rattle.go_grammar.specs.declared.kind.Category.{Category}
use Rattle.go_grammar.specs.declared.kind.Category.TheVariants as category
use Rattle.go_grammar.specs.declared.kind.Kind.{Kind}
use Rattle.go_grammar.specs.declared.kind.Kind.TheVariants as kind
use Rattle.go_grammar.specs.declared.kind.Place.{Place}
use Rattle.go_grammar.specs.Categories.{within, is_expression, is_type}
use Rattle.go_grammar.specs.Grammar.{any}
use Rattle.go_grammar.specs.Trees.{Tree, node, Trees, kind_of}
use Rattle.go_typed.specs.declared.form.Form.TheVariants as form
use Rattle.go_typed.specs.Trees.{typed, form_of}
use Rattle.go_exprs_rules.specs.Scopes.{Hint}
use Rattle.go_exprs_rules.specs.Settling.{Part}
use Rattle.go_exprs_rules.specs.Tables.{Parts, is_held}
use Rattle.go_exprs_rules.specs.Tables as tables
use Rattle.go_exprs_rules.specs.Typing.{typing, typings}
use Rattle.go_stmts_defs.specs.Frames.{Frame, scope_of}
use Rattle.go_stmts_defs.specs.Laying.{layout}
use Rattle.go_stmts_defs.specs.Reading.{list_node, name_node, is_declared_name, held_faults, beginning, closed, read, holding, holdings, reading, readings}
use Rattle.go_stmts_final_types.specs.Shapes.{IsShaped}
use Rattle.go_stmts_scopes.specs.Runs.{IsExpression, HasBrackets}
use Rattle.go_stmts_scopes.specs.Scoped.{is_use}
use Rattle.go_stmts_scopes.specs.Statements.{tree_in}
use Rattle.go_stmts_scopes.proofs.Derivations.{shaped_brackets, expression_kind}
use Rattle.go_stmts_scopes.proofs.Typed.{is_bounds, unheld, built_form, soundness, typing_runs}
use Rattle.go_stmts_scopes.proofs.TypedStatements.{HoldsRun, no_list, no_name, no_statement, operand_held, operand_read}

pub expression_held : (s : Frame) (h : Hint) (t : Tree) → is_expression (kind_of t) ≡ true → holding s h t ≡ typing (scope_of s) h t
expression_held s h (node k i j ps) x =
    ap (λ b. if b then list_node s k i j (layout s k i (holdings s k h ps [] ps)) else (if is_declared_name k then name_node s i j else typing (scope_of s) h (node k i j ps))) (no_list k x)
    ∙ ap (λ b. if b then name_node s i j else typing (scope_of s) h (node k i j ps)) (no_name k x)

pub expression_tree : (s : Frame) (h : Hint) (t : Tree) → is_expression (kind_of t) ≡ true → tree_in (reading s h t) ≡ typing (scope_of s) h t
expression_tree s h (node k i j ps) x =
    ap (λ b. tree_in (if b then closed s k i j ps (readings (beginning k i s) k h ps [] [] ps) else read (holding s h (node k i j ps)) (held_faults s h (node k i j ps)) s)) (no_statement k x)
    ∙ expression_held s h (node k i j ps) x

bracket_kind : (k : Kind) → is_expression k ≡ true → within category.Bracket k ≡ true
bracket_kind kind.Bounds x = refl
bracket_kind kind.BoundsFrom x = refl
bracket_kind k x = x

no_bounds : (k : Kind) → is_expression k ≡ true → is_bounds k ≡ false
no_bounds kind.Bounds x = cc
no_bounds kind.BoundsFrom x = cc
no_bounds k x = refl

pub expression_unheld : (s : Frame) (h : Hint) (t : Tree) → is_expression (kind_of t) ≡ true → is_use h ≡ true → is_held (form_of (typing (scope_of s) h t)) ≡ false
expression_unheld s h (node k i j ps) x e =
    let ys : Parts = tables.layout k (typings (scope_of s) k h ps [] ps) in
    ap is_held (built_form (scope_of s) k h i j ys (soundness (scope_of s) k h i j ys)) ∙ unheld (scope_of s) k h i j ys e (bracket_kind k x) (no_bounds k x)

-- an expression that is no holder
abbrev pub IsOperand : Part → Type 0
IsOperand x = IsExpression x × (is_held (form_of x) ≡ false)

pub operand : (p : Place) (s : Frame) (h : Hint) (t : Tree) → IsShaped (any p) t → is_use h ≡ true → IsOperand (tree_in (reading s h t))
operand p s h t g e =
    let x = expression_kind p t g in
    (operand_read s h t x e (shaped_brackets (any p) t g), ap (λ z. is_held (form_of z)) (expression_tree s h t x) ∙ expression_unheld s h t x e)

-- what is no expression by its category
pub typed_operand : (c : Category) (s : Frame) (h : Hint) (t : Tree) → IsShaped c t → is_expression (kind_of t) ≡ true → is_use h ≡ true → IsOperand (tree_in (reading s h t))
typed_operand c s h t g x e = (operand_read s h t x e (shaped_brackets c t g), ap (λ z. is_held (form_of z)) (expression_tree s h t x) ∙ expression_unheld s h t x e)

pub held_operand : (c : Category) (s : Frame) (h : Hint) (t : Tree) → IsShaped c t → is_expression (kind_of t) ≡ true → is_use h ≡ true → HoldsRun (holding s h t)
held_operand c s h t g x e =
    by (holding s h t) (operand_held s h t x e (shaped_brackets c t g)) (ap (λ z. is_held (form_of z)) (expression_held s h t x) ∙ expression_unheld s h t x e)
  where
    by : (x : Part) → IsExpression x → is_held (form_of x) ≡ false → HoldsRun x
    by (typed (form.Held k) i j l ps) e h = cc
    by (typed f i j l ps) e h = (e, tt)

-- ---- types

parenthesized : (s : Frame) (h : Hint) (i j : ℕ) (ps : Trees) → HasBrackets (node kind.ParenthesizedType i j ps) → is_use h ≡ true → IsOperand (typing (scope_of s) h (node kind.ParenthesizedType i j ps))
parenthesized s h i j ps b e =
    let ys : Parts = tables.layout kind.ParenthesizedType (typings (scope_of s) kind.ParenthesizedType h ps [] ps) in
    (typing_runs (scope_of s) h (node kind.ParenthesizedType i j ps) e b, ap is_held (built_form (scope_of s) kind.ParenthesizedType h i j ys (soundness (scope_of s) kind.ParenthesizedType h i j ys)))

-- types are expressions but for those in parentheses
plain_type : (k : Kind) → is_type k ≡ true → (k ≡ kind.ParenthesizedType) ⊎ (is_expression k ≡ true)
plain_type kind.Name e = inr refl
plain_type kind.ParenthesizedType e = inl refl
plain_type kind.SequenceType e = inr refl
plain_type kind.FunctionType e = inr refl
plain_type kind.StructType e = inr refl
plain_type k e = cc

pub type_kind : (t : Tree) → IsShaped category.Type t → is_type (kind_of t) ≡ true
type_kind (node k i j ps) g = g.0

pub type_operand : (c : Category) (s : Frame) (h : Hint) (t : Tree) → IsShaped c t → is_type (kind_of t) ≡ true → is_use h ≡ true → IsOperand (tree_in (reading s h t))
type_operand c s h (node k i j ps) g x e = by (plain_type k x)
  where
    by : (k ≡ kind.ParenthesizedType) ⊎ (is_expression k ≡ true) → IsOperand (tree_in (reading s h (node k i j ps)))
    by (inl p) = subst (λ z. IsOperand (tree_in (reading s h (node z i j ps)))) (sym p) (parenthesized s h i j ps (tt, (shaped_brackets c (node k i j ps) g).1) e)
    by (inr y) = typed_operand c s h (node k i j ps) g y e

holds_operand : (x : Part) → IsOperand x → HoldsRun x
holds_operand (typed (form.Held k) i j l ps) e = let z : true ≡ false = e.1 in cc
holds_operand (typed f i j l ps) e = (e.0, tt)

pub held_type : (c : Category) (s : Frame) (h : Hint) (t : Tree) → IsShaped c t → is_type (kind_of t) ≡ true → is_use h ≡ true → HoldsRun (holding s h t)
held_type c s h (node k i j ps) g x e = by (plain_type k x)
  where
    by : (k ≡ kind.ParenthesizedType) ⊎ (is_expression k ≡ true) → HoldsRun (holding s h (node k i j ps))
    by (inl p) = subst (λ z. HoldsRun (holding s h (node z i j ps))) (sym p)
        (holds_operand (typing (scope_of s) h (node kind.ParenthesizedType i j ps)) (parenthesized s h i j ps (tt, (shaped_brackets c (node k i j ps) g).1) e))
    by (inr y) = held_operand c s h (node k i j ps) g y e
