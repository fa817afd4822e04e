-- Headers of `if` and `switch` are read as a statement that may stand in front, and an expression.
use Rattle.std.proofs.Common.{◌≡◌, ℕ, true, false, List, [], ◌∷◌, ◌++◌, Option, Some, None, refl}
use Rattle.go_grammar.specs.Categories.{is_post}
use Rattle.go_grammar.specs.Trees.{Tree, node, Trees, kind_of}
use Rattle.go_grammar.specs.declared.kind.Category.TheVariants as category
use Rattle.go_grammar.specs.declared.kind.Kind.TheVariants as kind
use Rattle.go_grammar.specs.declared.kind.Place.TheVariants as place
use Rattle.go_grammar.specs.Trees as syntax
use Rattle.go_grammar.specs.Categories as categories
use Rattle.go_typed.specs.Trees.{typed, form_of}
use Rattle.go_typed.specs.declared.form.Form.TheVariants as form
use Rattle.go_exprs_rules.specs.declared.fault.TypeFault.{TypeFault}
use Rattle.go_exprs_rules.specs.Scopes.{Hint, value}
use Rattle.go_exprs_rules.specs.Settling.{Part}
use Rattle.go_exprs_rules.specs.Tables.{is_held}
use Rattle.go_stmts_defs.specs.Frames.{Frame}
use Rattle.go_stmts_defs.specs.Laying.{header_parts}
use Rattle.go_stmts_defs.specs.Reading.{reading, readings}
use Rattle.go_stmts_defs.specs.Rules.{built_by}
use Rattle.go_stmts_final_types.specs.Shapes.{IsShaped}
use Rattle.go_stmts_scopes.specs.Runs.{IsExpression}
use Rattle.go_stmts_scopes.specs.Shapes.{IsPost, IsFirst}
use Rattle.go_stmts_scopes.specs.Statements.{tree_in}
use Rattle.go_stmts_scopes.specs.Scoped.{is_use}
use Rattle.go_stmts_scopes.proofs.Simple.{more_shape, closed_shape, first_read}
use Rattle.go_stmts_scopes.proofs.Operands.{IsOperand, operand, typed_operand}

-- ---- headers

abbrev pub FirstOr : Option Part → Type 0
FirstOr None = Unit {0}
FirstOr (Some x) = IsFirst x

abbrev pub OperandOr : Option Part → Type 0
OperandOr None = Unit {0}
OperandOr (Some x) = IsExpression x

abbrev pub PostOr : Option Part → Type 0
PostOr None = Unit {0}
PostOr (Some x) = IsPost x

-- first? condition
pub record IsCondition (x : Part) : Type 0 where
  pub first : Option Part
  pub condition : Part
  pub parts : header_parts (Some x) ≡ first ∷ Some condition ∷ []
  pub may : FirstOr first
  pub is : IsExpression condition

-- first? tag?
pub record IsTag (x : Part) : Type 0 where
  pub first : Option Part
  pub tag : Option Part
  pub parts : header_parts (Some x) ≡ first ∷ tag ∷ []
  pub may : FirstOr first
  pub is : OperandOr tag

pub unheld_header : (x : Part) → is_held (form_of x) ≡ false → header_parts (Some x) ≡ None ∷ Some x ∷ []
unheld_header (typed (form.Held k) i j l ps) e = cc
unheld_header (typed f i j l ps) e = refl

operand_condition : (x : Part) → IsOperand x → IsCondition x
operand_condition x e = record { first = None; condition = x; parts = unheld_header x e.1; may = tt; is = e.0 }

operand_tag : (x : Part) → IsOperand x → IsTag x
operand_tag x e = record { first = None; tag = Some x; parts = unheld_header x e.1; may = tt; is = e.0 }

pub late_condition : (s : Frame) (i j : ℕ) (x : Part) (es : List TypeFault) → IsExpression x → IsCondition (built_by s kind.LateCondition (form.Held kind.LateCondition) i j (Some x ∷ []) es)
late_condition s i j x [] e = record { first = None; condition = x; parts = refl; may = tt; is = e }
late_condition s i j x (y ∷ es) e = record { first = None; condition = x; parts = refl; may = tt; is = e }

pub initialized_condition : (s : Frame) (i j : ℕ) (f x : Part) (es : List TypeFault) → IsFirst f → IsExpression x → IsCondition (built_by s kind.InitializedCondition (form.Held kind.InitializedCondition) i j (Some f ∷ Some x ∷ []) es)
initialized_condition s i j f x [] g e = record { first = Some f; condition = x; parts = refl; may = g; is = e }
initialized_condition s i j f x (y ∷ es) g e = record { first = Some f; condition = x; parts = refl; may = g; is = e }

pub late_tag : (s : Frame) (i j : ℕ) (x : Option Part) (es : List TypeFault) → OperandOr x → IsTag (built_by s kind.LateTag (form.Held kind.LateTag) i j (x ∷ []) es)
late_tag s i j None [] e = record { first = None; tag = None; parts = refl; may = tt; is = e }
late_tag s i j None (y ∷ es) e = record { first = None; tag = None; parts = refl; may = tt; is = e }
late_tag s i j (Some x) [] e = record { first = None; tag = Some x; parts = refl; may = tt; is = e }
late_tag s i j (Some x) (y ∷ es) e = record { first = None; tag = Some x; parts = refl; may = tt; is = e }

pub initialized_tag : (s : Frame) (i j : ℕ) (f : Part) (x : Option Part) (es : List TypeFault) → IsFirst f → OperandOr x → IsTag (built_by s kind.InitializedTag (form.Held kind.InitializedTag) i j (Some f ∷ x ∷ []) es)
initialized_tag s i j f None [] g e = record { first = Some f; tag = None; parts = refl; may = g; is = e }
initialized_tag s i j f None (y ∷ es) g e = record { first = Some f; tag = None; parts = refl; may = g; is = e }
initialized_tag s i j f (Some x) [] g e = record { first = Some f; tag = Some x; parts = refl; may = g; is = e }
initialized_tag s i j f (Some x) (y ∷ es) g e = record { first = Some f; tag = Some x; parts = refl; may = g; is = e }

pub simple_kind : (t : Tree) → IsShaped category.Simple t → categories.is_simple (kind_of t) ≡ true
simple_kind (node k i j ps) g = g.0

pub post_kind : (t : Tree) → IsShaped category.Post t → is_post (kind_of t) ≡ true
post_kind (node k i j ps) g = g.0

-- ---- headers

pub condition_read : (s : Frame) (h : Hint) (t : Tree) → is_use h ≡ true → IsShaped category.IfHeader t → IsCondition (tree_in (reading s h t))
condition_read s h (node kind.LateCondition i j (syntax.more c syntax.none)) e g =
    let all : Trees = syntax.more c syntax.none in
    more_shape IsCondition IsOperand s kind.LateCondition h i j all s [] [] c syntax.none (operand place.Header s value c g.1.0 refl)
    (λ x gs t x1. closed_shape IsCondition s kind.LateCondition i j all (readings t kind.LateCondition h all (Some x ∷ []) gs syntax.none) (λ u es. late_condition u i j x es x1.0))
condition_read s h (node kind.LateCondition i j (syntax.more c (syntax.more y ps))) e g = absurd g.1.1
condition_read s h (node kind.LateCondition i j (syntax.more c (syntax.skip ps))) e g = absurd g.1.1
condition_read s h (node kind.LateCondition i j syntax.none) e g = absurd g.1
condition_read s h (node kind.LateCondition i j (syntax.skip ps)) e g = absurd g.1
condition_read s h (node kind.InitializedCondition i j (syntax.more f (syntax.more c syntax.none))) e g =
    let all : Trees = syntax.more f (syntax.more c syntax.none) in
    more_shape IsCondition IsFirst s kind.InitializedCondition h i j all s [] [] f (syntax.more c syntax.none) (first_read category.Simple s value f (simple_kind f g.1.0) g.1.0)
    (λ x gs t x1. more_shape IsCondition IsOperand s kind.InitializedCondition h i j all t (Some x ∷ []) gs c syntax.none (operand place.Header t value c g.1.1.0 refl)
    (λ y fs u y1. closed_shape IsCondition s kind.InitializedCondition i j all (readings u kind.InitializedCondition h all (Some x ∷ Some y ∷ []) (gs ++ fs) syntax.none) (λ v es. initialized_condition v i j x y es x1 y1.0)))
condition_read s h (node kind.InitializedCondition i j (syntax.more f (syntax.more c (syntax.more y ps)))) e g = absurd g.1.1.1
condition_read s h (node kind.InitializedCondition i j (syntax.more f (syntax.more c (syntax.skip ps)))) e g = absurd g.1.1.1
condition_read s h (node kind.InitializedCondition i j (syntax.more f syntax.none)) e g = absurd g.1.1
condition_read s h (node kind.InitializedCondition i j (syntax.more f (syntax.skip ps))) e g = absurd g.1.1
condition_read s h (node kind.InitializedCondition i j syntax.none) e g = absurd g.1
condition_read s h (node kind.InitializedCondition i j (syntax.skip ps)) e g = absurd g.1
condition_read s h (node k i j ps) e g = operand_condition (tree_in (reading s h (node k i j ps))) (typed_operand category.IfHeader s h (node k i j ps) g g.0 e)

pub tag_read : (s : Frame) (h : Hint) (t : Tree) → is_use h ≡ true → IsShaped category.SwitchHeader t → IsTag (tree_in (reading s h t))
tag_read s h (node kind.LateTag i j (syntax.more c syntax.none)) e g =
    let all : Trees = syntax.more c syntax.none in
    more_shape IsTag IsOperand s kind.LateTag h i j all s [] [] c syntax.none (operand place.Header s value c g.1.0 refl)
    (λ x gs t x1. closed_shape IsTag s kind.LateTag i j all (readings t kind.LateTag h all (Some x ∷ []) gs syntax.none) (λ u es. late_tag u i j (Some x) es x1.0))
tag_read s h (node kind.LateTag i j (syntax.skip syntax.none)) e g =
    let all : Trees = syntax.skip syntax.none in
    closed_shape IsTag s kind.LateTag i j all (readings s kind.LateTag h all [] [] all) (λ u es. late_tag u i j None es tt)
tag_read s h (node kind.LateTag i j (syntax.more c (syntax.more y ps))) e g = absurd g.1.1
tag_read s h (node kind.LateTag i j (syntax.more c (syntax.skip ps))) e g = absurd g.1.1
tag_read s h (node kind.LateTag i j (syntax.skip (syntax.more y ps))) e g = absurd g.1
tag_read s h (node kind.LateTag i j (syntax.skip (syntax.skip ps))) e g = absurd g.1
tag_read s h (node kind.LateTag i j syntax.none) e g = absurd g.1
tag_read s h (node kind.InitializedTag i j (syntax.more f (syntax.more c syntax.none))) e g =
    let all : Trees = syntax.more f (syntax.more c syntax.none) in
    more_shape IsTag IsFirst s kind.InitializedTag h i j all s [] [] f (syntax.more c syntax.none) (first_read category.Simple s value f (simple_kind f g.1.0) g.1.0)
    (λ x gs t x1. more_shape IsTag IsOperand s kind.InitializedTag h i j all t (Some x ∷ []) gs c syntax.none (operand place.Header t value c g.1.1.0 refl)
    (λ y fs u y1. closed_shape IsTag s kind.InitializedTag i j all (readings u kind.InitializedTag h all (Some x ∷ Some y ∷ []) (gs ++ fs) syntax.none) (λ v es. initialized_tag v i j x (Some y) es x1 y1.0)))
tag_read s h (node kind.InitializedTag i j (syntax.more f (syntax.skip syntax.none))) e g =
    let all : Trees = syntax.more f (syntax.skip syntax.none) in
    more_shape IsTag IsFirst s kind.InitializedTag h i j all s [] [] f (syntax.skip syntax.none) (first_read category.Simple s value f (simple_kind f g.1.0) g.1.0)
    (λ x gs t x1. closed_shape IsTag s kind.InitializedTag i j all (readings t kind.InitializedTag h all (Some x ∷ []) gs (syntax.skip syntax.none)) (λ v es. initialized_tag v i j x None es x1 tt))
tag_read s h (node kind.InitializedTag i j (syntax.more f (syntax.more c (syntax.more y ps)))) e g = absurd g.1.1.1
tag_read s h (node kind.InitializedTag i j (syntax.more f (syntax.more c (syntax.skip ps)))) e g = absurd g.1.1.1
tag_read s h (node kind.InitializedTag i j (syntax.more f (syntax.skip (syntax.more y ps)))) e g = absurd g.1.1
tag_read s h (node kind.InitializedTag i j (syntax.more f (syntax.skip (syntax.skip ps)))) e g = absurd g.1.1
tag_read s h (node kind.InitializedTag i j (syntax.more f syntax.none)) e g = absurd g.1.1
tag_read s h (node kind.InitializedTag i j syntax.none) e g = absurd g.1
tag_read s h (node kind.InitializedTag i j (syntax.skip ps)) e g = absurd g.1
tag_read s h (node k i j ps) e g = operand_tag (tree_in (reading s h (node k i j ps))) (typed_operand category.SwitchHeader s h (node k i j ps) g g.0 e)
