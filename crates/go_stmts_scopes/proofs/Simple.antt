-- Simple statements that are derived from the grammar are read as statements that may stand in front of a condition.
use Rattle.std.proofs.Common.{◌≡◌, ◌∙◌, inl, ℕ, Bool, true, false, List, [], ◌∷◌, ◌++◌, length, map, Some, None, refl, sym, ap, subst}
use Rattle.std.specs.Prelude.{◌&&◌, take, drop}
use Rattle.go_grammar.specs.declared.kind.Category.{Category}
use Rattle.go_grammar.specs.declared.kind.Category.TheVariants as category
use Rattle.go_grammar.specs.declared.kind.Kind.{Kind}
use Rattle.go_grammar.specs.declared.kind.Kind.TheVariants as kind
use Rattle.go_grammar.specs.declared.kind.Place.{Place}
use Rattle.go_grammar.specs.Categories.{place_of, is_post}
use Rattle.go_grammar.specs.Categories as categories
use Rattle.go_grammar.specs.Grammar.{is_name, are_names}
use Rattle.go_grammar.specs.Trees.{Tree, node, Trees, kind_of}
use Rattle.go_grammar.specs.Trees as syntax
use Rattle.go_typed.specs.declared.form.Form.{Form}
use Rattle.go_typed.specs.declared.form.Form.TheVariants as form
use Rattle.go_typed.specs.Trees.{Nothing, typed, row, list_of, form_of}
use Rattle.go_typed.specs.Trees as trees
use Rattle.go_exprs_rules.specs.declared.fault.TypeFault.{TypeFault}
use Rattle.go_exprs_rules.specs.Scopes.{Hint, several, declares, free}
use Rattle.go_exprs_rules.specs.Settling.{Part}
use Rattle.go_exprs_rules.specs.Tables.{Parts, held}
use Rattle.go_exprs_rules.specs.Tables as tables
use Rattle.go_exprs_rules.specs.Typing.{typing, typings}
use Rattle.go_stmts_defs.specs.Assigning.{Wanted, declared_names, whole_results, value_types_by, values_take}
use Rattle.go_stmts_defs.specs.Frames.{Frame, Locals, rights_of, scope_of}
use Rattle.go_stmts_defs.specs.Laying.{told, alone_or_value, form_by, layout, held_count, new_form, new_name, with_form}
use Rattle.go_stmts_defs.specs.Reading.{Found, holding, holdings, entering, Reading, read, Readings, all_read, closed, after, reading, readings}
use Rattle.go_stmts_defs.specs.Rules.{own_faults, known_type, define_takes, split_at, built_by}
use Rattle.go_stmts_final_types.specs.Shapes.{IsShaped}
use Rattle.go_stmts_scopes.specs.Shapes.{IsName, IsPost, IsFirst}
use Rattle.go_stmts_scopes.specs.Statements.{tree_in, IsSimple}
use Rattle.go_stmts_scopes.proofs.DeclaredNames.{AreOpen, AllNames, names_row, names_given, open_append, open_names, open_values, new_declared}
use Rattle.go_stmts_scopes.proofs.Derivations.{list_shaped, simple_tree}
use Rattle.go_stmts_scopes.proofs.Typed.{AllRun, soundness}
use Rattle.go_stmts_scopes.proofs.TypedStatements.{parts_in, HoldsRun, run_append, list_read, reading_simple}
use Rattle.go_stmts_scopes.proofs.Never.{never}

-- ---- readings

-- what holds of the tree of a node holds where it does for each tree of the next part
pub more_shape : (P T : Part → Type 0) (before : Frame) (k : Kind) (h : Hint) (i j : ℕ) (all : Trees) (s : Frame) (xs : Parts) (fs : Found) (p : Tree) (ps : Trees) → T (tree_in (reading (entering k xs s) (told k h all xs (kind_of p)) p))
    → ((x : Part) (gs : Found) (t : Frame) → T x → P (tree_in (closed before k i j all (readings t k h all (xs ++ Some x ∷ []) (fs ++ gs) ps)))) → P (tree_in (closed before k i j all (readings s k h all xs fs (syntax.more p ps))))
more_shape P T before k h i j all s xs fs p ps fact go = by (reading (entering k xs s) (told k h all xs (kind_of p)) p) fact
  where
    by : (r : Reading) → T (tree_in r) → P (tree_in (closed before k i j all (after r (λ x gs t. readings t k h all (xs ++ Some x ∷ []) (fs ++ gs) ps))))
    by (read x gs t) fact = go x gs t fact

-- and of all parts
pub closed_shape : (P : Part → Type 0) (before : Frame) (k : Kind) (i j : ℕ) (all : Trees) (r : Readings) → ((s : Frame) (es : List TypeFault) → P (built_by s k (form_by k (parts_in r)) i j (layout s k i (parts_in r)) es))
    → P (tree_in (closed before k i j all r))
closed_shape P before k i j all (all_read xs fs s) h = h s (own_faults s k (form_by k xs) i j (layout s k i xs))

-- ---- rows

both_left : (b c : Bool) → (b && c) ≡ true → b ≡ true
both_left true c e = refl
both_left false c e = e

both_right : (b c : Bool) → (b && c) ≡ true → c ≡ true
both_right true c e = e
both_right false c e = cc

pub nothing_behind : {A : Type 0} (xs : List A) → xs ++ [] ≡ xs
nothing_behind [] = refl
nothing_behind (x ∷ xs) = ap (λ ys. x ∷ ys) (nothing_behind xs)

pub list_row : (xs : Parts) → list_of (row xs) ≡ xs
list_row [] = refl
list_row (None ∷ xs) = ap (λ ys. None ∷ ys) (list_row xs)
list_row (Some x ∷ xs) = ap (λ ys. Some x ∷ ys) (list_row xs)

-- ---- names and values

-- what a holder of names holds
abbrev pub HoldsNames : Part → Type 0
HoldsNames x = AllNames (held (Some x))

open_define : (s : Frame) (ns xs : List Part) → AreOpen (define_takes s ns xs)
open_define s ns xs =
    let ts : Wanted = map (known_type s.locals) ns in
    open_append (declared_names (rights_of s) ts xs) (values_take ts xs) (open_names ts (value_types_by xs (whole_results (rights_of s) xs))) (open_values ts xs)

define_parts : (s : Frame) (i j : ℕ) (ns vs : Parts) (es : List TypeFault) → AllNames ns → AllRun vs → IsFirst (built_by s kind.Define (form.Define (length ns)) i j (ns ++ vs) es)
define_parts s i j ns vs [] g e = (
  refl,
  names_given (split_at (length ns) (define_takes s) (ns ++ vs)) ns vs (open_define s (take (length ns) (tables.present (ns ++ vs))) (drop (length ns) (tables.present (ns ++ vs)))) g e,
)
define_parts s i j ns vs (z ∷ es) g e = (refl, names_row ns vs g e)

pub define_row : (s : Frame) (i j : ℕ) (x v : Part) (es : List TypeFault) → HoldsNames x → HoldsRun v → IsFirst (built_by s kind.Define (form.Define (held_count (Some x))) i j (held (Some x) ++ (held (Some v) ++ [])) es)
define_row s i j x v es g e = define_parts s i j (held (Some x)) (held (Some v) ++ []) es g (run_append (held (Some v)) [] e tt)

-- a name in front of `:=`
name_read : (ls : Locals) (s : Frame) (h : Hint) (t : Tree) → is_name (kind_of t) ≡ true → h ≡ declares → IsName (with_form (new_form ls) (holding s h t))
name_read ls s h (node kind.Name i j ps) e d =
    subst (λ z. IsName (with_form (new_form ls) (typing (scope_of s) z (node kind.Name i j ps)))) (sym d) (by (soundness (scope_of s) kind.Name declares i j (typings (scope_of s) kind.Name declares ps [] ps)))
  where
    by : (b : Bool) → IsName (with_form (new_form ls) (tables.built_by (scope_of s) kind.Name declares i j (typings (scope_of s) kind.Name declares ps [] ps) b))
    by true = new_declared ls (scope_of s) (s.around.objects i) Nothing i j _ _ _ refl
    by false = new_declared ls (scope_of s) (s.around.objects i) trees.Unknown i j _ _ _ refl
name_read ls s h (node k i j ps) e d = absurd (never e)

one_new : (ls : Locals) (xs : Parts) (x : Part) → AllNames (map (new_name ls) xs) → IsName (with_form (new_form ls) x) → AllNames (map (new_name ls) (xs ++ Some x ∷ []))
one_new ls [] x h e = (e, tt)
one_new ls (None ∷ xs) x h e = absurd h
one_new ls (Some y ∷ xs) x h e = (h.0, one_new ls xs x h.1 e)

names_held : (ls : Locals) (s : Frame) (h : Hint) (all : Trees) (xs : Parts) (ps : Trees) → alone_or_value all h ≡ declares → are_names ps ≡ true → AllNames (map (new_name ls) xs)
    → AllNames (map (new_name ls) (holdings s kind.ExpressionList h all xs ps))
names_held ls s h all xs syntax.none d e g = g
names_held ls s h all xs (syntax.more p ps) d e g =
    let q : Part = holding s (alone_or_value all h) p in
    names_held ls s h all (xs ++ Some q ∷ []) ps d (both_right (is_name (kind_of p)) (are_names ps) e) (one_new ls xs q g (name_read ls s (alone_or_value all h) p (both_left (is_name (kind_of p)) (are_names ps) e) d))
names_held ls s h all xs (syntax.skip ps) d e g = cc

pub new_names : (p : Place) (s : Frame) (h : Hint) (t : Tree) → IsShaped (category.NewNames p) t → HoldsNames (tree_in (reading s h t))
new_names p s h (node kind.NewNames i j (syntax.more (node kind.ExpressionList a b ps) syntax.none)) g =
    let ns : Parts = holdings s kind.ExpressionList declares ps [] ps in
    let new : Parts → Parts = map (new_name s.locals) in
    subst AllNames (sym (list_row (new (list_of (row ns) ++ []))))
    (subst (λ xs. AllNames (new xs)) (sym (nothing_behind (list_of (row ns)) ∙ list_row ns)) (names_held s.locals s declares ps [] ps refl g.2 tt))
new_names p s h (node kind.NewNames i j (syntax.more (node k a b ps) syntax.none)) g = absurd (never g.1.0.0)
new_names p s h (node kind.NewNames i j (syntax.more x (syntax.more y ps))) g = absurd g.1.1
new_names p s h (node kind.NewNames i j (syntax.more x (syntax.skip ps))) g = absurd g.1.1
new_names p s h (node kind.NewNames i j syntax.none) g = absurd g.1
new_names p s h (node kind.NewNames i j (syntax.skip ps)) g = absurd g.1
new_names p s h (node k i j ps) g = absurd (never g.0)

-- ---- definitions

pub define_read : (c : Category) (s : Frame) (h : Hint) (i j : ℕ) (ps : Trees) → IsShaped c (node kind.Define i j ps) → IsFirst (tree_in (reading s h (node kind.Define i j ps)))
define_read c s h i j (syntax.more x (syntax.more v syntax.none)) g =
    let all : Trees = syntax.more x (syntax.more v syntax.none) in
    more_shape IsFirst HoldsNames s kind.Define h i j all s [] [] x (syntax.more v syntax.none) (new_names (place_of c) s free x g.1.0)
    (λ y gs t ey. more_shape IsFirst HoldsRun s kind.Define h i j all t (Some y ∷ []) gs v syntax.none (list_read t several v (list_shaped (category.ExpressionList (place_of c)) (place_of c) v (inl refl) g.1.1.0) refl)
    (λ z fs u ez. closed_shape IsFirst s kind.Define i j all (readings u kind.Define h all (Some y ∷ Some z ∷ []) (gs ++ fs) syntax.none) (λ w es. define_row w i j y z es ey ez)))
define_read c s h i j (syntax.more x (syntax.more v (syntax.more y ps))) g = absurd g.1.1.1
define_read c s h i j (syntax.more x (syntax.more v (syntax.skip ps))) g = absurd g.1.1.1
define_read c s h i j (syntax.more x syntax.none) g = absurd g.1.1
define_read c s h i j (syntax.more x (syntax.skip ps)) g = absurd g.1.1
define_read c s h i j syntax.none g = absurd g.1
define_read c s h i j (syntax.skip ps) g = absurd g.1

-- ---- simple statements

pub post_first : (x : Part) → IsPost x → IsFirst x
post_first (typed (form.Define n) i j l ps) h = let z : false ≡ true = h.1 in cc
post_first (typed f i j l ps) h = h

abbrev is_return : Form → Bool
is_return form.Return = true
is_return f = false

simple_post : (x : Part) → IsSimple x → is_return (form_of x) ≡ false → IsPost x
simple_post (typed form.Return i j l ps) h e = cc
simple_post (typed f i j l ps) h e = (h.0, h.1, h.2)

no_return : (s : Frame) (k : Kind) (f : Form) (i j : ℕ) (ys : Parts) (es : List TypeFault) → is_return f ≡ false → is_return (form_of (built_by s k f i j ys es)) ≡ false
no_return s k f i j ys [] e = e
no_return s k f i j ys (x ∷ es) e = e

closed_no_return : (s : Frame) (k : Kind) (i j : ℕ) (ps : Trees) (r : Readings) → is_return (form_by k (parts_in r)) ≡ false → is_return (form_of (tree_in (closed s k i j ps r))) ≡ false
closed_no_return s k i j ps (all_read xs fs u) e = no_return u k (form_by k xs) i j (layout u k i xs) (own_faults u k (form_by k xs) i j (layout u k i xs)) e

pub post_read : (c : Category) (s : Frame) (h : Hint) (t : Tree) → is_post (kind_of t) ≡ true → IsShaped c t → IsPost (tree_in (reading s h t))
post_read c s h (node kind.ExpressionStatement i j ps) e g =
    let t : Tree = node kind.ExpressionStatement i j ps in
    simple_post (tree_in (reading s h t)) (reading_simple s h t (simple_tree c t refl g))
    (closed_no_return s kind.ExpressionStatement i j ps (readings s kind.ExpressionStatement h ps [] [] ps) refl)
post_read c s h (node (kind.StepStatement o) i j ps) e g =
    let t : Tree = node (kind.StepStatement o) i j ps in
    simple_post (tree_in (reading s h t)) (reading_simple s h t (simple_tree c t refl g))
    (closed_no_return s (kind.StepStatement o) i j ps (readings s (kind.StepStatement o) h ps [] [] ps) refl)
post_read c s h (node (kind.OperatorAssignment o) i j ps) e g =
    let t : Tree = node (kind.OperatorAssignment o) i j ps in
    simple_post (tree_in (reading s h t)) (reading_simple s h t (simple_tree c t refl g))
    (closed_no_return s (kind.OperatorAssignment o) i j ps (readings s (kind.OperatorAssignment o) h ps [] [] ps) refl)
post_read c s h (node kind.Assignment i j ps) e g =
    let t : Tree = node kind.Assignment i j ps in
    simple_post (tree_in (reading s h t)) (reading_simple s h t (simple_tree c t refl g))
    (closed_no_return s kind.Assignment i j ps (readings s kind.Assignment h ps [] [] ps) refl)
post_read c s h (node k i j ps) e g = absurd (never e)

pub first_read : (c : Category) (s : Frame) (h : Hint) (t : Tree) → categories.is_simple (kind_of t) ≡ true → IsShaped c t → IsFirst (tree_in (reading s h t))
first_read c s h (node kind.Define i j ps) e g = define_read c s h i j ps g
first_read c s h (node kind.ExpressionStatement i j ps) e g = post_first (tree_in (reading s h (node kind.ExpressionStatement i j ps))) (post_read c s h (node kind.ExpressionStatement i j ps) refl g)
first_read c s h (node (kind.StepStatement o) i j ps) e g = post_first (tree_in (reading s h (node (kind.StepStatement o) i j ps))) (post_read c s h (node (kind.StepStatement o) i j ps) refl g)
first_read c s h (node (kind.OperatorAssignment o) i j ps) e g = post_first (tree_in (reading s h (node (kind.OperatorAssignment o) i j ps))) (post_read c s h (node (kind.OperatorAssignment o) i j ps) refl g)
first_read c s h (node kind.Assignment i j ps) e g = post_first (tree_in (reading s h (node kind.Assignment i j ps))) (post_read c s h (node kind.Assignment i j ps) refl g)
first_read c s h (node k i j ps) e g = absurd (never e)
