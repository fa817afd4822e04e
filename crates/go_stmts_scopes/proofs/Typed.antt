-- What is typed as an expression is one.
use Rattle.std.proofs.Common.{◌≡◌, ◌∙◌, ◌⊎◌, inl, inr, ℕ, Bool, true, false, List, [], ◌∷◌, ◌++◌, Option, Some, None, refl, sym, ap, subst}
use Rattle.std.specs.Prelude.{◌-◌, if◌then◌else◌}
use Rattle.go_grammar.specs.declared.kind.Category.TheVariants as category
use Rattle.go_grammar.specs.declared.kind.Kind.{Kind}
use Rattle.go_grammar.specs.declared.kind.Kind.TheVariants as kind
use Rattle.go_grammar.specs.Categories.{within}
use Rattle.go_grammar.specs.Trees.{Tree, node, Trees, kind_of, parts}
use Rattle.go_grammar.specs.Trees as syntax
use Rattle.go_tree.specs.declared.object.Object.{Object}
use Rattle.go_tree.specs.declared.object.Object.TheVariants as object
use Rattle.go_types.specs.Trees.{TypeTree, array, slice, structure}
use Rattle.go_types.specs.Relations.{Rights}
use Rattle.go_types_relations.specs.Tests.{underlying_of}
use Rattle.go_typed.specs.declared.form.Form.{Form}
use Rattle.go_typed.specs.declared.form.Form.TheVariants as form
use Rattle.go_typed.specs.Trees.{typed, Typeds, row, list_of, form_of, sort_of}
use Rattle.go_typed.specs.Trees as trees
use Rattle.go_exprs_rules.specs.declared.family.OpenKind.{OpenKind}
use Rattle.go_exprs_rules.specs.Names.{name_sort, object_form, form_or_type, name_form}
use Rattle.go_exprs_rules.specs.Scopes.{Scope, Hint, value, type_place, declares, free, member}
use Rattle.go_exprs_rules.specs.Settling.{Part, Take, stay, default, as_type, settled, all_settled, defaulted, given}
use Rattle.go_exprs_rules.specs.Sorts.{Stands, takes_type, retyped, open_kind, default_type}
use Rattle.go_exprs_rules.specs.Tables.{Parts, in_parentheses, element_in, element_told, told_type, is_make, argument_told, call_told, hint, part_scope, is_held, leaf, is_type, cut, first_cut, call_parts, bounds_of}
use Rattle.go_exprs_rules.specs.Tables.{bracketed_parts, is_package, selector_parts, behind_first, layout, callee_form, on_first, key_form, selector_form, bracketed_form, form_by, takes, all_given, is_sound, own_faults, built_by}
use Rattle.go_exprs_rules.specs.TypeNodes.{part_type}
use Rattle.go_exprs_rules.specs.Typing.{typing, typings}
use Rattle.go_stmts_scopes.specs.Runs.{is_leaf, holds_expressions, IsExpression, AreExpressions, HasBracket, HasBrackets, AllHaveBrackets}
use Rattle.go_stmts_scopes.specs.Scoped.{is_use}

-- ---- parts

abbrev pub AllRun : Parts → Type 0
AllRun [] = Unit {0}
AllRun (None ∷ xs) = AllRun xs
AllRun (Some x ∷ xs) = IsExpression x × AllRun xs

pub row_runs : (xs : Parts) → AllRun xs → AreExpressions (row xs)
row_runs [] h = tt
row_runs (None ∷ xs) h = row_runs xs h
row_runs (Some x ∷ xs) h = (h.0, row_runs xs h.1)

list_runs : (ps : Typeds TypeTree) → AreExpressions ps → AllRun (list_of ps)
list_runs trees.none h = tt
list_runs (trees.more p ps) h = (h.0, list_runs ps h.1)
list_runs (trees.skip ps) h = list_runs ps h

list_row : (xs : Parts) → list_of (row xs) ≡ xs
list_row [] = refl
list_row (None ∷ xs) = ap (λ ys. None ∷ ys) (list_row xs)
list_row (Some x ∷ xs) = ap (λ ys. Some x ∷ ys) (list_row xs)

pub one_more : (xs : Parts) (x : Part) → AllRun xs → IsExpression x → AllRun (xs ++ Some x ∷ [])
one_more [] x h e = (e, tt)
one_more (None ∷ xs) x h e = one_more xs x h e
one_more (Some y ∷ xs) x h e = (h.0, one_more xs x h.1 e)

one_absent : (xs : Parts) → AllRun xs → AllRun (xs ++ None ∷ [])
one_absent [] h = tt
one_absent (None ∷ xs) h = one_absent xs h
one_absent (Some y ∷ xs) h = (h.0, one_absent xs h.1)

-- ---- what parts take

mutual
  pub settled_runs : (t : TypeTree) (x : Part) → IsExpression x → IsExpression (settled t x)
  settled_runs t (typed f i j l ps) (inl e) = by (takes_type l.sort)
    where
      by : (b : Bool) → IsExpression (if b then typed f i j (record l { sort = retyped t l.sort }) (all_settled t ps) else typed f i j l ps)
      by true = inl e
      by false = inl e
  settled_runs t (typed f i j l ps) (inr e) = by (takes_type l.sort) (all_settled_run t ps e.1)
    where
      by : (b : Bool) → AreExpressions (all_settled t ps) → IsExpression (if b then typed f i j (record l { sort = retyped t l.sort }) (all_settled t ps) else typed f i j l ps)
      by true h = inr (e.0, h)
      by false h = inr e

  all_settled_run : (t : TypeTree) (ps : Typeds TypeTree) → AreExpressions ps → AreExpressions (all_settled t ps)
  all_settled_run t trees.none h = tt
  all_settled_run t (trees.more p ps) h = (settled_runs t p h.0, all_settled_run t ps h.1)
  all_settled_run t (trees.skip ps) h = all_settled_run t ps h

defaulted_runs : (k : Option OpenKind) (x : Part) → IsExpression x → IsExpression (defaulted k x)
defaulted_runs None x h = h
defaulted_runs (Some k) x h = settled_runs (default_type k) x h

pub given_runs : (k : Take) (x : Part) → IsExpression x → IsExpression (given k x)
given_runs stay x h = h
given_runs default x h = defaulted_runs (open_kind (sort_of x)) x h
given_runs (as_type t) x h = settled_runs t x h

all_given_run : (ks : List Take) (xs : Parts) → AllRun xs → AllRun (all_given ks xs)
all_given_run [] xs h = h
all_given_run (k ∷ ks) [] h = tt
all_given_run (k ∷ ks) (None ∷ xs) h = all_given_run ks xs h
all_given_run (k ∷ ks) (Some x ∷ xs) h = (given_runs k x h.0, all_given_run ks xs h.1)

-- ---- a node

leaf_node : (s : Scope) (k : Kind) (h : Hint) (i j : ℕ) (ys : Parts) (b : Bool) → is_leaf (form_by s k h i j ys) ≡ true → IsExpression (built_by s k h i j ys b)
leaf_node s k h i j ys true e = inl e
leaf_node s k h i j ys false e = inl e

inner_node : (s : Scope) (k : Kind) (h : Hint) (i j : ℕ) (ys : Parts) (b : Bool) → holds_expressions (form_by s k h i j ys) ≡ true → AllRun ys → IsExpression (built_by s k h i j ys b)
inner_node s k h i j ys true e g = inr (e, row_runs (all_given (takes s k h ys) ys) (all_given_run (takes s k h ys) ys g))
inner_node s k h i j ys false e g = inr (e, row_runs ys g)

selected : (s : Scope) (h : Hint) (i j : ℕ) (ys : Parts) (b : Bool) → (is_leaf (form_by s kind.Selector h i j ys) ≡ true) ⊎ (holds_expressions (form_by s kind.Selector h i j ys) ≡ true) → AllRun ys
    → IsExpression (built_by s kind.Selector h i j ys b)
selected s h i j ys b (inl e) g = leaf_node s kind.Selector h i j ys b e
selected s h i j ys b (inr e) g = inner_node s kind.Selector h i j ys b e g

-- ---- names

pub object_leaf : (s : Scope) (o : Option Object) → is_leaf (object_form s o) ≡ true
object_leaf s None = refl
object_leaf s (Some object.Import) = refl
object_leaf s (Some (object.Predeclared p)) = refl
object_leaf s (Some (object.Package n)) = refl
object_leaf s (Some (object.Local f n)) = refl

type_leaf : (x : Stands) (f : Form) → is_leaf f ≡ true → is_leaf (form_or_type x f) ≡ true
type_leaf (trees.IsType t) f e = refl
type_leaf x f e = e

name_leaf : (s : Scope) (h : Hint) (i : ℕ) → is_use h ≡ true → is_leaf (name_form s h i) ≡ true
name_leaf s declares i e = cc
name_leaf s free i e = cc
name_leaf s h i e = type_leaf (name_sort s h i) (object_form s (s.objects i)) (object_leaf s (s.objects i))

-- ---- what parts are told

use_parentheses : (h : Hint) → is_use h ≡ true → is_use (in_parentheses h) ≡ true
use_parentheses declares e = cc
use_parentheses free e = cc
use_parentheses h e = refl

use_element : (t : TypeTree) (u : Option TypeTree) → is_use (element_in t u) ≡ true
use_element t (Some (array n e)) = refl
use_element t (Some (slice e)) = refl
use_element t (Some (structure ns ts)) = refl
use_element t u = refl

use_told : (rights : Rights) (o : Option TypeTree) → is_use (element_told rights o) ≡ true
use_told rights None = refl
use_told rights (Some t) = use_element t (underlying_of rights t)

use_argument : (xs : Parts) → is_use (argument_told xs) ≡ true
use_argument (Some f ∷ []) = by (is_make (sort_of f))
  where
    by : (b : Bool) → is_use (if b then type_place else value) ≡ true
    by true = refl
    by false = refl
use_argument xs = refl

use_call : (xs : Parts) → is_use (call_told xs) ≡ true
use_call [] = refl
use_call (x ∷ xs) = use_argument (x ∷ xs)

-- kinds all of whose parts are expressions
abbrev is_over : Kind → Bool
is_over kind.Parenthesized = true
is_over (kind.Unary o) = true
is_over (kind.Binary o) = true
is_over kind.Selector = true
is_over kind.Bracketed = true
is_over kind.Bounds = true
is_over kind.BoundsFrom = true
is_over kind.Call = true
is_over kind.Composite = true
is_over kind.LiteralValue = true
is_over k = false

use_composite : (s : Scope) (h : Hint) (ps : Trees) (xs : Parts) (k : Kind) → is_use (hint s kind.Composite h ps xs k) ≡ true
use_composite s h ps [] k = refl
use_composite s h ps (t ∷ xs) k = use_told s.rights (part_type t)

use_part : (s : Scope) (k : Kind) (h : Hint) (ps : Trees) (xs : Parts) (n : Kind) → is_over k ≡ true → is_use h ≡ true → is_use (hint s k h ps xs n) ≡ true
use_part s kind.Parenthesized h ps xs n o e = use_parentheses h e
use_part s kind.Call h ps xs n o e = use_call xs
use_part s kind.Composite h ps xs n o e = use_composite s h ps xs n
use_part s kind.LiteralValue h ps xs n o e = use_told s.rights (told_type h)
use_part s (kind.Unary u) h ps xs n o e = refl
use_part s (kind.Binary u) h ps xs n o e = refl
use_part s kind.Selector h ps xs n o e = refl
use_part s kind.Bracketed h ps xs n o e = refl
use_part s kind.Bounds h ps xs n o e = refl
use_part s kind.BoundsFrom h ps xs n o e = refl
use_part s k h ps xs n o e = absurd cc

-- ---- layouts

cut_some : (x : Part) (b : Bool) (xs : Parts) → IsExpression x → AllRun xs → AllRun ((if b then Some (leaf x) else Some x) ∷ xs)
cut_some (typed f i j l ps) true xs h g = (inl refl, g)
cut_some x false xs h g = (h, g)

pub first_cut_runs : (xs : Parts) → AllRun xs → AllRun (first_cut xs)
first_cut_runs [] h = tt
first_cut_runs (None ∷ xs) h = h
first_cut_runs (Some x ∷ xs) h = cut_some x (is_type (sort_of x)) xs h.0 h.1

call_runs : (xs : Parts) → AllRun xs → AllRun (call_parts xs)
call_runs [] h = tt
call_runs (None ∷ xs) h = h
call_runs (Some f ∷ xs) h = by (is_make (sort_of f)) (first_cut_runs xs h.1) (cut_some f (is_type (sort_of f)) xs h.0 h.1)
  where
    by : (b : Bool) → AllRun (first_cut xs) → AllRun (cut (Some f) ∷ xs) → AllRun (if b then Some f ∷ first_cut xs else cut (Some f) ∷ xs)
    by true x y = (h.0, x)
    by false x y = y

selector_runs : (xs : Parts) → AllRun xs → AllRun (selector_parts xs)
selector_runs [] h = tt
selector_runs (None ∷ xs) h = h
selector_runs (Some x ∷ []) h = by (is_package (sort_of x))
  where
    by : (b : Bool) → AllRun (if b then [] else Some x ∷ [])
    by true = tt
    by false = h
selector_runs (Some x ∷ y ∷ xs) h = h

selector_by : (s : Scope) (h : Hint) (i j : ℕ) (name : List ℕ) (ys : Parts) → (is_leaf (selector_form s.rights name ys) ≡ true) ⊎ (holds_expressions (selector_form s.rights name ys) ≡ true)
selector_by s h i j name [] = inl refl
selector_by s h i j name (Some x ∷ []) = inr refl
selector_by s h i j name (None ∷ xs) = inl refl
selector_by s h i j name (Some x ∷ y ∷ xs) = inl refl

bracketed_by : (ys : Parts) → holds_expressions (bracketed_form ys) ≡ true
bracketed_by [] = refl
bracketed_by (x ∷ []) = refl
bracketed_by (x ∷ y ∷ []) = refl
bracketed_by (x ∷ y ∷ z ∷ xs) = refl

callee_by : (x : Stands) → holds_expressions (callee_form x) ≡ true
callee_by (trees.IsType t) = refl
callee_by x = refl

call_by : (ys : Parts) → holds_expressions (on_first form.Call (λ f xs. callee_form (sort_of f)) ys) ≡ true
call_by [] = refl
call_by (None ∷ xs) = refl
call_by (Some x ∷ xs) = callee_by (sort_of x)

key_by : (rights : Rights) (h : Hint) (name : List ℕ) → holds_expressions (key_form rights h name) ≡ true
key_by rights (member t) name = refl
key_by rights h name = refl

-- ---- bounds

-- an index or bounds, of which the parts are expressions
abbrev IsBracket : Option Part → Type 0
IsBracket x = AllRun (bounds_of x)

bracketed_runs : (x y : Option Part) (ys : Parts) → AllRun (x ∷ []) → IsBracket y → AllRun (bracketed_parts (x ∷ y ∷ ys))
bracketed_runs None y ys h g = g
bracketed_runs (Some x) y ys h g = (h.0, g)

object_unheld : (s : Scope) (o : Option Object) → is_held (object_form s o) ≡ false
object_unheld s None = refl
object_unheld s (Some object.Import) = refl
object_unheld s (Some (object.Predeclared p)) = refl
object_unheld s (Some (object.Package n)) = refl
object_unheld s (Some (object.Local f n)) = refl

type_unheld : (x : Stands) (f : Form) → is_held f ≡ false → is_held (form_or_type x f) ≡ false
type_unheld (trees.IsType t) f e = refl
type_unheld x f e = e

name_unheld : (s : Scope) (h : Hint) (i : ℕ) → is_use h ≡ true → is_held (name_form s h i) ≡ false
name_unheld s declares i e = cc
name_unheld s free i e = cc
name_unheld s h i e = type_unheld (name_sort s h i) (object_form s (s.objects i)) (object_unheld s (s.objects i))

selector_unheld : (rights : Rights) (name : List ℕ) (ys : Parts) → is_held (selector_form rights name ys) ≡ false
selector_unheld rights name [] = refl
selector_unheld rights name (Some x ∷ []) = refl
selector_unheld rights name (None ∷ xs) = refl
selector_unheld rights name (Some x ∷ y ∷ xs) = refl

bracketed_unheld : (ys : Parts) → is_held (bracketed_form ys) ≡ false
bracketed_unheld [] = refl
bracketed_unheld (x ∷ []) = refl
bracketed_unheld (x ∷ y ∷ []) = refl
bracketed_unheld (x ∷ y ∷ z ∷ xs) = refl

callee_unheld : (x : Stands) → is_held (callee_form x) ≡ false
callee_unheld (trees.IsType t) = refl
callee_unheld x = refl

call_unheld : (ys : Parts) → is_held (on_first form.Call (λ f xs. callee_form (sort_of f)) ys) ≡ false
call_unheld [] = refl
call_unheld (None ∷ xs) = refl
call_unheld (Some x ∷ xs) = callee_unheld (sort_of x)

abbrev pub is_bounds : Kind → Bool
is_bounds kind.Bounds = true
is_bounds kind.BoundsFrom = true
is_bounds k = false

pub unheld : (s : Scope) (k : Kind) (h : Hint) (i j : ℕ) (ys : Parts) → is_use h ≡ true → within category.Bracket k ≡ true → is_bounds k ≡ false → is_held (form_by s k h i j ys) ≡ false
unheld s kind.Name h i j ys e w b = name_unheld s h i e
unheld s kind.Integer h i j ys e w b = refl
unheld s kind.Rune h i j ys e w b = refl
unheld s kind.Text h i j ys e w b = refl
unheld s kind.Parenthesized h i j ys e w b = refl
unheld s (kind.Unary o) h i j ys e w b = refl
unheld s (kind.Binary o) h i j ys e w b = refl
unheld s kind.Selector h i j ys e w b = selector_unheld s.rights (s.texts (j - 1)) ys
unheld s kind.Bracketed h i j ys e w b = bracketed_unheld ys
unheld s kind.Call h i j ys e w b = call_unheld ys
unheld s kind.Composite h i j ys e w b = refl
unheld s kind.LiteralValue h i j ys e w b = refl
unheld s kind.ParenthesizedType h i j ys e w b = refl
unheld s kind.SequenceType h i j ys e w b = refl
unheld s kind.FunctionType h i j ys e w b = refl
unheld s kind.StructType h i j ys e w b = refl
unheld s k h i j ys e w b = cc

unheld_bracket : (x : Part) → is_held (form_of x) ≡ false → IsExpression x → IsBracket (Some x)
unheld_bracket (typed (form.Held k) i j l ps) e h = cc
unheld_bracket (typed f i j l ps) e h = (h, tt)

pub built_form : (s : Scope) (k : Kind) (h : Hint) (i j : ℕ) (ys : Parts) (b : Bool) → form_of (built_by s k h i j ys b) ≡ form_by s k h i j ys
built_form s k h i j ys true = refl
built_form s k h i j ys false = refl

pub held_parts : (ys : Parts) → AllRun ys → AllRun (list_of (row ys))
held_parts ys h = subst AllRun (sym (list_row ys)) h

bracket : (s : Scope) (k : Kind) (h : Hint) (i j : ℕ) (ys : Parts) (b : Bool) → is_use h ≡ true → within category.Bracket k ≡ true → (is_bounds k ≡ true → AllRun ys) → IsExpression (built_by s k h i j ys b)
    → IsBracket (Some (built_by s k h i j ys b))
bracket s kind.Bounds h i j ys true e w g x = held_parts ys (g refl)
bracket s kind.Bounds h i j ys false e w g x = held_parts ys (g refl)
bracket s kind.BoundsFrom h i j ys true e w g x = held_parts ys (g refl)
bracket s kind.BoundsFrom h i j ys false e w g x = held_parts ys (g refl)
bracket s k h i j ys b e w g x = unheld_bracket (built_by s k h i j ys b) (ap is_held (built_form s k h i j ys b) ∙ unheld s k h i j ys e w refl) x

-- the first two parts stay
front : (s : Scope) (k : Kind) (h : Hint) (all : Trees) (x y : Option Part) (ys : Parts) (qs : Trees) → (rest : Parts) × (typings s k h all (x ∷ y ∷ ys) qs ≡ x ∷ y ∷ rest)
front s k h all x y ys syntax.none = (ys, refl)
front s k h all x y ys (syntax.more q qs) = front s k h all x y (ys ++ Some (typing (part_scope s k (x ∷ y ∷ ys)) (hint s k h all (x ∷ y ∷ ys) (kind_of q)) q) ∷ []) qs
front s k h all x y ys (syntax.skip qs) = front s k h all x y (ys ++ None ∷ []) qs

bracketed_all : (s : Scope) (h : Hint) (all : Trees) (x y : Option Part) (qs : Trees) → AllRun (x ∷ []) → IsBracket y → AllRun (bracketed_parts (typings s kind.Bracketed h all (x ∷ y ∷ []) qs))
bracketed_all s h all x y qs g b = let f = front s kind.Bracketed h all x y [] qs in subst (λ zs. AllRun (bracketed_parts zs)) (sym f.1) (bracketed_runs x y f.0 g b)

-- ---- trees

abbrev pub soundness : Scope → Kind → Hint → ℕ → ℕ → Parts → Bool
soundness s k h i j ys = is_sound k ys (own_faults s k h i j ys)

bracket_runs : (s : Scope) (t : Tree) → within category.Bracket (kind_of t) ≡ true → IsExpression (typing s value t)
    → (is_bounds (kind_of t) ≡ true → AllRun (layout (kind_of t) (typings s (kind_of t) value (parts t) [] (parts t)))) → IsBracket (Some (typing s value t))
bracket_runs s (node k i j ps) w x g = let ys : Parts = layout k (typings s k value ps [] ps) in bracket s k value i j ys (soundness s k value i j ys) refl w g x

mutual
  -- what is typed as an expression
  pub typing_runs : (s : Scope) (h : Hint) (t : Tree) → is_use h ≡ true → HasBrackets t → IsExpression (typing s h t)
  typing_runs s h (node kind.Name i j ps) e g = let ys : Parts = typings s kind.Name h ps [] ps in leaf_node s kind.Name h i j ys (soundness s kind.Name h i j ys) (name_leaf s h i e)
  typing_runs s h (node kind.Parenthesized i j ps) e g =
      let ys : Parts = typings s kind.Parenthesized h ps [] ps in inner_node s kind.Parenthesized h i j ys (soundness s kind.Parenthesized h i j ys) refl (over_runs s kind.Parenthesized h ps [] ps refl e tt g.1)
  typing_runs s h (node (kind.Unary o) i j ps) e g =
      let ys : Parts = typings s (kind.Unary o) h ps [] ps in inner_node s (kind.Unary o) h i j ys (soundness s (kind.Unary o) h i j ys) refl (over_runs s (kind.Unary o) h ps [] ps refl e tt g.1)
  typing_runs s h (node (kind.Binary o) i j ps) e g =
      let ys : Parts = typings s (kind.Binary o) h ps [] ps in inner_node s (kind.Binary o) h i j ys (soundness s (kind.Binary o) h i j ys) refl (over_runs s (kind.Binary o) h ps [] ps refl e tt g.1)
  typing_runs s h (node kind.Selector i j ps) e g =
      let ys : Parts = selector_parts (typings s kind.Selector h ps [] ps) in
      selected s h i j ys (soundness s kind.Selector h i j ys) (selector_by s h i j (s.texts (j - 1)) ys) (selector_runs (typings s kind.Selector h ps [] ps) (over_runs s kind.Selector h ps [] ps refl e tt g.1))
  typing_runs s h (node kind.Bracketed i j ps) e g =
      let ys : Parts = bracketed_parts (typings s kind.Bracketed h ps [] ps) in inner_node s kind.Bracketed h i j ys (soundness s kind.Bracketed h i j ys) (bracketed_by ys) (brackets s h ps g.0 g.1)
  typing_runs s h (node kind.Call i j ps) e g =
      let ys : Parts = call_parts (typings s kind.Call h ps [] ps) in
      inner_node s kind.Call h i j ys (soundness s kind.Call h i j ys) (call_by ys) (call_runs (typings s kind.Call h ps [] ps) (over_runs s kind.Call h ps [] ps refl e tt g.1))
  typing_runs s h (node kind.Composite i j ps) e g =
      let ys : Parts = first_cut (typings s kind.Composite h ps [] ps) in
      inner_node s kind.Composite h i j ys (soundness s kind.Composite h i j ys) refl (first_cut_runs (typings s kind.Composite h ps [] ps) (over_runs s kind.Composite h ps [] ps refl e tt g.1))
  typing_runs s h (node kind.LiteralValue i j ps) e g =
      let ys : Parts = None ∷ typings s kind.LiteralValue h ps [] ps in inner_node s kind.LiteralValue h i j ys (soundness s kind.LiteralValue h i j ys) refl (over_runs s kind.LiteralValue h ps [] ps refl e tt g.1)
  typing_runs s h (node kind.Keyed i j ps) e g =
      let ys : Parts = behind_first (typings s kind.Keyed h ps [] ps) in inner_node s kind.Keyed h i j ys (soundness s kind.Keyed h i j ys) (key_by s.rights h (s.texts i)) (keyed_runs s h ps e g.1)
  typing_runs s h (node k i j ps) e g = let ys : Parts = layout k (typings s k h ps [] ps) in leaf_node s k h i j ys (soundness s k h i j ys) refl

  over_runs : (s : Scope) (k : Kind) (h : Hint) (all : Trees) (xs : Parts) (ps : Trees) → is_over k ≡ true → is_use h ≡ true → AllRun xs → AllHaveBrackets ps → AllRun (typings s k h all xs ps)
  over_runs s k h all xs syntax.none o e x g = x
  over_runs s k h all xs (syntax.more p ps) o e x g =
      let q : Part = typing (part_scope s k xs) (hint s k h all xs (kind_of p)) p in
      over_runs s k h all (xs ++ Some q ∷ []) ps o e (one_more xs q x (typing_runs (part_scope s k xs) (hint s k h all xs (kind_of p)) p (use_part s k h all xs (kind_of p) o e) g.0)) g.1
  over_runs s k h all xs (syntax.skip ps) o e x g = over_runs s k h all (xs ++ None ∷ []) ps o e (one_absent xs x) g

  keyed_runs : (s : Scope) (h : Hint) (ps : Trees) → is_use h ≡ true → AllHaveBrackets ps → AllRun (behind_first (typings s kind.Keyed h ps [] ps))
  keyed_runs s h syntax.none e g = tt
  keyed_runs s h (syntax.more p ps) e g = keyed_rest s h (syntax.more p ps) (Some (typing s free p)) [] ps e tt g.1
  keyed_runs s h (syntax.skip ps) e g = keyed_rest s h (syntax.skip ps) None [] ps e tt g

  keyed_rest : (s : Scope) (h : Hint) (all : Trees) (x : Option Part) (xs : Parts) (ps : Trees) → is_use h ≡ true → AllRun xs → AllHaveBrackets ps → AllRun (behind_first (typings s kind.Keyed h all (x ∷ xs) ps))
  keyed_rest s h all x xs syntax.none e r g = r
  keyed_rest s h all x xs (syntax.more p ps) e r g = let q : Part = typing s h p in keyed_rest s h all x (xs ++ Some q ∷ []) ps e (one_more xs q r (typing_runs s h p e g.0)) g.1
  keyed_rest s h all x xs (syntax.skip ps) e r g = keyed_rest s h all x (xs ++ None ∷ []) ps e (one_absent xs r) g

  brackets : (s : Scope) (h : Hint) (ps : Trees) → HasBracket kind.Bracketed ps → AllHaveBrackets ps → AllRun (bracketed_parts (typings s kind.Bracketed h ps [] ps))
  brackets s h syntax.none b g = tt
  brackets s h (syntax.more x syntax.none) b g = (typing_runs s value x refl g.0, tt)
  brackets s h (syntax.more x (syntax.more y qs)) b g =
      bracketed_all s h (syntax.more x (syntax.more y qs)) (Some (typing s value x)) (Some (typing s value y)) qs (typing_runs s value x refl g.0, tt) (bracket_runs s y b (typing_runs s value y refl g.1.0) (λ c. bounds_run s y c g.1.0))
  brackets s h (syntax.more x (syntax.skip qs)) b g = bracketed_all s h (syntax.more x (syntax.skip qs)) (Some (typing s value x)) None qs (typing_runs s value x refl g.0, tt) tt
  brackets s h (syntax.skip syntax.none) b g = tt
  brackets s h (syntax.skip (syntax.more y qs)) b g = bracketed_all s h (syntax.skip (syntax.more y qs)) None (Some (typing s value y)) qs tt (bracket_runs s y b (typing_runs s value y refl g.0) (λ c. bounds_run s y c g.0))
  brackets s h (syntax.skip (syntax.skip qs)) b g = bracketed_all s h (syntax.skip (syntax.skip qs)) None None qs tt tt

  bounds_run : (s : Scope) (t : Tree) → is_bounds (kind_of t) ≡ true → HasBrackets t → AllRun (layout (kind_of t) (typings s (kind_of t) value (parts t) [] (parts t)))
  bounds_run s (node kind.Bounds i j ps) b g = over_runs s kind.Bounds value ps [] ps refl refl tt g.1
  bounds_run s (node kind.BoundsFrom i j ps) b g = over_runs s kind.BoundsFrom value ps [] ps refl refl tt g.1
  bounds_run s (node k i j ps) b g = absurd cc
