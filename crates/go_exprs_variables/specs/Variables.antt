-- Expressions in which variables stand in place of constants, and what is typed then.
use Rattle.std.specs.Prelude.{◌≡◌, ℕ, Bool, true, false, ◌&&◌, ◌||◌, not, nat_eq, if◌then◌else◌, List, [], Option, Some, None, is_some}
use Rattle.std.specs.List.{list_all}
use Rattle.go_grammar.specs.declared.kind.Category.{Category}
use Rattle.go_grammar.specs.declared.kind.Kind.{Kind}
use Rattle.go_grammar.specs.declared.kind.Kind.TheVariants as kind
use Rattle.go_grammar.specs.Trees.{Tree, node, Trees, none, more, skip, kind_of}
use Rattle.go_tree.specs.declared.object.Object.TheVariants as object
use Rattle.go_tree.specs.declared.object.Predeclared.TheVariants as predeclared
use Rattle.go_types.specs.Trees.{TypeTree}
use Rattle.go_types.specs.Relations.{Rights}
use Rattle.go_typed.specs.declared.form.Form.{Form}
use Rattle.go_typed.specs.declared.form.Form.TheVariants as form
use Rattle.go_typed.specs.Trees.{Value, Constant, Sort, Label, Typed, typed, Typeds, sort_of}
use Rattle.go_typed.specs.Trees as sort
use Rattle.go_exprs_rules.specs.declared.family.OpenKind.{OpenKind}
use Rattle.go_exprs_rules.specs.declared.fault.TypeFault.{TypeFault}
use Rattle.go_exprs_rules.specs.Names.{object_sort, object_form, declared_form}
use Rattle.go_exprs_rules.specs.Scopes.{Needed, Scope, Hint, declares, free}
use Rattle.go_exprs_rules.specs.Settling.{Part, settled, unrepresented}
use Rattle.go_exprs_rules.specs.Sorts.{Stands, is_open, is_unknown, is_constant, open_kind, suits}
use Rattle.go_exprs_rules.specs.Tables.{is_held, no_faults}
use Rattle.go_exprs_rules.specs.Typing.{typing, faults}
use Rattle.clone_window.specs.Masses.{is_hole, is_inside}
use Rattle.go_exprs_variables.specs.Shapes.{IsShaped}
use Rattle.go_exprs_variables.specs.Over.{varies_over, sort_over}

-- ---- which variables stand where

-- A variable that stands in place of an expression: the token behind that; which local of which function it is; and its type.
pub record Standin : Type 0 where
  pub upto : ℕ
  pub function : ℕ
  pub local : ℕ
  pub type : TypeTree

-- by the first token of the expression
abbrev pub Standins : Type 0
Standins = ℕ → Option Standin

abbrev pub ends_at : Option Standin → ℕ → Bool
ends_at None j = false
ends_at (Some v) j = nat_eq v.upto j

-- ---- trees

-- the kinds of constant expressions
abbrev pub may_be_constant : Kind → Bool
may_be_constant kind.Name = true
may_be_constant kind.Integer = true
may_be_constant kind.Rune = true
may_be_constant kind.Text = true
may_be_constant kind.Parenthesized = true
may_be_constant (kind.Unary o) = true
may_be_constant (kind.Binary o) = true
may_be_constant kind.Call = true
may_be_constant k = false

abbrev pub node_with : Bool → Kind → ℕ → ℕ → Trees → Tree
node_with true k i j ps = node kind.Name i j none
node_with false k i j ps = node k i j ps

abbrev mutual
  -- The tree with the name of a variable in place of each such expression; the name stands over all tokens of the expression.
  pub with_variables : Standins → Tree → Tree
  with_variables w (node k i j ps) = node_with (may_be_constant k && ends_at (w i) j) k i j (all_with_variables w ps)

  pub all_with_variables : Standins → Trees → Trees
  all_with_variables w none = none
  all_with_variables w (more p ps) = more (with_variables w p) (all_with_variables w ps)
  all_with_variables w (skip ps) = skip (all_with_variables w ps)

-- No variable stands at the expressions of a tree.
abbrev pub FreeAt : Standins → Kind → ℕ → Type 0
FreeAt w k i = may_be_constant k ≡ true → w i ≡ None

abbrev mutual
  pub Free : Standins → Tree → Type 0
  Free w (node k i j ps) = FreeAt w k i × AllFree w ps

  pub AllFree : Standins → Trees → Type 0
  AllFree w none = Unit {0}
  AllFree w (more p ps) = Free w p × AllFree w ps
  AllFree w (skip ps) = AllFree w ps

-- types, and what stands in them
abbrev pub is_type_kind : Kind → Bool
is_type_kind kind.SequenceType = true
is_type_kind kind.FunctionType = true
is_type_kind kind.StructType = true
is_type_kind kind.ParenthesizedType = true
is_type_kind k = false

abbrev pub FirstFree : Standins → Trees → Type 0
FirstFree w (more p ps) = Free w p
FirstFree w ps = Unit {0}

-- a name where no variable stands is the first token of no expression where one does
abbrev pub NameFree : Standins → Kind → ℕ → Type 0
NameFree w kind.Name i = w i ≡ None
NameFree w k i = Unit {0}

-- the first part is none in place of which a variable stands
abbrev pub Stays : Standins → Tree → Type 0
Stays w (node k i j ps) = (may_be_constant k && ends_at (w i) j) ≡ false

abbrev pub FirstStays : Standins → Trees → Type 0
FirstStays w (more p ps) = Stays w p
FirstStays w ps = Unit {0}

-- A constant in parentheses is a constant with them, and selectors are on structs and the package.
abbrev pub PartsFree : Standins → Kind → Trees → Type 0
PartsFree w kind.Parenthesized ps = FirstStays w ps
PartsFree w kind.Selector ps = FirstStays w ps
PartsFree w kind.SequenceType ps = AllFree w ps
PartsFree w kind.FunctionType ps = AllFree w ps
PartsFree w kind.StructType ps = AllFree w ps
PartsFree w kind.ParenthesizedType ps = AllFree w ps
PartsFree w kind.Keyed ps = FirstFree w ps
PartsFree w k ps = Unit {0}

abbrev pub ProperNode : Bool → Standins → Kind → ℕ → Trees → Type 0 → Type 0
ProperNode true w k i ps rest = Unit {0}
ProperNode false w k i ps rest = NameFree w k i × PartsFree w k ps × rest

abbrev mutual
  -- Variables stand in place of expressions alone: not in types, nor in place of keys, nor of what stands in parentheses, nor of what
  -- a selector is on.
  pub Proper : Standins → Tree → Type 0
  Proper w (node k i j ps) = ProperNode (may_be_constant k && ends_at (w i) j) w k i ps (AllProper w ps)

  pub AllProper : Standins → Trees → Type 0
  AllProper w none = Unit {0}
  AllProper w (more p ps) = Proper w p × AllProper w ps
  AllProper w (skip ps) = AllProper w ps

-- ---- scopes

-- What tokens say is the same. At the first token of each such expression stands a variable of its type; all other tokens mean the same.
pub record StandsIn (w : Standins) (s t : Scope) : Type 0 where
  pub rights : t.rights ≡ s.rights
  pub iota : t.iota ≡ s.iota
  pub texts : (i : ℕ) → t.texts i ≡ s.texts i
  pub characters : (i : ℕ) → t.characters i ≡ s.characters i
  pub needed : t.needed ≡ s.needed
  pub limits : t.limits ≡ s.limits
  pub variable : (i : ℕ) (v : Standin) → w i ≡ Some v → t.objects i ≡ Some (object.Local v.function v.local)
  pub type : (n : Needed) (i : ℕ) (v : Standin) → w i ≡ Some v → t.sorts n (object.Local v.function v.local) ≡ Value v.type
  pub standing : (n : Needed) (i : ℕ) → w i ≡ None → object_sort t n (t.objects i) ≡ object_sort s n (s.objects i)
  pub form : (i : ℕ) → w i ≡ None → object_form t (t.objects i) ≡ object_form s (s.objects i)
  pub declared : (i : ℕ) → w i ≡ None → declared_form t (t.objects i) ≡ declared_form s (s.objects i)

-- ---- typed trees

abbrev pub at_hole : Standins → Bool → ℕ → Option Standin
at_hole w true i = w i
at_hole w false i = None

abbrev pub variable_node : Standin → ℕ → ℕ → Part
variable_node v i j = typed (form.Local v.local) i j (record { sort = Value v.type; varies = true; calls = false }) sort.none

abbrev pub put_over : Option Standin → Form → ℕ → ℕ → Label TypeTree → Typeds TypeTree → Part
put_over (Some v) f i j l qs = variable_node v i j
put_over None f i j l qs = typed f i j (record { sort = sort_over f l.sort qs; varies = varies_over l.varies qs; calls = l.calls }) qs

abbrev mutual
  -- a typed tree with variables in place of its holes; it may stand inside a constant expression
  pub put : Standins → Bool → Part → Part
  put w a (typed f i j l ps) = put_over (at_hole w (is_hole a f l) i) f i j l (all_put w (is_inside a f l) ps)

  pub all_put : Standins → Bool → Typeds TypeTree → Typeds TypeTree
  all_put w a sort.none = sort.none
  all_put w a (sort.more p ps) = sort.more (put w a p) (all_put w a ps)
  all_put w a (sort.skip ps) = sort.skip (all_put w a ps)

abbrev pub first_wanted : Option Standin → Option TypeTree → Option TypeTree
first_wanted (Some v) o = Some v.type
first_wanted None o = o

abbrev pub or_wanted : Option TypeTree → Option TypeTree → Option TypeTree
or_wanted (Some t) o = Some t
or_wanted None o = o

abbrev mutual
  -- the type of the first variable that stands at an untyped constant of an untyped expression
  pub wanted : Standins → Bool → Part → Option TypeTree
  wanted w a (typed f i j l ps) = if is_open l.sort then first_wanted (at_hole w (is_hole a f l) i) (all_wanted w (is_inside a f l) ps) else None

  pub all_wanted : Standins → Bool → Typeds TypeTree → Option TypeTree
  all_wanted w a sort.none = None
  all_wanted w a (sort.more p ps) = or_wanted (wanted w a p) (all_wanted w a ps)
  all_wanted w a (sort.skip ps) = all_wanted w a ps

abbrev pub put_with : Standins → Bool → Option TypeTree → Part → Part
put_with w a (Some t) x = put w a (settled t x)
put_with w a None x = put w a x

abbrev mutual
  -- What is typed before the node above gives it a type: an untyped expression with a variable in it has the variable's type at once.
  pub begun : Standins → Bool → Part → Part
  begun w a (typed f i j l ps) =
      if is_held f then typed f i j (record l { varies = varies_over l.varies (all_begun w a ps) }) (all_begun w a ps) else put_with w a (wanted w a (typed f i j l ps)) (typed f i j l ps)

  pub all_begun : Standins → Bool → Typeds TypeTree → Typeds TypeTree
  all_begun w a sort.none = sort.none
  all_begun w a (sort.more p ps) = sort.more (begun w a p) (all_begun w a ps)
  all_begun w a (sort.skip ps) = sort.skip (all_begun w a ps)

-- ---- what is asked of the variables

abbrev pub final_type : Stands → Option TypeTree
final_type (Constant t v) = Some t
final_type s = None

-- a variable stands at a hole, over all its tokens, and has its final type
pub record IsFit (v : Standin) (a : Bool) (f : Form) (j : ℕ) (l : Label TypeTree) : Type 0 where
  pub hole : is_hole a f l ≡ true
  pub upto : v.upto ≡ j
  pub type : final_type l.sort ≡ Some v.type

-- where one stands at the token i and the node ends where its expression does, or is a hole
abbrev pub FitsAt : Standins → Bool → Form → ℕ → ℕ → Label TypeTree → Type 0
FitsAt w a f i j l = (v : Standin) → w i ≡ Some v → (ends_at (Some v) j || is_hole a f l) ≡ true → IsFit v a f j l

abbrev pub is_extreme : Stands → Bool
is_extreme (sort.Builtin predeclared.Min) = true
is_extreme (sort.Builtin predeclared.Max) = true
is_extreme s = false

abbrev pub are_constant : Typeds TypeTree → Bool
are_constant sort.none = true
are_constant (sort.more p ps) = is_constant (sort_of p) && are_constant ps
are_constant (sort.skip ps) = are_constant ps

-- a call of `min` or `max` of constants that isn't constant itself, since the result lies beyond untyped numbers
abbrev pub is_unfolded : Form → Stands → Typeds TypeTree → Bool
is_unfolded form.Call s (sort.more f ps) = is_extreme (sort_of f) && are_constant ps && not (is_constant s)
is_unfolded f s ps = false

abbrev mutual
  -- whether a variable stands at a hole of the tree, which may stand inside a constant expression
  pub has_variable : Standins → Bool → Part → Bool
  has_variable w a (typed f i j l ps) = is_some (at_hole w (is_hole a f l) i) || any_variable w (is_inside a f l) ps

  pub any_variable : Standins → Bool → Typeds TypeTree → Bool
  any_variable w a sort.none = false
  any_variable w a (sort.more p ps) = has_variable w a p || any_variable w a ps
  any_variable w a (sort.skip ps) = any_variable w a ps

abbrev mutual
  -- In a typed tree whose nodes have their final types variables stand at holes alone, and nothing is unknown. None stands among
  -- constants of which the least or the greatest isn't constant.
  pub Fits : Standins → Bool → Part → Type 0
  Fits w a (typed f i j l ps) = FitsAt w a f i j l × ((is_unknown l.sort || (is_unfolded f l.sort ps && any_variable w (is_inside a f l) ps)) ≡ false) × AllFit w (is_inside a f l) ps

  pub AllFit : Standins → Bool → Typeds TypeTree → Type 0
  AllFit w a sort.none = Unit {0}
  AllFit w a (sort.more p ps) = Fits w a p × AllFit w a ps
  AllFit w a (sort.skip ps) = AllFit w a ps

-- The tree fits once it takes the type that it takes: one of its kind where it is untyped, that has the constants in it.
pub data WillFit (rights : Rights) (w : Standins) (a : Bool) (x : Part) : Type 0 where
  takes : (t : TypeTree) (k : OpenKind) → open_kind (sort_of x) ≡ Some k → suits rights k t ≡ true → (is_constant (sort_of x) ≡ false → unrepresented rights t x ≡ []) → Fits w a (settled t x) → WillFit rights w a x
  has : is_open (sort_of x) ≡ false → Fits w a x → WillFit rights w a x

-- ---- the law on expressions

abbrev pub no_rule_fails : List (List TypeFault) → Bool
no_rule_fails nodes = list_all no_faults nodes

-- With variables in place of constants the expression is typed the same, with the variables in place of the holes, and no rule fails.
pub record IsTypedWithVariables (w : Standins) (s t : Scope) (h : Hint) (x : Tree) : Type 0 where
  pub typed : typing t h (with_variables w x) ≡ begun w false (typing s h x)
  pub failing : no_rule_fails (faults t h (with_variables w x)) ≡ true

-- names that are declared and keys stand for nothing where they are typed
abbrev pub is_naming : Hint → Bool
is_naming declares = true
is_naming free = true
is_naming h = false

-- expressions, and literals without a type of their own
abbrev pub expresses : Kind → Bool
expresses kind.Name = true
expresses kind.Integer = true
expresses kind.Rune = true
expresses kind.Text = true
expresses kind.Parenthesized = true
expresses (kind.Unary o) = true
expresses (kind.Binary o) = true
expresses kind.Selector = true
expresses kind.Bracketed = true
expresses kind.Call = true
expresses kind.Composite = true
expresses kind.LiteralValue = true
expresses k = false

-- With variables in place of its holes an expression without faults is typed the same, with that change alone, and no rule fails.
abbrev pub ExpressionsTyped : Type 0
ExpressionsTyped = (w : Standins) (s t : Scope) (h : Hint) (c : Category) (x : Tree)
    → IsShaped c x → expresses (kind_of x) ≡ true → is_naming h ≡ false → StandsIn w s t → Proper w x → no_rule_fails (faults s h x) ≡ true → WillFit s.rights w false (typing s h x) → IsTypedWithVariables w s t h x
