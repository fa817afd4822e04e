-- An untyped truth value that isn't constant holds untyped truth values alone: each constant in it is one that `bool` has.
use Rattle.std.proofs.Common.{◌≡◌, ◌∙◌, ℕ, ◌-◌, Bool, true, false, List, [], ◌∷◌, ◌++◌, Option, Some, None, Result, Ok, Err, refl, sym, ap, IsTrue}
use Rattle.std.specs.Prelude.{◌&&◌, ◌||◌, not, if◌then◌else◌, is_some}
use Rattle.go_constants.specs.declared.values.Const.{Const}
use Rattle.go_constants.specs.declared.values.Const.TheVariants as const
use Rattle.go_constants.specs.declared.values.ConstFault.{ConstFault}
use Rattle.go_grammar.specs.declared.kind.Category.{Category}
use Rattle.go_grammar.specs.declared.kind.Comparison.{Comparison}
use Rattle.go_grammar.specs.declared.kind.Category.TheVariants as category
use Rattle.go_grammar.specs.declared.kind.Kind.{Kind}
use Rattle.go_grammar.specs.declared.kind.Kind.TheVariants as kind
use Rattle.go_grammar.specs.declared.kind.Level.TheVariants as level
use Rattle.go_grammar.specs.declared.kind.Operator.{Operator}
use Rattle.go_grammar.specs.declared.kind.Operator.TheVariants as operator
use Rattle.go_grammar.specs.declared.kind.Place.{Place}
use Rattle.go_grammar.specs.declared.kind.Place.TheVariants as place
use Rattle.go_grammar.specs.declared.kind.Sign.{Sign}
use Rattle.go_grammar.specs.Categories.{place_of}
use Rattle.go_grammar.specs.Operators.{operator_level, tighter}
use Rattle.go_grammar.specs.Grammar.{rule}
use Rattle.go_grammar.specs.Trees.{Tree, node, Trees, none, more, skip, kind_of}
use Rattle.go_tree.specs.declared.object.Predeclared.{Predeclared}
use Rattle.go_tree.specs.declared.object.Predeclared.TheVariants as predeclared
use Rattle.go_types.specs.Trees.{TypeTree, TypeRow, boolean}
use Rattle.go_types.specs.Trees as types
use Rattle.go_types.specs.Relations.{Rights}
use Rattle.go_types_relations.specs.Identity.{is_identical}
use Rattle.go_types_relations.specs.Tests.{underlying_of}
use Rattle.go_ints.specs.declared.operators.Op.TheVariants as op
use Rattle.go_typed.specs.declared.form.Form.{Form}
use Rattle.go_typed.specs.Trees.{Label, Typed, typed, Typeds, sort_of, row}
use Rattle.go_typed.specs.Trees as sort
use Rattle.go_exprs_rules.specs.declared.family.Family.TheVariants as family
use Rattle.go_exprs_rules.specs.declared.family.OpenKind.{OpenKind}
use Rattle.go_exprs_rules.specs.declared.family.OpenKind.TheVariants as untyped_kind
use Rattle.go_exprs_rules.specs.Calls.{results_of, called, function_call_sort, conversion_sort, keeps_value, becomes_text, constant_or_value}
use Rattle.go_exprs_rules.specs.Calls.{text_of, builtin_sort, extreme_in, meeting, extreme_value, length_value, constant_length, call_sort}
use Rattle.go_exprs_rules.specs.Indexes.{value_or_unknown, named_field, selector_sort, index_sort}
use Rattle.go_exprs_rules.specs.Operators.{Common, in_type, in_kind, own, own_by, constant_in, common, common_kind, kind_common, unary_sort}
use Rattle.go_exprs_rules.specs.Operators.{unary_sort_in, unary_value, unary_take, shift_sort, shift_sort_in, shifted_take, binary_value, binary_sort, binary_sort_in, binary_take, binary_take_in}
use Rattle.go_exprs_rules.specs.Operators.{compared_in, compared_failing, compared_failing_in, compared_sort, compared_take_in, is_shift, operation_sort, operation_takes, result_in}
use Rattle.go_exprs_rules.specs.declared.fault.TypeFault.{TypeFault}
use Rattle.go_exprs_rules.specs.Names.{name_sort}
use Rattle.go_exprs_rules.specs.Scopes.{Scope, Hint, value}
use Rattle.go_exprs_rules.specs.Settling.{Part, stay, default, as_type, given, defaulted, settled, unrepresented, all_unrepresented, unrepresented_constant}
use Rattle.go_exprs_rules.specs.Sorts.{Stands, family_of_open, is_open, is_constant, is_text, constant_of, takes_type, open_kind, own_type, named_type, default_type, value_type, form_of_value, element_of, suits, byte, uint}
use Rattle.go_exprs_rules.specs.Tables.{Parts, hint, in_parentheses, layout, present, literal_type, all_given, takes, form_by, sort_by, built_by, is_sound, own_faults, is_judged, no_faults, made}
use Rattle.go_exprs_rules.specs.Typing.{typing, typings}
use Rattle.go_exprs_rules.specs.TypeNodes.{type_sort, sequence_type, part_type, signature_type}
use Rattle.go_exprs_variables.specs.Shapes.{IsShaped, AreShaped}
use Rattle.go_exprs_variables.proofs.Public.{both_of, common_meets, expression_operand, has_taken, is_operand, meet, none_of_both, rule_of}

-- an untyped value that is no constant
abbrev is_waiting : Stands → Bool
is_waiting (sort.Open u) = true
is_waiting z = false

abbrev is_truth_kind : Stands → Type 0
is_truth_kind z = open_kind z ≡ Some untyped_kind.Boolean

-- ---- kinds of nodes that don't wait

value_closed : (o : Option TypeTree) → is_waiting (value_or_unknown o) ≡ false
value_closed None = refl
value_closed (Some t) = refl

selector_closed : (rights : Rights) (name : List ℕ) (z : Stands) → is_waiting (selector_sort rights name z) ≡ false
selector_closed rights name sort.Package = refl
selector_closed rights name z = value_closed (named_field (form_of_value rights z) name)

index_closed : (rights : Rights) (z : Stands) → is_waiting (index_sort rights z) ≡ false
index_closed rights z = by (is_text rights z)
  where
    by : (b : Bool) → is_waiting (if b then sort.Value byte else value_or_unknown (element_of (form_of_value rights z))) ≡ false
    by true = refl
    by false = value_closed (element_of (form_of_value rights z))

called_closed : (t : TypeTree) (rs : TypeRow) → is_waiting (called t rs) ≡ false
called_closed t types.none = refl
called_closed t (types.more r types.none) = refl
called_closed t (types.more r (types.more q rs)) = refl

function_closed : (rights : Rights) (o : Option TypeTree) → is_waiting (function_call_sort rights o) ≡ false
function_closed rights None = refl
function_closed rights (Some t) = called_closed t (results_of (underlying_of rights t))

conversion_closed : (rights : Rights) (t : TypeTree) (z : Stands) → is_waiting (conversion_sort rights t z) ≡ false
conversion_closed rights t z = by (keeps_value rights t (constant_of z)) (becomes_text rights t (constant_of z)) (constant_of z)
  where
    by : (p q : Bool) (v : Option Const) → is_waiting (if p then constant_or_value t v else (if q then sort.Constant t (const.Text (text_of v)) else sort.Value t)) ≡ false
    by true q None = refl
    by true q (Some v) = refl
    by false true v = refl
    by false false v = refl

constant_closed : (c : Common) (v : Const) → is_waiting (constant_in c v) ≡ false
constant_closed (in_type t) v = refl
constant_closed (in_kind k) v = refl

extreme_closed : (o : Option Common) (v : Option Const) → is_waiting (extreme_in o v) ≡ false
extreme_closed None v = refl
extreme_closed (Some c) (Some v) = constant_closed c v
extreme_closed (Some c) None = refl

length_closed : (o : Option ℕ) → is_waiting (length_value o) ≡ false
length_closed (Some n) = refl
length_closed None = refl

builtin_closed : (rights : Rights) (p : Predeclared) (xs : List Part) → is_waiting (builtin_sort rights p xs) ≡ false
builtin_closed rights predeclared.Len [] = refl
builtin_closed rights predeclared.Len (x ∷ xs) = length_closed (constant_length rights x)
builtin_closed rights predeclared.Cap [] = refl
builtin_closed rights predeclared.Cap (x ∷ xs) = length_closed (constant_length rights x)
builtin_closed rights predeclared.Make [] = refl
builtin_closed rights predeclared.Make (x ∷ xs) = value_closed (named_type (sort_of x))
builtin_closed rights predeclared.Append [] = refl
builtin_closed rights predeclared.Append (x ∷ xs) = value_closed (own_type (sort_of x))
builtin_closed rights predeclared.Copy xs = refl
builtin_closed rights predeclared.Panic xs = refl
builtin_closed rights predeclared.Min xs = extreme_closed (meeting rights xs) (extreme_value op.Min xs)
builtin_closed rights predeclared.Max xs = extreme_closed (meeting rights xs) (extreme_value op.Max xs)
builtin_closed rights p xs = refl

call_closed : (rights : Rights) (z : Stands) (xs : List Part) → is_waiting (call_sort rights z xs) ≡ false
call_closed rights (sort.IsType t) [] = refl
call_closed rights (sort.IsType t) (x ∷ xs) = conversion_closed rights t (sort_of x)
call_closed rights (sort.Builtin p) xs = builtin_closed rights p xs
call_closed rights sort.Println xs = refl
call_closed rights z xs = function_closed rights (own_type z)

type_closed : (o : Option TypeTree) → is_waiting (type_sort o) ≡ false
type_closed None = refl
type_closed (Some t) = refl

module _ (s : Scope) (h : Hint) (i j : ℕ) where
  selector_kind : (ys : Parts) → is_waiting (sort_by s kind.Selector h i j ys) ≡ false
  selector_kind [] = refl
  selector_kind (None ∷ ys) = refl
  selector_kind (Some x ∷ []) = selector_closed s.rights (s.texts (j - 1)) (sort_of x)
  selector_kind (Some x ∷ y ∷ ys) = refl

  bracketed_closed : (ys : Parts) → is_waiting (sort_by s kind.Bracketed h i j ys) ≡ false
  bracketed_closed [] = refl
  bracketed_closed (None ∷ ys) = refl
  bracketed_closed (Some x ∷ []) = refl
  bracketed_closed (Some x ∷ Some y ∷ []) = index_closed s.rights (sort_of x)
  bracketed_closed (Some x ∷ None ∷ []) = refl
  bracketed_closed (Some x ∷ None ∷ z ∷ []) = value_closed (value_type (sort_of x))
  bracketed_closed (Some x ∷ Some y ∷ z ∷ []) = value_closed (value_type (sort_of x))
  bracketed_closed (Some x ∷ None ∷ z ∷ v ∷ ys) = refl
  bracketed_closed (Some x ∷ Some y ∷ z ∷ v ∷ ys) = refl

  called_kind : (ys : Parts) → is_waiting (sort_by s kind.Call h i j ys) ≡ false
  called_kind [] = refl
  called_kind (None ∷ ys) = refl
  called_kind (Some x ∷ ys) = call_closed s.rights (sort_of x) (present ys)

  composite_closed : (ys : Parts) → is_waiting (sort_by s kind.Composite h i j ys) ≡ false
  composite_closed [] = refl
  composite_closed (y ∷ ys) = value_closed (literal_type h y)

  literal_closed : (ys : Parts) → is_waiting (sort_by s kind.LiteralValue h i j ys) ≡ false
  literal_closed [] = refl
  literal_closed (y ∷ ys) = value_closed (literal_type h y)

module _ (r : Rights) where
  -- ---- what has a type holds nothing untyped

  closed_ranged : (x : Part) → is_open (sort_of x) ≡ false → unrepresented r boolean x ≡ []
  closed_ranged (typed f i j l ps) e = ap (λ b. if b then (if is_constant l.sort then unrepresented_constant r boolean i j (constant_of l.sort) else all_unrepresented r boolean ps) else []) e

  taken_closed : (z : Stands) → takes_type z ≡ false → is_open z ≡ false
  taken_closed (sort.Open u) e = cc
  taken_closed (sort.OpenConstant c) e = cc
  taken_closed z e = refl

  settled_ranged : (t : TypeTree) (x : Part) → unrepresented r boolean (settled t x) ≡ []
  settled_ranged t x = closed_ranged (settled t x) (taken_closed (sort_of (settled t x)) (has_taken t x))

  no_kind_closed : (z : Stands) → open_kind z ≡ None → is_open z ≡ false
  no_kind_closed z e = ap is_some e

  default_ranged : (x : Part) → unrepresented r boolean (given default x) ≡ []
  default_ranged x = by (open_kind (sort_of x)) refl
    where
      by : (o : Option OpenKind) → open_kind (sort_of x) ≡ o → unrepresented r boolean (defaulted o x) ≡ []
      by (Some k) e = settled_ranged (default_type k) x
      by None e = closed_ranged x (no_kind_closed (sort_of x) e)

  -- one that stays, or takes its default type
  abbrev Ranges : Part → Type 0
  Ranges x = is_truth_kind (sort_of x) → unrepresented r boolean x ≡ []

  stay_or_default : (b : Bool) (x : Part) → Ranges x → is_truth_kind (sort_of x) → unrepresented r boolean (given (if b then default else stay) x) ≡ []
  stay_or_default true x p e = default_ranged x
  stay_or_default false x p e = p e

  -- ---- a node over these parts

  node_ranged : (fm : Form) (i j : ℕ) (z : Stands) (ys zs : Parts) → is_truth_kind z → (is_waiting z ≡ true → all_unrepresented r boolean (row zs) ≡ []) → unrepresented r boolean (made fm i j z ys zs) ≡ []
  node_ranged fm i j (sort.Open u) ys zs e f = f refl
  node_ranged fm i j (sort.OpenConstant (const.Bool b)) ys zs e f = refl
  node_ranged fm i j (sort.OpenConstant (const.Int n true)) ys zs e f = cc
  node_ranged fm i j (sort.OpenConstant (const.Int n false)) ys zs e f = cc
  node_ranged fm i j (sort.OpenConstant (const.Text b)) ys zs e f = cc
  node_ranged fm i j z ys zs e f = cc

  closed_node : (s : Scope) (k : Kind) (h : Hint) (i j : ℕ) (ys : Parts) (b : Bool) → is_waiting (sort_by s k h i j ys) ≡ false → Ranges (built_by s k h i j ys b)
  closed_node s k h i j ys true c e =
      node_ranged (form_by s k h i j ys) i j (sort_by s k h i j ys) ys (all_given (takes s k h ys) ys) e (λ m. let never : false ≡ true = sym c ∙ m in cc)
  closed_node s k h i j ys false c e = cc

  -- ---- operators

  own_truth : (a : Stands) → own a ≡ Some (in_kind untyped_kind.Boolean) → is_truth_kind a
  own_truth a e = by (own_type a) (open_kind a) e
    where
      by : (t : Option TypeTree) (k : Option OpenKind) → own_by t k ≡ Some (in_kind untyped_kind.Boolean) → k ≡ Some untyped_kind.Boolean
      by (Some t) k e = cc
      by None (Some k) e = cc
      by None None e = cc

  result_truth : (c : Common) (v : Option (Result Const ConstFault)) → is_truth_kind (result_in c v) → is_waiting (result_in c v) ≡ true → c ≡ in_kind untyped_kind.Boolean
  result_truth (in_type t) None e m = cc
  result_truth (in_type t) (Some (Ok v)) e m = cc
  result_truth (in_type t) (Some (Err f)) e m = cc
  result_truth (in_kind untyped_kind.Boolean) v e m = refl
  result_truth (in_kind untyped_kind.Integer) None e m = cc
  result_truth (in_kind untyped_kind.Rune) None e m = cc
  result_truth (in_kind untyped_kind.Text) None e m = cc
  result_truth (in_kind k) (Some (Ok v)) e m = cc
  result_truth (in_kind k) (Some (Err f)) e m = cc

  unary_by : (rights : Rights) (o : Sign) (a : Stands) (c : Option Common) → own a ≡ c → is_truth_kind (unary_sort_in rights o a c) → is_waiting (unary_sort_in rights o a c) ≡ true → is_truth_kind a
  unary_by rights o a None n e m = cc
  unary_by rights o a (Some c) n e m = own_truth a (n ∙ ap Some (result_truth c (unary_value rights o a) e m))

  shift_by : (o : Operator) (a b : Stands) (c : Option Common) → own a ≡ c → is_truth_kind (shift_sort_in o a b c) → is_waiting (shift_sort_in o a b c) ≡ true → is_truth_kind a
  shift_by o a b None n e m = cc
  shift_by o a b (Some c) n e m = own_truth a (n ∙ ap Some (result_truth c (binary_value o a b) e m))

  -- ---- two operands that meet in truth values are truth values

  truth_family : (k : OpenKind) → family_of_open k ≡ family.Booleans → k ≡ untyped_kind.Boolean
  truth_family untyped_kind.Boolean e = refl
  truth_family k e = cc

  two_kinds : (k l : OpenKind) → common_kind k l ≡ Some untyped_kind.Boolean → (k ≡ untyped_kind.Boolean) × (l ≡ untyped_kind.Boolean)
  two_kinds k l e = let both = both_of k l untyped_kind.Boolean e in (truth_family k (sym both.1), truth_family l (both.0 ∙ sym both.1))

  met_kinds : (o : Option OpenKind) → kind_common o ≡ Some (in_kind untyped_kind.Boolean) → o ≡ Some untyped_kind.Boolean
  met_kinds None e = cc
  met_kinds (Some k) e = cc

  both_truths : (rights : Rights) (t : Option TypeTree) (k : Option OpenKind) (u : Option TypeTree) (l : Option OpenKind) → meet rights t k u l ≡ Some (in_kind untyped_kind.Boolean)
      → (k ≡ Some untyped_kind.Boolean) × (l ≡ Some untyped_kind.Boolean)
  both_truths rights (Some t) k (Some u) l e = never (is_identical t u) e
    where
      never : {X : Type 0} (b : Bool) → (if b then Some (in_type t) else None) ≡ Some (in_kind untyped_kind.Boolean) → X
      never true e = cc
      never false e = cc
  both_truths rights (Some t) k None None e = cc
  both_truths rights (Some t) k None (Some l) e = never (suits rights l t) e
    where
      never : {X : Type 0} (b : Bool) → (if b then Some (in_type t) else None) ≡ Some (in_kind untyped_kind.Boolean) → X
      never true e = cc
      never false e = cc
  both_truths rights None None (Some u) l e = cc
  both_truths rights None (Some k) (Some u) l e = never (suits rights k u) e
    where
      never : {X : Type 0} (b : Bool) → (if b then Some (in_type u) else None) ≡ Some (in_kind untyped_kind.Boolean) → X
      never true e = cc
      never false e = cc
  both_truths rights None None None l e = cc
  both_truths rights None (Some k) None None e = cc
  both_truths rights None (Some k) None (Some l) e =
      let both = two_kinds k l (met_kinds (common_kind k l) e) in (ap Some both.0, ap Some both.1)

  common_truths : (rights : Rights) (a b : Stands) → common rights a b ≡ Some (in_kind untyped_kind.Boolean) → is_truth_kind a × is_truth_kind b
  common_truths rights a b e = both_truths rights (own_type a) (open_kind a) (own_type b) (open_kind b) (sym (common_meets rights a b) ∙ e)

  -- ---- nodes with operands

  one_node : (s : Scope) (o : Sign) (h : Hint) (i j : ℕ) (x : Part) (b : Bool) → Ranges x → Ranges (built_by s (kind.Unary o) h i j (Some x ∷ []) b)
  one_node s o h i j x false p e = cc
  one_node s o h i j x true p e =
      node_ranged (form_by s (kind.Unary o) h i j (Some x ∷ [])) i j (unary_sort s.rights o (sort_of x)) (Some x ∷ []) (Some (given (unary_take (sort_of x)) x) ∷ []) e
      (λ m. none_of_both (unrepresented r boolean (given (unary_take (sort_of x)) x)) [] (stay_or_default (is_constant (sort_of x)) x p (unary_by s.rights o (sort_of x) (own (sort_of x)) refl e m)) refl)

  inner_node : (s : Scope) (h : Hint) (i j : ℕ) (x : Part) (b : Bool) → Ranges x → Ranges (built_by s kind.Parenthesized h i j (Some x ∷ []) b)
  inner_node s h i j x false p e = cc
  inner_node s h i j x true p e = node_ranged (form_by s kind.Parenthesized h i j (Some x ∷ [])) i j (sort_of x) (Some x ∷ []) (Some x ∷ []) e (λ m. none_of_both (unrepresented r boolean x) [] (p e) refl)

  pair : (x y : Part) → unrepresented r boolean x ≡ [] → unrepresented r boolean y ≡ [] → all_unrepresented r boolean (row (Some x ∷ Some y ∷ [])) ≡ []
  pair x y e f = none_of_both (unrepresented r boolean x) (unrepresented r boolean y ++ []) e (none_of_both (unrepresented r boolean y) [] f refl)

  shifted_node : (o : Operator) (rights : Rights) (x y : Part) (b : Bool) → Ranges x → is_truth_kind (if b then shift_sort o (sort_of x) (sort_of y) else binary_sort rights o (sort_of x) (sort_of y))
      → is_waiting (if b then shift_sort o (sort_of x) (sort_of y) else binary_sort rights o (sort_of x) (sort_of y)) ≡ true
      → Ranges y → all_unrepresented r boolean (row (all_given (if b then shifted_take (sort_of x) (sort_of y) ∷ as_type uint ∷ [] else binary_take rights (sort_of x) (sort_of y) ∷ binary_take rights (sort_of x) (sort_of y) ∷ [])
      (Some x ∷ Some y ∷ []))) ≡ []
  shifted_node o rights x y true p e m q =
      pair (given (shifted_take (sort_of x) (sort_of y)) x) (settled uint y) (stay_or_default (is_constant (sort_of x) && is_constant (sort_of y)) x p (shift_by o (sort_of x) (sort_of y) (own (sort_of x)) refl e m)) (settled_ranged uint y)
  shifted_node o rights x y false p e m q = by (common rights (sort_of x) (sort_of y)) refl e m
    where
      by : (c : Option Common) → common rights (sort_of x) (sort_of y) ≡ c → is_truth_kind (binary_sort_in o (sort_of x) (sort_of y) c) → is_waiting (binary_sort_in o (sort_of x) (sort_of y) c) ≡ true
          → all_unrepresented r boolean (row (all_given (binary_take_in (sort_of x) (sort_of y) (common rights (sort_of x) (sort_of y)) ∷ binary_take_in (sort_of x) (sort_of y) (common rights (sort_of x) (sort_of y)) ∷ [])
          (Some x ∷ Some y ∷ []))) ≡ []
      by None n e m = cc
      by (Some c) n e m =
          let is : c ≡ in_kind untyped_kind.Boolean = result_truth c (binary_value o (sort_of x) (sort_of y)) e m in
          let both = common_truths rights (sort_of x) (sort_of y) (n ∙ ap Some is) in
          ap (λ z. all_unrepresented r boolean (row (all_given (binary_take_in (sort_of x) (sort_of y) z ∷ binary_take_in (sort_of x) (sort_of y) z ∷ []) (Some x ∷ Some y ∷ [])))) (n ∙ ap Some is)
          ∙ pair (given (if is_constant (sort_of x) && is_constant (sort_of y) then default else stay) x) (given (if is_constant (sort_of x) && is_constant (sort_of y) then default else stay) y)
          (stay_or_default (is_constant (sort_of x) && is_constant (sort_of y)) x p both.0) (stay_or_default (is_constant (sort_of x) && is_constant (sort_of y)) y q both.1)

  compared_taken : (rights : Rights) (c : Comparison) (i j : ℕ) (x y : Part) (d : Option Common) → compared_failing_in rights c i j x y d ≡ []
      → all_unrepresented r boolean (row (all_given (compared_take_in (sort_of x) (sort_of y) d ∷ compared_take_in (sort_of x) (sort_of y) d ∷ []) (Some x ∷ Some y ∷ []))) ≡ []
  compared_taken rights c i j x y None f = cc
  compared_taken rights c i j x y (Some (in_type t)) f = pair (settled t x) (settled t y) (settled_ranged t x) (settled_ranged t y)
  compared_taken rights c i j x y (Some (in_kind k)) f = by (is_constant (sort_of x) && is_constant (sort_of y))
    where
      by : (b : Bool) → all_unrepresented r boolean (row (all_given ((if b then default else as_type (default_type k)) ∷ (if b then default else as_type (default_type k)) ∷ []) (Some x ∷ Some y ∷ []))) ≡ []
      by true = pair (given default x) (given default y) (default_ranged x) (default_ranged y)
      by false = pair (settled (default_type k) x) (settled (default_type k) y) (settled_ranged (default_type k) x) (settled_ranged (default_type k) y)

  judged_sound : (b c d : Bool) → (not true || (b && c)) ≡ d → d ≡ true → (b ≡ true) × (c ≡ true)
  judged_sound true true d e f = (refl, refl)
  judged_sound true false d e f = let never : false ≡ true = e ∙ f in cc
  judged_sound false c d e f = let never : false ≡ true = e ∙ f in cc

  none_fails : (fs : List TypeFault) → no_faults fs ≡ true → fs ≡ []
  none_fails [] e = refl
  none_fails (f ∷ fs) e = cc

  two_node : (s : Scope) (o : Operator) (h : Hint) (i j : ℕ) (x y : Part) (b : Bool) → is_sound (kind.Binary o) (Some x ∷ Some y ∷ []) (own_faults s (kind.Binary o) h i j (Some x ∷ Some y ∷ [])) ≡ b → Ranges x → Ranges y
      → Ranges (built_by s (kind.Binary o) h i j (Some x ∷ Some y ∷ []) b)
  two_node s o h i j x y false so p q e = cc
  two_node s (operator.Compare c) h i j x y true so p q e =
      let ys : Parts = Some x ∷ Some y ∷ [] in
      let both = judged_sound (is_judged ys) (no_faults (own_faults s (kind.Binary (operator.Compare c)) h i j ys)) true so refl in
      let rule : compared_failing s.rights c i j x y ≡ [] = rule_of s (kind.Binary (operator.Compare c)) h i j ys both.0 (none_fails (own_faults s (kind.Binary (operator.Compare c)) h i j ys) both.1) in
      node_ranged (form_by s (kind.Binary (operator.Compare c)) h i j ys) i j (compared_sort c (sort_of x) (sort_of y)) ys (all_given (operation_takes s.rights (operator.Compare c) (sort_of x) (sort_of y)) ys) e
      (λ m. compared_taken s.rights c i j x y (compared_in s.rights (sort_of x) (sort_of y)) rule)
  two_node s operator.Both h i j x y true so p q e =
      node_ranged (form_by s (kind.Binary operator.Both) h i j (Some x ∷ Some y ∷ [])) i j (operation_sort s.rights operator.Both (sort_of x) (sort_of y)) (Some x ∷ Some y ∷ [])
      (all_given (operation_takes s.rights operator.Both (sort_of x) (sort_of y)) (Some x ∷ Some y ∷ [])) e
      (λ m. shifted_node operator.Both s.rights x y false p e m q)
  two_node s operator.Either h i j x y true so p q e =
      node_ranged (form_by s (kind.Binary operator.Either) h i j (Some x ∷ Some y ∷ [])) i j (operation_sort s.rights operator.Either (sort_of x) (sort_of y)) (Some x ∷ Some y ∷ [])
      (all_given (operation_takes s.rights operator.Either (sort_of x) (sort_of y)) (Some x ∷ Some y ∷ [])) e
      (λ m. shifted_node operator.Either s.rights x y false p e m q)
  two_node s (operator.Compute a) h i j x y true so p q e =
      node_ranged (form_by s (kind.Binary (operator.Compute a)) h i j (Some x ∷ Some y ∷ [])) i j (operation_sort s.rights (operator.Compute a) (sort_of x) (sort_of y)) (Some x ∷ Some y ∷ [])
      (all_given (operation_takes s.rights (operator.Compute a) (sort_of x) (sort_of y)) (Some x ∷ Some y ∷ [])) e
      (λ m. shifted_node (operator.Compute a) s.rights x y (is_shift (operator.Compute a)) p e m q)

  -- ---- names, and types

  name_node : (s : Scope) (h : Hint) (i j : ℕ) (b : Bool) → Ranges (built_by s kind.Name h i j [] b)
  name_node s h i j true e = node_ranged (form_by s kind.Name h i j []) i j (name_sort s h i) [] [] e (λ m. refl)
  name_node s h i j false e = cc

  signature_open : (s : Scope) (h : Hint) (i j : ℕ) (ys : Parts) (b : Bool) → is_waiting (sort_of (built_by s kind.Signature h i j ys b)) ≡ false
  signature_open s h i j ys false = refl
  signature_open s h i j [] true = refl
  signature_open s h i j (x ∷ []) true = refl
  signature_open s h i j (x ∷ y ∷ []) true = type_closed (signature_type x y)
  signature_open s h i j (x ∷ y ∷ z ∷ ys) true = refl

  sequence_closed : (s : Scope) (h : Hint) (i j : ℕ) (ys : Parts) → is_waiting (sort_by s kind.SequenceType h i j ys) ≡ false
  sequence_closed s h i j [] = refl
  sequence_closed s h i j (x ∷ []) = refl
  sequence_closed s h i j (x ∷ y ∷ []) = type_closed (sequence_type x (part_type y))
  sequence_closed s h i j (x ∷ y ∷ z ∷ ys) = refl

  never_true : IsTrue false → ⊥
  never_true e = cc

  mutual
    -- An untyped truth value holds no constant that `bool` hasn't.
    pub truths : (s : Scope) (h : Hint) (c : Category) (x : Tree) → IsShaped c x → is_operand (kind_of x) ≡ true → Ranges (typing s h x)
    truths s h c (node k i j ps) e o = truths_by s h (place_of c) k i j ps e.1 o

    truths_by : (s : Scope) (h : Hint) (p : Place) (k : Kind) (i j : ℕ) (ps : Trees) → AreShaped (rule p k) ps → is_operand k ≡ true → Ranges (typing s h (node k i j ps))
    truths_by s h p kind.Name i j none e o = name_node s h i j (is_sound kind.Name [] (own_faults s kind.Name h i j []))
    truths_by s h p kind.Name i j (more q qs) e o = elim e [ ]
    truths_by s h p kind.Name i j (skip qs) e o = elim e [ ]
    truths_by s h p kind.Parenthesized i j none e o = elim e [ ]
    truths_by s h p kind.Parenthesized i j (skip qs) e o = elim e [ ]
    truths_by s h p kind.Parenthesized i j (more q (more t qs)) e o = elim e.1 [ ]
    truths_by s h p kind.Parenthesized i j (more q (skip qs)) e o = elim e.1 [ ]
    truths_by s h p kind.Parenthesized i j (more q none) e o =
        let x = typing s (in_parentheses h) q in
        inner_node s h i j x (is_sound kind.Parenthesized (Some x ∷ []) (own_faults s kind.Parenthesized h i j (Some x ∷ [])))
        (truths s (in_parentheses h) (category.Expression level.Either place.Free) q e.0 (expression_operand level.Either place.Free q e.0))
    truths_by s h p (kind.Unary u) i j none e o = elim e [ ]
    truths_by s h p (kind.Unary u) i j (skip qs) e o = elim e [ ]
    truths_by s h p (kind.Unary u) i j (more q (more t qs)) e o = elim e.1 [ ]
    truths_by s h p (kind.Unary u) i j (more q (skip qs)) e o = elim e.1 [ ]
    truths_by s h p (kind.Unary u) i j (more q none) e o =
        let x = typing s value q in
        one_node s u h i j x (is_sound (kind.Unary u) (Some x ∷ []) (own_faults s (kind.Unary u) h i j (Some x ∷ []))) (truths s value (category.Expression level.Unary p) q e.0 (expression_operand level.Unary p q e.0))
    truths_by s h p (kind.Binary b) i j none e o = elim e [ ]
    truths_by s h p (kind.Binary b) i j (skip qs) e o = elim e [ ]
    truths_by s h p (kind.Binary b) i j (more q none) e o = elim e.1 [ ]
    truths_by s h p (kind.Binary b) i j (more q (skip qs)) e o = elim e.1 [ ]
    truths_by s h p (kind.Binary b) i j (more q (more t (more v qs))) e o = elim e.1.1 [ ]
    truths_by s h p (kind.Binary b) i j (more q (more t (skip qs))) e o = elim e.1.1 [ ]
    truths_by s h p (kind.Binary b) i j (more q (more t none)) e o =
        let x = typing s value q in
        let y = typing s value t in
        two_node s b h i j x y (is_sound (kind.Binary b) (Some x ∷ Some y ∷ []) (own_faults s (kind.Binary b) h i j (Some x ∷ Some y ∷ []))) refl
        (truths s value (category.Expression (operator_level b) p) q e.0 (expression_operand (operator_level b) p q e.0))
        (truths s value (category.Expression (tighter (operator_level b)) p) t e.1.0 (expression_operand (tighter (operator_level b)) p t e.1.0))
    truths_by s h p kind.FunctionType i j none e o = elim e [ ]
    truths_by s h p kind.FunctionType i j (skip qs) e o = elim e [ ]
    truths_by s h p kind.FunctionType i j (more q (more t qs)) e o = elim e.1 [ ]
    truths_by s h p kind.FunctionType i j (more q (skip qs)) e o = elim e.1 [ ]
    truths_by s h p kind.FunctionType i j (more (node kind.Signature m n qs) none) e o =
        let g = hint s kind.FunctionType h (more (node kind.Signature m n qs) none) [] kind.Signature in
        let x = typing s g (node kind.Signature m n qs) in
        let ys = typings s kind.Signature g qs [] qs in
        closed_node s kind.FunctionType h i j (Some x ∷ []) (is_sound kind.FunctionType (Some x ∷ []) (own_faults s kind.FunctionType h i j (Some x ∷ [])))
        (signature_open s g m n ys (is_sound kind.Signature ys (own_faults s kind.Signature g m n ys)))
    truths_by s h p kind.FunctionType i j (more (node q m n qs) none) e o = absurd (never_true e.0.0)
    truths_by s h p kind.Selector i j ps e o = let ys = layout kind.Selector (typings s kind.Selector h ps [] ps) in closed_node s kind.Selector h i j ys (is_sound kind.Selector ys (own_faults s kind.Selector h i j ys))
        (selector_kind s h i j ys)
    truths_by s h p kind.Bracketed i j ps e o = let ys = layout kind.Bracketed (typings s kind.Bracketed h ps [] ps) in closed_node s kind.Bracketed h i j ys (is_sound kind.Bracketed ys (own_faults s kind.Bracketed h i j ys))
        (bracketed_closed s h i j ys)
    truths_by s h p kind.Call i j ps e o = let ys = layout kind.Call (typings s kind.Call h ps [] ps) in closed_node s kind.Call h i j ys (is_sound kind.Call ys (own_faults s kind.Call h i j ys)) (called_kind s h i j ys)
    truths_by s h p kind.Composite i j ps e o = let ys = layout kind.Composite (typings s kind.Composite h ps [] ps) in closed_node s kind.Composite h i j ys (is_sound kind.Composite ys (own_faults s kind.Composite h i j ys))
        (composite_closed s h i j ys)
    truths_by s h p kind.LiteralValue i j ps e o = let ys = layout kind.LiteralValue (typings s kind.LiteralValue h ps [] ps) in closed_node s kind.LiteralValue h i j ys
        (is_sound kind.LiteralValue ys (own_faults s kind.LiteralValue h i j ys)) (literal_closed s h i j ys)
    truths_by s h p kind.SequenceType i j ps e o = let ys = typings s kind.SequenceType h ps [] ps in closed_node s kind.SequenceType h i j ys (is_sound kind.SequenceType ys (own_faults s kind.SequenceType h i j ys))
        (sequence_closed s h i j ys)
    truths_by s h p kind.StructType i j ps e o = let ys = layout kind.StructType (typings s kind.StructType h ps [] ps) in closed_node s kind.StructType h i j ys (is_sound kind.StructType ys (own_faults s kind.StructType h i j ys)) refl
    truths_by s h p kind.Integer i j ps e o = let ys = typings s kind.Integer h ps [] ps in closed_node s kind.Integer h i j ys (is_sound kind.Integer ys (own_faults s kind.Integer h i j ys)) refl
    truths_by s h p kind.Rune i j ps e o = let ys = typings s kind.Rune h ps [] ps in closed_node s kind.Rune h i j ys (is_sound kind.Rune ys (own_faults s kind.Rune h i j ys)) refl
    truths_by s h p kind.Text i j ps e o = let ys = typings s kind.Text h ps [] ps in closed_node s kind.Text h i j ys (is_sound kind.Text ys (own_faults s kind.Text h i j ys)) refl
    truths_by s h p k i j ps e o = cc
