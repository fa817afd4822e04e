-- Operands that stand for no value: types, `nil`, predeclared functions and what is selected of the package. No variable stands in them.
use Rattle.std.proofs.Common.{◌≡◌, ℕ, suc, ◌-◌, Bool, true, false, List, [], ◌∷◌, Option, Some, None, refl, subst, IsTrue, nat_le, arith}
use Rattle.std.proofs.lemmas.Bool.Decides.{nat_tests}
use Rattle.std.specs.Prelude.{◌&&◌, ◌||◌, if◌then◌else◌, Result, Ok, Err}
use Rattle.go_constants.specs.declared.values.Const.{Const}
use Rattle.go_constants.specs.declared.values.Const.TheVariants as const
use Rattle.go_constants.specs.declared.values.ConstFault.{ConstFault}
use Rattle.go_grammar.specs.declared.kind.Category.{Category}
use Rattle.go_grammar.specs.declared.kind.Category.TheVariants as category
use Rattle.go_grammar.specs.declared.kind.Kind.{Kind}
use Rattle.go_grammar.specs.declared.kind.Kind.TheVariants as kind
use Rattle.go_grammar.specs.declared.kind.Level.{Level}
use Rattle.go_grammar.specs.declared.kind.Level.TheVariants as level
use Rattle.go_grammar.specs.declared.kind.Operator.{Operator}
use Rattle.go_grammar.specs.declared.kind.Operator.TheVariants as operator
use Rattle.go_grammar.specs.declared.kind.Place.{Place}
use Rattle.go_grammar.specs.declared.kind.Sign.{Sign}
use Rattle.go_grammar.specs.declared.kind.Place.TheVariants as place
use Rattle.go_grammar.specs.Categories.{within, tightness, place_of}
use Rattle.go_grammar.specs.Categories as categories
use Rattle.go_grammar.specs.Grammar.{rule}
use Rattle.go_grammar.specs.Operators.{rank}
use Rattle.go_grammar.specs.Trees.{Tree, node, Trees, none, more, skip, kind_of}
use Rattle.go_ints.specs.declared.operators.Op.TheVariants as op
use Rattle.go_tree.specs.declared.object.Predeclared.{Predeclared}
use Rattle.go_tree.specs.declared.object.Predeclared.TheVariants as predeclared
use Rattle.go_types.specs.Trees.{TypeTree, TypeRow}
use Rattle.go_types.specs.Trees as types
use Rattle.go_types.specs.Relations.{Rights}
use Rattle.go_types_relations.specs.Tests.{underlying_of}
use Rattle.go_typed.specs.Trees.{Sort, typed, Typeds, sort_of, form_of, label_of}
use Rattle.go_typed.specs.Trees as sort
use Rattle.go_exprs_rules.specs.declared.family.OpenKind.TheVariants as untyped_kind
use Rattle.go_exprs_rules.specs.Calls.{keeps_value, becomes_text, constant_or_value, text_of, conversion_sort, call_sort, builtin_sort, called, results_of, constant_length, length_value, extreme_in, extreme_value, meeting}
use Rattle.go_exprs_rules.specs.Indexes.{value_or_unknown, selector_sort, named_field}
use Rattle.go_exprs_rules.specs.Operators.{Common, in_type, in_kind, constant_in, result_in, binary_sort_in, shift_sort_in, common, own, is_shift, operation_sort, comparing, folded_both, binary_value, unary_sort_in, unary_value}
use Rattle.go_exprs_rules.specs.Scopes.{Scope, Hint, value}
use Rattle.go_exprs_rules.specs.Settling.{Part}
use Rattle.go_exprs_rules.specs.Sorts.{Stands, constant_of, form_of_value, element_of, is_text, byte, value_type}
use Rattle.go_exprs_rules.specs.Tables.{Parts, present, in_parentheses, is_package, layout, form_by, sort_by, takes, all_given, built_by, is_sound, own_faults, literal_type}
use Rattle.go_exprs_rules.specs.Typing.{typing, typings}
use Rattle.clone_window.specs.Masses.{is_expression}
use Rattle.clone_window.specs.Masses as masses
use Rattle.go_exprs_variables.specs.Shapes.{IsShaped, AreShaped}
use Rattle.go_exprs_variables.specs.Variables.{Standins, may_be_constant, expresses, Free, AllFree, NameFree, PartsFree, Stays, ProperNode, Proper, AllProper}
use Rattle.go_exprs_variables.proofs.Same.{Kept, kept_free}
use Rattle.go_exprs_variables.proofs.Away.{Clear}
use Rattle.go_exprs_variables.proofs.Standing.{Each, clear_node, typing_clear}

-- ---- kinds of operands

abbrev pub is_operand : Kind → Bool
is_operand k = expresses k || categories.is_type_literal k

pub operand_kind : (k : Kind) → categories.is_expression k ≡ true → is_operand k ≡ true
operand_kind kind.Name e = refl
operand_kind kind.Integer e = refl
operand_kind kind.Rune e = refl
operand_kind kind.Text e = refl
operand_kind kind.Parenthesized e = refl
operand_kind (kind.Unary o) e = refl
operand_kind (kind.Binary o) e = refl
operand_kind kind.Selector e = refl
operand_kind kind.Bracketed e = refl
operand_kind kind.Call e = refl
operand_kind kind.Composite e = refl
operand_kind kind.SequenceType e = refl
operand_kind kind.FunctionType e = refl
operand_kind kind.StructType e = refl
operand_kind k e = cc

tighter : (r t : ℕ) → nat_le (suc r) t ≡ true → nat_le 1 t ≡ true
tighter r t e = grind (arith, nat_tests, e)

ranked : (l : Level) (k : Kind) → nat_le (rank l) (tightness k) ≡ true → categories.is_expression k ≡ true
ranked level.Either k e = tighter 0 (tightness k) e
ranked level.Both k e = tighter 1 (tightness k) e
ranked level.Comparison k e = tighter 2 (tightness k) e
ranked level.Sum k e = tighter 3 (tightness k) e
ranked level.Product k e = tighter 4 (tightness k) e
ranked level.Unary k e = tighter 5 (tightness k) e
ranked level.Primary k e = tighter 6 (tightness k) e

pub operand_within : (l : Level) (p : Place) (k : Kind) → IsTrue (within (category.Expression l p) k) → is_operand k ≡ true
operand_within l p k e = operand_kind k (ranked l k e)

pub expression_operand : (l : Level) (p : Place) (x : Tree) → IsShaped (category.Expression l p) x → is_operand (kind_of x) ≡ true
expression_operand l p (node k i j ps) e = operand_within l p k e.0

-- ---- what stands for no value

abbrev pub is_named : Stands → Bool
is_named (sort.IsType t) = true
is_named sort.Nil = true
is_named (sort.Builtin p) = true
is_named sort.Println = true
is_named sort.Package = true
is_named z = false

pub value_unnamed : (o : Option TypeTree) → is_named (value_or_unknown o) ≡ false
value_unnamed None = refl
value_unnamed (Some t) = refl

constant_unnamed : (c : Common) (v : Const) → is_named (constant_in c v) ≡ false
constant_unnamed (in_type t) v = refl
constant_unnamed (in_kind k) v = refl

result_unnamed : (c : Common) (r : Option (Result Const ConstFault)) → is_named (result_in c r) ≡ false
result_unnamed c (Some (Ok v)) = constant_unnamed c v
result_unnamed c (Some (Err e)) = refl
result_unnamed (in_type t) None = refl
result_unnamed (in_kind untyped_kind.Boolean) None = refl
result_unnamed (in_kind untyped_kind.Integer) None = refl
result_unnamed (in_kind untyped_kind.Rune) None = refl
result_unnamed (in_kind untyped_kind.Text) None = refl

module _ (rights : Rights) where
  unary_unnamed : (o : Sign) (a : Stands) (d : Option Common) → is_named (unary_sort_in rights o a d) ≡ false
  unary_unnamed o a None = refl
  unary_unnamed o a (Some c) = result_unnamed c (unary_value rights o a)

  binary_unnamed : (o : Operator) (a b : Stands) (d : Option Common) → is_named (binary_sort_in o a b d) ≡ false
  binary_unnamed o a b None = refl
  binary_unnamed o a b (Some c) = result_unnamed c (binary_value o a b)

  shift_unnamed : (o : Operator) (a b : Stands) (d : Option Common) → is_named (shift_sort_in o a b d) ≡ false
  shift_unnamed o a b None = refl
  shift_unnamed o a b (Some c) = result_unnamed c (binary_value o a b)

  operation_unnamed : (o : Operator) (a b : Stands) → is_named (operation_sort rights o a b) ≡ false
  operation_unnamed operator.Either a b = binary_unnamed operator.Either a b (common rights a b)
  operation_unnamed operator.Both a b = binary_unnamed operator.Both a b (common rights a b)
  operation_unnamed (operator.Compare c) a b = result_unnamed (in_kind untyped_kind.Boolean) (folded_both (comparing c) (constant_of a) (constant_of b))
  operation_unnamed (operator.Compute m) a b = by_test (is_shift (operator.Compute m))
    where
      by_test : (d : Bool) → is_named (if d then shift_sort_in (operator.Compute m) a b (own a) else binary_sort_in (operator.Compute m) a b (common rights a b)) ≡ false
      by_test true = shift_unnamed (operator.Compute m) a b (own a)
      by_test false = binary_unnamed (operator.Compute m) a b (common rights a b)

  conversion_unnamed : (t : TypeTree) (a : Stands) → is_named (conversion_sort rights t a) ≡ false
  conversion_unnamed t a = by_tests (constant_of a) (keeps_value rights t (constant_of a)) (becomes_text rights t (constant_of a))
    where
      by_tests : (v : Option Const) (b c : Bool) → is_named (if b then constant_or_value t v else (if c then sort.Constant t (const.Text (text_of v)) else sort.Value t)) ≡ false
      by_tests None true c = refl
      by_tests (Some v) true c = refl
      by_tests v false true = refl
      by_tests v false false = refl

  length_unnamed : (o : Option ℕ) → is_named (length_value o) ≡ false
  length_unnamed None = refl
  length_unnamed (Some n) = refl

  extreme_unnamed : (m : Option Common) (v : Option Const) → is_named (extreme_in m v) ≡ false
  extreme_unnamed None v = refl
  extreme_unnamed (Some c) None = refl
  extreme_unnamed (Some c) (Some v) = constant_unnamed c v

  builtin_unnamed : (p : Predeclared) (xs : List Part) → is_named (builtin_sort rights p xs) ≡ false
  builtin_unnamed predeclared.Len [] = refl
  builtin_unnamed predeclared.Len (x ∷ xs) = length_unnamed (constant_length rights x)
  builtin_unnamed predeclared.Cap [] = refl
  builtin_unnamed predeclared.Cap (x ∷ xs) = length_unnamed (constant_length rights x)
  builtin_unnamed predeclared.Make [] = refl
  builtin_unnamed predeclared.Make (x ∷ xs) = value_unnamed _
  builtin_unnamed predeclared.Append [] = refl
  builtin_unnamed predeclared.Append (x ∷ xs) = value_unnamed _
  builtin_unnamed predeclared.Min xs = extreme_unnamed (meeting rights xs) (extreme_value op.Min xs)
  builtin_unnamed predeclared.Max xs = extreme_unnamed (meeting rights xs) (extreme_value op.Max xs)
  builtin_unnamed predeclared.Copy xs = refl
  builtin_unnamed predeclared.Panic xs = refl
  builtin_unnamed p xs = refl

  called_unnamed : (t : TypeTree) (rs : TypeRow) → is_named (called t rs) ≡ false
  called_unnamed t types.none = refl
  called_unnamed t (types.more r types.none) = refl
  called_unnamed t (types.more r (types.more q qs)) = refl

  call_unnamed : (z : Stands) (xs : List Part) → is_named (call_sort rights z xs) ≡ false
  call_unnamed (sort.IsType t) [] = refl
  call_unnamed (sort.IsType t) (x ∷ xs) = conversion_unnamed t (sort_of x)
  call_unnamed (sort.Builtin p) xs = builtin_unnamed p xs
  call_unnamed sort.Println xs = refl
  call_unnamed (sort.Value t) xs = called_unnamed t (results_of (underlying_of rights t))
  call_unnamed (sort.Constant t c) xs = called_unnamed t (results_of (underlying_of rights t))
  call_unnamed z xs = refl

module _ (s : Scope) (h : Hint) (i j : ℕ) where
  pub unary_kind : (o : Sign) (ys : Parts) → is_named (sort_by s (kind.Unary o) h i j ys) ≡ false
  unary_kind o [] = refl
  unary_kind o (None ∷ ys) = refl
  unary_kind o (Some x ∷ []) = unary_unnamed s.rights o (sort_of x) (own (sort_of x))
  unary_kind o (Some x ∷ y ∷ ys) = refl

  pub binary_kind : (o : Operator) (ys : Parts) → is_named (sort_by s (kind.Binary o) h i j ys) ≡ false
  binary_kind o [] = refl
  binary_kind o (None ∷ ys) = refl
  binary_kind o (Some x ∷ []) = refl
  binary_kind o (Some x ∷ None ∷ ys) = refl
  binary_kind o (Some x ∷ Some y ∷ []) = operation_unnamed s.rights o (sort_of x) (sort_of y)
  binary_kind o (Some x ∷ Some y ∷ z ∷ ys) = refl

  pub bracketed_kind : (ys : Parts) → is_named (sort_by s kind.Bracketed h i j ys) ≡ false
  bracketed_kind [] = refl
  bracketed_kind (None ∷ ys) = refl
  bracketed_kind (Some x ∷ []) = refl
  bracketed_kind (Some x ∷ None ∷ []) = refl
  bracketed_kind (Some x ∷ Some y ∷ []) = by_text (is_text s.rights (sort_of x))
    where
      by_text : (b : Bool) → is_named (if b then sort.Value byte else value_or_unknown (element_of (form_of_value s.rights (sort_of x)))) ≡ false
      by_text true = refl
      by_text false = value_unnamed (element_of (form_of_value s.rights (sort_of x)))
  bracketed_kind (Some x ∷ None ∷ z ∷ []) = value_unnamed (value_type (sort_of x))
  bracketed_kind (Some x ∷ Some y ∷ z ∷ []) = value_unnamed (value_type (sort_of x))
  bracketed_kind (Some x ∷ None ∷ z ∷ v ∷ ys) = refl
  bracketed_kind (Some x ∷ Some y ∷ z ∷ v ∷ ys) = refl

  pub call_kind : (ys : Parts) → is_named (sort_by s kind.Call h i j ys) ≡ false
  call_kind [] = refl
  call_kind (None ∷ ys) = refl
  call_kind (Some f ∷ ys) = call_unnamed s.rights (sort_of f) (present ys)

  pub composite_kind : (ys : Parts) → is_named (sort_by s kind.Composite h i j ys) ≡ false
  composite_kind [] = refl
  composite_kind (t ∷ ys) = value_unnamed (literal_type h t)

  pub literal_kind : (ys : Parts) → is_named (sort_by s kind.LiteralValue h i j ys) ≡ false
  literal_kind [] = refl
  literal_kind (t ∷ ys) = value_unnamed (literal_type h t)

  -- what is named stands for what the tables say
  named_sort : (k : Kind) (ys : Parts) (b : Bool) → is_named (sort_of (built_by s k h i j ys b)) ≡ true → (b ≡ true) × (is_named (sort_by s k h i j ys) ≡ true)
  named_sort k ys true e = (refl, e)
  named_sort k ys false e = cc

  named_plain : (z : Stands) → is_named z ≡ true → masses.is_constant z ≡ false
  named_plain (sort.Constant t c) e = cc
  named_plain (sort.OpenConstant c) e = cc
  named_plain z e = refl

  differ : {X : Type 0} (b : Bool) → b ≡ false → b ≡ true → X
  differ true e f = cc
  differ false e f = cc

  and_false : (b c : Bool) → c ≡ false → (b && c) ≡ false
  and_false true c e = e
  and_false false c e = refl

  not_here : (k : Kind) (ys : Parts) (b : Bool) (X : Type 0) → is_named (sort_by s k h i j ys) ≡ false → is_named (sort_of (built_by s k h i j ys b)) ≡ true → X
  not_here k ys true X e f = differ (is_named (sort_by s k h i j ys)) e f
  not_here k ys false X e f = cc

-- ---- no variable stands in them

module _ (w : Standins) where
  abbrev Rest : Scope → Hint → Tree → Type 0
  Rest s h x = Kept w x × Clear w (typing s h x)

  proper_inside : (k : Kind) (i j : ℕ) (ps : Trees) → Stays w (node k i j ps) → Proper w (node k i j ps) → NameFree w k i × PartsFree w k ps × AllProper w ps
  proper_inside k i j ps e p = subst (λ b. ProperNode b w k i ps (AllProper w ps)) e p

  -- a node over parts of which this is known, which isn't constant
  plain_node : (s : Scope) (k : Kind) (h : Hint) (i j : ℕ) (ys : Parts) (b : Bool) → is_named (sort_of (built_by s k h i j ys b)) ≡ true → Each (Clear w) (all_given (takes s k h ys) ys) → Clear w (built_by s k h i j ys b)
  plain_node s k h i j ys true e each =
      clear_node w (form_by s k h i j ys) i j (sort_by s k h i j ys) ys (all_given (takes s k h ys) ys)
      (λ m. differ s h i j (is_expression (form_by s k h i j ys) && masses.is_constant (sort_by s k h i j ys)) (and_false s h i j (is_expression (form_by s k h i j ys)) (masses.is_constant (sort_by s k h i j ys)) (named_plain s h i j (sort_by s k h i j ys) e)) m) each
  plain_node s k h i j ys false e each = cc

  type_rest : (s : Scope) (h : Hint) (k : Kind) (i j : ℕ) (ps : Trees) → may_be_constant k ≡ false → AllFree w ps → Rest s h (node k i j ps)
  type_rest s h k i j ps e free =
      let all : Free w (node k i j ps) = ((λ m. differ s h i j (may_be_constant k) e m), free) in
      (kept_free w (node k i j ps) all, typing_clear w s h (node k i j ps) all)

  one_inside : (s : Scope) (h : Hint) (i j : ℕ) (p : Tree) (b : Bool) → Stays w (node kind.Parenthesized i j (more p none)) → is_named (sort_of (built_by s kind.Parenthesized h i j (Some (typing s (in_parentheses h) p) ∷ []) b)) ≡ true
      → Rest s (in_parentheses h) p → Kept w (node kind.Parenthesized i j (more p none)) × Clear w (built_by s kind.Parenthesized h i j (Some (typing s (in_parentheses h) p) ∷ []) b)
  one_inside s h i j p b st e r = ((st, tt, (r.0, tt)), plain_node s kind.Parenthesized h i j (Some (typing s (in_parentheses h) p) ∷ []) b e (r.1, tt))

  -- the kinds that stand for what they stand for by their parts
  package_by : (s : Scope) (h : Hint) (i j : ℕ) (x : Part) (b : Bool) → is_package (sort_of x) ≡ b
      → is_named (sort_of (built_by s kind.Selector h i j (if b then [] else Some x ∷ []) (is_sound kind.Selector (if b then [] else Some x ∷ []) (own_faults s kind.Selector h i j (if b then [] else Some x ∷ []))))) ≡ true
      → (is_named (sort_of x) ≡ true) × Clear w (built_by s kind.Selector h i j (if b then [] else Some x ∷ []) (is_sound kind.Selector (if b then [] else Some x ∷ []) (own_faults s kind.Selector h i j (if b then [] else Some x ∷ []))))
  package_by s h i j x true e m = (by_sort (sort_of x) e, plain_node s kind.Selector h i j [] (is_sound kind.Selector [] (own_faults s kind.Selector h i j [])) m tt)
    where
      by_sort : (z : Stands) → is_package z ≡ true → is_named z ≡ true
      by_sort sort.Package e = refl
      by_sort z e = cc
  package_by s h i j x false e m = not_here s h i j kind.Selector (Some x ∷ []) (is_sound kind.Selector (Some x ∷ []) (own_faults s kind.Selector h i j (Some x ∷ []))) _ (by_sort (sort_of x) e) m
    where
      by_sort : (z : Stands) → is_package z ≡ false → is_named (selector_sort s.rights (s.texts (j - 1)) z) ≡ false
      by_sort sort.Package e = cc
      by_sort z e = value_unnamed (named_field (form_of_value s.rights z) (s.texts (j - 1)))

  mutual
    -- An operand that stands for no value is typed as before.
    pub named_rest : (s : Scope) (h : Hint) (c : Category) (x : Tree) → IsShaped c x → is_operand (kind_of x) ≡ true → Stays w x → Proper w x → is_named (sort_of (typing s h x)) ≡ true → Rest s h x
    named_rest s h c (node k i j ps) e o st pr m = rest_by s h (place_of c) k i j ps e.1 o st (proper_inside k i j ps st pr) m

    rest_by : (s : Scope) (h : Hint) (p : Place) (k : Kind) (i j : ℕ) (ps : Trees) → AreShaped (rule p k) ps → is_operand k ≡ true → Stays w (node k i j ps) → NameFree w k i × PartsFree w k ps × AllProper w ps → is_named (sort_of (typing s h (node k i j ps))) ≡ true
        → Rest s h (node k i j ps)
    rest_by s h p kind.Name i j none e o st pr m = ((st, pr.0, tt), plain_node s kind.Name h i j [] (is_sound kind.Name [] (own_faults s kind.Name h i j [])) m tt)
    rest_by s h p kind.Name i j (more q qs) e o st pr m = elim e [ ]
    rest_by s h p kind.Name i j (skip qs) e o st pr m = elim e [ ]
    rest_by s h p kind.Parenthesized i j none e o st pr m = elim e [ ]
    rest_by s h p kind.Parenthesized i j (skip qs) e o st pr m = elim e [ ]
    rest_by s h p kind.Parenthesized i j (more q (more r qs)) e o st pr m = elim e.1 [ ]
    rest_by s h p kind.Parenthesized i j (more q (skip qs)) e o st pr m = elim e.1 [ ]
    rest_by s h p kind.Parenthesized i j (more q none) e o st pr m =
        let x = typing s (in_parentheses h) q in
        let b = is_sound kind.Parenthesized (Some x ∷ []) (own_faults s kind.Parenthesized h i j (Some x ∷ [])) in
        one_inside s h i j q b st m
        (named_rest s (in_parentheses h) (category.Expression level.Either place.Free) q e.0 (expression_operand level.Either place.Free q e.0) pr.1 pr.2.0 (named_sort s h i j kind.Parenthesized (Some x ∷ []) b m).1)
    rest_by s h p kind.Selector i j none e o st pr m = elim e [ ]
    rest_by s h p kind.Selector i j (skip qs) e o st pr m = elim e [ ]
    rest_by s h p kind.Selector i j (more q (more r qs)) e o st pr m = elim e.1 [ ]
    rest_by s h p kind.Selector i j (more q (skip qs)) e o st pr m = elim e.1 [ ]
    rest_by s h p kind.Selector i j (more q none) e o st pr m =
        let x = typing s value q in
        let t = package_by s h i j x (is_package (sort_of x)) refl m in
        let r = named_rest s value (category.Expression level.Primary p) q e.0 (expression_operand level.Primary p q e.0) pr.1 pr.2.0 t.0 in
        ((st, tt, (r.0, tt)), t.1)
    rest_by s h p kind.SequenceType i j ps e o st pr m = type_rest s h kind.SequenceType i j ps refl pr.1
    rest_by s h p kind.FunctionType i j ps e o st pr m = type_rest s h kind.FunctionType i j ps refl pr.1
    rest_by s h p kind.StructType i j ps e o st pr m = type_rest s h kind.StructType i j ps refl pr.1
    rest_by s h p kind.Integer i j ps e o st pr m = let ys = typings s kind.Integer h ps [] ps in not_here s h i j kind.Integer ys (is_sound kind.Integer ys (own_faults s kind.Integer h i j ys)) _ refl m
    rest_by s h p kind.Rune i j ps e o st pr m = let ys = typings s kind.Rune h ps [] ps in not_here s h i j kind.Rune ys (is_sound kind.Rune ys (own_faults s kind.Rune h i j ys)) _ refl m
    rest_by s h p kind.Text i j ps e o st pr m = let ys = typings s kind.Text h ps [] ps in not_here s h i j kind.Text ys (is_sound kind.Text ys (own_faults s kind.Text h i j ys)) _ refl m
    rest_by s h p (kind.Unary q) i j ps e o st pr m =
        let ys = typings s (kind.Unary q) h ps [] ps in not_here s h i j (kind.Unary q) ys (is_sound (kind.Unary q) ys (own_faults s (kind.Unary q) h i j ys)) _ (unary_kind s h i j q ys) m
    rest_by s h p (kind.Binary q) i j ps e o st pr m =
        let ys = typings s (kind.Binary q) h ps [] ps in not_here s h i j (kind.Binary q) ys (is_sound (kind.Binary q) ys (own_faults s (kind.Binary q) h i j ys)) _ (binary_kind s h i j q ys) m
    rest_by s h p kind.Bracketed i j ps e o st pr m =
        let ys = layout kind.Bracketed (typings s kind.Bracketed h ps [] ps) in not_here s h i j kind.Bracketed ys (is_sound kind.Bracketed ys (own_faults s kind.Bracketed h i j ys)) _ (bracketed_kind s h i j ys) m
    rest_by s h p kind.Call i j ps e o st pr m =
        let ys = layout kind.Call (typings s kind.Call h ps [] ps) in not_here s h i j kind.Call ys (is_sound kind.Call ys (own_faults s kind.Call h i j ys)) _ (call_kind s h i j ys) m
    rest_by s h p kind.Composite i j ps e o st pr m =
        let ys = layout kind.Composite (typings s kind.Composite h ps [] ps) in not_here s h i j kind.Composite ys (is_sound kind.Composite ys (own_faults s kind.Composite h i j ys)) _ (composite_kind s h i j ys) m
    rest_by s h p kind.LiteralValue i j ps e o st pr m =
        let ys = layout kind.LiteralValue (typings s kind.LiteralValue h ps [] ps) in not_here s h i j kind.LiteralValue ys (is_sound kind.LiteralValue ys (own_faults s kind.LiteralValue h i j ys)) _ (literal_kind s h i j ys) m
    rest_by s h p k i j ps e o st pr m = cc
