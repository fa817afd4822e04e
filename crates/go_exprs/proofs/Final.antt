-- Final types from above are those that a tree typed by itself has once it takes what is wanted.
use Rattle.std.proofs.Common.{◌≡◌, ◌⊎◌, inl, inr, ℕ, Bool, true, false, cond, List, [], ◌∷◌, ◌++◌, map, Option, Some, None, refl, ap, sym, subst, ◌∙◌, append_assoc, append-nil}
use Rattle.std.specs.Prelude.{◌&&◌, is_some}
use Rattle.std.specs.Option.{option_map}
use Rattle.go_tokens.specs.declared.token.TokenKind.{TokenKind}
use Rattle.go_tokens.specs.declared.token.TokenKind.TheVariants as token
use Rattle.go_grammar.specs.declared.kind.Category.{Category}
use Rattle.go_grammar.specs.declared.kind.Category.TheVariants as category
use Rattle.go_grammar.specs.declared.kind.Comparison.{Comparison}
use Rattle.go_grammar.specs.declared.kind.Kind.{Kind}
use Rattle.go_grammar.specs.declared.kind.Kind.TheVariants as kind
use Rattle.go_grammar.specs.declared.kind.Place.TheVariants as place
use Rattle.go_grammar.specs.declared.kind.Operator.{Operator}
use Rattle.go_grammar.specs.declared.kind.Operator.TheVariants as operator
use Rattle.go_grammar.specs.declared.kind.Sign.{Sign}
use Rattle.go_grammar.specs.Categories.{within, is_expression, place_of}
use Rattle.go_grammar.specs.Grammar.{Derives, Spells, Goes, rule, any}
use Rattle.go_grammar.specs.Rules.{Items, Lines, Rule, End, Then, Maybe, Unless, Many, item}
use Rattle.go_grammar.specs.Trees.{Tree, node, Trees, none, more, skip, kind_of, last}
use Rattle.go_tree.specs.declared.object.Object.{Object}
use Rattle.go_tree.specs.declared.object.Object.TheVariants as object
use Rattle.go_ints.specs.declared.operators.Op.{Op}
use Rattle.go_ints.specs.declared.operators.Op.TheVariants as op
use Rattle.go_constants.specs.declared.values.Const.{Const}
use Rattle.go_constants.specs.declared.values.Const.TheVariants as const
use Rattle.go_tree.specs.declared.object.Predeclared.{Predeclared}
use Rattle.go_tree.specs.declared.object.Predeclared.TheVariants as predeclared
use Rattle.go_types.specs.Relations.{Rights}
use Rattle.go_types.specs.Trees.{TypeTree, TypeRow}
use Rattle.go_types.specs.Trees as types
use Rattle.go_types_relations.specs.Tests.{underlying_of}
use Rattle.go_typed.specs.declared.form.Form.{Form}
use Rattle.go_typed.specs.declared.form.Form.TheVariants as form
use Rattle.go_typed.specs.Trees.{Typed, typed, row, sort_of, form_of}
use Rattle.go_typed.specs.Trees as sort
use Rattle.go_exprs_rules.specs.declared.fault.TypeFault.{TypeFault}
use Rattle.go_exprs_rules.specs.Faults.{or_else}
use Rattle.go_exprs_rules.specs.Sorts.{Stands, takes_type, is_constant, is_nil, constant_of, is_text, own_type, named_type, form_of_value, value_type, element_of, int, uint, byte}
use Rattle.go_exprs_rules.specs.Calls.{keeps_value, becomes_text, text_of, constant_or_value, conversion_sort, converted_sort, called, results_of, length_value, length_sort, constant_length, made_sort, appended_sort, are_constants, better, extreme_behind, extreme_value, extreme_in, extreme_sort, extreme_take_in, extreme_take, meeting, call_sort, call_takes}
use Rattle.go_exprs_rules.specs.Indexes.{value_or_unknown, index_sort, slice_sort}
use Rattle.go_exprs_rules.specs.Literals.{literal_sort}
use Rattle.go_exprs_rules.specs.Settling.{Part, Take, stay, default, as_type, settled, given}
use Rattle.go_exprs_rules.specs.Names.{name_form, object_form, declared_form, form_or_type, name_sort}
use Rattle.go_exprs_rules.specs.Operators.{Common, in_type, in_kind, common, constant_op, compared_in, compared_failing, compared_failing_in, compared_sort, compared_take, compared_take_in, is_shift, shift_sort, shifted_take, binary_sort, binary_take, operation_takes, operation_sort, operation_failing}
use Rattle.go_exprs_rules.specs.Scopes.{Scope, Hint, declares, free}
use Rattle.go_exprs_rules.specs.Tables.{Parts, hint, part_scope, layout, label, form_by, sort_by, takes, failing, placing, is_judged, no_faults, built, built_by, all_given, is_held, callee_form, present, literal_type, on_first, on_one, on_two, on_bracketed, on_literal}
use Rattle.go_exprs_rules.specs.Typing.{typing, typings}
use Rattle.go_exprs.specs.Final.{Wanted, take, bound, take_of, under, handed, final_type, each, all_take, operation_wants, wants, stands_if, wants_if, sound, alone, parts_want, finished, first_wanted, rest_wanted, rest, operand_wants, shift_wants, both_want, bounds_want, final, finals}
use Rattle.go_exprs.proofs.Takes.{labelled, node_takes, typed_stays, through, unary_wants, operands_meet, shifted_wants, compared_wants, type_once, left_not_nil, right_not_nil}
use Rattle.go_exprs.proofs.Layouts.{is_bounds, within_bounds, bounded, given_as, given_each, none_each, takes_each, same_each, list_row, first_cut_given, call_given, selector_given, behind_given, all_stay, AllThere, there_call, Fit, bracketed_given}

-- ---- a node in which no rule fails

no_failing : (b : Bool) (fs gs : List TypeFault) → (b && no_faults (cond b (or_else fs gs) [])) ≡ true → fs ≡ []
no_failing true [] gs e = refl
no_failing true (f ∷ fs) gs e = cc
no_failing false fs gs e = cc

two_parts : (p q x y : Part) → p ≡ q → x ≡ y → Some p ∷ Some x ∷ [] ≡ Some q ∷ Some y ∷ []
two_parts p q x y e f = ap (λ z. Some z ∷ Some x ∷ []) e ∙ ap (λ z. Some q ∷ Some z ∷ []) f

-- ---- what never takes a type

closed_if : (b : Bool) (x y : Stands) → takes_type x ≡ false → takes_type y ≡ false → takes_type (cond b x y) ≡ false
closed_if true x y e f = e
closed_if false x y e f = f

closed_value : (o : Option TypeTree) → takes_type (value_or_unknown o) ≡ false
closed_value None = refl
closed_value (Some t) = refl

closed_called : (t : TypeTree) (rs : TypeRow) → takes_type (called t rs) ≡ false
closed_called t types.none = refl
closed_called t (types.more r types.none) = refl
closed_called t (types.more r (types.more q rs)) = refl

closed_constant : (t : TypeTree) (o : Option Const) → takes_type (constant_or_value t o) ≡ false
closed_constant t None = refl
closed_constant t (Some c) = refl

closed_length : (o : Option ℕ) → takes_type (length_value o) ≡ false
closed_length None = refl
closed_length (Some n) = refl

-- what is typed hands nothing down
nothing_handed : (w : Take) (x : Stands) (zs : Parts) → takes_type x ≡ false → map (option_map (given (handed w x))) zs ≡ zs
nothing_handed w x zs e = ap (λ b. map (option_map (given (cond b (final_type w x) stay))) zs) e ∙ all_stay zs

-- ---- `min` and `max` of constants

both_there : (o : Op) (c d : Option Const) → is_some (better o c d) ≡ true → (is_some c ≡ true) × (is_some d ≡ true)
both_there o None d e = cc
both_there o (Some c) None e = cc
both_there o (Some c) (Some d) e = (refl, refl)

behind_constant : (o : Op) (c : Option Const) (xs : List Part) → is_some (extreme_behind o c xs) ≡ true → (is_some c ≡ true) × (are_constants xs ≡ true)
behind_constant o c [] e = (e, refl)
behind_constant o c (x ∷ xs) e =
    let later = behind_constant o (better o c (constant_of (sort_of x))) xs e in
    let here = both_there o c (constant_of (sort_of x)) later.0 in
    (here.0, ap (λ b. b && are_constants xs) here.1 ∙ later.1)

all_constant : (o : Op) (xs : List Part) → is_some (extreme_value o xs) ≡ true → are_constants xs ≡ true
all_constant o [] e = refl
all_constant o (x ∷ xs) e = let all = behind_constant o (constant_of (sort_of x)) xs e in ap (λ b. b && are_constants xs) all.0 ∙ all.1

-- a constant that has taken its default type takes no other
closed_default : (x : Part) → is_constant (sort_of x) ≡ true → takes_type (sort_of (given default x)) ≡ false
closed_default (typed f i j l ps) e = by l.sort e
  where
    by : (a : Stands) → is_constant a ≡ true → takes_type (sort_of (given default (typed f i j (labelled a l.varies l.calls) ps))) ≡ false
    by (sort.OpenConstant c) e = refl
    by (sort.Constant t c) e = refl
    by a e = cc

front_true : (a b : Bool) → (a && b) ≡ true → (a ≡ true) × (b ≡ true)
front_true true b e = (refl, e)
front_true false b e = cc

kept_defaults : (d : Take) (zs : Parts) → AllThere zs → are_constants (present zs) ≡ true → map (option_map (given d)) (all_given (map (λ x. default) (present zs)) zs) ≡ all_given (map (λ x. default) (present zs)) zs
kept_defaults d [] there e = refl
kept_defaults d (None ∷ zs) there e = absurd there
kept_defaults d (Some x ∷ zs) there e =
    let all = front_true (is_constant (sort_of x)) (are_constants (present zs)) e in
    let ks = map (λ x. default) (present zs) in
    ap (λ y. Some y ∷ map (option_map (given d)) (all_given ks zs)) (typed_stays d (given default x) (closed_default x all.0)) ∙ ap (λ ys. Some (given default x) ∷ ys) (kept_defaults d zs there all.1)

-- ---- by what stands for them

module _ (rights : Rights) where
  closed_conversion : (t : TypeTree) (x : Stands) → takes_type (conversion_sort rights t x) ≡ false
  closed_conversion t x =
      closed_if (keeps_value rights t (constant_of x)) (constant_or_value t (constant_of x)) (cond (becomes_text rights t (constant_of x)) (sort.Constant t (const.Text (text_of (constant_of x)))) (sort.Value t))
      (closed_constant t (constant_of x)) (closed_if (becomes_text rights t (constant_of x)) (sort.Constant t (const.Text (text_of (constant_of x)))) (sort.Value t) refl refl)

  closed_length_of : (xs : List Part) → takes_type (length_sort rights xs) ≡ false
  closed_length_of [] = refl
  closed_length_of (x ∷ xs) = closed_length (constant_length rights x)

  closed_made : (xs : List Part) → takes_type (made_sort xs) ≡ false
  closed_made [] = refl
  closed_made (x ∷ xs) = closed_value (named_type (sort_of x))

  closed_appended : (xs : List Part) → takes_type (appended_sort xs) ≡ false
  closed_appended [] = refl
  closed_appended (x ∷ xs) = closed_value (own_type (sort_of x))

  -- `min` or `max` takes no type, or its arguments are constants that take their default types
  closed_extreme : (o : Op) (xs : List Part) → (takes_type (extreme_sort rights o xs) ≡ false) ⊎ ((extreme_take rights xs ≡ default) × (are_constants xs ≡ true))
  closed_extreme o xs = by (meeting rights xs) (extreme_value o xs) (all_constant o xs)
    where
      by : (m : Option Common) (v : Option Const) → (is_some v ≡ true → are_constants xs ≡ true) → (takes_type (extreme_in m v) ≡ false) ⊎ ((extreme_take_in (are_constants xs) m ≡ default) × (are_constants xs ≡ true))
      by None v h = inl refl
      by (Some (in_type t)) None h = inl refl
      by (Some (in_type t)) (Some c) h = inl refl
      by (Some (in_kind k)) None h = inl refl
      by (Some (in_kind k)) (Some c) h = inr (ap (λ b. extreme_take_in b (Some (in_kind k))) (h refl), h refl)

  -- a call takes no type, or its arguments are constants that take their default types
  abbrev Closes : Stands → List Part → Type 0
  Closes a xs = (takes_type (call_sort rights a xs) ≡ false) ⊎ (((call_takes rights a xs ≡ map (λ x. default) xs) × (are_constants xs ≡ true)) × (takes_type a ≡ false))

  closed_builtin : (p : Predeclared) (xs : List Part) → Closes (sort.Builtin p) xs
  closed_builtin predeclared.Len xs = inl (closed_length_of xs)
  closed_builtin predeclared.Cap xs = inl (closed_length_of xs)
  closed_builtin predeclared.Make xs = inl (closed_made xs)
  closed_builtin predeclared.Append xs = inl (closed_appended xs)
  closed_builtin predeclared.Copy xs = inl refl
  closed_builtin predeclared.Panic xs = inl refl
  closed_builtin predeclared.Min [] = inl refl
  closed_builtin predeclared.Min (x ∷ xs) = elim (closed_extreme op.Min (x ∷ xs)) [ inl e ↦ inl e | inr h ↦ inr ((ap (λ k. map (λ y. k) (x ∷ xs)) h.0, h.1), refl) ]
  closed_builtin predeclared.Max [] = inl refl
  closed_builtin predeclared.Max (x ∷ xs) = elim (closed_extreme op.Max (x ∷ xs)) [ inl e ↦ inl e | inr h ↦ inr ((ap (λ k. map (λ y. k) (x ∷ xs)) h.0, h.1), refl) ]
  closed_builtin p xs = inl refl

  closed_converted : (t : TypeTree) (xs : List Part) → takes_type (converted_sort rights t xs) ≡ false
  closed_converted t [] = refl
  closed_converted t (x ∷ xs) = closed_conversion t (sort_of x)

  closed_call : (f : Stands) (xs : List Part) → Closes f xs
  closed_call (sort.IsType t) xs = inl (closed_converted t xs)
  closed_call (sort.Builtin p) xs = closed_builtin p xs
  closed_call (sort.Value t) xs = inl (closed_called t (results_of (underlying_of rights t)))
  closed_call (sort.Constant t c) xs = inl (closed_called t (results_of (underlying_of rights t)))
  closed_call f xs = inl refl

  call_kept : (w : Take) (f : Part) (zs : Parts) → AllThere zs →
      let d = handed w (call_sort rights (sort_of f) (present zs)) in
      let ks = call_takes rights (sort_of f) (present zs) in
      map (option_map (given d)) (Some f ∷ all_given ks zs) ≡ Some f ∷ all_given ks zs
  call_kept w f zs there =
      let x = call_sort rights (sort_of f) (present zs) in
      let d = handed w x in
      let ks = call_takes rights (sort_of f) (present zs) in
      elim (closed_call (sort_of f) (present zs)) [
        | inl e ↦ nothing_handed w x (Some f ∷ all_given ks zs) e
        | inr h ↦ ap (λ y. Some y ∷ map (option_map (given d)) (all_given ks zs)) (typed_stays d f h.1)
            ∙ ap (λ ys. Some f ∷ ys) (subst (λ ls. map (option_map (given d)) (all_given ls zs) ≡ all_given ls zs) (sym h.0.0) (kept_defaults d zs there h.0.1))
      ]

  calls_kept : (w : Take) (ys : Parts) → AllThere ys →
      let x = on_first sort.Unknown (λ f xs. call_sort rights (sort_of f) xs) ys in
      let ks = on_first [] (λ f xs. stay ∷ call_takes rights (sort_of f) xs) ys in
      map (option_map (given (handed w x))) (all_given ks ys) ≡ all_given ks ys
  calls_kept w [] there = refl
  calls_kept w (None ∷ ys) there = absurd there
  calls_kept w (Some f ∷ ys) there = call_kept w f ys there

  closed_literal : (h : Hint) (ys : Parts) → takes_type (on_literal sort.Unknown h (λ t xs. literal_sort t) ys) ≡ false
  closed_literal h [] = refl
  closed_literal h (t ∷ ys) = closed_value (literal_type h t)

  closed_index : (x : Stands) → takes_type (index_sort rights x) ≡ false
  closed_index x = closed_if (is_text rights x) (sort.Value byte) (value_or_unknown (element_of (form_of_value rights x))) refl (closed_value (element_of (form_of_value rights x)))

  closed_bracketed : (ys : Parts) → takes_type (on_bracketed sort.Unknown (λ x n. index_sort rights (sort_of x)) (λ x low high. slice_sort (sort_of x)) ys) ≡ false
  closed_bracketed [] = refl
  closed_bracketed (None ∷ ys) = refl
  closed_bracketed (Some x ∷ []) = refl
  closed_bracketed (Some x ∷ None ∷ []) = refl
  closed_bracketed (Some x ∷ Some y ∷ []) = closed_index (sort_of x)
  closed_bracketed (Some x ∷ None ∷ z ∷ []) = closed_value (value_type (sort_of x))
  closed_bracketed (Some x ∷ Some y ∷ z ∷ []) = closed_value (value_type (sort_of x))
  closed_bracketed (Some x ∷ None ∷ z ∷ v ∷ ys) = refl
  closed_bracketed (Some x ∷ Some y ∷ z ∷ v ∷ ys) = refl

-- where this may be wanted of a node of the kind
abbrev pub Allows : Wanted → Kind → Type 0
Allows (take w) k = Unit {0}
Allows bound k = within category.Bracket k ≡ true

-- ---- forms of expressions are no holders

not_type_form : (x : Stands) (f : Form) → is_held f ≡ false → is_held (form_or_type x f) ≡ false
not_type_form (sort.IsType t) f e = refl
not_type_form x f e = e

no_bounds : (f : Form) → is_held f ≡ false → is_bounds f ≡ false
no_bounds (form.Held k) e = cc
no_bounds f e = refl

callee_is_none : (x : Stands) → is_held (callee_form x) ≡ false
callee_is_none (sort.IsType t) = refl
callee_is_none x = refl

module _ (s : Scope) (h : Hint) (i j : ℕ) where
  object_is_none : (o : Option Object) → is_held (object_form s o) ≡ false
  object_is_none None = refl
  object_is_none (Some object.Import) = refl
  object_is_none (Some (object.Predeclared p)) = refl
  object_is_none (Some (object.Package n)) = refl
  object_is_none (Some (object.Local f n)) = refl

  declared_is_none : (o : Option Object) → is_held (declared_form s o) ≡ false
  declared_is_none None = refl
  declared_is_none (Some object.Import) = refl
  declared_is_none (Some (object.Predeclared p)) = refl
  declared_is_none (Some (object.Package n)) = refl
  declared_is_none (Some (object.Local f n)) = refl

  name_is_none : (h : Hint) → is_held (name_form s h i) ≡ false
  name_is_none declares = declared_is_none (s.objects i)
  name_is_none free = declared_is_none (s.objects i)
  name_is_none h = not_type_form (name_sort s h i) (object_form s (s.objects i)) (object_is_none (s.objects i))

  no_holder : (k : Kind) → is_expression k ≡ true → (ys : Parts) → is_held (form_by s k h i j ys) ≡ false
  no_holder kind.Name e ys = name_is_none h
  no_holder kind.Selector e [] = refl
  no_holder kind.Selector e (None ∷ ys) = refl
  no_holder kind.Selector e (Some x ∷ []) = refl
  no_holder kind.Selector e (Some x ∷ y ∷ ys) = refl
  no_holder kind.Bracketed e [] = refl
  no_holder kind.Bracketed e (x ∷ []) = refl
  no_holder kind.Bracketed e (x ∷ y ∷ []) = refl
  no_holder kind.Bracketed e (x ∷ y ∷ z ∷ ys) = refl
  no_holder kind.Call e [] = refl
  no_holder kind.Call e (None ∷ ys) = refl
  no_holder kind.Call e (Some f ∷ ys) = callee_is_none (sort_of f)
  no_holder kind.Integer e ys = refl
  no_holder kind.Rune e ys = refl
  no_holder kind.Text e ys = refl
  no_holder kind.Parenthesized e ys = refl
  no_holder (kind.Unary o) e ys = refl
  no_holder (kind.Binary o) e ys = refl
  no_holder kind.Composite e ys = refl
  no_holder kind.SequenceType e ys = refl
  no_holder kind.FunctionType e ys = refl
  no_holder kind.StructType e ys = refl
  no_holder k e ys = cc

  built_form : (k : Kind) (xs : Parts) → form_of (built s k h i j xs) ≡ form_by s k h i j (layout k xs)
  built_form k xs = by (sound s k h i j xs)
    where
      by : (b : Bool) → form_of (built_by s k h i j (layout k xs) b) ≡ form_by s k h i j (layout k xs)
      by true = refl
      by false = refl

  -- what stands in brackets is bounds, or no holder
  bracket_is : (k : Kind) → within category.Bracket k ≡ true → (xs : Parts) → is_held (form_by s k h i j (layout k xs)) ≡ is_bounds (form_by s k h i j (layout k xs))
  bracket_is kind.Bounds e xs = refl
  bracket_is kind.BoundsFrom e xs = refl
  bracket_is k e xs = let free : is_held (form_by s k h i j (layout k xs)) ≡ false = no_holder k e (layout k xs) in free ∙ sym (no_bounds (form_by s k h i j (layout k xs)) free)

  -- ---- the operands of operations

  unary_fit : (o : Sign) (w : Take) (xs : Parts) →
      map (option_map (given (handed w (sort_by s (kind.Unary o) h i j xs)))) (all_given (takes s (kind.Unary o) h xs) xs) ≡ given_each (wants s (kind.Unary o) h (take w) (sort_by s (kind.Unary o) h i j xs) xs) xs
  unary_fit o w [] = refl
  unary_fit o w (None ∷ xs) = sym (same_each (handed w sort.Unknown) (None ∷ xs))
  unary_fit o w (Some x ∷ []) = ap (λ y. Some y ∷ []) (unary_wants w s.rights o x)
  unary_fit o w (Some x ∷ y ∷ ys) = sym (same_each (handed w sort.Unknown) (Some x ∷ y ∷ ys))

  compared_through : (w : Take) (c : Comparison) (x y z : Part) → compared_failing s.rights c i j x y ≡ [] → ((is_constant (sort_of x) && is_constant (sort_of y)) ≡ true → is_nil (sort_of z) ≡ false)
      → through w (compared_sort c (sort_of x) (sort_of y)) (compared_take s.rights (sort_of x) (sort_of y)) z ≡ given (compared_take s.rights (sort_of x) (sort_of y)) z
  compared_through w c x y z e g = by (compared_in s.rights (sort_of x) (sort_of y)) e
    where
      by : (m : Option Common) → compared_failing_in s.rights c i j x y m ≡ [] → through w (compared_sort c (sort_of x) (sort_of y)) (compared_take_in (sort_of x) (sort_of y) m) z ≡ given (compared_take_in (sort_of x) (sort_of y) m) z
      by None e = cc
      by (Some (in_type t)) e = type_once (handed w (compared_sort c (sort_of x) (sort_of y))) t z
      by (Some (in_kind k)) e = compared_wants w (compared_sort c (sort_of x) (sort_of y)) (is_constant (sort_of x) && is_constant (sort_of y)) (in_kind k) z g

  -- operators that don't compare, of which it is known whether they shift
  computed_fit : (o : Operator) (w : Take) (x y : Part) (shifts : Bool) →
      let a = sort_of x in
      let b = sort_of y in
      let r = cond shifts (shift_sort o a b) (binary_sort s.rights o a b) in
      map (option_map (given (handed w r))) (all_given (cond shifts (shifted_take a b ∷ as_type uint ∷ []) (binary_take s.rights a b ∷ binary_take s.rights a b ∷ [])) (Some x ∷ Some y ∷ []))
      ≡ given_each (all_take (cond shifts (shift_wants w r a b) (both_want (cond (is_constant a && is_constant b) (binary_take s.rights a b) (final_type w r))))) (Some x ∷ Some y ∷ [])
  computed_fit o w x y true =
      let r = shift_sort o (sort_of x) (sort_of y) in
      two_parts (through w r (shifted_take (sort_of x) (sort_of y)) x) (given (cond (is_constant (sort_of x) && is_constant (sort_of y)) default (final_type w r)) x) (through w r (as_type uint) y) (settled uint y)
      (shifted_wants w (constant_op o) (constant_of (sort_of y)) x) (type_once (handed w r) uint y)
  computed_fit o w x y false =
      let a = sort_of x in
      let b = sort_of y in
      let r = binary_sort s.rights o a b in
      let k = cond (is_constant a && is_constant b) (binary_take s.rights a b) (final_type w r) in
      two_parts (through w r (binary_take s.rights a b) x) (given k x) (through w r (binary_take s.rights a b) y) (given k y)
      (operands_meet w (constant_op o) (constant_of a) (constant_of b) (common s.rights a b) x (left_not_nil a b)) (operands_meet w (constant_op o) (constant_of a) (constant_of b) (common s.rights a b) y (right_not_nil a b))

  pair_fit : (o : Operator) (w : Take) (x y : Part) → operation_failing s.rights o i j x y ≡ [] →
      let a = sort_of x in
      let b = sort_of y in
      let r = operation_sort s.rights o a b in
      map (option_map (given (handed w r))) (all_given (operation_takes s.rights o a b) (Some x ∷ Some y ∷ [])) ≡ given_each (all_take (operation_wants s.rights o w r a b)) (Some x ∷ Some y ∷ [])
  pair_fit (operator.Compare c) w x y e =
      let r = compared_sort c (sort_of x) (sort_of y) in
      let k = compared_take s.rights (sort_of x) (sort_of y) in
      two_parts (through w r k x) (given k x) (through w r k y) (given k y) (compared_through w c x y x e (left_not_nil (sort_of x) (sort_of y))) (compared_through w c x y y e (right_not_nil (sort_of x) (sort_of y)))
  pair_fit operator.Either w x y e = computed_fit operator.Either w x y false
  pair_fit operator.Both w x y e = computed_fit operator.Both w x y false
  pair_fit (operator.Compute a) w x y e = computed_fit (operator.Compute a) w x y (is_shift (operator.Compute a))

  binary_fit : (o : Operator) (w : Take) (xs : Parts) → failing s (kind.Binary o) h i j xs ≡ [] →
      map (option_map (given (handed w (sort_by s (kind.Binary o) h i j xs)))) (all_given (takes s (kind.Binary o) h xs) xs) ≡ given_each (wants s (kind.Binary o) h (take w) (sort_by s (kind.Binary o) h i j xs) xs) xs
  binary_fit o w [] e = refl
  binary_fit o w (None ∷ xs) e = sym (same_each (handed w sort.Unknown) (None ∷ xs))
  binary_fit o w (Some x ∷ []) e = sym (same_each (handed w sort.Unknown) (Some x ∷ []))
  binary_fit o w (Some x ∷ None ∷ xs) e = sym (same_each (handed w sort.Unknown) (Some x ∷ None ∷ xs))
  binary_fit o w (Some x ∷ Some y ∷ []) e = pair_fit o w x y e
  binary_fit o w (Some x ∷ Some y ∷ z ∷ zs) e = sym (same_each (handed w sort.Unknown) (Some x ∷ Some y ∷ z ∷ zs))

  -- ---- the parts of a node of any kind

  parts_fit : (k : Kind) (w : Take) (xs : Parts) → sound s k h i j xs ≡ true → Fit k xs →
      map (option_map (given (handed w (sort_by s k h i j (layout k xs))))) (all_given (takes s k h (layout k xs)) (layout k xs)) ≡ layout k (given_each (wants s k h (take w) (sort_by s k h i j (layout k xs)) xs) xs)
  parts_fit (kind.Unary o) w xs e f = unary_fit o w xs
  parts_fit (kind.Binary o) w xs e f =
      binary_fit o w xs (no_failing (is_judged xs) (failing s (kind.Binary o) h i j xs) (placing s (kind.Binary o) h i j (sort_by s (kind.Binary o) h i j xs)) e)
  parts_fit kind.Call w xs e f =
      let ks = takes s kind.Call h (layout kind.Call xs) in
      calls_kept s.rights w (layout kind.Call xs) (there_call xs f) ∙ call_given ks xs ∙ ap (layout kind.Call) (sym (takes_each ks xs))
  parts_fit kind.Composite w xs e f =
      let ks = takes s kind.Composite h (layout kind.Composite xs) in
      nothing_handed w (sort_by s kind.Composite h i j (layout kind.Composite xs)) (all_given ks (layout kind.Composite xs)) (closed_literal s.rights h (layout kind.Composite xs))
      ∙ first_cut_given ks xs ∙ ap (layout kind.Composite) (sym (takes_each ks xs))
  parts_fit kind.LiteralValue w xs e f =
      let ks = takes s kind.LiteralValue h (layout kind.LiteralValue xs) in
      nothing_handed w (sort_by s kind.LiteralValue h i j (layout kind.LiteralValue xs)) (all_given ks (layout kind.LiteralValue xs)) (closed_literal s.rights h (layout kind.LiteralValue xs))
      ∙ ap (λ ys. None ∷ ys) (sym (takes_each (rest ks) xs))
  parts_fit kind.Bracketed w xs e f =
      let ys = layout kind.Bracketed xs in
      nothing_handed w (sort_by s kind.Bracketed h i j ys) (all_given (takes s kind.Bracketed h ys) ys) (closed_bracketed s.rights ys) ∙ bracketed_given xs f
  parts_fit kind.Selector w xs e f =
      let d = handed w (sort_by s kind.Selector h i j (layout kind.Selector xs)) in
      selector_given d xs ∙ ap (layout kind.Selector) (sym (same_each d xs))
  parts_fit kind.Keyed w xs e f =
      let d = handed w (sort_by s kind.Keyed h i j (layout kind.Keyed xs)) in
      behind_given d xs ∙ ap (layout kind.Keyed) (sym (same_each d xs))
  parts_fit kind.Fields w xs e f = all_stay (layout kind.Fields xs) ∙ ap (layout kind.Fields) (sym (same_each stay xs ∙ all_stay xs))
  parts_fit kind.StructType w xs e f = all_stay (layout kind.StructType xs) ∙ ap (layout kind.StructType) (sym (same_each stay xs ∙ all_stay xs))
  parts_fit k w xs e f = sym (same_each (handed w (sort_by s k h i j xs)) xs)

  -- ---- a node that takes what is wanted

  node_given : (k : Kind) (w : Take) (xs : Parts) → Fit k xs → given w (built s k h i j xs) ≡ finished s k h (take w) i j xs (given_each (parts_want s k h (take w) i j xs) xs)
  node_given k w xs fit = by (sound s k h i j xs) refl
    where
      ys : Parts
      ys = layout k xs

      f : Form
      f = form_by s k h i j ys

      with_parts : Stands → Parts → Part
      with_parts x zs = typed f i j (record (label f x ys) { sort = under w x }) (row zs)

      by : (b : Bool) → sound s k h i j xs ≡ b
          → given w (built_by s k h i j ys b) ≡ with_parts (stands_if b (sort_by s k h i j ys)) (layout k (given_each (wants_if b (wants s k h (take w) (stands_if b (sort_by s k h i j ys)) xs)) xs))
      by true e =
          let x = sort_by s k h i j ys in
          node_takes f i j (label f x ys).varies (label f x ys).calls (all_given (takes s k h ys) ys) w x ∙ ap (with_parts x) (parts_fit k w xs e fit)
      by false e =
          let x = sort.Unknown in
          node_takes f i j (label f x ys).varies (label f x ys).calls ys w x ∙ ap (with_parts x) (all_stay ys ∙ ap (layout k) (sym (none_each xs)))

  same_wants : (k : Kind) → is_expression k ≡ true → (x : Stands) (xs : Parts) → wants s k h (take (as_type int)) x xs ≡ wants s k h bound x xs
  same_wants kind.Bounds e x xs = cc
  same_wants kind.BoundsFrom e x xs = cc
  same_wants k e x xs = refl

  expression_bound : (k : Kind) (xs : Parts) → is_expression k ≡ true → Fit k xs → bounded (built s k h i j xs) ≡ finished s k h bound i j xs (given_each (parts_want s k h bound i j xs) xs)
  expression_bound k xs e fit =
      let x = built s k h i j xs in
      let free : is_bounds (form_of x) ≡ false = ap is_bounds (built_form k xs) ∙ no_bounds (form_by s k h i j (layout k xs)) (no_holder k e (layout k xs)) in
      ap (λ b. cond b (within_bounds x) (settled int x)) free
      ∙ node_given k (as_type int) xs fit
      ∙ ap (λ ws. finished s k h bound i j xs (given_each (wants_if (sound s k h i j xs) ws) xs)) (same_wants k e (alone s k h i j xs) xs)

  node_bound : (k : Kind) (xs : Parts) → within category.Bracket k ≡ true → Fit k xs → bounded (built s k h i j xs) ≡ finished s k h bound i j xs (given_each (parts_want s k h bound i j xs) xs)
  node_bound kind.Bounds xs e fit =
      ap (λ zs. let p : Part = typed (form.Held kind.Bounds) i j (label (form.Held kind.Bounds) sort.Nothing xs) (row zs) in p) (ap (all_given (as_type int ∷ [])) (list_row xs) ∙ sym (takes_each (as_type int ∷ []) xs))
  node_bound kind.BoundsFrom xs e fit =
      ap (λ zs. let p : Part = typed (form.Held kind.BoundsFrom) i j (label (form.Held kind.BoundsFrom) sort.Nothing xs) (row zs) in p)
      (ap (all_given (as_type int ∷ as_type int ∷ [])) (list_row xs) ∙ sym (takes_each (as_type int ∷ as_type int ∷ []) xs))
  node_bound k xs e fit = expression_bound k xs e fit

  node_as : (w : Wanted) (k : Kind) (xs : Parts) → Allows w k → Fit k xs → given_as w (built s k h i j xs) ≡ finished s k h w i j xs (given_each (parts_want s k h w i j xs) xs)
  node_as (take w) k xs a fit = node_given k w xs fit
  node_as bound k xs a fit = node_bound k xs a fit

-- ---- the parts of a derivation

abbrev pub AllDerive : List TokenKind → Trees → Type 0
AllDerive ts none = Unit {0}
AllDerive ts (more p ps) = ((c : Category) × Derives ts c p) × AllDerive ts ps
AllDerive ts (skip ps) = AllDerive ts ps

module _ (ts : List TokenKind) where
  goes_derive : (l : Items) (i : ℕ) (ps : Trees) (j : ℕ) → Goes ts l i ps j → AllDerive ts ps
  goes_derive l i none j d = tt
  goes_derive l i (more p ps) j d = ((item l, d.3), goes_derive l (last p) ps j d.4)
  goes_derive l i (skip ps) j d = elim d [ ]

  pub parts_derive : (r : Rule) (i : ℕ) (ps : Trees) (j : ℕ) → Spells ts r i ps j → AllDerive ts ps
  parts_derive r i none j d = tt
  parts_derive (End ws) i (more p ps) j d = elim d [ ]
  parts_derive (Then ws c r) i (more p ps) j d = ((c, d.1), parts_derive r (last p) ps j d.2)
  parts_derive (Maybe ws c r) i (more p ps) j d = ((c, d.1), parts_derive r (last p) ps j d.2)
  parts_derive (Unless ws c us r) i (more p ps) j d = ((c, d.1), parts_derive r (last p) ps j d.2)
  parts_derive (Many ws l) i (more p ps) j d = ((item l, d.3), goes_derive l (last p) ps j d.4)
  parts_derive (End ws) i (skip ps) j d = elim d [ ]
  parts_derive (Then ws c r) i (skip ps) j d = elim d [ ]
  parts_derive (Maybe ws c r) i (skip ps) j d = parts_derive r d.0 ps j d.2
  parts_derive (Unless ws c us r) i (skip ps) j d = parts_derive r d.0 ps j d.3
  parts_derive (Many ws l) i (skip ps) j d = elim d [ ]

-- ---- the parts of a node as they stand alone

behind : Scope → Kind → Hint → Trees → Parts → Trees → Parts
behind s k h all xs none = []
behind s k h all xs (more p ps) = Some (typing (part_scope s k xs) (hint s k h all xs (kind_of p)) p) ∷ behind s k h all (xs ++ Some (typing (part_scope s k xs) (hint s k h all xs (kind_of p)) p) ∷ []) ps
behind s k h all xs (skip ps) = None ∷ behind s k h all (xs ++ None ∷ []) ps

typings_are : (s : Scope) (k : Kind) (h : Hint) (all : Trees) (xs : Parts) (ps : Trees) → typings s k h all xs ps ≡ xs ++ behind s k h all xs ps
unfolding behind
typings_are s k h all xs none = sym (append-nil xs)
typings_are s k h all xs (more p ps) =
    let x = Some (typing (part_scope s k xs) (hint s k h all xs (kind_of p)) p) in typings_are s k h all (xs ++ x ∷ []) ps ∙ append_assoc xs (x ∷ []) (behind s k h all (xs ++ x ∷ []) ps)
typings_are s k h all xs (skip ps) = typings_are s k h all (xs ++ None ∷ []) ps ∙ append_assoc xs (None ∷ []) (behind s k h all (xs ++ None ∷ []) ps)

goes_there : (ts : List TokenKind) (s : Scope) (k : Kind) (h : Hint) (all : Trees) (xs : Parts) (l : Items) (i : ℕ) (ps : Trees) (j : ℕ) → Goes ts l i ps j → AllThere (behind s k h all xs ps)
unfolding behind
goes_there ts s k h all xs l i none j d = tt
goes_there ts s k h all xs l i (more p ps) j d = goes_there ts s k h all (xs ++ Some (typing (part_scope s k xs) (hint s k h all xs (kind_of p)) p) ∷ []) l (last p) ps j d.4
goes_there ts s k h all xs l i (skip ps) j d = elim d [ ]

fits : (ts : List TokenKind) (c : Category) (s : Scope) (k : Kind) (h : Hint) (i j : ℕ) (ps : Trees) → Derives ts c (node k i j ps) → Fit k (behind s k h ps [] ps)
unfolding behind
fits ts c s kind.Bracketed h i j none d = elim d.1 [ ]
fits ts c s kind.Bracketed h i j (skip ps) d = elim d.1 [ ]
fits ts c s kind.Bracketed h i j (more p none) d = elim d.1.2 [ ]
fits ts c s kind.Bracketed h i j (more p (skip ps)) d = elim d.1.2 [ ]
fits ts c s kind.Bracketed h i j (more p (more (node k i2 j2 qs) ps)) d =
    let x = typing (part_scope s kind.Bracketed []) (hint s kind.Bracketed h (more p (more (node k i2 j2 qs) ps)) [] (kind_of p)) p in
    let t = part_scope s kind.Bracketed (Some x ∷ []) in
    let g = hint s kind.Bracketed h (more p (more (node k i2 j2 qs) ps)) (Some x ∷ []) k in
    let ys = typings t k g qs [] qs in
    ap is_held (built_form t g i2 j2 k ys) ∙ bracket_is t g i2 j2 k d.1.2.1.0 ys ∙ sym (ap is_bounds (built_form t g i2 j2 k ys))
fits ts c s kind.Call h i j none d = elim d.1 [ ]
fits ts c s kind.Call h i j (skip ps) d = elim d.1 [ ]
fits ts c s kind.Call h i j (more p none) d = tt
fits ts c s kind.Call h i j (more p (skip ps)) d = elim d.1.2 [ ]
fits ts c s kind.Call h i j (more p (more q qs)) d =
    let all = more p (more q qs) in
    let x = typing (part_scope s kind.Call []) (hint s kind.Call h all [] (kind_of p)) p in
    let y = typing (part_scope s kind.Call (Some x ∷ [])) (hint s kind.Call h all (Some x ∷ []) (kind_of q)) q in
    goes_there ts s kind.Call h all (Some x ∷ Some y ∷ []) (Lines false (any place.Free) token.Comma token.RightParenthesis) (last q) qs j d.1.2.4
fits ts c s k h i j ps d = tt

-- ---- what is wanted of parts may be wanted of them

abbrev pub AllAllow : List Wanted → Trees → Type 0
AllAllow ws none = Unit {0}
AllAllow ws (more p ps) = Allows (first_wanted ws) (kind_of p) × AllAllow (rest_wanted ws) ps
AllAllow ws (skip ps) = AllAllow (rest_wanted ws) ps

nothing_allowed : (ps : Trees) → AllAllow [] ps
nothing_allowed none = tt
nothing_allowed (more p ps) = (tt, nothing_allowed ps)
nothing_allowed (skip ps) = nothing_allowed ps

takes_allowed : (ks : List Take) (ps : Trees) → AllAllow (all_take ks) ps
takes_allowed [] ps = nothing_allowed ps
takes_allowed (k ∷ ks) none = tt
takes_allowed (k ∷ ks) (more p ps) = (tt, takes_allowed ks ps)
takes_allowed (k ∷ ks) (skip ps) = takes_allowed ks ps

wants_allowed : (ts : List TokenKind) (c : Category) (s : Scope) (k : Kind) (h : Hint) (w : Wanted) (i j : ℕ) (x : Stands) (xs : Parts) (ps : Trees) → Derives ts c (node k i j ps) → AllAllow (wants s k h w x xs) ps
wants_allowed ts c s kind.Bracketed h w i j x xs none d = elim d.1 [ ]
wants_allowed ts c s kind.Bracketed h w i j x xs (skip ps) d = elim d.1 [ ]
wants_allowed ts c s kind.Bracketed h w i j x xs (more p none) d = elim d.1.2 [ ]
wants_allowed ts c s kind.Bracketed h w i j x xs (more p (skip ps)) d = elim d.1.2 [ ]
wants_allowed ts c s kind.Bracketed h w i j x xs (more p (more (node k i2 j2 qs) ps)) d = (tt, (d.1.2.1.0, nothing_allowed ps))
wants_allowed ts c s (kind.Unary o) h w i j x xs ps d = takes_allowed (on_one (each (handed (take_of w) x) xs) (λ y. operand_wants (take_of w) x (sort_of y) ∷ []) xs) ps
wants_allowed ts c s (kind.Binary o) h w i j x xs ps d = takes_allowed (on_two (each (handed (take_of w) x) xs) (λ y z. operation_wants s.rights o (take_of w) x (sort_of y) (sort_of z)) xs) ps
wants_allowed ts c s kind.Call h w i j x xs ps d = takes_allowed (takes s kind.Call h (layout kind.Call xs)) ps
wants_allowed ts c s kind.Composite h w i j x xs ps d = takes_allowed (takes s kind.Composite h (layout kind.Composite xs)) ps
wants_allowed ts c s kind.LiteralValue h w i j x xs ps d = takes_allowed (rest (takes s kind.LiteralValue h (layout kind.LiteralValue xs))) ps
wants_allowed ts c s kind.Bounds h w i j x xs ps d = takes_allowed (bounds_want w x (as_type int ∷ []) xs) ps
wants_allowed ts c s kind.BoundsFrom h w i j x xs ps d = takes_allowed (bounds_want w x (as_type int ∷ as_type int ∷ []) xs) ps
wants_allowed ts c s k h w i j x xs ps d = takes_allowed (each (handed (take_of w) x) xs) ps

allowed_if : (b : Bool) (ws : List Wanted) (ps : Trees) → AllAllow ws ps → AllAllow (wants_if b ws) ps
allowed_if true ws ps a = a
allowed_if false ws ps a = nothing_allowed ps

-- ---- the whole tree

module _ (ts : List TokenKind) where
  mutual
    unfolding behind

    pub final_is : (s : Scope) (h : Hint) (w : Wanted) (c : Category) (t : Tree) → Derives ts c t → Allows w (kind_of t) → final s h w t ≡ given_as w (typing s h t)
    final_is s h w c (node k i j ps) d a =
        let xs = typings s k h ps [] ps in
        let ws = parts_want s k h w i j xs in
        let are : xs ≡ behind s k h ps [] ps = typings_are s k h ps [] ps in
        ap (finished s k h w i j xs) (finals_are s k h ws ps [] ps (parts_derive ts (rule (place_of c) k) i ps j d.1) (allowed_if (sound s k h i j xs) (wants s k h w (alone s k h i j xs) xs) ps (wants_allowed ts c s k h w i j (alone s k h i j xs) xs ps d)) ∙ ap (given_each ws) (sym are))
        ∙ sym (node_as s h i j w k xs a (subst (Fit k) (sym are) (fits ts c s k h i j ps d)))

    finals_are : (s : Scope) (k : Kind) (h : Hint) (ws : List Wanted) (all : Trees) (xs : Parts) (ps : Trees) → AllDerive ts ps → AllAllow ws ps → finals s k h ws all xs ps ≡ given_each ws (behind s k h all xs ps)
    finals_are s k h ws all xs none d a = refl
    finals_are s k h ws all xs (more p ps) d a =
        let t = part_scope s k xs in
        let g = hint s k h all xs (kind_of p) in
        let x = Some (typing t g p) in
        ap (λ y. Some y ∷ finals s k h (rest_wanted ws) all (xs ++ x ∷ []) ps) (final_is t g (first_wanted ws) d.0.0 p d.0.1 a.0)
        ∙ ap (λ ys. Some (given_as (first_wanted ws) (typing t g p)) ∷ ys) (finals_are s k h (rest_wanted ws) all (xs ++ x ∷ []) ps d.1 a.1)
    finals_are s k h ws all xs (skip ps) d a = ap (λ ys. None ∷ ys) (finals_are s k h (rest_wanted ws) all (xs ++ None ∷ []) ps d a)

-- an expression of which a type is wanted, or none
pub final_types : (ts : List TokenKind) (c : Category) (s : Scope) (h : Hint) (w : Take) (t : Tree) → Derives ts c t → final s h (take w) t ≡ given w (typing s h t)
final_types ts c s h w (node k i j ps) d = final_is ts s h (take w) c (node k i j ps) d tt
