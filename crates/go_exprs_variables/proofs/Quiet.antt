-- Constants call nothing, nor do the types that they are converted to and the predeclared functions that give them.
use Rattle.std.proofs.Common.{◌≡◌, ◌∙◌, ℕ, ◌-◌, Bool, true, false, List, [], ◌∷◌, ◌++◌, Option, Some, None, refl, sym, ap, subst}
use Rattle.std.specs.Prelude.{◌&&◌, ◌||◌, not, if◌then◌else◌, is_some, Result, Ok, Err}
use Rattle.std.specs.List.{list_any}
use Rattle.go_constants.specs.declared.values.Const.{Const}
use Rattle.go_constants.specs.declared.values.Const.TheVariants as const
use Rattle.go_constants.specs.declared.values.ConstOp.{ConstOp}
use Rattle.go_constants.specs.declared.values.ConstFault.{ConstFault}
use Rattle.go_grammar.specs.declared.kind.Category.{Category}
use Rattle.go_grammar.specs.declared.kind.Kind.{Kind}
use Rattle.go_grammar.specs.declared.kind.Kind.TheVariants as kind
use Rattle.go_grammar.specs.declared.kind.Operator.{Operator}
use Rattle.go_grammar.specs.declared.kind.Operator.TheVariants as operator
use Rattle.go_grammar.specs.declared.kind.Place.{Place}
use Rattle.go_grammar.specs.declared.kind.Sign.{Sign}
use Rattle.go_grammar.specs.Categories.{place_of}
use Rattle.go_grammar.specs.Grammar.{rule}
use Rattle.go_grammar.specs.Rules.{Rule, End, Then, Maybe, Unless, Many, item}
use Rattle.go_grammar.specs.Trees.{Tree, node, Trees, none, more, skip, kind_of}
use Rattle.go_ints.specs.declared.operators.Op.{Op}
use Rattle.go_ints.specs.declared.operators.Op.TheVariants as op
use Rattle.go_tree.specs.declared.object.Object.{Object}
use Rattle.go_tree.specs.declared.object.Object.TheVariants as object
use Rattle.go_tree.specs.declared.object.Predeclared.{Predeclared}
use Rattle.go_tree.specs.declared.object.Predeclared.TheVariants as predeclared
use Rattle.go_types.specs.Trees.{TypeTree, TypeRow}
use Rattle.go_types.specs.Trees as types
use Rattle.go_types.specs.Relations.{Rights}
use Rattle.go_types_relations.specs.Tests.{underlying_of}
use Rattle.go_typed.specs.declared.form.Form.{Form}
use Rattle.go_typed.specs.declared.form.Form.TheVariants as form
use Rattle.go_typed.specs.Trees.{Sort, Label, Typed, typed, Typeds, sort_of, form_of, label_of, row}
use Rattle.go_typed.specs.Trees as sort
use Rattle.go_exprs_rules.specs.declared.fault.TypeFault.{TypeFault}
use Rattle.go_exprs_rules.specs.declared.family.Family.{Family}
use Rattle.go_exprs_rules.specs.declared.family.Family.TheVariants as family
use Rattle.go_exprs_rules.specs.declared.family.OpenKind.TheVariants as untyped_kind
use Rattle.go_exprs_rules.specs.Calls.{keeps_value, becomes_text, constant_or_value, text_of, conversion_sort, call_failing, call_sort, builtin_failing, builtin_sort, function_call_sort, called, results_of, length_failing, constant_length, length_value, first_count, array_count, extreme_sort, extreme_in, extreme_behind, better, meeting}
use Rattle.go_exprs_rules.specs.Faults.{or_else}
use Rattle.go_exprs_rules.specs.Indexes.{text_length, value_or_unknown, selector_sort, named_field}
use Rattle.go_exprs_rules.specs.Names.{name_form, name_sort, object_form, declared_form, form_or_type}
use Rattle.go_exprs_rules.specs.Operators.{Common, in_type, in_kind, result_in, folded_both, constant_in, signed_value, unary_sort_in, own, binary_sort_in, shift_sort_in, common, is_shift, operation_sort, comparing, constant_op, complement_mask}
use Rattle.go_exprs_rules.specs.Scopes.{Scope, Hint, declares, free, member}
use Rattle.go_exprs_rules.specs.Settling.{Part}
use Rattle.go_exprs_rules.specs.Sorts.{Stands, family_of_type, constant_of, is_constant, own_type, is_family, family_of_const, underlying_in, is_text, element_of, form_of_value, value_type, array_length, byte}
use Rattle.go_exprs_rules.specs.Tables.{Parts, hint, part_scope, present, calls_in, made, built_by, built, is_sound, is_judged, own_faults, no_faults, failing, placing, sort_by, form_by, takes, all_given, is_call, key_form, callee_form, leaf, is_type, cut, first_cut, call_parts, is_make_call, behind_first, literal_type, layout, on_one}
use Rattle.go_exprs_rules.specs.TypeNodes.{type_sort, sequence_type, part_type, function_of, all_types, entry_types, parts_in, result_types, array_of, length_in}
use Rattle.go_exprs_rules.specs.Typing.{typing, typings}
use Rattle.go_exprs_variables.specs.Shapes.{IsShaped, AreShaped}

-- ---- what calls nothing

-- a constant, a predeclared function, and a type of booleans, integers or texts
abbrev pub is_silent : Rights → Stands → Bool
is_silent rights (sort.Constant t c) = true
is_silent rights (sort.OpenConstant c) = true
is_silent rights (sort.Builtin p) = true
is_silent rights (sort.IsType t) = is_some (family_of_type (underlying_of rights t))
is_silent rights z = false

abbrev pub Silent : Rights → Part → Type 0
Silent rights x = is_silent rights (sort_of x) ≡ true → (label_of x).calls ≡ false

abbrev EachSilent : Rights → Parts → Type 0
EachSilent rights [] = Unit {0}
EachSilent rights (None ∷ xs) = EachSilent rights xs
EachSilent rights (Some x ∷ xs) = Silent rights x × EachSilent rights xs

abbrev AllSilent : Rights → List Part → Type 0
AllSilent rights [] = Unit {0}
AllSilent rights (x ∷ xs) = Silent rights x × AllSilent rights xs

and_false : (b : Bool) → (b && false) ≡ false
and_false true = refl
and_false false = refl

some_family : (f : Family) (o : Option Family) → is_family f o ≡ true → is_some o ≡ true
some_family f None e = cc
some_family f (Some g) e = refl

module _ (rights : Rights) where
  constant_silent : (z : Stands) (v : Const) → constant_of z ≡ Some v → is_silent rights z ≡ true
  constant_silent (sort.Constant t c) v e = refl
  constant_silent (sort.OpenConstant c) v e = refl
  constant_silent z v e = cc

  -- ---- operations

  result_silent : (c : Common) (r : Option (Result Const ConstFault)) → is_silent rights (result_in c r) ≡ true → (v : Const) × (r ≡ Some (Ok v))
  result_silent c (Some (Ok v)) e = (v, refl)
  result_silent c (Some (Err f)) e = cc
  result_silent (in_type t) None e = cc
  result_silent (in_kind untyped_kind.Boolean) None e = cc
  result_silent (in_kind untyped_kind.Integer) None e = cc
  result_silent (in_kind untyped_kind.Rune) None e = cc
  result_silent (in_kind untyped_kind.Text) None e = cc

  both_there : (o : ConstOp) (a b : Option Const) (r : Result Const ConstFault) → folded_both o a b ≡ Some r → ((v : Const) × (a ≡ Some v)) × ((u : Const) × (b ≡ Some u))
  both_there o (Some a) (Some b) r e = ((a, refl), (b, refl))
  both_there o (Some a) None r e = cc
  both_there o None b r e = cc

  folded_silent : (o : ConstOp) (c : Common) (a b : Stands) → is_silent rights (result_in c (folded_both o (constant_of a) (constant_of b))) ≡ true → (is_silent rights a ≡ true) × (is_silent rights b ≡ true)
  folded_silent o c a b e =
      let r = result_silent c (folded_both o (constant_of a) (constant_of b)) e in
      let both = both_there o (constant_of a) (constant_of b) (Ok r.0) r.1 in
      (constant_silent a both.0.0 both.0.1, constant_silent b both.1.0 both.1.1)

  meeting_silent : (o : Operator) (a b : Stands) (d : Option Common) → is_silent rights (binary_sort_in o a b d) ≡ true → (is_silent rights a ≡ true) × (is_silent rights b ≡ true)
  meeting_silent o a b None e = cc
  meeting_silent o a b (Some c) e = folded_silent (constant_op o) c a b e

  shifted_silent : (o : Operator) (a b : Stands) (d : Option Common) → is_silent rights (shift_sort_in o a b d) ≡ true → (is_silent rights a ≡ true) × (is_silent rights b ≡ true)
  shifted_silent o a b None e = cc
  shifted_silent o a b (Some c) e = folded_silent (constant_op o) c a b e

  operation_silent : (o : Operator) (a b : Stands) → is_silent rights (operation_sort rights o a b) ≡ true → (is_silent rights a ≡ true) × (is_silent rights b ≡ true)
  operation_silent operator.Either a b e = meeting_silent operator.Either a b (common rights a b) e
  operation_silent operator.Both a b e = meeting_silent operator.Both a b (common rights a b) e
  operation_silent (operator.Compare c) a b e = folded_silent (comparing c) (in_kind untyped_kind.Boolean) a b e
  operation_silent (operator.Compute m) a b e = by_test (is_shift (operator.Compute m)) e
    where
      by_test : (d : Bool) → is_silent rights (if d then shift_sort_in (operator.Compute m) a b (own a) else binary_sort_in (operator.Compute m) a b (common rights a b)) ≡ true → (is_silent rights a ≡ true) × (is_silent rights b ≡ true)
      by_test true f = shifted_silent (operator.Compute m) a b (own a) f
      by_test false f = meeting_silent (operator.Compute m) a b (common rights a b) f

  signed_there : (o : Sign) (m : Const) (a : Option Const) (r : Result Const ConstFault) → signed_value o m a ≡ Some r → (v : Const) × (a ≡ Some v)
  signed_there o m (Some a) r e = (a, refl)
  signed_there o m None r e = cc

  unary_silent : (o : Sign) (a : Stands) (d : Option Common) → is_silent rights (unary_sort_in rights o a d) ≡ true → is_silent rights a ≡ true
  unary_silent o a None e = cc
  unary_silent o a (Some c) e =
      let mask = complement_mask (underlying_in rights (own_type a)) in
      let r = result_silent c (signed_value o mask (constant_of a)) e in
      let there = signed_there o mask (constant_of a) (Ok r.0) r.1 in
      constant_silent a there.0 there.1

  -- ---- calls

  abbrev any_calls : List Part → Bool
  any_calls [] = false
  any_calls (x ∷ xs) = (label_of x).calls || any_calls xs

  calls_present : (ys : Parts) → list_any calls_in ys ≡ any_calls (present ys)
  calls_present [] = refl
  calls_present (None ∷ ys) = calls_present ys
  calls_present (Some y ∷ ys) = ap (λ b. (label_of y).calls || b) (calls_present ys)

  silent_present : (ys : Parts) → EachSilent rights ys → AllSilent rights (present ys)
  silent_present [] h = tt
  silent_present (None ∷ ys) h = silent_present ys h
  silent_present (Some y ∷ ys) h = (h.0, silent_present ys h.1)

  -- what a call that stands for such a thing is: constant, of a callee and arguments that call nothing
  abbrev IsQuietCall : Stands → Stands → List Part → Type 0
  IsQuietCall z y xs = (is_constant y ≡ true) × (is_silent rights z ≡ true) × (any_calls xs ≡ false)

  one_call : (x : Part) → (label_of x).calls ≡ false → any_calls (x ∷ []) ≡ false
  one_call x e = ap (λ b. b || false) e

  kept_silent : (t : TypeTree) (v : Option Const) → keeps_value rights t v ≡ true → is_silent rights (sort.IsType t) ≡ true
  kept_silent t (Some c) e = some_family (family_of_const c) (family_of_type (underlying_of rights t)) e
  kept_silent t None e = cc

  kept_constant : (t : TypeTree) (v : Option Const) → keeps_value rights t v ≡ true → (c : Const) × (v ≡ Some c)
  kept_constant t (Some c) e = (c, refl)
  kept_constant t None e = cc

  text_silent : (t : TypeTree) (v : Option Const) → becomes_text rights t v ≡ true → (is_silent rights (sort.IsType t) ≡ true) × ((c : Const) × (v ≡ Some c))
  text_silent t (Some (const.Int z r)) e = (some_family family.Texts (family_of_type (underlying_of rights t)) e, (const.Int z r, refl))
  text_silent t (Some (const.Bool b)) e = cc
  text_silent t (Some (const.Text bs)) e = cc
  text_silent t None e = cc

  conversion_silent : (t : TypeTree) (x : Part) → Silent rights x → is_silent rights (conversion_sort rights t (sort_of x)) ≡ true → IsQuietCall (sort.IsType t) (conversion_sort rights t (sort_of x)) (x ∷ [])
  conversion_silent t x h e = by_tests (constant_of (sort_of x)) (keeps_value rights t (constant_of (sort_of x))) (becomes_text rights t (constant_of (sort_of x))) refl refl refl e
    where
      by_tests : (v : Option Const) (b c : Bool) → constant_of (sort_of x) ≡ v → keeps_value rights t v ≡ b → becomes_text rights t v ≡ c
          → is_silent rights (if b then constant_or_value t v else (if c then sort.Constant t (const.Text (text_of v)) else sort.Value t)) ≡ true
          → (is_constant (if b then constant_or_value t v else (if c then sort.Constant t (const.Text (text_of v)) else sort.Value t)) ≡ true) × (is_silent rights (sort.IsType t) ≡ true) × (any_calls (x ∷ []) ≡ false)
      by_tests v true c is k m f =
          let there = kept_constant t v k in
          (ap (λ z. is_constant (constant_or_value t z)) there.1, kept_silent t v k, one_call x (h (constant_silent (sort_of x) there.0 (is ∙ there.1))))
      by_tests v false true is k m f =
          let there = text_silent t v m in
          (refl, there.0, one_call x (h (constant_silent (sort_of x) there.1.0 (is ∙ there.1.1))))
      by_tests v false false is k m f = cc

  pub value_loud : (o : Option TypeTree) → is_silent rights (value_or_unknown o) ≡ false
  value_loud None = refl
  value_loud (Some t) = refl

  never : {X : Type 0} (b : Bool) → b ≡ false → b ≡ true → X
  never true e f = cc
  never false e f = cc

  -- a constant length is that of a text, or of an array without a call
  length_quiet : (x : Part) (n : ℕ) → Silent rights x → first_count (text_length (constant_of (sort_of x))) (array_count (label_of x).calls (array_length (form_of_value rights (sort_of x)))) ≡ Some n → (label_of x).calls ≡ false
  length_quiet x n h e = by_text (constant_of (sort_of x)) refl e
    where
      by_calls : (b : Bool) → array_count b (array_length (form_of_value rights (sort_of x))) ≡ Some n → b ≡ false
      by_calls true f = cc
      by_calls false f = refl

      by_text : (v : Option Const) → constant_of (sort_of x) ≡ v → first_count (text_length v) (array_count (label_of x).calls (array_length (form_of_value rights (sort_of x)))) ≡ Some n → (label_of x).calls ≡ false
      by_text (Some (const.Text bs)) is f = h (constant_silent (sort_of x) (const.Text bs) is)
      by_text (Some (const.Int z r)) is f = by_calls (label_of x).calls f
      by_text (Some (const.Bool b)) is f = by_calls (label_of x).calls f
      by_text None is f = by_calls (label_of x).calls f

  length_silent : (p : Predeclared) (x : Part) (o : Option ℕ) → constant_length rights x ≡ o → Silent rights x → is_silent rights (length_value o) ≡ true → IsQuietCall (sort.Builtin p) (length_value o) (x ∷ [])
  length_silent p x (Some n) is h e = (refl, refl, one_call x (length_quiet x n h is))
  length_silent p x None is h e = cc

  lengths_silent : (i j : ℕ) (p : Predeclared) (texts : Bool) (xs : List Part) → length_failing rights i j texts xs ≡ [] → AllSilent rights xs → is_silent rights (builtin_sort rights predeclared.Len xs) ≡ true
      → IsQuietCall (sort.Builtin p) (builtin_sort rights predeclared.Len xs) xs
  lengths_silent i j p texts [] f h e = cc
  lengths_silent i j p texts (x ∷ []) f h e = length_silent p x (constant_length rights x) refl h.0 e
  lengths_silent i j p texts (x ∷ y ∷ xs) f h e = cc

  better_there : (o : Op) (a b : Option Const) (u : Const) → better o a b ≡ Some u → ((v : Const) × (a ≡ Some v)) × ((r : Const) × (b ≡ Some r))
  better_there o (Some a) (Some b) u e = ((a, refl), (b, refl))
  better_there o (Some a) None u e = cc
  better_there o None b u e = cc

  extreme_quiet : (o : Op) (c : Option Const) (xs : List Part) (u : Const) → extreme_behind o c xs ≡ Some u → AllSilent rights xs → ((v : Const) × (c ≡ Some v)) × (any_calls xs ≡ false)
  extreme_quiet o c [] u e h = ((u, e), refl)
  extreme_quiet o c (x ∷ xs) u e h =
      let rest = extreme_quiet o (better o c (constant_of (sort_of x))) xs u e h.1 in
      let both = better_there o c (constant_of (sort_of x)) rest.0.0 rest.0.1 in
      (both.0, ap (λ b. b || any_calls xs) (h.0 (constant_silent (sort_of x) both.1.0 both.1.1)) ∙ rest.1)

  extreme_silent : (o : Op) (p : Predeclared) (xs : List Part) → AllSilent rights xs → is_silent rights (extreme_sort rights o xs) ≡ true → IsQuietCall (sort.Builtin p) (extreme_sort rights o xs) xs
  extreme_silent o p [] h e = cc
  extreme_silent o p (x ∷ xs) h e = by_both (meeting rights (x ∷ xs)) (extreme_behind o (constant_of (sort_of x)) xs) refl e
    where
      by_both : (m : Option Common) (v : Option Const) → extreme_behind o (constant_of (sort_of x)) xs ≡ v → is_silent rights (extreme_in m v) ≡ true
          → (is_constant (extreme_in m v) ≡ true) × (is_silent rights (sort.Builtin p) ≡ true) × (any_calls (x ∷ xs) ≡ false)
      by_both None v is f = cc
      by_both (Some c) None is f = cc
      by_both (Some c) (Some v) is f =
          let q = extreme_quiet o (constant_of (sort_of x)) xs v is h.1 in
          (there c, refl, ap (λ b. b || any_calls xs) (h.0 (constant_silent (sort_of x) q.0.0 q.0.1)) ∙ q.1)
        where
          there : (c : Common) → is_constant (constant_in c v) ≡ true
          there (in_type t) = refl
          there (in_kind k) = refl

  builtin_silent : (i j : ℕ) (p : Predeclared) (xs : List Part) → builtin_failing rights i j p xs ≡ [] → AllSilent rights xs → is_silent rights (builtin_sort rights p xs) ≡ true → IsQuietCall (sort.Builtin p) (builtin_sort rights p xs) xs
  builtin_silent i j predeclared.Len xs f h e = lengths_silent i j predeclared.Len true xs f h e
  builtin_silent i j predeclared.Cap xs f h e = lengths_silent i j predeclared.Cap false xs f h e
  builtin_silent i j predeclared.Min xs f h e = extreme_silent op.Min predeclared.Min xs h e
  builtin_silent i j predeclared.Max xs f h e = extreme_silent op.Max predeclared.Max xs h e
  builtin_silent i j predeclared.Make [] f h e = cc
  builtin_silent i j predeclared.Make (x ∷ xs) f h e = never (is_silent rights (builtin_sort rights predeclared.Make (x ∷ xs))) (value_loud _) e
  builtin_silent i j predeclared.Append [] f h e = cc
  builtin_silent i j predeclared.Append (x ∷ xs) f h e = never (is_silent rights (builtin_sort rights predeclared.Append (x ∷ xs))) (value_loud _) e
  builtin_silent i j predeclared.Copy xs f h e = cc
  builtin_silent i j predeclared.Panic xs f h e = cc
  builtin_silent i j p xs f h e = cc

  called_loud : (t : TypeTree) (rs : TypeRow) → is_silent rights (called t rs) ≡ false
  called_loud t types.none = refl
  called_loud t (types.more r types.none) = refl
  called_loud t (types.more r (types.more q qs)) = refl

  function_loud : (o : Option TypeTree) → is_silent rights (function_call_sort rights o) ≡ false
  function_loud None = refl
  function_loud (Some t) = called_loud t (results_of (underlying_of rights t))

  call_silent : (i j : ℕ) (z : Stands) (xs : List Part) → call_failing rights i j z xs ≡ [] → AllSilent rights xs → is_silent rights (call_sort rights z xs) ≡ true → IsQuietCall z (call_sort rights z xs) xs
  call_silent i j (sort.IsType t) [] f h e = cc
  call_silent i j (sort.IsType t) (x ∷ []) f h e = conversion_silent t x h.0 e
  call_silent i j (sort.IsType t) (x ∷ y ∷ xs) f h e = cc
  call_silent i j (sort.Builtin p) xs f h e = builtin_silent i j p xs f h e
  call_silent i j sort.Println xs f h e = cc
  call_silent i j (sort.Value t) xs f h e = never (is_silent rights (function_call_sort rights (Some t))) (function_loud (Some t)) e
  call_silent i j (sort.Constant t c) xs f h e = never (is_silent rights (function_call_sort rights (Some t))) (function_loud (Some t)) e
  call_silent i j z xs f h e = cc

-- ---- nodes

leaf_silent : (rights : Rights) (x : Part) → Silent rights x → Silent rights (leaf x)
leaf_silent rights (typed f i j l ps) h = h

first_silent : (rights : Rights) (x : Option Part) (xs : Parts) → EachSilent rights (x ∷ xs) → EachSilent rights (x ∷ []) × EachSilent rights xs
first_silent rights None xs h = (tt, h)
first_silent rights (Some x) xs h = ((h.0, tt), h.1)

with_first : (rights : Rights) (x : Option Part) (xs : Parts) → EachSilent rights (x ∷ []) → EachSilent rights xs → EachSilent rights (x ∷ xs)
with_first rights None xs g h = h
with_first rights (Some x) xs g h = (g.0, h)

cut_silent : (rights : Rights) (x : Option Part) → EachSilent rights (x ∷ []) → EachSilent rights (cut x ∷ [])
cut_silent rights None h = tt
cut_silent rights (Some x) h = by_test (is_type (sort_of x))
  where
    by_test : (b : Bool) → EachSilent rights ((if b then Some (leaf x) else Some x) ∷ [])
    by_test true = (leaf_silent rights x h.0, tt)
    by_test false = h

first_cut_silent : (rights : Rights) (xs : Parts) → EachSilent rights xs → EachSilent rights (first_cut xs)
first_cut_silent rights [] h = tt
first_cut_silent rights (x ∷ xs) h = let both = first_silent rights x xs h in with_first rights (cut x) xs (cut_silent rights x both.0) both.1

call_parts_silent : (rights : Rights) (xs : Parts) → EachSilent rights xs → EachSilent rights (call_parts xs)
call_parts_silent rights [] h = tt
call_parts_silent rights (f ∷ xs) h = by_test (is_make_call (f ∷ xs))
  where
    both : EachSilent rights (f ∷ []) × EachSilent rights xs
    both = first_silent rights f xs h

    by_test : (b : Bool) → EachSilent rights (if b then f ∷ first_cut xs else cut f ∷ xs)
    by_test true = with_first rights f (first_cut xs) both.0 (first_cut_silent rights xs both.1)
    by_test false = with_first rights (cut f) xs (cut_silent rights f both.0) both.1

one_silent : (rights : Rights) (f : Form) (i j : ℕ) (ys zs : Parts) → is_call f ≡ false → EachSilent rights ys → Silent rights (made f i j (on_one sort.Unknown sort_of ys) ys zs)
one_silent rights f i j [] zs e h m = cc
one_silent rights f i j (None ∷ ys) zs e h m = cc
one_silent rights f i j (Some x ∷ y ∷ ys) zs e h m = cc
one_silent rights f i j (Some x ∷ []) zs e h m = ap (λ b. (b && not (is_constant (sort_of x))) || ((label_of x).calls || false)) e ∙ ap (λ b. b || false) (h.0 m)

no_failing : (b : Bool) (fs gs : List TypeFault) → (b && no_faults (if b then or_else fs gs else [])) ≡ true → fs ≡ []
no_failing true [] gs e = refl
no_failing true (f ∷ fs) gs e = cc
no_failing false fs gs e = cc

module _ (s : Scope) (h : Hint) (i j : ℕ) where
  unary_node : (o : Sign) (ys zs : Parts) → EachSilent s.rights ys → Silent s.rights (made (form.Unary o) i j (sort_by s (kind.Unary o) h i j ys) ys zs)
  unary_node o [] zs g m = cc
  unary_node o (None ∷ ys) zs g m = cc
  unary_node o (Some x ∷ y ∷ ys) zs g m = cc
  unary_node o (Some x ∷ []) zs g m = ap (λ b. b || false) (g.0 (unary_silent s.rights o (sort_of x) (own (sort_of x)) m))

  binary_node : (o : Operator) (ys zs : Parts) → EachSilent s.rights ys → Silent s.rights (made (form.Binary o) i j (sort_by s (kind.Binary o) h i j ys) ys zs)
  binary_node o [] zs g m = cc
  binary_node o (None ∷ ys) zs g m = cc
  binary_node o (Some x ∷ []) zs g m = cc
  binary_node o (Some x ∷ None ∷ ys) zs g m = cc
  binary_node o (Some x ∷ Some y ∷ v ∷ ys) zs g m = cc
  binary_node o (Some x ∷ Some y ∷ []) zs g m =
      let both = operation_silent s.rights o (sort_of x) (sort_of y) m in
      ap (λ b. b || ((label_of y).calls || false)) (g.0 both.0) ∙ ap (λ b. b || false) (g.1.0 both.1)

  call_node : (ys zs : Parts) → failing s kind.Call h i j ys ≡ [] → EachSilent s.rights ys → Silent s.rights (made (form_by s kind.Call h i j ys) i j (sort_by s kind.Call h i j ys) ys zs)
  call_node [] zs f g m = cc
  call_node (None ∷ ys) zs f g m = cc
  call_node (Some x ∷ ys) zs f g m =
      let q = call_silent s.rights i j (sort_of x) (present ys) f (silent_present s.rights ys g.1) m in
      ap (λ b. (is_call (callee_form (sort_of x)) && not b) || ((label_of x).calls || list_any calls_in ys)) q.0
      ∙ ap (λ b. b || ((label_of x).calls || list_any calls_in ys)) (and_false (is_call (callee_form (sort_of x))))
      ∙ ap (λ b. b || list_any calls_in ys) (g.0 q.1) ∙ calls_present s.rights ys ∙ q.2

  unknown_node : (f : Form) (ys zs : Parts) → Silent s.rights (made f i j sort.Unknown ys zs)
  unknown_node f ys zs m = cc

  by_call : (ys : Parts) (b : Bool) → is_sound kind.Call ys (own_faults s kind.Call h i j ys) ≡ b → EachSilent s.rights ys → Silent s.rights (built_by s kind.Call h i j ys b)
  by_call ys true e g = call_node ys (all_given (takes s kind.Call h ys) ys) (no_failing (is_judged ys) (failing s kind.Call h i j ys) (placing s kind.Call h i j (sort_by s kind.Call h i j ys)) e) g
  by_call ys false e g = unknown_node (form_by s kind.Call h i j ys) ys ys

  -- ---- kinds that stand for none of these

  loud_node : (f : Form) (x : Stands) (ys zs : Parts) → is_silent s.rights x ≡ false → Silent s.rights (made f i j x ys zs)
  loud_node f x ys zs e m = never s.rights (is_silent s.rights x) e m

  abbrev pub sort_loud : Kind → Parts → Type 0
  sort_loud k ys = is_silent s.rights (sort_by s k h i j ys) ≡ false

  by_loud : (k : Kind) (ys : Parts) (b : Bool) → sort_loud k ys → Silent s.rights (built_by s k h i j ys b)
  by_loud k ys true e = loud_node (form_by s k h i j ys) (sort_by s k h i j ys) ys (all_given (takes s k h ys) ys) e
  by_loud k ys false e = unknown_node (form_by s k h i j ys) ys ys

  pub selector_loud : (ys : Parts) → sort_loud kind.Selector ys
  selector_loud [] = refl
  selector_loud (None ∷ ys) = refl
  selector_loud (Some x ∷ y ∷ ys) = refl
  selector_loud (Some x ∷ []) = by_sort (sort_of x)
    where
      by_sort : (z : Stands) → is_silent s.rights (selector_sort s.rights (s.texts (j - 1)) z) ≡ false
      by_sort sort.Package = refl
      by_sort z = value_loud s.rights (named_field (form_of_value s.rights z) (s.texts (j - 1)))

  pub bracketed_loud : (ys : Parts) → sort_loud kind.Bracketed ys
  bracketed_loud [] = refl
  bracketed_loud (None ∷ ys) = refl
  bracketed_loud (Some x ∷ []) = refl
  bracketed_loud (Some x ∷ None ∷ []) = refl
  bracketed_loud (Some x ∷ Some y ∷ []) = by_text (is_text s.rights (sort_of x))
    where
      by_text : (b : Bool) → is_silent s.rights (if b then sort.Value byte else value_or_unknown (element_of (form_of_value s.rights (sort_of x)))) ≡ false
      by_text true = refl
      by_text false = value_loud s.rights (element_of (form_of_value s.rights (sort_of x)))
  bracketed_loud (Some x ∷ None ∷ z ∷ []) = value_loud s.rights (value_type (sort_of x))
  bracketed_loud (Some x ∷ Some y ∷ z ∷ []) = value_loud s.rights (value_type (sort_of x))
  bracketed_loud (Some x ∷ None ∷ z ∷ v ∷ ys) = refl
  bracketed_loud (Some x ∷ Some y ∷ z ∷ v ∷ ys) = refl

  pub literal_loud : (ys : Parts) → sort_loud kind.Composite ys
  literal_loud [] = refl
  literal_loud (t ∷ ys) = value_loud s.rights (literal_type h t)

  pub untyped_literal_loud : (ys : Parts) → sort_loud kind.LiteralValue ys
  untyped_literal_loud [] = refl
  untyped_literal_loud (t ∷ ys) = value_loud s.rights (literal_type h t)

  sequence_loud : (ys : Parts) → sort_loud kind.SequenceType ys
  sequence_loud [] = refl
  sequence_loud (x ∷ []) = refl
  sequence_loud (x ∷ y ∷ z ∷ ys) = refl
  sequence_loud (None ∷ y ∷ []) = by_type (part_type y)
    where
      by_type : (o : Option TypeTree) → is_silent s.rights (type_sort (sequence_type None o)) ≡ false
      by_type None = refl
      by_type (Some t) = refl
  sequence_loud (Some n ∷ y ∷ []) = by_type (length_in (constant_of (sort_of n))) (part_type y)
    where
      by_type : (m : Option ℕ) (o : Option TypeTree) → is_silent s.rights (type_sort (array_of m o)) ≡ false
      by_type None o = refl
      by_type (Some m) None = refl
      by_type (Some m) (Some t) = refl

  signature_loud : (ys : Parts) → sort_loud kind.Signature ys
  signature_loud [] = refl
  signature_loud (x ∷ []) = refl
  signature_loud (x ∷ y ∷ z ∷ ys) = refl
  signature_loud (x ∷ y ∷ []) = by_rows (all_types (entry_types (parts_in x))) (all_types (result_types y))
    where
      by_rows : (p r : Option (List TypeTree)) → is_silent s.rights (type_sort (function_of p r)) ≡ false
      by_rows None r = refl
      by_rows (Some p) None = refl
      by_rows (Some p) (Some r) = refl

  key_uncalled : (h : Hint) (name : List ℕ) → is_call (key_form s.rights h name) ≡ false
  key_uncalled (member t) name = refl
  key_uncalled h name = refl

  object_uncalled : (o : Option Object) → is_call (object_form s o) ≡ false
  object_uncalled None = refl
  object_uncalled (Some object.Import) = refl
  object_uncalled (Some (object.Predeclared p)) = refl
  object_uncalled (Some (object.Package n)) = refl
  object_uncalled (Some (object.Local g n)) = refl

  declared_uncalled : (o : Option Object) → is_call (declared_form s o) ≡ false
  declared_uncalled None = refl
  declared_uncalled (Some object.Import) = refl
  declared_uncalled (Some (object.Predeclared p)) = refl
  declared_uncalled (Some (object.Package n)) = refl
  declared_uncalled (Some (object.Local g n)) = refl

  or_type : (z : Stands) (f : Form) → is_call f ≡ false → is_call (form_or_type z f) ≡ false
  or_type (sort.IsType u) f e = refl
  or_type z f e = e

  name_uncalled : (h : Hint) → is_call (name_form s h i) ≡ false
  name_uncalled declares = declared_uncalled (s.objects i)
  name_uncalled free = declared_uncalled (s.objects i)
  name_uncalled h = or_type (name_sort s h i) (object_form s (s.objects i)) (object_uncalled (s.objects i))

  bare : (f : Form) (x : Stands) → is_call f ≡ false → (label_of (made f i j x [] [])).calls ≡ false
  bare f x e = ap (λ b. (b && not (is_constant x)) || false) e

  by_one : (k : Kind) (ys : Parts) (b : Bool) → sort_by s k h i j ys ≡ on_one sort.Unknown sort_of ys → is_call (form_by s k h i j ys) ≡ false → EachSilent s.rights ys → Silent s.rights (built_by s k h i j ys b)
  by_one k ys true is e g =
      subst (λ z. Silent s.rights (made (form_by s k h i j ys) i j z ys (all_given (takes s k h ys) ys))) (sym is) (one_silent s.rights (form_by s k h i j ys) i j ys (all_given (takes s k h ys) ys) e g)
  by_one k ys false is e g = unknown_node (form_by s k h i j ys) ys ys

  by_unary : (o : Sign) (ys : Parts) (b : Bool) → EachSilent s.rights ys → Silent s.rights (built_by s (kind.Unary o) h i j ys b)
  by_unary o ys true g = unary_node o ys (all_given (takes s (kind.Unary o) h ys) ys) g
  by_unary o ys false g = unknown_node (form.Unary o) ys ys

  by_binary : (o : Operator) (ys : Parts) (b : Bool) → EachSilent s.rights ys → Silent s.rights (built_by s (kind.Binary o) h i j ys b)
  by_binary o ys true g = binary_node o ys (all_given (takes s (kind.Binary o) h ys) ys) g
  by_binary o ys false g = unknown_node (form.Binary o) ys ys

  leaf_by : (k : Kind) (b : Bool) → is_call (form_by s k h i j []) ≡ false → (label_of (built_by s k h i j [] b)).calls ≡ false
  leaf_by k true e = ap (λ c. (c && not (is_constant (sort_by s k h i j []))) || false) e
  leaf_by k false e = ap (λ c. (c && true) || false) e

  abbrev sound_of : Kind → Parts → Bool
  sound_of k ys = is_sound k ys (own_faults s k h i j ys)

  by_kind : (p : Place) (k : Kind) (ps : Trees) → AreShaped (rule p k) ps → EachSilent s.rights (typings s k h ps [] ps) → Silent s.rights (built s k h i j (typings s k h ps [] ps))
  by_kind p kind.Name none e g = λ m. leaf_by kind.Name (sound_of kind.Name []) (name_uncalled h)
  by_kind p kind.Name (more q qs) e g = elim e [ ]
  by_kind p kind.Name (skip qs) e g = elim e [ ]
  by_kind p kind.Integer none e g = λ m. leaf_by kind.Integer (sound_of kind.Integer []) refl
  by_kind p kind.Integer (more q qs) e g = elim e [ ]
  by_kind p kind.Integer (skip qs) e g = elim e [ ]
  by_kind p kind.Rune none e g = λ m. leaf_by kind.Rune (sound_of kind.Rune []) refl
  by_kind p kind.Rune (more q qs) e g = elim e [ ]
  by_kind p kind.Rune (skip qs) e g = elim e [ ]
  by_kind p kind.Text none e g = λ m. leaf_by kind.Text (sound_of kind.Text []) refl
  by_kind p kind.Text (more q qs) e g = elim e [ ]
  by_kind p kind.Text (skip qs) e g = elim e [ ]
  by_kind p kind.Parenthesized ps e g = let ys = typings s kind.Parenthesized h ps [] ps in by_one kind.Parenthesized ys (sound_of kind.Parenthesized ys) refl refl g
  by_kind p kind.ParenthesizedType ps e g = let ys = typings s kind.ParenthesizedType h ps [] ps in by_one kind.ParenthesizedType ys (sound_of kind.ParenthesizedType ys) refl refl g
  by_kind p kind.FunctionType ps e g = let ys = typings s kind.FunctionType h ps [] ps in by_one kind.FunctionType ys (sound_of kind.FunctionType ys) refl refl g
  by_kind p kind.Keyed ps e g =
      let xs = typings s kind.Keyed h ps [] ps in
      by_one kind.Keyed (behind_first xs) (sound_of kind.Keyed (behind_first xs)) refl (key_uncalled h (s.texts i)) (behind xs g)
    where
      behind : (xs : Parts) → EachSilent s.rights xs → EachSilent s.rights (behind_first xs)
      behind [] g = tt
      behind (x ∷ xs) g = (first_silent s.rights x xs g).1
  by_kind p (kind.Unary o) ps e g = let ys = typings s (kind.Unary o) h ps [] ps in by_unary o ys (sound_of (kind.Unary o) ys) g
  by_kind p (kind.Binary o) ps e g = let ys = typings s (kind.Binary o) h ps [] ps in by_binary o ys (sound_of (kind.Binary o) ys) g
  by_kind p kind.Call ps e g = let ys = call_parts (typings s kind.Call h ps [] ps) in by_call ys (sound_of kind.Call ys) refl (call_parts_silent s.rights (typings s kind.Call h ps [] ps) g)
  by_kind p kind.Selector ps e g = let ys = layout kind.Selector (typings s kind.Selector h ps [] ps) in by_loud kind.Selector ys (sound_of kind.Selector ys) (selector_loud ys)
  by_kind p kind.Bracketed ps e g = let ys = layout kind.Bracketed (typings s kind.Bracketed h ps [] ps) in by_loud kind.Bracketed ys (sound_of kind.Bracketed ys) (bracketed_loud ys)
  by_kind p kind.Composite ps e g = let ys = layout kind.Composite (typings s kind.Composite h ps [] ps) in by_loud kind.Composite ys (sound_of kind.Composite ys) (literal_loud ys)
  by_kind p kind.LiteralValue ps e g =
      let ys = layout kind.LiteralValue (typings s kind.LiteralValue h ps [] ps) in by_loud kind.LiteralValue ys (sound_of kind.LiteralValue ys) (untyped_literal_loud ys)
  by_kind p kind.SequenceType ps e g = let ys = typings s kind.SequenceType h ps [] ps in by_loud kind.SequenceType ys (sound_of kind.SequenceType ys) (sequence_loud ys)
  by_kind p kind.StructType ps e g = let ys = layout kind.StructType (typings s kind.StructType h ps [] ps) in by_loud kind.StructType ys (sound_of kind.StructType ys) refl
  by_kind p kind.Signature ps e g = let ys = typings s kind.Signature h ps [] ps in by_loud kind.Signature ys (sound_of kind.Signature ys) (signature_loud ys)
  by_kind p k ps e g = let ys = layout k (typings s k h ps [] ps) in by_loud k ys (sound_of k ys) refl

-- ---- trees

pub rights_kept : (s : Scope) (k : Kind) (xs : Parts) → (part_scope s k xs).rights ≡ s.rights
rights_kept s kind.SequenceType [] = refl
rights_kept s kind.SequenceType (x ∷ xs) = refl
rights_kept s k xs = refl

one_more : (rights : Rights) (xs : Parts) (x : Part) → EachSilent rights xs → Silent rights x → EachSilent rights (xs ++ Some x ∷ [])
one_more rights [] x g h = (h, tt)
one_more rights (None ∷ xs) x g h = one_more rights xs x g h
one_more rights (Some y ∷ xs) x g h = (g.0, one_more rights xs x g.1 h)

one_less : (rights : Rights) (xs : Parts) → EachSilent rights xs → EachSilent rights (xs ++ None ∷ [])
one_less rights [] g = tt
one_less rights (None ∷ xs) g = one_less rights xs g
one_less rights (Some y ∷ xs) g = (g.0, one_less rights xs g.1)

mutual
  -- What is typed has no call where it is constant.
  pub typing_silent : (s : Scope) (h : Hint) (c : Category) (x : Tree) → IsShaped c x → Silent s.rights (typing s h x)
  typing_silent s h c (node k i j ps) e = by_kind s h i j (place_of c) k ps e.1 (parts_silent s k h ps [] ps (rule (place_of c) k) e.1 tt)

  parts_silent : (s : Scope) (k : Kind) (h : Hint) (all : Trees) (xs : Parts) (ps : Trees) (r : Rule) → AreShaped r ps → EachSilent s.rights xs → EachSilent s.rights (typings s k h all xs ps)
  parts_silent s k h all xs none r e each = each
  parts_silent s k h all xs (more p ps) (End ws) e each = elim e [ ]
  parts_silent s k h all xs (more p ps) (Then ws c r) e each =
      let x = typing (part_scope s k xs) (hint s k h all xs (kind_of p)) p in parts_silent s k h all (xs ++ Some x ∷ []) ps r e.1 (one_more s.rights xs x each (subst (λ r. Silent r x) (rights_kept s k xs) (typing_silent (part_scope s k xs) (hint s k h all xs (kind_of p)) c p e.0)))
  parts_silent s k h all xs (more p ps) (Maybe ws c r) e each =
      let x = typing (part_scope s k xs) (hint s k h all xs (kind_of p)) p in parts_silent s k h all (xs ++ Some x ∷ []) ps r e.1 (one_more s.rights xs x each (subst (λ r. Silent r x) (rights_kept s k xs) (typing_silent (part_scope s k xs) (hint s k h all xs (kind_of p)) c p e.0)))
  parts_silent s k h all xs (more p ps) (Unless ws c us r) e each =
      let x = typing (part_scope s k xs) (hint s k h all xs (kind_of p)) p in parts_silent s k h all (xs ++ Some x ∷ []) ps r e.1 (one_more s.rights xs x each (subst (λ r. Silent r x) (rights_kept s k xs) (typing_silent (part_scope s k xs) (hint s k h all xs (kind_of p)) c p e.0)))
  parts_silent s k h all xs (more p ps) (Many ws l) e each =
      let x = typing (part_scope s k xs) (hint s k h all xs (kind_of p)) p in parts_silent s k h all (xs ++ Some x ∷ []) ps (Many ws l) e.1 (one_more s.rights xs x each (subst (λ r. Silent r x) (rights_kept s k xs) (typing_silent (part_scope s k xs) (hint s k h all xs (kind_of p)) (item l) p e.0)))
  parts_silent s k h all xs (skip ps) (End ws) e each = elim e [ ]
  parts_silent s k h all xs (skip ps) (Then ws c r) e each = elim e [ ]
  parts_silent s k h all xs (skip ps) (Maybe ws c r) e each = parts_silent s k h all (xs ++ None ∷ []) ps r e (one_less s.rights xs each)
  parts_silent s k h all xs (skip ps) (Unless ws c us r) e each = parts_silent s k h all (xs ++ None ∷ []) ps r e (one_less s.rights xs each)
  parts_silent s k h all xs (skip ps) (Many ws l) e each = elim e [ ]
