-- Calls, conversions and predeclared functions.
use Rattle.std.proofs.Common.{◌≡◌, ℕ, ◌==◌, Bool, true, false, cond, [], ◌∷◌, List, length, map, Option, Some, None, refl, sym, ap, ◌∙◌, true≢false, nat_le}
use Rattle.std.specs.Prelude.{◌&&◌, ◌||◌, is_some}
use Rattle.std.specs.List.{list_all}
use Rattle.go_constants.specs.declared.values.Const.{Const}
use Rattle.go_constants.specs.declared.values.Const.TheVariants as const
use Rattle.go_base.specs.declared.fault.FaultCode.TheVariants as code
use Rattle.go_exprs_rules.specs.Faults.{fault_at}
use Rattle.go_grammar.specs.declared.kind.Kind.TheVariants as kind
use Rattle.go_ints.specs.declared.operators.Op.TheVariants as op
use Rattle.go_tree.specs.declared.object.Predeclared.{Predeclared}
use Rattle.go_tree.specs.declared.object.Predeclared.TheVariants as predeclared
use Rattle.go_types.specs.Trees.{TypeTree, TypeRow}
use Rattle.go_types.specs.Trees as types
use Rattle.go_types.specs.Relations.{Rights}
use Rattle.go_types_relations.specs.Tests.{underlying_of, both_identical}
use Rattle.go_typed.specs.declared.form.Form.{Form}
use Rattle.go_typed.specs.declared.form.Form.TheVariants as form
use Rattle.go_typed.specs.Trees.{Label, Typed, typed, Typeds, sort_of, row}
use Rattle.go_typed.specs.Trees as sort
use Rattle.go_exprs_rules.specs.Calls.{keeps_value, becomes_text, text_of, constant_or_value, conversion_sort, conversion_failing, conversion_take, kept_conversion, value_conversion, converted_sort, call_failing, parameters_of, results_of, called, row_length, all_unassignable, function_call_failing, function_takes, no_results, length_failing, has_elements, make_failing, count_unless, sizes_failing, append_failing_in, copies, copy_failing, panic_failing, builtin_takes, constant_length, length_value, length_sort, made_sort, appended_sort, appended_takes}
use Rattle.go_exprs_rules.specs.Calls.{met, all_met, meeting, are_constants, extreme_failing_in, extreme_take_in, extreme_take, extreme_sort}
use Rattle.go_exprs_rules.specs.Operators.{Common, in_type, in_kind, own}
use Rattle.go_exprs_rules.specs.Scopes.{Scope, Hint}
use Rattle.go_exprs_rules.specs.Settling.{Part, default, as_type, given, undefaulted}
use Rattle.go_exprs_rules.specs.Sorts.{Stands, is_open, is_text, is_byte, is_whole, is_unknown, family_of, form_of_value, underlying_in, slice_element, named_type, own_type, constant_of, int}
use Rattle.go_exprs_rules.specs.Tables.{Parts, present, all_given, leaf, call_parts, is_type, built_on}
use Rattle.go_stmts_defs.specs.Targets.{first_varies, is_statement_call}
use Rattle.go_stmts_final_types.proofs.Given.{Done, is_closed, is_valued, labelled, closed_done}
use Rattle.go_stmts_final_types.proofs.Nodes.{AllSlots, Sound, AllSound, done_slot, node_settles, closed_sound, placed_sound, and_first, and_second}
use Rattle.go_stmts_final_types.proofs.Operands.{open_or_unknown}
use Rattle.go_stmts_final_types.proofs.Rows.{somes}
use Rattle.go_stmts_final_types.proofs.Tests.{AllFound, judged_found, holds, unless_holds, second_none, valued_by, basic_valued}
use Rattle.go_stmts_final_types.proofs.Arguments.{AllValued, leaf_done, is_taking, given_done, given_slots, each_valued, printed_valued, wholes_valued, row_slots}

-- ---- what calls stand for

open_called : (t : TypeTree) (rs : TypeRow) → is_open (called t rs) ≡ false
open_called t types.none = refl
open_called t (types.more r types.none) = refl
open_called t (types.more r (types.more q rs)) = refl

open_constant : (t : TypeTree) (o : Option Const) → is_open (constant_or_value t o) ≡ false
open_constant t None = refl
open_constant t (Some c) = refl

open_conversion : (rights : Rights) (t : TypeTree) (x : Stands) → is_open (conversion_sort rights t x) ≡ false
open_conversion rights t x = by (keeps_value rights t (constant_of x)) (becomes_text rights t (constant_of x))
  where
    by : (a b : Bool) → is_open (cond a (constant_or_value t (constant_of x)) (cond b (sort.Constant t (const.Text (text_of (constant_of x)))) (sort.Value t))) ≡ false
    by true b = open_constant t (constant_of x)
    by false true = refl
    by false false = refl

open_length : (rights : Rights) (xs : List Part) → is_open (length_sort rights xs) ≡ false
open_length rights [] = refl
open_length rights (x ∷ xs) = by (constant_length rights x)
  where
    by : (o : Option ℕ) → is_open (length_value o) ≡ false
    by None = refl
    by (Some n) = refl

open_made : (xs : List Part) → is_open (made_sort xs) ≡ false
open_made [] = refl
open_made (x ∷ xs) = open_or_unknown (named_type (sort_of x))

open_appended : (xs : List Part) → is_open (appended_sort xs) ≡ false
open_appended [] = refl
open_appended (x ∷ xs) = open_or_unknown (own_type (sort_of x))

-- ---- conversions

conversion_valued : (rights : Rights) (i j : ℕ) (t : TypeTree) (x : Part) → is_unknown (sort_of x) ≡ false → conversion_failing rights i j t x ≡ [] → is_valued (sort_of x) ≡ true
conversion_valued rights i j t x u e = by (sort_of x) u e
  where
    by : (s : Stands) → is_unknown s ≡ false → cond (keeps_value rights t (constant_of s)) (kept_conversion rights t x (constant_of s)) (cond (becomes_text rights t (constant_of s)) (undefaulted rights x) (value_conversion rights i j t x s)) ≡ [] → is_valued s ≡ true
    by sort.Unknown u e = cc
    by (sort.IsType v) u e = cc
    by s u e = refl

conversion_taking : (rights : Rights) (t : TypeTree) (x : Stands) → is_taking (conversion_take rights t x) ≡ true
conversion_taking rights t x = by _
  where
    by : (b : Bool) → is_taking (cond b (as_type t) default) ≡ true
    by true = refl
    by false = refl

module _ (s : Scope) (h : Hint) (i j : ℕ) where
  conversion : (t : TypeTree) (f : Part) (vs : List Part) → sort_of f ≡ sort.IsType t → AllSound vs → AllFound (somes vs) → call_failing s.rights i j (sort.IsType t) (present (somes vs)) ≡ []
      → AllSlots (converted_sort s.rights t (present (somes vs))) (Some (leaf f) ∷ all_given (map (λ x. conversion_take s.rights t (sort_of x)) (present (somes vs))) (somes vs))
  conversion t f [] m g k e = cc
  conversion t f (x ∷ []) m g k e =
      let n = converted_sort s.rights t (x ∷ []) in
      let v = conversion_valued s.rights i j t x k.0 e in
      (done_slot n (leaf f) (leaf_done f (ap is_type m)), (done_slot n (given (conversion_take s.rights t (sort_of x)) x) (given_done (conversion_take s.rights t (sort_of x)) (conversion_taking s.rights t (sort_of x)) x g.0.settles v), tt))
  conversion t f (x ∷ y ∷ ws) m g k e = cc

  open_converted : (t : TypeTree) (xs : List Part) → is_open (converted_sort s.rights t xs) ≡ false
  open_converted t [] = refl
  open_converted t (x ∷ xs) = open_conversion s.rights t (sort_of x)

  -- ---- functions

  function_slots : (n : Stands) (o : Option TypeRow) (vs : List Part) → AllSound vs → AllFound (somes vs) → function_call_failing s.rights i j o (present (somes vs)) ≡ [] → AllSlots n (all_given (function_takes o (present (somes vs))) (somes vs))
  function_slots n None vs g k e = cc
  function_slots n (Some ps) vs g k e =
      let c = holds (row_length ps == length (present (somes vs))) (all_unassignable s.rights ps (present (somes vs))) _ e in row_slots n s.rights ps vs c.0 c.1 g k

  -- ---- `len` and `cap`

  length_valued : (texts : Bool) (vs : List Part) → length_failing s.rights i j texts (present (somes vs)) ≡ [] → AllValued vs
  length_valued texts [] e = cc
  length_valued texts (x ∷ []) e =
      (valued_by (λ y. (texts && is_text s.rights y) || has_elements s.rights y) (by texts) (λ t. by texts) (sort_of x) (unless_holds ((texts && is_text s.rights (sort_of x)) || has_elements s.rights (sort_of x)) i j e), tt)
    where
      by : (b : Bool) → ((b && false) || false) ≡ false
      by true = refl
      by false = refl
  length_valued texts (x ∷ y ∷ ws) e = cc

  -- ---- `make`

  unnamed : (x : Stands) → is_type x ≡ false → is_some (slice_element (underlying_in s.rights (named_type x))) ≡ false
  unnamed (sort.IsType t) e = cc
  unnamed x e = refl

  make_slots : (n : Stands) (x : Part) (ws : List Part) → AllSound ws → (b : Bool) → is_type (sort_of x) ≡ b → make_failing s.rights i j (present (cond b (Some (leaf x)) (Some x) ∷ somes ws)) ≡ []
      → AllSlots n (all_given (builtin_takes s.rights predeclared.Make (present (cond b (Some (leaf x)) (Some x) ∷ somes ws))) (cond b (Some (leaf x)) (Some x) ∷ somes ws))
  make_slots n x ws g true m e =
      let xs = present (somes ws) in
      let test = is_some (slice_element (underlying_in s.rights (named_type (sort_of (leaf x))))) && list_all (λ y. is_whole s.rights (sort_of y)) xs in
      let r = second_none (count_unless (nat_le 1 (length xs) && nat_le (length xs) 2) i j) (cond test (sizes_failing s.rights xs) (fault_at code.Operands i j)) e in
      let t = holds test (sizes_failing s.rights xs) _ r in
      let whole = and_second (is_some (slice_element (underlying_in s.rights (named_type (sort_of (leaf x)))))) (list_all (λ y. is_whole s.rights (sort_of y)) xs) t.0 in
      (done_slot n (leaf x) (leaf_done x m), given_slots n (as_type int) refl ws g (wholes_valued s.rights ws whole))
  make_slots n x ws g false m e =
      let xs = present (somes ws) in
      let test = is_some (slice_element (underlying_in s.rights (named_type (sort_of x)))) && list_all (λ y. is_whole s.rights (sort_of y)) xs in
      let r = second_none (count_unless (nat_le 1 (length xs) && nat_le (length xs) 2) i j) (cond test (sizes_failing s.rights xs) (fault_at code.Operands i j)) e in
      let t = holds test (sizes_failing s.rights xs) _ r in
      absurd (true≢false (sym (and_first (is_some (slice_element (underlying_in s.rights (named_type (sort_of x))))) (list_all (λ y. is_whole s.rights (sort_of y)) xs) t.0) ∙ unnamed (sort_of x) m))

  -- ---- `append` and `copy`

  sliced_closed : (x : Stands) (t : TypeTree) → slice_element (form_of_value s.rights x) ≡ Some t → is_closed x ≡ true
  sliced_closed sort.Unknown t e = cc
  sliced_closed (sort.IsType u) t e = cc
  sliced_closed (sort.Open u) t e = cc
  sliced_closed (sort.OpenConstant c) t e = cc
  sliced_closed x t e = refl

  append_slots : (n : Stands) (x : Part) (ws : List Part) → Sound x → AllSound ws → AllFound (somes ws) → (o : Option TypeTree) → slice_element (form_of_value s.rights (sort_of x)) ≡ o → append_failing_in s.rights i j o (present (somes ws)) ≡ []
      → AllSlots n (all_given (appended_takes o (present (somes ws))) (Some x ∷ somes ws))
  append_slots n x ws g r k None m e = cc
  append_slots n x ws g r k (Some t) m e = (done_slot n x (closed_done x g.settles (sliced_closed (sort_of x) t m)), given_slots n (as_type t) refl ws r (each_valued s.rights t ws e k))

  copied_closed : (x : Stands) → is_some (slice_element (form_of_value s.rights x)) ≡ true → is_valued x ≡ true
  copied_closed x e = valued_by (λ y. is_some (slice_element (form_of_value s.rights y))) refl (λ t. refl) x e

  copy_valued : (x y : Stands) (o : Option TypeTree) → slice_element (form_of_value s.rights x) ≡ o → copies s.rights o y ≡ true → (is_valued x ≡ true) × (is_valued y ≡ true)
  copy_valued x y None m e = cc
  copy_valued x y (Some t) m e =
      (copied_closed x (ap is_some m), valued_by (λ z. both_identical (Some t) (slice_element (form_of_value s.rights z)) || (is_text s.rights z && is_byte (Some t))) refl (λ u. refl) y e)

  copies_valued : (vs : List Part) → copy_failing s.rights i j (present (somes vs)) ≡ [] → AllValued vs
  copies_valued [] e = cc
  copies_valued (x ∷ []) e = cc
  copies_valued (x ∷ y ∷ []) e =
      let o = slice_element (form_of_value s.rights (sort_of x)) in
      let v = copy_valued (sort_of x) (sort_of y) o refl (unless_holds (copies s.rights o (sort_of y)) i j e) in
      (v.0, (v.1, tt))
  copies_valued (x ∷ y ∷ z ∷ ws) e = cc

  panic_valued : (vs : List Part) → panic_failing s.rights i j (present (somes vs)) ≡ [] → AllValued vs
  panic_valued [] e = cc
  panic_valued (x ∷ []) e = (basic_valued s.rights (sort_of x) (holds (is_some (family_of s.rights (sort_of x))) (undefaulted s.rights x) _ e).0, tt)
  panic_valued (x ∷ y ∷ ws) e = cc

  -- ---- `min` and `max`

  none_met : (ws : List Part) → all_met s.rights None (present (somes ws)) ≡ None
  none_met [] = refl
  none_met (w ∷ ws) = none_met ws

  met_none : (c : Option Common) → met s.rights c None ≡ None
  met_none None = refl
  met_none (Some (in_type t)) = refl
  met_none (Some (in_kind k)) = refl

  met_own : (c : Option Common) (x : Stands) (ws : List Part) (d : Common) → all_met s.rights (met s.rights c (own x)) (present (somes ws)) ≡ Some d → is_valued x ≡ true
  met_own c sort.Unknown ws d e = let never = sym (ap (λ z. all_met s.rights z (present (somes ws))) (met_none c) ∙ none_met ws) ∙ e in cc
  met_own c (sort.IsType t) ws d e = let never = sym (ap (λ z. all_met s.rights z (present (somes ws))) (met_none c) ∙ none_met ws) ∙ e in cc
  met_own c x ws d e = refl

  met_valued : (c : Option Common) (ws : List Part) (d : Common) → all_met s.rights c (present (somes ws)) ≡ Some d → AllValued ws
  met_valued c [] d e = tt
  met_valued c (w ∷ ws) d e = (met_own c (sort_of w) ws d e, met_valued (met s.rights c (own (sort_of w))) ws d e)

  first_met : (x : Stands) (ws : List Part) (d : Common) → all_met s.rights (own x) (present (somes ws)) ≡ Some d → is_valued x ≡ true
  first_met sort.Unknown ws d e = let never = sym (none_met ws) ∙ e in cc
  first_met (sort.IsType t) ws d e = let never = sym (none_met ws) ∙ e in cc
  first_met x ws d e = refl

  extreme_taking : (constant : Bool) (c : Common) → is_taking (extreme_take_in constant (Some c)) ≡ true
  extreme_taking constant (in_type t) = refl
  extreme_taking true (in_kind k) = refl
  extreme_taking false (in_kind k) = refl

  extreme_slots : (n : Stands) (x : Part) (ws : List Part) → AllSound (x ∷ ws) → (c : Option Common) → meeting s.rights (x ∷ present (somes ws)) ≡ c → extreme_failing_in s.rights i j (x ∷ present (somes ws)) c ≡ []
      → AllSlots n (all_given (map (λ y. extreme_take s.rights (x ∷ present (somes ws))) (x ∷ present (somes ws))) (Some x ∷ somes ws))
  extreme_slots n x ws g None m e = cc
  extreme_slots n x ws g (Some c) m e =
      let constant = are_constants (x ∷ present (somes ws)) in
      given_slots n (extreme_take s.rights (x ∷ present (somes ws))) (ap (λ z. is_taking (extreme_take_in constant z)) m ∙ extreme_taking constant c) (x ∷ ws) g (first_met (sort_of x) ws c m, met_valued (own (sort_of x)) ws c m)

  -- ---- nodes

  call_first : (rights : Rights) (ps : Typeds TypeTree) → first_varies rights form.Call ps ≡ false
  call_first rights sort.none = refl
  call_first rights (sort.more p ps) = refl
  call_first rights (sort.skip ps) = refl

  -- a call that is no statement
  value_call : (n : Stands) (v c : Bool) (zs : Parts) → is_statement_call (typed form.Call i j (labelled n v c) (row zs)) ≡ false → AllSlots n zs → Sound (typed form.Call i j (labelled n v c) (row zs))
  value_call n v c zs f g = record {
    plain = refl;
    settles = node_settles form.Call i j n v c zs g;
    target = λ rights o m. absurd (true≢false (sym m ∙ call_first rights (row zs)));
    called = λ m. absurd (true≢false (sym m ∙ f));
    element = λ m u. absurd (true≢false (sym m));
  }

  module _ (ff : Form) (fi fj : ℕ) (fv fc : Bool) (fps : Typeds TypeTree) where
    abbrev callee : Stands → Part
    callee x = typed ff fi fj (labelled x fv fc) fps

    abbrev over : Stands → List Part → Type 0
    over x vs = Sound (built_on s kind.Call h i j (call_parts (Some (callee x) ∷ somes vs)))

    builtin_done : (p : Predeclared) → Sound (callee (sort.Builtin p)) → Done (callee (sort.Builtin p))
    builtin_done p g = closed_done (callee (sort.Builtin p)) g.settles refl

    len_call : (vs : List Part) → Sound (callee (sort.Builtin predeclared.Len)) → AllSound vs → over (sort.Builtin predeclared.Len) vs
    len_call [] g r = placed_sound s kind.Call h i j (Some (callee (sort.Builtin predeclared.Len)) ∷ []) refl refl refl (λ m f. cc)
    len_call (x ∷ ws) g r = placed_sound s kind.Call h i j (Some (callee (sort.Builtin predeclared.Len)) ∷ somes (x ∷ ws)) refl refl refl
        (λ m f.
        let n = length_sort s.rights (x ∷ present (somes ws)) in
        closed_sound form.Call refl refl i j n _ _ (Some (callee (sort.Builtin predeclared.Len)) ∷ all_given (map (λ y. default) (present (somes (x ∷ ws)))) (somes (x ∷ ws))) (open_length s.rights (x ∷ present (somes ws)))
        (done_slot n (callee (sort.Builtin predeclared.Len)) (builtin_done predeclared.Len g), given_slots n default refl (x ∷ ws) r (length_valued true (x ∷ ws) f)))

    cap_call : (vs : List Part) → Sound (callee (sort.Builtin predeclared.Cap)) → AllSound vs → over (sort.Builtin predeclared.Cap) vs
    cap_call [] g r = placed_sound s kind.Call h i j (Some (callee (sort.Builtin predeclared.Cap)) ∷ []) refl refl refl (λ m f. cc)
    cap_call (x ∷ ws) g r = placed_sound s kind.Call h i j (Some (callee (sort.Builtin predeclared.Cap)) ∷ somes (x ∷ ws)) refl refl refl
        (λ m f.
        let n = length_sort s.rights (x ∷ present (somes ws)) in
        closed_sound form.Call refl refl i j n _ _ (Some (callee (sort.Builtin predeclared.Cap)) ∷ all_given (map (λ y. default) (present (somes (x ∷ ws)))) (somes (x ∷ ws))) (open_length s.rights (x ∷ present (somes ws)))
        (done_slot n (callee (sort.Builtin predeclared.Cap)) (builtin_done predeclared.Cap g), given_slots n default refl (x ∷ ws) r (length_valued false (x ∷ ws) f)))

    copy_call : (vs : List Part) → Sound (callee (sort.Builtin predeclared.Copy)) → AllSound vs → over (sort.Builtin predeclared.Copy) vs
    copy_call [] g r = placed_sound s kind.Call h i j (Some (callee (sort.Builtin predeclared.Copy)) ∷ []) refl refl refl (λ m f. cc)
    copy_call (x ∷ ws) g r = placed_sound s kind.Call h i j (Some (callee (sort.Builtin predeclared.Copy)) ∷ somes (x ∷ ws)) refl refl refl
        (λ m f.
        let n = sort.Value int in
        closed_sound form.Call refl refl i j n _ _ (Some (callee (sort.Builtin predeclared.Copy)) ∷ all_given (map (λ y. default) (present (somes (x ∷ ws)))) (somes (x ∷ ws))) refl
        (done_slot n (callee (sort.Builtin predeclared.Copy)) (builtin_done predeclared.Copy g), given_slots n default refl (x ∷ ws) r (copies_valued (x ∷ ws) f)))

    panic_call : (vs : List Part) → Sound (callee (sort.Builtin predeclared.Panic)) → AllSound vs → over (sort.Builtin predeclared.Panic) vs
    panic_call [] g r = placed_sound s kind.Call h i j (Some (callee (sort.Builtin predeclared.Panic)) ∷ []) refl refl refl (λ m f. cc)
    panic_call (x ∷ ws) g r = placed_sound s kind.Call h i j (Some (callee (sort.Builtin predeclared.Panic)) ∷ somes (x ∷ ws)) refl refl refl
        (λ m f.
        closed_sound form.Call refl refl i j no_results _ _ (Some (callee (sort.Builtin predeclared.Panic)) ∷ all_given (map (λ y. default) (present (somes (x ∷ ws)))) (somes (x ∷ ws))) refl
        (done_slot no_results (callee (sort.Builtin predeclared.Panic)) (builtin_done predeclared.Panic g), given_slots no_results default refl (x ∷ ws) r (panic_valued (x ∷ ws) f)))

    append_call : (vs : List Part) → Sound (callee (sort.Builtin predeclared.Append)) → AllSound vs → over (sort.Builtin predeclared.Append) vs
    append_call [] g r = placed_sound s kind.Call h i j (Some (callee (sort.Builtin predeclared.Append)) ∷ []) refl refl refl (λ m f. cc)
    append_call (x ∷ ws) g r = placed_sound s kind.Call h i j (Some (callee (sort.Builtin predeclared.Append)) ∷ somes (x ∷ ws)) refl refl refl
        (λ m f.
        let n = appended_sort (x ∷ present (somes ws)) in
        let o = slice_element (form_of_value s.rights (sort_of x)) in
        closed_sound form.Call refl refl i j n _ _ (Some (callee (sort.Builtin predeclared.Append)) ∷ all_given (appended_takes o (present (somes ws))) (Some x ∷ somes ws)) (open_appended (x ∷ present (somes ws)))
        (done_slot n (callee (sort.Builtin predeclared.Append)) (builtin_done predeclared.Append g), append_slots n x ws r.0 r.1 (judged_found (Some (callee (sort.Builtin predeclared.Append)) ∷ somes (x ∷ ws)) m).1.1 o refl f))

    min_call : (vs : List Part) → Sound (callee (sort.Builtin predeclared.Min)) → AllSound vs → over (sort.Builtin predeclared.Min) vs
    min_call [] g r = placed_sound s kind.Call h i j (Some (callee (sort.Builtin predeclared.Min)) ∷ []) refl refl refl (λ m f. cc)
    min_call (x ∷ ws) g r = placed_sound s kind.Call h i j (Some (callee (sort.Builtin predeclared.Min)) ∷ somes (x ∷ ws)) refl refl refl
        (λ m f.
        let n = extreme_sort s.rights op.Min (x ∷ present (somes ws)) in
        let k = extreme_take s.rights (x ∷ present (somes ws)) in
        value_call n _ _ (Some (callee (sort.Builtin predeclared.Min)) ∷ all_given (map (λ y. k) (x ∷ present (somes ws))) (Some x ∷ somes ws)) refl
        (done_slot n (callee (sort.Builtin predeclared.Min)) (builtin_done predeclared.Min g), extreme_slots n x ws r (meeting s.rights (x ∷ present (somes ws))) refl f))

    max_call : (vs : List Part) → Sound (callee (sort.Builtin predeclared.Max)) → AllSound vs → over (sort.Builtin predeclared.Max) vs
    max_call [] g r = placed_sound s kind.Call h i j (Some (callee (sort.Builtin predeclared.Max)) ∷ []) refl refl refl (λ m f. cc)
    max_call (x ∷ ws) g r = placed_sound s kind.Call h i j (Some (callee (sort.Builtin predeclared.Max)) ∷ somes (x ∷ ws)) refl refl refl
        (λ m f.
        let n = extreme_sort s.rights op.Max (x ∷ present (somes ws)) in
        let k = extreme_take s.rights (x ∷ present (somes ws)) in
        value_call n _ _ (Some (callee (sort.Builtin predeclared.Max)) ∷ all_given (map (λ y. k) (x ∷ present (somes ws))) (Some x ∷ somes ws)) refl
        (done_slot n (callee (sort.Builtin predeclared.Max)) (builtin_done predeclared.Max g), extreme_slots n x ws r (meeting s.rights (x ∷ present (somes ws))) refl f))

    make_call : (vs : List Part) → Sound (callee (sort.Builtin predeclared.Make)) → AllSound vs → over (sort.Builtin predeclared.Make) vs
    make_call [] g r = placed_sound s kind.Call h i j (Some (callee (sort.Builtin predeclared.Make)) ∷ []) refl refl refl (λ m f. cc)
    make_call (x ∷ ws) g r = by (is_type (sort_of x)) refl
      where
        by : (b : Bool) → is_type (sort_of x) ≡ b → Sound (built_on s kind.Call h i j (Some (callee (sort.Builtin predeclared.Make)) ∷ cond b (Some (leaf x)) (Some x) ∷ somes ws))
        by true e = placed_sound s kind.Call h i j (Some (callee (sort.Builtin predeclared.Make)) ∷ Some (leaf x) ∷ somes ws) refl refl refl
            (λ m f.
            let n = made_sort (leaf x ∷ present (somes ws)) in
            closed_sound form.Call refl refl i j n _ _ (Some (callee (sort.Builtin predeclared.Make)) ∷ all_given (builtin_takes s.rights predeclared.Make (leaf x ∷ present (somes ws))) (Some (leaf x) ∷ somes ws)) (open_made (leaf x ∷ present (somes ws)))
            (done_slot n (callee (sort.Builtin predeclared.Make)) (builtin_done predeclared.Make g), make_slots n x ws r.1 true e f))
        by false e = placed_sound s kind.Call h i j (Some (callee (sort.Builtin predeclared.Make)) ∷ Some x ∷ somes ws) refl refl refl
            (λ m f.
            let n = made_sort (x ∷ present (somes ws)) in
            closed_sound form.Call refl refl i j n _ _ (Some (callee (sort.Builtin predeclared.Make)) ∷ all_given (builtin_takes s.rights predeclared.Make (x ∷ present (somes ws))) (Some x ∷ somes ws)) (open_made (x ∷ present (somes ws)))
            (done_slot n (callee (sort.Builtin predeclared.Make)) (builtin_done predeclared.Make g), make_slots n x ws r.1 false e f))

    builtin_call : (p : Predeclared) (vs : List Part) → Sound (callee (sort.Builtin p)) → AllSound vs → over (sort.Builtin p) vs
    builtin_call predeclared.Len vs g r = len_call vs g r
    builtin_call predeclared.Cap vs g r = cap_call vs g r
    builtin_call predeclared.Copy vs g r = copy_call vs g r
    builtin_call predeclared.Panic vs g r = panic_call vs g r
    builtin_call predeclared.Append vs g r = append_call vs g r
    builtin_call predeclared.Min vs g r = min_call vs g r
    builtin_call predeclared.Max vs g r = max_call vs g r
    builtin_call predeclared.Make vs g r = make_call vs g r
    builtin_call p vs g r = placed_sound s kind.Call h i j (Some (callee (sort.Builtin p)) ∷ somes vs) refl refl refl (λ m f. cc)

    call_by : (x : Stands) (vs : List Part) → Sound (callee x) → AllSound vs → over x vs
    call_by (sort.IsType t) vs g r = placed_sound s kind.Call h i j (Some (leaf (callee (sort.IsType t))) ∷ somes vs) refl refl refl
        (λ m f.
        closed_sound form.Conversion refl refl i j (converted_sort s.rights t (present (somes vs))) _ _ (Some (leaf (callee (sort.IsType t))) ∷ all_given (map (λ x. conversion_take s.rights t (sort_of x)) (present (somes vs))) (somes vs)) (open_converted t (present (somes vs)))
        (conversion t (callee (sort.IsType t)) vs refl r (judged_found (Some (leaf (callee (sort.IsType t))) ∷ somes vs) m).1 f))
    call_by (sort.Builtin p) vs g r = builtin_call p vs g r
    call_by sort.Println vs g r = placed_sound s kind.Call h i j (Some (callee sort.Println) ∷ somes vs) refl refl refl
        (λ m f.
        closed_sound form.Call refl refl i j no_results _ _ (Some (callee sort.Println) ∷ all_given (map (λ x. default) (present (somes vs))) (somes vs)) refl
        (done_slot no_results (callee sort.Println) (closed_done (callee sort.Println) g.settles refl), given_slots no_results default refl vs r (printed_valued s.rights i j vs f)))
    call_by (sort.Value t) vs g r = placed_sound s kind.Call h i j (Some (callee (sort.Value t)) ∷ somes vs) refl refl refl
        (λ m f.
        let n = called t (results_of (underlying_of s.rights t)) in
        let o = parameters_of (underlying_of s.rights t) in
        closed_sound form.Call refl refl i j n _ _ (Some (callee (sort.Value t)) ∷ all_given (function_takes o (present (somes vs))) (somes vs)) (open_called t (results_of (underlying_of s.rights t)))
        (done_slot n (callee (sort.Value t)) (closed_done (callee (sort.Value t)) g.settles refl), function_slots n o vs r (judged_found (Some (callee (sort.Value t)) ∷ somes vs) m).1 f))
    call_by (sort.Constant t c) vs g r = placed_sound s kind.Call h i j (Some (callee (sort.Constant t c)) ∷ somes vs) refl refl refl
        (λ m f.
        let n = called t (results_of (underlying_of s.rights t)) in
        let o = parameters_of (underlying_of s.rights t) in
        closed_sound form.Call refl refl i j n _ _ (Some (callee (sort.Constant t c)) ∷ all_given (function_takes o (present (somes vs))) (somes vs)) (open_called t (results_of (underlying_of s.rights t)))
        (done_slot n (callee (sort.Constant t c)) (closed_done (callee (sort.Constant t c)) g.settles refl), function_slots n o vs r (judged_found (Some (callee (sort.Constant t c)) ∷ somes vs) m).1 f))
    call_by x vs g r = placed_sound s kind.Call h i j (Some (callee x) ∷ somes vs) refl refl refl (λ m f. cc)

  pub call_sound : (f : Part) (vs : List Part) → Sound f → AllSound vs → Sound (built_on s kind.Call h i j (call_parts (Some f ∷ somes vs)))
  call_sound (typed ff fi fj l fps) vs g r = call_by ff fi fj l.varies l.calls fps l.sort vs g r
