-- Calls that no rule refuses stand for something known.
use Rattle.std.proofs.Common.{◌≡◌, ℕ, Bool, true, false, cond, [], ◌∷◌, List, length, Option, Some, None, Ok, Err, ℤ, refl, sym, ap, subst, nat_le}
use Rattle.std.specs.Prelude.{◌&&◌, is_some}
use Rattle.std.specs.List.{list_all}
use Rattle.go_base.specs.declared.fault.FaultCode.TheVariants as code
use Rattle.go_constants.specs.declared.values.Const.{Const}
use Rattle.go_constants.specs.declared.values.Const.TheVariants as const
use Rattle.go_constants.specs.declared.values.ConstFault.TheVariants as const_fault
use Rattle.go_constants.specs.declared.values.ConstOp.TheVariants as const_op
use Rattle.go_constants.specs.Folding.{folded, whole_const, is_untyped_number, rune_mark, least_text, greatest_text}
use Rattle.go_ints.specs.Arithmetic.{exact}
use Rattle.go_ints.specs.declared.operators.Op.{Op}
use Rattle.go_ints.specs.declared.operators.Op.TheVariants as op
use Rattle.go_tree.specs.declared.object.Predeclared.{Predeclared}
use Rattle.go_tree.specs.declared.object.Predeclared.TheVariants as predeclared
use Rattle.go_types.specs.Trees.{TypeTree, TypeRow}
use Rattle.go_types.specs.Trees as types
use Rattle.go_types.specs.Relations.{Rights}
use Rattle.go_types_relations.specs.Tests.{underlying_of}
use Rattle.go_typed.specs.Trees.{sort_of}
use Rattle.go_typed.specs.Trees as sort
use Rattle.go_exprs_rules.specs.Calls.{keeps_value, becomes_text, text_of, constant_or_value, conversion_sort, converted_sort, one_conversion, parameters_of, results_of, called, function_call_failing, function_call_sort, length_failing, constant_length, length_value, length_sort, make_failing, count_unless, sizes_failing, made_sort, append_failing_in, append_failing, appended_sort, met, all_met, meeting, extreme_failing_in, extreme_failing, extreme_in, value_there, better, extreme_behind, extreme_value, extreme_sort, builtin_failing, builtin_sort, call_failing, call_sort}
use Rattle.go_exprs_rules.specs.Faults.{fault_at}
use Rattle.go_exprs_rules.specs.Indexes.{value_or_unknown}
use Rattle.go_exprs_rules.specs.Operators.{Common, in_type, in_kind, family_in, own, folded_both}
use Rattle.go_exprs_rules.specs.Settling.{Part}
use Rattle.go_exprs_rules.specs.Sorts.{Stands, family_of_const, constant_of, own_type, named_type, underlying_in, form_of_value, slice_element, is_whole}
use Rattle.go_stmts_final_types.specs.Names.{KeepsFamily}
use Rattle.go_stmts_final_types.proofs.Families.{InFamily, own_family, met_both}
use Rattle.go_stmts_final_types.proofs.Nodes.{and_first}
use Rattle.go_stmts_final_types.proofs.Results.{Stood}
use Rattle.go_stmts_final_types.proofs.Tests.{holds, second_none}
use Rattle.go_exprs_rules.specs.Sorts.{is_family}

abbrev pub AllKeep : Rights → List Part → Type 0
AllKeep rights [] = Unit {0}
AllKeep rights (x ∷ xs) = KeepsFamily rights (sort_of x) × AllKeep rights xs

-- ---- conversions

conversion_stood : (rights : Rights) (t : TypeTree) (x : Stands) → Stood rights (conversion_sort rights t x)
conversion_stood rights t x = by (constant_of x)
  where
    texts : (c : Option Const) (b : Bool) → becomes_text rights t c ≡ b → Stood rights (cond b (sort.Constant t (const.Text (text_of c))) (sort.Value t))
    texts (Some (const.Int z r)) true e = record { fit = refl; family = e }
    texts (Some (const.Bool v)) true e = cc
    texts (Some (const.Text v)) true e = cc
    texts None true e = cc
    texts c false e = record { fit = refl; family = tt }

    kept : (c : Option Const) (b : Bool) → keeps_value rights t c ≡ b → Stood rights (cond b (constant_or_value t c) (cond (becomes_text rights t c) (sort.Constant t (const.Text (text_of c))) (sort.Value t)))
    kept (Some c) true e = record { fit = refl; family = e }
    kept None true e = record { fit = refl; family = tt }
    kept c false e = texts c (becomes_text rights t c) refl

    by : (c : Option Const) → Stood rights (cond (keeps_value rights t c) (constant_or_value t c) (cond (becomes_text rights t c) (sort.Constant t (const.Text (text_of c))) (sort.Value t)))
    by c = kept c (keeps_value rights t c) refl

converted_stood : (rights : Rights) (i j : ℕ) (t : TypeTree) (xs : List Part) → one_conversion rights i j t xs ≡ [] → Stood rights (converted_sort rights t xs)
converted_stood rights i j t [] e = cc
converted_stood rights i j t (x ∷ []) e = conversion_stood rights t (sort_of x)
converted_stood rights i j t (x ∷ y ∷ xs) e = cc

-- ---- functions

called_stood : (rights : Rights) (t : TypeTree) (rs : TypeRow) → Stood rights (called t rs)
called_stood rights t types.none = record { fit = refl; family = tt }
called_stood rights t (types.more r types.none) = record { fit = refl; family = tt }
called_stood rights t (types.more r (types.more q rs)) = record { fit = refl; family = tt }

function_stood : (rights : Rights) (i j : ℕ) (f : Stands) (xs : List Part) → function_call_failing rights i j (parameters_of (form_of_value rights f)) xs ≡ [] → Stood rights (function_call_sort rights (own_type f))
function_stood rights i j f xs e = by (own_type f) e
  where
    by : (o : Option TypeTree) → function_call_failing rights i j (parameters_of (underlying_in rights o)) xs ≡ [] → Stood rights (function_call_sort rights o)
    by None e = cc
    by (Some t) e = called_stood rights t (results_of (underlying_of rights t))

-- ---- predeclared functions

length_value_stood : (rights : Rights) (o : Option ℕ) → Stood rights (length_value o)
length_value_stood rights None = record { fit = refl; family = tt }
length_value_stood rights (Some n) = record { fit = refl; family = refl }

length_stood : (rights : Rights) (i j : ℕ) (texts : Bool) (xs : List Part) → length_failing rights i j texts xs ≡ [] → Stood rights (length_sort rights xs)
length_stood rights i j texts [] e = cc
length_stood rights i j texts (x ∷ []) e = length_value_stood rights (constant_length rights x)
length_stood rights i j texts (x ∷ y ∷ xs) e = cc

sliced_stood : (rights : Rights) (o : Option TypeTree) → is_some (slice_element (underlying_in rights o)) ≡ true → Stood rights (value_or_unknown o)
sliced_stood rights (Some t) e = record { fit = refl; family = tt }
sliced_stood rights None e = cc

made_stood : (rights : Rights) (i j : ℕ) (xs : List Part) → make_failing rights i j xs ≡ [] → Stood rights (made_sort xs)
made_stood rights i j [] e = cc
made_stood rights i j (x ∷ xs) e =
    let sliced = is_some (slice_element (underlying_in rights (named_type (sort_of x)))) in
    let test = sliced && list_all (λ n. is_whole rights (sort_of n)) xs in
    let r = second_none (count_unless (nat_le 1 (length xs) && nat_le (length xs) 2) i j) (cond test (sizes_failing rights xs) (fault_at code.Operands i j)) e in
    sliced_stood rights (named_type (sort_of x)) (and_first sliced (list_all (λ n. is_whole rights (sort_of n)) xs) (holds test (sizes_failing rights xs) _ r).0)

appended_in : (rights : Rights) (i j : ℕ) (o : Option TypeTree) (xs : List Part) → append_failing_in rights i j o xs ≡ [] → is_some o ≡ true
appended_in rights i j (Some t) xs e = refl
appended_in rights i j None xs e = cc

appended_stood : (rights : Rights) (i j : ℕ) (xs : List Part) → append_failing rights i j xs ≡ [] → Stood rights (appended_sort xs)
appended_stood rights i j [] e = cc
appended_stood rights i j (x ∷ xs) e = sliced_stood rights (own_type (sort_of x)) (appended_in rights i j (slice_element (form_of_value rights (sort_of x))) xs e)

-- ---- `min` and `max`

-- the value of two is of the first one's family
abbrev IsBest : Op → Type 0
IsBest o = (a b r : Const) → value_there (Some (folded (const_op.Arith o) a b)) ≡ Some r → family_of_const r ≡ family_of_const a

best_whole : (b : Bool) (z : ℤ) (rune : Bool) (r : Const) → value_there (Some (whole_const (cond b (Ok z) (Err const_fault.TooWide)) rune)) ≡ Some r → family_of_const r ≡ family_of_const (const.Int z rune)
best_whole true z rune r e = let same : const.Int z rune ≡ r = cc in ap family_of_const (sym same)
best_whole false z rune r e = cc

least_best : IsBest op.Min
least_best (const.Int x l) (const.Int y m) r e = best_whole (is_untyped_number (exact op.Min x y)) (exact op.Min x y) (rune_mark op.Min l m) r e
least_best (const.Text a) (const.Text b) r e = let same : const.Text (least_text a b) ≡ r = cc in ap family_of_const (sym same)
least_best (const.Bool a) (const.Bool b) r e = cc
least_best (const.Int x l) b r e = cc
least_best (const.Text a) b r e = cc
least_best (const.Bool a) b r e = cc

greatest_best : IsBest op.Max
greatest_best (const.Int x l) (const.Int y m) r e = best_whole (is_untyped_number (exact op.Max x y)) (exact op.Max x y) (rune_mark op.Max l m) r e
greatest_best (const.Text a) (const.Text b) r e = let same : const.Text (greatest_text a b) ≡ r = cc in ap family_of_const (sym same)
greatest_best (const.Bool a) (const.Bool b) r e = cc
greatest_best (const.Int x l) b r e = cc
greatest_best (const.Text a) b r e = cc
greatest_best (const.Bool a) b r e = cc

-- a value is of the family in which those so far meet
abbrev IsAmong : Rights → Option Common → Option Const → Type 0
IsAmong rights c a = (p : Common) (v : Const) → c ≡ Some p → a ≡ Some v → InFamily rights p v

module _ (rights : Rights) (o : Op) (best : IsBest o) where
  next_among : (c : Option Common) (a : Option Const) (x : Stands) → IsAmong rights c a → KeepsFamily rights x → IsAmong rights (met rights c (own x)) (better o a (constant_of x))
  next_among c a x g k p v m e = by a (constant_of x) refl e
    where
      by : (q w : Option Const) → a ≡ q → value_there (folded_both (const_op.Arith o) q w) ≡ Some v → InFamily rights p v
      by (Some q) (Some w) n e =
          let h = met_both rights c (own x) p m in
          subst (λ f. is_family f (family_in rights p) ≡ true) (sym (best q w v e)) (subst (λ f. is_family (family_of_const q) f ≡ true) h.4.0 (g h.0 q h.2 n))
      by (Some q) None n e = cc
      by None w n e = cc

  among : (c : Option Common) (a : Option Const) (xs : List Part) → IsAmong rights c a → AllKeep rights xs → IsAmong rights (all_met rights c xs) (extreme_behind o a xs)
  among c a [] g k = g
  among c a (x ∷ xs) g k = among (met rights c (own (sort_of x))) (better o a (constant_of (sort_of x))) xs (next_among c a (sort_of x) g k.0) k.1

  extreme_in_stood : (c : Common) (v : Option Const) → ((w : Const) → v ≡ Some w → InFamily rights c w) → Stood rights (extreme_in (Some c) v)
  extreme_in_stood (in_type t) (Some w) g = record { fit = refl; family = g w refl }
  extreme_in_stood (in_kind k) (Some w) g = record { fit = refl; family = tt }
  extreme_in_stood c None g = record { fit = refl; family = tt }

  extreme_stood : (i j : ℕ) (xs : List Part) → AllKeep rights xs → extreme_failing rights i j xs ≡ [] → Stood rights (extreme_sort rights o xs)
  extreme_stood i j [] k e = cc
  extreme_stood i j (x ∷ xs) k e = by (meeting rights (x ∷ xs)) refl e
    where
      by : (c : Option Common) → meeting rights (x ∷ xs) ≡ c → extreme_failing_in rights i j (x ∷ xs) c ≡ [] → Stood rights (extreme_in c (extreme_value o (x ∷ xs)))
      by None m e = cc
      by (Some c) m e = extreme_in_stood c (extreme_value o (x ∷ xs)) (λ w n. among (own (sort_of x)) (constant_of (sort_of x)) xs (λ p v u z. own_family rights (sort_of x) p v u z k.0) k.1 c w m n)

-- ---- all of them

builtin_stood : (rights : Rights) (i j : ℕ) (p : Predeclared) (xs : List Part) → AllKeep rights xs → builtin_failing rights i j p xs ≡ [] → Stood rights (builtin_sort rights p xs)
builtin_stood rights i j predeclared.Len xs k e = length_stood rights i j true xs e
builtin_stood rights i j predeclared.Cap xs k e = length_stood rights i j false xs e
builtin_stood rights i j predeclared.Make xs k e = made_stood rights i j xs e
builtin_stood rights i j predeclared.Append xs k e = appended_stood rights i j xs e
builtin_stood rights i j predeclared.Copy xs k e = record { fit = refl; family = tt }
builtin_stood rights i j predeclared.Panic xs k e = record { fit = refl; family = tt }
builtin_stood rights i j predeclared.Min xs k e = extreme_stood rights op.Min least_best i j xs k e
builtin_stood rights i j predeclared.Max xs k e = extreme_stood rights op.Max greatest_best i j xs k e
builtin_stood rights i j p xs k e = cc

pub call_stood : (rights : Rights) (i j : ℕ) (f : Stands) (xs : List Part) → AllKeep rights xs → call_failing rights i j f xs ≡ [] → Stood rights (call_sort rights f xs)
call_stood rights i j (sort.IsType t) xs k e = converted_stood rights i j t xs e
call_stood rights i j (sort.Builtin p) xs k e = builtin_stood rights i j p xs k e
call_stood rights i j sort.Println xs k e = record { fit = refl; family = tt }
call_stood rights i j f xs k e = function_stood rights i j f xs e
