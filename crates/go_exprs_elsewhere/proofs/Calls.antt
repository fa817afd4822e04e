-- The rules on calls elsewhere.
use Rattle.std.proofs.Common.{◌≡◌, ◌∙◌, ℕ, Bool, true, false, List, [], ◌∷◌, ◌++◌, map, length, Option, Some, None, refl, ap}
use Rattle.std.specs.Prelude.{◌==◌, ◌&&◌, ◌||◌, if◌then◌else◌, nat_le, is_some}
use Rattle.std.specs.List.{list_all}
use Rattle.go_base.specs.declared.fault.FaultCode.TheVariants as code
use Rattle.go_constants.specs.declared.values.Const.{Const}
use Rattle.go_ints.specs.declared.operators.Op.{Op}
use Rattle.go_ints.specs.declared.operators.Op.TheVariants as op
use Rattle.go_tree.specs.declared.object.Predeclared.{Predeclared}
use Rattle.go_tree.specs.declared.object.Predeclared.TheVariants as predeclared
use Rattle.go_types.specs.Trees.{TypeTree, TypeRow}
use Rattle.go_types.specs.Trees as types
use Rattle.go_types.specs.Relations.{Rights}
use Rattle.go_types_relations.specs.Tests.{underlying_of}
use Rattle.go_typed.specs.Trees.{typed, sort_of}
use Rattle.go_typed.specs.Trees as sort
use Rattle.go_exprs_rules.specs.declared.family.OpenKind.{OpenKind}
use Rattle.go_exprs_rules.specs.Calls.{keeps_value, becomes_text, converts_value, operands_unless, open_conversion, value_conversion, kept_conversion, conversion_failing, conversion_take, parameters_of, row_length, all_unassignable, function_call_failing, printed, all_printed, has_elements, length_failing, sizes_failing}
use Rattle.go_exprs_rules.specs.Calls.{count_unless, make_failing, each_unassignable, append_failing_in, append_failing, copies, copy_failing, panic_failing, builtin_failing, length_sort, made_sort, appended_sort, builtin_sort, appended_takes, builtin_takes, one_conversion, call_failing, converted_sort, call_sort, function_takes, call_takes}
use Rattle.go_exprs_rules.specs.Calls.{met, all_met, meeting, are_constants, each_unrepresented, extreme_refuse, extreme_failing_in, extreme_failing, better, extreme_behind, extreme_value, extreme_in, extreme_sort, extreme_take_in, extreme_take}
use Rattle.go_exprs_rules.specs.Faults.{fault_at, or_else}
use Rattle.go_exprs_rules.specs.Indexes.{bound_failing, disordered}
use Rattle.go_exprs_rules.specs.Operators.{Common, in_type, in_kind, own, unordered}
use Rattle.go_exprs_rules.specs.Settling.{Part, unrepresented, undefaulted, unassignable, Take, stay, default, as_type}
use Rattle.go_exprs_rules.specs.Sorts.{Stands, family_of, is_whole, is_text, named_type, constant_of, open_kind, is_constant, underlying_in, form_of_value, value_type, suits, has_nil, slice_element, represents, default_type, int}
use Rattle.go_exprs_elsewhere.specs.Elsewhere.{Moves, placed}
use Rattle.go_exprs_elsewhere.proofs.Indexes.{bound_kept, disordered_kept}
use Rattle.go_exprs_elsewhere.proofs.Operators.{unordered_kept}
use Rattle.go_exprs_elsewhere.proofs.Parts.{fails, every, sort_kept, count_kept, either, either_of, both, or_else_kept, map_kept, all_kept}
use Rattle.go_exprs_elsewhere.proofs.Settling.{unrepresented_kept, undefaulted_kept, unassignable_kept}

module _ (m : Moves) (rights : Rights) where
  -- ---- conversions

  operands_kept : (b : Bool) (i j : ℕ) → operands_unless b (m.token i) (m.token j) ≡ fails m (operands_unless b i j)
  operands_kept true i j = refl
  operands_kept false i j = refl

  open_kept : (i j : ℕ) (t : TypeTree) (x : Part) (o : Option OpenKind) → open_conversion rights (m.token i) (m.token j) t (placed m x) o ≡ fails m (open_conversion rights i j t x o)
  open_kept i j t x None = refl
  open_kept i j t x (Some k) = either_of m (suits rights k t) (unrepresented rights t (placed m x)) (fault_at code.Operands (m.token i) (m.token j)) (unrepresented rights t x) (fault_at code.Operands i j) (unrepresented_kept m rights t x) refl

  value_kept : (i j : ℕ) (t : TypeTree) (x : Part) (s : Stands) → value_conversion rights (m.token i) (m.token j) t (placed m x) s ≡ fails m (value_conversion rights i j t x s)
  value_kept i j t x sort.Nil = operands_kept (has_nil (underlying_of rights t)) i j
  value_kept i j t x (sort.Open u) = open_kept i j t x (open_kind (sort.Open u))
  value_kept i j t x s = operands_kept (converts_value rights t (value_type s) (is_constant s)) i j

  kept_kept : (t : TypeTree) (x : Part) (c : Option Const) → kept_conversion rights t (placed m x) c ≡ fails m (kept_conversion rights t x c)
  kept_kept t x None = refl
  kept_kept t (typed f i j l ps) (Some c) = either m (represents rights t c) [] (fault_at code.Representable i j)

  conversion_kept : (i j : ℕ) (t : TypeTree) (x : Part) → conversion_failing rights (m.token i) (m.token j) t (placed m x) ≡ fails m (conversion_failing rights i j t x)
  conversion_kept i j t (typed f a b l ps) =
      let x = typed f a b l ps in
      let c = constant_of l.sort in
      either_of m (keeps_value rights t c)
      (kept_conversion rights t (placed m x) c) (if becomes_text rights t c then undefaulted rights (placed m x) else value_conversion rights (m.token i) (m.token j) t (placed m x) l.sort)
      (kept_conversion rights t x c) (if becomes_text rights t c then undefaulted rights x else value_conversion rights i j t x l.sort)
      (kept_kept t x c)
      (either_of m (becomes_text rights t c) (undefaulted rights (placed m x)) (value_conversion rights (m.token i) (m.token j) t (placed m x) l.sort) (undefaulted rights x) (value_conversion rights i j t x l.sort) (undefaulted_kept m rights x) (value_kept i j t x l.sort))

  -- ---- calls of functions

  pub all_unassignable_kept : (ts : TypeRow) (xs : List Part) → all_unassignable rights ts (every m xs) ≡ fails m (all_unassignable rights ts xs)
  all_unassignable_kept types.none xs = refl
  all_unassignable_kept (types.more t ts) [] = refl
  all_unassignable_kept (types.more t ts) (x ∷ xs) =
      both m (unassignable rights t (placed m x)) (all_unassignable rights ts (every m xs)) (unassignable rights t x) (all_unassignable rights ts xs) (unassignable_kept m rights t x) (all_unassignable_kept ts xs)

  function_kept : (i j : ℕ) (o : Option TypeRow) (xs : List Part) → function_call_failing rights (m.token i) (m.token j) o (every m xs) ≡ fails m (function_call_failing rights i j o xs)
  function_kept i j None xs = refl
  function_kept i j (Some ps) xs =
      ap (λ n. if row_length ps == n then all_unassignable rights ps (every m xs) else fault_at code.Count (m.token i) (m.token j)) (count_kept m xs)
      ∙ either_of m (row_length ps == length xs) (all_unassignable rights ps (every m xs)) (fault_at code.Count (m.token i) (m.token j)) (all_unassignable rights ps xs) (fault_at code.Count i j) (all_unassignable_kept ps xs) refl

  -- ---- predeclared functions

  printed_kept : (i j : ℕ) (x : Part) → printed rights (m.token i) (m.token j) (placed m x) ≡ fails m (printed rights i j x)
  printed_kept i j (typed f a b l ps) =
      let x = typed f a b l ps in
      either_of m (is_some (family_of rights l.sort)) (undefaulted rights (placed m x)) (fault_at code.Operands (m.token i) (m.token j)) (undefaulted rights x) (fault_at code.Operands i j) (undefaulted_kept m rights x) refl

  all_printed_kept : (i j : ℕ) (xs : List Part) → all_printed rights (m.token i) (m.token j) (every m xs) ≡ fails m (all_printed rights i j xs)
  all_printed_kept i j [] = refl
  all_printed_kept i j (x ∷ xs) = both m (printed rights (m.token i) (m.token j) (placed m x)) (all_printed rights (m.token i) (m.token j) (every m xs)) (printed rights i j x) (all_printed rights i j xs) (printed_kept i j x) (all_printed_kept i j xs)

  length_kept : (i j : ℕ) (b : Bool) (xs : List Part) → length_failing rights (m.token i) (m.token j) b (every m xs) ≡ fails m (length_failing rights i j b xs)
  length_kept i j b [] = refl
  length_kept i j b (typed f x y l ps ∷ []) = operands_kept ((b && is_text rights l.sort) || has_elements rights l.sort) i j
  length_kept i j b (x ∷ y ∷ xs) = refl

  sizes_kept : (xs : List Part) → sizes_failing rights (every m xs) ≡ fails m (sizes_failing rights xs)
  sizes_kept [] = refl
  sizes_kept (x ∷ []) = bound_kept m rights None x
  sizes_kept (x ∷ y ∷ []) =
      both m (bound_failing rights None (placed m x) ++ bound_failing rights None (placed m y)) (disordered (Some (placed m x)) (Some (placed m y))) (bound_failing rights None x ++ bound_failing rights None y) (disordered (Some x) (Some y))
      (both m (bound_failing rights None (placed m x)) (bound_failing rights None (placed m y)) (bound_failing rights None x) (bound_failing rights None y) (bound_kept m rights None x) (bound_kept m rights None y))
      (disordered_kept m rights (Some x) (Some y))
  sizes_kept (x ∷ y ∷ z ∷ xs) =
      both m (bound_failing rights None (placed m x)) (bound_failing rights None (placed m y)) (bound_failing rights None x) (bound_failing rights None y) (bound_kept m rights None x) (bound_kept m rights None y)

  counted_kept : (b : Bool) (i j : ℕ) → count_unless b (m.token i) (m.token j) ≡ fails m (count_unless b i j)
  counted_kept true i j = refl
  counted_kept false i j = refl

  abbrev are_whole : List Part → Bool
  are_whole xs = list_all (λ n. is_whole rights (sort_of n)) xs

  made_kept : (i j : ℕ) (s : Stands) (xs : List Part)
      → (count_unless (nat_le 1 (length (every m xs)) && nat_le (length (every m xs)) 2) (m.token i) (m.token j)
      ++ (if is_some (slice_element (underlying_in rights (named_type s))) && are_whole (every m xs) then sizes_failing rights (every m xs) else fault_at code.Operands (m.token i) (m.token j)))
      ≡ fails m (count_unless (nat_le 1 (length xs) && nat_le (length xs) 2) i j
      ++ (if is_some (slice_element (underlying_in rights (named_type s))) && are_whole xs then sizes_failing rights xs else fault_at code.Operands i j))
  made_kept i j s xs =
      let b : Bool = is_some (slice_element (underlying_in rights (named_type s))) in
      both m (count_unless (nat_le 1 (length (every m xs)) && nat_le (length (every m xs)) 2) (m.token i) (m.token j)) (if b && are_whole (every m xs) then sizes_failing rights (every m xs) else fault_at code.Operands (m.token i) (m.token j))
      (count_unless (nat_le 1 (length xs) && nat_le (length xs) 2) i j) (if b && are_whole xs then sizes_failing rights xs else fault_at code.Operands i j)
      (ap (λ n. count_unless (nat_le 1 n && nat_le n 2) (m.token i) (m.token j)) (count_kept m xs) ∙ counted_kept (nat_le 1 (length xs) && nat_le (length xs) 2) i j)
      (ap (λ c. if b && c then sizes_failing rights (every m xs) else fault_at code.Operands (m.token i) (m.token j)) (all_kept m (λ n. is_whole rights (sort_of n)) (λ x. ap (is_whole rights) (sort_kept m x)) xs)
      ∙ either_of m (b && are_whole xs) (sizes_failing rights (every m xs)) (fault_at code.Operands (m.token i) (m.token j)) (sizes_failing rights xs) (fault_at code.Operands i j) (sizes_kept xs) refl)

  make_kept : (i j : ℕ) (xs : List Part) → make_failing rights (m.token i) (m.token j) (every m xs) ≡ fails m (make_failing rights i j xs)
  make_kept i j [] = refl
  make_kept i j (typed f a b l ps ∷ xs) = made_kept i j l.sort xs

  pub each_unassignable_kept : (t : TypeTree) (xs : List Part) → each_unassignable rights t (every m xs) ≡ fails m (each_unassignable rights t xs)
  each_unassignable_kept t [] = refl
  each_unassignable_kept t (x ∷ xs) =
      both m (unassignable rights t (placed m x)) (each_unassignable rights t (every m xs)) (unassignable rights t x) (each_unassignable rights t xs) (unassignable_kept m rights t x) (each_unassignable_kept t xs)

  append_in_kept : (i j : ℕ) (o : Option TypeTree) (xs : List Part) → append_failing_in rights (m.token i) (m.token j) o (every m xs) ≡ fails m (append_failing_in rights i j o xs)
  append_in_kept i j None xs = refl
  append_in_kept i j (Some t) xs = each_unassignable_kept t xs

  append_kept : (i j : ℕ) (xs : List Part) → append_failing rights (m.token i) (m.token j) (every m xs) ≡ fails m (append_failing rights i j xs)
  append_kept i j [] = refl
  append_kept i j (typed f a b l ps ∷ xs) = append_in_kept i j (slice_element (form_of_value rights l.sort)) xs

  copy_kept : (i j : ℕ) (xs : List Part) → copy_failing rights (m.token i) (m.token j) (every m xs) ≡ fails m (copy_failing rights i j xs)
  copy_kept i j [] = refl
  copy_kept i j (x ∷ []) = refl
  copy_kept i j (typed f a b k ps ∷ typed g c d l qs ∷ []) = operands_kept (copies rights (slice_element (form_of_value rights k.sort)) l.sort) i j
  copy_kept i j (x ∷ y ∷ z ∷ xs) = refl

  panic_kept : (i j : ℕ) (xs : List Part) → panic_failing rights (m.token i) (m.token j) (every m xs) ≡ fails m (panic_failing rights i j xs)
  panic_kept i j [] = refl
  panic_kept i j (x ∷ []) = printed_kept i j x
  panic_kept i j (x ∷ y ∷ xs) = refl

  -- ---- `min` and `max`

  all_met_kept : (c : Option Common) (xs : List Part) → all_met rights c (every m xs) ≡ all_met rights c xs
  all_met_kept c [] = refl
  all_met_kept c (typed f i j l ps ∷ xs) = all_met_kept (met rights c (own l.sort)) xs

  meeting_kept : (xs : List Part) → meeting rights (every m xs) ≡ meeting rights xs
  meeting_kept [] = refl
  meeting_kept (typed f i j l ps ∷ xs) = all_met_kept (own l.sort) xs

  constants_kept : (xs : List Part) → are_constants (every m xs) ≡ are_constants xs
  constants_kept xs = all_kept m (λ x. is_constant (sort_of x)) (λ x. ap is_constant (sort_kept m x)) xs

  each_unrepresented_kept : (t : TypeTree) (xs : List Part) → each_unrepresented rights t (every m xs) ≡ fails m (each_unrepresented rights t xs)
  each_unrepresented_kept t [] = refl
  each_unrepresented_kept t (x ∷ xs) =
      both m (unrepresented rights t (placed m x)) (each_unrepresented rights t (every m xs)) (unrepresented rights t x) (each_unrepresented rights t xs) (unrepresented_kept m rights t x) (each_unrepresented_kept t xs)

  extreme_refuse_kept : (b : Bool) (c : Common) (xs : List Part) → extreme_refuse rights b c (every m xs) ≡ fails m (extreme_refuse rights b c xs)
  extreme_refuse_kept b (in_type t) xs = each_unrepresented_kept t xs
  extreme_refuse_kept b (in_kind k) xs =
      let t = default_type k in
      either_of m b [] (each_unrepresented rights t (every m xs)) [] (each_unrepresented rights t xs) refl (each_unrepresented_kept t xs)

  extreme_in_kept : (i j : ℕ) (xs : List Part) (c : Option Common) → extreme_failing_in rights (m.token i) (m.token j) (every m xs) c ≡ fails m (extreme_failing_in rights i j xs c)
  extreme_in_kept i j xs None = refl
  extreme_in_kept i j xs (Some c) =
      ap (λ b. or_else (unordered rights (m.token i) (m.token j) c) (extreme_refuse rights b c (every m xs))) (constants_kept xs)
      ∙ or_else_kept m (unordered rights (m.token i) (m.token j) c) (extreme_refuse rights (are_constants xs) c (every m xs)) (unordered rights i j c) (extreme_refuse rights (are_constants xs) c xs)
      (unordered_kept m rights i j c) (extreme_refuse_kept (are_constants xs) c xs)

  extreme_kept : (i j : ℕ) (xs : List Part) → extreme_failing rights (m.token i) (m.token j) (every m xs) ≡ fails m (extreme_failing rights i j xs)
  extreme_kept i j [] = refl
  extreme_kept i j (x ∷ xs) = ap (extreme_failing_in rights (m.token i) (m.token j) (every m (x ∷ xs))) (meeting_kept (x ∷ xs)) ∙ extreme_in_kept i j (x ∷ xs) (meeting rights (x ∷ xs))

  -- ---- all of them

  builtin_kept : (i j : ℕ) (p : Predeclared) (xs : List Part) → builtin_failing rights (m.token i) (m.token j) p (every m xs) ≡ fails m (builtin_failing rights i j p xs)
  builtin_kept i j predeclared.Len xs = length_kept i j true xs
  builtin_kept i j predeclared.Cap xs = length_kept i j false xs
  builtin_kept i j predeclared.Make xs = make_kept i j xs
  builtin_kept i j predeclared.Append xs = append_kept i j xs
  builtin_kept i j predeclared.Copy xs = copy_kept i j xs
  builtin_kept i j predeclared.Panic xs = panic_kept i j xs
  builtin_kept i j predeclared.Min xs = extreme_kept i j xs
  builtin_kept i j predeclared.Max xs = extreme_kept i j xs
  builtin_kept i j p xs = refl

  one_kept : (i j : ℕ) (t : TypeTree) (xs : List Part) → one_conversion rights (m.token i) (m.token j) t (every m xs) ≡ fails m (one_conversion rights i j t xs)
  one_kept i j t [] = refl
  one_kept i j t (x ∷ []) = conversion_kept i j t x
  one_kept i j t (x ∷ y ∷ xs) = refl

  pub call_kept : (i j : ℕ) (f : Stands) (xs : List Part) → call_failing rights (m.token i) (m.token j) f (every m xs) ≡ fails m (call_failing rights i j f xs)
  call_kept i j (sort.IsType t) xs = one_kept i j t xs
  call_kept i j (sort.Builtin p) xs = builtin_kept i j p xs
  call_kept i j sort.Println xs = all_printed_kept i j xs
  call_kept i j f xs = function_kept i j (parameters_of (form_of_value rights f)) xs

  -- ---- what they stand for

  length_sort_kept : (xs : List Part) → length_sort rights (every m xs) ≡ length_sort rights xs
  length_sort_kept [] = refl
  length_sort_kept (typed f i j l ps ∷ xs) = refl

  made_sort_kept : (xs : List Part) → made_sort (every m xs) ≡ made_sort xs
  made_sort_kept [] = refl
  made_sort_kept (typed f i j l ps ∷ xs) = refl

  appended_sort_kept : (xs : List Part) → appended_sort (every m xs) ≡ appended_sort xs
  appended_sort_kept [] = refl
  appended_sort_kept (typed f i j l ps ∷ xs) = refl

  extreme_behind_kept : (o : Op) (c : Option Const) (xs : List Part) → extreme_behind o c (every m xs) ≡ extreme_behind o c xs
  extreme_behind_kept o c [] = refl
  extreme_behind_kept o c (typed f i j l ps ∷ xs) = extreme_behind_kept o (better o c (constant_of l.sort)) xs

  extreme_value_kept : (o : Op) (xs : List Part) → extreme_value o (every m xs) ≡ extreme_value o xs
  extreme_value_kept o [] = refl
  extreme_value_kept o (typed f i j l ps ∷ xs) = extreme_behind_kept o (constant_of l.sort) xs

  extreme_sort_kept : (o : Op) (xs : List Part) → extreme_sort rights o (every m xs) ≡ extreme_sort rights o xs
  extreme_sort_kept o xs = ap (λ c. extreme_in c (extreme_value o (every m xs))) (meeting_kept xs) ∙ ap (extreme_in (meeting rights xs)) (extreme_value_kept o xs)

  builtin_sort_kept : (p : Predeclared) (xs : List Part) → builtin_sort rights p (every m xs) ≡ builtin_sort rights p xs
  builtin_sort_kept predeclared.Len xs = length_sort_kept xs
  builtin_sort_kept predeclared.Cap xs = length_sort_kept xs
  builtin_sort_kept predeclared.Make xs = made_sort_kept xs
  builtin_sort_kept predeclared.Append xs = appended_sort_kept xs
  builtin_sort_kept predeclared.Copy xs = refl
  builtin_sort_kept predeclared.Panic xs = refl
  builtin_sort_kept predeclared.Min xs = extreme_sort_kept op.Min xs
  builtin_sort_kept predeclared.Max xs = extreme_sort_kept op.Max xs
  builtin_sort_kept p xs = refl

  converted_kept : (t : TypeTree) (xs : List Part) → converted_sort rights t (every m xs) ≡ converted_sort rights t xs
  converted_kept t [] = refl
  converted_kept t (typed f i j l ps ∷ xs) = refl

  pub call_sort_kept : (f : Stands) (xs : List Part) → call_sort rights f (every m xs) ≡ call_sort rights f xs
  call_sort_kept (sort.IsType t) xs = converted_kept t xs
  call_sort_kept (sort.Builtin p) xs = builtin_sort_kept p xs
  call_sort_kept sort.Println xs = refl
  call_sort_kept f xs = refl

  -- ---- what their arguments take

  same_takes : (k : Take) (xs : List Part) → map (λ (x : Part). k) (every m xs) ≡ map (λ (x : Part). k) xs
  same_takes k xs = map_kept m (λ (x : Part). k) (λ x. refl) xs

  appended_takes_kept : (o : Option TypeTree) (xs : List Part) → appended_takes o (every m xs) ≡ appended_takes o xs
  appended_takes_kept (Some t) xs = ap (λ ks. stay ∷ ks) (same_takes (as_type t) xs)
  appended_takes_kept None xs = ap (λ ks. stay ∷ ks) (same_takes default xs)

  extreme_take_kept : (xs : List Part) → extreme_take rights (every m xs) ≡ extreme_take rights xs
  extreme_take_kept xs = ap (λ b. extreme_take_in b (meeting rights (every m xs))) (constants_kept xs) ∙ ap (extreme_take_in (are_constants xs)) (meeting_kept xs)

  extreme_takes_kept : (xs : List Part) → map (λ (y : Part). extreme_take rights (every m xs)) (every m xs) ≡ map (λ (y : Part). extreme_take rights xs) xs
  extreme_takes_kept xs = ap (λ k. map (λ (y : Part). k) (every m xs)) (extreme_take_kept xs) ∙ same_takes (extreme_take rights xs) xs

  builtin_takes_kept : (p : Predeclared) (xs : List Part) → builtin_takes rights p (every m xs) ≡ builtin_takes rights p xs
  builtin_takes_kept p [] = refl
  builtin_takes_kept predeclared.Make (x ∷ xs) = ap (λ ks. stay ∷ ks) (same_takes (as_type int) xs)
  builtin_takes_kept predeclared.Append (typed f i j l ps ∷ xs) = appended_takes_kept (slice_element (form_of_value rights l.sort)) xs
  builtin_takes_kept predeclared.Min (x ∷ xs) = extreme_takes_kept (x ∷ xs)
  builtin_takes_kept predeclared.Max (x ∷ xs) = extreme_takes_kept (x ∷ xs)
  builtin_takes_kept p (x ∷ xs) = same_takes default (x ∷ xs)

  function_takes_kept : (o : Option TypeRow) (xs : List Part) → function_takes o (every m xs) ≡ function_takes o xs
  function_takes_kept (Some ps) xs = refl
  function_takes_kept None xs = same_takes default xs

  pub call_takes_kept : (f : Stands) (xs : List Part) → call_takes rights f (every m xs) ≡ call_takes rights f xs
  call_takes_kept (sort.IsType t) xs = map_kept m (λ x. conversion_take rights t (sort_of x)) (λ x. ap (conversion_take rights t) (sort_kept m x)) xs
  call_takes_kept (sort.Builtin p) xs = builtin_takes_kept p xs
  call_takes_kept f xs = function_takes_kept (parameters_of (form_of_value rights f)) xs
