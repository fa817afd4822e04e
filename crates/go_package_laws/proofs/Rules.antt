-- Operators, indexes, literals and types.
use Rattle.std.proofs.Common.{◌≡◌, ℕ, Bool, true, false, cond, List, [], ◌++◌, Option, Some, None, Result, Ok, Err}
use Rattle.std.specs.Prelude.{◌&&◌, ◌||◌, ◌+◌, is_some, nat_lt, ◌^◌}
use Rattle.std.specs.Option.{option_map}
use Rattle.go_base.specs.declared.fault.FaultCode.TheVariants as code
use Rattle.go_exprs_rules.specs.Faults.{fault_at}
use Rattle.go_constants.specs.declared.values.Const.{Const}
use Rattle.go_constants.specs.declared.values.ConstFault.{ConstFault}
use Rattle.go_constants.specs.declared.values.ConstFault.TheVariants as const_fault
use Rattle.go_grammar.specs.declared.kind.Operator.{Operator}
use Rattle.go_grammar.specs.declared.kind.Operator.TheVariants as operator
use Rattle.go_grammar.specs.declared.kind.Comparison.{Comparison}
use Rattle.go_grammar.specs.declared.kind.Sign.{Sign}
use Rattle.go_types.specs.Trees.{TypeTree, array}
use Rattle.go_tokens.specs.Literals.{integer_value}
use Rattle.go_types.specs.Relations.{Rights}
use Rattle.go_types_relations.specs.Tests.{is_comparable}
use Rattle.go_types_relations.specs.Sizes.{scalars_of}
use Rattle.go_typed.specs.Trees.{Typed, typed, Typeds, sort_of, parts_of, form_of}
use Rattle.go_typed.specs.Trees as sort
use Rattle.go_exprs_rules.specs.declared.family.Family.TheVariants as family
use Rattle.go_exprs_rules.specs.Scopes.{Hint, several, type_place, loose, inside, one_inside, loose_inside, callee, statement, target, declares, free}
use Rattle.go_exprs_rules.specs.Settling.{Part, unrepresented}
use Rattle.go_exprs_rules.specs.Sorts.{Stands, is_constant, constant_of, uint, int, default_type, form_of_value, is_text, is_whole, is_negative, is_nil, element_of, array_length, slice_element, is_family, is_zero}
use Rattle.go_exprs_rules.specs.Operators.{Common, in_type, in_kind, own, common, family_in, refused, both_refuse, in_range, out_of_range, sign_family, unary_failing_in, unary_failing, unary_value, admits, divides, zero_divisor, binary_value, binary_failing_in, binary_failing, is_count, shift_failing_in, shift_failing, is_equality, compared_in, unordered, incomparable, unfit, compared_refuse, compared_failing_in, is_shift, operation_failing}
use Rattle.go_exprs_rules.specs.Indexes.{named_field, selector_failing, outside, bound_failing, optional_bound, is_greater, disordered, text_length, index_failing_in, index_failing, whole_or_absent, bounds_failing, slice_failing}
use Rattle.go_exprs_rules.specs.TypeNodes.{length_in, exceeds, over_limit, limit_failing, length_failing, sequence_failing, part_type}
use Rattle.go_exprs_rules.specs.Names.{integer_failing, not_a_value, one_value, too_many, place_failing, is_no_value, is_no_type, is_no_callee, is_no_target, is_no_statement, are_results}
use Rattle.go_package_laws.specs.Places.{EachFault}
use Rattle.go_package_laws.proofs.Parts.{Placed, PlacedThere, both, either, else_those, at_it, unrepresented_at}

module _ (q : ℕ → ℕ → Bool) (rights : Rights) (i j : ℕ) (here : q i j ≡ true) where
  -- ---- operators

  refused_at : (c : Common) (x : Part) → Placed q x → EachFault q (refused rights c x)
  refused_at (in_type t) x h = unrepresented_at q rights t x h
  refused_at (in_kind k) x h = tt

  both_at : (c : Common) (x y : Part) → Placed q x → Placed q y → EachFault q (both_refuse rights c x y)
  both_at c x y h g = both q (refused rights c x) (refused rights c y) (refused_at c x h) (refused_at c y g)

  range_at : (c : Common) (o : Option (Result Const ConstFault)) → EachFault q (out_of_range rights i j c o)
  range_at c None = tt
  range_at c (Some (Ok v)) = either q (in_range rights c v) [] _ tt (here, tt)
  range_at c (Some (Err const_fault.TooWide)) = (here, tt)
  range_at c (Some (Err e)) = tt

  unary_in : (o : Sign) (a : Stands) (c : Option Common) → EachFault q (unary_failing_in rights o i j a c)
  unary_in o a None = (here, tt)
  unary_in o a (Some c) = either q (is_family (sign_family o) (family_in rights c)) _ _ (range_at c (unary_value rights o a)) (here, tt)

  pub unary_at : (o : Sign) (a : Stands) → EachFault q (unary_failing rights o i j a)
  unary_at o a = unary_in o a (own a)

  zero_at : (o : Operator) (y : Part) → Placed q y → EachFault q (zero_divisor o y)
  zero_at o y h = either q (divides o && is_zero (constant_of (sort_of y))) _ [] (at_it q _ y h) tt

  binary_in : (o : Operator) (x y : Part) (c : Option Common) → Placed q x → Placed q y → EachFault q (binary_failing_in rights o i j x y c)
  binary_in o x y None h g = (here, tt)
  binary_in o x y (Some c) h g =
      either q (admits o (family_in rights c)) _ _
      (else_those q (both_refuse rights c x y ++ zero_divisor o y) _ (both q (both_refuse rights c x y) (zero_divisor o y) (both_at c x y h g) (zero_at o y g)) (range_at c (binary_value o (sort_of x) (sort_of y))))
      (both q (both_refuse rights c x y) _ (both_at c x y h g) (here, tt))

  shift_in : (o : Operator) (x n : Part) (c : Option Common) → Placed q n → EachFault q (shift_failing_in rights o i j x n c)
  shift_in o x n None g = (here, tt)
  shift_in o x n (Some c) g =
      either q (is_family family.Integers (family_in rights c) && is_count rights (sort_of n)) _ _ (else_those q (unrepresented rights uint n) _ (unrepresented_at q rights uint n g) (range_at c (binary_value o (sort_of x) (sort_of n)))) (here, tt)

  pub unordered_at : (c : Common) → EachFault q (unordered rights i j c)
  unordered_at c = either q (is_family family.Integers (family_in rights c) || is_family family.Texts (family_in rights c)) [] _ tt (here, tt)

  incomparable_at : (c : Common) → EachFault q (incomparable rights i j c)
  incomparable_at (in_type t) = either q (is_comparable rights t) [] _ tt (here, tt)
  incomparable_at (in_kind k) = tt

  unfit_at : (o : Comparison) (b : Bool) (c : Common) → EachFault q (unfit rights o i j b c)
  unfit_at o true c = either q (is_equality o) [] _ tt (here, tt)
  unfit_at o false c = either q (is_equality o) (incomparable rights i j c) (unordered rights i j c) (incomparable_at c) (unordered_at c)

  compared_refuse_at : (c : Common) (x y : Part) → Placed q x → Placed q y → EachFault q (compared_refuse rights c x y)
  compared_refuse_at (in_type t) x y h g = both q (unrepresented rights t x) (unrepresented rights t y) (unrepresented_at q rights t x h) (unrepresented_at q rights t y g)
  compared_refuse_at (in_kind k) x y h g =
      either q (is_constant (sort_of x) && is_constant (sort_of y)) [] _ tt (both q (unrepresented rights (default_type k) x) (unrepresented rights (default_type k) y) (unrepresented_at q rights (default_type k) x h) (unrepresented_at q rights (default_type k) y g))

  compared_in_at : (o : Comparison) (x y : Part) (c : Option Common) → Placed q x → Placed q y → EachFault q (compared_failing_in rights o i j x y c)
  compared_in_at o x y None h g = (here, tt)
  compared_in_at o x y (Some c) h g = else_those q (unfit rights o i j (is_nil (sort_of x) || is_nil (sort_of y)) c) (compared_refuse rights c x y) (unfit_at o (is_nil (sort_of x) || is_nil (sort_of y)) c) (compared_refuse_at c x y h g)

  others_at : (o : Operator) (x y : Part) → Placed q x → Placed q y → EachFault q (cond (is_shift o) (shift_failing rights o i j x y) (binary_failing rights o i j x y))
  others_at o x y h g = either q (is_shift o) (shift_failing rights o i j x y) (binary_failing rights o i j x y) (shift_in o x y (own (sort_of x)) g) (binary_in o x y (common rights (sort_of x) (sort_of y)) h g)

  pub operation_at : (o : Operator) (x y : Part) → Placed q x → Placed q y → EachFault q (operation_failing rights o i j x y)
  operation_at (operator.Compare c) x y h g = compared_in_at c x y (compared_in rights (sort_of x) (sort_of y)) h g
  operation_at (operator.Compute a) x y h g = others_at (operator.Compute a) x y h g
  operation_at operator.Either x y h g = others_at operator.Either x y h g
  operation_at operator.Both x y h g = others_at operator.Both x y h g

  -- ---- selectors, indexes and slices

  pub selector_at : (name : List ℕ) (x : Stands) → EachFault q (selector_failing rights i j name x)
  selector_at name sort.Package = tt
  selector_at name x = either q (is_some (named_field (form_of_value rights x) name)) [] (fault_at code.Operands i j) tt (here, tt)

  pub bound_at : (limit : Option ℕ) (x : Part) → Placed q x → EachFault q (bound_failing rights limit x)
  bound_at limit x h = both q (unrepresented rights int x) _ (unrepresented_at q rights int x h) (either q (outside limit (constant_of (sort_of x))) _ [] (at_it q _ x h) tt)

  optional_at : (limit : Option ℕ) (o : Option Part) → PlacedThere q o → EachFault q (optional_bound rights limit o)
  optional_at limit None h = tt
  optional_at limit (Some x) h = bound_at limit x h

  pub disordered_at : (x y : Option Part) → PlacedThere q x → EachFault q (disordered x y)
  disordered_at (Some x) (Some y) h = either q (is_greater (constant_of (sort_of x)) (constant_of (sort_of y))) _ [] (at_it q _ x h) tt
  disordered_at None y h = tt
  disordered_at (Some x) None h = tt

  index_in : (u : Option TypeTree) (n : Part) → Placed q n → EachFault q (index_failing_in rights i j u n)
  index_in u n h = either q (is_some (element_of u)) _ _ (bound_at (array_length u) n h) (here, tt)

  pub index_at : (x : Stands) (n : Part) → Placed q n → EachFault q (index_failing rights i j x n)
  index_at x n h =
      either q (is_whole rights (sort_of n)) _ _ (either q (is_text rights x) _ _ (bound_at (text_length (constant_of x)) n h) (index_in (form_of_value rights x) n h)) (here, tt)

  bounds_at : (limit : Option ℕ) (low high : Option Part) → PlacedThere q low → PlacedThere q high → EachFault q (bounds_failing rights limit low high)
  bounds_at limit low high h g =
      both q (optional_bound rights limit low ++ optional_bound rights limit high) (disordered low high)
      (both q (optional_bound rights limit low) (optional_bound rights limit high) (optional_at limit low h) (optional_at limit high g)) (disordered_at low high h)

  pub slice_at : (x : Stands) (low high : Option Part) → PlacedThere q low → PlacedThere q high → EachFault q (slice_failing rights i j x low high)
  slice_at x low high h g = either q ((is_text rights x || is_some (slice_element (form_of_value rights x))) && whole_or_absent rights low && whole_or_absent rights high) _ _ (bounds_at (option_map (λ n. n + 1) (text_length (constant_of x))) low high h g) (here, tt)

  -- ---- types

  over_at : (n : Option ℕ) (t : Option TypeTree) → EachFault q (over_limit rights i j n t)
  over_at (Some n) (Some t) = either q (exceeds (scalars_of rights (array n t))) _ [] (here, tt) tt
  over_at None t = tt
  over_at (Some n) None = tt

  limit_at : (limits : Bool) (n : Option ℕ) (t : Option TypeTree) → EachFault q (limit_failing rights limits i j n t)
  limit_at true n t = over_at n t
  limit_at false n t = tt

  length_at : (limits : Bool) (n : Part) (t : Option TypeTree) → Placed q n → EachFault q (length_failing rights limits i j n t)
  length_at limits n t h =
      either q (is_constant (sort_of n) && is_whole rights (sort_of n)) _ _
      (either q (is_negative (constant_of (sort_of n))) _ _ (at_it q _ n h) (both q (unrepresented rights int n) _ (unrepresented_at q rights int n h) (limit_at limits (length_in (constant_of (sort_of n))) t)))
      (at_it q _ n h)

  pub sequence_at : (limits : Bool) (n e : Option Part) → PlacedThere q n → EachFault q (sequence_failing rights limits i j n e)
  sequence_at limits None e h = tt
  sequence_at limits (Some n) e h = length_at limits n (part_type e) h

  -- ---- names and places

  pub integer_at : (bytes : List ℕ) → EachFault q (integer_failing i j bytes)
  integer_at bytes = either q (nat_lt (integer_value bytes) (2 ^ 127)) [] _ tt (here, tt)

  not_at : (b : Bool) → EachFault q (not_a_value b i j)
  not_at true = (here, tt)
  not_at false = tt

  one_at : (b : Bool) (s : Stands) → EachFault q (one_value b s i j)
  one_at true s = (here, tt)
  one_at false s = either q (are_results s) _ [] (here, tt) tt

  too_many_at : (b : Bool) (s : Stands) → EachFault q (too_many b s i j)
  too_many_at true s = tt
  too_many_at false s = one_at false s

  pub place_at : (h : Hint) (s : Stands) → EachFault q (place_failing rights h i j s)
  place_at several s = not_at (is_no_value rights s)
  place_at type_place s = not_at (is_no_type s)
  place_at loose s = not_at (is_no_type s)
  place_at callee s = one_at (is_no_callee rights s) s
  place_at target s = one_at (is_no_target rights s) s
  place_at statement s = not_at (is_no_statement s)
  place_at inside s = tt
  place_at one_inside s = too_many_at (is_no_value rights s) s
  place_at loose_inside s = tt
  place_at declares s = tt
  place_at free s = tt
  place_at h s = one_at (is_no_value rights s) s
