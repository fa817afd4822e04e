-- The rules on selectors, index and slice expressions elsewhere.
use Rattle.std.proofs.Common.{◌≡◌, ◌∙◌, ℕ, ◌+◌, Bool, List, [], ◌++◌, Option, Some, None, refl, ap}
use Rattle.std.specs.Prelude.{◌&&◌, ◌||◌, if◌then◌else◌, is_some}
use Rattle.std.specs.Option.{option_map}
use Rattle.go_base.specs.declared.fault.FaultCode.TheVariants as code
use Rattle.go_types.specs.Trees.{TypeTree}
use Rattle.go_types.specs.Relations.{Rights}
use Rattle.go_typed.specs.Trees.{typed}
use Rattle.go_typed.specs.Trees as sort
use Rattle.go_exprs_rules.specs.Faults.{fault_at}
use Rattle.go_exprs_rules.specs.Indexes.{named_field, selector_failing, outside, bound_failing, optional_bound, is_greater, disordered, text_length, index_failing_in, index_failing, whole_or_absent, bounds_failing, slice_failing}
use Rattle.go_exprs_rules.specs.Settling.{Part, unrepresented}
use Rattle.go_exprs_rules.specs.Sorts.{Stands, constant_of, is_text, is_whole, form_of_value, element_of, slice_element, array_length, int}
use Rattle.go_exprs_elsewhere.specs.Elsewhere.{Moves, placed}
use Rattle.go_exprs_elsewhere.proofs.Parts.{fails, optional, either, either_of, both}
use Rattle.go_exprs_elsewhere.proofs.Settling.{unrepresented_kept}

module _ (m : Moves) (rights : Rights) where
  pub selector_kept : (i j : ℕ) (name : List ℕ) (x : Stands) → selector_failing rights (m.token i) (m.token j) name x ≡ fails m (selector_failing rights i j name x)
  selector_kept i j name sort.Package = refl
  selector_kept i j name x = either m (is_some (named_field (form_of_value rights x) name)) [] (fault_at code.Operands i j)

  pub bound_kept : (limit : Option ℕ) (x : Part) → bound_failing rights limit (placed m x) ≡ fails m (bound_failing rights limit x)
  bound_kept limit (typed f i j l ps) =
      let x = typed f i j l ps in
      both m (unrepresented rights int (placed m x)) (if outside limit (constant_of l.sort) then fault_at code.ConstIndex (m.token i) (m.token j) else []) (unrepresented rights int x) (if outside limit (constant_of l.sort) then fault_at code.ConstIndex i j else [])
      (unrepresented_kept m rights int x) (either m (outside limit (constant_of l.sort)) (fault_at code.ConstIndex i j) [])

  optional_bound_kept : (limit : Option ℕ) (x : Option Part) → optional_bound rights limit (optional m x) ≡ fails m (optional_bound rights limit x)
  optional_bound_kept limit None = refl
  optional_bound_kept limit (Some x) = bound_kept limit x

  pub disordered_kept : (x y : Option Part) → disordered (optional m x) (optional m y) ≡ fails m (disordered x y)
  disordered_kept None y = refl
  disordered_kept (Some x) None = refl
  disordered_kept (Some (typed f a b k ps)) (Some (typed g c d l qs)) = either m (is_greater (constant_of k.sort) (constant_of l.sort)) (fault_at code.ConstIndex a b) []

  index_in_kept : (i j : ℕ) (u : Option TypeTree) (n : Part) → index_failing_in rights (m.token i) (m.token j) u (placed m n) ≡ fails m (index_failing_in rights i j u n)
  index_in_kept i j u n =
      either_of m (is_some (element_of u)) (bound_failing rights (array_length u) (placed m n)) (fault_at code.Operands (m.token i) (m.token j)) (bound_failing rights (array_length u) n) (fault_at code.Operands i j) (bound_kept (array_length u) n) refl

  pub index_kept : (i j : ℕ) (x : Stands) (n : Part) → index_failing rights (m.token i) (m.token j) x (placed m n) ≡ fails m (index_failing rights i j x n)
  index_kept i j x (typed f a b l ps) =
      let n = typed f a b l ps in
      let limit = text_length (constant_of x) in
      let u = form_of_value rights x in
      either_of m (is_whole rights l.sort)
      (if is_text rights x then bound_failing rights limit (placed m n) else index_failing_in rights (m.token i) (m.token j) u (placed m n)) (fault_at code.Operands (m.token i) (m.token j))
      (if is_text rights x then bound_failing rights limit n else index_failing_in rights i j u n) (fault_at code.Operands i j)
      (either_of m (is_text rights x) (bound_failing rights limit (placed m n)) (index_failing_in rights (m.token i) (m.token j) u (placed m n)) (bound_failing rights limit n) (index_failing_in rights i j u n) (bound_kept limit n) (index_in_kept i j u n))
      refl

  whole_kept : (x : Option Part) → whole_or_absent rights (optional m x) ≡ whole_or_absent rights x
  whole_kept None = refl
  whole_kept (Some (typed f i j l ps)) = refl

  bounds_kept : (limit : Option ℕ) (low high : Option Part) → bounds_failing rights limit (optional m low) (optional m high) ≡ fails m (bounds_failing rights limit low high)
  bounds_kept limit low high =
      both m (optional_bound rights limit (optional m low) ++ optional_bound rights limit (optional m high)) (disordered (optional m low) (optional m high)) (optional_bound rights limit low ++ optional_bound rights limit high) (disordered low high)
      (both m (optional_bound rights limit (optional m low)) (optional_bound rights limit (optional m high)) (optional_bound rights limit low) (optional_bound rights limit high) (optional_bound_kept limit low) (optional_bound_kept limit high))
      (disordered_kept low high)

  pub slice_kept : (i j : ℕ) (x : Stands) (low high : Option Part) → slice_failing rights (m.token i) (m.token j) x (optional m low) (optional m high) ≡ fails m (slice_failing rights i j x low high)
  slice_kept i j x low high =
      let c : Bool = is_text rights x || is_some (slice_element (form_of_value rights x)) in
      let limit = option_map (λ (n : ℕ). n + 1) (text_length (constant_of x)) in
      ap (λ b. if c && b && whole_or_absent rights (optional m high) then bounds_failing rights limit (optional m low) (optional m high) else fault_at code.Operands (m.token i) (m.token j)) (whole_kept low)
      ∙ ap (λ b. if c && whole_or_absent rights low && b then bounds_failing rights limit (optional m low) (optional m high) else fault_at code.Operands (m.token i) (m.token j)) (whole_kept high)
      ∙ either_of m (c && whole_or_absent rights low && whole_or_absent rights high) (bounds_failing rights limit (optional m low) (optional m high)) (fault_at code.Operands (m.token i) (m.token j)) (bounds_failing rights limit low high) (fault_at code.Operands i j) (bounds_kept limit low high) refl
