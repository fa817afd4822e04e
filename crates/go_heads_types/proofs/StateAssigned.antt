-- What a name stands for whose specification stands elsewhere.
use Rattle.std.proofs.Common.{◌≡◌, ◌∙◌, ℕ, zero, suc, ◌+◌, Bool, true, false, List, [], ◌∷◌, map, Option, Some, None, length, refl, sym, ap, subst}
use Rattle.std.specs.Prelude.{◌==◌, ◌&&◌, not, slice_get, option_map}
use Rattle.go_grammar.specs.Trees.{Tree}
use Rattle.go_rewriting.specs.Places.{carry}
use Rattle.go_tree.specs.declared.context.Entity.{Entity}
use Rattle.go_tree.specs.declared.context.Entity.TheVariants as entity
use Rattle.go_tree.specs.Declarations.{is_variable}
use Rattle.go_types.specs.Trees.{TypeTree}
use Rattle.go_types.specs.Relations.{Rights}
use Rattle.go_typed.specs.Trees.{sort_of}
use Rattle.go_typed.specs.Trees as sort
use Rattle.go_exprs_rules.specs.declared.fault.TypeFault.{TypeFault}
use Rattle.go_exprs_rules.specs.Settling.{Part}
use Rattle.go_exprs_rules.specs.Sorts.{Stands, is_unknown, named_type, value_type}
use Rattle.go_exprs_rules.specs.Tables.{no_faults, is_lost}
use Rattle.go_exprs_rules.specs.TypeNodes.{part_type}
use Rattle.go_stmts_defs.specs.Assigning.{called_results, unassigned, result_unassigned, constant_failing, constant_in, first_known, variable}
use Rattle.go_package_defs.specs.Declarations.{Specification, is_alone}
use Rattle.go_package_defs.specs.Verdicts.{Assigned, assigned, unassigned_name, constant_assigned, result_assigned, value_assigned, shared_value, variable_by, variable_assigned, function_assigned, assigned_as, assigned_if, are_judged, assigned_of}
use Rattle.go_elsewhere.specs.Elsewhere.{placed}
use Rattle.go_heads_types.specs.Same.{IsFurther}
use Rattle.go_heads_types.proofs.Failing.{Alike, sort_kept, unassigned_alike, constant_failing_alike, result_alike}

-- It stands for the same, and rules fail at both assignments or at neither.
pub record SameAssigned (a b : Assigned) : Type 0 where
  pub stands : a.stands ≡ b.stands
  pub failing : Alike a.failing b.failing

same_assigned : (a : Assigned) → SameAssigned a a
same_assigned a = record { stands = refl; failing = refl }

assigned_alike : (x : Stands) (us xs : List TypeFault) → Alike us xs → SameAssigned (assigned x us) (assigned x xs)
assigned_alike x [] [] e = record { stands = refl; failing = refl }
assigned_alike x [] (f ∷ xs) e = cc
assigned_alike x (u ∷ us) [] e = cc
assigned_alike x (u ∷ us) (f ∷ xs) e = record { stands = refl; failing = refl }

module _ (m : ℕ → ℕ) where
  abbrev pub optional : Option Part → Option Part
  optional o = option_map (placed m) o

  pub type_kept : (o : Option Part) → part_type (optional o) ≡ part_type o
  type_kept None = refl
  type_kept (Some x) = ap named_type (sort_kept m x)

  lost_kept : (o : Option Part) → is_lost (optional o) ≡ is_lost o
  lost_kept None = refl
  lost_kept (Some x) = ap is_unknown (sort_kept m x)

  module _ (rights : Rights) (t : Option TypeTree) where
    constant_same : (o : Option Part) → SameAssigned (constant_assigned rights t (optional o)) (constant_assigned rights t o)
    constant_same None = same_assigned unassigned_name
    constant_same (Some (sort.typed f i j l ps)) =
        let x : Part = sort.typed f i j l ps in assigned_alike (constant_in t l.sort) (constant_failing rights t (placed m x)) (constant_failing rights t x) (constant_failing_alike m rights t x)

    result_same : (x : Part) (o : Option TypeTree) → SameAssigned (result_assigned rights t (placed m x) o) (result_assigned rights t x o)
    result_same x None = same_assigned (assigned (variable t) [])
    result_same x (Some r) = assigned_alike (variable (first_known t (Some r))) (result_unassigned rights (placed m x) t r) (result_unassigned rights x t r) (result_alike m rights x t r)

    value_same : (x : Part) → SameAssigned (value_assigned rights t (placed m x)) (value_assigned rights t x)
    value_same (sort.typed f i j l ps) =
        let x : Part = sort.typed f i j l ps in assigned_alike (variable (first_known t (value_type l.sort))) (unassigned rights t (placed m x)) (unassigned rights t x) (unassigned_alike m rights t x)

    shared_same : (x : Part) (alone : Bool) (c : ℕ) → SameAssigned (shared_value rights t (placed m x) alone c) (shared_value rights t x alone c)
    shared_same x true zero = value_same x
    shared_same x true (suc c) = same_assigned (assigned (variable t) [])
    shared_same x false c = value_same x

    by_results : (x : Part) (alone : Bool) (c : ℕ) (o : Option (List TypeTree)) → SameAssigned (variable_by rights t (placed m x) alone c o) (variable_by rights t x alone c o)
    by_results x alone c (Some rs) = result_same x (slice_get rs c)
    by_results x alone c None = shared_same x alone c

    variable_same : (o : Option Part) (alone : Bool) (c : ℕ) → SameAssigned (variable_assigned rights t (optional o) alone c) (variable_assigned rights t o alone c)
    variable_same None alone c = same_assigned (assigned (variable t) [])
    variable_same (Some (sort.typed f i j l ps)) alone c = by_results (sort.typed f i j l ps) alone c (called_results rights l.sort)

    -- what a name of this sort stands for; b says whether one value is that of all names
    abbrev by_sort : Entity → Bool → ℕ → Option Part → Assigned
    by_sort entity.Constant b c o = constant_assigned rights t o
    by_sort entity.Function b c o = function_assigned t
    by_sort entity.Type b c o = unassigned_name
    by_sort e b c o = variable_assigned rights t o b c

    sorted_same : (e : Entity) (b : Bool) (c : ℕ) (o : Option Part) → SameAssigned (by_sort e b c (optional o)) (by_sort e b c o)
    sorted_same entity.Constant b c o = constant_same o
    sorted_same entity.Function b c o = same_assigned (function_assigned t)
    sorted_same entity.Type b c o = same_assigned unassigned_name
    sorted_same entity.Variable b c o = variable_same o b c
    sorted_same entity.Parameter b c o = variable_same o b c

    as_sorted : (e : Entity) (d : Specification) (c : ℕ) (o : Option Part) → assigned_as e rights d c t o ≡ by_sort e (is_alone d) c o
    as_sorted entity.Constant d c o = refl
    as_sorted entity.Function d c o = refl
    as_sorted entity.Type d c o = refl
    as_sorted entity.Variable d c o = refl
    as_sorted entity.Parameter d c o = refl

  if_same : (b : Bool) (x y : Assigned) → SameAssigned x y → SameAssigned (assigned_if b x) (assigned_if b y)
  if_same true x y e = e
  if_same false x y e = same_assigned unassigned_name

mapped_count : {A B : Type 0} (f : A → B) (xs : List A) → length (map f xs) ≡ length xs
mapped_count f [] = refl
mapped_count f (x ∷ xs) = ap suc (mapped_count f xs)

pub alone_kept : (n : ℕ) (r d : Specification) → IsFurther n r d → is_alone d ≡ is_alone r
alone_kept n r d h =
    ap (λ e. is_variable e && length d.values == 1) h.entity
    ∙ ap (λ (ts : List Tree). is_variable r.entity && length ts == 1) h.values ∙ ap (λ k. is_variable r.entity && k == 1) (mapped_count (carry (λ i. n + i)) r.values)

-- a name of a specification further on
pub assigned_further : (n : ℕ) (m : ℕ → ℕ) (rights : Rights) (r d : Specification) (c : ℕ) (us xs : List TypeFault) (t x : Option Part) → IsFurther n r d → Alike us xs
    → SameAssigned (assigned_of rights d c us (optional m t) (optional m x)) (assigned_of rights r c xs t x)
assigned_further n m rights r d c us xs t x h e =
    let pt = part_type t in
    let o = optional m x in
    let judged : are_judged us (optional m t) o ≡ are_judged xs t x =
    ap (λ b. b && not (is_lost (optional m t)) && not (is_lost o)) e
    ∙ ap (λ b. no_faults xs && not b && not (is_lost o)) (lost_kept m t)
    ∙ ap (λ b. no_faults xs && not (is_lost t) && not b) (lost_kept m x) in
    let there : assigned_of rights d c us (optional m t) o ≡ assigned_if (are_judged xs t x) (by_sort m rights pt r.entity (is_alone r) c o) =
    ap (λ b. assigned_if b (assigned_as d.entity rights d c (part_type (optional m t)) o)) judged
    ∙ ap (λ u. assigned_if (are_judged xs t x) (assigned_as d.entity rights d c u o)) (type_kept m t)
    ∙ ap (assigned_if (are_judged xs t x)) (
    as_sorted m rights pt d.entity d c o
    ∙ ap (λ z. by_sort m rights pt z (is_alone d) c o) h.entity
    ∙ ap (λ b. by_sort m rights pt r.entity b c o) (alone_kept n r d h)) in
    let here : assigned_of rights r c xs t x ≡ assigned_if (are_judged xs t x) (by_sort m rights pt r.entity (is_alone r) c x) = ap (assigned_if (are_judged xs t x)) (as_sorted m rights pt r.entity r c x) in
    subst (λ a. SameAssigned a (assigned_of rights r c xs t x)) (sym there)
    (subst (λ a. SameAssigned (assigned_if (are_judged xs t x) (by_sort m rights pt r.entity (is_alone r) c o)) a) (sym here)
    (if_same m (are_judged xs t x) (by_sort m rights pt r.entity (is_alone r) c o) (by_sort m rights pt r.entity (is_alone r) c x) (sorted_same m rights pt r.entity (is_alone r) c x)))
