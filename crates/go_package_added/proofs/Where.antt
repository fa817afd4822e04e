-- The rules of a specification fail at its nodes.
use Rattle.std.proofs.Common.{◌≡◌, ℕ, Bool, true, false, cond, List, [], ◌∷◌, length, map, replicate, Option, Some, None}
use Rattle.std.specs.Prelude.{◌==◌}
use Rattle.std.specs.List.{AllByRecursion}
use Rattle.go_grammar.specs.Trees.{Tree}
use Rattle.go_tree.specs.declared.context.Entity.{Entity}
use Rattle.go_tree.specs.declared.context.Entity.TheVariants as entity
use Rattle.go_types.specs.Trees.{TypeTree}
use Rattle.go_types.specs.Relations.{Rights}
use Rattle.go_typed.specs.Trees.{sort_of}
use Rattle.go_exprs_rules.specs.declared.fault.TypeFault.{TypeFault}
use Rattle.go_exprs_rules.specs.Scopes.{Scope, Hint}
use Rattle.go_exprs_rules.specs.Settling.{Part}
use Rattle.go_exprs_rules.specs.Sorts.{is_unknown, is_nil, is_constant}
use Rattle.go_exprs_rules.specs.TypeNodes.{part_type}
use Rattle.go_exprs_rules.specs.Typing.{typing, faults}
use Rattle.go_exprs_rules.specs.Faults.{joined}
use Rattle.go_types_relations.specs.Tests.{is_assignable}
use Rattle.go_stmts_defs.specs.Assigning.{Wanted, whole_results, unassigned, all_unassigned, result_unassigned, results_unassigned, call_assigned, assignment_by, constant_failing, constants_failing}
use Rattle.go_stmts_defs.specs.Rules.{variables_failing}
use Rattle.go_package_defs.specs.Declarations.{Specification}
use Rattle.go_package_defs.specs.Verdicts.{type_hint, value_hint, faults_in, type_faults, typed_type, typed_values, values_faults, expression_faults, known_parts, counted, specification_failing, specification_rule, rule_unless}
use Rattle.go_package_laws.specs.Places.{EachFault, EachNode, EachOf}
use Rattle.go_package_laws.proofs.Public.{Placed, ListPlaced, both, either, at_it, undefaulted_at, unassignable_at, typing_placed, faults_at_nodes}
use Rattle.go_package_added.specs.Reported.{MaybeStands}

module _ (q : ℕ → ℕ → Bool) where
  joined_at : (fss : List (List TypeFault)) → EachOf q fss → EachFault q (joined fss)
  joined_at [] h = tt
  joined_at (fs ∷ fss) h = both q fs (joined fss) h.0 (joined_at fss h.1)

  part_at : (s : Scope) (h : Hint) (t : Option Tree) → MaybeStands q t → EachFault q (faults_in s h t)
  part_at s h None e = tt
  part_at s h (Some t) e = joined_at (faults s h t) (faults_at_nodes q s h t e)

  values_at : (s : Scope) (h : Hint) (ts : List Tree) → AllByRecursion (EachNode q) ts → EachFault q (values_faults s h ts)
  values_at s h [] e = tt
  values_at s h (t ∷ ts) e = both q (joined (faults s h t)) (values_faults s h ts) (joined_at (faults s h t) (faults_at_nodes q s h t e.0)) (values_at s h ts e.1)

  typed_at : (s : Scope) (h : Hint) (ts : List Tree) → AllByRecursion (EachNode q) ts → ListPlaced q (map (typing s h) ts)
  typed_at s h [] e = tt
  typed_at s h (t ∷ ts) e = (typing_placed q s h t e.0, typed_at s h ts e.1)

  module _ (rights : Rights) (i j : ℕ) (here : q i j ≡ true) where
    constant_at : (t : Option TypeTree) (x : Part) → Placed q x → EachFault q (constant_failing rights t x)
    constant_at (Some t) x h = either q (is_constant (sort_of x)) _ _ (unassignable_at q rights t x h) (at_it q _ x h)
    constant_at None x h = either q (is_constant (sort_of x)) [] _ tt (at_it q _ x h)

    constants_at : (t : Option TypeTree) (xs : List Part) → ListPlaced q xs → EachFault q (constants_failing rights t xs)
    constants_at t [] h = tt
    constants_at t (x ∷ xs) h = both q (constant_failing rights t x) (constants_failing rights t xs) (constant_at t x h.0) (constants_at t xs h.1)

    known_at : (xs : List Part) → ListPlaced q xs → ListPlaced q (known_parts xs)
    known_at [] h = tt
    known_at (x ∷ xs) h = pick (is_unknown (sort_of x)) (known_at xs h.1) where
      pick : (b : Bool) → ListPlaced q (known_parts xs) → ListPlaced q (cond b (known_parts xs) (x ∷ known_parts xs))
      pick true k = k
      pick false k = (h.0, k)

    unassigned_at : (t : Option TypeTree) (x : Part) → Placed q x → EachFault q (unassigned rights t x)
    unassigned_at (Some t) x h = unassignable_at q rights t x h
    unassigned_at None x h = either q (is_nil (sort_of x)) _ _ (at_it q _ x h) (undefaulted_at q rights x h)

    all_at : (ts : Wanted) (xs : List Part) → ListPlaced q xs → EachFault q (all_unassigned rights ts xs)
    all_at [] xs h = tt
    all_at (t ∷ ts) [] h = tt
    all_at (t ∷ ts) (x ∷ xs) h = both q (unassigned rights t x) (all_unassigned rights ts xs) (unassigned_at t x h.0) (all_at ts xs h.1)

    result_at : (x : Part) (t : Option TypeTree) (r : TypeTree) → Placed q x → EachFault q (result_unassigned rights x t r)
    result_at x None r h = tt
    result_at x (Some t) r h = either q (is_assignable rights r t) [] _ tt (at_it q _ x h)

    results_at : (x : Part) (ts : Wanted) (rs : List TypeTree) → Placed q x → EachFault q (results_unassigned rights x ts rs)
    results_at x [] rs h = tt
    results_at x (t ∷ ts) [] h = tt
    results_at x (t ∷ ts) (r ∷ rs) h = both q (result_unassigned rights x t r) (results_unassigned rights x ts rs) (result_at x t r h) (results_at x ts rs h)

    call_at : (ts : Wanted) (xs : List Part) (rs : List TypeTree) → ListPlaced q xs → EachFault q (call_assigned rights ts xs rs)
    call_at ts [] rs h = tt
    call_at ts (x ∷ xs) rs h = results_at x ts rs h.0

    by_at : (ts : Wanted) (xs : List Part) (o : Option (List TypeTree)) → ListPlaced q xs → EachFault q (assignment_by rights i j ts xs o)
    by_at ts xs (Some rs) h = either q (length ts == length rs) _ _ (call_at ts xs rs h) (here, tt)
    by_at ts xs None h = either q (length ts == length xs) _ _ (all_at ts xs h) (here, tt)

    variables_at : (n : ℕ) (t : Option TypeTree) (xs : List Part) → ListPlaced q xs → EachFault q (variables_failing rights i j n t xs)
    variables_at n t [] h = tt
    variables_at n t (x ∷ xs) h = by_at (replicate n t) (x ∷ xs) (whole_results rights (x ∷ xs)) h

  rule_at : (e : Entity) (rights : Rights) (d : Specification) (t : Option TypeTree) (xs : List Part) → q d.first d.last ≡ true → ListPlaced q xs → EachFault q (specification_failing e rights d t xs)
  rule_at entity.Constant rights d t xs here h =
      both q (counted d.first d.last (length d.names) (length xs)) (constants_failing rights t (known_parts xs)) (either q (length d.names == length xs) [] _ tt (here, tt))
      (constants_at rights d.first d.last here t (known_parts xs) (known_at rights d.first d.last here xs h))
  rule_at entity.Variable rights d t xs here h = variables_at rights d.first d.last here (length d.names) t xs h
  rule_at e rights d t xs here h = tt

  pub unless_at : (b : Bool) (gs : List TypeFault) → EachFault q gs → EachFault q (rule_unless b gs)
  unless_at true gs h = tt
  unless_at false gs h = h

  module _ (s : Scope) (d : Specification) (itself : q d.first d.last ≡ true) (type_stands : MaybeStands q d.type_tree) (values_stand : AllByRecursion (EachNode q) d.values) where
    pub expressions_at : EachFault q (expression_faults s d)
    expressions_at =
        both q (type_faults s d) (values_faults s (value_hint d) d.values) (part_at s (type_hint d.entity) d.type_tree type_stands) (values_at s (value_hint d) d.values values_stand)

    pub whole_rule_at : EachFault q (specification_rule s d)
    whole_rule_at = rule_at d.entity s.rights d (part_type (typed_type s d)) (typed_values s d) itself (typed_at s (value_hint d) d.values values_stand)
