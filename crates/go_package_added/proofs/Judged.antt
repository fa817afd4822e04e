-- A specification that is judged in two scopes, one of which gives the functions of the package other numbers.
use Rattle.std.proofs.Common.{◌≡◌, ◌∙◌, ℕ, zero, suc, List, [], ◌∷◌, ◌++◌, map, Bool, Option, Some, None, refl, ap}
use Rattle.std.specs.Prelude.{if◌then◌else◌, slice_get}
use Rattle.std.specs.List.{AllByRecursion}
use Rattle.go_grammar.specs.Trees.{Tree}
use Rattle.go_exprs_rules.specs.declared.fault.TypeFault.{TypeFault}
use Rattle.go_exprs_rules.specs.Faults.{joined}
use Rattle.go_exprs_rules.specs.Scopes.{Scope, Hint}
use Rattle.go_exprs_rules.specs.Settling.{Part}
use Rattle.go_exprs_rules.specs.TypeNodes.{part_type}
use Rattle.go_exprs_rules.specs.Typing.{typing, faults}
use Rattle.go_package_alike.specs.Scopes.{AllTokens}
use Rattle.go_package_defs.specs.Declarations.{Specification, is_alone}
use Rattle.go_package_defs.specs.Verdicts.{type_hint, value_hint, part_in, faults_in, typed_type, type_faults, own_value, typed_values, values_faults, expression_faults, assigned_of, right_found, state_with, own_faults, value_state, specification_failing, specification_rule}
use Rattle.go_exprs_elsewhere.specs.Elsewhere.{placed}
use Rattle.go_exprs_elsewhere.proofs.Public.{type_kept, every, optional}
use Rattle.go_heads_added.specs.Added.{Gap}
use Rattle.go_package_added.specs.OneMore.{MaybeReadAt}
use Rattle.go_package_added.proofs.Assigned.{m, assigned_same, failing_same}

-- Over the same right sides what is read by the tokens that pass is typed the same, under the new numbers, and the same rules fail in it.
pub record IsTypedAnew (g : Gap) (test : ℕ → Bool) (s t : Scope) : Type 0 where
  pub rights : t.rights ≡ s.rights
  pub typed : (h : Hint) (x : Tree) → AllTokens test x → typing t h x ≡ placed (m g) (typing s h x)
  pub failing : (h : Hint) (x : Tree) → AllTokens test x → faults t h x ≡ faults s h x

module _ (g : Gap) (test : ℕ → Bool) where
  read_at : (ts : List Tree) (k : ℕ) → AllByRecursion (AllTokens test) ts → MaybeReadAt test (slice_get ts k)
  read_at [] k h = tt
  read_at (t ∷ ts) zero h = h.0
  read_at (t ∷ ts) (suc k) h = read_at ts k h.1

  module _ (s t : Scope) (a : IsTypedAnew g test s t) where
    part_anew : (h : Hint) (o : Option Tree) → MaybeReadAt test o → part_in t h o ≡ optional (m g) (part_in s h o)
    part_anew h None w = refl
    part_anew h (Some x) w = ap Some (a.typed h x w)

    faults_anew : (h : Hint) (o : Option Tree) → MaybeReadAt test o → faults_in t h o ≡ faults_in s h o
    faults_anew h None w = refl
    faults_anew h (Some x) w = ap joined (a.failing h x w)

    values_anew : (h : Hint) (xs : List Tree) → AllByRecursion (AllTokens test) xs → map (typing t h) xs ≡ every (m g) (map (typing s h) xs)
    values_anew h [] w = refl
    values_anew h (x ∷ xs) w = ap (λ y. y ∷ map (typing t h) xs) (a.typed h x w.0) ∙ ap (λ ys. placed (m g) (typing s h x) ∷ ys) (values_anew h xs w.1)

    all_anew : (h : Hint) (xs : List Tree) → AllByRecursion (AllTokens test) xs → values_faults t h xs ≡ values_faults s h xs
    all_anew h [] w = refl
    all_anew h (x ∷ xs) w = ap (λ nodes. joined nodes ++ values_faults t h xs) (a.failing h x w.0) ∙ ap (λ fs. joined (faults s h x) ++ fs) (all_anew h xs w.1)

    module _ (d : Specification) (type_read : MaybeReadAt test d.type_tree) (read : AllByRecursion (AllTokens test) d.values) where
      own_read : (c : ℕ) → MaybeReadAt test (own_value d c)
      own_read c = read_at d.values (if is_alone d then 0 else c) read

      type_anew : typed_type t d ≡ optional (m g) (typed_type s d)
      type_anew = part_anew (type_hint d.entity) d.type_tree type_read

      type_faults_anew : type_faults t d ≡ type_faults s d
      type_faults_anew = faults_anew (type_hint d.entity) d.type_tree type_read

      own_faults_anew : (c : ℕ) → own_faults t d c ≡ own_faults s d c
      own_faults_anew c =
          ap (λ fs. fs ++ faults_in t (value_hint d) (own_value d c)) type_faults_anew ∙ ap (λ fs. type_faults s d ++ fs) (faults_anew (value_hint d) (own_value d c) (own_read c))

      pub value_state_anew : (c : ℕ) → value_state t d c (own_faults t d c) ≡ value_state s d c (own_faults s d c)
      value_state_anew c =
          let fs = own_faults s d c in
          let v = part_in s (value_hint d) (own_value d c) in
          ap (value_state t d c) (own_faults_anew c)
          ∙ ap (λ r. state_with fs (assigned_of r d c fs (typed_type t d) (part_in t (value_hint d) (own_value d c)))) a.rights
          ∙ ap (λ o. state_with fs (assigned_of s.rights d c fs o (part_in t (value_hint d) (own_value d c)))) type_anew
          ∙ ap (λ o. state_with fs (assigned_of s.rights d c fs (optional (m g) (typed_type s d)) o)) (part_anew (value_hint d) (own_value d c) (own_read c))
          ∙ ap (state_with fs) (assigned_same g s.rights d c fs (typed_type s d) v)

      found_anew : (fs : List TypeFault) (o : Option Part) → right_found fs (optional (m g) o) ≡ right_found fs o
      found_anew [] o = type_kept (m g) o
      found_anew (f ∷ fs) o = refl

      -- the right side of a type
      pub right_anew : right_found (type_faults t d) (typed_type t d) ≡ right_found (type_faults s d) (typed_type s d)
      right_anew = ap (λ fs. right_found fs (typed_type t d)) type_faults_anew ∙ ap (right_found (type_faults s d)) type_anew ∙ found_anew (type_faults s d) (typed_type s d)

      pub judging_anew : type_faults t d ≡ type_faults s d
      judging_anew = type_faults_anew

      -- ---- as a whole

      pub expressions_anew : expression_faults t d ≡ expression_faults s d
      expressions_anew = ap (λ fs. fs ++ values_faults t (value_hint d) d.values) type_faults_anew ∙ ap (λ fs. type_faults s d ++ fs) (all_anew (value_hint d) d.values read)

      pub rule_anew : specification_rule t d ≡ specification_rule s d
      rule_anew =
          ap (λ r. specification_failing d.entity r d (part_type (typed_type t d)) (typed_values t d)) a.rights
          ∙ ap (λ o. specification_failing d.entity s.rights d (part_type o) (typed_values t d)) type_anew
          ∙ ap (λ o. specification_failing d.entity s.rights d o (typed_values t d)) (type_kept (m g) (typed_type s d))
          ∙ ap (λ xs. specification_failing d.entity s.rights d (part_type (typed_type s d)) xs) (values_anew (value_hint d) d.values read)
          ∙ failing_same g s.rights d.entity d (part_type (typed_type s d)) (typed_values s d)
