-- `min` and `max` with other numbers of declared types.
use Rattle.std.proofs.Common.{◌≡◌, ◌∙◌, ℕ, Bool, List, [], ◌∷◌, Option, Some, None, refl, sym, ap, cond}
use Rattle.go_constants.specs.declared.values.Const.{Const}
use Rattle.go_ints.specs.declared.operators.Op.{Op}
use Rattle.go_types.specs.Trees.{TypeTree}
use Rattle.go_types.specs.Relations.{Rights}
use Rattle.go_types_relations.specs.Identity.{is_identical}
use Rattle.go_types_relations.specs.Renaming.{renamed, IsOneToOne, AreRenamed}
use Rattle.go_typed.specs.Trees.{sort_of}
use Rattle.go_typed.specs.Trees as sort
use Rattle.go_exprs_rules.specs.Calls.{met, all_met, meeting, are_constants, each_unrepresented, extreme_refuse, extreme_failing_in, extreme_failing}
use Rattle.go_exprs_rules.specs.Calls.{better, extreme_behind, extreme_value, extreme_in, extreme_sort, extreme_take_in, extreme_take}
use Rattle.go_exprs_rules.specs.Operators.{Common, in_type, in_kind, common_kind, own, constant_in, type_in}
use Rattle.go_exprs_rules.specs.Settling.{Part, default, as_type}
use Rattle.go_exprs_rules.specs.Sorts.{constant_of, is_constant, default_type}
use Rattle.go_renumbering.specs.Renumbered.{stands_renamed, part_renamed}
use Rattle.go_renumbering.proofs.Operators.{common_renamed, some_common, kind_common_same, own_common, constants_same, meet, one_typed_same, unordered_same}
use Rattle.go_renumbering.proofs.Parts.{branches, every, all_kept}
use Rattle.go_renumbering.proofs.Settling.{take_renamed, sort_kept, unrepresented_kept}
use Rattle.go_renumbering.proofs.Sorts.{constant_same, default_same, identical_same}

module _ (name : ℕ → ℕ) where
  type_in_same : (c : Common) → type_in (common_renamed name c) ≡ renamed name (type_in c)
  type_in_same (in_type t) = refl
  type_in_same (in_kind k) = sym (default_same name k)

  constant_in_same : (c : Common) (v : Const) → constant_in (common_renamed name c) v ≡ stands_renamed name (constant_in c v)
  constant_in_same (in_type t) v = refl
  constant_in_same (in_kind k) v = refl

  extreme_in_same : (c : Option Common) (v : Option Const) → extreme_in (some_common name c) v ≡ stands_renamed name (extreme_in c v)
  extreme_in_same None v = refl
  extreme_in_same (Some c) (Some v) = constant_in_same c v
  extreme_in_same (Some c) None = ap sort.Value (type_in_same c)

  take_in_same : (b : Bool) (c : Option Common) → extreme_take_in b (some_common name c) ≡ take_renamed name (extreme_take_in b c)
  take_in_same b None = refl
  take_in_same b (Some (in_type t)) = refl
  take_in_same b (Some (in_kind k)) = ap (λ t. cond b default (as_type t)) (sym (default_same name k)) ∙ branches (take_renamed name) b default (as_type (default_type k))

  constants_kept : (xs : List Part) → are_constants (every name xs) ≡ are_constants xs
  constants_kept xs = all_kept name (λ x. is_constant (sort_of x)) (λ x. is_constant (sort_of x)) (λ x. ap is_constant (sort_kept name x) ∙ constants_same name (sort_of x)) xs

  value_kept : (x : Part) → constant_of (sort_of (part_renamed name x)) ≡ constant_of (sort_of x)
  value_kept x = ap constant_of (sort_kept name x) ∙ constant_same name (sort_of x)

  behind_kept : (o : Op) (c : Option Const) (xs : List Part) → extreme_behind o c (every name xs) ≡ extreme_behind o c xs
  behind_kept o c [] = refl
  behind_kept o c (x ∷ xs) = ap (λ v. extreme_behind o (better o c v) (every name xs)) (value_kept x) ∙ behind_kept o (better o c (constant_of (sort_of x))) xs

  extreme_value_kept : (o : Op) (xs : List Part) → extreme_value o (every name xs) ≡ extreme_value o xs
  extreme_value_kept o [] = refl
  extreme_value_kept o (x ∷ xs) = ap (λ v. extreme_behind o v (every name xs)) (value_kept x) ∙ behind_kept o (constant_of (sort_of x)) xs

  own_kept : (x : Part) → own (sort_of (part_renamed name x)) ≡ some_common name (own (sort_of x))
  own_kept x = ap own (sort_kept name x) ∙ own_common name (sort_of x)

module _ (name : ℕ → ℕ) (one : IsOneToOne name) (old new : Rights) (same : AreRenamed name old new) where
  abbrev then : Option Common → Option Common
  then c = some_common name c

  -- ---- where arguments meet

  met_same : (c d : Option Common) → met new (then c) (then d) ≡ then (met old c d)
  met_same (Some (in_type t)) (Some (in_type u)) =
      ap (λ b. cond b (Some (in_type (renamed name t))) None) (identical_same name one old new same t u) ∙ meet name one old new same (is_identical t u) t
  met_same (Some (in_type t)) (Some (in_kind k)) = one_typed_same name one old new same t (Some k)
  met_same (Some (in_type t)) None = refl
  met_same (Some (in_kind k)) (Some (in_type u)) = one_typed_same name one old new same u (Some k)
  met_same (Some (in_kind k)) (Some (in_kind l)) = kind_common_same name (common_kind k l)
  met_same (Some (in_kind k)) None = refl
  met_same None d = refl

  all_met_kept : (c : Option Common) (xs : List Part) → all_met new (then c) (every name xs) ≡ then (all_met old c xs)
  all_met_kept c [] = refl
  all_met_kept c (x ∷ xs) =
      ap (λ d. all_met new (met new (then c) d) (every name xs)) (own_kept name x)
      ∙ ap (λ d. all_met new d (every name xs)) (met_same c (own (sort_of x)))
      ∙ all_met_kept (met old c (own (sort_of x))) xs

  meeting_kept : (xs : List Part) → meeting new (every name xs) ≡ then (meeting old xs)
  meeting_kept [] = refl
  meeting_kept (x ∷ xs) = ap (λ d. all_met new d (every name xs)) (own_kept name x) ∙ all_met_kept (own (sort_of x)) xs

  -- ---- which rules fail

  each_kept : (t : TypeTree) (xs : List Part) → each_unrepresented new (renamed name t) (every name xs) ≡ each_unrepresented old t xs
  each_kept t [] = refl
  each_kept t (x ∷ xs) = let e = unrepresented_kept name one old new same t x in let f = each_kept t xs in cc

  each_default : (t u : TypeTree) (xs : List Part) → u ≡ renamed name t → each_unrepresented new u (every name xs) ≡ each_unrepresented old t xs
  each_default t u xs e = ap (λ z. each_unrepresented new z (every name xs)) e ∙ each_kept t xs

  refuse_kept : (b : Bool) (c : Common) (xs : List Part) → extreme_refuse new b (common_renamed name c) (every name xs) ≡ extreme_refuse old b c xs
  refuse_kept b (in_type t) xs = each_kept t xs
  refuse_kept b (in_kind k) xs = ap (cond b []) (each_default (default_type k) (default_type k) xs (sym (default_same name k)))

  failing_in_kept : (i j : ℕ) (xs : List Part) (c : Option Common) → extreme_failing_in new i j (every name xs) (then c) ≡ extreme_failing_in old i j xs c
  failing_in_kept i j xs None = refl
  failing_in_kept i j xs (Some c) =
      let e = unordered_same name one old new same i j c in
      let f = constants_kept name xs in
      let g = refuse_kept (are_constants xs) c xs in
      cc

  pub extreme_kept : (i j : ℕ) (xs : List Part) → extreme_failing new i j (every name xs) ≡ extreme_failing old i j xs
  extreme_kept i j [] = refl
  extreme_kept i j (x ∷ xs) = ap (extreme_failing_in new i j (every name (x ∷ xs))) (meeting_kept (x ∷ xs)) ∙ failing_in_kept i j (x ∷ xs) (meeting old (x ∷ xs))

  -- ---- what they stand for, and what their arguments take

  pub extreme_sort_kept : (o : Op) (xs : List Part) → extreme_sort new o (every name xs) ≡ stands_renamed name (extreme_sort old o xs)
  extreme_sort_kept o xs =
      ap (extreme_in (meeting new (every name xs))) (extreme_value_kept name o xs) ∙ ap (λ c. extreme_in c (extreme_value o xs)) (meeting_kept xs) ∙ extreme_in_same name (meeting old xs) (extreme_value o xs)

  pub extreme_take_kept : (xs : List Part) → extreme_take new (every name xs) ≡ take_renamed name (extreme_take old xs)
  extreme_take_kept xs =
      ap (λ b. extreme_take_in b (meeting new (every name xs))) (constants_kept name xs) ∙ ap (extreme_take_in (are_constants xs)) (meeting_kept xs) ∙ take_in_same name (are_constants xs) (meeting old xs)
