-- `min` and `max`.
use Rattle.std.proofs.Common.{◌≡◌, ℕ, Bool, List, [], ◌∷◌, Option, Some, None, refl, ap, ◌∙◌}
use Rattle.go_constants.specs.declared.values.Const.{Const}
use Rattle.go_ints.specs.declared.operators.Op.{Op}
use Rattle.go_types.specs.Trees.{TypeTree}
use Rattle.go_types.specs.Relations.{Rights}
use Rattle.go_types_relations.specs.Identity.{is_identical}
use Rattle.go_typed.specs.Trees.{sort_of}
use Rattle.go_exprs_rules.specs.Calls.{met, all_met, meeting, are_constants, each_unrepresented, extreme_refuse, extreme_failing_in, extreme_failing, extreme_value, extreme_in, extreme_sort, extreme_take_in, extreme_take}
use Rattle.go_exprs_rules.specs.Operators.{Common, in_type, in_kind, common_kind, own, type_in}
use Rattle.go_exprs_rules.specs.Settling.{Part, default, as_type}
use Rattle.go_exprs_rules.specs.Sorts.{default_type}
use Rattle.go_package_laws.specs.Reach.{Within, AgreeOn, StandsWithin, ListWithin}
use Rattle.go_package_laws.proofs.Values.{branch, sort_within, default_within, TakeWithin, unrepresented_same}
use Rattle.go_package_laws.proofs.Operators.{CommonWithin, MaybeCommon, kind_common_within, constant_in_within, own_common, one_typed_same, one_typed_within, unordered_same}

module _ (p : ℕ → Bool) where
  type_in_within : (c : Common) → CommonWithin p c → Within p (type_in c)
  type_in_within (in_type t) w = w
  type_in_within (in_kind k) w = default_within p k

  extreme_in_within : (c : Option Common) (v : Option Const) → MaybeCommon p c → StandsWithin p (extreme_in c v)
  extreme_in_within None v w = tt
  extreme_in_within (Some c) (Some v) w = constant_in_within p c v w
  extreme_in_within (Some c) None w = type_in_within c w

  take_in_within : (b : Bool) (c : Option Common) → MaybeCommon p c → TakeWithin p (extreme_take_in b c)
  take_in_within b None w = tt
  take_in_within b (Some (in_type t)) w = w
  take_in_within b (Some (in_kind k)) w = branch (TakeWithin p) b default (as_type (default_type k)) tt (default_within p k)

module _ (p : ℕ → Bool) (old new : Rights) (a : AgreeOn p old new) where
  -- ---- where arguments meet

  met_same : (c d : Option Common) → MaybeCommon p c → MaybeCommon p d → met new c d ≡ met old c d
  met_same (Some (in_type t)) (Some (in_type u)) w h = refl
  met_same (Some (in_type t)) (Some (in_kind k)) w h = one_typed_same p old new a t (Some k) w
  met_same (Some (in_type t)) None w h = refl
  met_same (Some (in_kind k)) (Some (in_type u)) w h = one_typed_same p old new a u (Some k) h
  met_same (Some (in_kind k)) (Some (in_kind l)) w h = refl
  met_same (Some (in_kind k)) None w h = refl
  met_same None d w h = refl

  met_within : (c d : Option Common) → MaybeCommon p c → MaybeCommon p d → MaybeCommon p (met old c d)
  met_within (Some (in_type t)) (Some (in_type u)) w h = branch (MaybeCommon p) (is_identical t u) (Some (in_type t)) None w tt
  met_within (Some (in_type t)) (Some (in_kind k)) w h = one_typed_within p old new a t (Some k) w
  met_within (Some (in_type t)) None w h = tt
  met_within (Some (in_kind k)) (Some (in_type u)) w h = one_typed_within p old new a u (Some k) h
  met_within (Some (in_kind k)) (Some (in_kind l)) w h = kind_common_within p (common_kind k l)
  met_within (Some (in_kind k)) None w h = tt
  met_within None d w h = tt

  own_of : (x : Part) (xs : List Part) → ListWithin p (x ∷ xs) → MaybeCommon p (own (sort_of x))
  own_of x xs w = own_common p (sort_of x) (sort_within p x w.0)

  all_met_same : (c : Option Common) (xs : List Part) → MaybeCommon p c → ListWithin p xs → all_met new c xs ≡ all_met old c xs
  all_met_same c [] w h = refl
  all_met_same c (x ∷ xs) w h =
      let d = own (sort_of x) in
      ap (λ e. all_met new e xs) (met_same c d w (own_of x xs h)) ∙ all_met_same (met old c d) xs (met_within c d w (own_of x xs h)) h.1

  all_met_within : (c : Option Common) (xs : List Part) → MaybeCommon p c → ListWithin p xs → MaybeCommon p (all_met old c xs)
  all_met_within c [] w h = w
  all_met_within c (x ∷ xs) w h = all_met_within (met old c (own (sort_of x))) xs (met_within c (own (sort_of x)) w (own_of x xs h)) h.1

  meeting_same : (xs : List Part) → ListWithin p xs → meeting new xs ≡ meeting old xs
  meeting_same [] w = refl
  meeting_same (x ∷ xs) w = all_met_same (own (sort_of x)) xs (own_of x xs w) w.1

  meeting_within : (xs : List Part) → ListWithin p xs → MaybeCommon p (meeting old xs)
  meeting_within [] w = tt
  meeting_within (x ∷ xs) w = all_met_within (own (sort_of x)) xs (own_of x xs w) w.1

  -- ---- which rules fail

  each_same : (t : TypeTree) (xs : List Part) → Within p t → each_unrepresented new t xs ≡ each_unrepresented old t xs
  each_same t [] w = refl
  each_same t (x ∷ xs) w = let e = unrepresented_same p old new a t w x in let f = each_same t xs w in cc

  refuse_same : (b : Bool) (c : Common) (xs : List Part) → CommonWithin p c → extreme_refuse new b c xs ≡ extreme_refuse old b c xs
  refuse_same b (in_type t) xs w = each_same t xs w
  refuse_same b (in_kind k) xs w = let e = each_same (default_type k) xs (default_within p k) in cc

  failing_in_same : (i j : ℕ) (xs : List Part) (c : Option Common) → MaybeCommon p c → extreme_failing_in new i j xs c ≡ extreme_failing_in old i j xs c
  failing_in_same i j xs None w = refl
  failing_in_same i j xs (Some c) w = let e = unordered_same p old new a i j c w in let f = refuse_same (are_constants xs) c xs w in cc

  pub extreme_failing_same : (i j : ℕ) (xs : List Part) → ListWithin p xs → extreme_failing new i j xs ≡ extreme_failing old i j xs
  extreme_failing_same i j [] w = refl
  extreme_failing_same i j (x ∷ xs) w =
      let ys = x ∷ xs in
      ap (extreme_failing_in new i j ys) (meeting_same ys w) ∙ failing_in_same i j ys (meeting old ys) (meeting_within ys w)

  -- ---- what they stand for, and what their arguments take

  pub extreme_sort_same : (o : Op) (xs : List Part) → ListWithin p xs → extreme_sort new o xs ≡ extreme_sort old o xs
  extreme_sort_same o xs w = ap (λ c. extreme_in c (extreme_value o xs)) (meeting_same xs w)

  pub extreme_sort_within : (o : Op) (xs : List Part) → ListWithin p xs → StandsWithin p (extreme_sort old o xs)
  extreme_sort_within o xs w = extreme_in_within p (meeting old xs) (extreme_value o xs) (meeting_within xs w)

  pub extreme_take_same : (xs : List Part) → ListWithin p xs → extreme_take new xs ≡ extreme_take old xs
  extreme_take_same xs w = ap (extreme_take_in (are_constants xs)) (meeting_same xs w)

  pub extreme_take_within : (xs : List Part) → ListWithin p xs → TakeWithin p (extreme_take old xs)
  extreme_take_within xs w = take_in_within p (are_constants xs) (meeting old xs) (meeting_within xs w)
