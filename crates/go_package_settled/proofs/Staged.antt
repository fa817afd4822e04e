-- What a declaration names is known before its stages.
use Rattle.std.proofs.Common.{◌≡◌, ℕ, ◌<◌, Bool, true, false, List, ◌∷◌, Option, Some, None, refl, sym, ap, ◌∙◌, subst, arith}
use Rattle.std.specs.Prelude.{slice_get}
use Rattle.go_tree.specs.declared.object.Object.{Object}
use Rattle.go_tree.specs.declared.object.Object.TheVariants as object
use Rattle.go_exprs_rules.specs.Scopes.{Needed, in_full, at_once, loosely}
use Rattle.go_package_defs.specs.Knowledge.{Outline, state_of, is_type}
use Rattle.go_package_defs.specs.Sources.{Package}
use Rattle.go_package_defs.specs.Verdicts.{known, is_in}
use Rattle.go_package_laws.specs.Ranks.{Ranks, reached, NeedBefore}
use Rattle.go_package_laws.specs.Stages.{TypesBefore, StageBefore}
use Rattle.go_package_laws.proofs.Public.{stands_more}
use Rattle.go_package_settled.specs.Agreeing.{ExpressionsAgree, TypesAgree}
use Rattle.go_package_settled.specs.Heights.{Needing, is_within, is_partly_within}
use Rattle.go_package_settled.specs.Ordered.{needed, sort_there, Passes, NeedsWhole, NeedsSo, NeedsAreOrdered, stages}
use Rattle.go_package_settled.proofs.Lists.{one_or, one_first, one_later, all_before}
use Rattle.go_package_settled.proofs.Reaching.{needed_within, partly_within, reach_under}
use Rattle.go_package_settled.proofs.StageOrder.{own_later, told_later, told_under_own, value_needs, value_needs_right, stand_under_told, told_under_told, own_under_own, told_under_full}
use Rattle.go_package_settled.proofs.Within.{Reaches, reaches}

module _ (expressions : ExpressionsAgree) (types : TypesAgree) (p : Package) (os : List Outline) (x : Needing) (a : NeedsAreOrdered p os x) where
  abbrev s : Ranks
  s = stages p x

  pub sort_is : (n : ℕ) (o : Outline) (b : Bool) → slice_get os n ≡ Some o → is_type o.specification.entity ≡ b → x.sort n ≡ Some b
  sort_is n o b e t = a.sorts n ∙ ap sort_there e ∙ ap Some t

  -- what an object's outline lists is needed
  in_full_list : (m i : ℕ) → is_in (m ∷ needed os in_full m) i ≡ true → is_within x m i ≡ true
  in_full_list m i q = one_or i m (is_in (needed os in_full m) i) q (λ e. subst (λ j. is_within x m j ≡ true) (sym e) (one_first m (x.full m m))) (λ e. one_later i m (x.full m i) (a.fully m i e))

  in_partly : (m i : ℕ) → is_in (m ∷ needed os at_once m) i ≡ true → is_partly_within x m i ≡ true
  in_partly m i q = one_or i m (is_in (needed os at_once m) i) q (λ e. subst (λ j. is_partly_within x m j ≡ true) (sym e) (one_first m (x.part m m))) (λ e. one_later i m (x.part m i) (a.partly m i e))

  -- the types of an object whose right sides are known before the stage c, with all that it needs
  reached_before : (k c m : ℕ) → 0 < c → ((i : ℕ) → is_within x m i ≡ true → s.told i < c) → TypesBefore (known p os k) s c (Some (object.Package m))
  reached_before k c m z h =
      let w : Reaches expressions types p os x a k m = reaches expressions types p os x a k m in
      stands_more _ (reached s c) (λ u q. reach_under x a.order p.uses.package_level c m u z h q) (state_of (known p os k) m).stands w.stands

  -- ---- constants, variables and functions

  pub value_stage : (k n : ℕ) → x.sort n ≡ Some false → (o : Option Object) → Passes (x.full n) o → StageBefore os (known p os k) s s.own (s.own n) in_full o
  value_stage k n t None h = (tt, tt)
  value_stage k n t (Some object.Import) h = (tt, tt)
  value_stage k n t (Some (object.Predeclared i)) h = (tt, tt)
  value_stage k n t (Some (object.Local f m)) h = (tt, tt)
  value_stage k n t (Some (object.Package m)) h = (
    all_before s.own (s.own n) (m ∷ needed os in_full m) (λ i q. value_needs x a.order n i (x.sort i) refl t (needed_within x a.order n m i h (in_full_list m i q))),
    reached_before k (s.own n) m (own_later x a.order n false t) (λ i q. value_needs_right x a.order n i t (needed_within x a.order n m i h q)),
  )

  -- ---- types

  whole_within : (n m i : ℕ) → NeedsWhole x n (Some (object.Package m)) → is_within x m i ≡ true → x.part n i ≡ true
  whole_within n m i h q = one_or i m (x.full m i) q (λ e. subst (λ j. x.part n j ≡ true) (sym e) h.0) (λ e. h.1 i e)

  module _ (n : ℕ) (t : x.sort n ≡ Some true) where
    told_part : (i : ℕ) → x.part n i ≡ true → s.told i < s.told n
    told_part i q = told_under_told x a.order n i (x.sort i) refl t q

    own_part : (i : ℕ) → x.part n i ≡ true → s.own i < s.own n
    own_part i q = own_under_own x a.order n i (x.sort i) refl t q

    told_full : (i : ℕ) → x.full n i ≡ true → s.told i < s.own n
    told_full i q = told_under_full x a.order n i (x.sort i) refl t q

    stand_told : (i : ℕ) → x.full n i ≡ true → s.stand i < s.told n
    stand_told i q = stand_under_told x a.order n i (x.sort i) refl t q

    stand_own : (i : ℕ) → x.full n i ≡ true → s.stand i < s.own n
    stand_own i q = let h = stand_told i q in let l = told_under_own x a.order n t in omega (arith, h, l)

    -- the right side
    pub told_need : (way : Needed) (o : Option Object) → NeedsSo x n way o → NeedBefore os s.told s.stand (s.told n) way o
    told_need loosely None h = tt
    told_need loosely (Some object.Import) h = tt
    told_need loosely (Some (object.Predeclared i)) h = tt
    told_need loosely (Some (object.Local f m)) h = tt
    told_need at_once None h = tt
    told_need at_once (Some object.Import) h = tt
    told_need at_once (Some (object.Predeclared i)) h = tt
    told_need at_once (Some (object.Local f m)) h = tt
    told_need in_full None h = tt
    told_need in_full (Some object.Import) h = tt
    told_need in_full (Some (object.Predeclared i)) h = tt
    told_need in_full (Some (object.Local f m)) h = tt
    told_need loosely (Some (object.Package m)) h = stand_told m h
    told_need at_once (Some (object.Package m)) h = all_before s.told (s.told n) (m ∷ needed os at_once m) (λ i q. told_part i (partly_within x a.order n m i h (in_partly m i q)))
    told_need in_full (Some (object.Package m)) h = all_before s.told (s.told n) (m ∷ needed os in_full m) (λ i q. told_part i (whole_within n m i h (in_full_list m i q)))

    pub counted_stage : (k : ℕ) (o : Option Object) → NeedsWhole x n o → StageBefore os (known p os k) s s.told (s.told n) in_full o
    counted_stage k None h = (tt, tt)
    counted_stage k (Some object.Import) h = (tt, tt)
    counted_stage k (Some (object.Predeclared i)) h = (tt, tt)
    counted_stage k (Some (object.Local f m)) h = (tt, tt)
    counted_stage k (Some (object.Package m)) h = (
      all_before s.told (s.told n) (m ∷ needed os in_full m) (λ i q. told_part i (whole_within n m i h (in_full_list m i q))),
      reached_before k (s.told n) m (told_later x a.order n t) (λ i q. told_part i (whole_within n m i h q)),
    )

    -- the rules that fail in it
    own_reached : (k m : ℕ) → x.full n m ≡ true → TypesBefore (known p os k) s (s.own n) (Some (object.Package m))
    own_reached k m h = reached_before k (s.own n) m (own_later x a.order n true t) (λ i q. told_full i (needed_within x a.order n m i h q))

    pub own_counted : (k : ℕ) (o : Option Object) → NeedsWhole x n o → StageBefore os (known p os k) s s.own (s.own n) in_full o
    own_counted k None h = (tt, tt)
    own_counted k (Some object.Import) h = (tt, tt)
    own_counted k (Some (object.Predeclared i)) h = (tt, tt)
    own_counted k (Some (object.Local f m)) h = (tt, tt)
    own_counted k (Some (object.Package m)) h = (all_before s.own (s.own n) (m ∷ needed os in_full m) (λ i q. own_part i (whole_within n m i h (in_full_list m i q))), own_reached k m (a.order.partly_full n m h.0))

    pub own_need : (k : ℕ) (way : Needed) (o : Option Object) → NeedsSo x n way o → StageBefore os (known p os k) s s.own (s.own n) way o
    own_need k loosely None h = (tt, tt)
    own_need k loosely (Some object.Import) h = (tt, tt)
    own_need k loosely (Some (object.Predeclared i)) h = (tt, tt)
    own_need k loosely (Some (object.Local f m)) h = (tt, tt)
    own_need k at_once None h = (tt, tt)
    own_need k at_once (Some object.Import) h = (tt, tt)
    own_need k at_once (Some (object.Predeclared i)) h = (tt, tt)
    own_need k at_once (Some (object.Local f m)) h = (tt, tt)
    own_need k loosely (Some (object.Package m)) h = (stand_own m h, own_reached k m h)
    own_need k at_once (Some (object.Package m)) h = (
      all_before s.own (s.own n) (m ∷ needed os at_once m) (λ i q. own_part i (partly_within x a.order n m i h (in_partly m i q))),
      own_reached k m (a.order.partly_full n m h),
    )
    own_need k in_full o h = own_counted k o h
