-- Ends that stay wherever a call takes the place of a window that leaves some tokens.
use Rattle.std.proofs.Common.{◌≡◌, ◌∙◌, ℕ, ◌-◌, drop, take, zero, suc, ◌+◌, ◌<◌, ◌≤◌, Bool, true, false, List, [], ◌∷◌, ◌++◌, length, map, get_or, Option, Some, None, slice_get, refl, sym, ap, subst, arith, inl, inr}
use Rattle.std.proofs.lemmas.List.{drop_all, take_all}
use Rattle.std.proofs.lemmas.Bool.{both_ways, cases_lt}
use Rattle.std.specs.Prelude.{◌&&◌, ◌||◌, not, nat_eq, nat_lt, if◌then◌else◌, IfOk, OnOk, Result, Ok, Err}
use Rattle.std.specs.HashSet.{HashSet}
use Rattle.std.specs.HashSet as set
use Rattle.std.specs.List.{AllByRecursion, list_all, list_any}
use Rattle.std.specs.Option.{option_map}
use Rattle.go_types.specs.Tables.{Table}
use Rattle.go_types.specs.Trees.{TypeTree}
use Rattle.go_typed.specs.declared.form.Form.{Form}
use Rattle.go_typed.specs.declared.form.Form.TheVariants as form
use Rattle.go_typed.specs.declared.node.TypedNode.{TypedNode}
use Rattle.go_typed.specs.declared.node.TypedNode.TheViews.{out-TypedNode}
use Rattle.go_typed.specs.Funcs.{FuncView}
use Rattle.go_typed.specs.Trees.{Typed, typed, more, first_of, form_of, sort_of, parts_of, list_of}
use Rattle.go_typed.specs.Views.{seen, view}
use Rattle.go_exprs_rules.specs.Tables.{on_one}
use Rattle.go_stmts_defs.specs.Targets.{is_panic, is_panic_call}
use Rattle.go_stmts_defs.specs.Ending.{breaks, is_default_clause, is_fallthrough, is_fallthrough_part, last_falls, lets_break, part_breaks, terminates}
use Rattle.go_stmts_defs.specs.Rows.{all_clauses_end, both_branches, last_ends, part_ends}
use Rattle.go_exprs_rules.proofs.Public.{drop_step}
use Rattle.escape_check.specs.declared.ends.Gap.{Gap as Found}
use Rattle.escape_check.specs.Called.{all_called, called, ends_over, last_or, staying}
use Rattle.escape_check.specs.Keeping.{Extends, KeepEnds, Keeps, KeepsEnd, LeavesOut, Spares, begins_by}
use Rattle.escape_check.proofs.Called.{breaks_by, default_by, ends_last, falls_last, panic_by, panic_call_by, terminates_by}
use Rattle.escape_check.proofs.Staying.{last_behind, last_stays}
use Rattle.clone_window.proofs.Public.{view_out}

abbrev Part : Type 0
Part = Typed TypeTree

abbrev Parts : Type 0
Parts = List (Option Part)

-- ---- sets of tokens

out_too : (x y : Bool) → (x ≡ true → y ≡ true) → y ≡ false → x ≡ false
out_too true y h e = absurd (both_ways y e (h refl))
out_too false y h e = refl

module _ {S : Type 0} where
  -- what spares the larger set spares the smaller one
  pub spares_less : (a b : HashSet ℕ S) (g : Found) → Extends a b → Spares g b → Spares g a
  spares_less a b g extends s = record { some = s.some; free = λ t low high. out_too (set.contains nat_eq a t) (set.contains nat_eq b t) (extends t) (s.free t low high) }

  pub leaves : (a : HashSet ℕ S) (g : Found) (t : ℕ) → Spares g a → set.contains nat_eq a t ≡ true → LeavesOut g t
  leaves a g t s there = record {
    some = s.some;
    out = elim (cases_lt t g.from) [
      | inl front ↦ inl front
      | inr behind ↦ elim (cases_lt t g.upto) [ inl inside ↦ absurd (both_ways (set.contains nat_eq a t) (s.free t behind inside) there) | inr after ↦ inr after ]
    ];
  }

-- ---- breaks

module _ (g : Found) where
  abbrev pub NoneBreaks : Parts → Type 0
  NoneBreaks xs = AllByRecursion (λ x. part_breaks (option_map (called g) x) ≡ false) xs

  pub none_any : (xs : Parts) → NoneBreaks xs → list_any part_breaks (all_called g xs) ≡ false
  none_any [] h = refl
  none_any (x ∷ xs) h = ap (λ b. b || list_any part_breaks (all_called g xs)) h.0 ∙ none_any xs h.1

  one_staying : (b c : Bool) (x : Part) (xs ys : Parts) → part_breaks (Some (called g x)) ≡ false → NoneBreaks xs → NoneBreaks ys → NoneBreaks (if b then xs else (if c then None ∷ ys else Some x ∷ xs))
  one_staying true c x xs ys e h k = h
  one_staying false true x xs ys e h k = (refl, k)
  one_staying false false x xs ys e h k = (e, h)

  none_staying : (u : ℕ) (xs : Parts) → NoneBreaks xs → NoneBreaks (staying g u xs)
  none_staying u [] h = tt
  none_staying u (None ∷ xs) h = (refl, none_staying u xs h.1)
  none_staying u (Some x ∷ xs) h = one_staying (nat_lt (first_of x) u) (nat_eq g.from (first_of x)) x (staying g u xs) (staying g g.upto xs) h.0 (none_staying u xs h.1) (none_staying g.upto xs h.1)

  none_in : (xs : Parts) → NoneBreaks xs → list_any part_breaks (all_called g (staying g 0 xs)) ≡ false
  none_in xs h = none_any (staying g 0 xs) (none_staying 0 xs h)

  -- a node that lets breaks out
  pub never_by : (x : Part) → lets_break (form_of x) ≡ true → NoneBreaks (list_of (parts_of x)) → breaks (called g x) ≡ false
  never_by (typed form.Block i j l ps) e h = breaks_by g (typed form.Block i j l ps) ∙ none_in (list_of ps) h
  never_by (typed form.If i j l ps) e h = breaks_by g (typed form.If i j l ps) ∙ none_any (list_of ps) h
  never_by (typed (form.Case n) i j l ps) e h = breaks_by g (typed (form.Case n) i j l ps) ∙ none_in (list_of ps) h
  never_by (typed form.Default i j l ps) e h = breaks_by g (typed form.Default i j l ps) ∙ none_in (list_of ps) h
  never_by x e h = cc

-- ---- what no call changes

module _ (g h : Found) where
  panic_alike : (x : Part) → is_panic (sort_of (called g x)) ≡ is_panic (sort_of (called h x))
  panic_alike (typed (form.Keyed n) i j l (more p ps)) = panic_alike p
  panic_alike x = panic_by g x ∙ sym (panic_by h x)

  panic_call_alike : (x : Part) → is_panic_call (called g x) ≡ is_panic_call (called h x)
  panic_call_alike (typed form.Parenthesized i j l (more p ps)) = panic_call_alike p
  panic_call_alike (typed form.Call i j l (more p ps)) = panic_alike p
  panic_call_alike x = panic_call_by g x ∙ sym (panic_call_by h x)

  pub panic_anywhere : (xs : Parts) → on_one false is_panic_call (all_called g xs) ≡ on_one false is_panic_call (all_called h xs)
  panic_anywhere [] = refl
  panic_anywhere (None ∷ []) = refl
  panic_anywhere (Some x ∷ []) = panic_call_alike x
  panic_anywhere (None ∷ y ∷ xs) = refl
  panic_anywhere (Some x ∷ y ∷ xs) = refl

  pub default_anywhere : (xs : Parts) → list_any is_default_clause (all_called g xs) ≡ list_any is_default_clause (all_called h xs)
  default_anywhere [] = refl
  default_anywhere (x ∷ xs) =
      ap (λ b. b || list_any is_default_clause (all_called g xs)) (default_by g x ∙ sym (default_by h x)) ∙ ap (λ b. is_default_clause (option_map (called h) x) || b) (default_anywhere xs)

-- ---- parts as loops go over them

module _ (t : Table) (g : Found) where
  pub none_more : (ns : List (Option TypedNode)) (i : ℕ) (x : Option TypedNode) → i < length ns → x ≡ get_or ns i x → part_breaks (option_map (called g) (option_map (seen t) x)) ≡ false →
      NoneBreaks g (map (option_map (seen t)) (drop (i + 1) ns)) → NoneBreaks g (map (option_map (seen t)) (drop i ns))
  none_more ns i x lt e here h = subst (λ (ms : List (Option TypedNode)). NoneBreaks g (map (option_map (seen t)) ms)) (sym (drop_step ns i x x lt e)) (here, h)

  pub none_left : (ns : List (Option TypedNode)) (i : ℕ) → length ns ≤ i → NoneBreaks g (map (option_map (seen t)) (drop i ns))
  none_left ns i le = subst (λ (ms : List (Option TypedNode)). NoneBreaks g (map (option_map (seen t)) ms)) (sym (drop_all i ns le)) tt

  pub all_more : (ns : List (Option TypedNode)) (i : ℕ) (x : Option TypedNode) → i < length ns → x ≡ get_or ns i x → part_ends (option_map (called g) (option_map (seen t) x)) ≡ true →
      list_all part_ends (all_called g (map (option_map (seen t)) (drop (i + 1) ns))) ≡ list_all part_ends (all_called g (map (option_map (seen t)) (drop i ns)))
  all_more ns i x lt e here =
      sym (ap (λ (ms : List (Option TypedNode)). list_all part_ends (all_called g (map (option_map (seen t)) ms))) (drop_step ns i x x lt e)
      ∙ ap (λ b. b && list_all part_ends (all_called g (map (option_map (seen t)) (drop (i + 1) ns)))) here)

  pub all_left : (ns : List (Option TypedNode)) (i : ℕ) → length ns ≤ i → list_all part_ends (all_called g (map (option_map (seen t)) (drop i ns))) ≡ true
  all_left ns i le = ap (λ (ms : List (Option TypedNode)). list_all part_ends (all_called g (map (option_map (seen t)) ms))) (drop_all i ns le)

  pub last_kept : (ns : List (Option TypedNode)) (n : TypedNode) → Some (seen t n) ≡ last_or None (staying g 0 (map (option_map (seen t)) ns)) → terminates (called g (seen t n)) ≡ true →
      last_ends (all_called g (staying g 0 (map (option_map (seen t)) ns))) ≡ true
  last_kept ns n last e = ends_last g (staying g 0 (map (option_map (seen t)) ns)) ∙ ap (λ o. part_ends (option_map (called g) o)) (sym last) ∙ e

  pub both_kept : (ns : List (Option TypedNode)) (b e : Option TypedNode) → 4 ≤ length ns → length ns < 5 → b ≡ get_or ns 2 b → e ≡ get_or ns 3 e →
      part_ends (option_map (called g) (option_map (seen t) b)) ≡ true → part_ends (option_map (called g) (option_map (seen t) e)) ≡ true → both_branches (all_called g (map (option_map (seen t)) ns)) ≡ true
  both_kept [] b e low high p q h k = absurd (omega (arith, low))
  both_kept (a ∷ []) b e low high p q h k = absurd (omega (arith, low))
  both_kept (a ∷ c ∷ []) b e low high p q h k = absurd (omega (arith, low))
  both_kept (a ∷ c ∷ x ∷ []) b e low high p q h k = absurd (omega (arith, low))
  both_kept (a ∷ c ∷ x ∷ y ∷ []) b e low high p q h k =
      let ends : Option TypedNode → Bool = λ o. part_ends (option_map (called g) (option_map (seen t) o)) in
      ap (λ z. z && ends y) (ap ends (sym p) ∙ h) ∙ ap ends (sym q) ∙ k
  both_kept (a ∷ c ∷ x ∷ y ∷ z ∷ ns) b e low high p q h k = absurd (omega (arith, high))

  pub clauses_kept : (ns cs : List (Option TypedNode)) → 2 ≤ length ns → cs ≡ take (length ns - 2) (drop 2 ns) → list_any is_default_clause (all_called g (map (option_map (seen t)) cs)) ≡ true →
      NoneBreaks g (map (option_map (seen t)) cs) → list_all part_ends (all_called g (map (option_map (seen t)) cs)) ≡ true → all_clauses_end (all_called g (map (option_map (seen t)) ns)) ≡ true
  clauses_kept [] cs low e has never ends = absurd (omega (arith, low))
  clauses_kept (a ∷ []) cs low e has never ends = absurd (omega (arith, low))
  clauses_kept (a ∷ c ∷ ns) cs low e has never ends =
      let xs = all_called g (map (option_map (seen t)) cs) in
      let same : ns ≡ cs = sym (e ∙ take_all (length (a ∷ c ∷ ns) - 2) ns (omega arith)) in
      ap (λ (ms : List (Option TypedNode)). all_clauses_end (all_called g (map (option_map (seen t)) (a ∷ c ∷ ms)))) same
      ∙ ap (λ b. b && not (list_any part_breaks xs) && list_all part_ends xs) has
      ∙ ap (λ b. not b && list_all part_ends xs) (none_any g (map (option_map (seen t)) cs) never)
      ∙ ends

  pub last_ordered : (ns : List (Option TypedNode)) (i : ℕ) (n : TypedNode) (x : Option TypedNode) → i + 1 ≡ length ns → x ≡ get_or ns i x → x ≡ Some n → list_all (begins_by (out-TypedNode n).first) ns ≡ true → LeavesOut g (first_of (view n)) →
      Some (seen t n) ≡ last_or None (staying g 0 (map (option_map (seen t)) ns))
  last_ordered ns i n x end e is low leaves =
      let first : first_of (view n) ≡ (out-TypedNode n).first = ap first_of (view_out n) in
      let some = leaves.some in
      elim leaves.out [
        | inl front ↦ last_behind t g ns i n x (out-TypedNode n).first end e is low (subst (λ (k : ℕ). k < g.from) first front)
        | inr behind ↦ last_stays t g ns i n x end e is some (subst (λ (k : ℕ). g.upto ≤ k) first behind)
      ]

  pub falls_kept : (ns : List (Option TypedNode)) (n : TypedNode) → Some (seen t n) ≡ last_or None (staying g 0 (map (option_map (seen t)) ns)) → is_fallthrough (form_of (seen t n)) ≡ true →
      last_falls (all_called g (staying g 0 (map (option_map (seen t)) ns))) ≡ true
  falls_kept ns n last e = falls_last g (staying g 0 (map (option_map (seen t)) ns)) ∙ ap is_fallthrough_part (sym last) ∙ e

-- ---- statements by their forms

pub ended : (g : Found) (x : Part) (f : Form) (xs : Parts) → f ≡ form_of x → xs ≡ list_of (parts_of x) → ends_over g f xs ≡ true → terminates (called g x) ≡ true
ended g x f xs e p h = terminates_by g x ∙ ap (λ k. ends_over g k (list_of (parts_of x))) (sym e) ∙ ap (ends_over g f) (sym p) ∙ h

-- ---- answers

pub keeps_less : {S E : Type 0} (r : Result Bool E) (s : HashSet ℕ S) (p q : Found → Bool) → ((g : Found) → Spares g s → p g ≡ true → q g ≡ true) →
    IfOk r (λ b. Keeps b s p) → IfOk r (λ b. Keeps b s q)
keeps_less (Ok b) s p q f h = λ e g spared. f g spared (h e g spared)
keeps_less (Err e) s p q f h = tt

pub keeps_both : {S E X : Type 0} (r : Result Bool E) (s : HashSet ℕ S) (p q : Found → Bool) → (X → (g : Found) → Spares g s → p g ≡ true → q g ≡ true) →
    OnOk r X → IfOk r (λ b. Keeps b s p) → IfOk r (λ b. Keeps b s q)
keeps_both (Ok b) s p q f x h = λ e g spared. f x g spared (h e g spared)
keeps_both (Err e) s p q f x h = tt

pub or_right : (a b : Bool) → b ≡ true → (a || b) ≡ true
or_right true b e = refl
or_right false b e = e

-- ---- functions

module _ {S : Type 0} (t : Table) where
  pub kept_more : (fs : List FuncView) (os : List (Option (HashSet ℕ S))) (f : FuncView) (o : Option (HashSet ℕ S)) → KeepEnds t fs os → KeepsEnd t f o → KeepEnds t (fs ++ f ∷ []) (os ++ o ∷ [])
  kept_more [] [] f o h k = (k, tt)
  kept_more [] (p ∷ os) f o h k = absurd h
  kept_more (g ∷ fs) [] f o h k = absurd h
  kept_more (g ∷ fs) (p ∷ os) f o h k = (h.0, kept_more fs os f o h.1 k)

  pub kept_at : (fs : List FuncView) (os : List (Option (HashSet ℕ S))) (n : ℕ) (f : FuncView) (o : Option (HashSet ℕ S)) → KeepEnds t fs os → slice_get fs n ≡ Some f → slice_get os n ≡ Some o → KeepsEnd t f o
  kept_at [] os n f o h e p = cc
  kept_at (g ∷ fs) [] n f o h e p = absurd h
  kept_at (g ∷ fs) (q ∷ os) zero f o h e p =
      let same : g ≡ f = cc in
      let alike : q ≡ o = cc in
      subst (λ (x : FuncView). KeepsEnd t x o) same (subst (KeepsEnd t g) alike h.0)
  kept_at (g ∷ fs) (q ∷ os) (suc n) f o h e p = kept_at fs os n f o h.1 e p
