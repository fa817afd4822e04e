-- Rules on the names that a function looks up which begins with a copy of a run.
use Rattle.std.proofs.Common.{◌≡◌, ◌∙◌, ℕ, suc, ◌-◌, Bool, false, List, [], length, Option, Some, None, refl, sym, ap, subst, arith}
use Rattle.std.specs.Prelude.{◌&&◌, option_map}
use Rattle.go_tree.specs.declared.context.Role.{Role}
use Rattle.go_tree.specs.declared.context.Role.TheVariants as role
use Rattle.go_tree.specs.declared.event.Event.{Event}
use Rattle.go_tree.specs.declared.event.Event.TheVariants as event
use Rattle.go_tree.specs.declared.event.Use.{Use}
use Rattle.go_tree.specs.declared.object.Object.{Object}
use Rattle.go_tree.specs.declared.object.Object.TheVariants as object
use Rattle.go_tree.specs.Lookups.{Asked, object_asked, lacks_meaning, undeclared, is_unknown, outside_names, is_import, is_other_member, outside_members, is_no_call, not_called, is_initial, initialisers}
use Rattle.go_tree.specs.Units.{is_blank}
use Rattle.go_heads.specs.Bodies.{function_events}
use Rattle.go_heads.specs.Functions.{Alone}
use Rattle.go_heads.specs.Names.{own_text}
use Rattle.go_scopes_bodies.specs.Carried.{carried_role, carried_use}
use Rattle.go_scopes_bodies.specs.Faults.{own_selected, own_ask, own_asked, own_second_declarations, own_undeclared, own_outside_names, own_outside_members, own_not_called, own_initialisers}
use Rattle.go_scopes_bodies.specs.Meant.{Meant, own, outside, Outer, own_meant}
use Rattle.extract_names.specs.Gaps.{Among}
use Rattle.extract_names.specs.Pieces.{told_before}
use Rattle.extract_names.specs.Sites.{IsPlain, renumbered}
use Rattle.extract_names.specs.Copies.{Copy, IsKept, RoleCopied, UseCopied, TailTells, InSignature, InReturn, IsCopy, copied_number}
use Rattle.extract_names.proofs.Replaced.{each_among}
use Rattle.extract_names.proofs.Asked.{which_used, asked_all, asked_of, Off, rule_off, off_rule, is_undeclared, is_outside, is_member, is_uncalled, is_early, object_meant, asked_object, under, same_lack, same_unknown, same_import, plain_declared, plain_known, plain_import, other_same, call_same, off_import}
use Rattle.extract_names.proofs.CopiedRows as rows
use Rattle.extract_names.proofs.Copied as copied
use Rattle.extract_names.proofs.CopyNames.{IsSimple, in_head, in_copy, in_hole, in_tail, declared, undeclared as outer_named}
use Rattle.extract_names.proofs.CopyNames as names

same_meant : (o : Meant) → renumbered (λ n. n) o ≡ o
same_meant (own (object.Local f n)) = refl
same_meant (own (object.Package n)) = refl
same_meant (own object.Import) = refl
same_meant (own (object.Predeclared p)) = refl
same_meant (outside o) = refl

simple_plain : (o : Object) → IsSimple o → IsPlain (own o)
simple_plain (object.Package n) h = tt
simple_plain (object.Local f n) h = tt
simple_plain object.Import h = absurd h
simple_plain (object.Predeclared p) h = absurd h

module _ (a new : Alone) (outer : Outer) (c : Copy) (copy : IsCopy a outer c new) (free : own_second_declarations a ≡ []) where
  abbrev m : ℕ → ℕ
  m = c.place

  abbrev old_events : List Event
  old_events = function_events a

  abbrev new_events : List Event
  new_events = function_events new

  abbrev run_events : List Event
  run_events = told_before copy.pieces

  abbrev σ : ℕ → ℕ
  σ n = copied_number a c new n

  -- a copied name means the same
  pub copied_meant : (u : Use) → Among (event.Use u) run_events → IsKept c u.name → own_meant new outer (m u.name) (own_text a u.name) ≡ under σ (own_meant a outer u.name (own_text a u.name))
  copied_meant u k s =
      copied.kept_use a new outer c copy u.name s (which_used 0 (length a.texts) old_events copy.order u (rows.from_run a new outer c copy (event.Use u) k)) ∙ rename_is (own_meant a outer u.name (own_text a u.name))
    where
      rename_is : (o : Option Meant) → option_map (renumbered σ) o ≡ under σ o
      rename_is None = refl
      rename_is (Some o) = refl

  -- another name means something plain
  pub other_meant : (u : Use) → is_blank (own_text new u.name) ≡ false → names.Other a new outer c copy u → (o : Meant) × IsPlain o × (own_meant new outer u.name (own_text new u.name) ≡ Some o)
  other_meant u b (declared x k e) =
      let s = names.some_declared a new outer c copy x k in
      (own s.0, simple_plain s.0 s.2, names.meant_by a new outer c copy u.name (own_text new u.name) (Some x) b e ∙ s.1)
  other_meant u b (outer_named o e f p) =
      (outside o, p, names.meant_by a new outer c copy u.name (own_text new u.name) None b e ∙ ap (option_map outside) f)

  -- ---- a rule by its test

  module _ (T : Asked → Bool)
      (stays : (u : Use) → Among (event.Use u) run_events → UseCopied c u → is_blank (own_text a u.name) ≡ false → T (own_ask a outer u) ≡ false → T (own_ask new outer (carried_use m u)) ≡ false)
      (others : (u : Use) (o : Meant) → IsPlain o → u.initial ≡ false → is_blank (own_text new u.name) ≡ false → own_meant new outer u.name (own_text new u.name) ≡ Some o → T (own_ask new outer u) ≡ false) where
    other_off : (u : Use) → u.initial ≡ false → is_blank (own_text new u.name) ≡ false → names.Other a new outer c copy u → T (own_ask new outer u) ≡ false
    other_off u i b n = let o = other_meant u b n in others u o.0 o.1 i b o.2

    by_whence : (u : Use) → Off T (own_asked a outer) → is_blank (own_text new u.name) ≡ false → names.Whence a new outer c copy (event.Use u) → T (own_ask new outer u) ≡ false
    by_whence u h b (in_head k) = let s = each_among (InSignature new outer c) (event.Use u) copy.head copy.signature k in other_off u s.initial b (names.head_other a new outer c copy u s)
    by_whence u h b (in_copy (event.Use x) q s k) =
        let p : carried_use m x ≡ u = cc in
        let clear : is_blank (own_text a x.name) ≡ false = ap is_blank (sym (copy.texts x.name s.name) ∙ ap (λ (z : Use). own_text new z.name) p) ∙ b in
        subst (λ (z : Use). T (own_ask new outer z) ≡ false) p (stays x k s clear (asked_all a outer (λ y. T y ≡ false) old_events h x (rows.from_run a new outer c copy (event.Use x) k) clear))
    by_whence u h b (in_copy (event.Declaration x) q s k) = cc
    by_whence u h b (in_copy (event.Import x) q s k) = cc
    by_whence u h b (in_copy (event.Member x g y) q s k) = cc
    by_whence u h b (in_copy (event.Bodiless x y) q s k) = cc
    by_whence u h b (in_copy (event.Statement x y) q s k) = cc
    by_whence u h b (in_copy (event.Misplaced x y) q s k) = cc
    by_whence u h b (in_copy (event.SecondDefault x) q s k) = cc
    by_whence u h b (in_hole r k n) = other_off u n.initial b (names.hole_other a new outer c copy u r k n)
    by_whence u h b (in_tail k) =
        let s = each_among (InReturn a new c run_events) (event.Use u) copy.tail copy.returns k in
        other_off u s.initial b (names.tail_other a new outer c copy free u (each_among (TailTells c) (event.Use u) copy.tail copy.tail_tells k) s)

    pub off_new : Off T (own_asked a outer) → Off T (own_asked new outer)
    off_new h = asked_of new outer (λ y. T y ≡ false) new_events (λ u k b. by_whence u h b (names.whence a new outer c copy (event.Use u) k))

  -- the object of a copied name
  kept_object : (u : Use) → Among (event.Use u) run_events → IsKept c u.name → is_blank (own_text a u.name) ≡ false → object_asked (own_ask new outer (carried_use m u)) ≡ object_meant (own_text a u.name) (under σ (own_meant a outer u.name (own_text a u.name)))
  kept_object u k s b =
      let t : own_text new (m u.name) ≡ own_text a u.name = copy.texts u.name s in
      asked_object new outer (carried_use m u) (ap is_blank t ∙ b)
      ∙ ap (λ w. object_meant w (own_meant new outer (m u.name) w)) t
      ∙ ap (object_meant (own_text a u.name)) (copied_meant u k s)

  -- and of another one
  new_object : (u : Use) (o : Meant) → is_blank (own_text new u.name) ≡ false → own_meant new outer u.name (own_text new u.name) ≡ Some o → object_asked (own_ask new outer u) ≡ object_meant (own_text new u.name) (under (λ n. n) (Some o))
  new_object u o b e = asked_object new outer u b ∙ ap (object_meant (own_text new u.name)) (e ∙ ap (λ z. Some z) (sym (same_meant o)))

  pub undeclared_stay : own_undeclared a outer ≡ [] → own_undeclared new outer ≡ []
  undeclared_stay e =
      off_rule is_undeclared (λ x. x.place) undeclared refl (λ x xs. refl) (own_asked new outer)
      (off_new is_undeclared
      (λ u k s b h.
      ap (λ w. lacks_meaning u.constant w (object_asked (own_ask new outer (carried_use m u)))) (copy.texts u.name s.name)
      ∙ ap (lacks_meaning u.constant (own_text a u.name)) (kept_object u k s.name b)
      ∙ same_lack σ u.constant (own_text a u.name) (own_meant a outer u.name (own_text a u.name))
      ∙ ap (lacks_meaning u.constant (own_text a u.name)) (sym (asked_object a outer u b)) ∙ h)
      (λ u o p i b n. ap (lacks_meaning u.constant (own_text new u.name)) (new_object u o b n) ∙ plain_declared (λ n. n) u.constant (own_text new u.name) o p)
      (rule_off is_undeclared (λ x. x.place) undeclared refl (λ x xs. refl) (own_asked a outer) e))

  pub outside_stay : own_outside_names a outer ≡ [] → own_outside_names new outer ≡ []
  outside_stay e =
      off_rule is_outside (λ x. x.place) outside_names refl (λ x xs. refl) (own_asked new outer)
      (off_new is_outside
      (λ u k s b h.
      ap (λ w. is_unknown w (object_asked (own_ask new outer (carried_use m u)))) (copy.texts u.name s.name)
      ∙ ap (is_unknown (own_text a u.name)) (kept_object u k s.name b)
      ∙ same_unknown σ (own_text a u.name) (own_meant a outer u.name (own_text a u.name))
      ∙ ap (is_unknown (own_text a u.name)) (sym (asked_object a outer u b)) ∙ h)
      (λ u o p i b n. ap (is_unknown (own_text new u.name)) (new_object u o b n) ∙ plain_known (λ n. n) (own_text new u.name) o)
      (rule_off is_outside (λ x. x.place) outside_names refl (λ x xs. refl) (own_asked a outer) e))

  -- the last name of a selector
  selected_same : (r : Role) → RoleCopied c r → own_selected new (carried_role m r) ≡ own_selected a r
  selected_same (role.Selected last called) (x, e, s) =
      let n : m last ≡ suc (m x) = ap m e ∙ copy.next x s in
      let o : m last - 1 ≡ m x = omega (arith, n) in
      let l : x ≡ last - 1 = omega (arith, e) in
      ap (own_text new) o ∙ copy.texts x s ∙ ap (own_text a) l
  selected_same role.Operand h = refl
  selected_same role.Assigned h = refl
  selected_same role.Called h = refl
  selected_same (role.New d) h = refl
  selected_same (role.Field g) h = refl
  selected_same (role.Key g) h = refl
  selected_same (role.Parameter g s) h = refl

  import_same : (u : Use) → Among (event.Use u) run_events → IsKept c u.name → is_blank (own_text a u.name) ≡ false → is_import (object_asked (own_ask new outer (carried_use m u))) ≡ is_import (object_asked (own_ask a outer u))
  import_same u k s b = ap is_import (kept_object u k s b) ∙ same_import σ (own_text a u.name) (own_meant a outer u.name (own_text a u.name)) ∙ ap is_import (sym (asked_object a outer u b))

  pub members_outside_stay : own_outside_members a outer ≡ [] → own_outside_members new outer ≡ []
  members_outside_stay e =
      off_rule is_member (λ x. x.whole) outside_members refl (λ x xs. refl) (own_asked new outer)
      (off_new is_member
      (λ u k s b h.
      ap (λ z. z && is_other_member (carried_role m u.role) (own_selected new (carried_role m u.role))) (import_same u k s.name b)
      ∙ ap (λ z. is_import (object_asked (own_ask a outer u)) && z) (other_same m u.role (own_selected new (carried_role m u.role)) ∙ ap (is_other_member u.role) (selected_same u.role s.role)) ∙ h)
      (λ u o p i b n. off_import (is_import (object_asked (own_ask new outer u))) (is_other_member u.role (own_selected new u.role)) (ap is_import (new_object u o b n) ∙ plain_import (λ n. n) (own_text new u.name) o p))
      (rule_off is_member (λ x. x.whole) outside_members refl (λ x xs. refl) (own_asked a outer) e))

  pub calls_stay : own_not_called a outer ≡ [] → own_not_called new outer ≡ []
  calls_stay e =
      off_rule is_uncalled (λ x. x.whole) not_called refl (λ x xs. refl) (own_asked new outer)
      (off_new is_uncalled
      (λ u k s b h.
      ap (λ z. z && is_no_call (carried_role m u.role) (own_selected new (carried_role m u.role))) (import_same u k s.name b)
      ∙ ap (λ z. is_import (object_asked (own_ask a outer u)) && z) (call_same m u.role (own_selected new (carried_role m u.role)) ∙ ap (is_no_call u.role) (selected_same u.role s.role)) ∙ h)
      (λ u o p i b n. off_import (is_import (object_asked (own_ask new outer u))) (is_no_call u.role (own_selected new u.role)) (ap is_import (new_object u o b n) ∙ plain_import (λ n. n) (own_text new u.name) o p))
      (rule_off is_uncalled (λ x. x.whole) not_called refl (λ x xs. refl) (own_asked a outer) e))

  pub initialisers_stay : own_initialisers a outer ≡ [] → own_initialisers new outer ≡ []
  initialisers_stay e =
      off_rule is_early (λ x. x.place) initialisers refl (λ x xs. refl) (own_asked new outer)
      (off_new is_early
      (λ u k s b h. off_import u.initial (is_initial (own_ask new outer (carried_use m u)).meaning) s.initial)
      (λ u o p i b n. off_import u.initial (is_initial (own_ask new outer u).meaning) i)
      (rule_off is_early (λ x. x.place) initialisers refl (λ x xs. refl) (own_asked a outer) e))
