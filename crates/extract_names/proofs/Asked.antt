-- Rules on the names that a function looks up, with runs replaced.
use Rattle.std.proofs.Common.{◌≡◌, ◌∙◌, ℕ, suc, ◌+◌, ◌-◌, ◌<◌, ◌≤◌, ◌⊎◌, inl, inr, Bool, true, false, List, [], ◌∷◌, length, Option, Some, None, refl, sym, ap, subst, arith}
use Rattle.std.specs.Prelude.{if◌then◌else◌, ◌&&◌, slice_get}
use Rattle.go_rewriting.specs.Places.{become}
use Rattle.go_tree.specs.declared.context.Role.{Role}
use Rattle.go_tree.specs.declared.context.Role.TheVariants as role
use Rattle.go_tree.specs.declared.event.Event.{Event}
use Rattle.go_tree.specs.declared.event.Event.TheVariants as event
use Rattle.go_tree.specs.declared.event.Use.{Use}
use Rattle.go_tree.specs.declared.object.Object.{Object}
use Rattle.go_tree.specs.declared.object.Object.TheVariants as object
use Rattle.go_tree.specs.declared.object.Predeclared.TheVariants as predeclared
use Rattle.go_tree.specs.Contexts.{file_context}
use Rattle.go_tree.specs.Failures.{place_if}
use Rattle.go_tree.specs.Lookups.{Asked, object_asked, lacks_meaning, undeclared, is_unknown, outside_names, is_import, is_other_member, outside_members, is_no_call, not_called, is_initial, initialisers}
use Rattle.go_tree.specs.Meanings.{Meaning}
use Rattle.go_tree.specs.Objects.{object_by, predeclared_object}
use Rattle.go_tree.specs.Units.{Place, is_blank}
use Rattle.go_scopes_events.specs.Orders.{AreInOrder}
use Rattle.go_scopes_events.specs.Scopes.{otherwise}
use Rattle.go_heads.specs.Functions.{Alone}
use Rattle.go_heads.specs.Names.{text_there, own_text}
use Rattle.go_heads.proofs.Public.{Every}
use Rattle.go_scopes_bodies.specs.Carried.{carried_event, carried_role, carried_use}
use Rattle.go_scopes_bodies.specs.Faults.{outer_meaning, own_selected, own_ask, asked_among, own_asked, own_second_declarations, own_undeclared, own_outside_names, own_outside_members, own_not_called, own_initialisers}
use Rattle.go_scopes_bodies.specs.Meant.{Meant, own, outside, Outer, own_local, or_outside, own_meant, own_object}
use Rattle.extract_names.specs.Gaps.{Gap, moved_by, Among, Stays}
use Rattle.extract_names.specs.Pieces.{TellsPieces}
use Rattle.extract_names.specs.Sites.{declared_at, IsPlain, RoleStays, EventStays, UseIsNew, EventIsNew, IsNamed, IsSite, renumbered, new_number, renamed}
use Rattle.extract_names.proofs.Edges.{is_eq, not_eq, next_moved}
use Rattle.extract_names.proofs.Founds.{looked_up, declaring, which, pick, first_of_two, object_is}
use Rattle.extract_names.proofs.Replaced as replaced
use Rattle.extract_names.proofs.Kept as kept
use Rattle.extract_names.proofs.Said as names

-- ---- names that are looked up

use_low : (i j : ℕ) (es : List Event) → AreInOrder i j es → (u : Use) → Among (event.Use u) es → i ≤ u.name
use_low i j [] h u k = absurd k
use_low i j (event.Use x ∷ es) h u (inl e) = let q : u.name ≡ x.name = cc in let le : i ≤ x.name = h.0 in omega (arith, q, le)
use_low i j (event.Use x ∷ es) h u (inr k) = let le : i ≤ x.name = h.0 in let lt : suc x.name ≤ u.name = use_low (suc x.name) j es h.1 u k in omega (arith, le, lt)
use_low i j (event.Declaration d ∷ es) h u (inl e) = cc
use_low i j (event.Declaration d ∷ es) h u (inr k) = let le : i ≤ d.name = h.0 in let lt : suc d.name ≤ u.name = use_low (suc d.name) j es h.1 u k in omega (arith, le, lt)
use_low i j (event.Import x ∷ es) h u (inl e) = cc
use_low i j (event.Import x ∷ es) h u (inr k) = use_low i j es h u k
use_low i j (event.Member m g x ∷ es) h u (inl e) = cc
use_low i j (event.Member m g x ∷ es) h u (inr k) = use_low i j es h u k
use_low i j (event.Bodiless x y ∷ es) h u (inl e) = cc
use_low i j (event.Bodiless x y ∷ es) h u (inr k) = use_low i j es h u k
use_low i j (event.Statement x y ∷ es) h u (inl e) = cc
use_low i j (event.Statement x y ∷ es) h u (inr k) = use_low i j es h u k
use_low i j (event.Misplaced x y ∷ es) h u (inl e) = cc
use_low i j (event.Misplaced x y ∷ es) h u (inr k) = use_low i j es h u k
use_low i j (event.SecondDefault x ∷ es) h u (inl e) = cc
use_low i j (event.SecondDefault x ∷ es) h u (inr k) = use_low i j es h u k

-- a name that is looked up is told so: no other stands there
pub which_used : (i j : ℕ) (es : List Event) → AreInOrder i j es → (u : Use) → Among (event.Use u) es → which u.name es ≡ looked_up
which_used i j [] h u k = absurd k
which_used i j (event.Use x ∷ es) h u (inl e) = let n : x.name ≡ u.name = cc in ap (λ b. if b then looked_up else which u.name es) (is_eq x.name u.name n)
which_used i j (event.Use x ∷ es) h u (inr k) =
    let lt : suc x.name ≤ u.name = use_low (suc x.name) j es h.1 u k in
    ap (λ b. if b then looked_up else which u.name es) (not_eq x.name u.name (λ e. omega (arith, lt, e))) ∙ which_used (suc x.name) j es h.1 u k
which_used i j (event.Declaration d ∷ es) h u (inl e) = cc
which_used i j (event.Declaration d ∷ es) h u (inr k) =
    let lt : suc d.name ≤ u.name = use_low (suc d.name) j es h.1 u k in
    ap (λ b. if b then declaring else which u.name es) (not_eq d.name u.name (λ e. omega (arith, lt, e))) ∙ which_used (suc d.name) j es h.1 u k
which_used i j (event.Import x ∷ es) h u (inl e) = cc
which_used i j (event.Import x ∷ es) h u (inr k) = which_used i j es h u k
which_used i j (event.Member m g x ∷ es) h u (inl e) = cc
which_used i j (event.Member m g x ∷ es) h u (inr k) = which_used i j es h u k
which_used i j (event.Bodiless x y ∷ es) h u (inl e) = cc
which_used i j (event.Bodiless x y ∷ es) h u (inr k) = which_used i j es h u k
which_used i j (event.Statement x y ∷ es) h u (inl e) = cc
which_used i j (event.Statement x y ∷ es) h u (inr k) = which_used i j es h u k
which_used i j (event.Misplaced x y ∷ es) h u (inl e) = cc
which_used i j (event.Misplaced x y ∷ es) h u (inr k) = which_used i j es h u k
which_used i j (event.SecondDefault x ∷ es) h u (inl e) = cc
which_used i j (event.SecondDefault x ∷ es) h u (inr k) = which_used i j es h u k

named_used : (u : Use) (es : List Event) → Among (event.Use u) es → IsNamed u.name es
named_used u [] k = absurd k
named_used u (event.Use x ∷ es) (inl e) = inl (let q : x.name ≡ u.name = cc in q)
named_used u (event.Use x ∷ es) (inr k) = inr (named_used u es k)
named_used u (event.Declaration d ∷ es) (inl e) = cc
named_used u (event.Declaration d ∷ es) (inr k) = inr (named_used u es k)
named_used u (event.Import x ∷ es) (inl e) = cc
named_used u (event.Import x ∷ es) (inr k) = named_used u es k
named_used u (event.Member m g x ∷ es) (inl e) = cc
named_used u (event.Member m g x ∷ es) (inr k) = named_used u es k
named_used u (event.Bodiless x y ∷ es) (inl e) = cc
named_used u (event.Bodiless x y ∷ es) (inr k) = named_used u es k
named_used u (event.Statement x y ∷ es) (inl e) = cc
named_used u (event.Statement x y ∷ es) (inr k) = named_used u es k
named_used u (event.Misplaced x y ∷ es) (inl e) = cc
named_used u (event.Misplaced x y ∷ es) (inr k) = named_used u es k
named_used u (event.SecondDefault x ∷ es) (inl e) = cc
named_used u (event.SecondDefault x ∷ es) (inr k) = named_used u es k

module _ (a : Alone) (outer : Outer) (Q : Asked → Type 0) where
  -- what holds of all that is asked, name by name
  pub asked_all : (es : List Event) → Every Q (asked_among a outer es) → (u : Use) → Among (event.Use u) es → is_blank (own_text a u.name) ≡ false → Q (own_ask a outer u)
  asked_all [] h u k b = absurd k
  asked_all (event.Use x ∷ es) h u k b = by (is_blank (own_text a x.name)) refl h k (asked_all es)
    where
      by : (c : Bool) → is_blank (own_text a x.name) ≡ c → Every Q (if c then asked_among a outer es else own_ask a outer x ∷ asked_among a outer es) → Among (event.Use u) (event.Use x ∷ es)
          → (Every Q (asked_among a outer es) → (u : Use) → Among (event.Use u) es → is_blank (own_text a u.name) ≡ false → Q (own_ask a outer u)) → Q (own_ask a outer u)
      by true c h (inl e) go = let q : x ≡ u = cc in let d : is_blank (own_text a u.name) ≡ true = subst (λ (z : Use). is_blank (own_text a z.name) ≡ true) q c in cc
      by false c h (inl e) go = let q : x ≡ u = cc in subst (λ (z : Use). Q (own_ask a outer z)) q h.0
      by true c h (inr k) go = go h u k b
      by false c h (inr k) go = go h.1 u k b
  asked_all (event.Declaration d ∷ es) h u (inl e) b = cc
  asked_all (event.Declaration d ∷ es) h u (inr k) b = asked_all es h u k b
  asked_all (event.Import x ∷ es) h u (inl e) b = cc
  asked_all (event.Import x ∷ es) h u (inr k) b = asked_all es h u k b
  asked_all (event.Member m g x ∷ es) h u (inl e) b = cc
  asked_all (event.Member m g x ∷ es) h u (inr k) b = asked_all es h u k b
  asked_all (event.Bodiless x y ∷ es) h u (inl e) b = cc
  asked_all (event.Bodiless x y ∷ es) h u (inr k) b = asked_all es h u k b
  asked_all (event.Statement x y ∷ es) h u (inl e) b = cc
  asked_all (event.Statement x y ∷ es) h u (inr k) b = asked_all es h u k b
  asked_all (event.Misplaced x y ∷ es) h u (inl e) b = cc
  asked_all (event.Misplaced x y ∷ es) h u (inr k) b = asked_all es h u k b
  asked_all (event.SecondDefault x ∷ es) h u (inl e) b = cc
  asked_all (event.SecondDefault x ∷ es) h u (inr k) b = asked_all es h u k b

  pub asked_of : (es : List Event) → ((u : Use) → Among (event.Use u) es → is_blank (own_text a u.name) ≡ false → Q (own_ask a outer u)) → Every Q (asked_among a outer es)
  asked_of [] f = tt
  asked_of (event.Use x ∷ es) f = by (is_blank (own_text a x.name)) refl (asked_of es (λ u k b. f u (inr k) b))
    where
      by : (c : Bool) → is_blank (own_text a x.name) ≡ c → Every Q (asked_among a outer es) → Every Q (if c then asked_among a outer es else own_ask a outer x ∷ asked_among a outer es)
      by true c h = h
      by false c h = (f x (inl refl) c, h)
  asked_of (event.Declaration d ∷ es) f = asked_of es (λ u k b. f u (inr k) b)
  asked_of (event.Import x ∷ es) f = asked_of es (λ u k b. f u (inr k) b)
  asked_of (event.Member m g x ∷ es) f = asked_of es (λ u k b. f u (inr k) b)
  asked_of (event.Bodiless x y ∷ es) f = asked_of es (λ u k b. f u (inr k) b)
  asked_of (event.Statement x y ∷ es) f = asked_of es (λ u k b. f u (inr k) b)
  asked_of (event.Misplaced x y ∷ es) f = asked_of es (λ u k b. f u (inr k) b)
  asked_of (event.SecondDefault x ∷ es) f = asked_of es (λ u k b. f u (inr k) b)

-- each name that is asked is one that is looked up, and isn't blank
pub asked_told : (a : Alone) (outer : Outer) (es : List Event) (u : Use) → Among (event.Use u) es → is_blank (own_text a u.name) ≡ false → Among (own_ask a outer u) (asked_among a outer es)
asked_told a outer [] u k b = absurd k
asked_told a outer (event.Use x ∷ es) u k b = by (is_blank (own_text a x.name)) refl k (λ m. asked_told a outer es u m b)
  where
    by : (c : Bool) → is_blank (own_text a x.name) ≡ c → Among (event.Use u) (event.Use x ∷ es) → (Among (event.Use u) es → Among (own_ask a outer u) (asked_among a outer es)) → Among (own_ask a outer u) (if c then asked_among a outer es else own_ask a outer x ∷ asked_among a outer es)
    by true c (inl e) go = let q : u ≡ x = cc in let d : is_blank (own_text a u.name) ≡ true = ap (λ (z : Use). is_blank (own_text a z.name)) q ∙ c in cc
    by true c (inr m) go = go m
    by false c (inl e) go = inl (let q : u ≡ x = cc in ap (own_ask a outer) q)
    by false c (inr m) go = inr (go m)
asked_told a outer (event.Declaration d ∷ es) u (inl e) b = cc
asked_told a outer (event.Declaration d ∷ es) u (inr k) b = asked_told a outer es u k b
asked_told a outer (event.Import x ∷ es) u (inl e) b = cc
asked_told a outer (event.Import x ∷ es) u (inr k) b = asked_told a outer es u k b
asked_told a outer (event.Member m g x ∷ es) u (inl e) b = cc
asked_told a outer (event.Member m g x ∷ es) u (inr k) b = asked_told a outer es u k b
asked_told a outer (event.Bodiless x y ∷ es) u (inl e) b = cc
asked_told a outer (event.Bodiless x y ∷ es) u (inr k) b = asked_told a outer es u k b
asked_told a outer (event.Statement x y ∷ es) u (inl e) b = cc
asked_told a outer (event.Statement x y ∷ es) u (inr k) b = asked_told a outer es u k b
asked_told a outer (event.Misplaced x y ∷ es) u (inl e) b = cc
asked_told a outer (event.Misplaced x y ∷ es) u (inr k) b = asked_told a outer es u k b
asked_told a outer (event.SecondDefault x ∷ es) u (inl e) b = cc
asked_told a outer (event.SecondDefault x ∷ es) u (inr k) b = asked_told a outer es u k b

pub asked_use : (a : Alone) (outer : Outer) (es : List Event) (x : Asked) → Among x (asked_among a outer es) → (u : Use) × Among (event.Use u) es × (is_blank (own_text a u.name) ≡ false) × (x ≡ own_ask a outer u)
asked_use a outer [] x k = absurd k
asked_use a outer (event.Use u ∷ es) x k = by (is_blank (own_text a u.name)) refl k (asked_use a outer es x)
  where
    by : (c : Bool) → is_blank (own_text a u.name) ≡ c → Among x (if c then asked_among a outer es else own_ask a outer u ∷ asked_among a outer es)
        → (Among x (asked_among a outer es) → (z : Use) × Among (event.Use z) es × (is_blank (own_text a z.name) ≡ false) × (x ≡ own_ask a outer z)) → (z : Use) × Among (event.Use z) (event.Use u ∷ es) × (is_blank (own_text a z.name) ≡ false) × (x ≡ own_ask a outer z)
    by true c k go = let z = go k in (z.0, inr z.1, z.2, z.3)
    by false c (inl e) go = (u, inl refl, c, e)
    by false c (inr k) go = let z = go k in (z.0, inr z.1, z.2, z.3)
asked_use a outer (event.Declaration d ∷ es) x k = let z = asked_use a outer es x k in (z.0, inr z.1, z.2, z.3)
asked_use a outer (event.Import i ∷ es) x k = let z = asked_use a outer es x k in (z.0, inr z.1, z.2, z.3)
asked_use a outer (event.Member m g i ∷ es) x k = let z = asked_use a outer es x k in (z.0, inr z.1, z.2, z.3)
asked_use a outer (event.Bodiless i j ∷ es) x k = let z = asked_use a outer es x k in (z.0, inr z.1, z.2, z.3)
asked_use a outer (event.Statement i j ∷ es) x k = let z = asked_use a outer es x k in (z.0, inr z.1, z.2, z.3)
asked_use a outer (event.Misplaced i j ∷ es) x k = let z = asked_use a outer es x k in (z.0, inr z.1, z.2, z.3)
asked_use a outer (event.SecondDefault i ∷ es) x k = let z = asked_use a outer es x k in (z.0, inr z.1, z.2, z.3)

-- ---- rules, test by test

abbrev pub Off : (Asked → Bool) → List Asked → Type 0
Off T asks = Every (λ x. T x ≡ false) asks

module _ (T : Asked → Bool) (P : Asked → Place) (rule : List Asked → List Place) (none : rule [] ≡ []) (one : (x : Asked) (xs : List Asked) → rule (x ∷ xs) ≡ place_if (T x) (P x) (rule xs)) where
  pub rule_off : (xs : List Asked) → rule xs ≡ [] → Off T xs
  rule_off [] e = tt
  rule_off (x ∷ xs) e = by (T x) refl (sym (one x xs) ∙ e) (rule_off xs)
    where
      by : (b : Bool) → T x ≡ b → place_if b (P x) (rule xs) ≡ [] → (rule xs ≡ [] → Off T xs) → Off T (x ∷ xs)
      by true q e go = cc
      by false q e go = (q, go e)

  pub off_rule : (xs : List Asked) → Off T xs → rule xs ≡ []
  off_rule [] h = none
  off_rule (x ∷ xs) h = one x xs ∙ ap (λ b. place_if b (P x) (rule xs)) h.0 ∙ off_rule xs h.1

abbrev pub is_undeclared : Asked → Bool
is_undeclared x = lacks_meaning x.it.constant x.name (object_asked x)

abbrev pub is_outside : Asked → Bool
is_outside x = is_unknown x.name (object_asked x)

abbrev pub is_member : Asked → Bool
is_member x = is_import (object_asked x) && is_other_member x.it.role x.selected

abbrev pub is_uncalled : Asked → Bool
is_uncalled x = is_import (object_asked x) && is_no_call x.it.role x.selected

abbrev pub is_early : Asked → Bool
is_early x = x.it.initial && is_initial x.meaning

-- ---- objects

-- the object of a name by what it means
abbrev pub object_meant : List ℕ → Option Meant → Option Object
object_meant w None = predeclared_object w
object_meant w (Some (own o)) = Some o
object_meant w (Some (outside o)) = Some o

pub asked_object : (a : Alone) (outer : Outer) (u : Use) → is_blank (own_text a u.name) ≡ false → object_asked (own_ask a outer u) ≡ object_meant (own_text a u.name) (own_meant a outer u.name (own_text a u.name))
asked_object a outer u b = by (own_local a u.name w) (outer w) ∙ sym (ap (λ c. object_meant w (if c then None else or_outside (own_local a u.name w) (outer w))) b)
  where
    w : List ℕ
    w = own_text a u.name

    by : (l : Option Meaning) (o : Option Object) → object_by w (otherwise l (outer_meaning w o)) ≡ object_meant w (or_outside l o)
    by None None = refl
    by None (Some o) = refl
    by (Some m) o = refl

module _ (σ : ℕ → ℕ) where
  abbrev pub under : Option Meant → Option Meant
  under None = None
  under (Some o) = Some (renumbered σ o)

  pub same_lack : (c : Bool) (w : List ℕ) (o : Option Meant) → lacks_meaning c w (object_meant w (under o)) ≡ lacks_meaning c w (object_meant w o)
  same_lack c w None = refl
  same_lack c w (Some (own (object.Local f n))) = refl
  same_lack c w (Some (own (object.Package n))) = refl
  same_lack c w (Some (own object.Import)) = refl
  same_lack c w (Some (own (object.Predeclared p))) = refl
  same_lack c w (Some (outside o)) = refl

  pub same_unknown : (w : List ℕ) (o : Option Meant) → is_unknown w (object_meant w (under o)) ≡ is_unknown w (object_meant w o)
  same_unknown w None = refl
  same_unknown w (Some (own (object.Local f n))) = refl
  same_unknown w (Some (own (object.Package n))) = refl
  same_unknown w (Some (own object.Import)) = refl
  same_unknown w (Some (own (object.Predeclared p))) = refl
  same_unknown w (Some (outside o)) = refl

  pub same_import : (w : List ℕ) (o : Option Meant) → is_import (object_meant w (under o)) ≡ is_import (object_meant w o)
  same_import w None = refl
  same_import w (Some (own (object.Local f n))) = refl
  same_import w (Some (own (object.Package n))) = refl
  same_import w (Some (own object.Import)) = refl
  same_import w (Some (own (object.Predeclared p))) = refl
  same_import w (Some (outside o)) = refl

  -- a name that means a plain object fails no rule
  pub plain_declared : (c : Bool) (w : List ℕ) (o : Meant) → IsPlain o → lacks_meaning c w (object_meant w (under (Some o))) ≡ false
  plain_declared c w (own (object.Local f n)) h = refl
  plain_declared c w (own (object.Package n)) h = refl
  plain_declared c w (own object.Import) h = absurd h
  plain_declared c w (own (object.Predeclared p)) h = absurd h
  plain_declared c w (outside (object.Local f n)) h = refl
  plain_declared c w (outside (object.Package n)) h = refl
  plain_declared c w (outside object.Import) h = absurd h
  plain_declared c w (outside (object.Predeclared predeclared.Iota)) h = absurd h
  plain_declared c w (outside (object.Predeclared p)) h = refl

  pub plain_known : (w : List ℕ) (o : Meant) → is_unknown w (object_meant w (under (Some o))) ≡ false
  plain_known w (own (object.Local f n)) = refl
  plain_known w (own (object.Package n)) = refl
  plain_known w (own object.Import) = refl
  plain_known w (own (object.Predeclared p)) = refl
  plain_known w (outside o) = refl

  pub plain_import : (w : List ℕ) (o : Meant) → IsPlain o → is_import (object_meant w (under (Some o))) ≡ false
  plain_import w (own (object.Local f n)) h = refl
  plain_import w (own (object.Package n)) h = refl
  plain_import w (own object.Import) h = absurd h
  plain_import w (own (object.Predeclared p)) h = absurd h
  plain_import w (outside (object.Local f n)) h = refl
  plain_import w (outside (object.Package n)) h = refl
  plain_import w (outside object.Import) h = absurd h
  plain_import w (outside (object.Predeclared p)) h = refl

-- a role stays what it is
pub other_same : (v : ℕ → ℕ) (r : Role) (w : List ℕ) → is_other_member (carried_role v r) w ≡ is_other_member r w
other_same v (role.Selected last called) w = refl
other_same v role.Operand w = refl
other_same v role.Assigned w = refl
other_same v role.Called w = refl
other_same v (role.New d) w = refl
other_same v (role.Field g) w = refl
other_same v (role.Key g) w = refl
other_same v (role.Parameter g s) w = refl

pub call_same : (v : ℕ → ℕ) (r : Role) (w : List ℕ) → is_no_call (carried_role v r) w ≡ is_no_call r w
call_same v (role.Selected last true) w = refl
call_same v (role.Selected last false) w = refl
call_same v role.Operand w = refl
call_same v role.Assigned w = refl
call_same v role.Called w = refl
call_same v (role.New d) w = refl
call_same v (role.Field g) w = refl
call_same v (role.Key g) w = refl
call_same v (role.Parameter g s) w = refl

pub off_import : (b c : Bool) → b ≡ false → (b && c) ≡ false
off_import true c e = cc
off_import false c e = refl

module _ (a new : Alone) (outer : Outer) (gaps : List Gap) (site : IsSite a outer gaps new) (told : TellsPieces (moved_by gaps) (file_context 0) a.tree site.patch (become (moved_by gaps) a.tree site.patch)) (free : own_second_declarations a ≡ []) where
  abbrev v : ℕ → ℕ
  v = moved_by gaps

  abbrev old_events : List Event
  old_events = replaced.old_events a new outer gaps site told

  abbrev new_events : List Event
  new_events = replaced.new_events a new outer gaps site told

  abbrev rename : Option Meant → Option Meant
  rename o = renamed a gaps new o

  -- a name that is looked up and stays means the same
  pub kept_use : (u : Use) → Among (event.Use u) old_events → Stays gaps u.name → own_meant new outer (v u.name) (own_text a u.name) ≡ rename (own_meant a outer u.name (own_text a u.name))
  kept_use u k s = kept.kept_use a new outer gaps site told free u.name s (which_used 0 (length a.texts) old_events site.order u k)

  -- its token has the object that its name means
  pub old_use : (u : Use) → Among (event.Use u) old_events → own_object a outer u.name ≡ own_meant a outer u.name (own_text a u.name)
  old_use u k =
      let meant : Option Meant = own_meant a outer u.name (own_text a u.name) in
      object_is a outer u.name meant (own_text a u.name) refl ∙ ap (λ z. pick z meant (first_of_two (declared_at a u.name) meant)) (which_used 0 (length a.texts) old_events site.order u k)

  -- and one of a gap what it has to
  pub new_use : (u : Use) → Among (event.Use u) new_events → (g : Gap) → Among g gaps → (i : ℕ) → i < length g.texts → u.name ≡ v g.from + i → (o : Meant) → g.means i ≡ Some o → own_meant new outer u.name (own_text new u.name) ≡ rename (Some o)
  new_use u k g l i lt n o e =
      subst (λ z. which z new_events ≡ looked_up → IsNamed z new_events → own_meant new outer z (own_text new z) ≡ rename (Some o)) (sym n) there (which_used 0 (length new.texts) new_events site.new_order u k) (named_used u new_events k)
    where
      there : which (v g.from + i) new_events ≡ looked_up → IsNamed (v g.from + i) new_events → own_meant new outer (v g.from + i) (own_text new (v g.from + i)) ≡ rename (Some o)
      there q m =
          let t : ℕ = v g.from + i in
          let meant : Option Meant = own_meant new outer t (own_text new t) in
          sym (names.new_is a new outer gaps site told free g l i lt ∙ ap (λ z. pick z meant (first_of_two (declared_at new t) meant)) q) ∙ names.said a new outer gaps site told free g l i lt o e m

  -- ---- a rule by its test

  module _ (T : Asked → Bool)
      (stays : (u : Use) → Among (event.Use u) old_events → Stays gaps u.name → RoleStays gaps u.role → u.initial ≡ false → is_blank (own_text a u.name) ≡ false → T (own_ask a outer u) ≡ false → T (own_ask new outer (carried_use v u)) ≡ false)
      (comes : (u : Use) (o : Meant) → IsPlain o → u.initial ≡ false → is_blank (own_text new u.name) ≡ false → own_meant new outer u.name (own_text new u.name) ≡ rename (Some o) → T (own_ask new outer u) ≡ false) where
    remained : (u : Use) (e : Event) → event.Use u ≡ carried_event v e → EventStays gaps e → Among e old_events → Off T (own_asked a outer) → is_blank (own_text new u.name) ≡ false → T (own_ask new outer u) ≡ false
    remained u (event.Use x) q s k h b =
        let p : carried_use v x ≡ u = cc in
        let c : is_blank (own_text a x.name) ≡ false = ap is_blank (sym (site.texts x.name s.0) ∙ ap (λ (z : Use). own_text new z.name) p) ∙ b in
        subst (λ (z : Use). T (own_ask new outer z) ≡ false) p (stays x k s.0 s.1 s.2 c (asked_all a outer (λ y. T y ≡ false) old_events h x k c))
    remained u (event.Declaration d) q s k h b = cc
    remained u (event.Import x) q s k h b = cc
    remained u (event.Member m g x) q s k h b = cc
    remained u (event.Bodiless x y) q s k h b = cc
    remained u (event.Statement x y) q s k h b = cc
    remained u (event.Misplaced x y) q s k h b = cc
    remained u (event.SecondDefault x) q s k h b = cc

    came : (u : Use) (g : Gap) (old news : List Event) → Among (event.Use u) new_events → replaced.InGap a new outer gaps site told g old news → Among (event.Use u) news → is_blank (own_text new u.name) ≡ false → T (own_ask new outer u) ≡ false
    came u g old news k i n b = let x : UseIsNew v g u = replaced.each_among (EventIsNew a v g old) (event.Use u) news i.tells.each n in by x x.calm
      where
        by : (x : UseIsNew v g u) → (is_blank (text_there (slice_get g.texts x.token)) ≡ true) ⊎ ((o : Meant) × (g.means x.token ≡ Some o) × IsPlain o) → T (own_ask new outer u) ≡ false
        by x (inl e) = let z : is_blank (own_text new u.name) ≡ true = ap (λ t. is_blank (own_text new t)) x.name ∙ ap is_blank (site.new_texts g i.listed x.token x.within) ∙ e in cc
        by x (inr (o, e, p)) = comes u o p x.initial b (new_use u k g i.listed x.token x.within x.name o e)

    pub off_new : Off T (own_asked a outer) → Off T (own_asked new outer)
    off_new h = asked_of new outer (λ y. T y ≡ false) new_events (λ u k b. by u k b (replaced.old_or_new a new outer gaps site told (event.Use u) k))
      where
        by : (u : Use) → Among (event.Use u) new_events → is_blank (own_text new u.name) ≡ false → replaced.Remained a new outer gaps site told (event.Use u) ⊎ replaced.Comes a new outer gaps site told (event.Use u) → T (own_ask new outer u) ≡ false
        by u k b (inl (e, q, s, m)) = remained u e q s m h b
        by u k b (inr (g, old, news, i, n)) = came u g old news k i n b

  abbrev σ : ℕ → ℕ
  σ n = new_number a gaps new n

  rename_is : (o : Option Meant) → rename o ≡ under σ o
  rename_is None = refl
  rename_is (Some o) = refl

  -- the object of a name that stays
  kept_object : (u : Use) → Among (event.Use u) old_events → Stays gaps u.name → is_blank (own_text a u.name) ≡ false → object_asked (own_ask new outer (carried_use v u)) ≡ object_meant (own_text a u.name) (under σ (own_meant a outer u.name (own_text a u.name)))
  kept_object u k s b =
      let t : own_text new (v u.name) ≡ own_text a u.name = site.texts u.name s in
      asked_object new outer (carried_use v u) (ap is_blank t ∙ b)
      ∙ ap (λ w. object_meant w (own_meant new outer (v u.name) w)) t
      ∙ ap (object_meant (own_text a u.name)) (kept_use u k s ∙ rename_is (own_meant a outer u.name (own_text a u.name)))

  new_object : (u : Use) (o : Meant) → is_blank (own_text new u.name) ≡ false → own_meant new outer u.name (own_text new u.name) ≡ rename (Some o) → object_asked (own_ask new outer u) ≡ object_meant (own_text new u.name) (under σ (Some o))
  new_object u o b e = asked_object new outer u b ∙ ap (object_meant (own_text new u.name)) e

  pub undeclared_stay : own_undeclared a outer ≡ [] → own_undeclared new outer ≡ []
  undeclared_stay e =
      off_rule is_undeclared (λ x. x.place) undeclared refl (λ x xs. refl) (own_asked new outer)
      (off_new is_undeclared
      (λ u k s r i b h.
      ap (λ w. lacks_meaning u.constant w (object_asked (own_ask new outer (carried_use v u)))) (site.texts u.name s)
      ∙ ap (lacks_meaning u.constant (own_text a u.name)) (kept_object u k s b)
      ∙ same_lack σ u.constant (own_text a u.name) (own_meant a outer u.name (own_text a u.name))
      ∙ ap (lacks_meaning u.constant (own_text a u.name)) (sym (asked_object a outer u b)) ∙ h)
      (λ u o p i b m. ap (lacks_meaning u.constant (own_text new u.name)) (new_object u o b m) ∙ plain_declared σ u.constant (own_text new u.name) o p)
      (rule_off is_undeclared (λ x. x.place) undeclared refl (λ x xs. refl) (own_asked a outer) e))

  pub outside_stay : own_outside_names a outer ≡ [] → own_outside_names new outer ≡ []
  outside_stay e =
      off_rule is_outside (λ x. x.place) outside_names refl (λ x xs. refl) (own_asked new outer)
      (off_new is_outside
      (λ u k s r i b h.
      ap (λ w. is_unknown w (object_asked (own_ask new outer (carried_use v u)))) (site.texts u.name s)
      ∙ ap (is_unknown (own_text a u.name)) (kept_object u k s b)
      ∙ same_unknown σ (own_text a u.name) (own_meant a outer u.name (own_text a u.name))
      ∙ ap (is_unknown (own_text a u.name)) (sym (asked_object a outer u b)) ∙ h)
      (λ u o p i b m. ap (is_unknown (own_text new u.name)) (new_object u o b m) ∙ plain_known σ (own_text new u.name) o)
      (rule_off is_outside (λ x. x.place) outside_names refl (λ x xs. refl) (own_asked a outer) e))

  -- the last name of a selector stays
  selected_same : (r : Role) → RoleStays gaps r → own_selected new (carried_role v r) ≡ own_selected a r
  selected_same (role.Selected last called) (x, e, s) =
      let n : v last ≡ suc (v x) = ap v e ∙ next_moved gaps 1 x site.apart s in
      let m : v last - 1 ≡ v x = omega (arith, n) in
      let l : x ≡ last - 1 = omega (arith, e) in
      ap (own_text new) m ∙ site.texts x s ∙ ap (own_text a) l
  selected_same role.Operand h = refl
  selected_same role.Assigned h = refl
  selected_same role.Called h = refl
  selected_same (role.New d) h = refl
  selected_same (role.Field g) h = refl
  selected_same (role.Key g) h = refl
  selected_same (role.Parameter g s) h = refl

  import_same : (u : Use) → Among (event.Use u) old_events → Stays gaps u.name → is_blank (own_text a u.name) ≡ false → is_import (object_asked (own_ask new outer (carried_use v u))) ≡ is_import (object_asked (own_ask a outer u))
  import_same u k s b = ap is_import (kept_object u k s b) ∙ same_import σ (own_text a u.name) (own_meant a outer u.name (own_text a u.name)) ∙ ap is_import (sym (asked_object a outer u b))

  pub members_outside_stay : own_outside_members a outer ≡ [] → own_outside_members new outer ≡ []
  members_outside_stay e =
      off_rule is_member (λ x. x.whole) outside_members refl (λ x xs. refl) (own_asked new outer)
      (off_new is_member
      (λ u k s r i b h.
      ap (λ c. c && is_other_member (carried_role v u.role) (own_selected new (carried_role v u.role))) (import_same u k s b)
      ∙ ap (λ c. is_import (object_asked (own_ask a outer u)) && c) (other_same v u.role (own_selected new (carried_role v u.role)) ∙ ap (is_other_member u.role) (selected_same u.role r)) ∙ h)
      (λ u o p i b m. off_import (is_import (object_asked (own_ask new outer u))) (is_other_member u.role (own_selected new u.role)) (ap is_import (new_object u o b m) ∙ plain_import σ (own_text new u.name) o p))
      (rule_off is_member (λ x. x.whole) outside_members refl (λ x xs. refl) (own_asked a outer) e))

  pub calls_stay : own_not_called a outer ≡ [] → own_not_called new outer ≡ []
  calls_stay e =
      off_rule is_uncalled (λ x. x.whole) not_called refl (λ x xs. refl) (own_asked new outer)
      (off_new is_uncalled
      (λ u k s r i b h.
      ap (λ c. c && is_no_call (carried_role v u.role) (own_selected new (carried_role v u.role))) (import_same u k s b)
      ∙ ap (λ c. is_import (object_asked (own_ask a outer u)) && c) (call_same v u.role (own_selected new (carried_role v u.role)) ∙ ap (is_no_call u.role) (selected_same u.role r)) ∙ h)
      (λ u o p i b m. off_import (is_import (object_asked (own_ask new outer u))) (is_no_call u.role (own_selected new u.role)) (ap is_import (new_object u o b m) ∙ plain_import σ (own_text new u.name) o p))
      (rule_off is_uncalled (λ x. x.whole) not_called refl (λ x xs. refl) (own_asked a outer) e))

  pub initialisers_stay : own_initialisers a outer ≡ [] → own_initialisers new outer ≡ []
  initialisers_stay e =
      off_rule is_early (λ x. x.place) initialisers refl (λ x xs. refl) (own_asked new outer)
      (off_new is_early
      (λ u k s r i b h. off_import u.initial (is_initial (own_ask new outer (carried_use v u)).meaning) i)
      (λ u o p i b m. off_import u.initial (is_initial (own_ask new outer u).meaning) i)
      (rule_off is_early (λ x. x.place) initialisers refl (λ x xs. refl) (own_asked a outer) e))
