-- What the names of a function call for, by itself.
use Rattle.std.proofs.Common.{◌≡◌, ◌∙◌, ℕ, ◌≤◌, inl, inr, Bool, true, false, List, [], ◌∷◌, Option, Some, None, refl, sym, ap, subst}
use Rattle.std.specs.Prelude.{◌&&◌, ◌||◌, nat_eq}
use Rattle.go_tree.specs.declared.context.Site.{Site}
use Rattle.go_tree.specs.declared.context.Site.TheVariants as site_of
use Rattle.go_tree.specs.declared.event.Use.{Use}
use Rattle.go_tree.specs.declared.object.Object.{Object}
use Rattle.go_tree.specs.Declarations.{Found}
use Rattle.go_tree.specs.Lookups.{Asked}
use Rattle.go_tree.specs.Meanings.{Meaning}
use Rattle.go_tree.specs.Needs.{Needed, right_way, if_so, is_source, way_by, needs, is_same}
use Rattle.go_scopes_cycles.specs.Closure.{IsDeclared, AreDeclared}
use Rattle.go_scopes_cycles.specs.Columns.{IsSource}
use Rattle.go_scopes_cycles.specs.Needs.{source_of}
use Rattle.go_scopes_events.specs.Scopes.{otherwise}
use Rattle.go_heads.specs.Bodies.{function_events}
use Rattle.go_heads.specs.Functions.{Alone}
use Rattle.go_heads.specs.Names.{own_text, own_declarations}
use Rattle.go_heads.proofs.Public.{Every}
use Rattle.go_scopes_bodies.specs.Carried.{carried_token, carried_site}
use Rattle.go_scopes_bodies.specs.Faults.{outer_meaning, own_ask, own_asked}
use Rattle.go_scopes_bodies.specs.Meant.{outside, Outer, own_local, or_outside}
use Rattle.extract_names.specs.Gaps.{Among}
use Rattle.extract_names.specs.Sites.{specification_at}
use Rattle.extract_names.proofs.Edges.{eq_true, is_eq}
use Rattle.extract_names.proofs.Founds.{RiseFrom, find, find_self, hit, innermost_of, HoldsOf, innermost_holds, local_source}
use Rattle.extract_names.proofs.Rows.{both_true, every_among}
use Rattle.extract_names.proofs.Asked as asked
use Rattle.extract_names.proofs.Rounds.{needs_calls, AreOne}

-- ---- a function by itself

-- a name calls for the innermost declaration, as a local
pub source_local : (w : List ℕ) (l : Option Meaning) (o : Option Object) → source_of (otherwise l (outer_meaning w o)) ≡ source_of l
source_local w None None = refl
source_local w None (Some o) = refl
source_local w (Some m) o = refl

-- and for none where it means what no local is
pub outside_source : (l : Option Meaning) (x : Option Object) (o : Object) → or_outside l x ≡ Some (outside o) → source_of l ≡ None
outside_source None x o e = refl
outside_source (Some m) x o e = cc

module _ (a : Alone) (outer : Outer) (rises : RiseFrom 0 (own_declarations a)) (files : Every (λ d. d.file ≡ 0) (own_declarations a)) where
  abbrev D : List Found
  D = own_declarations a

  pub ask_source : (u : Use) → source_of (own_ask a outer u).meaning ≡ innermost_of u.name (own_text a u.name) None D
  ask_source u = source_local (own_text a u.name) (own_local a u.name (own_text a u.name)) (outer (own_text a u.name)) ∙ local_source a 0 rises files u.name (own_text a u.name)

  every_of : {A : Type 0} (P : A → Type 0) (xs : List A) → ((x : A) → Among x xs → P x) → Every P xs
  every_of P [] f = tt
  every_of P (x ∷ xs) f = (f x (inl refl), every_of P xs (λ y k. f y (inr k)))

  pub innermost_among : (t : ℕ) (w : List ℕ) (d : Found) → innermost_of t w None D ≡ Some d → Among d D
  innermost_among t w d e = subst (HoldsOf (λ x. Among x D)) e (innermost_holds (λ x. Among x D) t w None D tt (every_of (λ x. hit t w x ≡ true → Among x D) D (λ x k e. k)))

  pub found_self : (d : Found) → Among d D → find d.it.name D ≡ Some d
  found_self d k = (every_among (λ d. (0 ≤ d.it.name) × (find d.it.name D ≡ Some d)) d D (find_self 0 D rises) k).1

  pub same_name : (x y : Found) → Among x D → Among y D → x.it.name ≡ y.it.name → x ≡ y
  same_name x y k l e = let q : Some x ≡ Some y = sym (found_self x k) ∙ ap (λ n. find n D) e ∙ found_self y l in cc

  pub are_one : AreOne D
  are_one x y k l e = same_name x y k l (eq_true x.it.name y.it.name (both_true (nat_eq x.file y.file) (nat_eq x.it.name y.it.name) e).1)

  -- what a name calls for is declared
  pub calls_within : (x n : Needed) → Among n (needs (own_asked a outer) x) → Among n.it D
  calls_within x n k =
      let c = needs_calls (own_asked a outer) x n k in
      let u = asked.asked_use a outer (function_events a) c.ask c.among in
      innermost_among u.0.name (own_text a u.0.name) n.it (sym (ask_source u.0) ∙ ap (λ (z : Asked). source_of z.meaning) (sym u.3) ∙ c.source)

  among_source : (e : Found) (asks : List Asked) → IsSource e asks → (x : Asked) × Among x asks × (source_of x.meaning ≡ Some e)
  among_source e [] h = absurd h
  among_source e (x ∷ asks) (inl q) = (x, inl refl, q)
  among_source e (x ∷ asks) (inr h) = let y = among_source e asks h in (y.0, inr y.1, y.2)

  declared_among : (e : Found) (ds : List Found) → Among e ds → IsDeclared e ds
  declared_among e [] k = absurd k
  declared_among e (d ∷ ds) (inl q) = inl (subst (λ z. is_same e z ≡ true) q (rounds_same e))
    where
      rounds_same : (d : Found) → is_same d d ≡ true
      rounds_same d = ap (λ b. b && nat_eq d.it.name d.it.name) (is_eq d.file d.file refl) ∙ is_eq d.it.name d.it.name refl
  declared_among e (d ∷ ds) (inr k) = inr (declared_among e ds k)

  pub own_declared_all : AreDeclared (own_asked a outer) D
  own_declared_all e h =
      let x = among_source e (own_asked a outer) h in
      let u = asked.asked_use a outer (function_events a) x.0 x.1 in
      declared_among e D (innermost_among u.0.name (own_text a u.0.name) e (sym (ask_source u.0) ∙ ap (λ (z : Asked). source_of z.meaning) (sym u.3) ∙ x.2))

-- ---- in which way a name is needed

module _ (v : ℕ → ℕ) where
  pub way_same : (s : Option ℕ) (c : ℕ) (f : Bool) (x : Site) → ((i : ℕ) → specification_at x ≡ Some i → is_source (v i) (carried_token v s) ≡ is_source i s) → way_by (carried_token v s) c f (carried_site v x) ≡ way_by s c f x
  way_same s c f site_of.Elsewhere h = refl
  way_same s c f (site_of.Type i) h = ap (λ b. if_so b (Some true)) (h i refl)
  way_same s c f (site_of.Value i column alone) h = ap (λ b. if_so (b && (nat_eq column c || alone)) (Some true)) (h i refl)
  way_same s c f (site_of.Right i r) h = ap (λ b. if_so b (right_way f r)) (h i refl)

-- a name of no specification of the declaration isn't needed by it
pub way_off : (s : Option ℕ) (c : ℕ) (f : Bool) (x : Site) → ((i : ℕ) → specification_at x ≡ Some i → is_source i s ≡ false) → way_by s c f x ≡ None
way_off s c f site_of.Elsewhere h = refl
way_off s c f (site_of.Type i) h = ap (λ b. if_so b (Some true)) (h i refl)
way_off s c f (site_of.Value i column alone) h = ap (λ b. if_so (b && (nat_eq column c || alone)) (Some true)) (h i refl)
way_off s c f (site_of.Right i r) h = ap (λ b. if_so b (right_way f r)) (h i refl)

pub if_none : (b : Bool) (w : Option Bool) → w ≡ None → if_so b w ≡ None
if_none true w e = e
if_none false w e = refl
