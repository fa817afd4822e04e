-- What a declaration of a package without faults of names names, it needs.
use Rattle.std.proofs.Common.{◌≡◌, ◌∙◌, ℕ, ◌+◌, inl, inr, Bool, true, false, ◌&&◌, ◌||◌, nat_eq, List, [], ◌∷◌, map, Option, Some, None, refl, sym, ap, subst, arith}
use Rattle.std.specs.Prelude.{slice_get}
use Rattle.std.specs.Option.{option_map}
use Rattle.std.proofs.lemmas.Bool.{eqb-true, eq-eqb}
use Rattle.std.proofs.lemmas.Option.{slice_get-map}
use Rattle.go_tree.specs.declared.context.Site.{Site}
use Rattle.go_tree.specs.declared.context.Site.TheVariants as site
use Rattle.go_tree.specs.declared.context.Reach.{Reach}
use Rattle.go_tree.specs.declared.object.Object.TheVariants as object
use Rattle.go_tree.specs.Declarations.{Found, declarations}
use Rattle.go_tree.specs.Lookups.{Asked, asked, asked_in}
use Rattle.go_tree.specs.Meanings.{meanings, meaning_at}
use Rattle.go_tree.specs.Needs.{Needed, needs, way_by, way, if_so, right_way, needed_meaning, is_same, same_way, is_known}
use Rattle.go_tree.specs.Objects.{object_at}
use Rattle.go_tree.specs.Units as names
use Rattle.go_tree.specs.Units.{word}
use Rattle.go_tree.specs.Uses.{declared_by, object_of, uses}
use Rattle.go_scopes_cycles.specs.Closure.{rounds}
use Rattle.go_scopes_cycles.specs.Needs.{source_of, needed_in, needed_by}
use Rattle.go_scopes_cycles.proofs.Public.{itself, needs_none, needs_some, or_last}
use Rattle.go_package_defs.specs.Sources.{Source, Package, package_of, unit_of, number_in, number_at}
use Rattle.go_package_defs.specs.Verdicts.{is_in}
use Rattle.go_package_settled.specs.Closure.{as_needed, needed_wholly, numbers_needed}
use Rattle.go_package_settled.specs.Resolved.{package_declarations, declared_in, AreResolved}
use Rattle.go_package_settled.proofs.Closure.{at_first, through}
use Rattle.go_package_settled.proofs.Looking.{Told}
use Rattle.go_package_settled.proofs.Resolving.{level_is}
use Rattle.go_package_settled.proofs.Through.{HasNumber, known_number, number_known, rounds_called, wholly_inside}
use Rattle.go_package_settled.proofs.Tokens.{object_token, orderly_at}
use Rattle.go_package_settled.proofs.Uses.{IsAskedIn, asked_at, asked_use, called_source, means, token_used}

-- ---- what is asked is needed

first_known : (y : Needed) (ys : List Needed) → is_known y (y ∷ ys) ≡ true
first_known y ys = ap (λ b. b || is_known y ys) (itself y)

known_more : (y z : Needed) (ys : List Needed) → is_known y ys ≡ true → is_known y (z ∷ ys) ≡ true
known_more y z ys h = or_last (is_same y.it z.it && same_way y.full z.full) (is_known y ys) h

known_by : (a : Asked) (asks : List Asked) (x y : Needed) (o : Option Needed) → needed_by a x ≡ o → is_known y (needs asks x) ≡ true → is_known y (needs (a ∷ asks) x) ≡ true
known_by a asks x y None e h = subst (λ ns. is_known y ns ≡ true) (sym (needs_none a asks x e)) h
known_by a asks x y (Some z) e h = subst (λ ns. is_known y ns ≡ true) (sym (needs_some a asks x z e)) (known_more y z (needs asks x) h)

known_asked : (a : Asked) (asks : List Asked) (x y : Needed) → IsAskedIn a asks → needed_by a x ≡ Some y → is_known y (needs asks x) ≡ true
known_asked a [] x y h e = absurd h
known_asked a (b ∷ asks) x y (inl s) e =
    subst (λ ns. is_known y ns ≡ true) (sym (needs_some b asks x y (subst (λ c. needed_by c x ≡ Some y) s e))) (first_known y (needs asks x))
known_asked a (b ∷ asks) x y (inr h) e = known_by b asks x y (needed_by b x) refl (known_asked a asks x y h e)

-- ---- needs in both ways

ways_same : (source : Option ℕ) (own : ℕ) (s : Site) → ((t : ℕ) (r : Reach) → s ≡ site.Right t r → source ≡ Some t → ⊥) → way_by source own true s ≡ way_by source own false s
ways_same source own site.Elsewhere f = refl
ways_same source own (site.Type t) f = refl
ways_same source own (site.Value t column alone) f = refl
ways_same None own (site.Right t r) f = refl
ways_same (Some k) own (site.Right t r) f = by (nat_eq t k) refl
  where
    by : (b : Bool) → nat_eq t k ≡ b → if_so (nat_eq t k) (right_way true r) ≡ if_so (nat_eq t k) (right_way false r)
    by true e = absurd (f t r refl (ap (λ x. Some x) (sym (eqb-true t k e))))
    by false e = ap (λ b. if_so b (right_way true r)) e ∙ sym (ap (λ b. if_so b (right_way false r)) e)

pub needs_same_ways : (asks : List Asked) (d : Found) → ((a : Asked) → IsAskedIn a asks → a.file ≡ d.file → (t : ℕ) (r : Reach) → a.it.site ≡ site.Right t r → d.it.source ≡ Some t → ⊥) → needs asks (as_needed d true) ≡ needs asks (as_needed d false)
needs_same_ways [] d f = refl
needs_same_ways (a ∷ asks) d f =
    by (nat_eq a.file d.file) refl (f a (inl refl)) ∙ ap (needed_meaning (if_so (nat_eq a.file d.file) (way d.it false a.it.site)) a.meaning) (needs_same_ways asks d (λ b h. f b (inr h)))
  where
    by : (b : Bool) → nat_eq a.file d.file ≡ b → (a.file ≡ d.file → (t : ℕ) (r : Reach) → a.it.site ≡ site.Right t r → d.it.source ≡ Some t → ⊥)
        → needed_meaning (if_so (nat_eq a.file d.file) (way d.it true a.it.site)) a.meaning (needs asks (as_needed d true))
        ≡ needed_meaning (if_so (nat_eq a.file d.file) (way d.it false a.it.site)) a.meaning (needs asks (as_needed d true))
    by true e g = ap (λ w. needed_meaning (if_so (nat_eq a.file d.file) w) a.meaning (needs asks (as_needed d true))) (ways_same d.it.source d.it.column a.it.site (g (eqb-true a.file d.file e)))
    by false e g =
        ap (λ b. needed_meaning (if_so b (way d.it true a.it.site)) a.meaning (needs asks (as_needed d true))) e
        ∙ sym (ap (λ b. needed_meaning (if_so b (way d.it false a.it.site)) a.meaning (needs asks (as_needed d true))) e)

-- ---- packages

module _ (ss : List Source) where
  abbrev us : List names.Unit
  us = map unit_of ss

  abbrev p : Package
  p = package_of ss (uses us)

  module _ (r : AreResolved us) where
    level_at : (n : ℕ) (d : Found) → declared_in us n ≡ Some d → slice_get p.uses.package_level n ≡ Some (declared_by d)
    level_at n d e =
        ap (λ xs. slice_get xs n) (level_is (declarations us)) ∙ slice_get-map declared_by (package_declarations (declarations us)) n ∙ ap (option_map declared_by) e

    number_is : (n : ℕ) (d : Found) → declared_in us n ≡ Some d → number_at p d.file d.it.name ≡ Some n
    number_is n d e = ap number_in (r.complete.own (object.Package n) (declared_by d) (level_at n d e))

    -- A name of the file that means the object m stands in such a part, and calls for its declaration.
    pub record IsCalled (S : Site → Type 0) (n m : ℕ) : Type 0 where
      pub it : Asked
      pub among : IsAskedIn it p.asked
      pub file : it.file ≡ n
      pub to : Found
      pub source : source_of it.meaning ≡ Some to
      pub there : declared_in us m ≡ Some to
      pub site : S it.it.site

    pub called : (n : ℕ) (u : names.Unit) (S : Site → Type 0) (t m : ℕ) → slice_get us n ≡ Some u → Told (meanings us) n u.tokens u.events S t → object_of (uses us) n t ≡ Some (object.Package m) → IsCalled S n m
    called n u S t m e told h =
        let ms = meanings us in
        let token = object_token us n u t (object.Package m) e h in
        let used = told m token in
        let order = orderly_at us n u r.orderly e in
        let at : object_at ms n t (word u.tokens t) ≡ Some (object.Package m) = sym (token_used ms n u.tokens S t 0 order.0 u.events order.1 used) ∙ token in
        let meant = means us n t (word u.tokens t) m at in
        let q = asked_use ms n u.tokens S t u.events meant.blank used in
        let meaning : meaning_at ms n q.it.name (word u.tokens q.it.name) ≡ Some meant.meaning = ap (λ i. meaning_at ms n i (word u.tokens i)) q.found.name ∙ meant.is in
        let zeroth : 0 + n ≡ n = omega arith in
        record {
          it = asked ms n u.tokens q.it;
          among = asked_at ms 0 us n u (asked ms n u.tokens q.it) e (subst (λ k. IsAskedIn (asked ms n u.tokens q.it) (asked_in ms k u.tokens u.events)) (sym zeroth) q.among);
          file = refl;
          to = meant.one.declared;
          source = ap source_of meaning ∙ meant.one.source;
          there = meant.one.there;
          site = q.found.site;
        }

    module _ (n : ℕ) (d : Found) (e : declared_in us n ≡ Some d) (S : Site → Type 0) (m : ℕ) (c : IsCalled S d.file m) where
      at_once : (f g : Bool) → way d.it f c.it.it.site ≡ Some g → is_known (as_needed c.to g) (needs p.asked (as_needed d f)) ≡ true
      at_once f g w =
          known_asked c.it p.asked (as_needed d f) (as_needed c.to g) c.among
          (ap (λ b. needed_in (if_so b (way d.it f c.it.it.site)) (source_of c.it.meaning)) (eq-eqb c.it.file d.file c.file) ∙ ap (λ x. needed_in x (source_of c.it.meaning)) w ∙ ap (needed_in (Some g)) c.source)

      wholly : (f g : Bool) → way d.it f c.it.it.site ≡ Some g → is_known (as_needed c.to g) (needed_wholly p.asked (as_needed d f)) ≡ true
      wholly f g w = through (as_needed c.to g) (needs p.asked (as_needed d f)) (needed_wholly p.asked (as_needed d f)) (at_once f g w) (at_first p.asked (as_needed d f))

      numbered : (f : Bool) (y : Needed) (k : ℕ) → is_known y (needed_wholly p.asked (as_needed d f)) ≡ true → number_at p y.it.file y.it.it.name ≡ Some k → is_in (numbers_needed p (declared_in us n) f) k ≡ true
      numbered f y k h q = subst (λ o. is_in (numbers_needed p o f) k ≡ true) (sym e) (known_number p (needed_wholly p.asked (as_needed d f)) y k h q)

      -- it is needed, in full or in part
      pub needed : (f g : Bool) → way d.it f c.it.it.site ≡ Some g → is_in (numbers_needed p (declared_in us n) f) m ≡ true
      needed f g w = numbered f (as_needed c.to g) m (wholly f g w) (number_is m c.to c.there)

      -- with all that it needs in full
      pub needed_all : (f : Bool) → way d.it f c.it.it.site ≡ Some true → (k : ℕ) → is_in (numbers_needed p (declared_in us m) true) k ≡ true → is_in (numbers_needed p (declared_in us n) f) k ≡ true
      needed_all f w k h =
          let to : Needed = as_needed c.to true in
          let listed : is_in (numbers_needed p (Some c.to) true) k ≡ true = subst (λ o. is_in (numbers_needed p o true) k ≡ true) c.there h in
          let y : HasNumber p (needed_wholly p.asked to) k = number_known p (needed_wholly p.asked to) k (rounds_called p.asked (rounds p.asked) to) listed in
          let inside = wholly_inside p.asked r.order.one_each.0 (as_needed d f) to (called_source c.it c.to p.asked c.source c.among) (wholly f true w) in
          numbered f y.it k (through y.it (needed_wholly p.asked to) (needed_wholly p.asked (as_needed d f)) y.known inside) y.number
