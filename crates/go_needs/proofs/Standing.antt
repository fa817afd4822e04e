-- The part in which a name stands tells which declarations need it.
use Rattle.std.proofs.Common.{◌≡◌, ◌∙◌, ℕ, Bool, true, false, ◌&&◌, ◌||◌, nat_eq, List, Option, Some, refl, ap, subst, arith, inl, inr, ◌⊎◌, unwrap_or}
use Rattle.go_tree.specs.declared.context.Site.{Site}
use Rattle.go_tree.specs.declared.context.Site.TheVariants as site
use Rattle.go_tree.specs.declared.context.Reach.TheVariants as reach
use Rattle.go_tree.specs.Needs.{if_so, right_way, way_by}
use Rattle.go_needs.specs.Calls.{is_counted}
use Rattle.go_needs.specs.declared.owners.Owner.{Owner}
use Rattle.go_scopes_cycles.specs.declared.ranks.Part.{Part}
use Rattle.go_scopes_cycles.specs.declared.ranks.Part.TheVariants as part
use Rattle.go_needs.specs.Owners.{has_source}
use Rattle.go_scopes_cycles.specs.Ranks.{Place, same_part, same_place, own_part}
use Rattle.go_needs.specs.Parts.{place_of}

pub both_left : (b c : Bool) → (b && c) ≡ true → b ≡ true
both_left true c e = refl
both_left false c e = e

pub both_right : (b c : Bool) → (b && c) ≡ true → c ≡ true
both_right true c e = e
both_right false c e = absurd (grind (arith, e))

pub same_number : (x y : ℕ) → nat_eq x y ≡ true → x ≡ y
same_number x y e = grind (arith, e)

pub number_itself : (x : ℕ) → nat_eq x x ≡ true
number_itself x = grind arith

pub so_holds : (b : Bool) (w : Option Bool) (g : Bool) → if_so b w ≡ Some g → b ≡ true
so_holds true w g e = refl
so_holds false w g e = absurd (grind (arith, e))

pub so_value : (b : Bool) (w : Option Bool) (g : Bool) → if_so b w ≡ Some g → w ≡ Some g
so_value true w g e = e
so_value false w g e = absurd (grind (arith, e))

-- ---- parts

-- A part of a specification in which a declaration with this column needs what stands there.
abbrev pub IsOwnPart : ℕ → Bool → Part → Type 0
IsOwnPart c f q = (q ≡ part.Always) ⊎ ((q ≡ part.Value c) ⊎ (q ≡ own_part f))

part_itself : (p : Part) → same_part p p ≡ true
part_itself part.Always = refl
part_itself (part.Value c) = grind arith
part_itself part.Full = refl
part_itself part.Partial = refl

pub place_itself : (a : Place) → same_place a a ≡ true
place_itself a = ap (λ b. (b && nat_eq a.0.1 a.0.1) && same_part a.1 a.1) (number_itself a.0.0) ∙ (ap (λ b. b && same_part a.1 a.1) (number_itself a.0.1) ∙ part_itself a.1)

-- ---- from a way to a part

-- The part in which the name stands is one in which the declaration needs it.
pub record OwnPlace (n s c : ℕ) (f g : Bool) (st : Site) : Type 0 where
  pub part : Part
  pub own : IsOwnPart c f part
  pub is : place_of g n st ≡ Some ((n, s), part)

at_part : (n t s : ℕ) (q : Part) → t ≡ s → ◌≡◌ {A = Option Place} (Some ((n, t), q)) (Some ((n, s), q))
at_part n t s q e = ap (λ m. Some ((n, m), q)) e

own_source : (t s : ℕ) (w : Option Bool) (g : Bool) → if_so (nat_eq t s) w ≡ Some g → t ≡ s
own_source t s w g e = same_number t s (so_holds (nat_eq t s) w g e)

pub way_place : (n s c : ℕ) (f : Bool) (st : Site) (g : Bool) → way_by (Some s) c f st ≡ Some g → OwnPlace n s c f g st
way_place n s c f site.Elsewhere g e = absurd (grind (arith, e))
way_place n s c f (site.Type t) true e = record { part = part.Always; own = inl refl; is = at_part n t s part.Always (own_source t s (Some true) true e) }
way_place n s c f (site.Type t) false e = absurd (grind (arith, e))
way_place n s c f (site.Value t column true) true e = record {
  part = part.Always;
  own = inl refl;
  is = at_part n t s part.Always (same_number t s
      (both_left (nat_eq t s) (nat_eq column c || true) (so_holds (nat_eq t s && (nat_eq column c || true)) (Some true) true e)));
}
way_place n s c f (site.Value t column true) false e = absurd (grind (arith, e))
way_place n s c f (site.Value t column false) true e =
    let b = so_holds (nat_eq t s && (nat_eq column c || false)) (Some true) true e in
    let same : column ≡ c = grind (arith, both_right (nat_eq t s) (nat_eq column c || false) b) in
    record { part = part.Value column; own = inr (inl (ap part.Value same)); is = at_part n t s (part.Value column) (same_number t s (both_left (nat_eq t s) (nat_eq column c || false) b)) }
way_place n s c f (site.Value t column false) false e = absurd (grind (arith, e))
way_place n s c true (site.Right t reach.Direct) true e = record { part = part.Full; own = inr (inr refl); is = at_part n t s part.Full (own_source t s (Some true) true e) }
way_place n s c true (site.Right t reach.Indirect) true e = record { part = part.Full; own = inr (inr refl); is = at_part n t s part.Full (own_source t s (Some true) true e) }
way_place n s c true (site.Right t reach.Length) true e = record { part = part.Always; own = inl refl; is = at_part n t s part.Always (own_source t s (Some true) true e) }
way_place n s c true (site.Right t r) false e = absurd (grind (arith, e))
way_place n s c false (site.Right t reach.Direct) false e = record { part = part.Partial; own = inr (inr refl); is = at_part n t s part.Partial (own_source t s (Some false) false e) }
way_place n s c false (site.Right t reach.Direct) true e = absurd (grind (arith, e))
way_place n s c false (site.Right t reach.Indirect) g e = absurd (grind (arith, e))
way_place n s c false (site.Right t reach.Length) true e = record { part = part.Always; own = inl refl; is = at_part n t s part.Always (own_source t s (Some true) true e) }
way_place n s c false (site.Right t reach.Length) false e = absurd (grind (arith, e))

pub counted : (all : List Owner) (n s c : ℕ) (f : Bool) (st : Site) (g : Bool) → way_by (Some s) c f st ≡ Some g → has_source all n s ≡ true → is_counted all n st ≡ true
counted all n s c f site.Elsewhere g e h = absurd (grind (arith, e))
counted all n s c f (site.Type t) g e h = ap (has_source all n) (own_source t s (Some true) g e) ∙ h
counted all n s c f (site.Value t column alone) g e h = ap (has_source all n) (same_number t s (both_left (nat_eq t s) (nat_eq column c || alone) (so_holds (nat_eq t s && (nat_eq column c || alone)) (Some true) g e))) ∙ h
counted all n s c f (site.Right t r) g e h = ap (has_source all n) (own_source t s (right_way f r) g e) ∙ h

-- ---- from a part to a way

abbrev there : Option Place → Place
there o = unwrap_or o ((0, 0), part.Always)

own_full : (c : ℕ) (f : Bool) (q : Part) → part.Full ≡ q → IsOwnPart c f q → f ≡ true
own_full c true q e o = refl
own_full c false q e (inl h) = absurd (grind (arith, e, h))
own_full c false q e (inr (inl h)) = absurd (grind (arith, e, h))
own_full c false q e (inr (inr h)) = absurd (grind (arith, e, h))

own_partial : (c : ℕ) (f : Bool) (q : Part) → part.Partial ≡ q → IsOwnPart c f q → f ≡ false
own_partial c false q e o = refl
own_partial c true q e (inl h) = absurd (grind (arith, e, h))
own_partial c true q e (inr (inl h)) = absurd (grind (arith, e, h))
own_partial c true q e (inr (inr h)) = absurd (grind (arith, e, h))

own_value : (c d : ℕ) (f : Bool) (q : Part) → part.Value d ≡ q → IsOwnPart c f q → nat_eq d c ≡ true
own_value c d f q e (inl h) = absurd (grind (arith, e, h))
own_value c d f q e (inr (inl h)) = grind (arith, e, h)
own_value c d true q e (inr (inr h)) = absurd (grind (arith, e, h))
own_value c d false q e (inr (inr h)) = absurd (grind (arith, e, h))

-- the file, the specification and the part are the same
pub record SamePlace (m n t s : ℕ) (p q : Part) : Type 0 where
  pub file : nat_eq m n ≡ true
  pub source : nat_eq t s ≡ true
  pub part : p ≡ q

same_there : (m n t s : ℕ) (p q : Part) → ◌≡◌ {A = Option Place} (Some ((m, t), p)) (Some ((n, s), q)) → SamePlace m n t s p q
same_there m n t s p q e =
    let file : m ≡ n = ap (λ o. (there o).0.0) e in
    let source : t ≡ s = ap (λ o. (there o).0.1) e in
    record { file = subst (λ j. nat_eq m j ≡ true) file (number_itself m); source = subst (λ j. nat_eq t j ≡ true) source (number_itself t); part = ap (λ o. (there o).1) e }

so_both : (b c : Bool) (w : Option Bool) → b ≡ true → c ≡ true → if_so b (if_so c w) ≡ w
so_both b c w e h = ap (λ x. if_so x (if_so c w)) e ∙ ap (λ x. if_so x w) h

pub place_way : (m n s c : ℕ) (f g : Bool) (st : Site) (q : Part) → place_of g m st ≡ Some ((n, s), q) → IsOwnPart c f q → if_so (nat_eq m n) (way_by (Some s) c f st) ≡ Some g
place_way m n s c f true site.Elsewhere q e o = absurd (grind (arith, e))
place_way m n s c f false site.Elsewhere q e o = absurd (grind (arith, e))
place_way m n s c f true (site.Type t) q e o = let k = same_there m n t s part.Always q e in so_both (nat_eq m n) (nat_eq t s) (Some true) k.file k.source
place_way m n s c f false (site.Type t) q e o = absurd (grind (arith, e))
place_way m n s c f true (site.Value t column true) q e o =
    let k = same_there m n t s part.Always q e in
    so_both (nat_eq m n) (nat_eq t s && (nat_eq column c || true)) (Some true) k.file (grind (arith, k.source))
place_way m n s c f true (site.Value t column false) q e o =
    let k = same_there m n t s (part.Value column) q e in
    so_both (nat_eq m n) (nat_eq t s && (nat_eq column c || false)) (Some true) k.file (grind (arith, k.source, own_value c column f q k.part o))
place_way m n s c f false (site.Value t column alone) q e o = absurd (grind (arith, e))
place_way m n s c f true (site.Right t reach.Direct) q e o =
    let k = same_there m n t s part.Full q e in
    so_both (nat_eq m n) (nat_eq t s) (right_way f reach.Direct) k.file k.source ∙ ap (λ b. right_way b reach.Direct) (own_full c f q k.part o)
place_way m n s c f true (site.Right t reach.Indirect) q e o =
    let k = same_there m n t s part.Full q e in
    so_both (nat_eq m n) (nat_eq t s) (right_way f reach.Indirect) k.file k.source ∙ ap (λ b. right_way b reach.Indirect) (own_full c f q k.part o)
place_way m n s c true true (site.Right t reach.Length) q e o = let k = same_there m n t s part.Always q e in so_both (nat_eq m n) (nat_eq t s) (Some true) k.file k.source
place_way m n s c false true (site.Right t reach.Length) q e o = let k = same_there m n t s part.Always q e in so_both (nat_eq m n) (nat_eq t s) (Some true) k.file k.source
place_way m n s c f false (site.Right t reach.Direct) q e o =
    let k = same_there m n t s part.Partial q e in
    so_both (nat_eq m n) (nat_eq t s) (right_way f reach.Direct) k.file k.source ∙ ap (λ b. right_way b reach.Direct) (own_partial c f q k.part o)
place_way m n s c f false (site.Right t reach.Indirect) q e o = absurd (grind (arith, e))
place_way m n s c f false (site.Right t reach.Length) q e o = absurd (grind (arith, e))
