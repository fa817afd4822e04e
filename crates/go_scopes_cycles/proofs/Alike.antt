-- Declarations of one name, needed in one way.
use Rattle.std.proofs.Common.{◌≡◌, ◌∙◌, ℕ, Bool, true, false, ◌&&◌, ◌||◌, nat_eq, List, [], ◌∷◌, ap, sym, refl, arith}
use Rattle.go_tree.specs.Declarations.{Found}
use Rattle.go_tree.specs.Needs.{Needed, is_same, same_way, is_known}
use Rattle.go_scopes_cycles.proofs.AllNeeded.{AllKnown}

pub both_left : (b c : Bool) → (b && c) ≡ true → b ≡ true
both_left true c e = refl
both_left false c e = e

pub both_right : (b c : Bool) → (b && c) ≡ true → c ≡ true
both_right true c e = e
both_right false c e = absurd (grind (arith, e))

same_number : (x y : ℕ) → nat_eq x y ≡ true → x ≡ y
same_number x y e = grind (arith, e)

pub same_file : (d e : Found) → is_same d e ≡ true → d.file ≡ e.file
same_file d e h = same_number d.file e.file (both_left (nat_eq d.file e.file) (nat_eq d.it.name e.it.name) h)

same_name : (d e : Found) → is_same d e ≡ true → d.it.name ≡ e.it.name
same_name d e h = same_number d.it.name e.it.name (both_right (nat_eq d.file e.file) (nat_eq d.it.name e.it.name) h)

pub same_way_is : (f g : Bool) → same_way f g ≡ true → f ≡ g
same_way_is true true e = refl
same_way_is true false e = sym e
same_way_is false true e = e
same_way_is false false e = refl

-- They are needed in one way.
pub record IsAlike (x z : Needed) : Type 0 where
  pub file : x.it.file ≡ z.it.file
  pub name : x.it.it.name ≡ z.it.it.name
  pub full : x.full ≡ z.full

pub alike : (x z : Needed) → (is_same x.it z.it && same_way x.full z.full) ≡ true → IsAlike x z
alike x z e =
    let same : is_same x.it z.it ≡ true = both_left (is_same x.it z.it) (same_way x.full z.full) e in
    record {
      file = same_file x.it z.it same;
      name = same_name x.it z.it same;
      full = same_way_is x.full z.full (both_right (is_same x.it z.it) (same_way x.full z.full) e);
    }

pub known_alike : (x z : Needed) (xs : List Needed) → IsAlike x z → is_known z xs ≡ is_known x xs
known_alike x z [] h = refl
known_alike x z (y ∷ ys) h =
    ap (λ n. (nat_eq n y.it.file && nat_eq z.it.it.name y.it.it.name && same_way z.full y.full) || is_known z ys) (sym h.file)
    ∙ ap (λ t. (nat_eq x.it.file y.it.file && nat_eq t y.it.it.name && same_way z.full y.full) || is_known z ys) (sym h.name)
    ∙ ap (λ f. (nat_eq x.it.file y.it.file && nat_eq x.it.it.name y.it.it.name && same_way f y.full) || is_known z ys) (sym h.full)
    ∙ ap (λ b. (is_same x.it y.it && same_way x.full y.full) || b) (known_alike x z ys h)

through_by : (x y : Needed) (zs : List Needed) (b : Bool) (rest : Bool) → (is_same x.it y.it && same_way x.full y.full) ≡ b → (b || rest) ≡ true → is_known y zs ≡ true → (rest ≡ true → is_known x zs ≡ true) → is_known x zs ≡ true
through_by x y zs true rest e h k f = sym (known_alike x y zs (alike x y e)) ∙ k
through_by x y zs false rest e h k f = f h

pub through : (x : Needed) (ys zs : List Needed) → is_known x ys ≡ true → AllKnown ys zs → is_known x zs ≡ true
through x [] zs h k = absurd (grind (arith, h))
through x (y ∷ ys) zs h k = through_by x y zs (is_same x.it y.it && same_way x.full y.full) (is_known x ys) refl h k.0 (λ r. through x ys zs r k.1)
