-- Sameness is an equivalence, where identity of types is one.
use Rattle.std.proofs.Common.{◌≡◌, ℕ, Bool, true, false, ◌&&◌, List, [], ◌∷◌, ◌++◌, length, Option, Some, None, refl, sym, ap, ◌∙◌, arith, length-append}
use Rattle.std.specs.Prelude.{nat_eq, if◌then◌else◌}
use Rattle.std.specs.List.{list_all}
use Rattle.std.specs.Option.{option_to_list}
use Rattle.std.proofs.lemmas.Bool.{eqb-true, eq-eqb, and_parts, and_from}
use Rattle.std.proofs.lemmas.Bool.Decides.{Decides-int_eq}
use Rattle.go_types_relations.specs.Identity.{same_name}
use Rattle.go_constants.specs.declared.values.Const.{Const}
use Rattle.go_constants.specs.declared.values.Const.TheVariants as const
use Rattle.go_typed.specs.declared.form.Form.{Form}
use Rattle.go_typed.specs.declared.form.Form.TheVariants as form
use Rattle.go_typed.specs.declared.form.Referent.TheVariants as referent
use Rattle.go_typed.specs.Trees.{Sort, Typed, typed, Typeds, none, more, skip}
use Rattle.clone_window.specs.declared.outline.Outline.{Outline}
use Rattle.go_typed.specs.Forms.{local_of}
use Rattle.clone_window.specs.Kinds.{outline}
use Rattle.clone_window.specs.Masses.{is_hole, is_inside}
use Rattle.clone_window.specs.Sameness.{same_value, const_kind, Final, of_type, of_kind, of_none, final, same_final, standing, value_of, same_values, are_alike, same_literal, same_outline, Compared, by_form, by_sort, by_literal, compared, agree_besides, agree_at, agree, all_agree, locals, all_locals, local_pairs, is_one_to_one, sort_at, is_matched, is_same}
use Rattle.clone_window.proofs.LocalPairs.{along-refl, along-sym, along-trans, one-refl, one-sym, one-trans}

-- ---- tests of identity, of one package with itself and between packages

abbrev pub IsReflexive : {T : Type 0} → (T → T → Bool) → Type 0
IsReflexive {T} identical = (t : T) → identical t t ≡ true

abbrev pub IsTurned : {T : Type 0} → (T → T → Bool) → (T → T → Bool) → Type 0
IsTurned {T} there back = (t u : T) → there t u ≡ true → back u t ≡ true

abbrev pub IsJoined : {T : Type 0} → (T → T → Bool) → (T → T → Bool) → (T → T → Bool) → Type 0
IsJoined {T} first second both = (t u v : T) → first t u ≡ true → second u v ≡ true → both t v ≡ true

-- ---- numbers, texts and constants

pub number-sym : (a b : ℕ) → nat_eq a b ≡ true → nat_eq b a ≡ true
number-sym a b h = eq-eqb b a (sym (eqb-true a b h))

pub number-trans : (a b c : ℕ) → nat_eq a b ≡ true → nat_eq b c ≡ true → nat_eq a c ≡ true
number-trans a b c h g = eq-eqb a c (eqb-true a b h ∙ eqb-true b c g)

pub name-refl : (xs : List ℕ) → same_name xs xs ≡ true
name-refl [] = refl
name-refl (x ∷ xs) = and_from (nat_eq x x) (same_name xs xs) (eq-eqb x x refl) (name-refl xs)

pub name-sym : (xs ys : List ℕ) → same_name xs ys ≡ true → same_name ys xs ≡ true
name-sym [] [] h = refl
name-sym [] (y ∷ ys) h = cc
name-sym (x ∷ xs) [] h = cc
name-sym (x ∷ xs) (y ∷ ys) h =
    let p = and_parts (nat_eq x y) (same_name xs ys) h in
    and_from (nat_eq y x) (same_name ys xs) (number-sym x y p.0) (name-sym xs ys p.1)

pub name-trans : (xs ys zs : List ℕ) → same_name xs ys ≡ true → same_name ys zs ≡ true → same_name xs zs ≡ true
name-trans [] [] zs h g = g
name-trans [] (y ∷ ys) zs h g = cc
name-trans (x ∷ xs) [] zs h g = cc
name-trans (x ∷ xs) (y ∷ ys) [] h g = cc
name-trans (x ∷ xs) (y ∷ ys) (z ∷ zs) h g =
    let p = and_parts (nat_eq x y) (same_name xs ys) h in
    let q = and_parts (nat_eq y z) (same_name ys zs) g in
    and_from (nat_eq x z) (same_name xs zs) (number-trans x y z p.0 q.0) (name-trans xs ys zs p.1 q.1)

value-refl : (a : Const) → same_value a a ≡ true
value-refl (const.Bool true) = refl
value-refl (const.Bool false) = refl
value-refl (const.Int a m) = (Decides-int_eq a a).1 refl
value-refl (const.Text a) = name-refl a

value-sym : (a b : Const) → same_value a b ≡ true → same_value b a ≡ true
value-sym (const.Bool true) (const.Bool true) h = refl
value-sym (const.Bool true) (const.Bool false) h = cc
value-sym (const.Bool false) (const.Bool true) h = cc
value-sym (const.Bool false) (const.Bool false) h = refl
value-sym (const.Bool a) (const.Int b n) h = cc
value-sym (const.Bool a) (const.Text b) h = cc
value-sym (const.Int a m) (const.Bool b) h = cc
value-sym (const.Int a m) (const.Int b n) h = (Decides-int_eq b a).1 (sym ((Decides-int_eq a b).0 h))
value-sym (const.Int a m) (const.Text b) h = cc
value-sym (const.Text a) (const.Bool b) h = cc
value-sym (const.Text a) (const.Int b n) h = cc
value-sym (const.Text a) (const.Text b) h = name-sym a b h

value-trans : (a b c : Const) → same_value a b ≡ true → same_value b c ≡ true → same_value a c ≡ true
value-trans (const.Bool true) (const.Bool true) c h g = g
value-trans (const.Bool true) (const.Bool false) c h g = cc
value-trans (const.Bool false) (const.Bool true) c h g = cc
value-trans (const.Bool false) (const.Bool false) c h g = g
value-trans (const.Bool a) (const.Int b n) c h g = cc
value-trans (const.Bool a) (const.Text b) c h g = cc
value-trans (const.Int a m) (const.Bool b) c h g = cc
value-trans (const.Int a m) (const.Int b n) (const.Bool c) h g = cc
value-trans (const.Int a m) (const.Int b n) (const.Int c o) h g = (Decides-int_eq a c).1 ((Decides-int_eq a b).0 h ∙ (Decides-int_eq b c).0 g)
value-trans (const.Int a m) (const.Int b n) (const.Text c) h g = cc
value-trans (const.Int a m) (const.Text b) c h g = cc
value-trans (const.Text a) (const.Bool b) c h g = cc
value-trans (const.Text a) (const.Int b n) c h g = cc
value-trans (const.Text a) (const.Text b) (const.Bool c) h g = cc
value-trans (const.Text a) (const.Text b) (const.Int c o) h g = cc
value-trans (const.Text a) (const.Text b) (const.Text c) h g = name-trans a b c h g

values-refl : (a : Option Const) → same_values a a ≡ true
values-refl None = refl
values-refl (Some a) = value-refl a

values-sym : (a b : Option Const) → same_values a b ≡ true → same_values b a ≡ true
values-sym None None h = refl
values-sym None (Some b) h = cc
values-sym (Some a) None h = cc
values-sym (Some a) (Some b) h = value-sym a b h

values-trans : (a b c : Option Const) → same_values a b ≡ true → same_values b c ≡ true → same_values a c ≡ true
values-trans None None c h g = g
values-trans None (Some b) c h g = cc
values-trans (Some a) None c h g = cc
values-trans (Some a) (Some b) None h g = cc
values-trans (Some a) (Some b) (Some c) h g = value-trans a b c h g

literal-refl : (a : Option Const) → same_literal a a ≡ true
literal-refl None = refl
literal-refl (Some a) = and_from (nat_eq (const_kind a) (const_kind a)) (same_value a a) (eq-eqb (const_kind a) (const_kind a) refl) (value-refl a)

literal-sym : (a b : Option Const) → same_literal a b ≡ true → same_literal b a ≡ true
literal-sym None None h = refl
literal-sym None (Some b) h = cc
literal-sym (Some a) None h = cc
literal-sym (Some a) (Some b) h =
    let p = and_parts (nat_eq (const_kind a) (const_kind b)) (same_value a b) h in
    and_from (nat_eq (const_kind b) (const_kind a)) (same_value b a) (number-sym (const_kind a) (const_kind b) p.0) (value-sym a b p.1)

literal-trans : (a b c : Option Const) → same_literal a b ≡ true → same_literal b c ≡ true → same_literal a c ≡ true
literal-trans None None c h g = g
literal-trans None (Some b) c h g = cc
literal-trans (Some a) None c h g = cc
literal-trans (Some a) (Some b) None h g = cc
literal-trans (Some a) (Some b) (Some c) h g =
    let p = and_parts (nat_eq (const_kind a) (const_kind b)) (same_value a b) h in
    let q = and_parts (nat_eq (const_kind b) (const_kind c)) (same_value b c) g in
    and_from (nat_eq (const_kind a) (const_kind c)) (same_value a c) (number-trans (const_kind a) (const_kind b) (const_kind c) p.0 q.0) (value-trans a b c p.1 q.1)

-- ---- what nodes and locals stand for

final-refl : {T : Type 0} (d : T → T → Bool) → IsReflexive d → (s : Final T) → same_final d s s ≡ true
final-refl d r (of_type t) = r t
final-refl d r (of_kind a) = eq-eqb a a refl
final-refl d r of_none = refl

final-sym : {T : Type 0} (d e : T → T → Bool) → IsTurned d e → (s t : Final T) → same_final d s t ≡ true → same_final e t s ≡ true
final-sym d e r (of_type t) (of_type u) h = r t u h
final-sym d e r (of_type t) (of_kind b) h = cc
final-sym d e r (of_type t) of_none h = cc
final-sym d e r (of_kind a) (of_type u) h = cc
final-sym d e r (of_kind a) (of_kind b) h = number-sym a b h
final-sym d e r (of_kind a) of_none h = cc
final-sym d e r of_none (of_type u) h = cc
final-sym d e r of_none (of_kind b) h = cc
final-sym d e r of_none of_none h = refl

final-trans : {T : Type 0} (d e f : T → T → Bool) → IsJoined d e f → (s t u : Final T) → same_final d s t ≡ true → same_final e t u ≡ true → same_final f s u ≡ true
final-trans d e f r (of_type s) (of_type t) (of_type u) h g = r s t u h g
final-trans d e f r (of_type s) (of_type t) (of_kind c) h g = cc
final-trans d e f r (of_type s) (of_type t) of_none h g = cc
final-trans d e f r (of_type s) (of_kind b) u h g = cc
final-trans d e f r (of_type s) of_none u h g = cc
final-trans d e f r (of_kind a) (of_type t) u h g = cc
final-trans d e f r (of_kind a) (of_kind b) (of_type u) h g = cc
final-trans d e f r (of_kind a) (of_kind b) (of_kind c) h g = number-trans a b c h g
final-trans d e f r (of_kind a) (of_kind b) of_none h g = cc
final-trans d e f r (of_kind a) of_none u h g = cc
final-trans d e f r of_none (of_type t) u h g = cc
final-trans d e f r of_none (of_kind b) u h g = cc
final-trans d e f r of_none of_none (of_type u) h g = cc
final-trans d e f r of_none of_none (of_kind c) h g = cc
final-trans d e f r of_none of_none of_none h g = refl

-- three tests, each of which holds
record Three (x y z : Bool) : Type 0 where
  first : x ≡ true
  second : y ≡ true
  third : z ≡ true

three-parts : (x y z : Bool) → (x && y && z) ≡ true → Three x y z
three-parts x y z h =
    let p = and_parts (x && y) z h in
    let q = and_parts x y p.0 in
    record { first = q.0; second = q.1; third = p.1 }

three-from : (x y z : Bool) → Three x y z → (x && y && z) ≡ true
three-from x y z h = and_from (x && y) z (and_from x y h.first h.second) h.third

alike-refl : {T : Type 0} (d : T → T → Bool) → IsReflexive d → (s : Sort T) → are_alike d s s ≡ true
alike-refl d r s =
    three-from (nat_eq (standing s) (standing s)) (same_final d (final s) (final s)) (same_values (value_of s) (value_of s))
    (record { first = eq-eqb (standing s) (standing s) refl; second = final-refl d r (final s); third = values-refl (value_of s) })

alike-sym : {T : Type 0} (d e : T → T → Bool) → IsTurned d e → (s t : Sort T) → are_alike d s t ≡ true → are_alike e t s ≡ true
alike-sym d e r s t h =
    let p = three-parts (nat_eq (standing s) (standing t)) (same_final d (final s) (final t)) (same_values (value_of s) (value_of t)) h in
    three-from (nat_eq (standing t) (standing s)) (same_final e (final t) (final s)) (same_values (value_of t) (value_of s))
    (record { first = number-sym (standing s) (standing t) p.first; second = final-sym d e r (final s) (final t) p.second; third = values-sym (value_of s) (value_of t) p.third })

alike-trans : {T : Type 0} (d e f : T → T → Bool) → IsJoined d e f → (s t u : Sort T) → are_alike d s t ≡ true → are_alike e t u ≡ true → are_alike f s u ≡ true
alike-trans d e f r s t u h g =
    let p = three-parts (nat_eq (standing s) (standing t)) (same_final d (final s) (final t)) (same_values (value_of s) (value_of t)) h in
    let q = three-parts (nat_eq (standing t) (standing u)) (same_final e (final t) (final u)) (same_values (value_of t) (value_of u)) g in
    three-from (nat_eq (standing s) (standing u)) (same_final f (final s) (final u)) (same_values (value_of s) (value_of u))
    (record {
      first = number-trans (standing s) (standing t) (standing u) p.first q.first;
      second = final-trans d e f r (final s) (final t) (final u) p.second q.second;
      third = values-trans (value_of s) (value_of t) (value_of u) p.third q.third;
    })

-- ---- nodes

outline-refl : (a : Outline) → same_outline a a ≡ true
outline-refl a =
    three-from (nat_eq a.kind a.kind) (nat_eq a.operator a.operator) (nat_eq a.count a.count)
    (record { first = eq-eqb a.kind a.kind refl; second = eq-eqb a.operator a.operator refl; third = eq-eqb a.count a.count refl })

outline-sym : (a b : Outline) → same_outline a b ≡ true → same_outline b a ≡ true
outline-sym a b h =
    let p = three-parts (nat_eq a.kind b.kind) (nat_eq a.operator b.operator) (nat_eq a.count b.count) h in
    three-from (nat_eq b.kind a.kind) (nat_eq b.operator a.operator) (nat_eq b.count a.count)
    (record { first = number-sym a.kind b.kind p.first; second = number-sym a.operator b.operator p.second; third = number-sym a.count b.count p.third })

outline-trans : (a b c : Outline) → same_outline a b ≡ true → same_outline b c ≡ true → same_outline a c ≡ true
outline-trans a b c h g =
    let p = three-parts (nat_eq a.kind b.kind) (nat_eq a.operator b.operator) (nat_eq a.count b.count) h in
    let q = three-parts (nat_eq b.kind c.kind) (nat_eq b.operator c.operator) (nat_eq b.count c.count) g in
    three-from (nat_eq a.kind c.kind) (nat_eq a.operator c.operator) (nat_eq a.count c.count)
    (record {
      first = number-trans a.kind b.kind c.kind p.first q.first;
      second = number-trans a.operator b.operator c.operator p.second q.second;
      third = number-trans a.count b.count c.count p.third q.third;
    })

besides-refl : {T : Type 0} (d : T → T → Bool) → IsReflexive d → (a : Compared) (s : Sort T) → agree_besides d a a s s ≡ true
besides-refl d r by_form s = refl
besides-refl d r by_sort s = alike-refl d r s
besides-refl d r by_literal s = literal-refl (value_of s)

besides-sym : {T : Type 0} (d e : T → T → Bool) → IsTurned d e → (a b : Compared) (s t : Sort T) → agree_besides d a b s t ≡ true → agree_besides e b a t s ≡ true
besides-sym d e r by_form by_form s t h = refl
besides-sym d e r by_form by_sort s t h = cc
besides-sym d e r by_form by_literal s t h = cc
besides-sym d e r by_sort by_form s t h = cc
besides-sym d e r by_sort by_sort s t h = alike-sym d e r s t h
besides-sym d e r by_sort by_literal s t h = cc
besides-sym d e r by_literal by_form s t h = cc
besides-sym d e r by_literal by_sort s t h = cc
besides-sym d e r by_literal by_literal s t h = literal-sym (value_of s) (value_of t) h

besides-trans : {T : Type 0} (d e f : T → T → Bool) → IsJoined d e f → (a b c : Compared) (s t u : Sort T) →
    agree_besides d a b s t ≡ true → agree_besides e b c t u ≡ true → agree_besides f a c s u ≡ true
besides-trans d e f r by_form by_form by_form s t u h g = refl
besides-trans d e f r by_form by_form by_sort s t u h g = cc
besides-trans d e f r by_form by_form by_literal s t u h g = cc
besides-trans d e f r by_form by_sort c s t u h g = cc
besides-trans d e f r by_form by_literal c s t u h g = cc
besides-trans d e f r by_sort by_form c s t u h g = cc
besides-trans d e f r by_sort by_sort by_form s t u h g = cc
besides-trans d e f r by_sort by_sort by_sort s t u h g = alike-trans d e f r s t u h g
besides-trans d e f r by_sort by_sort by_literal s t u h g = cc
besides-trans d e f r by_sort by_literal c s t u h g = cc
besides-trans d e f r by_literal by_form c s t u h g = cc
besides-trans d e f r by_literal by_sort c s t u h g = cc
besides-trans d e f r by_literal by_literal by_form s t u h g = cc
besides-trans d e f r by_literal by_literal by_sort s t u h g = cc
besides-trans d e f r by_literal by_literal by_literal s t u h g = literal-trans (value_of s) (value_of t) (value_of u) h g

at-refl : {T : Type 0} (d : T → T → Bool) → IsReflexive d → (hole : Bool) (f : Form) (s : Sort T) (parts : Bool) →
    parts ≡ true → agree_at d hole hole f f s s parts ≡ true
at-refl d r true f s parts h = final-refl d r (final s)
at-refl d r false f s parts h =
    three-from (same_outline (outline f) (outline f)) (agree_besides d (compared f) (compared f) s s) parts
    (record { first = outline-refl (outline f); second = besides-refl d r (compared f) s; third = h })

at-sym : {T : Type 0} (d e : T → T → Bool) → IsTurned d e → (x y : Bool) (f g : Form) (s t : Sort T) (p q : Bool) →
    (p ≡ true → q ≡ true) → agree_at d x y f g s t p ≡ true → agree_at e y x g f t s q ≡ true
at-sym d e r true true f g s t p q k h = final-sym d e r (final s) (final t) h
at-sym d e r true false f g s t p q k h = cc
at-sym d e r false true f g s t p q k h = cc
at-sym d e r false false f g s t p q k h =
    let c = three-parts (same_outline (outline f) (outline g)) (agree_besides d (compared f) (compared g) s t) p h in
    three-from (same_outline (outline g) (outline f)) (agree_besides e (compared g) (compared f) t s) q
    (record { first = outline-sym (outline f) (outline g) c.first; second = besides-sym d e r (compared f) (compared g) s t c.second; third = k c.third })

at-trans : {T : Type 0} (d e f : T → T → Bool) → IsJoined d e f → (x y z : Bool) (a b c : Form) (s t u : Sort T) (p q o : Bool) →
    (p ≡ true → q ≡ true → o ≡ true) → agree_at d x y a b s t p ≡ true → agree_at e y z b c t u q ≡ true → agree_at f x z a c s u o ≡ true
at-trans d e f r true true true a b c s t u p q o k h g = final-trans d e f r (final s) (final t) (final u) h g
at-trans d e f r true true false a b c s t u p q o k h g = cc
at-trans d e f r true false z a b c s t u p q o k h g = cc
at-trans d e f r false true z a b c s t u p q o k h g = cc
at-trans d e f r false false true a b c s t u p q o k h g = cc
at-trans d e f r false false false a b c s t u p q o k h g =
    let i = three-parts (same_outline (outline a) (outline b)) (agree_besides d (compared a) (compared b) s t) p h in
    let j = three-parts (same_outline (outline b) (outline c)) (agree_besides e (compared b) (compared c) t u) q g in
    three-from (same_outline (outline a) (outline c)) (agree_besides f (compared a) (compared c) s u) o
    (record {
      first = outline-trans (outline a) (outline b) (outline c) i.first j.first;
      second = besides-trans d e f r (compared a) (compared b) (compared c) s t u i.second j.second;
      third = k i.third j.third;
    })

-- ---- trees

mutual
  agree-refl : {T : Type 0} (d : T → T → Bool) → IsReflexive d → (a : Bool) (t : Typed T) → agree d a a t t ≡ true
  agree-refl d r a (typed f i j l ps) =
      at-refl d r (is_hole a f l) f l.sort (all_agree d (is_inside a f l) (is_inside a f l) ps ps) (all-refl d r (is_inside a f l) ps)

  all-refl : {T : Type 0} (d : T → T → Bool) → IsReflexive d → (a : Bool) (ps : Typeds T) → all_agree d a a ps ps ≡ true
  all-refl d r a none = refl
  all-refl d r a (more p ps) = and_from (agree d a a p p) (all_agree d a a ps ps) (agree-refl d r a p) (all-refl d r a ps)
  all-refl d r a (skip ps) = all-refl d r a ps

mutual
  agree-sym : {T : Type 0} (d e : T → T → Bool) → IsTurned d e → (a b : Bool) (t u : Typed T) → agree d a b t u ≡ true → agree e b a u t ≡ true
  agree-sym d e r a b (typed f i j l ps) (typed g k m n qs) h =
      at-sym d e r (is_hole a f l) (is_hole b g n) f g l.sort n.sort
      (all_agree d (is_inside a f l) (is_inside b g n) ps qs) (all_agree e (is_inside b g n) (is_inside a f l) qs ps)
      (λ c. all-sym d e r (is_inside a f l) (is_inside b g n) ps qs c) h

  all-sym : {T : Type 0} (d e : T → T → Bool) → IsTurned d e → (a b : Bool) (ps qs : Typeds T) → all_agree d a b ps qs ≡ true → all_agree e b a qs ps ≡ true
  all-sym d e r a b none none h = refl
  all-sym d e r a b none (more q qs) h = cc
  all-sym d e r a b none (skip qs) h = cc
  all-sym d e r a b (more p ps) none h = cc
  all-sym d e r a b (more p ps) (more q qs) h =
      let c = and_parts (agree d a b p q) (all_agree d a b ps qs) h in
      and_from (agree e b a q p) (all_agree e b a qs ps) (agree-sym d e r a b p q c.0) (all-sym d e r a b ps qs c.1)
  all-sym d e r a b (more p ps) (skip qs) h = cc
  all-sym d e r a b (skip ps) none h = cc
  all-sym d e r a b (skip ps) (more q qs) h = cc
  all-sym d e r a b (skip ps) (skip qs) h = all-sym d e r a b ps qs h

mutual
  agree-trans : {T : Type 0} (d e f : T → T → Bool) → IsJoined d e f → (a b c : Bool) (t u v : Typed T) →
      agree d a b t u ≡ true → agree e b c u v ≡ true → agree f a c t v ≡ true
  agree-trans d e f r a b c (typed x i j l ps) (typed y k m n qs) (typed z i2 j2 o rs) h g =
      at-trans d e f r (is_hole a x l) (is_hole b y n) (is_hole c z o) x y z l.sort n.sort o.sort
      (all_agree d (is_inside a x l) (is_inside b y n) ps qs) (all_agree e (is_inside b y n) (is_inside c z o) qs rs) (all_agree f (is_inside a x l) (is_inside c z o) ps rs)
      (λ p q. all-trans d e f r (is_inside a x l) (is_inside b y n) (is_inside c z o) ps qs rs p q) h g

  all-trans : {T : Type 0} (d e f : T → T → Bool) → IsJoined d e f → (a b c : Bool) (ps qs rs : Typeds T) →
      all_agree d a b ps qs ≡ true → all_agree e b c qs rs ≡ true → all_agree f a c ps rs ≡ true
  all-trans d e f r a b c none none none h g = refl
  all-trans d e f r a b c none none (more v rs) h g = cc
  all-trans d e f r a b c none none (skip rs) h g = cc
  all-trans d e f r a b c none (more q qs) rs h g = cc
  all-trans d e f r a b c none (skip qs) rs h g = cc
  all-trans d e f r a b c (more p ps) none rs h g = cc
  all-trans d e f r a b c (more p ps) (more q qs) none h g = cc
  all-trans d e f r a b c (more p ps) (more q qs) (more v rs) h g =
      let i = and_parts (agree d a b p q) (all_agree d a b ps qs) h in
      let j = and_parts (agree e b c q v) (all_agree e b c qs rs) g in
      and_from (agree f a c p v) (all_agree f a c ps rs) (agree-trans d e f r a b c p q v i.0 j.0) (all-trans d e f r a b c ps qs rs i.1 j.1)
  all-trans d e f r a b c (more p ps) (more q qs) (skip rs) h g = cc
  all-trans d e f r a b c (more p ps) (skip qs) rs h g = cc
  all-trans d e f r a b c (skip ps) none rs h g = cc
  all-trans d e f r a b c (skip ps) (more q qs) rs h g = cc
  all-trans d e f r a b c (skip ps) (skip qs) none h g = cc
  all-trans d e f r a b c (skip ps) (skip qs) (more v rs) h g = cc
  all-trans d e f r a b c (skip ps) (skip qs) (skip rs) h g = all-trans d e f r a b c ps qs rs h g

-- ---- locals

local_count : Outline → ℕ
local_count a = if nat_eq a.kind 31 then 1 else 0

-- A form names a local exactly where it is a local's name.
names-local : (f : Form) → length (option_to_list (local_of f)) ≡ local_count (outline f)
unfolding local_count
names-local form.Function = refl
names-local form.Expression = refl
names-local (form.Step s) = refl
names-local (form.Assign n) = refl
names-local (form.Operate a) = refl
names-local (form.Define n) = refl
names-local form.Variables = refl
names-local form.Constants = refl
names-local form.TypeNames = refl
names-local (form.Specified n) = refl
names-local form.Return = refl
names-local form.Break = refl
names-local form.Continue = refl
names-local form.Fallthrough = refl
names-local form.Block = refl
names-local form.If = refl
names-local form.Switch = refl
names-local (form.Case n) = refl
names-local form.Default = refl
names-local form.For = refl
names-local (form.Range true n) = refl
names-local (form.Range false n) = refl
names-local (form.Local n) = refl
names-local (form.New n) = refl
names-local (form.Declared n) = refl
names-local (form.Object (referent.Constant n)) = refl
names-local (form.Object (referent.Type n)) = refl
names-local (form.Object (referent.Variable n)) = refl
names-local (form.Object (referent.Function n)) = refl
names-local (form.Object (referent.Predeclared p)) = refl
names-local (form.Object referent.Println) = refl
names-local form.Blank = refl
names-local form.Literal = refl
names-local form.Parenthesized = refl
names-local (form.Selector n) = refl
names-local form.Index = refl
names-local form.Slice = refl
names-local form.Call = refl
names-local form.Conversion = refl
names-local form.Composite = refl
names-local (form.Unary s) = refl
names-local (form.Binary o) = refl
names-local (form.Keyed n) = refl
names-local form.Type = refl
names-local (form.Held k) = refl

pub as-many-here : (f g : Form) → same_outline (outline f) (outline g) ≡ true → length (option_to_list (local_of f)) ≡ length (option_to_list (local_of g))
unfolding local_count
as-many-here f g h =
    let p = three-parts (nat_eq (outline f).kind (outline g).kind) (nat_eq (outline f).operator (outline g).operator) (nat_eq (outline f).count (outline g).count) h in
    names-local f ∙ ap (λ k. if nat_eq k 31 then 1 else 0) (eqb-true (outline f).kind (outline g).kind p.first) ∙ sym (names-local g)

-- the locals of a node and of its parts are as many as those of another one
count-at : {T : Type 0} (d : T → T → Bool) (x y : Bool) (f g : Form) (s t : Sort T) (p : Bool) (ms ns : List ℕ) →
    (p ≡ true → length ms ≡ length ns) → agree_at d x y f g s t p ≡ true →
    length (if x then [] else option_to_list (local_of f) ++ ms) ≡ length (if y then [] else option_to_list (local_of g) ++ ns)
count-at d true true f g s t p ms ns k h = refl
count-at d true false f g s t p ms ns k h = cc
count-at d false true f g s t p ms ns k h = cc
count-at d false false f g s t p ms ns k h =
    let c = three-parts (same_outline (outline f) (outline g)) (agree_besides d (compared f) (compared g) s t) p h in
    let e : length (option_to_list (local_of f)) ≡ length (option_to_list (local_of g)) = as-many-here f g c.first in
    let r : length ms ≡ length ns = k c.third in
    omega (arith, length-append (option_to_list (local_of f)) ms, length-append (option_to_list (local_of g)) ns)

mutual
  as-many : {T : Type 0} (d : T → T → Bool) (a b : Bool) (t u : Typed T) → agree d a b t u ≡ true → length (locals a t) ≡ length (locals b u)
  as-many d a b (typed f i j l ps) (typed g k m n qs) h =
      count-at d (is_hole a f l) (is_hole b g n) f g l.sort n.sort (all_agree d (is_inside a f l) (is_inside b g n) ps qs)
      (all_locals (is_inside a f l) ps) (all_locals (is_inside b g n) qs) (λ c. all-as-many d (is_inside a f l) (is_inside b g n) ps qs c) h

  -- Rows that agree name as many locals.
  pub all-as-many : {T : Type 0} (d : T → T → Bool) (a b : Bool) (ps qs : Typeds T) → all_agree d a b ps qs ≡ true → length (all_locals a ps) ≡ length (all_locals b qs)
  all-as-many d a b none none h = refl
  all-as-many d a b none (more q qs) h = cc
  all-as-many d a b none (skip qs) h = cc
  all-as-many d a b (more p ps) none h = cc
  all-as-many d a b (more p ps) (more q qs) h =
      let c = and_parts (agree d a b p q) (all_agree d a b ps qs) h in
      let here : length (locals a p) ≡ length (locals b q) = as-many d a b p q c.0 in
      let rest : length (all_locals a ps) ≡ length (all_locals b qs) = all-as-many d a b ps qs c.1 in
      omega (arith, length-append (locals a p) (all_locals a ps), length-append (locals b q) (all_locals b qs))
  all-as-many d a b (more p ps) (skip qs) h = cc
  all-as-many d a b (skip ps) none h = cc
  all-as-many d a b (skip ps) (more q qs) h = cc
  all-as-many d a b (skip ps) (skip qs) h = all-as-many d a b ps qs h

-- ---- runs of statements

abbrev tests : {T : Type 0} → (T → T → Bool) → List (Sort T) → List (Sort T) → ℕ → ℕ → Bool
tests d here there x y = are_alike d (sort_at here x) (sort_at there y)

pub same-refl : {T : Type 0} (d : T → T → Bool) → IsReflexive d → (here : List (Sort T)) (ps : Typeds T) → is_same d here here ps ps ≡ true
same-refl d r here ps =
    let xs = all_locals false ps in
    three-from (all_agree d false false ps ps) (is_one_to_one (local_pairs ps ps)) (list_all (is_matched d here here) (local_pairs ps ps))
    (record {
      first = all-refl d r false ps;
      second = one-refl xs;
      third = along-refl (tests d here here) (λ x. alike-refl d r (sort_at here x)) xs;
    })

pub same-sym : {T : Type 0} (d e : T → T → Bool) → IsTurned d e → (here there : List (Sort T)) (ps qs : Typeds T) →
    is_same d here there ps qs ≡ true → is_same e there here qs ps ≡ true
same-sym d e r here there ps qs h =
    let xs = all_locals false ps in
    let ys = all_locals false qs in
    let c = three-parts (all_agree d false false ps qs) (is_one_to_one (local_pairs ps qs)) (list_all (is_matched d here there) (local_pairs ps qs)) h in
    three-from (all_agree e false false qs ps) (is_one_to_one (local_pairs qs ps)) (list_all (is_matched e there here) (local_pairs qs ps))
    (record {
      first = all-sym d e r false false ps qs c.first;
      second = one-sym xs ys c.second;
      third = along-sym (tests d here there) (tests e there here) (λ x y. alike-sym d e r (sort_at here x) (sort_at there y)) xs ys c.third;
    })

pub same-trans : {T : Type 0} (d e f : T → T → Bool) → IsJoined d e f → (one two three : List (Sort T)) (ps qs rs : Typeds T) →
    is_same d one two ps qs ≡ true → is_same e two three qs rs ≡ true → is_same f one three ps rs ≡ true
same-trans d e f r one two three ps qs rs h g =
    let xs = all_locals false ps in
    let ys = all_locals false qs in
    let zs = all_locals false rs in
    let c = three-parts (all_agree d false false ps qs) (is_one_to_one (local_pairs ps qs)) (list_all (is_matched d one two) (local_pairs ps qs)) h in
    let k = three-parts (all_agree e false false qs rs) (is_one_to_one (local_pairs qs rs)) (list_all (is_matched e two three) (local_pairs qs rs)) g in
    let m : length xs ≡ length ys = all-as-many d false false ps qs c.first in
    let n : length ys ≡ length zs = all-as-many e false false qs rs k.first in
    three-from (all_agree f false false ps rs) (is_one_to_one (local_pairs ps rs)) (list_all (is_matched f one three) (local_pairs ps rs))
    (record {
      first = all-trans d e f r false false false ps qs rs c.first k.first;
      second = one-trans xs ys zs m n c.second k.second;
      third = along-trans (tests d one two) (tests e two three) (tests f one three) (λ x y z. alike-trans d e f r (sort_at one x) (sort_at two y) (sort_at three z)) xs ys zs m n c.third k.third;
    })
