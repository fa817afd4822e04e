-- Types all of whose declared types have right sides, and how they keep the others finite.
use Rattle.std.proofs.Common.{◌≡◌, ℕ, zero, suc, ◌<◌, ◌⊎◌, inl, inr, List, [], ◌∷◌, Some, None, map, length, refl, sym, ◌∙◌, ap, subst, arith}
use Rattle.std.specs.Prelude.{slice_get, slice_set, count_by}
use Rattle.go_types.specs.declared.shape.Field.{Field}
use Rattle.go_types.specs.declared.shape.Shape.{Shape}
use Rattle.go_types.specs.declared.shape.Shape.TheVariants as shape
use Rattle.go_types.specs.Tables.{Table, IsTable, HasShape, HasRightId, held, Holds, Contains, at_once, through, NoneContainsItself, WasDeclared, IsDefined, IsSettled, is_declaration}
use Rattle.go_types.specs.Changes.{declaration, defined, rights_with, IsOpen}
use Rattle.go_types.proofs.Places.{get_set, get_within}
use Rattle.go_types.proofs.Countings.{count_rises, take_whole}
use Rattle.go_types.proofs.Containment.{contains_not_itself, listed_right, right_listed}
use Rattle.go_types.proofs.Carrying.{contains_also}
use Rattle.go_types.proofs.Underlyings.{settled_held}

-- ---- what a type of a known shape holds

same_shape_of : (t : Table) (i : ℕ) (s : Shape) → HasShape t i s → (j : ℕ) (h : Holds t i j) → slice_get (held t s) h.place ≡ Some j
same_shape_of t i s e j h =
    let same : h.its_shape ≡ s = some_same (sym h.shape_is ∙ e) in
    ap (λ x. slice_get (held t x) h.place) (sym same) ∙ h.held_is
  where
    some_same : {A : Type 0} {a b : A} → Some a ≡ Some b → a ≡ b
    some_same e = cc

-- a type is settled where it is defined and what it holds is settled
pub settled_by_held : (t : Table) (i : ℕ) → IsDefined t i → ((j : ℕ) → Holds t i j → IsSettled t j) → IsSettled t i
settled_by_held t i d f = record { itself = d; contained = contained }
  where
    contained : (j : ℕ) → Contains t i j → IsDefined t j
    contained j (at_once _ _ h) = (f j h).itself
    contained j (through _ k _ h c) = (f k h).contained j c

not_declared : (t : Table) (i : ℕ) (s : Shape) → HasShape t i s → declaration (Some s) ≡ None → IsDefined t i
not_declared t i s e d n h = let wrong : Some n ≡ None = sym (ap declaration h) ∙ (ap declaration e ∙ d) in cc

pub array_settled : (t : Table) (i n p : ℕ) → HasShape t i (shape.Array n p) → IsSettled t p → IsSettled t i
array_settled t i n p e s = settled_by_held t i (not_declared t i (shape.Array n p) e refl) (λ j h. at h.place j (same_shape_of t i (shape.Array n p) e j h))
  where
    at : (k j : ℕ) → slice_get (p ∷ []) k ≡ Some j → IsSettled t j
    at zero j e = let same : p ≡ j = cc in subst (IsSettled t) same s
    at (suc k) j e = cc

pub settled_element : (t : Table) (i n p : ℕ) → HasShape t i (shape.Array n p) → IsSettled t i → IsSettled t p
settled_element t i n p e s = settled_held t i p s (record { its_shape = shape.Array n p; shape_is = e; place = 0; held_is = refl })

field_of : (fs : List Field) (k j : ℕ) → slice_get (map (λ f. f.ty) fs) k ≡ Some j → (x : Field) × (slice_get fs k ≡ Some x) × (x.ty ≡ j)
field_of [] k j e = cc
field_of (f ∷ fs) zero j e = let same : f.ty ≡ j = cc in (f, refl, same)
field_of (f ∷ fs) (suc k) j e = field_of fs k j e

pub type_of_field : (fs : List Field) (k : ℕ) (x : Field) → slice_get fs k ≡ Some x → slice_get (map (λ f. f.ty) fs) k ≡ Some x.ty
type_of_field [] k x e = cc
type_of_field (f ∷ fs) zero x e = let same : f ≡ x = cc in ap (λ y. Some y.ty) same
type_of_field (f ∷ fs) (suc k) x e = type_of_field fs k x e

pub struct_settled : (t : Table) (i : ℕ) (fs : List Field) → HasShape t i (shape.Struct fs) → ((k : ℕ) (x : Field) → slice_get fs k ≡ Some x → IsSettled t x.ty) → IsSettled t i
struct_settled t i fs e s =
    settled_by_held t i (not_declared t i (shape.Struct fs) e refl) (λ j h.
    let f = field_of fs h.place j (same_shape_of t i (shape.Struct fs) e j h) in
    subst (IsSettled t) f.2 (s h.place f.0 f.1))

pub field_held : (t : Table) (i : ℕ) (fs : List Field) (k : ℕ) (x : Field) → HasShape t i (shape.Struct fs) → slice_get fs k ≡ Some x → Holds t i x.ty
field_held t i fs k x e f = record { its_shape = shape.Struct fs; shape_is = e; place = k; held_is = type_of_field fs k x f }

pub right_settled : (t : Table) (i n r : ℕ) → HasShape t i (shape.Named n) → HasRightId t n r → IsSettled t r → IsSettled t i
right_settled t i n r e h s =
    settled_by_held t i its_right (λ j g.
    let o = listed_right (slice_get t.rights n) g.place j (same_shape_of t i (shape.Named n) e j g) in
    let same : r ≡ j = some_some (sym h ∙ o) in
    subst (IsSettled t) same s)
  where
    some_some : {a b : ℕ} → Some (Some a) ≡ Some (Some b) → a ≡ b
    some_some e = cc

    named : {a b : ℕ} → Some (shape.Named a) ≡ Some (shape.Named b) → a ≡ b
    named e = cc

    its_right : IsDefined t i
    its_right m f = (r, subst (λ k. HasRightId t k r) (named (sym e ∙ f)) h)

pub plain_settled : (t : Table) (i : ℕ) (s : Shape) → HasShape t i s → ((n p : ℕ) → s ≡ shape.Array n p → ⊥) → ((fs : List Field) → s ≡ shape.Struct fs → ⊥) → ((n : ℕ) → s ≡ shape.Named n → ⊥) → IsSettled t i
plain_settled t i s e no_array no_struct no_declared = settled_by_held t i defined_itself (λ j h. absurd (nothing s no_array no_struct no_declared h.place j (same_shape_of t i s e j h)))
  where
    some_shape : {a b : Shape} → Some a ≡ Some b → a ≡ b
    some_shape e = cc

    defined_itself : IsDefined t i
    defined_itself n f = absurd (no_declared n (some_shape (sym e ∙ f)))

    nothing : (x : Shape) → ((n p : ℕ) → x ≡ shape.Array n p → ⊥) → ((fs : List Field) → x ≡ shape.Struct fs → ⊥) → ((n : ℕ) → x ≡ shape.Named n → ⊥) → (k j : ℕ) → slice_get (held t x) k ≡ Some j → ⊥
    nothing shape.Bool f g h k j e = cc
    nothing shape.Text f g h k j e = cc
    nothing (shape.Int _) f g h k j e = cc
    nothing (shape.Slice _) f g h k j e = cc
    nothing (shape.Func _ _) f g h k j e = cc
    nothing (shape.Array n p) f g h k j e = f n p refl
    nothing (shape.Struct fs) f g h k j e = g fs refl
    nothing (shape.Named n) f g h k j e = h n refl

-- a declared type without a right side isn't settled
pub open_unsettled : (t : Table) (i : ℕ) → IsOpen t i → IsSettled t i → ⊥
open_unsettled t i o s =
    let right = s.itself o.0 o.1 in
    let wrong : Some None ≡ Some (Some right.0) = sym o.2 ∙ right.1 in
    cc

-- a declared type has one of the numbers that were given
pub declared_within : (t : Table) → IsTable t → (i n : ℕ) → HasShape t i (shape.Named n) → n < length t.rights
declared_within t ok i n e =
    let number = ok.numbered i n e in
    let rises = count_rises is_declaration t.shapes i (length t.shapes) (shape.Named n) e refl (get_within t.shapes i (shape.Named n) e) in
    let whole = ap (count_by is_declaration) (take_whole t.shapes) in
    let count = ok.declarations in
    omega (arith, number, rises, whole, count)

-- so has each shape of the table
pub shape_declared : (t : Table) → IsTable t → (i : ℕ) (s : Shape) → HasShape t i s → WasDeclared t s
shape_declared t ok i shape.Bool e = tt
shape_declared t ok i shape.Text e = tt
shape_declared t ok i (shape.Int _) e = tt
shape_declared t ok i (shape.Array _ _) e = tt
shape_declared t ok i (shape.Slice _) e = tt
shape_declared t ok i (shape.Struct _) e = tt
shape_declared t ok i (shape.Func _ _) e = tt
shape_declared t ok i (shape.Named n) e = declared_within t ok i n e

-- ---- a settled right side

module _ (t : Table) (ok : IsTable t) (named right : ℕ) (o : IsOpen t named) (s : IsSettled t right) where
  abbrev new : Table
  new = defined t named right

  rights_are : new.rights ≡ slice_set t.rights o.0 (Some right)
  rights_are = ap (λ x. rights_with x right t.rights) o.1

  -- a right side of another declared type is one of before; that of the one named is the new one
  old_right : (n r : ℕ) → HasRightId new n r → HasRightId t n r ⊎ ((n ≡ o.0) × (r ≡ right))
  old_right n r h =
      elim (get_set t.rights o.0 (Some right) n (Some r) (ap (λ l. slice_get l n) (sym rights_are) ∙ h)) [
        | inl e ↦ inl e
        | inr p ↦ let same : r ≡ right = some_same p.1 in inr (p.0, same)
      ]
    where
      some_same : {a b : ℕ} → Some a ≡ Some b → a ≡ b
      some_same e = cc

  -- a step is one of before, or goes from the type named to its right side
  old_step : (i j : ℕ) → Holds new i j → Holds t i j ⊎ ((i ≡ named) × (j ≡ right))
  old_step i j h = by h.its_shape h.shape_is h.place h.held_is
    where
      by : (x : Shape) → HasShape t i x → (k : ℕ) → slice_get (held new x) k ≡ Some j → Holds t i j ⊎ ((i ≡ named) × (j ≡ right))
      by shape.Bool e k f = cc
      by shape.Text e k f = cc
      by (shape.Int _) e k f = cc
      by (shape.Slice _) e k f = cc
      by (shape.Func _ _) e k f = cc
      by (shape.Array n p) e k f = inl (record { its_shape = shape.Array n p; shape_is = e; place = k; held_is = f })
      by (shape.Struct fs) e k f = inl (record { its_shape = shape.Struct fs; shape_is = e; place = k; held_is = f })
      by (shape.Named n) e k f =
          elim (old_right n j (listed_right (slice_get new.rights n) k j f)) [
            | inl r ↦ inl (record { its_shape = shape.Named n; shape_is = e; place = 0; held_is = right_listed (slice_get t.rights n) j r })
            | inr p ↦ inr (ok.distinct i named (shape.Named n) e (o.1 ∙ ap (λ m. Some (shape.Named m)) (sym p.0)), p.1)
          ]

  settled_step : (i j : ℕ) → IsSettled t i → Holds new i j → Holds t i j × IsSettled t j
  settled_step i j d h =
      elim (old_step i j h) [
        | inl e ↦ (e, settled_held t i j d e)
        | inr p ↦ absurd (open_unsettled t named o (subst (IsSettled t) p.0 d))
      ]

  -- from a settled type the way is one of before
  settled_way : (i j : ℕ) → IsSettled t i → Contains new i j → Contains t i j
  settled_way = contains_also new t (IsSettled t) settled_step

  -- a way is one of before, or comes by the new right side
  split_way : (i j : ℕ) → Contains new i j → Contains t i j ⊎ ((right ≡ j) ⊎ Contains new right j)
  split_way i j (at_once _ _ h) =
      elim (old_step i j h) [
        | inl e ↦ inl (at_once i j e)
        | inr p ↦ inr (inl (sym p.1))
      ]
  split_way i j (through _ k _ h c) =
      elim (split_way k j c) [
        | inl d ↦
            elim (old_step i k h) [
              | inl e ↦ inl (through i k j e d)
              | inr p ↦ inr (inr (subst (λ x. Contains new x j) p.1 c))
            ]
        | inr d ↦ inr d
      ]

  pub settled_finite : NoneContainsItself new
  settled_finite i n h c =
      elim (split_way i i c) [
        | inl d ↦ contains_not_itself t ok i d
        | inr d ↦
            elim d [
              | inl e ↦ contains_not_itself t ok i (settled_way i i (subst (IsSettled t) e s) c)
              | inr w ↦
                  let old = settled_way right i s w in
                  contains_not_itself t ok i (settled_way i i (settled_along right i s old) c)
            ]
      ]
    where
      settled_along : (a b : ℕ) → IsSettled t a → Contains t a b → IsSettled t b
      settled_along a b d (at_once _ _ g) = settled_held t a b d g
      settled_along a b d (through _ k _ g e) = settled_along k b (settled_held t a k d g) e
