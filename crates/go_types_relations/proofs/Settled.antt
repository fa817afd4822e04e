-- Of what is comparable, and of what has a count of scalars, all that it contains has its right side.
use Rattle.std.proofs.Common.{◌≡◌, ℕ, zero, suc, ◌+◌, List, [], ◌∷◌, Some, map, refl, subst}
use Rattle.std.specs.Prelude.{slice_get, max}
use Rattle.std.proofs.lemmas.Option.{same_Some}
use Rattle.go_types.specs.declared.shape.Field.{Field}
use Rattle.go_types.specs.declared.shape.Shape.{Shape}
use Rattle.go_types.specs.declared.shape.Shape.TheVariants as shape
use Rattle.go_types.specs.Trees.{TypeTree, declared, row}
use Rattle.go_types.specs.Relations.{Rights, HasRight, Comparable, Scalars, of_right, array_scalars}
use Rattle.go_types.specs.Tables.{Table, IsTable, HasShape, type_of, rights_of, tree_of, held, Holds, Contains, at_once, through, IsDefined, IsSettled}
use Rattle.go_types.proofs.Public.{type_of_shape, listed_right, declared_type, right_type, comparable_right, element_comparable, field_comparable, same_right}
use Rattle.go_types_relations.specs.Questions.{answers}
use Rattle.go_types_relations.specs.Sizes.{scalars_by, row_scalars_by, scalars_of}
use Rattle.go_types_relations.proofs.Booleans.{map_part, both_parts}
use Rattle.go_types_relations.proofs.Counting.{scalars_told, told_scalars}
use Rattle.go_types_relations.proofs.Extending.{right_number}

-- what every part has of what has it
module _ (t : Table) (P : ℕ → Type 0) (part : (i j : ℕ) → Holds t i j → P i → P j) (itself : (i : ℕ) → P i → IsDefined t i) where
  contained : (i j : ℕ) → Contains t i j → P i → IsDefined t j
  contained i j (at_once _ _ h) p = itself j (part i j h p)
  contained i j (through _ k _ h c) p = contained k j c (part i k h p)

  pub settled_by : (i : ℕ) → P i → IsSettled t i
  settled_by i p = record { itself = itself i p; contained = λ j c. contained i j c p }

field_at : (fs : List Field) (k j : ℕ) → slice_get (map (λ f. f.ty) fs) k ≡ Some j → (x : Field) × (slice_get fs k ≡ Some x) × (x.ty ≡ j)
field_at [] k j e = cc
field_at (f ∷ fs) zero j e = let same : f.ty ≡ j = cc in (f, refl, same)
field_at (f ∷ fs) (suc k) j e = field_at fs k j e

module _ (t : Table) (ok : IsTable t) where
  abbrev IsComparable : ℕ → Type 0
  IsComparable i = Comparable (rights_of t) (type_of t.shapes i)

  comparable_held : (i j : ℕ) → Holds t i j → IsComparable i → IsComparable j
  comparable_held i j h c = by h.its_shape h.shape_is h.place h.held_is
    where
      by : (s : Shape) → HasShape t i s → (k : ℕ) → slice_get (held t s) k ≡ Some j → IsComparable j
      by shape.Bool e k f = cc
      by shape.Text e k f = cc
      by (shape.Int _) e k f = cc
      by (shape.Slice _) e k f = cc
      by (shape.Func _ _) e k f = cc
      by (shape.Array n p) e zero f = subst IsComparable (same_Some p j f) (element_comparable (rights_of t) n (type_of t.shapes i) (type_of t.shapes p) (type_of_shape t.shapes ok.parts_below i (shape.Array n p) e) c)
      by (shape.Array n p) e (suc k) f = cc
      by (shape.Struct fs) e k f =
          let x = field_at fs k j f in
          subst IsComparable x.2 (field_comparable (rights_of t) (type_of t.shapes) fs k x.0 (subst (Comparable (rights_of t)) (type_of_shape t.shapes ok.parts_below i (shape.Struct fs) e) c) x.1)
      by (shape.Named n) e k f =
          let right = comparable_right (rights_of t) n (type_of t.shapes i) (declared_type t ok i n e) c in
          let same = same_right (rights_of t) n right.0 (type_of t.shapes j) right.1 (right_type t n j (listed_right (slice_get t.rights n) k j f)) in
          subst (Comparable (rights_of t)) same right.2

  comparable_defined : (i : ℕ) → IsComparable i → IsDefined t i
  comparable_defined i c n e =
      let right = comparable_right (rights_of t) n (type_of t.shapes i) (declared_type t ok i n e) c in
      let number = right_number t n right.0 right.1 in
      (number.0, number.1)

  pub comparable_settled : (i : ℕ) → IsComparable i → IsSettled t i
  comparable_settled = settled_by t IsComparable comparable_held comparable_defined

-- ---- counted

counted_right : (rights : Rights) (n : ℕ) (x : TypeTree) (l : ℕ) → x ≡ declared n → Scalars rights x l → (r : TypeTree) × HasRight rights n r × Scalars rights r l
counted_right rights n x l e (of_right m r _ h s) = let same : m ≡ n = cc in (r, subst (λ k. HasRight rights k r) same h, s)
counted_right rights n x l e _ = cc

module _ (t : Table) (ok : IsTable t) where
  abbrev IsCountedTree : TypeTree → Type 0
  IsCountedTree x = (n : ℕ) × (scalars_of (rights_of t) x ≡ Some n)

  abbrev IsCounted : ℕ → Type 0
  IsCounted i = IsCountedTree (type_of t.shapes i)

  counted_field : (fs : List Field) (k : ℕ) (x : Field) (n : ℕ) → row_scalars_by (answers scalars_by (rights_of t)) (row (map (λ f. type_of t.shapes f.ty) fs)) ≡ Some n → slice_get fs k ≡ Some x → IsCounted x.ty
  counted_field [] k x n e f = cc
  counted_field (y ∷ ys) zero x n e f =
      let same : y ≡ x = same_Some y x f in
      let p = both_parts (λ a b. a + b) (scalars_of (rights_of t) (type_of t.shapes y.ty)) (row_scalars_by (answers scalars_by (rights_of t)) (row (map (λ z. type_of t.shapes z.ty) ys))) n e in
      subst (λ z. IsCounted z.ty) same (p.0, p.2)
  counted_field (y ∷ ys) (suc k) x n e f =
      let p = both_parts (λ a b. a + b) (scalars_of (rights_of t) (type_of t.shapes y.ty)) (row_scalars_by (answers scalars_by (rights_of t)) (row (map (λ z. type_of t.shapes z.ty) ys))) n e in
      counted_field ys k x p.1 p.3 f

  counted_held : (i j : ℕ) → Holds t i j → IsCounted i → IsCounted j
  counted_held i j h c = by h.its_shape h.shape_is h.place h.held_is
    where
      tree : (s : Shape) → HasShape t i s → IsCountedTree (tree_of (type_of t.shapes) s)
      tree s e = subst IsCountedTree (type_of_shape t.shapes ok.parts_below i s e) c

      by : (s : Shape) → HasShape t i s → (k : ℕ) → slice_get (held t s) k ≡ Some j → IsCounted j
      by shape.Bool e k f = cc
      by shape.Text e k f = cc
      by (shape.Int _) e k f = cc
      by (shape.Slice _) e k f = cc
      by (shape.Func _ _) e k f = cc
      by (shape.Array n p) e zero f =
          let l = tree (shape.Array n p) e in
          let q = map_part (array_scalars n) (scalars_of (rights_of t) (type_of t.shapes p)) l.0 l.1 in
          subst IsCounted (same_Some p j f) (q.0, q.1)
      by (shape.Array n p) e (suc k) f = cc
      by (shape.Struct fs) e k f =
          let x = field_at fs k j f in
          let l = tree (shape.Struct fs) e in
          let q = map_part (max 1) (row_scalars_by (answers scalars_by (rights_of t)) (row (map (λ y. type_of t.shapes y.ty) fs))) l.0 l.1 in
          subst IsCounted x.2 (counted_field fs k x.0 q.0 q.1 x.1)
      by (shape.Named n) e k f =
          let right = counted_right (rights_of t) n (type_of t.shapes i) c.0 (declared_type t ok i n e) (told_scalars (rights_of t) (type_of t.shapes i) c.0 c.1) in
          let same = same_right (rights_of t) n right.0 (type_of t.shapes j) right.1 (right_type t n j (listed_right (slice_get t.rights n) k j f)) in
          subst IsCountedTree same (c.0, scalars_told (rights_of t) right.0 c.0 right.2)

  counted_defined : (i : ℕ) → IsCounted i → IsDefined t i
  counted_defined i c n e =
      let right = counted_right (rights_of t) n (type_of t.shapes i) c.0 (declared_type t ok i n e) (told_scalars (rights_of t) (type_of t.shapes i) c.0 c.1) in
      let number = right_number t n right.0 right.1 in
      (number.0, number.1)

  pub counted_settled : (i : ℕ) → IsCounted i → IsSettled t i
  counted_settled = settled_by t IsCounted counted_held counted_defined
