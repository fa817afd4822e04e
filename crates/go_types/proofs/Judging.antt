-- What is found out about types is right, and stays so when the table changes.
use Rattle.std.proofs.Common.{◌≡◌, ℕ, suc, ◌<◌, List, Some, None, length, refl, sym, ◌∙◌, ap, subst, arith, Bool, true, false}
use Rattle.std.specs.Prelude.{slice_get, ◌&&◌, ◌↔◌, IsTrue}
use Rattle.go_types.specs.declared.shape.Field.{Field}
use Rattle.go_types.specs.declared.shape.Shape.{Shape}
use Rattle.go_types.specs.declared.shape.Shape.TheVariants as shape
use Rattle.go_types.specs.Trees.{is_named}
use Rattle.go_types.specs.Relations.{Comparable, by_right}
use Rattle.go_types.specs.Tables.{Table, IsTable, HasShape, HasRightId, tree_of, type_of, rights_of, held, IsSettled}
use Rattle.go_types.specs.Changes.{declaration, Leads, stays}
use Rattle.go_types.specs.Verdicts.{plain, Judged, by_shape, ShapeJudged, of_plain, of_array, of_struct, of_right, FieldsJudged, of_none, of_more}
use Rattle.go_types.proofs.Places.{get_within, one_further}
use Rattle.go_types.proofs.Containment.{right_listed}
use Rattle.go_types.proofs.Underlyings.{declared_type, right_type, comparable_right, same_right}
use Rattle.go_types.proofs.Settling.{array_settled, struct_settled, right_settled, plain_settled, type_of_field}
use Rattle.go_types.proofs.Comparing.{array_up, array_down, struct_up, struct_down, plain_up, plain_down}

-- ---- in another table

-- types where P holds and shapes where Q holds stay
module _ (t u : Table) (P : ℕ → Type 0) (Q : Shape → Type 0) (same : (i : ℕ) (s : Shape) → P i → HasShape t i s → HasShape u i s × Q s) (stay : (s : Shape) (k j : ℕ) → Q s → slice_get (held t s) k ≡ Some j → P j) (rights : (n r : ℕ) → Q (shape.Named n) → HasRightId t n r → HasRightId u n r) where
  mutual
    pub judged_also : (i : ℕ) (c : Bool) (n : ℕ) → P i → Judged t i c n → Judged u i c n
    judged_also i c n p (by_shape _ s _ _ e j) = let there = same i s p e in by_shape i s c n there.0 (shape_also s c n there.1 j)

    pub shape_also : (s : Shape) (c : Bool) (n : ℕ) → Q s → ShapeJudged t s c n → ShapeJudged u s c n
    shape_also s c n q (of_plain _ _ e) = of_plain s c e
    shape_also s c n q (of_array k d _ m j) = of_array k d c m (judged_also d c m (stay (shape.Array k d) 0 d q refl) j)
    shape_also s c n q (of_struct fs _ m j) = of_struct fs c m (fields_also fs (length fs) c m q j)
    shape_also s c n q (of_right m r _ _ h j) = of_right m r c n (rights m r q h) (judged_also r c n (stay (shape.Named m) 0 r q (right_listed (slice_get t.rights m) r h)) j)

    fields_also : (fs : List Field) (k : ℕ) (c : Bool) (n : ℕ) → Q (shape.Struct fs) → FieldsJudged t fs k c n → FieldsJudged u fs k c n
    fields_also fs k c n q (of_none _) = of_none fs
    fields_also fs k c n q (of_more _ l x d f m o js e j) = of_more fs l x d f m o (fields_also fs l d m q js) e (judged_also x.ty f o (stay (shape.Struct fs) l x.ty q (type_of_field fs l x e)) j)

-- ---- plain shapes

no_array : (s : Shape) (c : Bool) → plain s ≡ Some c → (n p : ℕ) → s ≡ shape.Array n p → ⊥
no_array s c e n p is = let wrong : None ≡ Some c = ap plain (sym is) ∙ e in cc

no_struct : (s : Shape) (c : Bool) → plain s ≡ Some c → (fs : List Field) → s ≡ shape.Struct fs → ⊥
no_struct s c e fs is = let wrong : None ≡ Some c = ap plain (sym is) ∙ e in cc

no_declared : (s : Shape) (c : Bool) → plain s ≡ Some c → (n : ℕ) → s ≡ shape.Named n → ⊥
no_declared s c e n is = let wrong : None ≡ Some c = ap plain (sym is) ∙ e in cc

plain_undeclared : (s : Shape) (c : Bool) → plain s ≡ Some c → declaration (Some s) ≡ None
plain_undeclared shape.Bool c e = refl
plain_undeclared shape.Text c e = refl
plain_undeclared (shape.Int _) c e = refl
plain_undeclared (shape.Slice _) c e = refl
plain_undeclared (shape.Func _ _) c e = refl
plain_undeclared (shape.Array _ _) c e = cc
plain_undeclared (shape.Struct _) c e = cc
plain_undeclared (shape.Named _) c e = cc

plain_named : (t : Table) (s : Shape) (c : Bool) → plain s ≡ Some c → is_named (tree_of (type_of t.shapes) s) ≡ c
plain_named t shape.Bool c e = cc
plain_named t shape.Text c e = cc
plain_named t (shape.Int _) c e = cc
plain_named t (shape.Slice _) c e = cc
plain_named t (shape.Func _ _) c e = cc
plain_named t (shape.Array _ _) c e = cc
plain_named t (shape.Struct _) c e = cc
plain_named t (shape.Named _) c e = cc

-- ---- what is told of types

module _ (t : Table) (ok : IsTable t) where
  abbrev IsComparable : ℕ → Type 0
  IsComparable i = Comparable (rights_of t) (type_of t.shapes i)

  mutual
    pub judged_settled : (i : ℕ) (c : Bool) (n : ℕ) → Judged t i c n → IsSettled t i
    judged_settled i c n (by_shape _ s _ _ e j) = shape_settled i s c n e j

    shape_settled : (i : ℕ) (s : Shape) (c : Bool) (n : ℕ) → HasShape t i s → ShapeJudged t s c n → IsSettled t i
    shape_settled i s c n e (of_plain _ _ q) = plain_settled t i s e (no_array s c q) (no_struct s c q) (no_declared s c q)
    shape_settled i s c n e (of_array k d _ m j) = array_settled t i k d e (judged_settled d c m j)
    shape_settled i s c n e (of_struct fs _ m j) = struct_settled t i fs e (λ k x f. field_settled fs (length fs) c m j k x (get_within fs k x f) f)
    shape_settled i s c n e (of_right m r _ _ h j) = right_settled t i m r e h (judged_settled r c n j)

    field_settled : (fs : List Field) (k : ℕ) (c : Bool) (n : ℕ) → FieldsJudged t fs k c n → (l : ℕ) (x : Field) → l < k → slice_get fs l ≡ Some x → IsSettled t x.ty
    field_settled fs k c n (of_none _) l x h f = absurd (omega (arith, h))
    field_settled fs k c n (of_more _ k' y c' d n' m js e j) l x h f =
        one_further (λ z. IsSettled t z.ty) fs k' y e (judged_settled y.ty d m j) (field_settled fs k' c' n' js) l x (omega (arith, h)) f

  both_true : (a b : Bool) → IsTrue (a && b) → IsTrue a × IsTrue b
  both_true true b e = (refl, e)
  both_true false b e = cc

  and_true : (a b : Bool) → IsTrue a → IsTrue b → IsTrue (a && b)
  and_true true b e f = f
  and_true false b e f = cc

  abbrev FieldsComparable : List Field → ℕ → Type 0
  FieldsComparable fs k = (l : ℕ) (x : Field) → l < k → slice_get fs l ≡ Some x → IsComparable x.ty

  plain_told : (i : ℕ) (s : Shape) (c : Bool) → HasShape t i s → plain s ≡ Some c → IsTrue c ↔ IsComparable i
  plain_told i s c e q =
      let known = get_within t.shapes i s e in
      let leads : Leads t i i = stays i (ap declaration e ∙ plain_undeclared s c q) in
      let named = plain_named t s c q in
      (λ h. plain_up t ok i i s known leads e (named ∙ h), λ h. sym named ∙ plain_down t ok i i s known leads e (no_array s c q) (no_struct s c q) h)

  array_told : (i k d : ℕ) (c : Bool) → HasShape t i (shape.Array k d) → IsTrue c ↔ IsComparable d → IsTrue c ↔ IsComparable i
  array_told i k d c e told =
      let known = get_within t.shapes i (shape.Array k d) e in
      let leads : Leads t i i = stays i (ap declaration e) in
      (λ h. array_up t ok i i (shape.Array k d) known leads e k d refl (told.0 h), λ h. told.1 (array_down t ok i i (shape.Array k d) known leads e k d refl h))

  struct_told : (i : ℕ) (fs : List Field) (c : Bool) → HasShape t i (shape.Struct fs) → IsTrue c ↔ FieldsComparable fs (length fs) → IsTrue c ↔ IsComparable i
  struct_told i fs c e told =
      let known = get_within t.shapes i (shape.Struct fs) e in
      let leads : Leads t i i = stays i (ap declaration e) in (
        λ h. struct_up t ok i i (shape.Struct fs) known leads e fs refl (λ k x f. told.0 h k x (get_within fs k x f) f),
        λ h. told.1 (λ k x l f. struct_down t ok i i (shape.Struct fs) known leads e fs k x refl f h),
      )

  right_told : (i m r : ℕ) (c : Bool) → HasShape t i (shape.Named m) → HasRightId t m r → IsTrue c ↔ IsComparable r → IsTrue c ↔ IsComparable i
  right_told i m r c e h told =
      let is = declared_type t ok i m e in
      let side = right_type t m r h in (
        λ k. subst (Comparable (rights_of t)) (sym is) (by_right m (type_of t.shapes r) side (told.0 k)),
        λ k.
            let found = comparable_right (rights_of t) m (type_of t.shapes i) is k in
            told.1 (subst (Comparable (rights_of t)) (same_right (rights_of t) m found.0 (type_of t.shapes r) found.1 side) found.2),
      )

  field_told : (fs : List Field) (k : ℕ) (y : Field) (c d : Bool) → slice_get fs k ≡ Some y → IsTrue c ↔ FieldsComparable fs k → IsTrue d ↔ IsComparable y.ty → IsTrue (c && d) ↔ FieldsComparable fs (suc k)
  field_told fs k y c d e before here = (
    λ h. let two = both_true c d h in λ l x less f. one_further (λ z. IsComparable z.ty) fs k y e (here.0 two.1) (before.0 two.0) l x (omega (arith, less)) f,
    λ h. and_true c d (before.1 (λ l x less f. h l x (omega (arith, less)) f)) (here.1 (h k y (omega arith) e)),
  )

  mutual
    pub judged_comparable : (i : ℕ) (c : Bool) (n : ℕ) → Judged t i c n → IsTrue c ↔ IsComparable i
    judged_comparable i c n (by_shape _ s _ _ e j) = shape_comparable i s c n e j

    shape_comparable : (i : ℕ) (s : Shape) (c : Bool) (n : ℕ) → HasShape t i s → ShapeJudged t s c n → IsTrue c ↔ IsComparable i
    shape_comparable i s c n e (of_plain _ _ q) = plain_told i s c e q
    shape_comparable i s c n e (of_array k d _ m j) = array_told i k d c e (judged_comparable d c m j)
    shape_comparable i s c n e (of_struct fs _ m j) = struct_told i fs c e (fields_comparable fs (length fs) c m j)
    shape_comparable i s c n e (of_right m r _ _ h j) = right_told i m r c e h (judged_comparable r c n j)

    fields_comparable : (fs : List Field) (k : ℕ) (c : Bool) (n : ℕ) → FieldsJudged t fs k c n → IsTrue c ↔ FieldsComparable fs k
    fields_comparable fs k c n (of_none _) = (λ h l x less f. absurd (omega (arith, less)), λ h. refl)
    fields_comparable fs k c n (of_more _ l y c' d n' m js e j) = field_told fs l y c' d e (fields_comparable fs l c' n' js) (judged_comparable y.ty d m j)
