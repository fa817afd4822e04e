-- What is found out about a type by what is known of its parts.
use Rattle.std.proofs.Common.{◌≡◌, ℕ, suc, ◌+◌, List, Option, Some, None, length, sym, subst, Bool, true, arith}
use Rattle.std.specs.Prelude.{slice_get, ◌&&◌, max, IfSome, IfNone}
use Rattle.go_types.specs.declared.shape.Field.{Field}
use Rattle.go_types.specs.declared.shape.Shape.{Shape}
use Rattle.go_types.specs.declared.shape.Shape.TheVariants as shape
use Rattle.go_types.specs.declared.verdict.Verdict.{Verdict}
use Rattle.go_types.specs.Relations.{array_scalars}
use Rattle.go_types.specs.Tables.{Table, HasShape, HasRightId}
use Rattle.go_types.specs.Verdicts.{plain, by_shape, ShapeJudged, of_plain, of_array, of_struct, of_right, FieldsJudged, of_none, of_more, kept_count, IsVerdict, IsShapeVerdict, IsFieldsVerdict}

-- a count that is that of more scalars by a rule
abbrev pub Counts : (ℕ → ℕ) → Verdict → Verdict → Type 0
Counts rule v r = (n : ℕ) → v.scalars ≡ kept_count n → r.scalars ≡ kept_count (rule n)

abbrev pub CountsTogether : Verdict → Verdict → Verdict → Type 0
CountsTogether v w r = (n m : ℕ) → v.scalars ≡ kept_count n → w.scalars ≡ kept_count m → r.scalars ≡ kept_count (n + m)

module _ (t : Table) where
  pub type_found : (i : ℕ) (s : Shape) (v : Verdict) → HasShape t i s → IsShapeVerdict t s v → IsVerdict t i v
  type_found i s v e h = (h.0, by_shape i s v.comparable h.0 e h.1, h.2)

  pub plain_found : (s : Shape) (c : Bool) (r : Verdict) → plain s ≡ Some c → r.comparable ≡ c → r.scalars ≡ 1 → IsShapeVerdict t s r
  plain_found s c r e same one = (1, subst (λ b. ShapeJudged t s b 1) (sym same) (of_plain s c e), one)

  pub array_found : (k e : ℕ) (v r : Verdict) → IsVerdict t e v → r.comparable ≡ v.comparable → Counts (array_scalars k) v r → IsShapeVerdict t (shape.Array k e) r
  array_found k e v r h same counts =
      (array_scalars k h.0, subst (λ b. ShapeJudged t (shape.Array k e) b (array_scalars k h.0)) (sym same) (of_array k e v.comparable h.0 h.1), counts h.0 h.2)

  pub struct_found : (fs : List Field) (v r : Verdict) → IsFieldsVerdict t fs (length fs) v → r.comparable ≡ v.comparable → Counts (max 1) v r → IsShapeVerdict t (shape.Struct fs) r
  struct_found fs v r h same counts = (max 1 h.0, subst (λ b. ShapeJudged t (shape.Struct fs) b (max 1 h.0)) (sym same) (of_struct fs v.comparable h.0 h.1), counts h.0 h.2)

  pub right_found : (n side : ℕ) (v : Verdict) → HasRightId t n side → IsVerdict t side v → IsShapeVerdict t (shape.Named n) v
  right_found n side v h g = (g.0, of_right n side v.comparable g.0 h g.1, g.2)

  pub no_field_found : (fs : List Field) (r : Verdict) → r.comparable ≡ true → r.scalars ≡ 0 → IsFieldsVerdict t fs 0 r
  no_field_found fs r same none = (0, subst (λ b. FieldsJudged t fs 0 b 0) (sym same) (of_none fs), none)

  pub field_found : (fs : List Field) (k : ℕ) (x : Field) (v w r : Verdict) → IsFieldsVerdict t fs k v → slice_get fs k ≡ Some x → IsVerdict t x.ty w → r.comparable ≡ (v.comparable && w.comparable) → CountsTogether v w r → IsFieldsVerdict t fs (k + 1) r
  field_found fs k x v w r h e g same counts =
      let next : suc k ≡ k + 1 = omega arith in (
        h.0 + g.0,
        subst (λ b. FieldsJudged t fs (k + 1) b (h.0 + g.0)) (sym same) (subst (λ m. FieldsJudged t fs m (v.comparable && w.comparable) (h.0 + g.0)) next (of_more fs k x v.comparable w.comparable h.0 g.0 h.1 e g.1)),
        counts h.0 g.0 h.2 g.2,
      )

  -- ---- where it may be that nothing is found

  pub type_maybe_found : (i : ℕ) (s : Shape) (o : Option Verdict) → HasShape t i s → IfSome o (IsShapeVerdict t s) → IfSome o (IsVerdict t i)
  type_maybe_found i s None e h = tt
  type_maybe_found i s (Some v) e h = type_found i s v e h

  pub right_maybe_found : (n side : ℕ) (o : Option Verdict) → HasRightId t n side → IfSome o (IsVerdict t side) → IfSome o (IsShapeVerdict t (shape.Named n))
  right_maybe_found n side None h g = tt
  right_maybe_found n side (Some v) h g = right_found n side v h g

pub none_told : {P : Type 0} (o : Option Verdict) → P → IfNone o P
none_told None p = p
none_told (Some v) p = tt

pub none_also : {P Q : Type 0} (o : Option Verdict) → (P → Q) → IfNone o P → IfNone o Q
none_also None f p = f p
none_also (Some v) f p = tt
