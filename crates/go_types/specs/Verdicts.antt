-- What is found out about a settled type, from its shape and from what is known of its parts.
use Rattle.std.specs.Prelude.{◌≡◌, ℕ, suc, ◌+◌, ◌^◌, ◌-◌, Bool, true, false, ◌&&◌, max, min, List, Option, Some, None, length, slice_get}
use Rattle.go_types.specs.declared.shape.Field.{Field}
use Rattle.go_types.specs.declared.shape.Shape.{Shape}
use Rattle.go_types.specs.declared.shape.Shape.TheVariants as shape
use Rattle.go_types.specs.declared.verdict.Verdict.{Verdict}
use Rattle.go_types.specs.Relations.{array_scalars}
use Rattle.go_types.specs.Tables.{Table, HasShape, HasRightId}

-- whether types of a shape are comparable, where the shape alone tells it; each has one scalar then
abbrev pub plain : Shape → Option Bool
plain shape.Bool = Some true
plain shape.Text = Some true
plain (shape.Int k) = Some true
plain (shape.Slice e) = Some false
plain (shape.Func ps rs) = Some false
plain _ = None

mutual
  -- The type of a number is comparable or isn't, and has so many scalars.
  pub data Judged (t : Table) : ℕ → Bool → ℕ → Type 0 where
    by_shape : (i : ℕ) (s : Shape) (c : Bool) (n : ℕ) → HasShape t i s → ShapeJudged t s c n → Judged t i c n

  -- So does a type of this shape.
  pub data ShapeJudged (t : Table) : Shape → Bool → ℕ → Type 0 where
    of_plain : (s : Shape) (c : Bool) → plain s ≡ Some c → ShapeJudged t s c 1
    of_array : (k e : ℕ) (c : Bool) (n : ℕ) → Judged t e c n → ShapeJudged t (shape.Array k e) c (array_scalars k n)
    of_struct : (fs : List Field) (c : Bool) (n : ℕ) → FieldsJudged t fs (length fs) c n → ShapeJudged t (shape.Struct fs) c (max 1 n)
    of_right : (m r : ℕ) (c : Bool) (n : ℕ) → HasRightId t m r → Judged t r c n → ShapeJudged t (shape.Named m) c n

  -- The first fields are all comparable or aren't, and have so many scalars together.
  pub data FieldsJudged (t : Table) : List Field → ℕ → Bool → ℕ → Type 0 where
    of_none : (fs : List Field) → FieldsJudged t fs 0 true 0
    of_more : (fs : List Field) (k : ℕ) (x : Field) (c d : Bool) (n m : ℕ) → FieldsJudged t fs k c n → slice_get fs k ≡ Some x → Judged t x.ty d m → FieldsJudged t fs (suc k) (c && d) (n + m)

-- a count as it is kept: one that is too large as the largest
abbrev pub kept_count : ℕ → ℕ
kept_count n = min n (2 ^ 64 - 1)

-- what is told of a number, of a shape, and of the first fields of a struct
abbrev pub IsVerdict : Table → ℕ → Verdict → Type 0
IsVerdict t i v = (n : ℕ) × Judged t i v.comparable n × (v.scalars ≡ kept_count n)

abbrev pub IsShapeVerdict : Table → Shape → Verdict → Type 0
IsShapeVerdict t s v = (n : ℕ) × ShapeJudged t s v.comparable n × (v.scalars ≡ kept_count n)

abbrev pub IsFieldsVerdict : Table → List Field → ℕ → Verdict → Type 0
IsFieldsVerdict t fs k v = (n : ℕ) × FieldsJudged t fs k v.comparable n × (v.scalars ≡ kept_count n)

-- Each verdict that is kept is one of its type.
abbrev pub AreVerdicts : Table → List (Option Verdict) → Type 0
AreVerdicts t verdicts = (i : ℕ) (v : Verdict) → slice_get verdicts i ≡ Some (Some v) → IsVerdict t i v
