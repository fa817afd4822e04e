-- What is found out about a type of a shape.
use Rattle.std.proofs.Common.{◌≡◌, ℕ, List, Option, Some, None, [], ◌∷◌, zero, suc, map, refl, ap, sym, subst}
use Rattle.std.specs.Prelude.{slice_get}
use Rattle.std.specs.Option.{option_map}
use Rattle.go_types.specs.declared.types.Definition.{Definition}
use Rattle.go_types.specs.Changes.{table_of}
use Rattle.go_types.specs.declared.shape.Field.{Field}
use Rattle.go_types.specs.declared.shape.Shape.{Shape}
use Rattle.go_types.specs.declared.shape.Shape.TheVariants as shape
use Rattle.go_types.specs.declared.verdict.Verdict.{Verdict}
use Rattle.go_types.specs.declared.finding.Finding.{Finding}
use Rattle.go_types.specs.declared.finding.Finding.TheVariants as finding
use Rattle.go_types.specs.Tables.{Table, HasRightId}
use Rattle.go_types.specs.Verdicts.{AreVerdicts, plain}
use Rattle.go_types.specs.Findings.{IsFinding, Awaits, IsUnknownField}
use Rattle.go_types.proofs.Containment.{right_listed}
use Rattle.go_types.proofs.Settling.{type_of_field}
use Rattle.go_types.proofs.Judgements.{right_found}

pub array_waits : (t : Table) (verdicts : List (Option Verdict)) (k e : ℕ) → slice_get verdicts e ≡ Some None → Awaits t verdicts (shape.Array k e) e
array_waits t verdicts k e is = record { place = 0; held_is = refl; unknown = is }

pub struct_waits : (t : Table) (verdicts : List (Option Verdict)) (fs : List Field) (place part : ℕ) (h : IsUnknownField verdicts fs place) → part ≡ h.field.ty → Awaits t verdicts (shape.Struct fs) part
struct_waits t verdicts fs place part h e = record {
  place = place;
  held_is = subst (λ p. slice_get (map (λ f. f.ty) fs) place ≡ Some p) (sym e) (type_of_field fs place h.field h.field_is);
  unknown = subst (λ p. slice_get verdicts p ≡ Some None) (sym e) h.unknown;
}

get_map : {A B : Type 0} (f : A → B) (xs : List A) (i : ℕ) (x : A) → slice_get xs i ≡ Some x → slice_get (map f xs) i ≡ Some (f x)
get_map f [] i x e = cc
get_map f (y ∷ ys) zero x e = let same : y ≡ x = cc in ap (λ z. Some (f z)) same
get_map f (y ∷ ys) (suc i) x e = get_map f ys i x e

-- a declared type without one
pub open_told : (shapes : List Shape) (definitions : List (Option Definition)) (n : ℕ) → slice_get definitions n ≡ Some None → slice_get (table_of shapes definitions).rights n ≡ Some None
open_told shapes definitions n e = get_map (option_map (λ d. d.right)) definitions n None e

-- a declared type with a right side
pub right_told : (t : Table) (verdicts : List (Option Verdict)) (n r : ℕ) (f : Finding) → HasRightId t n r → AreVerdicts t verdicts → ((v : Verdict) → f ≡ finding.Known v → slice_get verdicts r ≡ Some (Some v)) → ((part place : ℕ) → f ≡ finding.Waits part place → (part ≡ r) × (slice_get verdicts r ≡ Some None)) → (f ≡ finding.Open → ⊥) → IsFinding t verdicts (shape.Named n) f
right_told t verdicts n r (finding.Known v) h are known waits closed = right_found t n r v h (are r v (known v refl))
right_told t verdicts n r (finding.Waits part place) h are known waits closed =
    let w = waits part place refl in
    record { place = 0; held_is = right_listed (slice_get t.rights n) part (subst (λ p. slice_get t.rights n ≡ Some (Some p)) (sym w.0) h); unknown = subst (λ p. slice_get verdicts p ≡ Some None) (sym w.0) w.1 }
right_told t verdicts n r finding.Open h are known waits closed = absurd (closed refl)

-- Each shape is told of by itself, or is one of three.
pub never_other : (s : Shape) → plain s ≡ None → ((k e : ℕ) → s ≡ shape.Array k e → ⊥) → ((fs : _) → s ≡ shape.Struct fs → ⊥) → ((n : ℕ) → s ≡ shape.Named n → ⊥) → ⊥
never_other shape.Bool e f g h = cc
never_other shape.Text e f g h = cc
never_other (shape.Int k) e f g h = cc
never_other (shape.Slice p) e f g h = cc
never_other (shape.Func ps rs) e f g h = cc
never_other (shape.Array k p) e f g h = f k p refl
never_other (shape.Struct fs) e f g h = g fs refl
never_other (shape.Named n) e f g h = h n refl
