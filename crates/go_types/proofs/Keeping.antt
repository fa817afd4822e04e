-- The verdicts that are kept stay right when the table changes.
use Rattle.std.proofs.Common.{◌≡◌, ℕ, suc, ◌<◌, ◌≤◌, inl, inr, List, [], ◌∷◌, ◌++◌, Option, Some, None, take, length, refl, sym, ◌∙◌, ap, subst, arith}
use Rattle.std.specs.Prelude.{slice_get, slice_set, count_by, IfSome}
use Rattle.std.proofs.lemmas.List.{length-set}
use Rattle.go_types.specs.declared.shape.Shape.{Shape}
use Rattle.go_types.specs.declared.shape.Shape.TheVariants as shape
use Rattle.go_types.specs.declared.types.Definition.{Definition}
use Rattle.go_types.specs.declared.verdict.Verdict.{Verdict}
use Rattle.go_types.specs.Shapes.{IsInterned}
use Rattle.go_types.specs.Tables.{Table, HasShape, HasRightId, HasPartsBelow, WasDeclared, held, parts, is_declaration}
use Rattle.go_types.specs.Changes.{table_of, IsResolved, IsClosedBelow, IsKept}
use Rattle.go_types.specs.Verdicts.{by_shape, of_right, IsVerdict, IsShapeVerdict, AreVerdicts}
use Rattle.go_types.proofs.Places.{get_left, get_snoc, get_last, get_within, get_take, take_get, get_set, get_set_other, get_set_same, all_of}
use Rattle.go_types.proofs.Countings.{count_rises, length_longer, length_taken, take_longer, take_whole}
use Rattle.go_types.proofs.Containment.{declared_or_not, held_part, listed_right}
use Rattle.go_types.proofs.Carrying.{right_definition, definition_right}
use Rattle.go_types.proofs.Growing.{with_shape, with_declared, declared_added}
use Rattle.go_types.proofs.Cutting.{first_resolved}
use Rattle.go_types.proofs.Judging.{judged_also, shape_also}

-- what is told of an option that is there
told : (P : Verdict → Type 0) (o : Option Verdict) (v : Verdict) → IfSome o P → Some v ≡ o → P v
told P None v h e = cc
told P (Some w) v h e = let same : w ≡ v = cc in subst P same h

-- ---- a table with all that was there

module _ (shapes new_shapes : List Shape) (definitions new_definitions : List (Option Definition)) (more_shapes : (i : ℕ) (s : Shape) → slice_get shapes i ≡ Some s → slice_get new_shapes i ≡ Some s) (more_definitions : (n : ℕ) (d : Definition) → slice_get definitions n ≡ Some (Some d) → slice_get new_definitions n ≡ Some (Some d)) where
  abbrev old : Table
  old = table_of shapes definitions

  abbrev new : Table
  new = table_of new_shapes new_definitions

  new_right : (n r : ℕ) → HasRightId old n r → HasRightId new n r
  new_right n r h =
      let d = right_definition shapes definitions n r h in
      subst (HasRightId new n) d.2 (definition_right new_shapes new_definitions n d.0 (more_definitions n d.0 d.1))

  pub verdict_longer : (i : ℕ) (v : Verdict) → IsVerdict old i v → IsVerdict new i v
  verdict_longer i v h = (h.0, judged_also old new (λ _. Unit {0}) (λ _. Unit {0}) (λ j s p e. (more_shapes j s e, tt)) (λ s k j q e. tt) (λ n r q g. new_right n r g) i v.comparable h.0 tt h.1, h.2)

  pub shape_verdict_longer : (s : Shape) (v : Verdict) → IsShapeVerdict old s v → IsShapeVerdict new s v
  shape_verdict_longer s v h = (h.0, shape_also old new (λ _. Unit {0}) (λ _. Unit {0}) (λ j x p e. (more_shapes j x e, tt)) (λ x k j q e. tt) (λ n r q g. new_right n r g) s v.comparable h.0 tt h.1, h.2)

shape_told : (t : Table) (i : ℕ) (s : Shape) (v : Verdict) → HasShape t i s → IsShapeVerdict t s v → IsVerdict t i v
shape_told t i s v e h = (h.0, by_shape i s v.comparable h.0 e h.1, h.2)

-- ---- one type more

longer_kept : (shapes : List Shape) (definitions new_definitions : List (Option Definition)) (verdicts : List (Option Verdict)) (s : Shape) (o : Option Verdict) → IsKept shapes definitions verdicts → IsResolved (shapes ++ s ∷ []) new_definitions → ((n : ℕ) (d : Definition) → slice_get definitions n ≡ Some (Some d) → slice_get new_definitions n ≡ Some (Some d)) → IfSome o (IsShapeVerdict (table_of shapes definitions) s) → IsKept (shapes ++ s ∷ []) new_definitions (verdicts ++ o ∷ [])
longer_kept shapes definitions new_definitions verdicts s o kept ok more h = record {
  resolved = ok;
  places = length_longer verdicts o ∙ (ap suc kept.places ∙ sym (length_longer shapes s));
  right = right;
}
  where
    left : (i : ℕ) (x : Shape) → slice_get shapes i ≡ Some x → slice_get (shapes ++ s ∷ []) i ≡ Some x
    left i x e = get_left shapes (s ∷ []) i x e

    right : AreVerdicts (table_of (shapes ++ s ∷ []) new_definitions) (verdicts ++ o ∷ [])
    right i v e =
        elim (get_snoc verdicts o i (Some v) e) [
          | inl old ↦ verdict_longer shapes (shapes ++ s ∷ []) definitions new_definitions left more i v (kept.right i v old)
          | inr p ↦
              let found : IsShapeVerdict (table_of shapes definitions) s v = told (IsShapeVerdict (table_of shapes definitions) s) o v h p.1 in
              let last : HasShape (table_of (shapes ++ s ∷ []) new_definitions) i s = ap (slice_get (shapes ++ s ∷ [])) (p.0 ∙ kept.places) ∙ get_last shapes s in
              shape_told (table_of (shapes ++ s ∷ []) new_definitions) i s v last (shape_verdict_longer shapes (shapes ++ s ∷ []) definitions new_definitions left more s v found)
        ]

pub same_taken : {X : Type 0} {Y : Type 0} (xs : List X) (ys : List Y) (x : X) → length xs ≡ length ys → take (length ys) (xs ++ x ∷ []) ≡ xs
same_taken xs ys x e = ap (λ n. take n (xs ++ x ∷ [])) (sym e) ∙ (take_longer xs (x ∷ []) (length xs) (omega arith) ∙ take_whole xs)

pub all_taken : {X : Type 0} {Y : Type 0} (xs : List X) (ys : List Y) (x : X) (y : Y) → length xs ≡ length ys → take (length (ys ++ y ∷ [])) (xs ++ x ∷ []) ≡ xs ++ x ∷ []
all_taken xs ys x y e = ap (λ n. take n (xs ++ x ∷ [])) (length_longer ys y ∙ (ap suc (sym e) ∙ sym (length_longer xs x))) ∙ take_whole (xs ++ x ∷ [])

pub interned_kept : (shapes new_shapes : List Shape) (definitions : List (Option Definition)) (verdicts : List (Option Verdict)) (s : Shape) (i : ℕ) (o : Option Verdict) → IsKept shapes definitions verdicts → HasPartsBelow (length shapes) s → WasDeclared (table_of shapes definitions) s → IsInterned shapes new_shapes s i → IfSome o (IsShapeVerdict (table_of shapes definitions) s) → IsKept new_shapes definitions (take (length new_shapes) (verdicts ++ o ∷ []))
interned_kept shapes new_shapes definitions verdicts s i o kept parts was (inl known) h =
    subst (λ x. IsKept x definitions (take (length x) (verdicts ++ o ∷ []))) (sym known.same)
    (subst (IsKept shapes definitions) (sym (same_taken verdicts shapes o kept.places)) kept)
interned_kept shapes new_shapes definitions verdicts s i o kept parts was (inr added) h =
    subst (λ x. IsKept x definitions (take (length x) (verdicts ++ o ∷ []))) (sym added.longer)
    (subst (IsKept (shapes ++ s ∷ []) definitions) (sym (all_taken verdicts shapes o s kept.places))
    (longer_kept shapes definitions definitions verdicts s o kept (with_shape shapes definitions s kept.resolved parts was added.absent) (λ n d e. e) h))

pub declared_kept : (shapes new_shapes : List Shape) (definitions : List (Option Definition)) (verdicts : List (Option Verdict)) (i : ℕ) → IsKept shapes definitions verdicts → IsInterned shapes new_shapes (shape.Named (length definitions)) i → IsKept new_shapes (definitions ++ None ∷ []) (take (length new_shapes) (verdicts ++ None ∷ []))
declared_kept shapes new_shapes definitions verdicts i kept h =
    let s = shape.Named (length definitions) in
    let added = declared_added shapes new_shapes definitions i kept.resolved h in
    subst (λ x. IsKept x (definitions ++ None ∷ []) (take (length x) (verdicts ++ None ∷ []))) (sym added.longer)
    (subst (IsKept (shapes ++ s ∷ []) (definitions ++ None ∷ [])) (sym (all_taken verdicts shapes None s kept.places))
    (longer_kept shapes definitions (definitions ++ None ∷ []) verdicts s None kept (with_declared shapes definitions kept.resolved).1 (λ n d e. get_left definitions (None ∷ []) n (Some d) e) tt))

-- ---- a declared type gets its right side, and what is known of that

pub defined_kept : (shapes : List Shape) (definitions : List (Option Definition)) (verdicts : List (Option Verdict)) (named n : ℕ) (d : Definition) (o : Option Verdict) → IsKept shapes definitions verdicts → slice_get definitions n ≡ Some None → slice_get shapes named ≡ Some (shape.Named n) → slice_get verdicts d.right ≡ Some o → IsResolved shapes (slice_set definitions n (Some d)) → IsKept shapes (slice_set definitions n (Some d)) (slice_set verdicts named o)
defined_kept shapes definitions verdicts named n d o kept open_before is read ok = record {
  resolved = ok;
  places = length-set verdicts named o ∙ kept.places;
  right = right;
}
  where
    more : (m : ℕ) (x : Definition) → slice_get definitions m ≡ Some (Some x) → slice_get (slice_set definitions n (Some d)) m ≡ Some (Some x)
    more m x e =
        let other : m ≡ n → ⊥ = λ at. let both : Some (Some x) ≡ Some None = sym e ∙ (ap (slice_get definitions) at ∙ open_before) in cc in
        get_set_other definitions n (Some d) m (Some x) e other

    has : HasRightId (table_of shapes (slice_set definitions n (Some d))) n d.right
    has = definition_right shapes (slice_set definitions n (Some d)) n d (get_set_same definitions n (Some d) (get_within definitions n None open_before))

    carried : (i : ℕ) (v : Verdict) → slice_get verdicts i ≡ Some (Some v) → IsVerdict (table_of shapes (slice_set definitions n (Some d))) i v
    carried i v e = verdict_longer shapes shapes definitions (slice_set definitions n (Some d)) (λ j x f. f) more i v (kept.right i v e)

    right : AreVerdicts (table_of shapes (slice_set definitions n (Some d))) (slice_set verdicts named o)
    right i v e =
        elim (get_set verdicts named o i (Some v) e) [
          | inl old ↦ carried i v old
          | inr p ↦
              let side = carried d.right v (read ∙ ap Some (sym p.1)) in
              (side.0, by_shape i (shape.Named n) v.comparable side.0 (ap (slice_get shapes) p.0 ∙ is) (of_right n d.right v.comparable side.0 has side.1), side.2)
        ]

-- ---- something is found out

pub found_kept : (shapes : List Shape) (definitions : List (Option Definition)) (verdicts : List (Option Verdict)) (a : ℕ) (s : Shape) (o : Option Verdict) → IsKept shapes definitions verdicts → slice_get shapes a ≡ Some s → IfSome o (IsShapeVerdict (table_of shapes definitions) s) → IsKept shapes definitions (slice_set verdicts a o)
found_kept shapes definitions verdicts a s o kept is h = record {
  resolved = kept.resolved;
  places = length-set verdicts a o ∙ kept.places;
  right = right;
}
  where
    right : AreVerdicts (table_of shapes definitions) (slice_set verdicts a o)
    right i v e =
        elim (get_set verdicts a o i (Some v) e) [
          | inl old ↦ kept.right i v old
          | inr p ↦ shape_told (table_of shapes definitions) i s v (ap (slice_get shapes) p.0 ∙ is) (told (IsShapeVerdict (table_of shapes definitions) s) o v h p.1)
        ]

-- ---- the first types

module _ (shapes : List Shape) (definitions : List (Option Definition)) (verdicts : List (Option Verdict)) (count k : ℕ) (kept : IsKept shapes definitions verdicts) (within : count ≤ length shapes) (k_is : k ≡ count_by is_declaration (take count shapes)) (closed : IsClosedBelow count (table_of shapes definitions)) where
  abbrev pub whole : Table
  whole = table_of shapes definitions

  abbrev first : Table
  first = table_of (take count shapes) (take k definitions)

  -- a shape that stands below the cut
  abbrev pub StandsBelow : Shape → Type 0
  StandsBelow s = (i : ℕ) × (i < count) × HasShape whole i s

  stays_below : (i : ℕ) (s : Shape) → i < count → HasShape whole i s → HasShape first i s × StandsBelow s
  stays_below i s l e = (take_get count shapes i s e l, (i, l, e))

  pub part_below : (s : Shape) (l j : ℕ) → StandsBelow s → slice_get (held whole s) l ≡ Some j → j < count
  part_below s l j b e =
      elim (declared_or_not s) [
        | inl d ↦ closed b.0 d.0 j b.1 (b.2 ∙ ap Some d.1) (listed_right (slice_get whole.rights d.0) l j (ap (λ x. slice_get (held whole x) l) (sym d.1) ∙ e))
        | inr plain ↦ held_part whole s count l j plain (all_of (λ p. p < b.0) (λ p. p < count) (parts s) (λ p l. let lower = b.1 in omega arith) (kept.resolved.table.parts_below b.0 s b.2)) e
      ]

  right_below : (n r : ℕ) → StandsBelow (shape.Named n) → HasRightId whole n r → HasRightId first n r
  right_below n r b h =
      let d = right_definition shapes definitions n r h in
      let number = kept.resolved.table.numbered b.0 n b.2 in
      let rises = count_rises is_declaration shapes b.0 count (shape.Named n) b.2 refl b.1 in
      subst (HasRightId first n) d.2 (definition_right (take count shapes) (take k definitions) n d.0 (take_get k definitions n (Some d.0) d.1 (omega (arith, number, rises, k_is))))

  pub first_kept : IsKept (take count shapes) (take k definitions) (take count verdicts)
  first_kept = record {
    resolved = first_resolved shapes definitions count k kept.resolved within k_is closed;
    places = length_taken verdicts count (subst (λ n. count ≤ n) (sym kept.places) within) ∙ sym (length_taken shapes count within);
    right = λ i v e.
        let there = get_take count verdicts i (Some v) e in
        let before = kept.right i v there.0 in
        (before.0, judged_also whole first (λ j. j < count) StandsBelow stays_below part_below right_below i v.comparable before.0 there.1 before.1, before.2);
  }
