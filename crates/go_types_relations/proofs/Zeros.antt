-- Zero values.
use Rattle.std.proofs.Common.{◌≡◌, ℕ, ◌+◌, Option, Some, refl, ap, ◌∙◌}
use Rattle.std.specs.Prelude.{max}
use Rattle.std.specs.Option.{option_map}
use Rattle.go_types.specs.Trees.{TypeTree, boolean, text, integer, array, slice, structure, function, declared, TypeRow, none, more}
use Rattle.go_types.specs.Relations.{Rights, HasRight, Underlying, itself, through, Scalars, RowScalars, array_scalars, of_boolean, of_text, of_integer, of_array, of_slice, of_structure, of_function, of_right, of_none, of_more}
use Rattle.go_types_relations.specs.Questions.{answers}
use Rattle.go_types_relations.specs.Sizes.{scalars_by, row_scalars_by, scalars_of}
use Rattle.go_types_relations.specs.Zeros.{Zero, ZeroRow, false_value, number_zero, empty_text, elements, fields, nil_slice, nil_function, no_zeros, more_zeros, zero_by, zeros_by, zero_of, zeros_of}
use Rattle.go_types_relations.proofs.Booleans.{both_parts, both_some, map_part}
use Rattle.go_types_relations.proofs.Rounds.{Within, Monotone, right_answers, asked_holds}
use Rattle.go_types_relations.proofs.Counting.{scalars_monotone, told_scalars}

mutual
  pub zero_monotone : Monotone zero_by
  zero_monotone f g w boolean x e = e
  zero_monotone f g w text x e = e
  zero_monotone f g w (integer _) x e = e
  zero_monotone f g w (array n t) x e =
      let p = map_part (elements n) (zero_by f t) x e in
      ap (option_map (elements n)) (zero_monotone f g w t p.0 p.1) ∙ ap Some p.2
  zero_monotone f g w (slice _) x e = e
  zero_monotone f g w (structure ns ts) x e =
      let p = map_part fields (zeros_by f ts) x e in
      ap (option_map fields) (row_monotone f g w ts p.0 p.1) ∙ ap Some p.2
  zero_monotone f g w (function _ _) x e = e
  zero_monotone f g w (declared n) x e = w n x e

  row_monotone : (f g : ℕ → Option Zero) → Within f g → (ts : TypeRow) (x : ZeroRow) → zeros_by f ts ≡ Some x → zeros_by g ts ≡ Some x
  row_monotone f g w none x e = e
  row_monotone f g w (more t ts) x e =
      let p = both_parts more_zeros (zero_by f t) (zeros_by f ts) x e in
      both_some more_zeros (zero_by g t) (zeros_by g ts) p.0 p.1 (zero_monotone f g w t p.0 p.2) (row_monotone f g w ts p.1 p.3) ∙ ap Some p.4

pub zero_of_right : (rights : Rights) (n : ℕ) (r : TypeTree) → HasRight rights n r → zero_of rights (declared n) ≡ zero_of rights r
zero_of_right rights n r h = right_answers zero_by zero_monotone rights n r h

pub zero_of_underlying : (rights : Rights) (t u : TypeTree) → Underlying rights t u → zero_of rights t ≡ zero_of rights u
zero_of_underlying rights t u (itself _ e) = refl
zero_of_underlying rights t u (through n r _ h l) = zero_of_right rights n r h ∙ zero_of_underlying rights r u l

-- ---- a zero value is told exactly where the count of scalars is

module _ (rights : Rights) where
  mutual
    counted_zero : (t : TypeTree) (n : ℕ) → Scalars rights t n → (z : Zero) × (zero_of rights t ≡ Some z)
    counted_zero t n of_boolean = (false_value, refl)
    counted_zero t n of_text = (empty_text, refl)
    counted_zero t n (of_integer k) = (number_zero, refl)
    counted_zero t n (of_array m u l s) = let z = counted_zero u l s in (elements m z.0, ap (option_map (elements m)) z.1)
    counted_zero t n (of_slice u) = (nil_slice, refl)
    counted_zero t n (of_structure ns ts l s) = let z = counted_row ts l s in (fields z.0, ap (option_map fields) z.1)
    counted_zero t n (of_function ps rs) = (nil_function, refl)
    counted_zero t n (of_right m r l h s) = let z = counted_zero r l s in (z.0, zero_of_right rights m r h ∙ z.1)

    counted_row : (ts : TypeRow) (n : ℕ) → RowScalars rights ts n → (z : ZeroRow) × (zeros_of rights ts ≡ Some z)
    counted_row ts n of_none = (no_zeros, refl)
    counted_row ts n (of_more u us here there s ss) =
        let z = counted_zero u here s in
        let zs = counted_row us there ss in
        (more_zeros z.0 zs.0, both_some more_zeros (zero_of rights u) (zeros_of rights us) z.0 zs.0 z.1 zs.1)

  abbrev IsCounted : TypeTree → Type 0
  IsCounted t = (n : ℕ) × (scalars_of rights t ≡ Some n)

  mutual
    step : (known : ℕ → Option Zero) → ((n : ℕ) (z : Zero) → known n ≡ Some z → IsCounted (declared n)) → (t : TypeTree) (z : Zero) → zero_by known t ≡ Some z → IsCounted t
    step known f boolean z e = (1, refl)
    step known f text z e = (1, refl)
    step known f (integer k) z e = (1, refl)
    step known f (array n t) z e =
        let p = map_part (elements n) (zero_by known t) z e in
        let c = step known f t p.0 p.1 in
        (array_scalars n c.0, ap (option_map (array_scalars n)) c.1)
    step known f (slice t) z e = (1, refl)
    step known f (structure ns ts) z e =
        let p = map_part fields (zeros_by known ts) z e in
        let c = row_step known f ts p.0 p.1 in
        (max 1 c.0, ap (option_map (max 1)) c.1)
    step known f (function ps rs) z e = (1, refl)
    step known f (declared n) z e = f n z e

    row_step : (known : ℕ → Option Zero) → ((n : ℕ) (z : Zero) → known n ≡ Some z → IsCounted (declared n)) → (ts : TypeRow) (zs : ZeroRow) → zeros_by known ts ≡ Some zs → (n : ℕ) × (row_scalars_by (answers scalars_by rights) ts ≡ Some n)
    row_step known f none zs e = (0, refl)
    row_step known f (more t ts) zs e =
        let p = both_parts more_zeros (zero_by known t) (zeros_by known ts) zs e in
        let c = step known f t p.0 p.2 in
        let cs = row_step known f ts p.1 p.3 in
        (c.0 + cs.0, both_some (λ a b. a + b) (scalars_of rights t) (row_scalars_by (answers scalars_by rights) ts) c.0 cs.0 c.1 cs.1)

  pub zero_counted : (t : TypeTree) (z : Zero) → zero_of rights t ≡ Some z → IsCounted t
  zero_counted = asked_holds zero_by rights (λ t z. IsCounted t) (λ n r z h c. (c.0, right_answers scalars_by scalars_monotone rights n r h ∙ c.1)) step

  pub counted_told : (t : TypeTree) (n : ℕ) → scalars_of rights t ≡ Some n → (z : Zero) × (zero_of rights t ≡ Some z)
  counted_told t n e = counted_zero t n (told_scalars rights t n e)
