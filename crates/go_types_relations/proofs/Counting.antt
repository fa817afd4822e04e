-- The count of scalars that is told is the one of the relation.
use Rattle.std.proofs.Common.{◌≡◌, ℕ, ◌+◌, Option, Some, refl, ap, ◌∙◌, subst}
use Rattle.std.specs.Prelude.{max}
use Rattle.std.specs.Option.{option_map}
use Rattle.std.proofs.lemmas.Option.{same_Some}
use Rattle.go_types.specs.Trees.{TypeTree, boolean, text, integer, array, slice, structure, function, declared, TypeRow, none, more}
use Rattle.go_types.specs.Relations.{Rights, Scalars, RowScalars, array_scalars, of_boolean, of_text, of_integer, of_array, of_slice, of_structure, of_function, of_right, of_none, of_more}
use Rattle.go_types_relations.specs.Questions.{answers}
use Rattle.go_types_relations.specs.Sizes.{scalars_by, row_scalars_by, scalars_of}
use Rattle.go_types_relations.proofs.Booleans.{both_parts, both_some, map_part}
use Rattle.go_types_relations.proofs.Rounds.{Within, Monotone, right_answers, asked_holds}

mutual
  pub scalars_monotone : Monotone scalars_by
  scalars_monotone f g w boolean x e = e
  scalars_monotone f g w text x e = e
  scalars_monotone f g w (integer _) x e = e
  scalars_monotone f g w (array n t) x e =
      let p = map_part (array_scalars n) (scalars_by f t) x e in
      ap (option_map (array_scalars n)) (scalars_monotone f g w t p.0 p.1) ∙ ap Some p.2
  scalars_monotone f g w (slice _) x e = e
  scalars_monotone f g w (structure ns ts) x e =
      let p = map_part (max 1) (row_scalars_by f ts) x e in
      ap (option_map (max 1)) (row_monotone f g w ts p.0 p.1) ∙ ap Some p.2
  scalars_monotone f g w (function _ _) x e = e
  scalars_monotone f g w (declared n) x e = w n x e

  row_monotone : (f g : ℕ → Option ℕ) → Within f g → (ts : TypeRow) (x : ℕ) → row_scalars_by f ts ≡ Some x → row_scalars_by g ts ≡ Some x
  row_monotone f g w none x e = e
  row_monotone f g w (more t ts) x e =
      let p = both_parts (λ a b. a + b) (scalars_by f t) (row_scalars_by f ts) x e in
      both_some (λ a b. a + b) (scalars_by g t) (row_scalars_by g ts) p.0 p.1 (scalars_monotone f g w t p.0 p.2) (row_monotone f g w ts p.1 p.3) ∙ ap Some p.4

module _ (rights : Rights) where
  mutual
    pub scalars_told : (t : TypeTree) (n : ℕ) → Scalars rights t n → scalars_of rights t ≡ Some n
    scalars_told t n of_boolean = refl
    scalars_told t n of_text = refl
    scalars_told t n (of_integer k) = refl
    scalars_told t n (of_array m u l s) = ap (option_map (array_scalars m)) (scalars_told u l s)
    scalars_told t n (of_slice u) = refl
    scalars_told t n (of_structure ns ts l s) = ap (option_map (max 1)) (row_told ts l s)
    scalars_told t n (of_function ps rs) = refl
    scalars_told t n (of_right m r l h s) = right_answers scalars_by scalars_monotone rights m r h ∙ scalars_told r l s

    row_told : (ts : TypeRow) (n : ℕ) → RowScalars rights ts n → row_scalars_by (answers scalars_by rights) ts ≡ Some n
    row_told ts n of_none = refl
    row_told ts n (of_more u us here there s ss) = both_some (λ a b. a + b) (scalars_of rights u) (row_scalars_by (answers scalars_by rights) us) here there (scalars_told u here s) (row_told us there ss)

  mutual
    step : (known : ℕ → Option ℕ) → ((n : ℕ) (x : ℕ) → known n ≡ Some x → Scalars rights (declared n) x) → (t : TypeTree) (x : ℕ) → scalars_by known t ≡ Some x → Scalars rights t x
    step known f boolean x e = subst (Scalars rights boolean) (same_Some 1 x e) of_boolean
    step known f text x e = subst (Scalars rights text) (same_Some 1 x e) of_text
    step known f (integer k) x e = subst (Scalars rights (integer k)) (same_Some 1 x e) (of_integer k)
    step known f (array n t) x e =
        let p = map_part (array_scalars n) (scalars_by known t) x e in
        subst (Scalars rights (array n t)) p.2 (of_array n t p.0 (step known f t p.0 p.1))
    step known f (slice t) x e = subst (Scalars rights (slice t)) (same_Some 1 x e) (of_slice t)
    step known f (structure ns ts) x e =
        let p = map_part (max 1) (row_scalars_by known ts) x e in
        subst (Scalars rights (structure ns ts)) p.2 (of_structure ns ts p.0 (row_step known f ts p.0 p.1))
    step known f (function ps rs) x e = subst (Scalars rights (function ps rs)) (same_Some 1 x e) (of_function ps rs)
    step known f (declared n) x e = f n x e

    row_step : (known : ℕ → Option ℕ) → ((n : ℕ) (x : ℕ) → known n ≡ Some x → Scalars rights (declared n) x) → (ts : TypeRow) (x : ℕ) → row_scalars_by known ts ≡ Some x → RowScalars rights ts x
    row_step known f none x e = subst (RowScalars rights none) (same_Some 0 x e) of_none
    row_step known f (more t ts) x e =
        let p = both_parts (λ a b. a + b) (scalars_by known t) (row_scalars_by known ts) x e in
        subst (RowScalars rights (more t ts)) p.4 (of_more t ts p.0 p.1 (step known f t p.0 p.2) (row_step known f ts p.1 p.3))

  pub told_scalars : (t : TypeTree) (n : ℕ) → scalars_of rights t ≡ Some n → Scalars rights t n
  told_scalars = asked_holds scalars_by rights (Scalars rights) (λ n r x h s. of_right n r x h s) step
