-- A table with one more type is a table.
use Rattle.std.proofs.Common.{◌≡◌, ℕ, ◌+◌, ◌<◌, inl, inr, List, [], ◌∷◌, ◌++◌, Option, Some, None, map, take, length, refl, sym, ◌∙◌, ap, subst, arith, true, false}
use Rattle.std.specs.Prelude.{slice_get, count_by}
use Rattle.std.specs.Option.{option_map}
use Rattle.std.proofs.lemmas.List.{length-map, map-append}
use Rattle.go_types.specs.declared.shape.Shape.{Shape}
use Rattle.go_types.specs.declared.shape.Shape.TheVariants as shape
use Rattle.go_types.specs.declared.types.Definition.{Definition}
use Rattle.go_types.specs.Tables.{Table, HasShape, HasRightId, HasPartsBelow, WasDeclared, IsDefined, Holds, Contains, at_once, through, NoneContainsItself, is_declaration, held}
use Rattle.go_types.specs.Shapes.{IsInterned, IsAdded}
use Rattle.go_types.specs.Changes.{table_of, IsResolved, IsDeclared}
use Rattle.go_types.proofs.Places.{get_left, get_snoc, get_within}
use Rattle.go_types.proofs.Countings.{count_longer, count_rises, take_longer, take_whole, passing, length_longer, weight}
use Rattle.go_types.proofs.Containment.{declared_or_not, held_within, listed_right}
use Rattle.go_types.proofs.Carrying.{holds_also, contains_also, leads_also, right_definition, definition_right}

-- What a shape that comes last has to be, and the definitions that come with it.
pub record Fits (shapes : List Shape) (definitions : List (Option Definition)) (s : Shape) (more : List (Option Definition)) : Type 0 where
  pub parts : HasPartsBelow (length shapes) s
  pub absent : (j : ℕ) → slice_get shapes j ≡ Some s → ⊥
  pub number : (n : ℕ) → s ≡ shape.Named n → n ≡ count_by is_declaration shapes
  pub total : length (definitions ++ more) ≡ count_by is_declaration (shapes ++ s ∷ [])
  pub undefined : (n : ℕ) (d : Definition) → slice_get (definitions ++ more) n ≡ Some (Some d) → slice_get definitions n ≡ Some (Some d)

module _ (shapes : List Shape) (definitions : List (Option Definition)) (s : Shape) (more : List (Option Definition)) (ok : IsResolved shapes definitions) (fits : Fits shapes definitions s more) where
  abbrev old : Table
  old = table_of shapes definitions

  abbrev new : Table
  new = table_of (shapes ++ s ∷ []) (definitions ++ more)

  old_shape : (i : ℕ) (x : Shape) → i < length shapes → HasShape new i x → HasShape old i x
  old_shape i x l h = elim (get_snoc shapes s i x h) [ inl e ↦ e | inr p ↦ let at : i ≡ length shapes = p.0 in absurd (omega arith) ]

  old_right : (n r : ℕ) → HasRightId new n r → HasRightId old n r
  old_right n r h =
      let d = right_definition (shapes ++ s ∷ []) (definitions ++ more) n r h in
      subst (HasRightId old n) d.2 (definition_right shapes definitions n d.0 (fits.undefined n d.0 d.1))

  new_right : (n r : ℕ) → HasRightId old n r → HasRightId new n r
  new_right n r h =
      let d = right_definition shapes definitions n r h in
      subst (HasRightId new n) d.2 (definition_right (shapes ++ s ∷ []) (definitions ++ more) n d.0 (get_left definitions more n (Some d.0) d.1))

  new_defined : (r : ℕ) → r < length shapes → IsDefined old r → IsDefined new r
  new_defined r l d n h = let right = d n (old_shape r (shape.Named n) l h) in (right.0, new_right n right.0 right.1)

  old_holds : (i j : ℕ) → i < length shapes → Holds new i j → Holds old i j × (j < length shapes)
  old_holds i j l h =
      let o = holds_also new old i j (λ x e. old_shape i x l e) old_right h in
      (o, held_within old ok.table i j o)

  -- the new type doesn't hold itself
  last_holds : (i n j : ℕ) → i ≡ length shapes → s ≡ shape.Named n → Holds new i j → ⊥
  last_holds i n j at is h =
      let named : HasShape new i h.its_shape = h.shape_is in
      elim (get_snoc shapes s i h.its_shape h.shape_is) [
        | inl e ↦ let within = get_within shapes i h.its_shape e in omega (arith, within, at)
        | inr p ↦
            let right = listed_right (slice_get new.rights n) h.place j (ap (λ x. slice_get (held new x) h.place) (sym (p.1 ∙ is)) ∙ h.held_is) in
            let d = right_definition shapes definitions n j (old_right n j right) in
            let within = get_within definitions n (Some d.0) d.1 in
            let number = fits.number n is in
            let count = ok.table.declarations in
            let size = length-map definitions (option_map (λ x. x.right)) in
            omega (arith, within, number, count, size)
      ]

  none_contains_itself : NoneContainsItself new
  none_contains_itself i n h c =
      elim (get_snoc shapes s i (shape.Named n) h) [
        | inl e ↦
            let within = get_within shapes i (shape.Named n) e in
            ok.table.finite i n e (contains_also new old (λ j. j < length shapes) old_holds i i within c)
        | inr p ↦ first_step i n c p.0 (sym p.1)
      ]
    where
      first_step : (k m : ℕ) → Contains new k k → k ≡ length shapes → s ≡ shape.Named m → ⊥
      first_step k m (at_once _ _ step) at is = last_holds k m k at is step
      first_step k m (through _ l _ step c) at is = last_holds k m l at is step

  parts_below : (i : ℕ) (x : Shape) → HasShape new i x → HasPartsBelow i x
  parts_below i x h =
      elim (get_snoc shapes s i x h) [
        | inl e ↦ ok.table.parts_below i x e
        | inr p ↦ subst (HasPartsBelow i) (sym p.1) (subst (λ n. HasPartsBelow n s) (sym p.0) fits.parts)
      ]

  distinct : (i j : ℕ) (x : Shape) → HasShape new i x → HasShape new j x → i ≡ j
  distinct i j x h k =
      elim (get_snoc shapes s i x h) [
        | inl e ↦
            elim (get_snoc shapes s j x k) [
              | inl f ↦ ok.table.distinct i j x e f
              | inr q ↦ absurd (fits.absent i (e ∙ ap Some q.1))
            ]
        | inr p ↦
            elim (get_snoc shapes s j x k) [
              | inl f ↦ absurd (fits.absent j (f ∙ ap Some p.1))
              | inr q ↦ p.0 ∙ sym q.0
            ]
      ]

  numbered : (i n : ℕ) → HasShape new i (shape.Named n) → n ≡ count_by is_declaration (take i (shapes ++ s ∷ []))
  numbered i n h =
      elim (get_snoc shapes s i (shape.Named n) h) [
        | inl e ↦
            let within = get_within shapes i (shape.Named n) e in
            ok.table.numbered i n e ∙ ap (count_by is_declaration) (sym (take_longer shapes (s ∷ []) i (omega (arith, within))))
        | inr p ↦
            let at = p.0 in
            let all = (ap (λ k. take k (shapes ++ s ∷ [])) at ∙ take_longer shapes (s ∷ []) (length shapes) (omega arith)) ∙ take_whole shapes in
            fits.number n (sym p.1) ∙ ap (count_by is_declaration) (sym all)
      ]

  right_sides : (n r : ℕ) → HasRightId new n r → (r < length (shapes ++ s ∷ [])) × IsDefined new r
  right_sides n r h =
      let side = ok.table.right_sides n r (old_right n r h) in
      let within = side.0 in
      let size = length_longer shapes s in
      (omega (arith, within, size), new_defined r side.0 side.1)

  pub grown : IsResolved (shapes ++ s ∷ []) (definitions ++ more)
  grown = record {
    table = record {
      parts_below = parts_below;
      distinct = distinct;
      numbered = numbered;
      declarations = length-map (definitions ++ more) (option_map (λ x. x.right)) ∙ fits.total;
      right_sides = right_sides;
      finite = none_contains_itself;
    };
    leads = λ n d e.
        let was = fits.undefined n d e in
        let side = ok.table.right_sides n d.right (definition_right shapes definitions n d was) in
        let before = ok.leads n d was in
        let also = leads_also old new (λ j. j < length shapes) (λ i l. l) (λ i x l h. get_left shapes (s ∷ []) i x h) (λ i m r l h k. (new_right m r k, (ok.table.right_sides m r k).0)) d.right d.underlying side.0 before.0 in
        let within = before.1 in
        let size = length_longer shapes s in
        (also.0, omega (arith, within, size));
  }

-- ---- the two ways in which a table grows

append_none : {X : Type 0} (xs : List X) → xs ++ [] ≡ xs
append_none [] = refl
append_none (x ∷ xs) = ap (λ l. x ∷ l) (append_none xs)

-- a declared type of the table stands in it
declared_there : (shapes : List Shape) (definitions : List (Option Definition)) → IsResolved shapes definitions → (n : ℕ) → n < length definitions → (i : ℕ) × (slice_get shapes i ≡ Some (shape.Named n))
declared_there shapes definitions ok n h =
    let count = ok.table.declarations in
    let size = length-map definitions (option_map (λ x. x.right)) in
    let p = passing is_declaration shapes n (omega (arith, h, count, size)) in
    named p.place p.element p.there p.passes p.before
  where
    named : (i : ℕ) (x : Shape) → slice_get shapes i ≡ Some x → is_declaration x ≡ true → count_by is_declaration (take i shapes) ≡ n → (j : ℕ) × (slice_get shapes j ≡ Some (shape.Named n))
    named i (shape.Named m) there passes before = (i, there ∙ ap (λ k. Some (shape.Named k)) (ok.table.numbered i m there ∙ before))
    named i _ there passes before = cc

-- a shape that isn't there
pub with_shape : (shapes : List Shape) (definitions : List (Option Definition)) (s : Shape) → IsResolved shapes definitions → HasPartsBelow (length shapes) s → WasDeclared (table_of shapes definitions) s → ((j : ℕ) → slice_get shapes j ≡ Some s → ⊥) → IsResolved (shapes ++ s ∷ []) definitions
with_shape shapes definitions s ok parts was absent =
    subst (IsResolved (shapes ++ s ∷ [])) (append_none definitions) (grown shapes definitions s [] ok (record {
      parts = parts;
      absent = absent;
      number = λ n e. absurd (not_named n e);
      total = (ap length (append_none definitions) ∙ total) ∙ sym (count_longer is_declaration shapes s);
      undefined = λ n d e. ap (λ l. slice_get l n) (sym (append_none definitions)) ∙ e;
    }))
  where
    not_named : (n : ℕ) → s ≡ shape.Named n → ⊥
    not_named n e =
        let known : n < length (table_of shapes definitions).rights = subst (WasDeclared (table_of shapes definitions)) e was in
        let size = length-map definitions (option_map (λ x. x.right)) in
        let there = declared_there shapes definitions ok n (omega (arith, known, size)) in
        absent there.0 (there.1 ∙ ap Some (sym e))

    total : length definitions ≡ count_by is_declaration shapes + weight (is_declaration s)
    total =
        let count = ok.table.declarations in
        let size = length-map definitions (option_map (λ x. x.right)) in
        elim (declared_or_not s) [
          | inl d ↦ absurd (not_named d.0 d.1)
          | inr plain ↦ let none : weight (is_declaration s) ≡ weight false = ap weight plain in omega (arith, count, size, none)
        ]

-- a new declared type
pub with_declared : (shapes : List Shape) (definitions : List (Option Definition)) → IsResolved shapes definitions → ((j : ℕ) → slice_get shapes j ≡ Some (shape.Named (length definitions)) → ⊥) × IsResolved (shapes ++ shape.Named (length definitions) ∷ []) (definitions ++ None ∷ [])
with_declared shapes definitions ok = (
  absent,
  grown shapes definitions (shape.Named (length definitions)) (None ∷ []) ok (record {
    parts = tt;
    absent = absent;
    number = λ n e. let same : n ≡ length definitions = cc in same ∙ (sym size ∙ ok.table.declarations);
    total = total;
    undefined = undefined;
  }),
)
  where
    size : length (map (option_map (λ d. d.right)) definitions) ≡ length definitions
    size = length-map definitions (option_map (λ d. d.right))

    absent : (j : ℕ) → slice_get shapes j ≡ Some (shape.Named (length definitions)) → ⊥
    absent j e =
        let number = ok.table.numbered j (length definitions) e in
        let within = get_within shapes j (shape.Named (length definitions)) e in
        let rises = count_rises is_declaration shapes j (length shapes) (shape.Named (length definitions)) e refl within in
        let whole = ap (count_by is_declaration) (take_whole shapes) in
        let count = ok.table.declarations in
        omega (arith, number, rises, whole, count, size)

    total : length (definitions ++ None ∷ []) ≡ count_by is_declaration (shapes ++ shape.Named (length definitions) ∷ [])
    total =
        let left = length_longer definitions None in
        let right = count_longer is_declaration shapes (shape.Named (length definitions)) in
        let count = ok.table.declarations in
        omega (arith, left, right, count, size)

    undefined : (n : ℕ) (d : Definition) → slice_get (definitions ++ None ∷ []) n ≡ Some (Some d) → slice_get definitions n ≡ Some (Some d)
    undefined n d e = elim (get_snoc definitions None n (Some d) e) [ inl f ↦ f | inr p ↦ let wrong : Some d ≡ None = p.1 in cc ]

-- ---- what `declare` answers

-- a new declared type is one that isn't there
pub declared_added : (shapes new_shapes : List Shape) (definitions : List (Option Definition)) (i : ℕ) → IsResolved shapes definitions → IsInterned shapes new_shapes (shape.Named (length definitions)) i → IsAdded shapes new_shapes (shape.Named (length definitions)) i
declared_added shapes new_shapes definitions i ok (inl known) = absurd ((with_declared shapes definitions ok).0 i known.there)
declared_added shapes new_shapes definitions i ok (inr added) = added

pub declared_change : (shapes new_shapes : List Shape) (definitions : List (Option Definition)) (i : ℕ) → IsResolved shapes definitions → IsInterned shapes new_shapes (shape.Named (length definitions)) i → IsDeclared (table_of shapes definitions) (table_of new_shapes (definitions ++ None ∷ [])) i
declared_change shapes new_shapes definitions i ok h =
    let added = declared_added shapes new_shapes definitions i ok h in
    let size = length-map definitions (option_map (λ x. x.right)) in
    let named = ap (λ n. shapes ++ shape.Named n ∷ []) (sym size) in
    let rights = map-append (option_map (λ x. x.right)) definitions (None ∷ []) in
    record {
      last = added.last;
      table = ap (λ (x : List Shape). let t : Table = record { shapes = x; rights = map (option_map (λ d. d.right)) (definitions ++ None ∷ []) } in t) (added.longer ∙ named)
          ∙ ap (λ (x : List (Option ℕ)). let t : Table = record { shapes = shapes ++ shape.Named (length (map (option_map (λ d. d.right)) definitions)) ∷ []; rights = x } in t) rights;
    }
