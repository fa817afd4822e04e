-- The first types of a table are a table.
use Rattle.std.proofs.Common.{◌≡◌, ℕ, ◌<◌, ◌≤◌, List, Option, Some, map, take, length, refl, sym, ◌∙◌, ap, subst, arith, true}
use Rattle.std.specs.Prelude.{slice_get, count_by}
use Rattle.std.specs.Option.{option_map}
use Rattle.std.proofs.lemmas.List.{length-map, take-map}
use Rattle.go_types.specs.declared.shape.Shape.{Shape}
use Rattle.go_types.specs.declared.shape.Shape.TheVariants as shape
use Rattle.go_types.specs.declared.types.Definition.{Definition}
use Rattle.go_types.specs.Tables.{Table, HasShape, HasRightId, IsDefined, Holds, NoneContainsItself, is_declaration}
use Rattle.go_types.specs.Changes.{table_of, first_types, IsClosedBelow, IsResolved}
use Rattle.go_types.proofs.Places.{get_take, take_get}
use Rattle.go_types.proofs.Countings.{count_rises, count_taken, take_taken, passing, length_taken}
use Rattle.go_types.proofs.Carrying.{holds_also, contains_also, leads_also, right_definition, definition_right}

pub first_table : (shapes : List Shape) (definitions : List (Option Definition)) (count k : ℕ) → k ≡ count_by is_declaration (take count shapes) → first_types count (table_of shapes definitions) ≡ table_of (take count shapes) (take k definitions)
first_table shapes definitions count k e =
    let rights = ap (λ m. take m (map (option_map (λ x. x.right)) definitions)) (sym e) ∙ take-map (option_map (λ x. x.right)) k definitions in
    ap (λ (x : List (Option ℕ)). let t : Table = record { shapes = take count shapes; rights = x } in t) rights

module _ (shapes : List Shape) (definitions : List (Option Definition)) (count k : ℕ) (ok : IsResolved shapes definitions) (within : count ≤ length shapes) (k_is : k ≡ count_by is_declaration (take count shapes)) (closed : IsClosedBelow count (table_of shapes definitions)) where
  abbrev old : Table
  old = table_of shapes definitions

  abbrev new : Table
  new = table_of (take count shapes) (take k definitions)

  size : length (take count shapes) ≡ count
  size = length_taken shapes count within

  old_shape : (i : ℕ) (s : Shape) → HasShape new i s → HasShape old i s
  old_shape i s h = (get_take count shapes i s h).0

  below : (i : ℕ) (s : Shape) → HasShape new i s → i < count
  below i s h = (get_take count shapes i s h).1

  old_right : (n r : ℕ) → HasRightId new n r → HasRightId old n r
  old_right n r h =
      let is = right_definition (take count shapes) (take k definitions) n r h in
      subst (HasRightId old n) is.2 (definition_right shapes definitions n is.0 (get_take k definitions n (Some is.0) is.1).0)

  -- the declared types below the cut keep their right sides
  new_right : (i n r : ℕ) → i < count → HasShape old i (shape.Named n) → HasRightId old n r → HasRightId new n r × (r < count)
  new_right i n r l s h =
      let is = right_definition shapes definitions n r h in
      let number = ok.table.numbered i n s in
      let rises = count_rises is_declaration shapes i count (shape.Named n) s refl l in
      (subst (HasRightId new n) is.2 (definition_right (take count shapes) (take k definitions) n is.0 (take_get k definitions n (Some is.0) is.1 (omega (arith, number, rises, k_is)))), closed i n r l s h)

  new_defined : (r : ℕ) → r < count → IsDefined old r → IsDefined new r
  new_defined r l d n h = let right = d n (old_shape r (shape.Named n) h) in (right.0, (new_right r n right.0 l (old_shape r (shape.Named n) h) right.1).0)

  old_holds : (i j : ℕ) → Unit {0} → Holds new i j → Holds old i j × Unit {0}
  old_holds i j u h = (holds_also new old i j (old_shape i) old_right h, tt)

  none_contains_itself : NoneContainsItself new
  none_contains_itself i n h c = ok.table.finite i n (old_shape i (shape.Named n) h) (contains_also new old (λ _. Unit {0}) old_holds i i tt c)

  -- the declared type that a number below k belongs to
  declared_there : (n : ℕ) → n < k → (i : ℕ) × (i < count) × HasShape old i (shape.Named n)
  declared_there n l =
      let p = passing is_declaration (take count shapes) n (omega (arith, l, k_is)) in
      named p.place p.element p.there p.passes p.before
    where
      named : (i : ℕ) (x : Shape) → slice_get (take count shapes) i ≡ Some x → is_declaration x ≡ true → count_by is_declaration (take i (take count shapes)) ≡ n → (j : ℕ) × (j < count) × HasShape old j (shape.Named n)
      named i (shape.Named m) there passes before =
          let at = get_take count shapes i (shape.Named m) there in
          let l = at.1 in
          let number = ok.table.numbered i m at.0 ∙ (ap (count_by is_declaration) (sym (take_taken shapes i count (omega (arith, l)))) ∙ before) in
          (i, at.1, at.0 ∙ ap (λ x. Some (shape.Named x)) number)
      named i _ there passes before = cc

  right_sides : (n r : ℕ) → HasRightId new n r → (r < length (take count shapes)) × IsDefined new r
  right_sides n r h =
      let is = right_definition (take count shapes) (take k definitions) n r h in
      let place = get_take k definitions n (Some is.0) is.1 in
      let there = declared_there n place.1 in
      let before = old_right n r h in
      let l = closed there.0 n r there.1 there.2 before in
      (subst (λ x. r < x) (sym size) l, new_defined r l (ok.table.right_sides n r before).1)

  few : k ≤ length definitions
  few =
      let taken = count_taken is_declaration shapes count in
      let all = ok.table.declarations in
      let as_many = length-map definitions (option_map (λ x. x.right)) in
      omega (arith, taken, all, as_many, k_is)

  pub first_resolved : IsResolved (take count shapes) (take k definitions)
  first_resolved = record {
    table = record {
      parts_below = λ i s h. ok.table.parts_below i s (old_shape i s h);
      distinct = λ i j s h g. ok.table.distinct i j s (old_shape i s h) (old_shape j s g);
      numbered = λ i n h. let l = below i (shape.Named n) h in ok.table.numbered i n (old_shape i (shape.Named n) h) ∙ ap (count_by is_declaration) (sym (take_taken shapes i count (omega (arith, l))));
      declarations = (length-map (take k definitions) (option_map (λ x. x.right)) ∙ length_taken definitions k few) ∙ k_is;
      right_sides = right_sides;
      finite = none_contains_itself;
    };
    leads = λ n d e.
        let place = get_take k definitions n (Some d) e in
        let there = declared_there n place.1 in
        let before = ok.leads n d place.0 in
        let side = definition_right shapes definitions n d place.0 in
        let l = closed there.0 n d.right there.1 there.2 side in
        let also = leads_also old new (λ j. j < count) (λ i b. omega (arith, b, within)) (λ i s b h. take_get count shapes i s h b) new_right d.right d.underlying l before.0 in
        (also.0, subst (λ x. d.underlying < x) (sym size) also.1);
  }
