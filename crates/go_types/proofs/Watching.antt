-- The types that wait are those that aren't settled, and they stay so when the table changes.
use Rattle.std.proofs.Common.{◌≡◌, ℕ, zero, suc, ◌<◌, ◌≤◌, inl, inr, false, Option, Some, None, List, [], ◌∷◌, ◌++◌, take, length, refl, sym, ap, subst, ◌∙◌, arith}
use Rattle.std.specs.Prelude.{slice_get, slice_set, count_by, IfSome}
use Rattle.std.proofs.lemmas.Bool.Decides.{eqb_tells}
use Rattle.std.proofs.lemmas.List.{length-set}
use Rattle.go_types.specs.declared.shape.Shape.{Shape}
use Rattle.go_types.specs.declared.shape.Shape.TheVariants as shape
use Rattle.go_types.specs.declared.types.Definition.{Definition}
use Rattle.go_types.specs.declared.verdict.Verdict.{Verdict}
use Rattle.go_types.specs.Shapes.{IsInterned}
use Rattle.go_types.specs.Tables.{Table, IsTable, HasRightId, HasPartsBelow, WasDeclared, Holds, IsSettled, held, parts, is_declaration}
use Rattle.go_types.specs.Changes.{table_of, IsKept, IsResolved, IsOpen, declaration}
use Rattle.go_types.specs.Verdicts.{IsShapeVerdict}
use Rattle.go_types.specs.Waiting.{is_for, is_stale, AreWaiting, AreWatched}
use Rattle.go_types.specs.Findings.{IsFinding, verdict_of, awaited_by}
use Rattle.go_types.specs.declared.finding.Finding.{Finding}
use Rattle.go_types.specs.declared.finding.Finding.TheVariants as finding
use Rattle.go_types.specs.Kept.{IsComplete}
use Rattle.go_types.proofs.Places.{get_left, get_snoc, get_last, get_within, get_take, take_get, get_set, get_set_same, get_set_other, get_there}
use Rattle.go_types.proofs.Countings.{count_rises, length_longer, length_taken}
use Rattle.go_types.proofs.Containment.{declared_or_not, listed_right, holds_right, depth, shallower}
use Rattle.go_types.proofs.Carrying.{holds_also, right_definition, definition_right}
use Rattle.go_types.proofs.Underlyings.{settled_held}
use Rattle.go_types.proofs.Settling.{open_unsettled}
use Rattle.go_types.proofs.Judging.{judged_settled}
use Rattle.go_types.proofs.Defining.{CanDefine, declaration_shape, open_definition, defined_resolved}
use Rattle.go_types.proofs.Growing.{declared_added}
use Rattle.go_types.proofs.Keeping.{same_taken, all_taken, interned_kept, declared_kept, defined_kept}
use Rattle.go_types.proofs.Waiters.{same_set}
use Rattle.go_types.proofs.Finds.{open_told}
use Rattle.go_types.proofs.Awakening.{get_apart, more_stale, none_stale}

-- ---- a type of which nothing is known isn't settled

pub unsettled : (t : Table) (verdicts : List (Option Verdict)) (awaited : List (Option ℕ)) → IsTable t → AreWatched t verdicts awaited → (i : ℕ) → slice_get verdicts i ≡ Some None → IsSettled t i → ⊥
unsettled t verdicts awaited ok h i e s = go (suc (depth t i)) i (omega arith) e s
  where
    step : (n i : ℕ) → ((p : ℕ) → depth t p < n → slice_get verdicts p ≡ Some None → IsSettled t p → ⊥) → depth t i < suc n → slice_get verdicts i ≡ Some None → IsSettled t i → (o : Option ℕ) → slice_get awaited i ≡ Some o → ⊥
    step n i f lt e s None w = open_unsettled t i (h.waiting.idle i e w) s
    step n i f lt e s (Some p) w =
        let holds = h.waiting.held i p w in
        let less = shallower t ok i p holds in
        f p (omega arith) (h.unknown i p w) (settled_held t i p s holds)

    go : (n i : ℕ) → depth t i < n → slice_get verdicts i ≡ Some None → IsSettled t i → ⊥
    go zero i lt e s = absurd (omega arith)
    go (suc n) i lt e s =
        let places = h.waiting.places in
        let within = get_within verdicts i None e in
        let there = get_there awaited i (omega arith) in
        step n i (go n) lt e s there.0 there.1

-- ---- a declared type without a right side

open_holds_nothing : (t : Table) (i p : ℕ) → IsOpen t i → Holds t i p → ⊥
open_holds_nothing t i p o h =
    let same : h.its_shape ≡ shape.Named o.0 = inside (sym h.shape_is ∙ o.1) in
    let at = ap (λ x. slice_get (held t x) h.place) (sym same) ∙ h.held_is in
    let wrong : Some None ≡ Some (Some p) = sym o.2 ∙ listed_right (slice_get t.rights o.0) h.place p at in
    cc
  where
    inside : {a b : Shape} → Some a ≡ Some b → a ≡ b
    inside e = cc

made_open : (shapes : List Shape) (definitions : List (Option Definition)) (i n : ℕ) → slice_get shapes i ≡ Some (shape.Named n) → slice_get definitions n ≡ Some None → IsOpen (table_of shapes definitions) i
made_open shapes definitions i n e d = (n, e, open_told shapes definitions n d)

pub open_unknown : (shapes : List Shape) (definitions : List (Option Definition)) (verdicts : List (Option Verdict)) → IsKept shapes definitions verdicts → (i : ℕ) → IsOpen (table_of shapes definitions) i → slice_get verdicts i ≡ Some None
open_unknown shapes definitions verdicts kept i o =
    let low = get_within shapes i (shape.Named o.0) o.1 in
    let there = get_there verdicts i (subst (λ n. i < n) (sym kept.places) low) in
    at there.0 there.1
  where
    at : (v : Option Verdict) → slice_get verdicts i ≡ Some v → slice_get verdicts i ≡ Some None
    at None e = e
    at (Some v) e =
        let told = kept.right i v e in
        absurd (open_unsettled (table_of shapes definitions) i o (judged_settled (table_of shapes definitions) kept.resolved.table i v.comparable told.0 told.1))

-- ---- a table with all that was there

module _ (shapes new_shapes : List Shape) (definitions new_definitions : List (Option Definition)) (more_shapes : (i : ℕ) (s : Shape) → slice_get shapes i ≡ Some s → slice_get new_shapes i ≡ Some s) (more_definitions : (n : ℕ) (d : Definition) → slice_get definitions n ≡ Some (Some d) → slice_get new_definitions n ≡ Some (Some d)) where
  abbrev old : Table
  old = table_of shapes definitions

  abbrev new : Table
  new = table_of new_shapes new_definitions

  new_right : (n r : ℕ) → HasRightId old n r → HasRightId new n r
  new_right n r h =
      let d = right_definition shapes definitions n r h in
      subst (HasRightId new n) d.2 (definition_right new_shapes new_definitions n d.0 (more_definitions n d.0 d.1))

  pub holds_longer : (i p : ℕ) → Holds old i p → Holds new i p
  holds_longer i p h = holds_also old new i p (more_shapes i) new_right h

-- ---- one type more

module _ (shapes : List Shape) (definitions new_definitions : List (Option Definition)) (verdicts : List (Option Verdict)) (awaited : List (Option ℕ)) (s : Shape) (f : Finding) (h : IsComplete shapes definitions verdicts awaited) (more : (n : ℕ) (d : Definition) → slice_get definitions n ≡ Some (Some d) → slice_get new_definitions n ≡ Some (Some d)) (more_open : (n : ℕ) → slice_get definitions n ≡ Some None → slice_get new_definitions n ≡ Some None) where
  abbrev after : Table
  after = table_of (shapes ++ s ∷ []) new_definitions

  left : (i : ℕ) (x : Shape) → slice_get shapes i ≡ Some x → slice_get (shapes ++ s ∷ []) i ≡ Some x
  left i x e = get_left shapes (s ∷ []) i x e

  still_open : (i : ℕ) → IsOpen (table_of shapes definitions) i → IsOpen after i
  still_open i o = made_open (shapes ++ s ∷ []) new_definitions i o.0 (left i (shape.Named o.0) o.1) (more_open o.0 (open_definition shapes definitions i o.0 (ap declaration o.1) o))

  pub longer_watched : (awaited_by f ≡ None → verdict_of f ≡ None → IsOpen after (length shapes)) → ((p : ℕ) → awaited_by f ≡ Some p → Holds after (length shapes) p × (slice_get verdicts p ≡ Some None)) → AreWatched after (verdicts ++ verdict_of f ∷ []) (awaited ++ awaited_by f ∷ [])
  longer_watched last_open last_held = record {
    waiting = record {
      places = length_longer awaited (awaited_by f) ∙ (ap suc places ∙ sym (length_longer verdicts (verdict_of f)));
      idle = idle;
      held = held_still;
    };
    unknown = unknown;
  }
    where
      places : length awaited ≡ length verdicts
      places = h.watched.waiting.places

      idle : (i : ℕ) → slice_get (verdicts ++ verdict_of f ∷ []) i ≡ Some None → slice_get (awaited ++ awaited_by f ∷ []) i ≡ Some None → IsOpen after i
      idle i e g =
          elim (get_snoc verdicts (verdict_of f) i None e) [
            | inl old_verdict ↦
                elim (get_snoc awaited (awaited_by f) i None g) [
                  | inl old_wait ↦ still_open i (h.watched.waiting.idle i old_verdict old_wait)
                  | inr new ↦ let low = get_within verdicts i None old_verdict in let at = new.0 in absurd (omega (arith, places))
                ]
            | inr new_verdict ↦
                elim (get_snoc awaited (awaited_by f) i None g) [
                  | inl old_wait ↦ let low = get_within awaited i None old_wait in let at = new_verdict.0 in absurd (omega (arith, places))
                  | inr new ↦ subst (IsOpen after) (sym (new_verdict.0 ∙ h.kept.places)) (last_open (sym new.1) (sym new_verdict.1))
                ]
          ]

      held_still : (i p : ℕ) → slice_get (awaited ++ awaited_by f ∷ []) i ≡ Some (Some p) → Holds after i p
      held_still i p e =
          elim (get_snoc awaited (awaited_by f) i (Some p) e) [
            | inl old ↦ holds_longer shapes (shapes ++ s ∷ []) definitions new_definitions left more i p (h.watched.waiting.held i p old)
            | inr new ↦ subst (λ n. Holds after n p) (sym (new.0 ∙ (places ∙ h.kept.places))) (last_held p (sym new.1)).0
          ]

      unknown : (i p : ℕ) → slice_get (awaited ++ awaited_by f ∷ []) i ≡ Some (Some p) → slice_get (verdicts ++ verdict_of f ∷ []) p ≡ Some None
      unknown i p e =
          elim (get_snoc awaited (awaited_by f) i (Some p) e) [
            | inl old ↦ get_left verdicts (verdict_of f ∷ []) p None (h.watched.unknown i p old)
            | inr new ↦ get_left verdicts (verdict_of f ∷ []) p None (last_held p (sym new.1)).1
          ]

-- ---- a declared type gets its right side

module _ (shapes : List Shape) (definitions : List (Option Definition)) (verdicts : List (Option Verdict)) (awaited : List (Option ℕ)) (named n : ℕ) (d : Definition) (h : IsComplete shapes definitions verdicts awaited) (open_before : slice_get definitions n ≡ Some None) (is : slice_get shapes named ≡ Some (shape.Named n)) where
  abbrev given : Table
  given = table_of shapes (slice_set definitions n (Some d))

  same_definitions : (m : ℕ) (x : Definition) → slice_get definitions m ≡ Some (Some x) → slice_get (slice_set definitions n (Some d)) m ≡ Some (Some x)
  same_definitions m x e =
      let other : m ≡ n → ⊥ = λ at. let both : Some (Some x) ≡ Some None = sym e ∙ (ap (slice_get definitions) at ∙ open_before) in cc in
      get_set_other definitions n (Some d) m (Some x) e other

  holds_still : (i p : ℕ) → Holds (table_of shapes definitions) i p → Holds given i p
  holds_still = holds_longer shapes shapes definitions (slice_set definitions n (Some d)) (λ j x f. f) same_definitions

  others_open : (i : ℕ) → (i ≡ named → ⊥) → IsOpen (table_of shapes definitions) i → IsOpen given i
  others_open i ne o =
      let apart : o.0 ≡ n → ⊥ = λ same. ne (h.kept.resolved.table.distinct i named (shape.Named n) (o.1 ∙ ap (λ m. Some (shape.Named m)) same) is) in
      made_open shapes (slice_set definitions n (Some d)) i o.0 o.1
      (get_set_other definitions n (Some d) o.0 None (open_definition shapes definitions i o.0 (ap declaration o.1) o) apart)

  open_named : IsOpen (table_of shapes definitions) named
  open_named = made_open shapes definitions named n is open_before

  pub named_unknown : slice_get verdicts named ≡ Some None
  named_unknown = open_unknown shapes definitions verdicts h.kept named open_named

  low : named < length awaited
  low = let places = h.watched.waiting.places in let within = get_within verdicts named None named_unknown in omega arith

  -- nothing is known of the right side
  pub waits_for_right : slice_get verdicts d.right ≡ Some None → AreWatched given verdicts (slice_set awaited named (Some d.right))
  waits_for_right blank = record {
    waiting = record {
      places = length-set awaited named (Some d.right) ∙ h.watched.waiting.places;
      idle = λ i e f.
          elim (eqb_tells i named) as (λ _. IsOpen given i) [
            | inl same ↦ let wrong : Some (Some d.right) ≡ Some None = sym (ap (slice_get (slice_set awaited named (Some d.right))) same.1 ∙ get_set_same awaited named (Some d.right) low) ∙ f in cc
            | inr apart ↦ others_open i apart.1 (h.watched.waiting.idle i e (sym (get_apart awaited named (Some d.right) i apart.1) ∙ f))
          ];
      held = λ i p e.
          elim (get_set awaited named (Some d.right) i (Some p) e) [
            | inl old ↦ holds_still i p (h.watched.waiting.held i p old)
            | inr new ↦ let same : p ≡ d.right = cc in subst (Holds given i) (sym same) (subst (λ j. Holds given j d.right) (sym new.0) (holds_right given named n d.right is (definition_right shapes (slice_set definitions n (Some d)) n d (get_set_same definitions n (Some d) (get_within definitions n None open_before)))))
          ];
    };
    unknown = λ i p e.
        elim (get_set awaited named (Some d.right) i (Some p) e) [
          | inl old ↦ h.watched.unknown i p old
          | inr new ↦ let same : p ≡ d.right = cc in subst (λ q. slice_get verdicts q ≡ Some None) (sym same) blank
        ];
  }

  -- something is known of it
  pub known_waiting : (v : Verdict) → AreWaiting given (slice_set verdicts named (Some v)) awaited
  known_waiting v = record {
    places = h.watched.waiting.places ∙ sym (length-set verdicts named (Some v));
    idle = λ i e f.
        elim (eqb_tells i named) as (λ _. IsOpen given i) [
          | inl same ↦ let wrong : Some (Some v) ≡ Some None = sym (ap (slice_get (slice_set verdicts named (Some v))) same.1 ∙ get_set_same verdicts named (Some v) (get_within verdicts named None named_unknown)) ∙ e in cc
          | inr apart ↦ others_open i apart.1 (h.watched.waiting.idle i (sym (get_apart verdicts named (Some v) i apart.1) ∙ e) f)
        ];
    held = λ i p e. holds_still i p (h.watched.waiting.held i p e);
  }

  pub known_few : (v : Verdict) → count_by (is_stale (slice_set verdicts named (Some v))) awaited ≤ count_by (is_for named) awaited
  known_few v =
      let more = more_stale verdicts awaited named v named_unknown in
      let none = none_stale verdicts awaited h.watched.unknown in
      omega arith

-- ---- the first types

held_plain : (t u : Table) (s : Shape) → is_declaration s ≡ false → held t s ≡ held u s
held_plain t u shape.Bool e = refl
held_plain t u shape.Text e = refl
held_plain t u (shape.Int k) e = refl
held_plain t u (shape.Array k p) e = refl
held_plain t u (shape.Slice p) e = refl
held_plain t u (shape.Struct fs) e = refl
held_plain t u (shape.Func ps rs) e = refl
held_plain t u (shape.Named n) e = cc

module _ (shapes : List Shape) (definitions : List (Option Definition)) (verdicts : List (Option Verdict)) (awaited : List (Option ℕ)) (count k : ℕ) (h : IsComplete shapes definitions verdicts awaited) (within : count ≤ length shapes) (k_is : k ≡ count_by is_declaration (take count shapes)) (holds_below : (i p : ℕ) → i < count → Holds (table_of shapes definitions) i p → p < count) where
  abbrev first : Table
  first = table_of (take count shapes) (take k definitions)

  number_below : (i n : ℕ) → i < count → slice_get shapes i ≡ Some (shape.Named n) → n < k
  number_below i n l e =
      let number = h.kept.resolved.table.numbered i n e in
      let rises = count_rises is_declaration shapes i count (shape.Named n) e refl l in
      omega (arith, number, rises, k_is)

  first_holds : (i p : ℕ) → i < count → Holds (table_of shapes definitions) i p → Holds first i p
  first_holds i p l g =
      elim (declared_or_not g.its_shape) [
        | inl d ↦
            let named : slice_get shapes i ≡ Some (shape.Named d.0) = g.shape_is ∙ ap Some d.1 in
            let side = listed_right (slice_get (table_of shapes definitions).rights d.0) g.place p (ap (λ x. slice_get (held (table_of shapes definitions) x) g.place) (sym d.1) ∙ g.held_is) in
            let made = right_definition shapes definitions d.0 p side in
            let right = subst (HasRightId first d.0) made.2 (definition_right (take count shapes) (take k definitions) d.0 made.0 (take_get k definitions d.0 (Some made.0) made.1 (number_below i d.0 l named))) in
            holds_right first i d.0 p (take_get count shapes i (shape.Named d.0) named l) right
        | inr plain ↦ record {
          its_shape = g.its_shape;
          shape_is = take_get count shapes i g.its_shape g.shape_is l;
          place = g.place;
          held_is = ap (λ x. slice_get x g.place) (held_plain first (table_of shapes definitions) g.its_shape plain) ∙ g.held_is;
        }
      ]

  pub awaited_below : (i p : ℕ) → i < count → slice_get awaited i ≡ Some (Some p) → p < count
  awaited_below i p l e = holds_below i p l (h.watched.waiting.held i p e)

  pub first_watched : AreWatched first (take count verdicts) (take count awaited)
  first_watched = record {
    waiting = record {
      places =
          let places = h.watched.waiting.places in
          length_taken awaited count (subst (λ m. count ≤ m) (sym (places ∙ h.kept.places)) within) ∙ sym (length_taken verdicts count (subst (λ m. count ≤ m) (sym h.kept.places) within));
      idle = λ i e f.
          let v = get_take count verdicts i None e in
          let w = get_take count awaited i None f in
          let o = h.watched.waiting.idle i v.0 w.0 in
          made_open (take count shapes) (take k definitions) i o.0 (take_get count shapes i (shape.Named o.0) o.1 v.1)
          (take_get k definitions o.0 None (open_definition shapes definitions i o.0 (ap declaration o.1) o) (number_below i o.0 v.1 o.1));
      held = λ i p e.
          let w = get_take count awaited i (Some p) e in
          first_holds i p w.1 (h.watched.waiting.held i p w.0);
    };
    unknown = λ i p e.
        let w = get_take count awaited i (Some p) e in
        take_get count verdicts p None (h.watched.unknown i p w.0) (awaited_below i p w.1 w.0);
  }

-- ---- a shape gets its number

held_same : (shapes others : List Shape) (definitions : List (Option Definition)) (s : Shape) → held (table_of shapes definitions) s ≡ held (table_of others definitions) s
held_same shapes others definitions shape.Bool = refl
held_same shapes others definitions shape.Text = refl
held_same shapes others definitions (shape.Int k) = refl
held_same shapes others definitions (shape.Array k p) = refl
held_same shapes others definitions (shape.Slice p) = refl
held_same shapes others definitions (shape.Struct fs) = refl
held_same shapes others definitions (shape.Func ps rs) = refl
held_same shapes others definitions (shape.Named n) = refl

found_verdict : (t : Table) (verdicts : List (Option Verdict)) (s : Shape) (f : Finding) → IsFinding t verdicts s f → IfSome (verdict_of f) (IsShapeVerdict t s)
found_verdict t verdicts s (finding.Known v) h = h
found_verdict t verdicts s (finding.Waits p k) h = tt
found_verdict t verdicts s finding.Open h = tt

found_open : (shapes : List Shape) (definitions : List (Option Definition)) (verdicts : List (Option Verdict)) (s : Shape) (f : Finding) → IsFinding (table_of shapes definitions) verdicts s f → awaited_by f ≡ None → verdict_of f ≡ None → IsOpen (table_of (shapes ++ s ∷ []) definitions) (length shapes)
found_open shapes definitions verdicts s (finding.Known v) h a b = cc
found_open shapes definitions verdicts s (finding.Waits p k) h a b = cc
found_open shapes definitions verdicts s finding.Open h a b = (h.0, get_last shapes s ∙ ap Some h.1, h.2)

pub found_held : (shapes : List Shape) (definitions : List (Option Definition)) (verdicts : List (Option Verdict)) (s : Shape) (f : Finding) → IsFinding (table_of shapes definitions) verdicts s f → (p : ℕ) → awaited_by f ≡ Some p → Holds (table_of (shapes ++ s ∷ []) definitions) (length shapes) p × (slice_get verdicts p ≡ Some None)
found_held shapes definitions verdicts s (finding.Known v) h p e = cc
found_held shapes definitions verdicts s (finding.Waits q k) h p e =
    let same : q ≡ p = cc in
    let holds : Holds (table_of (shapes ++ s ∷ []) definitions) (length shapes) q = record { its_shape = s; shape_is = get_last shapes s; place = h.place; held_is = ap (λ x. slice_get x h.place) (held_same (shapes ++ s ∷ []) shapes definitions s) ∙ h.held_is } in
    (subst (Holds (table_of (shapes ++ s ∷ []) definitions) (length shapes)) same holds, subst (λ r. slice_get verdicts r ≡ Some None) same h.unknown)
found_held shapes definitions verdicts s finding.Open h p e = cc

pub interned_complete : (shapes new_shapes : List Shape) (definitions : List (Option Definition)) (verdicts : List (Option Verdict)) (awaited : List (Option ℕ)) (s : Shape) (i : ℕ) (f : Finding) → IsComplete shapes definitions verdicts awaited → HasPartsBelow (length shapes) s → WasDeclared (table_of shapes definitions) s → IsInterned shapes new_shapes s i → IsFinding (table_of shapes definitions) verdicts s f → IsComplete new_shapes definitions (take (length new_shapes) (verdicts ++ verdict_of f ∷ [])) (take (length new_shapes) (awaited ++ awaited_by f ∷ []))
interned_complete shapes new_shapes definitions verdicts awaited s i f h parts was interned found = record {
  kept = interned_kept shapes new_shapes definitions verdicts s i (verdict_of f) h.kept parts was interned (found_verdict (table_of shapes definitions) verdicts s f found);
  watched = watched interned;
}
  where
    waits_places : length awaited ≡ length shapes
    waits_places = h.watched.waiting.places ∙ h.kept.places

    watched : IsInterned shapes new_shapes s i → AreWatched (table_of new_shapes definitions) (take (length new_shapes) (verdicts ++ verdict_of f ∷ [])) (take (length new_shapes) (awaited ++ awaited_by f ∷ []))
    watched (inl known) =
        subst (λ x. AreWatched (table_of x definitions) (take (length x) (verdicts ++ verdict_of f ∷ [])) (take (length x) (awaited ++ awaited_by f ∷ []))) (sym known.same)
        (subst (λ v. AreWatched (table_of shapes definitions) v (take (length shapes) (awaited ++ awaited_by f ∷ []))) (sym (same_taken verdicts shapes (verdict_of f) h.kept.places))
        (subst (AreWatched (table_of shapes definitions) verdicts) (sym (same_taken awaited shapes (awaited_by f) waits_places)) h.watched))
    watched (inr added) =
        subst (λ x. AreWatched (table_of x definitions) (take (length x) (verdicts ++ verdict_of f ∷ [])) (take (length x) (awaited ++ awaited_by f ∷ []))) (sym added.longer)
        (subst (λ v. AreWatched (table_of (shapes ++ s ∷ []) definitions) v (take (length (shapes ++ s ∷ [])) (awaited ++ awaited_by f ∷ []))) (sym (all_taken verdicts shapes (verdict_of f) s h.kept.places))
        (subst (AreWatched (table_of (shapes ++ s ∷ []) definitions) (verdicts ++ verdict_of f ∷ [])) (sym (all_taken awaited shapes (awaited_by f) s waits_places))
        (longer_watched shapes definitions definitions verdicts awaited s f h (λ n d e. e) (λ n e. e) (found_open shapes definitions verdicts s f found) (found_held shapes definitions verdicts s f found))))

pub declared_complete : (shapes new_shapes : List Shape) (definitions : List (Option Definition)) (verdicts : List (Option Verdict)) (awaited : List (Option ℕ)) (i : ℕ) → IsComplete shapes definitions verdicts awaited → IsInterned shapes new_shapes (shape.Named (length definitions)) i → IsComplete new_shapes (definitions ++ None ∷ []) (take (length new_shapes) (verdicts ++ None ∷ [])) (take (length new_shapes) (awaited ++ None ∷ []))
declared_complete shapes new_shapes definitions verdicts awaited i h interned =
    let s : Shape = shape.Named (length definitions) in
    let added = declared_added shapes new_shapes definitions i h.kept.resolved interned in
    record {
      kept = declared_kept shapes new_shapes definitions verdicts i h.kept interned;
      watched =
          subst (λ x. AreWatched (table_of x (definitions ++ None ∷ [])) (take (length x) (verdicts ++ None ∷ [])) (take (length x) (awaited ++ None ∷ []))) (sym added.longer)
          (subst (λ v. AreWatched (table_of (shapes ++ s ∷ []) (definitions ++ None ∷ [])) v (take (length (shapes ++ s ∷ [])) (awaited ++ None ∷ []))) (sym (all_taken verdicts shapes None s h.kept.places))
          (subst (AreWatched (table_of (shapes ++ s ∷ []) (definitions ++ None ∷ [])) (verdicts ++ None ∷ [])) (sym (all_taken awaited shapes None s (h.watched.waiting.places ∙ h.kept.places)))
          (longer_watched shapes definitions (definitions ++ None ∷ []) verdicts awaited s finding.Open h (λ n d e. get_left definitions (None ∷ []) n (Some d) e) (λ n e. get_left definitions (None ∷ []) n None e)
          (λ a b. made_open (shapes ++ s ∷ []) (definitions ++ None ∷ []) (length shapes) (length definitions) (get_last shapes s) (get_last definitions None))
          (λ p e. cc))));
    }

-- what is waited for is of the table
pub awaited_within : (shapes : List Shape) (definitions : List (Option Definition)) (verdicts : List (Option Verdict)) (awaited : List (Option ℕ)) → IsComplete shapes definitions verdicts awaited → (i p : ℕ) → slice_get awaited i ≡ Some (Some p) → p < length awaited
awaited_within shapes definitions verdicts awaited h i p e =
    let places = h.watched.waiting.places in
    let low = get_within verdicts p None (h.watched.unknown i p e) in
    omega arith

-- ---- `define`

module _ (shapes : List Shape) (definitions : List (Option Definition)) (verdicts : List (Option Verdict)) (awaited : List (Option ℕ)) (named n : ℕ) (d : Definition) (h : IsComplete shapes definitions verdicts awaited) (is : declaration (slice_get shapes named) ≡ Some n) (can : CanDefine named d.right d.underlying (table_of shapes definitions)) where
  free : slice_get definitions n ≡ Some None
  free = open_definition shapes definitions named n is can.0

  shape_is : slice_get shapes named ≡ Some (shape.Named n)
  shape_is = declaration_shape (slice_get shapes named) n is

  resolved : IsResolved shapes (slice_set definitions n (Some d))
  resolved = defined_resolved shapes definitions h.kept.resolved named n d is can

  pub defined_complete : slice_get verdicts d.right ≡ Some None → IsComplete shapes (slice_set definitions n (Some d)) verdicts (slice_set awaited named (Some d.right))
  defined_complete blank =
      let unknown = named_unknown shapes definitions verdicts awaited named n d h free shape_is in
      record {
        kept = subst (IsKept shapes (slice_set definitions n (Some d))) (sym (same_set verdicts named None unknown)) (defined_kept shapes definitions verdicts named n d None h.kept free shape_is blank resolved);
        watched = waits_for_right shapes definitions verdicts awaited named n d h free shape_is blank;
      }

  pub defined_known : (v : Verdict) → slice_get verdicts d.right ≡ Some (Some v) → IsKept shapes (slice_set definitions n (Some d)) (slice_set verdicts named (Some v))
  defined_known v there = defined_kept shapes definitions verdicts named n d (Some v) h.kept free shape_is there resolved

  pub defined_waiting : (v : Verdict) → AreWaiting (table_of shapes (slice_set definitions n (Some d))) (slice_set verdicts named (Some v)) awaited
  defined_waiting = known_waiting shapes definitions verdicts awaited named n d h free shape_is

  pub defined_few : (v : Verdict) → count_by (is_stale (slice_set verdicts named (Some v))) awaited ≤ count_by (is_for named) awaited
  defined_few = known_few shapes definitions verdicts awaited named n d h free shape_is

  pub defined_there : named < length verdicts
  defined_there = get_within verdicts named None (named_unknown shapes definitions verdicts awaited named n d h free shape_is)
