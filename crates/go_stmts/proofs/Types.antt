-- A specification of a type over its right side.
use Rattle.std.proofs.Common.{◌≡◌, ℕ, Bool, true, false, cond, List, [], ◌∷◌, map, Option, Some, None, refl, ap, sym, subst, ◌∙◌}
use Rattle.std.specs.Prelude.{not, ◌||◌}
use Rattle.std.specs.List.{list_any}
use Rattle.std.specs.Option.{option_map}
use Rattle.go_grammar.specs.declared.kind.Kind.TheVariants as kind
use Rattle.go_grammar.specs.declared.kind.Sort.TheVariants as declaring
use Rattle.go_grammar.specs.Trees.{Trees}
use Rattle.go_types.specs.Relations.{Rights}
use Rattle.go_types.specs.Tables as tables
use Rattle.go_types.specs.Tables.{Table}
use Rattle.go_typed.specs.declared.form.Form.TheVariants as form
use Rattle.go_typed.specs.declared.node.TypedNode.{TypedNode}
use Rattle.go_typed.specs.declared.sort.Sort as program
use Rattle.go_typed.specs.Trees.{list_of, parts_of}
use Rattle.go_typed.specs.Views.{seen}
use Rattle.go_exprs_rules.specs.declared.fault.TypeFault.{TypeFault}
use Rattle.go_exprs_rules.specs.Faults.{least, reported}
use Rattle.go_exprs_rules.specs.Settling.{Part}
use Rattle.go_exprs_rules.specs.Sorts.{is_unknown}
use Rattle.go_exprs_rules.specs.Tables.{Parts, is_lost, is_judged, on_two}
use Rattle.go_exprs_engine.proofs.Public.{reported_one, none_least, list_row}
use Rattle.go_stmts_defs.specs.Frames.{Frame, rights_of, with_own_right}
use Rattle.go_stmts_defs.specs.Laying.{type_number, type_sort}
use Rattle.go_stmts_defs.specs.Reading.{Found, Reading, all_read, closed, back, right_side}
use Rattle.go_stmts_defs.specs.Rules.{first_fault, type_failing, built_by}
use Rattle.go_stmts_parts.specs.declared.late.LateArray as lates
use Rattle.go_stmts_parts.specs.Late.{LateArray, all_too_large, late_seen}
use Rattle.go_stmts_parts.proofs.Public.{limits_told}
use Rattle.go_stmts.specs.declared.state.Surroundings.{Surroundings}
use Rattle.go_stmts.specs.declared.state.State.{State}
use Rattle.go_stmts.specs.Signatures.{failing_over}
use Rattle.go_stmts.specs.State.{Shows}
use Rattle.go_stmts.specs.Types.{late_of, late_in, named_parts, type_over, placed_or}
use Rattle.go_stmts.specs.Walks.{found_in, ShowsReading}
use Rattle.go_stmts.proofs.Readings.{reported_later}
use Rattle.go_stmts.proofs.Rights.{own_rights}

name_there : (m : Option ℕ) → is_unknown (type_sort m) ≡ false
name_there None = refl
name_there (Some m) = refl

-- the right sides behind the specification
abbrev pub behind : Frame → ℕ → Parts → Rights
behind s i xs = rights_of (with_own_right (type_number s i) (right_side (named_parts s i xs)) s)

module _ (s : Frame) (i j : ℕ) where
  judged_named : (xs : Parts) → is_judged (named_parts s i xs) ≡ is_judged xs
  judged_named xs = ap (λ b. not (b || list_any is_lost xs)) (name_there (type_number s i))

  late_there : (xs : Parts) → on_two [] (λ n x. type_failing s i x) (named_parts s i xs) ≡ first_fault (all_too_large (behind s i xs) (late_of (rights_of s) xs))
  late_there [] = refl
  late_there (None ∷ []) = refl
  late_there (Some x ∷ []) = ap first_fault (limits_told (rights_of s) (behind s i (Some x ∷ [])) x)
  late_there (None ∷ y ∷ xs) = refl
  late_there (Some x ∷ y ∷ xs) = refl

  where_judged : (b : Bool) (fs : List TypeFault) (rights : Rights) (es : List LateArray) → fs ≡ first_fault (all_too_large rights es) → cond b fs [] ≡ first_fault (all_too_large rights (cond b es []))
  where_judged true fs rights es e = e
  where_judged false fs rights es e = refl

  pub own_late : (xs : Parts) → failing_over s (kind.Specification declaring.Type) i j xs ≡ first_fault (all_too_large (behind s i xs) (late_in (rights_of s) xs))
  own_late xs =
      ap (λ b. cond b (on_two [] (λ n x. type_failing s i x) (named_parts s i xs)) []) (judged_named xs)
      ∙ where_judged (is_judged xs) (on_two [] (λ n x. type_failing s i x) (named_parts s i xs)) (behind s i xs) (late_of (rights_of s) xs) (late_there xs)

  module _ (b : Frame) (ps : Trees) (xs : Parts) (fs : Found) (sound : reported fs ≡ None) where
    abbrev type_read : Reading
    type_read = closed b (kind.Specification declaring.Type) i j ps (all_read xs fs s)

    pub type_reported : reported (found_in (closed b (kind.Specification declaring.Type) i j ps (all_read xs fs s))) ≡ least (first_fault (all_too_large (behind s i xs) (late_in (rights_of s) xs)))
    type_reported = reported_later fs (failing_over s (kind.Specification declaring.Type) i j xs ∷ []) sound ∙ reported_one (failing_over s (kind.Specification declaring.Type) i j xs) ∙ ap least (own_late xs)

    abbrev built : List TypeFault → Part
    built own = built_by s (kind.Specification declaring.Type) (form.Held (kind.Specification declaring.Type)) i j (named_parts s i xs) own

    pub type_made : (t : Table) (o : Surroundings) (k : State) (x : program.Sort) (rs : List ℕ) (n : TypedNode) → seen t n ≡ type_over s i j xs → least (first_fault (all_too_large (behind s i xs) (late_in (rights_of s) xs))) ≡ None
        → Shows t o k x rs (with_own_right (type_number s i) (right_side (named_parts s i xs)) (back b s))
        → ShowsReading t o k x rs n (closed b (kind.Specification declaring.Type) i j ps (all_read xs fs s))
    type_made t o k x rs n e none shows =
        let own = failing_over s (kind.Specification declaring.Type) i j xs in
        let fine : own ≡ [] = own_late xs ∙ none_least (first_fault (all_too_large (behind s i xs) (late_in (rights_of s) xs))) none in
        let made : built own ≡ type_over s i j xs = ap built fine in
        record {
          sound = type_reported ∙ none;
          tree = e ∙ sym made;
          behind = subst (λ (y : Part). Shows t o k x rs (with_own_right (type_number s i) (right_side (list_of (parts_of y))) (back b s))) (sym made)
              (subst (λ ys. Shows t o k x rs (with_own_right (type_number s i) (right_side ys) (back b s))) (sym (list_row (named_parts s i xs))) shows);
        }

-- what the program finds to be too large is what the definition does
pub late_same : (old new : Table) (s : Frame) (i : ℕ) (xs : Parts) (late : List lates.LateArray) (right : Option ℕ) → new.shapes ≡ old.shapes → rights_of s ≡ tables.rights_of old
    → map (late_seen old) late ≡ late_in (tables.rights_of old) xs → option_map (tables.type_of old.shapes) right ≡ right_side (named_parts s i xs)
    → tables.rights_of new ≡ placed_or (type_number s i) (option_map (tables.type_of old.shapes) right) (tables.rights_of old)
    → first_fault (all_too_large (tables.rights_of new) (map (late_seen new) late)) ≡ first_fault (all_too_large (behind s i xs) (late_in (rights_of s) xs))
late_same old new s i xs late right shapes around found is rights =
    let those : map (late_seen new) late ≡ late_in (rights_of s) xs =
    ap (λ ys. map (λ (a : lates.LateArray). let z : LateArray = record { first = a.place.first; last = a.place.last; of = tables.type_of ys a.of } in z) late) shapes ∙ found ∙ ap (λ r. late_in r xs) (sym around) in
    let there : tables.rights_of new ≡ behind s i xs =
    rights ∙ ap (λ r. placed_or (type_number s i) r (tables.rights_of old)) is ∙ ap (placed_or (type_number s i) (right_side (named_parts s i xs))) (sym around) ∙ sym (own_rights (type_number s i) (right_side (named_parts s i xs)) s) in
    ap (λ r. first_fault (all_too_large r (map (late_seen new) late))) there ∙ ap (λ es. first_fault (all_too_large (behind s i xs) es)) those
