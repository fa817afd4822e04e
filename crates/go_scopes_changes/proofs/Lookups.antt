-- Rules on the names that are looked up outside of functions, in packages with equal heads.
use Rattle.std.proofs.Common.{◌≡◌, ◌∙◌, ℕ, suc, ◌+◌, Bool, true, false, List, [], ◌∷◌, ◌++◌, map, refl, sym, ap, subst, arith}
use Rattle.std.specs.Prelude.{if◌then◌else◌, ◌&&◌, ◌||◌, nat_eq}
use Rattle.go_base.specs.declared.fault.FaultCode.{FaultCode}
use Rattle.go_base.specs.declared.fault.FaultCode.TheVariants as code
use Rattle.go_grammar.specs.Trees.{parts}
use Rattle.go_tree.specs.declared.context.Role.{Role}
use Rattle.go_tree.specs.declared.context.Role.TheVariants as role
use Rattle.go_tree.specs.declared.event.Event.{Event}
use Rattle.go_tree.specs.declared.event.Event.TheVariants as event
use Rattle.go_tree.specs.declared.event.Use.{Use}
use Rattle.go_tree.specs.Failures.{Failure, fault, failing, place_if}
use Rattle.go_tree.specs.Faults.{lookup_faults}
use Rattle.go_tree.specs.Lookups.{Asked, asked, asked_in, asked_from, object_asked, lacks_meaning, undeclared, is_unknown, outside_names}
use Rattle.go_tree.specs.Lookups.{is_import, is_other_member, outside_members, is_no_call, not_called, is_initial, initialisers, selected_of, uses_import}
use Rattle.go_tree.specs.Meanings.{Meaning, meanings}
use Rattle.go_tree.specs.Objects.{object_by}
use Rattle.go_tree.specs.Units.{Place, word, is_blank}
use Rattle.go_heads.specs.Functions.{AreRead}
use Rattle.go_heads.specs.Heads.{File, head_of, heads, in_bodies}
use Rattle.go_heads.specs.Meanings.{StandsOutside}
use Rattle.go_heads.specs.Objects.{units_of, file_in}
use Rattle.go_heads.proofs.Public.{Every, StandFrom, first_same, others_same, some_not_none, stand_from}
use Rattle.go_scopes_bodies.specs.Carried.{carried_event, carried_role, carried_use}
use Rattle.go_scopes_bodies.specs.Faults.{outside_asked, outer_in}
use Rattle.go_scopes_bodies.specs.Outside.{outside_events, outside_units}
use Rattle.go_scopes_changes.proofs.Meant.{initial_outer, initial_stays, meaning_outer}
use Rattle.go_scopes_changes.proofs.Outsides.{CarriedTell}
use Rattle.go_scopes_changes.proofs.Pairs.{moves, IsSame, all_same, same_events, none_if, if_none, left_none, right_none}
use Rattle.go_scopes_changes.proofs.Standing.{Stands, all_out}

-- The rules see the same of both.
pub record Alike (x y : Asked) : Type 0 where
  pub file : y.file ≡ x.file
  pub constant : y.it.constant ≡ x.it.constant
  pub initial : y.it.initial ≡ x.it.initial
  pub name : y.name ≡ x.name
  pub object : object_asked y ≡ object_asked x
  pub starts : is_initial y.meaning ≡ is_initial x.meaning
  pub other : is_other_member y.it.role y.selected ≡ is_other_member x.it.role x.selected
  pub called : is_no_call y.it.role y.selected ≡ is_no_call x.it.role x.selected

abbrev AreAlike : List Asked → List Asked → Type 0
AreAlike [] [] = Unit {0}
AreAlike [] (y ∷ ys) = ⊥
AreAlike (x ∷ xs) [] = ⊥
AreAlike (x ∷ xs) (y ∷ ys) = Alike x y × AreAlike xs ys

alike_append : (xs ys vs ws : List Asked) → AreAlike xs ys → AreAlike vs ws → AreAlike (xs ++ vs) (ys ++ ws)
alike_append [] [] vs ws h g = g
alike_append [] (y ∷ ys) vs ws h g = absurd h
alike_append (x ∷ xs) [] vs ws h g = absurd h
alike_append (x ∷ xs) (y ∷ ys) vs ws h g = (h.0, alike_append xs ys vs ws h.1 g)

-- ---- rules

module _ (rule : List Asked → List Place) (test : Asked → Bool) (place : Asked → Place) (nil : rule [] ≡ []) (step : (a : Asked) (rest : List Asked) → rule (a ∷ rest) ≡ place_if (test a) (place a) (rule rest))
    (same : (x y : Asked) → Alike x y → test y ≡ test x) where
  rule_stays : (xs ys : List Asked) → AreAlike xs ys → rule xs ≡ [] → rule ys ≡ []
  rule_stays [] [] h e = nil
  rule_stays [] (y ∷ ys) h e = absurd h
  rule_stays (x ∷ xs) [] h e = absurd h
  rule_stays (x ∷ xs) (y ∷ ys) h e =
      let here = none_if (test x) (place x) (rule xs) (sym (step x xs) ∙ e) in
      step y ys ∙ if_none (test y) (place y) (rule ys) (same x y h.0 ∙ here.0) (rule_stays xs ys h.1 here.1)

undeclared_stay : (xs ys : List Asked) → AreAlike xs ys → undeclared xs ≡ [] → undeclared ys ≡ []
undeclared_stay =
    rule_stays undeclared (λ a. lacks_meaning a.it.constant a.name (object_asked a)) (λ a. a.place) refl (λ a rest. refl)
    (λ x y h. ap (λ z. lacks_meaning z y.name (object_asked y)) h.constant ∙ ap (λ z. lacks_meaning x.it.constant z (object_asked y)) h.name ∙ ap (lacks_meaning x.it.constant x.name) h.object)

names_stay : (xs ys : List Asked) → AreAlike xs ys → outside_names xs ≡ [] → outside_names ys ≡ []
names_stay =
    rule_stays outside_names (λ a. is_unknown a.name (object_asked a)) (λ a. a.place) refl (λ a rest. refl) (λ x y h. ap (λ z. is_unknown z (object_asked y)) h.name ∙ ap (is_unknown x.name) h.object)

others_stay : (xs ys : List Asked) → AreAlike xs ys → outside_members xs ≡ [] → outside_members ys ≡ []
others_stay =
    rule_stays outside_members (λ a. is_import (object_asked a) && is_other_member a.it.role a.selected) (λ a. a.whole) refl (λ a rest. refl)
    (λ x y h. ap (λ z. is_import z && is_other_member y.it.role y.selected) h.object ∙ ap (λ z. is_import (object_asked x) && z) h.other)

calls_stay : (xs ys : List Asked) → AreAlike xs ys → not_called xs ≡ [] → not_called ys ≡ []
calls_stay =
    rule_stays not_called (λ a. is_import (object_asked a) && is_no_call a.it.role a.selected) (λ a. a.whole) refl (λ a rest. refl)
    (λ x y h. ap (λ z. is_import z && is_no_call y.it.role y.selected) h.object ∙ ap (λ z. is_import (object_asked x) && z) h.called)

values_stay : (xs ys : List Asked) → AreAlike xs ys → initialisers xs ≡ [] → initialisers ys ≡ []
values_stay =
    rule_stays initialisers (λ a. a.it.initial && is_initial a.meaning) (λ a. a.place) refl (λ a rest. refl)
    (λ x y h. ap (λ z. z && is_initial y.meaning) h.initial ∙ ap (λ z. x.it.initial && z) h.starts)

pub failing_none : (c : FaultCode) (ss : List Place) → failing c ss ≡ [] → ss ≡ []
failing_none c [] e = refl
failing_none c (s ∷ ss) e = absurd (some_not_none (fault c s) (failing c ss) e)

lookups_alike : (xs ys : List Asked) → AreAlike xs ys → lookup_faults xs ≡ [] → lookup_faults ys ≡ []
lookups_alike xs ys h e =
    let a : List Failure = failing code.Undeclared (undeclared xs) in
    let b : List Failure = failing code.Outside (outside_names xs) in
    let c : List Failure = failing code.Outside (outside_members xs) in
    let d : List Failure = failing code.NotAValue (not_called xs) in
    let f : List Failure = failing code.Initialiser (initialisers xs) in
    let four = left_none (((a ++ b) ++ c) ++ d) f e in
    let three = left_none ((a ++ b) ++ c) d four in
    let two = left_none (a ++ b) c three in
    let one = left_none a b two in
    ap (λ z. failing code.Undeclared z ++ failing code.Outside (outside_names ys) ++ failing code.Outside (outside_members ys) ++ failing code.NotAValue (not_called ys) ++ failing code.Initialiser (initialisers ys))
    (undeclared_stay xs ys h (failing_none code.Undeclared (undeclared xs) one))
    ∙ ap (λ z. failing code.Outside z ++ failing code.Outside (outside_members ys) ++ failing code.NotAValue (not_called ys) ++ failing code.Initialiser (initialisers ys))
    (names_stay xs ys h (failing_none code.Outside (outside_names xs) (right_none a b two)))
    ∙ ap (λ z. failing code.Outside z ++ failing code.NotAValue (not_called ys) ++ failing code.Initialiser (initialisers ys))
    (others_stay xs ys h (failing_none code.Outside (outside_members xs) (right_none (a ++ b) c three)))
    ∙ ap (λ z. failing code.NotAValue z ++ failing code.Initialiser (initialisers ys)) (calls_stay xs ys h (failing_none code.NotAValue (not_called xs) (right_none ((a ++ b) ++ c) d four)))
    ∙ ap (failing code.Initialiser) (values_stay xs ys h (failing_none code.Initialiser (initialisers xs) (right_none (((a ++ b) ++ c) ++ d) f e)))

-- whether the import of a file is used
uses_same : (n : ℕ) (xs ys : List Asked) → AreAlike xs ys → uses_import n ys ≡ uses_import n xs
uses_same n [] [] h = refl
uses_same n [] (y ∷ ys) h = absurd h
uses_same n (x ∷ xs) [] h = absurd h
uses_same n (x ∷ xs) (y ∷ ys) h =
    ap (λ i. (nat_eq i n && is_import (object_asked y)) || uses_import n ys) h.0.file
    ∙ ap (λ o. (nat_eq x.file n && is_import o) || uses_import n ys) h.0.object
    ∙ ap (λ b. (nat_eq x.file n && is_import (object_asked x)) || b) (uses_same n xs ys h.1)

-- ---- what is looked up

other_same : (v : ℕ → ℕ) (r : Role) (x y : List ℕ) → y ≡ x → is_other_member (carried_role v r) y ≡ is_other_member r x
other_same v (role.Selected last called) x y e = ap (is_other_member (role.Selected last called)) e
other_same v r x y e = refl

call_same : (v : ℕ → ℕ) (r : Role) (x y : List ℕ) → y ≡ x → is_no_call (carried_role v r) y ≡ is_no_call r x
call_same v (role.Selected last true) x y e = refl
call_same v (role.Selected last false) x y e = ap (is_no_call (role.Selected last false)) e
call_same v r x y e = refl

module _ (old new : List File) (h : AreRead old) (k : AreRead new) (e : heads old ≡ heads new) (outer : (n : ℕ) (w : List ℕ) → outer_in new n w ≡ outer_in old n w) where
  abbrev ms : List Meaning
  ms = meanings (units_of old)

  abbrev ns : List Meaning
  ns = meanings (units_of new)

  module _ (n : ℕ) (a b : File) (here : file_in old n ≡ a) (there : file_in new n ≡ b) where
    abbrev v : ℕ → ℕ
    v = moves a b

    alike_use : (u : Use) → IsSame a b (event.Use u) → Stands a (event.Use u) → Stands b (event.Use (carried_use v u)) → Alike (asked ms n a.tokens u) (asked ns n b.tokens (carried_use v u))
    alike_use u s x y =
        let was : List ℕ = word a.tokens u.name in
        let is : List ℕ = word b.tokens (v u.name) in
        let out : StandsOutside old n u.name = ap (λ (f : File). in_bodies (parts f.tree) u.name) here ∙ x in
        let off : StandsOutside new n (v u.name) = ap (λ (f : File). in_bodies (parts f.tree) (v u.name)) there ∙ y in
        record {
          file = refl;
          constant = refl;
          initial = refl;
          name = s.1;
          object = ap (object_by is) (meaning_outer new k n (v u.name) is off) ∙ outer n is ∙ ap (outer_in old n) s.1 ∙ ap (object_by was) (sym (meaning_outer old h n u.name was out));
          starts = ap is_initial (meaning_outer new k n (v u.name) is off) ∙ initial_stays old new h k e n is ∙ ap (initial_outer old n) s.1 ∙ ap is_initial (sym (meaning_outer old h n u.name was out));
          other = other_same v u.role (selected_of a.tokens u.role) (selected_of b.tokens (carried_role v u.role)) s.2;
          called = call_same v u.role (selected_of a.tokens u.role) (selected_of b.tokens (carried_role v u.role)) s.2;
        }

    unless_blank : (x y : Asked) (xs ys : List Asked) (c : Bool) → Alike x y → AreAlike xs ys → AreAlike (if c then xs else x ∷ xs) (if c then ys else y ∷ ys)
    unless_blank x y xs ys true g r = r
    unless_blank x y xs ys false g r = (g, r)

    asks_alike : (es : List Event) → Every (IsSame a b) es → Every (Stands a) es → Every (Stands b) (map (carried_event v) es) → AreAlike (asked_in ms n a.tokens es) (asked_in ns n b.tokens (map (carried_event v) es))
    asks_alike [] s x y = tt
    asks_alike (event.Use u ∷ es) s x y =
        let xs : List Asked = asked_in ms n a.tokens es in
        let ys : List Asked = asked_in ns n b.tokens (map (carried_event v) es) in
        let one : Asked = asked ms n a.tokens u in
        let two : Asked = asked ns n b.tokens (carried_use v u) in
        subst (λ w. AreAlike (if is_blank (word a.tokens u.name) then xs else one ∷ xs) (if is_blank w then ys else two ∷ ys)) (sym s.0.1)
        (unless_blank one two xs ys (is_blank (word a.tokens u.name)) (alike_use u s.0 x.0 y.0) (asks_alike es s.1 x.1 y.1))
    asks_alike (event.Declaration d ∷ es) s x y = asks_alike es s.1 x.1 y.1
    asks_alike (event.Import i ∷ es) s x y = asks_alike es s.1 x.1 y.1
    asks_alike (event.Member m g i ∷ es) s x y = asks_alike es s.1 x.1 y.1
    asks_alike (event.Bodiless i j ∷ es) s x y = asks_alike es s.1 x.1 y.1
    asks_alike (event.Statement i j ∷ es) s x y = asks_alike es s.1 x.1 y.1
    asks_alike (event.Misplaced i j ∷ es) s x y = asks_alike es s.1 x.1 y.1
    asks_alike (event.SecondDefault i ∷ es) s x y = asks_alike es s.1 x.1 y.1

  module _ (tell : CarriedTell) where
    files_alike : (n : ℕ) (xs bs : List File) → AreRead xs → AreRead bs → heads xs ≡ heads bs → StandFrom old n xs → StandFrom new n bs → AreAlike (asked_from ms n (outside_units xs)) (asked_from ns n (outside_units bs))
    files_alike n [] [] r s q f g = tt
    files_alike n [] (b ∷ bs) r s q f g = absurd (some_not_none (head_of b) (heads bs) (sym q))
    files_alike n (a ∷ xs) [] r s q f g = absurd (some_not_none (head_of a) (heads xs) q)
    files_alike n (a ∷ xs) (b ∷ bs) r s q f g =
        let one : head_of a ≡ head_of b = first_same (head_of a) (head_of b) (heads xs) (heads bs) q in
        let told = same_events tell a b r.0 s.0 one in
        alike_append (asked_in ms n a.tokens (outside_events a)) (asked_in ns n b.tokens (outside_events b)) (asked_from ms (suc n) (outside_units xs)) (asked_from ns (suc n) (outside_units bs))
        (subst (λ z. AreAlike (asked_in ms n a.tokens (outside_events a)) (asked_in ns n b.tokens z)) (sym told)
        (asks_alike n a b f.0 g.0 (outside_events a) (all_same tell a b r.0 s.0 one) (all_out tell a r.0) (subst (Every (Stands b)) told (all_out tell b s.0))))
        (files_alike (suc n) xs bs r.1 s.1 (others_same (head_of a) (head_of b) (heads xs) (heads bs) q) f.1 g.1)

    asked_alike : AreAlike (outside_asked old) (outside_asked new)
    asked_alike =
        files_alike 0 old new h k e (stand_from old 0 old (λ x. let z : 0 + x ≡ x = omega arith in ap (file_in old) z)) (stand_from new 0 new (λ x. let z : 0 + x ≡ x = omega arith in ap (file_in new) z))

    pub lookups_stay : lookup_faults (outside_asked old) ≡ [] → lookup_faults (outside_asked new) ≡ []
    lookups_stay f = lookups_alike (outside_asked old) (outside_asked new) asked_alike f

    pub uses_stay : (n : ℕ) → uses_import n (outside_asked new) ≡ uses_import n (outside_asked old)
    uses_stay n = uses_same n (outside_asked old) (outside_asked new) asked_alike
