-- In a package without faults of names `fmt` stands in front of a member that is called alone.
use Rattle.std.proofs.Common.{◌≡◌, ◌∙◌, ℕ, zero, suc, ◌+◌, Bool, true, false, ◌&&◌, List, [], ◌∷◌, ◌++◌, Option, Some, None, refl, sym, ap, subst, arith}
use Rattle.std.specs.Prelude.{slice_get, if◌then◌else◌, not, codes}
use Rattle.std.specs.List.{AllByRecursion}
use Rattle.go_base.specs.declared.fault.FaultCode.{FaultCode}
use Rattle.go_base.specs.declared.fault.FaultCode.TheVariants as code
use Rattle.go_tokens.specs.Spellings.{same_text}
use Rattle.go_tokens.specs.Tokens.{TokenList}
use Rattle.go_tree.specs.declared.context.Role.{Role}
use Rattle.go_tree.specs.declared.context.Role.TheVariants as role
use Rattle.go_tree.specs.declared.event.Event.{Event}
use Rattle.go_tree.specs.declared.event.Event.TheVariants as event
use Rattle.go_tree.specs.declared.event.Use.{Use}
use Rattle.go_tree.specs.declared.object.Object.{Object}
use Rattle.go_tree.specs.declared.object.Object.TheVariants as object
use Rattle.go_tree.specs.Declarations.{Found, declarations}
use Rattle.go_tree.specs.Failures.{Failure, failing, place_if, is_earlier, least_from, least, or_else}
use Rattle.go_tree.specs.Faults.{clause_faults, lookup_faults, unused_faults, placed_faults, cycle_faults, name_faults, reported}
use Rattle.go_tree.specs.Lookups.{Asked, asked, asked_in, asked_from, object_asked, is_import, is_no_call, is_other_member, selected_of, undeclared, outside_names, outside_members, not_called, initialisers}
use Rattle.go_tree.specs.Meanings.{Meaning, meanings, meaning_at}
use Rattle.go_tree.specs.Objects.{object_by, object_at}
use Rattle.go_tree.specs.Redeclared.{redeclared}
use Rattle.go_tree.specs.Units as names
use Rattle.go_tree.specs.Units.{Place, is_blank, word}
use Rattle.go_scopes_events.specs.Sited.{EachUsed}
use Rattle.go_package_placed.proofs.Found.{false_true, same_unit}

-- ---- no fault is reported

some_least : (f : Failure) (gs : List Failure) → least_from (Some f) gs ≡ None → ⊥
some_least f [] e = cc
some_least f (g ∷ gs) e = by (is_earlier g f) e (λ q. some_least g gs q) (λ q. some_least f gs q)
  where
    by : (b : Bool) → least_from (if b then Some g else Some f) gs ≡ None → (least_from (Some g) gs ≡ None → ⊥) → (least_from (Some f) gs ≡ None → ⊥) → ⊥
    by true q l r = l q
    by false q l r = r q

none_least : (fs : List Failure) → least fs ≡ None → fs ≡ []
none_least [] e = refl
none_least (f ∷ fs) e = absurd (some_least f fs e)

none_else : (a b : Option Failure) → or_else a b ≡ None → b ≡ None
none_else None b e = e
none_else (Some f) b e = cc

front_none : {A : Type 0} (xs ys : List A) → xs ++ ys ≡ [] → xs ≡ []
front_none [] ys e = refl
front_none (x ∷ xs) ys e = cc

behind_none : {A : Type 0} (xs ys : List A) → xs ++ ys ≡ [] → ys ≡ []
behind_none [] ys e = e
behind_none (x ∷ xs) ys e = cc

none_failing : (c : FaultCode) (ps : List Place) → failing c ps ≡ [] → ps ≡ []
none_failing c [] e = refl
none_failing c (p ∷ ps) e = cc

lookups_hold : (us : List names.Unit) → reported us ≡ None → lookup_faults (asked_from (meanings us) 0 us) ≡ []
lookups_hold us e =
    let ds : List Found = declarations us in
    let asks : List Asked = asked_from (meanings us) 0 us in
    let first : List Failure = failing code.Redeclared (redeclared us ds) in
    let all : name_faults us ≡ [] = none_least (name_faults us) (none_else (least (clause_faults us)) (least (name_faults us)) e) in
    behind_none first (lookup_faults asks)
    (front_none (first ++ lookup_faults asks) (unused_faults us ds asks)
    (front_none (first ++ lookup_faults asks ++ unused_faults us ds asks) (placed_faults us)
    (front_none (first ++ lookup_faults asks ++ unused_faults us ds asks ++ placed_faults us) (cycle_faults ds asks) all)))

module _ (asks : List Asked) (e : lookup_faults asks ≡ []) where
  abbrev one : List Failure
  one = failing code.Undeclared (undeclared asks)

  abbrev two : List Failure
  two = failing code.Outside (outside_names asks)

  abbrev three : List Failure
  three = failing code.Outside (outside_members asks)

  abbrev four : List Failure
  four = failing code.NotAValue (not_called asks)

  up_to_four : one ++ two ++ three ++ four ≡ []
  up_to_four = front_none (one ++ two ++ three ++ four) (failing code.Initialiser (initialisers asks)) e

  none_uncalled : not_called asks ≡ []
  none_uncalled = none_failing code.NotAValue (not_called asks) (behind_none (one ++ two ++ three) four up_to_four)

  none_outside : outside_members asks ≡ []
  none_outside = none_failing code.Outside (outside_members asks) (behind_none (one ++ two) three (front_none (one ++ two ++ three) four up_to_four))

-- ---- each name that is looked up

abbrev Passes : Asked → Type 0
Passes a = ((is_import (object_asked a) && is_no_call a.it.role a.selected) ≡ false) × ((is_import (object_asked a) && is_other_member a.it.role a.selected) ≡ false)

place_none : (b : Bool) (p : Place) (ps : List Place) → place_if b p ps ≡ [] → (b ≡ false) × (ps ≡ [])
place_none true p ps e = cc
place_none false p ps e = (refl, e)

all_pass : (asks : List Asked) → not_called asks ≡ [] → outside_members asks ≡ [] → AllByRecursion Passes asks
all_pass [] e f = tt
all_pass (a ∷ asks) e f =
    let x = place_none (is_import (object_asked a) && is_no_call a.it.role a.selected) a.whole (not_called asks) e in
    let y = place_none (is_import (object_asked a) && is_other_member a.it.role a.selected) a.whole (outside_members asks) f in
    ((x.0, y.0), all_pass asks x.1 y.1)

all_front : {A : Type 0} (Q : A → Type 0) (xs ys : List A) → AllByRecursion Q (xs ++ ys) → AllByRecursion Q xs
all_front Q [] ys h = tt
all_front Q (x ∷ xs) ys h = (h.0, all_front Q xs ys h.1)

all_behind : {A : Type 0} (Q : A → Type 0) (xs ys : List A) → AllByRecursion Q (xs ++ ys) → AllByRecursion Q ys
all_behind Q [] ys h = h
all_behind Q (x ∷ xs) ys h = all_behind Q xs ys h.1

in_file : (ms : List Meaning) (k : ℕ) (us : List names.Unit) (i : ℕ) (u : names.Unit) → slice_get us i ≡ Some u → AllByRecursion Passes (asked_from ms k us) → AllByRecursion Passes (asked_in ms (k + i) u.tokens u.events)
in_file ms k [] i u e h = absurd cc
in_file ms k (v ∷ us) zero u e h =
    let z : k ≡ k + 0 = omega arith in
    subst (λ m. AllByRecursion Passes (asked_in ms m u.tokens u.events)) z
    (subst (λ (x : names.Unit). AllByRecursion Passes (asked_in ms k x.tokens x.events)) (same_unit v u e) (all_front Passes (asked_in ms k v.tokens v.events) (asked_from ms (suc k) us) h))
in_file ms k (v ∷ us) (suc i) u e h =
    let z : suc k + i ≡ k + suc i = omega arith in
    subst (λ m. AllByRecursion Passes (asked_in ms m u.tokens u.events)) z (in_file ms (suc k) us i u e (all_behind Passes (asked_in ms k v.tokens v.events) (asked_from ms (suc k) us) h))

-- it is the operand of a selector that is called
abbrev pub IsSelected : Role → Type 0
IsSelected (role.Selected last true) = Unit {0}
IsSelected r = ⊥

-- the package fmt is meant in front of a member that is called alone
abbrev pub IsChosen : List Meaning → ℕ → TokenList → Use → Type 0
IsChosen ms n ts u = object_at ms n u.name (word ts u.name) ≡ Some object.Import → IsSelected u.role

none_import : ◌≡◌ {A = Option Object} None (Some object.Import) → ⊥
none_import e = cc

not_false : (b : Bool) → b ≡ false → not b ≡ false → ⊥
not_false true e f = false_true (sym e)
not_false false e f = false_true (sym f)

role_selected : (r : Role) (w : List ℕ) → is_no_call r w ≡ false → is_other_member r w ≡ false → IsSelected r
role_selected (role.Selected last true) w e f = tt
role_selected (role.Selected last false) w e f = not_false (same_text w (codes "Println")) e f
role_selected r w e f = false_true (sym e)

one_chosen : (ms : List Meaning) (n : ℕ) (ts : TokenList) (u : Use) → is_blank (word ts u.name) ≡ false → Passes (asked ms n ts u) → IsChosen ms n ts u
one_chosen ms n ts u b h e =
    let a : Asked = asked ms n ts u in
    let same : object_asked a ≡ Some object.Import = ap (λ x. if x then None else object_by a.name a.meaning) (sym b) ∙ e in
    let import : is_import (object_asked a) ≡ true = ap is_import same in
    role_selected u.role (selected_of ts u.role) (sym (ap (λ x. x && is_no_call u.role (selected_of ts u.role)) import) ∙ h.0) (sym (ap (λ x. x && is_other_member u.role (selected_of ts u.role)) import) ∙ h.1)

each_chosen : (ms : List Meaning) (n : ℕ) (ts : TokenList) (es : List Event) → AllByRecursion Passes (asked_in ms n ts es) → EachUsed (IsChosen ms n ts) es
each_chosen ms n ts [] h = tt
each_chosen ms n ts (event.Use u ∷ es) h = by (is_blank (word ts u.name)) refl h (λ k. each_chosen ms n ts es k)
  where
    by : (b : Bool) → is_blank (word ts u.name) ≡ b → AllByRecursion Passes (if b then asked_in ms n ts es else asked ms n ts u ∷ asked_in ms n ts es) → (AllByRecursion Passes (asked_in ms n ts es) → EachUsed (IsChosen ms n ts) es)
        → EachUsed (IsChosen ms n ts) (event.Use u ∷ es)
    by true e k f = (λ q. absurd (none_import (ap (λ x. if x then None else object_by (word ts u.name) (meaning_at ms n u.name (word ts u.name))) (sym e) ∙ q)), f k)
    by false e k f = (one_chosen ms n ts u e k.0, f k.1)
each_chosen ms n ts (event.Declaration d ∷ es) h = each_chosen ms n ts es h
each_chosen ms n ts (event.Import p ∷ es) h = each_chosen ms n ts es h
each_chosen ms n ts (event.Member m g i ∷ es) h = each_chosen ms n ts es h
each_chosen ms n ts (event.Bodiless i j ∷ es) h = each_chosen ms n ts es h
each_chosen ms n ts (event.Statement i j ∷ es) h = each_chosen ms n ts es h
each_chosen ms n ts (event.Misplaced i j ∷ es) h = each_chosen ms n ts es h
each_chosen ms n ts (event.SecondDefault i ∷ es) h = each_chosen ms n ts es h

pub file_chosen : (us : List names.Unit) → reported us ≡ None → (n : ℕ) (u : names.Unit) → slice_get us n ≡ Some u → EachUsed (IsChosen (meanings us) n u.tokens) u.events
file_chosen us e n u there =
    let asks : List Asked = asked_from (meanings us) 0 us in
    let l : lookup_faults asks ≡ [] = lookups_hold us e in
    let z : 0 + n ≡ n = omega arith in
    each_chosen (meanings us) n u.tokens u.events
    (subst (λ m. AllByRecursion Passes (asked_in (meanings us) m u.tokens u.events)) z (in_file (meanings us) 0 us n u there (all_pass asks (none_uncalled asks l) (none_outside asks l))))
