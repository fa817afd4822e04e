-- The names that are looked up where a function is put in, and the rules on them.
use Rattle.std.proofs.Common.{◌≡◌, ℕ, suc, ◌+◌, ◌-◌, ◌<◌, ◌≤◌, Bool, true, false, ◌&&◌, ◌||◌, not, List, [], ◌∷◌, ◌++◌, length, map, Option, Some, None, refl, sym, ap, subst, ◌∙◌, append_assoc, arith}
use Rattle.std.specs.Prelude.{if◌then◌else◌, nat_eq}
use Rattle.std.specs.Option.{option_map}
use Rattle.std.specs.List.{AllByRecursion}
use Rattle.std.proofs.lemmas.Bool.Decides.{nat_tests}
use Rattle.go_tokens.specs.Spellings.{same_text}
use Rattle.go_tokens.specs.Tokens.{TokenList}
use Rattle.go_tree.specs.declared.context.Role.{Role}
use Rattle.go_tree.specs.declared.context.Role.TheVariants as role
use Rattle.go_tree.specs.declared.event.Event.{Event}
use Rattle.go_tree.specs.declared.event.Event.TheVariants as event
use Rattle.go_tree.specs.declared.event.Use.{Use}
use Rattle.go_tree.specs.declared.object.Object.{Object}
use Rattle.go_tree.specs.declared.object.Object.TheVariants as object
use Rattle.go_tree.specs.declared.object.Predeclared.{Predeclared}
use Rattle.go_tree.specs.declared.object.Predeclared.TheVariants as predeclared
use Rattle.go_tree.specs.Declarations.{Found}
use Rattle.go_tree.specs.Lookups.{Asked, asked, asked_in, asked_from, selected_of, object_asked, lacks_meaning, undeclared, is_unknown, outside_names, is_other_member, is_import, outside_members, is_no_call, not_called, is_initial_source, is_initial, initialisers, is_assigned, means, is_used, uses_import}
use Rattle.go_tree.specs.Meanings.{Meaning, meaning_at}
use Rattle.go_tree.specs.Objects.{known_object, object_by, is_declared_at}
use Rattle.go_tree.specs.Predeclared.{known_names, known_in}
use Rattle.go_tree.specs.Units.{Unit, word, is_blank}
use Rattle.go_heads_added.specs.Added.{Gap, shifted, reaching, longer, Stands}
use Rattle.go_heads_added.specs.Within.{RoleWithin, EventWithin}
use Rattle.go_heads_added.proofs.Files.{test_false, rest_none, none_there}
use Rattle.go_heads_added.proofs.Meant.{meant_as_before}
use Rattle.go_heads_added.proofs.Numbers.{moved}
use Rattle.go_heads_added.proofs.Objects.{were, are, AreAside}
use Rattle.go_heads_added.proofs.Texts.{Says, all_both, all_front, all_behind}

or_assoc : (a b c : Bool) → (a || (b || c)) ≡ ((a || b) || c)
or_assoc true b c = refl
or_assoc false b c = refl

module _ (k end : ℕ) (g : Gap) where
  -- A name that is looked up is looked up as before, and has its meaning by new numbers.
  pub record Moved (a b : Asked) : Type 0 where
    pub it : b.it ≡ a.it
    pub file : b.file ≡ a.file
    pub name : b.name ≡ a.name
    pub selected : b.selected ≡ a.selected
    pub meaning : b.meaning ≡ option_map (moved k end g) a.meaning

  abbrev pub AreMoved : List Asked → List Asked → Type 0
  AreMoved [] [] = Prim.Unit {0}
  AreMoved [] (b ∷ bs) = ⊥
  AreMoved (a ∷ os) [] = ⊥
  AreMoved (a ∷ os) (b ∷ bs) = Moved a b × AreMoved os bs

  pub moved_both : (os bs cs ds : List Asked) → AreMoved os bs → AreMoved cs ds → AreMoved (os ++ cs) (bs ++ ds)
  moved_both [] [] cs ds h f = f
  moved_both [] (b ∷ bs) cs ds h f = absurd h
  moved_both (a ∷ os) [] cs ds h f = absurd h
  moved_both (a ∷ os) (b ∷ bs) cs ds h f = (h.0, moved_both os bs cs ds h.1 f)

  pub moved_all : (P : Asked → Type 0) → ((a b : Asked) → Moved a b → P a → P b) → (os bs : List Asked) → AreMoved os bs → AllByRecursion P os → AllByRecursion P bs
  moved_all P f [] [] h q = tt
  moved_all P f [] (b ∷ bs) h q = absurd h
  moved_all P f (a ∷ os) [] h q = absurd h
  moved_all P f (a ∷ os) (b ∷ bs) h q = (f a b h.0 q.0, moved_all P f os bs h.1 q.1)

  -- The names that are looked up are those that were, with others between.
  pub record AsksFollow (mid os bs : List Asked) : Type 0 where
    pub first : List Asked
    pub second : List Asked
    pub first_new : List Asked
    pub second_new : List Asked
    pub was : os ≡ first ++ second
    pub is : bs ≡ first_new ++ (mid ++ second_new)
    pub front : AreMoved first first_new
    pub rest : AreMoved second second_new

  pub follow_all : (P : Asked → Type 0) → ((a b : Asked) → Moved a b → P a → P b) → (mid os bs : List Asked) → AsksFollow mid os bs → AllByRecursion P mid → AllByRecursion P os → AllByRecursion P bs
  follow_all P f mid os bs h q w =
      let v = subst (AllByRecursion P) h.was w in
      subst (AllByRecursion P) (sym h.is)
      (all_both P h.first_new (mid ++ h.second_new) (moved_all P f h.first h.first_new h.front (all_front P h.first h.second v))
      (all_both P mid h.second_new q (moved_all P f h.second h.second_new h.rest (all_behind P h.first h.second v))))

  -- ---- objects

  known_same : (p : Option Predeclared) → known_object p ≡ option_map (shifted g) (known_object p)
  known_same None = refl
  known_same (Some p) = refl

  by_same : (w : List ℕ) (o : Option Meaning) → object_by w (option_map (moved k end g) o) ≡ option_map (shifted g) (object_by w o)
  by_same w None = known_same (known_in known_names w)
  by_same w (Some m) = refl

  pub object_same : (a b : Asked) → Moved a b → object_asked b ≡ option_map (shifted g) (object_asked a)
  object_same a b h = ap (λ w. object_by w b.meaning) h.name ∙ ap (object_by a.name) h.meaning ∙ by_same a.name a.meaning

  pub lacks_same : (c : Bool) (w : List ℕ) (o : Option Object) → lacks_meaning c w (option_map (shifted g) o) ≡ lacks_meaning c w o
  lacks_same c w None = refl
  lacks_same c w (Some (object.Predeclared predeclared.Iota)) = refl
  lacks_same c w (Some (object.Predeclared p)) = refl
  lacks_same c w (Some (object.Package m)) = refl
  lacks_same c w (Some (object.Local i m)) = refl
  lacks_same c w (Some object.Import) = refl

  pub unknown_same : (w : List ℕ) (o : Option Object) → is_unknown w (option_map (shifted g) o) ≡ is_unknown w o
  unknown_same w None = refl
  unknown_same w (Some o) = refl

  import_same : (o : Option Object) → is_import (option_map (shifted g) o) ≡ is_import o
  import_same None = refl
  import_same (Some object.Import) = refl
  import_same (Some (object.Predeclared p)) = refl
  import_same (Some (object.Package m)) = refl
  import_same (Some (object.Local i m)) = refl

  source_initial : (o : Option Found) → is_initial_source (option_map (longer k end) o) ≡ is_initial_source o
  source_initial None = refl
  source_initial (Some d) = refl

  pub initial_same : (o : Option Meaning) → is_initial (option_map (moved k end g) o) ≡ is_initial o
  initial_same None = refl
  initial_same (Some m) = source_initial m.source

  -- ---- rules on names

  abbrev Declares : Asked → Type 0
  Declares a = lacks_meaning a.it.constant a.name (object_asked a) ≡ false

  all_declared : (os : List Asked) → undeclared os ≡ [] → AllByRecursion Declares os
  all_declared [] e = tt
  all_declared (a ∷ os) e = let x = lacks_meaning a.it.constant a.name (object_asked a) in (test_false x a.place (undeclared os) e, all_declared os (rest_none x a.place (undeclared os) e))

  declared_none : (os : List Asked) → AllByRecursion Declares os → undeclared os ≡ []
  declared_none [] h = refl
  declared_none (a ∷ os) h = none_there (lacks_meaning a.it.constant a.name (object_asked a)) a.place (undeclared os) h.0 (declared_none os h.1)

  declared_moved : (a b : Asked) → Moved a b → Declares a → Declares b
  declared_moved a b h e =
      ap (λ (u : Use). lacks_meaning u.constant b.name (object_asked b)) h.it ∙ ap (λ w. lacks_meaning a.it.constant w (object_asked b)) h.name ∙ ap (lacks_meaning a.it.constant a.name) (object_same a b h)
      ∙ lacks_same a.it.constant a.name (object_asked a) ∙ e

  abbrev Known : Asked → Type 0
  Known a = is_unknown a.name (object_asked a) ≡ false

  all_known : (os : List Asked) → outside_names os ≡ [] → AllByRecursion Known os
  all_known [] e = tt
  all_known (a ∷ os) e = let x = is_unknown a.name (object_asked a) in (test_false x a.place (outside_names os) e, all_known os (rest_none x a.place (outside_names os) e))

  known_none : (os : List Asked) → AllByRecursion Known os → outside_names os ≡ []
  known_none [] h = refl
  known_none (a ∷ os) h = none_there (is_unknown a.name (object_asked a)) a.place (outside_names os) h.0 (known_none os h.1)

  known_moved : (a b : Asked) → Moved a b → Known a → Known b
  known_moved a b h e = ap (λ w. is_unknown w (object_asked b)) h.name ∙ ap (is_unknown a.name) (object_same a b h) ∙ unknown_same a.name (object_asked a) ∙ e

  abbrev IsMember : Asked → Type 0
  IsMember a = (is_import (object_asked a) && is_other_member a.it.role a.selected) ≡ false

  all_members : (os : List Asked) → outside_members os ≡ [] → AllByRecursion IsMember os
  all_members [] e = tt
  all_members (a ∷ os) e = let x = is_import (object_asked a) && is_other_member a.it.role a.selected in (test_false x a.whole (outside_members os) e, all_members os (rest_none x a.whole (outside_members os) e))

  members_none : (os : List Asked) → AllByRecursion IsMember os → outside_members os ≡ []
  members_none [] h = refl
  members_none (a ∷ os) h = none_there (is_import (object_asked a) && is_other_member a.it.role a.selected) a.whole (outside_members os) h.0 (members_none os h.1)

  pub imports_moved : (a b : Asked) → Moved a b → is_import (object_asked b) ≡ is_import (object_asked a)
  imports_moved a b h = ap is_import (object_same a b h) ∙ import_same (object_asked a)

  member_moved : (a b : Asked) → Moved a b → IsMember a → IsMember b
  member_moved a b h e =
      ap (λ x. x && is_other_member b.it.role b.selected) (imports_moved a b h) ∙ ap (λ (u : Use). is_import (object_asked a) && is_other_member u.role b.selected) h.it
      ∙ ap (λ w. is_import (object_asked a) && is_other_member a.it.role w) h.selected ∙ e

  abbrev IsCalled : Asked → Type 0
  IsCalled a = (is_import (object_asked a) && is_no_call a.it.role a.selected) ≡ false

  all_called : (os : List Asked) → not_called os ≡ [] → AllByRecursion IsCalled os
  all_called [] e = tt
  all_called (a ∷ os) e = let x = is_import (object_asked a) && is_no_call a.it.role a.selected in (test_false x a.whole (not_called os) e, all_called os (rest_none x a.whole (not_called os) e))

  called_none : (os : List Asked) → AllByRecursion IsCalled os → not_called os ≡ []
  called_none [] h = refl
  called_none (a ∷ os) h = none_there (is_import (object_asked a) && is_no_call a.it.role a.selected) a.whole (not_called os) h.0 (called_none os h.1)

  called_moved : (a b : Asked) → Moved a b → IsCalled a → IsCalled b
  called_moved a b h e =
      ap (λ x. x && is_no_call b.it.role b.selected) (imports_moved a b h) ∙ ap (λ (u : Use). is_import (object_asked a) && is_no_call u.role b.selected) h.it
      ∙ ap (λ w. is_import (object_asked a) && is_no_call a.it.role w) h.selected ∙ e

  abbrev IsLater : Asked → Type 0
  IsLater a = (a.it.initial && is_initial a.meaning) ≡ false

  all_later : (os : List Asked) → initialisers os ≡ [] → AllByRecursion IsLater os
  all_later [] e = tt
  all_later (a ∷ os) e = let x = a.it.initial && is_initial a.meaning in (test_false x a.place (initialisers os) e, all_later os (rest_none x a.place (initialisers os) e))

  later_none : (os : List Asked) → AllByRecursion IsLater os → initialisers os ≡ []
  later_none [] h = refl
  later_none (a ∷ os) h = none_there (a.it.initial && is_initial a.meaning) a.place (initialisers os) h.0 (later_none os h.1)

  later_moved : (a b : Asked) → Moved a b → IsLater a → IsLater b
  later_moved a b h e =
      ap (λ (u : Use). u.initial && is_initial b.meaning) h.it ∙ ap (λ m. a.it.initial && is_initial m) h.meaning ∙ ap (λ x. a.it.initial && x) (initial_same a.meaning) ∙ e

  module _ (mid os bs : List Asked) (h : AsksFollow mid os bs) where
    pub undeclared_none : undeclared mid ≡ [] → undeclared os ≡ [] → undeclared bs ≡ []
    undeclared_none m e = declared_none bs (follow_all Declares declared_moved mid os bs h (all_declared mid m) (all_declared os e))

    pub names_none : outside_names mid ≡ [] → outside_names os ≡ [] → outside_names bs ≡ []
    names_none m e = known_none bs (follow_all Known known_moved mid os bs h (all_known mid m) (all_known os e))

    pub selected_none : outside_members mid ≡ [] → outside_members os ≡ [] → outside_members bs ≡ []
    selected_none m e = members_none bs (follow_all IsMember member_moved mid os bs h (all_members mid m) (all_members os e))

    pub calls_none : not_called mid ≡ [] → not_called os ≡ [] → not_called bs ≡ []
    calls_none m e = called_none bs (follow_all IsCalled called_moved mid os bs h (all_called mid m) (all_called os e))

    pub initials_none : initialisers mid ≡ [] → initialisers os ≡ [] → initialisers bs ≡ []
    initials_none m e = later_none bs (follow_all IsLater later_moved mid os bs h (all_later mid m) (all_later os e))

  -- ---- what is used

  pub used_append : (d : Found) (xs ys : List Asked) → is_used d (xs ++ ys) ≡ (is_used d xs || is_used d ys)
  used_append d [] ys = refl
  used_append d (x ∷ xs) ys =
      ap (λ b. (means d x.meaning && not (is_assigned x.it.role)) || b) (used_append d xs ys) ∙ or_assoc (means d x.meaning && not (is_assigned x.it.role)) (is_used d xs) (is_used d ys)

  means_source : (d : Found) (o : Option Found) → is_declared_at d.file d.it.name (option_map (longer k end) o) ≡ is_declared_at d.file d.it.name o
  means_source d None = refl
  means_source d (Some x) = refl

  pub means_same : (d : Found) (o : Option Meaning) → means (longer k end d) (option_map (moved k end g) o) ≡ means d o
  means_same d None = refl
  means_same d (Some m) = means_source d m.source

  pub used_moved : (d : Found) (os bs : List Asked) → AreMoved os bs → is_used (longer k end d) bs ≡ is_used d os
  used_moved d [] [] h = refl
  used_moved d [] (b ∷ bs) h = absurd h
  used_moved d (a ∷ os) [] h = absurd h
  used_moved d (a ∷ os) (b ∷ bs) h =
      ap (λ x. (means (longer k end d) b.meaning && not (is_assigned b.it.role)) || x) (used_moved d os bs h.1)
      ∙ ap (λ (u : Use). (means (longer k end d) b.meaning && not (is_assigned u.role)) || is_used d os) h.0.it
      ∙ ap (λ m. (means (longer k end d) m && not (is_assigned a.it.role)) || is_used d os) h.0.meaning
      ∙ ap (λ x. (x && not (is_assigned a.it.role)) || is_used d os) (means_same d a.meaning)

  between : (a b c : Bool) → (a || c) ≡ true → (a || (b || c)) ≡ true
  between true b c e = refl
  between false true c e = refl
  between false false c e = e

  pub still_used : (d : Found) (mid os bs : List Asked) → AsksFollow mid os bs → is_used d os ≡ true → is_used (longer k end d) bs ≡ true
  still_used d mid os bs h e =
      let l = longer k end d in
      ap (is_used l) h.is ∙ used_append l h.first_new (mid ++ h.second_new) ∙ ap (λ x. is_used l h.first_new || x) (used_append l mid h.second_new)
      ∙ between (is_used l h.first_new) (is_used l mid) (is_used l h.second_new)
      (ap (λ x. x || is_used l h.second_new) (used_moved d h.first h.first_new h.front) ∙ ap (λ x. is_used d h.first || x) (used_moved d h.second h.second_new h.rest)
      ∙ sym (used_append d h.first h.second) ∙ ap (is_used d) (sym h.was) ∙ e)

  pub uses_append : (m : ℕ) (xs ys : List Asked) → uses_import m (xs ++ ys) ≡ (uses_import m xs || uses_import m ys)
  uses_append m [] ys = refl
  uses_append m (x ∷ xs) ys = ap (λ b. (nat_eq x.file m && is_import (object_asked x)) || b) (uses_append m xs ys) ∙ or_assoc (nat_eq x.file m && is_import (object_asked x)) (uses_import m xs) (uses_import m ys)

  pub uses_moved : (m : ℕ) (os bs : List Asked) → AreMoved os bs → uses_import m bs ≡ uses_import m os
  uses_moved m [] [] h = refl
  uses_moved m [] (b ∷ bs) h = absurd h
  uses_moved m (a ∷ os) [] h = absurd h
  uses_moved m (a ∷ os) (b ∷ bs) h =
      ap (λ x. (nat_eq b.file m && is_import (object_asked b)) || x) (uses_moved m os bs h.1)
      ∙ ap (λ f. (nat_eq f m && is_import (object_asked b)) || uses_import m os) h.0.file ∙ ap (λ x. (nat_eq a.file m && x) || uses_import m os) (imports_moved a b h.0)

  pub still_imported : (m : ℕ) (mid os bs : List Asked) → AsksFollow mid os bs → uses_import m os ≡ true → uses_import m bs ≡ true
  still_imported m mid os bs h e =
      ap (uses_import m) h.is ∙ uses_append m h.first_new (mid ++ h.second_new) ∙ ap (λ x. uses_import m h.first_new || x) (uses_append m mid h.second_new)
      ∙ between (uses_import m h.first_new) (uses_import m mid) (uses_import m h.second_new)
      (ap (λ x. x || uses_import m h.second_new) (uses_moved m h.first h.first_new h.front) ∙ ap (λ x. uses_import m h.first || x) (uses_moved m h.second h.second_new h.rest)
      ∙ sym (uses_append m h.first h.second) ∙ ap (uses_import m) (sym h.was) ∙ e)

-- ---- the names themselves

module _ (k n : ℕ) (name : List ℕ) (end : ℕ) (g : Gap) (xs ds ys : List Meaning) (a : AreAside k n name end g xs ds ys) where
  abbrev old : List Meaning
  old = were k n name end g xs ds ys

  abbrev new : List Meaning
  new = are k n name end g xs ds ys

  pub meaning_moved : (m t : ℕ) (w : List ℕ) → Stands k n m t → same_text name w ≡ false → meaning_at new m t w ≡ option_map (moved k end g) (meaning_at old m t w)
  meaning_moved m t w s q = meant_as_before (moved k end g) (record { name = λ x. refl; extent = λ x. refl }) m t w xs ds ys (a.aside m t w s q)

  -- a file that is as it was
  other_asks : (m : ℕ) (ts : TokenList) (es : List Event) → nat_eq m k ≡ false → ((t : ℕ) → same_text name (word ts t) ≡ false) → AreMoved k end g (asked_in old m ts es) (asked_in new m ts es)
  other_asks m ts [] o q = tt
  other_asks m ts (event.Use u ∷ es) o q = by (is_blank (word ts u.name)) (other_asks m ts es o q)
    where
      stands : Stands k n m u.name
      stands e = absurd (no (sym o ∙ e))
        where
          no : false ≡ true → ⊥
          no z = cc

      by : (b : Bool) → AreMoved k end g (asked_in old m ts es) (asked_in new m ts es)
          → AreMoved k end g (if b then asked_in old m ts es else asked old m ts u ∷ asked_in old m ts es) (if b then asked_in new m ts es else asked new m ts u ∷ asked_in new m ts es)
      by true f = f
      by false f = (record { it = refl; file = refl; name = refl; selected = refl; meaning = meaning_moved m u.name (word ts u.name) stands (q u.name) }, f)
  other_asks m ts (e ∷ es) o q = other_asks m ts es o q

  -- the file that is longer
  pub selected_same : (ts us : TokenList) (r : Role) → ((t : ℕ) → t < n → word us t ≡ word ts t) → 0 < n → RoleWithin n r → selected_of us r ≡ selected_of ts r
  selected_same ts us (role.Selected last called) w l h = w (last - 1) (omega (arith, l, h))
  selected_same ts us r w l h = refl

  own_asks : (ts us : TokenList) (es : List Event) → ((t : ℕ) → t < n → word us t ≡ word ts t) → ((t : ℕ) → same_text name (word ts t) ≡ false) → AllByRecursion (EventWithin n) es
      → AreMoved k end g (asked_in old k ts es) (asked_in new k us (map (reaching end) es))
  own_asks ts us [] w q h = tt
  own_asks ts us (event.Use u ∷ es) w q h =
      subst (λ v. AreMoved k end g (if is_blank (word ts u.name) then asked_in old k ts es else asked old k ts u ∷ asked_in old k ts es) (if is_blank v then asked_in new k us (map (reaching end) es) else asked new k us u ∷ asked_in new k us (map (reaching end) es)))
      (sym (w u.name h.0.0)) (by (is_blank (word ts u.name)) (own_asks ts us es w q h.1))
    where
      below : u.name < n
      below = h.0.0

      by : (b : Bool) → AreMoved k end g (asked_in old k ts es) (asked_in new k us (map (reaching end) es))
          → AreMoved k end g (if b then asked_in old k ts es else asked old k ts u ∷ asked_in old k ts es) (if b then asked_in new k us (map (reaching end) es) else asked new k us u ∷ asked_in new k us (map (reaching end) es))
      by true f = f
      by false f = (
        record {
          it = refl;
          file = refl;
          name = w u.name below;
          selected = selected_same ts us u.role w (omega (arith, below)) h.0.1;
          meaning = ap (meaning_at new k u.name) (w u.name below) ∙ meaning_moved k u.name (word ts u.name) (λ z. below) (q u.name);
        },
        f,
      )
  own_asks ts us (e ∷ es) w q h = own_asks ts us es w q h.1

  pub in_append : (ms : List Meaning) (m : ℕ) (ts : TokenList) (es fs : List Event) → asked_in ms m ts (es ++ fs) ≡ asked_in ms m ts es ++ asked_in ms m ts fs
  in_append ms m ts [] fs = refl
  in_append ms m ts (event.Use u ∷ es) fs = by (is_blank (word ts u.name)) (in_append ms m ts es fs)
    where
      by : (b : Bool) → asked_in ms m ts (es ++ fs) ≡ asked_in ms m ts es ++ asked_in ms m ts fs
          → (if b then asked_in ms m ts (es ++ fs) else asked ms m ts u ∷ asked_in ms m ts (es ++ fs)) ≡ (if b then asked_in ms m ts es else asked ms m ts u ∷ asked_in ms m ts es) ++ asked_in ms m ts fs
      by true e = e
      by false e = ap (λ l. asked ms m ts u ∷ l) e
  in_append ms m ts (e ∷ es) fs = in_append ms m ts es fs

  -- files in front of it, and behind it
  files_before : (m : ℕ) (us : List Unit) → m + length us ≤ k → AllByRecursion (Says name) us → AreMoved k end g (asked_from old m us) (asked_from new m us)
  files_before m [] l q = tt
  files_before m (u ∷ us) l q =
      moved_both k end g (asked_in old m u.tokens u.events) (asked_in new m u.tokens u.events) (asked_from old (suc m) us) (asked_from new (suc m) us)
      (other_asks m u.tokens u.events (grind (arith, nat_tests)) q.0) (files_before (suc m) us (omega (arith, l)) q.1)

  files_behind : (m : ℕ) (us : List Unit) → k < m → AllByRecursion (Says name) us → AreMoved k end g (asked_from old m us) (asked_from new m us)
  files_behind m [] l q = tt
  files_behind m (u ∷ us) l q =
      moved_both k end g (asked_in old m u.tokens u.events) (asked_in new m u.tokens u.events) (asked_from old (suc m) us) (asked_from new (suc m) us)
      (other_asks m u.tokens u.events (grind (arith, nat_tests)) q.0) (files_behind (suc m) us (omega (arith, l)) q.1)

  pub from_append : (ms : List Meaning) (m j : ℕ) (us vs : List Unit) → j ≡ m + length us → asked_from ms m (us ++ vs) ≡ asked_from ms m us ++ asked_from ms j vs
  from_append ms m j [] vs e = ap (λ i. asked_from ms i vs) (let z : m ≡ j = omega (arith, e) in z)
  from_append ms m j (u ∷ us) vs e =
      ap (λ l. asked_in ms m u.tokens u.events ++ l) (from_append ms (suc m) j us vs (omega (arith, e)))
      ∙ sym (append_assoc (asked_in ms m u.tokens u.events) (asked_from ms (suc m) us) (asked_from ms j vs))

  -- what is looked up in the package
  pub asks_follow : (before : List Unit) (u v : Unit) (rest : List Unit) (added : List Event) → length before ≡ k → v.events ≡ map (reaching end) u.events ++ added → ((t : ℕ) → t < n → word v.tokens t ≡ word u.tokens t)
      → AllByRecursion (EventWithin n) u.events → AllByRecursion (Says name) (before ++ u ∷ rest)
      → AsksFollow k end g (asked_in new k v.tokens added) (asked_from old 0 (before ++ u ∷ rest)) (asked_from new 0 (before ++ v ∷ rest))
  asks_follow before u v rest added p e w i q =
      let own = asked_in new k v.tokens (map (reaching end) u.events) in
      let mid = asked_in new k v.tokens added in
      let later = all_behind (Says name) before (u ∷ rest) q in
      record {
        first = asked_from old 0 before ++ asked_in old k u.tokens u.events;
        second = asked_from old (suc k) rest;
        first_new = asked_from new 0 before ++ own;
        second_new = asked_from new (suc k) rest;
        was = from_append old 0 k before (u ∷ rest) (omega (arith, p)) ∙ sym (append_assoc (asked_from old 0 before) (asked_in old k u.tokens u.events) (asked_from old (suc k) rest));
        is =
            from_append new 0 k before (v ∷ rest) (omega (arith, p))
            ∙ ap (λ l. asked_from new 0 before ++ (l ++ asked_from new (suc k) rest)) (ap (asked_in new k v.tokens) e ∙ in_append new k v.tokens (map (reaching end) u.events) added)
            ∙ ap (λ l. asked_from new 0 before ++ l) (append_assoc own mid (asked_from new (suc k) rest)) ∙ sym (append_assoc (asked_from new 0 before) own (mid ++ asked_from new (suc k) rest));
        front = moved_both k end g (asked_from old 0 before) (asked_from new 0 before) (asked_in old k u.tokens u.events) own
            (files_before 0 before (omega (arith, p)) (all_front (Says name) before (u ∷ rest) q)) (own_asks u.tokens v.tokens u.events w later.0 i);
        rest = files_behind (suc k) rest (omega arith) later.1;
      }
