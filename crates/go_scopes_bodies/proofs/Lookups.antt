-- Rules on names that are looked up, function by function: that each has a meaning, and that none stands outside of the profile.
use Rattle.std.proofs.Common.{◌≡◌, ◌∙◌, ℕ, suc, ◌+◌, ◌-◌, ◌<◌, ◌≤◌, Bool, true, false, List, [], ◌∷◌, ◌++◌, map, Option, Some, None, refl, sym, ap, subst, arith}
use Rattle.std.specs.Prelude.{if◌then◌else◌, ◌&&◌, slice_get}
use Rattle.go_tokens.specs.Tokens.{TokenList, kinds}
use Rattle.go_grammar.specs.declared.kind.Category.TheVariants as category
use Rattle.go_grammar.specs.Trees.{first, last}
use Rattle.go_tree.specs.declared.context.Block.TheVariants as block
use Rattle.go_tree.specs.declared.context.Role.{Role}
use Rattle.go_tree.specs.declared.context.Role.TheVariants as role
use Rattle.go_tree.specs.declared.event.Event.{Event}
use Rattle.go_tree.specs.declared.event.Event.TheVariants as event
use Rattle.go_tree.specs.declared.event.Use.{Use}
use Rattle.go_tree.specs.declared.object.Object.{Object}
use Rattle.go_tree.specs.declared.object.Object.TheVariants as object
use Rattle.go_tree.specs.Contexts.{file_context}
use Rattle.go_tree.specs.Failures.{place_if, of_files}
use Rattle.go_tree.specs.Lookups.{Asked, asked, asked_in, asked_from, selected_of, object_asked, lacks_meaning, undeclared, is_unknown, outside_names, is_import, is_other_member, outside_members, is_no_call, not_called}
use Rattle.go_tree.specs.Meanings.{Meaning, meanings, meaning_at}
use Rattle.go_tree.specs.Objects.{predeclared_object, object_by, object_at}
use Rattle.go_tree.specs.Units as names
use Rattle.go_tree.specs.Units.{Place, word, is_blank}
use Rattle.go_scopes_events.specs.Moved.{moved_event, moved_role, moved_use}
use Rattle.go_scopes_events.specs.Orders.{AreInOrder}
use Rattle.go_scopes_events.specs.Scopes.{otherwise}
use Rattle.go_scopes_events.proofs.Public.{IsLaidOut, derives_laid, events_order}
use Rattle.go_heads.specs.Functions.{Function, AreRead, Alone, function_alone}
use Rattle.go_heads.specs.Heads.{File}
use Rattle.go_heads.specs.Objects.{units_of}
use Rattle.go_heads.specs.Bodies.{function_events}
use Rattle.go_heads.specs.Names.{own_text}
use Rattle.go_heads.proofs.Public.{texts_at, NamesIn, ordered_names, Lies}
use Rattle.go_heads.proofs.Public as bodies
use Rattle.go_heads.specs.Locals.{AreNamed}
use Rattle.go_scopes_bodies.specs.Meant.{Outer, outer_of, own_local, own_meant, or_outside, shifted}
use Rattle.go_scopes_bodies.specs.Faults.{outer_meaning, own_selected, own_ask, asked_among, own_asked, own_undeclared, own_outside_names, own_outside_members, own_not_called, outside_asked, all_asked, outer_in}
use Rattle.go_scopes_bodies.specs.Outside.{outside_units}
use Rattle.go_scopes_bodies.proofs.Own.{there}
use Rattle.go_scopes_bodies.proofs.Asks.{asked_both}
use Rattle.go_scopes_bodies.proofs.Each.{Iff, EachOwn}
use Rattle.go_scopes_bodies.proofs.Lists.{place_both, no_place, a_place}
use Rattle.go_scopes_bodies.proofs.Rules.{EventRule, GoesAlong, IsOwnRule, told_in, rule_by_functions}
use Rattle.go_scopes_bodies.proofs.Lying.{RoleLies, AllLie, tree_lies}
use Rattle.go_scopes_bodies.proofs.Tokens as tokens

-- A rule that tests each name that is looked up by what it is for, by the last name of its selector, by whether it stands in a
-- declaration of constants, by its text and by its object, and tells declared objects not apart. It fails at a place of the name.
module _ (place : Asked → Place) (T : Role → List ℕ → Bool → List ℕ → Option Object → Bool)
    (steady : (s k : ℕ) (r : Role) (v : List ℕ) (c : Bool) (w : List ℕ) (o : Object) → T r v c w (Some (shifted s k o)) ≡ T r v c w (Some o))
    (still : (a : ℕ) (r : Role) (v : List ℕ) (c : Bool) (w : List ℕ) (o : Option Object) → T (moved_role a r) v c w o ≡ T r v c w o) where
  abbrev test : Asked → Bool
  test a = T a.it.role a.selected a.it.constant a.name (object_asked a)

  abbrev pub tested : List Asked → List Place
  tested [] = []
  tested (a ∷ asks) = place_if (test a) (place a) (tested asks)

  -- ---- along events

  tested_both : (xs ys : List Asked) → tested (xs ++ ys) ≡ tested xs ++ tested ys
  tested_both [] ys = refl
  tested_both (a ∷ xs) ys = ap (place_if (test a) (place a)) (tested_both xs ys) ∙ place_both (test a) (place a) (tested xs) (tested ys)

  module _ (ms : List Meaning) where
    abbrev pub tested_rule : EventRule
    tested_rule n l es = tested (asked_in ms n l es)

    pub tested_along : GoesAlong tested_rule
    tested_along = record { none = λ n l. refl; both = λ n l es fs. ap tested (asked_both ms n l es fs) ∙ tested_both (asked_in ms n l es) (asked_in ms n l fs) }

    by_files : (n : ℕ) (us : List names.Unit) → tested (asked_from ms n us) ≡ of_files tested_rule n us
    by_files n [] = refl
    by_files n (u ∷ us) = tested_both (asked_in ms n u.tokens u.events) (asked_from ms (suc n) us) ∙ ap (λ ps. tested (asked_in ms n u.tokens u.events) ++ ps) (by_files (suc n) us)

  -- ---- one name

  no_outer : (w : List ℕ) (m : Option Meaning) → object_by w m ≡ None → predeclared_object w ≡ None
  no_outer w None e = e
  no_outer w (Some m) e = cc

  same_lack : (s k : ℕ) (r : Role) (v : List ℕ) (c : Bool) (w : List ℕ) (l : Option Meaning) (o : Option Object) → (o ≡ None → predeclared_object w ≡ None)
      → T r v c w (there s k (or_outside l o)) ≡ T r v c w (object_by w (otherwise l (outer_meaning w o)))
  same_lack s k r v c w None None h = ap (T r v c w) (sym (h refl))
  same_lack s k r v c w None (Some o) h = refl
  same_lack s k r v c w (Some m) o h = steady s k r v c w m.object

  -- ---- a function

  -- the names that are looked up stand before the token z, and the selectors that they begin end there at the latest
  abbrev EndsIn : ℕ → Role → Type 0
  EndsIn z (role.Selected to called) = (0 < to) × (to ≤ z)
  EndsIn z r = Unit {0}

  abbrev UsesIn : ℕ → List Event → Type 0
  UsesIn z [] = Unit {0}
  UsesIn z (event.Use u ∷ es) = (u.name < z) × EndsIn z u.role × UsesIn z es
  UsesIn z (e ∷ es) = UsesIn z es

  ends_in : (a hi i : ℕ) (r : Role) → RoleLies a hi block.Package i (moved_role a r) → EndsIn (hi - a) r
  ends_in a hi i (role.Selected to called) h = (omega (arith, h.0), omega (arith, h.1))
  ends_in a hi i r h = tt

  uses_in : (a lo hi : ℕ) (es : List Event) → NamesIn lo hi (map (moved_event a) es) → AllLie a hi (map (moved_event a) es) → UsesIn (hi - a) es
  uses_in a lo hi [] h g = tt
  uses_in a lo hi (event.Use u ∷ es) h g = (omega (arith, h.1), ends_in a hi (a + u.name) u.role g.0.0, uses_in a lo hi es h.2 g.1)
  uses_in a lo hi (event.Declaration d ∷ es) h g = uses_in a lo hi es h.2 g.1
  uses_in a lo hi (event.Import i ∷ es) h g = uses_in a lo hi es h g.1
  uses_in a lo hi (event.Member m o i ∷ es) h g = uses_in a lo hi es h g.1
  uses_in a lo hi (event.Bodiless i j ∷ es) h g = uses_in a lo hi es h g.1
  uses_in a lo hi (event.Statement i j ∷ es) h g = uses_in a lo hi es h g.1
  uses_in a lo hi (event.Misplaced i j ∷ es) h g = uses_in a lo hi es h g.1
  uses_in a lo hi (event.SecondDefault i ∷ es) h g = uses_in a lo hi es h g.1

  module _ (fs : List File) (h : AreRead fs) (n : ℕ) (f : Function) (lies : Lies fs n f) where
    abbrev a : ℕ
    a = first f.tree

    abbrev l : TokenList
    l = f.file.tokens

    abbrev width : ℕ
    width = last f.tree - first f.tree

    abbrev ms : List Meaning
    ms = meanings (units_of fs)

    abbrev outer : Outer
    outer = outer_of (units_of fs) n

    abbrev by_itself : Alone
    by_itself = function_alone f

    text : (x : ℕ) → x < width → own_text by_itself x ≡ word l (a + x)
    text x lt = texts_at l a width x lt

    selected : (r : Role) → EndsIn width r → selected_of l (moved_role a r) ≡ own_selected by_itself r
    selected (role.Selected to called) h = let z : a + to - 1 ≡ a + (to - 1) = omega (arith, h.0) in ap (word l) z ∙ sym (text (to - 1) (omega (arith, h.0, h.1)))
    selected r h = refl

    module _ (u : Use) (lt : u.name < width) (ends : EndsIn width u.role) where
      abbrev w : List ℕ
      w = own_text by_itself u.name

      abbrev there_ask : Asked
      there_ask = asked ms n l (moved_use a u)

      -- a name that isn't blank fails the test there where it does by itself
      lack : is_blank w ≡ false → test there_ask ≡ test (own_ask by_itself outer u)
      lack named =
          let s : ℕ = tokens.s fs h n f lies in
          let k : ℕ = tokens.k fs h n f lies in
          let v : List ℕ = word l (a + u.name) in
          let c : Bool = u.constant in
          let r : Role = u.role in
          let last_there : List ℕ = selected_of l (moved_role a r) in
          let last_own : List ℕ = own_selected by_itself r in
          let meant : Option Object = there s k (or_outside (own_local by_itself u.name w) (outer w)) in
          let e : w ≡ v = text u.name lt in
          let open_blank : is_blank v ≡ false = ap is_blank (sym e) ∙ named in
          let here : object_at ms n (a + u.name) v ≡ object_by v (meaning_at ms n (a + u.name) v) = ap (λ b. if b then None else object_by v (meaning_at ms n (a + u.name) v)) open_blank in
          let own_there : own_meant by_itself outer u.name w ≡ or_outside (own_local by_itself u.name w) (outer w) = ap (λ b. if b then None else or_outside (own_local by_itself u.name w) (outer w)) named in
          ap (T (moved_role a r) last_there c v) (sym here ∙ tokens.name_same fs h n f lies u.name lt ∙ ap (there s k) own_there)
          ∙ still a r last_there c v meant
          ∙ ap (λ x. T r x c v meant) (selected r ends)
          ∙ ap (λ z. T r last_own c z meant) (sym e)
          ∙ same_lack s k r last_own c w (own_local by_itself u.name w) (outer w) (no_outer w _)

    abbrev InPackage : List Event → Type 0
    InPackage es = tested (asked_in ms n l (map (moved_event a) es)) ≡ []

    abbrev ByItself : List Event → Type 0
    ByItself es = tested (asked_among by_itself outer es) ≡ []

    one_to : (u : Use) (lt : u.name < width) (ends : EndsIn width u.role) (es : List Event) → (InPackage es → ByItself es) → (b c : Bool) → is_blank (word l (a + u.name)) ≡ b → is_blank (own_text by_itself u.name) ≡ c
        → tested (if b then asked_in ms n l (map (moved_event a) es) else asked ms n l (moved_use a u) ∷ asked_in ms n l (map (moved_event a) es)) ≡ []
        → tested (if c then asked_among by_itself outer es else own_ask by_itself outer u ∷ asked_among by_itself outer es) ≡ []
    one_to u lt ends es go true true x y e = go e
    one_to u lt ends es go true false x y e = let z : true ≡ false = sym x ∙ ap is_blank (sym (text u.name lt)) ∙ y in cc
    one_to u lt ends es go false true x y e = let z : false ≡ true = sym x ∙ ap is_blank (sym (text u.name lt)) ∙ y in cc
    one_to u lt ends es go false false x y e =
        let t : Asked = asked ms n l (moved_use a u) in
        let o : Asked = own_ask by_itself outer u in
        let z = no_place (test t) (place t) (tested (asked_in ms n l (map (moved_event a) es))) e in
        a_place (test o) (place o) (tested (asked_among by_itself outer es)) (sym (lack u lt ends y) ∙ z.0) (go z.1)

    one_from : (u : Use) (lt : u.name < width) (ends : EndsIn width u.role) (es : List Event) → (ByItself es → InPackage es) → (b c : Bool) → is_blank (word l (a + u.name)) ≡ b → is_blank (own_text by_itself u.name) ≡ c
        → tested (if c then asked_among by_itself outer es else own_ask by_itself outer u ∷ asked_among by_itself outer es) ≡ []
        → tested (if b then asked_in ms n l (map (moved_event a) es) else asked ms n l (moved_use a u) ∷ asked_in ms n l (map (moved_event a) es)) ≡ []
    one_from u lt ends es go true true x y e = go e
    one_from u lt ends es go true false x y e = let z : true ≡ false = sym x ∙ ap is_blank (sym (text u.name lt)) ∙ y in cc
    one_from u lt ends es go false true x y e = let z : false ≡ true = sym x ∙ ap is_blank (sym (text u.name lt)) ∙ y in cc
    one_from u lt ends es go false false x y e =
        let t : Asked = asked ms n l (moved_use a u) in
        let o : Asked = own_ask by_itself outer u in
        let z = no_place (test o) (place o) (tested (asked_among by_itself outer es)) e in
        a_place (test t) (place t) (tested (asked_in ms n l (map (moved_event a) es))) (lack u lt ends y ∙ z.0) (go z.1)

    asks_to : (es : List Event) → UsesIn width es → InPackage es → ByItself es
    asks_to [] x e = refl
    asks_to (event.Use u ∷ es) x e = one_to u x.0 x.1 es (asks_to es x.2) (is_blank (word l (a + u.name))) (is_blank (own_text by_itself u.name)) refl refl e
    asks_to (event.Declaration d ∷ es) x e = asks_to es x e
    asks_to (event.Import i ∷ es) x e = asks_to es x e
    asks_to (event.Member m g i ∷ es) x e = asks_to es x e
    asks_to (event.Bodiless i j ∷ es) x e = asks_to es x e
    asks_to (event.Statement i j ∷ es) x e = asks_to es x e
    asks_to (event.Misplaced i j ∷ es) x e = asks_to es x e
    asks_to (event.SecondDefault i ∷ es) x e = asks_to es x e

    asks_from : (es : List Event) → UsesIn width es → ByItself es → InPackage es
    asks_from [] x e = refl
    asks_from (event.Use u ∷ es) x e = one_from u x.0 x.1 es (asks_from es x.2) (is_blank (word l (a + u.name))) (is_blank (own_text by_itself u.name)) refl refl e
    asks_from (event.Declaration d ∷ es) x e = asks_from es x e
    asks_from (event.Import i ∷ es) x e = asks_from es x e
    asks_from (event.Member m g i ∷ es) x e = asks_from es x e
    asks_from (event.Bodiless i j ∷ es) x e = asks_from es x e
    asks_from (event.Statement i j ∷ es) x e = asks_from es x e
    asks_from (event.Misplaced i j ∷ es) x e = asks_from es x e
    asks_from (event.SecondDefault i ∷ es) x e = asks_from es x e

    told_same : told_in f.file f.tree ≡ map (moved_event a) (function_events by_itself)
    told_same = bodies.tell fs n f.file (tokens.read fs h n f lies) lies.there f.tree lies.stands

    used : UsesIn width (function_events by_itself)
    used =
        let laid : IsLaidOut f.tree = derives_laid (kinds l.tokens) f.tree category.Declaration lies.stands.sits.derives in
        let o : AreInOrder a (last f.tree) (told_in f.file f.tree) = events_order (file_context (last f.file.tree)) f.tree laid in
        let lie : AllLie a (last f.tree) (told_in f.file f.tree) = tree_lies a (last f.tree) (file_context (last f.file.tree)) f.tree laid (omega arith) (omega arith) tt tt tt (tt, tt, tt) in
        uses_in a a (last f.tree) (function_events by_itself) (subst (NamesIn a (last f.tree)) told_same (ordered_names a a (last f.tree) (told_in f.file f.tree) (omega arith) o)) (subst (AllLie a (last f.tree)) told_same lie)

    pub tested_own : Iff (tested_rule ms n l (told_in f.file f.tree) ≡ []) (tested (own_asked by_itself outer) ≡ [])
    tested_own = record {
      to = λ e. asks_to (function_events by_itself) used (ap (tested_rule ms n l) (sym told_same) ∙ e);
      from = λ e. ap (tested_rule ms n l) told_same ∙ asks_from (function_events by_itself) used e;
    }

  -- ---- a package

  -- No name of a function fails the test, by itself.
  abbrev pub Passes : List File → ℕ → Function → Type 0
  Passes fs n f = tested (own_asked (function_alone f) (outer_of (units_of fs) n)) ≡ []

  pub tested_by_functions : (fs : List File) → AreRead fs → AreNamed fs → Iff (tested (all_asked fs) ≡ []) ((tested (outside_asked fs) ≡ []) × EachOwn (Passes fs) 0 fs)
  tested_by_functions fs h g =
      let ms : List Meaning = meanings (units_of fs) in
      let law = rule_by_functions fs (tested_rule ms) (tested_along ms) (Passes fs) own_rule 0 fs (λ k. let z : 0 + k ≡ k = omega arith in ap (slice_get fs) z) h g in
      record {
        to = λ e. let x = law.to (sym (by_files ms 0 (units_of fs)) ∙ e) in (by_files ms 0 (outside_units fs) ∙ x.0, x.1);
        from = λ e. by_files ms 0 (units_of fs) ∙ law.from (sym (by_files ms 0 (outside_units fs)) ∙ e.0, e.1);
      }
    where
      own_rule : IsOwnRule fs (tested_rule (meanings (units_of fs))) (tested_along (meanings (units_of fs))) (Passes fs)
      own_rule n f r s t stands named = tested_own fs h n (record { file = f; tree = t }) (record { there = s; stands = stands; named = named })

-- ---- the rules

same_class : (s k : ℕ) (r : Role) (v : List ℕ) (c : Bool) (w : List ℕ) (o : Object) → lacks_meaning c w (Some (shifted s k o)) ≡ lacks_meaning c w (Some o)
same_class s k r v c w (object.Package n) = refl
same_class s k r v c w (object.Local f n) = refl
same_class s k r v c w o = refl

-- Each name of a function has a meaning, by itself.
abbrev pub HasMeanings : List File → ℕ → Function → Type 0
HasMeanings fs n f = own_undeclared (function_alone f) (outer_in fs n) ≡ []

pub undeclared_by_functions : (fs : List File) → AreRead fs → AreNamed fs → Iff (undeclared (all_asked fs) ≡ []) ((undeclared (outside_asked fs) ≡ []) × EachOwn (HasMeanings fs) 0 fs)
undeclared_by_functions = tested_by_functions (λ a. a.place) (λ r v c w o. lacks_meaning c w o) same_class (λ a r v c w o. refl)

-- No name of a function is one outside of the profile, by itself.
abbrev pub IsWithin : List File → ℕ → Function → Type 0
IsWithin fs n f = own_outside_names (function_alone f) (outer_in fs n) ≡ []

pub outside_names_by_functions : (fs : List File) → AreRead fs → AreNamed fs → Iff (outside_names (all_asked fs) ≡ []) ((outside_names (outside_asked fs) ≡ []) × EachOwn (IsWithin fs) 0 fs)
outside_names_by_functions = tested_by_functions (λ a. a.place) (λ r v c w o. is_unknown w o) (λ s k r v c w o. refl) (λ a r v c w o. refl)

-- a declared object is no import
pub same_import : (s k : ℕ) (o : Object) → is_import (Some (shifted s k o)) ≡ is_import (Some o)
same_import s k (object.Package n) = refl
same_import s k (object.Local f n) = refl
same_import s k o = refl

-- the roles elsewhere
other_member : (a : ℕ) (r : Role) (v : List ℕ) → is_other_member (moved_role a r) v ≡ is_other_member r v
other_member a (role.Selected to called) v = refl
other_member a r v = refl

no_call : (a : ℕ) (r : Role) (v : List ℕ) → is_no_call (moved_role a r) v ≡ is_no_call r v
no_call a (role.Selected to true) v = refl
no_call a (role.Selected to false) v = refl
no_call a r v = refl

-- A function names no member of an import that is outside of the profile, by itself.
abbrev pub HasMembers : List File → ℕ → Function → Type 0
HasMembers fs n f = own_outside_members (function_alone f) (outer_in fs n) ≡ []

pub outside_members_by_functions : (fs : List File) → AreRead fs → AreNamed fs → Iff (outside_members (all_asked fs) ≡ []) ((outside_members (outside_asked fs) ≡ []) × EachOwn (HasMembers fs) 0 fs)
outside_members_by_functions =
    tested_by_functions (λ a. a.whole) (λ r v c w o. is_import o && is_other_member r v) (λ s k r v c w o. ap (λ b. b && is_other_member r v) (same_import s k o))
    (λ a r v c w o. ap (λ b. is_import o && b) (other_member a r v))

-- A function calls each member of an import that it names, by itself.
abbrev pub Calls : List File → ℕ → Function → Type 0
Calls fs n f = own_not_called (function_alone f) (outer_in fs n) ≡ []

pub not_called_by_functions : (fs : List File) → AreRead fs → AreNamed fs → Iff (not_called (all_asked fs) ≡ []) ((not_called (outside_asked fs) ≡ []) × EachOwn (Calls fs) 0 fs)
not_called_by_functions =
    tested_by_functions (λ a. a.whole) (λ r v c w o. is_import o && is_no_call r v) (λ s k r v c w o. ap (λ b. b && is_no_call r v) (same_import s k o))
    (λ a r v c w o. ap (λ b. is_import o && b) (no_call a r v))
