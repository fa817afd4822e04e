-- The rules on names that are looked up fail at the same places where a function is put in at which none fails.
use Rattle.std.proofs.Common.{◌≡◌, ◌∙◌, ℕ, suc, ◌+◌, ◌-◌, ◌<◌, ◌≤◌, Bool, true, false, ◌&&◌, ◌||◌, List, [], ◌∷◌, ◌++◌, length, map, refl, sym, ap, subst, append_assoc, arith}
use Rattle.std.specs.Prelude.{if◌then◌else◌, nat_eq}
use Rattle.std.specs.List.{AllByRecursion}
use Rattle.std.proofs.lemmas.Bool.Decides.{nat_tests}
use Rattle.go_base.specs.declared.fault.FaultCode.TheVariants as code
use Rattle.go_tokens.specs.Spellings.{same_text}
use Rattle.go_tokens.specs.Tokens.{TokenList}
use Rattle.go_tree.specs.declared.context.Role.{Role}
use Rattle.go_tree.specs.declared.context.Role.TheVariants as role
use Rattle.go_tree.specs.declared.event.Event.{Event}
use Rattle.go_tree.specs.declared.event.Event.TheVariants as event
use Rattle.go_tree.specs.declared.event.Use.{Use}
use Rattle.go_tree.specs.Declarations.{Found}
use Rattle.go_tree.specs.Failures.{Failure, failing, place_if}
use Rattle.go_tree.specs.Faults.{lookup_faults}
use Rattle.go_tree.specs.Lookups.{Asked, asked, asked_in, asked_from, whole_of, object_asked, lacks_meaning, undeclared, is_unknown, outside_names, is_other_member}
use Rattle.go_tree.specs.Lookups.{is_import, outside_members, is_no_call, not_called, is_initial, initialisers, is_used, uses_import}
use Rattle.go_tree.specs.Meanings.{Meaning, meaning_at}
use Rattle.go_tree.specs.Units.{Unit, Place, word, is_blank}
use Rattle.go_heads_added.specs.Added.{Gap, reaching, longer, Stands}
use Rattle.go_heads_added.specs.Reported.{KeepsBytes}
use Rattle.go_heads_added.specs.Within.{RoleWithin, EventWithin}
use Rattle.go_heads_added.proofs.Asks.{Moved, AsksFollow, from_append, imports_moved, in_append, initial_same, lacks_same, meaning_moved, object_same, selected_same, unknown_same, used_append, used_moved, uses_append, uses_moved}
use Rattle.go_heads_added.proofs.Files.{failing_none, rest_none, test_false}
use Rattle.go_heads_added.proofs.Numbers.{moved}
use Rattle.go_heads_added.proofs.Objects.{were, are, AreAside}
use Rattle.go_heads_added.proofs.SameInFiles.{placed_same}
use Rattle.go_heads_added.proofs.Texts.{Says, all_front, all_behind}

module _ (k end : ℕ) (g : Gap) where
  -- A name is looked up as before, at the same bytes.
  pub record Stays (a b : Asked) : Type 0 where
    pub moved : Moved k end g a b
    pub place : b.place ≡ a.place
    pub whole : b.whole ≡ a.whole

  abbrev pub AllStay : List Asked → List Asked → Type 0
  AllStay [] [] = Prim.Unit {0}
  AllStay [] (b ∷ bs) = ⊥
  AllStay (a ∷ os) [] = ⊥
  AllStay (a ∷ os) (b ∷ bs) = Stays a b × AllStay os bs

  both_stay : (os bs cs ds : List Asked) → AllStay os bs → AllStay cs ds → AllStay (os ++ cs) (bs ++ ds)
  both_stay [] [] cs ds h f = f
  both_stay [] (b ∷ bs) cs ds h f = absurd h
  both_stay (a ∷ os) [] cs ds h f = absurd h
  both_stay (a ∷ os) (b ∷ bs) cs ds h f = (h.0, both_stay os bs cs ds h.1 f)

  -- The names that are looked up are those that were, with others between.
  pub record AsksStay (mid os bs : List Asked) : Type 0 where
    pub first : List Asked
    pub second : List Asked
    pub first_new : List Asked
    pub second_new : List Asked
    pub was : os ≡ first ++ second
    pub is : bs ≡ first_new ++ (mid ++ second_new)
    pub front : AllStay first first_new
    pub rest : AllStay second second_new

  -- ---- rules by a test of each name

  pub record IsLooked (r : List Asked → List Place) (t : Asked → Bool) (at : Asked → Place) : Type 0 where
    pub none : r [] ≡ []
    pub more : (a : Asked) (as_ : List Asked) → r (a ∷ as_) ≡ place_if (t a) (at a) (r as_)

  module _ (r : List Asked → List Place) (t : Asked → Bool) (at : Asked → Place) (is : IsLooked r t at) (same : (a b : Asked) → Stays a b → (t b ≡ t a) × (at b ≡ at a)) where
    looked_behind : (os bs xs ys : List Asked) → AllStay os bs → r ys ≡ r xs → r (bs ++ ys) ≡ r (os ++ xs)
    looked_behind [] [] xs ys h e = e
    looked_behind [] (b ∷ bs) xs ys h e = absurd h
    looked_behind (a ∷ os) [] xs ys h e = absurd h
    looked_behind (a ∷ os) (b ∷ bs) xs ys h e =
        let s = same a b h.0 in
        is.more b (bs ++ ys) ∙ placed_same (t b) (t a) (at b) (at a) (r (bs ++ ys)) (r (os ++ xs)) s.0 s.1 (looked_behind os bs xs ys h.1 e) ∙ sym (is.more a (os ++ xs))

    nothing_behind : (os bs : List Asked) → AllStay os bs → r bs ≡ r os
    nothing_behind [] [] h = refl
    nothing_behind [] (b ∷ bs) h = absurd h
    nothing_behind (a ∷ os) [] h = absurd h
    nothing_behind (a ∷ os) (b ∷ bs) h =
        let s = same a b h.0 in
        is.more b bs ∙ placed_same (t b) (t a) (at b) (at a) (r bs) (r os) s.0 s.1 (nothing_behind os bs h.1) ∙ sym (is.more a os)

    passed_over : (ms xs : List Asked) → r ms ≡ [] → r (ms ++ xs) ≡ r xs
    passed_over [] xs e = refl
    passed_over (m ∷ ms) xs e =
        let z = sym (is.more m ms) ∙ e in
        is.more m (ms ++ xs) ∙ ap (λ b. place_if b (at m) (r (ms ++ xs))) (test_false (t m) (at m) (r ms) z) ∙ passed_over ms xs (rest_none (t m) (at m) (r ms) z)

    looked_same : (mid os bs : List Asked) → AsksStay mid os bs → r mid ≡ [] → r bs ≡ r os
    looked_same mid os bs h e =
        ap r h.is ∙ looked_behind h.first h.first_new h.second (mid ++ h.second_new) h.front (passed_over mid h.second_new e ∙ nothing_behind h.second h.second_new h.rest) ∙ ap r (sym h.was)

  module _ (mid os bs : List Asked) (h : AsksStay mid os bs) where
    undeclared_same : undeclared mid ≡ [] → undeclared bs ≡ undeclared os
    undeclared_same e =
        looked_same undeclared (λ a. lacks_meaning a.it.constant a.name (object_asked a)) (λ a. a.place) (record { none = refl; more = λ a as_. refl })
        (λ a b s. (
          ap (λ (u : Use). lacks_meaning u.constant b.name (object_asked b)) s.moved.it ∙ ap (λ w. lacks_meaning a.it.constant w (object_asked b)) s.moved.name
              ∙ ap (lacks_meaning a.it.constant a.name) (object_same k end g a b s.moved) ∙ lacks_same k end g a.it.constant a.name (object_asked a),
          s.place,
        )) mid os bs h e

    names_same : outside_names mid ≡ [] → outside_names bs ≡ outside_names os
    names_same e =
        looked_same outside_names (λ a. is_unknown a.name (object_asked a)) (λ a. a.place) (record { none = refl; more = λ a as_. refl })
        (λ a b s. (
          ap (λ w. is_unknown w (object_asked b)) s.moved.name ∙ ap (is_unknown a.name) (object_same k end g a b s.moved) ∙ unknown_same k end g a.name (object_asked a),
          s.place,
        )) mid os bs h e

    members_same : outside_members mid ≡ [] → outside_members bs ≡ outside_members os
    members_same e =
        looked_same outside_members (λ a. is_import (object_asked a) && is_other_member a.it.role a.selected) (λ a. a.whole) (record { none = refl; more = λ a as_. refl })
        (λ a b s. (
          ap (λ x. x && is_other_member b.it.role b.selected) (imports_moved k end g a b s.moved) ∙ ap (λ (u : Use). is_import (object_asked a) && is_other_member u.role b.selected) s.moved.it
              ∙ ap (λ w. is_import (object_asked a) && is_other_member a.it.role w) s.moved.selected,
          s.whole,
        )) mid os bs h e

    calls_same : not_called mid ≡ [] → not_called bs ≡ not_called os
    calls_same e =
        looked_same not_called (λ a. is_import (object_asked a) && is_no_call a.it.role a.selected) (λ a. a.whole) (record { none = refl; more = λ a as_. refl })
        (λ a b s. (
          ap (λ x. x && is_no_call b.it.role b.selected) (imports_moved k end g a b s.moved) ∙ ap (λ (u : Use). is_import (object_asked a) && is_no_call u.role b.selected) s.moved.it
              ∙ ap (λ w. is_import (object_asked a) && is_no_call a.it.role w) s.moved.selected,
          s.whole,
        )) mid os bs h e

    initials_same : initialisers mid ≡ [] → initialisers bs ≡ initialisers os
    initials_same e =
        looked_same initialisers (λ a. a.it.initial && is_initial a.meaning) (λ a. a.place) (record { none = refl; more = λ a as_. refl })
        (λ a b s. (
          ap (λ (u : Use). u.initial && is_initial b.meaning) s.moved.it ∙ ap (λ m. a.it.initial && is_initial m) s.moved.meaning ∙ ap (λ x. a.it.initial && x) (initial_same k end g a.meaning),
          s.place,
        )) mid os bs h e

    five_none : (a b c d e : List Failure) → a ++ b ++ c ++ d ++ e ≡ [] → (a ≡ []) × (b ≡ []) × (c ≡ []) × (d ≡ []) × (e ≡ [])
    five_none [] [] [] [] e z = (refl, refl, refl, refl, z)
    five_none (x ∷ a) b c d e z = cc
    five_none [] (x ∷ b) c d e z = cc
    five_none [] [] (x ∷ c) d e z = cc
    five_none [] [] [] (x ∷ d) e z = cc

    five_same : {a b c d e x y z u v : List Failure} → a ≡ x → b ≡ y → c ≡ z → d ≡ u → e ≡ v → a ++ b ++ c ++ d ++ e ≡ x ++ y ++ z ++ u ++ v
    five_same {a} {b} {c} {d} {e} {x} {y} {z} {u} {v} p q r s t =
        ap (λ w. w ++ b ++ c ++ d ++ e) p ∙ ap (λ w. x ++ w ++ c ++ d ++ e) q ∙ ap (λ w. x ++ y ++ w ++ d ++ e) r ∙ ap (λ w. x ++ y ++ z ++ w ++ e) s ∙ ap (λ w. x ++ y ++ z ++ u ++ w) t

    pub lookups_same : lookup_faults mid ≡ [] → lookup_faults bs ≡ lookup_faults os
    lookups_same z =
        let m =
        five_none (failing code.Undeclared (undeclared mid)) (failing code.Outside (outside_names mid)) (failing code.Outside (outside_members mid)) (failing code.NotAValue (not_called mid)) (failing code.Initialiser (initialisers mid)) z in
        five_same (ap (failing code.Undeclared) (undeclared_same (failing_none code.Undeclared (undeclared mid) m.0))) (ap (failing code.Outside) (names_same (failing_none code.Outside (outside_names mid) m.1)))
        (ap (failing code.Outside) (members_same (failing_none code.Outside (outside_members mid) m.2))) (ap (failing code.NotAValue) (calls_same (failing_none code.NotAValue (not_called mid) m.3)))
        (ap (failing code.Initialiser) (initials_same (failing_none code.Initialiser (initialisers mid) m.4)))

  -- ---- what is used

  or_false : (a b : Bool) → a ≡ false → (a || b) ≡ b
  or_false true b e = cc
  or_false false b e = refl

  pub used_same : (d : Found) (mid os bs : List Asked) → AsksFollow k end g mid os bs → is_used (longer k end d) mid ≡ false → is_used (longer k end d) bs ≡ is_used d os
  used_same d mid os bs h e =
      let l = longer k end d in
      ap (is_used l) h.is ∙ used_append k end g l h.first_new (mid ++ h.second_new)
      ∙ ap (λ x. is_used l h.first_new || x) (used_append k end g l mid h.second_new ∙ or_false (is_used l mid) (is_used l h.second_new) e)
      ∙ ap (λ x. x || is_used l h.second_new) (used_moved k end g d h.first h.first_new h.front) ∙ ap (λ x. is_used d h.first || x) (used_moved k end g d h.second h.second_new h.rest)
      ∙ sym (used_append k end g d h.first h.second) ∙ ap (is_used d) (sym h.was)

  pub imported_same : (m : ℕ) (mid os bs : List Asked) → AsksFollow k end g mid os bs → uses_import m mid ≡ false → uses_import m bs ≡ uses_import m os
  imported_same m mid os bs h e =
      ap (uses_import m) h.is ∙ uses_append k end g m h.first_new (mid ++ h.second_new)
      ∙ ap (λ x. uses_import m h.first_new || x) (uses_append k end g m mid h.second_new ∙ or_false (uses_import m mid) (uses_import m h.second_new) e)
      ∙ ap (λ x. x || uses_import m h.second_new) (uses_moved k end g m h.first h.first_new h.front) ∙ ap (λ x. uses_import m h.first || x) (uses_moved k end g m h.second h.second_new h.rest)
      ∙ sym (uses_append k end g m h.first h.second) ∙ ap (uses_import m) (sym h.was)

-- ---- the names themselves

module _ (k n : ℕ) (name : List ℕ) (end : ℕ) (g : Gap) (xs ds ys : List Meaning) (a : AreAside k n name end g xs ds ys) where
  abbrev old : List Meaning
  old = were k n name end g xs ds ys

  abbrev new : List Meaning
  new = are k n name end g xs ds ys

  -- a file that is as it was
  other_stay : (m : ℕ) (ts : TokenList) (es : List Event) → nat_eq m k ≡ false → ((t : ℕ) → same_text name (word ts t) ≡ false) → AllStay k end g (asked_in old m ts es) (asked_in new m ts es)
  other_stay m ts [] o q = tt
  other_stay m ts (event.Use u ∷ es) o q = by (is_blank (word ts u.name)) (other_stay m ts es o q)
    where
      stands : Stands k n m u.name
      stands e = absurd (no (sym o ∙ e))
        where
          no : false ≡ true → ⊥
          no z = cc

      by : (b : Bool) → AllStay k end g (asked_in old m ts es) (asked_in new m ts es)
          → AllStay k end g (if b then asked_in old m ts es else asked old m ts u ∷ asked_in old m ts es) (if b then asked_in new m ts es else asked new m ts u ∷ asked_in new m ts es)
      by true f = f
      by false f = (
        record {
          moved = record { it = refl; file = refl; name = refl; selected = refl; meaning = meaning_moved k n name end g xs ds ys a m u.name (word ts u.name) stands (q u.name) };
          place = refl;
          whole = refl;
        },
        f,
      )
  other_stay m ts (e ∷ es) o q = other_stay m ts es o q

  -- the file that is longer
  whole_same : (ts us : TokenList) (i : ℕ) (r : Role) → KeepsBytes n ts us → i < n → RoleWithin n r → whole_of k us i r ≡ whole_of k ts i r
  whole_same ts us i (role.Selected last called) b l h = b.places k i last l h
  whole_same ts us i r b l h = b.places k i (suc i) l (omega (arith, l))

  own_stay : (ts us : TokenList) (es : List Event) → ((t : ℕ) → t < n → word us t ≡ word ts t) → KeepsBytes n ts us → ((t : ℕ) → same_text name (word ts t) ≡ false) → AllByRecursion (EventWithin n) es
      → AllStay k end g (asked_in old k ts es) (asked_in new k us (map (reaching end) es))
  own_stay ts us [] w b q h = tt
  own_stay ts us (event.Use u ∷ es) w b q h =
      subst (λ v. AllStay k end g (if is_blank (word ts u.name) then asked_in old k ts es else asked old k ts u ∷ asked_in old k ts es)
      (if is_blank v then asked_in new k us (map (reaching end) es) else asked new k us u ∷ asked_in new k us (map (reaching end) es)))
      (sym (w u.name h.0.0)) (by (is_blank (word ts u.name)) (own_stay ts us es w b q h.1))
    where
      below : u.name < n
      below = h.0.0

      by : (c : Bool) → AllStay k end g (asked_in old k ts es) (asked_in new k us (map (reaching end) es))
          → AllStay k end g (if c then asked_in old k ts es else asked old k ts u ∷ asked_in old k ts es) (if c then asked_in new k us (map (reaching end) es) else asked new k us u ∷ asked_in new k us (map (reaching end) es))
      by true f = f
      by false f = (
        record {
          moved = record {
            it = refl;
            file = refl;
            name = w u.name below;
            selected = selected_same k n name end g xs ds ys a ts us u.role w (omega (arith, below)) h.0.1;
            meaning = ap (meaning_at new k u.name) (w u.name below) ∙ meaning_moved k n name end g xs ds ys a k u.name (word ts u.name) (λ z. below) (q u.name);
          };
          place = b.places k u.name (suc u.name) below (omega (arith, below));
          whole = whole_same ts us u.name u.role b below h.0.1;
        },
        f,
      )
  own_stay ts us (e ∷ es) w b q h = own_stay ts us es w b q h.1

  -- files in front of it, and behind it
  before_stay : (m : ℕ) (us : List Unit) → m + length us ≤ k → AllByRecursion (Says name) us → AllStay k end g (asked_from old m us) (asked_from new m us)
  before_stay m [] l q = tt
  before_stay m (u ∷ us) l q =
      both_stay k end g (asked_in old m u.tokens u.events) (asked_in new m u.tokens u.events) (asked_from old (suc m) us) (asked_from new (suc m) us)
      (other_stay m u.tokens u.events (grind (arith, nat_tests)) q.0) (before_stay (suc m) us (omega (arith, l)) q.1)

  behind_stay : (m : ℕ) (us : List Unit) → k < m → AllByRecursion (Says name) us → AllStay k end g (asked_from old m us) (asked_from new m us)
  behind_stay m [] l q = tt
  behind_stay m (u ∷ us) l q =
      both_stay k end g (asked_in old m u.tokens u.events) (asked_in new m u.tokens u.events) (asked_from old (suc m) us) (asked_from new (suc m) us)
      (other_stay m u.tokens u.events (grind (arith, nat_tests)) q.0) (behind_stay (suc m) us (omega (arith, l)) q.1)

  -- what is looked up in the package
  pub asks_stay : (before : List Unit) (u v : Unit) (rest : List Unit) (added : List Event) → length before ≡ k → v.events ≡ map (reaching end) u.events ++ added → ((t : ℕ) → t < n → word v.tokens t ≡ word u.tokens t)
      → KeepsBytes n u.tokens v.tokens → AllByRecursion (EventWithin n) u.events → AllByRecursion (Says name) (before ++ u ∷ rest)
      → AsksStay k end g (asked_in new k v.tokens added) (asked_from old 0 (before ++ u ∷ rest)) (asked_from new 0 (before ++ v ∷ rest))
  asks_stay before u v rest added p e w b i q =
      let own = asked_in new k v.tokens (map (reaching end) u.events) in
      let mid = asked_in new k v.tokens added in
      let later = all_behind (Says name) before (u ∷ rest) q in
      record {
        first = asked_from old 0 before ++ asked_in old k u.tokens u.events;
        second = asked_from old (suc k) rest;
        first_new = asked_from new 0 before ++ own;
        second_new = asked_from new (suc k) rest;
        was = from_append k n name end g xs ds ys a old 0 k before (u ∷ rest) (omega (arith, p)) ∙ sym (append_assoc (asked_from old 0 before) (asked_in old k u.tokens u.events) (asked_from old (suc k) rest));
        is =
            from_append k n name end g xs ds ys a new 0 k before (v ∷ rest) (omega (arith, p))
            ∙ ap (λ l. asked_from new 0 before ++ (l ++ asked_from new (suc k) rest)) (ap (asked_in new k v.tokens) e ∙ in_append k n name end g xs ds ys a new k v.tokens (map (reaching end) u.events) added)
            ∙ ap (λ l. asked_from new 0 before ++ l) (append_assoc own mid (asked_from new (suc k) rest)) ∙ sym (append_assoc (asked_from new 0 before) own (mid ++ asked_from new (suc k) rest));
        front = both_stay k end g (asked_from old 0 before) (asked_from new 0 before) (asked_in old k u.tokens u.events) own
            (before_stay 0 before (omega (arith, p)) (all_front (Says name) before (u ∷ rest) q)) (own_stay u.tokens v.tokens u.events w b later.0 i);
        rest = behind_stay (suc k) rest (omega arith) later.1;
      }
