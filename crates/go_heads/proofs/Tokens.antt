-- The objects of a function's tokens follow from the function by itself, and from the objects of the package.
use Rattle.std.proofs.Common.{◌≡◌, ◌∙◌, ℕ, suc, ◌+◌, ◌-◌, ◌<◌, ◌≤◌, Bool, true, false, List, [], ◌∷◌, ◌++◌, map, length, Option, Some, None, refl, sym, ap, subst, arith}
use Rattle.std.specs.Prelude.{if◌then◌else◌, ◌&&◌, not, nat_eq, slice_get, option_map}
use Rattle.std.proofs.lemmas.Bool.Decides.{nat_tests}
use Rattle.std.proofs.lemmas.List.{map-append}
use Rattle.go_tokens.specs.Tokens.{TokenList, kinds}
use Rattle.go_grammar.specs.declared.kind.Category.TheVariants as category
use Rattle.go_grammar.specs.Trees.{Tree, node, kind_of, first, last, parts}
use Rattle.go_grammar.proofs.Public.{lies_within}
use Rattle.go_rewriting.specs.Places.{carry}
use Rattle.go_rewriting.proofs.Public.{first_carry, last_carry}
use Rattle.go_tree.specs.declared.event.Declaration.{Declaration}
use Rattle.go_tree.specs.declared.event.Event.{Event}
use Rattle.go_tree.specs.declared.event.Event.TheVariants as event
use Rattle.go_tree.specs.declared.object.Object.{Object}
use Rattle.go_tree.specs.Contexts.{is_package, file_context}
use Rattle.go_tree.specs.Declarations.{Found, found, found_in, is_reused, new_among, declarations}
use Rattle.go_tree.specs.Events.{events}
use Rattle.go_tree.specs.Lists.{is_function}
use Rattle.go_tree.specs.Meanings.{Meaning, Numbers, first_numbers, numbered, imported_from, meanings}
use Rattle.go_tree.specs.Objects.{own_object, object_at, token_object}
use Rattle.go_tree.specs.Units as names
use Rattle.go_tree.specs.Units.{word, is_blank}
use Rattle.go_tree.specs.Uses.{declared_by, declared_in_package, uses, object_of}
use Rattle.go_scopes_events.specs.Moved.{moved_event}
use Rattle.go_scopes_events.specs.Orders.{EachDeclared}
use Rattle.go_scopes_events.specs.Scopes.{locals_of, first_by, is_import, inmost}
use Rattle.go_heads.specs.Functions.{Alone, AreRead, alone}
use Rattle.go_heads.specs.Heads.{File, IsRead, in_bodies, place_outside}
use Rattle.go_heads.proofs.Counting.{place_next, place_order}
use Rattle.go_heads.specs.Objects.{units_of, package_objects, file_in, file_there, head_place}
use Rattle.go_heads.specs.Told.{file_events}
use Rattle.go_heads.proofs.Objects.{Entry, entry, new_append, declared_append}
use Rattle.go_heads.specs.Bodies.{function_events}
use Rattle.go_heads.specs.Names.{own_text, no_place, found_by, own_names, own_declarations, in_file}
use Rattle.go_heads.proofs.Fresh as fresh
use Rattle.go_heads.proofs.Fresh.{Other, texts_at}
use Rattle.go_heads.proofs.Names as bodies
use Rattle.go_heads.proofs.Names.{Stands}
use Rattle.go_heads.proofs.Lookups.{count_kinds, read_at, token_told}
use Rattle.go_heads.proofs.Meanings.{Every, every_append, every_new, local_object, outer_object, find, meant_by, meant_reached}
use Rattle.go_heads.proofs.Apart.{IsApart, IsAside, function_it, Begins, begins, numbered_aside, imported_aside, inmost_past, inmost_before, own_past, own_none, token_past, token_before, other_apart, each_named, in_order, clear, front_apart, back_apart}
use Rattle.go_heads.proofs.TokenNumbers.{behind_all, numbered_append, behind_entries, numbers_by, BeginsFunction, numbered_same, IsEarlier, IsThere}
use Rattle.go_heads.proofs.Shifted.{IsOwn, numbered_own, own_by, eq_moved, up_meaning, numbered_up, inmost_up, own_up}

-- ---- a function by itself

-- the object of the token x: that which a name means, or that which is declared
abbrev chosen : Option Object → Option Object → ℕ → List Event → Option Object
chosen used declared x [] = None
chosen used declared x (event.Use u ∷ es) = if nat_eq u.name x then used else chosen used declared x es
chosen used declared x (event.Declaration d ∷ es) = if nat_eq d.name x then declared else chosen used declared x es
chosen used declared x (e ∷ es) = chosen used declared x es

token_moved : (ms : List Meaning) (n : ℕ) (l : TokenList) (a x : ℕ) (es : List Event)
    → token_object ms n l (a + x) (map (moved_event a) es) ≡ chosen (object_at ms n (a + x) (word l (a + x))) (own_object n (a + x) (word l (a + x)) ms ms) x es
token_moved ms n l a x [] = refl
token_moved ms n l a x (event.Use u ∷ es) =
    ap (λ b. if b then object_at ms n (a + x) (word l (a + x)) else token_object ms n l (a + x) (map (moved_event a) es)) (eq_moved a u.name x)
    ∙ ap (λ o. if nat_eq u.name x then object_at ms n (a + x) (word l (a + x)) else o) (token_moved ms n l a x es)
token_moved ms n l a x (event.Declaration d ∷ es) =
    ap (λ b. if b then own_object n (a + x) (word l (a + x)) ms ms else token_object ms n l (a + x) (map (moved_event a) es)) (eq_moved a d.name x)
    ∙ ap (λ o. if nat_eq d.name x then own_object n (a + x) (word l (a + x)) ms ms else o) (token_moved ms n l a x es)
token_moved ms n l a x (event.Import i ∷ es) = token_moved ms n l a x es
token_moved ms n l a x (event.Member m g i ∷ es) = token_moved ms n l a x es
token_moved ms n l a x (event.Bodiless i j ∷ es) = token_moved ms n l a x es
token_moved ms n l a x (event.Statement i j ∷ es) = token_moved ms n l a x es
token_moved ms n l a x (event.Misplaced i j ∷ es) = token_moved ms n l a x es
token_moved ms n l a x (event.SecondDefault i ∷ es) = token_moved ms n l a x es

-- what its names mean, where objects have these numbers in front of it
abbrev own_meanings : Numbers → Alone → List Meaning
own_meanings k a = numbered k (own_declarations a)

-- what the name at a token means, in a file with these imports and a package with these objects
abbrev own_meant : ℕ → Numbers → Alone → List Meaning → List Entry → ℕ → Option Object
own_meant n k a imports objects x = meant_by n (own_text a x) (inmost 0 x (own_text a x) None (locals_of 0 (own_meanings k a))) imports objects

abbrev pub own_token : ℕ → Numbers → Alone → List Meaning → List Entry → ℕ → Option Object
own_token n k a imports objects x = chosen (own_meant n k a imports objects x) (own_by (own_meant n k a imports objects x) x (own_meanings k a)) x (function_events a)

found_own : (w : ℕ → List ℕ) (es : List Event) → Every (λ d. d.file ≡ 0) (found_by w es)
found_own w [] = tt
found_own w (event.Declaration d ∷ es) = (refl, found_own w es)
found_own w (event.Import i ∷ es) = found_own w es
found_own w (event.Use u ∷ es) = found_own w es
found_own w (event.Member m g i ∷ es) = found_own w es
found_own w (event.Bodiless i j ∷ es) = found_own w es
found_own w (event.Statement i j ∷ es) = found_own w es
found_own w (event.Misplaced i j ∷ es) = found_own w es
found_own w (event.SecondDefault i ∷ es) = found_own w es

kind_carry : (m : ℕ → ℕ) (t : Tree) → kind_of (carry m t) ≡ kind_of t
kind_carry m (node k i j ps) = refl

-- a function that has a name declares it first
abbrev own_function : Alone → Found
own_function a = record { file = 0; name = own_text a (suc (first a.tree)); place = no_place; it = function_it a.tree }

unless_blank : (b c : Bool) → b ≡ false → (not b && not (false && c)) ≡ true
unless_blank b c e = ap (λ x. not x && true) e

-- and then what stands in it
abbrev own_others : (a : Alone) → Begins a.tree (function_events a) → List Found
own_others a b = new_among (own_names a) (found_by (own_text a) b.others)

own_first : (a : Alone) (b : Begins a.tree (function_events a)) → is_blank (own_text a (suc (first a.tree))) ≡ false → own_declarations a ≡ own_function a ∷ own_others a b
own_first a b named =
    ap (λ es. new_among (own_names a) (found_by (own_text a) es)) b.whole
    ∙ ap (λ x. if x then own_function a ∷ own_others a b else own_others a b) (unless_blank (is_blank (own_text a (suc (first a.tree)))) (is_reused (own_function a) (own_names a)) named)

same_local : (n : ℕ) (l : TokenList) (a : ℕ) (o : Option Meaning) (z : Option Object) → local_object (option_map (up_meaning n l a) o) z ≡ local_object o z
same_local n l a None z = refl
same_local n l a (Some m) z = refl

each_first : (Q : Declaration → Type 0) (es : List Event) (d : Declaration) (rest : List Event) → es ≡ event.Declaration d ∷ rest → EachDeclared Q es → Q d
each_first Q es d rest e h = (subst (EachDeclared Q) e h).0

-- ---- in its package

module _ (fs : List File) (h : AreRead fs) (n : ℕ) (f : File) (there : slice_get fs n ≡ Some f) (t : Tree)
    (stands : Stands (kinds f.tokens.tokens) (in_bodies (parts f.tree)) (last f.tree) (file_events f) t) (named : is_blank (word f.tokens (suc (first t))) ≡ false) where
  pub read : IsRead f
  read = read_at fs h n f there

  abbrev l : TokenList
  l = f.tokens

  abbrev a : ℕ
  a = first t

  abbrev by_itself : Alone
  by_itself = alone l t

  abbrev us : List names.Unit
  us = units_of fs

  abbrev ms : List Meaning
  ms = meanings us

  abbrev own : List Found
  own = own_declarations by_itself

  abbrev before : List Found
  before = bodies.before fs n f read there t stands

  abbrev behind : List Found
  behind = bodies.behind fs n f read there t stands

  abbrev new_before : List Found
  new_before = new_among (found us) before

  abbrev new_behind : List Found
  new_behind = new_among (found us) behind

  lt : a < last t
  lt = in_order n f read t stands

  -- the first token by itself has the number 0
  first_own : first by_itself.tree ≡ 0
  first_own = let e = first_carry (λ i. i - a) t in omega (arith, e)

  last_own : last by_itself.tree ≡ last t - a
  last_own = last_carry (λ i. i - a) t

  begins_own : Begins by_itself.tree (function_events by_itself)
  begins_own = begins by_itself.tree 0 (ap is_function (kind_carry (λ i. i - a) t) ∙ stands.function) (omega (arith, first_own, last_own, lt))

  named_own : is_blank (own_text by_itself (suc (first by_itself.tree))) ≡ false
  named_own =
      let e : own_text by_itself (suc (first by_itself.tree)) ≡ word l (a + suc (first by_itself.tree)) =
      each_first (λ d. own_text by_itself d.name ≡ word l (a + d.name)) (function_events by_itself) (function_it by_itself.tree) begins_own.others begins_own.whole (bodies.words fs n f read there t stands) in
      let z : a + suc (first by_itself.tree) ≡ suc a = omega (arith, first_own) in
      ap is_blank (e ∙ ap (word l) z) ∙ named

  own_split : own ≡ own_function by_itself ∷ own_others by_itself begins_own
  own_split = own_first by_itself begins_own named_own

  pub begins_function : BeginsFunction own
  begins_function = record { function = own_function by_itself; others = own_others by_itself begins_own; whole = own_split; block = refl; entity = refl }

  -- ---- its declarations among those of the package

  declared_own : new_among (found us) (map (in_file n l a) (found_by (own_text by_itself) (function_events by_itself))) ≡ map (in_file n l a) own
  declared_own = ap (new_among (found us)) (sym (bodies.names_moved fs n f read there t stands)) ∙ (bodies.declares fs n f read there t stands).declared

  declared_split : declarations us ≡ new_before ++ (map (in_file n l a) own ++ new_behind)
  declared_split =
      let names = map (in_file n l a) (found_by (own_text by_itself) (function_events by_itself)) in
      ap (new_among (found us)) (bodies.all_names fs n f read there t stands)
      ∙ new_append (found us) before (names ++ behind)
      ∙ ap (λ ds. new_before ++ ds) (new_append (found us) names behind ∙ ap (λ ds. ds ++ new_behind) declared_own)

  apart_before : Every (IsApart n a (last t)) new_before
  apart_before =
      every_new (IsApart n a (last t)) (found us) before
      (every_append (IsApart n a (last t)) (bodies.rest fs n f read there t stands).front (found_in n l stands.before) (other_apart n a (last t) (bodies.rest fs n f read there t stands).front (bodies.rest fs n f read there t stands).front_other) (front_apart n f read t stands))

  apart_behind : Every (IsApart n a (last t)) new_behind
  apart_behind =
      every_new (IsApart n a (last t)) (found us) behind
      (every_append (IsApart n a (last t)) (found_in n l stands.behind) (bodies.rest fs n f read there t stands).behind (back_apart n f read t stands) (other_apart n a (last t) (bodies.rest fs n f read there t stands).behind (bodies.rest fs n f read there t stands).behind_other))

  -- ---- the numbers in front of it

  abbrev pub objects_before : List Entry
  objects_before = map (entry fs) (declared_in_package new_before)

  abbrev numbers_before : Numbers
  numbers_before = behind_entries first_numbers objects_before

  abbrev own_names_mean : List Meaning
  own_names_mean = own_meanings numbers_before by_itself

  abbrev meant_before : List Meaning
  meant_before = numbered first_numbers new_before

  abbrev meant_behind : List Meaning
  meant_behind = numbered (behind_all (behind_all first_numbers new_before) (map (in_file n l a) own)) new_behind

  pub all_meanings : ms ≡ imported_from 0 us ++ (meant_before ++ (map (up_meaning n l a) own_names_mean ++ meant_behind))
  all_meanings =
      let k : Numbers = behind_all first_numbers new_before in
      ap (λ ds. imported_from 0 us ++ numbered first_numbers ds) declared_split
      ∙ ap (λ xs. imported_from 0 us ++ xs) (
      numbered_append first_numbers new_before (map (in_file n l a) own ++ new_behind)
      ∙ ap (λ xs. meant_before ++ xs) (
      numbered_append k (map (in_file n l a) own) new_behind
      ∙ ap (λ xs. xs ++ meant_behind) (numbered_up n l a k own ∙ ap (map (up_meaning n l a)) (numbered_same k numbers_before own (numbers_by fs first_numbers first_numbers new_before (record { shared = refl; functions = refl })) begins_function))))

  own_are_own : Every IsOwn own_names_mean
  own_are_own = numbered_own numbers_before own (every_new (λ d. d.file ≡ 0) (own_names by_itself) (own_names by_itself) (found_own (own_text by_itself) (function_events by_itself)))

  -- ---- its tokens

  module _ (x : ℕ) (in_it : x < last t - a) where
    from : a ≤ a + x
    from = omega arith

    upto : a + x < last t
    upto = omega (arith, in_it)

    pub imports_aside : Every (IsAside n (a + x)) (imported_from 0 us)
    imports_aside = imported_aside n (a + x) 0 us

    pub before_aside : Every (IsAside n (a + x)) meant_before
    before_aside = numbered_aside n a (last t) (a + x) from upto first_numbers new_before apart_before

    pub behind_aside : Every (IsAside n (a + x)) meant_behind
    behind_aside = numbered_aside n a (last t) (a + x) from upto (behind_all (behind_all first_numbers new_before) (map (in_file n l a) own)) new_behind apart_behind

    pub local_inmost : (w : List ℕ) → inmost n (a + x) w None (locals_of n ms) ≡ option_map (up_meaning n l a) (inmost 0 x w None (locals_of 0 own_names_mean))
    local_inmost w =
        let ups : List Meaning = map (up_meaning n l a) own_names_mean in
        ap (λ xs. inmost n (a + x) w None (locals_of n xs)) all_meanings
        ∙ inmost_past n (a + x) w None (imported_from 0 us) (meant_before ++ (ups ++ meant_behind)) imports_aside
        ∙ inmost_past n (a + x) w None meant_before (ups ++ meant_behind) before_aside
        ∙ inmost_before n (a + x) w ups meant_behind None behind_aside
        ∙ inmost_up n l a x w None own_names_mean tt own_are_own

    pub text_own : own_text by_itself x ≡ word l (a + x)
    text_own = texts_at l a (last t - a) x in_it

    abbrev meant : Option Object
    meant = own_meant n numbers_before by_itself (imported_from 0 us) (map (entry fs) (package_objects fs)) x

    pub meant_own : object_at ms n (a + x) (word l (a + x)) ≡ meant
    meant_own =
        let w : List ℕ = own_text by_itself x in
        let objects : List Entry = map (entry fs) (package_objects fs) in
        ap (object_at ms n (a + x)) (sym text_own)
        ∙ meant_reached fs h n (a + x) w
        ∙ ap (λ o. meant_by n w o (imported_from 0 us) objects) (local_inmost w)
        ∙ ap (λ o. if is_blank w then None else o) (same_local n l a (inmost 0 x w None (locals_of 0 own_names_mean)) (outer_object w (first_by (is_import n) w (imported_from 0 us)) (find 0 w objects)))

    object_declared : own_object n (a + x) (word l (a + x)) ms ms ≡ own_by meant x own_names_mean
    object_declared =
        let w : List ℕ = word l (a + x) in
        let ups : List Meaning = map (up_meaning n l a) own_names_mean in
        ap (own_object n (a + x) w ms) all_meanings
        ∙ own_past n (a + x) w ms (imported_from 0 us) (meant_before ++ (ups ++ meant_behind)) imports_aside
        ∙ own_past n (a + x) w ms meant_before (ups ++ meant_behind) before_aside
        ∙ own_up n l a x w ms meant_behind own_names_mean own_are_own
        ∙ ap (λ o. own_by o x own_names_mean) (own_none n (a + x) w ms meant_behind behind_aside ∙ meant_own)

    within : a + x < length l.tokens
    within = omega (arith, upto, (lies_within (kinds l.tokens) category.Declaration t stands.sits.derives).1, count_kinds l.tokens)

    pub object_own : object_of (uses us) n (a + x) ≡ own_token n numbers_before by_itself (imported_from 0 us) (map (entry fs) (package_objects fs)) x
    object_own =
        let told : List Event = events (file_context (last f.tree)) t in
        let es : List Event = function_events by_itself in
        token_told fs n (a + x) f there within
        ∙ ap (token_object ms n l (a + x)) stands.whole
        ∙ token_past ms n l (a + x) 0 a stands.before (told ++ stands.behind) from stands.names_before
        ∙ token_before ms n l (a + x) (last t) (last f.tree) told stands.behind upto stands.names_behind
        ∙ ap (token_object ms n l (a + x)) (bodies.tell fs n f read there t stands)
        ∙ token_moved ms n l a x es
        ∙ ap (λ o. chosen o (own_object n (a + x) (word l (a + x)) ms ms) x es) meant_own
        ∙ ap (λ o. chosen meant o x es) object_declared

  -- ---- the objects of the package in front of it, and its own

  abbrev p : ℕ → Bool
  p = in_bodies (parts f.tree)

  abbrev IsFront : Found → Type 0
  IsFront d = d.file ≡ n → d.it.name < a

  other_front : (ds : List Found) → fresh.Every (Other n) ds → Every IsFront ds
  other_front [] g = tt
  other_front (d ∷ ds) g = (λ e. absurd (differs n d.file g.0 e), other_front ds g.1)
    where
      differs : (m k : ℕ) → nat_eq m k ≡ false → k ≡ m → ⊥
      differs m k e same = grind (arith, nat_tests)

  found_front : (es : List Event) → EachDeclared (λ d. (0 ≤ d.name) × (d.name < a)) es → Every IsFront (found_in n l es)
  found_front [] g = tt
  found_front (event.Declaration d ∷ es) g = (λ e. g.0.1, found_front es g.1)
  found_front (event.Import i ∷ es) g = found_front es g
  found_front (event.Use u ∷ es) g = found_front es g
  found_front (event.Member m c i ∷ es) g = found_front es g
  found_front (event.Bodiless i j ∷ es) g = found_front es g
  found_front (event.Statement i j ∷ es) g = found_front es g
  found_front (event.Misplaced i j ∷ es) g = found_front es g
  found_front (event.SecondDefault i ∷ es) g = found_front es g

  front_before : Every IsFront new_before
  front_before =
      every_new IsFront (found us) before
      (every_append IsFront (bodies.rest fs n f read there t stands).front (found_in n l stands.before) (other_front (bodies.rest fs n f read there t stands).front (bodies.rest fs n f read there t stands).front_other)
      (found_front stands.before (each_named 0 a stands.before stands.names_before)))

  -- the place of its name in the head
  abbrev pub name_place : ℕ
  name_place = place_outside p (suc a)

  here : file_in fs n ≡ f
  here = ap file_there there

  place_here : (i : ℕ) → head_place fs n i ≡ place_outside p i
  place_here i = ap (λ (g : File). place_outside (in_bodies (parts g.tree)) i) here

  is_clear : p a ≡ false
  is_clear = clear n f read t stands

  earlier : (i k : ℕ) → (k ≡ n → i < a) → k ≡ n → head_place fs k i < name_place
  earlier i k front e =
      let less : i < a = front e in
      let z : i + (a - i) ≡ a = omega (arith, less) in
      omega (arith, ap (λ m. head_place fs m i) e, place_here i, place_next p a is_clear, place_order p i (a - i), ap (place_outside p) z)

  entries_earlier : (ds : List Found) → Every IsFront ds → Every (IsEarlier n name_place) (map (entry fs) (declared_in_package ds))
  entries_earlier [] g = tt
  entries_earlier (d ∷ ds) g = by (is_package d.it.block) (entries_earlier ds g.1)
    where
      by : (b : Bool) → Every (IsEarlier n name_place) (map (entry fs) (declared_in_package ds))
          → Every (IsEarlier n name_place) (map (entry fs) (if b then declared_by d ∷ declared_in_package ds else declared_in_package ds))
      by true r = (earlier d.it.name d.file g.0, r)
      by false r = r

  pub before_earlier : Every (IsEarlier n name_place) objects_before
  before_earlier = entries_earlier new_before front_before

  abbrev pub own_entry : Entry
  own_entry = entry fs (declared_by (in_file n l a (own_function by_itself)))

  pub own_there : IsThere n name_place own_entry
  own_there =
      let z : a + suc (first by_itself.tree) ≡ suc a = omega (arith, first_own) in
      record { file = refl; place = place_here (a + suc (first by_itself.tree)) ∙ ap (place_outside p) z }

  abbrev objects_behind : List Entry
  objects_behind = map (entry fs) (declared_in_package (map (in_file n l a) (own_others by_itself begins_own)) ++ declared_in_package new_behind)

  pub record Split : Type 0 where
    pub behind : List Entry
    pub whole : map (entry fs) (package_objects fs) ≡ objects_before ++ (own_entry ∷ behind)

  pub objects_split : Split
  objects_split = record {
    behind = objects_behind;
    whole =
        ap (λ ds. map (entry fs) (declared_in_package ds)) declared_split
        ∙ ap (map (entry fs)) (declared_append new_before (map (in_file n l a) own ++ new_behind))
        ∙ map-append (entry fs) (declared_in_package new_before) (declared_in_package (map (in_file n l a) own ++ new_behind))
        ∙ ap (λ xs. objects_before ++ map (entry fs) xs) (declared_append (map (in_file n l a) own) new_behind ∙ ap (λ ds. declared_in_package (map (in_file n l a) ds) ++ declared_in_package new_behind) own_split);
  }
