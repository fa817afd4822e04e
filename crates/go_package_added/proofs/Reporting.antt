-- What the specifications of a package need, and where they stand, where a function is appended to a file.
use Rattle.std.proofs.Common.{◌≡◌, ◌∙◌, ℕ, zero, suc, ◌+◌, ◌-◌, ◌<◌, ◌≤◌, inl, inr, Bool, true, false, ◌&&◌, List, [], ◌∷◌, ◌++◌, length, map, Option, Some, None, refl, sym, ap, subst, arith}
use Rattle.std.specs.Prelude.{nat_eq, nat_le, nat_lt, slice_get, codes, max}
use Rattle.std.specs.List.{AllByRecursion}
use Rattle.std.proofs.lemmas.Bool.Decides.{nat_tests}
use Rattle.go_tokens.specs.Spellings.{same_text}
use Rattle.go_tokens.specs.Tokens.{TokenList, kinds}
use Rattle.go_grammar.specs.Grammar.{IsFile}
use Rattle.go_grammar.specs.declared.kind.Kind.TheVariants as kind
use Rattle.go_grammar.specs.Trees.{Tree, node, Trees, none, more, skip, last}
use Rattle.go_rewriting.specs.Places.{with_declaration}
use Rattle.go_tree.specs.Contexts.{is_package}
use Rattle.go_tree.specs.declared.event.Event.{Event}
use Rattle.go_tree.specs.declared.event.Event.TheVariants as event
use Rattle.go_tree.specs.declared.object.Declared.{Declared}
use Rattle.go_tree.specs.Declarations.{Found, found, found_in, found_from}
use Rattle.go_tree.specs.Events.{events}
use Rattle.go_tree.specs.Units as names
use Rattle.go_tree.specs.Units.{bytes_at, bytes_of, word}
use Rattle.go_tree.specs.Uses.{uses}
use Rattle.go_scopes_events.specs.Scopes.{AreOrderly}
use Rattle.go_package_laws.specs.Places.{EachNode, EachPart}
use Rattle.go_package_defs.specs.Answer.{specifications}
use Rattle.go_package_defs.specs.Declarations.{Specification, declarations, in_file}
use Rattle.go_package_defs.specs.Knowledge.{found_or, column_of, declaring, no_specification, outline_by}
use Rattle.go_package_defs.specs.Sources.{Source, Package, unit_of, tokens_there, tokens_in, needed_at, number_before}
use Rattle.go_package_defs.specs.Verdicts.{first_name, needed_columns, numbers_of}
use Rattle.go_heads_added.specs.Added.{Gap, Stands, longer_declared}
use Rattle.go_heads_added.specs.Kept.{KeepsPackage}
use Rattle.go_heads_added.specs.Reported.{KeepsBytes}
use Rattle.go_package_settled.specs.Read.{IsFaultless}
use Rattle.go_package_settled.specs.Resolved.{IsIn}
use Rattle.go_package_added.specs.Appended.{IsAppended, AreClosed, IsClosed, function_name, function_tree, package_in}
use Rattle.go_package_added.specs.Closed.{DeclaresShared}
use Rattle.go_package_added.specs.OneMore.{all_beyond, inserted}
use Rattle.go_package_added.specs.Reported.{KeepsFaults, MaybeStands, NeedsKept, PlacesKept, name_place}
use Rattle.go_package_added.proofs.Appending.{both_level, clause, front, one_more, parts_are, placed_front, placed_rest, rest, tokens_kept, were}
use Rattle.go_package_added.proofs.Inserted.{front_of, rest_of}
use Rattle.go_package_added.proofs.Outlined.{KeepsTokens, before_beyond, beyond_append, number_moved, put_in, stands_elsewhere}
use Rattle.go_package_added.proofs.Shared.{are_orderly, FilesAreOrderly, shared_at}
use Rattle.go_package_added.proofs.Specified.{IsBelow, AreBelow, IsPlaced, MaybeBelow, both_of, in_file_file}
use Rattle.go_package_added.proofs.Told.{AnyDeclared, AreTold, IsHere, file_told}

-- ---- names of specifications

-- a declaration that a file tells is among those that are found
record FoundHere (m t : ℕ) (xs : List Found) : Type 0 where
  it : Found
  among : IsIn it xs
  file : it.file ≡ m
  name : it.it.name ≡ t
  block : is_package it.it.block ≡ true

found_more : (m t : ℕ) (x : Found) (xs : List Found) → FoundHere m t xs → FoundHere m t (x ∷ xs)
found_more m t x xs h = record { it = h.it; among = inr h.among; file = h.file; name = h.name; block = h.block }

found_told : (m t : ℕ) (ts : TokenList) (es : List Event) → AnyDeclared (IsHere t) es → FoundHere m t (found_in m ts es)
found_told m t ts [] h = absurd h
found_told m t ts (event.Declaration d ∷ es) (inl h) = record { it = record { file = m; name = word ts d.name; place = bytes_at m ts d.name; it = d }; among = inl refl; file = refl; name = h.name; block = h.block }
found_told m t ts (event.Declaration d ∷ es) (inr h) = found_more m t (record { file = m; name = word ts d.name; place = bytes_at m ts d.name; it = d }) (found_in m ts es) (found_told m t ts es h)
found_told m t ts (event.Use u ∷ es) h = found_told m t ts es h
found_told m t ts (event.Import p ∷ es) h = found_told m t ts es h
found_told m t ts (event.Member a b i ∷ es) h = found_told m t ts es h
found_told m t ts (event.Bodiless i j ∷ es) h = found_told m t ts es h
found_told m t ts (event.Statement i j ∷ es) h = found_told m t ts es h
found_told m t ts (event.Misplaced i j ∷ es) h = found_told m t ts es h
found_told m t ts (event.SecondDefault i ∷ es) h = found_told m t ts es h

in_front : (x : Found) (xs ys : List Found) → IsIn x xs → IsIn x (xs ++ ys)
in_front x [] ys h = absurd h
in_front x (y ∷ xs) ys (inl e) = inl e
in_front x (y ∷ xs) ys (inr h) = inr (in_front x xs ys h)

in_behind : (x : Found) (xs ys : List Found) → IsIn x ys → IsIn x (xs ++ ys)
in_behind x [] ys h = h
in_behind x (y ∷ xs) ys h = inr (in_behind x xs ys h)

-- the first name of a specification is one that is found in its file
abbrev NamesFound : List Found → Specification → Type 0
NamesFound xs d = FoundHere d.file (first_name d.names) xs

abbrev OfFile : ℕ → Specification → Type 0
OfFile m d = d.file ≡ m

found_wider : (xs ys : List Found) → ((x : Found) → IsIn x xs → IsIn x ys) → (ds : List Specification) → AllByRecursion (NamesFound xs) ds → AllByRecursion (NamesFound ys) ds
found_wider xs ys f [] h = tt
found_wider xs ys f (d ∷ ds) h = (record { it = h.0.it; among = f h.0.it h.0.among; file = h.0.file; name = h.0.name; block = h.0.block }, found_wider xs ys f ds h.1)

one_file : (m : ℕ) (ts : TokenList) (es : List Event) (ds : List Specification) → AllByRecursion (OfFile m) ds → AreTold es ds → AllByRecursion (NamesFound (found_in m ts es)) ds
one_file m ts es [] f h = tt
one_file m ts es (d ∷ ds) f h = (subst (λ i. FoundHere i (first_name d.names) (found_in m ts es)) (sym f.0) (found_told m (first_name d.names) ts es h.0), one_file m ts es ds f.1 h.1)

files_found : (m : ℕ) (ss : List Source) → AllByRecursion (λ (s : Source). IsFile (kinds s.tokens.tokens) s.tree) ss → AllByRecursion (NamesFound (found_from m (map unit_of ss))) (specifications m ss)
files_found m [] h = tt
files_found m (s ∷ ss) h =
    let own = found_in m s.tokens (unit_of s).events in
    let later = found_from (suc m) (map unit_of ss) in
    both_of m (NamesFound (own ++ later)) (in_file m s.tree) (specifications (suc m) ss)
    (found_wider own (own ++ later) (λ x k. in_front x own later k) (in_file m s.tree) (one_file m s.tokens (unit_of s).events (in_file m s.tree) (in_file_file m s.tree) (file_told (kinds s.tokens.tokens) m s.tree h.0)))
    (found_wider later (own ++ later) (λ x k. in_behind x own later k) (specifications (suc m) ss) (files_found (suc m) ss h.1))

module _ (us : List names.Unit) (orderly : AreOrderly us) where
  all_shared : (ds : List Specification) → AllByRecursion (NamesFound (found us)) ds → AllByRecursion (λ d. DeclaresShared us d.file (first_name d.names)) ds
  all_shared [] h = tt
  all_shared (d ∷ ds) h = (shared_at us orderly d.file (first_name d.names) h.0.it h.0.among h.0.file h.0.name h.0.block, all_shared ds h.1)

-- ---- tokens

bytes_same : (j f : ℕ) (s u : Source) (bytes : KeepsBytes j s.tokens u.tokens) (before behind : List Source) (m x y : ℕ) → (m ≡ length before → (x < j) × (y ≤ j))
    → bytes_of f (tokens_there (slice_get (before ++ u ∷ behind) m)) x y ≡ bytes_of f (tokens_there (slice_get (before ++ s ∷ behind) m)) x y
bytes_same j f s u bytes [] behind zero x y below = let b = below refl in bytes.places f x y b.0 b.1
bytes_same j f s u bytes [] behind (suc m) x y below = refl
bytes_same j f s u bytes (z ∷ zs) behind zero x y below = refl
bytes_same j f s u bytes (z ∷ zs) behind (suc m) x y below = bytes_same j f s u bytes zs behind m x y (λ e. below (ap suc e))

both_tests : (i j n : ℕ) → i < n → j ≤ n → (nat_lt i n && nat_le j n) ≡ true
both_tests i j n l u = let a : nat_lt i n ≡ true = grind (arith, nat_tests) in let b : nat_le j n ≡ true = grind (arith, nat_tests) in ap (λ z. z && nat_le j n) a ∙ b

mutual
  node_stands : (n : ℕ) (t : Tree) → IsBelow n t → EachNode (λ i j. nat_lt i n && nat_le j n) t
  node_stands n (node k i j ps) h = (both_tests i j n h.0 h.1, parts_stand n ps h.3)

  parts_stand : (n : ℕ) (ps : Trees) → AreBelow n ps → EachPart (λ i j. nat_lt i n && nat_le j n) ps
  parts_stand n none h = tt
  parts_stand n (more p ps) h = (node_stands n p h.0, parts_stand n ps h.1)
  parts_stand n (skip ps) h = parts_stand n ps h

maybe_stands : (n : ℕ) (o : Option Tree) → MaybeBelow n o → MaybeStands (λ i j. nat_lt i n && nat_le j n) o
maybe_stands n None h = tt
maybe_stands n (Some t) h = node_stands n t h

each_stands : (n : ℕ) (ts : List Tree) → AllByRecursion (IsBelow n) ts → AllByRecursion (EachNode (λ i j. nat_lt i n && nat_le j n)) ts
each_stands n [] h = tt
each_stands n (t ∷ ts) h = (node_stands n t h.0, each_stands n ts h.1)

mutual
  any_node : (t : Tree) → EachNode (λ i j. true) t
  any_node (node k i j ps) = (refl, any_parts ps)

  any_parts : (ps : Trees) → EachPart (λ i j. true) ps
  any_parts none = tt
  any_parts (more p ps) = (any_node p, any_parts ps)
  any_parts (skip ps) = any_parts ps

any_maybe : (o : Option Tree) → MaybeStands (λ i j. true) o
any_maybe None = tt
any_maybe (Some t) = any_node t

any_each : (ts : List Tree) → AllByRecursion (EachNode (λ i j. true)) ts
any_each [] = tt
any_each (t ∷ ts) = (any_node t, any_each ts)

test_first : (i j n : ℕ) → (nat_lt i n && nat_le j n) ≡ true → (i < n) × (j ≤ n)
test_first i j n e = (by (nat_lt i n) refl e, also (nat_lt i n) (nat_le j n) refl e)
  where
    by : (b : Bool) → nat_lt i n ≡ b → (b && nat_le j n) ≡ true → i < n
    by true q z = grind (arith, nat_tests)
    by false q z = cc

    also : (b c : Bool) → nat_le j n ≡ c → (b && c) ≡ true → j ≤ n
    also true true q z = grind (arith, nat_tests)
    also true false q z = cc
    also false c q z = cc

same_test : (x y : ℕ) → x ≡ y → nat_eq x y ≡ true
same_test x y e = grind (arith, e)

false_true : {A : Type 0} → false ≡ true → A
false_true e = cc

-- ---- a specification

module _ (k n : ℕ) (p q : Package) (g : Gap) (keeps : KeepsTokens k n p q g) (some : 0 < n) where
  name_stands : (d : Specification) → IsPlaced k n d → (t : ℕ) → t < n → Stands k n d.file t
  name_stands d (inl e) t l = stands_elsewhere k n d.file t e
  name_stands d (inr b) t l = λ e. l

  first_below : (ts : List ℕ) → AllByRecursion (λ t. t < n) ts → first_name ts < n
  first_below [] h = some
  first_below (t ∷ ts) h = h.0

  first_stands : (d : Specification) → IsPlaced k n d → Stands k n d.file (first_name d.names)
  first_stands d (inl e) = stands_elsewhere k n d.file (first_name d.names) e
  first_stands d (inr b) = λ e. first_below d.names b.names_below

  columns_kept : (d : Specification) → Stands k n d.file (first_name d.names) → IsClosed p d.file (first_name d.names) → (c : ℕ) → needed_columns q d c ≡ all_beyond g.shared (needed_columns p d c)
  columns_kept d s z zero = refl
  columns_kept d s z (suc c) =
      ap (λ l. l ++ needed_at q d.file (first_name d.names) c false) (columns_kept d s z c)
      ∙ ap (λ l. all_beyond g.shared (needed_columns p d c) ++ l) (keeps.needed d.file (first_name d.names) s z c false)
      ∙ sym (beyond_append g.shared (needed_columns p d c) (needed_at p d.file (first_name d.names) c false))

  numbers_kept : (m : ℕ) (ts : List ℕ) → AllByRecursion (Stands k n m) ts → numbers_of q m ts ≡ all_beyond g.shared (numbers_of p m ts)
  numbers_kept m [] h = refl
  numbers_kept m (t ∷ ts) h =
      ap (λ o. number_before o (numbers_of q m ts)) (number_moved p q g m t (keeps.objects m t h.0)) ∙ ap (number_before _) (numbers_kept m ts h.1) ∙ before_beyond g.shared _ (numbers_of p m ts)

  names_stand : (d : Specification) → IsPlaced k n d → AllByRecursion (Stands k n d.file) d.names
  names_stand d (inl e) = each d.names
    where
      each : (ts : List ℕ) → AllByRecursion (Stands k n d.file) ts
      each [] = tt
      each (t ∷ ts) = (stands_elsewhere k n d.file t e, each ts)
  names_stand d (inr b) = each d.names b.names_below
    where
      each : (ts : List ℕ) → AllByRecursion (λ t. t < n) ts → AllByRecursion (Stands k n d.file) ts
      each [] h = tt
      each (t ∷ ts) h = ((λ e. h.0), each ts h.1)

  one_needs : (d : Specification) → IsPlaced k n d → IsClosed p d.file (first_name d.names) → NeedsKept p q g d
  one_needs d w z = record {
    needed = columns_kept d (first_stands d w) z (max (length d.names) (length d.values));
    names = numbers_kept d.file d.names (names_stand d w);
  }

  all_need : (ds : List Specification) → AllByRecursion (IsPlaced k n) ds → AllByRecursion (λ d. IsClosed p d.file (first_name d.names)) ds → AllByRecursion (NeedsKept p q g) ds
  all_need [] w z = tt
  all_need (d ∷ ds) w z = (one_needs d w.0 z.0, all_need ds w.1 z.1)

  -- where no specification declares a name
  none_needs : NeedsKept p q g no_specification
  none_needs = record { needed = refl; names = refl }

  declaring_needs : (ds : List Specification) → AllByRecursion (NeedsKept p q g) ds → (m t : ℕ) → NeedsKept p q g (declaring ds m t).0
  declaring_needs [] h m t = none_needs
  declaring_needs (d ∷ ds) h m t = by (column_of m t d) (declaring_needs ds h.1 m t)
    where
      by : (o : Option ℕ) → NeedsKept p q g (declaring ds m t).0 → NeedsKept p q g (found_or d o (declaring ds m t)).0
      by None w = w
      by (Some c) w = h.0

  outlined_need : (ds : List Specification) → AllByRecursion (NeedsKept p q g) ds → (es : List Declared) → AllByRecursion (λ o. NeedsKept p q g o.specification) (map (λ (d : Declared). outline_by p d (declaring ds d.file d.name)) es)
  outlined_need ds h [] = tt
  outlined_need ds h (e ∷ es) = (declaring_needs ds h e.file e.name, outlined_need ds h es)

-- ---- a package

module _ (k : ℕ) (ss us : List Source) (h : IsAppended k ss us) (keeps : KeepsPackage k h.count (suc h.first) (map unit_of ss) (map unit_of us)) (faultless : IsFaultless ss) (orderly : FilesAreOrderly)
    (closed_at : (m t : ℕ) → DeclaresShared (map unit_of ss) m t → IsClosed (package_in ss) m t) (bytes : KeepsBytes h.count h.old_tokens h.new_tokens) where
  abbrev p : Package
  p = package_in ss

  abbrev q : Package
  q = package_in us

  abbrev n : ℕ
  n = h.count

  abbrev ds : List Specification
  ds = specifications 0 ss

  abbrev old_file : Source
  old_file = record { tokens = h.old_tokens; tree = node kind.File 0 h.count h.declarations }

  abbrev new_file : Source
  new_file = record { tokens = h.new_tokens; tree = with_declaration (node kind.File 0 h.count h.declarations) (function_tree k ss us h) h.end }

  pub stay_there : (m x y : ℕ) → (m ≡ k → (x < n) × (y ≤ n)) → bytes_of m (tokens_in q m) x y ≡ bytes_of m (tokens_in p m) x y
  stay_there m x y below =
      ap (λ zs. bytes_of m (tokens_there (slice_get zs m)) x y) h.is ∙ bytes_same n m old_file new_file bytes h.before h.behind m x y (λ e. below (e ∙ h.place))
      ∙ ap (λ zs. bytes_of m (tokens_there (slice_get zs m)) x y) (sym h.was)

  one_placed : (d : Specification) → IsPlaced k n d → PlacesKept p q d
  one_placed d (inl e) = record {
    within = λ i j. true;
    itself = refl;
    type_stands = any_maybe d.type_tree;
    values_stand = any_each d.values;
    places = λ i j w. stay_there d.file i j (λ z. false_true (sym e ∙ same_test d.file k z));
  }
  one_placed d (inr b) = record {
    within = λ i j. nat_lt i n && nat_le j n;
    itself = both_tests d.first d.last n b.begins b.ends;
    type_stands = maybe_stands n d.type_tree b.type_below;
    values_stand = each_stands n d.values b.values_below;
    places = λ i j w. stay_there d.file i j (λ z. test_first i j n w);
  }

  all_placed : (xs : List Specification) → AllByRecursion (IsPlaced k n) xs → AllByRecursion (PlacesKept p q) xs
  all_placed [] w = tt
  all_placed (d ∷ xs) w = (one_placed d w.0, all_placed xs w.1)

  closed_names : (xs : List Specification) → AllByRecursion (λ d. DeclaresShared (map unit_of ss) d.file (first_name d.names)) xs → AllByRecursion (λ d. IsClosed p d.file (first_name d.names)) xs
  closed_names [] w = tt
  closed_names (d ∷ xs) w = (closed_at d.file (first_name d.names) w.0, closed_names xs w.1)

  all_closed : AllByRecursion (λ d. IsClosed p d.file (first_name d.names)) ds
  all_closed = closed_names ds (all_shared (map unit_of ss) (are_orderly orderly ss faultless.trees) ds (files_found 0 ss faultless.trees))

  abbrev front_ones : List Specification
  front_ones = front k ss us h keeps faultless

  abbrev rest_ones : List Specification
  rest_ones = rest k ss us h keeps faultless

  some_tokens : 0 < n
  some_tokens = let c = clause k ss us h keeps faultless in omega (arith, c)

  need_ds : AllByRecursion (NeedsKept p q keeps.gap) (front_ones ++ rest_ones)
  need_ds =
      all_need k n p q keeps.gap (tokens_kept k ss us h keeps faultless) some_tokens (front_ones ++ rest_ones)
      (both_of 0 (IsPlaced k n) front_ones rest_ones (placed_front k ss us h keeps faultless) (placed_rest k ss us h keeps faultless))
      (subst (AllByRecursion (λ d. IsClosed p d.file (first_name d.names))) (were k ss us h keeps faultless) all_closed)

  abbrev to : Declared → Declared
  to d = longer_declared k keeps.end d

  one_name : (d : Declared) → Stands k n d.file d.name → name_place q (to d) ≡ name_place p d
  one_name d s = stay_there d.file d.name (suc d.name) (λ e. let l = s (same_test d.file k e) in (l, omega (arith, l)))

  all_names : (xs : List Declared) → AllByRecursion (λ d. Stands k n d.file d.name) xs → AllByRecursion (λ d. name_place q (to d) ≡ name_place p d) xs
  all_names [] w = tt
  all_names (d ∷ xs) w = (one_name d w.0, all_names xs w.1)

  names_placed : map (name_place q) q.uses.package_level ≡ inserted keeps.gap.shared (name_place q keeps.declared.function) (map (name_place p) p.uses.package_level)
  names_placed =
      ap (map (name_place q)) keeps.declared.are
      ∙ put_in to (name_place p) (name_place q) keeps.declared.function (name_place q keeps.declared.function) keeps.declared.first keeps.declared.second keeps.gap.shared keeps.declared.place refl
      (all_names (keeps.declared.first ++ keeps.declared.second) (both_level k ss us h keeps faultless))
      ∙ ap (λ l. inserted keeps.gap.shared (name_place q keeps.declared.function) (map (name_place p) l)) (sym keeps.declared.were)

  pub keeps_faults : (closed : AreClosed p) (other : same_text (function_name k ss us h) (codes "main") ≡ false) → KeepsFaults p q ds (specifications 0 us) keeps.gap (one_more k ss us h keeps faultless closed other)
  keeps_faults closed other =
      let parts = parts_are k ss us h keeps faultless closed other in
      record {
        outlines_need = outlined_need k n p q keeps.gap (tokens_kept k ss us h keeps faultless) some_tokens ds (subst (AllByRecursion (NeedsKept p q keeps.gap)) (sym (were k ss us h keeps faultless)) need_ds) p.uses.package_level;
        front_need = subst (AllByRecursion (NeedsKept p q keeps.gap)) (sym parts.0) (front_of (NeedsKept p q keeps.gap) front_ones rest_ones need_ds);
        rest_need = subst (AllByRecursion (NeedsKept p q keeps.gap)) (sym parts.1) (rest_of (NeedsKept p q keeps.gap) front_ones rest_ones need_ds);
        front_stand = subst (AllByRecursion (PlacesKept p q)) (sym parts.0) (all_placed front_ones (placed_front k ss us h keeps faultless));
        rest_stand = subst (AllByRecursion (PlacesKept p q)) (sym parts.1) (all_placed rest_ones (placed_rest k ss us h keeps faultless));
        function = name_place q keeps.declared.function;
        names_stand = names_placed;
      }
