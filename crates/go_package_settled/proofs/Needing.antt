-- Each object of a package without faults of names needs what its specification names.
use Rattle.std.proofs.Common.{◌≡◌, ◌∙◌, ℕ, suc, ◌+◌, ◌<◌, ◌≤◌, ◌⊎◌, inl, inr, Bool, true, false, ◌&&◌, ◌||◌, nat_eq, List, [], ◌∷◌, length, map, Option, Some, None, refl, sym, ap, subst, arith}
use Rattle.std.specs.Prelude.{slice_get, if◌then◌else◌}
use Rattle.std.specs.Option.{option_map}
use Rattle.std.proofs.lemmas.Bool.{eq-eqb}
use Rattle.std.proofs.lemmas.List.{length-map}
use Rattle.std.proofs.lemmas.Option.{slice_get-map}
use Rattle.go_tokens.specs.Tokens.{TokenList, kinds}
use Rattle.go_grammar.specs.Trees.{Tree, last}
use Rattle.go_tree.specs.declared.context.Reach.{Reach}
use Rattle.go_tree.specs.declared.context.Reach.TheVariants as reach
use Rattle.go_tree.specs.declared.context.Site.{Site}
use Rattle.go_tree.specs.declared.context.Site.TheVariants as site
use Rattle.go_tree.specs.declared.event.Declaration.{Declaration}
use Rattle.go_tree.specs.declared.event.Use.{Use}
use Rattle.go_tree.specs.declared.event.Event.{Event}
use Rattle.go_tree.specs.declared.event.Event.TheVariants as event
use Rattle.go_tree.specs.declared.object.Declared.{Declared}
use Rattle.go_tree.specs.declared.object.Object.{Object}
use Rattle.go_tree.specs.declared.object.Object.TheVariants as object
use Rattle.go_tree.specs.Contexts.{is_package}
use Rattle.go_tree.specs.Declarations.{Found, found, is_variable, declarations}
use Rattle.go_tree.specs.Lookups.{Asked}
use Rattle.go_tree.specs.Meanings.{Meaning, meanings}
use Rattle.go_tree.specs.Needs.{needs, way_by, way, if_so, right_way}
use Rattle.go_tree.specs.Units as names
use Rattle.go_tree.specs.Uses.{declared_by, object_of, uses}
use Rattle.go_scopes_events.specs.Orders.{AreInOrder, EachDeclared}
use Rattle.go_scopes_events.specs.Sited.{EachUsed}
use Rattle.go_exprs_rules.specs.Scopes.{Needed, in_full, at_once, loosely, type_place}
use Rattle.go_package_defs.specs.Answer.{specifications}
use Rattle.go_package_defs.specs.Declarations.{Specification, in_file, is_alone}
use Rattle.go_package_defs.specs.Knowledge.{Outline, is_type, outline_by, declaring, outlines}
use Rattle.go_package_defs.specs.Sources.{Source, Package, package_of, unit_of}
use Rattle.go_package_laws.proofs.Public.{each_more, needs_more}
use Rattle.go_package_settled.specs.Closure.{as_needed, needing}
use Rattle.go_package_settled.specs.Heights.{Needing}
use Rattle.go_package_settled.specs.Ordered.{Passes, NeedsWhole, NeedsSo, NeedsNames, NeedsTypes, NeedsNamed, type_needs}
use Rattle.go_package_settled.specs.Resolved.{IsIn, package_declarations, declared_in, AreResolved, NeedsAreNamed}
use Rattle.go_package_settled.proofs.Calling.{IsCalled, called, needed, needed_all, needs_same_ways}
use Rattle.go_package_settled.proofs.Columns.{InSpecs, AnyIn, Declares, any_at, declared_by_one, declares, each_tells, in_one_file, read_at, source_at, split_specs, tells_behind}
use Rattle.go_package_settled.proofs.Lists.{item_at, place_below}
use Rattle.go_package_settled.proofs.Looking.{Told}
use Rattle.go_package_settled.proofs.Naming.{AnyNamed, IsSpecified, file_named}
use Rattle.go_package_settled.proofs.Reading.{AreOrderedFiles, Read}
use Rattle.go_package_settled.proofs.Resolving.{IsShared, level_is, new_in, shared_at}
use Rattle.go_package_settled.proofs.Rights.{SiteFor, told_ways}
use Rattle.go_package_settled.proofs.Sites.{InRight, IsTypeNamed, uses_in_types}
use Rattle.go_package_settled.proofs.Sourced.{ValueTold, TypeTold, SpecTold, IsSourced, AreSourced, file_sourced}
use Rattle.go_package_settled.proofs.Specified.{AnyDeclared, AreTold, file_told}
use Rattle.go_package_settled.proofs.Tokens.{Tells, told_of}
use Rattle.go_package_settled.proofs.Uses.{IsAskedIn, UsesIt, asked_of, locals_apart}

-- ---- one declaration

-- where names stand in order, what is said of a declaration by the name of another one is said of that
module _ (R : Option ℕ → Type 0) where
  abbrev Says : ℕ → Declaration → Type 0
  Says t e = (e.name ≡ t) × R e.source

  none_before : (i j t : ℕ) (es : List Event) → AreInOrder i j es → AnyDeclared (Says t) es → i ≤ t
  none_before i j t [] o h = absurd h
  none_before i j t (event.Declaration d ∷ es) o (inl h) = let e = h.0 in let l = o.0 in omega (arith, l, e)
  none_before i j t (event.Declaration d ∷ es) o (inr h) = let r = none_before (suc d.name) j t es o.1 h in let l = o.0 in omega (arith, l, r)
  none_before i j t (event.Use u ∷ es) o h = let r = none_before (suc u.name) j t es o.1 h in let l = o.0 in omega (arith, l, r)
  none_before i j t (e ∷ es) o h = none_before i j t es o h

  said_of_it : (i j : ℕ) (x : Declaration) (es : List Event) → AreInOrder i j es → Tells x es → AnyDeclared (Says x.name) es → R x.source
  said_of_it i j x [] o t h = absurd t
  said_of_it i j x (event.Declaration d ∷ es) o (inl e) (inl h) = subst (λ (y : Declaration). R y.source) (sym e) h.1
  said_of_it i j x (event.Declaration d ∷ es) o (inl e) (inr h) =
      let s = ap (λ (y : Declaration). y.name) e in let r = none_before (suc d.name) j x.name es o.1 h in absurd (omega (arith, s, r))
  said_of_it i j x (event.Declaration d ∷ es) o (inr t) (inl h) = let s = h.0 in let r = tells_behind (suc d.name) j x es o.1 t in absurd (omega (arith, s, r))
  said_of_it i j x (event.Declaration d ∷ es) o (inr t) (inr h) = said_of_it (suc d.name) j x es o.1 t h
  said_of_it i j x (event.Use u ∷ es) o t h = said_of_it (suc u.name) j x es o.1 t h
  said_of_it i j x (e ∷ es) o t h = said_of_it i j x es o t h

used_each : (Q : Use → Type 0) (x : Use) (es : List Event) → EachUsed Q es → UsesIt x es → Q x
used_each Q x [] h t = absurd t
used_each Q x (event.Use u ∷ es) h (inl e) = subst Q (sym e) h.0
used_each Q x (event.Use u ∷ es) h (inr t) = used_each Q x es h.1 t
used_each Q x (event.Declaration d ∷ es) h t = used_each Q x es h t
used_each Q x (event.Import p ∷ es) h t = used_each Q x es h t
used_each Q x (event.Member m g i ∷ es) h t = used_each Q x es h t
used_each Q x (event.Bodiless i j ∷ es) h t = used_each Q x es h t
used_each Q x (event.Statement i j ∷ es) h t = used_each Q x es h t
used_each Q x (event.Misplaced i j ∷ es) h t = used_each Q x es h t
used_each Q x (event.SecondDefault i ∷ es) h t = used_each Q x es h t

none_named : (s : ℕ) (es : List Event) → EachDeclared (λ e. e.name ≡ s → is_type e.entity ≡ false) es → AnyDeclared (IsTypeNamed s) es → ⊥
none_named s [] h g = g
none_named s (event.Declaration d ∷ es) h (inl g) = let a = h.0 g.0 in let b = g.1 in absurd (grind (arith, a, b))
none_named s (event.Declaration d ∷ es) h (inr g) = none_named s es h.1 g
none_named s (event.Use u ∷ es) h g = none_named s es h g
none_named s (event.Import p ∷ es) h g = none_named s es h g
none_named s (event.Member m x i ∷ es) h g = none_named s es h g
none_named s (event.Bodiless i j ∷ es) h g = none_named s es h g
none_named s (event.Statement i j ∷ es) h g = none_named s es h g
none_named s (event.Misplaced i j ∷ es) h g = none_named s es h g
none_named s (event.SecondDefault i ∷ es) h g = none_named s es h g

-- ---- specifications in files

record IsAmong (k : ℕ) (ss : List Source) (x : Specification) : Type 0 where
  number : ℕ
  source : Source
  there : slice_get ss number ≡ Some source
  file : x.file ≡ k + number
  among : InSpecs x (in_file (k + number) source.tree)

one_file : (es : List Event) (n : ℕ) (xs : List Specification) (x : Specification) → AreTold es n xs → InSpecs x xs → x.file ≡ n
one_file es n [] x h k = absurd k
one_file es n (y ∷ ys) x h (inl e) = ap (λ (z : Specification). z.file) e ∙ h.0.file
one_file es n (y ∷ ys) x h (inr k) = one_file es n ys x h.1 k

all_among : (k : ℕ) (ss : List Source) (x : Specification) → Read ss → InSpecs x (specifications k ss) → IsAmong k ss x
all_among k [] x r h = absurd h
all_among k (s ∷ ss) x r h = by (split_specs x (in_file k s.tree) (specifications (suc k) ss) h) (λ q. all_among (suc k) ss x r.1 q)
  where
    by : InSpecs x (in_file k s.tree) ⊎ InSpecs x (specifications (suc k) ss) → (InSpecs x (specifications (suc k) ss) → IsAmong (suc k) ss x) → IsAmong k (s ∷ ss) x
    by (inl q) f =
        let none : k ≡ k + 0 = omega arith in
        record {
          number = 0;
          source = s;
          there = refl;
          file = one_file (unit_of s).events k (in_file k s.tree) x (file_told (kinds s.tokens.tokens) k s.tree r.0) q ∙ none;
          among = subst (λ m. InSpecs x (in_file m s.tree)) none q;
        }
    by (inr q) f =
        let t = f q in
        let next : suc k + t.number ≡ k + suc t.number = omega arith in
        record { number = suc t.number; source = t.source; there = t.there; file = t.file ∙ next; among = subst (λ m. InSpecs x (in_file m t.source.tree)) next t.among }

sourced_one : (ms : List Meaning) (n : ℕ) (ts : TokenList) (es : List Event) (xs : List Specification) (x : Specification) → AreSourced ms n ts es xs → InSpecs x xs → IsSourced ms n ts es x
sourced_one ms n ts es [] x h k = absurd k
sourced_one ms n ts es (y ∷ ys) x h (inl e) = subst (IsSourced ms n ts es) (sym e) h.0
sourced_one ms n ts es (y ∷ ys) x h (inr k) = sourced_one ms n ts es ys x h.1 k

-- ---- packages

passes_by : (f : ℕ → Bool) (o : Option Object) → ((m : ℕ) → o ≡ Some (object.Package m) → f m ≡ true) → Passes f o
passes_by f None h = tt
passes_by f (Some object.Import) h = tt
passes_by f (Some (object.Predeclared i)) h = tt
passes_by f (Some (object.Local g m)) h = tt
passes_by f (Some (object.Package m)) h = h m refl

whole_by : (x : Needing) (n : ℕ) (o : Option Object) → ((m : ℕ) → o ≡ Some (object.Package m) → (x.part n m ≡ true) × ((k : ℕ) → x.full m k ≡ true → x.part n k ≡ true)) → NeedsWhole x n o
whole_by x n None h = tt
whole_by x n (Some object.Import) h = tt
whole_by x n (Some (object.Predeclared i)) h = tt
whole_by x n (Some (object.Local g m)) h = tt
whole_by x n (Some (object.Package m)) h = h m refl

same_itself : (n : ℕ) → nat_eq n n ≡ true
same_itself n = eq-eqb n n refl

module _ (order : AreOrderedFiles) (ss : List Source) (r : Read ss) (a : AreResolved (map unit_of ss)) where
  abbrev us : List names.Unit
  us = map unit_of ss

  abbrev p : Package
  p = package_of ss (uses us)

  abbrev specs : List Specification
  specs = specifications 0 ss

  abbrev os : List Outline
  os = outlines p specs

  abbrev x : Needing
  x = needing p os (declared_in us) (length os)

  -- what declares an object, and its file
  record IsAt (d : Found) : Type 0 where
    source : Source
    there : slice_get us d.file ≡ Some (unit_of source)
    file : (declaring specs d.file d.it.name).0.file ≡ d.file
    column : (declaring specs d.file d.it.name).1 ≡ d.it.column
    told : SpecTold (meanings us) d.file (unit_of source).tokens (unit_of source).events (is_type (declaring specs d.file d.it.name).0.entity) (declaring specs d.file d.it.name).0 d.it.source

  same_source : (b c : Source) → ◌≡◌ {A = Option Source} (Some b) (Some c) → b ≡ c
  same_source b c e = cc

  unit_at : (n : ℕ) (s : Source) → slice_get ss n ≡ Some s → slice_get us n ≡ Some (unit_of s)
  unit_at n s e = slice_get-map unit_of ss n ∙ ap (option_map unit_of) e

  at_one : (d : Found) → IsIn d (found us) → is_package d.it.block ≡ true → IsAt d
  at_one d h b =
      let t = told_of 0 us d h in
      let n = t.number in
      let z : 0 + n ≡ n = omega arith in
      let file : d.file ≡ n = t.file ∙ z in
      let s = source_at ss n t.unit t.there in
      let read = read_at ss n s.0 r s.1 in
      let es : List Event = (unit_of s.0).events in
      let tells : Tells d.it es = subst (λ (u : names.Unit). Tells d.it u.events) (sym s.2) t.tells in
      let named : AnyNamed d.it.name (in_file n s.0.tree) = each_tells (IsSpecified (in_file n s.0.tree)) d.it es (file_named (kinds s.0.tokens.tokens) n s.0.tree read) tells b in
      let any : AnyIn n d.it.name (in_file n s.0.tree) = in_one_file n d.it.name es (in_file n s.0.tree) (file_told (kinds s.0.tokens.tokens) n s.0.tree read) named in
      let one : Declares specs n d.it.name = declares specs n d.it.name (any_at 0 ss n s.0 n d.it.name (sym z) s.1 any) in
      let among = all_among 0 ss one.specification r one.among in
      let y : 0 + among.number ≡ among.number = omega arith in
      let same : 0 + among.number ≡ n = sym among.file ∙ one.file in
      let source : among.source ≡ s.0 = same_source among.source s.0 (sym among.there ∙ ap (slice_get ss) (sym y ∙ same) ∙ s.1) in
      let there : InSpecs one.specification (in_file n s.0.tree) = subst (λ (q : Source). InSpecs one.specification (in_file n q.tree)) source (subst (λ m. InSpecs one.specification (in_file m among.source.tree)) same among.among) in
      let apart = locals_apart us a.orderly n (unit_of s.0) (unit_at n s.0 s.1) in
      let sourced = sourced_one (meanings us) n s.0.tokens es (in_file n s.0.tree) one.specification (file_sourced (meanings us) n s.0.tokens es apart (kinds s.0.tokens.tokens) s.0.tree read refl) there in
      let X : Specification = one.specification in
      let told : SpecTold (meanings us) n s.0.tokens es (is_type X.entity) X d.it.source =
      said_of_it (SpecTold (meanings us) n s.0.tokens es (is_type X.entity) X) 0 (last s.0.tree) d.it es (order (kinds s.0.tokens.tokens) s.0.tree read) tells (sourced d.it.name one.column one.place) in
      let is : declaring specs d.file d.it.name ≡ (X, one.column) = ap (λ m. declaring specs m d.it.name) file ∙ one.is in
      record {
        source = s.0;
        there = subst (λ m. slice_get us m ≡ Some (unit_of s.0)) (sym file) (unit_at n s.0 s.1);
        file = ap (λ q. q.0.file) is ∙ one.file ∙ sym file;
        column = (declared_by_one order ss r d h b).column;
        told = subst (λ m. SpecTold (meanings us) m s.0.tokens es (is_type (declaring specs d.file d.it.name).0.entity) (declaring specs d.file d.it.name).0 d.it.source) (sym file)
            (subst (λ (q : Specification). SpecTold (meanings us) n s.0.tokens es (is_type q.entity) q d.it.source) (sym (ap (λ q. q.0) is)) told);
      }

  -- ---- one object

  module _ (n : ℕ) (d : Found) (e : declared_in us n ≡ Some d) (t : IsAt d) where
    abbrev ms : List Meaning
    ms = meanings us

    abbrev ts : TokenList
    ts = t.source.tokens

    abbrev es : List Event
    es = (unit_of t.source).events

    abbrev X : Specification
    X = (declaring specs d.file d.it.name).0

    abbrev C : ℕ
    C = (declaring specs d.file d.it.name).1

    abbrev IsOne : (Site → Type 0) → ℕ → Type 0
    IsOne S m = IsCalled ss a S d.file m

    one_called : (S : Site → Type 0) (i m : ℕ) → Told ms d.file ts es S i → object_of p.uses X.file i ≡ Some (object.Package m) → IsOne S m
    one_called S i m h q = called ss a d.file (unit_of t.source) S i m t.there h (ap (λ f. object_of p.uses f i) (sym t.file) ∙ q)

    in_full_by : (S : Site → Type 0) → ((s : Site) → S s → way d.it true s ≡ Some true) → (i : ℕ) → Told ms d.file ts es S i → Passes (x.full n) (object_of p.uses X.file i)
    in_full_by S w i h = passes_by (x.full n) (object_of p.uses X.file i) (λ m q. let c = one_called S i m h q in needed ss a n d e S m c true true (w c.it.it.site c.site))

    in_part_by : (S : Site → Type 0) → ((s : Site) → S s → way d.it false s ≡ Some false) → (i : ℕ) → Told ms d.file ts es S i → Passes (x.part n) (object_of p.uses X.file i)
    in_part_by S w i h = passes_by (x.part n) (object_of p.uses X.file i) (λ m q. let c = one_called S i m h q in needed ss a n d e S m c false false (w c.it.it.site c.site))

    wholly_by : (S : Site → Type 0) → ((s : Site) → S s → way d.it false s ≡ Some true) → (i : ℕ) → Told ms d.file ts es S i → NeedsWhole x n (object_of p.uses X.file i)
    wholly_by S w i h =
        whole_by x n (object_of p.uses X.file i) (λ m q. let c = one_called S i m h q in (
          needed ss a n d e S m c false true (w c.it.it.site c.site),
          λ k g. needed_all ss a n d e S m c false (w c.it.it.site c.site) k g,
        ))

    -- ---- constants, variables and functions

    type_way : (s : ℕ) → d.it.source ≡ Some s → (z : Site) → z ≡ site.Type s → way d.it true z ≡ Some true
    type_way s q z f = ap (way d.it true) f ∙ ap (λ o. way_by o d.it.column true (site.Type s)) q ∙ ap (λ b. if_so b (Some true)) (same_itself s)

    value_way : (s c k : ℕ) → d.it.source ≡ Some s → (nat_eq c d.it.column || nat_eq k 1) ≡ true → (z : Site) → z ≡ site.Value s c (nat_eq k 1) → way d.it true z ≡ Some true
    value_way s c k q g z f =
        ap (way d.it true) f ∙ ap (λ o. way_by o d.it.column true (site.Value s c (nat_eq k 1))) q ∙ ap (λ b. if_so (b && (nat_eq c d.it.column || nat_eq k 1)) (Some true)) (same_itself s)
        ∙ ap (λ b. if_so b (Some true)) g

    type_names : ValueTold ms d.file ts es X d.it.source → (o : Option Tree) → X.type_tree ≡ o → NeedsNames x n p X o
    type_names v None q = tt
    type_names v (Some u) q =
        let w = v.type u q in
        each_more (Told ms d.file ts es (λ z. z ≡ site.Type w.0)) (λ i. Passes (x.full n) (object_of p.uses X.file i)) (λ i h. in_full_by (λ z. z ≡ site.Type w.0) (type_way w.0 w.1) i h) u w.2

    value_at : ValueTold ms d.file ts es X d.it.source → (c : ℕ) → (nat_eq c d.it.column || nat_eq (length X.values) 1) ≡ true → (o : Option Tree) → slice_get X.values c ≡ o → NeedsNames x n p X o
    value_at v c g None q = tt
    value_at v c g (Some u) q =
        let w = v.values c u q in
        each_more (Told ms d.file ts es (λ z. z ≡ site.Value w.0 c (nat_eq (length X.values) 1))) (λ i. Passes (x.full n) (object_of p.uses X.file i))
        (λ i h. in_full_by (λ z. z ≡ site.Value w.0 c (nat_eq (length X.values) 1)) (value_way w.0 c (length X.values) w.1 g) i h) u w.2

    alone_one : (b c : Bool) → (b && c) ≡ true → c ≡ true
    alone_one true c q = q
    alone_one false c q = absurd cc

    or_second : (b c : Bool) → c ≡ true → (b || c) ≡ true
    or_second true c q = refl
    or_second false c q = q

    or_first : (b c : Bool) → b ≡ true → (b || c) ≡ true
    or_first true c q = refl
    or_first false c q = absurd cc

    own_names : ValueTold ms d.file ts es X d.it.source → (b : Bool) → is_alone X ≡ b → NeedsNames x n p X (slice_get X.values (if b then 0 else C))
    own_names v true q = value_at v 0 (or_second (nat_eq 0 d.it.column) (nat_eq (length X.values) 1) (alone_one (is_variable X.entity) (nat_eq (length X.values) 1) q)) (slice_get X.values 0) refl
    own_names v false q = value_at v C (or_first (nat_eq C d.it.column) (nat_eq (length X.values) 1) (eq-eqb C d.it.column t.column)) (slice_get X.values C) refl

    -- ---- types

    right_is : (s : ℕ) (f : Bool) (k : Reach) → d.it.source ≡ Some s → way d.it f (site.Right s k) ≡ right_way f k
    right_is s f k q = ap (λ o. way_by o d.it.column f (site.Right s k)) q ∙ ap (λ b. if_so b (right_way f k)) (same_itself s)

    length_needed : (s : ℕ) → d.it.source ≡ Some s → (i : ℕ) → Told ms d.file ts es (λ z. z ≡ site.Right s reach.Length) i → NeedsWhole x n (object_of p.uses X.file i)
    length_needed s q i h = wholly_by (λ z. z ≡ site.Right s reach.Length) (λ z f. ap (way d.it false) f ∙ right_is s false reach.Length q) i h

    so_needed : (s : ℕ) → d.it.source ≡ Some s → (need : Needed) (i : ℕ) → Told ms d.file ts es (SiteFor s need) i → NeedsSo x n need (object_of p.uses X.file i)
    so_needed s q loosely i h = in_full_by (SiteFor s loosely) (λ z f. ap (way d.it true) f ∙ right_is s true reach.Indirect q) i h
    so_needed s q at_once i h = in_part_by (SiteFor s at_once) (λ z f. ap (way d.it false) f ∙ right_is s false reach.Direct q) i h
    so_needed s q in_full i h = length_needed s q i h

    type_right : TypeTold ms d.file ts es X d.it.source → (o : Option Tree) → X.type_tree ≡ o → NeedsTypes x n p X o
    type_right v None q = tt
    type_right v (Some u) q =
        needs_more (told_ways ms d.file ts es v.number) (type_needs x n p X) (λ need i h. so_needed v.number v.is need i h) (λ i h. length_needed v.number v.is i h) (λ i h. h) type_place u (v.right u q)

    abbrev O : Outline
    O = outline_by p (declared_by d) (declaring specs d.file d.it.name)

    named_by : (b : Bool) → SpecTold ms d.file ts es b X d.it.source → NeedsNamed x p n O b
    named_by true v = type_right v X.type_tree refl
    named_by false v = (type_names v X.type_tree refl, own_names v (is_alone X) refl)

    -- ---- one that is no type

    apart_ways : ValueTold ms d.file ts es X d.it.source → needs p.asked (as_needed d true) ≡ needs p.asked (as_needed d false)
    apart_ways v = needs_same_ways p.asked d alone
      where
        same_unit : (b c : names.Unit) → ◌≡◌ {A = Option names.Unit} (Some b) (Some c) → b ≡ c
        same_unit b c q = cc

        alone : (b : Asked) → IsAskedIn b p.asked → b.file ≡ d.file → (s : ℕ) (k : Reach) → b.it.site ≡ site.Right s k → d.it.source ≡ Some s → ⊥
        alone b h f s k g q =
            let o = asked_of (meanings us) 0 us b h in
            let z : 0 + o.number ≡ o.number = omega arith in
            let unit : o.unit ≡ unit_of t.source = same_unit o.unit (unit_of t.source) (sym o.there ∙ ap (slice_get us) (sym z ∙ sym o.file ∙ f) ∙ t.there) in
            let uses : UsesIt b.it es = subst (λ (w : names.Unit). UsesIt b.it w.events) unit o.uses in
            let right = used_each (λ w. InRight (λ c. AnyDeclared (IsTypeNamed c) es) w.site) b.it es (uses_in_types t.source.tree (last t.source.tree)) uses in
            none_named s es (v.plain s q) (subst (InRight (λ c. AnyDeclared (IsTypeNamed c) es)) g right)

    whole_ways : (b : Bool) → SpecTold ms d.file ts es b X d.it.source → b ≡ false → needs p.asked (as_needed d true) ≡ needs p.asked (as_needed d false)
    whole_ways true v f = absurd cc
    whole_ways false v f = apart_ways v

  -- ---- all objects

  abbrev made : Declared → Outline
  made y = outline_by p y (declaring specs y.file y.name)

  level_at : (n : ℕ) (d : Found) → declared_in us n ≡ Some d → slice_get p.uses.package_level n ≡ Some (declared_by d)
  level_at n d e = ap (λ xs. slice_get xs n) (level_is (declarations us)) ∙ slice_get-map declared_by (package_declarations (declarations us)) n ∙ ap (option_map declared_by) e

  outline_at : (n : ℕ) (o : Outline) (d : Found) → slice_get os n ≡ Some o → declared_in us n ≡ Some d → o ≡ made (declared_by d)
  outline_at n o d e f = same_outline o (made (declared_by d)) (sym e ∙ slice_get-map made p.uses.package_level n ∙ ap (option_map made) (level_at n d f))
    where
      same_outline : (b c : Outline) → ◌≡◌ {A = Option Outline} (Some b) (Some c) → b ≡ c
      same_outline b c q = cc

  at_number : (n : ℕ) (d : Found) → declared_in us n ≡ Some d → IsAt d
  at_number n d e =
      let s : IsShared (declarations us) d = shared_at (declarations us) n d e in
      at_one d (new_in (found us) (found us) d s.among) s.block

  there : (n : ℕ) (o : Outline) → slice_get os n ≡ Some o → (d : Found) × (declared_in us n ≡ Some d)
  there n o e =
      let l = place_below os n o e in
      let c : length os ≡ length p.uses.package_level = length-map p.uses.package_level made in
      let m : length p.uses.package_level ≡ length (package_declarations (declarations us)) = ap length (level_is (declarations us)) ∙ length-map (package_declarations (declarations us)) declared_by in
      item_at (package_declarations (declarations us)) n (let h : n < length (package_declarations (declarations us)) = omega (arith, l, c, m) in h)

  -- what its specification names
  pub needs_are_named : NeedsAreNamed p os (declared_in us)
  needs_are_named = record {
    whole = λ n o d e f b.
        let t = at_number n d f in
        whole_ways n d f t (is_type (declaring specs d.file d.it.name).0.entity) t.told (sym (ap (λ (z : Outline). is_type z.specification.entity) (outline_at n o d e f)) ∙ b);
    named = λ n o e.
        let d = there n o e in
        let t = at_number n d.0 d.1 in
        subst (λ (z : Outline). NeedsNamed x p n z (is_type z.specification.entity)) (sym (outline_at n o d.0 e d.1))
        (named_by n d.0 d.1 t (is_type (declaring specs d.0.file d.0.it.name).0.entity) t.told);
  }
