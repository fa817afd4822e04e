-- The names of the package block, found by their places in heads.
use Rattle.std.proofs.Common.{◌≡◌, ◌∙◌, ℕ, suc, ◌+◌, ◌-◌, ◌<◌, ◌≤◌, ◌⊎◌, inl, inr, Bool, true, false, List, [], ◌∷◌, ◌++◌, map, Option, Some, None, refl, sym, ap, subst, arith}
use Rattle.std.specs.Prelude.{if◌then◌else◌, ◌&&◌, not, nat_eq, slice_get}
use Rattle.std.proofs.lemmas.Bool.Decides.{nat_tests}
use Rattle.go_tokens.specs.Tokens.{TokenList, kinds}
use Rattle.go_grammar.specs.Trees.{last, parts}
use Rattle.go_tree.specs.declared.event.Declaration.{Declaration}
use Rattle.go_tree.specs.declared.event.Event.{Event}
use Rattle.go_tree.specs.declared.event.Event.TheVariants as event
use Rattle.go_tree.specs.Contexts.{is_package}
use Rattle.go_tree.specs.Declarations.{Found, found_in, found_from, found}
use Rattle.go_tree.specs.Units.{word, bytes_at}
use Rattle.go_scopes_events.specs.Orders.{AreInOrder, EachDeclared}
use Rattle.go_scopes_events.proofs.Public.{each_between, each_map}
use Rattle.go_heads.specs.Functions.{AreRead}
use Rattle.go_heads.specs.Heads.{File, IsRead, in_bodies, place_outside}
use Rattle.go_heads.proofs.Public.{place_next, place_order, IsHeaded, file_headed, each_both, StandFrom, stand_from, Other, Among, among, Every, every_append}
use Rattle.go_package_defs.specs.Sources.{is_at, declared_at}
use Rattle.go_heads.specs.Objects.{units_of, file_in, head_place}
use Rattle.go_heads.specs.Told.{NewName, Told, declares, asks, new_name, told, placed, place_of, file_events, told_outside}
use Rattle.go_heads.proofs.Public as fresh
use Rattle.go_heads.specs.Meanings.{StandsOutside}
use Rattle.go_heads_types.proofs.Sited.{SourceOut, IsAgreed, Agreed, file_agreed}

-- the name that is declared at a place
abbrev pub find_new : ℕ → List Told → Option NewName
find_new k [] = None
find_new k (declares x ∷ xs) = if nat_eq x.name k then Some x else find_new k xs
find_new k (asks x ∷ xs) = find_new k xs

pub equal_test : (n : ℕ) → nat_eq n n ≡ true
equal_test n = grind (arith, nat_tests)

pub same_test : (a b : ℕ) → nat_eq a b ≡ true → a ≡ b
same_test a b e = grind (arith, nat_tests)

less_test : (a b : ℕ) → a < b → nat_eq a b ≡ false
less_test a b lt = grind (arith, nat_tests)

more_test : (a b : ℕ) → b < a → nat_eq a b ≡ false
more_test a b lt = grind (arith, nat_tests)

other_test : (a b : ℕ) → nat_eq a b ≡ false → nat_eq b a ≡ false
other_test a b e = grind (arith, nat_tests)

module _ (p : ℕ → Bool) where
  abbrev m : ℕ → ℕ
  m = place_outside p

  less_place : (a b : ℕ) → p a ≡ false → a < b → m a < m b
  less_place a b e lt = let z : suc a + (b - suc a) ≡ b = omega (arith, lt) in omega (arith, place_next p a e, place_order p (suc a) (b - suc a), ap m z)

  -- two tokens outside of bodies are one exactly where their places are
  pub place_test : (a b : ℕ) → p a ≡ false → p b ≡ false → nat_eq (m a) (m b) ≡ nat_eq a b
  place_test a b e f = by (order a b)
    where
      order : (a b : ℕ) → (a < b) ⊎ (b < a) ⊎ (a ≡ b)
      order a b = grind arith

      by : (a < b) ⊎ (b < a) ⊎ (a ≡ b) → nat_eq (m a) (m b) ≡ nat_eq a b
      by (inl lt) = less_test (m a) (m b) (less_place a b e lt) ∙ sym (less_test a b lt)
      by (inr (inl lt)) = more_test (m a) (m b) (less_place b a f lt) ∙ sym (more_test a b lt)
      by (inr (inr q)) = ap (λ c. nat_eq (m a) (m c)) (sym q) ∙ equal_test (m a) ∙ sym (ap (λ c. nat_eq a c) (sym q) ∙ equal_test a)

  abbrev pub placed_new : Declaration → NewName
  placed_new d = record { name = m d.name; entity = d.entity; manner = d.manner; source = place_of m d.source; column = d.column }

  abbrev pub listing : List Event → List Told
  listing es = map (placed m) (told p es)

  -- a name that is none of these
  skipped : (k : ℕ) (d : Declaration) (xs : List Told) (b : Bool) → (b ≡ true → nat_eq (m d.name) k ≡ false) → find_new k (map (placed m) (if b then declares (new_name d) ∷ xs else xs)) ≡ find_new k (map (placed m) xs)
  skipped k d xs true h = ap (λ c. if c then Some (placed_new d) else find_new k (map (placed m) xs)) (h refl)
  skipped k d xs false h = refl

  outer : (a b : Bool) → (a && not b) ≡ true → b ≡ false
  outer true true e = cc
  outer true false e = refl
  outer false b e = cc

  asked_aside : (k : ℕ) (u : Told) (xs : List Told) (b : Bool) → find_new k (map (placed m) (u ∷ xs)) ≡ find_new k (map (placed m) xs) → find_new k (map (placed m) (if b then xs else u ∷ xs)) ≡ find_new k (map (placed m) xs)
  asked_aside k u xs true e = refl
  asked_aside k u xs false e = e

  -- in front of all these names there is none
  none_before : (t i j : ℕ) (es : List Event) → AreInOrder i j es → t < i → p t ≡ false → find_new (m t) (listing es) ≡ None
  none_before t i j [] o lt e = refl
  none_before t i j (event.Declaration d ∷ es) o lt e =
      skipped (m t) d (told p es) (is_package d.block && not (p d.name)) (λ h. place_test d.name t (outer (is_package d.block) (p d.name) h) e ∙ more_test d.name t (omega (arith, lt, o.0)))
      ∙ none_before t (suc d.name) j es o.1 (omega (arith, lt, o.0)) e
  none_before t i j (event.Use u ∷ es) o lt e = asked_aside (m t) (asks _) (told p es) (p u.name) refl ∙ none_before t (suc u.name) j es o.1 (omega (arith, lt, o.0)) e
  none_before t i j (event.Import k ∷ es) o lt e = none_before t i j es o lt e
  none_before t i j (event.Member a g k ∷ es) o lt e = none_before t i j es o lt e
  none_before t i j (event.Bodiless a k ∷ es) o lt e = none_before t i j es o lt e
  none_before t i j (event.Statement a k ∷ es) o lt e = none_before t i j es o lt e
  none_before t i j (event.Misplaced a k ∷ es) o lt e = none_before t i j es o lt e
  none_before t i j (event.SecondDefault k ∷ es) o lt e = none_before t i j es o lt e

  there : (d : Declaration) (xs : List Told) → is_package d.block ≡ true → p d.name ≡ false → find_new (m d.name) (map (placed m) (if is_package d.block && not (p d.name) then declares (new_name d) ∷ xs else xs)) ≡ Some (placed_new d)
  there d xs b e =
      ap (λ c. find_new (m d.name) (map (placed m) (if c && not (p d.name) then declares (new_name d) ∷ xs else xs))) b
      ∙ ap (λ c. find_new (m d.name) (map (placed m) (if true && not c then declares (new_name d) ∷ xs else xs))) e
      ∙ ap (λ c. if c then Some (placed_new d) else find_new (m d.name) (map (placed m) xs)) (equal_test (m d.name))

  -- each name of the package block is found
  abbrev IsFound : List Event → Declaration → Type 0
  IsFound es d = is_package d.block ≡ true → p d.name ≡ false → find_new (m d.name) (listing es) ≡ Some (placed_new d)

  all_found : (i j : ℕ) (es : List Event) → AreInOrder i j es → EachDeclared (IsFound es) es
  all_found i j [] o = tt
  all_found i j (event.Declaration e ∷ es) o = (
    λ b f. there e (told p es) b f,
    each_both (IsFound es) (λ d. (suc e.name ≤ d.name) × (d.name < j)) (IsFound (event.Declaration e ∷ es)) es
        (λ d h le b f.
        skipped (m d.name) e (told p es) (is_package e.block && not (p e.name)) (λ g. place_test e.name d.name (outer (is_package e.block) (p e.name) g) f ∙ less_test e.name d.name (omega (arith, le.0)))
        ∙ h b f)
        (all_found (suc e.name) j es o.1) (each_between (suc e.name) j (suc e.name) j es (omega arith) (omega arith) o.1),
  )
  all_found i j (event.Use u ∷ es) o =
      each_map (IsFound es) (IsFound (event.Use u ∷ es)) es (λ d h b f. asked_aside (m d.name) (asks _) (told p es) (p u.name) refl ∙ h b f) (all_found (suc u.name) j es o.1)
  all_found i j (event.Import k ∷ es) o = all_found i j es o
  all_found i j (event.Member a g k ∷ es) o = all_found i j es o
  all_found i j (event.Bodiless a k ∷ es) o = all_found i j es o
  all_found i j (event.Statement a k ∷ es) o = all_found i j es o
  all_found i j (event.Misplaced a k ∷ es) o = all_found i j es o
  all_found i j (event.SecondDefault k ∷ es) o = all_found i j es o

  -- ---- the declaration at a token

  module _ (n : ℕ) (l : TokenList) (t : ℕ) (out : p t ≡ false) where
    -- what is declared at the token, and the name of the package block at its place
    abbrev pub ToldAs : Option Found → Option NewName → Type 0
    ToldAs None None = Unit {0}
    ToldAs None (Some v) = ⊥
    ToldAs (Some d) None = d.it.source ≡ None
    ToldAs (Some d) (Some v) = (d.file ≡ n) × (d.it.name ≡ t) × (v ≡ placed_new d.it) × SourceOut p d.it.source

    abbrev find : Declaration → Found
    find d = record { file = n; name = word l d.name; place = bytes_at n l d.name; it = d }

    at_name : (d : Declaration) (b : Bool) → nat_eq d.name t ≡ b → is_at n t (find d) ≡ b
    at_name d b e = ap (λ c. c && nat_eq d.name t) (equal_test n) ∙ e

    here_told : (d : Declaration) (j : ℕ) (es : List Event) (c : Bool) → is_package d.block ≡ c → d.name ≡ t → IsAgreed p d → AreInOrder (suc d.name) j es
        → ToldAs (Some (find d)) (find_new (m t) (map (placed m) (if is_package d.block && not (p d.name) then declares (new_name d) ∷ told p es else told p es)))
    here_told d j es true b same h o =
        let off : p d.name ≡ false = ap p same ∙ out in
        subst (ToldAs (Some (find d))) (sym (ap (λ k. find_new k (map (placed m) (if is_package d.block && not (p d.name) then declares (new_name d) ∷ told p es else told p es))) (ap m (sym same)) ∙ there d (told p es) b off))
        (refl, same, refl, (h off).0)
    here_told d j es false b same h o =
        let off : p d.name ≡ false = ap p same ∙ out in
        subst (ToldAs (Some (find d))) (sym (ap (λ c. find_new (m t) (map (placed m) (if c && not (p d.name) then declares (new_name d) ∷ told p es else told p es))) b ∙ none_before t (suc d.name) j es o (omega (arith, same)) out))
        ((h off).1 b)

    pub declared_told : (i j : ℕ) (es : List Event) → AreInOrder i j es → Agreed p es → ToldAs (declared_at n t (found_in n l es)) (find_new (m t) (listing es))
    declared_told i j [] o h = tt
    declared_told i j (event.Declaration d ∷ es) o h = by (nat_eq d.name t) refl (declared_told (suc d.name) j es o.1 h.1)
      where
        by : (b : Bool) → nat_eq d.name t ≡ b → ToldAs (declared_at n t (found_in n l es)) (find_new (m t) (listing es))
            → ToldAs (declared_at n t (find d ∷ found_in n l es)) (find_new (m t) (listing (event.Declaration d ∷ es)))
        by true e go =
            subst (λ c. ToldAs (if c then Some (find d) else declared_at n t (found_in n l es)) (find_new (m t) (listing (event.Declaration d ∷ es)))) (sym (at_name d true e))
            (here_told d j es (is_package d.block) refl (same_test d.name t e) h.0 o.1)
        by false e go =
            subst (λ c. ToldAs (if c then Some (find d) else declared_at n t (found_in n l es)) (find_new (m t) (listing (event.Declaration d ∷ es)))) (sym (at_name d false e))
            (subst (ToldAs (declared_at n t (found_in n l es)))
            (sym (skipped (m t) d (told p es) (is_package d.block && not (p d.name)) (λ g. place_test d.name t (outer (is_package d.block) (p d.name) g) out ∙ e))) go)
    declared_told i j (event.Use u ∷ es) o h =
        subst (ToldAs (declared_at n t (found_in n l es))) (sym (asked_aside (m t) (asks _) (told p es) (p u.name) refl)) (declared_told (suc u.name) j es o.1 h.1)
    declared_told i j (event.Import k ∷ es) o h = declared_told i j es o h
    declared_told i j (event.Member a g k ∷ es) o h = declared_told i j es o h
    declared_told i j (event.Bodiless a k ∷ es) o h = declared_told i j es o h
    declared_told i j (event.Statement a k ∷ es) o h = declared_told i j es o h
    declared_told i j (event.Misplaced a k ∷ es) o h = declared_told i j es o h
    declared_told i j (event.SecondDefault k ∷ es) o h = declared_told i j es o h

-- ---- among the declarations of all files

module _ (n t : ℕ) where
  pub none_other : (xs : List Found) → fresh.Every (Other n) xs → declared_at n t xs ≡ None
  none_other [] h = refl
  none_other (d ∷ xs) h = ap (λ b. if b && nat_eq d.it.name t then Some d else declared_at n t xs) (other_test n d.file h.0) ∙ none_other xs h.1

  past : (xs ys : List Found) → declared_at n t xs ≡ None → declared_at n t (xs ++ ys) ≡ declared_at n t ys
  past [] ys h = refl
  past (d ∷ xs) ys h = by (is_at n t d) h (past xs ys)
    where
      by : (b : Bool) → (if b then Some d else declared_at n t xs) ≡ None → (declared_at n t xs ≡ None → declared_at n t (xs ++ ys) ≡ declared_at n t ys) → (if b then Some d else declared_at n t (xs ++ ys)) ≡ declared_at n t ys
      by true e go = absurd cc
      by false e go = go e

  before : (xs ys : List Found) → declared_at n t ys ≡ None → declared_at n t (xs ++ ys) ≡ declared_at n t xs
  before [] ys h = h
  before (d ∷ xs) ys h = ap (λ o. if is_at n t d then Some d else o) (before xs ys h)

  pub declared_in_file : (fs : List File) (f : File) → slice_get fs n ≡ Some f → declared_at n t (found (units_of fs)) ≡ declared_at n t (found_in n f.tokens (file_events f))
  declared_in_file fs f there =
      let z : n ≡ 0 + n = omega arith in
      let a : Among n f (found_from 0 (units_of fs)) = among 0 n n fs f z there in
      ap (declared_at n t) a.whole ∙ past a.front (found_in n f.tokens (file_events f) ++ a.behind) (none_other a.front a.front_other)
      ∙ before (found_in n f.tokens (file_events f)) a.behind (none_other a.behind a.behind_other)

-- ---- each of them

module _ (all : List File) where
  abbrev bodies_in : ℕ → ℕ → Bool
  bodies_in n = in_bodies (parts (file_in all n).tree)

  -- A name of the package block stands outside of bodies, with its specification, and is found at its place.
  pub record IsLooked (d : Found) : Type 0 where
    pub outside : StandsOutside all d.file d.it.name
    pub source : SourceOut (bodies_in d.file) d.it.source
    pub found : find_new (head_place all d.file d.it.name) (told_outside (file_in all d.file)) ≡ Some (placed_new (bodies_in d.file) d.it)

  abbrev pub Looked : Found → Type 0
  Looked d = is_package d.it.block ≡ true → IsLooked d

  abbrev OfFile : (ℕ → Bool) → List Told → Declaration → Type 0
  OfFile p ts d = is_package d.block ≡ true → (p d.name ≡ false) × SourceOut p d.source × (find_new (place_outside p d.name) ts ≡ Some (placed_new p d))

  of_events : (f : File) (es : List Event) → EachDeclared (IsHeaded (kinds f.tokens.tokens) (in_bodies (parts f.tree))) es → Agreed (in_bodies (parts f.tree)) es → (ts : List Told)
      → EachDeclared (λ d. is_package d.block ≡ true → in_bodies (parts f.tree) d.name ≡ false → find_new (place_outside (in_bodies (parts f.tree)) d.name) ts ≡ Some (placed_new (in_bodies (parts f.tree)) d)) es
      → EachDeclared (OfFile (in_bodies (parts f.tree)) ts) es
  of_events f [] h g ts k = tt
  of_events f (event.Declaration d ∷ es) h g ts k = (λ b. let off = (h.0 b).1 in (off, (g.0 off).0, k.0 b off), of_events f es h.1 g.1 ts k.1)
  of_events f (event.Use u ∷ es) h g ts k = of_events f es h g.1 ts k
  of_events f (event.Import i ∷ es) h g ts k = of_events f es h g ts k
  of_events f (event.Member a c i ∷ es) h g ts k = of_events f es h g ts k
  of_events f (event.Bodiless i j ∷ es) h g ts k = of_events f es h g ts k
  of_events f (event.Statement i j ∷ es) h g ts k = of_events f es h g ts k
  of_events f (event.Misplaced i j ∷ es) h g ts k = of_events f es h g ts k
  of_events f (event.SecondDefault i ∷ es) h g ts k = of_events f es h g ts k

  in_found : (n : ℕ) (f : File) → file_in all n ≡ f → (es : List Event) → EachDeclared (OfFile (in_bodies (parts f.tree)) (told_outside f)) es → Every Looked (found_in n f.tokens es)
  in_found n f here [] h = tt
  in_found n f here (event.Declaration d ∷ es) h = (
    λ b.
        let k = h.0 b in
        let back : f ≡ file_in all n = sym here in
        record {
          outside = subst (λ (g : File). in_bodies (parts g.tree) d.name ≡ false) back k.0;
          source = subst (λ (g : File). SourceOut (in_bodies (parts g.tree)) d.source) back k.1;
          found = subst (λ (g : File). find_new (place_outside (in_bodies (parts g.tree)) d.name) (told_outside g) ≡ Some (placed_new (in_bodies (parts g.tree)) d)) back k.2;
        },
    in_found n f here es h.1,
  )
  in_found n f here (event.Import i ∷ es) h = in_found n f here es h
  in_found n f here (event.Use u ∷ es) h = in_found n f here es h
  in_found n f here (event.Member a c i ∷ es) h = in_found n f here es h
  in_found n f here (event.Bodiless i j ∷ es) h = in_found n f here es h
  in_found n f here (event.Statement i j ∷ es) h = in_found n f here es h
  in_found n f here (event.Misplaced i j ∷ es) h = in_found n f here es h
  in_found n f here (event.SecondDefault i ∷ es) h = in_found n f here es h

  abbrev pub AreOrdered : Type 0
  AreOrdered = (f : File) → IsRead f → AreInOrder 0 (last f.tree) (file_events f)

  from_files : AreOrdered → (n : ℕ) (fs : List File) → AreRead fs → StandFrom all n fs → Every Looked (found_from n (units_of fs))
  from_files order n [] h s = tt
  from_files order n (f ∷ fs) h s =
      let ts = kinds f.tokens.tokens in
      every_append Looked (found_in n f.tokens (file_events f)) (found_from (suc n) (units_of fs))
      (in_found n f s.0 (file_events f) (of_events f (file_events f) (file_headed ts f.tree h.0.tree) (file_agreed ts f.tree h.0.tree) (told_outside f)
      (all_found (in_bodies (parts f.tree)) 0 (last f.tree) (file_events f) (order f h.0))))
      (from_files order (suc n) fs h.1 s.1)

pub all_looked : (fs : List File) → AreOrdered fs → AreRead fs → Every (Looked fs) (found (units_of fs))
all_looked fs order h = from_files fs order 0 fs h (stand_from fs 0 fs (λ k. let z : 0 + k ≡ k = omega arith in ap (file_in fs) z))
