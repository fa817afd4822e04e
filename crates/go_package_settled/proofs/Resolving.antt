-- The declarations of a package whose names are free of faults need what they name.
use Rattle.std.proofs.Common.{◌≡◌, ◌∙◌, ℕ, zero, suc, ◌<◌, ◌≤◌, ◌⊎◌, inl, inr, Bool, true, false, ◌&&◌, ◌||◌, nat_eq, List, [], ◌∷◌, ◌++◌, map, length, Option, Some, None, refl, sym, ap, subst, arith}
use Rattle.std.specs.Prelude.{slice_get, if◌then◌else◌}
use Rattle.std.specs.Option.{option_map}
use Rattle.std.proofs.lemmas.List.{length-map}
use Rattle.std.proofs.lemmas.Option.{slice_get-map}
use Rattle.go_tokens.specs.Tokens.{TokenList}
use Rattle.go_tree.specs.declared.event.Event.{Event}
use Rattle.go_tree.specs.declared.event.Event.TheVariants as event
use Rattle.go_tree.specs.declared.object.Declared.{Declared}
use Rattle.go_tree.specs.declared.object.Object.TheVariants as object
use Rattle.go_tree.specs.Contexts.{is_package}
use Rattle.go_tree.specs.Declarations.{Found, found_in, found_from, found, is_new, new_among, declarations}
use Rattle.go_tree.specs.Lookups.{Asked}
use Rattle.go_tree.specs.Needs.{is_same, needs_itself}
use Rattle.go_tree.specs.Units as names
use Rattle.go_tree.specs.Uses.{declared_by, declared_in_package, uses}
use Rattle.go_scopes_events.specs.Orders.{AreInOrder}
use Rattle.go_scopes_events.specs.Scopes.{AreOrderly}
use Rattle.go_scopes_cycles.specs.Closure.{rounds, any_itself, IsLike, AllLike, IsDeclared}
use Rattle.go_scopes_cycles.specs.Columns.{IsSource}
use Rattle.go_package_defs.specs.Answer.{specifications}
use Rattle.go_package_defs.specs.Declarations.{Specification}
use Rattle.go_package_defs.specs.Knowledge.{Outline, is_type, outline_by, declaring, outlines}
use Rattle.go_package_defs.specs.Sources.{Source, Package, package_of, unit_of, number_in, number_at, declared_at, needed_by, needed_from, needed_at}
use Rattle.go_package_settled.specs.Closure.{as_needed, AreDeclaredBy, AreNeeding}
use Rattle.go_package_settled.specs.Resolved.{IsIn, package_declarations, declared_in, AreResolved, SpecificationsTell}
use Rattle.go_package_settled.proofs.Closure.{same_file, same_name}
use Rattle.go_package_settled.proofs.Lists.{item_at, place_below}
use Rattle.go_package_settled.proofs.Tokens.{local_apart}

-- ---- each name is declared once

-- it stands in the file n at the token i or behind that, or in a later file
abbrev IsAfter : ℕ → ℕ → Found → Type 0
IsAfter n i d = (n < d.file) ⊎ ((n ≡ d.file) × (i ≤ d.it.name))

-- each stands behind the one in front of it
abbrev Follow : ℕ → ℕ → List Found → Type 0
Follow n i [] = Unit {0}
Follow n i (d ∷ ds) = IsAfter n i d × Follow d.file (suc d.it.name) ds

after_less : (n i j : ℕ) (d : Found) → i ≤ j → IsAfter n j d → IsAfter n i d
after_less n i j d l (inl h) = inl h
after_less n i j d l (inr h) = inr (h.0, (let k = h.1 in omega (arith, l, k)))

follow_less : (n i j : ℕ) (ds : List Found) → i ≤ j → Follow n j ds → Follow n i ds
follow_less n i j [] l h = tt
follow_less n i j (d ∷ ds) l h = (after_less n i j d l h.0, h.1)

after_on : (n i : ℕ) (d e : Found) → IsAfter n i d → IsAfter d.file (suc d.it.name) e → IsAfter n i e
after_on n i d e (inl h) (inl k) = inl (omega (arith, h, k))
after_on n i d e (inl h) (inr k) = inl (subst (λ m. n < m) k.0 h)
after_on n i d e (inr h) (inl k) = inl (subst (λ m. m < e.file) (sym h.0) k)
after_on n i d e (inr h) (inr k) = inr (h.0 ∙ k.0, (let a = h.1 in let b = k.1 in omega (arith, a, b)))

-- those of later files
follow_file : (n i : ℕ) (ds : List Found) → Follow (suc n) 0 ds → Follow n i ds
follow_file n i [] h = tt
follow_file n i (d ∷ ds) h = (later d h.0, h.1)
  where
    later : (e : Found) → IsAfter (suc n) 0 e → IsAfter n i e
    later e (inl k) = inl (omega (arith, k))
    later e (inr k) = inl (subst (λ m. n < m) k.0 (omega arith))

follow_in : (n i j : ℕ) (ts : TokenList) (es : List Event) (rest : List Found) → AreInOrder i j es → Follow (suc n) 0 rest → Follow n i (found_in n ts es ++ rest)
follow_in n i j ts [] rest h k = follow_file n i rest k
follow_in n i j ts (event.Declaration d ∷ es) rest h k = (inr (refl, h.0), follow_in n (suc d.name) j ts es rest h.1 k)
follow_in n i j ts (event.Use u ∷ es) rest h k = follow_less n i (suc u.name) (found_in n ts es ++ rest) (let a = h.0 in omega (arith, a)) (follow_in n (suc u.name) j ts es rest h.1 k)
follow_in n i j ts (e ∷ es) rest h k = follow_in n i j ts es rest h k

pub follow_found : (n : ℕ) (us : List names.Unit) → AreOrderly us → Follow n 0 (found_from n us)
follow_found n [] h = tt
follow_found n (u ∷ us) h = follow_in n 0 h.0.end u.tokens u.events (found_from (suc n) us) h.0.order (follow_found (suc n) us h.1)

in_after : (n i : ℕ) (ds : List Found) (y : Found) → Follow n i ds → IsIn y ds → IsAfter n i y
in_after n i [] y h k = absurd k
in_after n i (d ∷ ds) y h (inl e) = subst (IsAfter n i) (sym e) h.0
in_after n i (d ∷ ds) y h (inr k) = after_on n i d y h.0 (in_after d.file (suc d.it.name) ds y h.1 k)

not_behind : (x y : Found) → is_same x y ≡ true → IsAfter x.file (suc x.it.name) y → ⊥
not_behind x y e (inl h) = let f = same_file x y e in omega (arith, h, f)
not_behind x y e (inr h) = let f = same_name x y e in let k = h.1 in omega (arith, k, f)

not_before : (x y : Found) → is_same x y ≡ true → IsAfter y.file (suc y.it.name) x → ⊥
not_before x y e (inl h) = let f = same_file x y e in omega (arith, h, f)
not_before x y e (inr h) = let f = same_name x y e in let k = h.1 in omega (arith, k, f)

pub distinct : (n i : ℕ) (ds : List Found) (x y : Found) → Follow n i ds → IsIn x ds → IsIn y ds → is_same x y ≡ true → x ≡ y
distinct n i [] x y h k l e = absurd k
distinct n i (d ∷ ds) x y h (inl p) (inl q) e = p ∙ sym q
distinct n i (d ∷ ds) x y h (inl p) (inr l) e = absurd (not_behind x y e (subst (λ z. IsAfter z.file (suc z.it.name) y) (sym p) (in_after d.file (suc d.it.name) ds y h.1 l)))
distinct n i (d ∷ ds) x y h (inr k) (inl q) e = absurd (not_before x y e (subst (λ z. IsAfter z.file (suc z.it.name) x) (sym q) (in_after d.file (suc d.it.name) ds x h.1 k)))
distinct n i (d ∷ ds) x y h (inr k) (inr l) e = distinct d.file (suc d.it.name) ds x y h.1 k l e

-- ---- members

same_itself : (d : Found) → is_same d d ≡ true
same_itself d = grind arith

pub new_in : (all xs : List Found) (d : Found) → IsIn d (new_among all xs) → IsIn d xs
new_in all [] d h = absurd h
new_in all (x ∷ xs) d h = by (is_new all x) h (λ k. new_in all xs d k)
  where
    by : (b : Bool) → IsIn d (if b then x ∷ new_among all xs else new_among all xs) → (IsIn d (new_among all xs) → IsIn d xs) → IsIn d (x ∷ xs)
    by true (inl e) f = inl e
    by true (inr k) f = inr (f k)
    by false k f = inr (f k)

-- It is one of the declarations, and one of the package block.
pub record IsShared (ds : List Found) (d : Found) : Type 0 where
  pub among : IsIn d ds
  pub block : is_package d.it.block ≡ true

shared_more : (x d : Found) (ds : List Found) → IsShared ds d → IsShared (x ∷ ds) d
shared_more x d ds h = record { among = inr h.among; block = h.block }

same_found : (d e : Found) → ◌≡◌ {A = Option Found} (Some d) (Some e) → e ≡ d
same_found d e q = cc

pub shared_at : (ds : List Found) (n : ℕ) (d : Found) → slice_get (package_declarations ds) n ≡ Some d → IsShared ds d
shared_at [] n d e = absurd cc
shared_at (x ∷ ds) n d e = by (is_package x.it.block) refl n e (λ m q. shared_at ds m d q)
  where
    by : (b : Bool) → is_package x.it.block ≡ b → (m : ℕ) → slice_get (if b then x ∷ package_declarations ds else package_declarations ds) m ≡ Some d
        → ((m : ℕ) → slice_get (package_declarations ds) m ≡ Some d → IsShared ds d) → IsShared (x ∷ ds) d
    by true q zero h f = record { among = inl (same_found x d h); block = ap (λ y. is_package y.it.block) (same_found x d h) ∙ q }
    by true q (suc m) h f = shared_more x d ds (f m h)
    by false q m h f = shared_more x d ds (f m h)

place_of : (ds : List Found) (d : Found) → IsIn d ds → is_package d.it.block ≡ true → (k : ℕ) × (slice_get (package_declarations ds) k ≡ Some d)
place_of [] d h b = absurd h
place_of (x ∷ ds) d (inl e) b =
    let q : is_package x.it.block ≡ true = sym (ap (λ y. is_package y.it.block) e) ∙ b in
    (0, ap (λ c. slice_get (if c then x ∷ package_declarations ds else package_declarations ds) 0) q ∙ ap (λ y. Some y) (sym e))
place_of (x ∷ ds) d (inr h) b = by (is_package x.it.block) refl (place_of ds d h b)
  where
    by : (c : Bool) → is_package x.it.block ≡ c → (k : ℕ) × (slice_get (package_declarations ds) k ≡ Some d) → (k : ℕ) × (slice_get (if is_package x.it.block then x ∷ package_declarations ds else package_declarations ds) k ≡ Some d)
    by true q r = (suc r.0, ap (λ z. slice_get (if z then x ∷ package_declarations ds else package_declarations ds) (suc r.0)) q ∙ r.1)
    by false q r = (r.0, ap (λ z. slice_get (if z then x ∷ package_declarations ds else package_declarations ds) r.0) q ∙ r.1)

-- the objects of the package, by their declarations
pub level_is : (ds : List Found) → declared_in_package ds ≡ map declared_by (package_declarations ds)
level_is [] = refl
level_is (d ∷ ds) = by (is_package d.it.block) (level_is ds)
  where
    by : (b : Bool) → declared_in_package ds ≡ map declared_by (package_declarations ds)
        → (if b then declared_by d ∷ declared_in_package ds else declared_in_package ds) ≡ map declared_by (if b then d ∷ package_declarations ds else package_declarations ds)
    by true e = ap (λ xs. declared_by d ∷ xs) e
    by false e = e

-- what is declared has one of the declarations of its name
declared_one : (e : Found) (ds : List Found) → IsDeclared e ds → (x : Found) × IsIn x ds × (is_same e x ≡ true)
declared_one e [] h = absurd h
declared_one e (d ∷ ds) (inl q) = (d, inl refl, q)
declared_one e (d ∷ ds) (inr h) = let r = declared_one e ds h in (r.0, inr r.1, r.2)

like_one : (asks : List Asked) (ds : List Found) (d : Found) → AllLike asks ds → IsIn d ds → IsLike asks d
like_one asks [] d h k = absurd k
like_one asks (x ∷ ds) d h (inl e) = subst (IsLike asks) (sym e) h.0
like_one asks (x ∷ ds) d h (inr k) = like_one asks ds d h.1 k

or_parts : (b c : Bool) → (b || c) ≡ false → (b ≡ false) × (c ≡ false)
or_parts true c e = absurd cc
or_parts false c e = (refl, e)

none_itself : (asks : List Asked) (k : ℕ) (ds : List Found) (d : Found) → any_itself asks k ds ≡ false → IsIn d ds → needs_itself asks k d ≡ false
none_itself asks k [] d h i = absurd i
none_itself asks k (x ∷ ds) d h (inl e) = subst (λ y. needs_itself asks k y ≡ false) (sym e) (or_parts (needs_itself asks k x) (any_itself asks k ds) h).0
none_itself asks k (x ∷ ds) d h (inr i) = none_itself asks k ds d (or_parts (needs_itself asks k x) (any_itself asks k ds) h).1 i

-- the declaration of a name among those of all files
found_at : (all : List Found) (d : Found) → ((y : Found) → IsIn y all → is_same y d ≡ true → y ≡ d) → (xs : List Found) → ((y : Found) → IsIn y xs → IsIn y all) → IsIn d xs → declared_at d.file d.it.name xs ≡ Some d
found_at all d one [] sub h = absurd h
found_at all d one (x ∷ xs) sub h = by (is_same x d) refl h (λ k. found_at all d one xs (λ y i. sub y (inr i)) k)
  where
    by : (b : Bool) → is_same x d ≡ b → IsIn d (x ∷ xs) → (IsIn d xs → declared_at d.file d.it.name xs ≡ Some d) → (if b then Some x else declared_at d.file d.it.name xs) ≡ Some d
    by true q i f = ap (λ y. Some y) (one x (sub x (inl refl)) q)
    by false q (inl e) f = absurd (let s : is_same x d ≡ true = subst (λ y. is_same y d ≡ true) e (same_itself d) in grind (arith, s, q))
    by false q (inr i) f = f i

-- ---- packages

module _ (ss : List Source) where
  abbrev us : List names.Unit
  us = map unit_of ss

  abbrev p : Package
  p = package_of ss (uses us)

  abbrev specs : List Specification
  specs = specifications 0 ss

  abbrev os : List Outline
  os = outlines p specs

  abbrev ds : List Found
  ds = declarations us

  module _ (r : AreResolved us) (t : SpecificationsTell p os (declared_in us)) where
    level_at : (n : ℕ) (d : Found) → declared_in us n ≡ Some d → slice_get p.uses.package_level n ≡ Some (declared_by d)
    level_at n d e =
        ap (λ xs. slice_get xs n) (level_is ds) ∙ slice_get-map declared_by (package_declarations ds) n ∙ ap (option_map declared_by) e

    -- ---- numbers

    number_is : (n : ℕ) (d : Found) → declared_in us n ≡ Some d → number_at p d.file d.it.name ≡ Some n
    number_is n d e = ap number_in (r.complete.own (object.Package n) (declared_by d) (level_at n d e))

    same_numbers : (d e : Found) → is_same d e ≡ true → number_at p d.file d.it.name ≡ number_at p e.file e.it.name
    same_numbers d e s = ap (λ f. number_at p f d.it.name) (same_file d e s) ∙ ap (number_at p e.file) (same_name d e s)

    turned : (d e : Found) → is_same d e ≡ true → is_same e d ≡ true
    turned d e s =
        let f = same_file d e s in
        let g = same_name d e s in
        ap (λ n. nat_eq e.file n && nat_eq e.it.name d.it.name) f ∙ ap (λ n. nat_eq e.file e.file && nat_eq e.it.name n) g ∙ same_itself e

    same_number : (m n : ℕ) → ◌≡◌ {A = Option ℕ} (Some m) (Some n) → m ≡ n
    same_number m n e = cc

    no_number : (m : ℕ) → ◌≡◌ {A = Option ℕ} None (Some m) → ⊥
    no_number m e = cc

    -- a local is no object of the package
    apart : (x : Found) → IsIn x ds → is_package x.it.block ≡ false → number_at p x.file x.it.name ≡ None
    apart x i b =
        let f = new_in (found us) (found us) x i in
        local_apart us r.orderly x f i
        (λ y j s. subst (λ (z : Found). is_package z.it.block ≡ false) (sym (distinct 0 0 (found us) y x (follow_found 0 us r.orderly) (new_in (found us) (found us) y j) f s)) b)

    called_by : (e x : Found) (m : ℕ) (b : Bool) → IsIn x ds → is_same e x ≡ true → number_at p e.file e.it.name ≡ Some m → is_package x.it.block ≡ b → (d : Found) × (declared_in us m ≡ Some d) × (is_same d e ≡ true)
    called_by e x m true i s q b =
        let k = place_of ds x i b in
        let same : k.0 ≡ m = same_number k.0 m (sym (number_is k.0 x k.1) ∙ sym (same_numbers e x s) ∙ q) in
        (x, subst (λ n. declared_in us n ≡ Some x) same k.1, turned e x s)
    called_by e x m false i s q b = absurd (no_number m (sym (apart x i b) ∙ sym (same_numbers e x s) ∙ q))

    called : (e : Found) (m : ℕ) → IsSource e p.asked → number_at p e.file e.it.name ≡ Some m → (d : Found) × (declared_in us m ≡ Some d) × (is_same d e ≡ true)
    called e m h q = let x = declared_one e ds (r.order.declared e h) in called_by e x.0 m (is_package x.0.it.block) x.1 x.2 q refl

    -- ---- outlines

    first_declared : (d : Found) → IsIn d ds → declared_at d.file d.it.name p.declared ≡ Some d
    first_declared d h =
        let all = found us in
        let i = new_in all all d h in
        found_at all d (λ y j s. distinct 0 0 all y d (follow_found 0 us r.orderly) j i s) all (λ y j. j) i

    abbrev made : Declared → Outline
    made x = outline_by p x (declaring specs x.file x.name)

    outline_at : (n : ℕ) (o : Outline) (d : Found) → slice_get os n ≡ Some o → declared_in us n ≡ Some d → o ≡ made (declared_by d)
    outline_at n o d e f =
        same_outline o (made (declared_by d)) (sym e ∙ slice_get-map made p.uses.package_level n ∙ ap (option_map made) (level_at n d f))
      where
        same_outline : (a b : Outline) → ◌≡◌ {A = Option Outline} (Some a) (Some b) → a ≡ b
        same_outline a b q = cc

    -- a declaration with its own column is itself
    own_column : (d : Found) (c : ℕ) (f : Bool) → c ≡ d.it.column → needed_by p (record { it = record d { it = record (d.it) { column = c } }; full = f }) ≡ needed_by p (as_needed d f)
    own_column d c f e = ap (λ k. needed_by p (record { it = record d { it = record (d.it) { column = k } }; full = f })) e

    needs_are : (n : ℕ) (o : Outline) (d : Found) (f : Bool) → slice_get os n ≡ Some o → declared_in us n ≡ Some d → needed_at p d.file d.it.name o.column f ≡ needed_by p (as_needed d f)
    needs_are n o d f e g =
        ap (needed_from p o.column f) (first_declared d (shared_at ds n d g).among) ∙ own_column d o.column f (t.column n o d e g)

    fully_is : (n : ℕ) (o : Outline) (d : Found) → slice_get os n ≡ Some o → declared_in us n ≡ Some d → o.fully ≡ needed_by p (as_needed d true)
    fully_is n o d e g =
        let same = outline_at n o d e g in
        ap (λ (z : Outline). z.fully) same ∙ ap (λ (z : Outline). needed_at p d.file d.it.name z.column true) (sym same) ∙ needs_are n o d true e g

    partly_is : (n : ℕ) (o : Outline) (d : Found) → slice_get os n ≡ Some o → declared_in us n ≡ Some d → o.partly ≡ needed_by p (as_needed d false)
    partly_is n o d e g =
        let same = outline_at n o d e g in
        ap (λ (z : Outline). z.partly) same ∙ ap (λ (z : Outline). needed_at p d.file d.it.name z.column false) (sym same) ∙ needs_are n o d false e g

    -- ---- all objects

    count : length p.uses.package_level ≡ length os
    count = sym (length-map p.uses.package_level made)

    level_count : length p.uses.package_level ≡ length (package_declarations ds)
    level_count = ap length (level_is ds) ∙ length-map (package_declarations ds) declared_by

    there : (n : ℕ) (o : Outline) → slice_get os n ≡ Some o → (d : Found) × (declared_in us n ≡ Some d)
    there n o e =
        let l = place_below os n o e in
        let c = count in
        let m = level_count in
        item_at (package_declarations ds) n (let h : n < length (package_declarations ds) = omega (arith, l, c, m) in h)

    sources : AreDeclaredBy p os (declared_in us)
    sources = record {
      alike = r.order.one_each.0;
      there = there;
      like = λ n d e. like_one p.asked ds d r.order.one_each.1 (shared_at ds n d e).among;
      number = number_is;
      called = called;
      itself = λ n d e. none_itself p.asked (rounds p.asked) ds d r.order.itself (shared_at ds n d e).among;
      partly = partly_is;
      fully = fully_is;
      whole = t.needs.whole;
    }

    entities : (n : ℕ) (o : Outline) (x : Declared) → slice_get os n ≡ Some o → slice_get p.uses.package_level n ≡ Some x → is_type o.specification.entity ≡ is_type x.entity
    entities n o x e f =
        let d = there n o e in
        t.entity n o d.0 e d.1 ∙ ap (λ (y : Declared). is_type y.entity) (same_level (declared_by d.0) x (sym (level_at n d.0 d.1) ∙ f))
      where
        same_level : (a b : Declared) → ◌≡◌ {A = Option Declared} (Some a) (Some b) → a ≡ b
        same_level a b q = cc

    pub are_needing : AreNeeding p os (declared_in us)
    are_needing = record { count = count; entities = entities; sources = sources; named = t.needs.named }
