-- What declarations need where a function is put in that nothing names.
use Rattle.std.proofs.Common.{◌≡◌, ℕ, zero, suc, ◌<◌, ◌≤◌, Bool, true, false, ◌&&◌, ◌||◌, List, [], ◌∷◌, ◌++◌, map, Option, Some, None, refl, sym, ap, subst, ◌∙◌, append-nil, arith}
use Rattle.std.specs.Prelude.{if◌then◌else◌, nat_eq}
use Rattle.std.specs.Option.{option_map}
use Rattle.std.specs.List.{AllByRecursion}
use Rattle.std.proofs.lemmas.Bool.{eqb-true}
use Rattle.std.proofs.lemmas.Bool.Decides.{nat_tests}
use Rattle.go_tokens.specs.Spellings.{same_text}
use Rattle.go_tokens.specs.Tokens.{TokenList}
use Rattle.go_tree.specs.declared.context.Site.{Site}
use Rattle.go_tree.specs.declared.context.Site.TheVariants as site
use Rattle.go_tree.specs.declared.event.Event.{Event}
use Rattle.go_tree.specs.declared.event.Event.TheVariants as event
use Rattle.go_tree.specs.declared.event.Use.{Use}
use Rattle.go_tree.specs.Declarations.{Found}
use Rattle.go_tree.specs.Extents.{covers}
use Rattle.go_tree.specs.Lookups.{Asked, asked, asked_in, asked_from}
use Rattle.go_tree.specs.Meanings.{Meaning, Numbers, numbers_behind, numbered, imported_meaning, imported_from, covering, is_innermost, innermost_of, meaning_at}
use Rattle.go_tree.specs.Needs.{Needed, right_way, if_so, is_source, way_by, way, needed_source, needed_meaning, needs, is_same, needs_of, is_among, same_way, is_known, with_one, with_all, all_needed, needs_itself}
use Rattle.go_tree.specs.Units.{Unit, word, is_blank}
use Rattle.go_tree.specs.Imports.{imports_fmt}
use Rattle.go_heads_added.specs.Added.{Gap, longer}
use Rattle.go_heads_added.specs.Within.{SiteWithin, SourceWithin, SiteBehind, SourceBehind}
use Rattle.go_heads_added.proofs.Asks.{AreMoved, AsksFollow}
use Rattle.go_heads_added.proofs.Numbers.{moved}
use Rattle.go_heads_added.proofs.Texts.{all_both, all_front, all_behind, all_more}

-- ---- what each meaning has, each name that is looked up has

module _ (Q : Meaning → Type 0) where
  abbrev pub Maybe : Option Meaning → Type 0
  Maybe None = Prim.Unit {0}
  Maybe (Some m) = Q m

  covering_has : (n t : ℕ) (w : List ℕ) (ms : List Meaning) → AllByRecursion Q ms → AllByRecursion Q (covering n t w ms)
  covering_has n t w [] h = tt
  covering_has n t w (m ∷ ms) h = by (same_text m.name w && covers m.extent n t) (covering_has n t w ms h.1)
    where
      by : (b : Bool) → AllByRecursion Q (covering n t w ms) → AllByRecursion Q (if b then m ∷ covering n t w ms else covering n t w ms)
      by true g = (h.0, g)
      by false g = g

  innermost_has : (all ms : List Meaning) → AllByRecursion Q ms → Maybe (innermost_of all ms)
  innermost_has all [] h = tt
  innermost_has all (m ∷ ms) h = by (is_innermost m.extent all) (innermost_has all ms h.1)
    where
      by : (b : Bool) → Maybe (innermost_of all ms) → Maybe (if b then Some m else innermost_of all ms)
      by true g = h.0
      by false g = g

  meaning_has : (ms : List Meaning) → AllByRecursion Q ms → (n t : ℕ) (w : List ℕ) → Maybe (meaning_at ms n t w)
  meaning_has ms h n t w = innermost_has (covering n t w ms) (covering n t w ms) (covering_has n t w ms h)

  pub asked_has : (ms : List Meaning) → AllByRecursion Q ms → (n : ℕ) (ts : TokenList) (es : List Event) → AllByRecursion (λ a. Maybe a.meaning) (asked_in ms n ts es)
  asked_has ms h n ts [] = tt
  asked_has ms h n ts (event.Use u ∷ es) = by (is_blank (word ts u.name)) (asked_has ms h n ts es)
    where
      by : (b : Bool) → AllByRecursion (λ a. Maybe a.meaning) (asked_in ms n ts es) → AllByRecursion (λ a. Maybe a.meaning) (if b then asked_in ms n ts es else asked ms n ts u ∷ asked_in ms n ts es)
      by true g = g
      by false g = (meaning_has ms h n u.name (word ts u.name), g)
  asked_has ms h n ts (e ∷ es) = asked_has ms h n ts es

  pub from_has : (ms : List Meaning) → AllByRecursion Q ms → (n : ℕ) (us : List Unit) → AllByRecursion (λ a. Maybe a.meaning) (asked_from ms n us)
  from_has ms h n [] = tt
  from_has ms h n (u ∷ us) = all_both (λ a. Maybe a.meaning) (asked_in ms n u.tokens u.events) (asked_from ms (suc n) us) (asked_has ms h n u.tokens u.events) (from_has ms h (suc n) us)

-- what the declarations have that meanings come from
abbrev pub SourceHas : (Found → Type 0) → Option Found → Type 0
SourceHas R None = Prim.Unit {0}
SourceHas R (Some d) = R d

pub numbered_has : (R : Found → Type 0) (k : Numbers) (ds : List Found) → AllByRecursion R ds → AllByRecursion (λ m. SourceHas R m.source) (numbered k ds)
numbered_has R k [] h = tt
numbered_has R k (d ∷ ds) h = (h.0, numbered_has R (numbers_behind k d.it.entity d.it.block) ds h.1)

pub imports_have : (R : Found → Type 0) (n : ℕ) (us : List Unit) → AllByRecursion (λ m. SourceHas R m.source) (imported_from n us)
imports_have R n [] = tt
imports_have R n (u ∷ us) = by (imports_fmt u.tokens u.events) (imports_have R (suc n) us)
  where
    by : (b : Bool) → AllByRecursion (λ m. SourceHas R m.source) (imported_from (suc n) us) → AllByRecursion (λ m. SourceHas R m.source) (if b then imported_meaning n ∷ imported_from (suc n) us else imported_from (suc n) us)
    by true g = (tt, g)
    by false g = g

-- ---- names of one specification

if_none : (b : Bool) → if_so b None ≡ None
if_none true = refl
if_none false = refl

if_false : (b : Bool) (w : Option Bool) → b ≡ false → if_so b w ≡ None
if_false true w e = cc
if_false false w e = refl

and_front : (a b : Bool) → a ≡ false → (a && b) ≡ false
and_front true b e = cc
and_front false b e = refl

no_way : (own : ℕ) (f : Bool) (x : Site) → way_by None own f x ≡ None
no_way own f site.Elsewhere = refl
no_way own f (site.Type s) = refl
no_way own f (site.Value s c a) = refl
no_way own f (site.Right s r) = refl

module _ (n : ℕ) where
  apart_in_front : (o : Option ℕ) (s : ℕ) → SourceWithin n o → n ≤ s → is_source s o ≡ false
  apart_in_front None s h l = refl
  apart_in_front (Some m) s h l = grind (arith, nat_tests)

  apart_behind : (o : Option ℕ) (s : ℕ) → SourceBehind n o → s < n → is_source s o ≡ false
  apart_behind None s h l = refl
  apart_behind (Some m) s h l = grind (arith, nat_tests)

  way_in_front : (o : Option ℕ) (own : ℕ) (f : Bool) (x : Site) → SourceWithin n o → SiteBehind n x → way_by o own f x ≡ None
  way_in_front o own f site.Elsewhere h l = refl
  way_in_front o own f (site.Type s) h l = if_false (is_source s o) (Some true) (apart_in_front o s h l)
  way_in_front o own f (site.Value s c a) h l = if_false (is_source s o && (nat_eq c own || a)) (Some true) (and_front (is_source s o) (nat_eq c own || a) (apart_in_front o s h l))
  way_in_front o own f (site.Right s r) h l = if_false (is_source s o) (right_way f r) (apart_in_front o s h l)

  way_behind : (o : Option ℕ) (own : ℕ) (f : Bool) (x : Site) → SourceBehind n o → SiteWithin n x → way_by o own f x ≡ None
  way_behind o own f site.Elsewhere h l = refl
  way_behind o own f (site.Type s) h l = if_false (is_source s o) (Some true) (apart_behind o s h l)
  way_behind o own f (site.Value s c a) h l = if_false (is_source s o && (nat_eq c own || a)) (Some true) (and_front (is_source s o) (nat_eq c own || a) (apart_behind o s h l))
  way_behind o own f (site.Right s r) h l = if_false (is_source s o) (right_way f r) (apart_behind o s h l)

none_second : (b : Bool) → (b && false) ≡ false
none_second true = refl
none_second false = refl

-- ---- what is needed

-- The name is not needed.
abbrev IsAside : Needed → Asked → Type 0
IsAside x a = if_so (nat_eq a.file x.it.file) (way x.it.it x.full a.it.site) ≡ None

needs_none : (xs : List Asked) (x : Needed) → AllByRecursion (IsAside x) xs → needs xs x ≡ []
needs_none [] x h = refl
needs_none (a ∷ xs) x h = ap (λ w. needed_meaning w a.meaning (needs xs x)) h.0 ∙ needs_none xs x h.1

source_append : (f : Bool) (s : Option Found) (ns ms : List Needed) → needed_source f s (ns ++ ms) ≡ needed_source f s ns ++ ms
source_append f None ns ms = refl
source_append f (Some d) ns ms = refl

meaning_append : (w : Option Bool) (m : Option Meaning) (ns ms : List Needed) → needed_meaning w m (ns ++ ms) ≡ needed_meaning w m ns ++ ms
meaning_append None m ns ms = refl
meaning_append (Some f) None ns ms = refl
meaning_append (Some f) (Some m) ns ms = source_append f m.source ns ms

needs_append : (xs ys : List Asked) (x : Needed) → needs (xs ++ ys) x ≡ needs xs x ++ needs ys x
needs_append [] ys x = refl
needs_append (a ∷ xs) ys x =
    let w = if_so (nat_eq a.file x.it.file) (way x.it.it x.full a.it.site) in
    ap (needed_meaning w a.meaning) (needs_append xs ys x) ∙ meaning_append w a.meaning (needs xs x) (needs ys x)

nothing_needed : (asks : List Asked) (r : ℕ) → all_needed asks r [] ≡ []
nothing_needed asks zero = refl
nothing_needed asks (suc r) = nothing_needed asks r

-- one that has no specification needs nothing
pub sourceless : (asks : List Asked) (r : ℕ) (d : Found) → d.it.source ≡ None → needs_itself asks r d ≡ false
sourceless asks r d e =
    let x : Needed = record { it = d; full = false } in
    ap (λ l. is_among d (all_needed asks r (with_all l []))) (needs_none asks x (each asks)) ∙ ap (is_among d) (nothing_needed asks r)
  where
    each : (xs : List Asked) → AllByRecursion (IsAside (record { it = d; full = false })) xs
    each [] = tt
    each (a ∷ xs) = (ap (λ o. if_so (nat_eq a.file d.file) (way_by o d.it.column false a.it.site)) e ∙ ap (if_so (nat_eq a.file d.file)) (no_way d.it.column false a.it.site) ∙ if_none (nat_eq a.file d.file), each xs)

module _ (k n end : ℕ) (g : Gap) where
  -- a declaration of the file stands in front of the token n, with its specification
  abbrev pub IsOld : Found → Type 0
  IsOld d = nat_eq d.file k ≡ true → (d.it.name < n) × SourceWithin n d.it.source

  abbrev pub IsOldNeeded : Needed → Type 0
  IsOldNeeded x = IsOld x.it

  abbrev pub to : Needed → Needed
  to x = record { it = longer k end x.it; full = x.full }

  to_append : (xs ys : List Needed) → map to (xs ++ ys) ≡ map to xs ++ map to ys
  to_append [] ys = refl
  to_append (x ∷ xs) ys = ap (λ l. to x ∷ l) (to_append xs ys)

  -- ---- the same needs

  source_moved : (f : Bool) (s : Option Found) (ns : List Needed) → needed_source f (option_map (longer k end) s) (map to ns) ≡ map to (needed_source f s ns)
  source_moved f None ns = refl
  source_moved f (Some d) ns = refl

  meaning_moved : (w : Option Bool) (m : Option Meaning) (ns : List Needed) → needed_meaning w (option_map (moved k end g) m) (map to ns) ≡ map to (needed_meaning w m ns)
  meaning_moved None m ns = refl
  meaning_moved (Some f) None ns = refl
  meaning_moved (Some f) (Some m) ns = source_moved f m.source ns

  needs_moved : (os bs : List Asked) → AreMoved k end g os bs → (x : Needed) → needs bs (to x) ≡ map to (needs os x)
  needs_moved [] [] h x = refl
  needs_moved [] (b ∷ bs) h x = absurd h
  needs_moved (a ∷ os) [] h x = absurd h
  needs_moved (a ∷ os) (b ∷ bs) h x =
      let w = if_so (nat_eq a.file x.it.file) (way x.it.it x.full a.it.site) in
      ap (λ i. needed_meaning (if_so (nat_eq i x.it.file) (way x.it.it x.full b.it.site)) b.meaning (needs bs (to x))) h.0.file
      ∙ ap (λ (u : Use). needed_meaning (if_so (nat_eq a.file x.it.file) (way x.it.it x.full u.site)) b.meaning (needs bs (to x))) h.0.it
      ∙ ap (λ m. needed_meaning w m (needs bs (to x))) h.0.meaning ∙ ap (needed_meaning w (option_map (moved k end g) a.meaning)) (needs_moved os bs h.1 x) ∙ meaning_moved w a.meaning (needs os x)

  needs_same : (mid os bs : List Asked) → AsksFollow k end g mid os bs → (x : Needed) → AllByRecursion (IsAside (to x)) mid → needs bs (to x) ≡ map to (needs os x)
  needs_same mid os bs h x a =
      ap (λ l. needs l (to x)) h.is ∙ needs_append h.first_new (mid ++ h.second_new) (to x)
      ∙ ap (λ l. needs h.first_new (to x) ++ l) (needs_append mid h.second_new (to x) ∙ ap (λ l. l ++ needs h.second_new (to x)) (needs_none mid (to x) a))
      ∙ ap (λ l. l ++ needs h.second_new (to x)) (needs_moved h.first h.first_new h.front x) ∙ ap (λ l. map to (needs h.first x) ++ l) (needs_moved h.second h.second_new h.rest x)
      ∙ sym (to_append (needs h.first x) (needs h.second x)) ∙ ap (map to) (sym (needs_append h.first h.second x)) ∙ ap (λ l. map to (needs l x)) (sym h.was)

  -- ---- rounds

  known_same : (x : Needed) (xs : List Needed) → is_known (to x) (map to xs) ≡ is_known x xs
  known_same x [] = refl
  known_same x (y ∷ xs) = ap (λ b. (is_same x.it y.it && same_way x.full y.full) || b) (known_same x xs)

  one_same : (x : Needed) (xs : List Needed) → with_one (to x) (map to xs) ≡ map to (with_one x xs)
  one_same x xs = ap (λ b. if b then map to xs else map to xs ++ to x ∷ []) (known_same x xs) ∙ by (is_known x xs)
    where
      by : (b : Bool) → (if b then map to xs else map to xs ++ to x ∷ []) ≡ map to (if b then xs else xs ++ x ∷ [])
      by true = refl
      by false = sym (to_append xs (x ∷ []))

  all_same : (ys xs : List Needed) → with_all (map to ys) (map to xs) ≡ map to (with_all ys xs)
  all_same [] xs = refl
  all_same (y ∷ ys) xs = ap (with_all (map to ys)) (one_same y xs) ∙ all_same ys (with_one y xs)

  among_same : (d : Found) (xs : List Needed) → is_among (longer k end d) (map to xs) ≡ is_among d xs
  among_same d [] = refl
  among_same d (x ∷ xs) = ap (λ b. is_same d x.it || b) (among_same d xs)

  -- ---- old declarations need old ones

  abbrev pub MeansOld : Option Meaning → Type 0
  MeansOld m = Maybe (λ x. SourceHas IsOld x.source) m

  source_old : (f : Bool) (s : Option Found) (ns : List Needed) → SourceHas IsOld s → AllByRecursion IsOldNeeded ns → AllByRecursion IsOldNeeded (needed_source f s ns)
  source_old f None ns h a = a
  source_old f (Some d) ns h a = (h, a)

  meaning_old : (w : Option Bool) (m : Option Meaning) (ns : List Needed) → MeansOld m → AllByRecursion IsOldNeeded ns → AllByRecursion IsOldNeeded (needed_meaning w m ns)
  meaning_old None m ns h a = a
  meaning_old (Some f) None ns h a = a
  meaning_old (Some f) (Some m) ns h a = source_old f m.source ns h a

  needs_old : (os : List Asked) → AllByRecursion (λ a. MeansOld a.meaning) os → (x : Needed) → AllByRecursion IsOldNeeded (needs os x)
  needs_old [] h x = tt
  needs_old (a ∷ os) h x = meaning_old (if_so (nat_eq a.file x.it.file) (way x.it.it x.full a.it.site)) a.meaning (needs os x) h.0 (needs_old os h.1 x)

  each_old : (os : List Asked) → AllByRecursion (λ a. MeansOld a.meaning) os → (xs : List Needed) → AllByRecursion IsOldNeeded (needs_of os xs)
  each_old os h [] = tt
  each_old os h (x ∷ xs) = all_both IsOldNeeded (needs os x) (needs_of os xs) (needs_old os h x) (each_old os h xs)

  one_old : (x : Needed) (xs : List Needed) → IsOldNeeded x → AllByRecursion IsOldNeeded xs → AllByRecursion IsOldNeeded (with_one x xs)
  one_old x xs h a = by (is_known x xs)
    where
      by : (b : Bool) → AllByRecursion IsOldNeeded (if b then xs else xs ++ x ∷ [])
      by true = a
      by false = all_both IsOldNeeded xs (x ∷ []) a (h, tt)

  all_old : (ys xs : List Needed) → AllByRecursion IsOldNeeded ys → AllByRecursion IsOldNeeded xs → AllByRecursion IsOldNeeded (with_all ys xs)
  all_old [] xs h a = a
  all_old (y ∷ ys) xs h a = all_old ys (with_one y xs) h.1 (one_old y xs h.0 a)

  -- a name of the new function's signature
  abbrev pub IsNew : Asked → Type 0
  IsNew a = (a.file ≡ k) × SiteBehind n a.it.site

  new_aside : (x : Needed) → IsOldNeeded x → (a : Asked) → IsNew a → IsAside (to x) a
  new_aside x o a h = by (nat_eq a.file x.it.file) refl
    where
      by : (b : Bool) → nat_eq a.file x.it.file ≡ b → if_so (nat_eq a.file x.it.file) (way x.it.it x.full a.it.site) ≡ None
      by false e = if_false (nat_eq a.file x.it.file) (way x.it.it x.full a.it.site) e
      by true e =
          let same : nat_eq x.it.file k ≡ true = let q = eqb-true a.file x.it.file e in let f = h.0 in grind (arith, nat_tests) in
          ap (if_so (nat_eq a.file x.it.file)) (way_in_front n x.it.it.source x.it.it.column x.full a.it.site (o same).1 h.1) ∙ if_none (nat_eq a.file x.it.file)

  module _ (mid os bs : List Asked) (h : AsksFollow k end g mid os bs) (news : AllByRecursion IsNew mid) (old : AllByRecursion (λ a. MeansOld a.meaning) os) where
    aside_all : (x : Needed) → IsOldNeeded x → AllByRecursion (IsAside (to x)) mid
    aside_all x o = all_more IsNew (IsAside (to x)) (new_aside x o) mid news

    each_same : (xs : List Needed) → AllByRecursion IsOldNeeded xs → needs_of bs (map to xs) ≡ map to (needs_of os xs)
    each_same [] o = refl
    each_same (x ∷ xs) o =
        ap (λ l. l ++ needs_of bs (map to xs)) (needs_same mid os bs h x (aside_all x o.0)) ∙ ap (λ l. map to (needs os x) ++ l) (each_same xs o.1) ∙ sym (to_append (needs os x) (needs_of os xs))

    rounds_same : (r : ℕ) (xs : List Needed) → AllByRecursion IsOldNeeded xs → all_needed bs r (map to xs) ≡ map to (all_needed os r xs)
    rounds_same zero xs o = refl
    rounds_same (suc r) xs o =
        ap (λ l. all_needed bs r (with_all l (map to xs))) (each_same xs o) ∙ ap (all_needed bs r) (all_same (needs_of os xs) xs)
        ∙ rounds_same r (with_all (needs_of os xs) xs) (all_old (needs_of os xs) xs (each_old os old xs) o)

    rounds_old : (r : ℕ) (xs : List Needed) → AllByRecursion IsOldNeeded xs → AllByRecursion IsOldNeeded (all_needed os r xs)
    rounds_old zero xs o = o
    rounds_old (suc r) xs o = rounds_old r (with_all (needs_of os xs) xs) (all_old (needs_of os xs) xs (each_old os old xs) o)

    -- an old declaration needs what it needed
    pub needed_same : (r : ℕ) (x : Needed) → IsOldNeeded x → all_needed bs r (with_all (needs bs (to x)) []) ≡ map to (all_needed os r (with_all (needs os x) []))
    needed_same r x o =
        ap (λ l. all_needed bs r (with_all l [])) (needs_same mid os bs h x (aside_all x o)) ∙ ap (all_needed bs r) (all_same (needs os x) [])
        ∙ rounds_same r (with_all (needs os x) []) (all_old (needs os x) [] (needs_old os old x) tt)

    pub needed_old : (r : ℕ) (x : Needed) → AllByRecursion IsOldNeeded (all_needed os r (with_all (needs os x) []))
    needed_old r x = rounds_old r (with_all (needs os x) []) (all_old (needs os x) [] (needs_old os old x) tt)

    -- an old declaration needs itself as before
    pub itself_same : (r : ℕ) (d : Found) → IsOld d → needs_itself bs r (longer k end d) ≡ needs_itself os r d
    itself_same r d o =
        let x : Needed = record { it = d; full = false } in
        ap (λ l. is_among (longer k end d) (all_needed bs r (with_all l []))) (needs_same mid os bs h x (aside_all x o)) ∙ ap (λ l. is_among (longer k end d) (all_needed bs r l)) (all_same (needs os x) [])
        ∙ ap (is_among (longer k end d)) (rounds_same r (with_all (needs os x) []) (all_old (needs os x) [] (needs_old os old x) tt)) ∙ among_same d (all_needed os r (with_all (needs os x) []))

    -- ---- the function

    abbrev IsEarly : Asked → Type 0
    IsEarly a = nat_eq a.file k ≡ true → SiteWithin n a.it.site

    moved_early : (cs ds : List Asked) → AreMoved k end g cs ds → AllByRecursion IsEarly cs → AllByRecursion IsEarly ds
    moved_early [] [] m e = tt
    moved_early [] (d ∷ ds) m e = absurd m
    moved_early (c ∷ cs) [] m e = absurd m
    moved_early (c ∷ cs) (d ∷ ds) m e = ((λ q. subst (λ (u : Use). SiteWithin n u.site) (sym m.0.it) (e.0 (ap (λ i. nat_eq i k) (sym m.0.file) ∙ q))), moved_early cs ds m.1 e.1)

    -- what it means comes from an old declaration
    abbrev pub ComesFrom : Meaning → Type 0
    ComesFrom m = (s : Option Found) × (m.source ≡ option_map (longer k end) s) × SourceHas IsOld s

    function_source : (f : Bool) (s o : Option Found) (ns ys : List Needed) → o ≡ option_map (longer k end) s → SourceHas IsOld s → ns ≡ map to ys → AllByRecursion IsOldNeeded ys
        → (zs : List Needed) × (needed_source f o ns ≡ map to zs) × AllByRecursion IsOldNeeded zs
    function_source f None o ns ys e q m a = (ys, ap (λ z. needed_source f z ns) e ∙ m, a)
    function_source f (Some d) o ns ys e q m a = (record { it = d; full = f } ∷ ys, ap (λ z. needed_source f z ns) e ∙ ap (λ l. to (record { it = d; full = f }) ∷ l) m, (q, a))

    function_meaning : (w : Option Bool) (m : Option Meaning) (ns ys : List Needed) → Maybe ComesFrom m → ns ≡ map to ys → AllByRecursion IsOldNeeded ys → (zs : List Needed) × (needed_meaning w m ns ≡ map to zs) × AllByRecursion IsOldNeeded zs
    function_meaning None m ns ys c e a = (ys, e, a)
    function_meaning (Some f) None ns ys c e a = (ys, e, a)
    function_meaning (Some f) (Some m) ns ys c e a = function_source f c.0 m.source ns ys c.1 c.2 e a

    function_needs : (cs : List Asked) (x : Needed) → AllByRecursion (λ a. Maybe ComesFrom a.meaning) cs → (zs : List Needed) × (needs cs x ≡ map to zs) × AllByRecursion IsOldNeeded zs
    function_needs [] x c = ([], refl, tt)
    function_needs (a ∷ cs) x c = let r = function_needs cs x c.1 in function_meaning (if_so (nat_eq a.file x.it.file) (way x.it.it x.full a.it.site)) a.meaning (needs cs x) r.0 c.0 r.1 r.2

    module _ (f : Found) (file : f.file ≡ k) (named : n ≤ f.it.name) (source : SourceBehind n f.it.source) (early : AllByRecursion IsEarly os) (from : AllByRecursion (λ a. Maybe ComesFrom a.meaning) mid) where
      abbrev x : Needed
      x = record { it = f; full = false }

      early_aside : (a : Asked) → IsEarly a → IsAside x a
      early_aside a e = by (nat_eq a.file f.file) refl
        where
          by : (b : Bool) → nat_eq a.file f.file ≡ b → if_so (nat_eq a.file f.file) (way f.it false a.it.site) ≡ None
          by false q = if_false (nat_eq a.file f.file) (way f.it false a.it.site) q
          by true q =
              let same : nat_eq a.file k ≡ true = ap (nat_eq a.file) (sym file) ∙ q in
              ap (if_so (nat_eq a.file f.file)) (way_behind n f.it.source f.it.column false a.it.site source (e same)) ∙ if_none (nat_eq a.file f.file)

      none_of : (cs ds : List Asked) → AreMoved k end g cs ds → AllByRecursion IsEarly cs → needs ds x ≡ []
      none_of cs ds m e = needs_none ds x (all_more IsEarly (IsAside x) early_aside ds (moved_early cs ds m e))

      not_among : (zs : List Needed) → AllByRecursion IsOldNeeded zs → is_among f (map to zs) ≡ false
      not_among [] o = refl
      not_among (z ∷ zs) o = ap (λ b. b || is_among f (map to zs)) (apart z o.0) ∙ not_among zs o.1
        where
          apart : (y : Needed) → IsOldNeeded y → is_same f (longer k end y.it) ≡ false
          apart y q = by (nat_eq f.file y.it.file) refl
            where
              by : (b : Bool) → nat_eq f.file y.it.file ≡ b → (nat_eq f.file y.it.file && nat_eq f.it.name y.it.it.name) ≡ false
              by false e = and_front (nat_eq f.file y.it.file) (nat_eq f.it.name y.it.it.name) e
              by true e =
                  let same : nat_eq y.it.file k ≡ true = let p = eqb-true f.file y.it.file e in let l = file in grind (arith, nat_tests) in
                  let below = (q same).0 in
                  let other : nat_eq f.it.name y.it.it.name ≡ false = grind (arith, nat_tests) in
                  ap (λ c. nat_eq f.file y.it.file && c) other ∙ none_second (nat_eq f.file y.it.file)

      pub function_never : (r : ℕ) → needs_itself bs r f ≡ false
      function_never r =
          let front = all_front IsEarly h.first h.second (subst (AllByRecursion IsEarly) h.was early) in
          let rest = all_behind IsEarly h.first h.second (subst (AllByRecursion IsEarly) h.was early) in
          let m = function_needs mid x from in
          let all : needs bs x ≡ map to m.0 =
          ap (λ l. needs l x) h.is ∙ needs_append h.first_new (mid ++ h.second_new) x ∙ ap (λ l. l ++ needs (mid ++ h.second_new) x) (none_of h.first h.first_new h.front front)
          ∙ needs_append mid h.second_new x ∙ ap (λ l. needs mid x ++ l) (none_of h.second h.second_new h.rest rest) ∙ append-nil (needs mid x) ∙ m.1 in
          ap (λ l. is_among f (all_needed bs r (with_all l []))) all ∙ ap (λ l. is_among f (all_needed bs r l)) (all_same m.0 []) ∙ ap (is_among f) (rounds_same r (with_all m.0 []) (all_old m.0 [] m.2 tt))
          ∙ not_among (all_needed os r (with_all m.0 [])) (rounds_old r (with_all m.0 []) (all_old m.0 [] m.2 tt))
