-- A package to a file of which a function is appended declares one function more.
use Rattle.std.proofs.Common.{◌≡◌, ◌∙◌, ℕ, zero, suc, ◌<◌, ◌≤◌, Bool, true, false, ◌&&◌, List, [], ◌∷◌, ◌++◌, length, map, Option, Some, refl, sym, ap, subst, length-append, arith}
use Rattle.std.specs.Prelude.{if◌then◌else◌, nat_eq, slice_get, codes}
use Rattle.std.specs.List.{AllByRecursion}
use Rattle.go_tokens.specs.Spellings.{same_text}
use Rattle.go_tokens.specs.Tokens.{kinds}
use Rattle.go_grammar.specs.declared.kind.Category.TheVariants as category
use Rattle.go_grammar.specs.declared.kind.Kind.TheVariants as kind
use Rattle.go_grammar.specs.Grammar.{IsFile}
use Rattle.go_grammar.specs.Trees.{node, none, more}
use Rattle.go_rewriting.specs.Places.{with_declaration}
use Rattle.go_scopes_events.proofs.Public.{derives_laid}
use Rattle.go_tree.specs.declared.context.Entity.TheVariants as entity
use Rattle.go_tree.specs.declared.object.Declared.{Declared}
use Rattle.go_tree.specs.declared.object.Object.{Object}
use Rattle.go_package_alike.specs.Scopes.{AllTokens}
use Rattle.std.specs.Option.{option_map}
use Rattle.go_tree.specs.Contexts.{is_package}
use Rattle.go_tree.specs.Declarations.{Found, found, is_new, new_among}
use Rattle.go_tree.specs.Uses.{uses, declared_by, declared_in_package, object_of}
use Rattle.go_tree.specs.Units.{word}
use Rattle.go_exprs_rules.specs.Sorts.{Stands as Sort}
use Rattle.go_exprs_elsewhere.specs.Elsewhere.{referent_moved}
use Rattle.go_package_defs.specs.Answer.{is_main, is_main_package, specifications}
use Rattle.go_package_defs.specs.Declarations.{Specification, declarations}
use Rattle.go_package_defs.specs.Knowledge.{Outline, outlines, declaring, outline_by, referent_at}
use Rattle.go_package_defs.specs.Sources.{Source, Package, unit_of, text_at, tokens_there, needed_at, rounds}
use Rattle.go_heads_added.specs.Added.{Stands, beyond, longer_declared, shifted}
use Rattle.go_heads_added.specs.Appended.{IsFront}
use Rattle.go_heads_added.specs.Kept.{KeepsPackage, StandsInFront}
use Rattle.go_heads_added.proofs.Public.{clause_behind}
use Rattle.go_package_settled.specs.Read.{IsFaultless}
use Rattle.go_package_added.specs.Appended.{IsAppended, AreClosed, IsClosed, function_name, function_specification, package_in, outlines_in, found_in}
use Rattle.go_package_added.specs.OneMore.{inserted, all_beyond, outline_beyond, IsOneMore, IsSignature, IsSignatureBefore, MaybeReadAt, function_moves}
use Rattle.go_package_added.proofs.Inserted.{mapped_count}
use Rattle.go_package_added.proofs.Needing.{needed_kept}
use Rattle.go_package_added.proofs.Numbered.{referents_beyond}
use Rattle.go_package_added.proofs.Outlined.{KeepsTokens, all_kept, outlines_kept, declaring_skips, not_here, function_declared, put_in}
use Rattle.go_package_added.proofs.Specified.{IsPlaced, AreBelow, laid_below, front_placed, behind_placed, both_of, specifications_were, specifications_are}

-- ---- lists

element_there : {A : Type 0} (P : A → Type 0) (xs : List A) (y : A) (ys : List A) → AllByRecursion P (xs ++ y ∷ ys) → P y
element_there P [] y ys h = h.0
element_there P (x ∷ xs) y ys h = element_there P xs y ys h.1

each_of : {A : Type 0} (P : A → Type 0) → ((x : A) → P x) → (xs : List A) → AllByRecursion P xs
each_of P f [] = tt
each_of P f (x ∷ xs) = (f x, each_of P f xs)

both_each : {A : Type 0} (P Q R : A → Type 0) → ((x : A) → P x → Q x → R x) → (xs : List A) → AllByRecursion P xs → AllByRecursion Q xs → AllByRecursion R xs
both_each P Q R f [] h g = tt
both_each P Q R f (x ∷ xs) h g = (f x h.0 g.0, both_each P Q R f xs h.1 g.1)

map_twice : {A B C : Type 0} (f : B → C) (h : A → B) (xs : List A) → map (λ x. f (h x)) xs ≡ map f (map h xs)
map_twice f h [] = refl
map_twice f h (x ∷ xs) = ap (λ l. f (h x) ∷ l) (map_twice f h xs)

-- ---- tokens

words_same : (j : ℕ) (s u : Source) (front : IsFront j s.tokens u.tokens) (before behind : List Source) (m t : ℕ) → (m ≡ length before → t < j)
    → word (tokens_there (slice_get (before ++ u ∷ behind) m)) t ≡ word (tokens_there (slice_get (before ++ s ∷ behind) m)) t
words_same j s u front [] behind zero t below = front.words t (below refl)
words_same j s u front [] behind (suc m) t below = refl
words_same j s u front (x ∷ xs) behind zero t below = refl
words_same j s u front (x ∷ xs) behind (suc m) t below = words_same j s u front xs behind m t (λ e. below (ap suc e))

source_there : (u : Source) (before behind : List Source) (k : ℕ) → length before ≡ k → slice_get (before ++ u ∷ behind) k ≡ Some u
source_there u [] behind zero e = refl
source_there u [] behind (suc k) e = absurd (omega (arith, e))
source_there u (x ∷ xs) behind zero e = absurd (omega (arith, e))
source_there u (x ∷ xs) behind (suc k) e = source_there u xs behind k (omega (arith, e))

same_test : (m k : ℕ) → m ≡ k → nat_eq m k ≡ true
same_test m k e = grind (arith, e)

-- ---- what the package declares

module _ (k n : ℕ) where
  abbrev StandsThere : Declared → Type 0
  StandsThere d = Stands k n d.file d.name

  new_stand : (all ds : List Found) → AllByRecursion (StandsInFront k n) ds → AllByRecursion (StandsInFront k n) (new_among all ds)
  new_stand all [] h = tt
  new_stand all (d ∷ ds) h = by (is_new all d) (new_stand all ds h.1)
    where
      by : (b : Bool) → AllByRecursion (StandsInFront k n) (new_among all ds) → AllByRecursion (StandsInFront k n) (if b then d ∷ new_among all ds else new_among all ds)
      by true w = (h.0, w)
      by false w = w

  level_stands : (ds : List Found) → AllByRecursion (StandsInFront k n) ds → AllByRecursion StandsThere (declared_in_package ds)
  level_stands [] h = tt
  level_stands (d ∷ ds) h = by (is_package d.it.block) (level_stands ds h.1)
    where
      by : (b : Bool) → AllByRecursion StandsThere (declared_in_package ds) → AllByRecursion StandsThere (if b then declared_by d ∷ declared_in_package ds else declared_in_package ds)
      by true w = ((λ e. (h.0 e).0), w)
      by false w = w

module _ (k : ℕ) (ss us : List Source) (h : IsAppended k ss us) (keeps : KeepsPackage k h.count (suc h.first) (map unit_of ss) (map unit_of us)) (faultless : IsFaultless ss) where
  abbrev pub n : ℕ
  n = h.count

  abbrev pub p : Package
  p = package_in ss

  abbrev pub q : Package
  q = package_in us

  abbrev pub ds : List Specification
  ds = specifications 0 ss

  abbrev pub es : List Specification
  es = specifications 0 us

  abbrev pub f : Specification
  f = function_specification k ss us h

  abbrev pub a : ℕ
  a = keeps.gap.shared

  abbrev pub to : Declared → Declared
  to d = longer_declared k keeps.end d

  abbrev pub were_file : Source
  were_file = record { tokens = h.old_tokens; tree = node kind.File 0 h.count h.declarations }

  abbrev pub is_file : Source
  is_file = record { tokens = h.new_tokens; tree = with_declaration (node kind.File 0 h.count h.declarations) (node kind.FunctionDeclaration h.first h.last (more h.signature (more (node kind.Block h.opens h.closes none) none))) h.end }

  -- ---- the file

  pub derived : IsFile (kinds h.old_tokens.tokens) (node kind.File 0 h.count h.declarations)
  derived = element_there (λ (s : Source). IsFile (kinds s.tokens.tokens) s.tree) h.before were_file h.behind (subst (AllByRecursion (λ (s : Source). IsFile (kinds s.tokens.tokens) s.tree)) h.was faultless.trees)

  pub clause : 1 < n
  clause = clause_behind (kinds h.old_tokens.tokens) h.count h.declarations derived

  below : AreBelow n h.declarations
  below = (laid_below n (node kind.File 0 h.count h.declarations) (derives_laid (kinds h.old_tokens.tokens) (node kind.File 0 h.count h.declarations) category.File derived.derives) (omega arith)).3

  pub texts : (m t : ℕ) → Stands k n m t → text_at q m t ≡ text_at p m t
  texts m t s =
      ap (λ zs. word (tokens_there (slice_get zs m)) t) h.is
      ∙ words_same n were_file is_file h.front h.before h.behind m t (λ e. s (same_test m k (e ∙ h.place)))
      ∙ ap (λ zs. word (tokens_there (slice_get zs m)) t) (sym h.was)

  own_text : (t : ℕ) → text_at q k t ≡ word h.new_tokens t
  own_text t = ap (λ zs. word (tokens_there (slice_get zs k)) t) h.is ∙ ap (λ o. word (tokens_there o) t) (source_there is_file h.before h.behind k h.place)

  -- ---- specifications

  abbrev pub front : List Specification
  front = specifications 0 h.before ++ declarations k h.declarations

  abbrev pub rest : List Specification
  rest = specifications (suc k) h.behind

  pub were : ds ≡ front ++ rest
  were = ap (specifications 0) h.was ∙ specifications_were k h.before h.place were_file 0 h.count h.declarations h.behind refl

  pub are : es ≡ front ++ f ∷ rest
  are =
      ap (specifications 0) h.is
      ∙ specifications_are k h.before h.place is_file 0 h.count h.end h.first h.last h.declarations (more h.signature (more (node kind.Block h.opens h.closes none) none)) h.behind refl

  pub placed_front : AllByRecursion (IsPlaced k n) front
  placed_front = front_placed k n h.before h.declarations h.place below

  pub placed_rest : AllByRecursion (IsPlaced k n) rest
  placed_rest = behind_placed k n (suc k) h.behind (omega arith)

  pub all_placed : AllByRecursion (IsPlaced k n) ds
  all_placed = subst (AllByRecursion (IsPlaced k n)) (sym were) (both_of 0 (IsPlaced k n) front rest placed_front placed_rest)

  -- ---- numbers

  count_level : length q.uses.package_level ≡ suc (length p.uses.package_level)
  count_level =
      let first = keeps.declared.first in
      let second = keeps.declared.second in
      let x = ap length keeps.declared.are in
      let y = ap length keeps.declared.were in
      let b = length-append (map to first) (keeps.declared.function ∷ map to second) in
      let c = length-append first second in
      let d = mapped_count to first in
      let e = mapped_count to second in
      omega (arith, x, y, b, c, d, e)

  two_more : rounds q ≡ suc (suc (rounds p))
  two_more = let e = count_level in omega (arith, e)

  pub inside : a ≤ length p.uses.package_level
  inside =
      let y = ap length keeps.declared.were in
      let c = length-append keeps.declared.first keeps.declared.second in
      let e = keeps.declared.place in
      omega (arith, y, c, e)

  pub tokens_kept : KeepsTokens k n p q keeps.gap
  tokens_kept = record {
    texts = texts;
    objects = keeps.objects.objects;
    needed = λ m t s z c full. needed_kept k n keeps.end ss us keeps.gap keeps.needs keeps.objects.objects two_more m t s z c full;
  }

  level : AllByRecursion (StandsThere k n) p.uses.package_level
  level =
      level_stands k n (new_among (found (map unit_of ss)) (found (map unit_of ss)))
      (new_stand k n (found (map unit_of ss)) (found (map unit_of ss)) (subst (AllByRecursion (StandsInFront k n)) (sym keeps.needs.were) keeps.needs.stand))

  pub both_level : AllByRecursion (StandsThere k n) (keeps.declared.first ++ keeps.declared.second)
  both_level = subst (AllByRecursion (StandsThere k n)) keeps.declared.were level

  -- ---- the function `main`

  main_package : is_main_package q ≡ is_main_package p
  main_package = ap (λ w. same_text w (codes "main")) (texts 0 1 (λ e. clause))

  main_same : (d : Declared) → StandsThere k n d → is_main q (to d) ≡ is_main p d
  main_same d s = ap (λ b. b && same_text (text_at q d.file d.name) (codes "main")) main_package ∙ ap (λ w. is_main_package p && same_text w (codes "main")) (texts d.file d.name s)

  not_main : same_text (function_name k ss us h) (codes "main") ≡ false → is_main q keeps.declared.function ≡ false
  not_main e =
      ap (λ i. is_main_package q && same_text (text_at q i keeps.declared.function.name) (codes "main")) keeps.file
      ∙ ap (λ i. is_main_package q && same_text (text_at q k i) (codes "main")) keeps.name
      ∙ ap (λ w. is_main_package q && same_text w (codes "main")) (own_text (suc h.first))
      ∙ ap (λ b. is_main_package q && b) e ∙ none_second (is_main_package q)
    where
      none_second : (b : Bool) → (b && false) ≡ false
      none_second true = refl
      none_second false = refl

  pub referents_same : (m : ℕ) → referent_at q (beyond a m) ≡ referent_moved (function_moves keeps.gap) (referent_at p m)
  referents_same =
      referents_beyond k keeps.end keeps.gap keeps.declared.function keeps.entity p q keeps.declared.first keeps.declared.second keeps.declared.were keeps.declared.are keeps.declared.place inside keeps.functions

  module _ (closed : AreClosed p) (other : same_text (function_name k ss us h) (codes "main") ≡ false) where
    -- ---- outlines

    abbrev was_outline : Declared → Outline
    was_outline d = outline_by p d (declaring ds d.file d.name)

    abbrev is_outline : Declared → Outline
    is_outline d = outline_by q d (declaring es d.file d.name)

    abbrev function_outline : Outline
    function_outline = outline_by q keeps.declared.function (f, 0)

    declared_same : (d : Declared) → StandsThere k n d → declaring es d.file d.name ≡ declaring ds d.file d.name
    declared_same d s =
        ap (λ zs. declaring zs d.file d.name) are ∙ declaring_skips f front rest d.file d.name (not_here k n (suc h.first) (let l = h.later in omega (arith, l)) f refl refl d.file d.name s)
        ∙ ap (λ zs. declaring zs d.file d.name) (sym were)

    outline_same : (d : Declared) → StandsThere k n d → IsClosed p d.file d.name → is_outline (to d) ≡ outline_beyond a (was_outline d)
    outline_same d s z =
        let x = declaring ds d.file d.name in
        ap (outline_by q (to d)) (declared_same d s)
        ∙ ap (λ l. let o : Outline = record { specification = x.0; column = x.1; partly = l; fully = needed_at q d.file d.name x.1 true } in o) (tokens_kept.needed d.file d.name s z x.1 false)
        ∙ ap (λ l. let o : Outline = record { specification = x.0; column = x.1; partly = all_beyond a (needed_at p d.file d.name x.1 false); fully = l } in o) (tokens_kept.needed d.file d.name s z x.1 true)

    function_same : is_outline keeps.declared.function ≡ function_outline
    function_same =
        ap (outline_by q keeps.declared.function)
        (ap (λ i. declaring es i keeps.declared.function.name) keeps.file ∙ ap (declaring es k) keeps.name ∙ ap (λ zs. declaring zs k (suc h.first)) are
        ∙ function_declared k n (suc h.first) (let l = h.later in omega (arith, l)) f refl refl front rest placed_front)

    closed_level : AllByRecursion (λ d. IsClosed p d.file d.name) (keeps.declared.first ++ keeps.declared.second)
    closed_level = subst (AllByRecursion (λ d. IsClosed p d.file d.name)) keeps.declared.were closed

    outlined : outlines q es ≡ inserted a function_outline (map (outline_beyond a) (outlines p ds))
    outlined =
        ap (map is_outline) keeps.declared.are
        ∙ put_in to (λ d. outline_beyond a (was_outline d)) is_outline keeps.declared.function function_outline keeps.declared.first keeps.declared.second a keeps.declared.place function_same
        (both_each (StandsThere k n) (λ d. IsClosed p d.file d.name) (λ d. is_outline (to d) ≡ outline_beyond a (was_outline d)) outline_same (keeps.declared.first ++ keeps.declared.second) both_level closed_level)
        ∙ ap (inserted a function_outline) (map_twice (outline_beyond a) was_outline (keeps.declared.first ++ keeps.declared.second) ∙ ap (λ l. map (outline_beyond a) (map was_outline l)) (sym keeps.declared.were))

    entities : map (λ (d : Declared). d.entity) q.uses.package_level ≡ inserted a entity.Function (map (λ (d : Declared). d.entity) p.uses.package_level)
    entities =
        ap (map (λ (d : Declared). d.entity)) keeps.declared.are
        ∙ put_in to (λ (d : Declared). d.entity) (λ (d : Declared). d.entity) keeps.declared.function entity.Function keeps.declared.first keeps.declared.second a keeps.declared.place keeps.entity
        (each_of (λ (d : Declared). (to d).entity ≡ d.entity) (λ d. refl) (keeps.declared.first ++ keeps.declared.second))
        ∙ ap (λ l. inserted a entity.Function (map (λ (d : Declared). d.entity) l)) (sym keeps.declared.were)

    mains : map (is_main q) q.uses.package_level ≡ inserted a false (map (is_main p) p.uses.package_level)
    mains =
        ap (map (is_main q)) keeps.declared.are
        ∙ put_in to (is_main p) (is_main q) keeps.declared.function false keeps.declared.first keeps.declared.second a keeps.declared.place (not_main other)
        (both_each (StandsThere k n) (StandsThere k n) (λ d. is_main q (to d) ≡ is_main p d) (λ d s z. main_same d s) (keeps.declared.first ++ keeps.declared.second) both_level both_level)
        ∙ ap (λ l. inserted a false (map (is_main p) l)) (sym keeps.declared.were)

    pub one_more : IsOneMore p q ds es keeps.gap
    one_more = record {
      place = inside;
      entities = entities;
      referents = referents_same;
      mains = mains;
      function = function_outline;
      is_function = refl;
      no_values = refl;
      outlined = outlined;
      outlines_kept = outlines_kept k n p q keeps.gap tokens_kept ds
          (subst (AllByRecursion _) (sym were) (all_kept k n p q keeps.gap tokens_kept (front ++ rest) (both_of 0 (IsPlaced k n) front rest placed_front placed_rest)));
      front = front;
      rest = rest;
      were = were;
      are = are;
      front_kept = all_kept k n p q keeps.gap tokens_kept front placed_front;
      rest_kept = all_kept k n p q keeps.gap tokens_kept rest placed_rest;
    }

    -- in front of it and behind it are the specifications that there were
    pub parts_are : (one_more.front ≡ front) × (one_more.rest ≡ rest)
    unfolding one_more
    parts_are = (refl, refl)

    -- the function that it has is the appended one
    pub as_signature : (s : Sort) → IsSignature q (outlines_in us) a f 0 (found_in ss) s → IsSignature q (outlines_in us) a one_more.function.specification one_more.function.column (found_in ss) s
    unfolding one_more
    as_signature s sig = sig

    pub signed_before : (s : Sort) (meant : ℕ → Option Object) → IsSignatureBefore p (outlines p ds) f 0 (text_at q k) meant (found_in ss) s
        → IsSignatureBefore p (outlines p ds) one_more.function.specification one_more.function.column (text_at q one_more.function.specification.file) meant (found_in ss) s
    unfolding one_more
    signed_before s meant before = before

    pub meant_here : (test : ℕ → Bool) (meant : ℕ → Option Object) → ((i : ℕ) → test i ≡ true → object_of (uses (map unit_of us)) k i ≡ option_map (shifted keeps.gap) (meant i))
        → (i : ℕ) → test i ≡ true → object_of q.uses one_more.function.specification.file i ≡ option_map (shifted keeps.gap) (meant i)
    unfolding one_more
    meant_here test meant e = e

    pub read_here : (test : ℕ → Bool) → AllTokens test h.signature → MaybeReadAt test one_more.function.specification.type_tree
    unfolding one_more
    read_here test e = e

    pub from_signature : (s : Sort) → IsSignature q (outlines q es) a one_more.function.specification one_more.function.column (found_in ss) s → IsSignature q (outlines_in us) a f 0 (found_in ss) s
    unfolding one_more
    from_signature s sig = sig
