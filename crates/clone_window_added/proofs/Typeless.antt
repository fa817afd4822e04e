-- A function with an empty body that is appended to a file declares no types.
use Rattle.std.proofs.Common.{◌≡◌, ◌∙◌, ℕ, zero, suc, ◌+◌, ◌<◌, ◌≤◌, Bool, true, false, List, [], ◌∷◌, ◌++◌, length, map, Option, Some, None, slice_get, ap, refl, sym, subst, arith}
use Rattle.std.specs.Prelude.{if◌then◌else◌, nat_eq, nat_lt, Ok}
use Rattle.std.specs.List.{AllByRecursion}
use Rattle.std.specs.Option.{option_map}
use Rattle.std.proofs.lemmas.Bool.Decides.{nat_tests}
use Rattle.std.proofs.lemmas.List.{map-append}
use Rattle.go_grammar.specs.declared.kind.Category.TheVariants as category
use Rattle.go_grammar.specs.declared.kind.Kind.TheVariants as kind
use Rattle.go_grammar.specs.Grammar.{Derives, IsFile}
use Rattle.go_grammar.specs.Trees.{Tree, Trees, last, node}
use Rattle.go_rewriting.specs.Places.{with_declaration}
use Rattle.go_scopes_events.specs.Orders.{EachDeclared}
use Rattle.go_tokens.specs.Tokens.{TokenList, kinds}
use Rattle.go_tokens.specs.declared.token.TokenKind.{TokenKind}
use Rattle.go_tree.specs.Contexts.{file_context, is_package}
use Rattle.go_tree.specs.Declarations.{Found, declarations, found_from, found_in, is_new, new_among, found}
use Rattle.go_tree.specs.Events.{events, function_declared}
use Rattle.go_tree.specs.Units.{Unit}
use Rattle.go_tree.specs.Uses.{IsComplete, begins_function, declared_by, function_locals, local_in, object_of, own_locals, uses}
use Rattle.go_tree.specs.declared.event.Declaration.{Declaration}
use Rattle.go_tree.specs.declared.event.Event.{Event}
use Rattle.go_tree.specs.declared.event.Event.TheVariants as event
use Rattle.go_tree.specs.declared.object.Declared.{Declared}
use Rattle.go_tree.specs.declared.object.Object.{Object}
use Rattle.go_tree.specs.declared.object.Object.TheVariants as object
use Rattle.go_types.specs.Relations.{Rights}
use Rattle.go_heads_added.specs.Added.{AreEarlier, Gap, KeepsAll, Stands, beyond, reaching, shifted}
use Rattle.go_heads_added.specs.Appended.{IsParameterOf, context_behind, empty_function}
use Rattle.go_heads_added.specs.Kept.{KeepsPackage}
use Rattle.go_heads_types.specs.Typings.{AddsRights}
use Rattle.go_package_added.specs.Appended.{IsAppended, function_specification, function_tree, package_in}
use Rattle.go_package_defs.specs.Bodies.{Behind, Surroundings, count_types, locals_there, typed_function, types_in, which_types}
use Rattle.go_package_defs.specs.Declarations.{Specification}
use Rattle.go_package_defs.specs.Knowledge.{is_type}
use Rattle.go_package_defs.specs.Sources.{Package, Source, unit_of}
use Rattle.go_package_settled.specs.Read.{IsFaultless}
use Rattle.clone_window_added.specs.Unchanged.{AddsNoRights}
use Rattle.clone_window_added.proofs.Lists.{all_behind, all_both, there}

-- ---- the laws that are used

abbrev pub FilesTellMore : Type 0
FilesTellMore = (i j end : ℕ) (ps : Trees) (d : Tree) → events (file_context end) (with_declaration (node kind.File i j ps) d end)
    ≡ map (reaching end) (events (file_context j) (node kind.File i j ps)) ++ events (context_behind end ps d) d

abbrev pub NamesStandInFiles : Type 0
NamesStandInFiles = (ts : List TokenKind) (t : Tree) (n : ℕ) → IsFile ts t → last t ≡ n → AreEarlier n (events (file_context (last t)) t)

abbrev pub ParametersAreDeclared : Type 0
ParametersAreDeclared = (ts : List TokenKind) (end i j a b : ℕ) (s : Tree) (ps : Trees) → let d = empty_function i j s a b in Derives ts category.Declaration d
    → (es : List Event) × (events (context_behind end ps d) d ≡ function_declared i j ∷ es) × EachDeclared (IsParameterOf (last s)) es

abbrev pub RightSidesAreAdded : Type 0
RightSidesAreAdded = (p : Package) (a : Surroundings) (rights : Rights) (n : ℕ) (d : Specification) (b : Behind) → typed_function p a rights n d ≡ Ok b → AddsRights rights (count_types (types_in p n)) b.rights

-- ---- which locals are declared where

-- A property of all declarations is one of all locals.
module _ (P : Declared → Type 0) where
  own_have : (ds : List Found) → AllByRecursion (λ x. P (declared_by x)) ds → AllByRecursion P (own_locals ds)
  own_have [] h = tt
  own_have (x ∷ xs) h = by (begins_function x) (is_package x.it.block) (own_have xs h.1)
    where
      by : (b c : Bool) → AllByRecursion P (own_locals xs) → AllByRecursion P (if b then [] else if c then own_locals xs else declared_by x ∷ own_locals xs)
      by true c z = tt
      by false true z = z
      by false false z = (h.0, z)

  locals_have : (ds : List Found) → AllByRecursion (λ x. P (declared_by x)) ds → AllByRecursion (λ ls. AllByRecursion P ls) (function_locals ds)
  locals_have [] h = tt
  locals_have (x ∷ xs) h = by (begins_function x) (own_have xs h.1) (locals_have xs h.1)
    where
      by : (b : Bool) → AllByRecursion P (own_locals xs) → AllByRecursion (λ ls. AllByRecursion P ls) (function_locals xs) → AllByRecursion (λ ls. AllByRecursion P ls) (if b then own_locals xs ∷ function_locals xs else function_locals xs)
      by true y z = (y, z)
      by false y z = z

  new_have : (all ds : List Found) → AllByRecursion (λ x. P (declared_by x)) ds → AllByRecursion (λ x. P (declared_by x)) (new_among all ds)
  new_have all [] h = tt
  new_have all (x ∷ xs) h = by (is_new all x) (new_have all xs h.1)
    where
      by : (b : Bool) → AllByRecursion (λ z. P (declared_by z)) (new_among all xs) → AllByRecursion (λ z. P (declared_by z)) (if b then x ∷ new_among all xs else new_among all xs)
      by true z = (h.0, z)
      by false z = z

-- ---- what the files of the longer package declare

-- If it is declared in the file k, at the token n or behind it, it is no type.
abbrev IsNoType : ℕ → ℕ → Declared → Type 0
IsNoType k n d = d.file ≡ k → n ≤ d.name → is_type d.entity ≡ false

abbrev AreNoTypes : ℕ → ℕ → List Found → Type 0
AreNoTypes k n ds = AllByRecursion (λ x. IsNoType k n (declared_by x)) ds

abbrev DeclaresNoType : ℕ → Declaration → Type 0
DeclaresNoType n d = n ≤ d.name → is_type d.entity ≡ false

module _ (k n : ℕ) where
  told_none : (m : ℕ) (ts : TokenList) (es : List Event) → EachDeclared (DeclaresNoType n) es → AreNoTypes k n (found_in m ts es)
  told_none m ts [] h = tt
  told_none m ts (event.Declaration d ∷ es) h = ((λ e. h.0), told_none m ts es h.1)
  told_none m ts (e ∷ es) h = told_none m ts es h

  elsewhere_none : (m : ℕ) (ts : TokenList) (es : List Event) → (m ≡ k → ⊥) → AreNoTypes k n (found_in m ts es)
  elsewhere_none m ts [] f = tt
  elsewhere_none m ts (event.Declaration d ∷ es) f = ((λ e. absurd (f e)), elsewhere_none m ts es f)
  elsewhere_none m ts (e ∷ es) f = elsewhere_none m ts es f

  later_none : (m : ℕ) (us : List Unit) → k < m → AreNoTypes k n (found_from m us)
  later_none m [] l = tt
  later_none m (u ∷ us) l =
      all_both (λ x. IsNoType k n (declared_by x)) (found_in m u.tokens u.events) (found_from (suc m) us) (elsewhere_none m u.tokens u.events (λ e. omega (arith, l, e))) (later_none (suc m) us (omega (arith, l)))

  files_none : (m : ℕ) (before behind : List Unit) (u : Unit) → m + length before ≡ k → AreNoTypes k n (found_in k u.tokens u.events) → AreNoTypes k n (found_from m (before ++ u ∷ behind))
  files_none m [] behind u e h =
      let here : k ≡ m = omega (arith, e) in
      all_both (λ x. IsNoType k n (declared_by x)) (found_in m u.tokens u.events) (found_from (suc m) behind) (subst (λ i. AreNoTypes k n (found_in i u.tokens u.events)) here h) (later_none (suc m) behind (omega (arith, here)))
  files_none m (b ∷ bs) behind u e h =
      all_both (λ x. IsNoType k n (declared_by x)) (found_in m b.tokens b.events) (found_from (suc m) (bs ++ u ∷ behind)) (elsewhere_none m b.tokens b.events (λ z. omega (arith, e, z)))
      (files_none (suc m) bs behind u (omega (arith, e)) h)

-- ---- the longer file

module _ (n : ℕ) where
  earlier_none : (end : ℕ) (es : List Event) → AreEarlier n es → EachDeclared (DeclaresNoType n) (map (reaching end) es)
  earlier_none end [] h = tt
  earlier_none end (event.Use u ∷ es) h = earlier_none end es h.1
  earlier_none end (event.Declaration d ∷ es) h = ((λ l. let b = h.0 in absurd (omega (arith, l, b))), earlier_none end es h.1)
  earlier_none end (e ∷ es) h = earlier_none end es h

  parameters_none : (body : ℕ) (es : List Event) → EachDeclared (IsParameterOf body) es → EachDeclared (DeclaresNoType n) es
  parameters_none body [] h = tt
  parameters_none body (event.Declaration d ∷ es) h = ((λ l. ap is_type h.0.entity), parameters_none body es h.1)
  parameters_none body (e ∷ es) h = parameters_none body es h

  each_both : (xs ys : List Event) → EachDeclared (DeclaresNoType n) xs → EachDeclared (DeclaresNoType n) ys → EachDeclared (DeclaresNoType n) (xs ++ ys)
  each_both [] ys f g = g
  each_both (event.Declaration d ∷ xs) ys f g = (f.0, each_both xs ys f.1 g)
  each_both (e ∷ xs) ys f g = each_both xs ys f g

-- ---- the function's number

never_beyond : (n a : ℕ) → beyond n a ≡ n → ⊥
never_beyond n a = by (nat_lt a n) refl
  where
    by : (b : Bool) → nat_lt a n ≡ b → (if b then a else suc a) ≡ n → ⊥
    by true z e = let l : a < n = grind (arith, nat_tests, z) in omega (arith, l, e)
    by false z e = let l : n ≤ a = grind (arith, nat_tests, z) in omega (arith, l, e)

-- No token of the package without the function means a local of it.
never_shifted : (g : Gap) (o : Option Object) (i : ℕ) → option_map (shifted g) o ≡ Some (object.Local g.functions i) → ⊥
never_shifted g None i e = cc
never_shifted g (Some object.Import) i e = cc
never_shifted g (Some (object.Predeclared w)) i e = cc
never_shifted g (Some (object.Package m)) i e = cc
never_shifted g (Some (object.Local f j)) i e = never_beyond g.functions f (let z : beyond g.functions f ≡ g.functions = cc in z)

none_counted : (ds : List Declared) → ((i : ℕ) (d : Declared) → slice_get ds i ≡ Some d → is_type d.entity ≡ false) → count_types (which_types ds) ≡ 0
none_counted [] f = refl
none_counted (d ∷ ds) f = ap (λ b. count_types (b ∷ which_types ds)) (f zero d refl) ∙ none_counted ds (λ i e z. f (suc i) e z)

false_true : {A : Type 0} → false ≡ true → A
false_true e = cc

module _ (k n : ℕ) (g : Gap) (old new : List Unit) (objects : KeepsAll k n g old new) (complete : IsComplete (uses new)) (all : AllByRecursion (λ ls. AllByRecursion (IsNoType k n) ls) (uses new).locals) where
  not_old : (ls : List Declared) → slice_get (uses new).locals g.functions ≡ Some ls → (i : ℕ) (d : Declared) → slice_get ls i ≡ Some d → Stands k n d.file d.name → ⊥
  not_old ls a i d b s =
      let means : object_of (uses new) d.file d.name ≡ Some (object.Local g.functions i) = complete.own (object.Local g.functions i) d (ap (λ o. local_in o i) a ∙ b) in
      never_shifted g (object_of (uses old) d.file d.name) i (sym (objects.objects d.file d.name s) ∙ means)

  none_there : (ls : List Declared) → slice_get (uses new).locals g.functions ≡ Some ls → (i : ℕ) (d : Declared) → slice_get ls i ≡ Some d → is_type d.entity ≡ false
  none_there ls a i d b = by (nat_eq d.file k) (nat_lt d.name n) refl refl
    where
      by : (x y : Bool) → nat_eq d.file k ≡ x → nat_lt d.name n ≡ y → is_type d.entity ≡ false
      by false y e f = absurd (not_old ls a i d b (λ z. false_true (sym e ∙ z)))
      by true true e f = absurd (not_old ls a i d b (λ z. grind (arith, nat_tests, f)))
      by true false e f =
          there (IsNoType k n) ls i d (there (λ ds. AllByRecursion (IsNoType k n) ds) (uses new).locals g.functions ls all a) b (grind (arith, nat_tests, e)) (grind (arith, nat_tests, f))

  none_among : (o : Option (List Declared)) → slice_get (uses new).locals g.functions ≡ o → count_types (which_types (locals_there o)) ≡ 0
  none_among None e = refl
  none_among (Some ls) e = none_counted ls (none_there ls e)

pub no_more : (xs : Rights) → xs ++ [] ≡ xs
no_more [] = refl
no_more (x ∷ xs) = ap (λ ys. x ∷ ys) (no_more xs)

pub none_own : (front all : Rights) (count : ℕ) → count ≡ 0 → AddsRights front count all → all ≡ front
none_own front all count z h = by h.own (h.counted ∙ z) h.is
  where
    by : (own : Rights) → length own ≡ 0 → all ≡ front ++ own → all ≡ front
    by [] e f = f ∙ no_more front
    by (x ∷ xs) e f = absurd (omega (arith, e))

-- ---- the packages

module _ (k : ℕ) (ss us : List Source) (h : IsAppended k ss us) (keeps : KeepsPackage k h.count (suc h.first) (map unit_of ss) (map unit_of us)) (faultless : IsFaultless ss) (more : FilesTellMore) (stand : NamesStandInFiles)
    (parameters : ParametersAreDeclared) (complete : IsComplete (uses (map unit_of us))) where
  abbrev t : Tree
  t = node kind.File 0 h.count h.declarations

  abbrev d : Tree
  d = function_tree k ss us h

  abbrev s : Source
  s = record { tokens = h.old_tokens; tree = t }

  abbrev u : Source
  u = record { tokens = h.new_tokens; tree = with_declaration t d h.end }

  derived : IsFile (kinds h.old_tokens.tokens) t
  derived = (all_behind (λ (z : Source). IsFile (kinds z.tokens.tokens) z.tree) h.before (s ∷ h.behind) (subst (AllByRecursion (λ (z : Source). IsFile (kinds z.tokens.tokens) z.tree)) h.was faultless.trees)).0

  told : EachDeclared (DeclaresNoType h.count) (unit_of u).events
  told =
      let own = parameters (kinds h.new_tokens.tokens) h.end h.first h.last h.opens h.closes h.signature h.declarations h.derives in
      let last_ones : EachDeclared (DeclaresNoType h.count) (function_declared h.first h.last ∷ own.0) = ((λ l. refl), parameters_none h.count (last h.signature) own.0 own.2) in
      subst (EachDeclared (DeclaresNoType h.count)) (sym (more 0 h.count h.end h.declarations d))
      (each_both h.count (map (reaching h.end) (events (file_context h.count) t)) (events (context_behind h.end h.declarations d) d)
      (earlier_none h.count h.end (events (file_context h.count) t) (stand (kinds h.old_tokens.tokens) t h.count derived refl))
      (subst (EachDeclared (DeclaresNoType h.count)) (sym own.1) last_ones))

  mapped_count : (xs : List Source) → length (map unit_of xs) ≡ length xs
  mapped_count [] = refl
  mapped_count (x ∷ xs) = ap suc (mapped_count xs)

  all_found : AreNoTypes k h.count (found (map unit_of us))
  all_found =
      subst (λ zs. AreNoTypes k h.count (found zs)) (sym (ap (map unit_of) h.is ∙ map-append unit_of h.before (u ∷ h.behind)))
      (files_none k h.count 0 (map unit_of h.before) (map unit_of h.behind) (unit_of u) (let e = mapped_count h.before in let f = h.place in omega (arith, e, f)) (told_none k h.count k h.new_tokens (unit_of u).events told))

  all_locals : AllByRecursion (λ ls. AllByRecursion (IsNoType k h.count) ls) (uses (map unit_of us)).locals
  all_locals = locals_have (IsNoType k h.count) (declarations (map unit_of us)) (new_have (IsNoType k h.count) (found (map unit_of us)) (found (map unit_of us)) all_found)

  pub none_declared : count_types (types_in (package_in us) keeps.gap.functions) ≡ 0
  none_declared =
      none_among k h.count keeps.gap (map unit_of ss) (map unit_of us) keeps.objects complete all_locals (slice_get (uses (map unit_of us)).locals keeps.gap.functions) refl

  pub adds_none : RightSidesAreAdded → (a : Surroundings) → AddsNoRights (package_in us) a keeps.gap.functions (function_specification k ss us h)
  adds_none law a = λ rights b e.
      none_own rights b.rights (count_types (types_in (package_in us) keeps.gap.functions)) none_declared (law (package_in us) a rights keeps.gap.functions (function_specification k ss us h) b e)
