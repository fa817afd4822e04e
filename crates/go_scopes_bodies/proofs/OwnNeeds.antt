-- What the declarations of a function need of one another, they need by the function itself.
use Rattle.std.proofs.Common.{◌≡◌, ◌∙◌, ℕ, zero, suc, ◌+◌, ◌-◌, ◌<◌, ◌≤◌, inl, inr, Bool, true, false, List, [], ◌∷◌, ◌++◌, map, Option, Some, None, refl, sym, ap, subst, arith}
use Rattle.std.specs.Prelude.{if◌then◌else◌, ◌&&◌, ◌||◌, nat_eq, nat_le, nat_lt, slice_get, option_map}
use Rattle.std.proofs.lemmas.Bool.Decides.{nat_tests}
use Rattle.go_tokens.specs.Spellings.{same_text}
use Rattle.go_tokens.specs.Tokens.{TokenList, kinds}
use Rattle.go_grammar.specs.declared.kind.Category.TheVariants as category
use Rattle.go_grammar.specs.Trees.{Tree, first, last}
use Rattle.go_tree.specs.declared.context.Block.{Block}
use Rattle.go_tree.specs.declared.context.Block.TheVariants as block
use Rattle.go_tree.specs.declared.context.Scope.{Scope}
use Rattle.go_tree.specs.declared.context.Site.{Site}
use Rattle.go_tree.specs.declared.context.Site.TheVariants as site
use Rattle.go_tree.specs.declared.event.Declaration.{Declaration}
use Rattle.go_tree.specs.declared.event.Event.{Event}
use Rattle.go_tree.specs.declared.event.Event.TheVariants as event
use Rattle.go_tree.specs.declared.event.Use.{Use}
use Rattle.go_tree.specs.declared.object.Extent.{Extent}
use Rattle.go_tree.specs.declared.object.Extent.TheVariants as extent
use Rattle.go_tree.specs.declared.object.Object.{Object}
use Rattle.go_tree.specs.Contexts.{is_package, file_context}
use Rattle.go_tree.specs.Declarations.{Found, found, found_in, declarations}
use Rattle.go_tree.specs.Extents.{covers, extent_by, extent_of}
use Rattle.go_tree.specs.Imports.{imports_fmt}
use Rattle.go_tree.specs.Lookups.{Asked, asked, asked_in, asked_from}
use Rattle.go_tree.specs.Meanings.{Meaning, Numbers, first_numbers, own_number, numbers_behind, numbered, imported_meaning, imported_from, meanings, meaning_at}
use Rattle.go_tree.specs.Needs.{Needed, if_so, is_source, way_by, way, right_way, needed_source, needed_meaning, needs, is_same, is_among, with_all, all_needed, needs_itself}
use Rattle.go_tree.specs.Objects.{is_declared_at}
use Rattle.go_tree.specs.Units as names
use Rattle.go_tree.specs.Units.{word, is_blank, bytes_at}
use Rattle.go_scopes_cycles.specs.Closure.{IsDeclared, AreDeclared}
use Rattle.go_scopes_cycles.specs.Columns.{IsSource}
use Rattle.go_scopes_cycles.specs.Needs.{source_of}
use Rattle.go_scopes_events.specs.Moved.{moved_block, moved_declaration, moved_event, moved_scope, moved_site, moved_token, moved_use}
use Rattle.go_scopes_events.specs.Orders.{EachDeclared, IsFollowed}
use Rattle.go_scopes_events.specs.Scopes.{locals_of, first_by, is_import, is_local, inmost, inner, otherwise, over, reached}
use Rattle.go_scopes_events.specs.Scopes as scopes
use Rattle.go_scopes_events.specs.Sited.{EachUsed}
use Rattle.go_scopes_events.proofs.Public.{derives_laid, derives_layered, each_between, events_order, file_follows, locals_good, meaning_reached, true_false}
use Rattle.go_heads.specs.Bodies.{function_events}
use Rattle.go_heads.specs.Functions.{Function, AreRead, Alone, function_alone}
use Rattle.go_heads.specs.Heads.{File, IsRead}
use Rattle.go_heads.specs.Names.{own_text, found_by, own_names, own_declarations, in_file}
use Rattle.go_heads.specs.Objects.{units_of}
use Rattle.go_heads.specs.Told.{file_events}
use Rattle.go_heads.proofs.Public.{Among, Every, IsAside, Lies, NamesIn, Other, each_left, each_right, eq_moved, every_append, every_map, every_new, orderly, ordered_names, same_some, some_none, texts_at, up_meaning}
use Rattle.go_heads.proofs.Public as heads
use Rattle.go_scopes_bodies.specs.Faults.{outer_meaning, own_ask, asked_among, own_asked, all_asked}
use Rattle.go_scopes_bodies.specs.Meant.{Outer, outer_of, own_local, own_meanings}
use Rattle.go_scopes_bodies.proofs.Asks.{asked_both, IsOutOf, other_out, names_out, Holds, over_each, first_each, inmost_each, meaning_each}
use Rattle.go_scopes_bodies.proofs.FunctionParts.{IsOfFunction, IsUsedIn, TellsFunction, function_tells}
use Rattle.go_scopes_bodies.proofs.HeldNeeds.{adds, adds_meaning, adds_none, needs_both, held, held_source, held_append, held_adds, AreOwn, lifted, adds_up, GoesOn, itself_same}
use Rattle.go_scopes_bodies.proofs.Lists.{first_false, second_false, third_false}
use Rattle.go_scopes_bodies.proofs.Lying.{site_token, ListLies}
use Rattle.go_scopes_bodies.proofs.Once.{own_files}
use Rattle.go_scopes_bodies.proofs.Own as own_numbers
use Rattle.go_scopes_bodies.proofs.Rules.{told_in}
use Rattle.go_scopes_bodies.proofs.Sources.{IsAround, IsSourcedIn, all_sourced}
use Rattle.go_scopes_bodies.proofs.Tokens as tokens
use Rattle.go_scopes_bodies.proofs.Unused.{holds_map, not_before, not_from, not_true, unlike, unlike_too, uses_within}

-- ---- in which way a name is needed

source_up : (a s : ℕ) (o : Option ℕ) → is_source (a + s) (moved_token a o) ≡ is_source s o
source_up a s None = refl
source_up a s (Some t) = eq_moved a s t

way_up : (a : ℕ) (d : Declaration) (f : Bool) (x : Site) → way (moved_declaration a d) f (moved_site a x) ≡ way d f x
way_up a d f site.Elsewhere = refl
way_up a d f (site.Type s) = ap (λ b. if_so b (Some true)) (source_up a s d.source)
way_up a d f (site.Value s column alone) = ap (λ b. if_so (b && (nat_eq column d.column || alone)) (Some true)) (source_up a s d.source)
way_up a d f (site.Right s r) = ap (λ b. if_so b (right_way f r)) (source_up a s d.source)

same_number : (s t : ℕ) → nat_eq s t ≡ true → t ≡ s
same_number s t e = grind (arith, nat_tests)

not_source : (s : ℕ) (o : Option ℕ) → (o ≡ Some s → ⊥) → is_source s o ≡ false
not_source s None h = refl
not_source s (Some t) h = not_true (nat_eq s t) (λ e. h (ap Some (same_number s t e)))

-- A name of another specification isn't needed.
way_none : (o : Option ℕ) (own : ℕ) (f : Bool) (x : Site) → ((s : ℕ) → site_token x ≡ Some s → o ≡ Some s → ⊥) → way_by o own f x ≡ None
way_none o own f site.Elsewhere h = refl
way_none o own f (site.Type s) h = ap (λ b. if_so b (Some true)) (not_source s o (h s refl))
way_none o own f (site.Value s column alone) h = ap (λ b. if_so (b && (nat_eq column own || alone)) (Some true)) (not_source s o (h s refl))
way_none o own f (site.Right s r) h = ap (λ b. if_so b (right_way f r)) (not_source s o (h s refl))

none_so : (b : Bool) (w : Option Bool) → w ≡ None → if_so b w ≡ None
none_so true w e = e
none_so false w e = refl

token_up : (a : ℕ) (x : Site) → site_token (moved_site a x) ≡ moved_token a (site_token x)
token_up a site.Elsewhere = refl
token_up a (site.Type s) = refl
token_up a (site.Value s column alone) = refl
token_up a (site.Right s r) = refl

lies_there : (lo z s : ℕ) (o : Option ℕ) → ListLies lo z o → o ≡ Some s → (lo ≤ s) × (s < z)
lies_there lo z s o h e = let x : ListLies lo z (Some s) = subst (ListLies lo z) e h in x

-- ---- meanings

same_found : (Q : Found → Type 0) (d e : Found) → Some d ≡ Some e → Q d → Q e
same_found Q d e s h = subst Q (same_some d e s) h

-- the meaning of a local is one of these
inmost_among : (Q : Meaning → Type 0) (n t : ℕ) (w : List ℕ) (o : Option Meaning) (xs : List Meaning) → Holds Q o → Every Q xs → Holds Q (inmost n t w o xs)
inmost_among Q n t w o [] h g = h
inmost_among Q n t w o (m ∷ ms) h g = inmost_among Q n t w (over n t w o m) ms (over_each Q n t w o m h g.0) g.1

-- there is none where none covers the token
inmost_none : (n t : ℕ) (w : List ℕ) (xs : List Meaning) → Every (λ m. covers m.extent n t ≡ false) xs → inmost n t w None xs ≡ None
inmost_none n t w [] h = refl
inmost_none n t w (m ∷ ms) h = ap (λ o. inmost n t w o ms) (by (same_text m.name w) (covers m.extent n t) h.0) ∙ inmost_none n t w ms h.1
  where
    by : (b c : Bool) → c ≡ false → (if b && c then inner None m else None) ≡ None
    by true c e = ap (λ z. if z then inner None m else None) e
    by false c e = refl

locals_each : (Q : Meaning → Type 0) (n : ℕ) (xs : List Meaning) → Every (λ m. is_local n m.extent ≡ true → Q m) xs → Every Q (locals_of n xs)
locals_each Q n [] h = tt
locals_each Q n (m ∷ ms) h = by (is_local n m.extent) refl (locals_each Q n ms h.1)
  where
    by : (b : Bool) → is_local n m.extent ≡ b → Every Q (locals_of n ms) → Every Q (if b then m ∷ locals_of n ms else locals_of n ms)
    by true e g = (h.0 e, g)
    by false e g = g

no_outer_source : (w : List ℕ) (o : Option Object) → source_of (outer_meaning w o) ≡ None
no_outer_source w None = refl
no_outer_source w (Some o) = refl

needed_each : (Q : Needed → Type 0) (w : Option Bool) (m : Option Meaning) (ns : List Needed) → ((f : Bool) (d : Found) → source_of m ≡ Some d → Q (record { it = d; full = f })) → Every Q ns → Every Q (needed_meaning w m ns)
needed_each Q None m ns h g = g
needed_each Q (Some f) None ns h g = g
needed_each Q (Some f) (Some m) ns h g = by m.source (h f)
  where
    by : (o : Option Found) → ((d : Found) → o ≡ Some d → Q (record { it = d; full = f })) → Every Q (needed_source f o ns)
    by None h = g
    by (Some d) h = (h d refl, g)

none_all : (asks : List Asked) (k : ℕ) → all_needed asks k [] ≡ []
none_all asks zero = refl
none_all asks (suc k) = none_all asks k

-- ---- a function

module _ (fs : List File) (h : AreRead fs) (n : ℕ) (f : Function) (lies : Lies fs n f) (around : IsAround (file_events f.file) (told_in f.file f.tree) (first f.tree) (last f.tree)) where
  abbrev t : Tree
  t = f.tree

  abbrev a : ℕ
  a = first f.tree

  abbrev z : ℕ
  z = last f.tree

  abbrev l : TokenList
  l = f.file.tokens

  abbrev width : ℕ
  width = z - a

  abbrev us : List names.Unit
  us = units_of fs

  abbrev ms : List Meaning
  ms = meanings us

  abbrev by_itself : Alone
  by_itself = function_alone f

  abbrev own : List Found
  own = own_declarations by_itself

  abbrev outer : Outer
  outer = outer_of us n

  abbrev asks : List Asked
  asks = all_asked fs

  abbrev asks_own : List Asked
  asks_own = own_asked by_itself outer

  abbrev told : List Event
  told = told_in f.file f.tree

  abbrev tells_own : List Event
  tells_own = function_events by_itself

  abbrev up : Found → Found
  up = in_file n l a

  read : IsRead f.file
  read = tokens.read fs h n f lies

  told_same : told ≡ map (moved_event a) tells_own
  told_same = heads.tell fs n f.file read lies.there t lies.stands

  text : (x : ℕ) → x < width → own_text by_itself x ≡ word l (a + x)
  text x lt = texts_at l a width x lt

  names_between : EachDeclared (λ d. (a ≤ d.name) × (d.name < z)) told
  names_between = each_between a z a z told (omega arith) (omega arith) (events_order (file_context (last f.file.tree)) t (derives_laid (kinds l.tokens) t category.Declaration lies.stands.sits.derives))

  names_in : NamesIn a z (map (moved_event a) tells_own)
  names_in =
      subst (NamesIn a z) told_same (ordered_names a a z told (omega arith) (events_order (file_context (last f.file.tree)) t (derives_laid (kinds l.tokens) t category.Declaration lies.stands.sits.derives)))

  uses_in : EachUsed (λ u. u.name < width) tells_own
  uses_in = uses_within a z tells_own names_in

  follows : EachDeclared IsFollowed told
  follows =
      each_left IsFollowed told lies.stands.behind
      (each_right IsFollowed lies.stands.before (told ++ lies.stands.behind)
      (subst (EachDeclared IsFollowed) lies.stands.whole
      (file_follows f.file.tree (derives_layered (kinds l.tokens) f.file.tree category.File read.tree.derives) (derives_laid (kinds l.tokens) f.file.tree category.File read.tree.derives))))

  pub tells : TellsFunction a z told
  tells = function_tells (kinds l.tokens) (last f.file.tree) t lies.stands.function lies.stands.sits.derives follows

  abbrev m : ℕ
  m = tells.body

  -- ---- its own declarations

  -- a declaration of the function by itself
  pub record IsOwnOne (d : Found) : Type 0 where
    pub file : d.file ≡ 0
    pub upto : a + d.it.name < z
    pub it : IsOfFunction a m z (moved_declaration a d.it)

  own_found : (w : ℕ → List ℕ) (es : List Event) → EachDeclared (IsOfFunction a m z) (map (moved_event a) es) → NamesIn a z (map (moved_event a) es) → Every IsOwnOne (found_by w es)
  own_found w [] g k = tt
  own_found w (event.Declaration d ∷ es) g k = (record { file = refl; upto = k.1; it = g.0 }, own_found w es g.1 k.2)
  own_found w (event.Use u ∷ es) g k = own_found w es g k.2
  own_found w (event.Import i ∷ es) g k = own_found w es g k
  own_found w (event.Member o x i ∷ es) g k = own_found w es g k
  own_found w (event.Bodiless i j ∷ es) g k = own_found w es g k
  own_found w (event.Statement i j ∷ es) g k = own_found w es g k
  own_found w (event.Misplaced i j ∷ es) g k = own_found w es g k
  own_found w (event.SecondDefault i ∷ es) g k = own_found w es g k

  pub all_own : Every IsOwnOne own
  all_own = every_new IsOwnOne (own_names by_itself) (own_names by_itself) (own_found (own_text by_itself) tells_own (subst (EachDeclared (IsOfFunction a m z)) told_same tells.declared) names_in)

  -- ---- its locals in the package

  -- whether a declaration stands in the function, behind the name of the function
  abbrev pub mine : Found → Bool
  mine d = nat_eq d.file n && (nat_lt (suc a) d.it.name && nat_lt d.it.name z)

  is_mine : (d : Found) → d.file ≡ n → suc a < d.it.name → d.it.name < z → mine d ≡ true
  is_mine d e lo hi = grind (arith, nat_tests)

  mine_there : (d : Found) → mine d ≡ true → (d.file ≡ n) × (suc a < d.it.name) × (d.it.name < z)
  mine_there d e = (let x : d.file ≡ n = grind (arith, nat_tests) in x, let x : suc a < d.it.name = grind (arith, nat_tests) in x, let x : d.it.name < z = grind (arith, nat_tests) in x)

  respects : (d x : Found) → is_same d x ≡ true → mine d ≡ mine x
  respects d x e =
      let p : d.file ≡ x.file = grind (arith, nat_tests) in
      let q : d.it.name ≡ x.it.name = grind (arith, nat_tests) in
      ap (λ k. nat_eq k n && (nat_lt (suc a) d.it.name && nat_lt d.it.name z)) p ∙ ap (λ i. nat_eq x.file n && (nat_lt (suc a) i && nat_lt i z)) q

  local_mine : (d : Found) → IsOwnOne d → is_package (moved_block a d.it.block) ≡ false → mine (up d) ≡ true
  local_mine d one p = is_mine (up d) refl (one.it.local p).0 one.upto

  abbrev mine_source : Option Found → Bool
  mine_source None = false
  mine_source (Some d) = mine d

  -- ---- what names mean

  record HasScope (e : Extent) : Type 0 where
    scope : Scope
    is : e ≡ extent.Between n scope
    from : m ≤ scope.from
    upto : scope.to ≤ z

  -- a meaning that a local of the function gives is in scope in its body
  abbrev IsBodily : Meaning → Type 0
  IsBodily x = mine_source x.source ≡ true → HasScope x.extent

  aside_none : (xs : List Meaning) → ((x : ℕ) → x < width → Every (IsAside n (a + x)) xs) → Every IsBodily xs
  aside_none [] g = tt
  aside_none (q ∷ xs) g = (λ e. absurd (true_false (mine_source q.source) e (by q.source (λ x lt. (g x lt).0.undeclared))), aside_none xs (λ x lt. (g x lt).1))
    where
      by : (o : Option Found) → ((x : ℕ) → x < width → is_declared_at n (a + x) o ≡ false) → mine_source o ≡ false
      by None k = refl
      by (Some d) k =
          not_true (mine d)
          (λ e.
          let there = mine_there d e in
          let x : ℕ = d.it.name - a in
          let same : a + x ≡ d.it.name = omega (arith, there.1) in
          let lt : x < width = omega (arith, there.1, there.2) in
          let declared : (nat_eq d.file n && nat_eq d.it.name (a + x)) ≡ true = let file : d.file ≡ n = there.0 in grind (arith, nat_tests) in
          true_false (is_declared_at n (a + x) (Some d)) declared (k x lt))

  own_scope : (k : ℕ) (c : Scope) (b : Block) (w : List ℕ) (o : Object) (s : Option Found) → is_package (moved_block a b) ≡ false → m ≤ a + c.from → a + c.to ≤ z
      → HasScope (up_meaning n l a (record { name = w; extent = extent_by k c b; object = o; source = s })).extent
  own_scope k c block.Package w o s p lo hi = cc
  own_scope k c (block.Local i) w o s p lo hi = record { scope = moved_scope a c; is = refl; from = lo; upto = hi }

  own_bodily : (i : Numbers) (gs : List Found) → Every IsOwnOne gs → Every IsBodily (map (up_meaning n l a) (numbered i gs))
  own_bodily i [] g = tt
  own_bodily i (d ∷ gs) g = (λ e. by (is_package (moved_block a d.it.block)) refl (mine_there (up d) e), own_bodily (numbers_behind i d.it.entity d.it.block) gs g.1)
    where
      by : (b : Bool) → is_package (moved_block a d.it.block) ≡ b → (n ≡ n) × (suc a < a + d.it.name) × (a + d.it.name < z)
          → HasScope (up_meaning n l a (record { name = d.name; extent = extent_of d; object = own_number i d.it.block; source = Some d })).extent
      by true p there = let x = g.0.it.itself p in absurd (omega (arith, there.1, x.0))
      by false p there = let x = g.0.it.local p in own_scope d.file d.it.scope d.it.block d.name (own_number i d.it.block) (Some d) p x.1 x.2

  all_bodily : Every IsBodily ms
  all_bodily =
      subst (Every IsBodily) (sym (heads.all_meanings fs h n f.file lies.there t lies.stands lies.named))
      (every_append IsBodily _ _ (aside_none _ (λ x lt. heads.imports_aside fs h n f.file lies.there t lies.stands lies.named x lt))
      (every_append IsBodily _ _ (aside_none _ (λ x lt. heads.before_aside fs h n f.file lies.there t lies.stands lies.named x lt))
      (every_append IsBodily _ _ (own_bodily _ own all_own) (aside_none _ (λ x lt. heads.behind_aside fs h n f.file lies.there t lies.stands lies.named x lt)))))

  -- ---- what names call for

  -- What has a specification in the body is a local of the function.
  abbrev pub IsGood : Found → Type 0
  IsGood d = d.file ≡ n → (s : ℕ) → d.it.source ≡ Some s → suc a ≤ s → s < z → mine d ≡ true

  good_found : (es : List Event) → EachDeclared (IsSourcedIn a z) es → Every IsGood (found_in n l es)
  good_found [] g = tt
  good_found (event.Declaration d ∷ es) g = (λ e s q lo hi. let x = g.0 s q lo hi in is_mine (record { file = n; name = word l d.name; place = bytes_at n l d.name; it = d }) refl x.0 x.1, good_found es g.1)
  good_found (e ∷ es) g = good_found es g

  other_good : (d : Found) → Other n d → IsGood d
  other_good d o e s q lo hi = let x : nat_eq n d.file ≡ true = grind (arith, nat_tests) in absurd (true_false (nat_eq n d.file) x o)

  pub all_good : Every IsGood (declarations us)
  all_good =
      let rest : Among n f.file (found us) = heads.rest fs n f.file read lies.there t lies.stands in
      every_new IsGood (found us) (found us)
      (subst (Every IsGood) (sym rest.whole)
      (every_append IsGood rest.front (found_in n l (file_events f.file) ++ rest.behind) (every_map (Other n) IsGood rest.front other_good rest.front_other)
      (every_append IsGood (found_in n l (file_events f.file)) rest.behind (good_found (file_events f.file) (all_sourced (file_events f.file) told a m z around tells.declared names_between)) (every_map (Other n) IsGood rest.behind other_good rest.behind_other))))

  abbrev CallsForGood : Meaning → Type 0
  CallsForGood x = (d : Found) → x.source ≡ Some d → IsGood d

  imports_good : (k : ℕ) (xs : List names.Unit) → Every CallsForGood (imported_from k xs)
  imports_good k [] = tt
  imports_good k (x ∷ xs) = by (imports_fmt x.tokens x.events) (imports_good (suc k) xs)
    where
      by : (b : Bool) → Every CallsForGood (imported_from (suc k) xs) → Every CallsForGood (if b then imported_meaning k ∷ imported_from (suc k) xs else imported_from (suc k) xs)
      by true g = (λ d e. cc, g)
      by false g = g

  numbered_good : (i : Numbers) (ds : List Found) → Every IsGood ds → Every CallsForGood (numbered i ds)
  numbered_good i [] g = tt
  numbered_good i (d ∷ ds) g = (λ e s. same_found IsGood d e s g.0, numbered_good (numbers_behind i d.it.entity d.it.block) ds g.1)

  meanings_good : Every CallsForGood ms
  meanings_good = every_append CallsForGood (imported_from 0 us) (numbered first_numbers (declarations us)) (imports_good 0 us) (numbered_good first_numbers (declarations us) all_good)

  called_good : (j y : ℕ) (w : List ℕ) (d : Found) → source_of (meaning_at ms j y w) ≡ Some d → IsGood d
  called_good j y w d = by (meaning_at ms j y w) (meaning_each CallsForGood j y w ms meanings_good)
    where
      by : (o : Option Meaning) → Holds (λ x. CallsForGood x × (covers x.extent j y ≡ true)) o → source_of o ≡ Some d → IsGood d
      by None g e = cc
      by (Some x) g e = g.0 d e

  abbrev AreGood : List Needed → Type 0
  AreGood = Every (λ y. IsGood y.it)

  good_in : (j : ℕ) (ts : TokenList) (es : List Event) (x : Needed) → AreGood (needs (asked_in ms j ts es) x)
  good_in j ts [] x = tt
  good_in j ts (event.Use u ∷ es) x = by (is_blank (word ts u.name)) (good_in j ts es x)
    where
      by : (b : Bool) → AreGood (needs (asked_in ms j ts es) x) → AreGood (needs (if b then asked_in ms j ts es else asked ms j ts u ∷ asked_in ms j ts es) x)
      by true g = g
      by false g =
          needed_each (λ y. IsGood y.it) (if_so (nat_eq j x.it.file) (way x.it.it x.full u.site)) (meaning_at ms j u.name (word ts u.name)) (needs (asked_in ms j ts es) x)
          (λ k d e. called_good j u.name (word ts u.name) d e) g
  good_in j ts (event.Declaration d ∷ es) x = good_in j ts es x
  good_in j ts (event.Import i ∷ es) x = good_in j ts es x
  good_in j ts (event.Member o g i ∷ es) x = good_in j ts es x
  good_in j ts (event.Bodiless i k ∷ es) x = good_in j ts es x
  good_in j ts (event.Statement i k ∷ es) x = good_in j ts es x
  good_in j ts (event.Misplaced i k ∷ es) x = good_in j ts es x
  good_in j ts (event.SecondDefault i ∷ es) x = good_in j ts es x

  good_from : (j : ℕ) (xs : List names.Unit) (x : Needed) → AreGood (needs (asked_from ms j xs) x)
  good_from j [] x = tt
  good_from j (u ∷ xs) x =
      subst AreGood (sym (needs_both (asked_in ms j u.tokens u.events) (asked_from ms (suc j) xs) x))
      (every_append (λ y. IsGood y.it) (needs (asked_in ms j u.tokens u.events) x) (needs (asked_from ms (suc j) xs) x) (good_in j u.tokens u.events x) (good_from (suc j) xs x))

  -- ---- names elsewhere

  abbrev IsOut : ℕ → ℕ → Type 0
  IsOut = IsOutOf n a z

  uncovered : (s : Scope) (j y : ℕ) → m ≤ s.from → s.to ≤ z → IsOut j y → covers (extent.Between n s) j y ≡ false
  uncovered s j y lo hi (inl e) = first_false (nat_eq n j) (nat_le s.from y) (nat_lt y s.to) e
  uncovered s j y lo hi (inr (inl lt)) = second_false (nat_eq n j) (nat_le s.from y) (nat_lt y s.to) (not_from s.from y (omega (arith, lt, lo, tells.behind)))
  uncovered s j y lo hi (inr (inr le)) = third_false (nat_eq n j) (nat_le s.from y) (nat_lt y s.to) (not_before y s.to (omega (arith, le, hi)))

  no_held : (o : Option Meaning) → Holds (λ q. mine_source q.source ≡ false) o → held_source mine (source_of o) ≡ None
  no_held None g = refl
  no_held (Some q) g = by q.source g
    where
      by : (s : Option Found) → mine_source s ≡ false → held_source mine s ≡ None
      by None e = refl
      by (Some d) e = ap (λ b. if b then Some d else None) e

  outside_none : (j y : ℕ) (w : List ℕ) → IsOut j y → held_source mine (source_of (meaning_at ms j y w)) ≡ None
  outside_none j y w out =
      no_held (meaning_at ms j y w)
      (holds_map (λ q. IsBodily q × (covers q.extent j y ≡ true)) (λ q. mine_source q.source ≡ false) (meaning_at ms j y w)
      (λ q g. not_true (mine_source q.source) (λ e. let x : HasScope q.extent = g.0 e in true_false (covers q.extent j y) g.1 (ap (λ c. covers c j y) x.is ∙ uncovered x.scope j y x.from x.upto out)))
      (meaning_each IsBodily j y w ms all_bodily))

  held_needed : (w : Option Bool) (q : Option Meaning) (o : Option Found) (ns : List Needed) → held_source mine (source_of q) ≡ o → held mine (needed_meaning w q ns) ≡ adds w o (held mine ns)
  held_needed w q o ns e = ap (held mine) (adds_meaning w q ns) ∙ held_adds mine w (source_of q) ns ∙ ap (λ o. adds w o (held mine ns)) e

  abbrev HoldsNone : Needed → List Asked → Type 0
  HoldsNone x xs = held mine (needs xs x) ≡ []

  none_out : (x : Needed) (j : ℕ) (ts : TokenList) (es : List Event) → EachUsed (λ u. IsOut j u.name) es → HoldsNone x (asked_in ms j ts es)
  none_out x j ts [] g = refl
  none_out x j ts (event.Use u ∷ es) g = by (is_blank (word ts u.name)) (none_out x j ts es g.1)
    where
      by : (b : Bool) → HoldsNone x (asked_in ms j ts es) → HoldsNone x (if b then asked_in ms j ts es else asked ms j ts u ∷ asked_in ms j ts es)
      by true e = e
      by false e =
          let w : Option Bool = if_so (nat_eq j x.it.file) (way x.it.it x.full u.site) in
          held_needed w (meaning_at ms j u.name (word ts u.name)) None (needs (asked_in ms j ts es) x) (outside_none j u.name (word ts u.name) g.0) ∙ adds_none w (held mine (needs (asked_in ms j ts es) x)) ∙ e
  none_out x j ts (event.Declaration d ∷ es) g = none_out x j ts es g
  none_out x j ts (event.Import i ∷ es) g = none_out x j ts es g
  none_out x j ts (event.Member o c i ∷ es) g = none_out x j ts es g
  none_out x j ts (event.Bodiless i k ∷ es) g = none_out x j ts es g
  none_out x j ts (event.Statement i k ∷ es) g = none_out x j ts es g
  none_out x j ts (event.Misplaced i k ∷ es) g = none_out x j ts es g
  none_out x j ts (event.SecondDefault i ∷ es) g = none_out x j ts es g

  held_both : (x : Needed) (xs ys : List Asked) → held mine (needs (xs ++ ys) x) ≡ held mine (needs xs x) ++ held mine (needs ys x)
  held_both x xs ys = ap (held mine) (needs_both xs ys x) ∙ held_append mine (needs xs x) (needs ys x)

  nothing_more : (xs : List Needed) → xs ++ [] ≡ xs
  nothing_more [] = refl
  nothing_more (x ∷ xs) = ap (λ ys. x ∷ ys) (nothing_more xs)

  abbrev told_asks : List Asked
  told_asks = asked_in ms n l (map (moved_event a) tells_own)

  file_held : (x : Needed) → held mine (needs (asked_in ms n l (file_events f.file)) x) ≡ held mine (needs told_asks x)
  file_held x =
      let before : List Event = lies.stands.before in
      let behind : List Event = lies.stands.behind in
      ap (λ es. held mine (needs (asked_in ms n l es) x)) lies.stands.whole
      ∙ ap (λ xs. held mine (needs xs x)) (asked_both ms n l before (told ++ behind))
      ∙ held_both x (asked_in ms n l before) (asked_in ms n l (told ++ behind))
      ∙ ap (λ ns. ns ++ held mine (needs (asked_in ms n l (told ++ behind)) x)) (none_out x n l before (names_out n a z 0 a before (λ y lo hi. inr (inl hi)) lies.stands.names_before))
      ∙ ap (λ xs. held mine (needs xs x)) (asked_both ms n l told behind)
      ∙ held_both x (asked_in ms n l told) (asked_in ms n l behind)
      ∙ ap (λ ns. held mine (needs (asked_in ms n l told) x) ++ ns) (none_out x n l behind (names_out n a z z (last f.file.tree) behind (λ y lo hi. inr (inr lo)) lies.stands.names_behind))
      ∙ nothing_more (held mine (needs (asked_in ms n l told) x))
      ∙ ap (λ es. held mine (needs (asked_in ms n l es) x)) told_same

  later_files : (x : Needed) (j : ℕ) (gs : List File) → n < j → HoldsNone x (asked_from ms j (units_of gs))
  later_files x j [] lt = refl
  later_files x j (g ∷ gs) lt =
      held_both x (asked_in ms j g.tokens (file_events g)) (asked_from ms (suc j) (units_of gs))
      ∙ ap (λ ns. ns ++ held mine (needs (asked_from ms (suc j) (units_of gs)) x)) (none_out x j g.tokens (file_events g) (other_out n a z j (file_events g) (unlike_too n j lt)))
      ∙ later_files x (suc j) gs (omega (arith, lt))

  files_held : (x : Needed) (j i : ℕ) (gs : List File) → n ≡ j + i → slice_get gs i ≡ Some f.file → held mine (needs (asked_from ms j (units_of gs)) x) ≡ held mine (needs (asked_in ms n l (file_events f.file)) x)
  files_held x j i [] e there = absurd (some_none f.file (sym there))
  files_held x j zero (g ∷ gs) e there =
      let same : j ≡ n = omega (arith, e) in
      held_both x (asked_in ms j g.tokens (file_events g)) (asked_from ms (suc j) (units_of gs))
      ∙ ap (λ ns. held mine (needs (asked_in ms j g.tokens (file_events g)) x) ++ ns) (later_files x (suc j) gs (omega (arith, e)))
      ∙ nothing_more (held mine (needs (asked_in ms j g.tokens (file_events g)) x))
      ∙ ap (λ (c : File). held mine (needs (asked_in ms j c.tokens (file_events c)) x)) (same_some g f.file there)
      ∙ ap (λ i. held mine (needs (asked_in ms i l (file_events f.file)) x)) same
  files_held x j (suc i) (g ∷ gs) e there =
      held_both x (asked_in ms j g.tokens (file_events g)) (asked_from ms (suc j) (units_of gs))
      ∙ ap (λ ns. ns ++ held mine (needs (asked_from ms (suc j) (units_of gs)) x)) (none_out x j g.tokens (file_events g) (other_out n a z j (file_events g) (unlike n j (omega (arith, e)))))
      ∙ files_held x (suc j) i gs (omega (arith, e)) there

  all_held : (x : Needed) → held mine (needs asks x) ≡ held mine (needs told_asks x)
  all_held x = files_held x 0 n fs (omega arith) lies.there ∙ file_held x

  -- ---- names in the function

  -- its own locals
  own_held : Every (λ q. is_local 0 q.extent ≡ true → held_source mine (option_map up q.source) ≡ option_map up q.source) (own_meanings by_itself)
  own_held = go first_numbers own all_own
    where
      go : (i : Numbers) (gs : List Found) → Every IsOwnOne gs → Every (λ q. is_local 0 q.extent ≡ true → held_source mine (option_map up q.source) ≡ option_map up q.source) (numbered i gs)
      go i [] g = tt
      go i (d ∷ gs) g = (λ e. by d.it.block (local_mine d g.0) e, go (numbers_behind i d.it.entity d.it.block) gs g.1)
        where
          by : (b : Block) → (is_package (moved_block a b) ≡ false → mine (up d) ≡ true) → is_local 0 (extent_by d.file d.it.scope b) ≡ true → held_source mine (Some (up d)) ≡ Some (up d)
          by block.Package k e = cc
          by (block.Local c) k e = ap (λ b. if b then Some (up d) else None) (k refl)

  -- are in scope in its body alone
  own_covers : (y : ℕ) → a + y < m → Every (λ q. is_local 0 q.extent ≡ true → covers q.extent 0 y ≡ false) (own_meanings by_itself)
  own_covers y early = go first_numbers own all_own
    where
      go : (i : Numbers) (gs : List Found) → Every IsOwnOne gs → Every (λ q. is_local 0 q.extent ≡ true → covers q.extent 0 y ≡ false) (numbered i gs)
      go i [] g = tt
      go i (d ∷ gs) g = (λ e. by d.it.block (λ p. (g.0.it.local p).1) e, go (numbers_behind i d.it.entity d.it.block) gs g.1)
        where
          by : (b : Block) → (is_package (moved_block a b) ≡ false → m ≤ a + d.it.scope.from) → is_local 0 (extent_by d.file d.it.scope b) ≡ true → covers (extent_by d.file d.it.scope b) 0 y ≡ false
          by block.Package k e = cc
          by (block.Local c) k e = second_false (nat_eq d.file 0) (nat_le d.it.scope.from y) (nat_lt y d.it.scope.to) (not_from d.it.scope.from y (omega (arith, k refl, early)))

  module _ (u : Use) (lt : u.name < width) where
    abbrev y : ℕ
    y = u.name

    abbrev w : List ℕ
    w = own_text by_itself y

    abbrev own_source : Option Found
    own_source = source_of (own_ask by_itself outer u).meaning

    abbrev imported : Option Meaning
    imported = first_by (is_import n) w ms

    abbrev of_package : Option Meaning
    of_package = first_by scopes.is_package w ms

    no_import : Holds (λ q. mine_source q.source ≡ false) imported
    no_import =
        holds_map (λ q. IsBodily q × (is_import n q.extent ≡ true)) (λ q. mine_source q.source ≡ false) imported
        (λ q g. not_true (mine_source q.source) (λ e. let x : HasScope q.extent = g.0 e in true_false (is_import n q.extent) g.1 (ap (is_import n) x.is))) (first_each IsBodily (is_import n) w ms all_bodily)

    no_package : Holds (λ q. mine_source q.source ≡ false) of_package
    no_package =
        holds_map (λ q. IsBodily q × (scopes.is_package q.extent ≡ true)) (λ q. mine_source q.source ≡ false) of_package
        (λ q g. not_true (mine_source q.source) (λ e. let x : HasScope q.extent = g.0 e in true_false (scopes.is_package q.extent) g.1 (ap scopes.is_package x.is))) (first_each IsBodily scopes.is_package w ms all_bodily)

    not_outer : (i p : Option Meaning) → Holds (λ q. mine_source q.source ≡ false) i → Holds (λ q. mine_source q.source ≡ false) p → held_source mine (source_of (otherwise i p)) ≡ None
    not_outer None p g k = no_held p k
    not_outer (Some q) p g k = no_held (Some q) g

    local_source : (o : Option Meaning) → Holds (λ q. held_source mine (option_map up q.source) ≡ option_map up q.source) o
        → held_source mine (source_of (reached (option_map (up_meaning n l a) (option_map (own_numbers.up (tokens.s fs h n f lies) (tokens.k fs h n f lies)) o)) imported of_package)) ≡ option_map up (source_of (otherwise o (outer_meaning w (outer w))))
    local_source None g = not_outer imported of_package no_import no_package ∙ sym (ap (option_map up) (no_outer_source w (outer w)))
    local_source (Some q) g = g

    -- a name calls for the same local in the package as in the function by itself
    pub same_source : held_source mine (source_of (meaning_at ms n (a + y) (word l (a + y)))) ≡ option_map up own_source
    same_source =
        ap (λ v. held_source mine (source_of (meaning_at ms n (a + y) v))) (sym (text y lt))
        ∙ ap (λ o. held_source mine (source_of o)) (meaning_reached n (a + y) w ms (locals_good us (orderly fs h) n).1)
        ∙ ap (λ o. held_source mine (source_of (reached o imported of_package)))
        (heads.local_inmost fs h n f.file lies.there t lies.stands lies.named y lt w
        ∙ ap (λ xs. option_map (up_meaning n l a) (inmost 0 y w None (locals_of 0 xs))) (tokens.meanings_up fs h n f lies)
        ∙ ap (option_map (up_meaning n l a)) (own_numbers.inmost_up (tokens.s fs h n f lies) (tokens.k fs h n f lies) y w None (own_meanings by_itself)))
        ∙ local_source (own_local by_itself y w)
        (inmost_among (λ q. held_source mine (option_map up q.source) ≡ option_map up q.source) 0 y w None (locals_of 0 (own_meanings by_itself)) tt
        (locals_each (λ q. held_source mine (option_map up q.source) ≡ option_map up q.source) 0 (own_meanings by_itself) own_held))

    -- and for none in the signature
    pub no_source : a + y < m → own_source ≡ None
    no_source early =
        ap (λ o. source_of (otherwise o (outer_meaning w (outer w))))
        (inmost_none 0 y w (locals_of 0 (own_meanings by_itself)) (locals_each (λ q. covers q.extent 0 y ≡ false) 0 (own_meanings by_itself) (own_covers y early)))
        ∙ no_outer_source w (outer w)

  -- ---- what is needed

  same_way_up : (x : Needed) (u : Use) → x.it.file ≡ 0 → if_so (nat_eq n n) (way (moved_declaration a x.it.it) x.full (moved_site a u.site)) ≡ if_so (nat_eq 0 x.it.file) (way x.it.it x.full u.site)
  same_way_up x u e =
      let p : nat_eq n n ≡ true = grind (arith, nat_tests) in
      let q : nat_eq 0 x.it.file ≡ true = grind (arith, nat_tests) in
      ap (λ b. if_so b (way (moved_declaration a x.it.it) x.full (moved_site a u.site))) p ∙ way_up a x.it.it x.full u.site ∙ sym (ap (λ b. if_so b (way x.it.it x.full u.site)) q)

  inside_in : (x : Needed) → x.it.file ≡ 0 → (es : List Event) → EachUsed (λ u. u.name < width) es
      → held mine (needs (asked_in ms n l (map (moved_event a) es)) (lifted n a l x)) ≡ map (lifted n a l) (needs (asked_among by_itself outer es) x)
  inside_in x e [] g = refl
  inside_in x e (event.Use u ∷ es) g =
      ap (λ b. held mine (needs (if b then asked_in ms n l (map (moved_event a) es) else asked ms n l (moved_use a u) ∷ asked_in ms n l (map (moved_event a) es)) (lifted n a l x))) (ap is_blank (sym (text u.name g.0)))
      ∙ by (is_blank (own_text by_itself u.name)) (inside_in x e es g.1)
    where
      by : (b : Bool) → held mine (needs (asked_in ms n l (map (moved_event a) es)) (lifted n a l x)) ≡ map (lifted n a l) (needs (asked_among by_itself outer es) x)
          → held mine (needs (if b then asked_in ms n l (map (moved_event a) es) else asked ms n l (moved_use a u) ∷ asked_in ms n l (map (moved_event a) es)) (lifted n a l x))
          ≡ map (lifted n a l) (needs (if b then asked_among by_itself outer es else own_ask by_itself outer u ∷ asked_among by_itself outer es) x)
      by true r = r
      by false r =
          let there : Option Bool = if_so (nat_eq n n) (way (moved_declaration a x.it.it) x.full (moved_site a u.site)) in
          let here : Option Bool = if_so (nat_eq 0 x.it.file) (way x.it.it x.full u.site) in
          let o : Option Found = source_of (own_ask by_itself outer u).meaning in
          let rest : List Needed = needs (asked_among by_itself outer es) x in
          held_needed there (meaning_at ms n (a + u.name) (word l (a + u.name))) (option_map up o) (needs (asked_in ms n l (map (moved_event a) es)) (lifted n a l x)) (same_source u g.0)
          ∙ ap (adds there (option_map up o)) r
          ∙ ap (λ v. adds v (option_map up o) (map (lifted n a l) rest)) (same_way_up x u e)
          ∙ adds_up n a l here o rest
          ∙ ap (map (lifted n a l)) (sym (adds_meaning here (own_ask by_itself outer u).meaning rest))
  inside_in x e (event.Declaration d ∷ es) g = inside_in x e es g
  inside_in x e (event.Import i ∷ es) g = inside_in x e es g
  inside_in x e (event.Member o c i ∷ es) g = inside_in x e es g
  inside_in x e (event.Bodiless i k ∷ es) g = inside_in x e es g
  inside_in x e (event.Statement i k ∷ es) g = inside_in x e es g
  inside_in x e (event.Misplaced i k ∷ es) g = inside_in x e es g
  inside_in x e (event.SecondDefault i ∷ es) g = inside_in x e es g

  not_needed : (x : Needed) (v : Use) → IsGood x.it → mine x.it ≡ false → ListLies (suc a) z (site_token v.site) → if_so (nat_eq n x.it.file) (way x.it.it x.full v.site) ≡ None
  not_needed x v good out lie = by (nat_eq n x.it.file) refl
    where
      by : (b : Bool) → nat_eq n x.it.file ≡ b → if_so b (way x.it.it x.full v.site) ≡ None
      by false e = refl
      by true e =
          way_none x.it.it.source x.it.it.column x.full v.site
          (λ s p q. let there = lies_there (suc a) z s (site_token v.site) lie p in true_false (mine x.it) (good (same_number n x.it.file e) s q there.0 there.1) out)

  beside_one : (x : Needed) → IsGood x.it → mine x.it ≡ false → (u : Use) → u.name < width → IsUsedIn m (suc a) z (moved_use a u) → (rest : List Asked) → HoldsNone x rest → HoldsNone x (asked ms n l (moved_use a u) ∷ rest)
  beside_one x good out u lt used rest r =
      let there : Option Bool = if_so (nat_eq n x.it.file) (way x.it.it x.full (moved_site a u.site)) in
      let o : Option Found = source_of (own_ask by_itself outer u).meaning in
      held_needed there (meaning_at ms n (a + u.name) (word l (a + u.name))) (option_map up o) (needs rest x) (same_source u lt) ∙ ap (adds there (option_map up o)) r ∙ by used
    where
      by : IsUsedIn m (suc a) z (moved_use a u) → adds (if_so (nat_eq n x.it.file) (way x.it.it x.full (moved_site a u.site))) (option_map up (source_of (own_ask by_itself outer u).meaning)) [] ≡ []
      by (inl early) =
          ap (λ o. adds (if_so (nat_eq n x.it.file) (way x.it.it x.full (moved_site a u.site))) (option_map up o) []) (no_source u lt early) ∙ adds_none (if_so (nat_eq n x.it.file) (way x.it.it x.full (moved_site a u.site))) []
      by (inr lie) = ap (λ c. adds c (option_map up (source_of (own_ask by_itself outer u).meaning)) []) (not_needed x (moved_use a u) good out lie)

  beside_in : (x : Needed) → IsGood x.it → mine x.it ≡ false → (es : List Event) → EachUsed (λ u. u.name < width) es → EachUsed (IsUsedIn m (suc a) z) (map (moved_event a) es) → HoldsNone x (asked_in ms n l (map (moved_event a) es))
  beside_in x good out [] g k = refl
  beside_in x good out (event.Use u ∷ es) g k = by (is_blank (word l (a + u.name))) (beside_in x good out es g.1 k.1)
    where
      by : (b : Bool) → HoldsNone x (asked_in ms n l (map (moved_event a) es)) → HoldsNone x (if b then asked_in ms n l (map (moved_event a) es) else asked ms n l (moved_use a u) ∷ asked_in ms n l (map (moved_event a) es))
      by true r = r
      by false r = beside_one x good out u g.0 k.0 (asked_in ms n l (map (moved_event a) es)) r
  beside_in x good out (event.Declaration d ∷ es) g k = beside_in x good out es g k
  beside_in x good out (event.Import i ∷ es) g k = beside_in x good out es g k
  beside_in x good out (event.Member o c i ∷ es) g k = beside_in x good out es g k
  beside_in x good out (event.Bodiless i j ∷ es) g k = beside_in x good out es g k
  beside_in x good out (event.Statement i j ∷ es) g k = beside_in x good out es g k
  beside_in x good out (event.Misplaced i j ∷ es) g k = beside_in x good out es g k
  beside_in x good out (event.SecondDefault i ∷ es) g k = beside_in x good out es g k

  -- ---- by itself

  own_local_each : (Q : Meaning → Type 0) (y : ℕ) (w : List ℕ) → Every Q (own_meanings by_itself) → Holds Q (own_local by_itself y w)
  own_local_each Q y w g = inmost_each Q 0 y w None (own_meanings by_itself) tt g

  source_each : (Q : Found → Type 0) (u : Use) → Every (λ q. (d : Found) → q.source ≡ Some d → Q d) (own_meanings by_itself) → (d : Found) → source_of (own_ask by_itself outer u).meaning ≡ Some d → Q d
  source_each Q u g d = by (own_local by_itself u.name (own_text by_itself u.name)) (own_local_each (λ q. (d : Found) → q.source ≡ Some d → Q d) u.name (own_text by_itself u.name) g)
    where
      none_outer : (w : List ℕ) (o : Option Object) → source_of (outer_meaning w o) ≡ Some d → Q d
      none_outer w None e = cc
      none_outer w (Some o) e = cc

      by : (o : Option Meaning) → Holds (λ q. (d : Found) → q.source ≡ Some d → Q d) o → source_of (otherwise o (outer_meaning (own_text by_itself u.name) (outer (own_text by_itself u.name)))) ≡ Some d → Q d
      by None k e = none_outer (own_text by_itself u.name) (outer (own_text by_itself u.name)) e
      by (Some q) k e = k d e

  numbered_each : (Q : Found → Type 0) (i : Numbers) (ds : List Found) → Every Q ds → Every (λ q. (d : Found) → q.source ≡ Some d → Q d) (numbered i ds)
  numbered_each Q i [] g = tt
  numbered_each Q i (d ∷ ds) g = (λ e s. same_found Q d e s g.0, numbered_each Q (numbers_behind i d.it.entity d.it.block) ds g.1)

  owned_in : (es : List Event) (x : Needed) → AreOwn (needs (asked_among by_itself outer es) x)
  owned_in [] x = tt
  owned_in (event.Use u ∷ es) x = by (is_blank (own_text by_itself u.name)) (owned_in es x)
    where
      by : (b : Bool) → AreOwn (needs (asked_among by_itself outer es) x) → AreOwn (needs (if b then asked_among by_itself outer es else own_ask by_itself outer u ∷ asked_among by_itself outer es) x)
      by true g = g
      by false g =
          needed_each (λ y. y.it.file ≡ 0) (if_so (nat_eq 0 x.it.file) (way x.it.it x.full u.site)) (own_ask by_itself outer u).meaning (needs (asked_among by_itself outer es) x)
          (λ k d e. source_each (λ c. c.file ≡ 0) u (numbered_each (λ c. c.file ≡ 0) first_numbers own (own_files by_itself)) d e) g
  owned_in (event.Declaration d ∷ es) x = owned_in es x
  owned_in (event.Import i ∷ es) x = owned_in es x
  owned_in (event.Member o c i ∷ es) x = owned_in es x
  owned_in (event.Bodiless i k ∷ es) x = owned_in es x
  owned_in (event.Statement i k ∷ es) x = owned_in es x
  owned_in (event.Misplaced i k ∷ es) x = owned_in es x
  owned_in (event.SecondDefault i ∷ es) x = owned_in es x

  same_itself : (d : Found) → is_same d d ≡ true
  same_itself d = grind (arith, nat_tests)

  among_own : (ds : List Found) → ((e : Found) → IsDeclared e ds → IsDeclared e own) → Every (λ d. IsDeclared d own) ds
  among_own [] k = tt
  among_own (d ∷ ds) k = (k d (inl (same_itself d)), among_own ds (λ e i. k e (inr i)))

  declared_in : (es : List Event) (e : Found) → IsSource e (asked_among by_itself outer es) → IsDeclared e own
  declared_in [] e s = absurd s
  declared_in (event.Use u ∷ es) e s = by (is_blank (own_text by_itself u.name)) (declared_in es e) s
    where
      by : (b : Bool) → (IsSource e (asked_among by_itself outer es) → IsDeclared e own) → IsSource e (if b then asked_among by_itself outer es else own_ask by_itself outer u ∷ asked_among by_itself outer es) → IsDeclared e own
      by true go s = go s
      by false go (inl s) = source_each (λ c. IsDeclared c own) u (numbered_each (λ c. IsDeclared c own) first_numbers own (among_own own (λ e i. i))) e s
      by false go (inr s) = go s
  declared_in (event.Declaration d ∷ es) e s = declared_in es e s
  declared_in (event.Import i ∷ es) e s = declared_in es e s
  declared_in (event.Member o c i ∷ es) e s = declared_in es e s
  declared_in (event.Bodiless i k ∷ es) e s = declared_in es e s
  declared_in (event.Statement i k ∷ es) e s = declared_in es e s
  declared_in (event.Misplaced i k ∷ es) e s = declared_in es e s
  declared_in (event.SecondDefault i ∷ es) e s = declared_in es e s

  -- what its names call for is what it declares
  pub declared : AreDeclared asks_own own
  declared = declared_in tells_own

  token_behind : (u : Use) (s : ℕ) → ListLies (suc a) z (site_token (moved_site a u.site)) → site_token u.site ≡ Some s → 0 < s
  token_behind u s lie e = let there = lies_there (suc a) z (a + s) (site_token (moved_site a u.site)) lie (token_up a u.site ∙ ap (moved_token a) e) in omega (arith, there.0)

  -- the function itself needs none of its locals
  itself_one : (x : Needed) → ((s : ℕ) → x.it.it.source ≡ Some s → s ≡ 0) → (u : Use) → u.name < width → IsUsedIn m (suc a) z (moved_use a u) → (rest : List Asked) → needs rest x ≡ [] → needs (own_ask by_itself outer u ∷ rest) x ≡ []
  itself_one x first_token u lt used rest r =
      let here : Option Bool = if_so (nat_eq 0 x.it.file) (way x.it.it x.full u.site) in
      adds_meaning here (own_ask by_itself outer u).meaning (needs rest x) ∙ ap (adds here (source_of (own_ask by_itself outer u).meaning)) r ∙ by used
    where
      by : IsUsedIn m (suc a) z (moved_use a u) → adds (if_so (nat_eq 0 x.it.file) (way x.it.it x.full u.site)) (source_of (own_ask by_itself outer u).meaning) [] ≡ []
      by (inl early) = ap (λ o. adds (if_so (nat_eq 0 x.it.file) (way x.it.it x.full u.site)) o []) (no_source u lt early) ∙ adds_none (if_so (nat_eq 0 x.it.file) (way x.it.it x.full u.site)) []
      by (inr lie) =
          ap (λ c. adds c (source_of (own_ask by_itself outer u).meaning) [])
          (none_so (nat_eq 0 x.it.file) (way x.it.it x.full u.site) (way_none x.it.it.source x.it.it.column x.full u.site (λ s p q. let behind : 0 < s = token_behind u s lie p in let none : s ≡ 0 = first_token s q in omega (arith, behind, none))))

  itself_in : (x : Needed) → ((s : ℕ) → x.it.it.source ≡ Some s → s ≡ 0) → (es : List Event) → EachUsed (λ u. u.name < width) es → EachUsed (IsUsedIn m (suc a) z) (map (moved_event a) es) → needs (asked_among by_itself outer es) x ≡ []
  itself_in x first_token [] g k = refl
  itself_in x first_token (event.Use u ∷ es) g k = by (is_blank (own_text by_itself u.name)) (itself_in x first_token es g.1 k.1)
    where
      by : (b : Bool) → needs (asked_among by_itself outer es) x ≡ [] → needs (if b then asked_among by_itself outer es else own_ask by_itself outer u ∷ asked_among by_itself outer es) x ≡ []
      by true r = r
      by false r = itself_one x first_token u g.0 k.0 (asked_among by_itself outer es) r
  itself_in x first_token (event.Declaration d ∷ es) g k = itself_in x first_token es g k
  itself_in x first_token (event.Import i ∷ es) g k = itself_in x first_token es g k
  itself_in x first_token (event.Member o c i ∷ es) g k = itself_in x first_token es g k
  itself_in x first_token (event.Bodiless i j ∷ es) g k = itself_in x first_token es g k
  itself_in x first_token (event.Statement i j ∷ es) g k = itself_in x first_token es g k
  itself_in x first_token (event.Misplaced i j ∷ es) g k = itself_in x first_token es g k
  itself_in x first_token (event.SecondDefault i ∷ es) g k = itself_in x first_token es g k

  used_moved : EachUsed (IsUsedIn m (suc a) z) (map (moved_event a) tells_own)
  used_moved = subst (EachUsed (IsUsedIn m (suc a) z)) told_same tells.used

  pub never_itself : (k : ℕ) (d : Found) → IsOwnOne d → is_package (moved_block a d.it.block) ≡ true → needs_itself asks_own k d ≡ false
  never_itself k d one p =
      let x : Needed = record { it = d; full = false } in
      let first_token : (s : ℕ) → d.it.source ≡ Some s → s ≡ 0 = λ s e. by s d.it.source (one.it.itself p).1 e in
      ap (λ ns. is_among d (all_needed asks_own k (with_all ns []))) (itself_in x first_token tells_own uses_in used_moved) ∙ ap (is_among d) (none_all asks_own k)
    where
      by : (s : ℕ) (o : Option ℕ) → moved_token a o ≡ Some a → o ≡ Some s → s ≡ 0
      by s None e g = cc
      by s (Some r) e g = let q : a + r ≡ a = same_token (a + r) a e in let c : r ≡ s = same_token r s g in omega (arith, q, c)
        where
          same_token : (i j : ℕ) → Some i ≡ Some j → i ≡ j
          same_token i j e = cc

  -- ---- rounds

  goes : GoesOn n a l mine asks asks_own IsGood
  goes = record {
    respects = respects;
    good = good_from 0 us;
    owned = owned_in tells_own;
    inside = λ x e. all_held (lifted n a l x) ∙ inside_in x e tells_own uses_in;
    beside = λ x good out. all_held x ∙ beside_in x good out tells_own uses_in used_moved;
  }

  -- A local needs itself in the package where it does in the function by itself.
  pub local_itself : (k : ℕ) (d : Found) → IsOwnOne d → is_package (moved_block a d.it.block) ≡ false → needs_itself asks k (up d) ≡ needs_itself asks_own k d
  local_itself k d one p = itself_same n a l mine asks asks_own IsGood goes k d one.file (local_mine d one p)
