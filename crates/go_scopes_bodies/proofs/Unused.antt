-- That each local variable is used: function by function.
use Rattle.std.proofs.Common.{◌≡◌, ◌∙◌, ℕ, zero, suc, ◌+◌, ◌-◌, ◌<◌, ◌≤◌, ◌⊎◌, inl, inr, Bool, true, false, List, [], ◌∷◌, ◌++◌, map, Option, Some, None, refl, sym, ap, subst, arith}
use Rattle.std.specs.Prelude.{if◌then◌else◌, ◌&&◌, ◌||◌, not, nat_eq, nat_le, nat_lt, slice_get, option_map}
use Rattle.std.proofs.lemmas.Bool.Decides.{nat_tests}
use Rattle.go_tokens.specs.Tokens.{TokenList, kinds}
use Rattle.go_tokens.specs.declared.token.TokenKind.{TokenKind}
use Rattle.go_grammar.specs.Grammar.{Derives}
use Rattle.go_grammar.specs.declared.kind.Category.TheVariants as category
use Rattle.go_grammar.specs.declared.kind.Kind.TheVariants as kind
use Rattle.go_grammar.specs.Trees.{Tree, node, Trees, kind_of, first, last}
use Rattle.go_tree.specs.declared.context.Block.{Block}
use Rattle.go_tree.specs.declared.context.Block.TheVariants as block
use Rattle.go_tree.specs.declared.context.Entity.{Entity}
use Rattle.go_tree.specs.declared.context.Entity.TheVariants as entity
use Rattle.go_tree.specs.declared.context.Role.{Role}
use Rattle.go_tree.specs.declared.context.Role.TheVariants as role
use Rattle.go_tree.specs.declared.context.Scope.{Scope}
use Rattle.go_tree.specs.declared.event.Declaration.{Declaration}
use Rattle.go_tree.specs.declared.event.Event.{Event}
use Rattle.go_tree.specs.declared.event.Event.TheVariants as event
use Rattle.go_tree.specs.declared.event.Use.{Use}
use Rattle.go_tree.specs.declared.object.Extent.{Extent}
use Rattle.go_tree.specs.declared.object.Extent.TheVariants as extent
use Rattle.go_tree.specs.declared.object.Object.{Object}
use Rattle.go_tree.specs.Contexts.{is_there, is_package, file_context}
use Rattle.go_tree.specs.Declarations.{Found, found, found_in, found_from, is_new, new_among, declarations}
use Rattle.go_tree.specs.Events.{function_events as declaring_events, begin, events, events_of}
use Rattle.go_tree.specs.Extents.{covers, extent_by, extent_of}
use Rattle.go_tree.specs.Failures.{place_if, of_files}
use Rattle.go_tree.specs.Lists.{is_function}
use Rattle.go_tree.specs.Lookups.{Asked, asked, asked_in, asked_from, is_counted, is_assigned, means, is_used, unused_variables}
use Rattle.go_tree.specs.Meanings.{Meaning, Numbers, first_numbers, own_number, numbers_behind, numbered, imported_from, meanings, meaning_at}
use Rattle.go_tree.specs.Objects.{is_declared_at}
use Rattle.go_tree.specs.Units as names
use Rattle.go_tree.specs.Units.{word, is_blank}
use Rattle.go_tree.specs.Views.{part_at}
use Rattle.go_scopes_events.specs.Moved.{moved_block, moved_event, moved_role, moved_scope, moved_use}
use Rattle.go_scopes_events.specs.Orders.{AreInOrder, EachDeclared}
use Rattle.go_scopes_events.specs.Scopes.{locals_of, first_by, is_import, inmost, otherwise, reached}
use Rattle.go_scopes_events.specs.Scopes as scopes
use Rattle.go_scopes_events.specs.Sited.{EachUsed}
use Rattle.go_scopes_events.proofs.Public.{IsLaidOut, AreLayered, Function as FunctionLayer, Lies as LiesAt, laid_grows, derives_laid, derives_layered, events_order, function_nested, each_append, each_map, meaning_reached, locals_good, true_false}
use Rattle.go_heads.specs.Bodies.{function_events}
use Rattle.go_heads.specs.Functions.{Function, AreRead, Alone, function_alone}
use Rattle.go_heads.specs.Heads.{File, IsRead}
use Rattle.go_heads.specs.Locals.{AreNamed}
use Rattle.go_heads.specs.Names.{own_text, found_by, own_names, own_declarations, in_file}
use Rattle.go_heads.specs.Objects.{units_of}
use Rattle.go_heads.specs.Told.{file_events}
use Rattle.go_heads.proofs.Public.{Every, every_append, every_map, every_new, some_none, same_some, NamesIn, ordered_names, found_append, new_append, eq_moved, texts_at, orderly, up_meaning, numbered_own, IsOwn, IsOwnSource, Lies, IsAside}
use Rattle.go_heads.proofs.Public as heads
use Rattle.go_scopes_bodies.specs.Faults.{outer_meaning, own_ask, asked_among, own_asked, own_unused, all_asked, outside_declared, outer_in}
use Rattle.go_scopes_bodies.specs.Meant.{Outer, outer_of, own_local, own_meanings}
use Rattle.go_scopes_bodies.specs.Outside.{outside_units}
use Rattle.go_scopes_bodies.proofs.Asks.{asked_both, IsOutOf, other_out, names_out, Holds, first_each, inmost_each, meaning_each}
use Rattle.go_scopes_bodies.proofs.Each.{Iff, EachOwn}
use Rattle.go_scopes_bodies.proofs.Lists.{place_both, place_to, or_both, or_assoc, or_nothing, first_false, second_false, third_false}
use Rattle.go_scopes_bodies.proofs.Once.{own_files}
use Rattle.go_scopes_bodies.proofs.Own as own_numbers
use Rattle.go_scopes_bodies.proofs.Rules.{EventRule, GoesAlong, IsOwnRule, told_in, rule_by_functions}
use Rattle.go_scopes_bodies.proofs.Tokens as tokens

-- ---- along declarations

unused_both : (asks : List Asked) (xs ys : List Found) → unused_variables asks (xs ++ ys) ≡ unused_variables asks xs ++ unused_variables asks ys
unused_both asks [] ys = refl
unused_both asks (d ∷ xs) ys =
    ap (place_if (is_counted d.it.entity d.it.block && not (is_used d asks)) d.place) (unused_both asks xs ys)
    ∙ place_both (is_counted d.it.entity d.it.block && not (is_used d asks)) d.place (unused_variables asks xs) (unused_variables asks ys)

module _ (among : List Found) (asks : List Asked) where
  abbrev pub unused_rule : EventRule
  unused_rule n l es = unused_variables asks (new_among among (found_in n l es))

  unused_along : GoesAlong unused_rule
  unused_along = record {
    none = λ n l. refl;
    both =
        λ n l es fs.
        ap (λ ds. unused_variables asks (new_among among ds)) (found_append n l es fs)
        ∙ ap (unused_variables asks) (new_append among (found_in n l es) (found_in n l fs))
        ∙ unused_both asks (new_among among (found_in n l es)) (new_among among (found_in n l fs));
  }

  pub unused_by_files : (n : ℕ) (us : List names.Unit) → unused_variables asks (new_among among (found_from n us)) ≡ of_files unused_rule n us
  unused_by_files n [] = refl
  unused_by_files n (u ∷ us) =
      ap (unused_variables asks) (new_append among (found_in n u.tokens u.events) (found_from (suc n) us))
      ∙ unused_both asks (new_among among (found_in n u.tokens u.events)) (new_among among (found_from (suc n) us))
      ∙ ap (λ ps. unused_variables asks (new_among among (found_in n u.tokens u.events)) ++ ps) (unused_by_files (suc n) us)

-- ---- which names use a variable

used_both : (d : Found) (xs ys : List Asked) → is_used d (xs ++ ys) ≡ (is_used d xs || is_used d ys)
used_both d [] ys = refl
used_both d (a ∷ xs) ys = ap (λ b. (means d a.meaning && not (is_assigned a.it.role)) || b) (used_both d xs ys) ∙ or_assoc (means d a.meaning && not (is_assigned a.it.role)) (is_used d xs) (is_used d ys)

-- ---- names of declarations rise

abbrev Rises : List Found → Type 0
Rises [] = Unit {0}
Rises (d ∷ ds) = Every (λ g. d.it.name < g.it.name) ds × Rises ds

rises_new : (all ds : List Found) → Rises ds → Rises (new_among all ds)
rises_new all [] h = tt
rises_new all (d ∷ ds) h = by (is_new all d) (every_new (λ g. d.it.name < g.it.name) all ds h.0) (rises_new all ds h.1)
  where
    by : (b : Bool) → Every (λ g. d.it.name < g.it.name) (new_among all ds) → Rises (new_among all ds) → Rises (if b then d ∷ new_among all ds else new_among all ds)
    by true x y = (x, y)
    by false x y = y

found_from_token : (w : ℕ → List ℕ) (i j : ℕ) (es : List Event) → AreInOrder i j es → Every (λ g. i ≤ g.it.name) (found_by w es)
found_from_token w i j [] h = tt
found_from_token w i j (event.Declaration d ∷ es) h = (h.0, every_map (λ (g : Found). suc d.name ≤ g.it.name) (λ (g : Found). i ≤ g.it.name) (found_by w es) (λ g le. let lo : i ≤ d.name = h.0 in omega (arith, le, lo)) (found_from_token w (suc d.name) j es h.1))
found_from_token w i j (event.Use u ∷ es) h = every_map (λ (g : Found). suc u.name ≤ g.it.name) (λ (g : Found). i ≤ g.it.name) (found_by w es) (λ g le. let lo : i ≤ u.name = h.0 in omega (arith, le, lo)) (found_from_token w (suc u.name) j es h.1)
found_from_token w i j (event.Import k ∷ es) h = found_from_token w i j es h
found_from_token w i j (event.Member m g k ∷ es) h = found_from_token w i j es h
found_from_token w i j (event.Bodiless k l ∷ es) h = found_from_token w i j es h
found_from_token w i j (event.Statement k l ∷ es) h = found_from_token w i j es h
found_from_token w i j (event.Misplaced k l ∷ es) h = found_from_token w i j es h
found_from_token w i j (event.SecondDefault k ∷ es) h = found_from_token w i j es h

found_rises : (w : ℕ → List ℕ) (i j : ℕ) (es : List Event) → AreInOrder i j es → Rises (found_by w es)
found_rises w i j [] h = tt
found_rises w i j (event.Declaration d ∷ es) h = (found_from_token w (suc d.name) j es h.1, found_rises w (suc d.name) j es h.1)
found_rises w i j (event.Use u ∷ es) h = found_rises w (suc u.name) j es h.1
found_rises w i j (event.Import k ∷ es) h = found_rises w i j es h
found_rises w i j (event.Member m g k ∷ es) h = found_rises w i j es h
found_rises w i j (event.Bodiless k l ∷ es) h = found_rises w i j es h
found_rises w i j (event.Statement k l ∷ es) h = found_rises w i j es h
found_rises w i j (event.Misplaced k l ∷ es) h = found_rises w i j es h
found_rises w i j (event.SecondDefault k ∷ es) h = found_rises w i j es h

-- a declaration of the same name is the same
abbrev IsOne : Found → Found → Type 0
IsOne d g = g.it.name ≡ d.it.name → g.it ≡ d.it

all_one : (ds : List Found) → Rises ds → Every (λ d. Every (IsOne d) ds) ds
all_one [] h = tt
all_one (d ∷ ds) h = ((λ e. refl, later ds h.0), before ds h.0 (all_one ds h.1))
  where
    later : (gs : List Found) → Every (λ g. d.it.name < g.it.name) gs → Every (IsOne d) gs
    later [] k = tt
    later (g ∷ gs) k = (λ e. absurd (let lt : d.it.name < g.it.name = k.0 in omega (arith, lt, e)), later gs k.1)

    before : (gs : List Found) → Every (λ g. d.it.name < g.it.name) gs → Every (λ g. Every (IsOne g) ds) gs → Every (λ g. Every (IsOne g) (d ∷ ds)) gs
    before [] k x = tt
    before (g ∷ gs) k x = ((λ e. absurd (let lt : d.it.name < g.it.name = k.0 in omega (arith, lt, e)), x.0), before gs k.1 x.1)

-- the order of names so many tokens further on
order_back : (a i j : ℕ) (es : List Event) → AreInOrder (a + i) j (map (moved_event a) es) → AreInOrder i j es
order_back a i j [] h = omega (arith, h)
order_back a i j (event.Declaration d ∷ es) h =
    (omega (arith, h.0), order_back a (suc d.name) j es (let z : suc (a + d.name) ≡ a + suc d.name = omega arith in subst (λ x. AreInOrder x j (map (moved_event a) es)) z h.1))
order_back a i j (event.Use u ∷ es) h =
    (omega (arith, h.0), order_back a (suc u.name) j es (let z : suc (a + u.name) ≡ a + suc u.name = omega arith in subst (λ x. AreInOrder x j (map (moved_event a) es)) z h.1))
order_back a i j (event.Import k ∷ es) h = order_back a i j es h
order_back a i j (event.Member m g k ∷ es) h = order_back a i j es h
order_back a i j (event.Bodiless k l ∷ es) h = order_back a i j es h
order_back a i j (event.Statement k l ∷ es) h = order_back a i j es h
order_back a i j (event.Misplaced k l ∷ es) h = order_back a i j es h
order_back a i j (event.SecondDefault k ∷ es) h = order_back a i j es h

-- ---- scopes end in their function

abbrev pub EndsBy : ℕ → Declaration → Type 0
EndsBy z d = is_package d.block ≡ false → d.scope.to ≤ z

package_only : (i j z : ℕ) (b y : Bool) → EachDeclared (EndsBy z) (if b then declaring_events i j y else [])
package_only i j z true true = (λ e. cc, tt)
package_only i j z true false = (λ e. cc, tt)
package_only i j z false y = tt

node_ends : (e i j : ℕ) (ps : Trees) → IsLaidOut (node kind.FunctionDeclaration i j ps) → AreLayered FunctionLayer ps → EachDeclared (EndsBy j) (events (file_context e) (node kind.FunctionDeclaration i j ps))
node_ends e i j ps laid layered =
    each_append (EndsBy j) (if nat_lt i j then declaring_events i j (is_there (part_at ps 1)) else []) (events_of (begin (file_context e) kind.FunctionDeclaration) kind.FunctionDeclaration i j ps 0 ps)
    (package_only i j j (nat_lt i j) (is_there (part_at ps 1)))
    (each_map (LiesAt (suc (suc i)) j j) (EndsBy j) (events_of (begin (file_context e) kind.FunctionDeclaration) kind.FunctionDeclaration i j ps 0 ps) (λ d l p. ends d l.ends)
    (function_nested (begin (file_context e) kind.FunctionDeclaration) i j ps ps (suc (suc i)) layered laid.1 tt).lie)
  where
    ends : (d : Declaration) → (d.scope.to ≤ j) ⊎ ((d.scope.to ≡ j) × (d.scope.from ≤ j)) → d.scope.to ≤ j
    ends d (inl le) = le
    ends d (inr x) = omega (arith, x.0)

pub tree_ends : (ts : List TokenKind) (e : ℕ) (t : Tree) → is_function (kind_of t) ≡ true → Derives ts category.Declaration t → EachDeclared (EndsBy (last t)) (events (file_context e) t)
tree_ends ts e (node kind.FunctionDeclaration i j ps) f h =
    node_ends e i j ps (derives_laid ts (node kind.FunctionDeclaration i j ps) category.Declaration h) (derives_layered ts (node kind.FunctionDeclaration i j ps) category.Declaration h)
tree_ends ts e (node k i j ps) f h = absurd (true_false false f refl)

-- ---- in a function

-- a name of a function by itself, which stands in it, and is in scope there if it is a local
record StandsWithin (width : ℕ) (d : Found) : Type 0 where
  file : d.file ≡ 0
  name : d.it.name < width
  ends : EndsBy width d.it

ends_back : (a hi to : ℕ) (b : Block) → (is_package (moved_block a b) ≡ false → a + to ≤ hi) → is_package b ≡ false → to ≤ hi - a
ends_back a hi to block.Package h e = cc
ends_back a hi to (block.Local i) h e = let le : a + to ≤ hi = h refl in omega (arith, le)

within_found : (w : ℕ → List ℕ) (a hi : ℕ) (es : List Event) → NamesIn a hi (map (moved_event a) es) → EachDeclared (EndsBy hi) (map (moved_event a) es) → Every (StandsWithin (hi - a)) (found_by w es)
within_found w a hi [] h g = tt
within_found w a hi (event.Declaration d ∷ es) h g = (record { file = refl; name = omega (arith, h.1); ends = ends_back a hi d.scope.to d.block g.0 }, within_found w a hi es h.2 g.1)
within_found w a hi (event.Use u ∷ es) h g = within_found w a hi es h.2 g
within_found w a hi (event.Import i ∷ es) h g = within_found w a hi es h g
within_found w a hi (event.Member m o i ∷ es) h g = within_found w a hi es h g
within_found w a hi (event.Bodiless i j ∷ es) h g = within_found w a hi es h g
within_found w a hi (event.Statement i j ∷ es) h g = within_found w a hi es h g
within_found w a hi (event.Misplaced i j ∷ es) h g = within_found w a hi es h g
within_found w a hi (event.SecondDefault i ∷ es) h g = within_found w a hi es h g

pub uses_within : (a hi : ℕ) (es : List Event) → NamesIn a hi (map (moved_event a) es) → EachUsed (λ u. u.name < hi - a) es
uses_within a hi [] h = tt
uses_within a hi (event.Use u ∷ es) h = (omega (arith, h.1), uses_within a hi es h.2)
uses_within a hi (event.Declaration d ∷ es) h = uses_within a hi es h.2
uses_within a hi (event.Import i ∷ es) h = uses_within a hi es h
uses_within a hi (event.Member m o i ∷ es) h = uses_within a hi es h
uses_within a hi (event.Bodiless i j ∷ es) h = uses_within a hi es h
uses_within a hi (event.Statement i j ∷ es) h = uses_within a hi es h
uses_within a hi (event.Misplaced i j ∷ es) h = uses_within a hi es h
uses_within a hi (event.SecondDefault i ∷ es) h = uses_within a hi es h

pub unlike : (x y : ℕ) → y < x → nat_eq x y ≡ false
unlike x y lt = grind (arith, nat_tests)

pub unlike_too : (x y : ℕ) → x < y → nat_eq x y ≡ false
unlike_too x y lt = grind (arith, nat_tests)

pub not_from : (x y : ℕ) → y < x → nat_le x y ≡ false
not_from x y lt = grind (arith, nat_tests)

pub not_before : (x y : ℕ) → y ≤ x → nat_lt x y ≡ false
not_before x y le = grind (arith, nat_tests)

same_name : (n a i j : ℕ) → (nat_eq n n && nat_eq (a + i) (a + j)) ≡ true → i ≡ j
same_name n a i j e = grind (arith, nat_tests)

pub not_true : (b : Bool) → (b ≡ true → ⊥) → b ≡ false
not_true true h = absurd (h refl)
not_true false h = refl

assigned_same : (a : ℕ) (r : Role) → is_assigned (moved_role a r) ≡ is_assigned r
assigned_same a role.Assigned = refl
assigned_same a r = refl

counted_same : (a : ℕ) (e : Entity) (b : Block) → is_counted e (moved_block a b) ≡ is_counted e b
counted_same a entity.Variable block.Package = refl
counted_same a entity.Variable (block.Local i) = refl
counted_same a e b = refl

counted_local : (e : Entity) (b : Block) → is_counted e b ≡ true → is_package b ≡ false
counted_local entity.Variable block.Package h = cc
counted_local entity.Variable (block.Local i) h = refl
counted_local e b h = cc

pub holds_map : (P R : Meaning → Type 0) (o : Option Meaning) → ((m : Meaning) → P m → R m) → Holds P o → Holds R o
holds_map P R None f h = tt
holds_map P R (Some m) f h = f m h

own_source : (n a x : ℕ) (l : TokenList) (d : Found) → d.file ≡ 0 → (o : Option Found) → IsOwnSource o → is_declared_at n (a + d.it.name) (option_map (in_file n l a) o) ≡ is_declared_at d.file d.it.name o
own_source n a x l d e None h = refl
own_source n a x l d e (Some g) h =
    let z : nat_eq n n ≡ nat_eq g.file d.file = let y : nat_eq n n ≡ true = grind (arith, nat_tests) in let k : nat_eq g.file d.file ≡ true = let i : g.file ≡ 0 = h in grind (arith, nat_tests) in y ∙ sym k in
    ap (λ b. b && nat_eq (a + g.it.name) (a + d.it.name)) z ∙ ap (λ b. nat_eq g.file d.file && b) (eq_moved a g.it.name d.it.name)

module _ (fs : List File) (h : AreRead fs) (n : ℕ) (f : Function) (lies : Lies fs n f) where
  abbrev t : Tree
  t = f.tree

  abbrev a : ℕ
  a = first f.tree

  abbrev l : TokenList
  l = f.file.tokens

  abbrev width : ℕ
  width = last f.tree - first f.tree

  abbrev ms : List Meaning
  ms = meanings (units_of fs)

  abbrev by_itself : Alone
  by_itself = function_alone f

  abbrev own : List Found
  own = own_declarations by_itself

  abbrev outer : Outer
  outer = outer_of (units_of fs) n

  abbrev s : ℕ
  s = tokens.s fs h n f lies

  abbrev k : ℕ
  k = tokens.k fs h n f lies

  abbrev told : List Event
  told = told_in f.file f.tree

  read : IsRead f.file
  read = tokens.read fs h n f lies

  told_same : told ≡ map (moved_event a) (function_events by_itself)
  told_same = heads.tell fs n f.file read lies.there t lies.stands

  grows : a ≤ last t
  grows = let lt : first t < last t = laid_grows t (derives_laid (kinds l.tokens) t category.Declaration lies.stands.sits.derives) in omega (arith, lt)

  order : AreInOrder a (last t) told
  order = events_order (file_context (last f.file.tree)) t (derives_laid (kinds l.tokens) t category.Declaration lies.stands.sits.derives)

  names_in : NamesIn a (last t) (map (moved_event a) (function_events by_itself))
  names_in = subst (NamesIn a (last t)) told_same (ordered_names a a (last t) told (omega arith) order)

  own_within : Every (StandsWithin width) own
  own_within =
      every_new (StandsWithin width) (own_names by_itself) (own_names by_itself)
      (within_found (own_text by_itself) a (last t) (function_events by_itself) names_in
      (subst (EachDeclared (EndsBy (last t))) told_same (tree_ends (kinds l.tokens) (last f.file.tree) t lies.stands.function lies.stands.sits.derives)))

  own_one : Every (λ d. Every (IsOne d) own) own
  own_one =
      let z : a ≡ a + 0 = omega arith in
      let moved : AreInOrder (a + 0) (last t) (map (moved_event a) (function_events by_itself)) = subst (λ i. AreInOrder i (last t) (map (moved_event a) (function_events by_itself))) z (subst (AreInOrder a (last t)) told_same order) in
      all_one own (rises_new (own_names by_itself) (own_names by_itself) (found_rises (own_text by_itself) 0 (last t) (function_events by_itself) (order_back a 0 (last t) (function_events by_itself) moved)))

  text : (x : ℕ) → x < width → own_text by_itself x ≡ word l (a + x)
  text x lt = texts_at l a width x lt

  module _ (d : Found) (within : StandsWithin width d) (ones : Every (IsOne d) own) (local : is_package d.it.block ≡ false) where
    abbrev x : ℕ
    x = d.it.name

    abbrev up : Found
    up = in_file n l a d

    abbrev there_extent : Extent
    there_extent = extent.Between n (moved_scope a d.it.scope)

    -- a meaning that this declaration gives has its extent
    abbrev IsLocal : Meaning → Type 0
    IsLocal m = is_declared_at n (a + x) m.source ≡ true → m.extent ≡ there_extent

    aside_local : (xs : List Meaning) → Every (IsAside n (a + x)) xs → Every IsLocal xs
    aside_local xs = every_map (IsAside n (a + x)) IsLocal xs (λ m i e. absurd (true_false (is_declared_at n (a + x) m.source) e i.undeclared))

    block_extent : (w : List ℕ) (j : ℕ) (c : Scope) (b : Block) (o : Object) (z : Option Found) → is_package b ≡ false → (up_meaning n l a (record { name = w; extent = extent_by j c b; object = o; source = z })).extent ≡ extent.Between n (moved_scope a c)
    block_extent w j c block.Package o z e = cc
    block_extent w j c (block.Local i) o z e = refl

    own_local_meanings : (i : Numbers) (gs : List Found) → Every (IsOne d) gs → Every IsLocal (map (up_meaning n l a) (numbered i gs))
    own_local_meanings i [] one = tt
    own_local_meanings i (g ∷ gs) one = (here, own_local_meanings (numbers_behind i g.it.entity g.it.block) gs one.1)
      where
        here : IsLocal (up_meaning n l a (record { name = g.name; extent = extent_of g; object = own_number i g.it.block; source = Some g }))
        here e =
            let o : Object = own_number i g.it.block in
            ap (λ (z : Declaration). (up_meaning n l a (record { name = g.name; extent = extent_by g.file z.scope z.block; object = o; source = Some g })).extent) (one.0 (same_name n a g.it.name x e))
            ∙ block_extent g.name g.file d.it.scope d.it.block o (Some g) local

    all_local : Every IsLocal ms
    all_local =
        let imports : List Meaning = imported_from 0 (units_of fs) in
        subst (Every IsLocal) (sym (heads.all_meanings fs h n f.file lies.there t lies.stands lies.named))
        (every_append IsLocal _ _ (aside_local _ (heads.imports_aside fs h n f.file lies.there t lies.stands lies.named x within.name))
        (every_append IsLocal _ _ (aside_local _ (heads.before_aside fs h n f.file lies.there t lies.stands lies.named x within.name))
        (every_append IsLocal _ _ (own_local_meanings _ own ones) (aside_local _ (heads.behind_aside fs h n f.file lies.there t lies.stands lies.named x within.name)))))

    means_no : (o : Option Meaning) → Holds (λ m. is_declared_at n (a + x) m.source ≡ true → ⊥) o → means up o ≡ false
    means_no None g = refl
    means_no (Some m) g = not_true (is_declared_at n (a + x) m.source) g

    -- ---- elsewhere

    abbrev IsOut : ℕ → ℕ → Type 0
    IsOut = IsOutOf n a (last t)

    uncovered : (j y : ℕ) → IsOut j y → covers there_extent j y ≡ false
    uncovered j y (inl e) = first_false (nat_eq n j) (nat_le (a + d.it.scope.from) y) (nat_lt y (a + d.it.scope.to)) e
    uncovered j y (inr (inl lt)) = second_false (nat_eq n j) (nat_le (a + d.it.scope.from) y) (nat_lt y (a + d.it.scope.to)) (not_from (a + d.it.scope.from) y (omega (arith, lt)))
    uncovered j y (inr (inr le)) =
        let to : d.it.scope.to ≤ width = within.ends local in
        third_false (nat_eq n j) (nat_le (a + d.it.scope.from) y) (nat_lt y (a + d.it.scope.to)) (not_before y (a + d.it.scope.to) (omega (arith, le, to, grows)))

    outside_no : (j y : ℕ) (w : List ℕ) → IsOut j y → means up (meaning_at ms j y w) ≡ false
    outside_no j y w out =
        means_no (meaning_at ms j y w)
        (holds_map (λ m. IsLocal m × (covers m.extent j y ≡ true)) (λ m. is_declared_at n (a + x) m.source ≡ true → ⊥) (meaning_at ms j y w)
        (λ m q e. true_false (covers m.extent j y) q.1 (ap (λ z. covers z j y) (q.0 e) ∙ uncovered j y out)) (meaning_each IsLocal j y w ms all_local))

    asks_out : (j : ℕ) (ts : TokenList) (es : List Event) → EachUsed (λ u. IsOut j u.name) es → is_used up (asked_in ms j ts es) ≡ false
    asks_out j ts [] g = refl
    asks_out j ts (event.Use u ∷ es) g = by (is_blank (word ts u.name)) (asks_out j ts es g.1)
      where
        by : (b : Bool) → is_used up (asked_in ms j ts es) ≡ false → is_used up (if b then asked_in ms j ts es else asked ms j ts u ∷ asked_in ms j ts es) ≡ false
        by true e = e
        by false e = ap (λ b. (b && not (is_assigned u.role)) || is_used up (asked_in ms j ts es)) (outside_no j u.name (word ts u.name) g.0) ∙ e
    asks_out j ts (event.Declaration z ∷ es) g = asks_out j ts es g
    asks_out j ts (event.Import i ∷ es) g = asks_out j ts es g
    asks_out j ts (event.Member m o i ∷ es) g = asks_out j ts es g
    asks_out j ts (event.Bodiless i z ∷ es) g = asks_out j ts es g
    asks_out j ts (event.Statement i z ∷ es) g = asks_out j ts es g
    asks_out j ts (event.Misplaced i z ∷ es) g = asks_out j ts es g
    asks_out j ts (event.SecondDefault i ∷ es) g = asks_out j ts es g

    -- ---- in the function

    module _ (u : Use) (lt : u.name < width) where
      abbrev y : ℕ
      y = u.name

      abbrev w : List ℕ
      w = own_text by_itself y

      abbrev imported : Option Meaning
      imported = first_by (is_import n) w ms

      abbrev of_package : Option Meaning
      of_package = first_by scopes.is_package w ms

      no_import : Holds (λ m. is_declared_at n (a + x) m.source ≡ true → ⊥) imported
      no_import =
          holds_map (λ m. IsLocal m × (is_import n m.extent ≡ true)) (λ m. is_declared_at n (a + x) m.source ≡ true → ⊥) imported
          (λ m q e. true_false (is_import n m.extent) q.1 (ap (is_import n) (q.0 e))) (first_each IsLocal (is_import n) w ms all_local)

      no_package : Holds (λ m. is_declared_at n (a + x) m.source ≡ true → ⊥) of_package
      no_package =
          holds_map (λ m. IsLocal m × (scopes.is_package m.extent ≡ true)) (λ m. is_declared_at n (a + x) m.source ≡ true → ⊥) of_package
          (λ m q e. true_false (scopes.is_package m.extent) q.1 (ap scopes.is_package (q.0 e))) (first_each IsLocal scopes.is_package w ms all_local)

      not_outer : (i p : Option Meaning) → Holds (λ m. is_declared_at n (a + x) m.source ≡ true → ⊥) i → Holds (λ m. is_declared_at n (a + x) m.source ≡ true → ⊥) p → means up (otherwise i p) ≡ false
      not_outer None p g q = means_no p q
      not_outer (Some m) p g q = means_no (Some m) g

      nothing_outer : (o : Option Object) → means d (outer_meaning w o) ≡ false
      nothing_outer None = refl
      nothing_outer (Some o) = refl

      local_means : (o : Option Meaning) → Holds IsOwn o → means up (reached (option_map (up_meaning n l a) (option_map (own_numbers.up s k) o)) imported of_package) ≡ means d (otherwise o (outer_meaning w (outer w)))
      local_means None g = not_outer imported of_package no_import no_package ∙ sym (nothing_outer (outer w))
      local_means (Some m) g = own_source n a x l d within.file m.source g.source

      inside : means up (meaning_at ms n (a + y) (word l (a + y))) ≡ means d (own_ask by_itself outer u).meaning
      inside =
          ap (λ v. means up (meaning_at ms n (a + y) v)) (sym (text y lt))
          ∙ ap (means up) (meaning_reached n (a + y) w ms (locals_good (units_of fs) (orderly fs h) n).1)
          ∙ ap (λ z. means up (reached z imported of_package))
          (heads.local_inmost fs h n f.file lies.there t lies.stands lies.named y lt w
          ∙ ap (λ xs. option_map (up_meaning n l a) (inmost 0 y w None (locals_of 0 xs))) (tokens.meanings_up fs h n f lies)
          ∙ ap (option_map (up_meaning n l a)) (own_numbers.inmost_up s k y w None (own_meanings by_itself)))
          ∙ local_means (own_local by_itself y w) (inmost_each IsOwn 0 y w None (own_meanings by_itself) tt (numbered_own first_numbers own (own_files by_itself)))

    asks_in : (es : List Event) → EachUsed (λ u. u.name < width) es → is_used up (asked_in ms n l (map (moved_event a) es)) ≡ is_used d (asked_among by_itself outer es)
    asks_in [] g = refl
    asks_in (event.Use u ∷ es) g =
        ap (λ b. is_used up (if b then asked_in ms n l (map (moved_event a) es) else asked ms n l (moved_use a u) ∷ asked_in ms n l (map (moved_event a) es))) (ap is_blank (sym (text u.name g.0)))
        ∙ by (is_blank (own_text by_itself u.name)) (asks_in es g.1)
      where
        by : (b : Bool) → is_used up (asked_in ms n l (map (moved_event a) es)) ≡ is_used d (asked_among by_itself outer es)
            → is_used up (if b then asked_in ms n l (map (moved_event a) es) else asked ms n l (moved_use a u) ∷ asked_in ms n l (map (moved_event a) es))
            ≡ is_used d (if b then asked_among by_itself outer es else own_ask by_itself outer u ∷ asked_among by_itself outer es)
        by true e = e
        by false e =
            ap (λ z. (z && not (is_assigned (moved_role a u.role))) || is_used up (asked_in ms n l (map (moved_event a) es))) (inside u g.0)
            ∙ ap (λ z. (means d (own_ask by_itself outer u).meaning && not z) || is_used up (asked_in ms n l (map (moved_event a) es))) (assigned_same a u.role)
            ∙ ap (λ z. (means d (own_ask by_itself outer u).meaning && not (is_assigned u.role)) || z) e
    asks_in (event.Declaration z ∷ es) g = asks_in es g
    asks_in (event.Import i ∷ es) g = asks_in es g
    asks_in (event.Member m o i ∷ es) g = asks_in es g
    asks_in (event.Bodiless i z ∷ es) g = asks_in es g
    asks_in (event.Statement i z ∷ es) g = asks_in es g
    asks_in (event.Misplaced i z ∷ es) g = asks_in es g
    asks_in (event.SecondDefault i ∷ es) g = asks_in es g

    -- ---- in the package

    file_used : is_used up (asked_in ms n l (file_events f.file)) ≡ is_used d (own_asked by_itself outer)
    file_used =
        let before : List Event = lies.stands.before in
        let behind : List Event = lies.stands.behind in
        ap (λ es. is_used up (asked_in ms n l es)) lies.stands.whole
        ∙ ap (is_used up) (asked_both ms n l before (told ++ behind))
        ∙ used_both up (asked_in ms n l before) (asked_in ms n l (told ++ behind))
        ∙ ap (λ b. b || is_used up (asked_in ms n l (told ++ behind))) (asks_out n l before (names_out n a (last t) 0 a before (λ y lo hi. inr (inl hi)) lies.stands.names_before))
        ∙ ap (is_used up) (asked_both ms n l told behind)
        ∙ used_both up (asked_in ms n l told) (asked_in ms n l behind)
        ∙ ap (λ b. is_used up (asked_in ms n l told) || b) (asks_out n l behind (names_out n a (last t) (last t) (last f.file.tree) behind (λ y lo hi. inr (inr lo)) lies.stands.names_behind))
        ∙ or_nothing (is_used up (asked_in ms n l told))
        ∙ ap (λ es. is_used up (asked_in ms n l es)) told_same
        ∙ asks_in (function_events by_itself) (uses_within a (last t) (function_events by_itself) names_in)

    later_files : (j : ℕ) (gs : List File) → n < j → is_used up (asked_from ms j (units_of gs)) ≡ false
    later_files j [] lt = refl
    later_files j (g ∷ gs) lt =
        used_both up (asked_in ms j g.tokens (file_events g)) (asked_from ms (suc j) (units_of gs))
        ∙ or_both (is_used up (asked_in ms j g.tokens (file_events g))) (is_used up (asked_from ms (suc j) (units_of gs)))
        (asks_out j g.tokens (file_events g) (other_out n a (last t) j (file_events g) (unlike_too n j lt))) (later_files (suc j) gs (omega (arith, lt)))

    all_files : (j i : ℕ) (gs : List File) → n ≡ j + i → slice_get gs i ≡ Some f.file → is_used up (asked_from ms j (units_of gs)) ≡ is_used up (asked_in ms n l (file_events f.file))
    all_files j i [] e there = absurd (some_none f.file (sym there))
    all_files j zero (g ∷ gs) e there =
        let same : j ≡ n = omega (arith, e) in
        used_both up (asked_in ms j g.tokens (file_events g)) (asked_from ms (suc j) (units_of gs))
        ∙ ap (λ b. is_used up (asked_in ms j g.tokens (file_events g)) || b) (later_files (suc j) gs (omega (arith, e)))
        ∙ or_nothing (is_used up (asked_in ms j g.tokens (file_events g)))
        ∙ ap (λ (z : File). is_used up (asked_in ms j z.tokens (file_events z))) (same_some g f.file there)
        ∙ ap (λ i. is_used up (asked_in ms i l (file_events f.file))) same
    all_files j (suc i) (g ∷ gs) e there =
        used_both up (asked_in ms j g.tokens (file_events g)) (asked_from ms (suc j) (units_of gs))
        ∙ ap (λ b. b || is_used up (asked_from ms (suc j) (units_of gs))) (asks_out j g.tokens (file_events g) (other_out n a (last t) j (file_events g) (unlike n j (omega (arith, e)))))
        ∙ all_files (suc j) i gs (omega (arith, e)) there

    used_same : is_used up (all_asked fs) ≡ is_used d (own_asked by_itself outer)
    used_same = all_files 0 n fs (omega arith) lies.there ∙ file_used

  -- ---- the variables of the function

  abbrev IsSame : Found → Type 0
  IsSame d = (is_counted d.it.entity (moved_block a d.it.block) && not (is_used (in_file n l a d) (all_asked fs))) ≡ (is_counted d.it.entity d.it.block && not (is_used d (own_asked by_itself outer)))

  same_test : (d : Found) → StandsWithin width d → Every (IsOne d) own → IsSame d
  same_test d within ones = ap (λ b. b && not (is_used (in_file n l a d) (all_asked fs))) (counted_same a d.it.entity d.it.block) ∙ by (is_counted d.it.entity d.it.block) refl
    where
      by : (b : Bool) → is_counted d.it.entity d.it.block ≡ b → (b && not (is_used (in_file n l a d) (all_asked fs))) ≡ (b && not (is_used d (own_asked by_itself outer)))
      by true e = ap not (used_same d within ones (counted_local d.it.entity d.it.block e))
      by false e = refl

  all_same : (ds : List Found) → Every (StandsWithin width) ds → Every (λ d. Every (IsOne d) own) ds → Every IsSame ds
  all_same [] g k = tt
  all_same (d ∷ ds) g k = (same_test d g.0 k.0, all_same ds g.1 k.1)

  unused_to : (ds : List Found) → Every IsSame ds → unused_variables (all_asked fs) (map (in_file n l a) ds) ≡ [] → unused_variables (own_asked by_itself outer) ds ≡ []
  unused_to [] g e = refl
  unused_to (d ∷ ds) g e =
      place_to (is_counted d.it.entity (moved_block a d.it.block) && not (is_used (in_file n l a d) (all_asked fs))) (is_counted d.it.entity d.it.block && not (is_used d (own_asked by_itself outer))) (in_file n l a d).place d.place
      (unused_variables (all_asked fs) (map (in_file n l a) ds)) (unused_variables (own_asked by_itself outer) ds) g.0 (unused_to ds g.1) e

  unused_from : (ds : List Found) → Every IsSame ds → unused_variables (own_asked by_itself outer) ds ≡ [] → unused_variables (all_asked fs) (map (in_file n l a) ds) ≡ []
  unused_from [] g e = refl
  unused_from (d ∷ ds) g e =
      place_to (is_counted d.it.entity d.it.block && not (is_used d (own_asked by_itself outer))) (is_counted d.it.entity (moved_block a d.it.block) && not (is_used (in_file n l a d) (all_asked fs))) d.place (in_file n l a d).place
      (unused_variables (own_asked by_itself outer) ds) (unused_variables (all_asked fs) (map (in_file n l a) ds)) (sym g.0) (unused_from ds g.1) e

  pub unused_own : Iff (unused_rule (found (units_of fs)) (all_asked fs) n l told ≡ []) (own_unused by_itself outer ≡ [])
  unused_own =
      let same : Every IsSame own = all_same own own_within own_one in
      let moved : new_among (found (units_of fs)) (found_in n l told) ≡ map (in_file n l a) own = (heads.declares fs n f.file read lies.there t lies.stands).declared in
      record {
        to = λ e. unused_to own same (sym (ap (unused_variables (all_asked fs)) moved) ∙ e);
        from = λ e. ap (unused_variables (all_asked fs)) moved ∙ unused_from own same e;
      }

-- Each local variable of a function is used, by itself.
abbrev pub UsesAll : List File → ℕ → Function → Type 0
UsesAll fs n f = own_unused (function_alone f) (outer_in fs n) ≡ []

pub unused_by_functions : (fs : List File) → AreRead fs → AreNamed fs
    → Iff (unused_variables (all_asked fs) (declarations (units_of fs)) ≡ []) ((unused_variables (all_asked fs) (outside_declared fs) ≡ []) × EachOwn (UsesAll fs) 0 fs)
unused_by_functions fs h g =
    let among : List Found = found (units_of fs) in
    let asks : List Asked = all_asked fs in
    let law = rule_by_functions fs (unused_rule among asks) (unused_along among asks) (UsesAll fs) own_rule 0 fs (λ k. let z : 0 + k ≡ k = omega arith in ap (slice_get fs) z) h g in
    record {
      to = λ e. let x = law.to (sym (unused_by_files among asks 0 (units_of fs)) ∙ e) in (unused_by_files among asks 0 (outside_units fs) ∙ x.0, x.1);
      from = λ e. unused_by_files among asks 0 (units_of fs) ∙ law.from (sym (unused_by_files among asks 0 (outside_units fs)) ∙ e.0, e.1);
    }
  where
    own_rule : IsOwnRule fs (unused_rule (found (units_of fs)) (all_asked fs)) (unused_along (found (units_of fs)) (all_asked fs)) (UsesAll fs)
    own_rule n f r s t stands named = unused_own fs h n (record { file = f; tree = t }) (record { there = s; stands = stands; named = named })
