-- No name in a function stands in the value of a variable of the package.
use Rattle.std.proofs.Common.{◌≡◌, ◌∙◌, ℕ, zero, suc, ◌+◌, Bool, true, false, List, [], ◌∷◌, ◌++◌, map, Some, None, refl, sym, ap, subst, arith}
use Rattle.std.specs.Prelude.{if◌then◌else◌, ◌&&◌, ◌||◌, not, nat_le, nat_lt, slice_get}
use Rattle.go_tokens.specs.declared.token.TokenKind.{TokenKind}
use Rattle.go_tokens.specs.Tokens.{TokenList, kinds}
use Rattle.go_grammar.specs.declared.kind.Category.{Category}
use Rattle.go_grammar.specs.declared.kind.Category.TheVariants as category
use Rattle.go_grammar.specs.declared.kind.Kind.{Kind}
use Rattle.go_grammar.specs.declared.kind.Kind.TheVariants as kind
use Rattle.go_grammar.specs.declared.kind.Level.{Level}
use Rattle.go_grammar.specs.declared.kind.Level.TheVariants as level
use Rattle.go_grammar.specs.declared.kind.Place.{Place}
use Rattle.go_grammar.specs.declared.kind.Place.TheVariants as place
use Rattle.go_grammar.specs.declared.kind.Sort.TheVariants as sort
use Rattle.go_grammar.specs.Categories.{within, place_of}
use Rattle.go_grammar.specs.Grammar.{rule, Derives, Spells, Goes, ends_named}
use Rattle.go_grammar.specs.Operators.{rank}
use Rattle.go_grammar.specs.Rules.{Items, Rule, End, Then, Maybe, Unless, Many, item}
use Rattle.go_grammar.specs.Trees.{Tree, node, Trees, none, more, skip, kind_of, first, last}
use Rattle.go_tree.specs.declared.context.Block.{Block}
use Rattle.go_tree.specs.declared.context.Block.TheVariants as block
use Rattle.go_tree.specs.declared.context.Context.{Context}
use Rattle.go_tree.specs.declared.context.Role.{Role}
use Rattle.go_tree.specs.declared.context.Role.TheVariants as role
use Rattle.go_tree.specs.declared.event.Event.{Event}
use Rattle.go_tree.specs.declared.event.Event.TheVariants as event
use Rattle.go_tree.specs.declared.event.Use.{Use}
use Rattle.go_tree.specs.Contexts.{is_there, is_package, file_context, opens, block_in, initial_in, enter}
use Rattle.go_tree.specs.Events.{name_events, own_events, statement_events, function_events as declaring_events, declaration_events, misplaced, is_default, default_events, second_defaults, is_more, pass, begin, events, events_of}
use Rattle.go_tree.specs.Failures.{place_if, of_files}
use Rattle.go_tree.specs.Lists.{is_function}
use Rattle.go_tree.specs.Lookups.{Asked, asked, asked_in, asked_from, is_initial, initialisers}
use Rattle.go_tree.specs.Meanings.{Meaning, meanings}
use Rattle.go_tree.specs.Units as names
use Rattle.go_tree.specs.Units.{word, is_blank}
use Rattle.go_tree.specs.Views.{part_at}
use Rattle.go_scopes_events.specs.Moved.{moved_event}
use Rattle.go_scopes_events.specs.Sited.{EachUsed}
use Rattle.go_scopes_events.proofs.Public.{AreLayered, Function as FunctionLayer, Holding, IsPlain, ArePlain, layer, derives_layered, true_false}
use Rattle.go_heads.specs.Bodies.{function_events}
use Rattle.go_heads.specs.Functions.{Function, AreRead, Alone, function_alone}
use Rattle.go_heads.specs.Heads.{File}
use Rattle.go_heads.specs.Locals.{AreNamed}
use Rattle.go_heads.specs.Names.{own_text}
use Rattle.go_heads.specs.Objects.{units_of}
use Rattle.go_heads.proofs.Public as heads
use Rattle.go_scopes_bodies.specs.Faults.{own_ask, asked_among, own_initialisers, outside_asked, all_asked, outer_in}
use Rattle.go_scopes_bodies.specs.Meant.{Outer, outer_of}
use Rattle.go_scopes_bodies.specs.Outside.{outside_units}
use Rattle.go_scopes_bodies.proofs.Asks.{asked_both}
use Rattle.go_scopes_bodies.proofs.Each.{Iff, EachOwn}
use Rattle.go_scopes_bodies.proofs.Lists.{place_both}
use Rattle.go_scopes_bodies.proofs.Rules.{EventRule, GoesAlong, IsOwnRule, told_in, rule_by_functions}

-- ---- the values of a specification stand in specifications alone

abbrev is_rest : Category → Bool
is_rest category.ConstantRest = true
is_rest category.VariableRest = true
is_rest c = false

abbrev no_rest : Rule → Bool
no_rest (End ws) = true
no_rest (Then ws c r) = not (is_rest c) && no_rest r
no_rest (Maybe ws c r) = not (is_rest c) && no_rest r
no_rest (Unless ws c us r) = not (is_rest c) && no_rest r
no_rest (Many ws l) = not (is_rest (item l))

abbrev is_specification : Kind → Bool
is_specification (kind.Specification s) = true
is_specification k = false

abbrev has_values : Kind → Bool
has_values kind.Values = true
has_values kind.TypedValues = true
has_values k = false

rule_rest : (p : Place) (k : Kind) → is_specification k ≡ false → no_rest (rule p k) ≡ true
rule_rest p (kind.Specification s) e = cc
rule_rest p k e = refl

not_loose : (l : Level) → nat_le (rank l) 0 ≡ false
not_loose level.Either = refl
not_loose level.Both = refl
not_loose level.Comparison = refl
not_loose level.Sum = refl
not_loose level.Product = refl
not_loose level.Unary = refl
not_loose level.Primary = refl

values_out : (c : Category) → not (is_rest c) ≡ true → within c kind.Values ≡ false
values_out category.ConstantRest e = cc
values_out category.VariableRest e = cc
values_out (category.Expression l p) e = not_loose l
values_out (category.LiteralType place.Free) e = refl
values_out (category.LiteralType place.Header) e = refl
values_out c e = refl

typed_values_out : (c : Category) → not (is_rest c) ≡ true → within c kind.TypedValues ≡ false
typed_values_out category.ConstantRest e = cc
typed_values_out category.VariableRest e = cc
typed_values_out (category.Expression l p) e = not_loose l
typed_values_out (category.LiteralType place.Free) e = refl
typed_values_out (category.LiteralType place.Header) e = refl
typed_values_out c e = refl

without_values : (c : Category) (k : Kind) → not (is_rest c) ≡ true → within c k ≡ true → has_values k ≡ false
without_values c kind.Values e h = absurd (true_false (within c kind.Values) h (values_out c e))
without_values c kind.TypedValues e h = absurd (true_false (within c kind.TypedValues) h (typed_values_out c e))
without_values c k e h = refl

no_specification : (k : Kind) → layer k ≡ Holding → is_specification k ≡ false
no_specification (kind.Specification s) e = cc
no_specification k e = refl

both_hold : (a b : Bool) → (a && b) ≡ true → (a ≡ true) × (b ≡ true)
both_hold true b e = (refl, e)
both_hold false b e = cc

-- ---- what a node tells by itself

abbrev IsLater : Use → Type 0
IsLater u = u.initial ≡ false

abbrev AreLater : List Event → Type 0
AreLater es = EachUsed IsLater es

later_append : (es fs : List Event) → AreLater es → AreLater fs → AreLater (es ++ fs)
later_append [] fs h g = g
later_append (event.Use u ∷ es) fs h g = (h.0, later_append es fs h.1 g)
later_append (e ∷ es) fs h g = later_append es fs h g

name_later : (c : Context) (i : ℕ) (r : Role) → c.initial ≡ false → AreLater (name_events c i r)
name_later c i (role.New d) h = tt
name_later c i (role.Field g) h = tt
name_later c i (role.Key g) h = tt
name_later c i (role.Parameter g None) h = tt
name_later c i (role.Parameter g (Some s)) h = tt
name_later c i r h = (h, tt)

statement_later : (b : Bool) (i j : ℕ) → AreLater (statement_events b i j)
statement_later true i j = tt
statement_later false i j = tt

misplaced_later : (b : Bool) (i j : ℕ) → AreLater (misplaced b i j)
misplaced_later true i j = tt
misplaced_later false i j = tt

default_later : (d b : Bool) (word : ℕ) → AreLater (default_events d b word)
default_later true true word = tt
default_later true false word = tt
default_later false b word = tt

second_later : (b : Bool) (ps : Trees) → AreLater (second_defaults b ps)
second_later b none = tt
second_later b (skip ps) = second_later b ps
second_later b (more p ps) =
    later_append (default_events (is_default (kind_of p)) b (first p)) (second_defaults (b || is_default (kind_of p)) ps) (default_later (is_default (kind_of p)) b (first p)) (second_later (b || is_default (kind_of p)) ps)

declaration_later : (i j : ℕ) (ps : Trees) → AreLater (declaration_events i j ps)
declaration_later i j ps = by (nat_lt i j) (is_there (part_at ps 1))
  where
    by : (b y : Bool) → AreLater (if b then declaring_events i j y else [])
    by true true = tt
    by true false = tt
    by false y = tt

own_later : (c : Context) (k : Kind) (i j : ℕ) (ps : Trees) → c.initial ≡ false → AreLater (own_events c k i j ps)
own_later c kind.ImportPath i j ps h = tt
own_later c kind.FunctionDeclaration i j ps h = declaration_later i j ps
own_later c (kind.Specification sort.Type) i j ps h = tt
own_later c kind.DeclaredName i j ps h = name_later c i c.role h
own_later c kind.Name i j ps h = name_later c i c.role h
own_later c kind.Switch i j ps h = second_later false ps
own_later c kind.Break i j ps h = misplaced_later c.breaks i j
own_later c kind.Continue i j ps h = misplaced_later c.continues i j
own_later c kind.Fallthrough i j ps h = misplaced_later c.falls i j
own_later c k i j ps h = tt

-- ---- signatures

plain_initial : (c : Context) (k : Kind) (n : ℕ) → has_values k ≡ false → c.initial ≡ false → initial_in c k n ≡ false
plain_initial c kind.Values n e h = cc
plain_initial c kind.TypedValues n e h = cc
plain_initial c k n e h = h

module _ (ts : List TokenKind) where
  mutual
    plain_later : (c : Context) (t : Tree) (x : Category) → not (is_rest x) ≡ true → IsPlain t → Derives ts x t → c.initial ≡ false → AreLater (events c t)
    plain_later c (node k i j ps) x e p h later =
        later_append (statement_events c.listed i j ++ own_events c k i j ps) (events_of (begin c k) k i j ps 0 ps)
        (later_append (statement_events c.listed i j) (own_events c k i j ps) (statement_later c.listed i j) (own_later c k i j ps later))
        (spells_later (begin c k) k i j ps 0 ps (rule (place_of x) k) i j (rule_rest (place_of x) k (no_specification k p.0)) p.1 h.1 (without_values x k e h.0) later)

    spells_later : (c : Context) (k : Kind) (i j : ℕ) (ps : Trees) (n : ℕ) (qs : Trees) (r : Rule) (a b : ℕ) → no_rest r ≡ true → ArePlain qs → Spells ts r a qs b → has_values k ≡ false → c.initial ≡ false → AreLater (events_of c k i j ps n qs)
    spells_later c k i j ps n none r a b e p h v later = tt
    spells_later c k i j ps n (more q qs) (End ws) a b e p h v later = absurd h
    spells_later c k i j ps n (skip qs) (End ws) a b e p h v later = absurd h
    spells_later c k i j ps n (more q qs) (Then ws x r) a b e p h v later =
        let z = both_hold (not (is_rest x)) (no_rest r) e in
        later_append (events (enter c k i j ps (ends_named ps) n q (is_more qs)) q) (events_of (pass c q) k i j ps (suc n) qs)
        (plain_later (enter c k i j ps (ends_named ps) n q (is_more qs)) q x z.0 p.0 h.1 (plain_initial c k n v later)) (spells_later (pass c q) k i j ps (suc n) qs r (last q) b z.1 p.1 h.2 v later)
    spells_later c k i j ps n (skip qs) (Then ws x r) a b e p h v later = absurd h
    spells_later c k i j ps n (more q qs) (Maybe ws x r) a b e p h v later =
        let z = both_hold (not (is_rest x)) (no_rest r) e in
        later_append (events (enter c k i j ps (ends_named ps) n q (is_more qs)) q) (events_of (pass c q) k i j ps (suc n) qs)
        (plain_later (enter c k i j ps (ends_named ps) n q (is_more qs)) q x z.0 p.0 h.1 (plain_initial c k n v later)) (spells_later (pass c q) k i j ps (suc n) qs r (last q) b z.1 p.1 h.2 v later)
    spells_later c k i j ps n (skip qs) (Maybe ws x r) a b e p h v later = spells_later c k i j ps (suc n) qs r h.0 b (both_hold (not (is_rest x)) (no_rest r) e).1 p h.2 v later
    spells_later c k i j ps n (more q qs) (Unless ws x us r) a b e p h v later =
        let z = both_hold (not (is_rest x)) (no_rest r) e in
        later_append (events (enter c k i j ps (ends_named ps) n q (is_more qs)) q) (events_of (pass c q) k i j ps (suc n) qs)
        (plain_later (enter c k i j ps (ends_named ps) n q (is_more qs)) q x z.0 p.0 h.1 (plain_initial c k n v later)) (spells_later (pass c q) k i j ps (suc n) qs r (last q) b z.1 p.1 h.2 v later)
    spells_later c k i j ps n (skip qs) (Unless ws x us r) a b e p h v later = spells_later c k i j ps (suc n) qs r h.0 b (both_hold (not (is_rest x)) (no_rest r) e).1 p h.3 v later
    spells_later c k i j ps n (more q qs) (Many ws l) a b e p h v later =
        later_append (events (enter c k i j ps (ends_named ps) n q (is_more qs)) q) (events_of (pass c q) k i j ps (suc n) qs)
        (plain_later (enter c k i j ps (ends_named ps) n q (is_more qs)) q (item l) e p.0 h.3 (plain_initial c k n v later)) (goes_later (pass c q) k i j ps (suc n) qs l (last q) b e p.1 h.4 v later)
    spells_later c k i j ps n (skip qs) (Many ws l) a b e p h v later = absurd h

    goes_later : (c : Context) (k : Kind) (i j : ℕ) (ps : Trees) (n : ℕ) (qs : Trees) (l : Items) (a b : ℕ) → not (is_rest (item l)) ≡ true → ArePlain qs → Goes ts l a qs b → has_values k ≡ false → c.initial ≡ false → AreLater (events_of c k i j ps n qs)
    goes_later c k i j ps n none l a b e p h v later = tt
    goes_later c k i j ps n (more q qs) l a b e p h v later =
        later_append (events (enter c k i j ps (ends_named ps) n q (is_more qs)) q) (events_of (pass c q) k i j ps (suc n) qs)
        (plain_later (enter c k i j ps (ends_named ps) n q (is_more qs)) q (item l) e p.0 h.3 (plain_initial c k n v later)) (goes_later (pass c q) k i j ps (suc n) qs l (last q) b e p.1 h.4 v later)
    goes_later c k i j ps n (skip qs) l a b e p h v later = absurd h

-- ---- bodies

not_package : (c : Context) (x : Bool) → is_package c.block ≡ false → (is_package c.block && x) ≡ false
not_package c x e = ap (λ b. b && x) e

body_initial : (c : Context) (k : Kind) (i n : ℕ) → is_package (block_in c k i) ≡ false → c.initial ≡ false → initial_in c k n ≡ false
body_initial c kind.Values i n e h = not_package c (not c.constant) e
body_initial c kind.TypedValues i zero e h = refl
body_initial c kind.TypedValues i (suc n) e h = not_package c (not c.constant) e
body_initial c k i n e h = h

inner_block : (b : Bool) (c : Block) (i : ℕ) → is_package c ≡ false → is_package (if b then block.Local i else c) ≡ false
inner_block true c i e = refl
inner_block false c i e = e

mutual
  -- in a block of a function
  body_later : (c : Context) (t : Tree) → is_package (block_in c (kind_of t) (first t)) ≡ false → c.initial ≡ false → AreLater (events c t)
  body_later c (node k i j ps) e later =
      later_append (statement_events c.listed i j ++ own_events c k i j ps) (events_of (begin c k) k i j ps 0 ps)
      (later_append (statement_events c.listed i j) (own_events c k i j ps) (statement_later c.listed i j) (own_later c k i j ps later))
      (parts_later (begin c k) k i j ps 0 ps e later)

  parts_later : (c : Context) (k : Kind) (i j : ℕ) (ps : Trees) (n : ℕ) (qs : Trees) → is_package (block_in c k i) ≡ false → c.initial ≡ false → AreLater (events_of c k i j ps n qs)
  parts_later c k i j ps n none e later = tt
  parts_later c k i j ps n (more q qs) e later =
      later_append (events (enter c k i j ps (ends_named ps) n q (is_more qs)) q) (events_of (pass c q) k i j ps (suc n) qs)
      (body_later (enter c k i j ps (ends_named ps) n q (is_more qs)) q (inner_block (opens (kind_of q)) (block_in c k i) (first q) e) (body_initial c k i n e later)) (parts_later (pass c q) k i j ps (suc n) qs e later)
  parts_later c k i j ps n (skip qs) e later = parts_later c k i j ps (suc n) qs e later

-- ---- functions

opened : (c : Context) (k : Kind) (i : ℕ) → opens k ≡ true → is_package (block_in c k i) ≡ false
opened c k i e = ap (λ b. is_package (if b then block.Local i else c.block)) e

module _ (ts : List TokenKind) where
  function_later : (e i j : ℕ) (ps : Trees) → Derives ts category.Declaration (node kind.FunctionDeclaration i j ps) → AreLayered FunctionLayer ps → AreLater (events (file_context e) (node kind.FunctionDeclaration i j ps))
  function_later e i j none h y = absurd h.1
  function_later e i j (skip ps) h y = absurd h.1
  function_later e i j (more s none) h y = absurd h.1.2
  function_later e i j (more s (skip (more q qs))) h y = absurd h.1.2.2
  function_later e i j (more s (skip (skip qs))) h y = absurd h.1.2.2
  function_later e i j (more s (more b (more q qs))) h y = absurd h.1.2.2
  function_later e i j (more s (more b (skip qs))) h y = absurd h.1.2.2
  function_later e i j (more s (skip none)) h y =
      let ps : Trees = more s (skip none) in
      let around : Context = enter (begin (file_context e) kind.FunctionDeclaration) kind.FunctionDeclaration i j ps (ends_named ps) 0 s false in
      later_append (declaration_events i j ps) (events around s ++ []) (declaration_later i j ps)
      (later_append (events around s) [] (plain_later ts around s category.Signature refl y.0 h.1.1 refl) tt)
  function_later e i j (more s (more b none)) h y =
      let ps : Trees = more s (more b none) in
      let front : Context = begin (file_context e) kind.FunctionDeclaration in
      let around : Context = enter front kind.FunctionDeclaration i j ps (ends_named ps) 0 s true in
      let inner : Context = enter (pass front s) kind.FunctionDeclaration i j ps (ends_named ps) 1 b false in
      later_append (declaration_events i j ps) (events around s ++ (events inner b ++ [])) (declaration_later i j ps)
      (later_append (events around s) (events inner b ++ []) (plain_later ts around s category.Signature refl y.0 h.1.1 refl)
      (later_append (events inner b) [] (body_later inner b (opened inner (kind_of b) (first b) y.1.0) refl) tt))

  tree_later : (e : ℕ) (t : Tree) → is_function (kind_of t) ≡ true → Derives ts category.Declaration t → AreLater (events (file_context e) t)
  tree_later e (node kind.FunctionDeclaration i j ps) f h = function_later e i j ps h (derives_layered ts (node kind.FunctionDeclaration i j ps) category.Declaration h)
  tree_later e (node k i j ps) f h = absurd (true_false false f refl)

-- ---- the rule

initial_both : (xs ys : List Asked) → initialisers (xs ++ ys) ≡ initialisers xs ++ initialisers ys
initial_both [] ys = refl
initial_both (a ∷ xs) ys = ap (place_if (a.it.initial && is_initial a.meaning) a.place) (initial_both xs ys) ∙ place_both (a.it.initial && is_initial a.meaning) a.place (initialisers xs) (initialisers ys)

module _ (ms : List Meaning) where
  abbrev initial_rule : EventRule
  initial_rule n l es = initialisers (asked_in ms n l es)

  initial_along : GoesAlong initial_rule
  initial_along = record { none = λ n l. refl; both = λ n l es fs. ap initialisers (asked_both ms n l es fs) ∙ initial_both (asked_in ms n l es) (asked_in ms n l fs) }

  by_files : (n : ℕ) (us : List names.Unit) → initialisers (asked_from ms n us) ≡ of_files initial_rule n us
  by_files n [] = refl
  by_files n (u ∷ us) = initial_both (asked_in ms n u.tokens u.events) (asked_from ms (suc n) us) ∙ ap (λ ps. initialisers (asked_in ms n u.tokens u.events) ++ ps) (by_files (suc n) us)

  none_initial : (n : ℕ) (l : TokenList) (es : List Event) → AreLater es → initialisers (asked_in ms n l es) ≡ []
  none_initial n l [] h = refl
  none_initial n l (event.Use u ∷ es) h = by (is_blank (word l u.name)) (none_initial n l es h.1)
    where
      by : (b : Bool) → initialisers (asked_in ms n l es) ≡ [] → initialisers (if b then asked_in ms n l es else asked ms n l u ∷ asked_in ms n l es) ≡ []
      by true e = e
      by false e = ap (λ b. place_if (b && is_initial (asked ms n l u).meaning) (asked ms n l u).place (initialisers (asked_in ms n l es))) h.0 ∙ e
  none_initial n l (event.Declaration d ∷ es) h = none_initial n l es h
  none_initial n l (event.Import i ∷ es) h = none_initial n l es h
  none_initial n l (event.Member m o i ∷ es) h = none_initial n l es h
  none_initial n l (event.Bodiless i j ∷ es) h = none_initial n l es h
  none_initial n l (event.Statement i j ∷ es) h = none_initial n l es h
  none_initial n l (event.Misplaced i j ∷ es) h = none_initial n l es h
  none_initial n l (event.SecondDefault i ∷ es) h = none_initial n l es h

none_own : (a : Alone) (outer : Outer) (m : ℕ) (es : List Event) → AreLater (map (moved_event m) es) → initialisers (asked_among a outer es) ≡ []
none_own a outer m [] h = refl
none_own a outer m (event.Use u ∷ es) h = by (is_blank (own_text a u.name)) (none_own a outer m es h.1)
  where
    by : (b : Bool) → initialisers (asked_among a outer es) ≡ [] → initialisers (if b then asked_among a outer es else own_ask a outer u ∷ asked_among a outer es) ≡ []
    by true e = e
    by false e = ap (λ b. place_if (b && is_initial (own_ask a outer u).meaning) (own_ask a outer u).place (initialisers (asked_among a outer es))) h.0 ∙ e
none_own a outer m (event.Declaration d ∷ es) h = none_own a outer m es h
none_own a outer m (event.Import i ∷ es) h = none_own a outer m es h
none_own a outer m (event.Member k o i ∷ es) h = none_own a outer m es h
none_own a outer m (event.Bodiless i j ∷ es) h = none_own a outer m es h
none_own a outer m (event.Statement i j ∷ es) h = none_own a outer m es h
none_own a outer m (event.Misplaced i j ∷ es) h = none_own a outer m es h
none_own a outer m (event.SecondDefault i ∷ es) h = none_own a outer m es h

-- No name of a function stands in the value of a variable of the package, by itself.
abbrev pub StandsLater : List File → ℕ → Function → Type 0
StandsLater fs n f = own_initialisers (function_alone f) (outer_in fs n) ≡ []

pub initialisers_by_functions : (fs : List File) → AreRead fs → AreNamed fs → Iff (initialisers (all_asked fs) ≡ []) ((initialisers (outside_asked fs) ≡ []) × EachOwn (StandsLater fs) 0 fs)
initialisers_by_functions fs h g =
    let ms : List Meaning = meanings (units_of fs) in
    let law = rule_by_functions fs (initial_rule ms) (initial_along ms) (StandsLater fs) own_rule 0 fs (λ k. let z : 0 + k ≡ k = omega arith in ap (slice_get fs) z) h g in
    record {
      to = λ e. let x = law.to (sym (by_files ms 0 (units_of fs)) ∙ e) in (by_files ms 0 (outside_units fs) ∙ x.0, x.1);
      from = λ e. by_files ms 0 (units_of fs) ∙ law.from (sym (by_files ms 0 (outside_units fs)) ∙ e.0, e.1);
    }
  where
    own_rule : IsOwnRule fs (initial_rule (meanings (units_of fs))) (initial_along (meanings (units_of fs))) (StandsLater fs)
    own_rule n f r s t stands named =
        let later : AreLater (told_in f t) = tree_later (kinds f.tokens.tokens) (last f.tree) t stands.function stands.sits.derives in
        let a : Alone = function_alone (record { file = f; tree = t }) in
        let e : told_in f t ≡ map (moved_event (first t)) (function_events a) = heads.tell fs n f r s t stands in
        record {
          to = λ x. none_own a (outer_of (units_of fs) n) (first t) (function_events a) (subst AreLater e later);
          from = λ x. none_initial (meanings (units_of fs)) n f.tokens (told_in f t) later;
        }
