-- Locals stand inside the functions that they belong to: no function stands within another.
use Rattle.std.proofs.Common.{◌≡◌, ℕ, zero, suc, ◌<◌, ◌≤◌, ◌⊎◌, inl, inr, Bool, true, false, List, [], ◌∷◌, ◌++◌, Option, Some, None, refl, sym, ap, subst, append_assoc, arith}
use Rattle.std.specs.Prelude.{nat_lt, nat_le, if◌then◌else◌, ◌&&◌}
use Rattle.std.proofs.lemmas.Bool.Decides.{nat_tests}
use Rattle.go_tokens.specs.declared.token.TokenKind.{TokenKind}
use Rattle.go_grammar.specs.declared.kind.Kind.{Kind}
use Rattle.go_grammar.specs.declared.kind.Kind.TheVariants as kind
use Rattle.go_grammar.specs.declared.kind.Sort.TheVariants as sort
use Rattle.go_grammar.specs.declared.kind.Level.{Level}
use Rattle.go_grammar.specs.declared.kind.Level.TheVariants as level
use Rattle.go_grammar.specs.declared.kind.Place.{Place}
use Rattle.go_grammar.specs.declared.kind.Place.TheVariants as place
use Rattle.go_grammar.specs.declared.kind.Category.{Category}
use Rattle.go_grammar.specs.declared.kind.Category.TheVariants as category
use Rattle.go_grammar.specs.Operators.{rank}
use Rattle.go_grammar.specs.Categories.{within, place_of}
use Rattle.go_grammar.specs.Rules.{Items, Rule, End, Then, Maybe, Unless, Many, item}
use Rattle.go_grammar.specs.Trees.{Tree, node, Trees, none, more, skip, kind_of, last}
use Rattle.go_grammar.specs.Grammar.{IsFile, rule, Derives, Spells, Goes, is_name, ends_named}
use Rattle.go_tree.specs.Views.{part_at}
use Rattle.go_tree.specs.declared.context.Block.{Block}
use Rattle.go_tree.specs.declared.context.Block.TheVariants as block
use Rattle.go_tree.specs.declared.context.Entity.{Entity}
use Rattle.go_tree.specs.declared.context.Entity.TheVariants as entity
use Rattle.go_tree.specs.declared.context.Manner.{Manner}
use Rattle.go_tree.specs.declared.context.Scope.{Scope}
use Rattle.go_tree.specs.declared.context.Role.{Role}
use Rattle.go_tree.specs.declared.context.Role.TheVariants as role
use Rattle.go_tree.specs.declared.context.Context.{Context}
use Rattle.go_tree.specs.declared.event.Declaration.{Declaration}
use Rattle.go_tree.specs.declared.event.Event.{Event}
use Rattle.go_tree.specs.declared.event.Event.TheVariants as event
use Rattle.go_tree.specs.Contexts.{is_there, is_package, file_context, enter, role_in, called_in, if_name, if_first, field_role, key_role, parameter_role, entry_role}
use Rattle.go_tree.specs.Events.{statement_events, own_events, name_events, function_events, is_more, pass, begin, events, events_of}
use Rattle.go_tree.specs.Declarations as names
use Rattle.go_scopes_events.specs.Inside.{function_scope, IsDeclared, IsInside, LocalsInside, nowhere}
use Rattle.go_scopes_events.specs.Orders.{AreInOrder, EachDeclared, IsOuter}
use Rattle.go_scopes_events.proofs.Rising.{behind_name, IsLaidOut, LieIn, derives_laid, parts_order}
use Rattle.go_scopes_events.proofs.Layers.{Function, layer, AreLayered, derives_layered, and_both}
use Rattle.go_scopes_events.proofs.Nesting.{each_append, each_map, statement_each, misplaced_each, second_each, Lies, ScopeGives, function_nested}
use Rattle.go_scopes_events.proofs.Outer.{is_outer, is_function, IsOutside, AreOutside, derives_outside, IsOuterContext, own_outer, block_outer, parameters_outer, role_outer, IsNone}

-- the kinds that stand in no function
abbrev pub is_top : Kind → Bool
is_top kind.File = true
is_top kind.FunctionDeclaration = true
is_top k = false

-- the categories that hold none of these
abbrev pub has_inner : Category → Bool
has_inner category.File = false
has_inner category.Declaration = false
has_inner c = true

abbrev pub all_inner : Rule → Bool
all_inner (End ws) = true
all_inner (Then ws c r) = has_inner c && all_inner r
all_inner (Maybe ws c r) = has_inner c && all_inner r
all_inner (Unless ws c us r) = has_inner c && all_inner r
all_inner (Many ws l) = has_inner (item l)

abbrev mutual
  pub IsInner : Tree → Type 0
  IsInner (node k i j ps) = (is_top k ≡ false) × AreInner ps

  pub AreInner : Trees → Type 0
  AreInner none = Unit
  AreInner (more p ps) = IsInner p × AreInner ps
  AreInner (skip ps) = AreInner ps

above_none : (l : Level) → nat_le (rank l) 0 ≡ false
above_none level.Either = refl
above_none level.Both = refl
above_none level.Comparison = refl
above_none level.Sum = refl
above_none level.Product = refl
above_none level.Unary = refl
above_none level.Primary = refl

pub true_false : (b : Bool) → b ≡ true → b ≡ false → ⊥
true_false true e f = cc
true_false false e f = cc

no_function : (c : Category) → has_inner c ≡ true → within c kind.FunctionDeclaration ≡ true → ⊥
no_function category.File e h = true_false false e refl
no_function category.Declaration e h = true_false false e refl
no_function (category.Expression l p) e h = true_false (nat_le (rank l) 0) h (above_none l)
no_function (category.LiteralType place.Free) e h = true_false false h refl
no_function (category.LiteralType place.Header) e h = true_false false h refl
no_function c e h = true_false false h refl

no_file : (c : Category) → has_inner c ≡ true → within c kind.File ≡ true → ⊥
no_file category.File e h = true_false false e refl
no_file (category.Expression l p) e h = true_false (nat_le (rank l) 0) h (above_none l)
no_file (category.LiteralType place.Free) e h = true_false false h refl
no_file (category.LiteralType place.Header) e h = true_false false h refl
no_file c e h = true_false false h refl

inner_kind : (k : Kind) (c : Category) → has_inner c ≡ true → within c k ≡ true → is_top k ≡ false
inner_kind kind.File c e h = absurd (no_file c e h)
inner_kind kind.FunctionDeclaration c e h = absurd (no_function c e h)
inner_kind k c e h = refl

pub rule_inner : (p : Place) (k : Kind) → is_top k ≡ false → all_inner (rule p k) ≡ true
rule_inner p kind.File e = cc
rule_inner p (kind.Specification sort.Constant) e = refl
rule_inner p (kind.Specification sort.Type) e = refl
rule_inner p (kind.Specification sort.Variable) e = refl
rule_inner p k e = refl

pub function_rule : (p : Place) (k : Kind) → is_function k ≡ true → all_inner (rule p k) ≡ true
function_rule p kind.FunctionDeclaration e = refl
function_rule p k e = cc

function_layers : (k : Kind) (ps : Trees) → is_function k ≡ true → AreLayered (layer k) ps → AreLayered Function ps
function_layers kind.FunctionDeclaration ps e h = h
function_layers k ps e h = cc

-- what stands in the functions of a tree
abbrev mutual
  IsClosed : Tree → Type 0
  IsClosed (node k i j ps) = (is_function k ≡ true → AreInner ps × AreLayered Function ps) × AreClosed ps

  AreClosed : Trees → Type 0
  AreClosed none = Unit
  AreClosed (more p ps) = IsClosed p × AreClosed ps
  AreClosed (skip ps) = AreClosed ps

module _ (ts : List TokenKind) where
  mutual
    pub derives_inner : (t : Tree) (c : Category) → has_inner c ≡ true → Derives ts c t → IsInner t
    derives_inner (node k i j ps) c e h = let top : is_top k ≡ false = inner_kind k c e h.0 in (top, spells_inner ps (rule (place_of c) k) i j (rule_inner (place_of c) k top) h.1)

    pub spells_inner : (ps : Trees) (r : Rule) (i j : ℕ) → all_inner r ≡ true → Spells ts r i ps j → AreInner ps
    spells_inner none r i j e h = tt
    spells_inner (more p ps) (End ws) i j e h = absurd h
    spells_inner (skip ps) (End ws) i j e h = absurd h
    spells_inner (more p ps) (Then ws c r) i j e h = let b = and_both (has_inner c) (all_inner r) e in (derives_inner p c b.0 h.1, spells_inner ps r (last p) j b.1 h.2)
    spells_inner (skip ps) (Then ws c r) i j e h = absurd h
    spells_inner (more p ps) (Maybe ws c r) i j e h = let b = and_both (has_inner c) (all_inner r) e in (derives_inner p c b.0 h.1, spells_inner ps r (last p) j b.1 h.2)
    spells_inner (skip ps) (Maybe ws c r) i j e h = spells_inner ps r h.0 j (and_both (has_inner c) (all_inner r) e).1 h.2
    spells_inner (more p ps) (Unless ws c us r) i j e h = let b = and_both (has_inner c) (all_inner r) e in (derives_inner p c b.0 h.1, spells_inner ps r (last p) j b.1 h.2)
    spells_inner (skip ps) (Unless ws c us r) i j e h = spells_inner ps r h.0 j (and_both (has_inner c) (all_inner r) e).1 h.3
    spells_inner (more p ps) (Many ws l) i j e h = (derives_inner p (item l) e h.3, goes_inner ps l (last p) j e h.4)
    spells_inner (skip ps) (Many ws l) i j e h = absurd h

    goes_inner : (ps : Trees) (l : Items) (i j : ℕ) → has_inner (item l) ≡ true → Goes ts l i ps j → AreInner ps
    goes_inner none l i j e h = tt
    goes_inner (more p ps) l i j e h = (derives_inner p (item l) e h.3, goes_inner ps l (last p) j e h.4)
    goes_inner (skip ps) l i j e h = absurd h

  mutual
    derives_closed : (t : Tree) (c : Category) → Derives ts c t → IsClosed t
    derives_closed (node k i j ps) c h = (λ f. (spells_inner ps (rule (place_of c) k) i j (function_rule (place_of c) k f) h.1, function_layers k ps f (derives_layered ts (node k i j ps) c h)), spells_closed ps (rule (place_of c) k) i j h.1)

    spells_closed : (ps : Trees) (r : Rule) (i j : ℕ) → Spells ts r i ps j → AreClosed ps
    spells_closed none r i j h = tt
    spells_closed (more p ps) (End ws) i j h = absurd h
    spells_closed (skip ps) (End ws) i j h = absurd h
    spells_closed (more p ps) (Then ws c r) i j h = (derives_closed p c h.1, spells_closed ps r (last p) j h.2)
    spells_closed (skip ps) (Then ws c r) i j h = absurd h
    spells_closed (more p ps) (Maybe ws c r) i j h = (derives_closed p c h.1, spells_closed ps r (last p) j h.2)
    spells_closed (skip ps) (Maybe ws c r) i j h = spells_closed ps r h.0 j h.2
    spells_closed (more p ps) (Unless ws c us r) i j h = (derives_closed p c h.1, spells_closed ps r (last p) j h.2)
    spells_closed (skip ps) (Unless ws c us r) i j h = spells_closed ps r h.0 j h.3
    spells_closed (more p ps) (Many ws l) i j h = (derives_closed p (item l) h.3, goes_closed ps l (last p) j h.4)
    spells_closed (skip ps) (Many ws l) i j h = absurd h

    goes_closed : (ps : Trees) (l : Items) (i j : ℕ) → Goes ts l i ps j → AreClosed ps
    goes_closed none l i j h = tt
    goes_closed (more p ps) l i j h = (derives_closed p (item l) h.3, goes_closed ps l (last p) j h.4)
    goes_closed (skip ps) l i j h = absurd h

-- what a role declares is no function
abbrev pub NamesOther : Role → Type 0
NamesOther (role.New d) = names.is_function d.entity ≡ false
NamesOther r = Unit

abbrev pub IsOther : Declaration → Type 0
IsOther d = names.is_function d.entity ≡ false

name_other : (c : Context) (i : ℕ) (r : Role) → NamesOther r → EachDeclared IsOther (name_events c i r)
name_other c i (role.New d) h = (h, tt)
name_other c i (role.Parameter g None) h = tt
name_other c i (role.Parameter g (Some s)) h = (refl, tt)
name_other c i r h = tt

own_other : (c : Context) (k : Kind) (i j : ℕ) (ps : Trees) → is_function k ≡ false → NamesOther c.role → EachDeclared IsOther (own_events c k i j ps)
own_other c kind.FunctionDeclaration i j ps e r = let no : true ≡ false = e in absurd cc
own_other c (kind.Specification sort.Type) i j ps e r = (refl, tt)
own_other c kind.DeclaredName i j ps e r = name_other c i c.role r
own_other c kind.Name i j ps e r = name_other c i c.role r
own_other c kind.Switch i j ps e r = second_each IsOther false ps
own_other c kind.Break i j ps e r = misplaced_each IsOther c.breaks i j
own_other c kind.Continue i j ps e r = misplaced_each IsOther c.continues i j
own_other c kind.Fallthrough i j ps e r = misplaced_each IsOther c.falls i j
own_other c k i j ps e r = tt

if_other : (p : Tree) (r : Role) → NamesOther r → NamesOther (if_name p r)
if_other p r h = elim (is_name (kind_of p)) as (λ b. NamesOther (if b then r else role.Operand)) [ true ↦ h | false ↦ tt ]

first_other : (n : ℕ) (r : Role) → NamesOther r → NamesOther (if_first n r)
first_other zero r h = h
first_other (suc n) r h = tt

called_other : (r : Role) → NamesOther (called_in r)
called_other role.Called = tt
called_other r = tt

entry_other : (named : Bool) (p : Tree) (group : ℕ) (s : Option Scope) → NamesOther (entry_role named p group s)
entry_other true p group s = if_other p (role.Parameter group s) tt
entry_other false p group s = tt

field_other : (group : Option ℕ) → NamesOther (field_role group)
field_other None = tt
field_other (Some g) = tt

key_other : (group : Option ℕ) → NamesOther (key_role group)
key_other None = tt
key_other (Some g) = tt

parameter_other : (group : Option ℕ) (s : Option Scope) → NamesOther (parameter_role group s)
parameter_other None s = tt
parameter_other (Some g) s = tt

pub role_other : (c : Context) (k : Kind) (i j : ℕ) (named : Bool) (n : ℕ) (p : Tree) → NamesOther c.role → NamesOther (role_in c k i j named n p)
role_other c (kind.Specification sort.Constant) i j named n p r = first_other n (role.New _) refl
role_other c (kind.Specification sort.Variable) i j named n p r = first_other n (role.New _) refl
role_other c kind.Define i j named n p r = first_other n (role.New _) refl
role_other c kind.DefiningRange i j named n p r = first_other n (role.New _) refl
role_other c kind.NameList i j named n p r = r
role_other c kind.NewNames i j named n p r = r
role_other c kind.ExpressionList i j named n p r = if_other p c.role r
role_other c kind.Call i j named n p r = first_other n role.Called tt
role_other c kind.Parenthesized i j named n p r = called_other c.role
role_other c kind.Selector i j named n p r = if_other p (role.Selected j _) tt
role_other c kind.Fields i j named n p r = first_other n (field_role c.group) (field_other c.group)
role_other c kind.Keyed i j named n p r = first_other n (key_role c.group) (key_other c.group)
role_other c kind.Parameters i j named n p r = entry_other named p i c.parameters
role_other c kind.Parameter i j named n p r = first_other n (parameter_role c.group c.parameters) (parameter_other c.group c.parameters)
role_other c k i j named n p r = tt

pub top_function : (k : Kind) → is_top k ≡ false → is_function k ≡ false
top_function kind.FunctionDeclaration e = e
top_function k e = refl

outer_function : (k : Kind) → is_outer k ≡ true → is_function k ≡ false
outer_function kind.FunctionDeclaration e = let no : false ≡ true = e in absurd cc
outer_function k e = refl

mutual
  pub tree_other : (c : Context) (t : Tree) → IsInner t → NamesOther c.role → EachDeclared IsOther (events c t)
  tree_other c (node k i j ps) x r =
      each_append IsOther (statement_events c.listed i j ++ own_events c k i j ps) (events_of (begin c k) k i j ps 0 ps)
      (each_append IsOther (statement_events c.listed i j) (own_events c k i j ps) (statement_each IsOther c.listed i j) (own_other c k i j ps (top_function k x.0) r))
      (parts_other (begin c k) k i j ps 0 ps x.1 r)

  pub parts_other : (c : Context) (k : Kind) (i j : ℕ) (ps : Trees) (n : ℕ) (qs : Trees) → AreInner qs → NamesOther c.role → EachDeclared IsOther (events_of c k i j ps n qs)
  parts_other c k i j ps n none x r = tt
  parts_other c k i j ps n (more p qs) x r =
      each_append IsOther (events (enter c k i j ps (ends_named ps) n p (is_more qs)) p) (events_of (pass c p) k i j ps (suc n) qs)
      (tree_other (enter c k i j ps (ends_named ps) n p (is_more qs)) p x.0 (role_other c k i j (ends_named ps) n p r))
      (parts_other (pass c p) k i j ps (suc n) qs x.1 r)
  parts_other c k i j ps n (skip qs) x r = parts_other c k i j ps (suc n) qs x r

-- what holds of the names in order
pub each_between : (i j a b : ℕ) (es : List Event) → i ≤ a → b ≤ j → AreInOrder a b es → EachDeclared (λ d. (i ≤ d.name) × (d.name < j)) es
each_between i j a b [] x y h = tt
each_between i j a b (event.Declaration d ∷ es) x y h = ((omega (arith, x, h.0), omega (arith, y, order_grows (suc d.name) b es h.1)), each_between i j (suc d.name) b es (omega (arith, x, h.0)) y h.1)
  where
    order_grows : (i j : ℕ) (es : List Event) → AreInOrder i j es → i ≤ j
    order_grows i j [] o = o
    order_grows i j (event.Declaration d ∷ es) o = omega (arith, o.0, order_grows (suc d.name) j es o.1)
    order_grows i j (event.Use u ∷ es) o = omega (arith, o.0, order_grows (suc u.name) j es o.1)
    order_grows i j (e ∷ es) o = order_grows i j es o
each_between i j a b (event.Use u ∷ es) x y h = each_between i j (suc u.name) b es (omega (arith, x, h.0)) y h.1
each_between i j a b (e ∷ es) x y h = each_between i j a b es x y h

ends_within : (i j : ℕ) (d : Declaration) → Lies i j j d → d.scope.to ≤ j
ends_within i j d h = by h.ends
  where
    by : (d.scope.to ≤ j) ⊎ ((d.scope.to ≡ j) × (d.scope.from ≤ j)) → d.scope.to ≤ j
    by (inl x) = x
    by (inr x) = omega (arith, x.0)

-- Each list of events, wherever it stands, has its locals inside its functions.
abbrev Inside : List Event → Type 0
Inside es = (s : Scope) → LocalsInside s es

inside_append : (es fs : List Event) → Inside es → Inside fs → Inside (es ++ fs)
inside_append es fs h g s = go es s (h s)
  where
    go : (es : List Event) (s : Scope) → LocalsInside s es → LocalsInside s (es ++ fs)
    go [] s x = g s
    go (event.Declaration d ∷ es) s x = (x.0, go es (function_scope d s) x.1)
    go (e ∷ es) s x = go es s x

other_declared : (e : Entity) (m : Manner) → names.is_function e ≡ false → IsDeclared e m
other_declared entity.Function m h = let no : true ≡ false = h in absurd cc
other_declared e m h = tt

outer_one : (s : Scope) (b : Block) (d : Declaration) → IsOuter b → IsOther d → IsInside s b d
outer_one s block.Package d h o = other_declared d.entity d.manner o
outer_one s (block.Local i) d h o = absurd h

outer_inside : (es : List Event) → EachDeclared (λ d. IsOuter d.block) es → EachDeclared IsOther es → Inside es
outer_inside [] h o s = tt
outer_inside (event.Declaration d ∷ es) h o s = (outer_one s d.block d h.0 o.0, outer_inside es h.1 o.1 (function_scope d s))
outer_inside (e ∷ es) h o s = outer_inside es h o s

inner_one : (s : Scope) (b : Block) (d : Declaration) → IsOther d → (s.from ≤ d.name) × (d.name < s.to) → d.scope.to ≤ s.to → IsInside s b d
inner_one s block.Package d o h g = other_declared d.entity d.manner o
inner_one s (block.Local i) d o h g = (h.0, h.1, g)

and_false : (a b : Bool) → b ≡ false → a && b ≡ false
and_false true b e = e
and_false false b e = refl

inner_inside : (s : Scope) (es : List Event) → EachDeclared IsOther es → EachDeclared (λ d. (s.from ≤ d.name) × (d.name < s.to)) es → EachDeclared (λ d. d.scope.to ≤ s.to) es → LocalsInside s es
inner_inside s [] o h g = tt
inner_inside s (event.Declaration d ∷ es) o h g =
    let stays : s ≡ function_scope d s = sym (ap (λ b. if b then d.scope else s) (and_false (is_package d.block) (names.is_function d.entity) o.0)) in
    (inner_one s d.block d o.0 h.0 g.0, subst (λ r. LocalsInside r es) stays (inner_inside s es o.1 h.1 g.1))
inner_inside s (e ∷ es) o h g = inner_inside s es o h g

-- a function with what stands in it
function_parts : (c : Context) (i j : ℕ) (ps : Trees) → AreInner ps → AreLayered Function ps → LieIn (suc (suc i)) j ps → IsNone c.parameters → NamesOther c.role → LocalsInside (record { from = i; to = j }) (events_of (begin c kind.FunctionDeclaration) kind.FunctionDeclaration i j ps 0 ps)
function_parts c i j ps x y h s r =
    let es = events_of (begin c kind.FunctionDeclaration) kind.FunctionDeclaration i j ps 0 ps in
    inner_inside (record { from = i; to = j }) es
    (parts_other (begin c kind.FunctionDeclaration) kind.FunctionDeclaration i j ps 0 ps x r)
    (each_between i j (suc (suc i)) j es (omega arith) (omega arith) (parts_order (begin c kind.FunctionDeclaration) kind.FunctionDeclaration i j ps 0 ps (suc (suc i)) h))
    (each_map (Lies (suc (suc i)) j j) (λ d. d.scope.to ≤ j) es (ends_within (suc (suc i)) j) (function_nested (begin c kind.FunctionDeclaration) i j ps ps (suc (suc i)) y h (gives c.parameters s)).lie)
  where
    gives : (o : Option Scope) → IsNone o → ScopeGives None o
    gives None h = tt
    gives (Some s) h = absurd h

function_inside : (c : Context) (k : Kind) (i j : ℕ) (ps : Trees) → is_function k ≡ true → AreInner ps → AreLayered Function ps → i < j → LieIn (behind_name k i) j ps → IsNone c.parameters → NamesOther c.role → Inside (own_events c k i j ps ++ events_of (begin c k) k i j ps 0 ps)
function_inside c kind.FunctionDeclaration i j ps e x y lt h z r s = by (nat_lt i j) (grind (arith, nat_tests)) (is_there (part_at ps 1))
  where
    by : (b : Bool) → b ≡ true → (y : Bool) → LocalsInside s ((if b then function_events i j y else []) ++ events_of (begin c kind.FunctionDeclaration) kind.FunctionDeclaration i j ps 0 ps)
    by true e true = (refl, function_parts c i j ps x y h z r)
    by true e false = (refl, function_parts c i j ps x y h z r)
    by false e w = cc
function_inside c k i j ps e x y lt h z r s = absurd (true_false false e refl)

-- what a node tells, by what its parts tell
node_inside : (c : Context) (k : Kind) (i j : ℕ) (ps : Trees) → IsOutside (node k i j ps) → IsClosed (node k i j ps) → IsLaidOut (node k i j ps) → IsOuterContext c → NamesOther c.role → (is_outer k ≡ true → AreOutside ps → Inside (events_of (begin c k) k i j ps 0 ps)) → Inside (events c (node k i j ps))
node_inside c k i j ps (inl f) x h g r parts =
    rw append_assoc
    (inside_append (statement_events c.listed i j) (own_events c k i j ps ++ events_of (begin c k) k i j ps 0 ps)
    (outer_inside (statement_events c.listed i j) (statement_each (λ d. IsOuter d.block) c.listed i j) (statement_each IsOther c.listed i j))
    (function_inside c k i j ps f (x.0 f).0 (x.0 f).1 h.0 h.1 g.parameters r))
node_inside c k i j ps (inr o) x h g r parts =
    inside_append (statement_events c.listed i j ++ own_events c k i j ps) (events_of (begin c k) k i j ps 0 ps)
    (outer_inside (statement_events c.listed i j ++ own_events c k i j ps) (each_append (λ d. IsOuter d.block) (statement_events c.listed i j) (own_events c k i j ps) (statement_each (λ d. IsOuter d.block) c.listed i j) (own_outer c k i j ps o.0 g.block g.role))
    (each_append IsOther (statement_events c.listed i j) (own_events c k i j ps) (statement_each IsOther c.listed i j) (own_other c k i j ps (outer_function k o.0) r)))
    (parts o.0 o.1)

mutual
  outside_inside : (c : Context) (t : Tree) → IsOutside t → IsClosed t → IsLaidOut t → IsOuterContext c → NamesOther c.role → Inside (events c t)
  outside_inside c (node k i j ps) x y h g r = node_inside c k i j ps x y h g r (λ e z. parts_inside (begin c k) k i j ps 0 ps (behind_name k i) e z y.1 h.1 (record { block = g.block; role = g.role; parameters = g.parameters }) r)

  parts_inside : (c : Context) (k : Kind) (i j : ℕ) (ps : Trees) (n : ℕ) (qs : Trees) (a : ℕ) → is_outer k ≡ true → AreOutside qs → AreClosed qs → LieIn a j qs → IsOuterContext c → NamesOther c.role → Inside (events_of c k i j ps n qs)
  parts_inside c k i j ps n none a e x y h g r = outer_inside [] tt tt
  parts_inside c k i j ps n (more p qs) a e x y h g r =
      inside_append (events (enter c k i j ps (ends_named ps) n p (is_more qs)) p) (events_of (pass c p) k i j ps (suc n) qs)
      (outside_inside (enter c k i j ps (ends_named ps) n p (is_more qs)) p x.0 y.0 h.1 (record { block = block_outer c k i e g.block; role = role_outer c k i j (ends_named ps) n p g.role g.parameters; parameters = parameters_outer c k j ps n p e g.parameters }) (role_other c k i j (ends_named ps) n p r))
      (parts_inside (pass c p) k i j ps (suc n) qs (last p) e x.1 y.1 h.2 (record { block = g.block; role = g.role; parameters = g.parameters }) r)
  parts_inside c k i j ps n (skip qs) a e x y h g r = parts_inside c k i j ps (suc n) qs a e x y h g r

pub file_inside : (ts : List TokenKind) (t : Tree) → IsFile ts t → LocalsInside nowhere (events (file_context (last t)) t)
file_inside ts t f = outside_inside (file_context (last t)) t (derives_outside ts t category.File refl f.derives) (derives_closed ts t category.File f.derives) (derives_laid ts t category.File f.derives) (record { block = tt; role = tt; parameters = tt }) tt nowhere
