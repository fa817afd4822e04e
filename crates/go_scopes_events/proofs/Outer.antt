-- Locals are declared only within functions: what stands outside of them opens no block and declares no parameters.
use Rattle.std.proofs.Common.{◌≡◌, ℕ, zero, suc, ◌<◌, ◌⊎◌, inl, inr, Bool, true, false, List, [], ◌∷◌, ◌++◌, Option, Some, None, refl, append_assoc, arith}
use Rattle.std.specs.Prelude.{nat_lt, if◌then◌else◌, ◌&&◌}
use Rattle.std.proofs.lemmas.Bool.Decides.{nat_tests}
use Rattle.go_tokens.specs.declared.token.TokenKind.{TokenKind}
use Rattle.go_grammar.specs.declared.kind.Kind.{Kind}
use Rattle.go_grammar.specs.declared.kind.Kind.TheVariants as kind
use Rattle.go_grammar.specs.declared.kind.Sort.{Sort}
use Rattle.go_grammar.specs.declared.kind.Sort.TheVariants as sort
use Rattle.go_grammar.specs.declared.kind.Place.{Place}
use Rattle.go_grammar.specs.declared.kind.Category.{Category}
use Rattle.go_grammar.specs.declared.kind.Category.TheVariants as category
use Rattle.go_grammar.specs.Categories.{within, place_of}
use Rattle.go_grammar.specs.Rules.{Items, Rule, End, Then, Maybe, Unless, Many, item}
use Rattle.go_grammar.specs.Trees.{Tree, node, Trees, none, more, skip, kind_of, last}
use Rattle.go_grammar.specs.Grammar.{IsFile, rule, Derives, Spells, Goes, is_name, ends_named}
use Rattle.go_tree.specs.Views.{part_at}
use Rattle.go_tree.specs.declared.context.Scope.{Scope}
use Rattle.go_tree.specs.declared.context.Role.{Role}
use Rattle.go_tree.specs.declared.context.Role.TheVariants as role
use Rattle.go_tree.specs.declared.context.Context.{Context}
use Rattle.go_tree.specs.declared.event.Event.{Event}
use Rattle.go_tree.specs.declared.event.Event.TheVariants as event
use Rattle.go_tree.specs.Contexts.{is_there, file_context, block_in, enter, role_in, parameters_in, called_in, if_name, if_first, field_role, key_role, parameter_role, entry_role}
use Rattle.go_tree.specs.Events.{statement_events, own_events, name_events, function_events, is_more, pass, begin, events, events_of}
use Rattle.go_scopes_events.specs.Orders.{EachDeclared, IsOuter, begins_function, LocalsFollow}
use Rattle.go_scopes_events.proofs.Rising.{behind_name, IsLaidOut, LieIn, derives_laid}
use Rattle.go_scopes_events.proofs.Layers.{is_plain, has_plain, all_plain, within_plain, rule_plain, and_both}
use Rattle.go_scopes_events.proofs.Nesting.{each_append, statement_each, misplaced_each, second_each}

-- the kinds of what stands outside of functions
abbrev pub is_outer : Kind → Bool
is_outer kind.File = true
is_outer kind.Imports = true
is_outer kind.Import = true
is_outer kind.ImportGroup = true
is_outer kind.ImportPath = true
is_outer (kind.Declaration s) = true
is_outer (kind.Group s) = true
is_outer (kind.Specification s) = true
is_outer k = is_plain k

abbrev pub is_function : Kind → Bool
is_function kind.FunctionDeclaration = true
is_function k = false

-- the categories of these and of functions
abbrev has_outer : Category → Bool
has_outer category.File = true
has_outer category.Imports = true
has_outer category.Import = true
has_outer category.ImportBody = true
has_outer category.ImportPath = true
has_outer category.Declaration = true
has_outer (category.DeclarationBody s) = true
has_outer (category.Specification s) = true
has_outer c = has_plain c

abbrev all_outer : Rule → Bool
all_outer (End ws) = true
all_outer (Then ws c r) = has_outer c && all_outer r
all_outer (Maybe ws c r) = has_outer c && all_outer r
all_outer (Unless ws c us r) = has_outer c && all_outer r
all_outer (Many ws l) = has_outer (item l)

abbrev mutual
  -- no node of the tree outside of functions opens a block
  pub IsOutside : Tree → Type 0
  IsOutside (node k i j ps) = (is_function k ≡ true) ⊎ ((is_outer k ≡ true) × AreOutside ps)

  pub AreOutside : Trees → Type 0
  AreOutside none = Unit
  AreOutside (more p ps) = IsOutside p × AreOutside ps
  AreOutside (skip ps) = AreOutside ps

plain_outer : (k : Kind) → is_plain k ≡ true → is_outer k ≡ true
plain_outer kind.File e = refl
plain_outer kind.Imports e = refl
plain_outer kind.Import e = refl
plain_outer kind.ImportGroup e = refl
plain_outer kind.ImportPath e = refl
plain_outer (kind.Declaration s) e = refl
plain_outer (kind.Group s) e = refl
plain_outer (kind.Specification s) e = refl
plain_outer k e = e

file_outer : (k : Kind) → within category.File k ≡ true → is_outer k ≡ true
file_outer kind.File h = refl
file_outer k h = cc

imports_outer : (k : Kind) → within category.Imports k ≡ true → is_outer k ≡ true
imports_outer kind.Imports h = refl
imports_outer k h = cc

import_outer : (k : Kind) → within category.Import k ≡ true → is_outer k ≡ true
import_outer kind.Import h = refl
import_outer k h = cc

import_body_outer : (k : Kind) → within category.ImportBody k ≡ true → is_outer k ≡ true
import_body_outer kind.ImportPath h = refl
import_body_outer kind.ImportGroup h = refl
import_body_outer k h = cc

path_outer : (k : Kind) → within category.ImportPath k ≡ true → is_outer k ≡ true
path_outer kind.ImportPath h = refl
path_outer k h = cc

declaration_outer : (k : Kind) → within category.Declaration k ≡ true → (is_function k ≡ true) ⊎ (is_outer k ≡ true)
declaration_outer (kind.Declaration s) h = inr refl
declaration_outer kind.FunctionDeclaration h = inl refl
declaration_outer k h = cc

body_outer : (k : Kind) (s : Sort) → within (category.DeclarationBody s) k ≡ true → is_outer k ≡ true
body_outer (kind.Specification t) s h = refl
body_outer (kind.Group t) s h = refl
body_outer k s h = cc

specification_outer : (k : Kind) (s : Sort) → within (category.Specification s) k ≡ true → is_outer k ≡ true
specification_outer (kind.Specification t) s h = refl
specification_outer k s h = cc

within_outer : (c : Category) (k : Kind) → has_outer c ≡ true → within c k ≡ true → (is_function k ≡ true) ⊎ (is_outer k ≡ true)
within_outer category.File k e h = inr (file_outer k h)
within_outer category.Imports k e h = inr (imports_outer k h)
within_outer category.Import k e h = inr (import_outer k h)
within_outer category.ImportBody k e h = inr (import_body_outer k h)
within_outer category.ImportPath k e h = inr (path_outer k h)
within_outer category.Declaration k e h = declaration_outer k h
within_outer (category.DeclarationBody s) k e h = inr (body_outer k s h)
within_outer (category.Specification s) k e h = inr (specification_outer k s h)
within_outer c k e h = inr (plain_outer k (within_plain c k e h))

category_outer : (c : Category) → has_plain c ≡ true → has_outer c ≡ true
category_outer category.File e = refl
category_outer category.Imports e = refl
category_outer category.Import e = refl
category_outer category.ImportBody e = refl
category_outer category.ImportPath e = refl
category_outer category.Declaration e = refl
category_outer (category.DeclarationBody s) e = refl
category_outer (category.Specification s) e = refl
category_outer c e = e

both_and : (a b : Bool) → a ≡ true → b ≡ true → a && b ≡ true
both_and true b x y = y
both_and false b x y = cc

right_outer : (r : Rule) → all_plain r ≡ true → all_outer r ≡ true
right_outer (End ws) e = refl
right_outer (Then ws c r) e = let b = and_both (has_plain c) (all_plain r) e in both_and (has_outer c) (all_outer r) (category_outer c b.0) (right_outer r b.1)
right_outer (Maybe ws c r) e = let b = and_both (has_plain c) (all_plain r) e in both_and (has_outer c) (all_outer r) (category_outer c b.0) (right_outer r b.1)
right_outer (Unless ws c us r) e = let b = and_both (has_plain c) (all_plain r) e in both_and (has_outer c) (all_outer r) (category_outer c b.0) (right_outer r b.1)
right_outer (Many ws l) e = category_outer (item l) e

rule_outer : (p : Place) (k : Kind) → is_outer k ≡ true → all_outer (rule p k) ≡ true
rule_outer p kind.File e = refl
rule_outer p kind.Imports e = refl
rule_outer p kind.Import e = refl
rule_outer p kind.ImportGroup e = refl
rule_outer p kind.ImportPath e = refl
rule_outer p (kind.Declaration s) e = refl
rule_outer p (kind.Group s) e = refl
rule_outer p (kind.Specification sort.Constant) e = refl
rule_outer p (kind.Specification sort.Type) e = refl
rule_outer p (kind.Specification sort.Variable) e = refl
rule_outer p k e = right_outer (rule p k) (rule_plain p k e)

either : (F O A : Type 0) → F ⊎ O → (O → A) → F ⊎ (O × A)
either F O A (inl f) g = inl f
either F O A (inr o) g = inr (o, g o)

module _ (ts : List TokenKind) where
  mutual
    pub derives_outside : (t : Tree) (c : Category) → has_outer c ≡ true → Derives ts c t → IsOutside t
    derives_outside (node k i j ps) c e h = either (is_function k ≡ true) (is_outer k ≡ true) (AreOutside ps) (within_outer c k e h.0) (λ o. spells_outside ps (rule (place_of c) k) i j (rule_outer (place_of c) k o) h.1)

    spells_outside : (ps : Trees) (r : Rule) (i j : ℕ) → all_outer r ≡ true → Spells ts r i ps j → AreOutside ps
    spells_outside none r i j e h = tt
    spells_outside (more p ps) (End ws) i j e h = absurd h
    spells_outside (skip ps) (End ws) i j e h = absurd h
    spells_outside (more p ps) (Then ws c r) i j e h = let b = and_both (has_outer c) (all_outer r) e in (derives_outside p c b.0 h.1, spells_outside ps r (last p) j b.1 h.2)
    spells_outside (skip ps) (Then ws c r) i j e h = absurd h
    spells_outside (more p ps) (Maybe ws c r) i j e h = let b = and_both (has_outer c) (all_outer r) e in (derives_outside p c b.0 h.1, spells_outside ps r (last p) j b.1 h.2)
    spells_outside (skip ps) (Maybe ws c r) i j e h = spells_outside ps r h.0 j (and_both (has_outer c) (all_outer r) e).1 h.2
    spells_outside (more p ps) (Unless ws c us r) i j e h = let b = and_both (has_outer c) (all_outer r) e in (derives_outside p c b.0 h.1, spells_outside ps r (last p) j b.1 h.2)
    spells_outside (skip ps) (Unless ws c us r) i j e h = spells_outside ps r h.0 j (and_both (has_outer c) (all_outer r) e).1 h.3
    spells_outside (more p ps) (Many ws l) i j e h = (derives_outside p (item l) e h.3, goes_outside ps l (last p) j e h.4)
    spells_outside (skip ps) (Many ws l) i j e h = absurd h

    goes_outside : (ps : Trees) (l : Items) (i j : ℕ) → has_outer (item l) ≡ true → Goes ts l i ps j → AreOutside ps
    goes_outside none l i j e h = tt
    goes_outside (more p ps) l i j e h = (derives_outside p (item l) e h.3, goes_outside ps l (last p) j e h.4)
    goes_outside (skip ps) l i j e h = absurd h

-- No local declaration of these stands before the first function, whether or not there was one in front.
abbrev Follow : List Event → Type 0
Follow es = (b : Bool) → LocalsFollow b es

follow_append : (es fs : List Event) → Follow es → Follow fs → Follow (es ++ fs)
follow_append es fs h g true = tt
follow_append es fs h g false = go es false (h false)
  where
    go : (es : List Event) (b : Bool) → LocalsFollow b es → LocalsFollow b (es ++ fs)
    go es true x = tt
    go [] false x = g false
    go (event.Declaration d ∷ es) false x = (x.0, go es (begins_function d.block d.entity d.manner) x.1)
    go (e ∷ es) false x = go es false x

-- in the block of the package all may stand
outer_follow : (es : List Event) → EachDeclared (λ d. IsOuter d.block) es → Follow es
outer_follow es h true = tt
outer_follow [] h false = tt
outer_follow (event.Declaration d ∷ es) h false = (h.0, outer_follow es h.1 (begins_function d.block d.entity d.manner))
outer_follow (e ∷ es) h false = outer_follow es h false

abbrev pub IsNone : Option Scope → Type 0
IsNone None = Unit
IsNone (Some s) = ⊥

-- what a role declares
abbrev pub IsOuterRole : Role → Type 0
IsOuterRole (role.Parameter g s) = IsNone s
IsOuterRole r = Unit

name_outer : (c : Context) (i : ℕ) (r : Role) → IsOuter c.block → IsOuterRole r → EachDeclared (λ d. IsOuter d.block) (name_events c i r)
name_outer c i (role.New d) b h = (b, tt)
name_outer c i (role.Parameter g None) b h = tt
name_outer c i (role.Parameter g (Some s)) b h = absurd h
name_outer c i r b h = tt

pub own_outer : (c : Context) (k : Kind) (i j : ℕ) (ps : Trees) → is_outer k ≡ true → IsOuter c.block → IsOuterRole c.role → EachDeclared (λ d. IsOuter d.block) (own_events c k i j ps)
own_outer c kind.FunctionDeclaration i j ps e b r = let no : false ≡ true = e in absurd cc
own_outer c (kind.Specification sort.Type) i j ps e b r = (b, tt)
own_outer c kind.DeclaredName i j ps e b r = name_outer c i c.role b r
own_outer c kind.Name i j ps e b r = name_outer c i c.role b r
own_outer c kind.Switch i j ps e b r = second_each (λ d. IsOuter d.block) false ps
own_outer c kind.Break i j ps e b r = misplaced_each (λ d. IsOuter d.block) c.breaks i j
own_outer c kind.Continue i j ps e b r = misplaced_each (λ d. IsOuter d.block) c.continues i j
own_outer c kind.Fallthrough i j ps e b r = misplaced_each (λ d. IsOuter d.block) c.falls i j
own_outer c k i j ps e b r = tt

-- the context of the parts
pub record IsOuterContext (c : Context) : Type 0 where
  pub block : IsOuter c.block
  pub role : IsOuterRole c.role
  pub parameters : IsNone c.parameters

pub block_outer : (c : Context) (k : Kind) (i : ℕ) → is_outer k ≡ true → IsOuter c.block → IsOuter (block_in c k i)
block_outer c kind.Block i e b = let no : false ≡ true = e in absurd cc
block_outer c kind.Case i e b = let no : false ≡ true = e in absurd cc
block_outer c kind.Default i e b = let no : false ≡ true = e in absurd cc
block_outer c kind.If i e b = let no : false ≡ true = e in absurd cc
block_outer c kind.Switch i e b = let no : false ≡ true = e in absurd cc
block_outer c kind.For i e b = let no : false ≡ true = e in absurd cc
block_outer c k i e b = b

pub parameters_outer : (c : Context) (k : Kind) (j : ℕ) (ps : Trees) (n : ℕ) (p : Tree) → is_outer k ≡ true → IsNone c.parameters → IsNone (parameters_in c k j ps n p)
parameters_outer c kind.FunctionDeclaration j ps n p e s = let no : false ≡ true = e in absurd cc
parameters_outer c kind.FunctionType j ps n p e s = tt
parameters_outer c k j ps n p e s = s

if_outer : (p : Tree) (r : Role) → IsOuterRole r → IsOuterRole (if_name p r)
if_outer p r h = elim (is_name (kind_of p)) as (λ b. IsOuterRole (if b then r else role.Operand)) [ true ↦ h | false ↦ tt ]

first_outer : (n : ℕ) (r : Role) → IsOuterRole r → IsOuterRole (if_first n r)
first_outer zero r h = h
first_outer (suc n) r h = tt

called_outer : (r : Role) → IsOuterRole (called_in r)
called_outer role.Called = tt
called_outer r = tt

entry_outer : (named : Bool) (p : Tree) (group : ℕ) (s : Option Scope) → IsNone s → IsOuterRole (entry_role named p group s)
entry_outer true p group s h = if_outer p (role.Parameter group s) h
entry_outer false p group s h = tt

field_outer : (group : Option ℕ) → IsOuterRole (field_role group)
field_outer None = tt
field_outer (Some g) = tt

key_outer : (group : Option ℕ) → IsOuterRole (key_role group)
key_outer None = tt
key_outer (Some g) = tt

parameter_outer : (group : Option ℕ) (s : Option Scope) → IsNone s → IsOuterRole (parameter_role group s)
parameter_outer None s h = tt
parameter_outer (Some g) s h = h

pub role_outer : (c : Context) (k : Kind) (i j : ℕ) (named : Bool) (n : ℕ) (p : Tree) → IsOuterRole c.role → IsNone c.parameters → IsOuterRole (role_in c k i j named n p)
role_outer c (kind.Specification sort.Constant) i j named n p r s = first_outer n (role.New _) tt
role_outer c (kind.Specification sort.Variable) i j named n p r s = first_outer n (role.New _) tt
role_outer c kind.Define i j named n p r s = first_outer n (role.New _) tt
role_outer c kind.DefiningRange i j named n p r s = first_outer n (role.New _) tt
role_outer c kind.NameList i j named n p r s = r
role_outer c kind.NewNames i j named n p r s = r
role_outer c kind.ExpressionList i j named n p r s = if_outer p c.role r
role_outer c kind.Call i j named n p r s = first_outer n role.Called tt
role_outer c kind.Parenthesized i j named n p r s = called_outer c.role
role_outer c kind.Selector i j named n p r s = if_outer p (role.Selected j _) tt
role_outer c kind.Fields i j named n p r s = first_outer n (field_role c.group) (field_outer c.group)
role_outer c kind.Keyed i j named n p r s = first_outer n (key_role c.group) (key_outer c.group)
role_outer c kind.Parameters i j named n p r s = entry_outer named p i c.parameters s
role_outer c kind.Parameter i j named n p r s = first_outer n (parameter_role c.group c.parameters) (parameter_outer c.group c.parameters s)
role_outer c k i j named n p r s = tt

-- a function is declared in front of its locals
function_follow : (c : Context) (k : Kind) (i j : ℕ) (ps : Trees) → is_function k ≡ true → i < j → Follow (own_events c k i j ps ++ events_of (begin c k) k i j ps 0 ps)
function_follow c kind.FunctionDeclaration i j ps e lt b = by b (nat_lt i j) (grind (arith, nat_tests)) (is_there (part_at ps 1))
  where
    by : (b x : Bool) → x ≡ true → (y : Bool) → LocalsFollow b ((if x then function_events i j y else []) ++ events_of (begin c kind.FunctionDeclaration) kind.FunctionDeclaration i j ps 0 ps)
    by true x e y = tt
    by false true e true = (tt, tt)
    by false true e false = (tt, tt)
    by false false e y = cc
function_follow c k i j ps e lt b = cc

-- what a node tells, by what its parts tell
node_follow : (c : Context) (k : Kind) (i j : ℕ) (ps : Trees) → IsOutside (node k i j ps) → i < j → IsOuterContext c → (is_outer k ≡ true → AreOutside ps → Follow (events_of (begin c k) k i j ps 0 ps)) → Follow (events c (node k i j ps))
node_follow c k i j ps (inl f) lt g parts =
    rw append_assoc
    (follow_append (statement_events c.listed i j) (own_events c k i j ps ++ events_of (begin c k) k i j ps 0 ps)
    (outer_follow (statement_events c.listed i j) (statement_each (λ d. IsOuter d.block) c.listed i j))
    (function_follow c k i j ps f lt))
node_follow c k i j ps (inr o) lt g parts =
    follow_append (statement_events c.listed i j ++ own_events c k i j ps) (events_of (begin c k) k i j ps 0 ps)
    (outer_follow (statement_events c.listed i j ++ own_events c k i j ps) (each_append (λ d. IsOuter d.block) (statement_events c.listed i j) (own_events c k i j ps) (statement_each (λ d. IsOuter d.block) c.listed i j) (own_outer c k i j ps o.0 g.block g.role)))
    (parts o.0 o.1)

mutual
  outside_follow : (c : Context) (t : Tree) → IsOutside t → IsLaidOut t → IsOuterContext c → Follow (events c t)
  outside_follow c (node k i j ps) x h g = node_follow c k i j ps x h.0 g (λ e y. parts_follow (begin c k) k i j ps 0 ps (behind_name k i) e y h.1 (record { block = g.block; role = g.role; parameters = g.parameters }))

  parts_follow : (c : Context) (k : Kind) (i j : ℕ) (ps : Trees) (n : ℕ) (qs : Trees) (a : ℕ) → is_outer k ≡ true → AreOutside qs → LieIn a j qs → IsOuterContext c → Follow (events_of c k i j ps n qs)
  parts_follow c k i j ps n none a e x h g = outer_follow [] tt
  parts_follow c k i j ps n (more p qs) a e x h g =
      follow_append (events (enter c k i j ps (ends_named ps) n p (is_more qs)) p) (events_of (pass c p) k i j ps (suc n) qs)
      (outside_follow (enter c k i j ps (ends_named ps) n p (is_more qs)) p x.0 h.1 (record { block = block_outer c k i e g.block; role = role_outer c k i j (ends_named ps) n p g.role g.parameters; parameters = parameters_outer c k j ps n p e g.parameters }))
      (parts_follow (pass c p) k i j ps (suc n) qs (last p) e x.1 h.2 (record { block = g.block; role = g.role; parameters = g.parameters }))
  parts_follow c k i j ps n (skip qs) a e x h g = parts_follow c k i j ps (suc n) qs a e x h g

pub file_behind : (ts : List TokenKind) (t : Tree) → IsFile ts t → LocalsFollow false (events (file_context (last t)) t)
file_behind ts t f = outside_follow (file_context (last t)) t (derives_outside ts t category.File refl f.derives) (derives_laid ts t category.File f.derives) (record { block = tt; role = tt; parameters = tt }) false
