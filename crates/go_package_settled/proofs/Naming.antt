-- Each declaration of the package block is by a name of a specification.
use Rattle.std.proofs.Common.{◌≡◌, ℕ, zero, suc, ◌⊎◌, inl, inr, Bool, true, false, List, [], ◌∷◌, ◌++◌, Option, Some, None, refl, sym, ap, subst}
use Rattle.std.specs.Prelude.{if◌then◌else◌, nat_lt}
use Rattle.go_tokens.specs.declared.token.TokenKind.{TokenKind}
use Rattle.go_tokens.specs.declared.token.TokenKind.TheVariants as token
use Rattle.go_grammar.specs.declared.kind.Kind.{Kind}
use Rattle.go_grammar.specs.declared.kind.Kind.TheVariants as kind
use Rattle.go_grammar.specs.declared.kind.Sort.{Sort}
use Rattle.go_grammar.specs.declared.kind.Sort.TheVariants as declaring
use Rattle.go_grammar.specs.declared.kind.Category.TheVariants as category
use Rattle.go_grammar.specs.Categories as categories
use Rattle.go_grammar.specs.Operators.{sort_word}
use Rattle.go_grammar.specs.Rules.{Each, End, Lines, Many, Then}
use Rattle.go_grammar.specs.Trees.{Tree, node, Trees, none, more, skip, kind_of, last, parts}
use Rattle.go_grammar.specs.Grammar.{IsFile, rule, Derives, Spells, Goes, is_name, ends_named}
use Rattle.go_tree.specs.declared.context.Block.TheVariants as block
use Rattle.go_tree.specs.declared.context.Naming.{Naming}
use Rattle.go_tree.specs.declared.context.Role.{Role}
use Rattle.go_tree.specs.declared.context.Role.TheVariants as role
use Rattle.go_tree.specs.declared.context.Scope.{Scope}
use Rattle.go_tree.specs.declared.context.Context.{Context}
use Rattle.go_tree.specs.declared.event.Declaration.{Declaration}
use Rattle.go_tree.specs.declared.event.Event.{Event}
use Rattle.go_tree.specs.Contexts.{is_package, opens, block_in, enter, role_in, called_in, if_name, if_first, field_role, key_role, parameter_role, entry_role, is_there, is_called, specified, file_context}
use Rattle.go_tree.specs.Events.{name_events, statement_events, own_events, function_events, is_more, pass, begin, events, events_of}
use Rattle.go_tree.specs.Views.{part_at}
use Rattle.go_package_defs.specs.Declarations.{Specification, first_tokens, name_tokens, specification_of, source_behind, grouped, declared, function, declaration, declarations, in_file}
use Rattle.go_package_settled.proofs.Specified.{AreNames, BeginsNamed, SpecifiesNames, Specifies, AreSpecified, same_sort, begins_named, all_specified}
use Rattle.go_scopes_events.specs.Orders.{EachDeclared}
use Rattle.go_scopes_events.proofs.Public.{Holding, IsPlain, ArePlain, AreLayered, derives_layered, layer, each_append, each_map, statement_each, misplaced_each, second_each, IsInner, AreInner, spells_inner, function_rule, true_false}

-- ---- locals

abbrev IsLocal : Declaration → Type 0
IsLocal d = is_package d.block ≡ false

told_each : (Q : Declaration → Type 0) (c : Context) (k : Kind) (i j : ℕ) (ps : Trees) → EachDeclared Q (own_events c k i j ps) → EachDeclared Q (events_of (begin c k) k i j ps 0 ps) → EachDeclared Q (events c (node k i j ps))
told_each Q c k i j ps own below =
    each_append Q (statement_events c.listed i j ++ own_events c k i j ps) (events_of (begin c k) k i j ps 0 ps)
    (each_append Q (statement_events c.listed i j) (own_events c k i j ps) (statement_each Q c.listed i j) own) below

-- ---- what declares nothing by itself

abbrev pub NotNew : Role → Type 0
NotNew (role.New d) = ⊥
NotNew r = Unit {0}

called_not : (r : Role) → NotNew (called_in r)
called_not role.Called = tt
called_not r = tt

name_not : (p : Tree) (r : Role) → NotNew r → NotNew (if_name p r)
name_not p r h = elim (is_name (kind_of p)) as (λ b. NotNew (if b then r else role.Operand)) [ true ↦ h | false ↦ tt ]

first_not : (n : ℕ) (r : Role) → NotNew r → NotNew (if_first n r)
first_not zero r h = h
first_not (suc n) r h = tt

field_not : (g : Option ℕ) → NotNew (field_role g)
field_not None = tt
field_not (Some g) = tt

key_not : (g : Option ℕ) → NotNew (key_role g)
key_not None = tt
key_not (Some g) = tt

parameter_not : (g : Option ℕ) (s : Option Scope) → NotNew (parameter_role g s)
parameter_not None s = tt
parameter_not (Some g) s = tt

entry_not : (named : Bool) (p : Tree) (i : ℕ) (s : Option Scope) → NotNew (entry_role named p i s)
entry_not true p i s = name_not p (role.Parameter i s) tt
entry_not false p i s = tt

pub part_not : (c : Context) (k : Kind) (i j : ℕ) (named : Bool) (n : ℕ) (p : Tree) → layer k ≡ Holding → NotNew c.role → NotNew (role_in c k i j named n p)
part_not c (kind.Specification s) i j named n p e r = absurd cc
part_not c kind.Define i j named n p e r = absurd cc
part_not c kind.DefiningRange i j named n p e r = absurd cc
part_not c kind.FunctionDeclaration i j named n p e r = absurd cc
part_not c kind.NameList i j named n p e r = r
part_not c kind.NewNames i j named n p e r = r
part_not c kind.Targets i j named n p e r = tt
part_not c kind.ExpressionList i j named n p e r = name_not p c.role r
part_not c kind.Call i j named n p e r = first_not n role.Called tt
part_not c kind.Parenthesized i j named n p e r = called_not c.role
part_not c kind.Selector i j named n p e r = name_not p (role.Selected j (is_called c.role)) tt
part_not c kind.Fields i j named n p e r = first_not n (field_role c.group) (field_not c.group)
part_not c kind.Keyed i j named n p e r = first_not n (key_role c.group) (key_not c.group)
part_not c kind.Parameters i j named n p e r = entry_not named p i c.parameters
part_not c kind.Parameter i j named n p e r = first_not n (parameter_role c.group c.parameters) (parameter_not c.group c.parameters)
part_not c k i j named n p e r = tt

name_local : (c : Context) (i : ℕ) (r : Role) → NotNew r → EachDeclared IsLocal (name_events c i r)
name_local c i (role.New d) h = absurd h
name_local c i (role.Field g) h = tt
name_local c i (role.Key g) h = tt
name_local c i (role.Parameter g None) h = tt
name_local c i (role.Parameter g (Some s)) h = (refl, tt)
name_local c i r h = tt

own_local : (c : Context) (k : Kind) (i j : ℕ) (ps : Trees) → layer k ≡ Holding → NotNew c.role → EachDeclared IsLocal (own_events c k i j ps)
own_local c kind.FunctionDeclaration i j ps e r = absurd cc
own_local c (kind.Specification s) i j ps e r = absurd cc
own_local c kind.DeclaredName i j ps e r = name_local c i c.role r
own_local c kind.Name i j ps e r = name_local c i c.role r
own_local c kind.Switch i j ps e r = second_each IsLocal false ps
own_local c kind.Break i j ps e r = misplaced_each IsLocal c.breaks i j
own_local c kind.Continue i j ps e r = misplaced_each IsLocal c.continues i j
own_local c kind.Fallthrough i j ps e r = misplaced_each IsLocal c.falls i j
own_local c k i j ps e r = tt

mutual
  -- no declaration of the package block stands in a plain tree
  plain_local : (c : Context) (t : Tree) → IsPlain t → NotNew c.role → EachDeclared IsLocal (events c t)
  plain_local c (node k i j ps) h r = told_each IsLocal c k i j ps (own_local c k i j ps h.0 r) (plain_parts (begin c k) k i j ps 0 ps h.0 h.1 r)

  plain_parts : (c : Context) (k : Kind) (i j : ℕ) (ps : Trees) (n : ℕ) (qs : Trees) → layer k ≡ Holding → ArePlain qs → NotNew c.role → EachDeclared IsLocal (events_of c k i j ps n qs)
  plain_parts c k i j ps n none e h r = tt
  plain_parts c k i j ps n (skip qs) e h r = plain_parts c k i j ps (suc n) qs e h r
  plain_parts c k i j ps n (more p qs) e h r =
      each_append IsLocal (events (enter c k i j ps (ends_named ps) n p (is_more qs)) p) (events_of (pass c p) k i j ps (suc n) qs)
      (plain_local (enter c k i j ps (ends_named ps) n p (is_more qs)) p h.0 (part_not c k i j (ends_named ps) n p e r))
      (plain_parts (pass c p) k i j ps (suc n) qs e h.1 r)

-- ---- what stands in a block

block_local : (c : Context) (k : Kind) (i : ℕ) → is_package c.block ≡ false → is_package (block_in c k i) ≡ false
block_local c k i b = elim (opens k) as (λ o. is_package (if o then block.Local i else c.block) ≡ false) [ true ↦ refl | false ↦ b ]

name_inside : (c : Context) (i : ℕ) (r : Role) → is_package c.block ≡ false → EachDeclared IsLocal (name_events c i r)
name_inside c i (role.New d) b = (b, tt)
name_inside c i (role.Field g) b = tt
name_inside c i (role.Key g) b = tt
name_inside c i (role.Parameter g None) b = tt
name_inside c i (role.Parameter g (Some s)) b = (refl, tt)
name_inside c i r b = tt

own_inside : (c : Context) (k : Kind) (i j : ℕ) (ps : Trees) → IsInner (node k i j ps) → is_package c.block ≡ false → EachDeclared IsLocal (own_events c k i j ps)
own_inside c kind.FunctionDeclaration i j ps h b = absurd (true_false true refl h.0)
own_inside c (kind.Specification declaring.Type) i j ps h b = (b, tt)
own_inside c kind.DeclaredName i j ps h b = name_inside c i c.role b
own_inside c kind.Name i j ps h b = name_inside c i c.role b
own_inside c kind.Switch i j ps h b = second_each IsLocal false ps
own_inside c kind.Break i j ps h b = misplaced_each IsLocal c.breaks i j
own_inside c kind.Continue i j ps h b = misplaced_each IsLocal c.continues i j
own_inside c kind.Fallthrough i j ps h b = misplaced_each IsLocal c.falls i j
own_inside c k i j ps h b = tt

mutual
  -- in a block that is not the package's all declarations are local
  inner_local : (c : Context) (t : Tree) → IsInner t → is_package c.block ≡ false → EachDeclared IsLocal (events c t)
  inner_local c (node k i j ps) h b = told_each IsLocal c k i j ps (own_inside c k i j ps h b) (inner_parts (begin c k) k i j ps 0 ps h.1 (block_local c k i b))

  inner_parts : (c : Context) (k : Kind) (i j : ℕ) (ps : Trees) (n : ℕ) (qs : Trees) → AreInner qs → is_package (block_in c k i) ≡ false → EachDeclared IsLocal (events_of c k i j ps n qs)
  inner_parts c k i j ps n none h b = tt
  inner_parts c k i j ps n (skip qs) h b = inner_parts c k i j ps (suc n) qs h b
  inner_parts c k i j ps n (more p qs) h b =
      each_append IsLocal (events (enter c k i j ps (ends_named ps) n p (is_more qs)) p) (events_of (pass c p) k i j ps (suc n) qs)
      (inner_local (enter c k i j ps (ends_named ps) n p (is_more qs)) p h.0 b)
      (inner_parts (pass c p) k i j ps (suc n) qs h.1 b)

-- where a node opens a block
own_opened : (c : Context) (k : Kind) (i j : ℕ) (ps : Trees) → opens k ≡ true → EachDeclared IsLocal (own_events c k i j ps)
own_opened c kind.FunctionDeclaration i j ps e = absurd cc
own_opened c (kind.Specification s) i j ps e = absurd cc
own_opened c kind.DeclaredName i j ps e = absurd cc
own_opened c kind.Name i j ps e = absurd cc
own_opened c kind.Switch i j ps e = second_each IsLocal false ps
own_opened c kind.Break i j ps e = misplaced_each IsLocal c.breaks i j
own_opened c kind.Continue i j ps e = misplaced_each IsLocal c.continues i j
own_opened c kind.Fallthrough i j ps e = misplaced_each IsLocal c.falls i j
own_opened c k i j ps e = tt

opened_local : (c : Context) (t : Tree) → opens (kind_of t) ≡ true → IsInner t → EachDeclared IsLocal (events c t)
opened_local c (node k i j ps) e h =
    told_each IsLocal c k i j ps (own_opened c k i j ps e) (inner_parts (begin c k) k i j ps 0 ps h.1 (ap (λ o. is_package (if o then block.Local i else c.block)) e))

-- ---- names in lists

abbrev pub Listed : ℕ → List ℕ → Type 0
Listed t [] = ⊥
Listed t (i ∷ ts) = (t ≡ i) ⊎ Listed t ts

-- The declaration is local, or by one of these names.
abbrev NamedIn : List ℕ → Declaration → Type 0
NamedIn ts d = is_package d.block ≡ true → Listed d.name ts

-- one of the specifications has the name
abbrev pub AnyNamed : ℕ → List Specification → Type 0
AnyNamed t [] = ⊥
AnyNamed t (x ∷ xs) = Listed t x.names ⊎ AnyNamed t xs

-- The declaration is local, or by a name of one of these specifications.
abbrev pub IsSpecified : List Specification → Declaration → Type 0
IsSpecified xs d = is_package d.block ≡ true → AnyNamed d.name xs

local_named : (ts : List ℕ) (d : Declaration) → IsLocal d → NamedIn ts d
local_named ts d h = λ e. absurd (true_false (is_package d.block) e h)

all_named : (ts : List ℕ) (es : List Event) → EachDeclared IsLocal es → EachDeclared (NamedIn ts) es
all_named ts es h = each_map IsLocal (NamedIn ts) es (λ d q. local_named ts d q) h

one_each : (c : Context) (d : Naming) (i j : ℕ) (ts : List ℕ) → c.role ≡ role.New d → EachDeclared (λ e. Listed e.name (i ∷ ts)) (events c (node kind.DeclaredName i j none))
one_each c d i j ts r = told_each (λ e. Listed e.name (i ∷ ts)) c kind.DeclaredName i j none (named c.role r) tt
  where
    named : (x : Role) → x ≡ role.New d → EachDeclared (λ e. Listed e.name (i ∷ ts)) (name_events c i x)
    named x v = subst (λ (y : Role). EachDeclared (λ e. Listed e.name (i ∷ ts)) (name_events c i y)) (sym v) (inl refl, tt)

names_each : (c : Context) (d : Naming) (i j : ℕ) (all : Trees) (m : ℕ) (ps : Trees) → c.role ≡ role.New d → AreNames ps → EachDeclared (λ e. Listed e.name (first_tokens ps)) (events_of c kind.NameList i j all m ps)
names_each c d i j all m none r h = tt
names_each c d i j all m (skip ps) r h = absurd h
names_each c d i j all m (more (node l a b qs) ps) r h =
    let rest : List Event = events_of (pass c (node l a b qs)) kind.NameList i j all (suc m) ps in
    each_append (λ e. Listed e.name (a ∷ first_tokens ps)) (events (enter c kind.NameList i j all (ends_named all) m (node l a b qs) (is_more ps)) (node l a b qs)) rest
    (subst (λ (y : Kind). EachDeclared (λ e. Listed e.name (a ∷ first_tokens ps)) (events (enter c kind.NameList i j all (ends_named all) m (node y a b qs) (is_more ps)) (node y a b qs))) (sym h.0)
    (subst (λ zs. EachDeclared (λ e. Listed e.name (a ∷ first_tokens ps)) (events (enter c kind.NameList i j all (ends_named all) m (node kind.DeclaredName a b zs) (is_more ps)) (node kind.DeclaredName a b zs))) (sym h.1)
    (one_each (enter c kind.NameList i j all (ends_named all) m (node kind.DeclaredName a b none) (is_more ps)) d a b (first_tokens ps) r)))
    (each_map (λ e. Listed e.name (first_tokens ps)) (λ e. Listed e.name (a ∷ first_tokens ps)) rest (λ e q. inr q) (names_each (pass c (node l a b qs)) d i j all (suc m) ps r h.2))

-- ---- specifications

-- parts that declare nothing
rest_local : (Q : ℕ → Type 0) (k : Kind) (i j : ℕ) (all : Trees) → ((n : ℕ) → Q n → Q (suc n)) → ((c : Context) (named : Bool) (n : ℕ) (p : Tree) → Q n → NotNew (role_in c k i j named n p)) → (c : Context) (n : ℕ) (qs : Trees) → Q n
    → AreLayered (layer (kind.Specification declaring.Type)) qs → EachDeclared IsLocal (events_of c k i j all n qs)
rest_local Q k i j all up roles c n none q h = tt
rest_local Q k i j all up roles c n (skip qs) q h = rest_local Q k i j all up roles c (suc n) qs (up n q) h
rest_local Q k i j all up roles c n (more p qs) q h =
    each_append IsLocal (events (enter c k i j all (ends_named all) n p (is_more qs)) p) (events_of (pass c p) k i j all (suc n) qs)
    (plain_local (enter c k i j all (ends_named all) n p (is_more qs)) p h.0 (roles c (ends_named all) n p q))
    (rest_local Q k i j all up roles (pass c p) (suc n) qs (up n q) h.1)

abbrev IsBehind : ℕ → Type 0
IsBehind zero = ⊥
IsBehind (suc n) = Unit {0}

constant_roles : (i j : ℕ) (c : Context) (named : Bool) (n : ℕ) (p : Tree) → IsBehind n → NotNew (role_in c (kind.Specification declaring.Constant) i j named n p)
constant_roles i j c named zero p q = absurd q
constant_roles i j c named (suc n) p q = tt

variable_roles : (i j : ℕ) (c : Context) (named : Bool) (n : ℕ) (p : Tree) → IsBehind n → NotNew (role_in c (kind.Specification declaring.Variable) i j named n p)
variable_roles i j c named zero p q = absurd q
variable_roles i j c named (suc n) p q = tt

behind_next : (n : ℕ) → IsBehind n → IsBehind (suc n)
behind_next n q = tt

list_named : (c : Context) (d : Naming) (l : Kind) (i j : ℕ) (ns : Trees) → l ≡ kind.NameList → AreNames ns → c.role ≡ role.New d → EachDeclared (NamedIn (first_tokens ns)) (events c (node l i j ns))
list_named c d l i j ns e h r =
    subst (λ (y : Kind). EachDeclared (NamedIn (first_tokens ns)) (events c (node y i j ns))) (sym e)
    (told_each (NamedIn (first_tokens ns)) c kind.NameList i j ns tt
    (each_map (λ x. Listed x.name (first_tokens ns)) (NamedIn (first_tokens ns)) (events_of (begin c kind.NameList) kind.NameList i j ns 0 ns) (λ x q. λ b. q) (names_each (begin c kind.NameList) d i j ns 0 ns r h)))

constant_named : (c : Context) (i j : ℕ) (ps : Trees) → BeginsNamed ps → AreLayered (layer (kind.Specification declaring.Type)) ps → EachDeclared (NamedIn (name_tokens ps)) (events c (node (kind.Specification declaring.Constant) i j ps))
constant_named c i j none h g = told_each (NamedIn []) c (kind.Specification declaring.Constant) i j none tt tt
constant_named c i j (skip ps) h g =
    let k : Kind = kind.Specification declaring.Constant in
    told_each (NamedIn []) c k i j (skip ps) tt (all_named [] (events_of (begin c k) k i j (skip ps) 1 ps) (rest_local IsBehind k i j (skip ps) behind_next (constant_roles i j) (begin c k) 1 ps tt g))
constant_named c i j (more (node l a b ns) ps) h g =
    let k : Kind = kind.Specification declaring.Constant in
    let all : Trees = more (node l a b ns) ps in
    let f : Context = begin c k in
    let rest : List Event = events_of (pass f (node l a b ns)) k i j all 1 ps in
    told_each (NamedIn (first_tokens ns)) c k i j all tt
    (each_append (NamedIn (first_tokens ns)) (events (enter f k i j all (ends_named all) 0 (node l a b ns) (is_more ps)) (node l a b ns)) rest
    (list_named (enter f k i j all (ends_named all) 0 (node l a b ns) (is_more ps)) (specified f declaring.Constant i j) l a b ns h.0 h.1 refl)
    (all_named (first_tokens ns) rest (rest_local IsBehind k i j all behind_next (constant_roles i j) (pass f (node l a b ns)) 1 ps tt g.1)))

variable_named : (c : Context) (i j : ℕ) (ps : Trees) → BeginsNamed ps → AreLayered (layer (kind.Specification declaring.Type)) ps → EachDeclared (NamedIn (name_tokens ps)) (events c (node (kind.Specification declaring.Variable) i j ps))
variable_named c i j none h g = told_each (NamedIn []) c (kind.Specification declaring.Variable) i j none tt tt
variable_named c i j (skip ps) h g =
    let k : Kind = kind.Specification declaring.Variable in
    told_each (NamedIn []) c k i j (skip ps) tt (all_named [] (events_of (begin c k) k i j (skip ps) 1 ps) (rest_local IsBehind k i j (skip ps) behind_next (variable_roles i j) (begin c k) 1 ps tt g))
variable_named c i j (more (node l a b ns) ps) h g =
    let k : Kind = kind.Specification declaring.Variable in
    let all : Trees = more (node l a b ns) ps in
    let f : Context = begin c k in
    let rest : List Event = events_of (pass f (node l a b ns)) k i j all 1 ps in
    told_each (NamedIn (first_tokens ns)) c k i j all tt
    (each_append (NamedIn (first_tokens ns)) (events (enter f k i j all (ends_named all) 0 (node l a b ns) (is_more ps)) (node l a b ns)) rest
    (list_named (enter f k i j all (ends_named all) 0 (node l a b ns) (is_more ps)) (specified f declaring.Variable i j) l a b ns h.0 h.1 refl)
    (all_named (first_tokens ns) rest (rest_local IsBehind k i j all behind_next (variable_roles i j) (pass f (node l a b ns)) 1 ps tt g.1)))

abbrev Anywhere : ℕ → Type 0
Anywhere n = Unit {0}

type_named : (c : Context) (i j : ℕ) (ps : Trees) → AreLayered (layer (kind.Specification declaring.Type)) ps → EachDeclared (NamedIn (i ∷ [])) (events c (node (kind.Specification declaring.Type) i j ps))
type_named c i j ps g =
    let k : Kind = kind.Specification declaring.Type in
    told_each (NamedIn (i ∷ [])) c k i j ps (λ b. inl refl, tt)
    (all_named (i ∷ []) (events_of (begin c k) k i j ps 0 ps) (rest_local Anywhere k i j ps (λ n q. tt) (λ f named n p q. tt) (begin c k) 0 ps tt g))

specification_named : (c : Context) (n : ℕ) (s : Sort) (k : ℕ) (r : Option Tree) (i j : ℕ) (ps : Trees) → SpecifiesNames s ps → AreLayered (layer (kind.Specification declaring.Type)) ps
    → EachDeclared (NamedIn (specification_of n s k r (node (kind.Specification s) i j ps)).names) (events c (node (kind.Specification s) i j ps))
specification_named c n declaring.Constant k r i j ps h g = constant_named c i j ps h g
specification_named c n declaring.Variable k r i j ps h g = variable_named c i j ps h g
specification_named c n declaring.Type k r i j ps h g = type_named c i j ps g

first_of_them : (x : Specification) (xs : List Specification) (es : List Event) → EachDeclared (NamedIn x.names) es → EachDeclared (IsSpecified (x ∷ xs)) es
first_of_them x xs es h = each_map (NamedIn x.names) (IsSpecified (x ∷ xs)) es (λ d q. λ b. inl (q b)) h

others_of_them : (x : Specification) (xs : List Specification) (es : List Event) → EachDeclared (IsSpecified xs) es → EachDeclared (IsSpecified (x ∷ xs)) es
others_of_them x xs es h = each_map (IsSpecified xs) (IsSpecified (x ∷ xs)) es (λ d q. λ b. inr (q b)) h

any_append : (t : ℕ) (xs ys : List Specification) → AnyNamed t xs → AnyNamed t (xs ++ ys)
any_append t [] ys h = absurd h
any_append t (x ∷ xs) ys (inl h) = inl h
any_append t (x ∷ xs) ys (inr h) = inr (any_append t xs ys h)

any_behind : (t : ℕ) (xs ys : List Specification) → AnyNamed t ys → AnyNamed t (xs ++ ys)
any_behind t [] ys h = h
any_behind t (x ∷ xs) ys h = inr (any_behind t xs ys h)

locals_specified : (xs : List Specification) (es : List Event) → EachDeclared IsLocal es → EachDeclared (IsSpecified xs) es
locals_specified xs es h = each_map IsLocal (IsSpecified xs) es (λ d q. λ b. absurd (true_false (is_package d.block) b q)) h

-- ---- derivations

module _ (ts : List TokenKind) where
  one_specification : (c : Context) (n : ℕ) (s : Sort) (k : ℕ) (r : Option Tree) (p : Tree) → Specifies s p → AreLayered (layer (kind_of p)) (parts p) → EachDeclared (NamedIn (specification_of n s k r p).names) (events c p)
  one_specification c n s k r (node l i j ps) h g =
      subst (λ (y : Kind). EachDeclared (NamedIn (specification_of n s k r (node y i j ps)).names) (events c (node y i j ps))) (sym h.0)
      (specification_named c n s k r i j ps h.1 (subst (λ (y : Kind). AreLayered (layer y) ps) h.0 g))

  -- the parts of each declare nothing but its names
  abbrev AllLayered : Trees → Type 0
  AllLayered none = Unit {0}
  AllLayered (more p ps) = AreLayered (layer (kind_of p)) (parts p) × AllLayered ps
  AllLayered (skip ps) = AllLayered ps

  derived_layer : (s : Sort) (p : Tree) → Derives ts (category.Specification s) p → AreLayered (layer (kind_of p)) (parts p)
  derived_layer s (node k i j ps) h = derives_layered ts (node k i j ps) (category.Specification s) h

  rest_layered : (s : Sort) (ps : Trees) (i j : ℕ) → Goes ts (Lines false (category.Specification s) token.Semicolon token.RightParenthesis) i ps j → AllLayered ps
  rest_layered s none i j h = tt
  rest_layered s (more p ps) i j h = (derived_layer s p h.3, rest_layered s ps (last p) j h.4)
  rest_layered s (skip ps) i j h = absurd h

  all_layered : (s : Sort) (ps : Trees) (i j : ℕ) → Spells ts (Many (token.LeftParenthesis ∷ []) (Lines false (category.Specification s) token.Semicolon token.RightParenthesis)) i ps j → AllLayered ps
  all_layered s none i j h = tt
  all_layered s (more p ps) i j h = (derived_layer s p h.3, rest_layered s ps (last p) j h.4)
  all_layered s (skip ps) i j h = absurd h

  group_named : (c : Context) (l : Kind) (i j : ℕ) (all : Trees) (m n : ℕ) (s : Sort) (k : ℕ) (r : Option Tree) (ps : Trees) → AreSpecified s ps → AllLayered ps → EachDeclared (IsSpecified (grouped n s k r ps)) (events_of c l i j all m ps)
  group_named c l i j all m n s k r none h g = tt
  group_named c l i j all m n s k r (skip ps) h g = group_named c l i j all (suc m) n s k r ps h g
  group_named c l i j all m n s k r (more p ps) h g =
      let inner : Context = enter c l i j all (ends_named all) m p (is_more ps) in
      let own : List Event = events inner p in
      let rest : List Event = events_of (pass c p) l i j all (suc m) ps in
      let x : Specification = specification_of n s k r p in
      let xs : List Specification = grouped n s (suc k) (source_behind r p) ps in
      each_append (IsSpecified (x ∷ xs)) own rest (first_of_them x xs own (one_specification inner n s k r p h.0 g.0))
      (others_of_them x xs rest (group_named (pass c p) l i j all (suc m) n s (suc k) (source_behind r p) ps h.1 g.1))

  -- the body of a declaration
  body_named : (c : Context) (n : ℕ) (s : Sort) (b : Tree) → Derives ts (category.DeclarationBody s) b → EachDeclared (IsSpecified (declared n s (more b none))) (events c b)
  body_named c n s (node (kind.Specification t) i j ps) h =
      let same : t ≡ s = same_sort s t h.0 in
      let whole : Derives ts (category.DeclarationBody s) (node (kind.Specification s) i j ps) = subst (λ u. Derives ts (category.DeclarationBody s) (node (kind.Specification u) i j ps)) same h in
      first_of_them (specification_of n s 0 None (node (kind.Specification t) i j ps)) [] (events c (node (kind.Specification t) i j ps))
      (one_specification c n s 0 None (node (kind.Specification t) i j ps) (ap (λ u. kind.Specification u) same, body_names s i j ps whole)
      (derives_layered ts (node (kind.Specification t) i j ps) (category.DeclarationBody s) h))
    where
      body_names : (u : Sort) (a e : ℕ) (qs : Trees) → Derives ts (category.DeclarationBody u) (node (kind.Specification u) a e qs) → SpecifiesNames u qs
      body_names declaring.Constant a e qs g = begins_named ts _ qs a e g.1
      body_names declaring.Variable a e qs g = begins_named ts _ qs a e g.1
      body_names declaring.Type a e qs g = tt
  body_named c n s (node (kind.Group t) i j ps) h =
      let same : t ≡ s = same_sort s t h.0 in
      let g : Kind = kind.Group t in
      told_each (IsSpecified (grouped n s 0 None ps)) c g i j ps tt
      (group_named (begin c g) g i j ps 0 n s 0 None ps (subst (λ u. AreSpecified u ps) same (all_specified ts t ps i j h.1)) (all_layered t ps i j h.1))
  body_named c n s (node k i j ps) h = absurd (true_false false h.0 refl)

  body_declared : (c : Context) (n : ℕ) (s : Sort) (i j : ℕ) (ps : Trees) → Spells ts (Then (sort_word s ∷ []) (category.DeclarationBody s) (End [])) i ps j
      → EachDeclared (IsSpecified (declared n s ps)) (events_of c (kind.Declaration s) i j ps 0 ps)
  body_declared c n s i j none h = absurd h
  body_declared c n s i j (skip ps) h = absurd h
  body_declared c n s i j (more b (more q ps)) h = absurd h.2
  body_declared c n s i j (more b (skip ps)) h = absurd h.2
  body_declared c n s i j (more b none) h =
      let inner : Context = enter c (kind.Declaration s) i j (more b none) (ends_named (more b none)) 0 b false in
      each_append (IsSpecified (declared n s (more b none))) (events inner b) [] (body_named inner n s b h.1) tt

  -- a function: its signature and its body declare locals
  bodies_local : (c : Context) (i j : ℕ) (all : Trees) (n : ℕ) (qs : Trees) → AreLayered (layer kind.FunctionDeclaration) (skip qs) → AreInner qs → EachDeclared IsLocal (events_of c kind.FunctionDeclaration i j all n qs)
  bodies_local c i j all n none h g = tt
  bodies_local c i j all n (skip qs) h g = bodies_local c i j all (suc n) qs h g
  bodies_local c i j all n (more p qs) h g =
      each_append IsLocal (events (enter c kind.FunctionDeclaration i j all (ends_named all) n p (is_more qs)) p) (events_of (pass c p) kind.FunctionDeclaration i j all (suc n) qs)
      (opened_local (enter c kind.FunctionDeclaration i j all (ends_named all) n p (is_more qs)) p h.0 g.0)
      (bodies_local (pass c p) i j all (suc n) qs h.2 g.1)

  parts_local : (c : Context) (i j : ℕ) (all : Trees) (qs : Trees) → AreLayered (layer kind.FunctionDeclaration) qs → AreInner qs → EachDeclared IsLocal (events_of c kind.FunctionDeclaration i j all 0 qs)
  parts_local c i j all none h g = tt
  parts_local c i j all (skip qs) h g = bodies_local c i j all 1 qs h g
  parts_local c i j all (more p qs) h g =
      each_append IsLocal (events (enter c kind.FunctionDeclaration i j all (ends_named all) 0 p (is_more qs)) p) (events_of (pass c p) kind.FunctionDeclaration i j all 1 qs)
      (plain_local (enter c kind.FunctionDeclaration i j all (ends_named all) 0 p (is_more qs)) p h.0 tt)
      (bodies_local (pass c p) i j all 1 qs h.1 g.1)

  function_own : (b d : Bool) (i j : ℕ) → EachDeclared (NamedIn (suc i ∷ [])) (if b then function_events i j d else [])
  function_own true true i j = (λ q. inl refl, tt)
  function_own true false i j = (λ q. inl refl, tt)
  function_own false d i j = tt

  declaration_named : (c : Context) (n : ℕ) (t : Tree) → Derives ts category.Declaration t → EachDeclared (IsSpecified (declaration n t)) (events c t)
  declaration_named c n (node (kind.Declaration s) i j ps) h =
      let d : Kind = kind.Declaration s in
      told_each (IsSpecified (declared n s ps)) c d i j ps tt (body_declared (begin c d) n s i j ps h.1)
  declaration_named c n (node kind.FunctionDeclaration i j ps) h =
      let k : Kind = kind.FunctionDeclaration in
      let t : Tree = node k i j ps in
      let inner : AreInner ps = spells_inner ts ps (rule (categories.place_of category.Declaration) k) i j (function_rule (categories.place_of category.Declaration) k refl) h.1 in
      first_of_them (function n t i j ps) [] (events c t)
      (told_each (NamedIn (suc i ∷ [])) c k i j ps (function_own (nat_lt i j) (is_there (part_at ps 1)) i j)
      (all_named (suc i ∷ []) (events_of (begin c k) k i j ps 0 ps) (parts_local (begin c k) i j ps ps (derives_layered ts t category.Declaration h) inner)))
  declaration_named c n (node k i j ps) h = absurd (true_false false h.0 refl)

  -- ---- a file

  path_plain : (p : Tree) → Derives ts category.ImportPath p → IsPlain p
  path_plain (node kind.ImportPath i j none) h = (refl, tt)
  path_plain (node kind.ImportPath i j (more q qs)) h = absurd h.1
  path_plain (node kind.ImportPath i j (skip qs)) h = absurd h.1
  path_plain (node k i j ps) h = absurd (true_false false h.0 refl)

  paths_plain : (ps : Trees) (i j : ℕ) → Goes ts (Lines false category.ImportPath token.Semicolon token.RightParenthesis) i ps j → ArePlain ps
  paths_plain none i j h = tt
  paths_plain (more p ps) i j h = (path_plain p h.3, paths_plain ps (last p) j h.4)
  paths_plain (skip ps) i j h = absurd h

  group_plain : (ps : Trees) (i j : ℕ) → Spells ts (Many (token.LeftParenthesis ∷ []) (Lines false category.ImportPath token.Semicolon token.RightParenthesis)) i ps j → ArePlain ps
  group_plain none i j h = tt
  group_plain (more p ps) i j h = (path_plain p h.3, paths_plain ps (last p) j h.4)
  group_plain (skip ps) i j h = absurd h

  import_body_plain : (p : Tree) → Derives ts category.ImportBody p → IsPlain p
  import_body_plain (node kind.ImportPath i j none) h = (refl, tt)
  import_body_plain (node kind.ImportPath i j (more q qs)) h = absurd h.1
  import_body_plain (node kind.ImportPath i j (skip qs)) h = absurd h.1
  import_body_plain (node kind.ImportGroup i j ps) h = (refl, group_plain ps i j h.1)
  import_body_plain (node k i j ps) h = absurd (true_false false h.0 refl)

  import_plain : (p : Tree) → Derives ts category.Import p → IsPlain p
  import_plain (node kind.Import i j none) h = absurd h.1
  import_plain (node kind.Import i j (skip ps)) h = absurd h.1
  import_plain (node kind.Import i j (more p none)) h = (refl, (import_body_plain p h.1.1, tt))
  import_plain (node kind.Import i j (more p (more q ps))) h = absurd h.1.2
  import_plain (node kind.Import i j (more p (skip ps))) h = absurd h.1.2
  import_plain (node k i j ps) h = absurd (true_false false h.0 refl)

  more_imports : (ps : Trees) (i j : ℕ) → Goes ts (Each category.Import (token.Semicolon ∷ []) []) i ps j → ArePlain ps
  more_imports none i j h = tt
  more_imports (more p ps) i j h = (import_plain p h.3, more_imports ps (last p) j h.4)
  more_imports (skip ps) i j h = absurd h

  further_imports : (ps : Trees) (i j : ℕ) → Spells ts (Many (token.Semicolon ∷ []) (Each category.Import (token.Semicolon ∷ []) [])) i ps j → ArePlain ps
  further_imports none i j h = tt
  further_imports (more p ps) i j h = (import_plain p h.3, more_imports ps (last p) j h.4)
  further_imports (skip ps) i j h = absurd h

  imports_plain : (p : Tree) → Derives ts category.Imports p → IsPlain p
  imports_plain (node kind.Imports i j none) h = absurd h.1
  imports_plain (node kind.Imports i j (skip ps)) h = absurd h.1
  imports_plain (node kind.Imports i j (more p ps)) h = (refl, (import_plain p h.1.1, further_imports ps (last p) j h.1.2))
  imports_plain (node k i j ps) h = absurd (true_false false h.0 refl)

  -- the declarations of each part are by names of its specifications, in any context without a name to declare
  abbrev AllNamed : ℕ → Trees → Type 0
  AllNamed n none = Unit {0}
  AllNamed n (more p ps) = ((c : Context) → NotNew c.role → EachDeclared (IsSpecified (declaration n p)) (events c p)) × AllNamed n ps
  AllNamed n (skip ps) = AllNamed n ps

  row_named : (c : Context) (i j : ℕ) (all : Trees) (m n : ℕ) (ps : Trees) → AllNamed n ps → EachDeclared (IsSpecified (declarations n ps)) (events_of c kind.File i j all m ps)
  row_named c i j all m n none h = tt
  row_named c i j all m n (skip ps) h = row_named c i j all (suc m) n ps h
  row_named c i j all m n (more p ps) h =
      let inner : Context = enter c kind.File i j all (ends_named all) m p (is_more ps) in
      let own : List Event = events inner p in
      let rest : List Event = events_of (pass c p) kind.File i j all (suc m) ps in
      let xs : List Specification = declaration n p in
      let ys : List Specification = declarations n ps in
      each_append (IsSpecified (xs ++ ys)) own rest
      (each_map (IsSpecified xs) (IsSpecified (xs ++ ys)) own (λ d q. λ b. any_append d.name xs ys (q b)) (h.0 inner tt))
      (each_map (IsSpecified ys) (IsSpecified (xs ++ ys)) rest (λ d q. λ b. any_behind d.name xs ys (q b)) (row_named (pass c p) i j all (suc m) n ps h.1))

  goes_named : (n : ℕ) (ps : Trees) (i j : ℕ) → Goes ts (Each category.Declaration (token.Semicolon ∷ []) []) i ps j → AllNamed n ps
  goes_named n none i j h = tt
  goes_named n (more p ps) i j h = (λ c r. declaration_named c n p h.3, goes_named n ps (last p) j h.4)
  goes_named n (skip ps) i j h = absurd h

  many_named : (n : ℕ) (ps : Trees) (i j : ℕ) → Spells ts (Many [] (Each category.Declaration (token.Semicolon ∷ []) [])) i ps j → AllNamed n ps
  many_named n none i j h = tt
  many_named n (more p ps) i j h = (λ c r. declaration_named c n p h.3, goes_named n ps (last p) j h.4)
  many_named n (skip ps) i j h = absurd h

  parts_named : (n i j : ℕ) (ps : Trees) → Derives ts category.File (node kind.File i j ps) → AllNamed n ps
  parts_named n i j none h = absurd h.1
  parts_named n i j (skip ps) h = many_named n ps h.1.0 j h.1.2
  parts_named n i j (more p ps) h =
      (λ c r. locals_specified (declaration n p) (events c p) (plain_local c p (imports_plain p h.1.1) r), many_named n ps (last p) j h.1.2)

  -- each declaration of the package block is by a name of a specification
  pub file_named : (n : ℕ) (t : Tree) → IsFile ts t → EachDeclared (IsSpecified (in_file n t)) (events (file_context (last t)) t)
  file_named n (node kind.File i j ps) f =
      let c : Context = file_context j in
      told_each (IsSpecified (declarations n ps)) c kind.File i j ps tt (row_named (begin c kind.File) i j ps 0 n ps (parts_named n i j ps f.derives))
  file_named n (node k i j ps) f = absurd (true_false false f.derives.0 refl)
