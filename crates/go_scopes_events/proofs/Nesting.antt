-- The scopes of declarations lie behind those of earlier ones, or inside them.
use Rattle.std.proofs.Common.{◌≡◌, ℕ, zero, suc, ◌<◌, ◌≤◌, ◌⊎◌, inl, inr, Bool, true, false, List, [], ◌∷◌, ◌++◌, Option, Some, None, refl, sym, ap, ◌∙◌, subst, arith}
use Rattle.std.specs.Prelude.{nat_lt, if◌then◌else◌, ◌||◌}
use Rattle.go_grammar.specs.declared.kind.Kind.{Kind}
use Rattle.go_grammar.specs.declared.kind.Kind.TheVariants as kind
use Rattle.go_grammar.specs.declared.kind.Sort.TheVariants as sort
use Rattle.go_grammar.specs.Trees.{Tree, node, Trees, none, more, skip, kind_of, first, last}
use Rattle.go_grammar.specs.Grammar.{is_name, ends_named}
use Rattle.go_tree.specs.Views.{part_at}
use Rattle.go_tree.specs.declared.context.Block.{Block}
use Rattle.go_tree.specs.declared.context.Block.TheVariants as block
use Rattle.go_tree.specs.declared.context.Entity.{Entity}
use Rattle.go_tree.specs.declared.context.Entity.TheVariants as entity
use Rattle.go_tree.specs.declared.context.Scope.{Scope}
use Rattle.go_tree.specs.declared.context.Role.{Role}
use Rattle.go_tree.specs.declared.context.Role.TheVariants as role
use Rattle.go_tree.specs.declared.context.Context.{Context}
use Rattle.go_tree.specs.declared.event.Declaration.{Declaration}
use Rattle.go_tree.specs.declared.event.Event.{Event}
use Rattle.go_tree.specs.declared.event.Event.TheVariants as event
use Rattle.go_tree.specs.Contexts.{is_there, file_context, opens, end_in, enter, role_in, parameters_in, body_scope, called_in, if_name, if_first, field_role, key_role, parameter_role, entry_role}
use Rattle.go_tree.specs.Events.{statement_events, own_events, name_events, function_events, misplaced, is_default, default_events, second_defaults, is_more, pass, begin, events, events_of}
use Rattle.go_scopes_events.specs.Orders.{EachDeclared, Nests, ScopesNest, BeginsAt, BeginsIn, IsFollowed}
use Rattle.go_scopes_events.proofs.Rising.{behind_name, IsLaidOut, LieIn, laid_grows, lie_order}
use Rattle.go_scopes_events.proofs.Layers.{Naming as NamingLayer, Function, Body, Holding, layer, IsPlain, ArePlain, IsLayered, AreLayered, layered_naming}

pub each_append : (Q : Declaration → Type 0) (es fs : List Event) → EachDeclared Q es → EachDeclared Q fs → EachDeclared Q (es ++ fs)
each_append Q [] fs h g = g
each_append Q (event.Declaration d ∷ es) fs h g = (h.0, each_append Q es fs h.1 g)
each_append Q (e ∷ es) fs h g = each_append Q es fs h g

pub each_map : (Q R : Declaration → Type 0) (es : List Event) → ((d : Declaration) → Q d → R d) → EachDeclared Q es → EachDeclared R es
each_map Q R [] f h = tt
each_map Q R (event.Declaration d ∷ es) f h = (f d h.0, each_map Q R es f h.1)
each_map Q R (e ∷ es) f h = each_map Q R es f h

-- Declarations of a tree from i up to j, in a block that ends at e: a scope ends within the tree, or it ends with the block
-- and begins no later than the tree ends.
pub record Lies (i j e : ℕ) (d : Declaration) : Type 0 where
  begins : i ≤ d.scope.from
  pub ends : (d.scope.to ≤ j) ⊎ ((d.scope.to ≡ e) × (d.scope.from ≤ j))
  follows : IsFollowed d

-- declarations that lie so, each behind or inside the earlier ones
pub record AreNested (i j e : ℕ) (es : List Event) : Type 0 where
  pub lie : EachDeclared (Lies i j e) es
  pub nest : ScopesNest es

wider : (i j k l e : ℕ) (d : Declaration) → k ≤ i → j ≤ l → Lies i j e d → Lies k l e d
wider i j k l e d a b h = record { begins = omega (arith, h.begins); ends = ends_by h.ends; follows = h.follows }
  where
    ends_by : (d.scope.to ≤ j) ⊎ ((d.scope.to ≡ e) × (d.scope.from ≤ j)) → (d.scope.to ≤ l) ⊎ ((d.scope.to ≡ e) × (d.scope.from ≤ l))
    ends_by (inl x) = inl (omega (arith, x, b))
    ends_by (inr x) = inr (x.0, omega (arith, x.1, b))

-- what a block holds ends within it
closed : (i j e : ℕ) (d : Declaration) → Lies i j j d → Lies i j e d
closed i j e d h = record { begins = h.begins; ends = ends_by h.ends; follows = h.follows }
  where
    ends_by : (d.scope.to ≤ j) ⊎ ((d.scope.to ≡ j) × (d.scope.from ≤ j)) → (d.scope.to ≤ j) ⊎ ((d.scope.to ≡ e) × (d.scope.from ≤ j))
    ends_by (inl x) = inl x
    ends_by (inr x) = inl (omega (arith, x.0))

-- one that is told later in the same block
behind : (i k j e : ℕ) (d x : Declaration) → j ≤ e → Lies i k e d → Lies k j e x → Nests d.scope x.scope
behind i k j e d x le h g = by h.ends g.ends
  where
    by : (d.scope.to ≤ k) ⊎ ((d.scope.to ≡ e) × (d.scope.from ≤ k)) → (x.scope.to ≤ j) ⊎ ((x.scope.to ≡ e) × (x.scope.from ≤ j)) → Nests d.scope x.scope
    by (inl a) b = inl (omega (arith, a, g.begins))
    by (inr a) (inl b) = inr (omega (arith, a.1, g.begins), omega (arith, a.0, b, le))
    by (inr a) (inr b) = inr (omega (arith, a.1, g.begins), omega (arith, a.0, b.0))

nest_append : (i k j e : ℕ) (es fs : List Event) → j ≤ e → EachDeclared (Lies i k e) es → ScopesNest es → EachDeclared (Lies k j e) fs → ScopesNest fs → ScopesNest (es ++ fs)
nest_append i k j e [] fs le h n g m = m
nest_append i k j e (event.Declaration d ∷ es) fs le h n g m =
    (each_append (λ x. Nests d.scope x.scope) es fs n.0 (each_map (Lies k j e) (λ x. Nests d.scope x.scope) fs (λ x. behind i k j e d x le h.0) g), nest_append i k j e es fs le h.1 n.1 g m)
nest_append i k j e (x ∷ es) fs le h n g m = nest_append i k j e es fs le h n g m

nested_append : (i k j e : ℕ) (es fs : List Event) → i ≤ k → k ≤ j → j ≤ e → AreNested i k e es → AreNested k j e fs → AreNested i j e (es ++ fs)
nested_append i k j e es fs a b le h g = record {
  lie = each_append (Lies i j e) es fs (each_map (Lies i k e) (Lies i j e) es (λ d. wider i k i j e d (omega arith) b) h.lie) (each_map (Lies k j e) (Lies i j e) fs (λ d. wider k j i j e d a (omega arith)) g.lie);
  nest = nest_append i k j e es fs le h.lie h.nest g.lie g.nest;
}

nested_wider : (i j k l e : ℕ) (es : List Event) → k ≤ i → j ≤ l → AreNested i j e es → AreNested k l e es
nested_wider i j k l e es a b h = record { lie = each_map (Lies i j e) (Lies k l e) es (λ d. wider i j k l e d a b) h.lie; nest = h.nest }

nested_closed : (i j e : ℕ) (es : List Event) → AreNested i j j es → AreNested i j e es
nested_closed i j e es h = record { lie = each_map (Lies i j j) (Lies i j e) es (closed i j e) h.lie; nest = h.nest }

-- No scope but the one that may be given.
pub record IsOnly (o : Option Scope) (d : Declaration) : Type 0 where
  pub same : Some d.scope ≡ o
  pub follows : IsFollowed d

same_nest : (r s : Scope) → r ≡ s → Nests r s
same_nest r s e = let f : r.from ≡ s.from = ap (λ x. x.from) e in let t : r.to ≡ s.to = ap (λ x. x.to) e in inr (omega (arith, f), omega (arith, t))

pub some_is : (r s : Scope) → Some r ≡ Some s → r ≡ s
some_is r s e = cc

only_nest : (o : Option Scope) (es : List Event) → EachDeclared (IsOnly o) es → ScopesNest es
only_nest o [] h = tt
only_nest o (event.Declaration d ∷ es) h = (each_map (IsOnly o) (λ x. Nests d.scope x.scope) es (λ x g. same_nest d.scope x.scope (some_is d.scope x.scope (h.0.same ∙ sym g.same))) h.1, only_nest o es h.1)
only_nest o (e ∷ es) h = only_nest o es h

-- where such a scope lies
abbrev LiesAt : ℕ → ℕ → ℕ → Option Scope → Type 0
LiesAt i j e None = Unit
LiesAt i j e (Some s) = (i ≤ s.from) × ((s.to ≤ j) ⊎ ((s.to ≡ e) × (s.from ≤ j)))

only_lies : (i j e : ℕ) (o : Option Scope) (d : Declaration) → LiesAt i j e o → IsOnly o d → Lies i j e d
only_lies i j e None d h g = let no : Some d.scope ≡ None = g.same in absurd cc
only_lies i j e (Some s) d h g =
    let is : d.scope ≡ s = some_is d.scope s g.same in
    let at : (i ≤ d.scope.from) × ((d.scope.to ≤ j) ⊎ ((d.scope.to ≡ e) × (d.scope.from ≤ j))) = subst (λ x. (i ≤ x.from) × ((x.to ≤ j) ⊎ ((x.to ≡ e) × (x.from ≤ j)))) (sym is) h in
    record { begins = at.0; ends = at.1; follows = g.follows }

only_nested : (i j e : ℕ) (o : Option Scope) (es : List Event) → LiesAt i j e o → EachDeclared (IsOnly o) es → AreNested i j e es
only_nested i j e o es h g = record { lie = each_map (IsOnly o) (Lies i j e) es (λ d. only_lies i j e o d h) g; nest = only_nest o es g }

-- what a role gives
abbrev pub ScopeGives : Option Scope → Option Scope → Type 0
ScopeGives o None = Unit
ScopeGives o (Some s) = Some s ≡ o

abbrev pub IsValue : Entity → Type 0
IsValue entity.Type = ⊥
IsValue entity.Function = ⊥
IsValue e = Unit

abbrev pub RoleGives : Option Scope → Role → Type 0
RoleGives o (role.New d) = (Some d.scope ≡ o) × IsValue d.entity
RoleGives o (role.Parameter g s) = ScopeGives o s
RoleGives o r = Unit

-- The scope begins at the token j or behind it.
abbrev pub BeginsBehind : Option Scope → ℕ → Type 0
BeginsBehind None j = Unit
BeginsBehind (Some s) j = (j ≤ s.from) × (s.from ≤ s.to)

pub behind_less : (o : Option Scope) (j k : ℕ) → k ≤ j → BeginsBehind o j → BeginsBehind o k
behind_less None j k le h = tt
behind_less (Some s) j k le h = (omega (arith, h.0, le), h.1)

value_begins : (e : Entity) (i n : ℕ) → IsValue e → i < n → BeginsAt e i n
value_begins entity.Type i n v lt = absurd v
value_begins entity.Function i n v lt = absurd v
value_begins e i n v lt = lt

begins_in : (b : Block) (e : Entity) (i n : ℕ) → BeginsAt e i n → BeginsIn b e i n
begins_in block.Package e i n h = tt
begins_in (block.Local j) e i n h = h

given_follows : (b : Block) (e : Entity) (i j : ℕ) (s : Scope) (o : Option Scope) → Some s ≡ o → IsValue e → i < j → BeginsBehind o j → BeginsIn b e i s.from × (s.from ≤ s.to)
given_follows b e i j s None same v lt h = absurd cc
given_follows b e i j s (Some r) same v lt h =
    let at : (j ≤ s.from) × (s.from ≤ s.to) = subst (λ x. (j ≤ x.from) × (x.from ≤ x.to)) (sym (some_is s r same)) h in
    (begins_in b e i s.from (value_begins e i s.from v (omega (arith, lt, at.0))), at.1)

name_only : (o : Option Scope) (c : Context) (i j : ℕ) (r : Role) → i < j → BeginsBehind o j → RoleGives o r → EachDeclared (IsOnly o) (name_events c i r)
name_only o c i j (role.New d) lt h g = (record { same = g.0; follows = given_follows c.block d.entity i j d.scope o g.0 g.1 lt h }, tt)
name_only o c i j (role.Parameter g None) lt h s = tt
name_only o c i j (role.Parameter g (Some s)) lt h e = (record { same = e; follows = given_follows (block.Local s.from) entity.Parameter i j s o e tt lt h }, tt)
name_only o c i j r lt h g = tt

pub statement_each : (Q : Declaration → Type 0) (b : Bool) (i j : ℕ) → EachDeclared Q (statement_events b i j)
statement_each Q true i j = tt
statement_each Q false i j = tt

pub misplaced_each : (Q : Declaration → Type 0) (b : Bool) (i j : ℕ) → EachDeclared Q (misplaced b i j)
misplaced_each Q true i j = tt
misplaced_each Q false i j = tt

default_each : (Q : Declaration → Type 0) (d b : Bool) (word : ℕ) → EachDeclared Q (default_events d b word)
default_each Q true true word = tt
default_each Q true false word = tt
default_each Q false b word = tt

pub second_each : (Q : Declaration → Type 0) (b : Bool) (ps : Trees) → EachDeclared Q (second_defaults b ps)
second_each Q b none = tt
second_each Q b (skip ps) = second_each Q b ps
second_each Q b (more p ps) = each_append Q (default_events (is_default (kind_of p)) b (first p)) (second_defaults (b || is_default (kind_of p)) ps) (default_each Q (is_default (kind_of p)) b (first p)) (second_each Q (b || is_default (kind_of p)) ps)

pub own_only : (o : Option Scope) (c : Context) (k : Kind) (i j : ℕ) (ps : Trees) → layer k ≡ Holding → i < j → BeginsBehind o j → RoleGives o c.role → EachDeclared (IsOnly o) (own_events c k i j ps)
own_only o c kind.FunctionDeclaration i j ps x lt h g = let no : Function ≡ Holding = x in absurd cc
own_only o c (kind.Specification s) i j ps x lt h g = let no : NamingLayer ≡ Holding = x in absurd cc
own_only o c kind.DeclaredName i j ps x lt h g = name_only o c i j c.role lt h g
own_only o c kind.Name i j ps x lt h g = name_only o c i j c.role lt h g
own_only o c kind.Switch i j ps x lt h g = second_each (IsOnly o) false ps
own_only o c kind.Break i j ps x lt h g = misplaced_each (IsOnly o) c.breaks i j
own_only o c kind.Continue i j ps x lt h g = misplaced_each (IsOnly o) c.continues i j
own_only o c kind.Fallthrough i j ps x lt h g = misplaced_each (IsOnly o) c.falls i j
own_only o c k i j ps x lt h g = tt

-- what the parts of a node are given
pub record Given (o : Option Scope) (c : Context) (k : Kind) (i j : ℕ) (ps : Trees) : Type 0 where
  pub role : (s : Option ℕ) (n : ℕ) (p : Tree) → RoleGives o (role_in (record c { source = s }) k i j (ends_named ps) n p)
  pub parameters : (n : ℕ) (p : Tree) → ScopeGives o (parameters_in c k j ps n p)

if_gives : (o : Option Scope) (p : Tree) (r : Role) → RoleGives o r → RoleGives o (if_name p r)
if_gives o p r h = elim (is_name (kind_of p)) as (λ b. RoleGives o (if b then r else role.Operand)) [ true ↦ h | false ↦ tt ]

first_gives : (o : Option Scope) (n : ℕ) (r : Role) → RoleGives o r → RoleGives o (if_first n r)
first_gives o zero r h = h
first_gives o (suc n) r h = tt

called_gives : (o : Option Scope) (r : Role) → RoleGives o (called_in r)
called_gives o role.Called = tt
called_gives o r = tt

entry_gives : (o : Option Scope) (named : Bool) (p : Tree) (group : ℕ) (s : Option Scope) → ScopeGives o s → RoleGives o (entry_role named p group s)
entry_gives o true p group s h = if_gives o p (role.Parameter group s) h
entry_gives o false p group s h = tt

field_gives : (o : Option Scope) (group : Option ℕ) → RoleGives o (field_role group)
field_gives o None = tt
field_gives o (Some g) = tt

key_gives : (o : Option Scope) (group : Option ℕ) → RoleGives o (key_role group)
key_gives o None = tt
key_gives o (Some g) = tt

parameter_gives : (o : Option Scope) (group : Option ℕ) (s : Option Scope) → ScopeGives o s → RoleGives o (parameter_role group s)
parameter_gives o None s h = tt
parameter_gives o (Some g) s h = h

role_given : (o : Option Scope) (c : Context) (k : Kind) (i j : ℕ) (named : Bool) (n : ℕ) (p : Tree) → layer k ≡ Holding → RoleGives o c.role → ScopeGives o c.parameters → RoleGives o (role_in c k i j named n p)
role_given o c (kind.Specification z) i j named n p x r s = let no : NamingLayer ≡ Holding = x in absurd cc
role_given o c kind.Define i j named n p x r s = let no : NamingLayer ≡ Holding = x in absurd cc
role_given o c kind.DefiningRange i j named n p x r s = let no : NamingLayer ≡ Holding = x in absurd cc
role_given o c kind.NameList i j named n p x r s = r
role_given o c kind.NewNames i j named n p x r s = r
role_given o c kind.ExpressionList i j named n p x r s = if_gives o p c.role r
role_given o c kind.Call i j named n p x r s = first_gives o n role.Called tt
role_given o c kind.Parenthesized i j named n p x r s = called_gives o c.role
role_given o c kind.Selector i j named n p x r s = if_gives o p (role.Selected j _) tt
role_given o c kind.Fields i j named n p x r s = first_gives o n (field_role c.group) (field_gives o c.group)
role_given o c kind.Keyed i j named n p x r s = first_gives o n (key_role c.group) (key_gives o c.group)
role_given o c kind.Parameters i j named n p x r s = entry_gives o named p i c.parameters s
role_given o c kind.Parameter i j named n p x r s = first_gives o n (parameter_role c.group c.parameters) (parameter_gives o c.group c.parameters s)
role_given o c k i j named n p x r s = tt

parameters_given : (o : Option Scope) (c : Context) (k : Kind) (j : ℕ) (ps : Trees) (n : ℕ) (p : Tree) → layer k ≡ Holding → ScopeGives o c.parameters → ScopeGives o (parameters_in c k j ps n p)
parameters_given o c kind.FunctionDeclaration j ps n p x s = let no : Function ≡ Holding = x in absurd cc
parameters_given o c kind.FunctionType j ps n p x s = tt
parameters_given o c k j ps n p x s = s

pub holding_given : (o : Option Scope) (c : Context) (k : Kind) (i j : ℕ) (ps : Trees) → layer k ≡ Holding → RoleGives o c.role → ScopeGives o c.parameters → Given o c k i j ps
holding_given o c k i j ps x r s = record { role = λ z n p. role_given o (record c { source = z }) k i j (ends_named ps) n p x r s; parameters = λ n p. parameters_given o c k j ps n p x s }

mutual
  -- a tree without declarations declares what its role gives
  pub plain_only : (o : Option Scope) (c : Context) (t : Tree) → IsPlain t → IsLaidOut t → BeginsBehind o (last t) → RoleGives o c.role → ScopeGives o c.parameters → EachDeclared (IsOnly o) (events c t)
  plain_only o c (node k i j ps) x h b r s =
      each_append (IsOnly o) (statement_events c.listed i j ++ own_events c k i j ps) (events_of (begin c k) k i j ps 0 ps)
      (each_append (IsOnly o) (statement_events c.listed i j) (own_events c k i j ps) (statement_each (IsOnly o) c.listed i j) (own_only o c k i j ps x.0 h.0 b r))
      (parts_only o (begin c k) k i j ps 0 ps (behind_name k i) x.1 h.1 b (holding_given o (begin c k) k i j ps x.0 r s))

  pub parts_only : (o : Option Scope) (c : Context) (k : Kind) (i j : ℕ) (ps : Trees) (n : ℕ) (qs : Trees) (a : ℕ) → ArePlain qs → LieIn a j qs → BeginsBehind o j → Given o c k i j ps → EachDeclared (IsOnly o) (events_of c k i j ps n qs)
  parts_only o c k i j ps n none a x h b g = tt
  parts_only o c k i j ps n (more p qs) a x h b g =
      each_append (IsOnly o) (events (enter c k i j ps (ends_named ps) n p (is_more qs)) p) (events_of (pass c p) k i j ps (suc n) qs)
      (plain_only o (enter c k i j ps (ends_named ps) n p (is_more qs)) p x.0 h.1 (behind_less o j (last p) (lie_order (last p) j qs h.2) b) (g.role c.source n p) (g.parameters n p))
      (parts_only o (pass c p) k i j ps (suc n) qs (last p) x.1 h.2 b (record { role = g.role; parameters = g.parameters }))
  parts_only o c k i j ps n (skip qs) a x h b g = parts_only o c k i j ps (suc n) qs a x h b g

any_gives : (o s : Option Scope) → ScopeGives None s → ScopeGives o s
any_gives o None h = tt
any_gives o (Some s) h = absurd cc

-- the scope of the names of a specification or a definition
abbrev pub behind_scope : ℕ → ℕ → Option Scope
behind_scope j e = Some (record { from = j; to = e })

naming_role : (c : Context) (k : Kind) (i j : ℕ) (named : Bool) (n : ℕ) (p : Tree) → layer k ≡ NamingLayer → RoleGives (behind_scope j c.end) (role_in c k i j named n p)
naming_role c (kind.Specification sort.Constant) i j named zero p x = (refl, tt)
naming_role c (kind.Specification sort.Constant) i j named (suc n) p x = tt
naming_role c (kind.Specification sort.Type) i j named n p x = tt
naming_role c (kind.Specification sort.Variable) i j named zero p x = (refl, tt)
naming_role c (kind.Specification sort.Variable) i j named (suc n) p x = tt
naming_role c kind.Define i j named zero p x = (refl, tt)
naming_role c kind.Define i j named (suc n) p x = tt
naming_role c kind.DefiningRange i j named zero p x = (refl, tt)
naming_role c kind.DefiningRange i j named (suc n) p x = tt
naming_role c k i j named n p x = absurd cc

naming_parameters : (o : Option Scope) (c : Context) (k : Kind) (j : ℕ) (ps : Trees) (n : ℕ) (p : Tree) → layer k ≡ NamingLayer → ScopeGives None c.parameters → ScopeGives o (parameters_in c k j ps n p)
naming_parameters o c kind.FunctionDeclaration j ps n p x s = absurd cc
naming_parameters o c kind.FunctionType j ps n p x s = tt
naming_parameters o c k j ps n p x s = any_gives o c.parameters s

pub naming_given : (c : Context) (k : Kind) (i j : ℕ) (ps : Trees) → layer k ≡ NamingLayer → ScopeGives None c.parameters → Given (behind_scope j c.end) c k i j ps
naming_given c k i j ps x s = record { role = λ z n p. naming_role (record c { source = z }) k i j (ends_named ps) n p x; parameters = λ n p. naming_parameters (behind_scope j c.end) c k j ps n p x s }

nested_none : (i j e : ℕ) → AreNested i j e []
nested_none i j e = record { lie = tt; nest = tt }

naming_own : (c : Context) (k : Kind) (i j : ℕ) (ps : Trees) (e : ℕ) → layer k ≡ NamingLayer → i < j → j ≤ e → c.end ≡ e → AreNested i (behind_name k i) e (own_events c k i j ps)
naming_own c (kind.Specification sort.Constant) i j ps e x lt le end = nested_none i i e
naming_own c (kind.Specification sort.Type) i j ps e x lt le end = record {
  lie = (record { begins = omega arith; ends = inr (end, omega arith); follows = (begins_in c.block entity.Type i i refl, omega (arith, lt, le, end)) }, tt);
  nest = (tt, tt);
}
naming_own c (kind.Specification sort.Variable) i j ps e x lt le end = nested_none i i e
naming_own c kind.Define i j ps e x lt le end = nested_none i i e
naming_own c kind.DefiningRange i j ps e x lt le end = nested_none i i e
naming_own c k i j ps e x lt le end = absurd cc

function_nested_own : (i j : ℕ) (b : Bool) → i < j → AreNested i (suc (suc i)) j (function_events i j b)
function_nested_own i j true lt = record { lie = (record { begins = omega arith; ends = inr (refl, omega arith); follows = (tt, omega (arith, lt)) }, tt); nest = (tt, tt) }
function_nested_own i j false lt = record { lie = (record { begins = omega arith; ends = inr (refl, omega arith); follows = (tt, omega (arith, lt)) }, tt); nest = (tt, tt) }

declaration_nested : (b : Bool) (i j : ℕ) (ps : Trees) → i < j → AreNested i (suc (suc i)) j (if b then function_events i j (is_there (part_at ps 1)) else [])
declaration_nested true i j ps lt = function_nested_own i j (is_there (part_at ps 1)) lt
declaration_nested false i j ps lt = nested_none i (suc (suc i)) j

name_behind : (k : Kind) (i : ℕ) → i ≤ behind_name k i
name_behind kind.FunctionDeclaration i = omega arith
name_behind (kind.Specification sort.Type) i = omega arith
name_behind kind.DeclaredName i = omega arith
name_behind kind.Name i = omega arith
name_behind k i = omega arith

statement_nested : (b : Bool) (i j e : ℕ) → AreNested i i e (statement_events b i j)
statement_nested true i j e = record { lie = tt; nest = tt }
statement_nested false i j e = record { lie = tt; nest = tt }

-- what a node tells, by what it tells itself and what its parts tell
told_nested : (c : Context) (k : Kind) (i j : ℕ) (ps : Trees) (e : ℕ) → behind_name k i ≤ j → j ≤ e → AreNested i (behind_name k i) e (own_events c k i j ps) → AreNested (behind_name k i) j e (events_of (begin c k) k i j ps 0 ps) → AreNested i j e (events c (node k i j ps))
told_nested c k i j ps e a le own parts =
    nested_append i (behind_name k i) j e (statement_events c.listed i j ++ own_events c k i j ps) (events_of (begin c k) k i j ps 0 ps) (name_behind k i) a le
    (nested_append i i (behind_name k i) e (statement_events c.listed i j) (own_events c k i j ps) (omega arith) (name_behind k i) (omega (arith, a, le)) (statement_nested c.listed i j e) own)
    parts

naming_case : (c : Context) (k : Kind) (i j : ℕ) (ps : Trees) (e : ℕ) → layer k ≡ NamingLayer → ArePlain ps → i < j → LieIn (behind_name k i) j ps → ScopeGives None c.parameters → j ≤ e → c.end ≡ e → AreNested i j e (events c (node k i j ps))
naming_case c k i j ps e x plain lt h s le end =
    let order : behind_name k i ≤ j = lie_order (behind_name k i) j ps h in
    told_nested c k i j ps e order le (naming_own c k i j ps e x lt le end)
    (only_nested (behind_name k i) j e (behind_scope j c.end) (events_of (begin c k) k i j ps 0 ps) (order, inr (end, omega arith))
    (parts_only (behind_scope j c.end) (begin c k) k i j ps 0 ps (behind_name k i) plain h (omega arith, omega (arith, le, end)) (naming_given (begin c k) k i j ps x s)))

end_bound : (b : Bool) (j n e : ℕ) → (b ≡ false → n ≡ e) → j ≤ e → j ≤ (if b then j else n)
end_bound true j n e f le = omega arith
end_bound false j n e f le = omega (arith, le, f refl)

end_nested : (b : Bool) (i j n e : ℕ) (es : List Event) → (b ≡ false → n ≡ e) → AreNested i j (if b then j else n) es → AreNested i j e es
end_nested true i j n e es f h = nested_closed i j e es h
end_nested false i j n e es f h = subst (λ m. AreNested i j m es) (f refl) h

holding_case : (c : Context) (k : Kind) (i j : ℕ) (ps : Trees) (e : ℕ) → layer k ≡ Holding → i < j → LieIn (behind_name k i) j ps → RoleGives None c.role → j ≤ e → (opens k ≡ false → c.end ≡ e) → AreNested (behind_name k i) j (end_in c k j) (events_of (begin c k) k i j ps 0 ps) → AreNested i j e (events c (node k i j ps))
holding_case c k i j ps e x lt h r le f parts =
    end_nested (opens k) i j c.end e (events c (node k i j ps)) f
    (told_nested c k i j ps (end_in c k j) (lie_order (behind_name k i) j ps h) (end_bound (opens k) j c.end e f le)
    (only_nested i (behind_name k i) (end_in c k j) None (own_events c k i j ps) tt (own_only None c k i j ps x lt tt r))
    parts)

function_case : (c : Context) (i j : ℕ) (ps : Trees) (e : ℕ) → i < j → LieIn (suc (suc i)) j ps → AreNested (suc (suc i)) j j (events_of (begin c kind.FunctionDeclaration) kind.FunctionDeclaration i j ps 0 ps) → AreNested i j e (events c (node kind.FunctionDeclaration i j ps))
function_case c i j ps e lt h parts =
    nested_closed i j e (events c (node kind.FunctionDeclaration i j ps))
    (told_nested c kind.FunctionDeclaration i j ps j (lie_order (suc (suc i)) j ps h) (omega arith) (declaration_nested (nat_lt i j) i j ps lt) parts)

by_layer : (c : Context) (k : Kind) (i j : ℕ) (ps : Trees) (e : ℕ) → AreLayered (layer k) ps → i < j → LieIn (behind_name k i) j ps → RoleGives None c.role → ScopeGives None c.parameters → j ≤ e → (opens k ≡ false → c.end ≡ e) → (layer k ≡ Holding → AreLayered Holding ps → AreNested (behind_name k i) j (end_in c k j) (events_of (begin c k) k i j ps 0 ps)) → ((a : ℕ) → AreLayered Function ps → LieIn a j ps → AreNested a j j (events_of (begin c kind.FunctionDeclaration) kind.FunctionDeclaration i j ps 0 ps)) → AreNested i j e (events c (node k i j ps))
by_layer c kind.FunctionDeclaration i j ps e x lt h r s le f hold function = function_case c i j ps e lt h (function (suc (suc i)) x h)
by_layer c (kind.Specification z) i j ps e x lt h r s le f hold function = naming_case c (kind.Specification z) i j ps e refl (layered_naming ps x) lt h s le (f refl)
by_layer c kind.Define i j ps e x lt h r s le f hold function = naming_case c kind.Define i j ps e refl (layered_naming ps x) lt h s le (f refl)
by_layer c kind.DefiningRange i j ps e x lt h r s le f hold function = naming_case c kind.DefiningRange i j ps e refl (layered_naming ps x) lt h s le (f refl)
by_layer c k i j ps e x lt h r s le f hold function = holding_case c k i j ps e refl lt h r le f (hold refl x)

pub self_gives : (o : Option Scope) → ScopeGives o o
self_gives None = tt
self_gives (Some s) = refl

pub body_behind : (b : Bool) (i j : ℕ) → i ≤ j → BeginsBehind (body_scope b i j) i
body_behind true i j le = (omega arith, le)
body_behind false i j le = tt

body_lies : (b : Bool) (a i j : ℕ) → a ≤ i → LiesAt a i j (body_scope b i j)
body_lies true a i j le = (le, inr (refl, omega arith))
body_lies false a i j le = tt

pub not_both : (b : Bool) → b ≡ true → b ≡ false → ⊥
not_both true x y = cc
not_both false x y = cc

mutual
  -- The declarations of a tree in a block that ends at e. What opens a block of its own may stand in any.
  nested : (c : Context) (t : Tree) (e : ℕ) → IsLayered t → IsLaidOut t → RoleGives None c.role → ScopeGives None c.parameters → last t ≤ e → (opens (kind_of t) ≡ false → c.end ≡ e) → AreNested (first t) (last t) e (events c t)
  nested c (node k i j ps) e x h r s le f =
      by_layer c k i j ps e x h.0 h.1 r s le f
      (λ z y. parts_nested (begin c k) k i j ps 0 ps (behind_name k i) y h.1 (holding_given None (begin c k) k i j ps z r s) (end_bound (opens k) j c.end e f le))
      (λ a y l. function_nested (begin c kind.FunctionDeclaration) i j ps ps a y l s)

  parts_nested : (c : Context) (k : Kind) (i j : ℕ) (ps : Trees) (n : ℕ) (qs : Trees) (a : ℕ) → AreLayered Holding qs → LieIn a j qs → Given None c k i j ps → j ≤ end_in c k j → AreNested a j (end_in c k j) (events_of c k i j ps n qs)
  parts_nested c k i j ps n none a x h g le = nested_none a j (end_in c k j)
  parts_nested c k i j ps n (more p qs) a x h g le =
      let low : first p < last p = laid_grows p h.1 in
      let high : last p ≤ j = lie_order (last p) j qs h.2 in
      nested_append a (last p) j (end_in c k j) (events (enter c k i j ps (ends_named ps) n p (is_more qs)) p) (events_of (pass c p) k i j ps (suc n) qs) (omega (arith, low, h.0)) high le
      (nested_wider (first p) (last p) a (last p) (end_in c k j) (events (enter c k i j ps (ends_named ps) n p (is_more qs)) p) h.0 (omega arith)
      (nested (enter c k i j ps (ends_named ps) n p (is_more qs)) p (end_in c k j) x.0 h.1 (g.role c.source n p) (g.parameters n p) (omega (arith, high, le)) (λ no. refl)))
      (parts_nested (pass c p) k i j ps (suc n) qs (last p) x.1 h.2 (record { role = g.role; parameters = g.parameters }) le)
  parts_nested c k i j ps n (skip qs) a x h g le = parts_nested c k i j ps (suc n) qs a x h g le

  pub function_nested : (c : Context) (i j : ℕ) (ps : Trees) (qs : Trees) (a : ℕ) → AreLayered Function qs → LieIn a j qs → ScopeGives None c.parameters → AreNested a j j (events_of c kind.FunctionDeclaration i j ps 0 qs)
  function_nested c i j ps none a x h s = nested_none a j j
  function_nested c i j ps (more p qs) a x h s =
      let low : first p < last p = laid_grows p h.1 in
      let high : last p ≤ j = lie_order (last p) j qs h.2 in
      let o : Option Scope = body_scope (is_there (part_at ps 1)) (last p) j in
      nested_append a (last p) j j (events (enter c kind.FunctionDeclaration i j ps (ends_named ps) 0 p (is_more qs)) p) (events_of (pass c p) kind.FunctionDeclaration i j ps 1 qs) (omega (arith, low, h.0)) high (omega arith)
      (only_nested a (last p) j o (events (enter c kind.FunctionDeclaration i j ps (ends_named ps) 0 p (is_more qs)) p) (body_lies (is_there (part_at ps 1)) a (last p) j (omega (arith, low, h.0)))
      (plain_only o (enter c kind.FunctionDeclaration i j ps (ends_named ps) 0 p (is_more qs)) p x.0 h.1 (body_behind (is_there (part_at ps 1)) (last p) j high) tt (self_gives o)))
      (bodies_nested (pass c p) i j ps 0 qs (last p) x.1 h.2 s)
  function_nested c i j ps (skip qs) a x h s = bodies_nested c i j ps 0 qs a x h s

  bodies_nested : (c : Context) (i j : ℕ) (ps : Trees) (n : ℕ) (qs : Trees) (a : ℕ) → AreLayered Body qs → LieIn a j qs → ScopeGives None c.parameters → AreNested a j j (events_of c kind.FunctionDeclaration i j ps (suc n) qs)
  bodies_nested c i j ps n none a x h s = nested_none a j j
  bodies_nested c i j ps n (more p qs) a x h s =
      let low : first p < last p = laid_grows p h.1 in
      let high : last p ≤ j = lie_order (last p) j qs h.2 in
      nested_append a (last p) j j (events (enter c kind.FunctionDeclaration i j ps (ends_named ps) (suc n) p (is_more qs)) p) (events_of (pass c p) kind.FunctionDeclaration i j ps (suc (suc n)) qs) (omega (arith, low, h.0)) high (omega arith)
      (nested_wider (first p) (last p) a (last p) j (events (enter c kind.FunctionDeclaration i j ps (ends_named ps) (suc n) p (is_more qs)) p) h.0 (omega arith)
      (nested (enter c kind.FunctionDeclaration i j ps (ends_named ps) (suc n) p (is_more qs)) p j x.1 h.1 tt s high (λ no. absurd (not_both (opens (kind_of p)) x.0 no))))
      (bodies_nested (pass c p) i j ps (suc n) qs (last p) x.2 h.2 s)
  bodies_nested c i j ps n (skip qs) a x h s = bodies_nested c i j ps (suc n) qs a x h s

pub file_nested : (t : Tree) → IsLayered t → IsLaidOut t → AreNested (first t) (last t) (last t) (events (file_context (last t)) t)
file_nested t x h = nested (file_context (last t)) t (last t) x h tt tt (omega arith) (λ no. refl)

pub file_follows : (t : Tree) → IsLayered t → IsLaidOut t → EachDeclared IsFollowed (events (file_context (last t)) t)
file_follows t x h = each_map (Lies (first t) (last t) (last t)) IsFollowed (events (file_context (last t)) t) (λ d l. l.follows) (file_nested t x h).lie
