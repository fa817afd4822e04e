-- The blocks of what a tree declares begin inside the tree, or in front of it.
use Rattle.std.proofs.Common.{◌≡◌, ℕ, zero, suc, ◌<◌, ◌≤◌, Bool, true, false, ◌++◌, Option, Some, None, refl, arith}
use Rattle.std.specs.Prelude.{if◌then◌else◌}
use Rattle.go_grammar.specs.declared.kind.Kind.{Kind}
use Rattle.go_grammar.specs.declared.kind.Kind.TheVariants as kind
use Rattle.go_grammar.specs.declared.kind.Sort.TheVariants as sort
use Rattle.go_grammar.specs.Trees.{Tree, node, Trees, none, more, skip, kind_of, first, last}
use Rattle.go_grammar.specs.Grammar.{is_name, ends_named}
use Rattle.go_tree.specs.declared.context.Block.{Block}
use Rattle.go_tree.specs.declared.context.Block.TheVariants as block
use Rattle.go_tree.specs.declared.context.Scope.{Scope}
use Rattle.go_tree.specs.declared.context.Role.{Role}
use Rattle.go_tree.specs.declared.context.Role.TheVariants as role
use Rattle.go_tree.specs.declared.context.Context.{Context}
use Rattle.go_tree.specs.declared.event.Declaration.{Declaration}
use Rattle.go_tree.specs.Contexts.{opens, block_in, role_in, parameters_in, is_called, specified, defined, ranged, called_in, if_name, if_first, field_role, key_role, parameter_role, entry_role, enter}
use Rattle.go_tree.specs.Events.{name_events, own_events, statement_events, is_more, pass, begin, events, events_of}
use Rattle.go_scopes_events.specs.Orders.{EachDeclared}
use Rattle.go_scopes_events.proofs.Public.{is_top, IsInner, AreInner, true_false, each_append, statement_each, misplaced_each, second_each, behind_name, IsLaidOut, LieIn, laid_grows, lie_order}

name_behind : (k : Kind) (i : ℕ) → i ≤ behind_name k i
name_behind kind.FunctionDeclaration i = omega arith
name_behind (kind.Specification sort.Type) i = omega arith
name_behind kind.DeclaredName i = omega arith
name_behind kind.Name i = omega arith
name_behind k i = omega arith

module _ (lo hi : ℕ) where
  -- the block begins there, if it isn't that of the package
  abbrev pub In : Block → Type 0
  In block.Package = Unit {0}
  In (block.Local x) = (lo ≤ x) × (x < hi)

  abbrev pub ScopeIn : Option Scope → Type 0
  ScopeIn None = Unit {0}
  ScopeIn (Some s) = (lo ≤ s.from) × (s.from < hi)

  abbrev pub RoleIn : Role → Type 0
  RoleIn (role.Parameter g s) = ScopeIn s
  RoleIn r = Unit {0}

  abbrev pub IsIn : Declaration → Type 0
  IsIn d = In d.block

  name_in : (c : Context) (i : ℕ) (r : Role) → In c.block → RoleIn r → EachDeclared IsIn (name_events c i r)
  name_in c i (role.New d) b h = (b, tt)
  name_in c i (role.Parameter g None) b h = tt
  name_in c i (role.Parameter g (Some s)) b h = (h, tt)
  name_in c i r b h = tt

  own_in : (c : Context) (k : Kind) (i j : ℕ) (ps : Trees) → is_top k ≡ false → In c.block → RoleIn c.role → EachDeclared IsIn (own_events c k i j ps)
  own_in c kind.FunctionDeclaration i j ps e b r = absurd (true_false true refl e)
  own_in c (kind.Specification sort.Type) i j ps e b r = (b, tt)
  own_in c kind.DeclaredName i j ps e b r = name_in c i c.role b r
  own_in c kind.Name i j ps e b r = name_in c i c.role b r
  own_in c kind.Switch i j ps e b r = second_each IsIn false ps
  own_in c kind.Break i j ps e b r = misplaced_each IsIn c.breaks i j
  own_in c kind.Continue i j ps e b r = misplaced_each IsIn c.continues i j
  own_in c kind.Fallthrough i j ps e b r = misplaced_each IsIn c.falls i j
  own_in c k i j ps e b r = tt

  if_in : (p : Tree) (r : Role) → RoleIn r → RoleIn (if_name p r)
  if_in p r h = elim (is_name (kind_of p)) as (λ b. RoleIn (if b then r else role.Operand)) [ true ↦ h | false ↦ tt ]

  first_in : (n : ℕ) (r : Role) → RoleIn r → RoleIn (if_first n r)
  first_in zero r h = h
  first_in (suc n) r h = tt

  callee_in : (r : Role) → RoleIn (called_in r)
  callee_in role.Called = tt
  callee_in r = tt

  entry_in : (named : Bool) (p : Tree) (group : ℕ) (s : Option Scope) → ScopeIn s → RoleIn (entry_role named p group s)
  entry_in true p group s h = if_in p (role.Parameter group s) h
  entry_in false p group s h = tt

  field_in : (group : Option ℕ) → RoleIn (field_role group)
  field_in None = tt
  field_in (Some g) = tt

  key_in : (group : Option ℕ) → RoleIn (key_role group)
  key_in None = tt
  key_in (Some g) = tt

  parameter_in : (group : Option ℕ) (s : Option Scope) → ScopeIn s → RoleIn (parameter_role group s)
  parameter_in None s h = tt
  parameter_in (Some g) s h = h

  part_role : (c : Context) (k : Kind) (i j : ℕ) (named : Bool) (n : ℕ) (p : Tree) → RoleIn c.role → ScopeIn c.parameters → RoleIn (role_in c k i j named n p)
  part_role c (kind.Specification sort.Constant) i j named n p r s = first_in n (role.New (specified c sort.Constant i j)) tt
  part_role c (kind.Specification sort.Variable) i j named n p r s = first_in n (role.New (specified c sort.Variable i j)) tt
  part_role c kind.Define i j named n p r s = first_in n (role.New (defined c i j)) tt
  part_role c kind.DefiningRange i j named n p r s = first_in n (role.New (ranged c i j)) tt
  part_role c kind.NameList i j named n p r s = r
  part_role c kind.NewNames i j named n p r s = r
  part_role c kind.ExpressionList i j named n p r s = if_in p c.role r
  part_role c kind.Call i j named n p r s = first_in n role.Called tt
  part_role c kind.Parenthesized i j named n p r s = callee_in c.role
  part_role c kind.Selector i j named n p r s = if_in p (role.Selected j (is_called c.role)) tt
  part_role c kind.Fields i j named n p r s = first_in n (field_role c.group) (field_in c.group)
  part_role c kind.Keyed i j named n p r s = first_in n (key_role c.group) (key_in c.group)
  part_role c kind.Parameters i j named n p r s = entry_in named p i c.parameters s
  part_role c kind.Parameter i j named n p r s = first_in n (parameter_role c.group c.parameters) (parameter_in c.group c.parameters s)
  part_role c k i j named n p r s = tt

  part_parameters : (c : Context) (k : Kind) (j : ℕ) (ps : Trees) (n : ℕ) (p : Tree) → is_top k ≡ false → ScopeIn c.parameters → ScopeIn (parameters_in c k j ps n p)
  part_parameters c kind.FunctionDeclaration j ps n p e s = absurd (true_false true refl e)
  part_parameters c kind.FunctionType j ps n p e s = tt
  part_parameters c k j ps n p e s = s

  part_block : (c : Context) (k : Kind) (i : ℕ) → lo ≤ i → i < hi → In c.block → In (block_in c k i)
  part_block c k i from to h = elim (opens k) as (λ b. In (if b then block.Local i else c.block)) [ true ↦ (from, to) | false ↦ h ]

  mutual
    pub tree_in : (c : Context) (t : Tree) → IsInner t → IsLaidOut t → lo ≤ first t → last t ≤ hi → In c.block → RoleIn c.role → ScopeIn c.parameters → EachDeclared IsIn (events c t)
    tree_in c (node k i j ps) x l from to b r s =
        each_append IsIn (statement_events c.listed i j ++ own_events c k i j ps) (events_of (begin c k) k i j ps 0 ps)
        (each_append IsIn (statement_events c.listed i j) (own_events c k i j ps) (statement_each IsIn c.listed i j) (own_in c k i j ps x.0 b r))
        (parts_in (begin c k) k i j ps 0 ps (behind_name k i) x.0 x.1 l.1 from (omega (arith, to, l.0)) (omega (arith, name_behind k i, from)) to b r s)

    parts_in : (c : Context) (k : Kind) (i j : ℕ) (ps : Trees) (n : ℕ) (qs : Trees) (a : ℕ) → is_top k ≡ false → AreInner qs → LieIn a j qs → lo ≤ i → i < hi → lo ≤ a → j ≤ hi → In c.block → RoleIn c.role → ScopeIn c.parameters
        → EachDeclared IsIn (events_of c k i j ps n qs)
    parts_in c k i j ps n none a e x l from to low high b r s = tt
    parts_in c k i j ps n (more q qs) a e x l from to low high b r s =
        let in_q : first q < last q = laid_grows q l.1 in
        let rest : last q ≤ j = lie_order (last q) j qs l.2 in
        each_append IsIn (events (enter c k i j ps (ends_named ps) n q (is_more qs)) q) (events_of (pass c q) k i j ps (suc n) qs)
        (tree_in (enter c k i j ps (ends_named ps) n q (is_more qs)) q x.0 l.1 (omega (arith, low, l.0)) (omega (arith, rest, high))
        (part_block c k i from to b) (part_role c k i j (ends_named ps) n q r s) (part_parameters c k j ps n q e s))
        (parts_in (pass c q) k i j ps (suc n) qs (last q) e x.1 l.2 from to (omega (arith, low, l.0, in_q)) high b r s)
    parts_in c k i j ps n (skip qs) a e x l from to low high b r s = parts_in c k i j ps (suc n) qs a e x l from to low high b r s
