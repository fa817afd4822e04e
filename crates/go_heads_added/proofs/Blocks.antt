-- The blocks that a tree declares names in begin inside it.
use Rattle.std.proofs.Common.{ℕ, zero, suc, ◌<◌, ◌≤◌, Bool, true, false, [], ◌++◌, Option, Some, None, arith}
use Rattle.std.specs.Prelude.{if◌then◌else◌, nat_lt}
use Rattle.go_grammar.specs.declared.kind.Kind.{Kind}
use Rattle.go_grammar.specs.declared.kind.Kind.TheVariants as kind
use Rattle.go_grammar.specs.declared.kind.Sort.TheVariants as sort
use Rattle.go_grammar.specs.Trees.{Tree, node, Trees, none, more, skip, kind_of, last}
use Rattle.go_grammar.specs.Grammar.{ends_named, is_name}
use Rattle.go_tree.specs.Views.{part_at}
use Rattle.go_tree.specs.declared.context.Block.TheVariants as block
use Rattle.go_tree.specs.declared.context.Role.{Role}
use Rattle.go_tree.specs.declared.context.Role.TheVariants as role
use Rattle.go_tree.specs.declared.context.Scope.{Scope}
use Rattle.go_tree.specs.declared.context.Context.{Context}
use Rattle.go_tree.specs.declared.event.Declaration.{Declaration}
use Rattle.go_tree.specs.Contexts.{is_there, opens, block_in, specified, defined, ranged, is_called, called_in, if_name, if_first, field_role, key_role, parameter_role, entry_role, role_in, parameters_in, enter, file_context}
use Rattle.go_tree.specs.Events.{statement_events, own_events, name_events, function_events, is_more, pass, begin, events, events_of}
use Rattle.go_scopes_events.specs.Orders.{EachDeclared}
use Rattle.go_scopes_events.proofs.Public.{IsLaidOut, LieIn, behind_name, each_append, laid_grows, lie_order, misplaced_each, second_each, statement_each}
use Rattle.go_heads_added.specs.Added.{BlockWithin}

module _ (hi : ℕ) where
  abbrev ScopeIn : Option Scope → Type 0
  ScopeIn None = Unit {0}
  ScopeIn (Some s) = s.from < hi

  -- what a name declares as a parameter stands in a block that begins inside
  abbrev RoleIn : Role → Type 0
  RoleIn (role.Parameter g x) = ScopeIn x
  RoleIn r = Unit {0}

  abbrev IsIn : Declaration → Type 0
  IsIn d = BlockWithin hi d.block

  name_in : (c : Context) (i : ℕ) (r : Role) → BlockWithin hi c.block → RoleIn r → EachDeclared IsIn (name_events c i r)
  name_in c i (role.New d) b h = (b, tt)
  name_in c i (role.Field g) b h = tt
  name_in c i (role.Key g) b h = tt
  name_in c i (role.Parameter g None) b h = tt
  name_in c i (role.Parameter g (Some s)) b h = (h, tt)
  name_in c i r b h = tt

  function_in : (b d : Bool) (i j : ℕ) → EachDeclared IsIn (if b then function_events i j d else [])
  function_in true true i j = (tt, tt)
  function_in true false i j = (tt, tt)
  function_in false d i j = tt

  own_in : (c : Context) (k : Kind) (i j : ℕ) (ps : Trees) → BlockWithin hi c.block → RoleIn c.role → EachDeclared IsIn (own_events c k i j ps)
  own_in c kind.FunctionDeclaration i j ps b h = function_in (nat_lt i j) (is_there (part_at ps 1)) i j
  own_in c (kind.Specification sort.Type) i j ps b h = (b, tt)
  own_in c kind.DeclaredName i j ps b h = name_in c i c.role b h
  own_in c kind.Name i j ps b h = name_in c i c.role b h
  own_in c kind.Switch i j ps b h = second_each IsIn false ps
  own_in c kind.Break i j ps b h = misplaced_each IsIn c.breaks i j
  own_in c kind.Continue i j ps b h = misplaced_each IsIn c.continues i j
  own_in c kind.Fallthrough i j ps b h = misplaced_each IsIn c.falls i j
  own_in c k i j ps b h = tt

  -- ---- contexts of parts

  block_kept : (c : Context) (k : Kind) (i : ℕ) → BlockWithin hi c.block → i < hi → BlockWithin hi (block_in c k i)
  block_kept c k i b l = elim (opens k) as (λ o. BlockWithin hi (if o then block.Local i else c.block)) [ true ↦ l | false ↦ b ]

  first_in : (n : ℕ) (r : Role) → RoleIn r → RoleIn (if_first n r)
  first_in zero r h = h
  first_in (suc n) r h = tt

  named_in : (p : Tree) (r : Role) → RoleIn r → RoleIn (if_name p r)
  named_in p r h = elim (is_name (kind_of p)) as (λ b. RoleIn (if b then r else role.Operand)) [ true ↦ h | false ↦ tt ]

  called_role : (r : Role) → RoleIn (called_in r)
  called_role role.Called = tt
  called_role r = tt

  field_in : (g : Option ℕ) → RoleIn (field_role g)
  field_in None = tt
  field_in (Some g) = tt

  key_in : (g : Option ℕ) → RoleIn (key_role g)
  key_in None = tt
  key_in (Some g) = tt

  parameter_in : (g : Option ℕ) (x : Option Scope) → ScopeIn x → RoleIn (parameter_role g x)
  parameter_in None x h = tt
  parameter_in (Some g) x h = h

  entry_in : (named : Bool) (p : Tree) (i : ℕ) (x : Option Scope) → ScopeIn x → RoleIn (entry_role named p i x)
  entry_in true p i x h = named_in p (role.Parameter i x) h
  entry_in false p i x h = tt

  part_role : (c : Context) (k : Kind) (i j : ℕ) (named : Bool) (n : ℕ) (p : Tree) → RoleIn c.role → ScopeIn c.parameters → RoleIn (role_in c k i j named n p)
  part_role c (kind.Specification sort.Constant) i j named n p r h = first_in n (role.New (specified c sort.Constant i j)) tt
  part_role c (kind.Specification sort.Variable) i j named n p r h = first_in n (role.New (specified c sort.Variable i j)) tt
  part_role c (kind.Specification sort.Type) i j named n p r h = tt
  part_role c kind.Define i j named n p r h = first_in n (role.New (defined c i j)) tt
  part_role c kind.DefiningRange i j named n p r h = first_in n (role.New (ranged c i j)) tt
  part_role c kind.NameList i j named n p r h = r
  part_role c kind.NewNames i j named n p r h = r
  part_role c kind.Targets i j named n p r h = tt
  part_role c kind.ExpressionList i j named n p r h = named_in p c.role r
  part_role c kind.Call i j named n p r h = first_in n role.Called tt
  part_role c kind.Parenthesized i j named n p r h = called_role c.role
  part_role c kind.Selector i j named n p r h = named_in p (role.Selected j (is_called c.role)) tt
  part_role c kind.Fields i j named n p r h = first_in n (field_role c.group) (field_in c.group)
  part_role c kind.Keyed i j named n p r h = first_in n (key_role c.group) (key_in c.group)
  part_role c kind.Parameters i j named n p r h = entry_in named p i c.parameters h
  part_role c kind.Parameter i j named n p r h = first_in n (parameter_role c.group c.parameters) (parameter_in c.group c.parameters h)
  part_role c k i j named n p r h = tt

  -- a function's first part, its signature, has parameters of its own
  abbrev IsLater : Kind → ℕ → Type 0
  IsLater kind.FunctionDeclaration zero = ⊥
  IsLater k n = Unit {0}

  later_next : (k : Kind) (n : ℕ) → IsLater k (suc n)
  later_next kind.FunctionDeclaration n = tt
  later_next k n = tt

  parameters_kept : (c : Context) (k : Kind) (j : ℕ) (ps : Trees) (n : ℕ) (p : Tree) → IsLater k n → ScopeIn c.parameters → ScopeIn (parameters_in c k j ps n p)
  parameters_kept c kind.FunctionDeclaration j ps zero p l h = absurd l
  parameters_kept c kind.FunctionDeclaration j ps (suc n) p l h = h
  parameters_kept c kind.FunctionType j ps n p l h = tt
  parameters_kept c k j ps n p l h = h

  -- the body stands behind the signature
  signature_scope : (c : Context) (i j lo : ℕ) (p : Tree) (qs : Trees) → LieIn lo j (more p qs) → j ≤ hi → ScopeIn (parameters_in c kind.FunctionDeclaration j (more p qs) 0 p)
  signature_scope c i j lo p none l h = tt
  signature_scope c i j lo p (skip qs) l h = tt
  signature_scope c i j lo p (more b qs) l h =
      let f = l.2.0 in let g = laid_grows b l.2.1 in let e = lie_order (last b) j qs l.2.2 in omega (arith, f, g, e, h)

  -- ---- trees

  first_scope : (c : Context) (k : Kind) (i j : ℕ) (p : Tree) (qs : Trees) (lo : ℕ) → LieIn lo j (more p qs) → j ≤ hi → ScopeIn c.parameters → ScopeIn (parameters_in c k j (more p qs) 0 p)
  first_scope c kind.FunctionDeclaration i j p qs lo l h s = signature_scope c i j lo p qs l h
  first_scope c kind.FunctionType i j p qs lo l h s = tt
  first_scope c k i j p qs lo l h s = s

  mutual
    pub tree_in : (c : Context) (t : Tree) → IsLaidOut t → last t ≤ hi → BlockWithin hi c.block → RoleIn c.role → ScopeIn c.parameters → EachDeclared IsIn (events c t)
    tree_in c (node k i j ps) l h b r s =
        let grows = l.0 in
        let inside : i < hi = omega (arith, grows, h) in
        each_append IsIn (statement_events c.listed i j ++ own_events c k i j ps) (events_of (begin c k) k i j ps 0 ps)
        (each_append IsIn (statement_events c.listed i j) (own_events c k i j ps) (statement_each IsIn c.listed i j) (own_in c k i j ps b r))
        (all_in (begin c k) k i j ps l.1 h inside b r s)

    all_in : (c : Context) (k : Kind) (i j : ℕ) (ps : Trees) → LieIn (behind_name k i) j ps → j ≤ hi → i < hi → BlockWithin hi c.block → RoleIn c.role → ScopeIn c.parameters → EachDeclared IsIn (events_of c k i j ps 0 ps)
    all_in c k i j none l h e b r s = tt
    all_in c k i j (skip qs) l h e b r s = parts_in c k i j (skip qs) 1 qs (behind_name k i) l h e b r s (later_next k 0)
    all_in c k i j (more p qs) l h e b r s =
        let inner : Context = enter c k i j (more p qs) (ends_named (more p qs)) 0 p (is_more qs) in
        let end : last p ≤ hi = let o = lie_order (last p) j qs l.2 in omega (arith, o, h) in
        each_append IsIn (events inner p) (events_of (pass c p) k i j (more p qs) 1 qs)
        (tree_in inner p l.1 end (block_kept c k i b e) (part_role c k i j (ends_named (more p qs)) 0 p r s) (first_scope c k i j p qs (behind_name k i) l h s))
        (parts_in (pass c p) k i j (more p qs) 1 qs (last p) l.2 h e b r s (later_next k 0))

    parts_in : (c : Context) (k : Kind) (i j : ℕ) (all : Trees) (n : ℕ) (qs : Trees) (lo : ℕ) → LieIn lo j qs → j ≤ hi → i < hi → BlockWithin hi c.block → RoleIn c.role → ScopeIn c.parameters → IsLater k n → EachDeclared IsIn (events_of c k i j all n qs)
    parts_in c k i j all n none lo l h e b r s x = tt
    parts_in c k i j all n (skip qs) lo l h e b r s x = parts_in c k i j all (suc n) qs lo l h e b r s (later_next k n)
    parts_in c k i j all n (more p qs) lo l h e b r s x =
        let inner : Context = enter c k i j all (ends_named all) n p (is_more qs) in
        let end : last p ≤ hi = let o = lie_order (last p) j qs l.2 in omega (arith, o, h) in
        each_append IsIn (events inner p) (events_of (pass c p) k i j all (suc n) qs)
        (tree_in inner p l.1 end (block_kept c k i b e) (part_role c k i j (ends_named all) n p r s) (parameters_kept c k j all n p x s))
        (parts_in (pass c p) k i j all (suc n) qs (last p) l.2 h e b r s (later_next k n))

-- the blocks of a file
pub file_in : (hi : ℕ) (t : Tree) → IsLaidOut t → last t ≤ hi → EachDeclared (λ d. BlockWithin hi d.block) (events (file_context (last t)) t)
file_in hi t l h = tree_in hi (file_context (last t)) t l h tt tt tt
