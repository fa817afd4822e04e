-- What a tree tells of names lies in the tree: statements, groups, the specifications that names stand in and the ends of selectors.
use Rattle.std.proofs.Common.{◌≡◌, ℕ, zero, suc, ◌<◌, ◌≤◌, Bool, true, false, List, [], ◌∷◌, ◌++◌, Option, Some, None, arith}
use Rattle.std.specs.Prelude.{if◌then◌else◌, nat_eq, nat_lt, ◌||◌}
use Rattle.go_grammar.specs.declared.kind.Kind.{Kind}
use Rattle.go_grammar.specs.declared.kind.Kind.TheVariants as kind
use Rattle.go_grammar.specs.declared.kind.Sort.TheVariants as sort
use Rattle.go_grammar.specs.Trees.{Tree, node, Trees, none, more, skip, kind_of, first, last, parts}
use Rattle.go_grammar.specs.Grammar.{is_name, ends_named, count}
use Rattle.go_tree.specs.declared.context.Block.{Block}
use Rattle.go_tree.specs.declared.context.Block.TheVariants as block
use Rattle.go_tree.specs.declared.context.Context.{Context}
use Rattle.go_tree.specs.declared.context.Reach.TheVariants as reach
use Rattle.go_tree.specs.declared.context.Role.{Role}
use Rattle.go_tree.specs.declared.context.Role.TheVariants as role
use Rattle.go_tree.specs.declared.context.Scope.{Scope}
use Rattle.go_tree.specs.declared.context.Site.{Site}
use Rattle.go_tree.specs.declared.context.Site.TheVariants as site
use Rattle.go_tree.specs.declared.event.Event.{Event}
use Rattle.go_tree.specs.declared.event.Event.TheVariants as event
use Rattle.go_tree.specs.Contexts.{is_there, opens, block_in, role_in, group_in, site_in, specification_in, source_of, source_at, has_values, value_site, element_site, length_site, column_site, is_called, specified, defined, ranged, called_in, if_name, if_first, field_role, key_role, parameter_role, entry_role, enter}
use Rattle.go_tree.specs.Events.{name_events, own_events, statement_events, function_events, declaration_events, misplaced, is_default, default_events, second_defaults, is_more, pass, begin, events, events_of}
use Rattle.go_tree.specs.Redeclared.{is_by_define}
use Rattle.go_tree.specs.Views.{part_at}
use Rattle.go_scopes_events.proofs.Public.{IsLaidOut, LieIn, behind_name, laid_grows, lie_order}

-- the block begins in front of the token, or there
abbrev pub BlockBefore : Block → ℕ → Type 0
BlockBefore block.Package i = Unit {0}
BlockBefore (block.Local b) i = b ≤ i

block_later : (b : Block) (i k : ℕ) → i ≤ k → BlockBefore b i → BlockBefore b k
block_later block.Package i k le h = tt
block_later (block.Local x) i k le h = omega (arith, le, h)

-- the specification, or the function, in which a name stands that is looked up
abbrev pub site_token : Site → Option ℕ
site_token site.Elsewhere = None
site_token (site.Type s) = Some s
site_token (site.Value s column alone) = Some s
site_token (site.Right s reach) = Some s

name_behind : (k : Kind) (i : ℕ) → i ≤ behind_name k i
name_behind kind.FunctionDeclaration i = omega arith
name_behind (kind.Specification sort.Type) i = omega arith
name_behind kind.DeclaredName i = omega arith
name_behind kind.Name i = omega arith
name_behind k i = omega arith

module _ (lo hi : ℕ) where
  -- the specification lies in the tree
  abbrev pub ListLies : Option ℕ → Type 0
  ListLies None = Unit {0}
  ListLies (Some s) = (lo ≤ s) × (s < hi)

  -- what a role speaks of lies in the tree; the name stands in the block b, from the token i on
  abbrev pub RoleLies : Block → ℕ → Role → Type 0
  RoleLies b i (role.New d) = (lo ≤ d.statement) × (d.statement ≤ i) × BlockBefore b d.statement × ListLies d.source
  RoleLies b i (role.Selected to called) = (lo < to) × (to ≤ hi)
  RoleLies b i (role.Field g) = (lo ≤ g) × (g ≤ i)
  RoleLies b i (role.Key g) = (lo ≤ g) × (g ≤ i)
  RoleLies b i (role.Parameter g s) = (lo ≤ g) × (g ≤ i)
  RoleLies b i r = Unit {0}

  abbrev pub GroupLies : ℕ → Option ℕ → Type 0
  GroupLies i None = Unit {0}
  GroupLies i (Some g) = (lo ≤ g) × (g ≤ i)

  abbrev pub EventLies : Event → Type 0
  EventLies (event.Use u) = RoleLies block.Package u.name u.role × ListLies (site_token u.site)
  EventLies (event.Declaration d) = (lo ≤ d.statement) × (d.statement ≤ d.name) × (is_by_define d.manner ≡ true → BlockBefore d.block d.statement) × ListLies d.source
  EventLies (event.Member m g x) = (lo ≤ g) × (g ≤ x) × (x < hi)
  EventLies e = Unit {0}

  abbrev pub AllLie : List Event → Type 0
  AllLie [] = Unit {0}
  AllLie (e ∷ es) = EventLies e × AllLie es

  lie_append : (es fs : List Event) → AllLie es → AllLie fs → AllLie (es ++ fs)
  lie_append [] fs h g = g
  lie_append (e ∷ es) fs h g = (h.0, lie_append es fs h.1 g)

  pub lie_left : (es fs : List Event) → AllLie (es ++ fs) → AllLie es
  lie_left [] fs h = tt
  lie_left (e ∷ es) fs h = (h.0, lie_left es fs h.1)

  pub lie_right : (es fs : List Event) → AllLie (es ++ fs) → AllLie fs
  lie_right [] fs h = h
  lie_right (e ∷ es) fs h = lie_right es fs h.1

  role_later : (b : Block) (i k : ℕ) (r : Role) → i ≤ k → RoleLies b i r → RoleLies b k r
  role_later b i k (role.New d) le h = (h.0, omega (arith, le, h.1), h.2, h.3)
  role_later b i k (role.Field g) le h = (h.0, omega (arith, le, h.1))
  role_later b i k (role.Key g) le h = (h.0, omega (arith, le, h.1))
  role_later b i k (role.Parameter g s) le h = (h.0, omega (arith, le, h.1))
  role_later b i k (role.Selected to called) le h = h
  role_later b i k r le h = tt

  group_later : (i k : ℕ) (g : Option ℕ) → i ≤ k → GroupLies i g → GroupLies k g
  group_later i k None le h = tt
  group_later i k (Some g) le h = (h.0, omega (arith, le, h.1))

  -- ---- what a node tells by itself

  -- a name that is looked up
  abbrev AsUsed : ℕ → Role → Type 0
  AsUsed i r = RoleLies block.Package i r

  name_lies : (c : Context) (i : ℕ) (r : Role) → RoleLies c.block i r → AsUsed i c.role → ListLies (site_token c.site) → i < hi → AllLie (name_events c i r)
  name_lies c i (role.New d) h u s lt = ((h.0, h.1, λ e. h.2, h.3), tt)
  name_lies c i (role.Field g) h u s lt = ((h.0, h.1, lt), tt)
  name_lies c i (role.Key g) h u s lt = ((h.0, h.1, lt), tt)
  name_lies c i (role.Parameter g None) h u s lt = ((h.0, h.1, lt), tt)
  name_lies c i (role.Parameter g (Some x)) h u s lt = ((h.0, h.1, lt), ((omega (arith, h.0, h.1), omega arith, λ e. cc, tt), tt))
  name_lies c i r h u s lt = ((u, s), tt)

  as_used : (b : Block) (i : ℕ) (r : Role) → RoleLies b i r → AsUsed i r
  as_used b i (role.New d) h = (h.0, h.1, tt, h.3)
  as_used b i (role.Selected to called) h = h
  as_used b i (role.Field g) h = h
  as_used b i (role.Key g) h = h
  as_used b i (role.Parameter g s) h = h
  as_used b i r h = tt

  statement_lies : (b : Bool) (i j : ℕ) → AllLie (statement_events b i j)
  statement_lies true i j = (tt, tt)
  statement_lies false i j = tt

  misplaced_lies : (b : Bool) (i j : ℕ) → AllLie (misplaced b i j)
  misplaced_lies true i j = tt
  misplaced_lies false i j = (tt, tt)

  default_lies : (d b : Bool) (word : ℕ) → AllLie (default_events d b word)
  default_lies true true word = (tt, tt)
  default_lies true false word = tt
  default_lies false b word = tt

  second_lies : (b : Bool) (ps : Trees) → AllLie (second_defaults b ps)
  second_lies b none = tt
  second_lies b (skip ps) = second_lies b ps
  second_lies b (more p ps) =
      lie_append (default_events (is_default (kind_of p)) b (first p)) (second_defaults (b || is_default (kind_of p)) ps) (default_lies (is_default (kind_of p)) b (first p)) (second_lies (b || is_default (kind_of p)) ps)

  function_lies : (i j : ℕ) (b : Bool) → lo ≤ i → i < hi → AllLie (function_events i j b)
  function_lies i j true from lt = ((from, omega arith, λ e. cc, (from, lt)), tt)
  function_lies i j false from lt = ((from, omega arith, λ e. cc, (from, lt)), (tt, tt))

  declaration_lies : (i j : ℕ) (ps : Trees) → lo ≤ i → i < hi → AllLie (declaration_events i j ps)
  declaration_lies i j ps from lt = elim (nat_lt i j) as (λ b. AllLie (if b then function_events i j (is_there (part_at ps 1)) else [])) [ true ↦ function_lies i j (is_there (part_at ps 1)) from lt | false ↦ tt ]

  own_lies : (c : Context) (k : Kind) (i j : ℕ) (ps : Trees) → lo ≤ i → i < j → j ≤ hi → RoleLies c.block i c.role → ListLies (site_token c.site) → AllLie (own_events c k i j ps)
  own_lies c kind.ImportPath i j ps from lt to r s = (tt, tt)
  own_lies c kind.FunctionDeclaration i j ps from lt to r s = declaration_lies i j ps from (omega (arith, lt, to))
  own_lies c (kind.Specification sort.Type) i j ps from lt to r s = ((from, omega arith, λ e. cc, (from, omega (arith, lt, to))), tt)
  own_lies c kind.DeclaredName i j ps from lt to r s = name_lies c i c.role r (as_used c.block i c.role r) s (omega (arith, lt, to))
  own_lies c kind.Name i j ps from lt to r s = name_lies c i c.role r (as_used c.block i c.role r) s (omega (arith, lt, to))
  own_lies c kind.Switch i j ps from lt to r s = second_lies false ps
  own_lies c kind.Break i j ps from lt to r s = misplaced_lies c.breaks i j
  own_lies c kind.Continue i j ps from lt to r s = misplaced_lies c.continues i j
  own_lies c kind.Fallthrough i j ps from lt to r s = misplaced_lies c.falls i j
  own_lies c k i j ps from lt to r s = tt

  -- ---- the contexts of parts

  if_lies : (b : Block) (i : ℕ) (p : Tree) (r : Role) → RoleLies b i r → RoleLies b i (if_name p r)
  if_lies b i p r h = elim (is_name (kind_of p)) as (λ x. RoleLies b i (if x then r else role.Operand)) [ true ↦ h | false ↦ tt ]

  first_lies : (b : Block) (i n : ℕ) (r : Role) → RoleLies b i r → RoleLies b i (if_first n r)
  first_lies b i zero r h = h
  first_lies b i (suc n) r h = tt

  callee_lies : (b : Block) (i : ℕ) (r : Role) → RoleLies b i (called_in r)
  callee_lies b i role.Called = tt
  callee_lies b i r = tt

  entry_lies : (b : Block) (i : ℕ) (named : Bool) (p : Tree) (group : ℕ) (s : Option Scope) → lo ≤ group → group ≤ i → RoleLies b i (entry_role named p group s)
  entry_lies b i true p group s from to = if_lies b i p (role.Parameter group s) (from, to)
  entry_lies b i false p group s from to = tt

  field_lies : (b : Block) (i : ℕ) (group : Option ℕ) → GroupLies i group → RoleLies b i (field_role group)
  field_lies b i None h = tt
  field_lies b i (Some g) h = h

  key_lies : (b : Block) (i : ℕ) (group : Option ℕ) → GroupLies i group → RoleLies b i (key_role group)
  key_lies b i None h = tt
  key_lies b i (Some g) h = h

  parameter_lies : (b : Block) (i : ℕ) (group : Option ℕ) (s : Option Scope) → GroupLies i group → RoleLies b i (parameter_role group s)
  parameter_lies b i None s h = tt
  parameter_lies b i (Some g) s h = h

  -- the part begins at the token x
  part_role : (c : Context) (k : Kind) (i j : ℕ) (named : Bool) (n : ℕ) (p : Tree) (x : ℕ) → lo ≤ i → i ≤ x → i < j → j ≤ hi → BlockBefore c.block i → RoleLies c.block i c.role → GroupLies i c.group → ListLies c.source
      → RoleLies (block_in c k i) x (role_in c k i j named n p)
  part_role c (kind.Specification sort.Constant) i j named n p x from le lt to b r g s = first_lies c.block x n (role.New (specified c sort.Constant i j)) (from, le, b, s)
  part_role c (kind.Specification sort.Variable) i j named n p x from le lt to b r g s = first_lies c.block x n (role.New (specified c sort.Variable i j)) (from, le, b, s)
  part_role c kind.Define i j named n p x from le lt to b r g s = first_lies c.block x n (role.New (defined c i j)) (from, le, b, tt)
  part_role c kind.DefiningRange i j named n p x from le lt to b r g s = first_lies c.block x n (role.New (ranged c i j)) (from, le, b, tt)
  part_role c kind.NameList i j named n p x from le lt to b r g s = role_later c.block i x c.role le r
  part_role c kind.NewNames i j named n p x from le lt to b r g s = role_later c.block i x c.role le r
  part_role c kind.ExpressionList i j named n p x from le lt to b r g s = if_lies c.block x p c.role (role_later c.block i x c.role le r)
  part_role c kind.Call i j named n p x from le lt to b r g s = first_lies c.block x n role.Called tt
  part_role c kind.Parenthesized i j named n p x from le lt to b r g s = callee_lies c.block x c.role
  part_role c kind.Selector i j named n p x from le lt to b r g s = if_lies c.block x p (role.Selected j (is_called c.role)) (omega (arith, from, lt), to)
  part_role c kind.Fields i j named n p x from le lt to b r g s = first_lies c.block x n (field_role c.group) (field_lies c.block x c.group (group_later i x c.group le g))
  part_role c kind.Keyed i j named n p x from le lt to b r g s = first_lies c.block x n (key_role c.group) (key_lies c.block x c.group (group_later i x c.group le g))
  part_role c kind.Parameters i j named n p x from le lt to b r g s = entry_lies c.block x named p i c.parameters from le
  part_role c kind.Parameter i j named n p x from le lt to b r g s = first_lies c.block x n (parameter_role c.group c.parameters) (parameter_lies c.block x c.group c.parameters (group_later i x c.group le g))
  part_role c k i j named n p x from le lt to b r g s = tt

  part_block : (c : Context) (k : Kind) (i x : ℕ) → i ≤ x → BlockBefore c.block i → BlockBefore (block_in c k i) x
  part_block c k i x le h = elim (opens k) as (λ b. BlockBefore (if b then block.Local i else c.block) x) [ true ↦ le | false ↦ block_later c.block i x le h ]

  part_group : (c : Context) (k : Kind) (i x : ℕ) → lo ≤ i → i ≤ x → GroupLies i c.group → GroupLies x (group_in c k i)
  part_group c kind.StructType i x from le g = (from, le)
  part_group c kind.Composite i x from le g = (from, le)
  part_group c kind.LiteralValue i x from le g = (from, le)
  part_group c kind.Parameters i x from le g = (from, le)
  part_group c k i x from le g = group_later i x c.group le g

  -- the specifications that a context speaks of
  abbrev pub ListsLie : Context → Type 0
  ListsLie c = ListLies (site_token c.site) × ListLies c.specification × ListLies c.source

  value_lies : (o : Option ℕ) (alone : Bool) → ListLies o → ListLies (site_token (value_site o alone))
  value_lies None alone h = tt
  value_lies (Some s) alone h = h

  element_lies : (b : Bool) (s : Site) → ListLies (site_token s) → ListLies (site_token (element_site b s))
  element_lies true s h = h
  element_lies false (site.Right d reach.Direct) h = h
  element_lies false s h = h

  length_lies : (s : Site) → ListLies (site_token s) → ListLies (site_token (length_site s))
  length_lies (site.Right d r) h = h
  length_lies s h = h

  column_lies : (n : ℕ) (s : Site) → ListLies (site_token s) → ListLies (site_token (column_site n s))
  column_lies n (site.Value d m alone) h = h
  column_lies n s h = h

  part_site : (c : Context) (k : Kind) (i : ℕ) (ps : Trees) (n : ℕ) (p : Tree) → lo ≤ i → i < hi → ListsLie c → ListLies (site_token (site_in c k i ps n p))
  part_site c (kind.Specification sort.Type) i ps n p from lt h = (from, lt)
  part_site c (kind.Specification sort.Constant) i ps n p from lt h = (from, lt)
  part_site c (kind.Specification sort.Variable) i ps n p from lt h = (from, lt)
  part_site c kind.Values i ps n p from lt h = value_lies c.specification (nat_eq (count (parts p)) 1) h.1
  part_site c kind.TypedValues i ps zero p from lt h = h.0
  part_site c kind.TypedValues i ps (suc n) p from lt h = value_lies c.specification (nat_eq (count (parts p)) 1) h.1
  part_site c kind.ExpressionList i ps n p from lt h = column_lies n c.site h.0
  part_site c kind.FunctionDeclaration i ps zero p from lt h = (from, lt)
  part_site c kind.FunctionDeclaration i ps (suc n) p from lt h = tt
  part_site c kind.SequenceType i ps zero p from lt h = length_lies c.site h.0
  part_site c kind.SequenceType i ps (suc n) p from lt h = element_lies (is_there (part_at ps 0)) c.site h.0
  part_site c kind.FunctionType i ps n p from lt h = element_lies false c.site h.0
  part_site c k i ps n p from lt h = h.0

  part_specification : (c : Context) (k : Kind) (i : ℕ) → lo ≤ i → i < hi → ListLies c.specification → ListLies (specification_in c k i)
  part_specification c (kind.Specification s) i from lt h = (from, lt)
  part_specification c k i from lt h = h

  own_source_lies : (o : Option ℕ) (b : Bool) (i : ℕ) → lo ≤ i → i < hi → ListLies o → ListLies (if b then Some i else o)
  own_source_lies o true i from lt h = (from, lt)
  own_source_lies o false i from lt h = h

  source_lies : (o : Option ℕ) (k : Kind) (i : ℕ) (ps : Trees) → lo ≤ i → i < hi → ListLies o → ListLies (source_of o k i ps)
  source_lies o (kind.Specification s) i ps from lt h = own_source_lies o (has_values s ps) i from lt h
  source_lies o k i ps from lt h = h

  begin_lies : (c : Context) (k : Kind) → ListsLie c → ListsLie (begin c k)
  begin_lies c (kind.Declaration s) h = (h.0, h.1, tt)
  begin_lies c k h = h

  -- ---- trees

  mutual
    pub tree_lies : (c : Context) (t : Tree) → IsLaidOut t → lo ≤ first t → last t ≤ hi → BlockBefore c.block (first t) → RoleLies c.block (first t) c.role → GroupLies (first t) c.group → ListsLie c → AllLie (events c t)
    tree_lies c (node k i j ps) l from to b r g s =
        lie_append (statement_events c.listed i j ++ own_events c k i j ps) (events_of (begin c k) k i j ps 0 ps)
        (lie_append (statement_events c.listed i j) (own_events c k i j ps) (statement_lies c.listed i j) (own_lies c k i j ps from l.0 to r s.0))
        (parts_lie (begin c k) k i j ps 0 ps (behind_name k i) l.0 l.1 (name_behind k i) from to b r g (begin_lies c k s))

    parts_lie : (c : Context) (k : Kind) (i j : ℕ) (ps : Trees) (n : ℕ) (qs : Trees) (a : ℕ) → i < j → LieIn a j qs → i ≤ a → lo ≤ i → j ≤ hi → BlockBefore c.block i → RoleLies c.block i c.role → GroupLies i c.group → ListsLie c
        → AllLie (events_of c k i j ps n qs)
    parts_lie c k i j ps n none a lt l le from to b r g s = tt
    parts_lie c k i j ps n (more q qs) a lt l le from to b r g s =
        let in_q : first q < last q = laid_grows q l.1 in
        let rest : last q ≤ j = lie_order (last q) j qs l.2 in
        let x : i ≤ first q = omega (arith, le, l.0) in
        let inside : i < hi = omega (arith, lt, to) in
        let source : ListLies (source_at c q) = source_lies c.source (kind_of q) (first q) (parts q) (omega (arith, from, x)) (omega (arith, in_q, rest, to)) s.2 in
        lie_append (events (enter c k i j ps (ends_named ps) n q (is_more qs)) q) (events_of (pass c q) k i j ps (suc n) qs)
        (tree_lies (enter c k i j ps (ends_named ps) n q (is_more qs)) q l.1 (omega (arith, from, x)) (omega (arith, rest, to))
        (part_block c k i (first q) x b) (part_role c k i j (ends_named ps) n q (first q) from x lt to b r g s.2) (part_group c k i (first q) from x g)
        (part_site c k i ps n q from inside s, part_specification c k i from inside s.1, source))
        (parts_lie (pass c q) k i j ps (suc n) qs (last q) lt l.2 (omega (arith, x, in_q)) from to b r g (s.0, s.1, source))
    parts_lie c k i j ps n (skip qs) a lt l le from to b r g s = parts_lie c k i j ps (suc n) qs a lt l le from to b r g s
