-- Where the specifications lie in which the names of a tree stand: in the tree, or where its context says.
use Rattle.std.proofs.Common.{ℕ, zero, suc, ◌<◌, ◌≤◌, Bool, true, false, List, [], ◌∷◌, ◌++◌, Option, Some, None, arith}
use Rattle.std.specs.Prelude.{if◌then◌else◌, ◌||◌, nat_eq, nat_lt}
use Rattle.go_grammar.specs.declared.kind.Kind.{Kind}
use Rattle.go_grammar.specs.declared.kind.Kind.TheVariants as kind
use Rattle.go_grammar.specs.declared.kind.Sort.{Sort}
use Rattle.go_grammar.specs.declared.kind.Sort.TheVariants as sort
use Rattle.go_grammar.specs.Trees.{Tree, node, Trees, none, more, skip, kind_of, first, last, parts}
use Rattle.go_grammar.specs.Grammar.{is_name, count, ends_named}
use Rattle.go_tree.specs.Views.{part_at}
use Rattle.go_tree.specs.declared.context.Reach.TheVariants as reach
use Rattle.go_tree.specs.declared.context.Role.{Role}
use Rattle.go_tree.specs.declared.context.Role.TheVariants as role
use Rattle.go_tree.specs.declared.context.Scope.{Scope}
use Rattle.go_tree.specs.declared.context.Site.{Site}
use Rattle.go_tree.specs.declared.context.Site.TheVariants as site
use Rattle.go_tree.specs.declared.context.Context.{Context}
use Rattle.go_tree.specs.declared.event.Event.{Event}
use Rattle.go_tree.specs.declared.event.Event.TheVariants as event
use Rattle.go_tree.specs.Contexts.{is_there, is_called, specified, defined, ranged, role_in, site_in, specification_in, source_of, own_source, source_in, has_values, called_in, if_name, if_first, field_role, key_role, parameter_role, entry_role, element_site, length_site, column_site, value_site, sequence_site, typed_site, function_site, enter}
use Rattle.go_tree.specs.Events.{name_events, own_events, statement_events, misplaced, is_default, default_events, second_defaults, function_events, is_more, pass, begin, events, events_of}
use Rattle.go_scopes_events.proofs.Public.{behind_name, IsLaidOut, LieIn, laid_grows, lie_order}

name_behind : (k : Kind) (i : ℕ) → i ≤ behind_name k i
name_behind kind.FunctionDeclaration i = omega arith
name_behind (kind.Specification sort.Type) i = omega arith
name_behind kind.DeclaredName i = omega arith
name_behind kind.Name i = omega arith
name_behind k i = omega arith

module _ (lo hi : ℕ) where
  abbrev pub NumberIn : Option ℕ → Type 0
  NumberIn None = Unit {0}
  NumberIn (Some s) = (lo ≤ s) × (s < hi)

  abbrev pub SiteIn : Site → Type 0
  SiteIn site.Elsewhere = Unit {0}
  SiteIn (site.Type s) = (lo ≤ s) × (s < hi)
  SiteIn (site.Value s column alone) = (lo ≤ s) × (s < hi)
  SiteIn (site.Right s r) = (lo ≤ s) × (s < hi)

  abbrev RoleIn : Role → Type 0
  RoleIn (role.New d) = NumberIn d.source
  RoleIn r = Unit {0}

  -- of each name the specification lies there: that in which it is looked up, or whose type and values it has
  abbrev pub AllIn : List Event → Type 0
  AllIn [] = Unit {0}
  AllIn (event.Declaration d ∷ es) = NumberIn d.source × AllIn es
  AllIn (event.Use u ∷ es) = SiteIn u.site × AllIn es
  AllIn (e ∷ es) = AllIn es

  pub record ContextIn (c : Context) : Type 0 where
    pub site : SiteIn c.site
    pub specification : NumberIn c.specification
    pub source : NumberIn c.source
    pub role : RoleIn c.role

  pub in_append : (es fs : List Event) → AllIn es → AllIn fs → AllIn (es ++ fs)
  in_append [] fs h g = g
  in_append (event.Declaration d ∷ es) fs h g = (h.0, in_append es fs h.1 g)
  in_append (event.Use u ∷ es) fs h g = (h.0, in_append es fs h.1 g)
  in_append (e ∷ es) fs h g = in_append es fs h g

  -- ---- a node by itself

  name_in : (c : Context) (i : ℕ) (r : Role) → ContextIn c → RoleIn r → AllIn (name_events c i r)
  name_in c i (role.New d) h r = (r, tt)
  name_in c i (role.Field g) h r = tt
  name_in c i (role.Key g) h r = tt
  name_in c i (role.Parameter g None) h r = tt
  name_in c i (role.Parameter g (Some s)) h r = (tt, tt)
  name_in c i r h g = (h.site, tt)

  statement_in : (b : Bool) (i j : ℕ) → AllIn (statement_events b i j)
  statement_in true i j = tt
  statement_in false i j = tt

  misplaced_in : (b : Bool) (i j : ℕ) → AllIn (misplaced b i j)
  misplaced_in true i j = tt
  misplaced_in false i j = tt

  default_in : (d b : Bool) (word : ℕ) → AllIn (default_events d b word)
  default_in true true word = tt
  default_in true false word = tt
  default_in false b word = tt

  second_in : (b : Bool) (ps : Trees) → AllIn (second_defaults b ps)
  second_in b none = tt
  second_in b (skip ps) = second_in b ps
  second_in b (more t ps) = in_append (default_events (is_default (kind_of t)) b (first t)) (second_defaults (b || is_default (kind_of t)) ps) (default_in (is_default (kind_of t)) b (first t)) (second_in (b || is_default (kind_of t)) ps)

  function_in : (i j : ℕ) (x y : Bool) → lo ≤ i → i < hi → AllIn (if x then function_events i j y else [])
  function_in i j true true from to = ((from, to), tt)
  function_in i j true false from to = ((from, to), tt)
  function_in i j false y from to = tt

  own_in : (c : Context) (k : Kind) (i j : ℕ) (ps : Trees) → lo ≤ i → i < hi → ContextIn c → AllIn (own_events c k i j ps)
  own_in c kind.FunctionDeclaration i j ps from to h = function_in i j (nat_lt i j) (is_there (part_at ps 1)) from to
  own_in c (kind.Specification sort.Type) i j ps from to h = ((from, to), tt)
  own_in c kind.DeclaredName i j ps from to h = name_in c i c.role h h.role
  own_in c kind.Name i j ps from to h = name_in c i c.role h h.role
  own_in c kind.Switch i j ps from to h = second_in false ps
  own_in c kind.Break i j ps from to h = misplaced_in c.breaks i j
  own_in c kind.Continue i j ps from to h = misplaced_in c.continues i j
  own_in c kind.Fallthrough i j ps from to h = misplaced_in c.falls i j
  own_in c k i j ps from to h = tt

  -- ---- the context of a part

  if_in : (p : Tree) (r : Role) → RoleIn r → RoleIn (if_name p r)
  if_in p r h = elim (is_name (kind_of p)) as (λ b. RoleIn (if b then r else role.Operand)) [ true ↦ h | false ↦ tt ]

  first_in : (n : ℕ) (r : Role) → RoleIn r → RoleIn (if_first n r)
  first_in zero r h = h
  first_in (suc n) r h = tt

  callee_in : (r : Role) → RoleIn (called_in r)
  callee_in role.Called = tt
  callee_in r = tt

  entry_in : (named : Bool) (p : Tree) (group : ℕ) (s : Option Scope) → RoleIn (entry_role named p group s)
  entry_in true p group s = if_in p (role.Parameter group s) tt
  entry_in false p group s = tt

  field_in : (group : Option ℕ) → RoleIn (field_role group)
  field_in None = tt
  field_in (Some g) = tt

  key_in : (group : Option ℕ) → RoleIn (key_role group)
  key_in None = tt
  key_in (Some g) = tt

  parameter_in : (group : Option ℕ) (s : Option Scope) → RoleIn (parameter_role group s)
  parameter_in None s = tt
  parameter_in (Some g) s = tt

  part_role : (c : Context) (k : Kind) (i j : ℕ) (named : Bool) (n : ℕ) (p : Tree) → ContextIn c → RoleIn (role_in c k i j named n p)
  part_role c (kind.Specification sort.Constant) i j named n p h = first_in n (role.New (specified c sort.Constant i j)) h.source
  part_role c (kind.Specification sort.Variable) i j named n p h = first_in n (role.New (specified c sort.Variable i j)) h.source
  part_role c kind.Define i j named n p h = first_in n (role.New (defined c i j)) tt
  part_role c kind.DefiningRange i j named n p h = first_in n (role.New (ranged c i j)) tt
  part_role c kind.NameList i j named n p h = h.role
  part_role c kind.NewNames i j named n p h = h.role
  part_role c kind.ExpressionList i j named n p h = if_in p c.role h.role
  part_role c kind.Call i j named n p h = first_in n role.Called tt
  part_role c kind.Parenthesized i j named n p h = callee_in c.role
  part_role c kind.Selector i j named n p h = if_in p (role.Selected j (is_called c.role)) tt
  part_role c kind.Fields i j named n p h = first_in n (field_role c.group) (field_in c.group)
  part_role c kind.Keyed i j named n p h = first_in n (key_role c.group) (key_in c.group)
  part_role c kind.Parameters i j named n p h = entry_in named p i c.parameters
  part_role c kind.Parameter i j named n p h = first_in n (parameter_role c.group c.parameters) (parameter_in c.group c.parameters)
  part_role c k i j named n p h = tt

  element_in : (b : Bool) (s : Site) → SiteIn s → SiteIn (element_site b s)
  element_in true s h = h
  element_in false (site.Right d reach.Direct) h = h
  element_in false s h = h

  length_in : (s : Site) → SiteIn s → SiteIn (length_site s)
  length_in (site.Right d r) h = h
  length_in s h = h

  column_in : (n : ℕ) (s : Site) → SiteIn s → SiteIn (column_site n s)
  column_in n (site.Value d m alone) h = h
  column_in n s h = h

  value_in : (o : Option ℕ) (alone : Bool) → NumberIn o → SiteIn (value_site o alone)
  value_in None alone h = tt
  value_in (Some s) alone h = h

  sequence_in : (c : Context) (ps : Trees) (n : ℕ) → SiteIn c.site → SiteIn (sequence_site c ps n)
  sequence_in c ps zero h = length_in c.site h
  sequence_in c ps (suc n) h = element_in (is_there (part_at ps 0)) c.site h

  typed_in : (c : Context) (n : ℕ) (p : Tree) → ContextIn c → SiteIn (typed_site c n p)
  typed_in c zero p h = h.site
  typed_in c (suc n) p h = value_in c.specification (nat_eq (count (parts p)) 1) h.specification

  signature_in : (i n : ℕ) → lo ≤ i → i < hi → SiteIn (function_site i n)
  signature_in i zero from to = (from, to)
  signature_in i (suc n) from to = tt

  part_site : (c : Context) (k : Kind) (i : ℕ) (ps : Trees) (n : ℕ) (p : Tree) → lo ≤ i → i < hi → ContextIn c → SiteIn (site_in c k i ps n p)
  part_site c (kind.Specification sort.Type) i ps n p from to h = (from, to)
  part_site c (kind.Specification s) i ps n p from to h = (from, to)
  part_site c kind.Values i ps n p from to h = value_in c.specification (nat_eq (count (parts p)) 1) h.specification
  part_site c kind.TypedValues i ps n p from to h = typed_in c n p h
  part_site c kind.ExpressionList i ps n p from to h = column_in n c.site h.site
  part_site c kind.FunctionDeclaration i ps n p from to h = signature_in i n from to
  part_site c kind.SequenceType i ps n p from to h = sequence_in c ps n h.site
  part_site c kind.FunctionType i ps n p from to h = element_in false c.site h.site
  part_site c k i ps n p from to h = h.site

  part_specification : (c : Context) (k : Kind) (i : ℕ) → lo ≤ i → i < hi → NumberIn c.specification → NumberIn (specification_in c k i)
  part_specification c (kind.Specification s) i from to h = (from, to)
  part_specification c k i from to h = h

  own_source_in : (source : Option ℕ) (s : Sort) (i : ℕ) (ps : Trees) → lo ≤ i → i < hi → NumberIn source → NumberIn (own_source source s i ps)
  own_source_in source s i ps from to h = elim (has_values s ps) as (λ b. NumberIn (if b then Some i else source)) [ true ↦ (from, to) | false ↦ h ]

  part_source : (source : Option ℕ) (k : Kind) (i : ℕ) (ps : Trees) → lo ≤ i → i < hi → NumberIn source → NumberIn (source_of source k i ps)
  part_source source (kind.Specification s) i ps from to h = own_source_in source s i ps from to h
  part_source source k i ps from to h = h

  begin_source : (c : Context) (k : Kind) → NumberIn c.source → NumberIn (source_in c k)
  begin_source c (kind.Declaration s) h = tt
  begin_source c k h = h

  begin_in : (c : Context) (k : Kind) → ContextIn c → ContextIn (begin c k)
  begin_in c k h = record { site = h.site; specification = h.specification; source = begin_source c k h.source; role = h.role }

  pass_in : (c : Context) (p : Tree) → lo ≤ first p → first p < hi → ContextIn c → ContextIn (pass c p)
  pass_in c p from to h = record { site = h.site; specification = h.specification; source = part_source c.source (kind_of p) (first p) (parts p) from to h.source; role = h.role }

  enter_in : (c : Context) (k : Kind) (i j : ℕ) (ps : Trees) (named : Bool) (n : ℕ) (p : Tree) (b : Bool) → lo ≤ i → i < hi → lo ≤ first p → first p < hi → ContextIn c
      → ContextIn (enter c k i j ps named n p b)
  enter_in c k i j ps named n p b from to low high h = record {
    site = part_site c k i ps n p from to h;
    specification = part_specification c k i from to h.specification;
    source = part_source c.source (kind_of p) (first p) (parts p) low high h.source;
    role = part_role c k i j named n p h;
  }

  -- ---- trees

  mutual
    pub tree_in : (c : Context) (t : Tree) → IsLaidOut t → lo ≤ first t → last t ≤ hi → ContextIn c → AllIn (events c t)
    tree_in c (node k i j ps) l from to h =
        let some : i < hi = omega (arith, laid_grows (node k i j ps) l, to) in
        in_append (statement_events c.listed i j ++ own_events c k i j ps) (events_of (begin c k) k i j ps 0 ps)
        (in_append (statement_events c.listed i j) (own_events c k i j ps) (statement_in c.listed i j) (own_in c k i j ps from some h))
        (parts_in (begin c k) k i j ps 0 ps (behind_name k i) l.1 from some (omega (arith, name_behind k i, from)) to (begin_in c k h))

    parts_in : (c : Context) (k : Kind) (i j : ℕ) (ps : Trees) (n : ℕ) (qs : Trees) (a : ℕ) → LieIn a j qs → lo ≤ i → i < hi → lo ≤ a → j ≤ hi → ContextIn c → AllIn (events_of c k i j ps n qs)
    parts_in c k i j ps n none a l from to low high h = tt
    parts_in c k i j ps n (more q qs) a l from to low high h =
        let in_q : first q < last q = laid_grows q l.1 in
        let rest : last q ≤ j = lie_order (last q) j qs l.2 in
        let begins : lo ≤ first q = omega (arith, low, l.0) in
        let ends : first q < hi = omega (arith, in_q, rest, high) in
        in_append (events (enter c k i j ps (ends_named ps) n q (is_more qs)) q) (events_of (pass c q) k i j ps (suc n) qs)
        (tree_in (enter c k i j ps (ends_named ps) n q (is_more qs)) q l.1 begins (omega (arith, rest, high)) (enter_in c k i j ps (ends_named ps) n q (is_more qs) from to begins ends h))
        (parts_in (pass c q) k i j ps (suc n) qs (last q) l.2 from to (omega (arith, low, l.0, in_q)) high (pass_in c q begins ends h))
    parts_in c k i j ps n (skip qs) a l from to low high h = parts_in c k i j ps (suc n) qs a l from to low high h
