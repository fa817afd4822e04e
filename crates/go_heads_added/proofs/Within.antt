-- What a tree tells of stands inside it.
use Rattle.std.proofs.Common.{ℕ, zero, suc, ◌<◌, ◌≤◌, Bool, true, false, ◌||◌, List, [], ◌∷◌, ◌++◌, Option, Some, None, arith}
use Rattle.std.specs.Prelude.{if◌then◌else◌, nat_eq, nat_lt}
use Rattle.std.specs.List.{AllByRecursion}
use Rattle.go_grammar.specs.declared.kind.Kind.{Kind}
use Rattle.go_grammar.specs.declared.kind.Kind.TheVariants as kind
use Rattle.go_grammar.specs.declared.kind.Sort.TheVariants as sort
use Rattle.go_grammar.specs.Trees.{Tree, node, Trees, none, more, skip, kind_of, first, last, parts}
use Rattle.go_grammar.specs.Grammar.{ends_named, is_name, count}
use Rattle.go_tree.specs.Views.{part_at}
use Rattle.go_tree.specs.declared.context.Role.{Role}
use Rattle.go_tree.specs.declared.context.Role.TheVariants as role
use Rattle.go_tree.specs.declared.context.Scope.{Scope}
use Rattle.go_tree.specs.declared.context.Site.{Site}
use Rattle.go_tree.specs.declared.context.Site.TheVariants as site
use Rattle.go_tree.specs.declared.context.Reach.TheVariants as reach
use Rattle.go_tree.specs.declared.context.Context.{Context}
use Rattle.go_tree.specs.declared.event.Event.{Event}
use Rattle.go_tree.specs.Contexts.{is_there, specified, defined, ranged, is_called, called_in, if_name, if_first, field_role, key_role, parameter_role, entry_role, role_in, group_in, specification_in, value_site, element_site, length_site, column_site, typed_site, sequence_site, function_site, site_in, has_values, source_at, source_in, enter, file_context}
use Rattle.go_tree.specs.Events.{statement_events, own_events, name_events, function_events, misplaced, is_default, default_events, second_defaults, is_more, pass, begin, events, events_of}
use Rattle.go_scopes_events.proofs.Public.{IsLaidOut, LieIn, behind_name, laid_grows, lie_order}
use Rattle.go_heads_added.specs.Within.{RoleWithin, SiteWithin, SourceWithin, EventWithin}

module _ (hi : ℕ) where
  abbrev AllWithin : List Event → Type 0
  AllWithin es = AllByRecursion (EventWithin hi) es

  both : (es fs : List Event) → AllWithin es → AllWithin fs → AllWithin (es ++ fs)
  both [] fs h g = g
  both (e ∷ es) fs h g = (h.0, both es fs h.1 g)

  abbrev GroupWithin : Option ℕ → Type 0
  GroupWithin None = Unit {0}
  GroupWithin (Some g) = g < hi

  abbrev SourceIn : Option ℕ → Type 0
  SourceIn None = Unit {0}
  SourceIn (Some s) = s < hi

  source_within : (o : Option ℕ) → SourceIn o → SourceWithin hi o
  source_within None h = tt
  source_within (Some s) h = h

  abbrev SiteIn : Site → Type 0
  SiteIn x = SiteWithin hi x

  -- what a name is for: a declaration with its specification, a selector, or the group of a member
  abbrev RoleIn : Role → Type 0
  RoleIn (role.New d) = SourceIn d.source
  RoleIn (role.Selected l b) = l ≤ hi
  RoleIn (role.Field g) = g < hi
  RoleIn (role.Key g) = g < hi
  RoleIn (role.Parameter g x) = g < hi
  RoleIn r = Unit {0}

  role_within : (r : Role) → RoleIn r → RoleWithin hi r
  role_within (role.Selected l b) h = h
  role_within r h = tt

  -- ---- what a node tells by itself

  name_within : (c : Context) (i : ℕ) (r : Role) → i < hi → RoleIn c.role → SiteIn c.site → RoleIn r → AllWithin (name_events c i r)
  name_within c i (role.New d) l a z h = ((l, source_within d.source h), tt)
  name_within c i (role.Field g) l a z h = ((h, l), tt)
  name_within c i (role.Key g) l a z h = ((h, l), tt)
  name_within c i (role.Parameter g None) l a z h = ((h, l), tt)
  name_within c i (role.Parameter g (Some s)) l a z h = ((h, l), ((l, tt), tt))
  name_within c i r l a z h = ((l, role_within c.role a, z), tt)

  statement_within : (b : Bool) (i j : ℕ) → AllWithin (statement_events b i j)
  statement_within true i j = (tt, tt)
  statement_within false i j = tt

  misplaced_within : (b : Bool) (i j : ℕ) → AllWithin (misplaced b i j)
  misplaced_within true i j = tt
  misplaced_within false i j = (tt, tt)

  default_within : (d b : Bool) (w : ℕ) → AllWithin (default_events d b w)
  default_within true true w = (tt, tt)
  default_within true false w = tt
  default_within false b w = tt

  second_within : (b : Bool) (ps : Trees) → AllWithin (second_defaults b ps)
  second_within b none = tt
  second_within b (skip ps) = second_within b ps
  second_within b (more p ps) =
      both (default_events (is_default (kind_of p)) b (first p)) (second_defaults (b || is_default (kind_of p)) ps) (default_within (is_default (kind_of p)) b (first p)) (second_within (b || is_default (kind_of p)) ps)

  below : (i : ℕ) → suc i < hi → i < hi
  below i l = omega (arith, l)

  function_within : (b d : Bool) (i j : ℕ) → suc i < hi → j ≤ hi → AllWithin (if b then function_events i j d else [])
  function_within true true i j l e = ((l, below i l), tt)
  function_within true false i j l e = ((l, below i l), (e, tt))
  function_within false d i j l e = tt

  own_within : (c : Context) (k : Kind) (i j : ℕ) (ps : Trees) → i < j → behind_name k i ≤ j → j ≤ hi → RoleIn c.role → SiteIn c.site → AllWithin (own_events c k i j ps)
  own_within c kind.ImportPath i j ps l b h r z = ((let e : i < hi = omega (arith, l, h) in e), tt)
  own_within c kind.FunctionDeclaration i j ps l b h r z = function_within (nat_lt i j) (is_there (part_at ps 1)) i j (omega (arith, b, h)) h
  own_within c (kind.Specification sort.Type) i j ps l b h r z = let e : i < hi = omega (arith, l, h) in ((e, e), tt)
  own_within c kind.DeclaredName i j ps l b h r z = name_within c i c.role (omega (arith, l, h)) r z r
  own_within c kind.Name i j ps l b h r z = name_within c i c.role (omega (arith, l, h)) r z r
  own_within c kind.Switch i j ps l b h r z = second_within false ps
  own_within c kind.Break i j ps l b h r z = misplaced_within c.breaks i j
  own_within c kind.Continue i j ps l b h r z = misplaced_within c.continues i j
  own_within c kind.Fallthrough i j ps l b h r z = misplaced_within c.falls i j
  own_within c k i j ps l b h r z = tt

  -- ---- contexts of parts

  first_in : (n : ℕ) (r : Role) → RoleIn r → RoleIn (if_first n r)
  first_in zero r h = h
  first_in (suc n) r h = tt

  named_in : (p : Tree) (r : Role) → RoleIn r → RoleIn (if_name p r)
  named_in p r h = elim (is_name (kind_of p)) as (λ b. RoleIn (if b then r else role.Operand)) [ true ↦ h | false ↦ tt ]

  called_role : (r : Role) → RoleIn (called_in r)
  called_role role.Called = tt
  called_role r = tt

  field_in : (g : Option ℕ) → GroupWithin g → RoleIn (field_role g)
  field_in None h = tt
  field_in (Some g) h = h

  key_in : (g : Option ℕ) → GroupWithin g → RoleIn (key_role g)
  key_in None h = tt
  key_in (Some g) h = h

  parameter_in : (g : Option ℕ) (x : Option Scope) → GroupWithin g → RoleIn (parameter_role g x)
  parameter_in None x h = tt
  parameter_in (Some g) x h = h

  entry_in : (named : Bool) (p : Tree) (i : ℕ) (x : Option Scope) → i < hi → RoleIn (entry_role named p i x)
  entry_in true p i x h = named_in p (role.Parameter i x) h
  entry_in false p i x h = tt

  part_role : (c : Context) (k : Kind) (i j : ℕ) (named : Bool) (n : ℕ) (p : Tree) → i < hi → j ≤ hi → RoleIn c.role → GroupWithin c.group → SourceIn c.source → RoleIn (role_in c k i j named n p)
  part_role c (kind.Specification sort.Constant) i j named n p l e r g o = first_in n (role.New (specified c sort.Constant i j)) o
  part_role c (kind.Specification sort.Variable) i j named n p l e r g o = first_in n (role.New (specified c sort.Variable i j)) o
  part_role c (kind.Specification sort.Type) i j named n p l e r g o = tt
  part_role c kind.Define i j named n p l e r g o = first_in n (role.New (defined c i j)) tt
  part_role c kind.DefiningRange i j named n p l e r g o = first_in n (role.New (ranged c i j)) tt
  part_role c kind.NameList i j named n p l e r g o = r
  part_role c kind.NewNames i j named n p l e r g o = r
  part_role c kind.Targets i j named n p l e r g o = tt
  part_role c kind.ExpressionList i j named n p l e r g o = named_in p c.role r
  part_role c kind.Call i j named n p l e r g o = first_in n role.Called tt
  part_role c kind.Parenthesized i j named n p l e r g o = called_role c.role
  part_role c kind.Selector i j named n p l e r g o = named_in p (role.Selected j (is_called c.role)) e
  part_role c kind.Fields i j named n p l e r g o = first_in n (field_role c.group) (field_in c.group g)
  part_role c kind.Keyed i j named n p l e r g o = first_in n (key_role c.group) (key_in c.group g)
  part_role c kind.Parameters i j named n p l e r g o = entry_in named p i c.parameters l
  part_role c kind.Parameter i j named n p l e r g o = first_in n (parameter_role c.group c.parameters) (parameter_in c.group c.parameters g)
  part_role c k i j named n p l e r g o = tt

  part_group : (c : Context) (k : Kind) (i : ℕ) → i < hi → GroupWithin c.group → GroupWithin (group_in c k i)
  part_group c kind.StructType i l g = l
  part_group c kind.Composite i l g = l
  part_group c kind.LiteralValue i l g = l
  part_group c kind.Parameters i l g = l
  part_group c k i l g = g

  part_specification : (c : Context) (k : Kind) (i : ℕ) → i < hi → SourceIn c.specification → SourceIn (specification_in c k i)
  part_specification c (kind.Specification x) i l h = l
  part_specification c k i l h = h

  values_within : (o : Option ℕ) (alone : Bool) → SourceIn o → SiteIn (value_site o alone)
  values_within None alone h = tt
  values_within (Some x) alone h = h

  length_within : (x : Site) → SiteIn x → SiteIn (length_site x)
  length_within (site.Right d r) h = h
  length_within site.Elsewhere h = tt
  length_within (site.Type d) h = h
  length_within (site.Value d m alone) h = h

  element_within : (b : Bool) (x : Site) → SiteIn x → SiteIn (element_site b x)
  element_within true x h = h
  element_within false (site.Right d reach.Direct) h = h
  element_within false (site.Right d reach.Indirect) h = h
  element_within false (site.Right d reach.Length) h = h
  element_within false site.Elsewhere h = tt
  element_within false (site.Type d) h = h
  element_within false (site.Value d m alone) h = h

  column_within : (n : ℕ) (x : Site) → SiteIn x → SiteIn (column_site n x)
  column_within n (site.Value d m alone) h = h
  column_within n (site.Right d r) h = h
  column_within n site.Elsewhere h = tt
  column_within n (site.Type d) h = h

  typed_within : (c : Context) (n : ℕ) (p : Tree) → SiteIn c.site → SourceIn c.specification → SiteIn (typed_site c n p)
  typed_within c zero p h o = h
  typed_within c (suc n) p h o = values_within c.specification (nat_eq (count (parts p)) 1) o

  sequence_within : (c : Context) (ps : Trees) (n : ℕ) → SiteIn c.site → SiteIn (sequence_site c ps n)
  sequence_within c ps zero h = length_within c.site h
  sequence_within c ps (suc n) h = element_within (is_there (part_at ps 0)) c.site h

  signature_within : (i n : ℕ) → i < hi → SiteIn (function_site i n)
  signature_within i zero l = l
  signature_within i (suc n) l = tt

  part_site : (c : Context) (k : Kind) (i : ℕ) (ps : Trees) (n : ℕ) (p : Tree) → i < hi → SiteIn c.site → SourceIn c.specification → SiteIn (site_in c k i ps n p)
  part_site c (kind.Specification sort.Constant) i ps n p l h o = l
  part_site c (kind.Specification sort.Type) i ps n p l h o = l
  part_site c (kind.Specification sort.Variable) i ps n p l h o = l
  part_site c kind.Values i ps n p l h o = values_within c.specification (nat_eq (count (parts p)) 1) o
  part_site c kind.TypedValues i ps n p l h o = typed_within c n p h o
  part_site c kind.ExpressionList i ps n p l h o = column_within n c.site h
  part_site c kind.FunctionDeclaration i ps n p l h o = signature_within i n l
  part_site c kind.SequenceType i ps n p l h o = sequence_within c ps n h
  part_site c kind.FunctionType i ps n p l h o = element_within false c.site h
  part_site c k i ps n p l h o = h

  begin_source : (c : Context) (k : Kind) → SourceIn c.source → SourceIn (source_in c k)
  begin_source c (kind.Declaration x) h = tt
  begin_source c k h = h

  specified_source : (b : Bool) (i : ℕ) (o : Option ℕ) → i < hi → SourceIn o → SourceIn (if b then Some i else o)
  specified_source true i o l h = l
  specified_source false i o l h = h

  part_source : (c : Context) (p : Tree) → first p < hi → SourceIn c.source → SourceIn (source_at c p)
  part_source c (node (kind.Specification x) i j ps) l h = specified_source (has_values x ps) i c.source l h
  part_source c (node k i j ps) l h = h

  -- what is known around a node
  record IsInside (c : Context) : Type 0 where
    role : RoleIn c.role
    group : GroupWithin c.group
    site : SiteIn c.site
    specification : SourceIn c.specification
    source : SourceIn c.source

  inside_begin : (c : Context) (k : Kind) → IsInside c → IsInside (begin c k)
  inside_begin c k a = record { role = a.role; group = a.group; site = a.site; specification = a.specification; source = begin_source c k a.source }

  inside_pass : (c : Context) (p : Tree) → first p < hi → IsInside c → IsInside (pass c p)
  inside_pass c p l a = record { role = a.role; group = a.group; site = a.site; specification = a.specification; source = part_source c p l a.source }

  inside_part : (c : Context) (k : Kind) (i j : ℕ) (ps : Trees) (n : ℕ) (p : Tree) (b : Bool) → i < hi → j ≤ hi → first p < hi → IsInside c → IsInside (enter c k i j ps (ends_named ps) n p b)
  inside_part c k i j ps n p b l e f a = record {
    role = part_role c k i j (ends_named ps) n p l e a.role a.group a.source;
    group = part_group c k i l a.group;
    site = part_site c k i ps n p l a.site a.specification;
    specification = part_specification c k i l a.specification;
    source = part_source c p f a.source;
  }

  -- ---- trees

  mutual
    tree_within : (c : Context) (t : Tree) → IsLaidOut t → last t ≤ hi → IsInside c → AllWithin (events c t)
    tree_within c (node k i j ps) l h a =
        let grows = l.0 in
        both (statement_events c.listed i j ++ own_events c k i j ps) (events_of (begin c k) k i j ps 0 ps)
        (both (statement_events c.listed i j) (own_events c k i j ps) (statement_within c.listed i j) (own_within c k i j ps l.0 (lie_order (behind_name k i) j ps l.1) h a.role a.site))
        (parts_within (begin c k) k i j ps 0 ps (behind_name k i) l.1 (omega (arith, grows, h)) h (inside_begin c k a))

    parts_within : (c : Context) (k : Kind) (i j : ℕ) (all : Trees) (n : ℕ) (qs : Trees) (lo : ℕ) → LieIn lo j qs → i < hi → j ≤ hi → IsInside c → AllWithin (events_of c k i j all n qs)
    parts_within c k i j all n none lo l e h a = tt
    parts_within c k i j all n (skip qs) lo l e h a = parts_within c k i j all (suc n) qs lo l e h a
    parts_within c k i j all n (more p qs) lo l e h a =
        let inner : Context = enter c k i j all (ends_named all) n p (is_more qs) in
        let end : last p ≤ hi = let o = lie_order (last p) j qs l.2 in omega (arith, o, h) in
        let begins : first p < hi = let g = laid_grows p l.1 in omega (arith, g, end) in
        both (events inner p) (events_of (pass c p) k i j all (suc n) qs) (tree_within inner p l.1 end (inside_part c k i j all n p (is_more qs) e h begins a))
        (parts_within (pass c p) k i j all (suc n) qs (last p) l.2 e h (inside_pass c p begins a))

-- what a file tells
pub file_within : (hi : ℕ) (t : Tree) → IsLaidOut t → last t ≤ hi → AllByRecursion (EventWithin hi) (events (file_context (last t)) t)
file_within hi t l h = tree_within hi (file_context (last t)) t l h (record { role = tt; group = tt; site = tt; specification = tt; source = tt })
