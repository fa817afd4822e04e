-- What a run tells of names in no hole, where names stand in place of its holes: all of it stays, and each such name is looked up once.
use Rattle.std.proofs.Common.{◌≡◌, ℕ, zero, suc, ◌<◌, ◌≤◌, ◌⊎◌, inl, inr, Bool, true, false, List, [], ◌∷◌, ◌++◌, Option, Some, None, refl, sym, ap, subst, arith}
use Rattle.std.specs.Prelude.{if◌then◌else◌, ◌||◌, ◌&&◌, not, nat_eq}
use Rattle.go_grammar.specs.declared.kind.Kind.{Kind}
use Rattle.go_grammar.specs.declared.kind.Kind.TheVariants as kind
use Rattle.go_grammar.specs.declared.kind.Sort.TheVariants as sort
use Rattle.go_grammar.specs.Trees.{Tree, node, Trees, none, more, skip, kind_of, first, last, parts}
use Rattle.go_grammar.specs.Grammar.{is_name, ends_named, count}
use Rattle.go_rewriting.specs.Places.{Patch, Patches, keep, put, inside, done, part, run, Range, range, places, places_in}
use Rattle.go_tree.specs.Views.{part_at}
use Rattle.go_tree.specs.declared.context.Block.{Block}
use Rattle.go_tree.specs.declared.context.Block.TheVariants as block
use Rattle.go_tree.specs.declared.context.Context.{Context}
use Rattle.go_tree.specs.declared.context.Naming.{Naming}
use Rattle.go_tree.specs.declared.context.Reach.TheVariants as reach
use Rattle.go_tree.specs.declared.context.Role.{Role}
use Rattle.go_tree.specs.declared.context.Role.TheVariants as role
use Rattle.go_tree.specs.declared.context.Scope.{Scope}
use Rattle.go_tree.specs.declared.context.Site.{Site}
use Rattle.go_tree.specs.declared.context.Site.TheVariants as site
use Rattle.go_tree.specs.declared.event.Declaration.{Declaration}
use Rattle.go_tree.specs.declared.event.Event.{Event}
use Rattle.go_tree.specs.declared.event.Event.TheVariants as event
use Rattle.go_tree.specs.declared.event.Use.{Use}
use Rattle.go_tree.specs.Contexts.{is_there, is_package, opens, block_in, end_in, is_called, role_in, called_in, if_name, if_first, field_role, key_role, parameter_role, entry_role, element_site, value_site}
use Rattle.go_tree.specs.Contexts.{typed_site, site_in, specification_in, source_in, source_of, source_at, own_source, group_in, parameters_in, initial_in, constant_in, enter}
use Rattle.go_tree.specs.Contexts as contexts
use Rattle.go_tree.specs.Events.{statement_events, own_events, name_events, misplaced, is_default, default_events, second_defaults, is_more, pass, begin, events, events_of}
use Rattle.go_scopes_events.proofs.Public.{IsLaidOut, LieIn, behind_name, lie_order, laid_grows, is_top, true_false}
use Rattle.go_scopes_bodies.specs.Carried.{carried_site}
use Rattle.go_scopes_bodies.specs.Listed.{is_specification, told_list}
use Rattle.extract_names.specs.Copies.{Replaced, Copy, StaysOutside, AtHole, IsKept, IsEdge, TokenKept, TokenBehind, RoleCopied, EventCopied, HoleIsNew, HoleGoes, AllCopied}
use Rattle.extract_names.specs.Pieces.{Piece, stays, gap, told_before}
use Rattle.extract_names.specs.Sites.{EachEvent, specification_at}
use Rattle.extract_names_derived.specs.Apart.{counts_first, NodeStays, hole_ranges, IsNoDeclaration, HolesLook, bare, AreHoles}
use Rattle.extract_names_derived.proofs.Beside.{Beside, Around, AllBeside, ApartIn, ApartInRow, list_apart}
use Rattle.extract_names_derived.specs.Holes.{copied_role, copied_context, may_be_replaced, gives_operands, may_hold_holes, is_simple_part, name_over, HolesIn, HolesInRow, HolesInList, hole_pieces, hole_row, hole_list}
use Rattle.extract_names_derived.proofs.CopiedEvents.{gives_role}
use Rattle.extract_names_derived.proofs.Fit.{IsFit, AreFit, part_inner}
use Rattle.extract_names_derived.proofs.Walk.{Calm}
use Rattle.extract_names_derived.proofs.Lying.{each_event_append, each_event_map}

-- ---- holes beside tokens

stays_between : (hs : List Replaced) (u w t : ℕ) → Beside hs u w → u ≤ t → t < w → StaysOutside hs t
stays_between [] u w t h le lt = tt
stays_between (h ∷ hs) u w t b le lt = (by b.0, stays_between hs u w t b.1 le lt)
  where
    by : (h.upto ≤ u) ⊎ (w ≤ h.from) → (t < h.from) ⊎ (h.upto ≤ t)
    by (inl x) = inr (omega (arith, x, le))
    by (inr x) = inl (omega (arith, x, lt))

beside_inside : (hs : List Replaced) (u w x y : ℕ) → Beside hs u w → u ≤ x → y ≤ w → Beside hs x y
beside_inside [] u w x y b le hi = tt
beside_inside (h ∷ hs) u w x y b le hi = (by b.0, beside_inside hs u w x y b.1 le hi)
  where
    by : (h.upto ≤ u) ⊎ (w ≤ h.from) → (h.upto ≤ x) ⊎ (y ≤ h.from)
    by (inl z) = inl (omega (arith, z, le))
    by (inr z) = inr (omega (arith, z, hi))

beside_around : (hs : List Replaced) (u w : ℕ) → Beside hs u w → Around hs u w
beside_around [] u w b = tt
beside_around (h ∷ hs) u w b = (by b.0, beside_around hs u w b.1)
  where
    by : (h.upto ≤ u) ⊎ (w ≤ h.from) → (h.upto ≤ u) ⊎ ((w ≤ h.from) ⊎ ((u ≤ h.from) × (h.upto ≤ w)))
    by (inl z) = inl z
    by (inr z) = inr (inl z)

edge_first : (hs : List Replaced) (u w : ℕ) → Around hs u w → u < w → AtHole hs u
edge_first [] u w b lt = tt
edge_first (h ∷ hs) u w b lt = (by b.0, edge_first hs u w b.1 lt)
  where
    by : (h.upto ≤ u) ⊎ ((w ≤ h.from) ⊎ ((u ≤ h.from) × (h.upto ≤ w))) → (u ≤ h.from) ⊎ (h.upto ≤ u)
    by (inl z) = inr z
    by (inr (inl z)) = inl (omega (arith, z, lt))
    by (inr (inr z)) = inl z.0

edge_last : (hs : List Replaced) (u w : ℕ) → Around hs u w → u < w → AtHole hs w
edge_last [] u w b lt = tt
edge_last (h ∷ hs) u w b lt = (by b.0, edge_last hs u w b.1 lt)
  where
    by : (h.upto ≤ u) ⊎ ((w ≤ h.from) ⊎ ((u ≤ h.from) × (h.upto ≤ w))) → (w ≤ h.from) ⊎ (h.upto ≤ w)
    by (inl z) = inr (omega (arith, z, lt))
    by (inr (inl z)) = inl z
    by (inr (inr z)) = inr z.1

module _ (cp : Copy) where
  abbrev pub Out : ℕ → Type 0
  Out t = IsKept cp t

  abbrev pub Edge : ℕ → Type 0
  Edge t = IsEdge cp t

  abbrev pub EndsOut : Block → ℕ → Type 0
  EndsOut k to = ((k ≡ block.Local cp.around) × (to ≡ cp.end)) ⊎ ((i : ℕ) × (k ≡ block.Local i) × Out i × Edge to)

  pub record NamingOut (k : Block) (d : Naming) : Type 0 where
    pub statement : Out d.statement
    pub from : Edge d.scope.from
    pub ends : EndsOut k d.scope.to
    pub source : TokenKept cp d.source

  abbrev pub RoleOut : Block → Role → Type 0
  RoleOut k (role.New d) = NamingOut k d
  RoleOut k (role.Selected l c) = (x : ℕ) × (l ≡ suc x) × Out x
  RoleOut k (role.Field g) = Out g
  RoleOut k (role.Key g) = Out g
  RoleOut k (role.Parameter g s) = Out g × (s ≡ None)
  RoleOut k r = Unit {0}

  pub record ContextOut (c : Context) : Type 0 where
    pub ends : EndsOut c.block c.end
    pub role : RoleOut c.block c.role
    pub site : TokenKept cp (specification_at c.site)
    pub specification : TokenKept cp c.specification
    pub source : TokenKept cp c.source
    pub group : TokenKept cp c.group
    pub parameters : c.parameters ≡ None
    pub initial : c.initial ≡ false
    pub local : is_package c.block ≡ false

  -- ---- what is told

  record DeclarationOut (d : Declaration) : Type 0 where
    name : Out d.name
    statement : Out d.statement
    from : Edge d.scope.from
    source : TokenKept cp d.source
    ends : EndsOut d.block d.scope.to

  record UseOut (u : Use) : Type 0 where
    name : Out u.name
    role : RoleCopied cp u.role
    specification : TokenKept cp (specification_at u.site)

  abbrev EventOut : Event → Type 0
  EventOut (event.Declaration d) = DeclarationOut d
  EventOut (event.Use u) = UseOut u
  EventOut (event.Member m g x) = Out g × Out x
  EventOut e = Unit {0}

  name_out : (c : Context) (i : ℕ) (r : Role) → Out i → RoleOut c.block r → TokenKept cp (specification_at c.site) → r ≡ c.role → EachEvent EventOut (name_events c i r)
  name_out c i (role.New d) at h s k = (record { name = at; statement = h.statement; from = h.from; source = h.source; ends = h.ends }, tt)
  name_out c i (role.Field g) at h s k = ((h, at), tt)
  name_out c i (role.Key g) at h s k = ((h, at), tt)
  name_out c i (role.Parameter g None) at h s k = ((h.0, at), tt)
  name_out c i (role.Parameter g (Some x)) at h s k = let no : Some x ≡ None = h.1 in absurd cc
  name_out c i (role.Selected l y) at h s k = (record { name = at; role = subst (λ v. RoleCopied cp v) k h; specification = s }, tt)
  name_out c i role.Operand at h s k = (record { name = at; role = subst (λ v. RoleCopied cp v) k tt; specification = s }, tt)
  name_out c i role.Assigned at h s k = (record { name = at; role = subst (λ v. RoleCopied cp v) k tt; specification = s }, tt)
  name_out c i role.Called at h s k = (record { name = at; role = subst (λ v. RoleCopied cp v) k tt; specification = s }, tt)

  statement_out : (x : Bool) (i j : ℕ) → EachEvent EventOut (statement_events x i j)
  statement_out true i j = (tt, tt)
  statement_out false i j = tt

  misplaced_out : (x : Bool) (i j : ℕ) → EachEvent EventOut (misplaced x i j)
  misplaced_out true i j = tt
  misplaced_out false i j = (tt, tt)

  default_out : (d x : Bool) (w : ℕ) → EachEvent EventOut (default_events d x w)
  default_out true true w = (tt, tt)
  default_out true false w = tt
  default_out false x w = tt

  second_out : (x : Bool) (ps : Trees) → EachEvent EventOut (second_defaults x ps)
  second_out x none = tt
  second_out x (skip ps) = second_out x ps
  second_out x (more p ps) = each_event_append EventOut (default_events (is_default (kind_of p)) x (first p)) (second_defaults (x || is_default (kind_of p)) ps) (default_out (is_default (kind_of p)) x (first p)) (second_out (x || is_default (kind_of p)) ps)

  -- ---- what stays of a node

  record NodeOut (k : Kind) (i j : ℕ) : Type 0 where
    begins : counts_first k ≡ true → Out i
    opened : opens k ≡ true → Out i
    selected : k ≡ kind.Selector → (x : ℕ) × (j ≡ suc x) × Out x
    from : Edge i
    upto : Edge j

  own_out : (c : Context) (k : Kind) (i j : ℕ) (ps : Trees) → is_top k ≡ false → NodeOut k i j → ContextOut c → EachEvent EventOut (own_events c k i j ps)
  own_out c kind.ImportPath i j ps top o h = (tt, tt)
  own_out c kind.FunctionDeclaration i j ps top o h = absurd (true_false true refl top)
  own_out c (kind.Specification sort.Type) i j ps top o h = (record { name = o.begins refl; statement = o.begins refl; from = o.from; source = o.begins refl; ends = h.ends }, tt)
  own_out c kind.DeclaredName i j ps top o h = name_out c i c.role (o.begins refl) h.role h.site refl
  own_out c kind.Name i j ps top o h = name_out c i c.role (o.begins refl) h.role h.site refl
  own_out c kind.Switch i j ps top o h = second_out false ps
  own_out c kind.Break i j ps top o h = misplaced_out c.breaks i j
  own_out c kind.Continue i j ps top o h = misplaced_out c.continues i j
  own_out c kind.Fallthrough i j ps top o h = misplaced_out c.falls i j
  own_out c k i j ps top o h = tt

  -- ---- what parts are given

  if_out : (k : Block) (p : Tree) (r : Role) → RoleOut k r → RoleOut k (if_name p r)
  if_out k p r h = elim (is_name (kind_of p)) as (λ x. RoleOut k (if x then r else role.Operand)) [ true ↦ h | false ↦ tt ]

  first_out : (k : Block) (n : ℕ) (r : Role) → RoleOut k r → RoleOut k (if_first n r)
  first_out k zero r h = h
  first_out k (suc n) r h = tt

  called_out : (k : Block) (r : Role) → RoleOut k (called_in r)
  called_out k role.Called = tt
  called_out k r = tt

  entry_out : (k : Block) (named : Bool) (p : Tree) (g : ℕ) (s : Option Scope) → Out g → s ≡ None → RoleOut k (entry_role named p g s)
  entry_out k true p g s at h = if_out k p (role.Parameter g s) (at, h)
  entry_out k false p g s at h = tt

  field_out : (k : Block) (g : Option ℕ) → TokenKept cp g → RoleOut k (field_role g)
  field_out k None h = tt
  field_out k (Some g) h = h

  key_out : (k : Block) (g : Option ℕ) → TokenKept cp g → RoleOut k (key_role g)
  key_out k None h = tt
  key_out k (Some g) h = h

  parameter_out : (k : Block) (g : Option ℕ) (s : Option Scope) → TokenKept cp g → s ≡ None → RoleOut k (parameter_role g s)
  parameter_out k None s at h = tt
  parameter_out k (Some g) s at h = (at, h)

  role_out : (c : Context) (k : Kind) (i j : ℕ) (named : Bool) (n : ℕ) (p : Tree) → NodeOut k i j → ContextOut c → RoleOut (block_in c k i) (role_in c k i j named n p)
  role_out c (kind.Specification sort.Constant) i j named n p o h =
      first_out c.block n (role.New (contexts.specified c sort.Constant i j)) (record { statement = o.begins refl; from = o.upto; ends = h.ends; source = h.source })
  role_out c (kind.Specification sort.Variable) i j named n p o h =
      first_out c.block n (role.New (contexts.specified c sort.Variable i j)) (record { statement = o.begins refl; from = o.upto; ends = h.ends; source = h.source })
  role_out c kind.Define i j named n p o h = first_out c.block n (role.New (contexts.defined c i j)) (record { statement = o.begins refl; from = o.upto; ends = h.ends; source = tt })
  role_out c kind.DefiningRange i j named n p o h = first_out c.block n (role.New (contexts.ranged c i j)) (record { statement = o.begins refl; from = o.upto; ends = h.ends; source = tt })
  role_out c kind.NameList i j named n p o h = h.role
  role_out c kind.NewNames i j named n p o h = h.role
  role_out c kind.Targets i j named n p o h = tt
  role_out c kind.ExpressionList i j named n p o h = if_out c.block p c.role h.role
  role_out c kind.Call i j named n p o h = first_out c.block n role.Called tt
  role_out c kind.Parenthesized i j named n p o h = called_out c.block c.role
  role_out c kind.Selector i j named n p o h = if_out c.block p (role.Selected j (is_called c.role)) (o.selected refl)
  role_out c kind.Fields i j named n p o h = first_out c.block n (field_role c.group) (field_out c.block c.group h.group)
  role_out c kind.Keyed i j named n p o h = first_out c.block n (key_role c.group) (key_out c.block c.group h.group)
  role_out c kind.Parameters i j named n p o h = entry_out c.block named p i c.parameters (o.begins refl) h.parameters
  role_out c kind.Parameter i j named n p o h = first_out c.block n (parameter_role c.group c.parameters) (parameter_out c.block c.group c.parameters h.group h.parameters)
  role_out c k i j named n p o h = tt

  ends_out : (c : Context) (k : Kind) (i j : ℕ) → NodeOut k i j → ContextOut c → EndsOut (block_in c k i) (end_in c k j)
  ends_out c k i j o h = by (opens k) o.opened
    where
      by : (x : Bool) → (x ≡ true → Out i) → EndsOut (if x then block.Local i else c.block) (if x then j else c.end)
      by true f = inr (i, refl, f refl, o.upto)
      by false f = h.ends

  value_out : (o : Option ℕ) (x : Bool) → TokenKept cp o → TokenKept cp (specification_at (value_site o x))
  value_out None x h = tt
  value_out (Some s) x h = h

  typed_out : (c : Context) (n : ℕ) (p : Tree) → TokenKept cp (specification_at c.site) → TokenKept cp c.specification → TokenKept cp (specification_at (typed_site c n p))
  typed_out c zero p h g = h
  typed_out c (suc n) p h g = value_out c.specification (nat_eq (count (parts p)) 1) g

  column_out : (n : ℕ) (s : Site) → TokenKept cp (specification_at s) → TokenKept cp (specification_at (contexts.column_site n s))
  column_out n (site.Value s k x) h = h
  column_out n site.Elsewhere h = h
  column_out n (site.Type s) h = h
  column_out n (site.Right s r) h = h

  length_out : (s : Site) → TokenKept cp (specification_at s) → TokenKept cp (specification_at (contexts.length_site s))
  length_out (site.Right s r) h = h
  length_out (site.Value s k x) h = h
  length_out site.Elsewhere h = h
  length_out (site.Type s) h = h

  element_out : (x : Bool) (s : Site) → TokenKept cp (specification_at s) → TokenKept cp (specification_at (element_site x s))
  element_out true s h = h
  element_out false (site.Right s reach.Direct) h = h
  element_out false (site.Right s reach.Indirect) h = h
  element_out false (site.Right s reach.Length) h = h
  element_out false (site.Value s k x) h = h
  element_out false site.Elsewhere h = h
  element_out false (site.Type s) h = h

  sequence_out : (c : Context) (ps : Trees) (n : ℕ) → TokenKept cp (specification_at c.site) → TokenKept cp (specification_at (contexts.sequence_site c ps n))
  sequence_out c ps zero h = length_out c.site h
  sequence_out c ps (suc n) h = element_out (is_there (part_at ps 0)) c.site h

  site_out : (c : Context) (k : Kind) (i j : ℕ) (ps : Trees) (n : ℕ) (p : Tree) → NodeOut k i j → is_top k ≡ false → TokenKept cp (specification_at c.site) → TokenKept cp c.specification → TokenKept cp (specification_at (site_in c k i ps n p))
  site_out c kind.FunctionDeclaration i j ps n p o top h g = absurd (true_false true refl top)
  site_out c (kind.Specification sort.Type) i j ps n p o top h g = o.begins refl
  site_out c (kind.Specification sort.Constant) i j ps n p o top h g = o.begins refl
  site_out c (kind.Specification sort.Variable) i j ps n p o top h g = o.begins refl
  site_out c kind.Values i j ps n p o top h g = value_out c.specification (nat_eq (count (parts p)) 1) g
  site_out c kind.TypedValues i j ps n p o top h g = typed_out c n p h g
  site_out c kind.ExpressionList i j ps n p o top h g = column_out n c.site h
  site_out c kind.SequenceType i j ps n p o top h g = sequence_out c ps n h
  site_out c kind.FunctionType i j ps n p o top h g = element_out false c.site h
  site_out c k i j ps n p o top h g = h

  specification_out : (c : Context) (k : Kind) (i j : ℕ) → NodeOut k i j → TokenKept cp c.specification → TokenKept cp (specification_in c k i)
  specification_out c (kind.Specification s) i j o h = o.begins refl
  specification_out c k i j o h = h

  -- the first token of a part counts where it is a specification
  abbrev FirstOut : Tree → Type 0
  FirstOut p = is_specification (kind_of p) ≡ true → Out (first p)

  source_of_out : (o : Option ℕ) (k : Kind) (i : ℕ) (ps : Trees) → (is_specification k ≡ true → Out i) → TokenKept cp o → TokenKept cp (source_of o k i ps)
  source_of_out o (kind.Specification s) i ps at h = elim (contexts.has_values s ps) as (λ x. TokenKept cp (if x then Some i else o)) [ true ↦ at refl | false ↦ h ]
  source_of_out o k i ps at h = h

  begin_out : (c : Context) (k : Kind) → TokenKept cp c.source → TokenKept cp (source_in c k)
  begin_out c (kind.Declaration s) h = tt
  begin_out c k h = h

  group_out : (c : Context) (k : Kind) (i j : ℕ) → NodeOut k i j → TokenKept cp c.group → TokenKept cp (group_in c k i)
  group_out c kind.StructType i j o h = o.begins refl
  group_out c kind.Composite i j o h = o.begins refl
  group_out c kind.LiteralValue i j o h = o.begins refl
  group_out c kind.Parameters i j o h = o.begins refl
  group_out c k i j o h = h

  parameters_out : (c : Context) (k : Kind) (j : ℕ) (ps : Trees) (n : ℕ) (p : Tree) → is_top k ≡ false → c.parameters ≡ None → parameters_in c k j ps n p ≡ None
  parameters_out c kind.FunctionDeclaration j ps n p top h = absurd (true_false true refl top)
  parameters_out c kind.FunctionType j ps n p top h = refl
  parameters_out c k j ps n p top h = h

  package_out : (c : Context) → is_package c.block ≡ false → contexts.package_value c ≡ false
  package_out c e = rw e refl

  initial_out : (c : Context) (k : Kind) (n : ℕ) → is_package c.block ≡ false → c.initial ≡ false → initial_in c k n ≡ false
  initial_out c kind.Values n l h = package_out c l
  initial_out c kind.TypedValues zero l h = refl
  initial_out c kind.TypedValues (suc n) l h = package_out c l
  initial_out c k n l h = h

  local_out : (c : Context) (k : Kind) (i : ℕ) → is_package c.block ≡ false → is_package (block_in c k i) ≡ false
  local_out c k i h = elim (opens k) as (λ x. is_package (if x then block.Local i else c.block) ≡ false) [ true ↦ refl | false ↦ h ]

  with_source : (c : Context) (s : Option ℕ) → TokenKept cp s → ContextOut c → ContextOut (record c { source = s })
  with_source c s g h = record { ends = h.ends; role = h.role; site = h.site; specification = h.specification; source = g; group = h.group; parameters = h.parameters; initial = h.initial; local = h.local }

  enter_out : (c : Context) (k : Kind) (i j : ℕ) (ps : Trees) (named : Bool) (n : ℕ) (p : Tree) (x : Bool) → is_top k ≡ false → FirstOut p → NodeOut k i j → ContextOut c → ContextOut (enter c k i j ps named n p x)
  enter_out c k i j ps named n p x top f o h = record {
    ends = ends_out c k i j o h;
    role = role_out c k i j named n p o h;
    site = site_out c k i j ps n p o top h.site h.specification;
    specification = specification_out c k i j o h.specification;
    source = source_of_out c.source (kind_of p) (first p) (parts p) f h.source;
    group = group_out c k i j o h.group;
    parameters = parameters_out c k j ps n p top h.parameters;
    initial = initial_out c k n h.local h.initial;
    local = local_out c k i h.local;
  }

  -- ---- trees that stay

  kept_node : (k : Kind) (i j : ℕ) → cp.from ≤ i → i < j → j ≤ cp.upto → Beside cp.holes i j → NodeOut k i j
  kept_node k i zero le lt hi b = absurd (omega (arith, lt))
  kept_node k i (suc y) le lt hi b =
      let at : Out i = (le, omega (arith, lt, hi), stays_between cp.holes i (suc y) i b (omega arith) lt) in
      record {
        begins = λ e. at;
        opened = λ e. at;
        selected = λ e. (y, refl, (omega (arith, le, lt), omega (arith, hi), stays_between cp.holes i (suc y) y b (omega (arith, lt)) (omega arith)));
        from = (le, omega (arith, lt, hi), edge_first cp.holes i (suc y) (beside_around cp.holes i (suc y) b) lt);
        upto = (omega (arith, le, lt), hi, edge_last cp.holes i (suc y) (beside_around cp.holes i (suc y) b) lt);
      }

  name_above : (k : Kind) (i : ℕ) → i ≤ behind_name k i
  name_above kind.FunctionDeclaration i = omega arith
  name_above (kind.Specification sort.Type) i = omega arith
  name_above kind.DeclaredName i = omega arith
  name_above kind.Name i = omega arith
  name_above k i = omega arith

  all_beside : (hs : List Replaced) (i j x : ℕ) (qs : Trees) → Beside hs i j → i ≤ x → LieIn x j qs → AllBeside hs qs
  all_beside hs i j x none b le l = tt
  all_beside hs i j x (skip qs) b le l = all_beside hs i j x qs b le l
  all_beside hs i j x (more q qs) b le l =
      let grows : first q < last q = laid_grows q l.1 in
      (beside_inside hs i j (first q) (last q) b (omega (arith, le, l.0)) (lie_order (last q) j qs l.2), all_beside hs i j (last q) qs b (omega (arith, le, l.0, grows)) l.2)

  mutual
    events_out : (c : Context) (t : Tree) → IsLaidOut t → IsFit t → is_top (kind_of t) ≡ false → cp.from ≤ first t → last t ≤ cp.upto → Beside cp.holes (first t) (last t) → ContextOut c → EachEvent EventOut (events c t)
    events_out c (node k i j ps) laid fit top le hi b h =
        let o = kept_node k i j le laid.0 hi b in
        each_event_append EventOut (statement_events c.listed i j ++ own_events c k i j ps) (events_of (begin c k) k i j ps 0 ps)
        (each_event_append EventOut (statement_events c.listed i j) (own_events c k i j ps) (statement_out c.listed i j) (own_out c k i j ps top o h))
        (parts_out (begin c k) k i j ps 0 ps (behind_name k i) (name_above k i) laid.1 fit.1 top le hi (all_beside cp.holes i j (behind_name k i) ps b (name_above k i) laid.1) o
        (with_source c (source_in c k) (begin_out c k h.source) h))

    parts_out : (c : Context) (k : Kind) (i j : ℕ) (ps : Trees) (n : ℕ) (qs : Trees) (x : ℕ) → i ≤ x → LieIn x j qs → AreFit k i qs → is_top k ≡ false → cp.from ≤ i → j ≤ cp.upto → AllBeside cp.holes qs → NodeOut k i j → ContextOut c
        → EachEvent EventOut (events_of c k i j ps n qs)
    parts_out c k i j ps n none x at laid fit top le hi b o h = tt
    parts_out c k i j ps n (skip qs) x at laid fit top le hi b o h = parts_out c k i j ps (suc n) qs x at laid fit top le hi b o h
    parts_out c k i j ps n (more q qs) x at laid fit top le hi b o h =
        let grows : first q < last q = laid_grows q laid.1 in
        let order : last q ≤ j = lie_order (last q) j qs laid.2 in
        let here : Out (first q) = (omega (arith, le, at, laid.0), omega (arith, grows, order, hi), stays_between cp.holes (first q) (last q) (first q) b.0 (omega arith) grows) in
        each_event_append EventOut (events (enter c k i j ps (ends_named ps) n q (is_more qs)) q) (events_of (pass c q) k i j ps (suc n) qs)
        (events_out (enter c k i j ps (ends_named ps) n q (is_more qs)) q laid.1 fit.2 (part_inner k (kind_of q) top fit.0) here.0 (omega (arith, order, hi)) b.0
        (enter_out c k i j ps (ends_named ps) n q (is_more qs) top (λ e. here) o h))
        (parts_out (pass c q) k i j ps (suc n) qs (last q) (omega (arith, at, laid.0, grows)) laid.2 fit.3 top le hi b.1 o
        (with_source c (source_at c q) (source_of_out c.source (kind_of q) (first q) (parts q) (λ e. here) h.source) h))

  -- ---- a tree looks names up in its own tokens

  abbrev UseIn : ℕ → ℕ → Event → Type 0
  UseIn a b (event.Use u) = (a ≤ u.name) × (u.name < b)
  UseIn a b e = Unit {0}

  name_uses : (a b : ℕ) (c : Context) (i : ℕ) (r : Role) → a ≤ i → i < b → EachEvent (UseIn a b) (name_events c i r)
  name_uses a b c i (role.New d) le lt = (tt, tt)
  name_uses a b c i (role.Field g) le lt = (tt, tt)
  name_uses a b c i (role.Key g) le lt = (tt, tt)
  name_uses a b c i (role.Parameter g None) le lt = (tt, tt)
  name_uses a b c i (role.Parameter g (Some x)) le lt = (tt, (tt, tt))
  name_uses a b c i (role.Selected l y) le lt = ((le, lt), tt)
  name_uses a b c i role.Operand le lt = ((le, lt), tt)
  name_uses a b c i role.Assigned le lt = ((le, lt), tt)
  name_uses a b c i role.Called le lt = ((le, lt), tt)

  statement_uses : (a b : ℕ) (x : Bool) (i j : ℕ) → EachEvent (UseIn a b) (statement_events x i j)
  statement_uses a b true i j = (tt, tt)
  statement_uses a b false i j = tt

  misplaced_uses : (a b : ℕ) (x : Bool) (i j : ℕ) → EachEvent (UseIn a b) (misplaced x i j)
  misplaced_uses a b true i j = tt
  misplaced_uses a b false i j = (tt, tt)

  default_uses : (a b : ℕ) (d x : Bool) (w : ℕ) → EachEvent (UseIn a b) (default_events d x w)
  default_uses a b true true w = (tt, tt)
  default_uses a b true false w = tt
  default_uses a b false x w = tt

  second_uses : (a b : ℕ) (x : Bool) (ps : Trees) → EachEvent (UseIn a b) (second_defaults x ps)
  second_uses a b x none = tt
  second_uses a b x (skip ps) = second_uses a b x ps
  second_uses a b x (more p ps) =
      each_event_append (UseIn a b) (default_events (is_default (kind_of p)) x (first p)) (second_defaults (x || is_default (kind_of p)) ps) (default_uses a b (is_default (kind_of p)) x (first p)) (second_uses a b (x || is_default (kind_of p)) ps)

  own_uses : (a b : ℕ) (c : Context) (k : Kind) (i j : ℕ) (ps : Trees) → is_top k ≡ false → a ≤ i → i < b → EachEvent (UseIn a b) (own_events c k i j ps)
  own_uses a b c kind.ImportPath i j ps top le lt = (tt, tt)
  own_uses a b c kind.FunctionDeclaration i j ps top le lt = absurd (true_false true refl top)
  own_uses a b c (kind.Specification sort.Type) i j ps top le lt = (tt, tt)
  own_uses a b c kind.DeclaredName i j ps top le lt = name_uses a b c i c.role le lt
  own_uses a b c kind.Name i j ps top le lt = name_uses a b c i c.role le lt
  own_uses a b c kind.Switch i j ps top le lt = second_uses a b false ps
  own_uses a b c kind.Break i j ps top le lt = misplaced_uses a b c.breaks i j
  own_uses a b c kind.Continue i j ps top le lt = misplaced_uses a b c.continues i j
  own_uses a b c kind.Fallthrough i j ps top le lt = misplaced_uses a b c.falls i j
  own_uses a b c k i j ps top le lt = tt

  mutual
    uses_in : (a b : ℕ) (c : Context) (t : Tree) → IsLaidOut t → IsFit t → is_top (kind_of t) ≡ false → a ≤ first t → last t ≤ b → EachEvent (UseIn a b) (events c t)
    uses_in a b c (node k i j ps) laid fit top le hi =
        each_event_append (UseIn a b) (statement_events c.listed i j ++ own_events c k i j ps) (events_of (begin c k) k i j ps 0 ps)
        (each_event_append (UseIn a b) (statement_events c.listed i j) (own_events c k i j ps) (statement_uses a b c.listed i j) (own_uses a b c k i j ps top le (omega (arith, laid.0, hi))))
        (parts_uses a b (begin c k) k i j ps 0 ps (behind_name k i) (name_above k i) laid.1 fit.1 top le hi)

    parts_uses : (a b : ℕ) (c : Context) (k : Kind) (i j : ℕ) (ps : Trees) (n : ℕ) (qs : Trees) (x : ℕ) → i ≤ x → LieIn x j qs → AreFit k i qs → is_top k ≡ false → a ≤ i → j ≤ b → EachEvent (UseIn a b) (events_of c k i j ps n qs)
    parts_uses a b c k i j ps n none x at laid fit top le hi = tt
    parts_uses a b c k i j ps n (skip qs) x at laid fit top le hi = parts_uses a b c k i j ps (suc n) qs x at laid fit top le hi
    parts_uses a b c k i j ps n (more q qs) x at laid fit top le hi =
        let grows : first q < last q = laid_grows q laid.1 in
        let order : last q ≤ j = lie_order (last q) j qs laid.2 in
        each_event_append (UseIn a b) (events (enter c k i j ps (ends_named ps) n q (is_more qs)) q) (events_of (pass c q) k i j ps (suc n) qs)
        (uses_in a b (enter c k i j ps (ends_named ps) n q (is_more qs)) q laid.1 fit.2 (part_inner k (kind_of q) top fit.0) (omega (arith, le, at, laid.0)) (omega (arith, order, hi)))
        (parts_uses a b (pass c q) k i j ps (suc n) qs (last q) (omega (arith, at, laid.0, grows)) laid.2 fit.3 top le hi)

  -- ---- names in place of holes

  abbrev LooksUp : Role → Type 0
  LooksUp role.Operand = Unit {0}
  LooksUp role.Called = Unit {0}
  LooksUp r = ⊥

  first_looks : (n : ℕ) (r : Role) → contexts.is_behind_first n ≡ true → LooksUp (if_first n r)
  first_looks zero r e = absurd (true_false false e refl)
  first_looks (suc n) r e = tt

  called_looks : (r : Role) → LooksUp (called_in r)
  called_looks role.Called = tt
  called_looks r = tt

  if_looks : (p : Tree) (r : Role) → r ≡ role.Operand → LooksUp (if_name p r)
  if_looks p r e = subst (λ z. LooksUp (if_name p z)) (sym e) (elim (is_name (kind_of p)) as (λ x. LooksUp (if x then role.Operand else role.Operand)) [ true ↦ tt | false ↦ tt ])

  replaced_looks : (o : Bool) (c : Context) (k : Kind) (i j : ℕ) (named : Bool) (n : ℕ) (p : Tree) → may_be_replaced o k n ≡ true → (o ≡ true → c.role ≡ role.Operand) → LooksUp (role_in c k i j named n p)
  replaced_looks o c (kind.Specification s) i j named n p e f = absurd (true_false false e refl)
  replaced_looks o c kind.Define i j named n p e f = first_looks n (role.New (contexts.defined c i j)) e
  replaced_looks o c kind.DefiningRange i j named n p e f = first_looks n (role.New (contexts.ranged c i j)) e
  replaced_looks o c kind.NameList i j named n p e f = absurd (true_false false e refl)
  replaced_looks o c kind.NewNames i j named n p e f = absurd (true_false false e refl)
  replaced_looks o c kind.Targets i j named n p e f = absurd (true_false false e refl)
  replaced_looks o c kind.ExpressionList i j named n p e f = if_looks p c.role (f e)
  replaced_looks o c kind.Call i j named n p e f = first_looks n role.Called e
  replaced_looks o c kind.Parenthesized i j named n p e f = called_looks c.role
  replaced_looks o c kind.Selector i j named n p e f = absurd (true_false false e refl)
  replaced_looks o c kind.Fields i j named n p e f = absurd (true_false false e refl)
  replaced_looks o c kind.Keyed i j named n p e f = first_looks n (key_role c.group) e
  replaced_looks o c kind.Parameters i j named n p e f = absurd (true_false false e refl)
  replaced_looks o c kind.Parameter i j named n p e f = absurd (true_false false e refl)
  replaced_looks o c k i j named n p e f = tt

  gives_operand : (c : Context) (k : Kind) (i j : ℕ) (named : Bool) (n : ℕ) (p : Tree) → gives_operands k n ≡ true → role_in c k i j named n p ≡ role.Operand
  gives_operand c k i j named n p e = gives_role cp c k i j named n p e

  constant_out : (c : Context) (k : Kind) → may_hold_holes k ≡ true → c.constant ≡ false → constant_in c k ≡ false
  constant_out c (kind.Declaration sort.Constant) e h = absurd (true_false false e refl)
  constant_out c (kind.Declaration s) e h = refl
  constant_out c k e h = h

  abbrev hole_at : Range → Replaced
  hole_at r = record { from = r.from; upto = r.upto; parameter = 0 }

  module _ (low : (t : ℕ) → IsKept cp t → cp.place cp.from ≤ cp.place t) where
    behind_out : (s : Site) → TokenKept cp (specification_at s) → TokenBehind cp (specification_at (carried_site cp.place s))
    behind_out site.Elsewhere h = tt
    behind_out (site.Type s) h = low s h
    behind_out (site.Value s column alone) h = low s h
    behind_out (site.Right s r) h = low s h

    statement_new : (r : Range) (x : Bool) (i j : ℕ) → EachEvent (HoleIsNew cp (hole_at r)) (statement_events x i j)
    statement_new r true i j = (tt, tt)
    statement_new r false i j = tt

    name_new : (c : Context) (r : Range) (y : Role) → LooksUp y → c.constant ≡ false → ContextOut c → EachEvent (HoleIsNew cp (hole_at r)) (name_events (copied_context cp c) (cp.place r.from) (copied_role cp c.block y))
    name_new c r role.Operand l e h = (record { name = refl; specification = behind_out c.site h.site; constant = e; initial = h.initial }, tt)
    name_new c r role.Called l e h = (record { name = refl; specification = behind_out c.site h.site; constant = e; initial = h.initial }, tt)
    name_new c r (role.New d) l e h = absurd l
    name_new c r (role.Field g) l e h = absurd l
    name_new c r (role.Key g) l e h = absurd l
    name_new c r (role.Parameter g s) l e h = absurd l
    name_new c r (role.Selected x y) l e h = absurd l
    name_new c r role.Assigned l e h = absurd l

    hole_new : (c : Context) (r : Range) (s : Tree) → s ≡ name_over (cp.place r.from) → LooksUp c.role → c.constant ≡ false → ContextOut c → EachEvent (HoleIsNew cp (hole_at r)) (events (copied_context cp c) s)
    hole_new c r s e l k h = subst (λ z. EachEvent (HoleIsNew cp (hole_at r)) (events (copied_context cp c) z)) (sym e)
        (each_event_append (HoleIsNew cp (hole_at r)) (statement_events c.listed (cp.place r.from) (suc (cp.place r.from)) ++ name_events (copied_context cp c) (cp.place r.from) (copied_role cp c.block c.role)) []
        (each_event_append (HoleIsNew cp (hole_at r)) (statement_events c.listed (cp.place r.from) (suc (cp.place r.from))) (name_events (copied_context cp c) (cp.place r.from) (copied_role cp c.block c.role))
        (statement_new r c.listed (cp.place r.from) (suc (cp.place r.from))) (name_new c r c.role l k h)) tt)

    -- ---- trees that names stand in

    abbrev AllOut : List Range → List Piece → Type 0
    AllOut rs [] = rs ≡ []
    AllOut rs (stays es ∷ ps) = EachEvent EventOut es × AllOut rs ps
    AllOut [] (gap old new ∷ ps) = ⊥
    AllOut (r ∷ rs) (gap old new ∷ ps) = EachEvent (UseIn r.from r.upto) old × EachEvent (HoleIsNew cp (hole_at r)) new × AllOut rs ps

    all_append : (rs ss : List Range) (xs ys : List Piece) → AllOut rs xs → AllOut ss ys → AllOut (rs ++ ss) (xs ++ ys)
    all_append rs ss [] ys h g = subst (λ z. AllOut (z ++ ss) ys) (sym h) g
    all_append rs ss (stays es ∷ xs) ys h g = (h.0, all_append rs ss xs ys h.1 g)
    all_append [] ss (gap old new ∷ xs) ys h g = absurd h
    all_append (r ∷ rs) ss (gap old new ∷ xs) ys h g = (h.0, h.1, all_append rs ss xs ys h.2 g)

    inside_node : (k : Kind) (i j : ℕ) → cp.from ≤ i → i < j → j ≤ cp.upto → Around cp.holes i j → NodeStays cp.holes k i j → NodeOut k i j
    inside_node k i j le lt hi b s = record {
      begins = λ e. (le, omega (arith, lt, hi), s.first e);
      opened = λ e. (le, omega (arith, lt, hi), s.block e);
      selected = λ e. let l = s.last e in (l.0, l.1, (omega (arith, le, lt, l.1), omega (arith, hi, l.1), l.2));
      from = (le, omega (arith, lt, hi), edge_first cp.holes i j b lt);
      upto = (omega (arith, le, lt), hi, edge_last cp.holes i j b lt);
    }

    spec_counts : (k : Kind) → is_specification k ≡ true → counts_first k ≡ true
    spec_counts (kind.Specification s) e = refl
    spec_counts k e = absurd (true_false false e refl)

    simple_other : (k : Kind) → is_simple_part k ≡ true → is_specification k ≡ true → ⊥
    simple_other (kind.Specification s) e f = true_false false e refl
    simple_other k e f = true_false false f refl

    first_apart : (p : Tree) (q : Patch) → IsLaidOut p → ApartIn cp.holes p q → (is_specification (kind_of p) ≡ true → (s : Tree) → q ≡ put s → ⊥) → cp.from ≤ first p → last p ≤ cp.upto → FirstOut p
    first_apart p keep l a n le hi e = let grows : first p < last p = laid_grows p l in (le, omega (arith, grows, hi), stays_between cp.holes (first p) (last p) (first p) a (omega arith) grows)
    first_apart p (put s) l a n le hi e = absurd (n e s refl)
    first_apart (node k i j ps) (inside qs) l a n le hi e = (le, omega (arith, l.0, hi), a.1.first (spec_counts k e))

    mutual
      tree_out : (o : Bool) (c : Context) (t : Tree) (q : Patch) → IsLaidOut t → IsFit t → is_top (kind_of t) ≡ false → cp.from ≤ first t → last t ≤ cp.upto → c.constant ≡ false → (o ≡ true → c.role ≡ role.Operand)
          → HolesIn cp.place o t q → ApartIn cp.holes t q → ContextOut c → AllOut (places t q) (hole_pieces cp c t q)
      tree_out o c t keep laid fit top le hi k0 f g a h = (events_out c t laid fit top le hi a h, refl)
      tree_out o c t (put s) laid fit top le hi k0 f g a h = absurd g
      tree_out o c (node k i j ps) (inside qs) laid fit top le hi k0 f g a h =
          let n = inside_node k i j le laid.0 hi a.0 a.1 in (
            each_event_append EventOut (statement_events c.listed i j) (own_events c k i j ps) (statement_out c.listed i j) (own_out c k i j ps top n h),
            row_out o (begin c k) k i j ps 0 ps qs (behind_name k i) (name_above k i) laid.1 fit.1 top le hi g.0 k0 f n g.1 a.2 (with_source c (source_in c k) (begin_out c k h.source) h),
          )

      row_out : (o : Bool) (c : Context) (k : Kind) (i j : ℕ) (ps : Trees) (n : ℕ) (rs : Trees) (qs : Patches) (x : ℕ) → i ≤ x → LieIn x j rs → AreFit k i rs → is_top k ≡ false → cp.from ≤ i → j ≤ cp.upto → may_hold_holes k ≡ true → c.constant ≡ false
          → (o ≡ true → c.role ≡ role.Operand) → NodeOut k i j → HolesInRow cp.place o k n rs qs → ApartInRow cp.holes rs qs → ContextOut c → AllOut (places_in rs qs) (hole_row cp c k i j ps n rs qs)
      row_out o c k i j ps n rs done x at laid fit top le hi m k0 f nd g a h = (parts_out c k i j ps n rs x at laid fit top le hi a nd h, refl)
      row_out o c k i j ps n none (part q qs) x at laid fit top le hi m k0 f nd g a h = refl
      row_out o c k i j ps n (skip rs) (part q qs) x at laid fit top le hi m k0 f nd g a h = row_out o c k i j ps (suc n) rs qs x at laid fit top le hi m k0 f nd g a h
      row_out o c k i j ps n none (run y new qs) x at laid fit top le hi m k0 f nd g a h = absurd g
      row_out o c k i j ps n (more p rs) (run y new qs) x at laid fit top le hi m k0 f nd g a h = absurd g
      row_out o c k i j ps n (skip rs) (run y new qs) x at laid fit top le hi m k0 f nd g a h = absurd g
      row_out o c k i j ps n (more p rs) (part keep qs) x at laid fit top le hi m k0 f nd g a h =
          let here : Context = enter c k i j ps (ends_named ps) n p (is_more rs) in
          let grows : first p < last p = laid_grows p laid.1 in
          let order : last p ≤ j = lie_order (last p) j rs laid.2 in
          let low_p : cp.from ≤ first p = omega (arith, le, at, laid.0) in
          let fo : FirstOut p = first_apart p keep laid.1 a.0 (λ e s q. let no : keep ≡ put s = q in absurd cc) low_p (omega (arith, order, hi)) in
          all_append [] (places_in rs qs) (hole_pieces cp here p keep) (hole_row cp (pass c p) k i j ps (suc n) rs qs)
          (events_out here p laid.1 fit.2 (part_inner k (kind_of p) top fit.0) low_p (omega (arith, order, hi)) a.0 (enter_out c k i j ps (ends_named ps) n p (is_more rs) top fo nd h), refl)
          (row_out o (pass c p) k i j ps (suc n) rs qs (last p) (omega (arith, at, laid.0, grows)) laid.2 fit.3 top le hi m k0 f nd g a.1
          (with_source c (source_at c p) (source_of_out c.source (kind_of p) (first p) (parts p) fo h.source) h))
      row_out o c k i j ps n (more p rs) (part (put s) qs) x at laid fit top le hi m k0 f nd g a h =
          let here : Context = enter c k i j ps (ends_named ps) n p (is_more rs) in
          let grows : first p < last p = laid_grows p laid.1 in
          let fo : FirstOut p = λ e. absurd (simple_other (kind_of p) g.1 e) in
          all_append (range (first p) (last p) ∷ []) (places_in rs qs) (hole_pieces cp here p (put s)) (hole_row cp (pass c p) k i j ps (suc n) rs qs)
          (uses_in (first p) (last p) here p laid.1 fit.2 (part_inner k (kind_of p) top fit.0) (omega arith) (omega arith), hole_new here (range (first p) (last p)) s g.2 (replaced_looks o c k i j (ends_named ps) n p g.0 f) (constant_out c k m k0) (enter_out c k i j ps (ends_named ps) n p (is_more rs) top fo nd h), refl)
          (row_out o (pass c p) k i j ps (suc n) rs qs (last p) (omega (arith, at, laid.0, grows)) laid.2 fit.3 top le hi m k0 f nd g.3 a.1
          (with_source c (source_at c p) (source_of_out c.source (kind_of p) (first p) (parts p) fo h.source) h))
      row_out o c k i j ps n (more p rs) (part (inside us) qs) x at laid fit top le hi m k0 f nd g a h =
          let here : Context = enter c k i j ps (ends_named ps) n p (is_more rs) in
          let grows : first p < last p = laid_grows p laid.1 in
          let order : last p ≤ j = lie_order (last p) j rs laid.2 in
          let low_p : cp.from ≤ first p = omega (arith, le, at, laid.0) in
          let fo : FirstOut p = first_apart p (inside us) laid.1 a.0 (λ e s q. let no : inside us ≡ put s = q in absurd cc) low_p (omega (arith, order, hi)) in
          all_append (places p (inside us)) (places_in rs qs) (hole_pieces cp here p (inside us)) (hole_row cp (pass c p) k i j ps (suc n) rs qs)
          (tree_out (gives_operands k n) here p (inside us) laid.1 fit.2 (part_inner k (kind_of p) top fit.0) low_p (omega (arith, order, hi)) (constant_out c k m k0) (gives_operand c k i j (ends_named ps) n p) g.0 a.0
          (enter_out c k i j ps (ends_named ps) n p (is_more rs) top fo nd h))
          (row_out o (pass c p) k i j ps (suc n) rs qs (last p) (omega (arith, at, laid.0, grows)) laid.2 fit.3 top le hi m k0 f nd g.1 a.1
          (with_source c (source_at c p) (source_of_out c.source (kind_of p) (first p) (parts p) fo h.source) h))

    -- ---- lists of statements

    with_falls : (c : Context) (b : Bool) → ContextOut c → ContextOut (record c { falls = b })
    with_falls c b h = record { ends = h.ends; role = h.role; site = h.site; specification = h.specification; source = h.source; group = h.group; parameters = h.parameters; initial = h.initial; local = h.local }

    list_beside : (c : Context) (f : Bool) (k : Kind) (i x j : ℕ) (ps : Trees) → is_top k ≡ false → cp.from ≤ x → j ≤ cp.upto → LieIn x j ps → AreFit k i ps → AllBeside cp.holes ps → ContextOut c → EachEvent EventOut (told_list c f ps)
    list_beside c f k i x j none top le hi laid fit a h = tt
    list_beside c f k i x j (skip ps) top le hi laid fit a h = list_beside c f k i x j ps top le hi laid fit a h
    list_beside c f k i x j (more p ps) top le hi laid fit a h =
        let grows : first p < last p = laid_grows p laid.1 in
        let order : last p ≤ j = lie_order (last p) j ps laid.2 in
        let b : Bool = f && not (is_more ps) in
        each_event_append EventOut (events (record c { falls = b }) p) (told_list c f ps)
        (events_out (record c { falls = b }) p laid.1 fit.2 (part_inner k (kind_of p) top fit.0) (omega (arith, le, laid.0)) (omega (arith, order, hi)) a.0 (with_falls c b h))
        (list_beside c f k i (last p) j ps top (omega (arith, le, laid.0, grows)) hi laid.2 fit.3 a.1 h)

    list_out : (c : Context) (f : Bool) (k : Kind) (i x j : ℕ) (ps : Trees) (qs : Patches) → is_top k ≡ false → cp.from ≤ x → j ≤ cp.upto → LieIn x j ps → AreFit k i ps → c.constant ≡ false → HolesInList cp.place ps qs → ApartInRow cp.holes ps qs → ContextOut c
        → AllOut (places_in ps qs) (hole_list cp c f ps qs)
    list_out c f k i x j ps done top le hi laid fit k0 g a h = (list_beside c f k i x j ps top le hi laid fit a h, refl)
    list_out c f k i x j none (part q qs) top le hi laid fit k0 g a h = refl
    list_out c f k i x j (skip ps) (part q qs) top le hi laid fit k0 g a h = list_out c f k i x j ps qs top le hi laid fit k0 g a h
    list_out c f k i x j none (run y new qs) top le hi laid fit k0 g a h = absurd g
    list_out c f k i x j (more p ps) (run y new qs) top le hi laid fit k0 g a h = absurd g
    list_out c f k i x j (skip ps) (run y new qs) top le hi laid fit k0 g a h = absurd g
    list_out c f k i x j (more p ps) (part q qs) top le hi laid fit k0 g a h =
        let grows : first p < last p = laid_grows p laid.1 in
        let order : last p ≤ j = lie_order (last p) j ps laid.2 in
        let b : Bool = f && not (is_more ps) in
        all_append (places p q) (places_in ps qs) (hole_pieces cp (record c { falls = b }) p q) (hole_list cp c f ps qs)
        (tree_out false (record c { falls = b }) p q laid.1 fit.2 (part_inner k (kind_of p) top fit.0) (omega (arith, le, laid.0)) (omega (arith, order, hi)) k0 (λ e. absurd (true_false false e refl)) g.0 a.0 (with_falls c b h))
        (list_out c f k i (last p) j ps qs top (omega (arith, le, laid.0, grows)) hi laid.2 fit.3 k0 g.1 a.1 h)

    -- ---- together with what the run tells

    event_out : (e : Event) → EventCopied (bare cp) e → EventOut e → EventCopied cp e
    event_out (event.Declaration d) h o = record { name = o.name; statement = o.statement; from = o.from; source = o.source; variety = h.variety; behind = h.behind; ends = o.ends }
    event_out (event.Use u) h o = record { name = o.name; role = o.role; specification = o.specification; initial = h.initial }
    event_out (event.Member m g x) h o = o
    event_out (event.Import i) h o = tt
    event_out (event.Bodiless i j) h o = tt
    event_out (event.Statement i j) h o = tt
    event_out (event.Misplaced i j) h o = tt
    event_out (event.SecondDefault w) h o = tt

    both_out : (es : List Event) → EachEvent (EventCopied (bare cp)) es → EachEvent EventOut es → EachEvent (EventCopied cp) es
    both_out [] h o = tt
    both_out (e ∷ es) h o = (event_out e h.0 o.0, both_out es h.1 o.1)

    left_of : (Q : Event → Type 0) (es fs : List Event) → EachEvent Q (es ++ fs) → EachEvent Q es × EachEvent Q fs
    left_of Q [] fs h = (tt, h)
    left_of Q (e ∷ es) fs h = let r = left_of Q es fs h.1 in ((h.0, r.0), r.1)

    new_same : (h : Replaced) (e : Event) → HoleIsNew cp (hole_at (range h.from h.upto)) e → HoleIsNew cp h e
    new_same h (event.Use u) n = record { name = n.name; specification = n.specification; constant = n.constant; initial = n.initial }
    new_same h (event.Declaration d) n = n
    new_same h (event.Member m g x) n = n
    new_same h (event.Misplaced i j) n = n
    new_same h (event.SecondDefault i) n = n
    new_same h (event.Import i) n = tt
    new_same h (event.Bodiless i j) n = tt
    new_same h (event.Statement i j) n = tt

    goes : (x : Replaced) (es : List Event) → EachEvent IsNoDeclaration es → EachEvent (UseIn x.from x.upto) es → EachEvent (HoleGoes x) es
    goes x [] n u = tt
    goes x (e ∷ es) n u = (by e n.0 u.0, goes x es n.1 u.1)
      where
        by : (e : Event) → IsNoDeclaration e → UseIn x.from x.upto e → HoleGoes x e
        by (event.Use y) n u = u
        by (event.Declaration d) n u = n
        by (event.Member m g y) n u = tt
        by (event.Import i) n u = tt
        by (event.Bodiless i j) n u = tt
        by (event.Statement i j) n u = tt
        by (event.Misplaced i j) n u = tt
        by (event.SecondDefault w) n u = tt

    no_ranges : (hs : List Replaced) → hole_ranges hs ≡ [] → hs ≡ []
    no_ranges [] e = refl
    no_ranges (x ∷ hs) e = absurd cc

    copied_pieces : (hs : List Replaced) (ps : List Piece) → EachEvent (EventCopied (bare cp)) (told_before ps) → AllOut (hole_ranges hs) ps → HolesLook ps → AllCopied cp hs ps
    copied_pieces hs [] h o l = no_ranges hs o
    copied_pieces hs (stays es ∷ ps) h o l = let r = left_of (EventCopied (bare cp)) es (told_before ps) h in (both_out es r.0 o.0, copied_pieces hs ps r.1 o.1 l)
    copied_pieces [] (gap old new ∷ ps) h o l = absurd o
    copied_pieces (x ∷ hs) (gap old new ∷ ps) h o l =
        let r = left_of (EventCopied (bare cp)) old (told_before ps) h in
        (goes x old l.0 o.0, each_event_map (HoleIsNew cp (hole_at (range x.from x.upto))) (HoleIsNew cp x) new (new_same x) o.1, copied_pieces hs ps r.1 o.2 l.1)

    pub list_copied : (c : Context) (f : Bool) (k : Kind) (i x j : ℕ) (ps : Trees) (qs : Patches) → is_top k ≡ false → cp.from ≤ x → j ≤ cp.upto → LieIn x j ps → AreFit k i ps → c.constant ≡ false → ContextOut c → HolesInList cp.place ps qs → AreHoles cp ps qs
        → EachEvent (EventCopied (bare cp)) (told_before (hole_list cp c f ps qs)) → HolesLook (hole_list cp c f ps qs) → AllCopied cp cp.holes (hole_list cp c f ps qs)
    list_copied c f k i x j ps qs top le hi laid fit k0 h g a b l =
        copied_pieces cp.holes (hole_list cp c f ps qs) b (subst (λ z. AllOut z (hole_list cp c f ps qs)) a.same (list_out c f k i x j ps qs top le hi laid fit k0 g (list_apart cp.holes ps qs x j laid a.stay a.same) h)) l

-- the list of the run, where no branch leaves it
pub calm_out : (cp : Copy) (c : Context) (j : ℕ) → Calm [] j c → c.block ≡ block.Local cp.around → c.end ≡ cp.end → ContextOut cp (record c { breaks = false; continues = false })
calm_out cp c j h at end = record {
  ends = inl (at, end);
  role = subst (RoleOut cp c.block) (sym h.role) tt;
  site = subst (TokenKept cp) (sym h.site) tt;
  specification = subst (TokenKept cp) (sym h.specification) tt;
  source = subst (TokenKept cp) (sym h.source) tt;
  group = subst (TokenKept cp) (sym h.group) tt;
  parameters = h.parameters;
  initial = h.initial;
  local = h.local;
}

-- ---- tokens that keep their order

equal_or_less : (a b : ℕ) → a ≤ b → (a ≡ b) ⊎ (a < b)
equal_or_less zero zero h = inl refl
equal_or_less zero (suc b) h = inr (omega arith)
equal_or_less (suc a) zero h = absurd (omega (arith, h))
equal_or_less (suc a) (suc b) h = by (equal_or_less a b (omega (arith, h)))
  where
    by : (a ≡ b) ⊎ (a < b) → (suc a ≡ suc b) ⊎ (suc a < suc b)
    by (inl e) = inl (ap suc e)
    by (inr l) = inr (omega (arith, l))

edge_kept : (hs : List Replaced) (t : ℕ) → StaysOutside hs t → AtHole hs t
edge_kept [] t h = tt
edge_kept (r ∷ hs) t h = (by h.0, edge_kept hs t h.1)
  where
    by : (t < r.from) ⊎ (r.upto ≤ t) → (t ≤ r.from) ⊎ (r.upto ≤ t)
    by (inl x) = inl (omega (arith, x))
    by (inr x) = inr x

pub place_behind : (cp : Copy) → IsEdge cp cp.from → ((x y : ℕ) → IsEdge cp x → IsEdge cp y → x < y → cp.place x < cp.place y) → (t : ℕ) → IsKept cp t → cp.place cp.from ≤ cp.place t
place_behind cp edge rises t k = by (equal_or_less cp.from t k.0)
  where
    by : (cp.from ≡ t) ⊎ (cp.from < t) → cp.place cp.from ≤ cp.place t
    by (inl e) = subst (λ z. cp.place cp.from ≤ cp.place z) e (omega arith)
    by (inr l) = let less : cp.place cp.from < cp.place t = rises cp.from t edge (k.0, omega (arith, k.1), edge_kept cp.holes t k.2) l in omega (arith, less)
