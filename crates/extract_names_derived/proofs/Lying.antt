-- Where the names, blocks and scopes lie that a tree tells: all inside the tree, but for the block that it stands in.
use Rattle.std.proofs.Common.{◌≡◌, ℕ, zero, suc, ◌<◌, ◌≤◌, ◌⊎◌, inl, inr, Bool, true, false, List, [], ◌∷◌, ◌++◌, Option, Some, None, refl, subst, arith}
use Rattle.std.specs.Prelude.{if◌then◌else◌, ◌||◌, nat_eq}
use Rattle.go_grammar.specs.declared.kind.Kind.{Kind}
use Rattle.go_grammar.specs.declared.kind.Kind.TheVariants as kind
use Rattle.go_grammar.specs.declared.kind.Sort.{Sort}
use Rattle.go_grammar.specs.declared.kind.Sort.TheVariants as sort
use Rattle.go_grammar.specs.Trees.{Tree, node, Trees, none, more, skip, kind_of, first, last, parts}
use Rattle.go_grammar.specs.Grammar.{is_name, ends_named, count}
use Rattle.go_tree.specs.Views.{part_at}
use Rattle.go_tree.specs.declared.context.Block.{Block}
use Rattle.go_tree.specs.declared.context.Block.TheVariants as block
use Rattle.go_tree.specs.declared.context.Context.{Context}
use Rattle.go_tree.specs.declared.context.Entity.{Entity}
use Rattle.go_tree.specs.declared.context.Entity.TheVariants as entity
use Rattle.go_tree.specs.declared.context.Manner.TheVariants as manner
use Rattle.go_tree.specs.declared.context.Naming.{Naming}
use Rattle.go_tree.specs.declared.context.Reach.TheVariants as reach
use Rattle.go_tree.specs.declared.context.Role.{Role}
use Rattle.go_tree.specs.declared.context.Role.TheVariants as role
use Rattle.go_tree.specs.declared.context.Scope.{Scope}
use Rattle.go_tree.specs.declared.context.Site.{Site}
use Rattle.go_tree.specs.declared.context.Site.TheVariants as site
use Rattle.go_tree.specs.declared.event.Declaration.{Declaration}
use Rattle.go_tree.specs.declared.event.Event.{Event}
use Rattle.go_tree.specs.declared.event.Event.TheVariants as event
use Rattle.go_tree.specs.declared.event.Use.{Use}
use Rattle.go_tree.specs.Contexts.{is_there, is_package, opens, block_in, end_in, is_called, role_in, called_in, if_name, if_first, field_role, key_role, parameter_role, entry_role, element_site, value_site}
use Rattle.go_tree.specs.Contexts.{typed_site, site_in, specification_in, source_in, source_of, source_at, own_source, group_in, parameters_in, initial_in, enter}
use Rattle.go_tree.specs.Contexts as contexts
use Rattle.go_tree.specs.Events.{statement_events, own_events, name_events, misplaced, is_default, default_events, second_defaults, is_more, pass, begin, events, events_of}
use Rattle.go_tree.specs.Redeclared.{are_parameters}
use Rattle.go_scopes_events.specs.Orders.{BeginsAt, BeginsIn, IsFollowed}
use Rattle.go_scopes_events.proofs.Public.{IsLaidOut, LieIn, behind_name, lie_order, laid_grows, Holding, layer, IsPlain, ArePlain, ScopeGives, is_top, true_false}
use Rattle.go_scopes_bodies.specs.Listed.{is_specification}
use Rattle.extract_names.specs.Sites.{EachEvent, specification_at}
use Rattle.extract_names_derived.proofs.Fit.{front, may_hold, has_values, holds_specifications, IsFit, AreFit, front_from, part_inner}

pub each_event_append : (Q : Event → Type 0) (es fs : List Event) → EachEvent Q es → EachEvent Q fs → EachEvent Q (es ++ fs)
each_event_append Q [] fs h g = g
each_event_append Q (e ∷ es) fs h g = (h.0, each_event_append Q es fs h.1 g)

pub each_event_map : (Q R : Event → Type 0) (es : List Event) → ((e : Event) → Q e → R e) → EachEvent Q es → EachEvent R es
each_event_map Q R [] f h = tt
each_event_map Q R (e ∷ es) f h = (f e h.0, each_event_map Q R es f h.1)

abbrev pub IsValue : Entity → Type 0
IsValue entity.Constant = Unit {0}
IsValue entity.Variable = Unit {0}
IsValue e = ⊥

-- ---- tokens from a up to b, names from m on; and a block that ends in front of e

module _ (m a b : ℕ) (blk : Block) (e : ℕ) (par : Option Scope) where
  abbrev pub In : ℕ → Type 0
  In t = (a ≤ t) × (t < b)

  abbrev pub OptionIn : Option ℕ → Type 0
  OptionIn None = Unit {0}
  OptionIn (Some t) = In t

  -- in the block, up to its end; or in one that begins inside
  abbrev pub EndsAs : Block → ℕ → Type 0
  EndsAs k to = ((k ≡ blk) × (to ≡ e)) ⊎ ((i : ℕ) × (k ≡ block.Local i) × In i × ((a ≤ to) × (to ≤ b)))

  -- names that are declared so, by a tree that ends in front of z
  pub record NamingLies (z : ℕ) (k : Block) (d : Naming) : Type 0 where
    pub statement : In d.statement
    pub behind : a < d.scope.from
    pub upto : d.scope.from ≤ b
    pub ends : EndsAs k d.scope.to
    pub source : OptionIn d.source
    pub value : IsValue d.entity
    pub local : is_package k ≡ false
    pub low : z ≤ d.scope.from
    pub order : d.scope.from ≤ d.scope.to

  abbrev pub RoleLies : ℕ → Block → Role → Type 0
  RoleLies z k (role.New d) = NamingLies z k d
  RoleLies z k (role.Selected l c) = (x : ℕ) × (l ≡ suc x) × In x
  RoleLies z k (role.Field g) = In g
  RoleLies z k (role.Key g) = In g
  RoleLies z k (role.Parameter g s) = In g × ScopeGives par s
  RoleLies z k r = Unit {0}

  -- where a tree that ends in front of z stands
  pub record ContextLies (z : ℕ) (c : Context) : Type 0 where
    pub ends : EndsAs c.block c.end
    pub behind : is_package c.block ≡ false → z ≤ c.end
    pub role : RoleLies z c.block c.role
    pub site : OptionIn (specification_at c.site)
    pub specification : OptionIn c.specification
    pub source : OptionIn c.source
    pub group : OptionIn c.group
    pub parameters : ScopeGives par c.parameters
    pub initial : c.initial ≡ false

  -- ---- what is told

  pub record OwnLies (d : Declaration) : Type 0 where
    pub statement : In d.statement
    pub behind : a < d.scope.from
    pub upto : d.scope.from ≤ b
    pub ends : EndsAs d.block d.scope.to
    pub source : OptionIn d.source
    pub variety : are_parameters d.entity d.entity ≡ false
    pub local : is_package d.block ≡ false

  pub record ParameterLies (d : Declaration) : Type 0 where
    pub given : Some d.scope ≡ par
    pub block : d.block ≡ block.Local d.scope.from
    pub entity : d.entity ≡ entity.Parameter
    pub manner : d.manner ≡ manner.Declared
    pub statement : In d.statement
    pub source : d.source ≡ None

  pub record DeclarationLies (d : Declaration) : Type 0 where
    pub low : m ≤ d.name
    pub name : In d.name
    pub follows : IsFollowed d
    pub sort : OwnLies d ⊎ ParameterLies d

  abbrev pub UseRoleLies : Role → Type 0
  UseRoleLies (role.Selected l c) = (x : ℕ) × (l ≡ suc x) × In x
  UseRoleLies r = Unit {0}

  pub record UseLies (u : Use) : Type 0 where
    pub name : In u.name
    pub role : UseRoleLies u.role
    pub initial : u.initial ≡ false
    pub specification : OptionIn (specification_at u.site)

  abbrev pub EventLies : Event → Type 0
  EventLies (event.Declaration d) = DeclarationLies d
  EventLies (event.Use u) = UseLies u
  EventLies (event.Member k g x) = In g × In x
  EventLies x = Unit {0}

  -- ---- names

  variety : (x : Entity) → IsValue x → are_parameters x x ≡ false
  variety entity.Constant h = refl
  variety entity.Variable h = refl
  variety entity.Type h = absurd h
  variety entity.Function h = absurd h
  variety entity.Parameter h = absurd h

  value_begins : (x : Entity) (i n : ℕ) → IsValue x → i < n → BeginsAt x i n
  value_begins entity.Constant i n v lt = lt
  value_begins entity.Variable i n v lt = lt
  value_begins entity.Type i n v lt = absurd v
  value_begins entity.Function i n v lt = absurd v
  value_begins entity.Parameter i n v lt = absurd v

  begins_in : (k : Block) (x : Entity) (i n : ℕ) → BeginsAt x i n → BeginsIn k x i n
  begins_in block.Package x i n h = tt
  begins_in (block.Local j) x i n h = h

  -- the scope of parameters lies behind the tree
  abbrev pub ParametersLie : Option Scope → Type 0
  ParametersLie None = Unit {0}
  ParametersLie (Some s) = (b ≤ s.from) × (s.from ≤ s.to)

  given_lies : (o : Option Scope) (s : Scope) → Some s ≡ o → ParametersLie o → (b ≤ s.from) × (s.from ≤ s.to)
  given_lies None s h p = absurd cc
  given_lies (Some r) s h p = let same : r ≡ s = cc in subst (λ x. (b ≤ x.from) × (x.from ≤ x.to)) same p

  name_lies : (c : Context) (i z : ℕ) (r : Role) → ParametersLie par → m ≤ i → In i → i < z → RoleLies z c.block r → OptionIn (specification_at c.site) → c.initial ≡ false → r ≡ c.role → EachEvent EventLies (name_events c i r)
  name_lies c i z (role.New d) p lo at lt h s q k = (
    record {
      low = lo;
      name = at;
      follows = (begins_in c.block d.entity i d.scope.from (value_begins d.entity i d.scope.from h.value (omega (arith, lt, h.low))), h.order);
      sort = inl (record { statement = h.statement; behind = h.behind; upto = h.upto; ends = h.ends; source = h.source; variety = variety d.entity h.value; local = h.local });
    },
    tt,
  )
  name_lies c i z (role.Field g) p lo at lt h s q k = ((h, at), tt)
  name_lies c i z (role.Key g) p lo at lt h s q k = ((h, at), tt)
  name_lies c i z (role.Parameter g None) p lo at lt h s q k = ((h.0, at), tt)
  name_lies c i z (role.Parameter g (Some x)) p lo at lt h s q k =
      let lies : (b ≤ x.from) × (x.from ≤ x.to) = given_lies par x h.1 p in (
        (h.0, at),
        (
          record {
            low = lo;
            name = at;
            follows = (omega (arith, at.1, lies.0), lies.1);
            sort = inr (record { given = h.1; block = refl; entity = refl; manner = refl; statement = at; source = refl });
          },
          tt,
        ),
      )
  name_lies c i z (role.Selected l y) p lo at lt h s q k = (record { name = at; role = subst (λ v. UseRoleLies v) k h; initial = q; specification = s }, tt)
  name_lies c i z role.Operand p lo at lt h s q k = (record { name = at; role = subst (λ v. UseRoleLies v) k tt; initial = q; specification = s }, tt)
  name_lies c i z role.Assigned p lo at lt h s q k = (record { name = at; role = subst (λ v. UseRoleLies v) k tt; initial = q; specification = s }, tt)
  name_lies c i z role.Called p lo at lt h s q k = (record { name = at; role = subst (λ v. UseRoleLies v) k tt; initial = q; specification = s }, tt)

  statement_lies : (x : Bool) (i j : ℕ) → EachEvent EventLies (statement_events x i j)
  statement_lies true i j = (tt, tt)
  statement_lies false i j = tt

  misplaced_lies : (x : Bool) (i j : ℕ) → EachEvent EventLies (misplaced x i j)
  misplaced_lies true i j = tt
  misplaced_lies false i j = (tt, tt)

  default_lies : (d x : Bool) (w : ℕ) → EachEvent EventLies (default_events d x w)
  default_lies true true w = (tt, tt)
  default_lies true false w = tt
  default_lies false x w = tt

  second_lies : (x : Bool) (ps : Trees) → EachEvent EventLies (second_defaults x ps)
  second_lies x none = tt
  second_lies x (skip ps) = second_lies x ps
  second_lies x (more p ps) = each_event_append EventLies (default_events (is_default (kind_of p)) x (first p)) (second_defaults (x || is_default (kind_of p)) ps) (default_lies (is_default (kind_of p)) x (first p))
      (second_lies (x || is_default (kind_of p)) ps)

  -- A tree stands in a function, or it is one without declarations.
  abbrev pub Stands : Context → Tree → Type 0
  Stands c t = (is_package c.block ≡ false) ⊎ (IsPlain t × (has_values (kind_of t) ≡ false))

  plain_other : (k : Kind) → layer k ≡ Holding → is_specification k ≡ false
  plain_other (kind.Specification s) x = absurd cc
  plain_other k x = refl

  -- a node that declares stands in a function
  declares_local : (c : Context) (k : Kind) (i j : ℕ) (ps : Trees) → (layer k ≡ Holding → ⊥) → Stands c (node k i j ps) → is_package c.block ≡ false
  declares_local c k i j ps f (inl x) = x
  declares_local c k i j ps f (inr x) = absurd (f x.0.0)

  type_lies : (c : Context) (i j : ℕ) → m ≤ i → a < i → i < j → j ≤ b → is_package c.block ≡ false → ContextLies j c → EachEvent EventLies (own_events c (kind.Specification sort.Type) i j none)
  type_lies c i j lo up lt hi l h = (
    record {
      low = lo;
      name = (omega (arith, up), omega (arith, lt, hi));
      follows = (begins_in c.block entity.Type i i refl, omega (arith, lt, h.behind l));
      sort = inl (record {
        statement = (omega (arith, up), omega (arith, lt, hi));
        behind = up;
        upto = omega (arith, lt, hi);
        ends = h.ends;
        source = (omega (arith, up), omega (arith, lt, hi));
        variety = refl;
        local = l;
      });
    },
    tt,
  )

  own_lies : (c : Context) (k : Kind) (i j : ℕ) (ps : Trees) → ParametersLie par → m ≤ front k i → a ≤ i → i < j → j ≤ b → is_top k ≡ false → (is_specification k ≡ true → a < i) → Stands c (node k i j ps) → ContextLies j c
      → EachEvent EventLies (own_events c k i j ps)
  own_lies c kind.ImportPath i j ps p lo le lt hi top up st h = (tt, tt)
  own_lies c kind.FunctionDeclaration i j ps p lo le lt hi top up st h = absurd (true_false true refl top)
  own_lies c (kind.Specification sort.Type) i j ps p lo le lt hi top up st h = type_lies c i j lo (up refl) lt hi (declares_local c (kind.Specification sort.Type) i j ps (λ x. cc) st) h
  own_lies c kind.DeclaredName i j ps p lo le lt hi top up st h = name_lies c i j c.role p lo (le, omega (arith, lt, hi)) lt h.role h.site h.initial refl
  own_lies c kind.Name i j ps p lo le lt hi top up st h = name_lies c i j c.role p lo (le, omega (arith, lt, hi)) lt h.role h.site h.initial refl
  own_lies c kind.Switch i j ps p lo le lt hi top up st h = second_lies false ps
  own_lies c kind.Break i j ps p lo le lt hi top up st h = misplaced_lies c.breaks i j
  own_lies c kind.Continue i j ps p lo le lt hi top up st h = misplaced_lies c.continues i j
  own_lies c kind.Fallthrough i j ps p lo le lt hi top up st h = misplaced_lies c.falls i j
  own_lies c k i j ps p lo le lt hi top up st h = tt

  -- ---- what parts are given

  role_less : (y z : ℕ) (k : Block) (r : Role) → y ≤ z → RoleLies z k r → RoleLies y k r
  role_less y z k (role.New d) le h = record { statement = h.statement; behind = h.behind; upto = h.upto; ends = h.ends; source = h.source; value = h.value; local = h.local; low = omega (arith, le, h.low); order = h.order }
  role_less y z k (role.Field g) le h = h
  role_less y z k (role.Key g) le h = h
  role_less y z k (role.Parameter g s) le h = h
  role_less y z k (role.Selected l c) le h = h
  role_less y z k role.Operand le h = tt
  role_less y z k role.Assigned le h = tt
  role_less y z k role.Called le h = tt

  if_lies : (z : ℕ) (k : Block) (p : Tree) (r : Role) → RoleLies z k r → RoleLies z k (if_name p r)
  if_lies z k p r h = elim (is_name (kind_of p)) as (λ x. RoleLies z k (if x then r else role.Operand)) [ true ↦ h | false ↦ tt ]

  first_lies : (z : ℕ) (k : Block) (n : ℕ) (r : Role) → RoleLies z k r → RoleLies z k (if_first n r)
  first_lies z k zero r h = h
  first_lies z k (suc n) r h = tt

  called_lies : (z : ℕ) (k : Block) (r : Role) → RoleLies z k (called_in r)
  called_lies z k role.Called = tt
  called_lies z k r = tt

  entry_lies : (z : ℕ) (k : Block) (named : Bool) (p : Tree) (g : ℕ) (s : Option Scope) → In g → ScopeGives par s → RoleLies z k (entry_role named p g s)
  entry_lies z k true p g s at h = if_lies z k p (role.Parameter g s) (at, h)
  entry_lies z k false p g s at h = tt

  field_lies : (z : ℕ) (k : Block) (g : Option ℕ) → OptionIn g → RoleLies z k (field_role g)
  field_lies z k None h = tt
  field_lies z k (Some g) h = h

  key_lies : (z : ℕ) (k : Block) (g : Option ℕ) → OptionIn g → RoleLies z k (key_role g)
  key_lies z k None h = tt
  key_lies z k (Some g) h = h

  parameter_lies : (z : ℕ) (k : Block) (g : Option ℕ) (s : Option Scope) → OptionIn g → ScopeGives par s → RoleLies z k (parameter_role g s)
  parameter_lies z k None s at h = tt
  parameter_lies z k (Some g) s at h = (at, h)

  -- the names of a specification or a definition, in the block of the node
  specified_lies : (c : Context) (s : Sort) (i j y : ℕ) → IsValue (contexts.entity_of s) → a ≤ i → i < j → j ≤ b → y ≤ j → is_package c.block ≡ false → ContextLies j c → RoleLies y c.block (role.New (contexts.specified c s i j))
  specified_lies c s i j y v le lt hi lo l h = record { statement = (le, omega (arith, lt, hi)); behind = omega (arith, le, lt); upto = hi; ends = h.ends; source = h.source; value = v; local = l; low = lo; order = h.behind l }

  defined_lies : (c : Context) (i j y : ℕ) → a ≤ i → i < j → j ≤ b → y ≤ j → is_package c.block ≡ false → ContextLies j c → RoleLies y c.block (role.New (contexts.defined c i j))
  defined_lies c i j y le lt hi lo l h = record { statement = (le, omega (arith, lt, hi)); behind = omega (arith, le, lt); upto = hi; ends = h.ends; source = tt; value = tt; local = l; low = lo; order = h.behind l }

  ranged_lies : (c : Context) (i j y : ℕ) → a ≤ i → i < j → j ≤ b → y ≤ j → is_package c.block ≡ false → ContextLies j c → RoleLies y c.block (role.New (contexts.ranged c i j))
  ranged_lies c i j y le lt hi lo l h = record { statement = (le, omega (arith, lt, hi)); behind = omega (arith, le, lt); upto = hi; ends = h.ends; source = tt; value = tt; local = l; low = lo; order = h.behind l }

  before : (i j : ℕ) → a ≤ i → i < j → j ≤ b → (x : ℕ) × (j ≡ suc x) × In x
  before i zero le lt hi = absurd (omega arith)
  before i (suc x) le lt hi = (x, refl, (omega (arith, le, lt), omega (arith, hi)))

  role_lies : (c : Context) (k : Kind) (i j : ℕ) (named : Bool) (n : ℕ) (p : Tree) → a ≤ i → i < j → j ≤ b → last p ≤ j → ((layer k ≡ Holding → ⊥) → is_package c.block ≡ false) → ContextLies j c
      → RoleLies (last p) (block_in c k i) (role_in c k i j named n p)
  role_lies c (kind.Specification sort.Constant) i j named n p le lt hi lo l h = first_lies (last p) c.block n (role.New (contexts.specified c sort.Constant i j))
      (specified_lies c sort.Constant i j (last p) tt le lt hi lo (l (λ x. cc)) h)
  role_lies c (kind.Specification sort.Variable) i j named n p le lt hi lo l h = first_lies (last p) c.block n (role.New (contexts.specified c sort.Variable i j))
      (specified_lies c sort.Variable i j (last p) tt le lt hi lo (l (λ x. cc)) h)
  role_lies c kind.Define i j named n p le lt hi lo l h = first_lies (last p) c.block n (role.New (contexts.defined c i j)) (defined_lies c i j (last p) le lt hi lo (l (λ x. cc)) h)
  role_lies c kind.DefiningRange i j named n p le lt hi lo l h = first_lies (last p) c.block n (role.New (contexts.ranged c i j)) (ranged_lies c i j (last p) le lt hi lo (l (λ x. cc)) h)
  role_lies c kind.NameList i j named n p le lt hi lo l h = role_less (last p) j c.block c.role lo h.role
  role_lies c kind.NewNames i j named n p le lt hi lo l h = role_less (last p) j c.block c.role lo h.role
  role_lies c kind.Targets i j named n p le lt hi lo l h = tt
  role_lies c kind.ExpressionList i j named n p le lt hi lo l h = if_lies (last p) c.block p c.role (role_less (last p) j c.block c.role lo h.role)
  role_lies c kind.Call i j named n p le lt hi lo l h = first_lies (last p) c.block n role.Called tt
  role_lies c kind.Parenthesized i j named n p le lt hi lo l h = called_lies (last p) c.block c.role
  role_lies c kind.Selector i j named n p le lt hi lo l h = if_lies (last p) c.block p (role.Selected j (is_called c.role)) (before i j le lt hi)
  role_lies c kind.Fields i j named n p le lt hi lo l h = first_lies (last p) c.block n (field_role c.group) (field_lies (last p) c.block c.group h.group)
  role_lies c kind.Keyed i j named n p le lt hi lo l h = first_lies (last p) c.block n (key_role c.group) (key_lies (last p) c.block c.group h.group)
  role_lies c kind.Parameters i j named n p le lt hi lo l h = entry_lies (last p) c.block named p i c.parameters (le, omega (arith, lt, hi)) h.parameters
  role_lies c kind.Parameter i j named n p le lt hi lo l h = first_lies (last p) c.block n (parameter_role c.group c.parameters) (parameter_lies (last p) c.block c.group c.parameters h.group h.parameters)
  role_lies c k i j named n p le lt hi lo l h = tt

  ends_lie : (c : Context) (k : Kind) (i j : ℕ) → a ≤ i → i < j → j ≤ b → ContextLies j c → EndsAs (block_in c k i) (end_in c k j)
  ends_lie c k i j le lt hi h =
      elim (opens k) as (λ x. EndsAs (if x then block.Local i else c.block) (if x then j else c.end)) [
        | true ↦ inr (i, refl, (le, omega (arith, lt, hi)), (omega (arith, le, lt), hi))
        | false ↦ h.ends
      ]

  behind_lies : (c : Context) (k : Kind) (i j y : ℕ) → y ≤ j → (is_package c.block ≡ false → j ≤ c.end) → is_package (block_in c k i) ≡ false → y ≤ end_in c k j
  behind_lies c k i j y le h =
      elim (opens k) as (λ x. is_package (if x then block.Local i else c.block) ≡ false → y ≤ (if x then j else c.end)) [ true ↦ λ l. le | false ↦ λ l. omega (arith, le, h l) ]

  value_lies : (o : Option ℕ) (x : Bool) → OptionIn o → OptionIn (specification_at (value_site o x))
  value_lies None x h = tt
  value_lies (Some s) x h = h

  typed_lies : (c : Context) (n : ℕ) (p : Tree) → OptionIn (specification_at c.site) → OptionIn c.specification → OptionIn (specification_at (typed_site c n p))
  typed_lies c zero p h g = h
  typed_lies c (suc n) p h g = value_lies c.specification (nat_eq (count (parts p)) 1) g

  column_lies : (n : ℕ) (s : Site) → OptionIn (specification_at s) → OptionIn (specification_at (contexts.column_site n s))
  column_lies n (site.Value s k x) h = h
  column_lies n site.Elsewhere h = h
  column_lies n (site.Type s) h = h
  column_lies n (site.Right s r) h = h

  length_lies : (s : Site) → OptionIn (specification_at s) → OptionIn (specification_at (contexts.length_site s))
  length_lies (site.Right s r) h = h
  length_lies (site.Value s k x) h = h
  length_lies site.Elsewhere h = h
  length_lies (site.Type s) h = h

  element_lies : (x : Bool) (s : Site) → OptionIn (specification_at s) → OptionIn (specification_at (element_site x s))
  element_lies true s h = h
  element_lies false (site.Right s reach.Direct) h = h
  element_lies false (site.Right s reach.Indirect) h = h
  element_lies false (site.Right s reach.Length) h = h
  element_lies false (site.Value s k x) h = h
  element_lies false site.Elsewhere h = h
  element_lies false (site.Type s) h = h

  sequence_lies : (c : Context) (ps : Trees) (n : ℕ) → OptionIn (specification_at c.site) → OptionIn (specification_at (contexts.sequence_site c ps n))
  sequence_lies c ps zero h = length_lies c.site h
  sequence_lies c ps (suc n) h = element_lies (is_there (part_at ps 0)) c.site h

  site_lies : (c : Context) (k : Kind) (i : ℕ) (ps : Trees) (n : ℕ) (p : Tree) → In i → is_top k ≡ false → OptionIn (specification_at c.site) → OptionIn c.specification → OptionIn (specification_at (site_in c k i ps n p))
  site_lies c kind.FunctionDeclaration i ps n p at top h g = absurd (true_false true refl top)
  site_lies c (kind.Specification sort.Type) i ps n p at top h g = at
  site_lies c (kind.Specification sort.Constant) i ps n p at top h g = at
  site_lies c (kind.Specification sort.Variable) i ps n p at top h g = at
  site_lies c kind.Values i ps n p at top h g = value_lies c.specification (nat_eq (count (parts p)) 1) g
  site_lies c kind.TypedValues i ps n p at top h g = typed_lies c n p h g
  site_lies c kind.ExpressionList i ps n p at top h g = column_lies n c.site h
  site_lies c kind.SequenceType i ps n p at top h g = sequence_lies c ps n h
  site_lies c kind.FunctionType i ps n p at top h g = element_lies false c.site h
  site_lies c k i ps n p at top h g = h

  specification_lies : (c : Context) (k : Kind) (i : ℕ) → In i → OptionIn c.specification → OptionIn (specification_in c k i)
  specification_lies c (kind.Specification s) i at h = at
  specification_lies c k i at h = h

  own_source_lies : (o : Option ℕ) (s : Sort) (i : ℕ) (ps : Trees) → In i → OptionIn o → OptionIn (own_source o s i ps)
  own_source_lies o s i ps at h = elim (contexts.has_values s ps) as (λ x. OptionIn (if x then Some i else o)) [ true ↦ at | false ↦ h ]

  source_of_lies : (o : Option ℕ) (k : Kind) (i : ℕ) (ps : Trees) → In i → OptionIn o → OptionIn (source_of o k i ps)
  source_of_lies o (kind.Specification s) i ps at h = own_source_lies o s i ps at h
  source_of_lies o k i ps at h = h

  begin_lies : (c : Context) (k : Kind) → OptionIn c.source → OptionIn (source_in c k)
  begin_lies c (kind.Declaration s) h = tt
  begin_lies c k h = h

  group_lies : (c : Context) (k : Kind) (i : ℕ) → In i → OptionIn c.group → OptionIn (group_in c k i)
  group_lies c kind.StructType i at h = at
  group_lies c kind.Composite i at h = at
  group_lies c kind.LiteralValue i at h = at
  group_lies c kind.Parameters i at h = at
  group_lies c k i at h = h

  parameters_lie : (c : Context) (k : Kind) (j : ℕ) (ps : Trees) (n : ℕ) (p : Tree) → is_top k ≡ false → ScopeGives par c.parameters → ScopeGives par (parameters_in c k j ps n p)
  parameters_lie c kind.FunctionDeclaration j ps n p top h = absurd (true_false true refl top)
  parameters_lie c kind.FunctionType j ps n p top h = tt
  parameters_lie c k j ps n p top h = h

  package_value_out : (c : Context) → is_package c.block ≡ false → contexts.package_value c ≡ false
  package_value_out c e = rw e refl

  typed_initial_out : (c : Context) (n : ℕ) → is_package c.block ≡ false → contexts.typed_initial c n ≡ false
  typed_initial_out c zero e = refl
  typed_initial_out c (suc n) e = package_value_out c e

  initial_lies : (c : Context) (k : Kind) (n : ℕ) → (has_values k ≡ true → is_package c.block ≡ false) → c.initial ≡ false → initial_in c k n ≡ false
  initial_lies c kind.Values n l h = package_value_out c (l refl)
  initial_lies c kind.TypedValues n l h = typed_initial_out c n (l refl)
  initial_lies c k n l h = h

  -- ---- the induction

  holds_behind : (k : Kind) (i x : ℕ) → holds_specifications k ≡ true → front k i ≤ x → i < x
  holds_behind (kind.Declaration s) i x e h = omega (arith, h)
  holds_behind (kind.Group s) i x e h = omega (arith, h)
  holds_behind k i x e h = absurd (true_false false e refl)

  specification_behind : (k l : Kind) (i x : ℕ) → may_hold k l ≡ true → is_specification l ≡ true → front k i ≤ x → i < x
  specification_behind k (kind.Specification s) i x e q h = holds_behind k i x e h
  specification_behind k l i x e q h = absurd (true_false false q refl)

  specification_other : (k : Kind) → layer k ≡ Holding → is_specification k ≡ true → ⊥
  specification_other k x e = true_false (is_specification k) e (plain_other k x)

  plain_values : (k l : Kind) → layer k ≡ Holding → may_hold k l ≡ true → has_values l ≡ false
  plain_values k kind.Values x e = absurd (specification_other k x e)
  plain_values k kind.TypedValues x e = absurd (specification_other k x e)
  plain_values k l x e = refl

  -- of parts of a node
  abbrev StandParts : Context → Kind → Trees → Type 0
  StandParts c k qs = (is_package c.block ≡ false) ⊎ ((layer k ≡ Holding) × ArePlain qs × (has_values k ≡ false))

  local_block : (c : Context) (k : Kind) (i : ℕ) → is_package c.block ≡ false → is_package (block_in c k i) ≡ false
  local_block c k i h = elim (opens k) as (λ x. is_package (if x then block.Local i else c.block) ≡ false) [ true ↦ refl | false ↦ h ]

  part_stands : (c : Context) (k : Kind) (i j : ℕ) (ps : Trees) (named : Bool) (n : ℕ) (p : Tree) (x : Bool) (qs : Trees) → may_hold k (kind_of p) ≡ true → StandParts c k (more p qs) → Stands (enter c k i j ps named n p x) p
  part_stands c k i j ps named n p x qs e (inl h) = inl (local_block c k i h)
  part_stands c k i j ps named n p x qs e (inr h) = inr (h.1.0, plain_values k (kind_of p) h.0 e)

  stand_local : (c : Context) (k : Kind) (qs : Trees) → StandParts c k qs → (layer k ≡ Holding → ⊥) → is_package c.block ≡ false
  stand_local c k qs (inl h) f = h
  stand_local c k qs (inr h) f = absurd (f h.0)

  stand_values : (c : Context) (k : Kind) (qs : Trees) → StandParts c k qs → has_values k ≡ true → is_package c.block ≡ false
  stand_values c k qs (inl h) e = h
  stand_values c k qs (inr h) e = absurd (true_false (has_values k) e h.2)

  stand_next : (c : Context) (k : Kind) (p : Tree) (qs : Trees) → StandParts c k (more p qs) → StandParts (pass c p) k qs
  stand_next c k p qs (inl h) = inl h
  stand_next c k p qs (inr h) = inr (h.0, h.1.1, h.2)

  with_source : (z : ℕ) (c : Context) (s : Option ℕ) → OptionIn s → ContextLies z c → ContextLies z (record c { source = s })
  with_source z c s g h = record { ends = h.ends; behind = h.behind; role = h.role; site = h.site; specification = h.specification; source = g; group = h.group; parameters = h.parameters; initial = h.initial }

  enter_lies : (c : Context) (k : Kind) (i j : ℕ) (ps : Trees) (named : Bool) (n : ℕ) (p : Tree) (x : Bool) → a ≤ i → i < j → j ≤ b → In (first p) → last p ≤ j → is_top k ≡ false
      → ((layer k ≡ Holding → ⊥) → is_package c.block ≡ false) → (has_values k ≡ true → is_package c.block ≡ false) → ContextLies j c
      → ContextLies (last p) (enter c k i j ps named n p x)
  enter_lies c k i j ps named n p x le lt hi at lo top l v h =
      let here : In i = (le, omega (arith, lt, hi)) in
      record {
        ends = ends_lie c k i j le lt hi h;
        behind = behind_lies c k i j (last p) lo h.behind;
        role = role_lies c k i j named n p le lt hi lo l h;
        site = site_lies c k i ps n p here top h.site h.specification;
        specification = specification_lies c k i here h.specification;
        source = source_of_lies c.source (kind_of p) (first p) (parts p) at h.source;
        group = group_lies c k i here h.group;
        parameters = parameters_lie c k j ps n p top h.parameters;
        initial = initial_lies c k n v h.initial;
      }

  name_above : (k : Kind) (i : ℕ) → i ≤ behind_name k i
  name_above kind.FunctionDeclaration i = omega arith
  name_above (kind.Specification sort.Type) i = omega arith
  name_above kind.DeclaredName i = omega arith
  name_above kind.Name i = omega arith
  name_above k i = omega arith

  node_stands : (c : Context) (k : Kind) (i j : ℕ) (ps : Trees) → Stands c (node k i j ps) → StandParts (begin c k) k ps
  node_stands c k i j ps (inl h) = inl h
  node_stands c k i j ps (inr h) = inr (h.0.0, h.0.1, h.1)

  skip_stands : (c : Context) (k : Kind) (qs : Trees) → StandParts c k (skip qs) → StandParts c k qs
  skip_stands c k qs (inl h) = inl h
  skip_stands c k qs (inr h) = inr h

  mutual
    pub events_lie : (c : Context) (t : Tree) → ParametersLie par → IsLaidOut t → IsFit t → m ≤ front (kind_of t) (first t) → a ≤ first t → last t ≤ b → is_top (kind_of t) ≡ false
        → (is_specification (kind_of t) ≡ true → a < first t) → Stands c t → ContextLies (last t) c
        → EachEvent EventLies (events c t)
    events_lie c (node k i j ps) p laid fit lo le hi top up st h =
        each_event_append EventLies (statement_events c.listed i j ++ own_events c k i j ps) (events_of (begin c k) k i j ps 0 ps)
        (each_event_append EventLies (statement_events c.listed i j) (own_events c k i j ps) (statement_lies c.listed i j) (own_lies c k i j ps p lo le laid.0 hi top up st h))
        (parts_lie (begin c k) k i j ps 0 ps (behind_name k i) p (name_above k i) laid.1 fit.1 lo le laid.0 hi top (node_stands c k i j ps st) (with_source j c (source_in c k) (begin_lies c k h.source) h))

    parts_lie : (c : Context) (k : Kind) (i j : ℕ) (ps : Trees) (n : ℕ) (qs : Trees) (x : ℕ) → ParametersLie par → i ≤ x → LieIn x j qs → AreFit k i qs → m ≤ front k i → a ≤ i → i < j → j ≤ b → is_top k ≡ false
        → StandParts c k qs → ContextLies j c → EachEvent EventLies (events_of c k i j ps n qs)
    parts_lie c k i j ps n none x p at laid fit lo le lt hi top st h = tt
    parts_lie c k i j ps n (more q qs) x p at laid fit lo le lt hi top st h =
        let y : Bool = is_more qs in
        let grows : first q < last q = laid_grows q laid.1 in
        let order : last q ≤ j = lie_order (last q) j qs laid.2 in
        let low : i ≤ first q = omega (arith, at, laid.0) in
        let here : In (first q) = (omega (arith, le, low), omega (arith, grows, order, hi)) in
        each_event_append EventLies (events (enter c k i j ps (ends_named ps) n q y) q) (events_of (pass c q) k i j ps (suc n) qs)
        (events_lie (enter c k i j ps (ends_named ps) n q y) q p laid.1 fit.2 (omega (arith, lo, fit.1, front_from (kind_of q) (first q))) here.0 (omega (arith, order, hi)) (part_inner k (kind_of q) top fit.0)
        (λ e. omega (arith, le, specification_behind k (kind_of q) i (first q) fit.0 e fit.1))
        (part_stands c k i j ps (ends_named ps) n q y qs fit.0 st)
        (enter_lies c k i j ps (ends_named ps) n q y le lt hi here order top (stand_local c k (more q qs) st) (stand_values c k (more q qs) st) h))
        (parts_lie (pass c q) k i j ps (suc n) qs (last q) p (omega (arith, low, grows)) laid.2 fit.3 lo le lt hi top (stand_next c k q qs st)
        (with_source j c (source_at c q) (source_of_lies c.source (kind_of q) (first q) (parts q) here h.source) h))
    parts_lie c k i j ps n (skip qs) x p at laid fit lo le lt hi top st h = parts_lie c k i j ps (suc n) qs x p at laid fit lo le lt hi top (skip_stands c k qs st) h
