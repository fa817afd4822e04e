-- What the nodes of a tree have to do with names, in the order of their tokens.
use Rattle.std.specs.Prelude.{ℕ, suc, nat_lt, Bool, true, false, ◌||◌, if◌then◌else◌, List, [], ◌∷◌, ◌++◌, Option, Some, None}
use Rattle.go_grammar.specs.declared.kind.Kind.{Kind}
use Rattle.go_grammar.specs.declared.kind.Kind.TheVariants as kind
use Rattle.go_grammar.specs.declared.kind.Sort.TheVariants as sort
use Rattle.go_grammar.specs.Trees.{Tree, node, Trees, none, more, skip, kind_of, first}
use Rattle.go_grammar.specs.Grammar.{ends_named}
use Rattle.go_tree.specs.Views.{part_at}
use Rattle.go_tree.specs.declared.context.Entity.TheVariants as entity
use Rattle.go_tree.specs.declared.context.Manner.TheVariants as manner
use Rattle.go_tree.specs.declared.context.Block.TheVariants as block
use Rattle.go_tree.specs.declared.context.Scope.{Scope}
use Rattle.go_tree.specs.declared.context.Naming.{Naming}
use Rattle.go_tree.specs.declared.context.Role.{Role}
use Rattle.go_tree.specs.declared.context.Role.TheVariants as role
use Rattle.go_tree.specs.declared.context.Context.{Context}
use Rattle.go_tree.specs.declared.event.Member.TheVariants as member
use Rattle.go_tree.specs.declared.event.Event.{Event}
use Rattle.go_tree.specs.declared.event.Event.TheVariants as event
use Rattle.go_tree.specs.Contexts.{is_there, source_in, source_at, enter}

abbrev pub declared : Context → ℕ → Naming → Event
declared c name d = event.Declaration (record { name = name; entity = d.entity; manner = d.manner; block = c.block; scope = d.scope; statement = d.statement; source = d.source; column = c.column })

abbrev pub used : Context → ℕ → Event
used c name = event.Use (record { name = name; role = c.role; site = c.site; constant = c.constant; initial = c.initial })

-- A parameter is declared in the block of the body.
abbrev pub parameter_declared : ℕ → Scope → Event
parameter_declared name s = event.Declaration (record { name = name; entity = entity.Parameter; manner = manner.Declared; block = block.Local s.from; scope = s; statement = name; source = None; column = 0 })

abbrev pub parameter_events : ℕ → ℕ → Option Scope → List Event
parameter_events group name None = event.Member member.Parameter group name ∷ []
parameter_events group name (Some s) = event.Member member.Parameter group name ∷ parameter_declared name s ∷ []

-- a name, by what it is for
abbrev pub name_events : Context → ℕ → Role → List Event
name_events c name (role.New d) = declared c name d ∷ []
name_events c name (role.Field group) = event.Member member.Field group name ∷ []
name_events c name (role.Key group) = event.Member member.Key group name ∷ []
name_events c name (role.Parameter group scope) = parameter_events group name scope
name_events c name r = used c name ∷ []

-- A function is in scope in the whole package.
abbrev pub function_declared : ℕ → ℕ → Event
function_declared i j = event.Declaration (record { name = suc i; entity = entity.Function; manner = manner.Declared; block = block.Package; scope = record { from = i; to = j }; statement = i; source = Some i; column = 0 })

abbrev pub function_events : ℕ → ℕ → Bool → List Event
function_events i j true = function_declared i j ∷ []
function_events i j false = function_declared i j ∷ event.Bodiless i j ∷ []

-- its name is there, as the node has tokens
abbrev pub declaration_events : ℕ → ℕ → Trees → List Event
declaration_events i j ps = if nat_lt i j then function_events i j (is_there (part_at ps 1)) else []

-- A local type is in scope from its name on.
abbrev pub type_declared : Context → ℕ → Event
type_declared c i = event.Declaration (record { name = i; entity = entity.Type; manner = manner.Declared; block = c.block; scope = record { from = i; to = c.end }; statement = i; source = Some i; column = 0 })

abbrev pub misplaced : Bool → ℕ → ℕ → List Event
misplaced true i j = []
misplaced false i j = event.Misplaced i j ∷ []

abbrev pub is_default : Kind → Bool
is_default kind.Default = true
is_default k = false

-- a clause that begins with this word, by whether it is a default and whether there was one before
abbrev pub default_events : Bool → Bool → ℕ → List Event
default_events true true word = event.SecondDefault word ∷ []
default_events d b word = []

-- the clauses with `default` behind the first such clause; b says whether there was one
abbrev pub second_defaults : Bool → Trees → List Event
second_defaults b none = []
second_defaults b (skip ps) = second_defaults b ps
second_defaults b (more p ps) = default_events (is_default (kind_of p)) b (first p) ++ second_defaults (b || is_default (kind_of p)) ps

-- what a node of this kind tells by itself
abbrev pub own_events : Context → Kind → ℕ → ℕ → Trees → List Event
own_events c kind.ImportPath i j ps = event.Import i ∷ []
own_events c kind.FunctionDeclaration i j ps = declaration_events i j ps
own_events c (kind.Specification sort.Type) i j ps = type_declared c i ∷ []
own_events c kind.DeclaredName i j ps = name_events c i c.role
own_events c kind.Name i j ps = name_events c i c.role
own_events c kind.Switch i j ps = second_defaults false ps
own_events c kind.Break i j ps = misplaced c.breaks i j
own_events c kind.Continue i j ps = misplaced c.continues i j
own_events c kind.Fallthrough i j ps = misplaced c.falls i j
own_events c k i j ps = []

abbrev pub statement_events : Bool → ℕ → ℕ → List Event
statement_events true i j = event.Statement i j ∷ []
statement_events false i j = []

-- whether a part stands behind
abbrev pub is_more : Trees → Bool
is_more none = false
is_more (more p ps) = true
is_more (skip ps) = is_more ps

-- the context for the parts behind the part p
abbrev pub pass : Context → Tree → Context
pass c p = record c { source = source_at c p }

-- the context in front of the parts of a node
abbrev pub begin : Context → Kind → Context
begin c k = record c { source = source_in c k }

abbrev mutual
  -- what the node and those below it tell
  pub events : Context → Tree → List Event
  events c (node k i j ps) = statement_events c.listed i j ++ own_events c k i j ps ++ events_of (begin c k) k i j ps 0 ps

  -- the same of the parts qs of a node, from the number n on
  pub events_of : Context → Kind → ℕ → ℕ → Trees → ℕ → Trees → List Event
  events_of c k i j ps n none = []
  events_of c k i j ps n (more p qs) = events (enter c k i j ps (ends_named ps) n p (is_more qs)) p ++ events_of (pass c p) k i j ps (suc n) qs
  events_of c k i j ps n (skip qs) = events_of c k i j ps (suc n) qs
