-- Trees whose tokens stand elsewhere, and what these tell.
use Rattle.std.specs.Prelude.{◌≡◌, ℕ, suc, nat_lt, Option, Some, None}
use Rattle.go_grammar.specs.declared.kind.Kind.{Kind}
use Rattle.go_grammar.specs.declared.kind.Kind.TheVariants as kind
use Rattle.go_grammar.specs.Trees.{Tree, node, Trees, none, more, skip}
use Rattle.go_tree.specs.declared.context.Block.{Block}
use Rattle.go_tree.specs.declared.context.Block.TheVariants as block
use Rattle.go_tree.specs.declared.context.Scope.{Scope}
use Rattle.go_tree.specs.declared.context.Naming.{Naming}
use Rattle.go_tree.specs.declared.context.Role.{Role}
use Rattle.go_tree.specs.declared.context.Role.TheVariants as role
use Rattle.go_tree.specs.declared.context.Site.{Site}
use Rattle.go_tree.specs.declared.context.Site.TheVariants as site
use Rattle.go_tree.specs.declared.context.Context.{Context}
use Rattle.go_tree.specs.declared.event.Declaration.{Declaration}
use Rattle.go_tree.specs.declared.event.Use.{Use}
use Rattle.go_tree.specs.declared.event.Event.{Event}
use Rattle.go_tree.specs.declared.event.Event.TheVariants as event

-- The name of a function stays its second token, and it has tokens where it had some. Of other nodes nothing is asked.
abbrev pub KeepsName : (ℕ → ℕ) → Kind → ℕ → ℕ → Type 0
KeepsName v kind.FunctionDeclaration i j = (v (suc i) ≡ suc (v i)) × (nat_lt (v i) (v j) ≡ nat_lt i j)
KeepsName v k i j = Unit {0}

abbrev mutual
  pub KeepsNames : (ℕ → ℕ) → Tree → Type 0
  KeepsNames v (node k i j ps) = KeepsName v k i j × AllKeepNames v ps

  pub AllKeepNames : (ℕ → ℕ) → Trees → Type 0
  AllKeepNames v none = Unit {0}
  AllKeepNames v (more p ps) = KeepsNames v p × AllKeepNames v ps
  AllKeepNames v (skip ps) = AllKeepNames v ps

-- ---- what stands where the tokens stand

-- a token that there may be
abbrev pub carried_token : (ℕ → ℕ) → Option ℕ → Option ℕ
carried_token v None = None
carried_token v (Some i) = Some (v i)

abbrev pub carried_scope : (ℕ → ℕ) → Scope → Scope
carried_scope v s = record { from = v s.from; to = v s.to }

abbrev pub carried_scopes : (ℕ → ℕ) → Option Scope → Option Scope
carried_scopes v None = None
carried_scopes v (Some s) = Some (carried_scope v s)

abbrev pub carried_block : (ℕ → ℕ) → Block → Block
carried_block v block.Package = block.Package
carried_block v (block.Local i) = block.Local (v i)

abbrev pub carried_naming : (ℕ → ℕ) → Naming → Naming
carried_naming v d = record { entity = d.entity; manner = d.manner; scope = carried_scope v d.scope; statement = v d.statement; source = carried_token v d.source }

abbrev pub carried_role : (ℕ → ℕ) → Role → Role
carried_role v (role.New d) = role.New (carried_naming v d)
carried_role v (role.Selected j called) = role.Selected (v j) called
carried_role v (role.Field group) = role.Field (v group)
carried_role v (role.Key group) = role.Key (v group)
carried_role v (role.Parameter group scope) = role.Parameter (v group) (carried_scopes v scope)
carried_role v r = r

abbrev pub carried_site : (ℕ → ℕ) → Site → Site
carried_site v site.Elsewhere = site.Elsewhere
carried_site v (site.Type s) = site.Type (v s)
carried_site v (site.Value s column alone) = site.Value (v s) column alone
carried_site v (site.Right s reach) = site.Right (v s) reach

abbrev pub carried_context : (ℕ → ℕ) → Context → Context
carried_context v c = record c {
  block = carried_block v c.block;
  end = v c.end;
  role = carried_role v c.role;
  site = carried_site v c.site;
  specification = carried_token v c.specification;
  source = carried_token v c.source;
  group = carried_token v c.group;
  parameters = carried_scopes v c.parameters;
}

abbrev pub carried_declaration : (ℕ → ℕ) → Declaration → Declaration
carried_declaration v d = record d { name = v d.name; block = carried_block v d.block; scope = carried_scope v d.scope; statement = v d.statement; source = carried_token v d.source }

abbrev pub carried_use : (ℕ → ℕ) → Use → Use
carried_use v u = record u { name = v u.name; role = carried_role v u.role; site = carried_site v u.site }

abbrev pub carried_event : (ℕ → ℕ) → Event → Event
carried_event v (event.Import path) = event.Import (v path)
carried_event v (event.Declaration d) = event.Declaration (carried_declaration v d)
carried_event v (event.Use u) = event.Use (carried_use v u)
carried_event v (event.Member member group name) = event.Member member (v group) (v name)
carried_event v (event.Bodiless i j) = event.Bodiless (v i) (v j)
carried_event v (event.Statement i j) = event.Statement (v i) (v j)
carried_event v (event.Misplaced i j) = event.Misplaced (v i) (v j)
carried_event v (event.SecondDefault word) = event.SecondDefault (v word)
