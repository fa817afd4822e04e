-- Trees whose tokens stand n tokens further on, and what these tell.
use Rattle.std.specs.Prelude.{ℕ, ◌+◌, if◌then◌else◌, nat_eq, Option, Some, None}
use Rattle.std.specs.Option.{option_map}
use Rattle.go_grammar.specs.Trees.{Tree, node, Trees, none, more, skip}
use Rattle.go_tree.specs.declared.context.Block.{Block}
use Rattle.go_tree.specs.declared.context.Block.TheVariants as block
use Rattle.go_tree.specs.declared.context.Scope.{Scope}
use Rattle.go_tree.specs.declared.context.Naming.{Naming}
use Rattle.go_tree.specs.declared.context.Role.{Role}
use Rattle.go_tree.specs.declared.context.Role.TheVariants as role
use Rattle.go_tree.specs.declared.context.Site.{Site}
use Rattle.go_tree.specs.declared.context.Site.TheVariants as site
use Rattle.go_tree.specs.declared.context.Context.{Context}
use Rattle.go_tree.specs.declared.event.Declaration.{Declaration}
use Rattle.go_tree.specs.declared.event.Use.{Use}
use Rattle.go_tree.specs.declared.event.Event.{Event}
use Rattle.go_tree.specs.declared.event.Event.TheVariants as event
use Rattle.go_tree.specs.declared.object.Extent.{Extent}
use Rattle.go_tree.specs.declared.object.Extent.TheVariants as extent
use Rattle.go_tree.specs.Declarations.{Found}
use Rattle.go_tree.specs.Meanings.{Meaning}

abbrev mutual
  pub moved : ℕ → Tree → Tree
  moved n (node k i j ps) = node k (n + i) (n + j) (all_moved n ps)

  pub all_moved : ℕ → Trees → Trees
  all_moved n none = none
  all_moved n (more p ps) = more (moved n p) (all_moved n ps)
  all_moved n (skip ps) = skip (all_moved n ps)

-- a token that there may be
abbrev pub moved_token : ℕ → Option ℕ → Option ℕ
moved_token n None = None
moved_token n (Some i) = Some (n + i)

abbrev pub moved_scope : ℕ → Scope → Scope
moved_scope n s = record { from = n + s.from; to = n + s.to }

abbrev pub moved_scopes : ℕ → Option Scope → Option Scope
moved_scopes n None = None
moved_scopes n (Some s) = Some (moved_scope n s)

abbrev pub moved_block : ℕ → Block → Block
moved_block n block.Package = block.Package
moved_block n (block.Local i) = block.Local (n + i)

abbrev pub moved_naming : ℕ → Naming → Naming
moved_naming n d = record { entity = d.entity; manner = d.manner; scope = moved_scope n d.scope; statement = n + d.statement; source = moved_token n d.source }

abbrev pub moved_role : ℕ → Role → Role
moved_role n (role.New d) = role.New (moved_naming n d)
moved_role n (role.Selected j called) = role.Selected (n + j) called
moved_role n (role.Field group) = role.Field (n + group)
moved_role n (role.Key group) = role.Key (n + group)
moved_role n (role.Parameter group scope) = role.Parameter (n + group) (moved_scopes n scope)
moved_role n r = r

abbrev pub moved_site : ℕ → Site → Site
moved_site n site.Elsewhere = site.Elsewhere
moved_site n (site.Type s) = site.Type (n + s)
moved_site n (site.Value s column alone) = site.Value (n + s) column alone
moved_site n (site.Right s reach) = site.Right (n + s) reach

abbrev pub moved_context : ℕ → Context → Context
moved_context n c = record c {
  block = moved_block n c.block;
  end = n + c.end;
  role = moved_role n c.role;
  site = moved_site n c.site;
  specification = moved_token n c.specification;
  source = moved_token n c.source;
  group = moved_token n c.group;
  parameters = moved_scopes n c.parameters;
}

abbrev pub moved_declaration : ℕ → Declaration → Declaration
moved_declaration n d = record d { name = n + d.name; block = moved_block n d.block; scope = moved_scope n d.scope; statement = n + d.statement; source = moved_token n d.source }

abbrev pub moved_use : ℕ → Use → Use
moved_use n u = record u { name = n + u.name; role = moved_role n u.role; site = moved_site n u.site }

abbrev pub moved_event : ℕ → Event → Event
moved_event n (event.Import path) = event.Import (n + path)
moved_event n (event.Declaration d) = event.Declaration (moved_declaration n d)
moved_event n (event.Use u) = event.Use (moved_use n u)
moved_event n (event.Member member group name) = event.Member member (n + group) (n + name)
moved_event n (event.Bodiless i j) = event.Bodiless (n + i) (n + j)
moved_event n (event.Statement i j) = event.Statement (n + i) (n + j)
moved_event n (event.Misplaced i j) = event.Misplaced (n + i) (n + j)
moved_event n (event.SecondDefault word) = event.SecondDefault (n + word)

-- an extent where the tokens of the file m stand n tokens further on
abbrev pub moved_extent : ℕ → ℕ → Extent → Extent
moved_extent m n (extent.Between k s) = extent.Between k (if nat_eq k m then moved_scope n s else s)
moved_extent m n e = e

abbrev pub moved_found : ℕ → ℕ → Found → Found
moved_found m n d = record d { it = if nat_eq d.file m then moved_declaration n d.it else d.it }

abbrev pub moved_meaning : ℕ → ℕ → Meaning → Meaning
moved_meaning m n x = record x { extent = moved_extent m n x.extent; source = option_map (moved_found m n) x.source }
