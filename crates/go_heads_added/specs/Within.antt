-- Where the tokens stand that a file tells of.
use Rattle.std.specs.Prelude.{◌≡◌, ℕ, ◌<◌, ◌≤◌, false, Option, Some, None}
use Rattle.go_tree.specs.declared.context.Site.{Site}
use Rattle.go_tree.specs.declared.context.Site.TheVariants as site
use Rattle.go_tree.specs.Declarations.{is_function}
use Rattle.go_tree.specs.Constants.{list_of}
use Rattle.go_tree.specs.declared.context.Role.{Role}
use Rattle.go_tree.specs.declared.context.Role.TheVariants as role
use Rattle.go_tree.specs.declared.event.Event.{Event}
use Rattle.go_tree.specs.declared.event.Event.TheVariants as event

-- a selector ends in front of the token n, or there
abbrev pub RoleWithin : ℕ → Role → Type 0
RoleWithin n (role.Selected last called) = last ≤ n
RoleWithin n r = Prim.Unit {0}

-- the specification that a name stands in begins in front of it
abbrev pub SiteWithin : ℕ → Site → Type 0
SiteWithin n site.Elsewhere = Prim.Unit {0}
SiteWithin n (site.Type s) = s < n
SiteWithin n (site.Value s column alone) = s < n
SiteWithin n (site.Right s reach) = s < n

abbrev pub SourceWithin : ℕ → Option ℕ → Type 0
SourceWithin n None = Prim.Unit {0}
SourceWithin n (Some s) = s < n

-- The event tells of tokens in front of the token n: of a name with its specification, of an import, of a member with its group, or of a
-- function without a body.
abbrev pub EventWithin : ℕ → Event → Type 0
EventWithin n (event.Use u) = (u.name < n) × RoleWithin n u.role × SiteWithin n u.site
EventWithin n (event.Declaration d) = (d.name < n) × SourceWithin n d.source
EventWithin n (event.Import p) = p < n
EventWithin n (event.Member m g i) = (g < n) × (i < n)
EventWithin n (event.Bodiless i j) = j ≤ n
EventWithin n e = Prim.Unit {0}

-- the specification that a name stands in begins at the token n or behind it
abbrev pub SiteBehind : ℕ → Site → Type 0
SiteBehind n site.Elsewhere = Prim.Unit {0}
SiteBehind n (site.Type s) = n ≤ s
SiteBehind n (site.Value s column alone) = n ≤ s
SiteBehind n (site.Right s reach) = n ≤ s

abbrev pub SourceBehind : ℕ → Option ℕ → Type 0
SourceBehind n None = Prim.Unit {0}
SourceBehind n (Some s) = n ≤ s

-- What a function with an empty body tells: names that it declares, which repeat no list of constants, and of which only its own has a
-- specification; names that are looked up; and members of groups. Specifications and groups begin at the token n or behind it.
abbrev pub IsOfFunction : ℕ → Event → Type 0
IsOfFunction n (event.Use u) = SiteBehind n u.site
IsOfFunction n (event.Declaration d) = (list_of d ≡ None) × (is_function d.entity ≡ false → d.source ≡ None) × SourceBehind n d.source
IsOfFunction n (event.Member m g i) = n ≤ g
IsOfFunction n e = ⊥
