-- Roles and sites of names that are looked up, with numbers of 32 bits.
use Rattle.std.specs.Prelude.{◌≡◌, ℕ, nat_lt, ◌^◌, Bool, true, false, refl}
use Rattle.go_tree.specs.declared.context.Role.{Role}
use Rattle.go_tree.specs.declared.context.Role.TheVariants as role
use Rattle.go_tree.specs.declared.context.Site.{Site}
use Rattle.go_tree.specs.declared.context.Site.TheVariants as site
use Rattle.go_tree.specs.declared.lookup.ShortRole.{ShortRole}
use Rattle.go_tree.specs.declared.lookup.ShortRole.TheVariants as short
use Rattle.go_tree.specs.declared.lookup.ShortSite.{ShortSite}
use Rattle.go_tree.specs.declared.lookup.ShortSite.TheVariants as place

-- it is one of a name that is looked up
abbrev pub is_looked_up : Role → Bool
is_looked_up role.Operand = true
is_looked_up role.Assigned = true
is_looked_up role.Called = true
is_looked_up (role.Selected l c) = true
is_looked_up r = false

abbrev pub whole_role : ShortRole → Role
whole_role short.Operand = role.Operand
whole_role short.Assigned = role.Assigned
whole_role short.Called = role.Called
whole_role (short.Selected c l) = role.Selected l c

abbrev pub short_role : Role → ShortRole
short_role role.Assigned = short.Assigned
short_role role.Called = short.Called
short_role (role.Selected l c) = short.Selected c l
short_role r = short.Operand

abbrev pub short_role_again : (r : ShortRole) → short_role (whole_role r) ≡ r
short_role_again short.Operand = refl
short_role_again short.Assigned = refl
short_role_again short.Called = refl
short_role_again (short.Selected c l) = refl

-- its column, if it has one, has 32 bits
abbrev pub has_short_column : Site → Bool
has_short_column (site.Value s c a) = nat_lt c (2 ^ 32)
has_short_column s = true

abbrev pub whole_site : ShortSite → Site
whole_site place.Elsewhere = site.Elsewhere
whole_site (place.Type s) = site.Type s
whole_site (place.Value a s c) = site.Value s c a
whole_site (place.Right r s) = site.Right s r

abbrev pub short_site : Site → ShortSite
short_site site.Elsewhere = place.Elsewhere
short_site (site.Type s) = place.Type s
short_site (site.Value s c a) = place.Value a s c
short_site (site.Right s r) = place.Right r s

abbrev pub short_site_again : (s : ShortSite) → short_site (whole_site s) ≡ s
short_site_again place.Elsewhere = refl
short_site_again (place.Type s) = refl
short_site_again (place.Value a s c) = refl
short_site_again (place.Right r s) = refl
