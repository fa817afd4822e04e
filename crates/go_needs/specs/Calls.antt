-- The names in specifications that call for objects of the package.
use Rattle.std.specs.Prelude.{ℕ, Bool, true, false, ◌&&◌, List, [], ◌∷◌, slice_get, Option, Some, None}
use Rattle.go_tree.specs.declared.context.Site.{Site}
use Rattle.go_tree.specs.declared.context.Site.TheVariants as site
use Rattle.go_tree.specs.Declarations.{Found}
use Rattle.go_tree.specs.Lookups.{Asked}
use Rattle.go_tree.specs.Uses.{UsesView, object_of}
use Rattle.go_scopes_cycles.specs.Needs.{source_of}
use Rattle.go_package_defs.specs.Sources.{number_in}
use Rattle.go_needs.specs.declared.calls.Call.{Call}
use Rattle.go_needs.specs.declared.owners.Owner.{Owner}
use Rattle.go_needs.specs.Owners.{owner_of, same_owner, has_source}
use Rattle.go_needs.specs.Parts.{full_place, partial_place}

-- whether a name stands in a specification that one of these has
abbrev pub is_counted : List Owner → ℕ → Site → Bool
is_counted all n site.Elsewhere = false
is_counted all n (site.Type s) = has_source all n s
is_counted all n (site.Value s column alone) = has_source all n s
is_counted all n (site.Right s r) = has_source all n s

-- the number of the object that a declaration declares
abbrev pub number_of : UsesView → Found → Option ℕ
number_of u d = number_in (object_of u d.file d.it.name)

abbrev pub call_at : Asked → Option ℕ → Option Call
call_at a None = None
call_at a (Some m) = Some (record { number = m; full = full_place a.file a.it.site; partial = partial_place a.file a.it.site })

abbrev pub call_if : Bool → UsesView → Asked → Option Found → Option Call
call_if false u a d = None
call_if true u a None = None
call_if true u a (Some d) = call_at a (number_of u d)

-- what a name calls for that stands in the specification of one of these
abbrev pub call_of : UsesView → List Owner → Asked → Option Call
call_of u all a = call_if (is_counted all a.file a.it.site) u a (source_of a.meaning)

abbrev pub with_call : Option Call → List Call → List Call
with_call None cs = cs
with_call (Some c) cs = c ∷ cs

abbrev pub calls_of : UsesView → List Owner → List Asked → List Call
calls_of u all [] = []
calls_of u all (a ∷ asks) = with_call (call_of u all a) (calls_of u all asks)

abbrev pub is_owner : Option Owner → Found → Bool
is_owner None d = false
is_owner (Some o) d = same_owner o (owner_of d)

-- whether the object of this number has the specification and the column of the declaration
abbrev pub is_fit : List Owner → Option ℕ → Found → Bool
is_fit os None d = false
is_fit os (Some m) d = is_owner (slice_get os m) d

abbrev pub fits_if : Bool → UsesView → List Owner → Option Found → Bool
fits_if false u os d = true
fits_if true u os None = true
fits_if true u os (Some d) = is_fit os (number_of u d) d

-- whether the name calls for nothing, or for an object of the package with the specification and the column that its number has
abbrev pub fits_one : UsesView → List Owner → List Owner → Asked → Bool
fits_one u os all a = fits_if (is_counted all a.file a.it.site) u os (source_of a.meaning)

abbrev pub fits : UsesView → List Owner → List Owner → List Asked → Bool
fits u os all [] = true
fits u os all (a ∷ asks) = fits_one u os all a && fits u os all asks
