-- The specifications that declarations have.
use Rattle.std.specs.Prelude.{ℕ, Bool, false, ◌&&◌, ◌||◌, nat_eq, List, [], ◌∷◌}
use Rattle.go_tree.specs.Declarations.{Found}
use Rattle.go_tree.specs.Needs.{is_source}
use Rattle.go_scopes_cycles.specs.Columns.{same_source}
use Rattle.go_needs.specs.declared.owners.Owner.{Owner}

abbrev pub owner_of : Found → Owner
owner_of d = record { file = d.file; source = d.it.source; column = d.it.column }

abbrev pub same_owner : Owner → Owner → Bool
same_owner a b = nat_eq a.file b.file && same_source a.source b.source && nat_eq a.column b.column

-- whether one of them has the specification s of the file n
abbrev pub has_source : List Owner → ℕ → ℕ → Bool
has_source [] n s = false
has_source (o ∷ os) n s = (nat_eq o.file n && is_source s o.source) || has_source os n s
