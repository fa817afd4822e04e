-- The declared types of a package, and the numbers of its objects.
use Rattle.std.specs.Prelude.{Bool, true, false, List, [], ◌∷◌, ◌++◌, None}
use Rattle.go_tree.specs.declared.object.Declared.{Declared}
use Rattle.go_types.specs.Relations.{Rights}
use Rattle.go_typed.specs.Packages as packages
use Rattle.go_package_defs.specs.Knowledge.{is_type}
use Rattle.go_package_types.specs.declared.declare.Counts.{Counts}

abbrev pub counts_view : Counts → packages.Counts
counts_view c = record { constants = c.constants; types = c.types; variables = c.variables; functions = c.functions }

abbrev pub open_right : Bool → Rights
open_right true = None ∷ []
open_right false = []

-- the right sides of the types among objects, none of which has one
abbrev pub open_rights : List Declared → Rights
open_rights [] = []
open_rights (d ∷ ds) = open_right (is_type d.entity) ++ open_rights ds
