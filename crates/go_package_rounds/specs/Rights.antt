-- The right sides that are held of the types of a package.
use Rattle.std.specs.Prelude.{Bool, Option, List, [], ◌∷◌, if◌then◌else◌}
use Rattle.std.specs.Option.{option_map}
use Rattle.go_tree.specs.declared.object.Declared.{Declared}
use Rattle.go_types.specs.Trees.{TypeTree}
use Rattle.go_types.specs.Relations.{Rights}
use Rattle.go_types.specs.Tables.{Table, type_of}
use Rattle.go_package_defs.specs.Knowledge.{is_type}
use Rattle.go_package_rounds.specs.declared.held.Held.{Held}

-- x in front of others, if it belongs there
abbrev pub behind : Bool → Option TypeTree → Rights → Rights
behind b x xs = if b then x ∷ xs else xs

-- those of the objects that are types, in order
abbrev pub rights_held : Table → List Declared → List Held → Rights
rights_held t (d ∷ ds) (h ∷ hs) = behind (is_type d.entity) (option_map (type_of t.shapes) h.right) (rights_held t ds hs)
rights_held t _ _ = []
