-- Nodes that hold the tag of a switch.
use Rattle.std.specs.Prelude.{Bool, true, false, if◌then◌else◌}
use Rattle.go_grammar.specs.declared.kind.Kind.TheVariants as kind
use Rattle.go_typed.specs.declared.form.Form.{Form}
use Rattle.go_typed.specs.declared.form.Form.TheVariants as form
use Rattle.go_typed.specs.Trees.{form_of, sort_of, parts_of, list_of}
use Rattle.go_exprs_rules.specs.Settling.{Part}
use Rattle.go_exprs_rules.specs.Sorts.{Stands}
use Rattle.go_stmts_defs.specs.Reading.{tag_in, tag_of, last_of_list}

abbrev pub holds_tag : Form → Bool
holds_tag (form.Held kind.LateTag) = true
holds_tag (form.Held kind.InitializedTag) = true
holds_tag f = false

-- the tag that a part gives which is there
abbrev pub part_tag : Part → Stands
part_tag x = if holds_tag (form_of x) then tag_of (last_of_list (list_of (parts_of x))) else tag_in (sort_of x)
