use Rattle.std.proofs.Common.{◌≡◌, take}
use Rattle.std.specs.Prelude.{count_by}
use Rattle.go_types.specs.Tables.{is_declaration}
use Rattle.go_types.proofs.types.Types.declared_below.Given as goal

-- none of the types passed so far is a declared one
abbrev pub invariant-loop-i : goal.invariant-loop-i
invariant-loop-i l = count_by is_declaration (take l.i l.self.shapes) ≡ count_by is_declaration (take l.count l.self.shapes)
