-- Functions of a package whose holes have final types.
use Rattle.std.specs.Prelude.{false, List, [], ◌∷◌}
use Rattle.go_typed.specs.Contents.{FuncContent}
use Rattle.go_stmts_final_types.specs.Holes.{HolesTyped}
use Rattle.go_stmts_final_types.specs.Known.{IsKnown}

-- in each of them whose names stand for something known
abbrev pub AllTyped : List FuncContent → Type 0
AllTyped [] = Unit {0}
AllTyped (f ∷ fs) = (IsKnown f.tree → HolesTyped false f.tree) × AllTyped fs
