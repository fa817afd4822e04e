-- Rows of types.
use Rattle.std.proofs.Common.{◌≡◌, ℕ, ◌≤◌, List, [], ◌∷◌, length, map, false, refl, ap, arith}
use Rattle.std.specs.Prelude.{◌&&◌}
use Rattle.go_tree.specs.declared.context.Entity.TheVariants as entity
use Rattle.go_types.specs.Trees.{TypeTree, TypeRow, none, more, row, function}
use Rattle.go_typed.specs.Trees as sort
use Rattle.go_package_defs.specs.Answer.{is_procedure}
use Rattle.go_declarations.specs.Procedures.{is_none}
use Rattle.go_stmts_defs.specs.Assigning.{types_in}

pub types_in_row : (ts : List TypeTree) → types_in (row ts) ≡ ts
types_in_row [] = refl
types_in_row (t ∷ ts) = ap (λ us. t ∷ us) (types_in_row ts)

pub procedure_is : (ps rs : TypeRow) → is_procedure entity.Function (sort.Value (function ps rs)) ≡ (is_none ps && is_none rs)
procedure_is none none = refl
procedure_is none (more t ts) = refl
procedure_is (more t ts) rs = refl

pub row_not_none : (f : ℕ → TypeTree) (xs : List ℕ) → 1 ≤ length xs → false ≡ is_none (row (map f xs))
row_not_none f [] h = absurd (omega (arith, h))
row_not_none f (x ∷ xs) h = refl
