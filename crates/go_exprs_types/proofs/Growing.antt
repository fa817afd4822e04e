-- What is known of a type of a table stays as the table grows.
use Rattle.std.proofs.Common.{ℕ, ◌<◌, length, ap, ◌∙◌, arith}
use Rattle.std.proofs.lemmas.List.{length-append}
use Rattle.go_types.specs.Tables.{Table, IsTable}
use Rattle.go_types.specs.Trees.{TypeTree}
use Rattle.go_types_relations.specs.Extends.{Grows}
use Rattle.go_types_relations.proofs.Public.{tree_stays}
use Rattle.go_exprs_types.specs.Types.{IsOf}

pub longer : (s t : Table) → Grows s t → (i : ℕ) → i < length s.shapes → i < length t.shapes
longer s t g i h = let e = ap length g.extends.shapes ∙ length-append s.shapes g.extends.added in omega arith

pub kept : (s t : Table) → IsTable s → Grows s t → (i : ℕ) (a : TypeTree) → IsOf s i a → IsOf t i a
kept s t ok g i a h = (longer s t g i h.0, tree_stays s t ok g.extends i h.0 ∙ h.1)
