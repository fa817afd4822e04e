use Rattle.std.proofs.Common.{◌≡◌, ◌++◌, ◌<◌, length, drop, map}
use Rattle.std.specs.Prelude.{All}
use Rattle.std.specs.List.{AllByRecursion}
use Rattle.go_types.specs.Trees.{row}
use Rattle.go_types.specs.Tables.{type_of}
use Rattle.go_exprs_rules.specs.Calls.{all_as}
use Rattle.go_exprs_rules.specs.Takes.{take_seen, KnownTake}
use Rattle.go_exprs_calls.proofs.takes.push_fields.Given as goal

abbrev pub invariant-loop-field : goal.invariant-loop-field
invariant-loop-field l = record {
  known : All (KnownTake (length l.types.shapes)) l.takes.items;
  left : AllByRecursion (λ t. t < length l.types.shapes) (map (λ f. f.ty) (drop l.field-index l.fields));
  taken : map (take_seen l.types) l.takes.items ++ all_as (row (map (λ f. type_of l.types.shapes f.ty) (drop l.field-index l.fields))) ≡ map (take_seen l.types) l.initial.takes.items ++ all_as (row (map (λ f. type_of l.types.shapes f.ty) l.fields));
}
