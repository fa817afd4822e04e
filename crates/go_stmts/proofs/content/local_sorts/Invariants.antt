use Rattle.std.proofs.Common.{◌≡◌, length, map}
use Rattle.std.specs.List.{AllByRecursion}
use Rattle.go_typed.specs.Views.{sort_seen, KnownSort}
use Rattle.go_stmts_defs.specs.Bodies.{numbers_from}
use Rattle.go_stmts_defs.specs.Frames.{local_stands}
use Rattle.go_stmts_rules.specs.Seen.{locals_in}
use Rattle.go_stmts.proofs.content.local_sorts.Given as goal

abbrev pub invariant-loop-number : goal.invariant-loop-number
invariant-loop-number l = record {
  known : AllByRecursion (KnownSort (length l.types.shapes)) l.sorts.items;
  tree : map (sort_seen l.types) l.sorts.items ≡ map (local_stands (locals_in l.types l.locals)) (numbers_from 0 l.number);
}
