use Rattle.std.proofs.Common.{◌≡◌, ◌+◌, ◌++◌, None, length, drop, replicate}
use Rattle.go_types.specs.Tables.{rights_of}
use Rattle.go_types_relations.specs.Extends.{Extends}
use Rattle.go_package_defs.specs.Bodies.{which_types, count_types}
use Rattle.go_stmts.specs.Bodies.{AreOwn}
use Rattle.go_stmts.proofs.own.own_types.Given as goal

abbrev pub invariant-loop-local : goal.invariant-loop-local
invariant-loop-local l = record {
  extends : Extends l.fn.types l.types;
  count : length l.own.items ≡ l.local-index;
  rights : rights_of l.types ++ replicate (count_types (which_types (drop l.local-index l.locals))) None ≡ rights_of l.fn.types ++ replicate (count_types (which_types l.locals)) None;
  size : length l.types.rights + count_types (which_types (drop l.local-index l.locals)) ≡ length l.fn.types.rights + count_types (which_types l.locals);
  own : AreOwn l.types (length l.fn.types.rights) (which_types l.locals) l.own.items;
}
