use Rattle.std.proofs.Common.{◌≡◌, ◌≤◌}
use Rattle.std.specs.Prelude.{take, count_by}
use Rattle.go_types.specs.Tables.{is_declaration}
use Rattle.go_package.proofs.RightSides.{There}
use Rattle.go_package.proofs.defined.defined_types.Given as goal

abbrev pub invariant-loop-number : goal.invariant-loop-number
invariant-loop-number l = record {
  few : l.count ≤ l.number;
  counted : l.count ≡ count_by is_declaration (take l.number l.types.shapes);
  there : There l.types.rights l.count;
}
