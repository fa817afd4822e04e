use Rattle.std.proofs.Common.{◌≡◌, ◌++◌, drop}
use Rattle.go_scopes_events.specs.Scopes.{AreOrderly}
use Rattle.go_scopes_lookup.specs.Tables.{AreCounted, AreInside}
use Rattle.go_scopes_lookup.specs.Views.{units_view}
use Rattle.go_scopes.specs.Resolve.{units_of}
use Rattle.go_scopes.proofs.resolve.units_of.Given as goal

abbrev pub invariant-loop-file : goal.invariant-loop-file
invariant-loop-file l = record {
  units : units_view l.units.items ++ units_of (drop l.file-index l.files) ≡ units_of l.files;
  orderly : AreOrderly (units_view l.units.items);
  counted : AreCounted (units_view l.units.items);
  inside : AreInside (units_view l.units.items);
}
