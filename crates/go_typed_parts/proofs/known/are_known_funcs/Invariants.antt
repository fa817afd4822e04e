use Rattle.std.proofs.Common.{◌≡◌, drop}
use Rattle.std.specs.List.{list_all}
use Rattle.go_typed.specs.Packages.{is_known_func}
use Rattle.go_typed_parts.specs.Shown.{counts_view}
use Rattle.go_typed_parts.proofs.known.are_known_funcs.Given as goal

abbrev pub invariant-loop-f : goal.invariant-loop-f
invariant-loop-f l = list_all (is_known_func (counts_view l.counts) l.count) l.functions ≡ list_all (is_known_func (counts_view l.counts) l.count) (drop l.f-index l.functions)
