use Rattle.std.proofs.Common.{◌≡◌, ◌≤◌, ◌++◌, drop, None}
use Rattle.std.specs.Option.{option_map}
use Rattle.go_tree.specs.Views.{view, views}
use Rattle.go_package_defs.specs.Declarations.{grouped}
use Rattle.go_declarations.specs.Views.{seen_all}
use Rattle.go_declarations.proofs.reading.push_group.Given as goal

abbrev pub invariant-loop-part : goal.invariant-loop-part
invariant-loop-part l = record {
  number : l.iota ≤ l.part-index;
  found : seen_all l.found.items ++ grouped l.file l.sort l.iota (option_map (λ n. view n.now) l.repeated) (views (drop l.part-index l.parts)) ≡ seen_all l.initial.found.items ++ grouped l.file l.sort 0 None (views l.parts);
}
