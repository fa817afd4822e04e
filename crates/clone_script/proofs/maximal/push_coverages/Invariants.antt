use Rattle.std.proofs.Common.{◌≡◌, ◌++◌, map, drop}
use Rattle.clone_script.specs.Maximal.{coverage_lines}
use Rattle.clone_script.proofs.maximal.push_coverages.Given as goal

abbrev pub invariant-loop-file : goal.invariant-loop-file
invariant-loop-file l =
    l.out.items ++ coverage_lines (map (λ name. name.now) l.names) l.file (drop l.file l.covered)
    ≡ l.fn.out.items ++ coverage_lines (map (λ name. name.now) l.names) 0 l.covered
