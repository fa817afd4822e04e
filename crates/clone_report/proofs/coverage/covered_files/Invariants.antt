use Rattle.std.proofs.Common.{◌≡◌, map}
use Rattle.std.specs.List.{range_with_len}
use Rattle.clone_window.specs.Bodies.{bodies_of}
use Rattle.clone_classes.specs.Listing.{members_of}
use Rattle.clone_report.specs.Covered.{coverage}
use Rattle.clone_report.proofs.coverage.covered_files.Given as goal

abbrev pub invariant-loop-file : goal.invariant-loop-file
invariant-loop-file l = l.out.items ≡ map (coverage (members_of l.classes) l.checked.files (bodies_of l.checked.functions)) (range_with_len 0 l.file)
