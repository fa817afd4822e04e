use Rattle.std.proofs.Common.{◌≡◌, take}
use Rattle.go_base.specs.Package.{total_bytes}
use Rattle.extract_rewrite.proofs.size.held_bytes.Given as goal

abbrev pub invariant-loop-file : goal.invariant-loop-file
invariant-loop-file l = l.total ≡ total_bytes (take l.file-index l.files)
