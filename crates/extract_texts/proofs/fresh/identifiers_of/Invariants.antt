use Rattle.std.proofs.Common.{◌≡◌, ℕ, List, drop}
use Rattle.std.specs.Prelude.{◌||◌}
use Rattle.std.specs.Borrow.{Bor}
use Rattle.std.specs.HashSet as set
use Rattle.std.specs.List.{list_any}
use Rattle.escape_check.specs.Names.{names_file}
use Rattle.escape_check.specs.Texts.{same_bytes}
use Rattle.extract_texts.proofs.fresh.identifiers_of.Given as goal

abbrev pub invariant-loop-file : goal.invariant-loop-file
invariant-loop-file l = (w : Bor (List ℕ)) →
    (set.contains same_bytes l.identifiers w || list_any (names_file w.now) (drop l.file-index l.files)) ≡ list_any (names_file w.now) l.files
