use Rattle.std.proofs.Common.{◌≡◌, ℕ, List, drop}
use Rattle.std.specs.Prelude.{◌||◌}
use Rattle.std.specs.Borrow.{Bor}
use Rattle.std.specs.HashSet as set
use Rattle.std.specs.List.{list_any}
use Rattle.escape_check.specs.Names.{is_identifier_token, names_file}
use Rattle.escape_check.specs.Texts.{same_bytes}
use Rattle.extract_texts.proofs.fresh.add_identifiers.Given as goal

abbrev pub invariant-loop-number : goal.invariant-loop-number
invariant-loop-number l = (w : Bor (List ℕ)) →
    (set.contains same_bytes l.identifiers w || list_any (is_identifier_token l.file w.now) (drop l.number l.file.tokens.tokens))
    ≡ (set.contains same_bytes l.fn.identifiers w || names_file w.now l.file)
