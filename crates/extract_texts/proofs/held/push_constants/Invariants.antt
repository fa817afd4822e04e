use Rattle.std.proofs.Common.{◌≡◌, ◌++◌, map, drop}
use Rattle.go_print_laws.specs.Calls.{argument_text}
use Rattle.escape_check.specs.Shown.{member_view}
use Rattle.extract_texts.specs.Shown.{numbers_shown}
use Rattle.extract_texts.specs.Texts.{constants_at}
use Rattle.extract_texts.proofs.held.push_constants.Given as goal

abbrev pub invariant-loop-parameter : goal.invariant-loop-parameter
invariant-loop-parameter l =
    l.texts.items ++ map argument_text (constants_at (numbers_shown (drop l.parameter-index l.parameters)) (member_view l.member))
    ≡ l.fn.texts.items ++ map argument_text (constants_at (numbers_shown l.parameters) (member_view l.member))
