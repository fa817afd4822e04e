use Rattle.std.proofs.Common.{◌≡◌, drop}
use Rattle.std.specs.List.{list_any}
use Rattle.std.specs.Prelude.{Some}
use Rattle.go_tokens.specs.Spellings.{same_text}
use Rattle.escape_check.specs.Places.{name_text, sources_in}
use Rattle.escape_check.specs.Types.{is_declared_in_package}
use Rattle.escape_check.proofs.types.is_declared_in_package.Given as goal

abbrev pub invariant-loop-declared : goal.invariant-loop-declared
invariant-loop-declared l =
    is_declared_in_package (sources_in l.checked) l.name
    ≡ list_any (λ d. same_text (name_text (sources_in l.checked) (Some d)) l.name) (drop l.declared-index l.declared-items)
