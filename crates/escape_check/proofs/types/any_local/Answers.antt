use Rattle.std.proofs.Common.{◌∙◌, sym}
use Rattle.escape_check.specs.Places.{sources_in}
use Rattle.escape_check.specs.Types.{is_local_type}
use Rattle.escape_check.proofs.AtSites.{name_hidden}
use Rattle.escape_check.proofs.types.any_local.Goals as goal

pub returns-then-is_local_type : goal.returns-then-is_local_type
returns-then-is_local_type c =
    sym (c.loop-name.invariant ∙ name_hidden (is_local_type (sources_in c.args.checked.now)) c.args.names.now c.loop-name.name-index _ c.loop-name-test.true (sym c.is_local_type.ensures ∙ c.if-is_local_type.true))
