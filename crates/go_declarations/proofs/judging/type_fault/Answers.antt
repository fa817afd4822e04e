use Rattle.std.proofs.Common.{length}
use Rattle.go_declarations.proofs.judging.type_fault.Goals as goal

pub survey_part-requires-clause-hint : goal.survey_part-requires-clause-hint
survey_part-requires-clause-hint c = c.type_hint-hint.ensures.known (length c.args.types.now.shapes)
