use Rattle.extract_files.proofs.Levels.{function_appended}
use Rattle.extract_files.proofs.laws.functions_may_be_appended.Goals as goal

pub returns : goal.returns
returns c = function_appended c.rewritten_tokens.ensures
