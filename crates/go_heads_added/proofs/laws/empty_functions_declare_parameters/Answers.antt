use Rattle.go_scopes_events.proofs.Public.{derives_laid, laid_grows}
use Rattle.go_grammar.specs.declared.kind.Category.TheVariants as category
use Rattle.go_tree.specs.Events.{events}
use Rattle.go_heads_added.specs.Appended.{empty_function}
use Rattle.go_heads_added.proofs.Parameters.{signature_context, function_tells, parameters_own}
use Rattle.go_heads_added.proofs.laws.empty_functions_declare_parameters.Goals as goal

pub returns : goal.returns
returns c ts end i j a b s ps h = (
  events (signature_context end i j s a b ps) s,
  function_tells end i j s a b ps (laid_grows (empty_function i j s a b) (derives_laid ts (empty_function i j s a b) category.Declaration h)),
  parameters_own ts end i j s a b ps h,
)
