use Rattle.go_package_alike.proofs.Functions.{function_same, answers_same, variables_same}
use Rattle.go_package_alike.proofs.laws.functions_follow_from_their_tokens.Goals as goal

pub returns : goal.returns
returns c = record {
  function = λ p s t number count types x a e w. function_same p s t number count types x a e w;
  body = λ p s t number count types x a e w. answers_same p s t number count types x a e w;
  variables = λ p s t x a w. variables_same p s t x a w;
}
