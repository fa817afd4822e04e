use Rattle.std.proofs.Common.{subst}
use Rattle.go_package_added.specs.OneMore.{IsSignature}
use Rattle.go_package_defs.specs.Knowledge.{outlines}
use Rattle.go_package_defs.specs.Sources.{rounds}
use Rattle.go_package_defs.specs.Verdicts.{known}
use Rattle.go_package_added.proofs.Answered.{answered_before, answered_with}
use Rattle.go_package_added.proofs.laws.one_more_function_has_its_answer.Goals as goal

pub returns : goal.returns
returns c = record {
  after = λ p q ds es g h s settles sig.
      answered_with c.expressions_are_typed_elsewhere.ensures c.trees_spelled_the_same_keep_it.ensures c.expressions_follow_from_their_tokens.ensures p q ds es g h settles s
      (subst (λ os. IsSignature q os g.shared h.function.specification h.function.column (known p (outlines p ds) (rounds p)) s) h.outlined sig);
  before = λ p q ds es g h s settles sig.
      answered_before c.expressions_are_typed_elsewhere.ensures c.trees_spelled_the_same_keep_it.ensures c.expressions_follow_from_their_tokens.ensures p q ds es g h settles s
      (subst (λ os. IsSignature q os g.shared h.function.specification h.function.column (known p (outlines p ds) (rounds p)) s) h.outlined sig);
}
