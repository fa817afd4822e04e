use Rattle.std.proofs.Common.{subst}
use Rattle.go_package_added.specs.OneMore.{IsSignature}
use Rattle.go_package_defs.specs.Knowledge.{outlines}
use Rattle.go_package_defs.specs.Sources.{rounds}
use Rattle.go_package_defs.specs.Verdicts.{known}
use Rattle.go_package_added.proofs.Exact.{answered_exactly}
use Rattle.go_package_added.proofs.laws.one_more_function_has_its_fault.Goals as goal

pub returns : goal.returns
returns c p q ds es g h s same settles sig =
    answered_exactly c.expressions_are_typed_elsewhere.ensures c.trees_spelled_the_same_keep_it.ensures c.expressions_follow_from_their_tokens.ensures p q ds es g h same settles s
    (subst (λ os. IsSignature q os g.shared h.function.specification h.function.column (known p (outlines p ds) (rounds p)) s) h.outlined sig)
