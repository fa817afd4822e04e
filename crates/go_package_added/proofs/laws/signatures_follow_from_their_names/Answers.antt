use Rattle.go_package_added.proofs.Signed.{signed}
use Rattle.go_package_added.proofs.laws.signatures_follow_from_their_names.Goals as goal

pub returns : goal.returns
returns c p q ds es g h test meant objects read s before =
    signed c.expressions_are_typed_elsewhere.ensures c.trees_spelled_the_same_keep_it.ensures c.expressions_follow_from_their_tokens.ensures p q ds es g h test meant objects read s before
