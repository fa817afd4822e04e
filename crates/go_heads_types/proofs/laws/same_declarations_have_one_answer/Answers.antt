use Rattle.go_heads_types.proofs.StateAnswers.{knowledge_kept}
use Rattle.go_heads_types.proofs.laws.same_declarations_have_one_answer.Goals as goal

pub returns : goal.returns
returns c p q ds es h =
    knowledge_kept c.moved_expressions_are_typed_the_same.ensures c.trees_further_on_keep_their_names.ensures c.expressions_follow_from_their_tokens.ensures c.equal_objects_mean_the_same.ensures p q ds es h
