use Rattle.go_typed.proofs.Mapped.{tiled_mapped, whole_mapped, size_mapped, innermost_mapped, lists_mapped}
use Rattle.go_typed.proofs.laws.trees_over_other_words_for_types.Goals as goal

pub returns-clause-tiled : goal.returns-clause-tiled
returns-clause-tiled c = λ g x. tiled_mapped g x

pub returns-clause-whole : goal.returns-clause-whole
returns-clause-whole c = λ g tokens x. whole_mapped g tokens x

pub returns-clause-size : goal.returns-clause-size
returns-clause-size c = λ g x. size_mapped g x

pub returns-clause-innermost : goal.returns-clause-innermost
returns-clause-innermost c = λ g t x. innermost_mapped g t x

pub returns-clause-lists : goal.returns-clause-lists
returns-clause-lists c = λ g x. lists_mapped g x
