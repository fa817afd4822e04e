use Rattle.go_heads_added.proofs.Names.{declared_added, names_added}
use Rattle.go_heads_added.proofs.laws.added_names.Goals as goal

pub returns : goal.returns
returns c = record { objects = λ k n name old new h l s. names_added k n name old new h l s; declared = λ k n name old new h l s. declared_added k n name old new h l }
