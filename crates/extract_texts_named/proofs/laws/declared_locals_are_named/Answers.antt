use Rattle.extract_texts_named.proofs.Declared.{declared_named}
use Rattle.extract_texts_named.proofs.laws.declared_locals_are_named.Goals as goal

pub returns : goal.returns
returns c = declared_named
