use Rattle.extract_names_derived.proofs.SignatureEvents.{return_tells}
use Rattle.extract_names_derived.proofs.laws.printed_returns_tell.Goals as goal

pub returns : goal.returns
returns c = return_tells
