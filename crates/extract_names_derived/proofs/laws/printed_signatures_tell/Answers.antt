use Rattle.extract_names_derived.proofs.SignatureEvents.{signature_tells}
use Rattle.extract_names_derived.proofs.laws.printed_signatures_tell.Goals as goal

pub returns : goal.returns
returns c = signature_tells
