use Rattle.extract_rewrite.proofs.Bytes.{other_bytes_stay}
use Rattle.extract_rewrite.proofs.laws.other_bytes_stay.Goals as goal

pub returns : goal.returns
returns c = other_bytes_stay
