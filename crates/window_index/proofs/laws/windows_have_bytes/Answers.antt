use Rattle.window_index.proofs.Bytes.{has-bytes}
use Rattle.window_index.proofs.laws.windows_have_bytes.Goals as goal

pub returns : goal.returns
returns c = has-bytes
