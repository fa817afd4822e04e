use Rattle.extract_names.proofs.Copied.{kept}
use Rattle.extract_names.proofs.laws.copied_tokens_mean_what_they_meant.Goals as goal

pub returns : goal.returns
returns c a new outer d copy t k = kept a new outer d copy t k
