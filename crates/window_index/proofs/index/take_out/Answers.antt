use Rattle.std.proofs.Common.{rules}
use Rattle.window_index.proofs.Leaving.{kept-are-left}
use Rattle.window_index.proofs.index.take_out.Goals as goal

pub returns : goal.returns
returns c = kept-are-left _ c.args.func _ (λ h gs b ls g call. search rules) _ _ c.retain.ensures.filtered
