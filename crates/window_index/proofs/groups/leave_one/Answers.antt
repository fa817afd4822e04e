use Rattle.std.proofs.Common.{rules}
use Rattle.std.specs.Prelude.{not}
use Rattle.std.proofs.lemmas.Fn.{filter_same}
use Rattle.window_index.specs.Buckets.{is_of}
use Rattle.window_index.proofs.groups.leave_one.Goals as goal

pub returns : goal.returns
returns c = filter_same _ (λ w. not (is_of c.args.func w)) _ (λ x b q call. search rules) _ _ c.retain.ensures.filtered
