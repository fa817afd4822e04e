use Rattle.go_stmts_placed.proofs.Frames.{beginning_good, entering_good, frame_of, good_of, leaving_good}
use Rattle.go_stmts_placed.proofs.laws.what_is_known_stays_known.Goals as goal

pub returns : goal.returns
returns c = record {
  beginning = λ count k i s g. frame_of count _ (beginning_good count k i s (good_of count s g));
  entering = λ count k xs s g. frame_of count _ (entering_good count k xs s (good_of count s g));
  leaving = λ count k i ps x before s f d g. frame_of count _ (leaving_good count k i ps x before s f d (good_of count s g));
}
