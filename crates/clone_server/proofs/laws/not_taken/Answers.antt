use Rattle.std.proofs.Common.{refl}
use Rattle.clap.proofs.OnLiterals.{clap_on_literals}
use Rattle.clone_server.specs.Numbers.{next_number, number_from}
use Rattle.clone_server.specs.Words.{rows_of_words, words_of}
use Rattle.clone_server.proofs.laws.not_taken.Goals as goal

pub returns : goal.returns
unfolding clap_on_literals next_number number_from rows_of_words words_of
returns c = record { none = refl; zero = refl; past = refl; past_mass = refl; sign = refl; leading = refl; empty = refl; repeated = refl; two = refl; make_past = refl; make_alone = refl; make_leading = refl; other = refl; help = refl; version = refl }
