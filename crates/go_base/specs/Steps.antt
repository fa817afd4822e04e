-- What a counter has counted.
use Rattle.std.specs.Prelude.{ℕ}

pub record Counts : Type 0 where
  -- functions whose bodies were checked
  pub checked : ℕ
  -- windows that were put into an index
  pub entered : ℕ
  -- pairs of windows that were compared
  pub compared : ℕ

abbrev pub no_counts : Counts
no_counts = record { checked = 0; entered = 0; compared = 0 }
