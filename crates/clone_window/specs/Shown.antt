-- What the program's own words show.
use Rattle.go_typed.specs.Windows.{Range}
use Rattle.clone_window.specs.declared.span.TokenRange.{TokenRange}

abbrev pub range_view : TokenRange → Range
range_view r = record { from = r.from; to = r.to }
