-- What the program's own words for types and comparisons show.
use Rattle.std.specs.Prelude.{ℕ}
use Rattle.clone_window.specs.declared.alike.Final.{Final}
use Rattle.clone_window.specs.declared.alike.Final.TheVariants as final
use Rattle.clone_window.specs.declared.alike.Compared.{Compared}
use Rattle.clone_window.specs.declared.alike.Compared.TheVariants as compared
use Rattle.clone_window.specs.Sameness as specs
use Rattle.clone_window.specs.Sameness.{of_type, of_kind, of_none, by_form, by_sort, by_literal}

abbrev pub final_view : Final → specs.Final ℕ
final_view (final.Type t) = of_type t
final_view (final.Kind k) = of_kind k
final_view final.Nothing = of_none

abbrev pub compared_view : Compared → specs.Compared
compared_view compared.Form = by_form
compared_view compared.Sort = by_sort
compared_view compared.Literal = by_literal
