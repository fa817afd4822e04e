-- How parts are laid out, as the program goes about it.
use Rattle.std.specs.Prelude.{Bool, false, [], ◌∷◌, Some}
use Rattle.go_typed.specs.Trees.{sort_of}
use Rattle.go_exprs_rules.specs.Tables.{Parts, cut, is_package}

abbrev pub second_cut : Parts → Parts
second_cut (x ∷ y ∷ ys) = x ∷ cut y ∷ ys
second_cut xs = xs

abbrev pub is_package_alone : Parts → Bool
is_package_alone (Some x ∷ []) = is_package (sort_of x)
is_package_alone xs = false
