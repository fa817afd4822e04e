-- What is printed behind the first value of a line.
use Rattle.std.specs.Prelude.{ℕ, List, [], ◌∷◌}
use Rattle.go_meaning.specs.Values.{Value}
use Rattle.go_meaning.specs.Texts.{line_of}

abbrev pub rest_of_line : List Value → List ℕ
rest_of_line [] = 10 ∷ []
rest_of_line (v ∷ vs) = 32 ∷ line_of (v ∷ vs)
