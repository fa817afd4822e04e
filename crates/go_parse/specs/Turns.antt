-- Which turn it is, as tests.
use Rattle.std.specs.Prelude.{Bool, true, false}
use Rattle.go_grammar.specs.declared.items.Turn.{Turn}
use Rattle.go_grammar.specs.declared.items.Turn.TheVariants.{Stop, Pass}

abbrev pub stops : Turn → Bool
stops Stop = true
stops t = false

abbrev pub passes : Turn → Bool
passes Pass = true
passes t = false
