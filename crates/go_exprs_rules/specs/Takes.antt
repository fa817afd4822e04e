-- What the program says that operands take, in a table of types.
use Rattle.std.specs.Prelude.{ℕ, ◌<◌}
use Rattle.go_types.specs.Tables.{Table, type_of}
use Rattle.go_exprs_rules.specs.declared.take.Take as program
use Rattle.go_exprs_rules.specs.declared.take.Take.TheVariants as take
use Rattle.go_exprs_rules.specs.Settling.{Take, stay, default, as_type}

abbrev pub take_seen : Table → program.Take → Take
take_seen t take.Stay = stay
take_seen t take.Default = default
take_seen t (take.As i) = as_type (type_of t.shapes i)

abbrev pub KnownTake : ℕ → program.Take → Type 0
KnownTake n (take.As i) = i < n
KnownTake n k = Unit {0}
