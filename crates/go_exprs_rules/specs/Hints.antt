-- What the hints of the program stand for in a table of types.
use Rattle.std.specs.Prelude.{ℕ, ◌<◌}
use Rattle.go_types.specs.Tables.{Table, type_of}
use Rattle.go_exprs_rules.specs.declared.hint.Hint.TheVariants as hint
use Rattle.go_exprs_rules.specs.declared.hint.Hint as program
use Rattle.go_exprs_rules.specs.Scopes.{Hint, value, several, type_place, loose, inside, one_inside, loose_inside, callee, statement, target, declares, free, element, member, elided}

abbrev pub hint_seen : Table → program.Hint → Hint
hint_seen t hint.Value = value
hint_seen t hint.Several = several
hint_seen t hint.TypePlace = type_place
hint_seen t hint.Loose = loose
hint_seen t hint.Inside = inside
hint_seen t hint.OneInside = one_inside
hint_seen t hint.LooseInside = loose_inside
hint_seen t hint.Callee = callee
hint_seen t hint.Statement = statement
hint_seen t hint.Target = target
hint_seen t hint.Declares = declares
hint_seen t hint.Free = free
hint_seen t (hint.Element i) = element (type_of t.shapes i)
hint_seen t (hint.Member i) = member (type_of t.shapes i)
hint_seen t hint.Elided = elided

abbrev pub KnownHint : ℕ → program.Hint → Type 0
KnownHint n (hint.Element i) = i < n
KnownHint n (hint.Member i) = i < n
KnownHint n h = Unit {0}
