-- What the values of the program stand for in a table of types.
use Rattle.std.specs.Prelude.{ℕ, ◌<◌, List, Option, Some, None, map}
use Rattle.std.specs.Option.{option_map}
use Rattle.go_types.specs.Trees.{TypeTree}
use Rattle.go_types.specs.Tables.{Table, type_of}
use Rattle.go_typed.specs.Scopes.{LocalsView}
use Rattle.go_typed.specs.Trees.{sort_mapped}
use Rattle.go_typed.specs.Views.{sort_seen, KnownSort}
use Rattle.go_exprs_rules.specs.Takes.{take_seen, KnownTake}
use Rattle.go_stmts_defs.specs.Assigning.{Wanted, Taking, takes, stands}
use Rattle.go_stmts_defs.specs.Frames.{Locals}
use Rattle.go_stmts_rules.specs.declared.taking.Taking as program
use Rattle.go_stmts_rules.specs.declared.taking.Taking.TheVariants as taking

abbrev pub taking_seen : Table → program.Taking → Taking
taking_seen t (taking.Takes k) = takes (take_seen t k)
taking_seen t (taking.Stands x) = stands (sort_seen t x)

abbrev pub KnownTaking : ℕ → program.Taking → Type 0
KnownTaking n (taking.Takes k) = KnownTake n k
KnownTaking n (taking.Stands x) = KnownSort n x

-- the types of variables, or of each that it has none yet
abbrev pub wanted_seen : Table → List (Option ℕ) → Wanted
wanted_seen t ws = map (option_map (type_of t.shapes)) ws

abbrev pub KnownWanted : ℕ → Option ℕ → Type 0
KnownWanted n (Some i) = i < n
KnownWanted n None = Unit {0}

abbrev pub types_seen : Table → List ℕ → List TypeTree
types_seen t is = map (type_of t.shapes) is

-- what the locals stand for that are declared so far
abbrev pub locals_in : Table → LocalsView → Locals
locals_in t ls = map (option_map (sort_mapped (type_of t.shapes))) ls.sorts
