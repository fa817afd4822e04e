-- What the walk answers, by what is read of a part of a body.
use Rattle.std.specs.Prelude.{◌≡◌, ℕ, List, Some, None, Result, Ok, Err, map}
use Rattle.std.specs.Option.{option_map}
use Rattle.go_types.specs.Tables.{Table}
use Rattle.go_typed.specs.declared.node.TypedNode.{TypedNode}
use Rattle.go_typed.specs.declared.sort.Sort as program
use Rattle.go_typed.specs.Views.{sort_seen, seen}
use Rattle.go_exprs_rules.specs.declared.fault.TypeError.{TypeError}
use Rattle.go_exprs_rules.specs.declared.fault.TypeError.TheVariants as errors
use Rattle.go_exprs_rules.specs.Faults.{reported}
use Rattle.go_exprs_rules.specs.Settling.{Part}
use Rattle.go_exprs_rules.specs.Tables.{Parts}
use Rattle.go_stmts_defs.specs.Frames.{Frame}
use Rattle.go_stmts_defs.specs.Reading.{Found, Reading, read, Readings, all_read}
use Rattle.go_stmts_rules.specs.Seen.{types_seen}
use Rattle.go_stmts.specs.declared.state.Surroundings.{Surroundings}
use Rattle.go_stmts.specs.declared.state.State.{State}
use Rattle.go_stmts.specs.Signatures.{results_or}
use Rattle.go_stmts.specs.State.{Shows}
use Rattle.go_stmts.specs.declared.row.Row.{Row}

-- ---- what was read

abbrev pub tree_in : Reading → Part
tree_in (read x fs s) = x

abbrev pub found_in : Reading → Found
found_in (read x fs s) = fs

abbrev pub frame_in : Reading → Frame
frame_in (read x fs s) = s

abbrev pub parts_in : Readings → Parts
parts_in (all_read xs fs s) = xs

abbrev pub found_in_all : Readings → Found
found_in_all (all_read xs fs s) = fs

abbrev pub frame_behind : Readings → Frame
frame_behind (all_read xs fs s) = s

-- ---- answers

-- No rule fails, the node is the typed tree, and the state is what is known behind it.
pub record ShowsReading (t : Table) (o : Surroundings) (k : State) (x : program.Sort) (rs : List ℕ) (n : TypedNode) (r : Reading) : Type 0 where
  pub sound : reported (found_in r) ≡ None
  pub tree : seen t n ≡ tree_in r
  pub behind : Shows t o k x rs (frame_in r)

-- So it is, or the fault is the reported one.
abbrev pub IsReading : Table → Surroundings → State → program.Sort → List ℕ → Result TypedNode TypeError → Reading → Type 0
IsReading t o k x rs (Ok n) r = ShowsReading t o k x rs n r
IsReading t o k x rs (Err errors.Memory) r = Unit {0}
IsReading t o k x rs (Err (errors.Fault f)) r = reported (found_in r) ≡ Some f

-- the same of the parts of a node, where rs are the results around it
pub record ShowsReadings (t : Table) (o : Surroundings) (k : State) (rs : List ℕ) (w : Row) (r : Readings) : Type 0 where
  pub sound : reported (found_in_all r) ≡ None
  pub parts : map (option_map (seen t)) w.parts.items ≡ parts_in r
  pub behind : Shows t o k w.tag (results_or w.results rs) (frame_behind r)

abbrev pub AreReadings : Table → Surroundings → State → List ℕ → Result Row TypeError → Readings → Type 0
AreReadings t o k rs (Ok w) r = ShowsReadings t o k rs w r
AreReadings t o k rs (Err errors.Memory) r = Unit {0}
AreReadings t o k rs (Err (errors.Fault f)) r = reported (found_in_all r) ≡ Some f

-- `iota`, the tag and the results in front of a node
pub record IsBefore (t : Table) (iota : ℕ) (x : program.Sort) (rs : List ℕ) (b : Frame) : Type 0 where
  pub counted : b.around.iota ≡ iota
  pub tag : b.tag ≡ sort_seen t x
  pub results : b.results ≡ types_seen t rs
