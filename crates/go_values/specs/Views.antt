-- The values and the world of the meaning that those of the program stand for.
use Rattle.std.specs.Prelude.{List, map}
use Rattle.go_meaning.specs.Values as meant
use Rattle.go_meaning.specs.Values.{valued}
use Rattle.go_meaning.specs.Computations as meaning
use Rattle.go_values.specs.declared.value.Value.{Value, fold-Value}
use Rattle.go_values.specs.declared.value.Value.TheOpen.{Value-F}
use Rattle.go_values.specs.declared.panic.Panic.{Panic}
use Rattle.go_values.specs.declared.panic.Panic.TheVariants as panic

abbrev pub view_step : Value-F meant.Value → meant.Value
view_step (Value-F.Truth b) = meant.Truth b
view_step (Value-F.Whole z) = meant.Whole z
view_step (Value-F.Text bytes) = meant.Text bytes
view_step (Value-F.Parts v) = meant.Parts (valued v.value.items)
view_step (Value-F.Slice s) = meant.Slice s.array s.start s.length s.capacity
view_step Value-F.NilSlice = meant.NilSlice
view_step (Value-F.Function n) = meant.Function n
view_step Value-F.NilFunction = meant.NilFunction

-- the value of the meaning
abbrev pub view : Value → meant.Value
view = fold-Value meant.Value view_step

abbrev pub views : List Value → List meant.Value
views vs = map view vs

abbrev pub panic_view : Panic → meaning.Panic
panic_view panic.Divide = meaning.Divide
panic_view panic.Shift = meaning.Shift
panic_view panic.Index = meaning.Index
panic_view panic.Slicing = meaning.Slicing
panic_view panic.NilCall = meaning.NilCall
panic_view panic.Make = meaning.Make
panic_view panic.User = meaning.User
