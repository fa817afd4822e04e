-- The words of a command line.
use Rattle.std.specs.Prelude.{List, [], drop, Result, Ok, Err}
use Rattle.std.specs.Vec.Iter.{into_iter_items}
use Rattle.std.specs.declared.string.String.{String}
use Rattle.std.specs.declared.alloc.Global.{Global}
use Rattle.std.specs.declared.vec.IntoIter.{IntoIter}
use Rattle.std.specs.declared.io.Error.{Error}

-- the words behind the program's own name, and none where the arguments can't be read
abbrev pub words_behind_name : Result (IntoIter (String Global) Global) Error → List (String Global)
words_behind_name (Ok args) = drop 1 (into_iter_items args)
words_behind_name (Err error) = []
