-- What the rules on names see of the files of a package.
use Rattle.std.specs.Prelude.{List, map, Option, Some, None}
use Rattle.go_base.specs.declared.fault.Fault.{Fault}
use Rattle.go_grammar.specs.Trees.{last}
use Rattle.go_tree.specs.File.{FileTree}
use Rattle.go_tree.specs.Views.{view}
use Rattle.go_tree.specs.Contexts.{file_context}
use Rattle.go_tree.specs.Events.{events}
use Rattle.go_tree.specs.Units.{Unit}
use Rattle.go_scopes.specs.declared.error.ResolveError.{ResolveError}
use Rattle.go_scopes.specs.declared.error.ResolveError.TheVariants as errors

-- the tokens of a file, and what its tree has to do with names
abbrev pub unit_of : FileTree → Unit
unit_of f = record { tokens = f.tokens; events = events (file_context (last (view f.root))) (view f.root) }

abbrev pub units_of : List FileTree → List Unit
units_of fs = map unit_of fs

-- the fault that an error names
abbrev pub refusal_of : ResolveError → Option Fault
refusal_of (errors.Fault fault) = Some fault
refusal_of errors.Memory = None
