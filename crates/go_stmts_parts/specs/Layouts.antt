-- How parts are laid out, but for the name of a type that is declared.
use Rattle.std.specs.Prelude.{ℕ}
use Rattle.go_grammar.specs.declared.kind.Kind.{Kind}
use Rattle.go_grammar.specs.declared.kind.Kind.TheVariants as kind
use Rattle.go_grammar.specs.declared.kind.Sort.TheVariants as declaring
use Rattle.go_exprs_rules.specs.Tables.{Parts}
use Rattle.go_stmts_defs.specs.Frames.{Frame}
use Rattle.go_stmts_defs.specs.Laying.{layout}

-- a specification of types keeps its right side alone
abbrev pub laid : Frame → Kind → ℕ → Parts → Parts
laid s (kind.Specification declaring.Type) i xs = xs
laid s k i xs = layout s k i xs
