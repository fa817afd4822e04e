-- Functions where the locals that they declare as types have the same numbers.
use Rattle.std.proofs.Common.{◌≡◌, ℕ, refl, ap, ◌∙◌}
use Rattle.go_grammar.specs.Trees.{Tree}
use Rattle.go_exprs_rules.specs.Scopes.{Hint, Scope, free}
use Rattle.go_stmts_defs.specs.Bodies.{start}
use Rattle.go_stmts_defs.specs.Frames.{Frame}
use Rattle.go_stmts_defs.specs.Reading.{Reading, read, reading}
use Rattle.go_package_defs.specs.Bodies.{behind_read, function_in}
use Rattle.go_stmts_own_types.specs.Numbered.{AreNumbered, numbered, read_numbered}
use Rattle.go_stmts_own_types.proofs.Reading.{reading_same}

pub statement_same : (others : ℕ → ℕ) (f : Frame) (h : Hint) (x : Tree) → AreNumbered f.types others f.around.objects x → reading (numbered others f) h x ≡ read_numbered others (reading f h x)
statement_same others f h x w = reading_same f.types others f.around.objects f h x (record { types = refl; objects = refl }) w

-- the numbers are no part of what is said of a function
behind_same : (others : ℕ → ℕ) (s : Scope) (number : ℕ) (x : Tree) (r : Reading) → behind_read s number x (read_numbered others r) ≡ behind_read s number x r
behind_same others s number x (read y fs f) = refl

pub function_same : (s : Scope) (number count : ℕ) (types others : ℕ → ℕ) (x : Tree) → AreNumbered types others s.objects x → function_in s number count others x ≡ function_in s number count types x
function_same s number count types others x w =
    ap (behind_read s number x) (statement_same others (start s count types) free x w) ∙ behind_same others s number x (reading (start s count types) free x)
