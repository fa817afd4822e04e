-- Statements without switches, of which nothing is asked of tags.
use Rattle.std.specs.Prelude.{◌≡◌, Bool, true, false, ◌&&◌, not}
use Rattle.go_grammar.specs.declared.kind.Kind.{Kind}
use Rattle.go_grammar.specs.declared.kind.Kind.TheVariants as kind
use Rattle.go_grammar.specs.Trees.{Tree, node, Trees, none, more, skip}
use Rattle.go_exprs_rules.specs.Scopes.{Hint}
use Rattle.go_stmts_defs.specs.Frames.{Frame}
use Rattle.go_stmts_defs.specs.Reading.{reading}
use Rattle.go_stmts_variables.specs.Statements.{tree_in, Tagged}

abbrev pub is_switch : Kind → Bool
is_switch kind.Switch = true
is_switch k = false

abbrev mutual
  pub is_switchless : Tree → Bool
  is_switchless (node k i j ps) = not (is_switch k) && are_switchless ps

  pub are_switchless : Trees → Bool
  are_switchless none = true
  are_switchless (more p ps) = is_switchless p && are_switchless ps
  are_switchless (skip ps) = are_switchless ps

-- Reading makes no switches of other statements.
abbrev pub SwitchlessAreTagged : Type 0
SwitchlessAreTagged = (f : Frame) (h : Hint) (x : Tree) → is_switchless x ≡ true → Tagged (tree_in (reading f h x))
