-- What a list of statements tells, statement by statement (Go specification: Blocks, Statement lists).
use Rattle.std.specs.Prelude.{◌≡◌, ℕ, Bool, true, false, ◌&&◌, not, List, [], ◌++◌}
use Rattle.go_grammar.specs.declared.kind.Kind.{Kind}
use Rattle.go_grammar.specs.declared.kind.Kind.TheVariants as kind
use Rattle.go_grammar.specs.Trees.{Tree, node, Trees, none, more, skip, kind_of}
use Rattle.go_grammar.specs.Grammar.{ends_named}
use Rattle.go_tree.specs.declared.context.Block.TheVariants as block
use Rattle.go_tree.specs.declared.context.Context.{Context}
use Rattle.go_tree.specs.declared.context.Role.TheVariants as role
use Rattle.go_tree.specs.declared.event.Event.{Event}
use Rattle.go_tree.specs.Contexts.{enter}
use Rattle.go_tree.specs.Events.{statement_events, is_more, begin, events}

-- the context of the statements of a block or clause that has the tokens from i up to j
abbrev pub list_context : Context → ℕ → ℕ → Context
list_context c i j = record c { block = block.Local i; end = j; role = role.Operand; column = 0; listed = true; followed = false; falls = false }

-- what the statements of a list tell; the last one may be `fallthrough` where another clause stands behind
abbrev pub told_list : Context → Bool → Trees → List Event
told_list c followed none = []
told_list c followed (more p ps) = events (record c { falls = followed && not (is_more ps) }) p ++ told_list c followed ps
told_list c followed (skip ps) = told_list c followed ps

abbrev pub is_specification : Kind → Bool
is_specification (kind.Specification s) = true
is_specification k = false

-- none of them is a specification of a declaration
abbrev pub AreStatements : Trees → Type 0
AreStatements none = Unit {0}
AreStatements (more p ps) = (is_specification (kind_of p) ≡ false) × AreStatements ps
AreStatements (skip ps) = AreStatements ps

-- the kinds that hold lists of statements
abbrev pub holds_statements : Kind → Bool
holds_statements kind.Block = true
holds_statements kind.Case = true
holds_statements kind.Default = true
holds_statements k = false

-- A block tells what its statements tell, each by itself, and so do clauses.
pub record TellsStatements (c : Context) (i j : ℕ) (ps : Trees) : Type 0 where
  pub block : events c (node kind.Block i j ps) ≡ statement_events c.listed i j ++ told_list (list_context c i j) false ps
  pub default : events c (node kind.Default i j ps) ≡ statement_events c.listed i j ++ told_list (list_context c i j) c.followed ps
  pub case : (e : Tree) → is_specification (kind_of e) ≡ false → events c (node kind.Case i j (more e ps)) ≡ statement_events c.listed i j ++ (events (enter (begin c kind.Case) kind.Case i j (more e ps) (ends_named (more e ps)) 0 e (is_more ps)) e ++ told_list (list_context c i j) c.followed ps)
