-- Nodes above a gap: of statements, blocks and clauses in which something else stands the tables read where they stand, what form they have,
-- and that they stand for nothing.
use Rattle.std.specs.Prelude.{◌≡◌, ℕ, Bool, [], ◌∷◌, Option, Some}
use Rattle.go_grammar.specs.declared.kind.Kind.{Kind}
use Rattle.go_grammar.specs.declared.kind.Kind.TheVariants as kind
use Rattle.go_types.specs.Trees.{TypeTree}
use Rattle.go_typed.specs.declared.form.Form.{Form}
use Rattle.go_typed.specs.declared.form.Form.TheVariants as form
use Rattle.go_typed.specs.Trees.{Label, typed, Typeds}
use Rattle.go_typed.specs.Trees as sort
use Rattle.go_exprs_rules.specs.Settling.{Part}
use Rattle.go_exprs_rules.specs.Tables.{Parts}
use Rattle.go_stmts_defs.specs.Frames.{Frame}
use Rattle.go_stmts_defs.specs.Laying.{layout, form_by}
use Rattle.go_stmts_defs.specs.Rules.{own_faults, taking, all_given}

-- what may have a gap in it: a block, a statement with blocks, or a clause
pub data Container : Type 0 where
  a_block : Container
  an_if : Container
  a_switch : Container
  a_for : Container
  a_range : Bool → ℕ → Container
  a_case : ℕ → Container
  a_default : Container

abbrev pub form_in : Container → Form
form_in a_block = form.Block
form_in an_if = form.If
form_in a_switch = form.Switch
form_in a_for = form.For
form_in (a_range b n) = form.Range b n
form_in (a_case n) = form.Case n
form_in a_default = form.Default

-- it stands for nothing, whatever it names and calls
abbrev pub quiet : Bool → Bool → Label TypeTree
quiet b c = record { sort = sort.Nothing; varies = b; calls = c }

-- Two parts are the same; or they are containers of one form at one place, whatever stands in them; or each is an `else` with such a one.
pub data Similar : Option Part → Option Part → Type 0 where
  same : (o : Option Part) → Similar o o
  loose : (c : Container) (i j : ℕ) (a b d e : Bool) (ps qs : Typeds TypeTree) → Similar (Some (typed (form_in c) i j (quiet a b) ps)) (Some (typed (form_in c) i j (quiet d e) qs))
  elsed : (c : Container) (i j m n : ℕ) (a b d e s t u v : Bool) (ps qs : Typeds TypeTree) → Similar
      (Some (typed (form.Held kind.Else) i j (quiet a b) (sort.more (typed (form_in c) m n (quiet d e) ps) sort.none)))
      (Some (typed (form.Held kind.Else) i j (quiet s t) (sort.more (typed (form_in c) m n (quiet u v) qs) sort.none)))

-- parts that are similar one by one
pub data AllSimilar : Parts → Parts → Type 0 where
  no_parts : AllSimilar [] []
  next_parts : (x y : Option Part) (xs ys : Parts) → Similar x y → AllSimilar xs ys → AllSimilar (x ∷ xs) (y ∷ ys)

-- a kind of nodes that may stand above a gap, but for the function itself, whose rule asks whether its block is terminating
abbrev pub IsAbove : Kind → Type 0
IsAbove kind.Block = Unit {0}
IsAbove kind.If = Unit {0}
IsAbove kind.Else = Unit {0}
IsAbove kind.Switch = Unit {0}
IsAbove kind.Case = Unit {0}
IsAbove kind.Default = Unit {0}
IsAbove kind.For = Unit {0}
IsAbove k = ⊥

-- Over parts ys that are similar to the parts xs the node of this kind has the same form, similar parts as they are laid out and once they
-- are given what the node gives them, and the same rules fail.
pub record NodeAbove (s : Frame) (k : Kind) (i j : ℕ) (xs ys : Parts) : Type 0 where
  pub formed : form_by k ys ≡ form_by k xs
  pub laid : AllSimilar (layout s k i xs) (layout s k i ys)
  pub failing : own_faults s k (form_by k xs) i j (layout s k i ys) ≡ own_faults s k (form_by k xs) i j (layout s k i xs)
  pub given : AllSimilar (all_given (taking s k (form_by k xs) (layout s k i xs)) (layout s k i xs)) (all_given (taking s k (form_by k xs) (layout s k i ys)) (layout s k i ys))

abbrev pub NodesAbove : Type 0
NodesAbove = (s : Frame) (k : Kind) → IsAbove k → (i j : ℕ) (xs ys : Parts) → AllSimilar xs ys → NodeAbove s k i j xs ys
