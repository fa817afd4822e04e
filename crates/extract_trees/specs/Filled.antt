-- A function in which other statements take the place of some.
use Rattle.std.specs.Prelude.{ℕ, Bool, true, false, ◌&&◌, nat_lt, nat_eq, if◌then◌else◌, List, [], ◌∷◌, Option, Some, None}
use Rattle.go_types.specs.Trees.{TypeTree}
use Rattle.go_typed.specs.Forms.{is_statement_list}
use Rattle.go_typed.specs.Trees.{Typed, typed, Typeds, none, more, skip, first_of}
use Rattle.extract_trees.specs.Numberings.{Numbering, node_numbered}

-- Of a statement list the statements from one token up to another, and those that take their place.
pub record Gap : Type 0 where
  pub from : ℕ
  pub upto : ℕ
  pub statements : Typeds TypeTree

-- the gap that begins at a token
abbrev pub gap_at : List Gap → ℕ → Option Gap
gap_at [] t = None
gap_at (g ∷ gs) t = if nat_eq g.from t then Some g else gap_at gs t

-- the same in the parts of a node, of which it is told whether it is a statement list
abbrev pub gap_in : List Gap → Bool → ℕ → Option Gap
gap_in gs true t = gap_at gs t
gap_in gs false t = None

abbrev pub onto : Typeds TypeTree → Typeds TypeTree → Typeds TypeTree
onto none qs = qs
onto (more p ps) qs = more p (onto ps qs)
onto (skip ps) qs = skip (onto ps qs)

-- the statement, or those of the gap, in front of what is left; `left u` are the parts from the token u on
abbrev pub row_with : Option Gap → Typed TypeTree → ℕ → (ℕ → Typeds TypeTree) → Typeds TypeTree
row_with None x u left = more x (left u)
row_with (Some g) x u left = onto g.statements (left g.upto)

abbrev mutual
  -- the tree with new numbers and with what takes the place of statements in its lists
  pub filled : Numbering → List Gap → Typed TypeTree → Typed TypeTree
  filled c gs (typed f i j l ps) = node_numbered c f i j l (all_filled c gs (is_statement_list f) 0 ps)

  -- the parts of a node that begin at the token u or behind it; the argument b says whether the node is a statement list
  pub all_filled : Numbering → List Gap → Bool → ℕ → Typeds TypeTree → Typeds TypeTree
  all_filled c gs b u none = none
  all_filled c gs b u (skip ps) = skip (all_filled c gs b u ps)
  all_filled c gs b u (more p ps) = if b && nat_lt (first_of p) u then all_filled c gs b u ps else row_with (gap_in gs b (first_of p)) (filled c gs p) u (λ w. all_filled c gs b w ps)
