-- A window whose copy is kin to it, and a block with a gap, worked out by hand.
use Rattle.std.specs.Prelude.{◌≡◌, ℕ, suc, ◌+◌, Bool, false, nat_eq, [], ◌∷◌, None}
use Rattle.go_types.specs.Trees.{TypeTree}
use Rattle.go_typed.specs.declared.form.Form.TheVariants as form
use Rattle.go_typed.specs.Trees.{Nothing, Typed, typed, Typeds, none, more}
use Rattle.extract_trees.specs.Numberings.{Numbering}
use Rattle.extract_trees.specs.Filled.{Gap, filled}
use Rattle.extract_trees.specs.Examples.{statements, local_behind, referent_behind, hole_at, copies}
use Rattle.go_meaning_simulation.specs.Locals.{Inside}
use Rattle.extract_runs.specs.Laws.{IsWindowSound}
use Rattle.extract_runs.specs.Gaps.{Gapped}
use Rattle.extract_runs.specs.Holes.{no_hole}

-- `b := a + 1`, `b = b * 2` become `b := a + p0`, `b = b * 2`; types stay, and functions behind the first one move up
abbrev pub into_function : Numbering
into_function = record { token = λ i. i + 3; local = local_behind; referent = referent_behind; type = λ n. n; parameter = hole_at }

abbrev pub a_statement : ℕ → Typed TypeTree
a_statement i = typed form.Break i (suc i) (record { sort = Nothing; varies = false; calls = false }) none

abbrev pub block : Typeds TypeTree → Typed TypeTree
block ps = typed form.Block 0 6 (record { sort = Nothing; varies = false; calls = false }) ps

abbrev pub three : Typed TypeTree
three = block (more (a_statement 1) (more (a_statement 3) (more (a_statement 5) none)))

-- in place of the second statement stands another one
abbrev pub gap : Gap
gap = record { from = 3; upto = 5; statements = more (a_statement 0) none }

abbrev pub is_out : ℕ → Bool
is_out t = nat_eq t 3

abbrev pub in_place : Numbering
in_place = record { token = λ i. i; local = λ n. n; referent = λ r. r; type = λ n. n; parameter = λ t. None }

-- that statement, and what stands in its place
abbrev pub IsSecond : Typeds TypeTree → Typeds TypeTree → Type 0
IsSecond ws ws' = (ws ≡ more (a_statement 3) none) × (ws' ≡ gap.statements)

pub record Examples : Type 0 where
  -- a is free, b is declared in the window
  pub window : (I : Inside) × IsWindowSound suc [] [] I into_function (0 ∷ []) (1 ∷ 0 ∷ []) statements copies
  pub gapped : Gapped in_place (gap ∷ []) no_hole IsSecond is_out 1 three
  pub filled_block : filled in_place (gap ∷ []) three ≡ block (more (a_statement 1) (more (a_statement 0) (more (a_statement 5) none)))
