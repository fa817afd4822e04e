-- Rows of parts whose places are moved.
use Rattle.std.proofs.Common.{◌≡◌, ℕ, zero, suc, Bool, false, refl, ap}
use Rattle.go_grammar.specs.Trees.{Tree, node, Trees, none, more, skip, kind_of}
use Rattle.go_grammar.specs.Grammar.{is_parameter, ends_from, count}
use Rattle.go_rewriting.specs.Places.{carry, carries}
use Rattle.go_tree.specs.Contexts.{is_there}
use Rattle.go_tree.specs.Events.{is_more}
use Rattle.go_tree.specs.Views.{part_at}

module _ (m : ℕ → ℕ) where
  pub kind_carried : (p : Tree) → kind_of (carry m p) ≡ kind_of p
  kind_carried (node k i j ps) = refl

  pub count_carried : (ps : Trees) → count (carries m ps) ≡ count ps
  count_carried none = refl
  count_carried (more p ps) = ap suc (count_carried ps)
  count_carried (skip ps) = ap suc (count_carried ps)

  pub there_carried : (ps : Trees) (n : ℕ) → is_there (part_at (carries m ps) n) ≡ is_there (part_at ps n)
  there_carried none n = refl
  there_carried (more p ps) zero = refl
  there_carried (more p ps) (suc n) = there_carried ps n
  there_carried (skip ps) zero = refl
  there_carried (skip ps) (suc n) = there_carried ps n

  pub ends_carried : (b : Bool) (ps : Trees) → ends_from b (carries m ps) ≡ ends_from b ps
  ends_carried b none = refl
  ends_carried b (more (node k i j qs) ps) = ends_carried (is_parameter k) ps
  ends_carried b (skip ps) = ends_carried false ps

  pub more_carried : (ps : Trees) → is_more (carries m ps) ≡ is_more ps
  more_carried none = refl
  more_carried (more p ps) = refl
  more_carried (skip ps) = more_carried ps
