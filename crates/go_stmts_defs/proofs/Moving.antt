-- A tree that is moved back to its function's first token.
use Rattle.std.proofs.Common.{refl, ap, ◌∙◌}
use Rattle.std.proofs.Math.Nat.{sub-add-eq, add-sub_cancel_left}
use Rattle.std.specs.Prelude.{◌≡◌, ℕ, ◌+◌, ◌-◌}
use Rattle.go_grammar.specs.Trees.{Tree, node, Trees, none, more, skip}
use Rattle.go_scopes_events.specs.Moved.{moved, all_moved}
use Rattle.go_stmts_defs.specs.Bodies.{based, all_based, body_answer}
use Rattle.go_stmts_defs.specs.Moving.{PlaceSaysNothing}

same_distance : (n i b : ℕ) → (n + i) - (n + b) ≡ i - b
same_distance n i b = sub-add-eq (n + i) n b ∙ ap (λ x. x - b) (add-sub_cancel_left n i)

mutual
  based_moved : (n b : ℕ) (t : Tree) → based (n + b) (moved n t) ≡ based b t
  based_moved n b (node k i j ps) =
      ap (λ x. node k x ((n + j) - (n + b)) (all_based (n + b) (all_moved n ps))) (same_distance n i b)
      ∙ (ap (λ x. node k (i - b) x (all_based (n + b) (all_moved n ps))) (same_distance n j b) ∙ ap (node k (i - b) (j - b)) (all_based_moved n b ps))

  all_based_moved : (n b : ℕ) (ps : Trees) → all_based (n + b) (all_moved n ps) ≡ all_based b ps
  all_based_moved n b none = refl
  all_based_moved n b (more p ps) = ap (λ x. more x (all_based (n + b) (all_moved n ps))) (based_moved n b p) ∙ ap (more (based b p)) (all_based_moved n b ps)
  all_based_moved n b (skip ps) = ap skip (all_based_moved n b ps)

pub place_says_nothing : PlaceSaysNothing
place_says_nothing = record {
  tree = based_moved;
  function = λ n b s number locals types t. ap (body_answer s number locals types) (based_moved n b t);
}
