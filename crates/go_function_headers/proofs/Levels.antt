-- The levels of a function.
use Rattle.std.proofs.Common.{◌≡◌, ℕ, suc, ◌+◌, ◌≤◌, List, [], ◌∷◌, refl, ap, arith}
use Rattle.std.specs.Prelude.{max}
use Rattle.go_grammar.specs.Trees.{Tree, node, Trees, none, more, skip, depth, depths, last, onto, weight}
use Rattle.go_rewriting.specs.Places.{carry, carries}
use Rattle.go_rewriting.specs.Replacing.{moved}
use Rattle.go_print_laws.specs.Calls.{names_behind}
use Rattle.go_print_laws.specs.Functions.{Function, function_tree, returning_trees}
use Rattle.go_print_laws.specs.Headers.{header_tree, signature_tree}

mutual
  pub carry_depth : (m : ℕ → ℕ) (t : Tree) → depth (carry m t) ≡ depth t
  carry_depth m (node k a b ps) = ap (λ n. weight k + n) (carries_depth m ps)

  pub carries_depth : (m : ℕ → ℕ) (ps : Trees) → depths (carries m ps) ≡ depths ps
  carries_depth m none = refl
  carries_depth m (more p ps) = λ j. max (carry_depth m p j) (carries_depth m ps j)
  carries_depth m (skip ps) = carries_depth m ps

onto_depth : (ps qs : Trees) (d : ℕ) → depths ps ≤ d → depths qs ≤ d → depths (onto ps qs) ≤ d
onto_depth none qs d a b = b
onto_depth (more p ps) qs d a b = let r = onto_depth ps qs d (omega (arith, a)) b in omega (arith, r, a)
onto_depth (skip ps) qs d a b = onto_depth ps qs d a b

names_low : (i : ℕ) (xs : List (List ℕ)) → depths (names_behind i xs) ≤ 1
names_low i [] = omega arith
names_low i (x ∷ xs) = let r = names_low (suc (suc i)) xs in omega (arith, r)

returning_low : (i : ℕ) (xs : List (List ℕ)) → depths (returning_trees i xs) ≤ 2
returning_low i [] = omega arith
returning_low i (x ∷ xs) = let r = names_low (suc (suc i)) xs in omega (arith, r)

-- A function has at most 100 levels where its signature has at most 99 and its statements have at most 98.
pub function_low : (f : Function) (n : ℕ) (new : Trees) → depth (signature_tree 2 f.header) ≤ 99 → depths new ≤ 98 → depth (function_tree f n new) ≤ 100
function_low f n new a b =
    let k = last (header_tree 0 f.header) in
    let i = suc (moved 0 (suc k) n) in
    let moved_new = carries_depth (moved 0 (suc k)) new in
    let body = onto_depth (carries (moved 0 (suc k)) new) (returning_trees i f.returned) 98 (omega (arith, moved_new, b)) (let r = returning_low i f.returned in omega (arith, r)) in
    omega (arith, a, body)
