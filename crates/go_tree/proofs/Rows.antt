-- Rows of parts.
use Rattle.std.proofs.Common.{◌≡◌, ℕ, zero, suc, ◌<◌, ◌≤◌, List, [], ◌∷◌, Option, Some, None, length, refl, sym, ap, ◌∙◌, arith}
use Rattle.std.specs.Option.{option_map}
use Rattle.std.specs.Prelude.{MatchOption, IfSome}
use Rattle.std.proofs.Math.ListN.{get_or}
use Rattle.go_grammar.specs.Grammar.{count}
use Rattle.go_tree.specs.declared.node.Node.{Node}
use Rattle.go_tree.specs.Views.{view, views, part_at, flat}

pub count-views : (ps : List (Option Node)) → count (views ps) ≡ length ps
count-views [] = refl
count-views (None ∷ ps) = ap suc (count-views ps)
count-views (Some p ∷ ps) = ap suc (count-views ps)

part_none : (xs : List (Option Node)) (i : ℕ) → length xs ≤ i → part_at (views xs) i ≡ None
part_none [] i le = refl
part_none (x ∷ xs) zero le = absurd (omega arith)
part_none (None ∷ xs) (suc i) le = part_none xs i (omega arith)
part_none (Some x ∷ xs) (suc i) le = part_none xs i (omega arith)

part_some : (xs : List (Option Node)) (i : ℕ) (d : Option Node) → i < length xs → part_at (views xs) i ≡ option_map view (get_or xs i d)
part_some [] i d lt = absurd (omega arith)
part_some (None ∷ xs) zero d lt = refl
part_some (Some x ∷ xs) zero d lt = refl
part_some (None ∷ xs) (suc i) d lt = part_some xs i d (omega arith)
part_some (Some x ∷ xs) (suc i) d lt = part_some xs i d (omega arith)

-- what a look-up by a number answers
pub part_get : {B : Type 0} (now : B → Option Node) (xs : List (Option Node)) (i : ℕ) (Q : B → Type 0) (o : Option B) → MatchOption o (length xs ≤ i) (λ x. (i < length xs) × Q x) → IfSome o (λ x. now x ≡ get_or xs i (now x)) → part_at (views xs) i ≡ flat (option_map (λ x. option_map view (now x)) o)
part_get now xs i Q None h e = part_none xs i h
part_get now xs i Q (Some x) h e = part_some xs i (now x) h.0 ∙ ap (option_map view) (sym e)
