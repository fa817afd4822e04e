-- Walks along the parts of a node, and along tokens.
use Rattle.std.proofs.Common.{◌≡◌, ◌∙◌, ℕ, zero, suc, ◌+◌, ◌-◌, ◌<◌, true, false, List, [], ◌∷◌, ◌++◌, drop, Option, Some, None, slice_get, if◌then◌else◌, refl, sym, ap, arith}
use Rattle.go_typed.specs.declared.node.TypedNode.{TypedNode}
use Rattle.go_typed.specs.declared.node.TypedNode.TheViews.{out-TypedNode}
use Rattle.go_typed.specs.Funcs.{named_at, size, sizes}
use Rattle.go_typed.specs.Lists.{present, statements_of}
use Rattle.go_typed.specs.Forms.{values_count}
use Rattle.go_typed.specs.Places.{covers, innermost, innermost_among}
use Rattle.go_typed.specs.Trees.{Typed, Typeds, more, skip}
use Rattle.go_typed.specs.Views.{view, views}
use Rattle.go_typed.specs.Windows.{use_at, uses_from}
use Rattle.go_typed.proofs.Nodes.{size_opened, statements_opened}

-- the parts that are left begin with the part of this number
pub rest : (ps : List (Option TypedNode)) (i : ℕ) (p : TypedNode) → slice_get ps i ≡ Some (Some p) → views (drop i ps) ≡ more (view p) (views (drop (i + 1) ps))
rest [] i p h = cc
rest (None ∷ ps) zero p h = cc
rest (Some q ∷ ps) zero p h = let same : q ≡ p = cc in ap (λ n. more (view n) (views ps)) same
rest (None ∷ ps) (suc i) p h = let e : suc (i + 1) ≡ suc i + 1 = omega arith in rest ps i p h ∙ ap (λ j. more (view p) (views (drop j (None ∷ ps)))) e
rest (Some q ∷ ps) (suc i) p h = let e : suc (i + 1) ≡ suc i + 1 = omega arith in rest ps i p h ∙ ap (λ j. more (view p) (views (drop j (Some q ∷ ps)))) e

pub rest_without : (ps : List (Option TypedNode)) (i : ℕ) → slice_get ps i ≡ Some None → views (drop i ps) ≡ skip (views (drop (i + 1) ps))
rest_without [] i h = cc
rest_without (None ∷ ps) zero h = refl
rest_without (Some q ∷ ps) zero h = cc
rest_without (None ∷ ps) (suc i) h = let e : suc (i + 1) ≡ suc i + 1 = omega arith in rest_without ps i h ∙ ap (λ j. skip (views (drop j (None ∷ ps)))) e
rest_without (Some q ∷ ps) (suc i) h = let e : suc (i + 1) ≡ suc i + 1 = omega arith in rest_without ps i h ∙ ap (λ j. skip (views (drop j (Some q ∷ ps)))) e

-- the numbers of a part and of those behind it are numbers of the node
pub room : (n : TypedNode) (ps : List (Option TypedNode)) (i number : ℕ) (p : TypedNode) → ps ≡ (out-TypedNode n).parts.items → slice_get ps i ≡ Some (Some p) → number + sizes (views (drop i ps)) ≡ 1 + sizes (views ps) → number + (size (view p) + sizes (views (drop (i + 1) ps))) ≡ size (view n)
room n ps i number p is h e =
    let here : sizes (views (drop i ps)) ≡ size (view p) + sizes (views (drop (i + 1) ps)) = ap sizes (rest ps i p h) in
    let whole : size (view n) ≡ suc (sizes (views ps)) = size_opened n ∙ ap (λ qs. suc (sizes (views qs))) (sym is) in
    omega (arith, here, whole, e)

pub found : {T : Type 0} (t n : ℕ) (x : Typed T) (ps : Typeds T) → covers x t ≡ true → innermost_among t n (more x ps) ≡ n + innermost t x
found t n x ps h = ap (λ b. if b then n + innermost t x else innermost_among t (n + size x) ps) h

pub passed : {T : Type 0} (t n : ℕ) (x : Typed T) (ps : Typeds T) → covers x t ≡ false → innermost_among t n (more x ps) ≡ innermost_among t (n + size x) ps
passed t n x ps h = ap (λ b. if b then n + innermost t x else innermost_among t (n + size x) ps) h

-- the locals from a token on
pub next_use : (tokens : List (Option ℕ)) (t to : ℕ) → t < to → uses_from tokens t (to - t) ≡ use_at t (named_at tokens t) ++ uses_from tokens (t + 1) (to - (t + 1))
next_use tokens t to h =
    let e : to - t ≡ suc (to - (t + 1)) = omega arith in
    let s : suc t ≡ t + 1 = omega arith in
    ap (uses_from tokens t) e ∙ ap (λ u. use_at t (named_at tokens t) ++ uses_from tokens u (to - (t + 1))) s

pub get_behind : {X : Type 0} (v : ℕ) (xs : List X) (n : ℕ) → slice_get (drop v xs) n ≡ slice_get xs (n + v)
get_behind zero xs n = let e : n ≡ n + 0 = omega arith in ap (slice_get xs) e
get_behind (suc v) [] n = refl
get_behind (suc v) (x ∷ xs) n = let e : suc (n + v) ≡ n + suc v = omega arith in get_behind v xs n ∙ ap (slice_get (x ∷ xs)) e

-- what is the statement of a number, when the parts in front of a number were passed
pub statement_is : (n : TypedNode) (ps : List (Option TypedNode)) (number v left i : ℕ) → ps ≡ (out-TypedNode n).parts.items → v ≡ values_count (out-TypedNode n).form → slice_get (present (views (drop i ps))) left ≡ slice_get (present (views ps)) (number + v) → slice_get (statements_of (view n)) number ≡ slice_get (present (views (drop i ps))) left
statement_is n ps number v left i is count e =
    ap (λ ss. slice_get ss number) (statements_opened n)
    ∙ get_behind (values_count (out-TypedNode n).form) (present (views (out-TypedNode n).parts.items)) number
    ∙ ap (λ k. slice_get (present (views (out-TypedNode n).parts.items)) (number + k)) (sym count)
    ∙ ap (λ qs. slice_get (present (views qs)) (number + v)) (sym is)
    ∙ sym e
