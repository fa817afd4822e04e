-- Trees that moved places leave as they are, and the tree of a file outside of its functions, at the places of the head.
use Rattle.std.proofs.Common.{◌≡◌, ◌∙◌, ℕ, ◌≤◌, ◌<◌, Bool, true, false, refl, ap, arith}
use Rattle.std.specs.Prelude.{if◌then◌else◌}
use Rattle.go_grammar.specs.declared.kind.Kind.{Kind}
use Rattle.go_grammar.specs.declared.kind.Kind.TheVariants as kind
use Rattle.go_grammar.specs.Trees.{Tree, node, Trees, none, more, skip, kind_of, first, last, parts}
use Rattle.go_rewriting.specs.Lists.{InOrder, Ordered}
use Rattle.go_rewriting.specs.Places.{carry, carries}
use Rattle.go_rewriting.proofs.Public.{tree_order, row_order}
use Rattle.go_tree.specs.Lists.{is_function}
use Rattle.go_scopes_events.proofs.Public.{IsInner, AreInner, is_top, true_false}
use Rattle.go_heads.specs.Heads.{in_bodies, place_outside, without_body, without_bodies, outline}
use Rattle.go_heads.proofs.Public.{plain_same}
use Rattle.go_scopes_bodies.specs.Carried.{KeepsName, KeepsNames, AllKeepNames}
use Rattle.go_scopes_bodies.specs.Outside.{no_functions, without_functions}

-- ---- places that stay

module _ (w : ℕ → ℕ) where
  mutual
    pub tree_fixed : (t : Tree) → InOrder t → ((n : ℕ) → first t ≤ n → n ≤ last t → w n ≡ n) → carry w t ≡ t
    tree_fixed (node k i j ps) o h =
        let le : i ≤ j = omega (arith, o.0) in
        ap (λ x. node k x (w j) (carries w ps)) (h i (omega arith) le)
        ∙ ap (λ x. node k i x (carries w ps)) (h j le (omega arith))
        ∙ ap (node k i j) (row_fixed ps i j o.1 h)

    row_fixed : (ps : Trees) (i j : ℕ) → Ordered i ps j → ((n : ℕ) → i ≤ n → n ≤ j → w n ≡ n) → carries w ps ≡ ps
    row_fixed none i j o h = refl
    row_fixed (skip ps) i j o h = ap skip (row_fixed ps i j o h)
    row_fixed (more p ps) i j o h =
        let in_p : first p < last p = tree_order p o.1 in
        let behind : last p ≤ j = row_order ps (last p) j o.2 in
        ap (λ x. more x (carries w ps)) (tree_fixed p o.1 (λ n lo hi. h n (omega (arith, lo, o.0)) (omega (arith, hi, behind))))
        ∙ ap (more p) (row_fixed ps (last p) j o.2 (λ n lo hi. h n (omega (arith, lo, in_p, o.0)) hi))

-- ---- one move behind another

mutual
  pub carried_twice : (v w : ℕ → ℕ) (t : Tree) → carry v (carry w t) ≡ carry (λ n. v (w n)) t
  carried_twice v w (node k i j ps) = ap (node k (v (w i)) (v (w j))) (row_twice v w ps)

  row_twice : (v w : ℕ → ℕ) (ps : Trees) → carries v (carries w ps) ≡ carries (λ n. v (w n)) ps
  row_twice v w none = refl
  row_twice v w (skip ps) = ap skip (row_twice v w ps)
  row_twice v w (more p ps) = ap (λ x. more x (carries v (carries w ps))) (carried_twice v w p) ∙ ap (more (carry (λ n. v (w n)) p)) (row_twice v w ps)

-- ---- outside of functions

kind_or : (c : Bool) (k : Kind) (t u : Tree) → kind_of t ≡ k → kind_of u ≡ k → kind_of (if c then t else u) ≡ k
kind_or true k t u e f = e
kind_or false k t u e f = f

kind_bare : (d : Tree) → kind_of (without_body d) ≡ kind_of d
kind_bare (node k i j none) = refl
kind_bare (node k i j (skip ps)) = refl
kind_bare (node k i j (more s none)) = refl
kind_bare (node k i j (more s (skip ps))) = refl
kind_bare (node k i j (more s (more b ps))) = kind_or (is_function k) k (node k i (first b) (more s (skip ps))) (node k i j (more s (more b ps))) refl refl

kind_carry : (m : ℕ → ℕ) (d : Tree) → kind_of (carry m d) ≡ kind_of d
kind_carry m (node k i j ps) = refl

-- of a part, whose kind passes the test or not
one_outside : (m : ℕ → ℕ) (d : Tree) (ps qs : Trees) (b : Bool) → is_function (kind_of d) ≡ b → qs ≡ carries m ps
    → (if b then skip qs else more (carry m (without_body d)) qs) ≡ carries m (if b then skip ps else more d ps)
one_outside m d ps qs true e h = ap skip h
one_outside m d ps qs false e h = ap (λ x. more (carry m x) qs) (plain_same d e) ∙ ap (more (carry m d)) h

row_outside : (m : ℕ → ℕ) (ps : Trees) → no_functions (carries m (without_bodies ps)) ≡ carries m (no_functions ps)
row_outside m none = refl
row_outside m (skip ps) = ap skip (row_outside m ps)
row_outside m (more d ds) =
    let rest : Trees = no_functions (carries m (without_bodies ds)) in
    ap (λ x. if is_function x then skip rest else more (carry m (without_body d)) rest) (kind_carry m (without_body d) ∙ kind_bare d)
    ∙ one_outside m d (no_functions ds) rest (is_function (kind_of d)) refl (row_outside m ds)

-- the outline outside of functions
pub outline_outside : (t : Tree) → without_functions (outline t) ≡ carry (place_outside (in_bodies (parts t))) (without_functions t)
outline_outside (node k i j ps) = ap (node k (place_outside (in_bodies ps) i) (place_outside (in_bodies ps) j)) (row_outside (place_outside (in_bodies ps)) ps)

-- ---- names of functions

name_kept : (v : ℕ → ℕ) (k : Kind) (i j : ℕ) → is_top k ≡ false → KeepsName v k i j
name_kept v kind.FunctionDeclaration i j e = absurd (true_false true refl e)
name_kept v k i j e = tt

mutual
  pub names_kept : (v : ℕ → ℕ) (t : Tree) → IsInner t → KeepsNames v t
  names_kept v (node k i j ps) x = (name_kept v k i j x.0, row_kept v ps x.1)

  row_kept : (v : ℕ → ℕ) (ps : Trees) → AreInner ps → AllKeepNames v ps
  row_kept v none x = tt
  row_kept v (skip ps) x = row_kept v ps x
  row_kept v (more p ps) x = (names_kept v p x.0, row_kept v ps x.1)
