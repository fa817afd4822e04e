-- Where tokens stand in order, a node begins before it ends.
use Rattle.std.proofs.Common.{◌≡◌, ℕ, zero, suc, ◌-◌, ◌<◌, ◌≤◌, List, [], ◌∷◌, Option, Some, None, map, slice_get, refl, ap, arith}
use Rattle.std.specs.Option.{option_map}
use Rattle.go_tokens.specs.declared.token.Token.{Token}
use Rattle.go_tokens.specs.Tokens.{AreOrdered, span_of}
use Rattle.go_grammar.specs.Trees.{Tree, first, last}
use Rattle.go_tree.specs.Spans.{start_of, end_of}

some_is : (x y : Token) → Some x ≡ Some y → x ≡ y
some_is x y e = cc

ends_behind : (ts : List Token) (s e j : ℕ) (y : Token) → AreOrdered s (map span_of ts) e → slice_get ts j ≡ Some y → s ≤ y.span.end
ends_behind [] s e j y o h = cc
ends_behind (w ∷ ts) s e zero y o h = let same : w.span.end ≡ y.span.end = ap (λ x. x.span.end) (some_is w y h) in omega (arith, o.0, o.1, same)
ends_behind (w ∷ ts) s e (suc j) y o h = omega (arith, o.0, o.1, ends_behind ts w.span.end e j y o.2 h)

in_order : (ts : List Token) (s e i j : ℕ) (x y : Token) → AreOrdered s (map span_of ts) e → i ≤ j → slice_get ts i ≡ Some x → slice_get ts j ≡ Some y → x.span.start ≤ y.span.end
in_order [] s e i j x y o le h k = cc
in_order (w ∷ ts) s e zero zero x y o le h k =
    let a : w.span.start ≡ x.span.start = ap (λ x. x.span.start) (some_is w x h) in
    let b : w.span.end ≡ y.span.end = ap (λ x. x.span.end) (some_is w y k) in
    omega (arith, o.1, a, b)
in_order (w ∷ ts) s e zero (suc j) x y o le h k =
    let a : w.span.start ≡ x.span.start = ap (λ x. x.span.start) (some_is w x h) in
    omega (arith, o.1, a, ends_behind ts w.span.end e j y o.2 k)
in_order (w ∷ ts) s e (suc i) zero x y o le h k = absurd (omega arith)
in_order (w ∷ ts) s e (suc i) (suc j) x y o le h k = in_order ts w.span.end e i j x y o.2 (omega arith) h k

-- what a number was read from
read_from : (f : Token → ℕ) (o : Option Token) (a : ℕ) → option_map f o ≡ Some a → (x : Token) × (o ≡ Some x) × (f x ≡ a)
read_from f None a h = cc
read_from f (Some x) a h = (x, refl, cc)

pub node_in_order : (ts : List Token) (s e : ℕ) (t : Tree) (a b : ℕ) → AreOrdered s (map span_of ts) e → first t < last t → start_of ts t ≡ Some a → end_of ts t ≡ Some b → a ≤ b
node_in_order ts s e t a b o lt h k =
    let p = read_from (λ w. w.span.start) (slice_get ts (first t)) a h in
    let q = read_from (λ w. w.span.end) (slice_get ts (last t - 1)) b k in
    omega (arith, p.2, q.2, in_order ts s e (first t) (last t - 1) p.0 q.0 o (omega arith) p.1 q.1)
