-- The texts of the tokens of bodies, as sameness of windows and heads have them.
use Rattle.std.proofs.Common.{◌≡◌, ◌∙◌, ℕ, zero, suc, ◌+◌, ◌-◌, ◌<◌, ◌≤◌, List, [], ◌∷◌, map, length, take, drop, Option, Some, None, refl, sym, ap, length-drop, arith}
use Rattle.std.specs.Prelude.{slice_get}
use Rattle.go_tokens.specs.declared.token.Token.{Token}
use Rattle.go_tokens.specs.Tokens.{TokenList, text_of}
use Rattle.go_grammar.specs.Trees.{Tree, first, last}
use Rattle.go_tree.specs.Units as names
use Rattle.go_heads.specs.Functions.{texts_from, texts_in}
use Rattle.go_heads.proofs.Public.{texts_length}
use Rattle.clone_classes.specs.Heads.{texts_of}

-- tokens that stand one behind the other
from_list : (l : TokenList) (ts : List Token) (n k : ℕ) → ((i : ℕ) → slice_get l.tokens (n + i) ≡ slice_get ts i) → k ≤ length ts → texts_from l n k ≡ map (text_of l) (take k ts)
from_list l [] n zero at le = refl
from_list l (t ∷ ts) n zero at le = refl
from_list l [] n (suc k) at le = absurd (omega (arith, le))
from_list l (t ∷ ts) n (suc k) at le =
    ap (λ o. names.text_in l o ∷ texts_from l (suc n) k) (let z : n ≡ n + 0 = omega arith in ap (slice_get l.tokens) z ∙ at 0)
    ∙ ap (λ ws. text_of l t ∷ ws) (from_list l ts (suc n) k (λ i. let z : suc n + i ≡ n + suc i = omega arith in ap (slice_get l.tokens) z ∙ at (suc i)) (omega (arith, le)))

dropped : {A : Type 0} (xs : List A) (n i : ℕ) → slice_get xs (n + i) ≡ slice_get (drop n xs) i
dropped xs zero i = ap (slice_get xs) (let z : 0 + i ≡ i = omega arith in z)
dropped [] (suc n) i = refl
dropped (x ∷ xs) (suc n) i = ap (slice_get (x ∷ xs)) (let z : suc n + i ≡ suc (n + i) = omega arith in z) ∙ dropped xs n i

-- A body that lies within the tokens, which are so many, has tokens.
abbrev pub LiesIn : ℕ → Option Tree → Type 0
LiesIn n o = (b : Tree) → o ≡ Some b → (first b < last b) × (last b ≤ n)

texts_there : (l : TokenList) (b : Tree) → last b ≤ length l.tokens → first b ≤ last b → texts_of l (Some b) ≡ texts_from l (first b) (last b - first b)
texts_there l b le lt =
    sym (from_list l (drop (first b) l.tokens) (first b) (last b - first b) (dropped l.tokens (first b)) (omega (arith, length-drop (first b) l.tokens, le, lt)))

some_texts : (l : TokenList) (b : Tree) → (first b < last b) × (last b ≤ length l.tokens) → texts_of l (Some b) ≡ [] → ⊥
some_texts l b h e =
    let long : 0 ≡ last b - first b = ap length (sym e ∙ texts_there l b h.1 (omega (arith, h.0))) ∙ texts_length l (first b) (last b - first b) in
    omega (arith, long, h.0)

pub same_bodies : (l m : TokenList) (o q : Option Tree) → LiesIn (length l.tokens) o → LiesIn (length m.tokens) q → texts_of l o ≡ texts_of m q → texts_in m q ≡ texts_in l o
same_bodies l m None None h k e = refl
same_bodies l m None (Some c) h k e = absurd (some_texts m c (k c refl) (sym e))
same_bodies l m (Some b) None h k e = absurd (some_texts l b (h b refl) e)
same_bodies l m (Some b) (Some c) h k e =
    let x = h b refl in
    let y = k c refl in
    ap (λ ws. Some ws) (sym (texts_there m c y.1 (omega (arith, y.0))) ∙ sym e ∙ texts_there l b x.1 (omega (arith, x.0)))
