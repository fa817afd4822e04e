-- Files with equal heads have the same tree without the bodies.
use Rattle.std.proofs.Common.{◌≡◌, List, [], ◌∷◌, map, refl, sym, ap, ◌∙◌, subst}
use Rattle.go_grammar.specs.Grammar.{IsFile}
use Rattle.go_grammar.specs.Trees.{parts}
use Rattle.go_grammar.proofs.Public.{one_file}
use Rattle.go_tokens.specs.Tokens.{kinds}
use Rattle.go_heads.specs.Heads.{File, IsRead, Head, in_bodies, outside, texts, head_of, heads, outline}
use Rattle.go_heads.specs.Functions.{AreRead, outlines}
use Rattle.go_heads.proofs.Counting.{map_outside}
use Rattle.go_heads.proofs.Outlines.{file_outlined}
use Rattle.go_heads.proofs.Spellings.{kind_by, kinds_by_texts}

pub first_same : {A : Type 0} (x y : A) (xs ys : List A) → x ∷ xs ≡ y ∷ ys → x ≡ y
first_same x y xs ys e = cc

pub others_same : {A : Type 0} (x y : A) (xs ys : List A) → x ∷ xs ≡ y ∷ ys → xs ≡ ys
others_same x y xs ys e = cc

pub some_not_none : {A : Type 0} (x : A) (xs : List A) → x ∷ xs ≡ [] → ⊥
some_not_none x xs e = cc

kinds_outside : (f : File) → IsRead f → outside (in_bodies (parts f.tree)) 0 (kinds f.tokens.tokens) ≡ map kind_by (head_of f).texts
kinds_outside f h = ap (outside (in_bodies (parts f.tree)) 0) (kinds_by_texts f.tokens h.lexing) ∙ map_outside kind_by (in_bodies (parts f.tree)) 0 (texts f.tokens)

pub one_outline : (a b : File) → IsRead a → IsRead b → head_of a ≡ head_of b → outline b.tree ≡ outline a.tree
one_outline a b h k e =
    let same : outside (in_bodies (parts b.tree)) 0 (kinds b.tokens.tokens) ≡ outside (in_bodies (parts a.tree)) 0 (kinds a.tokens.tokens) =
    kinds_outside b k ∙ ap (λ (x : Head). map kind_by x.texts) (sym e) ∙ sym (kinds_outside a h) in
    one_file (outside (in_bodies (parts a.tree)) 0 (kinds a.tokens.tokens)) (outline b.tree) (outline a.tree)
    (subst (λ ts. IsFile ts (outline b.tree)) same (file_outlined (kinds b.tokens.tokens) b.tree k.tree)) (file_outlined (kinds a.tokens.tokens) a.tree h.tree)

pub same_outlines : (old new : List File) → AreRead old → AreRead new → heads old ≡ heads new → outlines new ≡ outlines old
same_outlines [] [] h k e = refl
same_outlines [] (b ∷ bs) h k e = absurd (some_not_none (head_of b) (heads bs) (sym e))
same_outlines (a ∷ xs) [] h k e = absurd (some_not_none (head_of a) (heads xs) e)
same_outlines (a ∷ xs) (b ∷ bs) h k e =
    ap (λ t. t ∷ outlines bs) (one_outline a b h.0 k.0 (first_same (head_of a) (head_of b) (heads xs) (heads bs) e))
    ∙ ap (λ ts. outline a.tree ∷ ts) (same_outlines xs bs h.1 k.1 (others_same (head_of a) (head_of b) (heads xs) (heads bs) e))
