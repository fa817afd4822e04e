-- A range of tokens has at most one tree of a category.
use Rattle.std.proofs.Common.{◌≡◌, ℕ, zero, suc, ◌<◌, ◌≤◌, max, Bool, true, false, List, [], ◌∷◌, take, Option, Some, None, refl, sym, ap, ◌∙◌, subst, arith}
use Rattle.std.specs.Prelude.{slice_get}
use Rattle.std.proofs.lemmas.Option.{slice_get_past}
use Rattle.go_tokens.specs.declared.token.TokenKind.{TokenKind}
use Rattle.go_tokens.specs.declared.token.TokenKind.TheVariants as token
use Rattle.go_grammar.specs.declared.kind.Category.{Category}
use Rattle.go_grammar.specs.declared.kind.Category.TheVariants as category
use Rattle.go_grammar.specs.Trees.{Tree, first, last, depth}
use Rattle.go_grammar.specs.Grammar.{IsAt, Derives, IsFile}
use Rattle.go_grammar.specs.Reader.{read, Tends}
use Rattle.go_grammar.specs.Words.{is_word}
use Rattle.go_grammar.proofs.Check.{follows}
use Rattle.go_grammar.proofs.Complete.{complete}
use Rattle.go_grammar.proofs.Cut.{derives_cut}
use Rattle.go_grammar.proofs.Facts.{follows_none, follows_brace}
use Rattle.go_grammar.proofs.Steps.{tends_one}
use Rattle.go_grammar.proofs.Words.{is_word-at, at-is_word}

slice_get-take : {A : Type 0} (m : ℕ) (xs : List A) (k : ℕ) → k < m → slice_get (take m xs) k ≡ slice_get xs k
slice_get-take zero xs k h = absurd (omega arith)
slice_get-take (suc m) [] k h = refl
slice_get-take (suc m) (x ∷ xs) zero h = refl
slice_get-take (suc m) (x ∷ xs) (suc k) h = slice_get-take m xs k (omega arith)

slice_get-take_end : {A : Type 0} (m : ℕ) (xs : List A) → slice_get (take m xs) m ≡ None
slice_get-take_end zero [] = refl
slice_get-take_end zero (x ∷ xs) = refl
slice_get-take_end (suc m) [] = refl
slice_get-take_end (suc m) (x ∷ xs) = slice_get-take_end m xs

-- the reader finds a tree on the tokens up to its end, where it has room and no brace stands behind it
cut : (ts : List TokenKind) (c : Category) (t : Tree) (m n : ℕ) → (IsAt ts m token.RightBrace → ⊥) → Derives ts c t → last t ≡ m → depth t ≤ n → Tends (λ f. read f (take m ts) n c (first t)) (Some t)
cut ts c t m n b d e le =
    let stop : slice_get (take m ts) m ≡ None = slice_get-take_end m ts in
    let d' : Derives (take m ts) c t = derives_cut ts (take m ts) m (λ k below. slice_get-take m ts k below) stop b t c d (omega (arith, e)) in
    let end : slice_get (take m ts) (last t) ≡ None = ap (slice_get (take m ts)) e ∙ stop in
    complete (take m ts) c t d' (subst (λ w. follows c w ≡ true) (sym end) (follows_none c)) n le

some_one : {A : Type 0} (x y : A) → Some x ≡ Some y → x ≡ y
some_one x y e = cc

pub unique : (ts : List TokenKind) (c : Category) (t u : Tree) → Derives ts c t → Derives ts c u → first t ≡ first u → last t ≡ last u → t ≡ u
unique ts c t u d e begin end = go (is_word (slice_get ts (last t)) token.RightBrace) refl
  where
    n : ℕ
    n = max (depth t) (depth u)

    go : (b : Bool) → is_word (slice_get ts (last t)) token.RightBrace ≡ b → t ≡ u
    go true h =
        let at : slice_get ts (last t) ≡ Some token.RightBrace = at-is_word (slice_get ts (last t)) token.RightBrace h in
        let a = complete ts c t d (subst (λ w. follows c w ≡ true) (sym at) (follows_brace c)) n (omega arith) in
        let at' : slice_get ts (last u) ≡ Some token.RightBrace = ap (slice_get ts) (sym end) ∙ at in
        let b = complete ts c u e (subst (λ w. follows c w ≡ true) (sym at') (follows_brace c)) n (omega arith) in
        some_one t u (tends_one (λ f. read f ts n c (first t)) (Some t) (Some u) a (subst (λ i. Tends (λ f. read f ts n c i) (Some u)) (sym begin) b))
    go false h =
        let no : IsAt ts (last t) token.RightBrace → ⊥ = λ at. let y : is_word (slice_get ts (last t)) token.RightBrace ≡ true = is_word-at (slice_get ts (last t)) token.RightBrace at in cc in
        let a = cut ts c t (last t) n no d refl (omega arith) in
        let b = cut ts c u (last t) n no e (sym end) (omega arith) in
        some_one t u (tends_one (λ f. read f (take (last t) ts) n c (first t)) (Some t) (Some u) a (subst (λ i. Tends (λ f. read f (take (last t) ts) n c i) (Some u)) (sym begin) b))

-- the reader finds the tree of a file
pub file_found : (ts : List TokenKind) (t : Tree) → IsFile ts t → Tends (λ n. read n ts 101 category.File 0) (Some t)
file_found ts t h =
    let end : slice_get ts (last t) ≡ None = slice_get_past ts (last t) (omega (arith, h.ends)) in
    let a : Tends (λ n. read n ts 101 category.File (first t)) (Some t) = complete ts category.File t h.derives (subst (λ w. follows category.File w ≡ true) (sym end) (follows_none category.File)) 101 h.shallow in
    subst (λ i. Tends (λ n. read n ts 101 category.File i) (Some t)) h.begins a

pub one_file : (ts : List TokenKind) (t u : Tree) → IsFile ts t → IsFile ts u → t ≡ u
one_file ts t u a b = unique ts category.File t u a.derives b.derives (a.begins ∙ sym b.begins) (a.ends ∙ sym b.ends)
