-- A package that is within the limits passes none of them, since its files are read in one way.
use Rattle.std.proofs.Common.{◌≡◌, ◌∙◌, refl, sym, ap, subst, ℕ, zero, suc, List, [], ◌∷◌, length, map, Some, arith}
use Rattle.std.specs.Prelude.{◌+◌, slice_get}
use Rattle.go_base.specs.declared.Span.{Span}
use Rattle.go_base.specs.declared.bytes.FileText.{FileText}
use Rattle.go_grammar.specs.Grammar.{IsFile}
use Rattle.go_grammar.specs.Trees.{Tree}
use Rattle.go_tokens.specs.declared.token.Token.{Token}
use Rattle.go_tokens.specs.declared.token.TokenKind.{TokenKind}
use Rattle.go_tokens.specs.Files.{IsLexing}
use Rattle.go_tokens.specs.Tokens.{TokenList, kinds}
use Rattle.go_tree.specs.Branches.{statements}
use Rattle.go_tree.specs.Failures.{of_files}
use Rattle.go_tree.specs.File.{FileTree}
use Rattle.go_tree.specs.Views.{view}
use Rattle.go_package_defs.specs.Checked.{IsRead, AreRead}
use Rattle.go_package_defs.specs.Sources.{Source, source_of, unit_of}
use Rattle.extract_rewrite.specs.Limits.{IsWithinLimits, PassesLimits, past_bytes, past_levels, past_statements, statements_in, AreApartFromOthers}

-- what is known of single files
pub record OfFiles : Type 0 where
  pub lexing : (file : ℕ) (bytes : List ℕ) (ts us : List Token) (cs ds : List Span) → IsLexing file bytes ts cs → IsLexing file bytes us ds → (ts ≡ us) × (cs ≡ ds)
  pub tree : (ts : List TokenKind) (t u : Tree) → IsFile ts t → IsFile ts u → t ≡ u

-- ---- files that are read

read_at : (n k : ℕ) (xs : List FileText) (fs : List FileTree) (x : FileText) → AreRead n xs fs → slice_get xs k ≡ Some x → (f : FileTree) × IsRead (k + n) x f
read_at n k [] [] x h e = absurd cc
read_at n k [] (f ∷ fs) x h e = absurd h
read_at n k (y ∷ xs) [] x h e = absurd h
read_at n zero (y ∷ xs) (f ∷ fs) x h e =
    let at : n ≡ 0 + n = omega arith in
    let same : y ≡ x = cc in
    (f, subst (λ m. IsRead m x f) at (subst (λ z. IsRead n z f) same h.0))
read_at n (suc k) (y ∷ xs) (f ∷ fs) x h e =
    let r = read_at (suc n) k xs fs x h.1 e in
    let at : k + suc n ≡ suc k + n = omega arith in
    (r.0, subst (λ m. IsRead m x r.0) at r.1)

read_first : (k : ℕ) (xs : List FileText) (fs : List FileTree) (x : FileText) → AreRead 0 xs fs → slice_get xs k ≡ Some x → (f : FileTree) × IsRead k x f
read_first k xs fs x h e =
    let r = read_at 0 k xs fs x h e in
    let at : k + 0 ≡ k = omega arith in
    (r.0, subst (λ m. IsRead m x r.0) at r.1)

-- ---- one reading

same_tokens : (s t : TokenList) → s.file ≡ t.file → s.text ≡ t.text → s.tokens ≡ t.tokens → s.comments ≡ t.comments → s ≡ t
same_tokens s t a b c d =
    ap (λ x. record { file = x; text = s.text; tokens = s.tokens; comments = s.comments }) a
    ∙ ap (λ x. record { file = t.file; text = x; tokens = s.tokens; comments = s.comments }) b
    ∙ ap (λ x. record { file = t.file; text = t.text; tokens = x; comments = s.comments }) c
    ∙ ap (λ x. record { file = t.file; text = t.text; tokens = t.tokens; comments = x }) d

source_by : TokenList → Tree → Source
source_by ts t = record { tokens = ts; tree = t }

one_source : OfFiles → (n : ℕ) (x : FileText) (f g : FileTree) → IsRead n x f → IsRead n x g → source_of f ≡ source_of g
unfolding source_by
one_source law n x f g h k =
    let same = law.lexing n x.bytes f.tokens.tokens g.tokens.tokens f.tokens.comments g.tokens.comments h.lexing k.lexing in
    let one : f.tokens ≡ g.tokens = same_tokens f.tokens g.tokens (h.number ∙ sym k.number) (h.bytes ∙ sym k.bytes) same.0 same.1 in
    let tree : view f.root ≡ view g.root = law.tree (kinds g.tokens.tokens) (view f.root) (view g.root) (subst (λ ts. IsFile (kinds ts) (view f.root)) same.0 h.tree) k.tree in
    ap (λ ts. source_by ts (view f.root)) one ∙ ap (source_by g.tokens) tree

pub one_reading : OfFiles → (n : ℕ) (xs : List FileText) (fs gs : List FileTree) → AreRead n xs fs → AreRead n xs gs → map source_of fs ≡ map source_of gs
one_reading law n [] [] [] h k = refl
one_reading law n [] [] (g ∷ gs) h k = absurd k
one_reading law n [] (f ∷ fs) gs h k = absurd h
one_reading law n (x ∷ xs) [] gs h k = absurd h
one_reading law n (x ∷ xs) (f ∷ fs) [] h k = absurd k
one_reading law n (x ∷ xs) (f ∷ fs) (g ∷ gs) h k =
    ap (λ s. s ∷ map source_of fs) (one_source law n x f g h.0 k.0) ∙ ap (λ ss. source_of g ∷ ss) (one_reading law (suc n) xs fs gs h.1 k.1)

-- ---- the limits

within_alone : OfFiles → (texts : List FileText) → IsWithinLimits texts → PassesLimits texts → ⊥
within_alone law texts w (past_bytes h) = let few = w.bytes in omega (arith, few, h)
within_alone law texts w (past_levels h) = let r = read_first h.number texts w.files h.text w.read h.there in h.none r.0 r.1
within_alone law texts w (past_statements h) =
    let same : length (statements_in w.files) ≡ length (statements_in h.files) = ap (λ ss. length (of_files statements 0 (map unit_of ss))) (one_reading law 0 texts w.files h.files w.read h.read) in
    let few = w.statements in
    let many = h.statements in
    omega (arith, same, few, many)

pub apart_from_others : OfFiles → AreApartFromOthers
apart_from_others law texts w p = within_alone law texts w p
