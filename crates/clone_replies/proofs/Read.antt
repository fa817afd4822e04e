-- A file has one lexing and one tree, so what is read of the files of a package follows from their bytes.
use Rattle.std.proofs.Common.{◌≡◌, ◌∙◌, refl, sym, ap, subst, ℕ, suc, List, [], ◌∷◌, map, Result, Ok, Err, arith}
use Rattle.go_base.specs.declared.Span.{Span}
use Rattle.go_base.specs.declared.bytes.FileText.{FileText}
use Rattle.go_base.specs.Gives.{◌>>=◌}
use Rattle.go_grammar.specs.Grammar.{IsFile}
use Rattle.go_grammar.specs.Trees.{Tree}
use Rattle.go_tokens.specs.declared.token.Token.{Token}
use Rattle.go_tokens.specs.declared.token.TokenKind.{TokenKind}
use Rattle.go_tokens.specs.Files.{IsLexing}
use Rattle.go_tokens.specs.Tokens.{TokenList, kinds}
use Rattle.go_tree.specs.Failures.{Failure}
use Rattle.go_tree.specs.File.{FileTree}
use Rattle.go_tree.specs.Views.{view}
use Rattle.go_typed.specs.Contents.{Content}
use Rattle.go_package_defs.specs.Sources.{Source, source_of}
use Rattle.go_package_defs.specs.Checked.{Typing, sources_answer, content_of, origins, IsRead, AreRead, names_of, IsChecked}

-- what is known of single files
pub record OfFiles : Type 0 where
  pub lexing : (file : ℕ) (bytes : List ℕ) (ts us : List Token) (cs ds : List Span) → IsLexing file bytes ts cs → IsLexing file bytes us ds → (ts ≡ us) × (cs ≡ ds)
  pub tree : (ts : List TokenKind) (t u : Tree) → IsFile ts t → IsFile ts u → t ≡ u

same_tokens : (s t : TokenList) → s.file ≡ t.file → s.text ≡ t.text → s.tokens ≡ t.tokens → s.comments ≡ t.comments → s ≡ t
same_tokens s t a b c d =
    ap (λ x. record { file = x; text = s.text; tokens = s.tokens; comments = s.comments }) a
    ∙ ap (λ x. record { file = t.file; text = x; tokens = s.tokens; comments = s.comments }) b
    ∙ ap (λ x. record { file = t.file; text = t.text; tokens = x; comments = s.comments }) c
    ∙ ap (λ x. record { file = t.file; text = t.text; tokens = t.tokens; comments = x }) d

source_by : TokenList → Tree → Source
source_by ts t = record { tokens = ts; tree = t }

one_source : OfFiles → (n : ℕ) (x : FileText) (f g : FileTree) → IsRead n x f → IsRead n x g → source_of f ≡ source_of g
unfolding source_by
one_source law n x f g h k =
    let same = law.lexing n x.bytes f.tokens.tokens g.tokens.tokens f.tokens.comments g.tokens.comments h.lexing k.lexing in
    let one : f.tokens ≡ g.tokens = same_tokens f.tokens g.tokens (h.number ∙ sym k.number) (h.bytes ∙ sym k.bytes) same.0 same.1 in
    let tree : view f.root ≡ view g.root = law.tree (kinds g.tokens.tokens) (view f.root) (view g.root) (subst (λ ts. IsFile (kinds ts) (view f.root)) same.0 h.tree) k.tree in
    ap (λ ts. source_by ts (view f.root)) one ∙ ap (source_by g.tokens) tree

one_reading : OfFiles → (n : ℕ) (xs : List FileText) (fs gs : List FileTree) → AreRead n xs fs → AreRead n xs gs → map source_of fs ≡ map source_of gs
one_reading law n [] [] [] h k = refl
one_reading law n [] [] (g ∷ gs) h k = absurd k
one_reading law n [] (f ∷ fs) gs h k = absurd h
one_reading law n (x ∷ xs) [] gs h k = absurd h
one_reading law n (x ∷ xs) (f ∷ fs) [] h k = absurd k
one_reading law n (x ∷ xs) (f ∷ fs) (g ∷ gs) h k =
    ap (λ s. s ∷ map source_of fs) (one_source law n x f g h.0 k.0) ∙ ap (λ ss. source_of g ∷ ss) (one_reading law (suc n) xs fs gs h.1 k.1)

-- ---- a package is of the files that were read

answered : List (List ℕ) → List FileTree → List Source → Result Typing Failure → Result Content Failure
answered names fs ss r = r >>= λ t. Ok (content_of names fs ss t)

abbrev as_ok : Content → Result Content Failure
as_ok c = Ok c

same_ok : (c d : Content) → as_ok c ≡ as_ok d → c ≡ d
same_ok c d e = grind (arith, e)

files_behind : (names : List (List ℕ)) (fs : List FileTree) (ss : List Source) (r : Result Typing Failure) (c : Content) → answered names fs ss r ≡ Ok c → fs ≡ c.files
unfolding answered
files_behind names fs ss (Ok t) c e = ap (λ (d : Content). d.files) (same_ok (content_of names fs ss t) c e)
files_behind names fs ss (Err g) c e = absurd cc

checked_files : (xs : List FileText) (c : Content) (h : IsChecked xs c) → h.files ≡ c.files
unfolding answered
checked_files xs c h = files_behind (names_of xs) h.files (map source_of h.files) (sources_answer (map source_of h.files)) c h.answer

-- what is read of the files of a package
pub same-sources : OfFiles → (xs : List FileText) (c d : Content) → IsChecked xs c → IsChecked xs d → map source_of c.files ≡ map source_of d.files
same-sources law xs c d h k =
    ap (map source_of) (sym (checked_files xs c h)) ∙ one_reading law 0 xs h.files k.files h.read k.read ∙ ap (map source_of) (checked_files xs d k)

-- ---- where its declared types stand

abbrev ArePlaced : Content → Type 0
ArePlaced c = c.origins ≡ origins c.uses

origins_behind : (names : List (List ℕ)) (fs : List FileTree) (ss : List Source) (r : Result Typing Failure) (c : Content) → answered names fs ss r ≡ Ok c → ArePlaced c
unfolding answered
origins_behind names fs ss (Ok t) c e = subst ArePlaced (same_ok (content_of names fs ss t) c e) refl
origins_behind names fs ss (Err g) c e = absurd cc

-- each declared type that its names mean has a place
pub checked_origins : (xs : List FileText) (c : Content) → IsChecked xs c → c.origins ≡ origins c.uses
unfolding answered
checked_origins xs c h = origins_behind (names_of xs) h.files (map source_of h.files) (sources_answer (map source_of h.files)) c h.answer
