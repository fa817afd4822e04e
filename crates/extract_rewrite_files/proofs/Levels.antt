-- New files within the limits have trees.
use Rattle.std.proofs.Common.{◌≡◌, ℕ, zero, suc, ◌+◌, List, [], ◌∷◌, Some, subst, arith}
use Rattle.std.specs.Prelude.{slice_get}
use Rattle.go_base.specs.declared.Span.{Span}
use Rattle.go_base.specs.declared.bytes.FileText.{FileText}
use Rattle.go_tokens.specs.declared.token.Token.{Token}
use Rattle.go_tokens.specs.Files.{IsLexing}
use Rattle.go_tokens.specs.Tokens.{kinds}
use Rattle.go_grammar.specs.Grammar.{IsFile}
use Rattle.go_tree.specs.File.{FileTree}
use Rattle.go_tree.specs.Views.{view}
use Rattle.go_package_defs.specs.Checked.{AreRead, IsRead}
use Rattle.extract_files.specs.Levels.{HasOneTree}
use Rattle.extract_rewrite_files.specs.Levels.{NewFilesHaveTrees}

pub read_there : (xs : List FileText) (fs : List FileTree) (n k : ℕ) (x : FileText) → AreRead k xs fs → slice_get xs n ≡ Some x → (g : FileTree) × IsRead (k + n) x g
read_there [] fs n k x h e = absurd cc
read_there (y ∷ xs) [] n k x h e = absurd h
read_there (y ∷ xs) (g ∷ fs) zero k x h e = let same : y ≡ x = cc in (g, subst (λ m. IsRead m x g) (let z : k ≡ k + 0 = omega arith in z) (subst (λ z. IsRead k z g) same h.0))
read_there (y ∷ xs) (g ∷ fs) (suc n) k x h e = let r = read_there xs fs n (suc k) x h.1 e in (r.0, subst (λ m. IsRead m x r.0) (let z : suc k + n ≡ k + suc n = omega arith in z) r.1)

pub one_tree : ((file : ℕ) (bytes : List ℕ) (ts us : List Token) (cs ds : List Span) → IsLexing file bytes ts cs → IsLexing file bytes us ds → (ts ≡ us) × (cs ≡ ds)) → (n : ℕ) (x : FileText) (g : FileTree) → IsRead n x g
    → (h : HasOneTree n x.bytes) → IsFile (kinds h.tokens) h.tree
one_tree law n x g r h =
    let same : g.tokens.tokens ≡ h.tokens = (law n x.bytes g.tokens.tokens h.tokens g.tokens.comments h.comments r.lexing h.lexing).0 in
    let is : IsFile (kinds h.tokens) (view g.root) = subst (λ ts. IsFile (kinds ts) (view g.root)) same r.tree in
    subst (IsFile (kinds h.tokens)) (h.only (view g.root) (record { derives = is.derives; begins = is.begins; ends = is.ends })) is

pub files_have_trees : ((file : ℕ) (bytes : List ℕ) (ts us : List Token) (cs ds : List Span) → IsLexing file bytes ts cs → IsLexing file bytes us ds → (ts ≡ us) × (cs ≡ ds)) → NewFilesHaveTrees
files_have_trees law p name ws t n f b w =
    let r = read_there _ w.files n 0 b.text w.read b.there in
    one_tree law n b.text r.0 (subst (λ m. IsRead m b.text r.0) (let z : 0 + n ≡ n = omega arith in z) r.1) b.is.one_tree
