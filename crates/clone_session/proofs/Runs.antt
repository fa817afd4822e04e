-- The run of a package follows from its bytes.
use Rattle.std.proofs.Common.{◌≡◌, ◌∙◌, refl, sym, ap, ℕ, List, [], ◌∷◌, map}
use Rattle.go_base.specs.declared.bytes.FileText.{FileText}
use Rattle.go_tokens.specs.Tokens.{TokenList}
use Rattle.go_tree.specs.File.{FileTree}
use Rattle.go_typed.specs.Contents.{Content, content, IsPackageOf}
use Rattle.go_typed.specs.Packages.{PackageView}
use Rattle.go_package_defs.specs.Checked.{IsChecked, IsCheckedPackage, texts_of}
use Rattle.go_package_defs.specs.Single.{HasOneAnswer}
use Rattle.go_package_defs.specs.Sources.{Source, source_of}
use Rattle.go_eval.specs.Runs.{run_package}
use Rattle.clone_replies.specs.ReplyContents.{run_in, tokens_of}
use Rattle.clone_replies.proofs.Public.{OfFiles, same-sources}

-- what is known of runs of packages and of their files
pub record OfRuns : Type 0 where
  pub whole : (p : PackageView) (c : Content) (input : List ℕ) (turns : ℕ) → IsPackageOf c (content p) → run_package p input turns ≡ run_in c input turns
  pub files : (c : Content) (files : List FileTree) (input : List ℕ) (turns : ℕ) → tokens_of c.files ≡ tokens_of files → run_in c input turns ≡ run_in (record c { files = files }) input turns
  pub one : (texts : List FileText) → HasOneAnswer texts
  pub read : OfFiles

tokens-by : (fs : List FileTree) → tokens_of fs ≡ map (λ (s : Source). s.tokens) (map source_of fs)
tokens-by [] = refl
tokens-by (f ∷ fs) = ap (λ (ts : List TokenList). f.tokens ∷ ts) (tokens-by fs)

same-tokens : (fs gs : List FileTree) → map source_of fs ≡ map source_of gs → tokens_of fs ≡ tokens_of gs
same-tokens fs gs e = tokens-by fs ∙ ap (map (λ (s : Source). s.tokens)) e ∙ sym (tokens-by gs)

pub one-run : OfRuns → (texts : List FileText) (c d : Content) (input : List ℕ) (turns : ℕ) → IsChecked texts c → IsChecked texts d → run_in c input turns ≡ run_in d input turns
one-run law texts c d input turns h k =
    law.files c d.files input turns (same-tokens c.files d.files (same-sources law.read texts c d h k))
    ∙ ap (λ (x : Content). run_in x input turns) ((law.one texts).content c d h k)

pub run-follows : OfRuns → (p : PackageView) (c : Content) (input : List ℕ) (turns : ℕ) → IsCheckedPackage p → IsChecked (texts_of p) c → run_package p input turns ≡ run_in c input turns
run-follows law p c input turns h k = law.whole p h.given input turns h.same ∙ one-run law (texts_of p) h.given c input turns h.checked k
