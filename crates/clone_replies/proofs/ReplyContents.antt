-- A package runs as its content does.
use Rattle.std.proofs.Common.{◌≡◌, ◌∙◌, refl, sym, ap, ℕ, suc, List, [], ◌∷◌, map, Option, Some, None, Result, Ok, Err}
use Rattle.std.specs.Prelude.{if◌then◌else◌, slice_get}
use Rattle.std.specs.Option.{option_map}
use Rattle.std.proofs.lemmas.Option.{slice_get-map}
use Rattle.go_tokens.specs.Tokens.{TokenList}
use Rattle.go_tree.specs.declared.object.Declared.{Declared}
use Rattle.go_tree.specs.File.{FileTree}
use Rattle.go_tree.specs.Uses.{UsesView, functions_among}
use Rattle.go_typed.specs.Contents.{Content, content, IsPackageOf}
use Rattle.go_typed.specs.Packages.{PackageView}
use Rattle.go_meaning.specs.Meaning.{Run, run}
use Rattle.go_eval_plans.specs.Programs.{program_of}
use Rattle.go_eval.specs.declared.outcome.RunError.{RunError}
use Rattle.go_eval.specs.Entry as entry
use Rattle.go_eval.specs.Entry.{is_main_name, text_there}
use Rattle.go_eval.specs.Runs.{depth, run_by, run_package}
use Rattle.clone_replies.specs.RunContents.{program_in}
use Rattle.clone_replies.specs.ReplyContents.{tokens_of, word_in, word_at, main_among, main_of, run_from, run_in}

-- what is known of the programs of packages
pub record OfPrograms : Type 0 where
  pub run : (p : PackageView) (c : Content) (main : ℕ) (input : List ℕ) (turns deep : ℕ) → IsPackageOf c (content p) → run (program_of p main) input turns deep ≡ run (program_in c main) input turns deep

-- ---- `main`

words-there : (o : Option FileTree) (t : ℕ) → text_there o t ≡ word_in (option_map (λ f. f.tokens) o) t
words-there None t = refl
words-there (Some f) t = refl

words-at : (p : PackageView) (n t : ℕ) → entry.text_at p n t ≡ word_at (tokens_of p.files) n t
words-at p n t = words-there (slice_get p.files n) t ∙ ap (λ o. word_in o t) (sym (slice_get-map (λ (f : FileTree). f.tokens) p.files n))

mains-among : (p : PackageView) (n : ℕ) (ds : List Declared) → entry.main_among p n ds ≡ main_among (tokens_of p.files) n ds
mains-among p n [] = refl
mains-among p n (d ∷ ds) =
    ap (λ w. if is_main_name w then Some n else entry.main_among p (suc n) ds) (words-at p d.file d.name)
    ∙ ap (λ o. if is_main_name (word_at (tokens_of p.files) d.file d.name) then Some n else o) (mains-among p (suc n) ds)

main-number : (p : PackageView) → entry.main_number p ≡ main_of (tokens_of p.files) p.uses
main-number p =
    ap (λ w. if is_main_name w then entry.main_among p 0 (functions_among p.uses.package_level) else None) (words-at p 0 1)
    ∙ ap (λ o. if is_main_name (word_at (tokens_of p.files) 0 1) then o else None) (mains-among p 0 (functions_among p.uses.package_level))

-- ---- runs

abbrev ran : Run → Result Run RunError
ran r = Ok r

from-main : OfPrograms → (p : PackageView) (c : Content) (input : List ℕ) (turns : ℕ) → IsPackageOf c (content p) → (o : Option ℕ) → run_by p input turns o ≡ run_from c input turns o
from-main law p c input turns h None = refl
from-main law p c input turns h (Some main) = ap ran (law.run p c main input turns depth h)

pub runs-alike : OfPrograms → (p : PackageView) (c : Content) (input : List ℕ) (turns : ℕ) → IsPackageOf c (content p) → run_package p input turns ≡ run_in c input turns
runs-alike law p c input turns h =
    ap (run_by p input turns) (main-number p ∙ ap (λ (fs : List FileTree). main_of (tokens_of fs) p.uses) h.1.files ∙ ap (main_of (tokens_of c.files)) h.1.uses)
    ∙ from-main law p c input turns h (main_of (tokens_of c.files) c.uses)

-- ---- files with the same tokens

same-from : (c : Content) (files : List FileTree) (input : List ℕ) (turns : ℕ) (o : Option ℕ) → run_from c input turns o ≡ run_from (record c { files = files }) input turns o
same-from c files input turns None = refl
same-from c files input turns (Some main) = refl

pub same-files : (c : Content) (files : List FileTree) (input : List ℕ) (turns : ℕ) → tokens_of c.files ≡ tokens_of files → run_in c input turns ≡ run_in (record c { files = files }) input turns
same-files c files input turns e =
    ap (λ (ts : List TokenList). run_from c input turns (main_of ts c.uses)) e
    ∙ same-from c files input turns (main_of (tokens_of files) c.uses)
