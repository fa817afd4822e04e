-- The files of a package that type-checks are those that are read of its texts.
use Rattle.std.proofs.Common.{◌≡◌, ◌∙◌, refl, sym, ap, subst, ℕ, suc, List, [], ◌∷◌, map, Result, Ok, Err, arith}
use Rattle.go_base.specs.declared.bytes.FileText.{FileText}
use Rattle.go_base.specs.Gives.{◌>>=◌}
use Rattle.go_tree.specs.Failures.{Failure}
use Rattle.go_tree.specs.File.{FileTree}
use Rattle.go_typed.specs.Contents.{Content}
use Rattle.go_typed.specs.Packages.{PackageView}
use Rattle.go_package_defs.specs.Sources.{Source, source_of}
use Rattle.go_package_defs.specs.Checked.{Typing, sources_answer, content_of, AreRead, names_of, texts_of, IsChecked, IsCheckedPackage}
use Rattle.extract_rewrite.specs.Shown.{AreItsTexts}

answered : List (List ℕ) → List FileTree → List Source → Result Typing Failure → Result Content Failure
answered names fs ss r = r >>= λ t. Ok (content_of names fs ss t)

abbrev as_ok : Content → Result Content Failure
as_ok c = Ok c

same_ok : (c d : Content) → as_ok c ≡ as_ok d → c ≡ d
same_ok c d e = grind (arith, e)

files_behind : (names : List (List ℕ)) (fs : List FileTree) (ss : List Source) (r : Result Typing Failure) (c : Content) → answered names fs ss r ≡ Ok c → fs ≡ c.files
unfolding answered
files_behind names fs ss (Ok t) c e = ap (λ (d : Content). d.files) (same_ok (content_of names fs ss t) c e)
files_behind names fs ss (Err g) c e = absurd cc

checked_files : (xs : List FileText) (c : Content) (h : IsChecked xs c) → h.files ≡ c.files
unfolding answered
checked_files xs c h = files_behind (names_of xs) h.files (map source_of h.files) (sources_answer (map source_of h.files)) c h.answer

pub are_read : (p : PackageView) (xs : List FileText) → IsCheckedPackage p → texts_of p ≡ xs → AreRead 0 xs p.files
are_read p xs h e =
    let files : h.checked.files ≡ p.files = checked_files (texts_of p) h.given h.checked ∙ sym (h.same.1.files) in
    subst (λ fs. AreRead 0 xs fs) files (subst (λ ts. AreRead 0 ts h.checked.files) e h.checked.read)

bytes_read : (n : ℕ) (xs : List FileText) (fs : List FileTree) → AreRead n xs fs → map (λ f. f.bytes) xs ≡ map (λ f. f.tokens.text) fs
bytes_read n [] [] h = refl
bytes_read n [] (f ∷ fs) h = absurd h
bytes_read n (x ∷ xs) [] h = absurd h
bytes_read n (x ∷ xs) (f ∷ fs) h = λ j. sym h.0.bytes j ∷ bytes_read (suc n) xs fs h.1 j

pub its_texts : (p : PackageView) (xs : List FileText) → IsCheckedPackage p → texts_of p ≡ xs → AreItsTexts p xs
its_texts p xs h e = bytes_read 0 xs p.files (are_read p xs h e)
