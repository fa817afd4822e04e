-- The files of a package that type-checks are those that are read of its texts.
use Rattle.std.proofs.Common.{◌≡◌, ◌∙◌, refl, sym, ap, subst, ℕ, zero, suc, ◌+◌, List, [], ◌∷◌, map, Some, Result, Ok, Err, arith}
use Rattle.std.specs.Prelude.{slice_get}
use Rattle.go_base.specs.declared.bytes.FileText.{FileText}
use Rattle.go_base.specs.Gives.{◌>>=◌}
use Rattle.go_tree.specs.Failures.{Failure}
use Rattle.go_tree.specs.File.{FileTree}
use Rattle.go_typed.specs.Contents.{Content}
use Rattle.go_typed.specs.Packages.{PackageView}
use Rattle.go_package_defs.specs.Sources.{Source, source_of}
use Rattle.go_package_defs.specs.Checked.{Typing, sources_answer, content_of, AreRead, IsRead, names_of, texts_of, IsChecked, IsCheckedPackage}

answered : List (List ℕ) → List FileTree → List Source → Result Typing Failure → Result Content Failure
answered names fs ss r = r >>= λ t. Ok (content_of names fs ss t)

abbrev as_ok : Content → Result Content Failure
as_ok c = Ok c

same_ok : (c d : Content) → as_ok c ≡ as_ok d → c ≡ d
same_ok c d e = grind (arith, e)

files_behind : (names : List (List ℕ)) (fs : List FileTree) (ss : List Source) (r : Result Typing Failure) (c : Content) → answered names fs ss r ≡ Ok c → fs ≡ c.files
unfolding answered
files_behind names fs ss (Ok t) c e = ap (λ (d : Content). d.files) (same_ok (content_of names fs ss t) c e)
files_behind names fs ss (Err g) c e = absurd cc

checked_files : (xs : List FileText) (c : Content) (h : IsChecked xs c) → h.files ≡ c.files
unfolding answered
checked_files xs c h = files_behind (names_of xs) h.files (map source_of h.files) (sources_answer (map source_of h.files)) c h.answer

pub are_read : (p : PackageView) → IsCheckedPackage p → AreRead 0 (texts_of p) p.files
are_read p h =
    let files : h.checked.files ≡ p.files = checked_files (texts_of p) h.given h.checked ∙ sym (h.same.1.files) in
    subst (AreRead 0 (texts_of p)) files h.checked.read

-- A file of the package, with its text.
pub record HasText (xs : List FileText) (n k : ℕ) (f : FileTree) : Type 0 where
  pub text : FileText
  pub there : slice_get xs n ≡ Some text
  pub read : IsRead (k + n) text f

pub text_there : (xs : List FileText) (fs : List FileTree) (n k : ℕ) (f : FileTree) → AreRead k xs fs → slice_get fs n ≡ Some f → HasText xs n k f
text_there xs [] n k f h e = absurd cc
text_there [] (g ∷ fs) n k f h e = absurd h
text_there (x ∷ xs) (g ∷ fs) zero k f h e =
    let same : g ≡ f = cc in
    record { text = x; there = refl; read = subst (λ m. IsRead m x f) (let z : k ≡ k + 0 = omega arith in z) (subst (IsRead k x) same h.0) }
text_there (x ∷ xs) (g ∷ fs) (suc n) k f h e =
    let r = text_there xs fs n (suc k) f h.1 e in
    record { text = r.text; there = r.there; read = subst (λ m. IsRead m r.text f) (let z : suc k + n ≡ k + suc n = omega arith in z) r.read }
