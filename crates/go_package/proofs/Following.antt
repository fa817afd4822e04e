-- One phase behind another.
use Rattle.std.proofs.Common.{◌≡◌, ℕ, List, Option, Some, None, Result, Ok, Err, refl, ap, sym, subst, ◌∙◌}
use Rattle.std.specs.Option.{option_map}
use Rattle.go_base.specs.declared.bytes.FileText.{FileText}
use Rattle.go_base.specs.declared.fault.Fault.{Fault}
use Rattle.go_base.specs.Gives.{Gives, Meets, Unless, ◌>>=◌}
use Rattle.go_tree.specs.Failures.{Failure}
use Rattle.go_tree.specs.Faults.{reported}
use Rattle.go_tree.specs.File.{FileTree}
use Rattle.go_tree.specs.Units.{Unit}
use Rattle.go_tree.specs.Uses as names
use Rattle.go_tree.specs.Uses.{UsesView}
use Rattle.go_typed.specs.Contents.{Content, content, IsPackageOf}
use Rattle.go_typed.specs.Packages.{PackageView, IsPackage}
use Rattle.go_scopes.specs.Resolve as resolving
use Rattle.go_scopes.specs.Views.{failure_of}
use Rattle.go_package_defs.specs.declared.error.CheckError.{CheckError}
use Rattle.go_package_defs.specs.declared.error.CheckError.TheVariants as errors
use Rattle.go_package_defs.specs.Refusals.{check_refusal}
use Rattle.go_package_defs.specs.Answer.{Environment, package_answer, unless}
use Rattle.go_package_defs.specs.Checked.{Typing, names_of, texts_by, texts_of, AreRead, IsReported, IsCheckedPackage, names_answer, bodies_answer, sources_answer, content_of, files_answer}
use Rattle.go_package.specs.Functions.{check_failure}
use Rattle.go_package.specs.Functions.{specified}
use Rattle.go_package.specs.Checks.{sources_in, bodies_behind, declarations_behind, declarations_answer}
use Rattle.go_package.proofs.FilesRead.{units_are, texts_are}

module _ {A X Y : Type 0} (view : X → Y) where
  -- where the phase before gives a value
  pub gives_behind : (r : Result A Failure) (x : A) (next : A → Result Y Failure) (a : Result X CheckError) → r ≡ Ok x → Gives view check_failure a (next x) → Gives view check_failure a (r >>= next)
  gives_behind r x next a e h = subst (λ z. Gives view check_failure a (z >>= next)) (sym e) h

  -- where it fails
  pub fails_behind : (r : Result A Failure) (next : A → Result Y Failure) (f : Option Failure) (e : CheckError) (a : Result X CheckError) → Unless f (λ g. r ≡ Err g) → check_failure e ≡ f → a ≡ Err e
      → Gives view check_failure a (r >>= next)
  fails_behind r next f e a h is at = subst (λ z. Gives view check_failure z (r >>= next)) (sym at) (by (check_failure e) (subst (λ z. Unless z (λ g. r ≡ Err g)) (sym is) h))
    where
      by : (f : Option Failure) → Unless f (λ g. r ≡ Err g) → Unless f (λ g. (r >>= next) ≡ Err g)
      by None h = tt
      by (Some g) h = ap (λ z. z >>= next) h

-- names without a fault mean something
pub names_sound : (us : List Unit) (uses : UsesView) → reported us ≡ None → uses ≡ names.uses us → names_answer us ≡ Ok uses
names_sound us uses sound is =
    ap (λ o. unless o (names.uses us)) sound ∙ ap (λ u. let r : Result UsesView Failure = Ok u in r) (sym is)

-- names with a fault
pub names_fault : (us : List Unit) (o : Option Fault) → Unless o (λ f. reported us ≡ Some (failure_of f)) → Unless (option_map failure_of o) (λ g. names_answer us ≡ Err g)
names_fault us None h = tt
names_fault us (Some f) h = ap (λ o. unless o (names.uses us)) h

module _ (texts : List (List ℕ)) (files : List FileTree) where
  abbrev all : Result UsesView Failure → Result Content Failure
  all r = (r >>= λ u. package_answer (sources_in files) u >>= λ e. bodies_answer (sources_in files) (specified files) u e) >>= λ t. Ok (content_of texts files (sources_in files) t)

  abbrev pub behind : UsesView × Environment → Result Content Failure
  behind d = bodies_behind texts files d.0 d.1

  regrouped_behind : (u : UsesView) (r : Result Environment Failure) → ((r >>= λ e. bodies_answer (sources_in files) (specified files) u e) >>= λ t. Ok (content_of texts files (sources_in files) t))
      ≡ ((r >>= λ e. Ok (u, e)) >>= behind)
  regrouped_behind u (Ok e) = refl
  regrouped_behind u (Err g) = refl

  regrouped : (r : Result UsesView Failure) → all r ≡ ((r >>= λ u. declarations_behind files u) >>= behind)
  regrouped (Ok u) = regrouped_behind u (package_answer (sources_in files) u)
  regrouped (Err g) = refl

  -- the answer, phase by phase
  pub files_phases : files_answer texts files ≡ (declarations_answer files >>= behind)
  files_phases = ap (λ us. all (names_answer us)) (units_are files) ∙ regrouped (names_answer (resolving.units_of files))

-- ---- the whole check

module _ (texts : List FileText) (files : List FileTree) (read : AreRead 0 texts files) where
  -- the fault that a later phase answers is reported
  pub later_fault : (e : CheckError) → Gives content check_failure (let a : Result PackageView CheckError = Err e in a) (files_answer (names_of texts) files) → Unless (check_refusal e) (λ f. IsReported texts (failure_of f))
  later_fault errors.Memory h = tt
  later_fault (errors.Fault f) h = IsReported.later (record { files = files; read = read; answer = h })

  pub later_meets : (e : CheckError) (r : Result PackageView CheckError) (P : PackageView → Type 0) → Gives content check_failure (let a : Result PackageView CheckError = Err e in a) (files_answer (names_of texts) files)
      → r ≡ Err e → Meets check_refusal r P (λ f. IsReported texts (failure_of f))
  later_meets e r P h at = subst (λ z. Meets check_refusal z P (λ f. IsReported texts (failure_of f))) (sym at) (later_fault e h)

  module _ (c : PackageView) (answer : files_answer (names_of texts) files ≡ Ok (content c)) where
    abbrev named : Result Content Failure → List (List ℕ)
    named (Ok d) = d.names
    named (Err g) = names_of texts

    abbrev filed : Result Content Failure → List FileTree
    filed (Ok d) = d.files
    filed (Err g) = files

    names_kept : (r : Result Typing Failure) → named (r >>= λ t. Ok (content_of (names_of texts) files (sources_in files) t)) ≡ names_of texts
    names_kept (Ok t) = refl
    names_kept (Err g) = refl

    files_kept : (r : Result Typing Failure) → filed (r >>= λ t. Ok (content_of (names_of texts) files (sources_in files) t)) ≡ files
    files_kept (Ok t) = refl
    files_kept (Err g) = refl

    pub texts_same : texts_of c ≡ texts
    texts_same =
        let its_names : c.names ≡ names_of texts = ap named (sym answer) ∙ names_kept (sources_answer (sources_in files)) in
        let its_files : c.files ≡ files = ap filed (sym answer) ∙ files_kept (sources_answer (sources_in files)) in
        ap (λ ns. texts_by ns c.files) its_names ∙ ap (λ fs. texts_by (names_of texts) fs) its_files ∙ texts_are texts files read

    pub is_checked : IsPackage c → IsPackageOf (content c) (content c) → IsCheckedPackage c
    is_checked numbers same = record {
      numbers = numbers;
      given = content c;
      checked = record {
        files = files;
        read = subst (λ xs. AreRead 0 xs files) (sym texts_same) read;
        answer = ap (λ xs. files_answer (names_of xs) files) texts_same ∙ answer;
      };
      same = same;
    }
