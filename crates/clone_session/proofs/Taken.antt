-- What came of an extraction is told of the members of a class.
use Rattle.std.proofs.Common.{◌≡◌, ℕ, List, Some, Result, Ok, Err, map, refl, sym, subst}
use Rattle.go_base.specs.declared.bytes.FileText.{FileText}
use Rattle.go_base.specs.Gives.{Meets}
use Rattle.go_typed.specs.declared.window.Window.{Window}
use Rattle.go_typed.specs.Contents.{Content}
use Rattle.go_typed.specs.Packages.{PackageView}
use Rattle.go_package_defs.specs.Checked.{texts_of, IsChecked, IsCheckedPackage}
use Rattle.extract_rewrite.specs.declared.error.ExtractError.{ExtractError}
use Rattle.extract_rewrite.specs.declared.error.ExtractError.TheVariants as errors
use Rattle.extract_rewrite.specs.declared.extracted.Extracted.{Extracted}
use Rattle.extract_rewrite.specs.Shown.{extract_refusal, extracted_shown}
use Rattle.clone_window.specs.declared.bounds.Bounds.{Bounds}
use Rattle.clone_window.specs.Bodies.{bodies_of}
use Rattle.clone_classes.specs.declared.choose.Choice.{Choice}
use Rattle.clone_classes.specs.Choices.{chosen, place_of}
use Rattle.clone_replies.specs.Classes.{classes_in}
use Rattle.clone_session.specs.Extracting.{numbered, AreChosen, IsDone, IsHeld, IsKept, refused, IsKeptFrom, IsNotDone, IsTaken, IsTakenFrom}

-- ---- by the numbers of members

-- what is answered of the members with these numbers is answered of the choice of these
abbrev pub AnsweredFrom : PackageView → List Window → List ℕ → List ℕ → Result Extracted ExtractError → Type 0
AnsweredFrom p members numbers name result = Meets extract_refusal result (λ x. IsTakenFrom p members numbers name (extracted_shown x)) (IsKeptFrom p members numbers name)

abbrev pub AnsweredOf : List (List Window) → PackageView → ℕ → List ℕ → Choice → Result Extracted ExtractError → Type 0
AnsweredOf classes p class name choice result = Meets extract_refusal result (λ x. IsTaken classes p class name choice (extracted_shown x)) (IsKept classes p class name choice)

pub of_members : (classes : List (List Window)) (p : PackageView) (class : ℕ) (name : List ℕ) (choice : Choice) (members : List Window) (numbers : List ℕ) (result : Result Extracted ExtractError) → numbered classes class ≡ Some members
    → chosen (map (place_of (bodies_of p.functions)) members) choice ≡ Ok numbers → AnsweredFrom p members numbers name result → AnsweredOf classes p class name choice result
of_members classes p class name choice members numbers (Ok x) there these h =
    record { numbers = numbers; members = _; chosen = record { members = members; listed = there; taken_so = these; taken = refl }; done = h }
of_members classes p class name choice members numbers (Err (errors.Refused r)) there these h =
    subst (IsKept classes p class name choice) (sym h.2) (refused numbers _ h.0 (record { members = members; listed = there; taken_so = these; taken = refl }) h.1)
of_members classes p class name choice members numbers (Err errors.Memory) there these h = tt

-- ---- in a session

abbrev pub Answered : Bounds → List FileText → ℕ → List ℕ → Choice → Result Extracted ExtractError → Type 0
Answered bounds texts class name choice result = Meets extract_refusal result (λ x. IsDone bounds texts class name choice (extracted_shown x)) (IsNotDone bounds texts class name choice)

pub held : (bounds : Bounds) (texts : List FileText) (p : PackageView) (classes : List (List Window)) → (k : IsCheckedPackage p) → texts_of p ≡ texts → ((c : Content) → IsChecked texts c → classes ≡ classes_in bounds c) → IsHeld bounds texts classes p
held bounds texts p classes k t same =
    let checked : IsChecked texts k.given = subst (λ ts. IsChecked ts k.given) t k.checked in
    record { whole = k.given; checked = checked; known = k; texts_are = t; classes_are = same k.given checked }

pub answered : (bounds : Bounds) (texts : List FileText) (p : PackageView) (classes : List (List Window)) (class : ℕ) (name : List ℕ) (choice : Choice) (result : Result Extracted ExtractError) → IsHeld bounds texts classes p
    → AnsweredOf classes p class name choice result → Answered bounds texts class name choice result
answered bounds texts p classes class name choice (Ok x) h k = (classes, p, h, k)
answered bounds texts p classes class name choice (Err (errors.Refused r)) h k = (classes, p, h, k)
answered bounds texts p classes class name choice (Err errors.Memory) h k = tt
