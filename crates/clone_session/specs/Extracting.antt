-- The members of a class taken out into a function, in a session: what comes of it, and the reply.
use Rattle.std.specs.Prelude.{◌≡◌, ℕ, ◌-◌, nat_eq, if◌then◌else◌, List, ◌++◌, map, codes, Option, Some, None, unwrap_or, slice_get, Ok, Err}
use Rattle.std.specs.Fmt.{decimal}
use Rattle.std.specs.List.{filter_map}
use Rattle.go_base.specs.declared.bytes.FileText.{FileText}
use Rattle.go_base.specs.declared.fault.Fault.{Fault}
use Rattle.go_scopes.specs.Views.{failure_of}
use Rattle.go_tree.specs.Units.{Place}
use Rattle.go_typed.specs.declared.window.Window.{Window}
use Rattle.go_typed.specs.Contents.{Content, content}
use Rattle.go_typed.specs.Packages.{PackageView}
use Rattle.go_package_defs.specs.Checked.{names_of, texts_of, IsChecked, IsCheckedPackage, IsReported}
use Rattle.edit_apply.specs.Applied.{applied}
use Rattle.escape_check.specs.Places.{Refusal}
use Rattle.extract_rewrite.specs.Answers.{IsExtraction, IsRefused}
use Rattle.extract_rewrite.specs.Counts.{Counts}
use Rattle.extract_rewrite.specs.Extraction.{Extraction}
use Rattle.clone_window.specs.declared.bounds.Bounds.{Bounds}
use Rattle.clone_window.specs.Bodies.{bodies_of}
use Rattle.clone_classes.specs.declared.choose.Choice.{Choice}
use Rattle.clone_classes.specs.declared.choose.Choice.TheVariants as choice
use Rattle.clone_classes.specs.Choices.{chosen, place_of}
use Rattle.clone_script.specs.declared.choice.Choice.{Choice as Chosen}
use Rattle.clone_script.specs.declared.choice.Choice.TheVariants as chosen-members
use Rattle.clone_script.specs.Extracts.{done_line, refusal_head}
use Rattle.clone_script.specs.Listing.{file_name}
use Rattle.clone_script.specs.Replies.{fault_reply}
use Rattle.clone_replies.specs.Classes.{classes_in}

-- ---- the members

-- what has this number in a list whose first one has the number 1
abbrev pub numbered : {A : Type 0} → List A → ℕ → Option A
numbered xs n = if nat_eq n 0 then None else slice_get xs (n - 1)

-- the members of these numbers
abbrev pub members_by : List Window → List ℕ → List Window
members_by ws ns = filter_map (numbered ws) ns

-- the choice that a command names
abbrev pub choice_of : Chosen → Choice
choice_of chosen-members.All = choice.All
choice_of (chosen-members.Members ns) = choice.Members ns

-- ---- what comes of it

-- no class has the number
abbrev pub class_refusal : Refusal
class_refusal = record { code = 1; member = 0; span = None }

-- no member has this number
abbrev pub member_refusal : ℕ → Refusal
member_refusal n = record { code = 2; member = n; span = None }

-- the number in its class of a window that was taken at this place, where the refusal has bytes
abbrev pub member_for : List ℕ → ℕ → Option Place → ℕ
member_for ns place None = 0
member_for ns place (Some span) = unwrap_or (slice_get ns place) 0

-- a refusal of windows that are the members of these numbers
abbrev pub refusal_by : List ℕ → Refusal → Refusal
refusal_by ns r = record { code = r.code; member = member_for ns r.member r.span; span = r.span }

-- The members that are chosen of the class of some number among these: their numbers, in the order in which they are taken.
pub record AreChosen (classes : List (List Window)) (p : PackageView) (class : ℕ) (choice : Choice) (numbers : List ℕ) (ws : List Window) : Type 0 where
  pub members : List Window
  pub listed : numbered classes class ≡ Some members
  pub taken_so : chosen (map (place_of (bodies_of p.functions)) members) choice ≡ Ok numbers
  pub taken : ws ≡ members_by members numbers

-- The chosen members of a class, taken out into a function of this name: the edits and what is told of them.
pub record IsTaken (classes : List (List Window)) (p : PackageView) (class : ℕ) (name : List ℕ) (choice : Choice) (e : Extraction) : Type 0 where
  pub numbers : List ℕ
  pub members : List Window
  pub chosen : AreChosen classes p class choice numbers members
  pub done : IsExtraction (content p) name members e

-- Why they are not taken out: there is no such class, a number is no member's, or the least code that applies to the chosen members.
pub data IsKept (classes : List (List Window)) (p : PackageView) (class : ℕ) (name : List ℕ) (choice : Choice) : Refusal → Type 0 where
  no_class : numbered classes class ≡ None → IsKept classes p class name choice class_refusal
  no_member : (members : List Window) (n : ℕ) → numbered classes class ≡ Some members → chosen (map (place_of (bodies_of p.functions)) members) choice ≡ Err n → IsKept classes p class name choice (member_refusal n)
  refused : (numbers : List ℕ) (members : List Window) (r : Refusal) → AreChosen classes p class choice numbers members → IsRefused (content p) name members r → IsKept classes p class name choice (refusal_by numbers r)

-- The same of members of these numbers.
abbrev pub IsTakenFrom : PackageView → List Window → List ℕ → List ℕ → Extraction → Type 0
IsTakenFrom p members numbers name e = IsExtraction (content p) name (members_by members numbers) e

abbrev pub IsKeptFrom : PackageView → List Window → List ℕ → List ℕ → Refusal → Type 0
IsKeptFrom p members numbers name r = (x : Refusal) × IsRefused (content p) name (members_by members numbers) x × (r ≡ refusal_by numbers x)

-- ---- in a session

-- A package that type-checks, under some numbers of its declared types, has these texts, and these are its classes.
pub record IsHeld (bounds : Bounds) (texts : List FileText) (classes : List (List Window)) (p : PackageView) : Type 0 where
  pub whole : Content
  pub checked : IsChecked texts whole
  pub known : IsCheckedPackage p
  pub texts_are : texts_of p ≡ texts
  pub classes_are : classes ≡ classes_in bounds whole

-- The chosen members of a class of its listing are taken out so.
abbrev pub IsDone : Bounds → List FileText → ℕ → List ℕ → Choice → Extraction → Type 0
IsDone bounds texts class name choice e = (classes : List (List Window)) × (p : PackageView) × IsHeld bounds texts classes p × IsTaken classes p class name choice e

-- They are not, and so it is told.
abbrev pub IsNotDone : Bounds → List FileText → ℕ → List ℕ → Choice → Refusal → Type 0
IsNotDone bounds texts class name choice r = (classes : List (List Window)) × (p : PackageView) × IsHeld bounds texts classes p × IsKept classes p class name choice r

-- ---- the reply

abbrev pub taken_line : List ℕ → Counts → List ℕ
taken_line name n = done_line name n.members n.parameters n.results n.dropped

-- behind the code and the word: the number of the member and its bytes, where there are any
abbrev pub refusal_tail : List (List ℕ) → ℕ → Option Place → List ℕ
refusal_tail names member None = codes "\n"
refusal_tail names member (Some p) = codes " " ++ decimal member ++ codes " " ++ (file_name names p.file ++ codes ":" ++ decimal p.start ++ codes "-" ++ decimal p.end) ++ codes "\n"

-- Of no class the line tells nothing more, and of a number that is no member's the number.
abbrev pub kept_line : List (List ℕ) → Refusal → List ℕ
kept_line names r =
    if nat_eq r.code 1 then refusal_head 1 ++ codes "\n"
    else (if nat_eq r.code 2 then refusal_head 2 ++ codes " " ++ decimal r.member ++ codes "\n" else refusal_head r.code ++ refusal_tail names r.member r.span)

-- At these files: a package that type-checks has the counts as its reply, and leaves the new texts; or the refusal, and stays. Any other has
-- the line of the fault that is reported of it, and stays.
pub data Extracts (bounds : Bounds) (texts : List FileText) (class : ℕ) (name : List ℕ) (choice : Choice) (reply : List ℕ) (after : List FileText) : Type 0 where
  done : (e : Extraction) → IsDone bounds texts class name choice e → reply ≡ taken_line name e.counts → after ≡ applied texts e.edits → Extracts bounds texts class name choice reply after
  kept : (r : Refusal) → IsNotDone bounds texts class name choice r → reply ≡ kept_line (names_of texts) r → after ≡ texts → Extracts bounds texts class name choice reply after
  faulty : (f : Fault) → IsReported texts (failure_of f) → reply ≡ fault_reply (file_name (names_of texts) f.span.file) f → after ≡ texts → Extracts bounds texts class name choice reply after
