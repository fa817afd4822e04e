-- The replies to commands at the present package, by its texts alone.
use Rattle.std.specs.Prelude.{◌≡◌, ◌&&◌, ℕ, Bool, nat_le, List, Result}
use Rattle.go_base.specs.declared.bytes.FileText.{FileText}
use Rattle.go_base.specs.declared.fault.Fault.{Fault}
use Rattle.go_base.specs.Gives.{Gives}
use Rattle.go_scopes.specs.Views.{failure_of}
use Rattle.go_typed.specs.Contents.{Content}
use Rattle.go_eval.specs.declared.outcome.Outcome.{Outcome}
use Rattle.go_eval.specs.declared.outcome.RunError.{RunError}
use Rattle.go_eval.specs.Runs.{outcome_view, refusal}
use Rattle.go_package_defs.specs.Checked.{names_of, IsChecked, IsGood, IsReported}
use Rattle.clone_script.specs.declared.command.Command.{Command}
use Rattle.clone_script.specs.declared.command.Command.TheVariants as command
use Rattle.clone_script.specs.Listing.{file_name}
use Rattle.clone_script.specs.Replies.{fault_reply}
use Rattle.clone_server.specs.Session.{Settings}
use Rattle.clone_session.specs.Extracting.{choice_of, Extracts}
use Rattle.clone_session.specs.Replies.{TextReply}
use Rattle.clone_window.specs.declared.bounds.Bounds.{Bounds}
use Rattle.clone_replies.specs.Listing.{listing_reply}
use Rattle.clone_replies.specs.Maximal.{maximal_reply}
use Rattle.clone_replies.specs.Numbers.{numbers_in, numbers_reply}
use Rattle.clone_replies.specs.ReplyContents.{run_in}
use Rattle.clone_replies.specs.Replies.{run_words}

-- which runs of statements are windows
abbrev pub bounds_of : Settings → Bounds
bounds_of s = record { fewest = s.min; least = s.mass }

abbrev pub settings_of : Bounds → Settings
settings_of b = record { min = b.fewest; mass = b.least }

-- from 1 to 32 statements, and a mass from 1 to 1000
abbrev pub are_bounds : ℕ → ℕ → Bool
are_bounds min mass = nat_le 1 min && nat_le min 32 && nat_le 1 mass && nat_le mass 1000

-- the line of a fault: its code, its word, and its place in the file of that name
abbrev pub fault_line : List FileText → Fault → List ℕ
fault_line texts f = fault_reply (file_name (names_of texts) f.span.file) f

-- what is answered of a package that type-checks
abbrev pub OfPackage : Type 1
OfPackage = Content → List ℕ → Type 0

-- A package that type-checks has such a reply, and any other the line of the fault that is reported of it.
pub data PackageReply (P : OfPackage) (texts : List FileText) (reply : List ℕ) : Type 0 where
  good : (c : Content) → IsChecked texts c → P c reply → PackageReply P texts reply
  faulty : (f : Fault) → IsReported texts (failure_of f) → reply ≡ fault_line texts f → PackageReply P texts reply

-- its listing
abbrev pub IsListing : Bounds → OfPackage
IsListing bounds c reply = reply ≡ listing_reply bounds c

-- its maximal classes, and how much of each file is covered
abbrev pub IsMaximal : Bounds → OfPackage
IsMaximal bounds c reply = reply ≡ maximal_reply bounds c

-- its numbers, where it has these texts
abbrev pub IsNumbers : Bounds → List FileText → OfPackage
IsNumbers bounds texts c reply = reply ≡ numbers_reply (numbers_in bounds texts c)

-- what came of its run with so many turns and this input
abbrev pub IsRun : ℕ → List ℕ → OfPackage
IsRun turns input c reply = reply ≡ run_words (run_in c input turns)

-- The package of these files type-checks, and its run with this input and so many turns comes to this.
pub record IsRunOf (texts : List FileText) (input : List ℕ) (turns : ℕ) (answer : Result Outcome RunError) : Type 0 where
  pub good : IsGood texts
  pub run : (c : Content) → IsChecked texts c → Gives outcome_view refusal answer (run_in c input turns)

-- At these files a command gets this reply, and leaves these files. `save` and `quit` are not answered by the texts alone.
abbrev pub Answers : Settings → List FileText → Command → List ℕ → List FileText → Type 0
Answers s texts (command.Edit name start end text) reply after = TextReply texts (command.Edit name start end text) reply after
Answers s texts (command.Add name text) reply after = TextReply texts (command.Add name text) reply after
Answers s texts (command.Remove name) reply after = TextReply texts (command.Remove name) reply after
Answers s texts (command.Show name) reply after = TextReply texts (command.Show name) reply after
Answers s texts command.Classes reply after = PackageReply (IsListing (bounds_of s)) texts reply × (after ≡ texts)
Answers s texts command.Maximal reply after = PackageReply (IsMaximal (bounds_of s)) texts reply × (after ≡ texts)
Answers s texts command.Stat reply after = PackageReply (IsNumbers (bounds_of s) texts) texts reply × (after ≡ texts)
Answers s texts (command.Extract class name choice) reply after = Extracts (bounds_of s) texts class name (choice_of choice) reply after
Answers s texts (command.Run turns input) reply after = PackageReply (IsRun turns input) texts reply × (after ≡ texts)
Answers s texts command.Save reply after = ⊥
Answers s texts command.Quit reply after = ⊥

-- a command but `extract`
abbrev pub IsNoExtraction : Command → Type 0
IsNoExtraction (command.Extract class name choice) = ⊥
IsNoExtraction other = Unit {0}
