-- What was answered is the reply of the definition.
use Rattle.std.proofs.Common.{◌≡◌, sym, subst, ℕ, List, Result, Ok, Err}
use Rattle.std.specs.Prelude.{IfOk}
use Rattle.go_base.specs.declared.bytes.FileText.{FileText}
use Rattle.clone_script.specs.declared.command.Command.{Command}
use Rattle.clone_script.specs.declared.command.Command.TheVariants as command
use Rattle.clone_script.specs.declared.choice.Choice.{Choice}
use Rattle.clone_server.specs.Session.{Settings}
use Rattle.clone_session.specs.Extracting.{choice_of, Extracts}
use Rattle.clone_session.specs.Answers.{Answers, PackageReply, IsListing, IsMaximal, IsNumbers, IsRun, bounds_of}

pub of-classes : (s : Settings) (texts : List FileText) (c : Command) (reply : List ℕ) (after : List FileText) → c ≡ command.Classes →
    PackageReply (IsListing (bounds_of s)) texts reply → after ≡ texts → Answers s texts c reply after
of-classes s texts c reply after e h k = subst (λ x. Answers s texts x reply after) (sym e) (h, k)

pub of-maximal : (s : Settings) (texts : List FileText) (c : Command) (reply : List ℕ) (after : List FileText) → c ≡ command.Maximal →
    PackageReply (IsMaximal (bounds_of s)) texts reply → after ≡ texts → Answers s texts c reply after
of-maximal s texts c reply after e h k = subst (λ x. Answers s texts x reply after) (sym e) (h, k)

pub of-stat : (s : Settings) (texts : List FileText) (c : Command) (reply : List ℕ) (after : List FileText) → c ≡ command.Stat →
    PackageReply (IsNumbers (bounds_of s) texts) texts reply → after ≡ texts → Answers s texts c reply after
of-stat s texts c reply after e h k = subst (λ x. Answers s texts x reply after) (sym e) (h, k)

pub of-run : (s : Settings) (texts : List FileText) (c : Command) (turns given : ℕ) (input bytes : List ℕ) (reply : List ℕ) (after : List FileText) → c ≡ command.Run turns input →
    given ≡ turns → bytes ≡ input → PackageReply (IsRun given bytes) texts reply → after ≡ texts → Answers s texts c reply after
of-run s texts c turns given input bytes reply after e et eb h k =
    subst (λ x. Answers s texts x reply after) (sym e) (subst (λ t. PackageReply (IsRun t input) texts reply) et (subst (λ b. PackageReply (IsRun given b) texts reply) eb h), k)

pub of-extract : (s : Settings) (texts : List FileText) (c : Command) (class : ℕ) (name : List ℕ) (choice : Choice) (reply : List ℕ) (after : List FileText) → c ≡ command.Extract class name choice →
    Extracts (bounds_of s) texts class name (choice_of choice) reply after → Answers s texts c reply after
of-extract s texts c class name choice reply after e h = subst (λ x. Answers s texts x reply after) (sym e) h

-- what holds for each of these holds for all of them
pub of-all : {A E C : Type 0} (r : Result A E) (Q : C → Type 0) (P : C → A → Type 0) → ((c : C) → Q c → IfOk r (P c)) → IfOk r (λ x. (c : C) → Q c → P c x)
of-all (Ok x) Q P h = h
of-all (Err e) Q P h = tt
