-- A command has one reply.
use Rattle.std.proofs.Common.{◌≡◌, ◌∙◌, refl, sym, ap, ℕ, List, ◌++◌, Result, Ok, Err}
use Rattle.std.proofs.lemmas.Option.{same_Some}
use Rattle.std.specs.Prelude.{codes}
use Rattle.std.specs.Fmt.{decimal}
use Rattle.go_base.specs.declared.bytes.FileText.{FileText}
use Rattle.go_base.specs.declared.fault.Fault.{Fault}
use Rattle.go_base.specs.declared.fault.FaultCode.{FaultCode}
use Rattle.go_base.specs.Fault.{code_number, code_word}
use Rattle.go_tree.specs.Failures.{Failure}
use Rattle.go_scopes.specs.Views.{failure_of}
use Rattle.go_typed.specs.Contents.{Content}
use Rattle.go_package_defs.specs.Checked.{names_of, IsChecked}
use Rattle.go_package_defs.specs.Single.{HasOneAnswer}
use Rattle.edit_apply.specs.declared.texts.EditError.{EditError}
use Rattle.edit_apply.specs.Answers.{edit_answer, add_answer, remove_answer}
use Rattle.clone_script.specs.declared.command.Command.{Command}
use Rattle.clone_script.specs.declared.command.Command.TheVariants as command
use Rattle.clone_script.specs.declared.reply.EditKind.{EditKind}
use Rattle.clone_script.specs.declared.reply.EditKind.TheVariants as kinds
use Rattle.clone_script.specs.Listing.{file_name}
use Rattle.clone_script.specs.Replies.{edit_reply, kind_word}
use Rattle.clone_server.specs.Session.{Settings}
use Rattle.clone_session.specs.Replies.{IsRefusal, Changes}
use Rattle.clone_window.specs.declared.bounds.Bounds.{Bounds}
use Rattle.clone_replies.specs.Listing.{listing_reply}
use Rattle.clone_replies.specs.Maximal.{maximal_reply}
use Rattle.clone_replies.specs.Numbers.{numbers_in, numbers_reply}
use Rattle.clone_replies.specs.ReplyContents.{run_in}
use Rattle.clone_replies.specs.Replies.{run_words}
use Rattle.clone_session.specs.Answers.{Answers, IsNoExtraction, OfPackage, PackageReply, good, faulty, IsListing, IsMaximal, IsNumbers, IsRun, bounds_of, fault_line}

pub record Laws : Type 0 where
  pub answer : (texts : List FileText) → HasOneAnswer texts
  pub listing : (bounds : Bounds) (texts : List FileText) (c d : Content) → IsChecked texts c → IsChecked texts d → listing_reply bounds c ≡ listing_reply bounds d
  pub maximal : (bounds : Bounds) (texts : List FileText) (c d : Content) → IsChecked texts c → IsChecked texts d → maximal_reply bounds c ≡ maximal_reply bounds d
  pub numbers : (bounds : Bounds) (texts : List FileText) (c d : Content) → IsChecked texts c → IsChecked texts d → numbers_in bounds texts c ≡ numbers_in bounds texts d
  pub run : (texts : List FileText) (c d : Content) (input : List ℕ) (turns : ℕ) → IsChecked texts c → IsChecked texts d → run_in c input turns ≡ run_in d input turns

abbrev Same : List ℕ → List ℕ → List FileText → List FileText → Type 0
Same reply other after later = (reply ≡ other) × (after ≡ later)

-- ---- texts

refusals : (kind : EditKind) (e : EditError) (reply other : List ℕ) → IsRefusal kind e reply → IsRefusal kind e other → reply ≡ other
refusals kind e reply other h k =
    h.2 ∙ ap (edit_reply (kind_word kind)) (same_Some h.0 k.0 (sym h.1 ∙ k.1)) ∙ sym k.2

changes : (kind : EditKind) (texts : List FileText) (r : Result (List FileText) EditError) (reply other : List ℕ) (after later : List FileText) →
    Changes kind texts r reply after → Changes kind texts r other later → Same reply other after later
changes kind texts (Ok new) reply other after later h k = (h.0 ∙ sym k.0, h.1 ∙ sym k.1)
changes kind texts (Err e) reply other after later h k = (refusals kind e reply other h.0 k.0, h.1 ∙ sym k.1)

-- ---- packages

abbrev line : List ℕ → FaultCode → ℕ → ℕ → List ℕ
line file code start end =
    codes "fault " ++ decimal (code_number code) ++ codes " " ++ code_word code ++ codes " " ++ (file ++ codes ":" ++ decimal start ++ codes "-" ++ decimal end) ++ codes "\n"

failure_line : List FileText → Failure → List ℕ
failure_line texts f = line (file_name (names_of texts) f.place.file) f.code f.place.start f.place.end

fault-line-of : (texts : List FileText) (f : Fault) → fault_line texts f ≡ failure_line texts (failure_of f)
unfolding failure_line
fault-line-of texts f = refl

package-reply : Laws → (P : OfPackage) (texts : List FileText) → ((c d : Content) (reply other : List ℕ) → IsChecked texts c → IsChecked texts d → P c reply → P d other → reply ≡ other) →
    (reply other : List ℕ) → PackageReply P texts reply → PackageReply P texts other → reply ≡ other
package-reply law P texts one reply other (good c h p) (good d k q) = one c d reply other h k p q
package-reply law P texts one reply other (good c h p) (faulty f k q) = absurd ((law.answer texts).good (failure_of f) (c, h) k)
package-reply law P texts one reply other (faulty f h p) (good d k q) = absurd ((law.answer texts).good (failure_of f) (d, k) h)
package-reply law P texts one reply other (faulty f h p) (faulty g k q) =
    p ∙ fault-line-of texts f ∙ ap (failure_line texts) ((law.answer texts).fault (failure_of f) (failure_of g) h k) ∙ sym (fault-line-of texts g) ∙ sym q

listings : Laws → (bounds : Bounds) (texts : List FileText) (c d : Content) (reply other : List ℕ) → IsChecked texts c → IsChecked texts d → IsListing bounds c reply → IsListing bounds d other → reply ≡ other
listings law bounds texts c d reply other h k p q = p ∙ law.listing bounds texts c d h k ∙ sym q

reports : Laws → (bounds : Bounds) (texts : List FileText) (c d : Content) (reply other : List ℕ) → IsChecked texts c → IsChecked texts d → IsMaximal bounds c reply → IsMaximal bounds d other → reply ≡ other
reports law bounds texts c d reply other h k p q = p ∙ law.maximal bounds texts c d h k ∙ sym q

numbers-lines : Laws → (bounds : Bounds) (texts : List FileText) (c d : Content) (reply other : List ℕ) → IsChecked texts c → IsChecked texts d → IsNumbers bounds texts c reply → IsNumbers bounds texts d other → reply ≡ other
numbers-lines law bounds texts c d reply other h k p q = p ∙ ap numbers_reply (law.numbers bounds texts c d h k) ∙ sym q

runs : Laws → (turns : ℕ) (input : List ℕ) (texts : List FileText) (c d : Content) (reply other : List ℕ) → IsChecked texts c → IsChecked texts d → IsRun turns input c reply → IsRun turns input d other → reply ≡ other
runs law turns input texts c d reply other h k p q = p ∙ ap run_words (law.run texts c d input turns h k) ∙ sym q

pub one : Laws → (s : Settings) (texts : List FileText) (c : Command) (reply other : List ℕ) (after later : List FileText) → IsNoExtraction c → Answers s texts c reply after → Answers s texts c other later → Same reply other after later
one law s texts (command.Edit name start end text) reply other after later n h k = changes kinds.Edit texts (edit_answer texts name start end text) reply other after later h k
one law s texts (command.Add name text) reply other after later n h k = changes kinds.Add texts (add_answer texts name text) reply other after later h k
one law s texts (command.Remove name) reply other after later n h k = changes kinds.Drop texts (remove_answer texts name) reply other after later h k
one law s texts (command.Show name) reply other after later n h k = (h.0 ∙ sym k.0, h.1 ∙ sym k.1)
one law s texts command.Classes reply other after later n h k =
    (package-reply law (IsListing (bounds_of s)) texts (listings law (bounds_of s) texts) reply other h.0 k.0, h.1 ∙ sym k.1)
one law s texts command.Maximal reply other after later n h k =
    (package-reply law (IsMaximal (bounds_of s)) texts (reports law (bounds_of s) texts) reply other h.0 k.0, h.1 ∙ sym k.1)
one law s texts command.Stat reply other after later n h k =
    (package-reply law (IsNumbers (bounds_of s) texts) texts (numbers-lines law (bounds_of s) texts) reply other h.0 k.0, h.1 ∙ sym k.1)
one law s texts (command.Run turns input) reply other after later n h k =
    (package-reply law (IsRun turns input) texts (runs law turns input texts) reply other h.0 k.0, h.1 ∙ sym k.1)
one law s texts (command.Extract class name choice) reply other after later n h k = absurd n
one law s texts command.Save reply other after later n h k = absurd h
one law s texts command.Quit reply other after later n h k = absurd h
