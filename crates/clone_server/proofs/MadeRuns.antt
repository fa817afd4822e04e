-- The run of a package that is made from a number.
use Rattle.std.proofs.Common.{◌≡◌, ℕ, List, [], ◌++◌, Option, Some, Result, Ok, Err, refl, sym, ap, subst, ◌∙◌}
use Rattle.std.proofs.lemmas.List.{append-nil}
use Rattle.port_io.specs.Held.{Held}
use Rattle.go_base.specs.declared.bytes.FileText.{FileText}
use Rattle.clone_script.specs.Script.{HasOutcome, Outcome, done}
use Rattle.clone_server.specs.declared.step.End.{End}
use Rattle.clone_server.specs.declared.stop.Stop.{Stop}
use Rattle.clone_server.specs.declared.stop.Stop.TheVariants as stop
use Rattle.clone_server.specs.Made.{made, made_script}
use Rattle.clone_server.specs.Session.{Answering, Settings, outcome_status, outcome_text}
use Rattle.clone_server.specs.Serving.{AtEnd, Runs}
use Rattle.clone_server.specs.Run.{CountsAll, CountsEnd, RunsFiles, nothing_held}
use Rattle.clone_server.proofs.Ending.{files_first, files_stop}

-- the counts of objects that aren't looked at
pub counts_sink : (r : Result ℕ Stop) (f w s k j : ℕ) → CountsEnd r k j → CountsAll r f f w w s s k j
counts_sink (Ok n) f w s k j c = (refl, refl, refl, c)
counts_sink (Err stop.Sink) f w s k j c = (refl, refl, refl, c)
counts_sink (Err stop.Memory) f w s k j c = (refl, refl, refl, c)
counts_sink (Err stop.Folder) f w s k j c = absurd c
counts_sink (Err stop.Script) f w s k j c = absurd c
counts_sink (Err stop.Save) f w s k j c = absurd c

-- what is told of the run, with what it leaves of its own objects
abbrev pub Told : Answering → ℕ → List ℕ → Result ℕ Stop → Option (List ℕ) → Type 0
Told A seed before r written = (own : Option Held) × (rest : Option (List ℕ)) × RunsFiles A [] (record { files = made seed; held = nothing_held }) made_script before r own written rest

-- the same run, of a workspace that has these settings and these files
pub runs_as : (A : Settings → Answering) (s t : Settings) (fs gs : List FileText) (before : List ℕ) (r : Result End Stop) (now : List FileText) (own : Option Held) (written rest : Option (List ℕ)) → s ≡ t → fs ≡ gs
    → Runs (A s) [] (record { files = fs; held = nothing_held }) made_script before r now own written rest → Runs (A t) [] (record { files = gs; held = nothing_held }) made_script before r now own written rest
runs_as A s t fs gs before r now own written rest same files h =
    subst (λ z. Runs (A z) [] (record { files = gs; held = nothing_held }) made_script before r now own written rest) same
    (subst (λ z. Runs (A s) [] (record { files = z; held = nothing_held }) made_script before r now own written rest) files h)

module _ (A : Answering) (seed : ℕ) (before : List ℕ) where
  -- memory ran out before the first command
  pub made_first : (written : Option (List ℕ)) → written ≡ Some before → Told A seed before (Err stop.Memory) written
  made_first written e = (Some nothing_held, Some made_script, files_first A [] (made seed) nothing_held made_script before (Some nothing_held) written (Some made_script) refl e refl)

  pub made_stop : (e : Stop) (now : List FileText) (own : Option Held) (written rest : Option (List ℕ)) → Runs A [] (record { files = made seed; held = nothing_held }) made_script before (Err e) now own written rest
      → Told A seed before (Err e) written
  made_stop e now own written rest r = (own, rest, files_stop A [] (made seed) nothing_held made_script before e now own written rest r)

  pub made_end : (o : Outcome) (own : Option Held) (written rest : Option (List ℕ)) → AtEnd A [] (record { files = made seed; held = nothing_held }) made_script before o own written
      → (HasOutcome made_script o → o ≡ done) → Told A seed before (Ok 0) written
  made_end o own written rest a is =
      let ends : o ≡ done = is (a.commands, a.rest, a.follow, a.ends) in (
        own,
        rest,
        (
          o,
          a.bytes ++ outcome_text o,
          a.now,
          record { commands = a.commands; rest = a.rest; replies = a.bytes; follow = a.follow; ends = a.ends; answered = a.answered; whole = refl },
          ap outcome_status (sym ends),
          a.written_is ∙ ap (λ z. Some (before ++ z)) (sym (ap (λ z. a.bytes ++ outcome_text z) ends ∙ append-nil a.bytes)),
          a.held,
        ),
      )
