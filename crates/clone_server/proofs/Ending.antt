-- How a run ends.
use Rattle.std.proofs.Common.{◌≡◌, ℕ, List, [], ◌++◌, Option, Some, None, Result, Ok, Err, IfOk, inl, inr, refl, ap, ◌∙◌, append_assoc}
use Rattle.go_base.specs.declared.bytes.FileText.{FileText}
use Rattle.port_io.specs.Held.{Held}
use Rattle.clone_server.specs.declared.step.End.{End}
use Rattle.clone_server.specs.Taking.{outcome_of}
use Rattle.clone_script.specs.Script.{Outcome, done, bad_at, long}
use Rattle.clone_server.specs.declared.words.WordsError.{WordsError}
use Rattle.clone_server.specs.Words.{Said, usage}
use Rattle.clone_server.specs.declared.folder.OpenError.{OpenError}
use Rattle.clone_server.specs.Opening.{opened}
use Rattle.clone_server.specs.declared.stop.Stop.{Stop}
use Rattle.clone_server.specs.declared.stop.Stop.TheVariants as stop
use Rattle.clone_server.specs.Session.{Settings, Answering, outcome_status, outcome_text}
use Rattle.clone_server.specs.Serving.{AtEnd, Runs}
use Rattle.clone_server.specs.Made.{made, made_script}
use Rattle.clone_server.specs.Run.{Closes, CountsEnd, EndsBy, EndsFor, EndsWith, IsEndStatus, RunsFiles, Untouched, RunsFolder, RunsSaid, RunsWords, nothing_held}
use Rattle.clone_server.proofs.Written.{leaves_all}
use Rattle.clone_server.proofs.Standing.{stands_first}

-- memory ran out before the line was written
pub closes_before : (line : List ℕ) (status : ℕ) (before : List ℕ) (written : Option (List ℕ)) → written ≡ Some before → Closes line status before (Err stop.Memory) written
closes_before line status before written e = (line, leaves_all before line written e)

module _ (A : Answering) (dir : List ℕ) (files : List FileText) (held : Held) (script before : List ℕ) where
  pub files_stop : (e : Stop) (now : List FileText) (after : Option Held) (written left : Option (List ℕ)) →
      Runs A dir (record { files = files; held = held }) script before (Err e) now after written left → RunsFiles A dir (record { files = files; held = held }) script before (Err e) after written left
  files_stop stop.Folder now after written left r = r
  files_stop stop.Script now after written left r = r
  files_stop stop.Save now after written left r = (now, r)
  files_stop stop.Sink now after written left r = inl (now, r)
  files_stop stop.Memory now after written left r = elim r [ inl w ↦ inl (now, w) | inr b ↦ inr (inl b) ]

  -- memory ran out before the first command
  pub files_first : (after : Option Held) (written left : Option (List ℕ)) → after ≡ Some held → written ≡ Some before → left ≡ Some script →
      RunsFiles A dir (record { files = files; held = held }) script before (Err stop.Memory) after written left
  files_first after written left eh ew el =
      let s = stands_first A dir files held script before after written left eh ew el in
      inr (inl ([], left, record { bytes = s.bytes; now = record { files = files; held = s.held }; reached = s.reached; held = s.held_is; written_is = s.written_is; left_is = s.left_is }))

  pub files_end : (end : End) (r : Result ℕ Stop) (after : Option Held) (written0 written left : Option (List ℕ)) →
      (a : AtEnd A dir (record { files = files; held = held }) script before (outcome_of end) after written0) →
      Closes (outcome_text (outcome_of end)) (outcome_status (outcome_of end)) (before ++ a.bytes) r written →
      RunsFiles A dir (record { files = files; held = held }) script before r after written left
  files_end end (Ok n) after written0 written left a c = (
    outcome_of end,
    a.bytes ++ outcome_text (outcome_of end),
    a.now,
    record { commands = a.commands; rest = a.rest; replies = a.bytes; follow = a.follow; ends = a.ends; answered = a.answered; whole = refl },
    c.0,
    c.1 ∙ ap Some (append_assoc before a.bytes (outcome_text (outcome_of end))),
    a.held,
  )
  files_end end (Err stop.Sink) after written0 written left a c = inr (record { outcome = outcome_of end; some = written0; end = a; stops = c })
  files_end end (Err stop.Memory) after written0 written left a c = inr (inr (record { outcome = outcome_of end; some = written0; end = a; stops = c }))
  files_end end (Err stop.Folder) after written0 written left a c = absurd c
  files_end end (Err stop.Script) after written0 written left a c = absurd c
  files_end end (Err stop.Save) after written0 written left a c = absurd c

  pub folder_files : (r : Result ℕ Stop) (after : Option Held) (written left : Option (List ℕ)) → RunsFiles A dir (record { files = files; held = held }) script before r after written left →
      RunsFolder A dir (Ok files) held script before r after written left
  folder_files (Ok n) after written left h = h
  folder_files (Err stop.Folder) after written left h = absurd h
  folder_files (Err stop.Script) after written left h = h
  folder_files (Err stop.Sink) after written left h = h
  folder_files (Err stop.Save) after written left h = h
  folder_files (Err stop.Memory) after written left h = h

pub folder_failed : (A : Answering) (dir : List ℕ) (x : Result (List FileText) OpenError) (held : Held) (script before : List ℕ) (after : Option Held) (written left : Option (List ℕ)) →
    Untouched held script before after written left → RunsFolder A dir x held script before (Err stop.Folder) after written left
folder_failed A dir (Ok files) held script before after written left u = u
folder_failed A dir (Err e) held script before after written left u = u

pub folder_memory : (A : Answering) (dir : List ℕ) (x : Result (List FileText) OpenError) (held : Held) (script before : List ℕ) (after : Option Held) (written left : Option (List ℕ)) →
    Untouched held script before after written left → RunsFolder A dir x held script before (Err stop.Memory) after written left
folder_memory A dir (Ok files) held script before after written left u = files_first A dir files held script before after written left u.0 u.1 u.2
folder_memory A dir (Err e) held script before after written left u = u

said_memory : (A : Answering) (said : Said) (make : Option ℕ) (held : Held) (script before : List ℕ) (after : Option Held) (written left : Option (List ℕ)) →
    Untouched held script before after written left → RunsSaid A said make held script before (Err stop.Memory) after written left
said_memory A said None held script before after written left u = folder_memory A said.dir (opened (held said.dir)) held script before after written left u
said_memory A said (Some seed) held script before after written left u =
    (Some nothing_held, Some made_script, files_first A [] (made seed) nothing_held made_script before (Some nothing_held) written (Some made_script) refl u.1 refl, u.0, u.2)

pub words_memory : (A : Settings → Answering) (x : Result Said WordsError) (held : Held) (script before : List ℕ) (after : Option Held) (written left : Option (List ℕ)) →
    Untouched held script before after written left → RunsWords A x held script before (Err stop.Memory) after written left
words_memory A (Ok said) held script before after written left u = said_memory (A (record { min = said.min; mass = said.mass })) said said.make held script before after written left u
words_memory A (Err e) held script before after written left u = (closes_before usage 2 before written u.1, u.0, u.2)

-- ---- statuses

pub status_ends : (o : Outcome) (r : Result ℕ Stop) → IfOk r (λ n. n ≡ outcome_status o) → IfOk r IsEndStatus
status_ends done (Ok n) h = inl h
status_ends (bad_at offset) (Ok n) h = inr (inl h)
status_ends long (Ok n) h = inr (inr h)
status_ends o (Err e) h = tt

pub ends_folder : (r : Result ℕ Stop) → IfOk r IsEndStatus → EndsFor None r
ends_folder (Ok n) h = h
ends_folder (Err e) h = tt

pub ends_untaken : (e : WordsError) (r : Result ℕ Stop) (k j : ℕ) → IfOk r (λ n. n ≡ 2) → CountsEnd r k j → EndsBy (Err e) r
ends_untaken e (Ok n) k j h c = h
ends_untaken e (Err stop.Sink) k j h c = tt
ends_untaken e (Err stop.Memory) k j h c = tt
ends_untaken e (Err stop.Folder) k j h c = c
ends_untaken e (Err stop.Script) k j h c = c
ends_untaken e (Err stop.Save) k j h c = c

memory_for : (make : Option ℕ) → EndsFor make (Err stop.Memory)
memory_for None = tt
memory_for (Some seed) = tt

pub ends_memory : (x : Result Said WordsError) → EndsBy x (Err stop.Memory)
ends_memory (Ok said) = memory_for said.make
ends_memory (Err e) = tt
