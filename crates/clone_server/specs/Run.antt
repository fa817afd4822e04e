-- A whole run: by the words, the folders and the script.
use Rattle.std.specs.Prelude.{◌≡◌, ℕ, ◌<◌, ◌⊎◌, List, [], ◌++◌, length, Option, Some, None, Result, Ok, Err}
use Rattle.std.specs.FinMap as finite
use Rattle.go_base.specs.declared.bytes.FileText.{FileText}
use Rattle.port_io.specs.Faults.{Rose}
use Rattle.port_io.specs.Held.{Held}
use Rattle.clone_script.specs.Grammar.{IsBeginning}
use Rattle.clone_script.specs.Script.{Outcome}
use Rattle.clone_server.specs.declared.words.WordsError.{WordsError}
use Rattle.clone_server.specs.Words.{Said, usage}
use Rattle.clone_server.specs.declared.folder.OpenError.{OpenError}
use Rattle.clone_server.specs.Opening.{opened}
use Rattle.clone_server.specs.Made.{made, made_script}
use Rattle.clone_server.specs.declared.stop.Stop.{Stop}
use Rattle.clone_server.specs.declared.stop.Stop.TheVariants as stop
use Rattle.clone_server.specs.Session.{Settings, Answering, State, outcome_status, outcome_text, IsSession}
use Rattle.clone_server.specs.Serving.{status_of, LeavesBytes, Between, Within, AtEnd}

-- the status of a run that ended so
abbrev pub status_in : Result ℕ Stop → ℕ
status_in (Ok status) = status
status_in (Err e) = status_of e

-- a status of a session that was served to its end, or of a folder that passes a limit
abbrev pub IsEndStatus : ℕ → Type 0
IsEndStatus n = (n ≡ 0) ⊎ (n ≡ 3) ⊎ (n ≡ 9)

-- A run that asks for nothing but the sink ends with this status, or stops at the sink or for want of memory.
abbrev pub EndsWith : ℕ → Result ℕ Stop → Type 0
EndsWith status (Ok n) = n ≡ status
EndsWith status (Err stop.Sink) = Unit {0}
EndsWith status (Err stop.Memory) = Unit {0}
EndsWith status (Err stop.Folder) = ⊥
EndsWith status (Err stop.Script) = ⊥
EndsWith status (Err stop.Save) = ⊥

-- Of a folder it has one of the statuses 0, 3 and 9, or stops at an object or for want of memory; of a package that is made from a number it
-- has the status 0, or stops at the sink or for want of memory.
abbrev pub EndsFor : Option ℕ → Result ℕ Stop → Type 0
EndsFor None (Ok n) = IsEndStatus n
EndsFor None (Err e) = Unit {0}
EndsFor (Some seed) r = EndsWith 0 r

-- The ends of a run, by what its words say: where they aren't taken it has the status 2, or stops at the sink or for want of memory.
abbrev pub EndsBy : Result Said WordsError → Result ℕ Stop → Type 0
EndsBy (Ok said) r = EndsFor said.make r
EndsBy (Err e) r = EndsWith 2 r

-- ---- counts of faults

-- the sink's count, where only the last bytes are written
abbrev pub CountsEnd : {X : Type 0} → Result X Stop → ℕ → ℕ → Type 0
CountsEnd (Ok x) k j = j ≡ k
CountsEnd (Err stop.Sink) k j = Rose k j
CountsEnd (Err stop.Memory) k j = j ≡ k
CountsEnd (Err stop.Folder) k j = ⊥
CountsEnd (Err stop.Script) k j = ⊥
CountsEnd (Err stop.Save) k j = ⊥

-- the counts of the folder's reads and writes, of the script and of the sink: each rose exactly where the run stopped there
abbrev pub CountsAll : {X : Type 0} → Result X Stop → ℕ → ℕ → ℕ → ℕ → ℕ → ℕ → ℕ → ℕ → Type 0
CountsAll (Ok x) f g w v s r k j = (g ≡ f) × (v ≡ w) × (r ≡ s) × (j ≡ k)
CountsAll (Err stop.Folder) f g w v s r k j = Rose f g × (v ≡ w) × (r ≡ s) × (j ≡ k)
CountsAll (Err stop.Script) f g w v s r k j = (g ≡ f) × (v ≡ w) × Rose s r × (j ≡ k)
CountsAll (Err stop.Sink) f g w v s r k j = (g ≡ f) × (v ≡ w) × (r ≡ s) × Rose k j
CountsAll (Err stop.Save) f g w v s r k j = (g ≡ f) × Rose w v × (r ≡ s) × (j ≡ k)
CountsAll (Err stop.Memory) f g w v s r k j = (g ≡ f) × (v ≡ w) × (r ≡ s) × (j ≡ k)

-- ---- the end

-- The last line was written, and the run has this status; or a front of the line was, and not all of it where the sink failed.
abbrev pub Closes : List ℕ → ℕ → List ℕ → Result ℕ Stop → Option (List ℕ) → Type 0
Closes line status before (Ok n) written = (n ≡ status) × (written ≡ Some (before ++ line))
Closes line status before (Err stop.Sink) written = (left : List ℕ) × (0 < length left) × LeavesBytes before line left written
Closes line status before (Err stop.Memory) written = (left : List ℕ) × LeavesBytes before line left written
Closes line status before (Err stop.Folder) written = ⊥
Closes line status before (Err stop.Script) written = ⊥
Closes line status before (Err stop.Save) written = ⊥

-- All commands up to the script's end were answered, and the run stopped in the last line.
pub record InLastLine (A : Answering) (dir : List ℕ) (start : State) (script before : List ℕ) (e : Stop) (after : Option Held) (written : Option (List ℕ)) : Type 0 where
  pub outcome : Outcome
  pub some : Option (List ℕ)
  pub end : AtEnd A dir start script before outcome after some
  pub stops : Closes (outcome_text outcome) (outcome_status outcome) (before ++ end.bytes) (Err e) written

-- the run is within a command
abbrev pub InCommand : Answering → List ℕ → State → List ℕ → List ℕ → Stop → Option Held → Option (List ℕ) → Type 0
InCommand A dir start script before e after written = (files : List FileText) × Within A dir start script before e files after written

-- The run of a session that begins at these files. Its status, the bytes and the folders are those of the session, or it stopped.
abbrev pub RunsFiles : Answering → List ℕ → State → List ℕ → List ℕ → Result ℕ Stop → Option Held → Option (List ℕ) → Option (List ℕ) → Type 0
RunsFiles A dir start script before (Ok n) after written left =
    (o : Outcome) × (due : List ℕ) × (end : State) × IsSession A dir start script o due end × (n ≡ outcome_status o) × (written ≡ Some (before ++ due)) × (after ≡ Some end.held)
RunsFiles A dir start script before (Err stop.Folder) after written left = ⊥
RunsFiles A dir start script before (Err stop.Script) after written left = (pending : List ℕ) × IsBeginning pending × Between A dir start script before pending after written left
RunsFiles A dir start script before (Err stop.Save) after written left = InCommand A dir start script before stop.Save after written
RunsFiles A dir start script before (Err stop.Sink) after written left = InCommand A dir start script before stop.Sink after written ⊎ InLastLine A dir start script before stop.Sink after written
RunsFiles A dir start script before (Err stop.Memory) after written left =
    InCommand A dir start script before stop.Memory after written
    ⊎ (((pending : List ℕ) × (some : Option (List ℕ)) × Between A dir start script before pending after written some)
    ⊎ InLastLine A dir start script before stop.Memory after written)

-- nothing was written, taken or changed
abbrev pub Untouched : Held → List ℕ → List ℕ → Option Held → Option (List ℕ) → Option (List ℕ) → Type 0
Untouched held script before after written left = (after ≡ Some held) × (written ≡ Some before) × (left ≡ Some script)

-- The run of a folder: of the session that begins at its files, or status 9 where they pass a limit. Where it wasn't read, nothing was done.
abbrev pub RunsFolder : Answering → List ℕ → Result (List FileText) OpenError → Held → List ℕ → List ℕ → Result ℕ Stop → Option Held → Option (List ℕ) → Option (List ℕ) → Type 0
RunsFolder A dir (Ok files) held script before (Ok n) after written left = RunsFiles A dir (record { files = files; held = held }) script before (Ok n) after written left
RunsFolder A dir (Ok files) held script before (Err stop.Folder) after written left = Untouched held script before after written left
RunsFolder A dir (Ok files) held script before (Err stop.Script) after written left = RunsFiles A dir (record { files = files; held = held }) script before (Err stop.Script) after written left
RunsFolder A dir (Ok files) held script before (Err stop.Sink) after written left = RunsFiles A dir (record { files = files; held = held }) script before (Err stop.Sink) after written left
RunsFolder A dir (Ok files) held script before (Err stop.Save) after written left = RunsFiles A dir (record { files = files; held = held }) script before (Err stop.Save) after written left
RunsFolder A dir (Ok files) held script before (Err stop.Memory) after written left = RunsFiles A dir (record { files = files; held = held }) script before (Err stop.Memory) after written left
RunsFolder A dir (Err e) held script before (Ok n) after written left = (n ≡ 9) × Untouched held script before after written left
RunsFolder A dir (Err e) held script before (Err stop.Folder) after written left = Untouched held script before after written left
RunsFolder A dir (Err e) held script before (Err stop.Script) after written left = ⊥
RunsFolder A dir (Err e) held script before (Err stop.Sink) after written left = ⊥
RunsFolder A dir (Err e) held script before (Err stop.Save) after written left = ⊥
RunsFolder A dir (Err e) held script before (Err stop.Memory) after written left = Untouched held script before after written left

-- folders without files
abbrev pub nothing_held : Held
nothing_held = λ dir. finite.empty

-- The run of a package that is made from a number: of the session that begins at it, with the script that stands for the given one, over
-- folders without files. The given folder and script are as they were.
abbrev pub RunsMade : Answering → ℕ → Held → List ℕ → List ℕ → Result ℕ Stop → Option Held → Option (List ℕ) → Option (List ℕ) → Type 0
RunsMade A seed held script before r after written left =
    (own : Option Held) × (rest : Option (List ℕ)) × RunsFiles A [] (record { files = made seed; held = nothing_held }) made_script before r own written rest
    × (after ≡ Some held) × (left ≡ Some script)

-- The run that words ask for which are taken: of the folder that they name, or of the package that is made from their number.
abbrev pub RunsSaid : Answering → Said → Option ℕ → Held → List ℕ → List ℕ → Result ℕ Stop → Option Held → Option (List ℕ) → Option (List ℕ) → Type 0
RunsSaid A said None held script before r after written left = RunsFolder A said.dir (opened (held said.dir)) held script before r after written left
RunsSaid A said (Some seed) held script before r after written left = RunsMade A seed held script before r after written left

-- The run of words: the usage line with status 2 where they aren't taken.
abbrev pub RunsWords : (Settings → Answering) → Result Said WordsError → Held → List ℕ → List ℕ → Result ℕ Stop → Option Held → Option (List ℕ) → Option (List ℕ) → Type 0
RunsWords A (Ok said) held script before r after written left = RunsSaid (A (record { min = said.min; mass = said.mass })) said said.make held script before r after written left
RunsWords A (Err e) held script before r after written left = Closes usage 2 before r written × (after ≡ Some held) × (left ≡ Some script)
