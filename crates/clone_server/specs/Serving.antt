-- Where a run stands, and where it stops.
use Rattle.std.specs.Prelude.{◌≡◌, ℕ, ◌<◌, ◌≤◌, ◌⊎◌, Bool, true, false, List, ◌∷◌, ◌++◌, length, take, nat_lt, Option, Some, Result, Ok, Err}
use Rattle.go_base.specs.declared.bytes.FileText.{FileText}
use Rattle.port_io.specs.declared.folder.FolderError.{FolderError}
use Rattle.port_io.specs.declared.folder.FolderError.TheVariants as folder
use Rattle.port_io.specs.declared.sink.SinkError.{SinkError}
use Rattle.port_io.specs.declared.sink.SinkError.TheVariants as sink
use Rattle.port_io.specs.Faults.{Rose}
use Rattle.port_io.specs.Held.{Held, KeepsOthers}
use Rattle.clone_script.specs.declared.command.Command.{Command}
use Rattle.clone_script.specs.declared.command.Command.TheVariants as command
use Rattle.clone_script.specs.Grammar.{BeginsWith, IsBeginning}
use Rattle.clone_script.specs.Script.{most_script, Outcome, Follow, Ends}
use Rattle.clone_server.specs.declared.step.End.{End}
use Rattle.clone_server.specs.Taking.{outcome_of}
use Rattle.clone_server.specs.declared.step.IntakeError.{IntakeError}
use Rattle.clone_server.specs.declared.step.IntakeError.TheVariants as intake
use Rattle.go_base.specs.declared.bytes.Bytes.{Bytes}
use Rattle.clone_server.specs.declared.stop.Stop.{Stop}
use Rattle.clone_server.specs.declared.stop.Stop.TheVariants as stop
use Rattle.clone_server.specs.Session.{Answering, State, is_save, with_files, Step, Replies}

-- the status of a run that stops
abbrev pub status_of : Stop → ℕ
status_of stop.Folder = 4
status_of stop.Script = 5
status_of stop.Sink = 6
status_of stop.Save = 7
status_of stop.Memory = 8

-- why a run stops, from what a write of the folder or the sink answered
abbrev pub save_stop : FolderError → Stop
save_stop folder.Failed = stop.Save
save_stop folder.Memory = stop.Memory

abbrev pub intake_stop : IntakeError → Stop
intake_stop intake.Failed = stop.Script
intake_stop intake.Memory = stop.Memory

abbrev pub sink_stop : SinkError → Stop
sink_stop sink.Failed = stop.Sink
sink_stop sink.Memory = stop.Memory

-- Behind what was there stands a front of the bytes, and these are left.
pub record LeavesBytes (before bytes left : List ℕ) (after : Option (List ℕ)) : Type 0 where
  pub front : List ℕ
  pub told : after ≡ Some (before ++ front)
  pub whole : front ++ left ≡ bytes

-- What was written of some bytes: all of them behind what was there, or, where the write stopped, a front of them that is not all.
abbrev pub WritesAll : {E : Type 0} → Result (Unit {0}) E → List ℕ → List ℕ → Option (List ℕ) → Type 0
WritesAll (Ok x) before bytes after = after ≡ Some (before ++ bytes)
WritesAll (Err e) before bytes after = (left : List ℕ) × (0 < length left) × LeavesBytes before bytes left after

-- What became of files that are put into a folder: all were, or some first ones. Where a write failed, the next one's name may hold anything.
abbrev pub Saves : Result (Unit {0}) FolderError → Held → List ℕ → List FileText → Option Held → Type 0
Saves (Ok x) held dir files after = after ≡ Some (with_files held dir files)
Saves (Err folder.Failed) held dir files after =
    (first : List FileText) × (f : FileText) × (others : List FileText) × (files ≡ first ++ f ∷ others) × (torn : Held) × (after ≡ Some torn) × KeepsOthers (with_files held dir first) torn dir f.name
Saves (Err folder.Memory) held dir files after = (first : List FileText) × (others : List FileText) × (files ≡ first ++ others) × (after ≡ Some (with_files held dir first))

-- ---- counts of faults

-- A command that was done, or where it stopped: the folder's writing count rose exactly where a file of a `save` was not written.
abbrev pub CountsSave : {X : Type 0} → Result X Stop → ℕ → ℕ → Type 0
CountsSave (Ok x) w v = v ≡ w
CountsSave (Err stop.Save) w v = Rose w v
CountsSave (Err stop.Memory) w v = v ≡ w
CountsSave (Err stop.Folder) w v = ⊥
CountsSave (Err stop.Script) w v = ⊥
CountsSave (Err stop.Sink) w v = ⊥

-- the same with the sink's count
abbrev pub CountsCommand : {X : Type 0} → Result X Stop → ℕ → ℕ → ℕ → ℕ → Type 0
CountsCommand (Ok x) w v k j = (v ≡ w) × (j ≡ k)
CountsCommand (Err stop.Save) w v k j = Rose w v × (j ≡ k)
CountsCommand (Err stop.Sink) w v k j = (v ≡ w) × Rose k j
CountsCommand (Err stop.Memory) w v k j = (v ≡ w) × (j ≡ k)
CountsCommand (Err stop.Folder) w v k j = ⊥
CountsCommand (Err stop.Script) w v k j = ⊥

-- ---- one command

-- a `save` of which one file was not written: those before it are, and its name may hold anything
abbrev pub Torn : List ℕ → State → Option Held → Type 0
Torn dir s after = Saves (Err folder.Failed) s.held dir s.files after

-- some first files of a `save` are written, or none
abbrev pub Partly : Bool → List ℕ → State → Option Held → Type 0
Partly true dir s after = Saves (Err folder.Memory) s.held dir s.files after ⊎ (after ≡ Some (with_files s.held dir s.files))
Partly false dir s after = after ≡ Some s.held

-- What a command gave: its reply, and the state that it leaves; or where it stopped.
abbrev pub Gives : Answering → List ℕ → State → Command → Result Bytes Stop → List FileText → Option Held → Type 0
Gives A dir s c (Ok reply) files after = (held : Held) × (after ≡ Some held) × Step A dir s c reply (record { files = files; held = held })
Gives A dir s c (Err stop.Save) files after = (is_save c ≡ true) × Torn dir s after
Gives A dir s c (Err stop.Memory) files after = Partly (is_save c) dir s after
Gives A dir s c (Err stop.Folder) files after = ⊥
Gives A dir s c (Err stop.Script) files after = ⊥
Gives A dir s c (Err stop.Sink) files after = ⊥

-- a front of a command's reply is written, and not all of it
pub record Cut (A : Answering) (dir : List ℕ) (s : State) (c : Command) (before : List ℕ) (after : Option Held) (written : Option (List ℕ)) : Type 0 where
  pub reply : List ℕ
  pub next : State
  pub step : Step A dir s c reply next
  pub held : after ≡ Some next.held
  pub left : List ℕ
  pub some : 0 < length left
  pub leaves : LeavesBytes before reply left written

-- What serving a command did: its whole reply is written; or where it stopped.
abbrev pub Serves : Answering → List ℕ → State → Command → List ℕ → Result (Unit {0}) Stop → List FileText → Option Held → Option (List ℕ) → Type 0
Serves A dir s c before (Ok x) files after written =
    (reply : List ℕ) × (held : Held) × (after ≡ Some held) × Step A dir s c reply (record { files = files; held = held }) × (written ≡ Some (before ++ reply))
Serves A dir s c before (Err stop.Save) files after written = (is_save c ≡ true) × Torn dir s after × (written ≡ Some before)
Serves A dir s c before (Err stop.Sink) files after written = Cut A dir s c before after written
Serves A dir s c before (Err stop.Memory) files after written = (Partly (is_save c) dir s after × (written ≡ Some before)) ⊎ Cut A dir s c before after written
Serves A dir s c before (Err stop.Folder) files after written = ⊥
Serves A dir s c before (Err stop.Script) files after written = ⊥

-- ---- a script

-- Commands that stand one after the other in what was taken of the script were answered. This is pending behind them.
pub record Reached (A : Answering) (dir : List ℕ) (start : State) (script pending bytes : List ℕ) (now : State) : Type 0 where
  pub commands : List Command
  pub taken : List ℕ
  pub rest : List ℕ
  pub whole : script ≡ taken ++ rest
  pub few : length taken ≤ most_script
  pub follow : Follow commands taken pending
  pub answered : Replies A dir start commands bytes now

-- Between two commands: the replies of the commands so far are written, and the folder is as they leave it.
pub record Between (A : Answering) (dir : List ℕ) (start : State) (script before pending : List ℕ) (after : Option Held) (written left : Option (List ℕ)) : Type 0 where
  pub bytes : List ℕ
  pub now : State
  pub reached : Reached A dir start script pending bytes now
  pub held : after ≡ Some now.held
  pub written_is : written ≡ Some (before ++ bytes)
  pub left_is : left ≡ Some reached.rest

-- Within the next command, which isn't `quit`: it stopped there.
pub record Within (A : Answering) (dir : List ℕ) (start : State) (script before : List ℕ) (e : Stop) (files : List FileText) (after : Option Held) (written : Option (List ℕ)) : Type 0 where
  pub pending : List ℕ
  pub bytes : List ℕ
  pub now : State
  pub reached : Reached A dir start script pending bytes now
  pub next : Command
  pub others : List ℕ
  pub goes_on : next ≡ command.Quit → ⊥
  pub begins : BeginsWith pending next others
  pub stops : Serves A dir now next (before ++ bytes) (Err e) files after written

-- The script's end: all commands up to it were answered.
pub record AtEnd (A : Answering) (dir : List ℕ) (start : State) (script before : List ℕ) (o : Outcome) (after : Option Held) (written : Option (List ℕ)) : Type 0 where
  pub commands : List Command
  pub rest : List ℕ
  pub bytes : List ℕ
  pub now : State
  pub follow : Follow commands (take most_script script) rest
  pub ends : Ends (nat_lt most_script (length script)) (length (take most_script script)) rest o
  pub answered : Replies A dir start commands bytes now
  pub held : after ≡ Some now.held
  pub written_is : written ≡ Some (before ++ bytes)

-- What serving a script did, where all is told: it came to the script's end, or stopped. A read of the script fails only
-- where nothing, or the beginning of a command, is pending.
abbrev pub Runs : Answering → List ℕ → State → List ℕ → List ℕ → Result End Stop → List FileText → Option Held → Option (List ℕ) → Option (List ℕ) → Type 0
Runs A dir start script before (Ok end) files after written left = AtEnd A dir start script before (outcome_of end) after written
Runs A dir start script before (Err stop.Script) files after written left = (pending : List ℕ) × IsBeginning pending × Between A dir start script before pending after written left
Runs A dir start script before (Err stop.Save) files after written left = Within A dir start script before stop.Save files after written
Runs A dir start script before (Err stop.Sink) files after written left = Within A dir start script before stop.Sink files after written
Runs A dir start script before (Err stop.Memory) files after written left =
    Within A dir start script before stop.Memory files after written ⊎ ((pending : List ℕ) × (some : Option (List ℕ)) × Between A dir start script before pending after written some)
Runs A dir start script before (Err stop.Folder) files after written left = ⊥

-- the counts of the folder's writes, of the script and of the sink: each rose exactly where the run stopped there
abbrev pub CountsRun : {X : Type 0} → Result X Stop → ℕ → ℕ → ℕ → ℕ → ℕ → ℕ → Type 0
CountsRun (Ok x) w v s r k j = (v ≡ w) × (r ≡ s) × (j ≡ k)
CountsRun (Err stop.Save) w v s r k j = Rose w v × (r ≡ s) × (j ≡ k)
CountsRun (Err stop.Script) w v s r k j = (v ≡ w) × Rose s r × (j ≡ k)
CountsRun (Err stop.Sink) w v s r k j = (v ≡ w) × (r ≡ s) × Rose k j
CountsRun (Err stop.Memory) w v s r k j = (v ≡ w) × (r ≡ s) × (j ≡ k)
CountsRun (Err stop.Folder) w v s r k j = ⊥
