-- A session: what the commands of a script get, one after the other, and what they leave.
use Rattle.std.specs.Prelude.{◌≡◌, ℕ, Bool, true, false, List, [], ◌∷◌, ◌++◌, length, take, nat_lt}
use Rattle.go_base.specs.declared.bytes.FileText.{FileText}
use Rattle.port_io.specs.Held.{Held, with_file}
use Rattle.clone_script.specs.declared.command.Command.{Command}
use Rattle.clone_script.specs.declared.command.Command.TheVariants as command
use Rattle.clone_script.specs.Script.{most_script, Outcome, done, bad_at, long, Follow, Ends}
use Rattle.clone_script.specs.Replies.{save_reply, bad_reply}

-- the least statements and the least mass of a window
pub record Settings : Type 0 where
  pub min : ℕ
  pub mass : ℕ

-- at these files a command gets this reply, and leaves these files
abbrev pub Answering : Type 1
Answering = List FileText → Command → List ℕ → List FileText → Type 0

-- the present files, and what the folders hold
pub record State : Type 0 where
  pub files : List FileText
  pub held : Held

abbrev pub is_save : Command → Bool
is_save (command.Edit name start end text) = false
is_save (command.Add name text) = false
is_save (command.Remove name) = false
is_save command.Classes = false
is_save command.Maximal = false
is_save command.Stat = false
is_save (command.Extract class name choice) = false
is_save (command.Run turns input) = false
is_save (command.Show name) = false
is_save command.Save = true
is_save command.Quit = false

-- the folders after files were put into one of them, one after the other
abbrev pub with_files : Held → List ℕ → List FileText → Held
with_files held dir [] = held
with_files held dir (f ∷ fs) = with_files (with_file held dir f.name f.bytes) dir fs

-- `save` puts all present files into the folder; every other command is answered at the present files and leaves the folder as it is.
abbrev pub StepBy : Bool → Answering → List ℕ → State → Command → List ℕ → State → Type 0
StepBy true A dir s c reply t = (t.files ≡ s.files) × (t.held ≡ with_files s.held dir s.files) × (reply ≡ save_reply (length s.files))
StepBy false A dir s c reply t = A s.files c reply t.files × (t.held ≡ s.held)

-- at this state a command gets this reply, and leaves that state
abbrev pub Step : Answering → List ℕ → State → Command → List ℕ → State → Type 0
Step A dir s c reply t = StepBy (is_save c) A dir s c reply t

-- the replies to commands, one after the other, and the state that they leave
abbrev pub Replies : Answering → List ℕ → State → List Command → List ℕ → State → Type 0
Replies A dir s [] bytes t = (bytes ≡ []) × (t ≡ s)
Replies A dir s (c ∷ cs) bytes t = (reply : List ℕ) × (rest : List ℕ) × (next : State) × Step A dir s c reply next × Replies A dir next cs rest t × (bytes ≡ reply ++ rest)

-- the status and the last bytes by the script's outcome
abbrev pub outcome_status : Outcome → ℕ
outcome_status done = 0
outcome_status (bad_at offset) = 3
outcome_status long = 9

abbrev pub outcome_text : Outcome → List ℕ
outcome_text done = []
outcome_text (bad_at offset) = bad_reply offset
outcome_text long = []

-- The session of a script that begins at this state: how the script ends, the bytes that are due, and the state that it leaves.
pub record IsSession (A : Answering) (dir : List ℕ) (start : State) (script : List ℕ) (o : Outcome) (due : List ℕ) (end : State) : Type 0 where
  pub commands : List Command
  pub rest : List ℕ
  pub replies : List ℕ
  pub follow : Follow commands (take most_script script) rest
  pub ends : Ends (nat_lt most_script (length script)) (length (take most_script script)) rest o
  pub answered : Replies A dir start commands replies end
  pub whole : due ≡ replies ++ outcome_text o
