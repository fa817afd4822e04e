-- Files that are written anew in one pass each, from their start: what is read of each, and what stands for it.
use Rattle.std.specs.Prelude.{ℕ, ◌<◌, ◌≤◌, List, [], ◌∷◌, ◌++◌, length, drop, slice_index_or}
use Rattle.std.specs.List.{slice_range}
use Rattle.go_base.specs.declared.bytes.FileText.{FileText}
use Rattle.edit_apply.specs.declared.edits.Edit.{Edit}
use Rattle.edit_apply.specs.Edited.{file_of}

-- the bytes before `read` are done, and `written` stands for them
pub record Progress : Type 0 where
  pub read : ℕ
  pub written : List ℕ

abbrev pub start : Progress
start = record { read = 0; written = [] }

-- up to an edit the bytes are kept, and then its text comes
abbrev pub written_to : List ℕ → Progress → Edit → Progress
written_to bytes p e = record { read = e.end; written = p.written ++ slice_range bytes p.read e.start ++ e.text }

-- the bytes that aren't read are kept
abbrev pub finished_bytes : List ℕ → Progress → List ℕ
finished_bytes bytes p = p.written ++ drop p.read bytes

-- the files, each by its own progress
abbrev pub finished : List FileText → List Progress → List FileText
finished [] ps = []
finished (f ∷ fs) [] = []
finished (f ∷ fs) (p ∷ ps) = file_of f.name (finished_bytes f.bytes p) ∷ finished fs ps

-- What is read of each file lies in it.
abbrev pub AreRead : List FileText → List Progress → Type 0
AreRead files ps = (k : ℕ) (f : FileText) (p : Progress) → k < length files → (slice_index_or ps k p).read ≤ length (slice_index_or files k f).bytes
