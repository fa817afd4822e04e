-- The replies to commands, as bytes.
use Rattle.std.specs.Prelude.{ℕ, List, ◌++◌, length, codes, Option, Some, None}
use Rattle.std.specs.Fmt.{decimal}
use Rattle.go_base.specs.declared.fault.Fault.{Fault}
use Rattle.go_base.specs.declared.span.Span.{Span}
use Rattle.go_base.specs.Fault.{code_number, code_word}
use Rattle.clone_script.specs.declared.reply.EditKind.{EditKind}
use Rattle.clone_script.specs.declared.reply.EditKind.TheVariants as kinds
use Rattle.clone_script.specs.declared.reply.EditAnswer.{EditAnswer}
use Rattle.clone_script.specs.declared.reply.EditAnswer.TheVariants as answers

abbrev pub kind_word : EditKind → List ℕ
kind_word kinds.Edit = codes "edit"
kind_word kinds.Add = codes "add"
kind_word kinds.Drop = codes "drop"

-- behind the word of the command: the code and the word of a refusal
abbrev pub edit_reply : List ℕ → EditAnswer → List ℕ
edit_reply word answers.Done = codes "ok " ++ word ++ codes "\n"
edit_reply word answers.NoFile = codes "no " ++ word ++ codes " 1 NoFile\n"
edit_reply word answers.Range = codes "no " ++ word ++ codes " 2 Range\n"
edit_reply word answers.Limit = codes "no " ++ word ++ codes " 3 Limit\n"
edit_reply word answers.BadName = codes "no " ++ word ++ codes " 5 BadName\n"
edit_reply word answers.Held = codes "no " ++ word ++ codes " 6 Held\n"

-- FILE:START-END
abbrev pub place : List ℕ → Span → List ℕ
place file span = file ++ codes ":" ++ decimal span.start ++ codes "-" ++ decimal span.end

abbrev pub fault_reply : List ℕ → Fault → List ℕ
fault_reply file fault = codes "fault " ++ decimal (code_number fault.code) ++ codes " " ++ code_word fault.code ++ codes " " ++ place file fault.span ++ codes "\n"

abbrev pub stat_reply : ℕ → ℕ → ℕ → ℕ → ℕ → ℕ → List ℕ
stat_reply files bytes functions windows hashes classes =
    codes "stat files " ++ decimal files ++ codes " bytes " ++ decimal bytes ++ codes " functions " ++ decimal functions
    ++ codes " windows " ++ decimal windows ++ codes " hashes " ++ decimal hashes ++ codes " classes " ++ decimal classes ++ codes "\n"

-- how many bytes there are, and the bytes, each with a newline behind it
abbrev pub counted : List ℕ → List ℕ
counted bytes = decimal (length bytes) ++ codes "\n" ++ bytes ++ codes "\n"

-- the bytes of the file, if its name is held
abbrev pub show_reply : Option (List ℕ) → List ℕ
show_reply None = codes "no show 1 NoFile\n"
show_reply (Some bytes) = codes "show " ++ counted bytes

-- how many files are held
abbrev pub save_reply : ℕ → List ℕ
save_reply files = codes "ok save " ++ decimal files ++ codes "\n"

abbrev pub bad_reply : ℕ → List ℕ
bad_reply offset = codes "bad " ++ decimal offset ++ codes "\n"
