-- The run of a package over the types themselves.
use Rattle.std.specs.Prelude.{ℕ, suc, if◌then◌else◌, List, [], ◌∷◌, map, Option, Some, None, Result, Ok, Err, slice_get}
use Rattle.go_tokens.specs.Tokens.{TokenList}
use Rattle.go_tree.specs.declared.object.Declared.{Declared}
use Rattle.go_tree.specs.File.{FileTree}
use Rattle.go_tree.specs.Units.{word}
use Rattle.go_tree.specs.Uses.{UsesView, functions_among}
use Rattle.go_typed.specs.Contents.{Content}
use Rattle.go_meaning.specs.Meaning.{Run, run}
use Rattle.go_eval.specs.declared.outcome.RunError.{RunError}
use Rattle.go_eval.specs.declared.outcome.RunError.TheVariants as errors
use Rattle.go_eval.specs.Entry.{is_main_name}
use Rattle.go_eval.specs.Runs.{depth}
use Rattle.clone_replies.specs.RunContents.{program_in}

-- ---- the function `main` of the package `main` (Go specification, "Program execution")

abbrev pub tokens_of : List FileTree → List TokenList
tokens_of files = map (λ f. f.tokens) files

-- the bytes of a token; none where there is no such file or token
abbrev pub word_in : Option TokenList → ℕ → List ℕ
word_in None t = []
word_in (Some ts) t = word ts t

abbrev pub word_at : List TokenList → ℕ → ℕ → List ℕ
word_at files n t = word_in (slice_get files n) t

-- the number of the first of these functions that is named so, where they are numbered from n on
abbrev pub main_among : List TokenList → ℕ → List Declared → Option ℕ
main_among files n [] = None
main_among files n (d ∷ ds) = if is_main_name (word_at files d.file d.name) then Some n else main_among files (suc n) ds

-- the number of the function `main`, if the package is named so in its first file and has one
abbrev pub main_of : List TokenList → UsesView → Option ℕ
main_of files u = if is_main_name (word_at files 0 1) then main_among files 0 (functions_among u.package_level) else None

-- ---- the run

abbrev pub run_from : Content → List ℕ → ℕ → Option ℕ → Result Run RunError
run_from c input turns (Some main) = Ok (run (program_in c main) input turns depth)
run_from c input turns None = Err errors.NoMain

-- the run with this input and so many turns, where there is a function to run
abbrev pub run_in : Content → List ℕ → ℕ → Result Run RunError
run_in c input turns = run_from c input turns (main_of (tokens_of c.files) c.uses)
