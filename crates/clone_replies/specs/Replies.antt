-- The reply to `run`, by what the run of a package is.
use Rattle.std.specs.Prelude.{ℕ, List, ◌++◌, Result, Ok, Err, codes}
use Rattle.go_meaning.specs.Computations.{Panic, Divide, Shift, Index, Slicing, NilCall, Make, User}
use Rattle.go_meaning.specs.Meaning.{Run, Ended, Panicked, Unfinished}
use Rattle.clone_script.specs.declared.run.PanicCause.{PanicCause}
use Rattle.clone_script.specs.declared.run.PanicCause.TheVariants as causes
use Rattle.clone_script.specs.declared.run.RunEnd.TheVariants as ends
use Rattle.clone_script.specs.Replies.{counted}
use Rattle.clone_script.specs.Runs.{end_words}
use Rattle.go_eval.specs.declared.outcome.RunError.{RunError}

abbrev pub cause_of : Panic → PanicCause
cause_of Divide = causes.Divide
cause_of Shift = causes.Shift
cause_of Index = causes.Index
cause_of Slicing = causes.Slice
cause_of NilCall = causes.NilCall
cause_of Make = causes.Make
cause_of User = causes.User

-- the end, then what was printed
abbrev pub ran_words : Run → List ℕ
ran_words (Ended output) = end_words ends.Ended ++ counted output
ran_words (Panicked panic output) = end_words (ends.Panicked (cause_of panic)) ++ counted output
ran_words (Unfinished output) = end_words ends.Undecided ++ counted output

-- A package that has no function to run has one reply.
abbrev pub run_words : Result Run RunError → List ℕ
run_words (Ok run) = ran_words run
run_words (Err e) = codes "no run 1 NoMain\n"
