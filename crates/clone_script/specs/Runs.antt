-- The reply to `run`, as bytes.
use Rattle.std.specs.Prelude.{ℕ, List, ◌++◌, codes}
use Rattle.clone_script.specs.declared.run.PanicCause.{PanicCause}
use Rattle.clone_script.specs.declared.run.PanicCause.TheVariants as causes
use Rattle.clone_script.specs.declared.run.RunEnd.{RunEnd}
use Rattle.clone_script.specs.declared.run.RunEnd.TheVariants as ends
use Rattle.clone_script.specs.declared.run.RunAnswer.{RunAnswer}
use Rattle.clone_script.specs.declared.run.RunAnswer.TheVariants as answers
use Rattle.clone_script.specs.Replies.{counted}

abbrev pub cause_word : PanicCause → List ℕ
cause_word causes.Divide = codes "divide"
cause_word causes.Shift = codes "shift"
cause_word causes.Index = codes "index"
cause_word causes.Slice = codes "slice"
cause_word causes.NilCall = codes "nilcall"
cause_word causes.Make = codes "make"
cause_word causes.User = codes "user"

abbrev pub end_words : RunEnd → List ℕ
end_words ends.Ended = codes "ended "
end_words (ends.Panicked cause) = codes "panicked " ++ cause_word cause ++ codes " "
end_words ends.Undecided = codes "undecided "

abbrev pub run_reply : RunAnswer → List ℕ
run_reply (answers.Ran end output) = end_words end ++ counted output.now
run_reply answers.NoMain = codes "no run 1 NoMain\n"
