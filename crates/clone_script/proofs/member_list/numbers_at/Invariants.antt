use Rattle.std.proofs.Common.{◌≡◌, ℕ, List, ◌++◌, None, Ok, length}
use Rattle.go_base.specs.Gives.{◌>>=◌}
use Rattle.clone_script.specs.Reading.{Read}
use Rattle.clone_script.specs.Members.{numbers_from}
use Rattle.clone_script.proofs.member_list.numbers_at.Given as goal

-- with these numbers in front
abbrev pub behind_numbers : List ℕ → Read (List ℕ) → Read (List ℕ)
behind_numbers ns read = read >>= λ x. Ok (ns ++ x.0, x.1)

abbrev pub invariant-loop-left : goal.invariant-loop-left
invariant-loop-left l = behind_numbers l.numbers.items (numbers_from l.left l.number l.rest) ≡ numbers_from l.fn.room None l.fn.bytes

abbrev pub decreases-loop-left : goal.decreases-loop-left
decreases-loop-left l = length l.rest
