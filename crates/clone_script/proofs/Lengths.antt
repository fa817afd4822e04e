-- How many bytes are read of the line of `extract`.
use Rattle.std.proofs.Common.{◌≡◌, ℕ, ◌+◌, ◌-◌, List, ◌∷◌, ◌++◌, length, Ok, ap, arith}
use Rattle.std.proofs.lemmas.List.{length-append}
use Rattle.std.specs.Fmt.{decimal}
use Rattle.clone_script.specs.Reading.{number_at, name_at}
use Rattle.clone_script.specs.Members.{most_number, blank}
use Rattle.clone_script.specs.Commands.{most_line, room_behind}
use Rattle.clone_script.proofs.Numbers.{at_found as number_found}
use Rattle.clone_script.proofs.Names.{at_found as name_found}

pub room_is : (bytes behind_class behind_name name : List ℕ) (class : ℕ) → number_at most_number blank bytes ≡ Ok (class, behind_class) → name_at blank behind_class ≡ Ok (name, behind_name) → most_line - (8 + (length bytes - length behind_name)) ≡ room_behind class name
room_is bytes behind_class behind_name name class first second =
    let n = number_found most_number blank bytes behind_class class (omega arith) first in
    let m = name_found blank behind_class behind_name name second in
    let all = length-append (decimal class) (blank ∷ behind_class) in
    let part = length-append name (blank ∷ behind_name) in
    omega (arith, ap length n.1, all, ap length m.1, part)
