-- Which members `extract` takes, read from the front: `all`, or numbers. The numbers are one or more, one blank stands between two, and a
-- newline ends them. All of them have so many bytes at most, with the newline.
use Rattle.std.specs.Prelude.{ℕ, ◌-◌, nat_lt, ◌==◌, List, [], ◌∷◌, codes, Option, Some, None, Ok, Err, if◌then◌else◌}
use Rattle.go_base.specs.Gives.{◌>>=◌}
use Rattle.clone_script.specs.declared.choice.Choice.{Choice}
use Rattle.clone_script.specs.declared.choice.Choice.TheVariants as choice
use Rattle.clone_script.specs.Reading.{bad, more, Read, or_bad, or_else, literal_at, with_digit, next_number}

-- the greatest number
abbrev pub most_number : ℕ
most_number = 4294967295

abbrev pub blank : ℕ
blank = 32

abbrev pub newline : ℕ
newline = 10

-- how many bytes follow at least: a newline behind the digits of a number, and a digit and a newline elsewhere
abbrev pub least_room : Option ℕ → ℕ
least_room None = 2
least_room (Some n) = 1

-- the rest of the numbers, where the digits of the first one, as far as they are read, write this number
unfoldable pub numbers_from : ℕ → Option ℕ → List ℕ → Read (List ℕ)
numbers_from room number [] = if nat_lt room (least_room number) then Err bad else Err more
numbers_from room None (b ∷ bs) = if nat_lt room 2 then Err bad else or_bad (with_digit most_number 0 b) (λ n. numbers_from (room - 1) (Some n) bs)
numbers_from room (Some n) (b ∷ bs) =
    if nat_lt room 1 then Err bad
    else (if b == newline then Ok (n ∷ [], bs)
    else (if b == blank then (numbers_from (room - 1) None bs >>= λ x. Ok (n ∷ x.0, x.1))
    else or_bad (next_number most_number n b) (λ m. numbers_from (room - 1) (Some m) bs)))

abbrev pub numbers_at : ℕ → List ℕ → Read (List ℕ)
numbers_at room bytes = numbers_from room None bytes

unfoldable pub choice_at : ℕ → List ℕ → Read Choice
choice_at room bytes = or_else (literal_at (codes "all\n") bytes >>= λ x. Ok (choice.All, x.1)) (numbers_at room bytes >>= λ x. Ok (choice.Members x.0, x.1))
