-- Words of the worked command lines.
use Rattle.std.specs.Prelude.{◌≡◌, ℕ, List, Some, None, Result, Ok, Err}
use Rattle.clone_server.specs.declared.words.WordsError.{WordsError}
use Rattle.clone_server.specs.declared.words.WordsError.TheVariants as errors
use Rattle.clone_server.specs.Words.{Said, words_of}

abbrev Answer : Type 0
Answer = Result Said WordsError

-- the words say this
abbrev pub Says : List (List ℕ) → ℕ → ℕ → List ℕ → Type 0
Says texts min mass dir = let answer : Answer = Ok (record { min = min; mass = mass; make = None; dir = dir }) in words_of texts ≡ answer

-- they say to make a package from this number
abbrev pub Makes : List (List ℕ) → ℕ → List ℕ → Type 0
Makes texts seed dir = let answer : Answer = Ok (record { min = 2; mass = 8; make = Some seed; dir = dir }) in words_of texts ≡ answer

-- the words aren't taken
abbrev pub SaysNothing : List (List ℕ) → Type 0
SaysNothing texts = let answer : Answer = Err errors.NotTaken in words_of texts ≡ answer
