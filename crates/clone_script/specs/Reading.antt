-- Reading from the front of a script: a value and the bytes behind it, or what is wrong with the bytes. They
-- are bad where they neither begin with such a value nor are the beginning of one, and more are wanted where they end within one.
use Rattle.std.specs.Prelude.{ℕ, zero, suc, ◌+◌, ◌*◌, ◌-◌, Bool, ◌&&◌, nat_lt, nat_le, ◌==◌, List, [], ◌∷◌, take, Option, Some, None, Result, Ok, Err, if◌then◌else◌}
use Rattle.go_base.specs.Gives.{◌>>=◌}
use Rattle.clone_script.specs.declared.error.ScriptError.{ScriptError}
use Rattle.clone_script.specs.declared.error.ScriptError.TheVariants as errors
use Rattle.clone_script.specs.declared.name.Character.{Character}

pub data Refusal : Type 0 where
  bad : Refusal
  more : Refusal

-- the refusal that an error names
abbrev pub script_refusal : ScriptError → Option Refusal
script_refusal errors.Bad = Some bad
script_refusal errors.Memory = None
script_refusal errors.More = Some more

abbrev pub Read : Type 0 → Type 0
Read A = Result (A × List ℕ) Refusal

-- goes on with a value, if there is one
abbrev pub or_bad : {A B : Type 0} → Option A → (A → Read B) → Read B
or_bad None f = Err bad
or_bad (Some x) f = f x

-- the second reading where the first one finds the bytes bad
abbrev pub or_else : {A : Type 0} → Read A → Read A → Read A
or_else (Ok x) other = Ok x
or_else (Err bad) other = other
or_else (Err more) other = Err more

-- these bytes
unfoldable pub literal_at : List ℕ → List ℕ → Read (Unit {0})
literal_at [] bytes = Ok (tt, bytes)
literal_at (w ∷ ws) [] = Err more
literal_at (w ∷ ws) (b ∷ bs) = if b == w then literal_at ws bs else Err bad

-- ---- numbers: `0`, or a digit from 1 to 9 followed by digits, and a byte that ends them

abbrev pub is_digit : ℕ → Bool
is_digit b = nat_le 48 b && nat_le b 57

-- the number with one more digit, if that is a digit and the number is within the limit
unfoldable pub with_digit : ℕ → ℕ → ℕ → Option ℕ
with_digit limit n b = if is_digit b && nat_le (n * 10 + (b - 48)) limit then Some (n * 10 + (b - 48)) else None

-- No digit follows a 0.
unfoldable pub next_number : ℕ → ℕ → ℕ → Option ℕ
next_number limit n b = if nat_lt 0 n then with_digit limit n b else None

-- the rest of a number, whose digits so far write n
unfoldable pub number_from : ℕ → ℕ → ℕ → List ℕ → Read ℕ
number_from limit end n [] = Err more
number_from limit end n (b ∷ bs) = if b == end then Ok (n, bs) else or_bad (next_number limit n b) (λ m. number_from limit end m bs)

unfoldable pub number_at : ℕ → ℕ → List ℕ → Read ℕ
number_at limit end [] = Err more
number_at limit end (b ∷ bs) = or_bad (with_digit limit 0 b) (λ m. number_from limit end m bs)

-- ---- names: 1 to 255 bytes of UTF-8, each above 32 and not 127, and a byte that ends them

-- how many bytes of a character are still to come, and between which the next one lies
abbrev pub whole : Character
whole = record { left = 0; low = 128; high = 191 }

abbrev pub lies_in : ℕ → ℕ → ℕ → Bool
lies_in low high b = nat_le low b && nat_le b high

-- a character's first byte (The Unicode Standard, table 3-7)
unfoldable pub first_byte : ℕ → Option Character
first_byte b =
    if lies_in 33 126 b then Some whole
    else (if lies_in 194 223 b then Some (record { left = 1; low = 128; high = 191 })
    else (if b == 224 then Some (record { left = 2; low = 160; high = 191 })
    else (if b == 237 then Some (record { left = 2; low = 128; high = 159 })
    else (if lies_in 225 239 b then Some (record { left = 2; low = 128; high = 191 })
    else (if b == 240 then Some (record { left = 3; low = 144; high = 191 })
    else (if lies_in 241 243 b then Some (record { left = 3; low = 128; high = 191 })
    else (if b == 244 then Some (record { left = 3; low = 128; high = 143 })
    else None)))))))

-- one more byte of a name's character
unfoldable pub next_byte : Character → ℕ → Option Character
next_byte c b =
    if c.left == 0 then first_byte b
    else (if lies_in c.low c.high b then Some (record { left = c.left - 1; low = 128; high = 191 }) else None)

-- whether a name of which so many bytes were read has room for the rest of this character
abbrev pub has_room : ℕ → Character → Bool
has_room count c = nat_le (count + c.left) 255

abbrev pub is_whole : ℕ → Character → Bool
is_whole count c = (c.left == 0) && nat_lt 0 count

-- how many bytes a name has, of which so many were read, up to within this character
unfoldable pub name_from : ℕ → ℕ → Character → List ℕ → Read ℕ
name_from end count c [] = Err more
name_from end count c (b ∷ bs) =
    if (b == end) && is_whole count c then Ok (count, bs)
    else or_bad (next_byte c b) (λ d. if has_room (count + 1) d then name_from end (count + 1) d bs else Err bad)

unfoldable pub name_at : ℕ → List ℕ → Read (List ℕ)
name_at end bytes = name_from end 0 whole bytes >>= λ x. Ok (take x.0 bytes, x.1)

-- ---- so many bytes, whatever they are, and a newline

unfoldable pub bytes_at : ℕ → List ℕ → Read (List ℕ)
bytes_at zero [] = Err more
bytes_at zero (b ∷ bs) = if b == 10 then Ok ([], bs) else Err bad
bytes_at (suc n) [] = Err more
bytes_at (suc n) (b ∷ bs) = bytes_at n bs >>= λ x. Ok (b ∷ x.0, x.1)
