-- What spells a command, apart from how commands are read.
use Rattle.std.specs.Prelude.{◌≡◌, ℕ, ◌+◌, ◌<◌, ◌≤◌, List, [], ◌∷◌, ◌++◌, length, codes, Option, Some, None}
use Rattle.std.specs.Fmt.{decimal}
use Rattle.clone_script.specs.declared.name.Character.{Character}
use Rattle.clone_script.specs.declared.command.Command.{Command}
use Rattle.clone_script.specs.declared.command.Command.TheVariants as command
use Rattle.clone_script.specs.declared.choice.Choice.{Choice}
use Rattle.clone_script.specs.declared.choice.Choice.TheVariants as choice
use Rattle.clone_script.specs.Reading.{next_byte, whole}
use Rattle.clone_script.specs.Members.{most_number, blank, newline}
use Rattle.clone_script.specs.Commands.{most_turns, most_length, most_line}

-- there is such a character, and this holds of it
abbrev pub Continues : Option Character → (Character → Type 0) → Type 0
Continues None P = ⊥
Continues (Some c) P = P c

-- what is left of a character, and further characters of a name, in UTF-8 (The Unicode Standard, table 3-7)
abbrev pub AreCharacters : Character → List ℕ → Type 0
AreCharacters c [] = c.left ≡ 0
AreCharacters c (b ∷ bs) = Continues (next_byte c b) (λ d. AreCharacters d bs)

-- A name has 1 to 255 bytes. They are UTF-8, and each is above 32 and not 127.
pub record IsName (name : List ℕ) : Type 0 where
  pub some : 0 < length name
  pub few : length name ≤ 255
  pub text : AreCharacters whole name

-- each is within the limit on numbers
abbrev pub AreNumbers : List ℕ → Type 0
AreNumbers [] = Unit {0}
AreNumbers (n ∷ ns) = (n ≤ most_number) × AreNumbers ns

-- all members, or one number or more
abbrev pub AreChosen : Choice → Type 0
AreChosen choice.All = Unit {0}
AreChosen (choice.Members ns) = (0 < length ns) × AreNumbers ns

-- what stands behind a member's number: a newline, or a blank and the further numbers
abbrev pub behind_number : List ℕ → List ℕ
behind_number [] = newline ∷ []
behind_number (n ∷ ns) = blank ∷ (decimal n ++ behind_number ns)

-- the numbers, one blank between two, and a newline behind the last
abbrev pub numbers_text : List ℕ → List ℕ
numbers_text [] = []
numbers_text (n ∷ ns) = decimal n ++ behind_number ns

abbrev pub choice_text : Choice → List ℕ
choice_text choice.All = codes "all\n"
choice_text (choice.Members ns) = numbers_text ns

abbrev pub extract_line : ℕ → List ℕ → Choice → List ℕ
extract_line class name choice = codes "extract " ++ (decimal class ++ (blank ∷ (name ++ (blank ∷ choice_text choice))))

-- within the limits
abbrev pub Fits : Command → Type 0
Fits (command.Edit name start end text) = IsName name × (start ≤ most_number) × (end ≤ most_number) × (length text ≤ most_length)
Fits (command.Add name text) = IsName name × (length text ≤ most_length)
Fits (command.Remove name) = IsName name
Fits command.Classes = Unit {0}
Fits command.Maximal = Unit {0}
Fits command.Stat = Unit {0}
Fits (command.Extract class name choice) = (class ≤ most_number) × IsName name × AreChosen choice × (length (extract_line class name choice) ≤ most_line)
Fits (command.Run turns input) = (turns ≤ most_turns) × (length input ≤ most_length)
Fits (command.Show name) = IsName name
Fits command.Save = Unit {0}
Fits command.Quit = Unit {0}

-- Words of the line are separated by one blank. A newline ends the line, and another one follows the bytes.
abbrev pub spelling : Command → List ℕ
spelling (command.Edit name start end text) =
    codes "edit " ++ (name ++ (blank ∷ (decimal start ++ (blank ∷ (decimal end ++ (blank ∷ (decimal (length text) ++ (newline ∷ (text ++ (newline ∷ []))))))))))
spelling (command.Add name text) = codes "add " ++ (name ++ (blank ∷ (decimal (length text) ++ (newline ∷ (text ++ (newline ∷ []))))))
spelling (command.Remove name) = codes "drop " ++ (name ++ (newline ∷ []))
spelling command.Classes = codes "classes\n"
spelling command.Maximal = codes "maximal\n"
spelling command.Stat = codes "stat\n"
spelling (command.Extract class name choice) = extract_line class name choice
spelling (command.Run turns input) = codes "run " ++ (decimal turns ++ (blank ∷ (decimal (length input) ++ (newline ∷ (input ++ (newline ∷ []))))))
spelling (command.Show name) = codes "show " ++ (name ++ (newline ∷ []))
spelling command.Save = codes "save\n"
spelling command.Quit = codes "quit\n"

-- how many bytes the longest line of such a command has, with its newline
abbrev pub longest_line : Command → ℕ
longest_line (command.Extract class name choice) = most_line
longest_line other = 291

-- how many bytes of a command stand behind its line
abbrev pub behind_line : Command → ℕ
behind_line (command.Edit name start end text) = length text + 1
behind_line (command.Add name text) = length text + 1
behind_line (command.Remove name) = 0
behind_line command.Classes = 0
behind_line command.Maximal = 0
behind_line command.Stat = 0
behind_line (command.Extract class name choice) = 0
behind_line (command.Run turns input) = length input + 1
behind_line (command.Show name) = 0
behind_line command.Save = 0
behind_line command.Quit = 0

-- the bytes spell the command
abbrev pub Spells : List ℕ → Command → Type 0
Spells bytes c = Fits c × (bytes ≡ spelling c)

-- they begin with a command
abbrev pub BeginsWith : List ℕ → Command → List ℕ → Type 0
BeginsWith bytes c rest = Fits c × (bytes ≡ spelling c ++ rest)

-- they are the beginning of a command, and not the whole of it
abbrev pub IsBeginning : List ℕ → Type 0
IsBeginning bytes = (c : Command) × (next : ℕ) × (others : List ℕ) × Spells (bytes ++ (next ∷ others)) c

-- they neither begin with a command nor are the beginning of one
pub record IsBad (bytes : List ℕ) : Type 0 where
  pub begun : (c : Command) (rest : List ℕ) → BeginsWith bytes c rest → ⊥
  pub part : IsBeginning bytes → ⊥
