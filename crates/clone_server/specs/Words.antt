-- What the words of the command line say.
use Rattle.std.specs.Prelude.{ℕ, true, List, [], ◌∷◌, map, Option, Some, None, Result, Ok, Err, codes, string_bytes}
use Rattle.std.specs.declared.string.String.{String}
use Rattle.std.specs.declared.alloc.Global.{Global}
use Rattle.clap.specs.Words.{App, Row, Rule, Text, first_of, matches_of, new_app, new_rule, with_rule, fault_of, Kinds}
use Rattle.clap.specs.declared.builder.action.ArgAction.TheVariants.{Set}
use Rattle.go_base.specs.Gives.{◌>>=◌}
use Rattle.clone_server.specs.declared.words.WordsError.{WordsError}
use Rattle.clone_server.specs.declared.words.WordsError.TheVariants as errors
use Rattle.clone_server.specs.declared.words.Words.{Words}
use Rattle.std.specs.Option.{option_map}
use Rattle.clone_server.specs.Numbers.{whole_number, whole_or_zero}

-- two numbers, the one that a package is made from, if there is one, and a folder's text
pub record Said : Type 0 where
  pub min : ℕ
  pub mass : ℕ
  pub make : Option ℕ
  pub dir : List ℕ

-- what words say that were taken
abbrev pub said_of : Words → Said
said_of w = record { min = w.min; mass = w.mass; make = w.make; dir = w.dir.now }

-- ---- the command, as clap knows it

abbrev pub option_rule : Text → Rule
option_rule name = record (new_rule name) { long = Some name; action = Some Set }

abbrev pub folder_rule : Rule
folder_rule = record (new_rule (codes "dir")) { required = true; action = Some Set }

-- the words behind the program's own name: three options with a value, and one word more
abbrev pub goclone : App
goclone =
    let app = new_app (codes "goclone") in
    let named = record app { top = record app.top { no_binary_name = true } } in
    with_rule (with_rule (with_rule (with_rule named (option_rule (codes "min"))) (option_rule (codes "mass"))) (option_rule (codes "make"))) folder_rule

-- ---- numbers

abbrev pub most_statements : ℕ
most_statements = 32

abbrev pub most_mass : ℕ
most_mass = 1000

-- the number of an option that was given, or the one that stands for none
abbrev pub number_or : ℕ → ℕ → Option Text → Option ℕ
number_or most fallback None = Some fallback
number_or most fallback (Some text) = whole_number most text

abbrev pub most_seed : ℕ
most_seed = 4294967295

-- the number that a package is made from: none where the option isn't given
abbrev pub seed_or_none : Option Text → Option (Option ℕ)
seed_or_none None = Some None
seed_or_none (Some text) = option_map Some (whole_or_zero most_seed text)

-- the numbers and the folder, if all are there
abbrev pub all_said : Option ℕ → Option ℕ → Option (Option ℕ) → Option Text → Option Said
all_said None mass make dir = None
all_said (Some n) None make dir = None
all_said (Some n) (Some m) None dir = None
all_said (Some n) (Some m) (Some s) None = None
all_said (Some n) (Some m) (Some s) (Some d) = Some (record { min = n; mass = m; make = s; dir = d })

-- what the matches say
abbrev pub said_by : List Row → Option Said
said_by rows =
    all_said (number_or most_statements 2 (first_of (codes "min") rows)) (number_or most_mass 8 (first_of (codes "mass") rows)) (seed_or_none (first_of (codes "make") rows))
    (first_of (codes "dir") rows)

-- the refusal where nothing is said
abbrev pub or_untaken : Option Said → Result Said WordsError
or_untaken None = Err errors.NotTaken
or_untaken (Some s) = Ok s

-- the same of what the matches say
abbrev pub taken_or_not : Option Words → Result Words WordsError
taken_or_not None = Err errors.NotTaken
taken_or_not (Some w) = Ok w

-- the matches, where clap finds no fault
abbrev pub found : Kinds → List Row → Result (List Row) WordsError
found [] rows = Ok rows
found (k ∷ ks) rows = Err errors.NotTaken

-- what clap makes of the words
unfoldable pub rows_of_words : List Text → Result (List Row) WordsError
rows_of_words texts = found (fault_of goclone texts) (matches_of goclone texts)

-- what the words say, or that they aren't taken
unfoldable pub words_of : List Text → Result Said WordsError
words_of texts = do
  rows ← rows_of_words texts
  or_untaken (said_by rows)

-- the refusal that an error names
abbrev pub words_refusal : WordsError → Option WordsError
words_refusal errors.NotTaken = Some errors.NotTaken
words_refusal errors.Memory = None

-- what is written where the words aren't taken
abbrev pub usage : List ℕ
usage = codes "usage: goclone [--min N] [--mass N] [--make N] DIR\n"

abbrev pub texts_of : List (String Global) → List Text
texts_of words = map string_bytes words
