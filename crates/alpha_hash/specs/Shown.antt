-- What the program's words and names show.
use Rattle.std.specs.Prelude.{ℕ, Bool, true, List, [], ◌∷◌, length, map, Option, Some, None}
use Rattle.std.specs.List.{list_all}
use Rattle.go_typed.specs.declared.node.TypedNode.{TypedNode}
use Rattle.go_typed.specs.Packages.{is_below}
use Rattle.go_typed.specs.Trees.{Sort, Typed, Typeds, sort_has, every, every_part}
use Rattle.go_typed.specs.Views.{sort_view, view}
use Rattle.alpha_hash_defs.specs.Naming.{Naming}
use Rattle.alpha_hash_defs.specs.Packages.{naming_of}
use Rattle.alpha_hash_defs.specs.Words as words
use Rattle.alpha_hash_defs.specs.Words.{number, named}
use Rattle.alpha_hash.specs.declared.names.Names.{Names}
use Rattle.alpha_hash.specs.declared.word.Word.{Word}
use Rattle.alpha_hash.specs.declared.word.Word.TheVariants as word

abbrev pub word_view : Word → words.Word
word_view (word.Number n) = number n
word_view (word.Local l) = named l

abbrev pub shown : List Word → List words.Word
shown ws = map word_view ws

-- what a function is named by
abbrev pub naming : Names → Naming ℕ
naming n = naming_of n.checked.now (map sort_view n.locals.now)

-- how many types there are
abbrev pub type_count : Names → ℕ
type_count n = length n.checked.now.types.shapes

-- whether all types are in the table
abbrev pub knows_sort : Names → Sort ℕ → Bool
knows_sort n s = sort_has (is_below (type_count n)) s

abbrev pub knows : Names → Typed ℕ → Bool
knows n x = every (is_below (type_count n)) x

abbrev pub knows_parts : Names → Typeds ℕ → Bool
knows_parts n ps = every_part (is_below (type_count n)) ps

abbrev pub knows_locals : Names → Bool
knows_locals n = list_all (sort_has (is_below (type_count n))) (map sort_view n.locals.now)

abbrev pub knows_part : Names → Option TypedNode → Bool
knows_part n None = true
knows_part n (Some p) = knows n (view p)

-- what a part says of a name of a constant, if it is there
abbrev pub part_declared : Names → Bool → Option TypedNode → List words.Word
part_declared n inside None = []
part_declared n inside (Some p) = words.declared_words (naming n) inside (view p)

-- the words of a part, which may be left out
abbrev pub part_words : Names → Bool → Bool → Sort ℕ → Option TypedNode → List words.Word
part_words n inside defined owner None = number 0 ∷ []
part_words n inside defined owner (Some p) = words.words (naming n) inside defined owner (view p)
