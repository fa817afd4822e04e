-- Specifications of constants that repeat a list (Go specification: Constant declarations).
--
-- In a group a specification without expressions repeats the list in front of it: the expressions and the type of the last
-- specification that has some. It means what that text would mean there once more, so that each name of the list is looked up
-- anew. In a function a constant of the group may hide such a name there: one that is declared by the specification that has
-- the list, or between it and the one that repeats it. The list would mean something else then, and the specification stands
-- outside the profile. In the block of the package a name means the same at both places.
use Rattle.std.specs.Prelude.{ℕ, Bool, true, false, ◌&&◌, ◌||◌, not, if◌then◌else◌, nat_eq, List, [], ◌∷◌, ◌++◌, Option, Some, None}
use Rattle.go_tokens.specs.Tokens.{TokenList}
use Rattle.go_tokens.specs.Spellings.{same_text}
use Rattle.go_tree.specs.declared.context.Entity.{Entity}
use Rattle.go_tree.specs.declared.context.Entity.TheVariants as entity
use Rattle.go_tree.specs.declared.context.Site.{Site}
use Rattle.go_tree.specs.declared.context.Site.TheVariants as site
use Rattle.go_tree.specs.declared.event.Declaration.{Declaration}
use Rattle.go_tree.specs.declared.event.Use.{Use}
use Rattle.go_tree.specs.declared.event.Event.{Event}
use Rattle.go_tree.specs.declared.event.Event.TheVariants as event
use Rattle.go_tree.specs.Units.{Unit, Place, word, is_blank, bytes_at}
use Rattle.go_tree.specs.Failures.{place_if, of_files}
use Rattle.go_tree.specs.Lookups.{is_local}

-- A list is known by the specification that has it, which begins at this token. Whether it is this one:
abbrev pub is_list : ℕ → Option ℕ → Bool
is_list s None = false
is_list s (Some t) = nat_eq s t

-- the list that a constant has, by its own specification or as a repetition
abbrev pub list_by : Entity → Option ℕ → Option ℕ
list_by entity.Constant source = source
list_by e source = None

abbrev pub list_of : Declaration → Option ℕ
list_of d = list_by d.entity d.source

-- the list in which a name is looked up: in its type or in its expressions
abbrev pub list_at : Site → Option ℕ
list_at site.Elsewhere = None
list_at (site.Type s) = Some s
list_at (site.Value s column alone) = Some s
list_at (site.Right s reach) = None

abbrev pub list_around : Use → Option ℕ
list_around u = if u.constant then list_at u.site else None

-- Below, `text` says how a token is spelled, and `place` where it stands.
--
-- whether the list s uses the name w
abbrev pub uses_name : ℕ → List ℕ → (ℕ → List ℕ) → List Event → Bool
uses_name s w text [] = false
uses_name s w text (event.Use u ∷ es) = (is_list s (list_around u) && same_text w (text u.name)) || uses_name s w text es
uses_name s w text (e ∷ es) = uses_name s w text es

-- whether the list s uses the name of a constant that has it; the argument `all` has all events. The blank identifier is
-- no such name.
abbrev pub hides_one : ℕ → (ℕ → List ℕ) → List Event → List Event → Bool
hides_one s text all [] = false
hides_one s text all (event.Declaration d ∷ es) = (is_list s (list_of d) && not (is_blank (text d.name)) && uses_name s (text d.name) text all) || hides_one s text all es
hides_one s text all (e ∷ es) = hides_one s text all es

-- whether a constant that has this list hides a name of it
abbrev pub is_hidden : Option ℕ → (ℕ → List ℕ) → List Event → Bool
is_hidden None text before = false
is_hidden (Some s) text before = hides_one s text before before

-- whether it is the first name of a specification in a function that repeats a list
abbrev pub is_repetition : Declaration → Bool
is_repetition d = is_local d.block && nat_eq d.column 0 && not (is_list d.statement d.source)

-- A specification in a function repeats no list of which a constant hides a name: one that has the list and is declared before.
-- The argument `before` has the events in front.
abbrev pub hidden_at : (ℕ → List ℕ) → (ℕ → Place) → List Event → Event → List Place → List Place
hidden_at text place before (event.Declaration d) ss = place_if (is_repetition d && is_hidden (list_of d) text before) (place d.name) ss
hidden_at text place before e ss = ss

abbrev pub hidden_lists_by : (ℕ → List ℕ) → (ℕ → Place) → List Event → List Event → List Place
hidden_lists_by text place before [] = []
hidden_lists_by text place before (e ∷ es) = hidden_at text place before e (hidden_lists_by text place (before ++ e ∷ []) es)

-- those of a file
abbrev pub hidden_in : ℕ → TokenList → List Event → List Place
hidden_in n ts es = hidden_lists_by (word ts) (bytes_at n ts) [] es

abbrev pub hidden_lists : List Unit → List Place
hidden_lists us = of_files hidden_in 0 us
