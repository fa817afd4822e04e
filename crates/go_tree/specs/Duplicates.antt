-- Fields, keys, parameters and defaults that stand twice (Go specification: Struct types, Composite literals, Function types,
-- Expression switches).
use Rattle.std.specs.Prelude.{ℕ, Bool, true, false, ◌&&◌, ◌||◌, not, nat_eq, List, [], ◌∷◌, ◌++◌}
use Rattle.go_tokens.specs.Tokens.{TokenList}
use Rattle.go_tokens.specs.Spellings.{same_text}
use Rattle.go_tree.specs.declared.event.Member.{Member}
use Rattle.go_tree.specs.declared.event.Member.TheVariants as member
use Rattle.go_tree.specs.declared.event.Event.{Event}
use Rattle.go_tree.specs.declared.event.Event.TheVariants as event
use Rattle.go_tree.specs.Units.{Unit, Place, word, is_blank, bytes_at}
use Rattle.go_tree.specs.Failures.{place_if, of_files}

abbrev pub same_member : Member → Member → Bool
same_member member.Field member.Field = true
same_member member.Key member.Key = true
same_member member.Parameter member.Parameter = true
same_member a b = false

-- whether the events tell of a member of the group with this name
abbrev pub has_member : Member → ℕ → List ℕ → TokenList → List Event → Bool
has_member m g w ts [] = false
has_member m g w ts (event.Member o h x ∷ es) = (same_member m o && nat_eq g h && same_text w (word ts x)) || has_member m g w ts es
has_member m g w ts (e ∷ es) = has_member m g w ts es

-- No field is blank, and no name stands twice in a group; but parameters may be blank.
abbrev pub is_duplicate : Member → ℕ → List ℕ → TokenList → List Event → Bool
is_duplicate member.Field g w ts before = is_blank w || has_member member.Field g w ts before
is_duplicate member.Key g w ts before = has_member member.Key g w ts before
is_duplicate member.Parameter g w ts before = not (is_blank w) && has_member member.Parameter g w ts before

-- the place of an event behind others, in front of other places
abbrev pub member_place : List Event → ℕ → TokenList → Event → List Place → List Place
member_place before n ts (event.Member m g x) ss = place_if (is_duplicate m g (word ts x) ts before) (bytes_at n ts x) ss
member_place before n ts e ss = ss

-- the argument `before` has the events in front
abbrev pub second_members : List Event → ℕ → TokenList → List Event → List Place
second_members before n ts [] = []
second_members before n ts (e ∷ es) = member_place before n ts e (second_members (before ++ e ∷ []) n ts es)

-- A switch has one default at most.
abbrev pub second_defaults : ℕ → TokenList → List Event → List Place
second_defaults n ts [] = []
second_defaults n ts (event.SecondDefault i ∷ es) = bytes_at n ts i ∷ second_defaults n ts es
second_defaults n ts (e ∷ es) = second_defaults n ts es

abbrev pub duplicates : List Unit → List Place
duplicates us = of_files (second_members []) 0 us ++ of_files second_defaults 0 us
