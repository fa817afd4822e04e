-- The objects that names mean, for each token of a package.
use Rattle.std.specs.Prelude.{ℕ, zero, suc, Bool, false, ◌&&◌, if◌then◌else◌, nat_eq, List, [], ◌∷◌, length, Option, Some, None}
use Rattle.go_tokens.specs.Tokens.{TokenList}
use Rattle.go_tree.specs.declared.event.Event.{Event}
use Rattle.go_tree.specs.declared.event.Event.TheVariants as event
use Rattle.go_tree.specs.declared.object.Predeclared.{Predeclared}
use Rattle.go_tree.specs.declared.object.Object.{Object}
use Rattle.go_tree.specs.declared.object.Object.TheVariants as object
use Rattle.go_tree.specs.Predeclared.{known_names, known_in}
use Rattle.go_tree.specs.Units.{Unit, word, is_blank}
use Rattle.go_tree.specs.Declarations.{Found}
use Rattle.go_tree.specs.Meanings.{Meaning, meanings, meaning_at}

-- what a name means without a declaration
abbrev pub known_object : Option Predeclared → Option Object
known_object None = None
known_object (Some p) = Some (object.Predeclared p)

abbrev pub predeclared_object : List ℕ → Option Object
predeclared_object w = known_object (known_in known_names w)

abbrev pub object_by : List ℕ → Option Meaning → Option Object
object_by w None = predeclared_object w
object_by w (Some m) = Some m.object

-- what a name means at a place; the blank identifier means nothing
abbrev pub object_at : List Meaning → ℕ → ℕ → List ℕ → Option Object
object_at ms n t w = if is_blank w then None else object_by w (meaning_at ms n t w)

-- The object that a declaration declares, if it does; else the one that its name means there.
abbrev pub is_declared_at : ℕ → ℕ → Option Found → Bool
is_declared_at n t None = false
is_declared_at n t (Some d) = nat_eq d.file n && nat_eq d.it.name t

abbrev pub own_object : ℕ → ℕ → List ℕ → List Meaning → List Meaning → Option Object
own_object n t w all [] = object_at all n t w
own_object n t w all (m ∷ ms) = if is_declared_at n t m.source then Some m.object else own_object n t w all ms

-- the object of the token t, by what the file's tree has to do with it
abbrev pub token_object : List Meaning → ℕ → TokenList → ℕ → List Event → Option Object
token_object ms n ts t [] = None
token_object ms n ts t (event.Use u ∷ es) = if nat_eq u.name t then object_at ms n t (word ts t) else token_object ms n ts t es
token_object ms n ts t (event.Declaration d ∷ es) = if nat_eq d.name t then own_object n t (word ts t) ms ms else token_object ms n ts t es
token_object ms n ts t (e ∷ es) = token_object ms n ts t es

-- the objects of the tokens from t on, k many
abbrev pub token_objects : List Meaning → ℕ → TokenList → List Event → ℕ → ℕ → List (Option Object)
token_objects ms n ts es t zero = []
token_objects ms n ts es t (suc k) = token_object ms n ts t es ∷ token_objects ms n ts es (suc t) k

-- the objects of the tokens of each file; an identifier that is not looked up and declares nothing has none
abbrev pub objects_from : List Meaning → ℕ → List Unit → List (List (Option Object))
objects_from ms n [] = []
objects_from ms n (u ∷ us) = token_objects ms n u.tokens u.events 0 (length u.tokens.tokens) ∷ objects_from ms (suc n) us

abbrev pub objects : List Unit → List (List (Option Object))
objects us = objects_from (meanings us) 0 us
