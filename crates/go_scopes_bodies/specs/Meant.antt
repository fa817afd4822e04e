-- What the names of a function mean, by the function itself and by what names mean where no local does.
use Rattle.std.specs.Prelude.{◌≡◌, ℕ, ◌+◌, ◌-◌, ◌<◌, nat_eq, if◌then◌else◌, List, [], ◌∷◌, Option, Some, None, slice_get}
use Rattle.go_heads.specs.Tokens.{function_files}
use Rattle.std.specs.Option.{option_map}
use Rattle.go_grammar.specs.Trees.{first, last}
use Rattle.go_tree.specs.declared.event.Event.{Event}
use Rattle.go_tree.specs.declared.event.Event.TheVariants as event
use Rattle.go_tree.specs.declared.object.Object.{Object}
use Rattle.go_tree.specs.declared.object.Object.TheVariants as object
use Rattle.go_tree.specs.Meanings.{Meaning, first_numbers, numbered, meanings}
use Rattle.go_tree.specs.Objects.{is_declared_at, object_by}
use Rattle.go_tree.specs.Units.{Unit, is_blank}
use Rattle.go_tree.specs.Uses.{uses, object_of}
use Rattle.go_scopes_events.specs.Scopes.{locals_of, first_by, is_import, is_package, inmost, otherwise}
use Rattle.go_heads.specs.Functions.{Alone, Function, function_alone}
use Rattle.go_heads.specs.Heads.{File}
use Rattle.go_heads.specs.Objects.{units_of}
use Rattle.go_heads.specs.Bodies.{function_events}
use Rattle.go_heads.specs.Names.{own_text, own_declarations}

-- ---- outside of functions

-- what a name means in a file where no local does: what the file imports, an object of the package, or what is predeclared
abbrev pub Outer : Type 0
Outer = List ℕ → Option Object

abbrev pub outer_of : List Unit → ℕ → Outer
outer_of us n w = object_by w (otherwise (first_by (is_import n) w (meanings us)) (first_by is_package w (meanings us)))

-- ---- inside

-- An object that the function declares, numbered as if there were no other function and no other object: the function is the
-- object 0 of the package, and its locals are those of the function 0. Or one from outside.
pub data Meant : Type 0 where
  own : Object → Meant
  outside : Object → Meant

-- the meanings of the names that it declares
abbrev pub own_meanings : Alone → List Meaning
own_meanings a = numbered first_numbers (own_declarations a)

-- what a name means as a local at a token: the innermost
abbrev pub own_local : Alone → ℕ → List ℕ → Option Meaning
own_local a x w = inmost 0 x w None (locals_of 0 (own_meanings a))

abbrev pub or_outside : Option Meaning → Option Object → Option Meant
or_outside (Some m) o = Some (own m.object)
or_outside None o = option_map outside o

-- what a name means at a token
abbrev pub own_meant : Alone → Outer → ℕ → List ℕ → Option Meant
own_meant a outer x w = if is_blank w then None else or_outside (own_local a x w) (outer w)

-- what is declared at a token, else what its name means there
abbrev pub own_declared : Option Meant → ℕ → List Meaning → Option Meant
own_declared o x [] = o
own_declared o x (m ∷ ms) = if is_declared_at 0 x m.source then Some (own m.object) else own_declared o x ms

-- the object of a token: of one that is looked up, or that is declared
abbrev pub told_object : Option Meant → Option Meant → ℕ → List Event → Option Meant
told_object used declared x [] = None
told_object used declared x (event.Use u ∷ es) = if nat_eq u.name x then used else told_object used declared x es
told_object used declared x (event.Declaration d ∷ es) = if nat_eq d.name x then declared else told_object used declared x es
told_object used declared x (e ∷ es) = told_object used declared x es

abbrev pub own_object : Alone → Outer → ℕ → Option Meant
own_object a outer x = told_object (own_meant a outer x (own_text a x)) (own_declared (own_meant a outer x (own_text a x)) x (own_meanings a)) x (function_events a)

-- ---- in a package

-- an object of the function in a package, where so many objects of the package and so many functions stand in front of it
abbrev pub shifted : ℕ → ℕ → Object → Object
shifted s k (object.Package n) = object.Package (s + n)
shifted s k (object.Local f n) = object.Local (k + f) n
shifted s k o = o

abbrev pub in_package : ℕ → ℕ → Meant → Object
in_package s k (own o) = shifted s k o
in_package s k (outside o) = o

-- The function of the number k stands in this file. Each of its tokens means what it means by itself, and by what names mean outside of
-- functions in that file: the function is the k-th of the package, and so many objects of the package are in front of it.
pub record MeansAt (fs : List File) (k : ℕ) (f : Function) : Type 0 where
  pub file : ℕ
  pub there : slice_get (function_files 0 fs) k ≡ Some file
  pub objects_before : ℕ
  pub objects : (x : ℕ) → x < last f.tree - first f.tree
      → object_of (uses (units_of fs)) file (first f.tree + x) ≡ option_map (in_package objects_before k) (own_object (function_alone f) (outer_of (units_of fs) file) x)
