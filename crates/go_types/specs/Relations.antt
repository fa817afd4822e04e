-- Underlying types, assignability, comparability and the count of scalars: relations of types under declarations.
use Rattle.std.specs.Prelude.{◌≡◌, ℕ, ◌+◌, ◌*◌, ◌&&◌, ◌⊎◌, false, max, nat_eq, if◌then◌else◌, List, Option, Some, slice_get}
use Rattle.go_ints.specs.declared.kinds.Kind.{Kind}
use Rattle.go_types.specs.Trees.{TypeTree, boolean, text, integer, array, slice, structure, function, declared, TypeRow, none, more, Identical, is_declared, is_named}

-- The right sides of the declared types, by their numbers; a type that was declared alone has none.
abbrev pub Rights : Type 0
Rights = List (Option TypeTree)

-- the declared type n has this right side
abbrev pub HasRight : Rights → ℕ → TypeTree → Type 0
HasRight rights n r = slice_get rights n ≡ Some (Some r)

-- Underlying types: that of a declared type is that of its right side; every other type is its own.
pub data Underlying (rights : Rights) : TypeTree → TypeTree → Type 0 where
  itself : (t : TypeTree) → is_declared t ≡ false → Underlying rights t t
  through : (n : ℕ) (r u : TypeTree) → HasRight rights n r → Underlying rights r u → Underlying rights (declared n) u

-- the underlying types are identical, and one of the two isn't a named type
pub record SameUnderlying (rights : Rights) (from to : TypeTree) : Type 0 where
  pub from_underlying : TypeTree
  pub to_underlying : TypeTree
  pub from_is : Underlying rights from from_underlying
  pub to_is : Underlying rights to to_underlying
  pub identical : Identical from_underlying to_underlying
  pub unnamed : (is_named from && is_named to) ≡ false

-- Assignability of a value of the one type to the other.
abbrev pub Assignable : Rights → TypeTree → TypeTree → Type 0
Assignable rights from to = Identical from to ⊎ SameUnderlying rights from to

mutual
  -- Comparison operators: booleans, strings, integers, and arrays and structs of comparable parts. Of a declared type its
  -- right side is asked.
  pub data Comparable (rights : Rights) : TypeTree → Type 0 where
    booleans : Comparable rights boolean
    texts : Comparable rights text
    integers : (k : Kind) → Comparable rights (integer k)
    arrays : (n : ℕ) (t : TypeTree) → Comparable rights t → Comparable rights (array n t)
    structures : (names : List (List ℕ)) (ts : TypeRow) → AllComparable rights ts → Comparable rights (structure names ts)
    by_right : (n : ℕ) (r : TypeTree) → HasRight rights n r → Comparable rights r → Comparable rights (declared n)

  pub data AllComparable (rights : Rights) : TypeRow → Type 0 where
    no_part : AllComparable rights none
    a_part : (t : TypeTree) (ts : TypeRow) → Comparable rights t → AllComparable rights ts → AllComparable rights (more t ts)

-- the scalars of an array: its length times those of its element, or its length where those are 0
abbrev pub array_scalars : ℕ → ℕ → ℕ
array_scalars n scalars = if nat_eq scalars 0 then n else n * scalars

mutual
  -- The scalars of a type: this program's measure of how large a value is, which the Go specification does not have. Of a
  -- declared type its right side is asked.
  pub data Scalars (rights : Rights) : TypeTree → ℕ → Type 0 where
    of_boolean : Scalars rights boolean 1
    of_text : Scalars rights text 1
    of_integer : (k : Kind) → Scalars rights (integer k) 1
    of_array : (n : ℕ) (t : TypeTree) (scalars : ℕ) → Scalars rights t scalars → Scalars rights (array n t) (array_scalars n scalars)
    of_slice : (t : TypeTree) → Scalars rights (slice t) 1
    of_structure : (names : List (List ℕ)) (ts : TypeRow) (scalars : ℕ) → RowScalars rights ts scalars → Scalars rights (structure names ts) (max 1 scalars)
    of_function : (ps rs : TypeRow) → Scalars rights (function ps rs) 1
    of_right : (n : ℕ) (r : TypeTree) (scalars : ℕ) → HasRight rights n r → Scalars rights r scalars → Scalars rights (declared n) scalars

  -- the scalars of types together
  pub data RowScalars (rights : Rights) : TypeRow → ℕ → Type 0 where
    of_none : RowScalars rights none 0
    of_more : (t : TypeTree) (ts : TypeRow) (here there : ℕ) → Scalars rights t here → RowScalars rights ts there → RowScalars rights (more t ts) (here + there)
