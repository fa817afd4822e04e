-- Types as finite trees, and their identity.
use Rattle.std.specs.Prelude.{◌≡◌, ℕ, Bool, true, false, List, [], ◌∷◌}
use Rattle.go_ints.specs.declared.kinds.Kind.{Kind}

mutual
  -- A type. A declared type is known by its number alone, so trees are finite, whatever is declared.
  pub data TypeTree : Type 0 where
    boolean : TypeTree
    text : TypeTree
    integer : Kind → TypeTree
    -- the length, and the type of an element
    array : ℕ → TypeTree → TypeTree
    slice : TypeTree → TypeTree
    -- the names of the fields, in order, and their types
    structure : List (List ℕ) → TypeRow → TypeTree
    -- the types of the parameters, and those of the results
    function : TypeRow → TypeRow → TypeTree
    declared : ℕ → TypeTree

  -- types in order
  pub data TypeRow : Type 0 where
    none : TypeRow
    more : TypeTree → TypeRow → TypeRow

abbrev pub row : List TypeTree → TypeRow
row [] = none
row (t ∷ ts) = more t (row ts)

abbrev mutual
  -- Type identity: the same declared or predeclared type, or type literals of one form with identical parts, equal
  -- lengths, and equal field names in order.
  pub Identical : TypeTree → TypeTree → Type 0
  Identical boolean boolean = Unit {0}
  Identical text text = Unit {0}
  Identical (integer k) (integer l) = k ≡ l
  Identical (array n t) (array m u) = (n ≡ m) × Identical t u
  Identical (slice t) (slice u) = Identical t u
  Identical (structure ns ts) (structure ms us) = (ns ≡ ms) × IdenticalRows ts us
  Identical (function ps rs) (function qs ss) = IdenticalRows ps qs × IdenticalRows rs ss
  Identical (declared n) (declared m) = n ≡ m
  Identical _ _ = ⊥

  pub IdenticalRows : TypeRow → TypeRow → Type 0
  IdenticalRows none none = Unit {0}
  IdenticalRows (more t ts) (more u us) = Identical t u × IdenticalRows ts us
  IdenticalRows _ _ = ⊥

abbrev pub is_declared : TypeTree → Bool
is_declared (declared n) = true
is_declared _ = false

-- Named types are the declared and the predeclared ones.
abbrev pub is_named : TypeTree → Bool
is_named boolean = true
is_named text = true
is_named (integer k) = true
is_named (declared n) = true
is_named _ = false
