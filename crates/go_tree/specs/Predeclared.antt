-- Predeclared names of Go 1.22 (Go specification: Predeclared identifiers).
use Rattle.std.specs.Prelude.{ℕ, if◌then◌else◌, List, [], ◌∷◌, Option, Some, None, codes}
use Rattle.go_tokens.specs.Spellings.{same_text}
use Rattle.go_tree.specs.declared.object.Predeclared.{Predeclared}
use Rattle.go_tree.specs.declared.object.Predeclared.TheVariants as predeclared

-- those of the profile
unfoldable pub known_names : List (List ℕ × Predeclared)
known_names =
    (codes "bool", predeclared.Bool) ∷
    (codes "string", predeclared.String) ∷
    (codes "int", predeclared.Int) ∷
    (codes "int8", predeclared.Int8) ∷
    (codes "int16", predeclared.Int16) ∷
    (codes "int32", predeclared.Int32) ∷
    (codes "int64", predeclared.Int64) ∷
    (codes "uint", predeclared.Uint) ∷
    (codes "uint8", predeclared.Uint8) ∷
    (codes "uint16", predeclared.Uint16) ∷
    (codes "uint32", predeclared.Uint32) ∷
    (codes "uint64", predeclared.Uint64) ∷
    (codes "byte", predeclared.Byte) ∷
    (codes "rune", predeclared.Rune) ∷
    (codes "true", predeclared.True) ∷
    (codes "false", predeclared.False) ∷
    (codes "iota", predeclared.Iota) ∷
    (codes "nil", predeclared.Nil) ∷
    (codes "append", predeclared.Append) ∷
    (codes "cap", predeclared.Cap) ∷
    (codes "copy", predeclared.Copy) ∷
    (codes "len", predeclared.Len) ∷
    (codes "make", predeclared.Make) ∷
    (codes "max", predeclared.Max) ∷
    (codes "min", predeclared.Min) ∷
    (codes "panic", predeclared.Panic) ∷
    []

-- those outside the profile
unfoldable pub unknown_names : List (List ℕ)
unknown_names =
    codes "any" ∷
    codes "comparable" ∷
    codes "complex64" ∷
    codes "complex128" ∷
    codes "error" ∷
    codes "float32" ∷
    codes "float64" ∷
    codes "uintptr" ∷
    codes "clear" ∷
    codes "close" ∷
    codes "complex" ∷
    codes "delete" ∷
    codes "imag" ∷
    codes "new" ∷
    codes "print" ∷
    codes "println" ∷
    codes "real" ∷
    codes "recover" ∷
    []

abbrev pub known_in : List (List ℕ × Predeclared) → List ℕ → Option Predeclared
known_in [] w = None
known_in (x ∷ xs) w = if same_text x.0 w then Some x.1 else known_in xs w
