-- The texts of types.
use Rattle.std.specs.Prelude.{ℕ, List, [], ◌∷◌, ◌++◌, codes}
use Rattle.std.specs.Fmt.{decimal}
use Rattle.go_ints.specs.declared.kinds.Kind.{Kind}
use Rattle.go_ints.specs.declared.kinds.Kind.TheVariants as kind
use Rattle.go_types.specs.Trees.{TypeTree, TypeRow, boolean, text, integer, array, slice, structure, function, declared, none, more}

-- `byte` and `rune` are other names of two of them
abbrev pub kind_text : Kind → List ℕ
kind_text kind.Int = codes "int"
kind_text kind.Int8 = codes "int8"
kind_text kind.Int16 = codes "int16"
kind_text kind.Int32 = codes "int32"
kind_text kind.Int64 = codes "int64"
kind_text kind.Uint = codes "uint"
kind_text kind.Uint8 = codes "uint8"
kind_text kind.Uint16 = codes "uint16"
kind_text kind.Uint32 = codes "uint32"
kind_text kind.Uint64 = codes "uint64"

-- each text behind a mark
abbrev pub marked : List ℕ → List (List ℕ) → List ℕ
marked mark [] = []
marked mark (t ∷ ts) = mark ++ t ++ marked mark ts

-- the texts one behind the other, with a mark between each two
abbrev pub joined : List ℕ → List (List ℕ) → List ℕ
joined mark [] = []
joined mark (t ∷ ts) = t ++ marked mark ts

abbrev pub listed : List (List ℕ) → List ℕ
listed ts = joined (codes ", ") ts

-- one name for each field
abbrev pub fields_text : List (List ℕ) → List ℕ
fields_text [] = codes "struct {}"
fields_text ts = codes "struct { " ++ joined (codes "; ") ts ++ codes " }"

-- one result stands without parentheses
abbrev pub results_text : List (List ℕ) → List ℕ
results_text [] = []
results_text (t ∷ []) = codes " " ++ t
results_text ts = codes " (" ++ listed ts ++ codes ")"

abbrev pub function_text : List (List ℕ) → List (List ℕ) → List ℕ
function_text ps rs = codes "func(" ++ listed ps ++ codes ")" ++ results_text rs

-- a name and what stands behind it; of lists of two lengths the shorter one ends
abbrev pub named : List (List ℕ) → List (List ℕ) → List (List ℕ)
named (n ∷ ns) (t ∷ ts) = (n ++ codes " " ++ t) ∷ named ns ts
named ns ts = []

abbrev mutual
  -- the text of a type, where declared types have these names
  pub type_text : (ℕ → List ℕ) → TypeTree → List ℕ
  type_text name boolean = codes "bool"
  type_text name text = codes "string"
  type_text name (integer k) = kind_text k
  type_text name (array n t) = codes "[" ++ decimal n ++ codes "]" ++ type_text name t
  type_text name (slice t) = codes "[]" ++ type_text name t
  type_text name (structure ns ts) = fields_text (named ns (row_texts name ts))
  type_text name (function ps rs) = function_text (row_texts name ps) (row_texts name rs)
  type_text name (declared n) = name n

  pub row_texts : (ℕ → List ℕ) → TypeRow → List (List ℕ)
  row_texts name none = []
  row_texts name (more t ts) = type_text name t ∷ row_texts name ts
