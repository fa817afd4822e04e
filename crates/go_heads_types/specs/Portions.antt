-- The portions of functions in packages with equal heads.
use Rattle.std.specs.Prelude.{◌≡◌, ℕ, List, [], ◌∷◌, length, Some, slice_get}
use Rattle.go_tree.specs.declared.context.Entity.TheVariants as entity
use Rattle.go_types.specs.Relations.{Rights}
use Rattle.go_heads.specs.Functions.{Function, all_functions, body_texts}
use Rattle.go_heads.specs.Heads.{File}
use Rattle.go_package_defs.specs.Answer.{specifications}
use Rattle.go_package_defs.specs.Bodies.{Portion, Surroundings, portion_of, those_of, typed_function, types_in}
use Rattle.go_package_defs.specs.Declarations.{Specification}
use Rattle.go_package_defs.specs.Sources.{Source, Package}

-- the files of a package with their names
abbrev pub files_of : List (List ℕ) → List Source → List File
files_of (n ∷ ns) (s ∷ ss) = record { name = n; tokens = s.tokens; tree = s.tree } ∷ files_of ns ss
files_of _ _ = []

-- each file has a name
abbrev pub AreNamed : List (List ℕ) → List Source → Type 0
AreNamed ns ss = length ns ≡ length ss

-- the specifications of the functions of a package
abbrev pub function_specifications : Package → List Specification
function_specifications p = those_of entity.Function (specifications 0 p.sources)

-- It has the same texts, and the same tree over them.
pub record SamePortion (x y : Portion) : Type 0 where
  pub texts : y.texts ≡ x.texts
  pub tree : y.tree ≡ x.tree

-- The functions of the number n of two packages, as specifications and in their files; their bodies have the same texts.
pub record SameBody (p q : Package) (names others : List (List ℕ)) (n : ℕ) (d e : Specification) : Type 0 where
  pub old : Function
  pub new : Function
  pub old_specified : slice_get (function_specifications p) n ≡ Some d
  pub new_specified : slice_get (function_specifications q) n ≡ Some e
  pub old_stands : slice_get (all_functions (files_of names p.sources)) n ≡ Some old
  pub new_stands : slice_get (all_functions (files_of others q.sources)) n ≡ Some new
  pub bodies : body_texts new ≡ body_texts old

-- The functions are as many. Where the body of one has the same texts its portion is the same but for what its tokens mean; where these
-- mean the same too, and the same locals are types, it is with its types the same in the same surroundings, behind the same right sides.
pub record KeepsPortions (p q : Package) (names others : List (List ℕ)) : Type 0 where
  pub count : length (function_specifications q) ≡ length (function_specifications p)
  pub portions : (n : ℕ) (d e : Specification) → SameBody p q names others n d e → SamePortion (portion_of p d) (portion_of q e)
  pub typed : (n : ℕ) (d e : Specification) → SameBody p q names others n d e → (portion_of q e).objects ≡ (portion_of p d).objects → types_in q n ≡ types_in p n
      → (a : Surroundings) (rights : Rights) → typed_function q a rights n e ≡ typed_function p a rights n d
