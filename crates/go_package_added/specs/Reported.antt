-- The fault of declarations that is reported of a package with one function more.
use Rattle.std.specs.Prelude.{◌≡◌, ◌≤◌, ◌+◌, ℕ, suc, Bool, true, List, [], ◌∷◌, ◌++◌, length, map, Result, Ok, Err, Option, Some, None}
use Rattle.std.specs.List.{AllByRecursion}
use Rattle.go_grammar.specs.Trees.{Tree}
use Rattle.go_tree.specs.Failures.{Failure}
use Rattle.go_tree.specs.Units.{Place, bytes_of}
use Rattle.go_tree.specs.declared.object.Declared.{Declared}
use Rattle.go_exprs_rules.specs.Sorts.{Stands}
use Rattle.go_package_laws.specs.Places.{EachNode}
use Rattle.go_types.specs.Relations.{Rights}
use Rattle.go_typed.specs.Contents.{FuncContent}
use Rattle.go_stmts_elsewhere.specs.Functions.{FunctionAlong}
use Rattle.go_package_defs.specs.Answer.{Environment}
use Rattle.go_package_defs.specs.Bodies.{Functions, Surroundings, functions_from, portion_of}
use Rattle.go_package_defs.specs.Declarations.{Specification}
use Rattle.go_package_defs.specs.Knowledge.{outlines}
use Rattle.go_package_defs.specs.Sources.{Package, tokens_in}
use Rattle.go_package_defs.specs.Verdicts.{needed_by_all, numbers_of}
use Rattle.go_heads_added.specs.Added.{Gap, beyond}
use Rattle.go_package_added.specs.OneMore.{IsOneMore, all_beyond, function_moves, inserted, with_function}
use Rattle.go_package_added.specs.Unchanged.{last_in}

-- The answer with the function's type at its number, or the same fault.
abbrev pub answered_with : ℕ → Stands → Result Environment Failure → Result Environment Failure
answered_with a s (Ok x) = Ok (with_function a s x)
answered_with a s (Err f) = Err f

-- The specification names and needs the same objects by their new numbers.
pub record NeedsKept (p q : Package) (g : Gap) (d : Specification) : Type 0 where
  pub needed : needed_by_all q d ≡ all_beyond g.shared (needed_by_all p d)
  pub names : numbers_of q d.file d.names ≡ all_beyond g.shared (numbers_of p d.file d.names)

abbrev pub MaybeStands : (ℕ → ℕ → Bool) → Option Tree → Type 0
MaybeStands q None = Unit {0}
MaybeStands q (Some t) = EachNode q t

-- Its nodes stand at the bytes where they stood.
pub record PlacesKept (p q : Package) (d : Specification) : Type 0 where
  pub within : ℕ → ℕ → Bool
  pub itself : within d.first d.last ≡ true
  pub type_stands : MaybeStands within d.type_tree
  pub values_stand : AllByRecursion (EachNode within) d.values
  pub places : (i j : ℕ) → within i j ≡ true → bytes_of d.file (tokens_in q d.file) i j ≡ bytes_of d.file (tokens_in p d.file) i j

-- the bytes of the names of objects of the package
abbrev pub name_place : Package → Declared → Place
name_place p d = bytes_of d.file (tokens_in p d.file) d.name (suc d.name)

-- Where the package declares what another one does and one function between, specifications need the same, and stand at the same bytes.
pub record KeepsFaults (p q : Package) (ds es : List Specification) (g : Gap) (h : IsOneMore p q ds es g) : Type 0 where
  pub outlines_need : AllByRecursion (λ o. NeedsKept p q g o.specification) (outlines p ds)
  pub front_need : AllByRecursion (NeedsKept p q g) h.front
  pub rest_need : AllByRecursion (NeedsKept p q g) h.rest
  pub front_stand : AllByRecursion (PlacesKept p q) h.front
  pub rest_stand : AllByRecursion (PlacesKept p q) h.rest
  pub function : Place
  pub names_stand : map (name_place q) q.uses.package_level ≡ inserted g.shared function (map (name_place p) p.uses.package_level)

-- ---- bodies

-- Functions with their types from the number n on, and the same functions in the longer package.
abbrev pub FunctionsAlong : Package → Gap → ℕ → List Specification → List FuncContent → List FuncContent → Type 0
FunctionsAlong p g n [] [] [] = Unit {0}
FunctionsAlong p g n (d ∷ ds) (x ∷ xs) (y ∷ ys) = FunctionAlong (function_moves g) (λ k. true) (last_in (portion_of p d).tree) (beyond g.functions n) x y × FunctionsAlong p g (suc n) ds xs ys
FunctionsAlong p g n ds xs ys = ⊥

-- They have the same types, behind the same right sides; or the same fault is reported of one of them, at the bytes where it stood.
abbrev pub FunctionsStay : Package → Gap → ℕ → List Specification → Result Functions Failure → Result Functions Failure → Type 0
FunctionsStay p g n ds (Ok x) (Ok y) = FunctionsAlong p g n ds x.functions y.functions × (y.rights ≡ x.rights)
FunctionsStay p g n ds (Err f) (Err e) = e ≡ f
FunctionsStay p g n ds r q = ⊥

-- The functions in front of the appended one, and those behind it, which have the next numbers.
pub record KeepsBodies (p q : Package) (g : Gap) (a b : Surroundings) (function : Specification) (were are : List Specification) : Type 0 where
  pub front : List Specification
  pub rest : List Specification
  pub was : were ≡ front ++ rest
  pub is : are ≡ front ++ function ∷ rest
  pub front_stay : (rights : Rights) (n : ℕ) → n + length front ≤ g.functions → FunctionsStay p g n front (functions_from p a rights n front) (functions_from q b rights n front)
  pub rest_stay : (rights : Rights) (n : ℕ) → g.functions ≤ n → FunctionsStay p g n rest (functions_from p a rights n rest) (functions_from q b rights (suc n) rest)

-- ---- in which order

-- the file of an object of the package, and the token of its name
abbrev pub declared_spot : Declared → ℕ × ℕ
declared_spot d = (d.file, d.name)

-- the file of a function, and its second token
abbrev pub specified_spot : Specification → ℕ × ℕ
specified_spot d = (d.file, suc d.first)
