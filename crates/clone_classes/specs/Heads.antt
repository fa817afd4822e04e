-- Types and windows of two packages whose heads are equal: the texts of all tokens outside the bodies of functions. Objects of the
-- package block then have equal numbers where they have equal names. A type that is declared in the package block corresponds to
-- the one of its name. One that is declared in a function corresponds to the one that is declared at the same token of a
-- function of the same name whose body has equal token texts, and to no other.
use Rattle.std.specs.Prelude.{ℕ, ◌-◌, Bool, true, false, ◌&&◌, nat_eq, List, [], ◌∷◌, ◌++◌, map, take, drop, Option, Some, None, slice_get}
use Rattle.std.specs.Option.{option_map}
use Rattle.go_base.specs.Optional.{◌>>=◌}
use Rattle.go_grammar.specs.Trees.{Tree, first, last, parts}
use Rattle.go_tokens.specs.Tokens.{TokenList, text_of}
use Rattle.go_tree.specs.File.{FileTree}
use Rattle.go_tree.specs.Functions.{FunctionDeclarationTree, function_declaration_of}
use Rattle.go_tree.specs.Lists.{functions}
use Rattle.go_tree.specs.Spans.{token_text}
use Rattle.go_tree.specs.Views.{view, behind_first}
use Rattle.go_tree.specs.declared.object.Declared.{Declared}
use Rattle.go_types.specs.Keys.{kind_number}
use Rattle.go_types.specs.Tables.{type_of}
use Rattle.go_types.specs.Trees.{TypeTree, boolean, text, integer, array, slice, structure, function, declared, TypeRow, none, more}
use Rattle.go_types_relations.specs.Identity.{same_name, same_names}
use Rattle.go_typed.specs.declared.origin.Origin.{Origin}
use Rattle.go_typed.specs.declared.origin.Origin.TheVariants as origin
use Rattle.go_typed.specs.declared.window.Window.{Window}
use Rattle.go_typed.specs.Packages.{PackageView}
use Rattle.clone_window.specs.Bodies.{are_same, bodies_of}
use Rattle.clone_window.specs.Fields.{field_text}

-- ---- where a declared type stands

pub data Home : Type 0 where
  -- in the package block, by its name
  in_package : List ℕ → Home
  -- in a function, by the function's name, the texts of its body, and the token of the type's name counted from the function's
  -- first one
  in_function : List ℕ → List (List ℕ) → ℕ → Home

-- a function of a package: the tokens of its file, and its tree
pub record FunctionAt : Type 0 where
  pub tokens : TokenList
  pub tree : Tree

-- the functions of files, in order
abbrev pub functions_in : List FileTree → List FunctionAt
functions_in [] = []
functions_in (f ∷ fs) = map (λ t. record { tokens = f.tokens; tree = t }) (functions (behind_first (parts (view f.root)))) ++ functions_in fs

-- the texts of the tokens of a tree
abbrev pub texts_of : TokenList → Option Tree → List (List ℕ)
texts_of l None = []
texts_of l (Some t) = map (text_of l) (take (last t - first t) (drop (first t) l.tokens))

-- the home in a function of a name at a token of its file
abbrev pub home_in : FunctionAt → Declared → FunctionDeclarationTree → Option Home
home_in f d x = token_text f.tokens x.name >>= λ name. Some (in_function name (texts_of f.tokens x.body) (d.name - first f.tree))

abbrev pub local_home : PackageView → ℕ → ℕ → Option Home
local_home p func local =
    slice_get (functions_in p.files) func >>= λ f. slice_get p.uses.locals func >>= λ ds. slice_get ds local >>= λ d. function_declaration_of f.tree >>= home_in f d

abbrev pub package_home : PackageView → ℕ → Option Home
package_home p object =
    slice_get p.uses.package_level object >>= λ d. slice_get p.files d.file >>= λ f. option_map in_package (token_text f.tokens d.name)

abbrev pub home_at : PackageView → Option Origin → Option Home
home_at p None = None
home_at p (Some (origin.Package object)) = package_home p object
home_at p (Some (origin.Local func local)) = local_home p func local

-- the home of the declared type of this number; each of a package that type-checks has one
abbrev pub home_of : PackageView → ℕ → Option Home
home_of p n = home_at p (slice_get p.origins n)

-- ---- what corresponds

abbrev pub same_home : Home → Home → Bool
same_home (in_package a) (in_package b) = same_name a b
same_home (in_function a s i) (in_function b t j) = same_name a b && same_names s t && nat_eq i j
same_home _ _ = false

-- numbers that have no home are compared as numbers
abbrev pub homes_match : Option Home → Option Home → ℕ → ℕ → Bool
homes_match (Some h) (Some k) n m = same_home h k
homes_match None None n m = nat_eq n m
homes_match _ _ n m = false

-- Declared types of two packages correspond.
abbrev pub corresponds : PackageView → PackageView → ℕ → ℕ → Bool
corresponds p q n m = homes_match (home_of p n) (home_of q m) n m

abbrev mutual
  -- Types are identical, where a test says which declared ones are (Go specification: Type identity).
  pub matches : (ℕ → ℕ → Bool) → TypeTree → TypeTree → Bool
  matches d boolean boolean = true
  matches d text text = true
  matches d (integer k) (integer l) = nat_eq (kind_number k) (kind_number l)
  matches d (array n t) (array m u) = nat_eq n m && matches d t u
  matches d (slice t) (slice u) = matches d t u
  matches d (structure ns ts) (structure ms us) = same_names ns ms && all_match d ts us
  matches d (function ps rs) (function qs ss) = all_match d ps qs && all_match d rs ss
  matches d (declared n) (declared m) = d n m
  matches d _ _ = false

  pub all_match : (ℕ → ℕ → Bool) → TypeRow → TypeRow → Bool
  all_match d none none = true
  all_match d (more t ts) (more u us) = matches d t u && all_match d ts us
  all_match d _ _ = false

-- Types of two packages, by their numbers, are identical.
abbrev pub identical_between : PackageView → PackageView → ℕ → ℕ → Bool
identical_between p q t u = matches (corresponds p q) (type_of p.types.shapes t) (type_of q.types.shapes u)

-- A window of the one package and a window of the other are the same.
abbrev pub same_between : PackageView → PackageView → Window → Window → Bool
same_between p q w v = are_same (identical_between p q) (field_text p.types) (field_text q.types) (bodies_of p.functions) (bodies_of q.functions) w v
