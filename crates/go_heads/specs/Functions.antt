-- The functions of a package by their numbers, each by itself, and which are touched.
use Rattle.std.specs.Prelude.{◌≡◌, ℕ, zero, suc, ◌-◌, true, List, [], ◌∷◌, ◌++◌, length, map, Option, Some, None, is_some, slice_get}
use Rattle.std.specs.List.{AllByRecursion}
use Rattle.go_grammar.specs.Grammar.{IsFile}
use Rattle.go_grammar.specs.Trees.{Tree, Trees, none, more, skip, first, last, parts}
use Rattle.go_rewriting.specs.Places.{carry}
use Rattle.go_tokens.specs.Tokens.{TokenList, kinds}
use Rattle.go_tree.specs.Lists.{functions}
use Rattle.go_tree.specs.Units.{word}
use Rattle.go_heads.specs.Heads.{File, IsRead, body_of, without_body, outside, in_bodies, heads, outline}

-- a function and the file that it stands in
pub record Function : Type 0 where
  pub file : File
  pub tree : Tree

abbrev pub functions_in : File → List Function
functions_in f = map (λ t. record { file = f; tree = t }) (functions (parts f.tree))

-- the functions of a package by their numbers: in the order of files and places
abbrev pub all_functions : List File → List Function
all_functions [] = []
all_functions (f ∷ fs) = functions_in f ++ all_functions fs

-- ---- by itself

-- the texts of so many tokens from the number n on
abbrev pub texts_from : TokenList → ℕ → ℕ → List (List ℕ)
texts_from l n zero = []
texts_from l n (suc k) = word l n ∷ texts_from l (suc n) k

-- a tree by itself: the texts of its tokens, and the tree over them, which counts them from the first one
pub record Alone : Type 0 where
  pub texts : List (List ℕ)
  pub tree : Tree

abbrev pub alone : TokenList → Tree → Alone
alone l t = record { texts = texts_from l (first t) (last t - first t); tree = carry (λ n. n - first t) t }

-- a function, and its declaration without the body
abbrev pub function_alone : Function → Alone
function_alone g = alone g.file.tokens g.tree

abbrev pub signature_alone : Function → Alone
signature_alone g = alone g.file.tokens (without_body g.tree)

-- ---- touched functions

abbrev pub texts_in : TokenList → Option Tree → Option (List (List ℕ))
texts_in l None = None
texts_in l (Some b) = Some (texts_from l (first b) (last b - first b))

-- the texts of the tokens of its body, if it has one
abbrev pub body_texts : Function → Option (List (List ℕ))
body_texts g = texts_in g.file.tokens (body_of g.tree)

abbrev pub body_there : Option Function → Option (List (List ℕ))
body_there None = None
body_there (Some g) = body_texts g

-- Behind an old package, if there is one, the function of this number of the new one is touched: it has a body, and there is no old
-- package, or the heads differ, or the old one has no body there or one with other texts.
pub record IsTouched (old : Option (List File)) (new : List File) (n : ℕ) : Type 0 where
  pub function : Function
  pub there : slice_get (all_functions new) n ≡ Some function
  pub body : is_some (body_of function.tree) ≡ true
  pub other : (fs : List File) → old ≡ Some fs → heads fs ≡ heads new → body_there (slice_get (all_functions fs) n) ≡ body_texts function → ⊥

-- The heads are the same, and so is the function of this number by itself, with its body.
pub record IsUntouched (old new : List File) (n : ℕ) : Type 0 where
  pub heads : heads old ≡ heads new
  pub before : Function
  pub after : Function
  pub stood : slice_get (all_functions old) n ≡ Some before
  pub stands : slice_get (all_functions new) n ≡ Some after
  pub same : function_alone after ≡ function_alone before

-- ---- what is kept

-- The tokens outside the bodies have this tree.
pub record HasOutline (f : File) : Type 0 where
  pub is : IsFile (outside (in_bodies (parts f.tree)) 0 (kinds f.tokens.tokens)) (outline f.tree)

-- The functions with this number have the same name and the same signature; and where the texts of their bodies are the same
-- too, they are the same by themselves.
pub record KeepsFunctions (old new : List File) : Type 0 where
  pub count : length (all_functions new) ≡ length (all_functions old)
  pub signatures : (n : ℕ) (f g : Function) → slice_get (all_functions old) n ≡ Some f → slice_get (all_functions new) n ≡ Some g → signature_alone g ≡ signature_alone f
  pub bodies : (n : ℕ) (f g : Function) → slice_get (all_functions old) n ≡ Some f → slice_get (all_functions new) n ≡ Some g → body_texts g ≡ body_texts f → function_alone g ≡ function_alone f

-- a package whose files are read
abbrev pub AreRead : List File → Type 0
AreRead fs = AllByRecursion IsRead fs

abbrev pub outlines : List File → List Tree
outlines fs = map (λ f. outline f.tree) fs

-- ---- declarations

-- the parts that are there, in order
abbrev pub parts_there : Trees → List Tree
parts_there none = []
parts_there (more d ds) = d ∷ parts_there ds
parts_there (skip ds) = parts_there ds

-- the imports and the declarations of a file, each by itself and without its body
abbrev pub declarations_in : File → List Alone
declarations_in f = map (λ d. alone f.tokens (without_body d)) (parts_there (parts f.tree))

abbrev pub all_declarations : List File → List (List Alone)
all_declarations fs = map declarations_in fs
