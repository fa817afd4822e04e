-- What files are but for the bodies of their functions.
use Rattle.std.specs.Prelude.{ℕ, zero, suc, Bool, false, ◌&&◌, ◌||◌, if◌then◌else◌, nat_le, nat_lt, List, [], ◌∷◌, map, Option, Some, None}
use Rattle.go_grammar.specs.Grammar.{IsFile}
use Rattle.go_grammar.specs.Trees.{Tree, node, Trees, none, more, skip, first, last, parts}
use Rattle.go_rewriting.specs.Places.{carry}
use Rattle.go_tokens.specs.Files.{IsLexing}
use Rattle.go_tokens.specs.Tokens.{TokenList, kinds, text_of}
use Rattle.go_tree.specs.Lists.{is_function}

-- a file: its name, its tokens with its text, and the tree over them
pub record File : Type 0 where
  pub name : List ℕ
  pub tokens : TokenList
  pub tree : Tree

-- These are the tokens of its bytes, and the tree is the derivation over them.
pub record IsRead (f : File) : Type 0 where
  pub lexing : IsLexing f.tokens.file f.tokens.text f.tokens.tokens f.tokens.comments
  pub tree : IsFile (kinds f.tokens.tokens) f.tree

-- ---- bodies

-- the body behind a signature, if there is one
abbrev pub body_behind : Trees → Option Tree
body_behind (more s (more b ps)) = Some b
body_behind ps = None

-- the body of a declaration that is a function with one
abbrev pub body_of : Tree → Option Tree
body_of (node k i j ps) = if is_function k then body_behind ps else None

abbrev pub is_within : Option Tree → ℕ → Bool
is_within None n = false
is_within (Some b) n = nat_le (first b) n && nat_lt n (last b)

-- whether a token is one of a body of these declarations
abbrev pub in_bodies : Trees → ℕ → Bool
in_bodies none n = false
in_bodies (more d ds) n = is_within (body_of d) n || in_bodies ds n
in_bodies (skip ds) n = in_bodies ds n

-- ---- heads

-- Of the elements with the numbers from n on, those whose number doesn't pass the test
abbrev pub outside : {A : Type 0} → (ℕ → Bool) → ℕ → List A → List A
outside test n [] = []
outside test n (x ∷ xs) = if test n then outside test (suc n) xs else x ∷ outside test (suc n) xs

-- the texts of tokens
abbrev pub texts : TokenList → List (List ℕ)
texts l = map (text_of l) l.tokens

-- the name of a file, and the texts of its tokens outside the bodies of functions
pub record Head : Type 0 where
  pub name : List ℕ
  pub texts : List (List ℕ)

abbrev pub head_of : File → Head
head_of f = record { name = f.name; texts = outside (in_bodies (parts f.tree)) 0 (texts f.tokens) }

-- the head of a package
abbrev pub heads : List File → List Head
heads fs = map head_of fs

-- ---- a file without the bodies of its functions

-- how many of the first n tokens are in none of the bodies
abbrev pub place_outside : (ℕ → Bool) → ℕ → ℕ
place_outside test zero = zero
place_outside test (suc n) = if test n then place_outside test n else suc (place_outside test n)

-- of a function with a body its declaration without it
abbrev pub without_body : Tree → Tree
without_body (node k i j (more s (more b ps))) = if is_function k then node k i (first b) (more s (skip ps)) else node k i j (more s (more b ps))
without_body t = t

abbrev pub without_bodies : Trees → Trees
without_bodies none = none
without_bodies (more d ds) = more (without_body d) (without_bodies ds)
without_bodies (skip ds) = skip (without_bodies ds)

-- the tree of a file over its tokens outside the bodies
abbrev pub outline : Tree → Tree
outline (node k i j ps) = carry (place_outside (in_bodies ps)) (node k i j (without_bodies ps))
