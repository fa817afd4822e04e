-- What the names of a package mean at a place (Go specification: Blocks, Declarations and scope).
--
-- A name that is looked up has the meaning whose extent covers it and lies inside all other such extents.
use Rattle.std.specs.Prelude.{ℕ, suc, ◌-◌, Bool, true, false, ◌&&◌, if◌then◌else◌, List, [], ◌∷◌, ◌++◌, Option, Some, None, codes}
use Rattle.go_tokens.specs.Spellings.{same_text}
use Rattle.go_tree.specs.declared.context.Entity.{Entity}
use Rattle.go_tree.specs.declared.context.Block.{Block}
use Rattle.go_tree.specs.declared.context.Block.TheVariants as block
use Rattle.go_tree.specs.declared.object.Extent.{Extent}
use Rattle.go_tree.specs.declared.object.Extent.TheVariants as extent
use Rattle.go_tree.specs.declared.object.Object.{Object}
use Rattle.go_tree.specs.declared.object.Object.TheVariants as object
use Rattle.go_tree.specs.Units.{Unit}
use Rattle.go_tree.specs.Declarations.{Found, is_function, declarations}
use Rattle.go_tree.specs.Extents.{covers, lies_inside, extent_of}
use Rattle.go_tree.specs.Imports.{imports_fmt}

-- a name with a meaning
pub record Meaning : Type 0 where
  pub name : List ℕ
  pub extent : Extent
  pub object : Object
  -- its declaration, if it isn't imported
  pub source : Option Found

abbrev pub declared_meaning : Found → Object → Meaning
declared_meaning d o = record { name = d.name; extent = extent_of d; object = o; source = Some d }

-- The numbers that come next: of the package's objects, of the functions, and of the locals of the present function.
pub record Numbers : Type 0 where
  pub shared : ℕ
  pub functions : ℕ
  pub local : ℕ

abbrev pub first_numbers : Numbers
first_numbers = record { shared = 0; functions = 0; local = 0 }

-- A local is one of the last function that was declared in front of it.
abbrev pub own_number : Numbers → Block → Object
own_number k block.Package = object.Package k.shared
own_number k (block.Local i) = object.Local (k.functions - 1) k.local

-- the numbers behind a function and behind another object of the package
abbrev pub behind_shared : Numbers → Bool → Numbers
behind_shared k true = record { shared = suc k.shared; functions = suc k.functions; local = 0 }
behind_shared k false = record k { shared = suc k.shared }

abbrev pub numbers_behind : Numbers → Entity → Block → Numbers
numbers_behind k e block.Package = behind_shared k (is_function e)
numbers_behind k e (block.Local i) = record k { local = suc k.local }

-- What the declarations mean. The objects of the package are numbered in order, the functions too, and the locals of each
-- function, each from 0 on.
abbrev pub numbered : Numbers → List Found → List Meaning
numbered k [] = []
numbered k (d ∷ ds) = declared_meaning d (own_number k d.it.block) ∷ numbered (numbers_behind k d.it.entity d.it.block) ds

abbrev pub imported_meaning : ℕ → Meaning
imported_meaning n = record { name = codes "fmt"; extent = extent.Throughout n; object = object.Import; source = None }

-- what the imports mean, each in its file
abbrev pub imported_from : ℕ → List Unit → List Meaning
imported_from n [] = []
imported_from n (u ∷ us) = if imports_fmt u.tokens u.events then imported_meaning n ∷ imported_from (suc n) us else imported_from (suc n) us

abbrev pub meanings : List Unit → List Meaning
meanings us = imported_from 0 us ++ numbered first_numbers (declarations us)

-- the meanings of a name that cover a place
abbrev pub covering : ℕ → ℕ → List ℕ → List Meaning → List Meaning
covering n t w [] = []
covering n t w (m ∷ ms) = if same_text m.name w && covers m.extent n t then m ∷ covering n t w ms else covering n t w ms

abbrev pub is_innermost : Extent → List Meaning → Bool
is_innermost e [] = true
is_innermost e (m ∷ ms) = lies_inside e m.extent && is_innermost e ms

-- The innermost: of meanings with equal extents the first counts.
abbrev pub innermost_of : List Meaning → List Meaning → Option Meaning
innermost_of all [] = None
innermost_of all (m ∷ ms) = if is_innermost m.extent all then Some m else innermost_of all ms

abbrev pub innermost : List Meaning → Option Meaning
innermost ms = innermost_of ms ms

-- the declared or imported meaning of a name at a place, the token t of the file n
abbrev pub meaning_at : List Meaning → ℕ → ℕ → List ℕ → Option Meaning
meaning_at ms n t w = innermost (covering n t w ms)
