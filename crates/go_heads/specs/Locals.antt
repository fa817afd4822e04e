-- The locals of functions, which follow from the functions by themselves.
use Rattle.std.specs.Prelude.{◌≡◌, ℕ, suc, ◌+◌, false, if◌then◌else◌, List, [], ◌∷◌, ◌++◌, map, Some, slice_get}
use Rattle.go_grammar.specs.Trees.{Tree, first, parts}
use Rattle.go_tokens.specs.Tokens.{TokenList}
use Rattle.go_tree.specs.declared.object.Declared.{Declared}
use Rattle.go_tree.specs.Contexts.{is_package}
use Rattle.go_tree.specs.Declarations.{Found}
use Rattle.go_tree.specs.Lists.{functions}
use Rattle.go_tree.specs.Units.{word, is_blank}
use Rattle.go_tree.specs.Uses.{declared_by, uses}
use Rattle.go_scopes_events.specs.Moved.{moved_block, moved_scope}
use Rattle.go_heads.specs.Functions.{Function, Alone, alone, function_alone}
use Rattle.go_heads.specs.Heads.{File}
use Rattle.go_heads.specs.Objects.{units_of}
use Rattle.go_heads.specs.Names.{own_declarations}

-- the locals among declarations, in order
abbrev pub locals_in : List Found → List Declared
locals_in [] = []
locals_in (d ∷ ds) = if is_package d.it.block then locals_in ds else declared_by d ∷ locals_in ds

-- those of a function by itself
abbrev pub own_locals : Alone → List Declared
own_locals a = locals_in (own_declarations a)

-- a local in a file, so many tokens further on
abbrev pub local_in_file : ℕ → ℕ → Declared → Declared
local_in_file n b d = record { file = n; name = b + d.name; entity = d.entity; block = moved_block b d.block; scope = moved_scope b d.scope }

-- the locals of each function of a file, which has the number n
abbrev pub locals_of_file : ℕ → File → List (List Declared)
locals_of_file n f = map (λ t. map (local_in_file n (first t)) (own_locals (alone f.tokens t))) (functions (parts f.tree))

-- the same of files, which are numbered from n on
abbrev pub all_locals : ℕ → List File → List (List Declared)
all_locals n [] = []
all_locals n (f ∷ fs) = locals_of_file n f ++ all_locals (suc n) fs

-- No function has the blank name, which declares nothing (Go specification: Blank identifier).
abbrev pub HaveNames : TokenList → List Tree → Type 0
HaveNames l [] = Unit {0}
HaveNames l (t ∷ ts) = (is_blank (word l (suc (first t))) ≡ false) × HaveNames l ts

abbrev pub AreNamed : List File → Type 0
AreNamed [] = Unit {0}
AreNamed (f ∷ fs) = HaveNames f.tokens (functions (parts f.tree)) × AreNamed fs

-- The functions of the number k of two packages have the same locals but for the places where the functions stand: as many, each
-- declared as the same, in blocks and scopes that lie the same from the function's first token on.
pub record SameLocals (old new : List File) (k : ℕ) (f g : Function) : Type 0 where
  pub old_file : ℕ
  pub new_file : ℕ
  pub before : slice_get (uses (units_of old)).locals k ≡ Some (map (local_in_file old_file (first f.tree)) (own_locals (function_alone f)))
  pub after : slice_get (uses (units_of new)).locals k ≡ Some (map (local_in_file new_file (first g.tree)) (own_locals (function_alone f)))
