-- What the files of a package declare (Go specification: Blocks, Declarations and scope, Short variable declarations).
use Rattle.std.specs.Prelude.{ℕ, suc, Bool, true, false, ◌&&◌, ◌||◌, if◌then◌else◌, nat_eq, nat_lt, List, [], ◌∷◌, ◌++◌, not}
use Rattle.go_tokens.specs.Tokens.{TokenList}
use Rattle.go_tokens.specs.Spellings.{same_text}
use Rattle.go_tree.specs.declared.context.Entity.{Entity}
use Rattle.go_tree.specs.declared.context.Entity.TheVariants as entity
use Rattle.go_tree.specs.declared.context.Manner.{Manner}
use Rattle.go_tree.specs.declared.context.Manner.TheVariants as manner
use Rattle.go_tree.specs.declared.context.Block.{Block}
use Rattle.go_tree.specs.declared.context.Block.TheVariants as block
use Rattle.go_tree.specs.declared.event.Declaration.{Declaration}
use Rattle.go_tree.specs.declared.event.Event.{Event}
use Rattle.go_tree.specs.declared.event.Event.TheVariants as event
use Rattle.go_tree.specs.Units.{Unit, word, is_blank, Place, bytes_at}

-- a declaration in a package: the number of its file, its name and the bytes of this name, and the declaration
pub record Found : Type 0 where
  pub file : ℕ
  pub name : List ℕ
  pub place : Place
  pub it : Declaration

abbrev pub found_event : ℕ → TokenList → Event → List Found → List Found
found_event n ts (event.Declaration d) fs = record { file = n; name = word ts d.name; place = bytes_at n ts d.name; it = d } ∷ fs
found_event n ts e fs = fs

abbrev pub found_in : ℕ → TokenList → List Event → List Found
found_in n ts [] = []
found_in n ts (e ∷ es) = found_event n ts e (found_in n ts es)

-- the declarations of the files, which are numbered from n on, with the names before each `:=`
abbrev pub found_from : ℕ → List Unit → List Found
found_from n [] = []
found_from n (u ∷ us) = found_in n u.tokens u.events ++ found_from (suc n) us

abbrev pub found : List Unit → List Found
found us = found_from 0 us

-- whether the block p of the file m is the block q of the file n
abbrev pub are_one_block : ℕ → Block → ℕ → Block → Bool
are_one_block m block.Package n block.Package = true
are_one_block m block.Package n (block.Local j) = false
are_one_block m (block.Local i) n block.Package = false
are_one_block m (block.Local i) n (block.Local j) = nat_eq m n && nat_eq i j

abbrev pub same_block : Found → Found → Bool
same_block a b = are_one_block a.file a.it.block b.file b.it.block

abbrev pub is_variable : Entity → Bool
is_variable entity.Variable = true
is_variable entity.Parameter = true
is_variable e = false

-- Short variable declarations: x is a variable of the block that an earlier statement than that of d declares under its name.
abbrev pub is_reused_of : Found → Found → Bool
is_reused_of d x = is_variable x.it.entity && nat_lt x.it.name d.it.statement && same_block d x && same_text d.name x.name

abbrev pub is_reused : Found → List Found → Bool
is_reused d [] = false
is_reused d (x ∷ xs) = is_reused_of d x || is_reused d xs

-- whether the name is declared here: it isn't blank, and no variable before `:=` that is there already
abbrev pub may_be_reused : Manner → Bool
may_be_reused manner.Defined = true
may_be_reused m = false

abbrev pub is_new : List Found → Found → Bool
is_new all d = not (is_blank d.name) && not (may_be_reused d.it.manner && is_reused d all)

abbrev pub new_among : List Found → List Found → List Found
new_among all [] = []
new_among all (d ∷ ds) = if is_new all d then d ∷ new_among all ds else new_among all ds

-- the declarations of a package
abbrev pub declarations : List Unit → List Found
declarations us = new_among (found us) (found us)

abbrev pub is_function : Entity → Bool
is_function entity.Function = true
is_function e = false
