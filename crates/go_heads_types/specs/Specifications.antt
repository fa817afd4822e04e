-- Specifications of two packages with equal heads that are one, counted from the first tokens of their declarations.
use Rattle.std.specs.Prelude.{◌≡◌, ℕ, ◌+◌, ◌<◌, ◌≤◌, List, [], ◌∷◌, Option, Some, None}
use Rattle.go_grammar.specs.Trees.{Tree, last}
use Rattle.go_rewriting.specs.Lists.{InOrder}
use Rattle.go_heads.specs.Heads.{File}
use Rattle.go_package_defs.specs.Declarations.{Specification}
use Rattle.go_heads.specs.Lookups.{AtOnePlace}
use Rattle.go_heads_types.specs.Same.{IsFurther}

-- The nodes of the tree have tokens in order, among the first w ones.
abbrev pub Inside : ℕ → Tree → Type 0
Inside w t = InOrder t × (last t ≤ w)

abbrev pub MaybeInside : ℕ → Option Tree → Type 0
MaybeInside w None = Unit {0}
MaybeInside w (Some t) = Inside w t

abbrev pub AllInside : ℕ → List Tree → Type 0
AllInside w [] = Unit {0}
AllInside w (t ∷ ts) = Inside w t × AllInside w ts

abbrev pub AllBelow : ℕ → List ℕ → Type 0
AllBelow w [] = Unit {0}
AllBelow w (n ∷ ns) = (n < w) × AllBelow w ns

-- All that it is made of stands among the first w tokens.
pub record LiesIn (w : ℕ) (d : Specification) : Type 0 where
  pub names : AllBelow w d.names
  pub type_tree : MaybeInside w d.type_tree
  pub values : AllInside w d.values

-- Both are one, counted from two tokens, in files of one number; and so many tokens from there on stand outside of bodies, at one place of
-- the heads.
pub record IsOne (old new : List File) (d e : Specification) : Type 0 where
  pub one : Specification
  pub from : ℕ
  pub to : ℕ
  pub width : ℕ
  pub before : IsFurther from one d
  pub after : IsFurther to one e
  pub lies : LiesIn width one
  pub file : e.file ≡ d.file
  pub places : (i : ℕ) → i < width → AtOnePlace old new d.file (from + i) (to + i)

abbrev pub AreOne : List File → List File → List Specification → List Specification → Type 0
AreOne old new [] [] = Unit {0}
AreOne old new (d ∷ ds) (e ∷ es) = IsOne old new d e × AreOne old new ds es
AreOne old new _ _ = ⊥
