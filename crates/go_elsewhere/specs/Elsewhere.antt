-- Trees and typed trees whose tokens stand elsewhere.
use Rattle.std.specs.Prelude.{◌≡◌, ℕ, ◌-◌, List, map}
use Rattle.go_grammar.specs.declared.kind.Kind.{Kind}
use Rattle.go_grammar.specs.declared.kind.Kind.TheVariants as kind
use Rattle.go_grammar.specs.Trees.{Tree, node, Trees, none, more, skip}
use Rattle.go_rewriting.specs.Places.{carry}
use Rattle.go_types.specs.Trees.{TypeTree}
use Rattle.go_typed.specs.Trees.{typed, Typeds}
use Rattle.go_typed.specs.Trees as sort
use Rattle.go_exprs_rules.specs.declared.fault.TypeFault.{TypeFault}
use Rattle.go_exprs_rules.specs.Scopes.{Scope, Hint}
use Rattle.go_exprs_rules.specs.Settling.{Part}
use Rattle.go_exprs_rules.specs.Typing.{typing, faults}

abbrev mutual
  -- the typed tree with each token n at m n
  pub placed : (ℕ → ℕ) → Part → Part
  placed m (typed f i j l ps) = typed f (m i) (m j) l (all_placed m ps)

  pub all_placed : (ℕ → ℕ) → Typeds TypeTree → Typeds TypeTree
  all_placed m sort.none = sort.none
  all_placed m (sort.more x xs) = sort.more (placed m x) (all_placed m xs)
  all_placed m (sort.skip xs) = sort.skip (all_placed m xs)

abbrev pub fault_placed : (ℕ → ℕ) → TypeFault → TypeFault
fault_placed m f = record { code = f.code; first = m f.first; last = m f.last }

-- the scope in which the token n says and means what the token m n does
abbrev pub along : (ℕ → ℕ) → Scope → Scope
along m s = record s { texts = λ n. s.texts (m n); characters = λ n. s.characters (m n); objects = λ n. s.objects (m n) }

-- a selector's name is its last token
abbrev pub NameKept : (ℕ → ℕ) → Kind → ℕ → Type 0
NameKept m kind.Selector j = m (j - 1) ≡ m j - 1
NameKept m k j = Unit {0}

abbrev mutual
  -- the last token of each selector is the last one elsewhere too
  pub KeepsLast : (ℕ → ℕ) → Tree → Type 0
  KeepsLast m (node k i j ps) = NameKept m k j × AllKeepLast m ps

  pub AllKeepLast : (ℕ → ℕ) → Trees → Type 0
  AllKeepLast m none = Unit {0}
  AllKeepLast m (more t ts) = KeepsLast m t × AllKeepLast m ts
  AllKeepLast m (skip ts) = AllKeepLast m ts

-- The tree with its tokens elsewhere has the same types, and the same rules fail in it.
pub record IsTypedElsewhere (m : ℕ → ℕ) (s : Scope) (h : Hint) (t : Tree) : Type 0 where
  pub typed : typing s h (carry m t) ≡ placed m (typing (along m s) h t)
  pub failing : faults s h (carry m t) ≡ map (λ (fs : List TypeFault). map (fault_placed m) fs) (faults (along m s) h t)
