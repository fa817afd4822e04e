-- Statements whose declared types have numbers in order, behind those of all types that are known where they begin.
use Rattle.std.specs.Prelude.{◌≡◌, ℕ, suc, ◌<◌, ◌≤◌, Bool, nat_lt, List, [], ◌∷◌, Option, Some, None}
use Rattle.go_grammar.specs.declared.kind.Kind.{Kind}
use Rattle.go_grammar.specs.declared.kind.Kind.TheVariants as kind
use Rattle.go_grammar.specs.declared.kind.Sort.TheVariants as declaring
use Rattle.go_grammar.specs.Trees.{Tree, node, Trees, none, more, skip}
use Rattle.go_tree.specs.declared.object.Object.{Object}
use Rattle.go_types.specs.Trees.{TypeTree}
use Rattle.go_types_relations.specs.Questions.{entry}
use Rattle.go_exprs_rules.specs.Scopes.{Needed, Hint}
use Rattle.go_package_laws.specs.Reach.{Within, MaybeWithin, StandsWithin, HintWithin}
use Rattle.go_stmts_defs.specs.Frames.{Frame, Locals}
use Rattle.go_stmts_defs.specs.Laying.{type_number}
use Rattle.go_stmts_variables.specs.Steady.{Steady}

-- ---- numbers in order

-- the number of the type that is declared at each token, if one is
abbrev pub Numbers : Type 0
Numbers = ℕ → Option ℕ

abbrev pub next : Option ℕ → ℕ → ℕ
next (Some m) k = suc m
next None k = k

abbrev pub next_at : Numbers → Kind → ℕ → ℕ → ℕ
next_at t (kind.Specification declaring.Type) i k = next (t i) k
next_at t d i k = k

abbrev mutual
  -- the first number behind those of the types that are declared in the tree, where k is the first one in front of it
  pub behind : Numbers → ℕ → Tree → ℕ
  behind t k (node d i j ps) = behind_all t (next_at t d i k) ps

  pub behind_all : Numbers → ℕ → Trees → ℕ
  behind_all t k none = k
  behind_all t k (more p ps) = behind_all t (behind t k p) ps
  behind_all t k (skip ps) = behind_all t k ps

abbrev pub Follows : Option ℕ → ℕ → Type 0
Follows (Some m) k = k ≤ m
Follows None k = Unit {0}

abbrev pub FollowsAt : Numbers → Kind → ℕ → ℕ → Type 0
FollowsAt t (kind.Specification declaring.Type) i k = Follows (t i) k
FollowsAt t kind.FunctionDeclaration i k = ⊥
FollowsAt t d i k = Unit {0}

abbrev mutual
  -- The types that are declared have numbers in order, from k on. No function is declared.
  pub Ordered : Numbers → ℕ → Tree → Type 0
  Ordered t k (node d i j ps) = FollowsAt t d i k × AllOrdered t (next_at t d i k) ps

  pub AllOrdered : Numbers → ℕ → Trees → Type 0
  AllOrdered t k none = Unit {0}
  AllOrdered t k (more p ps) = Ordered t k p × AllOrdered t (behind t k p) ps
  AllOrdered t k (skip ps) = AllOrdered t k ps

-- ---- what is known in front

abbrev pub below : ℕ → ℕ → Bool
below k n = nat_lt n k

abbrev pub LocalsWithin : (ℕ → Bool) → Locals → Type 0
LocalsWithin p [] = Unit {0}
LocalsWithin p (None ∷ ls) = LocalsWithin p ls
LocalsWithin p (Some x ∷ ls) = StandsWithin p x × LocalsWithin p ls

abbrev pub ResultsWithin : (ℕ → Bool) → List TypeTree → Type 0
ResultsWithin p [] = Unit {0}
ResultsWithin p (t ∷ ts) = Within p t × ResultsWithin p ts

-- All that is known names types below k alone, and none has a right side but these.
pub record KnowsBelow (k : ℕ) (f : Frame) : Type 0 where
  pub rights : (n : ℕ) → n < k → MaybeWithin (below k) (entry f.around.rights n)
  pub none : (n : ℕ) → k ≤ n → entry f.around.rights n ≡ None
  pub sorts : (need : Needed) (o : Object) → StandsWithin (below k) (f.around.sorts need o)
  pub locals : LocalsWithin (below k) f.locals
  pub tag : StandsWithin (below k) f.tag
  pub results : ResultsWithin (below k) f.results

-- A tag is typed before its clauses, so its type is none of those that they declare.
abbrev pub OrderedAreSteady : Type 0
OrderedAreSteady = (k : ℕ) (f : Frame) (h : Hint) (x : Tree) → KnowsBelow k f → HintWithin (below k) h → Ordered (type_number f) k x → Steady f h x
