-- Scopes that differ in what objects stand for, and the names of an expression in them.
use Rattle.std.specs.Prelude.{◌≡◌, ℕ, [], ◌∷◌, ◌++◌, Some, None}
use Rattle.go_grammar.specs.declared.kind.Kind.{Kind}
use Rattle.go_grammar.specs.declared.kind.Kind.TheVariants as kind
use Rattle.go_grammar.specs.Trees.{Tree, node, Trees, none, more, skip, kind_of}
use Rattle.go_tree.specs.declared.object.Object.{Object}
use Rattle.go_exprs_rules.specs.Names.{name_sort}
use Rattle.go_exprs_rules.specs.Scopes.{Needed, Scope, Hint}
use Rattle.go_exprs_rules.specs.Sorts.{Stands}
use Rattle.go_exprs_rules.specs.Tables.{Parts, hint, part_scope}
use Rattle.go_exprs_rules.specs.Typing.{typing, faults}

-- the scope in which objects stand for this
abbrev pub told : Scope → (Needed → Object → Stands) → Scope
told s r = record s { sorts = r }

abbrev pub NameAlike : Scope → (Needed → Object → Stands) → Kind → Hint → ℕ → Type 0
NameAlike s r kind.Name h i = name_sort (told s r) h i ≡ name_sort s h i
NameAlike s r k h i = Unit {0}

abbrev mutual
  -- each name of the tree stands for the same in both scopes, as it is needed there
  pub Alike : Scope → (Needed → Object → Stands) → Hint → Tree → Type 0
  Alike s r h (node k i j ps) = NameAlike s r k h i × PartsAlike s r k h ps [] ps

  pub PartsAlike : Scope → (Needed → Object → Stands) → Kind → Hint → Trees → Parts → Trees → Type 0
  PartsAlike s r k h all xs none = Unit {0}
  PartsAlike s r k h all xs (more p ps) =
      Alike (part_scope s k xs) r (hint s k h all xs (kind_of p)) p × PartsAlike s r k h all (xs ++ Some (typing (part_scope s k xs) (hint s k h all xs (kind_of p)) p) ∷ []) ps
  PartsAlike s r k h all xs (skip ps) = PartsAlike s r k h all (xs ++ None ∷ []) ps

-- An expression is typed the same, and the same rules fail in it.
pub record IsTypedAlike (s : Scope) (r : Needed → Object → Stands) (h : Hint) (t : Tree) : Type 0 where
  pub typed : typing (told s r) h t ≡ typing s h t
  pub failing : faults (told s r) h t ≡ faults s h t
