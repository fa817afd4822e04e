-- The typing of an expression or a type, over the tables.
--
-- A part is typed by what it is told, the parts from left to right, then the node. Above a fault nodes stand for nothing known
-- and are not judged, so the first failing node in post-order and the least of all failing places are both told by one list.
use Rattle.std.specs.Prelude.{List, [], ◌∷◌, ◌++◌, Some, None, Result}
use Rattle.go_grammar.specs.declared.kind.Kind.{Kind}
use Rattle.go_grammar.specs.Trees.{Tree, node, Trees, none, more, skip, kind_of}
use Rattle.go_exprs_rules.specs.declared.fault.TypeFault.{TypeFault}
use Rattle.go_exprs_rules.specs.Faults.{judged, reported}
use Rattle.go_exprs_rules.specs.Settling.{Part}
use Rattle.go_exprs_rules.specs.Scopes.{Scope, Hint}
use Rattle.go_exprs_rules.specs.Tables.{Parts, hint, part_scope, built, found}

abbrev mutual
  -- the typed tree
  pub typing : Scope → Hint → Tree → Part
  typing s h (node k i j ps) = built s k h i j (typings s k h ps [] ps)

  -- the parts that are typed, and those that are left; the argument all has all parts as they are written
  pub typings : Scope → Kind → Hint → Trees → Parts → Trees → Parts
  typings s k h all xs none = xs
  typings s k h all xs (more p ps) = typings s k h all (xs ++ Some (typing (part_scope s k xs) (hint s k h all xs (kind_of p)) p) ∷ []) ps
  typings s k h all xs (skip ps) = typings s k h all (xs ++ None ∷ []) ps

abbrev mutual
  -- for each node, in post-order, its rules that fail
  pub faults : Scope → Hint → Tree → List (List TypeFault)
  faults s h (node k i j ps) = faults_of_parts s k h ps [] ps ++ found s k h i j (typings s k h ps [] ps) ∷ []

  pub faults_of_parts : Scope → Kind → Hint → Trees → Parts → Trees → List (List TypeFault)
  faults_of_parts s k h all xs none = []
  faults_of_parts s k h all xs (more p ps) =
      faults (part_scope s k xs) (hint s k h all xs (kind_of p)) p
      ++ faults_of_parts s k h all (xs ++ Some (typing (part_scope s k xs) (hint s k h all xs (kind_of p)) p) ∷ []) ps
  faults_of_parts s k h all xs (skip ps) = faults_of_parts s k h all (xs ++ None ∷ []) ps

-- the typed tree, or the reported fault of an expression in a body
abbrev pub answer : Scope → Hint → Tree → Result Part TypeFault
answer s h t = judged (reported (faults s h t)) (typing s h t)
