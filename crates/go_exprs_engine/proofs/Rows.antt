-- One more part of a row: what is typed and what is left make what all make.
use Rattle.std.proofs.Common.{◌≡◌, ℕ, List, [], ◌∷◌, ◌++◌, Some, None, Result, Ok, Err, refl, ap, ◌∙◌}
use Rattle.go_grammar.specs.declared.kind.Kind.{Kind}
use Rattle.go_grammar.specs.Trees.{Tree, node, Trees, none, more, skip, kind_of}
use Rattle.go_exprs_rules.specs.declared.fault.TypeFault.{TypeFault}
use Rattle.go_exprs_rules.specs.Faults.{least, judged, reported}
use Rattle.go_exprs_rules.specs.Settling.{Part}
use Rattle.go_exprs_rules.specs.Scopes.{Scope, Hint}
use Rattle.go_exprs_rules.specs.Tables.{Parts, hint, part_scope, built, found}
use Rattle.go_exprs_rules.specs.Typing.{typing, typings, faults, faults_of_parts, answer}
use Rattle.go_exprs_engine.proofs.Answers.{instead, reported_append, reported_one, judged_ok, judged_err}

module _ (s : Scope) (k : Kind) (h : Hint) (all : Trees) where
  -- the answer over the parts that are typed and those that are left
  abbrev pub left : Parts → Trees → Result Parts TypeFault
  left xs ps = judged (reported (faults_of_parts s k h all xs ps)) (typings s k h all xs ps)

  -- the answer for the next part
  abbrev pub next : Parts → Tree → Result Part TypeFault
  next xs p = answer (part_scope s k xs) (hint s k h all xs (kind_of p)) p

  on_fault : (rest : List (List TypeFault)) (fs : List (List TypeFault)) (x : Part) (ys : Parts) (f : TypeFault) → judged (reported fs) x ≡ Err f → judged (reported (fs ++ rest)) ys ≡ Err f
  on_fault rest fs x ys f e = ap (λ r. judged r ys) (reported_append fs rest ∙ ap (λ r. instead r (reported rest)) (judged_err (reported fs) x f e))

  pub left_fails : (xs : Parts) (p : Tree) (ps : Trees) (f : TypeFault) → next xs p ≡ Err f → left xs (more p ps) ≡ Err f
  left_fails xs p ps f e =
      let told = hint s k h all xs (kind_of p) in
      let one = typing (part_scope s k xs) told p in
      on_fault (faults_of_parts s k h all (xs ++ Some one ∷ []) ps) (faults (part_scope s k xs) told p) one (typings s k h all (xs ++ Some one ∷ []) ps) f e

  pub left_more : (xs : Parts) (p : Tree) (ps : Trees) (x : Part) → next xs p ≡ Ok x → left xs (more p ps) ≡ left (xs ++ Some x ∷ []) ps
  left_more xs p ps x e =
      let told = hint s k h all xs (kind_of p) in
      let one = typing (part_scope s k xs) told p in
      let own = faults (part_scope s k xs) told p in
      let rest = faults_of_parts s k h all (xs ++ Some one ∷ []) ps in
      let split = judged_ok (reported own) one x e in
      ap (λ r. judged r (typings s k h all (xs ++ Some one ∷ []) ps)) (reported_append own rest ∙ ap (λ r. instead r (reported rest)) split.0)
      ∙ ap (λ y. left (xs ++ Some y ∷ []) ps) split.1

  pub left_skip : (xs : Parts) (ps : Trees) → left xs (skip ps) ≡ left (xs ++ None ∷ []) ps
  left_skip xs ps = refl

  pub left_none : (xs : Parts) → left xs none ≡ Ok xs
  left_none xs = refl

-- ---- the node above them

module _ (s : Scope) (k : Kind) (h : Hint) (i j : ℕ) (ps : Trees) where
  answer_is : answer s h (node k i j ps) ≡ judged (instead (reported (faults_of_parts s k h ps [] ps)) (least (found s k h i j (typings s k h ps [] ps)))) (built s k h i j (typings s k h ps [] ps))
  answer_is =
      let xs = typings s k h ps [] ps in
      let fs = faults_of_parts s k h ps [] ps in
      ap (λ r. judged r (built s k h i j xs)) (reported_append fs (found s k h i j xs ∷ []) ∙ ap (instead (reported fs)) (reported_one (found s k h i j xs)))

  pub answer_fails : (f : TypeFault) → left s k h ps [] ps ≡ Err f → answer s h (node k i j ps) ≡ Err f
  answer_fails f e =
      let xs = typings s k h ps [] ps in
      let none_else = judged_err (reported (faults_of_parts s k h ps [] ps)) xs f e in
      answer_is ∙ ap (λ r. judged (instead r (least (found s k h i j xs))) (built s k h i j xs)) none_else

  pub answer_over : (xs : Parts) → left s k h ps [] ps ≡ Ok xs → answer s h (node k i j ps) ≡ judged (least (found s k h i j xs)) (built s k h i j xs)
  answer_over xs e =
      let ys = typings s k h ps [] ps in
      let split = judged_ok (reported (faults_of_parts s k h ps [] ps)) ys xs e in
      answer_is ∙ ap (λ r. judged (instead r (least (found s k h i j ys))) (built s k h i j ys)) split.0 ∙ ap (λ zs. judged (least (found s k h i j zs)) (built s k h i j zs)) split.1
