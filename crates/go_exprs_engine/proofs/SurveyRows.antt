-- A node over its parts, and rows of parts, where faults don't end the typing.
use Rattle.std.proofs.Common.{◌≡◌, ℕ, ◌+◌, ◌<◌, List, [], ◌∷◌, ◌++◌, length, drop, get_or, Option, Some, None, refl, ap, sym, ◌∙◌}
use Rattle.std.proofs.lemmas.List.{append_assoc}
use Rattle.go_grammar.specs.declared.kind.Kind.{Kind}
use Rattle.go_grammar.specs.Trees.{Tree, node, Trees, kind_of, first, last, parts}
use Rattle.go_tree.specs.declared.node.Node.{Node}
use Rattle.go_tree.specs.Views.{view, views}
use Rattle.go_exprs_rules.specs.declared.fault.TypeFault.{TypeFault}
use Rattle.go_exprs_rules.specs.Faults.{least, earlier, joined}
use Rattle.go_exprs_rules.specs.Settling.{Part}
use Rattle.go_exprs_rules.specs.Scopes.{Scope, Hint}
use Rattle.go_exprs_rules.specs.Tables.{Parts, hint, part_scope, built, found}
use Rattle.go_exprs_rules.specs.Typing.{typing, typings, faults, faults_of_parts}
use Rattle.go_exprs_rules.proofs.Public.{least_append, earlier_assoc}
use Rattle.go_exprs_engine.proofs.Nodes.{drop_step}

-- ---- all faults of a row

pub joined_append : (xs ys : List (List TypeFault)) → joined (xs ++ ys) ≡ joined xs ++ joined ys
joined_append [] ys = refl
joined_append (fs ∷ xs) ys = ap (λ zs. fs ++ zs) (joined_append xs ys) ∙ sym (append_assoc fs (joined xs) (joined ys))

pub least_joined : (xs ys : List (List TypeFault)) → least (joined (xs ++ ys)) ≡ earlier (least (joined xs)) (least (joined ys))
least_joined xs ys = ap least (joined_append xs ys) ∙ least_append (joined xs) (joined ys)

pub earlier_none : (o : Option TypeFault) → earlier o None ≡ o
earlier_none None = refl
earlier_none (Some f) = refl

module _ (s : Scope) (k : Kind) (h : Hint) (all : Trees) (written : List (Option Node)) (i : ℕ) where
  abbrev typed_rest : Parts → List (Option Node) → Parts
  typed_rest xs ns = typings s k h all xs (views ns)

  abbrev rest_faults : Parts → List (Option Node) → Option TypeFault
  rest_faults xs ns = least (joined (faults_of_parts s k h all xs (views ns)))

  pub gap : (xs ys : Parts) (d : Option Node) (due : Parts) → i < length written → get_or written i d ≡ None → ys ≡ xs ++ None ∷ []
      → typed_rest xs (drop i written) ≡ due → typed_rest ys (drop (i + 1) written) ≡ due
  gap xs ys d due lt is e before = ap (λ zs. typed_rest zs (drop (i + 1) written)) e ∙ sym (ap (typed_rest xs) (drop_step written i None d lt (sym is))) ∙ before

  pub gap_faults : (xs ys : Parts) (d : Option Node) (o due : Option TypeFault) → i < length written → get_or written i d ≡ None → ys ≡ xs ++ None ∷ []
      → earlier o (rest_faults xs (drop i written)) ≡ due → earlier o (rest_faults ys (drop (i + 1) written)) ≡ due
  gap_faults xs ys d o due lt is e before =
      ap (λ zs. earlier o (rest_faults zs (drop (i + 1) written))) e ∙ sym (ap (λ ns. earlier o (rest_faults xs ns)) (drop_step written i None d lt (sym is))) ∙ before

  module _ (xs ys : Parts) (n : Node) (x : Part) (d : Option Node) (lt : i < length written) (is : get_or written i d ≡ Some n)
      (inner : Scope) (told : Hint) (where_is : inner ≡ part_scope s k xs) (told_is : told ≡ hint s k h all xs (kind_of (view n)))
      (x_is : x ≡ typing inner told (view n)) (e : ys ≡ xs ++ Some x ∷ []) where
    typed_there : x ≡ typing (part_scope s k xs) (hint s k h all xs (kind_of (view n))) (view n)
    typed_there = x_is ∙ ap (λ z. typing z told (view n)) where_is ∙ ap (λ z. typing (part_scope s k xs) z (view n)) told_is

    next_parts : ys ≡ xs ++ Some (typing (part_scope s k xs) (hint s k h all xs (kind_of (view n))) (view n)) ∷ []
    next_parts = e ∙ ap (λ z. xs ++ Some z ∷ []) typed_there

    pub part : (due : Parts) → typed_rest xs (drop i written) ≡ due → typed_rest ys (drop (i + 1) written) ≡ due
    part due before = ap (λ zs. typed_rest zs (drop (i + 1) written)) next_parts ∙ sym (ap (typed_rest xs) (drop_step written i (Some n) d lt (sym is))) ∙ before

    pub part_faults : (o p q due : Option TypeFault) → p ≡ least (joined (faults inner told (view n))) → q ≡ earlier o p
        → earlier o (rest_faults xs (drop i written)) ≡ due → earlier q (rest_faults ys (drop (i + 1) written)) ≡ due
    part_faults o p q due p_is q_is before =
        let own = faults (part_scope s k xs) (hint s k h all xs (kind_of (view n))) (view n) in
        let rest = rest_faults ys (drop (i + 1) written) in
        let there : p ≡ least (joined own) = p_is ∙ ap (λ z. least (joined (faults z told (view n)))) where_is ∙ ap (λ z. least (joined (faults (part_scope s k xs) z (view n)))) told_is in
        let zs = xs ++ Some (typing (part_scope s k xs) (hint s k h all xs (kind_of (view n))) (view n)) ∷ [] in
        let both : rest_faults xs (drop i written) ≡ earlier p rest =
        ap (rest_faults xs) (drop_step written i (Some n) d lt (sym is)) ∙ least_joined own (faults_of_parts s k h all zs (views (drop (i + 1) written)))
        ∙ ap (λ z. earlier z (rest_faults zs (drop (i + 1) written))) (sym there) ∙ ap (λ z. earlier p (rest_faults z (drop (i + 1) written))) (sym next_parts) in
        ap (λ z. earlier z rest) q_is ∙ earlier_assoc o p rest ∙ sym (ap (earlier o) both) ∙ before

-- ---- the node above them

module _ (s : Scope) (h : Hint) where
  pub node_typed : (n : Tree) (k : Kind) (i j : ℕ) (ps : Trees) (xs : Parts) (y : Part) → k ≡ kind_of n → i ≡ first n → j ≡ last n → ps ≡ parts n
      → xs ≡ typings s k h ps [] ps → y ≡ built s k h i j xs → y ≡ typing s h n
  node_typed (node k i j ps) k1 i1 j1 ps1 xs y ke ie je pe there e =
      e ∙ ap (built s k1 h i1 j1) there ∙ ap (λ z. built s k1 h i1 j1 (typings s k1 h z [] z)) pe ∙ ap (λ z. built s z h i1 j1 (typings s z h ps [] ps)) ke
      ∙ ap (λ z. built s k h z j1 (typings s k h ps [] ps)) ie ∙ ap (λ z. built s k h i z (typings s k h ps [] ps)) je

  pub node_faults : (n : Tree) (k : Kind) (i j : ℕ) (ps : Trees) (xs : Parts) (o p q : Option TypeFault) → k ≡ kind_of n → i ≡ first n → j ≡ last n → ps ≡ parts n
      → xs ≡ typings s k h ps [] ps → o ≡ least (joined (faults_of_parts s k h ps [] ps)) → p ≡ least (found s k h i j xs) → q ≡ earlier o p
      → q ≡ least (joined (faults s h n))
  node_faults (node k i j ps) k1 i1 j1 ps1 xs o p q ke ie je pe there o_is p_is q_is =
      let fs = faults_of_parts s k h ps [] ps in
      let own = found s k h i j (typings s k h ps [] ps) in
      let mine : p ≡ least own =
      p_is ∙ ap (λ z. least (found s k1 h i1 j1 z)) there ∙ ap (λ z. least (found s k1 h i1 j1 (typings s k1 h z [] z))) pe ∙ ap (λ z. least (found s z h i1 j1 (typings s z h ps [] ps))) ke
      ∙ ap (λ z. least (found s k h z j1 (typings s k h ps [] ps))) ie ∙ ap (λ z. least (found s k h i z (typings s k h ps [] ps))) je in
      let front : o ≡ least (joined fs) = o_is ∙ ap (λ z. least (joined (faults_of_parts s k1 h z [] z))) pe ∙ ap (λ z. least (joined (faults_of_parts s z h ps [] ps))) ke in
      q_is ∙ ap (λ z. earlier z p) front ∙ ap (earlier (least (joined fs))) (mine ∙ alone own) ∙ sym (least_joined fs (own ∷ []))
    where
      alone : (fs : List TypeFault) → least fs ≡ least (joined (fs ∷ []))
      alone fs = sym (least_append fs [] ∙ earlier_none (least fs))
