-- Expressions and types in scopes that say the same at their tokens.
use Rattle.std.proofs.Common.{◌≡◌, ℕ, Bool, [], ◌∷◌, ◌++◌, Some, None, refl, ap, ◌∙◌}
use Rattle.go_grammar.specs.declared.kind.Kind.{Kind}
use Rattle.go_grammar.specs.Trees.{Tree, node, Trees, none, more, skip, kind_of}
use Rattle.go_exprs_rules.specs.Scopes.{Scope, Hint}
use Rattle.go_exprs_rules.specs.Settling.{Part}
use Rattle.go_exprs_rules.specs.Tables.{Parts, hint, part_scope, built, found}
use Rattle.go_exprs_rules.specs.Typing.{typing, typings, faults, faults_of_parts}
use Rattle.go_package_alike.specs.Scopes.{Says, said, SaidSame, SaySame, AllTokens, TokensIn, IsTypedSame}
use Rattle.go_package_alike.proofs.Marks.{parts_marked}
use Rattle.go_package_alike.proofs.Nodes.{hint_same, scope_same, said_in_part, built_same, found_same}
use Rattle.go_package_alike.proofs.Said.{retold, is_told}

module _ (p : ℕ → Bool) (m : Says) where
  abbrev tell : Scope → Kind → Hint → Trees → Parts → Tree → Hint
  tell s k h all xs t = hint s k h all xs (kind_of t)

  abbrev typed_part : Scope → Kind → Hint → Trees → Parts → Tree → Part
  typed_part s k h all xs t = typing (part_scope s k xs) (tell s k h all xs t) t

  part_same : (s : Scope) (k : Kind) (h : Hint) (all : Trees) (xs : Parts) (t : Tree) → typing (retold (part_scope s k xs) m) (tell s k h all xs t) t ≡ typed_part s k h all xs t
      → typed_part (retold s m) k h all xs t ≡ typed_part s k h all xs t
  part_same s k h all xs t e =
      ap (λ z. typing z (tell (retold s m) k h all xs t) t) (scope_same p m s k xs) ∙ ap (λ z. typing (retold (part_scope s k xs) m) z t) (hint_same p m s k h all xs (kind_of t)) ∙ e

  mutual
    pub typed_same : (s : Scope) (h : Hint) (t : Tree) → SaidSame p (said s) m → AllTokens p t → typing (retold s m) h t ≡ typing s h t
    typed_same s h (node k i j ps) a w =
        ap (built (retold s m) k h i j) (parts_same s k h ps [] ps a w.1) ∙ built_same p m s a k h i j (typings s k h ps [] ps) w.0 (parts_marked p s k h ps [] ps w.1 tt)

    parts_same : (s : Scope) (k : Kind) (h : Hint) (all : Trees) (xs : Parts) (ts : Trees) → SaidSame p (said s) m → TokensIn p ts → typings (retold s m) k h all xs ts ≡ typings s k h all xs ts
    parts_same s k h all xs none a w = refl
    parts_same s k h all xs (skip ts) a w = parts_same s k h all (xs ++ None ∷ []) ts a w
    parts_same s k h all xs (more t ts) a w =
        ap (λ z. typings (retold s m) k h all (xs ++ Some z ∷ []) ts) (part_same s k h all xs t (typed_same (part_scope s k xs) (tell s k h all xs t) t (said_in_part p m s k xs a) w.0))
        ∙ parts_same s k h all (xs ++ Some (typed_part s k h all xs t) ∷ []) ts a w.1

  mutual
    pub faults_same : (s : Scope) (h : Hint) (t : Tree) → SaidSame p (said s) m → AllTokens p t → faults (retold s m) h t ≡ faults s h t
    faults_same s h (node k i j ps) a w =
        ap (λ fs. fs ++ found (retold s m) k h i j (typings (retold s m) k h ps [] ps) ∷ []) (part_faults_same s k h ps [] ps a w.1)
        ∙ ap (λ xs. faults_of_parts s k h ps [] ps ++ found (retold s m) k h i j xs ∷ []) (parts_same s k h ps [] ps a w.1)
        ∙ ap (λ fs. faults_of_parts s k h ps [] ps ++ fs ∷ []) (found_same p m s a k h i j (typings s k h ps [] ps) w.0 (parts_marked p s k h ps [] ps w.1 tt))

    part_faults_same : (s : Scope) (k : Kind) (h : Hint) (all : Trees) (xs : Parts) (ts : Trees) → SaidSame p (said s) m → TokensIn p ts
        → faults_of_parts (retold s m) k h all xs ts ≡ faults_of_parts s k h all xs ts
    part_faults_same s k h all xs none a w = refl
    part_faults_same s k h all xs (skip ts) a w = part_faults_same s k h all (xs ++ None ∷ []) ts a w
    part_faults_same s k h all xs (more t ts) a w =
        let scope = part_scope s k xs in
        let to = tell s k h all xs t in
        let inner = said_in_part p m s k xs a in
        let own : faults (part_scope (retold s m) k xs) (tell (retold s m) k h all xs t) t ≡ faults scope to t =
        ap (λ z. faults z (tell (retold s m) k h all xs t) t) (scope_same p m s k xs) ∙ ap (λ z. faults (retold scope m) z t) (hint_same p m s k h all xs (kind_of t)) ∙ faults_same scope to t inner w.0 in
        ap (λ fs. fs ++ faults_of_parts (retold s m) k h all (xs ++ Some (typed_part (retold s m) k h all xs t) ∷ []) ts) own
        ∙ ap (λ z. faults scope to t ++ faults_of_parts (retold s m) k h all (xs ++ Some z ∷ []) ts) (part_same s k h all xs t (typed_same scope to t inner w.0))
        ∙ ap (λ gs. faults scope to t ++ gs) (part_faults_same s k h all (xs ++ Some (typed_part s k h all xs t) ∷ []) ts a w.1)

pub expression_same : (p : ℕ → Bool) (s t : Scope) (h : Hint) (x : Tree) → SaySame p s t → AllTokens p x → IsTypedSame s t h x
expression_same p s t h x a w = record {
  typed = ap (λ z. typing z h x) (is_told p s t a) ∙ typed_same p (said t) s h x a.tokens w;
  failing = ap (λ z. faults z h x) (is_told p s t a) ∙ faults_same p (said t) s h x a.tokens w;
}
