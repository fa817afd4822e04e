-- Expressions and types with other numbers of declared types.
use Rattle.std.proofs.Common.{◌≡◌, ◌∙◌, ℕ, List, [], ◌∷◌, ◌++◌, Option, Some, None, refl, sym, ap}
use Rattle.std.proofs.lemmas.List.{map-append}
use Rattle.go_grammar.specs.declared.kind.Kind.{Kind}
use Rattle.go_grammar.specs.Trees.{Tree, node, Trees, none, more, skip, kind_of}
use Rattle.go_exprs_rules.specs.declared.fault.TypeFault.{TypeFault}
use Rattle.go_exprs_rules.specs.Scopes.{Scope, Hint}
use Rattle.go_exprs_rules.specs.Settling.{Part}
use Rattle.go_exprs_rules.specs.Tables.{Parts, hint, part_scope, built, found}
use Rattle.go_exprs_rules.specs.Typing.{typing, typings, faults, faults_of_parts}
use Rattle.go_renumbering.specs.Renumbered.{part_renamed, hint_renamed, RenamedScopes, IsTypedRenamed}
use Rattle.go_renumbering.proofs.Hints.{hint_kept}
use Rattle.go_renumbering.proofs.Names.{scope_renamed}
use Rattle.go_renumbering.proofs.Nodes.{built_kept, found_kept}
use Rattle.go_renumbering.proofs.Parts.{optional, parts}

module _ (name : ℕ → ℕ) where
  abbrev told : Hint → Hint
  told h = hint_renamed name h

  -- a part of a node behind the parts xs
  abbrev part_typed : Scope → Kind → Hint → Trees → Parts → Tree → Part
  part_typed s k h all xs x = typing (part_scope s k xs) (hint s k h all xs (kind_of x)) x

  abbrev part_faults : Scope → Kind → Hint → Trees → Parts → Tree → List (List TypeFault)
  part_faults s k h all xs x = faults (part_scope s k xs) (hint s k h all xs (kind_of x)) x

  grown : (xs : Parts) (x : Option Part) → parts name xs ++ optional name x ∷ [] ≡ parts name (xs ++ x ∷ [])
  grown xs x = sym (map-append (optional name) xs (x ∷ []))

  part_kept : (s t : Scope) → RenamedScopes name s t → (k : Kind) (h : Hint) (all : Trees) (xs : Parts) (x : Tree)
      → typing (part_scope t k (parts name xs)) (told (hint s k h all xs (kind_of x))) x ≡ part_renamed name (part_typed s k h all xs x)
      → part_typed t k (told h) all (parts name xs) x ≡ part_renamed name (part_typed s k h all xs x)
  part_kept s t c k h all xs x e = ap (λ z. typing (part_scope t k (parts name xs)) z x) (hint_kept name s t c k h all xs (kind_of x)) ∙ e

  mutual
    pub typing_kept : (s t : Scope) → RenamedScopes name s t → (h : Hint) (x : Tree) → typing t (told h) x ≡ part_renamed name (typing s h x)
    typing_kept s t c h (node k i j ps) = ap (built t k (told h) i j) (typings_kept s t c k h ps [] ps) ∙ built_kept name s t c k h i j (typings s k h ps [] ps)

    typings_kept : (s t : Scope) → RenamedScopes name s t → (k : Kind) (h : Hint) (all : Trees) (xs : Parts) (ps : Trees) → typings t k (told h) all (parts name xs) ps ≡ parts name (typings s k h all xs ps)
    typings_kept s t c k h all xs none = refl
    typings_kept s t c k h all xs (skip ps) = ap (λ ys. typings t k (told h) all ys ps) (grown xs None) ∙ typings_kept s t c k h all (xs ++ None ∷ []) ps
    typings_kept s t c k h all xs (more x ps) =
        ap (λ y. typings t k (told h) all (parts name xs ++ Some y ∷ []) ps)
        (part_kept s t c k h all xs x (typing_kept (part_scope s k xs) (part_scope t k (parts name xs)) (scope_renamed name s t c k xs) (hint s k h all xs (kind_of x)) x))
        ∙ ap (λ ys. typings t k (told h) all ys ps) (grown xs (Some (part_typed s k h all xs x)))
        ∙ typings_kept s t c k h all (xs ++ Some (part_typed s k h all xs x) ∷ []) ps

  mutual
    pub faults_kept : (s t : Scope) → RenamedScopes name s t → (h : Hint) (x : Tree) → faults t (told h) x ≡ faults s h x
    faults_kept s t c h (node k i j ps) =
        ap (λ fs. fs ++ found t k (told h) i j (typings t k (told h) ps [] ps) ∷ []) (all_faults_kept s t c k h ps [] ps)
        ∙ ap (λ ys. faults_of_parts s k h ps [] ps ++ found t k (told h) i j ys ∷ []) (typings_kept s t c k h ps [] ps)
        ∙ ap (λ fs. faults_of_parts s k h ps [] ps ++ fs ∷ []) (found_kept name s t c k h i j (typings s k h ps [] ps))

    all_faults_kept : (s t : Scope) → RenamedScopes name s t → (k : Kind) (h : Hint) (all : Trees) (xs : Parts) (ps : Trees) → faults_of_parts t k (told h) all (parts name xs) ps ≡ faults_of_parts s k h all xs ps
    all_faults_kept s t c k h all xs none = refl
    all_faults_kept s t c k h all xs (skip ps) = ap (λ ys. faults_of_parts t k (told h) all ys ps) (grown xs None) ∙ all_faults_kept s t c k h all (xs ++ None ∷ []) ps
    all_faults_kept s t c k h all xs (more x ps) =
        let inner = scope_renamed name s t c k xs in
        let to = hint s k h all xs (kind_of x) in
        ap (λ fs. fs ++ faults_of_parts t k (told h) all (parts name xs ++ Some (part_typed t k (told h) all (parts name xs) x) ∷ []) ps)
        (ap (λ z. faults (part_scope t k (parts name xs)) z x) (hint_kept name s t c k h all xs (kind_of x)) ∙ faults_kept (part_scope s k xs) (part_scope t k (parts name xs)) inner to x)
        ∙ ap (λ y. part_faults s k h all xs x ++ faults_of_parts t k (told h) all (parts name xs ++ Some y ∷ []) ps)
        (part_kept s t c k h all xs x (typing_kept (part_scope s k xs) (part_scope t k (parts name xs)) inner to x))
        ∙ ap (λ ys. part_faults s k h all xs x ++ faults_of_parts t k (told h) all ys ps) (grown xs (Some (part_typed s k h all xs x)))
        ∙ ap (λ fs. part_faults s k h all xs x ++ fs) (all_faults_kept s t c k h all (xs ++ Some (part_typed s k h all xs x) ∷ []) ps)

pub typed_renamed : (name : ℕ → ℕ) (s t : Scope) (h : Hint) (x : Tree) → RenamedScopes name s t → IsTypedRenamed name s t h x
typed_renamed name s t h x c = record { typed = typing_kept name s t c h x; failing = faults_kept name s t c h x }
