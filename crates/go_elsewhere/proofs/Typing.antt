-- Expressions and types elsewhere.
use Rattle.std.proofs.Common.{◌≡◌, ◌∙◌, ℕ, Bool, false, List, [], ◌∷◌, ◌++◌, map, Option, Some, None, refl, sym, ap}
use Rattle.std.specs.Prelude.{if◌then◌else◌}
use Rattle.std.proofs.lemmas.List.{map-append}
use Rattle.go_grammar.specs.declared.kind.Kind.{Kind}
use Rattle.go_grammar.specs.declared.kind.Kind.TheVariants as kind
use Rattle.go_grammar.specs.Trees.{Tree, node, Trees, none, more, skip, kind_of}
use Rattle.go_grammar.specs.Grammar.{is_name, is_parameter, ends_from}
use Rattle.go_rewriting.specs.Places.{carry, carries}
use Rattle.go_types.specs.Relations.{Rights}
use Rattle.go_typed.specs.Trees.{typed}
use Rattle.go_exprs_rules.specs.declared.fault.TypeFault.{TypeFault}
use Rattle.go_exprs_rules.specs.Scopes.{Scope, Hint, loose, declares}
use Rattle.go_exprs_rules.specs.Settling.{Part}
use Rattle.go_exprs_rules.specs.Tables.{Parts, argument_told, call_told, element_told, composite_told, keyed_told, skips_first, as_type_place, sequence_told, names_told, hint, part_scope, built, found}
use Rattle.go_exprs_rules.specs.Typing.{typing, typings, faults, faults_of_parts}
use Rattle.go_elsewhere.specs.Elsewhere.{placed, along, KeepsLast, AllKeepLast, IsTypedElsewhere}
use Rattle.go_elsewhere.proofs.Nodes.{built_kept, found_kept}
use Rattle.go_elsewhere.proofs.Parts.{optional, parts, fails}
use Rattle.go_elsewhere.proofs.TypeNodes.{type_kept}

module _ (m : ℕ → ℕ) where
  -- ---- what parts are told

  kind_kept : (t : Tree) → kind_of (carry m t) ≡ kind_of t
  kind_kept (node k i j ps) = refl

  ends_kept : (b : Bool) (ps : Trees) → ends_from b (carries m ps) ≡ ends_from b ps
  ends_kept b none = refl
  ends_kept b (more (node k i j qs) ps) = ends_kept (is_parameter k) ps
  ends_kept b (skip ps) = ends_kept false ps

  skips_kept : (ps : Trees) → skips_first (carries m ps) ≡ skips_first ps
  skips_kept none = refl
  skips_kept (more t ps) = refl
  skips_kept (skip ps) = refl

  argument_kept : (xs : Parts) → argument_told (parts m xs) ≡ argument_told xs
  argument_kept [] = refl
  argument_kept (None ∷ xs) = refl
  argument_kept (Some (typed f i j l ps) ∷ []) = refl
  argument_kept (Some x ∷ y ∷ ys) = refl

  call_told_kept : (xs : Parts) → call_told (parts m xs) ≡ call_told xs
  call_told_kept [] = refl
  call_told_kept (x ∷ xs) = argument_kept (x ∷ xs)

  composite_kept : (rights : Rights) (xs : Parts) → composite_told rights (parts m xs) ≡ composite_told rights xs
  composite_kept rights [] = refl
  composite_kept rights (t ∷ xs) = ap (element_told rights) (type_kept m t)

  keyed_kept : (h : Hint) (xs : Parts) → keyed_told h (parts m xs) ≡ keyed_told h xs
  keyed_kept h [] = refl
  keyed_kept h (x ∷ xs) = refl

  sequence_kept : (h : Hint) (ps : Trees) (xs : Parts) → sequence_told h (carries m ps) (parts m xs) ≡ sequence_told h ps xs
  sequence_kept h ps [] = refl
  sequence_kept h ps (x ∷ xs) = ap (λ b. if b then loose else as_type_place h) (skips_kept ps)

  names_kept : (h : Hint) (xs : Parts) → names_told h (parts m xs) ≡ names_told h xs
  names_kept h [] = refl
  names_kept h (x ∷ xs) = refl

  hint_kept : (s : Scope) (k : Kind) (h : Hint) (ps : Trees) (xs : Parts) (n : Kind) → hint s k h (carries m ps) (parts m xs) n ≡ hint (along m s) k h ps xs n
  hint_kept s kind.Call h ps xs n = call_told_kept xs
  hint_kept s kind.Composite h ps xs n = composite_kept s.rights xs
  hint_kept s kind.Keyed h ps xs n = keyed_kept h xs
  hint_kept s kind.SequenceType h ps xs n = sequence_kept h ps xs
  hint_kept s kind.Parameters h ps xs n = ap (λ b. if b then (if is_name n then declares else h) else as_type_place h) (ends_kept false ps)
  hint_kept s kind.Parameter h ps xs n = names_kept h xs
  hint_kept s kind.Fields h ps xs n = names_kept h xs
  hint_kept s k h ps xs n = refl

  scope_kept : (s : Scope) (k : Kind) (xs : Parts) → part_scope s k (parts m xs) ≡ part_scope s k xs
  scope_kept s kind.SequenceType [] = refl
  scope_kept s kind.SequenceType (x ∷ xs) = refl
  scope_kept s k xs = refl

  scope_along : (s : Scope) (k : Kind) (xs : Parts) → along m (part_scope s k xs) ≡ part_scope (along m s) k xs
  scope_along s kind.SequenceType [] = refl
  scope_along s kind.SequenceType (x ∷ xs) = refl
  scope_along s k xs = refl

  -- ---- trees

  abbrev told : Scope → Kind → Hint → Trees → Parts → Tree → Hint
  told s k h all xs t = hint (along m s) k h all xs (kind_of t)

  abbrev part_typed : Scope → Kind → Hint → Trees → Parts → Tree → Part
  part_typed s k h all xs t = typing (part_scope (along m s) k xs) (told s k h all xs t) t

  told_kept : (s : Scope) (k : Kind) (h : Hint) (all : Trees) (xs : Parts) (t : Tree) → hint s k h (carries m all) (parts m xs) (kind_of (carry m t)) ≡ told s k h all xs t
  told_kept s k h all xs t = ap (hint s k h (carries m all) (parts m xs)) (kind_kept t) ∙ hint_kept s k h all xs (kind_of t)

  grown : (xs : Parts) (x : Option Part) → parts m xs ++ optional m x ∷ [] ≡ parts m (xs ++ x ∷ [])
  grown xs x = sym (map-append (optional m) xs (x ∷ []))

  part_kept : (s : Scope) (k : Kind) (h : Hint) (all : Trees) (xs : Parts) (t : Tree) → typing (part_scope s k xs) (told s k h all xs t) (carry m t) ≡ placed m (typing (along m (part_scope s k xs)) (told s k h all xs t) t)
      → typing (part_scope s k (parts m xs)) (hint s k h (carries m all) (parts m xs) (kind_of (carry m t))) (carry m t) ≡ placed m (part_typed s k h all xs t)
  part_kept s k h all xs t e =
      ap (λ z. typing z (hint s k h (carries m all) (parts m xs) (kind_of (carry m t))) (carry m t)) (scope_kept s k xs)
      ∙ ap (λ z. typing (part_scope s k xs) z (carry m t)) (told_kept s k h all xs t)
      ∙ e
      ∙ ap (λ z. placed m (typing z (told s k h all xs t) t)) (scope_along s k xs)

  mutual
    pub typed_kept : (s : Scope) (h : Hint) (t : Tree) → KeepsLast m t → typing s h (carry m t) ≡ placed m (typing (along m s) h t)
    typed_kept s h (node k i j ps) e = ap (built s k h (m i) (m j)) (parts_kept s k h ps [] ps e.1) ∙ built_kept m s k h i j (typings (along m s) k h ps [] ps) e.0

    parts_kept : (s : Scope) (k : Kind) (h : Hint) (all : Trees) (xs : Parts) (ps : Trees) → AllKeepLast m ps → typings s k h (carries m all) (parts m xs) (carries m ps) ≡ parts m (typings (along m s) k h all xs ps)
    parts_kept s k h all xs none e = refl
    parts_kept s k h all xs (skip ps) e = ap (λ ys. typings s k h (carries m all) ys (carries m ps)) (grown xs None) ∙ parts_kept s k h all (xs ++ None ∷ []) ps e
    parts_kept s k h all xs (more t ps) e =
        ap (λ y. typings s k h (carries m all) (parts m xs ++ Some y ∷ []) (carries m ps)) (part_kept s k h all xs t (typed_kept (part_scope s k xs) (told s k h all xs t) t e.0))
        ∙ ap (λ ys. typings s k h (carries m all) ys (carries m ps)) (grown xs (Some (part_typed s k h all xs t)))
        ∙ parts_kept s k h all (xs ++ Some (part_typed s k h all xs t) ∷ []) ps e.1

  abbrev all_fails : List (List TypeFault) → List (List TypeFault)
  all_fails fs = map (fails m) fs

  mutual
    pub faults_kept : (s : Scope) (h : Hint) (t : Tree) → KeepsLast m t → faults s h (carry m t) ≡ all_fails (faults (along m s) h t)
    faults_kept s h (node k i j ps) e =
        let xs = typings (along m s) k h ps [] ps in
        ap (λ fs. fs ++ found s k h (m i) (m j) (typings s k h (carries m ps) [] (carries m ps)) ∷ []) (parts_faults_kept s k h ps [] ps e.1)
        ∙ ap (λ ys. all_fails (faults_of_parts (along m s) k h ps [] ps) ++ found s k h (m i) (m j) ys ∷ []) (parts_kept s k h ps [] ps e.1)
        ∙ ap (λ fs. all_fails (faults_of_parts (along m s) k h ps [] ps) ++ fs ∷ []) (found_kept m s k h i j xs e.0)
        ∙ sym (map-append (fails m) (faults_of_parts (along m s) k h ps [] ps) (found (along m s) k h i j xs ∷ []))

    parts_faults_kept : (s : Scope) (k : Kind) (h : Hint) (all : Trees) (xs : Parts) (ps : Trees) → AllKeepLast m ps
        → faults_of_parts s k h (carries m all) (parts m xs) (carries m ps) ≡ all_fails (faults_of_parts (along m s) k h all xs ps)
    parts_faults_kept s k h all xs none e = refl
    parts_faults_kept s k h all xs (skip ps) e = ap (λ ys. faults_of_parts s k h (carries m all) ys (carries m ps)) (grown xs None) ∙ parts_faults_kept s k h all (xs ++ None ∷ []) ps e
    parts_faults_kept s k h all xs (more t ps) e =
        let to = told s k h all xs t in
        let x = part_typed s k h all xs t in
        let here : faults (part_scope s k (parts m xs)) (hint s k h (carries m all) (parts m xs) (kind_of (carry m t))) (carry m t) ≡ all_fails (faults (part_scope (along m s) k xs) to t) =
        ap (λ z. faults z (hint s k h (carries m all) (parts m xs) (kind_of (carry m t))) (carry m t)) (scope_kept s k xs)
        ∙ ap (λ z. faults (part_scope s k xs) z (carry m t)) (told_kept s k h all xs t)
        ∙ faults_kept (part_scope s k xs) to t e.0
        ∙ ap (λ z. all_fails (faults z to t)) (scope_along s k xs) in
        ap (λ fs. fs ++ faults_of_parts s k h (carries m all) (parts m xs ++ Some (typing (part_scope s k (parts m xs)) (hint s k h (carries m all) (parts m xs) (kind_of (carry m t))) (carry m t)) ∷ []) (carries m ps)) here
        ∙ ap (λ y. all_fails (faults (part_scope (along m s) k xs) to t) ++ faults_of_parts s k h (carries m all) (parts m xs ++ Some y ∷ []) (carries m ps)) (part_kept s k h all xs t (typed_kept (part_scope s k xs) to t e.0))
        ∙ ap (λ ys. all_fails (faults (part_scope (along m s) k xs) to t) ++ faults_of_parts s k h (carries m all) ys (carries m ps)) (grown xs (Some x))
        ∙ ap (λ fs. all_fails (faults (part_scope (along m s) k xs) to t) ++ fs) (parts_faults_kept s k h all (xs ++ Some x ∷ []) ps e.1)
        ∙ sym (map-append (fails m) (faults (part_scope (along m s) k xs) to t) (faults_of_parts (along m s) k h all (xs ++ Some x ∷ []) ps))

pub typed_elsewhere : (m : ℕ → ℕ) (s : Scope) (h : Hint) (t : Tree) → KeepsLast m t → IsTypedElsewhere m s h t
typed_elsewhere m s h t e = record { typed = typed_kept m s h t e; failing = faults_kept m s h t e }
