-- Where right sides agree that are reached, expressions and types are typed the same.
use Rattle.std.proofs.Common.{◌≡◌, ℕ, Bool, [], ◌∷◌, ◌++◌, Option, Some, None, refl, ap, ◌∙◌}
use Rattle.go_grammar.specs.declared.kind.Kind.{Kind}
use Rattle.go_grammar.specs.declared.kind.Kind.TheVariants as kind
use Rattle.go_grammar.specs.Trees.{Tree, node, Trees, none, more, skip, kind_of}
use Rattle.go_types.specs.Relations.{Rights}
use Rattle.go_exprs_rules.specs.Scopes.{Scope, Hint}
use Rattle.go_exprs_rules.specs.Settling.{Part}
use Rattle.go_exprs_rules.specs.Tables.{Parts, hint, in_length, part_scope, built, found}
use Rattle.go_exprs_rules.specs.Typing.{typing, typings, faults, faults_of_parts}
use Rattle.go_package_laws.specs.Reach.{AgreeOn, PartWithin, PartsWithin, HintWithin, Standing, moved, NamesAgree, PartsAgree, IsTypedSo}
use Rattle.go_package_laws.proofs.Nodes.{append_within, hint_same, hint_within, built_same, found_same, built_within}

module _ (p : ℕ → Bool) (new : Rights) (r : Standing) where
  -- ---- the scope of a part

  length_same : (s : Scope) (xs : Parts) → in_length (moved s new r) xs ≡ moved (in_length s xs) new r
  length_same s [] = refl
  length_same s (x ∷ xs) = refl

  pub scope_same : (s : Scope) (k : Kind) (xs : Parts) → part_scope (moved s new r) k xs ≡ moved (part_scope s k xs) new r
  scope_same s kind.SequenceType xs = length_same s xs
  scope_same s k xs = refl

  length_agrees : (s : Scope) (xs : Parts) → AgreeOn p s.rights new → AgreeOn p (in_length s xs).rights new
  length_agrees s [] a = a
  length_agrees s (x ∷ xs) a = a

  pub scope_agrees : (s : Scope) (k : Kind) (xs : Parts) → AgreeOn p s.rights new → AgreeOn p (part_scope s k xs).rights new
  scope_agrees s kind.SequenceType xs a = length_agrees s xs a
  scope_agrees s k xs a = a

  -- ---- one part more

  more_within : (xs : Parts) (x : Option Part) → PartsWithin p xs → PartsWithin p (x ∷ []) → PartsWithin p (xs ++ x ∷ [])
  more_within xs x w v = append_within p xs (x ∷ []) w v

  abbrev told : Scope → Kind → Hint → Trees → Parts → Tree → Hint
  told s k h all xs t = hint s k h all xs (kind_of t)

  abbrev typed_part : Scope → Kind → Hint → Trees → Parts → Tree → Part
  typed_part s k h all xs t = typing (part_scope s k xs) (told s k h all xs t) t

  part_same : (s : Scope) (k : Kind) (h : Hint) (all : Trees) (xs : Parts) (t : Tree) → AgreeOn p s.rights new → HintWithin p h → PartsWithin p xs
      → typing (moved (part_scope s k xs) new r) (told s k h all xs t) t ≡ typed_part s k h all xs t → typed_part (moved s new r) k h all xs t ≡ typed_part s k h all xs t
  part_same s k h all xs t a w v e =
      ap (λ z. typing z (told (moved s new r) k h all xs t) t) (scope_same s k xs) ∙ ap (λ z. typing (moved (part_scope s k xs) new r) z t) (hint_same p s new r a k h all xs (kind_of t) w v) ∙ e

  mutual
    pub typed_same : (s : Scope) (h : Hint) (t : Tree) → AgreeOn p s.rights new → NamesAgree p s new r h t → HintWithin p h → typing (moved s new r) h t ≡ typing s h t
    typed_same s h (node k i j ps) a c w =
        ap (built (moved s new r) k h i j) (parts_same s k h ps [] ps a c.1 w tt) ∙ built_same p s new r a k h i j (typings s k h ps [] ps) c.0 w (parts_within s k h ps [] ps a c.1 w tt)

    pub parts_same : (s : Scope) (k : Kind) (h : Hint) (all : Trees) (xs : Parts) (ps : Trees) → AgreeOn p s.rights new → PartsAgree p s new r k h all xs ps → HintWithin p h → PartsWithin p xs
        → typings (moved s new r) k h all xs ps ≡ typings s k h all xs ps
    parts_same s k h all xs none a c w v = refl
    parts_same s k h all xs (skip ps) a c w v = parts_same s k h all (xs ++ None ∷ []) ps a c w (more_within xs None v (tt, tt))
    parts_same s k h all xs (more t ps) a c w v =
        let inner = typed_same (part_scope s k xs) (told s k h all xs t) t (scope_agrees s k xs a) c.0 (hint_within p s new r a k h all xs (kind_of t) w v) in
        let own = typed_within (part_scope s k xs) (told s k h all xs t) t (scope_agrees s k xs a) c.0 (hint_within p s new r a k h all xs (kind_of t) w v) in
        ap (λ z. typings (moved s new r) k h all (xs ++ Some z ∷ []) ps) (part_same s k h all xs t a w v inner)
        ∙ parts_same s k h all (xs ++ Some (typed_part s k h all xs t) ∷ []) ps a c.1 w (more_within xs (Some (typed_part s k h all xs t)) v (own, tt))

    pub typed_within : (s : Scope) (h : Hint) (t : Tree) → AgreeOn p s.rights new → NamesAgree p s new r h t → HintWithin p h → PartWithin p (typing s h t)
    typed_within s h (node k i j ps) a c w = built_within p s new r a k h i j (typings s k h ps [] ps) c.0 w (parts_within s k h ps [] ps a c.1 w tt)

    parts_within : (s : Scope) (k : Kind) (h : Hint) (all : Trees) (xs : Parts) (ps : Trees) → AgreeOn p s.rights new → PartsAgree p s new r k h all xs ps → HintWithin p h → PartsWithin p xs
        → PartsWithin p (typings s k h all xs ps)
    parts_within s k h all xs none a c w v = v
    parts_within s k h all xs (skip ps) a c w v = parts_within s k h all (xs ++ None ∷ []) ps a c w (more_within xs None v (tt, tt))
    parts_within s k h all xs (more t ps) a c w v =
        let own = typed_within (part_scope s k xs) (told s k h all xs t) t (scope_agrees s k xs a) c.0 (hint_within p s new r a k h all xs (kind_of t) w v) in
        parts_within s k h all (xs ++ Some (typed_part s k h all xs t) ∷ []) ps a c.1 w (more_within xs (Some (typed_part s k h all xs t)) v (own, tt))

  mutual
    pub faults_same : (s : Scope) (h : Hint) (t : Tree) → AgreeOn p s.rights new → NamesAgree p s new r h t → HintWithin p h → faults (moved s new r) h t ≡ faults s h t
    faults_same s h (node k i j ps) a c w =
        ap (λ fs. fs ++ found (moved s new r) k h i j (typings (moved s new r) k h ps [] ps) ∷ []) (part_faults_same s k h ps [] ps a c.1 w tt)
        ∙ ap (λ xs. faults_of_parts s k h ps [] ps ++ found (moved s new r) k h i j xs ∷ []) (parts_same s k h ps [] ps a c.1 w tt)
        ∙ ap (λ fs. faults_of_parts s k h ps [] ps ++ fs ∷ []) (found_same p s new r a k h i j (typings s k h ps [] ps) c.0 w (parts_within s k h ps [] ps a c.1 w tt))

    pub part_faults_same : (s : Scope) (k : Kind) (h : Hint) (all : Trees) (xs : Parts) (ps : Trees) → AgreeOn p s.rights new → PartsAgree p s new r k h all xs ps → HintWithin p h → PartsWithin p xs
        → faults_of_parts (moved s new r) k h all xs ps ≡ faults_of_parts s k h all xs ps
    part_faults_same s k h all xs none a c w v = refl
    part_faults_same s k h all xs (skip ps) a c w v = part_faults_same s k h all (xs ++ None ∷ []) ps a c w (more_within xs None v (tt, tt))
    part_faults_same s k h all xs (more t ps) a c w v =
        let deep = scope_agrees s k xs a in
        let known = c.0 in
        let there = hint_within p s new r a k h all xs (kind_of t) w v in
        let scope = part_scope s k xs in
        let tell = told s k h all xs t in
        let x = typed_part s k h all xs t in
        let inner = typed_same scope tell t deep known there in
        let own = typed_within scope tell t deep known there in
        let mine : faults (part_scope (moved s new r) k xs) (told (moved s new r) k h all xs t) t ≡ faults scope tell t =
        ap (λ z. faults z (told (moved s new r) k h all xs t) t) (scope_same s k xs) ∙ ap (λ z. faults (moved scope new r) z t) (hint_same p s new r a k h all xs (kind_of t) w v)
        ∙ faults_same scope tell t deep known there in
        ap (λ fs. fs ++ faults_of_parts (moved s new r) k h all (xs ++ Some (typed_part (moved s new r) k h all xs t) ∷ []) ps) mine
        ∙ ap (λ z. faults scope tell t ++ faults_of_parts (moved s new r) k h all (xs ++ Some z ∷ []) ps) (part_same s k h all xs t a w v inner)
        ∙ ap (λ gs. faults scope tell t ++ gs) (part_faults_same s k h all (xs ++ Some x ∷ []) ps a c.1 w (more_within xs (Some x) v (own, tt)))

  pub typed_so : (s : Scope) (h : Hint) (t : Tree) → AgreeOn p s.rights new → NamesAgree p s new r h t → HintWithin p h → IsTypedSo p s new r h t
  typed_so s h t a c w = record { typed = typed_same s h t a c w; failing = faults_same s h t a c w; within = typed_within s h t a c w }
