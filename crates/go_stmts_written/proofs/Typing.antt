-- Where all is within the texts that is known, so are the types of an expression or a type.
use Rattle.std.proofs.Common.{ℕ, List, [], ◌∷◌, ◌++◌, Option, Some, None}
use Rattle.go_grammar.specs.declared.kind.Kind.{Kind}
use Rattle.go_grammar.specs.declared.kind.Kind.TheVariants as kind
use Rattle.go_grammar.specs.Trees.{Tree, node, Trees, none, more, skip, kind_of}
use Rattle.go_exprs_rules.specs.Scopes.{Scope, Hint}
use Rattle.go_exprs_rules.specs.Settling.{Part}
use Rattle.go_exprs_rules.specs.Tables.{Parts, hint, in_length, part_scope}
use Rattle.go_exprs_rules.specs.Typing.{typing, typings}
use Rattle.go_stmts_written.specs.Named.{TreeIsNamed, TreesAreNamed}
use Rattle.go_stmts_written.proofs.Said.{MaybePart, PartsNamed, HintNamed, PartIsNamed}
use Rattle.go_stmts_written.proofs.Around.{ScopeIsNamed}
use Rattle.go_stmts_written.proofs.Nodes.{append_named, hint_named, built_named}

module _ (texts : ℕ → List ℕ) where
  length_named : (s : Scope) (xs : Parts) → ScopeIsNamed texts s → ScopeIsNamed texts (in_length s xs)
  length_named s [] a = record { same = a.same; rights = a.rights; objects = a.objects }
  length_named s (x ∷ xs) a = a

  scope_named : (s : Scope) (k : Kind) (xs : Parts) → ScopeIsNamed texts s → ScopeIsNamed texts (part_scope s k xs)
  scope_named s kind.SequenceType xs a = length_named s xs a
  scope_named s k xs a = a

  pub one_more : (xs : Parts) (x : Option Part) → PartsNamed texts xs → MaybePart texts x → PartsNamed texts (xs ++ x ∷ [])
  one_more xs x v w = append_named texts xs (x ∷ []) v (w, tt)

  mutual
    pub typing_named : (s : Scope) (h : Hint) (t : Tree) → ScopeIsNamed texts s → TreeIsNamed texts t → HintNamed h → PartIsNamed texts (typing s h t)
    typing_named s h (node k i j ps) a n w = built_named texts s a k h i j (typings s k h ps [] ps) n.0 w (typings_named s k h ps [] ps a n.1 w tt)

    typings_named : (s : Scope) (k : Kind) (h : Hint) (all : Trees) (xs : Parts) (ps : Trees) → ScopeIsNamed texts s → TreesAreNamed texts ps → HintNamed h → PartsNamed texts xs
        → PartsNamed texts (typings s k h all xs ps)
    typings_named s k h all xs none a n w v = v
    typings_named s k h all xs (skip ps) a n w v = typings_named s k h all (xs ++ None ∷ []) ps a n w (one_more xs None v tt)
    typings_named s k h all xs (more p ps) a n w v =
        let told = hint s k h all xs (kind_of p) in
        let inner = part_scope s k xs in
        let own = typing_named inner told p (scope_named s k xs a) n.0 (hint_named texts s a k h all xs (kind_of p) w v) in
        typings_named s k h all (xs ++ Some (typing inner told p) ∷ []) ps a n.1 w (one_more xs (Some (typing inner told p)) v own)
