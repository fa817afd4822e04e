-- Where all is within the limit that is known, so are the types of an expression or a type.
use Rattle.std.proofs.Common.{[], ◌∷◌, ◌++◌, Option, Some, None}
use Rattle.go_grammar.specs.declared.kind.Kind.{Kind}
use Rattle.go_grammar.specs.declared.kind.Kind.TheVariants as kind
use Rattle.go_grammar.specs.Trees.{Tree, node, Trees, none, more, skip, kind_of}
use Rattle.go_exprs_rules.specs.Scopes.{Scope, Hint}
use Rattle.go_exprs_rules.specs.Settling.{Part}
use Rattle.go_exprs_rules.specs.Tables.{Parts, hint, in_length, part_scope}
use Rattle.go_exprs_rules.specs.Typing.{typing, typings}
use Rattle.go_stmts_limits.specs.Limits.{PartIsWithin}
use Rattle.go_stmts_limits.proofs.Within.{MaybePart, PartsWithin, HintWithin}
use Rattle.go_stmts_limits.proofs.Arrays.{JudgesWithin}
use Rattle.go_stmts_limits.proofs.Nodes.{append_within, hint_within, built_within}

module _ (limit : Scope) where
  length_judges : (s : Scope) (xs : Parts) → JudgesWithin limit s → JudgesWithin limit (in_length s xs)
  length_judges s [] a = record { judged = a.judged; counted = a.counted; rights = a.rights; objects = a.objects }
  length_judges s (x ∷ xs) a = a

  scope_judges : (s : Scope) (k : Kind) (xs : Parts) → JudgesWithin limit s → JudgesWithin limit (part_scope s k xs)
  scope_judges s kind.SequenceType xs a = length_judges s xs a
  scope_judges s k xs a = a

  pub one_more : (xs : Parts) (x : Option Part) → PartsWithin limit xs → MaybePart limit x → PartsWithin limit (xs ++ x ∷ [])
  one_more xs x v w = append_within limit xs (x ∷ []) v (w, tt)

  mutual
    pub typing_within : (s : Scope) (h : Hint) (t : Tree) → JudgesWithin limit s → HintWithin limit h → PartIsWithin limit (typing s h t)
    typing_within s h (node k i j ps) a w = built_within limit s a k h i j (typings s k h ps [] ps) w (typings_within s k h ps [] ps a w tt)

    typings_within : (s : Scope) (k : Kind) (h : Hint) (all : Trees) (xs : Parts) (ps : Trees) → JudgesWithin limit s → HintWithin limit h → PartsWithin limit xs
        → PartsWithin limit (typings s k h all xs ps)
    typings_within s k h all xs none a w v = v
    typings_within s k h all xs (skip ps) a w v = typings_within s k h all (xs ++ None ∷ []) ps a w (one_more xs None v tt)
    typings_within s k h all xs (more p ps) a w v =
        let told = hint s k h all xs (kind_of p) in
        let inner = part_scope s k xs in
        let own = typing_within inner told p (scope_judges s k xs a) (hint_within limit s a k h all xs (kind_of p) w v) in
        typings_within s k h all (xs ++ Some (typing inner told p) ∷ []) ps a w (one_more xs (Some (typing inner told p)) v own)
