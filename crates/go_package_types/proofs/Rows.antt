-- The values of a specification, one behind the other.
use Rattle.std.proofs.Common.{◌≡◌, ℕ, zero, suc, ◌+◌, ◌<◌, List, [], ◌∷◌, ◌++◌, length, drop, get_or, map, Option, Some, None, refl, ap, sym, ◌∙◌}
use Rattle.std.specs.Prelude.{slice_get}
use Rattle.std.proofs.lemmas.List.{append_assoc}
use Rattle.std.proofs.lemmas.Option.{same_Some}
use Rattle.go_grammar.specs.Trees.{Tree}
use Rattle.go_tree.specs.declared.node.Node.{Node}
use Rattle.go_tree.specs.Views.{view, views}
use Rattle.go_exprs_rules.specs.declared.fault.TypeFault.{TypeFault}
use Rattle.go_exprs_rules.specs.Faults.{least, earlier, joined}
use Rattle.go_exprs_rules.specs.Settling.{Part}
use Rattle.go_exprs_rules.specs.Scopes.{Scope, Hint}
use Rattle.go_exprs_rules.specs.Tables.{Parts, present}
use Rattle.go_exprs_rules.specs.Typing.{typing, faults}
use Rattle.go_exprs_rules.proofs.Public.{least_append, earlier_assoc}
use Rattle.go_exprs_engine.proofs.Public.{drop_step}
use Rattle.go_package_defs.specs.Declarations.{trees_of}
use Rattle.go_package_defs.specs.Verdicts.{values_faults}

-- a part that is there is one of the trees
pub tree_at : (row : List (Option Node)) (i : ℕ) (n : Node) → slice_get row i ≡ Some (Some n) → (c : ℕ) × (slice_get (trees_of (views row)) c ≡ Some (view n))
tree_at [] i n e = cc
tree_at (None ∷ row) zero n e = cc
tree_at (None ∷ row) (suc i) n e = tree_at row i n e
tree_at (Some m ∷ row) zero n e = (0, ap (λ x. Some (view x)) (same_Some m n (same_Some (Some m) (Some n) e)))
tree_at (Some m ∷ row) (suc i) n e = let h = tree_at row i n e in (suc h.0, h.1)

present_last : (xs : Parts) (x : Part) → present (xs ++ Some x ∷ []) ≡ present xs ++ x ∷ []
present_last [] x = refl
present_last (Some y ∷ xs) x = ap (λ zs. y ∷ zs) (present_last xs x)
present_last (None ∷ xs) x = present_last xs x

module _ (s : Scope) (h : Hint) (row : List (Option Node)) (i : ℕ) (d : Option Node) (lt : i < length row) where
  abbrev rest : ℕ → List Tree
  rest k = trees_of (views (drop k row))

  gap : get_or row i d ≡ None → rest i ≡ rest (i + 1)
  gap is = ap (λ ns. trees_of (views ns)) (drop_step row i None d lt (sym is))

  there : (n : Node) → get_or row i d ≡ Some n → rest i ≡ view n ∷ rest (i + 1)
  there n is = ap (λ ns. trees_of (views ns)) (drop_step row i (Some n) d lt (sym is))

  pub gap_faults : (o due : Option TypeFault) → get_or row i d ≡ None → earlier o (least (values_faults s h (rest i))) ≡ due → earlier o (least (values_faults s h (rest (i + 1)))) ≡ due
  gap_faults o due is before = ap (λ ts. earlier o (least (values_faults s h ts))) (sym (gap is)) ∙ before

  pub next_parts : (n : Node) (xs ys : Parts) (x : Part) (due : List Part) → get_or row i d ≡ Some n → ys ≡ xs ++ Some x ∷ [] → x ≡ typing s h (view n)
      → present xs ++ map (typing s h) (rest i) ≡ due → present ys ++ map (typing s h) (rest (i + 1)) ≡ due
  next_parts n xs ys x due is e x_is before =
      let more = map (typing s h) (rest (i + 1)) in
      ap (λ zs. present zs ++ more) e ∙ ap (λ zs. zs ++ more) (present_last xs x) ∙ append_assoc (present xs) (x ∷ []) more ∙ ap (λ z. present xs ++ z ∷ more) x_is
      ∙ ap (λ ts. present xs ++ map (typing s h) ts) (sym (there n is)) ∙ before

  pub next_faults : (n : Node) (o own now due : Option TypeFault) → get_or row i d ≡ Some n → own ≡ least (joined (faults s h (view n))) → now ≡ earlier o own
      → earlier o (least (values_faults s h (rest i))) ≡ due → earlier now (least (values_faults s h (rest (i + 1)))) ≡ due
  next_faults n o own now due is own_is then before =
      let more = values_faults s h (rest (i + 1)) in
      ap (λ z. earlier z (least more)) then ∙ earlier_assoc o own (least more)
      ∙ ap (λ z. earlier o (earlier z (least more))) own_is ∙ ap (earlier o) (sym (least_append (joined (faults s h (view n))) more))
      ∙ ap (λ ts. earlier o (least (values_faults s h ts))) (sym (there n is)) ∙ before
