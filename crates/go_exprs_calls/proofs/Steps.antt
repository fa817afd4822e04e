-- Loops over nodes, one step on and at the end.
use Rattle.std.proofs.Common.{◌≡◌, ℕ, ◌+◌, ◌<◌, List, [], ◌∷◌, ◌++◌, length, drop, get_or, Option, ap, sym, ◌∙◌, subst}
use Rattle.std.proofs.lemmas.List.{append_assoc}
use Rattle.std.specs.Borrow.{Bor}
use Rattle.go_types.specs.Trees.{TypeTree, row}
use Rattle.go_types.specs.Relations.{Rights}
use Rattle.go_types.specs.Tables.{Table}
use Rattle.go_typed.specs.declared.node.TypedNode.{TypedNode}
use Rattle.go_typed.specs.Views.{seen, Known}
use Rattle.go_exprs_rules.specs.declared.fault.TypeFault.{TypeFault}
use Rattle.go_exprs_rules.specs.Faults.{least, earlier}
use Rattle.go_exprs_rules.specs.Settling.{Part, unassignable}
use Rattle.go_exprs_rules.specs.Calls.{all_unassignable}
use Rattle.go_exprs_rules.proofs.Public.{least_append, earlier_assoc, drop_step}
use Rattle.go_exprs_calls.specs.Shown.{shown, AllShownKnown}

-- ---- what is left of the nodes

module _ (t : Table) (ns : List (Bor TypedNode)) (i : ℕ) (n : Bor TypedNode) (lt : i < length ns) (is : n ≡ get_or ns i n) where
  pub shown_step : shown t (drop i ns) ≡ seen t n.now ∷ shown t (drop (i + 1) ns)
  shown_step = ap (shown t) (drop_step ns i n n lt is)

  pub known_step : (k : ℕ) → AllShownKnown k (drop i ns) → Known k n.now × AllShownKnown k (drop (i + 1) ns)
  known_step k h = let g = subst (AllShownKnown k) (drop_step ns i n n lt is) h in (g.0, g.1)

-- ---- the least of their faults

-- where the faults of a row are those of its first and those of the others
module _ (f : Part → List TypeFault) (g : List Part → List TypeFault) (more : (x : Part) (xs : List Part) → g (x ∷ xs) ≡ f x ++ g xs) where
  pub fault_step : (t : Table) (ns : List (Bor TypedNode)) (i : ℕ) (n : Bor TypedNode) (first found now due : Option TypeFault) → i < length ns → n ≡ get_or ns i n
      → earlier first (least (g (shown t (drop i ns)))) ≡ due → found ≡ least (f (seen t n.now)) → now ≡ earlier first found → earlier now (least (g (shown t (drop (i + 1) ns)))) ≡ due
  fault_step t ns i n first found now due lt is before own then =
      let rest = g (shown t (drop (i + 1) ns)) in
      let split : least (g (shown t (drop i ns))) ≡ earlier found (least rest) = ap (λ xs. least (g xs)) (shown_step t ns i n lt is) ∙ ap least (more (seen t n.now) (shown t (drop (i + 1) ns))) ∙ least_append (f (seen t n.now)) rest ∙ ap (λ o. earlier o (least rest)) (sym own) in
      ap (λ o. earlier o (least rest)) then ∙ earlier_assoc first found (least rest) ∙ ap (earlier first) (sym split) ∙ before

-- ---- what is put behind a row

-- where a row is made of its first and of the others
pub row_step : {A B : Type 0} (r : List A → List B) (left others : List A) (x : A) (y : B) (old now due : List B) → r (x ∷ others) ≡ y ∷ r others → left ≡ x ∷ others
    → old ++ r left ≡ due → now ≡ old ++ y ∷ [] → now ++ r others ≡ due
row_step r left others x y old now due more split before pushed =
    ap (λ zs. zs ++ r others) pushed ∙ append_assoc old (y ∷ []) (r others) ∙ ap (λ zs. old ++ zs) (sym more) ∙ ap (λ zs. old ++ r zs) (sym split) ∙ before

-- ---- rows of types beside rows of nodes

module _ (rights : Rights) (t : Table) (ns : List (Bor TypedNode)) (i : ℕ) (n : Bor TypedNode) (lt : i < length ns) (is : n ≡ get_or ns i n) where
  pub zip_step : (ts us : List TypeTree) (u : TypeTree) (first found now due : Option TypeFault) → ts ≡ u ∷ us
      → earlier first (least (all_unassignable rights (row ts) (shown t (drop i ns)))) ≡ due → found ≡ least (unassignable rights u (seen t n.now)) → now ≡ earlier first found → earlier now (least (all_unassignable rights (row us) (shown t (drop (i + 1) ns)))) ≡ due
  zip_step ts us u first found now due front before own then =
      let rest = all_unassignable rights (row us) (shown t (drop (i + 1) ns)) in
      let split : least (all_unassignable rights (row ts) (shown t (drop i ns))) ≡ earlier found (least rest) = ap (λ vs. least (all_unassignable rights (row vs) (shown t (drop i ns)))) front ∙ ap (λ xs. least (all_unassignable rights (row (u ∷ us)) xs)) (shown_step t ns i n lt is) ∙ least_append (unassignable rights u (seen t n.now)) rest ∙ ap (λ o. earlier o (least rest)) (sym own) in
      ap (λ o. earlier o (least rest)) then ∙ earlier_assoc first found (least rest) ∙ ap (earlier first) (sym split) ∙ before
