-- The parts of a typed node, as a loop goes over them.
use Rattle.std.proofs.Common.{rules, ◌≡◌, ℕ, suc, ◌+◌, ◌<◌, ◌≤◌, List, [], ◌∷◌, ◌++◌, length, drop, get_or, map, Option, Some, None, Bool, true, false, cond, refl, ap, sym, ◌∙◌, subst, drop-cons, arith}
use Rattle.std.proofs.lemmas.List.{drop_all}
use Rattle.std.specs.Option.{option_map}
use Rattle.std.specs.Prelude.{is_some}
use Rattle.go_types.specs.Trees.{TypeTree}
use Rattle.go_types.specs.Relations.{Rights}
use Rattle.go_types.specs.Tables.{Table, type_of}
use Rattle.go_typed.specs.declared.node.TypedNode.{TypedNode}
use Rattle.go_typed.specs.declared.node.TypedNode.TheViews.{out-TypedNode}
use Rattle.go_typed.specs.declared.node.TypedNode.TheFolds.{fold_out-TypedNode}
use Rattle.go_typed.specs.Trees.{Typed, typed, mapped, label_mapped, sort_of, parts_of, Every}
use Rattle.go_typed.specs.Views.{view, views, label_at, seen, all_seen, Known, AllKnown}
use Rattle.go_exprs_rules.specs.declared.fault.TypeFault.{TypeFault}
use Rattle.go_exprs_rules.specs.Faults.{least, earlier}
use Rattle.go_exprs_rules.specs.Sorts.{is_open, is_constant, constant_of}
use Rattle.go_exprs_rules.specs.Settling.{Part, unrepresented, unrepresented_constant, all_unrepresented}
use Rattle.go_exprs_rules.proofs.Firsts.{least_append, earlier_assoc}

pub drop_step : {A : Type 0} (xs : List A) (i : ℕ) (x d : A) → i < length xs → x ≡ get_or xs i d → drop i xs ≡ x ∷ drop (i + 1) xs
drop_step xs i x d lt is = let e : suc i ≡ i + 1 = omega arith in drop-cons xs i d lt ∙ ap (λ y. y ∷ drop (suc i) xs) (sym is) ∙ ap (λ j. x ∷ drop j xs) e

-- ---- a node by its fields

opened : (n : TypedNode) → view n ≡ typed (out-TypedNode n).form (out-TypedNode n).first (out-TypedNode n).last (label_at (out-TypedNode n)) (views (out-TypedNode n).parts.items)
opened n = search (rules, fold_out-TypedNode)

pub seen_out : (t : Table) (n : TypedNode) → seen t n ≡ typed (out-TypedNode n).form (out-TypedNode n).first (out-TypedNode n).last (label_mapped (type_of t.shapes) (label_at (out-TypedNode n))) (all_seen t (out-TypedNode n).parts.items)
seen_out t n = ap (mapped (type_of t.shapes)) (opened n)

pub parts_known : (k : ℕ) (n : TypedNode) → Known k n → AllKnown k (out-TypedNode n).parts.items
parts_known k n h = (subst (Every (λ t. t < k)) (opened n) h).1

-- ---- the parts that are left

module _ (k : ℕ) (ps : List (Option TypedNode)) (i : ℕ) where
  pub known_at : (p : TypedNode) (d : Option TypedNode) → i < length ps → Some p ≡ get_or ps i d → AllKnown k (drop i ps) → Known k p × AllKnown k (drop (i + 1) ps)
  known_at p d lt is h = let g = subst (AllKnown k) (drop_step ps i (Some p) d lt is) h in (g.0, g.1)

  pub known_behind : (d : Option TypedNode) → i < length ps → None ≡ get_or ps i d → AllKnown k (drop i ps) → AllKnown k (drop (i + 1) ps)
  known_behind d lt is h = subst (AllKnown k) (drop_step ps i None d lt is) h

-- ---- what a type doesn't represent

module _ (t : Table) (rights : Rights) (of : TypeTree) where
  abbrev pub left : List (Option TypedNode) → ℕ → Option TypeFault
  left ps i = least (all_unrepresented rights of (all_seen t (drop i ps)))

  pub left_more : (ps : List (Option TypedNode)) (i : ℕ) (p : TypedNode) (d : Option TypedNode) (first found now due : Option TypeFault) → i < length ps → Some p ≡ get_or ps i d
      → earlier first (left ps i) ≡ due → found ≡ least (unrepresented rights of (seen t p)) → now ≡ earlier first found → earlier now (left ps (i + 1)) ≡ due
  left_more ps i p d first found now due lt is before own then =
      let rest = all_unrepresented rights of (all_seen t (drop (i + 1) ps)) in
      let split : left ps i ≡ earlier found (least rest) = ap (λ qs. least (all_unrepresented rights of (all_seen t qs))) (drop_step ps i (Some p) d lt is) ∙ least_append (unrepresented rights of (seen t p)) rest ∙ ap (λ o. earlier o (least rest)) (sym own) in
      ap (λ o. earlier o (least rest)) then ∙ earlier_assoc first found (least rest) ∙ ap (earlier first) (sym split) ∙ before

  pub left_skip : (ps : List (Option TypedNode)) (i : ℕ) (d : Option TypedNode) → i < length ps → None ≡ get_or ps i d → left ps (i + 1) ≡ left ps i
  left_skip ps i d lt is = sym (ap (λ qs. least (all_unrepresented rights of (all_seen t qs))) (drop_step ps i None d lt is))

  pub left_none : (ps : List (Option TypedNode)) (i : ℕ) → length ps ≤ i → left ps i ≡ None
  left_none ps i le = ap (λ qs. least (all_unrepresented rights of (all_seen t qs))) (drop_all i ps le)

  by_parts : (x : Part) → is_open (sort_of x) ≡ true → is_constant (sort_of x) ≡ false → unrepresented rights of x ≡ all_unrepresented rights of (parts_of x)
  by_parts (typed f i j l ps) a b =
      ap (λ c. cond c (cond (is_constant l.sort) (unrepresented_constant rights of i j (constant_of l.sort)) (all_unrepresented rights of ps)) []) a
      ∙ ap (λ c. cond c (unrepresented_constant rights of i j (constant_of l.sort)) (all_unrepresented rights of ps)) b

  -- what an untyped node that is no constant refuses, its parts do
  pub unrepresented_is : (n : TypedNode) → is_open (sort_of (seen t n)) ≡ true → is_constant (sort_of (seen t n)) ≡ false → unrepresented rights of (seen t n) ≡ all_unrepresented rights of (all_seen t (out-TypedNode n).parts.items)
  unrepresented_is n a b = by_parts (seen t n) a b ∙ ap (λ x. all_unrepresented rights of (parts_of x)) (seen_out t n)

pub earlier_none : (f : Option TypeFault) → earlier f None ≡ f
earlier_none None = refl
earlier_none (Some f) = refl

pub none_mapped : {A B : Type 0} (f : A → B) (o : Option A) → o ≡ None → is_some (option_map f o) ≡ false
none_mapped f None e = refl
none_mapped f (Some x) e = cc
