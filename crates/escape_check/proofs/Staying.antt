-- The parts of a statement list that stay, as loops go over them.
use Rattle.std.proofs.Common.{◌≡◌, ◌∙◌, ℕ, zero, suc, ◌+◌, ◌<◌, ◌≤◌, Bool, true, false, List, [], ◌∷◌, length, map, drop, get_or, Option, Some, None, refl, sym, ap, subst, arith}
use Rattle.std.proofs.lemmas.Bool.{and_parts, eq-eqb, le-ltb, leb-true, ne_eqb}
use Rattle.std.specs.Prelude.{nat_eq, nat_le, nat_lt, if◌then◌else◌}
use Rattle.std.specs.List.{list_all}
use Rattle.std.specs.Option.{option_map}
use Rattle.go_types.specs.Tables.{Table}
use Rattle.go_types.specs.Trees.{TypeTree}
use Rattle.go_typed.specs.declared.node.TypedNode.{TypedNode}
use Rattle.go_typed.specs.declared.node.TypedNode.TheViews.{out-TypedNode}
use Rattle.go_typed.specs.Trees.{Typed, first_of}
use Rattle.go_typed.specs.Views.{seen, view}
use Rattle.clone_window.proofs.Public.{view_out}
use Rattle.go_exprs_rules.proofs.Public.{drop_step, seen_out}
use Rattle.escape_check.specs.declared.ends.Gap.{Gap as Found}
use Rattle.escape_check.specs.Called.{last_or, staying}
use Rattle.escape_check.specs.Keeping.{begins_by}

module _ (t : Table) (g : Found) where
  abbrev pub rows : List (Option TypedNode) → List (Option (Typed TypeTree))
  rows ns = map (option_map (seen t)) ns

  first_is : (n : TypedNode) → first_of (seen t n) ≡ (out-TypedNode n).first
  first_is n = ap first_of (seen_out t n)

  stepped : (ns : List (Option TypedNode)) (i : ℕ) (x : Option TypedNode) (u : ℕ) → i < length ns → x ≡ get_or ns i x → staying g u (rows (drop i ns)) ≡ staying g u (option_map (seen t) x ∷ rows (drop (i + 1) ns))
  stepped ns i x u lt e = ap (λ ms. staying g u (rows ms)) (drop_step ns i x x lt e)

  pub row_none : (ns : List (Option TypedNode)) (i : ℕ) (x : Option TypedNode) (u : ℕ) → i < length ns → x ≡ get_or ns i x → x ≡ None → staying g u (rows (drop i ns)) ≡ None ∷ staying g u (rows (drop (i + 1) ns))
  row_none ns i x u lt e is = stepped ns i x u lt e ∙ ap (λ y. staying g u (option_map (seen t) y ∷ rows (drop (i + 1) ns))) is

  chosen : (n : TypedNode) (u : ℕ) (rest : List (Option (Typed TypeTree))) (b c : Bool) → nat_lt (out-TypedNode n).first u ≡ b → nat_eq g.from (out-TypedNode n).first ≡ c →
      staying g u (Some (seen t n) ∷ rest) ≡ (if b then staying g u rest else (if c then None ∷ staying g g.upto rest else Some (seen t n) ∷ staying g u rest))
  chosen n u rest b c p q =
      ap (λ k. if nat_lt k u then staying g u rest else (if nat_eq g.from k then None ∷ staying g g.upto rest else Some (seen t n) ∷ staying g u rest)) (first_is n)
      ∙ ap (λ d. if d then staying g u rest else (if nat_eq g.from (out-TypedNode n).first then None ∷ staying g g.upto rest else Some (seen t n) ∷ staying g u rest)) p
      ∙ ap (λ d. if b then staying g u rest else (if d then None ∷ staying g g.upto rest else Some (seen t n) ∷ staying g u rest)) q

  at : (ns : List (Option TypedNode)) (i : ℕ) (x : Option TypedNode) (n : TypedNode) (u : ℕ) → i < length ns → x ≡ get_or ns i x → x ≡ Some n → staying g u (rows (drop i ns)) ≡ staying g u (Some (seen t n) ∷ rows (drop (i + 1) ns))
  at ns i x n u lt e is = stepped ns i x u lt e ∙ ap (λ y. staying g u (option_map (seen t) y ∷ rows (drop (i + 1) ns))) is

  pub row_call : (ns : List (Option TypedNode)) (i : ℕ) (x : Option TypedNode) (n : TypedNode) (u : ℕ) → i < length ns → x ≡ get_or ns i x → x ≡ Some n → u ≤ (out-TypedNode n).first → (out-TypedNode n).first ≡ g.from →
      staying g u (rows (drop i ns)) ≡ None ∷ staying g g.upto (rows (drop (i + 1) ns))
  row_call ns i x n u lt e is behind same =
      at ns i x n u lt e is ∙ chosen n u (rows (drop (i + 1) ns)) false true (le-ltb (out-TypedNode n).first u behind) (eq-eqb g.from (out-TypedNode n).first (sym same))

  pub row_kept : (ns : List (Option TypedNode)) (i : ℕ) (x : Option TypedNode) (n : TypedNode) (u : ℕ) → i < length ns → x ≡ get_or ns i x → x ≡ Some n → u ≤ (out-TypedNode n).first → ((out-TypedNode n).first ≡ g.from → ⊥) →
      staying g u (rows (drop i ns)) ≡ Some (seen t n) ∷ staying g u (rows (drop (i + 1) ns))
  row_kept ns i x n u lt e is behind other =
      at ns i x n u lt e is ∙ chosen n u (rows (drop (i + 1) ns)) false false (le-ltb (out-TypedNode n).first u behind) (ne_eqb g.from (out-TypedNode n).first (λ s. other (sym s)))

  -- one part more in front of the last one
  one_front : (m n : TypedNode) (rest : List (Option (Typed TypeTree))) (u : ℕ) (o : Option (Typed TypeTree)) (b c : Bool) → g.upto ≤ (out-TypedNode n).first → u ≤ (out-TypedNode n).first →
      ((v : ℕ) (q : Option (Typed TypeTree)) → v ≤ (out-TypedNode n).first → last_or q (staying g v rest) ≡ Some (seen t n)) →
      last_or o (if b then staying g u rest else (if c then None ∷ staying g g.upto rest else Some (seen t m) ∷ staying g u rest)) ≡ Some (seen t n)
  one_front m n rest u o true c low le h = h u o le
  one_front m n rest u o false true low le h = h g.upto None low
  one_front m n rest u o false false low le h = h u (Some (seen t m)) le

  -- the last part stays where the window ends in front of it
  last_from : (ns : List (Option TypedNode)) (i : ℕ) (n : TypedNode) (d : Option TypedNode) (u : ℕ) (o : Option (Typed TypeTree)) → i + 1 ≡ length ns → Some n ≡ get_or ns i d → g.from < g.upto → g.upto ≤ (out-TypedNode n).first → u ≤ (out-TypedNode n).first →
      last_or o (staying g u (rows ns)) ≡ Some (seen t n)
  last_from [] i n d u o end e lt low le = absurd (omega (arith, end))
  last_from (x ∷ []) zero n d u o end e lt low le =
      ap (λ y. last_or o (staying g u (option_map (seen t) y ∷ []))) (sym e)
      ∙ ap (last_or o) (chosen n u [] false false (le-ltb (out-TypedNode n).first u le) (ne_eqb g.from (out-TypedNode n).first (λ s. omega (arith, s, lt, low))))
  last_from (x ∷ []) (suc i) n d u o end e lt low le = absurd (omega (arith, end))
  last_from (x ∷ y ∷ ns) zero n d u o end e lt low le = absurd (omega (arith, end))
  last_from (None ∷ y ∷ ns) (suc i) n d u o end e lt low le = last_from (y ∷ ns) i n d u None (omega (arith, end)) e lt low le
  last_from (Some m ∷ y ∷ ns) (suc i) n d u o end e lt low le =
      ap (last_or o) (chosen m u (rows (y ∷ ns)) _ _ refl refl)
      ∙ one_front m n (rows (y ∷ ns)) u o _ _ low le (λ v q above. last_from (y ∷ ns) i n d v q (omega (arith, end)) e lt low above)

  -- where the parts begin in front of the window none is left out
  kept_front : (m : TypedNode) (rest : List (Option (Typed TypeTree))) (k : ℕ) → nat_le (first_of (view m)) k ≡ true → k < g.from → staying g 0 (Some (seen t m) ∷ rest) ≡ Some (seen t m) ∷ staying g 0 rest
  kept_front m rest k low lt =
      let first : (out-TypedNode m).first ≤ k = subst (λ (n : ℕ). n ≤ k) (ap first_of (view_out m)) (leb-true (first_of (view m)) k low) in
      chosen m 0 rest false false (le-ltb (out-TypedNode m).first 0 (omega arith)) (ne_eqb g.from (out-TypedNode m).first (λ s. omega (arith, s, first, lt)))

  -- the last part stays where the window begins behind all of them
  last_front : (ns : List (Option TypedNode)) (i : ℕ) (n : TypedNode) (d : Option TypedNode) (o : Option (Typed TypeTree)) (k : ℕ) → i + 1 ≡ length ns → Some n ≡ get_or ns i d → list_all (begins_by k) ns ≡ true → k < g.from →
      last_or o (staying g 0 (rows ns)) ≡ Some (seen t n)
  last_front [] i n d o k end e low lt = absurd (omega (arith, end))
  last_front (x ∷ []) (suc i) n d o k end e low lt = absurd (omega (arith, end))
  last_front (x ∷ y ∷ ns) zero n d o k end e low lt = absurd (omega (arith, end))
  last_front (None ∷ []) zero n d o k end e low lt = cc
  last_front (Some m ∷ []) zero n d o k end e low lt = ap (last_or o) (kept_front m [] k (and_parts (nat_le (first_of (view m)) k) true low).0 lt) ∙ ap (option_map (seen t)) (sym e)
  last_front (None ∷ y ∷ ns) (suc i) n d o k end e low lt = last_front (y ∷ ns) i n d None k (omega (arith, end)) e low lt
  last_front (Some m ∷ y ∷ ns) (suc i) n d o k end e low lt =
      let parts = and_parts (nat_le (first_of (view m)) k) (list_all (begins_by k) (y ∷ ns)) low in
      ap (last_or o) (kept_front m (rows (y ∷ ns)) k parts.0 lt) ∙ last_front (y ∷ ns) i n d (Some (seen t m)) k (omega (arith, end)) e parts.1 lt

  pub last_behind : (ns : List (Option TypedNode)) (i : ℕ) (n : TypedNode) (x : Option TypedNode) (k : ℕ) → i + 1 ≡ length ns → x ≡ get_or ns i x → x ≡ Some n → list_all (begins_by k) ns ≡ true → k < g.from →
      Some (seen t n) ≡ last_or None (staying g 0 (rows ns))
  last_behind ns i n x k end e is low lt = sym (last_front ns i n x None k end (sym is ∙ e) low lt)

  pub last_stays : (ns : List (Option TypedNode)) (i : ℕ) (n : TypedNode) (x : Option TypedNode) → i + 1 ≡ length ns → x ≡ get_or ns i x → x ≡ Some n → g.from < g.upto → g.upto ≤ (out-TypedNode n).first →
      Some (seen t n) ≡ last_or None (staying g 0 (rows ns))
  last_stays ns i n x end e is lt low = sym (last_from ns i n x 0 None end (sym is ∙ e) lt low (omega arith))
