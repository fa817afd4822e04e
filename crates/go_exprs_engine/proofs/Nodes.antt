-- The parts of a typed node, as loops go over them.
use Rattle.std.proofs.Common.{rules, ◌≡◌, ℕ, zero, suc, ◌+◌, ◌<◌, ◌≤◌, List, [], ◌∷◌, ◌++◌, length, drop, take, set, get_or, map, Option, Some, None, true, false, cond, refl, ap, sym, ◌∙◌, subst, drop-cons, append-nil, arith}
use Rattle.std.proofs.lemmas.List.{drop_all, take_all, take_more, take_more_set, map-append}
use Rattle.std.specs.Option.{option_map}
use Rattle.std.specs.Prelude.{slice_get, Bool}
use Rattle.go_types.specs.Trees.{TypeTree}
use Rattle.go_types.specs.Tables.{Table, type_of}
use Rattle.go_typed.specs.declared.form.Form.{Form}
use Rattle.go_typed.specs.declared.sort.Label as program
use Rattle.go_typed.specs.declared.node.TypedNode.{TypedNode}
use Rattle.go_typed.specs.declared.node.TypedNode.TheOpen.{TypedNode-F}
use Rattle.go_typed.specs.declared.node.TypedNode.TheViews.{out-TypedNode, roll-TypedNode, out-roll-TypedNode}
use Rattle.go_typed.specs.declared.node.TypedNode.TheFolds.{fold_out-TypedNode, fold-roll-TypedNode}
use Rattle.go_typed.specs.Funcs.{size, sizes}
use Rattle.go_typed.specs.Trees.{Label, typed, more, skip, row, list_of, sort_of, mapped, all_mapped, label_mapped, Every}
use Rattle.go_typed.specs.Views.{view, views, label_view, label_at, seen, sort_seen, Known, AllKnown, KnownSort}
use Rattle.go_exprs_rules.specs.Sorts.{Stands, takes_type, retyped}
use Rattle.go_exprs_rules.specs.Settling.{Part, settled, all_settled}
use Rattle.go_exprs_rules.specs.Tables.{Parts, is_held, held}

pub drop_step : {A : Type 0} (xs : List A) (i : ℕ) (x d : A) → i < length xs → x ≡ get_or xs i d → drop i xs ≡ x ∷ drop (i + 1) xs
drop_step xs i x d lt is = let e : suc i ≡ i + 1 = omega arith in drop-cons xs i d lt ∙ ap (λ y. y ∷ drop (suc i) xs) (sym is) ∙ ap (λ j. x ∷ drop j xs) e

-- ---- a node by its fields

pub opened : (n : TypedNode) → view n ≡ typed (out-TypedNode n).form (out-TypedNode n).first (out-TypedNode n).last (label_at (out-TypedNode n)) (views (out-TypedNode n).parts.items)
opened n = search (rules, fold_out-TypedNode)

pub rolled : (x : TypedNode-F TypedNode) → view (roll-TypedNode x) ≡ typed x.form x.first x.last (label_at x) (views x.parts.items)
rolled x = search (rules, fold-roll-TypedNode)

-- ---- rows

module _ (t : Table) where
  abbrev pub parts_seen : List (Option TypedNode) → Parts
  parts_seen ns = map (option_map (seen t)) ns

  pub row_seen : (ns : List (Option TypedNode)) → all_mapped (type_of t.shapes) (views ns) ≡ row (parts_seen ns)
  row_seen [] = refl
  row_seen (None ∷ ns) = ap skip (row_seen ns)
  row_seen (Some n ∷ ns) = ap (more (seen t n)) (row_seen ns)

  pub seen_out : (n : TypedNode) → seen t n ≡ typed (out-TypedNode n).form (out-TypedNode n).first (out-TypedNode n).last (label_mapped (type_of t.shapes) (label_at (out-TypedNode n))) (row (parts_seen (out-TypedNode n).parts.items))
  seen_out n = ap (mapped (type_of t.shapes)) (opened n) ∙ ap (typed (out-TypedNode n).form (out-TypedNode n).first (out-TypedNode n).last (label_mapped (type_of t.shapes) (label_at (out-TypedNode n)))) (row_seen (out-TypedNode n).parts.items)

  pub seen_roll : (x : TypedNode-F TypedNode) → seen t (roll-TypedNode x) ≡ typed x.form x.first x.last (label_mapped (type_of t.shapes) (label_at x)) (row (parts_seen x.parts.items))
  seen_roll x = ap (mapped (type_of t.shapes)) (rolled x) ∙ ap (typed x.form x.first x.last (label_mapped (type_of t.shapes) (label_at x))) (row_seen x.parts.items)

pub list_row : (xs : Parts) → list_of (row xs) ≡ xs
list_row [] = refl
list_row (None ∷ xs) = ap (λ ys. None ∷ ys) (list_row xs)
list_row (Some x ∷ xs) = ap (λ ys. Some x ∷ ys) (list_row xs)

pub settled_row : (t : TypeTree) (xs : Parts) → all_settled t (row xs) ≡ row (map (option_map (settled t)) xs)
settled_row t [] = refl
settled_row t (None ∷ xs) = ap skip (settled_row t xs)
settled_row t (Some x ∷ xs) = ap (more (settled t x)) (settled_row t xs)

-- ---- what is known of parts

module _ (k : ℕ) where
  pub known_append : (xs ys : List (Option TypedNode)) → AllKnown k xs → AllKnown k ys → AllKnown k (xs ++ ys)
  known_append [] ys h g = g
  known_append (None ∷ xs) ys h g = known_append xs ys h g
  known_append (Some x ∷ xs) ys h g = (h.0, known_append xs ys h.1 g)

  pub known_set : (xs : List (Option TypedNode)) (i : ℕ) (y : Option TypedNode) → AllKnown k xs → AllKnown k (y ∷ []) → AllKnown k (set xs i y)
  known_set [] i y h g = h
  known_set (None ∷ xs) zero None h g = h
  known_set (None ∷ xs) zero (Some y) h g = (g.0, h)
  known_set (Some x ∷ xs) zero None h g = h.1
  known_set (Some x ∷ xs) zero (Some y) h g = (g.0, h.1)
  known_set (None ∷ xs) (suc i) y h g = known_set xs i y h g
  known_set (Some x ∷ xs) (suc i) y h g = (h.0, known_set xs i y h.1 g)

  pub known_at : (xs : List (Option TypedNode)) (i : ℕ) (d : Option TypedNode) → i < length xs → AllKnown k xs → AllKnown k (get_or xs i d ∷ [])
  known_at [] i d lt h = absurd (omega (arith, lt))
  known_at (None ∷ xs) zero d lt h = tt
  known_at (Some x ∷ xs) zero d lt h = (h.0, tt)
  known_at (None ∷ xs) (suc i) d lt h = known_at xs i d (omega (arith, lt)) h
  known_at (Some x ∷ xs) (suc i) d lt h = known_at xs i d (omega (arith, lt)) h.1

  pub known_parts : (n : TypedNode) → Known k n → AllKnown k (out-TypedNode n).parts.items
  known_parts n h = (subst (Every (λ t. t < k)) (opened n) h).1

-- ---- one more part is changed by f

pub changed_more : {A B : Type 0} (g : A → B) (f : B → B) (ns ms : List A) (i : ℕ) (n m : A) → i < length ns → i < length ms → m ≡ get_or ms i m → g n ≡ f (g m)
    → map g (take i ns) ≡ map f (map g (take i ms))
    → map g (take (i + 1) (set ns i n)) ≡ map f (map g (take (i + 1) ms))
changed_more g f ns ms i n m lt lt2 is e done =
    ap (map g) (take_more_set ns i n lt) ∙ map-append g (take i ns) (n ∷ []) ∙ ap (λ xs. xs ++ g n ∷ []) done ∙ ap (λ x. map f (map g (take i ms)) ++ x ∷ []) e
    ∙ sym (ap (map f) (ap (map g) (take_more ms i m lt2) ∙ map-append g (take i ms) (get_or ms i m ∷ []) ∙ ap (λ x. map g (take i ms) ++ g x ∷ []) (sym is)) ∙ map-append f (map g (take i ms)) (g m ∷ []))

-- a `Vec` whose items were all written
pub refilled : {A : Type 0} (l : ℕ) (ws xs : List A) → l ≡ length xs → length ws ≡ length xs → take l (ws ++ drop (length ws) xs) ≡ ws
refilled l ws xs e f = ap (λ ys. take l (ws ++ ys)) (drop_all (length ws) xs (omega arith)) ∙ ap (take l) (append-nil ws) ∙ take_all l ws (omega arith)

-- ---- holders

module _ (t : Table) where
  holder : (x : Part) (xs : Parts) (f : Form) (i j : ℕ) (l : Label TypeTree) → x ≡ typed f i j l (row xs) → is_held f ≡ true → held (Some x) ≡ xs
  holder x xs f i j l e h = ap (λ y. held (Some y)) e ∙ ap (λ b. cond b (list_of (row xs)) (Some (typed f i j l (row xs)) ∷ [])) h ∙ list_row xs

  itself : (x : Part) (xs : Parts) (f : Form) (i j : ℕ) (l : Label TypeTree) → x ≡ typed f i j l (row xs) → is_held f ≡ false → held (Some x) ≡ Some x ∷ []
  itself x xs f i j l e h = ap (λ y. held (Some y)) e ∙ ap (λ b. cond b (list_of (row xs)) (Some (typed f i j l (row xs)) ∷ [])) h ∙ ap (λ y. Some y ∷ []) (sym e)

  pub held_parts : (n : TypedNode) → is_held (out-TypedNode n).form ≡ true → held (Some (seen t n)) ≡ parts_seen t (out-TypedNode n).parts.items
  held_parts n h = holder (seen t n) (parts_seen t (out-TypedNode n).parts.items) (out-TypedNode n).form (out-TypedNode n).first (out-TypedNode n).last (label_mapped (type_of t.shapes) (label_at (out-TypedNode n))) (seen_out t n) h

  pub held_itself : (n : TypedNode) → is_held (out-TypedNode n).form ≡ false → held (Some (seen t n)) ≡ Some (seen t n) ∷ []
  held_itself n h = itself (seen t n) (parts_seen t (out-TypedNode n).parts.items) (out-TypedNode n).form (out-TypedNode n).first (out-TypedNode n).last (label_mapped (type_of t.shapes) (label_at (out-TypedNode n))) (seen_out t n) h

-- ---- settling in place

settled_parts : (w : TypeTree) (f : Form) (i j : ℕ) (l : Label TypeTree) (xs : Parts) → takes_type l.sort ≡ true → settled w (typed f i j l (row xs)) ≡ typed f i j (record l { sort = retyped w l.sort }) (row (map (option_map (settled w)) xs))
settled_parts w f i j l xs h = ap (λ b. cond b (typed f i j (record l { sort = retyped w l.sort }) (all_settled w (row xs))) (typed f i j l (row xs))) h ∙ ap (typed f i j (record l { sort = retyped w l.sort })) (settled_row w xs)

-- what the node stands for was written first, as in y, and then the parts, as ns
module _ (t : Table) (w : TypeTree) (n : TypedNode) (y x : TypedNode-F TypedNode) (ns ms : List (Option TypedNode)) where
  abbrev seen_label : TypedNode-F TypedNode → Label TypeTree
  seen_label z = label_mapped (type_of t.shapes) (label_at z)

  pub settled_then : takes_type (sort_of (seen t n)) ≡ true
      → y.form ≡ (out-TypedNode n).form → y.first ≡ (out-TypedNode n).first → y.last ≡ (out-TypedNode n).last
      → sort_seen t y.sort ≡ retyped w (sort_seen t (out-TypedNode n).sort) → y.varies ≡ (out-TypedNode n).varies → y.calls ≡ (out-TypedNode n).calls → y.parts.items ≡ (out-TypedNode n).parts.items
      → x.form ≡ (out-TypedNode (roll-TypedNode y)).form → x.first ≡ (out-TypedNode (roll-TypedNode y)).first → x.last ≡ (out-TypedNode (roll-TypedNode y)).last
      → x.sort ≡ (out-TypedNode (roll-TypedNode y)).sort → x.varies ≡ (out-TypedNode (roll-TypedNode y)).varies → x.calls ≡ (out-TypedNode (roll-TypedNode y)).calls
      → x.parts.items ≡ take (out-TypedNode (roll-TypedNode y)).parts.len (ns ++ drop (length ns) (out-TypedNode (roll-TypedNode y)).parts.items)
      → ms ≡ (out-TypedNode (roll-TypedNode y)).parts.items → length ns ≡ length ms
      → parts_seen t ns ≡ map (option_map (settled w)) (parts_seen t ms)
      → seen t (roll-TypedNode x) ≡ settled w (seen t n)
  settled_then takes_n yf yi yj ys yv yc yp xf xi xj xs xv xc xp em en done =
      let e = out-roll-TypedNode y in
      let o = out-TypedNode n in
      let v = out-TypedNode (roll-TypedNode y) in
      let all : x.parts.items ≡ ns = xp ∙ refilled v.parts.len ns v.parts.items v.parts.ok.0 (en ∙ ap length em) in
      let parts_are : parts_seen t x.parts.items ≡ map (option_map (settled w)) (parts_seen t o.parts.items) =
      ap (parts_seen t) all ∙ done ∙ ap (λ zs. map (option_map (settled w)) (parts_seen t zs)) (em ∙ ap (λ (z : TypedNode-F TypedNode). z.parts.items) e ∙ yp) in
      let sort_is : sort_seen t x.sort ≡ retyped w (sort_seen t o.sort) = ap (sort_seen t) (xs ∙ ap (λ (z : TypedNode-F TypedNode). z.sort) e) ∙ ys in
      let label_is : seen_label x ≡ record (seen_label o) { sort = retyped w (sort_seen t o.sort) } =
      ap (λ (s : Stands). let m : Label TypeTree = record { sort = s; varies = x.varies; calls = x.calls } in m) sort_is
      ∙ ap (λ (b : Bool). let m : Label TypeTree = record { sort = retyped w (sort_seen t o.sort); varies = b; calls = x.calls } in m) (xv ∙ ap (λ (z : TypedNode-F TypedNode). z.varies) e ∙ yv)
      ∙ ap (λ (b : Bool). let m : Label TypeTree = record { sort = retyped w (sort_seen t o.sort); varies = o.varies; calls = b } in m) (xc ∙ ap (λ (z : TypedNode-F TypedNode). z.calls) e ∙ yc) in
      let takes_o : takes_type (seen_label o).sort ≡ true = ap (λ z. takes_type (sort_of z)) (sym (seen_out t n)) ∙ takes_n in
      seen_roll t x
      ∙ ap (λ f. typed f x.first x.last (seen_label x) (row (parts_seen t x.parts.items))) (xf ∙ ap (λ (z : TypedNode-F TypedNode). z.form) e ∙ yf)
      ∙ ap (λ i. typed o.form i x.last (seen_label x) (row (parts_seen t x.parts.items))) (xi ∙ ap (λ (z : TypedNode-F TypedNode). z.first) e ∙ yi)
      ∙ ap (λ j. typed o.form o.first j (seen_label x) (row (parts_seen t x.parts.items))) (xj ∙ ap (λ (z : TypedNode-F TypedNode). z.last) e ∙ yj)
      ∙ ap (λ l. typed o.form o.first o.last l (row (parts_seen t x.parts.items))) label_is
      ∙ ap (λ ps. typed o.form o.first o.last (record (seen_label o) { sort = retyped w (sort_seen t o.sort) }) (row ps)) parts_are
      ∙ sym (ap (settled w) (seen_out t n) ∙ settled_parts w o.form o.first o.last (seen_label o) (parts_seen t o.parts.items) takes_o)

  pub known_then : (k : ℕ) → KnownSort k y.sort → x.sort ≡ (out-TypedNode (roll-TypedNode y)).sort
      → x.parts.items ≡ take (out-TypedNode (roll-TypedNode y)).parts.len (ns ++ drop (length ns) (out-TypedNode (roll-TypedNode y)).parts.items)
      → ms ≡ (out-TypedNode (roll-TypedNode y)).parts.items → length ns ≡ length ms
      → AllKnown k ns → Known k (roll-TypedNode x)
  known_then k s xs xp em en h =
      let e = out-roll-TypedNode y in
      let v = out-TypedNode (roll-TypedNode y) in
      let all : x.parts.items ≡ ns = xp ∙ refilled v.parts.len ns v.parts.items v.parts.ok.0 (en ∙ ap length em) in
      let sort_is : x.sort ≡ y.sort = xs ∙ ap (λ (z : TypedNode-F TypedNode). z.sort) e in
      subst (Every (λ i. i < k)) (sym (rolled x)) (subst (KnownSort k) (sym sort_is) s, subst (AllKnown k) (sym all) h)

-- a part is smaller
module _ (n : TypedNode) (y : TypedNode-F TypedNode) (ms : List (Option TypedNode)) where
  pub part_smaller : (i : ℕ) (p : TypedNode) → ms ≡ (out-TypedNode (roll-TypedNode y)).parts.items → y.parts.items ≡ (out-TypedNode n).parts.items → slice_get ms i ≡ Some (Some p) → size (view p) < size (view n)
  part_smaller i p em yp there =
      let e = out-roll-TypedNode y in
      let same : ms ≡ (out-TypedNode n).parts.items = em ∙ ap (λ (z : TypedNode-F TypedNode). z.parts.items) e ∙ yp in
      let low : size (view p) ≤ sizes (views (out-TypedNode n).parts.items) = size_among (out-TypedNode n).parts.items i p (ap (λ zs. slice_get zs i) (sym same) ∙ there) in
      let whole : size (view n) ≡ suc (sizes (views (out-TypedNode n).parts.items)) = ap size (opened n) in
      omega (arith, low, whole)
    where
      size_among : (xs : List (Option TypedNode)) (i : ℕ) (p : TypedNode) → slice_get xs i ≡ Some (Some p) → size (view p) ≤ sizes (views xs)
      size_among [] i p h = cc
      size_among (None ∷ xs) zero p h = cc
      size_among (Some q ∷ xs) zero p h = let same : size (view q) ≡ size (view p) = ap (λ z. size (view z)) (let s : q ≡ p = cc in s) in omega (arith, same)
      size_among (None ∷ xs) (suc i) p h = size_among xs i p h
      size_among (Some q ∷ xs) (suc i) p h = let low : size (view p) ≤ sizes (views xs) = size_among xs i p h in omega (arith, low)

-- ---- a node that is made

module _ (r : TypedNode) (f : Form) (i j : ℕ) (l : program.Label) (ns : List (Option TypedNode)) where
  pub seen_made : (t : Table) → view r ≡ typed f i j (label_view l) (views ns) → seen t r ≡ typed f i j (label_mapped (type_of t.shapes) (label_view l)) (row (parts_seen t ns))
  seen_made t e = ap (mapped (type_of t.shapes)) e ∙ ap (typed f i j (label_mapped (type_of t.shapes) (label_view l))) (row_seen t ns)
