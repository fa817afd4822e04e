-- The holes of a window stand in its statements.
use Rattle.std.proofs.Common.{◌≡◌, ◌∙◌, ℕ, zero, suc, ◌+◌, ◌<◌, ◌≤◌, Bool, true, false, List, [], ◌∷◌, length, drop, take, Some, slice_get, refl, sym, ap, subst, arith}
use Rattle.std.specs.Prelude.{nat_lt}
use Rattle.std.proofs.lemmas.Bool.Decides.{nat_tests}
use Rattle.std.specs.List.{AllByRecursion}
use Rattle.go_tokens.specs.declared.token.TokenKind.{TokenKind}
use Rattle.go_tokens.specs.Tokens.{kinds}
use Rattle.go_grammar.specs.declared.kind.Category.{Category}
use Rattle.go_grammar.specs.declared.kind.Category.TheVariants as category
use Rattle.go_grammar.specs.declared.kind.Kind.{Kind}
use Rattle.go_grammar.specs.Categories.{place_of}
use Rattle.go_grammar.specs.Grammar.{Derives, rule}
use Rattle.go_grammar.specs.Rules.{Items}
use Rattle.go_grammar.specs.Trees.{Tree, node, Trees, none, more, skip, kind_of, first, last, parts}
use Rattle.go_rewriting.specs.Lists.{InOrder, Ordered, Subtree, items_at, has_run}
use Rattle.go_rewriting.specs.Places.{Range, range, has_items, items_end}
use Rattle.go_rewriting.specs.Replacing.{subtree_at, subtree_in, asked_in}
use Rattle.go_rewriting.specs.Sites.{run_range}
use Rattle.go_tree.specs.Views.{view}
use Rattle.go_print_laws.specs.Calls.{AreStatements}
use Rattle.go_types.specs.Trees.{TypeTree}
use Rattle.go_types_relations.specs.Renaming.{renamed}
use Rattle.go_typed.specs.declared.window.Window.{Window}
use Rattle.go_typed.specs.Contents.{Content, FuncContent}
use Rattle.go_typed.specs.Lists.{statements_of}
use Rattle.go_typed.specs.Trees.{first_of, last_of}
use Rattle.go_typed.specs.Windows as windows
use Rattle.go_exprs_rules.specs.Settling.{Part}
use Rattle.clone_window.specs.Spans.{last_from, range_over}
use Rattle.clone_window.specs.Windows.{row_of, statements_in, window_statements}
use Rattle.param_choose.specs.Holes.{Hole, holes_among}
use Rattle.go_stmts_defs.specs.Bodies.{based}
use Rattle.go_stmts_defs.specs.Reading.{reading}
use Rattle.go_stmts_final_types.specs.Known.{IsKnown}
use Rattle.go_stmts_final_types.specs.Shapes.{IsShaped}
use Rattle.go_function_trees.specs.Functions.{WindowStands}
use Rattle.go_function_trees.specs.Lists.{AreRead, IsRead, StandOver, parts_behind, statements_from, tree_in}
use Rattle.go_function_holes.specs.Holes.{HoleOfWindow, HoleStands, calls_no_constant}
use Rattle.go_function_holes.proofs.Public.{AllHoles, At, Holes, OfHole, Sound, all-at, among-found, behind-more, behind-there, differ, holes-weaker, sound}
use Rattle.go_function_holes_windows.specs.Statements.{StatementHole}
use Rattle.go_function_holes_windows.proofs.Based.{hole-stands, items-asked, list-item, none-some, some-same}
use Rattle.go_function_holes_windows.proofs.Found.{statement-holes}
use Rattle.go_function_holes_windows.proofs.Mapped.{drop-sound, holes-mapped, list-sound, sound-mapped}

-- ---- runs of parts

add-suc : (n k : ℕ) → n + suc k ≡ suc (n + k)
add-suc n k = omega arith

below-is : (a b : ℕ) → nat_lt a b ≡ true → a < b
below-is a b e = grind (arith, nat_tests, e)

below-not : (a b : ℕ) → nat_lt a b ≡ false → b ≤ a
below-not a b e = grind (arith, nat_tests, e)

in-order : (p : Tree) → InOrder p → first p < last p
in-order (node k i j ps) h = h.0

items-from : (n j : ℕ) (p : Tree) (ps : Trees) → has_items n ps ≡ true → Ordered (last p) ps j → last p ≤ items_end n p ps
items-from zero j p ps g o = omega arith
items-from (suc n) j p none g o = absurd (differ g)
items-from (suc n) j p (more q qs) g o = let u = items-from n j q qs g o.2 in let v = in-order q o.1 in omega (arith, u, v, o.0)
items-from (suc n) j p (skip ps) g o = absurd (differ g)

-- the more items, the further they reach
items-reach : (m n j : ℕ) (p : Tree) (ps : Trees) → m < n → has_items n ps ≡ true → Ordered (last p) ps j → items_end m p ps < items_end n p ps
items-reach m zero j p ps u g o = absurd (omega (arith, u))
items-reach m (suc n) j p none u g o = absurd (differ g)
items-reach zero (suc n) j p (more q qs) u g o = let v = items-from n j q qs g o.2 in let w = in-order q o.1 in omega (arith, v, w, o.0)
items-reach (suc m) (suc n) j p (more q qs) u g o = items-reach m n j q qs (omega (arith, u)) g o.2
items-reach m (suc n) j p (skip ps) u g o = absurd (differ g)

behind-ordered : (n i j : ℕ) (ps : Trees) → Ordered i ps j → (k : ℕ) × Ordered k (parts_behind n ps) j
behind-ordered zero i j ps o = (i, o)
behind-ordered (suc n) i j none o = (i, o)
behind-ordered (suc n) i j (more p ps) o = behind-ordered n (last p) j ps o.2
behind-ordered (suc n) i j (skip ps) o = behind-ordered n i j ps o

nothing-behind : (n : ℕ) → parts_behind n none ≡ none
nothing-behind zero = refl
nothing-behind (suc n) = refl

behind-both : (m n : ℕ) (ps : Trees) → parts_behind (m + n) ps ≡ parts_behind n (parts_behind m ps)
behind-both zero n ps = (let e : zero + n ≡ n = omega arith in ap (λ k. parts_behind k ps) e)
behind-both (suc m) n none = nothing-behind (suc m + n) ∙ sym (nothing-behind n)
behind-both (suc m) n (more p ps) = (let e : suc m + n ≡ suc (m + n) = omega arith in ap (λ k. parts_behind k (more p ps)) e) ∙ behind-both m n ps
behind-both (suc m) n (skip ps) = (let e : suc m + n ≡ suc (m + n) = omega arith in ap (λ k. parts_behind k (skip ps)) e) ∙ behind-both m n ps

has-from : (n m : ℕ) (ps : Trees) → has_run n m ps ≡ has_run 0 m (parts_behind n ps)
has-from zero m ps = refl
has-from (suc n) m none = refl
has-from (suc n) m (more p ps) = has-from n m ps
has-from (suc n) m (skip ps) = has-from n m ps

range-from : (n m : ℕ) (ps : Trees) → run_range n m ps ≡ run_range 0 m (parts_behind n ps)
range-from zero m ps = refl
range-from (suc n) m none = refl
range-from (suc n) m (more p ps) = range-from n m ps
range-from (suc n) m (skip ps) = range-from n m ps

module _ (b : ℕ) where
  over-behind : (k : ℕ) (qs : Trees) (xs : List Part) → StandOver b qs xs → StandOver b (parts_behind k qs) (drop k xs)
  over-behind zero qs xs h = h
  over-behind (suc k) none [] h = tt
  over-behind (suc k) none (x ∷ xs) h = absurd h
  over-behind (suc k) (more p ps) [] h = absurd h
  over-behind (suc k) (more p ps) (x ∷ xs) h = over-behind k ps xs h.2
  over-behind (suc k) (skip ps) xs h = absurd h

  read-behind : (name : ℕ → ℕ) (k : ℕ) (qs : Trees) (xs : List Part) → AreRead name b qs xs → AreRead name b (parts_behind k qs) (drop k xs)
  read-behind name zero qs xs h = h
  read-behind name (suc k) none [] h = tt
  read-behind name (suc k) none (x ∷ xs) h = absurd h
  read-behind name (suc k) (more p ps) [] h = absurd h
  read-behind name (suc k) (more p ps) (x ∷ xs) h = read-behind name k ps xs h.1
  read-behind name (suc k) (skip ps) xs h = absurd h

  some-items : (n : ℕ) (qs : Trees) (xs : List Part) → StandOver b qs xs → has_items (length (take n xs)) qs ≡ true
  some-items zero qs xs h = refl
  some-items (suc n) none [] h = refl
  some-items (suc n) none (x ∷ xs) h = absurd h
  some-items (suc n) (more p ps) [] h = absurd h
  some-items (suc n) (more p ps) (x ∷ xs) h = some-items n ps xs h.2
  some-items (suc n) (skip ps) xs h = absurd h

  items-last : (n : ℕ) (p : Tree) (qs : Trees) (x : Part) (xs : List Part) → last p ≡ b + last_of x → StandOver b qs xs → items_end (length (take n xs)) p qs ≡ b + last_from (last_of x) (row_of (take n xs))
  items-last zero p qs x xs e h = e
  items-last (suc n) p none x [] e h = e
  items-last (suc n) p none x (y ∷ ys) e h = absurd h
  items-last (suc n) p (more q qs) x [] e h = absurd h
  items-last (suc n) p (more q qs) x (y ∷ ys) e h = items-last n q qs y ys h.1 h.2
  items-last (suc n) p (skip qs) x ys e h = absurd h

  -- the run that has these tokens has all statements over them
  run-counted : (n others j i : ℕ) (qs : Trees) (xs : List Part) (r : windows.Range) → StandOver b qs xs → Ordered i qs j → has_run 0 others qs ≡ true → run_range 0 others qs ≡ range (b + r.from) (b + r.to) → range_over (row_of (take n xs)) ≡ Some r → length (take n xs) ≤ suc others
  run-counted zero others j i qs xs r h o g e f = none-some r f
  run-counted (suc n) others j i qs [] r h o g e f = none-some r f
  run-counted (suc n) others j i none (x ∷ xs) r h o g e f = absurd h
  run-counted (suc n) others j i (skip ps) (x ∷ xs) r h o g e f = absurd h
  run-counted (suc n) others j i (more p ps) (x ∷ xs) r h o g e f = count (length (take n xs)) refl where
    to : last_from (last_of x) (row_of (take n xs)) ≡ r.to
    to = let over : windows.Range = record { from = first_of x; to = last_from (last_of x) (row_of (take n xs)) } in ap (λ (z : windows.Range). z.to) (some-same over r f)

    ends : items_end others p ps ≡ b + r.to
    ends = ap (λ (z : Range). z.upto) e

    whole_ends : items_end (length (take n xs)) p ps ≡ b + r.to
    whole_ends = items-last n p ps x xs h.1 h.2 ∙ ap (λ k. b + k) to

    count : (m : ℕ) → length (take n xs) ≡ m → suc m ≤ suc others
    count m same = by (nat_lt others m) refl where
      by : (d : Bool) → nat_lt others m ≡ d → suc m ≤ suc others
      by true u =
          let less : others < m = below-is others m u in
          let has : has_items m ps ≡ true = ap (λ k. has_items k ps) (sym same) ∙ some-items n ps xs h.2 in
          let reach = items-reach others m j p ps less has o.2 in
          let same_end : items_end m p ps ≡ b + r.to = ap (λ k. items_end k p ps) (sym same) ∙ whole_ends in
          absurd (omega (arith, reach, ends, same_end))
      by false u = let most = below-not others m u in omega (arith, most)

-- ---- statements

abbrev pub Subtrees : Type 0
Subtrees = (ts : List TokenKind) (c : Category) (t s : Tree) (path : List ℕ) → Derives ts c t → subtree_at path t ≡ Some s → Subtree ts c t path s

abbrev pub Shapes : Type 0
Shapes = (ts : List TokenKind) (c : Category) (b : ℕ) (t : Tree) → Derives ts c t → IsShaped c (based b t)

-- in the node t, behind so many of its parts, within so many statements
record HoleAt (c : Category) (t : Tree) (start total b i j : ℕ) : Type 0 where
  number : ℕ
  within : number < total
  hole : HoleStands c t (start + number) (b + i) (b + j)

module _ (subtrees : Subtrees) (shapes : Shapes) (ts : List TokenKind) (c : Category) (k : Kind) (i j : ℕ) (ps : Trees) (derived : Derives ts c (node k i j ps)) (b front : ℕ) (low : b ≤ i) (lists : statements_from k ≡ Some front) (list : Items)
    (statements : AreStatements list) (is_list : items_at front (rule (place_of c) k) ≡ Some list) (name : ℕ → ℕ) where
  abbrev t : Tree
  t = node k i j ps

  one-statement : (n : ℕ) (p : Tree) (x : Part) → front ≤ n → subtree_in n [] ps ≡ Some p → IsRead name b p x → Sound x → Holes (λ y z. HoleStands c t n (b + y) (b + z)) x
  one-statement n p x u there h sd =
      let asked : asked_in (rule (place_of c) k) n [] ps ≡ Some category.Statement = items-asked front n (rule (place_of c) k) list ps p is_list u there ∙ ap (λ d. Some d) (list-item list statements) in
      let below = subtrees ts c t p (n ∷ []) derived there in
      let derives : Derives ts category.Statement p = subst (λ d. Derives ts d p) (some-same below.category category.Statement (sym below.asked ∙ asked)) below.derives in
      let inside : (path : List ℕ) (s : Tree) → subtree_at path p ≡ Some s → (b ≤ first s) × (first s < last s) = λ path s e.
      let deep = subtrees ts category.Statement p s path derives e in
      let begins = below.begins in
      let deeper = deep.begins in
      ((let v : b ≤ first s = omega (arith, low, begins, deeper) in v), deep.some) in
      let y = tree_in (reading h.frame h.hint (based b p)) in
      let P : OfHole = λ v w. HoleStands c t n (b + v) (b + w) in
      let holes = statement-holes h.frame h.hint (based b p) (shapes ts category.Statement b p derives) h.faultless (sound-mapped (renamed name) y (subst Sound h.is sd)) in
      subst (Holes P) (sym h.is) (holes-mapped (renamed name) P y (holes-weaker (StatementHole (based b p)) P (hole-stands c k i j ps b front n p lists there asked inside) y holes))

  rows-hold : (start total e count : ℕ) (qs : Trees) (xs : List Part) → front ≤ start → e + length (take count xs) ≤ total → parts_behind (start + e) ps ≡ qs → AreRead name b qs xs → AllByRecursion Sound xs → AllHoles (HoleAt c t start total b) (row_of (take count xs))
  rows-hold start total e zero qs xs g u a r sd = tt
  rows-hold start total e (suc count) qs [] g u a r sd = tt
  rows-hold start total e (suc count) none (x ∷ xs) g u a r sd = absurd r
  rows-hold start total e (suc count) (skip qs) (x ∷ xs) g u a r sd = absurd r
  rows-hold start total e (suc count) (more p qs) (x ∷ xs) g u a r sd = (
    holes-weaker (λ y z. HoleStands c t (start + e) (b + y) (b + z)) (HoleAt c t start total b) (λ y z h. record { number = e; within = omega (arith, u); hole = h }) x
        (one-statement (start + e) p x (omega (arith, g)) (behind-there (start + e) ps p qs a) r.0 sd.0),
    rows-hold start total (suc e) count qs xs g (omega (arith, u)) (ap (λ m. parts_behind m ps) (add-suc start e) ∙ behind-more (start + e) ps p qs a) r.1 sd.1,
  )

-- ---- windows

module _ (subtrees : Subtrees) (shapes : Shapes) (c : Content) (w : Window) (f : FuncContent) (r : windows.Range) (s : WindowStands c w f r) (over : range_over (window_statements f.tree w) ≡ Some r) (whole_sound : Sound f.tree) where
  abbrev b : ℕ
  b = first s.function.declaration

  abbrev xs : List Part
  xs = drop w.first (statements_of s.list)

  abbrev tokens : List TokenKind
  tokens = kinds s.function.file.tokens.tokens

  statements_there : window_statements f.tree w ≡ row_of (take w.count xs)
  statements_there = ap (λ l. row_of (take w.count (drop w.first (statements_in l)))) s.there

  node-derives : Derives tokens s.stands.category s.stands.stood
  node-derives =
      let sub = subtrees tokens category.File (view s.function.file.root) s.stands.stood s.stands.path s.function.derived.derives s.stands.at_path in
      subst (λ d. Derives tokens d s.stands.stood) (some-same sub.category s.stands.category (sym sub.asked ∙ s.stands.asked)) sub.derives

  parts-there : parts_behind s.front (parts s.stands.stood) ≡ parts_behind w.first (parts_behind s.stands.front (parts s.stands.stood))
  parts-there = ap (λ n. parts_behind n (parts s.stands.stood)) s.is_front ∙ behind-both s.stands.front w.first (parts s.stands.stood)

  all-hold : (t : Tree) → Derives tokens s.stands.category t → s.stands.stood ≡ t → AllHoles (HoleAt s.stands.category t s.front (length (take w.count xs)) b) (row_of (take w.count xs))
  all-hold (node k i j ps) d e =
      rows-hold subtrees shapes tokens s.stands.category k i j ps d b s.stands.front
      (let begins : i ≡ b + first_of s.list = ap first (sym e) ∙ s.stands.begins in omega (arith, begins))
      (ap (λ z. statements_from (kind_of z)) (sym e) ∙ s.stands.holds) s.stands.list s.stands.statements (ap (λ z. items_at s.stands.front (rule (place_of s.stands.category) (kind_of z))) (sym e) ∙ s.stands.is_list) s.stands.name
      s.front (length (take w.count xs)) 0 w.count (parts_behind w.first (parts_behind s.stands.front ps)) xs (omega (arith, s.is_front)) (omega arith)
      (ap (λ n. parts_behind n ps) (plus-zero s.front) ∙ (ap (λ z. parts_behind s.front (parts z)) (sym e) ∙ (parts-there ∙ ap (λ z. parts_behind w.first (parts_behind s.stands.front (parts z))) e)))
      (subst (λ z. AreRead s.stands.name b (parts_behind w.first (parts_behind s.stands.front (parts z))) xs) e (read-behind b s.stands.name w.first (parts_behind s.stands.front (parts s.stands.stood)) (statements_of s.list) s.stands.read))
      (drop-sound w.first (statements_of s.list) (list-sound f.tree s.list w.list whole_sound s.there)) where
        plus-zero : (n : ℕ) → n + 0 ≡ n
        plus-zero n = omega arith

  count-within : length (take w.count xs) ≤ suc s.others
  count-within =
      let qs = parts_behind w.first (parts_behind s.stands.front (parts s.stands.stood)) in
      let sub = subtrees tokens s.stands.category s.stands.stood s.stands.stood [] node-derives refl in
      let ordered = behind-ordered s.front (first s.stands.stood) (last s.stands.stood) (parts s.stands.stood) sub.tiled in
      run-counted b w.count s.others (last s.stands.stood) ordered.0 qs xs r (over-behind b w.first (parts_behind s.stands.front (parts s.stands.stood)) (statements_of s.list) s.stands.over)
      (subst (λ z. Ordered ordered.0 z (last s.stands.stood)) parts-there ordered.1)
      (ap (has_run 0 s.others) (sym parts-there) ∙ (sym (has-from s.front s.others (parts s.stands.stood)) ∙ s.run.has))
      (ap (run_range 0 s.others) (sym parts-there) ∙ (sym (range-from s.front s.others (parts s.stands.stood)) ∙ s.run.place))
      (sym (ap range_over statements_there) ∙ over)

  pub window-hole : (n : ℕ) (h : Hole TypeTree) → slice_get (holes_among 0 false (window_statements f.tree w)) n ≡ Some h → HoleOfWindow c w f r s h
  window-hole n h there =
      let P : OfHole = HoleAt s.stands.category s.stands.stood s.front (length (take w.count xs)) b in
      let held = all-hold s.stands.stood node-derives refl in
      let found : HoleAt s.stands.category s.stands.stood s.front (length (take w.count xs)) b h.from h.upto =
      all-at (At P) (holes_among 0 false (row_of (take w.count xs))) n h (among-found P 0 false (row_of (take w.count xs)) held) (ap (λ q. slice_get (holes_among 0 false q) n) (sym statements_there) ∙ there) in
      let within = found.within in
      let most = count-within in
      record { number = found.number; within = omega (arith, within, most); hole = found.hole }

pub window-holes : Subtrees → Shapes → (c : Content) (w : Window) (f : FuncContent) (r : windows.Range) (s : WindowStands c w f r) → range_over (window_statements f.tree w) ≡ Some r → IsKnown f.tree → calls_no_constant f.tree ≡ true
    → (n : ℕ) (h : Hole TypeTree) → slice_get (holes_among 0 false (window_statements f.tree w)) n ≡ Some h → HoleOfWindow c w f r s h
window-holes subtrees shapes c w f r s over known calls n h there = window-hole subtrees shapes c w f r s over (sound f.tree known calls) n h there
