-- The statements of a window are adjoining parts of the node of its list.
use Rattle.std.proofs.Common.{◌≡◌, ◌∙◌, ℕ, zero, suc, ◌+◌, true, false, List, [], ◌∷◌, drop, take, length, Option, Some, None, slice_get, refl, sym, ap, arith}
use Rattle.go_grammar.specs.Categories.{place_of}
use Rattle.go_grammar.specs.Grammar.{rule}
use Rattle.go_grammar.specs.Rules.{Items, Rule, End, Then, Maybe, Unless, Many}
use Rattle.go_grammar.specs.Trees.{Tree, Trees, none, more, skip, kind_of, first, last, parts}
use Rattle.go_rewriting.specs.Lists.{items_at, has_run}
use Rattle.go_rewriting.specs.Places.{range, has_items, items_end}
use Rattle.go_rewriting.specs.Sites.{run_range}
use Rattle.go_tree.specs.Views.{view}
use Rattle.go_types.specs.Trees.{TypeTree}
use Rattle.go_typed.specs.declared.window.Window.{Window}
use Rattle.go_typed.specs.Contents.{Content, FuncContent}
use Rattle.go_typed.specs.Lists.{statement_lists, statements_of}
use Rattle.go_typed.specs.Trees.{Typed, first_of, last_of}
use Rattle.go_typed.specs.Windows.{Range}
use Rattle.clone_window.specs.Spans.{last_from, range_over}
use Rattle.clone_window.specs.Windows.{row_of, statements_in, window_statements}
use Rattle.go_function_trees.specs.Functions.{HasTree, WindowStands}
use Rattle.go_function_trees.specs.Lists.{parts_behind, StandOver, ListStands}
use Rattle.go_function_trees.proofs.Based.{none-some}

-- ---- rules

add-suc : (n k : ℕ) → suc n + k ≡ suc (n + k)
add-suc n k = omega arith

items-more : (n k : ℕ) (r : Rule) (l : Items) → items_at n r ≡ Some l → items_at (n + k) r ≡ Some l
items-more n k (Many ws m) l e = e
items-more n k (End ws) l e = none-some l e
items-more zero k (Then ws c r) l e = none-some l e
items-more (suc n) k (Then ws c r) l e = ap (λ m. items_at m (Then ws c r)) (add-suc n k) ∙ items-more n k r l e
items-more zero k (Maybe ws c r) l e = none-some l e
items-more (suc n) k (Maybe ws c r) l e = ap (λ m. items_at m (Maybe ws c r)) (add-suc n k) ∙ items-more n k r l e
items-more zero k (Unless ws c us r) l e = none-some l e
items-more (suc n) k (Unless ws c us r) l e = ap (λ m. items_at m (Unless ws c us r)) (add-suc n k) ∙ items-more n k r l e

-- ---- behind so many parts

zero-add : (k : ℕ) → zero + k ≡ k
zero-add k = omega arith

run-none : (f n : ℕ) → has_run f n none ≡ false
run-none zero n = refl
run-none (suc f) n = refl

range-none : (f n : ℕ) → run_range f n none ≡ range 0 0
range-none zero n = refl
range-none (suc f) n = refl

has-behind : (f k n : ℕ) (ps : Trees) → has_run (f + k) n ps ≡ has_run k n (parts_behind f ps)
has-behind zero k n ps = ap (λ m. has_run m n ps) (zero-add k)
has-behind (suc f) k n none = run-none (suc f + k) n ∙ sym (run-none k n)
has-behind (suc f) k n (more p ps) = ap (λ m. has_run m n (more p ps)) (add-suc f k) ∙ has-behind f k n ps
has-behind (suc f) k n (skip ps) = ap (λ m. has_run m n (skip ps)) (add-suc f k) ∙ has-behind f k n ps

range-behind : (f k n : ℕ) (ps : Trees) → run_range (f + k) n ps ≡ run_range k n (parts_behind f ps)
range-behind zero k n ps = ap (λ m. run_range m n ps) (zero-add k)
range-behind (suc f) k n none = range-none (suc f + k) n ∙ sym (range-none k n)
range-behind (suc f) k n (more p ps) = ap (λ m. run_range m n (more p ps)) (add-suc f k) ∙ range-behind f k n ps
range-behind (suc f) k n (skip ps) = ap (λ m. run_range m n (skip ps)) (add-suc f k) ∙ range-behind f k n ps

has-from : (k n : ℕ) (ps : Trees) → has_run k n ps ≡ has_run 0 n (parts_behind k ps)
has-from k n ps = (let e : k ≡ k + 0 = omega arith in ap (λ m. has_run m n ps) e) ∙ has-behind k 0 n ps

range-from : (k n : ℕ) (ps : Trees) → run_range k n ps ≡ run_range 0 n (parts_behind k ps)
range-from k n ps = (let e : k ≡ k + 0 = omega arith in ap (λ m. run_range m n ps) e) ∙ range-behind k 0 n ps

-- a run that begins with the first of them
record FirstRun (b : ℕ) (qs : Trees) (r : Range) : Type 0 where
  others : ℕ
  has : has_run 0 others qs ≡ true
  place : run_range 0 others qs ≡ range (b + r.from) (b + r.to)

module _ {T : Type 0} (b : ℕ) where
  over-behind : (k : ℕ) (qs : Trees) (xs : List (Typed T)) → StandOver b qs xs → StandOver b (parts_behind k qs) (drop k xs)
  over-behind zero qs xs h = h
  over-behind (suc k) none [] h = tt
  over-behind (suc k) none (x ∷ xs) h = absurd h
  over-behind (suc k) (more p ps) [] h = absurd h
  over-behind (suc k) (more p ps) (x ∷ xs) h = over-behind k ps xs h.2
  over-behind (suc k) (skip ps) xs h = absurd h

  -- so many of them
  some-items : (n : ℕ) (qs : Trees) (xs : List (Typed T)) → StandOver b qs xs → has_items (length (take n xs)) qs ≡ true
  some-items zero qs xs h = refl
  some-items (suc n) none [] h = refl
  some-items (suc n) none (x ∷ xs) h = absurd h
  some-items (suc n) (more p ps) [] h = absurd h
  some-items (suc n) (more p ps) (x ∷ xs) h = some-items n ps xs h.2
  some-items (suc n) (skip ps) xs h = absurd h

  items-last : (n : ℕ) (p : Tree) (qs : Trees) (x : Typed T) (xs : List (Typed T)) → last p ≡ b + last_of x → StandOver b qs xs → items_end (length (take n xs)) p qs ≡ b + last_from (last_of x) (row_of (take n xs))
  items-last zero p qs x xs e h = e
  items-last (suc n) p none x [] e h = e
  items-last (suc n) p none x (y ∷ ys) e h = absurd h
  items-last (suc n) p (more q qs) x [] e h = absurd h
  items-last (suc n) p (more q qs) x (y ∷ ys) e h = items-last n q qs y ys h.1 h.2
  items-last (suc n) p (skip qs) x ys e h = absurd h

  first-run : (n : ℕ) (qs : Trees) (xs : List (Typed T)) (r : Range) → StandOver b qs xs → range_over (row_of (take n xs)) ≡ Some r → FirstRun b qs r
  first-run zero qs xs r h e = none-some r e
  first-run (suc n) qs [] r h e = none-some r e
  first-run (suc n) none (x ∷ xs) r h e = absurd h
  first-run (suc n) (skip ps) (x ∷ xs) r h e = absurd h
  first-run (suc n) (more p ps) (x ∷ xs) r h e =
      let over : Range = record { from = first_of x; to = last_from (last_of x) (row_of (take n xs)) } in
      let same : over ≡ r = cc in
      record {
        others = length (take n xs);
        has = some-items n ps xs h.2;
        place = ap (λ i. range i (items_end (length (take n xs)) p ps)) h.0 ∙ (ap (λ j. range (b + first_of x) j) (items-last n p ps x xs h.1 h.2) ∙ ap (λ (z : Range). range (b + z.from) (b + z.to)) same);
      }

nothing-drops : {A : Type 0} (k : ℕ) → (let xs : List A = [] in drop k xs) ≡ []
nothing-drops zero = refl
nothing-drops (suc k) = refl

nothing-takes : {A : Type 0} (k : ℕ) → (let xs : List A = [] in take k xs) ≡ []
nothing-takes zero = refl
nothing-takes (suc k) = refl

module _ (c : Content) (w : Window) (f : FuncContent) (r : Range) (h : HasTree c w.func f) where
  in-list : (l : Typed TypeTree) → slice_get (statement_lists f.tree) w.list ≡ Some l → range_over (row_of (take w.count (drop w.first (statements_of l)))) ≡ Some r → WindowStands c w f r
  in-list l there e =
      let b : ℕ = first h.declaration in
      let s : ListStands (view h.file.root) b l = h.lists w.list l there in
      let qs : Trees = parts_behind s.front (parts s.stood) in
      let run = first-run b w.count (parts_behind w.first qs) (drop w.first (statements_of l)) r (over-behind b w.first qs (statements_of l) s.over) e in
      record {
        function = h;
        list = l;
        there = there;
        stands = s;
        front = s.front + w.first;
        is_front = refl;
        others = run.others;
        run = record {
          is_list = items-more s.front w.first (rule (place_of s.category) (kind_of s.stood)) s.list s.is_list;
          has = has-behind s.front w.first run.others (parts s.stood) ∙ (has-from w.first run.others qs ∙ run.has);
          place = range-behind s.front w.first run.others (parts s.stood) ∙ (range-from w.first run.others qs ∙ run.place);
        };
      }

  in-place : (o : Option (Typed TypeTree)) → slice_get (statement_lists f.tree) w.list ≡ o → range_over (row_of (take w.count (drop w.first (statements_in o)))) ≡ Some r → WindowStands c w f r
  in-place None there e =
      none-some r (sym (ap (λ xs. range_over (row_of (take w.count xs))) (nothing-drops w.first) ∙ ap (λ xs. range_over (row_of xs)) (nothing-takes w.count)) ∙ e)
  in-place (Some l) there e = in-list l there e

  pub window-stands : range_over (window_statements f.tree w) ≡ Some r → WindowStands c w f r
  window-stands e = in-place (slice_get (statement_lists f.tree) w.list) refl e
