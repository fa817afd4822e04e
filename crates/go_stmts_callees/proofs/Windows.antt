-- What holds of all nodes of a function holds of those of a window's statements.
use Rattle.std.proofs.Common.{◌≡◌, ℕ, zero, suc, true, List, [], ◌∷◌, ◌++◌, drop, take, Option, Some, None, slice_get, refl, subst}
use Rattle.go_types.specs.Trees.{TypeTree}
use Rattle.go_typed.specs.declared.form.Form.{Form}
use Rattle.go_typed.specs.declared.window.Window.{Window}
use Rattle.go_typed.specs.Forms.{is_statement_list, values_count}
use Rattle.go_typed.specs.Lists.{own_list, statement_lists, lists_among, present, statements_of}
use Rattle.go_typed.specs.Trees.{Label, Typed, typed, Typeds, none, more, skip}
use Rattle.clone_window.specs.Windows.{row_of, statements_in, window_statements}
use Rattle.go_stmts_final_types.specs.Known.{IsKnown, AreKnown}
use Rattle.go_function_holes.specs.Holes.{applies, calls_no_constant, none_called}
use Rattle.go_stmts_callees.proofs.Uncalled.{whichever, both_true, truly}

module _ (P : Typed TypeTree → Type 0) (Q : Typeds TypeTree → Type 0) (inside : (f : Form) (i j : ℕ) (l : Label TypeTree) (ps : Typeds TypeTree) → P (typed f i j l ps) → Q ps)
    (front : (p : Typed TypeTree) (ps : Typeds TypeTree) → Q (more p ps) → P p × Q ps) (left : (ps : Typeds TypeTree) → Q (skip ps) → Q ps) (nothing : Q none) (both : (p : Typed TypeTree) (ps : Typeds TypeTree) → P p → Q ps → Q (more p ps)) where
  abbrev Each : List (Typed TypeTree) → Type 0
  Each [] = Unit {0}
  Each (x ∷ xs) = P x × Each xs

  each_append : (xs ys : List (Typed TypeTree)) → Each xs → Each ys → Each (xs ++ ys)
  each_append [] ys h g = g
  each_append (x ∷ xs) ys h g = (h.0, each_append xs ys h.1 g)

  each_at : (xs : List (Typed TypeTree)) (n : ℕ) (x : Typed TypeTree) → Each xs → slice_get xs n ≡ Some x → P x
  each_at [] n x h e = absurd cc
  each_at (y ∷ xs) zero x h e = let same : y ≡ x = cc in subst P same h.0
  each_at (y ∷ xs) (suc n) x h e = each_at xs n x h.1 e

  mutual
    lists_have : (x : Typed TypeTree) → P x → Each (statement_lists x)
    lists_have (typed f i j l ps) h =
        each_append (own_list (typed f i j l ps)) (lists_among ps) (whichever Each (is_statement_list f) (typed f i j l ps ∷ []) [] (h, tt) tt) (all_lists_have ps (inside f i j l ps h))

    all_lists_have : (ps : Typeds TypeTree) → Q ps → Each (lists_among ps)
    all_lists_have none h = tt
    all_lists_have (more p ps) h = let s = front p ps h in each_append (statement_lists p) (lists_among ps) (lists_have p s.0) (all_lists_have ps s.1)
    all_lists_have (skip ps) h = all_lists_have ps (left ps h)

  present_have : (ps : Typeds TypeTree) → Q ps → Each (present ps)
  present_have none h = tt
  present_have (more p ps) h = let s = front p ps h in (s.0, present_have ps s.1)
  present_have (skip ps) h = present_have ps (left ps h)

  drop_have : (n : ℕ) (xs : List (Typed TypeTree)) → Each xs → Each (drop n xs)
  drop_have zero xs h = h
  drop_have (suc n) [] h = tt
  drop_have (suc n) (x ∷ xs) h = drop_have n xs h.1

  take_have : (n : ℕ) (xs : List (Typed TypeTree)) → Each xs → Each (take n xs)
  take_have zero xs h = tt
  take_have (suc n) [] h = tt
  take_have (suc n) (x ∷ xs) h = (h.0, take_have n xs h.1)

  row_has : (xs : List (Typed TypeTree)) → Each xs → Q (row_of xs)
  row_has [] h = nothing
  row_has (x ∷ xs) h = both x (row_of xs) h.0 (row_has xs h.1)

  statements_have : (x : Typed TypeTree) → P x → Each (statements_of x)
  statements_have (typed f i j l ps) h = drop_have (values_count f) (present ps) (present_have ps (inside f i j l ps h))

  there : (o : Option (Typed TypeTree)) → ((x : Typed TypeTree) → o ≡ Some x → P x) → Each (statements_in o)
  there None f = tt
  there (Some x) f = statements_have x (f x refl)

  pub window_has : (root : Typed TypeTree) (w : Window) → P root → Q (window_statements root w)
  window_has root w h =
      let o = slice_get (statement_lists root) w.list in
      row_has (take w.count (drop w.first (statements_in o))) (take_have w.count (drop w.first (statements_in o)) (drop_have w.first (statements_in o) (there o (λ x e. each_at (statement_lists root) w.list x (lists_have root h) e))))

pub window_calls : (root : Typed TypeTree) (w : Window) → calls_no_constant root ≡ true → none_called (window_statements root w) ≡ true
window_calls root w h =
    window_has (λ x. calls_no_constant x ≡ true) (λ ps. none_called ps ≡ true) (λ f i j l ps e. (both_true (applies f ps) (none_called ps) e).1) (λ p ps e. both_true (calls_no_constant p) (none_called ps) e) (λ ps e. e) refl
    (λ p ps e g. truly (calls_no_constant p) (none_called ps) e g) root w h

pub window_known : (root : Typed TypeTree) (w : Window) → IsKnown root → AreKnown (window_statements root w)
window_known root w h = window_has IsKnown AreKnown (λ f i j l ps e. e.3) (λ p ps e. e) (λ ps e. e) tt (λ p ps e g. (e, g)) root w h
