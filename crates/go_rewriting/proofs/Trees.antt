-- The tree of a text in which ranges are replaced.
use Rattle.std.proofs.Common.{◌≡◌, ℕ, zero, suc, ◌+◌, ◌<◌, ◌≤◌, ◌⊎◌, inl, inr, Bool, true, false, List, [], ◌∷◌, ◌++◌, length, drop, Some, refl, sym, ap, ◌∙◌, subst, eqb-true, arith}
use Rattle.std.proofs.lemmas.Bool.{eq-eqb}
use Rattle.std.specs.Prelude.{slice_get, ◌==◌, if◌then◌else◌}
use Rattle.go_tokens.specs.declared.token.TokenKind.{TokenKind}
use Rattle.go_grammar.specs.declared.kind.Category.{Category}
use Rattle.go_grammar.specs.Categories.{place_of}
use Rattle.go_grammar.specs.Trees.{Tree, node}
use Rattle.go_grammar.specs.Grammar.{rule}
use Rattle.go_grammar.proofs.Public.{derives_grows}
use Rattle.go_rewriting.specs.Replacing.{Edge, subtree_at}
use Rattle.go_rewriting.specs.Places.{carries, Range, range, Outside, Ascending, Fits, Change, changed, moved_by, ranges}
use Rattle.go_rewriting.specs.Sites.{Local, whole, items, range_in, local_range, site_ranges, alone, AllSit}
use Rattle.go_rewriting.proofs.Changes.{change_stays, change_stands, later_same}
use Rattle.go_rewriting.proofs.Words.{edge_there, text_fits, run_there}
use Rattle.go_rewriting.proofs.Subtrees.{run_grows, run_fits_at}
use Rattle.go_rewriting.specs.Rewriting.{Rewrite, words, changes, settled, sites, ChangeFits, behind, TreesFit}

abbrev pub change_of : Rewrite → Change
change_of r = record { from = r.from; upto = r.upto; words = words r }

-- a new text has a token
some_words : (c : Category) (t : Tree) (ws next : List TokenKind) (x : Local) → ChangeFits c t ws next x → 0 < length ws
some_words c t ws next (whole s) h = omega (arith, derives_grows (ws ++ next) s c h.0, h.1, h.2)
some_words c (node k a b ps) ws next (items f n new) h = run_grows (ws ++ next) h.list new 0 (length ws) h.run

apart : (i k : ℕ) → i ≤ k → (i ≡ k) ⊎ (i < k)
apart i k le = grind arith

not_same : (n k : ℕ) → n < k → (n == k) ≡ false
not_same n k lt = go (n == k) refl
  where
    go : (b : Bool) → (n == k) ≡ b → b ≡ false
    go true e = absurd (omega (arith, eqb-true n k e, lt))
    go false e = refl

module _ (ts : List TokenKind) where
  in_front : (rs : List Rewrite) (i n : ℕ) → Ascending i (ranges (changes rs)) (length ts) → n < i → Outside n (ranges (changes rs))
  in_front [] i n h lt = tt
  in_front (r ∷ rs) i n h lt = (inl (omega (arith, h.0, lt)), in_front rs r.upto n h.2 (omega (arith, h.0, h.1, lt)))

  -- what stands at a place in front of the changes
  at_front : (rs : List Rewrite) (c : Category) (t : Tree) (i n : ℕ) → TreesFit c ts t rs → Ascending i (ranges (changes rs)) (length ts) → n ≤ i → slice_get (changed (changes rs) ts) (moved_by (changes rs) n) ≡ behind ts rs n
  at_front [] c t i n g h le = refl
  at_front (r ∷ rs) c t i n g h le = elim (apart n r.from (omega (arith, h.0, le))) [
    | inl same ↦
        let stand = change_stands ts (changes (r ∷ rs)) i 0 (change_of r) h refl in
        let some : 0 < length (words r) = some_words g.0.category g.0.stood (words r) r.next r.change g.0.fits in
        let place : moved_by (changes (r ∷ rs)) r.from + 0 ≡ moved_by (changes (r ∷ rs)) n = (let z : moved_by (changes (r ∷ rs)) r.from + 0 ≡ moved_by (changes (r ∷ rs)) r.from = omega arith in z) ∙ ap (moved_by (changes (r ∷ rs))) (sym same) in
        ap (slice_get (changed (changes (r ∷ rs)) ts)) (sym place) ∙ stand.words 0 some ∙ sym (ap (λ b. if b then slice_get (words r) 0 else slice_get ts n) (eq-eqb n r.from same))
    | inr lt ↦ (change_stays ts (changes (r ∷ rs)) i n h (inl lt, in_front rs r.upto n h.2 (omega (arith, h.1, lt)))).same ∙ sym (ap (λ b. if b then slice_get (words r) 0 else slice_get ts n) (not_same n r.from lt))
  ]

  later : (rs : List Rewrite) (i : ℕ) (k : ℕ) (r : Rewrite) (others : List Rewrite) → Ascending i (ranges (changes rs)) (length ts) → drop k rs ≡ r ∷ others → i ≤ r.from
  later [] i zero r others h e = cc
  later [] i (suc k) r others h e = cc
  later (y ∷ rs) i zero r others h e = let same : y ≡ r = cc in subst (λ (z : Rewrite). i ≤ z.from) same h.0
  later (y ∷ rs) i (suc k) r others h e = omega (arith, h.0, h.1, later rs y.upto k r others h.2 e)

  grows : (rs : List Rewrite) (i : ℕ) (k : ℕ) (r : Rewrite) (others : List Rewrite) → Ascending i (ranges (changes rs)) (length ts) → drop k rs ≡ r ∷ others → r.from < r.upto
  grows [] i zero r others h e = cc
  grows [] i (suc k) r others h e = cc
  grows (y ∷ rs) i zero r others h e = let same : y ≡ r = cc in subst (λ (z : Rewrite). z.from < z.upto) same h.1
  grows (y ∷ rs) i (suc k) r others h e = grows rs y.upto k r others h.2 e

  -- the token behind a range, after all are replaced
  behind_range : (rs : List Rewrite) (c : Category) (t : Tree) (i k : ℕ) (r : Rewrite) (others : List Rewrite) → TreesFit c ts t rs → Ascending i (ranges (changes rs)) (length ts) → drop k rs ≡ r ∷ others → slice_get (changed (changes rs) ts) (moved_by (changes rs) r.upto) ≡ behind ts others r.upto
  behind_range [] c t i zero r others g h e = cc
  behind_range [] c t i (suc k) r others g h e = cc
  behind_range (y ∷ rs) c t i zero r others g h e =
      let same : y ≡ r = cc in
      let tail : rs ≡ others = cc in
      let here : slice_get (changed (changes (y ∷ rs)) ts) (moved_by (changes (y ∷ rs)) y.upto) ≡ behind ts rs y.upto = later_same ts (change_of y) (changes rs) y.upto h.1 h.2 (omega arith) ∙ at_front rs c t y.upto y.upto g.1 h.2 (omega arith) in
      subst (λ (z : Rewrite). slice_get (changed (changes (y ∷ rs)) ts) (moved_by (changes (y ∷ rs)) z.upto) ≡ behind ts others z.upto) same (subst (λ zs. slice_get (changed (changes (y ∷ rs)) ts) (moved_by (changes (y ∷ rs)) y.upto) ≡ behind ts zs y.upto) tail here)
  behind_range (y ∷ rs) c t i (suc k) r others g h e =
      later_same ts (change_of y) (changes rs) r.upto h.1 h.2 (omega (arith, later rs y.upto k r others h.2 e, grows rs y.upto k r others h.2 e)) ∙ behind_range rs c t y.upto k r others g.1 h.2 e

  change_at : (rs : List Rewrite) (k : ℕ) (r : Rewrite) (others : List Rewrite) → drop k rs ≡ r ∷ others → slice_get (changes rs) k ≡ Some (change_of r)
  change_at [] zero r others e = cc
  change_at [] (suc k) r others e = cc
  change_at (y ∷ rs) zero r others e = let same : y ≡ r = cc in ap (λ z. Some (change_of z)) same
  change_at (y ∷ rs) (suc k) r others e = change_at rs k r others e

  drop_next : (rs : List Rewrite) (k : ℕ) (r : Rewrite) (others : List Rewrite) → drop k rs ≡ r ∷ others → drop (suc k) rs ≡ others
  drop_next [] zero r others e = cc
  drop_next [] (suc k) r others e = cc
  drop_next (y ∷ rs) zero r others e = cc
  drop_next (y ∷ rs) (suc k) r others e = drop_next rs k r others e

  module _ (all : List Rewrite) (c : Category) (t : Tree) (fit : TreesFit c ts t all) (ascend : Ascending 0 (ranges (changes all)) (length ts)) where
    -- one range
    change_fits : (k : ℕ) (r : Rewrite) (others : List Rewrite) → drop k all ≡ r ∷ others → (d : Category) (u : Tree) (x : Local) → slice_get r.next 0 ≡ behind ts others r.upto → Edge ts (words r) r.from 0 → local_range u x ≡ range r.from r.upto → ChangeFits d u (words r) r.next x → Fits ts (changed (changes all) ts) (moved_by (changes all)) d u (alone (settled (λ j. moved_by (changes all) r.from + j) x))
    change_fits k r others e d u (whole s) next edge place h =
        let front : slice_get (changed (changes all) ts) (moved_by (changes all) r.upto) ≡ slice_get r.next 0 = behind_range all c t 0 k r others fit ascend e ∙ sym next in
        text_fits ts (changes all) k (change_of r) ascend (change_at all k r others e) edge (some_words d u (words r) r.next (whole s) h) r.next front d u s (ap Range.from place) (ap Range.upto place) h.0 h.1 h.2
    change_fits k r others e d (node q a b ps) (items f n new) next edge place h =
        let front : slice_get (changed (changes all) ts) (moved_by (changes all) r.upto) ≡ slice_get r.next 0 = behind_range all c t 0 k r others fit ascend e ∙ sym next in
        let long : 0 < length (words r) = some_words d (node q a b ps) (words r) r.next (items f n new) h in
        let at : slice_get (changes all) k ≡ Some (change_of r) = change_at all k r others e in
        run_fits_at ts (changed (changes all) ts) (moved_by (changes all)) (carries (λ j. moved_by (changes all) r.from + j) new) h.list f n ps (rule (place_of d) q) r.from r.upto h.is_list h.has place
        (run_there ts (changes all) k (change_of r) ascend at edge long r.next front h.list new h.run)
        (edge_there ts (changes all) k (change_of r) ascend at edge long r.next front)

    settled_range : (m : ℕ → ℕ) (u : Tree) (x : Local) → local_range u (settled m x) ≡ local_range u x
    settled_range m u (whole s) = refl
    settled_range m (node q a b ps) (items f n new) = refl

    pub sits : (k : ℕ) (rs : List Rewrite) → drop k all ≡ rs → TreesFit c ts t rs → AllSit ts (changed (changes all) ts) (moved_by (changes all)) c t (sites (moved_by (changes all)) rs)
    sits k [] e g = tt
    sits k (r ∷ rs) e g = (
      record {
        old = g.0.stood;
        category = g.0.category;
        stood = g.0.at_path;
        asked = g.0.asked;
        fits = change_fits k r rs e g.0.category g.0.stood r.change g.0.behind_is g.0.edge g.0.place g.0.fits;
      },
      sits (suc k) rs (drop_next all k r rs e) g.1,
    )

    pub placed : (rs : List Rewrite) → TreesFit c ts t rs → ranges (changes rs) ≡ site_ranges t (sites (moved_by (changes all)) rs)
    placed [] g = refl
    placed (r ∷ rs) g =
        let m : ℕ → ℕ = λ j. moved_by (changes all) r.from + j in
        let here : range_in (subtree_at r.path t) (settled m r.change) ≡ range r.from r.upto = ap (λ o. range_in o (settled m r.change)) g.0.at_path ∙ settled_range m g.0.stood r.change ∙ g.0.place in
        ap (λ x. x ∷ ranges (changes rs)) (sym here) ∙ ap (λ xs. range_in (subtree_at r.path t) (settled m r.change) ∷ xs) (placed rs g.1)
