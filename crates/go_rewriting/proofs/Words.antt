-- New texts that are given by their own words.
use Rattle.std.proofs.Common.{◌≡◌, ℕ, ◌+◌, ◌<◌, ◌≤◌, ◌⊎◌, inl, inr, true, List, Some, sym, ap, ◌∙◌, subst, length, arith}
use Rattle.std.specs.Prelude.{slice_get, ◌++◌}
use Rattle.go_tokens.specs.declared.token.TokenKind.{TokenKind}
use Rattle.go_tokens.specs.declared.token.TokenKind.TheVariants as token
use Rattle.go_grammar.specs.declared.kind.Kind.{Kind}
use Rattle.go_grammar.specs.declared.kind.Category.{Category}
use Rattle.go_grammar.specs.Categories.{place_of}
use Rattle.go_grammar.specs.Rules.{Items}
use Rattle.go_grammar.specs.Trees.{Tree, node, Trees, first, last}
use Rattle.go_grammar.specs.Grammar.{rule, result_words, Derives}
use Rattle.go_grammar.specs.Words.{is_word, is_among}
use Rattle.go_rewriting.specs.Replacing.{Edge, Run}
use Rattle.go_rewriting.specs.Places.{put, carry, carries, range, Ascending, Stand, Fits, Change, changed, moved_by, ranges}
use Rattle.go_rewriting.specs.Sites.{items, run_range, alone}
use Rattle.go_rewriting.specs.Lists.{items_at, has_run, NewRun, NewRunFits}
use Rattle.go_rewriting.proofs.Changes.{get_left, get_right, change_stands}
use Rattle.go_rewriting.proofs.Kept.{first_carry, last_carry}
use Rattle.go_rewriting.proofs.Subtrees.{run_fits_at}
use Rattle.go_rewriting.proofs.Texts.{placed_text, placed_run}

module _ (ts : List TokenKind) (xs : List Change) (n : ℕ) (x : Change) (ascend : Ascending 0 (ranges xs) (length ts)) (at : slice_get xs n ≡ Some x) (edge : Edge ts x.words x.from 0) (long : 0 < length x.words) (ws : List TokenKind) (behind : slice_get (changed xs ts) (moved_by xs x.upto) ≡ slice_get ws 0) where
  stand : Stand (changed xs ts) (moved_by xs) x
  stand = change_stands ts xs 0 n x ascend at

  apart : (i k : ℕ) → i ≤ k → (i ≡ k) ⊎ (i < k)
  apart i k le = grind arith

  -- the words and the token behind them stand in the new text
  same : (k : ℕ) → k ≤ length x.words → slice_get (changed xs ts) (moved_by xs x.from + k) ≡ slice_get (x.words ++ ws) k
  same k le = elim (apart k (length x.words) le) [
    | inl all ↦
        let to : moved_by xs x.from + k ≡ moved_by xs x.upto = omega (arith, all, stand.ends) in
        let end : length x.words + 0 ≡ k = omega (arith, all) in
        ap (slice_get (changed xs ts)) to ∙ behind ∙ sym (get_right x.words ws 0) ∙ ap (slice_get (x.words ++ ws)) end
    | inr lt ↦ stand.words k lt ∙ sym (get_left x.words ws k lt)
  ]

  pub edge_there : Edge ts (changed xs ts) x.from (moved_by xs x.from)
  edge_there =
      let here : slice_get (changed xs ts) (moved_by xs x.from) ≡ slice_get x.words 0 = ap (slice_get (changed xs ts)) (omega arith) ∙ stand.words 0 long in
      record {
        brace = λ h. edge.brace (subst (λ w. is_word w token.LeftBrace ≡ true) here h);
        result = λ k next closed h. edge.result k next closed (subst (λ w. is_among w result_words ≡ true) here h);
      }

  pub text_fits : (c : Category) (t u : Tree) → first t ≡ x.from → last t ≡ x.upto → Derives (x.words ++ ws) c u → first u ≡ 0 → last u ≡ length x.words → Fits ts (changed xs ts) (moved_by xs) c t (put (carry (λ k. moved_by xs x.from + k) u))
  text_fits c t u from upto h begins ends = (
    placed_text (x.words ++ ws) (changed xs ts) (moved_by xs x.from) c u h (λ k lo hi. same k (omega (arith, hi, ends))),
    first_carry (λ k. moved_by xs x.from + k) u ∙ (omega (arith, begins)) ∙ sym (ap (moved_by xs) from),
    last_carry (λ k. moved_by xs x.from + k) u ∙ (omega (arith, ends, stand.ends)) ∙ sym (ap (moved_by xs) upto),
    subst (λ k. Edge ts (changed xs ts) k (moved_by xs k)) (sym from) edge_there,
  )

  -- a run of the words alone, where the words stand
  pub run_there : (l : Items) (new : Trees) → Run (x.words ++ ws) l new 0 (length x.words) → Run (changed xs ts) l (carries (λ k. moved_by xs x.from + k) new) (moved_by xs x.from) (moved_by xs x.upto)
  run_there l new is =
      let there : Run (changed xs ts) l (carries (λ k. moved_by xs x.from + k) new) (moved_by xs x.from + 0) (moved_by xs x.from + length x.words) = placed_run (x.words ++ ws) (changed xs ts) (moved_by xs x.from) l new 0 (length x.words) is (λ k lo hi. same k hi) in
      let begin : moved_by xs x.from + 0 ≡ moved_by xs x.from = omega arith in
      subst (λ z. Run (changed xs ts) l (carries (λ k. moved_by xs x.from + k) new) (moved_by xs x.from) z) (sym stand.ends) (subst (λ z. Run (changed xs ts) l (carries (λ k. moved_by xs x.from + k) new) z (moved_by xs x.from + length x.words)) begin there)

  pub run_fits : (c : Category) (k : Kind) (a b : ℕ) (ps : Trees) (f n : ℕ) (new : Trees) (l : Items) → items_at f (rule (place_of c) k) ≡ Some l → has_run f n ps ≡ true → run_range f n ps ≡ range x.from x.upto → Run (x.words ++ ws) l new 0 (length x.words) → Fits ts (changed xs ts) (moved_by xs) c (node k a b ps) (alone (items f n (carries (λ k. moved_by xs x.from + k) new)))
  run_fits c k a b ps f n new l e has place is = run_fits_at ts (changed xs ts) (moved_by xs) (carries (λ k. moved_by xs x.from + k) new) l f n ps (rule (place_of c) k) x.from x.upto e has place (run_there l new is) edge_there

  pub node_fits : (c : Category) (t : Tree) (f n : ℕ) (new : Trees) → NewRun x ws c t f n new → NewRunFits ts xs x c t f n new
  node_fits c (node k a b ps) f n new h = run_fits c k a b ps f n new h.list h.is_list h.has h.place h.run
