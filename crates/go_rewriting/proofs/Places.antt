-- Where several disjoint parts are replaced at once, the new tokens have the new tree.
use Rattle.std.proofs.Common.{◌≡◌, ℕ, zero, suc, ◌<◌, ◌≤◌, Bool, true, false, List, refl, sym, subst, arith}
use Rattle.std.specs.Prelude.{slice_get}
use Rattle.go_tokens.specs.declared.token.TokenKind.{TokenKind}
use Rattle.go_grammar.specs.declared.kind.Category.{Category}
use Rattle.go_grammar.specs.declared.kind.Category.TheVariants as category
use Rattle.go_grammar.specs.Categories.{place_of}
use Rattle.go_grammar.specs.Rules.{Items, Rule, End, Then, Maybe, Unless, Many, item}
use Rattle.go_grammar.specs.Trees.{Tree, node, Trees, none, more, skip, first, last, onto}
use Rattle.go_grammar.specs.Grammar.{rule, agrees, Words, Gap, Derives, Spells, Goes}
use Rattle.go_grammar.proofs.Public.{and_both, same_category, words_order, gap_order, between_order, derives_order, spells_order, goes_order}
use Rattle.go_rewriting.specs.Replacing.{Edge, Run}
use Rattle.go_rewriting.specs.Places.{Patch, keep, put, inside, Patches, done, part, run, has_items, items_behind, items_end, become, become_all, places, Outside, Stays, agreed, all_agreed, Fits, FitAll}
use Rattle.go_rewriting.proofs.Kept.{Stay, Soft, narrow, soft_same, soft_at, ends_soft, among_soft, words_kept, gap_kept, between_kept, derives_kept, spells_kept, goes_kept, first_carry, last_carry}
use Rattle.go_rewriting.proofs.Order.{derives_ordered, spells_ordered, Keeps, KeepAll, stay_before, later, keeps}
use Rattle.go_rewriting.proofs.Results.{led, rule_led, led_words, Closed, closed_behind, not_yet, ends_closed}
use Rattle.go_rewriting.proofs.Runs.{run_goes, run_begins}
use Rattle.go_rewriting.proofs.Begins.{no_brace_begins}

module _ (ts : List TokenKind) (l : Items) where
  -- what follows so many items
  behind_run : (n : ℕ) (p : Tree) (ps : Trees) (j : ℕ) → has_items n ps ≡ true → Goes ts l (last p) ps j → Goes ts l (items_end n p ps) (items_behind n ps) j
  behind_run zero p ps j e h = h
  behind_run (suc n) p none j e h = cc
  behind_run (suc n) p (more q qs) j e h = behind_run n q qs j e h.4
  behind_run (suc n) p (skip ps) j e h = cc

module _ (ts ts' : List TokenKind) (m : ℕ → ℕ) where
  -- the text of a node in the new tokens, and the edge in front of it
  pub record Text (c : Category) (t t' : Tree) : Type 0 where
    pub derives : Derives ts' c t'
    pub begins : first t' ≡ m (first t)
    pub finishes : last t' ≡ m (last t)
    edge : Soft ts ts' m (first t)

  record Row (r : Rule) (i : ℕ) (ps : Trees) (j : ℕ) : Type 0 where
    spells : Spells ts' r (m i) ps (m j)
    edge : Soft ts ts' m i

  record Line (l : Items) (i : ℕ) (ps : Trees) (j : ℕ) : Type 0 where
    goes : Goes ts' l (m i) ps (m j)
    edge : Soft ts ts' m i

  -- in front of a new text
  new_edge : (c : Category) (t : Tree) → Derives ts c t → Edge ts ts' (first t) (m (first t)) → Soft ts ts' m (first t)
  new_edge c t h e = record { edge = e; closing = λ at. absurd (no_brace_begins ts t c h at) }

  -- a new run, and then what goes on behind it
  record Begun (l : Items) (i : ℕ) (ps : Trees) (j : ℕ) : Type 0 where
    head : Tree
    tail : Trees
    is : ps ≡ more head tail
    begins : first head ≡ m i
    derives : Derives ts' (item l) head
    goes : Goes ts' l (last head) tail (m j)

  begun : (l : Items) (new qs : Trees) (i k j : ℕ) → Run ts' l new (m i) (m k) → Goes ts' l (m k) qs (m j) → Begun l i (onto new qs) j
  begun l none qs i k j r g = absurd r
  begun l (skip ss) qs i k j r g = absurd r
  begun l (more s ss) qs i k j r g =
      let b = run_begins ts' (more s ss) l s ss (m i) (m k) refl r in
      record { head = s; tail = onto ss qs; is = refl; begins = b.0; derives = b.1; goes = run_goes ts' (more s ss) qs l s ss (m i) (m k) (m j) refl r g }

  mutual
    became : (q : Patch) (t : Tree) (c : Category) → Derives ts c t → Fits ts ts' m c t q → agreed m t q ≡ true → Keeps ts ts' m t q → Soft ts ts' m (last t) → Text c t (become m t q)
    became keep t c h f y g soft = record {
      derives = derives_kept ts ts' m t c g soft h;
      begins = first_carry m t;
      finishes = last_carry m t;
      edge = soft_at ts ts' m (first t) (last t) (first t) g (omega arith) (derives_order ts t c h) soft;
    }
    became (put s) t c h f y g soft = record { derives = f.0; begins = f.1; finishes = f.2; edge = new_edge c t h f.3 }
    became (inside qs) (node k a b ps) c h f y g soft =
        let ok = and_both (agrees k (become_all m ps qs)) (all_agreed m ps qs) y in
        let r : Row (rule (place_of c) k) a (become_all m ps qs) b = row qs ps (rule (place_of c) k) a b false (rule_led (place_of c) k) (not_yet ts a) h.1 f ok.1 g soft in
        record { derives = (h.0, r.spells, ok.0, ends_soft ts ts' m c k b soft h.3); begins = refl; finishes = refl; edge = r.edge }

    row : (qs : Patches) (ps : Trees) (r : Rule) (i j : ℕ) (b : Bool) → led b r ≡ true → (b ≡ true → Closed ts i) → Spells ts r i ps j → FitAll ts ts' m r ps qs → all_agreed m ps qs ≡ true → KeepAll ts ts' m i ps qs j → Soft ts ts' m j → Row r i (become_all m ps qs) j
    row done ps r i j v q e h f y g soft = record { spells = spells_kept ts ts' m ps r i j v q e g soft h; edge = soft_at ts ts' m i j i g (omega arith) (spells_order ts ps r i j h) soft }
    row (part x qs) none r i j v q e h f y g soft = absurd f
    row (part x qs) (more p ps) (End ws) i j v q e h f y g soft = absurd h
    row (part x qs) (skip ps) (End ws) i j v q e h f y g soft = absurd h
    row (part x qs) (more p ps) (Then ws c r) i j v q e h f y g soft =
        let ok = and_both (agreed m p x) (all_agreed m ps qs) y in
        let rest : Row r (last p) (become_all m ps qs) j = row qs ps r (last p) j (same_category c category.Parameters) q (ends_closed ts c p h.1) h.2 f.1 ok.1 g.2 soft in
        let text : Text c p (become m p x) = became x p c h.1 f.0 ok.0 g.1 rest.edge in
        record {
          spells = (subst (λ n. Words ts' (m i) ws n) (sym text.begins) (words_kept ts ts' m ws i (first p) g.0 h.0), text.derives, subst (λ n. Spells ts' r n (become_all m ps qs) (m j)) (sym text.finishes) rest.spells);
          edge = soft_at ts ts' m i (first p) i g.0 (omega arith) (words_order ts ws i (first p) h.0) text.edge;
        }
    row (part x qs) (skip ps) (Then ws c r) i j v q e h f y g soft = absurd h
    row (part x qs) (more p ps) (Maybe ws c r) i j v q e h f y g soft =
        let ok = and_both (agreed m p x) (all_agreed m ps qs) y in
        let rest : Row r (last p) (become_all m ps qs) j = row qs ps r (last p) j false q (not_yet ts (last p)) h.2 f.1 ok.1 g.2 soft in
        let text : Text c p (become m p x) = became x p c h.1 f.0 ok.0 g.1 rest.edge in
        record {
          spells = (subst (λ n. Words ts' (m i) ws n) (sym text.begins) (words_kept ts ts' m ws i (first p) g.0 h.0), text.derives, subst (λ n. Spells ts' r n (become_all m ps qs) (m j)) (sym text.finishes) rest.spells);
          edge = soft_at ts ts' m i (first p) i g.0 (omega arith) (words_order ts ws i (first p) h.0) text.edge;
        }
    row (part x qs) (skip ps) (Maybe ws c r) i j v q e h f y g soft =
        let on : i ≤ h.0 = words_order ts ws i h.0 h.1 in
        let st : Stay ts ts' m i h.0 = stay_before ts ts' m qs ps i h.0 j (spells_ordered ts ps r h.0 j h.2) g in
        let rest : Row r h.0 (become_all m ps qs) j = row qs ps r h.0 j false q (not_yet ts h.0) h.2 f y (later ts ts' m qs ps i h.0 j on g) soft in
        record {
          spells = (m h.0, words_kept ts ts' m ws i h.0 st h.1, rest.spells);
          edge = soft_at ts ts' m i h.0 i st (omega arith) on rest.edge;
        }
    row (part x qs) (more p ps) (Unless ws c us r) i j v q e h f y g soft =
        let ok = and_both (agreed m p x) (all_agreed m ps qs) y in
        let u = led_words ts ws c us r v i q e in
        let rest : Row r (last p) (become_all m ps qs) j = row qs ps r (last p) j false u.rest (not_yet ts (last p)) h.2 f.1 ok.1 g.2 soft in
        let text : Text c p (become m p x) = became x p c h.1 f.0 ok.0 g.1 rest.edge in
        record {
          spells = (subst (λ n. Words ts' (m i) ws n) (sym text.begins) (words_kept ts ts' m ws i (first p) g.0 h.0), text.derives, subst (λ n. Spells ts' r n (become_all m ps qs) (m j)) (sym text.finishes) rest.spells);
          edge = soft_at ts ts' m i (first p) i g.0 (omega arith) (words_order ts ws i (first p) h.0) text.edge;
        }
    row (part x qs) (skip ps) (Unless ws c us r) i j v q e h f y g soft =
        let u = led_words ts ws c us r v i q e in
        let on : i ≤ h.0 = words_order ts ws i h.0 h.1 in
        let st : Stay ts ts' m i h.0 = stay_before ts ts' m qs ps i h.0 j (spells_ordered ts ps r h.0 j h.3) g in
        let rest : Row r h.0 (become_all m ps qs) j = row qs ps r h.0 j false u.rest (not_yet ts h.0) h.3 f y (later ts ts' m qs ps i h.0 j on g) soft in
        record {
          spells = (m h.0, words_kept ts ts' m ws i h.0 st h.1, among_soft ts ts' m us h.0 u.words (closed_behind ts ws i h.0 u.none h.1 u.closed) rest.edge h.2, rest.spells);
          edge = soft_at ts ts' m i h.0 i st (omega arith) on rest.edge;
        }
    row (part x qs) (more p ps) (Many ws l) i j v q e h f y g soft =
        let ok = and_both (agreed m p x) (all_agreed m ps qs) y in
        let on : i ≤ h.0 = words_order ts ws i h.0 h.1 in
        let in_g : h.0 ≤ first p = gap_order ts l h.0 (first p) h.2 in
        let rest : Line l (last p) (become_all m ps qs) j = items qs ps ws l (last p) j h.4 f.1 ok.1 g.2 soft in
        let text : Text (item l) p (become m p x) = became x p (item l) h.3 f.0 ok.0 g.1 rest.edge in
        record {
          spells = (m h.0, words_kept ts ts' m ws i h.0 (narrow ts ts' m i (first p) i h.0 g.0 (omega arith) in_g) h.1, subst (λ n. Gap ts' l (m h.0) n) (sym text.begins) (gap_kept ts ts' m l h.0 (first p) (narrow ts ts' m i (first p) h.0 (first p) g.0 on (omega arith)) h.2), text.derives, subst (λ n. Goes ts' l n (become_all m ps qs) (m j)) (sym text.finishes) rest.goes);
          edge = soft_at ts ts' m i (first p) i g.0 (omega arith) (omega (arith, on, in_g)) text.edge;
        }
    row (part x qs) (skip ps) (Many ws l) i j v q e h f y g soft = absurd h
    row (run n new qs) ps (End ws) i j v q e h f y g soft = absurd f
    row (run n new qs) ps (Then ws c r) i j v q e h f y g soft = absurd f
    row (run n new qs) ps (Maybe ws c r) i j v q e h f y g soft = absurd f
    row (run n new qs) ps (Unless ws c us r) i j v q e h f y g soft = absurd f
    row (run n new qs) none (Many ws l) i j v q e h f y g soft = absurd f
    row (run n new qs) (more p ps) (Many ws l) i j v q e h f y g soft =
        let on : i ≤ h.0 = words_order ts ws i h.0 h.1 in
        let in_g : h.0 ≤ first p = gap_order ts l h.0 (first p) h.2 in
        let rest : Line l (items_end n p ps) (become_all m (items_behind n ps) qs) j = items qs (items_behind n ps) ws l (items_end n p ps) j (behind_run ts l n p ps j f.0 h.4) f.3 y g.1 soft in
        let head : Begun l (first p) (onto new (become_all m (items_behind n ps) qs)) j = begun l new (become_all m (items_behind n ps) qs) (first p) (items_end n p ps) j f.1 rest.goes in
        record {
          spells = subst (λ zs. Spells ts' (Many ws l) (m i) zs (m j)) (sym head.is) (m h.0, words_kept ts ts' m ws i h.0 (narrow ts ts' m i (first p) i h.0 g.0 (omega arith) in_g) h.1, subst (λ n. Gap ts' l (m h.0) n) (sym head.begins) (gap_kept ts ts' m l h.0 (first p) (narrow ts ts' m i (first p) h.0 (first p) g.0 on (omega arith)) h.2), head.derives, head.goes);
          edge = soft_at ts ts' m i (first p) i g.0 (omega arith) (omega (arith, on, in_g)) (new_edge (item l) p h.3 f.2);
        }
    row (run n new qs) (skip ps) (Many ws l) i j v q e h f y g soft = absurd f

    items : (qs : Patches) (ps : Trees) (ws : List TokenKind) (l : Items) (i j : ℕ) → Goes ts l i ps j → FitAll ts ts' m (Many ws l) ps qs → all_agreed m ps qs ≡ true → KeepAll ts ts' m i ps qs j → Soft ts ts' m j → Line l i (become_all m ps qs) j
    items done ps ws l i j h f y g soft = record { goes = goes_kept ts ts' m ps l i j g soft h; edge = soft_at ts ts' m i j i g (omega arith) (goes_order ts ps l i j h) soft }
    items (part x qs) none ws l i j h f y g soft = absurd f
    items (part x qs) (more p ps) ws l i j h f y g soft =
        let ok = and_both (agreed m p x) (all_agreed m ps qs) y in
        let on : i ≤ h.0 = between_order ts l i h.0 h.1 in
        let in_g : h.0 ≤ first p = gap_order ts l h.0 (first p) h.2 in
        let rest : Line l (last p) (become_all m ps qs) j = items qs ps ws l (last p) j h.4 f.1 ok.1 g.2 soft in
        let text : Text (item l) p (become m p x) = became x p (item l) h.3 f.0 ok.0 g.1 rest.edge in
        record {
          goes = (m h.0, between_kept ts ts' m l i h.0 (narrow ts ts' m i (first p) i h.0 g.0 (omega arith) in_g) h.1, subst (λ n. Gap ts' l (m h.0) n) (sym text.begins) (gap_kept ts ts' m l h.0 (first p) (narrow ts ts' m i (first p) h.0 (first p) g.0 on (omega arith)) h.2), text.derives, subst (λ n. Goes ts' l n (become_all m ps qs) (m j)) (sym text.finishes) rest.goes);
          edge = soft_at ts ts' m i (first p) i g.0 (omega arith) (omega (arith, on, in_g)) text.edge;
        }
    items (part x qs) (skip ps) ws l i j h f y g soft = absurd h
    items (run n new qs) none ws l i j h f y g soft = absurd f
    items (run n new qs) (more p ps) ws l i j h f y g soft =
        let on : i ≤ h.0 = between_order ts l i h.0 h.1 in
        let in_g : h.0 ≤ first p = gap_order ts l h.0 (first p) h.2 in
        let rest : Line l (items_end n p ps) (become_all m (items_behind n ps) qs) j = items qs (items_behind n ps) ws l (items_end n p ps) j (behind_run ts l n p ps j f.0 h.4) f.3 y g.1 soft in
        let head : Begun l (first p) (onto new (become_all m (items_behind n ps) qs)) j = begun l new (become_all m (items_behind n ps) qs) (first p) (items_end n p ps) j f.1 rest.goes in
        record {
          goes = subst (λ zs. Goes ts' l (m i) zs (m j)) (sym head.is) (m h.0, between_kept ts ts' m l i h.0 (narrow ts ts' m i (first p) i h.0 g.0 (omega arith) in_g) h.1, subst (λ n. Gap ts' l (m h.0) n) (sym head.begins) (gap_kept ts ts' m l h.0 (first p) (narrow ts ts' m i (first p) h.0 (first p) g.0 on (omega arith)) h.2), head.derives, head.goes);
          edge = soft_at ts ts' m i (first p) i g.0 (omega arith) (omega (arith, on, in_g)) (new_edge (item l) p h.3 f.2);
        }
    items (run n new qs) (skip ps) ws l i j h f y g soft = absurd f

  pub became_text : (c : Category) (t : Tree) (q : Patch) → Derives ts c t → Fits ts ts' m c t q → agreed m t q ≡ true → ((n : ℕ) → first t ≤ n → n < last t → Outside n (places t q) → Stays ts ts' m n) → slice_get ts' (m (last t)) ≡ slice_get ts (last t) → Text c t (become m t q)
  became_text c t q h f y st e = became q t c h f y (keeps ts ts' m q t (derives_ordered ts t c h) st) (soft_same ts ts' m (last t) e)
