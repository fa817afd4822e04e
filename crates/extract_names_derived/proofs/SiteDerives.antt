-- The statements in place of runs at sites are derived over the tokens of their gaps.
use Rattle.std.proofs.Common.{◌≡◌, ◌∙◌, ℕ, ◌+◌, ◌<◌, ◌≤◌, inl, inr, Bool, true, false, List, [], ◌∷◌, length, Some, refl, sym, ap, subst, arith}
use Rattle.std.specs.Prelude.{nat_le, if◌then◌else◌}
use Rattle.std.proofs.lemmas.Bool.{leb-true}
use Rattle.go_tokens.specs.declared.token.TokenKind.{TokenKind}
use Rattle.go_grammar.specs.declared.kind.Category.{Category}
use Rattle.go_grammar.specs.declared.kind.Category.TheVariants as category
use Rattle.go_grammar.specs.declared.kind.Kind.{Kind}
use Rattle.go_grammar.specs.declared.kind.Kind.TheVariants as kind
use Rattle.go_grammar.specs.Rules.{Items, item}
use Rattle.go_grammar.specs.Trees.{Tree, node, Trees, none, more, skip}
use Rattle.go_heads.specs.Functions.{Alone}
use Rattle.go_print_laws.specs.Calls.{Call}
use Rattle.go_rewriting.specs.Lists.{has_run, in_block, in_clause}
use Rattle.go_rewriting.specs.Places.{Change, Patches, inside, done, Range, Ascending, Fits, changed}
use Rattle.go_rewriting.specs.Places as changes
use Rattle.go_rewriting.specs.Replacing.{moved, Run}
use Rattle.go_rewriting.specs.Sites.{Site, items, AllSit, Sits, alone, add_run, run_range, range_in, site_range, site_ranges}
use Rattle.go_scopes_events.proofs.Public.{true_false}
use Rattle.go_scopes_bodies.specs.Listed.{holds_statements}
use Rattle.extract_names.specs.Gaps.{Gap, moved_by, ranges, Among}
use Rattle.extract_names_derived.specs.CallSites.{CallsAtSites, CallTreesAtSites}
use Rattle.extract_names_derived.specs.News.{DeriveWithin}
use Rattle.extract_names_derived.specs.Patches.{in_front, ReplacesRun, ReplaceRuns}
use Rattle.extract_names_derived.specs.Sites.{IsChangedFunction}
use Rattle.extract_names_derived.proofs.Ascends.{ascend_member}
use Rattle.extract_names_derived.proofs.Changed.{moved_same, ranges_same}
use Rattle.extract_names_derived.proofs.News.{runs_stand}
use Rattle.extract_names_derived.proofs.Texts.{low, high}

-- ---- places

moves_on : (gs : List Gap) (i j t : ℕ) → Ascending i (ranges gs) j → i ≤ t → i ≤ moved_by gs t
moves_on [] i j t h le = le
moves_on (y ∷ gs) i j t h le = by (nat_le t y.from) refl
  where
    by : (b : Bool) → nat_le t y.from ≡ b → i ≤ moved_by (y ∷ gs) t
    by true e = omega (arith, low y gs t (leb-true t y.from e), le)
    by false e =
        let is : moved_by (y ∷ gs) t ≡ moved y.upto (y.from + length y.texts) (moved_by gs t) = ap (λ b. if b then t else moved y.upto (y.from + length y.texts) (moved_by gs t)) e in
        omega (arith, is, h.0)

stays_first : (gs : List Gap) (i j : ℕ) → Ascending i (ranges gs) j → moved_by gs i ≡ i
stays_first [] i j h = refl
stays_first (y ∷ gs) i j h = low y gs i h.0

-- a gap's tokens stand where its run did
upto_is : (gs : List Gap) (i j : ℕ) → Ascending i (ranges gs) j → (g : Gap) → Among g gs → moved_by gs g.upto ≡ moved_by gs g.from + length g.texts
upto_is [] i j h g k = absurd k
upto_is (x ∷ gs) i j h g (inl e) =
    subst (λ (z : Gap). moved_by (x ∷ gs) z.upto ≡ moved_by (x ∷ gs) z.from + length z.texts) (sym e) (omega (arith, low x gs x.from (omega arith), high x gs x.upto h.1, stays_first gs x.upto j h.2))
upto_is (x ∷ gs) i j h g (inr k) =
    let m = ascend_member gs x.upto j h.2 g k in
    let on : x.upto ≤ moved_by gs g.from = moves_on gs x.upto j g.from h.2 m.0 in
    let r : moved_by gs g.upto ≡ moved_by gs g.from + length g.texts = upto_is gs x.upto j h.2 g k in
    let first : x.from < g.from = omega (arith, h.1, m.0) in
    omega (arith, high x gs g.from first, high x gs g.upto (omega (arith, first, m.1)), on, r)

range_low : (rs : List Range) (i j : ℕ) → Ascending i rs j → (r : Range) → Among r rs → i ≤ r.from
range_low [] i j h r k = absurd k
range_low (s ∷ rs) i j h r (inl e) = subst (λ (z : Range). i ≤ z.from) (sym e) h.0
range_low (s ∷ rs) i j h r (inr k) = omega (arith, h.0, h.1, range_low rs s.upto j h.2 r k)

-- a run is known by where it begins
same_end : (gs : List Gap) (i j : ℕ) → Ascending i (ranges gs) j → (g : Gap) → Among g gs → (r : Range) → Among r (ranges gs) → g.from ≡ r.from → g.upto ≡ r.upto
same_end [] i j h g k r l e = absurd k
same_end (x ∷ gs) i j h g (inl p) r (inl q) e = ap (λ (z : Gap). z.upto) p ∙ sym (ap (λ (z : Range). z.upto) q)
same_end (x ∷ gs) i j h g (inl p) r (inr l) e = absurd (let n : g.from ≡ x.from = ap (λ (z : Gap). z.from) p in omega (arith, n, e, h.1, range_low (ranges gs) x.upto j h.2 r l))
same_end (x ∷ gs) i j h g (inr k) r (inl q) e = absurd (let n : r.from ≡ x.from = ap (λ (z : Range). z.from) q in omega (arith, n, e, h.1, (ascend_member gs x.upto j h.2 g k).0))
same_end (x ∷ gs) i j h g (inr k) r (inr l) e = same_end gs x.upto j h.2 g k r l e

-- ---- runs

fits_run : (ts us : List TokenKind) (m : ℕ → ℕ) (c : Category) (k : Kind) (i j : ℕ) (ps : Trees) (n : ℕ) (new : Trees) → holds_statements k ≡ true → has_run (in_front k) n ps ≡ true → Fits ts us m c (node k i j ps) (inside (add_run (in_front k) n new done))
    → (l : Items) × (item l ≡ category.Statement) × Run us l new (m (run_range (in_front k) n ps).from) (m (run_range (in_front k) n ps).upto)
fits_run ts us m c kind.Block i j (more p ps) n new h e f = (in_block, refl, f.1)
fits_run ts us m c kind.Block i j none n new h e f = absurd (true_false false e refl)
fits_run ts us m c kind.Block i j (skip ps) n new h e f = absurd (true_false false e refl)
fits_run ts us m c kind.Default i j (more p ps) n new h e f = (in_clause, refl, f.1)
fits_run ts us m c kind.Default i j none n new h e f = absurd (true_false false e refl)
fits_run ts us m c kind.Default i j (skip ps) n new h e f = absurd (true_false false e refl)
fits_run ts us m c kind.Case i j (more x (more p ps)) n new h e f = (in_clause, refl, f.1.1)
fits_run ts us m c kind.Case i j (skip (more p ps)) n new h e f = (in_clause, refl, f.1)
fits_run ts us m c kind.Case i j none n new h e f = absurd (true_false false e refl)
fits_run ts us m c kind.Case i j (more x none) n new h e f = absurd (true_false false e refl)
fits_run ts us m c kind.Case i j (more x (skip ps)) n new h e f = absurd (true_false false e refl)
fits_run ts us m c kind.Case i j (skip none) n new h e f = absurd (true_false false e refl)
fits_run ts us m c kind.Case i j (skip (skip ps)) n new h e f = absurd (true_false false e refl)
fits_run ts us m c k i j ps n new h e f = absurd (true_false false h refl)

-- ---- sites

module _ (ts : List TokenKind) (a : Alone) (gaps : List Gap) (xs : List Change) (ss : List Site) (new : Alone) (calls : Gap → Call) (h : IsChangedFunction ts a gaps xs ss new) where
  abbrev us : List TokenKind
  us = changed xs ts

  abbrev v : ℕ → ℕ
  v = moved_by gaps

  ranges_are : ranges gaps ≡ site_ranges a.tree ss
  ranges_are = sym (ranges_same gaps xs h.places) ∙ h.sites.places

  asc : Ascending 0 (ranges gaps) (length ts)
  asc = subst (λ rs. Ascending 0 rs (length ts)) (ranges_same gaps xs h.places) h.sites.ascend

  one_site : (x : Site) (r : ReplacesRun a.tree x) → Sits ts us (changes.moved_by xs) category.Declaration a.tree x → Among (site_range a.tree x) (ranges gaps) → (g : Gap) → Among g gaps → g.from ≡ (site_range a.tree x).from
      → DeriveWithin us (v g.from) (v g.from + length g.texts) r.new
  one_site x r s there g k e =
      let it : Tree = node r.kind r.first r.last r.parts in
      let f : ℕ = in_front r.kind in
      let same : s.old ≡ it = cc in
      let fits : Fits ts us (changes.moved_by xs) s.category it (inside (add_run f r.number r.new done)) =
      subst (λ z. Fits ts us (changes.moved_by xs) s.category z (inside (add_run f r.number r.new done))) same (subst (λ z. Fits ts us (changes.moved_by xs) s.category s.old (alone z)) r.change s.fits) in
      let y = fits_run ts us (changes.moved_by xs) s.category r.kind r.first r.last r.parts r.number r.new r.list r.has fits in
      let range_is : site_range a.tree x ≡ run_range f r.number r.parts = ap (λ o. range_in o x.change) r.stood ∙ ap (range_in (Some it)) r.change in
      let from : g.from ≡ (run_range f r.number r.parts).from = e ∙ ap (λ (z : Range). z.from) range_is in
      let upto : g.upto ≡ (run_range f r.number r.parts).upto = same_end gaps 0 (length ts) asc g k (site_range a.tree x) there e ∙ ap (λ (z : Range). z.upto) range_is in
      let low_is : changes.moved_by xs (run_range f r.number r.parts).from ≡ v g.from = moved_same gaps xs h.places (run_range f r.number r.parts).from ∙ ap v (sym from) in
      let high_is : changes.moved_by xs (run_range f r.number r.parts).upto ≡ v g.from + length g.texts = moved_same gaps xs h.places (run_range f r.number r.parts).upto ∙ ap v (sym upto) ∙ upto_is gaps 0 (length ts) asc g k in
      subst (λ z. DeriveWithin us z (v g.from + length g.texts) r.new) low_is
      (subst (λ z. DeriveWithin us (changes.moved_by xs (run_range f r.number r.parts).from) z r.new) high_is
      (runs_stand us y.0 r.new (changes.moved_by xs (run_range f r.number r.parts).from) (changes.moved_by xs (run_range f r.number r.parts).upto) y.1 y.2).within)

  each_site : (zs : List Site) → ((x : Site) → Among x zs → Among (site_range a.tree x) (ranges gaps)) → ReplaceRuns a.tree zs → AllSit ts us (changes.moved_by xs) category.Declaration a.tree zs → CallTreesAtSites gaps calls a.tree zs → CallsAtSites us gaps calls a.tree zs
  each_site [] f r s t = tt
  each_site (x ∷ zs) f r s t = (
    λ k n new e g m p.
        let same : items k n new ≡ items (in_front r.0.kind) r.0.number r.0.new = sym e ∙ r.0.change in
        let is : new ≡ r.0.new = cc in
        (t.0 k n new e g m p, subst (DeriveWithin us (v g.from) (v g.from + length g.texts)) (sym is) (one_site x r.0 s.0 (f x (inl refl)) g m p)),
    each_site zs (λ y l. f y (inr l)) r.1 s.1 t.1,
  )

  all_there : (zs : List Site) (x : Site) → Among x zs → Among (site_range a.tree x) (site_ranges a.tree zs)
  all_there [] x k = absurd k
  all_there (y ∷ zs) x (inl e) = inl (ap (site_range a.tree) e)
  all_there (y ∷ zs) x (inr k) = inr (all_there zs x k)

  pub calls_derive : CallTreesAtSites gaps calls a.tree ss → CallsAtSites us gaps calls a.tree ss
  calls_derive t = each_site ss (λ x k. subst (Among (site_range a.tree x)) (sym ranges_are) (all_there ss x k)) h.runs h.sites.sit t
