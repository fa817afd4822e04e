-- What holds of each run that a path leads to holds of each run of the one patch.
use Rattle.std.proofs.Common.{◌≡◌, ◌∙◌, ℕ, zero, suc, true, false, List, [], ◌∷◌, Some, refl, sym, ap, subst}
use Rattle.go_tokens.specs.declared.token.TokenKind.{TokenKind}
use Rattle.go_grammar.specs.declared.kind.Kind.{Kind}
use Rattle.go_grammar.specs.Trees.{Tree, node, Trees, none, more, skip}
use Rattle.go_print_laws.specs.Calls.{Call}
use Rattle.go_rewriting.specs.Lists.{has_run}
use Rattle.go_rewriting.specs.Places.{Patch, Patches, keep, put, inside, done, part, run, Range, has_items, items_behind}
use Rattle.go_rewriting.specs.Replacing.{subtree_at, subtree_in}
use Rattle.go_rewriting.specs.Sites.{Local, items, Site, parts_of, next_patch, other_patches, nth_patch, set_patch, patches_behind, add_run, insert, patch_of, run_range, range_in, site_range}
use Rattle.go_scopes_events.proofs.Public.{true_false}
use Rattle.extract_names.specs.Gaps.{Gap}
use Rattle.extract_names_derived.specs.CallSites.{CallInPlace, CallsAtSites}
use Rattle.extract_names_derived.specs.Patches.{EachRun, EachIn, in_front, ReplacesRun, ReplaceRuns}

module _ (P : ℕ → Trees → Type 0) where
  parts_each : (k : Kind) (i j : ℕ) (ps : Trees) (q : Patch) → EachRun P (node k i j ps) q → EachIn P ps (parts_of q)
  parts_each k i j ps keep l = tt
  parts_each k i j ps (put s) l = tt
  parts_each k i j ps (inside qs) l = l

  next_each : (p : Tree) (ps : Trees) (qs : Patches) → EachIn P (more p ps) qs → EachRun P p (next_patch qs)
  next_each p ps done l = tt
  next_each p ps (part q qs) l = l.0
  next_each p ps (run n new qs) l = tt

  other_each : (p : Tree) (ps : Trees) (qs : Patches) → EachIn P (more p ps) qs → EachIn P ps (other_patches qs)
  other_each p ps done l = tt
  other_each p ps (part q qs) l = l.1
  other_each p ps (run n new qs) l = tt

  skip_each : (ps : Trees) (qs : Patches) → EachIn P (skip ps) qs → EachIn P ps (other_patches qs)
  skip_each ps done l = tt
  skip_each ps (part q qs) l = l
  skip_each ps (run n new qs) l = tt

  behind_each : (n : ℕ) (p : Tree) (ps : Trees) (qs : Patches) → has_items n ps ≡ true → EachIn P (more p ps) qs → EachIn P (items_behind n ps) (patches_behind (suc n) qs)
  behind_each zero p ps qs e l = other_each p ps qs l
  behind_each (suc n) p none qs e l = absurd (true_false false e refl)
  behind_each (suc n) p (more r rs) qs e l = behind_each n r rs (other_patches qs) e (other_each p (more r rs) qs l)
  behind_each (suc n) p (skip ps) qs e l = absurd (true_false false e refl)

  add_each : (f n : ℕ) (new ps : Trees) (qs : Patches) → has_run f n ps ≡ true → P (run_range f n ps).from new → EachIn P ps qs → EachIn P ps (add_run f n new qs)
  add_each f n new none qs e p l = absurd (true_false false e refl)
  add_each zero n new (more q ps) qs e p l = (p, behind_each n q ps qs e l)
  add_each zero n new (skip ps) qs e p l = absurd (true_false false e refl)
  add_each (suc f) n new (more q ps) qs e p l = (next_each q ps qs l, add_each f n new ps (other_patches qs) e p (other_each q ps qs l))
  add_each (suc f) n new (skip ps) qs e p l = add_each f n new ps (other_patches qs) e p (skip_each ps qs l)

  module _ (s : Tree) (x : Local) (local : (q : Patch) → EachRun P s q → EachRun P s (insert [] x q)) where
    mutual
      insert_each : (path : List ℕ) (t : Tree) (q : Patch) → subtree_at path t ≡ Some s → EachRun P t q → EachRun P t (insert path x q)
      insert_each [] t q e l = let same : t ≡ s = cc in subst (λ z. EachRun P z q → EachRun P z (insert [] x q)) (sym same) (local q) l
      insert_each (n ∷ path) (node k i j ps) q e l = set_each n path ps (parts_of q) e (parts_each k i j ps q l)

      set_each : (n : ℕ) (path : List ℕ) (ps : Trees) (qs : Patches) → subtree_in n path ps ≡ Some s → EachIn P ps qs → EachIn P ps (set_patch n (insert path x (nth_patch n qs)) qs)
      set_each n path none qs e l = absurd cc
      set_each zero path (more p ps) qs e l = (insert_each path p (next_patch qs) e (next_each p ps qs l), other_each p ps qs l)
      set_each (suc n) path (more p ps) qs e l = (next_each p ps qs l, set_each n path ps (other_patches qs) e (other_each p ps qs l))
      set_each zero path (skip ps) qs e l = absurd cc
      set_each (suc n) path (skip ps) qs e l = set_each n path ps (other_patches qs) e (skip_each ps qs l)

  abbrev EachSite : Tree → List Site → Type 0
  EachSite t [] = Unit {0}
  EachSite t (x ∷ xs) = ((f n : ℕ) (new : Trees) → x.change ≡ items f n new → P (site_range t x).from new) × EachSite t xs

  sites_each : (t : Tree) (xs : List Site) → ReplaceRuns t xs → EachSite t xs → EachRun P t (patch_of xs)
  sites_each t [] r e = tt
  sites_each t (x ∷ xs) r e =
      let h : ReplacesRun t x = r.0 in
      let s : Tree = node h.kind h.first h.last h.parts in
      let f : ℕ = in_front h.kind in
      let here : P (run_range f h.number h.parts).from h.new =
      subst (λ (z : Range). P z.from h.new) (ap (λ o. range_in o x.change) h.stood ∙ ap (range_in (Some s)) h.change) (e.0 f h.number h.new h.change) in
      subst (λ c. EachRun P t (insert x.path c (patch_of xs))) (sym h.change)
      (insert_each s (items f h.number h.new) (λ q l. add_each f h.number h.new h.parts (parts_of q) h.has here (parts_each h.kind h.first h.last h.parts q l)) x.path t (patch_of xs) h.stood (sites_each t xs r.1 e.1))

each_site : (us : List TokenKind) (gaps : List Gap) (calls : Gap → Call) (t : Tree) (xs : List Site) → CallsAtSites us gaps calls t xs → EachSite (CallInPlace us gaps calls) t xs
each_site us gaps calls t [] h = tt
each_site us gaps calls t (x ∷ xs) h = (h.0, each_site us gaps calls t xs h.1)

pub calls_stand : (us : List TokenKind) (gaps : List Gap) (calls : Gap → Call) (t : Tree) (xs : List Site) → ReplaceRuns t xs → CallsAtSites us gaps calls t xs → EachRun (CallInPlace us gaps calls) t (patch_of xs)
calls_stand us gaps calls t xs r h = sites_each (CallInPlace us gaps calls) t xs r (each_site us gaps calls t xs h)
