-- A run of items, and what goes on behind it.
use Rattle.std.proofs.Common.{◌≡◌, ℕ, List, refl, sym, ap, ◌∙◌, subst}
use Rattle.go_tokens.specs.declared.token.TokenKind.{TokenKind}
use Rattle.go_grammar.specs.Rules.{Items, item}
use Rattle.go_grammar.specs.Trees.{Tree, Trees, none, more, skip, first, last, onto}
use Rattle.go_grammar.specs.Grammar.{Derives, Goes}
use Rattle.go_rewriting.specs.Replacing.{Run}

module _ (ts : List TokenKind) where
  -- a run, and then what goes on behind it
  pub run_goes : (new rest : Trees) (l : Items) (p : Tree) (ps : Trees) (i j b : ℕ) → new ≡ more p ps → Run ts l new i j → Goes ts l j rest b → Goes ts l (last p) (onto ps rest) b
  run_goes none rest l p ps i j b e r h = absurd r
  run_goes (skip os) rest l p ps i j b e r h = absurd r
  run_goes (more o none) rest l p ps i j b e r h =
      let same : o ≡ p = cc in
      let tail : none ≡ ps = cc in
      subst (λ qs. Goes ts l (last p) (onto qs rest) b) tail (subst (λ n. Goes ts l n rest b) (sym (ap last (sym same) ∙ r.2)) h)
  run_goes (more o (skip os)) rest l p ps i j b e r h = absurd r
  run_goes (more o (more q qs)) rest l p ps i j b e r h =
      let same : o ≡ p = cc in
      let tail : more q qs ≡ ps = cc in
      let on : Goes ts l (last q) (onto qs rest) b = run_goes (more q qs) rest l q qs (first q) j b refl r.5 h in
      let dq : Derives ts (item l) q = run_first (more q qs) l q qs (first q) j refl r.5 in
      subst (λ zs. Goes ts l (last p) (onto zs rest) b) tail (subst (λ n. Goes ts l (last n) (more q (onto qs rest)) b) same (r.2, r.3, r.4, dq, on))
    where
      run_first : (zs : Trees) (m : Items) (z : Tree) (ys : Trees) (u v : ℕ) → zs ≡ more z ys → Run ts m zs u v → Derives ts (item m) z
      run_first none m z ys u v e r = absurd r
      run_first (skip os) m z ys u v e r = absurd r
      run_first (more o none) m z ys u v e r = let same : o ≡ z = cc in subst (λ x. Derives ts (item m) x) same r.1
      run_first (more o (skip os)) m z ys u v e r = absurd r
      run_first (more o (more w ws)) m z ys u v e r = let same : o ≡ z = cc in subst (λ x. Derives ts (item m) x) same r.1

  -- the first item of a run
  pub run_begins : (zs : Trees) (l : Items) (z : Tree) (ys : Trees) (i j : ℕ) → zs ≡ more z ys → Run ts l zs i j → (first z ≡ i) × Derives ts (item l) z
  run_begins none l z ys i j e r = absurd r
  run_begins (skip os) l z ys i j e r = absurd r
  run_begins (more o none) l z ys i j e r = let same : o ≡ z = cc in (subst (λ x. first x ≡ i) same r.0, subst (λ x. Derives ts (item l) x) same r.1)
  run_begins (more o (skip os)) l z ys i j e r = absurd r
  run_begins (more o (more w ws)) l z ys i j e r = let same : o ≡ z = cc in (subst (λ x. first x ≡ i) same r.0, subst (λ x. Derives ts (item l) x) same r.1)
