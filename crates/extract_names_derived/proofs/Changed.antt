-- A function whose tokens are changed at runs of statements is rewritten.
use Rattle.std.proofs.Common.{◌≡◌, ◌∙◌, ℕ, ◌+◌, List, [], ◌∷◌, length, refl, sym, ap, subst}
use Rattle.std.specs.Prelude.{nat_le, if◌then◌else◌}
use Rattle.go_tokens.specs.declared.token.TokenKind.{TokenKind}
use Rattle.go_grammar.specs.declared.kind.Category.{Category}
use Rattle.go_grammar.specs.declared.kind.Category.TheVariants as category
use Rattle.go_grammar.specs.Grammar.{Derives}
use Rattle.go_grammar.specs.Trees.{Tree, node, Trees, none, more, skip, onto}
use Rattle.go_rewriting.specs.Places.{Patch, Patches, keep, put, inside, done, part, run, items_behind, Change, range, changed, become, become_all, places}
use Rattle.go_rewriting.specs.Places as changes
use Rattle.go_rewriting.specs.Replacing.{moved}
use Rattle.go_rewriting.specs.Sites.{AreSites, Site, patch_of, with_sites}
use Rattle.go_heads.specs.Functions.{Alone}
use Rattle.extract_names.specs.Gaps.{Gap, moved_by, ranges}
use Rattle.extract_names_derived.specs.Sites.{AreOf, IsChangedFunction, RewritesBySites}
use Rattle.extract_names_derived.proofs.Apart.{carry_same, carries_same}
use Rattle.extract_names_derived.proofs.Ranges.{function_patched}

pub ranges_same : (gs : List Gap) (xs : List Change) → AreOf gs xs → changes.ranges xs ≡ ranges gs
ranges_same [] [] h = refl
ranges_same [] (x ∷ xs) h = absurd h
ranges_same (g ∷ gs) [] h = absurd h
ranges_same (g ∷ gs) (x ∷ xs) h = ap (λ a. range a x.upto ∷ changes.ranges xs) h.0 ∙ ap (λ b. range g.from b ∷ changes.ranges xs) h.1 ∙ ap (λ rs. range g.from g.upto ∷ rs) (ranges_same gs xs h.3)

pub moved_same : (gs : List Gap) (xs : List Change) → AreOf gs xs → (n : ℕ) → changes.moved_by xs n ≡ moved_by gs n
moved_same [] [] h n = refl
moved_same [] (x ∷ xs) h n = absurd h
moved_same (g ∷ gs) [] h n = absurd h
moved_same (g ∷ gs) (x ∷ xs) h n =
    ap (λ a. if nat_le n a then n else moved x.upto (a + length x.words) (changes.moved_by xs n)) h.0
    ∙ ap (λ b. if nat_le n g.from then n else moved b (g.from + length x.words) (changes.moved_by xs n)) h.1
    ∙ ap (λ k. if nat_le n g.from then n else moved g.upto (g.from + k) (changes.moved_by xs n)) h.2
    ∙ ap (λ k. if nat_le n g.from then n else moved g.upto (g.from + length g.texts) k) (moved_same gs xs h.3 n)

module _ (m n : ℕ → ℕ) (e : (i : ℕ) → m i ≡ n i) where
  mutual
    become_same : (t : Tree) (q : Patch) → become m t q ≡ become n t q
    become_same t keep = carry_same m n e t
    become_same t (put s) = refl
    become_same (node k i j ps) (inside qs) = ap (λ x. node k x (m j) (become_all m ps qs)) (e i) ∙ ap (λ x. node k (n i) x (become_all m ps qs)) (e j) ∙ ap (node k (n i) (n j)) (all_same ps qs)

    all_same : (ps : Trees) (qs : Patches) → become_all m ps qs ≡ become_all n ps qs
    all_same ps done = carries_same m n e ps
    all_same none (part q qs) = refl
    all_same (more p ps) (part q qs) = ap (λ x. more x (become_all m ps qs)) (become_same p q) ∙ ap (more (become n p q)) (all_same ps qs)
    all_same (skip ps) (part q qs) = ap skip (all_same ps qs)
    all_same none (run k new qs) = refl
    all_same (more p ps) (run k new qs) = ap (onto new) (all_same (items_behind k ps) qs)
    all_same (skip ps) (run k new qs) = refl

-- Changes at sites make a tree of the tokens that are changed.
abbrev pub ChangesDerive : Type 0
ChangesDerive = (ts : List TokenKind) (xs : List Change) (c : Category) (t : Tree) (ss : List Site) → Derives ts c t → AreSites ts xs c t ss → Derives (changed xs ts) c (with_sites xs ss t)

pub rewrites : ChangesDerive → (ts : List TokenKind) (a : Alone) (gaps : List Gap) (xs : List Change) (ss : List Site) (new : Alone) → IsChangedFunction ts a gaps xs ss new → RewritesBySites ts (changed xs ts) a gaps ss new
rewrites f ts a gaps xs ss new h =
    let p = function_patched ts a.tree ss (length ts) h.function.derives h.function.function h.runs (subst (λ rs. changes.Ascending 0 rs (length ts)) h.sites.places h.sites.ascend) in
    record {
      rewritten = record {
        function = h.function;
        patch = patch_of ss;
        lists = p.lists;
        places = p.places ∙ sym h.sites.places ∙ ranges_same gaps xs h.places;
        some = h.some;
        tree = h.tree ∙ become_same (changes.moved_by xs) (moved_by gaps) (moved_same gaps xs h.places) a.tree (patch_of ss);
        texts = h.texts;
        derives = subst (Derives (changed xs ts) category.Declaration) (sym h.tree) (f ts xs category.Declaration a.tree ss h.function.derives h.sites);
      };
      patch = refl;
    }
