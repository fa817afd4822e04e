-- Functions of a package where statements are taken out have bodies where they had.
use Rattle.std.proofs.Common.{◌≡◌, ◌∙◌, ℕ, zero, suc, ◌-◌, inl, inr, ◌⊎◌, Bool, true, false, List, [], ◌∷◌, ◌++◌, map, Some, None, refl, sym, ap}
use Rattle.std.specs.Prelude.{if◌then◌else◌, is_some, slice_get}
use Rattle.go_grammar.specs.declared.kind.Kind.TheVariants as kind
use Rattle.go_grammar.specs.Trees.{Tree, node, Trees, none, more, skip, first, parts}
use Rattle.go_rewriting.specs.Places.{Patch, Patches, become, become_all, carry, carries, done, inside, keep, part, put, run}
use Rattle.go_scopes_events.proofs.Public.{true_false}
use Rattle.go_tree.specs.Lists.{functions, is_function}
use Rattle.go_heads.specs.Functions.{Alone, Function, all_functions, function_alone}
use Rattle.go_heads.specs.Heads.{File, body_behind, body_of}
use Rattle.go_heads.specs.Tokens.{function_files}
use Rattle.go_scopes_changes.specs.Changes.{KeepsBodies}
use Rattle.extract_names.specs.Gaps.{moved_by}
use Rattle.extract_names.specs.Pieces.{ReplacesInRow, ReplacesRuns}
use Rattle.extract_names_changes.specs.Extracted.{HasCopy, HasGaps, IsExtracted}

-- ---- trees

row_carried : (m : ℕ → ℕ) (ps : Trees) → is_some (body_behind (carries m ps)) ≡ is_some (body_behind ps)
row_carried m none = refl
row_carried m (skip ps) = refl
row_carried m (more s none) = refl
row_carried m (more s (skip ps)) = refl
row_carried m (more s (more b ps)) = refl

body_carried : (m : ℕ → ℕ) (t : Tree) → is_some (body_of (carry m t)) ≡ is_some (body_of t)
body_carried m (node k i j ps) = by (is_function k)
  where
    by : (c : Bool) → is_some (if c then body_behind (carries m ps) else None) ≡ is_some (if c then body_behind ps else None)
    by true = row_carried m ps
    by false = refl

row_bodied : (v : ℕ → ℕ) (ps : Trees) (qs : Patches) → ReplacesInRow v ps qs → is_some (body_behind ps) ≡ true → is_some (body_behind (become_all v ps qs)) ≡ true
row_bodied v none qs h e = absurd (true_false false e refl)
row_bodied v (skip ps) qs h e = absurd (true_false false e refl)
row_bodied v (more s none) qs h e = absurd (true_false false e refl)
row_bodied v (more s (skip ps)) qs h e = absurd (true_false false e refl)
row_bodied v (more s (more b ps)) done h e = refl
row_bodied v (more s (more b ps)) (part q done) h e = refl
row_bodied v (more s (more b ps)) (part q (part r qs)) h e = refl
row_bodied v (more s (more b ps)) (part q (run n new qs)) h e = absurd h.1
row_bodied v (more s (more b ps)) (run n new qs) h e = absurd h

bodied : (v : ℕ → ℕ) (t : Tree) (q : Patch) → ReplacesRuns v t q → is_some (body_of t) ≡ true → is_some (body_of (become v t q)) ≡ true
bodied v t keep h e = body_carried v t ∙ e
bodied v t (put s) h e = absurd h
bodied v (node kind.FunctionDeclaration i j ps) (inside qs) h e = row_bodied v ps qs h.3 e
bodied v (node k i j ps) (inside qs) h e = absurd (true_false false e refl)

alone_bodied : (g : Function) → is_some (body_of (function_alone g).tree) ≡ is_some (body_of g.tree)
alone_bodied g = body_carried (λ n. n - first g.tree) g.tree

-- ---- files

row_there : (n : ℕ) (f : File) (ts : List Tree) (gs : List Function) (ns : List ℕ) → ((k : ℕ) (g : Function) → slice_get gs k ≡ Some g → (m : ℕ) × (slice_get ns k ≡ Some m))
    → (k : ℕ) (g : Function) → slice_get (map (λ t. let x : Function = record { file = f; tree = t } in x) ts ++ gs) k ≡ Some g → (m : ℕ) × (slice_get (map (λ (t : Tree). n) ts ++ ns) k ≡ Some m)
row_there n f [] gs ns h k g e = h k g e
row_there n f (t ∷ ts) gs ns h zero g e = (n, refl)
row_there n f (t ∷ ts) gs ns h (suc k) g e = row_there n f ts gs ns h k g e

-- each function stands in a file
file_there : (n : ℕ) (fs : List File) (k : ℕ) (g : Function) → slice_get (all_functions fs) k ≡ Some g → (m : ℕ) × (slice_get (function_files n fs) k ≡ Some m)
file_there n [] k g e = absurd cc
file_there n (f ∷ fs) k g e = row_there n f (functions (parts f.tree)) (all_functions fs) (function_files (suc n) fs) (λ k g e. file_there (suc n) fs k g e) k g e

-- ---- packages

pub all_bodied : (old new : List File) → IsExtracted old new → KeepsBodies old new
all_bodied old new it = record { bodies = λ k f g before after e. let n = file_there 0 new k g after in by n.0 f g e (it.each k n.0 f g before after n.1) }
  where
    by : (n : ℕ) (f g : Function) → is_some (body_of f.tree) ≡ true → (function_alone g ≡ function_alone f) ⊎ HasGaps old n f g ⊎ HasCopy old n g → is_some (body_of g.tree) ≡ true
    by n f g e (inl same) = sym (alone_bodied g) ∙ ap (λ (a : Alone). is_some (body_of a.tree)) same ∙ alone_bodied f ∙ e
    by n f g e (inr (inl x)) =
        sym (alone_bodied g) ∙ ap (λ t. is_some (body_of t)) x.site.tree
        ∙ bodied (moved_by x.gaps) (function_alone f).tree x.site.patch x.site.replaces (alone_bodied f ∙ e)
    by n f g e (inr (inr x)) = x.body
