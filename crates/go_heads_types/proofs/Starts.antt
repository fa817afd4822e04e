-- The first tokens of files, and the tokens that trees are read by.
use Rattle.std.proofs.Common.{◌≡◌, ◌∙◌, ℕ, zero, suc, ◌-◌, ◌<◌, ◌≤◌, Bool, true, false, List, [], ◌∷◌, Option, Some, None, refl, sym, ap, arith}
use Rattle.std.specs.Prelude.{nat_lt}
use Rattle.std.proofs.lemmas.Bool.{lt-ltb}
use Rattle.go_tokens.specs.declared.token.TokenKind.{TokenKind}
use Rattle.go_tokens.specs.Tokens.{kinds}
use Rattle.go_grammar.specs.declared.kind.Kind.{Kind}
use Rattle.go_grammar.specs.declared.kind.Kind.TheVariants as kind
use Rattle.go_grammar.specs.declared.kind.Sort.TheVariants as declaring
use Rattle.go_grammar.specs.declared.kind.Category.TheVariants as category
use Rattle.go_grammar.specs.Trees.{Tree, node, Trees, none, more, skip, first, last, parts}
use Rattle.go_grammar.specs.Grammar.{IsFile}
use Rattle.go_rewriting.specs.Lists.{InOrder, Ordered}
use Rattle.go_rewriting.proofs.Public.{row_order, derives_ordered, spells_ordered}
use Rattle.go_scopes_events.proofs.Public.{true_false}
use Rattle.go_heads.specs.Functions.{AreRead}
use Rattle.go_heads.specs.Heads.{File, in_bodies}
use Rattle.go_heads.proofs.Public.{row_before, place_next}
use Rattle.go_heads.specs.Objects.{file_in, head_place}
use Rattle.go_heads.specs.Lookups.{AtOnePlace}
use Rattle.go_heads.specs.Meanings.{StandsOutside}
use Rattle.go_package_alike.specs.Scopes.{TokenHas, AllTokens, TokensIn}
use Rattle.go_heads_types.specs.Same.{MaybeReadBy, AllReadBy}
use Rattle.go_heads_types.specs.Specifications.{MaybeInside, AllInside}

-- ---- the package clause stands outside of bodies

file_starts : (ts : List TokenKind) (t : Tree) → IsFile ts t → (n : ℕ) → n < 3 → in_bodies (parts t) n ≡ false
file_starts ts (node kind.File i j none) f n lt = absurd f.derives.1
file_starts ts (node kind.File i j (skip ps)) f n lt =
    let from : suc (suc (suc i)) ≡ f.derives.1.0 = f.derives.1.1.1.1.1 in
    row_before ps f.derives.1.0 j n (spells_ordered ts ps _ f.derives.1.0 j f.derives.1.2) (omega (arith, from, lt))
file_starts ts (node kind.File i j (more d ds)) f n lt =
    let o : Ordered i (more d ds) j = (derives_ordered ts (node kind.File i j (more d ds)) category.File f.derives).1 in
    let from : suc (suc (suc i)) ≡ first d = f.derives.1.0.1.1.1 in
    row_before (more d ds) (first d) j n (omega arith, o.1, o.2) (omega (arith, from, lt))
file_starts ts (node k i j ps) f n lt = absurd (true_false false f.derives.0 refl)

starts_outside : (fs : List File) → AreRead fs → (n t : ℕ) → t < 3 → StandsOutside fs n t
starts_outside [] h n t lt = refl
starts_outside (f ∷ fs) h zero t lt = file_starts (kinds f.tokens.tokens) f.tree h.0.tree t lt
starts_outside (f ∷ fs) h (suc n) t lt = starts_outside fs h.1 n t lt

same_place : (fs : List File) → AreRead fs → (n t : ℕ) → t < 3 → head_place fs n t ≡ t
same_place fs h n zero lt = refl
same_place fs h n (suc t) lt = place_next (in_bodies (parts (file_in fs n).tree)) t (starts_outside fs h n t (omega (arith, lt))) ∙ ap suc (same_place fs h n t (omega (arith, lt)))

pub start_at : (old new : List File) → AreRead old → AreRead new → (n t : ℕ) → t < 3 → AtOnePlace old new n t t
start_at old new h k n t lt = record { before = starts_outside old h n t lt; after = starts_outside new k n t lt; place = same_place new k n t lt ∙ sym (same_place old h n t lt) }

-- ---- a tree is read by its own tokens

token_has : (p : ℕ → Bool) (k : Kind) (i j : ℕ) → p i ≡ true → p (j - 1) ≡ true → TokenHas p k i j
token_has p kind.Name i j e f = e
token_has p kind.DeclaredName i j e f = e
token_has p kind.Integer i j e f = e
token_has p kind.Rune i j e f = e
token_has p kind.Text i j e f = e
token_has p kind.Keyed i j e f = e
token_has p kind.Selector i j e f = f
token_has p (kind.Specification declaring.Type) i j e f = e
token_has p k i j e f = tt

module _ (w : ℕ) where
  abbrev pub test : ℕ → Bool
  test i = nat_lt i w

  mutual
    tree_tokens : (t : Tree) → InOrder t → last t ≤ w → AllTokens test t
    tree_tokens (node k i j ps) h le =
        (token_has test k i j (lt-ltb i w (omega (arith, h.0, le))) (lt-ltb (j - 1) w (omega (arith, h.0, le))), row_tokens ps i j h.1 le)

    row_tokens : (ps : Trees) (i j : ℕ) → Ordered i ps j → j ≤ w → TokensIn test ps
    row_tokens none i j h le = tt
    row_tokens (more p ps) i j h le = (tree_tokens p h.1 (omega (arith, row_order ps (last p) j h.2, le)), row_tokens ps (last p) j h.2 le)
    row_tokens (skip ps) i j h le = row_tokens ps i j h le

  pub maybe_read : (o : Option Tree) → MaybeInside w o → MaybeReadBy test o
  maybe_read None h = tt
  maybe_read (Some t) h = (h.0, tree_tokens t h.0 h.1)

  pub all_read : (ts : List Tree) → AllInside w ts → AllReadBy test ts
  all_read [] h = tt
  all_read (t ∷ ts) h = ((h.0.0, tree_tokens t h.0.0 h.0.1), all_read ts h.1)
