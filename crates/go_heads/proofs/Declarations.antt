-- What stands outside the bodies of files with equal heads, declaration by declaration.
use Rattle.std.proofs.Common.{◌≡◌, ℕ, ◌<◌, ◌≤◌, Bool, true, false, List, [], ◌∷◌, map, refl, sym, ap, ◌∙◌, subst}
use Rattle.go_tokens.specs.declared.token.TokenKind.{TokenKind}
use Rattle.go_tokens.specs.Tokens.{kinds}
use Rattle.go_grammar.specs.declared.kind.Category.TheVariants as category
use Rattle.go_grammar.specs.Trees.{Tree, node, Trees, none, more, skip, kind_of, first, last, parts}
use Rattle.go_rewriting.specs.Lists.{InOrder}
use Rattle.go_rewriting.specs.Places.{carry, carries}
use Rattle.go_rewriting.proofs.Public.{derives_ordered}
use Rattle.go_tree.specs.Lists.{is_function}
use Rattle.go_heads.specs.Heads.{File, IsRead, is_within, in_bodies, place_outside, head_of, heads, without_body, without_bodies, outline}
use Rattle.go_heads.specs.Functions.{AreRead, alone, parts_there, declarations_in, all_declarations}
use Rattle.go_heads.proofs.Files.{first_same, others_same, some_not_none, one_outline}
use Rattle.go_heads.proofs.Functions.{framed, alone_same}
use Rattle.go_heads.proofs.Outlines.{Sits, AllSit, OthersSit, file_sat, plain_same, plain_none}

-- none of its tokens is in a body
pub record Cleared (p : ℕ → Bool) (t : Tree) : Type 0 where
  pub order : InOrder t
  pub clear : (n : ℕ) → first t ≤ n → n < last t → p n ≡ false

module _ (ts : List TokenKind) (p : ℕ → Bool) where
  plain_cleared : (d : Tree) → is_function (kind_of d) ≡ false → InOrder d → ((n : ℕ) → first d ≤ n → n < last d → p n ≡ false) → Cleared p (without_body d)
  plain_cleared d e o c = subst (Cleared p) (sym (plain_same d e)) (record { order = o; clear = c })

  sits_cleared : (d : Tree) (c : Bool) → is_function (kind_of d) ≡ c → Sits ts p d → Cleared p (without_body d)
  sits_cleared d true e h = let f = framed ts p d e h in record { order = f.order; clear = f.clear }
  sits_cleared d false e h = plain_cleared d e (derives_ordered ts d category.Declaration h.derives) (λ n lo hi. h.own n lo hi ∙ ap (λ o. is_within o n) (plain_none d e))

  abbrev AllCleared : List Tree → Type 0
  AllCleared [] = Unit {0}
  AllCleared (d ∷ ds) = Cleared p (without_body d) × AllCleared ds

  all_cleared : (ps : Trees) → AllSit ts p ps → AllCleared (parts_there ps)
  all_cleared none h = tt
  all_cleared (more d ds) h = (sits_cleared d (is_function (kind_of d)) refl h.0, all_cleared ds h.1)
  all_cleared (skip ds) h = all_cleared ds h

  others_cleared : (ps : Trees) → OthersSit ts p ps → AllCleared (parts_there ps)
  others_cleared none h = tt
  others_cleared (more d ds) h = (plain_cleared d h.0 h.1 h.2, all_cleared ds h.3)
  others_cleared (skip ds) h = all_cleared ds h

bare_parts : (m : ℕ → ℕ) (ps : Trees) → parts_there (carries m (without_bodies ps)) ≡ map (λ d. carry m (without_body d)) (parts_there ps)
bare_parts m none = refl
bare_parts m (more d ds) = ap (λ l. carry m (without_body d) ∷ l) (bare_parts m ds)
bare_parts m (skip ds) = bare_parts m ds

outlined_parts : (t : Tree) → parts_there (parts (outline t)) ≡ map (λ d. carry (place_outside (in_bodies (parts t))) (without_body d)) (parts_there (parts t))
outlined_parts (node k i j ps) = bare_parts (place_outside (in_bodies ps)) ps

module _ (a b : File) (g : IsRead a) (h : IsRead b) (e : head_of a ≡ head_of b) where
  abbrev in_a : ℕ → Bool
  in_a = in_bodies (parts a.tree)

  abbrev in_b : ℕ → Bool
  in_b = in_bodies (parts b.tree)

  parts_same : (fs gs : List Tree) → AllCleared (kinds a.tokens.tokens) in_a fs → AllCleared (kinds b.tokens.tokens) in_b gs
      → map (λ d. carry (place_outside in_b) (without_body d)) gs ≡ map (λ d. carry (place_outside in_a) (without_body d)) fs
      → map (λ d. alone b.tokens (without_body d)) gs ≡ map (λ d. alone a.tokens (without_body d)) fs
  parts_same [] [] x y s = refl
  parts_same [] (u ∷ us) x y s = absurd (some_not_none (carry (place_outside in_b) (without_body u)) (map (λ d. carry (place_outside in_b) (without_body d)) us) s)
  parts_same (t ∷ ts) [] x y s = absurd (some_not_none (carry (place_outside in_a) (without_body t)) (map (λ d. carry (place_outside in_a) (without_body d)) ts) (sym s))
  parts_same (t ∷ ts) (u ∷ us) x y s =
      let others_a : List Tree = map (λ d. carry (place_outside in_a) (without_body d)) ts in
      let others_b : List Tree = map (λ d. carry (place_outside in_b) (without_body d)) us in
      let same = first_same (carry (place_outside in_b) (without_body u)) (carry (place_outside in_a) (without_body t)) others_b others_a s in
      ap (λ z. z ∷ map (λ d. alone b.tokens (without_body d)) us) (alone_same a b g h e (without_body t) (without_body u) x.0.order y.0.order x.0.clear y.0.clear same)
      ∙ ap (λ zs. alone a.tokens (without_body t) ∷ zs) (parts_same ts us x.1 y.1 (others_same (carry (place_outside in_b) (without_body u)) (carry (place_outside in_a) (without_body t)) others_b others_a s))

  file_same : declarations_in b ≡ declarations_in a
  file_same =
      parts_same (parts_there (parts a.tree)) (parts_there (parts b.tree))
      (others_cleared (kinds a.tokens.tokens) in_a (parts a.tree) (file_sat (kinds a.tokens.tokens) a.tree g.tree))
      (others_cleared (kinds b.tokens.tokens) in_b (parts b.tree) (file_sat (kinds b.tokens.tokens) b.tree h.tree))
      (sym (outlined_parts b.tree) ∙ ap (λ t. parts_there (parts t)) (one_outline a b g h e) ∙ outlined_parts a.tree)

pub declarations_same : (old new : List File) → AreRead old → AreRead new → heads old ≡ heads new → all_declarations new ≡ all_declarations old
declarations_same [] [] h k e = refl
declarations_same [] (b ∷ bs) h k e = absurd (some_not_none (head_of b) (heads bs) (sym e))
declarations_same (a ∷ xs) [] h k e = absurd (some_not_none (head_of a) (heads xs) e)
declarations_same (a ∷ xs) (b ∷ bs) h k e =
    ap (λ z. z ∷ all_declarations bs) (file_same a b h.0 k.0 (first_same (head_of a) (head_of b) (heads xs) (heads bs) e))
    ∙ ap (λ zs. declarations_in a ∷ zs) (declarations_same xs bs h.1 k.1 (others_same (head_of a) (head_of b) (heads xs) (heads bs) e))
