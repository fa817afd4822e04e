-- The functions of packages with equal heads, number by number.
use Rattle.std.proofs.Common.{◌≡◌, ℕ, zero, suc, Bool, true, false, List, [], ◌∷◌, ◌++◌, map, Some, None, refl, sym, ap, ◌∙◌, subst, length}
use Rattle.std.specs.Prelude.{slice_get, if◌then◌else◌}
use Rattle.go_tokens.specs.declared.token.TokenKind.{TokenKind}
use Rattle.go_tokens.specs.Tokens.{kinds}
use Rattle.go_grammar.specs.declared.kind.Kind.{Kind}
use Rattle.go_grammar.specs.Trees.{Tree, node, Trees, none, more, skip, kind_of, first, parts}
use Rattle.go_rewriting.specs.Places.{carry, carries}
use Rattle.go_tree.specs.Lists.{is_function, functions}
use Rattle.go_heads.specs.Heads.{File, IsRead, in_bodies, place_outside, head_of, heads, without_body, without_bodies, outline}
use Rattle.go_heads.specs.Functions.{Function, functions_in, all_functions, function_alone, signature_alone, body_texts, KeepsFunctions, AreRead}
use Rattle.go_heads.proofs.Files.{first_same, others_same, some_not_none, one_outline}
use Rattle.go_heads.proofs.Functions.{framed, signature_same, function_same}
use Rattle.go_heads.proofs.Outlines.{Sits, AllSit, OthersSit, file_sat}

-- ---- the functions of a file without the bodies

module _ (m : ℕ → ℕ) where
  abbrev bare : Tree → Tree
  bare t = carry m (without_body t)

  kind_or : (c : Bool) (k : Kind) (i j e : ℕ) (ps qs : Trees) → kind_of (carry m (if c then node k i e ps else node k i j qs)) ≡ k
  kind_or true k i j e ps qs = refl
  kind_or false k i j e ps qs = refl

  kind_kept : (d : Tree) → kind_of (bare d) ≡ kind_of d
  kind_kept (node k i j none) = refl
  kind_kept (node k i j (skip ps)) = refl
  kind_kept (node k i j (more s none)) = refl
  kind_kept (node k i j (more s (skip ps))) = refl
  kind_kept (node k i j (more s (more b ps))) = kind_or (is_function k) k i j (first b) (more s (skip ps)) (more s (more b ps))

  if_mapped : (c : Bool) (d : Tree) (xs ys : List Tree) → xs ≡ map bare ys → (if c then bare d ∷ xs else xs) ≡ map bare (if c then d ∷ ys else ys)
  if_mapped true d xs ys e = ap (λ l. bare d ∷ l) e
  if_mapped false d xs ys e = e

  pub bare_functions : (ps : Trees) → functions (carries m (without_bodies ps)) ≡ map bare (functions ps)
  bare_functions none = refl
  bare_functions (more d ds) =
      ap (λ k. if is_function k then bare d ∷ functions (carries m (without_bodies ds)) else functions (carries m (without_bodies ds))) (kind_kept d)
      ∙ if_mapped (is_function (kind_of d)) d (functions (carries m (without_bodies ds))) (functions ds) (bare_functions ds)
  bare_functions (skip ds) = bare_functions ds

outlined_functions : (t : Tree) → functions (parts (outline t)) ≡ map (λ d. carry (place_outside (in_bodies (parts t))) (without_body d)) (functions (parts t))
outlined_functions (node k i j ps) = bare_functions (place_outside (in_bodies ps)) ps

-- ---- where the functions of a file stand

module _ (ts : List TokenKind) (p : ℕ → Bool) where
  abbrev AllStand : List Tree → Type 0
  AllStand [] = Unit {0}
  AllStand (t ∷ us) = (is_function (kind_of t) ≡ true) × Sits ts p t × AllStand us

  if_stands : (c : Bool) (d : Tree) (us : List Tree) → is_function (kind_of d) ≡ c → Sits ts p d → AllStand us → AllStand (if c then d ∷ us else us)
  if_stands true d us e h k = (e, h, k)
  if_stands false d us e h k = k

  all_stand : (ps : Trees) → AllSit ts p ps → AllStand (functions ps)
  all_stand none h = tt
  all_stand (more d ds) h = if_stands (is_function (kind_of d)) d (functions ds) refl h.0 (all_stand ds h.1)
  all_stand (skip ds) h = all_stand ds h

  others_stand : (ps : Trees) → OthersSit ts p ps → AllStand (functions ps)
  others_stand none h = tt
  others_stand (more d ds) h = subst (λ c. AllStand (if c then d ∷ functions ds else functions ds)) (sym h.0) (all_stand ds h.3)
  others_stand (skip ds) h = all_stand ds h

-- ---- two by two

abbrev IsKept : Function → Function → Type 0
IsKept f g = (signature_alone g ≡ signature_alone f) × (body_texts g ≡ body_texts f → function_alone g ≡ function_alone f)

abbrev AreKept : List Function → List Function → Type 0
AreKept [] [] = Unit {0}
AreKept [] (g ∷ gs) = ⊥
AreKept (f ∷ fs) [] = ⊥
AreKept (f ∷ fs) (g ∷ gs) = IsKept f g × AreKept fs gs

kept_append : (fs gs xs ys : List Function) → AreKept fs gs → AreKept xs ys → AreKept (fs ++ xs) (gs ++ ys)
kept_append [] [] xs ys h k = k
kept_append [] (g ∷ gs) xs ys h k = absurd h
kept_append (f ∷ fs) [] xs ys h k = absurd h
kept_append (f ∷ fs) (g ∷ gs) xs ys h k = (h.0, kept_append fs gs xs ys h.1 k)

kept_count : (fs gs : List Function) → AreKept fs gs → length gs ≡ length fs
kept_count [] [] h = refl
kept_count [] (g ∷ gs) h = absurd h
kept_count (f ∷ fs) [] h = absurd h
kept_count (f ∷ fs) (g ∷ gs) h = ap suc (kept_count fs gs h.1)

same_function : (f g : Function) → Some f ≡ Some g → f ≡ g
same_function f g e = cc

none_some : (f : Function) → None ≡ Some f → ⊥
none_some f e = cc

kept_at : (fs gs : List Function) → AreKept fs gs → (n : ℕ) (f g : Function) → slice_get fs n ≡ Some f → slice_get gs n ≡ Some g → IsKept f g
kept_at [] [] h n f g d e = absurd (none_some f d)
kept_at [] (y ∷ gs) h n f g d e = absurd h
kept_at (x ∷ fs) [] h n f g d e = absurd h
kept_at (x ∷ fs) (y ∷ gs) h zero f g d e = subst (λ z. IsKept z g) (same_function x f d) (subst (λ z. IsKept x z) (same_function y g e) h.0)
kept_at (x ∷ fs) (y ∷ gs) h (suc n) f g d e = kept_at fs gs h.1 n f g d e

module _ (a b : File) (g : IsRead a) (h : IsRead b) (e : head_of a ≡ head_of b) where
  abbrev in_a : ℕ → Bool
  in_a = in_bodies (parts a.tree)

  abbrev in_b : ℕ → Bool
  in_b = in_bodies (parts b.tree)

  files_kept : (fs gs : List Tree) → AllStand (kinds a.tokens.tokens) in_a fs → AllStand (kinds b.tokens.tokens) in_b gs
      → map (λ t. carry (place_outside in_b) (without_body t)) gs ≡ map (λ t. carry (place_outside in_a) (without_body t)) fs
      → AreKept (map (λ t. record { file = a; tree = t }) fs) (map (λ t. record { file = b; tree = t }) gs)
  files_kept [] [] x y s = tt
  files_kept [] (u ∷ us) x y s = absurd (some_not_none (carry (place_outside in_b) (without_body u)) (map (λ t. carry (place_outside in_b) (without_body t)) us) s)
  files_kept (t ∷ ts) [] x y s = absurd (some_not_none (carry (place_outside in_a) (without_body t)) (map (λ t. carry (place_outside in_a) (without_body t)) ts) (sym s))
  files_kept (t ∷ ts) (u ∷ us) x y s =
      let z = framed (kinds a.tokens.tokens) in_a t x.0 x.1 in
      let w = framed (kinds b.tokens.tokens) in_b u y.0 y.1 in
      let others_a : List Tree = map (λ t. carry (place_outside in_a) (without_body t)) ts in
      let others_b : List Tree = map (λ t. carry (place_outside in_b) (without_body t)) us in
      let same = first_same (carry (place_outside in_b) (without_body u)) (carry (place_outside in_a) (without_body t)) others_b others_a s in (
        (signature_same a b g h e t u x.1 y.1 z w same, function_same a b g h e t u x.1 y.1 z w same),
        files_kept ts us x.2 y.2 (others_same (carry (place_outside in_b) (without_body u)) (carry (place_outside in_a) (without_body t)) others_b others_a s),
      )

  pub file_kept : AreKept (functions_in a) (functions_in b)
  file_kept =
      files_kept (functions (parts a.tree)) (functions (parts b.tree))
      (others_stand (kinds a.tokens.tokens) in_a (parts a.tree) (file_sat (kinds a.tokens.tokens) a.tree g.tree))
      (others_stand (kinds b.tokens.tokens) in_b (parts b.tree) (file_sat (kinds b.tokens.tokens) b.tree h.tree))
      (sym (outlined_functions b.tree) ∙ ap (λ t. functions (parts t)) (one_outline a b g h e) ∙ outlined_functions a.tree)

all_kept : (old new : List File) → AreRead old → AreRead new → heads old ≡ heads new → AreKept (all_functions old) (all_functions new)
all_kept [] [] h k e = tt
all_kept [] (b ∷ bs) h k e = absurd (some_not_none (head_of b) (heads bs) (sym e))
all_kept (a ∷ xs) [] h k e = absurd (some_not_none (head_of a) (heads xs) e)
all_kept (a ∷ xs) (b ∷ bs) h k e =
    kept_append (functions_in a) (functions_in b) (all_functions xs) (all_functions bs)
    (file_kept a b h.0 k.0 (first_same (head_of a) (head_of b) (heads xs) (heads bs) e))
    (all_kept xs bs h.1 k.1 (others_same (head_of a) (head_of b) (heads xs) (heads bs) e))

pub functions_kept : (old new : List File) → AreRead old → AreRead new → heads old ≡ heads new → KeepsFunctions old new
functions_kept old new h k e =
    let all = all_kept old new h k e in
    record {
      count = kept_count (all_functions old) (all_functions new) all;
      signatures = λ n f g x y. (kept_at (all_functions old) (all_functions new) all n f g x y).0;
      bodies = λ n f g x y. (kept_at (all_functions old) (all_functions new) all n f g x y).1;
    }
