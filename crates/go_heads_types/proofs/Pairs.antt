-- The specifications of packages with equal heads, declaration by declaration.
use Rattle.std.proofs.Common.{◌≡◌, ◌∙◌, ℕ, suc, ◌+◌, ◌-◌, ◌<◌, ◌≤◌, Bool, true, false, List, [], ◌∷◌, ◌++◌, map, Some, refl, sym, ap, subst, arith}
use Rattle.std.specs.Prelude.{slice_get}
use Rattle.go_tokens.specs.declared.token.TokenKind.{TokenKind}
use Rattle.go_tokens.specs.Tokens.{kinds}
use Rattle.go_grammar.specs.declared.kind.Kind.TheVariants as kind
use Rattle.go_grammar.specs.declared.kind.Category.TheVariants as category
use Rattle.go_grammar.specs.Trees.{Tree, node, Trees, none, more, skip, kind_of, first, last, parts}
use Rattle.go_rewriting.specs.Lists.{InOrder, Ordered}
use Rattle.go_rewriting.specs.Places.{carry, carries}
use Rattle.go_rewriting.proofs.Public.{first_carry, tree_order, row_order, derives_ordered}
use Rattle.go_tree.specs.Lists.{is_function}
use Rattle.go_heads.specs.Functions.{Alone, AreRead, parts_there}
use Rattle.go_heads.specs.Heads.{File, IsRead, is_within, in_bodies, place_outside, head_of, heads, without_body, without_bodies, outline}
use Rattle.go_heads.proofs.Public.{places_stay, first_same, others_same, some_not_none, one_outline, framed, alone_same, Sits, AllSit, OthersSit, file_sat, plain_same, plain_none, function_kind}
use Rattle.go_package_defs.specs.Answer.{specifications}
use Rattle.go_package_defs.specs.Declarations.{Specification, declaration, declarations, in_file}
use Rattle.go_package_defs.specs.Sources.{Source}
use Rattle.go_heads_types.specs.Portions.{files_of, AreNamed}
use Rattle.go_heads.specs.Lookups.{AtOnePlace}
use Rattle.go_heads.specs.Objects.{file_in, file_there}
use Rattle.go_heads_types.specs.Specifications.{AreOne}
use Rattle.go_heads_types.proofs.Further.{AllFurther, bare_further}
use Rattle.go_heads_types.proofs.Inside.{order_less, AllLie, declaration_lies}

-- ---- declarations without their bodies

-- Its nodes have tokens in order, of which none is in a body; and a function has a name.
pub record IsBare (p : ℕ → Bool) (d : Tree) : Type 0 where
  pub order : InOrder (without_body d)
  pub clear : (n : ℕ) → first (without_body d) ≤ n → n < last (without_body d) → p n ≡ false
  pub named : is_function (kind_of (without_body d)) ≡ true → suc (first (without_body d)) < last (without_body d)

true_not_false : (b : Bool) → b ≡ true → b ≡ false → ⊥
true_not_false b e f = cc

module _ (ts : List TokenKind) (p : ℕ → Bool) where
  plain_bare : (d : Tree) → is_function (kind_of d) ≡ false → InOrder d → ((n : ℕ) → first d ≤ n → n < last d → p n ≡ false) → IsBare p d
  plain_bare d e o c =
      subst (λ t. (InOrder t × ((n : ℕ) → first t ≤ n → n < last t → p n ≡ false)) → IsBare p d) (plain_same d e)
      (λ h. record { order = h.0; clear = h.1; named = λ f. absurd (true_not_false (is_function (kind_of (without_body d))) f (ap (λ t. is_function (kind_of t)) (plain_same d e) ∙ e)) })
      (o, c)

  name_there : (i j : ℕ) (ps : Trees) → Sits ts p (node kind.FunctionDeclaration i j ps) → suc (first (without_body (node kind.FunctionDeclaration i j ps))) < last (without_body (node kind.FunctionDeclaration i j ps))
  name_there i j none h = absurd h.derives.1
  name_there i j (skip ps) h = absurd h.derives.1
  name_there i j (more s none) h = absurd h.derives.1.2
  name_there i j (more s (skip ps)) h =
      let order = derives_ordered ts (node kind.FunctionDeclaration i j (more s (skip ps))) category.Declaration h.derives in
      omega (arith, h.derives.1.0.1.1, tree_order s order.1.1, row_order ps (last s) j order.1.2)
  name_there i j (more s (more b ps)) h =
      let order = derives_ordered ts (node kind.FunctionDeclaration i j (more s (more b ps))) category.Declaration h.derives in
      omega (arith, h.derives.1.0.1.1, tree_order s order.1.1, order.1.2.0)

  pub function_bare : (d : Tree) → is_function (kind_of d) ≡ true → Sits ts p d → IsBare p d
  function_bare (node k i j ps) e h =
      let f = framed ts p (node k i j ps) e h in
      let l = function_kind k e in
      record {
        order = f.order;
        clear = f.clear;
        named = λ g. subst (λ x. suc (first (without_body (node x i j ps))) < last (without_body (node x i j ps))) (sym l) (name_there i j ps (subst (λ x. Sits ts p (node x i j ps)) l h));
      }

  one_bare : (d : Tree) (c : Bool) → is_function (kind_of d) ≡ c → Sits ts p d → IsBare p d
  one_bare d true e h = function_bare d e h
  one_bare d false e h = plain_bare d e (derives_ordered ts d category.Declaration h.derives) (λ n lo hi. h.own n lo hi ∙ ap (λ o. is_within o n) (plain_none d e))

  abbrev AllBare : List Tree → Type 0
  AllBare [] = Unit {0}
  AllBare (d ∷ ds) = IsBare p d × AllBare ds

  all_bare : (ps : Trees) → AllSit ts p ps → AllBare (parts_there ps)
  all_bare none h = tt
  all_bare (more d ds) h = (one_bare d (is_function (kind_of d)) refl h.0, all_bare ds h.1)
  all_bare (skip ds) h = all_bare ds h

  others_bare : (ps : Trees) → OthersSit ts p ps → AllBare (parts_there ps)
  others_bare none h = tt
  others_bare (more d ds) h = (plain_bare d h.0 h.1 h.2, all_bare ds h.3)
  others_bare (skip ds) h = all_bare ds h

bare_parts : (m : ℕ → ℕ) (ps : Trees) → parts_there (carries m (without_bodies ps)) ≡ map (λ d. carry m (without_body d)) (parts_there ps)
bare_parts m none = refl
bare_parts m (more d ds) = ap (λ l. carry m (without_body d) ∷ l) (bare_parts m ds)
bare_parts m (skip ds) = bare_parts m ds

outlined_parts : (t : Tree) → parts_there (parts (outline t)) ≡ map (λ d. carry (place_outside (in_bodies (parts t))) (without_body d)) (parts_there (parts t))
outlined_parts (node k i j ps) = bare_parts (place_outside (in_bodies ps)) ps

-- ---- trees that are moved to and fro

mutual
  pub tree_back : (a : ℕ) (t : Tree) → InOrder t → a ≤ first t → t ≡ carry (λ i. a + i) (carry (λ n. n - a) t)
  tree_back a (node k i j ps) h le =
      ap (λ x. node k x j ps) (let e : i ≡ a + (i - a) = omega (arith, le) in e)
      ∙ ap (λ x. node k (a + (i - a)) x ps) (let e : j ≡ a + (j - a) = omega (arith, le, h.0) in e)
      ∙ ap (node k (a + (i - a)) (a + (j - a))) (row_back a ps i j h.1 le)

  row_back : (a : ℕ) (ps : Trees) (i j : ℕ) → Ordered i ps j → a ≤ i → ps ≡ carries (λ i. a + i) (carries (λ n. n - a) ps)
  row_back a none i j h le = refl
  row_back a (more t ts) i j h le =
      ap (λ x. more x ts) (tree_back a t h.1 (omega (arith, le, h.0)))
      ∙ ap (more (carry (λ i. a + i) (carry (λ n. n - a) t))) (row_back a ts (last t) j h.2 (omega (arith, le, h.0, tree_order t h.1)))
  row_back a (skip ts) i j h le = ap skip (row_back a ts i j h le)

kind_carried : (m : ℕ → ℕ) (t : Tree) → kind_of (carry m t) ≡ kind_of t
kind_carried m (node k i j ps) = refl

last_less : (a : ℕ) (t : Tree) → last (carry (λ n. n - a) t) ≡ last t - a
last_less a (node k i j ps) = refl

-- ---- lists

one_append : (old new : List File) (ds es us vs : List Specification) → AreOne old new ds es → AreOne old new us vs → AreOne old new (ds ++ us) (es ++ vs)
one_append old new [] [] us vs h k = k
one_append old new [] (e ∷ es) us vs h k = absurd h
one_append old new (d ∷ ds) [] us vs h k = absurd h
one_append old new (d ∷ ds) (e ∷ es) us vs h k = (h.0, one_append old new ds es us vs h.1 k)

abbrev spread : ℕ → List Tree → List Specification
spread n [] = []
spread n (t ∷ ts) = declaration n t ++ spread n ts

spread_there : (n : ℕ) (ps : Trees) → declarations n ps ≡ spread n (parts_there ps)
spread_there n none = refl
spread_there n (more p ps) = ap (λ ds. declaration n p ++ ds) (spread_there n ps)
spread_there n (skip ps) = spread_there n ps

file_spread : (n : ℕ) (t : Tree) → in_file n t ≡ spread n (parts_there (parts t))
file_spread n (node k i j ps) = spread_there n ps

module _ (old new : List File) (n a b w : ℕ) (places : (i : ℕ) → i < w → AtOnePlace old new n (a + i) (b + i)) where
  zipped : (rs ds es : List Specification) → AllFurther a rs ds → AllFurther b rs es → AllLie w n rs → AreOne old new ds es
  zipped [] [] [] f g l = tt
  zipped [] [] (e ∷ es) f g l = absurd g
  zipped [] (d ∷ ds) es f g l = absurd f
  zipped (r ∷ rs) [] es f g l = absurd f
  zipped (r ∷ rs) (d ∷ ds) [] f g l = absurd g
  zipped (r ∷ rs) (d ∷ ds) (e ∷ es) f g l = (
    record {
      one = r;
      from = a;
      to = b;
      width = w;
      before = f.0.0;
      after = g.0.0;
      lies = l.0.0;
      file = g.0.1 ∙ sym f.0.1;
      places = λ i lt. subst (λ k. AtOnePlace old new k (a + i) (b + i)) (sym (f.0.1 ∙ l.0.1)) (places i lt);
    },
    zipped rs ds es f.1 g.1 l.1,
  )

-- ---- one file

module _ (old new : List File) (n : ℕ) (f g : File) (there : slice_get old n ≡ Some f) (there_new : slice_get new n ≡ Some g) (h : IsRead f) (k : IsRead g) (e : head_of f ≡ head_of g) where
  abbrev in_f : ℕ → Bool
  in_f = in_bodies (parts f.tree)

  abbrev in_g : ℕ → Bool
  in_g = in_bodies (parts g.tree)

  abbrev bare_f : Tree → Tree
  bare_f d = carry (place_outside in_f) (without_body d)

  abbrev bare_g : Tree → Tree
  bare_g d = carry (place_outside in_g) (without_body d)

  module _ (t u : Tree) (x : IsBare in_f t) (y : IsBare in_g u) (same : bare_g u ≡ bare_f t) where
    abbrev a : ℕ
    a = first (without_body t)

    abbrev b : ℕ
    b = first (without_body u)

    abbrev w : ℕ
    w = last (without_body t) - a

    abbrev one : Tree
    one = carry (λ n. n - a) (without_body t)

    alone_one : carry (λ n. n - b) (without_body u) ≡ one
    alone_one = ap (λ (z : Alone). z.tree) (alone_same f g h k e (without_body t) (without_body u) x.order y.order x.clear y.clear same)

    begins : place_outside in_g b ≡ place_outside in_f a
    begins = sym (first_carry (place_outside in_g) (without_body u)) ∙ ap first same ∙ first_carry (place_outside in_f) (without_body t)

    last_one : last one ≡ w
    last_one = last_less a (without_body t)

    wide : last (without_body u) - b ≡ w
    wide = sym (last_less b (without_body u)) ∙ ap last alone_one ∙ last_one

    pub at_place : (i : ℕ) → i < w → AtOnePlace old new n (a + i) (b + i)
    at_place i lt =
        let here : file_in old n ≡ f = ap file_there there in
        let here_new : file_in new n ≡ g = ap file_there there_new in
        let clear_f : (j : ℕ) → a ≤ j → j < a + i → in_f j ≡ false = λ j lo hi. x.clear j lo (omega (arith, hi, lt)) in
        let clear_g : (j : ℕ) → b ≤ j → j < b + i → in_g j ≡ false = λ j lo hi. y.clear j lo (omega (arith, hi, lt, wide)) in
        record {
          before = ap (λ (z : File). in_bodies (parts z.tree) (a + i)) here ∙ x.clear (a + i) (omega arith) (omega (arith, lt));
          after = ap (λ (z : File). in_bodies (parts z.tree) (b + i)) here_new ∙ y.clear (b + i) (omega arith) (omega (arith, lt, wide));
          place =
              ap (λ (z : File). place_outside (in_bodies (parts z.tree)) (b + i)) here_new
              ∙ places_stay in_g b i clear_g ∙ ap (λ c. c + i) begins ∙ sym (places_stay in_f a i clear_f)
              ∙ sym (ap (λ (z : File). place_outside (in_bodies (parts z.tree)) (a + i)) here);
        }

    one_named : is_function (kind_of one) ≡ true → suc (first one) < w
    one_named c =
        let d : is_function (kind_of (without_body t)) ≡ true = ap is_function (sym (kind_carried (λ n. n - a) (without_body t))) ∙ c in
        let z : first one ≡ a - a = first_carry (λ n. n - a) (without_body t) in
        omega (arith, x.named d, z)

    pair : AreOne old new (declaration n t) (declaration n u)
    pair =
        zipped old new n a b w at_place (declaration n one) (declaration n t) (declaration n u)
        (bare_further a n t one (tree_back a (without_body t) x.order (omega arith)))
        (bare_further b n u one (tree_back b (without_body u) y.order (omega arith) ∙ ap (carry (λ i. b + i)) alone_one))
        (declaration_lies w n one (order_less a (without_body t) x.order (omega arith), omega (arith, last_one)) one_named)

  pairs : (ts us : List Tree) → AllBare (kinds f.tokens.tokens) in_f ts → AllBare (kinds g.tokens.tokens) in_g us → map bare_g us ≡ map bare_f ts → AreOne old new (spread n ts) (spread n us)
  pairs [] [] x y s = tt
  pairs [] (u ∷ us) x y s = absurd (some_not_none (bare_g u) (map bare_g us) s)
  pairs (t ∷ ts) [] x y s = absurd (some_not_none (bare_f t) (map bare_f ts) (sym s))
  pairs (t ∷ ts) (u ∷ us) x y s =
      one_append old new (declaration n t) (declaration n u) (spread n ts) (spread n us)
      (pair t u x.0 y.0 (first_same (bare_g u) (bare_f t) (map bare_g us) (map bare_f ts) s))
      (pairs ts us x.1 y.1 (others_same (bare_g u) (bare_f t) (map bare_g us) (map bare_f ts) s))

  file_one : AreOne old new (in_file n f.tree) (in_file n g.tree)
  file_one =
      subst (λ ds. AreOne old new ds (in_file n g.tree)) (sym (file_spread n f.tree))
      (subst (λ es. AreOne old new (spread n (parts_there (parts f.tree))) es) (sym (file_spread n g.tree))
      (pairs (parts_there (parts f.tree)) (parts_there (parts g.tree))
      (others_bare (kinds f.tokens.tokens) in_f (parts f.tree) (file_sat (kinds f.tokens.tokens) f.tree h.tree))
      (others_bare (kinds g.tokens.tokens) in_g (parts g.tree) (file_sat (kinds g.tokens.tokens) g.tree k.tree))
      (sym (outlined_parts g.tree) ∙ ap (λ t. parts_there (parts t)) (one_outline f g h k e) ∙ outlined_parts f.tree)))

-- ---- all files

module _ (old new : List File) where
  all_one : (n : ℕ) (ss us : List Source) (ws vs : List (List ℕ)) → AreNamed ws ss → AreNamed vs us
      → ((i : ℕ) → slice_get old (n + i) ≡ slice_get (files_of ws ss) i) → ((i : ℕ) → slice_get new (n + i) ≡ slice_get (files_of vs us) i)
      → AreRead (files_of ws ss) → AreRead (files_of vs us) → heads (files_of ws ss) ≡ heads (files_of vs us) → AreOne old new (specifications n ss) (specifications n us)
  all_one n [] [] [] [] p q x y h k e = tt
  all_one n [] us (w ∷ ws) vs p q x y h k e = absurd (omega (arith, p))
  all_one n (s ∷ ss) us [] vs p q x y h k e = absurd (omega (arith, p))
  all_one n ss [] ws (v ∷ vs) p q x y h k e = absurd (omega (arith, q))
  all_one n ss (u ∷ us) ws [] p q x y h k e = absurd (omega (arith, q))
  all_one n [] (u ∷ us) [] (v ∷ vs) p q x y h k e =
      let b : File = record { name = v; tokens = u.tokens; tree = u.tree } in absurd (some_not_none (head_of b) (heads (files_of vs us)) (sym e))
  all_one n (s ∷ ss) [] (w ∷ ws) [] p q x y h k e =
      let a : File = record { name = w; tokens = s.tokens; tree = s.tree } in absurd (some_not_none (head_of a) (heads (files_of ws ss)) e)
  all_one n (s ∷ ss) (u ∷ us) (w ∷ ws) (v ∷ vs) p q x y h k e =
      let a : File = record { name = w; tokens = s.tokens; tree = s.tree } in
      let b : File = record { name = v; tokens = u.tokens; tree = u.tree } in
      let z : n ≡ n + 0 = omega arith in
      let next : (i : ℕ) → suc n + i ≡ n + suc i = λ i. omega arith in
      one_append old new (in_file n s.tree) (in_file n u.tree) (specifications (suc n) ss) (specifications (suc n) us)
      (file_one old new n a b (ap (slice_get old) z ∙ x 0) (ap (slice_get new) z ∙ y 0) h.0 k.0 (first_same (head_of a) (head_of b) (heads (files_of ws ss)) (heads (files_of vs us)) e))
      (all_one (suc n) ss us ws vs (omega (arith, p)) (omega (arith, q)) (λ i. ap (slice_get old) (next i) ∙ x (suc i)) (λ i. ap (slice_get new) (next i) ∙ y (suc i)) h.1 k.1
      (others_same (head_of a) (head_of b) (heads (files_of ws ss)) (heads (files_of vs us)) e))

pub specifications_one : (ss us : List Source) (ws vs : List (List ℕ)) → AreNamed ws ss → AreNamed vs us → AreRead (files_of ws ss) → AreRead (files_of vs us)
    → heads (files_of ws ss) ≡ heads (files_of vs us) → AreOne (files_of ws ss) (files_of vs us) (specifications 0 ss) (specifications 0 us)
specifications_one ss us ws vs p q h k e =
    let z : (i : ℕ) → 0 + i ≡ i = λ i. omega arith in
    all_one (files_of ws ss) (files_of vs us) 0 ss us ws vs p q (λ i. ap (slice_get (files_of ws ss)) (z i)) (λ i. ap (slice_get (files_of vs us)) (z i)) h k e
