-- A function of a file and that of the same number of one with an equal head.
use Rattle.std.proofs.Common.{◌≡◌, ℕ, suc, ◌+◌, ◌-◌, ◌<◌, ◌≤◌, ◌⊎◌, inl, inr, Bool, true, false, List, [], ◌∷◌, Option, Some, None, refl, sym, ap, ◌∙◌, subst, length, arith}
use Rattle.std.specs.Prelude.{slice_get}
use Rattle.go_tokens.specs.declared.token.Token.{Token}
use Rattle.go_tokens.specs.declared.token.TokenKind.{TokenKind}
use Rattle.go_tokens.specs.Tokens.{kinds}
use Rattle.go_grammar.specs.declared.kind.Kind.{Kind}
use Rattle.go_grammar.specs.declared.kind.Kind.TheVariants as kind
use Rattle.go_grammar.specs.declared.kind.Category.TheVariants as category
use Rattle.go_grammar.specs.Trees.{Tree, node, Trees, none, more, skip, first, last, parts}
use Rattle.go_grammar.specs.Trees as trees
use Rattle.go_grammar.proofs.Public.{lies_within, unique}
use Rattle.go_rewriting.specs.Lists.{InOrder, Elsewhere}
use Rattle.go_rewriting.specs.Places.{carry}
use Rattle.go_rewriting.specs.Replacing.{moved}
use Rattle.go_rewriting.proofs.Public.{soft_same, first_carry, last_carry, text_elsewhere, tree_order, derives_ordered}
use Rattle.go_tree.specs.Lists.{is_function}
use Rattle.go_tree.specs.Units.{word}
use Rattle.go_heads.specs.Heads.{File, IsRead, Head, body_of, in_bodies, outside, place_outside, texts, head_of, without_body}
use Rattle.go_heads.specs.Functions.{Function, texts_from, Alone, alone, function_alone, signature_alone, texts_in, body_texts}
use Rattle.go_heads.proofs.Bodies.{before}
use Rattle.go_heads.proofs.Carried.{carry_twice, carry_along}
use Rattle.go_heads.proofs.Counting.{places_stay, stands_outside}
use Rattle.go_heads.proofs.Outlines.{Sits, function_kind}
use Rattle.go_heads.proofs.Words.{words_same, texts_same, texts_length, texts_apart, kinds_same}

-- ---- a function, and its declaration without the body

pub some_none : {A : Type 0} (x : A) → Some x ≡ None → ⊥
some_none x e = cc

pub same_some : {A : Type 0} (x y : A) → Some x ≡ Some y → x ≡ y
same_some x y e = cc

count_kinds : (ts : List Token) → length (kinds ts) ≡ length ts
count_kinds [] = refl
count_kinds (t ∷ ts) = ap suc (count_kinds ts)

pub record Framed (p : ℕ → Bool) (f : Tree) : Type 0 where
  pub order : InOrder (without_body f)
  pub begins : first (without_body f) ≡ first f
  pub clear : (n : ℕ) → first (without_body f) ≤ n → n < last (without_body f) → p n ≡ false
  pub plain : body_of f ≡ None → without_body f ≡ f
  pub ends : (b : Tree) → body_of f ≡ Some b → (first b ≡ last (without_body f)) × (last b ≡ last f) × (first b < last b)

module _ (ts : List TokenKind) (p : ℕ → Bool) where
  declared : (i j : ℕ) (ps : Trees) → Sits ts p (node kind.FunctionDeclaration i j ps) → Framed p (node kind.FunctionDeclaration i j ps)
  declared i j none h = absurd h.derives.1
  declared i j (skip ps) h = absurd h.derives.1
  declared i j (more s none) h = absurd h.derives.1.2
  declared i j (more s (skip ps)) h = record {
    order = derives_ordered ts (node kind.FunctionDeclaration i j (more s (skip ps))) category.Declaration h.derives;
    begins = refl;
    clear = λ n lo hi. h.own n lo hi;
    plain = λ e. refl;
    ends = λ b e. absurd (some_none b (sym e));
  }
  declared i j (more s (more b (more q qs))) h = absurd h.derives.1.2.2
  declared i j (more s (more b (skip qs))) h = absurd h.derives.1.2.2
  declared i j (more s (more b none)) h =
      let order = derives_ordered ts (node kind.FunctionDeclaration i j (more s (more b none))) category.Declaration h.derives in
      let in_s : first s < last s = tree_order s order.1.1 in
      let in_b : first b < last b = tree_order b order.1.2.1 in
      record {
        order = (omega (arith, order.1.0, in_s, order.1.2.0), (order.1.0, order.1.1, order.1.2.0));
        begins = refl;
        clear = λ n lo hi. h.own n lo (omega (arith, hi, in_b, order.1.2.2)) ∙ before b n hi;
        plain = λ e. absurd (some_none b e);
        ends = λ c e. subst (λ x. (first x ≡ first b) × (last x ≡ j) × (first x < last x)) (same_some b c e) (refl, h.derives.1.2.2, in_b);
      }

  by_kind : (k : Kind) (i j : ℕ) (ps : Trees) → k ≡ kind.FunctionDeclaration → Sits ts p (node k i j ps) → Framed p (node k i j ps)
  by_kind k i j ps e h = subst (λ x. Framed p (node x i j ps)) (sym e) (declared i j ps (subst (λ x. Sits ts p (node x i j ps)) e h))

  pub framed : (f : Tree) → is_function (trees.kind_of f) ≡ true → Sits ts p f → Framed p f
  framed (node k i j ps) e h = by_kind k i j ps (function_kind k e) h

-- ---- trees by themselves

abbrev made : List (List ℕ) → Tree → Alone
made ws t = record { texts = ws; tree = t }

split : (n w : ℕ) → (n < w) ⊎ (w ≤ n)
split n w = grind arith

module _ (a b : File) (g : IsRead a) (h : IsRead b) (e : head_of a ≡ head_of b) where
  abbrev in_a : ℕ → Bool
  in_a = in_bodies (parts a.tree)

  abbrev in_b : ℕ → Bool
  in_b = in_bodies (parts b.tree)

  -- tokens at the same place of the head have the same text
  head_word : (n k : ℕ) → in_a n ≡ false → in_b k ≡ false → place_outside in_b k ≡ place_outside in_a n → word b.tokens k ≡ word a.tokens n
  head_word n k c d same =
      words_same a.tokens b.tokens n k (
      sym (stands_outside in_b (texts b.tokens) k d) ∙ ap (slice_get (outside in_b 0 (texts b.tokens))) same
      ∙ ap (λ (x : Head). slice_get x.texts (place_outside in_a n)) (sym e) ∙ stands_outside in_a (texts a.tokens) n c)

  module _ (t u : Tree) (x : InOrder t) (y : InOrder u) (c : (n : ℕ) → first t ≤ n → n < last t → in_a n ≡ false) (d : (n : ℕ) → first u ≤ n → n < last u → in_b n ≡ false)
      (same : carry (place_outside in_b) u ≡ carry (place_outside in_a) t) where
    begins : place_outside in_b (first u) ≡ place_outside in_a (first t)
    begins = sym (first_carry (place_outside in_b) u) ∙ ap first same ∙ first_carry (place_outside in_a) t

    ends : place_outside in_b (last u) ≡ place_outside in_a (last t)
    ends = sym (last_carry (place_outside in_b) u) ∙ ap last same ∙ last_carry (place_outside in_a) t

    places_a : (k : ℕ) → first t + k ≤ last t → place_outside in_a (first t + k) ≡ place_outside in_a (first t) + k
    places_a k le = places_stay in_a (first t) k (λ n lo hi. c n lo (omega (arith, hi, le)))

    places_b : (k : ℕ) → first u + k ≤ last u → place_outside in_b (first u + k) ≡ place_outside in_b (first u) + k
    places_b k le = places_stay in_b (first u) k (λ n lo hi. d n lo (omega (arith, hi, le)))

    pub width : last u - first u ≡ last t - first t
    width =
        let lt : first t < last t = tree_order t x in
        let lu : first u < last u = tree_order u y in
        let at : first t + (last t - first t) ≡ last t = omega (arith, lt) in
        let au : first u + (last u - first u) ≡ last u = omega (arith, lu) in
        omega (arith, places_a (last t - first t) (omega (arith, at)), places_b (last u - first u) (omega (arith, au)), ap (place_outside in_a) at, ap (place_outside in_b) au, begins, ends)

    pub header_word : (n : ℕ) → n < last t - first t → word b.tokens (first u + n) ≡ word a.tokens (first t + n)
    header_word n lt =
        let lu : n < last u - first u = omega (arith, lt, width) in
        head_word (first t + n) (first u + n) (c (first t + n) (omega arith) (omega (arith, lt))) (d (first u + n) (omega arith) (omega (arith, lu)))
        (let r : place_outside in_b (first u + n) ≡ place_outside in_a (first t + n) = omega (arith, places_a n (omega (arith, lt)), places_b n (omega (arith, lu)), begins) in r)

    carried : carry (λ n. n - first u) u ≡ carry (λ n. n - first t) t
    carried =
        carry_along (λ n. n - first u) (λ n. place_outside in_b n - place_outside in_b (first u)) (first u) (last u)
        (λ n lo hi. let z : first u + (n - first u) ≡ n = omega (arith, lo) in let r : n - first u ≡ place_outside in_b n - place_outside in_b (first u) = omega (arith, places_b (n - first u) (omega (arith, z, hi)), ap (place_outside in_b) z) in r)
        u y (omega arith) (omega arith)
        ∙ sym (carry_twice (λ n. n - place_outside in_b (first u)) (place_outside in_b) u)
        ∙ ap (carry (λ n. n - place_outside in_b (first u))) same
        ∙ ap (λ i. carry (λ n. n - i) (carry (place_outside in_a) t)) begins
        ∙ carry_twice (λ n. n - place_outside in_a (first t)) (place_outside in_a) t
        ∙ sym (carry_along (λ n. n - first t) (λ n. place_outside in_a n - place_outside in_a (first t)) (first t) (last t)
        (λ n lo hi. let z : first t + (n - first t) ≡ n = omega (arith, lo) in let r : n - first t ≡ place_outside in_a n - place_outside in_a (first t) = omega (arith, places_a (n - first t) (omega (arith, z, hi)), ap (place_outside in_a) z) in r)
        t x (omega arith) (omega arith))

    pub alone_same : alone b.tokens u ≡ alone a.tokens t
    alone_same =
        ap (λ k. made (texts_from b.tokens (first u) k) (carry (λ n. n - first u) u)) width
        ∙ ap (λ ws. made ws (carry (λ n. n - first u) u)) (texts_same a.tokens b.tokens (first t) (first u) (last t - first t) header_word)
        ∙ ap (λ r. made (texts_from a.tokens (first t) (last t - first t)) r) carried

  -- ---- functions whose bodies have the same texts

  module _ (f u : Tree) (x : Sits (kinds a.tokens.tokens) in_a f) (y : Sits (kinds b.tokens.tokens) in_b u) (k : ℕ) (wide : last f ≡ first f + k) (long : last u ≡ first u + k)
      (says : (n : ℕ) → n < k → word b.tokens (first u + n) ≡ word a.tokens (first f + n)) where
    within_a : last f ≤ length a.tokens.tokens
    within_a = omega (arith, (lies_within (kinds a.tokens.tokens) category.Declaration f x.derives).1, count_kinds a.tokens.tokens)

    within_b : last u ≤ length b.tokens.tokens
    within_b = omega (arith, (lies_within (kinds b.tokens.tokens) category.Declaration u y.derives).1, count_kinds b.tokens.tokens)

    kind_there : (n : ℕ) → first u ≤ n → n < last u → slice_get (kinds a.tokens.tokens) (moved (first u) (first f) n) ≡ slice_get (kinds b.tokens.tokens) n
    kind_there n lo hi =
        let v : first u + (n - first u) ≡ n = omega (arith, lo) in
        let w : first f + (n - first u) ≡ moved (first u) (first f) n = omega arith in
        let same : word b.tokens n ≡ word a.tokens (moved (first u) (first f) n) = ap (word b.tokens) (sym v) ∙ says (n - first u) (omega (arith, v, hi, long)) ∙ ap (word a.tokens) w in
        sym (kinds_same a.tokens b.tokens g.lexing h.lexing (moved (first u) (first f) n) n (omega (arith, w, v, hi, long, wide, within_a)) (omega (arith, hi, within_b)) same)

    end_moved : moved (first u) (first f) (last u) ≡ last f
    end_moved = omega (arith, wide, long)

    begin_moved : moved (first u) (first f) (first u) ≡ first f
    begin_moved = omega arith

    elsewhere : Elsewhere (kinds b.tokens.tokens) (kinds a.tokens.tokens) (first u) (last u) (first f)
    elsewhere = record {
      same = kind_there;
      edge = (soft_same (kinds b.tokens.tokens) (kinds a.tokens.tokens) (moved (first u) (first f)) (last u) (ap (slice_get (kinds a.tokens.tokens)) end_moved ∙ x.closed ∙ sym y.closed)).edge;
    }

    one : f ≡ carry (moved (first u) (first f)) u
    one =
        unique (kinds a.tokens.tokens) category.Declaration f (carry (moved (first u) (first f)) u) x.derives
        (text_elsewhere (kinds b.tokens.tokens) (kinds a.tokens.tokens) (first u) (last u) (first f) elsewhere category.Declaration u refl (omega arith) (omega arith) y.derives)
        (sym begin_moved ∙ sym (first_carry (moved (first u) (first f)) u)) (sym end_moved ∙ sym (last_carry (moved (first u) (first f)) u))

    trees_same : carry (λ n. n - first u) u ≡ carry (λ n. n - first f) f
    trees_same =
        carry_along (λ n. n - first u) (λ n. moved (first u) (first f) n - first f) (first u) (last u)
        (λ n lo hi. let r : n - first u ≡ moved (first u) (first f) n - first f = omega arith in r)
        u (derives_ordered (kinds b.tokens.tokens) u category.Declaration y.derives) (omega arith) (omega arith)
        ∙ sym (carry_twice (λ n. n - first f) (moved (first u) (first f)) u)
        ∙ sym (ap (carry (λ n. n - first f)) one)

    pub wholly_same : alone b.tokens u ≡ alone a.tokens f
    wholly_same =
        let p : last u - first u ≡ k = omega (arith, long) in
        let q : k ≡ last f - first f = omega (arith, wide) in
        ap (λ n. made (texts_from b.tokens (first u) n) (carry (λ n. n - first u) u)) p
        ∙ ap (λ ws. made ws (carry (λ n. n - first u) u)) (texts_same a.tokens b.tokens (first f) (first u) k says)
        ∙ ap (λ n. made (texts_from a.tokens (first f) n) (carry (λ n. n - first u) u)) q
        ∙ ap (λ r. made (texts_from a.tokens (first f) (last f - first f)) r) trees_same

  -- ---- functions of one number

  abbrev in_file : File → Tree → Function
  in_file c t = record { file = c; tree = t }

  module _ (f u : Tree) (x : Sits (kinds a.tokens.tokens) in_a f) (y : Sits (kinds b.tokens.tokens) in_b u) (z : Framed in_a f) (w : Framed in_b u)
      (same : carry (place_outside in_b) (without_body u) ≡ carry (place_outside in_a) (without_body f)) where
    pub signature_same : signature_alone (in_file b u) ≡ signature_alone (in_file a f)
    signature_same = alone_same (without_body f) (without_body u) z.order w.order z.clear w.clear same

    header_width : last (without_body u) - first (without_body u) ≡ last (without_body f) - first (without_body f)
    header_width = width (without_body f) (without_body u) z.order w.order z.clear w.clear same

    both_bodies : (c d : Tree) → body_of f ≡ Some c → body_of u ≡ Some d → texts_in b.tokens (Some d) ≡ texts_in a.tokens (Some c) → function_alone (in_file b u) ≡ function_alone (in_file a f)
    both_bodies c d i j eq =
        let m : ℕ = last (without_body f) - first (without_body f) in
        let k : ℕ = last c - first c in
        let lists : texts_from b.tokens (first d) (last d - first d) ≡ texts_from a.tokens (first c) k = same_some (texts_from b.tokens (first d) (last d - first d)) (texts_from a.tokens (first c) k) eq in
        let wide : last d - first d ≡ k = sym (texts_length b.tokens (first d) (last d - first d)) ∙ ap length lists ∙ texts_length a.tokens (first c) k in
        let bodies : texts_from b.tokens (first d) k ≡ texts_from a.tokens (first c) k = ap (texts_from b.tokens (first d)) (sym wide) ∙ lists in
        let fz = z.ends c i in
        let uw = w.ends d j in
        let lf : first (without_body f) < last (without_body f) = tree_order (without_body f) z.order in
        let lu : first (without_body u) < last (without_body u) = tree_order (without_body u) w.order in
        let starts_f : first c ≡ first f + m = omega (arith, fz.0, z.begins, lf) in
        let starts_u : first d ≡ first u + m = omega (arith, uw.0, w.begins, lu, header_width) in
        wholly_same f u x y (m + k) (omega (arith, starts_f, fz.1, fz.2)) (omega (arith, starts_u, uw.1, uw.2, wide))
        (λ n lt. elim (split n m) [
          | inl hi ↦ ap (λ s. word b.tokens (s + n)) (sym w.begins) ∙ header_word (without_body f) (without_body u) z.order w.order z.clear w.clear same n hi ∙ ap (λ s. word a.tokens (s + n)) z.begins
          | inr lo ↦
              ap (word b.tokens) (let r : first u + n ≡ first d + (n - m) = omega (arith, starts_u, lo) in r)
              ∙ texts_apart a.tokens b.tokens (first c) (first d) k bodies (n - m) (omega (arith, lo, lt))
              ∙ ap (word a.tokens) (let r : first c + (n - m) ≡ first f + n = omega (arith, starts_f, lo) in r)
        ])

    by_bodies : (c d : Option Tree) → body_of f ≡ c → body_of u ≡ d → texts_in b.tokens d ≡ texts_in a.tokens c → function_alone (in_file b u) ≡ function_alone (in_file a f)
    by_bodies None None i j eq = ap (alone b.tokens) (sym (w.plain j)) ∙ signature_same ∙ ap (alone a.tokens) (z.plain i)
    by_bodies None (Some d) i j eq = absurd (some_none (texts_from b.tokens (first d) (last d - first d)) eq)
    by_bodies (Some c) None i j eq = absurd (some_none (texts_from a.tokens (first c) (last c - first c)) (sym eq))
    by_bodies (Some c) (Some d) i j eq = both_bodies c d i j eq

    pub function_same : body_texts (in_file b u) ≡ body_texts (in_file a f) → function_alone (in_file b u) ≡ function_alone (in_file a f)
    function_same eq = by_bodies (body_of f) (body_of u) refl refl eq
