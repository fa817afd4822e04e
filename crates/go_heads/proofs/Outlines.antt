-- The tokens outside the bodies of a file have the tree of the file without the bodies.
use Rattle.std.proofs.Common.{◌≡◌, ℕ, ◌+◌, ◌-◌, ◌<◌, ◌≤◌, max, inl, inr, Bool, true, false, List, [], ◌∷◌, Some, None, refl, sym, ap, ◌∙◌, subst, arith}
use Rattle.std.proofs.lemmas.Bool.{true≢false}
use Rattle.std.specs.Prelude.{slice_get, if◌then◌else◌}
use Rattle.go_tokens.specs.declared.token.TokenKind.{TokenKind}
use Rattle.go_tokens.specs.declared.token.TokenKind.TheVariants as token
use Rattle.go_grammar.specs.declared.kind.Kind.{Kind}
use Rattle.go_grammar.specs.declared.kind.Kind.TheVariants as kind
use Rattle.go_grammar.specs.declared.kind.Category.{Category}
use Rattle.go_grammar.specs.declared.kind.Category.TheVariants as category
use Rattle.go_grammar.specs.Categories.{within, place_of}
use Rattle.go_grammar.specs.Rules.{Items, Each, Many}
use Rattle.go_grammar.specs.Trees.{Tree, node, Trees, none, more, skip, kind_of, first, last, parts, depth, depths, weight}
use Rattle.go_grammar.specs.Grammar.{rule, result_words, IsAt, Words, Derives, Spells, Goes, IsFile}
use Rattle.go_grammar.specs.Words.{is_word, is_among}
use Rattle.go_grammar.proofs.Public.{words_order}
use Rattle.go_rewriting.specs.Lists.{InOrder, Ordered}
use Rattle.go_rewriting.specs.Places.{carry, carries}
use Rattle.go_rewriting.specs.Replacing.{Edge}
use Rattle.go_rewriting.proofs.Public.{Stay, soft_same, words_kept, derives_kept, first_carry, last_carry, part_mild, tree_order, derives_ordered, goes_ordered, spells_ordered}
use Rattle.go_tree.specs.Lists.{is_function}
use Rattle.go_heads.specs.Heads.{body_behind, body_of, is_within, in_bodies, outside, place_outside, without_body, without_bodies, outline}
use Rattle.go_heads.proofs.Bodies.{before, inside, body_past, row_before, in_first, in_others}
use Rattle.go_heads.proofs.Counting.{place_next, places_same, stands_outside, length_outside}

abbrev pub lines : Items
lines = Each category.Declaration (token.Semicolon ∷ []) []

-- ---- kinds

file_kind : (k : Kind) → within category.File k ≡ true → k ≡ kind.File
file_kind kind.File h = refl
file_kind _ h = cc

imports_kind : (k : Kind) → within category.Imports k ≡ true → k ≡ kind.Imports
imports_kind kind.Imports h = refl
imports_kind _ h = cc

pub function_kind : (k : Kind) → is_function k ≡ true → k ≡ kind.FunctionDeclaration
function_kind kind.FunctionDeclaration h = refl
function_kind _ h = cc

-- what is no function stays
pub plain_same : (d : Tree) → is_function (kind_of d) ≡ false → without_body d ≡ d
plain_same (node k i j none) e = refl
plain_same (node k i j (skip ps)) e = refl
plain_same (node k i j (more s none)) e = refl
plain_same (node k i j (more s (skip ps))) e = refl
plain_same (node k i j (more s (more b ps))) e = ap (λ c. if c then node k i (first b) (more s (skip ps)) else node k i j (more s (more b ps))) e

pub plain_none : (d : Tree) → is_function (kind_of d) ≡ false → body_of d ≡ None
plain_none (node k i j ps) e = ap (λ c. if c then body_behind ps else None) e

imports_plain : (ts : List TokenKind) (p : Tree) → Derives ts category.Imports p → is_function (kind_of p) ≡ false
imports_plain ts (node k i j ps) h = ap is_function (imports_kind k h.0)

-- ---- one file

module _ (ts : List TokenKind) (p : ℕ → Bool) where
  abbrev us : List TokenKind
  us = outside p 0 ts

  abbrev m : ℕ → ℕ
  m = place_outside p

  -- none of these tokens is in a body
  abbrev Clear : ℕ → ℕ → Type 0
  Clear i j = (n : ℕ) → i ≤ n → n < j → p n ≡ false

  stay : (i j : ℕ) → Clear i j → Stay ts us m i j
  stay i j c = λ n lo hi. record { same = stands_outside p ts n (c n lo hi); next = place_next p n (c n lo hi) }

  whole : (c : Category) (d : Tree) → Derives ts c d → Clear (first d) (last d) → p (last d) ≡ false → Derives us c (carry m d)
  whole c d h a e = derives_kept ts us m d c (stay (first d) (last d) a) (soft_same ts us m (last d) (stands_outside p ts (last d) e)) h

  -- A declaration whose tokens are in a body exactly where they are in its own, with a semicolon behind it.
  pub record Sits (d : Tree) : Type 0 where
    pub derives : Derives ts category.Declaration d
    pub own : (n : ℕ) → first d ≤ n → n < last d → p n ≡ is_within (body_of d) n
    pub closed : IsAt ts (last d) token.Semicolon
    pub clear : p (last d) ≡ false

  -- a place before which a semicolon now stands
  mild : (n j : ℕ) → m n ≡ m j → IsAt ts j token.Semicolon → p j ≡ false → Edge ts us n (m n)
  mild n j e at c =
      let here : slice_get us (m n) ≡ Some token.Semicolon = ap (slice_get us) e ∙ stands_outside p ts j c ∙ at in
      let no_brace : is_word (slice_get us (m n)) token.LeftBrace ≡ false = ap (λ w. is_word w token.LeftBrace) here in
      let no_result : is_among (slice_get us (m n)) result_words ≡ false = ap (λ w. is_among w result_words) here in
      record {
        brace = λ h. absurd (true≢false (sym h ∙ no_brace));
        result = λ k next closed h. absurd (true≢false (sym h ∙ no_result));
      }

  -- a function with a body, without it
  function_stands : (i j : ℕ) (s b : Tree) (ps : Trees) → Sits (node kind.FunctionDeclaration i j (more s (more b ps)))
      → Derives us category.Declaration (carry m (node kind.FunctionDeclaration i (first b) (more s (skip ps)))) × (m (first b) ≡ m j)
  function_stands i j s b (more q qs) h = absurd h.derives.1.2.2
  function_stands i j s b (skip qs) h = absurd h.derives.1.2.2
  function_stands i j s b none h =
      let d = h.derives in
      let order = derives_ordered ts (node kind.FunctionDeclaration i j (more s (more b none))) category.Declaration d in
      let in_s : first s < last s = tree_order s order.1.1 in
      let in_b : first b < last b = tree_order b order.1.2.1 in
      let from : i ≤ first s = order.1.0 in
      let to : last s ≡ first b = d.1.2.0 in
      let end : last b ≡ j = d.1.2.2 in
      let clear : Clear i (last s) = λ n lo hi. h.own n lo (omega (arith, hi, to, in_b, end)) ∙ before b n (omega (arith, hi, to)) in
      let width : first b + (last b - first b) ≡ j = omega (arith, in_b, end) in
      let same : m (first b) ≡ m j =
      sym (places_same p (first b) (last b - first b) (λ n lo hi. h.own n (omega (arith, lo, to, in_s, from)) (omega (arith, hi, width)) ∙ inside b n lo (omega (arith, hi, in_b)))) ∙ ap m width in
      let edge : Edge ts us (last s) (m (last s)) = mild (last s) j (ap m to ∙ same) h.closed h.clear in
      let signature : Derives us category.Signature (carry m s) =
      part_mild ts us m s category.Signature (first s) (last s) (stay (first s) (last s) (λ n lo hi. clear n (omega (arith, lo, from)) hi)) edge (omega arith) (omega arith) refl d.1.1 in
      let words = words_kept ts us m (token.Func ∷ token.Identifier ∷ []) i (first s) (stay i (first s) (λ n lo hi. clear n lo (omega (arith, hi, in_s)))) d.1.0 in
      ((d.0, (subst (λ n. Words us (m i) (token.Func ∷ token.Identifier ∷ []) n) (sym (first_carry m s)) words, signature, (m (last s), last_carry m s, ap m to)), refl, refl), same)

  -- What becomes of a declaration, and where it ends.
  pub record Stands (d : Tree) : Type 0 where
    pub derives : Derives us category.Declaration (carry m (without_body d))
    pub begins : first (carry m (without_body d)) ≡ m (first d)
    pub ends : last (carry m (without_body d)) ≡ m (last d)

  plain_stands : (d : Tree) → without_body d ≡ d → body_of d ≡ None → Sits d → Stands d
  plain_stands d e f h = record {
    derives = subst (λ t. Derives us category.Declaration (carry m t)) (sym e) (whole category.Declaration d h.derives (λ n lo hi. h.own n lo hi ∙ ap (λ o. is_within o n) f) h.clear);
    begins = ap (λ t. first (carry m t)) e ∙ first_carry m d;
    ends = ap (λ t. last (carry m t)) e ∙ last_carry m d;
  }

  declared_stands : (i j : ℕ) (ps : Trees) → Sits (node kind.FunctionDeclaration i j ps) → Stands (node kind.FunctionDeclaration i j ps)
  declared_stands i j none h = absurd h.derives.1
  declared_stands i j (skip ps) h = absurd h.derives.1
  declared_stands i j (more s none) h = absurd h.derives.1.2
  declared_stands i j (more s (skip ps)) h = plain_stands (node kind.FunctionDeclaration i j (more s (skip ps))) refl refl h
  declared_stands i j (more s (more b ps)) h = let f = function_stands i j s b ps h in record { derives = f.0; begins = refl; ends = f.1 }

  function_or : (k : Kind) (i j : ℕ) (ps : Trees) (c : Bool) → is_function k ≡ c → Sits (node k i j ps) → Stands (node k i j ps)
  function_or k i j ps true e h =
      let f : k ≡ kind.FunctionDeclaration = function_kind k e in
      subst (λ x. Stands (node x i j ps)) (sym f) (declared_stands i j ps (subst (λ x. Sits (node x i j ps)) f h))
  function_or k i j ps false e h = plain_stands (node k i j ps) (plain_same (node k i j ps) e) (plain_none (node k i j ps) e) h

  stands : (d : Tree) → Sits d → Stands d
  stands (node k i j ps) h = function_or k i j ps (is_function k) refl h

  -- from here on a token is in a body exactly where it is in one of these declarations
  abbrev Clean : ℕ → Trees → Type 0
  Clean i ps = (n : ℕ) → i ≤ n → p n ≡ in_bodies ps n

  abbrev pub AllSit : Trees → Type 0
  AllSit none = Unit {0}
  AllSit (more d ds) = Sits d × AllSit ds
  AllSit (skip ds) = AllSit ds

  closed_at : (ds : Trees) (i j : ℕ) → Goes ts lines i ds j → IsAt ts i token.Semicolon
  closed_at none i j (inl h) = absurd h
  closed_at none i j (inr h) = h.1.0
  closed_at (more d ds) i j h = h.1.0
  closed_at (skip ds) i j h = absurd h

  -- the first of some declarations, and what is said behind it
  first_sits : (d : Tree) (ds : Trees) (i j : ℕ) → Clean i (more d ds) → i ≤ first d → Derives ts category.Declaration d → Goes ts lines (last d) ds j → Sits d × Clean (last d) ds
  first_sits d ds i j c le h g =
      let order : InOrder d = derives_ordered ts d category.Declaration h in
      let others : Ordered (last d) ds j = goes_ordered ts ds lines (last d) j g in
      let in_d : first d < last d = tree_order d order in (
        record {
          derives = h;
          own = λ n lo hi. c n (omega (arith, lo, le)) ∙ in_first d ds j n others (omega (arith, hi));
          closed = closed_at ds (last d) j g;
          clear = c (last d) (omega (arith, in_d, le)) ∙ in_first d ds j (last d) others (omega arith) ∙ body_past d (last d) order (omega arith);
        },
        λ n lo. c n (omega (arith, lo, in_d, le)) ∙ in_others d ds n order lo,
      )

  goes_sit : (ps : Trees) (i j : ℕ) → Clean i ps → Goes ts lines i ps j → AllSit ps
  goes_sit none i j c h = tt
  goes_sit (more d ds) i j c h = let f = first_sits d ds i j c (omega (arith, h.1.1, h.2)) h.3 h.4 in (f.0, goes_sit ds (last d) j f.1 h.4)
  goes_sit (skip ds) i j c h = absurd h

  goes_stand : (ps : Trees) (i j : ℕ) → Clean i ps → Goes ts lines i ps j → Goes us lines (m i) (carries m (without_bodies ps)) (m j)
  goes_stand none i j c (inl h) = absurd h
  goes_stand none i j c (inr h) = inr (m h.0, words_kept ts us m (token.Semicolon ∷ []) i h.0 (stay i h.0 (λ n lo hi. c n lo)) h.1, ap m h.2)
  goes_stand (more d ds) i j c h =
      let f = first_sits d ds i j c (omega (arith, h.1.1, h.2)) h.3 h.4 in
      let s = stands d f.0 in
      let order : Ordered i (more d ds) j = goes_ordered ts (more d ds) lines i j h in
      let front : Clear i h.0 = λ n lo hi. c n lo ∙ row_before (more d ds) (first d) j n (omega arith, order.1, order.2) (omega (arith, hi, h.2)) in
      (m h.0, words_kept ts us m (token.Semicolon ∷ []) i h.0 (stay i h.0 front) h.1, ap m h.2 ∙ sym s.begins, s.derives, subst (λ n. Goes us lines n (carries m (without_bodies ds)) (m j)) (sym s.ends) (goes_stand ds (last d) j f.1 h.4))
  goes_stand (skip ds) i j c h = absurd h

  -- the declarations behind the imports
  rows_sit : (ps : Trees) (i j : ℕ) → Clean i ps → Spells ts (Many [] lines) i ps j → AllSit ps
  rows_sit none i j c h = tt
  rows_sit (more d ds) i j c h = let f = first_sits d ds i j c (omega (arith, h.1, h.2)) h.3 h.4 in (f.0, goes_sit ds (last d) j f.1 h.4)
  rows_sit (skip ds) i j c h = absurd h

  rows_stand : (ps : Trees) (i j : ℕ) → Clean i ps → Spells ts (Many [] lines) i ps j → Spells us (Many [] lines) (m i) (carries m (without_bodies ps)) (m j)
  rows_stand none i j c h = (m h.0, ap m h.1, ap m h.2)
  rows_stand (more d ds) i j c h =
      let f = first_sits d ds i j c (omega (arith, h.1, h.2)) h.3 h.4 in
      let s = stands d f.0 in
      (m h.0, ap m h.1, ap m h.2 ∙ sym s.begins, s.derives, subst (λ n. Goes us lines n (carries m (without_bodies ds)) (m j)) (sym s.ends) (goes_stand ds (last d) j f.1 h.4))
  rows_stand (skip ds) i j c h = absurd h

  abbrev head_words : List TokenKind
  head_words = token.Package ∷ token.Identifier ∷ token.Semicolon ∷ []

  -- the imports, and what is said behind them
  imports_clean : (d : Tree) (ds : Trees) (i j : ℕ) → Clean i (more d ds) → i ≤ first d → Derives ts category.Imports d → Spells ts (Many [] lines) (last d) ds j
      → Clear i (last d) × (p (last d) ≡ false) × Clean (last d) ds
  imports_clean d ds i j c le h g =
      let order : InOrder d = derives_ordered ts d category.Imports h in
      let others : Ordered (last d) ds j = spells_ordered ts ds (Many [] lines) (last d) j g in
      let in_d : first d < last d = tree_order d order in
      let nothing : body_of d ≡ None = plain_none d (imports_plain ts d h) in (
        λ n lo hi. c n lo ∙ in_first d ds j n others (omega (arith, hi)) ∙ ap (λ o. is_within o n) nothing,
        c (last d) (omega (arith, in_d, le)) ∙ in_first d ds j (last d) others (omega arith) ∙ ap (λ o. is_within o (last d)) nothing,
        λ n lo. c n (omega (arith, lo, in_d, le)) ∙ in_others d ds n order lo,
      )

  -- the declarations behind the imports, which are no function
  abbrev pub OthersSit : Trees → Type 0
  OthersSit none = Unit {0}
  OthersSit (more d ds) = (is_function (kind_of d) ≡ false) × InOrder d × Clear (first d) (last d) × AllSit ds
  OthersSit (skip ds) = AllSit ds

  file_sits : (ps : Trees) (i j : ℕ) → Clean i ps → Spells ts (rule (place_of category.File) kind.File) i ps j → OthersSit ps
  file_sits none i j c h = absurd h
  file_sits (more d ds) i j c h =
      let le : i ≤ first d = words_order ts head_words i (first d) h.0 in
      let f = imports_clean d ds i j c le h.1 h.2 in
      (imports_plain ts d h.1, derives_ordered ts d category.Imports h.1, λ n lo hi. f.0 n (omega (arith, lo, le)) hi, rows_sit ds (last d) j f.2 h.2)
  file_sits (skip ds) i j c h = rows_sit ds h.0 j (λ n lo. c n (omega (arith, lo, words_order ts head_words i h.0 h.1))) h.2

  file_stands : (ps : Trees) (i j : ℕ) → Clean i ps → Spells ts (rule (place_of category.File) kind.File) i ps j
      → Spells us (rule (place_of category.File) kind.File) (m i) (carries m (without_bodies ps)) (m j)
  file_stands none i j c h = absurd h
  file_stands (more d ds) i j c h =
      let le : i ≤ first d = words_order ts head_words i (first d) h.0 in
      let in_d : first d < last d = tree_order d (derives_ordered ts d category.Imports h.1) in
      let f = imports_clean d ds i j c le h.1 h.2 in
      let same : without_body d ≡ d = plain_same d (imports_plain ts d h.1) in
      let words : Words us (m i) head_words (m (first d)) = words_kept ts us m head_words i (first d) (stay i (first d) (λ n lo hi. f.0 n lo (omega (arith, hi, in_d)))) h.0 in
      let part : Derives us category.Imports (carry m d) = whole category.Imports d h.1 (λ n lo hi. f.0 n (omega (arith, lo, le)) hi) f.1 in
      let rest : Spells us (Many [] lines) (m (last d)) (carries m (without_bodies ds)) (m j) = rows_stand ds (last d) j f.2 h.2 in
      subst (λ t. Spells us (rule (place_of category.File) kind.File) (m i) (more (carry m t) (carries m (without_bodies ds))) (m j)) (sym same) (
        subst (λ n. Words us (m i) head_words n) (sym (first_carry m d)) words,
        part,
        subst (λ n. Spells us (Many [] lines) n (carries m (without_bodies ds)) (m j)) (sym (last_carry m d)) rest,
      )
  file_stands (skip ds) i j c h =
      let le : i ≤ h.0 = words_order ts head_words i h.0 h.1 in
      let others : Ordered h.0 ds j = spells_ordered ts ds (Many [] lines) h.0 j h.2 in
      (m h.0, words_kept ts us m head_words i h.0 (stay i h.0 (λ n lo hi. c n lo ∙ row_before ds h.0 j n others (omega (arith, hi)))) h.1, rows_stand ds h.0 j (λ n lo. c n (omega (arith, lo, le))) h.2)

-- ---- levels

module _ (m : ℕ → ℕ) where
  mutual
    depth_carry : (t : Tree) → depth (carry m t) ≡ depth t
    depth_carry (node k i j ps) = ap (λ n. weight k + n) (depths_carry ps)

    depths_carry : (ps : Trees) → depths (carries m ps) ≡ depths ps
    depths_carry none = refl
    depths_carry (more t ts) = ap (λ n. max n (depths (carries m ts))) (depth_carry t) ∙ ap (λ n. max (depth t) n) (depths_carry ts)
    depths_carry (skip ts) = depths_carry ts

depth_or : (c : Bool) (t u : Tree) → depth t ≤ depth u → depth (if c then t else u) ≤ depth u
depth_or true t u h = h
depth_or false t u h = omega arith

without_depth : (d : Tree) → depth (without_body d) ≤ depth d
without_depth (node k i j none) = omega arith
without_depth (node k i j (skip ps)) = omega arith
without_depth (node k i j (more s none)) = omega arith
without_depth (node k i j (more s (skip ps))) = omega arith
without_depth (node k i j (more s (more b ps))) = depth_or (is_function k) (node k i (first b) (more s (skip ps))) (node k i j (more s (more b ps))) (omega arith)

without_depths : (ps : Trees) → depths (without_bodies ps) ≤ depths ps
without_depths none = omega arith
without_depths (more d ds) = omega (arith, without_depth d, without_depths ds)
without_depths (skip ds) = without_depths ds

-- ---- the tree of a file

module _ (ts : List TokenKind) where
  outlined : (i j : ℕ) (ps : Trees) → IsFile ts (node kind.File i j ps) → IsFile (outside (in_bodies ps) 0 ts) (outline (node kind.File i j ps))
  outlined i j ps h = record {
    derives = (h.derives.0, file_stands ts (in_bodies ps) ps i j (λ n lo. refl) h.derives.1, refl, refl);
    begins = ap (place_outside (in_bodies ps)) h.begins;
    ends = ap (place_outside (in_bodies ps)) h.ends ∙ sym (length_outside (in_bodies ps) ts);
    shallow = omega (arith, depth_carry (place_outside (in_bodies ps)) (node kind.File i j (without_bodies ps)), without_depths ps, h.shallow);
  }

  pub file_outlined : (t : Tree) → IsFile ts t → IsFile (outside (in_bodies (parts t)) 0 ts) (outline t)
  file_outlined (node k i j ps) h =
      let e : k ≡ kind.File = file_kind k h.derives.0 in
      subst (λ x. IsFile (outside (in_bodies ps) 0 ts) (outline (node x i j ps))) (sym e) (outlined i j ps (subst (λ x. IsFile ts (node x i j ps)) e h))

  -- the declarations of a file
  pub file_sat : (t : Tree) → IsFile ts t → OthersSit ts (in_bodies (parts t)) (parts t)
  file_sat (node k i j ps) h =
      let e : k ≡ kind.File = file_kind k h.derives.0 in
      file_sits ts (in_bodies ps) ps i j (λ n lo. refl) (subst (λ x. Spells ts (rule (place_of category.File) x) i ps j) e h.derives.1)
