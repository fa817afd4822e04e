-- The tokens of functions of one number in packages with equal heads.
use Rattle.std.proofs.Common.{◌≡◌, ◌∙◌, ℕ, zero, suc, ◌+◌, ◌-◌, ◌<◌, false, List, [], ◌∷◌, ◌++◌, map, length, Some, refl, sym, ap, subst, arith}
use Rattle.std.specs.Prelude.{slice_get}
use Rattle.go_tokens.specs.Tokens.{kinds}
use Rattle.go_grammar.specs.Trees.{Tree, node, first, last, parts}
use Rattle.go_rewriting.specs.Places.{carry}
use Rattle.go_rewriting.proofs.Public.{first_carry}
use Rattle.go_tree.specs.Lists.{functions}
use Rattle.go_tree.specs.Meanings.{Meaning, first_numbers, imported_from}
use Rattle.go_tree.specs.Units.{word, is_blank}
use Rattle.go_tree.specs.Uses.{uses, object_of}
use Rattle.go_heads.specs.Functions.{Function, AreRead, KeepsFunctions, Alone, all_functions, body_texts, function_alone}
use Rattle.go_heads.specs.Heads.{File, in_bodies, place_outside, head_of, heads, without_body, outline}
use Rattle.go_heads.proofs.Counting.{place_next}
use Rattle.go_heads.proofs.Files.{first_same, others_same, some_not_none, one_outline}
use Rattle.go_heads.proofs.Functions.{some_none, same_some, framed}
use Rattle.go_heads.proofs.Numbers.{bare_functions}
use Rattle.go_heads.proofs.Words.{texts_length}
use Rattle.go_heads.specs.Objects.{units_of, package_objects}
use Rattle.go_heads.specs.Told.{file_events}
use Rattle.go_heads.proofs.Objects.{Entry, entry, entries_same}
use Rattle.go_heads.proofs.Names.{Stands, AllStand, file_stands}
use Rattle.go_heads.specs.Locals.{HaveNames, AreNamed}
use Rattle.go_heads.proofs.Lookups.{read_at}
use Rattle.go_heads.proofs.Meanings.{Every, imports_told}
use Rattle.go_heads.specs.Tokens.{function_files, KeepsTokens}
use Rattle.go_heads.proofs.Apart.{clear}
use Rattle.go_heads.proofs.TokenNumbers.{behind_entries, IsEarlier, IsThere, one_front}
use Rattle.go_heads.proofs.Tokens as tokens
use Rattle.go_heads.proofs.Tokens.{own_token, object_own, before_earlier, own_entry, own_there, objects_split}

-- ---- two by two

abbrev StandsIn : Function → Type 0
StandsIn f = Stands (kinds f.file.tokens.tokens) (in_bodies (parts f.file.tree)) (last f.file.tree) (file_events f.file) f.tree

-- where a function begins in the head of its file
abbrev begins_at : Function → ℕ
begins_at f = place_outside (in_bodies (parts f.file.tree)) (first f.tree)

-- how a function lies in a package
pub record Lies (fs : List File) (n : ℕ) (f : Function) : Type 0 where
  pub there : slice_get fs n ≡ Some f.file
  pub stands : StandsIn f
  pub named : is_blank (word f.file.tokens (suc (first f.tree))) ≡ false

module _ (old new : List File) where
  -- functions of the number k, which stand in files of one number, at one place of the heads
  pub record Pair (k : ℕ) (f g : Function) (ns ms : List ℕ) : Type 0 where
    pub file : ℕ
    pub before : slice_get ns k ≡ Some file
    pub after : slice_get ms k ≡ Some file
    pub lies : Lies old file f
    pub lies_new : Lies new file g
    pub place : begins_at g ≡ begins_at f

  abbrev Paired : List Function → List Function → List ℕ → List ℕ → Type 0
  Paired fs gs ns ms = (k : ℕ) (f g : Function) → slice_get fs k ≡ Some f → slice_get gs k ≡ Some g → Pair k f g ns ms

  none_paired : (gs : List Function) (ns ms : List ℕ) → Paired [] gs ns ms
  none_paired gs ns ms k f g s t = absurd (some_none f (sym s))

  module _ (n : ℕ) (a b : File) (in_old : slice_get old n ≡ Some a) (in_new : slice_get new n ≡ Some b) where
    abbrev in_a : Tree → Function
    in_a t = record { file = a; tree = t }

    abbrev in_b : Tree → Function
    in_b t = record { file = b; tree = t }

    abbrev bare_a : Tree → Tree
    bare_a t = carry (place_outside (in_bodies (parts a.tree))) (without_body t)

    abbrev bare_b : Tree → Tree
    bare_b t = carry (place_outside (in_bodies (parts b.tree))) (without_body t)

    begins_same : (t u : Tree) → StandsIn (in_a t) → StandsIn (in_b u) → bare_b u ≡ bare_a t → begins_at (in_b u) ≡ begins_at (in_a t)
    begins_same t u x y e =
        let m = place_outside (in_bodies (parts a.tree)) in
        let k = place_outside (in_bodies (parts b.tree)) in
        let z = framed (kinds a.tokens.tokens) (in_bodies (parts a.tree)) t x.function x.sits in
        let w = framed (kinds b.tokens.tokens) (in_bodies (parts b.tree)) u y.function y.sits in
        ap k (sym w.begins) ∙ sym (first_carry k (without_body u)) ∙ ap first e ∙ first_carry m (without_body t) ∙ ap m z.begins

    one_pair : (t u : Tree) (ns ms : List ℕ) → StandsIn (in_a t) → StandsIn (in_b u) → is_blank (word a.tokens (suc (first t))) ≡ false → is_blank (word b.tokens (suc (first u))) ≡ false → bare_b u ≡ bare_a t
        → Pair zero (in_a t) (in_b u) (n ∷ ns) (n ∷ ms)
    one_pair t u ns ms x y p q e = record {
      file = n;
      before = refl;
      after = refl;
      lies = record { there = in_old; stands = x; named = p };
      lies_new = record { there = in_new; stands = y; named = q };
      place = begins_same t u x y e;
    }

    in_files : (ts us : List Tree) → AllStand (kinds a.tokens.tokens) (in_bodies (parts a.tree)) (last a.tree) (file_events a) ts
        → AllStand (kinds b.tokens.tokens) (in_bodies (parts b.tree)) (last b.tree) (file_events b) us → HaveNames a.tokens ts → HaveNames b.tokens us → map bare_b us ≡ map bare_a ts
        → (fs gs : List Function) (ns ms : List ℕ) → Paired fs gs ns ms → Paired (map in_a ts ++ fs) (map in_b us ++ gs) (map (λ (t : Tree). n) ts ++ ns) (map (λ (t : Tree). n) us ++ ms)
    in_files [] [] x y p q e fs gs ns ms go = go
    in_files [] (u ∷ us) x y p q e fs gs ns ms go = absurd (some_not_none (bare_b u) (map bare_b us) e)
    in_files (t ∷ ts) [] x y p q e fs gs ns ms go = absurd (some_not_none (bare_a t) (map bare_a ts) (sym e))
    in_files (t ∷ ts) (u ∷ us) x y p q e fs gs ns ms go =
        at (in_files ts us x.1 y.1 p.1 q.1 (others_same (bare_b u) (bare_a t) (map bare_b us) (map bare_a ts) e) fs gs ns ms go)
      where
        here : Pair zero (in_a t) (in_b u) (n ∷ (map (λ (t : Tree). n) ts ++ ns)) (n ∷ (map (λ (t : Tree). n) us ++ ms))
        here = one_pair t u (map (λ (t : Tree). n) ts ++ ns) (map (λ (t : Tree). n) us ++ ms) x.0 y.0 p.0 q.0 (first_same (bare_b u) (bare_a t) (map bare_b us) (map bare_a ts) e)

        at : Paired (map in_a ts ++ fs) (map in_b us ++ gs) (map (λ (t : Tree). n) ts ++ ns) (map (λ (t : Tree). n) us ++ ms)
            → Paired (in_a t ∷ (map in_a ts ++ fs)) (in_b u ∷ (map in_b us ++ gs)) (n ∷ (map (λ (t : Tree). n) ts ++ ns)) (n ∷ (map (λ (t : Tree). n) us ++ ms))
        at rest zero f g s r =
            subst (λ h. Pair zero h g (n ∷ (map (λ (t : Tree). n) ts ++ ns)) (n ∷ (map (λ (t : Tree). n) us ++ ms))) (same_some (in_a t) f s)
            (subst (λ h. Pair zero (in_a t) h (n ∷ (map (λ (t : Tree). n) ts ++ ns)) (n ∷ (map (λ (t : Tree). n) us ++ ms))) (same_some (in_b u) g r) here)
        at rest (suc k) f g s r = let z = rest k f g s r in record { file = z.file; before = z.before; after = z.after; lies = z.lies; lies_new = z.lies_new; place = z.place }

  outlined_functions : (t : Tree) → functions (parts (outline t)) ≡ map (λ d. carry (place_outside (in_bodies (parts t))) (without_body d)) (functions (parts t))
  outlined_functions (node k i j ps) = bare_functions (place_outside (in_bodies ps)) ps

  pairs : (n : ℕ) (fs gs : List File) → ((k : ℕ) → slice_get old (n + k) ≡ slice_get fs k) → ((k : ℕ) → slice_get new (n + k) ≡ slice_get gs k)
      → AreRead fs → AreRead gs → AreNamed fs → AreNamed gs → heads fs ≡ heads gs → Paired (all_functions fs) (all_functions gs) (function_files n fs) (function_files n gs)
  pairs n [] gs there there_new h k p q e = none_paired (all_functions gs) [] (function_files n gs)
  pairs n (a ∷ xs) [] there there_new h k p q e = absurd (some_not_none (head_of a) (heads xs) e)
  pairs n (a ∷ xs) (b ∷ bs) there there_new h k p q e =
      let z : n ≡ n + 0 = omega arith in
      let next : (i : ℕ) → suc n + i ≡ n + suc i = λ i. omega arith in
      let same : head_of a ≡ head_of b = first_same (head_of a) (head_of b) (heads xs) (heads bs) e in
      in_files n a b (ap (slice_get old) z ∙ there 0) (ap (slice_get new) z ∙ there_new 0) (functions (parts a.tree)) (functions (parts b.tree))
      (file_stands (kinds a.tokens.tokens) a.tree h.0.tree) (file_stands (kinds b.tokens.tokens) b.tree k.0.tree) p.0 q.0
      (sym (outlined_functions b.tree) ∙ ap (λ t. functions (parts t)) (one_outline a b h.0 k.0 same) ∙ outlined_functions a.tree)
      (all_functions xs) (all_functions bs) (function_files (suc n) xs) (function_files (suc n) bs)
      (pairs (suc n) xs bs (λ i. ap (slice_get old) (next i) ∙ there (suc i)) (λ i. ap (slice_get new) (next i) ∙ there_new (suc i)) h.1 k.1 p.1 q.1 (others_same (head_of a) (head_of b) (heads xs) (heads bs) e))

-- ---- their tokens

module _ (old new : List File) (h : AreRead old) (i : AreRead new) (e : heads old ≡ heads new) (n : ℕ) (f g : Function) (x : Lies old n f) (y : Lies new n g)
    (place : begins_at g ≡ begins_at f) (same : function_alone g ≡ function_alone f) where
  abbrev objects_f : List Entry
  objects_f = tokens.objects_before old h n f.file x.there f.tree x.stands x.named

  abbrev objects_g : List Entry
  objects_g = tokens.objects_before new i n g.file y.there g.tree y.stands y.named

  abbrev place_f : ℕ
  place_f = tokens.name_place old h n f.file x.there f.tree x.stands x.named

  name_places : tokens.name_place new i n g.file y.there g.tree y.stands y.named ≡ place_f
  name_places =
      place_next (in_bodies (parts g.file.tree)) (first g.tree) (clear n g.file (read_at new i n g.file y.there) g.tree y.stands)
      ∙ ap suc place
      ∙ sym (place_next (in_bodies (parts f.file.tree)) (first f.tree) (clear n f.file (read_at old h n f.file x.there) f.tree x.stands))

  before_same : objects_g ≡ objects_f
  before_same =
      let split_f = objects_split old h n f.file x.there f.tree x.stands x.named in
      let split_g = objects_split new i n g.file y.there g.tree y.stands y.named in
      one_front n place_f objects_g objects_f (own_entry new i n g.file y.there g.tree y.stands y.named) (own_entry old h n f.file x.there f.tree x.stands x.named) split_g.behind split_f.behind
      (subst (λ p. Every (IsEarlier n p) objects_g) name_places (before_earlier new i n g.file y.there g.tree y.stands y.named))
      (before_earlier old h n f.file x.there f.tree x.stands x.named)
      (subst (λ p. IsThere n p (own_entry new i n g.file y.there g.tree y.stands y.named)) name_places (own_there new i n g.file y.there g.tree y.stands y.named))
      (own_there old h n f.file x.there f.tree x.stands x.named)
      (sym split_g.whole ∙ entries_same old new h i e ∙ split_f.whole)

  count_same : last g.tree - first g.tree ≡ last f.tree - first f.tree
  count_same =
      sym (texts_length g.file.tokens (first g.tree) (last g.tree - first g.tree)) ∙ ap (λ (z : Alone). length z.texts) same ∙ texts_length f.file.tokens (first f.tree) (last f.tree - first f.tree)

  pub objects_same : (t : ℕ) → t < last f.tree - first f.tree → object_of (uses (units_of new)) n (first g.tree + t) ≡ object_of (uses (units_of old)) n (first f.tree + t)
  objects_same t lt =
      let imports : List Meaning = imported_from 0 (units_of new) in
      let objects : List Entry = map (entry new) (package_objects new) in
      let own = function_alone f in
      object_own new i n g.file y.there g.tree y.stands y.named t (omega (arith, lt, count_same))
      ∙ ap (λ (z : Alone). own_token n (behind_entries first_numbers objects_g) z imports objects t) same
      ∙ ap (λ xs. own_token n (behind_entries first_numbers xs) own imports objects t) before_same
      ∙ ap (λ ms. own_token n (behind_entries first_numbers objects_f) own ms objects t) (imports_told 0 old new h i e)
      ∙ ap (λ xs. own_token n (behind_entries first_numbers objects_f) own (imported_from 0 (units_of old)) xs t) (entries_same old new h i e)
      ∙ sym (object_own old h n f.file x.there f.tree x.stands x.named t lt)

pub tokens_same : (old new : List File) → AreRead old → AreRead new → AreNamed old → AreNamed new → heads old ≡ heads new → KeepsFunctions old new → (k : ℕ) (f g : Function)
    → slice_get (all_functions old) k ≡ Some f → slice_get (all_functions new) k ≡ Some g → body_texts g ≡ body_texts f → KeepsTokens old new k f g
tokens_same old new h i p q e keeps k f g s t bodies =
    let z : (j : ℕ) → 0 + j ≡ j = λ j. omega arith in
    let pair = pairs old new 0 old new (λ j. ap (slice_get old) (z j)) (λ j. ap (slice_get new) (z j)) h i p q e k f g s t in
    let same : function_alone g ≡ function_alone f = keeps.bodies k f g s t bodies in
    record {
      file = pair.file;
      before = pair.before;
      after = pair.after;
      count = count_same old new h i e pair.file f g pair.lies pair.lies_new pair.place same;
      objects = objects_same old new h i e pair.file f g pair.lies pair.lies_new pair.place same;
    }
