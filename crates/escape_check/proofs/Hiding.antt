-- Names in a type that are hidden in a file.
use Rattle.std.proofs.Common.{◌≡◌, ◌∙◌, ℕ, ◌+◌, ◌<◌, ◌≤◌, ◌^◌, ◌++◌, if◌then◌else◌, None, nat_le, arith, Bool, true, false, cond, nat_eq, List, [], ◌∷◌, length, map, drop, get_or, Option, Some, refl, sym, ap, subst}
use Rattle.std.proofs.lemmas.Bool.{eqb-true, false≢true}
use Rattle.std.proofs.lemmas.Bool.Decides.{nat_tests}
use Rattle.std.proofs.lemmas.List.{drop_all, drop_more}
use Rattle.std.proofs.lemmas.List.Folds.{list_any-append}
use Rattle.std.specs.Prelude.{◌&&◌, ◌||◌, not, IfSome}
use Rattle.std.specs.Borrow.{Bor}
use Rattle.std.specs.Cmp.Lexicographic.{pointwise}
use Rattle.std.specs.HashMap.{HashMap, get}
use Rattle.std.specs.HashSet.{HashSet}
use Rattle.std.specs.HashSet as set
use Rattle.std.specs.List.{AllByRecursion, list_any}
use Rattle.go_scopes.specs.Resolve.{units_of}
use Rattle.go_tokens.specs.Spellings.{same_text}
use Rattle.go_tokens.proofs.Public.{both, same_text-true}
use Rattle.go_tree.specs.Meanings.{Meaning, meanings}
use Rattle.go_tree.specs.Objects.{object_by}
use Rattle.go_tree.specs.Units.{is_blank}
use Rattle.go_scopes_named.specs.Changes.{AreAscending, AreChanges}
use Rattle.go_typed.specs.Packages.{PackageView}
use Rattle.param_choose.specs.Members.{Member}
use Rattle.escape_check.specs.declared.hidden_names.HiddenNames.{HiddenNames}
use Rattle.escape_check.specs.declared.type_names.TypeName.{TypeName as Found}
use Rattle.escape_check.specs.Collecting.{names_of_type}
use Rattle.escape_check.specs.Places.{file_of, local_text, sources_in}
use Rattle.escape_check.specs.declared.stretches.Stretch.{Stretch}
use Rattle.escape_check.specs.Stretches.{AreHidden, KnowsHidden, covers, is_hidden_at, means_other, same_pair, stretches_from}
use Rattle.escape_check.specs.Texts.{AreTexts, same_bytes}
use Rattle.escape_check.specs.Types.{TypeName, is_hidden, is_spelled, means_type}
use Rattle.escape_check.specs.Written.{type_name_view}
use Rattle.escape_check.proofs.AtSites.{any_of, one_text, or_next}
use Rattle.escape_check.proofs.Stretching.{ChangesAt, between_told}

-- ---- tests of lists

or-true : (a b : Bool) → b ≡ true → (a || b) ≡ true
or-true true b h = refl
or-true false b h = h

or-four : (a b c d : Bool) → ((a || b) || (c || d)) ≡ ((a || c) || (b || d))
or-four true b c d = refl
or-four false true true d = refl
or-four false true false d = refl
or-four false false c d = refl

any-or : {A : Type 0} (f g : A → Bool) (xs : List A) → list_any (λ x. f x || g x) xs ≡ (list_any f xs || list_any g xs)
any-or f g [] = refl
any-or f g (x ∷ xs) = ap (λ b. (f x || g x) || b) (any-or f g xs) ∙ or-four (f x) (g x) (list_any f xs) (list_any g xs)

any-alike : {A : Type 0} (f g : A → Bool) → ((x : A) → f x ≡ g x) → (xs : List A) → list_any f xs ≡ list_any g xs
any-alike f g e [] = refl
any-alike f g e (x ∷ xs) = ap (λ b. b || list_any f xs) (e x) ∙ ap (λ b. g x || b) (any-alike f g e xs)

text-own : (w : List ℕ) → same_text w w ≡ true
text-own [] = refl
text-own (x ∷ w) = let rest = text-own w in let first : nat_eq x x ≡ true = eqb-own x in ap (λ b. b && same_text w w) first ∙ rest
  where
    eqb-own : (x : ℕ) → nat_eq x x ≡ true
    eqb-own x = grind arith

-- ---- names that texts spell

module _ (ws : List (List ℕ)) where
  abbrev pub spelled : TypeName → Bool
  spelled x = list_any (λ v. same_text v x.name) ws

  both-spell : (q : List ℕ) (xs : List TypeName) → list_any (λ (x : TypeName). same_text x.name q) xs ≡ true → list_any (λ v. same_text v q) ws ≡ true → list_any spelled xs ≡ true
  both-spell q [] e f = absurd (false≢true e)
  both-spell q (x ∷ xs) e f = by (same_text x.name q) refl e (λ h. both-spell q xs h f)
    where
      by : (b : Bool) → same_text x.name q ≡ b → (b || list_any (λ (x : TypeName). same_text x.name q) xs) ≡ true → (list_any (λ (x : TypeName). same_text x.name q) xs ≡ true → list_any spelled xs ≡ true) → list_any spelled (x ∷ xs) ≡ true
      by true g h rest = ap (λ b. b || list_any spelled xs) (ap (λ u. list_any (λ v. same_text v u) ws) (same_text-true x.name q g) ∙ f)
      by false g h rest = or-true (spelled x) (list_any spelled xs) (rest h)

  abbrev Met : List TypeName → Type 0
  Met xs = (q : List ℕ) × (list_any (λ (x : TypeName). same_text x.name q) xs ≡ true) × (list_any (λ v. same_text v q) ws ≡ true)

  met : (xs : List TypeName) → list_any spelled xs ≡ true → Met xs
  met [] e = absurd (false≢true e)
  met (x ∷ xs) e = by (spelled x) refl e (λ h. met xs h)
    where
      by : (b : Bool) → spelled x ≡ b → (b || list_any spelled xs) ≡ true → (list_any spelled xs ≡ true → Met xs) → Met (x ∷ xs)
      by true g h rest = (x.name, ap (λ b. b || list_any (λ (y : TypeName). same_text y.name x.name) xs) (text-own x.name), g)
      by false g h rest = let m = rest h in (m.0, or-true (same_text x.name m.0) (list_any (λ (y : TypeName). same_text y.name m.0) xs) m.1, m.2)

  module _ {S : Type 0} (words texts : HashSet (Bor (List ℕ)) S) (names : List TypeName)
      (known : (w : Bor (List ℕ)) → set.contains same_bytes words w ≡ list_any (λ (x : TypeName). same_text x.name w.now) names) (told : AreTexts texts ws) where
    disjoint : list_any spelled names ≡ false → set.IsDisjoint same_bytes words texts
    disjoint none q there = by (set.contains same_bytes texts q) refl
      where
        by : (b : Bool) → set.contains same_bytes texts q ≡ b → b ≡ false
        by true e = absurd (false≢true (sym none ∙ both-spell q.now names (sym (known q) ∙ there) (sym (told q) ∙ e)))
        by false e = refl

    shared : list_any spelled names ≡ true → set.IsDisjoint same_bytes words texts → ⊥
    shared some apart =
        let q = met names some in
        let w : Bor (List ℕ) = record { ref_ptr = (0, 0); now = q.0 } in
        false≢true (sym (apart w (known w ∙ q.1)) ∙ told w ∙ q.2)

    pub spelled_told : (b : Bool) → (b ≡ true → set.IsDisjoint same_bytes words texts) → (set.IsDisjoint same_bytes words texts → b ≡ true) → not b ≡ list_any spelled names
    spelled_told b to from = by b (list_any spelled names) refl refl
      where
        by : (c s : Bool) → b ≡ c → list_any spelled names ≡ s → not c ≡ s
        by true true e f = absurd (shared f (to e))
        by true false e f = refl
        by false true e f = refl
        by false false e f = absurd (false≢true (sym e ∙ from (disjoint f)))

pub hidden_told_at : (p : PackageView) (file token : ℕ) (ws : List (List ℕ)) (names : List TypeName) →
    (list_any (spelled ws) names || list_any (means_other p file token) names) ≡ list_any (is_hidden_at p file token ws) names
hidden_told_at p file token ws names = sym (any-or (spelled ws) (means_other p file token) names)

-- those at the start of a member
pub hidden_there : (p : PackageView) (m : Member ℕ) (locals : List ℕ) (file token : ℕ) (names : List TypeName) → file ≡ file_of (sources_in p) m → token ≡ m.first + m.from →
    list_any (is_hidden_at p file token (map (local_text (sources_in p) m) locals)) names ≡ list_any (is_hidden (sources_in p) m locals) names
hidden_there p m locals file token names e f =
    let s = sources_in p in
    any-alike (is_hidden_at p file token (map (local_text s m) locals)) (is_hidden s m locals)
    (λ x. ap (λ b. b || means_other p file token x) (any_of s m locals x.name)
    ∙ ap (λ k. is_spelled s m locals x.name || means_other p k token x) e
    ∙ ap (λ k. is_spelled s m locals x.name || means_other p (file_of s m) k x) f) names

-- ---- the names of a type

pub hidden_alike : (p : PackageView) (file : ℕ) (xs ys : List TypeName) (h : HiddenNames) → ((test : TypeName → Bool) → list_any test xs ≡ list_any test ys) → AreHidden p file xs h → AreHidden p file ys h
hidden_alike p file xs ys h e a = record {
  words = λ w. a.words w ∙ e (λ (x : TypeName). same_text x.name w.now);
  order = a.order;
  tokens = λ t l. a.tokens t l ∙ e (means_other p file t);
}

-- one word more
pub word_more : (xs : List Found) (i : ℕ) (d : Found) (w : List ℕ) (before now whole : Bool) → i < length xs → now ≡ cond (pointwise nat_eq (get_or xs i d).name.now w) true before →
    (before || list_any (λ (x : TypeName). same_text x.name w) (map type_name_view (drop i xs))) ≡ whole →
    (now || list_any (λ (x : TypeName). same_text x.name w) (map type_name_view (drop (i + 1) xs))) ≡ whole
word_more xs i d w before now whole l a h =
    let x = get_or xs i d in
    let test : TypeName → Bool = λ y. same_text y.name w in
    or_next now (same_text x.name.now w) before (list_any test (map type_name_view (drop (i + 1) xs))) whole
    (a ∙ cond-or (pointwise nat_eq x.name.now w) before ∙ ap (λ b. b || before) (one_text x.name.now w))
    (ap (λ ys. before || list_any test (map type_name_view ys)) (sym (drop_more xs i d l)) ∙ h)
  where
    cond-or : (b c : Bool) → cond b true c ≡ (b || c)
    cond-or true c = refl
    cond-or false c = refl

-- one name more
pub name_more : (test : TypeName → Bool) (xs : List Found) (i : ℕ) (d : Found) (before now whole : Bool) → i < length xs → now ≡ (before || test (type_name_view (get_or xs i d))) →
    (before || list_any test (map type_name_view (drop i xs))) ≡ whole → (now || list_any test (map type_name_view (drop (i + 1) xs))) ≡ whole
name_more test xs i d before now whole l a h =
    let here = test (type_name_view (get_or xs i d)) in
    ap (λ b. b || list_any test (map type_name_view (drop (i + 1) xs))) a
    ∙ or-group before here (list_any test (map type_name_view (drop (i + 1) xs)))
    ∙ ap (λ ys. before || list_any test (map type_name_view ys)) (sym (drop_more xs i d l))
    ∙ h
  where
    or-group : (a b c : Bool) → ((a || b) || c) ≡ (a || (b || c))
    or-group true b c = refl
    or-group false b c = refl

pub names_left : (test : TypeName → Bool) (xs : List Found) (i : ℕ) (b whole : Bool) → length xs ≤ i → (b || list_any test (map type_name_view (drop i xs))) ≡ whole → b ≡ whole
names_left test xs i b whole le h = sym (or-false b) ∙ sym (ap (λ ys. b || list_any test (map type_name_view ys)) (drop_all i xs le)) ∙ h
  where
    or-false : (b : Bool) → (b || false) ≡ b
    or-false true = refl
    or-false false = refl

-- the tokens at which a name means something else, by those at which its meaning changes
changes-at : (p : PackageView) (file : ℕ) (x : TypeName) (ms : List Meaning) (bs : List ℕ) → ms ≡ meanings (units_of p.files) → AreChanges file x.name ms bs → ChangesAt (λ t. means_other p file t x) 0 bs
changes-at p file x ms bs e told s t zero le apart =
    ap (λ o. not (means_type (sources_in p) (if is_blank x.name then None else object_by x.name o) x.type)) (subst (λ ks. AreChanges file x.name ks bs) e told s t le apart)

no-lower : (bs : List ℕ) → AllByRecursion (λ b. 0 ≤ b) bs
no-lower [] = tt
no-lower (b ∷ bs) = (omega arith, no-lower bs)

pub name_told : (p : PackageView) (file : ℕ) (x : TypeName) (ms : List Meaning) (bs : List ℕ) (old new : List Stretch) (t : ℕ) → ms ≡ meanings (units_of p.files) → AreAscending bs → AreChanges file x.name ms bs → t < 2 ^ 32 →
    new ≡ old ++ stretches_from (λ t. means_other p file t x) 0 bs → list_any (covers t) new ≡ (list_any (covers t) old || means_other p file t x)
name_told p file x ms bs old new t e order told l is =
    let test : ℕ → Bool = λ t. means_other p file t x in
    let low : nat_le 0 t ≡ true = grind (arith, nat_tests) in
    ap (list_any (covers t)) is
    ∙ list_any-append (covers t) old (stretches_from test 0 bs)
    ∙ ap (λ b. list_any (covers t) old || b) (between_told test t 0 bs l (no-lower bs) order (changes-at p file x ms bs e told) ∙ ap (λ b. b && test t) low)

-- ---- one file and type more in a map

module _ {S : Type 0} (p : PackageView) (m n : HashMap (ℕ × ℕ) HiddenNames S) (file t : ℕ) (h : HiddenNames) where
  abbrev Told : ℕ → ℕ → Option HiddenNames → Type 0
  Told f u o = IfSome o (λ x. AreHidden p f (names_of_type p u) x)

  told-more : (f u : ℕ) (b : Bool) → same_pair (file, t) (f, u) ≡ b → get same_pair n (f, u) ≡ cond (same_pair (file, t) (f, u)) (Some h) (get same_pair m (f, u)) →
      AreHidden p file (names_of_type p t) h → Told f u (get same_pair m (f, u)) → Told f u (get same_pair n (f, u))
  told-more f u true e put told old =
      let parts = both (nat_eq file f) (nat_eq t u) e in
      subst (Told f u) (sym (put ∙ ap (λ c. cond c (Some h) (get same_pair m (f, u))) e))
      (subst (λ k. AreHidden p k (names_of_type p u) h) (eqb-true file f parts.0) (subst (λ k. AreHidden p file (names_of_type p k) h) (eqb-true t u parts.1) told))
  told-more f u false e put told old = subst (Told f u) (sym (put ∙ ap (λ c. cond c (Some h) (get same_pair m (f, u))) e)) old

  pub hidden_more : ((q : ℕ × ℕ) → get same_pair n q ≡ cond (same_pair (file, t) q) (Some h) (get same_pair m q)) → AreHidden p file (names_of_type p t) h → KnowsHidden p m → KnowsHidden p n
  hidden_more put told old f u = told-more f u (same_pair (file, t) (f, u)) refl (put (f, u)) told (old f u)

-- what a map has for a file and a type
pub hidden_known : {S : Type 0} (p : PackageView) (m : HashMap (ℕ × ℕ) HiddenNames S) (file t : ℕ) (h : HiddenNames) → get same_pair m (file, t) ≡ Some h → KnowsHidden p m → AreHidden p file (names_of_type p t) h
hidden_known p m file t h e known = subst (λ (o : Option HiddenNames). IfSome o (λ x. AreHidden p file (names_of_type p t) x)) e (known file t)
