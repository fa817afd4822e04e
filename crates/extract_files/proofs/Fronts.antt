-- No expression of a statement stands directly behind a closing parenthesis.
use Rattle.std.proofs.Common.{◌≡◌, ℕ, zero, suc, ◌-◌, ◌<◌, ◌≤◌, ◌⊎◌, inl, inr, Bool, true, false, not, ◌&&◌, ◌||◌, List, [], ◌∷◌, Some, refl, sym, ap, ◌∙◌, subst, arith}
use Rattle.std.specs.Prelude.{slice_get}
use Rattle.go_tokens.specs.declared.token.TokenKind.{TokenKind}
use Rattle.go_tokens.specs.declared.token.TokenKind.TheVariants as token
use Rattle.go_grammar.specs.declared.kind.Category.{Category}
use Rattle.go_grammar.specs.declared.kind.Category.TheVariants as category
use Rattle.go_grammar.specs.declared.kind.Kind.{Kind}
use Rattle.go_grammar.specs.declared.kind.Kind.TheVariants as kind
use Rattle.go_grammar.specs.declared.kind.Level.TheVariants as level
use Rattle.go_grammar.specs.declared.kind.Place.{Place}
use Rattle.go_grammar.specs.declared.kind.Place.TheVariants as place
use Rattle.go_grammar.specs.Categories.{place_of, within}
use Rattle.go_grammar.specs.Grammar.{rule, IsAt, Words, Only, Gap, Between, Derives, Spells, Goes}
use Rattle.go_grammar.specs.Rules.{Items, Lines, Open, Each, Again, Rule, End, Then, Maybe, Unless, Many, item}
use Rattle.go_grammar.specs.Trees.{Tree, node, Trees, none, more, skip, kind_of, first, last}
use Rattle.go_grammar.proofs.Public.{all, and_both, categories, categories_at, kinds, kinds_at}
use Rattle.go_rewriting.specs.Lists.{items_at}
use Rattle.go_rewriting.specs.Replacing.{subtree_at, subtree_in, asked_at, asked_in, takes_level}
use Rattle.go_print_laws.specs.Calls.{AreStatements, of_block, of_clause}

-- texts of these may begin with an expression
abbrev exposes : Category → Bool
exposes (category.Expression l p) = true
exposes (category.ExpressionList p) = true
exposes (category.LeftList p) = true
exposes (category.Targets p) = true
exposes (category.NewNames p) = true
exposes category.Bracket = true
exposes category.Element = true
exposes category.Value = true
exposes category.IfHeader = true
exposes category.SwitchHeader = true
exposes category.ForHeader = true
exposes category.Statement = true
exposes category.Simple = true
exposes category.Post = true
exposes c = false

abbrev is_empty : List TokenKind → Bool
is_empty [] = true
is_empty (w ∷ ws) = false

-- the first item stands without a separator in front, and may begin with an expression
abbrev bare_items : Items → Bool
bare_items (Lines b c s e) = exposes c
bare_items (Open c s) = exposes c
bare_items (Each c us vs) = exposes c
bare_items (Again c s) = false

-- the next part stands here without words in front, and may begin with an expression
abbrev is_bare : Rule → Bool
is_bare (End ws) = false
is_bare (Then ws c r) = is_empty ws && exposes c
is_bare (Maybe ws c r) = is_empty ws && exposes c
is_bare (Unless ws c us r) = is_empty ws && exposes c
is_bare (Many ws l) = is_empty ws && bare_items l

abbrev is_safe : TokenKind → Bool
is_safe token.RightParenthesis = false
is_safe w = true

-- the last word is no closing parenthesis
abbrev are_safe : List TokenKind → Bool
are_safe [] = true
are_safe (w ∷ []) = is_safe w
are_safe (v ∷ w ∷ ws) = are_safe (w ∷ ws)

abbrev safe_items : Items → Bool
safe_items (Lines b c s e) = is_safe s
safe_items (Open c s) = is_safe s
safe_items (Each c us vs) = not (is_empty us && exposes c) && are_safe us
safe_items (Again c s) = is_safe s

-- what ends with an equals sign
abbrev assigns : Category → Bool
assigns (category.Targets p) = true
assigns (category.NewNames p) = true
assigns c = false

-- no part of the right side that may begin with an expression stands behind a closing parenthesis, but for its first one
abbrev is_fronted : Rule → Bool
is_fronted (End ws) = true
is_fronted (Then ws c r) = are_safe ws && ((assigns c || not (is_bare r)) && is_fronted r)
is_fronted (Maybe ws c r) = are_safe ws && (not (is_bare r) && is_fronted r)
is_fronted (Unless ws c us r) = are_safe ws && (not (is_bare r) && is_fronted r)
is_fronted (Many ws l) = are_safe ws && safe_items l

abbrev fronted_of : Place → Kind → Bool
fronted_of p k = is_fronted (rule p k)

free_fronted : all (fronted_of place.Free) kinds ≡ true
free_fronted = refl

header_fronted : all (fronted_of place.Header) kinds ≡ true
header_fronted = refl

rule_fronted : (p : Place) (k : Kind) → is_fronted (rule p k) ≡ true
rule_fronted place.Free k = kinds_at (fronted_of place.Free) free_fronted k
rule_fronted place.Header k = kinds_at (fronted_of place.Header) header_fronted k

-- what begins with a part that may begin with an expression may do so too
abbrev exposed_by : Place → Kind → Category → Bool
exposed_by p k c = not (within c k) || (not (is_bare (rule p k)) || exposes c)

abbrev all_exposed : Place → Kind → Bool
all_exposed p k = all (exposed_by p k) categories

free_exposed : all (all_exposed place.Free) kinds ≡ true
free_exposed = refl

header_exposed : all (all_exposed place.Header) kinds ≡ true
header_exposed = refl

or_not : (a b : Bool) → a ≡ true → (not a || b) ≡ true → b ≡ true
or_not true b e f = f
or_not false b e f = cc

rule_exposed : (p : Place) (c : Category) (k : Kind) → within c k ≡ true → is_bare (rule p k) ≡ true → exposes c ≡ true
rule_exposed place.Free c k w b = or_not (is_bare (rule place.Free k)) (exposes c) b (or_not (within c k) _ w (categories_at (exposed_by place.Free k) (kinds_at (all_exposed place.Free) free_exposed k) c))
rule_exposed place.Header c k w b = or_not (is_bare (rule place.Header k)) (exposes c) b (or_not (within c k) _ w (categories_at (exposed_by place.Header k) (kinds_at (all_exposed place.Header) header_exposed k) c))

abbrev is_statement_list : Category → Bool
is_statement_list category.Statement = true
is_statement_list c = false

-- lists of statements begin with words
abbrev lists : Rule → Bool
lists (End ws) = false
lists (Then ws c r) = lists r
lists (Maybe ws c r) = lists r
lists (Unless ws c us r) = lists r
lists (Many ws (Lines b c s e)) = is_statement_list c
lists (Many ws (Open c s)) = true
lists (Many ws (Each c us vs)) = false
lists (Many ws (Again c s)) = false

abbrev listed_bare : Place → Kind → Bool
listed_bare p k = not (lists (rule p k)) || not (is_bare (rule p k))

free_lists : all (listed_bare place.Free) kinds ≡ true
free_lists = refl

header_lists : all (listed_bare place.Header) kinds ≡ true
header_lists = refl

lists_them : (l : Items) → AreStatements l → (r : Rule) (f : ℕ) → items_at f r ≡ Some l → lists r ≡ true
lists_them l s (End ws) f e = cc
lists_them l s (Then ws c r) zero e = cc
lists_them l s (Then ws c r) (suc f) e = lists_them l s r f e
lists_them l s (Maybe ws c r) zero e = cc
lists_them l s (Maybe ws c r) (suc f) e = lists_them l s r f e
lists_them l s (Unless ws c us r) zero e = cc
lists_them l s (Unless ws c us r) (suc f) e = lists_them l s r f e
lists_them l s (Many ws m) f e = subst (λ m. lists (Many ws m) ≡ true) (one l m (sym e)) (these l s)
  where
    one : (m l : Items) → Some m ≡ Some l → m ≡ l
    one m l e = cc

    these : (l : Items) → AreStatements l → lists (Many ws l) ≡ true
    these l of_block = refl
    these l of_clause = refl

not_bare : (p : Place) (k : Kind) → lists (rule p k) ≡ true → is_bare (rule p k) ≡ true → ⊥
not_bare place.Free k l b = no (is_bare (rule place.Free k)) b (or_not (lists (rule place.Free k)) _ l (kinds_at (listed_bare place.Free) free_lists k))
  where
    no : (b : Bool) → b ≡ true → not b ≡ true → ⊥
    no true e f = cc
    no false e f = cc
not_bare place.Header k l b = no (is_bare (rule place.Header k)) b (or_not (lists (rule place.Header k)) _ l (kinds_at (listed_bare place.Header) header_lists k))
  where
    no : (b : Bool) → b ≡ true → not b ≡ true → ⊥
    no true e f = cc
    no false e f = cc

taken_exposed : (c : Category) → takes_level level.Primary c ≡ true → exposes c ≡ true
taken_exposed (category.Expression m p) e = refl
taken_exposed category.Bracket e = refl
taken_exposed category.Element e = refl
taken_exposed category.Value e = refl
taken_exposed category.IfHeader e = refl
taken_exposed category.SwitchHeader e = refl
taken_exposed category.ForHeader e = refl
taken_exposed _ e = cc

some_tree : (s t : Tree) → Some s ≡ Some t → s ≡ t
some_tree s t e = cc

some_category : (c d : Category) → Some c ≡ Some d → c ≡ d
some_category c d e = cc

targets_kind : (p : Place) (k : Kind) → within (category.Targets p) k ≡ true → k ≡ kind.Targets
targets_kind p kind.Targets h = refl
targets_kind p _ h = cc

names_kind : (p : Place) (k : Kind) → within (category.NewNames p) k ≡ true → k ≡ kind.NewNames
names_kind p kind.NewNames h = refl
names_kind p _ h = cc

module _ (ts : List TokenKind) where
  -- no closing parenthesis stands in front
  abbrev pub Safe : ℕ → Type 0
  Safe i = (n : ℕ) → suc n ≡ i → IsAt ts n token.RightParenthesis → ⊥

  word_safe : (w : TokenKind) (i j : ℕ) → IsAt ts i w → suc i ≡ j → is_safe w ≡ true → Safe j
  word_safe w i j is next safe n e at =
      let same : n ≡ i = omega (arith, e, next) in
      let word : Some token.RightParenthesis ≡ Some w = sym at ∙ ap (λ k. slice_get ts k) same ∙ is in
      let one : token.RightParenthesis ≡ w = cc in
      let f : is_safe token.RightParenthesis ≡ true = ap is_safe one ∙ safe in
      cc

  words_safe : (v : TokenKind) (ws : List TokenKind) (i j : ℕ) → Words ts i (v ∷ ws) j → are_safe (v ∷ ws) ≡ true → Safe j
  words_safe v [] i j w s = word_safe v i j w.0 w.1 s
  words_safe v (u ∷ us) i j w s = words_safe u us (suc i) j w.1 s

  -- behind words, or where they are none
  behind_words : (ws : List TokenKind) (i j : ℕ) → Words ts i ws j → are_safe ws ≡ true → (is_empty ws ≡ true → Safe i) → Safe j
  behind_words [] i j w s f = subst Safe w (f refl)
  behind_words (v ∷ ws) i j w s f = words_safe v ws i j w s

  only_safe : (s : TokenKind) (i k : ℕ) → Only ts s i k → is_safe s ≡ true → Safe i → Safe k
  only_safe s i k o safe f = elim (two i k o.order) [
    | inl same ↦ subst Safe same f
    | inr lt ↦ word_safe s (k - 1) k (o.each (k - 1) (omega (arith, lt)) (omega (arith, lt))) (omega (arith, lt)) safe
  ]
    where
      two : (i k : ℕ) → i ≤ k → (i ≡ k) ⊎ (i < k)
      two i k le = grind arith

  gap_safe : (l : Items) (i k : ℕ) → Gap ts l i k → safe_items l ≡ true → Safe i → Safe k
  gap_safe (Lines true c s e) i k g safe f = only_safe s i k g safe f
  gap_safe (Lines false c s e) i k g safe f = subst Safe g f
  gap_safe (Open c s) i k g safe f = only_safe s i k g safe f
  gap_safe (Each c us vs) i k g safe f = subst Safe g f
  gap_safe (Again c s) i k g safe f = word_safe s i k g.0 g.1 safe

  -- up to the first item
  first_safe : (l : Items) (i k : ℕ) → Gap ts l i k → safe_items l ≡ true → exposes (item l) ≡ true → (bare_items l ≡ true → Safe i) → Safe k
  first_safe (Lines b c s e) i k g safe x f = gap_safe (Lines b c s e) i k g safe (f x)
  first_safe (Open c s) i k g safe x f = gap_safe (Open c s) i k g safe (f x)
  first_safe (Each c us vs) i k g safe x f = gap_safe (Each c us vs) i k g safe (f x)
  first_safe (Again c s) i k g safe x f = word_safe s i k g.0 g.1 safe

  -- from behind an item to the next one
  next_safe : (l : Items) (i k j : ℕ) → Between ts l i k → Gap ts l k j → safe_items l ≡ true → exposes (item l) ≡ true → Safe j
  next_safe (Lines true c s e) i k j b g safe x = only_safe s k j g safe (word_safe s i k b.0 b.1 safe)
  next_safe (Lines false c s e) i k j b g safe x = subst Safe g (word_safe s i k b.0 b.1 safe)
  next_safe (Open c s) i k j b g safe x = only_safe s k j g safe (word_safe s i k b.0 b.1 safe)
  next_safe (Each c us vs) i k j b g safe x =
      let parts = and_both (not (is_empty us && exposes c)) (are_safe us) safe in
      subst Safe g (behind_words us i k b parts.1 (λ e. absurd (both (is_empty us) (exposes c) e x parts.0)))
    where
      both : (a b : Bool) → a ≡ true → b ≡ true → not (a && b) ≡ true → ⊥
      both true true e f g = cc
      both true false e f g = cc
      both false b e f g = cc
  next_safe (Again c s) i k j b g safe x = word_safe s k j g.0 g.1 safe

  -- targets and new names end with an equals sign
  end_safe : (c : Category) (w : TokenKind) (a b : ℕ) (ps : Trees) → Spells ts (Then [] c (End (w ∷ []))) a ps b → is_safe w ≡ true → Safe b
  end_safe c w a b none h s = absurd h
  end_safe c w a b (skip ps) h s = absurd h
  end_safe c w a b (more q none) h s = word_safe w (last q) b h.2.0 h.2.1 s
  end_safe c w a b (more q (more r rs)) h s = absurd h.2
  end_safe c w a b (more q (skip rs)) h s = absurd h.2

  assigned_safe : (c : Category) (t : Tree) → assigns c ≡ true → Derives ts c t → Safe (last t)
  assigned_safe (category.Targets p) (node k a b ps) e h = end_safe (category.LeftList p) token.Assign a b ps (subst (λ k. Spells ts (rule p k) a ps b) (targets_kind p k h.0) h.1) refl
  assigned_safe (category.NewNames p) (node k a b ps) e h = end_safe (category.LeftList p) token.Define a b ps (subst (λ k. Spells ts (rule p k) a ps b) (names_kind p k h.0) h.1) refl
  assigned_safe _ t e h = cc

  both_true : (a b : Bool) → a ≡ true → b ≡ true → (a && b) ≡ true
  both_true true b e f = f
  both_true false b e f = cc

  not_both : (b : Bool) → b ≡ true → not b ≡ true → ⊥
  not_both true e f = cc
  not_both false e f = cc

  either_safe : (c : Category) (p : Tree) (g b : Bool) → assigns c ≡ g → (g || not b) ≡ true → b ≡ true → Derives ts c p → Safe (last p)
  either_safe c p true b e o y h = assigned_safe c p e h
  either_safe c p false b e o y h = absurd (not_both b y o)

  mutual
    safe_at : (path : List ℕ) (c d : Category) (t s : Tree) → Derives ts c t → subtree_at path t ≡ Some s → asked_at c path t ≡ Some d → exposes d ≡ true → (exposes c ≡ true → Safe (first t)) → Safe (first s)
    safe_at [] c d t s h e a x f = subst (λ t. Safe (first t)) (some_tree t s e) (f (subst (λ c. exposes c ≡ true) (sym (some_category c d a)) x))
    safe_at (n ∷ path) c d (node k i j ps) s h e a x f = safe_in (rule (place_of c) k) n path d i ps j s (rule_fronted (place_of c) k) h.1 e a x (λ b. f (rule_exposed (place_of c) c k h.0 b))

    safe_in : (r : Rule) (n : ℕ) (path : List ℕ) (d : Category) (i : ℕ) (ps : Trees) (j : ℕ) (s : Tree) → is_fronted r ≡ true → Spells ts r i ps j → subtree_in n path ps ≡ Some s → asked_in r n path ps ≡ Some d → exposes d ≡ true → (is_bare r ≡ true → Safe i) → Safe (first s)
    safe_in r n path d i none j s o h e a x f = cc
    safe_in (End ws) n path d i (more p ps) j s o h e a x f = absurd h
    safe_in (End ws) n path d i (skip ps) j s o h e a x f = absurd h
    safe_in (Then ws c r) zero path d i (more p ps) j s o h e a x f =
        safe_at path c d p s h.1 e a x (λ y. behind_words ws i (first p) h.0 (and_both (are_safe ws) _ o).0 (λ z. f (both_true (is_empty ws) (exposes c) z y)))
    safe_in (Then ws c r) (suc n) path d i (more p ps) j s o h e a x f =
        let parts = and_both (are_safe ws) _ o in
        let others = and_both (assigns c || not (is_bare r)) (is_fronted r) parts.1 in
        safe_in r n path d (last p) ps j s others.1 h.2 e a x (λ b. either_safe c p (assigns c) (is_bare r) refl others.0 b h.1)
    safe_in (Then ws c r) n path d i (skip ps) j s o h e a x f = absurd h
    safe_in (Maybe ws c r) zero path d i (more p ps) j s o h e a x f =
        safe_at path c d p s h.1 e a x (λ y. behind_words ws i (first p) h.0 (and_both (are_safe ws) _ o).0 (λ z. f (both_true (is_empty ws) (exposes c) z y)))
    safe_in (Maybe ws c r) (suc n) path d i (more p ps) j s o h e a x f =
        let others = and_both (not (is_bare r)) (is_fronted r) (and_both (are_safe ws) _ o).1 in
        safe_in r n path d (last p) ps j s others.1 h.2 e a x (λ b. absurd (not_both (is_bare r) b others.0))
    safe_in (Maybe ws c r) zero path d i (skip ps) j s o h e a x f = cc
    safe_in (Maybe ws c r) (suc n) path d i (skip ps) j s o h e a x f =
        let others = and_both (not (is_bare r)) (is_fronted r) (and_both (are_safe ws) _ o).1 in
        safe_in r n path d h.0 ps j s others.1 h.2 e a x (λ b. absurd (not_both (is_bare r) b others.0))
    safe_in (Unless ws c us r) zero path d i (more p ps) j s o h e a x f =
        safe_at path c d p s h.1 e a x (λ y. behind_words ws i (first p) h.0 (and_both (are_safe ws) _ o).0 (λ z. f (both_true (is_empty ws) (exposes c) z y)))
    safe_in (Unless ws c us r) (suc n) path d i (more p ps) j s o h e a x f =
        let others = and_both (not (is_bare r)) (is_fronted r) (and_both (are_safe ws) _ o).1 in
        safe_in r n path d (last p) ps j s others.1 h.2 e a x (λ b. absurd (not_both (is_bare r) b others.0))
    safe_in (Unless ws c us r) zero path d i (skip ps) j s o h e a x f = cc
    safe_in (Unless ws c us r) (suc n) path d i (skip ps) j s o h e a x f =
        let others = and_both (not (is_bare r)) (is_fronted r) (and_both (are_safe ws) _ o).1 in
        safe_in r n path d h.0 ps j s others.1 h.3 e a x (λ b. absurd (not_both (is_bare r) b others.0))
    safe_in (Many ws l) zero path d i (more p ps) j s o h e a x f =
        let parts = and_both (are_safe ws) (safe_items l) o in
        safe_at path (item l) d p s h.3 e a x (λ y. first_safe l h.0 (first p) h.2 parts.1 y (λ b. behind_words ws i h.0 h.1 parts.0 (λ z. f (both_true (is_empty ws) (bare_items l) z b))))
    safe_in (Many ws l) (suc n) path d i (more p ps) j s o h e a x f = safe_among l n path d (last p) ps j s ws (and_both (are_safe ws) (safe_items l) o).1 h.4 e a x
    safe_in (Many ws l) n path d i (skip ps) j s o h e a x f = absurd h

    safe_among : (l : Items) (n : ℕ) (path : List ℕ) (d : Category) (i : ℕ) (ps : Trees) (j : ℕ) (s : Tree) (ws : List TokenKind) → safe_items l ≡ true → Goes ts l i ps j → subtree_in n path ps ≡ Some s → asked_in (Many ws l) n path ps ≡ Some d → exposes d ≡ true → Safe (first s)
    safe_among l n path d i none j s ws o h e a x = cc
    safe_among l zero path d i (more p ps) j s ws o h e a x = safe_at path (item l) d p s h.3 e a x (λ y. next_safe l i h.0 (first p) h.1 h.2 o y)
    safe_among l (suc n) path d i (more p ps) j s ws o h e a x = safe_among l n path d (last p) ps j s ws o h.4 e a x
    safe_among l n path d i (skip ps) j s ws o h e a x = absurd h

-- an expression below a list of statements
pub expressions_are_safe : (ts : List TokenKind) (c d : Category) (t s : Tree) (f n : ℕ) (path : List ℕ) (l : Items) → AreStatements l → Derives ts c t → items_at f (rule (place_of c) (kind_of t)) ≡ Some l
    → subtree_at (n ∷ path) t ≡ Some s → asked_at c (n ∷ path) t ≡ Some d → takes_level level.Primary d ≡ true → (m : ℕ) → suc m ≡ first s → IsAt ts m token.RightParenthesis → ⊥
expressions_are_safe ts c d (node k i j ps) s f n path l st h is e a t =
    safe_in ts (rule (place_of c) k) n path d i ps j s (rule_fronted (place_of c) k) h.1 e a (taken_exposed d t) (λ b. absurd (not_bare (place_of c) k (lists_them l st (rule (place_of c) k) f is) b))
