-- What the checked tables say of a category, a kind and a token.
use Rattle.std.proofs.Common.{◌≡◌, ℕ, suc, Bool, true, false, List, [], ◌∷◌, Option, Some, None, refl, sym, ap, ◌∙◌, subst}
use Rattle.std.specs.Prelude.{◌&&◌, ◌||◌}
use Rattle.go_tokens.specs.declared.token.TokenKind.{TokenKind}
use Rattle.go_tokens.specs.declared.token.TokenKind.TheVariants as token
use Rattle.go_grammar.specs.declared.kind.Kind.{Kind}
use Rattle.go_grammar.specs.declared.kind.Place.{Place}
use Rattle.go_grammar.specs.declared.kind.Category.{Category}
use Rattle.go_grammar.specs.declared.kind.Category.TheVariants as category
use Rattle.go_grammar.specs.Categories.{within, place_of}
use Rattle.go_grammar.specs.Rules.{Items, Rule, End, Then, Maybe, Unless, Many, item}
use Rattle.go_grammar.specs.Grammar.{rule, ends}
use Rattle.go_grammar.specs.Reader.{opens_before, begins, continues, after_first}
use Rattle.go_grammar.proofs.Rows.{all, every, kinds, categories, and_both, every_at, kinds_at, categories_at, same_kind, same_kind-is, same_category, same_category-is, same_category-self}
use Rattle.go_grammar.proofs.Check.{implies, not, is_kind, is_none, follows, trails, passes, spine, starts, told, first_part, first_word, part_checked, word_checked, kind_checked, same_place, spine_checked, finish_checked, begin_checked, begins_checked, first_kept, place_kept, places_checked, outside_checked, first_checked, category_checked}
use Rattle.go_grammar.proofs.Table.{table}

pub implied : (a b : Bool) → implies a b ≡ true → a ≡ true → b ≡ true
implied true b h e = h
implied false b h e = cc

pub not_true : (b : Bool) → not b ≡ true → b ≡ false
not_true true h = cc
not_true false h = refl

pub or_left : (a b : Bool) → a ≡ true → a || b ≡ true
or_left true b e = refl
or_left false b e = cc

pub or_right : (a b : Bool) → b ≡ true → a || b ≡ true
or_right true b e = refl
or_right false b e = e

pub both : (a b : Bool) → a ≡ true → b ≡ true → a && b ≡ true
both true b e f = f
both false b e f = cc

pub is_kind-is : (o : Option Kind) (k : Kind) → is_kind o k ≡ true → o ≡ Some k
is_kind-is None k h = cc
is_kind-is (Some l) k h = ap Some (same_kind-is l k h)

pub is_none-is : (o : Option Kind) → is_none o ≡ true → o ≡ None
is_none-is None h = refl
is_none-is (Some k) h = cc

abbrev spine_of : Category → Category → Bool
spine_of g c = implies (spine g c) (spine_checked g c)

category_fact : (g : Category) → (first_checked g ≡ true) × (all (spine_of g) categories ≡ true)
category_fact g = and_both (first_checked g) (all (spine_of g) categories) (table g)

abbrev kept_of : Category → Kind → Option TokenKind → Bool
kept_of g k w = place_kept g (continues g k w)

abbrev keeps_of : Category → Kind → Bool
keeps_of g k = every (kept_of g k)

record FirstFacts (g : Category) : Type 0 where
  itself : spine g g ≡ true
  begun : begins_checked g ≡ true
  finished : finish_checked g ≡ true
  at_end : follows g None ≡ true
  at_brace : follows g (Some token.RightBrace) ≡ true
  places : places_checked g ≡ true

first_facts : (g : Category) → FirstFacts g
first_facts g =
    let a = and_both (spine g g && begins_checked g) (finish_checked g && (outside_checked g && places_checked g)) (category_fact g).0 in
    let b = and_both (spine g g) (begins_checked g) a.0 in
    let d = and_both (finish_checked g) (outside_checked g && places_checked g) a.1 in
    let e = and_both (outside_checked g) (places_checked g) d.1 in
    let f = and_both (follows g None) (follows g (Some token.RightBrace)) e.0 in
    record { itself = b.0; begun = b.1; finished = d.0; at_end = f.0; at_brace = f.1; places = e.1 }

-- nothing, or a closing brace, may stand behind each category
pub follows_none : (g : Category) → follows g None ≡ true
follows_none g = (first_facts g).at_end

pub follows_brace : (g : Category) → follows g (Some token.RightBrace) ≡ true
follows_brace g = (first_facts g).at_brace

pub spine_self : (g : Category) → spine g g ≡ true
spine_self g = (first_facts g).itself

pub spine_fact : (g c : Category) → spine g c ≡ true → spine_checked g c ≡ true
spine_fact g c s = implied (spine g c) (spine_checked g c) (categories_at (spine_of g) (category_fact g).1 c) s

abbrev kinds_of : Category → Category → Kind → Bool
kinds_of g c k = implies (within c k) (kind_checked g c k (rule (place_of c) k) (first_part (rule (place_of c) k)))

place_one : (p q : Place) → category.LiteralType p ≡ category.LiteralType q → p ≡ q
place_one p q e = cc

pub place_fact : (g c : Category) → spine g c ≡ true → place_of g ≡ place_of c
place_fact g c s = place_one (place_of g) (place_of c) (same_category-is (category.LiteralType (place_of g)) (category.LiteralType (place_of c)) (and_both (same_place g c) (all (kinds_of g c) kinds) (spine_fact g c s)).0)

pub kind_fact : (g c : Category) (k : Kind) → spine g c ≡ true → within c k ≡ true → kind_checked g c k (rule (place_of c) k) (first_part (rule (place_of c) k)) ≡ true
kind_fact g c k s w = implied (within c k) (kind_checked g c k (rule (place_of c) k) (first_part (rule (place_of c) k))) (kinds_at (kinds_of g c) (and_both (same_place g c) (all (kinds_of g c) kinds) (spine_fact g c s)).1 k) w

-- a kind whose text begins with a part of category d
pub record Continuing (g c : Category) (k : Kind) (r : Rule) (d : Category) : Type 0 where
  pub goes_up : spine g d ≡ true
  pub reads : told r (passes g c) ≡ true
  pub passed : (w : Option TokenKind) → starts r (passes g c) w ≡ true → passes g d w ≡ true
  pub next : (w : Option TokenKind) (l : Kind) → starts r (passes g c) w ≡ true → within d l ≡ true → ends d l w ≡ true → continues g l w ≡ Some k

abbrev each_of : Category → Category → Kind → Rule → Category → Option TokenKind → Kind → Bool
each_of g c k r d w l = implies (within d l && ends d l w) (is_kind (continues g l w) k)

abbrev words_of : Category → Category → Kind → Rule → Category → Option TokenKind → Bool
words_of g c k r d w = implies (starts r (passes g c) w) (passes g d w && all (each_of g c k r d w) kinds)

pub continuing : (g c : Category) (k : Kind) (r : Rule) (d : Category) → part_checked g c k r d ≡ true → Continuing g c k r d
continuing g c k r d h =
    let a = and_both (spine g d && told r (passes g c)) (every (words_of g c k r d)) h in
    let b = and_both (spine g d) (told r (passes g c)) a.0 in
    let at : (w : Option TokenKind) → starts r (passes g c) w ≡ true → (passes g d w ≡ true) × (all (each_of g c k r d w) kinds ≡ true) = λ w s. and_both (passes g d w) (all (each_of g c k r d w) kinds) (implied (starts r (passes g c) w) (passes g d w && all (each_of g c k r d w) kinds) (every_at (words_of g c k r d) a.1 w) s) in
    record {
      goes_up = b.0;
      reads = b.1;
      passed = λ w s. (at w s).0;
      next = λ w l s i e. is_kind-is (continues g l w) k (implied (within d l && ends d l w) (is_kind (continues g l w) k) (kinds_at (each_of g c k r d w) (at w s).1 l) (both (within d l) (ends d l w) i e));
    }

-- a kind whose text begins with the word w
pub record Opening (g c : Category) (k : Kind) (r : Rule) : Type 0 where
  pub word : TokenKind
  pub begins_with : first_word r ≡ Some word
  pub opens_it : opens_before g (Some word) ≡ Some k
  pub reads : told r (passes g c) ≡ true

pub opening : (g c : Category) (k : Kind) (r : Rule) (o : Option TokenKind) → first_word r ≡ o → word_checked g c k r o ≡ true → Opening g c k r
opening g c k r None e h = cc
opening g c k r (Some w) e h =
    let a = and_both (is_kind (opens_before g (Some w)) k) (told r (passes g c)) h in
    record { word = w; begins_with = e; opens_it = is_kind-is (opens_before g (Some w)) k a.0; reads = a.1 }

abbrev finishes_of : Category → Kind → Option TokenKind → Bool
finishes_of c k w = implies (follows c w && ends c k w) (is_none (continues c k w))

abbrev finish_of : Category → Kind → Bool
finish_of c k = implies (within c k) (every (finishes_of c k))

-- before what may follow the category a node of it becomes nothing else
pub finish_fact : (c : Category) (k : Kind) (w : Option TokenKind) → within c k ≡ true → follows c w ≡ true → ends c k w ≡ true → continues c k w ≡ None
finish_fact c k w i f e =
    let a : every (finishes_of c k) ≡ true = implied (within c k) (every (finishes_of c k)) (kinds_at (finish_of c) (first_facts c).finished k) i in
    is_none-is (continues c k w) (implied (follows c w && ends c k w) (is_none (continues c k w)) (every_at (finishes_of c k) a w) (both (follows c w) (ends c k w) f e))

abbrev begin_of : Category → Kind → Bool
begin_of c k = implies (within c k) (begin_checked c k (rule (place_of c) k) (first_part (rule (place_of c) k)))

pub begin_fact : (c : Category) (k : Kind) → within c k ≡ true → begin_checked c k (rule (place_of c) k) (first_part (rule (place_of c) k)) ≡ true
begin_fact c k i = implied (within c k) (begin_checked c k (rule (place_of c) k) (first_part (rule (place_of c) k))) (kinds_at (begin_of c) (first_facts c).begun k) i

pub begin_part : (c d : Category) (w : Option TokenKind) → every (λ v. implies (begins d v) (begins c v)) ≡ true → begins d w ≡ true → begins c w ≡ true
begin_part c d w h b = implied (begins d w) (begins c w) (every_at (λ v. implies (begins d v) (begins c v)) h w) b

-- what follows a category may follow it where it is asked for
pub follows_pass : (c : Category) (w : Option TokenKind) → follows c w ≡ true → passes c c w ≡ true
follows_pass c w f = or_right (trails c w) (same_category c c && follows c w) (both (same_category c c) (follows c w) (same_category-self c) f)

-- a right side that begins with a part
pub first_part-is : (r : Rule) (d : Category) → first_part r ≡ Some d → r ≡ Then [] d (after_first r)
first_part-is (Then [] c r) d e = let f : c ≡ d = cc in ap (λ x. Then [] x r) f
first_part-is (Then (x ∷ ws) c r) d e = cc
first_part-is (End ws) d e = cc
first_part-is (Maybe ws c r) d e = cc
first_part-is (Unless ws c us r) d e = cc
first_part-is (Many ws l) d e = cc

first_kept_at : (g : Category) (o : Option Category) (d : Category) → o ≡ Some d → first_kept g o ≡ true → same_place g d ≡ true
first_kept_at g None d e h = cc
first_kept_at g (Some x) d e h = let same : x ≡ d = cc in subst (λ z. same_place g z ≡ true) same h

place_kept_at : (g : Category) (o : Option Kind) (k : Kind) → o ≡ Some k → place_kept g o ≡ true → first_kept g (first_part (rule (place_of g) k)) ≡ true
place_kept_at g None k e h = cc
place_kept_at g (Some x) k e h = let same : x ≡ k = cc in subst (λ z. first_kept g (first_part (rule (place_of g) z)) ≡ true) same h

-- what a node becomes the first part of belongs to the same place
pub first_place : (g : Category) (l k : Kind) (w : Option TokenKind) (c : Category) (u : Rule) → continues g l w ≡ Some k → rule (place_of g) k ≡ Then [] c u → place_of c ≡ place_of g
first_place g l k w c u e is =
    let a : every (kept_of g l) ≡ true = kinds_at (keeps_of g) (first_facts g).places l in
    let b = place_kept_at g (continues g l w) k e (every_at (kept_of g l) a w) in
    let d : first_part (rule (place_of g) k) ≡ Some c = ap first_part is in
    let f = first_kept_at g (first_part (rule (place_of g) k)) c d b in
    sym (place_one (place_of g) (place_of c) (same_category-is (category.LiteralType (place_of g)) (category.LiteralType (place_of c)) f))
