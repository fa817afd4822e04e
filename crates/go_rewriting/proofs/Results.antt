-- Where a result is left out, a closing parenthesis stands in front.
use Rattle.std.proofs.Common.{◌≡◌, ℕ, suc, inl, inr, Bool, true, false, List, [], ◌∷◌, Some, refl, ap, ◌∙◌, subst}
use Rattle.std.specs.Prelude.{◌&&◌}
use Rattle.go_tokens.specs.declared.token.TokenKind.{TokenKind}
use Rattle.go_tokens.specs.declared.token.TokenKind.TheVariants as token
use Rattle.go_grammar.specs.declared.kind.Kind.{Kind}
use Rattle.go_grammar.specs.declared.kind.Kind.TheVariants as kind
use Rattle.go_grammar.specs.declared.kind.Place.{Place}
use Rattle.go_grammar.specs.declared.kind.Place.TheVariants as place
use Rattle.go_grammar.specs.declared.kind.Category.{Category}
use Rattle.go_grammar.specs.declared.kind.Category.TheVariants as category
use Rattle.go_grammar.specs.Categories.{within, place_of}
use Rattle.go_grammar.specs.Rules.{Items, Lines, Rule, End, Then, Maybe, Unless, Many}
use Rattle.go_grammar.specs.Trees.{Tree, node, Trees, none, more, skip, last}
use Rattle.go_grammar.specs.Grammar.{rule, result_words, IsAt, Words, Derives, Spells, Goes}
use Rattle.go_grammar.specs.Words.{is_word}
use Rattle.go_grammar.proofs.Public.{all, kinds, kinds_at, and_both, same_category, same_category-is, at-is_word}

abbrev same_words : List TokenKind → List TokenKind → Bool
same_words [] [] = true
same_words [] (w ∷ ws) = false
same_words (v ∷ vs) [] = false
same_words (v ∷ vs) (w ∷ ws) = is_word (Some v) w && same_words vs ws

some_one : {A : Type 0} (x y : A) → Some x ≡ Some y → x ≡ y
some_one x y e = cc

both_words : (v w : TokenKind) (vs ws : List TokenKind) → v ≡ w → vs ≡ ws → v ∷ vs ≡ w ∷ ws
both_words v w vs ws e f = ap (λ x. x ∷ vs) e ∙ ap (λ xs. w ∷ xs) f

same_words-are : (vs ws : List TokenKind) → same_words vs ws ≡ true → vs ≡ ws
same_words-are [] [] h = refl
same_words-are [] (w ∷ ws) h = cc
same_words-are (v ∷ vs) [] h = cc
same_words-are (v ∷ vs) (w ∷ ws) h =
    let b = and_both (is_word (Some v) w) (same_words vs ws) h in
    both_words v w vs ws (some_one v w (at-is_word (Some v) w b.0)) (same_words-are vs ws b.1)

-- each optional part with a condition is a result, and stands directly behind parameters; b says whether these stand in front
abbrev pub led : Bool → Rule → Bool
led b (End ws) = true
led b (Then ws c r) = led (same_category c category.Parameters) r
led b (Maybe ws c r) = led false r
led b (Unless [] c us r) = b && (same_words us result_words && led false r)
led b (Unless (w ∷ ws) c us r) = false
led b (Many ws l) = true

abbrev led_of : Place → Kind → Bool
led_of p k = led false (rule p k)

free_led : all (led_of place.Free) kinds ≡ true
free_led = refl

header_led : all (led_of place.Header) kinds ≡ true
header_led = refl

pub rule_led : (p : Place) (k : Kind) → led false (rule p k) ≡ true
rule_led place.Free k = kinds_at (led_of place.Free) free_led k
rule_led place.Header k = kinds_at (led_of place.Header) header_led k

-- a closing parenthesis stands in front of i
pub record Closed (ts : List TokenKind) (i : ℕ) : Type 0 where
  pub place : ℕ
  pub next : suc place ≡ i
  pub is : IsAt ts place token.RightParenthesis

-- what a result that is left out has in front, and what it is left out before
pub record Bare (ts : List TokenKind) (ws us : List TokenKind) (r : Rule) (i : ℕ) : Type 0 where
  pub words : us ≡ result_words
  pub rest : led false r ≡ true
  pub none : ws ≡ []
  pub closed : Closed ts i

pub led_words : (ts ws : List TokenKind) (c : Category) (us : List TokenKind) (r : Rule) (b : Bool) (i : ℕ) → led b (Unless ws c us r) ≡ true → (b ≡ true → Closed ts i) → Bare ts ws us r i
led_words ts [] c us r b i h f =
    let x = and_both b (same_words us result_words && led false r) h in
    let y = and_both (same_words us result_words) (led false r) x.1 in
    record { words = same_words-are us result_words y.0; rest = y.1; none = refl; closed = f x.0 }
led_words ts (w ∷ ws) c us r b i h f = cc

pub closed_behind : (ts ws : List TokenKind) (i k : ℕ) → ws ≡ [] → Words ts i ws k → Closed ts i → Closed ts k
closed_behind ts [] i k e h c = subst (Closed ts) h c
closed_behind ts (w ∷ ws) i k e h c = cc

pub not_yet : (ts : List TokenKind) (i : ℕ) → false ≡ true → Closed ts i
not_yet ts i h = cc

parameters_kind : (k : Kind) → within category.Parameters k ≡ true → k ≡ kind.Parameters
parameters_kind kind.Parameters h = refl
parameters_kind _ h = cc

abbrev entries : Items
entries = Lines false category.Entry token.Comma token.RightParenthesis

module _ (ts : List TokenKind) where
  entries_closed : (ps : Trees) (i j : ℕ) → Goes ts entries i ps j → Closed ts j
  entries_closed none i j (inl h) = record { place = i; next = h.1; is = h.0 }
  entries_closed none i j (inr h) = record { place = h.2.0; next = h.2.3; is = h.2.2 }
  entries_closed (more p ps) i j h = entries_closed ps (last p) j h.4
  entries_closed (skip ps) i j h = absurd h

  parameters_closed : (ps : Trees) (i j : ℕ) → Spells ts (rule (place_of category.Parameters) kind.Parameters) i ps j → Closed ts j
  parameters_closed none i j h = record { place = h.2.0; next = h.2.3; is = h.2.2 }
  parameters_closed (more p ps) i j h = entries_closed ps (last p) j h.4
  parameters_closed (skip ps) i j h = absurd h

  -- parameters end with a closing parenthesis
  pub ends_closed : (c : Category) (p : Tree) → Derives ts c p → same_category c category.Parameters ≡ true → Closed ts (last p)
  ends_closed c (node k a b ps) h e =
      let is : c ≡ category.Parameters = same_category-is c category.Parameters e in
      let h' : Derives ts category.Parameters (node k a b ps) = subst (λ x. Derives ts x (node k a b ps)) is h in
      parameters_closed ps a b (subst (λ x. Spells ts (rule (place_of category.Parameters) x) a ps b) (parameters_kind k h'.0) h'.1)
