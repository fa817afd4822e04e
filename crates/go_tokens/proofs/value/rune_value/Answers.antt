use Rattle.std.proofs.Common.{◌≡◌, ◌∙◌, ◌≤◌, ◌<◌, ◌⊎◌, ⊎_elim, List, ℕ, [], take, length, chars, ap, arith}
use Rattle.std.proofs.lemmas.List.{take_all, length-take-le}
use Rattle.std.proofs.lemmas.Str.{chars-nil}
use Rattle.go_tokens.specs.Literals.{inside, elements, is_one, first_value}
use Rattle.go_tokens.proofs.Elements.{rune_short}
use Rattle.go_tokens.proofs.value.rune_value.Goals as goal

le_or_lt : (a b : ℕ) → (a ≤ b) ⊎ (b < a)
le_or_lt a b = grind arith

-- a buffer that wasn't filled holds the whole text
whole : (text buffer : List ℕ) (n room : ℕ) → take n buffer ≡ take room text → n ≤ length buffer → n < room → take n buffer ≡ text
whole text buffer n room e within less = ⊎_elim (λ short. e ∙ take_all room text short) (λ long. absurd (omega (arith, ap length e, length-take-le n buffer within, length-take-le room text (omega (arith, long)), less))) (le_or_lt (length text) room)

-- a rune has no more characters than there is room for
too_long : (text buffer : List ℕ) (n : ℕ) → take n buffer ≡ take 13 text → n ≤ length buffer → 12 < n → length text ≤ 12 → ⊥
too_long text buffer n e within more short = omega (arith, ap length (e ∙ take_all 13 text (omega (arith, short))), length-take-le n buffer within, more, short)

pub returns-then-count-gt-LONGEST_RUNE-clause-one : goal.returns-then-count-gt-LONGEST_RUNE-clause-one
returns-then-count-gt-LONGEST_RUNE-clause-one c utf8 one =
    let text : List ℕ = chars c.args.text.now in
    let e : take c.fill-count.result c.fill-count.new.buffer ≡ take 13 text = c.fill-count.ensures.filled ∙ ap (λ b. take 13 (chars b)) (c.decoded.ensures.utf8 utf8) in
    absurd (too_long text c.fill-count.new.buffer c.fill-count.result e c.fill-count.ensures.within (omega arith) (rune_short text one))

pub returns-clause-one : goal.returns-clause-one
returns-clause-one c utf8 one =
    let text : List ℕ = chars c.args.text.now in
    let e : take c.fill-count.result c.fill-count.new.buffer ≡ take 13 text = c.fill-count.ensures.filled ∙ ap (λ b. take 13 (chars b)) (c.decoded.ensures.utf8 utf8) in
    let all : take c.fill-count.result c.fill-count.new.buffer ≡ text = whole text c.fill-count.new.buffer c.fill-count.result 13 e c.fill-count.ensures.within (omega arith) in
    let between : c.inside.result.now ≡ inside text = c.inside.ensures ∙ ap inside all in
    c.element_value.ensures.one (ap (λ l. is_one (elements 39 0 l)) between ∙ one) ∙ ap (λ l. first_value (elements 39 0 l)) between

pub returns-clause-other : goal.returns-clause-other
returns-clause-other c utf8 other =
    let text : List ℕ = chars c.args.text.now in
    let e : take c.fill-count.result c.fill-count.new.buffer ≡ take 13 text = c.fill-count.ensures.filled ∙ ap (λ b. take 13 (chars b)) (c.decoded.ensures.utf8 utf8) in
    let all : take c.fill-count.result c.fill-count.new.buffer ≡ text = whole text c.fill-count.new.buffer c.fill-count.result 13 e c.fill-count.ensures.within (omega arith) in
    let between : c.inside.result.now ≡ inside text = c.inside.ensures ∙ ap inside all in
    c.element_value.ensures.other (ap (λ l. is_one (elements 39 0 l)) between ∙ other)

pub returns-clause-no_text : goal.returns-clause-no_text
returns-clause-no_text c broken =
    let text : List ℕ = chars c.decoded.result.now in
    let empty : text ≡ [] = ap chars (c.decoded.ensures.no_text broken) ∙ chars-nil in
    let all : take c.fill-count.result c.fill-count.new.buffer ≡ text = whole text c.fill-count.new.buffer c.fill-count.result 13 c.fill-count.ensures.filled c.fill-count.ensures.within (omega arith) in
    let between : c.inside.result.now ≡ [] = c.inside.ensures ∙ ap inside (all ∙ empty) in
    c.element_value.ensures.other (ap (λ l. is_one (elements 39 0 l)) between)
