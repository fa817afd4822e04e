-- As many fresh names are found as are asked for: at most as many are used as there are tokens, and the new function's own one.
use Rattle.std.proofs.Common.{◌≡◌, ◌∙◌, ◌≤◌, ◌<◌, refl, sym, ap, ℕ, zero, suc, ◌+◌, ◌^◌, ◌%◌, Bool, true, false, cond, List, [], ◌∷◌, ◌++◌, length, map, arith, length-append}
use Rattle.std.specs.Prelude.{◌&&◌, ◌||◌, ◌==◌, is_some, Some, None, codes}
use Rattle.std.specs.Fmt.{decimal}
use Rattle.std.specs.List.{list_any}
use Rattle.std.specs.Str.Parse.{digits_value}
use Rattle.std.proofs.lemmas.Bool.{and_parts}
use Rattle.std.proofs.lemmas.Bool.Decides.{nat_tests}
use Rattle.std.proofs.lemmas.Fmt.{decimal_by_steps, decimal_is_IsNumeral}
use Rattle.std.proofs.lemmas.List.{length-map}
use Rattle.std.proofs.lemmas.List.Folds.{list_any-append}
use Rattle.go_tokens.specs.declared.token.Token.{Token}
use Rattle.go_tokens.specs.declared.token.TokenKind.TheVariants as token
use Rattle.go_tokens.specs.Editing.{is_identifier}
use Rattle.go_tokens.specs.Spellings.{same_text, keywords, listed}
use Rattle.go_tokens.specs.Tokens.{text_of}
use Rattle.go_tree.specs.declared.object.Predeclared.TheVariants as predeclared
use Rattle.go_tree.specs.File.{FileTree}
use Rattle.go_tree.specs.Predeclared.{known_in, known_names, unknown_names}
use Rattle.escape_check.specs.Names.{is_identifier_token, is_keyword, is_predeclared, names_file, names_package}
use Rattle.escape_check.specs.Places.{Sources}
use Rattle.extract_texts.specs.Fresh.{AreEnough, is_used, numbered_name, room_for, tokens_in, unused_from}

-- ---- names with numbers

text_same : (a b : List ℕ) → same_text a b ≡ true → a ≡ b
text_same [] [] h = refl
text_same [] (y ∷ b) h = absurd cc
text_same (x ∷ a) [] h = absurd cc
text_same (x ∷ a) (y ∷ b) h =
    let both = and_parts (x == y) (same_text a b) h in
    let one : x ≡ y = grind (arith, nat_tests) in
    λ j. one j ∷ text_same a b both.1 j

same_itself : (x : ℕ) → (x == x) ≡ true
same_itself x = grind (arith, nat_tests)

text_itself : (a : List ℕ) → same_text a a ≡ true
text_itself [] = refl
text_itself (x ∷ a) = ap (λ b. b && same_text a a) (same_itself x) ∙ text_itself a

text_turned : (a b : List ℕ) → same_text a b ≡ true → same_text b a ≡ true
text_turned a b h = ap (λ w. same_text w a) (sym (text_same a b h)) ∙ text_itself a

-- a text that begins with a digit
abbrev BeginsWithDigit : List ℕ → Type 0
BeginsWithDigit [] = ⊥
BeginsWithDigit (x ∷ xs) = (48 ≤ x) × (x ≤ 57)

still : (ds : List ℕ) (x : ℕ) → BeginsWithDigit ds → BeginsWithDigit (ds ++ (x ∷ []))
still [] x b = absurd b
still (d ∷ ds) x b = b

digit_first : (n : ℕ) → n < 2 ^ 64 → BeginsWithDigit (decimal n)
digit_first n h = decimal_by_steps (λ m ds. BeginsWithDigit ds) (λ m l. (omega (arith, l), omega (arith, l))) (λ m ds l b. still ds (48 + m % 10) b) n h

no_digit : (c x : ℕ) → 57 < c → x ≤ 57 → (c == x) ≡ false
no_digit c x h k = grind (arith, nat_tests)

-- `package` begins so
no_keyword : (ds : List ℕ) → BeginsWithDigit ds → is_keyword (112 ∷ ds) ≡ false
unfolding keywords
no_keyword [] b = absurd b
no_keyword (x ∷ ds) b = ap (λ t. is_some (cond (t && same_text (codes "ckage") ds) (Some token.Package) None)) (no_digit 97 x (omega arith) b.1)

-- `panic`
not_known : (ds : List ℕ) → BeginsWithDigit ds → is_some (known_in known_names (112 ∷ ds)) ≡ false
unfolding known_names
not_known [] b = absurd b
not_known (x ∷ ds) b = ap (λ t. is_some (cond (t && same_text (codes "nic") ds) (Some predeclared.Panic) None)) (no_digit 97 x (omega arith) b.1)

-- `print` and `println`
not_unknown : (ds : List ℕ) → BeginsWithDigit ds → listed unknown_names (112 ∷ ds) ≡ false
unfolding unknown_names
not_unknown [] b = absurd b
not_unknown (x ∷ ds) b = ap (λ t. (t && same_text (codes "int") ds) || ((t && same_text (codes "intln") ds) || false)) (no_digit 114 x (omega arith) b.1)

one_number : (n m : ℕ) → n < 2 ^ 64 → m < 2 ^ 64 → numbered_name n ≡ numbered_name m → n ≡ m
one_number n m h k e =
    let rest : decimal n ≡ decimal m = cc in
    sym (decimal_is_IsNumeral n h).1 ∙ ap (digits_value 10) rest ∙ (decimal_is_IsNumeral m k).1

-- ---- how many numbers pass a test

abbrev used_count : (ℕ → Bool) → ℕ → ℕ → ℕ
used_count test n zero = 0
used_count test n (suc room) = cond (test n) (suc (used_count test (suc n) room)) (used_count test (suc n) room)

-- where some are wanted
found_step : (b : Bool) (u count room : ℕ) (xs ys : List (List ℕ)) (w : List ℕ) → (suc count + u ≤ room → length xs ≡ suc count) → (count + u ≤ room → length ys ≡ count)
    → suc count + cond b (suc u) u ≤ suc room → length (cond b xs (w ∷ ys)) ≡ suc count
found_step true u count room xs ys w f g h = f (omega (arith, h))
found_step false u count room xs ys w f g h = ap suc (g (omega (arith, h)))

found : (used : List ℕ → Bool) (n count room : ℕ) → count + used_count (λ k. used (numbered_name k)) n room ≤ room → length (unused_from used n count room) ≡ count
found used n count zero h = omega (arith, h)
found used n zero (suc room) h = refl
found used n (suc count) (suc room) h =
    found_step (used (numbered_name n)) (used_count (λ k. used (numbered_name k)) (suc n) room) count room (unused_from used (suc n) (suc count) room) (unused_from used (suc n) count room) (numbered_name n)
    (found used (suc n) (suc count) room) (found used (suc n) count room) h

both_step : (a b c : Bool) (x y z : ℕ) → (a ≡ true → (b || c) ≡ true) → x ≤ y + z → cond a (suc x) x ≤ cond b (suc y) y + cond c (suc z) z
both_step true true true x y z h l = omega (arith, l)
both_step true true false x y z h l = omega (arith, l)
both_step true false true x y z h l = omega (arith, l)
both_step true false false x y z h l = absurd (cc (h refl))
both_step false true true x y z h l = omega (arith, l)
both_step false true false x y z h l = omega (arith, l)
both_step false false true x y z h l = omega (arith, l)
both_step false false false x y z h l = omega (arith, l)

-- by two tests, one of which a number passes
by_both : (f g k : ℕ → Bool) (n room : ℕ) → ((m : ℕ) → m < n + room → f m ≡ true → (g m || k m) ≡ true) → used_count f n room ≤ used_count g n room + used_count k n room
by_both f g k n zero h = omega arith
by_both f g k n (suc room) h =
    both_step (f n) (g n) (k n) (used_count f (suc n) room) (used_count g (suc n) room) (used_count k (suc n) room) (h n (omega arith))
    (by_both f g k (suc n) room (λ m l. h m (omega (arith, l))))

none_step : (b : Bool) (x : ℕ) → (b ≡ true → ⊥) → x ≡ 0 → cond b (suc x) x ≡ 0
none_step true x h e = absurd (h refl)
none_step false x h e = e

none_passes : (f : ℕ → Bool) (n room : ℕ) → ((m : ℕ) → n ≤ m → m < n + room → f m ≡ true → ⊥) → used_count f n room ≡ 0
none_passes f n zero h = refl
none_passes f n (suc room) h = none_step (f n) (used_count f (suc n) room) (h n (omega arith) (omega arith)) (none_passes f (suc n) room (λ m a l. h m (omega (arith, a)) (omega (arith, l))))

one_step : (b : Bool) (x : ℕ) → x ≤ 1 → (b ≡ true → x ≡ 0) → cond b (suc x) x ≤ 1
one_step true x l h = let e : x ≡ 0 = h refl in omega (arith, e)
one_step false x l h = l

-- a text is the name of one number at most
abbrev names : List ℕ → ℕ → Bool
names w k = same_text w (numbered_name k)

one_passes : (w : List ℕ) (n room : ℕ) → n + room ≤ 2 ^ 64 → used_count (names w) n room ≤ 1
one_passes w n zero h = omega arith
one_passes w n (suc room) h =
    one_step (names w n) (used_count (names w) (suc n) room) (one_passes w (suc n) room (omega (arith, h)))
    (λ t. none_passes (names w) (suc n) room (λ m a l u.
    let same : numbered_name n ≡ numbered_name m = sym (text_same w (numbered_name n) t) ∙ text_same w (numbered_name m) u in
    let e : n ≡ m = one_number n m (omega (arith, h)) (omega (arith, h, l)) same in
    omega (arith, e, a)))

-- texts are the names of as many numbers at most as there are texts
abbrev names_one : List (List ℕ) → ℕ → Bool
names_one ws k = list_any (λ w. same_text w (numbered_name k)) ws

few_pass : (ws : List (List ℕ)) (n room : ℕ) → n + room ≤ 2 ^ 64 → used_count (names_one ws) n room ≤ length ws
few_pass [] n room h = let e : used_count (names_one []) n room ≡ 0 = none_passes (names_one []) n room (λ m a l t. cc) in omega (arith, e)
few_pass (w ∷ ws) n room h =
    let both : used_count (names_one (w ∷ ws)) n room ≤ used_count (names w) n room + used_count (names_one ws) n room = by_both (names_one (w ∷ ws)) (names w) (names_one ws) n room (λ m l t. t) in
    let one : used_count (names w) n room ≤ 1 = one_passes w n room h in
    let rest : used_count (names_one ws) n room ≤ length ws = few_pass ws n room h in
    omega (arith, both, one, rest)

-- ---- the texts of a package

abbrev all_texts : List FileTree → List (List ℕ)
all_texts [] = []
all_texts (f ∷ fs) = map (text_of f.tokens) f.tokens.tokens ++ all_texts fs

as_many : (fs : List FileTree) → length (all_texts fs) ≡ tokens_in fs
as_many [] = refl
as_many (f ∷ fs) =
    let both : length (map (text_of f.tokens) f.tokens.tokens ++ all_texts fs) ≡ length (map (text_of f.tokens) f.tokens.tokens) + length (all_texts fs) = length-append (map (text_of f.tokens) f.tokens.tokens) (all_texts fs) in
    let own : length (map (text_of f.tokens) f.tokens.tokens) ≡ length f.tokens.tokens = length-map f.tokens.tokens (text_of f.tokens) in
    let rest : length (all_texts fs) ≡ tokens_in fs = as_many fs in
    omega (arith, both, own, rest)

first_or : (a b c d : Bool) → (a ≡ true → c ≡ true) → (b ≡ true → d ≡ true) → (a || b) ≡ true → (c || d) ≡ true
first_or true b true d h k e = refl
first_or true b false d h k e = absurd (cc (h refl))
first_or false true true d h k e = refl
first_or false true false d h k e = k refl
first_or false false c d h k e = absurd cc

token_named : (f : FileTree) (w : List ℕ) (ts : List Token) → list_any (is_identifier_token f w) ts ≡ true → list_any (λ v. same_text v w) (map (text_of f.tokens) ts) ≡ true
token_named f w [] h = absurd cc
token_named f w (t ∷ ts) h =
    first_or (is_identifier_token f w t) (list_any (is_identifier_token f w) ts) (same_text (text_of f.tokens t) w) (list_any (λ v. same_text v w) (map (text_of f.tokens) ts))
    (λ a. (and_parts (is_identifier t.kind) (same_text (text_of f.tokens t) w) a).1) (token_named f w ts) h

file_named : (w : List ℕ) (fs : List FileTree) → list_any (names_file w) fs ≡ true → list_any (λ v. same_text v w) (all_texts fs) ≡ true
file_named w [] h = absurd cc
file_named w (f ∷ fs) h =
    list_any-append (λ v. same_text v w) (map (text_of f.tokens) f.tokens.tokens) (all_texts fs)
    ∙ first_or (names_file w f) (list_any (names_file w) fs) (list_any (λ v. same_text v w) (map (text_of f.tokens) f.tokens.tokens)) (list_any (λ v. same_text v w) (all_texts fs))
    (token_named f w f.tokens.tokens) (file_named w fs) h

swapped : (a b c d x y : Bool) → (a ≡ true → x ≡ true) → (b ≡ true → y ≡ true) → c ≡ false → d ≡ false → (a || b || c || d) ≡ true → (y || x) ≡ true
swapped a b c d x true f g h k e = refl
swapped true b c d x false f g h k e = f refl
swapped false true c d x false f g h k e = absurd (cc (g refl))
swapped false false c d x false f g h k e = absurd cc

used_named : (s : Sources) (name : List ℕ) (k : ℕ) → k < 2 ^ 64 → is_used s name (numbered_name k) ≡ true → names_one (name ∷ all_texts s.files) k ≡ true
used_named s name k l h =
    let w = numbered_name k in
    let digit = digit_first k l in
    let keyword : is_keyword w ≡ false = no_keyword (decimal k) digit in
    let known : is_predeclared w ≡ false = (λ j. not_known (decimal k) digit j || not_unknown (decimal k) digit j) in
    swapped (names_package w s) (same_text w name) (is_keyword w) (is_predeclared w) (list_any (λ v. same_text v w) (all_texts s.files)) (same_text name w)
    (file_named w s.files) (text_turned w name) keyword known h

or_false : (a : Bool) → (a || false) ≡ a
or_false true = refl
or_false false = refl

pub are_enough : AreEnough
are_enough s name count small =
    let room = room_for s.files count in
    let ws = name ∷ all_texts s.files in
    let among : used_count (λ k. is_used s name (numbered_name k)) 0 room ≤ used_count (names_one ws) 0 room + used_count (λ k. false) 0 room =
    by_both (λ k. is_used s name (numbered_name k)) (names_one ws) (λ k. false) 0 room (λ m l t. or_false (names_one ws m) ∙ used_named s name m (omega (arith, l, small)) t) in
    let none : used_count (λ k. false) 0 room ≡ 0 = none_passes (λ k. false) 0 room (λ m a l t. cc) in
    let few : used_count (names_one ws) 0 room ≤ length ws = few_pass ws 0 room (omega (arith, small)) in
    let long : length (all_texts s.files) ≡ tokens_in s.files = as_many s.files in
    let whole : length ws ≡ suc (length (all_texts s.files)) = refl in
    let wide : room ≡ count + suc (tokens_in s.files) = refl in
    found (is_used s name) 0 count room (omega (arith, among, none, few, long, whole, wide))
