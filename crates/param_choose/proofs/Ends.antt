-- Where locals occur last, and where they stand first.
use Rattle.std.proofs.Common.{◌≡◌, ◌∙◌, ℕ, zero, suc, ◌+◌, ◌-◌, ◌<◌, ◌≤◌, Bool, true, false, List, []}
use Rattle.std.proofs.Common.{◌∷◌, ◌++◌, length, map, replicate, Option, Some, None, slice_get, slice_set, take, drop, get_or, refl, sym, ap, arith}
use Rattle.std.specs.Prelude.{◌||◌, nat_eq, nat_le, nat_lt, if◌then◌else◌, cond, is_some, unwrap_or}
use Rattle.std.specs.List.{list_any, zip}
use Rattle.std.specs.Option.{option_map}
use Rattle.std.proofs.lemmas.Bool.{and_parts, eqb-true, eqb-false, ltb-true}
use Rattle.std.proofs.lemmas.Bool.Decides.{nat_tests}
use Rattle.std.proofs.lemmas.List.{get_or-set_same, get_or-set_other, length-set, length-take-le, take_more, drop_more, drop_all, append-nil, append_assoc}
use Rattle.std.proofs.lemmas.Option.{slice_get-map}
use Rattle.go_typed.specs.Funcs.{FuncView, are_below, is_this, named_at}
use Rattle.go_typed.specs.Windows.{use_at, uses_from}
use Rattle.param_choose.specs.Ends.{ends_by, ends_of, end_at, place_in}
use Rattle.param_choose.specs.Members.{names_local, occurs_from, second_of}
use Rattle.param_choose.proofs.Tokens.{any-append, or-false}

-- ---- tokens that name a local

-- whether one of the tokens from the number i on names the local
abbrev pub among : ℕ → List (Option ℕ) → ℕ → Bool
among i [] n = false
among zero (t ∷ ts) n = is_this n t || among zero ts n
among (suc i) (t ∷ ts) n = among i ts n

use-shift : (n i : ℕ) (o : Option ℕ) → list_any (names_local n) (use_at (suc i) o) ≡ list_any (names_local n) (use_at i o)
use-shift n i None = refl
use-shift n i (Some m) = refl

shift : (n : ℕ) (t : Option ℕ) (ts : List (Option ℕ)) (i c : ℕ) → list_any (names_local n) (uses_from (t ∷ ts) (suc i) c) ≡ list_any (names_local n) (uses_from ts i c)
shift n t ts i zero = refl
shift n t ts i (suc c) =
    any-append (names_local n) (use_at (suc i) (named_at ts i)) (uses_from (t ∷ ts) (suc (suc i)) c)
    ∙ ap (λ b. b || list_any (names_local n) (uses_from (t ∷ ts) (suc (suc i)) c)) (use-shift n i (named_at ts i))
    ∙ ap (λ b. list_any (names_local n) (use_at i (named_at ts i)) || b) (shift n t ts (suc i) c)
    ∙ sym (any-append (names_local n) (use_at i (named_at ts i)) (uses_from ts (suc i) c))

this-use : (n : ℕ) (t : Option ℕ) → list_any (names_local n) (use_at 0 t) ≡ is_this n t
this-use n None = refl
this-use n (Some m) = or-false (nat_eq n m)

pub occurs-among : (tokens : List (Option ℕ)) (i n : ℕ) → occurs_from tokens i n ≡ among i tokens n
occurs-among [] i n = let e : 0 - i ≡ 0 = omega arith in ap (λ c. list_any (names_local n) (uses_from [] i c)) e
occurs-among (t ∷ ts) zero n =
    let e : length (t ∷ ts) - 0 ≡ suc (length ts) = omega arith in
    let f : length ts ≡ length ts - 0 = omega arith in
    ap (λ c. list_any (names_local n) (uses_from (t ∷ ts) 0 c)) e
    ∙ any-append (names_local n) (use_at 0 t) (uses_from (t ∷ ts) 1 (length ts))
    ∙ ap (λ b. b || list_any (names_local n) (uses_from (t ∷ ts) 1 (length ts))) (this-use n t)
    ∙ ap (λ b. is_this n t || b) (shift n t ts 0 (length ts) ∙ ap (λ c. list_any (names_local n) (uses_from ts 0 c)) f ∙ occurs-among ts 0 n)
occurs-among (t ∷ ts) (suc i) n =
    let e : length (t ∷ ts) - suc i ≡ length ts - i = omega arith in
    ap (λ c. list_any (names_local n) (uses_from (t ∷ ts) (suc i) c)) e ∙ shift n t ts i (length ts - i) ∙ occurs-among ts i n

-- ---- the last ones

-- from some token on, of tokens the first of which has the number k
abbrev behind : ℕ → ℕ → List (Option ℕ) → ℕ → Bool
behind i k ts n = among (i - k) ts n

early : (i k : ℕ) (t : Option ℕ) (ts : List (Option ℕ)) (n : ℕ) → i ≤ k → behind i k (t ∷ ts) n ≡ (is_this n t || behind i (suc k) ts n)
early i k t ts n h =
    let e : i - k ≡ 0 = omega arith in
    let f : 0 ≡ i - suc k = omega arith in
    ap (λ j. among j (t ∷ ts) n) e ∙ ap (λ j. is_this n t || among j ts n) f

late : (i k : ℕ) (t : Option ℕ) (ts : List (Option ℕ)) (n : ℕ) → k < i → behind i k (t ∷ ts) n ≡ behind i (suc k) ts n
late i k t ts n h = let e : i - k ≡ suc (i - suc k) = omega arith in ap (λ j. among j (t ∷ ts) n) e

-- the ends so far are no greater than the number of the next token
abbrev AreEnds : List ℕ → ℕ → Type 0
AreEnds es k = (n : ℕ) → end_at es n ≤ k

or-first : (a b : Bool) → a ≡ true → (a || b) ≡ true
or-first a b h = ap (λ c. c || b) h

none-more : (es : List ℕ) (k i n : ℕ) (ts : List (Option ℕ)) → AreEnds es k → (nat_lt i (end_at es n) || behind i k (None ∷ ts) n) ≡ (nat_lt i (end_at es n) || behind i (suc k) ts n)
none-more es k i n ts h = by (nat_le i k) refl where
  by : (b : Bool) → nat_le i k ≡ b → (nat_lt i (end_at es n) || behind i k (None ∷ ts) n) ≡ (nat_lt i (end_at es n) || behind i (suc k) ts n)
  by true e = ap (λ c. nat_lt i (end_at es n) || c) (early i k None ts n (grind (arith, nat_tests, e)))
  by false e = ap (λ c. nat_lt i (end_at es n) || c) (late i k None ts n (grind (arith, nat_tests, e)))

-- another local's end stays
other-end : (es : List ℕ) (k m n : ℕ) → nat_eq n m ≡ false → end_at (slice_set es m (suc k)) n ≡ end_at es n
other-end es k m n e = get_or-set_other es m n (suc k) 0 (eqb-false n m e)

same-end : (es : List ℕ) (k m n : ℕ) → m < length es → nat_eq n m ≡ true → end_at (slice_set es m (suc k)) n ≡ suc k
same-end es k m n h e = ap (end_at (slice_set es m (suc k))) (eqb-true n m e) ∙ get_or-set_same es m (suc k) 0 h

or-true : (a : Bool) → (a || true) ≡ true
or-true true = refl
or-true false = refl

some-more : (es : List ℕ) (k i m n : ℕ) (ts : List (Option ℕ)) → AreEnds es k → m < length es →
    (nat_lt i (end_at es n) || behind i k (Some m ∷ ts) n) ≡ (nat_lt i (end_at (slice_set es m (suc k)) n) || behind i (suc k) ts n)
some-more es k i m n ts h l = by (nat_le i k) (nat_eq n m) refl refl where
  rest : Bool
  rest = behind i (suc k) ts n

  by : (b c : Bool) → nat_le i k ≡ b → nat_eq n m ≡ c →
      (nat_lt i (end_at es n) || behind i k (Some m ∷ ts) n) ≡ (nat_lt i (end_at (slice_set es m (suc k)) n) || behind i (suc k) ts n)
  by true true e g =
      let s : end_at (slice_set es m (suc k)) n ≡ suc k = same-end es k m n l g in
      let low : nat_lt i (suc k) ≡ true = grind (arith, nat_tests, e) in
      ap (λ c. nat_lt i (end_at es n) || c) (early i k (Some m) ts n (grind (arith, nat_tests, e)) ∙ ap (λ c. c || rest) g)
      ∙ or-true (nat_lt i (end_at es n))
      ∙ sym (ap (λ c. c || rest) (ap (nat_lt i) s ∙ low))
  by true false e g =
      ap (λ c. nat_lt i (end_at es n) || c) (early i k (Some m) ts n (grind (arith, nat_tests, e)) ∙ ap (λ c. c || rest) g)
      ∙ sym (ap (λ c. nat_lt i c || rest) (other-end es k m n g))
  by false true e g =
      let s : end_at (slice_set es m (suc k)) n ≡ suc k = same-end es k m n l g in
      let high : nat_lt i (suc k) ≡ false = grind (arith, nat_tests, e) in
      let bound : end_at es n ≤ k = h n in
      let before : nat_lt i (end_at es n) ≡ false = grind (arith, nat_tests, e, bound) in
      ap (λ c. nat_lt i (end_at es n) || c) (late i k (Some m) ts n (grind (arith, nat_tests, e)))
      ∙ ap (λ c. c || rest) before
      ∙ sym (ap (λ c. c || rest) (ap (nat_lt i) s ∙ high))
  by false false e g =
      ap (λ c. nat_lt i (end_at es n) || c) (late i k (Some m) ts n (grind (arith, nat_tests, e)))
      ∙ sym (ap (λ c. nat_lt i c || rest) (other-end es k m n g))

ends-set : (es : List ℕ) (k m : ℕ) → AreEnds es k → m < length es → AreEnds (slice_set es m (suc k)) (suc k)
ends-set es k m h l n = by (nat_eq n m) refl where
  by : (c : Bool) → nat_eq n m ≡ c → end_at (slice_set es m (suc k)) n ≤ suc k
  by true g = let s : end_at (slice_set es m (suc k)) n ≡ suc k = same-end es k m n l g in omega (arith, s)
  by false g = let s : end_at (slice_set es m (suc k)) n ≡ end_at es n = other-end es k m n g in let b : end_at es n ≤ k = h n in omega (arith, s, b)

ends-more : (es : List ℕ) (k : ℕ) → AreEnds es k → AreEnds es (suc k)
ends-more es k h n = let b : end_at es n ≤ k = h n in omega (arith, b)

ends-tell : (ts : List (Option ℕ)) (es : List ℕ) (k i n : ℕ) → are_below (length es) ts ≡ true → AreEnds es k →
    nat_lt i (end_at (ends_by es k ts) n) ≡ (nat_lt i (end_at es n) || behind i k ts n)
ends-tell [] es k i n h g = sym (or-false (nat_lt i (end_at es n)))
ends-tell (None ∷ ts) es k i n h g = ends-tell ts es (suc k) i n h (ends-more es k g) ∙ sym (none-more es k i n ts g)
ends-tell (Some m ∷ ts) es k i n h g =
    let p = and_parts (nat_lt m (length es)) (are_below (length es) ts) h in
    let l : m < length es = ltb-true m (length es) p.0 in
    ends-tell ts (slice_set es m (suc k)) (suc k) i n (ap (λ c. are_below c ts) (length-set es m (suc k)) ∙ p.1) (ends-set es k m g l)
    ∙ sym (some-more es k i m n ts g l)

no-end : (c n : ℕ) → end_at (replicate c 0) n ≡ 0
no-end zero n = refl
no-end (suc c) zero = refl
no-end (suc c) (suc n) = no-end c n

length-zeros : (c : ℕ) → length {A = ℕ} (replicate c 0) ≡ c
length-zeros zero = refl
length-zeros (suc c) = ap suc (length-zeros c)

-- a local occurs behind a token exactly where its last one lies further
pub ends_occur : (f : FuncView) → are_below (length f.locals) f.tokens ≡ true → (i n : ℕ) → nat_lt i (end_at (ends_of f) n) ≡ occurs_from f.tokens i n
ends_occur f h i n =
    let zs : List ℕ = replicate (length f.locals) 0 in
    let b : AreEnds zs 0 = λ m. (let e : end_at zs m ≡ 0 = no-end (length f.locals) m in omega (arith, e)) in
    let low : nat_lt i (end_at zs n) ≡ false = ap (nat_lt i) (no-end (length f.locals) n) ∙ grind (arith, nat_tests) in
    let s : i - 0 ≡ i = omega arith in
    ends-tell f.tokens zs 0 i n (ap (λ c. are_below c f.tokens) (length-zeros (length f.locals)) ∙ h) b
    ∙ ap (λ c. c || behind i 0 f.tokens n) low
    ∙ ap (λ j. among j f.tokens n) s
    ∙ sym (occurs-among f.tokens i n)

-- the same of each local of a row
pub later_row : (f : FuncView) → are_below (length f.locals) f.tokens ≡ true → (upto : ℕ) (pairs : List (ℕ × ℕ)) (ns : List ℕ) →
    map (λ n. nat_lt upto (end_at (ends_of f) (second_of pairs n))) ns ≡ map (λ n. occurs_from f.tokens upto (second_of pairs n)) ns
later_row f h upto pairs [] = refl
later_row f h upto pairs (n ∷ ns) =
    ap (λ b. b ∷ map (λ k. nat_lt upto (end_at (ends_of f) (second_of pairs k))) ns) (ends_occur f h upto (second_of pairs n))
    ∙ ap (λ bs. occurs_from f.tokens upto (second_of pairs n) ∷ bs) (later_row f h upto pairs ns)

-- ---- first places

abbrev pub place_then : Option ℕ → ℕ → Bool → Option ℕ
place_then (Some p) k b = Some p
place_then None k b = if b then Some k else None

one-further : (o : Option ℕ) (k : ℕ) (b : Bool) → option_map suc (place_then o k b) ≡ place_then (option_map suc o) (suc k) b
one-further (Some p) k b = refl
one-further None k true = refl
one-further None k false = refl

-- of one number more
pub place_more : (xs : List ℕ) (x n : ℕ) → place_in (xs ++ x ∷ []) n ≡ place_then (place_in xs n) (length xs) (nat_eq x n)
place_more [] x n = refl
place_more (y ∷ xs) x n = by (nat_eq y n) refl (place_more xs x n) where
  by : (b : Bool) → nat_eq y n ≡ b → place_in (xs ++ x ∷ []) n ≡ place_then (place_in xs n) (length xs) (nat_eq x n) →
      place_in ((y ∷ xs) ++ x ∷ []) n ≡ place_then (place_in (y ∷ xs) n) (length (y ∷ xs)) (nat_eq x n)
  by true e r =
      ap (λ c. if c then Some 0 else option_map suc (place_in (xs ++ x ∷ []) n)) e
      ∙ sym (ap (λ c. place_then (if c then Some 0 else option_map suc (place_in xs n)) (suc (length xs)) (nat_eq x n)) e)
  by false e r =
      ap (λ c. if c then Some 0 else option_map suc (place_in (xs ++ x ∷ []) n)) e
      ∙ ap (option_map suc) r
      ∙ one-further (place_in xs n) (length xs) (nat_eq x n)
      ∙ sym (ap (λ c. place_then (if c then Some 0 else option_map suc (place_in xs n)) (suc (length xs)) (nat_eq x n)) e)

-- what stands at a place, or a number where there is no such place
abbrev pub at_place : Option ℕ → List ℕ → ℕ → ℕ
at_place None ys n = n
at_place (Some p) ys n = unwrap_or (slice_get ys p) n

nothing-there : (o : Option ℕ) (n : ℕ) → n ≡ at_place o [] n
nothing-there None n = refl
nothing-there (Some p) n = refl

one-place : (o : Option ℕ) (y : ℕ) (ys : List ℕ) (n : ℕ) → at_place o ys n ≡ at_place (option_map suc o) (y ∷ ys) n
one-place None y ys n = refl
one-place (Some p) y ys n = refl

-- the second one of a pair by the first place of its first one
pub second_at : (xs ys : List ℕ) (n : ℕ) → second_of (zip xs ys) n ≡ at_place (place_in xs n) ys n
second_at [] ys n = refl
second_at (x ∷ xs) [] n = nothing-there (place_in (x ∷ xs) n) n
second_at (x ∷ xs) (y ∷ ys) n = by (nat_eq x n) refl (second_at xs ys n) where
  by : (b : Bool) → nat_eq x n ≡ b → second_of (zip xs ys) n ≡ at_place (place_in xs n) ys n → second_of (zip (x ∷ xs) (y ∷ ys)) n ≡ at_place (place_in (x ∷ xs) n) (y ∷ ys) n
  by true e r = ap (λ c. if c then y else second_of (zip xs ys) n) e ∙ sym (ap (λ c. at_place (if c then Some 0 else option_map suc (place_in xs n)) (y ∷ ys) n) e)
  by false e r =
      ap (λ c. if c then y else second_of (zip xs ys) n) e
      ∙ r
      ∙ one-place (place_in xs n) y ys n
      ∙ sym (ap (λ c. at_place (if c then Some 0 else option_map suc (place_in xs n)) (y ∷ ys) n) e)

-- ---- as loops tell it

-- one answer more
pub row_more : (F : ℕ → Bool) (xs : List ℕ) (i : ℕ) (row : List Bool) → i < length xs → map F xs ≡ row ++ map F (drop i xs) →
    map F xs ≡ (row ++ F (get_or xs i 0) ∷ []) ++ map F (drop (i + 1) xs)
row_more F xs i row l h = h ∙ ap (λ ys. row ++ map F ys) (drop_more xs i 0 l) ∙ sym (append_assoc row (F (get_or xs i 0) ∷ []) (map F (drop (i + 1) xs)))

-- all answers
pub row_whole : (F : ℕ → Bool) (xs : List ℕ) (i : ℕ) (row : List Bool) → length xs ≤ i → map F xs ≡ row ++ map F (drop i xs) → row ≡ map F xs
row_whole F xs i row l h = sym (h ∙ ap (λ ys. row ++ map F ys) (drop_all i xs l) ∙ append-nil row)

-- the places of one number more
place-next : (xs : List ℕ) (i n : ℕ) → i < length xs → place_in (take (i + 1) xs) n ≡ place_then (place_in (take i xs) n) i (nat_eq (get_or xs i 0) n)
place-next xs i n l =
    ap (λ ys. place_in ys n) (take_more xs i 0 l)
    ∙ place_more (take i xs) (get_or xs i 0) n
    ∙ ap (λ k. place_then (place_in (take i xs) n) k (nat_eq (get_or xs i 0) n)) (length-take-le i xs (omega (arith, l)))

put-there : (o : Option ℕ) (i : ℕ) (b : Bool) → (b ≡ true → o ≡ None) → cond b (Some i) o ≡ place_then o i b
put-there o i true h = sym (ap (λ p. place_then p i true) (h refl))
put-there (Some p) i false h = refl
put-there None i false h = refl

kept-there : (o : Option ℕ) (i : ℕ) (b : Bool) → (b ≡ true → is_some o ≡ true) → o ≡ place_then o i b
kept-there (Some p) i b h = refl
kept-there None i true h = let e : false ≡ true = h refl in cc
kept-there None i false h = refl

nothing-here : (o : Option ℕ) → is_some o ≡ false → o ≡ None
nothing-here None h = refl
nothing-here (Some p) h = cc

-- where the number is new
pub place_put : (old new : ℕ → Option ℕ) (xs : List ℕ) (i : ℕ) → i < length xs → ((n : ℕ) → old n ≡ place_in (take i xs) n) → is_some (old (get_or xs i 0)) ≡ false
    → ((n : ℕ) → new n ≡ cond (nat_eq (get_or xs i 0) n) (Some i) (old n)) → (n : ℕ) → new n ≡ place_in (take (i + 1) xs) n
place_put old new xs i l h absent puts n =
    let x : ℕ = get_or xs i 0 in
    let same : nat_eq x n ≡ true → old n ≡ None = λ t. (ap old (sym (eqb-true x n t)) ∙ nothing-here (old x) absent) in
    puts n ∙ put-there (old n) i (nat_eq x n) same ∙ ap (λ o. place_then o i (nat_eq x n)) (h n) ∙ sym (place-next xs i n l)

-- where it has a place
pub place_kept : (old : ℕ → Option ℕ) (xs : List ℕ) (i : ℕ) → i < length xs → ((n : ℕ) → old n ≡ place_in (take i xs) n) → is_some (old (get_or xs i 0)) ≡ true
    → (n : ℕ) → old n ≡ place_in (take (i + 1) xs) n
place_kept old xs i l h there n =
    let x : ℕ = get_or xs i 0 in
    let same : nat_eq x n ≡ true → is_some (old n) ≡ true = λ t. (ap (λ k. is_some (old k)) (sym (eqb-true x n t)) ∙ there) in
    kept-there (old n) i (nat_eq x n) same ∙ ap (λ o. place_then o i (nat_eq x n)) (h n) ∙ sym (place-next xs i n l)

-- the row of a function among those of all
pub row_at : (fs : List FuncView) (rows : List (List ℕ)) (k : ℕ) (f : FuncView) → rows ≡ map ends_of fs → slice_get fs k ≡ Some f → slice_get rows k ≡ Some (ends_of f)
row_at fs rows k f e h = ap (λ rs. slice_get rs k) e ∙ slice_get-map ends_of fs k ∙ ap (option_map ends_of) h
