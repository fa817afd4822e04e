-- The numbers of the windows from one start.
use Rattle.std.proofs.Common.{◌≡◌, ◌∙◌, ℕ, zero, suc, ◌+◌, ◌-◌, ◌<◌, ◌≤◌, Bool, true, false, List, [], ◌∷◌, ◌++◌, length, map, take, drop, Option, Some, None, slice_get, refl, sym, ap, subst, arith, append_assoc, length-append}
use Rattle.std.specs.Prelude.{◌&&◌, if◌then◌else◌, min, nat_eq, nat_le, nat_lt, unwrap_or, Result, Ok, Err, IfOk}
use Rattle.std.specs.List.{AllByRecursion, list_all}
use Rattle.std.proofs.lemmas.Bool.{and_parts, and_from, eqb-true}
use Rattle.std.proofs.lemmas.Bool.Decides.{nat_tests}
use Rattle.std.proofs.lemmas.List.{drop-drop, drop-take}
use Rattle.std.proofs.lemmas.Option.{same_Some}
use Rattle.go_typed.specs.declared.window.Window.{Window}
use Rattle.go_typed.specs.Forms.{is_statement_list, values_count}
use Rattle.go_typed.specs.Funcs.{FuncView, tree_of}
use Rattle.go_typed.specs.Lists.{lists_among, own_list, present, statement_lists, statements_of}
use Rattle.go_typed.specs.Packages.{PackageView, counts, is_below, is_known_func, refers_to}
use Rattle.go_typed.specs.Trees.{Sort, Nothing, Typed, typed, Typeds, none, more, skip, every, every_part, every_form, sort_has, form_of}
use Rattle.clone_window.specs.Windows.{row_of, run_at, statements_in, window_statements}
use Rattle.clone_window.specs.Bodies.{Body, body_of, bodies_of, locals_in, statements_at}
use Rattle.alpha_hash_defs.specs.Naming.{Naming}
use Rattle.alpha_hash_defs.specs.Numbers.{words_hash}
use Rattle.alpha_hash_defs.specs.Packages.{naming_of, window_hash, window_naming}
use Rattle.alpha_hash_defs.specs.Words.{Word, window_words, words}
use Rattle.alpha_hash.specs.declared.list_words.ListWords.{ListWords}
use Rattle.alpha_hash.specs.declared.start.Start.{Start}
use Rattle.alpha_hash.specs.Shown.{shown}
use Rattle.alpha_hash.specs.Starts.{AreWordsOf, HasWords, IsStart, covers, ends_from, number_of, with_count}
use Rattle.alpha_hash.proofs.Folds.{front-within}

-- ---- from words to statements

abbrev row-words : Naming ℕ → List (Typed ℕ) → List Word
row-words n xs = window_words n (row_of xs)

row-split : (n : Naming ℕ) (k : ℕ) (xs : List (Typed ℕ)) → row-words n xs ≡ row-words n (take k xs) ++ row-words n (drop k xs)
row-split n zero [] = refl
row-split n zero (x ∷ xs) = refl
row-split n (suc k) [] = refl
row-split n (suc k) (x ∷ xs) =
    let w = words n false false Nothing x in ap (λ ws. w ++ ws) (row-split n k xs) ∙ sym (append_assoc w (row-words n (take k xs)) (row-words n (drop k xs)))

-- the words of a front are those of a shorter one and of the statements behind it
row-joined : (n : Naming ℕ) (i c : ℕ) (xs : List (Typed ℕ)) → row-words n (take (i + c) xs) ≡ row-words n (take i xs) ++ row-words n (take c (drop i xs))
row-joined n i c xs =
    row-split n i (take (i + c) xs)
    ∙ ap (λ l. row-words n l ++ row-words n (drop i (take (i + c) xs))) (front-within i (i + c) xs (omega arith))
    ∙ ap (λ l. row-words n (take i xs) ++ row-words n l) (drop-take i c xs)

front-of : {A : Type 0} (xs ys : List A) → take (length xs) (xs ++ ys) ≡ xs
front-of [] [] = refl
front-of [] (y ∷ ys) = refl
front-of (x ∷ xs) ys = ap (λ l. x ∷ l) (front-of xs ys)

rest-of : {A : Type 0} (xs ys : List A) → drop (length xs) (xs ++ ys) ≡ ys
rest-of [] [] = refl
rest-of [] (y ∷ ys) = refl
rest-of (x ∷ xs) ys = rest-of xs ys

front-short : {A : Type 0} (xs ys : List A) → length xs ≤ length (xs ++ ys)
front-short xs ys = omega (arith, length-append xs ys)

-- the words of some statements among those of all
row-between : (n : Naming ℕ) (i c : ℕ) (xs : List (Typed ℕ)) →
    take (length (row-words n (take (i + c) xs)) - length (row-words n (take i xs))) (drop (length (row-words n (take i xs))) (row-words n xs)) ≡ row-words n (take c (drop i xs))
row-between n i c xs =
    let a = row-words n (take i xs) in
    let b = row-words n (take c (drop i xs)) in
    let long : length (row-words n (take (i + c) xs)) - length a ≡ length b = omega (arith, ap length (row-joined n i c xs), length-append a b) in
    ap (λ k. take k (drop (length a) (row-words n xs))) long
    ∙ ap (λ ws. take (length b) (drop (length a) ws)) (row-split n i xs)
    ∙ ap (take (length b)) (rest-of a (row-words n (drop i xs)))
    ∙ ap (take (length b)) (row-split n c (drop i xs))
    ∙ front-of b (row-words n (drop c (drop i xs)))

-- ---- ends

end-there : (n : Naming ℕ) (m k : ℕ) (xs : List (Typed ℕ)) → k ≤ length xs → number_of (ends_from n m (row_of xs)) k ≡ m + length (row-words n (take k xs))
end-there n m zero [] h = omega arith
end-there n m zero (x ∷ xs) h = omega arith
end-there n m (suc k) [] h = absurd (omega (arith, h))
end-there n m (suc k) (x ∷ xs) h =
    let w = words n false false Nothing x in
    let e : m + length w + length (row-words n (take k xs)) ≡ m + length (w ++ row-words n (take k xs)) = omega (arith, length-append w (row-words n (take k xs))) in
    end-there n (m + length w) k xs (omega (arith, h)) ∙ e

ends-count : (n : Naming ℕ) (m : ℕ) (xs : List (Typed ℕ)) → length (ends_from n m (row_of xs)) ≡ suc (length xs)
ends-count n m [] = refl
ends-count n m (x ∷ xs) = ap suc (ends-count n (m + length (words n false false Nothing x)) xs)

taken : (g : ℕ → ℕ) (es : List ℕ) (c k : ℕ) → k < c → k < length es → number_of (map g (take c es)) k ≡ g (number_of es k)
taken g [] c k l h = absurd (omega (arith, h))
taken g (e ∷ es) zero k l h = absurd (omega (arith, l))
taken g (e ∷ es) (suc c) zero l h = refl
taken g (e ∷ es) (suc c) (suc k) l h = taken g es c k (omega (arith, l)) (omega (arith, h))

picked : (g : ℕ → ℕ) (es : List ℕ) (i c k : ℕ) → k < c → i + k < length es → number_of (map g (take c (drop i es))) k ≡ g (number_of es (i + k))
picked g [] i c k l h = absurd (omega (arith, h))
picked g (e ∷ es) zero c k l h = taken g (e ∷ es) c k l (omega (arith, h)) ∙ (let n : k ≡ 0 + k = omega arith in ap (λ j. g (number_of (e ∷ es) j)) n)
picked g (e ∷ es) (suc i) c k l h = picked g es i c k l (omega (arith, h)) ∙ (let n : suc (i + k) ≡ suc i + k = omega arith in ap (λ j. g (number_of (e ∷ es) j)) n)

-- ---- numbers

-- the numbers of all fronts of some words
abbrev pub AreNumbers : List Word → List ℕ → Type 0
AreNumbers ws ns = (k : ℕ) → k ≤ length ws → slice_get ns k ≡ Some (words_hash (take k ws))

number-there : (ws front rest : List Word) (ns : List ℕ) → AreNumbers ws ns → ws ≡ front ++ rest → number_of ns (length front) ≡ words_hash front
number-there ws front rest ns h e =
    ap (λ o. unwrap_or o 0) (h (length front) (subst (λ l. length front ≤ length l) (sym e) (front-short front rest)))
    ∙ ap (λ l. words_hash (take (length front) l)) e
    ∙ ap words_hash (front-of front rest)

-- the numbers at the ends of some statements are those of their fronts
row-numbers : (n : Naming ℕ) (xs : List (Typed ℕ)) (i c k : ℕ) (ns : List ℕ) → i + c ≤ length xs → k ≤ c → AreNumbers (row-words n (take c (drop i xs))) ns →
    number_of (map (λ e. number_of ns (e - length (row-words n (take i xs)))) (take (c + 1) (drop i (ends_from n 0 (row_of xs))))) k ≡ words_hash (row-words n (take k (drop i xs)))
row-numbers n xs i c k ns l h are =
    let es = ends_from n 0 (row_of xs) in
    let a = row-words n (take i xs) in
    let front = row-words n (take k (drop i xs)) in
    let rest = row-words n (drop k (take c (drop i xs))) in
    let there : number_of es (i + k) ≡ 0 + length (row-words n (take (i + k) xs)) = end-there n 0 (i + k) xs (omega (arith, l, h)) in
    let far : number_of es (i + k) - length a ≡ length front = omega (arith, there, ap length (row-joined n i k xs), length-append a front) in
    let split : row-words n (take c (drop i xs)) ≡ front ++ rest = row-split n k (take c (drop i xs)) ∙ ap (λ xs'. row-words n xs' ++ rest) (front-within k c (drop i xs) h) in
    picked (λ e. number_of ns (e - length a)) es i (c + 1) k (omega (arith, h)) (omega (arith, ends-count n 0 xs, l, h))
    ∙ ap (number_of ns) far
    ∙ number-there (row-words n (take c (drop i xs))) front rest ns are split

-- ---- statements of runs

abbrev rows-of : Option (Body ℕ) → Window → List (Typed ℕ)
rows-of None w = []
rows-of (Some b) w = take w.count (drop w.first (statements_in (slice_get (statement_lists b.root) w.list)))

rows-are : (o : Option (Body ℕ)) (w : Window) → statements_at o w ≡ row_of (rows-of o w)
rows-are None w = refl
rows-are (Some b) w = refl

cut : {A : Type 0} (i k c : ℕ) (ys : List A) → i + k ≤ c → take k (drop i (take c ys)) ≡ take k (drop i ys)
cut i k c ys h =
    (let e : c ≡ i + (c - i) = omega (arith, h) in ap (λ m. take k (drop i (take m ys))) e)
    ∙ ap (take k) (drop-take i (c - i) ys)
    ∙ front-within k (c - i) (drop i ys) (omega (arith, h))

nothing-between : {A : Type 0} (i k : ℕ) → take {A = A} k (drop i []) ≡ []
nothing-between zero zero = refl
nothing-between zero (suc k) = refl
nothing-between (suc i) zero = refl
nothing-between (suc i) (suc k) = refl

later-rows : (o : Option (Body ℕ)) (w : Window) (i k : ℕ) → i + k ≤ w.count → rows-of o (run_at w.func w.list (w.first + i) k) ≡ take k (drop i (rows-of o w))
later-rows None w i k h = sym (nothing-between i k)
later-rows (Some b) w i k h =
    let all = statements_in (slice_get (statement_lists b.root) w.list) in ap (take k) (sym (drop-drop i w.first all)) ∙ sym (cut i k w.count (drop w.first all) h)

-- the numbers of the windows that begin with one of the statements of a run
pub start-numbers : (p : PackageView) (l : ListWords) → HasWords p l → (i c begin end : ℕ) (row : List Word) (ns outs : List ℕ) → i + c ≤ min l.run.count (length l.ends.items - 1) →
    begin ≡ number_of l.ends.items i → end ≡ number_of l.ends.items (i + c) → row ≡ take (end - begin) (drop begin (shown l.words.items)) → AreNumbers row ns →
    outs ≡ map (λ e. number_of ns (e - begin)) (take (c + 1) (drop i l.ends.items)) → (k : ℕ) → k ≤ c → number_of outs k ≡ window_hash p (run_at l.run.func l.run.list (l.run.first + i) k)
start-numbers p l h i c begin end row ns outs le be ee re are oe k lk =
    let o = slice_get (bodies_of p.functions) l.run.func in
    let n = window_naming p l.run in
    let xs = rows-of o l.run in
    let words_now : shown l.words.items ≡ row-words n xs = h.words_are ∙ ap (window_words n) (rows-are o l.run) in
    let ends_now : l.ends.items ≡ ends_from n 0 (row_of xs) = h.ends_are ∙ ap (ends_from n 0) (rows-are o l.run) in
    let many : i + c ≤ length xs = omega (arith, le, ap length ends_now, ends-count n 0 xs) in
    let within : i + k ≤ l.run.count = omega (arith, le, lk) in
    let begins : begin ≡ length (row-words n (take i xs)) = omega (arith, be ∙ ap (λ es. number_of es i) ends_now ∙ end-there n 0 i xs (omega (arith, many))) in
    let stops : end ≡ length (row-words n (take (i + c) xs)) = omega (arith, ee ∙ ap (λ es. number_of es (i + c)) ends_now ∙ end-there n 0 (i + c) xs many) in
    let row_now : row ≡ row-words n (take c (drop i xs)) =
    re
    ∙ ap (λ ws. take (end - begin) (drop begin ws)) words_now
    ∙ ap (λ b. take (end - b) (drop b (row-words n xs))) begins
    ∙ ap (λ e. take (e - length (row-words n (take i xs))) (drop (length (row-words n (take i xs))) (row-words n xs))) stops
    ∙ row-between n i c xs in
    ap (λ os. number_of os k) oe
    ∙ ap (λ es. number_of (map (λ e. number_of ns (e - begin)) (take (c + 1) (drop i es))) k) ends_now
    ∙ ap (λ b. number_of (map (λ e. number_of ns (e - b)) (take (c + 1) (drop i (ends_from n 0 (row_of xs))))) k) begins
    ∙ row-numbers n xs i c k ns many lk (subst (λ ws. AreNumbers ws ns) row_now are)
    ∙ ap (λ ys. words_hash (row-words n ys)) (sym (later-rows o l.run i k within))
    ∙ ap (λ ps. words_hash (window_words n ps)) (sym (rows-are o (run_at l.run.func l.run.list (l.run.first + i) k)))

-- ---- the words of a run

-- what follows from two promises of one call
pub both-weaker : {A E : Type 0} (r : Result A E) (P Q R : A → Type 0) → ((a : A) → P a → Q a → R a) → IfOk r P → IfOk r Q → IfOk r R
both-weaker (Ok a) P Q R f h k = f a h k
both-weaker (Err e) P Q R f h k = tt

pub body-there : (fs : List FuncView) (i : ℕ) (f : FuncView) → slice_get fs i ≡ Some f → slice_get (bodies_of fs) i ≡ Some (body_of f)
body-there [] i f e = cc
body-there (g ∷ fs) zero f e = ap (λ x. Some (body_of x)) (same_Some g f e)
body-there (g ∷ fs) (suc i) f e = body-there fs i f e

pub no-body : (fs : List FuncView) (i : ℕ) → slice_get fs i ≡ None → slice_get (bodies_of fs) i ≡ None
no-body [] i e = refl
no-body (g ∷ fs) zero e = cc
no-body (g ∷ fs) (suc i) e = no-body fs i e

abbrev words-at : PackageView → Option (Body ℕ) → Window → List Word
words-at p o w = window_words (naming_of p (locals_in o)) (statements_at o w)

abbrev ends-at : PackageView → Option (Body ℕ) → Window → List ℕ
ends-at p o w = ends_from (naming_of p (locals_in o)) 0 (statements_at o w)

-- the words of a run of a function that is there
pub words-there : (p : PackageView) (run : Window) (f : FuncView) (sorts : List (Sort ℕ)) (ps : Typeds ℕ) (l : ListWords) → slice_get p.functions run.func ≡ Some f → sorts ≡ f.locals →
    ps ≡ window_statements (tree_of f) run → l.run ≡ run → AreWordsOf (naming_of p sorts) ps l → HasWords p l
words-there p run f sorts ps l fe le e re h =
    let bodies = bodies_of p.functions in
    let there : slice_get bodies run.func ≡ Some (body_of f) = body-there p.functions run.func f fe in
    record {
      words_are =
          h.words_are
          ∙ ap (λ s. window_words (naming_of p s) ps) le
          ∙ ap (window_words (naming_of p f.locals)) e
          ∙ sym (ap (λ o. words-at p o run) there)
          ∙ sym (ap (λ r. words-at p (slice_get bodies r.func) r) re);
      ends_are =
          h.ends_are
          ∙ ap (λ s. ends_from (naming_of p s) 0 ps) le
          ∙ ap (ends_from (naming_of p f.locals) 0) e
          ∙ sym (ap (λ o. ends-at p o run) there)
          ∙ sym (ap (λ r. ends-at p (slice_get bodies r.func) r) re);
    }

-- and of one of a function that is not
pub no-words : (p : PackageView) (run : Window) (l : ListWords) → slice_get p.functions run.func ≡ None → l.run ≡ run → AreWordsOf (naming_of p []) none l → HasWords p l
no-words p run l fe re h =
    let bodies = bodies_of p.functions in
    let there : slice_get bodies run.func ≡ None = no-body p.functions run.func fe in
    record {
      words_are = h.words_are ∙ sym (ap (λ o. words-at p o run) there) ∙ sym (ap (λ r. words-at p (slice_get bodies r.func) r) re);
      ends_are = h.ends_are ∙ sym (ap (λ o. ends-at p o run) there) ∙ sym (ap (λ r. ends-at p (slice_get bodies r.func) r) re);
    }

-- ---- all types are known

abbrev Known : (ℕ → Bool) → Typed ℕ → Type 0
Known q x = every q x ≡ true

all-parts : (q : ℕ → Bool) (xs ys : List (Typed ℕ)) → AllByRecursion (Known q) xs → AllByRecursion (Known q) ys → AllByRecursion (Known q) (xs ++ ys)
all-parts q [] ys h k = k
all-parts q (x ∷ xs) ys h k = (h.0, all-parts q xs ys h.1 k)

own-known : (q : ℕ → Bool) (x : Typed ℕ) → Known q x → AllByRecursion (Known q) (own_list x)
own-known q x h = by (is_statement_list (form_of x)) where
  by : (b : Bool) → AllByRecursion (Known q) (if b then x ∷ [] else [])
  by true = (h, tt)
  by false = tt

mutual
  lists-known : (q : ℕ → Bool) (x : Typed ℕ) → Known q x → AllByRecursion (Known q) (statement_lists x)
  lists-known q (typed f i j l ps) h =
      all-parts q (own_list (typed f i j l ps)) (lists_among ps) (own-known q (typed f i j l ps) h) (among-known q ps (and_parts (sort_has q l.sort) (every_part q ps) h).1)

  among-known : (q : ℕ → Bool) (ps : Typeds ℕ) → every_part q ps ≡ true → AllByRecursion (Known q) (lists_among ps)
  among-known q none h = tt
  among-known q (more p ps) h = let u = and_parts (every q p) (every_part q ps) h in all-parts q (statement_lists p) (lists_among ps) (lists-known q p u.0) (among-known q ps u.1)
  among-known q (skip ps) h = among-known q ps h

at-index : {A : Type 0} (P : A → Type 0) (xs : List A) (i : ℕ) (x : A) → AllByRecursion P xs → slice_get xs i ≡ Some x → P x
at-index P [] i x h e = cc
at-index P (y ∷ xs) zero x h e = subst P (same_Some y x e) h.0
at-index P (y ∷ xs) (suc i) x h e = at-index P xs i x h.1 e

all-dropped : {A : Type 0} (P : A → Type 0) (n : ℕ) (xs : List A) → AllByRecursion P xs → AllByRecursion P (drop n xs)
all-dropped P zero [] h = tt
all-dropped P (suc n) [] h = tt
all-dropped P zero (x ∷ xs) h = h
all-dropped P (suc n) (x ∷ xs) h = all-dropped P n xs h.1

all-taken : {A : Type 0} (P : A → Type 0) (n : ℕ) (xs : List A) → AllByRecursion P xs → AllByRecursion P (take n xs)
all-taken P zero [] h = tt
all-taken P (suc n) [] h = tt
all-taken P zero (x ∷ xs) h = tt
all-taken P (suc n) (x ∷ xs) h = (h.0, all-taken P n xs h.1)

present-known : (q : ℕ → Bool) (ps : Typeds ℕ) → every_part q ps ≡ true → AllByRecursion (Known q) (present ps)
present-known q none h = tt
present-known q (more p ps) h = let u = and_parts (every q p) (every_part q ps) h in (u.0, present-known q ps u.1)
present-known q (skip ps) h = present-known q ps h

statements-known : (q : ℕ → Bool) (x : Typed ℕ) → Known q x → AllByRecursion (Known q) (statements_of x)
statements-known q (typed f i j l ps) h = all-dropped (Known q) (values_count f) (present ps) (present-known q ps (and_parts (sort_has q l.sort) (every_part q ps) h).1)

row-known : (q : ℕ → Bool) (xs : List (Typed ℕ)) → AllByRecursion (Known q) xs → every_part q (row_of xs) ≡ true
row-known q [] h = refl
row-known q (x ∷ xs) h = and_from (every q x) (every_part q (row_of xs)) h.0 (row-known q xs h.1)

in-known : (q : ℕ → Bool) (root : Typed ℕ) (w : Window) (o : Option (Typed ℕ)) → slice_get (statement_lists root) w.list ≡ o → Known q root → AllByRecursion (Known q) (statements_in o)
in-known q root w None e h = tt
in-known q root w (Some l) e h = statements-known q l (at-index (Known q) (statement_lists root) w.list l (lists-known q root h) e)

pub window-known : (q : ℕ → Bool) (root : Typed ℕ) (w : Window) → every q root ≡ true → every_part q (window_statements root w) ≡ true
window-known q root w h =
    let o = slice_get (statement_lists root) w.list in
    row-known q (take w.count (drop w.first (statements_in o))) (all-taken (Known q) w.count (drop w.first (statements_in o)) (all-dropped (Known q) w.first (statements_in o) (in-known q root w o refl h)))

pub all-at : {A : Type 0} (q : A → Bool) (xs : List A) (i : ℕ) (x : A) → list_all q xs ≡ true → slice_get xs i ≡ Some x → q x ≡ true
all-at q [] i x h e = cc
all-at q (y ∷ xs) zero x h e = sym (ap q (same_Some y x e)) ∙ (and_parts (q y) (list_all q xs) h).0
all-at q (y ∷ xs) (suc i) x h e = all-at q xs i x (and_parts (q y) (list_all q xs) h).1 e

pub record KnownFunction (n : ℕ) (f : FuncView) : Type 0 where
  pub locals : list_all (sort_has (is_below n)) f.locals ≡ true
  pub tree : every (is_below n) (tree_of f) ≡ true

pub function-known : (p : PackageView) (i : ℕ) (f : FuncView) → list_all (is_known_func (counts p) (length p.types.shapes)) p.functions ≡ true → slice_get p.functions i ≡ Some f →
    KnownFunction (length p.types.shapes) f
function-known p i f h e =
    let n = length p.types.shapes in
    let k = all-at (is_known_func (counts p) n) p.functions i f h e in
    let u = and_parts (nat_lt f.signature n && list_all (sort_has (is_below n)) f.locals) (every (is_below n) (tree_of f) && every_form (refers_to (counts p)) (tree_of f)) k in
    record {
      locals = (and_parts (nat_lt f.signature n) (list_all (sort_has (is_below n)) f.locals) u.0).1;
      tree = (and_parts (every (is_below n) (tree_of f)) (every_form (refers_to (counts p)) (tree_of f)) u.1).0;
    }

-- ---- starts

-- a window that a start covers has its number there
pub start-number : (p : PackageView) (s : Start) (w : Window) → IsStart p s → covers s w ≡ true → number_of s.numbers.items w.count ≡ window_hash p w
start-number p s w h c =
    let a = and_parts (nat_eq s.run.func w.func && nat_eq s.run.list w.list && nat_eq s.run.first w.first) (nat_le w.count s.run.count) c in
    let b = and_parts (nat_eq s.run.func w.func && nat_eq s.run.list w.list) (nat_eq s.run.first w.first) a.0 in
    let d = and_parts (nat_eq s.run.func w.func) (nat_eq s.run.list w.list) b.0 in
    let x : s.run.func ≡ w.func = eqb-true s.run.func w.func d.0 in
    let y : s.run.list ≡ w.list = eqb-true s.run.list w.list d.1 in
    let z : s.run.first ≡ w.first = eqb-true s.run.first w.first b.1 in
    let e : with_count s.run w.count ≡ w =
    ap (λ f. run_at f s.run.list s.run.first w.count) x ∙ ap (λ l. run_at w.func l s.run.first w.count) y ∙ ap (λ k. run_at w.func w.list k w.count) z in
    let few : w.count ≤ s.run.count = grind (arith, nat_tests, a.1) in
    h w.count few ∙ ap (window_hash p) e
