-- The objects of tokens where meanings are put in.
use Rattle.std.proofs.Common.{◌≡◌, ℕ, zero, suc, ◌+◌, ◌<◌, ◌≤◌, Bool, true, false, List, [], ◌∷◌, ◌++◌, append-nil, length, map, Option, Some, None, refl, sym, ap, ◌∙◌, subst, arith}
use Rattle.std.specs.Prelude.{if◌then◌else◌, nat_eq, nat_lt, slice_get}
use Rattle.std.specs.Option.{option_map}
use Rattle.std.specs.List.{AllByRecursion}
use Rattle.std.proofs.lemmas.Bool.Decides.{nat_tests}
use Rattle.go_tokens.specs.Tokens.{TokenList}
use Rattle.go_tokens.specs.Spellings.{same_text}
use Rattle.go_tree.specs.declared.event.Event.{Event}
use Rattle.go_tree.specs.declared.event.Event.TheVariants as event
use Rattle.go_tree.specs.declared.object.Object.{Object}
use Rattle.go_tree.specs.declared.object.Predeclared.{Predeclared}
use Rattle.go_tree.specs.Predeclared.{known_names, known_in}
use Rattle.go_tree.specs.Units.{Unit, word, is_blank}
use Rattle.go_tree.specs.Declarations.{Found}
use Rattle.go_tree.specs.Meanings.{Meaning, meaning_at}
use Rattle.go_tree.specs.Objects.{known_object, object_by, object_at, is_declared_at, own_object, token_object, token_objects, objects_from}
use Rattle.go_tree.specs.Uses.{object_there, object_in}
use Rattle.go_heads_added.specs.Added.{Gap, shifted, reaching, longer, Stands, AreLater, NoneSays}
use Rattle.go_heads_added.proofs.Meant.{IsAside, meant_as_before}
use Rattle.go_heads_added.proofs.Numbers.{moved}

choose : (f : Object → Object) (b : Bool) (u v : Option Object) {x y : Option Object} → x ≡ option_map f u → y ≡ option_map f v → (if b then x else y) ≡ option_map f (if b then u else v)
choose f true u v e r = e
choose f false u v e r = r

module _ (k n : ℕ) (name : List ℕ) (end : ℕ) (g : Gap) (xs ds ys : List Meaning) where
  -- the meanings that were there, and those that are
  abbrev pub were : List Meaning
  were = xs ++ ys

  abbrev pub are : List Meaning
  are = map (moved k end g) xs ++ (ds ++ map (moved k end g) ys)

  -- The new meanings are of this name, or not at the old tokens.
  pub record AreAside : Type 0 where
    pub aside : (m t : ℕ) (w : List ℕ) → Stands k n m t → same_text name w ≡ false → AllByRecursion (IsAside m t w) ds
    pub elsewhere : (m t : ℕ) → Stands k n m t → AllByRecursion (λ x. is_declared_at m t x.source ≡ false) ds

  module _ (a : AreAside) where
    known_same : (p : Option Predeclared) → known_object p ≡ option_map (shifted g) (known_object p)
    known_same None = refl
    known_same (Some p) = refl

    by_same : (w : List ℕ) (o : Option Meaning) → object_by w (option_map (moved k end g) o) ≡ option_map (shifted g) (object_by w o)
    by_same w None = known_same (known_in known_names w)
    by_same w (Some m) = refl

    object_moved : (m t : ℕ) (w : List ℕ) → Stands k n m t → same_text name w ≡ false → object_at are m t w ≡ option_map (shifted g) (object_at were m t w)
    object_moved m t w s q =
        choose (shifted g) (is_blank w) _ _ refl
        (ap (object_by w) (meant_as_before (moved k end g) (record { name = λ x. refl; extent = λ x. refl }) m t w xs ds ys (a.aside m t w s q)) ∙ by_same w (meaning_at were m t w))

    source_same : (m t : ℕ) (o : Option Found) → is_declared_at m t (option_map (longer k end) o) ≡ is_declared_at m t o
    source_same m t None = refl
    source_same m t (Some d) = refl

    own_over : (m t : ℕ) (w : List ℕ) (zs us vs : List Meaning) → own_object m t w are vs ≡ option_map (shifted g) (own_object m t w were us)
        → own_object m t w are (map (moved k end g) zs ++ vs) ≡ option_map (shifted g) (own_object m t w were (zs ++ us))
    own_over m t w [] us vs e = e
    own_over m t w (z ∷ zs) us vs e =
        ap (λ b. if b then Some (shifted g z.object) else own_object m t w are (map (moved k end g) zs ++ vs)) (source_same m t z.source)
        ∙ choose (shifted g) (is_declared_at m t z.source) _ _ refl (own_over m t w zs us vs e)

    own_skips : (m t : ℕ) (w : List ℕ) (es vs : List Meaning) → AllByRecursion (λ x. is_declared_at m t x.source ≡ false) es → own_object m t w are (es ++ vs) ≡ own_object m t w are vs
    own_skips m t w [] vs h = refl
    own_skips m t w (e ∷ es) vs h = ap (λ b. if b then Some e.object else own_object m t w are (es ++ vs)) h.0 ∙ own_skips m t w es vs h.1

    own_moved : (m t : ℕ) (w : List ℕ) → Stands k n m t → same_text name w ≡ false → own_object m t w are are ≡ option_map (shifted g) (own_object m t w were were)
    own_moved m t w s q =
        own_over m t w xs ys (ds ++ map (moved k end g) ys)
        (own_skips m t w ds (map (moved k end g) ys) (a.elsewhere m t s)
        ∙ ap (own_object m t w are) (sym (append-nil (map (moved k end g) ys)))
        ∙ own_over m t w ys [] [] (object_moved m t w s q) ∙ ap (λ l. option_map (shifted g) (own_object m t w were l)) (append-nil ys))

    -- a token of a file that is as it was
    token_other : (m t : ℕ) (ts : TokenList) (es : List Event) → Stands k n m t → same_text name (word ts t) ≡ false → token_object are m ts t es ≡ option_map (shifted g) (token_object were m ts t es)
    token_other m t ts [] s q = refl
    token_other m t ts (event.Use u ∷ es) s q = choose (shifted g) (nat_eq u.name t) _ _ (object_moved m t (word ts t) s q) (token_other m t ts es s q)
    token_other m t ts (event.Declaration d ∷ es) s q = choose (shifted g) (nat_eq d.name t) _ _ (own_moved m t (word ts t) s q) (token_other m t ts es s q)
    token_other m t ts (event.Import p ∷ es) s q = token_other m t ts es s q
    token_other m t ts (event.Member x i j ∷ es) s q = token_other m t ts es s q
    token_other m t ts (event.Bodiless i j ∷ es) s q = token_other m t ts es s q
    token_other m t ts (event.Statement i j ∷ es) s q = token_other m t ts es s q
    token_other m t ts (event.Misplaced i j ∷ es) s q = token_other m t ts es s q
    token_other m t ts (event.SecondDefault v ∷ es) s q = token_other m t ts es s q

    -- the new events are of new tokens
    none_later : (m t : ℕ) (ts : TokenList) (es : List Event) → AreLater n es → t < n → token_object are m ts t es ≡ None
    none_later m t ts [] l h = refl
    none_later m t ts (event.Use u ∷ es) l h =
        let z : nat_eq u.name t ≡ false = (let e = l.0 in grind (arith, nat_tests)) in
        ap (λ b. if b then object_at are m t (word ts t) else token_object are m ts t es) z ∙ none_later m t ts es l.1 h
    none_later m t ts (event.Declaration d ∷ es) l h =
        let z : nat_eq d.name t ≡ false = (let e = l.0 in grind (arith, nat_tests)) in
        ap (λ b. if b then own_object m t (word ts t) are are else token_object are m ts t es) z ∙ none_later m t ts es l.1 h
    none_later m t ts (event.Import p ∷ es) l h = none_later m t ts es l h
    none_later m t ts (event.Member x i j ∷ es) l h = none_later m t ts es l h
    none_later m t ts (event.Bodiless i j ∷ es) l h = none_later m t ts es l h
    none_later m t ts (event.Statement i j ∷ es) l h = none_later m t ts es l h
    none_later m t ts (event.Misplaced i j ∷ es) l h = none_later m t ts es l h
    none_later m t ts (event.SecondDefault v ∷ es) l h = none_later m t ts es l h

    -- an old token of the file that is longer
    token_own : (m t : ℕ) (ts us : TokenList) (es added : List Event) → Stands k n m t → t < n → AreLater n added → word us t ≡ word ts t → same_text name (word ts t) ≡ false
        → token_object are m us t (map (reaching end) es ++ added) ≡ option_map (shifted g) (token_object were m ts t es)
    token_own m t ts us [] added s h l w q = none_later m t us added l h
    token_own m t ts us (event.Use u ∷ es) added s h l w q =
        choose (shifted g) (nat_eq u.name t) _ _ (ap (object_at are m t) w ∙ object_moved m t (word ts t) s q) (token_own m t ts us es added s h l w q)
    token_own m t ts us (event.Declaration d ∷ es) added s h l w q =
        choose (shifted g) (nat_eq d.name t) _ _ (ap (λ x. own_object m t x are are) w ∙ own_moved m t (word ts t) s q) (token_own m t ts us es added s h l w q)
    token_own m t ts us (event.Import p ∷ es) added s h l w q = token_own m t ts us es added s h l w q
    token_own m t ts us (event.Member x i j ∷ es) added s h l w q = token_own m t ts us es added s h l w q
    token_own m t ts us (event.Bodiless i j ∷ es) added s h l w q = token_own m t ts us es added s h l w q
    token_own m t ts us (event.Statement i j ∷ es) added s h l w q = token_own m t ts us es added s h l w q
    token_own m t ts us (event.Misplaced i j ∷ es) added s h l w q = token_own m t ts us es added s h l w q
    token_own m t ts us (event.SecondDefault v ∷ es) added s h l w q = token_own m t ts us es added s h l w q

    -- ---- the lists of them

    there : (ms : List Meaning) (m : ℕ) (ts : TokenList) (es : List Event) (i c t : ℕ) → object_there (slice_get (token_objects ms m ts es i c) t) ≡ (if nat_lt t c then token_object ms m ts (i + t) es else None)
    there ms m ts es i zero zero = refl
    there ms m ts es i zero (suc t) = ap (λ b. if b then token_object ms m ts (i + suc t) es else None) (let z : false ≡ nat_lt (suc t) zero = grind (arith, nat_tests) in z)
    there ms m ts es i (suc c) zero =
        ap (λ j. token_object ms m ts j es) (let z : i ≡ i + zero = omega arith in z)
        ∙ ap (λ b. if b then token_object ms m ts (i + zero) es else None) (let z : true ≡ nat_lt zero (suc c) = grind (arith, nat_tests) in z)
    there ms m ts es i (suc c) (suc t) =
        there ms m ts es (suc i) c t
        ∙ ap (λ j. if nat_lt t c then token_object ms m ts j es else None) (let z : suc i + t ≡ i + suc t = omega arith in z)
        ∙ ap (λ b. if b then token_object ms m ts (i + suc t) es else None) (let z : nat_lt t c ≡ nat_lt (suc t) (suc c) = grind (arith, nat_tests) in z)

    abbrev of_file : List Meaning → ℕ → Unit → ℕ → Option Object
    of_file ms m u t = object_in (Some (token_objects ms m u.tokens u.events 0 (length u.tokens.tokens))) t

    file_other : (m t : ℕ) (u : Unit) → Stands k n m t → same_text name (word u.tokens t) ≡ false → of_file are m u t ≡ option_map (shifted g) (of_file were m u t)
    file_other m t u s q =
        there are m u.tokens u.events 0 (length u.tokens.tokens) t
        ∙ choose (shifted g) (nat_lt t (length u.tokens.tokens)) _ _ (subst (λ j. token_object are m u.tokens j u.events ≡ option_map (shifted g) (token_object were m u.tokens j u.events)) (let z : t ≡ 0 + t = omega arith in z) (token_other m t u.tokens u.events s q)) refl
        ∙ ap (option_map (shifted g)) (sym (there were m u.tokens u.events 0 (length u.tokens.tokens) t))

    file_own : (m t : ℕ) (u v : Unit) (added : List Event) → Stands k n m t → t < n → length u.tokens.tokens ≡ n → n ≤ length v.tokens.tokens → v.events ≡ map (reaching end) u.events ++ added → AreLater n added
        → word v.tokens t ≡ word u.tokens t → same_text name (word u.tokens t) ≡ false → of_file are m v t ≡ option_map (shifted g) (of_file were m u t)
    file_own m t u v added s h c l e la w q =
        there are m v.tokens v.events 0 (length v.tokens.tokens) t
        ∙ ap (λ b. if b then token_object are m v.tokens (0 + t) v.events else None) (let z : nat_lt t (length v.tokens.tokens) ≡ true = grind (arith, nat_tests) in z)
        ∙ ap (λ j. token_object are m v.tokens j v.events) (let z : 0 + t ≡ t = omega arith in z)
        ∙ ap (token_object are m v.tokens t) e
        ∙ token_own m t u.tokens v.tokens u.events added s h la w q
        ∙ ap (option_map (shifted g))
        (ap (λ j. token_object were m u.tokens j u.events) (let z : t ≡ 0 + t = omega arith in z)
        ∙ ap (λ b. if b then token_object were m u.tokens (0 + t) u.events else None) (let z : true ≡ nat_lt t (length u.tokens.tokens) = grind (arith, nat_tests) in z)
        ∙ sym (there were m u.tokens u.events 0 (length u.tokens.tokens) t))

    tail_says : (u : Unit) (us : List Unit) → NoneSays name (u ∷ us) → NoneSays name us
    tail_says u us h = record { by = λ m v t e. h.by (suc m) v t e }

    stands_here : (j t : ℕ) → Stands k n (j + 0) t → Stands k n j t
    stands_here j t s = subst (λ i. Stands k n i t) (let z : j + 0 ≡ j = omega arith in z) s

    stands_on : (j m t : ℕ) → Stands k n (j + suc m) t → Stands k n (suc j + m) t
    stands_on j m t s = subst (λ i. Stands k n i t) (let z : j + suc m ≡ suc j + m = omega arith in z) s

    -- the objects of the files from the number j on
    files_other : (us : List Unit) (j m t : ℕ) → Stands k n (j + m) t → NoneSays name us
        → object_in (slice_get (objects_from are j us) m) t ≡ option_map (shifted g) (object_in (slice_get (objects_from were j us) m) t)
    files_other [] j zero t s h = refl
    files_other [] j (suc m) t s h = refl
    files_other (u ∷ us) j zero t s h = file_other j t u (stands_here j t s) (h.by 0 u t refl)
    files_other (u ∷ us) j (suc m) t s h = files_other us (suc j) m t (stands_on j m t s) (tail_says u us h)

    pub files_moved : (before : List Unit) (u v : Unit) (rest : List Unit) (added : List Event) (j m t : ℕ) → j + length before ≡ k → Stands k n (j + m) t → NoneSays name (before ++ u ∷ rest)
        → length u.tokens.tokens ≡ n → n ≤ length v.tokens.tokens → v.events ≡ map (reaching end) u.events ++ added → AreLater n added → ((i : ℕ) → i < n → word v.tokens i ≡ word u.tokens i)
        → object_in (slice_get (objects_from are j (before ++ v ∷ rest)) m) t ≡ option_map (shifted g) (object_in (slice_get (objects_from were j (before ++ u ∷ rest)) m) t)
    files_moved [] u v rest added j zero t p s h c l e la w =
        let s' = stands_here j t s in
        let below : t < n = s' (let z : nat_eq j k ≡ true = grind (arith, nat_tests) in z) in
        file_own j t u v added s' below c l e la (w t below) (h.by 0 u t refl)
    files_moved [] u v rest added j (suc m) t p s h c l e la w = files_other rest (suc j) m t (stands_on j m t s) (tail_says u rest h)
    files_moved (x ∷ xs) u v rest added j zero t p s h c l e la w = file_other j t x (stands_here j t s) (h.by 0 x t refl)
    files_moved (x ∷ xs) u v rest added j (suc m) t p s h c l e la w =
        files_moved xs u v rest added (suc j) m t (let z : suc j + length xs ≡ k = omega (arith, p) in z) (stands_on j m t s) (tail_says x (xs ++ u ∷ rest) h) c l e la w
