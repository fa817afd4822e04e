-- What classes have to do with windows that are the same.
use Rattle.std.proofs.Common.{◌≡◌, Bool, true, false, List, [], ◌∷◌, ◌++◌, filter, refl, sym, ap, subst, ◌∙◌, inl, inr}
use Rattle.std.specs.Prelude.{if◌then◌else◌, ◌||◌, not, ◌⊎◌}
use Rattle.std.specs.List.{list_any}
use Rattle.clone_classes.specs.Classes.{class_led_by, classes_from, classes, Among, IsEquivalent, AllApart, Together}

-- ---- lists

among-append : {A : Type 0} (xs ys : List A) (x : A) → Among (xs ++ ys) x → Among xs x ⊎ Among ys x
among-append [] ys x h = inr h
among-append (y ∷ xs) ys x (inl e) = inl (inl e)
among-append (y ∷ xs) ys x (inr h) = elim (among-append xs ys x h) [ inl a ↦ inl (inr a) | inr b ↦ inr b ]

among-front : {A : Type 0} (xs ys : List A) (x : A) → Among xs x → Among (xs ++ ys) x
among-front [] ys x h = absurd h
among-front (y ∷ xs) ys x (inl e) = inl e
among-front (y ∷ xs) ys x (inr h) = inr (among-front xs ys x h)

among-back : {A : Type 0} (xs ys : List A) (x : A) → Among ys x → Among (xs ++ ys) x
among-back [] ys x h = h
among-back (y ∷ xs) ys x h = inr (among-back xs ys x h)

-- what is kept of a list
record Kept {A : Type 0} (test : A → Bool) (xs : List A) (x : A) : Type 0 where
  holds : test x ≡ true
  among : Among xs x

kept-step : {A : Type 0} (test : A → Bool) (y : A) (xs : List A) (x : A) (b : Bool) → test y ≡ b →
    ((Among (filter test xs) x) → Kept test xs x) → Among (if b then y ∷ filter test xs else filter test xs) x → Kept test (y ∷ xs) x
kept-step test y xs x true e rest (inl i) = record { holds = ap test i ∙ e; among = inl i }
kept-step test y xs x true e rest (inr h) = let k = rest h in record { holds = k.holds; among = inr k.among }
kept-step test y xs x false e rest h = let k = rest h in record { holds = k.holds; among = inr k.among }

kept : {A : Type 0} (test : A → Bool) (xs : List A) (x : A) → Among (filter test xs) x → Kept test xs x
kept test [] x h = absurd h
kept test (y ∷ xs) x h = kept-step test y xs x (test y) refl (kept test xs x) h

keeps-step : {A : Type 0} (test : A → Bool) (y : A) (xs : List A) (x : A) (b : Bool) → test y ≡ b → test x ≡ true → ((x ≡ y) ⊎ Among (filter test xs) x) →
    Among (if b then y ∷ filter test xs else filter test xs) x
keeps-step test y xs x true e h (inl i) = inl i
keeps-step test y xs x true e h (inr k) = inr k
keeps-step test y xs x false e h (inl i) = let contra : true ≡ false = sym h ∙ ap test i ∙ e in cc
keeps-step test y xs x false e h (inr k) = k

keeps : {A : Type 0} (test : A → Bool) (xs : List A) (x : A) → test x ≡ true → Among xs x → Among (filter test xs) x
keeps test [] x h k = absurd k
keeps test (y ∷ xs) x h (inl e) = keeps-step test y xs x (test y) refl h (inl e)
keeps test (y ∷ xs) x h (inr k) = keeps-step test y xs x (test y) refl h (inr (keeps test xs x h k))

-- one of a list passes
any-holds : {A : Type 0} (test : A → Bool) (xs : List A) (x : A) → test x ≡ true → Among xs x → list_any test xs ≡ true
any-holds test [] x h k = absurd k
any-holds test (y ∷ xs) x h (inl e) = or-left (test y) (list_any test xs) (sym (ap test e) ∙ h) where
  or-left : (p q : Bool) → p ≡ true → (p || q) ≡ true
  or-left true q e = refl
  or-left false q e = cc
any-holds test (y ∷ xs) x h (inr k) = or-right (test y) (list_any test xs) (any-holds test xs x h k) where
  or-right : (p q : Bool) → q ≡ true → (p || q) ≡ true
  or-right true q e = refl
  or-right false q e = e

record Passes {A : Type 0} (test : A → Bool) (xs : List A) : Type 0 where
  one : A
  holds : test one ≡ true
  among : Among xs one

some-pass : {A : Type 0} (test : A → Bool) (xs : List A) → list_any test xs ≡ true → Passes test xs
some-pass test [] h = cc
some-pass {A} test (y ∷ xs) h = step (λ k. some-pass test xs k) (test y) refl h where
  step : (list_any test xs ≡ true → Passes test xs) → (b : Bool) → test y ≡ b → (b || list_any test xs) ≡ true → Passes test (y ∷ xs)
  step below true e k = record { one = y; holds = e; among = inl refl }
  step below false e k = let p = below k in record { one = p.one; holds = p.holds; among = inr p.among }

-- ---- one class

-- What a class is made of: its first window, which no earlier one is the same as, and the later ones that are the same.
record IsLed {A : Type 0} (same : A → A → Bool) (earlier : List A) (window : A) (later : List A) (class : List A) : Type 0 where
  new : list_any (same window) earlier ≡ false
  more : list_any (same window) later ≡ true
  members : class ≡ window ∷ filter (same window) later

led : {A : Type 0} (same : A → A → Bool) (earlier : List A) (window : A) (later class : List A) → Among (class_led_by same earlier window later) class → IsLed same earlier window later class
led same earlier window later class h = step (list_any (same window) earlier) (list_any (same window) later) refl refl h where
  step : (b d : Bool) → list_any (same window) earlier ≡ b → list_any (same window) later ≡ d →
      Among (if b || not d then [] else (window ∷ filter (same window) later) ∷ []) class → IsLed same earlier window later class
  step true d e f k = absurd k
  step false true e f (inl m) = record { new = e; more = f; members = m }
  step false true e f (inr k) = absurd k
  step false false e f k = absurd k

leads : {A : Type 0} (same : A → A → Bool) (earlier : List A) (window : A) (later : List A) → list_any (same window) earlier ≡ false → list_any (same window) later ≡ true →
    Among (class_led_by same earlier window later) (window ∷ filter (same window) later)
leads {A} same earlier window later e f = step (list_any (same window) earlier) (list_any (same window) later) e f where
  step : (b d : Bool) → b ≡ false → d ≡ true → Among (if b || not d then [] else (window ∷ filter (same window) later) ∷ []) (window ∷ filter (same window) later)
  step true d e f = cc
  step false true e f = inl refl
  step false false e f = cc

-- ---- all classes

-- The members of a class are windows, and each is the same as the first one.
record Members {A : Type 0} (same : A → A → Bool) (here class : List A) : Type 0 where
  first : A
  among : (x : A) → Among class x → Among here x
  alike : (x : A) → Among class x → same first x ≡ true

led-members : {A : Type 0} (same : A → A → Bool) → IsEquivalent same → (earlier : List A) (window : A) (later class : List A) →
    IsLed same earlier window later class → Members same (window ∷ later) class
led-members {A} same q earlier window later class h = record {
  first = window;
  among = λ x k. inside x (subst (λ (c : List A). Among c x) h.members k);
  alike = λ x k. like x (subst (λ (c : List A). Among c x) h.members k);
} where
  inside : (x : A) → (x ≡ window) ⊎ Among (filter (same window) later) x → (x ≡ window) ⊎ Among later x
  inside x (inl e) = inl e
  inside x (inr k) = inr (kept (same window) later x k).among

  like : (x : A) → (x ≡ window) ⊎ Among (filter (same window) later) x → same window x ≡ true
  like x (inl e) = ap (same window) e ∙ q.reflexive window
  like x (inr k) = (kept (same window) later x k).holds

members-from : {A : Type 0} (same : A → A → Bool) → IsEquivalent same → (earlier here class : List A) → Among (classes_from same earlier here) class → Members same here class
members-from same q earlier [] class h = absurd h
members-from {A} same q earlier (w ∷ later) class h =
    step (λ k. members-from same q (earlier ++ w ∷ []) later class k) (among-append (class_led_by same earlier w later) (classes_from same (earlier ++ w ∷ []) later) class h) where
      step : (Among (classes_from same (earlier ++ w ∷ []) later) class → Members same later class) →
          Among (class_led_by same earlier w later) class ⊎ Among (classes_from same (earlier ++ w ∷ []) later) class → Members same (w ∷ later) class
      step below (inl k) = led-members same q earlier w later class (led same earlier w later class k)
      step below (inr k) = let m = below k in record { first = m.first; among = λ x a. inr (m.among x a); alike = m.alike }

-- The members of a class are windows.
pub members-are-windows : {A : Type 0} (same : A → A → Bool) → IsEquivalent same → (windows class : List A) → Among (classes same windows) class →
    (x : A) → Among class x → Among windows x
members-are-windows same q windows class h = (members-from same q [] windows class h).among

-- Two members of a class are the same.
pub members-are-same : {A : Type 0} (same : A → A → Bool) → IsEquivalent same → (windows class : List A) → Among (classes same windows) class →
    (x y : A) → Among class x → Among class y → same x y ≡ true
members-are-same same q windows class h x y a b =
    let m = members-from same q [] windows class h in
    q.transitive x m.first y (q.symmetric m.first x (m.alike x a)) (m.alike y b)

-- ---- no window stands in two classes

contrary : (p : Bool) → p ≡ true → p ≡ false → ⊥
contrary p e f = let c : true ≡ false = sym e ∙ f in cc

-- No member of a class is the same as a window in front of the first one.
new-members : {A : Type 0} (same : A → A → Bool) → IsEquivalent same → (earlier here class : List A) → Among (classes_from same earlier here) class →
    (x e : A) → Among class x → Among earlier e → same x e ≡ true → ⊥
unfolding led-members
new-members same q earlier [] class h x e a b s = absurd h
new-members {A} same q earlier (w ∷ later) class h x e a b s =
    step (λ k. new-members same q (earlier ++ w ∷ []) later class k x e a (among-front earlier (w ∷ []) e b) s)
    (among-append (class_led_by same earlier w later) (classes_from same (earlier ++ w ∷ []) later) class h) where
      step : (Among (classes_from same (earlier ++ w ∷ []) later) class → ⊥) →
          Among (class_led_by same earlier w later) class ⊎ Among (classes_from same (earlier ++ w ∷ []) later) class → ⊥
      step below (inl k) =
          let l = led same earlier w later class k in
          let m = led-members same q earlier w later class l in
          contrary (list_any (same w) earlier) (any-holds (same w) earlier e (q.transitive w x e (m.alike x a) s) b) l.new
      step below (inr k) = below k

apart-from : {A : Type 0} (same : A → A → Bool) → IsEquivalent same → (earlier here : List A) → AllApart (classes_from same earlier here)
unfolding led-members
apart-from same q earlier [] = tt
apart-from {A} same q earlier (w ∷ later) =
    step (apart-from same q (earlier ++ w ∷ []) later) (class_led_by same earlier w later) (λ c k. k) (single (list_any (same w) earlier || not (list_any (same w) later)) (w ∷ filter (same w) later)) where
      rest : List (List A)
      rest = classes_from same (earlier ++ w ∷ []) later

      Single : List (List A) → Type 0
      Single [] = Unit {0}
      Single (c ∷ []) = Unit {0}
      Single (c ∷ d ∷ ds) = ⊥

      single : (b : Bool) (c : List A) → Single (if b then [] else c ∷ [])
      single true c = tt
      single false c = tt

      step : AllApart rest → (cs : List (List A)) → ((c : List A) → Among cs c → Among (class_led_by same earlier w later) c) → Single cs → AllApart (cs ++ rest)
      step below [] f s = below
      step below (c ∷ []) f s =
          let l = led same earlier w later c (f c (inl refl)) in
          let m = led-members same q earlier w later c l in (
            (λ d k x a b. new-members same q (earlier ++ w ∷ []) later d k x w b (among-back earlier (w ∷ []) w (inl refl)) (q.symmetric w x (m.alike x a))),
            below,
          )
      step below (c ∷ d ∷ ds) f s = absurd s

pub no-window-in-two : {A : Type 0} (same : A → A → Bool) → IsEquivalent same → (windows : List A) → AllApart (classes same windows)
no-window-in-two same q windows = apart-from same q [] windows

-- ---- windows that are the same stand in one class

none-holds : {A : Type 0} (test : A → Bool) (xs : List A) → ((x : A) → Among xs x → test x ≡ true → ⊥) → list_any test xs ≡ false
none-holds {A} test xs h = step (list_any test xs) refl where
  step : (b : Bool) → list_any test xs ≡ b → list_any test xs ≡ false
  step true e = let p = some-pass test xs e in absurd (h p.one p.among p.holds)
  step false e = e

together-from : {A : Type 0} (same : A → A → Bool) → IsEquivalent same → (earlier here : List A) (x y : A) → (x ≡ y → ⊥) → same x y ≡ true →
    ((e : A) → Among earlier e → same x e ≡ true → ⊥) → Among here x → Among here y → Together (classes_from same earlier here) x y
together-from same q earlier [] x y n s new a b = absurd a
together-from {A} same q earlier (w ∷ later) x y n s new a b =
    step (λ newer k j. together-from same q (earlier ++ w ∷ []) later x y n s newer k j) (same w x) refl a b where
      cs : List (List A)
      cs = class_led_by same earlier w later

      rest : List (List A)
      rest = classes_from same (earlier ++ w ∷ []) later

      in_class : (z : A) → same w z ≡ true → (z ≡ w) ⊎ Among later z → Among (w ∷ filter (same w) later) z
      in_class z h (inl e) = inl e
      in_class z h (inr k) = inr (keeps (same w) later z h k)

      follows : same w x ≡ true → (x ≡ w) ⊎ Among later x → (y ≡ w) ⊎ Among later y → list_any (same w) later ≡ true
      follows h (inl e) (inl f) = absurd (n (e ∙ sym f))
      follows h (inl e) (inr k) = any-holds (same w) later y (q.transitive w x y h s) k
      follows h (inr k) j = any-holds (same w) later x h k

      newer : same w x ≡ false → (e : A) → Among (earlier ++ w ∷ []) e → same x e ≡ true → ⊥
      newer h e k g = turn (among-append earlier (w ∷ []) e k) where
        turn : Among earlier e ⊎ Among (w ∷ []) e → ⊥
        turn (inl a) = new e a g
        turn (inr (inl i)) = contrary (same w x) (q.symmetric x w (subst (λ (z : A). same x z ≡ true) i g)) h
        turn (inr (inr z)) = z

      step : (((e : A) → Among (earlier ++ w ∷ []) e → same x e ≡ true → ⊥) → Among later x → Among later y → Together rest x y) →
          (b : Bool) → same w x ≡ b → (x ≡ w) ⊎ Among later x → (y ≡ w) ⊎ Among later y → Together (cs ++ rest) x y
      step below true h i j =
          let free : list_any (same w) earlier ≡ false = none-holds (same w) earlier (λ e k g. new e k (q.transitive x w e (q.symmetric w x h) g)) in
          record {
            class = w ∷ filter (same w) later;
            listed = among-front cs rest (w ∷ filter (same w) later) (leads same earlier w later free (follows h i j));
            one = in_class x h i;
            other = in_class y (q.transitive w x y h s) j;
          }
      step below false h (inl e) j = absurd (contrary (same w x) (ap (same w) e ∙ q.reflexive w) h)
      step below false h (inr k) (inl f) = absurd (contrary (same w x) (q.symmetric x w (subst (λ (z : A). same x z ≡ true) f s)) h)
      step below false h (inr k) (inr j) =
          let t = below (newer h) k j in
          record { class = t.class; listed = among-back cs rest t.class t.listed; one = t.one; other = t.other }

pub same-stand-together : {A : Type 0} (same : A → A → Bool) → IsEquivalent same → (windows : List A) (x y : A) → (x ≡ y → ⊥) → same x y ≡ true →
    Among windows x → Among windows y → Together (classes same windows) x y
same-stand-together same q windows x y n s = together-from same q [] windows x y n s (λ e k g. k)
