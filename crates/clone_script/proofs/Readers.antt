-- Readers and what they read. A reader takes from the front exactly what is spelled so, and says of other bytes
-- whether they are the beginning of such a spelling.
use Rattle.std.proofs.Common.{◌≡◌, ℕ, ◌⊎◌, inl, inr, List, [], ◌∷◌, ◌++◌, Result, Ok, Err, refl, sym, ap, subst, ◌∙◌, append_assoc}
use Rattle.std.proofs.lemmas.List.{append-nil}
use Rattle.go_base.specs.Gives.{◌>>=◌}
use Rattle.clone_script.specs.Reading.{Refusal, bad, more, Read, or_else}

pub record Reads {A : Type 0} (S : List ℕ → A → Type 0) (f : List ℕ → Read A) : Type 0 where
  pub again : (s rest : List ℕ) (a : A) → S s a → f (s ++ rest) ≡ Ok (a, rest)
  pub found : (bytes rest : List ℕ) (a : A) → f bytes ≡ Ok (a, rest) → (s : List ℕ) × S s a × (bytes ≡ s ++ rest)
  pub ahead : (bytes : List ℕ) → f bytes ≡ Err more → (a : A) × (c : ℕ) × (q : List ℕ) × S (bytes ++ c ∷ q) a
  pub short : (bytes q : List ℕ) (c : ℕ) (a : A) → S (bytes ++ c ∷ q) a → f bytes ≡ Err more

pub reads_as : {A : Type 0} (S T : List ℕ → A → Type 0) (f : List ℕ → Read A) → Reads S f → ((s : List ℕ) (a : A) → S s a → T s a) → ((s : List ℕ) (a : A) → T s a → S s a) → Reads T f
reads_as S T f r to from = record {
  again = λ s rest a t. r.again s rest a (from s a t);
  found = λ bytes rest a e. let x = r.found bytes rest a e in (x.0, to x.0 a x.1, x.2);
  ahead = λ bytes e. let x = r.ahead bytes e in (x.0, x.1, x.2, to (bytes ++ x.1 ∷ x.2) x.0 x.3);
  short = λ bytes q c a t. r.short bytes q c a (from (bytes ++ c ∷ q) a t);
}

abbrev Answer : Type 0 → Type 0
Answer A = Result A Refusal

abbrev pub ok : {A : Type 0} → A → Answer A
ok x = Ok x

abbrev no : {A : Type 0} → Refusal → Answer A
no e = Err e

pub bind_ok : {A B : Type 0} (r : Answer A) (f : A → Answer B) (y : B) → (r >>= f) ≡ Ok y → (x : A) × (r ≡ Ok x) × (f x ≡ Ok y)
bind_ok (Ok x) f y e = (x, refl, e)
bind_ok (Err d) f y e = absurd cc

pub bind_more : {A B : Type 0} (r : Answer A) (f : A → Answer B) → (r >>= f) ≡ Err more → (r ≡ Err more) ⊎ ((x : A) × (r ≡ Ok x) × (f x ≡ Err more))
bind_more (Ok x) f e = inr (x, refl, e)
bind_more (Err d) f e = inl (ap (λ (d : Refusal). no d) cc)

-- where two ways to cut bytes meet
pub cut : (x y bytes q : List ℕ) (c : ℕ) → bytes ++ c ∷ q ≡ x ++ y → ((r : List ℕ) × (x ≡ bytes ++ c ∷ r)) ⊎ ((r : List ℕ) × (bytes ≡ x ++ r) × (y ≡ r ++ c ∷ q))
cut [] y bytes q c e = inr (bytes, refl, sym e)
cut (x ∷ xs) y [] q c e = let h : x ≡ c = cc in inl (xs, ap (λ (z : ℕ). z ∷ xs) h)
cut (x ∷ xs) y (b ∷ bs) q c e =
    let h : x ≡ b = cc in
    let t : bs ++ c ∷ q ≡ xs ++ y = cc in
    elim (cut xs y bs q c t) [
      | inl w ↦ inl (w.0, rw (h, w.1) refl)
      | inr w ↦ inr (w.0, rw (h, w.1) refl, w.2)
    ]

-- one spelling behind another
abbrev pub Then : {A B : Type 0} → (List ℕ → A → Type 0) → (A → List ℕ → B → Type 0) → List ℕ → B → Type 0
Then S T s b = (a : _) × (x : List ℕ) × (y : List ℕ) × S x a × T a y b × (s ≡ x ++ y)

abbrev pub then : {A B : Type 0} → (List ℕ → Read A) → (A → List ℕ → Read B) → List ℕ → Read B
then f g bytes = f bytes >>= λ x. g x.0 x.1

pub then_reads : {A B : Type 0} (S : List ℕ → A → Type 0) (T : A → List ℕ → B → Type 0) (f : List ℕ → Read A) (g : A → List ℕ → Read B)
    → Reads S f → ((a : A) → Reads (T a) (g a)) → ((a : A) → (y : List ℕ) × (b : B) × T a y b) → Reads (Then S T) (then f g)
then_reads {A} {B} S T f g F G I = record {
  again = λ s rest b t.
      let whole : s ++ rest ≡ t.1 ++ (t.2 ++ rest) = ap (λ (z : List ℕ). z ++ rest) t.5 ∙ append_assoc t.1 t.2 rest in
      let first : f (s ++ rest) ≡ Ok (t.0, t.2 ++ rest) = ap f whole ∙ F.again t.1 (t.2 ++ rest) t.0 t.3 in
      ap (λ (z : Read A). z >>= λ x. g x.0 x.1) first ∙ (G t.0).again t.2 rest b t.4;
  found = λ bytes rest b e.
      let h = bind_ok (f bytes) (λ x. g x.0 x.1) (b, rest) e in
      let x = F.found bytes h.0.1 h.0.0 h.1 in
      let y = (G h.0.0).found h.0.1 rest b h.2 in
      (x.0 ++ y.0, (h.0.0, x.0, y.0, x.1, y.1, refl), x.2 ∙ ap (λ (z : List ℕ). x.0 ++ z) y.2 ∙ sym (append_assoc x.0 y.0 rest));
  ahead = λ bytes e.
      elim (bind_more (f bytes) (λ x. g x.0 x.1) e) [
        | inl w ↦
            let x = F.ahead bytes w in
            let y = I x.0 in
            (y.1, x.1, x.2 ++ y.0, (x.0, bytes ++ x.1 ∷ x.2, y.0, x.3, y.2, sym (append_assoc bytes (x.1 ∷ x.2) y.0)))
        | inr w ↦
            let x = F.found bytes w.0.1 w.0.0 w.1 in
            let y = (G w.0.0).ahead w.0.1 w.2 in
            (y.0, y.1, y.2, (w.0.0, x.0, w.0.1 ++ y.1 ∷ y.2, x.1, y.3, ap (λ (z : List ℕ). z ++ y.1 ∷ y.2) x.2 ∙ append_assoc x.0 w.0.1 (y.1 ∷ y.2)))
      ];
  short = λ bytes q c b t.
      elim (cut t.1 t.2 bytes q c t.5) [
        | inl w ↦ ap (λ (z : Read A). z >>= λ x. g x.0 x.1) (F.short bytes w.0 c t.0 (subst (λ (z : List ℕ). S z t.0) w.1 t.3))
        | inr w ↦
            let first : f bytes ≡ Ok (t.0, w.0) = ap f w.1 ∙ F.again t.1 w.0 t.0 t.3 in
            ap (λ (z : Read A). z >>= λ x. g x.0 x.1) first ∙ (G t.0).short w.0 q c b (subst (λ (z : List ℕ). T t.0 z b) w.2 t.4)
      ];
}

-- nothing more, and this value
abbrev pub Only : {A : Type 0} → A → List ℕ → A → Type 0
Only a s b = (s ≡ []) × (b ≡ a)

pub none_left : (bytes q : List ℕ) (c : ℕ) → bytes ++ c ∷ q ≡ [] → ⊥
none_left [] q c e = absurd cc
none_left (b ∷ bs) q c e = absurd cc

pub pair_is : {A : Type 0} (a b : A) (x y : List ℕ) → ok {A = A × List ℕ} (a, x) ≡ ok {A = A × List ℕ} (b, y) → (a ≡ b) × (x ≡ y)
pair_is {A} a b x y e =
    let same : (a, x) ≡ (b, y) = cc in
    (ap (λ (p : A × List ℕ). p.0) same, ap (λ (p : A × List ℕ). p.1) same)

pub only_reads : {A : Type 0} (a : A) → Reads (Only a) (λ bytes. Ok (a, bytes))
only_reads a = record {
  again = λ s rest b t. rw (t.0, t.1) refl;
  found = λ bytes rest b e. let p = pair_is a b bytes rest e in ([], (refl, sym p.0), p.1);
  ahead = λ bytes e. absurd cc;
  short = λ bytes q c b t. absurd (none_left bytes q c t.0);
}

-- ---- the first of two that reads anything

abbrev pub Either : {A : Type 0} → (List ℕ → A → Type 0) → (List ℕ → A → Type 0) → List ℕ → A → Type 0
Either S T s a = S s a ⊎ T s a

or_ok : {A : Type 0} (r o : Read A) (y : A × List ℕ) → or_else r o ≡ Ok y → (r ≡ Ok y) ⊎ ((r ≡ Err bad) × (o ≡ Ok y))
or_ok (Ok x) o y e = inl e
or_ok (Err bad) o y e = inr (refl, e)
or_ok (Err more) o y e = absurd cc

or_more : {A : Type 0} (r o : Read A) → or_else r o ≡ Err more → (r ≡ Err more) ⊎ ((r ≡ Err bad) × (o ≡ Err more))
or_more (Ok x) o e = absurd cc
or_more (Err bad) o e = inr (refl, e)
or_more (Err more) o e = inl refl

ok_not_bad : {A : Type 0} (r : Read A) (y : A × List ℕ) → r ≡ Ok y → r ≡ Err bad → ⊥
ok_not_bad r y e f = absurd cc

-- of a beginning: the first reading is at its end, or finds it bad and the second one decides
or_short : {A : Type 0} (r o : Read A) → ((y : A × List ℕ) → r ≡ Ok y → ⊥) → o ≡ Err more → or_else r o ≡ Err more
or_short (Ok x) o h e = absurd (h x refl)
or_short (Err bad) o h e = e
or_short (Err more) o h e = refl

pub or_reads : {A : Type 0} (S T : List ℕ → A → Type 0) (f g : List ℕ → Read A) → Reads S f → Reads T g → ((s rest : List ℕ) (a : A) → T s a → f (s ++ rest) ≡ Err bad) → Reads (Either S T) (λ bytes. or_else (f bytes) (g bytes))
or_reads {A} S T f g F G apart = record {
  again = λ s rest a t.
      elim t [
        | inl w ↦ ap (λ (z : Read A). or_else z (g (s ++ rest))) (F.again s rest a w)
        | inr w ↦ ap (λ (z : Read A). or_else z (g (s ++ rest))) (apart s rest a w) ∙ G.again s rest a w
      ];
  found = λ bytes rest a e.
      elim (or_ok (f bytes) (g bytes) (a, rest) e) [
        | inl w ↦ let x = F.found bytes rest a w in (x.0, inl x.1, x.2)
        | inr w ↦ let x = G.found bytes rest a w.1 in (x.0, inr x.1, x.2)
      ];
  ahead = λ bytes e.
      elim (or_more (f bytes) (g bytes) e) [
        | inl w ↦ let x = F.ahead bytes w in (x.0, x.1, x.2, inl x.3)
        | inr w ↦ let x = G.ahead bytes w.1 in (x.0, x.1, x.2, inr x.3)
      ];
  short = λ bytes q c a t.
      elim t [
        | inl w ↦ ap (λ (z : Read A). or_else z (g bytes)) (F.short bytes q c a w)
        | inr w ↦ or_short (f bytes) (g bytes) (λ y e.
            let x = F.found bytes y.1 y.0 e in
            let goes_on : bytes ++ c ∷ q ≡ x.0 ++ (y.1 ++ c ∷ q) = ap (λ (z : List ℕ). z ++ c ∷ q) x.2 ∙ append_assoc x.0 y.1 (c ∷ q) in
            ok_not_bad (f (bytes ++ c ∷ q)) (y.0, y.1 ++ c ∷ q) (ap f goes_on ∙ F.again x.0 (y.1 ++ c ∷ q) y.0 x.1)
            (ap f (sym (append-nil (bytes ++ c ∷ q))) ∙ apart (bytes ++ c ∷ q) [] a w)) (G.short bytes q c a w)
      ];
}

-- nothing is read
pub none_reads : {A : Type 0} → Reads (λ (s : List ℕ) (a : A). ⊥) (λ bytes. Err bad)
none_reads = record {
  again = λ s rest a t. absurd t;
  found = λ bytes rest a e. absurd cc;
  ahead = λ bytes e. absurd cc;
  short = λ bytes q c a t. absurd t;
}
