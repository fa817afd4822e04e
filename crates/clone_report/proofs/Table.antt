-- The table of the classes of windows.
use Rattle.std.proofs.Common.{◌≡◌, ◌∙◌, ◌⊎◌, inl, inr, ℕ, zero, suc, ◌+◌, Bool, true, false, List, [], ◌∷◌, ◌++◌, map, take, cond, Option, Some, None, slice_get, refl, sym, ap, subst, arith, append_assoc}
use Rattle.std.proofs.lemmas.List.{append-nil}
use Rattle.std.proofs.lemmas.Option.{same_Some}
use Rattle.go_typed.specs.declared.window.Window.{Window}
use Rattle.clone_classes.specs.Classes.{AllApart, Among}
use Rattle.clone_report.specs.declared.run.Run.{Run}
use Rattle.clone_report.specs.Keys.{numbered, run_of, same_run, with_number, Tells}
use Rattle.clone_report.proofs.Lists.{among-back, among-either, among-front, among-there}
use Rattle.clone_report.proofs.Windows.{key-same, same-from}

-- ---- one more pair

none-some : (n : ℕ) → None ≡ Some n → ⊥
none-some n e = cc

pub tells-none : (g : Run → Option ℕ) → ((r : Run) → g r ≡ None) → Tells g []
tells-none g e = record { among = λ w n h. none-some n (sym (e (run_of w)) ∙ h); all = λ w n h. absurd h }

pair-eq : (w v : Window) (n m : ℕ) → w ≡ v → n ≡ m → Among {A = Window × ℕ} ((v, m) ∷ []) (w, n)
pair-eq w v n m e f = inl (ap (λ x. (x, n)) e ∙ ap (λ k. (v, k)) f)

not-last : (w v : Window) (n m : ℕ) → same_run (run_of w) (run_of v) ≡ false → Among {A = Window × ℕ} ((w, n) ∷ []) (v, m) → ⊥
not-last w v n m s (inl e) = let c : true ≡ false = sym (same-from w v (sym (ap (λ p. p.0) e))) ∙ s in cc
not-last w v n m s (inr a) = a

told-more : (g : Run → Option ℕ) (ps : List (Window × ℕ)) (w v : Window) (n m : ℕ) → Tells g ps → (b : Bool) → same_run (run_of w) (run_of v) ≡ b → cond b (Some n) (g (run_of v)) ≡ Some m →
    Among (ps ++ (w, n) ∷ []) (v, m)
told-more g ps w v n m h true s e = among-back ps ((w, n) ∷ []) (v, m) (pair-eq v w m n (sym (key-same w v s)) (sym (same_Some n m e)))
told-more g ps w v n m h false s e = among-front ps ((w, n) ∷ []) (v, m) (h.among v m e)

found-before : (g : Run → Option ℕ) (ps : List (Window × ℕ)) (w v : Window) (n m : ℕ) → Tells g ps → same_run (run_of w) (run_of v) ≡ false → Among ps (v, m) ⊎ Among {A = Window × ℕ} ((w, n) ∷ []) (v, m) →
    (k : ℕ) × (g (run_of v) ≡ Some k)
found-before g ps w v n m h s (inl a) = h.all v m a
found-before g ps w v n m h s (inr a) = absurd (not-last w v n m s a)

found-more : (g : Run → Option ℕ) (ps : List (Window × ℕ)) (w v : Window) (n m : ℕ) → Tells g ps → (b : Bool) → same_run (run_of w) (run_of v) ≡ b → Among (ps ++ (w, n) ∷ []) (v, m) →
    (k : ℕ) × (cond b (Some n) (g (run_of v)) ≡ Some k)
found-more g ps w v n m h true s a = (n, refl)
found-more g ps w v n m h false s a = found-before g ps w v n m h s (among-either ps ((w, n) ∷ []) (v, m) a)

pub tells-more : (g g' : Run → Option ℕ) (ps : List (Window × ℕ)) (w : Window) (n : ℕ) → Tells g ps →
    ((r : Run) → g' r ≡ cond (same_run (run_of w) r) (Some n) (g r)) → Tells g' (ps ++ (w, n) ∷ [])
tells-more g g' ps w n h u = record {
  among = λ v m e. told-more g ps w v n m h (same_run (run_of w) (run_of v)) refl (sym (u (run_of v)) ∙ e);
  all = λ v m a. let r = found-more g ps w v n m h (same_run (run_of w) (run_of v)) refl a in (r.0, u (run_of v) ∙ r.1);
}

-- one member more of a class
pub members-more : (n i : ℕ) (ps : List (Window × ℕ)) (ws : List Window) (w : Window) → slice_get ws i ≡ Some w →
    ps ++ map (with_number n) (take (i + 1) ws) ≡ (ps ++ map (with_number n) (take i ws)) ++ (w, n) ∷ []
members-more n i ps [] w e = cc
members-more n zero ps (x ∷ ws) w e =
    let s : x ≡ w = same_Some x w e in
    ap (λ y. ps ++ (y, n) ∷ []) s ∙ ap (λ q. q ++ (w, n) ∷ []) (sym (append-nil ps))
members-more n (suc i) ps (x ∷ ws) w e =
    ap (λ k. ps ++ map (with_number n) (take k (x ∷ ws))) (let k : suc i + 1 ≡ suc (i + 1) = omega arith in k)
    ∙ sym (append_assoc ps ((x, n) ∷ []) (map (with_number n) (take (i + 1) ws)))
    ∙ members-more n i (ps ++ (x, n) ∷ []) ws w e
    ∙ ap (λ q. q ++ (w, n) ∷ []) (append_assoc ps ((x, n) ∷ []) (map (with_number n) (take i ws)))

-- one class more
pub classes-more : (n i : ℕ) (cs : List (List Window)) (c : List Window) → slice_get cs i ≡ Some c → numbered n (take (i + 1) cs) ≡ numbered n (take i cs) ++ map (with_number (n + i)) c
classes-more n i [] c e = cc
classes-more n zero (d ∷ cs) c e =
    let s : d ≡ c = same_Some d c e in
    append-nil (map (with_number n) d) ∙ ap (map (with_number n)) s ∙ ap (λ k. map (with_number k) c) (let k : n ≡ n + 0 = omega arith in k)
classes-more n (suc i) (d ∷ cs) c e =
    ap (λ k. numbered n (take k (d ∷ cs))) (let k : suc i + 1 ≡ suc (i + 1) = omega arith in k)
    ∙ ap (λ q. map (with_number n) d ++ q) (classes-more (suc n) i cs c e)
    ∙ sym (append_assoc (map (with_number n) d) (numbered (suc n) (take i cs)) (map (with_number (suc n + i)) c))
    ∙ ap (λ k. (map (with_number n) d ++ numbered (suc n) (take i cs)) ++ map (with_number k) c) (let k : suc n + i ≡ n + suc i = omega arith in k)

-- ---- what a whole table tells

-- the class of this number has the window
pub record HasAt (cs : List (List Window)) (n : ℕ) (w : Window) : Type 0 where
  pub class : List Window
  pub there : slice_get cs n ≡ Some class
  pub among : Among class w

in-pairs : (n k : ℕ) (c : List Window) (w : Window) → Among (map (with_number k) c) (w, n) → (n ≡ k) × Among c w
in-pairs n k [] w h = absurd h
in-pairs n k (v ∷ c) w (inl e) = (ap (λ p. p.1) e, inl (ap (λ p. p.0) e))
in-pairs n k (v ∷ c) w (inr h) = let r = in-pairs n k c w h in (r.0, inr r.1)

pairs-of : (k : ℕ) (c : List Window) (w : Window) → Among c w → Among (map (with_number k) c) (w, k)
pairs-of k [] w h = absurd h
pairs-of k (v ∷ c) w (inl e) = inl (ap (λ x. (x, k)) e)
pairs-of k (v ∷ c) w (inr h) = inr (pairs-of k c w h)

-- a pair of classes that are numbered on from k
record HasFrom (cs : List (List Window)) (k n : ℕ) (w : Window) : Type 0 where
  at : ℕ
  sum : n ≡ k + at
  has : HasAt cs at w

from-pairs : (cs : List (List Window)) (k n : ℕ) (w : Window) → Among (numbered k cs) (w, n) → HasFrom cs k n w
from-pairs [] k n w h = absurd h
from-pairs (c ∷ cs) k n w h = elim (among-either (map (with_number k) c) (numbered (suc k) cs) (w, n) h) [
  | inl a ↦ let r = in-pairs n k c w a in record { at = 0; sum = r.0 ∙ (let e : k ≡ k + 0 = omega arith in e); has = record { class = c; there = refl; among = r.1 } }
  | inr a ↦ let r = from-pairs cs (suc k) n w a in record { at = suc r.at; sum = r.sum ∙ (let e : suc k + r.at ≡ k + suc r.at = omega arith in e); has = record { class = r.has.class; there = r.has.there; among = r.has.among } }
]

to-pairs : (cs : List (List Window)) (k n : ℕ) (c : List Window) (w : Window) → slice_get cs n ≡ Some c → Among c w → Among (numbered k cs) (w, k + n)
to-pairs [] k n c w e h = cc
to-pairs (d ∷ cs) k zero c w e h =
    let s : c ≡ d = sym (same_Some d c e) in
    let a : Among d w = subst (λ (x : List Window). Among x w) s h in
    among-front (map (with_number k) d) (numbered (suc k) cs) (w, k + 0) (subst (λ (x : ℕ). Among (map (with_number k) d) (w, x)) (let z : k ≡ k + 0 = omega arith in z) (pairs-of k d w a))
to-pairs (d ∷ cs) k (suc n) c w e h =
    among-back (map (with_number k) d) (numbered (suc k) cs) (w, k + suc n)
    (subst (λ (x : ℕ). Among (numbered (suc k) cs) (w, x)) (let z : suc k + n ≡ k + suc n = omega arith in z) (to-pairs cs (suc k) n c w e h))

-- no window stands in two classes that are apart
one-number : (cs : List (List Window)) → AllApart cs → (n m : ℕ) (c d : List Window) (w : Window) → slice_get cs n ≡ Some c → slice_get cs m ≡ Some d → Among c w → Among d w → n ≡ m
one-number [] h n m c d w e f a b = cc
one-number (x ∷ cs) h zero zero c d w e f a b = refl
one-number (x ∷ cs) h zero (suc m) c d w e f a b =
    absurd (h.0 d (among-there cs m d f) w (subst (λ (y : List Window). Among y w) (sym (same_Some x c e)) a) b)
one-number (x ∷ cs) h (suc n) zero c d w e f a b =
    absurd (h.0 c (among-there cs n c e) w (subst (λ (y : List Window). Among y w) (sym (same_Some x d f)) b) a)
one-number (x ∷ cs) h (suc n) (suc m) c d w e f a b = ap suc (one-number cs h.1 n m c d w e f a b)

-- The table tells exactly the class of each window.
pub record Known (g : Run → Option ℕ) (cs : List (List Window)) : Type 0 where
  pub found : (w : Window) (n : ℕ) → g (run_of w) ≡ Some n → HasAt cs n w
  pub held : (w : Window) (n : ℕ) (c : List Window) → slice_get cs n ≡ Some c → Among c w → g (run_of w) ≡ Some n

found-in : (g : Run → Option ℕ) (cs : List (List Window)) → Tells g (numbered 0 cs) → (w : Window) (n : ℕ) → g (run_of w) ≡ Some n → HasAt cs n w
found-in g cs h w n e =
    let r = from-pairs cs 0 n w (h.among w n e) in
    let s : r.at ≡ n = omega (arith, r.sum) in
    subst (λ (k : ℕ). HasAt cs k w) s r.has

pub known : (g : Run → Option ℕ) (cs : List (List Window)) → AllApart cs → Tells g (numbered 0 cs) → Known g cs
known g cs apart h = record {
  found = λ w n e. found-in g cs h w n e;
  held = λ w n c e a.
      let r = h.all w (0 + n) (to-pairs cs 0 n c w e a) in
      let f = found-in g cs h w r.0 r.1 in
      r.1 ∙ ap Some (one-number cs apart r.0 n f.class c w f.there e f.among a);
}
