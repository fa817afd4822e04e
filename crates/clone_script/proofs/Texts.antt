-- So many bytes and a newline, found by their number.
use Rattle.std.proofs.Common.{◌≡◌, ℕ, zero, suc, ◌≤◌, Bool, true, false, cond, eqb, List, [], ◌∷◌, length, take, drop, replicate, ◌++◌, Ok, Err, refl, sym, ap, ◌∙◌, append_assoc, inl, inr, arith}
use Rattle.std.proofs.lemmas.List.{length-replicate}
use Rattle.std.proofs.lemmas.Bool.{eqb-true}
use Rattle.go_base.specs.Gives.{◌>>=◌}
use Rattle.clone_script.specs.Reading.{bad, more, Read, bytes_at, literal_at}
use Rattle.clone_script.proofs.Readers.{Reads, pair_is, none_left, bind_ok, bind_more}
use Rattle.clone_script.proofs.Numbers.{chosen}

-- the newline behind them included
pub bytes_short : (n : ℕ) (bytes : List ℕ) → length bytes ≤ n → bytes_at n bytes ≡ Err more
unfolding bytes_at
bytes_short zero [] h = refl
bytes_short zero (b ∷ bs) h = absurd (omega (arith, h))
bytes_short (suc n) [] h = refl
bytes_short (suc n) (b ∷ bs) h = rw (bytes_short n bs (omega (arith, h))) refl

abbrev with_first : ℕ → Read (List ℕ) → Read (List ℕ)
with_first b read = read >>= λ x. Ok (b ∷ x.0, x.1)

abbrev with_text : List ℕ → Read (Unit {0}) → Read (List ℕ)
with_text text read = read >>= λ x. Ok (text, x.1)

decided : (b : Bool) (bs : List ℕ) → cond b (Ok ([], bs)) (Err bad) ≡ with_text [] (cond b (Ok (tt, bs)) (Err bad))
decided true bs = refl
decided false bs = refl

put_first : (b : ℕ) (text : List ℕ) (r : Read (Unit {0})) → with_first b (with_text text r) ≡ with_text (b ∷ text) r
put_first b text (Ok x) = refl
put_first b text (Err e) = refl

-- what stands behind the bytes decides
pub bytes_cut : (n : ℕ) (bytes : List ℕ) → n ≤ length bytes → bytes_at n bytes ≡ (literal_at (10 ∷ []) (drop n bytes) >>= λ x. Ok (take n bytes, x.1))
unfolding bytes_at literal_at
bytes_cut zero [] h = refl
bytes_cut zero (b ∷ bs) h = decided (eqb b 10) bs
bytes_cut (suc n) [] h = absurd (omega (arith, h))
bytes_cut (suc n) (b ∷ bs) h = ap (with_first b) (bytes_cut n bs (omega (arith, h))) ∙ put_first b (take n bs) (literal_at (10 ∷ []) (drop n bs))

-- ---- the bytes are read from themselves and from nothing else

-- so many bytes, and the newline that ends them
abbrev pub IsBytesText : ℕ → List ℕ → List ℕ → Type 0
IsBytesText n s text = (length text ≡ n) × (s ≡ text ++ 10 ∷ [])

text_again : (n : ℕ) (text rest : List ℕ) → length text ≡ n → bytes_at n (text ++ 10 ∷ rest) ≡ Ok (text, rest)
unfolding bytes_at
text_again zero [] rest h = refl
text_again zero (b ∷ bs) rest h = absurd (omega (arith, h))
text_again (suc n) [] rest h = absurd (omega (arith, h))
text_again (suc n) (b ∷ bs) rest h = ap (with_first b) (text_again n bs rest (omega (arith, h)))

text_found : (n : ℕ) (bytes text rest : List ℕ) → bytes_at n bytes ≡ Ok (text, rest) → (length text ≡ n) × (bytes ≡ text ++ 10 ∷ rest)
unfolding bytes_at
text_found zero [] text rest e = absurd cc
text_found zero (b ∷ bs) text rest e =
    elim (chosen (eqb b 10) (Ok ([], bs)) (Err bad) (Ok (text, rest)) e) [
      | inl w ↦
          let p = pair_is [] text bs rest w.1 in
          (ap length (sym p.0), ap (λ (z : ℕ). z ∷ bs) (eqb-true b 10 w.0) ∙ ap (λ (z : List ℕ). 10 ∷ z) p.1 ∙ ap (λ (z : List ℕ). z ++ 10 ∷ rest) p.0)
      | inr w ↦ absurd cc
    ]
text_found (suc n) [] text rest e = absurd cc
text_found (suc n) (b ∷ bs) text rest e =
    let h = bind_ok (bytes_at n bs) (λ x. Ok (b ∷ x.0, x.1)) (text, rest) e in
    let t = text_found n bs h.0.0 h.0.1 h.1 in
    let p = pair_is (b ∷ h.0.0) text h.0.1 rest h.2 in
    (ap length (sym p.0) ∙ omega (arith, t.0), ap (λ (z : List ℕ). b ∷ z) t.1 ∙ ap (λ (z : List ℕ). z ++ 10 ∷ h.0.1) p.0 ∙ ap (λ (z : List ℕ). text ++ 10 ∷ z) p.1)

zeros : (n : ℕ) → length {A = ℕ} (replicate n 0) ≡ n
zeros n = length-replicate n 0

text_more : (n : ℕ) (bytes : List ℕ) → bytes_at n bytes ≡ Err more → (text : List ℕ) × (c : ℕ) × (q : List ℕ) × IsBytesText n (bytes ++ c ∷ q) text
unfolding bytes_at
text_more zero [] e = ([], 10, [], (refl, refl))
text_more zero (b ∷ bs) e = elim (chosen (eqb b 10) (Ok ([], bs)) (Err bad) (Err more) e) [ inl w ↦ absurd cc | inr w ↦ absurd cc ]
text_more (suc n) [] e = (0 ∷ replicate n 0, 0, replicate n 0 ++ 10 ∷ [], (ap suc (zeros n), refl))
text_more (suc n) (b ∷ bs) e =
    elim (bind_more (bytes_at n bs) (λ x. Ok (b ∷ x.0, x.1)) e) [
      | inl w ↦ let t = text_more n bs w in (b ∷ t.0, t.1, t.2, (ap suc t.3.0, ap (λ (z : List ℕ). b ∷ z) t.3.1))
      | inr w ↦ absurd cc
    ]

text_short : (n : ℕ) (text bytes q : List ℕ) (c : ℕ) → length text ≡ n → bytes ++ c ∷ q ≡ text ++ 10 ∷ [] → bytes_at n bytes ≡ Err more
unfolding bytes_at
text_short zero text [] q c h e = refl
text_short (suc n) text [] q c h e = refl
text_short zero [] (b ∷ bs) q c h e = let t : bs ++ c ∷ q ≡ [] = cc in absurd (none_left bs q c t)
text_short zero (x ∷ xs) (b ∷ bs) q c h e = absurd (omega (arith, h))
text_short (suc n) [] (b ∷ bs) q c h e = absurd (omega (arith, h))
text_short (suc n) (x ∷ xs) (b ∷ bs) q c h e =
    let t : bs ++ c ∷ q ≡ xs ++ 10 ∷ [] = cc in
    ap (with_first b) (text_short n xs bs q c (omega (arith, h)) t)

pub bytes_read : (n : ℕ) → Reads (IsBytesText n) (bytes_at n)
bytes_read n = record {
  again = λ s rest text t. ap (λ (z : List ℕ). bytes_at n (z ++ rest)) t.1 ∙ ap (bytes_at n) (append_assoc text (10 ∷ []) rest) ∙ text_again n text rest t.0;
  found = λ bytes rest text e. let h = text_found n bytes text rest e in (text ++ 10 ∷ [], (h.0, refl), h.1 ∙ sym (append_assoc text (10 ∷ []) rest));
  ahead = λ bytes e. text_more n bytes e;
  short = λ bytes q c text t. text_short n text bytes q c t.0 t.1;
}
