-- Numbers of members are read from their text and from nothing else.
use Rattle.std.proofs.Common.{◌≡◌, ℕ, ◌+◌, ◌-◌, ◌*◌, ◌^◌, ◌<◌, ◌≤◌, ◌⊎◌, inl, inr, Bool, true, false, cond, eqb, List, [], ◌∷◌, ◌++◌, length, Option, Some, None, Result, Ok, Err, refl, sym, ap, subst, ◌∙◌, append_assoc, arith}
use Rattle.std.specs.Prelude.{nat_lt}
use Rattle.std.proofs.lemmas.List.{append-nil, length-append}
use Rattle.std.proofs.lemmas.Bool.{eqb-true}
use Rattle.std.specs.Fmt.{decimal}
use Rattle.std.proofs.lemmas.Fmt.{decimal_digit}
use Rattle.go_base.specs.Gives.{◌>>=◌}
use Rattle.clone_script.specs.Reading.{Refusal, bad, more, Read, or_bad, with_digit, next_number}
use Rattle.clone_script.specs.Members.{most_number, blank, newline, least_room, numbers_from, numbers_at}
use Rattle.clone_script.specs.Grammar.{AreNumbers, behind_number, numbers_text}
use Rattle.clone_script.proofs.Readers.{Reads, pair_is, none_left, bind_ok, bind_more}
use Rattle.clone_script.proofs.Numbers.{chosen, or_bad_ok, or_bad_more, adds, next_adds, next_some, with_first, one_more, first_digit, AreDigits, behind, behind_least, Numeral, numeral, not_end}

-- ---- what the bytes spell behind the digits that were read

abbrev so_far : Option ℕ → List ℕ
so_far None = []
so_far (Some n) = decimal n

abbrev IsSmall : Option ℕ → Type 0
IsSmall None = Unit {0}
IsSmall (Some n) = n ≤ most_number

record Spelled (number : Option ℕ) (room : ℕ) (s ns : List ℕ) : Type 0 where
  pub some : 0 < length ns
  pub small : AreNumbers ns
  pub text : so_far number ++ s ≡ numbers_text ns
  pub few : length s ≤ room

enough : (room n : ℕ) → nat_lt room n ≡ false → n ≤ room
enough room n e = grind arith

has_room : (room n : ℕ) → n ≤ room → nat_lt room n ≡ false
has_room room n h = grind arith

behind_some : (ns : List ℕ) → 0 < length ns → behind_number ns ≡ blank ∷ numbers_text ns
behind_some [] h = absurd (omega (arith, h))
behind_some (n ∷ ns) h = refl

-- a first digit in front
first_spelled : (room b m : ℕ) (s ns : List ℕ) → 2 ≤ room → decimal m ≡ b ∷ [] → Spelled (Some m) (room - 1) s ns → Spelled None room (b ∷ s) ns
first_spelled room b m s ns h e t = record {
  some = t.some;
  small = t.small;
  text = sym (ap (λ (z : List ℕ). z ++ s) e) ∙ t.text;
  few = omega (arith, t.few, h);
}

-- one more digit in front
digit_spelled : (room b n m : ℕ) (s ns : List ℕ) → 1 ≤ room → decimal m ≡ decimal n ++ b ∷ [] → Spelled (Some m) (room - 1) s ns → Spelled (Some n) room (b ∷ s) ns
digit_spelled room b n m s ns h e t = record {
  some = t.some;
  small = t.small;
  text = sym (append_assoc (decimal n) (b ∷ []) s) ∙ sym (ap (λ (z : List ℕ). z ++ s) e) ∙ t.text;
  few = omega (arith, t.few, h);
}

-- a blank and further numbers
blank_spelled : (room n : ℕ) (s ns : List ℕ) → 1 ≤ room → n ≤ most_number → Spelled None (room - 1) s ns → Spelled (Some n) room (blank ∷ s) (n ∷ ns)
blank_spelled room n s ns h small t = record {
  some = omega arith;
  small = (small, t.small);
  text = ap (λ (z : List ℕ). decimal n ++ (blank ∷ z)) t.text ∙ sym (ap (λ (z : List ℕ). decimal n ++ z) (behind_some ns t.some));
  few = omega (arith, t.few, h);
}

last_spelled : (room n : ℕ) → 1 ≤ room → n ≤ most_number → Spelled (Some n) room (newline ∷ []) (n ∷ [])
last_spelled room n h small = record { some = omega arith; small = (small, tt); text = refl; few = h }

-- no number fits into the bytes that are left
pub no_room : (room : ℕ) (number : Option ℕ) (bytes : List ℕ) → room < least_room number → numbers_from room number bytes ≡ Err bad
unfolding numbers_from
no_room room None [] h = let e : nat_lt room 2 ≡ true = grind arith in rw e refl
no_room room (Some n) [] h = let e : nat_lt room 1 ≡ true = grind arith in rw e refl
no_room room None (b ∷ bs) h = let e : nat_lt room 2 ≡ true = grind arith in rw e refl
no_room room (Some n) (b ∷ bs) h = let e : nat_lt room 1 ≡ true = grind arith in rw e refl

-- ---- what was read is spelled

abbrev Found : Option ℕ → ℕ → List ℕ → List ℕ → List ℕ → Type 0
Found number room bytes ns rest = (s : List ℕ) × Spelled number room s ns × (bytes ≡ s ++ rest)

found : (bytes : List ℕ) (room : ℕ) (number : Option ℕ) (ns rest : List ℕ) → IsSmall number → numbers_from room number bytes ≡ Ok (ns, rest) → Found number room bytes ns rest
unfolding numbers_from
found [] room number ns rest small e = elim (chosen (nat_lt room (least_room number)) (Err bad) (Err more) (Ok (ns, rest)) e) [ inl v ↦ absurd cc | inr v ↦ absurd cc ]
found (b ∷ bs) room None ns rest small e =
    elim (chosen (nat_lt room 2) (Err bad) (or_bad (with_digit most_number 0 b) (λ n. numbers_from (room - 1) (Some n) bs)) (Ok (ns, rest)) e) [
      | inl v ↦ absurd cc
      | inr v ↦
          let h = or_bad_ok (with_digit most_number 0 b) (λ n. numbers_from (room - 1) (Some n) bs) (ns, rest) v.1 in
          let a = adds most_number 0 b h.0 h.1 in
          let t = found bs (room - 1) (Some h.0) ns rest a.inside h.2 in
          (b ∷ t.0, first_spelled room b h.0 t.0 ns (enough room 2 v.0) (first_digit most_number b h.0 a) t.1, ap (λ (z : List ℕ). b ∷ z) t.2)
    ]
found (b ∷ bs) room (Some n) ns rest small e =
    let further : Read (List ℕ) = (numbers_from (room - 1) None bs >>= λ x. Ok (n ∷ x.0, x.1)) in
    let digits : Read (List ℕ) = or_bad (next_number most_number n b) (λ m. numbers_from (room - 1) (Some m) bs) in
    elim (chosen (nat_lt room 1) (Err bad) (cond (eqb b newline) (Ok (n ∷ [], bs)) (cond (eqb b blank) further digits)) (Ok (ns, rest)) e) [
      | inl v ↦ absurd cc
      | inr v ↦
          let one = enough room 1 v.0 in
          elim (chosen (eqb b newline) (Ok (n ∷ [], bs)) (cond (eqb b blank) further digits) (Ok (ns, rest)) v.1) [
            | inl u ↦
                let p = pair_is (n ∷ []) ns bs rest u.1 in
                (newline ∷ [], subst (λ (z : List ℕ). Spelled (Some n) room (newline ∷ []) z) p.0 (last_spelled room n one small), ap (λ (z : ℕ). z ∷ bs) (eqb-true b newline u.0) ∙ ap (λ (z : List ℕ). newline ∷ z) p.1)
            | inr u ↦ elim (chosen (eqb b blank) further digits (Ok (ns, rest)) u.1) [
              | inl w ↦
                  let h = bind_ok (numbers_from (room - 1) None bs) (λ x. Ok (n ∷ x.0, x.1)) (ns, rest) w.1 in
                  let p = pair_is (n ∷ h.0.0) ns h.0.1 rest h.2 in
                  let t = found bs (room - 1) None h.0.0 h.0.1 tt h.1 in (
                    blank ∷ t.0,
                    subst (λ (z : List ℕ). Spelled (Some n) room (blank ∷ t.0) z) p.0 (blank_spelled room n t.0 h.0.0 one small t.1),
                    ap (λ (z : ℕ). z ∷ bs) (eqb-true b blank w.0) ∙ ap (λ (z : List ℕ). blank ∷ z) t.2 ∙ ap (λ (z : List ℕ). (blank ∷ t.0) ++ z) p.1,
                  )
              | inr w ↦
                  let h = or_bad_ok (next_number most_number n b) (λ m. numbers_from (room - 1) (Some m) bs) (ns, rest) w.1 in
                  let a = next_adds most_number n b h.0 h.1 in
                  let t = found bs (room - 1) (Some h.0) ns rest a.1.inside h.2 in
                  (b ∷ t.0, digit_spelled room b n h.0 t.0 ns one (one_more most_number n b h.0 (omega arith) a.0 a.1) t.1, ap (λ (z : List ℕ). b ∷ z) t.2)
            ]
          ]
    ]

-- ---- where the bytes end within numbers, some spelling goes on

abbrev Ahead : Option ℕ → ℕ → List ℕ → Type 0
Ahead number room bytes = (ns : List ℕ) × (c : ℕ) × (q : List ℕ) × Spelled number room (bytes ++ c ∷ q) ns

ended_ahead : (room : ℕ) (number : Option ℕ) → IsSmall number → least_room number ≤ room → Ahead number room []
ended_ahead room None small h = (0 ∷ [], 48, newline ∷ [], record { some = omega arith; small = (omega arith, tt); text = rw (decimal_digit 0 (omega arith)) refl; few = h })
ended_ahead room (Some n) small h = (n ∷ [], newline, [], last_spelled room n h small)

ahead : (bytes : List ℕ) (room : ℕ) (number : Option ℕ) → IsSmall number → numbers_from room number bytes ≡ Err more → Ahead number room bytes
unfolding numbers_from
ahead [] room number small e =
    elim (chosen (nat_lt room (least_room number)) (Err bad) (Err more) (Err more) e) [
      | inl v ↦ absurd cc
      | inr v ↦ ended_ahead room number small (enough room (least_room number) v.0)
    ]
ahead (b ∷ bs) room None small e =
    elim (chosen (nat_lt room 2) (Err bad) (or_bad (with_digit most_number 0 b) (λ n. numbers_from (room - 1) (Some n) bs)) (Err more) e) [
      | inl v ↦ absurd cc
      | inr v ↦
          let h = or_bad_more (with_digit most_number 0 b) (λ n. numbers_from (room - 1) (Some n) bs) v.1 in
          let a = adds most_number 0 b h.0 h.1 in
          let t = ahead bs (room - 1) (Some h.0) a.inside h.2 in
          (t.0, t.1, t.2, first_spelled room b h.0 (bs ++ t.1 ∷ t.2) t.0 (enough room 2 v.0) (first_digit most_number b h.0 a) t.3)
    ]
ahead (b ∷ bs) room (Some n) small e =
    let further : Read (List ℕ) = (numbers_from (room - 1) None bs >>= λ x. Ok (n ∷ x.0, x.1)) in
    let digits : Read (List ℕ) = or_bad (next_number most_number n b) (λ m. numbers_from (room - 1) (Some m) bs) in
    elim (chosen (nat_lt room 1) (Err bad) (cond (eqb b newline) (Ok (n ∷ [], bs)) (cond (eqb b blank) further digits)) (Err more) e) [
      | inl v ↦ absurd cc
      | inr v ↦
          let one = enough room 1 v.0 in
          elim (chosen (eqb b newline) (Ok (n ∷ [], bs)) (cond (eqb b blank) further digits) (Err more) v.1) [
            | inl u ↦ absurd cc
            | inr u ↦ elim (chosen (eqb b blank) further digits (Err more) u.1) [
              | inl w ↦ elim (bind_more (numbers_from (room - 1) None bs) (λ x. Ok (n ∷ x.0, x.1)) w.1) [
                | inl x ↦
                    let t = ahead bs (room - 1) None tt x in (
                      n ∷ t.0,
                      t.1,
                      t.2,
                      subst (λ (z : ℕ). Spelled (Some n) room (z ∷ (bs ++ t.1 ∷ t.2)) (n ∷ t.0)) (sym (eqb-true b blank w.0)) (blank_spelled room n (bs ++ t.1 ∷ t.2) t.0 one small t.3),
                    )
                | inr x ↦ absurd cc
              ]
              | inr w ↦
                  let h = or_bad_more (next_number most_number n b) (λ m. numbers_from (room - 1) (Some m) bs) w.1 in
                  let a = next_adds most_number n b h.0 h.1 in
                  let t = ahead bs (room - 1) (Some h.0) a.1.inside h.2 in
                  (t.0, t.1, t.2, digit_spelled room b n h.0 (bs ++ t.1 ∷ t.2) t.0 one (one_more most_number n b h.0 (omega arith) a.0 a.1) t.3)
            ]
          ]
    ]

-- ---- what is spelled is read

abbrev FirstDigit : ℕ → List ℕ → Type 0
FirstDigit n text = (d : ℕ) × (ds : List ℕ) × (text ≡ d ∷ ds) × (48 ≤ d) × (d ≤ 57) × AreDigits ds × (behind (d - 48) ds ≡ n) × ((0 < d - 48) ⊎ (ds ≡ []))

digits_of : (n : ℕ) (text : List ℕ) → Numeral n text → FirstDigit n text
digits_of n [] t = absurd t
digits_of n (d ∷ ds) t = (d, ds, refl, t.0, t.1, t.2, t.3, t.4)

first_of : (n : ℕ) → n ≤ most_number → FirstDigit n (decimal n)
first_of n h = digits_of n (decimal n) (numeral n (omega (arith, h)))

digits_read : (ds : List ℕ) (n room : ℕ) (x : List ℕ) → AreDigits ds → behind n ds ≤ most_number → ((0 < n) ⊎ (ds ≡ [])) → length ds ≤ room → numbers_from room (Some n) (ds ++ x) ≡ numbers_from (room - length ds) (Some (behind n ds)) x
unfolding numbers_from
digits_read [] n room x h le p few = let e : room ≡ room - 0 = omega arith in ap (λ (z : ℕ). numbers_from z (Some n) x) e
digits_read (d ∷ ds) n room x h le p few =
    let first : 0 < n = elim p [ inl w ↦ w | inr w ↦ absurd cc ] in
    let inside : n * 10 + (d - 48) ≤ most_number = omega (arith, le, behind_least (n * 10 + (d - 48)) ds) in
    let left : (room - 1) - length ds ≡ room - length (d ∷ ds) = omega (arith, few) in
    rw (has_room room 1 (omega (arith, few)), not_end d newline h.0 (omega arith), not_end d blank h.0 (omega arith), next_some most_number n d first h.0 h.1 inside)
    (digits_read ds (n * 10 + (d - 48)) (room - 1) x h.2 le (inl (omega (arith, first))) (omega (arith, few)) ∙ ap (λ (z : ℕ). numbers_from z (Some (behind (n * 10 + (d - 48)) ds)) x) left)

number_read : (n size room : ℕ) (x : List ℕ) (read : Read (List ℕ)) → n ≤ most_number → 1 ≤ size → length (decimal n) + size ≤ room → ((left : ℕ) → size ≤ left → numbers_from left (Some n) x ≡ read) → numbers_from room None (decimal n ++ x) ≡ read
unfolding numbers_from
number_read n size room x read small one few next =
    let f = first_of n small in
    let long : length (decimal n) ≡ 1 + length f.1 = ap length f.2 ∙ omega arith in
    let inside : f.0 - 48 ≤ most_number = omega (arith, f.4) in
    let whole : behind (f.0 - 48) f.1 ≤ most_number = omega (arith, f.6, small) in
    let behind_first : numbers_from (room - 1) (Some (f.0 - 48)) (f.1 ++ x) ≡ read =
    digits_read f.1 (f.0 - 48) (room - 1) x f.5 whole f.7 (omega (arith, few, long)) ∙ ap (λ (z : ℕ). numbers_from ((room - 1) - length f.1) (Some z) x) f.6
    ∙ next ((room - 1) - length f.1) (omega (arith, few, long)) in
    ap (λ (z : List ℕ). numbers_from room None (z ++ x)) f.2 ∙ rw (has_room room 2 (omega (arith, few, one, long)), with_first most_number f.0 f.3 f.4 inside) behind_first

some_behind : (ns : List ℕ) → 1 ≤ length (behind_number ns)
some_behind [] = omega arith
some_behind (n ∷ ns) = omega arith

put_front : ℕ → Read (List ℕ) → Read (List ℕ)
put_front n read = read >>= λ x. Ok (n ∷ x.0, x.1)

behind_read : (ns : List ℕ) (n room : ℕ) (rest : List ℕ) → AreNumbers ns → length (behind_number ns) ≤ room → numbers_from room (Some n) (behind_number ns ++ rest) ≡ Ok (n ∷ ns, rest)
unfolding numbers_from put_front
behind_read [] n room rest h few = rw (has_room room 1 few) refl
behind_read (m ∷ ms) n room rest h few =
    let long : length (decimal m ++ behind_number ms) ≡ length (decimal m) + length (behind_number ms) = length-append (decimal m) (behind_number ms) in
    let next : numbers_from (room - 1) None ((decimal m ++ behind_number ms) ++ rest) ≡ Ok (m ∷ ms, rest) =
    ap (numbers_from (room - 1) None) (append_assoc (decimal m) (behind_number ms) rest)
    ∙ number_read m (length (behind_number ms)) (room - 1) (behind_number ms ++ rest) (Ok (m ∷ ms, rest)) h.0 (some_behind ms) (omega (arith, few, long)) (λ left le. behind_read ms m left rest h.1 le) in
    rw (has_room room 1 (omega (arith, few))) (ap (put_front n) next)

again : (ns : List ℕ) (room : ℕ) (rest : List ℕ) → 0 < length ns → AreNumbers ns → length (numbers_text ns) ≤ room → numbers_from room None (numbers_text ns ++ rest) ≡ Ok (ns, rest)
again [] room rest some h few = absurd (omega (arith, some))
again (n ∷ ns) room rest some h few =
    let long : length (decimal n ++ behind_number ns) ≡ length (decimal n) + length (behind_number ns) = length-append (decimal n) (behind_number ns) in
    ap (numbers_from room None) (append_assoc (decimal n) (behind_number ns) rest)
    ∙ number_read n (length (behind_number ns)) room (behind_number ns ++ rest) (Ok (n ∷ ns, rest)) h.0 (some_behind ns) (omega (arith, few, long)) (λ left le. behind_read ns n left rest h.1 le)

-- ---- a reading that isn't at its end stays as it is, whatever follows

abbrev extended : List ℕ → Read (List ℕ) → Read (List ℕ)
extended later (Ok x) = Ok (x.0, x.1 ++ later)
extended later (Err e) = Err e

-- the second reading has more bytes
abbrev Goes : List ℕ → Read (List ℕ) → Read (List ℕ) → Type 0
Goes later first second = (first ≡ Err more) ⊎ (second ≡ extended later first)

on_cond : (t : Bool) (later : List ℕ) (a b x y : Read (List ℕ)) → Goes later a x → Goes later b y → Goes later (cond t a b) (cond t x y)
on_cond true later a b x y h k = h
on_cond false later a b x y h k = k

on_number : (o : Option ℕ) (later : List ℕ) (f g : ℕ → Read (List ℕ)) → ((n : ℕ) → Goes later (f n) (g n)) → Goes later (or_bad o f) (or_bad o g)
on_number None later f g h = inr refl
on_number (Some n) later f g h = h n

on_front : (n : ℕ) (later : List ℕ) (a x : Read (List ℕ)) → Goes later a x → Goes later (put_front n a) (put_front n x)
unfolding put_front
on_front n later (Ok r) x (inl e) = absurd cc
on_front n later (Ok r) x (inr e) = inr (ap (put_front n) e)
on_front n later (Err r) x (inl e) = inl (ap (put_front n) e)
on_front n later (Err r) x (inr e) = inr (ap (put_front n) e)

goes_on : (bytes later : List ℕ) (room : ℕ) (number : Option ℕ) → Goes later (numbers_from room number bytes) (numbers_from room number (bytes ++ later))
unfolding numbers_from put_front
goes_on [] [] room number = on_cond (nat_lt room (least_room number)) [] (Err bad) (Err more) (Err bad) (Err more) (inr refl) (inl refl)
goes_on [] (l ∷ ls) room None = on_cond (nat_lt room 2) (l ∷ ls) (Err bad) (Err more) (Err bad) (or_bad (with_digit most_number 0 l) (λ n. numbers_from (room - 1) (Some n) ls)) (inr refl) (inl refl)
goes_on [] (l ∷ ls) room (Some n) =
    on_cond (nat_lt room 1) (l ∷ ls) (Err bad) (Err more) (Err bad)
    (cond (eqb l newline) (Ok (n ∷ [], ls)) (cond (eqb l blank) (put_front n (numbers_from (room - 1) None ls)) (or_bad (next_number most_number n l) (λ m. numbers_from (room - 1) (Some m) ls))))
    (inr refl) (inl refl)
goes_on (b ∷ bs) later room None =
    on_cond (nat_lt room 2) later (Err bad) (or_bad (with_digit most_number 0 b) (λ n. numbers_from (room - 1) (Some n) bs)) (Err bad) (or_bad (with_digit most_number 0 b) (λ n. numbers_from (room - 1) (Some n) (bs ++ later)))
    (inr refl)
    (on_number (with_digit most_number 0 b) later (λ n. numbers_from (room - 1) (Some n) bs) (λ n. numbers_from (room - 1) (Some n) (bs ++ later)) (λ n. goes_on bs later (room - 1) (Some n)))
goes_on (b ∷ bs) later room (Some n) =
    let further : Read (List ℕ) = put_front n (numbers_from (room - 1) None bs) in
    let further_on : Read (List ℕ) = put_front n (numbers_from (room - 1) None (bs ++ later)) in
    let digits : Read (List ℕ) = or_bad (next_number most_number n b) (λ m. numbers_from (room - 1) (Some m) bs) in
    let digits_on : Read (List ℕ) = or_bad (next_number most_number n b) (λ m. numbers_from (room - 1) (Some m) (bs ++ later)) in
    on_cond (nat_lt room 1) later (Err bad) (cond (eqb b newline) (Ok (n ∷ [], bs)) (cond (eqb b blank) further digits)) (Err bad) (cond (eqb b newline) (Ok (n ∷ [], bs ++ later)) (cond (eqb b blank) further_on digits_on))
    (inr refl)
    (on_cond (eqb b newline) later (Ok (n ∷ [], bs)) (cond (eqb b blank) further digits) (Ok (n ∷ [], bs ++ later)) (cond (eqb b blank) further_on digits_on)
    (inr refl)
    (on_cond (eqb b blank) later further digits further_on digits_on
    (on_front n later (numbers_from (room - 1) None bs) (numbers_from (room - 1) None (bs ++ later)) (goes_on bs later (room - 1) None))
    (on_number (next_number most_number n b) later (λ m. numbers_from (room - 1) (Some m) bs) (λ m. numbers_from (room - 1) (Some m) (bs ++ later)) (λ m. goes_on bs later (room - 1) (Some m)))))

-- what is read whole with more bytes, and with nothing left of them, isn't read whole before
unended : (first second : Read (List ℕ)) (ns q : List ℕ) (c : ℕ) → Goes (c ∷ q) first second → second ≡ Ok (ns, []) → first ≡ Err more
unended first second ns q c (inl e) h = e
unended (Ok x) second ns q c (inr e) h = let p = pair_is x.0 ns (x.1 ++ c ∷ q) [] (sym e ∙ h) in absurd (none_left x.1 q c p.1)
unended (Err r) second ns q c (inr e) h = absurd cc

-- ---- numbers in so many bytes at most

pub record IsNumbersText (room : ℕ) (s ns : List ℕ) : Type 0 where
  pub some : 0 < length ns
  pub small : AreNumbers ns
  pub text : s ≡ numbers_text ns
  pub few : length s ≤ room

pub numbers_read : (room : ℕ) → Reads (IsNumbersText room) (numbers_at room)
numbers_read room = record {
  again = λ s rest ns t. ap (λ (z : List ℕ). numbers_at room (z ++ rest)) t.text ∙ again ns room rest t.some t.small (subst (λ (z : List ℕ). length z ≤ room) t.text t.few);
  found = λ bytes rest ns e. let t = found bytes room None ns rest tt e in (t.0, record { some = t.1.some; small = t.1.small; text = t.1.text; few = t.1.few }, t.2);
  ahead = λ bytes e. let t = ahead bytes room None tt e in (t.0, t.1, t.2, record { some = t.3.some; small = t.3.small; text = t.3.text; few = t.3.few });
  short = λ bytes q c ns t.
      let whole : numbers_at room (bytes ++ c ∷ q) ≡ Ok (ns, []) =
      ap (numbers_at room) (t.text ∙ sym (append-nil (numbers_text ns))) ∙ again ns room [] t.some t.small (subst (λ (z : List ℕ). length z ≤ room) t.text t.few) in
      unended (numbers_at room bytes) (numbers_at room (bytes ++ c ∷ q)) ns q c (goes_on bytes (c ∷ q) room None) whole;
}

text_begins : (ns s : List ℕ) → 0 < length ns → AreNumbers ns → s ≡ numbers_text ns → (d : ℕ) × (ds : List ℕ) × (s ≡ d ∷ ds) × (d ≤ 57)
text_begins [] s some small e = absurd (omega (arith, some))
text_begins (n ∷ ns) s some small e = let f = first_of n small.0 in (f.0, f.1 ++ behind_number ns, e ∙ ap (λ (z : List ℕ). z ++ behind_number ns) f.2, f.4)

pub begins_with_digit : (room : ℕ) (s ns : List ℕ) → IsNumbersText room s ns → (d : ℕ) × (ds : List ℕ) × (s ≡ d ∷ ds) × (d ≤ 57)
begins_with_digit room s ns t = text_begins ns s t.some t.small t.text
