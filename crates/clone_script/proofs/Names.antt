-- A name is read from its bytes and from nothing else.
use Rattle.std.proofs.Common.{◌≡◌, ℕ, zero, suc, ◌+◌, ◌-◌, ◌<◌, ◌≤◌, ◌⊎◌, inl, inr, Bool, true, false, cond, eqb, List, [], ◌∷◌, ◌++◌, length, take, replicate, Option, Some, None, Ok, Err, refl, sym, ap, subst, ◌∙◌, append_assoc, arith}
use Rattle.std.specs.Prelude.{◌&&◌}
use Rattle.std.proofs.lemmas.List.{take_at, length-replicate}
use Rattle.std.proofs.lemmas.Bool.{eqb-true}
use Rattle.go_base.specs.Gives.{◌>>=◌}
use Rattle.clone_script.specs.declared.name.Character.{Character}
use Rattle.clone_script.specs.Reading.{bad, more, Read, or_bad, whole, lies_in, first_byte, next_byte, has_room, is_whole, name_from, name_at}
use Rattle.clone_script.specs.Grammar.{Continues, AreCharacters, IsName}
use Rattle.clone_script.proofs.Readers.{Reads, pair_is, none_left, bind_ok, bind_more}
use Rattle.clone_script.proofs.Numbers.{chosen, or_bad_ok, or_bad_more}

split_and : (p q : Bool) → (p && q) ≡ true → (p ≡ true) × (q ≡ true)
split_and true q e = (refl, e)
split_and false q e = absurd cc

join_and : (p q : Bool) → p ≡ true → q ≡ true → (p && q) ≡ true
join_and p q e f = rw (e, f) refl

is_false : (b : Bool) → (b ≡ true → ⊥) → b ≡ false
is_false true h = absurd (h refl)
is_false false h = refl

continued : (o : Option Character) (P : Character → Type 0) → Continues o P → (d : Character) × (o ≡ Some d) × P d
continued None P h = absurd h
continued (Some d) P h = (d, refl, h)

continues : (o : Option Character) (d : Character) (P : Character → Type 0) → o ≡ Some d → P d → Continues o P
continues o d P e h = rw e h

later : ℕ → Character
later k = record { left = k; low = 128; high = 191 }

next_whole : (c : Character) (b : ℕ) → c.left ≡ 0 → next_byte c b ≡ first_byte b
unfolding next_byte
next_whole c b e = rw e refl

next_part : (c d : Character) (b : ℕ) → next_byte c b ≡ Some d → (c.left ≡ 0) ⊎ (d ≡ record { left = c.left - 1; low = 128; high = 191 })
unfolding next_byte
next_part c d b e =
    elim (chosen (eqb c.left 0) (first_byte b) (cond (lies_in c.low c.high b) (Some (record { left = c.left - 1; low = 128; high = 191 })) None) (Some d) e) [
      | inl w ↦ inl (eqb-true c.left 0 w.0)
      | inr w ↦ elim (chosen (lies_in c.low c.high b) (Some (record { left = c.left - 1; low = 128; high = 191 })) None (Some d) w.1) [
        | inl v ↦ inr cc
        | inr v ↦ absurd cc
      ]
    ]

next_left : (c d : Character) (b : ℕ) → next_byte c b ≡ Some d → c.left ≤ d.left + 1
next_left c d b e =
    elim (next_part c d b e) [
      | inl w ↦ omega (arith, w)
      | inr w ↦ rw w (omega arith)
    ]

left_least : (c : Character) (x : List ℕ) → AreCharacters c x → c.left ≤ length x
left_least c [] h = omega (arith, h)
left_least c (b ∷ bs) h =
    let t = continued (next_byte c b) (λ d. AreCharacters d bs) h in
    omega (arith, next_left c t.0 b t.1, left_least t.0 bs t.2)

no_stop : (end count : ℕ) (c d : Character) (b : ℕ) → first_byte end ≡ None → next_byte c b ≡ Some d → (eqb b end && is_whole count c) ≡ false
no_stop end count c d b none e =
    is_false (eqb b end && is_whole count c) (λ h.
    let both = split_and (eqb b end) (is_whole count c) h in
    let at : b ≡ end = eqb-true b end both.0 in
    let zero_left : c.left ≡ 0 = eqb-true c.left 0 (split_and (eqb c.left 0) _ both.1).0 in
    let same : next_byte c b ≡ None = next_whole c b zero_left ∙ rw at none in
    cc)

room_left : (count : ℕ) (d : Character) (x : List ℕ) → AreCharacters d x → count + length x ≤ 255 → has_room count d ≡ true
room_left count d x h le = let l = left_least d x h in grind (arith, l)

from_again : (end count n : ℕ) (c : Character) (x rest : List ℕ) → first_byte end ≡ None → AreCharacters c x → n ≡ count + length x → 0 < n → n ≤ 255 → name_from end count c (x ++ end ∷ rest) ≡ Ok (n, rest)
unfolding name_from
from_again end count n c [] rest none h e p le =
    let here : n ≡ count = omega (arith, e) in
    let at : eqb end end ≡ true = grind arith in
    let ended : is_whole count c ≡ true = grind (arith, h, here, p) in
    let stop : (eqb end end && is_whole count c) ≡ true = join_and (eqb end end) (is_whole count c) at ended in
    rw (stop, here) refl
from_again end count n c (b ∷ bs) rest none h e p le =
    let t = continued (next_byte c b) (λ d. AreCharacters d bs) h in
    let room : has_room (count + 1) t.0 ≡ true = room_left (count + 1) t.0 bs t.2 (omega (arith, e, le)) in
    rw (no_stop end count c t.0 b none t.1, t.1, room) (from_again end (count + 1) n t.0 bs rest none t.2 (omega (arith, e)) p le)

from_short : (end count : ℕ) (c : Character) (x bytes q : List ℕ) (next : ℕ) → first_byte end ≡ None → AreCharacters c x → count + length x ≤ 255 → bytes ++ next ∷ q ≡ x ++ end ∷ [] → name_from end count c bytes ≡ Err more
unfolding name_from
from_short end count c x [] q next none h le e = refl
from_short end count c [] (b ∷ bs) q next none h le e = let t : bs ++ next ∷ q ≡ [] = cc in absurd (none_left bs q next t)
from_short end count c (x ∷ xs) (b ∷ bs) q next none h le e =
    let t = continued (next_byte c x) (λ d. AreCharacters d xs) h in
    let room : has_room (count + 1) t.0 ≡ true = room_left (count + 1) t.0 xs t.2 (omega (arith, le)) in
    let head : b ≡ x = cc in
    let tail : bs ++ next ∷ q ≡ xs ++ end ∷ [] = cc in
    rw (head, no_stop end count c t.0 x none t.1, t.1, room) (from_short end (count + 1) t.0 xs bs q next none t.2 (omega (arith, le)) tail)

-- the rest of a name, from which so many bytes were read, up to within a character
record Rest (count n : ℕ) (c : Character) (x : List ℕ) : Type 0 where
  pub text : AreCharacters c x
  pub size : n ≡ count + length x
  pub some : 0 < n
  pub few : n ≤ 255

from_found : (end count n : ℕ) (c : Character) (bytes rest : List ℕ) → count + c.left ≤ 255 → name_from end count c bytes ≡ Ok (n, rest) → (x : List ℕ) × Rest count n c x × (bytes ≡ x ++ end ∷ rest)
unfolding name_from
from_found end count n c [] rest room e = absurd cc
from_found end count n c (b ∷ bs) rest room e =
    elim (chosen (eqb b end && is_whole count c) (Ok (count, bs)) (or_bad (next_byte c b) (λ d. cond (has_room (count + 1) d) (name_from end (count + 1) d bs) (Err bad))) (Ok (n, rest)) e) [
      | inl w ↦
          let both = split_and (eqb b end) (is_whole count c) w.0 in
          let ended = split_and (eqb c.left 0) _ both.1 in
          let p = pair_is count n bs rest w.1 in
          let some : 0 < count = grind (arith, ended.1) in
          ([], record { text = eqb-true c.left 0 ended.0; size = omega (arith, p.0); some = omega (arith, p.0, some); few = omega (arith, p.0, room) }, rw (eqb-true b end both.0, p.1) refl)
      | inr w ↦
          let h = or_bad_ok (next_byte c b) (λ d. cond (has_room (count + 1) d) (name_from end (count + 1) d bs) (Err bad)) (n, rest) w.1 in
          elim (chosen (has_room (count + 1) h.0) (name_from end (count + 1) h.0 bs) (Err bad) (Ok (n, rest)) h.2) [
            | inl v ↦
                let fits : (count + 1) + h.0.left ≤ 255 = grind (arith, v.0) in
                let t = from_found end (count + 1) n h.0 bs rest fits v.1 in
                (b ∷ t.0, record { text = continues (next_byte c b) h.0 (λ d. AreCharacters d t.0) h.1 t.1.text; size = omega (arith, t.1.size); some = t.1.some; few = t.1.few }, ap (λ (z : List ℕ). b ∷ z) t.2)
            | inr v ↦ absurd cc
          ]
    ]

-- ---- what completes a name

abbrev Good : Option Character → Type 0
Good None = Unit {0}
Good (Some d) = d.low ≤ d.high

record IsGood (o : Option Character) : Type 0 where
  pub good : Good o

good_cond : (p : Bool) (x y : Option Character) → IsGood x → IsGood y → IsGood (cond p x y)
good_cond true x y h k = h
good_cond false x y h k = k

abbrev row : ℕ → ℕ → ℕ → Option Character
row left low high = Some (record { left = left; low = low; high = high })

good_row : (left low high : ℕ) → low ≤ high → IsGood (row left low high)
good_row left low high h = record { good = h }

good_none : IsGood None
good_none = record { good = tt }

-- the rows of the table from the last one on
abbrev row_8 : ℕ → Option Character
row_8 b = cond (eqb b 244) (row 3 128 143) None

abbrev row_7 : ℕ → Option Character
row_7 b = cond (lies_in 241 243 b) (row 3 128 191) (row_8 b)

abbrev row_6 : ℕ → Option Character
row_6 b = cond (eqb b 240) (row 3 144 191) (row_7 b)

abbrev row_5 : ℕ → Option Character
row_5 b = cond (lies_in 225 239 b) (row 2 128 191) (row_6 b)

abbrev row_4 : ℕ → Option Character
row_4 b = cond (eqb b 237) (row 2 128 159) (row_5 b)

abbrev row_3 : ℕ → Option Character
row_3 b = cond (eqb b 224) (row 2 160 191) (row_4 b)

abbrev row_2 : ℕ → Option Character
row_2 b = cond (lies_in 194 223 b) (row 1 128 191) (row_3 b)

good_first : (b : ℕ) → IsGood (first_byte b)
unfolding first_byte
good_first b =
    let g8 = good_cond (eqb b 244) (row 3 128 143) None (good_row 3 128 143 (omega arith)) good_none in
    let g7 = good_cond (lies_in 241 243 b) (row 3 128 191) (row_8 b) (good_row 3 128 191 (omega arith)) g8 in
    let g6 = good_cond (eqb b 240) (row 3 144 191) (row_7 b) (good_row 3 144 191 (omega arith)) g7 in
    let g5 = good_cond (lies_in 225 239 b) (row 2 128 191) (row_6 b) (good_row 2 128 191 (omega arith)) g6 in
    let g4 = good_cond (eqb b 237) (row 2 128 159) (row_5 b) (good_row 2 128 159 (omega arith)) g5 in
    let g3 = good_cond (eqb b 224) (row 2 160 191) (row_4 b) (good_row 2 160 191 (omega arith)) g4 in
    let g2 = good_cond (lies_in 194 223 b) (row 1 128 191) (row_3 b) (good_row 1 128 191 (omega arith)) g3 in
    good_cond (lies_in 33 126 b) (row 0 128 191) (row_2 b) (good_row 0 128 191 (omega arith)) g2

good_next : (c d : Character) (b : ℕ) → next_byte c b ≡ Some d → d.low ≤ d.high
good_next c d b e =
    elim (next_part c d b e) [
      | inl w ↦ (subst IsGood (sym (next_whole c b w) ∙ e) (good_first b)).good
      | inr w ↦ rw w (omega arith)
    ]

next_later : (c : Character) (b k : ℕ) → c.left ≡ suc k → c.low ≤ b → b ≤ c.high → next_byte c b ≡ Some (later k)
unfolding next_byte later
next_later c b k e l h =
    let some_left : eqb c.left 0 ≡ false = grind (arith, e) in
    let inside : lies_in c.low c.high b ≡ true = grind (arith, l, h) in
    let less : c.left - 1 ≡ k = omega (arith, e) in
    rw (some_left, inside, less) refl

fill : (k : ℕ) → AreCharacters (later k) (replicate k 128)
unfolding later
fill zero = refl
fill (suc k) = continues (next_byte (later (suc k)) 128) (later k) (λ d. AreCharacters d (replicate k 128)) (next_later (later (suc k)) 128 k refl (omega arith) (omega arith)) (fill k)

-- what completes a name, from which so many bytes were read, up to within a character
record Completes (count : ℕ) (c : Character) (x : List ℕ) : Type 0 where
  pub text : AreCharacters c x
  pub some : 0 < count + length x
  pub few : count + length x ≤ 255

split_zero : (k : ℕ) → (k ≡ 0) ⊎ ((n : ℕ) × (k ≡ suc n))
split_zero zero = inl refl
split_zero (suc n) = inr (n, refl)

letter : (c : Character) → c.left ≡ 0 → AreCharacters c (97 ∷ [])
unfolding first_byte
letter c e = continues (next_byte c 97) whole (λ d. AreCharacters d []) (next_whole c 97 e) refl

complete : (count : ℕ) (c : Character) → count + c.left ≤ 255 → c.low ≤ c.high → (x : List ℕ) × Completes count c x
complete count c room good =
    elim (split_zero c.left) [
      | inl w ↦ elim (split_zero count) [
        | inl v ↦ (97 ∷ [], record { text = letter c w; some = omega (arith, v); few = omega (arith, v) })
        | inr v ↦ ([], record { text = w; some = omega (arith, v.1); few = omega (arith, room) })
      ]
      | inr w ↦ (
        c.low ∷ replicate w.0 128,
        record {
          text = continues (next_byte c c.low) (later w.0) (λ d. AreCharacters d (replicate w.0 128)) (next_later c c.low w.0 w.1 (omega arith) good) (fill w.0);
          some = omega arith;
          few = let long : length {A = ℕ} (replicate w.0 128) ≡ w.0 = length-replicate w.0 128 in omega (arith, room, w.1, long);
        },
      )
    ]

from_more : (end count : ℕ) (c : Character) (bytes : List ℕ) → count + c.left ≤ 255 → c.low ≤ c.high → name_from end count c bytes ≡ Err more → (x : List ℕ) × Completes count c (bytes ++ x)
unfolding name_from
from_more end count c [] room good e = complete count c room good
from_more end count c (b ∷ bs) room good e =
    elim (chosen (eqb b end && is_whole count c) (Ok (count, bs)) (or_bad (next_byte c b) (λ d. cond (has_room (count + 1) d) (name_from end (count + 1) d bs) (Err bad))) (Err more) e) [
      | inl w ↦ absurd cc
      | inr w ↦
          let h = or_bad_more (next_byte c b) (λ d. cond (has_room (count + 1) d) (name_from end (count + 1) d bs) (Err bad)) w.1 in
          elim (chosen (has_room (count + 1) h.0) (name_from end (count + 1) h.0 bs) (Err bad) (Err more) h.2) [
            | inl v ↦
                let fits : (count + 1) + h.0.left ≤ 255 = grind (arith, v.0) in
                let t = from_more end (count + 1) h.0 bs fits (good_next c h.0 b h.1) v.1 in
                (t.0, record { text = continues (next_byte c b) h.0 (λ d. AreCharacters d (bs ++ t.0)) h.1 t.1.text; some = omega (arith, t.1.some); few = omega (arith, t.1.few) })
            | inr v ↦ absurd cc
          ]
    ]

-- a name, and the byte that ends it
abbrev pub IsNameText : ℕ → List ℕ → List ℕ → Type 0
IsNameText end s name = IsName name × (s ≡ name ++ end ∷ [])

not_empty : (x : List ℕ) (e : ℕ) → (c : ℕ) × (q : List ℕ) × (x ++ e ∷ [] ≡ c ∷ q)
not_empty [] e = (e, [], refl)
not_empty (x ∷ xs) e = (x, xs ++ e ∷ [], refl)

abbrev taken : List ℕ → Read ℕ → Read (List ℕ)
taken bytes read = read >>= λ x. Ok (take x.0 bytes, x.1)

at_again : (end : ℕ) (name rest : List ℕ) → first_byte end ≡ None → IsName name → name_at end (name ++ end ∷ rest) ≡ Ok (name, rest)
unfolding name_at
at_again end name rest none h =
    ap (taken (name ++ end ∷ rest)) (from_again end 0 (length name) whole name rest none h.text (omega arith) h.some h.few) ∙ rw (take_at name (end ∷ rest) (length name) refl) refl

pub at_found : (end : ℕ) (bytes rest name : List ℕ) → name_at end bytes ≡ Ok (name, rest) → IsName name × (bytes ≡ name ++ end ∷ rest)
unfolding name_at
at_found end bytes rest name e =
    let h = bind_ok (name_from end 0 whole bytes) (λ x. Ok (take x.0 bytes, x.1)) (name, rest) e in
    let p = pair_is (take h.0.0 bytes) name h.0.1 rest h.2 in
    let t = from_found end 0 h.0.0 whole bytes h.0.1 (omega arith) h.1 in
    let size : length t.0 ≡ h.0.0 = omega (arith, t.1.size) in
    let same : t.0 ≡ name = sym (ap (take h.0.0) t.2 ∙ take_at t.0 (end ∷ h.0.1) h.0.0 size) ∙ p.0 in (
      subst IsName same (record { some = omega (arith, size, t.1.some); few = omega (arith, size, t.1.few); text = t.1.text }),
      t.2 ∙ ap (λ (z : List ℕ). z ++ end ∷ h.0.1) same ∙ ap (λ (z : List ℕ). name ++ end ∷ z) p.1,
    )

at_more : (end : ℕ) (bytes : List ℕ) → name_at end bytes ≡ Err more → (name : List ℕ) × (c : ℕ) × (q : List ℕ) × IsNameText end (bytes ++ c ∷ q) name
unfolding name_at
at_more end bytes e =
    elim (bind_more (name_from end 0 whole bytes) (λ x. Ok (take x.0 bytes, x.1)) e) [
      | inl w ↦
          let t = from_more end 0 whole bytes (omega arith) (omega arith) w in
          let rest = not_empty t.0 end in
          (bytes ++ t.0, rest.0, rest.1, (record { some = omega (arith, t.1.some); few = omega (arith, t.1.few); text = t.1.text }, ap (λ (z : List ℕ). bytes ++ z) (sym rest.2) ∙ sym (append_assoc bytes t.0 (end ∷ []))))
      | inr w ↦ absurd cc
    ]

at_short : (end : ℕ) (name bytes q : List ℕ) (next : ℕ) → first_byte end ≡ None → IsName name → bytes ++ next ∷ q ≡ name ++ end ∷ [] → name_at end bytes ≡ Err more
unfolding name_at
at_short end name bytes q next none h e = ap (taken bytes) (from_short end 0 whole name bytes q next none h.text (omega (arith, h.few)) e)

pub name_reads : (end : ℕ) → first_byte end ≡ None → Reads (IsNameText end) (name_at end)
name_reads end none = record {
  again = λ s rest name t. ap (λ (z : List ℕ). name_at end (z ++ rest)) t.1 ∙ ap (name_at end) (append_assoc name (end ∷ []) rest) ∙ at_again end name rest none t.0;
  found = λ bytes rest name e. let h = at_found end bytes rest name e in (name ++ end ∷ [], (h.0, refl), h.1 ∙ sym (append_assoc name (end ∷ []) rest));
  ahead = λ bytes e. at_more end bytes e;
  short = λ bytes q c name t. at_short end name bytes q c none t.0 t.1;
}
