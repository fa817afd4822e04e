-- As many rounds as there are declared types tell all: a round more tells nothing new.
use Rattle.std.proofs.Common.{◌≡◌, ℕ, zero, suc, ◌<◌, ◌≤◌, ◌⊎◌, inl, inr, List, [], ◌∷◌, Option, Some, None, map, length, refl, sym, ◌∙◌, ap, arith}
use Rattle.std.specs.Prelude.{slice_get}
use Rattle.std.proofs.Math.Nat.{eq-or-lt_of_le}
use Rattle.std.proofs.lemmas.List.{length-map}
use Rattle.std.proofs.lemmas.Option.{slice_get-map}
use Rattle.std.specs.Option.{option_map}
use Rattle.go_types.specs.Trees.{TypeTree, declared}
use Rattle.go_types.specs.Relations.{Rights, HasRight}
use Rattle.go_types_relations.specs.Questions.{flat, Question, asked_right, entry, round, rounds, answers, asked}

abbrev pub Within : {X : Type 0} → (ℕ → Option X) → (ℕ → Option X) → Type 0
Within {X} f g = (n : ℕ) (x : X) → f n ≡ Some x → g n ≡ Some x

-- who knows more is entry more
abbrev pub Monotone : {X : Type 0} → Question X → Type 0
Monotone {X} q = (f g : ℕ → Option X) → Within f g → (t : TypeTree) (x : X) → q f t ≡ Some x → q g t ≡ Some x

abbrev Stays : {X : Type 0} → Option X → Option X → Type 0
Stays None o = Unit {0}
Stays (Some x) o = o ≡ Some x

-- what is entry of each stays
abbrev Longer : {X : Type 0} → List (Option X) → List (Option X) → Type 0
Longer [] ps = Unit {0}
Longer (o ∷ os) [] = ⊥
Longer (o ∷ os) (p ∷ ps) = Stays o p × Longer os ps

unfoldable knowns : {X : Type 0} → List (Option X) → ℕ
knowns [] = 0
knowns (None ∷ os) = knowns os
knowns (Some x ∷ os) = suc (knowns os)

stays_some : {X : Type 0} (o p : Option X) (x : X) → Stays o p → o ≡ Some x → p ≡ Some x
stays_some None p x s e = cc
stays_some (Some y) p x s e = s ∙ e

some_stays : {X : Type 0} (o p : Option X) → ((x : X) → o ≡ Some x → p ≡ Some x) → Stays o p
some_stays None p f = tt
some_stays (Some y) p f = f y refl

entry_longer : {X : Type 0} (os ps : List (Option X)) → Longer os ps → Within (entry os) (entry ps)
entry_longer [] ps l n x e = cc
entry_longer (o ∷ os) [] l n x e = absurd l
entry_longer (o ∷ os) (p ∷ ps) l zero x e = stays_some o p x l.0 e
entry_longer (o ∷ os) (p ∷ ps) l (suc n) x e = entry_longer os ps l.1 n x e

most : {X : Type 0} (os : List (Option X)) → knowns os ≤ length os
unfolding knowns
most [] = omega arith
most (None ∷ os) = let h = most os in omega (arith, h)
most (Some x ∷ os) = let h = most os in omega (arith, h)

same_or_more : {X : Type 0} (os ps : List (Option X)) → length os ≡ length ps → Longer os ps → (os ≡ ps) ⊎ (knowns os < knowns ps)
unfolding knowns
same_or_more [] [] n l = inl refl
same_or_more [] (p ∷ ps) n l = cc
same_or_more (o ∷ os) [] n l = absurd l
same_or_more (None ∷ os) (None ∷ ps) n l =
    let m : length os ≡ length ps = omega (arith, n) in
    elim (same_or_more os ps m l.1) [ inl e ↦ inl (ap (λ xs. None ∷ xs) e) | inr h ↦ inr h ]
same_or_more (None ∷ os) (Some y ∷ ps) n l =
    let m : length os ≡ length ps = omega (arith, n) in
    elim (same_or_more os ps m l.1) [ inl e ↦ let k = ap knowns e in inr (omega (arith, k)) | inr h ↦ inr (omega (arith, h)) ]
same_or_more (Some x ∷ os) (None ∷ ps) n l = let wrong : None ≡ Some x = l.0 in cc
same_or_more (Some x ∷ os) (Some y ∷ ps) n l =
    let m : length os ≡ length ps = omega (arith, n) in
    let same : Some y ≡ Some x = l.0 in
    elim (same_or_more os ps m l.1) [ inl e ↦ inl (ap (λ o. o ∷ os) (sym same) ∙ ap (λ xs. Some y ∷ xs) e) | inr h ↦ inr (omega (arith, h)) ]

-- ---- a round at a number

pub nothing_entry : (X : Type 0) (rs : Rights) (n : ℕ) → entry (map (λ r. let o : Option X = None in o) rs) n ≡ None
nothing_entry X [] n = refl
nothing_entry X (r ∷ rs) zero = refl
nothing_entry X (r ∷ rs) (suc n) = nothing_entry X rs n

module _ {X : Type 0} (q : Question X) where
  by_entry : (known : ℕ → Option X) (o : Option (Option TypeTree)) → flat (option_map (asked_right q known) o) ≡ asked_right q known (flat o)
  by_entry known None = refl
  by_entry known (Some None) = refl
  by_entry known (Some (Some r)) = refl

  pub round_entry : (known : ℕ → Option X) (rights : Rights) (n : ℕ) → entry (map (asked_right q known) rights) n ≡ asked_right q known (entry rights n)
  round_entry known rights n = ap flat (slice_get-map (asked_right q known) rights n) ∙ by_entry known (slice_get rights n)

  -- of a declared type without a right side nothing is told
  pub open_answers : (rights : Rights) (n : ℕ) → entry rights n ≡ None → answers q rights n ≡ None
  unfolding answers
  open_answers rights n e = by (length rights)
    where
      by : (k : ℕ) → entry (rounds q rights k) n ≡ None
      by zero = nothing_entry X rights n
      by (suc k) = round_entry (entry (rounds q rights k)) rights n ∙ ap (asked_right q (entry (rounds q rights k))) e

-- ---- as many rounds as there are declared types

module _ {X : Type 0} (q : Question X) (m : Monotone q) where
  asked_stays : (f g : ℕ → Option X) → Within f g → (r : Option TypeTree) → Stays (asked_right q f r) (asked_right q g r)
  asked_stays f g w None = tt
  asked_stays f g w (Some t) = some_stays (q f t) (q g t) (m f g w t)

  map_longer : (f g : ℕ → Option X) → Within f g → (rs : Rights) → Longer (map (asked_right q f) rs) (map (asked_right q g) rs)
  map_longer f g w [] = tt
  map_longer f g w (r ∷ rs) = (asked_stays f g w r, map_longer f g w rs)

  nothing_longer : (f : ℕ → Option X) (rs : Rights) → Longer (map (λ r. None) rs) (map (asked_right q f) rs)
  nothing_longer f [] = tt
  nothing_longer f (r ∷ rs) = (tt, nothing_longer f rs)

  pub rounds_longer : (rights : Rights) (k : ℕ) → Longer (rounds q rights k) (rounds q rights (suc k))
  rounds_longer rights zero = nothing_longer (entry (rounds q rights zero)) rights
  rounds_longer rights (suc k) = map_longer (entry (rounds q rights k)) (entry (rounds q rights (suc k))) (entry_longer (rounds q rights k) (rounds q rights (suc k)) (rounds_longer rights k)) rights

  rounds_length : (rights : Rights) (k : ℕ) → length (rounds q rights k) ≡ length rights
  rounds_length rights zero = length-map rights (λ r. None)
  rounds_length rights (suc k) = length-map rights (asked_right q (entry (rounds q rights k)))

  step : (rights : Rights) (k : ℕ) → (rounds q rights k ≡ rounds q rights (suc k)) ⊎ (knowns (rounds q rights k) < knowns (rounds q rights (suc k)))
  step rights k = same_or_more (rounds q rights k) (rounds q rights (suc k)) (rounds_length rights k ∙ sym (rounds_length rights (suc k))) (rounds_longer rights k)

  progress : (rights : Rights) (k : ℕ) → (rounds q rights k ≡ rounds q rights (suc k)) ⊎ (k ≤ knowns (rounds q rights k))
  progress rights zero = inr (omega arith)
  progress rights (suc k) =
      elim (progress rights k) [
        | inl e ↦ inl (ap (round q rights) e)
        | inr h ↦ elim (step rights k) [ inl e ↦ inl (ap (round q rights) e) | inr l ↦ inr (omega (arith, h, l)) ]
      ]

  stable : (rights : Rights) → rounds q rights (length rights) ≡ rounds q rights (suc (length rights))
  stable rights =
      elim (progress rights (length rights)) [
        | inl e ↦ e
        | inr h ↦
            elim (step rights (length rights)) [
              | inl e ↦ e
              | inr l ↦
                  let few = most (rounds q rights (suc (length rights))) in
                  let size = rounds_length rights (suc (length rights)) in
                  absurd (omega (arith, h, l, few, size))
            ]
      ]

  -- so do more rounds
  pub settled : (rights : Rights) (k : ℕ) → length rights ≤ k → rounds q rights k ≡ rounds q rights (length rights)
  settled rights zero h = let none : 0 ≡ length rights = omega (arith, h) in ap (rounds q rights) none
  settled rights (suc k) h =
      elim (eq-or-lt_of_le h) [
        | inl e ↦ ap (rounds q rights) (sym e)
        | inr l ↦ ap (round q rights) (settled rights k (let below : length rights ≤ k = omega (arith, l) in below)) ∙ sym (stable rights)
      ]

  at_right : (known : ℕ → Option X) (rights : Rights) (n : ℕ) (r : TypeTree) → HasRight rights n r → entry (map (asked_right q known) rights) n ≡ q known r
  at_right known rights n r h = round_entry q known rights n ∙ ap (asked_right q known) (ap flat h)

  -- a declared type is told what its right side is told
  pub right_answers : (rights : Rights) (n : ℕ) (r : TypeTree) → HasRight rights n r → answers q rights n ≡ asked q rights r
  unfolding answers
  right_answers rights n r h = ap (λ xs. entry xs n) (stable rights) ∙ at_right (entry (rounds q rights (length rights))) rights n r h

-- ---- what holds of all that is told

module _ {X : Type 0} (q : Question X) (rights : Rights) (P : TypeTree → X → Type 0) (by_right : (n : ℕ) (r : TypeTree) (x : X) → HasRight rights n r → P r x → P (declared n) x) (step : (known : ℕ → Option X) → ((n : ℕ) (x : X) → known n ≡ Some x → P (declared n) x) → (t : TypeTree) (x : X) → q known t ≡ Some x → P t x) where
  one : (known : ℕ → Option X) → ((n : ℕ) (x : X) → known n ≡ Some x → P (declared n) x) → (n : ℕ) (x : X) (o : Option (Option TypeTree)) → slice_get rights n ≡ o → asked_right q known (flat o) ≡ Some x → P (declared n) x
  one known f n x None h e = cc
  one known f n x (Some None) h e = cc
  one known f n x (Some (Some r)) h e = by_right n r x h (step known f r x e)

  round_holds : (k n : ℕ) (x : X) → entry (rounds q rights k) n ≡ Some x → P (declared n) x
  round_holds zero n x e = let wrong : None ≡ Some x = sym (nothing_entry X rights n) ∙ e in cc
  round_holds (suc k) n x e = one (entry (rounds q rights k)) (round_holds k) n x (slice_get rights n) refl (sym (round_entry q (entry (rounds q rights k)) rights n) ∙ e)

  pub asked_holds : (t : TypeTree) (x : X) → asked q rights t ≡ Some x → P t x
  unfolding answers
  asked_holds t x e = step (answers q rights) (round_holds (length rights)) t x e
