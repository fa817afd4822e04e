-- That all declared types of a table have right sides, found from shape to shape.
use Rattle.std.proofs.Common.{◌≡◌, ℕ, zero, suc, ◌+◌, ◌<◌, ◌≤◌, ◌⊎◌, inl, inr, Bool, true, false, List, [], ◌∷◌, cond, Option, Some, None, length, refl, ap, sym, subst, ◌∙◌, arith}
use Rattle.std.specs.Prelude.{slice_get, take, count_by}
use Rattle.std.specs.List.{list_all}
use Rattle.std.proofs.lemmas.List.{take_all}
use Rattle.std.proofs.lemmas.List.Sums.{count_by_more_yes, count_by_more_no, sum_by-take-le}
use Rattle.std.proofs.lemmas.Option.{get_or_from_slice_get}
use Rattle.go_types.specs.declared.shape.Shape.{Shape}
use Rattle.go_types.specs.declared.shape.Shape.TheVariants as shape
use Rattle.go_types.specs.Changes.{IsOpen}
use Rattle.go_types.specs.Tables.{Table, IsTable, HasShape, is_declaration}
use Rattle.go_types.proofs.Public.{declared_or_not}
use Rattle.go_typed.specs.Packages.{is_there}
use Rattle.go_package.specs.Checks.{declared_at}

count_by_take_le : {A : Type 0} (p : A → Bool) (xs : List A) (k : ℕ) → count_by p (take k xs) ≤ count_by p xs
count_by_take_le p xs k = sum_by-take-le (λ x. cond (p x) 1 0) xs k

-- the first n declared types have right sides
abbrev pub There : List (Option ℕ) → ℕ → Type 0
There rs n = (m : ℕ) → m < n → (r : ℕ) × (slice_get rs m ≡ Some (Some r))

below_or_last : (m n : ℕ) → m < n + 1 → (m < n) ⊎ (m ≡ n)
below_or_last m zero lt = inr (omega (arith, lt))
below_or_last zero (suc n) lt = inl (omega arith)
below_or_last (suc m) (suc n) lt = step (below_or_last m n (omega (arith, lt)))
  where
    step : (m < n) ⊎ (m ≡ n) → (suc m < suc n) ⊎ (suc m ≡ suc n)
    step (inl h) = inl (omega (arith, h))
    step (inr e) = inr (ap suc e)

entry_there : (rs : List (Option ℕ)) (n : ℕ) → n < length rs → (slice_get rs n ≡ Some None → ⊥) → (r : ℕ) × (slice_get rs n ≡ Some (Some r))
entry_there [] n lt h = absurd (omega (arith, lt))
entry_there (None ∷ rs) zero lt h = absurd (h refl)
entry_there (Some r ∷ rs) zero lt h = (r, refl)
entry_there (o ∷ rs) (suc n) lt h = entry_there rs n (omega (arith, lt)) h

pub all_there : (rs : List (Option ℕ)) → There rs (length rs) → list_all is_there rs ≡ true
all_there [] h = refl
all_there (None ∷ rs) h = absurd (none_first (h 0 (omega arith)))
  where
    none_first : ((r : ℕ) × (slice_get (None ∷ rs) 0 ≡ Some (Some r))) → ⊥
    none_first (r, e) = cc
all_there (Some r ∷ rs) h = all_there rs (λ m lt. h (suc m) (omega (arith, lt)))

module _ (t : Table) (ok : IsTable t) where
  abbrev counted : ℕ → ℕ
  counted k = count_by is_declaration (take k t.shapes)

  shape_there : (k : ℕ) → k < length t.shapes → (s : Shape) × (slice_get t.shapes k ≡ Some s)
  shape_there k lt = found t.shapes k lt
    where
      found : (xs : List Shape) (k : ℕ) → k < length xs → (s : Shape) × (slice_get xs k ≡ Some s)
      found [] k lt = absurd (omega (arith, lt))
      found (x ∷ xs) zero lt = (x, refl)
      found (x ∷ xs) (suc k) lt = found xs k (omega (arith, lt))

  pub count_more : (k : ℕ) → k < length t.shapes → true ≡ declared_at (slice_get t.shapes k) → (count : ℕ) → count ≡ counted k → count + 1 ≡ counted (k + 1)
  count_more k lt truly count is =
      let s = shape_there k lt in
      let more = count_by_more_yes is_declaration t.shapes k s.0 lt (ap is_declaration (get_or_from_slice_get t.shapes k s.0 s.0 s.1) ∙ sym (truly ∙ ap declared_at s.1)) in
      omega (arith, is, more)

  pub count_same : (k : ℕ) → k < length t.shapes → false ≡ declared_at (slice_get t.shapes k) → (count : ℕ) → count ≡ counted k → count ≡ counted (k + 1)
  count_same k lt never count is =
      let s = shape_there k lt in
      is ∙ sym (count_by_more_no is_declaration t.shapes k s.0 lt (ap is_declaration (get_or_from_slice_get t.shapes k s.0 s.0 s.1) ∙ sym (never ∙ ap declared_at s.1)))

  pub there_more : (k : ℕ) → k < length t.shapes → true ≡ declared_at (slice_get t.shapes k) → (IsOpen t k → ⊥) → (count : ℕ) → count ≡ counted k → There t.rights count → There t.rights (count + 1)
  there_more k lt truly closed count is h m le = by (below_or_last m count le)
    where
      named : (s : Shape) → slice_get t.shapes k ≡ Some s → declared_at (slice_get t.shapes k) ≡ true → (n : ℕ) × HasShape t k (shape.Named n)
      named s at e = told (declared_or_not s)
        where
          told : ((n : ℕ) × (s ≡ shape.Named n)) ⊎ (is_declaration s ≡ false) → (n : ℕ) × HasShape t k (shape.Named n)
          told (inl (n, is)) = (n, at ∙ ap Some is)
          told (inr never) = absurd (let f : false ≡ true = sym never ∙ sym (ap declared_at at) ∙ e in cc)

      last_there : (r : ℕ) × (slice_get t.rights count ≡ Some (Some r))
      last_there =
          let s = shape_there k lt in
          let n = named s.0 s.1 (sym truly) in
          let number : count ≡ n.0 = is ∙ sym (ok.numbered k n.0 n.1) in
          let within : count < length t.rights = (let more = count_more k lt truly count is in let all = count_by_take_le is_declaration t.shapes (k + 1) in let total = ok.declarations in omega (arith, more, all, total)) in
          entry_there t.rights count within (λ e. closed (n.0, n.1, ap (slice_get t.rights) (sym number) ∙ e))

      by : (m < count) ⊎ (m ≡ count) → (r : ℕ) × (slice_get t.rights m ≡ Some (Some r))
      by (inl below) = h m below
      by (inr e) = subst (λ j. (r : ℕ) × (slice_get t.rights j ≡ Some (Some r))) (sym e) last_there

  pub defined_end : (k count : ℕ) → length t.shapes ≤ k → count ≡ counted k → There t.rights count → (count ≡ length t.rights) × (list_all is_there t.rights ≡ true)
  defined_end k count le is h =
      let all : count ≡ length t.rights = is ∙ ap (count_by is_declaration) (take_all k t.shapes le) ∙ sym ok.declarations in
      (all, all_there t.rights (subst (There t.rights) all h))
