-- The places of fields by their names, as a map is given them.
use Rattle.std.proofs.Common.{◌≡◌, ℕ, suc, ◌+◌, ◌<◌, List, [], ◌∷◌, Option, Some, None, refl, sym, ◌∙◌, ap, Bool, true, false, cond, nat_eq, length, arith}
use Rattle.std.specs.Prelude.{is_some, if◌then◌else◌, IfSome}
use Rattle.std.specs.Option.{option_or}
use Rattle.std.specs.Cmp.Lexicographic.{pointwise, same_text}
use Rattle.indexmap.specs.IndexMap.{insert_entry}
use Rattle.std.proofs.lemmas.List.{length-map}
use Rattle.go_types.specs.declared.shape.Field.{Field}
use Rattle.go_types.specs.FieldPlaces.{place_from, field_names, entry_of}

-- a name over what is there, as one more entry
abbrev pub one_more : List ℕ → List ℕ → ℕ → Option ℕ
one_more w name n = if pointwise nat_eq w name then Some n else None

module _ {K : Type 0} (items : K → List ℕ) where
  or_none : (o : Option ℕ) → o ≡ option_or o None
  or_none None = refl
  or_none (Some n) = refl

  -- a name that is there keeps its number
  pub kept : (es : List (K × ℕ)) (name w : List ℕ) (n : ℕ) → is_some (entry_of items es name) ≡ true → entry_of items es w ≡ option_or (entry_of items es w) (one_more w name n)
  kept es name w n there = by (pointwise nat_eq w name) refl
    where
      found : (o : Option ℕ) → is_some o ≡ true → o ≡ option_or o (Some n)
      found None h = cc
      found (Some m) h = refl

      by : (b : Bool) → pointwise nat_eq w name ≡ b → entry_of items es w ≡ option_or (entry_of items es w) (if b then Some n else None)
      by false h = or_none (entry_of items es w)
      by true h = found (entry_of items es w) (ap (λ v. is_some (entry_of items es v)) (same_text w name (sym h)) ∙ there)

  or_cond : (b : Bool) (m : ℕ) (o p : Option ℕ) → cond b (Some m) (option_or o p) ≡ option_or (cond b (Some m) o) p
  or_cond true m o p = refl
  or_cond false m o p = refl

  -- a name that isn't there gets one
  pub entered : (es : List (K × ℕ)) (k : K) (w : List ℕ) (n : ℕ) → is_some (entry_of items es (items k)) ≡ false → entry_of items (insert_entry (λ x y. pointwise nat_eq (items x) (items y)) es k n) w ≡ option_or (entry_of items es w) (one_more w (items k) n)
  entered [] k w n absent = refl
  entered (e ∷ es) k w n absent = by (pointwise nat_eq (items k) (items e.0)) refl (entered es k w n)
    where
      by : (b : Bool) → pointwise nat_eq (items k) (items e.0) ≡ b → (is_some (entry_of items es (items k)) ≡ false → entry_of items (insert_entry (λ x y. pointwise nat_eq (items x) (items y)) es k n) w ≡ option_or (entry_of items es w) (one_more w (items k) n))
          → entry_of items (insert_entry (λ x y. pointwise nat_eq (items x) (items y)) (e ∷ es) k n) w ≡ option_or (entry_of items (e ∷ es) w) (one_more w (items k) n)
      by true h rest = let found : true ≡ false = ap (λ b. is_some (cond b (Some e.1) (entry_of items es (items k)))) (sym h) ∙ absent in cc
      by false h rest =
          let more = rest (ap (λ b. is_some (cond b (Some e.1) (entry_of items es (items k)))) (sym h) ∙ absent) in
          ap (λ b. entry_of items (if b then (e.0, n) ∷ es else e ∷ insert_entry (λ x y. pointwise nat_eq (items x) (items y)) es k n) w) h
          ∙ (ap (λ o. cond (pointwise nat_eq w (items e.0)) (Some e.1) o) more
          ∙ or_cond (pointwise nat_eq w (items e.0)) e.1 (entry_of items es w) (one_more w (items k) n))

-- the first name, and then the others
pub place_step : (o : Option ℕ) (w x : List ℕ) (n : ℕ) (rest : Option ℕ) → option_or (option_or o (one_more w x n)) rest ≡ option_or o (if pointwise nat_eq w x then Some n else rest)
place_step (Some m) w x n rest = refl
place_step None w x n rest = by (pointwise nat_eq w x)
  where
    by : (b : Bool) → option_or (option_or None (if b then Some n else None)) rest ≡ option_or None (if b then Some n else rest)
    by true = refl
    by false = refl

-- the place is one of the names
pub place_within : (n : ℕ) (xs : List (List ℕ)) (name : List ℕ) (k : ℕ) → n + length xs ≡ k → IfSome (place_from n xs name) (λ p. p < k)
place_within n [] name k long = tt
place_within n (x ∷ xs) name k long = by (pointwise nat_eq name x) (place_within (suc n) xs name k (omega (arith, long)))
  where
    by : (b : Bool) → IfSome (place_from (suc n) xs name) (λ p. p < k) → IfSome (if b then Some n else place_from (suc n) xs name) (λ p. p < k)
    by true h = omega (arith, long)
    by false h = h

pub field_within : (fs : List Field) (name : List ℕ) → IfSome (place_from 0 (field_names fs) name) (λ p. p < length fs)
field_within fs name = let long = length-map fs (λ (f : Field). f.name) in place_within 0 (field_names fs) name (length fs) (omega (arith, long))
