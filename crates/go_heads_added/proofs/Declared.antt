-- What a package declares where a function is put in.
use Rattle.std.proofs.Common.{◌≡◌, ℕ, Bool, true, false, ◌&&◌, ◌||◌, not, List, [], ◌∷◌, ◌++◌, map, refl, sym, ap, ◌∙◌}
use Rattle.std.specs.Prelude.{if◌then◌else◌}
use Rattle.std.specs.List.{AllByRecursion}
use Rattle.go_tree.specs.Units.{is_blank}
use Rattle.go_tree.specs.Declarations.{Found, is_reused_of, is_reused, may_be_reused, is_new, new_among}
use Rattle.go_heads_added.specs.Added.{longer}

or_false : (a b : Bool) → a ≡ false → (a || b) ≡ b
or_false true b e = cc
or_false false b e = refl

or_assoc : (a b c : Bool) → ((a || b) || c) ≡ (a || (b || c))
or_assoc true b c = refl
or_assoc false b c = refl

reused_append : (d : Found) (xs ys : List Found) → is_reused d (xs ++ ys) ≡ (is_reused d xs || is_reused d ys)
reused_append d [] ys = refl
reused_append d (x ∷ xs) ys = ap (λ b. is_reused_of d x || b) (reused_append d xs ys) ∙ sym (or_assoc (is_reused_of d x) (is_reused d xs) (is_reused d ys))

pub new_append : (all ds es : List Found) → new_among all (ds ++ es) ≡ new_among all ds ++ new_among all es
new_append all [] es = refl
new_append all (d ∷ ds) es = by (is_new all d) (new_append all ds es)
  where
    by : (b : Bool) → new_among all (ds ++ es) ≡ new_among all ds ++ new_among all es → (if b then d ∷ new_among all (ds ++ es) else new_among all (ds ++ es)) ≡ (if b then d ∷ new_among all ds else new_among all ds) ++ new_among all es
    by true e = ap (λ l. d ∷ l) e
    by false e = e

module _ (file end : ℕ) where
  reused_longer : (d : Found) (xs : List Found) → is_reused (longer file end d) (map (longer file end) xs) ≡ is_reused d xs
  reused_longer d [] = refl
  reused_longer d (x ∷ xs) = ap (λ b. is_reused_of d x || b) (reused_longer d xs)

  -- none of these is a variable that the declaration would reuse
  abbrev pub IsApart : List Found → Found → Type 0
  IsApart es d = is_reused d es ≡ false

  reused_same : (ds es fs : List Found) (d : Found) → IsApart es d → is_reused (longer file end d) (map (longer file end) ds ++ (es ++ map (longer file end) fs)) ≡ is_reused d (ds ++ fs)
  reused_same ds es fs d a =
      reused_append (longer file end d) (map (longer file end) ds) (es ++ map (longer file end) fs)
      ∙ ap (λ b. is_reused (longer file end d) (map (longer file end) ds) || b) (reused_append (longer file end d) es (map (longer file end) fs) ∙ or_false (is_reused (longer file end d) es) _ (same_apart es a) ∙ reused_longer d fs)
      ∙ ap (λ b. b || is_reused d fs) (reused_longer d ds)
      ∙ sym (reused_append d ds fs)
    where
      same_apart : (xs : List Found) → is_reused d xs ≡ false → is_reused (longer file end d) xs ≡ false
      same_apart [] h = refl
      same_apart (x ∷ xs) h = h

  new_same : (ds es fs : List Found) (d : Found) → IsApart es d → is_new (map (longer file end) ds ++ (es ++ map (longer file end) fs)) (longer file end d) ≡ is_new (ds ++ fs) d
  new_same ds es fs d a = ap (λ b. not (is_blank d.name) && not (may_be_reused d.it.manner && b)) (reused_same ds es fs d a)

  among_same : (ds es fs xs : List Found) → AllByRecursion (IsApart es) xs
      → new_among (map (longer file end) ds ++ (es ++ map (longer file end) fs)) (map (longer file end) xs) ≡ map (longer file end) (new_among (ds ++ fs) xs)
  among_same ds es fs [] a = refl
  among_same ds es fs (x ∷ xs) a =
      ap (λ b. if b then longer file end x ∷ new_among (map (longer file end) ds ++ (es ++ map (longer file end) fs)) (map (longer file end) xs) else new_among (map (longer file end) ds ++ (es ++ map (longer file end) fs)) (map (longer file end) xs)) (new_same ds es fs x a.0)
      ∙ by (is_new (ds ++ fs) x) (among_same ds es fs xs a.1)
    where
      by : (b : Bool) {us : List Found} → us ≡ map (longer file end) (new_among (ds ++ fs) xs) → (if b then longer file end x ∷ us else us) ≡ map (longer file end) (if b then x ∷ new_among (ds ++ fs) xs else new_among (ds ++ fs) xs)
      by true e = ap (λ l. longer file end x ∷ l) e
      by false e = e

  -- The declarations are those that there were, with the new ones between.
  pub declarations_added : (ds es fs : List Found) → AllByRecursion (IsApart es) ds → AllByRecursion (IsApart es) fs
      → new_among (map (longer file end) ds ++ (es ++ map (longer file end) fs)) (map (longer file end) ds ++ (es ++ map (longer file end) fs))
      ≡ map (longer file end) (new_among (ds ++ fs) ds) ++ (new_among (map (longer file end) ds ++ (es ++ map (longer file end) fs)) es ++ map (longer file end) (new_among (ds ++ fs) fs))
  declarations_added ds es fs a b =
      let all = map (longer file end) ds ++ (es ++ map (longer file end) fs) in
      new_append all (map (longer file end) ds) (es ++ map (longer file end) fs)
      ∙ ap (λ l. l ++ new_among all (es ++ map (longer file end) fs)) (among_same ds es fs ds a)
      ∙ ap (λ l. map (longer file end) (new_among (ds ++ fs) ds) ++ l) (new_append all es (map (longer file end) fs) ∙ ap (λ l. new_among all es ++ l) (among_same ds es fs fs b))
