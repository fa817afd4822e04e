-- What the objects of a package need where a function is appended to a file.
use Rattle.std.proofs.Common.{◌≡◌, ◌∙◌, ℕ, suc, ◌<◌, ◌≤◌, Bool, true, false, ◌&&◌, List, [], ◌∷◌, ◌++◌, map, Option, Some, None, refl, sym, ap, subst, append-nil, arith}
use Rattle.std.specs.Prelude.{if◌then◌else◌, nat_eq}
use Rattle.std.specs.Option.{option_map}
use Rattle.std.specs.List.{AllByRecursion}
use Rattle.std.proofs.lemmas.Bool.Decides.{nat_tests}
use Rattle.go_tree.specs.Declarations.{Found, found}
use Rattle.go_tree.specs.Needs.{Needed}
use Rattle.go_tree.specs.Uses.{uses, object_of}
use Rattle.go_package_defs.specs.Sources.{Source, Package, unit_of, package_of, needed_numbers, number_before, rounds, is_at, declared_at, needed_from, needed_at}
use Rattle.go_heads_added.specs.Added.{Gap, longer, shifted, Stands}
use Rattle.go_heads_added.specs.Kept.{KeepsNeeds, StandsInFront, longer_need, needed_after}
use Rattle.go_package_added.specs.OneMore.{all_beyond}
use Rattle.go_package_added.specs.Appended.{IsClosed, further_from}
use Rattle.go_package_added.proofs.Outlined.{number_moved, before_beyond}

-- ---- the declaration of a token

module _ (k n end : ℕ) where
  at_longer : (m t : ℕ) (xs ys zs : List Found) → declared_at m t ys ≡ option_map (longer k end) (declared_at m t zs) → declared_at m t (map (longer k end) xs ++ ys) ≡ option_map (longer k end) (declared_at m t (xs ++ zs))
  at_longer m t [] ys zs e = e
  at_longer m t (x ∷ xs) ys zs e = by (is_at m t x) (at_longer m t xs ys zs e)
    where
      by : (b : Bool) → declared_at m t (map (longer k end) xs ++ ys) ≡ option_map (longer k end) (declared_at m t (xs ++ zs))
          → (if b then Some (longer k end x) else declared_at m t (map (longer k end) xs ++ ys)) ≡ option_map (longer k end) (if b then Some x else declared_at m t (xs ++ zs))
      by true h = refl
      by false h = h

  at_map : (m t : ℕ) (xs : List Found) → declared_at m t (map (longer k end) xs) ≡ option_map (longer k end) (declared_at m t xs)
  at_map m t xs = ap (declared_at m t) (sym (append-nil (map (longer k end) xs))) ∙ at_longer m t xs [] [] refl ∙ ap (λ l. option_map (longer k end) (declared_at m t l)) (append-nil xs)

  at_aside : (m t : ℕ) → Stands k n m t → (xs ys : List Found) → AllByRecursion (λ d. (d.file ≡ k) × (n ≤ d.it.name)) xs → declared_at m t (xs ++ ys) ≡ declared_at m t ys
  at_aside m t s [] ys h = refl
  at_aside m t s (x ∷ xs) ys h = ap (λ b. if b then Some x else declared_at m t (xs ++ ys)) (aside x h.0) ∙ at_aside m t s xs ys h.1
    where
      aside : (d : Found) → (d.file ≡ k) × (n ≤ d.it.name) → is_at m t d ≡ false
      aside d w = by (nat_eq d.file m) refl
        where
          by : (b : Bool) → nat_eq d.file m ≡ b → (nat_eq d.file m && nat_eq d.it.name t) ≡ false
          by false e = ap (λ c. c && nat_eq d.it.name t) e
          by true e =
              let file = w.0 in
              let name = w.1 in
              let below : t < n = s (let z : nat_eq m k ≡ true = grind (arith, nat_tests) in z) in
              let other : nat_eq d.it.name t ≡ false = grind (arith, nat_tests) in
              ap (λ c. c && nat_eq d.it.name t) e ∙ other

  at_all : (m t : ℕ) → Stands k n m t → (xs es ys : List Found) → AllByRecursion (λ d. (d.file ≡ k) × (n ≤ d.it.name)) es
      → declared_at m t (map (longer k end) xs ++ (es ++ map (longer k end) ys)) ≡ option_map (longer k end) (declared_at m t (xs ++ ys))
  at_all m t s xs es ys h = at_longer m t xs (es ++ map (longer k end) ys) ys (at_aside m t s es (map (longer k end) ys) h ∙ at_map m t ys)

abbrev MaybeHas : (Found → Type 0) → Option Found → Type 0
MaybeHas P None = Unit {0}
MaybeHas P (Some d) = P d

at_has : (P : Found → Type 0) (m t : ℕ) (xs : List Found) → AllByRecursion P xs → MaybeHas P (declared_at m t xs)
at_has P m t [] h = tt
at_has P m t (x ∷ xs) h = by (is_at m t x) (at_has P m t xs h.1)
  where
    by : (b : Bool) → MaybeHas P (declared_at m t xs) → MaybeHas P (if b then Some x else declared_at m t xs)
    by true w = h.0
    by false w = w

-- ---- all that it needs

module _ (k n end : ℕ) (ss us : List Source) (g : Gap) (keeps : KeepsNeeds k n end (map unit_of ss) (map unit_of us))
    (objects : (m t : ℕ) → Stands k n m t → object_of (uses (map unit_of us)) m t ≡ option_map (shifted g) (object_of (uses (map unit_of ss)) m t))
    (two : rounds (package_of us (uses (map unit_of us))) ≡ suc (suc (rounds (package_of ss (uses (map unit_of ss)))))) where
  abbrev p : Package
  p = package_of ss (uses (map unit_of ss))

  abbrev q : Package
  q = package_of us (uses (map unit_of us))

  numbers_moved : (xs : List Needed) → AllByRecursion (λ x. StandsInFront k n x.it) xs → needed_numbers q (map (longer_need k end) xs) ≡ all_beyond g.shared (needed_numbers p xs)
  numbers_moved [] h = refl
  numbers_moved (x ∷ xs) h =
      ap (λ o. number_before o (needed_numbers q (map (longer_need k end) xs))) (number_moved p q g x.it.file x.it.it.name (objects x.it.file x.it.it.name (λ e. (h.0 e).0)))
      ∙ ap (number_before _) (numbers_moved xs h.1) ∙ before_beyond g.shared _ (needed_numbers p xs)

  from_kept : (c : ℕ) (full : Bool) (o : Option Found) → MaybeHas (StandsInFront k n) o → needed_from q c full (option_map (longer k end) o) ≡ all_beyond g.shared (further_from p c full o)
  from_kept c full None h = refl
  from_kept c full (Some d) h =
      let x : Needed = record { it = record d { it = record d.it { column = c } }; full = full } in
      ap (λ r. needed_numbers q (needed_after q.asked r (longer_need k end x))) two
      ∙ ap (needed_numbers q) (keeps.same (suc (suc (rounds p))) x h)
      ∙ numbers_moved (needed_after p.asked (suc (suc (rounds p))) x) (keeps.stay (suc (suc (rounds p))) x)

  pub needed_kept : (m t : ℕ) → Stands k n m t → IsClosed p m t → (c : ℕ) (full : Bool) → needed_at q m t c full ≡ all_beyond g.shared (needed_at p m t c full)
  needed_kept m t s closed c full =
      ap (needed_from q c full) (ap (declared_at m t) keeps.are ∙ at_all k n end m t s keeps.first keeps.between keeps.second keeps.later ∙ ap (λ l. option_map (longer k end) (declared_at m t l)) (sym keeps.were))
      ∙ from_kept c full (declared_at m t (found (map unit_of ss))) (at_has (StandsInFront k n) m t (found (map unit_of ss)) (subst (AllByRecursion (StandsInFront k n)) (sym keeps.were) keeps.stand))
      ∙ ap (all_beyond g.shared) (closed c full)
