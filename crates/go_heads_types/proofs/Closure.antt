-- What declarations need through others.
use Rattle.std.proofs.Common.{◌≡◌, ◌∙◌, ℕ, zero, suc, Bool, true, false, List, [], ◌∷◌, ◌++◌, refl, sym, ap, subst}
use Rattle.std.specs.Prelude.{if◌then◌else◌, ◌&&◌, ◌||◌, nat_eq}
use Rattle.go_grammar.specs.Trees.{parts}
use Rattle.go_tree.specs.Declarations.{Found}
use Rattle.go_tree.specs.Lookups.{Asked}
use Rattle.go_tree.specs.Needs.{Needed, needs, is_same, needs_of, same_way, is_known, with_one, with_all, all_needed}
use Rattle.go_tree.specs.Uses.{UsesView, uses, object_of}
use Rattle.go_heads.specs.Heads.{File, in_bodies}
use Rattle.go_package_defs.specs.Sources.{Package, number_in, number_before, needed_numbers}
use Rattle.go_heads.specs.Objects.{units_of, file_in, head_place}
use Rattle.go_heads.specs.Lookups.{AtOnePlace}
use Rattle.go_heads_types.proofs.Looked.{same_test, place_test}
use Rattle.go_heads_types.proofs.Same.{SameFound, SameNeed, SameNeeds, SameSeeking, seeking}

module _ (old new : List File) where
  abbrev p : ℕ → ℕ → Bool
  p n = in_bodies (parts (file_in old n).tree)

  abbrev q : ℕ → ℕ → Bool
  q n = in_bodies (parts (file_in new n).tree)

  one_same : (d e a b : Found) → SameFound old new d e → SameFound old new a b → is_same e b ≡ is_same d a
  one_same d e a b h k =
      ap (λ i. nat_eq i b.file && nat_eq e.it.name b.it.name) h.file ∙ ap (λ i. nat_eq d.file i && nat_eq e.it.name b.it.name) k.file ∙ by (nat_eq d.file a.file) refl
    where
      by : (c : Bool) → nat_eq d.file a.file ≡ c → (c && nat_eq e.it.name b.it.name) ≡ (c && nat_eq d.it.name a.it.name)
      by false f = refl
      by true f =
          let other : AtOnePlace old new d.file a.it.name b.it.name = subst (λ i. AtOnePlace old new i a.it.name b.it.name) (sym (same_test d.file a.file f)) k.name in
          sym (place_test (q d.file) e.it.name b.it.name h.name.after other.after)
          ∙ ap (λ i. nat_eq i (head_place new d.file b.it.name)) h.name.place
          ∙ ap (nat_eq (head_place old d.file d.it.name)) other.place
          ∙ place_test (p d.file) d.it.name a.it.name h.name.before other.before

  known_same : (x y : Needed) (xs ys : List Needed) → SameNeed old new x y → SameNeeds old new xs ys → is_known y ys ≡ is_known x xs
  known_same x y [] [] s h = refl
  known_same x y [] (b ∷ ys) s h = absurd h
  known_same x y (a ∷ xs) [] s h = absurd h
  known_same x y (a ∷ xs) (b ∷ ys) s h =
      ap (λ c. (c && same_way y.full b.full) || is_known y ys) (one_same x.it y.it a.it b.it s.it h.0.it)
      ∙ ap (λ c. (is_same x.it a.it && same_way c b.full) || is_known y ys) s.full
      ∙ ap (λ c. (is_same x.it a.it && same_way x.full c) || is_known y ys) h.0.full
      ∙ ap (λ c. (is_same x.it a.it && same_way x.full a.full) || c) (known_same x y xs ys s h.1)

  spread_same : (xs us ys vs : List Needed) → SameNeeds old new xs ys → SameNeeds old new us vs → SameNeeds old new (xs ++ us) (ys ++ vs)
  spread_same [] us [] vs h k = k
  spread_same [] us (y ∷ ys) vs h k = absurd h
  spread_same (x ∷ xs) us [] vs h k = absurd h
  spread_same (x ∷ xs) us (y ∷ ys) vs h k = (h.0, spread_same xs us ys vs h.1 k)

  with_same : (x y : Needed) (xs ys : List Needed) → SameNeed old new x y → SameNeeds old new xs ys → SameNeeds old new (with_one x xs) (with_one y ys)
  with_same x y xs ys s h = subst (λ c. SameNeeds old new (with_one x xs) (if c then ys else ys ++ y ∷ [])) (sym (known_same x y xs ys s h)) (by (is_known x xs))
    where
      by : (c : Bool) → SameNeeds old new (if c then xs else xs ++ x ∷ []) (if c then ys else ys ++ y ∷ [])
      by true = h
      by false = spread_same xs (x ∷ []) ys (y ∷ []) h (s, tt)

  pub all_with : (us vs xs ys : List Needed) → SameNeeds old new us vs → SameNeeds old new xs ys → SameNeeds old new (with_all us xs) (with_all vs ys)
  all_with [] [] xs ys h k = k
  all_with [] (v ∷ vs) xs ys h k = absurd h
  all_with (u ∷ us) [] xs ys h k = absurd h
  all_with (u ∷ us) (v ∷ vs) xs ys h k = all_with us vs (with_one u xs) (with_one v ys) h.1 (with_same u v xs ys h.0 k)

  module _ (asks others : List Asked) (each : (x y : Needed) → SameSeeking old new x y → SameNeeds old new (needs asks x) (needs others y)) where
    of_same : (xs ys : List Needed) → SameNeeds old new xs ys → SameNeeds old new (needs_of asks xs) (needs_of others ys)
    of_same [] [] h = tt
    of_same [] (y ∷ ys) h = absurd h
    of_same (x ∷ xs) [] h = absurd h
    of_same (x ∷ xs) (y ∷ ys) h = spread_same (needs asks x) (needs_of asks xs) (needs others y) (needs_of others ys) (each x y (seeking old new x y h.0)) (of_same xs ys h.1)

    pub all_same : (k : ℕ) (xs ys : List Needed) → SameNeeds old new xs ys → SameNeeds old new (all_needed asks k xs) (all_needed others k ys)
    all_same zero xs ys h = h
    all_same (suc k) xs ys h = all_same k (with_all (needs_of asks xs) xs) (with_all (needs_of others ys) ys) (all_with (needs_of asks xs) (needs_of others ys) xs ys (of_same xs ys h) h)

  pub numbers_same : (a b : Package) → a.uses ≡ uses (units_of old) → b.uses ≡ uses (units_of new) → (xs ys : List Needed) → SameNeeds old new xs ys → needed_numbers b ys ≡ needed_numbers a xs
  numbers_same a b e f [] [] h = refl
  numbers_same a b e f [] (y ∷ ys) h = absurd h
  numbers_same a b e f (x ∷ xs) [] h = absurd h
  numbers_same a b e f (x ∷ xs) (y ∷ ys) h =
      ap (λ (u : UsesView). number_before (number_in (object_of u y.it.file y.it.it.name)) (needed_numbers b ys)) f
      ∙ ap (λ o. number_before o (needed_numbers b ys)) h.0.it.number
      ∙ sym (ap (λ (u : UsesView). number_before (number_in (object_of u x.it.file x.it.it.name)) (needed_numbers b ys)) e)
      ∙ ap (number_before (number_in (object_of a.uses x.it.file x.it.it.name))) (numbers_same a b e f xs ys h.1)
