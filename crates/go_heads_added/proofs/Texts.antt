-- Texts that differ, and lists of which each item has something.
use Rattle.std.proofs.Common.{◌≡◌, ℕ, suc, Bool, true, false, List, [], ◌∷◌, ◌++◌, map, refl, sym, subst, ◌∙◌}
use Rattle.std.specs.Prelude.{if◌then◌else◌}
use Rattle.std.specs.List.{AllByRecursion}
use Rattle.go_tokens.specs.Spellings.{same_text}
use Rattle.go_tokens.specs.Tokens.{TokenList}
use Rattle.go_tokens.proofs.Public.{same_text-true}
use Rattle.go_tree.specs.Declarations.{Found, found_in, found_from, is_new, new_among}
use Rattle.go_tree.specs.declared.event.Event.{Event}
use Rattle.go_tree.specs.declared.event.Event.TheVariants as event
use Rattle.go_tree.specs.Units.{Unit, word}
use Rattle.go_heads_added.specs.Added.{NoneSays}

pub turned : (a b : List ℕ) → same_text a b ≡ false → same_text b a ≡ false
turned a b e = by (same_text b a) refl
  where
    by : (c : Bool) → same_text b a ≡ c → c ≡ false
    by false q = refl
    by true q =
        let one : b ≡ a = same_text-true b a q in
        let first : same_text a a ≡ true = subst (λ z. same_text z a ≡ true) one q in
        let second : same_text a b ≡ true = subst (λ z. same_text a z ≡ true) (sym one) first in
        sym second ∙ e

-- ---- each item

module _ {A : Type 0} (P : A → Type 0) where
  pub all_both : (xs ys : List A) → AllByRecursion P xs → AllByRecursion P ys → AllByRecursion P (xs ++ ys)
  all_both [] ys h g = g
  all_both (x ∷ xs) ys h g = (h.0, all_both xs ys h.1 g)

  pub all_front : (xs ys : List A) → AllByRecursion P (xs ++ ys) → AllByRecursion P xs
  all_front [] ys h = tt
  all_front (x ∷ xs) ys h = (h.0, all_front xs ys h.1)

  pub all_behind : (xs ys : List A) → AllByRecursion P (xs ++ ys) → AllByRecursion P ys
  all_behind [] ys h = h
  all_behind (x ∷ xs) ys h = all_behind xs ys h.1

pub all_more : {A : Type 0} (P Q : A → Type 0) → ((x : A) → P x → Q x) → (xs : List A) → AllByRecursion P xs → AllByRecursion Q xs
all_more P Q f [] h = tt
all_more P Q f (x ∷ xs) h = (f x h.0, all_more P Q f xs h.1)

pub all_mapped : {A B : Type 0} (P : A → Type 0) (Q : B → Type 0) (f : A → B) → ((x : A) → P x → Q (f x)) → (xs : List A) → AllByRecursion P xs → AllByRecursion Q (map f xs)
all_mapped P Q f g [] h = tt
all_mapped P Q f g (x ∷ xs) h = (g x h.0, all_mapped P Q f g xs h.1)

pub new_all : (P : Found → Type 0) (all ds : List Found) → AllByRecursion P ds → AllByRecursion P (new_among all ds)
new_all P all [] h = tt
new_all P all (d ∷ ds) h = by (is_new all d) (new_all P all ds h.1)
  where
    by : (b : Bool) → AllByRecursion P (new_among all ds) → AllByRecursion P (if b then d ∷ new_among all ds else new_among all ds)
    by true g = (h.0, g)
    by false g = g

-- ---- names that no token says

abbrev pub IsApart : List ℕ → Found → Type 0
IsApart name d = same_text name d.name ≡ false

module _ (name : List ℕ) where
  in_apart : (n : ℕ) (ts : TokenList) (es : List Event) → ((t : ℕ) → same_text name (word ts t) ≡ false) → AllByRecursion (IsApart name) (found_in n ts es)
  in_apart n ts [] f = tt
  in_apart n ts (event.Declaration d ∷ es) f = (f d.name, in_apart n ts es f)
  in_apart n ts (e ∷ es) f = in_apart n ts es f

  pub from_apart : (n : ℕ) (us : List Unit) → NoneSays name us → AllByRecursion (IsApart name) (found_from n us)
  from_apart n [] h = tt
  from_apart n (u ∷ us) h =
      all_both (IsApart name) (found_in n u.tokens u.events) (found_from (suc n) us) (in_apart n u.tokens u.events (λ t. h.by 0 u t refl)) (from_apart (suc n) us (record { by = λ m v t e. h.by (suc m) v t e }))

  -- of each file
  abbrev pub Says : Unit → Type 0
  Says u = (t : ℕ) → same_text name (word u.tokens t) ≡ false

  pub all_say : (us : List Unit) → NoneSays name us → AllByRecursion Says us
  all_say [] h = tt
  all_say (u ∷ us) h = (λ t. h.by 0 u t refl, all_say us (record { by = λ m v t e. h.by (suc m) v t e }))
