-- What is looked up, and what was declared, where a function is appended.
use Rattle.std.proofs.Common.{◌≡◌, ℕ, suc, ◌+◌, ◌<◌, ◌≤◌, Bool, true, false, List, [], ◌∷◌, ◌++◌, length, map, refl, sym, subst, ◌∙◌, arith}
use Rattle.std.specs.Prelude.{if◌then◌else◌, nat_eq}
use Rattle.std.specs.List.{AllByRecursion}
use Rattle.std.proofs.lemmas.Bool.Decides.{nat_tests}
use Rattle.go_tokens.specs.Tokens.{TokenList}
use Rattle.go_tree.specs.declared.event.Event.{Event}
use Rattle.go_tree.specs.declared.event.Event.TheVariants as event
use Rattle.go_tree.specs.Declarations.{Found, found_in, found_from, declarations}
use Rattle.go_tree.specs.Lookups.{Asked, asked, asked_in, asked_from}
use Rattle.go_tree.specs.Meanings.{Meaning, first_numbers, numbered, imported_from, meanings}
use Rattle.go_tree.specs.Units.{Unit, word, is_blank}
use Rattle.go_heads_added.specs.Added.{reaching, IsAdded, LiesIn, NoneSays}
use Rattle.go_heads_added.specs.Faults.{FileIsWithin}
use Rattle.go_heads_added.specs.Within.{EventWithin, IsOfFunction, SiteBehind}
use Rattle.go_heads_added.proofs.Asks.{AsksFollow, asks_follow}
use Rattle.go_heads_added.proofs.Circles.{Maybe, IsOld, SourceHas, from_has, numbered_has, imports_have}
use Rattle.go_heads_added.proofs.Names.{g, front, rest, kept, others, first_meanings, new_meanings, other_meanings, declarations_were, meanings_were, meanings_are, new_aside}
use Rattle.go_heads_added.proofs.Objects.{were, are}
use Rattle.go_heads_added.proofs.Texts.{Says, all_both, new_all, all_say}

module _ (k n : ℕ) (name : List ℕ) (old new : List Unit) (h : IsAdded k n name old new) (i : LiesIn k n name old new h) (q : NoneSays name old) (w : FileIsWithin k n name old new h) where
  abbrev pub e : ℕ
  e = h.longer.end

  abbrev pub ts : TokenList
  ts = h.a.tokens

  abbrev pub us : TokenList
  us = h.b.tokens

  abbrev pub extra : List Event
  extra = h.longer.added

  abbrev longest : List Event
  longest = map (reaching e) h.a.events ++ extra

  abbrev pub asks : List Asked
  asks = asked_from (meanings old) 0 old

  abbrev pub more_asks : List Asked
  more_asks = asked_from (meanings new) 0 new

  abbrev pub mid : List Asked
  mid = asked_in (meanings new) k us extra

  pub says : AllByRecursion (Says name) (h.before ++ h.a ∷ h.behind)
  says = all_say name (h.before ++ h.a ∷ h.behind) (subst (NoneSays name) h.was q)

  -- ---- names that are looked up

  pub follow : AsksFollow k e (g k n name old new h i) mid asks more_asks
  follow =
      let x = first_meanings k n name old new h i in
      let y = new_meanings k n name old new h i in
      let z = other_meanings k n name old new h i in
      let r = asks_follow k n name e (g k n name old new h i) x y z (new_aside k n name old new h i) h.before h.a h.b h.behind extra h.place h.longer.events h.longer.words w.events says in
      let R : List Unit → List Unit → List Meaning → List Meaning → Type 0 = λ zs vs ms ns. AsksFollow k e (g k n name old new h i) (asked_in ns k us extra) (asked_from ms 0 zs) (asked_from ns 0 vs) in
      let ms = were k n name e (g k n name old new h i) x y z in
      let ns = are k n name e (g k n name old new h i) x y z in
      let one : R old (h.before ++ h.b ∷ h.behind) ms ns = subst (λ zs. R zs (h.before ++ h.b ∷ h.behind) ms ns) (sym h.was) r in
      let two : R old new ms ns = subst (λ vs. R old vs ms ns) (sym h.is) one in
      let three : R old new (meanings old) ns = subst (λ m. R old new m ns) (sym (meanings_were k n name old new h i)) two in
      subst (λ m. R old new (meanings old) m) (sym (meanings_are k n name old new h i)) three

  -- ---- old declarations

  abbrev pub IsInFront : Found → Type 0
  IsInFront = IsOld k n e (g k n name old new h i)

  old_in : (es : List Event) → AllByRecursion (EventWithin n) es → AllByRecursion IsInFront (found_in k ts es)
  old_in [] x = tt
  old_in (event.Declaration d ∷ es) x = ((λ z. x.0), old_in es x.1)
  old_in (event.Use u ∷ es) x = old_in es x.1
  old_in (event.Import p ∷ es) x = old_in es x.1
  old_in (event.Member m y j ∷ es) x = old_in es x.1
  old_in (event.Bodiless y j ∷ es) x = old_in es x.1
  old_in (event.Statement y j ∷ es) x = old_in es x.1
  old_in (event.Misplaced y j ∷ es) x = old_in es x.1
  old_in (event.SecondDefault y ∷ es) x = old_in es x.1

  other_in : (m : ℕ) (vs : TokenList) (es : List Event) → nat_eq m k ≡ false → AllByRecursion IsInFront (found_in m vs es)
  other_in m vs [] x = tt
  other_in m vs (event.Declaration d ∷ es) x = ((λ z. absurd (never (sym x ∙ z))), other_in m vs es x)
    where
      never : false ≡ true → ⊥
      never z = cc
  other_in m vs (event.Use u ∷ es) x = other_in m vs es x
  other_in m vs (event.Import p ∷ es) x = other_in m vs es x
  other_in m vs (event.Member o y j ∷ es) x = other_in m vs es x
  other_in m vs (event.Bodiless y j ∷ es) x = other_in m vs es x
  other_in m vs (event.Statement y j ∷ es) x = other_in m vs es x
  other_in m vs (event.Misplaced y j ∷ es) x = other_in m vs es x
  other_in m vs (event.SecondDefault y ∷ es) x = other_in m vs es x

  before_in : (m : ℕ) (xs : List Unit) → m + length xs ≤ k → AllByRecursion IsInFront (found_from m xs)
  before_in m [] l = tt
  before_in m (u ∷ xs) l = all_both IsInFront (found_in m u.tokens u.events) (found_from (suc m) xs) (other_in m u.tokens u.events (grind (arith, nat_tests))) (before_in (suc m) xs (omega (arith, l)))

  pub behind_in : (m : ℕ) (xs : List Unit) → k < m → AllByRecursion IsInFront (found_from m xs)
  behind_in m [] l = tt
  behind_in m (u ∷ xs) l = all_both IsInFront (found_in m u.tokens u.events) (found_from (suc m) xs) (other_in m u.tokens u.events (grind (arith, nat_tests))) (behind_in (suc m) xs (omega (arith, l)))

  pub front_is_old : AllByRecursion IsInFront (front k n name old new h i)
  front_is_old = all_both IsInFront (found_from 0 h.before) (found_in k ts h.a.events) (before_in 0 h.before (let p = h.place in omega (arith, p))) (old_in h.a.events w.events)

  pub kept_is_old : AllByRecursion IsInFront (kept k n name old new h i)
  kept_is_old = new_all IsInFront (front k n name old new h i ++ rest k n name old new h i) (front k n name old new h i) front_is_old

  pub others_is_old : AllByRecursion IsInFront (others k n name old new h i)
  others_is_old = new_all IsInFront (front k n name old new h i ++ rest k n name old new h i) (rest k n name old new h i) (behind_in (suc k) h.behind (omega arith))

  pub declared_is_old : AllByRecursion IsInFront (declarations old)
  declared_is_old = subst (AllByRecursion IsInFront) (sym (declarations_were k n name old new h i)) (all_both IsInFront (kept k n name old new h i) (others k n name old new h i) kept_is_old others_is_old)

  -- what the function's own names are
  pub news_in : (ms : List Meaning) (es : List Event) → AllByRecursion (IsOfFunction n) es → AllByRecursion (λ a. (a.file ≡ k) × SiteBehind n a.it.site) (asked_in ms k us es)
  news_in ms [] x = tt
  news_in ms (event.Use u ∷ es) x = by (is_blank (word us u.name)) (news_in ms es x.1)
    where
      by : (b : Bool) → AllByRecursion (λ a. (a.file ≡ k) × SiteBehind n a.it.site) (asked_in ms k us es)
          → AllByRecursion (λ a. (a.file ≡ k) × SiteBehind n a.it.site) (if b then asked_in ms k us es else asked ms k us u ∷ asked_in ms k us es)
      by true y = y
      by false y = ((refl, x.0), y)
  news_in ms (event.Declaration d ∷ es) x = news_in ms es x.1
  news_in ms (event.Import p ∷ es) x = absurd x.0
  news_in ms (event.Member m y j ∷ es) x = news_in ms es x.1
  news_in ms (event.Bodiless y j ∷ es) x = absurd x.0
  news_in ms (event.Statement y j ∷ es) x = absurd x.0
  news_in ms (event.Misplaced y j ∷ es) x = absurd x.0
  news_in ms (event.SecondDefault y ∷ es) x = absurd x.0

  pub meanings_old : AllByRecursion (λ m. SourceHas IsInFront m.source) (meanings old)
  meanings_old =
      all_both (λ m. SourceHas IsInFront m.source) (imported_from 0 old) (numbered first_numbers (declarations old)) (imports_have IsInFront 0 old)
      (numbered_has IsInFront first_numbers (declarations old) declared_is_old)

  pub asks_old : AllByRecursion (λ a. Maybe (λ m. SourceHas IsInFront m.source) a.meaning) asks
  asks_old = from_has (λ m. SourceHas IsInFront m.source) (meanings old) meanings_old 0 old
