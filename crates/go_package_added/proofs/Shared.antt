-- The tokens that declare the objects of a package declare nothing else.
use Rattle.std.proofs.Common.{◌≡◌, ◌∙◌, ℕ, suc, ◌<◌, ◌≤◌, inl, inr, ◌⊎◌, Bool, true, false, ◌&&◌, List, [], ◌∷◌, ◌++◌, map, Option, Some, refl, sym, ap, subst, arith}
use Rattle.std.specs.Prelude.{if◌then◌else◌, nat_eq}
use Rattle.std.specs.List.{AllByRecursion}
use Rattle.go_tokens.specs.Tokens.{TokenList, kinds}
use Rattle.go_tokens.specs.declared.token.TokenKind.{TokenKind}
use Rattle.go_grammar.specs.Grammar.{IsFile}
use Rattle.go_grammar.specs.Trees.{Tree, last}
use Rattle.go_tree.specs.declared.event.Event.{Event}
use Rattle.go_tree.specs.declared.event.Event.TheVariants as event
use Rattle.go_tree.specs.declared.object.Declared.{Declared}
use Rattle.go_tree.specs.Contexts.{file_context, is_package}
use Rattle.go_tree.specs.Declarations.{Found, declarations, found, found_in, found_from, is_new, new_among}
use Rattle.go_tree.specs.Events.{events}
use Rattle.go_tree.specs.Needs.{is_same}
use Rattle.go_tree.specs.Units as names
use Rattle.go_tree.specs.Uses.{declared_by, declared_in_package, uses}
use Rattle.go_scopes_events.specs.Orders.{AreInOrder}
use Rattle.go_scopes_events.specs.Scopes.{AreOrderly, IsOrderly}
use Rattle.go_package_defs.specs.Sources.{Source, unit_of, is_at, declared_at}
use Rattle.go_package_settled.specs.Read.{IsFaultless}
use Rattle.go_package_settled.specs.Resolved.{IsIn}
use Rattle.go_package_added.specs.Closed.{DeclaresShared}

abbrev pub FilesAreOrderly : Type 0
FilesAreOrderly = (ts : List TokenKind) (t : Tree) → IsFile ts t → IsOrderly (events (file_context (last t)) t)

same_number : (x y : ℕ) → nat_eq x y ≡ true → x ≡ y
same_number x y e = grind (arith, e)

and_left : (a b : Bool) → (a && b) ≡ true → a ≡ true
and_left true b e = refl
and_left false b e = e

and_right : (a b : Bool) → (a && b) ≡ true → b ≡ true
and_right true b e = e
and_right false b e = cc

same_file : (d e : Found) → is_same d e ≡ true → d.file ≡ e.file
same_file d e h = same_number d.file e.file (and_left (nat_eq d.file e.file) (nat_eq d.it.name e.it.name) h)

same_name : (d e : Found) → is_same d e ≡ true → d.it.name ≡ e.it.name
same_name d e h = same_number d.it.name e.it.name (and_right (nat_eq d.file e.file) (nat_eq d.it.name e.it.name) h)

-- ---- each name is declared once

-- it stands in the file n at the token i or behind that, or in a later file
abbrev IsAfter : ℕ → ℕ → Found → Type 0
IsAfter n i d = (n < d.file) ⊎ ((n ≡ d.file) × (i ≤ d.it.name))

-- each stands behind the one in front of it
abbrev Follow : ℕ → ℕ → List Found → Type 0
Follow n i [] = Unit {0}
Follow n i (d ∷ ds) = IsAfter n i d × Follow d.file (suc d.it.name) ds

after_less : (n i j : ℕ) (d : Found) → i ≤ j → IsAfter n j d → IsAfter n i d
after_less n i j d l (inl h) = inl h
after_less n i j d l (inr h) = inr (h.0, (let k = h.1 in omega (arith, l, k)))

follow_less : (n i j : ℕ) (ds : List Found) → i ≤ j → Follow n j ds → Follow n i ds
follow_less n i j [] l h = tt
follow_less n i j (d ∷ ds) l h = (after_less n i j d l h.0, h.1)

after_on : (n i : ℕ) (d e : Found) → IsAfter n i d → IsAfter d.file (suc d.it.name) e → IsAfter n i e
after_on n i d e (inl h) (inl k) = inl (omega (arith, h, k))
after_on n i d e (inl h) (inr k) = inl (subst (λ m. n < m) k.0 h)
after_on n i d e (inr h) (inl k) = inl (subst (λ m. m < e.file) (sym h.0) k)
after_on n i d e (inr h) (inr k) = inr (h.0 ∙ k.0, (let a = h.1 in let b = k.1 in omega (arith, a, b)))

-- those of later files
follow_file : (n i : ℕ) (ds : List Found) → Follow (suc n) 0 ds → Follow n i ds
follow_file n i [] h = tt
follow_file n i (d ∷ ds) h = (later d h.0, h.1)
  where
    later : (e : Found) → IsAfter (suc n) 0 e → IsAfter n i e
    later e (inl k) = inl (omega (arith, k))
    later e (inr k) = inl (subst (λ m. n < m) k.0 (omega arith))

follow_in : (n i j : ℕ) (ts : TokenList) (es : List Event) (rest : List Found) → AreInOrder i j es → Follow (suc n) 0 rest → Follow n i (found_in n ts es ++ rest)
follow_in n i j ts [] rest h k = follow_file n i rest k
follow_in n i j ts (event.Declaration d ∷ es) rest h k = (inr (refl, h.0), follow_in n (suc d.name) j ts es rest h.1 k)
follow_in n i j ts (event.Use u ∷ es) rest h k = follow_less n i (suc u.name) (found_in n ts es ++ rest) (let a = h.0 in omega (arith, a)) (follow_in n (suc u.name) j ts es rest h.1 k)
follow_in n i j ts (e ∷ es) rest h k = follow_in n i j ts es rest h k

follow_found : (n : ℕ) (us : List names.Unit) → AreOrderly us → Follow n 0 (found_from n us)
follow_found n [] h = tt
follow_found n (u ∷ us) h = follow_in n 0 h.0.end u.tokens u.events (found_from (suc n) us) h.0.order (follow_found (suc n) us h.1)

in_after : (n i : ℕ) (ds : List Found) (y : Found) → Follow n i ds → IsIn y ds → IsAfter n i y
in_after n i [] y h k = absurd k
in_after n i (d ∷ ds) y h (inl e) = subst (IsAfter n i) (sym e) h.0
in_after n i (d ∷ ds) y h (inr k) = after_on n i d y h.0 (in_after d.file (suc d.it.name) ds y h.1 k)

not_behind : (x y : Found) → is_same x y ≡ true → IsAfter x.file (suc x.it.name) y → ⊥
not_behind x y e (inl h) = let f = same_file x y e in omega (arith, h, f)
not_behind x y e (inr h) = let f = same_name x y e in let k = h.1 in omega (arith, k, f)

not_before : (x y : Found) → is_same x y ≡ true → IsAfter y.file (suc y.it.name) x → ⊥
not_before x y e (inl h) = let f = same_file x y e in omega (arith, h, f)
not_before x y e (inr h) = let f = same_name x y e in let k = h.1 in omega (arith, k, f)

distinct : (n i : ℕ) (ds : List Found) (x y : Found) → Follow n i ds → IsIn x ds → IsIn y ds → is_same x y ≡ true → x ≡ y
distinct n i [] x y h k l e = absurd k
distinct n i (d ∷ ds) x y h (inl p) (inl q) e = p ∙ sym q
distinct n i (d ∷ ds) x y h (inl p) (inr l) e = absurd (not_behind x y e (subst (λ z. IsAfter z.file (suc z.it.name) y) (sym p) (in_after d.file (suc d.it.name) ds y h.1 l)))
distinct n i (d ∷ ds) x y h (inr k) (inl q) e = absurd (not_before x y e (subst (λ z. IsAfter z.file (suc z.it.name) x) (sym q) (in_after d.file (suc d.it.name) ds x h.1 k)))
distinct n i (d ∷ ds) x y h (inr k) (inr l) e = distinct d.file (suc d.it.name) ds x y h.1 k l e

-- ---- the declaration at a token

pub record IsFoundAt (m t : ℕ) (xs : List Found) (e : Found) : Type 0 where
  pub among : IsIn e xs
  pub file : e.file ≡ m
  pub name : e.it.name ≡ t

pub found_at : (m t : ℕ) (xs : List Found) (e : Found) → declared_at m t xs ≡ Some e → IsFoundAt m t xs e
found_at m t [] e h = cc
found_at m t (x ∷ xs) e h = by (is_at m t x) refl h (λ r. found_at m t xs e r)
  where
    inner : (y z : Found) → ◌≡◌ {A = Option Found} (Some y) (Some z) → y ≡ z
    inner y z q = cc

    later : IsFoundAt m t xs e → IsFoundAt m t (x ∷ xs) e
    later r = record { among = inr r.among; file = r.file; name = r.name }

    by : (b : Bool) → is_at m t x ≡ b → (if b then Some x else declared_at m t xs) ≡ Some e → (declared_at m t xs ≡ Some e → IsFoundAt m t xs e) → IsFoundAt m t (x ∷ xs) e
    by true q r f =
        let one : x ≡ e = inner x e r in
        record {
          among = inl (sym one);
          file = ap (λ (z : Found). z.file) (sym one) ∙ same_number x.file m (and_left (nat_eq x.file m) (nat_eq x.it.name t) q);
          name = ap (λ (z : Found). z.it.name) (sym one) ∙ same_number x.it.name t (and_right (nat_eq x.file m) (nat_eq x.it.name t) q);
        }
    by false q r f = later (f r)

-- ---- objects of the package

pub record ComesFrom (xs : List Found) (d : Declared) : Type 0 where
  pub it : Found
  pub among : IsIn it xs
  pub file : it.file ≡ d.file
  pub name : it.it.name ≡ d.name
  pub block : is_package it.it.block ≡ true

pub new_in : (all xs : List Found) (d : Found) → IsIn d (new_among all xs) → IsIn d xs
new_in all [] d h = h
new_in all (x ∷ xs) d h = by (is_new all x) h (λ r. new_in all xs d r)
  where
    by : (b : Bool) → IsIn d (if b then x ∷ new_among all xs else new_among all xs) → (IsIn d (new_among all xs) → IsIn d xs) → IsIn d (x ∷ xs)
    by true (inl e) f = inl e
    by true (inr r) f = inr (f r)
    by false r f = inr (f r)

level_comes : (xs ds : List Found) → ((d : Found) → IsIn d ds → IsIn d xs) → AllByRecursion (ComesFrom xs) (declared_in_package ds)
level_comes xs [] f = tt
level_comes xs (d ∷ ds) f = by (is_package d.it.block) refl (level_comes xs ds (λ e h. f e (inr h)))
  where
    by : (b : Bool) → is_package d.it.block ≡ b → AllByRecursion (ComesFrom xs) (declared_in_package ds)
        → AllByRecursion (ComesFrom xs) (if b then declared_by d ∷ declared_in_package ds else declared_in_package ds)
    by true e r = (record { it = d; among = f d (inl refl); file = refl; name = refl; block = e }, r)
    by false e r = r

same_test : (x y : ℕ) → x ≡ y → nat_eq x y ≡ true
same_test x y e = grind (arith, e)

both_true : (a b : Bool) → a ≡ true → b ≡ true → (a && b) ≡ true
both_true a b e f = ap (λ c. c && b) e ∙ f

pub are_orderly : FilesAreOrderly → (ss : List Source) → AllByRecursion (λ (s : Source). IsFile (kinds s.tokens.tokens) s.tree) ss → AreOrderly (map unit_of ss)
are_orderly law [] h = tt
are_orderly law (s ∷ ss) h = (law (kinds s.tokens.tokens) s.tree h.0, are_orderly law ss h.1)

module _ (us : List names.Unit) (orderly : AreOrderly us) where
  -- a token at which a name of the package block is declared
  pub shared_at : (m t : ℕ) (x : Found) → IsIn x (found us) → x.file ≡ m → x.it.name ≡ t → is_package x.it.block ≡ true → DeclaresShared us m t
  shared_at m t x among file name block e h =
      let at = found_at m t (found us) e h in
      let same : is_same x e ≡ true = both_true (nat_eq x.file e.file) (nat_eq x.it.name e.it.name) (same_test x.file e.file (file ∙ sym at.file)) (same_test x.it.name e.it.name (name ∙ sym at.name)) in
      ap (λ (z : Found). is_package z.it.block) (sym (distinct 0 0 (found us) x e (follow_found 0 us orderly) among at.among same)) ∙ block

  one_shared : (d : Declared) → ComesFrom (found us) d → DeclaresShared us d.file d.name
  one_shared d c = shared_at d.file d.name c.it c.among c.file c.name c.block

  all_shared : (ds : List Declared) → AllByRecursion (ComesFrom (found us)) ds → AllByRecursion (λ d. DeclaresShared us d.file d.name) ds
  all_shared [] h = tt
  all_shared (d ∷ ds) h = (one_shared d h.0, all_shared ds h.1)

  pub objects_shared : AllByRecursion (λ d. DeclaresShared us d.file d.name) (uses us).package_level
  objects_shared = all_shared (uses us).package_level (level_comes (found us) (declarations us) (λ d h. new_in (found us) (found us) d h))

pub faultless_shared : FilesAreOrderly → (ss : List Source) → IsFaultless ss → AllByRecursion (λ d. DeclaresShared (map unit_of ss) d.file d.name) (uses (map unit_of ss)).package_level
faultless_shared law ss h = objects_shared (map unit_of ss) (are_orderly law ss h.trees)
