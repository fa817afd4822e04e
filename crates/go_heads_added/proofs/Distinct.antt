-- Where names stand in order, no token declares two names, so that a name of the package block is none of a local.
use Rattle.std.proofs.Common.{◌≡◌, ◌∙◌, ℕ, suc, ◌<◌, ◌≤◌, inl, inr, ◌⊎◌, Bool, true, false, ◌&&◌, List, [], ◌∷◌, ◌++◌, Some, refl, sym, ap, subst, arith}
use Rattle.std.specs.Prelude.{if◌then◌else◌, nat_eq}
use Rattle.std.specs.List.{AllByRecursion}
use Rattle.go_tokens.specs.Tokens.{TokenList}
use Rattle.go_tree.specs.declared.event.Event.{Event}
use Rattle.go_tree.specs.declared.event.Event.TheVariants as event
use Rattle.go_tree.specs.Contexts.{is_package}
use Rattle.go_tree.specs.Declarations.{Found, declarations, found, found_in, found_from, is_new, new_among}
use Rattle.go_tree.specs.Needs.{is_same}
use Rattle.go_tree.specs.Objects.{is_declared_at}
use Rattle.go_tree.specs.Units.{Unit}
use Rattle.go_scopes_events.specs.Orders.{AreInOrder}
use Rattle.go_scopes_events.specs.Scopes.{AreOrderly}

abbrev pub Among : Found → List Found → Type 0
Among x [] = ⊥
Among x (d ∷ ds) = (x ≡ d) ⊎ Among x ds

same_number : (x y : ℕ) → nat_eq x y ≡ true → x ≡ y
same_number x y e = grind (arith, e)

and_left : (a b : Bool) → (a && b) ≡ true → a ≡ true
and_left true b e = refl
and_left false b e = e

and_right : (a b : Bool) → (a && b) ≡ true → b ≡ true
and_right true b e = e
and_right false b e = cc

same_file : (d e : Found) → is_same d e ≡ true → d.file ≡ e.file
same_file d e h = same_number d.file e.file (and_left (nat_eq d.file e.file) (nat_eq d.it.name e.it.name) h)

same_name : (d e : Found) → is_same d e ≡ true → d.it.name ≡ e.it.name
same_name d e h = same_number d.it.name e.it.name (and_right (nat_eq d.file e.file) (nat_eq d.it.name e.it.name) h)

-- it stands in the file n at the token i or behind that, or in a later file
abbrev IsAfter : ℕ → ℕ → Found → Type 0
IsAfter n i d = (n < d.file) ⊎ ((n ≡ d.file) × (i ≤ d.it.name))

-- each stands behind the one in front of it
abbrev Follow : ℕ → ℕ → List Found → Type 0
Follow n i [] = Prim.Unit {0}
Follow n i (d ∷ ds) = IsAfter n i d × Follow d.file (suc d.it.name) ds

after_less : (n i j : ℕ) (d : Found) → i ≤ j → IsAfter n j d → IsAfter n i d
after_less n i j d l (inl h) = inl h
after_less n i j d l (inr h) = inr (h.0, (let k = h.1 in omega (arith, l, k)))

follow_less : (n i j : ℕ) (ds : List Found) → i ≤ j → Follow n j ds → Follow n i ds
follow_less n i j [] l h = tt
follow_less n i j (d ∷ ds) l h = (after_less n i j d l h.0, h.1)

after_on : (n i : ℕ) (d e : Found) → IsAfter n i d → IsAfter d.file (suc d.it.name) e → IsAfter n i e
after_on n i d e (inl h) (inl k) = inl (omega (arith, h, k))
after_on n i d e (inl h) (inr k) = inl (subst (λ m. n < m) k.0 h)
after_on n i d e (inr h) (inl k) = inl (subst (λ m. m < e.file) (sym h.0) k)
after_on n i d e (inr h) (inr k) = inr (h.0 ∙ k.0, (let a = h.1 in let b = k.1 in omega (arith, a, b)))

-- those of later files
follow_file : (n i : ℕ) (ds : List Found) → Follow (suc n) 0 ds → Follow n i ds
follow_file n i [] h = tt
follow_file n i (d ∷ ds) h = (later d h.0, h.1)
  where
    later : (e : Found) → IsAfter (suc n) 0 e → IsAfter n i e
    later e (inl k) = inl (omega (arith, k))
    later e (inr k) = inl (subst (λ m. n < m) k.0 (omega arith))

follow_in : (n i j : ℕ) (ts : TokenList) (es : List Event) (rest : List Found) → AreInOrder i j es → Follow (suc n) 0 rest → Follow n i (found_in n ts es ++ rest)
follow_in n i j ts [] rest h k = follow_file n i rest k
follow_in n i j ts (event.Declaration d ∷ es) rest h k = (inr (refl, h.0), follow_in n (suc d.name) j ts es rest h.1 k)
follow_in n i j ts (event.Use u ∷ es) rest h k = follow_less n i (suc u.name) (found_in n ts es ++ rest) (let a = h.0 in omega (arith, a)) (follow_in n (suc u.name) j ts es rest h.1 k)
follow_in n i j ts (e ∷ es) rest h k = follow_in n i j ts es rest h k

follow_found : (n : ℕ) (us : List Unit) → AreOrderly us → Follow n 0 (found_from n us)
follow_found n [] h = tt
follow_found n (u ∷ us) h = follow_in n 0 h.0.end u.tokens u.events (found_from (suc n) us) h.0.order (follow_found (suc n) us h.1)

among_after : (n i : ℕ) (ds : List Found) (y : Found) → Follow n i ds → Among y ds → IsAfter n i y
among_after n i [] y h k = absurd k
among_after n i (d ∷ ds) y h (inl e) = subst (IsAfter n i) (sym e) h.0
among_after n i (d ∷ ds) y h (inr k) = after_on n i d y h.0 (among_after d.file (suc d.it.name) ds y h.1 k)

not_behind : (x y : Found) → is_same x y ≡ true → IsAfter x.file (suc x.it.name) y → ⊥
not_behind x y e (inl h) = let f = same_file x y e in omega (arith, h, f)
not_behind x y e (inr h) = let f = same_name x y e in let k = h.1 in omega (arith, k, f)

not_before : (x y : Found) → is_same x y ≡ true → IsAfter y.file (suc y.it.name) x → ⊥
not_before x y e (inl h) = let f = same_file x y e in omega (arith, h, f)
not_before x y e (inr h) = let f = same_name x y e in let k = h.1 in omega (arith, k, f)

distinct : (n i : ℕ) (ds : List Found) (x y : Found) → Follow n i ds → Among x ds → Among y ds → is_same x y ≡ true → x ≡ y
distinct n i [] x y h k l e = absurd k
distinct n i (d ∷ ds) x y h (inl p) (inl q) e = p ∙ sym q
distinct n i (d ∷ ds) x y h (inl p) (inr l) e = absurd (not_behind x y e (subst (λ z. IsAfter z.file (suc z.it.name) y) (sym p) (among_after d.file (suc d.it.name) ds y h.1 l)))
distinct n i (d ∷ ds) x y h (inr k) (inl q) e = absurd (not_before x y e (subst (λ z. IsAfter z.file (suc z.it.name) x) (sym q) (among_after d.file (suc d.it.name) ds x h.1 k)))
distinct n i (d ∷ ds) x y h (inr k) (inr l) e = distinct d.file (suc d.it.name) ds x y h.1 k l e

among_new : (all xs : List Found) (d : Found) → Among d (new_among all xs) → Among d xs
among_new all [] d h = h
among_new all (x ∷ xs) d h = by (is_new all x) h (λ r. among_new all xs d r)
  where
    by : (b : Bool) → Among d (if b then x ∷ new_among all xs else new_among all xs) → (Among d (new_among all xs) → Among d xs) → Among d (x ∷ xs)
    by true (inl e) f = inl e
    by true (inr r) f = inr (f r)
    by false r f = inr (f r)

-- each of a list is among it
pub all_among : (xs ds : List Found) → ((d : Found) → Among d xs → Among d ds) → AllByRecursion (λ d. Among d ds) xs
all_among [] ds f = tt
all_among (x ∷ xs) ds f = (f x (inl refl), all_among xs ds (λ d h. f d (inr h)))

false_true : {A : Type 0} → false ≡ true → A
false_true e = cc

-- A name of the package block stands at no token that declares a local.
pub apart_at : (us : List Unit) → AreOrderly us → (s d : Found) → Among s (declarations us) → Among d (declarations us) → is_package s.it.block ≡ true → is_package d.it.block ≡ false → is_declared_at d.file d.it.name (Some s) ≡ false
apart_at us orderly s d h k p q = by (is_declared_at d.file d.it.name (Some s)) refl
  where
    by : (b : Bool) → is_declared_at d.file d.it.name (Some s) ≡ b → b ≡ false
    by false e = refl
    by true e =
        let one : s ≡ d = distinct 0 0 (found us) s d (follow_found 0 us orderly) (among_new (found us) (found us) s h) (among_new (found us) (found us) d k) e in
        false_true (sym q ∙ ap (λ (z : Found). is_package z.it.block) (sym one) ∙ p)
