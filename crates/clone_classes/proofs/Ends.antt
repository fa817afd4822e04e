-- The place that reaches furthest tells whether another one meets some places.
use Rattle.std.proofs.Common.{◌≡◌, ◌∙◌, ◌<◌, ◌⊎◌, inl, inr, ℕ, Bool, true, false, ◌||◌, ◌&&◌, nat_eq, nat_le, nat_lt, if◌then◌else◌, List, [], ◌∷◌, ◌++◌, Option, Some, None, refl, sym, ap, subst, arith}
use Rattle.std.proofs.lemmas.Bool.{cases_order}
use Rattle.std.specs.List.{list_any}
use Rattle.clone_classes.specs.declared.place.Place.{Place}
use Rattle.clone_classes.specs.Choices.{meets}
use Rattle.clone_classes.specs.Ends.{is_behind, reaches, IsEnd, EndsAt, further}

any-more : (f : Place → Bool) (xs : List Place) (y : Place) → list_any f (xs ++ y ∷ []) ≡ (list_any f xs || f y)
any-more f [] y = grind arith
any-more f (x ∷ xs) y = let i = any-more f xs y in grind (arith, i)

behind-apart : (e p : Place) → is_behind e p ≡ true → meets p e ≡ false
behind-apart e p h = grind (arith, h)

-- where e reaches as far as p, what lies behind e doesn't meet p
further-apart : (e p q : Place) → reaches e p ≡ true → is_behind e q ≡ true → meets q p ≡ false
further-apart e p q r h = grind (arith, r, h)

-- where e reaches less far than p, what lies behind p lies behind e
behind-by : (a b c x y z : ℕ) → (nat_lt a b || (nat_eq a b && nat_le x y)) ≡ false → (nat_lt a c || (nat_eq a c && nat_le x z)) ≡ true → (b ≡ c) ⊎ ((b < c) ⊎ (c < b)) → (nat_lt b c || (nat_eq b c && nat_le y z)) ≡ true
behind-by a b c x y z r h (inl e) = grind (arith, r, h, e)
behind-by a b c x y z r h (inr (inl l)) = grind (arith, l)
behind-by a b c x y z r h (inr (inr l)) = grind (arith, r, h, l)

behind-both : (e p q : Place) → reaches e p ≡ false → is_behind p q ≡ true → is_behind e q ≡ true
behind-both e p q r h = behind-by p.func e.func q.func p.to e.to q.from r h (cases_order e.func q.func)

one-end : (p : Place) → IsEnd p (p ∷ [])
one-end p = record {
  one = λ q m. grind (arith, m);
  furthest = λ q h. let n = behind-apart p q h in grind (arith, n);
}

kept-end : (e p : Place) (ps : List Place) → IsEnd e ps → reaches e p ≡ true → IsEnd e (ps ++ p ∷ [])
kept-end e p ps i r = record {
  one = λ q m. let n = i.one q m in any-more (meets q) ps p ∙ ap (λ b. b || meets q p) n;
  furthest = λ q h. let n = i.furthest q h in let o = further-apart e p q r h in any-more (meets q) ps p ∙ ap (λ b. b || meets q p) n ∙ o;
}

or-true : (b : Bool) → (b || true) ≡ true
or-true true = refl
or-true false = refl

new-end : (e p : Place) (ps : List Place) → IsEnd e ps → reaches e p ≡ false → IsEnd p (ps ++ p ∷ [])
new-end e p ps i r = record {
  one = λ q m. any-more (meets q) ps p ∙ ap (λ b. list_any (meets q) ps || b) m ∙ or-true (list_any (meets q) ps);
  furthest = λ q h. let n = i.furthest q (behind-both e p q r h) in let o = behind-apart p q h in any-more (meets q) ps p ∙ ap (λ b. b || meets q p) n ∙ o;
}

by-reach : (e p : Place) (ps : List Place) → IsEnd e ps → (b : Bool) → reaches e p ≡ b → IsEnd (if b then e else p) (ps ++ p ∷ [])
by-reach e p ps i true r = kept-end e p ps i r
by-reach e p ps i false r = new-end e p ps i r

pub one_more : (e : Option Place) (p : Place) (ps : List Place) → EndsAt e ps → EndsAt (Some (further e p)) (ps ++ p ∷ [])
one_more None p ps i = subst (λ xs. IsEnd p (xs ++ p ∷ [])) (sym i) (one-end p)
one_more (Some e) p ps i = by-reach e p ps i (reaches e p) refl
