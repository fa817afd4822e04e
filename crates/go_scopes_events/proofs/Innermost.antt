-- Where scopes nest, the innermost meaning is found one by one.
use Rattle.std.proofs.Common.{◌≡◌, ℕ, ◌<◌, ◌≤◌, ◌⊎◌, inl, inr, Bool, true, false, ◌&&◌, if◌then◌else◌, nat_eq, List, [], ◌∷◌, ◌++◌, Option, Some, None, refl, sym, ap, ◌∙◌, subst, arith, append_assoc}
use Rattle.std.proofs.lemmas.Bool.Decides.{nat_tests}
use Rattle.go_tokens.specs.Spellings.{same_text}
use Rattle.go_tree.specs.declared.context.Scope.{Scope}
use Rattle.go_tree.specs.declared.object.Extent.{Extent}
use Rattle.go_tree.specs.declared.object.Extent.TheVariants as extent
use Rattle.go_tree.specs.Extents.{covers, lies_inside}
use Rattle.go_tree.specs.Meanings.{Meaning, covering, is_innermost, innermost_of, innermost, meaning_at}
use Rattle.go_scopes_events.specs.Orders.{Nests}
use Rattle.go_scopes_events.specs.Scopes.{is_local, is_import, is_package, locals_of, first_by, inner, over, inmost, otherwise, reached, scope_of, Each, AreNested}

pub inside_self : (e : Extent) → lies_inside e e ≡ true
inside_self extent.Everywhere = refl
inside_self (extent.Throughout n) = grind (arith, nat_tests)
inside_self (extent.Between n s) = grind (arith, nat_tests)

inside_trans : (d e f : Extent) → lies_inside d e ≡ true → lies_inside e f ≡ true → lies_inside d f ≡ true
inside_trans d e extent.Everywhere a b = refl
inside_trans d extent.Everywhere (extent.Throughout n) a b = cc
inside_trans d extent.Everywhere (extent.Between n s) a b = cc
inside_trans extent.Everywhere (extent.Throughout m) f a b = cc
inside_trans extent.Everywhere (extent.Between m s) f a b = cc
inside_trans (extent.Throughout l) (extent.Throughout m) (extent.Throughout n) a b = grind (arith, nat_tests)
inside_trans (extent.Throughout l) (extent.Throughout m) (extent.Between n s) a b = cc
inside_trans (extent.Throughout l) (extent.Between m r) f a b = cc
inside_trans (extent.Between l q) (extent.Throughout m) (extent.Throughout n) a b = grind (arith, nat_tests)
inside_trans (extent.Between l q) (extent.Throughout m) (extent.Between n s) a b = cc
inside_trans (extent.Between l q) (extent.Between m r) (extent.Throughout n) a b = grind (arith, nat_tests)
inside_trans (extent.Between l q) (extent.Between m r) (extent.Between n s) a b = grind (arith, nat_tests)

abbrev Comparable : Extent → Extent → Type 0
Comparable d e = (lies_inside d e ≡ true) ⊎ (lies_inside e d ≡ true)

-- each two of the meanings are comparable
abbrev Chain : List Meaning → Type 0
Chain [] = Unit
Chain (m ∷ ms) = Each (λ x. Comparable m.extent x.extent) ms × Chain ms

abbrev best : Option Meaning → List Meaning → Option Meaning
best a [] = a
best a (m ∷ ms) = best (inner a m) ms

both_true : (a b : Bool) → a ≡ true → b ≡ true → (a && b) ≡ true
both_true true b e f = f
both_true false b e f = cc

and_parts : (a b : Bool) → (a && b) ≡ true → (a ≡ true) × (b ≡ true)
and_parts true b h = (refl, h)
and_parts false b h = cc

innermost_more : (e : Extent) (ms : List Meaning) (m : Meaning) → is_innermost e ms ≡ true → lies_inside e m.extent ≡ true → is_innermost e (ms ++ m ∷ []) ≡ true
innermost_more e [] m h i = both_true _ _ i refl
innermost_more e (x ∷ ms) m h i = let b = and_parts (lies_inside e x.extent) (is_innermost e ms) h in both_true _ _ b.0 (innermost_more e ms m b.1 i)

and_false : (a b : Bool) → b ≡ false → (a && b) ≡ false
and_false true b h = h
and_false false b h = refl

innermost_less : (e : Extent) (ms : List Meaning) (m : Meaning) → lies_inside e m.extent ≡ false → is_innermost e (ms ++ m ∷ []) ≡ false
innermost_less e [] m h = ap (λ b. b && true) h
innermost_less e (x ∷ ms) m h = and_false (lies_inside e x.extent) (is_innermost e (ms ++ m ∷ [])) (innermost_less e ms m h)

innermost_not : (e : Extent) (ms : List Meaning) (m : Meaning) → is_innermost e ms ≡ false → is_innermost e (ms ++ m ∷ []) ≡ false
innermost_not e [] m h = cc
innermost_not e (x ∷ ms) m h = by (lies_inside e x.extent) (innermost_not e ms m) h
  where
    by : (b : Bool) → (is_innermost e ms ≡ false → is_innermost e (ms ++ m ∷ []) ≡ false) → (b && is_innermost e ms) ≡ false → (b && is_innermost e (ms ++ m ∷ [])) ≡ false
    by true f k = f k
    by false f k = refl

innermost_inside : (d e : Extent) (ms : List Meaning) → lies_inside d e ≡ true → is_innermost e ms ≡ true → is_innermost d ms ≡ true
innermost_inside d e [] i h = refl
innermost_inside d e (x ∷ ms) i h = let b = and_parts (lies_inside e x.extent) (is_innermost e ms) h in both_true _ _ (inside_trans d e x.extent i b.0) (innermost_inside d e ms i b.1)

some_same : (x y : Meaning) → Some x ≡ Some y → x ≡ y
some_same x y e = cc

-- one that lies inside the new meaning stays the innermost
stays : (all ys zs : List Meaning) (m x : Meaning) → lies_inside x.extent m.extent ≡ true → innermost_of all ys ≡ Some x → innermost_of (all ++ m ∷ []) (ys ++ zs) ≡ Some x
stays all [] zs m x i h = cc
stays all (y ∷ ys) zs m x i h = by (is_innermost y.extent all) (stays all ys zs m x i) refl h
  where
    by : (b : Bool) → (innermost_of all ys ≡ Some x → innermost_of (all ++ m ∷ []) (ys ++ zs) ≡ Some x) → is_innermost y.extent all ≡ b → (if b then Some y else innermost_of all ys) ≡ Some x → (if is_innermost y.extent (all ++ m ∷ []) then Some y else innermost_of (all ++ m ∷ []) (ys ++ zs)) ≡ Some x
    by true f e k =
        let same : y ≡ x = some_same y x k in
        let inside : lies_inside y.extent m.extent ≡ true = subst (λ z. lies_inside z.extent m.extent ≡ true) (sym same) i in
        ap (λ b. if b then Some y else innermost_of (all ++ m ∷ []) (ys ++ zs)) (innermost_more y.extent all m e inside) ∙ k
    by false f e k = ap (λ b. if b then Some y else innermost_of (all ++ m ∷ []) (ys ++ zs)) (innermost_not y.extent all m e) ∙ f k

not_true : (b : Bool) → (b ≡ true → ⊥) → b ≡ false
not_true true f = absurd (f refl)
not_true false f = refl

true_false : (b : Bool) → b ≡ true → b ≡ false → ⊥
true_false true e f = cc
true_false false e f = cc

-- where it does not, none of the earlier ones is
passes : (all ys zs : List Meaning) (m x : Meaning) → lies_inside x.extent m.extent ≡ false → is_innermost x.extent ys ≡ true → innermost_of (all ++ m ∷ []) (ys ++ zs) ≡ innermost_of (all ++ m ∷ []) zs
passes all [] zs m x i h = refl
passes all (y ∷ ys) zs m x i h =
    let b = and_parts (lies_inside x.extent y.extent) (is_innermost x.extent ys) h in
    let out : lies_inside y.extent m.extent ≡ false = not_true (lies_inside y.extent m.extent) (λ k. true_false (lies_inside x.extent m.extent) (inside_trans x.extent y.extent m.extent b.0 k) i) in
    ap (λ b. if b then Some y else innermost_of (all ++ m ∷ []) (ys ++ zs)) (innermost_less y.extent all m out) ∙ passes all ys zs m x i b.1

comparable_other : (d e : Extent) → Comparable d e → lies_inside d e ≡ false → lies_inside e d ≡ true
comparable_other d e (inl a) h = absurd (true_false (lies_inside d e) a h)
comparable_other d e (inr a) h = a

-- x is the innermost of the meanings before these
from_best : (before ms : List Meaning) (x : Meaning) → is_innermost x.extent before ≡ true → innermost before ≡ Some x → Each (λ y. Comparable x.extent y.extent) ms → Chain ms → innermost (before ++ ms) ≡ best (Some x) ms
from_best before [] x i h c d = ap innermost (append_nil before) ∙ h
  where
    append_nil : (xs : List Meaning) → xs ++ [] ≡ xs
    append_nil [] = refl
    append_nil (y ∷ xs) = ap (λ l. y ∷ l) (append_nil xs)
from_best before (m ∷ ms) x i h c d = ap innermost (sym (append_assoc before (m ∷ []) ms)) ∙ by (lies_inside x.extent m.extent) refl (λ y. from_best (before ++ m ∷ []) ms y)
  where
    by : (b : Bool) → lies_inside x.extent m.extent ≡ b → ((y : Meaning) → is_innermost y.extent (before ++ m ∷ []) ≡ true → innermost (before ++ m ∷ []) ≡ Some y → Each (λ z. Comparable y.extent z.extent) ms → Chain ms → innermost ((before ++ m ∷ []) ++ ms) ≡ best (Some y) ms) → innermost ((before ++ m ∷ []) ++ ms) ≡ best (if lies_inside x.extent m.extent then Some x else Some m) ms
    by true e f =
        f x (innermost_more x.extent before m i e) (stays before before (m ∷ []) m x e h) c.1 d.1
        ∙ ap (λ b. best (if b then Some x else Some m) ms) (sym e)
    by false e f =
        let in_x : lies_inside m.extent x.extent ≡ true = comparable_other x.extent m.extent c.0 e in
        let all : is_innermost m.extent (before ++ m ∷ []) ≡ true = innermost_more m.extent before m (innermost_inside m.extent x.extent before in_x i) (inside_self m.extent) in
        let now : innermost (before ++ m ∷ []) ≡ Some m = passes before before (m ∷ []) m x e i ∙ ap (λ b. if b then Some m else None) all in
        f m all now d.0 d.1
        ∙ ap (λ b. best (if b then Some x else Some m) ms) (sym e)

chain_best : (ms : List Meaning) → Chain ms → innermost ms ≡ best None ms
chain_best [] c = refl
chain_best (m ∷ ms) c =
    let i : is_innermost m.extent (m ∷ []) ≡ true = both_true _ _ (inside_self m.extent) refl in
    from_best (m ∷ []) ms m i (ap (λ b. if b then Some m else None) i) c.0 c.1

best_covering : (n t : ℕ) (w : List ℕ) (a : Option Meaning) (ms : List Meaning) → inmost n t w a ms ≡ best a (covering n t w ms)
best_covering n t w a [] = refl
best_covering n t w a (m ∷ ms) = by (same_text m.name w && covers m.extent n t) (λ o. best_covering n t w o ms)
  where
    by : (b : Bool) → ((o : Option Meaning) → inmost n t w o ms ≡ best o (covering n t w ms)) → inmost n t w (if b then inner a m else a) ms ≡ best a (if b then m ∷ covering n t w ms else covering n t w ms)
    by true f = f (inner a m)
    by false f = f a

-- meanings at one place are comparable where local ones of the file nest
covers_at : (n t m : ℕ) (s : Scope) → covers (extent.Between m s) n t ≡ true → (nat_eq m n ≡ true) × (s.from ≤ t) × (t < s.to)
covers_at n t m s h = (grind (arith, nat_tests), grind (arith, nat_tests), grind (arith, nat_tests))

nest_comparable : (n t l m : ℕ) (r s : Scope) → covers (extent.Between l r) n t ≡ true → covers (extent.Between m s) n t ≡ true → Nests r s → Comparable (extent.Between l r) (extent.Between m s)
nest_comparable n t l m r s h g (inl a) = let p = covers_at n t l r h in let q = covers_at n t m s g in absurd (omega (arith, a, p.2, q.1))
nest_comparable n t l m r s h g (inr a) = let p = covers_at n t l r h in let q = covers_at n t m s g in inr (grind (arith, nat_tests, p.0, q.0, a.0, a.1))

comparable : (n t : ℕ) (d e : Extent) → covers d n t ≡ true → covers e n t ≡ true → (is_local n d ≡ true → is_local n e ≡ true → Nests (scope_of d) (scope_of e)) → Comparable d e
comparable n t d extent.Everywhere h g f = inl refl
comparable n t extent.Everywhere (extent.Throughout m) h g f = inr refl
comparable n t extent.Everywhere (extent.Between m s) h g f = inr refl
comparable n t (extent.Throughout l) (extent.Throughout m) h g f = inl (grind (arith, nat_tests))
comparable n t (extent.Throughout l) (extent.Between m s) h g f = let q = covers_at n t m s g in inr (grind (arith, nat_tests, q.0))
comparable n t (extent.Between l r) (extent.Throughout m) h g f = let p = covers_at n t l r h in inl (grind (arith, nat_tests, p.0))
comparable n t (extent.Between l r) (extent.Between m s) h g f = nest_comparable n t l m r s h g (f (covers_at n t l r h).0 (covers_at n t m s g).0)

each_covering : (n t : ℕ) (w : List ℕ) (m : Meaning) (ms : List Meaning) → covers m.extent n t ≡ true → (is_local n m.extent ≡ true → Each (λ x. Nests (scope_of m.extent) (scope_of x.extent)) (locals_of n ms)) → Each (λ x. Comparable m.extent x.extent) (covering n t w ms)
each_covering n t w m [] h f = tt
each_covering n t w m (x ∷ ms) h f =
    by (same_text x.name w && covers x.extent n t) refl (each_covering n t w m ms h (λ e. rest (is_local n x.extent) (f e)))
  where
    rest : (b : Bool) → Each (λ x. Nests (scope_of m.extent) (scope_of x.extent)) (if b then x ∷ locals_of n ms else locals_of n ms) → Each (λ x. Nests (scope_of m.extent) (scope_of x.extent)) (locals_of n ms)
    rest true a = a.1
    rest false a = a

    head : (b : Bool) → b ≡ true → Each (λ x. Nests (scope_of m.extent) (scope_of x.extent)) (if b then x ∷ locals_of n ms else locals_of n ms) → Nests (scope_of m.extent) (scope_of x.extent)
    head true e a = a.0
    head false e a = absurd cc

    by : (b : Bool) → (same_text x.name w && covers x.extent n t) ≡ b → Each (λ x. Comparable m.extent x.extent) (covering n t w ms) → Each (λ x. Comparable m.extent x.extent) (if b then x ∷ covering n t w ms else covering n t w ms)
    by true e k = (comparable n t m.extent x.extent h (and_parts (same_text x.name w) (covers x.extent n t) e).1 (λ p q. head (is_local n x.extent) q (f p)), k)
    by false e k = k

chain_covering : (n t : ℕ) (w : List ℕ) (ms : List Meaning) → AreNested (locals_of n ms) → Chain (covering n t w ms)
chain_covering n t w [] h = tt
chain_covering n t w (m ∷ ms) h = by (same_text m.name w && covers m.extent n t) refl (chain_covering n t w ms (rest (is_local n m.extent) h))
  where
    rest : (b : Bool) → AreNested (if b then m ∷ locals_of n ms else locals_of n ms) → AreNested (locals_of n ms)
    rest true a = a.1
    rest false a = a

    head : (b : Bool) → b ≡ true → AreNested (if b then m ∷ locals_of n ms else locals_of n ms) → Each (λ x. Nests (scope_of m.extent) (scope_of x.extent)) (locals_of n ms)
    head true e a = a.0
    head false e a = absurd cc

    by : (b : Bool) → (same_text m.name w && covers m.extent n t) ≡ b → Chain (covering n t w ms) → Chain (if b then m ∷ covering n t w ms else covering n t w ms)
    by true e k = (each_covering n t w m ms (and_parts (same_text m.name w) (covers m.extent n t) e).1 (λ p. head (is_local n m.extent) p h), k)
    by false e k = k

-- the local meaning, the import's and the package's, each kept apart
abbrev IsLocal : ℕ → Option Meaning → Type 0
IsLocal n None = Unit
IsLocal n (Some m) = is_local n m.extent ≡ true

abbrev IsImport : ℕ → Option Meaning → Type 0
IsImport n None = Unit
IsImport n (Some m) = is_import n m.extent ≡ true

abbrev IsPackage : Option Meaning → Type 0
IsPackage None = Unit
IsPackage (Some m) = is_package m.extent ≡ true

-- an extent with its meaning, by what it is
under_local : (n m : ℕ) (s : Scope) (e : Extent) (a : Meaning) → is_import n e ≡ true → lies_inside e (extent.Between m s) ≡ false
under_local n m s (extent.Throughout l) a h = refl
under_local n m s extent.Everywhere a h = cc
under_local n m s (extent.Between l r) a h = cc

package_outside_local : (m : ℕ) (s : Scope) (e : Extent) → is_package e ≡ true → lies_inside e (extent.Between m s) ≡ false
package_outside_local m s extent.Everywhere h = refl
package_outside_local m s (extent.Throughout l) h = cc
package_outside_local m s (extent.Between l r) h = cc

package_outside_file : (m : ℕ) (e : Extent) → is_package e ≡ true → lies_inside e (extent.Throughout m) ≡ false
package_outside_file m extent.Everywhere h = refl
package_outside_file m (extent.Throughout l) h = cc
package_outside_file m (extent.Between l r) h = cc

local_in_file : (n m : ℕ) (e : Extent) → is_local n e ≡ true → nat_eq m n ≡ true → lies_inside e (extent.Throughout m) ≡ true
local_in_file n m (extent.Between l r) h g = grind (arith, nat_tests)
local_in_file n m extent.Everywhere h g = cc
local_in_file n m (extent.Throughout l) h g = cc

import_in_file : (n m : ℕ) (e : Extent) → is_import n e ≡ true → nat_eq m n ≡ true → lies_inside e (extent.Throughout m) ≡ true
import_in_file n m (extent.Throughout l) h g = grind (arith, nat_tests)
import_in_file n m extent.Everywhere h g = cc
import_in_file n m (extent.Between l r) h g = cc

choose_if : (b : Bool) (x y : Meaning) (o : Option Meaning) → (if b then Some x else Some y) ≡ otherwise (if b then Some x else Some y) o
choose_if true x y o = refl
choose_if false x y o = refl

-- a local meaning on top of the others
inner_local : (n : ℕ) (l i p : Option Meaning) (m : Meaning) (k : ℕ) (s : Scope) → m.extent ≡ extent.Between k s → IsImport n i → IsPackage p → inner (reached l i p) m ≡ reached (inner l m) i p
inner_local n (Some a) i p m k s e hi hp = choose_if (lies_inside a.extent m.extent) a m (otherwise i p)
inner_local n None (Some b) p m k s e hi hp = ap (λ c. if c then Some b else Some m) (ap (λ x. lies_inside b.extent x) e ∙ under_local n k s b.extent b hi)
inner_local n None None (Some c) m k s e hi hp = ap (λ b. if b then Some c else Some m) (ap (λ x. lies_inside c.extent x) e ∙ package_outside_local k s c.extent hp)
inner_local n None None None m k s e hi hp = refl

inner_import : (n : ℕ) (l i p : Option Meaning) (m : Meaning) (k : ℕ) → m.extent ≡ extent.Throughout k → nat_eq k n ≡ true → IsLocal n l → IsImport n i → IsPackage p → inner (reached l i p) m ≡ reached l (otherwise i (Some m)) p
inner_import n (Some a) i p m k e g hl hi hp = ap (λ c. if c then Some a else Some m) (ap (λ x. lies_inside a.extent x) e ∙ local_in_file n k a.extent hl g)
inner_import n None (Some b) p m k e g hl hi hp = ap (λ c. if c then Some b else Some m) (ap (λ x. lies_inside b.extent x) e ∙ import_in_file n k b.extent hi g)
inner_import n None None (Some c) m k e g hl hi hp = ap (λ b. if b then Some c else Some m) (ap (λ x. lies_inside c.extent x) e ∙ package_outside_file k c.extent hp)
inner_import n None None None m k e g hl hi hp = refl

inner_package : (l i p : Option Meaning) (m : Meaning) → m.extent ≡ extent.Everywhere → inner (reached l i p) m ≡ reached l i (otherwise p (Some m))
inner_package (Some a) i p m e = ap (λ x. if lies_inside a.extent x then Some a else Some m) e
inner_package None (Some b) p m e = ap (λ x. if lies_inside b.extent x then Some b else Some m) e
inner_package None None (Some c) m e = ap (λ x. if lies_inside c.extent x then Some c else Some m) e
inner_package None None None m e = refl

otherwise_assoc : (a b c : Option Meaning) → otherwise (otherwise a b) c ≡ otherwise a (otherwise b c)
otherwise_assoc None b c = refl
otherwise_assoc (Some a) b c = refl

module _ (n t : ℕ) (w : List ℕ) where
  -- what is found on from meanings that are kept apart
  abbrev Parted : List Meaning → Option Meaning → Option Meaning → Option Meaning → Type 0
  Parted ms l i p = inmost n t w (reached l i p) ms ≡ reached (inmost n t w l (locals_of n ms)) (otherwise i (first_by (is_import n) w ms)) (otherwise p (first_by is_package w ms))

  -- the same with one more in front, of the extent e; b says whether it has the name
  abbrev PartedBy : List Meaning → Option Meaning → Option Meaning → Option Meaning → Meaning → Extent → Bool → Type 0
  PartedBy ms l i p m e b = inmost n t w (if b && covers e n t then inner (reached l i p) m else reached l i p) ms ≡ reached (if is_local n e then inmost n t w (if b && covers e n t then inner l m else l) (locals_of n ms) else inmost n t w l (locals_of n ms)) (otherwise i (if b && is_import n e then Some m else first_by (is_import n) w ms)) (otherwise p (if b && is_package e then Some m else first_by is_package w ms))

  import_parted : (ms : List Meaning) (l i p : Option Meaning) (m : Meaning) (k : ℕ) (c : Bool) → nat_eq k n ≡ c → m.extent ≡ extent.Throughout k → IsLocal n l → IsImport n i → IsPackage p → ((x y z : Option Meaning) → IsLocal n x → IsImport n y → IsPackage z → Parted ms x y z) → inmost n t w (if c then inner (reached l i p) m else reached l i p) ms ≡ reached (inmost n t w l (locals_of n ms)) (otherwise i (if c then Some m else first_by (is_import n) w ms)) (otherwise p (first_by is_package w ms))
  import_parted ms l i p m k true g e hl hi hp f =
      ap (λ o. inmost n t w o ms) (inner_import n l i p m k e g hl hi hp)
      ∙ f l (otherwise i (Some m)) p hl (is_there i hi) hp
      ∙ ap (λ o. reached (inmost n t w l (locals_of n ms)) o (otherwise p (first_by is_package w ms))) (otherwise_assoc i (Some m) (first_by (is_import n) w ms))
    where
      is_there : (i : Option Meaning) → IsImport n i → IsImport n (otherwise i (Some m))
      is_there None h = ap (is_import n) e ∙ g
      is_there (Some b) h = h
  import_parted ms l i p m k false g e hl hi hp f = f l i p hl hi hp

  local_parted : (ms : List Meaning) (l i p : Option Meaning) (m : Meaning) (k : ℕ) (s : Scope) (c d : Bool) → nat_eq k n ≡ c → (c ≡ false → d ≡ false) → m.extent ≡ extent.Between k s → IsLocal n l → IsImport n i → IsPackage p → ((x y z : Option Meaning) → IsLocal n x → IsImport n y → IsPackage z → Parted ms x y z) → inmost n t w (if d then inner (reached l i p) m else reached l i p) ms ≡ reached (if c then inmost n t w (if d then inner l m else l) (locals_of n ms) else inmost n t w l (locals_of n ms)) (otherwise i (first_by (is_import n) w ms)) (otherwise p (first_by is_package w ms))
  local_parted ms l i p m k s true true g keep e hl hi hp f =
      ap (λ o. inmost n t w o ms) (inner_local n l i p m k s e hi hp) ∙ f (inner l m) i p (is_there l hl) hi hp
    where
      here : is_local n m.extent ≡ true
      here = ap (is_local n) e ∙ g

      either : (b : Bool) (x : Meaning) → is_local n x.extent ≡ true → IsLocal n (if b then Some x else Some m)
      either true x h = h
      either false x h = here

      is_there : (l : Option Meaning) → IsLocal n l → IsLocal n (inner l m)
      is_there None h = here
      is_there (Some a) h = either (lies_inside a.extent m.extent) a h
  local_parted ms l i p m k s true false g keep e hl hi hp f = f l i p hl hi hp
  local_parted ms l i p m k s false true g keep e hl hi hp f = absurd (true_false true refl (keep refl))
  local_parted ms l i p m k s false false g keep e hl hi hp f = f l i p hl hi hp

  one_parted : (ms : List Meaning) (l i p : Option Meaning) (m : Meaning) (e : Extent) (b : Bool) → m.extent ≡ e → IsLocal n l → IsImport n i → IsPackage p → ((x y z : Option Meaning) → IsLocal n x → IsImport n y → IsPackage z → Parted ms x y z) → PartedBy ms l i p m e b
  one_parted ms l i p m extent.Everywhere true e hl hi hp f =
      ap (λ o. inmost n t w o ms) (inner_package l i p m e)
      ∙ f l i (otherwise p (Some m)) hl hi (is_there p hp)
      ∙ ap (λ o. reached (inmost n t w l (locals_of n ms)) (otherwise i (first_by (is_import n) w ms)) o) (otherwise_assoc p (Some m) (first_by is_package w ms))
    where
      is_there : (p : Option Meaning) → IsPackage p → IsPackage (otherwise p (Some m))
      is_there None h = ap is_package e
      is_there (Some b) h = h
  one_parted ms l i p m extent.Everywhere false e hl hi hp f = f l i p hl hi hp
  one_parted ms l i p m (extent.Throughout k) true e hl hi hp f = import_parted ms l i p m k (nat_eq k n) refl e hl hi hp f
  one_parted ms l i p m (extent.Throughout k) false e hl hi hp f = f l i p hl hi hp
  one_parted ms l i p m (extent.Between k s) true e hl hi hp f =
      local_parted ms l i p m k s (nat_eq k n) (covers (extent.Between k s) n t) refl (λ no. not_true (covers (extent.Between k s) n t) (λ yes. true_false (nat_eq k n) (covers_at n t k s yes).0 no)) e hl hi hp f
  one_parted ms l i p m (extent.Between k s) false e hl hi hp f = local_parted ms l i p m k s (nat_eq k n) false refl (λ no. refl) e hl hi hp f

  over_if : (c : Bool) (l : Option Meaning) (m : Meaning) (ms : List Meaning) → (if c then inmost n t w (over n t w l m) ms else inmost n t w l ms) ≡ inmost n t w l (if c then m ∷ ms else ms)
  over_if true l m ms = refl
  over_if false l m ms = refl

  parted : (ms : List Meaning) (l i p : Option Meaning) → IsLocal n l → IsImport n i → IsPackage p → Parted ms l i p
  parted [] l i p hl hi hp = ap (λ o. reached l o p) (no_more_last i) ∙ ap (λ o. reached l (otherwise i None) o) (no_more_last p)
    where
      no_more : (o : Option Meaning) → otherwise o None ≡ o
      no_more None = refl
      no_more (Some x) = refl

      no_more_last : (o : Option Meaning) → o ≡ otherwise o None
      no_more_last o = sym (no_more o)
  parted (m ∷ ms) l i p hl hi hp =
      one_parted ms l i p m m.extent (same_text m.name w) refl hl hi hp (parted ms)
      ∙ ap (λ o. reached o (otherwise i (first_by (is_import n) w (m ∷ ms))) (otherwise p (first_by is_package w (m ∷ ms)))) (over_if (is_local n m.extent) l m (locals_of n ms))

-- What a name means: a local meaning, else that of the import, else that of the package.
pub meaning_reached : (n t : ℕ) (w : List ℕ) (ms : List Meaning) → AreNested (locals_of n ms) → meaning_at ms n t w ≡ reached (inmost n t w None (locals_of n ms)) (first_by (is_import n) w ms) (first_by is_package w ms)
meaning_reached n t w ms h = chain_best (covering n t w ms) (chain_covering n t w ms h) ∙ sym (best_covering n t w None ms) ∙ parted n t w ms None None None tt tt tt
