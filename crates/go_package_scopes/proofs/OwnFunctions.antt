-- The tokens of a function that mean locals mean those of one function.
use Rattle.std.proofs.Common.{◌≡◌, ◌∙◌, ℕ, zero, suc, ◌+◌, ◌<◌, ◌≤◌, ◌⊎◌, inl, inr, Bool, true, false, List, [], ◌∷◌, map, length, Option, Some, None, slice_get, refl, sym, ap, subst, arith}
use Rattle.std.specs.Prelude.{if◌then◌else◌, ◌&&◌}
use Rattle.std.proofs.lemmas.Bool.Decides.{nat_tests}
use Rattle.std.proofs.lemmas.Option.{slice_get_within}
use Rattle.go_grammar.specs.declared.kind.Kind.TheVariants as kind
use Rattle.go_grammar.specs.Trees.{Tree, node, Trees, none, more, skip, kind_of, first, last}
use Rattle.go_tree.specs.declared.context.Scope.{Scope as Extent}
use Rattle.go_tree.specs.declared.event.Declaration.{Declaration}
use Rattle.go_tree.specs.declared.event.Event.{Event}
use Rattle.go_tree.specs.declared.event.Event.TheVariants as event
use Rattle.go_tree.specs.declared.object.Declared.{Declared}
use Rattle.go_tree.specs.Contexts.{is_package}
use Rattle.go_tree.specs.Declarations.{Found, found, is_function, declarations}
use Rattle.go_tree.specs.Lists as lists
use Rattle.go_tree.specs.Units.{Unit as File}
use Rattle.go_tree.specs.Uses.{UsesView, IsComplete, uses, local_of, local_in, is_behind, are_behind, are_in_order, functions_among, count_functions, lies_in, declared_by, declared_in_package}
use Rattle.go_tree.specs.Views.{Tiles}
use Rattle.go_scopes_events.specs.Functions.{functions_told, name_of}
use Rattle.go_scopes_events.specs.Scoped.{IsScoped, IsAmong}
use Rattle.go_package_scopes.proofs.Descended.{Firm, AllFirm, scoped_within, among_within, function_within}
use Rattle.go_package_scopes.proofs.Ranges.{Set, AllSet}
use Rattle.go_package_scopes.proofs.ToldNames.{IsTold, IsToldIn, IsIn, in_files, new_in}

-- ---- tests

both : (a b : Bool) → a && b ≡ true → (a ≡ true) × (b ≡ true)
both true b e = (refl, e)
both false b e = absurd (let z : false ≡ true = e in cc)

-- ---- functions of the package, as they are declared

-- a function of the package that is declared so
pub record IsFunctionSo (us : List File) (g : Declared) : Type 0 where
  pub it : Declaration
  pub told : IsToldIn us g.file it
  pub name : it.name ≡ g.name
  pub scope : it.scope ≡ g.scope
  pub block : is_package it.block ≡ true
  pub entity : is_function it.entity ≡ true

some_is : {A : Type 0} (x y : A) → Some x ≡ Some y → x ≡ y
some_is x y e = cc

-- a function among declarations is one of them
among_there : (xs : List Declared) (n : ℕ) (g : Declared) → slice_get (functions_among xs) n ≡ Some g → (m : ℕ) × (slice_get xs m ≡ Some g) × (is_function g.entity ≡ true)
among_there [] n g e = absurd (let z : None ≡ Some g = e in cc)
among_there (x ∷ xs) n g e = by (λ m w. among_there xs m g w) (is_function x.entity) refl n e
  where
    by : ((k : ℕ) → slice_get (functions_among xs) k ≡ Some g → (m : ℕ) × (slice_get xs m ≡ Some g) × (is_function g.entity ≡ true)) → (b : Bool) → is_function x.entity ≡ b → (n : ℕ)
        → slice_get (if b then x ∷ functions_among xs else functions_among xs) n ≡ Some g → (m : ℕ) × (slice_get (x ∷ xs) m ≡ Some g) × (is_function g.entity ≡ true)
    by later false f n e = let w = later n e in (suc w.0, w.1, w.2)
    by later true f zero e = (0, e, subst (λ (z : Declared). is_function z.entity ≡ true) (some_is x g e) f)
    by later true f (suc n) e = let w = later n e in (suc w.0, w.1, w.2)

-- an object of the package is declared
package_there : (ds : List Found) (n : ℕ) (g : Declared) → slice_get (declared_in_package ds) n ≡ Some g → (x : Found) × IsIn x ds × (g ≡ declared_by x) × (is_package x.it.block ≡ true)
package_there [] n g e = absurd (let z : None ≡ Some g = e in cc)
package_there (x ∷ ds) n g e = by (λ m w. package_there ds m g w) (is_package x.it.block) refl n e
  where
    by : ((k : ℕ) → slice_get (declared_in_package ds) k ≡ Some g → (y : Found) × IsIn y ds × (g ≡ declared_by y) × (is_package y.it.block ≡ true)) → (b : Bool) → is_package x.it.block ≡ b → (n : ℕ)
        → slice_get (if b then declared_by x ∷ declared_in_package ds else declared_in_package ds) n ≡ Some g → (y : Found) × IsIn y (x ∷ ds) × (g ≡ declared_by y) × (is_package y.it.block ≡ true)
    by later false p n e = let w = later n e in (w.0, inr w.1, w.2, w.3)
    by later true p zero e = (x, inl refl, sym (some_is (declared_by x) g e), p)
    by later true p (suc n) e = let w = later n e in (w.0, inr w.1, w.2, w.3)

pub function_so : (us : List File) (f : ℕ) (g : Declared) → slice_get (functions_among (uses us).package_level) f ≡ Some g → IsFunctionSo us g
function_so us f g e =
    let a = among_there (declared_in_package (declarations us)) f g e in
    let w = package_there (declarations us) a.0 g a.1 in
    let file : w.0.file ≡ g.file = ap (λ (z : Declared). z.file) (sym w.2) in
    let h = in_files us 0 us (λ k u z. let i : k ≡ 0 + k = omega arith in subst (λ m. slice_get us m ≡ Some u) i z) w.0 (new_in (found us) (found us) w.0 w.1) in
    record {
      it = w.0.it;
      told = subst (λ m. IsToldIn us m w.0.it) file h;
      name = ap (λ (z : Declared). z.name) (sym w.2);
      scope = ap (λ (z : Declared). z.scope) (sym w.2);
      block = w.3;
      entity = ap (λ (z : Declared). is_function z.entity) (sym w.2) ∙ a.2;
    }

abbrev pub Member : ℕ → List ℕ → Type 0
Member n [] = ⊥
Member n (m ∷ ms) = (n ≡ m) ⊎ Member n ms

pub told_member : (x : Declaration) (es : List Event) → is_package x.block ≡ true → is_function x.entity ≡ true → IsTold x es → Member x.name (functions_told es)
told_member x [] p f t = absurd t
told_member x (event.Declaration d ∷ es) p f (inl e) =
    let same : is_package d.block && is_function d.entity ≡ true = subst (λ (z : Declaration). is_package z.block && is_function z.entity ≡ true) e (ap (λ b. b && is_function x.entity) p ∙ f) in
    subst (λ b. Member x.name (if b then d.name ∷ functions_told es else functions_told es)) (sym same) (inl (ap (λ (z : Declaration). z.name) e))
told_member x (event.Declaration d ∷ es) p f (inr t) = by (told_member x es p f t) (is_package d.block && is_function d.entity)
  where
    by : Member x.name (functions_told es) → (b : Bool) → Member x.name (if b then d.name ∷ functions_told es else functions_told es)
    by later true = inr later
    by later false = later
told_member x (e ∷ es) p f t = told_member x es p f t

-- ---- functions of a file

-- functions have their parts behind their names
abbrev pub Named : Tree → Type 0
Named (node kind.FunctionDeclaration i j ps) = Tiles (suc (suc i)) j ps
Named t = Unit {0}

abbrev pub AllNamed : Trees → Type 0
AllNamed none = Unit {0}
AllNamed (more p ps) = Named p × AllNamed ps
AllNamed (skip ps) = AllNamed ps

-- one of the parts has this range
abbrev pub HasRange : Extent → Trees → Type 0
HasRange r none = ⊥
HasRange r (more p ps) = (r ≡ record { from = first p; to = last p }) ⊎ HasRange r ps
HasRange r (skip ps) = HasRange r ps

range_behind : (r : Extent) (a j : ℕ) (ps : Trees) → Tiles a j ps → HasRange r ps → a ≤ r.from
range_behind r a j none t h = absurd h
range_behind r a j (more p ps) t (inl e) = let f : r.from ≡ first p = ap (λ z. z.from) e in omega (arith, f, t.0)
range_behind r a j (more p ps) t (inr h) = let w = range_behind r (last p) j ps t.2 h in omega (arith, w, t.0, t.1)
range_behind r a j (skip ps) t h = range_behind r a j ps t h

-- parts with a token in common are one
pub one_range : (r s : Extent) (a j n : ℕ) (ps : Trees) → Tiles a j ps → HasRange r ps → HasRange s ps → r.from ≤ n → n < r.to → s.from ≤ n → n < s.to → r ≡ s
one_range r s a j n none t h g u v w x = absurd h
one_range r s a j n (skip ps) t h g u v w x = one_range r s a j n ps t h g u v w x
one_range r s a j n (more p ps) t (inl e) (inl f) u v w x = e ∙ sym f
one_range r s a j n (more p ps) t (inl e) (inr g) u v w x = let k = range_behind s (last p) j ps t.2 g in let l : r.to ≡ last p = ap (λ z. z.to) e in absurd (omega (arith, k, l, v, w))
one_range r s a j n (more p ps) t (inr h) (inl f) u v w x = let k = range_behind r (last p) j ps t.2 h in let l : s.to ≡ last p = ap (λ z. z.to) f in absurd (omega (arith, k, l, u, x))
one_range r s a j n (more p ps) t (inr h) (inr g) u v w x = one_range r s (last p) j n ps t.2 h g u v w x

member_behind : (m a j : ℕ) (ps : Trees) → Tiles a j ps → Member m (map name_of (lists.functions ps)) → a < m
member_behind m a j none t h = absurd h
member_behind m a j (skip ps) t h = member_behind m a j ps t h
member_behind m a j (more p ps) t h = by (λ g. let w = member_behind m (last p) j ps t.2 g in omega (arith, w, t.0, t.1)) (lists.is_function (kind_of p)) h
  where
    by : (Member m (map name_of (lists.functions ps)) → a < m) → (b : Bool) → Member m (map name_of (if b then p ∷ lists.functions ps else lists.functions ps)) → a < m
    by rest false g = rest g
    by rest true (inl e) = omega (arith, e, t.0)
    by rest true (inr g) = rest g

-- a declaration under the name of a function is that of the function
function_scope : (e : ℕ) (p : Tree) (x : Declaration) → lists.is_function (kind_of p) ≡ true → Set p → Firm p → Named p → x.name ≡ suc (first p) → IsScoped e p x → x.scope ≡ record { from = first p; to = last p }
function_scope e (node kind.FunctionDeclaration i j ps) x f s m n w (inl h) = h.1
function_scope e (node kind.FunctionDeclaration i j ps) x f s m n w (inr h) = let k = function_within (suc (suc i)) j ps x n s.2 m.1 h in absurd (omega (arith, k.0, w))
function_scope e (node k i j ps) x f s m n w h = absurd (let z : false ≡ true = f in cc)

function_wide : (p : Tree) → lists.is_function (kind_of p) ≡ true → Firm p → suc (first p) < last p
function_wide (node kind.FunctionDeclaration i j ps) f m = m.0
function_wide (node k i j ps) f m = absurd (let z : false ≡ true = f in cc)

pub at_part : (e a j : ℕ) (ps : Trees) (x : Declaration) → Tiles a j ps → AllSet ps → AllFirm ps → AllNamed ps → Member x.name (map name_of (lists.functions ps)) → IsAmong e ps x → HasRange x.scope ps × (x.name ≡ suc x.scope.from)
at_part e a j none x t s f n m h = absurd h
at_part e a j (skip ps) x t s f n m h = at_part e a j ps x t s f n m h
at_part e a j (more p ps) x t s f n m h = by (λ g k. at_part e (last p) j ps x t.2 s.1 f.1 n.1 g k) (lists.is_function (kind_of p)) refl m h
  where
    later : (Member x.name (map name_of (lists.functions ps)) → IsAmong e ps x → HasRange x.scope ps × (x.name ≡ suc x.scope.from)) → Member x.name (map name_of (lists.functions ps)) → IsScoped e p x ⊎ IsAmong e ps x
        → HasRange x.scope (more p ps) × (x.name ≡ suc x.scope.from)
    later v g (inl k) = let w = scoped_within e p x s.0 f.0 k in let y = member_behind x.name (last p) j ps t.2 g in absurd (omega (arith, w.1, y))
    later v g (inr k) = let w = v g k in (inr w.0, w.1)

    by : (Member x.name (map name_of (lists.functions ps)) → IsAmong e ps x → HasRange x.scope ps × (x.name ≡ suc x.scope.from)) → (b : Bool) → lists.is_function (kind_of p) ≡ b
        → Member x.name (map name_of (if b then p ∷ lists.functions ps else lists.functions ps)) → IsScoped e p x ⊎ IsAmong e ps x → HasRange x.scope (more p ps) × (x.name ≡ suc x.scope.from)
    by v false q g k = later v g k
    by v true q (inr g) k = later v g k
    by v true q (inl w) (inl k) = let z = function_scope e p x q s.0 f.0 n.0 w k in (inl z, w ∙ ap (λ (r : Extent). suc r.from) (sym z))
    by v true q (inl w) (inr k) = let y = among_within e (last p) j ps x t.2 s.1 f.1 k in let z = function_wide p q f.0 in absurd (omega (arith, w, y.0, z))

-- ---- numbers of functions

behind_all : (a : Declared) (ds : List Declared) (n : ℕ) (d : Declared) → are_behind a ds ≡ true → slice_get ds n ≡ Some d → is_behind a d ≡ true
behind_all a [] n d h e = absurd (let z : None ≡ Some d = e in cc)
behind_all a (x ∷ ds) zero d h e = subst (λ z. is_behind a z ≡ true) (let z : Some x ≡ Some d = e in let same : x ≡ d = cc in same) (both (is_behind a x) (are_behind a ds) h).0
behind_all a (x ∷ ds) (suc n) d h e = behind_all a ds n d (both (is_behind a x) (are_behind a ds) h).1 e

behind_among : (a : Declared) (ds : List Declared) → are_behind a ds ≡ true → are_behind a (functions_among ds) ≡ true
behind_among a [] h = refl
behind_among a (x ∷ ds) h = let w = both (is_behind a x) (are_behind a ds) h in by w.0 (behind_among a ds w.1) (is_function x.entity)
  where
    by : is_behind a x ≡ true → are_behind a (functions_among ds) ≡ true → (b : Bool) → are_behind a (if b then x ∷ functions_among ds else functions_among ds) ≡ true
    by here later true = ap (λ b. b && are_behind a (functions_among ds)) here ∙ later
    by here later false = later

pub order_among : (ds : List Declared) → are_in_order ds ≡ true → are_in_order (functions_among ds) ≡ true
order_among [] h = refl
order_among (x ∷ ds) h = let w = both (are_behind x ds) (are_in_order ds) h in by (behind_among x ds w.0) (order_among ds w.1) (is_function x.entity)
  where
    by : are_behind x (functions_among ds) ≡ true → are_in_order (functions_among ds) ≡ true → (b : Bool) → are_in_order (if b then x ∷ functions_among ds else functions_among ds) ≡ true
    by here later true = ap (λ b. b && are_in_order (functions_among ds)) here ∙ later
    by here later false = later

not_itself : (c d : Declared) → is_behind c d ≡ true → c.file ≡ d.file → c.name ≡ d.name → ⊥
not_itself c d h e n = grind (arith, nat_tests, h, e, n)

pub one_number : (ds : List Declared) (m n : ℕ) (c d : Declared) → are_in_order ds ≡ true → slice_get ds m ≡ Some c → slice_get ds n ≡ Some d → c.file ≡ d.file → c.name ≡ d.name → m ≡ n
one_number [] m n c d h e g f w = absurd (let z : None ≡ Some c = e in cc)
one_number (x ∷ ds) zero zero c d h e g f w = refl
one_number (x ∷ ds) zero (suc n) c d h e g f w =
    let same : x ≡ c = let z : Some x ≡ Some c = e in cc in
    absurd (not_itself c d (behind_all c ds n d (subst (λ z. are_behind z ds ≡ true) same (both (are_behind x ds) (are_in_order ds) h).0) g) f w)
one_number (x ∷ ds) (suc m) zero c d h e g f w =
    let same : x ≡ d = let z : Some x ≡ Some d = g in cc in
    absurd (not_itself d c (behind_all d ds m c (subst (λ z. are_behind z ds ≡ true) same (both (are_behind x ds) (are_in_order ds) h).0) e) (sym f) (sym w))
one_number (x ∷ ds) (suc m) (suc n) c d h e g f w = ap suc (one_number ds m n c d (both (are_behind x ds) (are_in_order ds) h).1 e g f w)

counted : (d : Declared) (ds : List Declared) (b : Bool) → count_functions ds ≡ length (functions_among ds) → (if b then suc (count_functions ds) else count_functions ds) ≡ length (if b then d ∷ functions_among ds else functions_among ds)
counted d ds true h = let more : length (d ∷ functions_among ds) ≡ suc (length (functions_among ds)) = omega arith in ap suc h ∙ sym more
counted d ds false h = h

count_is : (ds : List Declared) → count_functions ds ≡ length (functions_among ds)
count_is [] = refl
count_is (d ∷ ds) = counted d ds (is_function d.entity) (count_is ds)

there_at : {X : Type 0} (xs : List X) (i : ℕ) → i < length xs → (x : X) × (slice_get xs i ≡ Some x)
there_at [] i h = absurd (omega (arith, h))
there_at (x ∷ xs) zero h = (x, refl)
there_at (x ∷ xs) (suc i) h = let g : i < length xs = omega (arith, h) in there_at xs i g

-- the function that a local belongs to
pub function_there : (u : UsesView) → IsComplete u → (f n : ℕ) (d : Declared) → local_of u f n ≡ Some d → (g : Declared) × (slice_get (functions_among u.package_level) f ≡ Some g) × (lies_in g d ≡ true)
function_there u c f n d e = by (slice_get u.locals f) refl e
  where
    by : (o : Option (List Declared)) → slice_get u.locals f ≡ o → local_in o n ≡ Some d → (g : Declared) × (slice_get (functions_among u.package_level) f ≡ Some g) × (lies_in g d ≡ true)
    by None s w = absurd (let z : None ≡ Some d = w in cc)
    by (Some ds) s w =
        let within : f < length u.locals = slice_get_within u.locals f ds s in
        let counts : length u.locals ≡ length (functions_among u.package_level) = c.functions ∙ count_is u.package_level in
        let below : f < length (functions_among u.package_level) = omega arith in
        let g = there_at (functions_among u.package_level) f below in
        (g.0, g.1, c.inside f n g.0 d g.1 e)
