-- Locals stand inside the functions that they are numbered with.
use Rattle.std.proofs.Common.{◌≡◌, ℕ, zero, suc, ◌<◌, ◌≤◌, Bool, true, false, ◌&&◌, if◌then◌else◌, List, [], ◌∷◌, ◌++◌, Some, None, refl, sym, ap, ◌∙◌, subst, arith}
use Rattle.std.specs.Prelude.{slice_get, nat_eq, nat_le, nat_lt}
use Rattle.std.proofs.lemmas.Bool.Decides.{nat_tests}
use Rattle.go_tokens.specs.Tokens.{TokenList}
use Rattle.go_tree.specs.declared.context.Block.{Block}
use Rattle.go_tree.specs.declared.context.Block.TheVariants as block
use Rattle.go_tree.specs.declared.context.Entity.{Entity}
use Rattle.go_tree.specs.declared.context.Entity.TheVariants as entity
use Rattle.go_tree.specs.declared.context.Manner.{Manner}
use Rattle.go_tree.specs.declared.context.Scope.{Scope}
use Rattle.go_tree.specs.declared.event.Declaration.{Declaration}
use Rattle.go_tree.specs.declared.event.Event.{Event}
use Rattle.go_tree.specs.declared.event.Event.TheVariants as event
use Rattle.go_tree.specs.declared.object.Declared.{Declared}
use Rattle.go_tree.specs.Contexts.{is_package}
use Rattle.go_tree.specs.Units.{word, bytes_at}
use Rattle.go_tree.specs.Declarations.{Found, is_function, found_in, found_from, found, is_reused, is_new, new_among, declarations}
use Rattle.go_tree.specs.Units as names
use Rattle.go_tree.specs.Failures.{least}
use Rattle.go_tree.specs.Clauses.{is_outside, outside_declarations}
use Rattle.go_tree.specs.Faults.{clause_faults}
use Rattle.go_tree.specs.Uses.{declared_by, declared_in_package, begins_function, own_locals, function_locals, local_in, functions_among, lies_in}
use Rattle.go_scopes_events.specs.Inside.{function_scope, IsDeclared, IsInside, LocalsInside, nowhere}
use Rattle.go_scopes_events.specs.Orders as orders
use Rattle.go_scopes_lookup.specs.Tables.{AreInside}
use Rattle.go_scopes_lookup.proofs.Behind.{function_new, no_place, none_outside}

-- where the last function is, behind a declaration
abbrev file_behind : Found → ℕ → ℕ
file_behind d m = if begins_function d then d.file else m

abbrev scope_behind : Found → Scope → Scope
scope_behind d r = if begins_function d then d.it.scope else r

abbrev IsHoused : ℕ → Scope → Block → Found → Type 0
IsHoused m r block.Package d = Unit
IsHoused m r (block.Local i) d = (m ≡ d.file) × (r.from ≤ d.it.name) × (d.it.name < r.to) × (d.it.scope.to ≤ r.to)

-- Each local stands inside the last function in front of it: the first one is in the file m, at the tokens r.
abbrev AreHoused : ℕ → Scope → List Found → Type 0
AreHoused m r [] = Unit
AreHoused m r (d ∷ ds) = IsHoused m r d.it.block d × AreHoused (file_behind d m) (scope_behind d r) ds

-- No function stands before `:=`.
abbrev IsOwn : Block → Entity → Manner → Type 0
IsOwn block.Package e m = IsDeclared e m
IsOwn (block.Local i) e m = Unit

abbrev AreOwn : List Found → Type 0
AreOwn [] = Unit
AreOwn (d ∷ ds) = IsOwn d.it.block d.it.entity d.it.manner × AreOwn ds

own_one : (s : Scope) (b : Block) (d : Declaration) → IsInside s b d → IsOwn b d.entity d.manner
own_one s block.Package d h = h
own_one s (block.Local i) d h = tt

own_in : (n : ℕ) (ts : TokenList) (es : List Event) (rest : List Found) (s : Scope) → LocalsInside s es → AreOwn rest → AreOwn (found_in n ts es ++ rest)
own_in n ts [] rest s h g = g
own_in n ts (event.Declaration d ∷ es) rest s h g = (own_one s d.block d h.0, own_in n ts es rest (function_scope d s) h.1 g)
own_in n ts (e ∷ es) rest s h g = own_in n ts es rest s h g

own_from : (n : ℕ) (us : List names.Unit) → AreInside us → AreOwn (found_from n us)
own_from n [] h = tt
own_from n (u ∷ us) h = own_in n u.tokens u.events (found_from (suc n) us) nowhere h.0 (own_from (suc n) us h.1)

if_same : {X : Type 0} (b : Bool) (x : X) → (if b then x else x) ≡ x
if_same true x = refl
if_same false x = refl

abbrev found_at : ℕ → TokenList → Declaration → Found
found_at n ts d = record { file = n; name = word ts d.name; place = bytes_at n ts d.name; it = d }

housed_one : (n : ℕ) (ts : TokenList) (s : Scope) (b : Block) (d : Declaration) → IsInside s b d → IsHoused n s b (found_at n ts d)
housed_one n ts s block.Package d h = tt
housed_one n ts s (block.Local i) d h = (refl, h.0, h.1, h.2)

-- behind a function of the file
housed_in : (n : ℕ) (ts : TokenList) (es : List Event) (rest : List Found) (s : Scope) → LocalsInside s es → ((m : ℕ) (r : Scope) → AreHoused m r rest) → AreHoused n s (found_in n ts es ++ rest)
housed_in n ts [] rest s h f = f n s
housed_in n ts (event.Declaration d ∷ es) rest s h f =
    (housed_one n ts s d.block d h.0, subst (λ m. AreHoused m (function_scope d s) (found_in n ts es ++ rest)) (sym (if_same (is_package d.block && is_function d.entity) n)) (housed_in n ts es rest (function_scope d s) h.1 f))
housed_in n ts (e ∷ es) rest s h f = housed_in n ts es rest s h f

no_local : (m : ℕ) (r : Scope) (n : ℕ) (ts : TokenList) (b : Block) (d : Declaration) → IsInside nowhere b d → IsHoused m r b (found_at n ts d)
no_local m r n ts block.Package d h = tt
no_local m r n ts (block.Local i) d h = absurd (omega (arith, h.1))

-- in front of the first one
housed_first : (n : ℕ) (ts : TokenList) (es : List Event) (rest : List Found) (m : ℕ) (r : Scope) → LocalsInside nowhere es → ((m : ℕ) (r : Scope) → AreHoused m r rest) → AreHoused m r (found_in n ts es ++ rest)
housed_first n ts [] rest m r h f = f m r
housed_first n ts (event.Declaration d ∷ es) rest m r h f = (no_local m r n ts d.block d h.0, by (is_package d.block && is_function d.entity) h.1 (λ g. housed_first n ts es rest m r g f))
  where
    by : (b : Bool) → LocalsInside (if b then d.scope else nowhere) es → (LocalsInside nowhere es → AreHoused m r (found_in n ts es ++ rest)) → AreHoused (if b then n else m) (if b then d.scope else r) (found_in n ts es ++ rest)
    by true h g = housed_in n ts es rest d.scope h f
    by false h g = g h
housed_first n ts (e ∷ es) rest m r h f = housed_first n ts es rest m r h f

housed_from : (n : ℕ) (us : List names.Unit) → AreInside us → (m : ℕ) (r : Scope) → AreHoused m r (found_from n us)
housed_from n [] h m r = tt
housed_from n (u ∷ us) h m r = housed_first n u.tokens u.events (found_from (suc n) us) m r h.0 (housed_from (suc n) us h.1)

begins_declared : (b : Block) (e : Entity) (m : Manner) → IsOwn b e m → is_package b && is_function e ≡ true → orders.begins_function b e m ≡ true
begins_declared block.Package entity.Function m h e = ap (orders.begins_function block.Package entity.Function) h
begins_declared b d m h e = cc

not_both : (b : Bool) → b ≡ true → b ≡ false → ⊥
not_both true x y = cc
not_both false x y = cc

-- every function is a new declaration
housed_kept : (all ds : List Found) (m : ℕ) (r : Scope) → AreOwn ds → outside_declarations ds ≡ [] → AreHoused m r ds → AreHoused m r (new_among all ds)
housed_kept all [] m r o e h = tt
housed_kept all (d ∷ ds) m r o e h =
    let place = no_place (is_outside d.it.entity d.it.block d.name) d.place (outside_declarations ds) e in
    by (is_new all d) (begins_function d) refl refl place.0 (housed_kept all ds (file_behind d m) (scope_behind d r) o.1 place.1 h.1)
  where
    by : (b f : Bool) → is_new all d ≡ b → begins_function d ≡ f → is_outside d.it.entity d.it.block d.name ≡ false → AreHoused (if f then d.file else m) (if f then d.it.scope else r) (new_among all ds) → AreHoused m r (if b then d ∷ new_among all ds else new_among all ds)
    by true f p q inside rest = (h.0, subst (λ f. AreHoused (if f then d.file else m) (if f then d.it.scope else r) (new_among all ds)) (sym q) rest)
    by false true p q inside rest = absurd (not_both (is_new all d) (function_new d.it.block d.it.entity d.it.manner d.name (is_reused d all) (begins_declared d.it.block d.it.entity d.it.manner o.0 q) inside) p)
    by false false p q inside rest = rest

some_is : {X : Type 0} (x y : X) → Some x ≡ Some y → x ≡ y
some_is x y e = cc

-- the test of the definition
is_housed : (m : ℕ) (r : Scope) (i : ℕ) (d : Found) → IsHoused m r (block.Local i) d → nat_eq m d.file && nat_le r.from d.it.name && nat_lt d.it.name r.to && nat_le d.it.scope.to r.to ≡ true
is_housed m r i d h = grind (arith, nat_tests)

-- the locals in front of the next function
locals_housed : (ds : List Found) (m : ℕ) (r : Scope) → AreHoused m r ds → (n : ℕ) (d : Declared) → slice_get (own_locals ds) n ≡ Some d → nat_eq m d.file && nat_le r.from d.name && nat_lt d.name r.to && nat_le d.scope.to r.to ≡ true
locals_housed [] m r h n d e = cc
locals_housed (x ∷ ds) m r h n d e = by x.it.block (is_function x.it.entity) n h.0 e h.1 (locals_housed ds)
  where
    by : (b : Block) (f : Bool) (n : ℕ) → IsHoused m r b x → slice_get (if is_package b && f then [] else if is_package b then own_locals ds else declared_by x ∷ own_locals ds) n ≡ Some d → AreHoused (if is_package b && f then x.file else m) (if is_package b && f then x.it.scope else r) ds → ((m : ℕ) (r : Scope) → AreHoused m r ds → (n : ℕ) (d : Declared) → slice_get (own_locals ds) n ≡ Some d → nat_eq m d.file && nat_le r.from d.name && nat_lt d.name r.to && nat_le d.scope.to r.to ≡ true) → nat_eq m d.file && nat_le r.from d.name && nat_lt d.name r.to && nat_le d.scope.to r.to ≡ true
    by block.Package true n g e h rest = cc
    by block.Package false n g e h rest = rest m r h n d e
    by (block.Local i) f zero g e h rest = subst (λ y. nat_eq m y.file && nat_le r.from y.name && nat_lt y.name r.to && nat_le y.scope.to r.to ≡ true) (some_is (declared_by x) d e) (is_housed m r i x g)
    by (block.Local i) f (suc n) g e h rest = rest m r h n d e

-- the locals of each function
abbrev EachHoused : List Found → Type 0
EachHoused ds = (m : ℕ) (r : Scope) → AreHoused m r ds → (f n : ℕ) (g d : Declared) → slice_get (functions_among (declared_in_package ds)) f ≡ Some g → local_in (slice_get (function_locals ds) f) n ≡ Some d → lies_in g d ≡ true

function_housed : (ds : List Found) → EachHoused ds
function_housed [] m r h f n g d e k = cc
function_housed (x ∷ ds) m r h f n g d e k = by x.it.block (is_function x.it.entity) refl f e k h.1 (function_housed ds)
  where
    by : (b : Block) (z : Bool) → is_function x.it.entity ≡ z → (f : ℕ) → slice_get (functions_among (if is_package b then declared_by x ∷ declared_in_package ds else declared_in_package ds)) f ≡ Some g → local_in (slice_get (if is_package b && z then own_locals ds ∷ function_locals ds else function_locals ds) f) n ≡ Some d → AreHoused (if is_package b && z then x.file else m) (if is_package b && z then x.it.scope else r) ds → EachHoused ds → lies_in g d ≡ true
    by (block.Local i) z p f e k h rest = rest m r h f n g d e k
    by block.Package z p f e k h rest = in_package z f (sym (ap (λ y. slice_get (if y then declared_by x ∷ functions_among (declared_in_package ds) else functions_among (declared_in_package ds)) f) p) ∙ e) k h
      where
        in_package : (z : Bool) (f : ℕ) → slice_get (if z then declared_by x ∷ functions_among (declared_in_package ds) else functions_among (declared_in_package ds)) f ≡ Some g → local_in (slice_get (if z then own_locals ds ∷ function_locals ds else function_locals ds) f) n ≡ Some d → AreHoused (if z then x.file else m) (if z then x.it.scope else r) ds → lies_in g d ≡ true
        in_package true zero e k h = subst (λ y. lies_in y d ≡ true) (some_is (declared_by x) g e) (locals_housed ds x.file x.it.scope h n d k)
        in_package true (suc f) e k h = rest x.file x.it.scope h f n g d e k
        in_package false f e k h = rest m r h f n g d e k

pub uses_inside : (us : List names.Unit) → AreInside us → least (clause_faults us) ≡ None → (f n : ℕ) (g d : Declared) → slice_get (functions_among (declared_in_package (declarations us))) f ≡ Some g → local_in (slice_get (function_locals (declarations us)) f) n ≡ Some d → lies_in g d ≡ true
uses_inside us h e = function_housed (declarations us) 0 nowhere (housed_kept (found us) (found us) 0 nowhere (own_from 0 us h) (none_outside us e) (housed_from 0 us h 0 nowhere))
