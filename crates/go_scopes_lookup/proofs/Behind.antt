-- No local declaration of a package stands before its first function.
use Rattle.std.proofs.Common.{◌≡◌, ℕ, suc, Bool, true, false, ◌&&◌, ◌||◌, not, if◌then◌else◌, List, [], ◌∷◌, ◌++◌, Some, None, refl}
use Rattle.go_base.specs.declared.fault.FaultCode.{FaultCode}
use Rattle.go_base.specs.declared.fault.FaultCode.TheVariants as code
use Rattle.go_tokens.specs.Tokens.{TokenList}
use Rattle.go_tree.specs.declared.context.Block.{Block}
use Rattle.go_tree.specs.declared.context.Block.TheVariants as block
use Rattle.go_tree.specs.declared.context.Entity.{Entity}
use Rattle.go_tree.specs.declared.context.Entity.TheVariants as entity
use Rattle.go_tree.specs.declared.context.Manner.{Manner}
use Rattle.go_tree.specs.declared.context.Manner.TheVariants as manner
use Rattle.go_tree.specs.declared.event.Event.{Event}
use Rattle.go_tree.specs.declared.event.Event.TheVariants as event
use Rattle.go_tree.specs.Contexts.{is_package}
use Rattle.go_tree.specs.Units.{Place, is_blank}
use Rattle.go_tree.specs.Declarations.{Found, found_in, found_from, found, is_function, may_be_reused, is_reused, is_new, new_among, declarations}
use Rattle.go_tree.specs.Units as names
use Rattle.go_tree.specs.Failures.{Failure, failing, place_if, is_earlier, least_from, least}
use Rattle.go_tree.specs.Clauses.{package_names, imports, is_outside, outside_declarations, missing_bodies}
use Rattle.go_tree.specs.Faults.{clause_faults}
use Rattle.go_tree.specs.Uses.{begins_function}
use Rattle.go_scopes_events.specs.Orders.{IsOuter, LocalsFollow}
use Rattle.go_scopes_events.specs.Orders as orders
use Rattle.go_scopes_events.specs.Scopes.{AreOrderly}

-- No local one stands before the first function; the argument says whether there was one.
abbrev pub AreBehind : Bool → List Found → Type 0
AreBehind true ds = Unit
AreBehind false [] = Unit
AreBehind false (d ∷ ds) = IsOuter d.it.block × AreBehind (begins_function d) ds

-- the same with the names before `:=`
abbrev AreToldBehind : Bool → List Found → Type 0
AreToldBehind true ds = Unit
AreToldBehind false [] = Unit
AreToldBehind false (d ∷ ds) = IsOuter d.it.block × AreToldBehind (orders.begins_function d.it.block d.it.entity d.it.manner) ds

told_in : (n : ℕ) (ts : TokenList) (es : List Event) (rest : List Found) (b : Bool) → LocalsFollow b es → ((b : Bool) → AreToldBehind b rest) → AreToldBehind b (found_in n ts es ++ rest)
told_in n ts es rest true h f = tt
told_in n ts [] rest false h f = f false
told_in n ts (event.Declaration d ∷ es) rest false h f = (h.0, told_in n ts es rest (orders.begins_function d.block d.entity d.manner) h.1 f)
told_in n ts (e ∷ es) rest false h f = told_in n ts es rest false h f

follow_any : (b : Bool) (es : List Event) → LocalsFollow false es → LocalsFollow b es
follow_any true es h = tt
follow_any false es h = h

told_from : (n : ℕ) (us : List names.Unit) → AreOrderly us → (b : Bool) → AreToldBehind b (found_from n us)
told_from n [] h true = tt
told_from n [] h false = tt
told_from n (u ∷ us) h b = told_in n u.tokens u.events (found_from (suc n) us) b (follow_any b u.events h.0.behind) (told_from (suc n) us h.1)

-- a function of the package has a name
function_begins : (b : Block) (e : Entity) (m : Manner) → orders.begins_function b e m ≡ true → is_package b && is_function e ≡ true
function_begins block.Package entity.Function manner.Declared h = refl
function_begins b e m h = cc

named : (x y : Bool) → x || y ≡ false → not x && true ≡ true
named true y h = cc
named false y h = refl

pub function_new : (b : Block) (e : Entity) (m : Manner) (w : List ℕ) (r : Bool) → orders.begins_function b e m ≡ true → is_outside e b w ≡ false → not (is_blank w) && not (may_be_reused m && r) ≡ true
function_new block.Package entity.Function manner.Declared w r h o = named (is_blank w) _ o
function_new b e m w r h o = cc

pub no_place : (b : Bool) (p : Place) (ps : List Place) → place_if b p ps ≡ [] → (b ≡ false) × (ps ≡ [])
no_place true p ps h = absurd cc
no_place false p ps h = (refl, h)

behind_more : (a b : Bool) (ds : List Found) → (a ≡ true → b ≡ true) → AreBehind a ds → AreBehind b ds
behind_more a true ds f h = tt
behind_more true false ds f h = let no : false ≡ true = f refl in absurd cc
behind_more false false ds f h = h

not_both : (b : Bool) → b ≡ true → b ≡ false → ⊥
not_both true x y = cc
not_both false x y = cc

new_behind : (all ds : List Found) (b : Bool) → AreToldBehind b ds → outside_declarations ds ≡ [] → AreBehind b (new_among all ds)
new_behind all ds true h o = tt
new_behind all [] false h o = tt
new_behind all (d ∷ ds) false h o =
    let place = no_place (is_outside d.it.entity d.it.block d.name) d.place (outside_declarations ds) o in
    by (is_new all d) refl place.0 (new_behind all ds (orders.begins_function d.it.block d.it.entity d.it.manner) h.1 place.1)
  where
    by : (b : Bool) → is_new all d ≡ b → is_outside d.it.entity d.it.block d.name ≡ false → AreBehind (orders.begins_function d.it.block d.it.entity d.it.manner) (new_among all ds) → AreBehind false (if b then d ∷ new_among all ds else new_among all ds)
    by true e inside rest = (h.0, behind_more (orders.begins_function d.it.block d.it.entity d.it.manner) (begins_function d) (new_among all ds) (function_begins d.it.block d.it.entity d.it.manner) rest)
    by false e inside rest = behind_more (orders.begins_function d.it.block d.it.entity d.it.manner) false (new_among all ds) (λ f. absurd (not_both (is_new all d) (function_new d.it.block d.it.entity d.it.manner d.name (is_reused d all) f inside) e)) rest

least_some : (f : Failure) (gs : List Failure) → least_from (Some f) gs ≡ None → ⊥
least_some f [] h = cc
least_some f (g ∷ gs) h = by (is_earlier g f) (least_some g gs) (least_some f gs) h
  where
    by : (b : Bool) → (least_from (Some g) gs ≡ None → ⊥) → (least_from (Some f) gs ≡ None → ⊥) → least_from (if b then Some g else Some f) gs ≡ None → ⊥
    by true x y = x
    by false x y = y

least_none : (gs : List Failure) → least gs ≡ None → gs ≡ []
least_none [] h = refl
least_none (g ∷ gs) h = absurd (least_some g gs h)

append_none : (xs ys : List Failure) → xs ++ ys ≡ [] → (xs ≡ []) × (ys ≡ [])
append_none [] ys h = (refl, h)
append_none (x ∷ xs) ys h = absurd cc

failing_none : (c : FaultCode) (ps : List Place) → failing c ps ≡ [] → ps ≡ []
failing_none c [] h = refl
failing_none c (p ∷ ps) h = absurd cc

pub none_outside : (us : List names.Unit) → least (clause_faults us) ≡ None → outside_declarations (found us) ≡ []
none_outside us h =
    let first = failing code.PackageName (package_names us) ++ failing code.Outside (imports us) in
    let all = append_none (first ++ failing code.Outside (outside_declarations (found us))) (failing code.Outside (missing_bodies (found us) us)) (least_none (clause_faults us) h) in
    failing_none code.Outside (outside_declarations (found us)) (append_none first (failing code.Outside (outside_declarations (found us))) all.0).1

pub declarations_behind : (us : List names.Unit) → AreOrderly us → least (clause_faults us) ≡ None → AreBehind false (declarations us)
declarations_behind us h f = new_behind (found us) (found us) false (told_from 0 us h false) (none_outside us f)
