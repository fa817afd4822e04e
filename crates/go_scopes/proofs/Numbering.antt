-- The functions that a package without faults declares are the functions of its files, in order.
use Rattle.std.proofs.Common.{◌≡◌, ◌∙◌, ℕ, suc, Bool, true, false, List, [], ◌∷◌, ◌++◌, Option, Some, None, map, refl, sym, ap, append_assoc}
use Rattle.std.specs.Prelude.{◌&&◌, ◌||◌, not, if◌then◌else◌}
use Rattle.std.proofs.lemmas.List.{map-append}
use Rattle.go_base.specs.declared.fault.FaultCode.{FaultCode}
use Rattle.go_base.specs.declared.fault.FaultCode.TheVariants as code
use Rattle.go_tokens.specs.Tokens.{TokenList, kinds}
use Rattle.go_grammar.specs.Trees.{last}
use Rattle.go_tree.specs.declared.context.Block.{Block}
use Rattle.go_tree.specs.declared.context.Block.TheVariants as block
use Rattle.go_tree.specs.declared.context.Entity.{Entity}
use Rattle.go_tree.specs.declared.context.Entity.TheVariants as entity
use Rattle.go_tree.specs.declared.context.Manner.{Manner}
use Rattle.go_tree.specs.declared.context.Manner.TheVariants as manner
use Rattle.go_tree.specs.declared.context.Scope.{Scope}
use Rattle.go_tree.specs.declared.object.Declared.{Declared}
use Rattle.go_tree.specs.declared.event.Declaration.{Declaration}
use Rattle.go_tree.specs.declared.event.Event.{Event}
use Rattle.go_tree.specs.declared.event.Event.TheVariants as event
use Rattle.go_tree.specs.Contexts.{is_package, file_context}
use Rattle.go_tree.specs.Events.{events}
use Rattle.go_tree.specs.Units as names
use Rattle.go_tree.specs.Units.{Place, is_blank}
use Rattle.go_tree.specs.Declarations.{Found, found_in, found_from, found, is_function, may_be_reused, is_reused, is_new, new_among, declarations}
use Rattle.go_tree.specs.Failures.{Failure, failing, place_if, is_earlier, least_from, least, or_else}
use Rattle.go_tree.specs.Clauses.{package_names, imports, is_outside, outside_declarations, missing_bodies}
use Rattle.go_tree.specs.Faults.{clause_faults, name_faults, reported}
use Rattle.go_tree.specs.File.{FileTree}
use Rattle.go_tree.specs.Views.{view}
use Rattle.go_tree.specs.Uses.{declared_by, declared_in_package, functions_among, uses}
use Rattle.go_scopes_events.specs.Functions.{functions_told, function_names}
use Rattle.go_scopes_events.specs.Inside.{function_scope, IsDeclared, IsInside, LocalsInside, nowhere}
use Rattle.go_scopes_events.proofs.Public.{file_told, file_inside}
use Rattle.go_scopes.specs.Resolve.{unit_of, units_of}
use Rattle.go_scopes.specs.Numbering.{spot_of, function_spots, AreFiles}

abbrev is_top : Found → Bool
is_top d = is_package d.it.block && is_function d.it.entity

-- the functions among declarations
abbrev tops : List Found → List (ℕ × ℕ)
tops [] = []
tops (d ∷ ds) = if is_top d then (d.file, d.it.name) ∷ tops ds else tops ds

one_top : (d : Found) (p f : Bool) (ys : List Declared) (xs : List (ℕ × ℕ)) → is_function d.it.entity ≡ f → map spot_of (functions_among ys) ≡ xs → map spot_of (functions_among (if p then declared_by d ∷ ys else ys)) ≡ (if p && f then (d.file, d.it.name) ∷ xs else xs)
one_top d true true ys xs e h = ap (λ b. map spot_of (if b then declared_by d ∷ functions_among ys else functions_among ys)) e ∙ ap (λ zs. (d.file, d.it.name) ∷ zs) h
one_top d true false ys xs e h = ap (λ b. map spot_of (if b then declared_by d ∷ functions_among ys else functions_among ys)) e ∙ h
one_top d false f ys xs e h = h

package_tops : (ds : List Found) → map spot_of (functions_among (declared_in_package ds)) ≡ tops ds
package_tops [] = refl
package_tops (d ∷ ds) = one_top d (is_package d.it.block) (is_function d.it.entity) (declared_in_package ds) (tops ds) refl (package_tops ds)

-- ---- each function is new

true_false : (b : Bool) → b ≡ true → b ≡ false → ⊥
true_false true e f = cc
true_false false e f = cc

-- a function that is declared as such, and isn't blank
record IsProper (d : Found) : Type 0 where
  declared : is_top d ≡ true → d.it.manner ≡ manner.Declared
  named : is_top d ≡ true → is_blank d.name ≡ false

abbrev AreProper : List Found → Type 0
AreProper [] = Unit {0}
AreProper (d ∷ ds) = IsProper d × AreProper ds

proper_new : (all : List Found) (d : Found) → IsProper d → is_top d ≡ true → is_new all d ≡ true
proper_new all d h e = ap (λ b. not b && not (may_be_reused d.it.manner && is_reused d all)) (h.named e) ∙ ap (λ m. not (may_be_reused m && is_reused d all)) (h.declared e)

one_new : (all : List Found) (d : Found) (n t : Bool) (ys : List Found) (xs : List (ℕ × ℕ)) → IsProper d → is_new all d ≡ n → is_top d ≡ t → tops ys ≡ xs → tops (if n then d ∷ ys else ys) ≡ (if t then (d.file, d.it.name) ∷ xs else xs)
one_new all d true t ys xs h e f k = ap (λ b. if b then (d.file, d.it.name) ∷ tops ys else tops ys) f ∙ ap (λ zs. if t then (d.file, d.it.name) ∷ zs else zs) k
one_new all d false true ys xs h e f k = absurd (true_false (is_new all d) (proper_new all d h f) e)
one_new all d false false ys xs h e f k = k

new_tops : (all ds : List Found) → AreProper ds → tops (new_among all ds) ≡ tops ds
new_tops all [] h = refl
new_tops all (d ∷ ds) h = one_new all d (is_new all d) (is_top d) (new_among all ds) (tops ds) h.0 refl refl (new_tops all ds h.1)

-- ---- what the files tell

one_found : (n x : ℕ) (b : Bool) (ys : List (ℕ × ℕ)) (xs : List ℕ) → ys ≡ map (λ t. (n, t)) xs → (if b then (n, x) ∷ ys else ys) ≡ map (λ t. (n, t)) (if b then x ∷ xs else xs)
one_found n x true ys xs h = ap (λ zs. (n, x) ∷ zs) h
one_found n x false ys xs h = h

found_tops : (n : ℕ) (ts : TokenList) (es : List Event) → tops (found_in n ts es) ≡ map (λ t. (n, t)) (functions_told es)
found_tops n ts [] = refl
found_tops n ts (event.Declaration d ∷ es) = one_found n d.name (is_package d.block && is_function d.entity) (tops (found_in n ts es)) (functions_told es) (found_tops n ts es)
found_tops n ts (e ∷ es) = found_tops n ts es

one_append : (x : ℕ × ℕ) (b : Bool) (zs xs ys : List (ℕ × ℕ)) → zs ≡ xs ++ ys → (if b then x ∷ zs else zs) ≡ (if b then x ∷ xs else xs) ++ ys
one_append x true zs xs ys h = ap (λ ws. x ∷ ws) h
one_append x false zs xs ys h = h

tops_append : (xs ys : List Found) → tops (xs ++ ys) ≡ tops xs ++ tops ys
tops_append [] ys = refl
tops_append (d ∷ ds) ys = one_append (d.file, d.it.name) (is_top d) (tops (ds ++ ys)) (tops ds) (tops ys) (tops_append ds ys)

files_tops : (n : ℕ) (fs : List FileTree) → AreFiles fs → tops (found_from n (units_of fs)) ≡ function_spots n fs
files_tops n [] h = refl
files_tops n (f ∷ fs) h =
    let es = events (file_context (last (view f.root))) (view f.root) in
    tops_append (found_in n f.tokens es) (found_from (suc n) (units_of fs))
    ∙ ap (λ xs. xs ++ tops (found_from (suc n) (units_of fs))) (found_tops n f.tokens es ∙ ap (map (λ t. (n, t))) (file_told (kinds f.tokens.tokens) (view f.root) h.0.tree))
    ∙ ap (λ xs. map (λ t. (n, t)) (function_names (view f.root)) ++ xs) (files_tops (suc n) fs h.1)

-- ---- functions are declared, and none is blank

abbrev IsPlainly : Found → Type 0
IsPlainly d = is_top d ≡ true → d.it.manner ≡ manner.Declared

abbrev ArePlainly : List Found → Type 0
ArePlainly [] = Unit {0}
ArePlainly (d ∷ ds) = IsPlainly d × ArePlainly ds

plainly_append : (xs ys : List Found) → ArePlainly xs → ArePlainly ys → ArePlainly (xs ++ ys)
plainly_append [] ys h k = k
plainly_append (x ∷ xs) ys h k = (h.0, plainly_append xs ys h.1 k)

function_declared : (e : Entity) (m : Manner) → IsDeclared e m → is_function e ≡ true → m ≡ manner.Declared
function_declared entity.Function m h e = h
function_declared entity.Constant m h e = absurd (true_false false e refl)
function_declared entity.Type m h e = absurd (true_false false e refl)
function_declared entity.Variable m h e = absurd (true_false false e refl)
function_declared entity.Parameter m h e = absurd (true_false false e refl)

plain_one : (s : Scope) (d : Declaration) (b : Block) → IsInside s b d → (is_package b && is_function d.entity) ≡ true → d.manner ≡ manner.Declared
plain_one s d block.Package h t = function_declared d.entity d.manner h t
plain_one s d (block.Local i) h t = absurd (true_false false t refl)

found_plainly : (n : ℕ) (ts : TokenList) (s : Scope) (es : List Event) → LocalsInside s es → ArePlainly (found_in n ts es)
found_plainly n ts s [] h = tt
found_plainly n ts s (event.Declaration d ∷ es) h = (plain_one s d d.block h.0, found_plainly n ts (function_scope d s) es h.1)
found_plainly n ts s (e ∷ es) h = found_plainly n ts s es h

files_plainly : (n : ℕ) (fs : List FileTree) → AreFiles fs → ArePlainly (found_from n (units_of fs))
files_plainly n [] h = tt
files_plainly n (f ∷ fs) h =
    let es = events (file_context (last (view f.root))) (view f.root) in
    plainly_append (found_in n f.tokens es) (found_from (suc n) (units_of fs))
    (found_plainly n f.tokens nowhere es (file_inside (kinds f.tokens.tokens) (view f.root) h.0.tree))
    (files_plainly (suc n) fs h.1)

either_false : (a b : Bool) → (a || b) ≡ false → a ≡ false
either_false true b e = e
either_false false b e = refl

no_function : (b : Block) → (is_package b && false) ≡ true → ⊥
no_function block.Package t = true_false false t refl
no_function (block.Local i) t = true_false false t refl

outside_named : (e : Entity) (b : Block) (w : List ℕ) → is_outside e b w ≡ false → (is_package b && is_function e) ≡ true → is_blank w ≡ false
outside_named entity.Function b w h t = either_false (is_blank w) _ h
outside_named entity.Constant b w h t = absurd (no_function b t)
outside_named entity.Type b w h t = absurd (no_function b t)
outside_named entity.Variable b w h t = absurd (no_function b t)
outside_named entity.Parameter b w h t = absurd (no_function b t)

record NoPlace (b : Bool) (ss : List Place) : Type 0 where
  passes : b ≡ false
  others : ss ≡ []

no_place : (b : Bool) (p : Place) (ss : List Place) → place_if b p ss ≡ [] → NoPlace b ss
no_place true p ss e = absurd cc
no_place false p ss e = record { passes = refl; others = e }

proper : (ds : List Found) → ArePlainly ds → outside_declarations ds ≡ [] → AreProper ds
proper [] h e = tt
proper (d ∷ ds) h e =
    let none = no_place (is_outside d.it.entity d.it.block d.name) d.place (outside_declarations ds) e in
    (record { declared = h.0; named = outside_named d.it.entity d.it.block d.name none.passes }, proper ds h.1 none.others)

-- ---- where no fault is reported, none is found

some_if : (b : Bool) (f g : Failure) → (if b then Some g else Some f) ≡ Some (if b then g else f)
some_if true f g = refl
some_if false f g = refl

least_some : (f : Failure) (gs : List Failure) → least_from (Some f) gs ≡ None → ⊥
least_some f [] e = cc
least_some f (g ∷ gs) e = least_some (if is_earlier g f then g else f) gs (sym (ap (λ o. least_from o gs) (some_if (is_earlier g f) f g)) ∙ e)

no_least : (fs : List Failure) → least fs ≡ None → fs ≡ []
no_least [] e = refl
no_least (g ∷ gs) e = absurd (least_some g gs e)

no_first : (a b : Option Failure) → or_else a b ≡ None → a ≡ None
no_first None b e = refl
no_first (Some f) b e = e

left_none : {A : Type 0} (xs ys : List A) → xs ++ ys ≡ [] → xs ≡ []
left_none [] ys e = refl
left_none (x ∷ xs) ys e = absurd cc

right_none : {A : Type 0} (xs ys : List A) → xs ++ ys ≡ [] → ys ≡ []
right_none [] ys e = e
right_none (x ∷ xs) ys e = absurd cc

none_failing : (c : FaultCode) (ss : List Place) → failing c ss ≡ [] → ss ≡ []
none_failing c [] e = refl
none_failing c (s ∷ ss) e = absurd cc

none_outside : (us : List names.Unit) → reported us ≡ None → outside_declarations (found us) ≡ []
none_outside us e =
    let named = failing code.PackageName (package_names us) in
    let imported = failing code.Outside (imports us) in
    let outside = failing code.Outside (outside_declarations (found us)) in
    let bodies = failing code.Outside (missing_bodies (found us) us) in
    let none : named ++ imported ++ outside ++ bodies ≡ [] = no_least (clause_faults us) (no_first (least (clause_faults us)) (least (name_faults us)) e) in
    none_failing code.Outside (outside_declarations (found us)) (right_none (named ++ imported) outside (left_none (named ++ imported ++ outside) bodies none))

pub numbered_functions : (fs : List FileTree) → AreFiles fs → reported (units_of fs) ≡ None → map spot_of (functions_among (uses (units_of fs)).package_level) ≡ function_spots 0 fs
numbered_functions fs h e =
    let us = units_of fs in
    package_tops (declarations us)
    ∙ new_tops (found us) (found us) (proper (found us) (files_plainly 0 fs h) (none_outside us e))
    ∙ files_tops 0 fs h
