-- The functions that a package without faults declares are those that its files specify, in order.
use Rattle.std.proofs.Common.{◌≡◌, ◌∙◌, ℕ, suc, Bool, true, false, List, [], ◌∷◌, ◌++◌, Option, Some, None, map, refl, sym, ap}
use Rattle.std.specs.Prelude.{◌&&◌, ◌||◌, not, if◌then◌else◌}
use Rattle.std.specs.List.{AllByRecursion}
use Rattle.std.proofs.lemmas.List.{map-append}
use Rattle.go_base.specs.declared.fault.FaultCode.{FaultCode}
use Rattle.go_base.specs.declared.fault.FaultCode.TheVariants as code
use Rattle.go_tokens.specs.Tokens.{TokenList, kinds}
use Rattle.go_tokens.specs.declared.token.TokenKind.{TokenKind}
use Rattle.go_grammar.specs.declared.kind.Category.TheVariants as category
use Rattle.go_grammar.specs.declared.kind.Kind.TheVariants as kind
use Rattle.go_grammar.specs.declared.kind.Sort.{Sort}
use Rattle.go_grammar.specs.declared.kind.Sort.TheVariants as declaring
use Rattle.go_grammar.specs.Grammar.{IsFile, Derives}
use Rattle.go_grammar.specs.Trees.{Tree, node, Trees, none, more, skip, last}
use Rattle.go_tree.specs.declared.context.Block.{Block}
use Rattle.go_tree.specs.declared.context.Block.TheVariants as block
use Rattle.go_tree.specs.declared.context.Entity.{Entity}
use Rattle.go_tree.specs.declared.context.Entity.TheVariants as entity
use Rattle.go_tree.specs.declared.context.Manner.{Manner}
use Rattle.go_tree.specs.declared.context.Manner.TheVariants as manner
use Rattle.go_tree.specs.declared.context.Scope.{Scope}
use Rattle.go_tree.specs.declared.object.Declared.{Declared}
use Rattle.go_tree.specs.declared.event.Declaration.{Declaration}
use Rattle.go_tree.specs.declared.event.Event.{Event}
use Rattle.go_tree.specs.declared.event.Event.TheVariants as event
use Rattle.go_tree.specs.Contexts.{is_package, file_context}
use Rattle.go_tree.specs.Events.{events}
use Rattle.go_tree.specs.Units as names
use Rattle.go_tree.specs.Units.{Place, is_blank}
use Rattle.go_tree.specs.Declarations.{Found, found_in, found_from, found, is_function, may_be_reused, is_reused, is_new, new_among}
use Rattle.go_tree.specs.Declarations as named
use Rattle.go_tree.specs.Failures.{Failure, failing, place_if, is_earlier, least_from, least, or_else}
use Rattle.go_tree.specs.Clauses.{package_names, imports, is_outside, outside_declarations, missing_bodies}
use Rattle.go_tree.specs.Faults.{clause_faults, name_faults, reported}
use Rattle.go_tree.specs.Lists.{functions}
use Rattle.go_tree.specs.Uses.{declared_by, declared_in_package, functions_among, uses}
use Rattle.go_scopes_events.specs.Functions.{functions_told, function_names, name_of}
use Rattle.go_scopes_events.specs.Inside.{function_scope, IsDeclared, IsInside, LocalsInside, nowhere}
use Rattle.go_scopes_events.proofs.Public.{file_told, file_inside}
use Rattle.go_package_defs.specs.Answer.{specifications}
use Rattle.go_package_defs.specs.Bodies.{is_this, those_of}
use Rattle.go_package_defs.specs.Declarations.{Specification, declaration, declarations, declared, grouped, in_file, source_behind, specification_of}
use Rattle.go_package_defs.specs.Sources.{Source, unit_of}
use Rattle.go_package_settled.specs.Read.{IsFaultless}
use Rattle.go_package_added.specs.Reported.{declared_spot, specified_spot}

abbrev is_top : Found → Bool
is_top d = is_package d.it.block && is_function d.it.entity

-- the functions among declarations
abbrev tops : List Found → List (ℕ × ℕ)
tops [] = []
tops (d ∷ ds) = if is_top d then (d.file, d.it.name) ∷ tops ds else tops ds

one_top : (d : Found) (p f : Bool) (ys : List Declared) (xs : List (ℕ × ℕ)) → is_function d.it.entity ≡ f → map declared_spot (functions_among ys) ≡ xs
    → map declared_spot (functions_among (if p then declared_by d ∷ ys else ys)) ≡ (if p && f then (d.file, d.it.name) ∷ xs else xs)
one_top d true true ys xs e h = ap (λ b. map declared_spot (if b then declared_by d ∷ functions_among ys else functions_among ys)) e ∙ ap (λ zs. (d.file, d.it.name) ∷ zs) h
one_top d true false ys xs e h = ap (λ b. map declared_spot (if b then declared_by d ∷ functions_among ys else functions_among ys)) e ∙ h
one_top d false f ys xs e h = h

package_tops : (ds : List Found) → map declared_spot (functions_among (declared_in_package ds)) ≡ tops ds
package_tops [] = refl
package_tops (d ∷ ds) = one_top d (is_package d.it.block) (is_function d.it.entity) (declared_in_package ds) (tops ds) refl (package_tops ds)

-- ---- each function is new

true_false : (b : Bool) → b ≡ true → b ≡ false → ⊥
true_false true e f = cc
true_false false e f = cc

-- a function that is declared as such, and isn't blank
record IsProper (d : Found) : Type 0 where
  declared : is_top d ≡ true → d.it.manner ≡ manner.Declared
  named : is_top d ≡ true → is_blank d.name ≡ false

abbrev AreProper : List Found → Type 0
AreProper [] = Unit {0}
AreProper (d ∷ ds) = IsProper d × AreProper ds

proper_new : (all : List Found) (d : Found) → IsProper d → is_top d ≡ true → is_new all d ≡ true
proper_new all d h e = ap (λ b. not b && not (may_be_reused d.it.manner && is_reused d all)) (h.named e) ∙ ap (λ m. not (may_be_reused m && is_reused d all)) (h.declared e)

one_new : (all : List Found) (d : Found) (n t : Bool) (ys : List Found) (xs : List (ℕ × ℕ)) → IsProper d → is_new all d ≡ n → is_top d ≡ t → tops ys ≡ xs → tops (if n then d ∷ ys else ys) ≡ (if t then (d.file, d.it.name) ∷ xs else xs)
one_new all d true t ys xs h e f k = ap (λ b. if b then (d.file, d.it.name) ∷ tops ys else tops ys) f ∙ ap (λ zs. if t then (d.file, d.it.name) ∷ zs else zs) k
one_new all d false true ys xs h e f k = absurd (true_false (is_new all d) (proper_new all d h f) e)
one_new all d false false ys xs h e f k = k

new_tops : (all ds : List Found) → AreProper ds → tops (new_among all ds) ≡ tops ds
new_tops all [] h = refl
new_tops all (d ∷ ds) h = one_new all d (is_new all d) (is_top d) (new_among all ds) (tops ds) h.0 refl refl (new_tops all ds h.1)

-- ---- what the files tell

one_found : (n x : ℕ) (b : Bool) (ys : List (ℕ × ℕ)) (xs : List ℕ) → ys ≡ map (λ t. (n, t)) xs → (if b then (n, x) ∷ ys else ys) ≡ map (λ t. (n, t)) (if b then x ∷ xs else xs)
one_found n x true ys xs h = ap (λ zs. (n, x) ∷ zs) h
one_found n x false ys xs h = h

found_tops : (n : ℕ) (ts : TokenList) (es : List Event) → tops (found_in n ts es) ≡ map (λ t. (n, t)) (functions_told es)
found_tops n ts [] = refl
found_tops n ts (event.Declaration d ∷ es) = one_found n d.name (is_package d.block && is_function d.entity) (tops (found_in n ts es)) (functions_told es) (found_tops n ts es)
found_tops n ts (e ∷ es) = found_tops n ts es

one_append : (x : ℕ × ℕ) (b : Bool) (zs xs ys : List (ℕ × ℕ)) → zs ≡ xs ++ ys → (if b then x ∷ zs else zs) ≡ (if b then x ∷ xs else xs) ++ ys
one_append x true zs xs ys h = ap (λ ws. x ∷ ws) h
one_append x false zs xs ys h = h

tops_append : (xs ys : List Found) → tops (xs ++ ys) ≡ tops xs ++ tops ys
tops_append [] ys = refl
tops_append (d ∷ ds) ys = one_append (d.file, d.it.name) (is_top d) (tops (ds ++ ys)) (tops ds) (tops ys) (tops_append ds ys)

abbrev HasTree : Source → Type 0
HasTree s = IsFile (kinds s.tokens.tokens) s.tree

-- the functions of the files, which are numbered from n on
abbrev function_spots : ℕ → List Source → List (ℕ × ℕ)
function_spots n [] = []
function_spots n (s ∷ ss) = map (λ t. (n, t)) (function_names s.tree) ++ function_spots (suc n) ss

files_tops : (n : ℕ) (ss : List Source) → AllByRecursion HasTree ss → tops (found_from n (map unit_of ss)) ≡ function_spots n ss
files_tops n [] h = refl
files_tops n (s ∷ ss) h =
    let es = events (file_context (last s.tree)) s.tree in
    tops_append (found_in n s.tokens es) (found_from (suc n) (map unit_of ss))
    ∙ ap (λ xs. xs ++ tops (found_from (suc n) (map unit_of ss))) (found_tops n s.tokens es ∙ ap (map (λ t. (n, t))) (file_told (kinds s.tokens.tokens) s.tree h.0))
    ∙ ap (λ xs. map (λ t. (n, t)) (function_names s.tree) ++ xs) (files_tops (suc n) ss h.1)

-- ---- functions are declared, and none is blank

abbrev IsPlainly : Found → Type 0
IsPlainly d = is_top d ≡ true → d.it.manner ≡ manner.Declared

abbrev ArePlainly : List Found → Type 0
ArePlainly [] = Unit {0}
ArePlainly (d ∷ ds) = IsPlainly d × ArePlainly ds

plainly_append : (xs ys : List Found) → ArePlainly xs → ArePlainly ys → ArePlainly (xs ++ ys)
plainly_append [] ys h k = k
plainly_append (x ∷ xs) ys h k = (h.0, plainly_append xs ys h.1 k)

function_declared : (e : Entity) (m : Manner) → IsDeclared e m → is_function e ≡ true → m ≡ manner.Declared
function_declared entity.Function m h e = h
function_declared entity.Constant m h e = absurd (true_false false e refl)
function_declared entity.Type m h e = absurd (true_false false e refl)
function_declared entity.Variable m h e = absurd (true_false false e refl)
function_declared entity.Parameter m h e = absurd (true_false false e refl)

plain_one : (s : Scope) (d : Declaration) (b : Block) → IsInside s b d → (is_package b && is_function d.entity) ≡ true → d.manner ≡ manner.Declared
plain_one s d block.Package h t = function_declared d.entity d.manner h t
plain_one s d (block.Local i) h t = absurd (true_false false t refl)

found_plainly : (n : ℕ) (ts : TokenList) (s : Scope) (es : List Event) → LocalsInside s es → ArePlainly (found_in n ts es)
found_plainly n ts s [] h = tt
found_plainly n ts s (event.Declaration d ∷ es) h = (plain_one s d d.block h.0, found_plainly n ts (function_scope d s) es h.1)
found_plainly n ts s (e ∷ es) h = found_plainly n ts s es h

files_plainly : (n : ℕ) (ss : List Source) → AllByRecursion HasTree ss → ArePlainly (found_from n (map unit_of ss))
files_plainly n [] h = tt
files_plainly n (s ∷ ss) h =
    let es = events (file_context (last s.tree)) s.tree in
    plainly_append (found_in n s.tokens es) (found_from (suc n) (map unit_of ss))
    (found_plainly n s.tokens nowhere es (file_inside (kinds s.tokens.tokens) s.tree h.0))
    (files_plainly (suc n) ss h.1)

either_false : (a b : Bool) → (a || b) ≡ false → a ≡ false
either_false true b e = e
either_false false b e = refl

no_function : (b : Block) → (is_package b && false) ≡ true → ⊥
no_function block.Package t = true_false false t refl
no_function (block.Local i) t = true_false false t refl

outside_named : (e : Entity) (b : Block) (w : List ℕ) → is_outside e b w ≡ false → (is_package b && is_function e) ≡ true → is_blank w ≡ false
outside_named entity.Function b w h t = either_false (is_blank w) _ h
outside_named entity.Constant b w h t = absurd (no_function b t)
outside_named entity.Type b w h t = absurd (no_function b t)
outside_named entity.Variable b w h t = absurd (no_function b t)
outside_named entity.Parameter b w h t = absurd (no_function b t)

record NoPlace (b : Bool) (ss : List Place) : Type 0 where
  passes : b ≡ false
  others : ss ≡ []

no_place : (b : Bool) (p : Place) (ss : List Place) → place_if b p ss ≡ [] → NoPlace b ss
no_place true p ss e = absurd cc
no_place false p ss e = record { passes = refl; others = e }

proper : (ds : List Found) → ArePlainly ds → outside_declarations ds ≡ [] → AreProper ds
proper [] h e = tt
proper (d ∷ ds) h e =
    let none = no_place (is_outside d.it.entity d.it.block d.name) d.place (outside_declarations ds) e in
    (record { declared = h.0; named = outside_named d.it.entity d.it.block d.name none.passes }, proper ds h.1 none.others)

-- ---- where no fault is reported, none is found

some_if : (b : Bool) (f g : Failure) → (if b then Some g else Some f) ≡ Some (if b then g else f)
some_if true f g = refl
some_if false f g = refl

least_some : (f : Failure) (gs : List Failure) → least_from (Some f) gs ≡ None → ⊥
least_some f [] e = cc
least_some f (g ∷ gs) e = least_some (if is_earlier g f then g else f) gs (sym (ap (λ o. least_from o gs) (some_if (is_earlier g f) f g)) ∙ e)

no_least : (fs : List Failure) → least fs ≡ None → fs ≡ []
no_least [] e = refl
no_least (g ∷ gs) e = absurd (least_some g gs e)

no_first : (a b : Option Failure) → or_else a b ≡ None → a ≡ None
no_first None b e = refl
no_first (Some f) b e = e

left_none : {A : Type 0} (xs ys : List A) → xs ++ ys ≡ [] → xs ≡ []
left_none [] ys e = refl
left_none (x ∷ xs) ys e = absurd cc

right_none : {A : Type 0} (xs ys : List A) → xs ++ ys ≡ [] → ys ≡ []
right_none [] ys e = e
right_none (x ∷ xs) ys e = absurd cc

none_failing : (c : FaultCode) (ss : List Place) → failing c ss ≡ [] → ss ≡ []
none_failing c [] e = refl
none_failing c (s ∷ ss) e = absurd cc

none_outside : (us : List names.Unit) → reported us ≡ None → outside_declarations (found us) ≡ []
none_outside us e =
    let named = failing code.PackageName (package_names us) in
    let imported = failing code.Outside (imports us) in
    let outside = failing code.Outside (outside_declarations (found us)) in
    let bodies = failing code.Outside (missing_bodies (found us) us) in
    let none : named ++ imported ++ outside ++ bodies ≡ [] = no_least (clause_faults us) (no_first (least (clause_faults us)) (least (name_faults us)) e) in
    none_failing code.Outside (outside_declarations (found us)) (right_none (named ++ imported) outside (left_none (named ++ imported ++ outside) bodies none))

numbered_functions : (ss : List Source) → AllByRecursion HasTree ss → reported (map unit_of ss) ≡ None → map declared_spot (functions_among (uses (map unit_of ss)).package_level) ≡ function_spots 0 ss
numbered_functions ss h e =
    let us = map unit_of ss in
    package_tops (named.declarations us)
    ∙ new_tops (found us) (found us) (proper (found us) (files_plainly 0 ss h) (none_outside us e))
    ∙ files_tops 0 ss h

-- ---- what the files specify

those_more : (b : Bool) (d : Specification) (us vs ws : List Specification) → us ≡ vs ++ ws → (if b then d ∷ us else us) ≡ (if b then d ∷ vs else vs) ++ ws
those_more true d us vs ws e = ap (λ l. d ∷ l) e
those_more false d us vs ws e = e

those_both : (xs ys : List Specification) → those_of entity.Function (xs ++ ys) ≡ those_of entity.Function xs ++ those_of entity.Function ys
those_both [] ys = refl
those_both (d ∷ xs) ys = those_more (is_this entity.Function d.entity) d (those_of entity.Function (xs ++ ys)) (those_of entity.Function xs) (those_of entity.Function ys) (those_both xs ys)

no_function_of : (n : ℕ) (s : Sort) (k : ℕ) (r : Option Tree) (t : Tree) → is_this entity.Function (specification_of n s k r t).entity ≡ false
no_function_of n declaring.Constant k r (node l i j ps) = refl
no_function_of n declaring.Type k r (node l i j ps) = refl
no_function_of n declaring.Variable k r (node l i j ps) = refl

grouped_none : (n : ℕ) (s : Sort) (k : ℕ) (r : Option Tree) (ps : Trees) → those_of entity.Function (grouped n s k r ps) ≡ []
grouped_none n s k r none = refl
grouped_none n s k r (more p ps) =
    ap (λ b. if b then specification_of n s k r p ∷ those_of entity.Function (grouped n s (suc k) (source_behind r p) ps) else those_of entity.Function (grouped n s (suc k) (source_behind r p) ps)) (no_function_of n s k r p)
    ∙ grouped_none n s (suc k) (source_behind r p) ps
grouped_none n s k r (skip ps) = grouped_none n s k r ps

declared_none : (n : ℕ) (s : Sort) (ps : Trees) → those_of entity.Function (declared n s ps) ≡ []
declared_none n s (more (node (kind.Group g) i j ps) none) = grouped_none n s 0 None ps
declared_none n s ps = grouped_none n s 0 None ps

declarations_named : (n : ℕ) (ps : Trees) → map specified_spot (those_of entity.Function (declarations n ps)) ≡ map (λ t. (n, t)) (map name_of (functions ps))
declarations_named n none = refl
declarations_named n (skip ps) = declarations_named n ps
declarations_named n (more (node (kind.Declaration s) i j qs) ps) =
    ap (map specified_spot) (those_both (declaration n (node (kind.Declaration s) i j qs)) (declarations n ps) ∙ ap (λ l. l ++ those_of entity.Function (declarations n ps)) (declared_none n s qs)) ∙ declarations_named n ps
declarations_named n (more (node kind.FunctionDeclaration i j qs) ps) = ap (λ l. (n, suc i) ∷ l) (declarations_named n ps)
declarations_named n (more (node k i j qs) ps) = declarations_named n ps

file_named : (n : ℕ) (ts : List TokenKind) (t : Tree) → Derives ts category.File t → map specified_spot (those_of entity.Function (in_file n t)) ≡ map (λ m. (n, m)) (function_names t)
file_named n ts (node kind.File i j none) h = absurd h.1
file_named n ts (node kind.File i j (skip ps)) h = declarations_named n ps
file_named n ts (node kind.File i j (more (node kind.Imports a b qs) ps)) h = declarations_named n ps
file_named n ts (node kind.File i j (more (node k a b qs) ps)) h = cc
file_named n ts (node k i j ps) h = cc

files_named : (n : ℕ) (ss : List Source) → AllByRecursion HasTree ss → map specified_spot (those_of entity.Function (specifications n ss)) ≡ function_spots n ss
files_named n [] h = refl
files_named n (s ∷ ss) h =
    ap (map specified_spot) (those_both (in_file n s.tree) (specifications (suc n) ss))
    ∙ map-append specified_spot (those_of entity.Function (in_file n s.tree)) (those_of entity.Function (specifications (suc n) ss))
    ∙ ap (λ l. l ++ map specified_spot (those_of entity.Function (specifications (suc n) ss))) (file_named n (kinds s.tokens.tokens) s.tree h.0.derives)
    ∙ ap (λ l. map (λ t. (n, t)) (function_names s.tree) ++ l) (files_named (suc n) ss h.1)

pub in_order : (ss : List Source) → IsFaultless ss → map declared_spot (functions_among (uses (map unit_of ss)).package_level) ≡ map specified_spot (those_of entity.Function (specifications 0 ss))
in_order ss h = numbered_functions ss h.trees h.names ∙ sym (files_named 0 ss h.trees)
