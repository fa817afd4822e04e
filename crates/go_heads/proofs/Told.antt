-- The names of functions among the names that files declare.
use Rattle.std.proofs.Common.{◌≡◌, ◌∙◌, ℕ, zero, suc, ◌≤◌, Bool, true, false, List, [], ◌∷◌, ◌++◌, map, length, Option, Some, None, refl, sym, ap, subst, append-nil, true≢false, arith}
use Rattle.std.specs.Prelude.{if◌then◌else◌, ◌&&◌, ◌||◌, not, slice_get}
use Rattle.std.specs.List.{AllByRecursion}
use Rattle.std.proofs.lemmas.Bool.{and_parts}
use Rattle.std.proofs.lemmas.List.{map-append, length-append, length-map}
use Rattle.go_base.specs.declared.fault.FaultCode.{FaultCode}
use Rattle.go_base.specs.declared.fault.FaultCode.TheVariants as code
use Rattle.go_tokens.specs.declared.token.TokenKind.{TokenKind}
use Rattle.go_tokens.specs.Spellings.{same_text}
use Rattle.go_tokens.specs.Tokens.{TokenList, kinds}
use Rattle.go_grammar.specs.Grammar.{IsFile}
use Rattle.go_grammar.specs.Trees.{Tree, node, none, more, skip, last, parts}
use Rattle.go_types.proofs.Public.{get_left, get_last, all_at}
use Rattle.go_tree.specs.declared.context.Block.{Block}
use Rattle.go_tree.specs.declared.context.Block.TheVariants as block
use Rattle.go_tree.specs.declared.context.Entity.{Entity}
use Rattle.go_tree.specs.declared.context.Entity.TheVariants as entity
use Rattle.go_tree.specs.declared.event.Event.{Event}
use Rattle.go_tree.specs.declared.event.Event.TheVariants as event
use Rattle.go_tree.specs.Clauses.{is_outside, outside_declarations, missing_bodies, package_names, imports}
use Rattle.go_tree.specs.Contexts.{is_package, file_context}
use Rattle.go_tree.specs.Declarations.{Found, found_in, found_from, found, is_function, same_block, are_one_block, is_new, new_among, declarations}
use Rattle.go_tree.specs.Events.{events}
use Rattle.go_tree.specs.Failures.{Failure, of_files, failing, place_if, is_earlier, least_from, least, or_else}
use Rattle.go_tree.specs.Faults.{clause_faults, name_faults, reported, lookup_faults, unused_faults, placed_faults, cycle_faults}
use Rattle.go_tree.specs.Lists.{functions}
use Rattle.go_tree.specs.Lookups.{asked_from}
use Rattle.go_tree.specs.Meanings.{meanings}
use Rattle.go_tree.specs.Redeclared.{are_parameters, clashes, has_clash, second_declarations, has_import, hidden_imports, second_imports, none_new, redeclared}
use Rattle.go_tree.specs.Units as names
use Rattle.go_tree.specs.Units.{Place, word, is_blank}
use Rattle.go_tree.specs.Uses.{begins_function, own_locals, function_locals, uses}
use Rattle.go_tree.specs.Views.{behind_first}
use Rattle.go_scopes_events.specs.Functions.{functions_told, function_names, name_of}
use Rattle.go_heads.specs.Functions.{Function, AreRead, functions_in, all_functions}
use Rattle.go_heads.specs.Heads.{File}
use Rattle.go_heads.proofs.Outlines.{file_sat}
use Rattle.go_heads.specs.Objects.{units_of}
use Rattle.go_heads.specs.Told.{file_events}
use Rattle.go_heads.specs.Locals.{AreNamed, HaveNames, all_locals, locals_of_file}
use Rattle.go_heads.specs.FunctionNames.{function_name}

-- ---- the names of functions, in order

abbrev pub told : List Found → List (List ℕ)
told [] = []
told (d ∷ ds) = if begins_function d then d.name ∷ told ds else told ds

abbrev pub names_of : List File → List (List ℕ)
names_of fs = map function_name (all_functions fs)

told_append : (xs ys : List Found) → told (xs ++ ys) ≡ told xs ++ told ys
told_append [] ys = refl
told_append (d ∷ ds) ys = ap (λ ws. if begins_function d then d.name ∷ ws else ws) (told_append ds ys) ∙ spread (begins_function d) (told ds)
  where
    spread : (b : Bool) (ws : List (List ℕ)) → (if b then d.name ∷ (ws ++ told ys) else ws ++ told ys) ≡ (if b then d.name ∷ ws else ws) ++ told ys
    spread true ws = refl
    spread false ws = refl

told_in : (n : ℕ) (l : TokenList) (es : List Event) → told (found_in n l es) ≡ map (word l) (functions_told es)
told_in n l [] = refl
told_in n l (event.Declaration d ∷ es) =
    ap (λ ws. if is_package d.block && is_function d.entity then word l d.name ∷ ws else ws) (told_in n l es) ∙ spread (is_package d.block && is_function d.entity)
  where
    spread : (b : Bool) → (if b then word l d.name ∷ map (word l) (functions_told es) else map (word l) (functions_told es)) ≡ map (word l) (if b then d.name ∷ functions_told es else functions_told es)
    spread true = refl
    spread false = refl
told_in n l (e ∷ es) = told_in n l es

-- the part in front of a file's declarations, its imports, is no function
pub behind_imports : (ts : List TokenKind) (t : Tree) → IsFile ts t → functions (behind_first (parts t)) ≡ functions (parts t)
behind_imports ts (node k i j none) h = refl
behind_imports ts (node k i j (skip ds)) h = refl
behind_imports ts (node k i j (more d ds)) h = sym (ap (λ c. if c then d ∷ functions ds else functions ds) (file_sat ts (node k i j (more d ds)) h).0)

-- what each file tells of its functions, as a law says
abbrev pub TellsFunctions : Type 0
TellsFunctions = (ts : List TokenKind) (t : Tree) → IsFile ts t → functions_told (events (file_context (last t)) t) ≡ function_names t

in_file : (f : File) (us : List Tree) → map (word f.tokens) (map name_of us) ≡ map function_name (map (λ t. let x : Function = record { file = f; tree = t } in x) us)
in_file f [] = refl
in_file f (t ∷ us) = ap (λ ws. word f.tokens (name_of t) ∷ ws) (in_file f us)

pub told_from : TellsFunctions → (n : ℕ) (fs : List File) → AreRead fs → told (found_from n (units_of fs)) ≡ names_of fs
told_from law n [] h = refl
told_from law n (f ∷ fs) h =
    told_append (found_in n f.tokens (file_events f)) (found_from (suc n) (units_of fs))
    ∙ ap (λ ws. ws ++ told (found_from (suc n) (units_of fs)))
    (told_in n f.tokens (file_events f) ∙ ap (map (word f.tokens)) (law (kinds f.tokens.tokens) f.tree h.0.tree ∙ ap (map name_of) (behind_imports (kinds f.tokens.tokens) f.tree h.0.tree)) ∙ in_file f (functions (parts f.tree)))
    ∙ ap (λ ws. map function_name (functions_in f) ++ ws) (told_from law (suc n) fs h.1)
    ∙ sym (map-append function_name (functions_in f) (all_functions fs))

-- ---- where no fault is reported

nothing_if : (b : Bool) (s : Place) (ss : List Place) → place_if b s ss ≡ [] → (b ≡ false) × (ss ≡ [])
nothing_if true s ss e = absurd cc
nothing_if false s ss e = (refl, e)

some_if : (b : Bool) (f g : Failure) → (if b then Some g else Some f) ≡ Some (if b then g else f)
some_if true f g = refl
some_if false f g = refl

least_some : (f : Failure) (gs : List Failure) → least_from (Some f) gs ≡ None → ⊥
least_some f [] e = cc
least_some f (g ∷ gs) e = least_some (if is_earlier g f then g else f) gs (sym (ap (λ o. least_from o gs) (some_if (is_earlier g f) f g)) ∙ e)

none_least : (fs : List Failure) → least fs ≡ None → fs ≡ []
none_least [] e = refl
none_least (g ∷ gs) e = absurd (least_some g gs e)

neither : (a b : Option Failure) → or_else a b ≡ None → (a ≡ None) × (b ≡ None)
neither None b e = (refl, e)
neither (Some f) b e = absurd cc

both_empty : {A : Type 0} (xs ys : List A) → xs ++ ys ≡ [] → (xs ≡ []) × (ys ≡ [])
both_empty [] ys e = (refl, e)
both_empty (x ∷ xs) ys e = absurd cc

none_failing : (c : FaultCode) (ss : List Place) → failing c ss ≡ [] → ss ≡ []
none_failing c [] e = refl
none_failing c (s ∷ ss) e = absurd cc

pub none_outside : (us : List names.Unit) → reported us ≡ None → outside_declarations (found us) ≡ []
none_outside us e =
    let ds = found us in
    let front = failing code.PackageName (package_names us) ++ failing code.Outside (imports us) in
    let faults : clause_faults us ≡ [] = none_least (clause_faults us) (neither (least (clause_faults us)) (least (name_faults us)) e).0 in
    none_failing code.Outside (outside_declarations ds)
    (both_empty front (failing code.Outside (outside_declarations ds)) (both_empty (front ++ failing code.Outside (outside_declarations ds)) (failing code.Outside (missing_bodies ds us)) faults).0).1

pub none_second : (us : List names.Unit) → reported us ≡ None → second_declarations [] (declarations us) ≡ []
none_second us e =
    let ds = declarations us in
    let asks = asked_from (meanings us) 0 us in
    let one = failing code.Redeclared (redeclared us ds) in
    let two = one ++ lookup_faults asks in
    let three = two ++ unused_faults us ds asks in
    let four = three ++ placed_faults us in
    let faults : name_faults us ≡ [] = none_least (name_faults us) (neither (least (clause_faults us)) (least (name_faults us)) e).1 in
    let redeclarations : redeclared us ds ≡ [] =
    none_failing code.Redeclared (redeclared us ds)
    (both_empty one (lookup_faults asks) (both_empty two (unused_faults us ds asks) (both_empty three (placed_faults us) (both_empty four (cycle_faults ds asks) faults).0).0).0).0 in
    let a = second_declarations [] ds in
    let b = a ++ hidden_imports (has_import us) ds in
    let c = b ++ of_files (second_imports false) 0 us in
    (both_empty a (hidden_imports (has_import us) ds) (both_empty b (of_files (second_imports false) 0 us) (both_empty c (none_new ds (found us)) redeclarations).0).0).0

-- ---- no blank names

first_false : (a b : Bool) → a || b ≡ false → a ≡ false
first_false true b e = e
first_false false b e = refl

second_false : (a b : Bool) → a || b ≡ false → b ≡ false
second_false true b e = absurd (true≢false e)
second_false false b e = e

abbrev HasName : List ℕ → Type 0
HasName w = is_blank w ≡ false

none_blank : (ds : List Found) → outside_declarations ds ≡ [] → AllByRecursion HasName (told ds)
none_blank [] e = tt
none_blank (d ∷ ds) e =
    let c = nothing_if (is_outside d.it.entity d.it.block d.name) d.place (outside_declarations ds) e in
    by d.it.block d.it.entity c.0 (none_blank ds c.1)
  where
    by : (b : Block) (x : Entity) → is_outside x b d.name ≡ false → AllByRecursion HasName (told ds) → AllByRecursion HasName (if is_package b && is_function x then d.name ∷ told ds else told ds)
    by block.Package entity.Function f h = (first_false (is_blank d.name) _ f, h)
    by block.Package x f h = h
    by (block.Local i) x f h = h

rows_named : (f : File) (gs : List Function) (us : List Tree) → AllByRecursion HasName (map function_name (map (λ t. let x : Function = record { file = f; tree = t } in x) us ++ gs))
    → HaveNames f.tokens us × AllByRecursion HasName (map function_name gs)
rows_named f gs [] h = (tt, h)
rows_named f gs (t ∷ us) h = let r = rows_named f gs us h.1 in ((h.0, r.0), r.1)

files_named : (fs : List File) → AllByRecursion HasName (names_of fs) → AreNamed fs
files_named [] h = tt
files_named (f ∷ fs) h = let r = rows_named f (all_functions fs) (functions (parts f.tree)) h in (r.0, files_named fs r.1)

pub named : TellsFunctions → (fs : List File) → AreRead fs → reported (units_of fs) ≡ None → AreNamed fs
named law fs h e = files_named fs (subst (AllByRecursion HasName) (told_from law 0 fs h) (none_blank (found (units_of fs)) (none_outside (units_of fs) e)))

-- ---- all of them are declared

told_if : (b : Bool) (d : Found) (ds : List Found) → told (if b then d ∷ ds else ds) ≡ (if b then told (d ∷ ds) else told ds)
told_if true d ds = refl
told_if false d ds = refl

no_longer : (all ds : List Found) → length (told (new_among all ds)) ≤ length (told ds)
no_longer all [] = omega arith
no_longer all (d ∷ ds) = subst (λ ws. length ws ≤ length (told (d ∷ ds))) (sym (told_if (is_new all d) d (new_among all ds))) (by (is_new all d) (begins_function d) (no_longer all ds))
  where
    by : (b c : Bool) → length (told (new_among all ds)) ≤ length (told ds)
        → length (if b then (if c then d.name ∷ told (new_among all ds) else told (new_among all ds)) else told (new_among all ds)) ≤ length (if c then d.name ∷ told ds else told ds)
    by true true h = omega (arith, h)
    by true false h = h
    by false true h = omega (arith, h)
    by false false h = h

as_long : (all ds : List Found) → length (told (new_among all ds)) ≡ length (told ds) → told (new_among all ds) ≡ told ds
as_long all [] e = refl
as_long all (d ∷ ds) e =
    told_if (is_new all d) d (new_among all ds)
    ∙ by (is_new all d) (begins_function d) (sym (ap length (told_if (is_new all d) d (new_among all ds))) ∙ e) (as_long all ds) (no_longer all ds)
  where
    by : (b c : Bool) → length (if b then (if c then d.name ∷ told (new_among all ds) else told (new_among all ds)) else told (new_among all ds)) ≡ length (if c then d.name ∷ told ds else told ds)
        → (length (told (new_among all ds)) ≡ length (told ds) → told (new_among all ds) ≡ told ds) → length (told (new_among all ds)) ≤ length (told ds)
        → (if b then (if c then d.name ∷ told (new_among all ds) else told (new_among all ds)) else told (new_among all ds)) ≡ (if c then d.name ∷ told ds else told ds)
    by true true e r h = ap (λ ws. d.name ∷ ws) (r (omega (arith, e)))
    by true false e r h = r e
    by false true e r h = absurd (omega (arith, e, h))
    by false false e r h = r e

as_many : (ds : List Found) → length (function_locals ds) ≡ length (told ds)
as_many [] = refl
as_many (d ∷ ds) = by (begins_function d) (as_many ds)
  where
    by : (b : Bool) → length (function_locals ds) ≡ length (told ds) → length (if b then own_locals ds ∷ function_locals ds else function_locals ds) ≡ length (if b then d.name ∷ told ds else told ds)
    by true e = ap suc e
    by false e = e

pub locals_as_many : (n : ℕ) (fs : List File) → length (all_locals n fs) ≡ length (all_functions fs)
locals_as_many n [] = refl
locals_as_many n (f ∷ fs) =
    let us : List Tree = functions (parts f.tree) in
    let a : length (locals_of_file n f) ≡ length us = length-map us _ in
    let b : length (functions_in f) ≡ length us = length-map us _ in
    omega (arith, length-append (locals_of_file n f) (all_locals (suc n) fs), length-append (functions_in f) (all_functions fs), a, b, locals_as_many (suc n) fs)

-- where the locals of a package are those of its functions
abbrev pub HasLocals : List File → Type 0
HasLocals fs = (uses (units_of fs)).locals ≡ all_locals 0 fs

declared_names : TellsFunctions → (fs : List File) → AreRead fs → HasLocals fs → told (declarations (units_of fs)) ≡ names_of fs
declared_names law fs h locals =
    let all : List Found = found (units_of fs) in
    let names : told all ≡ names_of fs = told_from law 0 fs h in
    let count : length (told (new_among all all)) ≡ length (told all) =
    sym (as_many (new_among all all)) ∙ ap length locals ∙ locals_as_many 0 fs ∙ sym (length-map (all_functions fs) function_name) ∙ sym (ap length names) in
    as_long all all count ∙ names

-- ---- no two have one name

abbrev IsOther : List ℕ → List (List ℕ) → Type 0
IsOther w us = AllByRecursion (λ u. same_text w u ≡ false) us

-- none of the names stands before it, among the others or in the list
abbrev AreOther : List (List ℕ) → List (List ℕ) → Type 0
AreOther us [] = Unit {0}
AreOther us (w ∷ ws) = IsOther w us × AreOther (us ++ w ∷ []) ws

shared_block : (m n : ℕ) (b c : Block) → is_package b ≡ true → is_package c ≡ true → are_one_block m b n c ≡ true
shared_block m n block.Package block.Package e f = refl
shared_block m n block.Package (block.Local j) e f = absurd (true≢false (sym f))
shared_block m n (block.Local i) c e f = absurd (true≢false (sym e))

no_parameters : (x y : Entity) → is_function x ≡ true → are_parameters x y ≡ false
no_parameters entity.Function y e = refl
no_parameters x y e = absurd (true≢false (sym e))

unlike : (d x : Found) → begins_function d ≡ true → begins_function x ≡ true → clashes d x ≡ false → same_text d.name x.name ≡ false
unlike d x e f h =
    let p = and_parts (is_package d.it.block) (is_function d.it.entity) e in
    let q = and_parts (is_package x.it.block) (is_function x.it.entity) f in
    alone_left (same_text d.name x.name) (same_block d x) (not (are_parameters d.it.entity x.it.entity)) (shared_block d.file x.file d.it.block x.it.block p.0 q.0) (ap not (no_parameters d.it.entity x.it.entity p.1)) h
  where
    alone_left : (a b c : Bool) → b ≡ true → c ≡ true → a && b && c ≡ false → a ≡ false
    alone_left true b c e f h = absurd (true≢false (sym (ap (λ x. x && c) e ∙ f) ∙ h))
    alone_left false b c e f h = refl

none_clash : (d : Found) (xs : List Found) → begins_function d ≡ true → has_clash d xs ≡ false → IsOther d.name (told xs)
none_clash d [] f h = tt
none_clash d (x ∷ xs) f h = by (begins_function x) refl (first_false (clashes d x) (has_clash d xs) h) (none_clash d xs f (second_false (clashes d x) (has_clash d xs) h))
  where
    by : (b : Bool) → begins_function x ≡ b → clashes d x ≡ false → IsOther d.name (told xs) → IsOther d.name (if b then x.name ∷ told xs else told xs)
    by true g c r = (unlike d x f g c, r)
    by false g c r = r

others : (before ds : List Found) → second_declarations before ds ≡ [] → AreOther (told before) (told ds)
others before [] e = tt
others before (d ∷ ds) e =
    let c = nothing_if (has_clash d before) d.place (second_declarations (before ++ d ∷ []) ds) e in
    by (begins_function d) refl c.0 (subst (λ us. AreOther us (told ds)) (told_append before (d ∷ [])) (others (before ++ d ∷ []) ds c.1))
  where
    by : (b : Bool) → begins_function d ≡ b → has_clash d before ≡ false → AreOther (told before ++ (if b then d.name ∷ [] else [])) (told ds) → AreOther (told before) (if b then d.name ∷ told ds else told ds)
    by true f h r = (none_clash d before f h, r)
    by false f h r = subst (λ us. AreOther us (told ds)) (append-nil (told before)) r

same_itself : (w : List ℕ) → same_text w w ≡ true
same_itself [] = refl
same_itself (x ∷ xs) = let rest : same_text xs xs ≡ true = same_itself xs in grind (arith, rest)

no_name : {A : Type 0} (w : List ℕ) → None ≡ Some w → A
no_name w e = absurd cc

apart : (us ws : List (List ℕ)) → AreOther us ws → (k l : ℕ) (a : List ℕ) → slice_get us k ≡ Some a → slice_get ws l ≡ Some a → ⊥
apart us [] h k l a e f = no_name a f
apart us (w ∷ ws) h k zero a e f =
    let same : w ≡ a = cc in
    true≢false (sym (same_itself a) ∙ subst (λ x. same_text x a ≡ false) same (all_at (λ u. same_text w u ≡ false) us k a h.0 e))
apart us (w ∷ ws) h k (suc l) a e f = apart (us ++ w ∷ []) ws h.1 k l a (get_left us (w ∷ []) k a e) f

one_place : (us ws : List (List ℕ)) → AreOther us ws → (k l : ℕ) (a : List ℕ) → slice_get ws k ≡ Some a → slice_get ws l ≡ Some a → k ≡ l
one_place us [] h k l a e f = no_name a e
one_place us (w ∷ ws) h zero zero a e f = refl
one_place us (w ∷ ws) h zero (suc l) a e f = absurd (apart (us ++ w ∷ []) ws h.1 (length us) l a (get_last us w ∙ e) f)
one_place us (w ∷ ws) h (suc k) zero a e f = absurd (apart (us ++ w ∷ []) ws h.1 (length us) k a (get_last us w ∙ f) e)
one_place us (w ∷ ws) h (suc k) (suc l) a e f = ap suc (one_place (us ++ w ∷ []) ws h.1 k l a e f)

pub own_names : TellsFunctions → (fs : List File) → AreRead fs → HasLocals fs → reported (units_of fs) ≡ None
    → (k l : ℕ) (a : List ℕ) → slice_get (names_of fs) k ≡ Some a → slice_get (names_of fs) l ≡ Some a → k ≡ l
own_names law fs h locals e =
    one_place [] (names_of fs) (subst (AreOther []) (declared_names law fs h locals) (others [] (declarations (units_of fs)) (none_second (units_of fs) e)))
