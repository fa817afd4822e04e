-- The number of functions in front of a function is its number.
use Rattle.std.proofs.Common.{◌≡◌, ◌∙◌, ℕ, zero, suc, ◌+◌, ◌<◌, ◌≤◌, Bool, true, false, List, [], ◌∷◌, ◌++◌, map, length, Some, refl, sym, ap, subst, append_assoc, arith}
use Rattle.std.specs.Prelude.{if◌then◌else◌, ◌&&◌, not, nat_eq, slice_get, option_map}
use Rattle.std.proofs.lemmas.Bool.Decides.{nat_tests}
use Rattle.go_tokens.specs.Tokens.{TokenList, kinds}
use Rattle.go_grammar.specs.declared.kind.Category.TheVariants as category
use Rattle.go_grammar.specs.Trees.{Tree, node, none, more, skip, first, last, parts}
use Rattle.go_tree.specs.declared.context.Block.{Block}
use Rattle.go_tree.specs.declared.context.Block.TheVariants as block
use Rattle.go_tree.specs.declared.context.Manner.TheVariants as manner
use Rattle.go_tree.specs.declared.event.Declaration.{Declaration}
use Rattle.go_tree.specs.declared.event.Event.{Event}
use Rattle.go_tree.specs.declared.event.Event.TheVariants as event
use Rattle.go_tree.specs.Contexts.{is_package, file_context}
use Rattle.go_tree.specs.Declarations.{Found, found, found_in, found_from, is_function, may_be_reused, is_reused, is_new, new_among, declarations}
use Rattle.go_tree.specs.Lists.{functions}
use Rattle.go_tree.specs.Meanings.{Numbers, first_numbers, behind_shared}
use Rattle.go_tree.specs.Units.{word, is_blank, bytes_at}
use Rattle.go_tree.specs.Uses.{declared_by, declared_in_package}
use Rattle.go_tree.specs.Views.{behind_first}
use Rattle.go_scopes_events.specs.Functions.{functions_told, name_of}
use Rattle.go_scopes_events.specs.Orders.{AreInOrder, EachDeclared}
use Rattle.go_scopes_events.proofs.Public.{derives_laid, events_order, file_told, true_false}
use Rattle.go_heads.specs.Functions.{Function, AreRead, all_functions, function_alone}
use Rattle.go_heads.specs.Heads.{File, IsRead, in_bodies}
use Rattle.go_heads.specs.Locals.{HaveNames, AreNamed}
use Rattle.go_heads.specs.Objects.{units_of}
use Rattle.go_heads.specs.Told.{file_events}
use Rattle.go_heads.specs.Tokens.{function_files}
use Rattle.go_heads.proofs.Public.{Every, every_append, every_map, every_new, some_none, same_some, entry, Other, AllStand, NamesIn, file_stands, ordered_names, found_append, new_append, read_at, file_sat, OthersSit, IsHeaded, file_headed, each_left, function_it, Begins, begins, in_order, behind_entries, Lies}
use Rattle.go_heads.proofs.Public as heads
use Rattle.go_scopes_bodies.specs.Meant.{outer_of, own_object, in_package, MeansAt}
use Rattle.go_scopes_bodies.proofs.Rules.{told_in}
use Rattle.go_scopes_bodies.proofs.Tokens as tokens

-- ---- functions among declarations

abbrev functions_among : List Found → ℕ
functions_among [] = 0
functions_among (d ∷ ds) = if is_package d.it.block && is_function d.it.entity then suc (functions_among ds) else functions_among ds

among_append : (xs ys : List Found) → functions_among (xs ++ ys) ≡ functions_among xs + functions_among ys
among_append [] ys = omega arith
among_append (d ∷ xs) ys = by (is_package d.it.block && is_function d.it.entity) (among_append xs ys)
  where
    by : (b : Bool) → functions_among (xs ++ ys) ≡ functions_among xs + functions_among ys → (if b then suc (functions_among (xs ++ ys)) else functions_among (xs ++ ys)) ≡ (if b then suc (functions_among xs) else functions_among xs) + functions_among ys
    by true e = omega (arith, e)
    by false e = e

behind_functions : (fs : List File) (k : Numbers) (ds : List Found) → (behind_entries k (map (entry fs) (declared_in_package ds))).functions ≡ k.functions + functions_among ds
behind_functions fs k [] = omega arith
behind_functions fs k (d ∷ ds) = by d.it.block (λ j. behind_functions fs j ds)
  where
    one : (b : Bool) → (behind_entries (behind_shared k b) (map (entry fs) (declared_in_package ds))).functions ≡ (behind_shared k b).functions + functions_among ds
        → (behind_entries (behind_shared k b) (map (entry fs) (declared_in_package ds))).functions ≡ k.functions + (if b then suc (functions_among ds) else functions_among ds)
    one true e = omega (arith, e)
    one false e = e

    by : (b : Block) → ((j : Numbers) → (behind_entries j (map (entry fs) (declared_in_package ds))).functions ≡ j.functions + functions_among ds)
        → (behind_entries k (map (entry fs) (if is_package b then declared_by d ∷ declared_in_package ds else declared_in_package ds))).functions ≡ k.functions + (if is_package b && is_function d.it.entity then suc (functions_among ds) else functions_among ds)
    by block.Package g = one (is_function d.it.entity) (g (behind_shared k (is_function d.it.entity)))
    by (block.Local i) g = g k

-- ---- functions that a list of events tells

-- a function has a name, and stands before no `:=`
abbrev IsKept : TokenList → Declaration → Type 0
IsKept l d = (is_package d.block && is_function d.entity) ≡ true → (is_blank (word l d.name) ≡ false) × (d.manner ≡ manner.Declared)

abbrev found_at : ℕ → TokenList → Declaration → Found
found_at n l d = record { file = n; name = word l d.name; place = bytes_at n l d.name; it = d }

new_named : (all : List Found) (n : ℕ) (l : TokenList) (d : Declaration) → is_blank (word l d.name) ≡ false → d.manner ≡ manner.Declared → is_new all (found_at n l d) ≡ true
new_named all n l d e m =
    ap (λ x. not (is_blank (word l d.name)) && not (may_be_reused x && is_reused (found_at n l d) all)) m ∙ ap (λ x. not x && true) e

module _ (all : List Found) (n : ℕ) (l : TokenList) (d : Declaration) (rest : List Found) (told : List ℕ) where
  abbrev x : Found
  x = found_at n l d

  either_way : (c : Bool) → (is_package d.block && is_function d.entity) ≡ false → functions_among (if c then x ∷ rest else rest) ≡ functions_among rest
  either_way true e = ap (λ b. if b then suc (functions_among rest) else functions_among rest) e
  either_way false e = refl

  one_counted : (b : Bool) → (is_package d.block && is_function d.entity) ≡ b → IsKept l d → functions_among rest ≡ length told
      → functions_among (if is_new all x then x ∷ rest else rest) ≡ length (if is_package d.block && is_function d.entity then d.name ∷ told else told)
  one_counted true e h g =
      let k = h e in
      ap (λ c. functions_among (if c then x ∷ rest else rest)) (new_named all n l d k.0 k.1)
      ∙ ap (λ c. if c then suc (functions_among rest) else functions_among rest) e
      ∙ ap suc g
      ∙ sym (ap (λ c. length (if c then d.name ∷ told else told)) e)
  one_counted false e h g = either_way (is_new all x) e ∙ g ∙ sym (ap (λ c. length (if c then d.name ∷ told else told)) e)

told_counted : (all : List Found) (n : ℕ) (l : TokenList) (es : List Event) → EachDeclared (IsKept l) es → functions_among (new_among all (found_in n l es)) ≡ length (functions_told es)
told_counted all n l [] h = refl
told_counted all n l (event.Declaration d ∷ es) h = one_counted all n l d (new_among all (found_in n l es)) (functions_told es) (is_package d.block && is_function d.entity) refl h.0 (told_counted all n l es h.1)
told_counted all n l (event.Use u ∷ es) h = told_counted all n l es h
told_counted all n l (event.Import i ∷ es) h = told_counted all n l es h
told_counted all n l (event.Member k g i ∷ es) h = told_counted all n l es h
told_counted all n l (event.Bodiless i j ∷ es) h = told_counted all n l es h
told_counted all n l (event.Statement i j ∷ es) h = told_counted all n l es h
told_counted all n l (event.Misplaced i j ∷ es) h = told_counted all n l es h
told_counted all n l (event.SecondDefault i ∷ es) h = told_counted all n l es h

told_append : (xs ys : List Event) → functions_told (xs ++ ys) ≡ functions_told xs ++ functions_told ys
told_append [] ys = refl
told_append (event.Declaration d ∷ xs) ys = by (is_package d.block && is_function d.entity) (told_append xs ys)
  where
    by : (b : Bool) → functions_told (xs ++ ys) ≡ functions_told xs ++ functions_told ys → (if b then d.name ∷ functions_told (xs ++ ys) else functions_told (xs ++ ys)) ≡ (if b then d.name ∷ functions_told xs else functions_told xs) ++ functions_told ys
    by true e = ap (λ zs. d.name ∷ zs) e
    by false e = e
told_append (e ∷ xs) ys = told_append xs ys

told_names : (lo hi : ℕ) (es : List Event) → NamesIn lo hi es → Every (λ y. (lo ≤ y) × (y < hi)) (functions_told es)
told_names lo hi [] h = tt
told_names lo hi (event.Declaration d ∷ es) h = by (is_package d.block && is_function d.entity) (told_names lo hi es h.2)
  where
    by : (b : Bool) → Every (λ y. (lo ≤ y) × (y < hi)) (functions_told es) → Every (λ y. (lo ≤ y) × (y < hi)) (if b then d.name ∷ functions_told es else functions_told es)
    by true g = ((h.0, h.1), g)
    by false g = g
told_names lo hi (event.Use u ∷ es) h = told_names lo hi es h.2
told_names lo hi (e ∷ es) h = told_names lo hi es h

both_left : (a b : Bool) → (a && b) ≡ true → a ≡ true
both_left true b e = refl
both_left false b e = cc

told_kept : (l : TokenList) (es : List Event) → Every (λ y. is_blank (word l y) ≡ false) (functions_told es) → EachDeclared (λ d. is_package d.block ≡ true → d.manner ≡ manner.Declared) es → EachDeclared (IsKept l) es
told_kept l [] h m = tt
told_kept l (event.Declaration d ∷ es) h m = let x = by (is_package d.block && is_function d.entity) refl h in (x.0, told_kept l es x.1 m.1)
  where
    by : (b : Bool) → (is_package d.block && is_function d.entity) ≡ b → Every (λ y. is_blank (word l y) ≡ false) (if b then d.name ∷ functions_told es else functions_told es)
        → IsKept l d × Every (λ y. is_blank (word l y) ≡ false) (functions_told es)
    by true e g = (λ f. (g.0, m.0 (both_left (is_package d.block) (is_function d.entity) f)), g.1)
    by false e g = (λ f. absurd (true_false (is_package d.block && is_function d.entity) f e), g)
told_kept l (event.Use u ∷ es) h m = told_kept l es h m
told_kept l (event.Import i ∷ es) h m = told_kept l es h m
told_kept l (event.Member k g i ∷ es) h m = told_kept l es h m
told_kept l (event.Bodiless i j ∷ es) h m = told_kept l es h m
told_kept l (event.Statement i j ∷ es) h m = told_kept l es h m
told_kept l (event.Misplaced i j ∷ es) h m = told_kept l es h m
told_kept l (event.SecondDefault i ∷ es) h m = told_kept l es h m

-- ---- a file

names_blank : (l : TokenList) (ts : List Tree) → HaveNames l ts → Every (λ y. is_blank (word l y) ≡ false) (map name_of ts)
names_blank l [] h = tt
names_blank l (t ∷ ts) h = (h.0, names_blank l ts h.1)

many_names : (ts : List Tree) → length (map name_of ts) ≡ length ts
many_names [] = refl
many_names (t ∷ ts) = ap suc (many_names ts)

-- the first part of a file is no function
behind_imports : (f : File) → IsRead f → functions (behind_first (parts f.tree)) ≡ functions (parts f.tree)
behind_imports f r = by f.tree (file_sat (kinds f.tokens.tokens) f.tree r.tree)
  where
    by : (t : Tree) → OthersSit (kinds f.tokens.tokens) (in_bodies (parts t)) (parts t) → functions (behind_first (parts t)) ≡ functions (parts t)
    by (node k i j none) s = refl
    by (node k i j (skip ds)) s = refl
    by (node k i j (more d ds)) s = sym (ap (λ b. if b then d ∷ functions ds else functions ds) s.0)

module _ (f : File) (r : IsRead f) (named : HaveNames f.tokens (functions (parts f.tree))) where
  abbrev Headed : Declaration → Type 0
  Headed = IsHeaded (kinds f.tokens.tokens) (in_bodies (parts f.tree))

  each_manner : (es : List Event) → EachDeclared Headed es → EachDeclared (λ d. is_package d.block ≡ true → d.manner ≡ manner.Declared) es
  each_manner [] h = tt
  each_manner (event.Declaration d ∷ es) h = (λ e. (h.0 e).0, each_manner es h.1)
  each_manner (event.Use u ∷ es) h = each_manner es h
  each_manner (event.Import i ∷ es) h = each_manner es h
  each_manner (event.Member k o i ∷ es) h = each_manner es h
  each_manner (event.Bodiless i j ∷ es) h = each_manner es h
  each_manner (event.Statement i j ∷ es) h = each_manner es h
  each_manner (event.Misplaced i j ∷ es) h = each_manner es h
  each_manner (event.SecondDefault i ∷ es) h = each_manner es h

  told_in_order : functions_told (file_events f) ≡ map name_of (functions (parts f.tree))
  told_in_order = file_told (kinds f.tokens.tokens) f.tree r.tree ∙ ap (map name_of) (behind_imports f r)

  file_kept : EachDeclared (IsKept f.tokens) (file_events f)
  file_kept =
      told_kept f.tokens (file_events f) (subst (Every (λ y. is_blank (word f.tokens y) ≡ false)) (sym told_in_order) (names_blank f.tokens (functions (parts f.tree)) named))
      (each_manner (file_events f) (file_headed (kinds f.tokens.tokens) f.tree r.tree))

  -- as many functions are declared as there are
  file_counted : (all : List Found) (n : ℕ) → functions_among (new_among all (found_in n f.tokens (file_events f))) ≡ length (functions (parts f.tree))
  file_counted all n = told_counted all n f.tokens (file_events f) file_kept ∙ ap length told_in_order ∙ many_names (functions (parts f.tree))

order_grows : (i j : ℕ) (es : List Event) → AreInOrder i j es → i ≤ j
order_grows i j [] o = o
order_grows i j (event.Declaration d ∷ es) o = omega (arith, o.0, order_grows (suc d.name) j es o.1)
order_grows i j (event.Use u ∷ es) o = omega (arith, o.0, order_grows (suc u.name) j es o.1)
order_grows i j (e ∷ es) o = order_grows i j es o

-- ---- one number among others

no_number : (z i : ℕ) (ys : List ℕ) → Every (λ y. z < y) ys → slice_get ys i ≡ Some z → ⊥
no_number z i [] h e = some_none z (sym e)
no_number z zero (y ∷ ys) h e = let same : y ≡ z = same_some y z e in let lt : z < y = h.0 in absurd (omega (arith, same, lt))
no_number z (suc i) (y ∷ ys) h e = no_number z i ys h.1 e

number_place : (z i : ℕ) (xs ys : List ℕ) → Every (λ x. x < z) xs → Every (λ y. z < y) ys → slice_get (xs ++ (z ∷ ys)) i ≡ Some z → length xs ≡ i
number_place z zero [] ys h k e = refl
number_place z (suc i) [] ys h k e = absurd (no_number z i ys k e)
number_place z zero (x ∷ xs) ys h k e = let same : x ≡ z = same_some x z e in let lt : x < z = h.0 in absurd (omega (arith, same, lt))
number_place z (suc i) (x ∷ xs) ys h k e = ap suc (number_place z i xs ys h.1 k e)

name_there : (ts : List Tree) (i : ℕ) (t : Tree) → slice_get ts i ≡ Some t → slice_get (map name_of ts) i ≡ Some (suc (first t))
name_there [] i t e = absurd (some_none t (sym e))
name_there (u ∷ ts) zero t e = ap (λ (z : Tree). Some (suc (first z))) (same_some u t e)
name_there (u ∷ ts) (suc i) t e = name_there ts i t e

-- ---- functions in front of a declaration

-- the declaration of the token z of the file n
abbrev is_it : ℕ → ℕ → Found → Bool
is_it n z d = nat_eq n d.file && nat_eq z d.it.name

-- the functions in front of it
abbrev until : ℕ → ℕ → List Found → ℕ
until n z [] = 0
until n z (d ∷ ds) = if is_it n z d then 0 else (if is_package d.it.block && is_function d.it.entity then suc (until n z ds) else until n z ds)

until_past : (n z : ℕ) (xs ys : List Found) → Every (λ d. is_it n z d ≡ false) xs → until n z (xs ++ ys) ≡ functions_among xs + until n z ys
until_past n z [] ys h = omega arith
until_past n z (d ∷ xs) ys h =
    ap (λ b. if b then 0 else (if is_package d.it.block && is_function d.it.entity then suc (until n z (xs ++ ys)) else until n z (xs ++ ys))) h.0
    ∙ by (is_package d.it.block && is_function d.it.entity) (until_past n z xs ys h.1)
  where
    by : (b : Bool) → until n z (xs ++ ys) ≡ functions_among xs + until n z ys → (if b then suc (until n z (xs ++ ys)) else until n z (xs ++ ys)) ≡ (if b then suc (functions_among xs) else functions_among xs) + until n z ys
    by true e = omega (arith, e)
    by false e = e

second_false : (a b : Bool) → b ≡ false → (a && b) ≡ false
second_false true b e = e
second_false false b e = refl

unlike : (x y : ℕ) → y < x → nat_eq x y ≡ false
unlike x y lt = grind (arith, nat_tests)

unlike_too : (x y : ℕ) → x < y → nat_eq x y ≡ false
unlike_too x y lt = grind (arith, nat_tests)

itself : (n z : ℕ) → (nat_eq n n && nat_eq z z) ≡ true
itself n z = grind (arith, nat_tests)

other_past : (n z : ℕ) (ds : List Found) → Every (Other n) ds → Every (λ d. is_it n z d ≡ false) ds
other_past n z [] h = tt
other_past n z (d ∷ ds) h = (ap (λ b. b && nat_eq z d.it.name) h.0, other_past n z ds h.1)

file_past : (n z k : ℕ) (l : TokenList) (es : List Event) → nat_eq n k ≡ false → Every (λ d. is_it n z d ≡ false) (found_in k l es)
file_past n z k l [] e = tt
file_past n z k l (event.Declaration d ∷ es) e = (ap (λ b. b && nat_eq z d.name) e, file_past n z k l es e)
file_past n z k l (event.Use u ∷ es) e = file_past n z k l es e
file_past n z k l (event.Import i ∷ es) e = file_past n z k l es e
file_past n z k l (event.Member m o i ∷ es) e = file_past n z k l es e
file_past n z k l (event.Bodiless i j ∷ es) e = file_past n z k l es e
file_past n z k l (event.Statement i j ∷ es) e = file_past n z k l es e
file_past n z k l (event.Misplaced i j ∷ es) e = file_past n z k l es e
file_past n z k l (event.SecondDefault i ∷ es) e = file_past n z k l es e

front_past : (n z hi : ℕ) (l : TokenList) (es : List Event) → hi ≤ z → NamesIn 0 hi es → Every (λ d. is_it n z d ≡ false) (found_in n l es)
front_past n z hi l [] le h = tt
front_past n z hi l (event.Declaration d ∷ es) le h = (second_false (nat_eq n n) (nat_eq z d.name) (unlike z d.name (let lt : d.name < hi = h.1 in omega (arith, le, lt))), front_past n z hi l es le h.2)
front_past n z hi l (event.Use u ∷ es) le h = front_past n z hi l es le h.2
front_past n z hi l (event.Import i ∷ es) le h = front_past n z hi l es le h
front_past n z hi l (event.Member m o i ∷ es) le h = front_past n z hi l es le h
front_past n z hi l (event.Bodiless i j ∷ es) le h = front_past n z hi l es le h
front_past n z hi l (event.Statement i j ∷ es) le h = front_past n z hi l es le h
front_past n z hi l (event.Misplaced i j ∷ es) le h = front_past n z hi l es le h
front_past n z hi l (event.SecondDefault i ∷ es) le h = front_past n z hi l es le h

-- ---- a function

-- how many functions the files in front of the one of this number have
abbrev functions_before : ℕ → List File → ℕ
functions_before zero fs = 0
functions_before (suc i) [] = 0
functions_before (suc i) (f ∷ fs) = length (functions (parts f.tree)) + functions_before i fs

module _ (fs : List File) (h : AreRead fs) (n : ℕ) (f : Function) (lies : Lies fs n f) where
  abbrev t : Tree
  t = f.tree

  abbrev a : ℕ
  a = first f.tree

  abbrev z : ℕ
  z = suc (first f.tree)

  abbrev l : TokenList
  l = f.file.tokens

  abbrev all : List Found
  all = found (units_of fs)

  abbrev told : List Event
  told = told_in f.file f.tree

  read : IsRead f.file
  read = read_at fs h n f.file lies.there

  begun : Begins t told
  begun = begins t (last f.file.tree) lies.stands.function (in_order n f.file read t lies.stands)

  -- what it declares begins with itself
  starts : (rest : List Found) → until n z (new_among all (found_in n l told) ++ rest) ≡ 0
  starts rest =
      ap (λ es. until n z (new_among all (found_in n l es) ++ rest)) begun.whole
      ∙ ap (λ b. until n z ((if b then found_at n l (function_it t) ∷ new_among all (found_in n l begun.others) else new_among all (found_in n l begun.others)) ++ rest)) (new_named all n l (function_it t) lies.named refl)
      ∙ ap (λ b. if b then 0 else suc (until n z (new_among all (found_in n l begun.others) ++ rest))) (itself n z)

  past_before : Every (λ d. is_it n z d ≡ false) (new_among all (heads.before fs n f.file read lies.there t lies.stands))
  past_before =
      every_new (λ d. is_it n z d ≡ false) all (heads.before fs n f.file read lies.there t lies.stands)
      (every_append (λ d. is_it n z d ≡ false) (heads.rest fs n f.file read lies.there t lies.stands).front (found_in n l lies.stands.before)
      (other_past n z (heads.rest fs n f.file read lies.there t lies.stands).front (heads.rest fs n f.file read lies.there t lies.stands).front_other)
      (front_past n z a l lies.stands.before (omega arith) lies.stands.names_before))

  -- the functions in front of it, by the declarations of the package
  counted : until n z (declarations (units_of fs)) ≡ functions_among (new_among all (heads.before fs n f.file read lies.there t lies.stands))
  counted =
      let before : List Found = heads.before fs n f.file read lies.there t lies.stands in
      let behind : List Found = heads.behind fs n f.file read lies.there t lies.stands in
      ap (λ ds. until n z (new_among all ds)) (heads.all_names fs n f.file read lies.there t lies.stands)
      ∙ ap (λ ds. until n z (new_among all (before ++ (ds ++ behind)))) (sym (heads.names_moved fs n f.file read lies.there t lies.stands))
      ∙ ap (until n z) (new_append all before (found_in n l told ++ behind))
      ∙ until_past n z (new_among all before) (new_among all (found_in n l told ++ behind)) past_before
      ∙ ap (λ ds. functions_among (new_among all before) + until n z ds) (new_append all (found_in n l told) behind)
      ∙ ap (λ k. functions_among (new_among all before) + k) (starts (new_among all behind))
      ∙ omega arith

  -- its number in its file
  module _ (named : HaveNames f.file.tokens (functions (parts f.file.tree))) (i : ℕ) (there : slice_get (functions (parts f.file.tree)) i ≡ Some f.tree) where
    names_of_told : functions_told (file_events f.file) ≡ functions_told lies.stands.before ++ (z ∷ (functions_told begun.others ++ functions_told lies.stands.behind))
    names_of_told =
        ap functions_told lies.stands.whole
        ∙ told_append lies.stands.before (told ++ lies.stands.behind)
        ∙ ap (λ ys. functions_told lies.stands.before ++ ys) (told_append told lies.stands.behind ∙ ap (λ es. functions_told es ++ functions_told lies.stands.behind) begun.whole)

    order : AreInOrder a (last t) (event.Declaration (function_it t) ∷ begun.others)
    order = subst (AreInOrder a (last t)) begun.whole (events_order (file_context (last f.file.tree)) t (derives_laid (kinds l.tokens) t category.Declaration lies.stands.sits.derives))

    later : Every (λ y. z < y) (functions_told begun.others ++ functions_told lies.stands.behind)
    later =
        let lt : a < last t = in_order n f.file read t lies.stands in
        every_append (λ y. z < y) (functions_told begun.others) (functions_told lies.stands.behind)
        (every_map (λ y. (suc z ≤ y) × (y < last t)) (λ y. z < y) (functions_told begun.others) (λ y k. let le : suc z ≤ y = k.0 in omega (arith, le))
        (told_names (suc z) (last t) begun.others (ordered_names (suc z) (suc z) (last t) begun.others (omega arith) order.1)))
        (every_map (λ y. (last t ≤ y) × (y < last f.file.tree)) (λ y. z < y) (functions_told lies.stands.behind)
        (λ y k. let le : last t ≤ y = k.0 in let wide : suc z ≤ last t = order_grows (suc z) (last t) begun.others order.1 in omega (arith, le, wide)) (told_names (last t) (last f.file.tree) lies.stands.behind lies.stands.names_behind))

    position : length (functions_told lies.stands.before) ≡ i
    position =
        number_place z i (functions_told lies.stands.before) (functions_told begun.others ++ functions_told lies.stands.behind)
        (every_map (λ y. (0 ≤ y) × (y < a)) (λ y. y < z) (functions_told lies.stands.before) (λ y k. let lt : y < a = k.1 in omega (arith, lt)) (told_names 0 a lies.stands.before lies.stands.names_before))
        later
        (ap (λ ys. slice_get ys i) (sym names_of_told ∙ told_in_order f.file read named) ∙ name_there (functions (parts f.file.tree)) i f.tree there)

    front_counted : functions_among (new_among all (found_in n l lies.stands.before)) ≡ i
    front_counted =
        told_counted all n l lies.stands.before
        (each_left (IsKept l) lies.stands.before (told ++ lies.stands.behind) (subst (EachDeclared (IsKept l)) lies.stands.whole (file_kept f.file read named)))
        ∙ position

    here_counted : (rest : List Found) → until n z (new_among all (found_in n l (file_events f.file)) ++ rest) ≡ i
    here_counted rest =
        let before : List Found = new_among all (found_in n l lies.stands.before) in
        let mine : List Found = new_among all (found_in n l told) in
        let behind : List Found = new_among all (found_in n l lies.stands.behind) in
        ap (λ es. until n z (new_among all (found_in n l es) ++ rest)) lies.stands.whole
        ∙ ap (λ ds. until n z (new_among all ds ++ rest)) (found_append n l lies.stands.before (told ++ lies.stands.behind))
        ∙ ap (λ ds. until n z (ds ++ rest)) (new_append all (found_in n l lies.stands.before) (found_in n l (told ++ lies.stands.behind)))
        ∙ ap (until n z) (append_assoc before (new_among all (found_in n l (told ++ lies.stands.behind))) rest)
        ∙ until_past n z before (new_among all (found_in n l (told ++ lies.stands.behind)) ++ rest)
        (every_new (λ d. is_it n z d ≡ false) all (found_in n l lies.stands.before) (front_past n z a l lies.stands.before (omega arith) lies.stands.names_before))
        ∙ ap (λ ds. functions_among before + until n z (new_among all ds ++ rest)) (found_append n l told lies.stands.behind)
        ∙ ap (λ ds. functions_among before + until n z (ds ++ rest)) (new_append all (found_in n l told) (found_in n l lies.stands.behind))
        ∙ ap (λ ds. functions_among before + until n z ds) (append_assoc mine behind rest)
        ∙ ap (λ k. functions_among before + k) (starts (behind ++ rest))
        ∙ (let e : functions_among before ≡ i = front_counted in omega (arith, e))

    files_counted : (j k : ℕ) (gs : List File) → n ≡ j + k → slice_get gs k ≡ Some f.file → AreRead gs → AreNamed gs → until n z (new_among all (found_from j (units_of gs))) ≡ functions_before k gs + i
    files_counted j k [] e there r g = absurd (some_none f.file (sym there))
    files_counted j zero (x ∷ gs) e there r g =
        let same : j ≡ n = omega (arith, e) in
        ap (until n z) (new_append all (found_in j x.tokens (file_events x)) (found_from (suc j) (units_of gs)))
        ∙ ap (λ (y : File). until n z (new_among all (found_in j y.tokens (file_events y)) ++ new_among all (found_from (suc j) (units_of gs)))) (same_some x f.file there)
        ∙ ap (λ m. until n z (new_among all (found_in m l (file_events f.file)) ++ new_among all (found_from (suc j) (units_of gs)))) same
        ∙ here_counted (new_among all (found_from (suc j) (units_of gs)))
        ∙ omega arith
    files_counted j (suc k) (x ∷ gs) e there r g =
        let here : List Found = found_in j x.tokens (file_events x) in
        let rest : List Found = found_from (suc j) (units_of gs) in
        let mine : functions_among (new_among all here) ≡ length (functions (parts x.tree)) = file_counted x r.0 g.0 all j in
        let others : until n z (new_among all rest) ≡ functions_before k gs + i = files_counted (suc j) k gs (omega (arith, e)) there r.1 g.1 in
        ap (until n z) (new_append all here rest)
        ∙ until_past n z (new_among all here) (new_among all rest) (every_new (λ d. is_it n z d ≡ false) all here (file_past n z j x.tokens (file_events x) (unlike n j (omega (arith, e)))))
        ∙ omega (arith, mine, others)

    pub number_there : AreNamed fs → tokens.k fs h n f lies ≡ functions_before n fs + i
    number_there g =
        behind_functions fs first_numbers (new_among all (heads.before fs n f.file read lies.there t lies.stands))
        ∙ (let same : functions_among (new_among all (heads.before fs n f.file read lies.there t lies.stands)) ≡ until n z (declarations (units_of fs)) = sym counted in
        let there : until n z (declarations (units_of fs)) ≡ functions_before n fs + i = files_counted 0 n fs (omega arith) lies.there h g in
        omega (arith, same, there))

-- ---- by number

-- The function of a number lies in the file of its number, which is among these, and has so many functions in front.
record IsNumbered (all : List File) (n : ℕ) (fs : List File) (number k : ℕ) (f : Function) (ns : List ℕ) : Type 0 where
  file : ℕ
  there : slice_get ns k ≡ Some file
  lies : Lies all file f
  index : ℕ
  is : file ≡ n + index
  named : HaveNames f.file.tokens (functions (parts f.file.tree))
  position : ℕ
  stands : slice_get (functions (parts f.file.tree)) position ≡ Some f.tree
  counted : number ≡ functions_before index fs + position

module _ (all : List File) where
  abbrev AllNumbered : ℕ → List File → ℕ → List Function → List ℕ → Type 0
  AllNumbered n fs o gs ns = (k : ℕ) (g : Function) → slice_get gs k ≡ Some g → IsNumbered all n fs (o + k) k g ns

  module _ (n : ℕ) (f : File) (fs : List File) (in_all : slice_get all n ≡ Some f) (names : HaveNames f.tokens (functions (parts f.tree))) where
    abbrev in_f : Tree → Function
    in_f t = record { file = f; tree = t }

    in_file_at : (o : ℕ) (ts : List Tree) → ((i : ℕ) → slice_get (functions (parts f.tree)) (o + i) ≡ slice_get ts i) → o + length ts ≡ length (functions (parts f.tree))
        → AllStand (kinds f.tokens.tokens) (in_bodies (parts f.tree)) (last f.tree) (file_events f) ts → HaveNames f.tokens ts
        → (gs : List Function) (ns : List ℕ) → AllNumbered (suc n) fs 0 gs ns → AllNumbered n (f ∷ fs) o (map in_f ts ++ gs) (map (λ (t : Tree). n) ts ++ ns)
    in_file_at o [] at many x y gs ns go k g e =
        let r = go k g e in
        let count : 0 + k ≡ functions_before r.index fs + r.position = r.counted in
        let step : r.file ≡ suc n + r.index = r.is in
        record {
          file = r.file;
          there = r.there;
          lies = r.lies;
          index = suc r.index;
          is = omega (arith, step);
          named = r.named;
          position = r.position;
          stands = r.stands;
          counted = omega (arith, count, many);
        }
    in_file_at o (t ∷ ts) at many x y gs ns go zero g e =
        subst (λ w. IsNumbered all n (f ∷ fs) (o + 0) 0 w (n ∷ (map (λ (t : Tree). n) ts ++ ns))) (same_some (in_f t) g e)
        (record {
          file = n;
          there = refl;
          lies = record { there = in_all; stands = x.0; named = y.0 };
          index = 0;
          is = omega arith;
          named = names;
          position = o + 0;
          stands = at 0;
          counted = omega arith;
        })
    in_file_at o (t ∷ ts) at many x y gs ns go (suc k) g e =
        let next : (i : ℕ) → suc o + i ≡ o + suc i = λ i. omega arith in
        let r = in_file_at (suc o) ts (λ i. ap (slice_get (functions (parts f.tree))) (next i) ∙ at (suc i)) (omega (arith, many)) x.1 y.1 gs ns go k g e in
        let count : suc o + k ≡ functions_before r.index (f ∷ fs) + r.position = r.counted in
        record { file = r.file; there = r.there; lies = r.lies; index = r.index; is = r.is; named = r.named; position = r.position; stands = r.stands; counted = omega (arith, count) }

  numbered_from : (n : ℕ) (fs : List File) → ((k : ℕ) → slice_get all (n + k) ≡ slice_get fs k) → AreRead fs → AreNamed fs → AllNumbered n fs 0 (all_functions fs) (function_files n fs)
  numbered_from n [] there h p k g e = absurd (some_none g (sym e))
  numbered_from n (f ∷ fs) there h p k g e =
      let z : n ≡ n + 0 = omega arith in
      let next : (i : ℕ) → suc n + i ≡ n + suc i = λ i. omega arith in
      let start : (i : ℕ) → 0 + i ≡ i = λ i. omega arith in
      in_file_at n f fs (ap (slice_get all) z ∙ there 0) p.0 0 (functions (parts f.tree)) (λ i. ap (slice_get (functions (parts f.tree))) (start i)) (omega arith)
      (file_stands (kinds f.tokens.tokens) f.tree h.0.tree) p.0 (all_functions fs) (function_files (suc n) fs)
      (numbered_from (suc n) fs (λ i. ap (slice_get all) (next i) ∙ there (suc i)) h.1 p.1) k g e

pub tokens_mean_by_themselves : (fs : List File) → AreRead fs → AreNamed fs → (k : ℕ) (f : Function) → slice_get (all_functions fs) k ≡ Some f → MeansAt fs k f
tokens_mean_by_themselves fs h p k f e =
    let r = numbered_from fs 0 fs (λ j. let z : 0 + j ≡ j = omega arith in ap (slice_get fs) z) h p k f e in
    let count : 0 + k ≡ functions_before r.index fs + r.position = r.counted in
    let first : r.file ≡ 0 + r.index = r.is in
    let same : r.index ≡ r.file = omega (arith, first) in
    let there : tokens.k fs h r.file f r.lies ≡ functions_before r.file fs + r.position = number_there fs h r.file f r.lies r.named r.position r.stands p in
    let number : tokens.k fs h r.file f r.lies ≡ k = there ∙ ap (λ i. functions_before i fs + r.position) (sym same) ∙ omega (arith, count) in
    record {
      file = r.file;
      there = r.there;
      objects_before = tokens.s fs h r.file f r.lies;
      objects = λ x lt. tokens.object_same fs h r.file f r.lies x lt ∙ ap (λ i. option_map (in_package (tokens.s fs h r.file f r.lies) i) (own_object (function_alone f) (outer_of (units_of fs) r.file) x)) number;
    }
