-- The declarations of a function with runs replaced are those of the old one, row by row.
use Rattle.std.proofs.Common.{◌≡◌, ◌∙◌, ℕ, suc, ◌+◌, ◌<◌, ◌≤◌, ◌⊎◌, inl, inr, Bool, true, false, List, [], ◌∷◌, ◌++◌, length, map, refl, sym, ap, subst, arith}
use Rattle.std.specs.Prelude.{if◌then◌else◌, ◌&&◌, ◌||◌, not, nat_eq, nat_lt}
use Rattle.go_tokens.specs.Spellings.{same_text}
use Rattle.go_rewriting.specs.Places.{become}
use Rattle.go_tree.specs.declared.context.Block.{Block}
use Rattle.go_tree.specs.declared.context.Block.TheVariants as block
use Rattle.go_tree.specs.declared.context.Manner.{Manner}
use Rattle.go_tree.specs.declared.context.Manner.TheVariants as manner
use Rattle.go_tree.specs.declared.event.Declaration.{Declaration}
use Rattle.go_tree.specs.declared.event.Event.{Event}
use Rattle.go_tree.specs.declared.event.Event.TheVariants as event
use Rattle.go_tree.specs.Contexts.{is_package, file_context}
use Rattle.go_tree.specs.Declarations.{Found, are_one_block, same_block, is_variable, is_reused_of, is_reused, may_be_reused, is_new, new_among}
use Rattle.go_tree.specs.Events as trees
use Rattle.go_tree.specs.Failures.{place_if}
use Rattle.go_tree.specs.Redeclared.{clashes, has_clash, second_declarations}
use Rattle.go_tree.specs.Units.{is_blank}
use Rattle.go_scopes_events.specs.Orders.{AreInOrder}
use Rattle.go_heads.specs.Bodies.{function_events}
use Rattle.go_heads.specs.Functions.{Alone}
use Rattle.go_heads.specs.Names.{text_there, own_text, no_place, found_by, own_names, own_declarations}
use Rattle.go_heads.proofs.Public.{Every, every_new, new_append}
use Rattle.go_scopes_bodies.specs.Carried.{carried_block, carried_declaration, carried_event}
use Rattle.go_scopes_bodies.specs.Faults.{own_second_declarations}
use Rattle.go_scopes_bodies.specs.Meant.{Outer}
use Rattle.extract_names.specs.Gaps.{Redeclared, Gap, moved_by, Among, IsInRun, AreApart, AtEdge, BlockAtEdge}
use Rattle.extract_names.specs.Pieces.{Piece, stays, gap, told_before, told_behind, pieces, TellsPieces}
use Rattle.extract_names.specs.Sites.{found_as, EachEvent, DeclarationStays, EventStays, DeclarationGoes, EventGoes, RunGoes, DeclaresAgain, EventIsNew, IsDeclared, GapTells, AllStand, DeclaredAgainIn, IsSite}
use Rattle.extract_names.proofs.Edges.{rises, upto_moved, low_moved, stays_edge, placed, same_lt, same_eq, mono, back, is_lt, lt_true}
use Rattle.extract_names.proofs.Founds.{RiseFrom, rise_new, rise_found, rise_lower, files_found}
use Rattle.extract_names.proofs.Rows.{both_true, and_true, ClashFree, Row, same, other, old_row, new_row, placed_at, Again, GapStands, RowsStand}

-- ---- lists

pub among_left : {A : Type 0} (x : A) (xs ys : List A) → Among x xs → Among x (xs ++ ys)
among_left x [] ys k = absurd k
among_left x (z ∷ xs) ys (inl e) = inl e
among_left x (z ∷ xs) ys (inr k) = inr (among_left x xs ys k)

pub among_right : {A : Type 0} (x : A) (xs ys : List A) → Among x ys → Among x (xs ++ ys)
among_right x [] ys k = k
among_right x (z ∷ xs) ys k = inr (among_right x xs ys k)

pub among_split : {A : Type 0} (x : A) (xs ys : List A) → Among x (xs ++ ys) → Among x xs ⊎ Among x ys
among_split x [] ys k = inr k
among_split x (z ∷ xs) ys (inl e) = inl (inl e)
among_split x (z ∷ xs) ys (inr k) = by (among_split x xs ys k)
  where
    by : Among x xs ⊎ Among x ys → Among x (z ∷ xs) ⊎ Among x ys
    by (inl k) = inl (inr k)
    by (inr k) = inr k

pub each_among : (Q : Event → Type 0) (e : Event) (es : List Event) → EachEvent Q es → Among e es → Q e
each_among Q e [] h k = absurd k
each_among Q e (f ∷ es) h (inl q) = subst Q (sym q) h.0
each_among Q e (f ∷ es) h (inr k) = each_among Q e es h.1 k

pub found_append : (w : ℕ → List ℕ) (es fs : List Event) → found_by w (es ++ fs) ≡ found_by w es ++ found_by w fs
found_append w [] fs = refl
found_append w (event.Declaration d ∷ es) fs = ap (λ xs. record { file = 0; name = w d.name; place = no_place; it = d } ∷ xs) (found_append w es fs)
found_append w (event.Use u ∷ es) fs = found_append w es fs
found_append w (event.Import k ∷ es) fs = found_append w es fs
found_append w (event.Member m g k ∷ es) fs = found_append w es fs
found_append w (event.Bodiless k l ∷ es) fs = found_append w es fs
found_append w (event.Statement k l ∷ es) fs = found_append w es fs
found_append w (event.Misplaced k l ∷ es) fs = found_append w es fs
found_append w (event.SecondDefault k ∷ es) fs = found_append w es fs

-- what holds of each declaration holds of what is found
pub found_event : (w : ℕ → List ℕ) (Q : Event → Type 0) (R : Declaration → Type 0) (es : List Event) → ((d : Declaration) → Q (event.Declaration d) → R d) → EachEvent Q es → Every (λ d. R d.it) (found_by w es)
found_event w Q R [] f h = tt
found_event w Q R (event.Declaration d ∷ es) f h = (f d h.0, found_event w Q R es f h.1)
found_event w Q R (event.Use u ∷ es) f h = found_event w Q R es f h.1
found_event w Q R (event.Import k ∷ es) f h = found_event w Q R es f h.1
found_event w Q R (event.Member m g k ∷ es) f h = found_event w Q R es f h.1
found_event w Q R (event.Bodiless k l ∷ es) f h = found_event w Q R es f h.1
found_event w Q R (event.Statement k l ∷ es) f h = found_event w Q R es f h.1
found_event w Q R (event.Misplaced k l ∷ es) f h = found_event w Q R es f h.1
found_event w Q R (event.SecondDefault k ∷ es) f h = found_event w Q R es f h.1

-- a declaration as the texts of tokens tell it
abbrev pub as_found : (ℕ → List ℕ) → Declaration → Found
as_found w d = record { file = 0; name = w d.name; place = no_place; it = d }

pub among_found : (w : ℕ → List ℕ) (d : Declaration) (es : List Event) → Among (event.Declaration d) es → Among (as_found w d) (found_by w es)
among_found w d [] k = absurd k
among_found w d (event.Declaration x ∷ es) (inl e) = inl (let q : d ≡ x = cc in ap (as_found w) q)
among_found w d (event.Declaration x ∷ es) (inr k) = inr (among_found w d es k)
among_found w d (event.Use u ∷ es) (inl e) = cc
among_found w d (event.Use u ∷ es) (inr k) = among_found w d es k
among_found w d (event.Import i ∷ es) (inl e) = cc
among_found w d (event.Import i ∷ es) (inr k) = among_found w d es k
among_found w d (event.Member m g i ∷ es) (inl e) = cc
among_found w d (event.Member m g i ∷ es) (inr k) = among_found w d es k
among_found w d (event.Bodiless i j ∷ es) (inl e) = cc
among_found w d (event.Bodiless i j ∷ es) (inr k) = among_found w d es k
among_found w d (event.Statement i j ∷ es) (inl e) = cc
among_found w d (event.Statement i j ∷ es) (inr k) = among_found w d es k
among_found w d (event.Misplaced i j ∷ es) (inl e) = cc
among_found w d (event.Misplaced i j ∷ es) (inr k) = among_found w d es k
among_found w d (event.SecondDefault i ∷ es) (inl e) = cc
among_found w d (event.SecondDefault i ∷ es) (inr k) = among_found w d es k

pub found_among : (w : ℕ → List ℕ) (x : Found) (es : List Event) → Among x (found_by w es) → (d : Declaration) × Among (event.Declaration d) es × (x ≡ as_found w d)
found_among w x [] k = absurd k
found_among w x (event.Declaration d ∷ es) (inl e) = (d, inl refl, e)
found_among w x (event.Declaration d ∷ es) (inr k) = let y = found_among w x es k in (y.0, inr y.1, y.2)
found_among w x (event.Use u ∷ es) k = let y = found_among w x es k in (y.0, inr y.1, y.2)
found_among w x (event.Import i ∷ es) k = let y = found_among w x es k in (y.0, inr y.1, y.2)
found_among w x (event.Member m g i ∷ es) k = let y = found_among w x es k in (y.0, inr y.1, y.2)
found_among w x (event.Bodiless i j ∷ es) k = let y = found_among w x es k in (y.0, inr y.1, y.2)
found_among w x (event.Statement i j ∷ es) k = let y = found_among w x es k in (y.0, inr y.1, y.2)
found_among w x (event.Misplaced i j ∷ es) k = let y = found_among w x es k in (y.0, inr y.1, y.2)
found_among w x (event.SecondDefault i ∷ es) k = let y = found_among w x es k in (y.0, inr y.1, y.2)

pub among_new : (all : List Found) (x : Found) (ds : List Found) → is_new all x ≡ true → Among x ds → Among x (new_among all ds)
among_new all x [] n k = absurd k
among_new all x (d ∷ ds) n (inl e) = subst (λ b. Among x (if b then d ∷ new_among all ds else new_among all ds)) (sym (subst (λ z. is_new all z ≡ true) e n)) (inl e)
among_new all x (d ∷ ds) n (inr k) = by (is_new all d) (among_new all x ds n k)
  where
    by : (b : Bool) → Among x (new_among all ds) → Among x (if b then d ∷ new_among all ds else new_among all ds)
    by true k = inr k
    by false k = k

pub new_found : (all : List Found) (x : Found) (ds : List Found) → Among x (new_among all ds) → Among x ds
new_found all x [] k = absurd k
new_found all x (d ∷ ds) k = by (is_new all d) k (new_found all x ds)
  where
    by : (b : Bool) → Among x (if b then d ∷ new_among all ds else new_among all ds) → (Among x (new_among all ds) → Among x ds) → Among x (d ∷ ds)
    by true (inl e) go = inl e
    by true (inr k) go = inr (go k)
    by false k go = inr (go k)

-- names stand at tokens of their own
pub name_low : (i j : ℕ) (es : List Event) → AreInOrder i j es → (d : Declaration) → Among (event.Declaration d) es → i ≤ d.name
name_low i j [] h d k = absurd k
name_low i j (event.Declaration x ∷ es) h d (inl e) = let q : d.name ≡ x.name = cc in let le : i ≤ x.name = h.0 in omega (arith, q, le)
name_low i j (event.Declaration x ∷ es) h d (inr k) = let le : i ≤ x.name = h.0 in let lt : suc x.name ≤ d.name = name_low (suc x.name) j es h.1 d k in omega (arith, le, lt)
name_low i j (event.Use u ∷ es) h d (inl e) = cc
name_low i j (event.Use u ∷ es) h d (inr k) = let le : i ≤ u.name = h.0 in let lt : suc u.name ≤ d.name = name_low (suc u.name) j es h.1 d k in omega (arith, le, lt)
name_low i j (event.Import x ∷ es) h d (inl e) = cc
name_low i j (event.Import x ∷ es) h d (inr k) = name_low i j es h d k
name_low i j (event.Member m g x ∷ es) h d (inl e) = cc
name_low i j (event.Member m g x ∷ es) h d (inr k) = name_low i j es h d k
name_low i j (event.Bodiless x y ∷ es) h d (inl e) = cc
name_low i j (event.Bodiless x y ∷ es) h d (inr k) = name_low i j es h d k
name_low i j (event.Statement x y ∷ es) h d (inl e) = cc
name_low i j (event.Statement x y ∷ es) h d (inr k) = name_low i j es h d k
name_low i j (event.Misplaced x y ∷ es) h d (inl e) = cc
name_low i j (event.Misplaced x y ∷ es) h d (inr k) = name_low i j es h d k
name_low i j (event.SecondDefault x ∷ es) h d (inl e) = cc
name_low i j (event.SecondDefault x ∷ es) h d (inr k) = name_low i j es h d k

pub one_declaration : (i j : ℕ) (es : List Event) → AreInOrder i j es → (d e : Declaration) → Among (event.Declaration d) es → Among (event.Declaration e) es → d.name ≡ e.name → d ≡ e
one_declaration i j [] h d e k l q = absurd k
one_declaration i j (event.Declaration x ∷ es) h d e (inl a) (inl b) q = cc
one_declaration i j (event.Declaration x ∷ es) h d e (inl a) (inr l) q = absurd (let n : d.name ≡ x.name = cc in let lt : suc x.name ≤ e.name = name_low (suc x.name) j es h.1 e l in omega (arith, n, lt, q))
one_declaration i j (event.Declaration x ∷ es) h d e (inr k) (inl b) q = absurd (let n : e.name ≡ x.name = cc in let lt : suc x.name ≤ d.name = name_low (suc x.name) j es h.1 d k in omega (arith, n, lt, q))
one_declaration i j (event.Declaration x ∷ es) h d e (inr k) (inr l) q = one_declaration (suc x.name) j es h.1 d e k l q
one_declaration i j (event.Use u ∷ es) h d e (inr k) (inr l) q = one_declaration (suc u.name) j es h.1 d e k l q
one_declaration i j (event.Use u ∷ es) h d e (inl a) l q = cc
one_declaration i j (event.Use u ∷ es) h d e (inr k) (inl b) q = cc
one_declaration i j (event.Import x ∷ es) h d e (inr k) (inr l) q = one_declaration i j es h d e k l q
one_declaration i j (event.Import x ∷ es) h d e (inl a) l q = cc
one_declaration i j (event.Import x ∷ es) h d e (inr k) (inl b) q = cc
one_declaration i j (event.Member m g x ∷ es) h d e (inr k) (inr l) q = one_declaration i j es h d e k l q
one_declaration i j (event.Member m g x ∷ es) h d e (inl a) l q = cc
one_declaration i j (event.Member m g x ∷ es) h d e (inr k) (inl b) q = cc
one_declaration i j (event.Bodiless x y ∷ es) h d e (inr k) (inr l) q = one_declaration i j es h d e k l q
one_declaration i j (event.Bodiless x y ∷ es) h d e (inl a) l q = cc
one_declaration i j (event.Bodiless x y ∷ es) h d e (inr k) (inl b) q = cc
one_declaration i j (event.Statement x y ∷ es) h d e (inr k) (inr l) q = one_declaration i j es h d e k l q
one_declaration i j (event.Statement x y ∷ es) h d e (inl a) l q = cc
one_declaration i j (event.Statement x y ∷ es) h d e (inr k) (inl b) q = cc
one_declaration i j (event.Misplaced x y ∷ es) h d e (inr k) (inr l) q = one_declaration i j es h d e k l q
one_declaration i j (event.Misplaced x y ∷ es) h d e (inl a) l q = cc
one_declaration i j (event.Misplaced x y ∷ es) h d e (inr k) (inl b) q = cc
one_declaration i j (event.SecondDefault x ∷ es) h d e (inr k) (inr l) q = one_declaration i j es h d e k l q
one_declaration i j (event.SecondDefault x ∷ es) h d e (inl a) l q = cc
one_declaration i j (event.SecondDefault x ∷ es) h d e (inr k) (inl b) q = cc

-- ---- clashes

clash_off : (e d : Found) (ds : List Found) → has_clash e ds ≡ false → Among d ds → clashes e d ≡ false
clash_off e d [] h k = absurd k
clash_off e d (x ∷ ds) h k = by (clashes e x) refl h k (clash_off e d ds)
  where
    by : (b : Bool) → clashes e x ≡ b → (b || has_clash e ds) ≡ false → Among d (x ∷ ds) → (has_clash e ds ≡ false → Among d ds → clashes e d ≡ false) → clashes e d ≡ false
    by true q h k go = cc
    by false q h (inl p) go = subst (λ z. clashes e z ≡ false) (sym p) q
    by false q h (inr k) go = go h k

one_free : (d : Found) (before ds : List Found) → second_declarations before ds ≡ [] → Among d before → Every (λ e. clashes e d ≡ false) ds
one_free d before [] h k = tt
one_free d before (e ∷ ds) h k = by (has_clash e before) refl h (one_free d (before ++ e ∷ []) ds)
  where
    by : (b : Bool) → has_clash e before ≡ b → place_if b e.place (second_declarations (before ++ e ∷ []) ds) ≡ []
        → (second_declarations (before ++ e ∷ []) ds ≡ [] → Among d (before ++ e ∷ []) → Every (λ e. clashes e d ≡ false) ds) → Every (λ e. clashes e d ≡ false) (e ∷ ds)
    by true q h go = cc
    by false q h go = (clash_off e d before q k, go h (among_left d before (e ∷ []) k))

pub clash_free : (before ds : List Found) → second_declarations before ds ≡ [] → ClashFree ds
clash_free before [] h = tt
clash_free before (d ∷ ds) h = by (has_clash d before) h (λ g. one_free d (before ++ d ∷ []) ds g (among_right d before (d ∷ []) (inl refl))) (clash_free (before ++ d ∷ []) ds)
  where
    by : (b : Bool) → place_if b d.place (second_declarations (before ++ d ∷ []) ds) ≡ [] → (second_declarations (before ++ d ∷ []) ds ≡ [] → Every (λ e. clashes e d ≡ false) ds) → (second_declarations (before ++ d ∷ []) ds ≡ [] → ClashFree ds) → ClashFree (d ∷ ds)
    by true h f g = cc
    by false h f g = (f h, g h)

every_left : {A : Type 0} (Q : A → Type 0) (xs ys : List A) → Every Q (xs ++ ys) → Every Q xs
every_left Q [] ys h = tt
every_left Q (x ∷ xs) ys h = (h.0, every_left Q xs ys h.1)

free_left : (xs ys : List Found) → ClashFree (xs ++ ys) → ClashFree xs
free_left [] ys h = tt
free_left (x ∷ xs) ys h = (every_left (λ e. clashes e x ≡ false) xs ys h.0, free_left xs ys h.1)

free_right : (xs ys : List Found) → ClashFree (xs ++ ys) → ClashFree ys
free_right [] ys h = h
free_right (x ∷ xs) ys h = free_right xs ys h.1

rise_left : (lo : ℕ) (xs ys : List Found) → RiseFrom lo (xs ++ ys) → RiseFrom lo xs
rise_left lo [] ys h = tt
rise_left lo (x ∷ xs) ys h = (h.0, rise_left (suc x.it.name) xs ys h.1)

rise_right : (lo : ℕ) (xs ys : List Found) → RiseFrom lo (xs ++ ys) → RiseFrom lo ys
rise_right lo [] ys h = h
rise_right lo (x ∷ xs) ys h = rise_lower lo (suc x.it.name) ys (let le : lo ≤ x.it.name = h.0 in omega (arith, le)) (rise_right (suc x.it.name) xs ys h.1)

-- ---- reused names

pub reuse_found : (d : Found) (xs : List Found) → is_reused d xs ≡ true → (x : Found) × Among x xs × (is_reused_of d x ≡ true)
reuse_found d [] e = cc
reuse_found d (x ∷ xs) e = by (is_reused_of d x) refl e (reuse_found d xs)
  where
    by : (b : Bool) → is_reused_of d x ≡ b → (b || is_reused d xs) ≡ true → (is_reused d xs ≡ true → (y : Found) × Among y xs × (is_reused_of d y ≡ true)) → (y : Found) × Among y (x ∷ xs) × (is_reused_of d y ≡ true)
    by true q e go = (x, inl refl, q)
    by false q e go = let z = go e in (z.0, inr z.1, z.2)

or_on : (b c : Bool) → (b ≡ true) ⊎ (c ≡ true) → (b || c) ≡ true
or_on true c k = refl
or_on false c (inl e) = cc
or_on false c (inr e) = e

pub reuse_told : (d : Found) (xs : List Found) (x : Found) → Among x xs → is_reused_of d x ≡ true → is_reused d xs ≡ true
reuse_told d [] x k e = absurd k
reuse_told d (y ∷ xs) x (inl q) e = or_on (is_reused_of d y) (is_reused d xs) (inl (subst (λ z. is_reused_of d z ≡ true) q e))
reuse_told d (y ∷ xs) x (inr k) e = or_on (is_reused_of d y) (is_reused d xs) (inr (reuse_told d xs x k e))

-- what makes a name one that is reused
pub record Reuses (d x : Found) : Type 0 where
  pub variable : is_variable x.it.entity ≡ true
  pub before : x.it.name < d.it.statement
  pub block : same_block d x ≡ true
  pub text : same_text d.name x.name ≡ true

pub reuse_tells : (d x : Found) → is_reused_of d x ≡ true → Reuses d x
reuse_tells d x e =
    let a = both_true ((is_variable x.it.entity && nat_lt x.it.name d.it.statement) && same_block d x) (same_text d.name x.name) e in
    let b = both_true (is_variable x.it.entity && nat_lt x.it.name d.it.statement) (same_block d x) a.0 in
    let c = both_true (is_variable x.it.entity) (nat_lt x.it.name d.it.statement) b.0 in
    record { variable = c.0; before = lt_true x.it.name d.it.statement c.1; block = b.1; text = a.1 }

pub reuse_is : (d x : Found) → Reuses d x → is_reused_of d x ≡ true
reuse_is d x r =
    and_true ((is_variable x.it.entity && nat_lt x.it.name d.it.statement) && same_block d x) (same_text d.name x.name)
    (and_true (is_variable x.it.entity && nat_lt x.it.name d.it.statement) (same_block d x) (and_true (is_variable x.it.entity) (nat_lt x.it.name d.it.statement) r.variable (is_lt x.it.name d.it.statement r.before)) r.block) r.text

pub same_truth : (b c : Bool) → (b ≡ true → c ≡ true) → (c ≡ true → b ≡ true) → b ≡ c
same_truth true c f g = sym (f refl)
same_truth false true f g = g refl
same_truth false false f g = refl

-- where a block begins, if it isn't that of the package
abbrev pub InBlock : (ℕ → Type 0) → Block → Type 0
InBlock E block.Package = Unit {0}
InBlock E (block.Local i) = E i

pub block_same : (v : ℕ → ℕ) (E : ℕ → Type 0) → ((x y : ℕ) → E x → E y → x < y → v x < v y) → (b c : Block) → InBlock E b → InBlock E c → are_one_block 0 (carried_block v b) 0 (carried_block v c) ≡ are_one_block 0 b 0 c
block_same v E up block.Package block.Package h g = refl
block_same v E up block.Package (block.Local j) h g = refl
block_same v E up (block.Local i) block.Package h g = refl
block_same v E up (block.Local i) (block.Local j) h g = ap (λ z. nat_eq 0 0 && z) (same_eq v E up i j h g)

pub in_block : (gs : List Gap) (b : Block) → BlockAtEdge gs b → InBlock (AtEdge gs) b
in_block gs block.Package h = tt
in_block gs (block.Local i) h = h

pub carried_local : (v : ℕ → ℕ) (b : Block) → is_package b ≡ false → is_package (carried_block v b) ≡ false
carried_local v block.Package e = e
carried_local v (block.Local i) e = refl

module _ (a new : Alone) (outer : Outer) (gaps : List Gap) (site : IsSite a outer gaps new) (told : TellsPieces (moved_by gaps) (file_context 0) a.tree site.patch (become (moved_by gaps) a.tree site.patch)) where
  abbrev pub v : ℕ → ℕ
  v = moved_by gaps

  abbrev pub old_events : List Event
  old_events = function_events a

  abbrev pub new_events : List Event
  new_events = function_events new

  abbrev pub all_pieces : List Piece
  all_pieces = pieces v (file_context 0) a.tree site.patch

  pub before : old_events ≡ told_before all_pieces
  before = told.before

  pub behind : new_events ≡ told_behind v all_pieces
  behind =
      ap (trees.events (file_context 0)) site.tree
      ∙ ap (λ z. trees.events (file_context z) (become v a.tree site.patch)) (sym (low_moved gaps 1 0 site.apart (omega arith)))
      ∙ told.behind

  pub up : (x y : ℕ) → AtEdge gaps x → AtEdge gaps y → x < y → v x < v y
  up = rises gaps 1 site.apart

  -- a gap, with what its run and its statements tell
  pub record InGap (g : Gap) (old news : List Event) : Type 0 where
    pub listed : Among g gaps
    pub goes : RunGoes gaps g old
    pub tells : GapTells a new v g old news
    pub from_old : (e : Event) → Among e old → Among e old_events
    pub from_new : (e : Event) → Among e news → Among e new_events

  abbrev pub Remains : Event → Type 0
  Remains e = EventStays gaps e × Among (carried_event v e) new_events

  abbrev pub Gone : Event → Type 0
  Gone e = (g : Gap) × (old : List Event) × (news : List Event) × InGap g old news × Among e old

  abbrev pub Remained : Event → Type 0
  Remained e = (x : Event) × (e ≡ carried_event v x) × EventStays gaps x × Among x old_events

  abbrev pub Comes : Event → Type 0
  Comes e = (g : Gap) × (old : List Event) × (news : List Event) × InGap g old news × Among e news

  among_map : (e : Event) (es : List Event) → Among e es → Among (carried_event v e) (map (carried_event v) es)
  among_map e [] k = absurd k
  among_map e (f ∷ es) (inl q) = inl (ap (carried_event v) q)
  among_map e (f ∷ es) (inr k) = inr (among_map e es k)

  map_among : (e : Event) (es : List Event) → Among e (map (carried_event v) es) → (x : Event) × (e ≡ carried_event v x) × Among x es
  map_among e [] k = absurd k
  map_among e (f ∷ es) (inl q) = (f, q, inl refl)
  map_among e (f ∷ es) (inr k) = let y = map_among e es k in (y.0, y.1, inr y.2)

  from_before : (ps : List Piece) (gs : List Gap) → AllStand a new gaps gs ps → ((g : Gap) → Among g gs → Among g gaps) → ((e : Event) → Among e (told_before ps) → Among e old_events) → ((e : Event) → Among e (told_behind v ps) → Among e new_events)
      → (e : Event) → Among e (told_before ps) → Remains e ⊎ Gone e
  from_before [] gs h into f k e m = absurd m
  from_before (stays es ∷ ps) gs h into f k e m =
      by (among_split e es (told_before ps) m) (from_before ps gs h.1 into (λ x n. f x (among_right x es (told_before ps) n)) (λ x n. k x (among_right x (map (carried_event v) es) (told_behind v ps) n)) e)
    where
      by : Among e es ⊎ Among e (told_before ps) → (Among e (told_before ps) → Remains e ⊎ Gone e) → Remains e ⊎ Gone e
      by (inl n) go = inl (each_among (EventStays gaps) e es h.0 n, k (carried_event v e) (among_left (carried_event v e) (map (carried_event v) es) (told_behind v ps) (among_map e es n)))
      by (inr n) go = go n
  from_before (gap old news ∷ ps) [] h into f k e m = absurd h
  from_before (gap old news ∷ ps) (g ∷ gs) h into f k e m =
      by (among_split e old (told_before ps) m) (from_before ps gs h.2 (λ x n. into x (inr n)) (λ x n. f x (among_right x old (told_before ps) n)) (λ x n. k x (among_right x news (told_behind v ps) n)) e)
    where
      by : Among e old ⊎ Among e (told_before ps) → (Among e (told_before ps) → Remains e ⊎ Gone e) → Remains e ⊎ Gone e
      by (inl n) go =
          inr (g, old, news, record { listed = into g (inl refl); goes = h.0; tells = h.1; from_old = λ x q. f x (among_left x old (told_before ps) q); from_new = λ x q. k x (among_left x news (told_behind v ps) q) }, n)
      by (inr n) go = go n

  from_behind : (ps : List Piece) (gs : List Gap) → AllStand a new gaps gs ps → ((g : Gap) → Among g gs → Among g gaps) → ((e : Event) → Among e (told_before ps) → Among e old_events) → ((e : Event) → Among e (told_behind v ps) → Among e new_events)
      → (e : Event) → Among e (told_behind v ps) → Remained e ⊎ Comes e
  from_behind [] gs h into f k e m = absurd m
  from_behind (stays es ∷ ps) gs h into f k e m =
      by (among_split e (map (carried_event v) es) (told_behind v ps) m) (from_behind ps gs h.1 into (λ x n. f x (among_right x es (told_before ps) n)) (λ x n. k x (among_right x (map (carried_event v) es) (told_behind v ps) n)) e)
    where
      by : Among e (map (carried_event v) es) ⊎ Among e (told_behind v ps) → (Among e (told_behind v ps) → Remained e ⊎ Comes e) → Remained e ⊎ Comes e
      by (inl n) go = let y = map_among e es n in inl (y.0, y.1, each_among (EventStays gaps) y.0 es h.0 y.2, f y.0 (among_left y.0 es (told_before ps) y.2))
      by (inr n) go = go n
  from_behind (gap old news ∷ ps) [] h into f k e m = absurd h
  from_behind (gap old news ∷ ps) (g ∷ gs) h into f k e m =
      by (among_split e news (told_behind v ps) m) (from_behind ps gs h.2 (λ x n. into x (inr n)) (λ x n. f x (among_right x old (told_before ps) n)) (λ x n. k x (among_right x news (told_behind v ps) n)) e)
    where
      by : Among e news ⊎ Among e (told_behind v ps) → (Among e (told_behind v ps) → Remained e ⊎ Comes e) → Remained e ⊎ Comes e
      by (inl n) go =
          inr (g, old, news, record { listed = into g (inl refl); goes = h.0; tells = h.1; from_old = λ x q. f x (among_left x old (told_before ps) q); from_new = λ x q. k x (among_left x news (told_behind v ps) q) }, n)
      by (inr n) go = go n

  -- An event of the old function stays, or it is one of a run.
  pub old_or_gone : (e : Event) → Among e old_events → Remains e ⊎ Gone e
  old_or_gone e m = from_before all_pieces gaps site.stand (λ g k. k) (λ x n. subst (Among x) (sym before) n) (λ x n. subst (Among x) (sym behind) n) e (subst (Among e) before m)

  -- one of the new function was there, or it is one of a gap
  pub old_or_new : (e : Event) → Among e new_events → Remained e ⊎ Comes e
  old_or_new e m = from_behind all_pieces gaps site.stand (λ g k. k) (λ x n. subst (Among x) (sym before) n) (λ x n. subst (Among x) (sym behind) n) e (subst (Among e) behind m)

  -- ---- which names are new

  abbrev pub moved_down : Declaration → Declaration
  moved_down d = carried_declaration v d

  name_text : (d : Declaration) → DeclarationStays gaps d → own_text new (v d.name) ≡ own_text a d.name
  name_text d s = site.texts d.name s.name

  -- what a gap declares, by what its run declared
  pub record CameFrom (g : Gap) (old : List Event) (d : Declaration) : Type 0 where
    pub it : DeclaresAgain a v g old d
    pub goes_name : IsInRun g it.was.name
    pub goes_local : is_package it.was.block ≡ false
    pub goes_block : BlockAtEdge gaps it.was.block
    pub goes_to : AtEdge gaps it.was.scope.to
    pub text : own_text new d.name ≡ own_text a it.was.name

  pub came_from : (g : Gap) (old news : List Event) → InGap g old news → (d : Declaration) → Among (event.Declaration d) news → CameFrom g old d
  came_from g old news i d k =
      let x : DeclaresAgain a v g old d = each_among (EventIsNew a v g old) (event.Declaration d) news i.tells.each k in
      let goes : DeclarationGoes g i.goes.block i.goes.end x.was = each_among (EventGoes g i.goes.block i.goes.end) (event.Declaration x.was) old i.goes.each x.told in
      let lt : x.again.token < x.again.begins = x.behind in
      let le : x.again.begins ≤ length g.texts = x.before in
      record {
        it = x;
        goes_name = goes.name;
        goes_local = goes.local;
        goes_block = (beyond x.was goes x.beyond).0;
        goes_to = (beyond x.was goes x.beyond).1;
        text = ap (own_text new) x.name ∙ site.new_texts g i.listed x.again.token (omega (arith, lt, le)) ∙ ap text_there x.text;
      }
    where
      beyond : (w : Declaration) → DeclarationGoes g i.goes.block i.goes.end w → g.upto < w.scope.to → BlockAtEdge gaps w.block × AtEdge gaps w.scope.to
      beyond w goes lt = by goes.ends
        where
          by : (w.scope.to ≤ g.upto) ⊎ ((w.block ≡ i.goes.block) × (w.scope.to ≡ i.goes.end) × (w.scope.from ≤ g.upto)) → BlockAtEdge gaps w.block × AtEdge gaps w.scope.to
          by (inl le) = absurd (omega (arith, le, lt))
          by (inr x) = (subst (BlockAtEdge gaps) (sym x.0) i.goes.begins, subst (AtEdge gaps) (sym x.1) i.goes.ends)

  -- a statement behind a run: its first token is behind that, as it is behind a name in it
  behind_it : (g : Gap) (s x : ℕ) → Among g gaps → AtEdge gaps s → IsInRun g x → x < s → g.upto ≤ s
  behind_it g s x k e r lt = by (edge_of g gaps e k)
    where
      edge_of : (g : Gap) (gs : List Gap) → AtEdge gs s → Among g gs → (s ≤ g.from) ⊎ (g.upto ≤ s)
      edge_of g [] h k = absurd k
      edge_of g (f ∷ gs) h (inl q) = subst (λ (z : Gap). (s ≤ z.from) ⊎ (z.upto ≤ s)) (sym q) h.0
      edge_of g (f ∷ gs) h (inr k) = edge_of g gs h.1 k

      by : (s ≤ g.from) ⊎ (g.upto ≤ s) → g.upto ≤ s
      by (inl le) = absurd (let lo : g.from ≤ x = r.0 in omega (arith, le, lo, lt))
      by (inr le) = le

  reuse_down : (d x : Declaration) → DeclarationStays gaps d → DeclarationStays gaps x → Reuses (found_as a d) (found_as a x) → Reuses (found_as new (moved_down d)) (found_as new (moved_down x))
  reuse_down d x s r y = record {
    variable = y.variable;
    before = up x.name d.statement (stays_edge gaps x.name r.name) (stays_edge gaps d.statement s.statement) y.before;
    block = block_same v (AtEdge gaps) up d.block x.block (in_block gaps d.block s.block) (in_block gaps x.block r.block) ∙ y.block;
    text = ap (λ z. same_text z (own_text new (v x.name))) (name_text d s) ∙ ap (same_text (own_text a d.name)) (name_text x r) ∙ y.text;
  }

  reuse_up : (d x : Declaration) → DeclarationStays gaps d → DeclarationStays gaps x → Reuses (found_as new (moved_down d)) (found_as new (moved_down x)) → Reuses (found_as a d) (found_as a x)
  reuse_up d x s r y = record {
    variable = y.variable;
    before = lt_true x.name d.statement (sym (same_lt v (AtEdge gaps) up x.name d.statement (stays_edge gaps x.name r.name) (stays_edge gaps d.statement s.statement)) ∙ is_lt (v x.name) (v d.statement) y.before);
    block = sym (block_same v (AtEdge gaps) up d.block x.block (in_block gaps d.block s.block) (in_block gaps x.block r.block)) ∙ y.block;
    text = sym (ap (λ z. same_text z (own_text new (v x.name))) (name_text d s) ∙ ap (same_text (own_text a d.name)) (name_text x r)) ∙ y.text;
  }

  -- what is reused in a run and declared in its gap is reused there, and the other way round
  reuse_gap : (d w : Declaration) (g : Gap) (old : List Event) → Among g gaps → DeclarationStays gaps d → (x : CameFrom g old w) → Reuses (found_as a d) (found_as a x.it.was) → Reuses (found_as new (moved_down d)) (found_as new w)
  reuse_gap d w g old k s x y =
      let le : g.upto ≤ d.statement = behind_it g d.statement x.it.was.name k (stays_edge gaps d.statement s.statement) x.goes_name y.before in
      let p = (placed gaps 1 site.apart g k).1 in
      let m : v g.upto ≤ v d.statement = mono v (AtEdge gaps) up g.upto d.statement p.upto (stays_edge gaps d.statement s.statement) le in
      let z : v g.upto ≡ v g.from + length g.texts = upto_moved gaps 1 site.apart g k in
      let n : w.name ≡ v g.from + x.it.again.token = x.it.name in
      let lt : x.it.again.token < x.it.again.begins = x.it.behind in
      let b : x.it.again.begins ≤ length g.texts = x.it.before in
      record {
        variable = ap is_variable x.it.entity;
        before = omega (arith, m, z, n, lt, b);
        block = ap (λ c. are_one_block 0 (carried_block v d.block) 0 c) x.it.block ∙ block_same v (AtEdge gaps) up d.block x.it.was.block (in_block gaps d.block s.block) (in_block gaps x.it.was.block x.goes_block) ∙ y.block;
        text = ap (λ z. same_text z (own_text new w.name)) (name_text d s) ∙ ap (same_text (own_text a d.name)) x.text ∙ y.text;
      }

  reuse_run : (d w : Declaration) (g : Gap) (old : List Event) → Among g gaps → DeclarationStays gaps d → (x : CameFrom g old w) → Reuses (found_as new (moved_down d)) (found_as new w) → Reuses (found_as a d) (found_as a x.it.was)
  reuse_run d w g old k s x y =
      let p = (placed gaps 1 site.apart g k).1 in
      let n : w.name ≡ v g.from + x.it.again.token = x.it.name in
      let lt : w.name < v d.statement = y.before in
      let front : g.from < d.statement = back v (AtEdge gaps) up g.from d.statement p.from (stays_edge gaps d.statement s.statement) (omega (arith, n, lt)) in
      let low : g.from ≤ g.from = omega arith in
      let wide : g.from < g.upto = p.wide in
      let le : g.upto ≤ d.statement = behind_it g d.statement g.from k (stays_edge gaps d.statement s.statement) (low, wide) front in
      let in_run : x.it.was.name < g.upto = x.goes_name.1 in
      record {
        variable = ap is_variable x.it.variable;
        before = omega (arith, le, in_run);
        block = sym (ap (λ c. are_one_block 0 (carried_block v d.block) 0 c) x.it.block ∙ block_same v (AtEdge gaps) up d.block x.it.was.block (in_block gaps d.block s.block) (in_block gaps x.it.was.block x.goes_block)) ∙ y.block;
        text = sym (ap (λ z. same_text z (own_text new w.name)) (name_text d s) ∙ ap (same_text (own_text a d.name)) x.text) ∙ y.text;
      }

  -- a declared local of a gap, by its token
  declared_there : (t : ℕ) (es : List Event) → IsDeclared t es → (d : Declaration) × Among (event.Declaration d) es × (d.name ≡ t)
  declared_there t [] k = absurd k
  declared_there t (event.Declaration d ∷ es) (inl e) = (d, inl refl, e)
  declared_there t (event.Declaration d ∷ es) (inr k) = let y = declared_there t es k in (y.0, inr y.1, y.2)
  declared_there t (event.Use u ∷ es) k = let y = declared_there t es k in (y.0, inr y.1, y.2)
  declared_there t (event.Import i ∷ es) k = let y = declared_there t es k in (y.0, inr y.1, y.2)
  declared_there t (event.Member m g i ∷ es) k = let y = declared_there t es k in (y.0, inr y.1, y.2)
  declared_there t (event.Bodiless i j ∷ es) k = let y = declared_there t es k in (y.0, inr y.1, y.2)
  declared_there t (event.Statement i j ∷ es) k = let y = declared_there t es k in (y.0, inr y.1, y.2)
  declared_there t (event.Misplaced i j ∷ es) k = let y = declared_there t es k in (y.0, inr y.1, y.2)
  declared_there t (event.SecondDefault i ∷ es) k = let y = declared_there t es k in (y.0, inr y.1, y.2)

  -- what a gap declares again in place of this
  pub record Redone (g : Gap) (old news : List Event) (z : Redeclared) : Type 0 where
    pub it : Declaration
    pub there : Among (event.Declaration it) news
    pub came : CameFrom g old it
    pub again : came.it.again ≡ z

  pub redone : (g : Gap) (old news : List Event) → InGap g old news → (z : Redeclared) → Among z g.declared → Redone g old news z
  redone g old news i z k =
      let y = declared_there (v g.from + z.token) news (i.tells.all z k) in
      let c : CameFrom g old y.0 = came_from g old news i y.0 y.1 in
      let n : y.0.name ≡ v g.from + c.it.again.token = c.it.name in
      let m : y.0.name ≡ v g.from + z.token = y.2 in
      record { it = y.0; there = y.1; came = c; again = site.once g i.listed c.it.again z c.it.listed k (inr (omega (arith, n, m))) }

  reused_same : (d : Declaration) → DeclarationStays gaps d → Among (event.Declaration d) old_events → d.manner ≡ manner.Defined → is_blank (own_text a d.name) ≡ false
      → is_reused (found_as new (moved_down d)) (own_names new) ≡ is_reused (found_as a d) (own_names a)
  reused_same d s k defined blank = same_truth (is_reused (found_as new (moved_down d)) (own_names new)) (is_reused (found_as a d) (own_names a)) to_old to_new
    where
      tell : (w : Declaration) → Among (event.Declaration w) new_events → Reuses (found_as new (moved_down d)) (found_as new w) → is_reused (found_as new (moved_down d)) (own_names new) ≡ true
      tell w m r = reuse_told (found_as new (moved_down d)) (own_names new) (found_as new w) (among_found (own_text new) w new_events m) (reuse_is (found_as new (moved_down d)) (found_as new w) r)

      in_gap : (x : Declaration) → Among (event.Declaration x) old_events → Gone (event.Declaration x) → Reuses (found_as a d) (found_as a x) → is_reused (found_as new (moved_down d)) (own_names new) ≡ true
      in_gap x m (g, old, news, i, n) r =
          let goes : DeclarationGoes g i.goes.block i.goes.end x = each_among (EventGoes g i.goes.block i.goes.end) (event.Declaration x) old i.goes.each n in
          let y = site.reuses g i.listed d x k m s.name goes.name defined blank (reuse_is (found_as a d) (found_as a x) r) in
          again y.0 y.1 y.3 (reuse_tells (found_as a d) (found_as a y.0) y.2) (old_or_gone (event.Declaration y.0) y.1)
        where
          again : (w : Declaration) → Among (event.Declaration w) old_events → DeclaredAgainIn gaps w.name → Reuses (found_as a d) (found_as a w) → Remains (event.Declaration w) ⊎ Gone (event.Declaration w)
              → is_reused (found_as new (moved_down d)) (own_names new) ≡ true
          again w l f q (inl e) = tell (moved_down w) e.1 (reuse_down d w s e.0 q)
          again w l f q (inr (h, olds, others, j, e)) =
              let gone : DeclarationGoes h j.goes.block j.goes.end w = each_among (EventGoes h j.goes.block j.goes.end) (event.Declaration w) olds j.goes.each e in
              let y = f h j.listed gone.name in
              let z : Redone h olds others y.0 = redone h olds others j y.0 y.1 in
              let same_name : z.came.it.was.name ≡ w.name = z.came.it.named ∙ ap (λ (r : Redeclared). r.old) z.again ∙ y.2 in
              let one : z.came.it.was ≡ w = one_declaration 0 (length a.texts) old_events site.order z.came.it.was w (j.from_old (event.Declaration z.came.it.was) z.came.it.told) l same_name in
              tell z.it (j.from_new (event.Declaration z.it) z.there) (reuse_gap d z.it h olds j.listed s z.came (subst (λ r. Reuses (found_as a d) (found_as a r)) (sym one) q))

      by_old : (x : Declaration) → Among (event.Declaration x) old_events → Reuses (found_as a d) (found_as a x) → Remains (event.Declaration x) ⊎ Gone (event.Declaration x) → is_reused (found_as new (moved_down d)) (own_names new) ≡ true
      by_old x m r (inl q) = tell (moved_down x) q.1 (reuse_down d x s q.0 r)
      by_old x m r (inr q) = in_gap x m q r

      to_new : is_reused (found_as a d) (own_names a) ≡ true → is_reused (found_as new (moved_down d)) (own_names new) ≡ true
      to_new e =
          let y = reuse_found (found_as a d) (own_names a) e in
          let x = found_among (own_text a) y.0 old_events y.1 in
          by_old x.0 x.1 (reuse_tells (found_as a d) (found_as a x.0) (subst (λ z. is_reused_of (found_as a d) z ≡ true) x.2 y.2)) (old_or_gone (event.Declaration x.0) x.1)

      tell_old : (x : Declaration) → Among (event.Declaration x) old_events → Reuses (found_as a d) (found_as a x) → is_reused (found_as a d) (own_names a) ≡ true
      tell_old x m r = reuse_told (found_as a d) (own_names a) (found_as a x) (among_found (own_text a) x old_events m) (reuse_is (found_as a d) (found_as a x) r)

      remained : (w : Declaration) (e : Event) → event.Declaration w ≡ carried_event v e → EventStays gaps e → Among e old_events → Reuses (found_as new (moved_down d)) (found_as new w) → is_reused (found_as a d) (own_names a) ≡ true
      remained w (event.Declaration x) q st m r = let p : w ≡ moved_down x = cc in tell_old x m (reuse_up d x s st (subst (λ z. Reuses (found_as new (moved_down d)) (found_as new z)) p r))
      remained w (event.Use u) q st m r = cc
      remained w (event.Import i) q st m r = cc
      remained w (event.Member i j k) q st m r = cc
      remained w (event.Bodiless i j) q st m r = cc
      remained w (event.Statement i j) q st m r = cc
      remained w (event.Misplaced i j) q st m r = cc
      remained w (event.SecondDefault i) q st m r = cc

      by_new : (w : Declaration) → Reuses (found_as new (moved_down d)) (found_as new w) → Remained (event.Declaration w) ⊎ Comes (event.Declaration w) → is_reused (found_as a d) (own_names a) ≡ true
      by_new w r (inl (e, q, st, m)) = remained w e q st m r
      by_new w r (inr (g, old, news, i, n)) =
          let c : CameFrom g old w = came_from g old news i w n in
          tell_old c.it.was (i.from_old (event.Declaration c.it.was) c.it.told) (reuse_run d w g old i.listed s c r)

      to_old : is_reused (found_as new (moved_down d)) (own_names new) ≡ true → is_reused (found_as a d) (own_names a) ≡ true
      to_old e =
          let y = reuse_found (found_as new (moved_down d)) (own_names new) e in
          let x = found_among (own_text new) y.0 new_events y.1 in
          by_new x.0 (reuse_tells (found_as new (moved_down d)) (found_as new x.0) (subst (λ z. is_reused_of (found_as new (moved_down d)) z ≡ true) x.2 y.2)) (old_or_new (event.Declaration x.0) x.1)

  -- What stays is declared where it was.
  pub new_same : (d : Declaration) → DeclarationStays gaps d → Among (event.Declaration d) old_events → is_new (own_names new) (found_as new (moved_down d)) ≡ is_new (own_names a) (found_as a d)
  new_same d s k = ap (λ w. not (is_blank w) && not (may_be_reused d.manner && is_reused (found_as new (moved_down d)) (own_names new))) (name_text d s) ∙ named (is_blank (own_text a d.name)) refl
    where
      by : is_blank (own_text a d.name) ≡ false → (m : Manner) → d.manner ≡ m → (may_be_reused m && is_reused (found_as new (moved_down d)) (own_names new)) ≡ (may_be_reused m && is_reused (found_as a d) (own_names a))
      by blank manner.Declared e = refl
      by blank manner.Ranged e = refl
      by blank manner.Defined e = reused_same d s k e blank

      named : (b : Bool) → is_blank (own_text a d.name) ≡ b
          → (not b && not (may_be_reused d.manner && is_reused (found_as new (moved_down d)) (own_names new))) ≡ (not b && not (may_be_reused d.manner && is_reused (found_as a d) (own_names a)))
      named true e = refl
      named false e = ap not (by e d.manner refl)

  -- ---- rows

  abbrev pub old_declared : List Event → List Found
  old_declared es = new_among (own_names a) (found_by (own_text a) es)

  abbrev pub new_declared : List Event → List Found
  new_declared es = new_among (own_names new) (found_by (own_text new) es)

  abbrev pub rows_of : List Piece → List Gap → List Row
  rows_of [] gs = []
  rows_of (stays es ∷ ps) gs = same (old_declared es) ∷ rows_of ps gs
  rows_of (gap old news ∷ ps) [] = []
  rows_of (gap old news ∷ ps) (g ∷ gs) = other g (old_declared old) (new_declared news) ∷ rows_of ps gs

  old_both : (es fs : List Event) → old_declared (es ++ fs) ≡ old_declared es ++ old_declared fs
  old_both es fs = ap (new_among (own_names a)) (found_append (own_text a) es fs) ∙ new_append (own_names a) (found_by (own_text a) es) (found_by (own_text a) fs)

  new_both : (es fs : List Event) → new_declared (es ++ fs) ≡ new_declared es ++ new_declared fs
  new_both es fs = ap (new_among (own_names new)) (found_append (own_text new) es fs) ∙ new_append (own_names new) (found_by (own_text new) es) (found_by (own_text new) fs)

  stays_row : (es : List Event) → EachEvent (EventStays gaps) es → ((e : Event) → Among e es → Among e old_events) → new_declared (map (carried_event v) es) ≡ map (placed_at v gaps) (old_declared es)
  stays_row [] h f = refl
  stays_row (event.Declaration d ∷ es) h f =
      let x : Found = found_as a d in
      let rest : new_declared (map (carried_event v) es) ≡ map (placed_at v gaps) (old_declared es) = stays_row es h.1 (λ e k. f e (inr k)) in
      ap (λ b. if b then found_as new (moved_down d) ∷ new_declared (map (carried_event v) es) else new_declared (map (carried_event v) es)) (new_same d h.0 (f (event.Declaration d) (inl refl)))
      ∙ ap (λ w. if is_new (own_names a) x then record { file = 0; name = w; place = no_place; it = moved_down d } ∷ new_declared (map (carried_event v) es) else new_declared (map (carried_event v) es)) (name_text d h.0)
      ∙ ap (λ xs. if is_new (own_names a) x then placed_at v gaps x ∷ xs else xs) rest
      ∙ by (is_new (own_names a) x)
    where
      by : (b : Bool) → (if b then placed_at v gaps (found_as a d) ∷ map (placed_at v gaps) (old_declared es) else map (placed_at v gaps) (old_declared es)) ≡ map (placed_at v gaps) (if b then found_as a d ∷ old_declared es else old_declared es)
      by true = refl
      by false = refl
  stays_row (event.Use u ∷ es) h f = stays_row es h.1 (λ e k. f e (inr k))
  stays_row (event.Import i ∷ es) h f = stays_row es h.1 (λ e k. f e (inr k))
  stays_row (event.Member m g i ∷ es) h f = stays_row es h.1 (λ e k. f e (inr k))
  stays_row (event.Bodiless i j ∷ es) h f = stays_row es h.1 (λ e k. f e (inr k))
  stays_row (event.Statement i j ∷ es) h f = stays_row es h.1 (λ e k. f e (inr k))
  stays_row (event.Misplaced i j ∷ es) h f = stays_row es h.1 (λ e k. f e (inr k))
  stays_row (event.SecondDefault i ∷ es) h f = stays_row es h.1 (λ e k. f e (inr k))

  old_rows : (ps : List Piece) (gs : List Gap) → AllStand a new gaps gs ps → old_declared (told_before ps) ≡ old_row (rows_of ps gs)
  old_rows [] gs h = refl
  old_rows (stays es ∷ ps) gs h = old_both es (told_before ps) ∙ ap (λ xs. old_declared es ++ xs) (old_rows ps gs h.1)
  old_rows (gap old news ∷ ps) [] h = absurd h
  old_rows (gap old news ∷ ps) (g ∷ gs) h = old_both old (told_before ps) ∙ ap (λ xs. old_declared old ++ xs) (old_rows ps gs h.2)

  new_rows : (ps : List Piece) (gs : List Gap) → AllStand a new gaps gs ps → ((e : Event) → Among e (told_before ps) → Among e old_events) → new_declared (told_behind v ps) ≡ new_row v gaps (rows_of ps gs)
  new_rows [] gs h f = refl
  new_rows (stays es ∷ ps) gs h f =
      new_both (map (carried_event v) es) (told_behind v ps)
      ∙ ap (λ xs. xs ++ new_declared (told_behind v ps)) (stays_row es h.0 (λ e k. f e (among_left e es (told_before ps) k)))
      ∙ ap (λ xs. map (placed_at v gaps) (old_declared es) ++ xs) (new_rows ps gs h.1 (λ e k. f e (among_right e es (told_before ps) k)))
  new_rows (gap old news ∷ ps) [] h f = absurd h
  new_rows (gap old news ∷ ps) (g ∷ gs) h f = new_both news (told_behind v ps) ∙ ap (λ xs. new_declared news ++ xs) (new_rows ps gs h.2 (λ e k. f e (among_right e old (told_before ps) k)))

  every_of : {A : Type 0} (Q : A → Type 0) (xs : List A) → ((x : A) → Among x xs → Q x) → Every Q xs
  every_of Q [] f = tt
  every_of Q (x ∷ xs) f = (f x (inl refl), every_of Q xs (λ y k. f y (inr k)))

  again_one : (g : Gap) (old news : List Event) → InGap g old news → (d : Declaration) → Among (event.Declaration d) news → Again v gaps g (old_declared old) (found_as new d)
  again_one g old news i d k =
      let c : CameFrom g old d = came_from g old news i d k in
      record {
        again = c.it.again;
        listed = c.it.listed;
        was = found_as a c.it.was;
        among = among_new (own_names a) (found_as a c.it.was) (found_by (own_text a) old) c.it.new (among_found (own_text a) c.it.was old c.it.told);
        named = c.it.named;
        text = c.text;
        beyond = c.it.beyond;
        behind = c.it.behind;
        before = c.it.before;
        name = c.it.name;
        from = c.it.from;
        to = c.it.to;
        local = ap is_package c.it.block ∙ carried_local v c.it.was.block c.goes_local;
        file = refl;
      }

  pub declares_new : (g : Gap) (old : List Event) (d : Declaration) → CameFrom g old d → is_new (own_names new) (found_as new d) ≡ true
  declares_new g old d c =
      let b = both_true (not (is_blank (own_text a c.it.was.name))) (not (may_be_reused c.it.was.manner && is_reused (found_as a c.it.was) (own_names a))) c.it.new in
      and_true (not (is_blank (own_text new d.name))) (not (may_be_reused d.manner && is_reused (found_as new d) (own_names new))) (ap (λ w. not (is_blank w)) c.text ∙ b.0)
      (ap (λ m. not (may_be_reused m && is_reused (found_as new d) (own_names new))) c.it.manner)

  gap_stands : (g : Gap) (old news : List Event) (lo : ℕ) → InGap g old news → ClashFree (old_declared old) → RiseFrom lo (new_declared news) → GapStands v gaps g (old_declared old) (new_declared news)
  gap_stands g old news lo i free r = record {
    listed = i.listed;
    placed = (placed gaps 1 site.apart g i.listed).1;
    block = i.goes.block;
    end = i.goes.end;
    ends = i.goes.ends;
    goes =
        every_new (λ d. DeclarationGoes g i.goes.block i.goes.end d.it) (own_names a) (found_by (own_text a) old)
        (found_event (own_text a) (EventGoes g i.goes.block i.goes.end) (DeclarationGoes g i.goes.block i.goes.end) old (λ d h. h) i.goes.each);
    files = every_new (λ d. d.file ≡ 0) (own_names a) (found_by (own_text a) old) (files_found (own_text a) old);
    free = free;
    moved = upto_moved gaps 1 site.apart g i.listed;
    low = lo;
    rises = r;
    again = every_of (Again v gaps g (old_declared old)) (new_declared news) (λ x k. let y = found_among (own_text new) x news (new_found (own_names new) x (found_by (own_text new) news) k) in subst (Again v gaps g (old_declared old)) (sym y.2) (again_one g old news i y.0 y.1));
    all =
        λ z k.
        let y : Redone g old news z = redone g old news i z k in
        (found_as new y.it, among_new (own_names new) (found_as new y.it) (found_by (own_text new) news) (declares_new g old y.it y.came) (among_found (own_text new) y.it news y.there), y.came.it.name ∙ ap (λ (q : Redeclared). v g.from + q.token) y.again);
    once = site.once g i.listed;
  }

  pub rows_stand : (ps : List Piece) (gs : List Gap) (i lo : ℕ) → AllStand a new gaps gs ps → AreApart i gs → ((g : Gap) → Among g gs → Among g gaps) → ((e : Event) → Among e (told_before ps) → Among e old_events) → ((e : Event) → Among e (told_behind v ps) → Among e new_events)
      → ClashFree (old_declared (told_before ps)) → RiseFrom lo (new_declared (told_behind v ps)) → RowsStand v gaps i (rows_of ps gs)
  rows_stand [] gs i lo h p into f k c r = tt
  rows_stand (stays es ∷ ps) gs i lo h p into f k c r = (
    every_new (λ d. DeclarationStays gaps d.it) (own_names a) (found_by (own_text a) es) (found_event (own_text a) (EventStays gaps) (DeclarationStays gaps) es (λ d z. z) h.0),
    rows_stand ps gs i lo h.1 p into (λ e m. f e (among_right e es (told_before ps) m)) (λ e m. k e (among_right e (map (carried_event v) es) (told_behind v ps) m))
        (free_right (old_declared es) (old_declared (told_before ps)) (subst ClashFree (old_both es (told_before ps)) c))
        (rise_right lo (new_declared (map (carried_event v) es)) (new_declared (told_behind v ps)) (subst (RiseFrom lo) (new_both (map (carried_event v) es) (told_behind v ps)) r)),
  )
  rows_stand (gap old news ∷ ps) [] i lo h p into f k c r = absurd h
  rows_stand (gap old news ∷ ps) (g ∷ gs) i lo h p into f k c r =
      let here : InGap g old news = record { listed = into g (inl refl); goes = h.0; tells = h.1; from_old = λ e m. f e (among_left e old (told_before ps) m); from_new = λ e m. k e (among_left e news (told_behind v ps) m) } in
      let free : ClashFree (old_declared old ++ old_declared (told_before ps)) = subst ClashFree (old_both old (told_before ps)) c in
      let rise : RiseFrom lo (new_declared news ++ new_declared (told_behind v ps)) = subst (RiseFrom lo) (new_both news (told_behind v ps)) r in (
        p.0,
        gap_stands g old news lo here (free_left (old_declared old) (old_declared (told_before ps)) free) (rise_left lo (new_declared news) (new_declared (told_behind v ps)) rise),
        rows_stand ps gs g.upto lo h.2 p.3 (λ x m. into x (inr m)) (λ e m. f e (among_right e old (told_before ps) m)) (λ e m. k e (among_right e news (told_behind v ps) m))
            (free_right (old_declared old) (old_declared (told_before ps)) free) (rise_right lo (new_declared news) (new_declared (told_behind v ps)) rise),
      )

  -- ---- both functions

  abbrev pub rows : List Row
  rows = rows_of all_pieces gaps

  pub old_whole : own_declarations a ≡ old_row rows
  old_whole = ap old_declared before ∙ old_rows all_pieces gaps site.stand

  pub new_whole : own_declarations new ≡ new_row v gaps rows
  new_whole = ap new_declared behind ∙ new_rows all_pieces gaps site.stand (λ e m. subst (Among e) (sym before) m)

  pub rises_old : RiseFrom 0 (own_declarations a)
  rises_old = rise_new 0 (own_names a) (own_names a) (rise_found (own_text a) 0 (length a.texts) old_events site.order)

  pub rises_new : RiseFrom 0 (own_declarations new)
  rises_new = rise_new 0 (own_names new) (own_names new) (rise_found (own_text new) 0 (length new.texts) new_events site.new_order)

  pub files_old : Every (λ d. d.file ≡ 0) (own_declarations a)
  files_old = every_new (λ d. d.file ≡ 0) (own_names a) (own_names a) (files_found (own_text a) old_events)

  pub files_new : Every (λ d. d.file ≡ 0) (own_declarations new)
  files_new = every_new (λ d. d.file ≡ 0) (own_names new) (own_names new) (files_found (own_text new) new_events)

  pub all_rows : own_second_declarations a ≡ [] → RowsStand v gaps 1 rows
  all_rows free =
      rows_stand all_pieces gaps 1 0 site.stand site.apart (λ g k. k) (λ e m. subst (Among e) (sym before) m) (λ e m. subst (Among e) (sym behind) m)
      (subst ClashFree (ap old_declared before) (clash_free [] (own_declarations a) free)) (subst (RiseFrom 0) (ap new_declared behind) rises_new)
