-- Parts of statements lie one behind the other as they are laid out too.
use Rattle.std.proofs.Common.{◌≡◌, ℕ, zero, suc, ◌≤◌, inl, inr, Bool, true, false, if◌then◌else◌, [], ◌∷◌, ◌++◌, take, Option, Some, None, refl, sym, subst, arith}
use Rattle.go_grammar.specs.declared.kind.Kind.{Kind}
use Rattle.go_grammar.specs.declared.kind.Kind.TheVariants as kind
use Rattle.go_grammar.specs.declared.kind.Sort.TheVariants as declaring
use Rattle.go_types.specs.Trees.{TypeTree}
use Rattle.go_typed.specs.declared.form.Form.TheVariants as form
use Rattle.go_typed.specs.Forms.{is_statement_list, values_count}
use Rattle.go_typed.specs.Trees.{typed, Typeds, none, more, skip, row, list_of, first_of, last_of, form_of, sort_of, parts_of}
use Rattle.go_exprs_rules.specs.Settling.{Part}
use Rattle.go_exprs_rules.specs.Tables.{Parts, is_held, held, all_held, is_type, leaf, first_cut, behind_first}
use Rattle.go_stmts_defs.specs.Frames.{Frame}
use Rattle.go_stmts_defs.specs.Laying.{is_values, typed_or_not, specification_parts, names_count, specified_names, all_names, is_group, specifications, header_parts, if_parts, switch_parts, loop_header, for_parts, without_absent, layout}
use Rattle.go_stmts_defs.specs.Reading.{is_statement}
use Rattle.window_index.proofs.Nested.{choice, Flat, Within, Row, Listed, within-first, within-grows, within-last, within-nested, is-within, within-wider, row-flat, row-wider, same-row}
use Rattle.window_index.proofs.Typings.{EachFlat, flat-row, flat-list, flat-parts, held-flat, leaf-flat, declared-plain}

-- the parts that have statement lists lie in the range, one behind the other
abbrev pub Lie : ℕ → ℕ → Parts → Type 0
Lie i j xs = Row false i j (row xs)

pub lie-flat : (i j : ℕ) (xs : Parts) → EachFlat xs → Lie i j xs
lie-flat i j xs h = row-flat i j (row xs) (flat-row xs h)

pub lie-wider : (i i' j j' : ℕ) (xs : Parts) → i' ≤ i → j ≤ j' → Lie i j xs → Lie i' j' xs
lie-wider i i' j j' xs u v h = row-wider false i i' j j' (row xs) u v h

pub lie-list : (i j : ℕ) (ps : Typeds TypeTree) → Row false i j ps → Lie i j (list_of ps)
lie-list i j ps h = subst (Row false i j) (sym (same-row ps)) h

-- ---- one row behind another

joined : (i m j : ℕ) (xs ys : Parts) → i ≤ m → m ≤ j → Lie i m xs → Lie m j ys → Lie i j (xs ++ ys)
joined i m j [] ys u v h k = lie-wider m i j j ys u (omega arith) k
joined i m j (None ∷ xs) ys u v h k = joined i m j xs ys u v h k
joined i m j (Some p ∷ xs) ys u v (inl h) k = inl (refl, h.1, joined i m j xs ys u v h.2 k)
joined i m j (Some p ∷ xs) ys u v (inr h) k = inr (within-wider i i m j p (omega arith) v h.0, joined (last_of p) m j xs ys (within-last i m p h.0) v h.1 k)

behind-flat : (i j : ℕ) (xs ys : Parts) → EachFlat xs → Lie i j ys → Lie i j (xs ++ ys)
behind-flat i j [] ys h k = k
behind-flat i j (None ∷ xs) ys h k = behind-flat i j xs ys h.1 k
behind-flat i j (Some p ∷ xs) ys h k = inl (refl, h.0, behind-flat i j xs ys h.1 k)

-- Some parts of a part, or it itself, stand in its place.
opened : (p : Part) (sel xs ys : Parts) (i j : ℕ) → (Flat p → EachFlat sel) → (Within (first_of p) (last_of p) p → Lie (first_of p) (last_of p) sel) → ((m : ℕ) → Lie m j xs → Lie m j ys) →
    Lie i j (Some p ∷ xs) → Lie i j (sel ++ ys)
opened p sel xs ys i j f g k (inl h) = behind-flat i j sel ys (f h.1) (k i h.2)
opened p sel xs ys i j f g k (inr h) =
    let a = within-first i j p h.0 in
    let b = within-grows i j p h.0 in
    let c = within-last i j p h.0 in
    joined i (last_of p) j sel ys (omega (arith, a, b)) c
    (lie-wider (first_of p) i (last_of p) (last_of p) sel a (omega arith) (g (is-within (first_of p) (last_of p) p (omega arith) b (omega arith) (within-nested i j p h.0)))) (k (last_of p) h.1)

-- the same where it stands alone
alone : (p : Part) (sel : Parts) (i j : ℕ) → (Flat p → EachFlat sel) → (Within (first_of p) (last_of p) p → Lie (first_of p) (last_of p) sel) → Lie i j (Some p ∷ []) → Lie i j sel
alone p sel i j f g (inl h) = lie-flat i j sel (f h.1)
alone p sel i j f g (inr h) =
    lie-wider (first_of p) i (last_of p) j sel (within-first i j p h.0) (within-last i j p h.0)
    (g (is-within (first_of p) (last_of p) p (omega arith) (within-grows i j p h.0) (omega arith) (within-nested i j p h.0)))

-- ---- the parts of a part

listed-row : (n i j : ℕ) (ps : Typeds TypeTree) → Listed n i j ps → Row false i j ps
listed-row n i j none h = tt
listed-row zero i j (more p ps) h = inr (h.0, listed-row zero (last_of p) j ps h.1)
listed-row (suc n) i j (more p ps) (inl h) = inl (refl, h.0, listed-row n i j ps h.1)
listed-row (suc n) i j (more p ps) (inr h) = inr (h.0, listed-row n (last_of p) j ps h.1)
listed-row n i j (skip ps) h = listed-row n i j ps h

parts-lie : (i j : ℕ) (p : Part) → Within i j p → Lie (first_of p) (last_of p) (list_of (parts_of p))
parts-lie i j (typed f a b l ps) h = lie-list a b ps (by (is_statement_list f) h.3) where
  by : (c : Bool) → choice c (Listed (values_count f) (suc a) b ps) (Row false a b ps) → Row false a b ps
  by true k = row-wider false (suc a) a b b ps (omega arith) (omega arith) (listed-row (values_count f) (suc a) b ps k)
  by false k = k

itself : (p : Part) → Within (first_of p) (last_of p) p → Lie (first_of p) (last_of p) (Some p ∷ [])
itself p h = inr (h, tt)

one-of : (b : Bool) (xs ys : Parts) (i j : ℕ) → Lie i j xs → Lie i j ys → Lie i j (if b then xs else ys)
one-of true xs ys i j h k = h
one-of false xs ys i j h k = k

held-lie : (p : Part) → Within (first_of p) (last_of p) p → Lie (first_of p) (last_of p) (held (Some p))
held-lie p h = one-of (is_held (form_of p)) (list_of (parts_of p)) (Some p ∷ []) (first_of p) (last_of p) (parts-lie (first_of p) (last_of p) p h) (itself p h)

pub all-held-lie : (i j : ℕ) (xs : Parts) → Lie i j xs → Lie i j (all_held xs)
all-held-lie i j [] h = tt
all-held-lie i j (None ∷ xs) h = all-held-lie i j xs h
all-held-lie i j (Some p ∷ xs) h = opened p (held (Some p)) xs (all_held xs) i j (held-flat (Some p)) (held-lie p) (λ m k. all-held-lie m j xs k) h

one-held-lie : (i j : ℕ) (x : Option Part) → Lie i j (x ∷ []) → Lie i j (held x)
one-held-lie i j None h = tt
one-held-lie i j (Some p) h = alone p (held (Some p)) i j (held-flat (Some p)) (held-lie p) h

-- a part left out
tail-lie : (i j : ℕ) (x : Option Part) (xs : Parts) → Lie i j (x ∷ xs) → Lie i j xs
tail-lie i j None xs h = h
tail-lie i j (Some p) xs (inl h) = h.2
tail-lie i j (Some p) xs (inr h) = lie-wider (last_of p) i j j xs (let a = within-first i j p h.0 in let b = within-grows i j p h.0 in omega (arith, a, b)) (omega arith) h.1

absent-lie : (i j : ℕ) (xs : Parts) → Lie i j xs → Lie i j (without_absent xs)
absent-lie i j [] h = tt
absent-lie i j (None ∷ xs) h = absent-lie i j xs h
absent-lie i j (Some p ∷ xs) (inl h) = inl (refl, h.1, absent-lie i j xs h.2)
absent-lie i j (Some p ∷ xs) (inr h) = inr (h.0, absent-lie (last_of p) j xs h.1)

behind-first-lie : (i j : ℕ) (xs : Parts) → Lie i j xs → Lie i j (behind_first xs)
behind-first-lie i j [] h = tt
behind-first-lie i j (x ∷ xs) h = tail-lie i j x xs h

take-lie : (n i j : ℕ) (xs : Parts) → Lie i j xs → Lie i j (take n xs)
take-lie zero i j xs h = tt
take-lie (suc n) i j [] h = tt
take-lie (suc n) i j (None ∷ xs) h = take-lie n i j xs h
take-lie (suc n) i j (Some p ∷ xs) (inl h) = inl (refl, h.1, take-lie n i j xs h.2)
take-lie (suc n) i j (Some p ∷ xs) (inr h) = inr (h.0, take-lie n (last_of p) j xs h.1)

take-flat : (n : ℕ) (xs : Parts) → EachFlat xs → EachFlat (take n xs)
take-flat zero xs h = tt
take-flat (suc n) [] h = tt
take-flat (suc n) (x ∷ xs) h = (h.0, take-flat n xs h.1)

-- ---- declarations

first-cut-lie : (i j : ℕ) (xs : Parts) → Lie i j xs → Lie i j (first_cut xs)
first-cut-lie i j [] h = tt
first-cut-lie i j (None ∷ xs) h = h
first-cut-lie i j (Some p ∷ xs) h = pick (is_type (sort_of p)) where
  pick : (b : Bool) → Lie i j ((if b then Some (leaf p) else Some p) ∷ xs)
  pick true = inl (refl, leaf-flat p, tail-lie i j (Some p) xs h)
  pick false = h

typed-or-not-lie : (i j : ℕ) (x : Option Part) → Lie i j (x ∷ []) → Lie i j (typed_or_not x)
typed-or-not-lie i j None h = tt
typed-or-not-lie i j (Some p) h = one-of (is_values (Some p)) (None ∷ held (Some p)) (held (Some p)) i j (one-held-lie i j (Some p) h) (one-held-lie i j (Some p) h)

specification-lie : (i j : ℕ) (xs : Parts) → Lie i j xs → Lie i j (specification_parts xs)
specification-lie i j (None ∷ x ∷ []) h = first-cut-lie i j (typed_or_not x) (typed-or-not-lie i j x h)
specification-lie i j (Some p ∷ x ∷ []) h =
    opened p (held (Some p)) (x ∷ []) (first_cut (typed_or_not x)) i j (held-flat (Some p)) (held-lie p) (λ m k. first-cut-lie m j (typed_or_not x) (typed-or-not-lie m j x k)) h
specification-lie i j xs h = h

names-lie : (i j : ℕ) (xs : Parts) → Lie i j xs → Lie i j (all_names xs)
names-lie i j [] h = tt
names-lie i j (None ∷ xs) h = names-lie i j xs h
names-lie i j (Some p ∷ xs) h =
    opened p (specified_names (Some p)) xs (all_names xs) i j (λ f. take-flat (names_count (form_of p)) (list_of (parts_of p)) (flat-list (parts_of p) (flat-parts p f)))
    (λ w. take-lie (names_count (form_of p)) (first_of p) (last_of p) (list_of (parts_of p)) (parts-lie (first_of p) (last_of p) p w)) (λ m k. names-lie m j xs k) h

specifications-lie : (i j : ℕ) (xs : Parts) → Lie i j xs → Lie i j (specifications xs)
specifications-lie i j (Some p ∷ []) h =
    one-of (is_group (form_of p)) (list_of (parts_of p)) (Some p ∷ []) i j
    (alone p (list_of (parts_of p)) i j (λ f. flat-list (parts_of p) (flat-parts p f)) (parts-lie (first_of p) (last_of p) p) h) h
specifications-lie i j xs h = h

-- ---- headers

header-flat : (x : Part) → Flat x → EachFlat (header_parts (Some x))
header-flat (typed (form.Held kind.LateCondition) i j l ps) h = (tt, flat-list ps h.1)
header-flat (typed (form.Held kind.LateTag) i j l ps) h = (tt, flat-list ps h.1)
header-flat (typed (form.Held kind.InitializedCondition) i j l ps) h = flat-list ps h.1
header-flat (typed (form.Held kind.InitializedTag) i j l ps) h = flat-list ps h.1
header-flat x h = (tt, (h, tt))

header-lie : (x : Part) → Within (first_of x) (last_of x) x → Lie (first_of x) (last_of x) (header_parts (Some x))
header-lie (typed (form.Held kind.LateCondition) i j l ps) h = lie-list i j ps h.3
header-lie (typed (form.Held kind.LateTag) i j l ps) h = lie-list i j ps h.3
header-lie (typed (form.Held kind.InitializedCondition) i j l ps) h = lie-list i j ps h.3
header-lie (typed (form.Held kind.InitializedTag) i j l ps) h = lie-list i j ps h.3
header-lie x h = itself x h

loop-flat : (x : Part) → Flat x → EachFlat (loop_header (Some x))
loop-flat (typed (form.Held kind.ForClause) i j l ps) h = (tt, flat-list ps h.1)
loop-flat (typed (form.Held k) i j l ps) h = flat-list ps h.1
loop-flat x h = (tt, (h, (tt, tt)))

loop-lie : (x : Part) → Within (first_of x) (last_of x) x → Lie (first_of x) (last_of x) (loop_header (Some x))
loop-lie (typed (form.Held kind.ForClause) i j l ps) h = lie-list i j ps h.3
loop-lie (typed (form.Held k) i j l ps) h = lie-list i j ps h.3
loop-lie x h = itself x h

-- a part, and the one behind it opened
then-held-lie : (i j : ℕ) (b e : Option Part) → Lie i j (b ∷ e ∷ []) → Lie i j (b ∷ held e)
then-held-lie i j None e h = one-held-lie i j e h
then-held-lie i j (Some p) e (inl h) = inl (refl, h.1, one-held-lie i j e h.2)
then-held-lie i j (Some p) e (inr h) = inr (h.0, one-held-lie (last_of p) j e h.1)

if-lie : (i j : ℕ) (xs : Parts) → Lie i j xs → Lie i j (if_parts xs)
if-lie i j (None ∷ b ∷ e ∷ []) h = then-held-lie i j b e h
if-lie i j (Some p ∷ b ∷ e ∷ []) h = opened p (header_parts (Some p)) (b ∷ e ∷ []) (b ∷ held e) i j (header-flat p) (header-lie p) (λ m k. then-held-lie m j b e k) h
if-lie i j xs h = h

switch-lie : (i j : ℕ) (xs : Parts) → Lie i j xs → Lie i j (switch_parts xs)
switch-lie i j [] h = tt
switch-lie i j (None ∷ xs) h = h
switch-lie i j (Some p ∷ xs) h = opened p (header_parts (Some p)) xs xs i j (header-flat p) (header-lie p) (λ m k. k) h

for-lie : (i j : ℕ) (xs : Parts) → Lie i j xs → Lie i j (for_parts xs)
for-lie i j [] h = tt
for-lie i j (None ∷ xs) h = h
for-lie i j (Some p ∷ xs) h = opened p (loop_header (Some p)) xs xs i j (loop-flat p) (loop-lie p) (λ m k. k) h

-- ---- all layouts of statements

pub layout-lie : (s : Frame) (k : Kind) (a i j : ℕ) (xs : Parts) → is_statement k ≡ true → Lie i j xs → Lie i j (layout s k a xs)
layout-lie s kind.NewNames a i j xs e h = cc
layout-lie s kind.Targets a i j xs e h = cc
layout-lie s kind.Values a i j xs e h = cc
layout-lie s kind.TypedValues a i j xs e h = cc
layout-lie s (kind.Specification declaring.Type) a i j xs e h = inl (refl, (declared-plain s.around (s.around.objects a), tt), h)
layout-lie s (kind.Specification declaring.Variable) a i j xs e h = specification-lie i j xs h
layout-lie s (kind.Specification declaring.Constant) a i j xs e h = specification-lie i j xs h
layout-lie s (kind.Declaration declaring.Variable) a i j xs e h = specifications-lie i j xs h
layout-lie s (kind.Declaration declaring.Constant) a i j xs e h = names-lie i j (specifications xs) (specifications-lie i j xs h)
layout-lie s (kind.Declaration declaring.Type) a i j xs e h = names-lie i j (specifications xs) (specifications-lie i j xs h)
layout-lie s kind.Assignment a i j xs e h = all-held-lie i j xs h
layout-lie s kind.Define a i j xs e h = all-held-lie i j xs h
layout-lie s kind.Case a i j xs e h = all-held-lie i j xs h
layout-lie s kind.Return a i j xs e h = absent-lie i j (all_held xs) (all-held-lie i j xs h)
layout-lie s kind.If a i j xs e h = if-lie i j xs h
layout-lie s kind.Switch a i j xs e h = switch-lie i j xs h
layout-lie s kind.For a i j xs e h = for-lie i j xs h
layout-lie s kind.AssigningRange a i j xs e h = all-held-lie i j xs h
layout-lie s kind.DefiningRange a i j xs e h = all-held-lie i j xs h
layout-lie s kind.FunctionDeclaration a i j xs e h = absent-lie i j (behind_first xs) (behind-first-lie i j xs h)
layout-lie s k a i j xs e h = h
