-- Tables of the masses of statement lists, taken apart and put together.
use Rattle.std.proofs.Common.{◌≡◌, ℕ, zero, suc, ◌+◌, ◌^◌, ◌<◌, ◌≤◌, Bool, true, false, List, [], ◌∷◌, ◌++◌, length, map, take, drop, Option, Some, None, get_or, Vec, Global, slice_get, slice_set, subst, refl, sym, ap, ◌∙◌, arith, append_assoc, length-append}
use Rattle.std.specs.Prelude.{sum, if◌then◌else◌}
use Rattle.std.proofs.lemmas.List.Sums.{sum_by-cons}
use Rattle.go_typed.specs.declared.form.Form.{Form}
use Rattle.go_typed.specs.declared.form.Form.TheVariants as form
use Rattle.go_typed.specs.declared.node.TypedNode.{TypedNode, out-TypedNode}
use Rattle.go_typed.specs.Forms.{is_statement_list}
use Rattle.go_typed.specs.Funcs.{size, sizes}
use Rattle.go_typed.specs.Views.{view, views, label_at}
use Rattle.go_typed.specs.Lists.{own_list, statement_lists, lists_among}
use Rattle.go_typed.specs.Trees.{Label, Typed, typed, Typeds, none, more, skip}
use Rattle.clone_window.specs.Masses.{mass, masses, each_mass}
use Rattle.clone_window.specs.Weights.{mass_at, own_row, row_masses, rows, weights, weights_among}
use Rattle.clone_window.proofs.Opened.{view_out}
use Rattle.clone_window.proofs.RunParts.{drop-both}

own-many : {A B : Type 0} (b : Bool) (x : A) (y : B) → length (if b then y ∷ [] else []) ≡ length (if b then x ∷ [] else [])
own-many true x y = refl
own-many false x y = refl

mutual
  -- each statement list has a row
  pub as-many : (t : Typed ℕ) → length (weights t) ≡ length (statement_lists t)
  as-many (typed f i j l ps) =
      omega (arith, own-many (is_statement_list f) (typed f i j l ps) (row_masses ps), as-many-among ps, length-append (own_row f ps) (weights_among ps), length-append (own_list (typed f i j l ps)) (lists_among ps))

  pub as-many-among : (ps : Typeds ℕ) → length (weights_among ps) ≡ length (lists_among ps)
  as-many-among none = refl
  as-many-among (more p ps) = omega (arith, as-many p, as-many-among ps, length-append (weights p) (weights_among ps), length-append (statement_lists p) (lists_among ps))
  as-many-among (skip ps) = as-many-among ps

split-front : {A : Type 0} (zs xs ys : List A) → take (length (xs ++ ys)) zs ≡ xs ++ ys → (take (length xs) zs ≡ xs) × (take (length ys) (drop (length xs) zs) ≡ ys)
split-front zs [] ys e = (refl, e)
split-front [] (x ∷ xs) ys e = cc
split-front (z ∷ zs) (x ∷ xs) ys e =
    let head : z ≡ x = cc in
    let tail : take (length (xs ++ ys)) zs ≡ xs ++ ys = cc in
    let r = split-front zs xs ys tail in
    (ap (λ a. a ∷ take (length xs) zs) head ∙ ap (λ l. x ∷ l) r.0, r.1)

-- rows for two runs are those of the one and, behind them, those of the other
pub table-split : {A : Type 0} (n : ℕ) (table xs ys : List A) → take (length (xs ++ ys)) (drop n table) ≡ xs ++ ys →
    (take (length xs) (drop n table) ≡ xs) × (take (length ys) (drop (n + length xs) table) ≡ ys)
table-split n table xs ys e =
    let r = split-front (drop n table) xs ys e in
    let k : length xs + n ≡ n + length xs = omega arith in
    (r.0, ap (λ m. take (length ys) (drop m table)) (sym k) ∙ ap (take (length ys)) (sym (drop-both n (length xs) table)) ∙ r.1)

-- the row at a place
pub row-there : {A : Type 0} (n : ℕ) (table : List A) (k : ℕ) (x : A) (xs : List A) → take (suc k) (drop n table) ≡ x ∷ xs → (slice_get table n ≡ Some x) × (take k (drop (suc n) table) ≡ xs)
row-there zero [] k x xs e = cc
row-there zero (z ∷ table) k x xs e =
    let head : z ≡ x = cc in
    let tail : take k table ≡ xs = cc in
    (ap Some head, tail)
row-there (suc n) [] k x xs e = cc
row-there (suc n) (z ∷ table) k x xs e = row-there n table k x xs e

-- the rows of a statement list are its own and those within it
pub list-rows : (f : Form) (i j : ℕ) (l : Label ℕ) (ps : Typeds ℕ) → is_statement_list f ≡ true → weights (typed f i j l ps) ≡ row_masses ps ∷ weights_among ps
list-rows f i j l ps h = ap (λ b. (if b then row_masses ps ∷ [] else []) ++ weights_among ps) h

pub other-rows : (f : Form) (i j : ℕ) (l : Label ℕ) (ps : Typeds ℕ) → is_statement_list f ≡ false → weights (typed f i j l ps) ≡ weights_among ps
other-rows f i j l ps h = ap (λ b. (if b then row_masses ps ∷ [] else []) ++ weights_among ps) h

-- ---- masses of statement lists

masses-each : (ps : Typeds ℕ) → masses false ps ≡ sum (each_mass ps)
masses-each none = refl
masses-each (more p ps) = ap (λ s. mass false p + s) (masses-each ps) ∙ sym (sum_by-cons (λ x. x) (mass false p) (each_mass ps))
masses-each (skip ps) = masses-each ps

list-mass-of : (f : Form) (i j : ℕ) (l : Label ℕ) (ps : Typeds ℕ) → is_statement_list f ≡ true → mass false (typed f i j l ps) ≡ mass_at false f l (masses false ps)
list-mass-of form.Block i j l ps h = refl
list-mass-of (form.Case n) i j l ps h = refl
list-mass-of form.Default i j l ps h = refl
list-mass-of form.Function i j l ps h = cc
list-mass-of form.Expression i j l ps h = cc
list-mass-of (form.Step s) i j l ps h = cc
list-mass-of (form.Assign n) i j l ps h = cc
list-mass-of (form.Operate a) i j l ps h = cc
list-mass-of (form.Define n) i j l ps h = cc
list-mass-of form.Variables i j l ps h = cc
list-mass-of form.Constants i j l ps h = cc
list-mass-of form.TypeNames i j l ps h = cc
list-mass-of (form.Specified n) i j l ps h = cc
list-mass-of form.Return i j l ps h = cc
list-mass-of form.Break i j l ps h = cc
list-mass-of form.Continue i j l ps h = cc
list-mass-of form.Fallthrough i j l ps h = cc
list-mass-of form.If i j l ps h = cc
list-mass-of form.Switch i j l ps h = cc
list-mass-of form.For i j l ps h = cc
list-mass-of (form.Range d n) i j l ps h = cc
list-mass-of (form.Local n) i j l ps h = cc
list-mass-of (form.New n) i j l ps h = cc
list-mass-of (form.Declared n) i j l ps h = cc
list-mass-of (form.Object r) i j l ps h = cc
list-mass-of form.Blank i j l ps h = cc
list-mass-of form.Literal i j l ps h = cc
list-mass-of form.Parenthesized i j l ps h = cc
list-mass-of (form.Selector n) i j l ps h = cc
list-mass-of form.Index i j l ps h = cc
list-mass-of form.Slice i j l ps h = cc
list-mass-of form.Call i j l ps h = cc
list-mass-of form.Conversion i j l ps h = cc
list-mass-of form.Composite i j l ps h = cc
list-mass-of (form.Unary s) i j l ps h = cc
list-mass-of (form.Binary o) i j l ps h = cc
list-mass-of (form.Keyed n) i j l ps h = cc
list-mass-of form.Type i j l ps h = cc
list-mass-of (form.Held k) i j l ps h = cc

-- a statement list outside constant expressions weighs what its parts do, and itself
pub list-mass : (f : Form) (i j : ℕ) (l : Label ℕ) (ps : Typeds ℕ) → is_statement_list f ≡ true → mass false (typed f i j l ps) ≡ mass_at false f l (sum (each_mass ps))
list-mass f i j l ps h = list-mass-of f i j l ps h ∙ ap (mass_at false f l) (masses-each ps)

-- ---- tables

pub map-join : {A B : Type 0} (f : A → B) (xs ys : List A) → map f (xs ++ ys) ≡ map f xs ++ map f ys
map-join f [] ys = refl
map-join f (x ∷ xs) ys = ap (λ l. f x ∷ l) (map-join f xs ys)

pub row-count : (vs : List (Vec ℕ Global)) → length vs ≡ length (rows vs)
row-count [] = refl
row-count (v ∷ vs) = ap suc (row-count vs)

-- a row takes another one's place
pub set-row : (vs : List (Vec ℕ Global)) (n : ℕ) (v : Vec ℕ Global) (before after : List (List ℕ)) (r : List ℕ) → rows vs ≡ before ++ r ∷ after → n ≡ length before →
    rows (slice_set vs n v) ≡ before ++ v.items ∷ after
set-row [] n v [] after r e k = cc
set-row [] n v (b ∷ bs) after r e k = cc
set-row (x ∷ vs) zero v [] after r e k = let t : rows vs ≡ after = cc in ap (λ l. v.items ∷ l) t
set-row (x ∷ vs) (suc n) v [] after r e k = absurd (omega (arith, k))
set-row (x ∷ vs) zero v (b ∷ bs) after r e k = absurd (omega (arith, k))
set-row (x ∷ vs) (suc n) v (b ∷ bs) after r e k =
    let h : x.items ≡ b = cc in
    let t : rows vs ≡ bs ++ r ∷ after = cc in
    ap (λ i. i ∷ rows (slice_set vs n v)) h ∙ ap (λ l. b ∷ l) (set-row vs n v bs after r t (omega (arith, k)))

-- what a node that is a statement list leaves to its parts
pub list-call : (node : TypedNode) (parts : List (Option TypedNode)) (next : ℕ) (table : List (List ℕ)) → parts ≡ (out-TypedNode node).parts.items →
    is_statement_list (out-TypedNode node).form ≡ true → next + size (view node) < 2 ^ 32 → take (length (weights (view node))) (drop next table) ≡ weights (view node) →
    (next + 1 + sizes (views parts) < 2 ^ 32) × (slice_get table next ≡ Some (row_masses (views parts))) × (take (length (weights_among (views parts))) (drop (next + 1) table) ≡ weights_among (views parts))
list-call node parts next table p h room e =
    let n = out-TypedNode node in
    let ps = views n.parts.items in
    let ws : weights (view node) ≡ row_masses ps ∷ weights_among ps = ap weights (view_out node) ∙ list-rows n.form n.first n.last (label_at n) ps h in
    let here : take (suc (length (weights_among ps))) (drop next table) ≡ row_masses ps ∷ weights_among ps = subst (λ w. take (length w) (drop next table) ≡ w) ws e in
    let r = row-there next table (length (weights_among ps)) (row_masses ps) (weights_among ps) here in
    let many : size (view node) ≡ suc (sizes ps) = ap size (view_out node) in
    let k : suc next ≡ next + 1 = omega arith in
    let Q : List (Option TypedNode) → Type 0 = λ xs. (next + 1 + sizes (views xs) < 2 ^ 32) × (slice_get table next ≡ Some (row_masses (views xs))) × (take (length (weights_among (views xs))) (drop (next + 1) table) ≡ weights_among (views xs)) in
    subst Q (sym p) (omega (arith, room, many), r.0, ap (λ m. take (length (weights_among ps)) (drop m table)) (sym k) ∙ r.1)

-- what another node leaves to its parts
pub other-call : (node : TypedNode) (parts : List (Option TypedNode)) (next : ℕ) (table : List (List ℕ)) → parts ≡ (out-TypedNode node).parts.items →
    is_statement_list (out-TypedNode node).form ≡ false → next + size (view node) < 2 ^ 32 → take (length (weights (view node))) (drop next table) ≡ weights (view node) →
    (next + sizes (views parts) < 2 ^ 32) × (take (length (weights_among (views parts))) (drop next table) ≡ weights_among (views parts))
other-call node parts next table p h room e =
    let n = out-TypedNode node in
    let ps = views n.parts.items in
    let ws : weights (view node) ≡ weights_among ps = ap weights (view_out node) ∙ other-rows n.form n.first n.last (label_at n) ps h in
    let here : take (length (weights_among ps)) (drop next table) ≡ weights_among ps = subst (λ w. take (length w) (drop next table) ≡ w) ws e in
    let many : size (view node) ≡ suc (sizes ps) = ap size (view_out node) in
    let Q : List (Option TypedNode) → Type 0 = λ xs. (next + sizes (views xs) < 2 ^ 32) × (take (length (weights_among (views xs))) (drop next table) ≡ weights_among (views xs)) in
    subst Q (sym p) (omega (arith, room, many), here)

-- the parts of a node are smaller
pub size-parts : (node : TypedNode) (parts : List (Option TypedNode)) → parts ≡ (out-TypedNode node).parts.items → size (view node) ≡ suc (sizes (views parts))
size-parts node parts p = ap size (view_out node) ∙ ap (λ xs. suc (sizes (views xs))) (sym p)

pub size-part : (parts : List (Option TypedNode)) (i : ℕ) (part : Option TypedNode) (node : TypedNode) → i < length parts → part ≡ get_or parts i part → part ≡ Some node → size (view node) ≤ sizes (views parts)
size-part [] i part node h e s = absurd (omega (arith, h))
size-part (None ∷ xs) zero part node h e s = cc
size-part (Some y ∷ xs) zero part node h e s = let k : y ≡ node = cc in omega (arith, ap (λ n. size (view n)) k)
size-part (None ∷ xs) (suc i) part node h e s = size-part xs i part node (omega (arith, h)) e s
size-part (Some y ∷ xs) (suc i) part node h e s = omega (arith, size-part xs i part node (omega (arith, h)) e s)

-- A statement list puts its own row in front of those within it.
pub list-put : (node : TypedNode) (vs us ws xs : List (Vec ℕ Global)) (empty own : Vec ℕ Global) (parts : List (Option TypedNode)) → parts ≡ (out-TypedNode node).parts.items →
    is_statement_list (out-TypedNode node).form ≡ true → us ≡ vs ++ empty ∷ [] → empty.items ≡ [] → rows ws ≡ rows us ++ weights_among (views parts) → own.items ≡ row_masses (views parts) →
    ((before after : List (List ℕ)) → rows ws ≡ before ++ [] ∷ after → length vs ≡ length before → rows xs ≡ before ++ own.items ∷ after) →
    rows xs ≡ rows vs ++ weights (view node)
list-put node vs us ws xs empty own parts p h push blank below mine put =
    let n = out-TypedNode node in
    let within = weights_among (views parts) in
    let before : rows ws ≡ rows vs ++ [] ∷ within =
    below ∙ ap (λ l. rows l ++ within) push ∙ ap (λ l. l ++ within) (map-join (λ v. v.items) vs (empty ∷ []) ∙ ap (λ i. rows vs ++ i ∷ []) blank) ∙ append_assoc (rows vs) ([] ∷ []) within in
    put (rows vs) within before (row-count vs)
    ∙ ap (λ i. rows vs ++ i ∷ within) mine
    ∙ ap (λ ps. rows vs ++ row_masses (views ps) ∷ weights_among (views ps)) p
    ∙ ap (λ l. rows vs ++ l) (sym (list-rows n.form n.first n.last (label_at n) (views n.parts.items) h) ∙ sym (ap weights (view_out node)))
