-- Rows of nodes, of types and of fields: their lengths, their elements, and what is known of them.
use Rattle.std.proofs.Common.{◌≡◌, ℕ, suc, zero, ◌+◌, ◌<◌, ◌≤◌, List, [], ◌∷◌, ◌++◌, length, drop, get_or, map, Option, Some, None, refl, ap, sym, ◌∙◌, subst, arith}
use Rattle.std.proofs.lemmas.List.{append_assoc, drop_more}
use Rattle.std.specs.Option.{option_map}
use Rattle.std.specs.List.{AllByRecursion}
use Rattle.std.specs.Borrow.{Bor}
use Rattle.go_types.specs.Trees.{TypeTree, row}
use Rattle.go_types.specs.Tables.{Table}
use Rattle.go_typed.specs.declared.node.TypedNode.{TypedNode}
use Rattle.go_typed.specs.Views.{seen, Known}
use Rattle.go_exprs_rules.specs.Calls.{row_length}
use Rattle.go_exprs_rules.specs.Indexes.{type_at}
use Rattle.go_exprs_rules.specs.Literals.{nth_part}
use Rattle.go_exprs_rules.specs.Settling.{Part}
use Rattle.go_exprs_rules.specs.Tables.{present}
use Rattle.go_exprs_rules.proofs.Public.{drop_step}
use Rattle.go_exprs_calls.specs.Shown.{shown, AllShownKnown}

pub length-shown : (t : Table) (ns : List (Bor TypedNode)) → length (shown t ns) ≡ length ns
length-shown t [] = refl
length-shown t (n ∷ ns) = ap suc (length-shown t ns)

pub length-mapped : {A B : Type 0} (f : A → B) (xs : List A) → length (map f xs) ≡ length xs
length-mapped f [] = refl
length-mapped f (x ∷ xs) = ap suc (length-mapped f xs)

pub length-row : (ts : List TypeTree) → row_length (row ts) ≡ length ts
length-row [] = refl
length-row (t ∷ ts) = ap suc (length-row ts)

pub length-mapped_row : {A : Type 0} (f : A → TypeTree) (xs : List A) → row_length (row (map f xs)) ≡ length xs
length-mapped_row f xs = length-row (map f xs) ∙ length-mapped f xs

pub mapped_step : {A B : Type 0} (f : A → B) (xs : List A) (i : ℕ) (d : A) → i < length xs → map f (drop i xs) ≡ f (get_or xs i d) ∷ map f (drop (i + 1) xs)
mapped_step f xs i d lt = ap (map f) (drop_more xs i d lt)

pub front_known : {A : Type 0} (P : A → Type 0) (xs ys : List A) → AllByRecursion P (xs ++ ys) → AllByRecursion P xs
front_known P [] ys h = tt
front_known P (x ∷ xs) ys h = (h.0, front_known P xs ys h.1)

pub back_known : {A : Type 0} (P : A → Type 0) (xs ys : List A) → AllByRecursion P (xs ++ ys) → AllByRecursion P ys
back_known P [] ys h = h
back_known P (x ∷ xs) ys h = back_known P xs ys h.1

pub shown-append : (t : Table) (ns ms : List (Bor TypedNode)) → shown t (ns ++ ms) ≡ shown t ns ++ shown t ms
shown-append t [] ms = refl
shown-append t (n ∷ ns) ms = ap (λ xs. seen t n.now ∷ xs) (shown-append t ns ms)

pub shown_known-append : (k : ℕ) (ns ms : List (Bor TypedNode)) → AllShownKnown k ns → AllShownKnown k ms → AllShownKnown k (ns ++ ms)
shown_known-append k [] ms g h = h
shown_known-append k (n ∷ ns) ms g h = (g.0, shown_known-append k ns ms g.1 h)

-- one more part that is there
pub present_step : (t : Table) (ps : List (Option TypedNode)) (i : ℕ) (p : TypedNode) (d : Option TypedNode) (ns ms : List (Bor TypedNode)) (n : Bor TypedNode) (due : List Part) → i < length ps → Some p ≡ get_or ps i d → n.now ≡ p → ms ≡ ns ++ n ∷ []
    → shown t ns ++ present (map (option_map (seen t)) (drop i ps)) ≡ due → shown t ms ++ present (map (option_map (seen t)) (drop (i + 1) ps)) ≡ due
present_step t ps i p d ns ms n due lt is same pushed before =
    let rest = present (map (option_map (seen t)) (drop (i + 1) ps)) in
    ap (λ os. shown t os ++ rest) pushed ∙ ap (λ xs. xs ++ rest) (shown-append t ns (n ∷ [])) ∙ append_assoc (shown t ns) (seen t n.now ∷ []) rest ∙ ap (λ o. shown t ns ++ seen t o ∷ rest) same ∙ sym (ap (λ qs. shown t ns ++ present (map (option_map (seen t)) qs)) (drop_step ps i (Some p) d lt is)) ∙ before

-- what is asked of the rows of types and nodes by their numbers

pub nth_within : (t : Table) (ns : List (Bor TypedNode)) (i : ℕ) (d : Bor TypedNode) → i < length ns → nth_part (shown t ns) i ≡ Some (seen t (get_or ns i d).now)
nth_within t [] i d lt = absurd (omega (arith, lt))
nth_within t (n ∷ ns) zero d lt = refl
nth_within t (n ∷ ns) (suc i) d lt = nth_within t ns i d (omega (arith, lt))

pub nth_past : (t : Table) (ns : List (Bor TypedNode)) (i : ℕ) → length ns ≤ i → nth_part (shown t ns) i ≡ None
nth_past t [] i le = refl
nth_past t (n ∷ ns) zero le = absurd (omega (arith, le))
nth_past t (n ∷ ns) (suc i) le = nth_past t ns i (omega (arith, le))

pub type_within : {A : Type 0} (f : A → TypeTree) (xs : List A) (i : ℕ) (d : A) → i < length xs → type_at (row (map f xs)) i ≡ Some (f (get_or xs i d))
type_within f [] i d lt = absurd (omega (arith, lt))
type_within f (x ∷ xs) zero d lt = refl
type_within f (x ∷ xs) (suc i) d lt = type_within f xs i d (omega (arith, lt))

pub type_past : {A : Type 0} (f : A → TypeTree) (xs : List A) (i : ℕ) → length xs ≤ i → type_at (row (map f xs)) i ≡ None
type_past f [] i le = refl
type_past f (x ∷ xs) zero le = absurd (omega (arith, le))
type_past f (x ∷ xs) (suc i) le = type_past f xs i (omega (arith, le))

pub known_within : {A B : Type 0} (P : B → Type 0) (g : A → B) (xs : List A) (i : ℕ) (d : A) → i < length xs → AllByRecursion P (map g xs) → P (g (get_or xs i d))
known_within P g [] i d lt h = absurd (omega (arith, lt))
known_within P g (x ∷ xs) zero d lt h = h.0
known_within P g (x ∷ xs) (suc i) d lt h = known_within P g xs i d (omega (arith, lt)) h.1

pub known_push : (k : ℕ) (ns ms : List (Bor TypedNode)) (n : Bor TypedNode) → ms ≡ ns ++ n ∷ [] → AllShownKnown k ns → Known k n.now → AllShownKnown k ms
known_push k ns ms n e g h = subst (AllShownKnown k) (sym e) (shown_known-append k ns (n ∷ []) g (h, tt))
