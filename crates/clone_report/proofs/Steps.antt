-- Steps of the loops of the program.
use Rattle.std.proofs.Common.{◌≡◌, ◌∙◌, ℕ, zero, suc, ◌+◌, ◌≤◌, ◌<◌, Bool, true, false, List, [], ◌∷◌, ◌++◌, map, take, length, get_or, Option, Some, slice_get, refl, sym, ap, subst, arith, append_assoc}
use Rattle.std.specs.Prelude.{cond, max, not, if◌then◌else◌}
use Rattle.std.specs.List.{flat_map, list_any, range_with_len}
use Rattle.std.specs.Option.{option_map}
use Rattle.std.proofs.lemmas.List.{append-nil, length-map, take_all}
use Rattle.std.proofs.lemmas.Option.{same_Some, slice_get-map, slice_get_read}
use Rattle.go_tree.specs.File.{FileTree}
use Rattle.go_typed.specs.declared.window.Class.{Class}
use Rattle.go_typed.specs.declared.window.Window.{Window}
use Rattle.clone_window.specs.declared.span.FunctionPlace.{FunctionPlace}
use Rattle.clone_window.specs.Bodies.{Body, body_of}
use Rattle.clone_window.specs.Spans.{places_from}
use Rattle.go_typed.specs.Funcs.{FuncView, tree_of}
use Rattle.clone_classes.specs.Classes.{Among}
use Rattle.clone_classes.specs.Listing.{members_of}
use Rattle.clone_report.specs.declared.ends.Start.{Start}
use Rattle.clone_report.specs.declared.run.Run.{Run}
use Rattle.clone_report.specs.declared.tally.Tally.{Tally}
use Rattle.clone_report.specs.Covered.{counted, coverage, is_placed, stands, statements_from, statements_in, statements_there}
use Rattle.clone_report.specs.Ends.{added, end_at, Reaches, same_start, stands_by, start_of}
use Rattle.clone_report.specs.Keys.{numbered, run_of, same_run, with_number, Tells}
use Rattle.clone_report.specs.Maximal.{is_maximal, is_subsumed_by, maximal_from}
use Rattle.clone_report.proofs.Counted.{added-none, from-nothing}
use Rattle.clone_report.proofs.Furthest.{from-same, reaches-more, stands-says}
use Rattle.clone_report.proofs.Lists.{among-there}
use Rattle.clone_report.proofs.Subsumed.{if-maximal, maximal-more}
use Rattle.clone_report.proofs.Table.{classes-more, members-more, tells-more}

-- ---- lists

-- the members of the class at a place
pub members-at : (cs : List Class) (i : ℕ) (x : Class) → i < length cs → x ≡ get_or cs i x → slice_get (members_of cs) i ≡ Some x.members
members-at cs i x h e = slice_get-map (λ c. c.members) cs i ∙ ap (option_map (λ c. c.members)) (slice_get_read cs (length cs) i x refl h e)

pub among-members : (cs : List Class) (i : ℕ) (x : Class) → i < length cs → x ≡ get_or cs i x → Among (members_of cs) x.members
among-members cs i x h e = among-there (members_of cs) i x.members (members-at cs i x h e)

pub all-taken : (cs : List Class) (i : ℕ) → length cs ≤ i → take i (members_of cs) ≡ members_of cs
all-taken cs i h = take_all i (members_of cs) (let k : length (members_of cs) ≡ length cs = length-map cs (λ c. c.members) in omega (arith, h, k))

take-next : {A : Type 0} (i : ℕ) (xs : List A) (x : A) → slice_get xs i ≡ Some x → take (i + 1) xs ≡ take i xs ++ x ∷ []
take-next i [] x e = cc
take-next zero (y ∷ xs) x e = ap (λ z. z ∷ []) (same_Some y x e)
take-next (suc i) (y ∷ xs) x e = ap (λ k. take k (y ∷ xs)) (let k : suc i + 1 ≡ suc (i + 1) = omega arith in k) ∙ ap (λ l. y ∷ l) (take-next i xs x e)

flat-next : {A : Type 0} (i : ℕ) (xss : List (List A)) (xs : List A) → slice_get xss i ≡ Some xs → flat_map (λ c. c) (take (i + 1) xss) ≡ flat_map (λ c. c) (take i xss) ++ xs
flat-next i [] xs e = cc
flat-next zero (ys ∷ xss) xs e = append-nil ys ∙ same_Some ys xs e
flat-next (suc i) (ys ∷ xss) xs e =
    ap (λ k. flat_map (λ c. c) (take k (ys ∷ xss))) (let k : suc i + 1 ≡ suc (i + 1) = omega arith in k)
    ∙ ap (λ l. ys ++ l) (flat-next i xss xs e)
    ∙ sym (append_assoc ys (flat_map (λ c. c) (take i xss)) xs)

range-more : (a n : ℕ) → range_with_len a (suc n) ≡ range_with_len a n ++ (a + n) ∷ []
range-more a zero = ap (λ k. k ∷ []) (let e : a ≡ a + 0 = omega arith in e)
range-more a (suc n) =
    ap (λ l. a ∷ l) (range-more (a + 1) n ∙ ap (λ k. range_with_len (a + 1) n ++ k ∷ []) (let e : a + 1 + n ≡ a + suc n = omega arith in e))

map-push : {A B : Type 0} (f : A → B) (xs : List A) (x : A) → map f (xs ++ x ∷ []) ≡ map f xs ++ f x ∷ []
map-push f [] x = refl
map-push f (y ∷ xs) x = ap (λ l. f y ∷ l) (map-push f xs x)

-- one number more
pub numbers-next : {B : Type 0} (f : ℕ → B) (n : ℕ) (out out' : List B) (x : B) → out ≡ map f (range_with_len 0 n) → x ≡ f n → out' ≡ out ++ x ∷ [] → out' ≡ map f (range_with_len 0 (n + 1))
numbers-next f n out out' x e h k =
    k
    ∙ ap (λ o. o ++ x ∷ []) e
    ∙ ap (λ y. map f (range_with_len 0 n) ++ y ∷ []) (h ∙ ap f (let z : n ≡ 0 + n = omega arith in z))
    ∙ sym (map-push f (range_with_len 0 n) (0 + n))
    ∙ ap (map f) (sym (range-more 0 n))
    ∙ ap (λ m. map f (range_with_len 0 m)) (let z : suc n ≡ n + 1 = omega arith in z)

-- ---- the table of classes

pub tells-step : (g g' : Run → Option ℕ) (ps : List (Window × ℕ)) (ws : List Window) (i n : ℕ) (w : Window) (key : Run) → slice_get ws i ≡ Some w → key ≡ run_of w →
    Tells g (ps ++ map (with_number n) (take i ws)) → ((r : Run) → g' r ≡ cond (same_run key r) (Some n) (g r)) → Tells g' (ps ++ map (with_number n) (take (i + 1) ws))
tells-step g g' ps ws i n w key e k h u =
    subst (λ (qs : List (Window × ℕ)). Tells g' qs) (sym (members-more n i ps ws w e))
    (tells-more g g' (ps ++ map (with_number n) (take i ws)) w n h (λ r. u r ∙ ap (λ x. cond (same_run x r) (Some n) (g r)) k))

pub tells-class : (g : Run → Option ℕ) (cs : List Class) (i : ℕ) (x : Class) → i < length cs → x ≡ get_or cs i x →
    Tells g (numbered 0 (take i (members_of cs)) ++ map (with_number i) x.members) → Tells g (numbered 0 (take (i + 1) (members_of cs)))
tells-class g cs i x lt is h =
    let e : numbered 0 (take (i + 1) (members_of cs)) ≡ numbered 0 (take i (members_of cs)) ++ map (with_number i) x.members
    = classes-more 0 i (members_of cs) x.members (members-at cs i x lt is) ∙ ap (λ k. numbered 0 (take i (members_of cs)) ++ map (with_number k) x.members) (let z : 0 + i ≡ i = omega arith in z) in
    subst (λ (qs : List (Window × ℕ)). Tells g qs) (sym e) h

pub tells-all : (g : Run → Option ℕ) (cs : List Class) (i : ℕ) → length cs ≤ i → Tells g (numbered 0 (take i (members_of cs))) → Tells g (numbered 0 (members_of cs))
tells-all g cs i h t = subst (λ (ms : List (List Window)). Tells g (numbered 0 ms)) (all-taken cs i h) t

-- ---- maximal classes

pub maximal-next : (all : List (List Window)) (cs : List Class) (i : ℕ) (x : Class) (b : Bool) (out out' : List ℕ) → i < length cs → x ≡ get_or cs i x → out ≡ maximal_from all 1 (take i (members_of cs)) →
    b ≡ list_any (is_subsumed_by x.members) all → out' ≡ out ++ if-maximal (not b) (i + 1) → out' ≡ maximal_from all 1 (take (i + 1) (members_of cs))
maximal-next all cs i x b out out' lt is h t e =
    e
    ∙ ap (λ o. o ++ if-maximal (not b) (i + 1)) h
    ∙ ap (λ d. maximal_from all 1 (take i (members_of cs)) ++ if-maximal (not d) (i + 1)) t
    ∙ ap (λ k. maximal_from all 1 (take i (members_of cs)) ++ if-maximal (is_maximal all x.members) k) (let z : i + 1 ≡ 1 + i = omega arith in z)
    ∙ sym (maximal-more all 1 i (members_of cs) x.members (members-at cs i x lt is))

pub maximal-kept : (all : List (List Window)) (cs : List Class) (i : ℕ) (x : Class) (out out' : List ℕ) → i < length cs → x ≡ get_or cs i x → out ≡ maximal_from all 1 (take i (members_of cs)) →
    false ≡ list_any (is_subsumed_by x.members) all → out' ≡ out ++ (i + 1) ∷ [] → out' ≡ maximal_from all 1 (take (i + 1) (members_of cs))
maximal-kept all cs i x out out' lt is h t e = maximal-next all cs i x false out out' lt is h t e

pub maximal-passed : (all : List (List Window)) (cs : List Class) (i : ℕ) (x : Class) (out : List ℕ) → i < length cs → x ≡ get_or cs i x → out ≡ maximal_from all 1 (take i (members_of cs)) →
    true ≡ list_any (is_subsumed_by x.members) all → out ≡ maximal_from all 1 (take (i + 1) (members_of cs))
maximal-passed all cs i x out lt is h t = maximal-next all cs i x true out out lt is h t (sym (append-nil out))

-- ---- the table of ends

pub reaches-step : (g g' : Start → Option ℕ) (ws ms : List Window) (i : ℕ) (w : Window) (key : Start) (end : ℕ) → slice_get ms i ≡ Some w → key ≡ start_of w →
    Reaches g (ws ++ take i ms) → end ≡ max (end_at g key) (w.first + w.count) → ((s : Start) → g' s ≡ cond (same_start key s) (Some end) (g s)) → Reaches g' (ws ++ take (i + 1) ms)
reaches-step g g' ws ms i w key end e k h m u =
    let t : (ws ++ take i ms) ++ w ∷ [] ≡ ws ++ take (i + 1) ms = append_assoc ws (take i ms) (w ∷ []) ∙ ap (λ l. ws ++ l) (sym (take-next i ms w e)) in
    subst (λ (vs : List Window). Reaches g' vs) t
    (reaches-more g g' (ws ++ take i ms) w end h (m ∙ ap (λ x. max (end_at g x) (w.first + w.count)) k) (λ s. u s ∙ ap (λ x. cond (same_start x s) (Some end) (g s)) k))

pub reaches-class : (g : Start → Option ℕ) (cs : List Class) (i : ℕ) (x : Class) → i < length cs → x ≡ get_or cs i x →
    Reaches g (flat_map (λ c. c) (take i (members_of cs)) ++ x.members) → Reaches g (flat_map (λ c. c) (take (i + 1) (members_of cs)))
reaches-class g cs i x lt is h = subst (λ (vs : List Window). Reaches g vs) (sym (flat-next i (members_of cs) x.members (members-at cs i x lt is))) h

pub reaches-all : (g : Start → Option ℕ) (cs : List Class) (i : ℕ) → length cs ≤ i → Reaches g (flat_map (λ c. c) (take i (members_of cs))) → Reaches g (flat_map (λ c. c) (members_of cs))
reaches-all g cs i h t = subst (λ (ms : List (List Window)). Reaches g (flat_map (λ c. c) ms)) (all-taken cs i h) t

-- ---- the statements of a file

-- a function of the file, and one of another
pub there-counted : (stands : ℕ → ℕ → ℕ → Bool) (places : List FunctionPlace) (file : ℕ) (f : FuncView) (now now' : Tally) → true ≡ is_placed file (slice_get places f.number) →
    now' ≡ added now (statements_in (stands f.number) false 0 (tree_of f)) → now' ≡ added now (statements_there stands places file f.number (body_of f))
there-counted stands places file f now now' h e = e ∙ ap (λ b. added now (if b then statements_in (stands f.number) false 0 (tree_of f) else [])) h

pub elsewhere-counted : (stands : ℕ → ℕ → ℕ → Bool) (places : List FunctionPlace) (file : ℕ) (f : FuncView) (now : Tally) → false ≡ is_placed file (slice_get places f.number) →
    now ≡ added now (statements_there stands places file f.number (body_of f))
elsewhere-counted stands places file f now h = sym (added-none now) ∙ ap (λ b. added now (if b then statements_in (stands f.number) false 0 (tree_of f) else [])) h

-- the counts of a file are those of the definition
pub coverage-told : {T : Type 0} (g : Start → Option ℕ) (cs : List (List Window)) (files : List FileTree) (places : List FunctionPlace) (bodies : List (Body T)) (file : ℕ) (t : Tally) →
    Reaches g (flat_map (λ c. c) cs) → places ≡ places_from 0 files → t ≡ added (record { covered = 0; statements = 0 }) (statements_from (stands_by g) places file 0 bodies) →
    (t.covered, t.statements) ≡ coverage cs files bodies file
coverage-told g cs files places bodies file t h p e =
    from-nothing t (statements_from (stands_by g) places file 0 bodies) e
    ∙ ap (λ ps. counted (statements_from (stands_by g) ps file 0 bodies)) p
    ∙ ap counted (from-same (stands_by g) (stands cs) (stands-says g cs h) (places_from 0 files) file 0 bodies)
