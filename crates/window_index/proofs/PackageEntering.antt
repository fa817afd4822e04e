-- How the functions of a package come into its index, one behind the other.
use Rattle.std.proofs.Common.{◌≡◌, ◌∙◌, ℕ, zero, suc, ◌+◌, ◌<◌, ◌≤◌, Bool, true, false, List, [], ◌∷◌, ◌++◌, length, map, drop, Some, slice_get, refl, sym, ap, subst, arith, length-append}
use Rattle.std.specs.Prelude.{nat_eq}
use Rattle.std.specs.List.{AllByRecursion, sum_by}
use Rattle.std.specs.List.Sorted.{IsPermutation}
use Rattle.std.proofs.lemmas.Bool.{eqb-true}
use Rattle.std.proofs.lemmas.List.{append_assoc, append-nil, map-append}
use Rattle.std.proofs.lemmas.List.Elements.{All-from_recursion, recursion_from_All, All-append}
use Rattle.std.proofs.lemmas.List.Sums.{sum_by-append, sum_by-le-sum_by}
use Rattle.std.proofs.lemmas.List.Sorted.{All-permutation, IsPermutation-refl, IsPermutation-trans, IsPermutation-append_left}
use Rattle.go_base.specs.Steps.{Counts}
use Rattle.go_typed.specs.declared.window.Window.{Window}
use Rattle.go_typed.specs.Funcs.{FuncView, tree_of}
use Rattle.go_typed.specs.Packages.{PackageView, are_numbered}
use Rattle.clone_window.specs.declared.bounds.Bounds.{Bounds}
use Rattle.clone_window.specs.Windows.{windows}
use Rattle.clone_window.specs.Bodies.{Body, bodies_of, body_of, same_in}
use Rattle.clone_classes.specs.Listing.{windows_of_all}
use Rattle.clone_classes.proofs.Public.{functions-step, number-is}
use Rattle.alpha_hash_defs.specs.Sharing.{numbered, windows_of_func}
use Rattle.alpha_hash_defs.proofs.Public as functions
use Rattle.window_index.specs.Buckets.{Bucket, all_entered, held, is_of}
use Rattle.window_index.specs.Counting.{group_count, rivals}
use Rattle.window_index.proofs.Joining.{all-count-grows, all-entered-more}
use Rattle.window_index.specs.Fitting.{FitsPackage, IndexView}
use Rattle.window_index.proofs.Owners.{own-windows}
use Rattle.window_index.specs.Holding.{HoldsPackage}

-- ---- the windows of one function and of those behind it

-- the windows of the functions from one on
abbrev pub windows_from : Bounds → List FuncView → ℕ → List Window
windows_from bounds fs at = windows_of_all bounds at (bodies_of (drop at fs))

one-and-rest : (bounds : Bounds) (fs : List FuncView) (at : ℕ) (f : FuncView) → are_numbered 0 fs ≡ true → slice_get fs at ≡ Some f →
    windows_from bounds fs at ≡ windows_of_func bounds (bodies_of fs) at ++ windows_from bounds fs (at + 1)
one-and-rest bounds fs at f h e =
    functions-step bounds fs at f (windows_from bounds fs at) [] (windows bounds f.number (body_of f).root) h e refl refl
    ∙ ap (λ l. l ++ windows_from bounds fs (at + 1)) (functions.own-windows bounds fs at f h e)

numbered-parts : (number : Window → ℕ) (bounds : Bounds) (fs : List FuncView) (at : ℕ) (f : FuncView) → are_numbered 0 fs ≡ true → slice_get fs at ≡ Some f →
    numbered number (windows_from bounds fs at) ≡ numbered number (windows_of_func bounds (bodies_of fs) at) ++ numbered number (windows_from bounds fs (at + 1))
numbered-parts number bounds fs at f h e = ap (numbered number) (one-and-rest bounds fs at f h e) ∙ map-append (λ w. (w, number w)) (windows_of_func bounds (bodies_of fs) at) (windows_from bounds fs (at + 1))

pub own-place : (fs : List FuncView) (at : ℕ) (f : FuncView) → are_numbered 0 fs ≡ true → slice_get fs at ≡ Some f → f.number ≡ at
own-place fs at f h e = number-is fs 0 at f h e ∙ (let z : 0 + at ≡ at = omega arith in z)

-- ---- functions by number

all-weaker : {A : Type 0} (P Q : A → Type 0) → ((x : A) → P x → Q x) → (xs : List A) → AllByRecursion P xs → AllByRecursion Q xs
all-weaker P Q f [] h = tt
all-weaker P Q f (x ∷ xs) h = (f x h.0, all-weaker P Q f xs h.1)

-- the window is of a function in front of this one
abbrev pub IsBefore : ℕ → Window × ℕ → Type 0
IsBefore at x = x.0.func < at

lower-apart : (k at : ℕ) → k < at → nat_eq k at ≡ false
lower-apart k at l = by (nat_eq k at) refl where
  by : (b : Bool) → nat_eq k at ≡ b → nat_eq k at ≡ false
  by true e = let s : k ≡ at = eqb-true k at e in absurd (omega (arith, l, s))
  by false e = e

pub before-apart : (at : ℕ) (xs : List (Window × ℕ)) → AllByRecursion (IsBefore at) xs → AllByRecursion (λ x. is_of at x.0 ≡ false) xs
before-apart at xs h = all-weaker (IsBefore at) (λ x. is_of at x.0 ≡ false) (λ x l. lower-apart x.0.func at l) xs h

below-next : (k at : ℕ) → k < at → k < at + 1
below-next k at l = omega (arith, l)

here-below : (k at : ℕ) → k ≡ at → k < at + 1
here-below k at e = omega (arith, e)

before-next : (at : ℕ) (xs ys zs : List (Window × ℕ)) → AllByRecursion (IsBefore at) xs → AllByRecursion (λ x. is_of at x.0 ≡ true) ys → IsPermutation (xs ++ ys) zs → AllByRecursion (IsBefore (at + 1)) zs
before-next at xs ys zs h k m =
    let front : AllByRecursion (IsBefore (at + 1)) xs = all-weaker (IsBefore at) (IsBefore (at + 1)) (λ x l. below-next x.0.func at l) xs h in
    let back : AllByRecursion (IsBefore (at + 1)) ys = all-weaker (λ x. is_of at x.0 ≡ true) (IsBefore (at + 1)) (λ x e. here-below x.0.func at (eqb-true x.0.func at e)) ys k in
    recursion_from_All (IsBefore (at + 1)) zs (All-permutation (IsBefore (at + 1)) (xs ++ ys) zs m
    (All-append (IsBefore (at + 1)) xs ys (All-from_recursion (IsBefore (at + 1)) xs front) (All-from_recursion (IsBefore (at + 1)) ys back)))

-- ---- comparisons

-- what is to come in behind some windows
behind-some : (same : Window → Window → Bool) (us rest : List (Window × ℕ)) (old new whole : List Bucket) → all_entered same (us ++ rest) old ≡ whole → new ≡ all_entered same us old → all_entered same rest new ≡ whole
behind-some same us rest old new whole e h = ap (all_entered same rest) h ∙ (sym (all-entered-more same us rest old) ∙ e)

-- some windows have no more rivals than once all are in
no-more-rivals : (same : Window → Window → Bool) (us rest : List (Window × ℕ)) (old whole : List Bucket) → all_entered same (us ++ rest) old ≡ whole → rivals same us old ≤ sum_by (λ x. group_count x.1 whole) us
no-more-rivals same us rest old whole e =
    subst (λ (bs : List Bucket). rivals same us old ≤ sum_by (λ x. group_count x.1 bs) us) (sym (all-entered-more same us rest old) ∙ e)
    (sum_by-le-sum_by (λ x. group_count x.1 (all_entered same us old)) (λ x. group_count x.1 (all_entered same rest (all_entered same us old))) us (λ x. all-count-grows same rest x.1 (all_entered same us old)))

-- ---- the index

-- the windows of the package, each with its number
abbrev pub all_numbered : {H : Type 0} → (H → PackageView → Window → ℕ) → PackageView → H → Bounds → List (Window × ℕ)
all_numbered number p hash bounds = numbered (number hash p) (windows_of_all bounds 0 (bodies_of p.functions))

-- how many rivals a window has once all are in
abbrev pub rival_count : {H : Type 0} → (H → PackageView → Window → ℕ) → PackageView → H → Bounds → Window × ℕ → ℕ
rival_count number p hash bounds = λ x. group_count x.1 (all_entered (same_in p) (all_numbered number p hash bounds) [])

-- The functions in front of a place are in: what is held are their windows, and those of the others are to come.
pub record IsInSoFar {H : Type 0} (number : H → PackageView → Window → ℕ) (p : PackageView) (hash : H) (bounds : Bounds) (index : IndexView H) (at : ℕ) (was now : Counts) : Type 0 where
  pub hash_is : index.hash ≡ hash
  pub bounds_are : index.bounds ≡ bounds
  pub fits : FitsPackage number p index
  pub before : AllByRecursion (IsBefore at) (held index.buckets)
  pub all : IsPermutation (numbered (number hash p) (windows_of_all bounds 0 (bodies_of p.functions))) (held index.buckets ++ numbered (number hash p) (windows_from bounds p.functions at))
  pub entered : now.entered + length (windows_from bounds p.functions at) ≡ was.entered + length (windows_of_all bounds 0 (bodies_of p.functions))
  pub checked : now.checked ≡ was.checked
  pub buckets : all_entered (same_in p) (numbered (number hash p) (windows_from bounds p.functions at)) index.buckets ≡ all_entered (same_in p) (all_numbered number p hash bounds) []
  pub compared : now.compared + sum_by (rival_count number p hash bounds) (numbered (number hash p) (windows_from bounds p.functions at)) ≤ was.compared + rivals (same_in p) (all_numbered number p hash bounds) []

all-behind : {A : Type 0} (xs : List A) → drop 0 xs ≡ xs
all-behind [] = refl
all-behind (x ∷ xs) = refl

-- an index of nothing
pub none-in : {H : Type 0} (number : H → PackageView → Window → ℕ) (p : PackageView) (hash : H) (bounds : Bounds) (index : IndexView H) (was : Counts) →
    index ≡ record { hash = hash; bounds = bounds; buckets = [] } → IsInSoFar number p hash bounds index 0 was was
none-in number p hash bounds index was e =
    subst (λ i. IsInSoFar number p hash bounds i 0 was was) (sym e) (record {
      hash_is = refl;
      bounds_are = refl;
      fits = record { known = tt; numbers = tt; filled = tt; groups = tt; distinct = tt };
      before = tt;
      all = subst (λ (fs : List FuncView). IsPermutation (numbered (number hash p) (windows_of_all bounds 0 (bodies_of p.functions))) (numbered (number hash p) (windows_of_all bounds 0 (bodies_of fs))))
          (sym (all-behind p.functions)) (IsPermutation-refl (numbered (number hash p) (windows_of_all bounds 0 (bodies_of p.functions))));
      entered = ap (λ (fs : List FuncView). was.entered + length (windows_of_all bounds 0 (bodies_of fs))) (all-behind p.functions);
      checked = refl;
      buckets = ap (λ (fs : List FuncView). all_entered (same_in p) (numbered (number hash p) (windows_of_all bounds 0 (bodies_of fs))) []) (all-behind p.functions);
      compared = omega (arith, ap (λ (fs : List FuncView). sum_by (rival_count number p hash bounds) (numbered (number hash p) (windows_of_all bounds 0 (bodies_of fs)))) (all-behind p.functions));
    })

-- the windows of a function that is there, as `enter` says them
came : {H : Type 0} (number : H → PackageView → Window → ℕ) (p : PackageView) (hash : H) (bounds : Bounds) (index : IndexView H) (at func : ℕ) → index.hash ≡ hash → index.bounds ≡ bounds → func ≡ at →
    numbered (number index.hash p) (windows_of_func index.bounds (bodies_of p.functions) func) ≡ numbered (number hash p) (windows_of_func bounds (bodies_of p.functions) at)
came number p hash bounds index at func h b f =
    ap (λ k. numbered (number index.hash p) (windows_of_func index.bounds (bodies_of p.functions) k)) f
    ∙ ap (λ l. numbered (number index.hash p) (windows_of_func l (bodies_of p.functions) at)) b
    ∙ ap (λ k. numbered (number k p) (windows_of_func bounds (bodies_of p.functions) at)) h

many : {H : Type 0} (p : PackageView) (bounds : Bounds) (index : IndexView H) (at func : ℕ) → index.bounds ≡ bounds → func ≡ at →
    length (windows_of_func index.bounds (bodies_of p.functions) func) ≡ length (windows_of_func bounds (bodies_of p.functions) at)
many p bounds index at func b f =
    ap (λ k. length (windows_of_func index.bounds (bodies_of p.functions) k)) f ∙ ap (λ l. length (windows_of_func l (bodies_of p.functions) at)) b

count-left : (p : PackageView) (bounds : Bounds) (at : ℕ) (f : FuncView) → are_numbered 0 p.functions ≡ true → slice_get p.functions at ≡ Some f →
    length (windows_from bounds p.functions at) ≡ length (windows_of_func bounds (bodies_of p.functions) at) + length (windows_from bounds p.functions (at + 1))
count-left p bounds at f h e = ap length (one-and-rest bounds p.functions at f h e) ∙ length-append (windows_of_func bounds (bodies_of p.functions) at) (windows_from bounds p.functions (at + 1))

-- one more function comes in
pub more-in : {H : Type 0} (number : H → PackageView → Window → ℕ) (p : PackageView) (hash : H) (bounds : Bounds) (old new : IndexView H) (at func : ℕ) (f : FuncView) (was now later : Counts) →
    are_numbered 0 p.functions ≡ true → slice_get p.functions at ≡ Some f → func ≡ f.number → IsInSoFar number p hash bounds old at was now → FitsPackage number p new →
    IsPermutation (held old.buckets ++ numbered (number old.hash p) (windows_of_func old.bounds (bodies_of p.functions) func)) (held new.buckets) →
    new ≡ record { hash = old.hash; bounds = old.bounds; buckets = new.buckets } →
    later.entered ≡ now.entered + length (windows_of_func old.bounds (bodies_of p.functions) func) → later.checked ≡ now.checked →
    new.buckets ≡ all_entered (same_in p) (numbered (number old.hash p) (windows_of_func old.bounds (bodies_of p.functions) func)) old.buckets →
    later.compared ≤ now.compared + rivals (same_in p) (numbered (number old.hash p) (windows_of_func old.bounds (bodies_of p.functions) func)) old.buckets →
    IsInSoFar number p hash bounds new (at + 1) was later
more-in {H} number p hash bounds old new at func f was now later h e n s fits moved kept entered checked put few =
    let bodies = bodies_of p.functions in
    let here : func ≡ at = n ∙ own-place p.functions at f h e in
    let us = numbered (number hash p) (windows_of_func bounds bodies at) in
    let rest = numbered (number hash p) (windows_from bounds p.functions (at + 1)) in
    let all = numbered (number hash p) (windows_of_all bounds 0 (bodies_of p.functions)) in
    let us-are : numbered (number old.hash p) (windows_of_func old.bounds bodies func) ≡ us = came number p hash bounds old at func s.hash_is s.bounds_are here in
    let moves : IsPermutation (held old.buckets ++ us) (held new.buckets) =
    subst (λ l. IsPermutation (held old.buckets ++ l) (held new.buckets)) us-are moved in
    let parts : numbered (number hash p) (windows_from bounds p.functions at) ≡ us ++ rest = numbered-parts (number hash p) bounds p.functions at f h e in
    let split : held old.buckets ++ numbered (number hash p) (windows_from bounds p.functions at) ≡ (held old.buckets ++ us) ++ rest =
    ap (λ l. held old.buckets ++ l) parts ∙ sym (append_assoc (held old.buckets) us rest) in
    let whole : List Bucket = all_entered (same_in p) all [] in
    let behind : all_entered (same_in p) (us ++ rest) old.buckets ≡ whole = ap (λ l. all_entered (same_in p) l old.buckets) (sym parts) ∙ s.buckets in
    record {
      hash_is = ap (λ (i : IndexView H). i.hash) kept ∙ s.hash_is;
      bounds_are = ap (λ (i : IndexView H). i.bounds) kept ∙ s.bounds_are;
      fits = fits;
      before = before-next at (held old.buckets) us (held new.buckets) s.before (own-windows (number hash p) bounds bodies at) moves;
      all = IsPermutation-trans all ((held old.buckets ++ us) ++ rest) (held new.buckets ++ rest) (subst (λ l. IsPermutation all l) split s.all)
          (IsPermutation-append_left rest (held old.buckets ++ us) (held new.buckets) moves);
      entered = omega (arith, s.entered, entered, many p bounds old at func s.bounds_are here, count-left p bounds at f h e);
      checked = checked ∙ s.checked;
      buckets = behind-some (same_in p) us rest old.buckets new.buckets whole behind (put ∙ ap (λ l. all_entered (same_in p) l old.buckets) us-are);
      compared = omega (
        arith,
        s.compared,
        subst (λ (l : List (Window × ℕ)). later.compared ≤ now.compared + rivals (same_in p) l old.buckets) us-are few,
        no-more-rivals (same_in p) us rest old.buckets whole behind,
        ap (sum_by (rival_count number p hash bounds)) parts,
        sum_by-append (rival_count number p hash bounds) us rest,
      );
    }

-- no function more is counted than there are
pub part-in : {H : Type 0} (number : H → PackageView → Window → ℕ) (p : PackageView) (hash : H) (bounds : Bounds) (old : IndexView H) (at func : ℕ) (f : FuncView) (was now later : Counts) →
    are_numbered 0 p.functions ≡ true → slice_get p.functions at ≡ Some f → func ≡ f.number → IsInSoFar number p hash bounds old at was now →
    later.entered ≤ now.entered + length (windows_of_func old.bounds (bodies_of p.functions) func) → later.entered ≤ was.entered + length (windows_of_all bounds 0 (bodies_of p.functions))
part-in number p hash bounds old at func f was now later h e n s few =
    omega (arith, s.entered, few, many p bounds old at func s.bounds_are (n ∙ own-place p.functions at f h e), count-left p bounds at f h e)

-- no window more is compared than has rivals
pub part-compared : {H : Type 0} (number : H → PackageView → Window → ℕ) (p : PackageView) (hash : H) (bounds : Bounds) (old : IndexView H) (at func : ℕ) (f : FuncView) (was now later : Counts) →
    are_numbered 0 p.functions ≡ true → slice_get p.functions at ≡ Some f → func ≡ f.number → IsInSoFar number p hash bounds old at was now →
    later.compared ≤ now.compared + rivals (same_in p) (numbered (number old.hash p) (windows_of_func old.bounds (bodies_of p.functions) func)) old.buckets →
    later.compared ≤ was.compared + rivals (same_in p) (all_numbered number p hash bounds) []
part-compared number p hash bounds old at func f was now later h e n s few =
    let us = numbered (number hash p) (windows_of_func bounds (bodies_of p.functions) at) in
    let rest = numbered (number hash p) (windows_from bounds p.functions (at + 1)) in
    let parts : numbered (number hash p) (windows_from bounds p.functions at) ≡ us ++ rest = numbered-parts (number hash p) bounds p.functions at f h e in
    let us-are : numbered (number old.hash p) (windows_of_func old.bounds (bodies_of p.functions) func) ≡ us = came number p hash bounds old at func s.hash_is s.bounds_are (n ∙ own-place p.functions at f h e) in
    omega (
      arith,
      s.compared,
      subst (λ (l : List (Window × ℕ)). later.compared ≤ now.compared + rivals (same_in p) l old.buckets) us-are few,
      no-more-rivals (same_in p) us rest old.buckets (all_entered (same_in p) (all_numbered number p hash bounds) []) (ap (λ l. all_entered (same_in p) l old.buckets) (sym parts) ∙ s.buckets),
      ap (sum_by (rival_count number p hash bounds)) parts,
      sum_by-append (rival_count number p hash bounds) us rest,
    )

-- ---- all functions

nothing-behind : (fs : List FuncView) (at : ℕ) → length fs ≤ at → drop at fs ≡ []
nothing-behind [] zero l = refl
nothing-behind [] (suc at) l = refl
nothing-behind (f ∷ fs) zero l = absurd (omega (arith, l))
nothing-behind (f ∷ fs) (suc at) l = nothing-behind fs at (omega (arith, l))

none-left : (bounds : Bounds) (fs : List FuncView) (at : ℕ) → length fs ≤ at → windows_from bounds fs at ≡ []
none-left bounds fs at l = ap (λ gs. windows_of_all bounds at (bodies_of gs)) (nothing-behind fs at l)

pub all-in : {H : Type 0} (number : H → PackageView → Window → ℕ) (p : PackageView) (hash : H) (bounds : Bounds) (index : IndexView H) (at : ℕ) (was now : Counts) → length p.functions ≤ at →
    IsInSoFar number p hash bounds index at was now → HoldsPackage number p index
all-in {H} number p hash bounds index at was now l s =
    let all = numbered (number hash p) (windows_of_all bounds 0 (bodies_of p.functions)) in
    let ends : held index.buckets ++ numbered (number hash p) (windows_from bounds p.functions at) ≡ held index.buckets =
    ap (λ ws. held index.buckets ++ numbered (number hash p) ws) (none-left bounds p.functions at l) ∙ append-nil (held index.buckets) in
    let whole : IsPermutation all (held index.buckets) = subst (λ hs. IsPermutation all hs) ends s.all in
    record {
      fits = s.fits;
      all = subst (λ (k : H). IsPermutation (numbered (number k p) (windows_of_all index.bounds 0 (bodies_of p.functions))) (held index.buckets)) (sym s.hash_is)
          (subst (λ (b : Bounds). IsPermutation (numbered (number hash p) (windows_of_all b 0 (bodies_of p.functions))) (held index.buckets)) (sym s.bounds_are) whole);
    }

pub counts-in : {H : Type 0} (number : H → PackageView → Window → ℕ) (p : PackageView) (hash : H) (bounds : Bounds) (index : IndexView H) (at : ℕ) (was now : Counts) → length p.functions ≤ at →
    IsInSoFar number p hash bounds index at was now → now.entered ≡ was.entered + length (windows_of_all bounds 0 (bodies_of p.functions))
counts-in number p hash bounds index at was now l s =
    let none : length (windows_from bounds p.functions at) ≡ 0 = ap length (none-left bounds p.functions at l) in
    omega (arith, s.entered, none)
