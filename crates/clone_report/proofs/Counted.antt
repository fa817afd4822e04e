-- Statements are counted part by part.
use Rattle.std.proofs.Common.{◌≡◌, ◌∙◌, ℕ, zero, suc, ◌+◌, ◌-◌, ◌≤◌, ◌<◌, Bool, true, false, List, [], ◌∷◌, ◌++◌, length, drop, count_by, get_or, Option, Some, None, slice_get, refl, sym, ap, arith, append_assoc, length-append}
use Rattle.std.specs.Prelude.{cond, nat_le, nat_lt, ◌&&◌, ◌||◌}
use Rattle.std.proofs.lemmas.List.Sums.{sum_by-append}
use Rattle.std.proofs.lemmas.Option.{same_Some}
use Rattle.std.proofs.lemmas.Bool.Decides.{nat_tests}
use Rattle.go_typed.specs.declared.node.TypedNode.{TypedNode, out-TypedNode}
use Rattle.go_typed.specs.Funcs.{FuncView, size, sizes}
use Rattle.go_typed.specs.Lists.{statement_lists, lists_among}
use Rattle.go_typed.specs.Packages.{are_numbered}
use Rattle.go_typed.specs.Trees.{Typed, Typeds, more, skip}
use Rattle.go_typed.specs.Views.{view, views}
use Rattle.clone_window.specs.declared.span.FunctionPlace.{FunctionPlace}
use Rattle.clone_window.specs.Bodies.{body_of, bodies_of}
use Rattle.clone_window.specs.Windows.{list_count}
use Rattle.clone_window.proofs.Public.{view_out}
use Rattle.clone_classes.proofs.Public.{number-is}
use Rattle.clone_report.specs.declared.ends.Start.{Start}
use Rattle.clone_report.specs.declared.tally.Tally.{Tally}
use Rattle.clone_report.specs.Covered.{counted, is_covered, own, statements_along, statements_among, statements_from, statements_in, statements_there}
use Rattle.clone_report.specs.Ends.{added, furthest, stands_by}

-- ---- counts

count-join : (xs ys : List Bool) → count_by (λ b. b) (xs ++ ys) ≡ count_by (λ b. b) xs + count_by (λ b. b) ys
count-join xs ys = sum_by-append (λ b. cond b 1 0) xs ys

tally : ℕ → ℕ → Tally
tally m n = record { covered = m; statements = n }

pub added-join : (t : Tally) (xs ys : List Bool) → added t (xs ++ ys) ≡ added (added t xs) ys
unfolding tally
added-join t xs ys =
    let a : t.covered + count_by (λ b. b) (xs ++ ys) ≡ t.covered + count_by (λ b. b) xs + count_by (λ b. b) ys = omega (arith, count-join xs ys) in
    let b : t.statements + length (xs ++ ys) ≡ t.statements + length xs + length ys = omega (arith, length-append xs ys) in
    ap (λ m. tally m (t.statements + length (xs ++ ys))) a ∙ ap (λ n. tally (t.covered + count_by (λ b. b) xs + count_by (λ b. b) ys) n) b

pub added-none : (t : Tally) → added t [] ≡ t
unfolding tally
added-none t =
    let a : t.covered + 0 ≡ t.covered = omega arith in
    let b : t.statements + 0 ≡ t.statements = omega arith in
    ap (λ m. tally m (t.statements + 0)) a ∙ ap (λ n. tally t.covered n) b

-- from nothing on
pub from-nothing : (t : Tally) (xs : List Bool) → t ≡ added (record { covered = 0; statements = 0 }) xs → (t.covered, t.statements) ≡ counted xs
from-nothing t xs e =
    let a : t.covered ≡ count_by (λ b. b) xs = ap (λ u. u.covered) e ∙ (let z : 0 + count_by (λ b. b) xs ≡ count_by (λ b. b) xs = omega arith in z) in
    let b : t.statements ≡ length xs = ap (λ u. u.statements) e ∙ (let z : 0 + length xs ≡ length xs = omega arith in z) in
    ap (λ m. (m, t.statements)) a ∙ ap (λ n. (count_by (λ b. b) xs, n)) b

-- ---- sizes

pub size-parts : (node : TypedNode) (parts : List (Option TypedNode)) → parts ≡ (out-TypedNode node).parts.items → size (view node) ≡ suc (sizes (views parts))
size-parts node parts p = ap size (view_out node) ∙ ap (λ xs. suc (sizes (views xs))) (sym p)

pub size-part : (parts : List (Option TypedNode)) (i : ℕ) (part : Option TypedNode) (node : TypedNode) → i < length parts → part ≡ get_or parts i part → part ≡ Some node → size (view node) ≤ sizes (views parts)
size-part [] i part node h e s = absurd (omega (arith, h))
size-part (None ∷ xs) zero part node h e s = cc
size-part (Some y ∷ xs) zero part node h e s = let k : y ≡ node = cc in omega (arith, ap (λ n. size (view n)) k)
size-part (None ∷ xs) (suc i) part node h e s = size-part xs i part node (omega (arith, h)) e s
size-part (Some y ∷ xs) (suc i) part node h e s = omega (arith, size-part xs i part node (omega (arith, h)) e s)

-- ---- a node that is no statement list

module _ (stands : ℕ → ℕ → Bool) (inside : Bool) where
  -- What is left to do: the number of the next list counts on to the one behind, and the statements to come make all.
  pub record AmongLeft (first behind : ℕ) (all left : Typeds ℕ) (old now : Tally) : Type 0 where
    pub number : behind + length (lists_among left) ≡ first + length (lists_among all)
    pub counted : added old (statements_among stands inside first all) ≡ added now (statements_among stands inside behind left)

  pub among-more : (first behind behind' : ℕ) (all : Typeds ℕ) (p : Typed ℕ) (ps : Typeds ℕ) (old now now' : Tally) → AmongLeft first behind all (more p ps) old now →
      behind' ≡ behind + list_count p → now' ≡ added now (statements_in stands inside behind p) → AmongLeft first behind' all ps old now'
  among-more first behind behind' all p ps old now now' h n e = record {
    number = omega (arith, h.number, n, length-append (statement_lists p) (lists_among ps));
    counted =
        h.counted
        ∙ added-join now (statements_in stands inside behind p) (statements_among stands inside (behind + list_count p) ps)
        ∙ ap (λ t. added t (statements_among stands inside (behind + list_count p) ps)) (sym e)
        ∙ ap (λ k. added now' (statements_among stands inside k ps)) (sym n);
  }

  pub among-skip : (first behind : ℕ) (all ps : Typeds ℕ) (old now : Tally) → AmongLeft first behind all (skip ps) old now → AmongLeft first behind all ps old now
  among-skip first behind all ps old now h = record { number = h.number; counted = h.counted }

-- ---- a statement list

module _ (g : Start → Option ℕ) (func : ℕ) (inside : Bool) (list ahead : ℕ) where
  abbrev pub along : ℕ → ℕ → Typeds ℕ → List Bool
  along k index ps = statements_along (stands_by g func) inside list ahead k index ps

  -- The same, with the furthest end of the members that begin before the present part.
  pub record AlongLeft (first behind index end : ℕ) (all left : Typeds ℕ) (old now : Tally) : Type 0 where
    pub number : behind + length (lists_among left) ≡ first + length (lists_among all)
    pub furthest_end : end ≡ furthest g func list (index - ahead)
    pub counted : added old (along first 0 all) ≡ added now (along behind index left)

  pub along-more : (first behind behind' index index' end end' : ℕ) (covered : Bool) (all : Typeds ℕ) (p : Typed ℕ) (ps : Typeds ℕ) (old now mid now' : Tally) →
      AlongLeft first behind index end all (more p ps) old now → end' ≡ furthest g func list (index + 1 - ahead) → covered ≡ is_covered (stands_by g func) inside list ahead index →
      mid ≡ added now (own ahead index covered) → behind' ≡ behind + list_count p → now' ≡ added mid (statements_in (stands_by g func) covered behind p) → index' ≡ index + 1 →
      AlongLeft first behind' index' end' all ps old now'
  along-more first behind behind' index index' end end' covered all p ps old now mid now' h f c m n e i =
      let s : suc index ≡ index' = omega (arith, i) in
      let b = is_covered (stands_by g func) inside list ahead index in
      let own_part = own ahead index b in
      let inner = statements_in (stands_by g func) b behind p in
      let rest = along (behind + list_count p) (suc index) ps in
      record {
        number = omega (arith, h.number, n, length-append (statement_lists p) (lists_among ps));
        furthest_end = f ∙ ap (λ k. furthest g func list (k - ahead)) (sym i);
        counted =
            h.counted
            ∙ ap (λ l. added now l) (append_assoc own_part inner rest)
            ∙ added-join now own_part (inner ++ rest)
            ∙ ap (λ t. added t (inner ++ rest)) (ap (λ x. added now (own ahead index x)) (sym c) ∙ sym m)
            ∙ added-join mid inner rest
            ∙ ap (λ t. added t rest) (ap (λ x. added mid (statements_in (stands_by g func) x behind p)) (sym c) ∙ sym e)
            ∙ ap (λ k. added now' (along k (suc index) ps)) (sym n)
            ∙ ap (λ k. added now' (along behind' k ps)) s;
      }

  pub along-skip : (first behind index end : ℕ) (all ps : Typeds ℕ) (old now : Tally) → AlongLeft first behind index end all (skip ps) old now → AlongLeft first behind index end all ps old now
  along-skip first behind index end all ps old now h = record { number = h.number; furthest_end = h.furthest_end; counted = h.counted }

-- the program's tests
pub stands-now : (g : Start → Option ℕ) (func list ahead index end : ℕ) (inside b : Bool) → end ≡ furthest g func list (index + 1 - ahead) → b ≡ (inside || (nat_le ahead index && nat_lt (index - ahead) end)) →
    b ≡ is_covered (stands_by g func) inside list ahead index
stands-now g func list ahead index end inside b e h = h ∙ ap (λ x. inside || x) (step (nat_le ahead index) refl) where
  step : (c : Bool) → nat_le ahead index ≡ c → (c && nat_lt (index - ahead) end) ≡ (c && stands_by g func list (index - ahead))
  step true k =
      let s : index + 1 - ahead ≡ suc (index - ahead) = grind (arith, nat_tests) in
      ap (nat_lt (index - ahead)) (e ∙ ap (furthest g func list) s)
  step false k = refl

-- ---- the functions of a file

rest-from : {A : Type 0} (xs : List A) (j : ℕ) (x : A) → slice_get xs j ≡ Some x → drop j xs ≡ x ∷ drop (j + 1) xs
rest-from [] j x q = cc
rest-from (y ∷ xs) zero x q = ap (λ z. z ∷ xs) (same_Some y x q)
rest-from (y ∷ xs) (suc j) x q = rest-from xs j x q ∙ (let z : suc (j + 1) ≡ suc j + 1 = omega arith in ap (λ k. x ∷ drop k (y ∷ xs)) z)

pub from-more : (stands : ℕ → ℕ → ℕ → Bool) (places : List FunctionPlace) (file i : ℕ) (fs : List FuncView) (f : FuncView) (old now now' : Tally) → are_numbered 0 fs ≡ true → slice_get fs i ≡ Some f →
    added old (statements_from stands places file 0 (bodies_of fs)) ≡ added now (statements_from stands places file i (bodies_of (drop i fs))) →
    now' ≡ added now (statements_there stands places file f.number (body_of f)) →
    added old (statements_from stands places file 0 (bodies_of fs)) ≡ added now' (statements_from stands places file (i + 1) (bodies_of (drop (i + 1) fs)))
from-more stands places file i fs f old now now' h e a u =
    let here : f.number ≡ i = number-is fs 0 i f h e ∙ (let z : 0 + i ≡ i = omega arith in z) in
    let rest = statements_from stands places file (i + 1) (bodies_of (drop (i + 1) fs)) in
    a
    ∙ ap (λ l. added now (statements_from stands places file i (bodies_of l))) (rest-from fs i f e)
    ∙ ap (λ k. added now (statements_there stands places file i (body_of f) ++ statements_from stands places file k (bodies_of (drop (i + 1) fs)))) (let z : suc i ≡ i + 1 = omega arith in z)
    ∙ added-join now (statements_there stands places file i (body_of f)) rest
    ∙ ap (λ k. added (added now (statements_there stands places file k (body_of f))) rest) (sym here)
    ∙ ap (λ t. added t rest) (sym u)
