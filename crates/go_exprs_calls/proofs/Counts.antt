-- Rows by the number of their elements.
use Rattle.std.proofs.Common.{◌≡◌, ℕ, ◌<◌, ◌≤◌, List, [], ◌∷◌, length, map, drop, get_or, refl, ap, sym, arith}
use Rattle.std.proofs.lemmas.Bool.Decides.{nat_tests}
use Rattle.std.specs.Prelude.{◌&&◌, nat_le, if◌then◌else◌}
use Rattle.std.specs.Borrow.{Bor}
use Rattle.go_types.specs.Trees.{TypeTree, TypeRow, row}
use Rattle.go_types.specs.Relations.{Rights}
use Rattle.go_types.specs.Tables.{Table}
use Rattle.go_typed.specs.declared.node.TypedNode.{TypedNode}
use Rattle.go_typed.specs.Trees as sort
use Rattle.go_exprs_rules.specs.Settling.{Part}
use Rattle.go_exprs_rules.specs.Calls.{called}
use Rattle.go_exprs_rules.specs.Literals.{has_keys, keyed_failing, ordered_failing, fields_failing}
use Rattle.go_exprs_calls.specs.Arguments.{IsNotOne, IsNotTwo}
use Rattle.go_exprs_calls.specs.Shown.{shown}

pub list_more : {A : Type 0} (xs : List A) (x : A) → 1 ≤ length xs → x ≡ get_or xs 0 x → xs ≡ x ∷ drop 1 xs
list_more [] x l e = absurd (omega (arith, l))
list_more (y ∷ ys) x l e = ap (λ z. z ∷ ys) (sym e)

pub shown_not_one : (t : Table) (ns : List (Bor TypedNode)) → 2 ≤ length ns → IsNotOne (shown t ns)
shown_not_one t [] h = tt
shown_not_one t (n ∷ []) h = absurd (omega (arith, h))
shown_not_one t (n ∷ m ∷ ns) h = tt

pub shown_not_two : (t : Table) (ns : List (Bor TypedNode)) → 3 ≤ length ns → IsNotTwo (shown t ns)
shown_not_two t [] h = tt
shown_not_two t (n ∷ []) h = tt
shown_not_two t (n ∷ m ∷ []) h = absurd (omega (arith, h))
shown_not_two t (n ∷ m ∷ o ∷ ns) h = tt

pub shown_below_two : (t : Table) (ns : List (Bor TypedNode)) → length ns < 2 → IsNotTwo (shown t ns)
shown_below_two t [] h = tt
shown_below_two t (n ∷ []) h = tt
shown_below_two t (n ∷ m ∷ ns) h = absurd (omega (arith, h))

pub one_or_two : (n m : ℕ) → m ≡ n → 1 ≤ n → nat_le n 2 ≡ (nat_le 1 m && nat_le m 2)
one_or_two n m e h = grind (arith, nat_tests)

pub fields_by : (rights : Rights) (i j : ℕ) (ts : TypeRow) (xs : List Part) → 1 ≤ length xs → fields_failing rights i j ts xs ≡ (if has_keys xs then keyed_failing rights i j ts xs else ordered_failing rights i j ts xs)
fields_by rights i j ts [] h = absurd (omega (arith, h))
fields_by rights i j ts (x ∷ xs) h = refl

pub called_many : (t : TypeTree) (f : ℕ → TypeTree) (rs : List ℕ) → 2 ≤ length rs → called t (row (map f rs)) ≡ sort.Results t
called_many t f [] h = refl
called_many t f (r ∷ []) h = absurd (omega (arith, h))
called_many t f (r ∷ s ∷ rs) h = refl

-- what is the same of every other number of arguments

pub unless_one : {A : Type 0} (F : List Part → A) (d : A) → F [] ≡ d → ((x y : Part) (xs : List Part) → F (x ∷ y ∷ xs) ≡ d) → (xs : List Part) → IsNotOne xs → F xs ≡ d
unless_one F d a b [] h = a
unless_one F d a b (x ∷ []) h = absurd h
unless_one F d a b (x ∷ y ∷ xs) h = b x y xs

pub unless_two : {A : Type 0} (F : List Part → A) (d : A) → F [] ≡ d → ((x : Part) → F (x ∷ []) ≡ d) → ((x y z : Part) (xs : List Part) → F (x ∷ y ∷ z ∷ xs) ≡ d) → (xs : List Part) → IsNotTwo xs → F xs ≡ d
unless_two F d a b c [] h = a
unless_two F d a b c (x ∷ []) h = b x
unless_two F d a b c (x ∷ y ∷ []) h = absurd h
unless_two F d a b c (x ∷ y ∷ z ∷ xs) h = c x y z xs
