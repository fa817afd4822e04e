-- Where the bodies of functions lie.
use Rattle.std.proofs.Common.{◌≡◌, ℕ, ◌<◌, ◌≤◌, Bool, true, false, Option, Some, None, refl, ap, arith}
use Rattle.std.proofs.lemmas.Bool.{lt-ltb, le-ltb, le-leb, lt-leb, and_from, and_left, and_right, or_from}
use Rattle.std.specs.Prelude.{◌||◌, if◌then◌else◌, nat_le, nat_lt}
use Rattle.go_grammar.specs.Trees.{Tree, node, Trees, none, more, skip, first, last}
use Rattle.go_rewriting.specs.Lists.{InOrder, Ordered}
use Rattle.go_rewriting.proofs.Public.{tree_order, row_order}
use Rattle.go_tree.specs.Lists.{is_function}
use Rattle.go_heads.specs.Heads.{body_behind, body_of, is_within, in_bodies}

pub before : (b : Tree) (n : ℕ) → n < first b → is_within (Some b) n ≡ false
before b n h = and_left (nat_le (first b) n) (nat_lt n (last b)) (lt-leb (first b) n h)

behind : (b : Tree) (n : ℕ) → last b ≤ n → is_within (Some b) n ≡ false
behind b n h = and_right (nat_le (first b) n) (nat_lt n (last b)) (le-ltb n (last b) h)

pub inside : (b : Tree) (n : ℕ) → first b ≤ n → n < last b → is_within (Some b) n ≡ true
inside b n lo hi = and_from (nat_le (first b) n) (nat_lt n (last b)) (le-leb (first b) n lo) (lt-ltb n (last b) hi)

-- of a function alone
if_within : (c : Bool) (o : Option Tree) (n : ℕ) → is_within o n ≡ false → is_within (if c then o else None) n ≡ false
if_within true o n h = h
if_within false o n h = refl

parts_before : (ps : Trees) (i j n : ℕ) → Ordered i ps j → n ≤ i → is_within (body_behind ps) n ≡ false
parts_before none i j n h le = refl
parts_before (skip ps) i j n h le = refl
parts_before (more s none) i j n h le = refl
parts_before (more s (skip ps)) i j n h le = refl
parts_before (more s (more b ps)) i j n h le = before b n (omega (arith, h.0, tree_order s h.1, h.2.0, le))

parts_behind : (ps : Trees) (i j n : ℕ) → Ordered i ps j → j ≤ n → is_within (body_behind ps) n ≡ false
parts_behind none i j n h le = refl
parts_behind (skip ps) i j n h le = refl
parts_behind (more s none) i j n h le = refl
parts_behind (more s (skip ps)) i j n h le = refl
parts_behind (more s (more b ps)) i j n h le = behind b n (omega (arith, row_order ps (last b) j h.2.2, le))

pub body_before : (d : Tree) (n : ℕ) → InOrder d → n ≤ first d → is_within (body_of d) n ≡ false
body_before (node k i j ps) n h le = if_within (is_function k) (body_behind ps) n (parts_before ps i j n h.1 le)

pub body_past : (d : Tree) (n : ℕ) → InOrder d → last d ≤ n → is_within (body_of d) n ≡ false
body_past (node k i j ps) n h le = if_within (is_function k) (body_behind ps) n (parts_behind ps i j n h.1 le)

pub row_before : (ps : Trees) (i j n : ℕ) → Ordered i ps j → n ≤ i → in_bodies ps n ≡ false
row_before none i j n h le = refl
row_before (more d ds) i j n h le =
    or_from (is_within (body_of d) n) (in_bodies ds n) (body_before d n h.1 (omega (arith, h.0, le))) (row_before ds (last d) j n h.2 (omega (arith, h.0, tree_order d h.1, le)))
row_before (skip ds) i j n h le = row_before ds i j n h le

or_none : (x y : Bool) → y ≡ false → (x || y) ≡ x
or_none true y e = refl
or_none false y e = e

or_first : (x y : Bool) → x ≡ false → (x || y) ≡ y
or_first x y e = ap (λ z. z || y) e

-- a token of the first declaration, and one behind it
pub in_first : (d : Tree) (ds : Trees) (j n : ℕ) → Ordered (last d) ds j → n ≤ last d → in_bodies (more d ds) n ≡ is_within (body_of d) n
in_first d ds j n h le = or_none (is_within (body_of d) n) (in_bodies ds n) (row_before ds (last d) j n h le)

pub in_others : (d : Tree) (ds : Trees) (n : ℕ) → InOrder d → last d ≤ n → in_bodies (more d ds) n ≡ in_bodies ds n
in_others d ds n h le = or_first (is_within (body_of d) n) (in_bodies ds n) (body_past d n h le)
