-- Declarations that need themselves (Go specification: Declarations and scope, Type declarations, Package initialization).
--
-- A constant needs what its type and its own expression name, a variable what its type and its value name, a function what its
-- signature names, and a type what its right side names, other than in elements of slices and in function types. But where a
-- constant, a variable, a signature or an array's length names a type, all that the type's right side names is needed too, and
-- so on. So what is needed is needed in one of two ways: in full, or, if it is a type, in part.
use Rattle.std.specs.Prelude.{ℕ, zero, suc, Bool, true, false, ◌&&◌, ◌||◌, not, if◌then◌else◌, nat_eq, List, [], ◌∷◌, ◌++◌, Option, Some, None}
use Rattle.go_tree.specs.declared.context.Reach.{Reach}
use Rattle.go_tree.specs.declared.context.Reach.TheVariants as reach
use Rattle.go_tree.specs.declared.context.Site.{Site}
use Rattle.go_tree.specs.declared.context.Site.TheVariants as site
use Rattle.go_tree.specs.declared.event.Declaration.{Declaration}
use Rattle.go_tree.specs.Units.{Place}
use Rattle.go_tree.specs.Declarations.{Found}
use Rattle.go_tree.specs.Meanings.{Meaning}
use Rattle.go_tree.specs.Failures.{place_if}
use Rattle.go_tree.specs.Lookups.{Asked}

pub record Needed : Type 0 where
  pub it : Found
  pub full : Bool

-- In which way a declaration needs a name at the site, if it does. The argument f says whether the declaration itself is
-- needed in full.
abbrev pub right_way : Bool → Reach → Option Bool
right_way true r = Some true
right_way false reach.Direct = Some false
right_way false reach.Indirect = None
right_way false reach.Length = Some true

abbrev pub if_so : Bool → Option Bool → Option Bool
if_so true w = w
if_so false w = None

-- Whether this is the specification of the declaration: no parameter and no variable declared by `:=` has one.
abbrev pub is_source : ℕ → Option ℕ → Bool
is_source s None = false
is_source s (Some n) = nat_eq s n

abbrev pub way_by : Option ℕ → ℕ → Bool → Site → Option Bool
way_by source own f site.Elsewhere = None
way_by source own f (site.Type s) = if_so (is_source s source) (Some true)
way_by source own f (site.Value s column alone) = if_so (is_source s source && (nat_eq column own || alone)) (Some true)
way_by source own f (site.Right s r) = if_so (is_source s source) (right_way f r)

abbrev pub way : Declaration → Bool → Site → Option Bool
way d f s = way_by d.source d.column f s

abbrev pub needed_source : Bool → Option Found → List Needed → List Needed
needed_source f None ns = ns
needed_source f (Some d) ns = record { it = d; full = f } ∷ ns

abbrev pub needed_meaning : Option Bool → Option Meaning → List Needed → List Needed
needed_meaning None m ns = ns
needed_meaning (Some f) None ns = ns
needed_meaning (Some f) (Some m) ns = needed_source f m.source ns

-- what a declaration needs at once
abbrev pub needs : List Asked → Needed → List Needed
needs [] x = []
needs (a ∷ asks) x = needed_meaning (if_so (nat_eq a.file x.it.file) (way x.it.it x.full a.it.site)) a.meaning (needs asks x)

abbrev pub is_same : Found → Found → Bool
is_same d x = nat_eq d.file x.file && nat_eq d.it.name x.it.name

-- what some declarations need at once
abbrev pub needs_of : List Asked → List Needed → List Needed
needs_of asks [] = []
needs_of asks (x ∷ xs) = needs asks x ++ needs_of asks xs

abbrev pub is_among : Found → List Needed → Bool
is_among d [] = false
is_among d (x ∷ xs) = is_same d x.it || is_among d xs

abbrev pub same_way : Bool → Bool → Bool
same_way true f = f
same_way false f = not f

abbrev pub is_known : Needed → List Needed → Bool
is_known x [] = false
is_known x (y ∷ ys) = (is_same x.it y.it && same_way x.full y.full) || is_known x ys

-- the declarations xs, and then those of the others that are not among them
abbrev pub with_one : Needed → List Needed → List Needed
with_one x xs = if is_known x xs then xs else xs ++ x ∷ []

abbrev pub with_all : List Needed → List Needed → List Needed
with_all [] xs = xs
with_all (y ∷ ys) xs = with_all ys (with_one y xs)

-- the declarations xs, what they need, what these need, and so on, k times
abbrev pub all_needed : List Asked → ℕ → List Needed → List Needed
all_needed asks zero xs = xs
all_needed asks (suc k) xs = all_needed asks k (with_all (needs_of asks xs) xs)

abbrev pub needs_itself : List Asked → ℕ → Found → Bool
needs_itself asks k d = is_among d (all_needed asks k (with_all (needs asks (record { it = d; full = false })) []))

-- No declaration needs itself, at once or through others. Each is needed in one of two ways, so that no way from one to another
-- is longer than twice the number of declarations.
abbrev pub cycles : List Asked → ℕ → List Found → List Place
cycles asks k [] = []
cycles asks k (d ∷ ds) = place_if (needs_itself asks k d) d.place (cycles asks k ds)
