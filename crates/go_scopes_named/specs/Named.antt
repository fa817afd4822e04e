-- The meanings of a package by their names.
use Rattle.std.specs.Prelude.{◌≡◌, ℕ, Bool, true, ◌&&◌, if◌then◌else◌, nat_eq, List, [], ◌∷◌, Option, None}
use Rattle.std.specs.Borrow.{Bor}
use Rattle.std.specs.Cmp.Lexicographic.{pointwise}
use Rattle.std.specs.HashMap.{HashMap, get}
use Rattle.std.specs.declared.vec.Vec.{Vec}
use Rattle.go_tokens.specs.Spellings.{same_text}
use Rattle.go_tree.specs.Meanings as names
use Rattle.go_scopes_events.specs.Orders.{Nests}
use Rattle.go_scopes_events.specs.Scopes.{is_local, is_import, is_package, first_by, inmost, reached, locals_of, scope_of, AreNested, Each}
use Rattle.go_scopes_lookup.specs.Sorted.{all_of, IsSorted}
use Rattle.go_scopes_named.specs.declared.by_name.Named.{Named}
use Rattle.go_scopes_named.specs.declared.segments.Segment.{Segment}
use Rattle.go_scopes_named.specs.Segments.{AreSegments, segments_of}

-- whether two names, each with the number of its file, are the same
abbrev pub same_named : ℕ × Bor (List ℕ) → ℕ × Bor (List ℕ) → Bool
same_named a b = nat_eq a.0 b.0 && pointwise nat_eq a.1.now b.1.now

-- the meanings of a name in the blocks of a file, in order
abbrev pub named_locals : ℕ → List ℕ → List names.Meaning → List names.Meaning
named_locals n w [] = []
named_locals n w (m ∷ ms) = if is_local n m.extent && same_text m.name w then m ∷ named_locals n w ms else named_locals n w ms

-- The map has the segments of each name of each file.
abbrev pub KnowsNamed : {A S : Type 0} → HashMap (ℕ × Bor (List ℕ)) (Vec Segment A) S → List names.Meaning → Type 0
KnowsNamed m ms = (n : ℕ) (w : Bor (List ℕ)) → AreSegments n (segments_of (get same_named m (n, w))) (named_locals n w.now ms)

-- the scope of a local meaning lies behind those of the earlier ones of its file, or inside them
abbrev pub NestsIn : List names.Meaning → names.Meaning → Type 0
NestsIn ms m = (n : ℕ) → is_local n m.extent ≡ true → Each (λ a. Nests (scope_of a.extent) (scope_of m.extent)) (locals_of n ms)

-- all the meanings
abbrev pub all_meanings : Named → List names.Meaning
all_meanings x = all_of x.sorted

-- Its map has the segments of all local names, and scopes nest.
pub record IsNamed (x : Named) : Type 0 where
  pub sorted : IsSorted x.sorted
  pub locals : KnowsNamed x.locals (all_meanings x)
  pub nested : (n : ℕ) → AreNested (locals_of n (all_meanings x))

-- the innermost local meaning of a name
abbrev pub local_meaning : ℕ → ℕ → List ℕ → List names.Meaning → Option names.Meaning
local_meaning n t w ms = inmost n t w None (locals_of n ms)

-- else that of the import, else that of the package
abbrev pub reached_meaning : ℕ → ℕ → List ℕ → List names.Meaning → Option names.Meaning
reached_meaning n t w ms = reached (local_meaning n t w ms) (first_by (is_import n) w ms) (first_by is_package w ms)
