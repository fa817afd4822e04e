-- Marks that say from when on objects are known, and what they show of declarations.
use Rattle.std.specs.Prelude.{ℕ, suc, ◌<◌, ◌≤◌, Bool, true, false, nat_le, max, List, [], ◌∷◌, Option, Some, None}
use Rattle.go_grammar.specs.Trees.{Tree}
use Rattle.go_needs.specs.declared.bounds.Bound.{Bound}
use Rattle.go_package_defs.specs.Declarations.{Specification}
use Rattle.go_package_defs.specs.Knowledge.{Outline, State, state_of}
use Rattle.go_package_defs.specs.Verdicts.{own_value}
use Rattle.go_package_laws.specs.Names.{EachName, EachNeed}
use Rattle.go_package_laws.specs.Reach.{MaybeWithin, StandsWithin}
use Rattle.go_exprs_rules.specs.Scopes.{type_place}
use Rattle.go_package_stages.specs.declared.marks.Mark.{Mark}
use Rattle.go_package_stages.specs.Names.{IsFullBefore, ways_before}
use Rattle.go_types.specs.Relations.{Rights}
use Rattle.go_types_relations.specs.Questions.{entry}
use Rattle.go_package_stages.specs.declared.marked.Trial.{Trial}
use Rattle.go_package_stages.specs.Numbers.{number_at}

-- whether a declared type has a number up to k
abbrev pub is_reached : List ℕ → ℕ → ℕ → Bool
is_reached reach k t = nat_le (number_at reach t) k

-- The number of an object is below that of no declared type in what it stands for.
abbrev pub AreReached : List ℕ → List ℕ → List State → Type 0
AreReached reach rs ss = (n : ℕ) → StandsWithin (is_reached reach (number_at rs n)) (state_of ss n).stands

-- The number of a declared type is below that of none in its right side.
abbrev pub AreClosed : List ℕ → Rights → Type 0
AreClosed reach rights = (t : ℕ) → MaybeWithin (is_reached reach (number_at reach t)) (entry rights t)

-- the mark of an object, by when it is known what it stands for and the types in that, and by the bounds of what it needs
abbrev pub mark_at : List ℕ → List ℕ → ℕ → Bound → Mark
mark_at ns rs n b = record { loosely = max (number_at ns n) (number_at rs n); at_once = max b.at_once (number_at rs n); in_full = max b.in_full (number_at rs n) }

-- those of the objects from the number n on
abbrev pub marks_from : List ℕ → List ℕ → ℕ → List Bound → List Mark
marks_from ns rs n [] = []
marks_from ns rs n (x ∷ xs) = mark_at ns rs n x ∷ marks_from ns rs (suc n) xs

-- The names of an expression are marked as known before the stage k.
abbrev pub NamesMarked : Trial → ℕ → ℕ → Option Tree → Type 0
NamesMarked t file k None = Unit {0}
NamesMarked t file k (Some x) = EachName (IsFullBefore t.uses.now file t.own.now k) x

-- So are those of a type, and those in the lengths of its arrays, each by marks of its own.
abbrev pub TypeMarked : Trial → List Mark → List Mark → ℕ → ℕ → Option Tree → Type 0
TypeMarked t named counted file k None = Unit {0}
TypeMarked t named counted file k (Some x) = EachNeed (ways_before t.uses.now file named t.uses.now counted k) type_place x

-- A constant, a variable or a function is found behind what it names.
pub record IsMarked (t : Trial) (n : ℕ) (d : Specification) (c : ℕ) : Type 0 where
  pub later : 0 < number_at t.numbers.now.own.items n
  pub stands : number_at t.numbers.now.own.items n ≤ number_at t.numbers.now.stands.items n
  pub right : number_at t.numbers.now.own.items n ≤ number_at t.numbers.now.told.items n
  pub of : NamesMarked t d.file (number_at t.numbers.now.own.items n) d.type_tree
  pub value : NamesMarked t d.file (number_at t.numbers.now.own.items n) (own_value d c)

-- So is a type, its right side first and then the rules that fail in it.
pub record IsMarkedType (t : Trial) (n : ℕ) (d : Specification) : Type 0 where
  pub later : 0 < number_at t.numbers.now.told.items n
  pub first : number_at t.numbers.now.stands.items n ≤ number_at t.numbers.now.told.items n
  pub right : number_at t.numbers.now.told.items n ≤ number_at t.numbers.now.own.items n
  pub of : TypeMarked t t.told.now t.counted.now d.file (number_at t.numbers.now.told.items n) d.type_tree
  pub limits : TypeMarked t t.own.now t.own.now d.file (number_at t.numbers.now.own.items n) d.type_tree

abbrev pub IsMarkedAs : Trial → ℕ → Outline → Bool → Type 0
IsMarkedAs t n o true = IsMarkedType t n o.specification
IsMarkedAs t n o false = IsMarked t n o.specification o.column
