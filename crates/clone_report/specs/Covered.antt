-- Which statements of a file are covered by clone classes.
use Rattle.std.specs.Prelude.{ℕ, suc, ◌+◌, ◌-◌, Bool, false, ◌&&◌, ◌||◌, nat_eq, nat_le, nat_lt, if◌then◌else◌, List, [], ◌∷◌, ◌++◌, length, count_by, map, Option, Some, None, slice_get}
use Rattle.std.specs.List.{list_any, range_with_len}
use Rattle.go_tree.specs.File.{FileTree}
use Rattle.go_typed.specs.declared.window.Window.{Window}
use Rattle.go_typed.specs.Forms.{is_statement_list, values_count}
use Rattle.go_typed.specs.Trees.{Typed, typed, Typeds, none, more, skip}
use Rattle.clone_window.specs.declared.span.FunctionPlace.{FunctionPlace}
use Rattle.clone_window.specs.Bodies.{Body}
use Rattle.clone_window.specs.Spans.{places_from}
use Rattle.clone_window.specs.Windows.{list_count}

-- ---- statements of members

-- whether the statement at this place of a statement list of a function stands in the window
abbrev pub stands_in : ℕ → ℕ → ℕ → Window → Bool
stands_in func list at w = nat_eq w.func func && nat_eq w.list list && nat_le w.first at && nat_lt at (w.first + w.count)

-- whether it stands in a member of one of the classes
abbrev pub stands : List (List Window) → ℕ → ℕ → ℕ → Bool
stands classes func list at = list_any (λ c. list_any (stands_in func list at) c) classes

-- ---- statements of a tree

-- Whether a part of a statement list is covered or lies within a statement that is: such a statement contains the list, or the
-- part is a statement, since it isn't ahead of them, that stands in a member.
abbrev pub is_covered : (ℕ → ℕ → Bool) → Bool → ℕ → ℕ → ℕ → Bool
is_covered stands inside list ahead index = inside || (nat_le ahead index && stands list (index - ahead))

-- what is said of the part, if it is a statement
abbrev pub own : ℕ → ℕ → Bool → List Bool
own ahead index covered = if nat_le ahead index then covered ∷ [] else []

abbrev mutual
  -- Of each statement of the statement lists of a tree, in order, whether it is covered: it, or a statement that contains it,
  -- stands in a member. The first list has the number k, and `inside` says whether a statement that contains the tree does so.
  pub statements_in : {T : Type 0} → (ℕ → ℕ → Bool) → Bool → ℕ → Typed T → List Bool
  statements_in stands inside k (typed f i j l ps) =
      if is_statement_list f then statements_along stands inside k (values_count f) (suc k) 0 ps else statements_among stands inside k ps

  -- the same of the parts of a node that is no statement list
  pub statements_among : {T : Type 0} → (ℕ → ℕ → Bool) → Bool → ℕ → Typeds T → List Bool
  statements_among stands inside k none = []
  statements_among stands inside k (more p ps) = statements_in stands inside k p ++ statements_among stands inside (k + list_count p) ps
  statements_among stands inside k (skip ps) = statements_among stands inside k ps

  -- the same of the parts of a statement list, from the part of some index on, where k is the number of the next list
  pub statements_along : {T : Type 0} → (ℕ → ℕ → Bool) → Bool → ℕ → ℕ → ℕ → ℕ → Typeds T → List Bool
  statements_along stands inside list ahead k index none = []
  statements_along stands inside list ahead k index (more p ps) =
      own ahead index (is_covered stands inside list ahead index)
      ++ statements_in stands (is_covered stands inside list ahead index) k p
      ++ statements_along stands inside list ahead (k + list_count p) (suc index) ps
  statements_along stands inside list ahead k index (skip ps) = statements_along stands inside list ahead k index ps

-- ---- statements of a file

abbrev pub is_placed : ℕ → Option FunctionPlace → Bool
is_placed file None = false
is_placed file (Some place) = nat_eq place.file file

-- the statements of a function, if it stands in the file of this number
abbrev pub statements_there : {T : Type 0} → (ℕ → ℕ → ℕ → Bool) → List FunctionPlace → ℕ → ℕ → Body T → List Bool
statements_there stands places file n b = if is_placed file (slice_get places n) then statements_in (stands n) false 0 b.root else []

-- those of functions in order, the first of which has the number n
abbrev pub statements_from : {T : Type 0} → (ℕ → ℕ → ℕ → Bool) → List FunctionPlace → ℕ → ℕ → List (Body T) → List Bool
statements_from stands places file n [] = []
statements_from stands places file n (b ∷ bs) = statements_there stands places file n b ++ statements_from stands places file (suc n) bs

-- how many statements are covered, and how many there are
abbrev pub counted : List Bool → ℕ × ℕ
counted statements = (count_by (λ covered. covered) statements, length statements)

-- Of the statements in all statement lists of the functions of the file of this number, how many are covered by members of the
-- classes, and how many there are.
abbrev pub coverage : {T : Type 0} → List (List Window) → List FileTree → List (Body T) → ℕ → ℕ × ℕ
coverage classes files bodies file = counted (statements_from (stands classes) (places_from 0 files) file 0 bodies)

-- of each file, in order
abbrev pub coverages : {T : Type 0} → List (List Window) → List FileTree → List (Body T) → List (ℕ × ℕ)
coverages classes files bodies = map (coverage classes files bodies) (range_with_len 0 (length files))
