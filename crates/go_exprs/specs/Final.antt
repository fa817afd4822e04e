-- Final types, from above: what is untyped has the type that is wanted of it, or else its default type. `nil` has the type that is
-- wanted of it.
--
-- What stands alone for a value of a type has that type. In an operation that isn't constant each untyped operand is wanted to have
-- the operation's final type, but for a shift's count and the operands of a comparison. In parentheses the type of the parentheses is
-- wanted, and behind an element's key that of the element. Every other part has the type that its place gives it, if any.
use Rattle.std.specs.Prelude.{ℕ, Bool, true, false, ◌&&◌, if◌then◌else◌, List, [], ◌∷◌, ◌++◌, Option, Some, None}
use Rattle.go_grammar.specs.declared.kind.Kind.{Kind}
use Rattle.go_grammar.specs.declared.kind.Kind.TheVariants as kind
use Rattle.go_grammar.specs.declared.kind.Operator.{Operator}
use Rattle.go_grammar.specs.declared.kind.Operator.TheVariants as operator
use Rattle.go_grammar.specs.Trees.{Tree, node, Trees, none, more, skip, kind_of}
use Rattle.go_types.specs.Trees.{TypeTree}
use Rattle.go_types.specs.Relations.{Rights}
use Rattle.go_typed.specs.Trees.{Typed, typed, row, sort_of}
use Rattle.go_typed.specs.Trees as sort
use Rattle.go_exprs_rules.specs.declared.family.OpenKind.{OpenKind}
use Rattle.go_exprs_rules.specs.Sorts.{Stands, own_type, open_kind, takes_type, is_constant, default_type, retyped, int, uint}
use Rattle.go_exprs_rules.specs.Settling.{Part, Take, stay, default, as_type}
use Rattle.go_exprs_rules.specs.Operators.{is_shift, binary_take, compared_take}
use Rattle.go_exprs_rules.specs.Scopes.{Scope, Hint}
use Rattle.go_exprs_rules.specs.Tables.{Parts, hint, part_scope, layout, label, form_by, sort_by, takes, own_faults, is_sound, on_one, on_two}
use Rattle.go_exprs_rules.specs.Typing.{typing, typings}

-- ---- what is wanted

-- What is wanted of a part: that it takes this; or that it is an index, or the bounds of a slice expression, each of which is one
pub data Wanted : Type 0 where
  take : Take → Wanted
  bound : Wanted

abbrev pub take_of : Wanted → Take
take_of (take k) = k
take_of bound = as_type int

-- what stands alone for x, where this is wanted
abbrev pub default_under : Option OpenKind → Stands → Stands
default_under (Some k) x = retyped (default_type k) x
default_under None x = x

abbrev pub under : Take → Stands → Stands
under stay x = x
under default x = default_under (open_kind x) x
under (as_type t) x = retyped t x

abbrev pub as_own : Option TypeTree → Take
as_own (Some t) = as_type t
as_own None = stay

-- the final type of what stands alone for x, if it is a value
abbrev pub final_type : Take → Stands → Take
final_type w x = as_own (own_type (under w x))

-- the same where x is untyped or `nil`
abbrev pub handed : Take → Stands → Take
handed w x = if takes_type x then final_type w x else stay

-- ---- what is wanted of the parts of a node, which stands alone for x and of which w is wanted

-- the operand a of a unary operation
abbrev pub operand_wants : Take → Stands → Stands → Take
operand_wants w x a = if is_constant a then default else final_type w x

abbrev pub shift_wants : Take → Stands → Stands → Stands → List Take
shift_wants w x a n = (if is_constant a && is_constant n then default else final_type w x) ∷ as_type uint ∷ []

abbrev pub both_want : Take → List Take
both_want k = k ∷ k ∷ []

-- the operands a and b of a binary operation
abbrev pub operation_wants : Rights → Operator → Take → Stands → Stands → Stands → List Take
operation_wants rights (operator.Compare c) w x a b = both_want (compared_take rights a b)
operation_wants rights o w x a b =
    if is_shift o then shift_wants w x a b else both_want (if is_constant a && is_constant b then binary_take rights a b else final_type w x)

abbrev pub each : {A : Type 0} → Take → List A → List Take
each k [] = []
each k (x ∷ xs) = k ∷ each k xs

abbrev pub all_take : List Take → List Wanted
all_take [] = []
all_take (k ∷ ks) = take k ∷ all_take ks

abbrev pub rest : List Take → List Take
rest [] = []
rest (k ∷ ks) = ks

-- the bounds of a slice expression
abbrev pub bounds_want : Wanted → Stands → List Take → Parts → List Take
bounds_want bound x ks xs = ks
bounds_want (take w) x ks xs = each (handed w x) xs

abbrev pub wants : Scope → Kind → Hint → Wanted → Stands → Parts → List Wanted
wants s (kind.Unary o) h w x xs = all_take (on_one (each (handed (take_of w) x) xs) (λ y. operand_wants (take_of w) x (sort_of y) ∷ []) xs)
wants s (kind.Binary o) h w x xs = all_take (on_two (each (handed (take_of w) x) xs) (λ y z. operation_wants s.rights o (take_of w) x (sort_of y) (sort_of z)) xs)
wants s kind.Call h w x xs = all_take (takes s kind.Call h (layout kind.Call xs))
wants s kind.Composite h w x xs = all_take (takes s kind.Composite h (layout kind.Composite xs))
wants s kind.LiteralValue h w x xs = all_take (rest (takes s kind.LiteralValue h (layout kind.LiteralValue xs)))
wants s kind.Bracketed h w x xs = take default ∷ bound ∷ []
wants s kind.Bounds h w x xs = all_take (bounds_want w x (as_type int ∷ []) xs)
wants s kind.BoundsFrom h w x xs = all_take (bounds_want w x (as_type int ∷ as_type int ∷ []) xs)
wants s k h w x xs = all_take (each (handed (take_of w) x) xs)

-- ---- the tree

-- What a node over these parts stands alone for, and what is wanted of its parts. One that isn't judged, or has a fault, stands for
-- nothing that is known and wants nothing of them.
abbrev pub stands_if : Bool → Stands → Stands
stands_if true x = x
stands_if false x = sort.Unknown

abbrev pub wants_if : Bool → List Wanted → List Wanted
wants_if true ws = ws
wants_if false ws = []

abbrev pub sound : Scope → Kind → Hint → ℕ → ℕ → Parts → Bool
sound s k h i j xs = is_sound k (layout k xs) (own_faults s k h i j (layout k xs))

abbrev pub alone : Scope → Kind → Hint → ℕ → ℕ → Parts → Stands
alone s k h i j xs = stands_if (sound s k h i j xs) (sort_by s k h i j (layout k xs))

abbrev pub parts_want : Scope → Kind → Hint → Wanted → ℕ → ℕ → Parts → List Wanted
parts_want s k h w i j xs = wants_if (sound s k h i j xs) (wants s k h w (alone s k h i j xs) xs)

-- the node over its parts xs as they stand alone, and ys with their final types
abbrev pub finished : Scope → Kind → Hint → Wanted → ℕ → ℕ → Parts → Parts → Part
finished s k h w i j xs ys =
    typed (form_by s k h i j (layout k xs)) i j (record (label (form_by s k h i j (layout k xs)) (alone s k h i j xs) (layout k xs)) { sort = under (take_of w) (alone s k h i j xs) }) (row (layout k ys))

abbrev pub first_wanted : List Wanted → Wanted
first_wanted [] = take stay
first_wanted (w ∷ ws) = w

abbrev pub rest_wanted : List Wanted → List Wanted
rest_wanted [] = []
rest_wanted (w ∷ ws) = ws

abbrev mutual
  -- the typed tree of which w is wanted, with its final types
  pub final : Scope → Hint → Wanted → Tree → Part
  final s h w (node k i j ps) = finished s k h w i j (typings s k h ps [] ps) (finals s k h (parts_want s k h w i j (typings s k h ps [] ps)) ps [] ps)

  -- the parts ps, of which ws are wanted, behind the parts xs as they stand alone; the argument all has all of them as they are written
  pub finals : Scope → Kind → Hint → List Wanted → Trees → Parts → Trees → Parts
  finals s k h ws all xs none = []
  finals s k h ws all xs (more p ps) =
      Some (final (part_scope s k xs) (hint s k h all xs (kind_of p)) (first_wanted ws) p) ∷ finals s k h (rest_wanted ws) all (xs ++ Some (typing (part_scope s k xs) (hint s k h all xs (kind_of p)) p) ∷ []) ps
  finals s k h ws all xs (skip ps) = None ∷ finals s k h (rest_wanted ws) all (xs ++ None ∷ []) ps
