-- When two windows are the same: their nodes agree one by one, up to constants, and their locals are paired one to one.
use Rattle.std.specs.Prelude.{ℕ, Bool, true, false, ◌&&◌, not, nat_eq, if◌then◌else◌, List, [], ◌++◌, Option, Some, None, unwrap_or, slice_get}
use Rattle.std.specs.List.{list_all, zip}
use Rattle.std.specs.Option.{option_to_list}
use Rattle.std.specs.Ordering.{int_eq}
use Rattle.go_constants.specs.declared.values.Const.{Const}
use Rattle.go_constants.specs.declared.values.Const.TheVariants as const
use Rattle.go_types_relations.specs.Identity.{same_name}
use Rattle.go_constants.specs.Folding.{same_bool}
use Rattle.go_typed.specs.declared.form.Form.{Form}
use Rattle.go_typed.specs.declared.form.Form.TheVariants as form
use Rattle.go_typed.specs.declared.sort.Untyped.{Untyped}
use Rattle.go_typed.specs.declared.sort.Untyped.TheVariants as untyped
use Rattle.go_typed.specs.Trees.{Sort, Unknown, IsType, Value, Constant, Open, OpenConstant, Typed, typed, Typeds, none, more, skip}
use Rattle.clone_window.specs.declared.outline.Outline.{Outline}
use Rattle.go_typed.specs.Forms.{local_of}
use Rattle.clone_window.specs.Kinds.{outline}
use Rattle.clone_window.specs.Masses.{is_hole, is_inside}

-- ---- constants

abbrev pub same_value : Const → Const → Bool
same_value (const.Bool a) (const.Bool b) = same_bool a b
same_value (const.Int a left) (const.Int b right) = int_eq a b
same_value (const.Text a) (const.Text b) = same_name a b
same_value _ _ = false

-- untyped boolean, integer, rune and string
abbrev pub const_kind : Const → ℕ
const_kind (const.Bool b) = 0
const_kind (const.Int n false) = 1
const_kind (const.Int n true) = 2
const_kind (const.Text b) = 3

abbrev pub untyped_kind : Untyped → ℕ
untyped_kind untyped.Boolean = 0
untyped_kind untyped.Integer = 1
untyped_kind untyped.Rune = 2

-- ---- what nodes and locals stand for

-- The type of a value, a constant or a type itself; that of an untyped one is its kind.
pub data Final (T : Type 0) : Type 0 where
  of_type : T → Final T
  of_kind : ℕ → Final T
  of_none : Final T

abbrev pub final : {T : Type 0} → Sort T → Final T
final (IsType t) = of_type t
final (Value t) = of_type t
final (Constant t c) = of_type t
final (Open u) = of_kind (untyped_kind u)
final (OpenConstant c) = of_kind (const_kind c)
final _ = of_none

-- Types are compared by a test of identity; an untyped one is identical to itself alone.
abbrev pub same_final : {T : Type 0} → (T → T → Bool) → Final T → Final T → Bool
same_final identical (of_type t) (of_type u) = identical t u
same_final identical (of_kind a) (of_kind b) = nat_eq a b
same_final identical of_none of_none = true
same_final identical _ _ = false

-- a variable, a constant, a type, or none of these
abbrev pub standing : {T : Type 0} → Sort T → ℕ
standing (Value t) = 1
standing (Open u) = 1
standing (Constant t c) = 2
standing (OpenConstant c) = 2
standing (IsType t) = 3
standing _ = 0

abbrev pub value_of : {T : Type 0} → Sort T → Option Const
value_of (Constant t c) = Some c
value_of (OpenConstant c) = Some c
value_of _ = None

abbrev pub same_values : Option Const → Option Const → Bool
same_values None None = true
same_values (Some a) (Some b) = same_value a b
same_values _ _ = false

-- both variables, constants or types, of identical types, and constants of equal values
abbrev pub are_alike : {T : Type 0} → (T → T → Bool) → Sort T → Sort T → Bool
are_alike identical s t = nat_eq (standing s) (standing t) && same_final identical (final s) (final t) && same_values (value_of s) (value_of t)

-- literals of one kind with equal values
abbrev pub same_literal : Option Const → Option Const → Bool
same_literal None None = true
same_literal (Some a) (Some b) = nat_eq (const_kind a) (const_kind b) && same_value a b
same_literal _ _ = false

-- ---- nodes

abbrev pub same_outline : Outline → Outline → Bool
same_outline a b = nat_eq a.kind b.kind && nat_eq a.operator b.operator && nat_eq a.count b.count

-- What two nodes of a form must also agree in: nothing, what they stand for, or the values of literals. The types of type nodes
-- are compared, and what a declaration of constants says of `_`.
pub data Compared : Type 0 where
  by_form : Compared
  by_sort : Compared
  by_literal : Compared

abbrev pub compared : Form → Compared
compared form.Type = by_sort
compared form.Blank = by_sort
compared form.Literal = by_literal
compared _ = by_form

abbrev pub agree_besides : {T : Type 0} → (T → T → Bool) → Compared → Compared → Sort T → Sort T → Bool
agree_besides identical by_form by_form s t = true
agree_besides identical by_sort by_sort s t = are_alike identical s t
agree_besides identical by_literal by_literal s t = same_literal (value_of s) (value_of t)
agree_besides identical _ _ s t = false

-- A hole stands against a hole of an identical final type; any other node against one of its form, whose parts agree.
abbrev pub agree_at : {T : Type 0} → (T → T → Bool) → Bool → Bool → Form → Form → Sort T → Sort T → Bool → Bool
agree_at identical true true f g s t parts = same_final identical (final s) (final t)
agree_at identical false false f g s t parts = same_outline (outline f) (outline g) && agree_besides identical (compared f) (compared g) s t && parts
agree_at identical _ _ f g s t parts = false

abbrev mutual
  -- Two trees, each of which may stand inside a constant expression, agree node by node, up to locals and constants.
  pub agree : {T : Type 0} → (T → T → Bool) → Bool → Bool → Typed T → Typed T → Bool
  agree identical a b (typed f i j l ps) (typed g k m n qs) =
      agree_at identical (is_hole a f l) (is_hole b g n) f g l.sort n.sort (all_agree identical (is_inside a f l) (is_inside b g n) ps qs)

  -- Rows of parts agree part by part; a part that is left out stands against one that is left out.
  pub all_agree : {T : Type 0} → (T → T → Bool) → Bool → Bool → Typeds T → Typeds T → Bool
  all_agree identical a b none none = true
  all_agree identical a b (more p ps) (more q qs) = agree identical a b p q && all_agree identical a b ps qs
  all_agree identical a b (skip ps) (skip qs) = all_agree identical a b ps qs
  all_agree identical a b _ _ = false

-- ---- locals

abbrev mutual
  -- the locals that the nodes of a tree name, in order of place, outside holes
  pub locals : {T : Type 0} → Bool → Typed T → List ℕ
  locals a (typed f i j l ps) = if is_hole a f l then [] else option_to_list (local_of f) ++ all_locals (is_inside a f l) ps

  pub all_locals : {T : Type 0} → Bool → Typeds T → List ℕ
  all_locals a none = []
  all_locals a (more p ps) = locals a p ++ all_locals a ps
  all_locals a (skip ps) = all_locals a ps

-- the pairs of locals at corresponding places
abbrev pub local_pairs : {T : Type 0} → Typeds T → Typeds T → List (ℕ × ℕ)
local_pairs ps qs = zip (all_locals false ps) (all_locals false qs)

abbrev pub is_iff : Bool → Bool → Bool
is_iff true b = b
is_iff false b = not b

-- Two pairs have one first local exactly where they have one second local.
abbrev pub fits_pair : (ℕ × ℕ) → (ℕ × ℕ) → Bool
fits_pair p q = is_iff (nat_eq p.0 q.0) (nat_eq p.1 q.1)

abbrev pub is_one_to_one : List (ℕ × ℕ) → Bool
is_one_to_one pairs = list_all (λ p. list_all (fits_pair p) pairs) pairs

-- what a local of a function stands for
abbrev pub sort_at : {T : Type 0} → List (Sort T) → ℕ → Sort T
sort_at sorts n = unwrap_or (slice_get sorts n) Unknown

-- the two of a pair are alike
abbrev pub is_matched : {T : Type 0} → (T → T → Bool) → List (Sort T) → List (Sort T) → (ℕ × ℕ) → Bool
is_matched identical here there p = are_alike identical (sort_at here p.0) (sort_at there p.1)

-- ---- windows

-- Two runs of statements are the same, where a test tells identical types, and the locals of their functions stand for these.
abbrev pub is_same : {T : Type 0} → (T → T → Bool) → List (Sort T) → List (Sort T) → Typeds T → Typeds T → Bool
is_same identical here there ps qs =
    all_agree identical false false ps qs && is_one_to_one (local_pairs ps qs) && list_all (is_matched identical here there) (local_pairs ps qs)
