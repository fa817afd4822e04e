-- The words of windows: a row of numbers in which the names of locals are marked.
--
-- A node gives the number of its kind, then its own words, then the words of its parts in order; a part that is left out gives 0,
-- and a list of parts stands behind its length. Types, keys of fields and specifications of variables have no kind.
use Rattle.std.specs.Prelude.{ℕ, suc, Bool, true, false, ◌&&◌, nat_eq, nat_lt, if◌then◌else◌, List, [], ◌∷◌, ◌++◌, Option, Some, None}
use Rattle.std.specs.List.{list_any}
use Rattle.go_constants.specs.declared.values.Const.{Const}
use Rattle.go_print.specs.Literals.{literal_text}
use Rattle.go_typed.specs.Forms.{local_of}
use Rattle.go_typed.specs.Trees.{Sort, Nothing, Typed, typed, Typeds, none, more, skip}
use Rattle.clone_window.specs.declared.outline.Outline.{Outline}
use Rattle.clone_window.specs.Kinds.{outline}
use Rattle.clone_window.specs.Masses.{is_hole, is_inside}
use Rattle.clone_window.specs.Sameness.{Compared, by_form, by_sort, by_literal, compared, final, value_of}
use Rattle.alpha_hash_defs.specs.Hash.{text_fold}
use Rattle.clone_window.specs.Fields.{names_field, field_name}
use Rattle.alpha_hash_defs.specs.Naming.{Naming, final_text}

pub data Word : Type 0 where
  number : ℕ → Word
  -- the name of a local, which gives 0
  named : ℕ → Word

abbrev pub word_value : Word → ℕ
word_value (number n) = n
word_value (named l) = 0

-- ---- where lists of parts begin

abbrev pub is_one_of : List ℕ → ℕ → Bool
is_one_of ks k = list_any (nat_eq k) ks

-- a list whose length a node shows stands first: targets, names, or the values of a case
abbrev pub begins_with_list : Outline → Bool
begins_with_list o = is_one_of (4 ∷ 6 ∷ 17 ∷ 20 ∷ 21 ∷ 50 ∷ []) o.kind

-- The place among the parts at which the last list begins: values, statements, specifications, names, clauses, arguments or elements.
abbrev pub last_list : Outline → Option ℕ
last_list o =
    if is_one_of (4 ∷ 6 ∷ 17 ∷ []) o.kind then Some o.count else
    if nat_eq o.kind 50 then Some (suc o.count) else
    if is_one_of (7 ∷ 8 ∷ 9 ∷ 10 ∷ 14 ∷ 18 ∷ []) o.kind then Some 0 else
    if is_one_of (39 ∷ 41 ∷ []) o.kind then Some 1 else
    if nat_eq o.kind 16 then Some 2 else None

abbrev pub length_if : Bool → ℕ → List Word
length_if true n = number n ∷ []
length_if false n = []

abbrev pub is_at : Option ℕ → ℕ → Bool
is_at None i = false
is_at (Some k) i = nat_eq k i

-- the lengths of the lists that begin in front of the part of this place, behind which so many parts stand
abbrev pub lengths_at : Outline → ℕ → ℕ → List Word
lengths_at o i left = length_if (begins_with_list o && nat_eq i 0) o.count ++ length_if (is_at (last_list o) i) left

abbrev pub row_length : {T : Type 0} → Typeds T → ℕ
row_length none = 0
row_length (more p ps) = suc (row_length ps)
row_length (skip ps) = suc (row_length ps)

-- ---- own words

abbrev pub one_if : Bool → ℕ → List Word
one_if true n = number n ∷ []
one_if false n = []

abbrev pub kind_words : Outline → List Word
kind_words o = one_if (nat_lt o.kind 50) o.kind

abbrev pub operator_words : Outline → List Word
operator_words o = one_if (is_one_of (2 ∷ 5 ∷ 42 ∷ 43 ∷ []) o.kind) o.operator

abbrev pub local_words : Option ℕ → List Word
local_words None = []
local_words (Some l) = named l ∷ []

abbrev pub object_words : {T : Type 0} → Naming T → Outline → List Word
object_words n o = one_if (nat_eq o.kind 32) (text_fold (n.object_text o))

-- the name of the field that is selected of the first part, or for which an element of a composite literal stands
abbrev pub field_words : {T : Type 0} → Naming T → Sort T → Outline → Typeds T → List Word
field_words n owner o ps = one_if (names_field o) (text_fold (field_name n.field_text owner o ps))

abbrev pub value_text : Option Const → List ℕ
value_text None = []
value_text (Some c) = literal_text c

-- types, and literals that are no holes
abbrev pub compared_words : {T : Type 0} → Naming T → Compared → Outline → Sort T → List Word
compared_words n by_form o s = []
compared_words n by_sort o s = one_if (nat_eq o.kind 52) (text_fold (final_text n (final s)))
compared_words n by_literal o s = number (text_fold (value_text (value_of s))) ∷ []

-- A name of `:=` gives 1 where it is new, 0 where it is reused, and 2 for `_`.
abbrev pub defined_words : Bool → Outline → List Word
defined_words true o = one_if (nat_eq o.kind 31) o.count ++ one_if (nat_eq o.kind 33) 2
defined_words false o = []

-- what a name of a declaration of constants stands for
abbrev pub constant_words : {T : Type 0} → Naming T → Sort T → List Word
constant_words n s = number (text_fold (final_text n (final s))) ∷ number (text_fold (value_text (value_of s))) ∷ []

abbrev pub blank_words : {T : Type 0} → Naming T → Compared → Sort T → List Word
blank_words n by_sort s = constant_words n s
blank_words n c s = []

abbrev pub name_words : {T : Type 0} → Naming T → Option ℕ → Compared → Sort T → List Word
name_words n (Some l) c s = constant_words n (n.local_sort l)
name_words n None c s = blank_words n c s

abbrev pub declared_words : {T : Type 0} → Naming T → Bool → Typed T → List Word
declared_words n inside (typed f i j l ps) = if is_hole inside f l then [] else name_words n (local_of f) (compared f) l.sort

abbrev pub all_declared : {T : Type 0} → Naming T → Bool → Typeds T → List Word
all_declared n inside none = []
all_declared n inside (more p ps) = declared_words n inside p ++ all_declared n inside ps
all_declared n inside (skip ps) = all_declared n inside ps

abbrev pub constants_words : {T : Type 0} → Naming T → Bool → Outline → Typeds T → List Word
constants_words n inside o ps = if nat_eq o.kind 8 then all_declared n inside ps else []

-- ---- words

-- The words of a node in front of those of its parts, by what it shows, the local that it names, how nodes of its form are compared,
-- and what it stands for. Its parts may stand inside a constant expression.
abbrev pub own_words : {T : Type 0} → Naming T → Bool → Bool → Sort T → Outline → Option ℕ → Compared → Sort T → Typeds T → List Word
own_words n inside in_define owner o local c s ps =
    kind_words o ++ operator_words o ++ local_words local ++ object_words n o ++ field_words n owner o ps
    ++ compared_words n c o s ++ defined_words in_define o ++ constants_words n inside o ps

abbrev pub hole_words : {T : Type 0} → Naming T → Sort T → List Word
hole_words n s = number 30 ∷ number (text_fold (final_text n (final s))) ∷ []

-- whether the part of this place is a name of `:=`
abbrev pub is_defined : Outline → ℕ → Bool
is_defined o i = is_one_of (6 ∷ 21 ∷ []) o.kind && nat_lt i o.count

abbrev mutual
  -- The words of a tree, which may stand inside a constant expression, or as a name of `:=`, or as an element of a composite literal.
  pub words : {T : Type 0} → Naming T → Bool → Bool → Sort T → Typed T → List Word
  words n inside in_define owner (typed f i j l ps) =
      if is_hole inside f l then hole_words n l.sort
      else own_words n (is_inside inside f l) in_define owner (outline f) (local_of f) (compared f) l.sort ps ++ row_words n (is_inside inside f l) (outline f) l.sort 0 ps

  -- those of a row of parts from the one of some place on
  pub row_words : {T : Type 0} → Naming T → Bool → Outline → Sort T → ℕ → Typeds T → List Word
  row_words n inside o owner k none = lengths_at o k 0
  row_words n inside o owner k (more p ps) = lengths_at o k (suc (row_length ps)) ++ words n inside (is_defined o k) owner p ++ row_words n inside o owner (suc k) ps
  row_words n inside o owner k (skip ps) = lengths_at o k (suc (row_length ps)) ++ number 0 ∷ row_words n inside o owner (suc k) ps

-- those of statements, one after the other
abbrev pub window_words : {T : Type 0} → Naming T → Typeds T → List Word
window_words n none = []
window_words n (more p ps) = words n false false Nothing p ++ window_words n ps
window_words n (skip ps) = window_words n ps
