-- Array types whose size can't be told yet.
use Rattle.std.proofs.Common.{◌≡◌, ℕ, ◌<◌, Bool, true, false, cond, List, [], ◌∷◌, ◌++◌, refl, ap, sym, ◌∙◌, append_assoc, arith}
use Rattle.std.specs.Prelude.{◌&&◌, not, is_some, nat_lt}
use Rattle.std.proofs.lemmas.Bool.Decides.{nat_tests}
use Rattle.go_base.specs.declared.fault.FaultCode.TheVariants as code
use Rattle.go_types.specs.Trees.{TypeTree, array}
use Rattle.go_types.specs.Relations.{Rights}
use Rattle.go_types_relations.specs.Sizes.{scalars_of}
use Rattle.go_typed.specs.Trees.{typed, Typeds, none, more, skip}
use Rattle.go_typed.specs.Trees as sort
use Rattle.go_exprs_rules.specs.Faults.{fault_at}
use Rattle.go_exprs_rules.specs.Settling.{Part}
use Rattle.go_exprs_rules.specs.Sorts.{Stands}
use Rattle.go_exprs_rules.specs.TypeNodes.{exceeds}
use Rattle.go_stmts_defs.specs.Rules.{is_late, late_limits, all_late_limits}
use Rattle.go_types.specs.Tables.{Table, IsTable, HasShape, type_of, tree_of}
use Rattle.go_types.specs.Verdicts.{kept_count}
use Rattle.go_types.specs.declared.shape.Shape.{Shape}
use Rattle.go_types.specs.declared.shape.Shape.TheVariants as shape
use Rattle.go_types.proofs.Public.{type_of_shape}
use Rattle.go_exprs_rules.specs.TypeNodes.{most_scalars}
use Rattle.go_stmts_parts.specs.Late.{is_array, is_array_shape, LateArray, waiting, late_arrays, all_late_arrays, too_large, all_too_large}

too_large_append : (behind : Rights) (es bs : List LateArray) → all_too_large behind (es ++ bs) ≡ all_too_large behind es ++ all_too_large behind bs
too_large_append behind [] bs = refl
too_large_append behind (a ∷ es) bs =
    ap (λ fs. too_large behind a ++ fs) (too_large_append behind es bs) ∙ sym (append_assoc (too_large behind a) (all_too_large behind es) (all_too_large behind bs))

module _ (before behind : Rights) (i j : ℕ) where
  told : (known large : Bool) (a : LateArray) → too_large behind a ≡ cond large (fault_at code.Limit i j) [] → cond (not known && large) (fault_at code.Limit i j) [] ≡ all_too_large behind (cond (true && not known) (a ∷ []) [])
  told true large a e = refl
  told false true a e = ap (λ fs. fs ++ []) (sym e)
  told false false a e = ap (λ fs. fs ++ []) (sym e)

  late_is : (x : Stands) → cond (is_late before behind x) (fault_at code.Limit i j) [] ≡ all_too_large behind (waiting before i j x)
  late_is (sort.IsType (array n t)) = told (is_some (scalars_of before (array n t))) (exceeds (scalars_of behind (array n t))) (record { first = i; last = j; of = array n t }) refl
  late_is (sort.IsType t) = refl
  late_is x = refl

mutual
  pub limits_told : (before behind : Rights) (x : Part) → late_limits before behind x ≡ all_too_large behind (late_arrays before x)
  limits_told before behind (typed f i j l ps) =
      ap (λ fs. fs ++ cond (is_late before behind l.sort) (fault_at code.Limit i j) []) (all_limits_told before behind ps)
      ∙ ap (λ fs. all_too_large behind (all_late_arrays before ps) ++ fs) (late_is before behind i j l.sort)
      ∙ sym (too_large_append behind (all_late_arrays before ps) (waiting before i j l.sort))

  pub all_limits_told : (before behind : Rights) (ps : Typeds TypeTree) → all_late_limits before behind ps ≡ all_too_large behind (all_late_arrays before ps)
  all_limits_told before behind none = refl
  all_limits_told before behind (more p ps) =
      ap (λ fs. fs ++ all_late_limits before behind ps) (limits_told before behind p)
      ∙ ap (λ fs. all_too_large behind (late_arrays before p) ++ fs) (all_limits_told before behind ps)
      ∙ sym (too_large_append behind (late_arrays before p) (all_late_arrays before ps))
  all_limits_told before behind (skip ps) = all_limits_told before behind ps

-- ---- shapes and counts

-- a shape is that of an array where its type is one
pub shape_type : (t : Table) → IsTable t → (i : ℕ) (s : Shape) → HasShape t i s → is_array (type_of t.shapes i) ≡ is_array_shape s
shape_type t ok i s h = ap is_array (type_of_shape t.shapes ok.parts_below i s h) ∙ of_shape s
  where
    of_shape : (s : Shape) → is_array (tree_of (type_of t.shapes) s) ≡ is_array_shape s
    of_shape shape.Bool = refl
    of_shape shape.Text = refl
    of_shape (shape.Int k) = refl
    of_shape (shape.Array n e) = refl
    of_shape (shape.Slice e) = refl
    of_shape (shape.Struct fs) = refl
    of_shape (shape.Func ps rs) = refl
    of_shape (shape.Named n) = refl

tests_same : (a b : ℕ) → (1048576 < a → 1048576 < b) → (1048576 < b → 1048576 < a) → nat_lt 1048576 a ≡ nat_lt 1048576 b
tests_same a b f g = grind (arith, nat_tests)

-- a count that is too large is kept as one that is
pub kept_exceeds : (n : ℕ) → nat_lt most_scalars (kept_count n) ≡ nat_lt most_scalars n
kept_exceeds n = tests_same (kept_count n) n (λ g. omega arith) (λ g. omega arith)
