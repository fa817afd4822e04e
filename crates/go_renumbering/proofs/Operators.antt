-- The rules on operators with other numbers of declared types.
use Rattle.std.proofs.Common.{◌≡◌, ◌∙◌, ℕ, Bool, true, false, List, [], ◌∷◌, map, Option, Some, None, Result, Ok, Err, refl, sym, ap, cond}
use Rattle.std.specs.Prelude.{◌||◌, ◌&&◌}
use Rattle.std.specs.Option.{option_map}
use Rattle.go_constants.specs.declared.values.Const.{Const}
use Rattle.go_constants.specs.declared.values.ConstFault.{ConstFault}
use Rattle.go_constants.specs.declared.values.ConstFault.TheVariants as const_fault
use Rattle.go_grammar.specs.declared.kind.Comparison.{Comparison}
use Rattle.go_grammar.specs.declared.kind.Operator.{Operator}
use Rattle.go_grammar.specs.declared.kind.Operator.TheVariants as operator
use Rattle.go_grammar.specs.declared.kind.Sign.{Sign}
use Rattle.go_types.specs.Trees.{TypeTree, integer}
use Rattle.go_types.specs.Relations.{Rights}
use Rattle.go_types_relations.specs.Identity.{is_identical}
use Rattle.go_types_relations.specs.Renaming.{renamed, IsOneToOne, AreRenamed}
use Rattle.go_types_relations.specs.Tests.{is_assignable}
use Rattle.go_typed.specs.Trees.{typed, sort_of}
use Rattle.go_typed.specs.Trees as sort
use Rattle.go_exprs_rules.specs.declared.family.OpenKind.{OpenKind}
use Rattle.go_exprs_rules.specs.declared.family.OpenKind.TheVariants as untyped_kind
use Rattle.go_exprs_rules.specs.Operators.{Common, in_type, in_kind, common_kind, kind_common, one_typed, open_kinds, common_by, common, family_in, refused, open_value, result_in, in_range, out_of_range, complement_mask, own_by, own, unary_value, unary_failing_in, unary_failing, unary_sort_in, unary_sort, unary_take, zero_divisor, binary_value, binary_failing_in, binary_failing, binary_sort_in, binary_sort, binary_take_in, binary_take}
use Rattle.go_exprs_rules.specs.Operators.{is_count, shift_failing_in, shift_failing, shift_sort_in, shift_sort, shifted_take, nil_common, typed_compared, compared_in, unordered, incomparable, unfit, compared_refuse, compared_failing_in, compared_failing, compared_sort, compared_take_in, compared_take, is_shift, operation_failing, operation_sort, operation_takes}
use Rattle.go_exprs_rules.specs.Settling.{Part, Take, stay, default, as_type}
use Rattle.go_exprs_rules.specs.Sorts.{Stands, open_kind, own_type, is_constant, is_nil, default_type, form_of_value, suits, uint}
use Rattle.go_renumbering.specs.Renumbered.{stands_renamed, part_renamed}
use Rattle.go_renumbering.proofs.Parts.{branches}
use Rattle.go_renumbering.proofs.Sorts.{maybe, open_same, constant_same, own_same, nil_same, default_same, identical_same, assignable_same, comparable_same, form_same, whole_same, type_family_same, type_nil_same, suits_same, represents_same}
use Rattle.go_renumbering.proofs.Settling.{take_renamed, unrepresented_kept, default_unrepresented}

module _ (name : ℕ → ℕ) where
  abbrev pub common_renamed : Common → Common
  common_renamed (in_type t) = in_type (renamed name t)
  common_renamed (in_kind k) = in_kind k

  abbrev pub some_common : Option Common → Option Common
  some_common o = option_map common_renamed o

  abbrev pub takes_renamed : List Take → List Take
  takes_renamed ks = map (take_renamed name) ks

  pub kind_common_same : (o : Option OpenKind) → kind_common o ≡ some_common (kind_common o)
  kind_common_same None = refl
  kind_common_same (Some k) = refl

  open_kinds_same : (o q : Option OpenKind) → open_kinds o q ≡ some_common (open_kinds o q)
  open_kinds_same None q = refl
  open_kinds_same (Some k) None = refl
  open_kinds_same (Some k) (Some l) = kind_common_same (common_kind k l)

  open_value_same : (k : OpenKind) → open_value k ≡ stands_renamed name (open_value k)
  open_value_same untyped_kind.Boolean = refl
  open_value_same k = refl

  result_same : (c : Common) (v : Option (Result Const ConstFault)) → result_in (common_renamed c) v ≡ stands_renamed name (result_in c v)
  result_same (in_type t) None = refl
  result_same (in_kind k) None = open_value_same k
  result_same (in_type t) (Some (Ok v)) = refl
  result_same (in_kind k) (Some (Ok v)) = refl
  result_same (in_type t) (Some (Err e)) = refl
  result_same (in_kind k) (Some (Err e)) = refl

  mask_same : (o : Option TypeTree) → complement_mask (maybe name o) ≡ complement_mask o
  mask_same None = refl
  mask_same (Some (integer k)) = refl
  mask_same (Some t) = refl

  own_by_same : (o : Option TypeTree) (k : Option OpenKind) → own_by (maybe name o) k ≡ some_common (own_by o k)
  own_by_same (Some t) k = refl
  own_by_same None None = refl
  own_by_same None (Some k) = refl

  pub own_common : (x : Stands) → own (stands_renamed name x) ≡ some_common (own x)
  own_common x = ap (own_by (own_type (stands_renamed name x))) (open_same name x) ∙ ap (λ o. own_by o (open_kind x)) (own_same name x) ∙ own_by_same (own_type x) (open_kind x)

  pub constants_same : (x : Stands) → is_constant (stands_renamed name x) ≡ is_constant x
  constants_same x = let e = constant_same name x in cc

  pub unary_take_kept : (x : Stands) → unary_take (stands_renamed name x) ≡ take_renamed name (unary_take x)
  unary_take_kept x = ap (λ b. cond b default stay) (constants_same x) ∙ branches (take_renamed name) (is_constant x) default stay

  value_same : (o : Operator) (x y : Stands) → binary_value o (stands_renamed name x) (stands_renamed name y) ≡ binary_value o x y
  value_same o x y = let e = constant_same name x in let f = constant_same name y in cc

  zero_divisor_same : (o : Operator) (y : Part) → zero_divisor o (part_renamed name y) ≡ zero_divisor o y
  zero_divisor_same o (typed f i j l ps) = let e = constant_same name l.sort in cc

  binary_sort_in_same : (o : Operator) (x y : Stands) (c : Option Common) → binary_sort_in o (stands_renamed name x) (stands_renamed name y) (some_common c) ≡ stands_renamed name (binary_sort_in o x y c)
  binary_sort_in_same o x y None = refl
  binary_sort_in_same o x y (Some c) = ap (result_in (common_renamed c)) (value_same o x y) ∙ result_same c (binary_value o x y)

  shift_sort_in_same : (o : Operator) (x y : Stands) (c : Option Common) → shift_sort_in o (stands_renamed name x) (stands_renamed name y) (some_common c) ≡ stands_renamed name (shift_sort_in o x y c)
  shift_sort_in_same o x y None = refl
  shift_sort_in_same o x y (Some c) = ap (result_in (common_renamed c)) (value_same o x y) ∙ result_same c (binary_value o x y)

  shift_sort_same : (o : Operator) (x y : Stands) → shift_sort o (stands_renamed name x) (stands_renamed name y) ≡ stands_renamed name (shift_sort o x y)
  shift_sort_same o x y = ap (shift_sort_in o (stands_renamed name x) (stands_renamed name y)) (own_common x) ∙ shift_sort_in_same o x y (own x)

  both_constant_same : (x y : Stands) → (is_constant (stands_renamed name x) && is_constant (stands_renamed name y)) ≡ (is_constant x && is_constant y)
  both_constant_same x y = let e = constants_same x in let f = constants_same y in cc

  binary_take_in_same : (x y : Stands) (c : Option Common) → binary_take_in (stands_renamed name x) (stands_renamed name y) (some_common c) ≡ take_renamed name (binary_take_in x y c)
  binary_take_in_same x y None = refl
  binary_take_in_same x y (Some (in_type t)) = refl
  binary_take_in_same x y (Some (in_kind k)) = ap (λ b. cond b default stay) (both_constant_same x y) ∙ branches (take_renamed name) (is_constant x && is_constant y) default stay

  shifted_take_same : (x y : Stands) → shifted_take (stands_renamed name x) (stands_renamed name y) ≡ take_renamed name (shifted_take x y)
  shifted_take_same x y = ap (λ b. cond b default stay) (both_constant_same x y) ∙ branches (take_renamed name) (is_constant x && is_constant y) default stay

  compared_take_in_same : (x y : Stands) (c : Option Common) → compared_take_in (stands_renamed name x) (stands_renamed name y) (some_common c) ≡ take_renamed name (compared_take_in x y c)
  compared_take_in_same x y None = refl
  compared_take_in_same x y (Some (in_type t)) = refl
  compared_take_in_same x y (Some (in_kind k)) =
      ap (λ b. cond b default (as_type (default_type k))) (both_constant_same x y) ∙ ap (λ t. cond (is_constant x && is_constant y) default (as_type t)) (sym (default_same name k))
      ∙ branches (take_renamed name) (is_constant x && is_constant y) default (as_type (default_type k))

  compared_sort_same : (c : Comparison) (x y : Stands) → compared_sort c (stands_renamed name x) (stands_renamed name y) ≡ stands_renamed name (compared_sort c x y)
  compared_sort_same c x y =
      ap (result_in (in_kind untyped_kind.Boolean)) (value_same (operator.Compare c) x y) ∙ result_same (in_kind untyped_kind.Boolean) (binary_value (operator.Compare c) x y)

module _ (name : ℕ → ℕ) (one : IsOneToOne name) (old new : Rights) (same : AreRenamed name old new) where
  abbrev now : Stands → Stands
  now x = stands_renamed name x

  abbrev then : Option Common → Option Common
  then c = some_common name c

  -- ---- where operands meet

  pub meet : (b : Bool) (t : TypeTree) → cond b (Some (in_type (renamed name t))) None ≡ then (cond b (Some (in_type t)) None)
  meet true t = refl
  meet false t = refl

  pub one_typed_same : (t : TypeTree) (o : Option OpenKind) → one_typed new (renamed name t) o ≡ then (one_typed old t o)
  one_typed_same t None = refl
  one_typed_same t (Some k) = ap (λ b. cond b (Some (in_type (renamed name t))) None) (suits_same name one old new same k t) ∙ meet (suits old k t) t

  common_by_same : (x y : Stands) (o q : Option TypeTree) → common_by new (now x) (now y) (maybe name o) (maybe name q) ≡ then (common_by old x y o q)
  common_by_same x y (Some t) (Some u) = ap (λ b. cond b (Some (in_type (renamed name t))) None) (identical_same name one old new same t u) ∙ meet (is_identical t u) t
  common_by_same x y (Some t) None = ap (one_typed new (renamed name t)) (open_same name y) ∙ one_typed_same t (open_kind y)
  common_by_same x y None (Some u) = ap (one_typed new (renamed name u)) (open_same name x) ∙ one_typed_same u (open_kind x)
  common_by_same x y None None = ap (open_kinds (open_kind (now x))) (open_same name y) ∙ ap (λ o. open_kinds o (open_kind y)) (open_same name x) ∙ open_kinds_same name (open_kind x) (open_kind y)

  common_same : (x y : Stands) → common new (now x) (now y) ≡ then (common old x y)
  common_same x y = ap (common_by new (now x) (now y) (own_type (now x))) (own_same name y) ∙ ap (λ o. common_by new (now x) (now y) o (maybe name (own_type y))) (own_same name x) ∙ common_by_same x y (own_type x) (own_type y)

  family_in_same : (c : Common) → family_in new (common_renamed name c) ≡ family_in old c
  family_in_same (in_type t) = type_family_same name one old new same t
  family_in_same (in_kind k) = refl

  refused_same : (c : Common) (x : Part) → refused new (common_renamed name c) (part_renamed name x) ≡ refused old c x
  refused_same (in_type t) x = unrepresented_kept name one old new same t x
  refused_same (in_kind k) x = refl

  in_range_same : (c : Common) (v : Const) → in_range new (common_renamed name c) v ≡ in_range old c v
  in_range_same (in_type t) v = represents_same name one old new same t v
  in_range_same (in_kind k) v = refl

  out_of_range_same : (i j : ℕ) (c : Common) (o : Option (Result Const ConstFault)) → out_of_range new i j (common_renamed name c) o ≡ out_of_range old i j c o
  out_of_range_same i j c None = refl
  out_of_range_same i j c (Some (Ok v)) = let e = in_range_same c v in cc
  out_of_range_same i j c (Some (Err const_fault.TooWide)) = refl
  out_of_range_same i j c (Some (Err e)) = refl

  -- ---- unary operators

  unary_value_same : (o : Sign) (x : Stands) → unary_value new o (now x) ≡ unary_value old o x
  unary_value_same o x = let e = form_same name one old new same x in let f = mask_same name (form_of_value old x) in let g = constant_same name x in cc

  unary_failing_in_same : (o : Sign) (i j : ℕ) (x : Stands) (c : Option Common) → unary_failing_in new o i j (now x) (then c) ≡ unary_failing_in old o i j x c
  unary_failing_in_same o i j x None = refl
  unary_failing_in_same o i j x (Some c) =
      let e = family_in_same c in
      let f = unary_value_same o x in
      let g = out_of_range_same i j c (unary_value old o x) in
      cc

  pub unary_kept : (o : Sign) (i j : ℕ) (x : Stands) → unary_failing new o i j (now x) ≡ unary_failing old o i j x
  unary_kept o i j x = ap (unary_failing_in new o i j (now x)) (own_common name x) ∙ unary_failing_in_same o i j x (own x)

  unary_sort_in_same : (o : Sign) (x : Stands) (c : Option Common) → unary_sort_in new o (now x) (then c) ≡ now (unary_sort_in old o x c)
  unary_sort_in_same o x None = refl
  unary_sort_in_same o x (Some c) = ap (result_in (common_renamed name c)) (unary_value_same o x) ∙ result_same name c (unary_value old o x)

  pub unary_sort_kept : (o : Sign) (x : Stands) → unary_sort new o (now x) ≡ now (unary_sort old o x)
  unary_sort_kept o x = ap (unary_sort_in new o (now x)) (own_common name x) ∙ unary_sort_in_same o x (own x)

  -- ---- binary operators

  binary_failing_in_same : (o : Operator) (i j : ℕ) (x y : Part) (c : Option Common) → binary_failing_in new o i j (part_renamed name x) (part_renamed name y) (then c) ≡ binary_failing_in old o i j x y c
  binary_failing_in_same o i j x y None = refl
  binary_failing_in_same o i j (typed f a b k ps) (typed g p q l qs) (Some c) =
      let x = typed f a b k ps in
      let y = typed g p q l qs in
      let e = family_in_same c in
      let u = refused_same c x in
      let v = refused_same c y in
      let z = zero_divisor_same name o y in
      let w = value_same name o k.sort l.sort in
      let h = out_of_range_same i j c (binary_value o k.sort l.sort) in
      cc

  binary_failing_same : (o : Operator) (i j : ℕ) (x y : Part) → binary_failing new o i j (part_renamed name x) (part_renamed name y) ≡ binary_failing old o i j x y
  binary_failing_same o i j (typed f a b k ps) (typed g p q l qs) =
      let x = typed f a b k ps in
      let y = typed g p q l qs in
      ap (binary_failing_in new o i j (part_renamed name x) (part_renamed name y)) (common_same k.sort l.sort) ∙ binary_failing_in_same o i j x y (common old k.sort l.sort)

  binary_sort_same : (o : Operator) (x y : Stands) → binary_sort new o (now x) (now y) ≡ now (binary_sort old o x y)
  binary_sort_same o x y = ap (binary_sort_in o (now x) (now y)) (common_same x y) ∙ binary_sort_in_same name o x y (common old x y)

  binary_take_same : (x y : Stands) → binary_take new (now x) (now y) ≡ take_renamed name (binary_take old x y)
  binary_take_same x y = ap (binary_take_in (now x) (now y)) (common_same x y) ∙ binary_take_in_same name x y (common old x y)

  -- ---- shifts

  count_same : (x : Stands) → is_count new (now x) ≡ is_count old x
  count_same (sort.Open u) = refl
  count_same (sort.Constant t c) = let e = whole_same name one old new same (sort.Constant t c) in cc
  count_same x = whole_same name one old new same x

  shift_failing_in_same : (o : Operator) (i j : ℕ) (x n : Part) (c : Option Common) → shift_failing_in new o i j (part_renamed name x) (part_renamed name n) (then c) ≡ shift_failing_in old o i j x n c
  shift_failing_in_same o i j x n None = refl
  shift_failing_in_same o i j (typed f a b k ps) (typed g p q l qs) (Some c) =
      let n = typed g p q l qs in
      let e = family_in_same c in
      let u = count_same l.sort in
      let v = unrepresented_kept name one old new same uint n in
      let w = value_same name o k.sort l.sort in
      let h = out_of_range_same i j c (binary_value o k.sort l.sort) in
      cc

  shift_failing_same : (o : Operator) (i j : ℕ) (x n : Part) → shift_failing new o i j (part_renamed name x) (part_renamed name n) ≡ shift_failing old o i j x n
  shift_failing_same o i j (typed f a b k ps) n =
      let x = typed f a b k ps in
      ap (shift_failing_in new o i j (part_renamed name x) (part_renamed name n)) (own_common name k.sort) ∙ shift_failing_in_same o i j x n (own k.sort)

  -- ---- comparisons

  nil_common_same : (o : Option TypeTree) → nil_common new (maybe name o) ≡ then (nil_common old o)
  nil_common_same None = refl
  nil_common_same (Some t) = ap (λ b. cond b (Some (in_type (renamed name t))) None) (type_nil_same name one old new same t) ∙ meet _ t

  typed_compared_same : (x y : Stands) (o q : Option TypeTree) → typed_compared new (now x) (now y) (maybe name o) (maybe name q) ≡ then (typed_compared old x y o q)
  typed_compared_same x y (Some t) (Some u) =
      ap (λ b. cond (b || is_assignable new (renamed name u) (renamed name t)) (Some (in_type (renamed name t))) None) (assignable_same name one old new same t u)
      ∙ ap (λ b. cond (is_assignable old t u || b) (Some (in_type (renamed name t))) None) (assignable_same name one old new same u t)
      ∙ meet (is_assignable old t u || is_assignable old u t) t
  typed_compared_same x y (Some t) None = common_by_same x y (Some t) None
  typed_compared_same x y None (Some u) = common_by_same x y None (Some u)
  typed_compared_same x y None None = common_by_same x y None None

  nil_meets : (x : Stands) → nil_common new (own_type (now x)) ≡ then (nil_common old (own_type x))
  nil_meets x = ap (nil_common new) (own_same name x) ∙ nil_common_same (own_type x)

  values_meet : (x y : Stands) → typed_compared new (now x) (now y) (own_type (now x)) (own_type (now y)) ≡ then (typed_compared old x y (own_type x) (own_type y))
  values_meet x y =
      ap (typed_compared new (now x) (now y) (own_type (now x))) (own_same name y) ∙ ap (λ o. typed_compared new (now x) (now y) o (maybe name (own_type y))) (own_same name x)
      ∙ typed_compared_same x y (own_type x) (own_type y)

  compared_in_same : (x y : Stands) → compared_in new (now x) (now y) ≡ then (compared_in old x y)
  compared_in_same sort.Nil y = nil_meets y
  compared_in_same x sort.Nil = nil_meets x
  compared_in_same x y = values_meet x y

  pub unordered_same : (i j : ℕ) (c : Common) → unordered new i j (common_renamed name c) ≡ unordered old i j c
  unordered_same i j c = let e = family_in_same c in cc

  incomparable_same : (i j : ℕ) (c : Common) → incomparable new i j (common_renamed name c) ≡ incomparable old i j c
  incomparable_same i j (in_type t) = let e = comparable_same name one old new same t in cc
  incomparable_same i j (in_kind k) = refl

  unfit_same : (o : Comparison) (i j : ℕ) (b : Bool) (c : Common) → unfit new o i j b (common_renamed name c) ≡ unfit old o i j b c
  unfit_same o i j true c = refl
  unfit_same o i j false c = let e = incomparable_same i j c in let f = family_in_same c in cc

  compared_refuse_same : (c : Common) (x y : Part) → compared_refuse new (common_renamed name c) (part_renamed name x) (part_renamed name y) ≡ compared_refuse old c x y
  compared_refuse_same (in_type t) x y = let e = unrepresented_kept name one old new same t x in let f = unrepresented_kept name one old new same t y in cc
  compared_refuse_same (in_kind k) (typed f a b m ps) (typed g p q l qs) =
      let e = default_unrepresented name one old new same k (typed f a b m ps) in
      let h = default_unrepresented name one old new same k (typed g p q l qs) in
      let c = constant_same name m.sort in
      let d = constant_same name l.sort in
      cc

  compared_failing_in_same : (o : Comparison) (i j : ℕ) (x y : Part) (c : Option Common) → compared_failing_in new o i j (part_renamed name x) (part_renamed name y) (then c) ≡ compared_failing_in old o i j x y c
  compared_failing_in_same o i j x y None = refl
  compared_failing_in_same o i j (typed f a b k ps) (typed g p q l qs) (Some c) =
      let u = nil_same name k.sort in
      let v = nil_same name l.sort in
      let e = unfit_same o i j (is_nil k.sort || is_nil l.sort) c in
      let h = compared_refuse_same c (typed f a b k ps) (typed g p q l qs) in
      cc

  pub compared_failing_same : (o : Comparison) (i j : ℕ) (x y : Part) → compared_failing new o i j (part_renamed name x) (part_renamed name y) ≡ compared_failing old o i j x y
  compared_failing_same o i j (typed f a b k ps) (typed g p q l qs) =
      let x = typed f a b k ps in
      let y = typed g p q l qs in
      ap (compared_failing_in new o i j (part_renamed name x) (part_renamed name y)) (compared_in_same k.sort l.sort) ∙ compared_failing_in_same o i j x y (compared_in old k.sort l.sort)

  compared_take_same : (x y : Stands) → compared_take new (now x) (now y) ≡ take_renamed name (compared_take old x y)
  compared_take_same x y = ap (compared_take_in (now x) (now y)) (compared_in_same x y) ∙ compared_take_in_same name x y (compared_in old x y)

  -- ---- all of them

  pub operation_kept : (o : Operator) (i j : ℕ) (x y : Part) → operation_failing new o i j (part_renamed name x) (part_renamed name y) ≡ operation_failing old o i j x y
  operation_kept (operator.Compare c) i j x y = compared_failing_same c i j x y
  operation_kept o i j x y = let e = shift_failing_same o i j x y in let f = binary_failing_same o i j x y in cc

  other_sort : (o : Operator) (x y : Stands) → cond (is_shift o) (shift_sort o (now x) (now y)) (binary_sort new o (now x) (now y)) ≡ now (cond (is_shift o) (shift_sort o x y) (binary_sort old o x y))
  other_sort o x y =
      ap (λ z. cond (is_shift o) z (binary_sort new o (now x) (now y))) (shift_sort_same name o x y) ∙ ap (cond (is_shift o) (now (shift_sort o x y))) (binary_sort_same o x y)
      ∙ branches now (is_shift o) (shift_sort o x y) (binary_sort old o x y)

  pub operation_sort_kept : (o : Operator) (x y : Stands) → operation_sort new o (now x) (now y) ≡ now (operation_sort old o x y)
  operation_sort_kept (operator.Compare c) x y = compared_sort_same name c x y
  operation_sort_kept o x y = other_sort o x y

  other_takes : (o : Operator) (x y : Stands)
      → cond (is_shift o) (shifted_take (now x) (now y) ∷ as_type uint ∷ []) (binary_take new (now x) (now y) ∷ binary_take new (now x) (now y) ∷ [])
      ≡ takes_renamed name (cond (is_shift o) (shifted_take x y ∷ as_type uint ∷ []) (binary_take old x y ∷ binary_take old x y ∷ []))
  other_takes o x y =
      ap (λ k. cond (is_shift o) (k ∷ as_type uint ∷ []) (binary_take new (now x) (now y) ∷ binary_take new (now x) (now y) ∷ [])) (shifted_take_same name x y)
      ∙ ap (λ k. cond (is_shift o) (take_renamed name (shifted_take x y) ∷ as_type uint ∷ []) (k ∷ k ∷ [])) (binary_take_same x y)
      ∙ branches (takes_renamed name) (is_shift o) (shifted_take x y ∷ as_type uint ∷ []) (binary_take old x y ∷ binary_take old x y ∷ [])

  pub operation_takes_kept : (o : Operator) (x y : Stands) → operation_takes new o (now x) (now y) ≡ takes_renamed name (operation_takes old o x y)
  operation_takes_kept (operator.Compare c) x y = ap (λ k. k ∷ k ∷ []) (compared_take_same x y)
  operation_takes_kept o x y = other_takes o x y
