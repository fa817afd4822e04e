-- Operators: which rules fail, what an operation stands for, and what its operands take.
use Rattle.std.proofs.Common.{◌≡◌, ℕ, Bool, true, false, List, [], ◌∷◌, Option, Some, None, Result, Ok, Err, refl, ap, ◌∙◌}
use Rattle.std.specs.Prelude.{◌||◌}
use Rattle.go_ints.specs.declared.kinds.Kind.TheVariants as integer_kind
use Rattle.go_constants.specs.declared.values.Const.{Const}
use Rattle.go_constants.specs.declared.values.ConstFault.{ConstFault}
use Rattle.go_constants.specs.declared.values.ConstFault.TheVariants as const_fault
use Rattle.go_types.specs.Trees.{TypeTree, integer}
use Rattle.go_types.specs.Relations.{Rights}
use Rattle.go_types_relations.specs.Tests.{underlying_of}
use Rattle.go_types_relations.specs.Identity.{is_identical}
use Rattle.go_typed.specs.Trees.{sort_of}
use Rattle.go_typed.specs.Trees as sort
use Rattle.go_grammar.specs.declared.kind.Operator.{Operator}
use Rattle.go_grammar.specs.declared.kind.Operator.TheVariants as operator
use Rattle.go_grammar.specs.declared.kind.Comparison.{Comparison}
use Rattle.go_grammar.specs.declared.kind.Sign.{Sign}
use Rattle.go_exprs_rules.specs.declared.family.OpenKind.{OpenKind}
use Rattle.go_exprs_rules.specs.declared.family.OpenKind.TheVariants as untyped_kind
use Rattle.go_exprs_rules.specs.Operators.{Common, in_type, in_kind, one_typed, open_kinds, kind_common, common_kind, common_by, common, family_in, refused, open_value, value_in, constant_in, result_in, in_range, out_of_range, own_by, own, unary_value, unary_failing_in, unary_failing, unary_sort_in, unary_sort, unary_take, binary_value, binary_failing_in, binary_failing, binary_sort_in, binary_sort, binary_take_in, binary_take, is_count, shift_failing_in, shift_failing, shift_sort_in, shift_sort, shifted_take, nil_common, typed_compared, compared_in, unordered, incomparable, unfit, compared_refuse, compared_failing_in, compared_failing, compared_sort, compared_take_in, is_shift, operation_failing, operation_sort, operation_takes, comparing, folded_both}
use Rattle.go_exprs_rules.specs.Settling.{Part, Take, stay, default, as_type}
use Rattle.go_exprs_rules.specs.Sorts.{Stands, open_kind, own_type, constant_of, is_constant, is_nil, default_type, uint}
use Rattle.go_package_laws.specs.Reach.{Within, MaybeWithin, AgreeOn, StandsWithin, PartWithin}
use Rattle.go_package_laws.proofs.Agreeing.{underlying_same, assignable_same, comparable_same}
use Rattle.go_package_laws.proofs.Values.{branch, own_within, sort_within, default_within, TakeWithin, underlying_in_same, whole_same, suits_same, represents_same, unrepresented_same}

module _ (p : ℕ → Bool) where
  abbrev pub CommonWithin : Common → Type 0
  CommonWithin (in_type t) = Within p t
  CommonWithin (in_kind k) = Unit {0}

  abbrev pub MaybeCommon : Option Common → Type 0
  MaybeCommon None = Unit {0}
  MaybeCommon (Some c) = CommonWithin c

  pub kind_common_within : (o : Option OpenKind) → MaybeCommon (kind_common o)
  kind_common_within None = tt
  kind_common_within (Some k) = tt

  open_kinds_within : (o q : Option OpenKind) → MaybeCommon (open_kinds o q)
  open_kinds_within (Some k) (Some l) = kind_common_within (common_kind k l)
  open_kinds_within o q = tt

  open_within : (k : OpenKind) → StandsWithin p (open_value k)
  open_within untyped_kind.Boolean = tt
  open_within k = tt

  value_in_within : (c : Common) → CommonWithin c → StandsWithin p (value_in c)
  value_in_within (in_type t) w = w
  value_in_within (in_kind k) w = open_within k

  pub constant_in_within : (c : Common) (v : Const) → CommonWithin c → StandsWithin p (constant_in c v)
  constant_in_within (in_type t) v w = w
  constant_in_within (in_kind k) v w = tt

  result_within : (c : Common) (o : Option (Result Const ConstFault)) → CommonWithin c → StandsWithin p (result_in c o)
  result_within c None w = value_in_within c w
  result_within c (Some (Ok v)) w = constant_in_within c v w
  result_within c (Some (Err e)) w = tt

  own_by_within : (o : Option TypeTree) (k : Option OpenKind) → MaybeWithin p o → MaybeCommon (own_by o k)
  own_by_within (Some t) k w = w
  own_by_within None (Some k) w = tt
  own_by_within None None w = tt

  pub own_common : (x : Stands) → StandsWithin p x → MaybeCommon (own x)
  own_common x w = own_by_within (own_type x) (open_kind x) (own_within p x w)

  binary_sort_within : (o : Operator) (x y : Stands) (c : Option Common) → MaybeCommon c → StandsWithin p (binary_sort_in o x y c)
  binary_sort_within o x y None w = tt
  binary_sort_within o x y (Some c) w = result_within c (binary_value o x y) w

  shift_sort_in_within : (o : Operator) (x n : Stands) (c : Option Common) → MaybeCommon c → StandsWithin p (shift_sort_in o x n c)
  shift_sort_in_within o x n None w = tt
  shift_sort_in_within o x n (Some c) w = result_within c (binary_value o x n) w

  shift_sort_within : (o : Operator) (x n : Stands) → StandsWithin p x → StandsWithin p (shift_sort o x n)
  shift_sort_within o x n w = shift_sort_in_within o x n (own x) (own_common x w)

  compared_sort_within : (c : Comparison) (x y : Stands) → StandsWithin p (compared_sort c x y)
  compared_sort_within c x y = result_within (in_kind untyped_kind.Boolean) (folded_both (comparing c) (constant_of x) (constant_of y)) tt

  binary_take_within : (x y : Stands) (c : Option Common) → MaybeCommon c → TakeWithin p (binary_take_in x y c)
  binary_take_within x y None w = tt
  binary_take_within x y (Some (in_type t)) w = w
  binary_take_within x y (Some (in_kind k)) w = branch (TakeWithin p) _ default stay tt tt

  compared_take_within : (x y : Stands) (c : Option Common) → MaybeCommon c → TakeWithin p (compared_take_in x y c)
  compared_take_within x y None w = tt
  compared_take_within x y (Some (in_type t)) w = w
  compared_take_within x y (Some (in_kind k)) w = branch (TakeWithin p) _ default (as_type (default_type k)) tt (default_within p k)

  abbrev pub TakesWithin : List Take → Type 0
  TakesWithin [] = Unit {0}
  TakesWithin (k ∷ ks) = TakeWithin p k × TakesWithin ks

  pub unary_take_within : (x : Stands) → TakeWithin p (unary_take x)
  unary_take_within x = branch (TakeWithin p) (is_constant x) default stay tt tt

  shifted_within : (x n : Stands) → TakeWithin p (shifted_take x n)
  shifted_within x n = branch (TakeWithin p) _ default stay tt tt

module _ (p : ℕ → Bool) (old new : Rights) (a : AgreeOn p old new) where
  und : (t : TypeTree) → Within p t → underlying_of new t ≡ underlying_of old t
  und = underlying_same p old new a

  -- ---- where operands meet

  pub one_typed_same : (t : TypeTree) (o : Option OpenKind) → Within p t → one_typed new t o ≡ one_typed old t o
  one_typed_same t None w = refl
  one_typed_same t (Some k) w = let e = suits_same p old new a k t w in cc

  pub one_typed_within : (t : TypeTree) (o : Option OpenKind) → Within p t → MaybeCommon p (one_typed old t o)
  one_typed_within t None w = tt
  one_typed_within t (Some k) w = branch (MaybeCommon p) _ (Some (in_type t)) None w tt

  common_by_same : (x y : Stands) (o q : Option TypeTree) → MaybeWithin p o → MaybeWithin p q → common_by new x y o q ≡ common_by old x y o q
  common_by_same x y (Some t) (Some u) w h = refl
  common_by_same x y (Some t) None w h = one_typed_same t (open_kind y) w
  common_by_same x y None (Some u) w h = one_typed_same u (open_kind x) h
  common_by_same x y None None w h = refl

  common_by_within : (x y : Stands) (o q : Option TypeTree) → MaybeWithin p o → MaybeWithin p q → MaybeCommon p (common_by old x y o q)
  common_by_within x y (Some t) (Some u) w h = branch (MaybeCommon p) (is_identical t u) (Some (in_type t)) None w tt
  common_by_within x y (Some t) None w h = one_typed_within t (open_kind y) w
  common_by_within x y None (Some u) w h = one_typed_within u (open_kind x) h
  common_by_within x y None None w h = open_kinds_within p (open_kind x) (open_kind y)

  common_same : (x y : Stands) → StandsWithin p x → StandsWithin p y → common new x y ≡ common old x y
  common_same x y w h = common_by_same x y (own_type x) (own_type y) (own_within p x w) (own_within p y h)

  common_within : (x y : Stands) → StandsWithin p x → StandsWithin p y → MaybeCommon p (common old x y)
  common_within x y w h = common_by_within x y (own_type x) (own_type y) (own_within p x w) (own_within p y h)

  family_in_same : (c : Common) → CommonWithin p c → family_in new c ≡ family_in old c
  family_in_same (in_type t) w = let e = und t w in cc
  family_in_same (in_kind k) w = refl

  refused_same : (c : Common) (x : Part) → CommonWithin p c → refused new c x ≡ refused old c x
  refused_same (in_type t) x w = unrepresented_same p old new a t w x
  refused_same (in_kind k) x w = refl

  in_range_same : (c : Common) (v : Const) → CommonWithin p c → in_range new c v ≡ in_range old c v
  in_range_same (in_type t) v w = represents_same p old new a t v w
  in_range_same (in_kind k) v w = refl

  out_of_range_same : (i j : ℕ) (c : Common) (o : Option (Result Const ConstFault)) → CommonWithin p c → out_of_range new i j c o ≡ out_of_range old i j c o
  out_of_range_same i j c None w = refl
  out_of_range_same i j c (Some (Ok v)) w = let e = in_range_same c v w in cc
  out_of_range_same i j c (Some (Err const_fault.TooWide)) w = refl
  out_of_range_same i j c (Some (Err e)) w = refl

  -- ---- unary operators

  unary_value_same : (o : Sign) (x : Stands) → StandsWithin p x → unary_value new o x ≡ unary_value old o x
  unary_value_same o x w = let e = underlying_in_same p old new a (own_type x) (own_within p x w) in cc

  unary_failing_in_same : (o : Sign) (i j : ℕ) (x : Stands) (c : Option Common) → StandsWithin p x → MaybeCommon p c → unary_failing_in new o i j x c ≡ unary_failing_in old o i j x c
  unary_failing_in_same o i j x None w h = refl
  unary_failing_in_same o i j x (Some c) w h =
      let e = family_in_same c h in
      let f = unary_value_same o x w in
      let g = out_of_range_same i j c (unary_value old o x) h in
      cc

  pub unary_failing_same : (o : Sign) (i j : ℕ) (x : Stands) → StandsWithin p x → unary_failing new o i j x ≡ unary_failing old o i j x
  unary_failing_same o i j x w = unary_failing_in_same o i j x (own x) w (own_common p x w)

  unary_sort_in_same : (o : Sign) (x : Stands) (c : Option Common) → StandsWithin p x → unary_sort_in new o x c ≡ unary_sort_in old o x c
  unary_sort_in_same o x None w = refl
  unary_sort_in_same o x (Some c) w = let f = unary_value_same o x w in cc

  pub unary_sort_same : (o : Sign) (x : Stands) → StandsWithin p x → unary_sort new o x ≡ unary_sort old o x
  unary_sort_same o x w = unary_sort_in_same o x (own x) w

  unary_sort_in_within : (o : Sign) (x : Stands) (c : Option Common) → MaybeCommon p c → StandsWithin p (unary_sort_in old o x c)
  unary_sort_in_within o x None w = tt
  unary_sort_in_within o x (Some c) w = result_within p c (unary_value old o x) w

  pub unary_sort_within : (o : Sign) (x : Stands) → StandsWithin p x → StandsWithin p (unary_sort old o x)
  unary_sort_within o x w = unary_sort_in_within o x (own x) (own_common p x w)

  -- ---- binary operators

  binary_failing_in_same : (o : Operator) (i j : ℕ) (x y : Part) (c : Option Common) → MaybeCommon p c → binary_failing_in new o i j x y c ≡ binary_failing_in old o i j x y c
  binary_failing_in_same o i j x y None w = refl
  binary_failing_in_same o i j x y (Some c) w =
      let e = family_in_same c w in
      let f = refused_same c x w in
      let g = refused_same c y w in
      let h = out_of_range_same i j c (binary_value o (sort_of x) (sort_of y)) w in
      cc

  binary_failing_same : (o : Operator) (i j : ℕ) (x y : Part) → PartWithin p x → PartWithin p y → binary_failing new o i j x y ≡ binary_failing old o i j x y
  binary_failing_same o i j x y w h =
      ap (binary_failing_in new o i j x y) (common_same (sort_of x) (sort_of y) (sort_within p x w) (sort_within p y h))
      ∙ binary_failing_in_same o i j x y (common old (sort_of x) (sort_of y)) (common_within (sort_of x) (sort_of y) (sort_within p x w) (sort_within p y h))

  -- ---- shifts

  count_same : (x : Stands) → StandsWithin p x → is_count new x ≡ is_count old x
  count_same (sort.Open u) w = refl
  count_same (sort.Constant t c) w = let e = whole_same p old new a (sort.Constant t c) w in cc
  count_same x w = whole_same p old new a x w

  uint_within : Within p (integer integer_kind.Uint)
  uint_within = tt

  shift_failing_in_same : (o : Operator) (i j : ℕ) (x n : Part) (c : Option Common) → PartWithin p n → MaybeCommon p c → shift_failing_in new o i j x n c ≡ shift_failing_in old o i j x n c
  shift_failing_in_same o i j x n None w h = refl
  shift_failing_in_same o i j x n (Some c) w h =
      let e = family_in_same c h in
      let f = count_same (sort_of n) (sort_within p n w) in
      let g = unrepresented_same p old new a (integer integer_kind.Uint) uint_within n in
      let l = out_of_range_same i j c (binary_value o (sort_of x) (sort_of n)) h in
      cc

  shift_failing_same : (o : Operator) (i j : ℕ) (x n : Part) → PartWithin p x → PartWithin p n → shift_failing new o i j x n ≡ shift_failing old o i j x n
  shift_failing_same o i j x n w h = shift_failing_in_same o i j x n (own (sort_of x)) h (own_common p (sort_of x) (sort_within p x w))

  -- ---- comparisons

  nil_common_same : (o : Option TypeTree) → MaybeWithin p o → nil_common new o ≡ nil_common old o
  nil_common_same None w = refl
  nil_common_same (Some t) w = let e = und t w in cc

  nil_common_within : (o : Option TypeTree) → MaybeWithin p o → MaybeCommon p (nil_common old o)
  nil_common_within None w = tt
  nil_common_within (Some t) w = branch (MaybeCommon p) _ (Some (in_type t)) None w tt

  typed_compared_same : (x y : Stands) (o q : Option TypeTree) → MaybeWithin p o → MaybeWithin p q → typed_compared new x y o q ≡ typed_compared old x y o q
  typed_compared_same x y (Some t) (Some u) w h = let e = assignable_same p old new a t u w h in let f = assignable_same p old new a u t h w in cc
  typed_compared_same x y (Some t) None w h = common_by_same x y (Some t) None w h
  typed_compared_same x y None q w h = common_by_same x y None q w h

  typed_compared_within : (x y : Stands) (o q : Option TypeTree) → MaybeWithin p o → MaybeWithin p q → MaybeCommon p (typed_compared old x y o q)
  typed_compared_within x y (Some t) (Some u) w h = branch (MaybeCommon p) _ (Some (in_type t)) None w tt
  typed_compared_within x y (Some t) None w h = common_by_within x y (Some t) None w h
  typed_compared_within x y None q w h = common_by_within x y None q w h

  compared_in_same : (x y : Stands) → StandsWithin p x → StandsWithin p y → compared_in new x y ≡ compared_in old x y
  compared_in_same sort.Nil y w h = nil_common_same (own_type y) (own_within p y h)
  compared_in_same x sort.Nil w h = nil_common_same (own_type x) (own_within p x w)
  compared_in_same x y w h = typed_compared_same x y (own_type x) (own_type y) (own_within p x w) (own_within p y h)

  compared_in_within : (x y : Stands) → StandsWithin p x → StandsWithin p y → MaybeCommon p (compared_in old x y)
  compared_in_within sort.Nil y w h = nil_common_within (own_type y) (own_within p y h)
  compared_in_within x sort.Nil w h = nil_common_within (own_type x) (own_within p x w)
  compared_in_within x y w h = typed_compared_within x y (own_type x) (own_type y) (own_within p x w) (own_within p y h)

  pub unordered_same : (i j : ℕ) (c : Common) → CommonWithin p c → unordered new i j c ≡ unordered old i j c
  unordered_same i j c w = let e = family_in_same c w in cc

  incomparable_same : (i j : ℕ) (c : Common) → CommonWithin p c → incomparable new i j c ≡ incomparable old i j c
  incomparable_same i j (in_type t) w = let e = comparable_same p old new a t w in cc
  incomparable_same i j (in_kind k) w = refl

  unfit_same : (o : Comparison) (i j : ℕ) (b : Bool) (c : Common) → CommonWithin p c → unfit new o i j b c ≡ unfit old o i j b c
  unfit_same o i j true c w = refl
  unfit_same o i j false c w = let e = incomparable_same i j c w in let f = family_in_same c w in cc

  compared_refuse_same : (c : Common) (x y : Part) → CommonWithin p c → compared_refuse new c x y ≡ compared_refuse old c x y
  compared_refuse_same (in_type t) x y w = let e = unrepresented_same p old new a t w x in let f = unrepresented_same p old new a t w y in cc
  compared_refuse_same (in_kind k) x y w =
      let e = unrepresented_same p old new a (default_type k) (default_within p k) x in
      let f = unrepresented_same p old new a (default_type k) (default_within p k) y in
      cc

  compared_failing_in_same : (o : Comparison) (i j : ℕ) (x y : Part) (c : Option Common) → MaybeCommon p c → compared_failing_in new o i j x y c ≡ compared_failing_in old o i j x y c
  compared_failing_in_same o i j x y None w = refl
  compared_failing_in_same o i j x y (Some c) w =
      let e = unfit_same o i j (is_nil (sort_of x) || is_nil (sort_of y)) c w in
      let f = compared_refuse_same c x y w in
      cc

  compared_failing_same : (o : Comparison) (i j : ℕ) (x y : Part) → PartWithin p x → PartWithin p y → compared_failing new o i j x y ≡ compared_failing old o i j x y
  compared_failing_same o i j x y w h =
      ap (compared_failing_in new o i j x y) (compared_in_same (sort_of x) (sort_of y) (sort_within p x w) (sort_within p y h))
      ∙ compared_failing_in_same o i j x y (compared_in old (sort_of x) (sort_of y)) (compared_in_within (sort_of x) (sort_of y) (sort_within p x w) (sort_within p y h))

  -- ---- all of them

  pub operation_failing_same : (o : Operator) (i j : ℕ) (x y : Part) → PartWithin p x → PartWithin p y → operation_failing new o i j x y ≡ operation_failing old o i j x y
  operation_failing_same (operator.Compare c) i j x y w h = compared_failing_same c i j x y w h
  operation_failing_same o i j x y w h = let e = shift_failing_same o i j x y w h in let f = binary_failing_same o i j x y w h in cc

  pub operation_sort_same : (o : Operator) (x y : Stands) → StandsWithin p x → StandsWithin p y → operation_sort new o x y ≡ operation_sort old o x y
  operation_sort_same (operator.Compare c) x y w h = refl
  operation_sort_same o x y w h = let e = common_same x y w h in cc

  binary_within : (o : Operator) (x y : Stands) → StandsWithin p x → StandsWithin p y → StandsWithin p (binary_sort old o x y)
  binary_within o x y w h = binary_sort_within p o x y (common old x y) (common_within x y w h)

  pub operation_sort_within : (o : Operator) (x y : Stands) → StandsWithin p x → StandsWithin p y → StandsWithin p (operation_sort old o x y)
  operation_sort_within (operator.Compare c) x y w h = compared_sort_within p c x y
  operation_sort_within o x y w h = branch (StandsWithin p) (is_shift o) (shift_sort o x y) (binary_sort old o x y) (shift_sort_within p o x y w) (binary_within o x y w h)

  pub operation_takes_same : (o : Operator) (x y : Stands) → StandsWithin p x → StandsWithin p y → operation_takes new o x y ≡ operation_takes old o x y
  operation_takes_same (operator.Compare c) x y w h = let e = compared_in_same x y w h in cc
  operation_takes_same o x y w h = let e = common_same x y w h in cc

  pub operation_takes_within : (o : Operator) (x y : Stands) → StandsWithin p x → StandsWithin p y → TakesWithin p (operation_takes old o x y)
  operation_takes_within (operator.Compare c) x y w h =
      let e = compared_take_within p x y (compared_in old x y) (compared_in_within x y w h) in
      (e, (e, tt))
  operation_takes_within o x y w h =
      let e = binary_take_within p x y (common old x y) (common_within x y w h) in
      branch (TakesWithin p) (is_shift o) (shifted_take x y ∷ as_type uint ∷ []) (binary_take old x y ∷ binary_take old x y ∷ []) (shifted_within p x y, (uint_within, tt)) (e, (e, tt))
