-- Operators, and `min` and `max`: what an operation stands for, and what its operands take.
use Rattle.std.proofs.Common.{Bool, List, [], ◌∷◌, Option, Some, None, Result, Ok, Err}
use Rattle.go_ints.specs.declared.operators.Op.{Op}
use Rattle.go_constants.specs.declared.values.Const.{Const}
use Rattle.go_constants.specs.declared.values.ConstFault.{ConstFault}
use Rattle.go_types.specs.Trees.{TypeTree}
use Rattle.go_types.specs.Relations.{Rights}
use Rattle.go_types_relations.specs.Identity.{is_identical}
use Rattle.go_typed.specs.Trees.{sort_of}
use Rattle.go_typed.specs.Trees as sort
use Rattle.go_grammar.specs.declared.kind.Operator.{Operator}
use Rattle.go_grammar.specs.declared.kind.Operator.TheVariants as operator
use Rattle.go_grammar.specs.declared.kind.Comparison.{Comparison}
use Rattle.go_grammar.specs.declared.kind.Sign.{Sign}
use Rattle.go_exprs_rules.specs.declared.family.OpenKind.{OpenKind}
use Rattle.go_exprs_rules.specs.declared.family.OpenKind.TheVariants as untyped_kind
use Rattle.go_exprs_rules.specs.Calls.{met, all_met, meeting, are_constants, extreme_value, extreme_in, extreme_sort, extreme_take_in, extreme_take}
use Rattle.go_exprs_rules.specs.Operators.{Common, in_type, in_kind, one_typed, open_kinds, kind_common, common_kind, common_by, common, open_value, value_in, constant_in, result_in, own_by, own, unary_value, unary_sort_in, unary_sort, unary_take, binary_value, binary_sort_in, binary_sort, binary_take_in, binary_take, shift_sort_in, shift_sort, shifted_take, nil_common, typed_compared, compared_in, compared_sort, compared_take_in, is_shift, operation_sort, operation_takes, comparing, folded_both, type_in}
use Rattle.go_exprs_rules.specs.Scopes.{Scope}
use Rattle.go_exprs_rules.specs.Settling.{Part, Take, stay, default, as_type}
use Rattle.go_exprs_rules.specs.Sorts.{Stands, open_kind, own_type, constant_of, is_constant, default_type, uint}
use Rattle.go_print_laws.specs.Reading.{IsWithin}
use Rattle.go_stmts_limits.specs.Limits.{StandsIsWithin, RightsAreWithin}
use Rattle.go_stmts_limits.proofs.Within.{MaybeWithin, ListWithin}
use Rattle.go_stmts_limits.proofs.Values.{branch, own_within, sort_within, default_within, TakeWithin}

module _ (limit : Scope) where
  abbrev pub CommonWithin : Common → Type 0
  CommonWithin (in_type t) = IsWithin limit t
  CommonWithin (in_kind k) = Unit {0}

  abbrev pub MaybeCommon : Option Common → Type 0
  MaybeCommon None = Unit {0}
  MaybeCommon (Some c) = CommonWithin c

  pub kind_common_within : (o : Option OpenKind) → MaybeCommon (kind_common o)
  kind_common_within None = tt
  kind_common_within (Some k) = tt

  open_kinds_within : (o q : Option OpenKind) → MaybeCommon (open_kinds o q)
  open_kinds_within (Some k) (Some l) = kind_common_within (common_kind k l)
  open_kinds_within o q = tt

  open_within : (k : OpenKind) → StandsIsWithin limit (open_value k)
  open_within untyped_kind.Boolean = tt
  open_within k = tt

  value_in_within : (c : Common) → CommonWithin c → StandsIsWithin limit (value_in c)
  value_in_within (in_type t) w = w
  value_in_within (in_kind k) w = open_within k

  pub constant_in_within : (c : Common) (v : Const) → CommonWithin c → StandsIsWithin limit (constant_in c v)
  constant_in_within (in_type t) v w = w
  constant_in_within (in_kind k) v w = tt

  result_within : (c : Common) (o : Option (Result Const ConstFault)) → CommonWithin c → StandsIsWithin limit (result_in c o)
  result_within c None w = value_in_within c w
  result_within c (Some (Ok v)) w = constant_in_within c v w
  result_within c (Some (Err e)) w = tt

  own_by_within : (o : Option TypeTree) (k : Option OpenKind) → MaybeWithin limit o → MaybeCommon (own_by o k)
  own_by_within (Some t) k w = w
  own_by_within None (Some k) w = tt
  own_by_within None None w = tt

  pub own_common : (x : Stands) → StandsIsWithin limit x → MaybeCommon (own x)
  own_common x w = own_by_within (own_type x) (open_kind x) (own_within limit x w)

  binary_sort_within : (o : Operator) (x y : Stands) (c : Option Common) → MaybeCommon c → StandsIsWithin limit (binary_sort_in o x y c)
  binary_sort_within o x y None w = tt
  binary_sort_within o x y (Some c) w = result_within c (binary_value o x y) w

  shift_sort_in_within : (o : Operator) (x n : Stands) (c : Option Common) → MaybeCommon c → StandsIsWithin limit (shift_sort_in o x n c)
  shift_sort_in_within o x n None w = tt
  shift_sort_in_within o x n (Some c) w = result_within c (binary_value o x n) w

  shift_sort_within : (o : Operator) (x n : Stands) → StandsIsWithin limit x → StandsIsWithin limit (shift_sort o x n)
  shift_sort_within o x n w = shift_sort_in_within o x n (own x) (own_common x w)

  compared_sort_within : (c : Comparison) (x y : Stands) → StandsIsWithin limit (compared_sort c x y)
  compared_sort_within c x y = result_within (in_kind untyped_kind.Boolean) (folded_both (comparing c) (constant_of x) (constant_of y)) tt

  binary_take_within : (x y : Stands) (c : Option Common) → MaybeCommon c → TakeWithin limit (binary_take_in x y c)
  binary_take_within x y None w = tt
  binary_take_within x y (Some (in_type t)) w = w
  binary_take_within x y (Some (in_kind k)) w = branch (TakeWithin limit) _ default stay tt tt

  compared_take_within : (x y : Stands) (c : Option Common) → MaybeCommon c → TakeWithin limit (compared_take_in x y c)
  compared_take_within x y None w = tt
  compared_take_within x y (Some (in_type t)) w = w
  compared_take_within x y (Some (in_kind k)) w = branch (TakeWithin limit) _ default (as_type (default_type k)) tt (default_within limit k)

  abbrev pub TakesWithin : List Take → Type 0
  TakesWithin [] = Unit {0}
  TakesWithin (k ∷ ks) = TakeWithin limit k × TakesWithin ks

  pub unary_take_within : (x : Stands) → TakeWithin limit (unary_take x)
  unary_take_within x = branch (TakeWithin limit) (is_constant x) default stay tt tt

  shifted_within : (x n : Stands) → TakeWithin limit (shifted_take x n)
  shifted_within x n = branch (TakeWithin limit) _ default stay tt tt

  -- ---- `min` and `max`

  type_in_within : (c : Common) → CommonWithin c → IsWithin limit (type_in c)
  type_in_within (in_type t) w = w
  type_in_within (in_kind k) w = default_within limit k

  extreme_in_within : (c : Option Common) (v : Option Const) → MaybeCommon c → StandsIsWithin limit (extreme_in c v)
  extreme_in_within None v w = tt
  extreme_in_within (Some c) (Some v) w = constant_in_within c v w
  extreme_in_within (Some c) None w = type_in_within c w

  take_in_within : (b : Bool) (c : Option Common) → MaybeCommon c → TakeWithin limit (extreme_take_in b c)
  take_in_within b None w = tt
  take_in_within b (Some (in_type t)) w = w
  take_in_within b (Some (in_kind k)) w = branch (TakeWithin limit) b default (as_type (default_type k)) tt (default_within limit k)

module _ (limit : Scope) (rights : Rights) (a : RightsAreWithin limit rights) where
  -- ---- where operands meet

  pub one_typed_within : (t : TypeTree) (o : Option OpenKind) → IsWithin limit t → MaybeCommon limit (one_typed rights t o)
  one_typed_within t None w = tt
  one_typed_within t (Some k) w = branch (MaybeCommon limit) _ (Some (in_type t)) None w tt

  common_by_within : (x y : Stands) (o q : Option TypeTree) → MaybeWithin limit o → MaybeWithin limit q → MaybeCommon limit (common_by rights x y o q)
  common_by_within x y (Some t) (Some u) w h = branch (MaybeCommon limit) (is_identical t u) (Some (in_type t)) None w tt
  common_by_within x y (Some t) None w h = one_typed_within t (open_kind y) w
  common_by_within x y None (Some u) w h = one_typed_within u (open_kind x) h
  common_by_within x y None None w h = open_kinds_within limit (open_kind x) (open_kind y)

  common_within : (x y : Stands) → StandsIsWithin limit x → StandsIsWithin limit y → MaybeCommon limit (common rights x y)
  common_within x y w h = common_by_within x y (own_type x) (own_type y) (own_within limit x w) (own_within limit y h)

  unary_sort_in_within : (o : Sign) (x : Stands) (c : Option Common) → MaybeCommon limit c → StandsIsWithin limit (unary_sort_in rights o x c)
  unary_sort_in_within o x None w = tt
  unary_sort_in_within o x (Some c) w = result_within limit c (unary_value rights o x) w

  pub unary_sort_within : (o : Sign) (x : Stands) → StandsIsWithin limit x → StandsIsWithin limit (unary_sort rights o x)
  unary_sort_within o x w = unary_sort_in_within o x (own x) (own_common limit x w)

  nil_common_within : (o : Option TypeTree) → MaybeWithin limit o → MaybeCommon limit (nil_common rights o)
  nil_common_within None w = tt
  nil_common_within (Some t) w = branch (MaybeCommon limit) _ (Some (in_type t)) None w tt

  typed_compared_within : (x y : Stands) (o q : Option TypeTree) → MaybeWithin limit o → MaybeWithin limit q → MaybeCommon limit (typed_compared rights x y o q)
  typed_compared_within x y (Some t) (Some u) w h = branch (MaybeCommon limit) _ (Some (in_type t)) None w tt
  typed_compared_within x y (Some t) None w h = common_by_within x y (Some t) None w h
  typed_compared_within x y None q w h = common_by_within x y None q w h

  compared_in_within : (x y : Stands) → StandsIsWithin limit x → StandsIsWithin limit y → MaybeCommon limit (compared_in rights x y)
  compared_in_within sort.Nil y w h = nil_common_within (own_type y) (own_within limit y h)
  compared_in_within x sort.Nil w h = nil_common_within (own_type x) (own_within limit x w)
  compared_in_within x y w h = typed_compared_within x y (own_type x) (own_type y) (own_within limit x w) (own_within limit y h)

  binary_within : (o : Operator) (x y : Stands) → StandsIsWithin limit x → StandsIsWithin limit y → StandsIsWithin limit (binary_sort rights o x y)
  binary_within o x y w h = binary_sort_within limit o x y (common rights x y) (common_within x y w h)

  pub operation_sort_within : (o : Operator) (x y : Stands) → StandsIsWithin limit x → StandsIsWithin limit y → StandsIsWithin limit (operation_sort rights o x y)
  operation_sort_within (operator.Compare c) x y w h = compared_sort_within limit c x y
  operation_sort_within o x y w h = branch (StandsIsWithin limit) (is_shift o) (shift_sort o x y) (binary_sort rights o x y) (shift_sort_within limit o x y w) (binary_within o x y w h)

  pub operation_takes_within : (o : Operator) (x y : Stands) → StandsIsWithin limit x → StandsIsWithin limit y → TakesWithin limit (operation_takes rights o x y)
  operation_takes_within (operator.Compare c) x y w h =
      let e = compared_take_within limit x y (compared_in rights x y) (compared_in_within x y w h) in
      (e, (e, tt))
  operation_takes_within o x y w h =
      let e = binary_take_within limit x y (common rights x y) (common_within x y w h) in
      branch (TakesWithin limit) (is_shift o) (shifted_take x y ∷ as_type uint ∷ []) (binary_take rights x y ∷ binary_take rights x y ∷ []) (shifted_within limit x y, (tt, tt)) (e, (e, tt))

  -- ---- `min` and `max`

  met_within : (c d : Option Common) → MaybeCommon limit c → MaybeCommon limit d → MaybeCommon limit (met rights c d)
  met_within (Some (in_type t)) (Some (in_type u)) w h = branch (MaybeCommon limit) (is_identical t u) (Some (in_type t)) None w tt
  met_within (Some (in_type t)) (Some (in_kind k)) w h = one_typed_within t (Some k) w
  met_within (Some (in_type t)) None w h = tt
  met_within (Some (in_kind k)) (Some (in_type u)) w h = one_typed_within u (Some k) h
  met_within (Some (in_kind k)) (Some (in_kind l)) w h = kind_common_within limit (common_kind k l)
  met_within (Some (in_kind k)) None w h = tt
  met_within None d w h = tt

  own_of : (x : Part) (xs : List Part) → ListWithin limit (x ∷ xs) → MaybeCommon limit (own (sort_of x))
  own_of x xs w = own_common limit (sort_of x) (sort_within limit x w.0)

  all_met_within : (c : Option Common) (xs : List Part) → MaybeCommon limit c → ListWithin limit xs → MaybeCommon limit (all_met rights c xs)
  all_met_within c [] w h = w
  all_met_within c (x ∷ xs) w h = all_met_within (met rights c (own (sort_of x))) xs (met_within c (own (sort_of x)) w (own_of x xs h)) h.1

  meeting_within : (xs : List Part) → ListWithin limit xs → MaybeCommon limit (meeting rights xs)
  meeting_within [] w = tt
  meeting_within (x ∷ xs) w = all_met_within (own (sort_of x)) xs (own_of x xs w) w.1

  pub extreme_sort_within : (o : Op) (xs : List Part) → ListWithin limit xs → StandsIsWithin limit (extreme_sort rights o xs)
  extreme_sort_within o xs w = extreme_in_within limit (meeting rights xs) (extreme_value o xs) (meeting_within xs w)

  pub extreme_take_within : (xs : List Part) → ListWithin limit xs → TakeWithin limit (extreme_take rights xs)
  extreme_take_within xs w = take_in_within limit (are_constants xs) (meeting rights xs) (meeting_within xs w)
