-- Operators, and `min` and `max`: what an operation stands for, and what its operands take.
use Rattle.std.proofs.Common.{ℕ, Bool, List, [], ◌∷◌, Option, Some, None, Result, Ok, Err}
use Rattle.go_ints.specs.declared.operators.Op.{Op}
use Rattle.go_constants.specs.declared.values.Const.{Const}
use Rattle.go_constants.specs.declared.values.ConstFault.{ConstFault}
use Rattle.go_types.specs.Trees.{TypeTree}
use Rattle.go_types.specs.Relations.{Rights}
use Rattle.go_types_relations.specs.Identity.{is_identical}
use Rattle.go_typed.specs.Trees.{sort_of}
use Rattle.go_typed.specs.Trees as sort
use Rattle.go_grammar.specs.declared.kind.Operator.{Operator}
use Rattle.go_grammar.specs.declared.kind.Operator.TheVariants as operator
use Rattle.go_grammar.specs.declared.kind.Comparison.{Comparison}
use Rattle.go_grammar.specs.declared.kind.Sign.{Sign}
use Rattle.go_exprs_rules.specs.declared.family.OpenKind.{OpenKind}
use Rattle.go_exprs_rules.specs.declared.family.OpenKind.TheVariants as untyped_kind
use Rattle.go_exprs_rules.specs.Calls.{met, all_met, meeting, are_constants, extreme_value, extreme_in, extreme_sort, extreme_take_in, extreme_take}
use Rattle.go_exprs_rules.specs.Operators.{Common, in_type, in_kind, one_typed, open_kinds, kind_common, common_kind, common_by, common, open_value, value_in, constant_in, result_in, own_by, own, unary_value, unary_sort_in, unary_sort, unary_take, binary_value, binary_sort_in, binary_sort, binary_take_in, binary_take, shift_sort_in, shift_sort, shifted_take, nil_common, typed_compared, compared_in, compared_sort, compared_take_in, is_shift, operation_sort, operation_takes, comparing, folded_both, type_in}
use Rattle.go_exprs_rules.specs.Settling.{Part, stay, default, as_type}
use Rattle.go_exprs_rules.specs.Sorts.{Stands, open_kind, own_type, constant_of, is_constant, default_type, uint}
use Rattle.go_stmts_written.specs.Named.{IsNamed}
use Rattle.go_stmts_written.specs.Named.{StandsIsNamed, RightsAreNamed}
use Rattle.go_stmts_written.proofs.Said.{MaybeNamed, ListNamed, CommonNamed, MaybeCommon, TakeNamed, TakesNamed}
use Rattle.go_stmts_written.proofs.Values.{branch, own_named, sort_named, default_named}

module _ (texts : ℕ → List ℕ) where
  pub kind_common_named : (o : Option OpenKind) → MaybeCommon (kind_common o)
  kind_common_named None = tt
  kind_common_named (Some k) = tt

  open_kinds_named : (o q : Option OpenKind) → MaybeCommon (open_kinds o q)
  open_kinds_named (Some k) (Some l) = kind_common_named (common_kind k l)
  open_kinds_named o q = tt

  open_named : (k : OpenKind) → StandsIsNamed (open_value k)
  open_named untyped_kind.Boolean = tt
  open_named k = tt

  value_in_named : (c : Common) → CommonNamed c → StandsIsNamed (value_in c)
  value_in_named (in_type t) w = w
  value_in_named (in_kind k) w = open_named k

  pub constant_in_named : (c : Common) (v : Const) → CommonNamed c → StandsIsNamed (constant_in c v)
  constant_in_named (in_type t) v w = w
  constant_in_named (in_kind k) v w = tt

  result_named : (c : Common) (o : Option (Result Const ConstFault)) → CommonNamed c → StandsIsNamed (result_in c o)
  result_named c None w = value_in_named c w
  result_named c (Some (Ok v)) w = constant_in_named c v w
  result_named c (Some (Err e)) w = tt

  own_by_named : (o : Option TypeTree) (k : Option OpenKind) → MaybeNamed o → MaybeCommon (own_by o k)
  own_by_named (Some t) k w = w
  own_by_named None (Some k) w = tt
  own_by_named None None w = tt

  pub own_common : (x : Stands) → StandsIsNamed x → MaybeCommon (own x)
  own_common x w = own_by_named (own_type x) (open_kind x) (own_named texts x w)

  binary_sort_named : (o : Operator) (x y : Stands) (c : Option Common) → MaybeCommon c → StandsIsNamed (binary_sort_in o x y c)
  binary_sort_named o x y None w = tt
  binary_sort_named o x y (Some c) w = result_named c (binary_value o x y) w

  shift_sort_in_named : (o : Operator) (x n : Stands) (c : Option Common) → MaybeCommon c → StandsIsNamed (shift_sort_in o x n c)
  shift_sort_in_named o x n None w = tt
  shift_sort_in_named o x n (Some c) w = result_named c (binary_value o x n) w

  shift_sort_named : (o : Operator) (x n : Stands) → StandsIsNamed x → StandsIsNamed (shift_sort o x n)
  shift_sort_named o x n w = shift_sort_in_named o x n (own x) (own_common x w)

  compared_sort_named : (c : Comparison) (x y : Stands) → StandsIsNamed (compared_sort c x y)
  compared_sort_named c x y = result_named (in_kind untyped_kind.Boolean) (folded_both (comparing c) (constant_of x) (constant_of y)) tt

  binary_take_named : (x y : Stands) (c : Option Common) → MaybeCommon c → TakeNamed (binary_take_in x y c)
  binary_take_named x y None w = tt
  binary_take_named x y (Some (in_type t)) w = w
  binary_take_named x y (Some (in_kind k)) w = branch (TakeNamed) _ default stay tt tt

  compared_take_named : (x y : Stands) (c : Option Common) → MaybeCommon c → TakeNamed (compared_take_in x y c)
  compared_take_named x y None w = tt
  compared_take_named x y (Some (in_type t)) w = w
  compared_take_named x y (Some (in_kind k)) w = branch (TakeNamed) _ default (as_type (default_type k)) tt (default_named texts k)

  pub unary_take_named : (x : Stands) → TakeNamed (unary_take x)
  unary_take_named x = branch (TakeNamed) (is_constant x) default stay tt tt

  shifted_named : (x n : Stands) → TakeNamed (shifted_take x n)
  shifted_named x n = branch (TakeNamed) _ default stay tt tt

  -- ---- `min` and `max`

  type_in_named : (c : Common) → CommonNamed c → IsNamed (type_in c)
  type_in_named (in_type t) w = w
  type_in_named (in_kind k) w = default_named texts k

  extreme_in_named : (c : Option Common) (v : Option Const) → MaybeCommon c → StandsIsNamed (extreme_in c v)
  extreme_in_named None v w = tt
  extreme_in_named (Some c) (Some v) w = constant_in_named c v w
  extreme_in_named (Some c) None w = type_in_named c w

  take_in_named : (b : Bool) (c : Option Common) → MaybeCommon c → TakeNamed (extreme_take_in b c)
  take_in_named b None w = tt
  take_in_named b (Some (in_type t)) w = w
  take_in_named b (Some (in_kind k)) w = branch (TakeNamed) b default (as_type (default_type k)) tt (default_named texts k)

module _ (texts : ℕ → List ℕ) (rights : Rights) (a : RightsAreNamed rights) where
  -- ---- where operands meet

  pub one_typed_named : (t : TypeTree) (o : Option OpenKind) → IsNamed t → MaybeCommon (one_typed rights t o)
  one_typed_named t None w = tt
  one_typed_named t (Some k) w = branch (MaybeCommon) _ (Some (in_type t)) None w tt

  common_by_named : (x y : Stands) (o q : Option TypeTree) → MaybeNamed o → MaybeNamed q → MaybeCommon (common_by rights x y o q)
  common_by_named x y (Some t) (Some u) w h = branch (MaybeCommon) (is_identical t u) (Some (in_type t)) None w tt
  common_by_named x y (Some t) None w h = one_typed_named t (open_kind y) w
  common_by_named x y None (Some u) w h = one_typed_named u (open_kind x) h
  common_by_named x y None None w h = open_kinds_named texts (open_kind x) (open_kind y)

  common_named : (x y : Stands) → StandsIsNamed x → StandsIsNamed y → MaybeCommon (common rights x y)
  common_named x y w h = common_by_named x y (own_type x) (own_type y) (own_named texts x w) (own_named texts y h)

  unary_sort_in_named : (o : Sign) (x : Stands) (c : Option Common) → MaybeCommon c → StandsIsNamed (unary_sort_in rights o x c)
  unary_sort_in_named o x None w = tt
  unary_sort_in_named o x (Some c) w = result_named texts c (unary_value rights o x) w

  pub unary_sort_named : (o : Sign) (x : Stands) → StandsIsNamed x → StandsIsNamed (unary_sort rights o x)
  unary_sort_named o x w = unary_sort_in_named o x (own x) (own_common texts x w)

  nil_common_named : (o : Option TypeTree) → MaybeNamed o → MaybeCommon (nil_common rights o)
  nil_common_named None w = tt
  nil_common_named (Some t) w = branch (MaybeCommon) _ (Some (in_type t)) None w tt

  typed_compared_named : (x y : Stands) (o q : Option TypeTree) → MaybeNamed o → MaybeNamed q → MaybeCommon (typed_compared rights x y o q)
  typed_compared_named x y (Some t) (Some u) w h = branch (MaybeCommon) _ (Some (in_type t)) None w tt
  typed_compared_named x y (Some t) None w h = common_by_named x y (Some t) None w h
  typed_compared_named x y None q w h = common_by_named x y None q w h

  compared_in_named : (x y : Stands) → StandsIsNamed x → StandsIsNamed y → MaybeCommon (compared_in rights x y)
  compared_in_named sort.Nil y w h = nil_common_named (own_type y) (own_named texts y h)
  compared_in_named x sort.Nil w h = nil_common_named (own_type x) (own_named texts x w)
  compared_in_named x y w h = typed_compared_named x y (own_type x) (own_type y) (own_named texts x w) (own_named texts y h)

  binary_named : (o : Operator) (x y : Stands) → StandsIsNamed x → StandsIsNamed y → StandsIsNamed (binary_sort rights o x y)
  binary_named o x y w h = binary_sort_named texts o x y (common rights x y) (common_named x y w h)

  pub operation_sort_named : (o : Operator) (x y : Stands) → StandsIsNamed x → StandsIsNamed y → StandsIsNamed (operation_sort rights o x y)
  operation_sort_named (operator.Compare c) x y w h = compared_sort_named texts c x y
  operation_sort_named o x y w h = branch (StandsIsNamed) (is_shift o) (shift_sort o x y) (binary_sort rights o x y) (shift_sort_named texts o x y w) (binary_named o x y w h)

  pub operation_takes_named : (o : Operator) (x y : Stands) → StandsIsNamed x → StandsIsNamed y → TakesNamed (operation_takes rights o x y)
  operation_takes_named (operator.Compare c) x y w h =
      let e = compared_take_named texts x y (compared_in rights x y) (compared_in_named x y w h) in
      (e, (e, tt))
  operation_takes_named o x y w h =
      let e = binary_take_named texts x y (common rights x y) (common_named x y w h) in
      branch (TakesNamed) (is_shift o) (shifted_take x y ∷ as_type uint ∷ []) (binary_take rights x y ∷ binary_take rights x y ∷ []) (shifted_named texts x y, (tt, tt)) (e, (e, tt))

  -- ---- `min` and `max`

  met_named : (c d : Option Common) → MaybeCommon c → MaybeCommon d → MaybeCommon (met rights c d)
  met_named (Some (in_type t)) (Some (in_type u)) w h = branch (MaybeCommon) (is_identical t u) (Some (in_type t)) None w tt
  met_named (Some (in_type t)) (Some (in_kind k)) w h = one_typed_named t (Some k) w
  met_named (Some (in_type t)) None w h = tt
  met_named (Some (in_kind k)) (Some (in_type u)) w h = one_typed_named u (Some k) h
  met_named (Some (in_kind k)) (Some (in_kind l)) w h = kind_common_named texts (common_kind k l)
  met_named (Some (in_kind k)) None w h = tt
  met_named None d w h = tt

  own_of : (x : Part) (xs : List Part) → ListNamed texts (x ∷ xs) → MaybeCommon (own (sort_of x))
  own_of x xs w = own_common texts (sort_of x) (sort_named texts x w.0)

  all_met_named : (c : Option Common) (xs : List Part) → MaybeCommon c → ListNamed texts xs → MaybeCommon (all_met rights c xs)
  all_met_named c [] w h = w
  all_met_named c (x ∷ xs) w h = all_met_named (met rights c (own (sort_of x))) xs (met_named c (own (sort_of x)) w (own_of x xs h)) h.1

  meeting_named : (xs : List Part) → ListNamed texts xs → MaybeCommon (meeting rights xs)
  meeting_named [] w = tt
  meeting_named (x ∷ xs) w = all_met_named (own (sort_of x)) xs (own_of x xs w) w.1

  pub extreme_sort_named : (o : Op) (xs : List Part) → ListNamed texts xs → StandsIsNamed (extreme_sort rights o xs)
  extreme_sort_named o xs w = extreme_in_named texts (meeting rights xs) (extreme_value o xs) (meeting_named xs w)

  pub extreme_take_named : (xs : List Part) → ListNamed texts xs → TakeNamed (extreme_take rights xs)
  extreme_take_named xs w = take_in_named texts (are_constants xs) (meeting rights xs) (meeting_named xs w)
