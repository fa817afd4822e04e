-- What is untyped takes a type, and no other afterwards.
use Rattle.std.proofs.Common.{◌≡◌, ℕ, Bool, true, false, cond, [], ◌∷◌, map, Option, Some, None, refl, ap, sym, ◌∙◌}
use Rattle.std.specs.Prelude.{◌&&◌, is_some}
use Rattle.std.specs.Option.{option_map}
use Rattle.go_constants.specs.declared.values.Const.{Const}
use Rattle.go_constants.specs.declared.values.ConstOp.{ConstOp}
use Rattle.go_grammar.specs.declared.kind.Sign.{Sign}
use Rattle.go_types.specs.Trees.{TypeTree}
use Rattle.go_types.specs.Relations.{Rights}
use Rattle.go_typed.specs.declared.form.Form.{Form}
use Rattle.go_typed.specs.Trees.{Sort, Label, Typed, typed, Typeds, row, sort_of, more, skip}
use Rattle.go_typed.specs.Trees as sort
use Rattle.go_exprs_rules.specs.declared.family.OpenKind.{OpenKind}
use Rattle.go_exprs_rules.specs.declared.family.OpenKind.TheVariants as untyped_kind
use Rattle.go_exprs_rules.specs.Sorts.{Stands, open_kind, takes_type, is_constant, is_nil, constant_of, default_type, kind_of_untyped, kind_of_const, retyped}
use Rattle.go_exprs_rules.specs.Settling.{Part, Take, stay, default, as_type, settled, all_settled, defaulted, given}
use Rattle.go_exprs_rules.specs.Operators.{Common, in_type, in_kind, own, result_in, open_value, folded_both, unary_sort, unary_take}
use Rattle.go_exprs_rules.specs.Tables.{Parts}
use Rattle.go_exprs.specs.Final.{under, final_type, handed, operand_wants}

-- ---- one node

abbrev pub labelled : Stands → Bool → Bool → Label TypeTree
labelled x v c = record { sort = x; varies = v; calls = c }

all_stay : (xs : Parts) → map (option_map (given stay)) xs ≡ xs
all_stay [] = refl
all_stay (None ∷ xs) = ap (λ ys. None ∷ ys) (all_stay xs)
all_stay (Some x ∷ xs) = ap (λ ys. Some x ∷ ys) (all_stay xs)

settled_row : (t : TypeTree) (xs : Parts) → all_settled t (row xs) ≡ row (map (option_map (given (as_type t))) xs)
settled_row t [] = refl
settled_row t (None ∷ xs) = ap skip (settled_row t xs)
settled_row t (Some x ∷ xs) = ap (more (settled t x)) (settled_row t xs)

-- a node over these parts takes w: so do those that it hands that down to
module _ (f : Form) (i j : ℕ) (v c : Bool) (zs : Parts) where
  abbrev pub over : Take → Stands → Part
  over d x = typed f i j (labelled x v c) (row (map (option_map (given d)) zs))

  as_it_is : (x : Stands) → typed f i j (labelled x v c) (row zs) ≡ over stay x
  as_it_is x = ap (λ ys. let p : Part = typed f i j (labelled x v c) (row ys) in p) (sym (all_stay zs))

  retaken : (t : TypeTree) (x : Stands) → typed f i j (labelled x v c) (all_settled t (row zs)) ≡ over (as_type t) x
  retaken t x = ap (λ ps. let p : Part = typed f i j (labelled x v c) ps in p) (settled_row t zs)

  takes_stay : (x : Stands) → typed f i j (labelled x v c) (row zs) ≡ over (handed stay x) x
  takes_stay (sort.Open u) = as_it_is (sort.Open u)
  takes_stay (sort.OpenConstant k) = as_it_is (sort.OpenConstant k)
  takes_stay x = as_it_is x

  takes_this : (t : TypeTree) (x : Stands) → settled t (typed f i j (labelled x v c) (row zs)) ≡ over (handed (as_type t) x) (retyped t x)
  takes_this t (sort.Open u) = retaken t (sort.Value t)
  takes_this t (sort.OpenConstant k) = retaken t (sort.Constant t k)
  takes_this t sort.Nil = retaken t (sort.Value t)
  takes_this t x = as_it_is x

  takes_default : (x : Stands) → given default (typed f i j (labelled x v c) (row zs)) ≡ over (handed default x) (under default x)
  takes_default (sort.Open u) = retaken (default_type (kind_of_untyped u)) (sort.Value (default_type (kind_of_untyped u)))
  takes_default (sort.OpenConstant k) = retaken (default_type (kind_of_const k)) (sort.Constant (default_type (kind_of_const k)) k)
  takes_default x = as_it_is x

  pub node_takes : (w : Take) (x : Stands) → given w (typed f i j (labelled x v c) (row zs)) ≡ over (handed w x) (under w x)
  node_takes stay x = takes_stay x
  node_takes default x = takes_default x
  node_takes (as_type t) x = takes_this t x

-- ---- what has a type takes no other

pub typed_stays : (k : Take) (x : Part) → takes_type (sort_of x) ≡ false → given k x ≡ x
typed_stays stay x e = refl
typed_stays default (typed f i j l ps) e = by_sort l.sort e
  where
    by_sort : (s : Stands) → takes_type s ≡ false → defaulted (open_kind s) (typed f i j (labelled s l.varies l.calls) ps) ≡ typed f i j (labelled s l.varies l.calls) ps
    by_sort (sort.Open u) e = cc
    by_sort (sort.OpenConstant k) e = cc
    by_sort s e = refl
typed_stays (as_type t) (typed f i j l ps) e =
    ap (λ b. let p : Part = cond b (typed f i j (labelled (retyped t l.sort) l.varies l.calls) (all_settled t ps)) (typed f i j l ps) in p) e

-- the sort that a part has once it took a type
retyped_is : (t : TypeTree) (x : Stands) → takes_type (retyped t x) ≡ false
retyped_is t (sort.Open u) = refl
retyped_is t (sort.OpenConstant k) = refl
retyped_is t sort.Nil = refl
retyped_is t x = refl

settled_sort : (t : TypeTree) (x : Part) → sort_of (settled t x) ≡ retyped t (sort_of x)
settled_sort t (typed f i j l ps) = by_sort l.sort
  where
    by_sort : (s : Stands) → sort_of (settled t (typed f i j (labelled s l.varies l.calls) ps)) ≡ retyped t s
    by_sort (sort.Open u) = refl
    by_sort (sort.OpenConstant k) = refl
    by_sort sort.Nil = refl
    by_sort s = refl

settled_typed : (t : TypeTree) (x : Part) → takes_type (sort_of (settled t x)) ≡ false
settled_typed t x = ap takes_type (settled_sort t x) ∙ retyped_is t (sort_of x)

pub type_once : (d : Take) (t : TypeTree) (x : Part) → given d (settled t x) ≡ settled t x
type_once d t x = typed_stays d (settled t x) (settled_typed t x)

-- a default type; `nil` has none
pub default_once : (d : Take) (x : Part) → is_nil (sort_of x) ≡ false → given d (given default x) ≡ given default x
default_once d (typed f i j l ps) e = by_sort l.sort e
  where
    by_sort : (s : Stands) → is_nil s ≡ false → given d (given default (typed f i j (labelled s l.varies l.calls) ps)) ≡ given default (typed f i j (labelled s l.varies l.calls) ps)
    by_sort (sort.Open u) e = type_once d (default_type (kind_of_untyped u)) (typed f i j (labelled (sort.Open u) l.varies l.calls) ps)
    by_sort (sort.OpenConstant k) e = type_once d (default_type (kind_of_const k)) (typed f i j (labelled (sort.OpenConstant k) l.varies l.calls) ps)
    by_sort sort.Nil e = cc
    by_sort s e = typed_stays d (typed f i j (labelled s l.varies l.calls) ps) refl

-- `nil` is no constant
pub left_not_nil : (a b : Stands) → (is_constant a && is_constant b) ≡ true → is_nil a ≡ false
left_not_nil sort.Nil b e = cc
left_not_nil a b e = refl

never_both : (b : Bool) → (b && false) ≡ true → true ≡ false
never_both true e = sym e
never_both false e = sym e

pub right_not_nil : (a b : Stands) → (is_constant a && is_constant b) ≡ true → is_nil b ≡ false
right_not_nil a sort.Nil e = never_both (is_constant a) e
right_not_nil a b e = refl

-- ---- operands

nothing_wanted : (w : Take) → final_type w sort.Unknown ≡ stay
nothing_wanted stay = refl
nothing_wanted default = refl
nothing_wanted (as_type t) = refl

type_wanted : (w : Take) (t : TypeTree) → final_type w (sort.Value t) ≡ as_type t
type_wanted stay t = refl
type_wanted default t = refl
type_wanted (as_type u) t = refl

module _ (w : Take) where
  -- what an operand takes of an operation that stands alone for s: the operation gives it k, and hands down what it takes itself
  abbrev pub through : Stands → Take → Part → Part
  through s k x = given (handed w s) (given k x)

  same_unknown : (x : Part) → given stay x ≡ given (final_type w sort.Unknown) x
  same_unknown x = ap (λ k. given k x) (sym (nothing_wanted w))

  same_value : (t : TypeTree) (x : Part) → given (as_type t) x ≡ given (final_type w (sort.Value t)) x
  same_value t x = ap (λ k. given k x) (sym (type_wanted w t))

  -- an untyped value, in the kinds that it may have
  open_wants : (k : OpenKind) (x : Part) → through (open_value k) stay x ≡ given (final_type w (open_value k)) x
  open_wants untyped_kind.Boolean x = refl
  open_wants untyped_kind.Integer x = refl
  open_wants untyped_kind.Rune x = refl
  open_wants untyped_kind.Text x = same_unknown x

  pub unary_wants : (rights : Rights) (o : Sign) (x : Part) → through (unary_sort rights o (sort_of x)) (unary_take (sort_of x)) x ≡ given (operand_wants w (unary_sort rights o (sort_of x)) (sort_of x)) x
  unary_wants rights o (typed f i j l ps) = by_sort l.sort
    where
      node_of : Stands → Part
      node_of s = typed f i j (labelled s l.varies l.calls) ps

      by_sort : (s : Stands) → through (unary_sort rights o s) (unary_take s) (node_of s) ≡ given (operand_wants w (unary_sort rights o s) s) (node_of s)
      by_sort (sort.Constant t c) = default_once (handed w (unary_sort rights o (sort.Constant t c))) (node_of (sort.Constant t c)) refl
      by_sort (sort.OpenConstant k) = default_once (handed w (unary_sort rights o (sort.OpenConstant k))) (node_of (sort.OpenConstant k)) refl
      by_sort sort.Nil = same_unknown (node_of sort.Nil)
      by_sort (sort.Value t) = sym (typed_stays (final_type w (sort.Value t)) (node_of (sort.Value t)) refl)
      by_sort (sort.Open u) = open_wants (kind_of_untyped u) (node_of (sort.Open u))
      by_sort s = sym (typed_stays (final_type w sort.Unknown) (node_of s) refl)

  -- ---- binary operations

  abbrev pub sort_in : ConstOp → Option Const → Option Const → Option Common → Stands
  sort_in o p q None = sort.Unknown
  sort_in o p q (Some c) = result_in c (folded_both o p q)

  abbrev pub take_in : Bool → Option Common → Take
  take_in b None = stay
  take_in b (Some (in_type t)) = as_type t
  take_in b (Some (in_kind k)) = cond b default stay

  abbrev pub both : Option Const → Option Const → Bool
  both p q = is_some p && is_some q

  pub operands_meet : (o : ConstOp) (p q : Option Const) (c : Option Common) (x : Part) → (both p q ≡ true → is_nil (sort_of x) ≡ false) → through (sort_in o p q c) (take_in (both p q) c) x ≡ given (cond (both p q) (take_in (both p q) c) (final_type w (sort_in o p q c))) x
  operands_meet o (Some a) (Some b) None x g = refl
  operands_meet o (Some a) (Some b) (Some (in_type t)) x g = type_once (handed w (result_in (in_type t) (folded_both o (Some a) (Some b)))) t x
  operands_meet o (Some a) (Some b) (Some (in_kind k)) x g = default_once (handed w (result_in (in_kind k) (folded_both o (Some a) (Some b)))) x (g refl)
  operands_meet o (Some a) None None x g = same_unknown x
  operands_meet o (Some a) None (Some (in_type t)) x g = same_value t x
  operands_meet o (Some a) None (Some (in_kind k)) x g = open_wants k x
  operands_meet o None q None x g = same_unknown x
  operands_meet o None q (Some (in_type t)) x g = same_value t x
  operands_meet o None q (Some (in_kind k)) x g = open_wants k x

  -- the left operand of a shift, whose count has the value q if it is constant
  pub shifted_wants : (o : ConstOp) (q : Option Const) (x : Part) →
      through (sort_in o (constant_of (sort_of x)) q (own (sort_of x))) (cond (both (constant_of (sort_of x)) q) default stay) x
      ≡ given (cond (both (constant_of (sort_of x)) q) default (final_type w (sort_in o (constant_of (sort_of x)) q (own (sort_of x))))) x
  shifted_wants o q (typed f i j l ps) = by_sort l.sort q
    where
      node_of : Stands → Part
      node_of s = typed f i j (labelled s l.varies l.calls) ps

      by_sort : (s : Stands) (q : Option Const) → through (sort_in o (constant_of s) q (own s)) (cond (both (constant_of s) q) default stay) (node_of s)
          ≡ given (cond (both (constant_of s) q) default (final_type w (sort_in o (constant_of s) q (own s)))) (node_of s)
      by_sort (sort.Constant t c) (Some v) = default_once (handed w (sort_in o (Some c) (Some v) (own (sort.Constant t c)))) (node_of (sort.Constant t c)) refl
      by_sort (sort.Constant t c) None = sym (typed_stays (final_type w (sort.Value t)) (node_of (sort.Constant t c)) refl)
      by_sort (sort.OpenConstant c) (Some v) = default_once (handed w (sort_in o (Some c) (Some v) (own (sort.OpenConstant c)))) (node_of (sort.OpenConstant c)) refl
      by_sort (sort.OpenConstant c) None = open_wants (kind_of_const c) (node_of (sort.OpenConstant c))
      by_sort (sort.Value t) q = sym (typed_stays (final_type w (sort.Value t)) (node_of (sort.Value t)) refl)
      by_sort (sort.Open u) q = open_wants (kind_of_untyped u) (node_of (sort.Open u))
      by_sort sort.Nil q = same_unknown (node_of sort.Nil)
      by_sort s q = sym (typed_stays (final_type w sort.Unknown) (node_of s) refl)

  -- the operands of a comparison, which meet in c
  abbrev pub cond_take : Bool → Common → Take
  cond_take b (in_type t) = as_type t
  cond_take b (in_kind k) = cond b default (as_type (default_type k))

  pub compared_wants : (s : Stands) (b : Bool) (c : Common) (x : Part) → (b ≡ true → is_nil (sort_of x) ≡ false) → through s (cond_take b c) x ≡ given (cond_take b c) x
  compared_wants s b (in_type t) x g = type_once (handed w s) t x
  compared_wants s true (in_kind k) x g = default_once (handed w s) x (g refl)
  compared_wants s false (in_kind k) x g = type_once (handed w s) (default_type k) x
