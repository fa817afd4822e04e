-- What has a type, or is given one, has no holes without types.
use Rattle.std.proofs.Common.{◌≡◌, ℕ, Bool, true, false, cond, refl, sym, ap, subst, ◌∙◌}
use Rattle.std.specs.Prelude.{◌&&◌, not}
use Rattle.go_types.specs.Trees.{TypeTree}
use Rattle.go_typed.specs.declared.form.Form.{Form}
use Rattle.go_typed.specs.Trees.{Label, Typed, typed, Typeds, sort_of, row, form_of}
use Rattle.go_typed.specs.Trees as sort
use Rattle.go_exprs_rules.specs.Settling.{Part, settled, all_settled, default, given}
use Rattle.go_exprs_rules.specs.Sorts.{Stands, is_open, takes_type, retyped, default_type, kind_of_untyped, kind_of_const}
use Rattle.clone_window.specs.Masses.{is_hole, is_inside, is_expression}
use Rattle.clone_window.specs.Masses as masses
use Rattle.go_stmts_final_types.specs.Holes.{IsTyped, TypedOr, HolesTyped, AllHolesTyped}

-- ---- inside a constant expression there are no holes

mutual
  pub none_inside : (x : Part) → HolesTyped true x
  none_inside (typed f i j l ps) = none_among ps

  pub none_among : (ps : Typeds TypeTree) → AllHolesTyped true ps
  none_among sort.none = tt
  none_among (sort.more p ps) = (none_inside p, none_among ps)
  none_among (sort.skip ps) = none_among ps

-- ---- nodes

pub typed_constant : (s : Stands) → masses.is_constant s ≡ true → is_open s ≡ false → IsTyped s
typed_constant (sort.Constant t c) e f = (t, c, refl)
typed_constant (sort.OpenConstant c) e f = cc
typed_constant s e f = cc

middle : (b c d : Bool) → ((b && c) && d) ≡ true → c ≡ true
middle true true d e = refl
middle true false d e = cc
middle false c d e = cc

hole_constant : (f : Form) (l : Label TypeTree) → is_hole false f l ≡ true → masses.is_constant l.sort ≡ true
hole_constant f l e = middle (is_expression f) (masses.is_constant l.sort) (not l.varies) e

pub among : (b : Bool) (qs : Typeds TypeTree) → AllHolesTyped false qs → AllHolesTyped b qs
among true qs h = none_among qs
among false qs h = h

-- a node that is none, over parts that have none without a type
pub no_hole : (f : Form) (i j : ℕ) (l : Label TypeTree) (qs : Typeds TypeTree) → is_hole false f l ≡ false → AllHolesTyped false qs → HolesTyped false (typed f i j l qs)
no_hole f i j l qs e h = subst (λ b. TypedOr b l.sort (AllHolesTyped (is_inside false f l) qs)) (sym e) (among (is_inside false f l) qs h)

-- a node that has its type
pub node_typed : (f : Form) (i j : ℕ) (l : Label TypeTree) (qs : Typeds TypeTree) → is_open l.sort ≡ false → AllHolesTyped false qs → HolesTyped false (typed f i j l qs)
node_typed f i j l qs e h = by_hole (is_hole false f l) refl
  where
    by_hole : (b : Bool) → is_hole false f l ≡ b → TypedOr b l.sort (AllHolesTyped (is_inside false f l) qs)
    by_hole true m = typed_constant l.sort (hole_constant f l m) e
    by_hole false m = among (is_inside false f l) qs h

-- ---- what is given

-- it stands for something that is known, and has its type
abbrev pub is_closed : Stands → Bool
is_closed (sort.Open u) = false
is_closed (sort.OpenConstant c) = false
is_closed sort.Unknown = false
is_closed (sort.IsType t) = false
is_closed s = true

-- it stands for something that is known, and is no type
abbrev pub is_valued : Stands → Bool
is_valued sort.Unknown = false
is_valued (sort.IsType t) = false
is_valued s = true

abbrev pub labelled : Stands → Bool → Bool → Label TypeTree
labelled s v c = record { sort = s; varies = v; calls = c }

-- what its holes have, now and once it takes a type
pub record Settles (x : Part) : Type 0 where
  pub closed : is_closed (sort_of x) ≡ true → HolesTyped false x
  pub later : (t : TypeTree) → takes_type (sort_of x) ≡ true → HolesTyped false (settled t x)

-- it has no holes without types, whatever type it takes besides
pub record Done (x : Part) : Type 0 where
  pub now : HolesTyped false x
  pub still : (t : TypeTree) → HolesTyped false (settled t x)

pub open_closed : (s : Stands) → is_closed s ≡ true → is_open s ≡ false
open_closed (sort.Open u) e = cc
open_closed (sort.OpenConstant c) e = cc
open_closed s e = refl

settled_closed : (t : TypeTree) (s : Stands) → takes_type (retyped t s) ≡ false
settled_closed t (sort.Open u) = refl
settled_closed t (sort.OpenConstant c) = refl
settled_closed t sort.Nil = refl
settled_closed t s = refl

-- what has a type takes no other
pub untaken : (t : TypeTree) (x : Part) → takes_type (sort_of x) ≡ false → settled t x ≡ x
untaken t (typed f i j l ps) e = ap (λ b. let p : Part = cond b (typed f i j (labelled (retyped t l.sort) l.varies l.calls) (all_settled t ps)) (typed f i j l ps) in p) e

pub settled_sort : (t : TypeTree) (x : Part) → sort_of (settled t x) ≡ retyped t (sort_of x)
settled_sort t (typed f i j l ps) = by_sort l.sort
  where
    by_sort : (s : Stands) → sort_of (settled t (typed f i j (labelled s l.varies l.calls) ps)) ≡ retyped t s
    by_sort (sort.Open u) = refl
    by_sort (sort.OpenConstant k) = refl
    by_sort sort.Nil = refl
    by_sort s = refl

twice : (t u : TypeTree) (x : Part) → settled u (settled t x) ≡ settled t x
twice t u x = untaken u (settled t x) (ap takes_type (settled_sort t x) ∙ settled_closed t (sort_of x))

module _ (x : Part) (h : Settles x) where
  -- it takes a type
  taken : (t : TypeTree) → takes_type (sort_of x) ≡ true → Done (settled t x)
  taken t e = record { now = h.later t e; still = λ u. subst (HolesTyped false) (sym (twice t u x)) (h.later t e) }

  -- it has its own already
  pub kept : takes_type (sort_of x) ≡ false → is_closed (sort_of x) ≡ true → Done x
  kept n e = record { now = h.closed e; still = λ u. subst (HolesTyped false) (sym (untaken u x n)) (h.closed e) }

  pub settled_done : (t : TypeTree) → is_valued (sort_of x) ≡ true → Done (settled t x)
  settled_done t v = by (takes_type (sort_of x)) refl
    where
      closed_then : (s : Stands) → is_valued s ≡ true → takes_type s ≡ false → is_closed s ≡ true
      closed_then (sort.Open u) v e = cc
      closed_then (sort.OpenConstant c) v e = cc
      closed_then sort.Unknown v e = cc
      closed_then (sort.IsType u) v e = cc
      closed_then s v e = refl

      by : (b : Bool) → takes_type (sort_of x) ≡ b → Done (settled t x)
      by true e = taken t e
      by false e = subst Done (sym (untaken t x e)) (kept e (closed_then (sort_of x) v e))

  -- closed, `nil` too
  pub closed_done : is_closed (sort_of x) ≡ true → Done x
  closed_done e = record { now = h.closed e; still = λ t. by t (takes_type (sort_of x)) refl }
    where
      by : (t : TypeTree) (b : Bool) → takes_type (sort_of x) ≡ b → HolesTyped false (settled t x)
      by t true m = h.later t m
      by t false m = subst (HolesTyped false) (sym (untaken t x m)) (h.closed e)

pub default_done : (x : Part) → Settles x → is_valued (sort_of x) ≡ true → Done (given default x)
default_done (typed f i j l ps) h v = by_sort l.sort h v
  where
    node_of : Stands → Part
    node_of s = typed f i j (labelled s l.varies l.calls) ps

    by_sort : (s : Stands) → Settles (typed f i j (labelled s l.varies l.calls) ps) → is_valued s ≡ true → Done (given default (typed f i j (labelled s l.varies l.calls) ps))
    by_sort (sort.Open u) h v = settled_done (typed f i j (labelled (sort.Open u) l.varies l.calls) ps) h (default_type (kind_of_untyped u)) refl
    by_sort (sort.OpenConstant k) h v = settled_done (typed f i j (labelled (sort.OpenConstant k) l.varies l.calls) ps) h (default_type (kind_of_const k)) refl
    by_sort sort.Unknown h v = cc
    by_sort (sort.IsType t) h v = cc
    by_sort s h v = closed_done (typed f i j (labelled s l.varies l.calls) ps) h refl
