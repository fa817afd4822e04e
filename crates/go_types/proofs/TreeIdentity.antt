-- Identical types are equal trees.
use Rattle.std.proofs.Common.{◌≡◌, refl, sym, ap, ◌∙◌, subst}
use Rattle.go_types.specs.Trees.{TypeTree, boolean, text, integer, array, slice, structure, function, declared, TypeRow, none, more, Identical, IdenticalRows}

mutual
  pub equal_trees : (t u : TypeTree) → Identical t u → t ≡ u
  equal_trees boolean boolean h = refl
  equal_trees boolean _ h = absurd h
  equal_trees text text h = refl
  equal_trees text _ h = absurd h
  equal_trees (integer k) (integer l) h = ap integer h
  equal_trees (integer k) _ h = absurd h
  equal_trees (array n t) (array m u) h =
      let size : n ≡ m = h.0 in
      let element : t ≡ u = equal_trees t u h.1 in
      cc
  equal_trees (array n t) _ h = absurd h
  equal_trees (slice t) (slice u) h = ap slice (equal_trees t u h)
  equal_trees (slice t) _ h = absurd h
  equal_trees (structure ns ts) (structure ms us) h =
      let names : ns ≡ ms = h.0 in
      let types : ts ≡ us = equal_rows ts us h.1 in
      cc
  equal_trees (structure ns ts) _ h = absurd h
  equal_trees (function ps rs) (function qs ss) h =
      let params : ps ≡ qs = equal_rows ps qs h.0 in
      let results : rs ≡ ss = equal_rows rs ss h.1 in
      cc
  equal_trees (function ps rs) _ h = absurd h
  equal_trees (declared n) (declared m) h = ap declared h
  equal_trees (declared n) _ h = absurd h

  pub equal_rows : (ts us : TypeRow) → IdenticalRows ts us → ts ≡ us
  equal_rows none none h = refl
  equal_rows none _ h = absurd h
  equal_rows (more t ts) (more u us) h =
      let head : t ≡ u = equal_trees t u h.0 in
      let tail : ts ≡ us = equal_rows ts us h.1 in
      cc
  equal_rows (more t ts) _ h = absurd h

mutual
  pub identical_self : (t : TypeTree) → Identical t t
  identical_self boolean = tt
  identical_self text = tt
  identical_self (integer k) = refl
  identical_self (array n t) = (refl, identical_self t)
  identical_self (slice t) = identical_self t
  identical_self (structure ns ts) = (refl, identical_rows_self ts)
  identical_self (function ps rs) = (identical_rows_self ps, identical_rows_self rs)
  identical_self (declared n) = refl

  pub identical_rows_self : (ts : TypeRow) → IdenticalRows ts ts
  identical_rows_self none = tt
  identical_rows_self (more t ts) = (identical_self t, identical_rows_self ts)

pub identical_equal : (t u : TypeTree) → t ≡ u → Identical t u
identical_equal t u e = subst (Identical t) e (identical_self t)

pub identical_sym : (t u : TypeTree) → Identical t u → Identical u t
identical_sym t u h = identical_equal u t (sym (equal_trees t u h))

pub identical_trans : (t u v : TypeTree) → Identical t u → Identical u v → Identical t v
identical_trans t u v h k = identical_equal t v (equal_trees t u h ∙ equal_trees u v k)
