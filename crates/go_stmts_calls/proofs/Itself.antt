-- Each type is identical to itself.
use Rattle.std.proofs.Common.{refl}
use Rattle.go_types.specs.Trees.{TypeTree, boolean, text, integer, array, slice, structure, function, declared, Identical, TypeRow, none, more, IdenticalRows}

mutual
  pub itself : (t : TypeTree) → Identical t t
  itself boolean = tt
  itself text = tt
  itself (integer k) = refl
  itself (array n t) = (refl, itself t)
  itself (slice t) = itself t
  itself (structure ns ts) = (refl, row_itself ts)
  itself (function ps rs) = (row_itself ps, row_itself rs)
  itself (declared n) = refl

  row_itself : (ts : TypeRow) → IdenticalRows ts ts
  row_itself none = tt
  row_itself (more t ts) = (itself t, row_itself ts)
