-- What is reported of nodes in a row, and answers over it.
use Rattle.std.proofs.Common.{◌≡◌, List, [], ◌∷◌, ◌++◌, Option, Some, None, Ok, Err, refl, sym}
use Rattle.go_exprs_rules.specs.declared.fault.TypeFault.{TypeFault}
use Rattle.go_exprs_rules.specs.Faults.{least, earlier, judged, reported}

abbrev pub instead : Option TypeFault → Option TypeFault → Option TypeFault
instead None o = o
instead (Some f) o = Some f

instead_earlier : (f : TypeFault) (o p : Option TypeFault) → instead (earlier (Some f) o) p ≡ earlier (Some f) o
instead_earlier f None p = refl
instead_earlier f (Some g) p = refl

pub reported_append : (xs ys : List (List TypeFault)) → reported (xs ++ ys) ≡ instead (reported xs) (reported ys)
reported_append [] ys = refl
reported_append ([] ∷ xs) ys = reported_append xs ys
reported_append ((f ∷ fs) ∷ xs) ys = sym (instead_earlier f (least fs) (reported ys))

pub reported_one : (fs : List TypeFault) → reported (fs ∷ []) ≡ least fs
reported_one [] = refl
reported_one (f ∷ fs) = refl

-- ---- judged

module _ {A : Type 0} where
  pub judged_ok : (o : Option TypeFault) (x y : A) → judged o x ≡ Ok y → (o ≡ None) × (x ≡ y)
  judged_ok None x y e = (refl, cc)
  judged_ok (Some f) x y e = cc

  pub judged_err : (o : Option TypeFault) (x : A) (f : TypeFault) → judged o x ≡ Err f → o ≡ Some f
  judged_err None x f e = cc
  judged_err (Some g) x f e = cc

pub none_least : (fs : List TypeFault) → least fs ≡ None → fs ≡ []
none_least [] e = refl
none_least (f ∷ fs) e = some_first f (least fs) e
  where
    some_first : {X : Type 0} (f : TypeFault) (o : Option TypeFault) → earlier (Some f) o ≡ None → X
    some_first f None e = cc
    some_first f (Some g) e = cc
