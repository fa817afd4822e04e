-- The functions of a package, and the same functions with another one between.
use Rattle.std.proofs.Common.{◌≡◌, ◌∙◌, ℕ, suc, ◌+◌, List, [], ◌∷◌, ◌++◌, length, map, Some, slice_get, ap, refl, sym, subst, arith}
use Rattle.std.specs.Prelude.{Result, Ok}
use Rattle.std.proofs.lemmas.List.{map-append}
use Rattle.go_base.specs.Gives.{◌>>=◌}
use Rattle.go_tree.specs.Failures.{Failure}
use Rattle.go_types.specs.Relations.{Rights}
use Rattle.go_typed.specs.Contents.{FuncContent}
use Rattle.go_package_defs.specs.Bodies.{Functions, Surroundings, functions_from, placed, portion_of, with_function}
use Rattle.go_package_defs.specs.Declarations.{Specification}
use Rattle.go_package_defs.specs.Sources.{Package}
use Rattle.go_heads_added.specs.Added.{Gap, beyond}
use Rattle.go_package_added.specs.Reported.{FunctionsAlong, FunctionsStay, KeepsBodies}
use Rattle.go_package_added.specs.Unchanged.{last_in}
use Rattle.clone_window_added.specs.Unchanged.{AddsNoRights, StaysBetween, body_in, renumbered}
use Rattle.clone_window_added.proofs.Kept.{keeps_windows}
use Rattle.clone_window_added.proofs.Placed.{body_same}
use Rattle.clone_window_added.proofs.Places.{headed}

-- ---- functions one behind the other

module _ (p : Package) (a : Surroundings) where
  -- the functions of the first specifications, and those of the others
  record Split (rights : Rights) (n : ℕ) (xs ys : List Specification) (y : Functions) : Type 0 where
    front : Functions
    rest : Functions
    first : functions_from p a rights n xs ≡ Ok front
    second : functions_from p a front.rights (n + length xs) ys ≡ Ok rest
    functions : y.functions ≡ front.functions ++ rest.functions
    count : length front.functions ≡ length xs

  split : (rights : Rights) (n : ℕ) (xs ys : List Specification) (y : Functions) → functions_from p a rights n (xs ++ ys) ≡ Ok y → Split rights n xs ys y
  split rights n [] ys y e = record {
    front = record { functions = []; rights = rights };
    rest = y;
    first = refl;
    second = subst (λ i. functions_from p a rights i ys ≡ Ok y) (let z : n ≡ n + 0 = omega arith in z) e;
    functions = refl;
    count = refl;
  }
  split rights n (d ∷ xs) ys y e =
      let h = headed p a rights n d (xs ++ ys) y e in
      let s = split h.one.rights (suc n) xs ys h.others h.later in
      record {
        front = with_function h.one.function s.front;
        rest = s.rest;
        first =
            ap (λ r. placed p d r >>= λ b. functions_from p a b.rights (suc n) xs >>= λ fs. Ok (with_function b.function fs)) h.typed
            ∙ ap (λ r. r >>= λ fs. Ok (with_function h.one.function fs)) s.first;
        second = subst (λ i. functions_from p a s.front.rights i ys ≡ Ok s.rest) (let z : suc n + length xs ≡ n + suc (length xs) = omega arith in z) s.second;
        functions = h.functions ∙ ap (λ fs. h.one.function ∷ fs) s.functions;
        count = ap suc s.count;
      }

-- ---- functions that stay

along : (p : Package) (g : Gap) (n : ℕ) (ds : List Specification) (xs ys : List FuncContent) → FunctionsAlong p g n ds xs ys → map body_in ys ≡ map (renumbered g) (map body_in xs)
along p g n [] [] [] h = refl
along p g n (d ∷ ds) (x ∷ xs) (y ∷ ys) h =
    ap (λ b. b ∷ map body_in ys) (body_same g (last_in (portion_of p d).tree) (beyond g.functions n) x y h.0) ∙ ap (λ bs. renumbered g (body_in x) ∷ bs) (along p g (suc n) ds xs ys h.1)
along p g n [] [] (y ∷ ys) h = absurd h
along p g n [] (x ∷ xs) [] h = absurd h
along p g n [] (x ∷ xs) (y ∷ ys) h = absurd h
along p g n (d ∷ ds) [] [] h = absurd h
along p g n (d ∷ ds) [] (y ∷ ys) h = absurd h
along p g n (d ∷ ds) (x ∷ xs) [] h = absurd h

both_typed : (p : Package) (g : Gap) (n : ℕ) (ds : List Specification) (r s : Result Functions Failure) (u w : Functions) → FunctionsStay p g n ds r s → r ≡ Ok u → s ≡ Ok w
    → FunctionsAlong p g n ds u.functions w.functions × (w.rights ≡ u.rights)
both_typed p g n ds r s u w h e f = subst (λ i. FunctionsStay p g n ds i (Ok w)) e (subst (λ i. FunctionsStay p g n ds r i) f h)

found_behind : (xs ys : List FuncContent) (f : FuncContent) → slice_get (xs ++ f ∷ ys) (length xs) ≡ Some f
found_behind [] ys f = refl
found_behind (x ∷ xs) ys f = found_behind xs ys f

pub mapped : (fs : List FuncContent) → length (map body_in fs) ≡ length fs
mapped [] = refl
mapped (f ∷ fs) = ap suc (mapped fs)

-- ---- the functions of both packages

pub joined : (p q : Package) (g : Gap) (a b : Surroundings) (own : Specification) (were are : List Specification) (kept : KeepsBodies p q g a b own were are) → length kept.front ≡ g.functions → AddsNoRights q b g.functions own
    → (rights : Rights) (y z : Functions) → functions_from p a rights 0 were ≡ Ok y → functions_from q b rights 0 are ≡ Ok z → StaysBetween g y.functions z.functions
joined p q g a b own were are kept place none rights y z typed longer =
    let old = split p a rights 0 kept.front kept.rest y (subst (λ ds. functions_from p a rights 0 ds ≡ Ok y) kept.was typed) in
    let new = split q b rights 0 kept.front (own ∷ kept.rest) z (subst (λ ds. functions_from q b rights 0 ds ≡ Ok z) kept.is longer) in
    let front = both_typed p g 0 kept.front (functions_from p a rights 0 kept.front) (functions_from q b rights 0 kept.front) old.front new.front (kept.front_stay rights 0 (omega (arith, place))) old.first new.first in
    let there : 0 + length kept.front ≡ g.functions = omega (arith, place) in
    let head = headed q b new.front.rights g.functions own kept.rest new.rest (subst (λ i. functions_from q b new.front.rights i (own ∷ kept.rest) ≡ Ok new.rest) there new.second) in
    let same : head.one.rights ≡ old.front.rights = none new.front.rights head.one head.typed ∙ front.1 in
    let rest =
    both_typed p g g.functions kept.rest (functions_from p a old.front.rights g.functions kept.rest) (functions_from q b old.front.rights (suc g.functions) kept.rest) old.rest head.others
    (kept.rest_stay old.front.rights g.functions (omega arith)) (subst (λ i. functions_from p a old.front.rights i kept.rest ≡ Ok old.rest) there old.second)
    (subst (λ r. functions_from q b r (suc g.functions) kept.rest ≡ Ok head.others) same head.later) in
    let f = head.one.function in
    let all : z.functions ≡ new.front.functions ++ f ∷ head.others.functions = new.functions ∙ ap (λ fs. new.front.functions ++ fs) head.functions in
    let counted : length (map body_in old.front.functions) ≡ g.functions = mapped old.front.functions ∙ old.count ∙ place in
    record {
      front = map body_in old.front.functions;
      rest = map body_in old.rest.functions;
      function = f;
      was = ap (map body_in) old.functions ∙ map-append body_in old.front.functions old.rest.functions;
      is =
          ap (map body_in) all ∙ map-append body_in new.front.functions (f ∷ head.others.functions)
          ∙ ap (λ bs. bs ++ body_in f ∷ map body_in head.others.functions) (along p g 0 kept.front old.front.functions new.front.functions front.0)
          ∙ ap (λ bs. map (renumbered g) (map body_in old.front.functions) ++ body_in f ∷ bs) (along p g g.functions kept.rest old.rest.functions head.others.functions rest.0);
      itself =
          ap (λ fs. slice_get fs g.functions) all ∙ ap (slice_get (new.front.functions ++ f ∷ head.others.functions)) (sym (new.count ∙ place))
          ∙ found_behind new.front.functions head.others.functions f;
      place = counted;
      windows = keeps_windows g (body_in f) (map body_in old.front.functions) (map body_in old.rest.functions) counted;
    }
