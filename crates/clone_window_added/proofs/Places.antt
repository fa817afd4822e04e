-- The functions of a package one behind the other, and the right sides of declared types in front of each.
use Rattle.std.proofs.Common.{◌≡◌, ◌∙◌, ℕ, zero, suc, ◌+◌, List, [], ◌∷◌, ◌++◌, length, Some, slice_get, ap, refl, sym, append_assoc, arith}
use Rattle.std.specs.Prelude.{Result, Ok, Err}
use Rattle.go_base.specs.Gives.{◌>>=◌}
use Rattle.go_tree.specs.Failures.{Failure}
use Rattle.go_types.specs.Relations.{Rights}
use Rattle.go_typed.specs.Contents.{FuncContent}
use Rattle.go_exprs_rules.specs.declared.fault.TypeFault.{TypeFault}
use Rattle.go_package_defs.specs.Bodies.{Behind, Functions, Surroundings, functions_from, placed, typed_function, with_function}
use Rattle.go_package_defs.specs.Declarations.{Specification}
use Rattle.go_package_defs.specs.Sources.{Package}
use Rattle.go_heads_types.specs.Typings.{rights_after, rights_behind}
use Rattle.clone_window_added.proofs.Lists.{not_there, some_there}
use Rattle.clone_window_added.proofs.Typeless.{RightSidesAreAdded, no_more}

-- ---- right sides in front of others

pub record StandBehind (front all : Rights) : Type 0 where
  pub rest : Rights
  pub is : all ≡ front ++ rest

none_behind : (rights : Rights) → StandBehind rights rights
none_behind rights = record { rest = []; is = sym (no_more rights) }

both_behind : (x y z : Rights) → StandBehind x y → StandBehind y z → StandBehind x z
both_behind x y z f g = record { rest = f.rest ++ g.rest; is = g.is ∙ ap (λ l. l ++ g.rest) f.is ∙ append_assoc x f.rest g.rest }

module _ (p : Package) (a : Surroundings) where
  -- the first function, and those behind it
  pub record Headed (rights : Rights) (n : ℕ) (d : Specification) (ds : List Specification) (y : Functions) : Type 0 where
    pub one : Behind
    pub others : Functions
    pub typed : typed_function p a rights n d ≡ Ok one
    pub later : functions_from p a one.rights (suc n) ds ≡ Ok others
    pub functions : y.functions ≡ one.function ∷ others.functions
    pub all : y.rights ≡ others.rights

  same_of : (f : FuncContent) (w y : Functions) → ◌≡◌ {A = Result Functions Failure} (Ok (with_function f w)) (Ok y) → y ≡ with_function f w
  same_of f w y e = cc

  headed_more : (rights : Rights) (n : ℕ) (d : Specification) (ds : List Specification) (y : Functions) (c : Behind) (r : Result Functions Failure) → typed_function p a rights n d ≡ Ok c → functions_from p a c.rights (suc n) ds ≡ r
      → (r >>= λ fs. Ok (with_function c.function fs)) ≡ Ok y → Headed rights n d ds y
  headed_more rights n d ds y c (Ok w) e h z =
      let same = same_of c.function w y z in
      record { one = c; others = w; typed = e; later = h; functions = ap (λ (v : Functions). v.functions) same; all = ap (λ (v : Functions). v.rights) same }
  headed_more rights n d ds y c (Err f) e h z = absurd cc

  headed_one : (rights : Rights) (n : ℕ) (d : Specification) (ds : List Specification) (y : Functions) (r : Result Behind TypeFault) → typed_function p a rights n d ≡ r
      → (placed p d r >>= λ b. functions_from p a b.rights (suc n) ds >>= λ fs. Ok (with_function b.function fs)) ≡ Ok y → Headed rights n d ds y
  headed_one rights n d ds y (Ok c) e z = headed_more rights n d ds y c (functions_from p a c.rights (suc n) ds) e refl z
  headed_one rights n d ds y (Err f) e z = absurd cc

  pub headed : (rights : Rights) (n : ℕ) (d : Specification) (ds : List Specification) (y : Functions) → functions_from p a rights n (d ∷ ds) ≡ Ok y → Headed rights n d ds y
  headed rights n d ds y e = headed_one rights n d ds y (typed_function p a rights n d) refl e

  -- ---- the function of a number

  -- the function of the specification of this place, behind the right sides in front of it
  pub record AtPlace (rights : Rights) (n : ℕ) (ds : List Specification) (y : Functions) (k : ℕ) (d : Specification) : Type 0 where
    pub behind : Behind
    pub typed : typed_function p a (rights_after p a rights n ds k) (n + k) d ≡ Ok behind
    pub stands : slice_get y.functions k ≡ Some behind.function
    pub next : rights_after p a rights n ds (suc k) ≡ behind.rights

  place_first : (rights : Rights) (n : ℕ) (c d : Specification) (ds : List Specification) (y : Functions) → Headed rights n c ds y → c ≡ d → AtPlace rights n (c ∷ ds) y zero d
  place_first rights n c d ds y z e =
      let number : n + zero ≡ n = omega arith in
      record {
        behind = z.one;
        typed = ap (λ i. typed_function p a rights i d) number ∙ ap (typed_function p a rights n) (sym e) ∙ z.typed;
        stands = ap (λ fs. slice_get fs 0) z.functions;
        next = ap (rights_behind rights) z.typed;
      }

  place_later : (rights : Rights) (n : ℕ) (c d : Specification) (ds : List Specification) (y : Functions) (k : ℕ) (z : Headed rights n c ds y) → AtPlace z.one.rights (suc n) ds z.others k d
      → AtPlace rights n (c ∷ ds) y (suc k) d
  place_later rights n c d ds y k z s =
      let number : n + suc k ≡ suc n + k = omega arith in
      let front : (i : ℕ) → rights_after p a rights n (c ∷ ds) (suc i) ≡ rights_after p a z.one.rights (suc n) ds i = λ i. ap (λ r. rights_after p a (rights_behind rights r) (suc n) ds i) z.typed in
      record {
        behind = s.behind;
        typed = ap (λ i. typed_function p a (rights_after p a rights n (c ∷ ds) (suc k)) i d) number ∙ ap (λ r. typed_function p a r (suc n + k) d) (front k) ∙ s.typed;
        stands = ap (λ fs. slice_get fs (suc k)) z.functions ∙ s.stands;
        next = front (suc k) ∙ s.next;
      }

  pub at_place : (rights : Rights) (n : ℕ) (ds : List Specification) (y : Functions) (k : ℕ) (d : Specification) → functions_from p a rights n ds ≡ Ok y → slice_get ds k ≡ Some d → AtPlace rights n ds y k d
  at_place rights n [] y k d e s = not_there d s
  at_place rights n (c ∷ ds) y zero d e s = place_first rights n c d ds y (headed rights n c ds y e) (some_there c d s)
  at_place rights n (c ∷ ds) y (suc k) d e s =
      let z : Headed rights n c ds y = headed rights n c ds y e in
      place_later rights n c d ds y k z (at_place z.one.rights (suc n) ds z.others k d z.later s)

  -- behind all functions stand the right sides of the package
  same_rights : (x y : Functions) → ◌≡◌ {A = Result Functions Failure} (Ok x) (Ok y) → y ≡ x
  same_rights x y e = cc

  pub rights_in_all : (rights : Rights) (n : ℕ) (ds : List Specification) (y : Functions) → functions_from p a rights n ds ≡ Ok y → y.rights ≡ rights_after p a rights n ds (length ds)
  rights_in_all rights n [] y e = ap (λ (v : Functions). v.rights) (same_rights (record { functions = []; rights = rights }) y e)
  rights_in_all rights n (d ∷ ds) y e =
      let z : Headed rights n d ds y = headed rights n d ds y e in
      z.all ∙ rights_in_all z.one.rights (suc n) ds z.others z.later ∙ sym (ap (λ r. rights_after p a (rights_behind rights r) (suc n) ds (length ds)) z.typed)

  -- each specification has a function
  pub as_many : (rights : Rights) (n : ℕ) (ds : List Specification) (y : Functions) → functions_from p a rights n ds ≡ Ok y → length y.functions ≡ length ds
  as_many rights n [] y e = ap (λ (v : Functions). length v.functions) (same_rights (record { functions = []; rights = rights }) y e)
  as_many rights n (d ∷ ds) y e =
      let z : Headed rights n d ds y = headed rights n d ds y e in
      ap length z.functions ∙ ap suc (as_many z.one.rights (suc n) ds z.others z.later)

  -- ---- right sides are added behind those in front

  module _ (law : RightSidesAreAdded) where
    one_behind : (rights : Rights) (n : ℕ) (d : Specification) (r : Result Behind TypeFault) → typed_function p a rights n d ≡ r → StandBehind rights (rights_behind rights r)
    one_behind rights n d (Ok b) e = let more = law p a rights n d b e in record { rest = more.own; is = more.is }
    one_behind rights n d (Err f) e = none_behind rights

    pub all_stand_behind : (rights : Rights) (n : ℕ) (ds : List Specification) (k : ℕ) → StandBehind rights (rights_after p a rights n ds k)
    all_stand_behind rights n ds zero = none_behind rights
    all_stand_behind rights n [] (suc k) = none_behind rights
    all_stand_behind rights n (d ∷ ds) (suc k) =
        let next = rights_behind rights (typed_function p a rights n d) in
        both_behind rights next (rights_after p a next (suc n) ds k) (one_behind rights n d (typed_function p a rights n d) refl) (all_stand_behind next (suc n) ds k)
