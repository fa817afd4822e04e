-- Places in typed trees, and in lists of faults.
use Rattle.std.proofs.Common.{◌≡◌, ℕ, Bool, true, false, cond, List, [], ◌∷◌, ◌++◌, Option, Some, None}
use Rattle.go_types.specs.Trees.{TypeTree}
use Rattle.go_types.specs.Relations.{Rights}
use Rattle.go_typed.specs.Trees.{Typed, typed, Typeds, none, more, skip, row, list_of, parts_of, sort_of}
use Rattle.go_typed.specs.Trees as sort
use Rattle.go_base.specs.declared.fault.FaultCode.{FaultCode}
use Rattle.go_constants.specs.declared.values.Const.{Const}
use Rattle.go_exprs_rules.specs.declared.fault.TypeFault.{TypeFault}
use Rattle.go_exprs_rules.specs.declared.family.OpenKind.{OpenKind}
use Rattle.go_exprs_rules.specs.Faults.{fault_at, or_else}
use Rattle.go_exprs_rules.specs.Settling.{Part, at_part, settled, all_settled, unrepresented_constant, unrepresented, all_unrepresented, Take, stay, default, as_type, defaulted, given, undefaulted_by, undefaulted, untyped_unassignable, unassignable_by, unassignable}
use Rattle.go_exprs_rules.specs.Sorts.{Stands, is_open, takes_type, open_kind, is_constant, constant_of, retyped, represents, default_type, suits, has_nil}
use Rattle.go_types_relations.specs.Tests.{underlying_of, is_assignable}
use Rattle.go_exprs_rules.specs.Tables.{Parts, present}
use Rattle.go_package_laws.specs.Places.{EachFault}

module _ (q : ℕ → ℕ → Bool) where
  -- the test holds of all nodes of a typed tree
  abbrev mutual
    pub Placed : Part → Type 0
    Placed (typed f i j l ps) = (q i j ≡ true) × AllPlaced ps

    pub AllPlaced : Typeds TypeTree → Type 0
    AllPlaced none = Unit {0}
    AllPlaced (more p ps) = Placed p × AllPlaced ps
    AllPlaced (skip ps) = AllPlaced ps

  abbrev pub PlacedThere : Option Part → Type 0
  PlacedThere None = Unit {0}
  PlacedThere (Some x) = Placed x

  -- of all parts
  abbrev pub EachPlaced : Parts → Type 0
  EachPlaced [] = Unit {0}
  EachPlaced (x ∷ xs) = PlacedThere x × EachPlaced xs

  abbrev pub ListPlaced : List Part → Type 0
  ListPlaced [] = Unit {0}
  ListPlaced (x ∷ xs) = Placed x × ListPlaced xs

  -- ---- lists of faults

  pub nothing : EachFault q []
  nothing = tt

  pub one : (c : FaultCode) (i j : ℕ) → q i j ≡ true → EachFault q (fault_at c i j)
  one c i j h = (h, tt)

  pub both : (fs gs : List TypeFault) → EachFault q fs → EachFault q gs → EachFault q (fs ++ gs)
  both [] gs a b = b
  both (f ∷ fs) gs a b = (a.0, both fs gs a.1 b)

  pub either : (b : Bool) (fs gs : List TypeFault) → EachFault q fs → EachFault q gs → EachFault q (cond b fs gs)
  either true fs gs a c = a
  either false fs gs a c = c

  pub else_those : (fs gs : List TypeFault) → EachFault q fs → EachFault q gs → EachFault q (or_else fs gs)
  else_those [] gs a b = b
  else_those (f ∷ fs) gs a b = a

  -- ---- a part

  pub at_it : (c : FaultCode) (x : Part) → Placed x → EachFault q (at_part c x)
  at_it c (typed f i j l ps) h = (h.0, tt)

  constant_at : (rights : Rights) (t : TypeTree) (i j : ℕ) (c : Option Const) → q i j ≡ true → EachFault q (unrepresented_constant rights t i j c)
  constant_at rights t i j None h = tt
  constant_at rights t i j (Some c) h = either (represents rights t c) [] _ tt (h, tt)

  mutual
    pub unrepresented_at : (rights : Rights) (t : TypeTree) (x : Part) → Placed x → EachFault q (unrepresented rights t x)
    unrepresented_at rights t (typed f i j l ps) h =
        either (is_open l.sort) _ [] (either (is_constant l.sort) _ _ (constant_at rights t i j (constant_of l.sort) h.0) (all_unrepresented_at rights t ps h.1)) tt

    all_unrepresented_at : (rights : Rights) (t : TypeTree) (ps : Typeds TypeTree) → AllPlaced ps → EachFault q (all_unrepresented rights t ps)
    all_unrepresented_at rights t none h = tt
    all_unrepresented_at rights t (more p ps) h = both (unrepresented rights t p) (all_unrepresented rights t ps) (unrepresented_at rights t p h.0) (all_unrepresented_at rights t ps h.1)
    all_unrepresented_at rights t (skip ps) h = all_unrepresented_at rights t ps h

  undefaulted_by_at : (rights : Rights) (k : Option OpenKind) (x : Part) → Placed x → EachFault q (undefaulted_by rights k x)
  undefaulted_by_at rights (Some k) x h = unrepresented_at rights (default_type k) x h
  undefaulted_by_at rights None x h = tt

  pub undefaulted_at : (rights : Rights) (x : Part) → Placed x → EachFault q (undefaulted rights x)
  undefaulted_at rights x h = undefaulted_by_at rights (open_kind (sort_of x)) x h

  untyped_at : (rights : Rights) (t : TypeTree) (k : Option OpenKind) (x : Part) → Placed x → EachFault q (untyped_unassignable rights t k x)
  untyped_at rights t (Some k) x h = either (suits rights k t) _ _ (unrepresented_at rights t x h) (at_it _ x h)
  untyped_at rights t None x h = at_it _ x h

  by_at : (rights : Rights) (t : TypeTree) (s : Stands) (x : Part) → Placed x → EachFault q (unassignable_by rights t s x)
  by_at rights t sort.Unknown x h = tt
  by_at rights t (sort.Value u) x h = either (is_assignable rights u t) [] _ tt (at_it _ x h)
  by_at rights t (sort.Constant u c) x h = either (is_assignable rights u t) [] _ tt (at_it _ x h)
  by_at rights t sort.Nil x h = either (has_nil (underlying_of rights t)) [] _ tt (at_it _ x h)
  by_at rights t sort.Nothing x h = untyped_at rights t (open_kind sort.Nothing) x h
  by_at rights t sort.Blank x h = untyped_at rights t (open_kind sort.Blank) x h
  by_at rights t (sort.Builtin b) x h = untyped_at rights t (open_kind (sort.Builtin b)) x h
  by_at rights t sort.Println x h = untyped_at rights t (open_kind sort.Println) x h
  by_at rights t sort.Package x h = untyped_at rights t (open_kind sort.Package) x h
  by_at rights t (sort.IsType u) x h = untyped_at rights t (open_kind (sort.IsType u)) x h
  by_at rights t (sort.Open u) x h = untyped_at rights t (open_kind (sort.Open u)) x h
  by_at rights t (sort.OpenConstant c) x h = untyped_at rights t (open_kind (sort.OpenConstant c)) x h
  by_at rights t (sort.Results u) x h = untyped_at rights t (open_kind (sort.Results u)) x h

  pub unassignable_at : (rights : Rights) (t : TypeTree) (x : Part) → Placed x → EachFault q (unassignable rights t x)
  unassignable_at rights t x h = by_at rights t (sort_of x) x h

  -- ---- what takes a type stands where it stood

  pub chosen : (b : Bool) (x y : Part) → Placed x → Placed y → Placed (cond b x y)
  chosen true x y h g = h
  chosen false x y h g = g

  mutual
    settled_placed : (t : TypeTree) (x : Part) → Placed x → Placed (settled t x)
    settled_placed t (typed f i j l ps) h =
        chosen (takes_type l.sort) (typed f i j (record l { sort = retyped t l.sort }) (all_settled t ps)) (typed f i j l ps) (h.0, all_settled_placed t ps h.1) h

    all_settled_placed : (t : TypeTree) (ps : Typeds TypeTree) → AllPlaced ps → AllPlaced (all_settled t ps)
    all_settled_placed t none h = tt
    all_settled_placed t (more p ps) h = (settled_placed t p h.0, all_settled_placed t ps h.1)
    all_settled_placed t (skip ps) h = all_settled_placed t ps h

  defaulted_placed : (k : Option OpenKind) (x : Part) → Placed x → Placed (defaulted k x)
  defaulted_placed (Some k) x h = settled_placed (default_type k) x h
  defaulted_placed None x h = h

  pub given_placed : (k : Take) (x : Part) → Placed x → Placed (given k x)
  given_placed stay x h = h
  given_placed default x h = defaulted_placed (open_kind (sort_of x)) x h
  given_placed (as_type t) x h = settled_placed t x h

  -- ---- rows and lists

  pub row_placed : (xs : Parts) → EachPlaced xs → AllPlaced (row xs)
  row_placed [] h = tt
  row_placed (None ∷ xs) h = row_placed xs h.1
  row_placed (Some x ∷ xs) h = (h.0, row_placed xs h.1)

  pub list_placed : (ps : Typeds TypeTree) → AllPlaced ps → EachPlaced (list_of ps)
  list_placed none h = tt
  list_placed (more p ps) h = (h.0, list_placed ps h.1)
  list_placed (skip ps) h = (tt, list_placed ps h)

  pub parts_placed : (x : Part) → Placed x → AllPlaced (parts_of x)
  parts_placed (typed f i j l ps) h = h.1

  pub present_placed : (xs : Parts) → EachPlaced xs → ListPlaced (present xs)
  present_placed [] h = tt
  present_placed (None ∷ xs) h = present_placed xs h.1
  present_placed (Some x ∷ xs) h = (h.0, present_placed xs h.1)

  pub behind_placed : (xs ys : Parts) → EachPlaced xs → EachPlaced ys → EachPlaced (xs ++ ys)
  behind_placed [] ys h g = g
  behind_placed (x ∷ xs) ys h g = (h.0, behind_placed xs ys h.1 g)
