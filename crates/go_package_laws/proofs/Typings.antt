-- Nodes over their parts, and whole trees.
use Rattle.std.proofs.Common.{◌≡◌, ℕ, ◌-◌, Bool, true, false, cond, List, [], ◌∷◌, ◌++◌, Option, Some, None}
use Rattle.go_grammar.specs.declared.kind.Kind.{Kind}
use Rattle.go_grammar.specs.declared.kind.Kind.TheVariants as kind
use Rattle.go_grammar.specs.Trees.{Tree, node, Trees, kind_of}
use Rattle.go_grammar.specs.Trees as syntax
use Rattle.go_typed.specs.declared.form.Form.{Form}
use Rattle.go_typed.specs.Trees.{Typed, typed, Typeds, Label, row, list_of, form_of, sort_of, parts_of}
use Rattle.go_typed.specs.Trees as sort
use Rattle.go_exprs_rules.specs.declared.fault.TypeFault.{TypeFault}
use Rattle.go_exprs_rules.specs.Scopes.{Scope, Hint}
use Rattle.go_exprs_rules.specs.Settling.{Part, Take}
use Rattle.go_exprs_rules.specs.Sorts.{Stands}
use Rattle.go_exprs_rules.specs.Tables.{Parts, is_held, held, all_held, is_type, leaf, cut, first_cut, is_make_call, call_parts, has_no_low, bounds_of, bracketed_parts, is_package, selector_parts, behind_first, layout, present, literal_type, failing, sort_by, form_by, takes, take_optional, all_given, made, is_judged, is_placed, placing, own_faults, is_sound, built_by, built, found, hint, part_scope}
use Rattle.go_exprs_rules.specs.Typing.{typing, typings, faults, faults_of_parts}
use Rattle.go_package_laws.specs.Places.{EachNode, EachPart, EachFault, EachOf}
use Rattle.go_package_laws.proofs.Parts.{Placed, PlacedThere, EachPlaced, either, else_those, given_placed, row_placed, list_placed, parts_placed, present_placed, behind_placed}
use Rattle.go_package_laws.proofs.Rules.{unary_at, operation_at, selector_at, index_at, slice_at, sequence_at, integer_at, place_at}
use Rattle.go_package_laws.proofs.FaultCalls.{call_at, literal_at}

module _ (q : ℕ → ℕ → Bool) where
  -- ---- parts as they are laid out

  held_placed : (x : Option Part) → PlacedThere q x → EachPlaced q (held x)
  held_placed None h = (tt, tt)
  held_placed (Some x) h = pick (is_held (form_of x)) where
    pick : (b : Bool) → EachPlaced q (cond b (list_of (parts_of x)) (Some x ∷ []))
    pick true = list_placed q (parts_of x) (parts_placed q x h)
    pick false = (h, tt)

  all_held_placed : (xs : Parts) → EachPlaced q xs → EachPlaced q (all_held xs)
  all_held_placed [] h = tt
  all_held_placed (x ∷ xs) h = behind_placed q (held x) (all_held xs) (held_placed x h.0) (all_held_placed xs h.1)

  leaf_placed : (x : Part) → Placed q x → Placed q (leaf x)
  leaf_placed (typed f i j l ps) h = (h.0, tt)

  cut_placed : (x : Option Part) → PlacedThere q x → PlacedThere q (cut x)
  cut_placed None h = tt
  cut_placed (Some x) h = pick (is_type (sort_of x)) where
    pick : (b : Bool) → PlacedThere q (cond b (Some (leaf x)) (Some x))
    pick true = leaf_placed x h
    pick false = h

  first_cut_placed : (xs : Parts) → EachPlaced q xs → EachPlaced q (first_cut xs)
  first_cut_placed [] h = tt
  first_cut_placed (x ∷ xs) h = (cut_placed x h.0, h.1)

  call_placed : (xs : Parts) → EachPlaced q xs → EachPlaced q (call_parts xs)
  call_placed [] h = tt
  call_placed (f ∷ xs) h = pick (is_make_call (f ∷ xs)) where
    pick : (b : Bool) → EachPlaced q (cond b (f ∷ first_cut xs) (cut f ∷ xs))
    pick true = (h.0, first_cut_placed xs h.1)
    pick false = (cut_placed f h.0, h.1)

  bounds_placed : (x : Option Part) → PlacedThere q x → EachPlaced q (bounds_of x)
  bounds_placed x h = pick (has_no_low x) where
    pick : (b : Bool) → EachPlaced q (cond b (None ∷ held x) (held x))
    pick true = (tt, held_placed x h)
    pick false = held_placed x h

  bracketed_placed : (xs : Parts) → EachPlaced q xs → EachPlaced q (bracketed_parts xs)
  bracketed_placed [] h = tt
  bracketed_placed (x ∷ []) h = h
  bracketed_placed (x ∷ y ∷ ys) h = (h.0, bounds_placed y h.1.0)

  selector_placed : (xs : Parts) → EachPlaced q xs → EachPlaced q (selector_parts xs)
  selector_placed [] h = tt
  selector_placed (None ∷ xs) h = h
  selector_placed (Some x ∷ []) h = pick (is_package (sort_of x)) where
    pick : (b : Bool) → EachPlaced q (cond b [] (Some x ∷ []))
    pick true = tt
    pick false = h
  selector_placed (Some x ∷ y ∷ xs) h = h

  behind_first_placed : (xs : Parts) → EachPlaced q xs → EachPlaced q (behind_first xs)
  behind_first_placed [] h = tt
  behind_first_placed (x ∷ xs) h = h.1

  layout_placed : (k : Kind) (xs : Parts) → EachPlaced q xs → EachPlaced q (layout k xs)
  layout_placed kind.Selector xs h = selector_placed xs h
  layout_placed kind.Bracketed xs h = bracketed_placed xs h
  layout_placed kind.Call xs h = call_placed xs h
  layout_placed kind.Composite xs h = first_cut_placed xs h
  layout_placed kind.LiteralValue xs h = (tt, h)
  layout_placed kind.Keyed xs h = behind_first_placed xs h
  layout_placed kind.Fields xs h = all_held_placed xs h
  layout_placed kind.StructType xs h = all_held_placed xs h
  layout_placed k xs h = h

  -- ---- what parts take

  take_placed : (k : Take) (x : Option Part) → PlacedThere q x → PlacedThere q (take_optional k x)
  take_placed k None h = tt
  take_placed k (Some x) h = given_placed q k x h

  all_given_placed : (ks : List Take) (ys : Parts) → EachPlaced q ys → EachPlaced q (all_given ks ys)
  all_given_placed [] ys h = h
  all_given_placed (k ∷ ks) [] h = tt
  all_given_placed (k ∷ ks) (y ∷ ys) h = (take_placed k y h.0, all_given_placed ks ys h.1)

  -- ---- a node

  made_placed : (f : Form) (i j : ℕ) (x : Stands) (ys zs : Parts) → q i j ≡ true → EachPlaced q zs → Placed q (made f i j x ys zs)
  made_placed f i j x ys zs h g = (h, row_placed q zs g)

  by_placed : (s : Scope) (k : Kind) (h : Hint) (i j : ℕ) (ys : Parts) (b : Bool) → q i j ≡ true → EachPlaced q ys → Placed q (built_by s k h i j ys b)
  by_placed s k h i j ys true e g = made_placed (form_by s k h i j ys) i j (sort_by s k h i j ys) ys (all_given (takes s k h ys) ys) e (all_given_placed (takes s k h ys) ys g)
  by_placed s k h i j ys false e g = made_placed (form_by s k h i j ys) i j sort.Unknown ys ys e g

  built_placed : (s : Scope) (k : Kind) (h : Hint) (i j : ℕ) (xs : Parts) → q i j ≡ true → EachPlaced q xs → Placed q (built s k h i j xs)
  built_placed s k h i j xs e g = by_placed s k h i j (layout k xs) (is_sound k (layout k xs) (own_faults s k h i j (layout k xs))) e (layout_placed k xs g)

  module _ (s : Scope) (h : Hint) (i j : ℕ) (e : q i j ≡ true) where
    failing_there : (k : Kind) (ys : Parts) → EachPlaced q ys → EachFault q (failing s k h i j ys)
    failing_there kind.Integer ys g = integer_at q s.rights i j e (s.texts i)
    failing_there (kind.Unary o) [] g = tt
    failing_there (kind.Unary o) (None ∷ ys) g = tt
    failing_there (kind.Unary o) (Some x ∷ []) g = unary_at q s.rights i j e o (sort_of x)
    failing_there (kind.Unary o) (Some x ∷ y ∷ ys) g = tt
    failing_there (kind.Binary o) [] g = tt
    failing_there (kind.Binary o) (None ∷ ys) g = tt
    failing_there (kind.Binary o) (Some x ∷ []) g = tt
    failing_there (kind.Binary o) (Some x ∷ None ∷ ys) g = tt
    failing_there (kind.Binary o) (Some x ∷ Some y ∷ []) g = operation_at q s.rights i j e o x y g.0 g.1.0
    failing_there (kind.Binary o) (Some x ∷ Some y ∷ z ∷ ys) g = tt
    failing_there kind.Selector [] g = tt
    failing_there kind.Selector (None ∷ ys) g = tt
    failing_there kind.Selector (Some x ∷ []) g = selector_at q s.rights i j e (s.texts (j - 1)) (sort_of x)
    failing_there kind.Selector (Some x ∷ y ∷ ys) g = tt
    failing_there kind.Bracketed [] g = tt
    failing_there kind.Bracketed (None ∷ ys) g = tt
    failing_there kind.Bracketed (Some x ∷ []) g = tt
    failing_there kind.Bracketed (Some x ∷ None ∷ []) g = tt
    failing_there kind.Bracketed (Some x ∷ Some y ∷ []) g = index_at q s.rights i j e (sort_of x) y g.1.0
    failing_there kind.Bracketed (Some x ∷ None ∷ z ∷ []) g = slice_at q s.rights i j e (sort_of x) None z tt g.1.1.0
    failing_there kind.Bracketed (Some x ∷ Some y ∷ z ∷ []) g = slice_at q s.rights i j e (sort_of x) (Some y) z g.1.0 g.1.1.0
    failing_there kind.Bracketed (Some x ∷ None ∷ z ∷ w ∷ ys) g = tt
    failing_there kind.Bracketed (Some x ∷ Some y ∷ z ∷ w ∷ ys) g = tt
    failing_there kind.Call [] g = tt
    failing_there kind.Call (None ∷ ys) g = tt
    failing_there kind.Call (Some f ∷ xs) g = call_at q s.rights i j e (sort_of f) (present xs) (present_placed q xs g.1)
    failing_there kind.Composite [] g = tt
    failing_there kind.Composite (t ∷ xs) g = literal_at q s.rights i j e (literal_type h t) (present xs) (present_placed q xs g.1)
    failing_there kind.LiteralValue [] g = tt
    failing_there kind.LiteralValue (t ∷ xs) g = literal_at q s.rights i j e (literal_type h t) (present xs) (present_placed q xs g.1)
    failing_there kind.SequenceType [] g = tt
    failing_there kind.SequenceType (x ∷ []) g = tt
    failing_there kind.SequenceType (x ∷ y ∷ []) g = sequence_at q s.rights i j e s.limits x y g.0
    failing_there kind.SequenceType (x ∷ y ∷ z ∷ ys) g = tt
    failing_there k ys g = tt

    placing_there : (k : Kind) (x : Stands) → EachFault q (placing s k h i j x)
    placing_there k x = either q (is_placed k) _ [] (place_at q s.rights i j e h x) tt

    own_there : (k : Kind) (ys : Parts) → EachPlaced q ys → EachFault q (own_faults s k h i j ys)
    own_there k ys g = either q (is_judged ys) _ [] (else_those q (failing s k h i j ys) (placing s k h i j (sort_by s k h i j ys)) (failing_there k ys g) (placing_there k (sort_by s k h i j ys))) tt

  found_there : (s : Scope) (k : Kind) (h : Hint) (i j : ℕ) (xs : Parts) → q i j ≡ true → EachPlaced q xs → EachFault q (found s k h i j xs)
  found_there s k h i j xs e g = own_there s h i j e k (layout k xs) (layout_placed k xs g)

  -- ---- whole trees

  one_more : (xs : Parts) (x : Option Part) → EachPlaced q xs → PlacedThere q x → EachPlaced q (xs ++ x ∷ [])
  one_more xs x h g = behind_placed q xs (x ∷ []) h (g, tt)

  mutual
    pub typing_placed : (s : Scope) (h : Hint) (t : Tree) → EachNode q t → Placed q (typing s h t)
    typing_placed s h (node k i j ps) e = built_placed s k h i j (typings s k h ps [] ps) e.0 (typings_placed s k h ps [] ps tt e.1)

    typings_placed : (s : Scope) (k : Kind) (h : Hint) (all : Trees) (xs : Parts) (ps : Trees) → EachPlaced q xs → EachPart q ps → EachPlaced q (typings s k h all xs ps)
    typings_placed s k h all xs syntax.none g e = g
    typings_placed s k h all xs (syntax.more p ps) g e =
        let x = typing (part_scope s k xs) (hint s k h all xs (kind_of p)) p in
        typings_placed s k h all (xs ++ Some x ∷ []) ps (one_more xs (Some x) g (typing_placed (part_scope s k xs) (hint s k h all xs (kind_of p)) p e.0)) e.1
    typings_placed s k h all xs (syntax.skip ps) g e = typings_placed s k h all (xs ++ None ∷ []) ps (one_more xs None g tt) e

  appended : (xs ys : List (List TypeFault)) → EachOf q xs → EachOf q ys → EachOf q (xs ++ ys)
  appended [] ys a b = b
  appended (x ∷ xs) ys a b = (a.0, appended xs ys a.1 b)

  mutual
    pub faults_at_nodes : (s : Scope) (h : Hint) (t : Tree) → EachNode q t → EachOf q (faults s h t)
    faults_at_nodes s h (node k i j ps) e =
        appended (faults_of_parts s k h ps [] ps) (found s k h i j (typings s k h ps [] ps) ∷ []) (faults_at_parts s k h ps [] ps tt e.1)
        (found_there s k h i j (typings s k h ps [] ps) e.0 (typings_placed s k h ps [] ps tt e.1), tt)

    faults_at_parts : (s : Scope) (k : Kind) (h : Hint) (all : Trees) (xs : Parts) (ps : Trees) → EachPlaced q xs → EachPart q ps → EachOf q (faults_of_parts s k h all xs ps)
    faults_at_parts s k h all xs syntax.none g e = tt
    faults_at_parts s k h all xs (syntax.more p ps) g e =
        let told = hint s k h all xs (kind_of p) in
        let inner = part_scope s k xs in
        let x = typing inner told p in
        appended (faults inner told p) (faults_of_parts s k h all (xs ++ Some x ∷ []) ps) (faults_at_nodes inner told p e.0)
        (faults_at_parts s k h all (xs ++ Some x ∷ []) ps (one_more xs (Some x) g (typing_placed inner told p e.0)) e.1)
    faults_at_parts s k h all xs (syntax.skip ps) g e = faults_at_parts s k h all (xs ++ None ∷ []) ps (one_more xs None g tt) e
