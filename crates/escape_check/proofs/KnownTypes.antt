-- The types of locals, and of what is handed over, are types of the package's table.
use Rattle.std.proofs.Common.{◌≡◌, ◌∙◌, ℕ, zero, suc, ◌+◌, ◌<◌, Bool, true, false, List, [], ◌∷◌, ◌++◌, length, map, take, drop, Some, slice_get, refl, sym, ap, subst}
use Rattle.std.proofs.lemmas.Bool.{and_parts, ltb-true}
use Rattle.std.specs.Prelude.{◌&&◌, nat_lt, if◌then◌else◌}
use Rattle.std.specs.List.{AllByRecursion, list_all}
use Rattle.go_typed.specs.declared.window.Window.{Window}
use Rattle.go_typed.specs.Forms.{is_statement_list, values_count}
use Rattle.go_typed.specs.Funcs.{FuncView, size, tree_of}
use Rattle.go_typed.specs.Lists.{own_list, statement_lists, lists_among, present, statements_of}
use Rattle.go_typed.specs.Packages.{IsPackage, PackageView, counts, is_below, is_known_func}
use Rattle.go_typed.specs.Trees.{Sort, Nothing, Unknown, Blank, Nil, Builtin, Println, Package, IsType, Value, Constant, Open, OpenConstant, Results, Typed, typed, Typeds, none, more, skip, sort_has, every, every_part}
use Rattle.clone_window.specs.Masses.{is_hole, is_inside}
use Rattle.clone_window.specs.Sameness.{sort_at}
use Rattle.clone_window.specs.Windows.{row_of, statements_in, window_statements}
use Rattle.param_choose.specs.Choosing.{HoleParameter, choice, is_needed, is_parameter, parameter_of, parameter_with, parameters_from, type_in}
use Rattle.param_choose.specs.Handed.{Handed, HandedHole, handed, handed_hole}
use Rattle.param_choose.specs.Holes.{Hole, holes, holes_in, holes_among}
use Rattle.param_choose.specs.Locals.{Variable, assigned_among, declared_names, each_local, free_locals, has, is_outside, once, only, variable_at, variable_of, variables_where}
use Rattle.param_choose.specs.Members.{Member, member_over, uses_within}
use Rattle.param_choose.specs.Shown.{array_in}
use Rattle.escape_check.specs.declared.member.Member.{Member as Found}
use Rattle.escape_check.specs.Shown.{IsSound, member_view}
use Rattle.escape_check.specs.Types.{hole_types, local_types, variable_types}
use Rattle.escape_check.specs.Written.{AreKnownTypes, handed_types}

-- the numbers are below n
abbrev AreBelow : ℕ → List ℕ → Type 0
AreBelow n ts = AllByRecursion (λ t. t < n) ts

below-both : (n : ℕ) (ts us : List ℕ) → AreBelow n ts → AreBelow n us → AreBelow n (ts ++ us)
below-both n [] us h k = k
below-both n (t ∷ ts) us h k = (h.0, below-both n ts us h.1 k)

true-both : (a b : Bool) → a ≡ true → b ≡ true → (a && b) ≡ true
true-both a b e f = ap (λ c. c && b) e ∙ f

all-both : {X : Type 0} (q : X → Bool) (xs ys : List X) → list_all q xs ≡ true → list_all q ys ≡ true → list_all q (xs ++ ys) ≡ true
all-both q [] ys h k = k
all-both q (x ∷ xs) ys h k =
    let parts = and_parts (q x) (list_all q xs) h in
    true-both (q x) (list_all q (xs ++ ys)) parts.0 (all-both q xs ys parts.1 k)

all-take : {X : Type 0} (q : X → Bool) (k : ℕ) (xs : List X) → list_all q xs ≡ true → list_all q (take k xs) ≡ true
all-take q zero xs h = refl
all-take q (suc k) [] h = refl
all-take q (suc k) (x ∷ xs) h = let parts = and_parts (q x) (list_all q xs) h in true-both (q x) (list_all q (take k xs)) parts.0 (all-take q k xs parts.1)

all-drop : {X : Type 0} (q : X → Bool) (k : ℕ) (xs : List X) → list_all q xs ≡ true → list_all q (drop k xs) ≡ true
all-drop q zero xs h = h
all-drop q (suc k) [] h = refl
all-drop q (suc k) (x ∷ xs) h = all-drop q k xs (and_parts (q x) (list_all q xs) h).1

all-got : {X : Type 0} (q : X → Bool) (xs : List X) (k : ℕ) (x : X) → list_all q xs ≡ true → slice_get xs k ≡ Some x → q x ≡ true
all-got q [] k x h e = cc
all-got q (y ∷ ys) zero x h e = let same : y ≡ x = cc in sym (ap q same) ∙ (and_parts (q y) (list_all q ys) h).0
all-got q (y ∷ ys) (suc k) x h e = all-got q ys k x (and_parts (q y) (list_all q ys) h).1 e

module _ (n : ℕ) where
  abbrev known : Sort ℕ → Bool
  known s = sort_has (is_below n) s

  -- ---- locals

  known-at : (sorts : List (Sort ℕ)) (k : ℕ) → list_all known sorts ≡ true → known (sort_at sorts k) ≡ true
  known-at [] k h = refl
  known-at (s ∷ ss) zero h = (and_parts (known s) (list_all known ss) h).0
  known-at (s ∷ ss) (suc k) h = known-at ss k (and_parts (known s) (list_all known ss) h).1

  variable-known : (k : ℕ) (s : Sort ℕ) → known s ≡ true → AreBelow n (variable_types (variable_of k s))
  variable-known k Nothing h = tt
  variable-known k Unknown h = tt
  variable-known k Blank h = tt
  variable-known k Nil h = tt
  variable-known k (Builtin b) h = tt
  variable-known k Println h = tt
  variable-known k Package h = tt
  variable-known k (IsType t) h = tt
  variable-known k (Value t) h = (ltb-true t n h, tt)
  variable-known k (Constant t c) h = tt
  variable-known k (Open u) h = tt
  variable-known k (OpenConstant c) h = tt
  variable-known k (Results t) h = tt

  locals-known : (m : Member ℕ) (ns : List ℕ) → list_all known m.locals ≡ true → AreBelow n (local_types m ns)
  locals-known m [] h = tt
  locals-known m (k ∷ ks) h =
      below-both n (variable_types (variable_at m.locals k)) (local_types m ks) (variable-known k (sort_at m.locals k) (known-at m.locals k h)) (locals-known m ks h)

  -- ---- variables among locals

  types-append : (vs ws : List (Variable ℕ)) → variable_types (vs ++ ws) ≡ variable_types vs ++ variable_types ws
  types-append [] ws = refl
  types-append (v ∷ vs) ws = ap (λ ts. v.type ∷ ts) (types-append vs ws)

  variables-both : (vs ws : List (Variable ℕ)) → AreBelow n (variable_types vs) → AreBelow n (variable_types ws) → AreBelow n (variable_types (vs ++ ws))
  variables-both [] ws h k = k
  variables-both (v ∷ vs) ws h k = (h.0, variables-both vs ws h.1 k)

  variables-if : (b : Bool) (vs : List (Variable ℕ)) → AreBelow n (variable_types vs) → AreBelow n (variable_types (if b then vs else []))
  variables-if true vs h = h
  variables-if false vs h = tt

  variables-known : (sorts : List (Sort ℕ)) (test : ℕ → Bool) (ns : List ℕ) → list_all known sorts ≡ true → AreBelow n (variable_types (variables_where sorts test ns))
  variables-known sorts test [] h = tt
  variables-known sorts test (k ∷ ks) h =
      variables-both (if test k then variable_at sorts k else []) (variables_where sorts test ks)
      (variables-if (test k) (variable_at sorts k) (variable-known k (sort_at sorts k) (known-at sorts k h)))
      (variables-known sorts test ks h)

  only-known : (test : ℕ → Bool) (vs : List (Variable ℕ)) → AreBelow n (variable_types vs) → AreBelow n (variable_types (only test vs))
  only-known test [] h = tt
  only-known test (v ∷ vs) h =
      variables-both (if test v.local then v ∷ [] else []) (only test vs) (variables-if (test v.local) (v ∷ []) (h.0, tt)) (only-known test vs h.1)

  -- ---- holes

  abbrev hole-has : Hole ℕ → Bool
  hole-has h = known h.sort

  mutual
    holes-in-known : (k : ℕ) (a : Bool) (x : Typed ℕ) → every (is_below n) x ≡ true → list_all hole-has (holes_in k a x) ≡ true
    holes-in-known k a (typed f i j l ps) h =
        let parts = and_parts (known l.sort) (every_part (is_below n) ps) h in
        by (record { node = k; from = i; upto = j; sort = l.sort }) (holes_among (suc k) (is_inside a f l) ps) (is_hole a f l) parts.0 (holes-known (suc k) (is_inside a f l) ps parts.1)
      where
        by : (hole : Hole ℕ) (hs : List (Hole ℕ)) (b : Bool) → known hole.sort ≡ true → list_all hole-has hs ≡ true → list_all hole-has (if b then hole ∷ [] else hs) ≡ true
        by hole hs true e h = true-both (known hole.sort) true e refl
        by hole hs false e h = h

    holes-known : (k : ℕ) (a : Bool) (ps : Typeds ℕ) → every_part (is_below n) ps ≡ true → list_all hole-has (holes_among k a ps) ≡ true
    holes-known k a none h = refl
    holes-known k a (more p ps) h =
        let parts = and_parts (every (is_below n) p) (every_part (is_below n) ps) h in
        all-both hole-has (holes_in k a p) (holes_among (k + size p) a ps) (holes-in-known k a p parts.0) (holes-known (k + size p) a ps parts.1)
    holes-known k a (skip ps) h = holes-known k a ps h

  parameter-known : (start i : ℕ) (hole : Hole ℕ) (s : Sort ℕ) → known s ≡ true → AreBelow n (hole_types (parameter_with start i hole (type_in s)))
  parameter-known start i hole Nothing h = tt
  parameter-known start i hole Unknown h = tt
  parameter-known start i hole Blank h = tt
  parameter-known start i hole Nil h = tt
  parameter-known start i hole (Builtin b) h = tt
  parameter-known start i hole Println h = tt
  parameter-known start i hole Package h = tt
  parameter-known start i hole (IsType t) h = tt
  parameter-known start i hole (Value t) h = tt
  parameter-known start i hole (Constant t c) h = (ltb-true t n h, tt)
  parameter-known start i hole (Open u) h = tt
  parameter-known start i hole (OpenConstant c) h = tt
  parameter-known start i hole (Results t) h = tt

  parameters-both : (hs gs : List (HoleParameter ℕ)) → AreBelow n (hole_types hs) → AreBelow n (hole_types gs) → AreBelow n (hole_types (hs ++ gs))
  parameters-both [] gs h k = k
  parameters-both (x ∷ hs) gs h k = (h.0, parameters-both hs gs h.1 k)

  parameters-if : (b : Bool) (hs : List (HoleParameter ℕ)) → AreBelow n (hole_types hs) → AreBelow n (hole_types (if b then hs else []))
  parameters-if true hs h = h
  parameters-if false hs h = tt

  parameters-known : (ms : List (Member ℕ)) (t : Member ℕ) (i : ℕ) (hs : List (Hole ℕ)) → list_all hole-has hs ≡ true → AreBelow n (hole_types (parameters_from ms t i hs))
  parameters-known ms t i [] h = tt
  parameters-known ms t i (x ∷ hs) h =
      let parts = and_parts (hole-has x) (list_all hole-has hs) h in
      parameters-both (if is_parameter ms t i x then parameter_of t.start i x else []) (parameters_from ms t (suc i) hs)
      (parameters-if (is_parameter ms t i x) (parameter_of t.start i x) (parameter-known t.start i x x.sort parts.0))
      (parameters-known ms t (suc i) hs parts.1)

  -- ---- the statements of a window

  abbrev tree-has : Typed ℕ → Bool
  tree-has x = every (is_below n) x

  present-known : (ps : Typeds ℕ) → every_part (is_below n) ps ≡ true → list_all tree-has (present ps) ≡ true
  present-known none h = refl
  present-known (more p ps) h = let parts = and_parts (tree-has p) (every_part (is_below n) ps) h in true-both (tree-has p) (list_all tree-has (present ps)) parts.0 (present-known ps parts.1)
  present-known (skip ps) h = present-known ps h

  own-known : (b : Bool) (x : Typed ℕ) → tree-has x ≡ true → list_all tree-has (if b then x ∷ [] else []) ≡ true
  own-known true x h = true-both (tree-has x) true h refl
  own-known false x h = refl

  mutual
    lists-known : (x : Typed ℕ) → tree-has x ≡ true → list_all tree-has (statement_lists x) ≡ true
    lists-known (typed f i j l ps) h =
        all-both tree-has (own_list (typed f i j l ps)) (lists_among ps) (own-known (is_statement_list f) (typed f i j l ps) h)
        (lists-among-known ps (and_parts (known l.sort) (every_part (is_below n) ps) h).1)

    lists-among-known : (ps : Typeds ℕ) → every_part (is_below n) ps ≡ true → list_all tree-has (lists_among ps) ≡ true
    lists-among-known none h = refl
    lists-among-known (more p ps) h =
        let parts = and_parts (tree-has p) (every_part (is_below n) ps) h in
        all-both tree-has (statement_lists p) (lists_among ps) (lists-known p parts.0) (lists-among-known ps parts.1)
    lists-among-known (skip ps) h = lists-among-known ps h

  statements-known : (x : Typed ℕ) → tree-has x ≡ true → list_all tree-has (statements_of x) ≡ true
  statements-known (typed f i j l ps) h = all-drop tree-has (values_count f) (present ps) (present-known ps (and_parts (known l.sort) (every_part (is_below n) ps) h).1)

  there-known : (xs : List (Typed ℕ)) (k : ℕ) → list_all tree-has xs ≡ true → list_all tree-has (statements_in (slice_get xs k)) ≡ true
  there-known [] k h = refl
  there-known (x ∷ xs) zero h = statements-known x (and_parts (tree-has x) (list_all tree-has xs) h).0
  there-known (x ∷ xs) (suc k) h = there-known xs k (and_parts (tree-has x) (list_all tree-has xs) h).1

  row-known : (xs : List (Typed ℕ)) → list_all tree-has xs ≡ true → every_part (is_below n) (row_of xs) ≡ true
  row-known [] h = refl
  row-known (x ∷ xs) h = let parts = and_parts (tree-has x) (list_all tree-has xs) h in true-both (tree-has x) (every_part (is_below n) (row_of xs)) parts.0 (row-known xs parts.1)

  window-known : (root : Typed ℕ) (w : Window) → tree-has root ≡ true → every_part (is_below n) (window_statements root w) ≡ true
  window-known root w h =
      let xs = statements_in (slice_get (statement_lists root) w.list) in
      row-known (take w.count (drop w.first xs)) (all-take tree-has w.count (drop w.first xs) (all-drop tree-has w.first xs (there-known (statement_lists root) w.list (lists-known root h))))

  -- ---- choices

  shown-types : (hs : List (HoleParameter ℕ)) → AreBelow n (hole_types hs) → AreBelow n (map (λ (x : HandedHole ℕ). x.type) (map handed_hole hs))
  shown-types [] h = tt
  shown-types (x ∷ hs) h = (h.0, shown-types hs h.1)

  choice-known : (array : Sort ℕ → Bool) (ms : List (Member ℕ)) (t : Member ℕ) → list_all known t.locals ≡ true → every_part (is_below n) t.statements ≡ true →
      AreBelow n (handed_types (handed (choice array ms t)))
  choice-known array ms t h k =
      let c = choice array ms t in
      let free : AreBelow n (variable_types c.free) = variables-known t.locals (is_outside t) (once [] (each_local (uses_within t))) h in
      let held = shown-types c.holes (parameters-known ms t 0 (holes t) (holes-known 0 false t.statements k)) in
      let assigned : AreBelow n (variable_types c.assigned) = only-known (has (assigned_among array t.statements)) (free_locals t) free in
      let declared : AreBelow n (variable_types c.declared) = variables-known t.locals (is_needed ms t) (declared_names t) h in
      below-both n (variable_types c.free ++ map (λ (x : HandedHole ℕ). x.type) (map handed_hole c.holes)) (variable_types c.assigned ++ variable_types c.declared)
      (below-both n (variable_types c.free) (map (λ (x : HandedHole ℕ). x.type) (map handed_hole c.holes)) free held)
      (below-both n (variable_types c.assigned) (variable_types c.declared) assigned declared)

-- ---- functions of a package

func-known : (p : PackageView) → IsPackage p → (k : ℕ) (f : FuncView) → slice_get p.functions k ≡ Some f →
    (list_all (sort_has (is_below (length p.types.shapes))) f.locals ≡ true) × (every (is_below (length p.types.shapes)) (tree_of f) ≡ true)
func-known p i k f e =
    let n = length p.types.shapes in
    let all : is_known_func (counts p) n f ≡ true = all-got (is_known_func (counts p) n) p.functions k f i.known_functions e in
    parts (nat_lt f.signature n) (list_all (sort_has (is_below n)) f.locals) (every (is_below n) (tree_of f)) _ all
  where
    parts : (a b c d : Bool) → (a && b && (c && d)) ≡ true → (b ≡ true) × (c ≡ true)
    parts true true true d h = (refl, refl)
    parts true true false d h = (refl, h)
    parts true false c d h = cc
    parts false b c d h = cc

-- the types of a member's locals
pub site_known : (p : PackageView) → IsPackage p → (m : Found) → IsSound p m → (ns : List ℕ) → AllByRecursion (λ t. t < length p.types.shapes) (local_types (member_view m) ns)
site_known p i m s ns = locals-known (length p.types.shapes) (member_view m) ns (func-known p i m.window.func m.func.now s.func).0

-- the types of variables among them
pub variables_known : (p : PackageView) → IsPackage p → (m : Found) → IsSound p m → (test : ℕ → Bool) (ns : List ℕ) →
    AllByRecursion (λ t. t < length p.types.shapes) (variable_types (variables_where m.func.now.locals test ns))
variables_known p i m s test ns = variables-known (length p.types.shapes) m.func.now.locals test ns (func-known p i m.window.func m.func.now s.func).0

-- the types of what the members of a window's template hand over
pub choice_known : (p : PackageView) → IsPackage p → (w : Window) (f : FuncView) → slice_get p.functions w.func ≡ Some f → (ms : List (Member ℕ)) →
    AreKnownTypes p (handed (choice (array_in p.types) ms (member_over p.uses w f.locals f.tokens (tree_of f))))
choice_known p i w f e ms =
    let parts = func-known p i w.func f e in
    let n = length p.types.shapes in
    choice-known n (array_in p.types) ms (member_over p.uses w f.locals f.tokens (tree_of f)) parts.0 (window-known n (tree_of f) w parts.1)

pub handed_known : (p : PackageView) → IsPackage p → (w : Window) (f : FuncView) → slice_get p.functions w.func ≡ Some f → (ms : List (Member ℕ)) (h : Handed ℕ) →
    h ≡ handed (choice (array_in p.types) ms (member_over p.uses w f.locals f.tokens (tree_of f))) → AreKnownTypes p h
handed_known p i w f e ms h same = subst (AreKnownTypes p) (sym same) (choice_known p i w f e ms)

-- the types of the results that a template declares
behind : {A : Type 0} (P : A → Type 0) (xs ys : List A) → AllByRecursion P (xs ++ ys) → AllByRecursion P ys
behind P [] ys h = h
behind P (x ∷ xs) ys h = behind P xs ys h.1

pub declared_known : (p : PackageView) (h : Handed ℕ) → AreKnownTypes p h → AllByRecursion (λ t. t < length p.types.shapes) (variable_types h.declared)
declared_known p h known =
    let P : ℕ → Type 0 = λ t. t < length p.types.shapes in
    behind P (variable_types h.assigned) (variable_types h.declared) (behind P (variable_types h.free ++ map (λ x. x.type) h.holes) (variable_types h.assigned ++ variable_types h.declared) known)
