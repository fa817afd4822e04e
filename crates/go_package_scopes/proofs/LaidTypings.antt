-- The nodes of a typed expression lie as those of its tree do.
use Rattle.std.proofs.Common.{◌≡◌, ℕ, ◌<◌, ◌≤◌, Bool, true, false, List, [], ◌∷◌, ◌++◌, Option, Some, None, refl, sym, subst, arith}
use Rattle.std.specs.Prelude.{◌-◌}
use Rattle.go_grammar.specs.declared.kind.Kind.{Kind}
use Rattle.go_grammar.specs.declared.kind.Kind.TheVariants as kind
use Rattle.go_grammar.specs.Trees.{Tree, node, Trees, kind_of, first, last}
use Rattle.go_grammar.specs.Trees as syntax
use Rattle.go_tree.specs.Views.{Tiles}
use Rattle.go_tree.specs.declared.context.Scope.{Scope as Extent}
use Rattle.go_tree.specs.declared.object.Object.{Object}
use Rattle.go_tree.specs.declared.object.Object.TheVariants as object
use Rattle.go_types.specs.Trees.{TypeTree}
use Rattle.go_types.specs.Relations.{Rights}
use Rattle.go_typed.specs.declared.form.Form.{Form}
use Rattle.go_typed.specs.declared.form.Form.TheVariants as form
use Rattle.go_typed.specs.Trees.{Label, typed, Typeds, row, first_of, last_of, sort_of}
use Rattle.go_typed.specs.Trees as trees
use Rattle.go_exprs_rules.specs.Names.{object_form, declared_form, form_or_type, name_form, name_sort}
use Rattle.go_exprs_rules.specs.Scopes.{Scope, Hint, member, declares, free}
use Rattle.go_exprs_rules.specs.Settling.{Part, Take}
use Rattle.go_exprs_rules.specs.Sorts.{Stands}
use Rattle.go_exprs_rules.specs.Tables.{Parts, is_make, hint, part_scope, held, cut, first_cut, call_parts, has_no_low, bounds_of, bracketed_parts, is_package, selector_parts}
use Rattle.go_exprs_rules.specs.Tables.{layout, callee_form, key_form, selector_form, bracketed_form, on_first, form_by, takes, all_given, own_faults, is_sound, built_by, label, sort_by}
use Rattle.go_exprs_rules.specs.Typing.{typing, typings}
use Rattle.go_stmts_scopes.specs.Standing.{room_in}
use Rattle.go_package_scopes.specs.Laid.{is_shut, NameHasRoom, Laid, AllLaid}
use Rattle.go_package_scopes.proofs.Laid.{either_parts, unless_there, last_given, given_laid, EachLaid, each_wider, each_order, append_laid, one_laid, row_laid, held_laid, all_held_laid, behind_laid, first_cut_laid, wider}
use Rattle.go_package_scopes.proofs.Ranges.{Set, AllSet, tiles_order}

-- ---- forms of which the parts have another room

abbrev pub moves : Form → Bool
moves (form.Define n) = true
moves (form.Specified n) = true
moves (form.Range d n) = true
moves form.Block = true
moves form.If = true
moves form.Switch = true
moves (form.Case n) = true
moves form.Default = true
moves form.For = true
moves f = false

pub stays : (r : Extent) (f : Form) (i j : ℕ) (ps : Typeds TypeTree) → moves f ≡ false → room_in r f i j ps ≡ r
stays r (form.Define n) i j ps e = absurd (let z : true ≡ false = e in cc)
stays r (form.Specified n) i j ps e = absurd (let z : true ≡ false = e in cc)
stays r (form.Range d n) i j ps e = absurd (let z : true ≡ false = e in cc)
stays r form.Block i j ps e = absurd (let z : true ≡ false = e in cc)
stays r form.If i j ps e = absurd (let z : true ≡ false = e in cc)
stays r form.Switch i j ps e = absurd (let z : true ≡ false = e in cc)
stays r (form.Case n) i j ps e = absurd (let z : true ≡ false = e in cc)
stays r form.Default i j ps e = absurd (let z : true ≡ false = e in cc)
stays r form.For i j ps e = absurd (let z : true ≡ false = e in cc)
stays r f i j ps e = refl

object_stays : (s : Scope) (x : Option Object) → moves (object_form s x) ≡ false
object_stays s None = refl
object_stays s (Some object.Import) = refl
object_stays s (Some (object.Predeclared p)) = refl
object_stays s (Some (object.Package n)) = refl
object_stays s (Some (object.Local f n)) = refl

pub declared_stays : (s : Scope) (x : Option Object) → moves (declared_form s x) ≡ false
declared_stays s None = refl
declared_stays s (Some object.Import) = refl
declared_stays s (Some (object.Predeclared p)) = refl
declared_stays s (Some (object.Package n)) = refl
declared_stays s (Some (object.Local f n)) = refl

type_stays : (x : Stands) (f : Form) → moves f ≡ false → moves (form_or_type x f) ≡ false
type_stays (trees.IsType t) f e = refl
type_stays x f e = e

name_stays : (s : Scope) (h : Hint) (i : ℕ) → moves (name_form s h i) ≡ false
name_stays s declares i = declared_stays s (s.objects i)
name_stays s free i = declared_stays s (s.objects i)
name_stays s h i = type_stays (name_sort s h i) (object_form s (s.objects i)) (object_stays s (s.objects i))

selector_stays : (rights : Rights) (name : List ℕ) (ys : Parts) → moves (selector_form rights name ys) ≡ false
selector_stays rights name [] = refl
selector_stays rights name (Some x ∷ []) = refl
selector_stays rights name (None ∷ xs) = refl
selector_stays rights name (Some x ∷ y ∷ xs) = refl

bracketed_stays : (ys : Parts) → moves (bracketed_form ys) ≡ false
bracketed_stays [] = refl
bracketed_stays (x ∷ []) = refl
bracketed_stays (x ∷ y ∷ []) = refl
bracketed_stays (x ∷ y ∷ z ∷ xs) = refl

callee_stays : (x : Stands) → moves (callee_form x) ≡ false
callee_stays (trees.IsType t) = refl
callee_stays x = refl

call_stays : (ys : Parts) → moves (on_first form.Call (λ f xs. callee_form (sort_of f)) ys) ≡ false
call_stays [] = refl
call_stays (None ∷ xs) = refl
call_stays (Some x ∷ xs) = callee_stays (sort_of x)

key_stays : (rights : Rights) (h : Hint) (name : List ℕ) → moves (key_form rights h name) ≡ false
key_stays rights (member t) name = refl
key_stays rights h name = refl

form_stays : (s : Scope) (k : Kind) (h : Hint) (i j : ℕ) (ys : Parts) → moves (form_by s k h i j ys) ≡ false
form_stays s kind.Name h i j ys = name_stays s h i
form_stays s kind.Selector h i j ys = selector_stays s.rights (s.texts (j - 1)) ys
form_stays s kind.Bracketed h i j ys = bracketed_stays ys
form_stays s kind.Call h i j ys = call_stays ys
form_stays s kind.Keyed h i j ys = key_stays s.rights h (s.texts i)
form_stays s k h i j ys = refl

-- ---- tokens

pub typing_first : (s : Scope) (h : Hint) (t : Tree) → first_of (typing s h t) ≡ first t
typing_first s h (node k i j ps) = let ys : Parts = layout k (typings s k h ps [] ps) in by ys (is_sound k ys (own_faults s k h i j ys))
  where
    by : (ys : Parts) (b : Bool) → first_of (built_by s k h i j ys b) ≡ i
    by ys true = refl
    by ys false = refl

pub typing_last : (s : Scope) (h : Hint) (t : Tree) → last_of (typing s h t) ≡ last t
typing_last s h (node k i j ps) = let ys : Parts = layout k (typings s k h ps [] ps) in by ys (is_sound k ys (own_faults s k h i j ys))
  where
    by : (ys : Parts) (b : Bool) → last_of (built_by s k h i j ys b) ≡ j
    by ys true = refl
    by ys false = refl

module _ (D : Extent → ℕ → Type 0) (r : Extent) where
  -- each name that is declared at one of the tokens from i up to j has the property
  abbrev pub Quiet : (i j : ℕ) → Type 0
  Quiet i j = (n : ℕ) → i ≤ n → n < j → D r n

  pub quieter : (i j k l : ℕ) → i ≤ k → l ≤ j → Quiet i j → Quiet k l
  quieter i j k l u v q n w x = q n (omega (arith, u, w)) (omega (arith, v, x))

  pub has_room : (f : Form) (i : ℕ) → D r i → NameHasRoom D r f i
  has_room (form.New k) i h = h
  has_room (form.Declared k) i h = h
  has_room f i h = tt

  abbrev Each : (a b : ℕ) → Parts → Type 0
  Each a b xs = EachLaid D r a b xs

  -- ---- parts

  all_given_laid : (ks : List Take) (a b : ℕ) (xs : Parts) → Each a b xs → Each a b (all_given ks xs)
  all_given_laid [] a b xs h = h
  all_given_laid (k ∷ ks) a b [] h = h
  all_given_laid (k ∷ ks) a b (None ∷ xs) h = all_given_laid ks a b xs h
  all_given_laid (k ∷ ks) a b (Some x ∷ xs) h = (given_laid D k r a b x h.0, subst (λ m. Each m b (all_given ks xs)) (sym (last_given k x)) (all_given_laid ks (last_of x) b xs h.1))

  call_laid : (a b : ℕ) (xs : Parts) → Each a b xs → Each a b (call_parts xs)
  call_laid a b [] h = h
  call_laid a b (None ∷ xs) h = h
  call_laid a b (Some f ∷ xs) h =
      either_parts (Each a b) (is_make (sort_of f)) (Some f ∷ first_cut xs) (cut (Some f) ∷ xs) (h.0, first_cut_laid D r (last_of f) b xs h.1) (first_cut_laid D r a b (Some f ∷ xs) h)

  selector_laid : (a b : ℕ) (xs : Parts) → Each a b xs → Each a b (selector_parts xs)
  selector_laid a b [] h = h
  selector_laid a b (None ∷ xs) h = h
  selector_laid a b (Some x ∷ []) h = either_parts (Each a b) (is_package (sort_of x)) [] (Some x ∷ []) (each_order D r a b (Some x ∷ []) h) h
  selector_laid a b (Some x ∷ y ∷ xs) h = h

  bounds_laid : (a b : ℕ) (x : Part) → Laid D r a b x → Each a b (bounds_of (Some x))
  bounds_laid a b x h = either_parts (Each a b) (has_no_low (Some x)) (None ∷ held (Some x)) (held (Some x)) (held_laid D r a b x h) (held_laid D r a b x h)

  bracketed_laid : (a b : ℕ) (xs : Parts) → Each a b xs → Each a b (bracketed_parts xs)
  bracketed_laid a b [] h = h
  bracketed_laid a b (x ∷ []) h = h
  bracketed_laid a b (None ∷ None ∷ ys) h = each_order D r a b ys h
  bracketed_laid a b (None ∷ Some y ∷ ys) h = bounds_laid a b y h.0
  bracketed_laid a b (Some x ∷ None ∷ ys) h = (h.0, each_order D r (last_of x) b ys h.1)
  bracketed_laid a b (Some x ∷ Some y ∷ ys) h = (h.0, bounds_laid (last_of x) b y h.1.0)

  layout_laid : (k : Kind) (a b : ℕ) (xs : Parts) → Each a b xs → Each a b (layout k xs)
  layout_laid kind.Selector a b xs h = selector_laid a b xs h
  layout_laid kind.Bracketed a b xs h = bracketed_laid a b xs h
  layout_laid kind.Call a b xs h = call_laid a b xs h
  layout_laid kind.Composite a b xs h = first_cut_laid D r a b xs h
  layout_laid kind.LiteralValue a b xs h = h
  layout_laid kind.Keyed a b xs h = behind_laid D r a b xs h
  layout_laid kind.Fields a b xs h = all_held_laid D r a b xs h
  layout_laid kind.StructType a b xs h = all_held_laid D r a b xs h
  layout_laid k a b xs h = h

  -- ---- a node

  -- a node of which the parts lie in the room that it gives them
  pub node_laid : (f : Form) (i j : ℕ) (l : Label TypeTree) (ps : Typeds TypeTree) → i < j → D r i → AllLaid D (room_in r f i j ps) i j ps → Laid D r i j (typed f i j l ps)
  node_laid f i j l ps u d h = (omega arith, u, omega arith, has_room f i d, unless_there (is_shut f) (AllLaid D (room_in r f i j ps) i j ps) h)

  still_laid : (f : Form) (i j : ℕ) (l : Label TypeTree) (xs : Parts) → moves f ≡ false → i < j → D r i → Each i j xs → Laid D r i j (typed f i j l (row xs))
  still_laid f i j l xs e u d h = node_laid f i j l (row xs) u d (subst (λ z. AllLaid D z i j (row xs)) (sym (stays r f i j (row xs) e)) (row_laid D r i j xs h))

  built_laid : (s : Scope) (k : Kind) (h : Hint) (i j : ℕ) (ys : Parts) (b : Bool) → i < j → D r i → Each i j ys → Laid D r i j (built_by s k h i j ys b)
  built_laid s k h i j ys true u d g = still_laid (form_by s k h i j ys) i j (label (form_by s k h i j ys) (sort_by s k h i j ys) ys) (all_given (takes s k h ys) ys) (form_stays s k h i j ys) u d (all_given_laid (takes s k h ys) i j ys g)
  built_laid s k h i j ys false u d g = still_laid (form_by s k h i j ys) i j (label (form_by s k h i j ys) trees.Unknown ys) ys (form_stays s k h i j ys) u d g

  -- ---- trees

  mutual
    pub typing_laid : (s : Scope) (h : Hint) (t : Tree) → Set t → Quiet (first t) (last t) → Laid D r (first t) (last t) (typing s h t)
    typing_laid s h (node k i j ps) g q =
        let ys : Parts = layout k (typings s k h ps [] ps) in
        let u : i ≤ i = omega arith in
        built_laid s k h i j ys (is_sound k ys (own_faults s k h i j ys)) g.0 (q i u g.0) (layout_laid k i j (typings s k h ps [] ps) (typings_laid s k h ps [] ps i i j u g.1 g.2 q))

    typings_laid : (s : Scope) (k : Kind) (h : Hint) (all : Trees) (xs : Parts) (ps : Trees) (a m j : ℕ) → Each a m xs → Tiles m j ps → AllSet ps → Quiet m j → Each a j (typings s k h all xs ps)
    typings_laid s k h all xs syntax.none a m j g t u q = each_wider D r a m a j xs (omega arith) t g
    typings_laid s k h all xs (syntax.more p ps) a m j g t u q =
        let x : Part = typing (part_scope s k xs) (hint s k h all xs (kind_of p)) p in
        let e : last p ≤ j = tiles_order (last p) j ps t.2 in
        let n : Laid D r (first p) (last p) x = typing_laid (part_scope s k xs) (hint s k h all xs (kind_of p)) p u.0 (quieter m j (first p) (last p) t.0 e q) in
        let w : Laid D r m (last p) x = wider D r (first p) (last p) m (last p) x t.0 (omega arith) n in
        typings_laid s k h all (xs ++ Some x ∷ []) ps a (last p) j (append_laid D r a m (last p) xs (Some x ∷ []) g (one_laid D r m (last p) x w)) t.2 u.1
        (quieter m j (last p) j (omega (arith, t.0, t.1)) (omega arith) q)
    typings_laid s k h all xs (syntax.skip ps) a m j g t u q =
        let v : m ≤ m = omega arith in typings_laid s k h all (xs ++ None ∷ []) ps a m j (append_laid D r a m m xs (None ∷ []) g v) t u q
