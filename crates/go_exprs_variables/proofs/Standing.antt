-- Expressions in which no variable stands: types, `nil`, predeclared functions, and constants in place of which none stands.
use Rattle.std.proofs.Common.{◌≡◌, ◌∙◌, ℕ, Bool, true, false, List, [], ◌∷◌, ◌++◌, Option, Some, None, refl, sym, ap, append_assoc, append-nil}
use Rattle.std.specs.Prelude.{◌&&◌, if◌then◌else◌}
use Rattle.go_grammar.specs.declared.kind.Kind.{Kind}
use Rattle.go_grammar.specs.declared.kind.Kind.TheVariants as kind
use Rattle.go_grammar.specs.Trees.{Tree, node, Trees, none, more, skip, kind_of}
use Rattle.go_types.specs.Trees.{TypeTree}
use Rattle.go_typed.specs.declared.form.Form.{Form}
use Rattle.go_typed.specs.Trees.{Sort, Label, Typed, typed, Typeds, sort_of, form_of, label_of, parts_of, row, list_of}
use Rattle.go_typed.specs.Trees as sort
use Rattle.go_exprs_rules.specs.Scopes.{Scope, Hint}
use Rattle.go_exprs_rules.specs.Settling.{Part, settled, all_settled, Take, stay, default, as_type, given, defaulted}
use Rattle.go_exprs_rules.specs.Sorts.{Stands, open_kind, default_type, takes_type, retyped}
use Rattle.go_exprs_rules.specs.declared.family.OpenKind.{OpenKind}
use Rattle.go_exprs_rules.specs.Tables.{Parts, hint, part_scope, held, all_held, leaf, is_type, cut, first_cut, call_parts, is_make_call, bounds_of, has_no_low, bracketed_parts, selector_parts, is_package, behind_first, layout}
use Rattle.go_exprs_rules.specs.Tables.{is_held, form_by, sort_by, takes, all_given, made, built_by, is_sound, own_faults}
use Rattle.go_exprs_rules.specs.Typing.{typing, typings}
use Rattle.clone_window.specs.Masses.{is_hole, is_inside, is_expression, is_constant_expression}
use Rattle.clone_window.specs.Masses as masses
use Rattle.go_exprs_variables.specs.Variables.{Standins, may_be_constant, Free, AllFree}
use Rattle.go_exprs_variables.proofs.Trees.{retyped_label}
use Rattle.go_exprs_variables.proofs.Same.{Kept, kept_free}
use Rattle.go_exprs_variables.proofs.Away.{Away, Clear, AllClear, clear_away}
use Rattle.go_exprs_variables.proofs.Expressing.{not_constant}

-- ---- rows of parts

abbrev pub Each : (Part → Type 0) → Parts → Type 0
Each P [] = Unit {0}
Each P (None ∷ xs) = Each P xs
Each P (Some x ∷ xs) = P x × Each P xs

pub both_each : (P : Part → Type 0) (xs ys : Parts) → Each P xs → Each P ys → Each P (xs ++ ys)
both_each P [] ys g h = h
both_each P (None ∷ xs) ys g h = both_each P xs ys g h
both_each P (Some x ∷ xs) ys g h = (g.0, both_each P xs ys g.1 h)

pub front_each : (P : Part → Type 0) (xs ys : Parts) → Each P (xs ++ ys) → Each P xs × Each P ys
front_each P [] ys h = (tt, h)
front_each P (None ∷ xs) ys h = front_each P xs ys h
front_each P (Some x ∷ xs) ys h = let both = front_each P xs ys h.1 in ((h.0, both.0), both.1)

first_each : (P : Part → Type 0) (x : Option Part) (xs : Parts) → Each P (x ∷ xs) → Each P (x ∷ []) × Each P xs
first_each P x xs h = front_each P (x ∷ []) xs h

with_each : (P : Part → Type 0) (x : Option Part) (xs : Parts) → Each P (x ∷ []) → Each P xs → Each P (x ∷ xs)
with_each P x xs g h = both_each P (x ∷ []) xs g h

-- What holds of the parts of a node holds of them as they are laid out and given types, if it does of leaves and of what takes types.
module _ (P : Part → Type 0) (settled_has : (t : TypeTree) (x : Part) → P x → P (settled t x)) (leaf_has : (x : Part) → P x → P (leaf x)) (parts_have : (x : Part) → P x → Each P (list_of (parts_of x))) where
  given_has : (k : Take) (x : Part) → P x → P (given k x)
  given_has stay x h = h
  given_has (as_type t) x h = settled_has t x h
  given_has default x h = by_kind (open_kind (sort_of x))
    where
      by_kind : (o : Option OpenKind) → P (defaulted o x)
      by_kind None = h
      by_kind (Some k) = settled_has (default_type k) x h

  pub all_given_have : (ks : List Take) (ys : Parts) → Each P ys → Each P (all_given ks ys)
  all_given_have [] ys h = h
  all_given_have (k ∷ ks) [] h = tt
  all_given_have (k ∷ ks) (None ∷ ys) h = all_given_have ks ys h
  all_given_have (k ∷ ks) (Some y ∷ ys) h = (given_has k y h.0, all_given_have ks ys h.1)

  held_has : (x : Option Part) → Each P (x ∷ []) → Each P (held x)
  held_has None h = tt
  held_has (Some x) h = by_test (is_held (form_of x))
    where
      by_test : (b : Bool) → Each P (if b then list_of (parts_of x) else Some x ∷ [])
      by_test true = parts_have x h.0
      by_test false = h

  all_held_have : (xs : Parts) → Each P xs → Each P (all_held xs)
  all_held_have [] h = tt
  all_held_have (x ∷ xs) h = let both = first_each P x xs h in both_each P (held x) (all_held xs) (held_has x both.0) (all_held_have xs both.1)

  cut_has : (x : Option Part) → Each P (x ∷ []) → Each P (cut x ∷ [])
  cut_has None h = tt
  cut_has (Some x) h = by_test (is_type (sort_of x))
    where
      by_test : (b : Bool) → Each P ((if b then Some (leaf x) else Some x) ∷ [])
      by_test true = (leaf_has x h.0, tt)
      by_test false = h

  first_cut_has : (xs : Parts) → Each P xs → Each P (first_cut xs)
  first_cut_has [] h = tt
  first_cut_has (x ∷ xs) h = let both = first_each P x xs h in with_each P (cut x) xs (cut_has x both.0) both.1

  call_has : (xs : Parts) → Each P xs → Each P (call_parts xs)
  call_has [] h = tt
  call_has (f ∷ xs) h = by_test (is_make_call (f ∷ xs))
    where
      both : Each P (f ∷ []) × Each P xs
      both = first_each P f xs h

      by_test : (b : Bool) → Each P (if b then f ∷ first_cut xs else cut f ∷ xs)
      by_test true = with_each P f (first_cut xs) both.0 (first_cut_has xs both.1)
      by_test false = with_each P (cut f) xs (cut_has f both.0) both.1

  bounds_have : (x : Option Part) → Each P (x ∷ []) → Each P (bounds_of x)
  bounds_have x h = by_test (has_no_low x)
    where
      by_test : (b : Bool) → Each P (if b then None ∷ held x else held x)
      by_test true = held_has x h
      by_test false = held_has x h

  bracketed_has : (xs : Parts) → Each P xs → Each P (bracketed_parts xs)
  bracketed_has [] h = h
  bracketed_has (x ∷ []) h = h
  bracketed_has (x ∷ y ∷ ys) h = let both = first_each P x (y ∷ ys) h in with_each P x (bounds_of y) both.0 (bounds_have y (first_each P y ys both.1).0)

  selector_has : (xs : Parts) → Each P xs → Each P (selector_parts xs)
  selector_has [] h = h
  selector_has (None ∷ xs) h = h
  selector_has (Some x ∷ y ∷ ys) h = h
  selector_has (Some x ∷ []) h = by_test (is_package (sort_of x))
    where
      by_test : (b : Bool) → Each P (if b then [] else Some x ∷ [])
      by_test true = tt
      by_test false = h

  behind_has : (xs : Parts) → Each P xs → Each P (behind_first xs)
  behind_has [] h = tt
  behind_has (x ∷ xs) h = (first_each P x xs h).1

  pub layout_has : (k : Kind) (xs : Parts) → Each P xs → Each P (layout k xs)
  layout_has kind.Selector xs h = selector_has xs h
  layout_has kind.Bracketed xs h = bracketed_has xs h
  layout_has kind.Call xs h = call_has xs h
  layout_has kind.Composite xs h = first_cut_has xs h
  layout_has kind.LiteralValue xs h = h
  layout_has kind.Keyed xs h = behind_has xs h
  layout_has kind.Fields xs h = all_held_have xs h
  layout_has kind.StructType xs h = all_held_have xs h
  layout_has k xs h = h

-- ---- parts behind those that are typed

abbrev pub part_of : Scope → Kind → Hint → Trees → Parts → Tree → Part
part_of s k h all xs p = typing (part_scope s k xs) (hint s k h all xs (kind_of p)) p

abbrev pub behind : Scope → Kind → Hint → Trees → Parts → Trees → Parts
behind s k h all xs none = []
behind s k h all xs (more p ps) = Some (part_of s k h all xs p) ∷ behind s k h all (xs ++ Some (part_of s k h all xs p) ∷ []) ps
behind s k h all xs (skip ps) = None ∷ behind s k h all (xs ++ None ∷ []) ps

pub typings_are : (s : Scope) (k : Kind) (h : Hint) (all : Trees) (xs : Parts) (ps : Trees) → typings s k h all xs ps ≡ xs ++ behind s k h all xs ps
typings_are s k h all xs none = sym (append-nil xs)
typings_are s k h all xs (more p ps) =
    let x : Option Part = Some (part_of s k h all xs p) in typings_are s k h all (xs ++ x ∷ []) ps ∙ append_assoc xs (x ∷ []) (behind s k h all (xs ++ x ∷ []) ps)
typings_are s k h all xs (skip ps) = typings_are s k h all (xs ++ None ∷ []) ps ∙ append_assoc xs (None ∷ []) (behind s k h all (xs ++ None ∷ []) ps)

module _ (w : Standins) where
  -- ---- trees at whose expressions no variable stands

  pub clear_node : (f : Form) (i j : ℕ) (x : Stands) (ys zs : Parts) → ((is_expression f && masses.is_constant x) ≡ true → w i ≡ None) → Each (Clear w) zs → Clear w (made f i j x ys zs)
  clear_node f i j x ys zs h each = (h, rows zs each)
    where
      rows : (zs : Parts) → Each (Clear w) zs → AllClear w (row zs)
      rows [] h = tt
      rows (None ∷ zs) h = rows zs h
      rows (Some z ∷ zs) h = (h.0, rows zs h.1)

  same_constant : (t : TypeTree) (z : Stands) → masses.is_constant (retyped t z) ≡ masses.is_constant z
  same_constant t (sort.Open u) = refl
  same_constant t sort.Nil = refl
  same_constant t (sort.OpenConstant c) = refl
  same_constant t z = refl

  clear_by : (t : TypeTree) (b : Bool) (f : Form) (i j : ℕ) (l : Label TypeTree) (ps : Typeds TypeTree) → (is_constant_expression f l ≡ true → w i ≡ None) → AllClear w ps → AllClear w (all_settled t ps)
      → Clear w (if b then typed f i j (retyped_label t l) (all_settled t ps) else typed f i j l ps)
  clear_by t true f i j l ps h g k = ((λ e. h (ap (λ b. is_expression f && b) (sym (same_constant t l.sort)) ∙ e)), k)
  clear_by t false f i j l ps h g k = (h, g)

  mutual
    pub clear_settled : (t : TypeTree) (x : Part) → Clear w x → Clear w (settled t x)
    clear_settled t (typed f i j l ps) h = clear_by t (takes_type l.sort) f i j l ps h.0 h.1 (all_clear_settled t ps h.1)

    all_clear_settled : (t : TypeTree) (ps : Typeds TypeTree) → AllClear w ps → AllClear w (all_settled t ps)
    all_clear_settled t sort.none h = tt
    all_clear_settled t (sort.more p ps) h = (clear_settled t p h.0, all_clear_settled t ps h.1)
    all_clear_settled t (sort.skip ps) h = all_clear_settled t ps h

  pub clear_leaf : (x : Part) → Clear w x → Clear w (leaf x)
  clear_leaf (typed f i j l ps) h = ((λ e. cc), tt)

  pub clear_parts : (x : Part) → Clear w x → Each (Clear w) (list_of (parts_of x))
  clear_parts (typed f i j l ps) h = lists ps h.1
    where
      lists : (ps : Typeds TypeTree) → AllClear w ps → Each (Clear w) (list_of ps)
      lists sort.none h = tt
      lists (sort.more p ps) h = (h.0, lists ps h.1)
      lists (sort.skip ps) h = lists ps h

  differ : {X : Type 0} (b : Bool) → b ≡ false → b ≡ true → X
  differ true e f = cc
  differ false e f = cc

  clear_built : (s : Scope) (k : Kind) (h : Hint) (i j : ℕ) (ys : Parts) (b c : Bool) → may_be_constant k ≡ c → (may_be_constant k ≡ true → w i ≡ None) → Each (Clear w) ys → Clear w (built_by s k h i j ys b)
  clear_built s k h i j ys true true e free each =
      clear_node (form_by s k h i j ys) i j (sort_by s k h i j ys) ys (all_given (takes s k h ys) ys) (λ m. free e) (all_given_have (Clear w) clear_settled clear_leaf clear_parts (takes s k h ys) ys each)
  clear_built s k h i j ys false true e free each = clear_node (form_by s k h i j ys) i j sort.Unknown ys ys (λ m. free e) each
  clear_built s k h i j ys true false e free each =
      clear_node (form_by s k h i j ys) i j (sort_by s k h i j ys) ys (all_given (takes s k h ys) ys) (λ m. differ (is_expression (form_by s k h i j ys) && masses.is_constant (sort_by s k h i j ys)) (not_constant s k h i j ys true e) m)
      (all_given_have (Clear w) clear_settled clear_leaf clear_parts (takes s k h ys) ys each)
  clear_built s k h i j ys false false e free each = clear_node (form_by s k h i j ys) i j sort.Unknown ys ys (λ m. differ (is_expression (form_by s k h i j ys) && false) (not_constant s k h i j ys false e) m) each

  mutual
    pub typing_clear : (s : Scope) (h : Hint) (x : Tree) → Free w x → Clear w (typing s h x)
    typing_clear s h (node k i j ps) e =
        let ys = layout k (typings s k h ps [] ps) in
        clear_built s k h i j ys (is_sound k ys (own_faults s k h i j ys)) (may_be_constant k) refl e.0 (layout_has (Clear w) clear_settled clear_leaf clear_parts k (typings s k h ps [] ps) (parts_clear s k h ps [] ps e.1 tt))

    pub parts_clear : (s : Scope) (k : Kind) (h : Hint) (all : Trees) (xs : Parts) (ps : Trees) → AllFree w ps → Each (Clear w) xs → Each (Clear w) (typings s k h all xs ps)
    parts_clear s k h all xs none e each = each
    parts_clear s k h all xs (skip ps) e each = parts_clear s k h all (xs ++ None ∷ []) ps e (both_each (Clear w) xs (None ∷ []) each tt)
    parts_clear s k h all xs (more p ps) e each =
        parts_clear s k h all (xs ++ Some (part_of s k h all xs p) ∷ []) ps e.1
        (both_each (Clear w) xs (Some (part_of s k h all xs p) ∷ []) each (typing_clear (part_scope s k xs) (hint s k h all xs (kind_of p)) p e.0, tt))

  -- ---- where none stands at a tree nor in it

  -- The tree is typed as before, and stands as it was typed.
  abbrev pub Still : Scope → Hint → Tree → Type 0
  Still s h x = Kept w x × Away w false (typing s h x)

  pub still_free : (s : Scope) (h : Hint) (x : Tree) → Free w x → Still s h x
  still_free s h x e = (kept_free w x e, clear_away w false (typing s h x) (typing_clear s h x e))
