-- Constant expressions in place of which no variable stands: none stands in them.
use Rattle.std.proofs.Common.{◌≡◌, ◌∙◌, ℕ, Bool, true, false, List, [], ◌∷◌, ◌++◌, Option, Some, None, refl, sym, ap, subst}
use Rattle.std.specs.Prelude.{◌&&◌, ◌||◌, if◌then◌else◌, is_some, nat_eq}
use Rattle.std.proofs.lemmas.Bool.{eq-eqb}
use Rattle.go_grammar.specs.declared.kind.Category.{Category}
use Rattle.go_grammar.specs.declared.kind.Category.TheVariants as category
use Rattle.go_grammar.specs.declared.kind.Kind.{Kind}
use Rattle.go_grammar.specs.declared.kind.Kind.TheVariants as kind
use Rattle.go_grammar.specs.declared.kind.Level.TheVariants as level
use Rattle.go_grammar.specs.declared.kind.Place.{Place}
use Rattle.go_grammar.specs.declared.kind.Place.TheVariants as place
use Rattle.go_grammar.specs.Categories.{place_of, is_literal_type}
use Rattle.go_grammar.specs.Grammar.{rule}
use Rattle.go_grammar.specs.Rules.{Items, Rule, End, Then, Maybe, Unless, Many, item}
use Rattle.go_grammar.specs.Trees.{Tree, node, Trees, none, more, skip, kind_of}
use Rattle.go_tokens.specs.declared.token.TokenKind.{TokenKind}
use Rattle.go_types.specs.Trees.{TypeTree}
use Rattle.go_types.specs.Relations.{Rights}
use Rattle.go_typed.specs.declared.form.Form.{Form}
use Rattle.go_typed.specs.Trees.{Sort, Label, Typed, typed, Typeds, sort_of, form_of, label_of, parts_of, first_of, last_of, row, list_of}
use Rattle.go_typed.specs.Trees as sort
use Rattle.go_exprs_rules.specs.Scopes.{Scope, Hint}
use Rattle.go_exprs_rules.specs.Settling.{Part, settled, all_settled, Take, stay, default, as_type, given, defaulted}
use Rattle.go_exprs_rules.specs.Sorts.{Stands, open_kind, default_type, takes_type}
use Rattle.go_exprs_rules.specs.declared.family.OpenKind.{OpenKind}
use Rattle.go_exprs_rules.specs.Tables.{Parts, hint, part_scope, held, all_held, leaf, is_type, cut, first_cut, is_make, bounds_of, has_no_low, selector_parts, is_package, layout}
use Rattle.go_exprs_rules.specs.Tables.{is_held, form_by, takes, all_given, built_by, is_sound, own_faults}
use Rattle.go_exprs_rules.specs.Typing.{typing, typings}
use Rattle.clone_window.specs.Masses.{is_hole, is_inside, is_expression, is_constant_expression}
use Rattle.clone_window.specs.Masses as masses
use Rattle.go_exprs_variables.specs.Shapes.{IsShaped, AreShaped}
use Rattle.go_exprs_variables.specs.Variables as variables
use Rattle.go_exprs_variables.specs.Variables.{Standin, Standins, ends_at, at_hole, may_be_constant, expresses, NameFree, PartsFree, Stays, ProperNode, Proper, AllProper, IsFit, FitsAt, Fits, AllFit, WillFit}
use Rattle.go_exprs_variables.proofs.Trees.{retyped_label, hole_kept, inside_kept}
use Rattle.go_exprs_variables.proofs.Begun.{settled_is, open_takes, there}
use Rattle.go_exprs_variables.proofs.Same.{Kept, AllKept, kept_free, all_kept_free}
use Rattle.go_exprs_variables.proofs.Away.{Away, AllAway, all_away_inside}
use Rattle.go_exprs_variables.proofs.Expressing.{is_asking, not_constant, expressed, form_unheld}
use Rattle.go_exprs_variables.proofs.Standing.{Each, front_each, part_of, behind, typings_are, Still}
use Rattle.go_exprs_variables.proofs.Named.{is_operand, is_named, expression_operand, named_rest}

literal_operand : (p : Place) (k : Kind) → is_literal_type p k ≡ true → is_operand k ≡ true
literal_operand place.Free kind.Name e = refl
literal_operand place.Header kind.Name e = refl
literal_operand p kind.SequenceType e = refl
literal_operand p kind.StructType e = refl
literal_operand place.Free k e = cc
literal_operand place.Header k e = cc

pub literal_type_operand : (p : Place) (x : Tree) → IsShaped (category.LiteralType p) x → is_operand (kind_of x) ≡ true
literal_type_operand p (node k i j ps) e = literal_operand p k e.0

constant_expresses : (k : Kind) → may_be_constant k ≡ true → expresses k ≡ true
constant_expresses kind.Name e = refl
constant_expresses kind.Integer e = refl
constant_expresses kind.Rune e = refl
constant_expresses kind.Text e = refl
constant_expresses kind.Parenthesized e = refl
constant_expresses (kind.Unary o) e = refl
constant_expresses (kind.Binary o) e = refl
constant_expresses kind.Call e = refl
constant_expresses k e = cc

module _ (w : Standins) where
  abbrev mutual
    -- At the last tokens of the nodes that hold no parts of another one no variable ends that stands at their first ones.
    pub Unended : Part → Type 0
    Unended (typed f i j l ps) = (is_held f ≡ false → ends_at (w i) j ≡ false) × AllUnended ps

    pub AllUnended : Typeds TypeTree → Type 0
    AllUnended sort.none = Unit {0}
    AllUnended (sort.more p ps) = Unended p × AllUnended ps
    AllUnended (sort.skip ps) = AllUnended ps

  rows_back : (zs : Parts) → AllUnended (row zs) → Each Unended zs
  rows_back [] h = tt
  rows_back (None ∷ zs) h = rows_back zs h
  rows_back (Some z ∷ zs) h = (h.0, rows_back zs h.1)

  unended_by : (t : TypeTree) (b : Bool) (f : Form) (i j : ℕ) (l : Label TypeTree) (ps : Typeds TypeTree) → (AllUnended (all_settled t ps) → AllUnended ps) → Unended (if b then typed f i j (retyped_label t l) (all_settled t ps) else typed f i j l ps) → Unended (typed f i j l ps)
  unended_by t true f i j l ps back h = (h.0, back h.1)
  unended_by t false f i j l ps back h = h

  mutual
    unended_back : (t : TypeTree) (x : Part) → Unended (settled t x) → Unended x
    unended_back t (typed f i j l ps) h = unended_by t (takes_type l.sort) f i j l ps (λ g. all_unended_back t ps g) h

    all_unended_back : (t : TypeTree) (ps : Typeds TypeTree) → AllUnended (all_settled t ps) → AllUnended ps
    all_unended_back t sort.none h = tt
    all_unended_back t (sort.more p ps) h = (unended_back t p h.0, all_unended_back t ps h.1)
    all_unended_back t (sort.skip ps) h = all_unended_back t ps h

  given_back : (k : Take) (x : Part) → Unended (given k x) → Unended x
  given_back stay x h = h
  given_back (as_type t) x h = unended_back t x h
  given_back default x h = by_kind (open_kind (sort_of x)) h
    where
      by_kind : (o : Option OpenKind) → Unended (defaulted o x) → Unended x
      by_kind None g = g
      by_kind (Some k) g = unended_back (default_type k) x g

  all_given_back : (ks : List Take) (ys : Parts) → Each Unended (all_given ks ys) → Each Unended ys
  all_given_back [] ys h = h
  all_given_back (k ∷ ks) [] h = tt
  all_given_back (k ∷ ks) (None ∷ ys) h = all_given_back ks ys h
  all_given_back (k ∷ ks) (Some y ∷ ys) h = (given_back k y h.0, all_given_back ks ys h.1)

  held_back : (x : Option Part) → Each Unended (held x) → Each Unended (x ∷ [])
  held_back None h = tt
  held_back (Some (typed f i j l ps)) h = by_test (is_held f) refl h
    where
      lists : (ps : Typeds TypeTree) → Each Unended (list_of ps) → AllUnended ps
      lists sort.none h = tt
      lists (sort.more p ps) h = (h.0, lists ps h.1)
      lists (sort.skip ps) h = lists ps h

      differ : {X : Type 0} (b : Bool) → b ≡ true → b ≡ false → X
      differ true e f = cc
      differ false e f = cc

      by_test : (b : Bool) → is_held f ≡ b → Each Unended (if b then list_of ps else Some (typed f i j l ps) ∷ []) → Each Unended (Some (typed f i j l ps) ∷ [])
      by_test true e g = (((λ m. differ (is_held f) e m), lists ps g), tt)
      by_test false e g = g

  first_back : (x : Option Part) (xs : Parts) → Each Unended (x ∷ []) → Each Unended xs → Each Unended (x ∷ xs)
  first_back None xs g h = h
  first_back (Some x) xs g h = (g.0, h)

  all_held_back : (xs : Parts) → Each Unended (all_held xs) → Each Unended xs
  all_held_back [] h = tt
  all_held_back (x ∷ xs) h = let both = front_each Unended (held x) (all_held xs) h in first_back x xs (held_back x both.0) (all_held_back xs both.1)

  bounds_back : (x : Option Part) → Each Unended (bounds_of x) → Each Unended (x ∷ [])
  bounds_back x h = by_test (has_no_low x) h
    where
      by_test : (b : Bool) → Each Unended (if b then None ∷ held x else held x) → Each Unended (x ∷ [])
      by_test true g = held_back x g
      by_test false g = held_back x g

  built_back : (s : Scope) (k : Kind) (h : Hint) (i j : ℕ) (ys : Parts) (b : Bool) → Unended (built_by s k h i j ys b) → (is_held (form_by s k h i j ys) ≡ false → ends_at (w i) j ≡ false) × Each Unended ys
  built_back s k h i j ys true u = (u.0, all_given_back (takes s k h ys) ys (rows_back (all_given (takes s k h ys) ys) u.1))
  built_back s k h i j ys false u = (u.0, rows_back ys u.1)

  -- ---- inside a constant expression none ends

  by_standin : (f : Form) (i j : ℕ) (l : Label TypeTree) (o : Option Standin) → w i ≡ o → FitsAt w true f i j l → ends_at o j ≡ false
  by_standin f i j l None e fit = refl
  by_standin f i j l (Some v) e fit = by_test (nat_eq v.upto j) refl
    where
      by_test : (b : Bool) → nat_eq v.upto j ≡ b → b ≡ false
      by_test false g = refl
      by_test true g = let hole : false ≡ true = (fit v e (ap (λ c. c || false) g)).hole in cc

  mutual
    fits_unended : (x : Part) → Fits w true x → Unended x
    fits_unended (typed f i j l ps) h = ((λ e. by_standin f i j l (w i) refl h.0), all_fit_unended ps h.2)

    all_fit_unended : (ps : Typeds TypeTree) → AllFit w true ps → AllUnended ps
    all_fit_unended sort.none h = tt
    all_fit_unended (sort.more p ps) h = (fits_unended p h.0, all_fit_unended ps h.1)
    all_fit_unended (sort.skip ps) h = all_fit_unended ps h

  -- ---- trees

  stays_by : (s : Scope) (h : Hint) (k : Kind) (i j : ℕ) (ys : Parts) (b : Bool) → may_be_constant k ≡ b → (is_held (form_by s k h i j ys) ≡ false → ends_at (w i) j ≡ false) → (may_be_constant k && ends_at (w i) j) ≡ false
  stays_by s h k i j ys true e f = ap (λ z. may_be_constant k && z) (f (form_unheld s k h i j ys (constant_expresses k e))) ∙ ap (λ z. z && false) e
  stays_by s h k i j ys false e f = ap (λ z. z && ends_at (w i) j) e

  first_token : (s : Scope) (h : Hint) (k : Kind) (i j : ℕ) (ys : Parts) (b : Bool) → (first_of (built_by s k h i j ys b) ≡ i) × (last_of (built_by s k h i j ys b) ≡ j)
  first_token s h k i j ys true = (refl, refl)
  first_token s h k i j ys false = (refl, refl)

  leaf_ends : (x : Part) → Unended (leaf x) → ends_at (w (first_of x)) (last_of x) ≡ false
  leaf_ends (typed f i j l ps) u = u.0 refl

  leaf_stays : (s : Scope) (h : Hint) (x : Tree) → Unended (leaf (typing s h x)) → Stays w x
  leaf_stays s h (node k i j ps) u =
      let ys = layout k (typings s k h ps [] ps) in
      let at = first_token s h k i j ys (is_sound k ys (own_faults s k h i j ys)) in
      let ends : ends_at (w i) j ≡ false = ap (λ z. ends_at (w z) j) (sym at.0) ∙ ap (λ z. ends_at (w (first_of (typing s h (node k i j ps)))) z) (sym at.1) ∙ leaf_ends (typing s h (node k i j ps)) u in
      ap (λ z. may_be_constant k && z) ends ∙ and_false (may_be_constant k)
    where
      and_false : (b : Bool) → (b && false) ≡ false
      and_false true = refl
      and_false false = refl

  type_named : (z : Stands) → is_type z ≡ true → is_named z ≡ true
  type_named (sort.IsType t) e = refl
  type_named z e = cc

  -- a part that may be cut
  cut_kept : (s : Scope) (h : Hint) (c : Category) (x : Tree) → IsShaped c x → is_operand (kind_of x) ≡ true → Proper w x → (Unended (typing s h x) → Kept w x) → Each Unended (cut (Some (typing s h x)) ∷ []) → Kept w x
  cut_kept s h c x e o p kept u = by_test (is_type (sort_of (typing s h x))) refl u
    where
      by_test : (b : Bool) → is_type (sort_of (typing s h x)) ≡ b → Each Unended ((if b then Some (leaf (typing s h x)) else Some (typing s h x)) ∷ []) → Kept w x
      by_test true f g = (named_rest w s h c x e o (leaf_stays s h x g.0) p (type_named (sort_of (typing s h x)) f)).0
      by_test false f g = kept g.0

  abbrev Laid : Scope → Kind → Hint → Trees → Type 0
  Laid s k h ps = Each Unended (layout k (behind s k h ps [] ps))

  selector_kept : (s : Scope) (h : Hint) (c : Category) (x : Tree) → IsShaped c x → is_operand (kind_of x) ≡ true → Stays w x → Proper w x → (Unended (typing s h x) → Kept w x) → Each Unended (selector_parts (Some (typing s h x) ∷ [])) → Kept w x
  selector_kept s h c x e o st p kept u = by_test (is_package (sort_of (typing s h x))) refl u
    where
      package_named : (z : Stands) → is_package z ≡ true → is_named z ≡ true
      package_named sort.Package e = refl
      package_named z e = cc

      by_test : (b : Bool) → is_package (sort_of (typing s h x)) ≡ b → Each Unended (if b then [] else Some (typing s h x) ∷ []) → Kept w x
      by_test true f g = (named_rest w s h c x e o st p (package_named (sort_of (typing s h x)) f)).0
      by_test false f g = kept g.0

  -- the parts of a call, by whether it is one of `make`
  call_by : (s : Scope) (h : Hint) (f : Tree) (y : Part) (rest : Parts) (X : Type 0) (b : Bool) → (Unended y → Kept w f) → (Each Unended (cut (Some y) ∷ []) → Kept w f) → (Each Unended (first_cut rest) → X) → (Each Unended rest → X)
      → Each Unended (if b then Some y ∷ first_cut rest else cut (Some y) ∷ rest) → Kept w f × X
  call_by s h f y rest X true whole cutting first all u = (whole u.0, first u.1)
  call_by s h f y rest X false whole cutting first all u = let both = front_each Unended (cut (Some y) ∷ []) rest u in (cutting both.0, all both.1)

  mutual
    -- A tree in whose typed tree none ends is kept.
    pub kept_unended : (s : Scope) (h : Hint) (c : Category) (x : Tree) → IsShaped c x → Proper w x → Unended (typing s h x) → Kept w x
    kept_unended s h c (node k i j ps) e p u =
        let xs = typings s k h ps [] ps in
        let ys = layout k xs in
        let back = built_back s k h i j ys (is_sound k ys (own_faults s k h i j ys)) u in
        let stays = stays_by s h k i j ys (may_be_constant k) refl back.0 in
        let inner : ProperNode false w k i ps (AllProper w ps) = subst (λ b. ProperNode b w k i ps (AllProper w ps)) stays p in (
          stays,
          inner.0,
          kept_parts s h (place_of c) k ps (λ v. parts_kept s k h ps [] ps (rule (place_of c) k) e.1 inner.2 v) e.1 inner.1 inner.2 (subst (λ z. Each Unended (layout k z)) (typings_are s k h ps [] ps) back.1),
        )

    parts_kept : (s : Scope) (k : Kind) (h : Hint) (all : Trees) (xs : Parts) (ps : Trees) (r : Rule) → AreShaped r ps → AllProper w ps → Each Unended (behind s k h all xs ps) → AllKept w ps
    parts_kept s k h all xs none r e p u = tt
    parts_kept s k h all xs (skip ps) (End ws) e p u = elim e [ ]
    parts_kept s k h all xs (skip ps) (Then ws c r) e p u = elim e [ ]
    parts_kept s k h all xs (skip ps) (Maybe ws c r) e p u = parts_kept s k h all (xs ++ None ∷ []) ps r e p u
    parts_kept s k h all xs (skip ps) (Unless ws c us r) e p u = parts_kept s k h all (xs ++ None ∷ []) ps r e p u
    parts_kept s k h all xs (skip ps) (Many ws l) e p u = elim e [ ]
    parts_kept s k h all xs (more q ps) (End ws) e p u = elim e [ ]
    parts_kept s k h all xs (more q ps) (Then ws c r) e p u =
        (kept_unended (part_scope s k xs) (hint s k h all xs (kind_of q)) c q e.0 p.0 u.0, parts_kept s k h all (xs ++ Some (part_of s k h all xs q) ∷ []) ps r e.1 p.1 u.1)
    parts_kept s k h all xs (more q ps) (Maybe ws c r) e p u =
        (kept_unended (part_scope s k xs) (hint s k h all xs (kind_of q)) c q e.0 p.0 u.0, parts_kept s k h all (xs ++ Some (part_of s k h all xs q) ∷ []) ps r e.1 p.1 u.1)
    parts_kept s k h all xs (more q ps) (Unless ws c us r) e p u =
        (kept_unended (part_scope s k xs) (hint s k h all xs (kind_of q)) c q e.0 p.0 u.0, parts_kept s k h all (xs ++ Some (part_of s k h all xs q) ∷ []) ps r e.1 p.1 u.1)
    parts_kept s k h all xs (more q ps) (Many ws l) e p u =
        (kept_unended (part_scope s k xs) (hint s k h all xs (kind_of q)) (item l) q e.0 p.0 u.0, parts_kept s k h all (xs ++ Some (part_of s k h all xs q) ∷ []) ps (Many ws l) e.1 p.1 u.1)

    first_kept : (s : Scope) (h : Hint) (all : Trees) (y : Part) (qs : Trees) (ws : List TokenKind) (l : Items) → ((p : Tree) → IsShaped (item l) p → is_operand (kind_of p) ≡ true) → AreShaped (Many ws l) qs → AllProper w qs
        → Each Unended (first_cut (behind s kind.Call h all (Some y ∷ []) qs)) → AllKept w qs
    first_kept s h all y none ws l operands e pr u = tt
    first_kept s h all y (skip qs) ws l operands e pr u = elim e [ ]
    first_kept s h all y (more q qs) ws l operands e pr u =
        let g = hint s kind.Call h all (Some y ∷ []) (kind_of q) in
        let both = front_each Unended (cut (Some (part_of s kind.Call h all (Some y ∷ []) q)) ∷ []) (behind s kind.Call h all (Some y ∷ Some (part_of s kind.Call h all (Some y ∷ []) q) ∷ []) qs) u in (
          cut_kept s g (item l) q e.0 (operands q e.0) pr.0 (λ v. kept_unended s g (item l) q e.0 pr.0 v) both.0,
          parts_kept s kind.Call h all (Some y ∷ Some (part_of s kind.Call h all (Some y ∷ []) q) ∷ []) qs (Many ws l) e.1 pr.1 both.1,
        )

    kept_parts : (s : Scope) (h : Hint) (p : Place) (k : Kind) (ps : Trees) → (Each Unended (behind s k h ps [] ps) → AllKept w ps) → AreShaped (rule p k) ps → PartsFree w k ps → AllProper w ps → Laid s k h ps → AllKept w ps
    kept_parts s h p kind.ParenthesizedType ps whole e free pr u = all_kept_free w ps free
    kept_parts s h p kind.SequenceType ps whole e free pr u = all_kept_free w ps free
    kept_parts s h p kind.FunctionType ps whole e free pr u = all_kept_free w ps free
    kept_parts s h p kind.StructType ps whole e free pr u = all_kept_free w ps free
    kept_parts s h p kind.Fields ps whole e free pr u = whole (all_held_back (behind s kind.Fields h ps [] ps) u)
    kept_parts s h p kind.LiteralValue ps whole e free pr u = whole u
    kept_parts s h p kind.Keyed none whole e free pr u = elim e [ ]
    kept_parts s h p kind.Keyed (skip qs) whole e free pr u = elim e [ ]
    kept_parts s h p kind.Keyed (more n qs) whole e free pr u = (kept_free w n free, parts_kept s kind.Keyed h (more n qs) (Some (part_of s kind.Keyed h (more n qs) [] n) ∷ []) qs _ e.1 pr.1 u)
    kept_parts s h p kind.Call none whole e free pr u = elim e [ ]
    kept_parts s h p kind.Call (skip qs) whole e free pr u = elim e [ ]
    kept_parts s h p kind.Call (more f qs) whole e free pr u =
        let all = more f qs in
        let y = part_of s kind.Call h all [] f in
        let g = hint s kind.Call h all [] (kind_of f) in
        call_by s h f y (behind s kind.Call h all (Some y ∷ []) qs) (AllKept w qs) (is_make (sort_of y)) (λ v. kept_unended s g (category.Expression level.Primary p) f e.0 pr.0 v)
        (λ v. cut_kept s g (category.Expression level.Primary p) f e.0 (expression_operand level.Primary p f e.0) pr.0 (λ z. kept_unended s g (category.Expression level.Primary p) f e.0 pr.0 z) v)
        (λ v. first_kept s h all y qs _ _ (λ q m. expression_operand level.Either place.Free q m) e.1 pr.1 v) (λ v. parts_kept s kind.Call h all (Some y ∷ []) qs _ e.1 pr.1 v) u
    kept_parts s h p kind.Composite none whole e free pr u = elim e [ ]
    kept_parts s h p kind.Composite (skip qs) whole e free pr u = elim e [ ]
    kept_parts s h p kind.Composite (more t qs) whole e free pr u =
        let all = more t qs in
        let y = part_of s kind.Composite h all [] t in
        let both = front_each Unended (cut (Some y) ∷ []) (behind s kind.Composite h all (Some y ∷ []) qs) u in (
          cut_kept s (hint s kind.Composite h all [] (kind_of t)) (category.LiteralType p) t e.0 (literal_type_operand p t e.0) pr.0 (λ g. kept_unended s (hint s kind.Composite h all [] (kind_of t)) (category.LiteralType p) t e.0 pr.0 g) both.0,
          parts_kept s kind.Composite h all (Some y ∷ []) qs _ e.1 pr.1 both.1,
        )
    kept_parts s h p kind.Selector none whole e free pr u = elim e [ ]
    kept_parts s h p kind.Selector (skip qs) whole e free pr u = elim e [ ]
    kept_parts s h p kind.Selector (more x (more q qs)) whole e free pr u = elim e.1 [ ]
    kept_parts s h p kind.Selector (more x (skip qs)) whole e free pr u = elim e.1 [ ]
    kept_parts s h p kind.Selector (more x none) whole e free pr u = (
      selector_kept s (hint s kind.Selector h (more x none) [] (kind_of x)) (category.Expression level.Primary p) x e.0 (expression_operand level.Primary p x e.0) free pr.0
          (λ g. kept_unended s (hint s kind.Selector h (more x none) [] (kind_of x)) (category.Expression level.Primary p) x e.0 pr.0 g) u,
      tt,
    )
    kept_parts s h p kind.Bracketed none whole e free pr u = elim e [ ]
    kept_parts s h p kind.Bracketed (skip qs) whole e free pr u = elim e [ ]
    kept_parts s h p kind.Bracketed (more x none) whole e free pr u = elim e.1 [ ]
    kept_parts s h p kind.Bracketed (more x (skip qs)) whole e free pr u = elim e.1 [ ]
    kept_parts s h p kind.Bracketed (more x (more y (more q qs))) whole e free pr u = elim e.1.1 [ ]
    kept_parts s h p kind.Bracketed (more x (more y (skip qs))) whole e free pr u = elim e.1.1 [ ]
    kept_parts s h p kind.Bracketed (more x (more y none)) whole e free pr u =
        let all = more x (more y none) in
        let z = part_of s kind.Bracketed h all [] x in
        let v = part_of s kind.Bracketed h all (Some z ∷ []) y in
        whole (u.0, bounds_back (Some v) u.1)
    kept_parts s h p k ps whole e free pr u = whole u

  -- ---- a constant in place of which none stands

  constant_asks : (z : Stands) → masses.is_constant z ≡ true → is_asking z ≡ true
  constant_asks (sort.Constant t c) e = refl
  constant_asks (sort.OpenConstant c) e = refl
  constant_asks z e = cc

  inside_here : (f : Form) (l : Label TypeTree) → is_expression f ≡ true → masses.is_constant l.sort ≡ true → is_inside false f l ≡ true
  inside_here f l e g = ap (λ b. b && masses.is_constant l.sort) e ∙ g

  -- its parts stand inside it
  parts_unended : (rights : Rights) (f : Form) (i j : ℕ) (l : Label TypeTree) (qs : Typeds TypeTree) → is_expression f ≡ true → masses.is_constant l.sort ≡ true → WillFit rights w false (typed f i j l qs) → AllUnended qs
  parts_unended rights f i j l qs e g (variables.has o fits) = all_fit_unended qs (subst (λ b. AllFit w b qs) (inside_here f l e g) fits.2)
  parts_unended rights f i j l qs e g (variables.takes t k o m r fits) =
      let all : Fits w false (typed f i j (retyped_label t l) (all_settled t qs)) = subst (Fits w false) (settled_is w t f i j l qs (open_takes w l.sort (ap is_some o))) fits in
      all_unended_back t qs (all_fit_unended (all_settled t qs) (subst (λ b. AllFit w b (all_settled t qs)) (inside_kept t false f l ∙ inside_here f l e g) all.2))

  -- where a variable stands at a hole it ends there
  away_by : (f : Form) (i j : ℕ) (l : Label TypeTree) (o : Option Standin) → at_hole w (is_hole false f l) i ≡ o → ends_at (w i) j ≡ false → FitsAt w false f i j l → o ≡ None
  away_by f i j l None e u fit = refl
  away_by f i j l (Some v) e u fit =
      let is = there w (is_hole false f l) i v e in
      let fitting = fit v is.1 (or_second (ends_at (Some v) j) (is_hole false f l) is.0) in
      let ends : false ≡ true = sym u ∙ ap (λ z. ends_at z j) is.1 ∙ eq-eqb v.upto j fitting.upto in
      cc
    where
      or_second : (b c : Bool) → c ≡ true → (b || c) ≡ true
      or_second true c e = refl
      or_second false c e = e

  retyped_fits : (t : TypeTree) (f : Form) (i j : ℕ) (l : Label TypeTree) → is_hole false f (retyped_label t l) ≡ is_hole false f l → ends_at (w i) j ≡ false → FitsAt w false f i j (retyped_label t l) → at_hole w (is_hole false f l) i ≡ None
  retyped_fits t f i j l same u fit = ap (λ b. at_hole w b i) (sym same) ∙ away_by f i j (retyped_label t l) (at_hole w (is_hole false f (retyped_label t l)) i) refl u fit

  away_here : (rights : Rights) (f : Form) (i j : ℕ) (l : Label TypeTree) (qs : Typeds TypeTree) → is_expression f ≡ true → masses.is_constant l.sort ≡ true → ends_at (w i) j ≡ false → WillFit rights w false (typed f i j l qs) → Away w false (typed f i j l qs)
  away_here rights f i j l qs e g u (variables.has o fits) =
      (away_by f i j l (at_hole w (is_hole false f l) i) refl u fits.0, subst (λ b. AllAway w b qs) (sym (inside_here f l e g)) (all_away_inside w qs))
  away_here rights f i j l qs e g u (variables.takes t k o m r fits) =
      let all : Fits w false (typed f i j (retyped_label t l) (all_settled t qs)) = subst (Fits w false) (settled_is w t f i j l qs (open_takes w l.sort (ap is_some o))) fits in
      (retyped_fits t f i j l (hole_kept t false f l) u all.0, subst (λ b. AllAway w b qs) (sym (inside_here f l e g)) (all_away_inside w qs))

  may_here : (s : Scope) (h : Hint) (k : Kind) (i j : ℕ) (ys : Parts) (b c : Bool) → may_be_constant k ≡ c → is_expression (form_of (built_by s k h i j ys b)) ≡ true → masses.is_constant (sort_of (built_by s k h i j ys b)) ≡ true → c ≡ true
  may_here s h k i j ys b true e f g = refl
  may_here s h k i j ys true false e f g =
      let both : false ≡ true = sym (not_constant s k h i j ys true e) ∙ ap (λ z. z && masses.is_constant (sort_of (built_by s k h i j ys true))) f ∙ g in cc
  may_here s h k i j ys false false e f g = cc

  ends_not : (k : Kind) (i j : ℕ) → may_be_constant k ≡ true → (may_be_constant k && ends_at (w i) j) ≡ false → ends_at (w i) j ≡ false
  ends_not k i j e f = sym (ap (λ z. z && ends_at (w i) j) e) ∙ f

  still_by : (s : Scope) (h : Hint) (c : Category) (k : Kind) (i j : ℕ) (ps : Trees) (ys : Parts) (b : Bool) → typing s h (node k i j ps) ≡ built_by s k h i j ys b → IsShaped c (node k i j ps) → expresses k ≡ true → Proper w (node k i j ps)
      → (may_be_constant k && ends_at (w i) j) ≡ false → masses.is_constant (sort_of (built_by s k h i j ys b)) ≡ true → WillFit s.rights w false (built_by s k h i j ys b) → Still w s h (node k i j ps)
  still_by s h c k i j ps ys true is e x p st m fits =
      let f = form_by s k h i j ys in
      let expression = expressed s k h i j ys true x (constant_asks (sort_of (built_by s k h i j ys true)) m) in
      let may = may_here s h k i j ys true (may_be_constant k) refl expression m in
      let ends = ends_not k i j may st in
      let under = parts_unended s.rights f i j (label_of (built_by s k h i j ys true)) (parts_of (built_by s k h i j ys true)) expression m fits in (
        kept_unended s h c (node k i j ps) e p (subst Unended (sym is) ((λ z. ends), under)),
        subst (Away w false) (sym is) (away_here s.rights f i j (label_of (built_by s k h i j ys true)) (parts_of (built_by s k h i j ys true)) expression m ends fits),
      )
  still_by s h c k i j ps ys false is e x p st m fits = cc

  -- The constant is typed as before.
  pub constant_still : (s : Scope) (h : Hint) (c : Category) (k : Kind) (i j : ℕ) (ps : Trees) → IsShaped c (node k i j ps) → expresses k ≡ true → Proper w (node k i j ps) → (may_be_constant k && ends_at (w i) j) ≡ false
      → masses.is_constant (sort_of (typing s h (node k i j ps))) ≡ true → WillFit s.rights w false (typing s h (node k i j ps)) → Still w s h (node k i j ps)
  constant_still s h c k i j ps e x p st m fits =
      let ys = layout k (typings s k h ps [] ps) in still_by s h c k i j ps ys (is_sound k ys (own_faults s k h i j ys)) refl e x p st m fits
