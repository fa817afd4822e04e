-- Left sides with variables in them.
use Rattle.std.proofs.Common.{◌≡◌, ◌∙◌, ℕ, ◌-◌, Bool, true, false, List, [], ◌∷◌, Option, Some, None, refl, sym, ap}
use Rattle.std.specs.Prelude.{◌||◌, if◌then◌else◌}
use Rattle.go_grammar.specs.declared.kind.Category.{Category}
use Rattle.go_grammar.specs.declared.kind.Category.TheVariants as category
use Rattle.go_grammar.specs.declared.kind.Kind.{Kind}
use Rattle.go_grammar.specs.declared.kind.Kind.TheVariants as kind
use Rattle.go_grammar.specs.declared.kind.Level.TheVariants as level
use Rattle.go_grammar.specs.declared.kind.Place.{Place}
use Rattle.go_grammar.specs.declared.kind.Place.TheVariants as place
use Rattle.go_grammar.specs.Categories.{place_of}
use Rattle.go_grammar.specs.Grammar.{rule}
use Rattle.go_grammar.specs.Trees.{Tree, node, Trees, none, more, skip, kind_of}
use Rattle.go_types.specs.Trees.{TypeTree, array, slice}
use Rattle.go_types.specs.Relations.{Rights}
use Rattle.go_typed.specs.declared.form.Form.{Form}
use Rattle.go_typed.specs.declared.form.Form.TheVariants as form
use Rattle.go_typed.specs.declared.form.Referent.TheVariants as referent
use Rattle.go_typed.specs.Trees.{Label, typed, Typeds, sort_of, row}
use Rattle.go_typed.specs.Trees as sort
use Rattle.go_exprs_rules.specs.Indexes.{value_or_unknown, named_field, selector_sort, index_sort}
use Rattle.go_exprs_rules.specs.Names.{name_sort, name_form, object_sort, object_form, form_or_type, need_of}
use Rattle.go_exprs_rules.specs.Scopes.{Needed, Scope, Hint, several, type_place, loose, loose_inside, statement, inside, declares, free}
use Rattle.go_exprs_rules.specs.Settling.{Part}
use Rattle.go_exprs_rules.specs.Sorts.{Stands, is_open, is_text, byte, own_type, underlying_in, form_of_value, element_of, value_type}
use Rattle.go_exprs_rules.specs.Tables.{Parts, in_parentheses, layout, callee_form, label, all_given, takes, form_by, sort_by, built_by, is_sound, own_faults, is_variable_name}
use Rattle.go_exprs_rules.specs.Typing.{typing, typings}
use Rattle.go_stmts_defs.specs.Targets.{varies_by, through, is_variable, first_varies}
use Rattle.clone_window.specs.Masses.{is_hole, is_inside}
use Rattle.go_exprs_variables.specs.Over.{sort_over}
use Rattle.go_exprs_variables.specs.Shapes.{IsShaped, AreShaped}
use Rattle.go_exprs_variables.specs.Variables.{Standin, Standins, at_hole, put_over, put, all_put, is_naming, ends_at, final_type, FitsAt, Fits, AllFit}
use Rattle.go_exprs_variables.proofs.Public.{Agrees, AllAgree, KeyAgrees, expression_operand, is_operand}
use Rattle.go_stmts_variables.proofs.Puts.{hole_at}

-- ---- a variable with variables in it is one

-- the first part has the type that it had
abbrev FirstKept : Typeds TypeTree → Typeds TypeTree → Type 0
FirstKept (sort.more p ps) (sort.more q qs) = own_type (sort_of q) ≡ own_type (sort_of p)
FirstKept (sort.more p ps) qs = ⊥
FirstKept ps qs = Unit {0}

module _ (rights : Rights) (w : Standins) where
  hole_type : (a : Bool) (f : Form) (i j : ℕ) (l : Label TypeTree) (v : Standin) → at_hole w (is_hole a f l) i ≡ Some v → FitsAt w a f i j l → own_type l.sort ≡ Some v.type
  hole_type a f i j l v at fits =
      let is = hole_at w (is_hole a f l) i v at in by l.sort (fits v is.1 (or_right (ends_at (Some v) j) (is_hole a f l) is.0)).type
    where
      or_right : (b c : Bool) → c ≡ true → (b || c) ≡ true
      or_right true c e = refl
      or_right false c e = e

      by : (z : Stands) → final_type z ≡ Some v.type → own_type z ≡ Some v.type
      by (sort.Constant t c) e = e
      by z e = cc

  own_over : (a : Bool) (f : Form) (i j : ℕ) (l : Label TypeTree) (ps qs : Typeds TypeTree) (v : Option Standin) → at_hole w (is_hole a f l) i ≡ v → FitsAt w a f i j l → own_type (sort_over f l.sort qs) ≡ own_type l.sort
      → own_type (sort_of (put_over v f i j l qs)) ≡ own_type l.sort
  own_over a f i j l ps qs (Some v) at fits e = sym (hole_type a f i j l v at fits)
  own_over a f i j l ps qs None at fits e = e

  over_by : (f : Form) (z : Stands) (ps qs : Typeds TypeTree) → KeyAgrees f z ps → FirstKept ps qs → own_type (sort_over f z qs) ≡ own_type z
  over_by (form.Keyed n) z sort.none qs h k = absurd h
  over_by (form.Keyed n) z (sort.skip ps) qs h k = absurd h
  over_by (form.Keyed n) z (sort.more p sort.none) sort.none h k = elim k [ ]
  over_by (form.Keyed n) z (sort.more p sort.none) (sort.skip qs) h k = elim k [ ]
  over_by (form.Keyed n) z (sort.more p sort.none) (sort.more q qs) h k = k ∙ sym (ap own_type h)
  over_by (form.Keyed n) z (sort.more p (sort.more q ps)) qs h k = absurd h
  over_by (form.Keyed n) z (sort.more p (sort.skip ps)) qs h k = absurd h
  over_by f z ps qs h k = refl

  mutual
    pub own_put : (a : Bool) (x : Part) → Agrees x → Fits w a x → own_type (sort_of (put w a x)) ≡ own_type (sort_of x)
    own_put a (typed f i j l ps) g h =
        own_over a f i j l ps (all_put w (is_inside a f l) ps) (at_hole w (is_hole a f l) i) refl h.0 (over_by f l.sort ps (all_put w (is_inside a f l) ps) g.0 (first_kept (is_inside a f l) ps g.2 h.2))

    first_kept : (a : Bool) (ps : Typeds TypeTree) → AllAgree ps → AllFit w a ps → FirstKept ps (all_put w a ps)
    first_kept a sort.none g h = tt
    first_kept a (sort.skip ps) g h = tt
    first_kept a (sort.more p ps) g h = own_put a p g.0 h.0

  -- a node over parts with variables in them
  either_true : (b c d e : Bool) → (b || c) ≡ true → (b ≡ true → d ≡ true) → (c ≡ true → e ≡ true) → (d || e) ≡ true
  either_true true c d e h f g = ap (λ z. z || e) (f refl)
  either_true false c d e h f g = or_last d e (g h)
    where
      or_last : (d e : Bool) → e ≡ true → (d || e) ≡ true
      or_last true e h = refl
      or_last false e h = h

  name_over : (f : Form) (z : Stands) (qs : Typeds TypeTree) → is_variable_name f z ≡ true → is_variable_name f (sort_over f z qs) ≡ true
  name_over (form.Keyed n) z qs e = cc
  name_over f z qs e = e

  through_kept : (f : Form) (a b : Stands) (p q : Bool) → own_type b ≡ own_type a → (p ≡ true → q ≡ true) → through rights f a p ≡ true → through rights f b q ≡ true
  through_kept form.Parenthesized a b p q e g h = g h
  through_kept (form.Selector n) a b p q e g h = g h
  through_kept form.Index a b p q e g h = ap (λ o. varies_by (underlying_in rights o) q) e ∙ by (underlying_in rights (own_type a)) h
    where
      by : (o : Option TypeTree) → varies_by o p ≡ true → varies_by o q ≡ true
      by (Some (slice t)) h = refl
      by (Some (array n t)) h = g h
      by o h = cc
  through_kept f a b p q e g h = cc

  variable_over : (v : Option Standin) (f : Form) (i j : ℕ) (l : Label TypeTree) (ps qs : Typeds TypeTree) → (first_varies rights f ps ≡ true → first_varies rights f qs ≡ true) → is_variable rights (typed f i j l ps) ≡ true
      → is_variable rights (put_over v f i j l qs) ≡ true
  variable_over (Some v) f i j l ps qs g h = refl
  variable_over None f i j l ps qs g h = either_true (is_variable_name f l.sort) (first_varies rights f ps) (is_variable_name f (sort_over f l.sort qs)) (first_varies rights f qs) h (name_over f l.sort qs) g

  mutual
    -- A variable is one with variables in its indexes.
    pub variable_put : (a : Bool) (x : Part) → Agrees x → Fits w a x → is_variable rights x ≡ true → is_variable rights (put w a x) ≡ true
    variable_put a (typed f i j l ps) g h e = variable_over (at_hole w (is_hole a f l) i) f i j l ps (all_put w (is_inside a f l) ps) (first_variable f (is_inside a f l) ps g.2 h.2) e

    first_variable : (f : Form) (a : Bool) (ps : Typeds TypeTree) → AllAgree ps → AllFit w a ps → first_varies rights f ps ≡ true → first_varies rights f (all_put w a ps) ≡ true
    first_variable f a sort.none g h e = cc
    first_variable f a (sort.skip ps) g h e = cc
    first_variable f a (sort.more p ps) g h e = through_kept f (sort_of p) (sort_of (put w a p)) (is_variable rights p) (is_variable rights (put w a p)) (own_put a p g.0 h.0) (λ m. variable_put a p g.0 h.0 m) e

-- ---- a variable has a type

module _ (rights : Rights) (s : Scope) (variables : (n : Needed) (i r : ℕ) → object_form s (s.objects i) ≡ form.Object (referent.Variable r) → is_open (object_sort s n (s.objects i)) ≡ false) where
  name_closed : (fm : Form) (z : Stands) → is_variable_name fm z ≡ true → ((r : ℕ) → fm ≡ form.Object (referent.Variable r) → is_open z ≡ false) → is_open z ≡ false
  name_closed (form.Local n) (sort.Value t) e f = refl
  name_closed (form.Local n) z e f = cc
  name_closed (form.Object (referent.Variable r)) z e f = f r refl
  name_closed fm z e f = cc

  named_closed : (n : Needed) (i : ℕ) (z : Stands) → object_sort s n (s.objects i) ≡ z → is_variable_name (form_or_type z (object_form s (s.objects i))) z ≡ true → is_open z ≡ false
  named_closed n i (sort.IsType t) m e = refl
  named_closed n i z m e = name_closed (object_form s (s.objects i)) z e (λ r q. ap is_open (sym m) ∙ variables n i r q)

  variable_name : (h : Hint) (i : ℕ) → is_naming h ≡ false → is_variable_name (name_form s h i) (name_sort s h i) ≡ true → is_open (name_sort s h i) ≡ false
  variable_name declares i n e = cc
  variable_name free i n e = cc
  variable_name h i n e = named_closed (need_of s.needed h) i (object_sort s (need_of s.needed h) (s.objects i)) refl e

  never_variable : {X : Type 0} (fm : Form) (i j : ℕ) (l : Label TypeTree) (ps : Typeds TypeTree) → is_variable_name fm l.sort ≡ false → ((z : Stands) (b : Bool) → through rights fm z b ≡ false)
      → is_variable rights (typed fm i j l ps) ≡ true → X
  never_variable fm i j l sort.none n t e = let never : false ≡ true = sym (ap (λ b. b || false) n) ∙ e in cc
  never_variable fm i j l (sort.skip ps) n t e = let never : false ≡ true = sym (ap (λ b. b || false) n) ∙ e in cc
  never_variable fm i j l (sort.more p ps) n t e = let never : false ≡ true = sym (ap (λ b. b || through rights fm (sort_of p) (is_variable rights p)) n ∙ t (sort_of p) (is_variable rights p)) ∙ e in cc

  value_open : (o : Option TypeTree) → is_open (value_or_unknown o) ≡ false
  value_open None = refl
  value_open (Some t) = refl

  selector_open : (name : List ℕ) (z : Stands) → is_open (selector_sort s.rights name z) ≡ false
  selector_open name sort.Package = refl
  selector_open name z = value_open (named_field (form_of_value s.rights z) name)

  index_open : (z : Stands) → is_open (index_sort s.rights z) ≡ false
  index_open z = by (is_text s.rights z)
    where
      by : (b : Bool) → is_open (if b then sort.Value byte else value_or_unknown (element_of (form_of_value s.rights z))) ≡ false
      by true = refl
      by false = value_open (element_of (form_of_value s.rights z))

  module _ (h : Hint) (i j : ℕ) where
    selector_kind : (ys : Parts) → is_open (sort_by s kind.Selector h i j ys) ≡ false
    selector_kind [] = refl
    selector_kind (None ∷ ys) = refl
    selector_kind (Some x ∷ []) = selector_open (s.texts (j - 1)) (sort_of x)
    selector_kind (Some x ∷ y ∷ ys) = refl

    bracketed_kind : (ys : Parts) → is_open (sort_by s kind.Bracketed h i j ys) ≡ false
    bracketed_kind [] = refl
    bracketed_kind (None ∷ ys) = refl
    bracketed_kind (Some x ∷ []) = refl
    bracketed_kind (Some x ∷ Some y ∷ []) = index_open (sort_of x)
    bracketed_kind (Some x ∷ None ∷ []) = refl
    bracketed_kind (Some x ∷ None ∷ z ∷ []) = value_open (value_type (sort_of x))
    bracketed_kind (Some x ∷ Some y ∷ z ∷ []) = value_open (value_type (sort_of x))
    bracketed_kind (Some x ∷ None ∷ z ∷ v ∷ ys) = refl
    bracketed_kind (Some x ∷ Some y ∷ z ∷ v ∷ ys) = refl

    closed_built : (k : Kind) (ys : Parts) (b : Bool) → is_open (sort_by s k h i j ys) ≡ false → is_open (sort_of (built_by s k h i j ys b)) ≡ false
    closed_built k ys true e = e
    closed_built k ys false e = refl

    plain_built : (k : Kind) (ys : Parts) (b : Bool) → ((z : Stands) → is_variable_name (form_by s k h i j ys) z ≡ false) → ((z : Stands) (c : Bool) → through rights (form_by s k h i j ys) z c ≡ false)
        → is_variable rights (built_by s k h i j ys b) ≡ true → is_open (sort_of (built_by s k h i j ys b)) ≡ false
    plain_built k ys true n t e = never_variable (form_by s k h i j ys) i j (label (form_by s k h i j ys) (sort_by s k h i j ys) ys) (row (all_given (takes s k h ys) ys)) (n (sort_by s k h i j ys)) t e
    plain_built k ys false n t e = refl

    callee_plain : (z v : Stands) → is_variable_name (callee_form z) v ≡ false
    callee_plain (sort.IsType t) v = refl
    callee_plain z v = refl

    callee_through : (z v : Stands) (c : Bool) → through rights (callee_form z) v c ≡ false
    callee_through (sort.IsType t) v c = refl
    callee_through z v c = refl

    call_built : (ys : Parts) (b : Bool) → is_variable rights (built_by s kind.Call h i j ys b) ≡ true → is_open (sort_of (built_by s kind.Call h i j ys b)) ≡ false
    call_built [] b e = plain_built kind.Call [] b (λ z. refl) (λ z c. refl) e
    call_built (None ∷ ys) b e = plain_built kind.Call (None ∷ ys) b (λ z. refl) (λ z c. refl) e
    call_built (Some x ∷ ys) b e = plain_built kind.Call (Some x ∷ ys) b (callee_plain (sort_of x)) (callee_through (sort_of x)) e

    name_built : (b : Bool) → is_naming h ≡ false → is_variable rights (built_by s kind.Name h i j [] b) ≡ true → is_open (sort_of (built_by s kind.Name h i j [] b)) ≡ false
    name_built false n e = refl
    name_built true n e = variable_name h i n (sym (or_false (is_variable_name (name_form s h i) (name_sort s h i))) ∙ e)
      where
        or_false : (b : Bool) → (b || false) ≡ b
        or_false true = refl
        or_false false = refl

    inner_built : (x : Part) (b : Bool) → (is_variable rights x ≡ true → is_open (sort_of x) ≡ false) → is_variable rights (built_by s kind.Parenthesized h i j (Some x ∷ []) b) ≡ true
        → is_open (sort_of (built_by s kind.Parenthesized h i j (Some x ∷ []) b)) ≡ false
    inner_built x true f e = f e
    inner_built x false f e = refl

  in_naming : (h : Hint) → is_naming (in_parentheses h) ≡ false
  in_naming loose = refl
  in_naming loose_inside = refl
  in_naming several = refl
  in_naming type_place = refl
  in_naming inside = refl
  in_naming statement = refl
  in_naming declares = refl
  in_naming free = refl
  in_naming h = refl

  mutual
    -- A variable isn't untyped.
    pub variable_closed : (h : Hint) (c : Category) (x : Tree) → IsShaped c x → is_operand (kind_of x) ≡ true → is_naming h ≡ false → is_variable rights (typing s h x) ≡ true → is_open (sort_of (typing s h x)) ≡ false
    variable_closed h c (node k i j ps) e o n v = closed_by h (place_of c) k i j ps e.1 o n v

    closed_by : (h : Hint) (p : Place) (k : Kind) (i j : ℕ) (ps : Trees) → AreShaped (rule p k) ps → is_operand k ≡ true → is_naming h ≡ false → is_variable rights (typing s h (node k i j ps)) ≡ true
        → is_open (sort_of (typing s h (node k i j ps))) ≡ false
    closed_by h p kind.Name i j none e o n v = name_built h i j (is_sound kind.Name [] (own_faults s kind.Name h i j [])) n v
    closed_by h p kind.Name i j (more q qs) e o n v = elim e [ ]
    closed_by h p kind.Name i j (skip qs) e o n v = elim e [ ]
    closed_by h p kind.Parenthesized i j none e o n v = elim e [ ]
    closed_by h p kind.Parenthesized i j (skip qs) e o n v = elim e [ ]
    closed_by h p kind.Parenthesized i j (more q (more r qs)) e o n v = elim e.1 [ ]
    closed_by h p kind.Parenthesized i j (more q (skip qs)) e o n v = elim e.1 [ ]
    closed_by h p kind.Parenthesized i j (more q none) e o n v =
        let x = typing s (in_parentheses h) q in
        inner_built h i j x (is_sound kind.Parenthesized (Some x ∷ []) (own_faults s kind.Parenthesized h i j (Some x ∷ [])))
        (λ m. variable_closed (in_parentheses h) (category.Expression level.Either place.Free) q e.0 (expression_operand level.Either place.Free q e.0) (in_naming h) m) v
    closed_by h p kind.Selector i j ps e o n v = let ys = layout kind.Selector (typings s kind.Selector h ps [] ps) in closed_built h i j kind.Selector ys (is_sound kind.Selector ys (own_faults s kind.Selector h i j ys))
        (selector_kind h i j ys)
    closed_by h p kind.Bracketed i j ps e o n v = let ys = layout kind.Bracketed (typings s kind.Bracketed h ps [] ps) in closed_built h i j kind.Bracketed ys (is_sound kind.Bracketed ys (own_faults s kind.Bracketed h i j ys))
        (bracketed_kind h i j ys)
    closed_by h p kind.Call i j ps e o n v = let ys = layout kind.Call (typings s kind.Call h ps [] ps) in call_built h i j ys (is_sound kind.Call ys (own_faults s kind.Call h i j ys)) v
    closed_by h p kind.Integer i j ps e o n v = let ys = typings s kind.Integer h ps [] ps in plain_built h i j kind.Integer ys (is_sound kind.Integer ys (own_faults s kind.Integer h i j ys)) (λ z. refl) (λ z c. refl) v
    closed_by h p kind.Rune i j ps e o n v = let ys = typings s kind.Rune h ps [] ps in plain_built h i j kind.Rune ys (is_sound kind.Rune ys (own_faults s kind.Rune h i j ys)) (λ z. refl) (λ z c. refl) v
    closed_by h p kind.Text i j ps e o n v = let ys = typings s kind.Text h ps [] ps in plain_built h i j kind.Text ys (is_sound kind.Text ys (own_faults s kind.Text h i j ys)) (λ z. refl) (λ z c. refl) v
    closed_by h p (kind.Unary q) i j ps e o n v = let ys = typings s (kind.Unary q) h ps [] ps in plain_built h i j (kind.Unary q) ys (is_sound (kind.Unary q) ys (own_faults s (kind.Unary q) h i j ys)) (λ z. refl) (λ z c. refl) v
    closed_by h p (kind.Binary q) i j ps e o n v = let ys = typings s (kind.Binary q) h ps [] ps in plain_built h i j (kind.Binary q) ys (is_sound (kind.Binary q) ys (own_faults s (kind.Binary q) h i j ys)) (λ z. refl) (λ z c. refl) v
    closed_by h p kind.Composite i j ps e o n v = let ys = layout kind.Composite (typings s kind.Composite h ps [] ps) in plain_built h i j kind.Composite ys (is_sound kind.Composite ys (own_faults s kind.Composite h i j ys))
        (λ z. refl) (λ z c. refl) v
    closed_by h p kind.LiteralValue i j ps e o n v = let ys = layout kind.LiteralValue (typings s kind.LiteralValue h ps [] ps) in plain_built h i j kind.LiteralValue ys
        (is_sound kind.LiteralValue ys (own_faults s kind.LiteralValue h i j ys)) (λ z. refl) (λ z c. refl) v
    closed_by h p kind.SequenceType i j ps e o n v = let ys = typings s kind.SequenceType h ps [] ps in plain_built h i j kind.SequenceType ys (is_sound kind.SequenceType ys (own_faults s kind.SequenceType h i j ys)) (λ z. refl)
        (λ z c. refl) v
    closed_by h p kind.FunctionType i j ps e o n v = let ys = typings s kind.FunctionType h ps [] ps in plain_built h i j kind.FunctionType ys (is_sound kind.FunctionType ys (own_faults s kind.FunctionType h i j ys)) (λ z. refl)
        (λ z c. refl) v
    closed_by h p kind.StructType i j ps e o n v = let ys = layout kind.StructType (typings s kind.StructType h ps [] ps) in plain_built h i j kind.StructType ys (is_sound kind.StructType ys (own_faults s kind.StructType h i j ys))
        (λ z. refl) (λ z c. refl) v
    closed_by h p k i j ps e o n v = cc
