-- In an expression without faults, whose names stand for something known, no constant is called and none is a struct.
use Rattle.std.proofs.Common.{◌≡◌, ◌∙◌, ℕ, ◌-◌, Bool, true, false, if◌then◌else◌, List, [], ◌∷◌, ◌++◌, Option, Some, None, refl, sym, ap}
use Rattle.std.specs.Prelude.{not, ◌&&◌, ◌||◌}
use Rattle.go_grammar.specs.declared.kind.Category.{Category}
use Rattle.go_grammar.specs.declared.kind.Category.TheVariants as category
use Rattle.go_grammar.specs.declared.kind.Kind.{Kind}
use Rattle.go_grammar.specs.declared.kind.Kind.TheVariants as kind
use Rattle.go_grammar.specs.declared.kind.Level.TheVariants as level
use Rattle.go_grammar.specs.declared.kind.Place.{Place}
use Rattle.go_grammar.specs.Categories.{place_of}
use Rattle.go_grammar.specs.Grammar.{rule}
use Rattle.go_grammar.specs.Rules.{Rule, End, Then, Maybe, Unless, Many}
use Rattle.go_grammar.specs.Trees.{Tree, node, Trees, none, more, skip, kind_of}
use Rattle.go_rewriting.specs.Replacing.{next_category, next_rule}
use Rattle.go_tree.specs.declared.object.Object.{Object}
use Rattle.go_tree.specs.declared.object.Object.TheVariants as object
use Rattle.go_types.specs.Trees.{TypeTree}
use Rattle.go_types.specs.Relations.{Rights}
use Rattle.go_typed.specs.declared.form.Form.{Form}
use Rattle.go_typed.specs.declared.form.Form.TheVariants as form
use Rattle.go_typed.specs.Trees.{typed, Typeds, row, sort_of}
use Rattle.go_typed.specs.Trees as sort
use Rattle.go_exprs_rules.specs.declared.fault.TypeFault.{TypeFault}
use Rattle.go_exprs_rules.specs.Calls.{call_failing}
use Rattle.go_exprs_rules.specs.Faults.{earlier, least, or_else, reported}
use Rattle.go_exprs_rules.specs.Indexes.{selector_failing}
use Rattle.go_exprs_rules.specs.Names.{object_form, declared_form, form_or_type, name_form, name_sort}
use Rattle.go_exprs_rules.specs.Scopes.{Scope, Hint, member, declares, free, callee, value}
use Rattle.go_exprs_rules.specs.Settling.{Part}
use Rattle.go_exprs_rules.specs.Sorts.{Stands, is_unknown}
use Rattle.go_exprs_rules.specs.Tables.{Parts, is_make, hint, part_scope, held, is_type, leaf, cut, first_cut, call_parts, has_no_low, bounds_of, bracketed_parts, is_package, selector_parts, layout, present}
use Rattle.go_exprs_rules.specs.Tables.{key_form, bracketed_form, on_first, on_one, form_by, failing, found, placing, takes, all_given, is_judged, no_faults, is_placed, own_faults, is_sound, built_by, sort_by}
use Rattle.go_exprs_rules.specs.Typing.{typing, typings, faults, faults_of_parts}
use Rattle.go_stmts_final_types.specs.Names.{Standing, KeepsFamily, standing_in, ExpressionIsKnown, ExpressionsAreKnown}
use Rattle.go_stmts_final_types.specs.Shapes.{IsShaped, AreShaped}
use Rattle.go_stmts_final_types.proofs.Public.{known_sort, typing_known}
use Rattle.go_function_holes.specs.Holes.{is_first_constant, applies, none_called}
use Rattle.go_stmts_callees.proofs.Callees.{callee_unconstant, operand_unconstant}
use Rattle.go_stmts_callees.proofs.Uncalled.{differ, both_true}
use Rattle.go_stmts_callees.proofs.Uncalled.{truly, whichever, Free, EachFree, row_free, one_more, one_less, held_free, all_held_free, behind_free, cut_free, first_cut_free, all_given_free, first_given}

-- ---- rows of parts

pub shaped_more : (r : Rule) (p : Tree) (ps : Trees) → AreShaped r (more p ps) → IsShaped (next_category r) p × AreShaped (next_rule r) ps
shaped_more (End ws) p ps h = absurd h
shaped_more (Then ws c r) p ps h = h
shaped_more (Maybe ws c r) p ps h = h
shaped_more (Unless ws c us r) p ps h = h
shaped_more (Many ws l) p ps h = h

pub shaped_skip : (r : Rule) (ps : Trees) → AreShaped r (skip ps) → AreShaped (next_rule r) ps
shaped_skip (End ws) ps h = absurd h
shaped_skip (Then ws c r) ps h = absurd h
shaped_skip (Maybe ws c r) ps h = h
shaped_skip (Unless ws c us r) ps h = h
shaped_skip (Many ws l) ps h = absurd h

some_first : {X : Type 0} (f : TypeFault) (o : Option TypeFault) → earlier (Some f) o ≡ None → X
some_first f None e = absurd cc
some_first f (Some g) e = absurd cc

pub reported_front : (fs gs : List (List TypeFault)) → reported (fs ++ gs) ≡ None → reported fs ≡ None
reported_front [] gs e = refl
reported_front ([] ∷ fs) gs e = reported_front fs gs e
reported_front ((f ∷ hs) ∷ fs) gs e = some_first f (least hs) e

pub reported_back : (fs gs : List (List TypeFault)) → reported (fs ++ gs) ≡ None → reported gs ≡ None
reported_back [] gs e = e
reported_back ([] ∷ fs) gs e = reported_back fs gs e
reported_back ((f ∷ hs) ∷ fs) gs e = some_first f (least hs) e

-- ---- forms that call nothing and have no field

abbrev pub is_applied : Form → Bool
is_applied form.Call = true
is_applied (form.Selector n) = true
is_applied f = false

pub unapplied : (f : Form) (ps : Typeds TypeTree) → is_applied f ≡ false → applies f ps ≡ true
unapplied form.Call ps e = differ (sym e)
unapplied (form.Selector n) ps e = differ (sym e)
unapplied f ps e = refl

object_plain : (s : Scope) (x : Option Object) → is_applied (object_form s x) ≡ false
object_plain s None = refl
object_plain s (Some object.Import) = refl
object_plain s (Some (object.Predeclared p)) = refl
object_plain s (Some (object.Package n)) = refl
object_plain s (Some (object.Local f n)) = refl

pub declared_plain : (s : Scope) (x : Option Object) → is_applied (declared_form s x) ≡ false
declared_plain s None = refl
declared_plain s (Some object.Import) = refl
declared_plain s (Some (object.Predeclared p)) = refl
declared_plain s (Some (object.Package n)) = refl
declared_plain s (Some (object.Local f n)) = refl

type_plain : (x : Stands) (f : Form) → is_applied f ≡ false → is_applied (form_or_type x f) ≡ false
type_plain (sort.IsType t) f e = refl
type_plain x f e = e

name_plain : (s : Scope) (h : Hint) (i : ℕ) → is_applied (name_form s h i) ≡ false
name_plain s declares i = declared_plain s (s.objects i)
name_plain s free i = declared_plain s (s.objects i)
name_plain s h i = type_plain (name_sort s h i) (object_form s (s.objects i)) (object_plain s (s.objects i))

bracketed_plain : (ys : Parts) → is_applied (bracketed_form ys) ≡ false
bracketed_plain [] = refl
bracketed_plain (x ∷ []) = refl
bracketed_plain (x ∷ y ∷ []) = refl
bracketed_plain (x ∷ y ∷ z ∷ xs) = refl

key_plain : (rights : Rights) (h : Hint) (name : List ℕ) → is_applied (key_form rights h name) ≡ false
key_plain rights (member t) name = refl
key_plain rights h name = refl

-- calls, and selectors
abbrev is_applying : Kind → Bool
is_applying kind.Call = true
is_applying kind.Selector = true
is_applying k = false

form_plain : (s : Scope) (k : Kind) (h : Hint) (i j : ℕ) (ys : Parts) → is_applying k ≡ false → is_applied (form_by s k h i j ys) ≡ false
form_plain s kind.Call h i j ys e = differ (sym e)
form_plain s kind.Selector h i j ys e = differ (sym e)
form_plain s kind.Name h i j ys e = name_plain s h i
form_plain s kind.Bracketed h i j ys e = bracketed_plain ys
form_plain s kind.Keyed h i j ys e = key_plain s.rights h (s.texts i)
form_plain s k h i j ys e = refl

-- ---- how parts are laid out

call_free : (xs : Parts) → EachFree xs → EachFree (call_parts xs)
call_free [] h = tt
call_free (None ∷ xs) h = h
call_free (Some f ∷ xs) h = whichever EachFree (is_make (sort_of f)) (Some f ∷ first_cut xs) (cut (Some f) ∷ xs) (h.0, first_cut_free xs h.1) (cut_free f xs h.0 h.1)

selector_free : (xs : Parts) → EachFree xs → EachFree (selector_parts xs)
selector_free [] h = tt
selector_free (None ∷ xs) h = h
selector_free (Some x ∷ []) h = whichever EachFree (is_package (sort_of x)) [] (Some x ∷ []) tt h
selector_free (Some x ∷ y ∷ xs) h = h

bounds_free : (x : Part) → Free x → EachFree (bounds_of (Some x))
bounds_free x h = whichever EachFree (has_no_low (Some x)) (None ∷ held (Some x)) (held (Some x)) (held_free x h) (held_free x h)

bracketed_free : (xs : Parts) → EachFree xs → EachFree (bracketed_parts xs)
bracketed_free [] h = tt
bracketed_free (x ∷ []) h = h
bracketed_free (None ∷ None ∷ ys) h = tt
bracketed_free (None ∷ Some y ∷ ys) h = bounds_free y h.0
bracketed_free (Some x ∷ None ∷ ys) h = (h.0, tt)
bracketed_free (Some x ∷ Some y ∷ ys) h = (h.0, bounds_free y h.1.0)

layout_free : (k : Kind) (xs : Parts) → EachFree xs → EachFree (layout k xs)
layout_free kind.Selector xs h = selector_free xs h
layout_free kind.Bracketed xs h = bracketed_free xs h
layout_free kind.Call xs h = call_free xs h
layout_free kind.Composite xs h = first_cut_free xs h
layout_free kind.LiteralValue xs h = h
layout_free kind.Keyed xs h = behind_free xs h
layout_free kind.Fields xs h = all_held_free xs h
layout_free kind.StructType xs h = all_held_free xs h
layout_free k xs h = h

-- ---- a node that stands for something known was judged, and no rule fails

built_sound : (s : Scope) (k : Kind) (h : Hint) (i j : ℕ) (ys : Parts) (b : Bool) → is_unknown (sort_of (built_by s k h i j ys b)) ≡ false → b ≡ true
built_sound s k h i j ys true e = refl
built_sound s k h i j ys false e = differ (sym e)

none_fails : (fs : List TypeFault) → no_faults fs ≡ true → fs ≡ []
none_fails [] e = refl
none_fails (f ∷ fs) e = differ e

or_else_front : (fs gs : List TypeFault) → or_else fs gs ≡ [] → fs ≡ []
or_else_front [] gs e = refl
or_else_front (f ∷ fs) gs e = absurd cc

judged_front : (b : Bool) (fs gs : List TypeFault) → b ≡ true → (if b then or_else fs gs else []) ≡ [] → fs ≡ []
judged_front true fs gs u e = or_else_front fs gs e
judged_front false fs gs u e = differ u

-- of a call or a selector
sound_passes : (s : Scope) (k : Kind) (h : Hint) (i j : ℕ) (ys : Parts) → is_placed k ≡ true → is_sound k ys (own_faults s k h i j ys) ≡ true → failing s k h i j ys ≡ []
sound_passes s k h i j ys p e =
    let whole : (is_judged ys && no_faults (own_faults s k h i j ys)) ≡ true = placed_sound (is_placed k) (is_judged ys && no_faults (own_faults s k h i j ys)) p e in
    let both = both_true (is_judged ys) (no_faults (own_faults s k h i j ys)) whole in
    judged_front (is_judged ys) (failing s k h i j ys) (placing s k h i j (sort_by s k h i j ys)) both.0 (none_fails (own_faults s k h i j ys) both.1)
  where
    placed_sound : (b c : Bool) → b ≡ true → (not b || c) ≡ true → c ≡ true
    placed_sound true c u e = e
    placed_sound false c u e = differ u

-- ---- calls and selectors

-- a constant that stands first is of its type's family
abbrev FirstKeeps : Rights → Parts → Type 0
FirstKeeps rights (Some x ∷ xs) = KeepsFamily rights (sort_of x)
FirstKeeps rights xs = Unit {0}

leaf_keeps : (rights : Rights) (x : Part) → KeepsFamily rights (sort_of x) → KeepsFamily rights (sort_of (leaf x))
leaf_keeps rights (typed f i j l ps) h = h

call_keeps : (rights : Rights) (xs : Parts) → FirstKeeps rights xs → FirstKeeps rights (call_parts xs)
call_keeps rights [] h = tt
call_keeps rights (None ∷ xs) h = tt
call_keeps rights (Some x ∷ xs) h =
    whichever (FirstKeeps rights) (is_make (sort_of x)) (Some x ∷ first_cut xs) (cut (Some x) ∷ xs) h
    (whichever (λ y. FirstKeeps rights (y ∷ xs)) (is_type (sort_of x)) (Some (leaf x)) (Some x) (leaf_keeps rights x h) h)

selector_keeps : (rights : Rights) (xs : Parts) → FirstKeeps rights xs → FirstKeeps rights (selector_parts xs)
selector_keeps rights [] h = tt
selector_keeps rights (None ∷ xs) h = tt
selector_keeps rights (Some x ∷ []) h = whichever (FirstKeeps rights) (is_package (sort_of x)) [] (Some x ∷ []) tt h
selector_keeps rights (Some x ∷ y ∷ xs) h = h

called_unconstant : (rights : Rights) (i j : ℕ) (ys : Parts) → FirstKeeps rights ys → on_first [] (λ f xs. call_failing rights i j (sort_of f) xs) ys ≡ [] → is_first_constant (row ys) ≡ false
called_unconstant rights i j [] k e = refl
called_unconstant rights i j (None ∷ ys) k e = refl
called_unconstant rights i j (Some y ∷ ys) k e = callee_unconstant rights i j (sort_of y) (present ys) k e

-- one part, or none
abbrev AtMostOne : Parts → Type 0
AtMostOne (x ∷ y ∷ ys) = ⊥
AtMostOne ys = Unit {0}

selected_unconstant : (rights : Rights) (i j : ℕ) (name : List ℕ) (ys : Parts) → AtMostOne ys → FirstKeeps rights ys → on_one [] (λ x. selector_failing rights i j name (sort_of x)) ys ≡ [] → is_first_constant (row ys) ≡ false
selected_unconstant rights i j name [] o k e = refl
selected_unconstant rights i j name (None ∷ []) o k e = refl
selected_unconstant rights i j name (None ∷ y ∷ ys) o k e = refl
selected_unconstant rights i j name (Some x ∷ []) o k e = operand_unconstant rights i j name (sort_of x) k e
selected_unconstant rights i j name (Some x ∷ y ∷ ys) o k e = absurd o

selector_one : (xs : Parts) → AtMostOne xs → AtMostOne (selector_parts xs)
selector_one [] h = tt
selector_one (None ∷ []) h = tt
selector_one (None ∷ y ∷ xs) h = h
selector_one (Some x ∷ []) h = whichever AtMostOne (is_package (sort_of x)) [] (Some x ∷ []) tt tt
selector_one (Some x ∷ y ∷ xs) h = h

unconstant_applies : (f : Form) (ps : Typeds TypeTree) → is_first_constant ps ≡ false → applies f ps ≡ true
unconstant_applies form.Call ps e = ap not e
unconstant_applies (form.Selector n) ps e = ap not e
unconstant_applies f ps e = refl

-- what stands first stays
first_stays : (s : Scope) (k : Kind) (h : Hint) (all : Trees) (x : Part) (xs : Parts) (ps : Trees) → KeepsFamily s.rights (sort_of x) → FirstKeeps s.rights (typings s k h all (Some x ∷ xs) ps)
first_stays s k h all x xs none e = e
first_stays s k h all x xs (more p ps) e = first_stays s k h all x (xs ++ Some (typing (part_scope s k (Some x ∷ xs)) (hint s k h all (Some x ∷ xs) (kind_of p)) p) ∷ []) ps e
first_stays s k h all x xs (skip ps) e = first_stays s k h all x (xs ++ None ∷ []) ps e

-- ---- trees

module _ (l : Place) where
  called_keeps : (r : Standing) (s : Scope) (h : Hint) (p : Tree) → let c : Category = category.Expression level.Primary l in IsShaped c p → ExpressionIsKnown r s callee p → reported (faults s callee p) ≡ None
      → KeepsFamily s.rights (sort_of (typing s callee p))
  called_keeps r s h p w n e = ((typing_known r s callee (category.Expression level.Primary l) p w n e).1 refl).fits.family

  selected_keeps : (r : Standing) (s : Scope) (h : Hint) (p : Tree) → let c : Category = category.Expression level.Primary l in IsShaped c p → ExpressionIsKnown r s value p → reported (faults s value p) ≡ None
      → KeepsFamily s.rights (sort_of (typing s value p))
  selected_keeps r s h p w n e = ((typing_known r s value (category.Expression level.Primary l) p w n e).1 refl).fits.family

  call_first : (r : Standing) (s : Scope) (h : Hint) (ps : Trees) → AreShaped (rule l kind.Call) ps → ExpressionsAreKnown r s kind.Call h ps [] ps → reported (faults_of_parts s kind.Call h ps [] ps) ≡ None
      → FirstKeeps s.rights (typings s kind.Call h ps [] ps)
  call_first r s h none w n e = absurd w
  call_first r s h (skip ps) w n e = absurd w
  call_first r s h (more p ps) w n e =
      let k : Kind = kind.Call in
      let x : Part = typing s callee p in
      first_stays s k h (more p ps) x [] ps
      (called_keeps (standing_in r k [] (kind_of p)) s h p w.0 n.0 (reported_front (faults s callee p) (faults_of_parts s k h (more p ps) (Some x ∷ []) ps) e))

  selector_first : (r : Standing) (s : Scope) (h : Hint) (ps : Trees) → AreShaped (rule l kind.Selector) ps → ExpressionsAreKnown r s kind.Selector h ps [] ps → reported (faults_of_parts s kind.Selector h ps [] ps) ≡ None
      → FirstKeeps s.rights (typings s kind.Selector h ps [] ps) × AtMostOne (typings s kind.Selector h ps [] ps)
  selector_first r s h none w n e = absurd w
  selector_first r s h (skip ps) w n e = absurd w
  selector_first r s h (more p (more q ps)) w n e = absurd w.1
  selector_first r s h (more p (skip ps)) w n e = absurd w.1
  selector_first r s h (more p none) w n e =
      let k : Kind = kind.Selector in
      let x : Part = typing s value p in
      (selected_keeps (standing_in r k [] (kind_of p)) s h p w.0 n.0 (reported_front (faults s value p) [] e), tt)

-- the first part of a call or a selector is no constant
first_unconstant : (c : Place) (r : Standing) (s : Scope) (k : Kind) (h : Hint) (i j : ℕ) (ps : Trees) → is_applying k ≡ true → AreShaped (rule c k) ps → ExpressionsAreKnown r s k h ps [] ps → reported (faults_of_parts s k h ps [] ps) ≡ None
    → is_sound k (layout k (typings s k h ps [] ps)) (own_faults s k h i j (layout k (typings s k h ps [] ps))) ≡ true → is_first_constant (row (layout k (typings s k h ps [] ps))) ≡ false
first_unconstant c r s kind.Call h i j ps a w n e u =
    let xs : Parts = typings s kind.Call h ps [] ps in called_unconstant s.rights i j (call_parts xs) (call_keeps s.rights xs (call_first c r s h ps w n e)) (sound_passes s kind.Call h i j (call_parts xs) refl u)
first_unconstant c r s kind.Selector h i j ps a w n e u =
    let xs : Parts = typings s kind.Selector h ps [] ps in
    let first = selector_first c r s h ps w n e in
    selected_unconstant s.rights i j (s.texts (j - 1)) (selector_parts xs) (selector_one xs first.1) (selector_keeps s.rights xs first.0) (sound_passes s kind.Selector h i j (selector_parts xs) refl u)
first_unconstant c r s k h i j ps a w n e u = differ a

node_free : (s : Scope) (k : Kind) (h : Hint) (i j : ℕ) (ys : Parts) (b : Bool) → b ≡ true → (is_applying k ≡ true → is_first_constant (row ys) ≡ false) → EachFree ys → Free (built_by s k h i j ys b)
node_free s k h i j ys false e a g = differ e
node_free s k h i j ys true e a g =
    let zs : Parts = all_given (takes s k h ys) ys in
    truly (applies (form_by s k h i j ys) (row zs)) (none_called (row zs)) (by (is_applying k) refl) (row_free zs (all_given_free (takes s k h ys) ys g))
  where
    by : (b : Bool) → is_applying k ≡ b → applies (form_by s k h i j ys) (row (all_given (takes s k h ys) ys)) ≡ true
    by true u = unconstant_applies (form_by s k h i j ys) (row (all_given (takes s k h ys) ys)) (first_given (takes s k h ys) ys ∙ a u)
    by false u = unapplied (form_by s k h i j ys) (row (all_given (takes s k h ys) ys)) (form_plain s k h i j ys u)

mutual
  pub typing_free : (r : Standing) (s : Scope) (h : Hint) (c : Category) (t : Tree) → IsShaped c t → ExpressionIsKnown r s h t → reported (faults s h t) ≡ None → Free (typing s h t)
  typing_free r s h c (node k i j ps) w n e =
      let xs : Parts = typings s k h ps [] ps in
      let ys : Parts = layout k xs in
      let b : Bool = is_sound k ys (own_faults s k h i j ys) in
      let parts : reported (faults_of_parts s k h ps [] ps) ≡ None = reported_front (faults_of_parts s k h ps [] ps) (found s k h i j xs ∷ []) e in
      let sound : b ≡ true = built_sound s k h i j ys b (known_sort (built_by s k h i j ys b) (typing_known r s h c (node k i j ps) w n e).0) in
      node_free s k h i j ys b sound (λ a. first_unconstant (place_of c) r s k h i j ps a w.1 n.1 parts sound) (layout_free k xs (typings_free r s k h ps [] ps (rule (place_of c) k) w.1 n.1 parts tt))

  typings_free : (r : Standing) (s : Scope) (k : Kind) (h : Hint) (all : Trees) (xs : Parts) (ps : Trees) (w : Rule) → AreShaped w ps → ExpressionsAreKnown r s k h all xs ps → reported (faults_of_parts s k h all xs ps) ≡ None → EachFree xs
      → EachFree (typings s k h all xs ps)
  typings_free r s k h all xs none w g n e a = a
  typings_free r s k h all xs (more p ps) w g n e a =
      let t = part_scope s k xs in
      let q = hint s k h all xs (kind_of p) in
      let x = typing t q p in
      let later = faults_of_parts s k h all (xs ++ Some x ∷ []) ps in
      let own : Free x = typing_free (standing_in r k xs (kind_of p)) t q (next_category w) p (shaped_more w p ps g).0 n.0 (reported_front (faults t q p) later e) in
      typings_free r s k h all (xs ++ Some x ∷ []) ps (next_rule w) (shaped_more w p ps g).1 n.1 (reported_back (faults t q p) later e) (one_more xs x a own)
  typings_free r s k h all xs (skip ps) w g n e a = typings_free r s k h all (xs ++ None ∷ []) ps (next_rule w) (shaped_skip w ps g) n e (one_less xs a)
