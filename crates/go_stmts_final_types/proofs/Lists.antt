-- Lists of names and of values whose names are known, and that have no faults.
use Rattle.std.proofs.Common.{◌≡◌, ℕ, suc, Bool, true, false, cond, [], ◌∷◌, ◌++◌, List, length, map, Option, Some, None, refl, sym, ap, subst, ◌∙◌, append_assoc, append-nil, IsTrue}
use Rattle.std.specs.Prelude.{◌&&◌, is_some, nat_lt}
use Rattle.go_grammar.specs.declared.kind.Category.{Category}
use Rattle.go_grammar.specs.declared.kind.Category.TheVariants as category
use Rattle.go_grammar.specs.declared.kind.Kind.{Kind}
use Rattle.go_grammar.specs.declared.kind.Kind.TheVariants as kind
use Rattle.go_grammar.specs.declared.kind.Level.{Level}
use Rattle.go_grammar.specs.declared.kind.Level.TheVariants as level
use Rattle.go_grammar.specs.declared.kind.Place.{Place}
use Rattle.go_grammar.specs.declared.kind.Place.TheVariants as place
use Rattle.go_grammar.specs.Categories.{place_of}
use Rattle.go_grammar.specs.Categories as categories
use Rattle.go_grammar.specs.Grammar.{any, rule, agrees, is_name, are_names, count}
use Rattle.go_grammar.specs.Rules.{Rule, Again}
use Rattle.go_grammar.specs.Trees.{Tree, node, Trees, none, more, skip, kind_of, parts}
use Rattle.go_tokens.specs.declared.token.TokenKind.TheVariants as token
use Rattle.go_types.specs.Trees.{TypeTree}
use Rattle.go_types.specs.Relations.{Rights}
use Rattle.go_typed.specs.declared.form.Form.{Form}
use Rattle.go_typed.specs.declared.form.Form.TheVariants as form
use Rattle.go_typed.specs.Trees.{typed, sort_of, form_of}
use Rattle.go_typed.specs.Trees as sort
use Rattle.go_exprs_rules.specs.Faults.{reported}
use Rattle.go_exprs_rules.specs.Names.{declared_form}
use Rattle.go_exprs_rules.specs.Scopes.{Hint, value, several, declares, type_place}
use Rattle.go_exprs_rules.specs.Settling.{Part}
use Rattle.go_exprs_rules.specs.Tables.{Parts, is_held, held, all_held, cut, first_cut, leaf, is_type}
use Rattle.go_exprs_rules.specs.TypeNodes.{part_type}
use Rattle.go_exprs_rules.specs.Typing.{typing, faults}
use Rattle.go_stmts_defs.specs.Frames.{Frame, Locals, scope_of, declared_type}
use Rattle.go_stmts_defs.specs.Laying.{told, layout, new_or_known, new_form, new_name, behind_names, typed_or_not}
use Rattle.go_stmts_defs.specs.Reading.{Found, is_list, is_declared_name, list_node, name_node, holding, holdings, held_faults, all_held_faults}
use Rattle.go_stmts_final_types.specs.Known.{is_object, is_package_variable, IsKnown}
use Rattle.go_stmts_final_types.specs.Names.{alone, ExpressionIsKnown, IsOneOf, HeldIsKnown, HeldAreKnown}
use Rattle.go_stmts_final_types.specs.Shapes.{IsShaped, AreShaped}
use Rattle.go_stmts_final_types.proofs.Categories.{plain_held}
use Rattle.go_stmts_final_types.proofs.Declared.{Own, AreGiven, Given, Single, clear_given, clear_single}
use Rattle.go_stmts_final_types.proofs.Expressions.{is_constants, no_constants, nothing_typed, typing_known}
use Rattle.go_stmts_final_types.proofs.Facts.{Clear, Fact, reads, type_named}
use Rattle.go_stmts_final_types.proofs.Holders.{AreAll, many_all, list_row, no_list, no_declared, list_shaped}
use Rattle.go_stmts_final_types.proofs.Known.{AllKnown, known_row, known_both}
use Rattle.go_stmts_final_types.proofs.Layouts.{statement_layout}
use Rattle.go_stmts_final_types.proofs.Operands.{declared_fails}
use Rattle.go_stmts_final_types.proofs.Reading.{reported_front, reported_back}
use Rattle.go_stmts_final_types.proofs.RowRules.{front, behind_front, shaped_front, shaped_behind, shaped_skip}
use Rattle.go_stmts_final_types.proofs.Rows.{ranked, somes}
use Rattle.go_stmts_final_types.proofs.Statements.{Each}
use Rattle.go_stmts_final_types.proofs.Typing.{typing_fine}

-- ---- parts without statements

name_known : (s : Frame) (i j : ℕ) → IsKnown (name_node s i j)
name_known s i j =
    let f = declared_form s.around (s.around.objects i) in
    (refl, nothing_typed (is_package_variable f), no_constants f (declared_fails is_constants refl (λ r. refl) (λ n. refl) (λ n. refl) refl s.around (s.around.objects i)) sort.none, tt)

list_known : (s : Frame) (k : Kind) (i j : ℕ) (ys : Parts) → AllKnown ys → IsKnown (list_node s k i j ys)
list_known s k i j ys h = (refl, tt, tt, known_row ys h)

-- a node that is no list
lone_known : (s : Frame) (h : Hint) (c : Category) (k : Kind) (i j : ℕ) (ps : Trees) (d : Bool) → IsShaped c (node k i j ps) → IsOneOf d (is_object (declared_form s.around (s.around.objects i)) ≡ false) (ExpressionIsKnown alone (scope_of s) h (node k i j ps))
    → reported (cond d [] (faults (scope_of s) h (node k i j ps))) ≡ None → IsKnown (cond d (name_node s i j) (typing (scope_of s) h (node k i j ps)))
lone_known s h c k i j ps true w n e = name_known s i j
lone_known s h c k i j ps false w n e = (typing_known alone (scope_of s) h c (node k i j ps) w n e).0

holding_by : (s : Frame) (h : Hint) (c : Category) (k : Kind) (i j : ℕ) (ps : Trees) (b : Bool) → IsShaped c (node k i j ps)
    → IsOneOf b (HeldAreKnown s k h ps [] ps) (IsOneOf (is_declared_name k) (is_object (declared_form s.around (s.around.objects i)) ≡ false) (ExpressionIsKnown alone (scope_of s) h (node k i j ps)))
    → (HeldAreKnown s k h ps [] ps → reported (all_held_faults s k h ps [] ps) ≡ None → AllKnown (holdings s k h ps [] ps))
    → reported (cond b (all_held_faults s k h ps [] ps) (cond (is_declared_name k) [] (faults (scope_of s) h (node k i j ps)))) ≡ None
    → IsKnown (cond b (list_node s k i j (layout s k i (holdings s k h ps [] ps))) (cond (is_declared_name k) (name_node s i j) (typing (scope_of s) h (node k i j ps))))
holding_by s h c k i j ps true w n g e = list_known s k i j (layout s k i (holdings s k h ps [] ps)) (statement_layout s k i (holdings s k h ps [] ps) (g n e))
holding_by s h c k i j ps false w n g e = lone_known s h c k i j ps (is_declared_name k) w n e

mutual
  pub holding_known : (s : Frame) (h : Hint) (c : Category) (t : Tree) → IsShaped c t → HeldIsKnown s h t → reported (held_faults s h t) ≡ None → IsKnown (holding s h t)
  holding_known s h c (node k i j ps) w n e = holding_by s h c k i j ps (is_list k) w n (λ m f. holdings_known s k h ps [] ps (rule (place_of c) k) w.1 m f tt) e

  holdings_known : (s : Frame) (k : Kind) (h : Hint) (all : Trees) (xs : Parts) (ps : Trees) (r : Rule) → AreShaped r ps → HeldAreKnown s k h all xs ps → reported (all_held_faults s k h all xs ps) ≡ None → AllKnown xs → AllKnown (holdings s k h all xs ps)
  holdings_known s k h all xs none r w n e a = a
  holdings_known s k h all xs (more p ps) r w n e a =
      let g = told k h all xs (kind_of p) in
      let x = holding s g p in
      let later = all_held_faults s k h all (xs ++ Some x ∷ []) ps in
      let own = holding_known s g (front r) p (shaped_front r p ps w) n.0 (reported_front (held_faults s g p) later e) in
      holdings_known s k h all (xs ++ Some x ∷ []) ps (behind_front r) (shaped_behind r p ps w) n.1 (reported_back (held_faults s g p) later e) (known_both xs (Some x ∷ []) a (own, tt))
  holdings_known s k h all xs (skip ps) r w n e a = holdings_known s k h all (xs ++ None ∷ []) ps (behind_front r) (shaped_skip r ps w) n e (known_both xs (None ∷ []) a tt)

-- ---- expressions

plain_names : (s : Frame) (h : Hint) (k : Kind) (i j : ℕ) (ps : Trees) (b d : Bool) → b ≡ false → d ≡ false
    → IsOneOf b (HeldAreKnown s k h ps [] ps) (IsOneOf d (is_object (declared_form s.around (s.around.objects i)) ≡ false) (ExpressionIsKnown alone (scope_of s) h (node k i j ps))) → ExpressionIsKnown alone (scope_of s) h (node k i j ps)
plain_names s h k i j ps true d m n g = cc
plain_names s h k i j ps false true m n g = cc
plain_names s h k i j ps false false m n g = g

plain_faults : (fs gs : Found) (b d : Bool) → b ≡ false → d ≡ false → reported (cond b fs (cond d [] gs)) ≡ None → reported gs ≡ None
plain_faults fs gs true d m n e = cc
plain_faults fs gs false true m n e = cc
plain_faults fs gs false false m n e = e

plain_part : (x y z : Part) (b d : Bool) → b ≡ false → d ≡ false → cond b x (cond d y z) ≡ z
plain_part x y z true d m n = cc
plain_part x y z false true m n = cc
plain_part x y z false false m n = refl

-- a part that is typed
pub plain_fact : (s : Frame) (h : Hint) (c : Category) (k : Kind) (i j : ℕ) (ps : Trees) → is_list k ≡ false → is_declared_name k ≡ false → IsShaped c (node k i j ps) → HeldIsKnown s h (node k i j ps) → reported (held_faults s h (node k i j ps)) ≡ None
    → Fact c alone s.around.rights h k (holding s h (node k i j ps)) × (holding s h (node k i j ps) ≡ typing (scope_of s) h (node k i j ps))
plain_fact s h c k i j ps l d w n e =
    let x = typing (scope_of s) h (node k i j ps) in
    let same = plain_part (list_node s k i j (layout s k i (holdings s k h ps [] ps))) (name_node s i j) x (is_list k) (is_declared_name k) l d in
    let known = typing_known alone (scope_of s) h c (node k i j ps) w (plain_names s h k i j ps (is_list k) (is_declared_name k) l d n) (plain_faults (all_held_faults s k h ps [] ps) (faults (scope_of s) h (node k i j ps)) (is_list k) (is_declared_name k) l d e) in
    (subst (Fact c alone s.around.rights h k) (sym same) known.1, same)

expression_clear : (s : Frame) (h : Hint) (l : Level) (p : Place) (t : Tree) → IsShaped (category.Expression l p) t → HeldIsKnown s h t → reported (held_faults s h t) ≡ None → reads h ≡ true → Clear alone s.around.rights h (holding s h t)
expression_clear s h l p (node k i j ps) w n e g = (plain_fact s h (category.Expression l p) k i j ps (no_list k (ranked l k w.0)) (no_declared k (ranked l k w.0)) w n e).0 g

-- ---- values

module _ (s : Frame) (all : Trees) (b : Bool) (m : nat_lt 1 (count all) ≡ b) where
  value_row : (p : Place) (xs : Parts) (ps : Trees) → AreAll (any p) ps → HeldAreKnown s kind.ExpressionList several all xs ps → reported (all_held_faults s kind.ExpressionList several all xs ps) ≡ None
      → (vs : List Part) × (holdings s kind.ExpressionList several all xs ps ≡ xs ++ somes vs) × Each (Clear alone s.around.rights (cond b value several)) vs × (length vs ≡ count ps)
  value_row p xs none w n e = ([], sym (append-nil xs), tt, refl)
  value_row p xs (more q ps) w n e =
      let g = cond (nat_lt 1 (count all)) value several in
      let x = holding s g q in
      let later = all_held_faults s kind.ExpressionList several all (xs ++ Some x ∷ []) ps in
      let own = expression_clear s g level.Either p q w.0 n.0 (reported_front (held_faults s g q) later e) (by (nat_lt 1 (count all))) in
      let r = value_row p (xs ++ Some x ∷ []) ps w.1 n.1 (reported_back (held_faults s g q) later e) in
      (x ∷ r.0, r.1 ∙ append_assoc xs (Some x ∷ []) (somes r.0), (subst (λ z. Clear alone s.around.rights (cond z value several) x) m own, r.2), ap suc r.3)
    where
      by : (d : Bool) → reads (cond d value several) ≡ true
      by true = refl
      by false = refl
  value_row p xs (skip ps) w n e = elim w [ ]

each_given : (rights : Rights) (b : Bool) (vs : List Part) → Each (Clear alone rights (cond b value several)) vs → Each Given vs
each_given rights b [] h = tt
each_given rights b (v ∷ vs) h = (clear_given rights b v h.0, each_given rights b vs h.1)

each_single : (rights : Rights) (b : Bool) (vs : List Part) → b ≡ true → Each (Clear alone rights (cond b value several)) vs → Each Single vs
each_single rights b [] e h = tt
each_single rights b (v ∷ vs) e h = (clear_single rights v (subst (λ z. Clear alone rights (cond z value several) v) e h.0), each_single rights b vs e h.1)

-- a list of values
pub record GivenList (x : Part) : Type 0 where
  pub first : Part
  pub others : List Part
  pub are : held (Some x) ≡ somes (first ∷ others)
  pub given : AreGiven (first ∷ others)

listed : (s : Frame) (i j : ℕ) (vs : List Part) (rights : Rights) (b : Bool) (n : ℕ) → Each (Clear alone rights (cond b value several)) vs → nat_lt 1 (suc n) ≡ b → length vs ≡ suc n → GivenList (list_node s kind.ExpressionList i j (somes vs))
listed s i j [] rights b n h m c = cc
listed s i j (v ∷ vs) rights b n h m c = record {
  first = v;
  others = vs;
  are = list_row (somes (v ∷ vs));
  given = record { given = each_given rights b (v ∷ vs) h; single = λ e. each_single rights b (v ∷ vs) (sym m ∙ (ap (nat_lt 1) (sym c) ∙ e)) h };
}

pub values_given : (s : Frame) (p : Place) (t : Tree) → IsShaped (category.ExpressionList p) t → HeldIsKnown s several t → reported (held_faults s several t) ≡ None → GivenList (holding s several t)
values_given s p (node kind.ExpressionList i j none) w n e = elim w.1 [ ]
values_given s p (node kind.ExpressionList i j (skip ps)) w n e = elim w.1 [ ]
values_given s p (node kind.ExpressionList i j (more q ps)) w n e =
    let b = nat_lt 1 (count (more q ps)) in
    let r = value_row s (more q ps) b refl p [] (more q ps) (list_shaped p (more q ps) w.1) n e in
    subst (λ zs. GivenList (list_node s kind.ExpressionList i j zs)) (sym r.1) (listed s i j r.0 s.around.rights b (count ps) r.2 refl r.3)
values_given s p (node k i j ps) w n e = let e = w.0 in cc

-- ---- names

abbrev pub AllOwn : Parts → Type 0
AllOwn [] = Unit {0}
AllOwn (None ∷ xs) = AllOwn xs
AllOwn (Some x ∷ xs) = Own x × AllOwn xs

pub own_each : (vs : List Part) → AllOwn (somes vs) → Each Own vs
own_each [] h = tt
own_each (v ∷ vs) h = (h.0, own_each vs h.1)

pub own_both : (xs ys : Parts) → AllOwn xs → AllOwn ys → AllOwn (xs ++ ys)
own_both [] ys h g = g
own_both (None ∷ xs) ys h g = own_both xs ys h g
own_both (Some x ∷ xs) ys h g = (h.0, own_both xs ys h.1 g)

own_name : (s : Frame) (q : Tree) → IsShaped category.DeclaredName q → HeldIsKnown s declares q → Own (holding s declares q)
own_name s (node kind.DeclaredName i j ps) w n = n
own_name s (node k i j ps) w n = let e = w.0 in cc

own_row : (s : Frame) (g : Hint) (all : Trees) (xs : Parts) (ps : Trees) → AreAll category.DeclaredName ps → HeldAreKnown s kind.NameList g all xs ps → AllOwn xs → AllOwn (holdings s kind.NameList g all xs ps)
own_row s g all xs none w n a = a
own_row s g all xs (more q ps) w n a = own_row s g all (xs ++ Some (holding s declares q) ∷ []) ps w.1 n.1 (own_both xs (Some (holding s declares q) ∷ []) a (own_name s q w.0 n.0, tt))
own_row s g all xs (skip ps) w n a = elim w [ ]

-- what is held by a list of names
pub names_own : (s : Frame) (g : Hint) (t : Tree) → IsShaped category.NameList t → HeldIsKnown s g t → AllOwn (held (Some (holding s g t)))
names_own s g (node kind.NameList i j none) w n = elim w.1 [ ]
names_own s g (node kind.NameList i j (skip ps)) w n = elim w.1 [ ]
names_own s g (node kind.NameList i j (more q ps)) w n =
    let ys = holdings s kind.NameList g (more q ps) [] (more q ps) in
    subst AllOwn (sym (list_row ys)) (own_row s g (more q ps) [] (more q ps) (w.1.0, many_all [] (Again category.DeclaredName token.Comma) ps w.1.1) n tt)
names_own s g (node k i j ps) w n = let e = w.0 in cc

new_or_own : (n : ℕ) (o : Option TypeTree) → is_object (new_or_known n o) ≡ false
new_or_own n (Some t) = refl
new_or_own n None = refl

new_own : (ls : Locals) (f : Form) → is_object f ≡ false → is_object (new_form ls f) ≡ false
new_own ls (form.Declared n) e = new_or_own n (declared_type ls n)
new_own ls f e = e

renamed_own : (ls : Locals) (xs : Parts) → AllOwn xs → AllOwn (map (new_name ls) xs)
renamed_own ls [] h = tt
renamed_own ls (None ∷ xs) h = renamed_own ls xs h
renamed_own ls (Some (typed f i j l ps) ∷ xs) h = (new_own ls f h.0, renamed_own ls xs h.1)

own_bare : (s : Frame) (l : Level) (p : Place) (q : Tree) → IsShaped (category.Expression l p) q → is_name (kind_of q) ≡ true → HeldIsKnown s declares q → Own (holding s declares q)
own_bare s l p (node kind.Name i j none) w e n = n.0
own_bare s l p (node kind.Name i j (more q ps)) w e n = elim w.1 [ ]
own_bare s l p (node kind.Name i j (skip ps)) w e n = elim w.1 [ ]
own_bare s l p (node k i j ps) w e n = cc

both : (a b : Bool) → (a && b) ≡ true → (a ≡ true) × (b ≡ true)
both true true e = (refl, refl)
both true false e = cc
both false b e = cc

bare_row : (s : Frame) (p : Place) (all : Trees) (xs : Parts) (ps : Trees) → AreAll (any p) ps → are_names ps ≡ true → HeldAreKnown s kind.ExpressionList declares all xs ps → AllOwn xs → AllOwn (holdings s kind.ExpressionList declares all xs ps)
bare_row s p all xs none w m n a = a
bare_row s p all xs (more q ps) w m n a =
    let b = both (is_name (kind_of q)) (are_names ps) m in
    bare_row s p all (xs ++ Some (holding s declares q) ∷ []) ps w.1 b.1 n.1 (own_both xs (Some (holding s declares q) ∷ []) a (own_bare s level.Either p q w.0 b.0 n.0, tt))
bare_row s p all xs (skip ps) w m n a = elim w [ ]

listed_own : (s : Frame) (p : Place) (q : Tree) → IsShaped (category.LeftList p) q → are_names (parts q) ≡ true → HeldIsKnown s declares q → AllOwn (held (Some (holding s declares q)))
listed_own s p (node kind.ExpressionList i j ps) w m n =
    let ys = holdings s kind.ExpressionList declares ps [] ps in subst AllOwn (sym (list_row ys)) (bare_row s p ps [] ps (list_shaped p ps w.1) m n tt)
listed_own s p (node k i j ps) w m n = let e = w.0 in cc

-- what is held in front of `:=`
pub new_names_own : (s : Frame) (h : Hint) (p : Place) (t : Tree) → IsShaped (category.NewNames p) t → HeldIsKnown s h t → AllOwn (held (Some (holding s h t)))
new_names_own s h p (node kind.NewNames i j none) w n = elim w.1 [ ]
new_names_own s h p (node kind.NewNames i j (skip ps)) w n = elim w.1 [ ]
new_names_own s h p (node kind.NewNames i j (more q none)) w n =
    let zs = all_held (Some (holding s declares q) ∷ []) in
    let ys = map (new_name s.locals) zs in
    subst AllOwn (sym (list_row ys)) (renamed_own s.locals zs (own_both (held (Some (holding s declares q))) [] (listed_own s p q w.1.0 w.2 n.0) tt))
new_names_own s h p (node kind.NewNames i j (more q (more r ps))) w n = elim w.1.1 [ ]
new_names_own s h p (node kind.NewNames i j (more q (skip ps))) w n = elim w.1.1 [ ]
new_names_own s h p (node k i j ps) w n = let e = w.0 in cc

-- ---- what stands behind the names of a specification of variables

pub record RestIs (x : Part) : Type 0 where
  pub type : Option Part
  pub values : List Part
  pub are : first_cut (typed_or_not (Some x)) ≡ type ∷ somes values
  pub typed : values ≡ [] → is_some (part_type type) ≡ true
  pub given : AreGiven values

no_values : (x : Part) → is_held (form_of x) ≡ false → typed_or_not (Some x) ≡ Some x ∷ []
no_values (typed (form.Held k) i j l ps) e = cc
no_values (typed f i j l ps) e = refl

cut_type : (x : Part) (b : Bool) → is_type (sort_of x) ≡ true → is_some (part_type (cond b (Some (leaf x)) (Some x))) ≡ true
cut_type (typed f i j l ps) true e = type_named l.sort e
cut_type x false e = type_named (sort_of x) e

type_list : (k : Kind) → categories.is_type k ≡ true → is_list k ≡ false
type_list kind.NameList e = cc
type_list kind.NewNames e = cc
type_list kind.Targets e = cc
type_list kind.ExpressionList e = cc
type_list kind.TypedValues e = cc
type_list kind.Values e = cc
type_list k e = refl

type_declared : (k : Kind) → categories.is_type k ≡ true → is_declared_name k ≡ false
type_declared kind.DeclaredName e = cc
type_declared k e = refl

record IsTypePart (x : Part) : Type 0 where
  pub plain : is_held (form_of x) ≡ false
  pub type : is_type (sort_of x) ≡ true

type_part : (s : Frame) (t : Tree) → IsShaped category.Type t → HeldIsKnown s type_place t → reported (held_faults s type_place t) ≡ None → IsTypePart (holding s type_place t)
type_part s (node k i j ps) w n e =
    let f = plain_fact s type_place category.Type k i j ps (type_list k w.0) (type_declared k w.0) w n e in
    record { plain = subst (λ x. is_held (form_of x) ≡ false) (sym f.1) (typing_fine (scope_of s) type_place category.Type (node k i j ps) w).plain; type = f.0.1 refl }

type_rest : (x : Part) → IsTypePart x → RestIs x
type_rest x h = record {
  type = cut (Some x);
  values = [];
  are = ap first_cut (no_values x h.plain);
  typed = λ e. cut_type x (is_type (sort_of x)) h.type;
  given = record { given = tt; single = λ e. tt };
}

values_rest : (s : Frame) (i j : ℕ) (y : Part) → GivenList y → RestIs (list_node s kind.Values i j (all_held (Some y ∷ [])))
values_rest s i j y g = record {
  type = None;
  values = g.first ∷ g.others;
  are = ap (λ zs. None ∷ zs) (list_row (all_held (Some y ∷ [])) ∙ (append-nil (held (Some y)) ∙ g.are));
  typed = λ e. cc;
  given = g.given;
}

typed_rest : (s : Frame) (i j : ℕ) (x y : Part) → IsTypePart x → GivenList y → RestIs (list_node s kind.TypedValues i j (all_held (Some x ∷ Some y ∷ [])))
typed_rest s i j x y h g = record {
  type = cut (Some x);
  values = g.first ∷ g.others;
  are = ap first_cut (list_row (all_held (Some x ∷ Some y ∷ [])) ∙ (ap (λ zs. zs ++ (held (Some y) ++ [])) (plain_held x h.plain) ∙ ap (λ zs. Some x ∷ zs) (append-nil (held (Some y)) ∙ g.are)));
  typed = λ e. cc;
  given = g.given;
}

rest_type : (s : Frame) (k : Kind) (i j : ℕ) (ps : Trees) → categories.is_type k ≡ true → AreShaped (rule place.Free k) ps → HeldIsKnown s type_place (node k i j ps) → reported (held_faults s type_place (node k i j ps)) ≡ None → RestIs (holding s type_place (node k i j ps))
rest_type s k i j ps t w n e = type_rest (holding s type_place (node k i j ps)) (type_part s (node k i j ps) (t, w, agree k t) n e)
  where
    agree : (k : Kind) → categories.is_type k ≡ true → IsTrue (agrees k ps)
    agree kind.Name t = refl
    agree kind.ParenthesizedType t = refl
    agree kind.SequenceType t = refl
    agree kind.FunctionType t = refl
    agree kind.StructType t = refl
    agree k t = cc

only_values : (s : Frame) (i j : ℕ) (ps : Trees) → AreShaped (rule place.Free kind.Values) ps → HeldIsKnown s several (node kind.Values i j ps) → reported (held_faults s several (node kind.Values i j ps)) ≡ None → RestIs (holding s several (node kind.Values i j ps))
only_values s i j none w n e = elim w [ ]
only_values s i j (skip ps) w n e = elim w [ ]
only_values s i j (more q none) w n e = values_rest s i j (holding s several q) (values_given s place.Free q w.0 n.0 (reported_front (held_faults s several q) [] e))
only_values s i j (more q (more r ps)) w n e = elim w.1 [ ]
only_values s i j (more q (skip ps)) w n e = elim w.1 [ ]

typed_values : (s : Frame) (i j : ℕ) (ps : Trees) → AreShaped (rule place.Free kind.TypedValues) ps → HeldIsKnown s several (node kind.TypedValues i j ps) → reported (held_faults s several (node kind.TypedValues i j ps)) ≡ None → RestIs (holding s several (node kind.TypedValues i j ps))
typed_values s i j none w n e = elim w [ ]
typed_values s i j (skip ps) w n e = elim w [ ]
typed_values s i j (more t none) w n e = elim w.1 [ ]
typed_values s i j (more t (skip ps)) w n e = elim w.1 [ ]
typed_values s i j (more t (more q none)) w n e =
    let ft = held_faults s type_place t in
    let fq = held_faults s several q in
    typed_rest s i j (holding s type_place t) (holding s several q) (type_part s t w.0 n.0 (reported_front ft (fq ++ []) e)) (values_given s place.Free q w.1.0 n.1.0 (reported_front fq [] (reported_back ft (fq ++ []) e)))
typed_values s i j (more t (more q (more r ps))) w n e = elim w.1.1 [ ]
typed_values s i j (more t (more q (skip ps))) w n e = elim w.1.1 [ ]

rest_by : (s : Frame) (t : Tree) → IsShaped category.VariableRest t → HeldIsKnown s (behind_names (kind_of t) several) t → reported (held_faults s (behind_names (kind_of t) several) t) ≡ None → RestIs (holding s (behind_names (kind_of t) several) t)
rest_by s (node kind.Values i j ps) w n e = only_values s i j ps w.1 n e
rest_by s (node kind.TypedValues i j ps) w n e = typed_values s i j ps w.1 n e
rest_by s (node kind.Name i j ps) w n e = rest_type s kind.Name i j ps refl w.1 n e
rest_by s (node kind.ParenthesizedType i j ps) w n e = rest_type s kind.ParenthesizedType i j ps refl w.1 n e
rest_by s (node kind.SequenceType i j ps) w n e = rest_type s kind.SequenceType i j ps refl w.1 n e
rest_by s (node kind.FunctionType i j ps) w n e = rest_type s kind.FunctionType i j ps refl w.1 n e
rest_by s (node kind.StructType i j ps) w n e = rest_type s kind.StructType i j ps refl w.1 n e
rest_by s (node k i j ps) w n e = let e = w.0 in cc

pub rest_given : (s : Frame) (g : Hint) (t : Tree) → IsShaped category.VariableRest t → HeldIsKnown s g t → reported (held_faults s g t) ≡ None → g ≡ behind_names (kind_of t) several → RestIs (holding s g t)
rest_given s g t w n e m = subst (λ z. RestIs (holding s z t)) (sym m) (rest_by s t w (subst (λ z. HeldIsKnown s z t) m n) (subst (λ z. reported (held_faults s z t) ≡ None) m e))
