-- In what is read of a body without faults, whose names stand for something known, no constant is called and none is a struct.
use Rattle.std.proofs.Common.{◌≡◌, ℕ, Bool, true, false, if◌then◌else◌, List, [], ◌∷◌, ◌++◌, length, take, Some, None, refl, sym, ap, subst}
use Rattle.go_grammar.specs.declared.kind.Category.{Category}
use Rattle.go_grammar.specs.declared.kind.Kind.{Kind}
use Rattle.go_grammar.specs.declared.kind.Kind.TheVariants as kind
use Rattle.go_grammar.specs.declared.kind.Sort.TheVariants as declaring
use Rattle.go_grammar.specs.Categories.{place_of}
use Rattle.go_grammar.specs.Grammar.{rule}
use Rattle.go_grammar.specs.Rules.{Rule}
use Rattle.go_grammar.specs.Trees.{Tree, node, Trees, none, more, skip, kind_of}
use Rattle.go_rewriting.specs.Replacing.{next_category, next_rule}
use Rattle.go_typed.specs.declared.form.Form.{Form}
use Rattle.go_typed.specs.declared.form.Form.TheVariants as form
use Rattle.go_typed.specs.Trees.{row, list_of}
use Rattle.go_typed.specs.Trees as trees
use Rattle.go_exprs_rules.specs.declared.fault.TypeFault.{TypeFault}
use Rattle.go_exprs_rules.specs.Faults.{reported}
use Rattle.go_exprs_rules.specs.Names.{declared_form}
use Rattle.go_exprs_rules.specs.Scopes.{Hint}
use Rattle.go_exprs_rules.specs.Settling.{Part}
use Rattle.go_exprs_rules.specs.Tables.{Parts, held, first_cut}
use Rattle.go_exprs_rules.specs.Typing.{typing, faults}
use Rattle.go_stmts_defs.specs.Frames.{Frame, scope_of}
use Rattle.go_stmts_defs.specs.Laying.{told, layout, form_by, typed_or_not, type_name}
use Rattle.go_stmts_defs.specs.Reading.{Found, is_list, is_declared_name, is_statement, list_node, name_node, holding, holdings, held_faults, all_held_faults, beginning, entering, left_out, left_out_faults}
use Rattle.go_stmts_defs.specs.Reading.{Reading, read, Readings, all_read, after, closed, reading, readings}
use Rattle.go_stmts_defs.specs.Rules.{own_faults, taking, all_given, built_by}
use Rattle.go_stmts_final_types.specs.Known.{is_object}
use Rattle.go_stmts_final_types.specs.Names.{alone, ExpressionIsKnown, IsOneOf, HeldIsKnown, HeldAreKnown, RangeIsKnown, NamesAreKnown, AllNamesAreKnown, tree_in, frame_in, parts_in, frame_all}
use Rattle.go_stmts_final_types.specs.Shapes.{IsShaped, AreShaped}
use Rattle.go_function_holes.specs.Holes.{applies, none_called}
use Rattle.go_stmts_tokens.specs.Lying.{is_inner}
use Rattle.go_stmts_tokens.proofs.Public.{HasNames, is_outer}
use Rattle.go_stmts_callees.proofs.Uncalled.{differ, truly, Free, EachFree, row_free, one_more, one_less, held_free}
use Rattle.go_stmts_callees.proofs.Expressions.{is_applied, unapplied, declared_plain, shaped_more, shaped_skip, reported_front, reported_back, typing_free}
use Rattle.go_stmts_callees.proofs.Nesting.{AllNested, Nested}
use Rattle.go_stmts_callees.proofs.Layouts.{all_given_free, front_given_free, is_told, layout_free, EachNamesFree, InnerFree, Of, EachOf, fitting, append_of, strict, inner_row, declared_free, form_plain}

-- ---- one of two

-- what was found, and what it says, are those of the one or of the other
one_held : (b : Bool) (A B : Type 0) (X Y : Part) (F G : Found) (P : Part → Type 0) → IsOneOf b A B → reported (if b then F else G) ≡ None
    → (b ≡ true → A → reported F ≡ None → P X) → (b ≡ false → B → reported G ≡ None → P Y) → P (if b then X else Y)
one_held true A B X Y F G P h e f g = f refl h e
one_held false A B X Y F G P h e f g = g refl h e

abbrev pub found_in : Reading → Found
found_in (read x fs s) = fs

abbrev pub found_all : Readings → Found
found_all (all_read xs fs s) = fs

one_read : (b : Bool) (A B : Type 0) (X Y : Reading) (P : Reading → Type 0) → IsOneOf b A B → reported (found_in (if b then X else Y)) ≡ None
    → (A → reported (found_in X) ≡ None → P X) → (B → reported (found_in Y) ≡ None → P Y) → P (if b then X else Y)
one_read true A B X Y P h e f g = f h e
one_read false A B X Y P h e f g = g h e

-- ---- parts without statements

list_told : (k : Kind) → is_list k ≡ true → is_told k ≡ true
list_told kind.NameList e = refl
list_told kind.NewNames e = refl
list_told kind.Targets e = refl
list_told kind.ExpressionList e = refl
list_told kind.TypedValues e = refl
list_told kind.Values e = refl
list_told k e = differ e

name_free : (s : Frame) (i j : ℕ) → Free (name_node s i j)
name_free s i j = truly (applies (declared_form s.around (s.around.objects i)) trees.none) true (unapplied (declared_form s.around (s.around.objects i)) trees.none (declared_plain s.around (s.around.objects i))) refl

-- a name that is declared is none that is declared outside
abbrev IsOwnName : Frame → ℕ → Type 0
IsOwnName s i = is_object (declared_form s.around (s.around.objects i)) ≡ false

mutual
  holding_free : (c : Category) (s : Frame) (h : Hint) (t : Tree) → IsShaped c t → HeldIsKnown s h t → reported (held_faults s h t) ≡ None → Free (holding s h t)
  holding_free c s h (node k i j ps) w n e =
      let ys : Parts = layout s k i (holdings s k h ps [] ps) in
      one_held (is_list k) (HeldAreKnown s k h ps [] ps) (IsOneOf (is_declared_name k) (IsOwnName s i) (ExpressionIsKnown alone (scope_of s) h (node k i j ps))) (list_node s k i j ys)
      (if is_declared_name k then name_node s i j else typing (scope_of s) h (node k i j ps)) (all_held_faults s k h ps [] ps) (if is_declared_name k then [] else faults (scope_of s) h (node k i j ps)) Free n e
      (λ u m f. row_free ys (layout_free s k i (holdings s k h ps [] ps) (list_told k u) (holdings_free (rule (place_of c) k) s k h ps [] ps w.1 m f tt)))
      (λ u m f. one_held (is_declared_name k) (IsOwnName s i) (ExpressionIsKnown alone (scope_of s) h (node k i j ps)) (name_node s i j) (typing (scope_of s) h (node k i j ps)) [] (faults (scope_of s) h (node k i j ps)) Free m f
      (λ v o g. name_free s i j) (λ v o g. typing_free alone (scope_of s) h c (node k i j ps) w o g))

  holdings_free : (r : Rule) (s : Frame) (k : Kind) (h : Hint) (all : Trees) (xs : Parts) (ps : Trees) → AreShaped r ps → HeldAreKnown s k h all xs ps → reported (all_held_faults s k h all xs ps) ≡ None → EachFree xs
      → EachFree (holdings s k h all xs ps)
  holdings_free r s k h all xs none w n e a = a
  holdings_free r s k h all xs (more p ps) w n e a =
      let to : Hint = told k h all xs (kind_of p) in
      let x : Part = holding s to p in
      let later : Found = all_held_faults s k h all (xs ++ Some x ∷ []) ps in
      let v = shaped_more r p ps w in
      holdings_free (next_rule r) s k h all (xs ++ Some x ∷ []) ps v.1 n.1 (reported_back (held_faults s to p) later e) (one_more xs x a (holding_free (next_category r) s to p v.0 n.0 (reported_front (held_faults s to p) later e)))
  holdings_free r s k h all xs (skip ps) w n e a = holdings_free (next_rule r) s k h all (xs ++ None ∷ []) ps (shaped_skip r ps w) n e (one_less xs a)

-- ---- a node over its parts

list_row : (xs : Parts) → list_of (row xs) ≡ xs
list_row [] = refl
list_row (None ∷ xs) = ap (λ ys. None ∷ ys) (list_row xs)
list_row (Some x ∷ xs) = ap (λ ys. Some x ∷ ys) (list_row xs)

made_free : (s : Frame) (k : Kind) (f : Form) (i j : ℕ) (ys : Parts) (own : List TypeFault) → is_applied f ≡ false → EachFree ys → Free (built_by s k f i j ys own)
made_free s k f i j ys [] p h =
    let zs : Parts = all_given (taking s k f ys) ys in truly (applies f (row zs)) (none_called (row zs)) (unapplied f (row zs) p) (row_free zs (all_given_free (taking s k f ys) ys h))
made_free s k f i j ys (e ∷ es) p h = truly (applies f (row ys)) (none_called (row ys)) (unapplied f (row ys) p) (row_free ys h)

-- so many of its parts are names
specified_free : (s : Frame) (k : Kind) (i j : ℕ) (hs ys : Parts) (own : List TypeFault) → EachFree hs → InnerFree (built_by s k (form.Specified (length hs)) i j (hs ++ ys) own)
specified_free s k i j hs ys [] h =
    let ks = taking s k (form.Specified (length hs)) (hs ++ ys) in
    (subst (λ ws. EachFree (take (length hs) ws)) (sym (list_row (all_given ks (hs ++ ys)))) (front_given_free ks hs ys h), λ e. differ e)
specified_free s k i j hs ys (e ∷ es) h = (subst (λ ws. EachFree (take (length hs) ws)) (sym (list_row (hs ++ ys))) (front_given_free [] hs ys h), λ e. differ e)

-- specifications of constants, which may have the values of one in front of them
abbrev repeats : Kind → Bool
repeats (kind.Specification declaring.Constant) = true
repeats k = false

nothing_left_out : (s : Frame) (k : Kind) → repeats k ≡ false → left_out s k ≡ None
nothing_left_out s (kind.Specification declaring.Constant) e = differ (sym e)
nothing_left_out s (kind.Specification declaring.Type) e = refl
nothing_left_out s (kind.Specification declaring.Variable) e = refl
nothing_left_out s k e = refl

-- the names come first
abbrev FirstFree : Parts → Type 0
FirstFree (Some x ∷ z ∷ []) = Free x
FirstFree xs = ⊥

abbrev PartsFree : Bool → Bool → Parts → Type 0
PartsFree true o xs = FirstFree xs
PartsFree false o xs = EachOf o xs

constant_free : (s : Frame) (i j : ℕ) (xs : Parts) → FirstFree xs → let k : Kind = kind.Specification declaring.Constant in (own : List TypeFault) → InnerFree (built_by s k (form_by k xs) i j (layout s k i xs) own)
constant_free s i j [] h own = absurd h
constant_free s i j (None ∷ xs) h own = absurd h
constant_free s i j (Some x ∷ []) h own = absurd h
constant_free s i j (Some x ∷ z ∷ w ∷ ws) h own = absurd h
constant_free s i j (Some x ∷ z ∷ []) h own = specified_free s (kind.Specification declaring.Constant) i j (held (Some x)) (first_cut (typed_or_not z)) own (held_free x h)

type_name_free : (s : Frame) (i : ℕ) → Free (type_name s i)
type_name_free s i = truly (applies (declared_form s.around (s.around.objects i)) trees.none) true (unapplied (declared_form s.around (s.around.objects i)) trees.none (declared_plain s.around (s.around.objects i))) refl

type_free : (s : Frame) (i j : ℕ) (xs : Parts) → let k : Kind = kind.Specification declaring.Type in (own : List TypeFault) → InnerFree (built_by s k (form_by k xs) i j (layout s k i xs) own)
type_free s i j xs [] = ((type_name_free s i, tt), λ e. differ e)
type_free s i j xs (e ∷ es) = ((type_name_free s i, tt), λ e. differ e)

constants_free : (s : Frame) (i j : ℕ) (xs : Parts) → EachOf true xs → let k : Kind = kind.Group declaring.Constant in (own : List TypeFault) → InnerFree (built_by s k (form_by k xs) i j (layout s k i xs) own)
constants_free s i j xs h [] = (tt, λ e. subst EachNamesFree (sym (list_row xs)) (inner_row xs h))
constants_free s i j xs h (e ∷ es) = (tt, λ e. subst EachNamesFree (sym (list_row xs)) (inner_row xs h))

types_free : (s : Frame) (i j : ℕ) (xs : Parts) → EachOf true xs → let k : Kind = kind.Group declaring.Type in (own : List TypeFault) → InnerFree (built_by s k (form_by k xs) i j (layout s k i xs) own)
types_free s i j xs h [] = (tt, λ e. subst EachNamesFree (sym (list_row xs)) (inner_row xs h))
types_free s i j xs h (e ∷ es) = (tt, λ e. subst EachNamesFree (sym (list_row xs)) (inner_row xs h))

over_free : (s : Frame) (k : Kind) (i j : ℕ) (xs : Parts) → PartsFree (repeats k) (is_outer k) xs → (own : List TypeFault) → Of (is_inner k) (built_by s k (form_by k xs) i j (layout s k i xs) own)
over_free s (kind.Specification declaring.Constant) i j xs h own = constant_free s i j xs h own
over_free s (kind.Specification declaring.Type) i j xs h own = type_free s i j xs own
over_free s (kind.Specification declaring.Variable) i j xs h own =
    let k : Kind = kind.Specification declaring.Variable in made_free s k (form_by k xs) i j (layout s k i xs) own refl (layout_free s k i xs refl (strict xs h))
over_free s (kind.Group declaring.Constant) i j xs h own = constants_free s i j xs h own
over_free s (kind.Group declaring.Type) i j xs h own = types_free s i j xs h own
over_free s (kind.Group declaring.Variable) i j xs h own =
    let k : Kind = kind.Group declaring.Variable in made_free s k (form_by k xs) i j (layout s k i xs) own refl (layout_free s k i xs refl (strict xs h))
over_free s (kind.Declaration declaring.Constant) i j xs h own =
    let k : Kind = kind.Declaration declaring.Constant in made_free s k (form_by k xs) i j (layout s k i xs) own refl (declared_free xs h)
over_free s (kind.Declaration declaring.Type) i j xs h own =
    let k : Kind = kind.Declaration declaring.Type in made_free s k (form_by k xs) i j (layout s k i xs) own refl (declared_free xs h)
over_free s (kind.Declaration declaring.Variable) i j xs h own =
    let k : Kind = kind.Declaration declaring.Variable in made_free s k (form_by k xs) i j (layout s k i xs) own refl (layout_free s k i xs refl (strict xs h))
over_free s k i j xs h own = made_free s k (form_by k xs) i j (layout s k i xs) own (form_plain k xs) (layout_free s k i xs refl (strict xs h))

closed_free : (before : Frame) (k : Kind) (i j : ℕ) (ps : Trees) (r : Readings) → PartsFree (repeats k) (is_outer k) (parts_in r) → Of (is_inner k) (tree_in (closed before k i j ps r))
closed_free before k i j ps (all_read xs fs s) h = over_free s k i j xs h (own_faults s k (form_by k xs) i j (layout s k i xs))

closed_front : (before : Frame) (k : Kind) (i j : ℕ) (ps : Trees) (r : Readings) → reported (found_in (closed before k i j ps r)) ≡ None → reported (found_all r) ≡ None
closed_front before k i j ps (all_read xs fs s) e = reported_front fs (own_faults s k (form_by k xs) i j (layout s k i xs) ∷ []) e

-- ---- rows

after_is : (r : Reading) (next : Part → Found → Frame → Readings) → after r next ≡ next (tree_in r) (found_in r) (frame_in r)
after_is (read x fs s) next = refl

-- what is reported of a row is what is reported of its front
row_front : (s : Frame) (k : Kind) (h : Hint) (all : Trees) (xs : Parts) (fs : Found) (ps : Trees) → reported (found_all (readings s k h all xs fs ps)) ≡ None → reported fs ≡ None
row_front s k h all xs fs none e = e
row_front s k h all xs fs (more p ps) e =
    let q : Reading = reading (entering k xs s) (told k h all xs (kind_of p)) p in
    reported_front fs (found_in q) (row_front (frame_in q) k h all (xs ++ Some (tree_in q) ∷ []) (fs ++ found_in q) ps
    (subst (λ z. reported (found_all z) ≡ None) (after_is q (λ x gs t. readings t k h all (xs ++ Some x ∷ []) (fs ++ gs) ps)) e))
row_front s k h all xs fs (skip ps) e =
    let t : Frame = entering k xs s in reported_front fs (left_out_faults t k) (row_front t k h all (xs ++ left_out t k ∷ []) (fs ++ left_out_faults t k) ps e)

is_constants : (k : Kind) → repeats k ≡ true → k ≡ kind.Specification declaring.Constant
is_constants (kind.Specification declaring.Constant) e = refl
is_constants (kind.Specification declaring.Type) e = differ e
is_constants (kind.Specification declaring.Variable) e = differ e
is_constants k e = differ e

either_way : (b o : Bool) (xs : Parts) → (b ≡ true → FirstFree xs) → (b ≡ false → EachOf o xs) → PartsFree b o xs
either_way true o xs f g = f refl
either_way false o xs f g = g refl

mutual
  pub reading_free : (c : Category) (s : Frame) (h : Hint) (t : Tree) → IsShaped c t → Nested t → NamesAreKnown s h t → reported (found_in (reading s h t)) ≡ None → Of (is_inner (kind_of t)) (tree_in (reading s h t))
  reading_free c s h (node k i j ps) w g n e =
      let from : Frame = beginning k i s in
      let r : Readings = readings from k h ps [] [] ps in
      one_read (is_statement k) (RangeIsKnown k (frame_all r) (parts_in r) × AllNamesAreKnown from k h ps [] ps) (HeldIsKnown s h (node k i j ps)) (closed s k i j ps r) (read (holding s h (node k i j ps)) (held_faults s h (node k i j ps)) s)
      (λ q. Of (is_inner k) (tree_in q)) n e
      (λ m f. let front : reported (found_all r) ≡ None = closed_front s k i j ps r f in closed_free s k i j ps r (either_way (repeats k) (is_outer k) (parts_in r)
      (λ u. constant_parts (rule (place_of c) k) from k h ps ps w.1 (subst (λ q. HasNames q ps) (is_constants k u) g.0) (subst (λ q. AllNested (is_outer q) ps) (is_constants k u) g.1) m.1 front)
      (λ u. rows_free (is_outer k) (rule (place_of c) k) from k u h ps [] [] ps w.1 g.1 m.1 front tt)))
      (λ m f. fitting false (is_inner k) (holding s h (node k i j ps)) (λ u. differ u) (holding_free c s h (node k i j ps) w m f))

  constant_parts : (r : Rule) (s : Frame) (k : Kind) (h : Hint) (all : Trees) (ps : Trees) → AreShaped r ps → HasNames (kind.Specification declaring.Constant) ps → AllNested false ps → AllNamesAreKnown s k h all [] ps
      → reported (found_all (readings s k h all [] [] ps)) ≡ None → FirstFree (parts_in (readings s k h all [] [] ps))
  constant_parts r s k h all none w m u n e = absurd m
  constant_parts r s k h all (skip ps) w m u n e = absurd m
  constant_parts r s k h all (more p none) w m u n e = absurd m
  constant_parts r s k h all (more p (more q (more x ps))) w m u n e = absurd m
  constant_parts r s k h all (more p (more q (skip ps))) w m u n e = absurd m
  constant_parts r s k h all (more p (skip (more x ps))) w m u n e = absurd m
  constant_parts r s k h all (more p (skip (skip ps))) w m u n e = absurd m
  constant_parts r s k h all (more p (more q none)) w m u n e =
      let from : Frame = entering k [] s in
      let to : Hint = told k h all [] (kind_of p) in
      let o : Reading = reading from to p in
      let y : Reading = reading (entering k (Some (tree_in o) ∷ []) (frame_in o)) (told k h all (Some (tree_in o) ∷ []) (kind_of q)) q in
      let is = after_is o (λ x gs z. readings z k h all (Some x ∷ []) gs (more q none)) in
      let own : reported (found_in o) ≡ None = row_front (frame_in o) k h all (Some (tree_in o) ∷ []) (found_in o) (more q none) (subst (λ z. reported (found_all z) ≡ None) is e) in
      let x : Free (tree_in o) = fitting (is_inner (kind_of p)) false (tree_in o) u.0 (reading_free (next_category r) from to p (shaped_more r p (more q none) w).0 u.1 n.0 own) in
      subst (λ z. FirstFree (parts_in z)) (sym is)
      (subst (λ z. FirstFree (parts_in z)) (sym (after_is y (λ z gs v. readings v k h all (Some (tree_in o) ∷ Some z ∷ []) (found_in o ++ gs) none))) x)
  constant_parts r s k h all (more p (skip none)) w m u n e =
      let from : Frame = entering k [] s in
      let to : Hint = told k h all [] (kind_of p) in
      let o : Reading = reading from to p in
      let is = after_is o (λ x gs z. readings z k h all (Some x ∷ []) gs (skip none)) in
      let own : reported (found_in o) ≡ None = row_front (frame_in o) k h all (Some (tree_in o) ∷ []) (found_in o) (skip none) (subst (λ z. reported (found_all z) ≡ None) is e) in
      let x : Free (tree_in o) = fitting (is_inner (kind_of p)) false (tree_in o) u.0 (reading_free (next_category r) from to p (shaped_more r p (skip none) w).0 u.1 n.0 own) in
      subst (λ z. FirstFree (parts_in z)) (sym is) x

  rows_free : (o : Bool) (r : Rule) (s : Frame) (k : Kind) → repeats k ≡ false → (h : Hint) (all : Trees) (xs : Parts) (fs : Found) (ps : Trees) → AreShaped r ps → AllNested o ps → AllNamesAreKnown s k h all xs ps
      → reported (found_all (readings s k h all xs fs ps)) ≡ None → EachOf o xs → EachOf o (parts_in (readings s k h all xs fs ps))
  rows_free o r s k z h all xs fs none w u n e a = a
  rows_free o r s k z h all xs fs (more p ps) w u n e a =
      let from : Frame = entering k xs s in
      let to : Hint = told k h all xs (kind_of p) in
      let q : Reading = reading from to p in
      let v = shaped_more r p ps w in
      let is = after_is q (λ x gs f. readings f k h all (xs ++ Some x ∷ []) (fs ++ gs) ps) in
      let rest : reported (found_all (readings (frame_in q) k h all (xs ++ Some (tree_in q) ∷ []) (fs ++ found_in q) ps)) ≡ None = subst (λ y. reported (found_all y) ≡ None) is e in
      let own : reported (found_in q) ≡ None = reported_back fs (found_in q) (row_front (frame_in q) k h all (xs ++ Some (tree_in q) ∷ []) (fs ++ found_in q) ps rest) in
      let x : Of o (tree_in q) = fitting (is_inner (kind_of p)) o (tree_in q) u.0 (reading_free (next_category r) from to p v.0 u.1 n.0 own) in
      subst (λ y. EachOf o (parts_in y)) (sym is)
      (rows_free o (next_rule r) (frame_in q) k z h all (xs ++ Some (tree_in q) ∷ []) (fs ++ found_in q) ps v.1 u.2 n.1 rest (append_of o xs (Some (tree_in q) ∷ []) a (x, tt)))
  rows_free o r s k z h all xs fs (skip ps) w u n e a =
      let from : Frame = entering k xs s in
      rows_free o (next_rule r) from k z h all (xs ++ left_out from k ∷ []) (fs ++ left_out_faults from k) ps (shaped_skip r ps w) u n.1 e
      (subst (λ y. EachOf o (xs ++ y ∷ [])) (sym (nothing_left_out from k z)) (append_of o xs (None ∷ []) a tt))
