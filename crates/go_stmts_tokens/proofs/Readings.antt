-- The nodes of what is read of a body lie as those of its tree do.
use Rattle.std.proofs.Common.{◌≡◌, ◌∙◌, ℕ, ◌-◌, ◌<◌, ◌≤◌, Bool, true, false, List, [], ◌∷◌, ◌++◌, length, take, Some, None, refl, sym, ap, subst, arith}
use Rattle.std.specs.Prelude.{if◌then◌else◌}
use Rattle.go_tokens.specs.declared.token.TokenKind.{TokenKind}
use Rattle.go_grammar.specs.declared.kind.Category.{Category}
use Rattle.go_grammar.specs.declared.kind.Kind.{Kind}
use Rattle.go_grammar.specs.declared.kind.Kind.TheVariants as kind
use Rattle.go_grammar.specs.declared.kind.Sort.TheVariants as declaring
use Rattle.go_grammar.specs.Grammar.{Derives}
use Rattle.go_grammar.specs.Trees.{Tree, node, Trees, kind_of, first, last}
use Rattle.go_grammar.specs.Trees as syntax
use Rattle.go_tree.specs.Views.{Tiles}
use Rattle.go_types.specs.Trees.{TypeTree}
use Rattle.go_typed.specs.declared.form.Form.{Form}
use Rattle.go_typed.specs.declared.form.Form.TheVariants as form
use Rattle.go_typed.specs.Trees.{Label, typed, row, list_of}
use Rattle.go_typed.specs.Trees as trees
use Rattle.go_exprs_rules.specs.declared.fault.TypeFault.{TypeFault}
use Rattle.go_exprs_rules.specs.Scopes.{Hint}
use Rattle.go_exprs_rules.specs.Settling.{Part}
use Rattle.go_exprs_rules.specs.Tables.{Parts, held, first_cut}
use Rattle.go_exprs_rules.specs.Typing.{typing}
use Rattle.go_stmts_defs.specs.Bodies.{based}
use Rattle.go_stmts_defs.specs.Frames.{Frame, scope_of}
use Rattle.go_stmts_defs.specs.Laying.{told, layout, form_by, typed_or_not, is_group, names_count, type_name}
use Rattle.go_stmts_defs.specs.Reading.{Found, is_list, is_declared_name, is_statement, list_node, name_node, holding, holdings, held_faults, beginning, entering, left_out, left_out_faults}
use Rattle.go_stmts_defs.specs.Reading.{Reading, read, Readings, all_read, after, closed, reading, readings}
use Rattle.go_stmts_defs.specs.Rules.{own_faults, taking, all_given, built_by}
use Rattle.go_stmts_tokens.specs.Lying.{Lies, is_inner}
use Rattle.go_stmts_tokens.proofs.Lying.{EachLie, wider, each_wider, append_lie, one_lies, held_lie}
use Rattle.go_stmts_tokens.proofs.Layouts.{all_given_lie, front_given_lie, is_told, layout_lie, EachNamesLie, InnerLies, Of, EachOf, fitting, of_wider, each_of_wider, append_of, one_of, strict, inner_row, declared_lie}
use Rattle.go_stmts_tokens.proofs.Trees.{differ, is_outer, HasNames, Set, AllSet, tiles_order, derives_set, based_set, based_kind}
use Rattle.go_stmts_tokens.proofs.Typings.{node_lies, typing_lies}

-- ---- parts without statements

list_told : (k : Kind) → is_list k ≡ true → is_told k ≡ true
list_told kind.NameList e = refl
list_told kind.NewNames e = refl
list_told kind.Targets e = refl
list_told kind.ExpressionList e = refl
list_told kind.TypedValues e = refl
list_told kind.Values e = refl
list_told k e = differ e

choose : {A : Type 0} (P : A → Type 0) (b : Bool) (x y : A) → (b ≡ true → P x) → (b ≡ false → P y) → P (if b then x else y)
choose P true x y f g = f refl
choose P false x y f g = g refl

name_lies : (s : Frame) (i j : ℕ) → i < j → Lies i j (name_node s i j)
name_lies s i j u = let v : i ≤ j = omega (arith, u) in node_lies i j [] u v

mutual
  holding_lies : (s : Frame) (h : Hint) (t : Tree) → Set t → Lies (first t) (last t) (holding s h t)
  holding_lies s h (node k i j ps) g =
      let u : i ≤ i = omega arith in
      let ys : Parts = layout s k i (holdings s k h ps [] ps) in
      choose (Lies i j) (is_list k) (list_node s k i j ys) (if is_declared_name k then name_node s i j else typing (scope_of s) h (node k i j ps))
      (λ e. node_lies i j ys g.0 (layout_lie s k i i j (holdings s k h ps [] ps) (list_told k e) (holdings_lie (is_outer k) s k h ps [] ps i i j u g.1 g.3)))
      (λ e. choose (Lies i j) (is_declared_name k) (name_node s i j) (typing (scope_of s) h (node k i j ps)) (λ e. name_lies s i j g.0) (λ e. typing_lies (scope_of s) h (node k i j ps) g))

  holdings_lie : (o : Bool) (s : Frame) (k : Kind) (h : Hint) (all : Trees) (xs : Parts) (ps : Trees) (a m j : ℕ) → EachLie a m xs → Tiles m j ps → AllSet o ps → EachLie a j (holdings s k h all xs ps)
  holdings_lie o s k h all xs syntax.none a m j g t u = each_wider a m a j xs (omega arith) t g
  holdings_lie o s k h all xs (syntax.more p ps) a m j g t u =
      let x : Part = holding s (told k h all xs (kind_of p)) p in
      let n : Lies (first p) (last p) x = holding_lies s (told k h all xs (kind_of p)) p u.1 in
      let w : Lies m (last p) x = wider (first p) (last p) m (last p) x t.0 (omega arith) n in
      holdings_lie o s k h all (xs ++ Some x ∷ []) ps a (last p) j (append_lie a m (last p) xs (Some x ∷ []) g (one_lies m (last p) x w)) t.2 u.2
  holdings_lie o s k h all xs (syntax.skip ps) a m j g t u =
      let v : m ≤ m = omega arith in holdings_lie o s k h all (xs ++ None ∷ []) ps a m j (append_lie a m m xs (None ∷ []) g v) t u

-- ---- a node over its parts

list_row : (xs : Parts) → list_of (row xs) ≡ xs
list_row [] = refl
list_row (None ∷ xs) = ap (λ ys. None ∷ ys) (list_row xs)
list_row (Some x ∷ xs) = ap (λ ys. Some x ∷ ys) (list_row xs)

made_lies : (s : Frame) (k : Kind) (f : Form) (i j : ℕ) (ys : Parts) (own : List TypeFault) → i < j → EachLie i j ys → Lies i j (built_by s k f i j ys own)
made_lies s k f i j ys [] u h = node_lies i j (all_given (taking s k f ys) ys) u (all_given_lie i j (taking s k f ys) ys h)
made_lies s k f i j ys (e ∷ es) u h = node_lies i j ys u h

-- so many of its parts are names
specified_lies : (s : Frame) (k : Kind) (i j : ℕ) (hs ys : Parts) (own : List TypeFault) → i < j → EachLie i j hs → InnerLies i j (built_by s k (form.Specified (length hs)) i j (hs ++ ys) own)
specified_lies s k i j hs ys [] u h =
    let zs : Parts = all_given (taking s k (form.Specified (length hs)) (hs ++ ys)) (hs ++ ys) in
    ((omega arith, u, omega arith, subst (λ ws. EachLie i j (take (length hs) ws)) (sym (list_row zs)) (front_given_lie i j (taking s k (form.Specified (length hs)) (hs ++ ys)) hs ys h)), λ e. differ e)
specified_lies s k i j hs ys (e ∷ es) u h =
    ((omega arith, u, omega arith, subst (λ ws. EachLie i j (take (length hs) ws)) (sym (list_row (hs ++ ys))) (front_given_lie i j [] hs ys h)), λ e. differ e)

-- of labels nothing is asked
abbrev no_label : Label TypeTree
no_label = record { sort = trees.Nothing; varies = false; calls = false }

grouped_lies : (i j : ℕ) (k : Kind) (xs : Parts) → i < j → names_count (form.Held k) ≡ 0 → EachOf true i j xs → InnerLies i j (typed (form.Held k) i j no_label (row xs))
grouped_lies i j k xs u z h =
    ((omega arith, u, omega arith, subst (λ n. EachLie i j (take n (list_of (row xs)))) (sym z) (omega (arith, u))), λ e. subst (EachNamesLie i j) (sym (list_row xs)) (inner_row i j xs h))

typed_name_lies : (s : Frame) (i j : ℕ) (k : Kind) (xs : Parts) → i < j → names_count (form.Held k) ≡ 1 → is_group (form.Held k) ≡ false → InnerLies i j (typed (form.Held k) i j no_label (row (Some (type_name s i) ∷ xs)))
typed_name_lies s i j k xs u z n = (
  (
    omega arith,
    u,
    omega arith,
    subst (λ m. EachLie i j (take m (list_of (row (Some (type_name s i) ∷ xs))))) (sym z)
        ((omega arith, omega arith, omega (arith, u), omega arith), omega (arith, u)),
  ),
  λ e. differ (sym n ∙ e),
)

-- ---- what is read

abbrev tree_in : Reading → Part
tree_in (read x fs s) = x

abbrev found_in : Reading → Found
found_in (read x fs s) = fs

abbrev parts_in : Readings → Parts
parts_in (all_read xs fs s) = xs

abbrev frame_in : Reading → Frame
frame_in (read x fs s) = s

after_read : (r : Reading) (next : Part → Found → Frame → Readings) → after r next ≡ next (tree_in r) (found_in r) (frame_in r)
after_read (read x fs s) next = refl

-- a specification of constants repeats what was left out
abbrev repeats : Kind → Bool
repeats (kind.Specification declaring.Constant) = true
repeats k = false

nothing_left_out : (s : Frame) (k : Kind) → repeats k ≡ false → left_out s k ≡ None
nothing_left_out s (kind.Specification declaring.Constant) e = differ (sym e)
nothing_left_out s (kind.Specification declaring.Type) e = refl
nothing_left_out s (kind.Specification declaring.Variable) e = refl
nothing_left_out s k e = refl

-- the names come first
abbrev FirstLies : (a b : ℕ) → Parts → Type 0
FirstLies a b (Some x ∷ z ∷ []) = Lies a b x
FirstLies a b xs = ⊥

-- what holds of the parts that are read of a node of this kind
abbrev PartsLie : Bool → Bool → (a b : ℕ) → Parts → Type 0
PartsLie true o a b xs = FirstLies a b xs
PartsLie false o a b xs = EachOf o a b xs

constant_lies : (s : Frame) (i j : ℕ) (xs : Parts) → i < j → FirstLies i j xs → let k : Kind = kind.Specification declaring.Constant in (own : List TypeFault) → InnerLies i j (built_by s k (form_by k xs) i j (layout s k i xs) own)
constant_lies s i j [] u h own = absurd h
constant_lies s i j (None ∷ xs) u h own = absurd h
constant_lies s i j (Some x ∷ []) u h own = absurd h
constant_lies s i j (Some x ∷ z ∷ w ∷ ws) u h own = absurd h
constant_lies s i j (Some x ∷ z ∷ []) u h own = specified_lies s (kind.Specification declaring.Constant) i j (held (Some x)) (first_cut (typed_or_not z)) own u (held_lie i j x h)

type_lies : (s : Frame) (i j : ℕ) (xs : Parts) → i < j → let k : Kind = kind.Specification declaring.Type in (own : List TypeFault) → InnerLies i j (built_by s k (form_by k xs) i j (layout s k i xs) own)
type_lies s i j xs u [] = typed_name_lies s i j (kind.Specification declaring.Type) xs u refl refl
type_lies s i j xs u (e ∷ es) = typed_name_lies s i j (kind.Specification declaring.Type) xs u refl refl

constants_lie : (s : Frame) (i j : ℕ) (xs : Parts) → i < j → EachOf true i j xs → let k : Kind = kind.Group declaring.Constant in (own : List TypeFault) → InnerLies i j (built_by s k (form_by k xs) i j (layout s k i xs) own)
constants_lie s i j xs u h [] = grouped_lies i j (kind.Group declaring.Constant) xs u refl h
constants_lie s i j xs u h (e ∷ es) = grouped_lies i j (kind.Group declaring.Constant) xs u refl h

types_lie : (s : Frame) (i j : ℕ) (xs : Parts) → i < j → EachOf true i j xs → let k : Kind = kind.Group declaring.Type in (own : List TypeFault) → InnerLies i j (built_by s k (form_by k xs) i j (layout s k i xs) own)
types_lie s i j xs u h [] = grouped_lies i j (kind.Group declaring.Type) xs u refl h
types_lie s i j xs u h (e ∷ es) = grouped_lies i j (kind.Group declaring.Type) xs u refl h

-- the node over what is read of its parts
over_lies : (s : Frame) (k : Kind) (i j : ℕ) (xs : Parts) → i < j → PartsLie (repeats k) (is_outer k) i j xs → (own : List TypeFault) → Of (is_inner k) i j (built_by s k (form_by k xs) i j (layout s k i xs) own)
over_lies s (kind.Specification declaring.Constant) i j xs u h own = constant_lies s i j xs u h own
over_lies s (kind.Specification declaring.Type) i j xs u h own = type_lies s i j xs u own
over_lies s (kind.Specification declaring.Variable) i j xs u h own =
    let k : Kind = kind.Specification declaring.Variable in made_lies s k (form_by k xs) i j (layout s k i xs) own u (layout_lie s k i i j xs refl (strict i j xs h))
over_lies s (kind.Group declaring.Constant) i j xs u h own = constants_lie s i j xs u h own
over_lies s (kind.Group declaring.Type) i j xs u h own = types_lie s i j xs u h own
over_lies s (kind.Group declaring.Variable) i j xs u h own =
    let k : Kind = kind.Group declaring.Variable in made_lies s k (form_by k xs) i j (layout s k i xs) own u (layout_lie s k i i j xs refl (strict i j xs h))
over_lies s (kind.Declaration declaring.Constant) i j xs u h own =
    let k : Kind = kind.Declaration declaring.Constant in made_lies s k (form_by k xs) i j (layout s k i xs) own u (declared_lie i j xs h)
over_lies s (kind.Declaration declaring.Type) i j xs u h own =
    let k : Kind = kind.Declaration declaring.Type in made_lies s k (form_by k xs) i j (layout s k i xs) own u (declared_lie i j xs h)
over_lies s (kind.Declaration declaring.Variable) i j xs u h own =
    let k : Kind = kind.Declaration declaring.Variable in made_lies s k (form_by k xs) i j (layout s k i xs) own u (layout_lie s k i i j xs refl (strict i j xs h))
over_lies s k i j xs u h own = made_lies s k (form_by k xs) i j (layout s k i xs) own u (layout_lie s k i i j xs refl (strict i j xs h))

closed_lies : (before : Frame) (k : Kind) (i j : ℕ) (ps : Trees) (r : Readings) → i < j → PartsLie (repeats k) (is_outer k) i j (parts_in r) → Of (is_inner k) i j (tree_in (closed before k i j ps r))
closed_lies before k i j ps (all_read xs fs s) u h = over_lies s k i j xs u h (own_faults s k (form_by k xs) i j (layout s k i xs))

-- ---- trees

is_constants : (k : Kind) → repeats k ≡ true → k ≡ kind.Specification declaring.Constant
is_constants (kind.Specification declaring.Constant) e = refl
is_constants (kind.Specification declaring.Type) e = differ e
is_constants (kind.Specification declaring.Variable) e = differ e
is_constants k e = differ e

either_way : (b o : Bool) (a z : ℕ) (xs : Parts) → (b ≡ true → FirstLies a z xs) → (b ≡ false → EachOf o a z xs) → PartsLie b o a z xs
either_way true o a z xs f g = f refl
either_way false o a z xs f g = g refl

mutual
  pub reading_lies : (s : Frame) (h : Hint) (t : Tree) → Set t → Of (is_inner (kind_of t)) (first t) (last t) (tree_in (reading s h t))
  reading_lies s h (node k i j ps) g =
      let from : Frame = beginning k i s in
      let r : Readings = readings from k h ps [] [] ps in
      let u : i ≤ i = omega arith in
      choose (λ (q : Reading). Of (is_inner k) i j (tree_in q)) (is_statement k) (closed s k i j ps r) (read (holding s h (node k i j ps)) (held_faults s h (node k i j ps)) s)
      (λ e. closed_lies s k i j ps r g.0 (either_way (repeats k) (is_outer k) i j (parts_in r)
      (λ c. constant_parts from k h ps i j ps g.1 (subst (λ m. HasNames m ps) (is_constants k c) g.2) (subst (λ m. AllSet (is_outer m) ps) (is_constants k c) g.3))
      (λ c. rows_lie (is_outer k) from k c h ps [] [] ps i i j u g.1 g.3)))
      (λ e. fitting false (is_inner k) i j (holding s h (node k i j ps)) (λ w. differ w) (holding_lies s h (node k i j ps) g))

  constant_parts : (s : Frame) (k : Kind) (h : Hint) (all : Trees) (i j : ℕ) (ps : Trees) → Tiles i j ps → HasNames (kind.Specification declaring.Constant) ps → AllSet false ps
      → FirstLies i j (parts_in (readings s k h all [] [] ps))
  constant_parts s k h all i j syntax.none t n u = absurd n
  constant_parts s k h all i j (syntax.skip ps) t n u = absurd n
  constant_parts s k h all i j (syntax.more p syntax.none) t n u = absurd n
  constant_parts s k h all i j (syntax.more p (syntax.more q (syntax.more r ps))) t n u = absurd n
  constant_parts s k h all i j (syntax.more p (syntax.more q (syntax.skip ps))) t n u = absurd n
  constant_parts s k h all i j (syntax.more p (syntax.skip (syntax.more r ps))) t n u = absurd n
  constant_parts s k h all i j (syntax.more p (syntax.skip (syntax.skip ps))) t n u = absurd n
  constant_parts s k h all i j (syntax.more p (syntax.more q syntax.none)) t n u =
      let from : Frame = entering k [] s in
      let o : Reading = reading from (told k h all [] (kind_of p)) p in
      let y : Reading = reading (entering k (Some (tree_in o) ∷ []) (frame_in o)) (told k h all (Some (tree_in o) ∷ []) (kind_of q)) q in
      let x : Lies (first p) (last p) (tree_in o) = fitting (is_inner (kind_of p)) false (first p) (last p) (tree_in o) u.0 (reading_lies from (told k h all [] (kind_of p)) p u.1) in
      subst (λ z. FirstLies i j (parts_in z)) (sym (after_read o (λ x gs w. readings w k h all (Some x ∷ []) gs (syntax.more q syntax.none))))
      (subst (λ z. FirstLies i j (parts_in z)) (sym (after_read y (λ z gs w. readings w k h all (Some (tree_in o) ∷ Some z ∷ []) (found_in o ++ gs) syntax.none)))
      (wider (first p) (last p) i j (tree_in o) t.0 (tiles_order (last p) j (syntax.more q syntax.none) t.2) x))
  constant_parts s k h all i j (syntax.more p (syntax.skip syntax.none)) t n u =
      let from : Frame = entering k [] s in
      let o : Reading = reading from (told k h all [] (kind_of p)) p in
      let x : Lies (first p) (last p) (tree_in o) = fitting (is_inner (kind_of p)) false (first p) (last p) (tree_in o) u.0 (reading_lies from (told k h all [] (kind_of p)) p u.1) in
      subst (λ z. FirstLies i j (parts_in z)) (sym (after_read o (λ x gs w. readings w k h all (Some x ∷ []) gs (syntax.skip syntax.none))))
      (wider (first p) (last p) i j (tree_in o) t.0 t.2 x)

  rows_lie : (o : Bool) (s : Frame) (k : Kind) → repeats k ≡ false → (h : Hint) (all : Trees) (xs : Parts) (fs : Found) (ps : Trees) (a m j : ℕ) → EachOf o a m xs → Tiles m j ps → AllSet o ps
      → EachOf o a j (parts_in (readings s k h all xs fs ps))
  rows_lie o s k e h all xs fs syntax.none a m j g t u = each_of_wider o a m a j xs (omega arith) t g
  rows_lie o s k e h all xs fs (syntax.more p ps) a m j g t u =
      let from : Frame = entering k xs s in
      let to : Hint = told k h all xs (kind_of p) in
      let q : Reading = reading from to p in
      let n : Of o (first p) (last p) (tree_in q) = fitting (is_inner (kind_of p)) o (first p) (last p) (tree_in q) u.0 (reading_lies from to p u.1) in
      let w : Of o m (last p) (tree_in q) = of_wider o (first p) (last p) m (last p) (tree_in q) t.0 (omega arith) n in
      subst (λ z. EachOf o a j (parts_in z)) (sym (after_read q (λ x gs f. readings f k h all (xs ++ Some x ∷ []) (fs ++ gs) ps)))
      (rows_lie o (frame_in q) k e h all (xs ++ Some (tree_in q) ∷ []) (fs ++ found_in q) ps a (last p) j (append_of o a m (last p) xs (Some (tree_in q) ∷ []) g (one_of o m (last p) (tree_in q) w)) t.2 u.2)
  rows_lie o s k e h all xs fs (syntax.skip ps) a m j g t u =
      let from : Frame = entering k xs s in
      let v : m ≤ m = omega arith in
      rows_lie o from k e h all (xs ++ left_out from k ∷ []) (fs ++ left_out_faults from k) ps a m j
      (subst (λ z. EachOf o a m (xs ++ z ∷ [])) (sym (nothing_left_out from k e)) (append_of o a m m xs (None ∷ []) g v)) t u

-- ---- derivations

based_first : (b : ℕ) (t : Tree) → first (based b t) ≡ first t - b
based_first b (node k i j ps) = refl

based_last : (b : ℕ) (t : Tree) → last (based b t) ≡ last t - b
based_last b (node k i j ps) = refl

pub nodes_lie : (ts : List TokenKind) (c : Category) (t : Tree) (b : ℕ) (s : Frame) (h : Hint) (x : Part) (fs : Found) (behind : Frame) → Derives ts c t → b ≤ first t → is_inner (kind_of t) ≡ false
    → reading s h (based b t) ≡ read x fs behind → Lies (first t - b) (last t - b) x
nodes_lie ts c t b s h x fs behind d u n e =
    let whole : Of (is_inner (kind_of (based b t))) (first (based b t)) (last (based b t)) (tree_in (reading s h (based b t))) = reading_lies s h (based b t) (based_set b t u (derives_set ts c t d)) in
    let is : Of (is_inner (kind_of (based b t))) (first (based b t)) (last (based b t)) x = subst (λ q. Of (is_inner (kind_of (based b t))) (first (based b t)) (last (based b t)) (tree_in q)) e whole in
    let strictly : Lies (first (based b t)) (last (based b t)) x = subst (λ w. Of w (first (based b t)) (last (based b t)) x) (ap is_inner (based_kind b t) ∙ n) is in
    subst (λ z. Lies (first t - b) z x) (based_last b t) (subst (λ z. Lies z (last (based b t)) x) (based_first b t) strictly)
