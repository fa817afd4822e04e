-- What is read of a derived body: each statement list stands in the tree.
use Rattle.std.proofs.Common.{◌≡◌, ◌∙◌, ℕ, zero, suc, Bool, true, false, List, [], ◌∷◌, ◌++◌, replicate, Option, Some, None, refl, sym, ap, subst, append_assoc, append-nil}
use Rattle.go_grammar.specs.declared.kind.Category.{Category}
use Rattle.go_grammar.specs.declared.kind.Kind.{Kind}
use Rattle.go_grammar.specs.declared.kind.Kind.TheVariants as kind
use Rattle.go_grammar.specs.declared.kind.Sort.TheVariants as declaring
use Rattle.go_grammar.specs.Categories as categories
use Rattle.go_grammar.specs.Categories.{place_of}
use Rattle.go_grammar.specs.Grammar.{rule}
use Rattle.go_grammar.specs.Rules.{Rule}
use Rattle.go_grammar.specs.Trees.{Tree, node, Trees, kind_of, first, last}
use Rattle.go_grammar.specs.Trees as syntax
use Rattle.go_rewriting.specs.Replacing.{next_category, next_rule}
use Rattle.go_rewriting.specs.Sites.{is_free}
use Rattle.go_types.specs.Trees.{TypeTree}
use Rattle.go_typed.specs.declared.form.Form.{Form}
use Rattle.go_typed.specs.declared.form.Form.TheVariants as form
use Rattle.go_typed.specs.Forms.{is_statement_list}
use Rattle.go_typed.specs.Trees.{typed, row, first_of, last_of, form_of}
use Rattle.go_exprs_rules.specs.declared.fault.TypeFault.{TypeFault}
use Rattle.go_exprs_rules.specs.Scopes.{Hint, value}
use Rattle.go_exprs_rules.specs.Settling.{Part}
use Rattle.go_exprs_rules.specs.Tables.{Parts, is_held}
use Rattle.go_stmts_defs.specs.Assigning.{Taking, takes, stands, type_or_default}
use Rattle.go_stmts_defs.specs.Frames.{Frame}
use Rattle.go_stmts_defs.specs.Laying.{told, layout, form_by}
use Rattle.go_stmts_defs.specs.Reading.{Found, Reading, read, Readings, all_read, is_statement, holding, held_faults, beginning, entering, repeated, left_out, left_out_faults, after, closed, reading, readings}
use Rattle.go_exprs_rules.specs.Sorts.{own_type}
use Rattle.go_stmts_defs.specs.Rules.{names_in, taking, loop_takes, operand_takes, rest, own_faults, given_part, all_given, built_by}
use Rattle.go_stmts_final_types.specs.Shapes.{IsShaped, AreShaped}
use Rattle.go_function_trees.specs.Lists.{Faultless, tree_in, found_in}
use Rattle.go_function_trees.proofs.Listed.{OfList, Never, Lists, PartLists, EachLists, either, differ, plain, given-lists, row-lists, listless, all-weaker}
use Rattle.go_function_trees.proofs.Held.{holding-first, holding-last, holding-lists, layout-lists}
use Rattle.go_function_trees.proofs.Bare.{AreBare, holds_none, parts-bare}
use Rattle.go_function_trees.proofs.Own.{form-unheld, own}
use Rattle.go_function_trees.proofs.Stood.{Stood, StoodIn, PartOf, AreOf, stood-node, each-of, shaped-more, shaped-skip}

-- ---- what is found

pub front-faultless : (fs gs : Found) → Faultless (fs ++ gs) → Faultless fs
front-faultless [] gs h = tt
front-faultless (f ∷ fs) gs h = (h.0, front-faultless fs gs h.1)

pub back-faultless : (fs gs : Found) → Faultless (fs ++ gs) → Faultless gs
back-faultless [] gs h = h
back-faultless (f ∷ fs) gs h = back-faultless fs gs h.1

abbrev pub found_all : Readings → Found
found_all (all_read xs fs s) = fs

after-kept : (k : Kind) (h : Hint) (all : Trees) (xs : Parts) (fs : Found) (ps : Trees) (q : Reading)
    → ((x : Part) (gs : Found) (t : Frame) → Faultless (found_all (readings t k h all (xs ++ Some x ∷ []) (fs ++ gs) ps)) → Faultless (fs ++ gs))
    → Faultless (found_all (after q (λ x gs t. readings t k h all (xs ++ Some x ∷ []) (fs ++ gs) ps))) → Faultless fs
after-kept k h all xs fs ps (read x gs t) b u = front-faultless fs gs (b x gs t u)

-- what was found in front
kept : (s : Frame) (k : Kind) (h : Hint) (all : Trees) (xs : Parts) (fs : Found) (ps : Trees) → Faultless (found_all (readings s k h all xs fs ps)) → Faultless fs
kept s k h all xs fs syntax.none u = u
kept s k h all xs fs (syntax.more p ps) u =
    after-kept k h all xs fs ps (reading (entering k xs s) (told k h all xs (kind_of p)) p) (λ x gs t g. kept t k h all (xs ++ Some x ∷ []) (fs ++ gs) ps g) u
kept s k h all xs fs (syntax.skip ps) u =
    front-faultless fs (left_out_faults (entering k xs s) k) (kept (entering k xs s) k h all (xs ++ left_out (entering k xs s) k ∷ []) (fs ++ left_out_faults (entering k xs s) k) ps u)

-- ---- parts that stand at the tokens of their trees

built-first : (s : Frame) (k : Kind) (f : Form) (i j : ℕ) (ys : Parts) (own : List TypeFault) → first_of (built_by s k f i j ys own) ≡ i
built-first s k f i j ys [] = refl
built-first s k f i j ys (e ∷ es) = refl

built-last : (s : Frame) (k : Kind) (f : Form) (i j : ℕ) (ys : Parts) (own : List TypeFault) → last_of (built_by s k f i j ys own) ≡ j
built-last s k f i j ys [] = refl
built-last s k f i j ys (e ∷ es) = refl

built-form : (s : Frame) (k : Kind) (f : Form) (i j : ℕ) (ys : Parts) (own : List TypeFault) → form_of (built_by s k f i j ys own) ≡ f
built-form s k f i j ys [] = refl
built-form s k f i j ys (e ∷ es) = refl

closed-first : (before : Frame) (k : Kind) (i j : ℕ) (ps : Trees) (r : Readings) → first_of (tree_in (closed before k i j ps r)) ≡ i
closed-first before k i j ps (all_read zs fs s) = built-first s k (form_by k zs) i j (layout s k i zs) (own_faults s k (form_by k zs) i j (layout s k i zs))

closed-last : (before : Frame) (k : Kind) (i j : ℕ) (ps : Trees) (r : Readings) → last_of (tree_in (closed before k i j ps r)) ≡ j
closed-last before k i j ps (all_read zs fs s) = built-last s k (form_by k zs) i j (layout s k i zs) (own_faults s k (form_by k zs) i j (layout s k i zs))

closed-unheld : (before : Frame) (k : Kind) (i j : ℕ) (ps : Trees) (r : Readings) → categories.is_statement k ≡ true → is_held (form_of (tree_in (closed before k i j ps r))) ≡ false
closed-unheld before k i j ps (all_read zs fs s) e =
    ap is_held (built-form s k (form_by k zs) i j (layout s k i zs) (own_faults s k (form_by k zs) i j (layout s k i zs))) ∙ form-unheld k zs e

read-too : (k : Kind) → categories.is_statement k ≡ true → is_statement k ≡ true
read-too (kind.Declaration s) e = refl
read-too kind.Return e = refl
read-too kind.Break e = refl
read-too kind.Continue e = refl
read-too kind.Fallthrough e = refl
read-too kind.Block e = refl
read-too kind.If e = refl
read-too kind.Switch e = refl
read-too kind.For e = refl
read-too kind.ExpressionStatement e = refl
read-too (kind.StepStatement o) e = refl
read-too kind.Assignment e = refl
read-too (kind.OperatorAssignment o) e = refl
read-too kind.Define e = refl
read-too k e = absurd (differ e)

pub reading-first : (s : Frame) (h : Hint) (t : Tree) → first_of (tree_in (reading s h t)) ≡ first t
reading-first s h (node k i j ps) =
    either (λ (q : Reading). first_of (tree_in q) ≡ i) (is_statement k) (closed s k i j ps (readings (beginning k i s) k h ps [] [] ps)) (read (holding s h (node k i j ps)) (held_faults s h (node k i j ps)) s)
    (λ e. closed-first s k i j ps (readings (beginning k i s) k h ps [] [] ps)) (λ e. holding-first s h (node k i j ps))

pub reading-last : (s : Frame) (h : Hint) (t : Tree) → last_of (tree_in (reading s h t)) ≡ last t
reading-last s h (node k i j ps) =
    either (λ (q : Reading). last_of (tree_in q) ≡ j) (is_statement k) (closed s k i j ps (readings (beginning k i s) k h ps [] [] ps)) (read (holding s h (node k i j ps)) (held_faults s h (node k i j ps)) s)
    (λ e. closed-last s k i j ps (readings (beginning k i s) k h ps [] [] ps)) (λ e. holding-last s h (node k i j ps))

reading-unheld : (s : Frame) (h : Hint) (t : Tree) → categories.is_statement (kind_of t) ≡ true → is_held (form_of (tree_in (reading s h t))) ≡ false
reading-unheld s h (node k i j ps) g =
    either (λ (q : Reading). is_held (form_of (tree_in q)) ≡ false) (is_statement k) (closed s k i j ps (readings (beginning k i s) k h ps [] [] ps)) (read (holding s h (node k i j ps)) (held_faults s h (node k i j ps)) s)
    (λ e. closed-unheld s k i j ps (readings (beginning k i s) k h ps [] [] ps) g) (λ e. absurd (differ (sym e ∙ read-too k g)))

-- ---- parts that are no statements

bare-read : (s : Frame) (h : Hint) (t : Tree) → is_statement (kind_of t) ≡ false → Lists Never (tree_in (reading s h t))
bare-read s h (node k i j ps) g =
    either (λ (q : Reading). Lists Never (tree_in q)) (is_statement k) (closed s k i j ps (readings (beginning k i s) k h ps [] [] ps)) (read (holding s h (node k i j ps)) (held_faults s h (node k i j ps)) s)
    (λ e. absurd (differ (sym g ∙ e))) (λ e. holding-lists Never s h (node k i j ps))

each-bare : (r : Rule) (ps : Trees) (zs : Parts) → AreBare ps → AreOf r ps zs → EachLists Never zs
each-bare r syntax.none [] b h = tt
each-bare r syntax.none (z ∷ zs) b h = absurd h
each-bare r (syntax.more p ps) [] b h = absurd h
each-bare r (syntax.more p ps) (None ∷ zs) b h = absurd h
each-bare r (syntax.more p ps) (Some x ∷ zs) b h =
    let was = h.0.0.2 in (subst (Lists Never) (sym was.is) (bare-read was.frame was.hint p b.0), each-bare (next_rule r) ps zs b.1 h.1)
each-bare r (syntax.skip ps) [] b h = absurd h
each-bare r (syntax.skip ps) (z ∷ zs) b h = (h.0, each-bare (next_rule r) ps zs b h.1)

-- ---- what parts take

given-none : (k : Taking) (x : Part) → Lists Never x → Lists Never (given_part k x)
given-none (takes k) x h = given-lists Never k x h
given-none (stands y) (typed f i j l ps) h = ((λ e. absurd (h.0 e).1), h.1)

all-given-none : (ks : List Taking) (ys : Parts) → EachLists Never ys → EachLists Never (all_given ks ys)
all-given-none [] ys h = h
all-given-none (k ∷ ks) [] h = tt
all-given-none (k ∷ ks) (None ∷ ys) h = (tt, all-given-none ks ys h.1)
all-given-none (k ∷ ks) (Some y ∷ ys) h = (given-none k y h.0, all-given-none ks ys h.1)

-- parts that take types, and stand for what they stood for
abbrev Give : List Taking → Type 0
Give [] = Unit {0}
Give (takes k ∷ ks) = Give ks
Give (stands x ∷ ks) = ⊥

all-given-lists : (P : OfList) (ks : List Taking) (ys : Parts) → Give ks → EachLists P ys → EachLists P (all_given ks ys)
all-given-lists P [] ys g h = h
all-given-lists P (takes k ∷ ks) [] g h = tt
all-given-lists P (stands x ∷ ks) ys g h = absurd g
all-given-lists P (takes k ∷ ks) (None ∷ ys) g h = (tt, all-given-lists P ks ys g h.1)
all-given-lists P (takes k ∷ ks) (Some y ∷ ys) g h = (given-lists P k y h.0, all-given-lists P ks ys g h.1)

default-gives : (t : Option TypeTree) (ks : List Taking) → Give ks → Give (type_or_default t ∷ ks)
default-gives None ks h = h
default-gives (Some t) ks h = h

operand-gives : (n : ℕ) (ys : Parts) → Give (operand_takes n ys ∷ [])
operand-gives n ys = either (λ (k : Taking). Give (k ∷ [])) _ (type_or_default _) (takes _) (λ e. default-gives _ [] tt) (λ e. tt)

rest-gives : (n : ℕ) (ks : List Taking) → Give ks → Give (rest n ++ ks)
rest-gives zero ks h = h
rest-gives (suc n) ks h = rest-gives n ks h

replicate-gives : (n : ℕ) (t : Option TypeTree) → Give (replicate n (type_or_default t))
replicate-gives zero t = tt
replicate-gives (suc n) t = default-gives t (replicate n (type_or_default t)) (replicate-gives n t)

loop-gives : (f : Form) (ys : Parts) → Give (loop_takes f ys)
loop-gives (form.Range defines n) ys = rest-gives n (operand_takes n ys ∷ []) (operand-gives n ys)
loop-gives f ys = tt

gives : (s : Frame) (k : Kind) (f : Form) (ys : Parts) → is_statement k ≡ true → holds_none k ≡ false → Give (taking s k f ys)
gives s (kind.Specification d) f ys e g = absurd (differ (sym g))
gives s kind.Return f ys e g = absurd (differ (sym g))
gives s kind.Assignment f ys e g = absurd (differ (sym g))
gives s (kind.OperatorAssignment o) f ys e g = absurd (differ (sym g))
gives s kind.Define f ys e g = absurd (differ (sym g))
gives s kind.DefiningRange f ys e g = absurd (differ (sym g))
gives s kind.If f ys e g = tt
gives s kind.For f ys e g = loop-gives f ys
gives s kind.Switch f ys e g = tt
gives s kind.Case f ys e g = replicate-gives (names_in f) (own_type s.tag)
gives s k f ys e g = tt

-- ---- kinds

free-kind : (k : Kind) → is_statement k ≡ true → holds_none k ≡ false → is_free k ≡ true
free-kind kind.AssigningRange e g = absurd (differ (sym g))
free-kind kind.DefiningRange e g = absurd (differ (sym g))
free-kind kind.NewNames e g = absurd (differ e)
free-kind kind.Parameters e g = absurd (differ e)
free-kind k e g = refl

bare-form : (k : Kind) (zs : Parts) → holds_none k ≡ true → is_statement_list (form_by k zs) ≡ false
bare-form (kind.Specification declaring.Constant) zs e = refl
bare-form (kind.Specification declaring.Type) zs e = refl
bare-form (kind.Specification declaring.Variable) zs e = refl
bare-form kind.Return zs e = refl
bare-form kind.Break zs e = refl
bare-form kind.Continue zs e = refl
bare-form kind.Fallthrough zs e = refl
bare-form kind.ExpressionStatement zs e = refl
bare-form (kind.StepStatement o) zs e = refl
bare-form kind.Assignment zs e = refl
bare-form (kind.OperatorAssignment o) zs e = refl
bare-form kind.Define zs e = refl
bare-form kind.LateCondition zs e = refl
bare-form kind.LateTag zs e = refl
bare-form kind.Range zs e = refl
bare-form kind.AssigningRange zs e = refl
bare-form kind.DefiningRange zs e = refl
bare-form k zs e = absurd (differ e)

-- ---- a node

none-own : (own : List TypeFault) (fs : Found) → Faultless (fs ++ own ∷ []) → own ≡ []
none-own own fs h = (back-faultless fs (own ∷ []) h).0

module _ (c : Category) (s : Frame) (k : Kind) (i j : ℕ) (ps : Trees) (zs : Parts) (e : is_statement k ≡ true) (w : AreShaped (rule (place_of c) k) ps) (h : AreOf (rule (place_of c) k) ps zs) where
  abbrev f : Form
  f = form_by k zs

  abbrev ys : Parts
  ys = layout s k i zs

  bare-built : holds_none k ≡ true → Lists (Stood c (node k i j ps)) (built_by s k f i j ys [])
  bare-built g =
      let laid : EachLists Never ys = layout-lists Never s k i zs e (each-bare (rule (place_of c) k) ps zs (parts-bare (place_of c) k ps g w) h) in
      listless (Stood c (node k i j ps)) (built_by s k f i j ys [])
      (plain Never f false i j (row (all_given (taking s k f ys) ys)) (bare-form k zs g), row-lists Never (all_given (taking s k f ys) ys) (all-given-none (taking s k f ys) ys laid))

  listing-built : holds_none k ≡ false → Lists (Stood c (node k i j ps)) (built_by s k f i j ys [])
  listing-built g =
      let In = StoodIn (rule (place_of c) k) ps in
      let laid : EachLists In ys = layout-lists In s k i zs e (each-of (rule (place_of c) k) ps zs h) in
      let given = row-lists In (all_given (taking s k f ys) ys) (all-given-lists In (taking s k f ys) ys (gives s k f ys e g) laid) in
      ((λ u. (refl, own c s i j k ps zs w h u)), all-weaker In (Stood c (node k i j ps)) (stood-node c k i j ps (free-kind k e g)) (row (all_given (taking s k f ys) ys)) given)

  built-lists : Lists (Stood c (node k i j ps)) (built_by s k f i j ys [])
  built-lists = by (holds_none k) refl where
    by : (b : Bool) → holds_none k ≡ b → Lists (Stood c (node k i j ps)) (built_by s k f i j ys [])
    by true g = bare-built g
    by false g = listing-built g

abbrev Behind : Rule → Parts → Trees → Readings → Type 0
Behind r xs ps (all_read zs fs s) = (qs : Parts) × (zs ≡ xs ++ qs) × AreOf r ps qs

closed-lists : (c : Category) (before : Frame) (k : Kind) (i j : ℕ) (ps : Trees) (r : Readings) → is_statement k ≡ true → AreShaped (rule (place_of c) k) ps → Behind (rule (place_of c) k) [] ps r
    → Faultless (found_in (closed before k i j ps r)) → Lists (Stood c (node k i j ps)) (tree_in (closed before k i j ps r))
closed-lists c before k i j ps (all_read zs fs s) e w b u =
    let o : AreOf (rule (place_of c) k) ps zs = subst (AreOf (rule (place_of c) k) ps) (sym b.1) b.2 in
    let f = form_by k zs in
    let ys = layout s k i zs in
    let own = own_faults s k f i j ys in
    subst (λ (fs : List TypeFault). Lists (Stood c (node k i j ps)) (built_by s k f i j ys fs)) (sym (none-own own fs u)) (built-lists c s k i j ps zs e w o)

front-closed : (before : Frame) (k : Kind) (i j : ℕ) (ps : Trees) (r : Readings) → Faultless (found_in (closed before k i j ps r)) → Faultless (found_all r)
front-closed before k i j ps (all_read zs fs s) u = front-faultless fs (own_faults s k (form_by k zs) i j (layout s k i zs) ∷ []) u

-- ---- rows

first-more : (r : Rule) (xs : Parts) (p : Tree) (ps : Trees) (x : Part) (q : Readings) → PartOf (next_category r) p x → Behind (next_rule r) (xs ++ Some x ∷ []) ps q → Behind r xs (syntax.more p ps) q
first-more r xs p ps x (all_read zs fs s) a b = (Some x ∷ b.0, b.1 ∙ append_assoc xs (Some x ∷ []) b.0, (a, b.2))

first-skip : (r : Rule) (xs : Parts) (z : Option Part) (ps : Trees) (q : Readings) → PartLists Never z → Behind (next_rule r) (xs ++ z ∷ []) ps q → Behind r xs (syntax.skip ps) q
first-skip r xs z ps (all_read zs fs s) a b = (z ∷ b.0, b.1 ∙ append_assoc xs (z ∷ []) b.0, (a, b.2))

left-out-none : (s : Frame) (k : Kind) → PartLists Never (left_out s k)
left-out-none s (kind.Specification declaring.Constant) = by s.source where
  by : (o : Option Tree) → PartLists Never (repeated s o)
  by None = tt
  by (Some r) = holding-lists Never s value r
left-out-none s (kind.Specification declaring.Type) = tt
left-out-none s (kind.Specification declaring.Variable) = tt
left-out-none s k = tt

after-more : (r : Rule) (k : Kind) (h : Hint) (all : Trees) (xs : Parts) (fs : Found) (p : Tree) (ps : Trees) (q : Reading) → (Faultless (found_in q) → PartOf (next_category r) p (tree_in q))
    → ((x : Part) (gs : Found) (t : Frame) → Faultless (found_all (readings t k h all (xs ++ Some x ∷ []) (fs ++ gs) ps)) → Behind (next_rule r) (xs ++ Some x ∷ []) ps (readings t k h all (xs ++ Some x ∷ []) (fs ++ gs) ps))
    → Faultless (found_all (after q (λ x gs t. readings t k h all (xs ++ Some x ∷ []) (fs ++ gs) ps))) → Behind r xs (syntax.more p ps) (after q (λ x gs t. readings t k h all (xs ++ Some x ∷ []) (fs ++ gs) ps))
after-more r k h all xs fs p ps (read x gs t) a b u =
    let front : Faultless (fs ++ gs) = kept t k h all (xs ++ Some x ∷ []) (fs ++ gs) ps u in
    first-more r xs p ps x (readings t k h all (xs ++ Some x ∷ []) (fs ++ gs) ps) (a (back-faultless fs gs front)) (b x gs t u)

mutual
  pub reading-lists : (c : Category) (s : Frame) (h : Hint) (t : Tree) → IsShaped c t → Faultless (found_in (reading s h t)) → Lists (Stood c t) (tree_in (reading s h t))
  reading-lists c s h (node k i j ps) w =
      let r = readings (beginning k i s) k h ps [] [] ps in
      either (λ (q : Reading). Faultless (found_in q) → Lists (Stood c (node k i j ps)) (tree_in q)) (is_statement k) (closed s k i j ps r) (read (holding s h (node k i j ps)) (held_faults s h (node k i j ps)) s)
      (λ e u. closed-lists c s k i j ps r e w.1 (readings-of (rule (place_of c) k) (beginning k i s) k h ps [] [] ps w.1 (front-closed s k i j ps r u)) u)
      (λ e u. listless (Stood c (node k i j ps)) (holding s h (node k i j ps)) (holding-lists Never s h (node k i j ps)))

  readings-of : (r : Rule) (s : Frame) (k : Kind) (h : Hint) (all : Trees) (xs : Parts) (fs : Found) (ps : Trees) → AreShaped r ps → Faultless (found_all (readings s k h all xs fs ps)) → Behind r xs ps (readings s k h all xs fs ps)
  readings-of r s k h all xs fs syntax.none w u = ([], sym (append-nil xs), tt)
  readings-of r s k h all xs fs (syntax.more p ps) w u =
      let inner = entering k xs s in
      let to = told k h all xs (kind_of p) in
      let v = shaped-more r p ps w in
      after-more r k h all xs fs p ps (reading inner to p)
      (λ g. ((reading-first inner to p, reading-last inner to p, record { frame = inner; hint = to; is = refl; faultless = g }), reading-unheld inner to p, reading-lists (next_category r) inner to p v.0 g))
      (λ x gs t g. readings-of (next_rule r) t k h all (xs ++ Some x ∷ []) (fs ++ gs) ps v.1 g) u
  readings-of r s k h all xs fs (syntax.skip ps) w u =
      let inner = entering k xs s in
      first-skip r xs (left_out inner k) ps (readings inner k h all (xs ++ left_out inner k ∷ []) (fs ++ left_out_faults inner k) ps) (left-out-none inner k)
      (readings-of (next_rule r) inner k h all (xs ++ left_out inner k ∷ []) (fs ++ left_out_faults inner k) ps (shaped-skip r ps w) u)
