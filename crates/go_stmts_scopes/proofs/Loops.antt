-- Headers of loops, and loops, have the shape that evaluation asks for.
use Rattle.std.proofs.Common.{◌≡◌, ◌∙◌, ◌⊎◌, inl, inr, ℕ, suc, ◌-◌, Bool, true, false, List, [], ◌∷◌, ◌++◌, length, Option, Some, None, refl, sym, ap, subst, arith}
use Rattle.go_grammar.specs.declared.kind.Kind.{Kind}
use Rattle.go_grammar.specs.declared.kind.Place.{Place}
use Rattle.go_grammar.specs.Trees.{Tree, node, Trees}
use Rattle.go_grammar.specs.declared.kind.Category.TheVariants as category
use Rattle.go_grammar.specs.declared.kind.Kind.TheVariants as kind
use Rattle.go_grammar.specs.declared.kind.Place.TheVariants as place
use Rattle.go_grammar.specs.Trees as syntax
use Rattle.go_types.specs.Trees.{boolean}
use Rattle.go_typed.specs.Trees.{typed, row, list_of, form_of}
use Rattle.go_typed.specs.declared.form.Form.TheVariants as form
use Rattle.go_exprs_rules.specs.declared.fault.TypeFault.{TypeFault}
use Rattle.go_exprs_rules.specs.Scopes.{Hint, value, target}
use Rattle.go_exprs_rules.specs.Settling.{Part, as_type}
use Rattle.go_exprs_rules.specs.Tables.{Parts, is_held, held}
use Rattle.go_exprs_rules.specs.Tables as tables
use Rattle.go_stmts_defs.specs.Assigning.{Taking}
use Rattle.go_stmts_defs.specs.Frames.{Frame, rights_of}
use Rattle.go_stmts_defs.specs.Laying.{loop_form, loop_header}
use Rattle.go_stmts_defs.specs.Reading.{holdings, reading, readings}
use Rattle.go_stmts_defs.specs.Rules.{taking, all_given, built_by, operand_takes, range_stands, range_types, last_part, rest, given_part}
use Rattle.go_stmts_final_types.specs.Shapes.{IsShaped}
use Rattle.go_stmts_scopes.specs.Runs.{IsExpression}
use Rattle.go_stmts_scopes.specs.Shapes.{IsPost, IsFirst, is_tail, IsStatement, IsRange}
use Rattle.go_stmts_scopes.specs.Statements.{tree_in}
use Rattle.go_stmts_scopes.specs.Scoped.{is_use}
use Rattle.go_stmts_scopes.proofs.DeclaredNames.{AreOpen, AllNames, open_elements, part_name, other}
use Rattle.go_stmts_scopes.proofs.Derivations.{list_shaped}
use Rattle.go_stmts_scopes.proofs.Simple.{more_shape, closed_shape, list_row, nothing_behind, HoldsNames, new_names, post_read, first_read}
use Rattle.go_stmts_scopes.proofs.Typed.{given_runs}
use Rattle.go_stmts_scopes.proofs.TypedStatements.{part_runs}
use Rattle.go_stmts_scopes.proofs.Operands.{IsOperand, operand, typed_operand}
use Rattle.go_stmts_scopes.proofs.Headers.{FirstOr, OperandOr, PostOr, simple_kind, post_kind}
use Rattle.go_stmts_scopes.proofs.Rows.{AllValues, values_held}
use Rattle.go_stmts_scopes.proofs.Never.{never}

-- ---- headers of loops

-- first? condition? post?
pub record IsForClause (x : Part) : Type 0 where
  pub first : Option Part
  pub condition : Option Part
  pub post : Option Part
  pub parts : loop_header (Some x) ≡ first ∷ condition ∷ post ∷ []
  pub loops : loop_form (Some x) ≡ form.For
  pub may : FirstOr first
  pub tests : OperandOr condition
  pub next : PostOr post

-- names, and an operand
pub record IsRangeClause (x : Part) : Type 0 where
  pub defines : Bool
  pub names : Parts
  pub over : Part
  pub parts : loop_header (Some x) ≡ names ++ Some over ∷ []
  pub loops : loop_form (Some x) ≡ form.Range defines (length names)
  pub are : AllNames names
  pub is : IsExpression over

abbrev pub IsLoopHeader : Part → Type 0
IsLoopHeader x = IsForClause x ⊎ IsRangeClause x

pub unheld_loop : (x : Part) → is_held (form_of x) ≡ false → (loop_header (Some x) ≡ None ∷ Some x ∷ None ∷ []) × (loop_form (Some x) ≡ form.For)
unheld_loop (typed (form.Held k) i j l ps) e = cc
unheld_loop (typed f i j l ps) e = (refl, refl)

pub for_clause : (s : Frame) (i j : ℕ) (c p : Option Part) (es : List TypeFault) → OperandOr c → PostOr p → IsForClause (built_by s kind.ForClause (form.Held kind.ForClause) i j (c ∷ p ∷ []) es)
for_clause s i j c p [] x y = record { first = None; condition = c; post = p; parts = ap (λ ys. None ∷ ys) (list_row (c ∷ p ∷ [])); loops = refl; may = tt; tests = x; next = y }
for_clause s i j c p (e ∷ es) x y = record { first = None; condition = c; post = p; parts = ap (λ ys. None ∷ ys) (list_row (c ∷ p ∷ [])); loops = refl; may = tt; tests = x; next = y }

pub initialized_clause : (s : Frame) (i j : ℕ) (f : Part) (c p : Option Part) (es : List TypeFault) → IsFirst f → OperandOr c → PostOr p
    → IsForClause (built_by s kind.InitializedForClause (form.Held kind.InitializedForClause) i j (Some f ∷ c ∷ p ∷ []) es)
initialized_clause s i j f c p [] m x y = record { first = Some f; condition = c; post = p; parts = list_row (Some f ∷ c ∷ p ∷ []); loops = refl; may = m; tests = x; next = y }
initialized_clause s i j f c p (e ∷ es) m x y = record { first = Some f; condition = c; post = p; parts = list_row (Some f ∷ c ∷ p ∷ []); loops = refl; may = m; tests = x; next = y }

pub one_behind : (ns : Parts) (o : Part) → length (ns ++ Some o ∷ []) - 1 ≡ length ns
one_behind ns o = let e : length (ns ++ Some o ∷ []) ≡ suc (length ns) = longer ns in omega (arith, e)
  where
    longer : (xs : Parts) → length (xs ++ Some o ∷ []) ≡ suc (length xs)
    longer [] = refl
    longer (x ∷ xs) = ap suc (longer xs)

pub plain_range : (s : Frame) (i j : ℕ) (o : Part) (es : List TypeFault) → IsExpression o → IsRangeClause (built_by s kind.Range (form.Held kind.Range) i j (Some o ∷ []) es)
plain_range s i j o [] e = record { defines = false; names = []; over = o; parts = refl; loops = refl; are = tt; is = e }
plain_range s i j o (x ∷ es) e = record { defines = false; names = []; over = o; parts = refl; loops = refl; are = tt; is = e }

-- places are names
pub run_names : (xs : Parts) → AllValues xs → AllNames xs
run_names [] h = tt
run_names (None ∷ xs) h = absurd h
run_names (Some x ∷ xs) h = (other x h.0, run_names xs h.1)

pub assigning_range : (s : Frame) (i j : ℕ) (ns : Parts) (o : Part) (es : List TypeFault) → AllNames ns → IsExpression o → IsRangeClause (built_by s kind.AssigningRange (form.Held kind.AssigningRange) i j (ns ++ Some o ∷ []) es)
assigning_range s i j ns o [] h e = record {
  defines = false;
  names = ns;
  over = o;
  parts = list_row (ns ++ Some o ∷ []);
  loops = ap (form.Range false) (ap (λ ys. length ys - 1) (list_row (ns ++ Some o ∷ [])) ∙ one_behind ns o);
  are = h;
  is = e;
}
assigning_range s i j ns o (x ∷ es) h e = record {
  defines = false;
  names = ns;
  over = o;
  parts = list_row (ns ++ Some o ∷ []);
  loops = ap (form.Range false) (ap (λ ys. length ys - 1) (list_row (ns ++ Some o ∷ [])) ∙ one_behind ns o);
  are = h;
  is = e;
}

-- names with what they take, and the operand behind them
pub record IsTaken (n : ℕ) (ys : Parts) : Type 0 where
  pub names : Parts
  pub over : Part
  pub is : ys ≡ names ++ Some over ∷ []
  pub many : length names ≡ n
  pub are : AllNames names
  pub runs : IsExpression over

pub given_nothing : (ks : List Taking) → all_given ks [] ≡ []
given_nothing [] = refl
given_nothing (k ∷ ks) = refl

pub names_taken : (ks : List Taking) (ns : Parts) (o : Part) → AreOpen ks → AllNames ns → IsExpression o → IsTaken (length ns) (all_given ks (ns ++ Some o ∷ []))
names_taken [] ns o k h e = record { names = ns; over = o; is = refl; many = refl; are = h; runs = e }
names_taken (k ∷ ks) [] o q h e = record { names = []; over = given_part k o; is = ap (λ ys. Some (given_part k o) ∷ ys) (given_nothing ks); many = refl; are = tt; runs = part_runs k o e }
names_taken (k ∷ ks) (None ∷ ns) o q h e = absurd h
names_taken (k ∷ ks) (Some x ∷ ns) o q h e =
    let r = names_taken ks ns o q.1 h.1 e in
    record { names = Some (given_part k x) ∷ r.names; over = r.over; is = ap (λ ys. Some (given_part k x) ∷ ys) r.is; many = ap suc r.many; are = (part_name k x q.0 h.0, r.are); runs = r.runs }

pub range_clause : (ys ns : Parts) (o : Part) (n : ℕ) → ys ≡ ns ++ Some o ∷ [] → length ns ≡ n → length ys - 1 ≡ n
range_clause ys ns o n e m = ap (λ zs. length zs - 1) e ∙ one_behind ns o ∙ m

pub open_range : (s : Frame) (n : ℕ) (o : Option Part) → AreOpen (range_stands (rights_of s) n o)
open_range s n None = tt
open_range s n (Some x) = open_elements n (range_types (rights_of s) x)

pub defining_range : (s : Frame) (i j : ℕ) (ns : Parts) (o : Part) (es : List TypeFault) → AllNames ns → IsExpression o → IsRangeClause (built_by s kind.DefiningRange (form.Held kind.DefiningRange) i j (ns ++ Some o ∷ []) es)
defining_range s i j ns o [] h e =
    let ys : Parts = ns ++ Some o ∷ [] in
    let zs : Parts = all_given (taking s kind.DefiningRange (form.Held kind.DefiningRange) ys) ys in
    let r : IsTaken (length ns) zs = names_taken (taking s kind.DefiningRange (form.Held kind.DefiningRange) ys) ns o (open_range s (length ys - 1) (last_part (tables.present ys))) h e in
    record {
      defines = true;
      names = r.names;
      over = r.over;
      parts = list_row zs ∙ r.is;
      loops = ap (form.Range true) (range_clause (list_of (row zs)) r.names r.over (length r.names) (list_row zs ∙ r.is) refl);
      are = r.are;
      is = r.runs;
    }
defining_range s i j ns o (x ∷ es) h e =
    let ys : Parts = ns ++ Some o ∷ [] in
    record { defines = true; names = ns; over = o; parts = list_row ys; loops = ap (form.Range true) (range_clause (list_of (row ys)) ns o (length ns) (list_row ys) refl); are = h; is = e }

-- ---- loops

abbrev pub IsBody : Part → Type 0
IsBody b = (is_tail (form_of b) ≡ true) × IsStatement b

pub loop_row : (s : Frame) (i j : ℕ) (x b : Part) (es : List TypeFault) → IsForClause x → IsBody b → IsStatement (built_by s kind.For (loop_form (Some x)) i j (loop_header (Some x) ++ Some b ∷ []) es)
loop_row s i j x b es c h =
    subst (λ f. IsStatement (built_by s kind.For f i j (loop_header (Some x) ++ Some b ∷ []) es)) (sym c.loops)
    (subst (λ ys. IsStatement (built_by s kind.For form.For i j (ys ++ Some b ∷ []) es)) (sym c.parts) (by c.first c.condition c.post es c.may c.tests c.next))
  where
    by : (f t p : Option Part) (es : List TypeFault) → FirstOr f → OperandOr t → PostOr p → IsStatement (built_by s kind.For form.For i j (f ∷ t ∷ p ∷ Some b ∷ []) es)
    by None None None [] m u v = (refl, h)
    by None None None (e ∷ es) m u v = (refl, h)
    by None None (Some p) [] m u v = (refl, (v, h))
    by None None (Some p) (e ∷ es) m u v = (refl, (v, h))
    by None (Some t) None [] m u v = (refl, (given_runs (as_type boolean) t u, h))
    by None (Some t) None (e ∷ es) m u v = (refl, (u, h))
    by None (Some t) (Some p) [] m u v = (refl, (given_runs (as_type boolean) t u, (v, h)))
    by None (Some t) (Some p) (e ∷ es) m u v = (refl, (u, (v, h)))
    by (Some f) None None [] m u v = (refl, (m, h))
    by (Some f) None None (e ∷ es) m u v = (refl, (m, h))
    by (Some f) None (Some p) [] m u v = (refl, (m, (v, h)))
    by (Some f) None (Some p) (e ∷ es) m u v = (refl, (m, (v, h)))
    by (Some f) (Some t) None [] m u v = (refl, (m, (given_runs (as_type boolean) t u, h)))
    by (Some f) (Some t) None (e ∷ es) m u v = (refl, (m, (u, h)))
    by (Some f) (Some t) (Some p) [] m u v = (refl, (m, (given_runs (as_type boolean) t u, (v, h))))
    by (Some f) (Some t) (Some p) (e ∷ es) m u v = (refl, (m, (u, (v, h))))

pub endless_row : (s : Frame) (i j : ℕ) (b : Part) (es : List TypeFault) → IsBody b → IsStatement (built_by s kind.For form.For i j (None ∷ None ∷ None ∷ Some b ∷ []) es)
endless_row s i j b [] h = (refl, h)
endless_row s i j b (e ∷ es) h = (refl, h)

pub range_parts : (k : Taking) (ns : Parts) (o b : Part) → AllNames ns → IsExpression o → IsBody b → IsRange (length ns) (row (all_given (rest (length ns) ++ k ∷ []) ((ns ++ Some o ∷ []) ++ Some b ∷ [])))
range_parts k [] o b h e g = (part_runs k o e, g)
range_parts k (None ∷ ns) o b h e g = absurd h
range_parts k (Some x ∷ ns) o b h e g = (h.0, range_parts k ns o b h.1 e g)

pub range_plain : (ns : Parts) (o b : Part) → AllNames ns → IsExpression o → IsBody b → IsRange (length ns) (row ((ns ++ Some o ∷ []) ++ Some b ∷ []))
range_plain [] o b h e g = (e, g)
range_plain (None ∷ ns) o b h e g = absurd h
range_plain (Some x ∷ ns) o b h e g = (h.0, range_plain ns o b h.1 e g)

pub range_row : (s : Frame) (i j : ℕ) (x b : Part) (es : List TypeFault) → IsRangeClause x → IsBody b → IsStatement (built_by s kind.For (loop_form (Some x)) i j (loop_header (Some x) ++ Some b ∷ []) es)
range_row s i j x b es c h =
    subst (λ f. IsStatement (built_by s kind.For f i j (loop_header (Some x) ++ Some b ∷ []) es)) (sym c.loops)
    (subst (λ ys. IsStatement (built_by s kind.For (form.Range c.defines (length c.names)) i j (ys ++ Some b ∷ []) es)) (sym c.parts) (by es))
  where
    by : (es : List TypeFault) → IsStatement (built_by s kind.For (form.Range c.defines (length c.names)) i j ((c.names ++ Some c.over ∷ []) ++ Some b ∷ []) es)
    by [] = (refl, range_parts (operand_takes (length c.names) ((c.names ++ Some c.over ∷ []) ++ Some b ∷ [])) c.names c.over b c.are c.is h)
    by (e ∷ es) = (refl, range_plain c.names c.over b c.are c.is h)

pub header_row : (s : Frame) (i j : ℕ) (x b : Part) (es : List TypeFault) → IsLoopHeader x → IsBody b → IsStatement (built_by s kind.For (loop_form (Some x)) i j (loop_header (Some x) ++ Some b ∷ []) es)
header_row s i j x b es (inl c) h = loop_row s i j x b es c h
header_row s i j x b es (inr c) h = range_row s i j x b es c h

pub operand_alone : (x : Part) → is_held (form_of x) ≡ false → held (Some x) ≡ Some x ∷ []
operand_alone (typed (form.Held k) i j l ps) e = cc
operand_alone (typed f i j l ps) e = refl

abbrev pub HoldsValues : Part → Type 0
HoldsValues x = AllValues (held (Some x))

pub targets_values : (p : Place) (s : Frame) (h : Hint) (t : Tree) → IsShaped (category.Targets p) t → AllValues (held (Some (tree_in (reading s h t))))
targets_values p s h (node kind.Targets i j (syntax.more (node kind.ExpressionList a b (syntax.more q ps)) syntax.none)) g =
    let all : Trees = syntax.more q ps in
    let xs : Parts = holdings s kind.ExpressionList target all [] all in
    subst AllValues (sym (list_row (list_of (row xs) ++ [])))
    (subst AllValues (sym (nothing_behind (list_of (row xs)) ∙ list_row xs)) (values_held s target all [] all refl tt (list_shaped (category.LeftList p) p (node kind.ExpressionList a b all) (inr refl) g.1.0)))
targets_values p s h (node kind.Targets i j (syntax.more (node kind.ExpressionList a b syntax.none) syntax.none)) g = absurd g.1.0.1
targets_values p s h (node kind.Targets i j (syntax.more (node kind.ExpressionList a b (syntax.skip ps)) syntax.none)) g = absurd g.1.0.1
targets_values p s h (node kind.Targets i j (syntax.more (node k a b ps) syntax.none)) g = absurd (never g.1.0.0)
targets_values p s h (node kind.Targets i j (syntax.more x (syntax.more y ps))) g = absurd g.1.1
targets_values p s h (node kind.Targets i j (syntax.more x (syntax.skip ps))) g = absurd g.1.1
targets_values p s h (node kind.Targets i j syntax.none) g = absurd g.1
targets_values p s h (node kind.Targets i j (syntax.skip ps)) g = absurd g.1
targets_values p s h (node k i j ps) g = absurd (never g.0)

operand_loop : (x : Part) → IsOperand x → IsLoopHeader x
operand_loop x e =
    let y = unheld_loop x e.1 in
    inl record { first = None; condition = Some x; post = None; parts = y.0; loops = y.1; may = tt; tests = e.0; next = tt }

pub header_read : (s : Frame) (h : Hint) (t : Tree) → is_use h ≡ true → IsShaped category.ForHeader t → IsLoopHeader (tree_in (reading s h t))
header_read s h (node kind.ForClause i j (syntax.more c (syntax.more p syntax.none))) e g =
    let k : Kind = kind.ForClause in
    let all : Trees = syntax.more c (syntax.more p syntax.none) in
    more_shape IsLoopHeader IsOperand s k h i j all s [] [] c (syntax.more p syntax.none) (operand place.Header s value c g.1.0 refl)
    (λ x gs t x1. more_shape IsLoopHeader IsPost s k h i j all t (Some x ∷ []) gs p syntax.none (post_read category.Post t value p (post_kind p g.1.1.0) g.1.1.0)
    (λ y fs u y1. closed_shape IsLoopHeader s k i j all (readings u k h all (Some x ∷ Some y ∷ []) (gs ++ fs) syntax.none) (λ v es. inl (for_clause v i j (Some x) (Some y) es x1.0 y1))))
header_read s h (node kind.ForClause i j (syntax.more c (syntax.skip syntax.none))) e g =
    let k : Kind = kind.ForClause in
    let all : Trees = syntax.more c (syntax.skip syntax.none) in
    more_shape IsLoopHeader IsOperand s k h i j all s [] [] c (syntax.skip syntax.none) (operand place.Header s value c g.1.0 refl)
    (λ x gs t x1. closed_shape IsLoopHeader s k i j all (readings t k h all (Some x ∷ []) gs (syntax.skip syntax.none)) (λ v es. inl (for_clause v i j (Some x) None es x1.0 tt)))
header_read s h (node kind.ForClause i j (syntax.skip (syntax.more p syntax.none))) e g =
    let k : Kind = kind.ForClause in
    let all : Trees = syntax.skip (syntax.more p syntax.none) in
    more_shape IsLoopHeader IsPost s k h i j all s (None ∷ []) [] p syntax.none (post_read category.Post s value p (post_kind p g.1.0) g.1.0)
    (λ y fs u y1. closed_shape IsLoopHeader s k i j all (readings u k h all (None ∷ Some y ∷ []) fs syntax.none) (λ v es. inl (for_clause v i j None (Some y) es tt y1)))
header_read s h (node kind.ForClause i j (syntax.skip (syntax.skip syntax.none))) e g =
    let all : Trees = syntax.skip (syntax.skip syntax.none) in closed_shape IsLoopHeader s kind.ForClause i j all (readings s kind.ForClause h all [] [] all) (λ v es. inl (for_clause v i j None None es tt tt))
header_read s h (node kind.InitializedForClause i j (syntax.more f (syntax.more c (syntax.more p syntax.none)))) e g =
    let k : Kind = kind.InitializedForClause in
    let all : Trees = syntax.more f (syntax.more c (syntax.more p syntax.none)) in
    more_shape IsLoopHeader IsFirst s k h i j all s [] [] f (syntax.more c (syntax.more p syntax.none)) (first_read category.Simple s value f (simple_kind f g.1.0) g.1.0)
    (λ w hs r w1. more_shape IsLoopHeader IsOperand s k h i j all r (Some w ∷ []) hs c (syntax.more p syntax.none) (operand place.Header r value c g.1.1.0 refl)
    (λ x gs t x1. more_shape IsLoopHeader IsPost s k h i j all t (Some w ∷ Some x ∷ []) (hs ++ gs) p syntax.none (post_read category.Post t value p (post_kind p g.1.1.1.0) g.1.1.1.0)
    (λ y fs u y1. closed_shape IsLoopHeader s k i j all (readings u k h all (Some w ∷ Some x ∷ Some y ∷ []) ((hs ++ gs) ++ fs) syntax.none) (λ v es. inl (initialized_clause v i j w (Some x) (Some y) es w1 x1.0 y1)))))
header_read s h (node kind.InitializedForClause i j (syntax.more f (syntax.more c (syntax.skip syntax.none)))) e g =
    let k : Kind = kind.InitializedForClause in
    let all : Trees = syntax.more f (syntax.more c (syntax.skip syntax.none)) in
    more_shape IsLoopHeader IsFirst s k h i j all s [] [] f (syntax.more c (syntax.skip syntax.none)) (first_read category.Simple s value f (simple_kind f g.1.0) g.1.0)
    (λ w hs r w1. more_shape IsLoopHeader IsOperand s k h i j all r (Some w ∷ []) hs c (syntax.skip syntax.none) (operand place.Header r value c g.1.1.0 refl)
    (λ x gs t x1. closed_shape IsLoopHeader s k i j all (readings t k h all (Some w ∷ Some x ∷ []) (hs ++ gs) (syntax.skip syntax.none)) (λ v es. inl (initialized_clause v i j w (Some x) None es w1 x1.0 tt))))
header_read s h (node kind.InitializedForClause i j (syntax.more f (syntax.skip (syntax.more p syntax.none)))) e g =
    let k : Kind = kind.InitializedForClause in
    let all : Trees = syntax.more f (syntax.skip (syntax.more p syntax.none)) in
    more_shape IsLoopHeader IsFirst s k h i j all s [] [] f (syntax.skip (syntax.more p syntax.none)) (first_read category.Simple s value f (simple_kind f g.1.0) g.1.0)
    (λ w hs r w1. more_shape IsLoopHeader IsPost s k h i j all r (Some w ∷ None ∷ []) (hs ++ []) p syntax.none (post_read category.Post r value p (post_kind p g.1.1.0) g.1.1.0)
    (λ y fs u y1. closed_shape IsLoopHeader s k i j all (readings u k h all (Some w ∷ None ∷ Some y ∷ []) ((hs ++ []) ++ fs) syntax.none) (λ v es. inl (initialized_clause v i j w None (Some y) es w1 tt y1))))
header_read s h (node kind.InitializedForClause i j (syntax.more f (syntax.skip (syntax.skip syntax.none)))) e g =
    let k : Kind = kind.InitializedForClause in
    let all : Trees = syntax.more f (syntax.skip (syntax.skip syntax.none)) in
    more_shape IsLoopHeader IsFirst s k h i j all s [] [] f (syntax.skip (syntax.skip syntax.none)) (first_read category.Simple s value f (simple_kind f g.1.0) g.1.0)
    (λ w hs r w1. closed_shape IsLoopHeader s k i j all (readings r k h all (Some w ∷ []) hs (syntax.skip (syntax.skip syntax.none))) (λ v es. inl (initialized_clause v i j w None None es w1 tt tt)))
header_read s h (node kind.Range i j (syntax.more o syntax.none)) e g =
    let all : Trees = syntax.more o syntax.none in
    more_shape IsLoopHeader IsOperand s kind.Range h i j all s [] [] o syntax.none (operand place.Header s value o g.1.0 refl)
    (λ x gs t x1. closed_shape IsLoopHeader s kind.Range i j all (readings t kind.Range h all (Some x ∷ []) gs syntax.none) (λ v es. inr (plain_range v i j x es x1.0)))
header_read s h (node kind.AssigningRange i j (syntax.more n (syntax.more o syntax.none))) e g =
    let k : Kind = kind.AssigningRange in
    let all : Trees = syntax.more n (syntax.more o syntax.none) in
    more_shape IsLoopHeader HoldsValues s k h i j all s [] [] n (syntax.more o syntax.none) (targets_values place.Header s value n g.1.0)
    (λ w hs r w1. more_shape IsLoopHeader IsOperand s k h i j all r (Some w ∷ []) hs o syntax.none (operand place.Header r value o g.1.1.0 refl)
    (λ x gs t x1. closed_shape IsLoopHeader s k i j all (readings t k h all (Some w ∷ Some x ∷ []) (hs ++ gs) syntax.none)
    (λ v es. inr (subst (λ ys. IsRangeClause (built_by v k (form.Held k) i j (held (Some w) ++ (ys ++ [])) es)) (sym (operand_alone x x1.1)) (assigning_range v i j (held (Some w)) x es (run_names (held (Some w)) w1) x1.0)))))
header_read s h (node kind.DefiningRange i j (syntax.more n (syntax.more o syntax.none))) e g =
    let k : Kind = kind.DefiningRange in
    let all : Trees = syntax.more n (syntax.more o syntax.none) in
    more_shape IsLoopHeader HoldsNames s k h i j all s [] [] n (syntax.more o syntax.none) (new_names place.Header s value n g.1.0)
    (λ w hs r w1. more_shape IsLoopHeader IsOperand s k h i j all r (Some w ∷ []) hs o syntax.none (operand place.Header r value o g.1.1.0 refl)
    (λ x gs t x1. closed_shape IsLoopHeader s k i j all (readings t k h all (Some w ∷ Some x ∷ []) (hs ++ gs) syntax.none)
    (λ v es. inr (subst (λ ys. IsRangeClause (built_by v k (form.Held k) i j (held (Some w) ++ (ys ++ [])) es)) (sym (operand_alone x x1.1)) (defining_range v i j (held (Some w)) x es w1 x1.0)))))
header_read s h (node kind.ForClause i j syntax.none) e g = absurd g.1
header_read s h (node kind.ForClause i j (syntax.skip syntax.none)) e g = absurd g.1
header_read s h (node kind.ForClause i j (syntax.skip (syntax.skip (syntax.more y qs)))) e g = absurd g.1
header_read s h (node kind.ForClause i j (syntax.skip (syntax.skip (syntax.skip qs)))) e g = absurd g.1
header_read s h (node kind.ForClause i j (syntax.skip (syntax.more x1 (syntax.more y qs)))) e g = absurd g.1.1
header_read s h (node kind.ForClause i j (syntax.skip (syntax.more x1 (syntax.skip qs)))) e g = absurd g.1.1
header_read s h (node kind.ForClause i j (syntax.more x0 syntax.none)) e g = absurd g.1.1
header_read s h (node kind.ForClause i j (syntax.more x0 (syntax.skip (syntax.more y qs)))) e g = absurd g.1.1
header_read s h (node kind.ForClause i j (syntax.more x0 (syntax.skip (syntax.skip qs)))) e g = absurd g.1.1
header_read s h (node kind.ForClause i j (syntax.more x0 (syntax.more x1 (syntax.more y qs)))) e g = absurd g.1.1.1
header_read s h (node kind.ForClause i j (syntax.more x0 (syntax.more x1 (syntax.skip qs)))) e g = absurd g.1.1.1
header_read s h (node kind.InitializedForClause i j syntax.none) e g = absurd g.1
header_read s h (node kind.InitializedForClause i j (syntax.skip qs)) e g = absurd g.1
header_read s h (node kind.InitializedForClause i j (syntax.more x0 syntax.none)) e g = absurd g.1.1
header_read s h (node kind.InitializedForClause i j (syntax.more x0 (syntax.skip syntax.none))) e g = absurd g.1.1
header_read s h (node kind.InitializedForClause i j (syntax.more x0 (syntax.skip (syntax.skip (syntax.more y qs))))) e g = absurd g.1.1
header_read s h (node kind.InitializedForClause i j (syntax.more x0 (syntax.skip (syntax.skip (syntax.skip qs))))) e g = absurd g.1.1
header_read s h (node kind.InitializedForClause i j (syntax.more x0 (syntax.skip (syntax.more x2 (syntax.more y qs))))) e g = absurd g.1.1.1
header_read s h (node kind.InitializedForClause i j (syntax.more x0 (syntax.skip (syntax.more x2 (syntax.skip qs))))) e g = absurd g.1.1.1
header_read s h (node kind.InitializedForClause i j (syntax.more x0 (syntax.more x1 syntax.none))) e g = absurd g.1.1.1
header_read s h (node kind.InitializedForClause i j (syntax.more x0 (syntax.more x1 (syntax.skip (syntax.more y qs))))) e g = absurd g.1.1.1
header_read s h (node kind.InitializedForClause i j (syntax.more x0 (syntax.more x1 (syntax.skip (syntax.skip qs))))) e g = absurd g.1.1.1
header_read s h (node kind.InitializedForClause i j (syntax.more x0 (syntax.more x1 (syntax.more x2 (syntax.more y qs))))) e g = absurd g.1.1.1.1
header_read s h (node kind.InitializedForClause i j (syntax.more x0 (syntax.more x1 (syntax.more x2 (syntax.skip qs))))) e g = absurd g.1.1.1.1
header_read s h (node kind.Range i j syntax.none) e g = absurd g.1
header_read s h (node kind.Range i j (syntax.skip qs)) e g = absurd g.1
header_read s h (node kind.Range i j (syntax.more x0 (syntax.more y qs))) e g = absurd g.1.1
header_read s h (node kind.Range i j (syntax.more x0 (syntax.skip qs))) e g = absurd g.1.1
header_read s h (node kind.AssigningRange i j syntax.none) e g = absurd g.1
header_read s h (node kind.AssigningRange i j (syntax.skip qs)) e g = absurd g.1
header_read s h (node kind.AssigningRange i j (syntax.more x0 syntax.none)) e g = absurd g.1.1
header_read s h (node kind.AssigningRange i j (syntax.more x0 (syntax.skip qs))) e g = absurd g.1.1
header_read s h (node kind.AssigningRange i j (syntax.more x0 (syntax.more x1 (syntax.more y qs)))) e g = absurd g.1.1.1
header_read s h (node kind.AssigningRange i j (syntax.more x0 (syntax.more x1 (syntax.skip qs)))) e g = absurd g.1.1.1
header_read s h (node kind.DefiningRange i j syntax.none) e g = absurd g.1
header_read s h (node kind.DefiningRange i j (syntax.skip qs)) e g = absurd g.1
header_read s h (node kind.DefiningRange i j (syntax.more x0 syntax.none)) e g = absurd g.1.1
header_read s h (node kind.DefiningRange i j (syntax.more x0 (syntax.skip qs))) e g = absurd g.1.1
header_read s h (node kind.DefiningRange i j (syntax.more x0 (syntax.more x1 (syntax.more y qs)))) e g = absurd g.1.1.1
header_read s h (node kind.DefiningRange i j (syntax.more x0 (syntax.more x1 (syntax.skip qs)))) e g = absurd g.1.1.1
header_read s h (node k i j ps) e g = operand_loop (tree_in (reading s h (node k i j ps))) (typed_operand category.ForHeader s h (node k i j ps) g g.0 e)
