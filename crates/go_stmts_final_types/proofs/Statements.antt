-- Statements over parts whose holes have types.
use Rattle.std.proofs.Common.{◌≡◌, ℕ, suc, pred, Bool, true, false, cond, [], ◌∷◌, ◌++◌, List, length, map, take, drop, Option, Some, None, refl, sym, ap, subst, ◌∙◌}
use Rattle.std.specs.Prelude.{◌&&◌, ◌||◌}
use Rattle.std.proofs.Math.Seq.{take-append_seam, drop-append_seam}
use Rattle.go_base.specs.declared.fault.FaultCode.TheVariants as code
use Rattle.go_grammar.specs.declared.kind.Arithmetic.{Arithmetic}
use Rattle.go_grammar.specs.declared.kind.Kind.TheVariants as kind
use Rattle.go_grammar.specs.declared.kind.Operator.{Operator}
use Rattle.go_grammar.specs.declared.kind.Operator.TheVariants as operator
use Rattle.go_grammar.specs.declared.kind.Step.{Step}
use Rattle.go_types.specs.Trees.{TypeTree}
use Rattle.go_types.specs.Relations.{Rights}
use Rattle.go_typed.specs.declared.form.Form.TheVariants as form
use Rattle.go_typed.specs.Trees.{Typed, typed, Typeds, sort_of, row}
use Rattle.go_typed.specs.Trees as sort
use Rattle.go_exprs_rules.specs.declared.fault.TypeFault.{TypeFault}
use Rattle.go_exprs_rules.specs.declared.family.OpenKind.{OpenKind}
use Rattle.go_exprs_rules.specs.Operators.{Common, in_type, in_kind, common, common_by, one_typed, binary_take_in, binary_failing_in, is_shift, shifted_take, binary_take, binary_failing, shift_failing}
use Rattle.go_exprs_rules.specs.Settling.{Part, Take, stay, default, as_type, given}
use Rattle.go_exprs_rules.specs.Sorts.{Stands, is_open, is_unknown, is_constant, own_type, open_kind, suits, uint}
use Rattle.go_exprs_rules.specs.Names.{is_blank}
use Rattle.go_exprs_rules.specs.Tables.{Parts, present}
use Rattle.go_types_relations.specs.Identity.{is_identical}
use Rattle.go_stmts_defs.specs.Assigning.{Wanted, Taking, takes, type_or_default, values_take, names_take, variable, value_types_by, whole_results, first_known}
use Rattle.go_stmts_defs.specs.Frames.{Frame, rights_of}
use Rattle.go_stmts_defs.specs.Rules.{taking, own_faults, all_given, built_by, not_a_variable, not_a_target, target_type, each, assign_failing, assign_takes, define_takes, known_type, split_at, rest}
use Rattle.go_stmts_defs.specs.Targets.{is_variable, is_target, is_statement_call}
use Rattle.go_stmts_final_types.specs.Holes.{HolesTyped, AllHolesTyped}
use Rattle.go_stmts_final_types.specs.Known.{IsKnown, AreKnown}
use Rattle.go_stmts_final_types.proofs.Given.{is_closed}
use Rattle.go_stmts_final_types.proofs.Arguments.{is_taking}
use Rattle.go_stmts_final_types.proofs.Rows.{somes, present_somes}
use Rattle.go_stmts_final_types.proofs.Taken.{Valued, Says, IsBare, Ready, AllReady, AllNamed, known_before, closed_known, variable_typed, ready_value, ready_bare, ready_typed, statement_says, ruled_says}
use Rattle.go_stmts_final_types.proofs.Tests.{holds_at, first_none, second_none}
use Rattle.clone_window.specs.Masses as masses

abbrev pub Each : (Part → Type 0) → List Part → Type 0
Each P [] = Unit {0}
Each P (x ∷ xs) = P x × Each P xs

-- ---- expression statements, `++` and `--`

pub expression_says : (s : Frame) (i j : ℕ) (x : Part) → Valued x → own_faults s kind.ExpressionStatement form.Expression i j (Some x ∷ []) ≡ [] → Says (built_by s kind.ExpressionStatement form.Expression i j (Some x ∷ []) (own_faults s kind.ExpressionStatement form.Expression i j (Some x ∷ [])))
expression_says s i j x v e = ruled_says s kind.ExpressionStatement form.Expression i j (Some x ∷ []) (λ m. m) e tt
    (λ f h.
    let c = holds_at (is_statement_call x) [] code.UnusedValue x f in
    (v.sound.settles.closed (closed_known (sort_of x) (known_before stay x h.0) v.value (v.sound.called c.0)), tt))

pub step_says : (s : Frame) (o : Step) (i j : ℕ) (x : Part) → Valued x → own_faults s (kind.StepStatement o) (form.Step o) i j (Some x ∷ []) ≡ [] → Says (built_by s (kind.StepStatement o) (form.Step o) i j (Some x ∷ []) (own_faults s (kind.StepStatement o) (form.Step o) i j (Some x ∷ [])))
step_says s o i j x v e = ruled_says s (kind.StepStatement o) (form.Step o) i j (Some x ∷ []) (λ m. m) e tt
    (λ f h.
    let c = holds_at (is_variable (rights_of s) x) [] code.LeftSide x (first_none (not_a_variable (rights_of s) x) _ f) in
    (variable_typed (rights_of s) x v (known_before stay x h.0) c.0, tt))

-- ---- operations that assign

-- an operand that has a type doesn't meet another one untyped
typed_common : {X : Type 0} (rights : Rights) (a b : Stands) (k : OpenKind) → is_closed a ≡ true → common rights a b ≡ Some (in_kind k) → X
typed_common {X} rights (sort.Value t) b k c e = by (own_type b) (open_kind b) e
  where
    with_kind : (o : Option OpenKind) → one_typed rights t o ≡ Some (in_kind k) → X
    with_kind None e = cc
    with_kind (Some l) e = by_test (suits rights l t) e
      where
        by_test : (d : Bool) → cond d (Some (in_type t)) None ≡ Some (in_kind k) → X
        by_test true e = cc
        by_test false e = cc

    by : (o : Option TypeTree) (l : Option OpenKind) → common_by rights (sort.Value t) b (Some t) o ≡ Some (in_kind k) → X
    by (Some u) l e = by_test (is_identical t u) e
      where
        by_test : (d : Bool) → cond d (Some (in_type t)) None ≡ Some (in_kind k) → X
        by_test true e = cc
        by_test false e = cc
    by None l e = with_kind (open_kind b) e
typed_common {X} rights (sort.Constant t z) b k c e = by (own_type b) e
  where
    with_kind : (o : Option OpenKind) → one_typed rights t o ≡ Some (in_kind k) → X
    with_kind None e = cc
    with_kind (Some l) e = by_test (suits rights l t) e
      where
        by_test : (d : Bool) → cond d (Some (in_type t)) None ≡ Some (in_kind k) → X
        by_test true e = cc
        by_test false e = cc

    by : (o : Option TypeTree) → common_by rights (sort.Constant t z) b (Some t) o ≡ Some (in_kind k) → X
    by (Some u) e = by_test (is_identical t u) e
      where
        by_test : (d : Bool) → cond d (Some (in_type t)) None ≡ Some (in_kind k) → X
        by_test true e = cc
        by_test false e = cc
    by None e = with_kind (open_kind b) e
typed_common rights (sort.Open u) b k c e = cc
typed_common rights (sort.OpenConstant z) b k c e = cc
typed_common {X} rights a b k c e = by (own_type b) e
  where
    by : (o : Option TypeTree) → common_by rights a b None o ≡ Some (in_kind k) → X
    by (Some u) e = cc
    by None e = cc

module _ (rights : Rights) (x y : Part) (v : Valued x) (w : Valued y) where
  abbrev pub BothTyped : Take → Take → Type 0
  BothTyped k l = IsKnown (given k x) → IsKnown (given l y) → HolesTyped false (given k x) × HolesTyped false (given l y)

  both_typed : (k l : Take) → is_taking k ≡ true → is_taking l ≡ true → BothTyped k l
  both_typed k l e f = λ g h. ((ready_value k e x v).typed g, (ready_value l f y w).typed h)

  shift_typed : (d : Bool) → is_variable rights x ≡ true → BothTyped (cond d default stay) (as_type uint)
  shift_typed true e = both_typed default (as_type uint) refl refl
  shift_typed false e = λ g h. (variable_typed rights x v (known_before stay x g) e, (ready_value (as_type uint) refl y w).typed h)

  kind_typed : (k : OpenKind) (d : Bool) → is_variable rights x ≡ true → common rights (sort_of x) (sort_of y) ≡ Some (in_kind k) → BothTyped (cond d default stay) (cond d default stay)
  kind_typed k true e m = both_typed default default refl refl
  kind_typed k false e m = λ g h. by (is_open (sort_of x)) refl g
    where
      by : (b : Bool) → is_open (sort_of x) ≡ b → IsKnown x → HolesTyped false x × HolesTyped false y
      by true o g = absurd ((v.sound.target rights o e).2 g)
      by false o g = typed_common rights (sort_of x) (sort_of y) k (closed_known (sort_of x) (known_before stay x g) v.value o) m

  common_typed : (o : Operator) (i j : ℕ) → is_variable rights x ≡ true → (c : Option Common) → common rights (sort_of x) (sort_of y) ≡ c → binary_failing_in rights o i j x y c ≡ [] → BothTyped (binary_take_in (sort_of x) (sort_of y) c) (binary_take_in (sort_of x) (sort_of y) c)
  common_typed o i j e None m f = cc
  common_typed o i j e (Some (in_type t)) m f = both_typed (as_type t) (as_type t) refl refl
  common_typed o i j e (Some (in_kind k)) m f = kind_typed k (is_constant (sort_of x) && is_constant (sort_of y)) e m

abbrev given_by : Rights → Stands → Stands → Bool → List Take
given_by rights a b d = cond d (shifted_take a b ∷ as_type uint ∷ []) (binary_take rights a b ∷ binary_take rights a b ∷ [])

pub operate_says : (s : Frame) (o : Arithmetic) (i j : ℕ) (x y : Part) → Valued x → Valued y → own_faults s (kind.OperatorAssignment o) (form.Operate o) i j (Some x ∷ Some y ∷ []) ≡ []
    → Says (built_by s (kind.OperatorAssignment o) (form.Operate o) i j (Some x ∷ Some y ∷ []) (own_faults s (kind.OperatorAssignment o) (form.Operate o) i j (Some x ∷ Some y ∷ [])))
operate_says s o i j x y v w e = ruled_says s (kind.OperatorAssignment o) (form.Operate o) i j (Some x ∷ Some y ∷ []) (λ m. m) e (named (is_shift (operator.Compute o)))
    (λ f h.
    let c = holds_at (is_variable (rights_of s) x) [] code.LeftSide x (first_none (not_a_variable (rights_of s) x) _ f) in
    typed_by (is_shift (operator.Compute o)) c.0 (second_none (not_a_variable (rights_of s) x) _ f) h)
  where
    named : (b : Bool) → AllNamed (map takes (given_by (rights_of s) (sort_of x) (sort_of y) b)) (Some x ∷ Some y ∷ [])
    named true = tt
    named false = tt

    typed_by : (b : Bool) → is_variable (rights_of s) x ≡ true → cond b (shift_failing (rights_of s) (operator.Compute o) i j x y) (binary_failing (rights_of s) (operator.Compute o) i j x y) ≡ []
        → AreKnown (row (all_given (map takes (given_by (rights_of s) (sort_of x) (sort_of y) b)) (Some x ∷ Some y ∷ []))) → AllHolesTyped false (row (all_given (map takes (given_by (rights_of s) (sort_of x) (sort_of y) b)) (Some x ∷ Some y ∷ [])))
    typed_by true e f h = let r = shift_typed (rights_of s) x y v w (is_constant (sort_of x) && is_constant (sort_of y)) e h.0 h.1.0 in (r.0, (r.1, tt))
    typed_by false e f h =
        let r = common_typed (rights_of s) x y v w (operator.Compute o) i j e (common (rights_of s) (sort_of x) (sort_of y)) refl f h.0 h.1.0 in (r.0, (r.1, tt))

-- ---- values that are given to variables

pub type_taking : (t : Option TypeTree) (x : Part) → Valued x → Ready (type_or_default t) x
type_taking (Some t) x v = ready_value (as_type t) refl x v
type_taking None x v = ready_value default refl x v

pub values_ready : (ts : Wanted) (vs : List Part) → Each Valued vs → AllReady (values_take ts vs) (somes vs)
values_ready ts [] g = tt
values_ready [] (x ∷ vs) g = (ready_value default refl x g.0, values_ready [] vs g.1)
values_ready (t ∷ ts) (x ∷ vs) g = (type_taking t x g.0, values_ready ts vs g.1)

values_named : (ts : Wanted) (vs : List Part) (ys : Parts) → AllNamed (values_take ts vs) ys
values_named ts [] ys = tt
values_named [] (x ∷ vs) [] = tt
values_named [] (x ∷ vs) (None ∷ ys) = values_named [] vs ys
values_named [] (x ∷ vs) (Some y ∷ ys) = values_named [] vs ys
values_named (t ∷ ts) (x ∷ vs) [] = tt
values_named (t ∷ ts) (x ∷ vs) (None ∷ ys) = values_named ts vs ys
values_named (Some t ∷ ts) (x ∷ vs) (Some y ∷ ys) = values_named ts vs ys
values_named (None ∷ ts) (x ∷ vs) (Some y ∷ ys) = values_named ts vs ys

-- the first parts, and the others
pub present_both : (ts vs : List Part) → present (somes ts ++ somes vs) ≡ ts ++ vs
present_both [] vs = present_somes vs
present_both (t ∷ ts) vs = ap (λ ys. t ∷ ys) (present_both ts vs)

pub split_both : {A : Type 0} (f : List Part → List Part → A) (ts vs : List Part) → split_at (length ts) f (somes ts ++ somes vs) ≡ f ts vs
split_both f ts vs =
    ap (λ ys. f (take (length ts) ys) (drop (length ts) ys)) (present_both ts vs)
    ∙ (ap (λ ys. f ys (drop (length ts) (ts ++ vs))) (take-append_seam ts vs) ∙ ap (f ts) (drop-append_seam ts vs))

-- ---- assignments

target_typed : (rights : Rights) (x : Part) → Valued x → IsKnown x → is_target rights x ≡ true → HolesTyped false x
target_typed rights x v h e = by (is_blank (sort_of x)) refl
  where
    blank_closed : (z : Stands) → is_blank z ≡ true → is_closed z ≡ true
    blank_closed sort.Blank m = refl
    blank_closed z m = cc

    third : (a b c : Bool) → (a || b || c) ≡ true → a ≡ false → b ≡ false → c ≡ true
    third true b c e p q = cc
    third false true c e p q = cc
    third false false c e p q = e

    by : (b : Bool) → is_blank (sort_of x) ≡ b → HolesTyped false x
    by true m = v.sound.settles.closed (blank_closed (sort_of x) m)
    by false m = variable_typed rights x v (known_before stay x h) (third (is_blank (sort_of x)) (is_unknown (sort_of x)) (is_variable rights x) e m (known_before stay x h))

-- targets in front of parts that are ready
pub targets_typed : (rights : Rights) (ts : List Part) (ks : List Taking) (zs : Parts) → Each Valued ts → each (not_a_target rights) ts ≡ [] → (AreKnown (row (all_given ks zs)) → AllHolesTyped false (row (all_given ks zs)))
    → AreKnown (row (all_given (rest (length ts) ++ ks) (somes ts ++ zs))) → AllHolesTyped false (row (all_given (rest (length ts) ++ ks) (somes ts ++ zs)))
targets_typed rights [] ks zs g e r h = r h
targets_typed rights (t ∷ ts) ks zs g e r h =
    let own = holds_at (is_target rights t) [] code.LeftSide t (first_none (not_a_target rights t) (each (not_a_target rights) ts) e) in
    (target_typed rights t g.0 h.0 own.0, targets_typed rights ts ks zs g.1 (second_none (not_a_target rights t) (each (not_a_target rights) ts) e) r h.1)

targets_named : (ts : List Part) (ks : List Taking) (zs : Parts) → AllNamed ks zs → AllNamed (rest (length ts) ++ ks) (somes ts ++ zs)
targets_named [] ks zs n = n
targets_named (t ∷ ts) ks zs n = targets_named ts ks zs n

pub assign_says : (s : Frame) (i j : ℕ) (ts vs : List Part) → Each Valued ts → Each Valued vs → (ys : Parts) → ys ≡ somes ts ++ somes vs → own_faults s kind.Assignment (form.Assign (length ts)) i j ys ≡ []
    → Says (built_by s kind.Assignment (form.Assign (length ts)) i j ys (own_faults s kind.Assignment (form.Assign (length ts)) i j ys))
assign_says s i j ts vs g r ys m e = ruled_says s kind.Assignment (form.Assign (length ts)) i j ys (λ z. z) e
    (subst (λ ks. AllNamed ks ys) (sym takes_are) (subst (AllNamed (assign_takes ts vs)) (sym m) (targets_named ts (values_take (map target_type ts) vs) (somes vs) (values_named (map target_type ts) vs (somes vs)))))
    (λ f h.
    let fails : assign_failing (rights_of s) i j ts vs ≡ [] = sym (ap (split_at (length ts) (assign_failing (rights_of s) i j)) m ∙ split_both (assign_failing (rights_of s) i j) ts vs) ∙ f in
    let same : all_given (taking s kind.Assignment (form.Assign (length ts)) ys) ys ≡ all_given (assign_takes ts vs) (somes ts ++ somes vs) = ap (λ ks. all_given ks ys) takes_are ∙ ap (all_given (assign_takes ts vs)) m in
    subst (λ zs. AllHolesTyped false (row zs)) (sym same)
    (targets_typed (rights_of s) ts (values_take (map target_type ts) vs) (somes vs) g (first_none (each (not_a_target (rights_of s)) ts) _ fails) (ready_typed (values_take (map target_type ts) vs) (somes vs) (values_ready (map target_type ts) vs r)) (subst (λ zs. AreKnown (row zs)) same h)))
  where
    takes_are : split_at (length ts) assign_takes ys ≡ assign_takes ts vs
    takes_are = ap (split_at (length ts) assign_takes) m ∙ split_both assign_takes ts vs

-- ---- names that are declared

variable_no_constant : (o : Option TypeTree) → masses.is_constant (variable o) ≡ false
variable_no_constant None = refl
variable_no_constant (Some t) = refl

-- names in front of parts that are ready
pub names_ready : (ts us : Wanted) (ns : List Part) → Each IsBare ns → length ts ≡ length ns → (ks : List Taking) (zs : Parts) → AllReady ks zs → AllReady (names_take ts us ++ ks) (somes ns ++ zs)
names_ready [] us [] g e ks zs r = r
names_ready [] us (n ∷ ns) g e ks zs r = cc
names_ready (t ∷ ts) us [] g e ks zs r = cc
names_ready (t ∷ ts) [] (n ∷ ns) g e ks zs r = (ready_bare (variable t) (variable_no_constant t) n g.0, names_ready ts [] ns g.1 (ap pred e) ks zs r)
names_ready (t ∷ ts) (u ∷ us) (n ∷ ns) g e ks zs r = (ready_bare (variable (first_known t u)) (variable_no_constant (first_known t u)) n g.0, names_ready ts us ns g.1 (ap pred e) ks zs r)

pub length_mapped : {A B : Type 0} (f : A → B) (xs : List A) → length (map f xs) ≡ length xs
length_mapped f [] = refl
length_mapped f (x ∷ xs) = ap suc (length_mapped f xs)

pub define_says : (s : Frame) (i j : ℕ) (ns vs : List Part) → Each IsBare ns → Each Valued vs → (ys : Parts) → ys ≡ somes ns ++ somes vs → (own : List TypeFault) → own ≡ [] → Says (built_by s kind.Define (form.Define (length ns)) i j ys own)
define_says s i j ns vs g r ys m own e =
    let ts : Wanted = map (known_type s.locals) ns in
    statement_says s kind.Define (form.Define (length ns)) i j ys own e
    (subst (λ ks. AllReady ks ys) (sym (ap (split_at (length ns) (define_takes s)) m ∙ split_both (define_takes s) ns vs))
    (subst (AllReady (define_takes s ns vs)) (sym m) (names_ready ts (value_types_by vs (whole_results (rights_of s) vs)) ns g (length_mapped (known_type s.locals) ns) (values_take ts vs) (somes vs) (values_ready ts vs r))))
