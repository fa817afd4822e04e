-- Statements that are read without faults say that their holes have types.
use Rattle.std.proofs.Common.{◌≡◌, ℕ, suc, Bool, true, false, [], ◌∷◌, ◌++◌, List, length, Option, Some, None, refl, sym, ap, subst, ◌∙◌, append_assoc}
use Rattle.go_grammar.specs.declared.kind.Category.{Category}
use Rattle.go_grammar.specs.declared.kind.Category.TheVariants as category
use Rattle.go_grammar.specs.declared.kind.Arithmetic.{Arithmetic}
use Rattle.go_grammar.specs.declared.kind.Kind.{Kind}
use Rattle.go_grammar.specs.declared.kind.Kind.TheVariants as kind
use Rattle.go_grammar.specs.declared.kind.Place.{Place}
use Rattle.go_grammar.specs.declared.kind.Sort.TheVariants as declaring
use Rattle.go_grammar.specs.declared.kind.Step.{Step}
use Rattle.go_grammar.specs.Grammar.{rule}
use Rattle.go_grammar.specs.Rules.{Rule, Items, End, Then, Maybe, Unless, Many, Lines, Open, Each, item}
use Rattle.go_grammar.specs.Trees.{Trees, none, more, skip, kind_of}
use Rattle.go_tokens.specs.declared.token.TokenKind.{TokenKind}
use Rattle.go_tokens.specs.declared.token.TokenKind.TheVariants as token
use Rattle.go_typed.specs.declared.form.Form.{Form}
use Rattle.go_typed.specs.declared.form.Form.TheVariants as form
use Rattle.go_typed.specs.Trees.{form_of}
use Rattle.go_exprs_rules.specs.declared.fault.TypeFault.{TypeFault}
use Rattle.go_exprs_rules.specs.Faults.{reported, least, earlier}
use Rattle.go_exprs_rules.specs.Scopes.{Hint}
use Rattle.go_exprs_rules.specs.Settling.{Part}
use Rattle.go_exprs_rules.specs.Tables.{Parts, is_held, held, all_held}
use Rattle.go_stmts_defs.specs.Frames.{Frame}
use Rattle.go_stmts_defs.specs.Laying.{told, layout, form_by, held_count, without_absent, header_parts, if_parts, loop_header, loop_form}
use Rattle.go_stmts_defs.specs.Reading.{Found, Reading, read, Readings, all_read, reading, readings, after, entering, left_out, left_out_faults, repeated}
use Rattle.go_stmts_defs.specs.Rules.{own_faults, built_by, taking}
pub use Rattle.go_stmts_final_types.specs.Names.{tree_in, frame_in, parts_in, frame_all}
use Rattle.go_stmts_final_types.proofs.Headers.{Stated, SwitchHeaderIs, LoopHeaderIs, clause, ranges, all_say, if_says, switch_says, case_says, for_says, range_says, list_says, return_says}
use Rattle.go_stmts_final_types.proofs.Holders.{HeldOf, held_are, only_held, both_held}
use Rattle.go_stmts_final_types.proofs.Categories.{ReadFine, plain_held}
use Rattle.go_stmts_final_types.proofs.Rows.{somes}
use Rattle.go_stmts_final_types.proofs.Statements.{expression_says, step_says, operate_says, assign_says, define_says}
use Rattle.go_stmts_final_types.proofs.Statements as statements
use Rattle.go_stmts_final_types.proofs.Taken.{Valued, Says, IsBare, AllReady}

-- ---- readings

abbrev pub found_in : Reading → Found
found_in (read x fs s) = fs

abbrev pub found_all : Readings → Found
found_all (all_read xs fs s) = fs

pub after_is : (r : Reading) (next : Part → Found → Frame → Readings) → after r next ≡ next (tree_in r) (found_in r) (frame_in r)
after_is (read x fs s) next = refl

some_first : {X : Type 0} (f : TypeFault) (o : Option TypeFault) → earlier (Some f) o ≡ None → X
some_first f None e = cc
some_first f (Some g) e = cc

least_none : (fs : List TypeFault) → least fs ≡ None → fs ≡ []
least_none [] e = refl
least_none (f ∷ fs) e = some_first f (least fs) e

pub reported_front : (fs gs : Found) → reported (fs ++ gs) ≡ None → reported fs ≡ None
reported_front [] gs e = refl
reported_front ([] ∷ fs) gs e = reported_front fs gs e
reported_front ((f ∷ hs) ∷ fs) gs e = some_first f (least hs) e

pub reported_back : (fs gs : Found) → reported (fs ++ gs) ≡ None → reported gs ≡ None
reported_back [] gs e = e
reported_back ([] ∷ fs) gs e = reported_back fs gs e
reported_back ((f ∷ hs) ∷ fs) gs e = some_first f (least hs) e

pub one_none : (own : List TypeFault) → reported (own ∷ []) ≡ None → own ≡ []
one_none [] e = refl
one_none (f ∷ fs) e = least_none (f ∷ fs) e

-- what nothing is reported of behind a row is nothing that was reported in front of it
pub row_front : (s : Frame) (k : Kind) (h : Hint) (all : Trees) (xs : Parts) (fs : Found) (ps : Trees) → reported (found_all (readings s k h all xs fs ps)) ≡ None → reported fs ≡ None
row_front s k h all xs fs none e = e
row_front s k h all xs fs (more p ps) e =
    let q = reading (entering k xs s) (told k h all xs (kind_of p)) p in
    reported_front fs (found_in q) (row_front (frame_in q) k h all (xs ++ Some (tree_in q) ∷ []) (fs ++ found_in q) ps
    (sym (ap (λ z. reported (found_all z)) (after_is q (λ x gs t. readings t k h all (xs ++ Some x ∷ []) (fs ++ gs) ps))) ∙ e))
row_front s k h all xs fs (skip ps) e =
    let t = entering k xs s in
    reported_front fs (left_out_faults t k) (row_front t k h all (xs ++ left_out t k ∷ []) (fs ++ left_out_faults t k) ps e)

-- ---- rows

-- a specification of constants that repeats others
abbrev pub repeats : Kind → Bool
repeats (kind.Specification declaring.Constant) = true
repeats k = false

abbrev pub MaybeRead : Bool → Type 0 → Type 0
MaybeRead true T = Unit {0}
MaybeRead false T = T

-- a part of a category behind the parts pre
abbrev pub PartRead : Kind → Hint → Trees → Parts → Category → Part → Type 0
PartRead k h all pre c x = (n : Kind) × ReadFine c n (told k h all pre n) x

abbrev pub RowRead : Kind → Hint → Trees → Parts → Rule → Parts → Type 0
RowRead k h all pre (End ws) [] = Unit {0}
RowRead k h all pre (End ws) (y ∷ ys) = ⊥
RowRead k h all pre (Then ws c r) [] = ⊥
RowRead k h all pre (Then ws c r) (None ∷ ys) = ⊥
RowRead k h all pre (Then ws c r) (Some x ∷ ys) = PartRead k h all pre c x × RowRead k h all (pre ++ Some x ∷ []) r ys
RowRead k h all pre (Maybe ws c r) [] = ⊥
RowRead k h all pre (Maybe ws c r) (None ∷ ys) = RowRead k h all (pre ++ None ∷ []) r ys
RowRead k h all pre (Maybe ws c r) (Some x ∷ ys) = MaybeRead (repeats k) (PartRead k h all pre c x) × RowRead k h all (pre ++ Some x ∷ []) r ys
RowRead k h all pre (Unless ws c us r) [] = ⊥
RowRead k h all pre (Unless ws c us r) (None ∷ ys) = RowRead k h all (pre ++ None ∷ []) r ys
RowRead k h all pre (Unless ws c us r) (Some x ∷ ys) = MaybeRead (repeats k) (PartRead k h all pre c x) × RowRead k h all (pre ++ Some x ∷ []) r ys
RowRead k h all pre (Many ws l) [] = Unit {0}
RowRead k h all pre (Many ws l) (None ∷ ys) = ⊥
RowRead k h all pre (Many ws l) (Some x ∷ ys) = PartRead k h all pre (item l) x × RowRead k h all (pre ++ Some x ∷ []) (Many ws l) ys

pub maybe_part : (k : Kind) (T : Type 0) → T → MaybeRead (repeats k) T
maybe_part k T x = by (repeats k)
  where
    by : (b : Bool) → MaybeRead b T
    by true = tt
    by false = x

constants_skip : (o : Option Part) (h : Hint) (all : Trees) (pre : Parts) (ws : List TokenKind) (c : Category) (r : Rule) (ys : Parts)
    → RowRead (kind.Specification declaring.Constant) h all (pre ++ o ∷ []) r ys → RowRead (kind.Specification declaring.Constant) h all pre (Maybe ws c r) (o ∷ ys)
constants_skip None h all pre ws c r ys g = g
constants_skip (Some x) h all pre ws c r ys g = (tt, g)

pub skip_row : (k : Kind) (t : Frame) (h : Hint) (all : Trees) (pre : Parts) (ws : List TokenKind) (c : Category) (r : Rule) (ys : Parts) → RowRead k h all (pre ++ left_out t k ∷ []) r ys → RowRead k h all pre (Maybe ws c r) (left_out t k ∷ ys)
skip_row (kind.Specification declaring.Constant) t h all pre ws c r ys g = constants_skip (repeated t t.source) h all pre ws c r ys g
skip_row k t h all pre ws c r ys g = g

unless_skip : (o : Option Part) (h : Hint) (all : Trees) (pre : Parts) (ws : List TokenKind) (c : Category) (us : List TokenKind) (r : Rule) (ys : Parts)
    → RowRead (kind.Specification declaring.Constant) h all (pre ++ o ∷ []) r ys → RowRead (kind.Specification declaring.Constant) h all pre (Unless ws c us r) (o ∷ ys)
unless_skip None h all pre ws c us r ys g = g
unless_skip (Some x) h all pre ws c us r ys g = (tt, g)

pub skip_unless : (k : Kind) (t : Frame) (h : Hint) (all : Trees) (pre : Parts) (ws : List TokenKind) (c : Category) (us : List TokenKind) (r : Rule) (ys : Parts) → RowRead k h all (pre ++ left_out t k ∷ []) r ys → RowRead k h all pre (Unless ws c us r) (left_out t k ∷ ys)
skip_unless (kind.Specification declaring.Constant) t h all pre ws c us r ys g = unless_skip (repeated t t.source) h all pre ws c us r ys g
skip_unless k t h all pre ws c us r ys g = g

-- rows of one category
pub many_read : (P : Part → Type 0) (k : Kind) (h : Hint) (all : Trees) (pre : Parts) (ws : List TokenKind) (l : Items) → ((n : Kind) (g : Hint) (x : Part) → ReadFine (item l) n g x → P x) → (xs : Parts) → RowRead k h all pre (Many ws l) xs → (vs : List Part) × (xs ≡ somes vs) × statements.Each P vs
many_read P k h all pre ws l g [] r = ([], refl, tt)
many_read P k h all pre ws l g (None ∷ xs) r = elim r [ ]
many_read P k h all pre ws l g (Some x ∷ xs) r =
    let m = many_read P k h all (pre ++ Some x ∷ []) ws l g xs r.1 in (x ∷ m.0, ap (λ ys. Some x ∷ ys) m.1, (g r.0.0 (told k h all pre r.0.0) x r.0.1, m.2))

-- ---- nodes

pub built_form : (s : Frame) (k : Kind) (f : Form) (i j : ℕ) (ys : Parts) (own : List TypeFault) → form_of (built_by s k f i j ys own) ≡ f
built_form s k f i j ys [] = refl
built_form s k f i j ys (x ∷ xs) = refl

pub stated : (s : Frame) (k : Kind) (f : Form) (i j : ℕ) (ys : Parts) (own : List TypeFault) → is_held f ≡ false → Says (built_by s k f i j ys own) → Stated (built_by s k f i j ys own)
stated s k f i j ys own p h = record { says = h; plain = ap is_held (built_form s k f i j ys own) ∙ p }

pub length_somes : (vs : List Part) → length (somes vs) ≡ length vs
length_somes [] = refl
length_somes (v ∷ vs) = ap suc (length_somes vs)

pub held_length : (P : Part → Type 0) (x : Part) (h : HeldOf P x) → held_count (Some x) ≡ length h.all
held_length P x h = ap length (held_are P x h) ∙ length_somes h.all

all_plain : (ss : List Part) → statements.Each Stated ss → all_held (somes ss) ≡ somes ss
all_plain [] h = refl
all_plain (x ∷ ss) h = ap (λ zs. zs ++ all_held (somes ss)) (plain_held x h.0.plain) ∙ ap (λ zs. Some x ∷ zs) (all_plain ss h.1)

present_all : (vs : List Part) → without_absent (somes vs) ≡ somes vs
present_all [] = refl
present_all (v ∷ vs) = ap (λ zs. Some v ∷ zs) (present_all vs)

abbrev pub node_of : Frame → Kind → ℕ → ℕ → Parts → Part
node_of s k i j xs = built_by s k (form_by k xs) i j (layout s k i xs) (own_faults s k (form_by k xs) i j (layout s k i xs))

abbrev pub Sound : Frame → Kind → ℕ → ℕ → Parts → Type 0
Sound s k i j xs = own_faults s k (form_by k xs) i j (layout s k i xs) ≡ []

module _ (s : Frame) (h : Hint) (all : Trees) (p : Place) (i j : ℕ) where
  abbrev pub Row : Kind → Parts → Type 0
  Row k xs = RowRead k h all [] (rule p k) xs

  pub own_says : (k : Kind) (f : Form) (ys : Parts) → taking s k f ys ≡ [] → is_held f ≡ false → AllReady [] ys → own_faults s k f i j ys ≡ [] → Stated (built_by s k f i j ys (own_faults s k f i j ys))
  own_says k f ys n q r e = stated s k f i j ys (own_faults s k f i j ys) q (list_says s k f i j ys n r (own_faults s k f i j ys) e)

  pub block_read : (xs : Parts) → Row kind.Block xs → Sound s kind.Block i j xs → Stated (node_of s kind.Block i j xs)
  block_read xs r e =
      let m = many_read Stated kind.Block h all [] (token.LeftBrace ∷ []) (Lines true category.Statement token.Semicolon token.RightBrace) (λ n g x f. f) xs r in
      own_says kind.Block form.Block xs refl refl (subst (AllReady []) (sym m.1) (all_say m.0 m.2)) e

  pub default_read : (xs : Parts) → Row kind.Default xs → Sound s kind.Default i j xs → Stated (node_of s kind.Default i j xs)
  default_read xs r e =
      let m = many_read Stated kind.Default h all [] (token.Default ∷ token.Colon ∷ []) (Open category.Statement token.Semicolon) (λ n g x f. f) xs r in
      own_says kind.Default form.Default xs refl refl (subst (AllReady []) (sym m.1) (all_say m.0 m.2)) e

  case_node : (n : ℕ) (vs ss : List Part) → n ≡ length vs → statements.Each Valued vs → statements.Each Stated ss → (ys : Parts) → ys ≡ somes vs ++ somes ss → own_faults s kind.Case (form.Case n) i j ys ≡ []
      → Stated (built_by s kind.Case (form.Case n) i j ys (own_faults s kind.Case (form.Case n) i j ys))
  case_node n vs ss same g r ys m e = stated s kind.Case (form.Case n) i j ys (own_faults s kind.Case (form.Case n) i j ys) refl
      (subst (λ z. own_faults s kind.Case (form.Case z) i j ys ≡ [] → Says (built_by s kind.Case (form.Case z) i j ys (own_faults s kind.Case (form.Case z) i j ys))) (sym same)
      (λ e. case_says s i j vs ss g r ys m (own_faults s kind.Case (form.Case (length vs)) i j ys) e) e)

  pub case_read : (xs : Parts) → Row kind.Case xs → Sound s kind.Case i j xs → Stated (node_of s kind.Case i j xs)
  case_read [] r e = elim r [ ]
  case_read (None ∷ xs) r e = elim r [ ]
  case_read (Some l ∷ xs) r e =
      let hl = r.0.1 refl in
      let m = many_read Stated kind.Case h all (Some l ∷ []) (token.Colon ∷ []) (Open category.Statement token.Semicolon) (λ n g x f. f) xs r.1 in
      case_node (held_count (Some l)) hl.all m.0 (held_length Valued l hl) hl.each m.2 (all_held (Some l ∷ xs))
      (ap (λ zs. zs ++ all_held xs) (held_are Valued l hl) ∙ ap (λ zs. somes hl.all ++ zs) (ap all_held m.1 ∙ all_plain m.0 m.2)) e

  assign_node : (n : ℕ) (ts vs : List Part) → n ≡ length ts → statements.Each Valued ts → statements.Each Valued vs → (ys : Parts) → ys ≡ somes ts ++ somes vs → own_faults s kind.Assignment (form.Assign n) i j ys ≡ []
      → Stated (built_by s kind.Assignment (form.Assign n) i j ys (own_faults s kind.Assignment (form.Assign n) i j ys))
  assign_node n ts vs same g r ys m e = stated s kind.Assignment (form.Assign n) i j ys (own_faults s kind.Assignment (form.Assign n) i j ys) refl
      (subst (λ z. own_faults s kind.Assignment (form.Assign z) i j ys ≡ [] → Says (built_by s kind.Assignment (form.Assign z) i j ys (own_faults s kind.Assignment (form.Assign z) i j ys))) (sym same)
      (λ e. assign_says s i j ts vs g r ys m e) e)

  pub assignment_read : (xs : Parts) → Row kind.Assignment xs → Sound s kind.Assignment i j xs → Stated (node_of s kind.Assignment i j xs)
  assignment_read [] r e = elim r [ ]
  assignment_read (None ∷ xs) r e = elim r [ ]
  assignment_read (Some t ∷ []) r e = elim r.1 [ ]
  assignment_read (Some t ∷ None ∷ xs) r e = elim r.1 [ ]
  assignment_read (Some t ∷ Some l ∷ []) r e =
      let ht = r.0.1 in
      let hl = r.1.0.1 refl in
      assign_node (held_count (Some t)) ht.all hl.all (held_length Valued t ht) ht.each hl.each (all_held (Some t ∷ Some l ∷ [])) (both_held Valued Valued t l ht hl) e
  assignment_read (Some t ∷ Some l ∷ z ∷ zs) r e = elim r.1.1 [ ]

  define_node : (n : ℕ) (ns vs : List Part) → n ≡ length ns → statements.Each IsBare ns → statements.Each Valued vs → (ys : Parts) → ys ≡ somes ns ++ somes vs → own_faults s kind.Define (form.Define n) i j ys ≡ []
      → Stated (built_by s kind.Define (form.Define n) i j ys (own_faults s kind.Define (form.Define n) i j ys))
  define_node n ns vs same g r ys m e = stated s kind.Define (form.Define n) i j ys (own_faults s kind.Define (form.Define n) i j ys) refl
      (subst (λ z. own_faults s kind.Define (form.Define z) i j ys ≡ [] → Says (built_by s kind.Define (form.Define z) i j ys (own_faults s kind.Define (form.Define z) i j ys))) (sym same)
      (λ e. define_says s i j ns vs g r ys m (own_faults s kind.Define (form.Define (length ns)) i j ys) e) e)

  pub define_read : (xs : Parts) → Row kind.Define xs → Sound s kind.Define i j xs → Stated (node_of s kind.Define i j xs)
  define_read [] r e = elim r [ ]
  define_read (None ∷ xs) r e = elim r [ ]
  define_read (Some t ∷ []) r e = elim r.1 [ ]
  define_read (Some t ∷ None ∷ xs) r e = elim r.1 [ ]
  define_read (Some t ∷ Some l ∷ []) r e =
      let ht = r.0.1 in
      let hl = r.1.0.1 refl in
      define_node (held_count (Some t)) ht.all hl.all (held_length IsBare t ht) ht.each hl.each (all_held (Some t ∷ Some l ∷ [])) (both_held IsBare Valued t l ht hl) e
  define_read (Some t ∷ Some l ∷ z ∷ zs) r e = elim r.1.1 [ ]

  pub expression_read : (xs : Parts) → Row kind.ExpressionStatement xs → Sound s kind.ExpressionStatement i j xs → Stated (node_of s kind.ExpressionStatement i j xs)
  expression_read [] r e = elim r [ ]
  expression_read (None ∷ xs) r e = elim r [ ]
  expression_read (Some x ∷ []) r e = stated s kind.ExpressionStatement form.Expression i j (Some x ∷ []) _ refl (expression_says s i j x (r.0.1 refl) e)
  expression_read (Some x ∷ y ∷ ys) r e = elim r.1 [ ]

  pub step_read : (o : Step) (xs : Parts) → Row (kind.StepStatement o) xs → Sound s (kind.StepStatement o) i j xs → Stated (node_of s (kind.StepStatement o) i j xs)
  step_read o [] r e = elim r [ ]
  step_read o (None ∷ xs) r e = elim r [ ]
  step_read o (Some x ∷ []) r e = stated s (kind.StepStatement o) (form.Step o) i j (Some x ∷ []) _ refl (step_says s o i j x (r.0.1 refl) e)
  step_read o (Some x ∷ y ∷ ys) r e = elim r.1 [ ]

  pub operate_read : (o : Arithmetic) (xs : Parts) → Row (kind.OperatorAssignment o) xs → Sound s (kind.OperatorAssignment o) i j xs → Stated (node_of s (kind.OperatorAssignment o) i j xs)
  operate_read o [] r e = elim r [ ]
  operate_read o (None ∷ xs) r e = elim r [ ]
  operate_read o (Some x ∷ []) r e = elim r.1 [ ]
  operate_read o (Some x ∷ None ∷ ys) r e = elim r.1 [ ]
  operate_read o (Some x ∷ Some y ∷ []) r e = stated s (kind.OperatorAssignment o) (form.Operate o) i j (Some x ∷ Some y ∷ []) _ refl (operate_says s o i j x y (r.0.1 refl) (r.1.0.1 refl) e)
  operate_read o (Some x ∷ Some y ∷ z ∷ zs) r e = elim r.1.1 [ ]

  pub return_read : (xs : Parts) → Row kind.Return xs → Sound s kind.Return i j xs → Stated (node_of s kind.Return i j xs)
  return_read [] r e = elim r [ ]
  return_read (None ∷ []) r e = stated s kind.Return form.Return i j [] _ refl (return_says s i j [] tt [] refl e)
  return_read (None ∷ y ∷ ys) r e = elim r [ ]
  return_read (Some l ∷ []) r e =
      let hl = r.0.1 refl in
      let ys = without_absent (all_held (Some l ∷ [])) in
      stated s kind.Return form.Return i j ys _ refl (return_says s i j hl.all hl.each ys (ap without_absent (only_held Valued l hl) ∙ present_all hl.all) e)
  return_read (Some l ∷ y ∷ ys) r e = elim r.1 [ ]

  pub alone_read : (k : Kind) (f : Form) → taking s k f [] ≡ [] → is_held f ≡ false → own_faults s k f i j [] ≡ [] → Stated (built_by s k f i j [] (own_faults s k f i j []))
  alone_read k f n q e = own_says k f [] n q tt e

  -- ---- headers

  pub if_read : (xs : Parts) → Row kind.If xs → Sound s kind.If i j xs → Stated (node_of s kind.If i j xs)
  if_read [] r e = elim r [ ]
  if_read (None ∷ xs) r e = elim r [ ]
  if_read (Some a ∷ []) r e = elim r.1 [ ]
  if_read (Some a ∷ None ∷ xs) r e = elim r.1 [ ]
  if_read (Some a ∷ Some b ∷ []) r e = elim r.1.1 [ ]
  if_read (Some a ∷ Some b ∷ None ∷ []) r e =
      let ha = r.0.1 refl in
      let hb = r.1.0.1 in
      let ys = if_parts (Some a ∷ Some b ∷ None ∷ []) in
      stated s kind.If form.If i j ys _ refl (if_says s i j ha.first ha.value b None ha.says ha.valued hb.says tt ys (ap (λ zs. zs ++ (Some b ∷ None ∷ [])) ha.are) _ e)
  if_read (Some a ∷ Some b ∷ None ∷ z ∷ zs) r e = elim r.1.1 [ ]
  if_read (Some a ∷ Some b ∷ Some c ∷ []) r e =
      let ha = r.0.1 refl in
      let hb = r.1.0.1 in
      let hc = r.1.1.0.1 in
      let ys = if_parts (Some a ∷ Some b ∷ Some c ∷ []) in
      stated s kind.If form.If i j ys _ refl
      (if_says s i j ha.first ha.value b (Some hc.last) ha.says ha.valued hb.says hc.says ys (ap (λ zs. zs ++ (Some b ∷ held (Some c))) ha.are ∙ ap (λ zs. ha.first ∷ Some ha.value ∷ Some b ∷ zs) hc.are) _ e)
  if_read (Some a ∷ Some b ∷ Some c ∷ z ∷ zs) r e = elim r.1.1.1 [ ]

  switch_node : (o : Option Part) (cs : List Part) (g : SwitchHeaderIs o) → statements.Each Stated cs → (xs : Parts) → xs ≡ somes cs → own_faults s kind.Switch form.Switch i j (header_parts o ++ xs) ≡ []
      → Stated (built_by s kind.Switch form.Switch i j (header_parts o ++ xs) (own_faults s kind.Switch form.Switch i j (header_parts o ++ xs)))
  switch_node o cs g r xs m e = stated s kind.Switch form.Switch i j (header_parts o ++ xs) _ refl
      (switch_says s i j g.first g.value cs g.says g.valued r (header_parts o ++ xs) (ap (λ zs. zs ++ xs) g.are ∙ ap (λ zs. g.first ∷ g.value ∷ zs) m) _ e)

  pub switch_read : (xs : Parts) → Row kind.Switch xs → Sound s kind.Switch i j xs → Stated (node_of s kind.Switch i j xs)
  switch_read [] r e = elim r [ ]
  switch_read (None ∷ xs) r e =
      let m = many_read Stated kind.Switch h all (None ∷ []) (token.LeftBrace ∷ []) (Each category.Clause [] (token.RightBrace ∷ [])) (λ n g x f. f) xs r in
      switch_node None m.0 (record { first = None; value = None; are = refl; says = tt; valued = tt }) m.2 xs m.1 e
  switch_read (Some a ∷ xs) r e =
      let m = many_read Stated kind.Switch h all (Some a ∷ []) (token.LeftBrace ∷ []) (Each category.Clause [] (token.RightBrace ∷ [])) (λ n g x f. f) xs r.1 in
      switch_node (Some a) m.0 (r.0.1 refl) m.2 xs m.1 e

  loop_node : (o : Option Part) (b : Part) → LoopHeaderIs o → Stated b → own_faults s kind.For (loop_form o) i j (loop_header o ++ (Some b ∷ [])) ≡ []
      → Stated (built_by s kind.For (loop_form o) i j (loop_header o ++ (Some b ∷ [])) (own_faults s kind.For (loop_form o) i j (loop_header o ++ (Some b ∷ []))))
  loop_node o b (clause first test post are f hf hv hp) hb e =
      let ys = loop_header o ++ (Some b ∷ []) in
      stated s kind.For (loop_form o) i j ys _ (ap is_held f)
      (subst (λ z. own_faults s kind.For z i j ys ≡ [] → Says (built_by s kind.For z i j ys (own_faults s kind.For z i j ys))) (sym f)
      (λ e. for_says s i j first test post b hf hv hp hb.says ys (ap (λ zs. zs ++ (Some b ∷ [])) are) (own_faults s kind.For form.For i j ys) e) e)
  loop_node o b (ranges defines ts v are f ht hv) hb e =
      let ys = loop_header o ++ (Some b ∷ []) in
      stated s kind.For (loop_form o) i j ys _ (ap is_held f)
      (subst (λ z. own_faults s kind.For z i j ys ≡ [] → Says (built_by s kind.For z i j ys (own_faults s kind.For z i j ys))) (sym f)
      (λ e. range_says s i j defines ts v b ht hv hb.says ys (ap (λ zs. zs ++ (Some b ∷ [])) are ∙ append_assoc (somes ts) (Some v ∷ []) (Some b ∷ [])) (own_faults s kind.For (form.Range defines (length ts)) i j ys) refl e) e)

  pub for_read : (xs : Parts) → Row kind.For xs → Sound s kind.For i j xs → Stated (node_of s kind.For i j xs)
  for_read [] r e = elim r [ ]
  for_read (None ∷ []) r e = elim r [ ]
  for_read (None ∷ None ∷ xs) r e = elim r [ ]
  for_read (None ∷ Some b ∷ []) r e = loop_node None b (clause None None None refl refl tt tt tt) r.0.1 e
  for_read (None ∷ Some b ∷ z ∷ zs) r e = elim r.1 [ ]
  for_read (Some a ∷ []) r e = elim r.1 [ ]
  for_read (Some a ∷ None ∷ xs) r e = elim r.1 [ ]
  for_read (Some a ∷ Some b ∷ []) r e = loop_node (Some a) b (r.0.1 refl) r.1.0.1 e
  for_read (Some a ∷ Some b ∷ z ∷ zs) r e = elim r.1.1 [ ]

  pub function_read : (xs : Parts) → Row kind.FunctionDeclaration xs → Sound s kind.FunctionDeclaration i j xs → Stated (node_of s kind.FunctionDeclaration i j xs)
  function_read [] r e = elim r [ ]
  function_read (None ∷ xs) r e = elim r [ ]
  function_read (Some g ∷ []) r e = elim r.1 [ ]
  function_read (Some g ∷ None ∷ []) r e = own_says kind.FunctionDeclaration form.Function [] refl refl tt e
  function_read (Some g ∷ None ∷ z ∷ zs) r e = elim r.1 [ ]
  function_read (Some g ∷ Some b ∷ []) r e = own_says kind.FunctionDeclaration form.Function (Some b ∷ []) refl refl (record { typed = r.1.0.1.says }, tt) e
  function_read (Some g ∷ Some b ∷ z ∷ zs) r e = elim r.1.1 [ ]
