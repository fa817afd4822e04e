-- Statements one after the other, with variables in them.
use Rattle.std.proofs.Common.{◌≡◌, ◌∙◌, ℕ, Bool, true, false, List, [], ◌∷◌, ◌++◌, Option, Some, None, refl, sym, ap, subst, append_assoc, append-nil}
use Rattle.std.specs.Prelude.{◌&&◌, if◌then◌else◌}
use Rattle.go_grammar.specs.declared.kind.Kind.{Kind}
use Rattle.go_grammar.specs.declared.kind.Kind.TheVariants as kind
use Rattle.go_grammar.specs.declared.kind.Sort.TheVariants as declaring
use Rattle.go_grammar.specs.Trees.{Tree, node, Trees, none, more, skip, kind_of}
use Rattle.go_types.specs.Trees.{TypeTree}
use Rattle.go_typed.specs.declared.form.Form.{Form}
use Rattle.go_typed.specs.declared.form.Form.TheVariants as form
use Rattle.go_typed.specs.Trees.{Label, typed, Typeds, sort_of, form_of, label_of, row}
use Rattle.go_typed.specs.Trees as sort
use Rattle.go_exprs_rules.specs.declared.fault.TypeFault.{TypeFault}
use Rattle.go_exprs_rules.specs.Scopes.{Hint, value}
use Rattle.go_exprs_rules.specs.Settling.{Part}
use Rattle.go_exprs_rules.specs.Tables.{Parts, is_held, is_judged}
use Rattle.clone_window.specs.Masses.{is_inside}
use Rattle.clone_window.specs.Masses as masses
use Rattle.go_stmts_defs.specs.Assigning.{rests}
use Rattle.go_stmts_defs.specs.Frames.{Frame}
use Rattle.go_stmts_defs.specs.Laying.{told, layout, form_by, loop_form, first_loop_form}
use Rattle.go_stmts_defs.specs.Reading.{Found, Reading, read, Readings, all_read, after, reading, readings, beginning, entering, left_out, is_statement, holding, held_faults, closed}
use Rattle.go_stmts_defs.specs.Rules.{own_faults, built_by}
use Rattle.go_exprs_variables.specs.Variables.{Standins, ends_at, may_be_constant, node_with, at_hole, put_over, put, all_put, with_variables, all_with_variables, begun, Fits, AllFit, no_rule_fails}
use Rattle.go_exprs_variables.proofs.Public.{all_new, all_of, each, new_part, news, news_each, of_all}
use Rattle.go_stmts_variables.specs.Frames.{FramesStand}
use Rattle.go_stmts_variables.specs.Statements.{tree_in, found_in, frame_in, Tagged, AllTagged}
use Rattle.go_stmts_variables.specs.Steady.{Steady, PartsSteady}
use Rattle.go_stmts_variables.proofs.Endings.{AllCalm}
use Rattle.go_stmts_variables.proofs.Frames.{back_stands}
use Rattle.go_stmts_variables.proofs.Nodes.{Reads, Old, old_rules, old_fits, old_tagged, node_reads}
use Rattle.go_stmts_variables.proofs.Puts.{Put, Puts, IsStatementForm, fitting_put, no_hole, node_put}

pub after_is : (r : Reading) (next : Part → Found → Frame → Readings) → after r next ≡ next (tree_in r) (found_in r) (frame_in r)
after_is (read x fs s) next = refl

-- ---- statements are no expressions, and hold no parts for others

abbrev pub is_stated : Kind → Bool
is_stated kind.Return = true
is_stated kind.Break = true
is_stated kind.Continue = true
is_stated kind.Fallthrough = true
is_stated kind.Block = true
is_stated kind.If = true
is_stated kind.Switch = true
is_stated kind.For = true
is_stated kind.Case = true
is_stated kind.Default = true
is_stated kind.ExpressionStatement = true
is_stated (kind.StepStatement s) = true
is_stated kind.Assignment = true
is_stated (kind.OperatorAssignment o) = true
is_stated kind.Define = true
is_stated (kind.Declaration d) = true
is_stated (kind.Specification declaring.Variable) = true
is_stated k = false

-- a statement, typed
pub record IsStated (x : Part) : Type 0 where
  pub nothing : sort_of x ≡ sort.Nothing
  pub held : is_held (form_of x) ≡ false

loop_plain : (o : Option Part) → is_held (loop_form o) ≡ false
loop_plain (Some (typed (form.Held kind.Range) i j l ps)) = refl
loop_plain (Some (typed (form.Held kind.AssigningRange) i j l ps)) = refl
loop_plain (Some (typed (form.Held kind.DefiningRange) i j l ps)) = refl
loop_plain (Some (typed (form.Held k) i j l ps)) = refl
loop_plain (Some (typed f i j l ps)) = refl
loop_plain None = refl

first_loop_plain : (xs : Parts) → is_held (first_loop_form xs) ≡ false
first_loop_plain [] = refl
first_loop_plain (x ∷ xs) = loop_plain x

form_plain : (k : Kind) (xs : Parts) → is_stated k ≡ true → is_held (form_by k xs) ≡ false
form_plain kind.Return xs e = refl
form_plain kind.Break xs e = refl
form_plain kind.Continue xs e = refl
form_plain kind.Fallthrough xs e = refl
form_plain kind.Block xs e = refl
form_plain kind.If xs e = refl
form_plain kind.Switch xs e = refl
form_plain kind.For xs e = first_loop_plain xs
form_plain kind.Case xs e = refl
form_plain kind.Default xs e = refl
form_plain kind.ExpressionStatement xs e = refl
form_plain (kind.StepStatement s) xs e = refl
form_plain kind.Assignment xs e = refl
form_plain (kind.OperatorAssignment o) xs e = refl
form_plain kind.Define xs e = refl
form_plain (kind.Specification declaring.Variable) xs e = refl
form_plain (kind.Declaration declaring.Variable) xs e = refl
form_plain (kind.Declaration declaring.Constant) xs e = refl
form_plain (kind.Declaration declaring.Type) xs e = refl
form_plain k xs e = cc

pub stated_kind : (k : Kind) → is_stated k ≡ true → is_statement k ≡ true
stated_kind kind.Return e = refl
stated_kind kind.Break e = refl
stated_kind kind.Continue e = refl
stated_kind kind.Fallthrough e = refl
stated_kind kind.Block e = refl
stated_kind kind.If e = refl
stated_kind kind.Switch e = refl
stated_kind kind.For e = refl
stated_kind kind.Case e = refl
stated_kind kind.Default e = refl
stated_kind kind.ExpressionStatement e = refl
stated_kind (kind.StepStatement s) e = refl
stated_kind kind.Assignment e = refl
stated_kind (kind.OperatorAssignment o) e = refl
stated_kind kind.Define e = refl
stated_kind (kind.Declaration d) e = refl
stated_kind (kind.Specification d) e = refl
stated_kind k e = cc

built_stated : (s : Frame) (k : Kind) (f : Form) (i j : ℕ) (ys : Parts) (own : List TypeFault) → is_held f ≡ false → IsStated (built_by s k f i j ys own)
built_stated s k f i j ys [] e = record { nothing = refl; held = e }
built_stated s k f i j ys (x ∷ xs) e = record { nothing = refl; held = e }

closed_stated : (f : Frame) (k : Kind) (i j : ℕ) (ps : Trees) (r : Readings) → is_stated k ≡ true → IsStated (tree_in (closed f k i j ps r))
closed_stated f k i j ps (all_read xs fs s) e = built_stated s k (form_by k xs) i j (layout s k i xs) (own_faults s k (form_by k xs) i j (layout s k i xs)) (form_plain k xs e)

pub reading_stated : (f : Frame) (h : Hint) (x : Tree) → is_stated (kind_of x) ≡ true → IsStated (tree_in (reading f h x))
reading_stated f h (node k i j ps) e =
    subst (λ r. IsStated (tree_in r)) (sym (ap (λ b. if b then closed f k i j ps (readings (beginning k i f) k h ps [] [] ps) else read (holding f h (node k i j ps)) (held_faults f h (node k i j ps)) f) (stated_kind k e)))
    (closed_stated f k i j ps (readings (beginning k i f) k h ps [] [] ps) e)

-- ---- rows of statements

abbrev pub statements_of : Frame → Trees → List Part
statements_of f none = []
statements_of f (more p ps) = tree_in (reading f value p) ∷ statements_of (frame_in (reading f value p)) ps
statements_of f (skip ps) = statements_of f ps

abbrev pub statement_faults : Frame → Trees → Found
statement_faults f none = []
statement_faults f (more p ps) = found_in (reading f value p) ++ statement_faults (frame_in (reading f value p)) ps
statement_faults f (skip ps) = statement_faults f ps

abbrev pub frame_behind : Frame → Trees → Frame
frame_behind f none = f
frame_behind f (more p ps) = frame_behind (frame_in (reading f value p)) ps
frame_behind f (skip ps) = frame_behind f ps

abbrev pub AreStated : Trees → Type 0
AreStated none = Unit {0}
AreStated (more p ps) = (is_stated (kind_of p) ≡ true) × AreStated ps
AreStated (skip ps) = ⊥

-- each is steady where it begins
abbrev pub RowSteady : Frame → Trees → Type 0
RowSteady f none = Unit {0}
RowSteady f (more p ps) = Steady f value p × RowSteady (frame_in (reading f value p)) ps
RowSteady f (skip ps) = RowSteady f ps

module _ (k : Kind) (h : Hint) (all : Trees) (enter : (xs : Parts) (s : Frame) → entering k xs s ≡ s) (tell : (xs : Parts) (n : Kind) → told k h all xs n ≡ value) where
  pub row_steady : (f : Frame) (xs : Parts) (ps : Trees) → PartsSteady f k h all xs ps → RowSteady f ps
  row_steady f xs none s = tt
  row_steady f xs (skip ps) s = row_steady f (xs ++ left_out (entering k xs f) k ∷ []) ps (subst (λ z. PartsSteady z k h all (xs ++ left_out (entering k xs f) k ∷ []) ps) (enter xs f) s)
  row_steady f xs (more p ps) s =
      let one = subst (λ z. Steady z (told k h all xs (kind_of p)) p × PartsSteady (frame_in (reading z (told k h all xs (kind_of p)) p)) k h all (xs ++ Some (tree_in (reading z (told k h all xs (kind_of p)) p)) ∷ []) ps) (enter xs f) s in
      let two = subst (λ z. Steady f z p × PartsSteady (frame_in (reading f z p)) k h all (xs ++ Some (tree_in (reading f z p)) ∷ []) ps) (tell xs (kind_of p)) one in
      (two.0, row_steady (frame_in (reading f value p)) (xs ++ Some (tree_in (reading f value p)) ∷ []) ps two.1)

  pub row_reads : (f : Frame) (xs : Parts) (fs : Found) (ps : Trees) → AreStated ps → readings f k h all xs fs ps ≡ all_read (xs ++ each (statements_of f ps)) (fs ++ statement_faults f ps) (frame_behind f ps)
  row_reads f xs fs none e = ap (λ z. all_read z fs f) (sym (append-nil xs)) ∙ ap (λ z. all_read (xs ++ []) z f) (sym (append-nil fs))
  row_reads f xs fs (skip ps) e = elim e [ ]
  row_reads f xs fs (more p ps) e =
      let r = reading f value p in
      let ss = each (statements_of (frame_in r) ps) in
      let gs = statement_faults (frame_in r) ps in
      ap (λ z. after (reading z (told k h all xs (kind_of p)) p) (λ x gs t. readings t k h all (xs ++ Some x ∷ []) (fs ++ gs) ps)) (enter xs f)
      ∙ ap (λ z. after (reading f z p) (λ x gs t. readings t k h all (xs ++ Some x ∷ []) (fs ++ gs) ps)) (tell xs (kind_of p))
      ∙ after_is r (λ x gs t. readings t k h all (xs ++ Some x ∷ []) (fs ++ gs) ps)
      ∙ row_reads (frame_in r) (xs ++ Some (tree_in r) ∷ []) (fs ++ found_in r) ps e.1
      ∙ ap (λ z. all_read z ((fs ++ found_in r) ++ gs) (frame_behind (frame_in r) ps)) (append_assoc xs (Some (tree_in r) ∷ []) ss)
      ∙ ap (λ z. all_read (xs ++ Some (tree_in r) ∷ ss) z (frame_behind (frame_in r) ps)) (append_assoc fs (found_in r) gs)

module _ (w : Standins) where
  statement_calls : (f : Form) (i j : ℕ) (l : Label TypeTree) (ps : Typeds TypeTree) → l.sort ≡ sort.Nothing → (label_of (put w false (typed f i j l ps))).calls ≡ l.calls
  statement_calls f i j l ps e = ap (λ b. (label_of (put_over (at_hole w b i) f i j l (all_put w (is_inside false f l) ps))).calls) (no_hole w f l (ap masses.is_constant e))

  pub calls_put : (x : Part) → IsStated x → (label_of (put w false x)).calls ≡ (label_of x).calls
  calls_put (typed f i j l ps) s = statement_calls f i j l ps s.nothing

  -- a statement stands as it is put
  pub statement_put : (x : Part) → IsStated x → Fits w false x → Put w rests x
  statement_put x s fits =
      let same = fitting_put w x s.held fits in
      record { given = same; calls = ap (λ y. (label_of y).calls) same ∙ calls_put x s }

  pub news_two : (xs ys : Parts) → news w (xs ++ ys) ≡ news w xs ++ news w ys
  news_two [] ys = refl
  news_two (x ∷ xs) ys = ap (λ zs. new_part w x ∷ zs) (news_two xs ys)

  -- ---- what is known of each statement

  pub record Stated (p : Tree) : Type 0 where
    pub kind : is_stated (kind_of p) ≡ true
    pub reads : (f g : Frame) (h : Hint) → FramesStand w f g → no_rule_fails (found_in (reading f h p)) ≡ true → Fits w false (tree_in (reading f h p)) → Tagged (tree_in (reading f h p)) → Steady f h p
        → Reads w f g h p

  -- a statement whose tags don't matter
  pub stated_by : (p : Tree) → is_stated (kind_of p) ≡ true
      → ((f g : Frame) (h : Hint) → FramesStand w f g → no_rule_fails (found_in (reading f h p)) ≡ true → Fits w false (tree_in (reading f h p)) → Reads w f g h p) → Stated p
  stated_by p k r = record { kind = k; reads = λ f g h st good fits tags steady. r f g h st good fits }

  abbrev pub AllStated : Trees → Type 0
  AllStated none = Unit {0}
  AllStated (more p ps) = Stated p × AllStated ps
  AllStated (skip ps) = ⊥

  pub are_stated : (ps : Trees) → AllStated ps → AreStated ps
  are_stated none s = tt
  are_stated (more p ps) s = (s.0.kind, are_stated ps s.1)
  are_stated (skip ps) s = elim s [ ]

  new_kind : (k : Kind) (i j : ℕ) (ps : Trees) → is_stated k ≡ true → is_stated (kind_of (with_variables w (node k i j ps))) ≡ true
  new_kind k i j ps e = by (may_be_constant k && ends_at (w i) j) (stays k e (ends_at (w i) j))
    where
      stays : (k : Kind) → is_stated k ≡ true → (b : Bool) → (may_be_constant k && b) ≡ false
      stays kind.Name e b = cc
      stays kind.Integer e b = cc
      stays kind.Rune e b = cc
      stays kind.Text e b = cc
      stays kind.Parenthesized e b = cc
      stays (kind.Unary o) e b = cc
      stays (kind.Binary o) e b = cc
      stays kind.Call e b = cc
      stays k e b = refl

      by : (b : Bool) → b ≡ false → is_stated (kind_of (node_with b k i j (all_with_variables w ps))) ≡ true
      by false m = e
      by true m = cc

  pub new_stated_kind : (p : Tree) → is_stated (kind_of p) ≡ true → is_stated (kind_of (with_variables w p)) ≡ true
  new_stated_kind (node k i j ps) e = new_kind k i j ps e

  pub new_stated : (ps : Trees) → AreStated ps → AreStated (all_with_variables w ps)
  new_stated none s = tt
  new_stated (more p ps) s = (new_stated_kind p s.0, new_stated ps s.1)
  new_stated (skip ps) s = elim s [ ]

  pub record RowReads (f g : Frame) (ps : Trees) : Type 0 where
    pub trees : statements_of g (all_with_variables w ps) ≡ all_new w (statements_of f ps)
    pub good : no_rule_fails (statement_faults g (all_with_variables w ps)) ≡ true
    pub frame : FramesStand w (frame_behind f ps) (frame_behind g (all_with_variables w ps))
    pub calm : AllCalm w (row (each (statements_of f ps)))

  pub statements_read : (f g : Frame) (ps : Trees) → AllStated ps → FramesStand w f g → no_rule_fails (statement_faults f ps) ≡ true → AllFit w false (row (each (statements_of f ps)))
      → AllTagged (row (each (statements_of f ps))) → RowSteady f ps → RowReads f g ps
  statements_read f g none s st good fits tags steady = record { trees = refl; good = refl; frame = st; calm = tt }
  statements_read f g (skip ps) s st good fits tags steady = elim s [ ]
  statements_read f g (more p ps) s st good fits tags steady =
      let both = all_of (found_in (reading f value p)) (statement_faults (frame_in (reading f value p)) ps) good in
      let one = s.0.reads f g value st both.0 fits.0 tags.0 steady.0 in
      let q = with_variables w p in
      let rest = statements_read (frame_in (reading f value p)) (frame_in (reading g value q)) ps s.1 one.frame both.1 fits.1 tags.1 steady.1 in
      record {
        trees = ap (λ x. x ∷ statements_of (frame_in (reading g value q)) (all_with_variables w ps)) one.tree ∙ ap (λ xs. begun w false (tree_in (reading f value p)) ∷ xs) rest.trees;
        good = of_all (found_in (reading g value q)) (statement_faults (frame_in (reading g value q)) (all_with_variables w ps)) one.failing rest.good;
        frame = rest.frame;
        calm = (one.calm (stated_kind (kind_of p) s.0.kind), rest.calm);
      }

  pub statements_put : (f : Frame) (ps : Trees) → AreStated ps → AllFit w false (row (each (statements_of f ps))) → Puts w [] (each (statements_of f ps))
  statements_put f none s fits = tt
  statements_put f (more p ps) s fits = (statement_put (tree_in (reading f value p)) (reading_stated f value p s.0) fits.0, statements_put (frame_in (reading f value p)) ps s.1 fits.1)
  statements_put f (skip ps) s fits = elim s [ ]

  -- ---- blocks, and clauses without values

  module _ (f g : Frame) (h : Hint) (i j : ℕ) (ps : Trees) (s : AllStated ps) (st : FramesStand w f g) where
    abbrev new : Trees
    new = all_with_variables w ps

    block_form : IsStatementForm w form.Block
    block_form = record { held = refl; key = refl; call = refl; name = λ z. refl }

    default_form : IsStatementForm w form.Default
    default_form = record { held = refl; key = refl; call = refl; name = λ z. refl }

    nothing_wrong : (b : Bool) → (if◌then◌else◌ {A = List TypeFault} b [] []) ≡ []
    nothing_wrong true = refl
    nothing_wrong false = refl

    block_old : Old w f h kind.Block i j ps
    block_old = record {
      parts = each (statements_of f ps);
      found = statement_faults f ps;
      behind = frame_behind f ps;
      form = form.Block;
      laid = each (statements_of f ps);
      is = row_reads kind.Block h ps (λ xs s. refl) (λ xs n. refl) f [] [] ps (are_stated ps s);
      laid_is = refl;
      form_is = refl;
    }

    pub block_reads : no_rule_fails (found_in (reading f h (node kind.Block i j ps))) ≡ true → Fits w false (tree_in (reading f h (node kind.Block i j ps))) → Tagged (tree_in (reading f h (node kind.Block i j ps)))
        → Steady f h (node kind.Block i j ps) → Reads w f g h (node kind.Block i j ps)
    unfolding block_old
    block_reads good fits tags steady =
        let own = old_rules w f h kind.Block i j ps refl block_old good in
        let all = old_fits w f h kind.Block i j ps refl block_old own.1 fits in
        let r = statements_read f g ps s st own.0 all (old_tagged w f h kind.Block i j ps refl block_old own.1 tags).1 (row_steady kind.Block h ps (λ xs s. refl) (λ xs n. refl) f [] ps steady.1) in
        node_reads w f g h kind.Block i j ps block_old refl refl own.1
        (record {
          parts = each (statements_of g new);
          found = statement_faults g new;
          behind = frame_behind g new;
          is = row_reads kind.Block h new (λ xs s. refl) (λ xs n. refl) g [] [] new (new_stated ps (are_stated ps s));
          laid_is = ap each r.trees ∙ sym (news_each w (statements_of f ps));
          form_is = refl;
          good = r.good;
          rule = nothing_wrong (is_judged (news w (each (statements_of f ps))));
          node = node_put w form.Block i j [] (each (statements_of f ps)) block_form (statements_put f ps (are_stated ps s) all);
          frame = back_stands w f g (frame_behind f ps) (frame_behind g new) st r.frame;
          calm = r.calm;
        })

    default_old : Old w f h kind.Default i j ps
    default_old = record {
      parts = each (statements_of f ps);
      found = statement_faults f ps;
      behind = frame_behind f ps;
      form = form.Default;
      laid = each (statements_of f ps);
      is = row_reads kind.Default h ps (λ xs s. refl) (λ xs n. refl) f [] [] ps (are_stated ps s);
      laid_is = refl;
      form_is = refl;
    }

    pub default_reads : no_rule_fails (found_in (reading f h (node kind.Default i j ps))) ≡ true → Fits w false (tree_in (reading f h (node kind.Default i j ps))) → Tagged (tree_in (reading f h (node kind.Default i j ps)))
        → Steady f h (node kind.Default i j ps) → Reads w f g h (node kind.Default i j ps)
    unfolding default_old
    default_reads good fits tags steady =
        let own = old_rules w f h kind.Default i j ps refl default_old good in
        let all = old_fits w f h kind.Default i j ps refl default_old own.1 fits in
        let r = statements_read f g ps s st own.0 all (old_tagged w f h kind.Default i j ps refl default_old own.1 tags).1 (row_steady kind.Default h ps (λ xs s. refl) (λ xs n. refl) f [] ps steady.1) in
        node_reads w f g h kind.Default i j ps default_old refl refl own.1
        (record {
          parts = each (statements_of g new);
          found = statement_faults g new;
          behind = frame_behind g new;
          is = row_reads kind.Default h new (λ xs s. refl) (λ xs n. refl) g [] [] new (new_stated ps (are_stated ps s));
          laid_is = ap each r.trees ∙ sym (news_each w (statements_of f ps));
          form_is = refl;
          good = r.good;
          rule = nothing_wrong (is_judged (news w (each (statements_of f ps))));
          node = node_put w form.Default i j [] (each (statements_of f ps)) default_form (statements_put f ps (are_stated ps s) all);
          frame = back_stands w f g (frame_behind f ps) (frame_behind g new) st r.frame;
          calm = r.calm;
        })

  -- ---- branches without parts

  module _ (f g : Frame) (h : Hint) (i j : ℕ) (st : FramesStand w f g) where
    break_form : IsStatementForm w form.Break
    break_form = record { held = refl; key = refl; call = refl; name = λ z. refl }

    continue_form : IsStatementForm w form.Continue
    continue_form = record { held = refl; key = refl; call = refl; name = λ z. refl }

    fallthrough_form : IsStatementForm w form.Fallthrough
    fallthrough_form = record { held = refl; key = refl; call = refl; name = λ z. refl }

    pub break_reads : Reads w f g h (node kind.Break i j none)
    break_reads =
        node_reads w f g h kind.Break i j none (record { parts = []; found = []; behind = f; form = form.Break; laid = []; is = refl; laid_is = refl; form_is = refl }) refl refl refl
        (record { parts = []; found = []; behind = g; is = refl; laid_is = refl; form_is = refl; good = refl; rule = refl; node = node_put w form.Break i j [] [] break_form tt; frame = back_stands w f g f g st st; calm = tt })

    pub continue_reads : Reads w f g h (node kind.Continue i j none)
    continue_reads =
        node_reads w f g h kind.Continue i j none (record { parts = []; found = []; behind = f; form = form.Continue; laid = []; is = refl; laid_is = refl; form_is = refl }) refl refl refl
        (record { parts = []; found = []; behind = g; is = refl; laid_is = refl; form_is = refl; good = refl; rule = refl; node = node_put w form.Continue i j [] [] continue_form tt; frame = back_stands w f g f g st st; calm = tt })

    pub fallthrough_reads : Reads w f g h (node kind.Fallthrough i j none)
    fallthrough_reads =
        node_reads w f g h kind.Fallthrough i j none (record { parts = []; found = []; behind = f; form = form.Fallthrough; laid = []; is = refl; laid_is = refl; form_is = refl }) refl refl refl
        (record { parts = []; found = []; behind = g; is = refl; laid_is = refl; form_is = refl; good = refl; rule = refl; node = node_put w form.Fallthrough i j [] [] fallthrough_form tt; frame = back_stands w f g f g st st; calm = tt })
