-- Rows of statements and expressions, as headers have them, with variables in them.
use Rattle.std.proofs.Common.{◌≡◌, ◌∙◌, ℕ, true, false, List, [], ◌∷◌, ◌++◌, Some, None, refl, sym, ap, subst, append_assoc, append-nil}
use Rattle.std.specs.Prelude.{◌||◌}
use Rattle.std.specs.List.{list_any}
use Rattle.go_grammar.specs.declared.kind.Kind.{Kind}
use Rattle.go_grammar.specs.declared.kind.Level.TheVariants as level
use Rattle.go_grammar.specs.declared.kind.Place.{Place}
use Rattle.go_grammar.specs.Grammar.{any}
use Rattle.go_grammar.specs.Trees.{Tree, node, Trees, none, more, skip, kind_of}
use Rattle.go_types.specs.Trees.{TypeTree, boolean}
use Rattle.go_types.specs.Relations.{Rights}
use Rattle.go_typed.specs.declared.form.Form.TheVariants as form
use Rattle.go_typed.specs.Trees.{typed, Typeds, sort_of, label_of, row}
use Rattle.go_typed.specs.Trees as sort
use Rattle.go_exprs_rules.specs.declared.family.OpenKind.TheVariants as untyped_kind
use Rattle.go_exprs_rules.specs.Scopes.{Hint, value}
use Rattle.go_exprs_rules.specs.Settling.{Part, unrepresented}
use Rattle.go_exprs_rules.specs.Sorts.{is_open, open_kind}
use Rattle.go_exprs_rules.specs.Tables.{Parts, made, calls_in, varies_in}
use Rattle.go_stmts_defs.specs.Frames.{Frame, scope_of}
use Rattle.go_stmts_defs.specs.Laying.{told, layout, form_by}
use Rattle.go_stmts_defs.specs.Reading.{Found, all_read, after, reading, readings, beginning, entering, left_out, left_out_faults, leaving, back, is_statement}
use Rattle.go_stmts_defs.specs.Rules.{own_faults, taking, all_given}
use Rattle.go_exprs_variables.specs.Over.{any_varies, varies_over}
use Rattle.go_exprs_variables.specs.Shapes.{IsShaped}
use Rattle.go_exprs_variables.specs.Variables.{Standins, with_variables, all_with_variables, Proper, begun, all_begun, Fits, no_rule_fails, ExpressionsTyped}
use Rattle.go_exprs_variables.proofs.Public.{all_of, begun_by, calls_kept, expression_operand, is_operand, news, not_wanted, of_all}
use Rattle.go_stmts_variables.specs.Frames.{FramesStand}
use Rattle.go_stmts_variables.specs.Statements.{tree_in, found_in, frame_in, Tagged}
use Rattle.go_stmts_variables.specs.Steady.{Steady, PartsSteady}
use Rattle.go_stmts_variables.proofs.Endings.{Calm}
use Rattle.go_stmts_variables.proofs.Expressions.{asks, Will, IsValuePart, new_operand, operand_reading, plain_operand, value_typed}
use Rattle.go_stmts_variables.proofs.Frames.{back_stands, scopes_stand}
use Rattle.go_stmts_variables.proofs.Nodes.{Reads, Old, old_closed, old_rules, sound_node, node_reads}
use Rattle.go_stmts_variables.proofs.Truths.{truths}
use Rattle.go_stmts_variables.proofs.Rows.{after_is, IsStated, reading_stated, calls_put, RowSteady, row_steady, Stated}

-- ---- rows of any parts

abbrev pub row_parts : Frame → Trees → Parts
row_parts f none = []
row_parts f (more p ps) = Some (tree_in (reading f value p)) ∷ row_parts (frame_in (reading f value p)) ps
row_parts f (skip ps) = None ∷ row_parts f ps

abbrev pub row_found : Frame → Trees → Found
row_found f none = []
row_found f (more p ps) = found_in (reading f value p) ++ row_found (frame_in (reading f value p)) ps
row_found f (skip ps) = row_found f ps

abbrev pub row_behind : Frame → Trees → Frame
row_behind f none = f
row_behind f (more p ps) = row_behind (frame_in (reading f value p)) ps
row_behind f (skip ps) = row_behind f ps

-- parts of a kind are read in what is known behind those in front of them, and are told that a value is wanted
pub record IsPlainRow (k : Kind) : Type 0 where
  pub enters : (xs : Parts) (s : Frame) → entering k xs s ≡ s
  pub tells : (h : Hint) (all : Trees) (xs : Parts) (n : Kind) → told k h all xs n ≡ value
  pub leaves : (s : Frame) → left_out s k ≡ None
  pub finds : (s : Frame) → left_out_faults s k ≡ []

module _ (k : Kind) (h : Hint) (all : Trees) (plain : IsPlainRow k) where
  pub any_row : (f : Frame) (xs : Parts) (fs : Found) (ps : Trees) → readings f k h all xs fs ps ≡ all_read (xs ++ row_parts f ps) (fs ++ row_found f ps) (row_behind f ps)
  any_row f xs fs none = ap (λ z. all_read z fs f) (sym (append-nil xs)) ∙ ap (λ z. all_read (xs ++ []) z f) (sym (append-nil fs))
  any_row f xs fs (skip ps) =
      ap (λ z. readings z k h all (xs ++ left_out z k ∷ []) (fs ++ left_out_faults z k) ps) (plain.enters xs f)
      ∙ ap (λ z. readings f k h all (xs ++ z ∷ []) (fs ++ left_out_faults f k) ps) (plain.leaves f)
      ∙ ap (λ z. readings f k h all (xs ++ None ∷ []) (fs ++ z) ps) (plain.finds f)
      ∙ ap (λ z. readings f k h all (xs ++ None ∷ []) z ps) (append-nil fs)
      ∙ any_row f (xs ++ None ∷ []) fs ps
      ∙ ap (λ z. all_read z (fs ++ row_found f ps) (row_behind f ps)) (append_assoc xs (None ∷ []) (row_parts f ps))
  any_row f xs fs (more p ps) =
      let r = reading f value p in
      let ss = row_parts (frame_in r) ps in
      let gs = row_found (frame_in r) ps in
      ap (λ z. after (reading z (told k h all xs (kind_of p)) p) (λ x gs t. readings t k h all (xs ++ Some x ∷ []) (fs ++ gs) ps)) (plain.enters xs f)
      ∙ ap (λ z. after (reading f z p) (λ x gs t. readings t k h all (xs ++ Some x ∷ []) (fs ++ gs) ps)) (plain.tells h all xs (kind_of p))
      ∙ after_is r (λ x gs t. readings t k h all (xs ++ Some x ∷ []) (fs ++ gs) ps)
      ∙ any_row (frame_in r) (xs ++ Some (tree_in r) ∷ []) (fs ++ found_in r) ps
      ∙ ap (λ z. all_read z ((fs ++ found_in r) ++ gs) (row_behind (frame_in r) ps)) (append_assoc xs (Some (tree_in r) ∷ []) ss)
      ∙ ap (λ z. all_read (xs ++ Some (tree_in r) ∷ ss) z (row_behind (frame_in r) ps)) (append_assoc fs (found_in r) gs)

-- what stands at a place of a header: a statement, or an expression; each may be left out
pub data Role : Type 0 where
  a_statement : Role
  a_value : Role

-- an untyped truth value holds truth values alone
abbrev pub Ranged : Part → Type 0
Ranged x = (r : Rights) → open_kind (sort_of x) ≡ Some untyped_kind.Boolean → unrepresented r boolean x ≡ []

abbrev pub RangedAll : List Role → Parts → Type 0
RangedAll (a_value ∷ rs) (Some x ∷ xs) = Ranged x × RangedAll rs xs
RangedAll (r ∷ rs) (x ∷ xs) = RangedAll rs xs
RangedAll rs xs = Unit {0}

module _ (w : Standins) where
  abbrev pub PartsRead : Frame → Trees → Type 0
  PartsRead f none = Unit {0}
  PartsRead f (more p ps) = ((g : Frame) → FramesStand w f g → no_rule_fails (found_in (reading f value p)) ≡ true → Reads w f g value p) × PartsRead (frame_in (reading f value p)) ps
  PartsRead f (skip ps) = PartsRead f ps

  -- the statements of a row are calm
  abbrev pub CalmRow : Frame → Trees → Type 0
  CalmRow f none = Unit {0}
  CalmRow f (more p ps) = (is_statement (kind_of p) ≡ true → Calm w (tree_in (reading f value p))) × CalmRow (frame_in (reading f value p)) ps
  CalmRow f (skip ps) = CalmRow f ps

  pub record AnyRow (f g : Frame) (ps : Trees) : Type 0 where
    pub parts : row_parts g (all_with_variables w ps) ≡ news w (row_parts f ps)
    pub good : no_rule_fails (row_found g (all_with_variables w ps)) ≡ true
    pub frame : FramesStand w (row_behind f ps) (row_behind g (all_with_variables w ps))
    pub calm : CalmRow f ps

  pub parts_read : (f g : Frame) (ps : Trees) → PartsRead f ps → FramesStand w f g → no_rule_fails (row_found f ps) ≡ true → AnyRow f g ps
  parts_read f g none h st good = record { parts = refl; good = refl; frame = st; calm = tt }
  parts_read f g (skip ps) h st good = let r = parts_read f g ps h st good in record { parts = ap (λ zs. None ∷ zs) r.parts; good = r.good; frame = r.frame; calm = r.calm }
  parts_read f g (more p ps) h st good =
      let both = all_of (found_in (reading f value p)) (row_found (frame_in (reading f value p)) ps) good in
      let one = h.0 g st both.0 in
      let q = with_variables w p in
      let rest = parts_read (frame_in (reading f value p)) (frame_in (reading g value q)) ps h.1 one.frame both.1 in
      record {
        parts = ap (λ x. Some x ∷ row_parts (frame_in (reading g value q)) (all_with_variables w ps)) one.tree ∙ ap (λ xs. Some (begun w false (tree_in (reading f value p))) ∷ xs) rest.parts;
        good = of_all (found_in (reading g value q)) (row_found (frame_in (reading g value q)) (all_with_variables w ps)) one.failing rest.good;
        frame = rest.frame;
        calm = (one.calm, rest.calm);
      }

  -- ---- an expression that is read

  never_statement : {X : Type 0} (x : Tree) → is_operand (kind_of x) ≡ true → is_statement (kind_of x) ≡ true → X
  never_statement (node k i j ps) o e = let never : false ≡ true = sym (plain_operand w k o).statement ∙ e in cc

  pub record ReadsValue (f g : Frame) (h : Hint) (x : Tree) : Type 0 where
    pub reads : Reads w f g h x
    pub value : IsValuePart w (tree_in (reading f h x))

  pub value_reads : ExpressionsTyped → (f g : Frame) (h : Hint) (p : Place) (x : Tree) → IsShaped (any p) x → asks h ≡ true → FramesStand w f g → Proper w x → no_rule_fails (found_in (reading f h x)) ≡ true
      → Will w f.around.rights (tree_in (reading f h x)) → ReadsValue f g h x
  value_reads law f g h p x shape a st proper good fits =
      let o = expression_operand level.Either p x shape in
      let old = operand_reading w f h x o in
      let new = operand_reading w g h (with_variables w x) (new_operand w x o) in
      let r = value_typed w law (scope_of f) (scope_of g) h level.Either p x shape a (scopes_stand w f g st) proper (sym (ap (λ z. no_rule_fails (found_in z)) old) ∙ good) (subst (λ z. Will w f.around.rights (tree_in z)) old fits) in
      record {
        reads = record {
          tree = ap tree_in new ∙ r.typed.typed ∙ ap (λ z. begun w false (tree_in z)) (sym old);
          failing = ap (λ z. no_rule_fails (found_in z)) new ∙ r.typed.failing;
          frame = subst (λ z. FramesStand w (frame_in z) (frame_in (reading g h (with_variables w x)))) (sym old) (subst (λ z. FramesStand w f (frame_in z)) (sym new) st);
          calm = λ e. never_statement x o e;
        };
        value = subst (λ z. IsValuePart w (tree_in z)) (sym old) r.value;
      }

  -- ---- rows by roles

  abbrev pub AreRoles : List Role → Trees → Type 0
  AreRoles [] none = Unit {0}
  AreRoles (a_statement ∷ rs) (more p ps) = Stated w p × AreRoles rs ps
  AreRoles (a_value ∷ rs) (more p ps) = ((q : Place) × IsShaped (any q) p × Proper w p) × AreRoles rs ps
  AreRoles (r ∷ rs) (skip ps) = AreRoles rs ps
  AreRoles rs ps = ⊥

  -- what their statements are
  abbrev pub Roles : List Role → Parts → Type 0
  Roles [] [] = Unit {0}
  Roles (a_statement ∷ rs) (Some x ∷ xs) = IsStated x × Roles rs xs
  Roles (a_value ∷ rs) (Some x ∷ xs) = Roles rs xs
  Roles (r ∷ rs) (None ∷ xs) = Roles rs xs
  Roles rs xs = ⊥

  -- statements fit, and expressions will, whatever right sides there are
  abbrev pub Awaits : List Role → Parts → Type 0
  Awaits [] [] = Unit {0}
  Awaits (a_statement ∷ rs) (Some x ∷ xs) = (Fits w false x × Tagged x) × Awaits rs xs
  Awaits (a_value ∷ rs) (Some x ∷ xs) = ((r : Rights) → Will w r x) × Awaits rs xs
  Awaits (r ∷ rs) (None ∷ xs) = Awaits rs xs
  Awaits rs xs = ⊥

  abbrev pub Values : List Role → Parts → Type 0
  Values [] [] = Unit {0}
  Values (a_statement ∷ rs) (Some x ∷ xs) = Values rs xs
  Values (a_value ∷ rs) (Some x ∷ xs) = IsValuePart w x × Values rs xs
  Values (r ∷ rs) (None ∷ xs) = Values rs xs
  Values rs xs = ⊥

  pub row_roles : (rs : List Role) (f : Frame) (ps : Trees) → AreRoles rs ps → Roles rs (row_parts f ps)
  row_roles [] f none e = tt
  row_roles [] f (more p ps) e = elim e [ ]
  row_roles [] f (skip ps) e = elim e [ ]
  row_roles (a_statement ∷ rs) f none e = elim e [ ]
  row_roles (a_value ∷ rs) f none e = elim e [ ]
  row_roles (a_statement ∷ rs) f (more p ps) e = (reading_stated f value p e.0.kind, row_roles rs (frame_in (reading f value p)) ps e.1)
  row_roles (a_value ∷ rs) f (more p ps) e = row_roles rs (frame_in (reading f value p)) ps e.1
  row_roles (a_statement ∷ rs) f (skip ps) e = row_roles rs f ps e
  row_roles (a_value ∷ rs) f (skip ps) e = row_roles rs f ps e

  -- what is read of an expression is ranged
  pub reading_ranged : (f : Frame) (p : Place) (x : Tree) → IsShaped (any p) x → Ranged (tree_in (reading f value x))
  reading_ranged f p x shape =
      let o = expression_operand level.Either p x shape in subst (λ z. Ranged (tree_in z)) (sym (operand_reading w f value x o)) (λ r. truths r (scope_of f) value (any p) x shape o)

  pub row_ranged : (rs : List Role) (f : Frame) (ps : Trees) → AreRoles rs ps → RangedAll rs (row_parts f ps)
  row_ranged [] f ps e = tt
  row_ranged (a_statement ∷ rs) f none e = tt
  row_ranged (a_value ∷ rs) f none e = tt
  row_ranged (a_statement ∷ rs) f (more p ps) e = row_ranged rs (frame_in (reading f value p)) ps e.1
  row_ranged (a_value ∷ rs) f (more p ps) e = (reading_ranged f e.0.0 p e.0.1, row_ranged rs (frame_in (reading f value p)) ps e.1)
  row_ranged (a_statement ∷ rs) f (skip ps) e = row_ranged rs f ps e
  row_ranged (a_value ∷ rs) f (skip ps) e = row_ranged rs f ps e

  pub record RolesRead (rs : List Role) (f g : Frame) (ps : Trees) : Type 0 where
    pub row : AnyRow f g ps
    pub values : Values rs (row_parts f ps)

  pub roles_read : ExpressionsTyped → (rs : List Role) (f g : Frame) (ps : Trees) → AreRoles rs ps → FramesStand w f g → no_rule_fails (row_found f ps) ≡ true → Awaits rs (row_parts f ps)
      → RowSteady f ps → RolesRead rs f g ps
  roles_read law [] f g none e st good a steady = record { row = record { parts = refl; good = refl; frame = st; calm = tt }; values = tt }
  roles_read law [] f g (more p ps) e st good a steady = elim e [ ]
  roles_read law [] f g (skip ps) e st good a steady = elim e [ ]
  roles_read law (a_statement ∷ rs) f g none e st good a steady = elim e [ ]
  roles_read law (a_value ∷ rs) f g none e st good a steady = elim e [ ]
  roles_read law (a_statement ∷ rs) f g (skip ps) e st good a steady =
      let r = roles_read law rs f g ps e st good a steady in
      record { row = record { parts = ap (λ zs. None ∷ zs) r.row.parts; good = r.row.good; frame = r.row.frame; calm = r.row.calm }; values = r.values }
  roles_read law (a_value ∷ rs) f g (skip ps) e st good a steady =
      let r = roles_read law rs f g ps e st good a steady in
      record { row = record { parts = ap (λ zs. None ∷ zs) r.row.parts; good = r.row.good; frame = r.row.frame; calm = r.row.calm }; values = r.values }
  roles_read law (a_statement ∷ rs) f g (more p ps) e st good a steady =
      let both = all_of (found_in (reading f value p)) (row_found (frame_in (reading f value p)) ps) good in
      let one = e.0.reads f g value st both.0 a.0.0 a.0.1 steady.0 in
      let q = with_variables w p in
      let rest = roles_read law rs (frame_in (reading f value p)) (frame_in (reading g value q)) ps e.1 one.frame both.1 a.1 steady.1 in
      record {
        row = record {
          parts = ap (λ x. Some x ∷ row_parts (frame_in (reading g value q)) (all_with_variables w ps)) one.tree ∙ ap (λ xs. Some (begun w false (tree_in (reading f value p))) ∷ xs) rest.row.parts;
          good = of_all (found_in (reading g value q)) (row_found (frame_in (reading g value q)) (all_with_variables w ps)) one.failing rest.row.good;
          frame = rest.row.frame;
          calm = (one.calm, rest.row.calm);
        };
        values = rest.values;
      }
  roles_read law (a_value ∷ rs) f g (more p ps) e st good a steady =
      let both = all_of (found_in (reading f value p)) (row_found (frame_in (reading f value p)) ps) good in
      let v = value_reads law f g value e.0.0 p e.0.1 refl st e.0.2 both.0 (a.0 f.around.rights) in
      let one = v.reads in
      let q = with_variables w p in
      let rest = roles_read law rs (frame_in (reading f value p)) (frame_in (reading g value q)) ps e.1 one.frame both.1 a.1 steady.1 in
      record {
        row = record {
          parts = ap (λ x. Some x ∷ row_parts (frame_in (reading g value q)) (all_with_variables w ps)) one.tree ∙ ap (λ xs. Some (begun w false (tree_in (reading f value p))) ∷ xs) rest.row.parts;
          good = of_all (found_in (reading g value q)) (row_found (frame_in (reading g value q)) (all_with_variables w ps)) one.failing rest.row.good;
          frame = rest.row.frame;
          calm = (one.calm, rest.row.calm);
        };
        values = (v.value, rest.values);
      }

  -- ---- nodes that hold a row

  pub row_begun : (ys : Parts) → row (news w ys) ≡ all_begun w false (row ys)
  row_begun [] = refl
  row_begun (Some x ∷ ys) = ap (sort.more (begun w false x)) (row_begun ys)
  row_begun (None ∷ ys) = ap sort.skip (row_begun ys)

  statement_quiet : (x : Part) → IsStated x → (label_of (begun w false x)).calls ≡ (label_of x).calls
  statement_quiet (typed f i j l ps) s =
      ap (λ y. (label_of y).calls) (begun_by [] w false f i j l ps None s.held (not_wanted [] w false f i j l ps (ap is_open s.nothing))) ∙ calls_put w (typed f i j l ps) s

  calls_same : (rs : List Role) (ys : Parts) → Roles rs ys → Values rs ys → list_any calls_in (news w ys) ≡ list_any calls_in ys
  calls_same [] [] r v = refl
  calls_same [] (y ∷ ys) r v = elim r [ ]
  calls_same (a_statement ∷ rs) [] r v = elim r [ ]
  calls_same (a_value ∷ rs) [] r v = elim r [ ]
  calls_same (a_statement ∷ rs) (None ∷ ys) r v = calls_same rs ys r v
  calls_same (a_value ∷ rs) (None ∷ ys) r v = calls_same rs ys r v
  calls_same (a_statement ∷ rs) (Some x ∷ ys) r v = ap (λ b. b || list_any calls_in (news w ys)) (statement_quiet x r.0) ∙ ap (λ b. (label_of x).calls || b) (calls_same rs ys r.1 v)
  calls_same (a_value ∷ rs) (Some x ∷ ys) r v = ap (λ b. b || list_any calls_in (news w ys)) (calls_kept [] w false x v.0.ready) ∙ ap (λ b. (label_of x).calls || b) (calls_same rs ys r v.1)

  varies_more : (x : Part) (qs : Typeds TypeTree) → any_varies (sort.more x qs) ≡ ((label_of x).varies || any_varies qs)
  varies_more (typed f i j l ps) qs = refl

  pub varies_row : (ys : Parts) → list_any varies_in ys ≡ any_varies (row ys)
  varies_row [] = refl
  varies_row (None ∷ ys) = varies_row ys
  varies_row (Some x ∷ ys) = ap (λ b. (label_of x).varies || b) (varies_row ys) ∙ sym (varies_more x (row ys))

  varies_is : (ys : Parts) → list_any varies_in (news w ys) ≡ varies_over (list_any varies_in ys) (row (news w ys))
  varies_is [] = refl
  varies_is (None ∷ ys) = varies_row (news w (None ∷ ys))
  varies_is (Some x ∷ ys) = varies_row (news w (Some x ∷ ys))

  pub held_node : (k : Kind) (i j : ℕ) (ys : Parts) → list_any calls_in (news w ys) ≡ list_any calls_in ys → made (form.Held k) i j sort.Nothing (news w ys) (news w ys) ≡ begun w false (made (form.Held k) i j sort.Nothing ys ys)
  held_node k i j ys q =
      ap (λ b. typed (form.Held k) i j (record { sort = sort.Nothing; varies = b; calls = list_any calls_in (news w ys) }) (row (news w ys))) (varies_is ys)
      ∙ ap (λ b. typed (form.Held k) i j (record { sort = sort.Nothing; varies = varies_over (list_any varies_in ys) (row (news w ys)); calls = b }) (row (news w ys))) q
      ∙ ap (λ qs. typed (form.Held k) i j (record { sort = sort.Nothing; varies = varies_over (list_any varies_in ys) qs; calls = list_any calls_in ys }) qs) (row_begun ys)

  -- a kind of node that holds its parts for the node above
  pub record IsHolder (k : Kind) : Type 0 where
    pub row : IsPlainRow k
    pub statement : is_statement k ≡ true
    pub begins : (i : ℕ) (s : Frame) → beginning k i s ≡ s
    pub lays : (s : Frame) (i : ℕ) (xs : Parts) → layout s k i xs ≡ xs
    pub forms : (xs : Parts) → form_by k xs ≡ form.Held k
    pub rule : (s : Frame) (i j : ℕ) (ys : Parts) → own_faults s k (form.Held k) i j ys ≡ []
    pub takes : (s : Frame) (ys : Parts) → taking s k (form.Held k) ys ≡ []
    pub leaves : (i : ℕ) (ps : Trees) (x : Part) (s : Frame) → leaving k i ps x s ≡ s
    pub stays : (i j : ℕ) (ps : Trees) → with_variables w (node k i j ps) ≡ node k i j (all_with_variables w ps)

  pub record HeldReads (rs : List Role) (f g : Frame) (h : Hint) (k : Kind) (i j : ℕ) (ps : Trees) : Type 0 where
    pub reads : Reads w f g h (node k i j ps)
    pub values : Values rs (row_parts f ps)
    pub row : AnyRow f g ps

  module _ (f g : Frame) (h : Hint) (k : Kind) (i j : ℕ) (ps : Trees) (is : IsHolder k) where
    holder_old : Old w f h k i j ps
    holder_old = record {
      parts = row_parts f ps;
      found = row_found f ps;
      behind = row_behind f ps;
      form = form.Held k;
      laid = row_parts f ps;
      is = ap (λ s. readings s k h ps [] [] ps) (is.begins i f) ∙ any_row k h ps is.row f [] [] ps;
      laid_is = is.lays (row_behind f ps) i (row_parts f ps);
      form_is = is.forms (row_parts f ps);
    }

    -- what it holds
    pub holder_is : tree_in (reading f h (node k i j ps)) ≡ made (form.Held k) i j sort.Nothing (row_parts f ps) (row_parts f ps)
    unfolding holder_old
    holder_is =
        ap tree_in (old_closed w f h k i j ps is.statement holder_old) ∙ sound_node w f h k i j ps is.statement (row_behind f ps) (form.Held k) (row_parts f ps) (is.rule (row_behind f ps) i j (row_parts f ps))
        ∙ ap (λ ks. made (form.Held k) i j sort.Nothing (row_parts f ps) (all_given ks (row_parts f ps))) (is.takes (row_behind f ps) (row_parts f ps))

    pub holder_reads : ExpressionsTyped → (rs : List Role) → AreRoles rs ps → FramesStand w f g → no_rule_fails (found_in (reading f h (node k i j ps))) ≡ true → Awaits rs (row_parts f ps)
        → Steady f h (node k i j ps) → HeldReads rs f g h k i j ps
    unfolding holder_old
    holder_reads law rs e st good a steady =
        let own = old_rules w f h k i j ps is.statement holder_old good in
        let r = roles_read law rs f g ps e st own.0 a (row_steady k h ps is.row.enters (λ xs n. is.row.tells h ps xs n) f [] ps (subst (λ s. PartsSteady s k h ps [] ps) (is.begins i f) steady.1)) in
        let ys = row_parts f ps in
        let new = all_with_variables w ps in
        let S = row_behind f ps in
        let T = row_behind g new in
        record {
          reads = node_reads w f g h k i j ps holder_old is.statement (is.stays i j ps) own.1
              (record {
                parts = row_parts g new;
                found = row_found g new;
                behind = T;
                is = ap (λ s. readings s k h new [] [] new) (is.begins i g) ∙ any_row k h new is.row g [] [] new;
                laid_is = is.lays T i (row_parts g new) ∙ r.row.parts;
                form_is = is.forms (row_parts g new);
                good = r.row.good;
                rule = is.rule T i j (news w ys);
                node = ap (λ ks. made (form.Held k) i j sort.Nothing (news w ys) (all_given ks (news w ys))) (is.takes T (news w ys))
                    ∙ held_node k i j ys (calls_same rs ys (row_roles rs f ps e) r.values)
                    ∙ ap (λ ks. begun w false (made (form.Held k) i j sort.Nothing ys (all_given ks ys))) (sym (is.takes S ys));
                frame = subst (λ z. FramesStand w z (leaving k i new (begun w false (made (form.Held k) i j sort.Nothing ys (all_given (taking S k (form.Held k) ys) ys))) (back g T)))
                    (sym (is.leaves i ps (made (form.Held k) i j sort.Nothing ys (all_given (taking S k (form.Held k) ys) ys)) (back f S)))
                    (subst (λ z. FramesStand w (back f S) z) (sym (is.leaves i new (begun w false (made (form.Held k) i j sort.Nothing ys (all_given (taking S k (form.Held k) ys) ys))) (back g T))) (back_stands w f g S T st r.row.frame));
                calm = tt;
              });
          values = r.values;
          row = r.row;
        }
