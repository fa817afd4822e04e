-- Headers of statements with variables in them.
use Rattle.std.proofs.Common.{◌≡◌, ◌∙◌, ◌⊎◌, inl, inr, ℕ, Bool, true, false, List, [], ◌∷◌, Option, Some, None, refl, sym, ap, subst}
use Rattle.std.specs.Prelude.{if◌then◌else◌}
use Rattle.go_grammar.specs.declared.kind.Kind.{Kind}
use Rattle.go_grammar.specs.declared.kind.Kind.TheVariants as kind
use Rattle.go_grammar.specs.declared.kind.Level.TheVariants as level
use Rattle.go_grammar.specs.declared.kind.Place.{Place}
use Rattle.go_grammar.specs.Categories as categories
use Rattle.go_grammar.specs.Grammar.{any}
use Rattle.go_grammar.specs.Trees.{Tree, node, Trees, kind_of}
use Rattle.go_types.specs.Trees.{TypeTree}
use Rattle.go_typed.specs.declared.form.Form.{Form}
use Rattle.go_typed.specs.declared.form.Form.TheVariants as form
use Rattle.go_typed.specs.Trees.{Label, typed, Typeds, form_of, parts_of, list_of, row}
use Rattle.go_typed.specs.Trees as sort
use Rattle.go_exprs_rules.specs.declared.fault.TypeFault.{TypeFault}
use Rattle.go_exprs_rules.specs.Scopes.{Scope, Hint, value}
use Rattle.go_exprs_rules.specs.Settling.{Part, settled, all_settled}
use Rattle.go_exprs_rules.specs.Sorts.{takes_type, retyped}
use Rattle.go_exprs_rules.specs.Tables.{Parts, layout, is_held, held, is_judged, is_sound, own_faults, built_by, made}
use Rattle.go_exprs_rules.specs.Typing.{typing, typings}
use Rattle.go_stmts_defs.specs.Frames.{Frame, scope_of}
use Rattle.go_stmts_defs.specs.Laying.{header_parts, loop_header}
use Rattle.go_stmts_defs.specs.Reading.{reading}
use Rattle.go_exprs_variables.specs.Shapes.{IsShaped}
use Rattle.go_exprs_variables.specs.Variables.{Standin, Standins, at_hole, put_over, put, all_put, put_with, wanted, expresses, begun, all_begun, Proper, no_rule_fails, ExpressionsTyped}
use Rattle.clone_window.specs.Masses.{is_hole, is_inside}
use Rattle.go_exprs_variables.proofs.Public.{begun_by, expression_operand, is_operand, new_part, news, split_operand, unheld}
use Rattle.go_stmts_variables.specs.Frames.{FramesStand}
use Rattle.go_stmts_variables.specs.Statements.{tree_in, found_in}
use Rattle.go_stmts_variables.specs.Steady.{Steady}
use Rattle.go_stmts_variables.proofs.Expressions.{operand_reading}
use Rattle.go_stmts_variables.proofs.Lists.{list_row}
use Rattle.go_stmts_variables.proofs.Nodes.{Reads}
use Rattle.go_stmts_variables.proofs.Roles.{Role, a_statement, a_value, row_parts, RangedAll, AreRoles, Roles, Awaits, Values, row_roles, reading_ranged, row_ranged, value_reads, IsHolder, holder_is, holder_reads}

-- ---- what holds parts for others holds them with variables in it

module _ (w : Standins) where
  pub list_begun : (ps : Typeds TypeTree) → list_of (all_begun w false ps) ≡ news w (list_of ps)
  list_begun sort.none = refl
  list_begun (sort.more p ps) = ap (λ zs. Some (begun w false p) ∷ zs) (list_begun ps)
  list_begun (sort.skip ps) = ap (λ zs. None ∷ zs) (list_begun ps)

  over_plain : (v : Option Standin) (f : Form) (i j : ℕ) (l : Label TypeTree) (qs : Typeds TypeTree) → is_held f ≡ false → is_held (form_of (put_over v f i j l qs)) ≡ false
  over_plain (Some v) f i j l qs e = refl
  over_plain None f i j l qs e = e

  put_plain : (x : Part) → is_held (form_of x) ≡ false → is_held (form_of (put w false x)) ≡ false
  put_plain (typed f i j l ps) e = over_plain (at_hole w (is_hole false f l) i) f i j l (all_put w (is_inside false f l) ps) e

  settled_plain : (t : TypeTree) (x : Part) → is_held (form_of x) ≡ false → is_held (form_of (settled t x)) ≡ false
  settled_plain t (typed f i j l ps) e = by (takes_type l.sort)
    where
      by : (b : Bool) → is_held (form_of (if b then typed f i j (record l { sort = retyped t l.sort }) (all_settled t ps) else typed f i j l ps)) ≡ false
      by true = e
      by false = e

  with_plain : (o : Option TypeTree) (x : Part) → is_held (form_of x) ≡ false → is_held (form_of (put_with w false o x)) ≡ false
  with_plain (Some t) x e = put_plain (settled t x) (settled_plain t x e)
  with_plain None x e = put_plain x e

  pub begun_plain : (f : Form) (i j : ℕ) (l : Label TypeTree) (ps : Typeds TypeTree) → is_held f ≡ false → is_held (form_of (begun w false (typed f i j l ps))) ≡ false
  begun_plain f i j l ps e =
      ap (λ y. is_held (form_of y)) (begun_by [] w false f i j l ps (wanted w false (typed f i j l ps)) e refl) ∙ with_plain (wanted w false (typed f i j l ps)) (typed f i j l ps) e

  pub begun_plain_part : (x : Part) → is_held (form_of x) ≡ false → is_held (form_of (begun w false x)) ≡ false
  begun_plain_part (typed f i j l ps) e = begun_plain f i j l ps e

  pub value_header : (x : Part) → is_held (form_of x) ≡ false → header_parts (Some x) ≡ None ∷ Some x ∷ []
  value_header (typed (form.Held k) i j l ps) e = cc
  value_header (typed f i j l ps) e = refl

  value_loop : (x : Part) → is_held (form_of x) ≡ false → loop_header (Some x) ≡ None ∷ Some x ∷ None ∷ []
  value_loop (typed (form.Held k) i j l ps) e = cc
  value_loop (typed f i j l ps) e = refl

  pub held_new : (o : Option Part) → held (new_part w o) ≡ news w (held o)
  held_new None = refl
  held_new (Some (typed (form.Held k) i j l ps)) = list_begun ps
  held_new (Some (typed f i j l ps)) = ap (λ b. if b then list_of (parts_of (begun w false (typed f i j l ps))) else Some (begun w false (typed f i j l ps)) ∷ []) (begun_plain f i j l ps refl)

  pub header_new : (o : Option Part) → header_parts (new_part w o) ≡ news w (header_parts o)
  header_new None = refl
  header_new (Some (typed (form.Held kind.LateCondition) i j l ps)) = ap (λ zs. None ∷ zs) (list_begun ps)
  header_new (Some (typed (form.Held kind.LateTag) i j l ps)) = ap (λ zs. None ∷ zs) (list_begun ps)
  header_new (Some (typed (form.Held kind.InitializedCondition) i j l ps)) = list_begun ps
  header_new (Some (typed (form.Held kind.InitializedTag) i j l ps)) = list_begun ps
  header_new (Some (typed (form.Held k) i j l ps)) = refl
  header_new (Some (typed f i j l ps)) = value_header (begun w false (typed f i j l ps)) (begun_plain f i j l ps refl)

  pub loop_new : (o : Option Part) → loop_header (new_part w o) ≡ news w (loop_header o)
  loop_new None = refl
  loop_new (Some (typed (form.Held kind.ForClause) i j l ps)) = ap (λ zs. None ∷ zs) (list_begun ps)
  loop_new (Some (typed (form.Held k) i j l ps)) = list_begun ps
  loop_new (Some (typed f i j l ps)) = value_loop (begun w false (typed f i j l ps)) (begun_plain f i j l ps refl)

  -- ---- kinds that hold a row

  nothing_wrong : (b : Bool) → (if◌then◌else◌ {A = List TypeFault} b [] []) ≡ []
  nothing_wrong true = refl
  nothing_wrong false = refl

  pub late_condition : IsHolder w kind.LateCondition
  late_condition = record {
    row = record { enters = λ xs s. refl; tells = λ h all xs n. refl; leaves = λ s. refl; finds = λ s. refl };
    statement = refl;
    begins = λ i s. refl;
    lays = λ s i xs. refl;
    forms = λ xs. refl;
    rule = λ s i j ys. nothing_wrong (is_judged ys);
    takes = λ s ys. refl;
    leaves = λ i ps x s. refl;
    stays = λ i j ps. refl;
  }

  pub initialized_condition : IsHolder w kind.InitializedCondition
  initialized_condition = record {
    row = record { enters = λ xs s. refl; tells = λ h all xs n. refl; leaves = λ s. refl; finds = λ s. refl };
    statement = refl;
    begins = λ i s. refl;
    lays = λ s i xs. refl;
    forms = λ xs. refl;
    rule = λ s i j ys. nothing_wrong (is_judged ys);
    takes = λ s ys. refl;
    leaves = λ i ps x s. refl;
    stays = λ i j ps. refl;
  }

  pub late_tag : IsHolder w kind.LateTag
  late_tag = record {
    row = record { enters = λ xs s. refl; tells = λ h all xs n. refl; leaves = λ s. refl; finds = λ s. refl };
    statement = refl;
    begins = λ i s. refl;
    lays = λ s i xs. refl;
    forms = λ xs. refl;
    rule = λ s i j ys. nothing_wrong (is_judged ys);
    takes = λ s ys. refl;
    leaves = λ i ps x s. refl;
    stays = λ i j ps. refl;
  }

  pub initialized_tag : IsHolder w kind.InitializedTag
  initialized_tag = record {
    row = record { enters = λ xs s. refl; tells = λ h all xs n. refl; leaves = λ s. refl; finds = λ s. refl };
    statement = refl;
    begins = λ i s. refl;
    lays = λ s i xs. refl;
    forms = λ xs. refl;
    rule = λ s i j ys. nothing_wrong (is_judged ys);
    takes = λ s ys. refl;
    leaves = λ i ps x s. refl;
    stays = λ i j ps. refl;
  }

  pub for_clause : IsHolder w kind.ForClause
  for_clause = record {
    row = record { enters = λ xs s. refl; tells = λ h all xs n. refl; leaves = λ s. refl; finds = λ s. refl };
    statement = refl;
    begins = λ i s. refl;
    lays = λ s i xs. refl;
    forms = λ xs. refl;
    rule = λ s i j ys. nothing_wrong (is_judged ys);
    takes = λ s ys. refl;
    leaves = λ i ps x s. refl;
    stays = λ i j ps. refl;
  }

  pub initialized_for_clause : IsHolder w kind.InitializedForClause
  initialized_for_clause = record {
    row = record { enters = λ xs s. refl; tells = λ h all xs n. refl; leaves = λ s. refl; finds = λ s. refl };
    statement = refl;
    begins = λ i s. refl;
    lays = λ s i xs. refl;
    forms = λ xs. refl;
    rule = λ s i j ys. nothing_wrong (is_judged ys);
    takes = λ s ys. refl;
    leaves = λ i ps x s. refl;
    stays = λ i j ps. refl;
  }

  pub else_holder : IsHolder w kind.Else
  else_holder = record {
    row = record { enters = λ xs s. refl; tells = λ h all xs n. refl; leaves = λ s. refl; finds = λ s. refl };
    statement = refl;
    begins = λ i s. refl;
    lays = λ s i xs. refl;
    forms = λ xs. refl;
    rule = λ s i j ys. nothing_wrong (is_judged ys);
    takes = λ s ys. refl;
    leaves = λ i ps x s. refl;
    stays = λ i j ps. refl;
  }

  -- ---- headers

  -- what a header holds, by roles, once it is laid out flat
  pub record HeaderRead (flat : Option Part → Parts) (rs : List Role) (f g : Frame) (x : Tree) : Type 0 where
    pub reads : Reads w f g value x
    pub values : Values w rs (flat (Some (tree_in (reading f value x))))

  pub record Header (flat : Option Part → Parts) (rs : List Role) (f : Frame) (x : Tree) : Type 0 where
    pub stated : Roles w rs (flat (Some (tree_in (reading f value x))))
    pub ranged : RangedAll rs (flat (Some (tree_in (reading f value x))))
    pub read : (g : Frame) → FramesStand w f g → no_rule_fails (found_in (reading f value x)) ≡ true → Awaits w rs (flat (Some (tree_in (reading f value x)))) → Steady f value x
        → HeaderRead flat rs f g x

  operand_unheld : (s : Scope) (h : Hint) (x : Tree) → is_operand (kind_of x) ≡ true → is_held (form_of (typing s h x)) ≡ false
  operand_unheld s h (node k i j ps) e = by (split_operand w k e)
    where
      literal : (k : Kind) (i j : ℕ) (ys : Parts) (b : Bool) → categories.is_type_literal k ≡ true → is_held (form_of (built_by s k h i j ys b)) ≡ false
      literal kind.SequenceType i j ys true e = refl
      literal kind.SequenceType i j ys false e = refl
      literal kind.FunctionType i j ys true e = refl
      literal kind.FunctionType i j ys false e = refl
      literal kind.StructType i j ys true e = refl
      literal kind.StructType i j ys false e = refl
      literal k i j ys b e = cc

      by : (expresses k ≡ true) ⊎ (categories.is_type_literal k ≡ true) → is_held (form_of (typing s h (node k i j ps))) ≡ false
      by (inl m) = let ys = layout k (typings s k h ps [] ps) in unheld s k h i j ys (is_sound k ys (own_faults s k h i j ys)) m
      by (inr m) = let ys = layout k (typings s k h ps [] ps) in literal k i j ys (is_sound k ys (own_faults s k h i j ys)) m

  pub reading_unheld : (f : Frame) (p : Place) (x : Tree) → IsShaped (any p) x → is_held (form_of (tree_in (reading f value x))) ≡ false
  reading_unheld f p x shape =
      let o = expression_operand level.Either p x shape in ap (λ r. is_held (form_of (tree_in r))) (operand_reading w f value x o) ∙ operand_unheld (scope_of f) value x o

  module _ (law : ExpressionsTyped) where
    -- an expression alone
    pub value_alone : (f : Frame) (p : Place) (x : Tree) → IsShaped (any p) x → Proper w x → Header header_parts (a_statement ∷ a_value ∷ []) f x
    value_alone f p x shape proper =
        let flat = value_header (tree_in (reading f value x)) (reading_unheld f p x shape) in
        record {
          stated = subst (Roles w (a_statement ∷ a_value ∷ [])) (sym flat) tt;
          ranged = subst (RangedAll (a_statement ∷ a_value ∷ [])) (sym flat) (reading_ranged w f p x shape, tt);
          read = λ g st good a steady.
              let r = value_reads w law f g value p x shape refl st proper good ((subst (Awaits w (a_statement ∷ a_value ∷ [])) flat a).0 f.around.rights) in
              record { reads = r.reads; values = subst (Values w (a_statement ∷ a_value ∷ [])) (sym flat) (r.value, tt) };
        }

    pub loop_alone : (f : Frame) (p : Place) (x : Tree) → IsShaped (any p) x → Proper w x → Header loop_header (a_statement ∷ a_value ∷ a_statement ∷ []) f x
    loop_alone f p x shape proper =
        let flat = value_loop (tree_in (reading f value x)) (reading_unheld f p x shape) in
        record {
          stated = subst (Roles w (a_statement ∷ a_value ∷ a_statement ∷ [])) (sym flat) tt;
          ranged = subst (RangedAll (a_statement ∷ a_value ∷ a_statement ∷ [])) (sym flat) (reading_ranged w f p x shape, tt);
          read = λ g st good a steady.
              let r = value_reads w law f g value p x shape refl st proper good ((subst (Awaits w (a_statement ∷ a_value ∷ a_statement ∷ [])) flat a).0 f.around.rights) in
              record { reads = r.reads; values = subst (Values w (a_statement ∷ a_value ∷ a_statement ∷ [])) (sym flat) (r.value, tt) };
        }

    -- a row that begins with a statement, or in front of which that is left out
    pub whole_header : (flat : Option Part → Parts) (rs : List Role) (f : Frame) (k : Kind) (i j : ℕ) (ps : Trees) → IsHolder w k → AreRoles w rs ps
        → flat (Some (made (form.Held k) i j sort.Nothing (row_parts f ps) (row_parts f ps))) ≡ list_of (row (row_parts f ps)) → Header flat rs f (node k i j ps)
    whole_header flat rs f k i j ps is e m =
        let same : flat (Some (tree_in (reading f value (node k i j ps)))) ≡ row_parts f ps = ap (λ x. flat (Some x)) (holder_is w f f value k i j ps is) ∙ m ∙ list_row (row_parts f ps) in
        record {
          stated = subst (Roles w rs) (sym same) (row_roles w rs f ps e);
          ranged = subst (RangedAll rs) (sym same) (row_ranged w rs f ps e);
          read = λ g st good a steady.
              let r = holder_reads w f g value k i j ps is law rs e st good (subst (Awaits w rs) same a) steady in
              record { reads = r.reads; values = subst (Values w rs) (sym same) r.values };
        }

    pub late_header : (flat : Option Part → Parts) (rs : List Role) (f : Frame) (k : Kind) (i j : ℕ) (ps : Trees) → IsHolder w k → AreRoles w rs ps
        → flat (Some (made (form.Held k) i j sort.Nothing (row_parts f ps) (row_parts f ps))) ≡ None ∷ list_of (row (row_parts f ps)) → Header flat (a_statement ∷ rs) f (node k i j ps)
    late_header flat rs f k i j ps is e m =
        let same : flat (Some (tree_in (reading f value (node k i j ps)))) ≡ None ∷ row_parts f ps = ap (λ x. flat (Some x)) (holder_is w f f value k i j ps is) ∙ m ∙ ap (λ zs. None ∷ zs) (list_row (row_parts f ps)) in
        record {
          stated = subst (Roles w (a_statement ∷ rs)) (sym same) (row_roles w rs f ps e);
          ranged = subst (RangedAll (a_statement ∷ rs)) (sym same) (row_ranged w rs f ps e);
          read = λ g st good a steady.
              let r = holder_reads w f g value k i j ps is law rs e st good (subst (Awaits w (a_statement ∷ rs)) same a) steady in
              record { reads = r.reads; values = subst (Values w (a_statement ∷ rs)) (sym same) r.values };
        }
