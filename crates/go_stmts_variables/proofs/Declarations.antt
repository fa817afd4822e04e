-- Declarations of variables: one specification, or several in parentheses.
use Rattle.std.proofs.Common.{◌≡◌, ◌∙◌, ℕ, Bool, true, false, List, [], ◌∷◌, Some, refl, sym, ap}
use Rattle.std.specs.Prelude.{if◌then◌else◌}
use Rattle.go_grammar.specs.declared.kind.Kind.TheVariants as kind
use Rattle.go_grammar.specs.declared.kind.Sort.TheVariants as declaring
use Rattle.go_grammar.specs.Trees.{Tree, Trees, node, none, more, skip}
use Rattle.go_typed.specs.declared.form.Form.{Form}
use Rattle.go_typed.specs.declared.form.Form.TheVariants as form
use Rattle.go_typed.specs.Trees.{form_of, parts_of, list_of, row}
use Rattle.go_typed.specs.Trees as sort
use Rattle.go_exprs_rules.specs.declared.fault.TypeFault.{TypeFault}
use Rattle.go_exprs_rules.specs.Scopes.{Hint, value}
use Rattle.go_exprs_rules.specs.Settling.{Part}
use Rattle.go_exprs_rules.specs.Tables.{is_held, is_judged, made}
use Rattle.go_stmts_defs.specs.Frames.{Frame}
use Rattle.go_stmts_defs.specs.Laying.{is_group, specifications}
use Rattle.go_stmts_defs.specs.Reading.{reading}
use Rattle.go_exprs_variables.specs.Variables.{Standins, with_variables, all_with_variables, begun, Fits, AllFit, no_rule_fails, ExpressionsTyped}
use Rattle.go_exprs_variables.proofs.Public.{all_of, news}
use Rattle.go_stmts_variables.specs.Frames.{FramesStand}
use Rattle.go_stmts_variables.specs.Statements.{tree_in, found_in, frame_in, Tagged, AllTagged}
use Rattle.go_stmts_variables.specs.Steady.{Steady}
use Rattle.go_stmts_variables.proofs.Frames.{back_stands}
use Rattle.go_stmts_variables.proofs.Headers.{list_begun}
use Rattle.go_stmts_variables.proofs.Lists.{list_row}
use Rattle.go_stmts_variables.proofs.Nodes.{Reads, Old, old_rules, old_fits, old_tagged, own_none, node_reads}
use Rattle.go_stmts_variables.proofs.Puts.{Puts, IsStatementForm, node_put}
use Rattle.go_stmts_variables.proofs.Roles.{IsPlainRow, Role, a_statement, row_parts, row_found, row_behind, any_row, parts_read, AreRoles, Awaits, IsHolder, holder_is, holder_reads}
use Rattle.go_stmts_variables.proofs.Rows.{reading_stated, new_stated_kind, statement_put, Stated}

nothing_wrong : (b : Bool) → (if◌then◌else◌ {A = List TypeFault} b [] []) ≡ []
nothing_wrong true = refl
nothing_wrong false = refl

no_group : (f : Form) → is_held f ≡ false → is_group f ≡ false
no_group (form.Held k) e = cc
no_group f e = refl

one_specification : (x : Part) → is_group (form_of x) ≡ false → specifications (Some x ∷ []) ≡ Some x ∷ []
one_specification x e = ap (λ b. if b then list_of (parts_of x) else Some x ∷ []) e

module _ (w : Standins) where
  variables_form : IsStatementForm w form.Variables
  variables_form = record { held = refl; key = refl; call = refl; name = λ z. refl }

  plain_variables : IsPlainRow (kind.Declaration declaring.Variable)
  plain_variables = record { enters = λ xs s. refl; tells = λ h all xs n. refl; leaves = λ s. refl; finds = λ s. refl }

  -- ---- one specification

  module _ (f g : Frame) (h : Hint) (i j : ℕ) (p : Tree) (s : Stated w p) (st : FramesStand w f g) where
    abbrev x : Part
    x = tree_in (reading f value p)

    alone : specifications (Some x ∷ []) ≡ Some x ∷ []
    alone = one_specification x (no_group (form_of x) (reading_stated f value p s.kind).held)

    one_old : Old w f h (kind.Declaration declaring.Variable) i j (more p none)
    one_old = record {
      parts = row_parts f (more p none);
      found = row_found f (more p none);
      behind = row_behind f (more p none);
      form = form.Variables;
      laid = Some x ∷ [];
      is = any_row (kind.Declaration declaring.Variable) h (more p none) plain_variables f [] [] (more p none);
      laid_is = alone;
      form_is = refl;
    }

    pub one_declared : no_rule_fails (found_in (reading f h (node (kind.Declaration declaring.Variable) i j (more p none)))) ≡ true → Fits w false (tree_in (reading f h (node (kind.Declaration declaring.Variable) i j (more p none))))
        → Tagged (tree_in (reading f h (node (kind.Declaration declaring.Variable) i j (more p none)))) → Steady f h (node (kind.Declaration declaring.Variable) i j (more p none))
        → Reads w f g h (node (kind.Declaration declaring.Variable) i j (more p none))
    unfolding one_old
    one_declared good fits tags steady =
        let k = kind.Declaration declaring.Variable in
        let own = old_rules w f h k i j (more p none) refl one_old good in
        let all = old_fits w f h k i j (more p none) refl one_old own.1 fits in
        let tagged = (old_tagged w f h k i j (more p none) refl one_old own.1 tags).1 in
        let found = all_of (found_in (reading f value p)) [] own.0 in
        let one = s.reads f g value st found.0 all.0 tagged.0 steady.1.0 in
        let r = parts_read w f g (more p none) ((λ g st good. s.reads f g value st good all.0 tagged.0 steady.1.0), tt) st own.0 in
        let new = all_with_variables w (more p none) in
        let T = row_behind g new in
        let plain : is_group (form_of (begun w false x)) ≡ false =
        ap (λ y. is_group (form_of y)) (sym one.tree) ∙ no_group (form_of (tree_in (reading g value (with_variables w p)))) (reading_stated g value (with_variables w p) (new_stated_kind w p s.kind)).held in
        node_reads w f g h k i j (more p none) one_old refl refl own.1
        (record {
          parts = row_parts g new;
          found = row_found g new;
          behind = T;
          is = any_row k h new plain_variables g [] [] new;
          laid_is = ap specifications r.parts ∙ one_specification (begun w false x) plain;
          form_is = refl;
          good = r.good;
          rule = own_none w g h k i j new refl T form.Variables (news w (Some x ∷ [])) refl;
          node = node_put w form.Variables i j [] (Some x ∷ []) variables_form (statement_put w x (reading_stated f value p s.kind) all.0, tt);
          frame = back_stands w f g (row_behind f (more p none)) T st r.frame;
          calm = tt;
        })

  -- ---- several in parentheses

  pub variable_group : IsHolder w (kind.Group declaring.Variable)
  variable_group = record {
    row = record { enters = λ xs s. refl; tells = λ h all xs n. refl; leaves = λ s. refl; finds = λ s. refl };
    statement = refl;
    begins = λ i s. refl;
    lays = λ s i xs. refl;
    forms = λ xs. refl;
    rule = λ s i j ys. nothing_wrong (is_judged ys);
    takes = λ s ys. refl;
    leaves = λ i ps x s. refl;
    stays = λ i j ps. refl;
  }

  abbrev pub AllSpecified : Trees → Type 0
  AllSpecified none = Unit {0}
  AllSpecified (more p ps) = Stated w p × AllSpecified ps
  AllSpecified (skip ps) = ⊥

  abbrev roles_of : Trees → List Role
  roles_of none = []
  roles_of (more p ps) = a_statement ∷ roles_of ps
  roles_of (skip ps) = roles_of ps

  are_roles : (ps : Trees) → AllSpecified ps → AreRoles w (roles_of ps) ps
  are_roles none s = tt
  are_roles (more p ps) s = (s.0, are_roles ps s.1)
  are_roles (skip ps) s = elim s [ ]

  group_awaits : (f : Frame) (ps : Trees) → AllSpecified ps → AllFit w false (row (row_parts f ps)) → AllTagged (row (row_parts f ps)) → Awaits w (roles_of ps) (row_parts f ps)
  group_awaits f none s fits tags = tt
  group_awaits f (more p ps) s fits tags = ((fits.0, tags.0), group_awaits (frame_in (reading f value p)) ps s.1 fits.1 tags.1)
  group_awaits f (skip ps) s fits tags = elim s [ ]

  group_puts : (f : Frame) (ps : Trees) → AllSpecified ps → AllFit w false (row (row_parts f ps)) → Puts w [] (row_parts f ps)
  group_puts f none s fits = tt
  group_puts f (more p ps) s fits = (statement_put w (tree_in (reading f value p)) (reading_stated f value p s.0.kind) fits.0, group_puts (frame_in (reading f value p)) ps s.1 fits.1)
  group_puts f (skip ps) s fits = elim s [ ]

  module _ (f g : Frame) (h : Hint) (i j a b : ℕ) (qs : Trees) (s : AllSpecified qs) (st : FramesStand w f g) where
    abbrev p : Tree
    p = node (kind.Group declaring.Variable) a b qs

    group_is : tree_in (reading f value (node (kind.Group declaring.Variable) a b qs)) ≡ made (form.Held (kind.Group declaring.Variable)) a b sort.Nothing (row_parts f qs) (row_parts f qs)
    group_is = holder_is w f f value (kind.Group declaring.Variable) a b qs variable_group

    group_old : Old w f h (kind.Declaration declaring.Variable) i j (more (node (kind.Group declaring.Variable) a b qs) none)
    group_old = record {
      parts = row_parts f (more p none);
      found = row_found f (more p none);
      behind = row_behind f (more p none);
      form = form.Variables;
      laid = row_parts f qs;
      is = any_row (kind.Declaration declaring.Variable) h (more p none) plain_variables f [] [] (more p none);
      laid_is = ap (λ x. specifications (Some x ∷ [])) group_is ∙ list_row (row_parts f qs);
      form_is = refl;
    }

    pub group_declared : ExpressionsTyped → no_rule_fails (found_in (reading f h (node (kind.Declaration declaring.Variable) i j (more (node (kind.Group declaring.Variable) a b qs) none)))) ≡ true
        → Fits w false (tree_in (reading f h (node (kind.Declaration declaring.Variable) i j (more (node (kind.Group declaring.Variable) a b qs) none))))
        → Tagged (tree_in (reading f h (node (kind.Declaration declaring.Variable) i j (more (node (kind.Group declaring.Variable) a b qs) none))))
        → Steady f h (node (kind.Declaration declaring.Variable) i j (more (node (kind.Group declaring.Variable) a b qs) none))
        → Reads w f g h (node (kind.Declaration declaring.Variable) i j (more (node (kind.Group declaring.Variable) a b qs) none))
    unfolding group_old
    group_declared law good fits tags steady =
        let k = kind.Declaration declaring.Variable in
        let ps : Trees = more p none in
        let own = old_rules w f h k i j ps refl group_old good in
        let all = old_fits w f h k i j ps refl group_old own.1 fits in
        let tagged = (old_tagged w f h k i j ps refl group_old own.1 tags).1 in
        let awaits = group_awaits f qs s all tagged in
        let r = parts_read w f g ps ((λ g st good. (holder_reads w f g value (kind.Group declaring.Variable) a b qs variable_group law (roles_of qs) (are_roles qs s) st good awaits steady.1.0).reads), tt) st own.0 in
        let new = all_with_variables w ps in
        let T = row_behind g new in
        node_reads w f g h k i j ps group_old refl refl own.1
        (record {
          parts = row_parts g new;
          found = row_found g new;
          behind = T;
          is = any_row k h new plain_variables g [] [] new;
          laid_is = ap specifications r.parts ∙ ap (λ x. specifications (Some (begun w false x) ∷ [])) group_is ∙ list_begun w (row (row_parts f qs)) ∙ ap (news w) (list_row (row_parts f qs));
          form_is = refl;
          good = r.good;
          rule = own_none w g h k i j new refl T form.Variables (news w (row_parts f qs)) refl;
          node = node_put w form.Variables i j [] (row_parts f qs) variables_form (group_puts f qs s all);
          frame = back_stands w f g (row_behind f ps) T st r.frame;
          calm = tt;
        })
