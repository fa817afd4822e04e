-- `if` and `for` with variables in their conditions.
use Rattle.std.proofs.Common.{◌≡◌, ◌∙◌, ℕ, true, false, List, [], ◌∷◌, ◌++◌, Option, Some, None, refl, sym, ap, subst}
use Rattle.go_base.specs.declared.fault.FaultCode.TheVariants as code
use Rattle.go_grammar.specs.declared.kind.Kind.TheVariants as kind
use Rattle.go_grammar.specs.Trees.{Tree, node, Trees, none, more, skip, kind_of}
use Rattle.go_types.specs.Trees.{boolean}
use Rattle.go_types.specs.Relations.{Rights}
use Rattle.go_typed.specs.declared.form.Form.TheVariants as form
use Rattle.go_typed.specs.Trees.{sort_of, row}
use Rattle.go_typed.specs.Trees as sort
use Rattle.go_exprs_rules.specs.declared.family.Family.TheVariants as family
use Rattle.go_exprs_rules.specs.declared.family.OpenKind.{OpenKind}
use Rattle.go_exprs_rules.specs.declared.family.OpenKind.TheVariants as untyped_kind
use Rattle.go_exprs_rules.specs.Scopes.{Hint, value}
use Rattle.go_exprs_rules.specs.Settling.{Part, settled, as_type, unrepresented}
use Rattle.go_exprs_rules.specs.Sorts.{Stands, is_truth, is_family, family_of_open, family_of_kind, family_of_type, form_of_value, or_family, open_kind, suits}
use Rattle.go_exprs_rules.specs.Tables.{Parts, held}
use Rattle.go_stmts_defs.specs.Assigning.{Taking, takes, rests}
use Rattle.go_stmts_defs.specs.Frames.{Frame, rights_of}
use Rattle.go_stmts_defs.specs.Laying.{header_parts, if_parts}
use Rattle.go_stmts_defs.specs.Reading.{reading}
use Rattle.go_stmts_defs.specs.Rules.{condition_failing, second_condition, all_given}
use Rattle.go_exprs_variables.specs.Variables.{Standins, with_variables, all_with_variables, begun, Fits, AllFit, no_rule_fails, ExpressionsTyped}
use Rattle.go_exprs_variables.proofs.Public.{all_of, default_suits, new_part, news, passes}
use Rattle.go_stmts_variables.specs.Frames.{FramesStand}
use Rattle.go_stmts_variables.specs.Statements.{tree_in, found_in, frame_in, Tagged, AllTagged}
use Rattle.go_stmts_variables.specs.Steady.{Steady}
use Rattle.go_stmts_variables.proofs.Endings.{AllCalm, CalmBehind}
use Rattle.go_stmts_variables.proofs.Conditions.{condition_kept}
use Rattle.go_stmts_variables.proofs.Expressions.{IsValuePart}
use Rattle.go_stmts_variables.proofs.Frames.{back_stands}
use Rattle.go_stmts_variables.proofs.Headers.{Header, held_new, header_new, else_holder}
use Rattle.go_stmts_variables.proofs.Nodes.{Reads, Old, old_rules, old_fits, old_tagged, rule_of, own_none, node_reads, NamesKnown, judged}
use Rattle.go_stmts_variables.proofs.Puts.{Puts, IsStatementForm, node_put, value_put}
use Rattle.go_stmts_variables.proofs.Roles.{IsPlainRow, Role, a_statement, a_value, Ranged, RangedAll, row_parts, row_found, row_behind, any_row, PartsRead, parts_read, Roles, Awaits, Values, holder_is, holder_reads}
use Rattle.go_stmts_variables.proofs.Rows.{news_two, stated_kind, IsStated, reading_stated, statement_put, RowSteady, row_steady, Stated}
use Rattle.go_stmts_variables.proofs.Wills.{will_as, operand_as}

abbrev pub RangedIf : Option Part → Type 0
RangedIf (Some x) = Ranged x
RangedIf None = Unit {0}

-- a statement, and the condition
abbrev pub condition_roles : List Role
condition_roles = a_statement ∷ a_value ∷ []

abbrev pub condition_takes : List Taking
condition_takes = rests ∷ takes (as_type boolean) ∷ []

abbrev pub second : Parts → Option Part
second (a ∷ c ∷ ys) = c
second ys = None

module _ (w : Standins) where
  -- ---- conditions

  truth_kind : (rights : Rights) (z : Stands) (k : OpenKind) → is_truth rights z ≡ true → open_kind z ≡ Some k → k ≡ untyped_kind.Boolean
  truth_kind rights (sort.Open u) k e m = by k (sym (ap (λ o. is_family family.Booleans (or_family (family_of_kind o) (family_of_type (form_of_value rights (sort.Open u))))) m) ∙ e)
    where
      by : (k : OpenKind) → is_family family.Booleans (Some (family_of_open k)) ≡ true → k ≡ untyped_kind.Boolean
      by untyped_kind.Boolean e = refl
      by k e = cc
  truth_kind rights (sort.OpenConstant c) k e m = by k (sym (ap (λ o. is_family family.Booleans (or_family (family_of_kind o) (family_of_type (form_of_value rights (sort.OpenConstant c))))) m) ∙ e)
    where
      by : (k : OpenKind) → is_family family.Booleans (Some (family_of_open k)) ≡ true → k ≡ untyped_kind.Boolean
      by untyped_kind.Boolean e = refl
      by k e = cc
  truth_kind rights z k e m = cc

  condition_suits : (rights r : Rights) (x : Part) → Ranged x → condition_failing rights (Some x) ≡ [] → (k : OpenKind) → open_kind (sort_of x) ≡ Some k → (suits r k boolean ≡ true) × (unrepresented r boolean x ≡ [])
  condition_suits rights r x ranged e k m =
      let is : k ≡ untyped_kind.Boolean = truth_kind rights (sort_of x) k (passes (is_truth rights (sort_of x)) [] code.Operands x e).0 m in
      (ap (λ q. suits r q boolean) is ∙ default_suits r untyped_kind.Boolean, ranged r (m ∙ ap Some is))

  -- ---- a statement, a condition, and statements

  abbrev pub AllStatedIf : Parts → Type 0
  AllStatedIf [] = Unit {0}
  AllStatedIf (None ∷ ys) = AllStatedIf ys
  AllStatedIf (Some y ∷ ys) = IsStated y × AllStatedIf ys

  pub stated_put : (ys : Parts) → AllStatedIf ys → AllFit w false (row ys) → Puts w [] ys
  stated_put [] s fits = tt
  stated_put (None ∷ ys) s fits = stated_put ys s fits
  stated_put (Some y ∷ ys) s fits = (statement_put w y s.0 fits.0, stated_put ys s.1 fits.1)

  -- what the header awaits, where the rule on conditions holds
  pub condition_awaits : (rights : Rights) (hs ts : Parts) → Roles w condition_roles hs → RangedIf (second hs) → condition_failing rights (second (hs ++ ts)) ≡ [] → AllFit w false (row (all_given condition_takes (hs ++ ts)))
      → AllTagged (row (all_given condition_takes (hs ++ ts))) → Awaits w condition_roles hs
  condition_awaits rights [] ts r ranged e fits tags = elim r [ ]
  condition_awaits rights (None ∷ []) ts r ranged e fits tags = elim r [ ]
  condition_awaits rights (None ∷ None ∷ []) ts r ranged e fits tags = tt
  condition_awaits rights (None ∷ Some c ∷ []) ts r ranged e fits tags = ((λ q. will_as w q boolean c (condition_suits rights q c ranged e) fits.0), tt)
  condition_awaits rights (None ∷ None ∷ y ∷ ys) ts r ranged e fits tags = elim r [ ]
  condition_awaits rights (None ∷ Some c ∷ y ∷ ys) ts r ranged e fits tags = elim r [ ]
  condition_awaits rights (Some a ∷ []) ts r ranged e fits tags = elim r.1 [ ]
  condition_awaits rights (Some a ∷ None ∷ []) ts r ranged e fits tags = ((fits.0, tags.0), tt)
  condition_awaits rights (Some a ∷ Some c ∷ []) ts r ranged e fits tags = ((fits.0, tags.0), ((λ q. will_as w q boolean c (condition_suits rights q c ranged e) fits.1.0), tt))
  condition_awaits rights (Some a ∷ None ∷ y ∷ ys) ts r ranged e fits tags = elim r.1 [ ]
  condition_awaits rights (Some a ∷ Some c ∷ y ∷ ys) ts r ranged e fits tags = elim r.1 [ ]

  pub condition_behind : (hs ts : Parts) → Roles w condition_roles hs → AllFit w false (row (all_given condition_takes (hs ++ ts))) → AllFit w false (row ts)
  condition_behind [] ts r fits = elim r [ ]
  condition_behind (None ∷ []) ts r fits = elim r [ ]
  condition_behind (None ∷ None ∷ []) ts r fits = fits
  condition_behind (None ∷ Some c ∷ []) ts r fits = fits.1
  condition_behind (None ∷ None ∷ y ∷ ys) ts r fits = elim r [ ]
  condition_behind (None ∷ Some c ∷ y ∷ ys) ts r fits = elim r [ ]
  condition_behind (Some a ∷ []) ts r fits = elim r.1 [ ]
  condition_behind (Some a ∷ None ∷ []) ts r fits = fits.1
  condition_behind (Some a ∷ Some c ∷ []) ts r fits = fits.1.1
  condition_behind (Some a ∷ None ∷ y ∷ ys) ts r fits = elim r.1 [ ]
  condition_behind (Some a ∷ Some c ∷ y ∷ ys) ts r fits = elim r.1 [ ]

  pub condition_tagged : (hs ts : Parts) → Roles w condition_roles hs → AllTagged (row (all_given condition_takes (hs ++ ts))) → AllTagged (row ts)
  condition_tagged [] ts r tags = elim r [ ]
  condition_tagged (None ∷ []) ts r tags = elim r [ ]
  condition_tagged (None ∷ None ∷ []) ts r tags = tags
  condition_tagged (None ∷ Some c ∷ []) ts r tags = tags.1
  condition_tagged (None ∷ None ∷ y ∷ ys) ts r tags = elim r [ ]
  condition_tagged (None ∷ Some c ∷ y ∷ ys) ts r tags = elim r [ ]
  condition_tagged (Some a ∷ []) ts r tags = elim r.1 [ ]
  condition_tagged (Some a ∷ None ∷ []) ts r tags = tags.1
  condition_tagged (Some a ∷ Some c ∷ []) ts r tags = tags.1.1
  condition_tagged (Some a ∷ None ∷ y ∷ ys) ts r tags = elim r.1 [ ]
  condition_tagged (Some a ∷ Some c ∷ y ∷ ys) ts r tags = elim r.1 [ ]

  condition_calm : (hs ts : Parts) → Roles w condition_roles hs → AllCalm w (row ts) → CalmBehind w (row (all_given condition_takes (hs ++ ts)))
  condition_calm [] ts r h = elim r [ ]
  condition_calm (None ∷ []) ts r h = elim r [ ]
  condition_calm (None ∷ None ∷ []) ts r h = h
  condition_calm (None ∷ Some c ∷ []) ts r h = h
  condition_calm (None ∷ None ∷ y ∷ ys) ts r h = elim r [ ]
  condition_calm (None ∷ Some c ∷ y ∷ ys) ts r h = elim r [ ]
  condition_calm (Some a ∷ []) ts r h = elim r.1 [ ]
  condition_calm (Some a ∷ None ∷ []) ts r h = h
  condition_calm (Some a ∷ Some c ∷ []) ts r h = h
  condition_calm (Some a ∷ None ∷ y ∷ ys) ts r h = elim r.1 [ ]
  condition_calm (Some a ∷ Some c ∷ y ∷ ys) ts r h = elim r.1 [ ]

  pub condition_put : (hs ts : Parts) → Roles w condition_roles hs → Values w condition_roles hs → AllStatedIf ts → AllFit w false (row (all_given condition_takes (hs ++ ts))) → Puts w condition_takes (hs ++ ts)
  condition_put [] ts r v s fits = elim r [ ]
  condition_put (None ∷ []) ts r v s fits = elim r [ ]
  condition_put (None ∷ None ∷ []) ts r v s fits = stated_put ts s fits
  condition_put (None ∷ Some c ∷ []) ts r v s fits = (value_put w (as_type boolean) c v.0.ready fits.0, stated_put ts s fits.1)
  condition_put (None ∷ None ∷ y ∷ ys) ts r v s fits = elim r [ ]
  condition_put (None ∷ Some c ∷ y ∷ ys) ts r v s fits = elim r [ ]
  condition_put (Some a ∷ []) ts r v s fits = elim r.1 [ ]
  condition_put (Some a ∷ None ∷ []) ts r v s fits = (statement_put w a r.0 fits.0, stated_put ts s fits.1)
  condition_put (Some a ∷ Some c ∷ []) ts r v s fits = (statement_put w a r.0 fits.0, (value_put w (as_type boolean) c v.0.ready fits.1.0, stated_put ts s fits.1.1))
  condition_put (Some a ∷ None ∷ y ∷ ys) ts r v s fits = elim r.1 [ ]
  condition_put (Some a ∷ Some c ∷ y ∷ ys) ts r v s fits = elim r.1 [ ]

  one_condition : (rights : Rights) (c : Part) → IsValuePart w c → Ranged c → condition_failing rights (Some c) ≡ [] → Fits w false (settled boolean c) → condition_failing rights (Some (begun w false c)) ≡ []
  one_condition rights c v ranged e fits = condition_kept rights (Some boolean) c (begun w false c) (operand_as w rights boolean c v (condition_suits rights rights c ranged e) fits).stands e

  pub condition_holds : (rights : Rights) (hs ts : Parts) → Roles w condition_roles hs → Values w condition_roles hs → RangedIf (second hs) → condition_failing rights (second (hs ++ ts)) ≡ []
      → AllFit w false (row (all_given condition_takes (hs ++ ts)))
      → condition_failing rights (second (news w (hs ++ ts))) ≡ []
  condition_holds rights [] ts r v ranged e fits = elim r [ ]
  condition_holds rights (None ∷ []) ts r v ranged e fits = elim r [ ]
  condition_holds rights (None ∷ None ∷ []) ts r v ranged e fits = refl
  condition_holds rights (None ∷ Some c ∷ []) ts r v ranged e fits = one_condition rights c v.0 ranged e fits.0
  condition_holds rights (None ∷ None ∷ y ∷ ys) ts r v ranged e fits = elim r [ ]
  condition_holds rights (None ∷ Some c ∷ y ∷ ys) ts r v ranged e fits = elim r [ ]
  condition_holds rights (Some a ∷ []) ts r v ranged e fits = elim r.1 [ ]
  condition_holds rights (Some a ∷ None ∷ []) ts r v ranged e fits = refl
  condition_holds rights (Some a ∷ Some c ∷ []) ts r v ranged e fits = one_condition rights c v.0 ranged e fits.1.0
  condition_holds rights (Some a ∷ None ∷ y ∷ ys) ts r v ranged e fits = elim r.1 [ ]
  condition_holds rights (Some a ∷ Some c ∷ y ∷ ys) ts r v ranged e fits = elim r.1 [ ]

  -- the rule as it is laid out

  pub second_is : (rights : Rights) (hs ts : Parts) → Roles w condition_roles hs → second_condition rights (hs ++ ts) ≡ condition_failing rights (second (hs ++ ts))
  second_is rights [] ts r = elim r [ ]
  second_is rights (x ∷ []) ts r = short x r
    where
      short : {X : Type 0} (x : Option Part) → Roles w condition_roles (x ∷ []) → X
      short None r = elim r [ ]
      short (Some x) r = elim r.1 [ ]
  second_is rights (a ∷ c ∷ ys) ts r = refl

  pub second_new : (rights : Rights) (hs ts : Parts) → Roles w condition_roles hs → second_condition rights (news w (hs ++ ts)) ≡ condition_failing rights (second (news w (hs ++ ts)))
  second_new rights [] ts r = elim r [ ]
  second_new rights (x ∷ []) ts r = short x r
    where
      short : {X : Type 0} (x : Option Part) → Roles w condition_roles (x ∷ []) → X
      short None r = elim r [ ]
      short (Some x) r = elim r.1 [ ]
  second_new rights (a ∷ c ∷ ys) ts r = refl

  rest_known : (ys : Parts) → NamesKnown w [] ys
  rest_known [] = tt
  rest_known (y ∷ ys) = tt

  pub condition_known : (hs ts : Parts) → Roles w condition_roles hs → NamesKnown w condition_takes (hs ++ ts)
  condition_known [] ts r = elim r [ ]
  condition_known (None ∷ []) ts r = elim r [ ]
  condition_known (None ∷ None ∷ []) ts r = rest_known ts
  condition_known (None ∷ Some c ∷ []) ts r = rest_known ts
  condition_known (None ∷ None ∷ y ∷ ys) ts r = elim r [ ]
  condition_known (None ∷ Some c ∷ y ∷ ys) ts r = elim r [ ]
  condition_known (Some a ∷ []) ts r = elim r.1 [ ]
  condition_known (Some a ∷ None ∷ []) ts r = rest_known ts
  condition_known (Some a ∷ Some c ∷ []) ts r = rest_known ts
  condition_known (Some a ∷ None ∷ y ∷ ys) ts r = elim r.1 [ ]
  condition_known (Some a ∷ Some c ∷ y ∷ ys) ts r = elim r.1 [ ]

  pub second_ranged : (hs : Parts) → Roles w condition_roles hs → RangedAll condition_roles hs → RangedIf (second hs)
  second_ranged [] r g = elim r [ ]
  second_ranged (None ∷ []) r g = elim r [ ]
  second_ranged (Some a ∷ []) r g = elim r.1 [ ]
  second_ranged (a ∷ None ∷ ys) r g = tt
  second_ranged (None ∷ Some c ∷ ys) r g = g.0
  second_ranged (Some a ∷ Some c ∷ ys) r g = g.0

  -- ---- `if`

  pub data Elses : Trees → Type 0 where
    no_else : Elses (skip none)
    an_else : (i j : ℕ) (b : Tree) → Stated w b → Elses (more (node kind.Else i j (more b none)) none)

  if_form : IsStatementForm w form.If
  if_form = record { held = refl; key = refl; call = refl; name = λ z. refl }

  plain_if : IsPlainRow kind.If
  plain_if = record { enters = λ xs s. refl; tells = λ h all xs n. refl; leaves = λ s. refl; finds = λ s. refl }

  -- what stands behind `else`, if anything does
  record ElseRow (f : Frame) (es : Trees) : Type 0 where
    pub part : Option Part
    pub rows : row_parts f es ≡ part ∷ []
    pub stated : AllStatedIf (held part)
    pub reads : AllFit w false (row (held part)) → AllTagged (row (held part)) → RowSteady f es → PartsRead w f es
    pub calm : AllFit w false (row (held part)) → AllTagged (row (held part)) → RowSteady f es → (g : Frame) → FramesStand w f g → no_rule_fails (row_found f es) ≡ true → AllCalm w (row (held part))

  module _ (law : ExpressionsTyped) where
    else_held : (f : Frame) (i j : ℕ) (b : Tree) → held (Some (tree_in (reading f value (node kind.Else i j (more b none))))) ≡ Some (tree_in (reading f value b)) ∷ []
    else_held f i j b = ap (λ x. held (Some x)) (holder_is w f f value kind.Else i j (more b none) (else_holder w))

    else_row : (f : Frame) (es : Trees) → Elses es → ElseRow f es
    else_row f es no_else = record { part = None; rows = refl; stated = tt; reads = λ fits tags steady. tt; calm = λ fits tags steady g st good. tt }
    else_row f es (an_else i j b s) =
        let same = else_held f i j b in
        record {
          part = Some (tree_in (reading f value (node kind.Else i j (more b none))));
          rows = refl;
          stated = subst AllStatedIf (sym same) (reading_stated f value b s.kind, tt);
          reads = λ fits tags steady. (
            (λ g st good. (holder_reads w f g value kind.Else i j (more b none) (else_holder w) law (a_statement ∷ []) (s, tt) st good
                (((subst (λ ys. AllFit w false (row ys)) same fits).0, (subst (λ ys. AllTagged (row ys)) same tags).0), tt) steady.0).reads),
            tt,
          );
          calm = λ fits tags steady g st good.
              let one = all_of (found_in (reading f value (node kind.Else i j (more b none)))) [] good in
              let r = holder_reads w f g value kind.Else i j (more b none) (else_holder w) law (a_statement ∷ []) (s, tt) st one.0
              (((subst (λ ys. AllFit w false (row ys)) same fits).0, (subst (λ ys. AllTagged (row ys)) same tags).0), tt) steady.0 in
              subst (λ ys. AllCalm w (row ys)) (sym same) (r.row.calm.0 (stated_kind (kind_of b) s.kind), tt);
        }

    module _ (f g : Frame) (h : Hint) (i j : ℕ) (hd b : Tree) (es : Trees) (hf : Header w header_parts condition_roles f hd) (sb : Stated w b) (el : Elses es) (st : FramesStand w f g) where
      abbrev new : Trees
      new = all_with_variables w (more hd (more b es))

      abbrev hs : Parts
      hs = header_parts (Some (tree_in (reading f value hd)))

      abbrev middle : Frame
      middle = frame_in (reading f value hd)

      abbrev last : Frame
      last = frame_in (reading middle value b)

      abbrev ts : Parts
      ts = Some (tree_in (reading middle value b)) ∷ held (else_row last es el).part

      if_old : Old w f h kind.If i j (more hd (more b es))
      if_old = record {
        parts = row_parts f (more hd (more b es));
        found = row_found f (more hd (more b es));
        behind = row_behind f (more hd (more b es));
        form = form.If;
        laid = hs ++ ts;
        is = any_row kind.If h (more hd (more b es)) plain_if f [] [] (more hd (more b es));
        laid_is = ap (λ z. if_parts (Some (tree_in (reading f value hd)) ∷ Some (tree_in (reading middle value b)) ∷ z)) (else_row last es el).rows;
        form_is = refl;
      }

      ranged : RangedIf (second hs)
      ranged = second_ranged hs hf.stated hf.ranged

      new_laid : row_parts g new ≡ news w (row_parts f (more hd (more b es))) → if_parts (row_parts g new) ≡ news w (hs ++ ts)
      new_laid e =
          let er = else_row last es el in
          let hd' = tree_in (reading f value hd) in
          let b' = tree_in (reading middle value b) in
          ap if_parts (e ∙ ap (λ z. news w (Some hd' ∷ Some b' ∷ z)) er.rows) ∙ ap (λ z. z ++ Some (begun w false b') ∷ held (new_part w er.part)) (header_new w (Some hd'))
          ∙ ap (λ z. news w hs ++ Some (begun w false b') ∷ z) (held_new w er.part)
          ∙ sym (news_two w hs ts)

      pub if_reads : no_rule_fails (found_in (reading f h (node kind.If i j (more hd (more b es))))) ≡ true → Fits w false (tree_in (reading f h (node kind.If i j (more hd (more b es)))))
          → Tagged (tree_in (reading f h (node kind.If i j (more hd (more b es))))) → Steady f h (node kind.If i j (more hd (more b es))) → Reads w f g h (node kind.If i j (more hd (more b es)))
      unfolding if_old
      if_reads good fits tags steady =
          let er = else_row last es el in
          let own = old_rules w f h kind.If i j (more hd (more b es)) refl if_old good in
          let all = old_fits w f h kind.If i j (more hd (more b es)) refl if_old own.1 fits in
          let S = row_behind f (more hd (more b es)) in
          let known = judged w condition_takes (hs ++ ts) (condition_known hs ts hf.stated) all in
          let rule = sym (second_is (rights_of S) hs ts hf.stated) ∙ rule_of w f h kind.If i j (more hd (more b es)) refl S form.If (hs ++ ts) known own.1 in
          let tagged = (old_tagged w f h kind.If i j (more hd (more b es)) refl if_old own.1 tags).1 in
          let awaits = condition_awaits (rights_of S) hs ts hf.stated ranged rule all tagged in
          let behind = condition_behind hs ts hf.stated all in
          let later = condition_tagged hs ts hf.stated tagged in
          let found = all_of (found_in (reading f value hd)) (row_found middle (more b es)) own.0 in
          let parts = row_steady kind.If h (more hd (more b es)) (λ xs s. refl) (λ xs n. refl) f [] (more hd (more b es)) steady.1 in
          let hr = hf.read g st found.0 awaits parts.0 in
          let r = parts_read w f g (more hd (more b es)) ((λ g st good. (hf.read g st good awaits parts.0).reads), ((λ g st good. sb.reads middle g value st good behind.0 later.0 parts.1.0), er.reads behind.1 later.1 parts.1.1)) st own.0 in
          let body = all_of (found_in (reading middle value b)) (row_found last es) found.1 in
          let one = sb.reads middle (frame_in (reading g value (with_variables w hd))) value hr.reads.frame body.0 behind.0 later.0 parts.1.0 in
          let T = row_behind g new in
          node_reads w f g h kind.If i j (more hd (more b es)) if_old refl refl own.1
          (record {
            parts = row_parts g new;
            found = row_found g new;
            behind = T;
            is = any_row kind.If h new plain_if g [] [] new;
            laid_is = new_laid r.parts;
            form_is = refl;
            good = r.good;
            rule = own_none w g h kind.If i j new refl T form.If (news w (hs ++ ts)) (ap (λ q. second_condition q (news w (hs ++ ts))) r.frame.rights ∙ second_new (rights_of S) hs ts hf.stated
                ∙ condition_holds (rights_of S) hs ts hf.stated hr.values ranged rule all);
            node = node_put w form.If i j condition_takes (hs ++ ts) if_form (condition_put hs ts hf.stated hr.values (reading_stated middle value b sb.kind, er.stated) all);
            frame = back_stands w f g S T st r.frame;
            calm = condition_calm hs ts hf.stated (one.calm (stated_kind (kind_of b) sb.kind), er.calm behind.1 later.1 parts.1.1 (frame_in (reading (frame_in (reading g value (with_variables w hd))) value (with_variables w b))) one.frame body.1);
          })
