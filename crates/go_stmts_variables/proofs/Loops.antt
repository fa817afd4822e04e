-- Loops with variables in their conditions.
use Rattle.std.proofs.Common.{◌≡◌, ◌∙◌, ℕ, true, false, List, [], ◌∷◌, ◌++◌, Option, Some, None, refl, sym, ap, append_assoc}
use Rattle.go_grammar.specs.declared.kind.Kind.TheVariants as kind
use Rattle.go_grammar.specs.Trees.{Tree, node, Trees, none, more, skip}
use Rattle.go_typed.specs.declared.form.Form.TheVariants as form
use Rattle.go_typed.specs.Trees.{typed, form_of, row}
use Rattle.go_exprs_rules.specs.Scopes.{Hint, value}
use Rattle.go_exprs_rules.specs.Settling.{Part}
use Rattle.go_exprs_rules.specs.Tables.{Parts, is_held}
use Rattle.go_stmts_defs.specs.Frames.{Frame, rights_of}
use Rattle.go_stmts_defs.specs.Laying.{loop_header, loop_form, first_loop_form, for_parts}
use Rattle.go_stmts_defs.specs.Reading.{reading}
use Rattle.go_stmts_defs.specs.Rules.{second_condition}
use Rattle.go_exprs_variables.specs.Variables.{Standins, all_with_variables, begun, Fits, AllFit, no_rule_fails, ExpressionsTyped}
use Rattle.go_exprs_variables.proofs.Public.{all_of, new_part, news}
use Rattle.go_stmts_variables.specs.Frames.{FramesStand}
use Rattle.go_stmts_variables.specs.Statements.{tree_in, found_in, frame_in, Tagged, AllTagged}
use Rattle.go_stmts_variables.specs.Steady.{Steady}
use Rattle.go_stmts_variables.proofs.Branches.{RangedIf, AllStatedIf, condition_roles, condition_takes, second, condition_awaits, condition_behind, condition_tagged, condition_put, condition_holds, second_is, second_new}
use Rattle.go_stmts_variables.proofs.Frames.{back_stands}
use Rattle.go_stmts_variables.proofs.Headers.{Header, begun_plain, loop_new}
use Rattle.go_stmts_variables.proofs.Nodes.{Reads, Old, old_rules, old_fits, old_tagged, rule_of, own_none, node_reads}
use Rattle.go_stmts_variables.proofs.Puts.{IsStatementForm, node_put}
use Rattle.go_stmts_variables.proofs.Roles.{IsPlainRow, Role, a_statement, a_value, RangedAll, row_parts, row_found, row_behind, any_row, parts_read, Roles, Awaits, Values}
use Rattle.go_stmts_variables.proofs.Rows.{news_two, IsStated, reading_stated, Stated}

abbrev pub loop_roles : List Role
loop_roles = a_statement ∷ a_value ∷ a_statement ∷ []

module _ (w : Standins) where
  -- a header falls into the statement with the condition, and the statement behind them
  pub record Falls (hs : Parts) : Type 0 where
    pub front : Parts
    pub post : Parts
    pub is : hs ≡ front ++ post
    pub roles : Roles w condition_roles front
    pub stated : AllStatedIf w post
    pub awaits : Awaits w condition_roles front → AllFit w false (row post) → AllTagged (row post) → Awaits w loop_roles hs
    pub values : Values w loop_roles hs → Values w condition_roles front
    pub ranged : RangedAll loop_roles hs → RangedIf (second front)

  pub falls : (hs : Parts) → Roles w loop_roles hs → Falls hs
  falls [] r = elim r [ ]
  falls (None ∷ []) r = elim r [ ]
  falls (Some a ∷ []) r = elim r.1 [ ]
  falls (None ∷ None ∷ []) r = elim r [ ]
  falls (None ∷ Some c ∷ []) r = elim r [ ]
  falls (Some a ∷ None ∷ []) r = elim r.1 [ ]
  falls (Some a ∷ Some c ∷ []) r = elim r.1 [ ]
  falls (None ∷ None ∷ None ∷ []) r = record { front = None ∷ None ∷ []; post = None ∷ []; is = refl; roles = tt; stated = tt; awaits = λ a f t. tt; values = λ v. tt; ranged = λ q. tt }
  falls (None ∷ None ∷ Some p ∷ []) r = record { front = None ∷ None ∷ []; post = Some p ∷ []; is = refl; roles = tt; stated = (r.0, tt); awaits = λ a f t. ((f.0, t.0), tt); values = λ v. tt; ranged = λ q. tt }
  falls (None ∷ Some c ∷ None ∷ []) r = record { front = None ∷ Some c ∷ []; post = None ∷ []; is = refl; roles = tt; stated = tt; awaits = λ a f t. (a.0, tt); values = λ v. (v.0, tt); ranged = λ q. q.0 }
  falls (None ∷ Some c ∷ Some p ∷ []) r = record { front = None ∷ Some c ∷ []; post = Some p ∷ []; is = refl; roles = tt; stated = (r.0, tt); awaits = λ a f t. (a.0, ((f.0, t.0), tt)); values = λ v. (v.0, tt); ranged = λ q. q.0 }
  falls (Some a ∷ None ∷ None ∷ []) r = record { front = Some a ∷ None ∷ []; post = None ∷ []; is = refl; roles = (r.0, tt); stated = tt; awaits = λ x f t. (x.0, tt); values = λ v. tt; ranged = λ q. tt }
  falls (Some a ∷ None ∷ Some p ∷ []) r = record { front = Some a ∷ None ∷ []; post = Some p ∷ []; is = refl; roles = (r.0, tt); stated = (r.1.0, tt); awaits = λ x f t. (x.0, ((f.0, t.0), tt)); values = λ v. tt; ranged = λ q. tt }
  falls (Some a ∷ Some c ∷ None ∷ []) r = record { front = Some a ∷ Some c ∷ []; post = None ∷ []; is = refl; roles = (r.0, tt); stated = tt; awaits = λ x f t. (x.0, (x.1.0, tt)); values = λ v. (v.0, tt); ranged = λ q. q.0 }
  falls (Some a ∷ Some c ∷ Some p ∷ []) r = record {
    front = Some a ∷ Some c ∷ [];
    post = Some p ∷ [];
    is = refl;
    roles = (r.0, tt);
    stated = (r.1.0, tt);
    awaits = λ x f t. (x.0, (x.1.0, ((f.0, t.0), tt)));
    values = λ v.
        (v.0, tt);
    ranged = λ q. q.0;
  }
  falls (None ∷ None ∷ None ∷ y ∷ ys) r = elim r [ ]
  falls (None ∷ None ∷ Some p ∷ y ∷ ys) r = elim r.1 [ ]
  falls (None ∷ Some c ∷ None ∷ y ∷ ys) r = elim r [ ]
  falls (None ∷ Some c ∷ Some p ∷ y ∷ ys) r = elim r.1 [ ]
  falls (Some a ∷ None ∷ None ∷ y ∷ ys) r = elim r.1 [ ]
  falls (Some a ∷ None ∷ Some p ∷ y ∷ ys) r = elim r.1.1 [ ]
  falls (Some a ∷ Some c ∷ None ∷ y ∷ ys) r = elim r.1 [ ]
  falls (Some a ∷ Some c ∷ Some p ∷ y ∷ ys) r = elim r.1.1 [ ]

  -- both parts in front of the block
  stated_two : (ps : Parts) (x : Part) → AllStatedIf w ps → IsStated x → AllStatedIf w (ps ++ Some x ∷ [])
  stated_two [] x s t = (t, tt)
  stated_two (None ∷ ps) x s t = stated_two ps x s t
  stated_two (Some p ∷ ps) x s t = (s.0, stated_two ps x s.1 t)

  fits_two : (ps : Parts) (x : Part) → AllFit w false (row (ps ++ Some x ∷ [])) → AllFit w false (row ps) × Fits w false x
  fits_two [] x f = (tt, f.0)
  fits_two (None ∷ ps) x f = fits_two ps x f
  fits_two (Some p ∷ ps) x f = let rest = fits_two ps x f.1 in ((f.0, rest.0), rest.1)

  tagged_two : (ps : Parts) (x : Part) → AllTagged (row (ps ++ Some x ∷ [])) → AllTagged (row ps) × Tagged x
  tagged_two [] x t = (tt, t.0)
  tagged_two (None ∷ ps) x t = tagged_two ps x t
  tagged_two (Some p ∷ ps) x t = let rest = tagged_two ps x t.1 in ((t.0, rest.0), rest.1)

  -- ---- a header of a loop that goes over nothing

  pub value_form : (x : Part) → is_held (form_of x) ≡ false → loop_form (Some x) ≡ form.For
  value_form (typed (form.Held k) i j l ps) e = cc
  value_form (typed f i j l ps) e = refl

  -- what isn't a range clause is none with variables in it
  pub form_new : (o : Option Part) → loop_form o ≡ form.For → loop_form (new_part w o) ≡ form.For
  form_new None e = refl
  form_new (Some (typed (form.Held kind.Range) i j l ps)) e = cc
  form_new (Some (typed (form.Held kind.AssigningRange) i j l ps)) e = cc
  form_new (Some (typed (form.Held kind.DefiningRange) i j l ps)) e = cc
  form_new (Some (typed (form.Held k) i j l ps)) e = refl
  form_new (Some (typed f i j l ps)) e = value_form (begun w false (typed f i j l ps)) (begun_plain w f i j l ps refl)

  for_form : IsStatementForm w form.For
  for_form = record { held = refl; key = refl; call = refl; name = λ z. refl }

  plain_for : IsPlainRow kind.For
  plain_for = record { enters = λ xs s. refl; tells = λ h all xs n. refl; leaves = λ s. refl; finds = λ s. refl }

  module _ (law : ExpressionsTyped) where
    module _ (f g : Frame) (h : Hint) (i j : ℕ) (hd b : Tree) (hf : Header w loop_header loop_roles f hd) (clause : loop_form (Some (tree_in (reading f value hd))) ≡ form.For) (sb : Stated w b) (st : FramesStand w f g) where
      abbrev new : Trees
      new = all_with_variables w (more hd (more b none))

      abbrev fall : Falls (loop_header (Some (tree_in (reading f value hd))))
      fall = falls (loop_header (Some (tree_in (reading f value hd)))) hf.stated

      abbrev middle : Frame
      middle = frame_in (reading f value hd)

      abbrev hs : Parts
      hs = fall.front

      abbrev ts : Parts
      ts = fall.post ++ Some (tree_in (reading middle value b)) ∷ []

      for_old : Old w f h kind.For i j (more hd (more b none))
      for_old = record {
        parts = row_parts f (more hd (more b none));
        found = row_found f (more hd (more b none));
        behind = row_behind f (more hd (more b none));
        form = form.For;
        laid = hs ++ ts;
        is = any_row kind.For h (more hd (more b none)) plain_for f [] [] (more hd (more b none));
        laid_is = ap (λ z. z ++ Some (tree_in (reading middle value b)) ∷ []) fall.is ∙ append_assoc hs fall.post (Some (tree_in (reading middle value b)) ∷ []);
        form_is = clause;
      }

      ranged : RangedIf (second hs)
      ranged = fall.ranged hf.ranged

      new_laid : row_parts g new ≡ news w (row_parts f (more hd (more b none))) → for_parts (row_parts g new) ≡ news w (hs ++ ts)
      new_laid e =
          let b' = tree_in (reading middle value b) in
          ap for_parts e ∙ ap (λ z. z ++ Some (begun w false b') ∷ []) (loop_new w (Some (tree_in (reading f value hd))) ∙ ap (news w) fall.is ∙ news_two w hs fall.post)
          ∙ append_assoc (news w hs) (news w fall.post) (Some (begun w false b') ∷ []) ∙ ap (λ z. news w hs ++ z) (sym (news_two w fall.post (Some b' ∷ []))) ∙ sym (news_two w hs ts)

      pub for_reads : no_rule_fails (found_in (reading f h (node kind.For i j (more hd (more b none))))) ≡ true → Fits w false (tree_in (reading f h (node kind.For i j (more hd (more b none)))))
          → Tagged (tree_in (reading f h (node kind.For i j (more hd (more b none))))) → Steady f h (node kind.For i j (more hd (more b none))) → Reads w f g h (node kind.For i j (more hd (more b none)))
      unfolding for_old
      for_reads good fits tags steady =
          let own = old_rules w f h kind.For i j (more hd (more b none)) refl for_old good in
          let all = old_fits w f h kind.For i j (more hd (more b none)) refl for_old own.1 fits in
          let S = row_behind f (more hd (more b none)) in
          let rule = sym (second_is w (rights_of S) hs ts fall.roles) ∙ rule_of w f h kind.For i j (more hd (more b none)) refl S form.For (hs ++ ts) refl own.1 in
          let tagged = (old_tagged w f h kind.For i j (more hd (more b none)) refl for_old own.1 tags).1 in
          let behind = condition_behind w hs ts fall.roles all in
          let later = tagged_two fall.post (tree_in (reading middle value b)) (condition_tagged w hs ts fall.roles tagged) in
          let two = fits_two fall.post (tree_in (reading middle value b)) behind in
          let awaits = fall.awaits (condition_awaits w (rights_of S) hs ts fall.roles ranged rule all tagged) two.0 later.0 in
          let found = all_of (found_in (reading f value hd)) (row_found middle (more b none)) own.0 in
          let hr = hf.read g st found.0 awaits steady.1.0 in
          let values = fall.values hr.values in
          let r = parts_read w f g (more hd (more b none)) ((λ g st good. (hf.read g st good awaits steady.1.0).reads), ((λ g st good. sb.reads middle g value st good two.1 later.1 steady.1.1.0), tt)) st own.0 in
          let T = row_behind g new in
          node_reads w f g h kind.For i j (more hd (more b none)) for_old refl refl own.1
          (record {
            parts = row_parts g new;
            found = row_found g new;
            behind = T;
            is = any_row kind.For h new plain_for g [] [] new;
            laid_is = new_laid r.parts;
            form_is = ap first_loop_form r.parts ∙ form_new (Some (tree_in (reading f value hd))) clause;
            good = r.good;
            rule = own_none w g h kind.For i j new refl T form.For (news w (hs ++ ts)) (ap (λ q. second_condition q (news w (hs ++ ts))) r.frame.rights ∙ second_new w (rights_of S) hs ts fall.roles
                ∙ condition_holds w (rights_of S) hs ts fall.roles values ranged rule all);
            node = node_put w form.For i j condition_takes (hs ++ ts) for_form (condition_put w hs ts fall.roles values (stated_two fall.post (tree_in (reading middle value b)) fall.stated (reading_stated middle value b sb.kind)) all);
            frame = back_stands w f g S T st r.frame;
            calm = tt;
          })

    -- ---- a loop without a header

    module _ (f g : Frame) (h : Hint) (i j : ℕ) (b : Tree) (sb : Stated w b) (st : FramesStand w f g) where
      abbrev forever : Parts
      forever = None ∷ None ∷ None ∷ Some (tree_in (reading f value b)) ∷ []

      forever_old : Old w f h kind.For i j (skip (more b none))
      forever_old = record {
        parts = row_parts f (skip (more b none));
        found = row_found f (skip (more b none));
        behind = row_behind f (skip (more b none));
        form = form.For;
        laid = forever;
        is = any_row kind.For h
            (skip (more b none)) plain_for f [] [] (skip (more b none));
        laid_is = refl;
        form_is = refl;
      }

      pub forever_reads : no_rule_fails (found_in (reading f h (node kind.For i j (skip (more b none))))) ≡ true → Fits w false (tree_in (reading f h (node kind.For i j (skip (more b none)))))
          → Tagged (tree_in (reading f h (node kind.For i j (skip (more b none))))) → Steady f h (node kind.For i j (skip (more b none))) → Reads w f g h (node kind.For i j (skip (more b none)))
      unfolding forever_old
      forever_reads good fits tags steady =
          let own = old_rules w f h kind.For i j (skip (more b none)) refl forever_old good in
          let all = old_fits w f h kind.For i j (skip (more b none)) refl forever_old own.1 fits in
          let r = parts_read w f g (skip (more b none)) ((λ g st good. sb.reads f g value st good all.0 (old_tagged w f h kind.For i j (skip (more b none)) refl forever_old own.1 tags).1.0 steady.1.0), tt) st own.0 in
          let T = row_behind g (all_with_variables w (skip (more b none))) in
          node_reads w f g h kind.For i j (skip (more b none)) forever_old refl refl own.1
          (record {
            parts = row_parts g (all_with_variables w (skip (more b none)));
            found = row_found g (all_with_variables w (skip (more b none)));
            behind = T;
            is = any_row kind.For h (all_with_variables w (skip (more b none))) plain_for g [] [] (all_with_variables w (skip (more b none)));
            laid_is = ap for_parts r.parts;
            form_is = refl;
            good = r.good;
            rule = refl;
            node = node_put w form.For i j condition_takes forever for_form (condition_put w (None ∷ None ∷ []) (None ∷ Some (tree_in (reading f value b)) ∷ []) tt tt (reading_stated f value b sb.kind, tt) all);
            frame = back_stands w f g (row_behind f (skip (more b none))) T st r.frame;
            calm = tt;
          })
