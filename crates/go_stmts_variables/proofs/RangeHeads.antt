-- Range clauses with variables in them.
use Rattle.std.proofs.Common.{◌≡◌, ◌∙◌, ℕ, suc, ◌-◌, Bool, true, false, List, [], ◌∷◌, ◌++◌, length, Some, refl, sym, ap, append-nil, arith}
use Rattle.std.specs.Prelude.{◌||◌, if◌then◌else◌}
use Rattle.std.specs.List.{list_any}
use Rattle.go_base.specs.declared.fault.FaultCode.TheVariants as code
use Rattle.go_grammar.specs.declared.kind.Kind.TheVariants as kind
use Rattle.go_grammar.specs.declared.kind.Place.{Place}
use Rattle.go_grammar.specs.Grammar.{any}
use Rattle.go_grammar.specs.Trees.{Tree, Trees, node, none, more}
use Rattle.go_types.specs.Relations.{Rights}
use Rattle.go_typed.specs.declared.form.Form.TheVariants as form
use Rattle.go_typed.specs.Trees.{form_of, label_of, parts_of, list_of, row}
use Rattle.go_typed.specs.Trees as sort
use Rattle.go_exprs_rules.specs.declared.fault.TypeFault.{TypeFault}
use Rattle.go_exprs_rules.specs.Scopes.{value, target}
use Rattle.go_exprs_rules.specs.Settling.{Part, given}
use Rattle.go_exprs_rules.specs.Tables.{Parts, is_held, held, all_held, is_judged, calls_in, made}
use Rattle.go_stmts_defs.specs.Assigning.{takes}
use Rattle.go_stmts_defs.specs.Frames.{Frame, rights_of}
use Rattle.go_stmts_defs.specs.Laying.{loop_header, loop_form}
use Rattle.go_stmts_defs.specs.Reading.{Found, all_read, list_node, holdings, all_held_faults, reading}
use Rattle.go_stmts_defs.specs.Rules.{not_a_target}
use Rattle.go_stmts_defs.specs.Rules as rules
use Rattle.go_stmts_defs.specs.Targets.{is_target}
use Rattle.go_exprs_variables.specs.Shapes.{IsShaped}
use Rattle.go_exprs_variables.specs.Variables.{Standins, with_variables, all_with_variables, Proper, AllProper, begun, Fits, no_rule_fails, ExpressionsTyped}
use Rattle.go_exprs_variables.proofs.Public.{All, all_new, all_of, calls_kept, each, news, news_each, of_all, passed, passes}
use Rattle.go_stmts_variables.specs.Frames.{FramesStand}
use Rattle.go_stmts_variables.specs.Rules.{Targets, no_target, a_target}
use Rattle.go_stmts_variables.specs.Statements.{tree_in, found_in, frame_in}
use Rattle.go_stmts_variables.specs.Steady.{Keeps, type_taken}
use Rattle.go_stmts_variables.proofs.Assignments.{AllClosed, targets_will, targets_closed, target_new, type_new, targets_put}
use Rattle.go_stmts_variables.proofs.Expressions.{IsValuePart}
use Rattle.go_stmts_variables.proofs.Frames.{back_stands}
use Rattle.go_stmts_variables.proofs.Headers.{reading_unheld, begun_plain_part}
use Rattle.go_stmts_variables.proofs.Lists.{AreExpressions, expression_operands, list_row, list_parts, list_values, list_reads}
use Rattle.go_stmts_variables.proofs.Nodes.{Old, old_closed, old_rules, sound_node, node_reads}
use Rattle.go_stmts_variables.proofs.Operates.{same_rights}
use Rattle.go_stmts_variables.proofs.RangeLoops.{range_take, RangeHead, RangeRead, range_will}
use Rattle.go_stmts_variables.proofs.Roles.{IsPlainRow, row_parts, row_found, row_behind, any_row, parts_read, value_reads, held_node}
use Rattle.go_stmts_variables.proofs.Rows.{after_is, news_two}

pub nothing_wrong : (b : Bool) → (if◌then◌else◌ {A = List TypeFault} b [] []) ≡ []
nothing_wrong true = refl
nothing_wrong false = refl

pub count_front : (ns : List Part) (x : Part) → length (each ns ++ Some x ∷ []) ≡ suc (length ns)
count_front [] x = refl
count_front (n ∷ ns) x = ap suc (count_front ns x)

pub one_less : (n : ℕ) → suc n - 1 ≡ n
one_less n = omega arith

pub front_count : (ns : List Part) (x : Part) → length (list_of (row (each ns ++ Some x ∷ []))) - 1 ≡ length ns
front_count ns x = ap (λ ys. length ys - 1) (list_row (each ns ++ Some x ∷ [])) ∙ ap (λ n. n - 1) (count_front ns x) ∙ one_less (length ns)

pub self_targets : (rights : Rights) (ts : List Part) → Targets rights ts ts
self_targets rights [] = no_target
self_targets rights (t ∷ ts) = a_target t t ts ts refl (λ e. e) (self_targets rights ts)

module _ (w : Standins) where
  calls_values : (xs : List Part) → All (IsValuePart w) xs → list_any calls_in (news w (each xs)) ≡ list_any calls_in (each xs)
  calls_values [] v = refl
  calls_values (x ∷ xs) v = ap (λ b. b || list_any calls_in (news w (each xs))) (calls_kept [] w false x v.0.ready) ∙ ap (λ b. (label_of x).calls || b) (calls_values xs v.1)

  calls_front : (xs : List Part) (x : Part) → All (IsValuePart w) xs → IsValuePart w x → list_any calls_in (news w (each xs ++ Some x ∷ [])) ≡ list_any calls_in (each xs ++ Some x ∷ [])
  calls_front [] x v u = ap (λ b. b || false) (calls_kept [] w false x u.ready)
  calls_front (y ∷ xs) x v u = ap (λ b. b || list_any calls_in (news w (each xs ++ Some x ∷ []))) (calls_kept [] w false y v.0.ready) ∙ ap (λ b. (label_of y).calls || b) (calls_front xs x v.1 u)

  -- ---- over a value, with no targets

  plain_range : IsPlainRow kind.Range
  plain_range = record { enters = λ xs s. refl; tells = λ h all xs n. refl; leaves = λ s. refl; finds = λ s. refl }

  module _ (f : Frame) (a b : ℕ) (p : Place) (q : Tree) (shape : IsShaped (any p) q) where
    abbrev x : Part
    x = tree_in (reading f value q)

    alone_old : Old w f value kind.Range a b (more q none)
    alone_old = record {
      parts = row_parts f (more q none);
      found = row_found f (more q none);
      behind = row_behind f (more q none);
      form = form.Held kind.Range;
      laid = Some x ∷ [];
      is = any_row kind.Range value (more q none) plain_range f [] [] (more q none);
      laid_is = refl;
      form_is = refl;
    }

    alone_is : tree_in (reading f value (node kind.Range a b (more q none))) ≡ made (form.Held kind.Range) a b sort.Nothing (Some x ∷ []) (Some x ∷ [])
    unfolding alone_old
    alone_is =
        ap tree_in (old_closed w f value kind.Range a b (more q none) refl alone_old)
        ∙ sound_node w f value kind.Range a b (more q none) refl (row_behind f (more q none)) (form.Held kind.Range) (Some x ∷ []) (nothing_wrong (is_judged (Some x ∷ [])))

    alone_reads : (g : Frame) → ExpressionsTyped → Proper w q → (R : Rights) (i j : ℕ) → FramesStand w f g → no_rule_fails (found_in (reading f value (node kind.Range a b (more q none)))) ≡ true
        → rules.range_assigned R i j [] x (rules.range_types R x) ≡ [] → Fits w false (given (range_take [] x) x) → Keeps (rights_of f) R (type_taken (takes (range_take [] x)))
        → RangeRead w f g R (node kind.Range a b (more q none)) [] x
    unfolding alone_old
    alone_reads g law proper R i j st good rule fits keeps =
        let ps : Trees = more q none in
        let own = old_rules w f value kind.Range a b ps refl alone_old good in
        let found = all_of (found_in (reading f value q)) [] own.0 in
        let xw = range_will w R i j [] x no_target rule fits (rights_of f) keeps in
        let v = value_reads w law f g value p q shape refl st proper found.0 xw in
        let r = parts_read w f g ps ((λ g st good. (value_reads w law f g value p q shape refl st proper good xw).reads), tt) st own.0 in
        let new = all_with_variables w ps in
        let T = row_behind g new in
        record {
          reads = node_reads w f g value kind.Range a b ps alone_old refl refl own.1
              (record {
                parts = row_parts g new;
                found = row_found g new;
                behind = T;
                is = any_row kind.Range value new plain_range g [] [] new;
                laid_is = r.parts;
                form_is = refl;
                good = r.good;
                rule = nothing_wrong (is_judged (news w (Some x ∷ [])));
                node = held_node w kind.Range a b (Some x ∷ []) (calls_values (x ∷ []) (v.value, tt));
                frame = back_stands w f g (row_behind f ps) T st r.frame;
                calm = tt;
              });
          value = v.value;
          puts = tt;
          kept = no_target;
        }

    alone_still : rights_of (frame_in (reading f value (node kind.Range a b (more q none)))) ≡ rights_of f
    unfolding alone_old
    alone_still = ap (λ r. rights_of (frame_in r)) (old_closed w f value kind.Range a b (more q none) refl alone_old) ∙ same_rights w f p q shape

    pub range_alone : ExpressionsTyped → Proper w q → RangeHead w f (node kind.Range a b (more q none))
    range_alone law proper = record {
      goes = refl;
      still = alone_still;
      defines = false;
      targets = [];
      x = x;
      flat = ap (λ z. loop_header (Some z)) alone_is;
      form = ap (λ z. loop_form (Some z)) alone_is;
      same = λ r. no_target;
      read = λ g R i j st good rule fits keeps ok tf. alone_reads g law proper R i j st good rule fits keeps;
    }

  -- ---- with targets

  kept_targets : (rights : Rights) (xs : List Part) → All (IsValuePart w) xs → AllClosed w xs → All (Fits w false) xs → Targets rights xs (all_new w xs)
  kept_targets rights [] v o fits = no_target
  kept_targets rights (x ∷ xs) v o fits =
      a_target x (begun w false x) xs (all_new w xs) (type_new w rights x v.0 fits.0)
      (λ e. passed (is_target rights (begun w false x)) [] code.LeftSide (begun w false x) (target_new w rights x v.0 o.0 fits.0 (passes (is_target rights x) [] code.LeftSide x e).0) refl) (kept_targets rights xs v.1 o.1 fits.1)

  pub unheld_one : (x : Part) → is_held (form_of x) ≡ false → held (Some x) ++ [] ≡ Some x ∷ []
  unheld_one x e = ap (λ b. (if b then list_of (parts_of x) else Some x ∷ []) ++ []) e

  module _ (f : Frame) (a b c d e k : ℕ) (p r : Place) (qs : Trees) (q : Tree) (left : AreExpressions p qs) (shape : IsShaped (any r) q) where
    abbrev ns : List Part
    ns = list_values w f target qs

    abbrev v : Part
    v = tree_in (reading f value q)

    abbrev hd : Tree
    hd = node kind.AssigningRange a b (more (node kind.Targets c d (more (node kind.ExpressionList e k qs) none)) (more q none))

    abbrev targets_node : Frame → Trees → Part
    targets_node f qs = list_node f kind.Targets c d (all_held (Some (list_node f kind.ExpressionList e k (holdings f kind.ExpressionList target qs [] qs)) ∷ []))

    abbrev targets_found : Frame → Trees → Found
    targets_found f qs = all_held_faults f kind.ExpressionList target qs [] qs ++ []

    targets_are : (f : Frame) (qs : Trees) (zs : Parts) → list_of (row (holdings f kind.ExpressionList target qs [] qs)) ≡ zs → held (Some (targets_node f qs)) ≡ zs
    targets_are f qs zs m = list_row (all_held (Some (list_node f kind.ExpressionList e k (holdings f kind.ExpressionList target qs [] qs)) ∷ [])) ∙ append-nil (list_of (row (holdings f kind.ExpressionList target qs [] qs))) ∙ m

    assigning_old : Old w f value kind.AssigningRange a b (more (node kind.Targets c d (more (node kind.ExpressionList e k qs) none)) (more q none))
    assigning_old = record {
      parts = Some (targets_node f qs) ∷ Some v ∷ [];
      found = targets_found f qs ++ found_in (reading f value q);
      behind = frame_in (reading f value q);
      form = form.Held kind.AssigningRange;
      laid = each ns ++ Some v ∷ [];
      is = after_is (reading f value q) (λ x gs t. all_read (Some (targets_node f qs) ∷ Some x ∷ []) (targets_found f qs ++ gs) t);
      laid_is = ap (λ z. z ++ (held (Some v) ++ [])) (targets_are f qs (each ns) (list_parts w f target qs (expression_operands p qs left))) ∙ ap (λ z. each ns ++ z) (unheld_one v (reading_unheld w f r q shape));
      form_is = refl;
    }

    assigning_is : tree_in (reading f value hd) ≡ made (form.Held kind.AssigningRange) a b sort.Nothing (each ns ++ Some v ∷ []) (each ns ++ Some v ∷ [])
    unfolding assigning_old
    assigning_is =
        ap tree_in (old_closed w f value kind.AssigningRange a b (more (node kind.Targets c d (more (node kind.ExpressionList e k qs) none)) (more q none)) refl assigning_old)
        ∙ sound_node w f value kind.AssigningRange a b (more (node kind.Targets c d (more (node kind.ExpressionList e k qs) none)) (more q none)) refl (frame_in (reading f value q)) (form.Held kind.AssigningRange) (each ns ++ Some v ∷ [])
        (nothing_wrong (is_judged (each ns ++ Some v ∷ [])))

    assigning_reads : (g : Frame) → ExpressionsTyped → AllProper w qs → Proper w q → (R : Rights) (i j : ℕ) → FramesStand w f g → no_rule_fails (found_in (reading f value hd)) ≡ true
        → rules.range_assigned R i j ns v (rules.range_types R v) ≡ [] → Fits w false (given (range_take ns v) v) → Keeps (rights_of f) R (type_taken (takes (range_take ns v))) → rules.each (not_a_target R) ns ≡ []
        → All (Fits w false) ns → RangeRead w f g R hd ns v
    unfolding assigning_old
    assigning_reads g law pq px R i j st good rule fits keeps ok tf =
        let ps : Trees = more (node kind.Targets c d (more (node kind.ExpressionList e k qs) none)) (more q none) in
        let own = old_rules w f value kind.AssigningRange a b ps refl assigning_old good in
        let found = all_of (targets_found f qs) (found_in (reading f value q)) own.0 in
        let left_found = sym (ap no_rule_fails (append-nil (all_held_faults f kind.ExpressionList target qs [] qs))) ∙ found.0 in
        let l = list_reads w law f g target p qs left refl st pq left_found (targets_will w f g st R p qs left ok tf) in
        let u = value_reads w law f g value r q shape refl st px found.1 (range_will w R i j ns v (self_targets R ns) rule fits (rights_of f) keeps) in
        let new_qs = all_with_variables w qs in
        let new_q = with_variables w q in
        let v' = tree_in (reading g value new_q) in
        let closed = targets_closed w f g st R p qs left ok in
        record {
          reads = node_reads w f g value kind.AssigningRange a b ps assigning_old refl refl own.1
              (record {
                parts = Some (targets_node g new_qs) ∷ Some v' ∷ [];
                found = targets_found g new_qs ++ found_in (reading g value new_q);
                behind = frame_in (reading g value new_q);
                is = after_is (reading g value new_q) (λ x gs t. all_read (Some (targets_node g new_qs) ∷ Some x ∷ []) (targets_found g new_qs ++ gs) t);
                laid_is = ap (λ z. z ++ (held (Some v') ++ [])) (targets_are g new_qs (each (all_new w ns)) l.parts) ∙ ap (λ y. each (all_new w ns) ++ (held (Some y) ++ [])) u.reads.tree
                    ∙ ap (λ z. each (all_new w ns) ++ z) (unheld_one (begun w false v) (begun_plain_part w v (reading_unheld w f r q shape)))
                    ∙ sym (news_two w (each ns) (Some v ∷ []) ∙ ap (λ z. z ++ Some (begun w false v) ∷ []) (news_each w ns));
                form_is = refl;
                good = of_all (targets_found g new_qs) (found_in (reading g value new_q)) (ap no_rule_fails (append-nil (all_held_faults g kind.ExpressionList target new_qs [] new_qs)) ∙ l.good) u.reads.failing;
                rule = nothing_wrong (is_judged (news w (each ns ++ Some v ∷ [])));
                node = held_node w kind.AssigningRange a b (each ns ++ Some v ∷ []) (calls_front ns v l.values u.value);
                frame = back_stands w f g (frame_in (reading f value q)) (frame_in (reading g value new_q)) st u.reads.frame;
                calm = tt;
              });
          value = u.value;
          puts = targets_put w ns l.values tf;
          kept = kept_targets R ns l.values closed tf;
        }

    assigning_still : rights_of (frame_in (reading f value hd)) ≡ rights_of f
    unfolding assigning_old
    assigning_still =
        ap (λ r. rights_of (frame_in r)) (old_closed w f value kind.AssigningRange a b (more (node kind.Targets c d (more (node kind.ExpressionList e k qs) none)) (more q none)) refl assigning_old) ∙ same_rights w f r q shape

    pub range_assigning : ExpressionsTyped → AllProper w qs → Proper w q → RangeHead w f (node kind.AssigningRange a b (more (node kind.Targets c d (more (node kind.ExpressionList e k qs) none)) (more q none)))
    range_assigning law pq px = record {
      goes = refl;
      still = assigning_still;
      defines = false;
      targets = ns;
      x = v;
      flat = ap (λ z. loop_header (Some z)) assigning_is ∙ list_row (each ns ++ Some v ∷ []);
      form = ap (λ z. loop_form (Some z)) assigning_is ∙ ap (form.Range false) (front_count ns v);
      same = λ q. self_targets q ns;
      read = λ g R i j st good rule fits keeps ok tf. assigning_reads g law pq px R i j st good rule fits keeps ok tf;
    }
