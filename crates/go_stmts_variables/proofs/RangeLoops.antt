-- Loops over values with variables in them.
use Rattle.std.proofs.Common.{◌≡◌, ◌∙◌, ℕ, suc, ◌-◌, Bool, true, false, List, [], ◌∷◌, ◌++◌, length, drop, Option, Some, None, refl, sym, ap, subst, append_assoc, arith}
use Rattle.std.proofs.lemmas.Bool.Decides.{nat_tests}
use Rattle.std.specs.Prelude.{if◌then◌else◌, nat_lt, is_some, not}
use Rattle.go_grammar.specs.declared.kind.Kind.TheVariants as kind
use Rattle.go_grammar.specs.Trees.{Tree, Trees, node, none, more, kind_of}
use Rattle.go_types.specs.Trees.{TypeTree}
use Rattle.go_types.specs.Relations.{Rights}
use Rattle.go_typed.specs.declared.form.Form.TheVariants as form
use Rattle.go_typed.specs.Trees.{typed, Typeds, sort_of, list_of, row}
use Rattle.go_typed.specs.Trees as sort
use Rattle.go_exprs_rules.specs.declared.family.OpenKind.{OpenKind}
use Rattle.go_exprs_rules.specs.Scopes.{Hint, value}
use Rattle.go_exprs_rules.specs.Settling.{Part, Take, stay, default, as_type, given, defaulted}
use Rattle.go_exprs_rules.specs.Sorts.{Stands, is_constant, open_kind, default_type, takes_type}
use Rattle.go_exprs_rules.specs.Tables.{Parts, made}
use Rattle.go_stmts_defs.specs.Assigning.{Taking, takes, rests, type_or_default}
use Rattle.go_stmts_defs.specs.Frames.{Frame, rights_of}
use Rattle.go_stmts_defs.specs.Laying.{loop_header, loop_form, first_loop_form, for_parts}
use Rattle.go_stmts_defs.specs.Reading.{reading}
use Rattle.go_stmts_defs.specs.Rules.{is_open_number, number_target, range_types, range_assigned, range_failing, target_type, targets_failing, rest, operand_takes, is_first_number, target_there, all_given, taking, split_at}
use Rattle.go_exprs_variables.specs.Operands.{Operand}
use Rattle.go_exprs_variables.specs.Stood.{Stood, as_before, in_place, early}
use Rattle.go_exprs_variables.specs.Variables.{Standins, all_with_variables, all_begun, begun, Fits, AllFit, no_rule_fails}
use Rattle.go_exprs_variables.specs.Variables as variables
use Rattle.go_exprs_variables.proofs.Public.{All, all_new, all_of, both_none, default_suits, each, keeps_type, length_new, new_part, news, news_each}
use Rattle.go_stmts_variables.specs.Frames.{FramesStand}
use Rattle.go_stmts_variables.specs.Rules.{given_type, Targets, ranged_type}
use Rattle.go_stmts_variables.specs.Statements.{tree_in, found_in, frame_in, Tagged, AllTagged}
use Rattle.go_stmts_variables.specs.Steady.{Keeps, KeepsIf, is_clause, type_taken, number_type, range_type, Steady}
use Rattle.go_stmts_variables.proofs.Assignments.{fits_front}
use Rattle.go_stmts_variables.proofs.Basics.{undefaulted_any}
use Rattle.go_stmts_variables.proofs.Expressions.{Will, will, IsValuePart}
use Rattle.go_stmts_variables.proofs.Frames.{back_stands}
use Rattle.go_stmts_variables.proofs.Headers.{begun_plain, loop_new}
use Rattle.go_stmts_variables.proofs.Loops.{value_form}
use Rattle.go_stmts_variables.proofs.Nodes.{Reads, Old, old_rules, old_fits, old_tagged, rule_of, own_none, node_reads}
use Rattle.go_stmts_variables.proofs.Puts.{Put, IsStatementForm, value_put, puts_rest, node_put}
use Rattle.go_stmts_variables.proofs.Ranges.{range_kept, target_kept, open_assigned, default_assigned}
use Rattle.go_stmts_variables.proofs.Roles.{IsPlainRow, row_parts, row_found, row_behind, any_row, parts_read}
use Rattle.go_stmts_variables.proofs.Rows.{news_two, reading_stated, statement_put, Stated}
use Rattle.go_stmts_variables.proofs.Splits.{split_two}
use Rattle.go_stmts_variables.proofs.Wills.{Gives, take_of, taking_of, assignable_suits, kept_suits, will_as, will_default, operand_given, operand_default}

-- ---- what the value of a range clause takes

-- an untyped integer constant takes the type of the target, if it has one; all else its default type
abbrev pub range_take : List Part → Part → Take
range_take ts x = if is_open_number (sort_of x) then take_of (number_target ts) else default

drop_each : (ts : List Part) (ys : Parts) → drop (length ts) (each ts ++ ys) ≡ ys
drop_each [] ys = refl
drop_each (t ∷ ts) ys = drop_each ts ys

above_none : (n : ℕ) → nat_lt 0 (suc n) ≡ true
above_none n = grind (arith, nat_tests)

there_is : (ts : List Part) (ys : Parts) → target_there (length ts) (each ts ++ ys) ≡ number_target ts
there_is [] ys = refl
there_is (t ∷ ts) ys = ap (λ b. if b then target_type t else None) (above_none (length ts))

operand_is : (ts : List Part) (x : Part) (ys : Parts) → operand_takes (length ts) (each ts ++ Some x ∷ ys) ≡ takes (range_take ts x)
operand_is ts x ys =
    ap (λ zs. if is_first_number zs then type_or_default (target_there (length ts) (each ts ++ Some x ∷ ys)) else takes default) (drop_each ts (Some x ∷ ys))
    ∙ ap (λ o. if is_open_number (sort_of x) then type_or_default o else takes default) (there_is ts (Some x ∷ ys)) ∙ by (is_open_number (sort_of x))
  where
    by : (b : Bool) → (if b then type_or_default (number_target ts) else takes default) ≡ takes (if b then take_of (number_target ts) else default)
    by true = taking_of (number_target ts)
    by false = refl

number_constant : (z : Stands) → is_open_number z ≡ true → is_constant z ≡ true
number_constant (sort.OpenConstant c) e = refl
number_constant z e = cc

module _ (w : Standins) where
  range_form : (d : Bool) (n : ℕ) → IsStatementForm w (form.Range d n)
  range_form d n = record { held = refl; key = refl; call = refl; name = λ z. refl }

  plain_loop : IsPlainRow kind.For
  plain_loop = record { enters = λ xs s. refl; tells = λ h all xs n. refl; leaves = λ s. refl; finds = λ s. refl }

  -- ---- the form of a loop

  count_begun : (ps : Typeds TypeTree) → length (list_of (all_begun w false ps)) ≡ length (list_of ps)
  count_begun sort.none = refl
  count_begun (sort.more p ps) = ap suc (count_begun ps)
  count_begun (sort.skip ps) = ap suc (count_begun ps)

  form_same : (o : Option Part) → loop_form (new_part w o) ≡ loop_form o
  form_same None = refl
  form_same (Some (typed (form.Held kind.Range) i j l ps)) = refl
  form_same (Some (typed (form.Held kind.AssigningRange) i j l ps)) = ap (λ n. form.Range false (n - 1)) (count_begun ps)
  form_same (Some (typed (form.Held kind.DefiningRange) i j l ps)) = ap (λ n. form.Range true (n - 1)) (count_begun ps)
  form_same (Some (typed (form.Held k) i j l ps)) = refl
  form_same (Some (typed f i j l ps)) = value_form w (begun w false (typed f i j l ps)) (begun_plain w f i j l ps refl)

  -- ---- the value: from the rule that it fits

  module _ (rights : Rights) (i j : ℕ) (ts : List Part) (x : Part) (same : Targets rights ts ts) (rule : range_assigned rights i j ts x (range_types rights x) ≡ []) (fits : Fits w false (given (range_take ts x) x)) where
    gives : is_open_number (sort_of x) ≡ true → Gives w rights (number_target ts) x
    gives e = record { fits = subst (λ b. Fits w false (given (if b then take_of (number_target ts) else default) x)) e fits; rule = λ o. open_assigned rights i j ts ts x x same e rule }

    fits_default : is_open_number (sort_of x) ≡ false → Fits w false (given default x)
    fits_default e = subst (λ b. Fits w false (given (if b then take_of (number_target ts) else default) x)) e fits

    -- by right sides by which the type that a number takes is the same
    module _ (r : Rights) where
      constant_will : Fits w false (given default x) → is_constant (sort_of x) ≡ true → (o : Option OpenKind) → open_kind (sort_of x) ≡ o → Will w r x
      constant_will d c None e = will_default w r x (λ o. let never : false ≡ true = sym (ap is_some e) ∙ o in cc) d
      constant_will d c (Some k) e = will (variables.takes (default_type k) k e (default_suits r k) (λ n. let never : false ≡ true = sym n ∙ c in cc) (subst (λ o. Fits w false (defaulted o x)) e d))

      number_will : is_open_number (sort_of x) ≡ true → (o : Option TypeTree) → Keeps r rights (type_taken (takes (take_of o))) → Gives w rights o x → Will w r x
      number_will e None k g = constant_will g.fits (number_constant (sort_of x) e) (open_kind (sort_of x)) refl
      number_will e (Some t) k g = will_as w r t x (kept_suits w r rights t x k (assignable_suits w rights t x g.rule)) g.fits

      other_will : is_open_number (sort_of x) ≡ false → (c : Bool) → is_constant (sort_of x) ≡ c → Will w r x
      other_will n true c = constant_will (fits_default n) c (open_kind (sort_of x)) refl
      other_will n false c = will_default w r x (λ o. undefaulted_any rights r x (default_assigned rights i j ts ts x x same o c n rule)) (fits_default n)

      pub range_will : Keeps r rights (type_taken (takes (range_take ts x))) → Will w r x
      range_will keeps = by (is_open_number (sort_of x)) refl
        where
          by : (b : Bool) → is_open_number (sort_of x) ≡ b → Will w r x
          by true e = number_will e (number_target ts) (subst (λ b. Keeps r rights (type_taken (takes (if b then take_of (number_target ts) else default)))) e keeps) (gives e)
          by false e = other_will e (is_constant (sort_of x)) refl

    pub range_operand : IsValuePart w x → Operand rights (ranged_type ts x) x (begun w false x)
    range_operand v = by (is_open_number (sort_of x)) refl
      where
        by : (b : Bool) → is_open_number (sort_of x) ≡ b → Operand rights (if b then given_type (number_target ts) x else given_type None x) x (begun w false x)
        by true e = operand_given w rights (number_target ts) x v (gives e)
        by false e = operand_default w rights x v (fits_default e)

  -- it takes the same with variables in it
  closed_given : (k : Take) (z : Part) (t : TypeTree) → sort_of z ≡ sort.Value t → given k z ≡ z
  closed_given stay z t e = refl
  closed_given default z t e = ap (λ o. defaulted (open_kind o) z) e
  closed_given (as_type u) z t e = keeps_type u z (ap takes_type e)

  same_taken : (rights : Rights) (ts us : List Part) (x z : Part) (u : Option TypeTree) (a b : Stands) → Stood rights u a b → a ≡ sort_of x → b ≡ sort_of z → number_target us ≡ number_target ts
      → given (range_take us z) z ≡ given (range_take ts x) z
  same_taken rights ts us x z u a b (as_before v c) m n e =
      ap (λ q. given (if is_open_number q then take_of (number_target us) else default) z) (sym n ∙ m) ∙ ap (λ o. given (if is_open_number (sort_of x) then take_of o else default) z) e
  same_taken rights ts us x z u a b (in_place v t c) m n e = closed_given (range_take us z) z t (sym n) ∙ sym (closed_given (range_take ts x) z t (sym n))
  same_taken rights ts us x z u a b (early t c k f g) m n e = closed_given (range_take us z) z t (sym n) ∙ sym (closed_given (range_take ts x) z t (sym n))

  front_taken : (us : List Part) (k l : Take) (z : Part) (zs : Parts) → given k z ≡ given l z → all_given (rest (length us) ++ takes k ∷ []) (each us ++ Some z ∷ zs) ≡ all_given (rest (length us) ++ takes l ∷ []) (each us ++ Some z ∷ zs)
  front_taken [] k l z zs e = ap (λ y. Some y ∷ zs) e
  front_taken (u ∷ us) k l z zs e = ap (λ ys. Some u ∷ ys) (front_taken us k l z zs e)

  front_tagged : (xs : List Part) (ks : List Taking) (ys : Parts) → AllTagged (row (all_given (rest (length xs) ++ ks) (each xs ++ ys))) → AllTagged (row (all_given ks ys))
  front_tagged [] ks ys t = t
  front_tagged (x ∷ xs) ks ys t = front_tagged xs ks ys t.1

  -- ---- headers

  -- what is read of a header that goes over the value x, and is judged by these right sides
  pub record RangeRead (f g : Frame) (rights : Rights) (hd : Tree) (targets : List Part) (x : Part) : Type 0 where
    pub reads : Reads w f g value hd
    pub value : IsValuePart w x
    pub puts : All (Put w rests) targets
    pub kept : Targets rights targets (all_new w targets)

  pub record RangeHead (f : Frame) (hd : Tree) : Type 0 where
    pub goes : is_clause (kind_of hd) ≡ false
    pub still : rights_of (frame_in (reading f value hd)) ≡ rights_of f
    pub defines : Bool
    pub targets : List Part
    pub x : Part
    pub flat : loop_header (Some (tree_in (reading f value hd))) ≡ each targets ++ Some x ∷ []
    pub form : loop_form (Some (tree_in (reading f value hd))) ≡ form.Range defines (length targets)
    pub same : (rights : Rights) → Targets rights targets targets
    pub read : (g : Frame) (rights : Rights) (i j : ℕ) → FramesStand w f g → no_rule_fails (found_in (reading f value hd)) ≡ true → range_assigned rights i j targets x (range_types rights x) ≡ []
        → Fits w false (given (range_take targets x) x) → Keeps (rights_of f) rights (type_taken (takes (range_take targets x))) → targets_failing rights defines targets ≡ [] → All (Fits w false) targets
        → RangeRead f g rights hd targets x

  -- ---- the loop

  module _ (f g : Frame) (h : Hint) (i j : ℕ) (hd b : Tree) (head : RangeHead f hd) (sb : Stated w b) (st : FramesStand w f g) where
    abbrev ps : Trees
    ps = more hd (more b none)

    abbrev middle : Frame
    middle = frame_in (reading f value hd)

    abbrev b' : Part
    b' = tree_in (reading middle value b)

    abbrev ts : List Part
    ts = head.targets

    abbrev ys : Parts
    ys = each ts ++ Some head.x ∷ Some b' ∷ []

    range_old : Old w f h kind.For i j (more hd (more b none))
    range_old = record {
      parts = row_parts f ps;
      found = row_found f ps;
      behind = row_behind f ps;
      form = form.Range head.defines (length ts);
      laid = ys;
      is = any_row kind.For h ps plain_loop f [] [] ps;
      laid_is = ap (λ z. z ++ Some b' ∷ []) head.flat ∙ append_assoc (each ts) (Some head.x ∷ []) (Some b' ∷ []);
      form_is = head.form;
    }

    new_row : news w ys ≡ each (all_new w ts) ++ Some (begun w false head.x) ∷ Some (begun w false b') ∷ []
    new_row = news_two w (each ts) (Some head.x ∷ Some b' ∷ []) ∙ ap (λ z. z ++ Some (begun w false head.x) ∷ Some (begun w false b') ∷ []) (news_each w ts)

    split_new : {A : Type 0} (F : List Part → List Part → A) → split_at (length ts) F (news w ys) ≡ F (all_new w ts) (begun w false head.x ∷ begun w false b' ∷ [])
    split_new F =
        ap (split_at (length ts) F) new_row ∙ ap (λ n. split_at n F (each (all_new w ts) ++ each (begun w false head.x ∷ begun w false b' ∷ []))) (sym (length_new w ts))
        ∙ split_two F (all_new w ts) (begun w false head.x ∷ begun w false b' ∷ [])

    pub range_reads : no_rule_fails (found_in (reading f h (node kind.For i j (more hd (more b none))))) ≡ true → Fits w false (tree_in (reading f h (node kind.For i j (more hd (more b none)))))
        → Tagged (tree_in (reading f h (node kind.For i j (more hd (more b none))))) → Steady f h (node kind.For i j (more hd (more b none))) → Reads w f g h (node kind.For i j (more hd (more b none)))
    unfolding range_old
    range_reads good fits tags steady =
        let d = head.defines in
        let x = head.x in
        let n = length ts in
        let fm = form.Range d n in
        let k = range_take ts x in
        let ks : List Taking = rest n ++ takes k ∷ [] in
        let S = row_behind f ps in
        let R = rights_of S in
        let own = old_rules w f h kind.For i j ps refl range_old good in
        let taking_is : taking S kind.For fm ys ≡ ks = ap (λ t. rest n ++ t ∷ []) (operand_is ts x (Some b' ∷ [])) in
        let all = subst (λ z. AllFit w false (row (all_given z ys))) taking_is (old_fits w f h kind.For i j ps refl range_old own.1 fits) in
        let tagged = front_tagged ts (takes k ∷ []) (Some x ∷ Some b' ∷ []) (subst (λ z. AllTagged (row (all_given z ys))) taking_is (old_tagged w f h kind.For i j ps refl range_old own.1 tags).1) in
        let two = fits_front w ts (takes k ∷ []) (Some x ∷ Some b' ∷ []) all in
        let fails : range_failing R i j d ts (x ∷ b' ∷ []) ≡ [] =
        sym (split_two (range_failing R i j d) ts (x ∷ b' ∷ [])) ∙ rule_of w f h kind.For i j ps refl S fm ys refl own.1 in
        let both = both_none (targets_failing R d ts) (range_assigned R i j ts x (range_types R x)) fails in
        let found = all_of (found_in (reading f value hd)) (row_found middle (more b none)) own.0 in
        let takes_is : range_type (tree_in (reading f value hd)) ≡ type_taken (takes k) =
        ap (λ z. number_type z (loop_header (Some (tree_in (reading f value hd))))) head.form ∙ ap (number_type fm) head.flat ∙ ap type_taken (operand_is ts x []) in
        let steady_head = subst (λ b. KeepsIf (not b) (rights_of middle) R (range_type (tree_in (reading f value hd)))) head.goes steady.0 in
        let keeps = subst (λ q. Keeps q R (type_taken (takes k))) head.still (subst (Keeps (rights_of middle) R) takes_is steady_head) in
        let hr = head.read g R i j st found.0 both.1 two.1.0 keeps both.0 two.0 in
        let r = parts_read w f g ps ((λ g st good. (head.read g R i j st good both.1 two.1.0 keeps both.0 two.0).reads), ((λ g st good. sb.reads middle g value st good two.1.1.0 tagged.1.0 steady.1.1.0), tt)) st own.0 in
        let T = row_behind g (all_with_variables w ps) in
        let op = range_operand R i j ts x (head.same R) both.1 two.1.0 hr.value in
        let us = all_new w ts in
        let z = begun w false x in
        let target_now : number_target us ≡ number_target ts = target_kept R ts us hr.kept in
        let now : range_failing R i j d us (z ∷ begun w false b' ∷ []) ≡ [] = (range_kept R i j d ts us x z (b' ∷ []) (begun w false b' ∷ []) hr.kept op fails).0 in
        let taking_now : taking T kind.For fm (news w ys) ≡ rest (length us) ++ takes (range_take us z) ∷ [] =
        ap (λ m. rest n ++ operand_takes n m ∷ []) new_row ∙ ap (λ m. rest m ++ operand_takes m (each us ++ Some z ∷ Some (begun w false b') ∷ []) ∷ []) (sym (length_new w ts))
        ∙ ap (λ t. rest (length us) ++ t ∷ []) (operand_is us z (Some (begun w false b') ∷ [])) in
        let given_now : all_given (taking T kind.For fm (news w ys)) (news w ys) ≡ all_given ks (news w ys) =
        ap (λ q. all_given q (news w ys)) taking_now ∙ ap (all_given (rest (length us) ++ takes (range_take us z) ∷ [])) new_row
        ∙ front_taken us (range_take us z) k z (Some (begun w false b') ∷ []) (same_taken R ts us x z (ranged_type ts x) (sort_of x) (sort_of z) op.stands refl refl target_now)
        ∙ ap (λ m. all_given (rest m ++ takes k ∷ []) (each us ++ Some z ∷ Some (begun w false b') ∷ [])) (length_new w ts) ∙ ap (all_given ks) (sym new_row) in
        let hd' = tree_in (reading f value hd) in
        node_reads w f g h kind.For i j ps range_old refl refl own.1
        (record {
          parts = row_parts g (all_with_variables w ps);
          found = row_found g (all_with_variables w ps);
          behind = T;
          is = any_row kind.For h (all_with_variables w ps) plain_loop g [] [] (all_with_variables w ps);
          laid_is = ap for_parts r.parts ∙ ap (λ z. z ++ Some (begun w false b') ∷ []) (loop_new w (Some hd') ∙ ap (news w) head.flat ∙ news_two w (each ts) (Some x ∷ []))
              ∙ append_assoc (news w (each ts)) (Some z ∷ []) (Some (begun w false b') ∷ []) ∙ sym (news_two w (each ts) (Some x ∷ Some b' ∷ []));
          form_is = ap first_loop_form r.parts ∙ form_same (Some hd') ∙ head.form;
          good = r.good;
          rule = own_none w g h kind.For i j (all_with_variables w ps) refl T fm (news w ys) (ap (λ q. split_at n (range_failing q i j d) (news w ys)) r.frame.rights ∙ split_new (range_failing R i j d) ∙ now);
          node = ap (made fm i j sort.Nothing (news w ys)) given_now
              ∙ node_put w fm i j ks ys (range_form d n) (puts_rest w ts (takes k ∷ []) (Some x ∷ Some b' ∷ []) hr.puts (value_put w k x hr.value.ready two.1.0, (statement_put w b' (reading_stated middle value b sb.kind) two.1.1.0, tt)))
              ∙ ap (λ q. begun w false (made fm i j sort.Nothing ys (all_given q ys))) (sym taking_is);
          frame = back_stands w f g S T st r.frame;
          calm = tt;
        })
