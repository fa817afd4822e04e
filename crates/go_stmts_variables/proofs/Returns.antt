-- Return statements with variables in them.
use Rattle.std.proofs.Common.{◌≡◌, ◌∙◌, ℕ, Bool, true, false, List, [], ◌∷◌, ◌++◌, length, map, Option, Some, None, refl, sym, ap, subst, append-nil, suc, pred, arith}
use Rattle.std.proofs.lemmas.Bool.Decides.{nat_tests}
use Rattle.std.specs.Prelude.{◌==◌, if◌then◌else◌}
use Rattle.go_grammar.specs.declared.kind.Kind.TheVariants as kind
use Rattle.go_grammar.specs.declared.kind.Place.{Place}
use Rattle.go_grammar.specs.Trees.{Trees, node, none, more, skip}
use Rattle.go_types.specs.Trees.{TypeTree}
use Rattle.go_types.specs.Relations.{Rights}
use Rattle.go_typed.specs.declared.form.Form.TheVariants as form
use Rattle.go_typed.specs.Trees.{sort_of, row}
use Rattle.go_typed.specs.Trees as sort
use Rattle.go_exprs_rules.specs.Scopes.{Hint, several}
use Rattle.go_exprs_rules.specs.Settling.{Part, as_type, given, defaulted}
use Rattle.go_exprs_rules.specs.Sorts.{Stands, is_open, takes_type, open_kind}
use Rattle.go_exprs_rules.specs.Tables.{Parts, present, made}
use Rattle.go_stmts_defs.specs.Assigning.{Wanted, Taking, takes, stands, called_results, whole_results, all_unassigned, assignment_by, assignment_failing, values_take}
use Rattle.go_stmts_defs.specs.Frames.{Frame, rights_of}
use Rattle.go_stmts_defs.specs.Laying.{without_absent}
use Rattle.go_stmts_defs.specs.Reading.{list_node, holdings, all_held_faults, reading}
use Rattle.go_stmts_defs.specs.Rules.{returned, all_given, taking}
use Rattle.go_exprs_variables.specs.Variables.{Standins, all_with_variables, AllProper, begun, Fits, AllFit, no_rule_fails, ExpressionsTyped}
use Rattle.go_exprs_variables.proofs.Public.{all_new, each, keeps_type, length_new, news, news_each, present_each}
use Rattle.go_stmts_variables.specs.Frames.{FramesStand}
use Rattle.go_stmts_variables.specs.Statements.{tree_in, found_in}
use Rattle.go_stmts_variables.proofs.Expressions.{all_ready}
use Rattle.go_stmts_variables.proofs.Frames.{back_stands}
use Rattle.go_stmts_variables.proofs.Lists.{AreExpressions, expression_operands, list_parts, list_values, list_reads, all_present}
use Rattle.go_stmts_variables.proofs.Nodes.{Reads, Old, old_rules, old_fits, rule_of, own_none, node_reads, NamesKnown, judged}
use Rattle.go_stmts_variables.proofs.Puts.{AllTake, IsStatementForm, node_put, fits_put}
use Rattle.go_stmts_variables.proofs.Values.{counted, values_kept}
use Rattle.go_stmts_variables.proofs.Wills.{take_of, AllGives, all_will, all_operands, assignment_gives}

pub length_mapped : {A B : Type 0} (f : A → B) (xs : List A) → length (map f xs) ≡ length xs
length_mapped f [] = refl
length_mapped f (x ∷ xs) = ap suc (length_mapped f xs)

-- where nothing is told of parts, nothing is asked of them
pub takes_known : (w : Standins) (ks : List Taking) (ys : Parts) → AllTake w ks → NamesKnown w ks ys
takes_known w ks [] t = tt
takes_known w [] (y ∷ ys) t = tt
takes_known w (k ∷ ks) (None ∷ ys) t = takes_known w ks ys (behind k ks t)
  where
    behind : (k : Taking) (ks : List Taking) → AllTake w (k ∷ ks) → AllTake w ks
    behind (takes k) ks t = t
    behind (stands z) ks t = elim t [ ]
takes_known w (takes k ∷ ks) (Some y ∷ ys) t = takes_known w ks ys t
takes_known w (stands z ∷ ks) (Some y ∷ ys) t = elim t [ ]

module _ (w : Standins) where
  mapped_take : (ts : List TypeTree) → AllTake w (map (λ t. takes (as_type t)) ts)
  mapped_take [] = tt
  mapped_take (t ∷ ts) = mapped_take ts

  returned_take : (ts : List TypeTree) (xs : List Part) → AllTake w (returned ts xs)
  returned_take ts xs = by (length ts == length xs)
    where
      by : (b : Bool) → AllTake w (if b then map (λ t. takes (as_type t)) ts else [])
      by true = mapped_take ts
      by false = tt

  -- ---- what returned values take

  abbrev wanted_of : List TypeTree → Wanted
  wanted_of ts = map (λ t. Some t) ts

  equal_lengths : (m n : ℕ) → (m == n) ≡ true → m ≡ n
  equal_lengths m n e = grind (arith, nat_tests, e)

  as_values : (ts : List TypeTree) (xs : List Part) → length ts ≡ length xs → map (λ t. takes (as_type t)) ts ≡ values_take (wanted_of ts) xs
  as_values [] [] e = refl
  as_values [] (x ∷ xs) e = cc
  as_values (t ∷ ts) [] e = cc
  as_values (t ∷ ts) (x ∷ xs) e = ap (λ ks. takes (as_type t) ∷ ks) (as_values ts xs (ap pred e))

  module _ (rights : Rights) where
    call_closed : {X : Type 0} (z : Stands) (rs : List TypeTree) → called_results rights z ≡ Some rs → is_open z ≡ true → X
    call_closed (sort.Results t) rs e o = cc
    call_closed z rs e o = cc

    call_takes_none : (z : Stands) (rs : List TypeTree) → called_results rights z ≡ Some rs → takes_type z ≡ false
    call_takes_none (sort.Results t) rs e = refl
    call_takes_none z rs e = cc

    no_kind : (z : Stands) (rs : List TypeTree) → called_results rights z ≡ Some rs → open_kind z ≡ None
    no_kind (sort.Results t) rs e = refl
    no_kind z rs e = cc

    closed_fits : (o : Option TypeTree) (x : Part) (rs : List TypeTree) → called_results rights (sort_of x) ≡ Some rs → Fits w false x → Fits w false (given (take_of o) x)
    closed_fits (Some t) x rs e fits = subst (Fits w false) (sym (keeps_type t x (call_takes_none (sort_of x) rs e))) fits
    closed_fits None x rs e fits = subst (Fits w false) (sym (ap (λ k. defaulted k x) (no_kind (sort_of x) rs e))) fits

    -- one call whose results are returned
    call_gives : (ts : Wanted) (xs : List Part) (rs : List TypeTree) → whole_results rights xs ≡ Some rs → AllFit w false (row (each xs)) → AllGives w rights ts xs
    call_gives ts [] rs e fits = tt
    call_gives ts (x ∷ y ∷ xs) rs e fits = cc
    call_gives [] (x ∷ []) rs e fits = (record { fits = closed_fits None x rs e fits.0; rule = λ o. call_closed (sort_of x) rs e o }, tt)
    call_gives (t ∷ ts) (x ∷ []) rs e fits = (record { fits = closed_fits t x rs e fits.0; rule = λ o. call_closed (sort_of x) rs e o }, tt)

    by_lengths : (i j : ℕ) (ts : List TypeTree) (xs : List Part) (b : Bool) → (length ts == length xs) ≡ b → assignment_failing rights i j (wanted_of ts) xs ≡ []
        → AllFit w false (row (all_given (if b then map (λ t. takes (as_type t)) ts else []) (each xs)))
        → AllGives w rights (wanted_of ts) xs
    by_lengths i j ts xs true m e fits = assignment_gives w rights i j (wanted_of ts) xs e (subst (λ ks. AllFit w false (row (all_given ks (each xs)))) (as_values ts xs (equal_lengths (length ts) (length xs) m)) fits)
    by_lengths i j ts xs false m e fits = by_results (whole_results rights xs) refl
      where
        by_results : (rs : Option (List TypeTree)) → whole_results rights xs ≡ rs → AllGives w rights (wanted_of ts) xs
        by_results (Some rs) n = call_gives (wanted_of ts) xs rs n fits
        by_results None n =
            let c = counted (length (wanted_of ts) == length xs) (all_unassigned rights (wanted_of ts) xs) i j (sym (ap (assignment_by rights i j (wanted_of ts) xs) n) ∙ e) in
            let never : false ≡ true = sym m ∙ ap (λ n. n == length xs) (sym (length_mapped (λ t. Some t) ts)) ∙ c.0 in cc

    pub returned_gives : (i j : ℕ) (ts : List TypeTree) (xs : List Part) → assignment_failing rights i j (wanted_of ts) xs ≡ [] → AllFit w false (row (all_given (returned ts xs) (each xs))) → AllGives w rights (wanted_of ts) xs
    returned_gives i j ts xs e fits = by_lengths i j ts xs (length ts == length xs) refl e fits

  -- ---- the statement

  return_form : IsStatementForm w form.Return
  return_form = record { held = refl; key = refl; call = refl; name = λ z. refl }

  module _ (f g : Frame) (h : Hint) (i j a b : ℕ) (p : Place) (ps : Trees) (e : AreExpressions p ps) (st : FramesStand w f g) where
    abbrev new : Trees
    new = all_with_variables w ps

    abbrev vs : List Part
    vs = list_values w f several ps

    returned_old : Old w f h kind.Return i j (more (node kind.ExpressionList a b ps) none)
    returned_old = record {
      parts = Some (list_node f kind.ExpressionList a b (holdings f kind.ExpressionList several ps [] ps)) ∷ [];
      found = all_held_faults f kind.ExpressionList several ps [] ps;
      behind = f;
      form = form.Return;
      laid = each vs;
      is = refl;
      laid_is = ap (λ z. without_absent (z ++ [])) (list_parts w f several ps (expression_operands p ps e)) ∙ ap without_absent (append-nil (each vs)) ∙ all_present vs;
      form_is = refl;
    }

    taking_is : taking f kind.Return form.Return (each vs) ≡ returned f.results vs
    taking_is = ap (returned f.results) (present_each vs)

    new_present : present (news w (each vs)) ≡ all_new w vs
    new_present = ap present (news_each w vs) ∙ present_each (all_new w vs)

    new_taking : taking g kind.Return form.Return (news w (each vs)) ≡ returned f.results vs
    new_taking = ap (returned g.results) new_present ∙ ap (λ ts. returned ts (all_new w vs)) st.results ∙ ap (λ n. if length f.results == n then map (λ t. takes (as_type t)) f.results else []) (length_new w vs)

    pub list_returned : ExpressionsTyped → AllProper w ps → no_rule_fails (found_in (reading f h (node kind.Return i j (more (node kind.ExpressionList a b ps) none)))) ≡ true
        → Fits w false (tree_in (reading f h (node kind.Return i j (more (node kind.ExpressionList a b ps) none)))) → Reads w f g h (node kind.Return i j (more (node kind.ExpressionList a b ps) none))
    unfolding returned_old
    list_returned law proper good fits =
        let rules = old_rules w f h kind.Return i j (more (node kind.ExpressionList a b ps) none) refl returned_old good in
        let all = subst (λ ks. AllFit w false (row (all_given ks (each vs)))) taking_is (old_fits w f h kind.Return i j (more (node kind.ExpressionList a b ps) none) refl returned_old rules.1 fits) in
        let known = judged w (returned f.results vs) (each vs) (takes_known w (returned f.results vs) (each vs) (returned_take f.results vs)) all in
        let fails : assignment_failing (rights_of f) i j (wanted_of f.results) vs ≡ [] =
        sym (ap (assignment_failing (rights_of f) i j (wanted_of f.results)) (present_each vs)) ∙ rule_of w f h kind.Return i j (more (node kind.ExpressionList a b ps) none) refl f form.Return (each vs) known rules.1 in
        let gives = returned_gives (rights_of f) i j f.results vs fails all in
        let r = list_reads w law f g several p ps e refl st proper rules.0 (all_will w (rights_of f) (wanted_of f.results) vs gives) in
        let now : assignment_failing (rights_of g) i j (wanted_of g.results) (present (news w (each vs))) ≡ [] =
        ap (assignment_failing (rights_of g) i j (wanted_of g.results)) new_present ∙ ap (λ q. assignment_failing q i j (wanted_of g.results) (all_new w vs)) st.rights
        ∙ ap (λ q. assignment_failing (rights_of f) i j (wanted_of q) (all_new w vs)) st.results
        ∙ values_kept (rights_of f) i j (wanted_of f.results) vs (all_new w vs) (all_operands w (rights_of f) (wanted_of f.results) vs r.values gives) fails in
        node_reads w f g h kind.Return i j (more (node kind.ExpressionList a b ps) none) returned_old refl refl rules.1
        (record {
          parts = Some (list_node g kind.ExpressionList a b (holdings g kind.ExpressionList several new [] new)) ∷ [];
          found = all_held_faults g kind.ExpressionList several new [] new;
          behind = g;
          is = refl;
          laid_is = ap (λ z. without_absent (z ++ [])) r.parts ∙ ap without_absent (append-nil (each (all_new w vs))) ∙ all_present (all_new w vs) ∙ sym (news_each w vs);
          form_is = refl;
          good = r.good;
          rule = own_none w g h kind.Return i j (more (node kind.ExpressionList a b new) none) refl g form.Return (news w (each vs)) now;
          node = ap (λ ks. made form.Return i j sort.Nothing (news w (each vs)) (all_given ks (news w (each vs)))) new_taking
              ∙ node_put w form.Return i j (returned f.results vs) (each vs) return_form (fits_put w (returned f.results vs) vs (returned_take f.results vs) (all_ready w vs r.values) all)
              ∙ ap (λ ks. begun w false (made form.Return i j sort.Nothing (each vs) (all_given ks (each vs)))) (sym taking_is);
          frame = back_stands w f g f g st st;
          calm = tt;
        })

  module _ (f g : Frame) (h : Hint) (i j : ℕ) (st : FramesStand w f g) where
    bare_old : Old w f h kind.Return i j (skip none)
    bare_old = record { parts = None ∷ []; found = []; behind = f; form = form.Return; laid = []; is = refl; laid_is = refl; form_is = refl }

    bare_taking : taking g kind.Return form.Return [] ≡ returned f.results []
    bare_taking = ap (λ ts. returned ts []) st.results

    pub bare_returned : no_rule_fails (found_in (reading f h (node kind.Return i j (skip none)))) ≡ true → Reads w f g h (node kind.Return i j (skip none))
    unfolding bare_old
    bare_returned good =
        let rules = old_rules w f h kind.Return i j (skip none) refl bare_old good in
        node_reads w f g h kind.Return i j (skip none) bare_old refl refl rules.1
        (record {
          parts = None ∷ [];
          found = [];
          behind = g;
          is = refl;
          laid_is = refl;
          form_is = refl;
          good = refl;
          rule = ap (λ q. assignment_failing q i j (wanted_of g.results) []) st.rights ∙ ap (λ q. assignment_failing (rights_of f) i j (wanted_of q) []) st.results ∙ rules.1;
          node = ap (λ ks. made form.Return i j sort.Nothing [] (all_given ks [])) bare_taking ∙ node_put w form.Return i j (returned f.results []) [] return_form tt;
          frame = back_stands w f g f g st st;
          calm = tt;
        })
