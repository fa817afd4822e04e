-- Calls as they are laid out: what is made over a callee and arguments with variables in them is what was made, with the variables in it.
use Rattle.std.proofs.Common.{◌≡◌, ◌∙◌, ℕ, Bool, true, false, List, [], ◌∷◌, Option, Some, None, refl, sym, ap, subst}
use Rattle.std.specs.Prelude.{◌&&◌, ◌||◌, not, if◌then◌else◌, is_some}
use Rattle.std.specs.List.{list_any}
use Rattle.go_constants.specs.declared.values.Const.{Const}
use Rattle.go_constants.specs.declared.values.Const.TheVariants as const
use Rattle.go_grammar.specs.declared.kind.Kind.TheVariants as kind
use Rattle.go_tree.specs.declared.object.Predeclared.{Predeclared}
use Rattle.go_tree.specs.declared.object.Predeclared.TheVariants as predeclared
use Rattle.go_ints.specs.declared.operators.Op.TheVariants as op
use Rattle.go_types.specs.Trees.{TypeTree, TypeRow}
use Rattle.go_types.specs.Trees as types
use Rattle.go_types.specs.Relations.{Rights}
use Rattle.go_types_relations.specs.Tests.{underlying_of}
use Rattle.go_typed.specs.Trees.{Sort, typed, Typeds, sort_of, label_of, row}
use Rattle.go_typed.specs.Trees as sort
use Rattle.go_exprs_rules.specs.Calls.{keeps_value, becomes_text, constant_or_value, text_of, conversion_sort, length_value, constant_length, extreme_in, extreme_value, meeting, results_of, called, call_failing, call_sort}
use Rattle.go_exprs_rules.specs.Calls.{call_takes, builtin_sort}
use Rattle.go_exprs_rules.specs.Indexes.{value_or_unknown}
use Rattle.go_exprs_rules.specs.Operators.{Common, in_type, in_kind}
use Rattle.go_exprs_rules.specs.Scopes.{Scope, Hint}
use Rattle.go_exprs_rules.specs.Settling.{Part}
use Rattle.go_exprs_rules.specs.Sorts.{Stands, is_constant, is_open, is_unknown, constant_of}
use Rattle.go_exprs_rules.specs.Tables.{Parts, present, own_faults, built_on, all_given, is_judged, is_lost, is_held, is_variable_name, callee_form, label}
use Rattle.clone_window.specs.Masses.{is_inside}
use Rattle.clone_window.specs.Masses as masses
use Rattle.go_exprs_variables.specs.Stood.{Stood, as_before}
use Rattle.go_exprs_variables.specs.Variables.{Standins, is_unfolded, any_variable, begun, put, Fits, AllFit, WillFit}
use Rattle.go_exprs_variables.specs.Variables as variables
use Rattle.go_exprs_variables.proofs.Assembly.{Become, one}
use Rattle.go_exprs_variables.proofs.Lists.{each, present_each, All, all_known, all_new, AllPass, all_become, pass_known}
use Rattle.go_exprs_variables.proofs.NodeSteps.{node_step, parts_fit, rule_of, stands_made}
use Rattle.go_exprs_variables.proofs.Steps.{not_inside}
use Rattle.go_exprs_variables.proofs.Trees.{is_key}
use Rattle.go_exprs_variables.proofs.Waits.{judged, known_first, plain_tests}

-- ---- calls that aren't constant have their types

module _ (rights : Rights) where
  conversion_closed : (t : TypeTree) (a : Stands) → is_open (conversion_sort rights t a) ≡ false
  conversion_closed t a = by_tests (constant_of a) (keeps_value rights t (constant_of a)) (becomes_text rights t (constant_of a))
    where
      by_tests : (v : Option Const) (b c : Bool) → is_open (if b then constant_or_value t v else (if c then sort.Constant t (const.Text (text_of v)) else sort.Value t)) ≡ false
      by_tests None true c = refl
      by_tests (Some v) true c = refl
      by_tests v false true = refl
      by_tests v false false = refl

  length_closed : (o : Option ℕ) → is_open (length_value o) ≡ false
  length_closed None = refl
  length_closed (Some n) = refl

  value_closed : (o : Option TypeTree) → is_open (value_or_unknown o) ≡ false
  value_closed None = refl
  value_closed (Some t) = refl

  extreme_closed : (m : Option Common) (v : Option Const) → is_constant (extreme_in m v) ≡ false → is_open (extreme_in m v) ≡ false
  extreme_closed None v e = refl
  extreme_closed (Some c) None e = refl
  extreme_closed (Some (in_type t)) (Some v) e = refl
  extreme_closed (Some (in_kind k)) (Some v) e = cc

  builtin_closed : (p : Predeclared) (xs : List Part) → is_constant (builtin_sort rights p xs) ≡ false → is_open (builtin_sort rights p xs) ≡ false
  builtin_closed predeclared.Len [] e = refl
  builtin_closed predeclared.Len (x ∷ xs) e = length_closed (constant_length rights x)
  builtin_closed predeclared.Cap [] e = refl
  builtin_closed predeclared.Cap (x ∷ xs) e = length_closed (constant_length rights x)
  builtin_closed predeclared.Make [] e = refl
  builtin_closed predeclared.Make (x ∷ xs) e = value_closed _
  builtin_closed predeclared.Append [] e = refl
  builtin_closed predeclared.Append (x ∷ xs) e = value_closed _
  builtin_closed predeclared.Min xs e = extreme_closed (meeting rights xs) (extreme_value op.Min xs) e
  builtin_closed predeclared.Max xs e = extreme_closed (meeting rights xs) (extreme_value op.Max xs) e
  builtin_closed predeclared.Copy xs e = refl
  builtin_closed predeclared.Panic xs e = refl
  builtin_closed p xs e = refl

  called_closed : (t : TypeTree) (rs : TypeRow) → is_open (called t rs) ≡ false
  called_closed t types.none = refl
  called_closed t (types.more r types.none) = refl
  called_closed t (types.more r (types.more q qs)) = refl

  call_closed : (z : Stands) (xs : List Part) → is_constant (call_sort rights z xs) ≡ false → is_open (call_sort rights z xs) ≡ false
  call_closed (sort.IsType t) [] e = refl
  call_closed (sort.IsType t) (x ∷ xs) e = conversion_closed t (sort_of x)
  call_closed (sort.Builtin p) xs e = builtin_closed p xs e
  call_closed sort.Println xs e = refl
  call_closed (sort.Value t) xs e = called_closed t (results_of (underlying_of rights t))
  call_closed (sort.Constant t c) xs e = called_closed t (results_of (underlying_of rights t))
  call_closed z xs e = refl

plain_form : (z : Stands) → (is_key (callee_form z) ≡ false) × (is_held (callee_form z) ≡ false) × ((x : Stands) → is_variable_name (callee_form z) x ≡ false)
plain_form (sort.IsType t) = (refl, refl, λ x. refl)
plain_form z = (refl, refl, λ x. refl)

module _ (w : Standins) where
  -- A callee f, and g in its place with variables in it.
  pub record Callee (f g : Part) : Type 0 where
    pub known : is_unknown (sort_of g) ≡ false
    pub puts : g ≡ put w false f
    pub calls : (label_of g).calls ≡ (label_of f).calls
    pub form : callee_form (sort_of g) ≡ callee_form (sort_of f)

  module _ (rights : Rights) (i j : ℕ) where
    -- No rule of the call fails over the arguments with variables in them, and it stands for what it stood for.
    pub record CallKept (a b : Stands) (xs : List Part) : Type 0 where
      pub failing : call_failing rights i j b (all_new w xs) ≡ []
      pub sort : call_sort rights b (all_new w xs) ≡ call_sort rights a xs
      pub takes : call_takes rights b (all_new w xs) ≡ call_takes rights a xs

  module _ (s : Scope) (h : Hint) (i j : ℕ) where
    abbrev pub laid : Part → List Part → Parts
    laid f xs = Some f ∷ each xs

    -- a call that isn't constant, in which no rule fails, and that fits
    abbrev pub AtCall : Part → List Part → Type 0
    AtCall f xs = (own_faults s kind.Call h i j (laid f xs) ≡ []) × (masses.is_constant (sort_of (built_on s kind.Call h i j (laid f xs))) ≡ false) × WillFit s.rights w false (built_on s kind.Call h i j (laid f xs))

    -- the callee and the arguments xs, which take what arguments ys take
    abbrev pub call_row : Part → List Part → List Part → Typeds TypeTree
    call_row f xs ys = sort.more f (row (all_given (call_takes s.rights (sort_of f) ys) (each xs)))

    -- what is known of its parts
    pub record CallFacts (f : Part) (xs : List Part) : Type 0 where
      pub judged : is_judged (laid f xs) ≡ true
      pub callee : is_unknown (sort_of f) ≡ false
      pub arguments : All (λ x. is_unknown (sort_of x) ≡ false) xs
      pub rule : call_failing s.rights i j (sort_of f) xs ≡ []
      pub plain : is_constant (call_sort s.rights (sort_of f) xs) ≡ false
      pub known : is_unknown (call_sort s.rights (sort_of f) xs) ≡ false
      pub folded : (is_unfolded (callee_form (sort_of f)) (call_sort s.rights (sort_of f) xs) (call_row f xs xs) && any_variable w false (call_row f xs xs)) ≡ false
      pub fits : Fits w false f
      pub fit : AllFit w false (row (all_given (call_takes s.rights (sort_of f) xs) (each xs)))

    neither : (b c : Bool) → (b || c) ≡ false → (b ≡ false) × (c ≡ false)
    neither true c e = cc
    neither false c e = (refl, e)

    closed_fit : (x : Part) → is_open (sort_of x) ≡ false → WillFit s.rights w false x → Fits w false x
    closed_fit x e (variables.has o fits) = fits
    closed_fit x e (variables.takes t k o m r fits) = let both : true ≡ false = sym (ap is_some o) ∙ e in cc

    pub call_facts : (f : Part) (xs : List Part) → AtCall f xs → CallFacts f xs
    call_facts f xs at =
        let js = judged w s h i j kind.Call (laid f xs) refl at.2 in
        let first = known_first f (each xs) js in
        let same : present (each xs) ≡ xs = present_each xs in
        let is = stands_made s kind.Call h i j (laid f xs) js at.0 in
        let plain : is_constant (call_sort s.rights (sort_of f) (present (each xs))) ≡ false = plain_tests (call_sort s.rights (sort_of f) (present (each xs))) (ap (λ z. masses.is_constant (sort_of z)) (sym is) ∙ at.1) in
        let closed = call_closed s.rights (sort_of f) (present (each xs)) plain in
        let node_fits = subst (WillFit s.rights w false) is at.2 in
        let l = label (callee_form (sort_of f)) (call_sort s.rights (sort_of f) (present (each xs))) (laid f xs) in
        let all = parts_fit s.rights w false (callee_form (sort_of f)) i j l (call_row f xs (present (each xs))) plain closed node_fits in
        let top = closed_fit (typed (callee_form (sort_of f)) i j l (call_row f xs (present (each xs)))) closed node_fits in
        let unfolded = is_unfolded (callee_form (sort_of f)) (call_sort s.rights (sort_of f) (present (each xs))) (call_row f xs (present (each xs))) in
        let outside = not_inside false (callee_form (sort_of f)) l (ap (λ z. masses.is_constant (sort_of z)) (sym is) ∙ at.1) in
        let fine = neither (is_unknown (call_sort s.rights (sort_of f) (present (each xs)))) (unfolded && any_variable w (is_inside false (callee_form (sort_of f)) l) (call_row f xs (present (each xs)))) top.1 in
        record {
          judged = js;
          callee = first.0;
          arguments = all_known xs first.1;
          rule = sym (ap (call_failing s.rights i j (sort_of f)) same) ∙ rule_of s kind.Call h i j (laid f xs) js at.0;
          plain = sym (ap (λ ys. is_constant (call_sort s.rights (sort_of f) ys)) same) ∙ plain;
          known = sym (ap (λ ys. is_unknown (call_sort s.rights (sort_of f) ys)) same) ∙ fine.0;
          folded = sym (ap (λ ys. is_unfolded (callee_form (sort_of f)) (call_sort s.rights (sort_of f) ys) (call_row f xs ys) && any_variable w false (call_row f xs ys)) same)
              ∙ sym (ap (λ b. unfolded && any_variable w b (call_row f xs (present (each xs)))) outside) ∙ fine.1;
          fits = all.0;
          fit = subst (λ ys. AllFit w false (row (all_given (call_takes s.rights (sort_of f) ys) (each xs)))) same all.1;
        }

    -- The step at a call.
    pub call_node : (f g : Part) (xs : List Part) → own_faults s kind.Call h i j (laid f xs) ≡ [] → CallFacts f xs → Callee f g → AllPass w s.rights (call_takes s.rights (sort_of f) xs) xs → CallKept s.rights i j (sort_of f) (sort_of g) xs
        → (own_faults s kind.Call h i j (laid g (all_new w xs)) ≡ []) × (built_on s kind.Call h i j (laid g (all_new w xs)) ≡ begun w false (built_on s kind.Call h i j (laid f xs)))
    call_node f g xs old facts callee pass kept =
        let news = all_new w xs in
        let ks = call_takes s.rights (sort_of f) xs in
        let before = present_each xs in
        let after = present_each news in
        let judged_now : is_judged (laid g news) ≡ true = ap (λ b. not (b || list_any is_lost (each news))) callee.known ∙ ap not (pass_known w s.rights ks xs pass) in
        let sort_old : call_sort s.rights (sort_of f) (present (each xs)) ≡ call_sort s.rights (sort_of f) xs = ap (call_sort s.rights (sort_of f)) before in
        let sort_new : call_sort s.rights (sort_of g) (present (each news)) ≡ call_sort s.rights (sort_of f) xs = ap (call_sort s.rights (sort_of g)) after ∙ kept.sort in
        let same : call_sort s.rights (sort_of g) (present (each news)) ≡ call_sort s.rights (sort_of f) (present (each xs)) = sort_new ∙ sym sort_old in
        let takes_old : call_takes s.rights (sort_of f) (present (each xs)) ≡ ks = ap (call_takes s.rights (sort_of f)) before in
        let takes_new : call_takes s.rights (sort_of g) (present (each news)) ≡ ks = ap (call_takes s.rights (sort_of g)) after ∙ kept.takes in
        let form_old = plain_form (sort_of f) in
        let parts : Become s.rights w false None (laid f xs) (Some f ∷ all_given ks (each xs)) (laid g news) (Some g ∷ all_given ks (each news)) =
        one f f g g (each xs) (all_given ks (each xs)) (each news) (all_given ks (each news)) callee.puts callee.calls refl (all_become w s.rights ks xs pass) in
        let plain : is_constant (call_sort s.rights (sort_of f) (present (each xs))) ≡ false = ap is_constant sort_old ∙ facts.plain in
        let closed = call_closed s.rights (sort_of f) (present (each xs)) plain in
        node_step s kind.Call h i j w false None (laid f xs) (laid g news) facts.judged judged_now refl old plain
        (record { form = callee.form; key = form_old.0; held = form_old.1; name = form_old.2 })
        (record {
          failing = ap (call_failing s.rights i j (sort_of g)) after ∙ kept.failing;
          stands = subst (Stood s.rights None (call_sort s.rights (sort_of f) (present (each xs)))) (sym same) (as_before None (call_sort s.rights (sort_of f) (present (each xs))));
          wants = None;
          wanted = sym (ap (λ b. if b then variables.all_wanted w false (call_row f xs (present (each xs))) else None) closed);
          sort = same;
          parts = subst (λ q. Become s.rights w false None (laid f xs) (Some f ∷ all_given q (each xs)) (laid g news) (Some g ∷ all_given (call_takes s.rights (sort_of g) (present (each news))) (each news))) (sym takes_old)
              (subst (λ q. Become s.rights w false None (laid f xs) (Some f ∷ all_given ks (each xs)) (laid g news) (Some g ∷ all_given q (each news))) (sym takes_new) parts);
        })
