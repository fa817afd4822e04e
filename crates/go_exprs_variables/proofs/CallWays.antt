-- Calls: from the call that fits to its callee and its arguments, and the step.
use Rattle.std.proofs.Common.{◌≡◌, ◌∙◌, ◌⊎◌, inl, inr, ℕ, Bool, true, false, List, [], ◌∷◌, Some, None, refl, sym, ap, subst}
use Rattle.std.specs.Prelude.{◌&&◌, ◌||◌, not, if◌then◌else◌}
use Rattle.go_grammar.specs.declared.kind.Category.{Category}
use Rattle.go_grammar.specs.declared.kind.Category.TheVariants as category
use Rattle.go_grammar.specs.declared.kind.Kind.TheVariants as kind
use Rattle.go_grammar.specs.declared.kind.Level.TheVariants as level
use Rattle.go_grammar.specs.declared.kind.Place.{Place}
use Rattle.go_grammar.specs.declared.kind.Place.TheVariants as place
use Rattle.go_grammar.specs.Grammar.{rule}
use Rattle.go_grammar.specs.Rules.{Items, Many, item}
use Rattle.go_grammar.specs.Trees.{Tree, Trees, none, more, skip, kind_of}
use Rattle.go_ints.specs.declared.operators.Op.TheVariants as op
use Rattle.go_tokens.specs.declared.token.TokenKind.{TokenKind}
use Rattle.go_tree.specs.declared.object.Predeclared.{Predeclared}
use Rattle.go_tree.specs.declared.object.Predeclared.TheVariants as predeclared
use Rattle.go_types.specs.Trees.{TypeTree}
use Rattle.go_typed.specs.declared.form.Form.TheVariants as form
use Rattle.go_typed.specs.Trees.{Sort, typed, Typeds, sort_of, label_of, row, first_of, last_of}
use Rattle.go_typed.specs.Trees as sort
use Rattle.go_exprs_rules.specs.Calls.{call_failing, call_sort, call_takes}
use Rattle.go_exprs_rules.specs.Scopes.{Scope, Hint, callee, value, type_place}
use Rattle.go_exprs_rules.specs.Settling.{Part}
use Rattle.go_exprs_rules.specs.Sorts.{Stands, is_constant, is_open, is_unknown, own_type, takes_type}
use Rattle.go_exprs_rules.specs.Tables.{Parts, layout, leaf, cut, first_cut, is_type, is_make, found, built, built_on, own_faults, all_given, callee_form, call_told}
use Rattle.go_exprs_rules.specs.Typing.{typing, typings}
use Rattle.clone_window.specs.Masses as masses
use Rattle.go_exprs_variables.specs.Shapes.{IsShaped, AreShaped}
use Rattle.go_exprs_variables.specs.Variables as variables
use Rattle.go_exprs_variables.specs.Variables.{Standins, ends_at, is_naming, is_extreme, are_constant, is_unfolded, has_variable, any_variable, Proper, AllProper, begun, put, Fits, AllFit, WillFit}
use Rattle.go_exprs_variables.proofs.Agreeing.{leaf_agrees}
use Rattle.go_exprs_variables.proofs.Away.{Away, put_nothing, begun_nothing}
use Rattle.go_exprs_variables.proofs.Begun.{typed_operand}
use Rattle.go_exprs_variables.proofs.BuiltinArguments.{same_own, type_stays, leaf_sort, len_argued, cap_argued, make_type, make_argued, append_argued, copy_argued, panic_argued}
use Rattle.go_exprs_variables.proofs.CallNodes.{Callee, AtCall, CallFacts, laid, call_facts, call_node}
use Rattle.go_exprs_variables.proofs.ConversionArguments.{conversion_argued}
use Rattle.go_exprs_variables.proofs.ExtremeArguments.{extreme_argued}
use Rattle.go_exprs_variables.proofs.GivenLists.{Known, Argued, all_pass, all_fine, function_argued, println_argued}
use Rattle.go_exprs_variables.proofs.Induction.{news, told, Follows, PartsFollow}
use Rattle.go_exprs_variables.proofs.Lists.{each, All, all_new, news_each, many_parts, many_follow}
use Rattle.go_exprs_variables.proofs.Named.{is_named, is_operand, expression_operand}
use Rattle.go_exprs_variables.proofs.Operands.{calls_kept, closed_part}
use Rattle.go_exprs_variables.proofs.Ready.{Facts, top_ends, ends_tree, operand_facts, operand_follows, named_follows, still_follows}
use Rattle.go_exprs_variables.proofs.Standing.{part_of, behind, typings_are}

-- what has a type is no type and no predeclared function
record IsValued (z : Stands) : Type 0 where
  make : is_make z ≡ false
  type : is_type z ≡ false
  closed : is_open z ≡ false
  takes : takes_type z ≡ false
  known : is_unknown z ≡ false
  form : callee_form z ≡ form.Call

valued_by : (z : Stands) (t : TypeTree) → own_type z ≡ Some t → IsValued z
valued_by (sort.Value u) t e = record { make = refl; type = refl; closed = refl; takes = refl; known = refl; form = refl }
valued_by (sort.Constant u c) t e = record { make = refl; type = refl; closed = refl; takes = refl; known = refl; form = refl }
valued_by z t e = cc

no_constants : (a b c u v : Bool) → ((a && b && not c) && (u || v)) ≡ false → a ≡ true → c ≡ false → (b && v) ≡ false
no_constants true true true u v e f g = cc
no_constants true true false true v e f g = cc
no_constants true true false false v e f g = e
no_constants true false c u v e f g = refl
no_constants false b c u v e f g = cc

call_naming : (xs : Parts) → is_naming (call_told xs) ≡ false
call_naming [] = refl
call_naming (None ∷ []) = refl
call_naming (Some f ∷ []) = by_make (is_make (sort_of f))
  where
    by_make : (b : Bool) → is_naming (if b then type_place else value) ≡ false
    by_make true = refl
    by_make false = refl
call_naming (None ∷ y ∷ ys) = refl
call_naming (Some f ∷ y ∷ ys) = refl

module _ (w : Standins) (s : Scope) (h : Hint) (i j : ℕ) where
  abbrev new : Part → Part
  new x = begun w false x

  -- a call over its typed parts, that isn't constant, in which no rule fails, and that fits
  abbrev pub Fitting : Part → List Part → Type 0
  Fitting f vs =
      (found s kind.Call h i j (Some f ∷ each vs) ≡ []) × (masses.is_constant (sort_of (built s kind.Call h i j (Some f ∷ each vs))) ≡ false) × WillFit s.rights w false (built s kind.Call h i j (Some f ∷ each vs))

  abbrev pub Step : Parts → Type 0
  Step xs = (found s kind.Call h i j (news w xs) ≡ []) × (built s kind.Call h i j (news w xs) ≡ begun w false (built s kind.Call h i j xs))

  -- no variable ends with it that stands at its first token
  abbrev Ends : Part → Type 0
  Ends x = ends_at (w (first_of x)) (last_of x) ≡ false

  abbrev Fine : Part → Type 0
  Fine x = (is_unknown (sort_of x) ≡ false) × WillFit s.rights w false x

  abbrev Stays : Part → Type 0
  Stays x = (is_named (sort_of x) ≡ true) × Ends x

  abbrev TypeFirst : List Part → Type 0
  TypeFirst [] = ⊥
  TypeFirst (y ∷ ns) = Stays y × All Fine ns

  -- What is known of the parts: the callee is a value that fits, or stands for no value; the arguments fit, but for the type that `make` is given.
  pub record Ways (f : Part) (vs : List Part) : Type 0 where
    pub head : ((is_unknown (sort_of f) ≡ false) × (is_open (sort_of f) ≡ false) × Fits w false f) ⊎ Stays f
    pub arguments : All Fine vs ⊎ TypeFirst vs
    pub step : Step (Some f ∷ each vs)

  -- ---- as they are laid out

  at_laid : (f g : Part) (vs xs : List Part) → layout kind.Call (Some f ∷ each vs) ≡ laid w s h i j g xs → Fitting f vs → AtCall w s h i j g xs
  at_laid f g vs xs l at = (
    sym (ap (own_faults s kind.Call h i j) l) ∙ at.0,
    sym (ap (λ ys. masses.is_constant (sort_of (built_on s kind.Call h i j ys))) l) ∙ at.1,
    subst (λ ys. WillFit s.rights w false (built_on s kind.Call h i j ys)) l at.2,
  )

  abbrev LaidStep : Part → Part → List Part → Type 0
  LaidStep f g xs = (own_faults s kind.Call h i j (laid w s h i j g (all_new w xs)) ≡ []) × (built_on s kind.Call h i j (laid w s h i j g (all_new w xs)) ≡ begun w false (built_on s kind.Call h i j (laid w s h i j f xs)))

  step_laid : (f a b : Part) (vs xs : List Part) → layout kind.Call (Some f ∷ each vs) ≡ laid w s h i j a xs → layout kind.Call (Some (new f) ∷ each (all_new w vs)) ≡ laid w s h i j b (all_new w xs) → LaidStep a b xs
      → Step (Some f ∷ each vs)
  step_laid f a b vs xs l m step = (
    ap (λ ys. own_faults s kind.Call h i j (layout kind.Call (Some (new f) ∷ ys))) (news_each w vs) ∙ ap (own_faults s kind.Call h i j) m ∙ step.0,
    ap (λ ys. built_on s kind.Call h i j (layout kind.Call (Some (new f) ∷ ys))) (news_each w vs) ∙ ap (built_on s kind.Call h i j) m ∙ step.1 ∙ ap (λ ys. begun w false (built_on s kind.Call h i j ys)) (sym l),
  )

  plain_layout : (f : Part) (vs : List Part) → is_make (sort_of f) ≡ false → is_type (sort_of f) ≡ false → layout kind.Call (Some f ∷ each vs) ≡ laid w s h i j f vs
  plain_layout f vs m t = ap (λ b. if b then Some f ∷ first_cut (each vs) else cut (Some f) ∷ each vs) m ∙ ap (λ b. (if b then Some (leaf f) else Some f) ∷ each vs) t

  type_layout : (f : Part) (vs : List Part) → is_make (sort_of f) ≡ false → is_type (sort_of f) ≡ true → layout kind.Call (Some f ∷ each vs) ≡ laid w s h i j (leaf f) vs
  type_layout f vs m t = ap (λ b. if b then Some f ∷ first_cut (each vs) else cut (Some f) ∷ each vs) m ∙ ap (λ b. (if b then Some (leaf f) else Some f) ∷ each vs) t

  make_layout : (f y : Part) (ns : List Part) (b : Bool) → is_make (sort_of f) ≡ true → is_type (sort_of y) ≡ b → layout kind.Call (Some f ∷ each (y ∷ ns)) ≡ laid w s h i j f ((if b then leaf y else y) ∷ ns)
  make_layout f y ns b m t = ap (λ c. if c then Some f ∷ first_cut (each (y ∷ ns)) else cut (Some f) ∷ each (y ∷ ns)) m ∙ ap (λ c. Some f ∷ (if c then Some (leaf y) else Some y) ∷ each ns) t ∙ by_type b
    where
      by_type : (c : Bool) → Some f ∷ (if c then Some (leaf y) else Some y) ∷ each ns ≡ Some f ∷ Some (if c then leaf y else y) ∷ each ns
      by_type true = refl
      by_type false = refl

  -- ---- callees that stand for no value

  leaf_away : (x : Part) → Away w false (leaf x)
  leaf_away (typed f a b l ps) = (refl, tt)

  leaf_ends : (x : Part) (t : TypeTree) → sort_of x ≡ sort.IsType t → Fits w false (leaf x) → Ends x
  leaf_ends (typed f a b l ps) t is fits = top_ends w form.Type a b l sort.none (ap masses.is_constant is) fits

  part_ends : (x : Part) → masses.is_constant (sort_of x) ≡ false → Fits w false x → Ends x
  part_ends (typed f a b l ps) plain fits = top_ends w f a b l ps plain fits

  named_known : (z : Stands) → is_named z ≡ true → (is_unknown z ≡ false) × (masses.is_constant z ≡ false)
  named_known (sort.IsType t) e = (refl, refl)
  named_known sort.Nil e = (refl, refl)
  named_known (sort.Builtin p) e = (refl, refl)
  named_known sort.Println e = (refl, refl)
  named_known sort.Package e = (refl, refl)
  named_known z e = cc

  -- it stays as it is
  stays_callee : (f : Part) → is_unknown (sort_of f) ≡ false → put w false f ≡ f → Callee w f f
  stays_callee f known e = record { known = known; puts = sym e; calls = refl; form = refl }

  abbrev Arguing : Stands → List Part → Type 0
  Arguing z xs = All (Facts w s.rights) xs → All Known xs → call_failing s.rights i j z xs ≡ [] → is_constant (call_sort s.rights z xs) ≡ false → is_unknown (call_sort s.rights z xs) ≡ false
      → (is_extreme z ≡ true → (are_constant (row (all_given (call_takes s.rights z xs) (each xs))) && any_variable w false (row (all_given (call_takes s.rights z xs) (each xs)))) ≡ false)
      → AllFit w false (row (all_given (call_takes s.rights z xs) (each xs))) → Argued w s.rights i j z xs

  folded_arguments : (f : Part) (xs : List Part) → CallFacts w s h i j f xs → is_extreme (sort_of f) ≡ true
      → (are_constant (row (all_given (call_takes s.rights (sort_of f) xs) (each xs))) && any_variable w false (row (all_given (call_takes s.rights (sort_of f) xs) (each xs)))) ≡ false
  folded_arguments f xs facts e = by_sort (sort_of f) e (call_sort s.rights (sort_of f) xs) facts.plain facts.folded
    where
      args : Typeds TypeTree
      args = row (all_given (call_takes s.rights (sort_of f) xs) (each xs))

      by_sort : (z : Stands) → is_extreme z ≡ true → (x : Stands) → is_constant x ≡ false → (is_unfolded (callee_form z) x (sort.more f args) && any_variable w false (sort.more f args)) ≡ false
          → (are_constant args && any_variable w false args) ≡ false
      by_sort (sort.Builtin p) m x plain n = no_constants (is_extreme (sort_of f)) (are_constant args) (is_constant x) (has_variable w false f) (any_variable w false args) n e plain
      by_sort z m x plain n = cc

  -- the call over a callee that stays as it is
  stays_step : (f : Part) (xs : List Part) (z : Stands) → sort_of f ≡ z → All (Facts w s.rights) xs → Callee w f f → Arguing z xs → AtCall w s h i j f xs → Argued w s.rights i j z xs × LaidStep f f xs
  stays_step f xs z is facts head argue at =
      let c = call_facts w s h i j f xs at in
      let whole : Arguing (sort_of f) xs = subst (λ y. Arguing y xs) (sym is) argue in
      let a = whole facts c.arguments c.rule c.plain c.known (folded_arguments f xs c) c.fit in (
        subst (λ y. Argued w s.rights i j y xs) is a,
        call_node w s h i j f f xs at.0 c head a.pass a.kept,
      )

  -- ---- what the arguments of each are

  conversion_arguing : (t : TypeTree) (xs : List Part) → Arguing (sort.IsType t) xs
  conversion_arguing t [] facts known rule plain fine folded fits = cc
  conversion_arguing t (x ∷ y ∷ xs) facts known rule plain fine folded fits = cc
  conversion_arguing t (x ∷ []) facts known rule plain fine folded fits = conversion_argued w s.rights i j t x facts.0 known.0 rule (record { constant = plain; known = fine }) fits.0

  println_arguing : (xs : List Part) → Arguing sort.Println xs
  println_arguing xs facts known rule plain fine folded fits = println_argued w s.rights i j xs facts known rule fits

  builtin_arguing : (p : Predeclared) (xs : List Part) → is_make (sort.Builtin p) ≡ false → Arguing (sort.Builtin p) xs
  builtin_arguing predeclared.Len xs m facts known rule plain fine folded fits = len_argued w s.rights i j xs facts known rule plain fits
  builtin_arguing predeclared.Cap xs m facts known rule plain fine folded fits = cap_argued w s.rights i j xs facts known rule plain fits
  builtin_arguing predeclared.Append xs m facts known rule plain fine folded fits = append_argued w s.rights i j xs facts known rule fits
  builtin_arguing predeclared.Copy xs m facts known rule plain fine folded fits = copy_argued w s.rights i j xs facts known rule fits
  builtin_arguing predeclared.Panic xs m facts known rule plain fine folded fits = panic_argued w s.rights i j xs facts known rule fits
  builtin_arguing predeclared.Min [] m facts known rule plain fine folded fits = cc
  builtin_arguing predeclared.Min (x ∷ xs) m facts known rule plain fine folded fits =
      let a = extreme_argued w s.rights i j op.Min x xs facts known (folded refl) rule fits in record { pass = a.pass; fine = a.fine; kept = record { failing = a.failing; sort = a.sort; takes = a.takes } }
  builtin_arguing predeclared.Max [] m facts known rule plain fine folded fits = cc
  builtin_arguing predeclared.Max (x ∷ xs) m facts known rule plain fine folded fits =
      let a = extreme_argued w s.rights i j op.Max x xs facts known (folded refl) rule fits in record { pass = a.pass; fine = a.fine; kept = record { failing = a.failing; sort = a.sort; takes = a.takes } }
  builtin_arguing predeclared.Make xs m facts known rule plain fine folded fits = cc
  builtin_arguing p xs m facts known rule plain fine folded fits = cc

  -- ---- the ways

  type_ways : (f : Part) (vs : List Part) (t : TypeTree) → sort_of f ≡ sort.IsType t → Facts w s.rights f → All (Facts w s.rights) vs → Fitting f vs → Ways f vs
  type_ways f vs t is cf facts at =
      let l = type_layout f vs (ap is_make is) (ap is_type is) in
      let laid_at = at_laid f (leaf f) vs vs l at in
      let leaf_is : sort_of (leaf f) ≡ sort.IsType t = leaf_sort w s.rights f ∙ is in
      let c = call_facts w s h i j (leaf f) vs laid_at in
      let ends = leaf_ends f t is c.fits in
      let stays : new f ≡ f = begun_nothing w false f cf.agrees (cf.still (ap is_named is) ends) in
      let head = stays_callee (leaf f) c.callee (put_nothing w false (leaf f) (leaf_agrees f) (leaf_away f)) in
      let both = stays_step (leaf f) vs (sort.IsType t) leaf_is facts head (conversion_arguing t vs) laid_at in
      record {
        head = inr (ap is_named is, ends);
        arguments = inl both.0.fine;
        step = step_laid f (leaf f) (leaf f) vs vs l (ap (λ y. layout kind.Call (Some y ∷ each (all_new w vs))) stays ∙ type_layout f (all_new w vs) (ap is_make is) (ap is_type is)) both.1;
      }

  named_ways : (f : Part) (vs : List Part) (z : Stands) → sort_of f ≡ z → is_named z ≡ true → is_make z ≡ false → is_type z ≡ false → Arguing z vs → Facts w s.rights f → All (Facts w s.rights) vs → Fitting f vs → Ways f vs
  named_ways f vs z is named no_make no_type argue cf facts at =
      let l = plain_layout f vs (ap is_make is ∙ no_make) (ap is_type is ∙ no_type) in
      let laid_at = at_laid f f vs vs l at in
      let c = call_facts w s h i j f vs laid_at in
      let ends = part_ends f (ap masses.is_constant is ∙ (named_known z named).1) c.fits in
      let away = cf.still (ap is_named is ∙ named) ends in
      let stays : new f ≡ f = begun_nothing w false f cf.agrees away in
      let head = stays_callee f c.callee (put_nothing w false f cf.agrees away) in
      let both = stays_step f vs z is facts head argue laid_at in
      record {
        head = inr (ap is_named is ∙ named, ends);
        arguments = inl both.0.fine;
        step = step_laid f f f vs vs l (ap (λ y. layout kind.Call (Some y ∷ each (all_new w vs))) stays ∙ plain_layout f (all_new w vs) (ap is_make is ∙ no_make) (ap is_type is ∙ no_type)) both.1;
      }

  valued_ways : (f : Part) (vs : List Part) (t : TypeTree) → own_type (sort_of f) ≡ Some t → Facts w s.rights f → All (Facts w s.rights) vs → Fitting f vs → Ways f vs
  valued_ways f vs t e cf facts at =
      let v = valued_by (sort_of f) t e in
      let l = plain_layout f vs v.make v.type in
      let laid_at = at_laid f f vs vs l at in
      let c = call_facts w s h i j f vs laid_at in
      let r = cf.ready v.known v.type in
      let g = new f in
      let stands = (typed_operand s.rights w None false f r.keys r.held v.closed c.fits).stands in
      let own : own_type (sort_of g) ≡ Some t = same_own s.rights (sort_of f) (sort_of g) None refl stands ∙ e in
      let u = valued_by (sort_of g) t own in
      let head : Callee w f g = record { known = u.known; puts = closed_part s.rights w false None f r v.takes v.closed; calls = calls_kept s.rights w false f r; form = u.form ∙ sym v.form } in
      let a = function_argued w s.rights i j (sort_of f) (sort_of g) t vs e own facts c.arguments c.rule c.fit in
      let step = call_node w s h i j f g vs laid_at.0 c head (all_pass w s.rights (call_takes s.rights (sort_of f) vs) vs a.0) a.1 in
      record {
        head = inl (v.known, v.closed, c.fits);
        arguments = inl (all_fine w s.rights (call_takes s.rights (sort_of f) vs) vs a.0);
        step = step_laid f f g vs vs l (plain_layout g (all_new w vs) u.make u.type) step;
      }

  -- `make`
  make_by : (f y : Part) (ns : List Part) (b : Bool) → sort_of f ≡ sort.Builtin predeclared.Make → is_type (sort_of y) ≡ b → Facts w s.rights f → All (Facts w s.rights) (y ∷ ns) → Fitting f (y ∷ ns) → Ways f (y ∷ ns)
  make_by f y ns false is t cf facts at =
      let c = call_facts w s h i j f (y ∷ ns) (at_laid f f (y ∷ ns) (y ∷ ns) (make_layout f y ns false (ap is_make is) t) at) in
      let made = make_type w s.rights i j y ns (sym (ap (λ z. call_failing s.rights i j z (y ∷ ns)) is) ∙ c.rule) in
      let both : false ≡ true = sym t ∙ ap is_type made.1 in
      cc
  make_by f y ns true is t cf facts at =
      let xs = leaf y ∷ ns in
      let l = make_layout f y ns true (ap is_make is) t in
      let laid_at = at_laid f f (y ∷ ns) xs l at in
      let c = call_facts w s h i j f xs laid_at in
      let rule = sym (ap (λ z. call_failing s.rights i j z xs) is) ∙ c.rule in
      let fits = subst (λ z. AllFit w false (row (all_given (call_takes s.rights z xs) (each xs)))) is c.fit in
      let made = make_type w s.rights i j (leaf y) ns rule in
      let type_is : sort_of y ≡ sort.IsType made.0 = sym (leaf_sort w s.rights y) ∙ made.1 in
      let a = make_argued w s.rights i j y made.0 ns type_is facts.1 c.arguments.1 rule fits in
      let head_ends = part_ends f (ap masses.is_constant is) c.fits in
      let head_away = cf.still (ap is_named is) head_ends in
      let head_stays : new f ≡ f = begun_nothing w false f cf.agrees head_away in
      let ends = leaf_ends y made.0 type_is fits.0 in
      let stays : new y ≡ y = begun_nothing w false y facts.0.agrees (facts.0.still (ap is_named type_is) ends) in
      let head = stays_callee f c.callee (put_nothing w false f cf.agrees head_away) in
      let whole : Argued w s.rights i j (sort_of f) xs = subst (λ z. Argued w s.rights i j z xs) (sym is) a in
      let step = call_node w s h i j f f xs laid_at.0 c head whole.pass whole.kept in
      let relaid : layout kind.Call (Some (new f) ∷ each (all_new w (y ∷ ns))) ≡ laid w s h i j f (all_new w xs) =
      ap (λ z. layout kind.Call (Some z ∷ each (all_new w (y ∷ ns)))) head_stays ∙ ap (λ z. layout kind.Call (Some f ∷ each (z ∷ all_new w ns))) stays ∙ make_layout f y (all_new w ns) true (ap is_make is) t
      ∙ ap (λ z. laid w s h i j f (z ∷ all_new w ns)) (sym (type_stays w s.rights y made.0 type_is)) in
      record {
        head = inr (ap is_named is, head_ends);
        arguments = inr ((ap is_named type_is, ends), a.fine.1);
        step = step_laid f f f (y ∷ ns) xs l relaid step;
      }

  make_ways : (f : Part) (vs : List Part) → sort_of f ≡ sort.Builtin predeclared.Make → Facts w s.rights f → All (Facts w s.rights) vs → Fitting f vs → Ways f vs
  make_ways f [] is cf facts at =
      let l : layout kind.Call (Some f ∷ []) ≡ laid w s h i j f [] = ap (λ b. if b then Some f ∷ [] else cut (Some f) ∷ []) (ap is_make is) in
      let c = call_facts w s h i j f [] (at_laid f f [] [] l at) in
      let rule = sym (ap (λ z. call_failing s.rights i j z []) is) ∙ c.rule in
      cc
  make_ways f (y ∷ ns) is cf facts at = make_by f y ns (is_type (sort_of y)) is refl cf facts at

  -- what is neither
  no_ways : (f : Part) (vs : List Part) (z : Stands) → sort_of f ≡ z → is_make z ≡ false → is_type z ≡ false → (call_failing s.rights i j z vs ≡ [] → ⊥) → Fitting f vs → Ways f vs
  no_ways f vs z is no_make no_type fails at =
      let c = call_facts w s h i j f vs (at_laid f f vs vs (plain_layout f vs (ap is_make is ∙ no_make) (ap is_type is ∙ no_type)) at) in
      absurd (fails (sym (ap (λ y. call_failing s.rights i j y vs) is) ∙ c.rule))

  builtin_ways : (f : Part) (vs : List Part) (p : Predeclared) (b : Bool) → is_make (sort.Builtin p) ≡ b → sort_of f ≡ sort.Builtin p → Facts w s.rights f → All (Facts w s.rights) vs → Fitting f vs → Ways f vs
  builtin_ways f vs p false m is cf facts at = named_ways f vs (sort.Builtin p) is refl m refl (builtin_arguing p vs m) cf facts at
  builtin_ways f vs predeclared.Make true m is cf facts at = make_ways f vs is cf facts at
  builtin_ways f vs p true m is cf facts at = cc

  ways_by : (f : Part) (vs : List Part) (z : Stands) → sort_of f ≡ z → Facts w s.rights f → All (Facts w s.rights) vs → Fitting f vs → Ways f vs
  ways_by f vs (sort.IsType t) is cf facts at = type_ways f vs t is cf facts at
  ways_by f vs (sort.Builtin p) is cf facts at = builtin_ways f vs p (is_make (sort.Builtin p)) refl is cf facts at
  ways_by f vs sort.Println is cf facts at = named_ways f vs sort.Println is refl refl refl (println_arguing vs) cf facts at
  ways_by f vs (sort.Value t) is cf facts at = valued_ways f vs t (ap own_type is) cf facts at
  ways_by f vs (sort.Constant t c) is cf facts at = valued_ways f vs t (ap own_type is) cf facts at
  ways_by f vs z is cf facts at = no_ways f vs z is refl refl (λ e. cc) at

  pub ways : (f : Part) (vs : List Part) → Facts w s.rights f → All (Facts w s.rights) vs → Fitting f vs → Ways f vs
  ways f vs cf facts at = ways_by f vs (sort_of f) refl cf facts at

  -- ---- trees

  module _ (all : Trees) where
    arguments_follow : (f : Part) (qs : Trees) (vs : List Part) (ws : List TokenKind) (l : Items) → ((q : Tree) → IsShaped (item l) q → is_operand (kind_of q) ≡ true) → AreShaped (Many ws l) qs → AllProper w qs
        → behind s kind.Call h all (Some f ∷ []) qs ≡ each vs
        → All Fine vs ⊎ TypeFirst vs → PartsFollow w s kind.Call h all (Some f ∷ []) qs
    arguments_follow f qs vs ws l ops e pr is (inl fine) = many_follow w s kind.Call h all (Some f ∷ []) qs vs ws l ops (λ ys n. call_naming ys) e pr is fine
    arguments_follow f none vs ws l ops e pr is (inr first) = tt
    arguments_follow f (skip qs) vs ws l ops e pr is (inr first) = elim e [ ]
    arguments_follow f (more q qs) [] ws l ops e pr is (inr first) = absurd first
    arguments_follow f (more q qs) (y ∷ ns) ws l ops e pr is (inr first) =
        let g = told w s kind.Call h all (Some f ∷ []) q in
        let x = part_of s kind.Call h all (Some f ∷ []) q in
        let same : x ≡ y = cc in
        let later : behind s kind.Call h all (Some f ∷ Some x ∷ []) qs ≡ each ns = cc in
        let ends = ends_tree w s g q (ap (λ z. ends_at (w (first_of z)) (last_of z)) same ∙ first.0.1) in (
          still_follows w s g (item l) q e.0 (named_follows w s g (item l) q e.0 (ops q e.0) pr.0 ends (ap (λ z. is_named (sort_of z)) same ∙ first.0.0)),
          many_follow w s kind.Call h all (Some f ∷ Some x ∷ []) qs ns ws l ops (λ ys n. call_naming ys) e.1 pr.1 later first.1,
        )

  -- From a call that fits to its parts, and the step.
  pub call_both : (p : Place) (ps : Trees) → AreShaped (rule p kind.Call) ps → AllProper w ps → masses.is_constant (sort_of (built s kind.Call h i j (typings s kind.Call h ps [] ps))) ≡ false
      → found s kind.Call h i j (typings s kind.Call h ps [] ps) ≡ []
      → WillFit s.rights w false (built s kind.Call h i j (typings s kind.Call h ps [] ps)) → PartsFollow w s kind.Call h ps [] ps × Step (typings s kind.Call h ps [] ps)
  call_both p none e pr plain f fits = elim e [ ]
  call_both p (skip qs) e pr plain f fits = elim e [ ]
  call_both p (more a qs) e pr plain f fits =
      let all = more a qs in
      let c = category.Expression level.Primary p in
      let op = expression_operand level.Primary p a e.0 in
      let x = typing s callee a in
      let args = many_parts w s kind.Call h all (Some x ∷ []) qs _ _ (λ q m. expression_operand level.Either place.Free q m) e.1 pr.1 in
      let is : typings s kind.Call h all [] all ≡ Some x ∷ each args.0 = typings_are s kind.Call h all [] all ∙ ap (λ ys. Some x ∷ ys) args.1 in
      let at : Fitting x args.0 = (
        sym (ap (found s kind.Call h i j) is) ∙ f,
        sym (ap (λ ys. masses.is_constant (sort_of (built s kind.Call h i j ys))) is) ∙ plain,
        subst (λ ys. WillFit s.rights w false (built s kind.Call h i j ys)) is fits,
      ) in
      let way = ways x args.0 (operand_facts w s callee c a e.0 op pr.0) args.2 at in
      ((head_follows c e.0 op way.head, arguments_follow all x qs args.0 _ _ (λ q m. expression_operand level.Either place.Free q m) e.1 pr.1 args.1 way.arguments), subst Step (sym is) way.step)
    where
      head_follows : (c : Category) → IsShaped c a → is_operand (kind_of a) ≡ true
          → ((is_unknown (sort_of (typing s callee a)) ≡ false) × (is_open (sort_of (typing s callee a)) ≡ false) × Fits w false (typing s callee a)) ⊎ Stays (typing s callee a)
          → Follows w s callee a
      head_follows c sh op (inl v) = operand_follows w s callee c a sh op refl pr.0 v.0 (variables.has v.1 v.2)
      head_follows c sh op (inr st) = still_follows w s callee c a sh (named_follows w s callee c a sh op pr.0 (ends_tree w s callee a st.1) st.0)
