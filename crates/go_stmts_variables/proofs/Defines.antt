-- Short variable declarations with variables in their values.
use Rattle.std.proofs.Common.{◌≡◌, ◌∙◌, ℕ, pred, Bool, true, false, List, [], ◌∷◌, ◌++◌, length, map, Option, Some, None, refl, sym, ap, subst, append-nil}
use Rattle.std.specs.Prelude.{if◌then◌else◌, slice_get}
use Rattle.std.specs.Option.{option_map}
use Rattle.go_base.specs.declared.fault.FaultCode.TheVariants as code
use Rattle.go_grammar.specs.declared.kind.Kind.TheVariants as kind
use Rattle.go_grammar.specs.declared.kind.Place.{Place}
use Rattle.go_grammar.specs.Trees.{Trees, node, none, more, skip}
use Rattle.go_tree.specs.declared.object.Object.{Object}
use Rattle.go_tree.specs.declared.object.Object.TheVariants as object
use Rattle.go_types.specs.Trees.{TypeTree}
use Rattle.go_types.specs.Relations.{Rights}
use Rattle.go_typed.specs.declared.form.Form.TheVariants as form
use Rattle.go_typed.specs.Trees.{typed, sort_of, form_of, list_of, row}
use Rattle.go_typed.specs.Trees as sort
use Rattle.go_exprs_rules.specs.Names.{declared_form}
use Rattle.go_exprs_rules.specs.Scopes.{Scope, Hint, several, declares}
use Rattle.go_exprs_rules.specs.Settling.{Part, Take, stay, default, as_type, given, defaulted, settled, all_settled, at_part}
use Rattle.go_exprs_rules.specs.Sorts.{Stands, is_nil, takes_type, retyped, own_type, open_kind, default_type, value_type}
use Rattle.go_exprs_rules.specs.declared.family.OpenKind.{OpenKind}
use Rattle.go_exprs_rules.specs.Tables.{Parts, held, all_held, made}
use Rattle.clone_window.specs.Masses as masses
use Rattle.go_stmts_defs.specs.Assigning.{Wanted, Taking, takes, stands, at_nil, whole_results, assignment_failing, value_types_by, first_known, variable, names_take, values_take, declared_names}
use Rattle.go_stmts_defs.specs.Frames.{Frame, Locals, known, declared_type, rights_of, scope_of}
use Rattle.go_stmts_defs.specs.Laying.{new_or_known, new_form, new_name, local_named}
use Rattle.go_stmts_defs.specs.Reading.{Found, is_new, list_node, holdings, all_held_faults, reading, readings, back}
use Rattle.go_stmts_defs.specs.Rules.{form_type, known_type, define_failing, define_takes, split_at, all_given, taking}
use Rattle.go_stmts_defs.specs.Rules as rules
use Rattle.go_exprs_variables.specs.Operands.{Operand}
use Rattle.go_exprs_variables.specs.Stood.{Stood, as_before, in_place, early}
use Rattle.go_exprs_variables.specs.Variables.{Standins, ends_at, all_with_variables, AllFree, AllProper, begun, Fits, AllFit, no_rule_fails, ExpressionsTyped}
use Rattle.go_exprs_variables.proofs.Public.{All, all_new, all_of, both_none, each, news, news_each, no_place, none_of_both, of_all}
use Rattle.go_stmts_variables.specs.Frames.{FramesStand}
use Rattle.go_stmts_variables.specs.Rules.{given_type, AllGiven, none_given, spare_given, next_given}
use Rattle.go_stmts_variables.specs.Statements.{tree_in, found_in}
use Rattle.go_stmts_variables.proofs.Conditions.{nil_kept}
use Rattle.go_stmts_variables.proofs.Expressions.{IsValuePart, all_ready}
use Rattle.go_stmts_variables.proofs.Frames.{Fresh, back_stands}
use Rattle.go_stmts_variables.proofs.Lists.{AreExpressions, AreOperands, expression_operands, values_of, faults_of, list_row, list_parts, list_faults, list_values, list_reads}
use Rattle.go_stmts_variables.proofs.Names.{IsName, name_put, name_known, name_fresh, names_of, AreNames, named_list, all_names, same_names, names_begun, node_name, AllFresh, declared_stand}
use Rattle.go_stmts_variables.proofs.Nodes.{Reads, Old, old_rules, old_fits, rule_of, own_none, node_reads, NamesKnown, judged}
use Rattle.go_stmts_variables.proofs.Puts.{Puts, AllTake, IsStatementForm, node_put, fits_put}
use Rattle.go_stmts_variables.proofs.Returns.{length_mapped, takes_known}
use Rattle.go_stmts_variables.proofs.Rows.{news_two, Stated, stated_by}
use Rattle.go_stmts_variables.proofs.Splits.{length_each, split_two, values_take_all, values_take_new}
use Rattle.go_stmts_variables.proofs.Values.{values_kept, whole_kept}
use Rattle.go_stmts_variables.proofs.Wills.{all_will, all_operands, assignment_gives}

-- ---- names are read without faults

module _ (w : Standins) where
  pub name_faults : (s : Scope) (ps : Trees) → AreNames w ps → no_rule_fails (faults_of s declares ps) ≡ true
  name_faults s none e = refl
  name_faults s (more (node kind.Name i j none) ps) e = name_faults s ps e
  name_faults s (more (node kind.Name i j (more p qs)) ps) e = elim e [ ]
  name_faults s (more (node kind.Name i j (skip qs)) ps) e = elim e [ ]
  name_faults s (more (node k i j qs) ps) e = elim e [ ]
  name_faults s (skip ps) e = elim e [ ]

  pub new_are_names : (ps : Trees) → AreNames w ps → AreNames w (all_with_variables w ps)
  new_are_names none e = tt
  new_are_names (more (node kind.Name i j none) ps) e = subst (λ x. AreNames w (more x (all_with_variables w ps))) (sym (node_name w (ends_at (w i) j) i j)) (new_are_names ps e)
  new_are_names (more (node kind.Name i j (more p qs)) ps) e = elim e [ ]
  new_are_names (more (node kind.Name i j (skip qs)) ps) e = elim e [ ]
  new_are_names (more (node k i j qs) ps) e = elim e [ ]
  new_are_names (skip ps) e = elim e [ ]

  pub name_operands : (ps : Trees) → AreNames w ps → AreOperands ps
  name_operands none e = tt
  name_operands (more (node kind.Name i j none) ps) e = (refl, name_operands ps e)
  name_operands (more (node kind.Name i j (more p qs)) ps) e = elim e [ ]
  name_operands (more (node kind.Name i j (skip qs)) ps) e = elim e [ ]
  name_operands (more (node k i j qs) ps) e = elim e [ ]
  name_operands (skip ps) e = elim e [ ]

  -- ---- rows of names and values

  variable_plain : (o : Option TypeTree) → masses.is_constant (variable o) ≡ false
  variable_plain (Some t) = refl
  variable_plain None = refl

  pub names_put : (f : Frame) (ts us : Wanted) (ns : List Part) (ks : List Taking) (ys : Parts) → All (IsName w f) ns → length ts ≡ length ns → Puts w ks ys → Puts w (names_take ts us ++ ks) (each ns ++ ys)
  names_put f [] us [] ks ys h e p = p
  names_put f [] us (n ∷ ns) ks ys h e p = cc
  names_put f (t ∷ ts) us [] ks ys h e p = cc
  names_put f (t ∷ ts) [] (n ∷ ns) ks ys h e p = (name_put w f n (variable t) h.0 (variable_plain t), names_put f ts [] ns ks ys h.1 (ap pred e) p)
  names_put f (t ∷ ts) (u ∷ us) (n ∷ ns) ks ys h e p = (name_put w f n (variable (first_known t u)) h.0 (variable_plain (first_known t u)), names_put f ts us ns ks ys h.1 (ap pred e) p)

  pub names_are_known : (f : Frame) (ts us : Wanted) (ns : List Part) (ks : List Taking) (ys : Parts) → All (IsName w f) ns → length ts ≡ length ns → NamesKnown w ks ys → NamesKnown w (names_take ts us ++ ks) (each ns ++ ys)
  names_are_known f [] us [] ks ys h e p = p
  names_are_known f [] us (n ∷ ns) ks ys h e p = cc
  names_are_known f (t ∷ ts) us [] ks ys h e p = cc
  names_are_known f (t ∷ ts) [] (n ∷ ns) ks ys h e p = (name_known w f n h.0, names_are_known f ts [] ns ks ys h.1 (ap pred e) p)
  names_are_known f (t ∷ ts) (u ∷ us) (n ∷ ns) ks ys h e p = (name_known w f n h.0, names_are_known f ts us ns ks ys h.1 (ap pred e) p)

  pub fits_behind : (f : Frame) (ts us : Wanted) (ns : List Part) (ks : List Taking) (ys : Parts) → length ts ≡ length ns → AllFit w false (row (all_given (names_take ts us ++ ks) (each ns ++ ys))) → AllFit w false (row (all_given ks ys))
  fits_behind f [] us [] ks ys e p = p
  fits_behind f [] us (n ∷ ns) ks ys e p = cc
  fits_behind f (t ∷ ts) us [] ks ys e p = cc
  fits_behind f (t ∷ ts) [] (n ∷ ns) ks ys e p = fits_behind f ts [] ns ks ys (ap pred e) p.1
  fits_behind f (t ∷ ts) (u ∷ us) (n ∷ ns) ks ys e p = fits_behind f ts us ns ks ys (ap pred e) p.1

  -- what they declare
  pub names_fresh : (f g : Frame) (ts us : Wanted) (ns : List Part) (ks : List Taking) (ys : Parts) → FramesStand w f g → All (IsName w f) ns → length ts ≡ length ns → AllFresh w (all_given ks ys)
      → AllFresh w (all_given (names_take ts us ++ ks) (each ns ++ ys))
  names_fresh f g [] us [] ks ys st h e p = p
  names_fresh f g [] us (n ∷ ns) ks ys st h e p = cc
  names_fresh f g (t ∷ ts) us [] ks ys st h e p = cc
  names_fresh f g (t ∷ ts) [] (n ∷ ns) ks ys st h e p = (λ m q. name_fresh w f g n (variable t) m st h.0 q, names_fresh f g ts [] ns ks ys st h.1 (ap pred e) p)
  names_fresh f g (t ∷ ts) (u ∷ us) (n ∷ ns) ks ys st h e p = (λ m q. name_fresh w f g n (variable (first_known t u)) m st h.0 q, names_fresh f g ts us ns ks ys st h.1 (ap pred e) p)

  settled_form : (t : TypeTree) (x : Part) → form_of (settled t x) ≡ form_of x
  settled_form t (typed f i j l ps) = by (takes_type l.sort)
    where
      by : (b : Bool) → form_of (if b then typed f i j (record l { sort = retyped t l.sort }) (all_settled t ps) else typed f i j l ps) ≡ f
      by true = refl
      by false = refl

  pub taken_form : (k : Take) (x : Part) → form_of (given k x) ≡ form_of x
  taken_form stay x = refl
  taken_form (as_type t) x = settled_form t x
  taken_form default x = by (open_kind (sort_of x))
    where
      by : (o : Option OpenKind) → form_of (defaulted o x) ≡ form_of x
      by None = refl
      by (Some k) = settled_form (default_type k) x

  -- values declare nothing
  value_fresh : (k : Take) (x : Part) → IsValuePart w x → (n : ℕ) → is_new (form_of (given k x)) ≡ Some n → Fresh w n
  value_fresh k x v n e = let never : None ≡ Some n = sym (ap is_new (taken_form k x) ∙ v.plain) ∙ e in cc

  pub values_fresh : (ks : List Taking) (xs : List Part) → AllTake w ks → All (IsValuePart w) xs → AllFresh w (all_given ks (each xs))
  values_fresh [] [] t v = tt
  values_fresh (k ∷ ks) [] t v = tt
  values_fresh [] (x ∷ xs) t v = (value_fresh stay x v.0, values_fresh [] xs tt v.1)
  values_fresh (takes k ∷ ks) (x ∷ xs) t v = (value_fresh k x v.0, values_fresh ks xs t v.1)
  values_fresh (stands z ∷ ks) (x ∷ xs) t v = elim t [ ]

  -- ---- what names stand for

  module _ (rights : Rights) where
    default_by : (u : Option TypeTree) (a b : Stands) → Stood rights u a b → u ≡ option_map default_type (open_kind a) → value_type b ≡ value_type a
    default_by u a b (as_before v c) e = refl
    default_by u a b (in_place v t c) e = refl
    default_by u a b (early t c k m n) e = untyped c t k m e
      where
        untyped : (z : Stands) (t : TypeTree) (k : OpenKind) → open_kind z ≡ Some k → Some t ≡ option_map default_type (open_kind z) → Some t ≡ value_type z
        untyped (sort.Open u) t k m e = e
        untyped (sort.OpenConstant c) t k m e = e
        untyped z t k m e = cc

    name_kept : (t : Option TypeTree) (x y : Part) → Operand rights (given_type t x) x y → first_known t (value_type (sort_of y)) ≡ first_known t (value_type (sort_of x))
    name_kept (Some t) x y o = refl
    name_kept None x y o = default_by (given_type None x) (sort_of x) (sort_of y) o.stands refl

    names_kept : (ts : Wanted) (xs ys : List Part) → AllGiven rights ts xs ys → names_take ts (map (λ x. value_type (sort_of x)) ys) ≡ names_take ts (map (λ x. value_type (sort_of x)) xs)
    names_kept ts xs ys (none_given us) = refl
    names_kept ts xs ys (spare_given x y xs' ys' o g) = refl
    names_kept ts xs ys (next_given t ts' x y xs' ys' o g) =
        ap (λ q. stands (variable q) ∷ names_take ts' (map (λ x. value_type (sort_of x)) ys')) (name_kept t x y o) ∙ ap (λ ks. stands (variable (first_known t (value_type (sort_of x)))) ∷ ks) (names_kept ts' xs' ys' g)

    by_results : (ts : Wanted) (xs ys : List Part) (rs : Option (List TypeTree)) → AllGiven rights ts xs ys → names_take ts (value_types_by ys rs) ≡ names_take ts (value_types_by xs rs)
    by_results ts xs ys (Some rs) g = refl
    by_results ts xs ys None g = names_kept ts xs ys g

    -- Names stand for what they stood for.
    pub declared_kept : (ts : Wanted) (xs ys : List Part) → AllGiven rights ts xs ys → declared_names rights ts ys ≡ declared_names rights ts xs
    declared_kept ts xs ys g = ap (λ rs. names_take ts (value_types_by ys rs)) (whole_kept rights ts xs ys g) ∙ by_results ts xs ys (whole_results rights xs) g

    -- ---- values aren't `nil`

    one_nil : (a b : Bool) (x y : Part) → b ≡ a → (if a then at_part code.Operands x else []) ≡ [] → (if b then at_part code.Operands y else []) ≡ []
    one_nil true b x y e f = absurd (no_place code.Operands x f)
    one_nil false b x y e f = ap (λ z. if z then at_part code.Operands y else []) e

    pub no_nils : (ts : Wanted) (xs ys : List Part) → AllGiven rights ts xs ys → rules.each at_nil xs ≡ [] → rules.each at_nil ys ≡ []
    no_nils ts xs ys (none_given us) e = refl
    no_nils ts xs ys (spare_given x y xs' ys' o g) e =
        let both = both_none (at_nil x) (rules.each at_nil xs') e in
        none_of_both (at_nil y) (rules.each at_nil ys') (one_nil (is_nil (sort_of x)) (is_nil (sort_of y)) x y (nil_kept rights (given_type None x) (sort_of x) (sort_of y) o.stands) both.0) (no_nils [] xs' ys' g both.1)
    no_nils ts xs ys (next_given t ts' x y xs' ys' o g) e =
        let both = both_none (at_nil x) (rules.each at_nil xs') e in
        none_of_both (at_nil y) (rules.each at_nil ys') (one_nil (is_nil (sort_of x)) (is_nil (sort_of y)) x y (nil_kept rights (given_type t x) (sort_of x) (sort_of y) o.stands) both.0) (no_nils ts' xs' ys' g both.1)

  -- ---- names that have types already

  named_type : (ls ks : Locals) (s : Scope) (o : Option Object) → ((n : ℕ) → local_named o ≡ Some n → slice_get ks n ≡ slice_get ls n) → form_type ks (new_form ls (declared_form s o)) ≡ form_type ls (new_form ls (declared_form s o))
  named_type ls ks s None e = refl
  named_type ls ks s (Some object.Import) e = refl
  named_type ls ks s (Some (object.Predeclared q)) e = refl
  named_type ls ks s (Some (object.Package n)) e = refl
  named_type ls ks s (Some (object.Local f n)) e = by (declared_type ls n)
    where
      by : (o : Option TypeTree) → form_type ks (new_or_known n o) ≡ form_type ls (new_or_known n o)
      by (Some t) = ap (λ z. own_type (known z)) (e n refl)
      by None = refl

  pub known_types : (f g : Frame) (ns : List Part) → FramesStand w f g → All (IsName w f) ns → map (known_type g.locals) ns ≡ map (known_type f.locals) ns
  known_types f g [] st h = refl
  known_types f g (n ∷ ns) st h =
      let m = h.0 in
      let one : known_type g.locals n ≡ known_type f.locals n =
      ap (known_type g.locals) m.is ∙ named_type f.locals g.locals (scope_of f) (f.around.objects m.first) (λ k q. st.locals m.first k m.free q) ∙ sym (ap (known_type f.locals) m.is) in
      ap (λ z. z ∷ map (known_type g.locals) ns) one ∙ ap (λ zs. known_type f.locals n ∷ zs) (known_types f g ns st h.1)

  -- ---- the statement

  define_form : (n : ℕ) → IsStatementForm w (form.Define n)
  define_form n = record { held = refl; key = refl; call = refl; name = λ z. refl }

  module _ (f g : Frame) (h : Hint) (i j a b c d e k : ℕ) (p : Place) (qs ps whole : Trees) (whole_is : whole ≡ more (node kind.NewNames a b (more (node kind.ExpressionList c d qs) none)) (more (node kind.ExpressionList e k ps) none))
      (named : AreNames w qs) (shape : AreExpressions p ps) (free : AllFree w qs) (st : FramesStand w f g) where
    abbrev new : Trees
    new = all_with_variables w ps

    abbrev vs : List Part
    vs = list_values w f several ps

    abbrev ns : List Part
    ns = names_of w f qs

    abbrev ts : Wanted
    ts = map (known_type f.locals) ns

    abbrev names_node : Frame → Trees → Part
    names_node f qs = list_node f kind.NewNames a b (map (new_name f.locals) (all_held (Some (list_node f kind.ExpressionList c d (holdings f kind.ExpressionList declares qs [] qs)) ∷ [])))

    abbrev values_node : Frame → Trees → Part
    values_node f ps = list_node f kind.ExpressionList e k (holdings f kind.ExpressionList several ps [] ps)

    names_are : (f : Frame) (qs : Trees) → AreNames w qs → held (Some (names_node f qs)) ≡ each (names_of w f qs)
    names_are f qs named =
        list_row (map (new_name f.locals) (all_held (Some (list_node f kind.ExpressionList c d (holdings f kind.ExpressionList declares qs [] qs)) ∷ [])))
        ∙ ap (λ z. map (new_name f.locals) (z ++ [])) (list_parts w f declares qs (name_operands qs named)) ∙ ap (map (new_name f.locals)) (append-nil (each (values_of (scope_of f) declares qs))) ∙ named_list w f qs

    abbrev found_of : Frame → Trees → Trees → Found
    found_of f qs ps = (all_held_faults f kind.ExpressionList declares qs [] qs ++ []) ++ all_held_faults f kind.ExpressionList several ps [] ps

    define_old : Old w f h kind.Define i j whole
    define_old = record {
      parts = Some (names_node f qs) ∷ Some (values_node f ps) ∷ [];
      found = found_of f qs ps;
      behind = f;
      form = form.Define (length ns);
      laid = each ns ++ each vs;
      is = ap (λ z. readings f kind.Define h z [] [] z) whole_is;
      laid_is = ap (λ z. z ++ (held (Some (values_node f ps)) ++ [])) (names_are f qs named) ∙ ap (λ z. each ns ++ z) (append-nil (held (Some (values_node f ps))) ∙ list_parts w f several ps (expression_operands p ps shape));
      form_is = ap (λ z. form.Define (length z)) (names_are f qs named) ∙ ap form.Define (length_each ns);
    }

    are_names : All (IsName w f) ns
    are_names = all_names w f qs named free

    counted : length ts ≡ length ns
    counted = length_mapped (known_type f.locals) ns

    taking_is : taking f kind.Define (form.Define (length ns)) (each ns ++ each vs) ≡ declared_names (rights_of f) ts vs ++ values_take ts vs
    taking_is = split_two (define_takes f) ns vs

    new_row : news w (each ns ++ each vs) ≡ each ns ++ each (all_new w vs)
    new_row = news_two w (each ns) (each vs) ∙ ap (λ z. z ++ news w (each vs)) (news_each w ns ∙ ap each (names_begun w f ns are_names)) ∙ ap (λ z. each ns ++ z) (news_each w vs)

    new_taking : AllGiven (rights_of f) ts vs (all_new w vs) → taking g kind.Define (form.Define (length ns)) (news w (each ns ++ each vs)) ≡ declared_names (rights_of f) ts vs ++ values_take ts vs
    new_taking ops =
        ap (split_at (length ns) (define_takes g)) new_row ∙ split_two (define_takes g) ns (all_new w vs)
        ∙ ap (λ z. declared_names (rights_of g) z (all_new w vs) ++ values_take z (all_new w vs)) (known_types f g ns st are_names)
        ∙ ap (λ r. declared_names r ts (all_new w vs) ++ values_take ts (all_new w vs)) st.rights
        ∙ ap (λ z. z ++ values_take ts (all_new w vs)) (declared_kept (rights_of f) ts vs (all_new w vs) ops) ∙ ap (λ z. declared_names (rights_of f) ts vs ++ z) (values_take_new w ts vs)

    pub define_reads : ExpressionsTyped → AllProper w ps → no_rule_fails (found_in (reading f h (node kind.Define i j whole))) ≡ true → Fits w false (tree_in (reading f h (node kind.Define i j whole)))
        → Reads w f g h (node kind.Define i j whole)
    unfolding define_old
    define_reads law proper good fits =
        let us : Wanted = value_types_by vs (whole_results (rights_of f) vs) in
        let ks : List Taking = declared_names (rights_of f) ts vs ++ values_take ts vs in
        let ys : Parts = each ns ++ each vs in
        let own = old_rules w f h kind.Define i j whole refl define_old good in
        let all = subst (λ z. AllFit w false (row (all_given z ys))) taking_is (old_fits w f h kind.Define i j whole refl define_old own.1 fits) in
        let known = judged w ks ys (names_are_known f ts us ns (values_take ts vs) (each vs) are_names counted (takes_known w (values_take ts vs) (each vs) (values_take_all w ts vs))) all in
        let fails : define_failing f i j ns vs ≡ [] = sym (split_two (define_failing f i j) ns vs) ∙ rule_of w f h kind.Define i j whole refl f (form.Define (length ns)) ys known own.1 in
        let two = both_none (rules.each at_nil vs) (assignment_failing (rights_of f) i j ts vs) fails in
        let rest = fits_behind f ts us ns (values_take ts vs) (each vs) counted all in
        let gives = assignment_gives w (rights_of f) i j ts vs two.1 rest in
        let found = all_of (all_held_faults f kind.ExpressionList declares qs [] qs ++ []) (all_held_faults f kind.ExpressionList several ps [] ps) own.0 in
        let r = list_reads w law f g several p ps shape refl st proper found.1 (all_will w (rights_of f) ts vs gives) in
        let ops = all_operands w (rights_of f) ts vs r.values gives in
        let now : define_failing g i j ns (all_new w vs) ≡ [] =
        none_of_both (rules.each at_nil (all_new w vs)) (assignment_failing (rights_of g) i j (map (known_type g.locals) ns) (all_new w vs)) (no_nils (rights_of f) ts vs (all_new w vs) ops two.0)
        (ap (λ z. assignment_failing (rights_of g) i j z (all_new w vs)) (known_types f g ns st are_names) ∙ ap (λ q. assignment_failing q i j ts (all_new w vs)) st.rights
        ∙ values_kept (rights_of f) i j ts vs (all_new w vs) ops two.1) in
        let names_new : names_of w g (all_with_variables w qs) ≡ ns = same_names w f g qs st named free in
        let news_named = new_are_names qs named in
        node_reads w f g h kind.Define i j whole define_old refl refl own.1
        (record {
          parts = Some (names_node g (all_with_variables w qs)) ∷ Some (values_node g new) ∷ [];
          found = found_of g (all_with_variables w qs) new;
          behind = g;
          is = ap (λ z. readings g kind.Define h (all_with_variables w z) [] [] (all_with_variables w z)) whole_is;
          laid_is = ap (λ z. z ++ (held (Some (values_node g new)) ++ [])) (names_are g (all_with_variables w qs) news_named ∙ ap each names_new) ∙ ap (λ z. each ns ++ z) (append-nil (held (Some (values_node g new))) ∙ r.parts)
              ∙ sym new_row;
          form_is = ap (λ z. form.Define (length z)) (names_are g (all_with_variables w qs) news_named ∙ ap each names_new) ∙ ap form.Define (length_each ns);
          good = of_all (all_held_faults g kind.ExpressionList declares (all_with_variables w qs) [] (all_with_variables w qs) ++ []) (all_held_faults g kind.ExpressionList several new [] new)
              (ap no_rule_fails (append-nil (all_held_faults g kind.ExpressionList declares (all_with_variables w qs) [] (all_with_variables w qs))
              ∙ list_faults w g declares (all_with_variables w qs) [] (all_with_variables w qs) (name_operands (all_with_variables w qs) news_named))
              ∙ name_faults (scope_of g) (all_with_variables w qs) news_named) r.good;
          rule = own_none w g h kind.Define i j (all_with_variables w whole) refl g (form.Define (length ns))
              (news w ys) (ap (split_at (length ns) (define_failing g i j)) new_row ∙ split_two (define_failing g i j) ns (all_new w vs) ∙ now);
          node = ap (λ z. made (form.Define (length ns)) i j sort.Nothing (news w ys) (all_given z (news w ys))) (new_taking ops)
              ∙ node_put w (form.Define (length ns)) i j ks ys (define_form (length ns)) (names_put f ts us ns (values_take ts vs) (each vs) are_names counted
              (fits_put w (values_take ts vs) vs (values_take_all w ts vs) (all_ready w vs r.values) rest))
              ∙ ap (λ z. begun w false (made (form.Define (length ns)) i j sort.Nothing ys (all_given z ys))) (sym taking_is);
          frame = declared_stand w (back f f) (back g g) (row (all_given (taking f kind.Define (form.Define (length ns)) ys) ys))
              (subst (λ z. AllFresh w (list_of (row (all_given z ys)))) (sym taking_is) (subst (AllFresh w) (sym (list_row (all_given ks ys)))
              (names_fresh f g ts us ns (values_take ts vs) (each vs) st are_names counted (values_fresh (values_take ts vs) vs (values_take_all w ts vs) r.values)))) (back_stands w f g f g st st);
          calm = tt;
        })

  -- The statement, by its parts.
  pub define_row : (i j a b c d e k : ℕ) (p : Place) (qs ps whole : Trees) → whole ≡ more (node kind.NewNames a b (more (node kind.ExpressionList c d qs) none)) (more (node kind.ExpressionList e k ps) none)
      → AreNames w qs → AreExpressions p ps → AllFree w qs → ExpressionsTyped → AllProper w ps → Stated w (node kind.Define i j whole)
  define_row i j a b c d e k p qs ps whole is named shape free law proper =
      stated_by w (node kind.Define i j whole) refl (λ f g h st good fits. define_reads f g h i j a b c d e k p qs ps whole is named shape free st law proper good fits)
