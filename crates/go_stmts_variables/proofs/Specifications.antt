-- Declarations of variables, with variables in their values.
use Rattle.std.proofs.Common.{◌≡◌, ◌∙◌, ℕ, suc, Bool, true, false, List, [], ◌∷◌, ◌++◌, length, drop, Option, Some, None, refl, sym, ap, subst, append-nil}
use Rattle.std.specs.Prelude.{◌&&◌, if◌then◌else◌, replicate}
use Rattle.go_grammar.specs.declared.kind.Category.TheVariants as category
use Rattle.go_grammar.specs.declared.kind.Kind.{Kind}
use Rattle.go_grammar.specs.declared.kind.Kind.TheVariants as kind
use Rattle.go_grammar.specs.declared.kind.Place.{Place}
use Rattle.go_grammar.specs.declared.kind.Sort.TheVariants as declaring
use Rattle.go_grammar.specs.Categories as categories
use Rattle.go_grammar.specs.Trees.{Tree, Trees, node, none, more, kind_of}
use Rattle.go_types.specs.Trees.{TypeTree}
use Rattle.go_types.specs.Relations.{Rights}
use Rattle.go_typed.specs.declared.form.Form.TheVariants as form
use Rattle.go_typed.specs.Trees.{typed, form_of, parts_of, list_of, row}
use Rattle.go_typed.specs.Trees as sort
use Rattle.go_exprs_rules.specs.Scopes.{Hint, several, type_place, declares}
use Rattle.go_exprs_rules.specs.Settling.{Part}
use Rattle.go_exprs_rules.specs.Tables.{Parts, is_held, held, cut, first_cut, present, made}
use Rattle.go_exprs_rules.specs.TypeNodes.{part_type}
use Rattle.go_exprs_rules.specs.Typing.{typing, faults}
use Rattle.go_stmts_defs.specs.Assigning.{Wanted, Taking, rests, whole_results, value_types_by, values_take, declared_names}
use Rattle.go_stmts_defs.specs.Frames.{Frame, rights_of, scope_of}
use Rattle.go_stmts_defs.specs.Laying.{behind_names, typed_or_not}
use Rattle.go_stmts_defs.specs.Reading.{Found, read, all_read, after, list_node, holdings, held_faults, all_held_faults, reading, back}
use Rattle.go_stmts_defs.specs.Rules.{type_there, values_there, variables_failing, variables_take, all_given, taking}
use Rattle.go_exprs_variables.specs.Shapes.{IsShaped}
use Rattle.go_exprs_variables.specs.Variables.{Standins, ends_at, may_be_constant, node_with, with_variables, all_with_variables, Free, AllProper, begun, Fits, AllFit, no_rule_fails, ExpressionsTyped}
use Rattle.go_exprs_variables.proofs.Public.{All, all_new, all_of, each, news, news_each, of_all}
use Rattle.go_stmts_variables.specs.Frames.{FramesStand}
use Rattle.go_stmts_variables.specs.Rules.{AllGiven}
use Rattle.go_stmts_variables.specs.Statements.{tree_in, found_in}
use Rattle.go_stmts_variables.proofs.Declared.{AreDeclared, declared_of, names_held, names_faults, new_declared, same_names, all_declared, declared_begun, puts_declared}
use Rattle.go_stmts_variables.proofs.Declared.{known_declared, fresh_declared, free_typed, free_faults, IsDeclared, TypePart, no_type, a_type, plain_type, typed_form}
use Rattle.go_stmts_variables.proofs.Defines.{declared_kept, fits_behind, values_fresh}
use Rattle.go_stmts_variables.proofs.Expressions.{Will, IsValuePart, all_ready, holding_plain, faults_plain, reading_plain}
use Rattle.go_stmts_variables.proofs.Frames.{back_stands}
use Rattle.go_stmts_variables.proofs.Lists.{AreExpressions, expression_operands, list_row, list_parts, list_values, list_reads}
use Rattle.go_stmts_variables.proofs.Names.{AllFresh, declared_stand}
use Rattle.go_stmts_variables.proofs.Nodes.{Reads, Old, old_rules, old_fits, rule_of, own_none, node_reads, NamesKnown, judged}
use Rattle.go_stmts_variables.proofs.Puts.{Puts, IsStatementForm, node_put, fits_put}
use Rattle.go_stmts_variables.proofs.Returns.{takes_known}
use Rattle.go_stmts_variables.proofs.Rows.{news_two}
use Rattle.go_stmts_variables.proofs.Splits.{length_each, values_take_all, values_take_new}
use Rattle.go_stmts_variables.proofs.Values.{values_kept}
use Rattle.go_stmts_variables.proofs.Wills.{AllGives, all_will, all_operands, assignment_gives}

pub type_told : (k : Kind) → categories.is_type k ≡ true → behind_names k several ≡ type_place
type_told kind.Name e = refl
type_told kind.ParenthesizedType e = refl
type_told kind.SequenceType e = refl
type_told kind.FunctionType e = refl
type_told kind.StructType e = refl
type_told k e = cc

length_replicate : {A : Type 0} (x : A) (ns : List Part) → length (replicate (length ns) x) ≡ length ns
length_replicate x [] = refl
length_replicate x (n ∷ ns) = ap suc (length_replicate x ns)

type_is : (ns : List Part) (o : Option Part) (ys : Parts) → type_there (length ns) (each ns ++ o ∷ ys) ≡ part_type o
type_is [] o ys = refl
type_is (n ∷ ns) o ys = type_is ns o ys

behind_is : (ns : List Part) (o : Option Part) (ys : Parts) → drop (suc (length ns)) (each ns ++ o ∷ ys) ≡ ys
behind_is [] o ys = refl
behind_is (n ∷ ns) o ys = behind_is ns o ys

present_is : (xs : List Part) → present (each xs) ≡ xs
present_is [] = refl
present_is (x ∷ xs) = ap (λ ys. x ∷ ys) (present_is xs)

values_are : (ns : List Part) (o : Option Part) (vs : List Part) → values_there (length ns) (each ns ++ o ∷ each vs) ≡ vs
values_are ns o vs = ap present (behind_is ns o (each vs)) ∙ present_is vs

module _ (w : Standins) where
  -- ---- values, which may be left out

  gives : (rights : Rights) (i j n : ℕ) (t : Option TypeTree) (vs : List Part) → variables_failing rights i j n t vs ≡ [] → AllFit w false (row (all_given (values_take (replicate n t) vs) (each vs))) → AllGives w rights (replicate n t) vs
  gives rights i j n t [] e fits = tt
  gives rights i j n t (x ∷ xs) e fits = assignment_gives w rights i j (replicate n t) (x ∷ xs) e fits

  still_good : (rights : Rights) (i j n : ℕ) (t : Option TypeTree) (vs : List Part) → AllGiven rights (replicate n t) vs (all_new w vs) → variables_failing rights i j n t vs ≡ [] → variables_failing rights i j n t (all_new w vs) ≡ []
  still_good rights i j n t [] g e = refl
  still_good rights i j n t (x ∷ xs) g e = values_kept rights i j (replicate n t) (x ∷ xs) (all_new w (x ∷ xs)) g e

  -- a type and values, or one of them: what is read of them
  pub record Rest (f g : Frame) (r : Tree) : Type 0 where
    pub type : Option Part
    pub values : List Part
    pub part : Part
    pub found : Found
    pub read : reading f (behind_names (kind_of r) several) r ≡ read part found f
    pub laid : first_cut (typed_or_not (Some part)) ≡ type ∷ each values
    pub typed : TypePart w type

  pub record NewRest (f g : Frame) (r : Tree) (old : Rest f g r) : Type 0 where
    pub part : Part
    pub found : Found
    pub read : reading g (behind_names (kind_of (with_variables w r)) several) (with_variables w r) ≡ read part found g
    pub laid : first_cut (typed_or_not (Some part)) ≡ old.type ∷ each (all_new w old.values)
    pub good : no_rule_fails found ≡ true
    pub values : All (IsValuePart w) old.values

  abbrev pub RestReads : Frame → Frame → Tree → Type 0
  RestReads f g r = (old : Rest f g r) × (no_rule_fails old.found ≡ true → All (Will w (rights_of f)) old.values → NewRest f g r old)

  pub values_laid : (c d : ℕ) (xs ys : Parts) → list_of (row xs) ≡ ys → first_cut (typed_or_not (Some (made (form.Held kind.Values) c d sort.Nothing xs xs))) ≡ None ∷ ys
  values_laid c d xs ys e = ap (λ zs. None ∷ zs) e

  pub values_rest : ExpressionsTyped → (f g : Frame) (st : FramesStand w f g) (c d e k : ℕ) (p : Place) (ps : Trees) → AreExpressions p ps → AllProper w ps
      → RestReads f g (node kind.Values c d (more (node kind.ExpressionList e k ps) none))
  values_rest law f g st c d e k p ps shape proper =
      let vs = list_values w f several ps in
      let parts : Frame → Trees → Parts = λ f ps. list_of (row (holdings f kind.ExpressionList several ps [] ps)) ++ [] in
      let faulty : Frame → Trees → Found = λ f ps. all_held_faults f kind.ExpressionList several ps [] ps ++ [] in
      let old : Rest f g (node kind.Values c d (more (node kind.ExpressionList e k ps) none)) = record {
        type = None;
        values = vs;
        part = made (form.Held kind.Values) c d sort.Nothing (parts f ps) (parts f ps);
        found = faulty f ps;
        read = refl;
        laid = values_laid c d (parts f ps) (each vs) (list_row (parts f ps) ∙ append-nil (list_of (row (holdings f kind.ExpressionList several ps [] ps))) ∙ list_parts w f several ps (expression_operands p ps shape));
        typed = no_type w;
      } in (
        old,
        λ good wills.
            let new = all_with_variables w ps in
            let r = list_reads w law f g several p ps shape refl st proper (sym (ap no_rule_fails (append-nil (all_held_faults f kind.ExpressionList several ps [] ps))) ∙ good) wills in
            record {
              part = made (form.Held kind.Values) c d sort.Nothing (parts g new) (parts g new);
              found = faulty g new;
              read = refl;
              laid = values_laid c d (parts g new) (each (all_new w vs)) (list_row (parts g new) ∙ append-nil (list_of (row (holdings g kind.ExpressionList several new [] new))) ∙ r.parts);
              good = ap no_rule_fails (append-nil (all_held_faults g kind.ExpressionList several new [] new)) ∙ r.good;
              values = r.values;
            },
      )

  pub unheld_row : (x : Part) (ys : Parts) → is_held (form_of x) ≡ false → held (Some x) ++ ys ≡ Some x ∷ ys
  unheld_row x ys e = ap (λ b. (if b then list_of (parts_of x) else Some x ∷ []) ++ ys) e

  pub typed_laid : (c d : ℕ) (xs ys : Parts) → list_of (row xs) ≡ ys → first_cut (typed_or_not (Some (made (form.Held kind.TypedValues) c d sort.Nothing xs xs))) ≡ first_cut ys
  typed_laid c d xs ys e = ap first_cut e

  -- how a type with values is read
  typed_read : (f : Frame) (c d e k : ℕ) (t : Tree) (ps : Trees) → categories.is_type (kind_of t) ≡ true
      → reading f several (node kind.TypedValues c d (more t (more (node kind.ExpressionList e k ps) none)))
      ≡ read (made (form.Held kind.TypedValues) c d sort.Nothing (held (Some (typing (scope_of f) type_place t)) ++ (list_of (row (holdings f kind.ExpressionList several ps [] ps)) ++ []))
      (held (Some (typing (scope_of f) type_place t)) ++ (list_of (row (holdings f kind.ExpressionList several ps [] ps)) ++ [])))
      (faults (scope_of f) type_place t ++ (all_held_faults f kind.ExpressionList several ps [] ps ++ [])) f
  typed_read f c d e k (node l m n qs) ps is =
      let t = node l m n qs in
      let plain = plain_type w l is in
      let list : Parts = list_of (row (holdings f kind.ExpressionList several ps [] ps)) ++ [] in
      let rest : Found = all_held_faults f kind.ExpressionList several ps [] ps ++ [] in
      ap (λ x. read (made (form.Held kind.TypedValues) c d sort.Nothing (held (Some x) ++ list) (held (Some x) ++ list)) (held_faults f type_place t ++ rest) f) (holding_plain f type_place l m n qs plain)
      ∙ ap (λ fs. read (made (form.Held kind.TypedValues) c d sort.Nothing (held (Some (typing (scope_of f) type_place t)) ++ list) (held (Some (typing (scope_of f) type_place t)) ++ list)) (fs ++ rest) f)
      (faults_plain f type_place l m n qs plain)

  pub new_type : (t : Tree) → categories.is_type (kind_of t) ≡ true → categories.is_type (kind_of (with_variables w t)) ≡ true
  new_type (node l m n qs) e = by (may_be_constant l && ends_at (w m) n)
    where
      by : (b : Bool) → categories.is_type (kind_of (node_with b l m n (all_with_variables w qs))) ≡ true
      by true = refl
      by false = e

  pub typed_rest : ExpressionsTyped → (f g : Frame) (st : FramesStand w f g) (c d e k : ℕ) (p : Place) (t : Tree) (ps : Trees) → IsShaped category.Type t → categories.is_type (kind_of t) ≡ true → Free w t
      → AreExpressions p ps → AllProper w ps
      → RestReads f g (node kind.TypedValues c d (more t (more (node kind.ExpressionList e k ps) none)))
  typed_rest law f g st c d e k p t ps it is free shape proper =
      let vs = list_values w f several ps in
      let T = typing (scope_of f) type_place t in
      let list : Frame → Trees → Parts = λ f ps. list_of (row (holdings f kind.ExpressionList several ps [] ps)) ++ [] in
      let unheld = (typed_form w (scope_of f) t is).held in
      let T' = typing (scope_of g) type_place (with_variables w t) in
      let same : T' ≡ T = free_typed w f g st type_place t free in
      let old : Rest f g (node kind.TypedValues c d (more t (more (node kind.ExpressionList e k ps) none))) = record {
        type = cut (Some T);
        values = vs;
        part = made (form.Held kind.TypedValues) c d sort.Nothing (held (Some T) ++ list f ps) (held (Some T) ++ list f ps);
        found = faults (scope_of f) type_place t ++ (all_held_faults f kind.ExpressionList several ps [] ps ++ []);
        read = typed_read f c d e k t ps is;
        laid = typed_laid c d (held (Some T) ++ list f ps) (Some T ∷ each vs)
            (list_row (held (Some T) ++ list f ps) ∙ unheld_row T (list f ps) unheld ∙ ap (λ zs. Some T ∷ zs) (append-nil (list_of (row (holdings f kind.ExpressionList several ps [] ps)))
            ∙ list_parts w f several ps (expression_operands p ps shape)));
        typed = a_type w f t it is free;
      } in (
        old,
        λ good wills.
            let new = all_with_variables w ps in
            let both = all_of (faults (scope_of f) type_place t) (all_held_faults f kind.ExpressionList several ps [] ps ++ []) good in
            let r = list_reads w law f g several p ps shape refl st proper (sym (ap no_rule_fails (append-nil (all_held_faults f kind.ExpressionList several ps [] ps))) ∙ both.1) wills in
            record {
              part = made (form.Held kind.TypedValues) c d sort.Nothing (held (Some T') ++ list g new) (held (Some T') ++ list g new);
              found = faults (scope_of g) type_place (with_variables w t) ++ (all_held_faults g kind.ExpressionList several new [] new ++ []);
              read = typed_read g c d e k (with_variables w t) new (new_type t is);
              laid = typed_laid c d (held (Some T') ++ list g new) (Some T ∷ each (all_new w vs))
                  (list_row (held (Some T') ++ list g new) ∙ ap (λ z. held (Some z) ++ list g new) same ∙ unheld_row T (list g new) unheld
                  ∙ ap (λ zs. Some T ∷ zs) (append-nil (list_of (row (holdings g kind.ExpressionList several new [] new))) ∙ r.parts));
              good = of_all (faults (scope_of g) type_place (with_variables w t)) (all_held_faults g kind.ExpressionList several new [] new ++ []) (ap no_rule_fails (free_faults w f g st type_place t free) ∙ both.0)
                  (ap no_rule_fails (append-nil (all_held_faults g kind.ExpressionList several new [] new)) ∙ r.good);
              values = r.values;
            },
      )

  -- ---- a type alone

  no_values : (x : Part) → is_held (form_of x) ≡ false → first_cut (typed_or_not (Some x)) ≡ cut (Some x) ∷ []
  no_values (typed (form.Held k) i j l ps) e = cc
  no_values (typed f i j l ps) e = refl

  pub type_rest : (f g : Frame) (st : FramesStand w f g) (t : Tree) → IsShaped category.Type t → categories.is_type (kind_of t) ≡ true → Free w t → behind_names (kind_of t) several ≡ type_place → RestReads f g t
  type_rest f g st (node l m n qs) shape is free told =
      let t = node l m n qs in
      let T = typing (scope_of f) type_place t in
      let same : typing (scope_of g) type_place (with_variables w t) ≡ T = free_typed w f g st type_place t free in
      let plain = plain_type w l is in
      let old : Rest f g t = record {
        type = cut (Some T);
        values = [];
        part = T;
        found = faults (scope_of f) type_place t;
        read = ap (λ h. reading f h t) told ∙ reading_plain f type_place l m n qs plain;
        laid = no_values T (typed_form w (scope_of f) t is).held;
        typed = a_type w f t shape is free;
      } in (
        old,
        λ good wills. record {
          part = typing (scope_of g) type_place (with_variables w t);
          found = faults (scope_of g) type_place (with_variables w t);
          read = type_new (with_variables w t) (new_type t is);
          laid = ap (λ x. first_cut (typed_or_not (Some x))) same ∙ no_values T (typed_form w (scope_of f) t is).held;
          good = ap no_rule_fails (free_faults w f g st type_place t free) ∙ good;
          values = tt;
        },
      )
    where
      type_new : (x : Tree) → categories.is_type (kind_of x) ≡ true → reading g (behind_names (kind_of x) several) x ≡ read (typing (scope_of g) type_place x) (faults (scope_of g) type_place x) g
      type_new (node k a b xs) e = ap (λ h. reading g h (node k a b xs)) (type_told k e) ∙ reading_plain g type_place k a b xs (plain_type w k e)

  -- ---- a specification

  specified_form : (n : ℕ) → IsStatementForm w (form.Specified n)
  specified_form n = record { held = refl; key = refl; call = refl; name = λ z. refl }

  module _ (f g : Frame) (h : Hint) (i j a b : ℕ) (ds : Trees) (r : Tree) (named : AreDeclared w ds) (rest : RestReads f g r) (st : FramesStand w f g) where
    abbrev ns : List Part
    ns = declared_of w f ds

    abbrev vs : List Part
    vs = rest.0.values

    abbrev o : Option Part
    o = rest.0.type

    abbrev ts : Wanted
    ts = replicate (length ns) (part_type o)

    abbrev names_node : Frame → Trees → Part
    names_node f ds = list_node f kind.NameList a b (holdings f kind.NameList declares ds [] ds)

    abbrev names_found : Frame → Trees → Found
    names_found f ds = all_held_faults f kind.NameList declares ds [] ds

    names_are : (f : Frame) (ds : Trees) → AreDeclared w ds → held (Some (names_node f ds)) ≡ each (declared_of w f ds)
    names_are f ds named = list_row (holdings f kind.NameList declares ds [] ds) ∙ names_held w f declares ds [] ds named

    specified_old : Old w f h (kind.Specification declaring.Variable) i j (more (node kind.NameList a b ds) (more r none))
    specified_old = record {
      parts = Some (names_node f ds) ∷ Some rest.0.part ∷ [];
      found = names_found f ds ++ rest.0.found;
      behind = f;
      form = form.Specified (length ns);
      laid = each ns ++ o ∷ each vs;
      is = ap (λ z. after z (λ x gs t. all_read (Some (names_node f ds) ∷ Some x ∷ []) (names_found f ds ++ gs) t)) rest.0.read;
      laid_is = ap (λ z. z ++ first_cut (typed_or_not (Some rest.0.part))) (names_are f ds named) ∙ ap (λ z. each ns ++ z) rest.0.laid;
      form_is = ap (λ z. form.Specified (length z)) (names_are f ds named) ∙ ap form.Specified (length_each ns);
    }

    are_names : All (IsDeclared w f) ns
    are_names = all_declared w f ds named

    counted : length ts ≡ length ns
    counted = length_replicate (part_type o) ns

    names_new : (xs : List Part) → All (IsDeclared w f) xs → all_new w xs ≡ xs
    names_new [] e = refl
    names_new (x ∷ xs) e = ap (λ y. y ∷ all_new w xs) (declared_begun w f x e.0) ∙ ap (λ ys. x ∷ ys) (names_new xs e.1)

    new_row : news w (each ns ++ o ∷ each vs) ≡ each ns ++ o ∷ each (all_new w vs)
    new_row = news_two w (each ns) (o ∷ each vs) ∙ ap (λ z. z ++ news w (o ∷ each vs)) (news_each w ns ∙ ap each (names_new ns are_names)) ∙ ap (λ z. each ns ++ z ∷ news w (each vs)) rest.0.typed.begun
        ∙ ap (λ z. each ns ++ o ∷ z) (news_each w vs)

    abbrev taken : Rights → List Part → List Taking
    taken q xs = declared_names q ts xs ++ rests ∷ values_take ts xs

    taking_by : (s : Frame) (xs : List Part) → taking s (kind.Specification declaring.Variable) (form.Specified (length ns)) (each ns ++ o ∷ each xs) ≡ taken (rights_of s) xs
    taking_by s xs = ap (λ t. variables_take (rights_of s) (length ns) t (values_there (length ns) (each ns ++ o ∷ each xs))) (type_is ns o (each xs)) ∙ ap (variables_take (rights_of s) (length ns) (part_type o)) (values_are ns o xs)

    failing_by : (s : Frame) (xs : List Part) → variables_failing (rights_of s) i j (length ns) (type_there (length ns) (each ns ++ o ∷ each xs)) (values_there (length ns) (each ns ++ o ∷ each xs))
        ≡ variables_failing (rights_of s) i j (length ns) (part_type o) xs
    failing_by s xs = ap (λ t. variables_failing (rights_of s) i j (length ns) t (values_there (length ns) (each ns ++ o ∷ each xs))) (type_is ns o (each xs))
        ∙ ap (variables_failing (rights_of s) i j (length ns) (part_type o)) (values_are ns o xs)

    first_rest : (o : Option Part) (ks : List Taking) (ys : Parts) → AllFit w false (row (all_given (rests ∷ ks) (o ∷ ys))) → AllFit w false (row (o ∷ [])) × AllFit w false (row (all_given ks ys))
    first_rest None ks ys fits = (tt, fits)
    first_rest (Some x) ks ys fits = ((fits.0, tt), fits.1)

    with_type : (o : Option Part) (ks : List Taking) (ys : Parts) → Puts w (rests ∷ []) (o ∷ []) → Puts w ks ys → Puts w (rests ∷ ks) (o ∷ ys)
    with_type None ks ys p q = q
    with_type (Some x) ks ys p q = (p.0, q)

    type_known : (o : Option Part) (ks : List Taking) (ys : Parts) → NamesKnown w ks ys → NamesKnown w (rests ∷ ks) (o ∷ ys)
    type_known None ks ys n = n
    type_known (Some x) ks ys n = n

    type_fresh : (o : Option Part) (ks : List Taking) (ys : Parts) → AllFresh w (o ∷ []) → AllFresh w (all_given ks ys) → AllFresh w (all_given (rests ∷ ks) (o ∷ ys))
    type_fresh None ks ys p q = q
    type_fresh (Some x) ks ys p q = (p.0, q)

    pub specified_reads : ExpressionsTyped → no_rule_fails (found_in (reading f h (node (kind.Specification declaring.Variable) i j (more (node kind.NameList a b ds) (more r none))))) ≡ true
        → Fits w false (tree_in (reading f h (node (kind.Specification declaring.Variable) i j (more (node kind.NameList a b ds) (more r none)))))
        → Reads w f g h (node (kind.Specification declaring.Variable) i j (more (node kind.NameList a b ds) (more r none)))
    unfolding specified_old
    specified_reads law good fits =
        let k = kind.Specification declaring.Variable in
        let ps : Trees = more (node kind.NameList a b ds) (more r none) in
        let n = length ns in
        let ys : Parts = each ns ++ o ∷ each vs in
        let R = rights_of f in
        let us : Wanted = value_types_by vs (whole_results R vs) in
        let ks : List Taking = values_take ts vs in
        let own = old_rules w f h k i j ps refl specified_old good in
        let all = subst (λ z. AllFit w false (row (all_given z ys))) (taking_by f vs) (old_fits w f h k i j ps refl specified_old own.1 fits) in
        let rest_known = type_known o ks (each vs) (takes_known w ks (each vs) (values_take_all w ts vs)) in
        let known = judged w (taken R vs) ys (known_declared w f ts us ns (rests ∷ ks) (o ∷ each vs) are_names counted rest_known) all in
        let fails : variables_failing R i j n (part_type o) vs ≡ [] = sym (failing_by f vs) ∙ rule_of w f h k i j ps refl f (form.Specified n) ys known own.1 in
        let two = first_rest o ks (each vs) (fits_behind w f ts us ns (rests ∷ ks) (o ∷ each vs) counted all) in
        let gave = gives R i j n (part_type o) vs fails two.1 in
        let found = all_of (names_found f ds) rest.0.found own.0 in
        let new = rest.1 found.1 (all_will w R ts vs gave) in
        let ops = all_operands w R ts vs new.values gave in
        let r' = with_variables w r in
        let new_ds = all_with_variables w ds in
        let named_now = new_declared w ds named in
        let names_now : declared_of w g new_ds ≡ ns = same_names w f g ds st named in
        let taking_now : taking g k (form.Specified n) (news w ys) ≡ taken R vs =
        ap (taking g k (form.Specified n)) new_row ∙ taking_by g (all_new w vs) ∙ ap (λ q. declared_names q ts (all_new w vs) ++ rests ∷ values_take ts (all_new w vs)) st.rights
        ∙ ap (λ z. z ++ rests ∷ values_take ts (all_new w vs)) (declared_kept w R ts vs (all_new w vs) ops) ∙ ap (λ z. declared_names R ts vs ++ rests ∷ z) (values_take_new w ts vs) in
        node_reads w f g h k i j ps specified_old refl refl own.1
        (record {
          parts = Some (names_node g new_ds) ∷ Some new.part ∷ [];
          found = names_found g new_ds ++ new.found;
          behind = g;
          is = ap (λ z. after z (λ x gs t. all_read (Some (names_node g new_ds) ∷ Some x ∷ []) (names_found g new_ds ++ gs) t)) new.read;
          laid_is = ap (λ z. z ++ first_cut (typed_or_not (Some new.part))) (names_are g new_ds named_now ∙ ap each names_now) ∙ ap (λ z. each ns ++ z) new.laid ∙ sym new_row;
          form_is = ap (λ z. form.Specified (length z)) (names_are g new_ds named_now ∙ ap each names_now) ∙ ap form.Specified (length_each ns);
          good = of_all (names_found g new_ds) new.found (ap no_rule_fails (names_faults w g declares new_ds [] new_ds named_now)) new.good;
          rule = own_none w g h k i j (all_with_variables w ps) refl g (form.Specified n) (news w ys)
              (ap (λ zs. variables_failing (rights_of g) i j n (type_there n zs) (values_there n zs)) new_row ∙ failing_by g (all_new w vs) ∙ ap (λ q. variables_failing q i j n (part_type o) (all_new w vs)) st.rights
              ∙ still_good R i j n (part_type o) vs ops fails);
          node = ap (λ z. made (form.Specified n) i j sort.Nothing (news w ys) (all_given z (news w ys))) taking_now
              ∙ node_put w (form.Specified n) i j (taken R vs) ys (specified_form n) (puts_declared w f ts us ns (rests ∷ ks) (o ∷ each vs) are_names counted
              (with_type o ks (each vs) (rest.0.typed.put two.0) (fits_put w ks vs (values_take_all w ts vs) (all_ready w vs new.values) two.1)))
              ∙ ap (λ z. begun w false (made (form.Specified n) i j sort.Nothing ys (all_given z ys))) (sym (taking_by f vs));
          frame = declared_stand w (back f f) (back g g) (row (all_given (taking f k (form.Specified n) ys) ys))
              (subst (λ z. AllFresh w (list_of (row (all_given z ys)))) (sym (taking_by f vs)) (subst (AllFresh w) (sym (list_row (all_given (taken R vs) ys)))
              (fresh_declared w f g ts us ns (rests ∷ ks) (o ∷ each vs) st are_names counted (type_fresh o ks (each vs) rest.0.typed.fresh (values_fresh w ks vs (values_take_all w ts vs) new.values))))) (back_stands w f g f g st st);
          calm = tt;
        })
