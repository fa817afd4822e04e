-- Range clauses that declare names, with variables in what they go over.
use Rattle.std.proofs.Common.{◌≡◌, ◌∙◌, ℕ, zero, suc, ◌-◌, Bool, true, false, List, [], ◌∷◌, ◌++◌, length, map, take, Option, Some, None, refl, sym, ap, subst, append-nil}
use Rattle.std.specs.Prelude.{◌||◌, if◌then◌else◌, replicate}
use Rattle.std.specs.List.{list_any}
use Rattle.go_grammar.specs.declared.kind.Kind.TheVariants as kind
use Rattle.go_grammar.specs.declared.kind.Place.{Place}
use Rattle.go_grammar.specs.Grammar.{any}
use Rattle.go_grammar.specs.Trees.{Tree, Trees, node, none, more}
use Rattle.go_types.specs.Trees.{TypeTree}
use Rattle.go_types.specs.Relations.{Rights}
use Rattle.go_typed.specs.declared.form.Form.{Form}
use Rattle.go_typed.specs.declared.form.Form.TheVariants as form
use Rattle.go_typed.specs.Trees.{Label, typed, Typeds, sort_of, form_of, label_of, parts_of, list_of, row}
use Rattle.go_typed.specs.Trees as sort
use Rattle.go_exprs_rules.specs.declared.family.OpenKind.{OpenKind}
use Rattle.go_exprs_rules.specs.Names.{declared_form}
use Rattle.go_exprs_rules.specs.Scopes.{value, declares}
use Rattle.go_exprs_rules.specs.Settling.{Part, default, as_type, given, defaulted, settled}
use Rattle.go_exprs_rules.specs.Sorts.{Stands, int, open_kind, own_type, default_type}
use Rattle.go_exprs_rules.specs.Tables.{Parts, is_held, held, all_held, is_judged, calls_in, varies_in, present, made}
use Rattle.go_stmts_defs.specs.Assigning.{Taking, takes, stands, rests}
use Rattle.go_stmts_defs.specs.Frames.{Frame, rights_of, scope_of}
use Rattle.go_stmts_defs.specs.Laying.{new_form, new_name, loop_header, loop_form}
use Rattle.go_stmts_defs.specs.Reading.{Found, all_read, list_node, holdings, all_held_faults, reading, back, is_new, declares_sort, declares_name, declares_all}
use Rattle.go_stmts_defs.specs.Rules.{is_open_number, number_target, range_types, range_assigned, last_part, type_stands, elements_stand, range_stands, all_given, given_part, taking, own_faults, built_by}
use Rattle.clone_window.specs.Masses.{is_hole, is_inside}
use Rattle.go_exprs_variables.specs.Over.{any_varies, varies_over}
use Rattle.go_exprs_variables.specs.Shapes.{IsShaped}
use Rattle.go_exprs_variables.specs.Variables.{Standin, Standins, at_hole, put_over, put, all_put, wanted, put_with, with_variables, all_with_variables, all_begun, AllFree, Proper, begun, Fits, no_rule_fails, ExpressionsTyped}
use Rattle.go_exprs_variables.proofs.Public.{All, all_new, all_of, calls_kept, each, news, news_each, of_all}
use Rattle.go_stmts_variables.specs.Frames.{FramesStand}
use Rattle.go_stmts_variables.specs.Rules.{Targets}
use Rattle.go_stmts_variables.specs.Statements.{tree_in, found_in, frame_in}
use Rattle.go_stmts_variables.specs.Steady.{Keeps, type_taken}
use Rattle.go_stmts_variables.proofs.Declared.{leaf_put, leaf_begun}
use Rattle.go_stmts_variables.proofs.Defines.{name_faults, new_are_names, name_operands, taken_form}
use Rattle.go_stmts_variables.proofs.Expressions.{IsValuePart}
use Rattle.go_stmts_variables.proofs.Frames.{back_stands}
use Rattle.go_stmts_variables.proofs.Headers.{reading_unheld, begun_plain_part}
use Rattle.go_stmts_variables.proofs.Left.{leaving_rights}
use Rattle.go_stmts_variables.proofs.Lists.{values_of, list_row, list_parts, list_faults}
use Rattle.go_stmts_variables.proofs.Names.{IsName, name_label, name_held, name_fresh, names_of, AreNames, named_list, all_names, same_names, names_begun, DeclaresFresh, sort_stands}
use Rattle.go_stmts_variables.proofs.Nodes.{Old, old_closed, old_rules, sound_node, node_reads}
use Rattle.go_stmts_variables.proofs.Operates.{same_rights}
use Rattle.go_stmts_variables.proofs.Puts.{Put, begun_as, varies_taken}
use Rattle.go_stmts_variables.proofs.Ranges.{same_range_types, open_number_types}
use Rattle.go_stmts_variables.proofs.RangeHeads.{nothing_wrong, count_front, one_less, front_count, self_targets, unheld_one}
use Rattle.go_stmts_variables.proofs.RangeLoops.{range_take, RangeHead, RangeRead, range_will}
use Rattle.go_stmts_variables.proofs.Roles.{value_reads, varies_row, row_begun}
use Rattle.go_stmts_variables.proofs.Rows.{after_is, news_two}
use Rattle.go_stmts_variables.proofs.Splits.{present_two}
use Rattle.go_stmts_variables.proofs.Wills.{take_of, operand_default}

-- ---- names that are given what they stand for

abbrev given_names : List Taking → List Part → List Part
given_names [] ns = ns
given_names (k ∷ ks) [] = []
given_names (k ∷ ks) (n ∷ ns) = given_part k n ∷ given_names ks ns

taken_front : (ks : List Taking) (ns : List Part) (ys : Parts) → all_given (take (length ns) ks) (each ns ++ ys) ≡ each (given_names (take (length ns) ks) ns) ++ ys
taken_front ks [] ys = refl
taken_front [] (n ∷ ns) ys = refl
taken_front (k ∷ ks) (n ∷ ns) ys = ap (λ zs. Some (given_part k n) ∷ zs) (taken_front ks ns ys)

repeated_front : (k : Taking) (ns : List Part) (ys : Parts) → all_given (replicate (length ns) k) (each ns ++ ys) ≡ each (given_names (replicate (length ns) k) ns) ++ ys
repeated_front k [] ys = refl
repeated_front k (n ∷ ns) ys = ap (λ zs. Some (given_part k n) ∷ zs) (repeated_front k ns ys)

names_front : (o : Option (List TypeTree)) (ns : List Part) (ys : Parts) → all_given (elements_stand (length ns) o) (each ns ++ ys) ≡ each (given_names (elements_stand (length ns) o) ns) ++ ys
names_front (Some rs) ns ys = taken_front (map type_stands rs) ns ys
names_front None ns ys = repeated_front (stands sort.Unknown) ns ys

last_is : (ns : List Part) (x : Part) → last_part (ns ++ x ∷ []) ≡ Some x
last_is [] x = refl
last_is (n ∷ []) x = refl
last_is (n ∷ m ∷ ns) x = last_is (m ∷ ns) x

given_sort : (z : Stands) (x : Part) → sort_of (given_part (stands z) x) ≡ z
given_sort z (typed f i j l ps) = refl

-- each says what its name stands for
abbrev AllStand : List Taking → Type 0
AllStand [] = Unit {0}
AllStand (stands z ∷ ks) = AllStand ks
AllStand (k ∷ ks) = ⊥

types_stand : (n : ℕ) (rs : List TypeTree) → AllStand (take n (map type_stands rs))
types_stand zero rs = tt
types_stand (suc n) [] = tt
types_stand (suc n) (r ∷ rs) = types_stand n rs

nothing_stands : (n : ℕ) → AllStand (replicate n (stands sort.Unknown))
nothing_stands zero = tt
nothing_stands (suc n) = nothing_stands n

elements_are : (n : ℕ) (o : Option (List TypeTree)) → AllStand (elements_stand n o)
elements_are n (Some rs) = types_stand n rs
elements_are n None = nothing_stands n

module _ (w : Standins) where
  -- ---- a name that is given what it stands for is one still

  record IsGiven (x : Part) : Type 0 where
    pub begun : begun w false x ≡ x
    pub put : Put w rests x
    pub fresh : DeclaresFresh w x

  leaf_given : (f g : Frame) (z : Stands) (x : Part) → FramesStand w f g → IsName w f x → IsGiven (given_part (stands z) x)
  leaf_given f g z x st h =
      let fm = new_form f.locals (declared_form (scope_of f) (f.around.objects h.first)) in
      let y : Part = typed fm h.first h.last (record (name_label w f h.first) { sort = z }) sort.none in
      let is : given_part (stands z) x ≡ y = ap (given_part (stands z)) h.is in
      let held : is_held fm ≡ false = sym (ap (λ y. is_held (form_of y)) h.is) ∙ name_held w f x h in
      let same : begun w false (given_part (stands z) x) ≡ given_part (stands z) x = ap (begun w false) is ∙ leaf_begun w fm h.first h.last (record (name_label w f h.first) { sort = z }) held h.free ∙ sym is in
      record {
        begun = same;
        put = record {
          given = same ∙ is ∙ sym (leaf_put w fm h.first h.last (record (name_label w f h.first) { sort = z }) h.free) ∙ ap (put w false) (sym is);
          calls = ap (λ y. (label_of y).calls) same;
        };
        fresh = λ n e. name_fresh w f g x z n st h e;
      }

  name_given : (f g : Frame) (x : Part) → FramesStand w f g → IsName w f x → IsGiven x
  name_given f g x st h =
      let is : given_part (stands sort.Nothing) x ≡ x = ap (given_part (stands sort.Nothing)) h.is ∙ sym h.is in
      subst IsGiven is (leaf_given f g sort.Nothing x st h)

  all_given_names : (f g : Frame) (ks : List Taking) (ns : List Part) → AllStand ks → FramesStand w f g → All (IsName w f) ns → All IsGiven (given_names ks ns)
  all_given_names f g [] [] a st h = tt
  all_given_names f g [] (n ∷ ns) a st h = (name_given f g n st h.0, all_given_names f g [] ns tt st h.1)
  all_given_names f g (stands z ∷ ks) [] a st h = tt
  all_given_names f g (stands z ∷ ks) (n ∷ ns) a st h = (leaf_given f g z n st h.0, all_given_names f g ks ns a st h.1)
  all_given_names f g (takes k ∷ ks) ns a st h = elim a [ ]

  given_new : (xs : List Part) → All IsGiven xs → all_new w xs ≡ xs
  given_new [] h = refl
  given_new (x ∷ xs) h = ap (λ y. y ∷ all_new w xs) h.0.begun ∙ ap (λ ys. x ∷ ys) (given_new xs h.1)

  given_puts : (xs : List Part) → All IsGiven xs → All (Put w rests) xs
  given_puts [] h = tt
  given_puts (x ∷ xs) h = (h.0.put, given_puts xs h.1)

  -- what is declared behind the clause
  names_stand : (ts : List Part) (x y : Part) (f g : Frame) → All IsGiven ts → is_new (form_of x) ≡ None → is_new (form_of y) ≡ None → FramesStand w f g
      → FramesStand w (declares_all (each ts ++ Some x ∷ []) f) (declares_all (each ts ++ Some y ∷ []) g)
  names_stand [] x y f g h e m st =
      subst (λ o. FramesStand w (declares_sort o (sort_of x) f) (declares_sort (is_new (form_of y)) (sort_of y) g)) (sym e) (subst (λ o. FramesStand w f (declares_sort o (sort_of y) g)) (sym m) st)
  names_stand (t ∷ ts) x y f g h e m st = names_stand ts x y (declares_name (Some t) f) (declares_name (Some t) g) h.1 e m (sort_stands w f g (is_new (form_of t)) (sort_of t) h.0.fresh st)

  -- ---- labels

  varies_given : (ks : List Taking) (ns : List Part) (x : Part) → AllStand ks → length ks ≡ length ks → list_any varies_in (each (given_names ks ns) ++ Some x ∷ []) ≡ list_any varies_in (each ns ++ Some x ∷ [])
  varies_given [] ns x a e = refl
  varies_given (stands z ∷ ks) [] x a e = refl
  varies_given (stands z ∷ ks) (n ∷ ns) x a e =
      ap (λ b. b || list_any varies_in (each (given_names ks ns) ++ Some x ∷ [])) (varies_taken w (stands z) n) ∙ ap (λ b. (label_of n).varies || b) (varies_given ks ns x a refl)
  varies_given (takes k ∷ ks) ns x a e = elim a [ ]

  varies_front : (b : Bool) (xs : List Part) (x : Part) → varies_over b (row (each xs ++ Some x ∷ [])) ≡ any_varies (row (each xs ++ Some x ∷ []))
  varies_front b [] x = refl
  varies_front b (y ∷ xs) x = refl

  calls_names : (f : Frame) (ns : List Part) (x : Part) → IsValuePart w x → list_any calls_in (each ns ++ Some (begun w false x) ∷ []) ≡ list_any calls_in (each ns ++ Some x ∷ [])
  calls_names f [] x v = ap (λ b. b || false) (calls_kept [] w false x v.ready)
  calls_names f (n ∷ ns) x v = ap (λ b. (label_of n).calls || b) (calls_names f ns x v)

  -- ---- the clause

  begun_new : (x : Part) → is_new (form_of x) ≡ None → is_held (form_of x) ≡ false → is_new (form_of (begun w false x)) ≡ None
  begun_new x e h = ap (λ y. is_new (form_of y)) (begun_as w x (wanted w false x) h refl) ∙ with_new (wanted w false x) x e
    where
      over_new : (o : Option Standin) (fm : Form) (i j : ℕ) (l : Label TypeTree) (qs : Typeds TypeTree) → is_new fm ≡ None → is_new (form_of (put_over o fm i j l qs)) ≡ None
      over_new None fm i j l qs e = e
      over_new (Some u) fm i j l qs e = refl

      put_new : (x : Part) → is_new (form_of x) ≡ None → is_new (form_of (put w false x)) ≡ None
      put_new (typed fm i j l ps) e = over_new (at_hole w (is_hole false fm l) i) fm i j l (all_put w (is_inside false fm l) ps) e

      with_new : (o : Option TypeTree) (x : Part) → is_new (form_of x) ≡ None → is_new (form_of (put_with w false o x)) ≡ None
      with_new None x e = put_new x e
      with_new (Some t) x e = put_new (settled t x) (ap is_new (taken_form w (as_type t) x) ∙ e)

  module _ (f : Frame) (a b c d e k : ℕ) (r : Place) (qs : Trees) (q : Tree) (named : AreNames w qs) (free : AllFree w qs) (shape : IsShaped (any r) q) where
    abbrev ns : List Part
    ns = names_of w f qs

    abbrev v : Part
    v = tree_in (reading f value q)

    abbrev S : Frame
    S = frame_in (reading f value q)

    abbrev ps : Trees
    ps = more (node kind.NewNames c d (more (node kind.ExpressionList e k qs) none)) (more q none)

    abbrev hd : Tree
    hd = node kind.DefiningRange a b (more (node kind.NewNames c d (more (node kind.ExpressionList e k qs) none)) (more q none))

    abbrev ks : List Taking
    ks = elements_stand (length ns) (range_types (rights_of f) v)

    abbrev ts : List Part
    ts = given_names (elements_stand (length ns) (range_types (rights_of f) v)) ns

    abbrev ys : Parts
    ys = each ns ++ Some v ∷ []

    abbrev names_node : Frame → Trees → Part
    names_node f qs = list_node f kind.NewNames c d (map (new_name f.locals) (all_held (Some (list_node f kind.ExpressionList e k (holdings f kind.ExpressionList declares qs [] qs)) ∷ [])))

    abbrev names_found : Frame → Trees → Found
    names_found f qs = all_held_faults f kind.ExpressionList declares qs [] qs ++ []

    names_are : (f : Frame) (qs : Trees) → AreNames w qs → held (Some (names_node f qs)) ≡ each (names_of w f qs)
    names_are f qs named =
        list_row (map (new_name f.locals) (all_held (Some (list_node f kind.ExpressionList e k (holdings f kind.ExpressionList declares qs [] qs)) ∷ [])))
        ∙ ap (λ z. map (new_name f.locals) (z ++ [])) (list_parts w f declares qs (name_operands w qs named)) ∙ ap (map (new_name f.locals)) (append-nil (each (values_of (scope_of f) declares qs))) ∙ named_list w f qs

    defining_old : Old w f value kind.DefiningRange a b (more (node kind.NewNames c d (more (node kind.ExpressionList e k qs) none)) (more q none))
    defining_old = record {
      parts = Some (names_node f qs) ∷ Some v ∷ [];
      found = names_found f qs ++ found_in (reading f value q);
      behind = S;
      form = form.Held kind.DefiningRange;
      laid = ys;
      is = after_is (reading f value q) (λ x gs t. all_read (Some (names_node f qs) ∷ Some x ∷ []) (names_found f qs ++ gs) t);
      laid_is = ap (λ z. z ++ (held (Some v) ++ [])) (names_are f qs named) ∙ ap (λ z. each ns ++ z) (unheld_one w v (reading_unheld w f r q shape));
      form_is = refl;
    }

    -- what its names stand for
    taking_by : (s : Frame) (x : Part) → taking s kind.DefiningRange (form.Held kind.DefiningRange) (each ns ++ Some x ∷ []) ≡ elements_stand (length ns) (range_types (rights_of s) x)
    taking_by s x =
        ap (λ n. range_stands (rights_of s) n (last_part (present (each ns ++ Some x ∷ [])))) (ap (λ n. n - 1) (count_front ns x) ∙ one_less (length ns))
        ∙ ap (range_stands (rights_of s) (length ns)) (ap last_part (present_two ns (x ∷ [])) ∙ last_is ns x)

    old_taking : taking S kind.DefiningRange (form.Held kind.DefiningRange) ys ≡ ks
    old_taking = taking_by S v ∙ ap (λ q. elements_stand (length ns) (range_types q v)) (same_rights w f r q shape)

    defining_is : tree_in (reading f value hd) ≡ made (form.Held kind.DefiningRange) a b sort.Nothing ys (each ts ++ Some v ∷ [])
    unfolding defining_old
    defining_is =
        ap tree_in (old_closed w f value kind.DefiningRange a b ps refl defining_old) ∙ sound_node w f value kind.DefiningRange a b ps refl S (form.Held kind.DefiningRange) ys (nothing_wrong (is_judged ys))
        ∙ ap (λ z. made (form.Held kind.DefiningRange) a b sort.Nothing ys (all_given z ys)) old_taking ∙ ap (made (form.Held kind.DefiningRange) a b sort.Nothing ys) (names_front (range_types (rights_of f) v) ns (Some v ∷ []))

    -- a number that takes the type of the first name takes its default type
    default_fits : Fits w false (given (range_take ts v) v) → Fits w false (given default v)
    default_fits fits = by (is_open_number (sort_of v)) refl
      where
        first_name : (ns : List Part) (k : OpenKind) (o : Option (List TypeTree)) → o ≡ Some (default_type k ∷ int ∷ []) → open_kind (sort_of v) ≡ Some k
            → Fits w false (given (take_of (number_target (given_names (elements_stand (length ns) o) ns))) v) → Fits w false (given default v)
        first_name [] k o m n fits = subst (λ z. Fits w false (given (take_of (number_target (given_names (elements_stand 0 z) []))) v)) m fits
        first_name (x ∷ ns) k o m n fits =
            let typed : Fits w false (given (take_of (own_type (sort_of (given_part (stands (sort.Value (default_type k))) x)))) v) =
            subst (λ z. Fits w false (given (take_of (number_target (given_names (elements_stand (suc (length ns)) z) (x ∷ ns)))) v)) m fits in
            let settled_fits : Fits w false (settled (default_type k) v) = subst (λ z. Fits w false (given (take_of (own_type z)) v)) (given_sort (sort.Value (default_type k)) x) typed in
            subst (λ o. Fits w false (defaulted o v)) (sym n) settled_fits

        by : (b : Bool) → is_open_number (sort_of v) ≡ b → Fits w false (given default v)
        by false m = subst (λ b. Fits w false (given (if b then take_of (number_target ts) else default) v)) m fits
        by true m =
            let n = open_number_types (rights_of f) v m in
            first_name ns n.0 (range_types (rights_of f) v) n.2 n.1 (subst (λ b. Fits w false (given (if b then take_of (number_target ts) else default) v)) m fits)

    defining_reads : (g : Frame) → ExpressionsTyped → Proper w q → (Q : Rights) (i j : ℕ) → FramesStand w f g → no_rule_fails (found_in (reading f value hd)) ≡ true
        → range_assigned Q i j ts v (range_types Q v) ≡ [] → Fits w false (given (range_take ts v) v) → Keeps (rights_of f) Q (type_taken (takes (range_take ts v))) → RangeRead w f g Q hd ts v
    unfolding defining_old
    defining_reads g law px Q i j st good rule fits keeps =
        let R = rights_of f in
        let fm = form.Held kind.DefiningRange in
        let own = old_rules w f value kind.DefiningRange a b ps refl defining_old good in
        let found = all_of (names_found f qs) (found_in (reading f value q)) own.0 in
        let u = value_reads w law f g value r q shape refl st px found.1 (range_will w Q i j ts v (self_targets Q ts) rule fits R keeps) in
        let given_facts = all_given_names f g ks ns (elements_are (length ns) (range_types R v)) st (all_names w f qs named free) in
        let new_qs = all_with_variables w qs in
        let new_q = with_variables w q in
        let v' = tree_in (reading g value new_q) in
        let z = begun w false v in
        let T = frame_in (reading g value new_q) in
        let named_now = new_are_names w qs named in
        let names_now : names_of w g new_qs ≡ ns = same_names w f g qs st named free in
        let new_row : news w ys ≡ each ns ++ Some z ∷ [] = news_two w (each ns) (Some v ∷ []) ∙ ap (λ n. n ++ Some z ∷ []) (news_each w ns ∙ ap each (names_begun w f ns (all_names w f qs named free))) in
        let types_now : range_types R z ≡ range_types R v = same_range_types R v z (operand_default w R v u.value (default_fits fits)) in
        let rights_now : rights_of T ≡ R = u.reads.frame.rights ∙ same_rights w f r q shape in
        let taking_now : taking T kind.DefiningRange fm (news w ys) ≡ ks =
        ap (taking T kind.DefiningRange fm) new_row ∙ taking_by T z ∙ ap (λ q. elements_stand (length ns) (range_types q z)) rights_now ∙ ap (elements_stand (length ns)) types_now in
        let given_now : all_given (taking T kind.DefiningRange fm (news w ys)) (news w ys) ≡ each ts ++ Some z ∷ [] =
        ap (λ q. all_given q (news w ys)) taking_now ∙ ap (all_given ks) new_row ∙ names_front (range_types R v) ns (Some z ∷ []) in
        let given_old : all_given (taking S kind.DefiningRange fm ys) ys ≡ each ts ++ Some v ∷ [] = ap (λ q. all_given q ys) old_taking ∙ names_front (range_types R v) ns (Some v ∷ []) in
        let row_now : all_begun w false (row (each ts ++ Some v ∷ [])) ≡ row (each ts ++ Some z ∷ []) =
        sym (row_begun w (each ts ++ Some v ∷ [])) ∙ ap row (news_two w (each ts) (Some v ∷ []) ∙ ap (λ n. n ++ Some z ∷ []) (news_each w ts ∙ ap each (given_new ts given_facts))) in
        let varies_now : list_any varies_in (news w ys) ≡ varies_over (list_any varies_in ys) (row (each ts ++ Some z ∷ [])) =
        ap (list_any varies_in) new_row ∙ sym (varies_given ks ns z (elements_are (length ns) (range_types R v)) refl) ∙ varies_row w (each ts ++ Some z ∷ []) ∙ sym (varies_front (list_any varies_in ys) ts z) in
        let calls_now : list_any calls_in (news w ys) ≡ list_any calls_in ys = ap (list_any calls_in) new_row ∙ calls_names f ns v u.value in
        let node_now : made fm a b sort.Nothing (news w ys) (each ts ++ Some z ∷ []) ≡ begun w false (made fm a b sort.Nothing ys (each ts ++ Some v ∷ [])) =
        ap (λ b'. typed fm a b (record { sort = sort.Nothing; varies = b'; calls = list_any calls_in (news w ys) }) (row (each ts ++ Some z ∷ []))) varies_now
        ∙ ap (λ b'. typed fm a b (record { sort = sort.Nothing; varies = varies_over (list_any varies_in ys) (row (each ts ++ Some z ∷ [])); calls = b' }) (row (each ts ++ Some z ∷ []))) calls_now
        ∙ ap (λ zs. typed fm a b (record { sort = sort.Nothing; varies = varies_over (list_any varies_in ys) zs; calls = list_any calls_in ys }) zs) (sym row_now) in
        let plain_now : is_new (form_of z) ≡ None = begun_new v u.value.plain (reading_unheld w f r q shape) in
        record {
          reads = node_reads w f g value kind.DefiningRange a b ps defining_old refl refl own.1
              (record {
                parts = Some (names_node g new_qs) ∷ Some v' ∷ [];
                found = names_found g new_qs ++ found_in (reading g value new_q);
                behind = T;
                is = after_is (reading g value new_q) (λ x gs t. all_read (Some (names_node g new_qs) ∷ Some x ∷ []) (names_found g new_qs ++ gs) t);
                laid_is = ap (λ n. n ++ (held (Some v') ++ [])) (names_are g new_qs named_now ∙ ap each names_now) ∙ ap (λ y. each ns ++ (held (Some y) ++ [])) u.reads.tree
                    ∙ ap (λ n. each ns ++ n) (unheld_one w z (begun_plain_part w v (reading_unheld w f r q shape))) ∙ sym new_row;
                form_is = refl;
                good = of_all (names_found g new_qs) (found_in (reading g value new_q)) (ap no_rule_fails (append-nil (all_held_faults g kind.ExpressionList declares new_qs [] new_qs)
                    ∙ list_faults w g declares new_qs [] new_qs (name_operands w new_qs named_now)) ∙ name_faults w (scope_of g) new_qs named_now) u.reads.failing;
                rule = nothing_wrong (is_judged (news w ys));
                node = ap (made fm a b sort.Nothing (news w ys)) given_now ∙ node_now ∙ ap (λ zs. begun w false (made fm a b sort.Nothing ys zs)) (sym given_old);
                frame = subst (λ zs. FramesStand w (declares_all (list_of (row zs)) (back f S)) (declares_all (list_of (parts_of (begun w false (made fm a b sort.Nothing ys zs)))) (back g T))) (sym given_old)
                    (subst (λ zs. FramesStand w (declares_all zs (back f S)) (declares_all (list_of (all_begun w false (row (each ts ++ Some v ∷ [])))) (back g T))) (sym (list_row (each ts ++ Some v ∷ [])))
                    (subst (λ zs. FramesStand w (declares_all (each ts ++ Some v ∷ []) (back f S)) (declares_all zs (back g T))) (sym (ap list_of row_now ∙ list_row (each ts ++ Some z ∷ [])))
                    (names_stand ts v z (back f S) (back g T) given_facts u.value.plain plain_now (back_stands w f g S T st u.reads.frame))));
                calm = tt;
              });
          value = u.value;
          puts = given_puts ts given_facts;
          kept = subst (Targets Q ts) (sym (given_new ts given_facts)) (self_targets Q ts);
        }

    defining_still : rights_of (frame_in (reading f value hd)) ≡ rights_of f
    unfolding defining_old
    defining_still =
        ap (λ r. rights_of (frame_in r)) (old_closed w f value kind.DefiningRange a b ps refl defining_old)
        ∙ leaving_rights kind.DefiningRange a ps (built_by S kind.DefiningRange (form.Held kind.DefiningRange) a b ys (own_faults S kind.DefiningRange (form.Held kind.DefiningRange) a b ys)) (back f S) refl ∙ same_rights w f r q shape

    pub range_defining : ExpressionsTyped → Proper w q → RangeHead w f (node kind.DefiningRange a b (more (node kind.NewNames c d (more (node kind.ExpressionList e k qs) none)) (more q none)))
    range_defining law px = record {
      goes = refl;
      still = defining_still;
      defines = true;
      targets = ts;
      x = v;
      flat = ap (λ z. loop_header (Some z)) defining_is ∙ list_row (each ts ++ Some v ∷ []);
      form = ap (λ z. loop_form (Some z)) defining_is ∙ ap (form.Range true) (front_count ts v);
      same = λ q. self_targets q ts;
      read = λ g Q i j st good rule fits keeps ok tf. defining_reads g law px Q i j st good rule fits keeps;
    }
