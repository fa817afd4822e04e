-- Nodes of statements over parts with variables in them.
use Rattle.std.proofs.Common.{◌≡◌, ◌∙◌, ℕ, Bool, true, false, List, [], ◌∷◌, Option, Some, None, refl, sym, ap, subst}
use Rattle.std.specs.Prelude.{◌&&◌, ◌||◌, if◌then◌else◌, not}
use Rattle.std.specs.List.{list_any}
use Rattle.go_grammar.specs.declared.kind.Kind.{Kind}
use Rattle.go_grammar.specs.Trees.{Tree, Trees, node, kind_of}
use Rattle.go_types.specs.Trees.{TypeTree}
use Rattle.go_typed.specs.declared.form.Form.{Form}
use Rattle.go_typed.specs.Trees.{Label, typed, sort_of, row}
use Rattle.go_typed.specs.Trees as sort
use Rattle.go_exprs_rules.specs.declared.family.OpenKind.{OpenKind}
use Rattle.go_exprs_rules.specs.Scopes.{Hint}
use Rattle.go_exprs_rules.specs.Settling.{Part, Take, stay, default, as_type, given, defaulted}
use Rattle.go_exprs_rules.specs.Sorts.{Stands, is_unknown, open_kind, default_type, retyped}
use Rattle.go_exprs_rules.specs.Tables.{Parts, made, label, is_lost, is_judged}
use Rattle.go_stmts_defs.specs.Assigning.{Taking, takes, stands}
use Rattle.go_stmts_defs.specs.Frames.{Frame}
use Rattle.go_stmts_defs.specs.Laying.{layout, form_by}
use Rattle.go_stmts_defs.specs.Reading.{Found, read, all_read, reading, readings, beginning, back, leaving, is_statement, holding, held_faults, closed, closed_by}
use Rattle.go_stmts_defs.specs.Rules.{taking, failing, judges, own_faults, all_given, built_by}
use Rattle.clone_window.specs.Masses.{is_inside, is_expression}
use Rattle.clone_window.specs.Masses as masses
use Rattle.go_exprs_variables.specs.Variables.{Standins, with_variables, all_with_variables, begun, is_unfolded, any_variable, Fits, AllFit, no_rule_fails}
use Rattle.go_exprs_variables.proofs.Public.{all_of, found_nothing, news, nothing_found, of_all, settled_sort}
use Rattle.go_stmts_variables.specs.Frames.{FramesStand}
use Rattle.go_stmts_variables.proofs.Endings.{Calm}
use Rattle.go_stmts_variables.specs.Statements.{tree_in, found_in, frame_in, TagAt, Tagged, AllTagged}

module _ (w : Standins) where
  -- A part of a statement that is read with variables in it.
  pub record Reads (f g : Frame) (h : Hint) (x : Tree) : Type 0 where
    pub tree : tree_in (reading g h (with_variables w x)) ≡ begun w false (tree_in (reading f h x))
    pub failing : no_rule_fails (found_in (reading g h (with_variables w x))) ≡ true
    pub frame : FramesStand w (frame_in (reading f h x)) (frame_in (reading g h (with_variables w x)))
    pub calm : is_statement (kind_of x) ≡ true → Calm w (tree_in (reading f h x))

  -- ---- what was read

  pub record Old (f : Frame) (h : Hint) (k : Kind) (i j : ℕ) (ps : Trees) : Type 0 where
    pub parts : Parts
    pub found : Found
    pub behind : Frame
    pub form : Form
    pub laid : Parts
    pub is : readings (beginning k i f) k h ps [] [] ps ≡ all_read parts found behind
    pub laid_is : layout behind k i parts ≡ laid
    pub form_is : form_by k parts ≡ form

  module _ (f : Frame) (h : Hint) (k : Kind) (i j : ℕ) (ps : Trees) (statement : is_statement k ≡ true) where
    closes : reading f h (node k i j ps) ≡ closed f k i j ps (readings (beginning k i f) k h ps [] [] ps)
    closes = ap (λ b. if b then closed f k i j ps (readings (beginning k i f) k h ps [] [] ps) else read (holding f h (node k i j ps)) (held_faults f h (node k i j ps)) f) statement

    closed_is : (xs : Parts) (fs : Found) (s : Frame) (fm : Form) (ys : Parts) → readings (beginning k i f) k h ps [] [] ps ≡ all_read xs fs s → layout s k i xs ≡ ys → form_by k xs ≡ fm
        → reading f h (node k i j ps) ≡ closed_by f k fm i j ps ys fs s
    closed_is xs fs s fm ys e l m = closes ∙ ap (closed f k i j ps) e ∙ ap (λ z. closed_by f k (form_by k xs) i j ps z fs s) l ∙ ap (λ z. closed_by f k z i j ps ys fs s) m

    abbrev node_of : Frame → Form → Parts → Part
    node_of s fm ys = built_by s k fm i j ys (own_faults s k fm i j ys)

    pub old_closed : (o : Old f h k i j ps) → reading f h (node k i j ps) ≡ closed_by f k o.form i j ps o.laid o.found o.behind
    old_closed o = closed_is o.parts o.found o.behind o.form o.laid o.is o.laid_is o.form_is

    -- no rule fails of its parts nor of itself
    pub old_rules : (o : Old f h k i j ps) → no_rule_fails (found_in (reading f h (node k i j ps))) ≡ true → (no_rule_fails o.found ≡ true) × (own_faults o.behind k o.form i j o.laid ≡ [])
    old_rules o e =
        let own = own_faults o.behind k o.form i j o.laid in
        let both = all_of o.found (own ∷ []) (sym (ap (λ r. no_rule_fails (found_in r)) (old_closed o)) ∙ e) in
        (both.0, nothing_found own both.1)

    inside_no : (fm : Form) (l : Label TypeTree) → l.sort ≡ sort.Nothing → is_inside false fm l ≡ false
    inside_no fm l e = ap (λ z. is_expression fm && masses.is_constant z) e ∙ by (is_expression fm)
      where
        by : (b : Bool) → (b && false) ≡ false
        by true = refl
        by false = refl

    pub sound_node : (s : Frame) (fm : Form) (ys : Parts) → own_faults s k fm i j ys ≡ [] → node_of s fm ys ≡ made fm i j sort.Nothing ys (all_given (taking s k fm ys) ys)
    sound_node s fm ys e = ap (built_by s k fm i j ys) e

    -- its parts fit, once they are given what they are given
    pub old_fits : (o : Old f h k i j ps) → own_faults o.behind k o.form i j o.laid ≡ [] → Fits w false (tree_in (reading f h (node k i j ps))) → AllFit w false (row (all_given (taking o.behind k o.form o.laid) o.laid))
    old_fits o e fits =
        let ys = o.laid in
        let zs = all_given (taking o.behind k o.form ys) ys in
        let all : Fits w false (made o.form i j sort.Nothing ys zs) = subst (Fits w false) (ap tree_in (old_closed o) ∙ sound_node o.behind o.form ys e) fits in
        subst (λ b. AllFit w b (row zs)) (inside_no o.form (label o.form sort.Nothing ys) refl) all.2

    -- the tags in its parts have types
    pub old_tagged : (o : Old f h k i j ps) → own_faults o.behind k o.form i j o.laid ≡ [] → Tagged (tree_in (reading f h (node k i j ps))) → TagAt o.form (row (all_given (taking o.behind k o.form o.laid) o.laid))
        × AllTagged (row (all_given (taking o.behind k o.form o.laid) o.laid))
    old_tagged o e tags = subst Tagged (ap tree_in (old_closed o) ∙ sound_node o.behind o.form o.laid e) tags

    pub rule_of : (s : Frame) (fm : Form) (ys : Parts) → judges k ys ≡ true → own_faults s k fm i j ys ≡ [] → failing s k fm i j ys ≡ []
    rule_of s fm ys n e = sym (ap (λ b. if b then failing s k fm i j ys else []) n) ∙ e

    pub own_none : (s : Frame) (fm : Form) (ys : Parts) → failing s k fm i j ys ≡ [] → own_faults s k fm i j ys ≡ []
    own_none s fm ys e = by (judges k ys)
      where
        by : (b : Bool) → (if b then failing s k fm i j ys else []) ≡ []
        by true = e
        by false = refl

  -- ---- what is read with variables

  pub record New (f g : Frame) (h : Hint) (k : Kind) (i j : ℕ) (ps : Trees) (o : Old f h k i j ps) : Type 0 where
    pub parts : Parts
    pub found : Found
    pub behind : Frame
    pub is : readings (beginning k i g) k h (all_with_variables w ps) [] [] (all_with_variables w ps) ≡ all_read parts found behind
    pub laid_is : layout behind k i parts ≡ news w o.laid
    pub form_is : form_by k parts ≡ o.form
    pub good : no_rule_fails found ≡ true
    pub rule : own_faults behind k o.form i j (news w o.laid) ≡ []
    pub node : made o.form i j sort.Nothing (news w o.laid) (all_given (taking behind k o.form (news w o.laid)) (news w o.laid)) ≡ begun w false (made o.form i j sort.Nothing o.laid (all_given (taking o.behind k o.form o.laid) o.laid))
    pub frame : FramesStand w (leaving k i ps (made o.form i j sort.Nothing o.laid (all_given (taking o.behind k o.form o.laid) o.laid)) (back f o.behind))
        (leaving k i (all_with_variables w ps) (begun w false (made o.form i j sort.Nothing o.laid (all_given (taking o.behind k o.form o.laid) o.laid))) (back g behind))
    pub calm : Calm w (made o.form i j sort.Nothing o.laid (all_given (taking o.behind k o.form o.laid) o.laid))

  pub node_reads : (f g : Frame) (h : Hint) (k : Kind) (i j : ℕ) (ps : Trees) (o : Old f h k i j ps) → is_statement k ≡ true → with_variables w (node k i j ps) ≡ node k i j (all_with_variables w ps)
      → own_faults o.behind k o.form i j o.laid ≡ [] → New f g h k i j ps o → Reads f g h (node k i j ps)
  node_reads f g h k i j ps o statement same own n =
      let old : reading f h (node k i j ps) ≡ closed_by f k o.form i j ps o.laid o.found o.behind = old_closed f h k i j ps statement o in
      let now : reading g h (with_variables w (node k i j ps)) ≡ closed_by g k o.form i j (all_with_variables w ps) (news w o.laid) n.found n.behind =
      ap (reading g h) same ∙ closed_is g h k i j (all_with_variables w ps) statement n.parts n.found n.behind o.form (news w o.laid) n.is n.laid_is n.form_is in
      let old_tree : tree_in (reading f h (node k i j ps)) ≡ made o.form i j sort.Nothing o.laid (all_given (taking o.behind k o.form o.laid) o.laid) = ap tree_in old ∙ sound_node f h k i j ps statement o.behind o.form o.laid own in
      let new_tree = sound_node g h k i j (all_with_variables w ps) statement n.behind o.form (news w o.laid) n.rule in
      record {
        tree = ap tree_in now ∙ new_tree ∙ n.node ∙ ap (begun w false) (sym old_tree);
        failing = ap (λ r. no_rule_fails (found_in r)) now ∙ of_all n.found (own_faults n.behind k o.form i j (news w o.laid) ∷ []) n.good (found_nothing (own_faults n.behind k o.form i j (news w o.laid)) n.rule);
        frame = subst (λ r. FramesStand w (frame_in r) (frame_in (reading g h (with_variables w (node k i j ps))))) (sym old)
            (subst (λ r. FramesStand w (frame_in (closed_by f k o.form i j ps o.laid o.found o.behind)) (frame_in r)) (sym now)
            (subst (λ x. FramesStand w (leaving k i ps x (back f o.behind)) (frame_in (closed_by g k o.form i j (all_with_variables w ps) (news w o.laid) n.found n.behind)))
            (sym (sound_node f h k i j ps statement o.behind o.form o.laid own))
            (subst (λ x. FramesStand w (leaving k i ps (made o.form i j sort.Nothing o.laid (all_given (taking o.behind k o.form o.laid) o.laid)) (back f o.behind)) (leaving k i (all_with_variables w ps) x (back g n.behind)))
            (sym (new_tree ∙ n.node)) n.frame)));
        calm = λ e. subst (Calm w) (sym old_tree) n.calm;
      }

  -- ---- parts that fit are known

  known_retyped : (t : TypeTree) (z : Stands) → is_unknown (retyped t z) ≡ false → is_unknown z ≡ false
  known_retyped t sort.Unknown e = e
  known_retyped t z e = refl

  known_given : (k : Take) (x : Part) → is_unknown (sort_of (given k x)) ≡ false → is_unknown (sort_of x) ≡ false
  known_given stay x e = e
  known_given (as_type t) x e = known_retyped t (sort_of x) (sym (ap is_unknown (settled_sort t x)) ∙ e)
  known_given default x e = by (open_kind (sort_of x)) refl
    where
      by : (o : Option OpenKind) → open_kind (sort_of x) ≡ o → is_unknown (sort_of x) ≡ false
      by None m = sym (ap (λ q. is_unknown (sort_of (defaulted q x))) m) ∙ e
      by (Some k) m = known_retyped (default_type k) (sort_of x) (sym (ap (λ q. is_unknown (sort_of (defaulted q x))) m ∙ ap is_unknown (settled_sort (default_type k) x)) ∙ e)

  or_none : (b c : Bool) → (b || c) ≡ false → b ≡ false
  or_none false c e = refl
  or_none true c e = e

  fits_known : (x : Part) → Fits w false x → is_unknown (sort_of x) ≡ false
  fits_known (typed f i j l ps) fits = or_none (is_unknown l.sort) (is_unfolded f l.sort ps && any_variable w (is_inside false f l) ps) fits.1

  -- parts that stand for what they are told were known before
  abbrev pub NamesKnown : List Taking → Parts → Type 0
  NamesKnown ks [] = Unit {0}
  NamesKnown [] (y ∷ ys) = Unit {0}
  NamesKnown (k ∷ ks) (None ∷ ys) = NamesKnown ks ys
  NamesKnown (takes k ∷ ks) (Some y ∷ ys) = NamesKnown ks ys
  NamesKnown (stands z ∷ ks) (Some y ∷ ys) = (is_unknown (sort_of y) ≡ false) × NamesKnown ks ys

  pub none_lost : (ks : List Taking) (ys : Parts) → NamesKnown ks ys → AllFit w false (row (all_given ks ys)) → list_any is_lost ys ≡ false
  none_lost ks [] n fits = refl
  none_lost [] (None ∷ ys) n fits = none_lost [] ys (no_names ys) fits
    where
      no_names : (ys : Parts) → NamesKnown [] ys
      no_names [] = tt
      no_names (y ∷ ys) = tt
  none_lost [] (Some y ∷ ys) n fits = ap (λ b. b || list_any is_lost ys) (fits_known y fits.0) ∙ none_lost [] ys (no_names ys) fits.1
    where
      no_names : (ys : Parts) → NamesKnown [] ys
      no_names [] = tt
      no_names (y ∷ ys) = tt
  none_lost (k ∷ ks) (None ∷ ys) n fits = none_lost ks ys n fits
  none_lost (takes k ∷ ks) (Some y ∷ ys) n fits = ap (λ b. b || list_any is_lost ys) (known_given k y (fits_known (given k y) fits.0)) ∙ none_lost ks ys n fits.1
  none_lost (stands z ∷ ks) (Some y ∷ ys) n fits = ap (λ b. b || list_any is_lost ys) n.0 ∙ none_lost ks ys n.1 fits.1

  pub judged : (ks : List Taking) (ys : Parts) → NamesKnown ks ys → AllFit w false (row (all_given ks ys)) → is_judged ys ≡ true
  judged ks ys n fits = ap not (none_lost ks ys n fits)
