-- Statements in which no variable stands: they are read as they were, and stand as they were typed.
use Rattle.std.proofs.Common.{◌≡◌, ◌∙◌, ℕ, Bool, true, false, List, [], ◌∷◌, ◌++◌, Option, Some, None, refl, sym, ap, subst}
use Rattle.std.specs.Prelude.{◌&&◌, ◌||◌, if◌then◌else◌}
use Rattle.std.specs.List.{list_any}
use Rattle.go_grammar.specs.declared.kind.Kind.{Kind}
use Rattle.go_grammar.specs.Trees.{Tree, node, Trees, none, more, skip, kind_of}
use Rattle.go_types.specs.Trees.{TypeTree}
use Rattle.go_typed.specs.declared.form.Form.{Form}
use Rattle.go_typed.specs.declared.form.Form.TheVariants as form
use Rattle.go_typed.specs.Trees.{Label, typed, Typeds, sort_of, label_of, parts_of, list_of, row}
use Rattle.go_typed.specs.Trees as sort
use Rattle.go_exprs_rules.specs.declared.family.OpenKind.{OpenKind}
use Rattle.go_exprs_rules.specs.declared.fault.TypeFault.{TypeFault}
use Rattle.go_exprs_rules.specs.Scopes.{Hint, value}
use Rattle.go_exprs_rules.specs.Settling.{Part, Take, stay, default, as_type, given, defaulted}
use Rattle.go_exprs_rules.specs.Sorts.{Stands, open_kind, default_type}
use Rattle.go_exprs_rules.specs.Tables.{Parts, is_type, leaf, cut, is_variable_name, varies_in, label, made}
use Rattle.go_stmts_defs.specs.Assigning.{Taking}
use Rattle.go_stmts_defs.specs.Frames.{Frame}
use Rattle.go_stmts_defs.specs.Laying.{told}
use Rattle.go_stmts_defs.specs.Reading.{Found, Readings, all_read, after, reading, readings, entering, leaving, back, is_statement, closed_by}
use Rattle.go_stmts_defs.specs.Rules.{taking, own_faults, all_given, built_by}
use Rattle.clone_window.specs.Masses.{is_expression}
use Rattle.go_exprs_variables.specs.Over.{varies_over}
use Rattle.go_exprs_variables.specs.Variables.{Standins, with_variables, all_with_variables, begun, no_rule_fails}
use Rattle.go_exprs_variables.proofs.Public.{Agrees, AllAgree, KeyAgrees, Clear, AllClear, begun_nothing, clear_away, clear_leaf, clear_settled, given_agrees, is_key, leaf_agrees}
use Rattle.go_stmts_variables.specs.Frames.{FramesStand}
use Rattle.go_stmts_variables.specs.Statements.{tree_in, found_in, frame_in}
use Rattle.go_stmts_variables.proofs.Endings.{Calm}
use Rattle.go_stmts_variables.proofs.Nodes.{Reads, Old, old_closed}
use Rattle.go_stmts_variables.proofs.Puts.{varies_taken}
use Rattle.go_stmts_variables.proofs.Roles.{varies_row}
use Rattle.go_stmts_variables.proofs.Rows.{after_is}

-- ---- nodes that are no elements with keys, nor expressions

pub key_plain : (f : Form) (z : Stands) (ps : Typeds TypeTree) → is_key f ≡ false → KeyAgrees f z ps
key_plain (form.Keyed n) z ps e = cc
key_plain f z ps e = tt

module _ (w : Standins) where
  -- ---- trees at whose constants no variable stands

  pub record IsStill (x : Part) : Type 0 where
    pub agrees : Agrees x
    pub clear : Clear w x

  abbrev pub AllStill : Parts → Type 0
  AllStill [] = Unit {0}
  AllStill (None ∷ xs) = AllStill xs
  AllStill (Some x ∷ xs) = IsStill x × AllStill xs

  pub still_begun : (x : Part) → IsStill x → begun w false x ≡ x
  still_begun x s = begun_nothing w false x s.agrees (clear_away w false x s.clear)

  defaulted_clear : (o : Option OpenKind) (x : Part) → Clear w x → Clear w (defaulted o x)
  defaulted_clear None x c = c
  defaulted_clear (Some k) x c = clear_settled w (default_type k) x c

  pub still_given : (k : Take) (x : Part) → IsStill x → IsStill (given k x)
  still_given k x s = record { agrees = given_agrees k x s.agrees; clear = by k }
    where
      by : (k : Take) → Clear w (given k x)
      by stay = s.clear
      by (as_type t) = clear_settled w t x s.clear
      by default = defaulted_clear (open_kind (sort_of x)) x s.clear

  pub still_leaf : (x : Part) → IsStill x → IsStill (leaf x)
  still_leaf x s = record { agrees = leaf_agrees x; clear = clear_leaf w x s.clear }

  -- a node without parts at whose token no variable stands
  pub still_bare : (f : Form) (i j : ℕ) (l : Label TypeTree) → is_key f ≡ false → w i ≡ None → IsStill (typed f i j l sort.none)
  still_bare f i j l k e = record { agrees = (key_plain f l.sort sort.none k, refl, tt); clear = ((λ c. e), tt) }

  -- ---- rows

  pub still_both : (xs ys : Parts) → AllStill xs → AllStill ys → AllStill (xs ++ ys)
  still_both [] ys s t = t
  still_both (None ∷ xs) ys s t = still_both xs ys s t
  still_both (Some x ∷ xs) ys s t = (s.0, still_both xs ys s.1 t)

  still_list : (ps : Typeds TypeTree) → AllAgree ps → AllClear w ps → AllStill (list_of ps)
  still_list sort.none a c = tt
  still_list (sort.skip ps) a c = still_list ps a c
  still_list (sort.more p ps) a c = (record { agrees = a.0; clear = c.0 }, still_list ps a.1 c.1)

  pub still_parts : (x : Part) → IsStill x → AllStill (list_of (parts_of x))
  still_parts (typed f i j l ps) s = still_list ps s.agrees.2 s.clear.1

  pub still_cut : (o : Option Part) (ys : Parts) → AllStill (o ∷ ys) → AllStill (cut o ∷ ys)
  still_cut None ys s = s
  still_cut (Some x) ys s = by (is_type (sort_of x))
    where
      by : (b : Bool) → AllStill ((if b then Some (leaf x) else Some x) ∷ ys)
      by true = (still_leaf x s.0, s.1)
      by false = s

  rows_agree : (zs : Parts) → AllStill zs → AllAgree (row zs)
  rows_agree [] s = tt
  rows_agree (None ∷ zs) s = rows_agree zs s
  rows_agree (Some z ∷ zs) s = (s.0.agrees, rows_agree zs s.1)

  rows_clear : (zs : Parts) → AllStill zs → AllClear w (row zs)
  rows_clear [] s = tt
  rows_clear (None ∷ zs) s = rows_clear zs s
  rows_clear (Some z ∷ zs) s = (s.0.clear, rows_clear zs s.1)

  -- ---- nodes

  -- a node of a declaration
  pub record IsFixedForm (f : Form) : Type 0 where
    pub key : is_key f ≡ false
    pub name : is_variable_name f sort.Nothing ≡ false

  not_constant : (b : Bool) → (b && false) ≡ true → ⊥
  not_constant true e = cc
  not_constant false e = cc

  varies_so : (f : Form) (ys zs : Parts) → is_variable_name f sort.Nothing ≡ false → list_any varies_in zs ≡ list_any varies_in ys → varies_over (label f sort.Nothing ys).varies (row zs) ≡ (label f sort.Nothing ys).varies
  varies_so f ys [] n e = refl
  varies_so f ys (None ∷ zs) n e = sym (varies_row w (None ∷ zs)) ∙ e ∙ ap (λ b. b || list_any varies_in ys) (sym n)
  varies_so f ys (Some z ∷ zs) n e = sym (varies_row w (Some z ∷ zs)) ∙ e ∙ ap (λ b. b || list_any varies_in ys) (sym n)

  pub still_node : (f : Form) (i j : ℕ) (ys zs : Parts) → IsFixedForm f → AllStill zs → list_any varies_in zs ≡ list_any varies_in ys → IsStill (made f i j sort.Nothing ys zs)
  still_node f i j ys zs is s e = record {
    agrees = (key_plain f sort.Nothing (row zs) is.key, varies_so f ys zs is.name e, rows_agree zs s);
    clear = ((λ c. absurd (not_constant (is_expression f) c)), rows_clear zs s);
  }

  pub varies_all : (ks : List Taking) (ys : Parts) → list_any varies_in (all_given ks ys) ≡ list_any varies_in ys
  varies_all [] ys = refl
  varies_all (k ∷ ks) [] = refl
  varies_all (k ∷ ks) (None ∷ ys) = varies_all ks ys
  varies_all (k ∷ ks) (Some y ∷ ys) = ap (λ b. b || list_any varies_in (all_given ks ys)) (varies_taken w k y) ∙ ap (λ b. (label_of y).varies || b) (varies_all ks ys)

  -- whatever rules fail at it
  pub still_built : (s : Frame) (k : Kind) (f : Form) (i j : ℕ) (ys : Parts) (own : List TypeFault) → IsFixedForm f → AllStill ys → AllStill (all_given (taking s k f ys) ys) → IsStill (built_by s k f i j ys own)
  still_built s k f i j ys [] is e g = still_node f i j ys (all_given (taking s k f ys) ys) is g (varies_all (taking s k f ys) ys)
  still_built s k f i j ys (x ∷ xs) is e g = still_node f i j ys ys is e refl

  -- ---- what is read as it was

  pub record Unchanged (f g : Frame) (h : Hint) (x : Tree) : Type 0 where
    pub tree : tree_in (reading g h (with_variables w x)) ≡ tree_in (reading f h x)
    pub found : found_in (reading g h (with_variables w x)) ≡ found_in (reading f h x)
    pub frame : FramesStand w (frame_in (reading f h x)) (frame_in (reading g h (with_variables w x)))
    pub still : IsStill (tree_in (reading f h x))

  pub unchanged_reads : (f g : Frame) (h : Hint) (x : Tree) → Unchanged f g h x → no_rule_fails (found_in (reading f h x)) ≡ true → (is_statement (kind_of x) ≡ true → Calm w (tree_in (reading f h x))) → Reads w f g h x
  unchanged_reads f g h x u good calm = record {
    tree = u.tree ∙ sym (still_begun (tree_in (reading f h x)) u.still);
    failing = ap no_rule_fails u.found ∙ good;
    frame = u.frame;
    calm = calm;
  }

  same_built : (s t : Frame) (k : Kind) (f : Form) (i j : ℕ) (ys : Parts) (own : List TypeFault) → taking t k f ys ≡ taking s k f ys → built_by t k f i j ys own ≡ built_by s k f i j ys own
  same_built s t k f i j ys [] e = ap (λ ks. made f i j sort.Nothing ys (all_given ks ys)) e
  same_built s t k f i j ys (x ∷ xs) e = refl

  abbrev pub node_on : Frame → Kind → Form → ℕ → ℕ → Parts → Part
  node_on s k f i j ys = built_by s k f i j ys (own_faults s k f i j ys)

  module _ (f g : Frame) (h : Hint) (k : Kind) (i j : ℕ) (ps : Trees) (o : Old w f h k i j ps) (n : Old w g h k i j (all_with_variables w ps)) where
    pub unchanged_node : is_statement k ≡ true → with_variables w (node k i j ps) ≡ node k i j (all_with_variables w ps) → n.form ≡ o.form → n.laid ≡ o.laid → n.found ≡ o.found
        → own_faults n.behind k o.form i j o.laid ≡ own_faults o.behind k o.form i j o.laid → taking n.behind k o.form o.laid ≡ taking o.behind k o.form o.laid
        → FramesStand w (leaving k i ps (node_on o.behind k o.form i j o.laid) (back f o.behind)) (leaving k i (all_with_variables w ps) (node_on o.behind k o.form i j o.laid) (back g n.behind))
        → IsStill (node_on o.behind k o.form i j o.laid) → Unchanged f g h (node k i j ps)
    unchanged_node statement stays form laid found rule take frame still =
        let old : reading f h (node k i j ps) ≡ closed_by f k o.form i j ps o.laid o.found o.behind = old_closed w f h k i j ps statement o in
        let now : reading g h (with_variables w (node k i j ps)) ≡ closed_by g k n.form i j (all_with_variables w ps) n.laid n.found n.behind =
        ap (reading g h) stays ∙ old_closed w g h k i j (all_with_variables w ps) statement n in
        let same : node_on n.behind k n.form i j n.laid ≡ node_on o.behind k o.form i j o.laid =
        ap (λ q. node_on n.behind k q i j n.laid) form ∙ ap (λ q. node_on n.behind k o.form i j q) laid ∙ ap (built_by n.behind k o.form i j o.laid) rule
        ∙ same_built o.behind n.behind k o.form i j o.laid (own_faults o.behind k o.form i j o.laid) take in
        let own : own_faults n.behind k n.form i j n.laid ≡ own_faults o.behind k o.form i j o.laid =
        ap (λ q. own_faults n.behind k q i j n.laid) form ∙ ap (λ q. own_faults n.behind k o.form i j q) laid ∙ rule in
        record {
          tree = ap tree_in now ∙ same ∙ ap tree_in (sym old);
          found = ap found_in now ∙ ap (λ z. z ++ own_faults n.behind k n.form i j n.laid ∷ []) found ∙ ap (λ z. o.found ++ z ∷ []) own ∙ ap found_in (sym old);
          frame = subst (λ r. FramesStand w (frame_in r) (frame_in (reading g h (with_variables w (node k i j ps))))) (sym old)
              (subst (λ r. FramesStand w (leaving k i ps (node_on o.behind k o.form i j o.laid) (back f o.behind)) (frame_in r)) (sym now)
              (subst (λ x. FramesStand w (leaving k i ps (node_on o.behind k o.form i j o.laid) (back f o.behind)) (leaving k i (all_with_variables w ps) x (back g n.behind))) (sym same) frame));
          still = subst (λ r. IsStill (tree_in r)) (sym old) still;
        }

  -- ---- rows of such parts

  abbrev pub parts_in : Readings → Parts
  parts_in (all_read xs fs s) = xs

  abbrev pub all_found : Readings → Found
  all_found (all_read xs fs s) = fs

  abbrev pub frame_last : Readings → Frame
  frame_last (all_read xs fs s) = s

  pub record RowUnchanged (r q : Readings) : Type 0 where
    pub parts : parts_in q ≡ parts_in r
    pub found : all_found q ≡ all_found r
    pub frame : FramesStand w (frame_last r) (frame_last q)
    pub still : AllStill (parts_in r)

  -- what a part leaves as it was: P says something of what is known before it, and then of what is known behind it
  pub record Fixed (P : Frame → Type 0) (p : Tree) : Type 0 where
    pub reads : (f g : Frame) → FramesStand w f g → P f → Unchanged f g value p
    pub keeps : (f : Frame) → P f → P (frame_in (reading f value p))

  abbrev pub AllFixed : (Frame → Type 0) → Trees → Type 0
  AllFixed P none = Unit {0}
  AllFixed P (more p ps) = Fixed P p × AllFixed P ps
  AllFixed P (skip ps) = ⊥

  -- how the parts of a kind of node are told, and what is known before each
  pub record IsFixedRow (P : Frame → Type 0) (k : Kind) : Type 0 where
    pub enters : (xs : Parts) (s t : Frame) → FramesStand w s t → FramesStand w (entering k xs s) (entering k xs t)
    pub tells : (h : Hint) (all : Trees) (xs : Parts) (n : Kind) → told k h all xs n ≡ value
    pub begins : (s : Frame) → P (entering k [] s)
    pub goes : (xs : Parts) (x : Option Part) (s : Frame) → P s → P (entering k (xs ++ x ∷ []) s)

  module _ (P : Frame → Type 0) (k : Kind) (h : Hint) (is : IsFixedRow P k) where
    pub one_read : (f : Frame) (all : Trees) (xs : Parts) (fs : Found) (p : Tree) (ps : Trees) → readings f k h all xs fs (more p ps)
        ≡ readings (frame_in (reading (entering k xs f) value p)) k h all (xs ++ Some (tree_in (reading (entering k xs f) value p)) ∷ []) (fs ++ found_in (reading (entering k xs f) value p)) ps
    one_read f all xs fs p ps =
        ap (λ z. after (reading (entering k xs f) z p) (λ x gs t. readings t k h all (xs ++ Some x ∷ []) (fs ++ gs) ps)) (is.tells h all xs (kind_of p))
        ∙ after_is (reading (entering k xs f) value p) (λ x gs t. readings t k h all (xs ++ Some x ∷ []) (fs ++ gs) ps)

    pub rows_unchanged : (f g : Frame) (all new : Trees) (xs : Parts) (fs : Found) (ps : Trees) → AllFixed P ps → FramesStand w f g → P (entering k xs f) → AllStill xs
        → RowUnchanged (readings f k h all xs fs ps) (readings g k h new xs fs (all_with_variables w ps))
    rows_unchanged f g all new xs fs none s st p still = record { parts = refl; found = refl; frame = st; still = still }
    rows_unchanged f g all new xs fs (skip ps) s st p still = elim s [ ]
    rows_unchanged f g all new xs fs (more q ps) s st p still =
        let F = entering k xs f in
        let G = entering k xs g in
        let q' = with_variables w q in
        let r = reading F value q in
        let r' = reading G value q' in
        let u = s.0.reads F G (is.enters xs f g st) p in
        let old = one_read f all xs fs q ps in
        let new_parts : Parts = xs ++ Some (tree_in r) ∷ [] in
        let now : readings g k h new xs fs (all_with_variables w (more q ps)) ≡ readings (frame_in r') k h new (xs ++ Some (tree_in r) ∷ []) (fs ++ found_in r) (all_with_variables w ps) =
        one_read g new xs fs q' (all_with_variables w ps) ∙ ap (λ x. readings (frame_in r') k h new (xs ++ Some x ∷ []) (fs ++ found_in r') (all_with_variables w ps)) u.tree
        ∙ ap (λ z. readings (frame_in r') k h new (xs ++ Some (tree_in r) ∷ []) (fs ++ z) (all_with_variables w ps)) u.found in
        let rest = rows_unchanged (frame_in r) (frame_in r') all new new_parts (fs ++ found_in r) ps s.1 u.frame (is.goes xs (Some (tree_in r)) (frame_in r) (s.0.keeps F p)) (still_both xs (Some (tree_in r) ∷ []) still (u.still, tt)) in
        record {
          parts = ap parts_in now ∙ rest.parts ∙ ap parts_in (sym old);
          found = ap all_found now ∙ rest.found ∙ ap all_found (sym old);
          frame = subst (λ z. FramesStand w (frame_last z) (frame_last (readings g k h new xs fs (all_with_variables w (more q ps))))) (sym old)
              (subst (λ z. FramesStand w (frame_last (readings (frame_in r) k h all new_parts (fs ++ found_in r) ps)) (frame_last z)) (sym now) rest.frame);
          still = subst (λ z. AllStill (parts_in z)) (sym old) rest.still;
        }

  -- what a row was read to be
  pub row_is : (r : Readings) → r ≡ all_read (parts_in r) (all_found r) (frame_last r)
  row_is (all_read xs fs s) = refl
