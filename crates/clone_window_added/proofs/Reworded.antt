-- Windows, their statements, their masses and their locals are the same in reworded trees.
use Rattle.std.proofs.Common.{◌≡◌, ◌∙◌, ℕ, suc, ◌+◌, inl, inr, ◌⊎◌, Bool, true, false, List, [], ◌∷◌, ◌++◌, length, map, take, drop, Option, Some, None, slice_get, ap, refl, sym}
use Rattle.std.proofs.lemmas.List.{length-map, map-append, take-map, drop-map}
use Rattle.std.proofs.lemmas.Option.{slice_get-map}
use Rattle.std.specs.Prelude.{◌&&◌, ◌||◌, not, if◌then◌else◌, nat_eq, nat_le, nat_lt}
use Rattle.std.specs.Option.{option_map, option_to_list}
use Rattle.go_typed.specs.declared.form.Form.{Form}
use Rattle.go_typed.specs.declared.form.Form.TheVariants as form
use Rattle.go_typed.specs.declared.form.Referent.{Referent}
use Rattle.go_typed.specs.declared.form.Referent.TheVariants as referent
use Rattle.go_typed.specs.declared.window.Window.{Window}
use Rattle.go_typed.specs.Forms.{is_statement_list, local_of, values_count}
use Rattle.go_typed.specs.Lists.{own_list, statement_lists, lists_among, present, statements_of}
use Rattle.go_typed.specs.Trees.{Sort, Nothing, Unknown, Blank, Nil, Builtin, Println, Package, IsType, Value, Constant, Open, OpenConstant, Results}
use Rattle.go_typed.specs.Trees.{Label, Typed, typed, Typeds, none, more, skip, sort_mapped, label_mapped}
use Rattle.clone_window.specs.declared.bounds.Bounds.{Bounds}
use Rattle.clone_window.specs.Kinds.{outline, referent_outline}
use Rattle.clone_window.specs.Masses.{is_constant, is_expression, is_hole, is_inside, weight, mass, masses, each_mass}
use Rattle.clone_window.specs.Sameness.{locals, all_locals, compared}
use Rattle.clone_window.specs.Windows.{row_of, statements_in, window_statements, window_mass, windows_from, list_count, windows_in, windows_among, windows_along}
use Rattle.clone_window.specs.Bodies.{Body, statements_at}
use Rattle.clone_window_added.specs.Reworded.{form_reworded, reworded, all_reworded, body_reworded, window_in}

-- ---- forms

pub referent_kind : (o : Referent) → (referent_outline o).kind ≡ 32
referent_kind (referent.Constant n) = refl
referent_kind (referent.Type n) = refl
referent_kind (referent.Variable n) = refl
referent_kind (referent.Function n) = refl
referent_kind (referent.Predeclared p) = refl
referent_kind referent.Println = refl

module _ (r : Referent → Referent) where
  -- A form is that of an object of the package or of the universe, or the same and of another kind.
  pub record IsOther (f : Form) : Type 0 where
    pub same : form_reworded r f ≡ f
    pub left : nat_eq 32 (outline f).kind ≡ false
    pub right : nat_eq (outline f).kind 32 ≡ false

  pub either_form : (f : Form) → ((o : Referent) × (f ≡ form.Object o)) ⊎ IsOther f
  either_form (form.Object o) = inl (o, refl)
  either_form (form.Range false n) = inr (record { same = refl; left = refl; right = refl })
  either_form (form.Range true n) = inr (record { same = refl; left = refl; right = refl })
  either_form f = inr (record { same = refl; left = refl; right = refl })

  pub kind_kept : (f : Form) → (outline (form_reworded r f)).kind ≡ (outline f).kind
  kind_kept f = by (either_form f)
    where
      by : ((o : Referent) × (f ≡ form.Object o)) ⊎ IsOther f → (outline (form_reworded r f)).kind ≡ (outline f).kind
      by (inl h) = ap (λ z. (outline (form_reworded r z)).kind) h.1 ∙ referent_kind (r h.0) ∙ sym (referent_kind h.0) ∙ ap (λ z. (outline z).kind) (sym h.1)
      by (inr h) = ap (λ z. (outline z).kind) h.same

  expression_object : (o : Referent) → is_expression (form.Object o) ≡ true
  expression_object o = ap (λ k. nat_le 30 k && nat_lt k 50) (referent_kind o)

  expression_kept : (f : Form) → is_expression (form_reworded r f) ≡ is_expression f
  expression_kept f = by (either_form f)
    where
      by : ((o : Referent) × (f ≡ form.Object o)) ⊎ IsOther f → is_expression (form_reworded r f) ≡ is_expression f
      by (inl h) = ap (λ z. is_expression (form_reworded r z)) h.1 ∙ expression_object (r h.0) ∙ sym (expression_object h.0) ∙ ap is_expression (sym h.1)
      by (inr h) = ap is_expression h.same

  weight_kept : (f : Form) → weight (form_reworded r f) ≡ weight f
  weight_kept f = ap (λ k. if nat_lt k 50 then 1 else 0) (kind_kept f)

  -- what doesn't look at objects
  other_kept : {A : Type 0} (test : Form → A) → ((o q : Referent) → test (form.Object o) ≡ test (form.Object q)) → (f : Form) → test (form_reworded r f) ≡ test f
  other_kept test same f = by (either_form f)
    where
      by : ((o : Referent) × (f ≡ form.Object o)) ⊎ IsOther f → test (form_reworded r f) ≡ test f
      by (inl h) = ap (λ z. test (form_reworded r z)) h.1 ∙ same (r h.0) h.0 ∙ ap test (sym h.1)
      by (inr h) = ap test h.same

  list_kept : (f : Form) → is_statement_list (form_reworded r f) ≡ is_statement_list f
  list_kept f = other_kept is_statement_list (λ o q. refl) f

  values_kept : (f : Form) → values_count (form_reworded r f) ≡ values_count f
  values_kept f = other_kept values_count (λ o q. refl) f

  local_kept : (f : Form) → local_of (form_reworded r f) ≡ local_of f
  local_kept f = other_kept local_of (λ o q. refl) f

  pub compared_kept : (f : Form) → compared (form_reworded r f) ≡ compared f
  compared_kept f = other_kept compared (λ o q. refl) f

module _ {T U : Type 0} (g : T → U) (r : Referent → Referent) where
  abbrev to : Typed T → Typed U
  to x = reworded g r x

  abbrev all_to : Typeds T → Typeds U
  all_to ps = all_reworded g r ps

  constant_kept : (s : Sort T) → is_constant (sort_mapped g s) ≡ is_constant s
  constant_kept Nothing = refl
  constant_kept Unknown = refl
  constant_kept Blank = refl
  constant_kept Nil = refl
  constant_kept (Builtin b) = refl
  constant_kept Println = refl
  constant_kept Package = refl
  constant_kept (IsType t) = refl
  constant_kept (Value t) = refl
  constant_kept (Constant t c) = refl
  constant_kept (Open u) = refl
  constant_kept (OpenConstant c) = refl
  constant_kept (Results t) = refl

  pub hole_kept : (a : Bool) (f : Form) (l : Label T) → is_hole a (form_reworded r f) (label_mapped g l) ≡ is_hole a f l
  hole_kept a f l =
      ap (λ e. not a && (e && is_constant (sort_mapped g l.sort)) && not l.varies) (expression_kept r f) ∙ ap (λ c. not a && (is_expression f && c) && not l.varies) (constant_kept l.sort)

  pub inside_kept : (a : Bool) (f : Form) (l : Label T) → is_inside a (form_reworded r f) (label_mapped g l) ≡ is_inside a f l
  inside_kept a f l = ap (λ e. a || (e && is_constant (sort_mapped g l.sort))) (expression_kept r f) ∙ ap (λ c. a || (is_expression f && c)) (constant_kept l.sort)

  -- ---- masses and locals

  mutual
    pub mass_kept : (a : Bool) (x : Typed T) → mass a (to x) ≡ mass a x
    mass_kept a (typed f i j l ps) =
        ap (λ h. if h then 1 else weight (form_reworded r f) + masses (is_inside a (form_reworded r f) (label_mapped g l)) (all_to ps)) (hole_kept a f l)
        ∙ ap (λ w. if is_hole a f l then 1 else w + masses (is_inside a (form_reworded r f) (label_mapped g l)) (all_to ps)) (weight_kept r f)
        ∙ ap (λ b. if is_hole a f l then 1 else weight f + masses b (all_to ps)) (inside_kept a f l)
        ∙ ap (λ m. if is_hole a f l then 1 else weight f + m) (masses_kept (is_inside a f l) ps)

    pub masses_kept : (a : Bool) (ps : Typeds T) → masses a (all_to ps) ≡ masses a ps
    masses_kept a none = refl
    masses_kept a (more p ps) = ap (λ m. m + masses a (all_to ps)) (mass_kept a p) ∙ ap (λ m. mass a p + m) (masses_kept a ps)
    masses_kept a (skip ps) = masses_kept a ps

  each_kept : (ps : Typeds T) → each_mass (all_to ps) ≡ each_mass ps
  each_kept none = refl
  each_kept (more p ps) = ap (λ m. m ∷ each_mass (all_to ps)) (mass_kept false p) ∙ ap (λ ms. mass false p ∷ ms) (each_kept ps)
  each_kept (skip ps) = each_kept ps

  mutual
    locals_kept : (a : Bool) (x : Typed T) → locals a (to x) ≡ locals a x
    locals_kept a (typed f i j l ps) =
        ap (λ h. if h then [] else option_to_list (local_of (form_reworded r f)) ++ all_locals (is_inside a (form_reworded r f) (label_mapped g l)) (all_to ps)) (hole_kept a f l)
        ∙ ap (λ o. if is_hole a f l then [] else option_to_list o ++ all_locals (is_inside a (form_reworded r f) (label_mapped g l)) (all_to ps)) (local_kept r f)
        ∙ ap (λ b. if is_hole a f l then [] else option_to_list (local_of f) ++ all_locals b (all_to ps)) (inside_kept a f l)
        ∙ ap (λ ns. if is_hole a f l then [] else option_to_list (local_of f) ++ ns) (all_locals_kept (is_inside a f l) ps)

    pub all_locals_kept : (a : Bool) (ps : Typeds T) → all_locals a (all_to ps) ≡ all_locals a ps
    all_locals_kept a none = refl
    all_locals_kept a (more p ps) = ap (λ ns. ns ++ all_locals a (all_to ps)) (locals_kept a p) ∙ ap (λ ns. locals a p ++ ns) (all_locals_kept a ps)
    all_locals_kept a (skip ps) = all_locals_kept a ps

  -- ---- statement lists

  own_kept : (b : Bool) (x : Typed T) → (if b then to x ∷ [] else []) ≡ map (reworded g r) (if b then x ∷ [] else [])
  own_kept true x = refl
  own_kept false x = refl

  mutual
    lists_kept : (x : Typed T) → statement_lists (to x) ≡ map (reworded g r) (statement_lists x)
    lists_kept (typed f i j l ps) =
        ap (λ b. (if b then to (typed f i j l ps) ∷ [] else []) ++ lists_among (all_to ps)) (list_kept r f)
        ∙ ap (λ xs. xs ++ lists_among (all_to ps)) (own_kept (is_statement_list f) (typed f i j l ps))
        ∙ ap (λ xs. map (reworded g r) (own_list (typed f i j l ps)) ++ xs) (lists_among_kept ps)
        ∙ sym (map-append (reworded g r) (own_list (typed f i j l ps)) (lists_among ps))

    lists_among_kept : (ps : Typeds T) → lists_among (all_to ps) ≡ map (reworded g r) (lists_among ps)
    lists_among_kept none = refl
    lists_among_kept (more p ps) =
        ap (λ xs. xs ++ lists_among (all_to ps)) (lists_kept p)
        ∙ ap (λ xs. map (reworded g r) (statement_lists p) ++ xs) (lists_among_kept ps)
        ∙ sym (map-append (reworded g r) (statement_lists p) (lists_among ps))
    lists_among_kept (skip ps) = lists_among_kept ps

  count_kept : (x : Typed T) → list_count (to x) ≡ list_count x
  count_kept x = ap length (lists_kept x) ∙ length-map (statement_lists x) (reworded g r)

  present_kept : (ps : Typeds T) → present (all_to ps) ≡ map (reworded g r) (present ps)
  present_kept none = refl
  present_kept (more p ps) = ap (λ xs. to p ∷ xs) (present_kept ps)
  present_kept (skip ps) = present_kept ps

  statements_kept : (x : Typed T) → statements_of (to x) ≡ map (reworded g r) (statements_of x)
  statements_kept (typed f i j l ps) =
      ap (λ n. drop n (present (all_to ps))) (values_kept r f) ∙ ap (drop (values_count f)) (present_kept ps) ∙ drop-map (reworded g r) (values_count f) (present ps)

  -- ---- the statements of windows

  row_kept : (xs : List (Typed T)) → row_of (map (reworded g r) xs) ≡ all_to (row_of xs)
  row_kept [] = refl
  row_kept (x ∷ xs) = ap (more (to x)) (row_kept xs)

  there_kept : (o : Option (Typed T)) → statements_in (option_map (reworded g r) o) ≡ map (reworded g r) (statements_in o)
  there_kept None = refl
  there_kept (Some l) = statements_kept l

  abbrev run : ℕ → ℕ → List (Typed U) → Typeds U
  run first count xs = row_of (take count (drop first xs))

  pub window_kept : (root : Typed T) (w : Window) → window_statements (to root) w ≡ all_to (window_statements root w)
  window_kept root w =
      let lists = statement_lists root in
      let list = slice_get lists w.list in
      ap (λ ls. run w.first w.count (statements_in (slice_get ls w.list))) (lists_kept root)
      ∙ ap (λ l. run w.first w.count (statements_in l)) (slice_get-map (reworded g r) lists w.list)
      ∙ ap (run w.first w.count) (there_kept list)
      ∙ ap (λ xs. row_of (take w.count xs)) (drop-map (reworded g r) w.first (statements_in list))
      ∙ ap row_of (take-map (reworded g r) w.count (drop w.first (statements_in list)))
      ∙ row_kept (take w.count (drop w.first (statements_in list)))

  pub window_mass_kept : (root : Typed T) (w : Window) → window_mass (to root) w ≡ window_mass root w
  window_mass_kept root w = ap (masses false) (window_kept root w) ∙ masses_kept false (window_statements root w)

  -- of the window of a function that may be there
  pub statements_there : (at : ℕ → ℕ) (o : Option (Body T)) (w : Window) → statements_at (option_map (body_reworded g r) o) (window_in at w) ≡ all_to (statements_at o w)
  statements_there at None w = refl
  statements_there at (Some b) w = window_kept b.root w

  -- ---- windows

  mutual
    pub windows_kept : (bounds : Bounds) (func k : ℕ) (x : Typed T) → windows_in bounds func k (to x) ≡ windows_in bounds func k x
    windows_kept bounds func k (typed f i j l ps) =
        ap (λ b. if b then windows_along bounds func k (values_count (form_reworded r f)) (suc k) 0 (all_to ps) else windows_among bounds func k (all_to ps)) (list_kept r f)
        ∙ ap (λ n. if is_statement_list f then windows_along bounds func k n (suc k) 0 (all_to ps) else windows_among bounds func k (all_to ps)) (values_kept r f)
        ∙ ap (λ ws. if is_statement_list f then ws else windows_among bounds func k (all_to ps)) (along_kept bounds func k (values_count f) (suc k) 0 ps)
        ∙ ap (λ ws. if is_statement_list f then windows_along bounds func k (values_count f) (suc k) 0 ps else ws) (among_kept bounds func k ps)

    among_kept : (bounds : Bounds) (func k : ℕ) (ps : Typeds T) → windows_among bounds func k (all_to ps) ≡ windows_among bounds func k ps
    among_kept bounds func k none = refl
    among_kept bounds func k (more p ps) =
        ap (λ ws. ws ++ windows_among bounds func (k + list_count (to p)) (all_to ps)) (windows_kept bounds func k p)
        ∙ ap (λ n. windows_in bounds func k p ++ windows_among bounds func (k + n) (all_to ps)) (count_kept p)
        ∙ ap (λ ws. windows_in bounds func k p ++ ws) (among_kept bounds func (k + list_count p) ps)
    among_kept bounds func k (skip ps) = among_kept bounds func k ps

    along_kept : (bounds : Bounds) (func list ahead k index : ℕ) (ps : Typeds T) → windows_along bounds func list ahead k index (all_to ps) ≡ windows_along bounds func list ahead k index ps
    along_kept bounds func list ahead k index none = refl
    along_kept bounds func list ahead k index (more p ps) =
        let own = windows_from bounds func list ahead index (each_mass (more p ps)) in
        ap (λ ms. windows_from bounds func list ahead index ms ++ windows_in bounds func k (to p) ++ windows_along bounds func list ahead (k + list_count (to p)) (suc index) (all_to ps)) (each_kept (more p ps))
        ∙ ap (λ ws. own ++ ws ++ windows_along bounds func list ahead (k + list_count (to p)) (suc index) (all_to ps)) (windows_kept bounds func k p)
        ∙ ap (λ n. own ++ windows_in bounds func k p ++ windows_along bounds func list ahead (k + n) (suc index) (all_to ps)) (count_kept p)
        ∙ ap (λ ws. own ++ windows_in bounds func k p ++ ws) (along_kept bounds func list ahead (k + list_count p) (suc index) ps)
    along_kept bounds func list ahead k index (skip ps) = along_kept bounds func list ahead k index ps
