-- Windows, their statements and their masses are the same over other words for types.
use Rattle.std.proofs.Common.{◌≡◌, ◌∙◌, ℕ, suc, ◌+◌, Bool, true, false, List, [], ◌∷◌, ◌++◌, length, map, take, drop, Option, Some, None, slice_get, ap, refl, sym}
use Rattle.std.proofs.lemmas.List.{length-map, map-append, take-map, drop-map}
use Rattle.std.proofs.lemmas.Option.{slice_get-map}
use Rattle.std.specs.Prelude.{◌&&◌, ◌||◌, not, if◌then◌else◌}
use Rattle.std.specs.Option.{option_map, option_to_list}
use Rattle.go_typed.specs.declared.form.Form.{Form}
use Rattle.go_typed.specs.declared.window.Window.{Window}
use Rattle.go_typed.specs.Forms.{is_statement_list, local_of, values_count}
use Rattle.go_typed.specs.Lists.{own_list, statement_lists, lists_among, present, statements_of}
use Rattle.go_typed.specs.Trees.{Sort, Nothing, Unknown, Blank, Nil, Builtin, Println, Package, IsType, Value, Constant, Open, OpenConstant, Results}
use Rattle.go_typed.specs.Trees.{Label, Typed, typed, Typeds, none, more, skip, first_of, last_of, sort_mapped, label_mapped, mapped, all_mapped}
use Rattle.clone_window.specs.declared.bounds.Bounds.{Bounds}
use Rattle.clone_window.specs.Masses.{is_constant, is_expression, is_hole, is_inside, weight, mass, masses, each_mass}
use Rattle.clone_window.specs.Sameness.{locals, all_locals}
use Rattle.clone_window.specs.Spans.{last_from, range_over}
use Rattle.clone_window.specs.Windows.{row_of, statements_in, window_statements, windows_from, list_count, windows_in, windows_among, windows_along, windows}
use Rattle.clone_window.specs.Bodies.{Body, statements_at}
use Rattle.clone_classes.specs.Listing.{windows_of_all}

module _ {T U : Type 0} (g : T → U) where
  constant-mapped : (s : Sort T) → is_constant (sort_mapped g s) ≡ is_constant s
  constant-mapped Nothing = refl
  constant-mapped Unknown = refl
  constant-mapped Blank = refl
  constant-mapped Nil = refl
  constant-mapped (Builtin b) = refl
  constant-mapped Println = refl
  constant-mapped Package = refl
  constant-mapped (IsType t) = refl
  constant-mapped (Value t) = refl
  constant-mapped (Constant t c) = refl
  constant-mapped (Open u) = refl
  constant-mapped (OpenConstant c) = refl
  constant-mapped (Results t) = refl

  pub hole-mapped : (a : Bool) (f : Form) (l : Label T) → is_hole a f (label_mapped g l) ≡ is_hole a f l
  hole-mapped a f l = ap (λ c. not a && (is_expression f && c) && not l.varies) (constant-mapped l.sort)

  pub inside-mapped : (a : Bool) (f : Form) (l : Label T) → is_inside a f (label_mapped g l) ≡ is_inside a f l
  inside-mapped a f l = ap (λ c. a || (is_expression f && c)) (constant-mapped l.sort)

  -- ---- masses and locals

  mutual
    pub mass-mapped : (a : Bool) (x : Typed T) → mass a (mapped g x) ≡ mass a x
    mass-mapped a (typed f i j l ps) =
        ap (λ h. if h then 1 else weight f + masses (is_inside a f (label_mapped g l)) (all_mapped g ps)) (hole-mapped a f l)
        ∙ ap (λ b. if is_hole a f l then 1 else weight f + masses b (all_mapped g ps)) (inside-mapped a f l)
        ∙ ap (λ m. if is_hole a f l then 1 else weight f + m) (masses-mapped (is_inside a f l) ps)

    pub masses-mapped : (a : Bool) (ps : Typeds T) → masses a (all_mapped g ps) ≡ masses a ps
    masses-mapped a none = refl
    masses-mapped a (more p ps) = ap (λ m. m + masses a (all_mapped g ps)) (mass-mapped a p) ∙ ap (λ m. mass a p + m) (masses-mapped a ps)
    masses-mapped a (skip ps) = masses-mapped a ps

  each-mapped : (ps : Typeds T) → each_mass (all_mapped g ps) ≡ each_mass ps
  each-mapped none = refl
  each-mapped (more p ps) = ap (λ m. m ∷ each_mass (all_mapped g ps)) (mass-mapped false p) ∙ ap (λ ms. mass false p ∷ ms) (each-mapped ps)
  each-mapped (skip ps) = each-mapped ps

  mutual
    pub locals-mapped : (a : Bool) (x : Typed T) → locals a (mapped g x) ≡ locals a x
    locals-mapped a (typed f i j l ps) =
        ap (λ h. if h then [] else option_to_list (local_of f) ++ all_locals (is_inside a f (label_mapped g l)) (all_mapped g ps)) (hole-mapped a f l)
        ∙ ap (λ b. if is_hole a f l then [] else option_to_list (local_of f) ++ all_locals b (all_mapped g ps)) (inside-mapped a f l)
        ∙ ap (λ ns. if is_hole a f l then [] else option_to_list (local_of f) ++ ns) (all-locals-mapped (is_inside a f l) ps)

    pub all-locals-mapped : (a : Bool) (ps : Typeds T) → all_locals a (all_mapped g ps) ≡ all_locals a ps
    all-locals-mapped a none = refl
    all-locals-mapped a (more p ps) = ap (λ ns. ns ++ all_locals a (all_mapped g ps)) (locals-mapped a p) ∙ ap (λ ns. locals a p ++ ns) (all-locals-mapped a ps)
    all-locals-mapped a (skip ps) = all-locals-mapped a ps

  -- ---- statement lists

  own-mapped : (b : Bool) (x : Typed T) → (if b then mapped g x ∷ [] else []) ≡ map (mapped g) (if b then x ∷ [] else [])
  own-mapped true x = refl
  own-mapped false x = refl

  mutual
    pub lists-mapped : (x : Typed T) → statement_lists (mapped g x) ≡ map (mapped g) (statement_lists x)
    lists-mapped (typed f i j l ps) =
        ap (λ xs. xs ++ lists_among (all_mapped g ps)) (own-mapped (is_statement_list f) (typed f i j l ps))
        ∙ ap (λ xs. map (mapped g) (own_list (typed f i j l ps)) ++ xs) (lists-among-mapped ps)
        ∙ sym (map-append (mapped g) (own_list (typed f i j l ps)) (lists_among ps))

    lists-among-mapped : (ps : Typeds T) → lists_among (all_mapped g ps) ≡ map (mapped g) (lists_among ps)
    lists-among-mapped none = refl
    lists-among-mapped (more p ps) =
        ap (λ xs. xs ++ lists_among (all_mapped g ps)) (lists-mapped p)
        ∙ ap (λ xs. map (mapped g) (statement_lists p) ++ xs) (lists-among-mapped ps)
        ∙ sym (map-append (mapped g) (statement_lists p) (lists_among ps))
    lists-among-mapped (skip ps) = lists-among-mapped ps

  pub count-mapped : (x : Typed T) → list_count (mapped g x) ≡ list_count x
  count-mapped x = ap length (lists-mapped x) ∙ length-map (statement_lists x) (mapped g)

  present-mapped : (ps : Typeds T) → present (all_mapped g ps) ≡ map (mapped g) (present ps)
  present-mapped none = refl
  present-mapped (more p ps) = ap (λ xs. mapped g p ∷ xs) (present-mapped ps)
  present-mapped (skip ps) = present-mapped ps

  statements-mapped : (x : Typed T) → statements_of (mapped g x) ≡ map (mapped g) (statements_of x)
  statements-mapped (typed f i j l ps) = ap (drop (values_count f)) (present-mapped ps) ∙ drop-map (mapped g) (values_count f) (present ps)

  -- ---- the statements of windows

  row-mapped : (xs : List (Typed T)) → row_of (map (mapped g) xs) ≡ all_mapped g (row_of xs)
  row-mapped [] = refl
  row-mapped (x ∷ xs) = ap (more (mapped g x)) (row-mapped xs)

  there-mapped : (o : Option (Typed T)) → statements_in (option_map (mapped g) o) ≡ map (mapped g) (statements_in o)
  there-mapped None = refl
  there-mapped (Some l) = statements-mapped l

  abbrev run : ℕ → ℕ → List (Typed U) → Typeds U
  run first count xs = row_of (take count (drop first xs))

  pub window-mapped : (root : Typed T) (w : Window) → window_statements (mapped g root) w ≡ all_mapped g (window_statements root w)
  window-mapped root w =
      let lists = statement_lists root in
      let list = slice_get lists w.list in
      ap (λ ls. run w.first w.count (statements_in (slice_get ls w.list))) (lists-mapped root)
      ∙ ap (λ l. run w.first w.count (statements_in l)) (slice_get-map (mapped g) lists w.list)
      ∙ ap (run w.first w.count) (there-mapped list)
      ∙ ap (λ xs. row_of (take w.count xs)) (drop-map (mapped g) w.first (statements_in list))
      ∙ ap row_of (take-map (mapped g) w.count (drop w.first (statements_in list)))
      ∙ row-mapped (take w.count (drop w.first (statements_in list)))

  abbrev pub body-mapped : Body T → Body U
  body-mapped b = record { locals = map (sort_mapped g) b.locals; root = mapped g b.root }

  at-mapped : (o : Option (Body T)) (w : Window) → statements_at (option_map body-mapped o) w ≡ all_mapped g (statements_at o w)
  at-mapped None w = refl
  at-mapped (Some b) w = window-mapped b.root w

  pub statements-at-mapped : (bs : List (Body T)) (w : Window) → statements_at (slice_get (map body-mapped bs) w.func) w ≡ all_mapped g (statements_at (slice_get bs w.func) w)
  statements-at-mapped bs w = ap (λ o. statements_at o w) (slice_get-map body-mapped bs w.func) ∙ at-mapped (slice_get bs w.func) w

  -- ---- the tokens of windows

  last-mapped : (p : Typed T) → last_of (mapped g p) ≡ last_of p
  last-mapped (typed f i j l ps) = refl

  first-mapped : (p : Typed T) → first_of (mapped g p) ≡ first_of p
  first-mapped (typed f i j l ps) = refl

  behind-mapped : (j : ℕ) (ps : Typeds T) → last_from j (all_mapped g ps) ≡ last_from j ps
  behind-mapped j none = refl
  behind-mapped j (more p ps) = ap (λ k. last_from k (all_mapped g ps)) (last-mapped p) ∙ behind-mapped (last_of p) ps
  behind-mapped j (skip ps) = behind-mapped j ps

  pub range-mapped : (ps : Typeds T) → range_over (all_mapped g ps) ≡ range_over ps
  range-mapped none = refl
  range-mapped (more p ps) =
      ap (λ i. Some (record { from = i; to = last_from (last_of (mapped g p)) (all_mapped g ps) })) (first-mapped p)
      ∙ ap (λ j. Some (record { from = first_of p; to = last_from j (all_mapped g ps) })) (last-mapped p)
      ∙ ap (λ j. Some (record { from = first_of p; to = j })) (behind-mapped (last_of p) ps)
  range-mapped (skip ps) = refl

  -- ---- windows

  mutual
    pub windows-mapped : (bounds : Bounds) (func k : ℕ) (x : Typed T) → windows_in bounds func k (mapped g x) ≡ windows_in bounds func k x
    windows-mapped bounds func k (typed f i j l ps) =
        ap (λ ws. if is_statement_list f then ws else windows_among bounds func k (all_mapped g ps)) (along-mapped bounds func k (values_count f) (suc k) 0 ps)
        ∙ ap (λ ws. if is_statement_list f then windows_along bounds func k (values_count f) (suc k) 0 ps else ws) (among-mapped bounds func k ps)

    among-mapped : (bounds : Bounds) (func k : ℕ) (ps : Typeds T) → windows_among bounds func k (all_mapped g ps) ≡ windows_among bounds func k ps
    among-mapped bounds func k none = refl
    among-mapped bounds func k (more p ps) =
        ap (λ ws. ws ++ windows_among bounds func (k + list_count (mapped g p)) (all_mapped g ps)) (windows-mapped bounds func k p)
        ∙ ap (λ n. windows_in bounds func k p ++ windows_among bounds func (k + n) (all_mapped g ps)) (count-mapped p)
        ∙ ap (λ ws. windows_in bounds func k p ++ ws) (among-mapped bounds func (k + list_count p) ps)
    among-mapped bounds func k (skip ps) = among-mapped bounds func k ps

    along-mapped : (bounds : Bounds) (func list ahead k index : ℕ) (ps : Typeds T) → windows_along bounds func list ahead k index (all_mapped g ps) ≡ windows_along bounds func list ahead k index ps
    along-mapped bounds func list ahead k index none = refl
    along-mapped bounds func list ahead k index (more p ps) =
        let own = windows_from bounds func list ahead index (each_mass (more p ps)) in
        ap (λ ms. windows_from bounds func list ahead index ms ++ windows_in bounds func k (mapped g p) ++ windows_along bounds func list ahead (k + list_count (mapped g p)) (suc index) (all_mapped g ps)) (each-mapped (more p ps))
        ∙ ap (λ ws. own ++ ws ++ windows_along bounds func list ahead (k + list_count (mapped g p)) (suc index) (all_mapped g ps)) (windows-mapped bounds func k p)
        ∙ ap (λ n. own ++ windows_in bounds func k p ++ windows_along bounds func list ahead (k + n) (suc index) (all_mapped g ps)) (count-mapped p)
        ∙ ap (λ ws. own ++ windows_in bounds func k p ++ ws) (along-mapped bounds func list ahead (k + list_count p) (suc index) ps)
    along-mapped bounds func list ahead k index (skip ps) = along-mapped bounds func list ahead k index ps

  pub all-windows-mapped : (bounds : Bounds) (func : ℕ) (bs : List (Body T)) → windows_of_all bounds func (map body-mapped bs) ≡ windows_of_all bounds func bs
  all-windows-mapped bounds func [] = refl
  all-windows-mapped bounds func (b ∷ bs) =
      ap (λ ws. ws ++ windows_of_all bounds (suc func) (map body-mapped bs)) (windows-mapped bounds func 0 b.root)
      ∙ ap (λ ws. windows bounds func b.root ++ ws) (all-windows-mapped bounds (suc func) bs)
