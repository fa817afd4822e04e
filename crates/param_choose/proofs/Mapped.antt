-- Choices are the same over other words for types.
use Rattle.std.proofs.Common.{◌≡◌, ◌∙◌, ℕ, zero, suc, ◌+◌, ◌-◌, Bool, true, false, List, [], ◌∷◌, ◌++◌, length, map, take, drop, Option, Some, None, slice_get, ap, refl, sym}
use Rattle.std.proofs.lemmas.List.{map-append, take-map, drop-map}
use Rattle.std.proofs.lemmas.Option.{slice_get-map}
use Rattle.std.specs.Prelude.{◌&&◌, ◌||◌, not, nat_lt, if◌then◌else◌, unwrap_or}
use Rattle.std.specs.List.{list_any, zip}
use Rattle.std.specs.Option.{option_map, option_to_list}
use Rattle.go_constants.specs.declared.values.Const.{Const}
use Rattle.go_tree.specs.Uses.{UsesView}
use Rattle.go_types.specs.Tables.{type_of, rights_of}
use Rattle.go_types.specs.Trees.{TypeTree}
use Rattle.go_typed.specs.declared.form.Form.{Form}
use Rattle.go_typed.specs.declared.walk.LocalUse.{LocalUse}
use Rattle.go_typed.specs.declared.window.Window.{Window}
use Rattle.go_typed.specs.Contents.{Content, content, func_content}
use Rattle.go_typed.specs.Forms.{is_statement_list, local_of, values_count}
use Rattle.go_typed.specs.Funcs.{FuncView, size, sizes, tree_of}
use Rattle.go_typed.specs.Lists.{own_list, statement_lists, lists_among, present, statements_of}
use Rattle.go_typed.specs.NodeTables.{list_numbers, numbers_among, own_number}
use Rattle.go_typed.specs.Packages.{PackageView}
use Rattle.go_typed.specs.Trees.{Sort, Nothing, Unknown, Blank, Nil, Builtin, Println, Package, IsType, Value, Constant, Open, OpenConstant, Results}
use Rattle.go_typed.specs.Trees.{Label, Typed, typed, Typeds, none, more, skip, first_of, last_of, form_of, parts_of, sort_mapped, label_mapped, mapped, all_mapped}
use Rattle.go_typed.specs.Windows.{uses_from}
use Rattle.clone_window.specs.Fields.{operand}
use Rattle.clone_window.specs.Masses.{is_constant, is_expression, is_hole, is_inside}
use Rattle.clone_window.specs.Sameness.{locals, all_locals, sort_at, standing, value_of}
use Rattle.clone_window.specs.Spans.{last_from}
use Rattle.clone_window.specs.Windows.{row_of, statements_in, window_statements}
use Rattle.param_choose.specs.Members.{Member, first_in, number_past, statement_number, start_in, member_over, member_of, members_of}
use Rattle.param_choose.specs.Members.{template_of, member_in, members_in, template_in, is_declared_inside, uses_within, occurs_later, local_at, second_of}
use Rattle.param_choose.specs.Locals.{Variable, variable_of, variable_at, variables_where, is_array, is_value, root_by, root, first_root, roots, left_sides, assigned_in, assigned_among}
use Rattle.param_choose.specs.Locals.{assigned_of, only, has, each_local, once, free_locals, is_outside, new_in, names_among, names_in, names_specified, names_of, names_declared, declared_names, holds_names, holds_specifications}
use Rattle.param_choose.specs.Holes.{Hole, holes_in, holes_among, holes, hole_value, differ, differs_from, differs_at, is_fixed, is_outer, names_outer}
use Rattle.param_choose.specs.Choosing.{HoleParameter, type_in, parameter_with, parameter_of, is_parameter, parameters_from, hole_parameters, is_needed, declared_results, Choice, choice, chosen_in, chosen_of}
use Rattle.param_choose.specs.Plans.{Planned, Parameter, Result, planned, free_parameter, hole_parameter, assigned_result, declared_result, planned_mapped, parameter_mapped, result_mapped}
use Rattle.param_choose.specs.Shown.{array_in}

module _ {T U : Type 0} (g : T → U) where
  -- ---- what nodes stand for

  constant-mapped : (s : Sort T) → is_constant (sort_mapped g s) ≡ is_constant s
  constant-mapped Nothing = refl
  constant-mapped Unknown = refl
  constant-mapped Blank = refl
  constant-mapped Nil = refl
  constant-mapped (Builtin b) = refl
  constant-mapped Println = refl
  constant-mapped Package = refl
  constant-mapped (IsType t) = refl
  constant-mapped (Value t) = refl
  constant-mapped (Constant t c) = refl
  constant-mapped (Open u) = refl
  constant-mapped (OpenConstant c) = refl
  constant-mapped (Results t) = refl

  value-mapped : (s : Sort T) → is_value (sort_mapped g s) ≡ is_value s
  value-mapped Nothing = refl
  value-mapped Unknown = refl
  value-mapped Blank = refl
  value-mapped Nil = refl
  value-mapped (Builtin b) = refl
  value-mapped Println = refl
  value-mapped Package = refl
  value-mapped (IsType t) = refl
  value-mapped (Value t) = refl
  value-mapped (Constant t c) = refl
  value-mapped (Open u) = refl
  value-mapped (OpenConstant c) = refl
  value-mapped (Results t) = refl

  pub standing-mapped : (s : Sort T) → standing (sort_mapped g s) ≡ standing s
  standing-mapped Nothing = refl
  standing-mapped Unknown = refl
  standing-mapped Blank = refl
  standing-mapped Nil = refl
  standing-mapped (Builtin b) = refl
  standing-mapped Println = refl
  standing-mapped Package = refl
  standing-mapped (IsType t) = refl
  standing-mapped (Value t) = refl
  standing-mapped (Constant t c) = refl
  standing-mapped (Open u) = refl
  standing-mapped (OpenConstant c) = refl
  standing-mapped (Results t) = refl

  pub held-mapped : (s : Sort T) → value_of (sort_mapped g s) ≡ value_of s
  held-mapped Nothing = refl
  held-mapped Unknown = refl
  held-mapped Blank = refl
  held-mapped Nil = refl
  held-mapped (Builtin b) = refl
  held-mapped Println = refl
  held-mapped Package = refl
  held-mapped (IsType t) = refl
  held-mapped (Value t) = refl
  held-mapped (Constant t c) = refl
  held-mapped (Open u) = refl
  held-mapped (OpenConstant c) = refl
  held-mapped (Results t) = refl

  type-mapped : (s : Sort T) → type_in (sort_mapped g s) ≡ option_map g (type_in s)
  type-mapped Nothing = refl
  type-mapped Unknown = refl
  type-mapped Blank = refl
  type-mapped Nil = refl
  type-mapped (Builtin b) = refl
  type-mapped Println = refl
  type-mapped Package = refl
  type-mapped (IsType t) = refl
  type-mapped (Value t) = refl
  type-mapped (Constant t c) = refl
  type-mapped (Open u) = refl
  type-mapped (OpenConstant c) = refl
  type-mapped (Results t) = refl

  abbrev pub variable_mapped : Variable T → Variable U
  variable_mapped v = record { local = v.local; type = g v.type }

  abbrev pub hole_mapped : Hole T → Hole U
  hole_mapped h = record { node = h.node; from = h.from; upto = h.upto; sort = sort_mapped g h.sort }

  abbrev pub parameter_renamed : HoleParameter T → HoleParameter U
  parameter_renamed p = record { number = p.number; node = p.node; hole = hole_mapped p.hole; type = g p.type }

  abbrev pub choice_mapped : Choice T → Choice U
  choice_mapped c = record { free = map variable_mapped c.free; holes = map parameter_renamed c.holes; assigned = map variable_mapped c.assigned; declared = map variable_mapped c.declared }

  abbrev pub member_mapped : Member T → Member U
  member_mapped m = record { window = m.window; locals = map (sort_mapped g) m.locals; declared = m.declared; first = m.first; tokens = m.tokens; statements = all_mapped g m.statements; start = m.start; from = m.from; upto = m.upto }

  variable-mapped : (s : Sort T) → (n : ℕ) → variable_of n (sort_mapped g s) ≡ map variable_mapped (variable_of n s)
  variable-mapped Nothing n = refl
  variable-mapped Unknown n = refl
  variable-mapped Blank n = refl
  variable-mapped Nil n = refl
  variable-mapped (Builtin b) n = refl
  variable-mapped Println n = refl
  variable-mapped Package n = refl
  variable-mapped (IsType t) n = refl
  variable-mapped (Value t) n = refl
  variable-mapped (Constant t c) n = refl
  variable-mapped (Open u) n = refl
  variable-mapped (OpenConstant c) n = refl
  variable-mapped (Results t) n = refl

  hole-mapped : (a : Bool) (f : Form) (l : Label T) → is_hole a f (label_mapped g l) ≡ is_hole a f l
  hole-mapped a f l = ap (λ c. not a && (is_expression f && c) && not l.varies) (constant-mapped l.sort)

  inside-mapped : (a : Bool) (f : Form) (l : Label T) → is_inside a f (label_mapped g l) ≡ is_inside a f l
  inside-mapped a f l = ap (λ c. a || (is_expression f && c)) (constant-mapped l.sort)

  -- ---- trees

  mutual
    size-mapped : (x : Typed T) → size (mapped g x) ≡ size x
    size-mapped (typed f i j l ps) = ap suc (sizes-mapped ps)

    sizes-mapped : (ps : Typeds T) → sizes (all_mapped g ps) ≡ sizes ps
    sizes-mapped none = refl
    sizes-mapped (more p ps) = ap (λ n. n + sizes (all_mapped g ps)) (size-mapped p) ∙ ap (λ n. size p + n) (sizes-mapped ps)
    sizes-mapped (skip ps) = sizes-mapped ps

  mutual
    locals-mapped : (a : Bool) (x : Typed T) → locals a (mapped g x) ≡ locals a x
    locals-mapped a (typed f i j l ps) =
        ap (λ h. if h then [] else option_to_list (local_of f) ++ all_locals (is_inside a f (label_mapped g l)) (all_mapped g ps)) (hole-mapped a f l)
        ∙ ap (λ b. if is_hole a f l then [] else option_to_list (local_of f) ++ all_locals b (all_mapped g ps)) (inside-mapped a f l)
        ∙ ap (λ ns. if is_hole a f l then [] else option_to_list (local_of f) ++ ns) (all-locals-mapped (is_inside a f l) ps)

    all-locals-mapped : (a : Bool) (ps : Typeds T) → all_locals a (all_mapped g ps) ≡ all_locals a ps
    all-locals-mapped a none = refl
    all-locals-mapped a (more p ps) = ap (λ ns. ns ++ all_locals a (all_mapped g ps)) (locals-mapped a p) ∙ ap (λ ns. locals a p ++ ns) (all-locals-mapped a ps)
    all-locals-mapped a (skip ps) = all-locals-mapped a ps

  own-mapped : (b : Bool) (x : Typed T) → (if b then mapped g x ∷ [] else []) ≡ map (mapped g) (if b then x ∷ [] else [])
  own-mapped true x = refl
  own-mapped false x = refl

  mutual
    lists-mapped : (x : Typed T) → statement_lists (mapped g x) ≡ map (mapped g) (statement_lists x)
    lists-mapped (typed f i j l ps) =
        ap (λ xs. xs ++ lists_among (all_mapped g ps)) (own-mapped (is_statement_list f) (typed f i j l ps))
        ∙ ap (λ xs. map (mapped g) (own_list (typed f i j l ps)) ++ xs) (lists-among-mapped ps)
        ∙ sym (map-append (mapped g) (own_list (typed f i j l ps)) (lists_among ps))

    lists-among-mapped : (ps : Typeds T) → lists_among (all_mapped g ps) ≡ map (mapped g) (lists_among ps)
    lists-among-mapped none = refl
    lists-among-mapped (more p ps) =
        ap (λ xs. xs ++ lists_among (all_mapped g ps)) (lists-mapped p)
        ∙ ap (λ xs. map (mapped g) (statement_lists p) ++ xs) (lists-among-mapped ps)
        ∙ sym (map-append (mapped g) (statement_lists p) (lists_among ps))
    lists-among-mapped (skip ps) = lists-among-mapped ps

  mutual
    numbers-mapped : (k : ℕ) (x : Typed T) → list_numbers k (mapped g x) ≡ list_numbers k x
    numbers-mapped k (typed f i j l ps) = ap (λ ns. own_number k (typed f i j l ps) ++ ns) (numbers-among-mapped (suc k) ps)

    numbers-among-mapped : (k : ℕ) (ps : Typeds T) → numbers_among k (all_mapped g ps) ≡ numbers_among k ps
    numbers-among-mapped k none = refl
    numbers-among-mapped k (more p ps) =
        ap (λ ns. ns ++ numbers_among (k + size (mapped g p)) (all_mapped g ps)) (numbers-mapped k p)
        ∙ ap (λ n. list_numbers k p ++ numbers_among (k + n) (all_mapped g ps)) (size-mapped p)
        ∙ ap (λ ns. list_numbers k p ++ ns) (numbers-among-mapped (k + size p) ps)
    numbers-among-mapped k (skip ps) = numbers-among-mapped k ps

  pub present-mapped : (ps : Typeds T) → present (all_mapped g ps) ≡ map (mapped g) (present ps)
  present-mapped none = refl
  present-mapped (more p ps) = ap (λ xs. mapped g p ∷ xs) (present-mapped ps)
  present-mapped (skip ps) = present-mapped ps

  statements-mapped : (x : Typed T) → statements_of (mapped g x) ≡ map (mapped g) (statements_of x)
  statements-mapped (typed f i j l ps) = ap (drop (values_count f)) (present-mapped ps) ∙ drop-map (mapped g) (values_count f) (present ps)

  row-mapped : (xs : List (Typed T)) → row_of (map (mapped g) xs) ≡ all_mapped g (row_of xs)
  row-mapped [] = refl
  row-mapped (x ∷ xs) = ap (more (mapped g x)) (row-mapped xs)

  there-mapped : (o : Option (Typed T)) → statements_in (option_map (mapped g) o) ≡ map (mapped g) (statements_in o)
  there-mapped None = refl
  there-mapped (Some l) = statements-mapped l

  abbrev run : ℕ → ℕ → List (Typed U) → Typeds U
  run first count xs = row_of (take count (drop first xs))

  window-mapped : (root : Typed T) (w : Window) → window_statements (mapped g root) w ≡ all_mapped g (window_statements root w)
  window-mapped root w =
      let lists = statement_lists root in
      let list = slice_get lists w.list in
      ap (λ ls. run w.first w.count (statements_in (slice_get ls w.list))) (lists-mapped root)
      ∙ ap (λ l. run w.first w.count (statements_in l)) (slice_get-map (mapped g) lists w.list)
      ∙ ap (run w.first w.count) (there-mapped list)
      ∙ ap (λ xs. row_of (take w.count xs)) (drop-map (mapped g) w.first (statements_in list))
      ∙ ap row_of (take-map (mapped g) w.count (drop w.first (statements_in list)))
      ∙ row-mapped (take w.count (drop w.first (statements_in list)))

  past-mapped : (k n : ℕ) (ps : Typeds T) → number_past k n (all_mapped g ps) ≡ number_past k n ps
  past-mapped k n none = refl
  past-mapped k zero (more p ps) = refl
  past-mapped k zero (skip ps) = refl
  past-mapped k (suc n) (more p ps) = ap (λ m. number_past (k + m) n (all_mapped g ps)) (size-mapped p) ∙ past-mapped (k + size p) n ps
  past-mapped k (suc n) (skip ps) = past-mapped k (suc n) ps

  number-mapped : (k : Option ℕ) (l : Option (Typed T)) (n : ℕ) → statement_number k (option_map (mapped g) l) n ≡ statement_number k l n
  number-mapped None None n = refl
  number-mapped None (Some x) n = refl
  number-mapped (Some k) None n = refl
  number-mapped (Some k) (Some (typed f i j l ps)) n = past-mapped (suc k) (values_count f + n) ps

  start-mapped : (root : Typed T) (w : Window) → start_in (mapped g root) w ≡ start_in root w
  start-mapped root w =
      ap (λ ns. statement_number (slice_get ns w.list) (slice_get (statement_lists (mapped g root)) w.list) w.first) (numbers-mapped 0 root)
      ∙ ap (λ ls. statement_number (slice_get (list_numbers 0 root) w.list) (slice_get ls w.list) w.first) (lists-mapped root)
      ∙ ap (λ l. statement_number (slice_get (list_numbers 0 root) w.list) l w.first) (slice_get-map (mapped g) (statement_lists root) w.list)
      ∙ number-mapped (slice_get (list_numbers 0 root) w.list) (slice_get (statement_lists root) w.list) w.first

  first-mapped : (ps : Typeds T) → first_in (all_mapped g ps) ≡ first_in ps
  first-mapped none = refl
  first-mapped (more (typed f i j l qs) ps) = refl
  first-mapped (skip ps) = refl

  last-mapped : (j : ℕ) (ps : Typeds T) → last_from j (all_mapped g ps) ≡ last_from j ps
  last-mapped j none = refl
  last-mapped j (more (typed f i k l qs) ps) = last-mapped k ps
  last-mapped j (skip ps) = last-mapped j ps

  -- a member with other statements, another first node and other tokens
  abbrev with_statements : Member U → Typeds U → ℕ → ℕ → ℕ → Member U
  with_statements m ps s i j = record { window = m.window; locals = m.locals; declared = m.declared; first = m.first; tokens = m.tokens; statements = ps; start = s; from = i; upto = j }

  pub over-mapped : (u : UsesView) (w : Window) (sorts : List (Sort T)) (tokens : List (Option ℕ)) (root : Typed T) →
      member_over u w (map (sort_mapped g) sorts) tokens (mapped g root) ≡ member_mapped (member_over u w sorts tokens root)
  over-mapped u w sorts tokens root =
      let m = member_mapped (member_over u w sorts tokens root) in
      let ps = window_statements (mapped g root) w in
      ap (λ s. with_statements m ps s (first_in ps) (last_from 0 ps)) (start-mapped root w)
      ∙ ap (λ qs. with_statements m qs m.start (first_in qs) (last_from 0 qs)) (window-mapped root w)
      ∙ ap (λ i. with_statements m m.statements m.start i (last_from 0 m.statements)) (first-mapped (window_statements root w))
      ∙ ap (λ j. with_statements m m.statements m.start m.from j) (last-mapped 0 (window_statements root w))

  -- ---- variables

  there-sort : (o : Option (Sort T)) → unwrap_or (option_map (sort_mapped g) o) Unknown ≡ sort_mapped g (unwrap_or o Unknown)
  there-sort None = refl
  there-sort (Some s) = refl

  pub sort-at-mapped : (sorts : List (Sort T)) (n : ℕ) → sort_at (map (sort_mapped g) sorts) n ≡ sort_mapped g (sort_at sorts n)
  sort-at-mapped sorts n = ap (λ o. unwrap_or o Unknown) (slice_get-map (sort_mapped g) sorts n) ∙ there-sort (slice_get sorts n)

  pub variable-at-mapped : (sorts : List (Sort T)) (n : ℕ) → variable_at (map (sort_mapped g) sorts) n ≡ map variable_mapped (variable_at sorts n)
  variable-at-mapped sorts n = ap (variable_of n) (sort-at-mapped sorts n) ∙ variable-mapped (sort_at sorts n) n

  if-mapped : {A B : Type 0} (h : A → B) (b : Bool) (xs : List A) → (if b then map h xs else []) ≡ map h (if b then xs else [])
  if-mapped h true xs = refl
  if-mapped h false xs = refl

  where-mapped : (sorts : List (Sort T)) (p q : ℕ → Bool) → ((n : ℕ) → p n ≡ q n) → (ns : List ℕ) →
      variables_where (map (sort_mapped g) sorts) p ns ≡ map variable_mapped (variables_where sorts q ns)
  where-mapped sorts p q e [] = refl
  where-mapped sorts p q e (n ∷ ns) =
      ap (λ vs. (if p n then vs else []) ++ variables_where (map (sort_mapped g) sorts) p ns) (variable-at-mapped sorts n)
      ∙ ap (λ b. (if b then map variable_mapped (variable_at sorts n) else []) ++ variables_where (map (sort_mapped g) sorts) p ns) (e n)
      ∙ ap (λ vs. vs ++ variables_where (map (sort_mapped g) sorts) p ns) (if-mapped variable_mapped (q n) (variable_at sorts n))
      ∙ ap (λ vs. map variable_mapped (if q n then variable_at sorts n else []) ++ vs) (where-mapped sorts p q e ns)
      ∙ sym (map-append variable_mapped (if q n then variable_at sorts n else []) (variables_where sorts q ns))

  pub free-mapped : (m : Member T) → free_locals (member_mapped m) ≡ map variable_mapped (free_locals m)
  free-mapped m = where-mapped m.locals (is_outside (member_mapped m)) (is_outside m) (λ n. refl) (once [] (each_local (uses_within m)))

  -- ---- assigned locals

  module _ (array : Sort U → Bool) where
    abbrev before : Sort T → Bool
    before s = array (sort_mapped g s)

    operand-mapped : (ps : Typeds T) → operand (all_mapped g ps) ≡ sort_mapped g (operand ps)
    operand-mapped none = refl
    operand-mapped (more (typed f i j l qs) ps) = refl
    operand-mapped (skip ps) = refl

    mutual
      root-mapped : (x : Typed T) → root array (mapped g x) ≡ root before x
      root-mapped (typed f i j l ps) =
          ap (λ v. root_by f v (array (operand (all_mapped g ps))) (first_root array (all_mapped g ps))) (value-mapped l.sort)
          ∙ ap (λ s. root_by f (is_value l.sort) (array s) (first_root array (all_mapped g ps))) (operand-mapped ps)
          ∙ ap (root_by f (is_value l.sort) (before (operand ps))) (first-root-mapped ps)

      first-root-mapped : (ps : Typeds T) → first_root array (all_mapped g ps) ≡ first_root before ps
      first-root-mapped none = refl
      first-root-mapped (more p ps) = root-mapped p
      first-root-mapped (skip ps) = refl

    roots-mapped : (n : ℕ) (ps : Typeds T) → roots array n (all_mapped g ps) ≡ roots before n ps
    roots-mapped n none = refl
    roots-mapped zero (more p ps) = refl
    roots-mapped zero (skip ps) = refl
    roots-mapped (suc n) (more p ps) =
        ap (λ r. option_to_list r ++ roots array n (all_mapped g ps)) (root-mapped p) ∙ ap (λ ns. option_to_list (root before p) ++ ns) (roots-mapped n ps)
    roots-mapped (suc n) (skip ps) = roots-mapped n ps

    mutual
      assigned-mapped : (x : Typed T) → assigned_in array (mapped g x) ≡ assigned_in before x
      assigned-mapped (typed f i j l ps) =
          ap (λ ns. ns ++ assigned_among array (all_mapped g ps)) (roots-mapped (left_sides f) ps) ∙ ap (λ ns. roots before (left_sides f) ps ++ ns) (assigned-among-mapped ps)

      assigned-among-mapped : (ps : Typeds T) → assigned_among array (all_mapped g ps) ≡ assigned_among before ps
      assigned-among-mapped none = refl
      assigned-among-mapped (more p ps) = ap (λ ns. ns ++ assigned_among array (all_mapped g ps)) (assigned-mapped p) ∙ ap (λ ns. assigned_in before p ++ ns) (assigned-among-mapped ps)
      assigned-among-mapped (skip ps) = assigned-among-mapped ps

    only-mapped : (test : ℕ → Bool) (vs : List (Variable T)) → only test (map variable_mapped vs) ≡ map variable_mapped (only test vs)
    only-mapped test [] = refl
    only-mapped test (v ∷ vs) =
        ap (λ ws. ws ++ only test (map variable_mapped vs)) (if-mapped variable_mapped (test v.local) (v ∷ []))
        ∙ ap (λ ws. map variable_mapped (if test v.local then v ∷ [] else []) ++ ws) (only-mapped test vs)
        ∙ sym (map-append variable_mapped (if test v.local then v ∷ [] else []) (only test vs))

    assigned-of-mapped : (m : Member T) (vs : List (Variable T)) → assigned_of array (member_mapped m) (map variable_mapped vs) ≡ map variable_mapped (assigned_of before m vs)
    assigned-of-mapped m vs = ap (λ ns. only (has ns) (map variable_mapped vs)) (assigned-among-mapped m.statements) ∙ only-mapped (has (assigned_among before m.statements)) vs

  -- ---- declared names

  names-mapped : (ps : Typeds T) → names_among (all_mapped g ps) ≡ names_among ps
  names-mapped none = refl
  names-mapped (more (typed f i j l qs) ps) = ap (λ ns. new_in (typed f i j l qs) ++ ns) (names-mapped ps)
  names-mapped (skip ps) = names-mapped ps

  specified-mapped : (ps : Typeds T) → names_specified (all_mapped g ps) ≡ names_specified ps
  specified-mapped none = refl
  specified-mapped (more (typed f i j l qs) ps) = ap (λ ns. ns ++ names_specified (all_mapped g ps)) (names-mapped qs) ∙ ap (λ ns. names_among qs ++ ns) (specified-mapped ps)
  specified-mapped (skip ps) = specified-mapped ps

  of-mapped : (x : Typed T) → names_of (mapped g x) ≡ names_of x
  of-mapped (typed f i j l ps) =
      ap (λ ns. if holds_specifications f then ns else (if holds_names f then names_among (all_mapped g ps) else [])) (specified-mapped ps)
      ∙ ap (λ ns. if holds_specifications f then names_specified ps else (if holds_names f then ns else [])) (names-mapped ps)

  pub declared-mapped : (ps : Typeds T) → names_declared (all_mapped g ps) ≡ names_declared ps
  declared-mapped none = refl
  declared-mapped (more p ps) = ap (λ ns. ns ++ names_declared (all_mapped g ps)) (of-mapped p) ∙ ap (λ ns. names_of p ++ ns) (declared-mapped ps)
  declared-mapped (skip ps) = declared-mapped ps

  any-mapped : {A B : Type 0} (h : A → B) (p : B → Bool) (q : A → Bool) → ((x : A) → p (h x) ≡ q x) → (xs : List A) → list_any p (map h xs) ≡ list_any q xs
  any-mapped h p q e [] = refl
  any-mapped h p q e (x ∷ xs) = ap (λ b. b || list_any p (map h xs)) (e x) ∙ ap (λ b. q x || b) (any-mapped h p q e xs)

  any-alike : {A : Type 0} (p q : A → Bool) → ((x : A) → p x ≡ q x) → (xs : List A) → list_any p xs ≡ list_any q xs
  any-alike p q e [] = refl
  any-alike p q e (x ∷ xs) = ap (λ b. b || list_any p xs) (e x) ∙ ap (λ b. q x || b) (any-alike p q e xs)

  pub local-at-mapped : (t m : Member T) (n : ℕ) → local_at (member_mapped t) (member_mapped m) n ≡ local_at t m n
  local-at-mapped t m n =
      ap (λ ns. second_of (zip ns (all_locals false (all_mapped g m.statements))) n) (all-locals-mapped false t.statements)
      ∙ ap (λ ns. second_of (zip (all_locals false t.statements) ns) n) (all-locals-mapped false m.statements)

  needed-mapped : (ms : List (Member T)) (t : Member T) (n : ℕ) → is_needed (map member_mapped ms) (member_mapped t) n ≡ is_needed ms t n
  needed-mapped ms t n =
      any-mapped member_mapped (λ (u : Member U). occurs_later u (local_at (member_mapped t) u n)) (λ (m : Member T). occurs_later m (local_at t m n))
      (λ m. ap (occurs_later m) (local-at-mapped t m n)) ms

  results-mapped : (ms : List (Member T)) (t : Member T) → declared_results (map member_mapped ms) (member_mapped t) ≡ map variable_mapped (declared_results ms t)
  results-mapped ms t =
      where-mapped t.locals (is_needed (map member_mapped ms) (member_mapped t)) (is_needed ms t) (needed-mapped ms t) (names_declared (all_mapped g t.statements))
      ∙ ap (λ ns. map variable_mapped (variables_where t.locals (is_needed ms t) ns)) (declared-mapped t.statements)

  -- ---- holes

  one-mapped : (b : Bool) (h : Hole T) (xs : List (Hole T)) → (if b then hole_mapped h ∷ [] else map hole_mapped xs) ≡ map hole_mapped (if b then h ∷ [] else xs)
  one-mapped true h xs = refl
  one-mapped false h xs = refl

  mutual
    holes-in-mapped : (k : ℕ) (a : Bool) (x : Typed T) → holes_in k a (mapped g x) ≡ map hole_mapped (holes_in k a x)
    holes-in-mapped k a (typed f i j l ps) =
        let h : Hole T = record { node = k; from = i; upto = j; sort = l.sort } in
        ap (λ b. if b then hole_mapped h ∷ [] else holes_among (suc k) (is_inside a f (label_mapped g l)) (all_mapped g ps)) (hole-mapped a f l)
        ∙ ap (λ b. if is_hole a f l then hole_mapped h ∷ [] else holes_among (suc k) b (all_mapped g ps)) (inside-mapped a f l)
        ∙ ap (λ hs. if is_hole a f l then hole_mapped h ∷ [] else hs) (holes-mapped (suc k) (is_inside a f l) ps)
        ∙ one-mapped (is_hole a f l) h (holes_among (suc k) (is_inside a f l) ps)

    pub holes-mapped : (k : ℕ) (a : Bool) (ps : Typeds T) → holes_among k a (all_mapped g ps) ≡ map hole_mapped (holes_among k a ps)
    holes-mapped k a none = refl
    holes-mapped k a (more p ps) =
        ap (λ hs. hs ++ holes_among (k + size (mapped g p)) a (all_mapped g ps)) (holes-in-mapped k a p)
        ∙ ap (λ n. map hole_mapped (holes_in k a p) ++ holes_among (k + n) a (all_mapped g ps)) (size-mapped p)
        ∙ ap (λ hs. map hole_mapped (holes_in k a p) ++ hs) (holes-mapped (k + size p) a ps)
        ∙ sym (map-append hole_mapped (holes_in k a p) (holes_among (k + size p) a ps))
    holes-mapped k a (skip ps) = holes-mapped k a ps

  differs-mapped : (v : Option Const) (o : Option (Hole T)) → differs_from v (option_map hole_mapped o) ≡ differs_from v o
  differs-mapped v None = refl
  differs-mapped v (Some h) = ap (differ v) (held-mapped h.sort)

  differs-at-mapped : (h : Hole T) (n : ℕ) (m : Member T) → differs_at (hole_value (hole_mapped h)) n (member_mapped m) ≡ differs_at (hole_value h) n m
  differs-at-mapped h n m =
      ap (λ v. differs_from v (slice_get (holes_among 0 false (all_mapped g m.statements)) n)) (held-mapped h.sort)
      ∙ ap (λ hs. differs_from (hole_value h) (slice_get hs n)) (holes-mapped 0 false m.statements)
      ∙ ap (differs_from (hole_value h)) (slice_get-map hole_mapped (holes m) n)
      ∙ differs-mapped (hole_value h) (slice_get (holes m) n)

  pub outer-mapped : (t : Member T) (u : LocalUse) → is_outer (member_mapped t) u ≡ is_outer t u
  outer-mapped t u =
      ap (λ s. nat_lt 1 (standing s) && not (is_declared_inside t u.local)) (sort-at-mapped t.locals u.local)
      ∙ ap (λ n. nat_lt 1 n && not (is_declared_inside t u.local)) (standing-mapped (sort_at t.locals u.local))

  names-outer-mapped : (t : Member T) (h : Hole T) → names_outer (member_mapped t) (hole_mapped h) ≡ names_outer t h
  names-outer-mapped t h = any-alike (is_outer (member_mapped t)) (is_outer t) (outer-mapped t) (uses_from t.tokens h.from (h.upto - h.from))

  with-mapped : (start n : ℕ) (h : Hole T) (o : Option T) → parameter_with start n (hole_mapped h) (option_map g o) ≡ map parameter_renamed (parameter_with start n h o)
  with-mapped start n h None = refl
  with-mapped start n h (Some t) = refl

  parameter-mapped : (start n : ℕ) (h : Hole T) → parameter_of start n (hole_mapped h) ≡ map parameter_renamed (parameter_of start n h)
  parameter-mapped start n h = ap (parameter_with start n (hole_mapped h)) (type-mapped h.sort) ∙ with-mapped start n h (type_in h.sort)

  is-parameter-mapped : (ms : List (Member T)) (t : Member T) (n : ℕ) (h : Hole T) → is_parameter (map member_mapped ms) (member_mapped t) n (hole_mapped h) ≡ is_parameter ms t n h
  is-parameter-mapped ms t n h =
      ap (λ b. b || names_outer (member_mapped t) (hole_mapped h)) (any-mapped member_mapped (differs_at (hole_value (hole_mapped h)) n) (differs_at (hole_value h) n) (differs-at-mapped h n) ms)
      ∙ ap (λ b. list_any (differs_at (hole_value h) n) ms || b) (names-outer-mapped t h)

  parameters-mapped : (ms : List (Member T)) (t : Member T) (n : ℕ) (hs : List (Hole T)) →
      parameters_from (map member_mapped ms) (member_mapped t) n (map hole_mapped hs) ≡ map parameter_renamed (parameters_from ms t n hs)
  parameters-mapped ms t n [] = refl
  parameters-mapped ms t n (h ∷ hs) =
      let others = parameters_from (map member_mapped ms) (member_mapped t) (suc n) (map hole_mapped hs) in
      let own = parameter_of t.start n h in
      ap (λ b. (if b then parameter_of t.start n (hole_mapped h) else []) ++ others) (is-parameter-mapped ms t n h)
      ∙ ap (λ ps. (if is_parameter ms t n h then ps else []) ++ others) (parameter-mapped t.start n h)
      ∙ ap (λ ps. ps ++ others) (if-mapped parameter_renamed (is_parameter ms t n h) own)
      ∙ ap (λ ps. map parameter_renamed (if is_parameter ms t n h then own else []) ++ ps) (parameters-mapped ms t (suc n) hs)
      ∙ sym (map-append parameter_renamed (if is_parameter ms t n h then own else []) (parameters_from ms t (suc n) hs))

  hole-parameters-mapped : (ms : List (Member T)) (t : Member T) → hole_parameters (map member_mapped ms) (member_mapped t) ≡ map parameter_renamed (hole_parameters ms t)
  hole-parameters-mapped ms t =
      ap (parameters_from (map member_mapped ms) (member_mapped t) 0) (holes-mapped 0 false t.statements) ∙ parameters-mapped ms t 0 (holes t)

  -- ---- choices

  pub choice-mapped : (array : Sort U → Bool) (ms : List (Member T)) (t : Member T) →
      choice array (map member_mapped ms) (member_mapped t) ≡ choice_mapped (choice (λ s. array (sort_mapped g s)) ms t)
  choice-mapped array ms t =
      let u = member_mapped t in
      let us = map member_mapped ms in
      let c = choice_mapped (choice (λ s. array (sort_mapped g s)) ms t) in
      ap (λ vs. record { free = vs; holes = hole_parameters us u; assigned = assigned_of array u vs; declared = declared_results us u }) (free-mapped t)
      ∙ ap (λ hs. record { free = c.free; holes = hs; assigned = assigned_of array u c.free; declared = declared_results us u }) (hole-parameters-mapped ms t)
      ∙ ap (λ vs. record { free = c.free; holes = c.holes; assigned = vs; declared = declared_results us u }) (assigned-of-mapped array t (free_locals t))
      ∙ ap (λ vs. record { free = c.free; holes = c.holes; assigned = c.assigned; declared = vs }) (results-mapped ms t)

  pub chosen-mapped : (array : Sort U → Bool) (o : Option (Member T)) (ms : List (Member T)) →
      chosen_in array (option_map member_mapped o) (map member_mapped ms) ≡ choice_mapped (chosen_in (λ s. array (sort_mapped g s)) o ms)
  chosen-mapped array None ms = refl
  chosen-mapped array (Some t) ms = choice-mapped array ms t

  -- ---- plans

  -- each of a list, by another way
  each-way : {A B C D : Type 0} (f : A → B) (h : B → D) (k : A → C) (m : C → D) → ((x : A) → h (f x) ≡ m (k x)) → (xs : List A) → map h (map f xs) ≡ map m (map k xs)
  each-way f h k m e [] = refl
  each-way f h k m e (x ∷ xs) = ap (λ y. y ∷ map h (map f xs)) (e x) ∙ ap (λ ys. m (k x) ∷ ys) (each-way f h k m e xs)

  pub planned-mapped : (c : Choice T) → planned (choice_mapped c) ≡ planned_mapped g (planned c)
  planned-mapped c =
      let us = each-way variable_mapped free_parameter free_parameter (parameter_mapped g) (λ x. refl) c.free in
      let vs = each-way parameter_renamed hole_parameter hole_parameter (parameter_mapped g) (λ x. refl) c.holes in
      let xs = each-way variable_mapped assigned_result assigned_result (result_mapped g) (λ x. refl) c.assigned in
      let ys = each-way variable_mapped declared_result declared_result (result_mapped g) (λ x. refl) c.declared in
      let old = map assigned_result (map variable_mapped c.assigned) ++ map declared_result (map variable_mapped c.declared) in
      let new = map (parameter_mapped g) (planned c).parameters in
      ap (λ ps. record { parameters = ps ++ map hole_parameter (map parameter_renamed c.holes); results = old }) us
      ∙ ap (λ ps. record { parameters = map (parameter_mapped g) (map free_parameter c.free) ++ ps; results = old }) vs
      ∙ ap (λ ps. record { parameters = ps; results = old }) (sym (map-append (parameter_mapped g) (map free_parameter c.free) (map hole_parameter c.holes)))
      ∙ ap (λ rs. record { parameters = new; results = rs ++ map declared_result (map variable_mapped c.declared) }) xs
      ∙ ap (λ rs. record { parameters = new; results = map (result_mapped g) (map assigned_result c.assigned) ++ rs }) ys
      ∙ ap (λ rs. record { parameters = new; results = rs }) (sym (map-append (result_mapped g) (map assigned_result c.assigned) (map declared_result c.declared)))

-- ---- packages

abbrev types : PackageView → ℕ → TypeTree
types p = type_of p.types.shapes

abbrev member_by : PackageView → Window → FuncView → Member ℕ
member_by p w f = member_over p.uses w f.locals f.tokens (tree_of f)

abbrev content_by : PackageView → Window → Option FuncView → Option (Member TypeTree)
content_by p w o = option_map (λ f. member_over p.uses w f.locals f.tokens f.tree) (option_map (func_content (types p)) o)

there-member : (p : PackageView) (w : Window) (o : Option FuncView) → content_by p w o ≡ option_map (member_mapped (types p)) (option_map (member_by p w) o)
there-member p w None = refl
there-member p w (Some f) = ap Some (over-mapped (types p) p.uses w f.locals f.tokens (tree_of f))

member-seen : (p : PackageView) (w : Window) → member_of (content p) w ≡ option_map (member_mapped (types p)) (member_in p w)
member-seen p w =
    ap (option_map (λ f. member_over p.uses w f.locals f.tokens f.tree)) (slice_get-map (func_content (types p)) p.functions w.func)
    ∙ there-member p w (slice_get p.functions w.func)

listed : {A B : Type 0} (h : A → B) (o : Option A) → option_to_list (option_map h o) ≡ map h (option_to_list o)
listed h None = refl
listed h (Some x) = refl

pub members-seen : (p : PackageView) (ws : List Window) → members_of (content p) ws ≡ map (member_mapped (types p)) (members_in p ws)
members-seen p [] = refl
members-seen p (w ∷ ws) =
    ap (λ o. option_to_list o ++ members_of (content p) ws) (member-seen p w)
    ∙ ap (λ ms. ms ++ members_of (content p) ws) (listed (member_mapped (types p)) (member_in p w))
    ∙ ap (λ ms. map (member_mapped (types p)) (option_to_list (member_in p w)) ++ ms) (members-seen p ws)
    ∙ sym (map-append (member_mapped (types p)) (option_to_list (member_in p w)) (members_in p ws))

pub template-seen : (p : PackageView) (ws : List Window) → template_of (content p) ws ≡ option_map (member_mapped (types p)) (template_in p ws)
template-seen p [] = refl
template-seen p (w ∷ ws) = member-seen p w

-- what is chosen by the numbers of types is what is chosen by the types
pub chosen-seen : (p : PackageView) (ws : List Window) → chosen_of (content p) ws ≡ choice_mapped (types p) (chosen_in (array_in p.types) (template_in p ws) (members_in p ws))
chosen-seen p ws =
    let array = is_array (rights_of p.types) in
    ap (λ o. chosen_in array o (members_of (content p) ws)) (template-seen p ws)
    ∙ ap (chosen_in array (option_map (member_mapped (types p)) (template_in p ws))) (members-seen p ws)
    ∙ chosen-mapped (types p) array (template_in p ws) (members_in p ws)

pub planned-seen : (p : PackageView) (ws : List Window) →
    planned (chosen_of (content p) ws) ≡ planned_mapped (types p) (planned (chosen_in (array_in p.types) (template_in p ws) (members_in p ws)))
planned-seen p ws = ap planned (chosen-seen p ws) ∙ planned-mapped (types p) (chosen_in (array_in p.types) (template_in p ws) (members_in p ws))

-- of the function of the first window
pub choice_seen : (p : PackageView) (w : Window) (ws : List Window) (f : FuncView) → slice_get p.functions w.func ≡ Some f →
    planned (chosen_of (content p) (w ∷ ws)) ≡ planned_mapped (types p) (planned (choice (array_in p.types) (members_in p (w ∷ ws)) (member_over p.uses w f.locals f.tokens (tree_of f))))
choice_seen p w ws f e =
    planned-seen p (w ∷ ws)
    ∙ ap (λ o. planned_mapped (types p) (planned (chosen_in (array_in p.types) (option_map (member_by p w) o) (members_in p (w ∷ ws))))) e

-- without it
pub nothing_seen : (p : PackageView) (w : Window) (ws : List Window) → slice_get p.functions w.func ≡ None →
    planned (chosen_of (content p) (w ∷ ws)) ≡ record { parameters = []; results = [] }
nothing_seen p w ws e =
    planned-seen p (w ∷ ws)
    ∙ ap (λ o. planned_mapped (types p) (planned (chosen_in (array_in p.types) (option_map (member_by p w) o) (members_in p (w ∷ ws))))) e
