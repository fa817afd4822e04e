-- What reading leaves of the right sides of declared types: those in front of the function's own ones stay.
use Rattle.std.proofs.Common.{◌≡◌, ◌∙◌, ℕ, zero, suc, ◌+◌, ◌≤◌, Bool, true, false, List, [], ◌∷◌, ◌++◌, length, Option, Some, None, refl, sym, ap, subst, arith}
use Rattle.std.specs.Prelude.{if◌then◌else◌, replicate, option_map, Result, Ok, Err}
use Rattle.go_grammar.specs.declared.kind.Kind.{Kind}
use Rattle.go_grammar.specs.declared.kind.Kind.TheVariants as kind
use Rattle.go_grammar.specs.declared.kind.Sort.TheVariants as declaring
use Rattle.go_grammar.specs.Trees.{Tree, node, Trees, none, more, skip, last, kind_of}
use Rattle.go_types.specs.Trees.{TypeTree}
use Rattle.go_types.specs.Relations.{Rights}
use Rattle.go_typed.specs.Trees as sort
use Rattle.go_typed.specs.Trees.{form_of, sort_of, parts_of, list_of}
use Rattle.go_exprs_rules.specs.declared.fault.TypeFault.{TypeFault}
use Rattle.go_exprs_rules.specs.Faults.{judged, reported}
use Rattle.go_exprs_rules.specs.Scopes.{Hint, Scope, free}
use Rattle.go_exprs_rules.specs.Settling.{Part}
use Rattle.go_exprs_rules.specs.Sorts.{Stands}
use Rattle.go_exprs_rules.specs.Tables.{Parts}
use Rattle.go_exprs_rules.specs.TypeNodes.{part_type, entry_types}
use Rattle.go_stmts_defs.specs.Bodies.{start, signature_of, function_read}
use Rattle.go_stmts_defs.specs.Frames.{Frame, placed, with_local, with_own_right}
use Rattle.go_stmts_defs.specs.Laying.{told, layout, form_by, local_named}
use Rattle.go_stmts_defs.specs.Rules.{own_faults, built_by}
use Rattle.go_stmts_defs.specs.Reading.{Found, Reading, read, Readings, all_read, reading, readings, after, closed, holding, held_faults, is_statement, is_new, left_out, left_out_faults}
use Rattle.go_stmts_defs.specs.Reading.{back, beginning, entering, leaving, with_type, with_parameter, with_parameters, in_function, in_switch, in_constants, signature_results}
use Rattle.go_stmts_defs.specs.Reading.{first_parts, entry_names, declares_sort, declares_name, declares_all, part_source, right_side}
use Rattle.go_package_defs.specs.Bodies.{Behind, Portion, Surroundings, scope_of, count_types, local_type, behind_read, function_over, function_with, portion_of, types_in, typed_function}
use Rattle.go_package_defs.specs.Declarations.{Specification}
use Rattle.go_package_defs.specs.Sources.{Package}
use Rattle.go_heads_types.specs.Typings.{rights_behind, rights_after, AddsRights}

-- ---- lists with the same front

abbrev SameFront : ℕ → Rights → Rights → Type 0
SameFront zero xs ys = length ys ≡ length xs
SameFront (suc m) [] [] = Unit {0}
SameFront (suc m) (x ∷ xs) (y ∷ ys) = (y ≡ x) × SameFront m xs ys
SameFront (suc m) _ _ = ⊥

front_same : (m : ℕ) (xs : Rights) → SameFront m xs xs
front_same zero xs = refl
front_same (suc m) [] = tt
front_same (suc m) (x ∷ xs) = (refl, front_same m xs)

front_both : (m : ℕ) (xs ys zs : Rights) → SameFront m xs ys → SameFront m ys zs → SameFront m xs zs
front_both zero xs ys zs e f = f ∙ e
front_both (suc m) [] [] [] e f = tt
front_both (suc m) (x ∷ xs) (y ∷ ys) (z ∷ zs) e f = (f.0 ∙ e.0, front_both m xs ys zs e.1 f.1)
front_both (suc m) [] (y ∷ ys) zs e f = absurd e
front_both (suc m) (x ∷ xs) [] zs e f = absurd e
front_both (suc m) [] [] (z ∷ zs) e f = absurd f
front_both (suc m) (x ∷ xs) (y ∷ ys) [] e f = absurd f

placed_count : (n : ℕ) (x : Option TypeTree) (xs : Rights) → length (placed n x xs) ≡ length xs
placed_count n x [] = refl
placed_count zero x (y ∷ ys) = refl
placed_count (suc n) x (y ∷ ys) = ap suc (placed_count n x ys)

front_placed : (m n : ℕ) (x : Option TypeTree) (xs : Rights) → m ≤ n → SameFront m xs (placed n x xs)
front_placed zero n x xs le = placed_count n x xs
front_placed (suc m) n x [] le = tt
front_placed (suc m) zero x (y ∷ ys) le = absurd (omega (arith, le))
front_placed (suc m) (suc n) x (y ∷ ys) le = (refl, front_placed m n x ys (omega (arith, le)))

front_own : (front added all : Rights) → SameFront (length front) (front ++ added) all → AddsRights front (length added) all
front_own [] rs ys h = record { own = ys; counted = h; is = refl }
front_own (x ∷ xs) rs [] h = absurd h
front_own (x ∷ xs) rs (y ∷ ys) h =
    let z = front_own xs rs ys h.1 in
    record { own = z.own; counted = z.counted; is = ap (λ c. c ∷ ys) h.0 ∙ ap (λ cs. x ∷ cs) z.is }

no_more : (xs : Rights) → xs ++ [] ≡ xs
no_more [] = refl
no_more (x ∷ xs) = ap (λ ys. x ∷ ys) (no_more xs)

none_own : (front all : Rights) → AddsRights front 0 all → all ≡ front
none_own front all h = by h.own h.counted h.is
  where
    by : (own : Rights) → length own ≡ 0 → all ≡ front ++ own → all ≡ front
    by [] e f = f ∙ no_more front
    by (x ∷ xs) e f = absurd cc

replicate_count : (n : ℕ) (x : Option TypeTree) → length (replicate n x) ≡ n
replicate_count zero x = refl
replicate_count (suc n) x = ap suc (replicate_count n x)

-- ---- what is known behind a part

abbrev frame_in : Reading → Frame
frame_in (read x fs s) = s

abbrev frame_behind : Readings → Frame
frame_behind (all_read xs fs s) = s

module _ (m : ℕ) where
  -- the function's own types have numbers from m on
  abbrev Far : Frame → Type 0
  Far s = (n : ℕ) → m ≤ s.types n

  record Leaves (s t : Frame) : Type 0 where
    types : t.types ≡ s.types
    rights : SameFront m s.around.rights t.around.rights

  unmoved : (s t : Frame) → t.types ≡ s.types → t.around.rights ≡ s.around.rights → Leaves s t
  unmoved s t e f = record { types = e; rights = subst (λ r. SameFront m s.around.rights r) (sym f) (front_same m s.around.rights) }

  both : (s t u : Frame) → Leaves s t → Leaves t u → Leaves s u
  both s t u e f = record { types = f.types ∙ e.types; rights = front_both m s.around.rights t.around.rights u.around.rights e.rights f.rights }

  far_behind : (s t : Frame) → Leaves s t → Far s → Far t
  far_behind s t e f = subst (λ (g : ℕ → ℕ). (n : ℕ) → m ≤ g n) (sym e.types) f

  type_leaves : (o : Option ℕ) (s : Frame) → Leaves s (with_type o s)
  type_leaves None s = unmoved s s refl refl
  type_leaves (Some n) s = unmoved s (with_type (Some n) s) refl refl

  beginning_leaves : (k : Kind) (i : ℕ) (s : Frame) → Leaves s (beginning k i s)
  beginning_leaves (kind.Specification declaring.Type) i s = type_leaves (local_named (s.around.objects i)) s
  beginning_leaves k i s = unmoved s s refl refl

  parameter_leaves : (n : Option ℕ) (t : Option TypeTree) (s : Frame) → Leaves s (with_parameter n t s)
  parameter_leaves (Some n) (Some t) s = unmoved s (with_parameter (Some n) (Some t) s) refl refl
  parameter_leaves (Some n) None s = unmoved s s refl refl
  parameter_leaves None t s = unmoved s s refl refl

  parameters_leaves : (ns : List (Option ℕ)) (ts : List (Option TypeTree)) (s : Frame) → Leaves s (with_parameters ns ts s)
  parameters_leaves [] ts s = unmoved s s refl refl
  parameters_leaves (n ∷ ns) [] s = unmoved s s refl refl
  parameters_leaves (n ∷ ns) (t ∷ ts) s = both s (with_parameter n t s) (with_parameters ns ts (with_parameter n t s)) (parameter_leaves n t s) (parameters_leaves ns ts (with_parameter n t s))

  function_leaves : (xs : Parts) (s : Frame) → Leaves s (in_function xs s)
  function_leaves [] s = unmoved s s refl refl
  function_leaves (g ∷ x ∷ xs) s = unmoved s s refl refl
  function_leaves (g ∷ []) s =
      let t : Frame = record s { results = signature_results s (part_type g) } in
      both s t (in_function (g ∷ []) s) (unmoved s t refl refl) (parameters_leaves (entry_names (first_parts g)) (entry_types (first_parts g)) t)

  switch_leaves : (xs : Parts) (s : Frame) → Leaves s (in_switch xs s)
  switch_leaves [] s = unmoved s s refl refl
  switch_leaves (x ∷ y ∷ xs) s = unmoved s s refl refl
  switch_leaves (x ∷ []) s = unmoved s (in_switch (x ∷ []) s) refl refl

  constants_leaves : (xs : Parts) (s : Frame) → Leaves s (in_constants xs s)
  constants_leaves [] s = unmoved s (in_constants [] s) refl refl
  constants_leaves (x ∷ xs) s = unmoved s (in_constants (x ∷ xs) s) refl refl

  entering_leaves : (k : Kind) (xs : Parts) (s : Frame) → Leaves s (entering k xs s)
  entering_leaves (kind.Declaration declaring.Constant) xs s = constants_leaves xs s
  entering_leaves (kind.Group declaring.Constant) xs s = constants_leaves xs s
  entering_leaves kind.Switch xs s = switch_leaves xs s
  entering_leaves kind.FunctionDeclaration xs s = function_leaves xs s
  entering_leaves k xs s = unmoved s s refl refl

  sort_leaves : (o : Option ℕ) (x : Stands) (s : Frame) → Leaves s (declares_sort o x s)
  sort_leaves None x s = unmoved s s refl refl
  sort_leaves (Some n) sort.Nothing s = unmoved s s refl refl
  sort_leaves (Some n) x s = unmoved s (with_local n x s) refl refl

  name_leaves : (o : Option Part) (s : Frame) → Leaves s (declares_name o s)
  name_leaves None s = unmoved s s refl refl
  name_leaves (Some x) s = sort_leaves (is_new (form_of x)) (sort_of x) s

  all_leaves : (xs : Parts) (s : Frame) → Leaves s (declares_all xs s)
  all_leaves [] s = unmoved s s refl refl
  all_leaves (x ∷ xs) s = both s (declares_name x s) (declares_all xs (declares_name x s)) (name_leaves x s) (all_leaves xs (declares_name x s))

  right_leaves : (o : Option ℕ) (t : Option TypeTree) (s : Frame) → Far s → Leaves s (with_own_right (option_map s.types o) t s)
  right_leaves None t s far = unmoved s s refl refl
  right_leaves (Some n) t s far = record { types = refl; rights = front_placed m (s.types n) t s.around.rights (far n) }

  leaving_leaves : (k : Kind) (i : ℕ) (ps : Trees) (x : Part) (s : Frame) → Far s → Leaves s (leaving k i ps x s)
  leaving_leaves (kind.Specification declaring.Type) i ps x s far = right_leaves (local_named (s.around.objects i)) (right_side (list_of (parts_of x))) s far
  leaving_leaves (kind.Specification declaring.Variable) i ps x s far = all_leaves (list_of (parts_of x)) s
  leaving_leaves (kind.Specification declaring.Constant) i ps x s far =
      let t : Frame = record s { source = part_source ps s.source } in
      both s t (leaving (kind.Specification declaring.Constant) i ps x s) (unmoved s t refl refl) (all_leaves (list_of (parts_of x)) t)
  leaving_leaves kind.Define i ps x s far = all_leaves (list_of (parts_of x)) s
  leaving_leaves kind.DefiningRange i ps x s far = all_leaves (list_of (parts_of x)) s
  leaving_leaves k i ps x s far = unmoved s s refl refl

  closed_leaves : (before : Frame) (k : Kind) (i j : ℕ) (ps : Trees) (r : Readings) → Far (frame_behind r) → Leaves (frame_behind r) (frame_in (closed before k i j ps r))
  closed_leaves before k i j ps (all_read xs fs s) far =
      let f = form_by k xs in
      let ys = layout s k i xs in
      let x = built_by s k f i j ys (own_faults s k f i j ys) in
      both s (back before s) (leaving k i ps x (back before s)) (unmoved s (back before s) refl refl) (leaving_leaves k i ps x (back before s) far)

  either_leaves : (c : Bool) (a b : Reading) (s : Frame) → Leaves s (frame_in a) → Leaves s (frame_in b) → Leaves s (frame_in (if c then a else b))
  either_leaves true a b s e f = e
  either_leaves false a b s e f = f

  after_leaves : (r : Reading) (next : Part → Found → Frame → Readings) (s : Frame) → Leaves s (frame_in r)
      → ((x : Part) (gs : Found) → Leaves (frame_in r) (frame_behind (next x gs (frame_in r)))) → Leaves s (frame_behind (after r next))
  after_leaves (read x gs t) next s e f = both s t (frame_behind (next x gs t)) e (f x gs)

  mutual
    reading_leaves : (s : Frame) (h : Hint) (t : Tree) → Far s → Leaves s (frame_in (reading s h t))
    reading_leaves s h (node k i j ps) far =
        let b : Frame = beginning k i s in
        let begun : Leaves s b = beginning_leaves k i s in
        let far_b : Far b = far_behind s b begun far in
        let rest : Readings = readings b k h ps [] [] ps in
        let done : Leaves b (frame_behind rest) = readings_leaves b k h ps [] [] ps far_b in
        let whole : Leaves s (frame_in (closed s k i j ps rest)) =
        both s b (frame_in (closed s k i j ps rest)) begun
        (both b (frame_behind rest) (frame_in (closed s k i j ps rest)) done (closed_leaves s k i j ps rest (far_behind b (frame_behind rest) done far_b))) in
        either_leaves (is_statement k) (closed s k i j ps rest) (read (holding s h (node k i j ps)) (held_faults s h (node k i j ps)) s) s whole (unmoved s s refl refl)

    readings_leaves : (s : Frame) (k : Kind) (h : Hint) (all : Trees) (xs : Parts) (fs : Found) (ps : Trees) → Far s → Leaves s (frame_behind (readings s k h all xs fs ps))
    readings_leaves s k h all xs fs none far = unmoved s s refl refl
    readings_leaves s k h all xs fs (more p ps) far =
        let e : Frame = entering k xs s in
        let entered : Leaves s e = entering_leaves k xs s in
        let g : Hint = told k h all xs (kind_of p) in
        let part : Leaves s (frame_in (reading e g p)) = both s e (frame_in (reading e g p)) entered (reading_leaves e g p (far_behind s e entered far)) in
        after_leaves (reading e g p) (λ x gs t. readings t k h all (xs ++ Some x ∷ []) (fs ++ gs) ps) s part
        (λ x gs. readings_leaves (frame_in (reading e g p)) k h all (xs ++ Some x ∷ []) (fs ++ gs) ps (far_behind s (frame_in (reading e g p)) part far))
    readings_leaves s k h all xs fs (skip ps) far =
        let e : Frame = entering k xs s in
        let entered : Leaves s e = entering_leaves k xs s in
        both s e (frame_behind (readings s k h all xs fs (skip ps))) entered
        (readings_leaves e k h all (xs ++ left_out e k ∷ []) (fs ++ left_out_faults e k) ps (far_behind s e entered far))

-- ---- functions

local_far : (m : ℕ) (bs : List Bool) (n : ℕ) → m ≤ local_type m bs n
local_far m [] n = omega arith
local_far m (true ∷ bs) zero = omega arith
local_far m (false ∷ bs) zero = omega arith
local_far m (true ∷ bs) (suc n) = let z = local_far (suc m) bs n in omega (arith, z)
local_far m (false ∷ bs) (suc n) = local_far m bs n

judged_there : (o : Option TypeFault) (x b : Behind) → judged o x ≡ Ok b → b ≡ x
judged_there None x b e = cc
judged_there (Some f) x b e = absurd cc

read_rights : (s : Scope) (number : ℕ) (t : Tree) (r : Reading) (b : Behind) → behind_read s number t r ≡ Ok b → b.rights ≡ (frame_in r).around.rights
read_rights s number t (read x fs f) b e =
    ap (λ (z : Behind). z.rights) (judged_there (reported fs) (record { function = function_read s number (last t) (signature_of s t) x f; rights = f.around.rights }) b e)

over_rights : (a : Surroundings) (rights : Rights) (number : ℕ) (bs : List Bool) (o : Portion) (t : Tree) (b : Behind) → function_over a rights number bs o t ≡ Ok b → AddsRights rights (count_types bs) b.rights
over_rights a rights number bs o t b e =
    let s : Scope = scope_of a (rights ++ replicate (count_types bs) None) o in
    let f : Frame = start s (length bs) (local_type (length rights) bs) in
    let z : Leaves (length rights) f (frame_in (reading f free t)) = reading_leaves (length rights) f free t (local_far (length rights) bs) in
    let front : SameFront (length rights) (rights ++ replicate (count_types bs) None) b.rights =
    subst (λ r. SameFront (length rights) (rights ++ replicate (count_types bs) None) r) (sym (read_rights s number t (reading f free t) b e)) z.rights in
    subst (λ k. AddsRights rights k b.rights) (replicate_count (count_types bs) None) (front_own rights (replicate (count_types bs) None) b.rights front)

with_rights : (a : Surroundings) (rights : Rights) (number : ℕ) (bs : List Bool) (o : Portion) (t : Option Tree) (b : Behind) → function_with a rights number bs o t ≡ Ok b → AddsRights rights (count_types bs) b.rights
with_rights a rights number bs o (Some t) b e = over_rights a rights number bs o t b e
with_rights a rights number bs o None b e = absurd cc

module _ (p : Package) (a : Surroundings) where
  pub rights_added : (rights : Rights) (n : ℕ) (d : Specification) (b : Behind) → typed_function p a rights n d ≡ Ok b → AddsRights rights (count_types (types_in p n)) b.rights
  rights_added rights n d b e = with_rights a rights n (types_in p n) (portion_of p d) (portion_of p d).tree b e

  -- a function that declares no types leaves the right sides as they are
  none_behind : (rights : Rights) (n : ℕ) (d : Specification) (r : Result Behind TypeFault) → typed_function p a rights n d ≡ r → count_types (types_in p n) ≡ 0 → rights_behind rights r ≡ rights
  none_behind rights n d (Err f) e z = refl
  none_behind rights n d (Ok b) e z =
      none_own rights b.rights (subst (λ k. AddsRights rights k b.rights) z (rights_added rights n d b e))

  pub none_after : (rights : Rights) (n : ℕ) (ds : List Specification) (k : ℕ) → count_types (types_in p (n + k)) ≡ 0 → rights_after p a rights n ds (suc k) ≡ rights_after p a rights n ds k
  none_after rights n [] zero e = refl
  none_after rights n [] (suc k) e = refl
  none_after rights n (d ∷ ds) zero e =
      let number : n + zero ≡ n = omega arith in
      none_behind rights n d (typed_function p a rights n d) refl (sym (ap (λ i. count_types (types_in p i)) number) ∙ e)
  none_after rights n (d ∷ ds) (suc k) e =
      let number : suc n + k ≡ n + suc k = omega arith in
      none_after (rights_behind rights (typed_function p a rights n d)) (suc n) ds k (ap (λ i. count_types (types_in p i)) number ∙ e)
