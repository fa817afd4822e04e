-- What is known between statements is within the limit, and stays so.
use Rattle.std.proofs.Common.{◌≡◌, ℕ, zero, suc, ◌<◌, ◌≤◌, true, List, [], ◌∷◌, length, Option, Some, None, refl, ◌∙◌, subst, arith}
use Rattle.std.specs.Prelude.{option_map, slice_get}
use Rattle.std.proofs.lemmas.Option.{same_Some}
use Rattle.go_grammar.specs.declared.kind.Kind.{Kind}
use Rattle.go_grammar.specs.declared.kind.Kind.TheVariants as kind
use Rattle.go_grammar.specs.declared.kind.Sort.TheVariants as declaring
use Rattle.go_grammar.specs.Trees.{Trees}
use Rattle.go_tree.specs.declared.object.Object.{Object}
use Rattle.go_tree.specs.declared.object.Object.TheVariants as object
use Rattle.go_types.specs.Trees.{TypeTree}
use Rattle.go_types.specs.Relations.{Rights, HasRight}
use Rattle.go_types_relations.specs.Tests.{underlying_of}
use Rattle.go_typed.specs.declared.form.Form.TheVariants as form
use Rattle.go_typed.specs.Trees.{typed, form_of, sort_of, parts_of, list_of}
use Rattle.go_typed.specs.Trees as sort
use Rattle.go_exprs_rules.specs.declared.family.OpenKind.{OpenKind}
use Rattle.go_exprs_rules.specs.Calls.{results_of}
use Rattle.go_exprs_rules.specs.Scopes.{Needed, Scope}
use Rattle.go_exprs_rules.specs.Settling.{Part}
use Rattle.go_exprs_rules.specs.Sorts.{Stands, open_kind, default_type}
use Rattle.go_exprs_rules.specs.Tables.{Parts}
use Rattle.go_exprs_rules.specs.TypeNodes.{part_type, entry_types}
use Rattle.go_stmts_defs.specs.Bodies.{no_locals, start}
use Rattle.go_stmts_defs.specs.Frames.{Frame, Locals, looked_up, scope_of, placed, with_local, with_own_right, with_right}
use Rattle.go_stmts_defs.specs.Laying.{local_named}
use Rattle.go_stmts_defs.specs.Reading.{opened, tag_in, tag_of, last_of_list, tag_behind, entry_names, with_parameter, with_parameters, head, first_parts, signature_results, behind_signature, in_function, in_switch, in_constants, entering, with_type, beginning, declares_sort, is_new, declares_name, declares_all, part_source, right_side, back, leaving}
use Rattle.go_stmts_limits.specs.Limits.{StandsIsWithin, PartIsWithin, RightsAreWithin, ScopeIsWithin, AreBehind}
use Rattle.go_stmts_limits.proofs.Within.{MaybeWithin, MaybePart, PartsWithin}
use Rattle.go_stmts_limits.proofs.Values.{sort_within, inner_within, list_within, part_type_within, underlying_within, retyped_within, default_within, EntriesWithin, entries_within, parts_in_within}
use Rattle.go_stmts_limits.proofs.Calls.{results_within}
use Rattle.go_stmts_limits.proofs.Arrays.{JudgesWithin, AreTold, counts_stay}
use Rattle.go_stmts_limits.proofs.Assigning.{TypesWithin, LocalsWithin, types_within}

-- ---- lists with one element changed

front_placed : (n m : ℕ) (t : Option TypeTree) (rs : Rights) → m < n → slice_get (placed n t rs) m ≡ slice_get rs m
front_placed n m t [] l = refl
front_placed zero m t (y ∷ rs) l = absurd (omega (arith, l))
front_placed (suc n) zero t (y ∷ rs) l = refl
front_placed (suc n) (suc m) t (y ∷ rs) l = front_placed n m t rs (omega (arith, l))

has_below : (rs : Rights) (n : ℕ) (r : TypeTree) → HasRight rs n r → n < length rs
has_below [] n r h = cc
has_below (x ∷ rs) zero r h = omega arith
has_below (x ∷ rs) (suc n) r h = let l = has_below rs n r h in omega (arith, l)

-- what the front has, the whole has
pub front_has : (old new : Rights) → ((n : ℕ) → n < length old → slice_get new n ≡ slice_get old n) → (n : ℕ) (r : TypeTree) → HasRight old n r → HasRight new n r
front_has old new f n r h = f n (has_below old n r h) ∙ h

module _ (limit : Scope) where
  right_placed : (n : ℕ) (t : Option TypeTree) (rs : Rights) → MaybeWithin limit t → RightsAreWithin limit rs → RightsAreWithin limit (placed n t rs)
  right_placed n t [] w a m r h = a m r h
  right_placed zero t (y ∷ rs) w a zero r h = subst (MaybeWithin limit) (same_Some t (Some r) h) w
  right_placed zero t (y ∷ rs) w a (suc m) r h = a (suc m) r h
  right_placed (suc n) t (y ∷ rs) w a zero r h = a zero r h
  right_placed (suc n) t (y ∷ rs) w a (suc m) r h = right_placed n t rs w (λ k q g. a (suc k) q g) m r h

  local_placed : (n : ℕ) (x : Stands) (ls : Locals) → StandsIsWithin limit x → LocalsWithin limit ls → LocalsWithin limit (placed n (Some x) ls)
  local_placed n x [] w a m = a m
  local_placed zero x (y ∷ ls) w a zero = w
  local_placed zero x (y ∷ ls) w a (suc m) = a (suc m)
  local_placed (suc n) x (y ∷ ls) w a zero = a zero
  local_placed (suc n) x (y ∷ ls) w a (suc m) = local_placed n x ls w (λ k. a (suc k)) m

  none_placed : (n : ℕ) → LocalsWithin limit (no_locals n)
  none_placed zero m = tt
  none_placed (suc n) zero = tt
  none_placed (suc n) (suc m) = none_placed n m

  -- ---- frames

  pub record FrameWithin (s : Frame) : Type 0 where
    pub judged : s.around.limits ≡ true
    pub front : (n : ℕ) → n < length limit.rights → slice_get s.around.rights n ≡ slice_get limit.rights n
    pub own : (n : ℕ) → length limit.rights ≤ s.types n
    pub rights : RightsAreWithin limit s.around.rights
    pub objects : (need : Needed) (o : Object) → StandsIsWithin limit (s.around.sorts need o)
    pub locals : LocalsWithin limit s.locals
    pub tag : StandsIsWithin limit s.tag
    pub results : TypesWithin limit s.results

  pub started : (s : Scope) (n : ℕ) (types : ℕ → ℕ) → ScopeIsWithin limit s → AreBehind limit types → FrameWithin (start s n types)
  started s n types a b = record { judged = a.judged; front = a.front; own = b; rights = a.rights; objects = a.objects; locals = none_placed n; tag = tt; results = tt }

  looked_within : (s : Frame) → FrameWithin s → (need : Needed) (o : Object) → StandsIsWithin limit (looked_up s.locals s.around.sorts need o)
  looked_within s a need (object.Local f n) = a.locals n
  looked_within s a need o = a.objects need o

  pub scope_judges : AreTold → (s : Frame) → FrameWithin s → JudgesWithin limit (scope_of s)
  scope_judges told s a = record { judged = a.judged; counted = counts_stay told limit.rights s.around.rights (front_has limit.rights s.around.rights a.front); rights = a.rights; objects = looked_within s a }

  with_local_within : (n : ℕ) (x : Stands) (s : Frame) → StandsIsWithin limit x → FrameWithin s → FrameWithin (with_local n x s)
  with_local_within n x s w a = record { judged = a.judged; front = a.front; own = a.own; rights = a.rights; objects = a.objects; locals = local_placed n x s.locals w a.locals; tag = a.tag; results = a.results }

  with_right_within : (n : ℕ) (t : Option TypeTree) (s : Frame) → MaybeWithin limit t → FrameWithin s → FrameWithin (with_right (s.types n) t s)
  with_right_within n t s w a = record {
    judged = a.judged;
    front = λ m l. front_placed (s.types n) m t s.around.rights (let far = a.own n in omega (arith, l, far)) ∙ a.front m l;
    own = a.own;
    rights = right_placed (s.types n) t s.around.rights w a.rights;
    objects = a.objects;
    locals = a.locals;
    tag = a.tag;
    results = a.results;
  }

  own_right_within : (o : Option ℕ) (t : Option TypeTree) (s : Frame) → MaybeWithin limit t → FrameWithin s → FrameWithin (with_own_right (option_map s.types o) t s)
  own_right_within None t s w a = a
  own_right_within (Some n) t s w a = with_right_within n t s w a

  -- ---- before a node

  type_within : (o : Option ℕ) (s : Frame) → FrameWithin s → FrameWithin (with_type o s)
  type_within None s a = a
  type_within (Some n) s a = with_local_within n _ s tt a

  pub beginning_within : (k : Kind) (i : ℕ) (s : Frame) → FrameWithin s → FrameWithin (beginning k i s)
  beginning_within (kind.Specification declaring.Type) i s a = type_within (local_named (s.around.objects i)) s a
  beginning_within k i s a = a

  -- ---- before a part

  parameter_within : (n : Option ℕ) (t : Option TypeTree) (s : Frame) → MaybeWithin limit t → FrameWithin s → FrameWithin (with_parameter n t s)
  parameter_within (Some n) (Some t) s w a = with_local_within n (sort.Value t) s w a
  parameter_within (Some n) None s w a = a
  parameter_within None t s w a = a

  parameters_within : (ns : List (Option ℕ)) (ts : List (Option TypeTree)) (s : Frame) → EntriesWithin limit ts → FrameWithin s → FrameWithin (with_parameters ns ts s)
  parameters_within [] ts s w a = a
  parameters_within (n ∷ ns) [] s w a = a
  parameters_within (n ∷ ns) (t ∷ ts) s w a = parameters_within ns ts (with_parameter n t s) w.1 (parameter_within n t s w.0 a)

  inner_parts : (x : Part) → PartIsWithin limit x → PartsWithin limit (list_of (parts_of x))
  inner_parts x w = list_within limit (parts_of x) (inner_within limit x w)

  head_within : (xs : Parts) → PartsWithin limit xs → MaybePart limit (head xs)
  head_within [] w = tt
  head_within (x ∷ xs) w = w.0

  first_parts_within : (g : Option Part) → MaybePart limit g → PartsWithin limit (first_parts g)
  first_parts_within None w = tt
  first_parts_within (Some x) w = parts_in_within limit (head (list_of (parts_of x))) (head_within (list_of (parts_of x)) (inner_parts x w))

  results_known : (s : Frame) (t : Option TypeTree) → MaybeWithin limit t → FrameWithin s → TypesWithin limit (signature_results s t)
  results_known s None w a = tt
  results_known s (Some t) w a =
      let rights = s.around.rights in
      types_within limit (results_of (underlying_of rights t)) (results_within limit (underlying_of rights t) (underlying_within limit rights a.rights t w))

  with_results_within : (rs : List TypeTree) (s : Frame) → TypesWithin limit rs → FrameWithin s → FrameWithin (record s { results = rs })
  with_results_within rs s w a = record { judged = a.judged; front = a.front; own = a.own; rights = a.rights; objects = a.objects; locals = a.locals; tag = a.tag; results = w }

  signature_within : (g : Option Part) (s : Frame) → MaybePart limit g → FrameWithin s → FrameWithin (behind_signature g s)
  signature_within g s w a =
      let rs = signature_results s (part_type g) in
      parameters_within (entry_names (first_parts g)) (entry_types (first_parts g)) (record s { results = rs }) (entries_within limit (first_parts g) (first_parts_within g w))
      (with_results_within rs s (results_known s (part_type g) (part_type_within limit g w) a) a)

  function_within : (xs : Parts) (s : Frame) → PartsWithin limit xs → FrameWithin s → FrameWithin (in_function xs s)
  function_within [] s w a = a
  function_within (g ∷ []) s w a = signature_within g s w.0 a
  function_within (g ∷ x ∷ xs) s w a = a

  opened_within : (o : Option OpenKind) (x : Stands) → StandsIsWithin limit x → StandsIsWithin limit (opened o x)
  opened_within None x w = w
  opened_within (Some k) x w = retyped_within limit (default_type k) (default_within limit k) x w

  tag_in_within : (x : Stands) → StandsIsWithin limit x → StandsIsWithin limit (tag_in x)
  tag_in_within (sort.Value t) w = w
  tag_in_within (sort.Constant t c) w = w
  tag_in_within (sort.Open u) w = opened_within (open_kind (sort.Open u)) (sort.Open u) tt
  tag_in_within (sort.OpenConstant c) w = opened_within (open_kind (sort.OpenConstant c)) (sort.OpenConstant c) tt
  tag_in_within x w = tt

  tag_of_within : (x : Option Part) → MaybePart limit x → StandsIsWithin limit (tag_of x)
  tag_of_within None w = tt
  tag_of_within (Some x) w = tag_in_within (sort_of x) (sort_within limit x w)

  last_within : (xs : Parts) → PartsWithin limit xs → MaybePart limit (last_of_list xs)
  last_within [] w = tt
  last_within (x ∷ []) w = w.0
  last_within (x ∷ y ∷ xs) w = last_within (y ∷ xs) w.1

  tag_behind_within : (x : Option Part) → MaybePart limit x → StandsIsWithin limit (tag_behind x)
  tag_behind_within (Some (typed (form.Held kind.LateTag) i j l ps)) w = tag_of_within (last_of_list (list_of ps)) (last_within (list_of ps) (list_within limit ps w.1))
  tag_behind_within (Some (typed (form.Held kind.InitializedTag) i j l ps)) w = tag_of_within (last_of_list (list_of ps)) (last_within (list_of ps) (list_within limit ps w.1))
  tag_behind_within x w = tag_of_within x w

  with_tag_within : (x : Stands) (s : Frame) → StandsIsWithin limit x → FrameWithin s → FrameWithin (record s { tag = x })
  with_tag_within x s w a = record { judged = a.judged; front = a.front; own = a.own; rights = a.rights; objects = a.objects; locals = a.locals; tag = w; results = a.results }

  switch_within : (xs : Parts) (s : Frame) → PartsWithin limit xs → FrameWithin s → FrameWithin (in_switch xs s)
  switch_within [] s w a = a
  switch_within (x ∷ []) s w a = with_tag_within (tag_behind x) s (tag_behind_within x w.0) a
  switch_within (x ∷ y ∷ xs) s w a = a

  constants_within : (xs : Parts) (s : Frame) → FrameWithin s → FrameWithin (in_constants xs s)
  constants_within [] s a = record { judged = a.judged; front = a.front; own = a.own; rights = a.rights; objects = a.objects; locals = a.locals; tag = a.tag; results = a.results }
  constants_within (x ∷ xs) s a = record { judged = a.judged; front = a.front; own = a.own; rights = a.rights; objects = a.objects; locals = a.locals; tag = a.tag; results = a.results }

  pub entering_within : (k : Kind) (xs : Parts) (s : Frame) → PartsWithin limit xs → FrameWithin s → FrameWithin (entering k xs s)
  entering_within (kind.Declaration declaring.Constant) xs s w a = constants_within xs s a
  entering_within (kind.Group declaring.Constant) xs s w a = constants_within xs s a
  entering_within kind.Switch xs s w a = switch_within xs s w a
  entering_within kind.FunctionDeclaration xs s w a = function_within xs s w a
  entering_within k xs s w a = a

  -- ---- behind a node

  sort_known : (n : Option ℕ) (x : Stands) (s : Frame) → StandsIsWithin limit x → FrameWithin s → FrameWithin (declares_sort n x s)
  sort_known None x s w a = a
  sort_known (Some n) sort.Nothing s w a = a
  sort_known (Some n) x s w a = with_local_within n x s w a

  name_known : (x : Option Part) (s : Frame) → MaybePart limit x → FrameWithin s → FrameWithin (declares_name x s)
  name_known None s w a = a
  name_known (Some x) s w a = sort_known (is_new (form_of x)) (sort_of x) s (sort_within limit x w) a

  all_known : (xs : Parts) (s : Frame) → PartsWithin limit xs → FrameWithin s → FrameWithin (declares_all xs s)
  all_known [] s w a = a
  all_known (x ∷ xs) s w a = all_known xs (declares_name x s) w.1 (name_known x s w.0 a)

  right_side_within : (xs : Parts) → PartsWithin limit xs → MaybeWithin limit (right_side xs)
  right_side_within (n ∷ t ∷ []) w = part_type_within limit t w.1.0
  right_side_within xs w = tt

  source_within : (ps : Trees) (s : Frame) → FrameWithin s → FrameWithin (record s { source = part_source ps s.source })
  source_within ps s a = record { judged = a.judged; front = a.front; own = a.own; rights = a.rights; objects = a.objects; locals = a.locals; tag = a.tag; results = a.results }

  back_within : (before s : Frame) → FrameWithin before → FrameWithin s → FrameWithin (back before s)
  back_within before s b a = record { judged = a.judged; front = a.front; own = a.own; rights = a.rights; objects = a.objects; locals = a.locals; tag = b.tag; results = b.results }

  left_within : (k : Kind) (i : ℕ) (ps : Trees) (x : Part) (s : Frame) → PartIsWithin limit x → FrameWithin s → FrameWithin (leaving k i ps x s)
  left_within (kind.Specification declaring.Type) i ps x s w a =
      let xs = list_of (parts_of x) in
      own_right_within (local_named (s.around.objects i)) (right_side xs) s (right_side_within xs (inner_parts x w)) a
  left_within (kind.Specification declaring.Variable) i ps x s w a = all_known (list_of (parts_of x)) s (inner_parts x w) a
  left_within (kind.Specification declaring.Constant) i ps x s w a = all_known (list_of (parts_of x)) (record s { source = part_source ps s.source }) (inner_parts x w) (source_within ps s a)
  left_within kind.Define i ps x s w a = all_known (list_of (parts_of x)) s (inner_parts x w) a
  left_within kind.DefiningRange i ps x s w a = all_known (list_of (parts_of x)) s (inner_parts x w) a
  left_within k i ps x s w a = a

  pub leaving_within : (k : Kind) (i : ℕ) (ps : Trees) (x : Part) (before s : Frame) → PartIsWithin limit x → FrameWithin before → FrameWithin s → FrameWithin (leaving k i ps x (back before s))
  leaving_within k i ps x before s w b a = left_within k i ps x (back before s) w (back_within before s b a)
