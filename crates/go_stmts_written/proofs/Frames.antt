-- What is known between statements is within the texts, and stays so.
use Rattle.std.proofs.Common.{◌≡◌, ℕ, zero, suc, List, [], ◌∷◌, Option, Some, None, subst}
use Rattle.std.specs.Prelude.{option_map}
use Rattle.std.proofs.lemmas.Option.{same_Some}
use Rattle.go_grammar.specs.declared.kind.Kind.{Kind}
use Rattle.go_grammar.specs.declared.kind.Kind.TheVariants as kind
use Rattle.go_grammar.specs.declared.kind.Sort.TheVariants as declaring
use Rattle.go_grammar.specs.Trees.{Tree, Trees, none, more, skip}
use Rattle.go_tree.specs.declared.object.Object.{Object}
use Rattle.go_tree.specs.declared.object.Object.TheVariants as object
use Rattle.go_types.specs.Trees.{TypeTree}
use Rattle.go_types.specs.Relations.{Rights}
use Rattle.go_types_relations.specs.Tests.{underlying_of}
use Rattle.go_typed.specs.declared.form.Form.TheVariants as form
use Rattle.go_typed.specs.Trees.{typed, form_of, sort_of, parts_of, list_of}
use Rattle.go_typed.specs.Trees as sort
use Rattle.go_exprs_rules.specs.declared.family.OpenKind.{OpenKind}
use Rattle.go_exprs_rules.specs.Calls.{results_of}
use Rattle.go_exprs_rules.specs.Scopes.{Needed, Scope}
use Rattle.go_exprs_rules.specs.Settling.{Part}
use Rattle.go_exprs_rules.specs.Sorts.{Stands, open_kind, default_type}
use Rattle.go_exprs_rules.specs.Tables.{Parts}
use Rattle.go_exprs_rules.specs.TypeNodes.{part_type, entry_types}
use Rattle.go_stmts_defs.specs.Bodies.{no_locals, start}
use Rattle.go_stmts_defs.specs.Frames.{Frame, Locals, looked_up, scope_of, placed, with_local, with_own_right, with_right}
use Rattle.go_stmts_defs.specs.Laying.{local_named}
use Rattle.go_stmts_defs.specs.Reading.{opened, tag_in, tag_of, last_of_list, tag_behind, entry_names, with_parameter, with_parameters, head, first_parts, signature_results, behind_signature, in_function, in_switch, in_constants, entering, with_type, beginning, declares_sort, is_new, declares_name, declares_all, part_source, right_side, back, leaving}
use Rattle.go_stmts_written.specs.Named.{StandsIsNamed, RightsAreNamed, TreesAreNamed}
use Rattle.go_stmts_written.proofs.Said.{MaybeNamed, MaybePart, PartsNamed, PartIsNamed, MaybeTree, EntriesNamed, TypesNamed, LocalsNamed}
use Rattle.go_stmts_written.proofs.Values.{sort_named, inner_named, list_named, part_type_named, underlying_named, retyped_named, default_named, entries_named, parts_in_named}
use Rattle.go_stmts_written.proofs.Calls.{results_named}
use Rattle.go_stmts_written.proofs.Around.{ScopeIsNamed}
use Rattle.go_stmts_written.proofs.Assigning.{types_named}

module _ (texts : ℕ → List ℕ) where
  right_placed : (n : ℕ) (t : Option TypeTree) (rs : Rights) → MaybeNamed t → RightsAreNamed rs → RightsAreNamed (placed n t rs)
  right_placed n t [] w a m r h = a m r h
  right_placed zero t (y ∷ rs) w a zero r h = subst (MaybeNamed) (same_Some t (Some r) h) w
  right_placed zero t (y ∷ rs) w a (suc m) r h = a (suc m) r h
  right_placed (suc n) t (y ∷ rs) w a zero r h = a zero r h
  right_placed (suc n) t (y ∷ rs) w a (suc m) r h = right_placed n t rs w (λ k q g. a (suc k) q g) m r h

  local_placed : (n : ℕ) (x : Stands) (ls : Locals) → StandsIsNamed x → LocalsNamed ls → LocalsNamed (placed n (Some x) ls)
  local_placed n x [] w a m = a m
  local_placed zero x (y ∷ ls) w a zero = w
  local_placed zero x (y ∷ ls) w a (suc m) = a (suc m)
  local_placed (suc n) x (y ∷ ls) w a zero = a zero
  local_placed (suc n) x (y ∷ ls) w a (suc m) = local_placed n x ls w (λ k. a (suc k)) m

  none_placed : (n : ℕ) → LocalsNamed (no_locals n)
  none_placed zero m = tt
  none_placed (suc n) zero = tt
  none_placed (suc n) (suc m) = none_placed n m

  -- ---- frames

  pub record FrameIsNamed (s : Frame) : Type 0 where
    pub same : s.around.texts ≡ texts
    pub rights : RightsAreNamed s.around.rights
    pub objects : (need : Needed) (o : Object) → StandsIsNamed (s.around.sorts need o)
    pub locals : LocalsNamed s.locals
    pub tag : StandsIsNamed s.tag
    pub results : TypesNamed s.results
    pub source : MaybeTree texts s.source

  pub started : (s : Scope) (n : ℕ) (types : ℕ → ℕ) → ScopeIsNamed texts s → FrameIsNamed (start s n types)
  started s n types a = record { same = a.same; rights = a.rights; objects = a.objects; locals = none_placed n; tag = tt; results = tt; source = tt }

  looked_named : (s : Frame) → FrameIsNamed s → (need : Needed) (o : Object) → StandsIsNamed (looked_up s.locals s.around.sorts need o)
  looked_named s a need (object.Local f n) = a.locals n
  looked_named s a need o = a.objects need o

  pub scope_named : (s : Frame) → FrameIsNamed s → ScopeIsNamed texts (scope_of s)
  scope_named s a = record { same = a.same; rights = a.rights; objects = looked_named s a }

  with_local_named : (n : ℕ) (x : Stands) (s : Frame) → StandsIsNamed x → FrameIsNamed s → FrameIsNamed (with_local n x s)
  with_local_named n x s w a = record { same = a.same; source = a.source; rights = a.rights; objects = a.objects; locals = local_placed n x s.locals w a.locals; tag = a.tag; results = a.results }

  with_right_named : (n : ℕ) (t : Option TypeTree) (s : Frame) → MaybeNamed t → FrameIsNamed s → FrameIsNamed (with_right (s.types n) t s)
  with_right_named n t s w a = record { same = a.same; source = a.source; rights = right_placed (s.types n) t s.around.rights w a.rights; objects = a.objects; locals = a.locals; tag = a.tag; results = a.results }

  own_right_named : (o : Option ℕ) (t : Option TypeTree) (s : Frame) → MaybeNamed t → FrameIsNamed s → FrameIsNamed (with_own_right (option_map s.types o) t s)
  own_right_named None t s w a = a
  own_right_named (Some n) t s w a = with_right_named n t s w a

  -- ---- before a node

  type_named : (o : Option ℕ) (s : Frame) → FrameIsNamed s → FrameIsNamed (with_type o s)
  type_named None s a = a
  type_named (Some n) s a = with_local_named n _ s tt a

  pub beginning_named : (k : Kind) (i : ℕ) (s : Frame) → FrameIsNamed s → FrameIsNamed (beginning k i s)
  beginning_named (kind.Specification declaring.Type) i s a = type_named (local_named (s.around.objects i)) s a
  beginning_named k i s a = a

  -- ---- before a part

  parameter_named : (n : Option ℕ) (t : Option TypeTree) (s : Frame) → MaybeNamed t → FrameIsNamed s → FrameIsNamed (with_parameter n t s)
  parameter_named (Some n) (Some t) s w a = with_local_named n (sort.Value t) s w a
  parameter_named (Some n) None s w a = a
  parameter_named None t s w a = a

  parameters_named : (ns : List (Option ℕ)) (ts : List (Option TypeTree)) (s : Frame) → EntriesNamed ts → FrameIsNamed s → FrameIsNamed (with_parameters ns ts s)
  parameters_named [] ts s w a = a
  parameters_named (n ∷ ns) [] s w a = a
  parameters_named (n ∷ ns) (t ∷ ts) s w a = parameters_named ns ts (with_parameter n t s) w.1 (parameter_named n t s w.0 a)

  inner_parts : (x : Part) → PartIsNamed texts x → PartsNamed texts (list_of (parts_of x))
  inner_parts x w = list_named texts (parts_of x) (inner_named texts x w)

  head_named : (xs : Parts) → PartsNamed texts xs → MaybePart texts (head xs)
  head_named [] w = tt
  head_named (x ∷ xs) w = w.0

  first_parts_named : (g : Option Part) → MaybePart texts g → PartsNamed texts (first_parts g)
  first_parts_named None w = tt
  first_parts_named (Some x) w = parts_in_named texts (head (list_of (parts_of x))) (head_named (list_of (parts_of x)) (inner_parts x w))

  results_known : (s : Frame) (t : Option TypeTree) → MaybeNamed t → FrameIsNamed s → TypesNamed (signature_results s t)
  results_known s None w a = tt
  results_known s (Some t) w a =
      let rights = s.around.rights in
      types_named texts (results_of (underlying_of rights t)) (results_named texts (underlying_of rights t) (underlying_named texts rights a.rights t w))

  with_results_named : (rs : List TypeTree) (s : Frame) → TypesNamed rs → FrameIsNamed s → FrameIsNamed (record s { results = rs })
  with_results_named rs s w a = record { same = a.same; source = a.source; rights = a.rights; objects = a.objects; locals = a.locals; tag = a.tag; results = w }

  signature_named : (g : Option Part) (s : Frame) → MaybePart texts g → FrameIsNamed s → FrameIsNamed (behind_signature g s)
  signature_named g s w a =
      let rs = signature_results s (part_type g) in
      parameters_named (entry_names (first_parts g)) (entry_types (first_parts g)) (record s { results = rs }) (entries_named texts (first_parts g) (first_parts_named g w))
      (with_results_named rs s (results_known s (part_type g) (part_type_named texts g w) a) a)

  function_named : (xs : Parts) (s : Frame) → PartsNamed texts xs → FrameIsNamed s → FrameIsNamed (in_function xs s)
  function_named [] s w a = a
  function_named (g ∷ []) s w a = signature_named g s w.0 a
  function_named (g ∷ x ∷ xs) s w a = a

  opened_named : (o : Option OpenKind) (x : Stands) → StandsIsNamed x → StandsIsNamed (opened o x)
  opened_named None x w = w
  opened_named (Some k) x w = retyped_named texts (default_type k) (default_named texts k) x w

  tag_in_named : (x : Stands) → StandsIsNamed x → StandsIsNamed (tag_in x)
  tag_in_named (sort.Value t) w = w
  tag_in_named (sort.Constant t c) w = w
  tag_in_named (sort.Open u) w = opened_named (open_kind (sort.Open u)) (sort.Open u) tt
  tag_in_named (sort.OpenConstant c) w = opened_named (open_kind (sort.OpenConstant c)) (sort.OpenConstant c) tt
  tag_in_named x w = tt

  tag_of_named : (x : Option Part) → MaybePart texts x → StandsIsNamed (tag_of x)
  tag_of_named None w = tt
  tag_of_named (Some x) w = tag_in_named (sort_of x) (sort_named texts x w)

  last_named : (xs : Parts) → PartsNamed texts xs → MaybePart texts (last_of_list xs)
  last_named [] w = tt
  last_named (x ∷ []) w = w.0
  last_named (x ∷ y ∷ xs) w = last_named (y ∷ xs) w.1

  tag_behind_named : (x : Option Part) → MaybePart texts x → StandsIsNamed (tag_behind x)
  tag_behind_named (Some (typed (form.Held kind.LateTag) i j l ps)) w = tag_of_named (last_of_list (list_of ps)) (last_named (list_of ps) (list_named texts ps w.1))
  tag_behind_named (Some (typed (form.Held kind.InitializedTag) i j l ps)) w = tag_of_named (last_of_list (list_of ps)) (last_named (list_of ps) (list_named texts ps w.1))
  tag_behind_named x w = tag_of_named x w

  with_tag_named : (x : Stands) (s : Frame) → StandsIsNamed x → FrameIsNamed s → FrameIsNamed (record s { tag = x })
  with_tag_named x s w a = record { same = a.same; source = a.source; rights = a.rights; objects = a.objects; locals = a.locals; tag = w; results = a.results }

  switch_named : (xs : Parts) (s : Frame) → PartsNamed texts xs → FrameIsNamed s → FrameIsNamed (in_switch xs s)
  switch_named [] s w a = a
  switch_named (x ∷ []) s w a = with_tag_named (tag_behind x) s (tag_behind_named x w.0) a
  switch_named (x ∷ y ∷ xs) s w a = a

  constants_named : (xs : Parts) (s : Frame) → FrameIsNamed s → FrameIsNamed (in_constants xs s)
  constants_named [] s a = record { same = a.same; source = tt; rights = a.rights; objects = a.objects; locals = a.locals; tag = a.tag; results = a.results }
  constants_named (x ∷ xs) s a = record { same = a.same; source = a.source; rights = a.rights; objects = a.objects; locals = a.locals; tag = a.tag; results = a.results }

  pub entering_named : (k : Kind) (xs : Parts) (s : Frame) → PartsNamed texts xs → FrameIsNamed s → FrameIsNamed (entering k xs s)
  entering_named (kind.Declaration declaring.Constant) xs s w a = constants_named xs s a
  entering_named (kind.Group declaring.Constant) xs s w a = constants_named xs s a
  entering_named kind.Switch xs s w a = switch_named xs s w a
  entering_named kind.FunctionDeclaration xs s w a = function_named xs s w a
  entering_named k xs s w a = a

  -- ---- behind a node

  sort_known : (n : Option ℕ) (x : Stands) (s : Frame) → StandsIsNamed x → FrameIsNamed s → FrameIsNamed (declares_sort n x s)
  sort_known None x s w a = a
  sort_known (Some n) sort.Nothing s w a = a
  sort_known (Some n) x s w a = with_local_named n x s w a

  name_known : (x : Option Part) (s : Frame) → MaybePart texts x → FrameIsNamed s → FrameIsNamed (declares_name x s)
  name_known None s w a = a
  name_known (Some x) s w a = sort_known (is_new (form_of x)) (sort_of x) s (sort_named texts x w) a

  all_known : (xs : Parts) (s : Frame) → PartsNamed texts xs → FrameIsNamed s → FrameIsNamed (declares_all xs s)
  all_known [] s w a = a
  all_known (x ∷ xs) s w a = all_known xs (declares_name x s) w.1 (name_known x s w.0 a)

  right_side_named : (xs : Parts) → PartsNamed texts xs → MaybeNamed (right_side xs)
  right_side_named (n ∷ t ∷ []) w = part_type_named texts t w.1.0
  right_side_named xs w = tt

  kept_named : (ps : Trees) (o : Option Tree) → TreesAreNamed texts ps → MaybeTree texts o → MaybeTree texts (part_source ps o)
  kept_named (more ns (more r none)) o n w = n.1.0
  kept_named (more ns (more r (more q ps))) o n w = w
  kept_named (more ns (more r (skip ps))) o n w = w
  kept_named (more ns none) o n w = w
  kept_named (more ns (skip ps)) o n w = w
  kept_named none o n w = w
  kept_named (skip ps) o n w = w

  source_named : (ps : Trees) (s : Frame) → TreesAreNamed texts ps → FrameIsNamed s → FrameIsNamed (record s { source = part_source ps s.source })
  source_named ps s n a = record { same = a.same; source = kept_named ps s.source n a.source; rights = a.rights; objects = a.objects; locals = a.locals; tag = a.tag; results = a.results }

  back_named : (before s : Frame) → FrameIsNamed before → FrameIsNamed s → FrameIsNamed (back before s)
  back_named before s b a = record { same = a.same; source = a.source; rights = a.rights; objects = a.objects; locals = a.locals; tag = b.tag; results = b.results }

  left_named : (k : Kind) (i : ℕ) (ps : Trees) (x : Part) (s : Frame) → TreesAreNamed texts ps → PartIsNamed texts x → FrameIsNamed s → FrameIsNamed (leaving k i ps x s)
  left_named (kind.Specification declaring.Type) i ps x s n w a =
      let xs = list_of (parts_of x) in
      own_right_named (local_named (s.around.objects i)) (right_side xs) s (right_side_named xs (inner_parts x w)) a
  left_named (kind.Specification declaring.Variable) i ps x s n w a = all_known (list_of (parts_of x)) s (inner_parts x w) a
  left_named (kind.Specification declaring.Constant) i ps x s n w a = all_known (list_of (parts_of x)) (record s { source = part_source ps s.source }) (inner_parts x w) (source_named ps s n a)
  left_named kind.Define i ps x s n w a = all_known (list_of (parts_of x)) s (inner_parts x w) a
  left_named kind.DefiningRange i ps x s n w a = all_known (list_of (parts_of x)) s (inner_parts x w) a
  left_named k i ps x s n w a = a

  pub leaving_named : (k : Kind) (i : ℕ) (ps : Trees) (x : Part) (before s : Frame) → TreesAreNamed texts ps → PartIsNamed texts x → FrameIsNamed before → FrameIsNamed s → FrameIsNamed (leaving k i ps x (back before s))
  leaving_named k i ps x before s n w b a = left_named k i ps x (back before s) n w (back_named before s b a)
