-- What surrounds a function stays what it is behind each of its statements, but for right sides and `iota`.
use Rattle.std.proofs.Common.{ℕ, Bool, true, false, List, [], ◌∷◌, ◌++◌, Option, Some, None, cond}
use Rattle.go_grammar.specs.declared.kind.Kind.{Kind}
use Rattle.go_grammar.specs.declared.kind.Kind.TheVariants as kind
use Rattle.go_grammar.specs.declared.kind.Sort.TheVariants as declaring
use Rattle.go_grammar.specs.Trees.{Tree, node, Trees, none, more, skip, kind_of}
use Rattle.go_types.specs.Trees.{TypeTree}
use Rattle.go_typed.specs.Trees.{list_of, parts_of, sort_of, form_of}
use Rattle.go_typed.specs.Trees as sort
use Rattle.go_exprs_rules.specs.Scopes.{Hint, Scope, value}
use Rattle.go_exprs_rules.specs.Settling.{Part}
use Rattle.go_exprs_rules.specs.Sorts.{Stands}
use Rattle.go_exprs_rules.specs.Tables.{Parts}
use Rattle.go_exprs_rules.specs.TypeNodes.{part_type, entry_types}
use Rattle.go_stmts_defs.specs.Frames.{Frame, with_own_right}
use Rattle.go_stmts_defs.specs.Laying.{told, layout, form_by, local_named, type_number}
use Rattle.go_stmts_defs.specs.Reading.{Found, holding, held_faults, is_new, declares_sort, declares_name, declares_all, part_source, right_side, with_type, with_parameter, with_parameters, behind_signature, signature_results, first_parts, entry_names}
use Rattle.go_stmts_defs.specs.Reading.{in_function, in_switch, in_constants, entering, beginning, back, leaving, Reading, read, Readings, all_read, left_out, left_out_faults, is_statement, closed, after, reading, readings}
use Rattle.go_stmts_defs.specs.Rules.{own_faults, built_by}
use Rattle.go_stmts_elsewhere.specs.Gaps.{run, behind, frame_in}
use Rattle.go_stmts_elsewhere.specs.Replaced.{SaysAs}

module _ (s : Scope) where
  abbrev pub Keeps : Reading → Type 0
  Keeps (read x fs f) = SaysAs s f

  abbrev AllKeep : Readings → Type 0
  AllKeep (all_read xs fs f) = SaysAs s f

  type_kept : (o : Option ℕ) (f : Frame) → SaysAs s f → SaysAs s (with_type o f)
  type_kept (Some n) f c = record { texts = c.texts; characters = c.characters; objects = c.objects; sorts = c.sorts; referents = c.referents; needed = c.needed; limits = c.limits }
  type_kept None f c = c

  beginning_kept : (k : Kind) (i : ℕ) (f : Frame) → SaysAs s f → SaysAs s (beginning k i f)
  beginning_kept (kind.Specification declaring.Type) i f c = type_kept (local_named (f.around.objects i)) f c
  beginning_kept k i f c = c

  parameter_kept : (n : Option ℕ) (t : Option TypeTree) (f : Frame) → SaysAs s f → SaysAs s (with_parameter n t f)
  parameter_kept (Some n) (Some t) f c = record { texts = c.texts; characters = c.characters; objects = c.objects; sorts = c.sorts; referents = c.referents; needed = c.needed; limits = c.limits }
  parameter_kept (Some n) None f c = c
  parameter_kept None t f c = c

  parameters_kept : (ns : List (Option ℕ)) (ts : List (Option TypeTree)) (f : Frame) → SaysAs s f → SaysAs s (with_parameters ns ts f)
  parameters_kept [] ts f c = c
  parameters_kept (n ∷ ns) [] f c = c
  parameters_kept (n ∷ ns) (t ∷ ts) f c = parameters_kept ns ts (with_parameter n t f) (parameter_kept n t f c)

  pub signature_kept : (x : Option Part) (f : Frame) → SaysAs s f → SaysAs s (behind_signature x f)
  signature_kept x f c =
      parameters_kept (entry_names (first_parts x)) (entry_types (first_parts x)) (record f { results = signature_results f (part_type x) })
      (record { texts = c.texts; characters = c.characters; objects = c.objects; sorts = c.sorts; referents = c.referents; needed = c.needed; limits = c.limits })

  function_kept : (xs : Parts) (f : Frame) → SaysAs s f → SaysAs s (in_function xs f)
  function_kept [] f c = c
  function_kept (x ∷ []) f c = signature_kept x f c
  function_kept (x ∷ y ∷ ys) f c = c

  pub switch_kept : (xs : Parts) (f : Frame) → SaysAs s f → SaysAs s (in_switch xs f)
  switch_kept [] f c = c
  switch_kept (x ∷ []) f c = record { texts = c.texts; characters = c.characters; objects = c.objects; sorts = c.sorts; referents = c.referents; needed = c.needed; limits = c.limits }
  switch_kept (x ∷ y ∷ ys) f c = c

  constants_kept : (xs : Parts) (f : Frame) → SaysAs s f → SaysAs s (in_constants xs f)
  constants_kept [] f c = record { texts = c.texts; characters = c.characters; objects = c.objects; sorts = c.sorts; referents = c.referents; needed = c.needed; limits = c.limits }
  constants_kept (x ∷ xs) f c = record { texts = c.texts; characters = c.characters; objects = c.objects; sorts = c.sorts; referents = c.referents; needed = c.needed; limits = c.limits }

  entering_kept : (k : Kind) (xs : Parts) (f : Frame) → SaysAs s f → SaysAs s (entering k xs f)
  entering_kept (kind.Declaration declaring.Constant) xs f c = constants_kept xs f c
  entering_kept (kind.Group declaring.Constant) xs f c = constants_kept xs f c
  entering_kept kind.Switch xs f c = switch_kept xs f c
  entering_kept kind.FunctionDeclaration xs f c = function_kept xs f c
  entering_kept k xs f c = c

  sort_kept : (o : Option ℕ) (x : Stands) (f : Frame) → SaysAs s f → SaysAs s (declares_sort o x f)
  sort_kept (Some n) sort.Nothing f c = c
  sort_kept (Some n) x f c = record { texts = c.texts; characters = c.characters; objects = c.objects; sorts = c.sorts; referents = c.referents; needed = c.needed; limits = c.limits }
  sort_kept None x f c = c

  name_kept : (x : Option Part) (f : Frame) → SaysAs s f → SaysAs s (declares_name x f)
  name_kept None f c = c
  name_kept (Some x) f c = sort_kept (is_new (form_of x)) (sort_of x) f c

  names_kept : (xs : Parts) (f : Frame) → SaysAs s f → SaysAs s (declares_all xs f)
  names_kept [] f c = c
  names_kept (x ∷ xs) f c = names_kept xs (declares_name x f) (name_kept x f c)

  right_kept : (o : Option ℕ) (t : Option TypeTree) (f : Frame) → SaysAs s f → SaysAs s (with_own_right o t f)
  right_kept (Some n) t f c = record { texts = c.texts; characters = c.characters; objects = c.objects; sorts = c.sorts; referents = c.referents; needed = c.needed; limits = c.limits }
  right_kept None t f c = c

  source_changed : (o : Option Tree) (f : Frame) → SaysAs s f → SaysAs s (record f { source = o })
  source_changed o f c = record { texts = c.texts; characters = c.characters; objects = c.objects; sorts = c.sorts; referents = c.referents; needed = c.needed; limits = c.limits }

  leaving_kept : (k : Kind) (i : ℕ) (ps : Trees) (x : Part) (f : Frame) → SaysAs s f → SaysAs s (leaving k i ps x f)
  leaving_kept (kind.Specification declaring.Type) i ps x f c = right_kept (type_number f i) (right_side (list_of (parts_of x))) f c
  leaving_kept (kind.Specification declaring.Variable) i ps x f c = names_kept (list_of (parts_of x)) f c
  leaving_kept (kind.Specification declaring.Constant) i ps x f c = names_kept (list_of (parts_of x)) (record f { source = part_source ps f.source }) (source_changed (part_source ps f.source) f c)
  leaving_kept kind.Define i ps x f c = names_kept (list_of (parts_of x)) f c
  leaving_kept kind.DefiningRange i ps x f c = names_kept (list_of (parts_of x)) f c
  leaving_kept k i ps x f c = c

  pub back_kept : (a f : Frame) → SaysAs s f → SaysAs s (back a f)
  back_kept a f c = record { texts = c.texts; characters = c.characters; objects = c.objects; sorts = c.sorts; referents = c.referents; needed = c.needed; limits = c.limits }

  closed_kept : (k : Kind) (a : Frame) (i j : ℕ) (ps : Trees) (r : Readings) → AllKeep r → Keeps (closed a k i j ps r)
  closed_kept k a i j ps (all_read xs fs f) c =
      leaving_kept k i ps (built_by f k (form_by k xs) i j (layout f k i xs) (own_faults f k (form_by k xs) i j (layout f k i xs))) (back a f) (back_kept a f c)

  after_kept : (r : Reading) (n : Part → Found → Frame → Readings) → Keeps r → ((x : Part) (gs : Found) (u : Frame) → SaysAs s u → AllKeep (n x gs u)) → AllKeep (after r n)
  after_kept (read x gs u) n c k = k x gs u c

  either_kept : (b : Bool) (r t : Reading) → Keeps r → Keeps t → Keeps (cond b r t)
  either_kept true r t c d = c
  either_kept false r t c d = d

  mutual
    pub reading_kept : (f : Frame) → SaysAs s f → (h : Hint) (x : Tree) → Keeps (reading f h x)
    reading_kept f c h (node k i j ps) =
        either_kept (is_statement k) (closed f k i j ps (readings (beginning k i f) k h ps [] [] ps)) (read (holding f h (node k i j ps)) (held_faults f h (node k i j ps)) f)
        (closed_kept k f i j ps (readings (beginning k i f) k h ps [] [] ps) (readings_kept (beginning k i f) (beginning_kept k i f c) k h ps [] [] ps)) c

    pub readings_kept : (f : Frame) → SaysAs s f → (k : Kind) (h : Hint) (all : Trees) (xs : Parts) (fs : Found) (ts : Trees) → AllKeep (readings f k h all xs fs ts)
    readings_kept f c k h all xs fs none = c
    readings_kept f c k h all xs fs (skip ts) =
        let a = entering k xs f in
        readings_kept a (entering_kept k xs f c) k h all (xs ++ left_out a k ∷ []) (fs ++ left_out_faults a k) ts
    readings_kept f c k h all xs fs (more t ts) =
        let a = entering k xs f in
        after_kept (reading a (told k h all xs (kind_of t)) t) (λ x gs u. readings u k h all (xs ++ Some x ∷ []) (fs ++ gs) ts) (reading_kept a (entering_kept k xs f c) (told k h all xs (kind_of t)) t)
        (λ x gs u d. readings_kept u d k h all (xs ++ Some x ∷ []) (fs ++ gs) ts)

  frame_kept : (r : Readings) → AllKeep r → SaysAs s (frame_in r)
  frame_kept (all_read xs fs f) c = c

  pub behind_kept : (f : Frame) → SaysAs s f → (ts : Trees) → SaysAs s (behind f ts)
  behind_kept f c ts = frame_kept (run f ts) (readings_kept f c kind.Block value none [] [] ts)

  pub frame_read : (x : Part) (fs : Found) (f : Frame) → Keeps (read x fs f) → SaysAs s f
  frame_read x fs f c = c
