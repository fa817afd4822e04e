-- What is known before and behind statements at their new places.
use Rattle.std.proofs.Common.{◌≡◌, ◌∙◌, ℕ, Bool, true, false, List, [], ◌∷◌, map, length, Option, Some, None, refl, sym, ap, cond, subst}
use Rattle.std.specs.Option.{option_map}
use Rattle.go_grammar.specs.declared.kind.Kind.{Kind}
use Rattle.go_grammar.specs.declared.kind.Kind.TheVariants as kind
use Rattle.go_grammar.specs.declared.kind.Sort.TheVariants as declaring
use Rattle.go_grammar.specs.Trees.{Tree, Trees, none, more, skip}
use Rattle.go_rewriting.specs.Places.{carry, carries}
use Rattle.go_tree.specs.declared.object.Object.{Object}
use Rattle.go_tree.specs.declared.object.Object.TheVariants as object
use Rattle.go_types.specs.Trees.{TypeTree, declared}
use Rattle.go_typed.specs.Forms.{local_of}
use Rattle.go_typed.specs.declared.form.Form.{Form}
use Rattle.go_typed.specs.declared.form.Form.TheVariants as form
use Rattle.go_typed.specs.Trees.{typed, Typeds, list_of, parts_of}
use Rattle.go_typed.specs.Trees as sort
use Rattle.go_exprs_rules.specs.Settling.{Part}
use Rattle.go_exprs_rules.specs.Sorts.{Stands}
use Rattle.go_exprs_rules.specs.Tables.{Parts}
use Rattle.go_exprs_rules.specs.TypeNodes.{part_type, parts_in, entry_types, is_parameter}
use Rattle.go_stmts_defs.specs.Frames.{Frame, with_local, with_right, with_own_right, with_iota}
use Rattle.go_stmts_defs.specs.Laying.{local_named, type_number}
use Rattle.go_stmts_defs.specs.Reading.{tag_of, last_of_list, tag_behind, name_in, first_name, entry_name, entry_names, with_parameter, with_parameters, head, first_parts, signature_results, behind_signature, in_function, in_switch, in_constants, entering, with_type, beginning, declares_sort, is_new, declares_name, declares_all, part_source, right_side, leaving}
use Rattle.go_exprs_elsewhere.specs.Elsewhere.{Moves, form_moved, placed, all_placed, AllKeepSpelling}
use Rattle.go_exprs_elsewhere.proofs.Public.{optional, parts, list_kept, type_kept, entries_kept, parts_in_kept, parameter_moved}
use Rattle.go_stmts_elsewhere.specs.Frames.{ObjectAlong, MaybeKeeps, AlongFrames, form_named, Named}
use Rattle.go_stmts_elsewhere.proofs.Arranging.{mapped_length, type_number_along}
use Rattle.go_stmts_elsewhere.proofs.Naming.{AllNamed, list_named, parts_named}
use Rattle.go_stmts_elsewhere.proofs.Placing.{local_along}

-- ---- frames that differ in one field

module _ (m : Moves) (l : ℕ → Bool) (f g : Frame) (c : AlongFrames m l f g) where
  pub iota_along : (n : ℕ) → AlongFrames m l (with_iota n f) (with_iota n g)
  iota_along n = record {
    rights = c.rights;
    iota = refl;
    needed = c.needed;
    limits = c.limits;
    texts = c.texts;
    characters = c.characters;
    objects = c.objects;
    apart = c.apart;
    room = c.room;
    locals = c.locals;
    types = c.types;
    source = c.source;
    repeats = c.repeats;
    tag = c.tag;
    results = c.results;
  }

  pub source_along : (a b : Option Tree) → b ≡ option_map (carry m.token) a → MaybeKeeps m a → AlongFrames m l (record f { source = a }) (record g { source = b })
  source_along a b e k = record {
    rights = c.rights;
    iota = c.iota;
    needed = c.needed;
    limits = c.limits;
    texts = c.texts;
    characters = c.characters;
    objects = c.objects;
    apart = c.apart;
    room = c.room;
    locals = c.locals;
    types = c.types;
    source = e;
    repeats = k;
    tag = c.tag;
    results = c.results;
  }

  pub tag_along : (a b : Stands) → b ≡ a → AlongFrames m l (record f { tag = a }) (record g { tag = b })
  tag_along a b e = record {
    rights = c.rights;
    iota = c.iota;
    needed = c.needed;
    limits = c.limits;
    texts = c.texts;
    characters = c.characters;
    objects = c.objects;
    apart = c.apart;
    room = c.room;
    locals = c.locals;
    types = c.types;
    source = c.source;
    repeats = c.repeats;
    tag = e;
    results = c.results;
  }

  results_along : (a b : List TypeTree) → b ≡ a → AlongFrames m l (record f { results = a }) (record g { results = b })
  results_along a b e = record {
    rights = c.rights;
    iota = c.iota;
    needed = c.needed;
    limits = c.limits;
    texts = c.texts;
    characters = c.characters;
    objects = c.objects;
    apart = c.apart;
    room = c.room;
    locals = c.locals;
    types = c.types;
    source = c.source;
    repeats = c.repeats;
    tag = c.tag;
    results = e;
  }

  right_along : (n : ℕ) (t : Option TypeTree) → AlongFrames m l (with_right n t f) (with_right n t g)
  right_along n t = record {
    rights = let e = c.rights in cc;
    iota = c.iota;
    needed = c.needed;
    limits = c.limits;
    texts = c.texts;
    characters = c.characters;
    objects = c.objects;
    apart = c.apart;
    room = c.room;
    locals = c.locals;
    types = c.types;
    source = c.source;
    repeats = c.repeats;
    tag = c.tag;
    results = c.results;
  }

  own_right_along : (o : Option ℕ) (t : Option TypeTree) → AlongFrames m l (with_own_right o t f) (with_own_right o t g)
  own_right_along None t = c
  own_right_along (Some n) t = right_along n t

module _ (m : Moves) where
  -- ---- tags

  tag_of_kept : (x : Option Part) → tag_of (optional m x) ≡ tag_of x
  tag_of_kept None = refl
  tag_of_kept (Some (typed f i j l ps)) = refl

  last_kept : (xs : Parts) → last_of_list (parts m xs) ≡ optional m (last_of_list xs)
  last_kept [] = refl
  last_kept (x ∷ []) = refl
  last_kept (x ∷ y ∷ ys) = last_kept (y ∷ ys)

  header_kept : (ps : Typeds TypeTree) → tag_of (last_of_list (list_of (all_placed m ps))) ≡ tag_of (last_of_list (list_of ps))
  header_kept ps = ap (λ xs. tag_of (last_of_list xs)) (list_kept m ps) ∙ ap tag_of (last_kept (list_of ps)) ∙ tag_of_kept (last_of_list (list_of ps))

  pub tag_behind_kept : (x : Option Part) → tag_behind (optional m x) ≡ tag_behind x
  tag_behind_kept None = refl
  tag_behind_kept (Some (typed (form.Held kind.LateTag) i j l ps)) = header_kept ps
  tag_behind_kept (Some (typed (form.Held kind.InitializedTag) i j l ps)) = header_kept ps
  tag_behind_kept (Some (typed f i j l ps)) = refl

  -- ---- parameters

  local_moved : (f : Form) → local_of (form_moved m f) ≡ option_map m.local (local_of f)
  local_moved (form.Local n) = refl
  local_moved (form.New n) = refl
  local_moved (form.Declared n) = refl
  local_moved f = refl

  name_in_kept : (x : Option Part) → name_in (optional m x) ≡ option_map m.local (name_in x)
  name_in_kept None = refl
  name_in_kept (Some (typed f i j l ps)) = local_moved f

  first_name_kept : (xs : Parts) → first_name (parts m xs) ≡ option_map m.local (first_name xs)
  first_name_kept [] = refl
  first_name_kept (x ∷ xs) = name_in_kept x

  either_name : (b : Bool) (o q u v : Option ℕ) → u ≡ option_map m.local o → v ≡ option_map m.local q → cond b u v ≡ option_map m.local (cond b o q)
  either_name true o q u v e d = e
  either_name false o q u v e d = d

  entry_name_kept : (x : Part) → entry_name (placed m x) ≡ option_map m.local (entry_name x)
  entry_name_kept (typed f i j l ps) =
      ap (λ b. cond b (first_name (list_of (all_placed m ps))) (local_of (form_moved m f))) (parameter_moved m f)
      ∙ either_name (is_parameter f) (first_name (list_of ps)) (local_of f) (first_name (list_of (all_placed m ps))) (local_of (form_moved m f))
      (ap first_name (list_kept m ps) ∙ first_name_kept (list_of ps)) (local_moved f)

  abbrev pub numbers_moved : List (Option ℕ) → List (Option ℕ)
  numbers_moved ns = map (λ (o : Option ℕ). option_map m.local o) ns

  pub entry_names_kept : (xs : Parts) → entry_names (parts m xs) ≡ numbers_moved (entry_names xs)
  entry_names_kept [] = refl
  entry_names_kept (None ∷ xs) = entry_names_kept xs
  entry_names_kept (Some x ∷ xs) = ap (λ n. n ∷ entry_names (parts m xs)) (entry_name_kept x) ∙ ap (λ ns. option_map m.local (entry_name x) ∷ ns) (entry_names_kept xs)

  head_kept : (xs : Parts) → head (parts m xs) ≡ optional m (head xs)
  head_kept [] = refl
  head_kept (x ∷ xs) = refl

  pub first_parts_kept : (x : Option Part) → first_parts (optional m x) ≡ parts m (first_parts x)
  first_parts_kept None = refl
  first_parts_kept (Some (typed f i j l ps)) = ap (λ xs. parts_in (head xs)) (list_kept m ps) ∙ ap parts_in (head_kept (list_of ps)) ∙ parts_in_kept m (head (list_of ps))

  right_side_kept : (ys : Parts) → right_side (parts m ys) ≡ right_side ys
  right_side_kept [] = refl
  right_side_kept (x ∷ []) = refl
  right_side_kept (x ∷ y ∷ []) = type_kept m y
  right_side_kept (x ∷ y ∷ z ∷ zs) = refl

  new_moved : (f : Form) → is_new (form_moved m f) ≡ option_map m.local (is_new f)
  new_moved (form.New n) = refl
  new_moved (form.Declared n) = refl
  new_moved f = refl

-- ---- which of these locals count

module _ (l : ℕ → Bool) where
  abbrev pub Known : Option ℕ → Type 0
  Known None = Unit {0}
  Known (Some n) = l n ≡ true

  abbrev AllKnown : List (Option ℕ) → Type 0
  AllKnown [] = Unit {0}
  AllKnown (o ∷ os) = Known o × AllKnown os

  local_known : (f : Form) → form_named l f → Known (local_of f)
  local_known (form.Local n) e = e
  local_known (form.New n) e = e
  local_known (form.Declared n) e = e
  local_known f e = tt

  new_known : (f : Form) → form_named l f → Known (is_new f)
  new_known (form.New n) e = e
  new_known (form.Declared n) e = e
  new_known f e = tt

  name_known : (xs : Parts) → AllNamed l xs → Known (first_name xs)
  name_known [] e = tt
  name_known (None ∷ xs) e = tt
  name_known (Some (typed f i j a ps) ∷ xs) e = local_known f e.0.0

  either_known : (b : Bool) (o q : Option ℕ) → Known o → Known q → Known (cond b o q)
  either_known true o q e d = e
  either_known false o q e d = d

  entry_known : (x : Part) → Named l x → Known (entry_name x)
  entry_known (typed f i j a ps) e = either_known (is_parameter f) (first_name (list_of ps)) (local_of f) (name_known (list_of ps) (list_named l ps e.1)) (local_known f e.0)

  entries_known : (xs : Parts) → AllNamed l xs → AllKnown (entry_names xs)
  entries_known [] e = tt
  entries_known (None ∷ xs) e = entries_known xs e
  entries_known (Some x ∷ xs) e = (entry_known x e.0, entries_known xs e.1)

  inner_named : (x : Option Part) → AllNamed l (x ∷ []) → AllNamed l (parts_in x)
  inner_named None e = tt
  inner_named (Some x) e = parts_named l x e.0

  head_named : (xs : Parts) → AllNamed l xs → AllNamed l (head xs ∷ [])
  head_named [] e = tt
  head_named (None ∷ xs) e = tt
  head_named (Some x ∷ xs) e = (e.0, tt)

  first_parts_named : (x : Option Part) → AllNamed l (x ∷ []) → AllNamed l (first_parts x)
  first_parts_named None e = tt
  first_parts_named (Some x) e = inner_named (head (list_of (parts_of x))) (head_named (list_of (parts_of x)) (parts_named l x e.0))

-- ---- frames

module _ (m : Moves) (l : ℕ → Bool) where
  parameter_along : (f g : Frame) → AlongFrames m l f g → (o : Option ℕ) → Known l o → (t : Option TypeTree) → AlongFrames m l (with_parameter o t f) (with_parameter (option_map m.local o) t g)
  parameter_along f g c (Some n) e (Some t) = local_along m l f g c n (sort.Value t) e
  parameter_along f g c (Some n) e None = c
  parameter_along f g c None e t = c

  parameters_along : (f g : Frame) → AlongFrames m l f g → (ns : List (Option ℕ)) → AllKnown l ns → (ts : List (Option TypeTree)) → AlongFrames m l (with_parameters ns ts f) (with_parameters (numbers_moved m ns) ts g)
  parameters_along f g c [] e ts = c
  parameters_along f g c (n ∷ ns) e [] = c
  parameters_along f g c (n ∷ ns) e (t ∷ ts) = parameters_along (with_parameter n t f) (with_parameter (option_map m.local n) t g) (parameter_along f g c n e.0 t) ns e.1 ts

  results_same : (f g : Frame) → AlongFrames m l f g → (t : Option TypeTree) → signature_results g t ≡ signature_results f t
  results_same f g c None = refl
  results_same f g c (Some t) = let e = c.rights in cc

  pub signature_along : (f g : Frame) → AlongFrames m l f g → (x : Option Part) → AllNamed l (x ∷ []) → AlongFrames m l (behind_signature x f) (behind_signature (optional m x) g)
  signature_along f g c x n =
      let inside : Frame = record f { results = signature_results f (part_type x) } in
      let other : Frame = record g { results = signature_results g (part_type (optional m x)) } in
      let k = results_along m l f g c (signature_results f (part_type x)) (signature_results g (part_type (optional m x))) (ap (signature_results g) (type_kept m x) ∙ results_same f g c (part_type x)) in
      subst (λ ys. AlongFrames m l (behind_signature x f) (with_parameters (entry_names ys) (entry_types ys) other)) (sym (first_parts_kept m x))
      (subst (λ ns. AlongFrames m l (behind_signature x f) (with_parameters ns (entry_types (parts m (first_parts x))) other)) (sym (entry_names_kept m (first_parts x)))
      (subst (λ ts. AlongFrames m l (behind_signature x f) (with_parameters (numbers_moved m (entry_names (first_parts x))) ts other)) (sym (entries_kept m (first_parts x)))
      (parameters_along inside other k (entry_names (first_parts x)) (entries_known l (first_parts x) (first_parts_named l x n)) (entry_types (first_parts x)))))

  in_constants_along : (f g : Frame) → AlongFrames m l f g → (xs : Parts) → AlongFrames m l (in_constants xs f) (in_constants (parts m xs) g)
  in_constants_along f g c [] = iota_along m l (record f { source = None }) (record g { source = None }) (source_along m l f g c None None refl tt) 0
  in_constants_along f g c (x ∷ xs) =
      subst (λ n. AlongFrames m l (in_constants (x ∷ xs) f) (with_iota n g)) (sym (mapped_length (optional m) (x ∷ xs))) (iota_along m l f g c (length (x ∷ xs)))

  in_switch_along : (f g : Frame) → AlongFrames m l f g → (xs : Parts) → AlongFrames m l (in_switch xs f) (in_switch (parts m xs) g)
  in_switch_along f g c [] = c
  in_switch_along f g c (x ∷ []) = tag_along m l f g c (tag_behind x) (tag_behind (optional m x)) (tag_behind_kept m x)
  in_switch_along f g c (x ∷ y ∷ ys) = c

  in_function_along : (f g : Frame) → AlongFrames m l f g → (xs : Parts) → AllNamed l xs → AlongFrames m l (in_function xs f) (in_function (parts m xs) g)
  in_function_along f g c [] n = c
  in_function_along f g c (x ∷ []) n = signature_along f g c x n
  in_function_along f g c (x ∷ y ∷ ys) n = c

  pub entering_along : (f g : Frame) → AlongFrames m l f g → (k : Kind) (xs : Parts) → AllNamed l xs → AlongFrames m l (entering k xs f) (entering k (parts m xs) g)
  entering_along f g c (kind.Declaration declaring.Constant) xs n = in_constants_along f g c xs
  entering_along f g c (kind.Group declaring.Constant) xs n = in_constants_along f g c xs
  entering_along f g c kind.Switch xs n = in_switch_along f g c xs
  entering_along f g c kind.FunctionDeclaration xs n = in_function_along f g c xs n
  entering_along f g c k xs n = c

  with_type_along : (f g : Frame) → AlongFrames m l f g → (o q : Option Object) → ObjectAlong m l f.around g.around o q → AlongFrames m l (with_type (local_named o) f) (with_type (local_named q) g)
  with_type_along f g c None None w = c
  with_type_along f g c (Some object.Import) (Some object.Import) w = c
  with_type_along f g c (Some (object.Predeclared p)) (Some (object.Predeclared q)) w = c
  with_type_along f g c (Some (object.Package a)) (Some (object.Package b)) w = c
  with_type_along f g c (Some (object.Local d a)) (Some (object.Local e b)) w =
      let there = with_type (Some a) f in
      subst (λ n. AlongFrames m l there (with_local n (sort.IsType (declared (g.types n))) g)) (sym w.1)
      (subst (λ t. AlongFrames m l there (with_local (m.local a) (sort.IsType (declared t)) g)) (sym (c.types a w.0)) (local_along m l f g c a (sort.IsType (declared (f.types a))) w.0))
  with_type_along f g c o q w = absurd w

  pub beginning_along : (f g : Frame) → AlongFrames m l f g → (k : Kind) (i : ℕ) → AlongFrames m l (beginning k i f) (beginning k (m.token i) g)
  beginning_along f g c (kind.Specification declaring.Type) i = with_type_along f g c (f.around.objects i) (g.around.objects (m.token i)) (c.objects i)
  beginning_along f g c k i = c

  -- ---- behind a node

  sort_along : (f g : Frame) → AlongFrames m l f g → (o : Option ℕ) → Known l o → (x : Stands) → AlongFrames m l (declares_sort o x f) (declares_sort (option_map m.local o) x g)
  sort_along f g c None e x = c
  sort_along f g c (Some n) e sort.Nothing = c
  sort_along f g c (Some n) e x = local_along m l f g c n x e

  name_along : (f g : Frame) → AlongFrames m l f g → (x : Option Part) → AllNamed l (x ∷ []) → AlongFrames m l (declares_name x f) (declares_name (optional m x) g)
  name_along f g c None n = c
  name_along f g c (Some (typed r i j a ps)) n =
      subst (λ o. AlongFrames m l (declares_sort (is_new r) a.sort f) (declares_sort o a.sort g)) (sym (new_moved m r)) (sort_along f g c (is_new r) (new_known l r n.0.0) a.sort)

  declares_along : (f g : Frame) → AlongFrames m l f g → (xs : Parts) → AllNamed l xs → AlongFrames m l (declares_all xs f) (declares_all (parts m xs) g)
  declares_along f g c [] n = c
  declares_along f g c (None ∷ xs) n = declares_along f g c xs n
  declares_along f g c (Some x ∷ xs) n = declares_along (declares_name (Some x) f) (declares_name (Some (placed m x)) g) (name_along f g c (Some x) (n.0, tt)) xs n.1

  declared_list : (f g : Frame) → AlongFrames m l f g → (x : Part) → Named l x → AlongFrames m l (declares_all (list_of (parts_of x)) f) (declares_all (list_of (parts_of (placed m x))) g)
  declared_list f g c (typed r i j a ps) n =
      subst (λ ys. AlongFrames m l (declares_all (list_of ps) f) (declares_all ys g)) (sym (list_kept m ps)) (declares_along f g c (list_of ps) (list_named l ps n.1))

  part_source_kept : (ps : Trees) (o : Option Tree) → part_source (carries m.token ps) (option_map (carry m.token) o) ≡ option_map (carry m.token) (part_source ps o)
  part_source_kept none o = refl
  part_source_kept (skip ps) o = refl
  part_source_kept (more n none) o = refl
  part_source_kept (more n (skip ps)) o = refl
  part_source_kept (more n (more r none)) o = refl
  part_source_kept (more n (more r (more t ps))) o = refl
  part_source_kept (more n (more r (skip ps))) o = refl

  source_keeps : (ps : Trees) (o : Option Tree) → AllKeepSpelling m ps → MaybeKeeps m o → MaybeKeeps m (part_source ps o)
  source_keeps none o e d = d
  source_keeps (skip ps) o e d = d
  source_keeps (more n none) o e d = d
  source_keeps (more n (skip ps)) o e d = d
  source_keeps (more n (more r none)) o e d = e.1.0
  source_keeps (more n (more r (more t ps))) o e d = d
  source_keeps (more n (more r (skip ps))) o e d = d

  own_type_along : (f g : Frame) → AlongFrames m l f g → (i : ℕ) (x : Part)
      → AlongFrames m l (with_own_right (type_number f i) (right_side (list_of (parts_of x))) f) (with_own_right (type_number g (m.token i)) (right_side (list_of (parts_of (placed m x)))) g)
  own_type_along f g c i (typed r a b s ps) =
      let before = with_own_right (type_number f i) (right_side (list_of ps)) f in
      subst (λ ys. AlongFrames m l before (with_own_right (type_number g (m.token i)) (right_side ys) g)) (sym (list_kept m ps))
      (subst (λ t. AlongFrames m l before (with_own_right (type_number g (m.token i)) t g)) (sym (right_side_kept m (list_of ps)))
      (subst (λ o. AlongFrames m l before (with_own_right o (right_side (list_of ps)) g)) (sym (type_number_along m l f g c i))
      (own_right_along m l f g c (type_number f i) (right_side (list_of ps)))))

  pub leaving_along : (f g : Frame) → AlongFrames m l f g → (k : Kind) (i : ℕ) (ps : Trees) → AllKeepSpelling m ps → (x : Part) → Named l x → AlongFrames m l (leaving k i ps x f) (leaving k (m.token i) (carries m.token ps) (placed m x) g)
  leaving_along f g c (kind.Specification declaring.Type) i ps w x n = own_type_along f g c i x
  leaving_along f g c (kind.Specification declaring.Variable) i ps w x n = declared_list f g c x n
  leaving_along f g c (kind.Specification declaring.Constant) i ps w x n =
      declared_list (record f { source = part_source ps f.source }) (record g { source = part_source (carries m.token ps) g.source })
      (source_along m l f g c (part_source ps f.source) (part_source (carries m.token ps) g.source) (ap (part_source (carries m.token ps)) c.source ∙ part_source_kept ps f.source) (source_keeps ps f.source w c.repeats)) x n
  leaving_along f g c kind.Define i ps w x n = declared_list f g c x n
  leaving_along f g c kind.DefiningRange i ps w x n = declared_list f g c x n
  leaving_along f g c k i ps w x n = c
