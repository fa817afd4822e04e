-- What is known before and behind statements, with other numbers of declared types.
use Rattle.std.proofs.Common.{◌≡◌, ◌∙◌, ℕ, List, [], ◌∷◌, map, length, Option, Some, None, refl, sym, ap, cond, subst}
use Rattle.std.specs.Option.{option_map}
use Rattle.go_grammar.specs.declared.kind.Kind.{Kind}
use Rattle.go_grammar.specs.declared.kind.Kind.TheVariants as kind
use Rattle.go_grammar.specs.declared.kind.Sort.TheVariants as declaring
use Rattle.go_grammar.specs.Trees.{Tree, Trees}
use Rattle.go_types.specs.Trees.{TypeTree, declared}
use Rattle.go_typed.specs.Forms.{local_of}
use Rattle.go_typed.specs.declared.form.Form.TheVariants as form
use Rattle.go_typed.specs.Trees.{typed, list_of, form_of, sort_of, parts_of}
use Rattle.go_typed.specs.Trees as sort
use Rattle.go_types_relations.specs.Renaming.{renamed}
use Rattle.go_exprs_rules.specs.declared.family.OpenKind.{OpenKind}
use Rattle.go_exprs_rules.specs.Settling.{Part}
use Rattle.go_exprs_rules.specs.Sorts.{Stands, open_kind, default_type, retyped}
use Rattle.go_exprs_rules.specs.Tables.{Parts}
use Rattle.go_exprs_rules.specs.TypeNodes.{part_type, parts_in, entry_types, is_parameter}
use Rattle.go_stmts_defs.specs.Frames.{Frame, with_local, with_own_right}
use Rattle.go_stmts_defs.specs.Laying.{local_named, type_number}
use Rattle.go_stmts_defs.specs.Reading.{opened, tag_in, tag_of, last_of_list, tag_behind, name_in, first_name, entry_name, entry_names, with_parameter, with_parameters, head, first_parts, signature_results, behind_signature, in_function, in_switch, in_constants, entering, with_type, beginning, declares_sort, is_new, declares_name, declares_all, part_source, right_side, back, leaving}
use Rattle.go_renumbering.specs.Renumbered.{stands_renamed, part_renamed}
use Rattle.go_renumbering.proofs.Parts.{optional, parts, list_kept}
use Rattle.go_renumbering.proofs.Sorts.{maybe, default_same, retyped_same}
use Rattle.go_renumbering.proofs.TypeNodes.{type_kept, entries_kept, parts_in_kept}
use Rattle.go_renumbering.specs.Frames.{RenamedFrames}
use Rattle.go_renumbering.proofs.Assigning.{mapped_length, results_types}
use Rattle.go_renumbering.proofs.Framed.{renewed_so, local_renamed, iota_renamed}
use Rattle.go_renumbering.proofs.Placing.{own_right_renamed}

module _ (name : ℕ → ℕ) where
  abbrev new_sort : Stands → Stands
  new_sort x = stands_renamed name x

  opened_same : (o : Option OpenKind) (x : Stands) → opened o (new_sort x) ≡ new_sort (opened o x)
  opened_same None x = refl
  opened_same (Some k) x = ap (λ t. retyped t (new_sort x)) (sym (default_same name k)) ∙ retyped_same name (default_type k) x

  tag_in_same : (x : Stands) → tag_in (new_sort x) ≡ new_sort (tag_in x)
  tag_in_same (sort.Open u) = opened_same (open_kind (sort.Open u)) (sort.Open u)
  tag_in_same (sort.OpenConstant c) = opened_same (open_kind (sort.OpenConstant c)) (sort.OpenConstant c)
  tag_in_same x = refl

  tag_of_same : (x : Option Part) → tag_of (optional name x) ≡ new_sort (tag_of x)
  tag_of_same None = refl
  tag_of_same (Some (typed f i j l ps)) = tag_in_same l.sort

  last_kept : (xs : Parts) → last_of_list (parts name xs) ≡ optional name (last_of_list xs)
  last_kept [] = refl
  last_kept (x ∷ []) = refl
  last_kept (x ∷ y ∷ ys) = last_kept (y ∷ ys)

  tag_behind_same : (x : Option Part) → tag_behind (optional name x) ≡ new_sort (tag_behind x)
  tag_behind_same None = refl
  tag_behind_same (Some (typed (form.Held kind.LateTag) i j l ps)) = ap (λ xs. tag_of (last_of_list xs)) (list_kept name ps) ∙ ap tag_of (last_kept (list_of ps)) ∙ tag_of_same (last_of_list (list_of ps))
  tag_behind_same (Some (typed (form.Held kind.InitializedTag) i j l ps)) = ap (λ xs. tag_of (last_of_list xs)) (list_kept name ps) ∙ ap tag_of (last_kept (list_of ps)) ∙ tag_of_same (last_of_list (list_of ps))
  tag_behind_same (Some (typed f i j l ps)) = tag_in_same l.sort

  name_in_same : (x : Option Part) → name_in (optional name x) ≡ name_in x
  name_in_same None = refl
  name_in_same (Some (typed f i j l ps)) = refl

  first_name_same : (xs : Parts) → first_name (parts name xs) ≡ first_name xs
  first_name_same [] = refl
  first_name_same (x ∷ xs) = name_in_same x

  entry_name_same : (x : Part) → entry_name (part_renamed name x) ≡ entry_name x
  entry_name_same (typed f i j l ps) = ap (λ o. cond (is_parameter f) o (local_of f)) (ap first_name (list_kept name ps) ∙ first_name_same (list_of ps))

  pub entry_names_same : (xs : Parts) → entry_names (parts name xs) ≡ entry_names xs
  entry_names_same [] = refl
  entry_names_same (None ∷ xs) = entry_names_same xs
  entry_names_same (Some x ∷ xs) = let e = entry_name_same x in let f = entry_names_same xs in cc

  head_kept : (xs : Parts) → head (parts name xs) ≡ optional name (head xs)
  head_kept [] = refl
  head_kept (x ∷ xs) = refl

  pub first_parts_kept : (x : Option Part) → first_parts (optional name x) ≡ parts name (first_parts x)
  first_parts_kept None = refl
  first_parts_kept (Some (typed f i j l ps)) = ap (λ xs. parts_in (head xs)) (list_kept name ps) ∙ ap parts_in (head_kept (list_of ps)) ∙ parts_in_kept name (head (list_of ps))

  right_side_kept : (ys : Parts) → right_side (parts name ys) ≡ maybe name (right_side ys)
  right_side_kept [] = refl
  right_side_kept (x ∷ []) = refl
  right_side_kept (x ∷ y ∷ []) = type_kept name y
  right_side_kept (x ∷ y ∷ z ∷ zs) = refl

  with_parameter_renamed : (f g : Frame) → RenamedFrames name f g → (n : Option ℕ) (t : Option TypeTree) → RenamedFrames name (with_parameter n t f) (with_parameter n (maybe name t) g)
  with_parameter_renamed f g c (Some n) (Some t) = local_renamed name f g c n (sort.Value t)
  with_parameter_renamed f g c None t = c
  with_parameter_renamed f g c (Some n) None = c

  with_parameters_renamed : (f g : Frame) → RenamedFrames name f g → (ns : List (Option ℕ)) (ts : List (Option TypeTree)) → RenamedFrames name (with_parameters ns ts f) (with_parameters ns (map (maybe name) ts) g)
  with_parameters_renamed f g c [] ts = c
  with_parameters_renamed f g c (n ∷ ns) [] = c
  with_parameters_renamed f g c (n ∷ ns) (t ∷ ts) = with_parameters_renamed (with_parameter n t f) (with_parameter n (maybe name t) g) (with_parameter_renamed f g c n t) ns ts

  declares_sort_renamed : (f g : Frame) → RenamedFrames name f g → (n : Option ℕ) (x : Stands) → RenamedFrames name (declares_sort n x f) (declares_sort n (new_sort x) g)
  declares_sort_renamed f g c None x = c
  declares_sort_renamed f g c (Some n) sort.Nothing = c
  declares_sort_renamed f g c (Some n) (sort.Value t) = local_renamed name f g c n (sort.Value t)
  declares_sort_renamed f g c (Some n) x = local_renamed name f g c n x

  declares_name_renamed : (f g : Frame) → RenamedFrames name f g → (x : Option Part) → RenamedFrames name (declares_name x f) (declares_name (optional name x) g)
  declares_name_renamed f g c None = c
  declares_name_renamed f g c (Some (typed r i j l ps)) = declares_sort_renamed f g c (is_new r) l.sort

  declares_all_renamed : (f g : Frame) → RenamedFrames name f g → (xs : Parts) → RenamedFrames name (declares_all xs f) (declares_all (parts name xs) g)
  declares_all_renamed f g c [] = c
  declares_all_renamed f g c (x ∷ xs) = declares_all_renamed (declares_name x f) (declares_name (optional name x) g) (declares_name_renamed f g c x) xs

  declared_list : (f g : Frame) → RenamedFrames name f g → (x : Part) → RenamedFrames name (declares_all (list_of (parts_of x)) f) (declares_all (list_of (parts_of (part_renamed name x))) g)
  declared_list f g c (typed r i j l ps) = subst (λ ys. RenamedFrames name (declares_all (list_of ps) f) (declares_all ys g)) (sym (list_kept name ps)) (declares_all_renamed f g c (list_of ps))

  with_source : (f g : Frame) → RenamedFrames name f g → (a b : Option Tree) → b ≡ a → RenamedFrames name (record f { source = a }) (record g { source = b })
  with_source f g c a b e = renewed_so name f g c f.locals g.locals c.locals a b e f.tag g.tag c.tag f.results g.results c.results

  with_tag : (f g : Frame) → RenamedFrames name f g → (a b : Stands) → b ≡ new_sort a → RenamedFrames name (record f { tag = a }) (record g { tag = b })
  with_tag f g c a b e = renewed_so name f g c f.locals g.locals c.locals f.source g.source c.source a b e f.results g.results c.results

  with_results : (f g : Frame) → RenamedFrames name f g → (a b : List TypeTree) → b ≡ map (renamed name) a → RenamedFrames name (record f { results = a }) (record g { results = b })
  with_results f g c a b e = renewed_so name f g c f.locals g.locals c.locals f.source g.source c.source f.tag g.tag c.tag a b e

  signature_results_same : (f g : Frame) → RenamedFrames name f g → (t : Option TypeTree) → signature_results g (maybe name t) ≡ map (renamed name) (signature_results f t)
  signature_results_same f g c None = refl
  signature_results_same f g c (Some t) = results_types name c.one_to_one f.around.rights g.around.rights c.rights t

  behind_signature_renamed : (f g : Frame) → RenamedFrames name f g → (x : Option Part) → RenamedFrames name (behind_signature x f) (behind_signature (optional name x) g)
  behind_signature_renamed f g c x =
      let inside : Frame = record f { results = signature_results f (part_type x) } in
      let other : Frame = record g { results = signature_results g (part_type (optional name x)) } in
      let k = with_results f g c (signature_results f (part_type x)) (signature_results g (part_type (optional name x))) (ap (signature_results g) (type_kept name x) ∙ signature_results_same f g c (part_type x)) in
      subst (λ ys. RenamedFrames name (behind_signature x f) (with_parameters (entry_names ys) (entry_types ys) other)) (sym (first_parts_kept x))
      (subst (λ ns. RenamedFrames name (behind_signature x f) (with_parameters ns (entry_types (parts name (first_parts x))) other)) (sym (entry_names_same (first_parts x)))
      (subst (λ ts. RenamedFrames name (behind_signature x f) (with_parameters (entry_names (first_parts x)) ts other)) (sym (entries_kept name (first_parts x)))
      (with_parameters_renamed inside other k (entry_names (first_parts x)) (entry_types (first_parts x)))))

  in_constants_renamed : (f g : Frame) → RenamedFrames name f g → (xs : Parts) → RenamedFrames name (in_constants xs f) (in_constants (parts name xs) g)
  in_constants_renamed f g c [] = iota_renamed name (record f { source = None }) (record g { source = None }) (with_source f g c None None refl) 0 0 refl
  in_constants_renamed f g c (x ∷ xs) = iota_renamed name f g c (length (x ∷ xs)) (length (parts name (x ∷ xs))) (mapped_length (optional name) (x ∷ xs))

  in_switch_renamed : (f g : Frame) → RenamedFrames name f g → (xs : Parts) → RenamedFrames name (in_switch xs f) (in_switch (parts name xs) g)
  in_switch_renamed f g c [] = c
  in_switch_renamed f g c (x ∷ []) = with_tag f g c (tag_behind x) (tag_behind (optional name x)) (tag_behind_same x)
  in_switch_renamed f g c (x ∷ y ∷ ys) = c

  in_function_renamed : (f g : Frame) → RenamedFrames name f g → (xs : Parts) → RenamedFrames name (in_function xs f) (in_function (parts name xs) g)
  in_function_renamed f g c [] = c
  in_function_renamed f g c (x ∷ []) = behind_signature_renamed f g c x
  in_function_renamed f g c (x ∷ y ∷ ys) = c

  pub entering_renamed : (f g : Frame) → RenamedFrames name f g → (k : Kind) (xs : Parts) → RenamedFrames name (entering k xs f) (entering k (parts name xs) g)
  entering_renamed f g c (kind.Declaration declaring.Constant) xs = in_constants_renamed f g c xs
  entering_renamed f g c (kind.Group declaring.Constant) xs = in_constants_renamed f g c xs
  entering_renamed f g c kind.Switch xs = in_switch_renamed f g c xs
  entering_renamed f g c kind.FunctionDeclaration xs = in_function_renamed f g c xs
  entering_renamed f g c k xs = c

  with_type_renamed : (f g : Frame) → RenamedFrames name f g → (o : Option ℕ) → RenamedFrames name (with_type o f) (with_type o g)
  with_type_renamed f g c None = c
  with_type_renamed f g c (Some n) = subst (λ m. RenamedFrames name (with_type (Some n) f) (with_local n (sort.IsType (declared m)) g)) (sym (c.types n)) (local_renamed name f g c n (sort.IsType (declared (f.types n))))

  pub beginning_renamed : (f g : Frame) → RenamedFrames name f g → (k : Kind) (i : ℕ) → RenamedFrames name (beginning k i f) (beginning k i g)
  beginning_renamed f g c (kind.Specification declaring.Type) i = subst (λ o. RenamedFrames name (with_type (local_named (f.around.objects i)) f) (with_type (local_named o) g)) (sym (c.objects i)) (with_type_renamed f g c (local_named (f.around.objects i)))
  beginning_renamed f g c k i = c

  pub back_renamed : (a b f g : Frame) → RenamedFrames name a b → RenamedFrames name f g → RenamedFrames name (back a f) (back b g)
  back_renamed a b f g d c =
      let inner = renewed_so name f g c f.locals g.locals c.locals f.source g.source c.source a.tag b.tag d.tag a.results b.results d.results in
      iota_renamed name (record f { tag = a.tag; results = a.results }) (record g { tag = b.tag; results = b.results }) inner a.around.iota b.around.iota d.iota

  own_type_renamed : (f g : Frame) → RenamedFrames name f g → (i : ℕ) (x : Part) → RenamedFrames name (with_own_right (type_number f i) (right_side (list_of (parts_of x))) f) (with_own_right (type_number g i) (right_side (list_of (parts_of (part_renamed name x)))) g)
  own_type_renamed f g c i (typed r a b l ps) =
      let before = with_own_right (type_number f i) (right_side (list_of ps)) f in
      subst (λ ys. RenamedFrames name before (with_own_right (type_number g i) (right_side ys) g)) (sym (list_kept name ps))
      (subst (λ t. RenamedFrames name before (with_own_right (type_number g i) t g)) (sym (right_side_kept (list_of ps)))
      (subst (λ o. RenamedFrames name before (with_own_right (option_map g.types (local_named o)) (maybe name (right_side (list_of ps))) g)) (sym (c.objects i))
      (own_right_renamed name f g c (local_named (f.around.objects i)) (right_side (list_of ps)))))

  pub leaving_renamed : (f g : Frame) → RenamedFrames name f g → (k : Kind) (i : ℕ) (ps : Trees) (x : Part) → RenamedFrames name (leaving k i ps x f) (leaving k i ps (part_renamed name x) g)
  leaving_renamed f g c (kind.Specification declaring.Type) i ps x = own_type_renamed f g c i x
  leaving_renamed f g c (kind.Specification declaring.Variable) i ps x = declared_list f g c x
  leaving_renamed f g c (kind.Specification declaring.Constant) i ps x =
      declared_list (record f { source = part_source ps f.source }) (record g { source = part_source ps g.source }) (with_source f g c (part_source ps f.source) (part_source ps g.source) (ap (part_source ps) c.source)) x
  leaving_renamed f g c kind.Define i ps x = declared_list f g c x
  leaving_renamed f g c kind.DefiningRange i ps x = declared_list f g c x
  leaving_renamed f g c k i ps x = c
