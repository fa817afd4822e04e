-- How the parts of statements stand in typed trees, with other numbers of declared types.
use Rattle.std.proofs.Common.{◌≡◌, ◌∙◌, ℕ, zero, suc, ◌-◌, List, [], ◌∷◌, ◌++◌, map, length, Option, Some, None, refl, sym, ap, cond}
use Rattle.std.specs.Prelude.{take, nat_lt}
use Rattle.std.specs.Option.{option_map}
use Rattle.std.proofs.lemmas.List.{map-append}
use Rattle.go_grammar.specs.declared.kind.Kind.{Kind}
use Rattle.go_grammar.specs.declared.kind.Kind.TheVariants as kind
use Rattle.go_grammar.specs.declared.kind.Sort.TheVariants as declaring
use Rattle.go_grammar.specs.Trees.{Trees}
use Rattle.go_grammar.specs.Grammar.{count}
use Rattle.go_types.specs.Trees.{TypeTree}
use Rattle.go_typed.specs.declared.form.Form.{Form}
use Rattle.go_typed.specs.declared.form.Form.TheVariants as form
use Rattle.go_typed.specs.Trees.{typed, Typeds, list_of}
use Rattle.go_exprs_rules.specs.Names.{declared_form}
use Rattle.go_exprs_rules.specs.Scopes.{Hint, value, several}
use Rattle.go_exprs_rules.specs.Settling.{Part}
use Rattle.go_exprs_rules.specs.Tables.{Parts, held, all_held, first_cut, made, behind_first}
use Rattle.go_stmts_defs.specs.Frames.{Frame, Locals, declared_type}
use Rattle.go_stmts_defs.specs.Laying.{alone_or_value, behind_names, specification_told, first_then, told, new_or_known, new_form, new_name, local_named, type_number, type_sort, type_name, held_count, first_count, typed_or_not, is_values, specification_parts, names_count, specified_names, all_names, is_group, specifications, header_parts, if_parts, switch_parts, loop_header, for_parts, without_absent, layout, target_count, loop_form, first_loop_form, form_by}
use Rattle.go_renumbering.specs.Renumbered.{stands_renamed, part_renamed, hint_renamed}
use Rattle.go_renumbering.proofs.LaidOut.{held_kept, all_held_kept, first_cut_kept, behind_kept}
use Rattle.go_renumbering.proofs.Nodes.{made_kept}
use Rattle.go_renumbering.proofs.Parts.{branches, optional, parts, inner, list_kept}
use Rattle.go_renumbering.proofs.Sorts.{maybe}
use Rattle.go_renumbering.specs.Frames.{locals_renamed, RenamedFrames}
use Rattle.go_renumbering.proofs.Assigning.{mapped_length}
use Rattle.go_renumbering.proofs.Framed.{declared_type_same, name_form_same}

pub taken_mapped : {A B : Type 0} (f : A → B) (n : ℕ) (xs : List A) → take n (map f xs) ≡ map f (take n xs)
taken_mapped f zero xs = refl
taken_mapped f (suc n) [] = refl
taken_mapped f (suc n) (x ∷ xs) = ap (λ ys. f x ∷ ys) (taken_mapped f n xs)

module _ (name : ℕ → ℕ) where
  -- ---- what a part is told

  abbrev now : Hint → Hint
  now h = hint_renamed name h

  alone_same : (ps : Trees) (h : Hint) → alone_or_value ps (now h) ≡ now (alone_or_value ps h)
  alone_same ps several = branches now (nat_lt 1 (count ps)) value several
  alone_same ps h = refl

  behind_same : (k : Kind) (h : Hint) → behind_names k (now h) ≡ now (behind_names k h)
  behind_same kind.TypedValues h = refl
  behind_same kind.Values h = refl
  behind_same k h = refl

  specification_same : (h : Hint) (xs : Parts) (k : Kind) → specification_told (now h) (parts name xs) k ≡ now (specification_told h xs k)
  specification_same h [] k = refl
  specification_same h (x ∷ xs) k = behind_same k h

  first_same : (g h : Hint) (xs : Parts) → first_then (now g) (now h) (parts name xs) ≡ now (first_then g h xs)
  first_same g h [] = refl
  first_same g h (x ∷ xs) = refl

  pub told_kept : (k : Kind) (h : Hint) (ps : Trees) (xs : Parts) (n : Kind) → told k (now h) ps (parts name xs) n ≡ now (told k h ps xs n)
  told_kept (kind.Specification declaring.Type) h ps xs n = refl
  told_kept (kind.Specification declaring.Variable) h ps xs n = specification_same several xs n
  told_kept (kind.Specification declaring.Constant) h ps xs n = specification_same value xs n
  told_kept kind.TypedValues h ps xs n = first_same _ h xs
  told_kept kind.ExpressionList h ps xs n = alone_same ps h
  told_kept kind.Assignment h ps xs n = first_same _ several xs
  told_kept kind.Define h ps xs n = first_same _ several xs
  told_kept k h ps xs n = refl

  -- ---- names that are declared

  known_same : (n : ℕ) (o : Option TypeTree) → new_or_known n (maybe name o) ≡ new_or_known n o
  known_same n None = refl
  known_same n (Some t) = refl

  form_declared : (ls : Locals) (n : ℕ) → new_or_known n (declared_type (locals_renamed name ls) n) ≡ new_or_known n (declared_type ls n)
  form_declared ls n = ap (new_or_known n) (declared_type_same name ls n) ∙ known_same n (declared_type ls n)

  new_form_same : (ls : Locals) (f : Form) → new_form (locals_renamed name ls) f ≡ new_form ls f
  new_form_same ls (form.Declared n) = form_declared ls n
  new_form_same ls f = refl

  new_name_kept : (ls : Locals) (x : Option Part) → new_name (locals_renamed name ls) (optional name x) ≡ optional name (new_name ls x)
  new_name_kept ls None = refl
  new_name_kept ls (Some (typed f i j l ps)) = ap (λ z. Some (part_renamed name (typed z i j l ps))) (new_form_same ls f)

  new_names_kept : (ls : Locals) (xs : Parts) → map (new_name (locals_renamed name ls)) (parts name xs) ≡ parts name (map (new_name ls) xs)
  new_names_kept ls [] = refl
  new_names_kept ls (x ∷ xs) = let e = new_name_kept ls x in let f = new_names_kept ls xs in cc

  type_sort_same : (o : Option ℕ) → type_sort (option_map name o) ≡ stands_renamed name (type_sort o)
  type_sort_same None = refl
  type_sort_same (Some n) = refl

  module _ (f g : Frame) (c : RenamedFrames name f g) where
    numbered : (o : Option ℕ) → option_map g.types o ≡ option_map name (option_map f.types o)
    numbered None = refl
    numbered (Some n) = ap Some (c.types n)

    pub type_number_same : (i : ℕ) → type_number g i ≡ option_map name (type_number f i)
    type_number_same i = ap (λ o. option_map g.types (local_named o)) (c.objects i) ∙ numbered (local_named (f.around.objects i))

    type_name_kept : (i : ℕ) → type_name g i ≡ part_renamed name (type_name f i)
    type_name_kept i =
        ap (λ z. made z i (suc i) (type_sort (type_number g i)) [] []) (name_form_same name f g c i)
        ∙ ap (λ o. made (declared_form f.around (f.around.objects i)) i (suc i) (type_sort o) [] []) (type_number_same i)
        ∙ ap (λ z. made (declared_form f.around (f.around.objects i)) i (suc i) z [] []) (type_sort_same (type_number f i))
        ∙ made_kept name (declared_form f.around (f.around.objects i)) i (suc i) (type_sort (type_number f i)) [] []

  -- ---- counts

  held_count_same : (x : Option Part) → held_count (optional name x) ≡ held_count x
  held_count_same x = ap length (held_kept name x) ∙ mapped_length (optional name) (held x)

  first_count_same : (xs : Parts) → first_count (parts name xs) ≡ first_count xs
  first_count_same [] = refl
  first_count_same (x ∷ xs) = held_count_same x

  -- ---- layouts

  pub joined : (xs ys us vs : Parts) → us ≡ parts name xs → vs ≡ parts name ys → us ++ vs ≡ parts name (xs ++ ys)
  joined xs ys us vs e f = ap (λ z. z ++ vs) e ∙ ap (λ z. parts name xs ++ z) f ∙ sym (map-append (optional name) xs ys)

  values_same : (x : Option Part) → is_values (optional name x) ≡ is_values x
  values_same None = refl
  values_same (Some (typed (form.Held kind.Values) i j l ps)) = refl
  values_same (Some (typed f i j l ps)) = refl

  typed_or_not_kept : (x : Option Part) → typed_or_not (optional name x) ≡ parts name (typed_or_not x)
  typed_or_not_kept None = refl
  typed_or_not_kept (Some x) =
      ap (λ b. cond b (None ∷ held (Some (part_renamed name x))) (held (Some (part_renamed name x)))) (values_same (Some x))
      ∙ ap (λ ys. cond (is_values (Some x)) (None ∷ ys) ys) (held_kept name (Some x))
      ∙ branches (parts name) (is_values (Some x)) (None ∷ held (Some x)) (held (Some x))

  specification_kept : (xs : Parts) → specification_parts (parts name xs) ≡ parts name (specification_parts xs)
  specification_kept [] = refl
  specification_kept (x ∷ []) = refl
  specification_kept (ns ∷ x ∷ []) =
      joined (held ns) (first_cut (typed_or_not x)) (held (optional name ns)) (first_cut (typed_or_not (optional name x))) (held_kept name ns)
      (ap first_cut (typed_or_not_kept x) ∙ first_cut_kept name (typed_or_not x))
  specification_kept (x ∷ y ∷ z ∷ zs) = refl

  specified_kept : (x : Option Part) → specified_names (optional name x) ≡ parts name (specified_names x)
  specified_kept None = refl
  specified_kept (Some (typed f i j l ps)) = ap (take (names_count f)) (list_kept name ps) ∙ taken_mapped (optional name) (names_count f) (list_of ps)

  all_names_kept : (xs : Parts) → all_names (parts name xs) ≡ parts name (all_names xs)
  all_names_kept [] = refl
  all_names_kept (x ∷ xs) = joined (specified_names x) (all_names xs) (specified_names (optional name x)) (all_names (parts name xs)) (specified_kept x) (all_names_kept xs)

  specifications_kept : (xs : Parts) → specifications (parts name xs) ≡ parts name (specifications xs)
  specifications_kept [] = refl
  specifications_kept (None ∷ xs) = refl
  specifications_kept (Some (typed f i j l ps) ∷ []) =
      ap (λ ys. cond (is_group f) ys (Some (part_renamed name (typed f i j l ps)) ∷ [])) (list_kept name ps) ∙ branches (parts name) (is_group f) (list_of ps) (Some (typed f i j l ps) ∷ [])
  specifications_kept (Some x ∷ y ∷ ys) = refl

  header_kept : (x : Option Part) → header_parts (optional name x) ≡ parts name (header_parts x)
  header_kept None = refl
  header_kept (Some (typed (form.Held kind.LateCondition) i j l ps)) = ap (λ xs. None ∷ xs) (list_kept name ps)
  header_kept (Some (typed (form.Held kind.LateTag) i j l ps)) = ap (λ xs. None ∷ xs) (list_kept name ps)
  header_kept (Some (typed (form.Held kind.InitializedCondition) i j l ps)) = list_kept name ps
  header_kept (Some (typed (form.Held kind.InitializedTag) i j l ps)) = list_kept name ps
  header_kept (Some (typed f i j l ps)) = refl

  if_kept : (xs : Parts) → if_parts (parts name xs) ≡ parts name (if_parts xs)
  if_kept [] = refl
  if_kept (x ∷ []) = refl
  if_kept (x ∷ y ∷ []) = refl
  if_kept (h ∷ b ∷ e ∷ []) = joined (header_parts h) (b ∷ held e) (header_parts (optional name h)) (optional name b ∷ held (optional name e)) (header_kept h) (ap (λ ys. optional name b ∷ ys) (held_kept name e))
  if_kept (x ∷ y ∷ z ∷ w ∷ ws) = refl

  switch_kept : (xs : Parts) → switch_parts (parts name xs) ≡ parts name (switch_parts xs)
  switch_kept [] = refl
  switch_kept (h ∷ xs) = joined (header_parts h) xs (header_parts (optional name h)) (parts name xs) (header_kept h) refl

  loop_kept : (x : Option Part) → loop_header (optional name x) ≡ parts name (loop_header x)
  loop_kept None = refl
  loop_kept (Some (typed (form.Held kind.ForClause) i j l ps)) = ap (λ xs. None ∷ xs) (list_kept name ps)
  loop_kept (Some (typed (form.Held k) i j l ps)) = list_kept name ps
  loop_kept (Some (typed f i j l ps)) = refl

  for_kept : (xs : Parts) → for_parts (parts name xs) ≡ parts name (for_parts xs)
  for_kept [] = refl
  for_kept (h ∷ xs) = joined (loop_header h) xs (loop_header (optional name h)) (parts name xs) (loop_kept h) refl

  absent_kept : (xs : Parts) → without_absent (parts name xs) ≡ parts name (without_absent xs)
  absent_kept [] = refl
  absent_kept (None ∷ xs) = absent_kept xs
  absent_kept (Some x ∷ xs) = ap (λ ys. Some (part_renamed name x) ∷ ys) (absent_kept xs)

  module _ (f g : Frame) (c : RenamedFrames name f g) where
    new_ones : (xs : Parts) → map (new_name g.locals) (all_held (parts name xs)) ≡ parts name (map (new_name f.locals) (all_held xs))
    new_ones xs = ap (λ ls. map (new_name ls) (all_held (parts name xs))) c.locals ∙ ap (map (new_name (locals_renamed name f.locals))) (all_held_kept name xs) ∙ new_names_kept f.locals (all_held xs)

    pub layout_kept : (k : Kind) (i : ℕ) (xs : Parts) → layout g k i (parts name xs) ≡ parts name (layout f k i xs)
    layout_kept kind.Targets i xs = all_held_kept name xs
    layout_kept kind.NewNames i xs = new_ones xs
    layout_kept kind.Values i xs = all_held_kept name xs
    layout_kept kind.TypedValues i xs = all_held_kept name xs
    layout_kept (kind.Specification declaring.Type) i xs = ap (λ x. Some x ∷ parts name xs) (type_name_kept f g c i)
    layout_kept (kind.Specification d) i xs = specification_kept xs
    layout_kept (kind.Declaration declaring.Variable) i xs = specifications_kept xs
    layout_kept (kind.Declaration d) i xs = ap all_names (specifications_kept xs) ∙ all_names_kept (specifications xs)
    layout_kept kind.Assignment i xs = all_held_kept name xs
    layout_kept kind.Define i xs = all_held_kept name xs
    layout_kept kind.Case i xs = all_held_kept name xs
    layout_kept kind.Return i xs = ap without_absent (all_held_kept name xs) ∙ absent_kept (all_held xs)
    layout_kept kind.If i xs = if_kept xs
    layout_kept kind.Switch i xs = switch_kept xs
    layout_kept kind.For i xs = for_kept xs
    layout_kept kind.AssigningRange i xs = all_held_kept name xs
    layout_kept kind.DefiningRange i xs = all_held_kept name xs
    layout_kept kind.FunctionDeclaration i xs = ap without_absent (behind_kept name xs) ∙ absent_kept (behind_first xs)
    layout_kept k i xs = refl

  -- ---- forms

  targets_same : (ps : Typeds TypeTree) → target_count (inner name ps) ≡ target_count ps
  targets_same ps = ap (λ xs. length xs - 1) (list_kept name ps) ∙ ap (λ n. n - 1) (mapped_length (optional name) (list_of ps))

  loop_form_same : (x : Option Part) → loop_form (optional name x) ≡ loop_form x
  loop_form_same None = refl
  loop_form_same (Some (typed (form.Held kind.Range) i j l ps)) = refl
  loop_form_same (Some (typed (form.Held kind.AssigningRange) i j l ps)) = let e = targets_same ps in cc
  loop_form_same (Some (typed (form.Held kind.DefiningRange) i j l ps)) = let e = targets_same ps in cc
  loop_form_same (Some (typed f i j l ps)) = refl

  first_loop_same : (xs : Parts) → first_loop_form (parts name xs) ≡ first_loop_form xs
  first_loop_same [] = refl
  first_loop_same (x ∷ xs) = loop_form_same x

  pub form_kept : (k : Kind) (xs : Parts) → form_by k (parts name xs) ≡ form_by k xs
  form_kept kind.Assignment xs = ap form.Assign (first_count_same xs)
  form_kept kind.Define xs = ap form.Define (first_count_same xs)
  form_kept (kind.Specification declaring.Variable) xs = ap form.Specified (first_count_same xs)
  form_kept (kind.Specification declaring.Constant) xs = ap form.Specified (first_count_same xs)
  form_kept kind.Case xs = ap form.Case (first_count_same xs)
  form_kept kind.For xs = first_loop_same xs
  form_kept (kind.Declaration declaring.Variable) xs = refl
  form_kept k xs = refl
