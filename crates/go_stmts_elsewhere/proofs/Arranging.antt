-- How the parts of statements stand in typed trees at their new places.
use Rattle.std.proofs.Common.{◌≡◌, ◌∙◌, ℕ, zero, suc, Bool, true, false, ◌-◌, List, [], ◌∷◌, ◌++◌, map, length, Option, Some, None, refl, sym, ap, cond}
use Rattle.std.specs.Prelude.{take}
use Rattle.std.specs.Option.{option_map}
use Rattle.std.proofs.lemmas.List.{map-append}
use Rattle.go_grammar.specs.declared.kind.Kind.{Kind}
use Rattle.go_grammar.specs.declared.kind.Kind.TheVariants as kind
use Rattle.go_grammar.specs.declared.kind.Sort.TheVariants as declaring
use Rattle.go_tree.specs.declared.object.Object.{Object}
use Rattle.go_tree.specs.declared.object.Object.TheVariants as object
use Rattle.go_types.specs.Trees.{TypeTree}
use Rattle.go_typed.specs.declared.form.Form.{Form}
use Rattle.go_typed.specs.declared.form.Form.TheVariants as form
use Rattle.go_typed.specs.Trees.{typed, Typeds, list_of}
use Rattle.go_exprs_rules.specs.Names.{declared_form}
use Rattle.go_exprs_rules.specs.Settling.{Part}
use Rattle.go_exprs_rules.specs.Sorts.{own_type}
use Rattle.go_exprs_rules.specs.Tables.{Parts, held, all_held, first_cut, made, behind_first}
use Rattle.go_stmts_defs.specs.Frames.{Frame, Locals, declared_type}
use Rattle.go_stmts_defs.specs.Laying.{new_or_known, new_form, new_name, local_named, type_number, type_sort, type_name, held_count, first_count, typed_or_not, is_values, specification_parts, names_count, specified_names, all_names, is_group, specifications, header_parts, if_parts, switch_parts, loop_header, for_parts, without_absent, layout, target_count, loop_form, first_loop_form, form_by}
use Rattle.go_exprs_elsewhere.specs.Elsewhere.{Moves, form_moved, placed, all_placed}
use Rattle.go_exprs_elsewhere.proofs.Public.{optional, parts, list_kept, held_kept, all_held_kept, first_cut_kept, behind_kept, made_kept}
use Rattle.go_stmts_elsewhere.specs.Frames.{ObjectAlong, PlaceKept, AlongFrames, form_named}
use Rattle.go_stmts_elsewhere.proofs.Naming.{branch, AllNamed, list_named, both_named, taken_named, first_named, rest_named, with_named, held_named, all_held_named, first_cut_named, behind_named, declared_named, AllCount}
use Rattle.go_stmts_elsewhere.proofs.Placing.{declared_along}

pub taken_mapped : {A B : Type 0} (f : A → B) (n : ℕ) (xs : List A) → take n (map f xs) ≡ map f (take n xs)
taken_mapped f zero xs = refl
taken_mapped f (suc n) [] = refl
taken_mapped f (suc n) (x ∷ xs) = ap (λ ys. f x ∷ ys) (taken_mapped f n xs)

pub mapped_length : {A B : Type 0} (f : A → B) (xs : List A) → length (map f xs) ≡ length xs
mapped_length f [] = refl
mapped_length f (x ∷ xs) = ap suc (mapped_length f xs)

branches : {A B : Type 0} (g : A → B) (b : Bool) (x y : A) → cond b (g x) (g y) ≡ g (cond b x y)
branches g true x y = refl
branches g false x y = refl

module _ (m : Moves) where
  -- ---- counts

  held_count_same : (x : Option Part) → held_count (optional m x) ≡ held_count x
  held_count_same x = ap length (held_kept m x) ∙ mapped_length (optional m) (held x)

  first_count_same : (xs : Parts) → first_count (parts m xs) ≡ first_count xs
  first_count_same [] = refl
  first_count_same (x ∷ xs) = held_count_same x

  -- ---- layouts

  pub joined : (xs ys us vs : Parts) → us ≡ parts m xs → vs ≡ parts m ys → us ++ vs ≡ parts m (xs ++ ys)
  joined xs ys us vs e f = ap (λ z. z ++ vs) e ∙ ap (λ z. parts m xs ++ z) f ∙ sym (map-append (optional m) xs ys)

  values_same : (x : Option Part) → is_values (optional m x) ≡ is_values x
  values_same None = refl
  values_same (Some (typed (form.Held kind.Values) i j l ps)) = refl
  values_same (Some (typed f i j l ps)) = refl

  typed_or_not_kept : (x : Option Part) → typed_or_not (optional m x) ≡ parts m (typed_or_not x)
  typed_or_not_kept None = refl
  typed_or_not_kept (Some x) =
      ap (λ b. cond b (None ∷ held (Some (placed m x))) (held (Some (placed m x)))) (values_same (Some x))
      ∙ ap (λ ys. cond (is_values (Some x)) (None ∷ ys) ys) (held_kept m (Some x))
      ∙ branches (parts m) (is_values (Some x)) (None ∷ held (Some x)) (held (Some x))

  specification_kept : (xs : Parts) → specification_parts (parts m xs) ≡ parts m (specification_parts xs)
  specification_kept [] = refl
  specification_kept (x ∷ []) = refl
  specification_kept (ns ∷ x ∷ []) =
      joined (held ns) (first_cut (typed_or_not x)) (held (optional m ns)) (first_cut (typed_or_not (optional m x))) (held_kept m ns)
      (ap first_cut (typed_or_not_kept x) ∙ first_cut_kept m (typed_or_not x))
  specification_kept (x ∷ y ∷ z ∷ zs) = refl

  names_moved : (f : Form) → names_count (form_moved m f) ≡ names_count f
  names_moved (form.Specified n) = refl
  names_moved (form.Held (kind.Specification declaring.Type)) = refl
  names_moved f = refl

  group_moved : (f : Form) → is_group (form_moved m f) ≡ is_group f
  group_moved (form.Held (kind.Group s)) = refl
  group_moved f = refl

  specified_kept : (x : Option Part) → specified_names (optional m x) ≡ parts m (specified_names x)
  specified_kept None = refl
  specified_kept (Some (typed f i j l ps)) =
      ap (λ n. take n (list_of (all_placed m ps))) (names_moved f) ∙ ap (take (names_count f)) (list_kept m ps) ∙ taken_mapped (optional m) (names_count f) (list_of ps)

  all_names_kept : (xs : Parts) → all_names (parts m xs) ≡ parts m (all_names xs)
  all_names_kept [] = refl
  all_names_kept (x ∷ xs) = joined (specified_names x) (all_names xs) (specified_names (optional m x)) (all_names (parts m xs)) (specified_kept x) (all_names_kept xs)

  specifications_kept : (xs : Parts) → specifications (parts m xs) ≡ parts m (specifications xs)
  specifications_kept [] = refl
  specifications_kept (None ∷ xs) = refl
  specifications_kept (Some (typed f i j l ps) ∷ []) =
      ap (λ b. cond b (list_of (all_placed m ps)) (Some (placed m (typed f i j l ps)) ∷ [])) (group_moved f)
      ∙ ap (λ ys. cond (is_group f) ys (Some (placed m (typed f i j l ps)) ∷ [])) (list_kept m ps) ∙ branches (parts m) (is_group f) (list_of ps) (Some (typed f i j l ps) ∷ [])
  specifications_kept (Some x ∷ y ∷ ys) = refl

  pub header_kept : (x : Option Part) → header_parts (optional m x) ≡ parts m (header_parts x)
  header_kept None = refl
  header_kept (Some (typed (form.Held kind.LateCondition) i j l ps)) = ap (λ xs. None ∷ xs) (list_kept m ps)
  header_kept (Some (typed (form.Held kind.LateTag) i j l ps)) = ap (λ xs. None ∷ xs) (list_kept m ps)
  header_kept (Some (typed (form.Held kind.InitializedCondition) i j l ps)) = list_kept m ps
  header_kept (Some (typed (form.Held kind.InitializedTag) i j l ps)) = list_kept m ps
  header_kept (Some (typed f i j l ps)) = refl

  if_kept : (xs : Parts) → if_parts (parts m xs) ≡ parts m (if_parts xs)
  if_kept [] = refl
  if_kept (x ∷ []) = refl
  if_kept (x ∷ y ∷ []) = refl
  if_kept (h ∷ b ∷ e ∷ []) = joined (header_parts h) (b ∷ held e) (header_parts (optional m h)) (optional m b ∷ held (optional m e)) (header_kept h) (ap (λ ys. optional m b ∷ ys) (held_kept m e))
  if_kept (x ∷ y ∷ z ∷ w ∷ ws) = refl

  switch_kept : (xs : Parts) → switch_parts (parts m xs) ≡ parts m (switch_parts xs)
  switch_kept [] = refl
  switch_kept (h ∷ xs) = joined (header_parts h) xs (header_parts (optional m h)) (parts m xs) (header_kept h) refl

  pub loop_kept : (x : Option Part) → loop_header (optional m x) ≡ parts m (loop_header x)
  loop_kept None = refl
  loop_kept (Some (typed (form.Held kind.ForClause) i j l ps)) = ap (λ xs. None ∷ xs) (list_kept m ps)
  loop_kept (Some (typed (form.Held k) i j l ps)) = list_kept m ps
  loop_kept (Some (typed f i j l ps)) = refl

  for_kept : (xs : Parts) → for_parts (parts m xs) ≡ parts m (for_parts xs)
  for_kept [] = refl
  for_kept (h ∷ xs) = joined (loop_header h) xs (loop_header (optional m h)) (parts m xs) (loop_kept h) refl

  absent_kept : (xs : Parts) → without_absent (parts m xs) ≡ parts m (without_absent xs)
  absent_kept [] = refl
  absent_kept (None ∷ xs) = absent_kept xs
  absent_kept (Some x ∷ xs) = ap (λ ys. Some (placed m x) ∷ ys) (absent_kept xs)

  -- ---- names of `:=` and of local types

  module _ (l : ℕ → Bool) (f g : Frame) (c : AlongFrames m l f g) where
    known_moved : (n : ℕ) (o : Option TypeTree) → new_or_known (m.local n) o ≡ form_moved m (new_or_known n o)
    known_moved n None = refl
    known_moved n (Some t) = refl

    -- those that are declared already are so in both frames
    new_form_along : (r : Form) → form_named l r → new_form g.locals (form_moved m r) ≡ form_moved m (new_form f.locals r)
    new_form_along (form.Declared n) e = ap (λ x. new_or_known (m.local n) (own_type x)) (c.locals n e) ∙ known_moved n (declared_type f.locals n)
    new_form_along r e = refl

    new_names_along : (xs : Parts) → AllNamed l xs → map (new_name g.locals) (parts m xs) ≡ parts m (map (new_name f.locals) xs)
    new_names_along [] e = refl
    new_names_along (None ∷ xs) e = ap (λ ys. None ∷ ys) (new_names_along xs e)
    new_names_along (Some (typed r i j x ps) ∷ xs) e =
        ap (λ z. Some (typed z (m.token i) (m.token j) x (all_placed m ps)) ∷ map (new_name g.locals) (parts m xs)) (new_form_along r e.0.0)
        ∙ ap (λ ys. Some (typed (form_moved m (new_form f.locals r)) (m.token i) (m.token j) x (all_placed m ps)) ∷ ys) (new_names_along xs e.1)

    number_along : (o q : Option Object) → ObjectAlong m l f.around g.around o q → option_map g.types (local_named q) ≡ option_map f.types (local_named o)
    number_along None None w = refl
    number_along (Some object.Import) (Some object.Import) w = refl
    number_along (Some (object.Predeclared p)) (Some (object.Predeclared q)) w = refl
    number_along (Some (object.Package a)) (Some (object.Package b)) w = refl
    number_along (Some (object.Local d a)) (Some (object.Local e b)) w = ap (λ n. Some (g.types n)) w.1 ∙ ap Some (c.types a w.0)
    number_along o q w = absurd w

    -- the number of the type that is declared at a token
    pub type_number_along : (i : ℕ) → type_number g (m.token i) ≡ type_number f i
    type_number_along i = number_along (f.around.objects i) (g.around.objects (m.token i)) (c.objects i)

    type_name_along : (i : ℕ) → m.token (suc i) ≡ suc (m.token i) → type_name g (m.token i) ≡ placed m (type_name f i)
    type_name_along i e =
        let old = declared_form f.around (f.around.objects i) in
        let x = type_sort (type_number f i) in
        ap (λ r. made r (m.token i) (suc (m.token i)) (type_sort (type_number g (m.token i))) [] []) (declared_along m l f g c (f.around.objects i) (g.around.objects (m.token i)) (c.objects i))
        ∙ ap (λ n. made (form_moved m old) (m.token i) (suc (m.token i)) (type_sort n) [] []) (type_number_along i)
        ∙ ap (λ n. made (form_moved m old) (m.token i) n x [] []) (sym e)
        ∙ made_kept m old i (suc i) x [] []

    pub layout_along : (k : Kind) (i j : ℕ) (xs : Parts) → AllNamed l xs → PlaceKept m k i j → layout g k (m.token i) (parts m xs) ≡ parts m (layout f k i xs)
    layout_along kind.NewNames i j xs n w = ap (map (new_name g.locals)) (all_held_kept m xs) ∙ new_names_along (all_held xs) (all_held_named l xs n)
    layout_along kind.Targets i j xs n w = all_held_kept m xs
    layout_along kind.Values i j xs n w = all_held_kept m xs
    layout_along kind.TypedValues i j xs n w = all_held_kept m xs
    layout_along (kind.Specification declaring.Type) i j xs n w = ap (λ x. Some x ∷ parts m xs) (type_name_along i w)
    layout_along (kind.Specification d) i j xs n w = specification_kept xs
    layout_along (kind.Declaration declaring.Variable) i j xs n w = specifications_kept xs
    layout_along (kind.Declaration d) i j xs n w = ap all_names (specifications_kept xs) ∙ all_names_kept (specifications xs)
    layout_along kind.Assignment i j xs n w = all_held_kept m xs
    layout_along kind.Define i j xs n w = all_held_kept m xs
    layout_along kind.Case i j xs n w = all_held_kept m xs
    layout_along kind.Return i j xs n w = ap without_absent (all_held_kept m xs) ∙ absent_kept (all_held xs)
    layout_along kind.If i j xs n w = if_kept xs
    layout_along kind.Switch i j xs n w = switch_kept xs
    layout_along kind.For i j xs n w = for_kept xs
    layout_along kind.AssigningRange i j xs n w = all_held_kept m xs
    layout_along kind.DefiningRange i j xs n w = all_held_kept m xs
    layout_along kind.FunctionDeclaration i j xs n w = ap without_absent (behind_kept m xs) ∙ absent_kept (behind_first xs)
    layout_along k i j xs n w = refl

  -- ---- forms

  targets_same : (ps : Typeds TypeTree) → target_count (all_placed m ps) ≡ target_count ps
  targets_same ps = ap (λ xs. length xs - 1) (list_kept m ps) ∙ ap (λ n. n - 1) (mapped_length (optional m) (list_of ps))

  loop_form_same : (x : Option Part) → loop_form (optional m x) ≡ loop_form x
  loop_form_same None = refl
  loop_form_same (Some (typed (form.Held kind.Range) i j l ps)) = refl
  loop_form_same (Some (typed (form.Held kind.AssigningRange) i j l ps)) = let e = targets_same ps in cc
  loop_form_same (Some (typed (form.Held kind.DefiningRange) i j l ps)) = let e = targets_same ps in cc
  loop_form_same (Some (typed f i j l ps)) = refl

  first_loop_same : (xs : Parts) → first_loop_form (parts m xs) ≡ first_loop_form xs
  first_loop_same [] = refl
  first_loop_same (x ∷ xs) = loop_form_same x

  pub form_kept : (k : Kind) (xs : Parts) → form_by k (parts m xs) ≡ form_by k xs
  form_kept kind.Assignment xs = ap form.Assign (first_count_same xs)
  form_kept kind.Define xs = ap form.Define (first_count_same xs)
  form_kept (kind.Specification declaring.Variable) xs = ap form.Specified (first_count_same xs)
  form_kept (kind.Specification declaring.Constant) xs = ap form.Specified (first_count_same xs)
  form_kept kind.Case xs = ap form.Case (first_count_same xs)
  form_kept kind.For xs = first_loop_same xs
  form_kept (kind.Declaration declaring.Variable) xs = refl
  form_kept k xs = refl

  -- ---- forms name no local

  loop_plain : (x : Option Part) → form_moved m (loop_form x) ≡ loop_form x
  loop_plain None = refl
  loop_plain (Some (typed (form.Held kind.Range) i j l ps)) = refl
  loop_plain (Some (typed (form.Held kind.AssigningRange) i j l ps)) = refl
  loop_plain (Some (typed (form.Held kind.DefiningRange) i j l ps)) = refl
  loop_plain (Some (typed f i j l ps)) = refl

  first_loop_plain : (xs : Parts) → form_moved m (first_loop_form xs) ≡ first_loop_form xs
  first_loop_plain [] = refl
  first_loop_plain (x ∷ xs) = loop_plain x

  pub form_plain : (k : Kind) (xs : Parts) → form_moved m (form_by k xs) ≡ form_by k xs
  form_plain kind.For xs = first_loop_plain xs
  form_plain (kind.Declaration declaring.Variable) xs = refl
  form_plain (kind.Specification declaring.Variable) xs = refl
  form_plain k xs = refl

module _ (l : ℕ → Bool) where
  loop_unnamed : (x : Option Part) → form_named l (loop_form x)
  loop_unnamed None = tt
  loop_unnamed (Some (typed (form.Held kind.Range) i j a ps)) = tt
  loop_unnamed (Some (typed (form.Held kind.AssigningRange) i j a ps)) = tt
  loop_unnamed (Some (typed (form.Held kind.DefiningRange) i j a ps)) = tt
  loop_unnamed (Some (typed f i j a ps)) = tt

  first_loop_unnamed : (xs : Parts) → form_named l (first_loop_form xs)
  first_loop_unnamed [] = tt
  first_loop_unnamed (x ∷ xs) = loop_unnamed x

  pub form_unnamed : (k : Kind) (xs : Parts) → form_named l (form_by k xs)
  form_unnamed kind.For xs = first_loop_unnamed xs
  form_unnamed (kind.Declaration declaring.Variable) xs = tt
  form_unnamed (kind.Specification declaring.Variable) xs = tt
  form_unnamed k xs = tt

  -- ---- the locals that laid out parts name

  values_or_not_named : (x : Option Part) → AllNamed l (x ∷ []) → AllNamed l (typed_or_not x)
  values_or_not_named None e = tt
  values_or_not_named (Some x) e = branch (AllNamed l) (is_values (Some x)) (None ∷ held (Some x)) (held (Some x)) (held_named l (Some x) e) (held_named l (Some x) e)

  specification_named : (xs : Parts) → AllNamed l xs → AllNamed l (specification_parts xs)
  specification_named [] e = tt
  specification_named (x ∷ []) e = e
  specification_named (ns ∷ x ∷ []) e =
      both_named l (held ns) (first_cut (typed_or_not x)) (held_named l ns (first_named l ns (x ∷ []) e))
      (first_cut_named l (typed_or_not x) (values_or_not_named x (rest_named l ns (x ∷ []) e)))
  specification_named (x ∷ y ∷ z ∷ zs) e = e

  specified_named : (x : Option Part) → AllNamed l (x ∷ []) → AllNamed l (specified_names x)
  specified_named None e = tt
  specified_named (Some (typed f i j a ps)) e = taken_named l (names_count f) (list_of ps) (list_named l ps e.0.1)

  all_names_named : (xs : Parts) → AllNamed l xs → AllNamed l (all_names xs)
  all_names_named [] e = tt
  all_names_named (x ∷ xs) e = both_named l (specified_names x) (all_names xs) (specified_named x (first_named l x xs e)) (all_names_named xs (rest_named l x xs e))

  specifications_named : (xs : Parts) → AllNamed l xs → AllNamed l (specifications xs)
  specifications_named [] e = tt
  specifications_named (None ∷ xs) e = e
  specifications_named (Some (typed f i j a ps) ∷ []) e = branch (AllNamed l) (is_group f) (list_of ps) (Some (typed f i j a ps) ∷ []) (list_named l ps e.0.1) e
  specifications_named (Some x ∷ y ∷ ys) e = e

  pub header_named : (x : Option Part) → AllNamed l (x ∷ []) → AllNamed l (header_parts x)
  header_named None e = tt
  header_named (Some (typed (form.Held kind.LateCondition) i j a ps)) e = list_named l ps e.0.1
  header_named (Some (typed (form.Held kind.LateTag) i j a ps)) e = list_named l ps e.0.1
  header_named (Some (typed (form.Held kind.InitializedCondition) i j a ps)) e = list_named l ps e.0.1
  header_named (Some (typed (form.Held kind.InitializedTag) i j a ps)) e = list_named l ps e.0.1
  header_named (Some (typed f i j a ps)) e = e

  if_named : (xs : Parts) → AllNamed l xs → AllNamed l (if_parts xs)
  if_named [] e = tt
  if_named (x ∷ []) e = e
  if_named (x ∷ y ∷ []) e = e
  if_named (h ∷ b ∷ o ∷ []) e =
      let r = rest_named l h (b ∷ o ∷ []) e in
      both_named l (header_parts h) (b ∷ held o) (header_named h (first_named l h (b ∷ o ∷ []) e))
      (with_named l b (held o) (first_named l b (o ∷ []) r) (held_named l o (rest_named l b (o ∷ []) r)))
  if_named (x ∷ y ∷ z ∷ w ∷ ws) e = e

  switch_named : (xs : Parts) → AllNamed l xs → AllNamed l (switch_parts xs)
  switch_named [] e = tt
  switch_named (h ∷ xs) e = both_named l (header_parts h) xs (header_named h (first_named l h xs e)) (rest_named l h xs e)

  pub loop_named : (x : Option Part) → AllNamed l (x ∷ []) → AllNamed l (loop_header x)
  loop_named None e = tt
  loop_named (Some (typed (form.Held kind.ForClause) i j a ps)) e = list_named l ps e.0.1
  loop_named (Some (typed (form.Held k) i j a ps)) e = list_named l ps e.0.1
  loop_named (Some (typed f i j a ps)) e = e

  for_named : (xs : Parts) → AllNamed l xs → AllNamed l (for_parts xs)
  for_named [] e = tt
  for_named (h ∷ xs) e = both_named l (loop_header h) xs (loop_named h (first_named l h xs e)) (rest_named l h xs e)

  present_named : (xs : Parts) → AllNamed l xs → AllNamed l (without_absent xs)
  present_named [] e = tt
  present_named (None ∷ xs) e = present_named xs e
  present_named (Some x ∷ xs) e = (e.0, present_named xs e.1)

  known_named : (n : ℕ) (o : Option TypeTree) → l n ≡ true → form_named l (new_or_known n o)
  known_named n None e = e
  known_named n (Some t) e = e

  new_form_named : (ls : Locals) (r : Form) → form_named l r → form_named l (new_form ls r)
  new_form_named ls (form.Declared n) e = known_named n (declared_type ls n) e
  new_form_named ls r e = e

  new_names_named : (ls : Locals) (xs : Parts) → AllNamed l xs → AllNamed l (map (new_name ls) xs)
  new_names_named ls [] e = tt
  new_names_named ls (None ∷ xs) e = new_names_named ls xs e
  new_names_named ls (Some (typed r i j x ps) ∷ xs) e = ((new_form_named ls r e.0.0, e.0.1), new_names_named ls xs e.1)

  pub layout_is_named : (f : Frame) → AllCount l f.around → (k : Kind) (i : ℕ) (xs : Parts) → AllNamed l xs → AllNamed l (layout f k i xs)
  layout_is_named f c kind.NewNames i xs e = new_names_named f.locals (all_held xs) (all_held_named l xs e)
  layout_is_named f c kind.Targets i xs e = all_held_named l xs e
  layout_is_named f c kind.Values i xs e = all_held_named l xs e
  layout_is_named f c kind.TypedValues i xs e = all_held_named l xs e
  layout_is_named f c (kind.Specification declaring.Type) i xs e = ((declared_named l f.around (f.around.objects i) (c i), tt), e)
  layout_is_named f c (kind.Specification d) i xs e = specification_named xs e
  layout_is_named f c (kind.Declaration declaring.Variable) i xs e = specifications_named xs e
  layout_is_named f c (kind.Declaration d) i xs e = all_names_named (specifications xs) (specifications_named xs e)
  layout_is_named f c kind.Assignment i xs e = all_held_named l xs e
  layout_is_named f c kind.Define i xs e = all_held_named l xs e
  layout_is_named f c kind.Case i xs e = all_held_named l xs e
  layout_is_named f c kind.Return i xs e = present_named (all_held xs) (all_held_named l xs e)
  layout_is_named f c kind.If i xs e = if_named xs e
  layout_is_named f c kind.Switch i xs e = switch_named xs e
  layout_is_named f c kind.For i xs e = for_named xs e
  layout_is_named f c kind.AssigningRange i xs e = all_held_named l xs e
  layout_is_named f c kind.DefiningRange i xs e = all_held_named l xs e
  layout_is_named f c kind.FunctionDeclaration i xs e = present_named (behind_first xs) (behind_named l xs e)
  layout_is_named f c k i xs e = e
