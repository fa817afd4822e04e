-- Statements over their parts: what parts are told, how they are laid out, and the node that is built.
use Rattle.std.proofs.Common.{ℕ, zero, suc, List, [], ◌∷◌, map, Option, Some, None}
use Rattle.std.specs.Prelude.{take, nat_lt}
use Rattle.go_grammar.specs.declared.kind.Kind.{Kind}
use Rattle.go_grammar.specs.declared.kind.Kind.TheVariants as kind
use Rattle.go_grammar.specs.declared.kind.Sort.TheVariants as declaring
use Rattle.go_grammar.specs.Grammar.{count}
use Rattle.go_grammar.specs.Trees.{Trees}
use Rattle.go_typed.specs.declared.form.Form.{Form}
use Rattle.go_typed.specs.declared.form.Form.TheVariants as form
use Rattle.go_typed.specs.Trees.{typed, form_of, parts_of, list_of}
use Rattle.go_typed.specs.Trees as sort
use Rattle.go_exprs_rules.specs.declared.fault.TypeFault.{TypeFault}
use Rattle.go_exprs_rules.specs.Scopes.{Scope, Hint, value, several, type_place}
use Rattle.go_exprs_rules.specs.Settling.{Part}
use Rattle.go_exprs_rules.specs.Tables.{Parts, held, all_held, first_cut, made}
use Rattle.go_stmts_defs.specs.Assigning.{Taking, takes, stands}
use Rattle.go_stmts_defs.specs.Frames.{Frame, Locals, rights_of}
use Rattle.go_stmts_defs.specs.Laying.{alone_or_value, behind_names, specification_told, first_then, told, new_form, with_form, new_name, type_number, type_sort, is_values, typed_or_not, specification_parts, names_count, specified_names, all_names, is_group, specifications, header_parts, if_parts, switch_parts, loop_header, for_parts, without_absent, layout}
use Rattle.go_stmts_defs.specs.Rules.{taking, given_part, given_optional, all_given, built_by}
use Rattle.go_stmts_limits.specs.Limits.{StandsIsWithin, PartIsWithin, RightsAreWithin}
use Rattle.go_stmts_limits.proofs.Within.{MaybePart, PartsWithin, HintWithin}
use Rattle.go_stmts_limits.proofs.Values.{branch, inner_within, list_within, row_within, given_within}
use Rattle.go_stmts_limits.proofs.Nodes.{append_within, held_within, all_held_within, first_cut_within, behind_within}
use Rattle.go_stmts_limits.proofs.Assigning.{TypesWithin, TakingWithin, TakingsWithin, LocalsWithin, taking_within}

module _ (limit : Scope) where
  -- ---- what a part is told

  alone_within : (ps : Trees) (h : Hint) → HintWithin limit h → HintWithin limit (alone_or_value ps h)
  alone_within ps several w = branch (HintWithin limit) (nat_lt 1 (count ps)) value several tt tt
  alone_within ps h w = w

  names_within : (k : Kind) (h : Hint) → HintWithin limit h → HintWithin limit (behind_names k h)
  names_within kind.TypedValues h w = w
  names_within kind.Values h w = w
  names_within k h w = tt

  specification_within : (h : Hint) (xs : Parts) (k : Kind) → HintWithin limit h → HintWithin limit (specification_told h xs k)
  specification_within h [] k w = tt
  specification_within h (x ∷ xs) k w = names_within k h w

  then_within : (g h : Hint) (xs : Parts) → HintWithin limit g → HintWithin limit h → HintWithin limit (first_then g h xs)
  then_within g h [] v w = v
  then_within g h (x ∷ xs) v w = w

  pub told_within : (n : Kind) (h : Hint) (ps : Trees) (xs : Parts) (k : Kind) → HintWithin limit h → HintWithin limit (told n h ps xs k)
  told_within (kind.Specification declaring.Type) h ps xs k w = tt
  told_within (kind.Specification declaring.Variable) h ps xs k w = specification_within several xs k tt
  told_within (kind.Specification declaring.Constant) h ps xs k w = specification_within value xs k tt
  told_within kind.TypedValues h ps xs k w = then_within type_place h xs tt w
  told_within kind.Values h ps xs k w = w
  told_within kind.ExpressionList h ps xs k w = alone_within ps h w
  told_within kind.Assignment h ps xs k w = then_within _ several xs tt tt
  told_within kind.Define h ps xs k w = then_within _ several xs tt tt
  told_within n h ps xs k w = tt

  -- ---- layouts

  formed_within : (g : Form → Form) (x : Part) → PartIsWithin limit x → PartIsWithin limit (with_form g x)
  formed_within g (typed f i j l ps) w = w

  new_within : (ls : Locals) (x : Option Part) → MaybePart limit x → MaybePart limit (new_name ls x)
  new_within ls None w = tt
  new_within ls (Some x) w = formed_within (new_form ls) x w

  all_new_within : (ls : Locals) (xs : Parts) → PartsWithin limit xs → PartsWithin limit (map (new_name ls) xs)
  all_new_within ls [] w = tt
  all_new_within ls (x ∷ xs) w = (new_within ls x w.0, all_new_within ls xs w.1)

  number_within : (m : Option ℕ) → StandsIsWithin limit (type_sort m)
  number_within None = tt
  number_within (Some m) = tt

  typed_within : (x : Option Part) → MaybePart limit x → PartsWithin limit (typed_or_not x)
  typed_within None w = (tt, tt)
  typed_within (Some x) w = branch (PartsWithin limit) (is_values (Some x)) (None ∷ held (Some x)) (held (Some x)) (tt, held_within limit (Some x) w) (held_within limit (Some x) w)

  specified_within : (xs : Parts) → PartsWithin limit xs → PartsWithin limit (specification_parts xs)
  specified_within (ns ∷ x ∷ []) w =
      append_within limit (held ns) (first_cut (typed_or_not x)) (held_within limit ns w.0) (first_cut_within limit (typed_or_not x) (typed_within x w.1.0))
  specified_within xs w = w

  first_within : (n : ℕ) (xs : Parts) → PartsWithin limit xs → PartsWithin limit (take n xs)
  first_within zero xs w = tt
  first_within (suc n) [] w = tt
  first_within (suc n) (x ∷ xs) w = (w.0, first_within n xs w.1)

  inner_list : (x : Part) → PartIsWithin limit x → PartsWithin limit (list_of (parts_of x))
  inner_list x w = list_within limit (parts_of x) (inner_within limit x w)

  one_names_within : (x : Option Part) → MaybePart limit x → PartsWithin limit (specified_names x)
  one_names_within None w = tt
  one_names_within (Some x) w = first_within (names_count (form_of x)) (list_of (parts_of x)) (inner_list x w)

  all_names_within : (xs : Parts) → PartsWithin limit xs → PartsWithin limit (all_names xs)
  all_names_within [] w = tt
  all_names_within (x ∷ xs) w = append_within limit (specified_names x) (all_names xs) (one_names_within x w.0) (all_names_within xs w.1)

  group_within : (xs : Parts) → PartsWithin limit xs → PartsWithin limit (specifications xs)
  group_within (Some x ∷ []) w = branch (PartsWithin limit) (is_group (form_of x)) (list_of (parts_of x)) (Some x ∷ []) (inner_list x w.0) w
  group_within xs w = w

  header_within : (x : Option Part) → MaybePart limit x → PartsWithin limit (header_parts x)
  header_within (Some (typed (form.Held kind.LateCondition) i j l ps)) w = (tt, list_within limit ps w.1)
  header_within (Some (typed (form.Held kind.LateTag) i j l ps)) w = (tt, list_within limit ps w.1)
  header_within (Some (typed (form.Held kind.InitializedCondition) i j l ps)) w = list_within limit ps w.1
  header_within (Some (typed (form.Held kind.InitializedTag) i j l ps)) w = list_within limit ps w.1
  header_within x w = (tt, (w, tt))

  if_within : (xs : Parts) → PartsWithin limit xs → PartsWithin limit (if_parts xs)
  if_within (h ∷ b ∷ e ∷ []) w = append_within limit (header_parts h) (b ∷ held e) (header_within h w.0) (w.1.0, held_within limit e w.1.1.0)
  if_within xs w = w

  switch_within : (xs : Parts) → PartsWithin limit xs → PartsWithin limit (switch_parts xs)
  switch_within [] w = tt
  switch_within (h ∷ xs) w = append_within limit (header_parts h) xs (header_within h w.0) w.1

  loop_header_within : (x : Option Part) → MaybePart limit x → PartsWithin limit (loop_header x)
  loop_header_within (Some (typed (form.Held kind.ForClause) i j l ps)) w = (tt, list_within limit ps w.1)
  loop_header_within (Some (typed (form.Held k) i j l ps)) w = list_within limit ps w.1
  loop_header_within x w = (tt, (w, (tt, tt)))

  for_within : (xs : Parts) → PartsWithin limit xs → PartsWithin limit (for_parts xs)
  for_within [] w = tt
  for_within (h ∷ xs) w = append_within limit (loop_header h) xs (loop_header_within h w.0) w.1

  absent_within : (xs : Parts) → PartsWithin limit xs → PartsWithin limit (without_absent xs)
  absent_within [] w = tt
  absent_within (None ∷ xs) w = absent_within xs w.1
  absent_within (Some x ∷ xs) w = (w.0, absent_within xs w.1)

  pub layout_within : (s : Frame) (k : Kind) (i : ℕ) (xs : Parts) → PartsWithin limit xs → PartsWithin limit (layout s k i xs)
  layout_within s kind.Targets i xs w = all_held_within limit xs w
  layout_within s kind.NewNames i xs w = all_new_within s.locals (all_held xs) (all_held_within limit xs w)
  layout_within s kind.Values i xs w = all_held_within limit xs w
  layout_within s kind.TypedValues i xs w = all_held_within limit xs w
  layout_within s (kind.Specification declaring.Type) i xs w = ((number_within (type_number s i), tt), w)
  layout_within s (kind.Specification declaring.Variable) i xs w = specified_within xs w
  layout_within s (kind.Specification declaring.Constant) i xs w = specified_within xs w
  layout_within s (kind.Declaration declaring.Variable) i xs w = group_within xs w
  layout_within s (kind.Declaration declaring.Constant) i xs w = all_names_within (specifications xs) (group_within xs w)
  layout_within s (kind.Declaration declaring.Type) i xs w = all_names_within (specifications xs) (group_within xs w)
  layout_within s kind.Assignment i xs w = all_held_within limit xs w
  layout_within s kind.Define i xs w = all_held_within limit xs w
  layout_within s kind.Case i xs w = all_held_within limit xs w
  layout_within s kind.Return i xs w = absent_within (all_held xs) (all_held_within limit xs w)
  layout_within s kind.If i xs w = if_within xs w
  layout_within s kind.Switch i xs w = switch_within xs w
  layout_within s kind.For i xs w = for_within xs w
  layout_within s kind.AssigningRange i xs w = all_held_within limit xs w
  layout_within s kind.DefiningRange i xs w = all_held_within limit xs w
  layout_within s kind.FunctionDeclaration i xs w = absent_within _ (behind_within limit xs w)
  layout_within s k i xs w = w

  -- ---- what parts take

  given_part_within : (k : Taking) (x : Part) → TakingWithin limit k → PartIsWithin limit x → PartIsWithin limit (given_part k x)
  given_part_within (takes k) x w v = given_within limit k w x v
  given_part_within (stands y) (typed f i j l ps) w v = (w, v.1)

  given_optional_within : (k : Taking) (x : Option Part) → TakingWithin limit k → MaybePart limit x → MaybePart limit (given_optional k x)
  given_optional_within k None w v = tt
  given_optional_within k (Some x) w v = given_part_within k x w v

  all_given_within : (ks : List Taking) (ys : Parts) → TakingsWithin limit ks → PartsWithin limit ys → PartsWithin limit (all_given ks ys)
  all_given_within (k ∷ ks) (y ∷ ys) w v = (given_optional_within k y w.0 v.0, all_given_within ks ys w.1 v.1)
  all_given_within [] ys w v = v
  all_given_within (k ∷ ks) [] w v = tt

  pub made_within : (f : Form) (i j : ℕ) (ys zs : Parts) → PartsWithin limit zs → PartIsWithin limit (made f i j sort.Nothing ys zs)
  made_within f i j ys zs w = (tt, row_within limit zs w)

module _ (limit : Scope) (s : Frame) (a : RightsAreWithin limit (rights_of s)) (ls : LocalsWithin limit s.locals) (tag : StandsIsWithin limit s.tag) (rs : TypesWithin limit s.results) where
  pub built_within : (k : Kind) (f : Form) (i j : ℕ) (ys : Parts) (own : List TypeFault) → PartsWithin limit ys → PartIsWithin limit (built_by s k f i j ys own)
  built_within k f i j ys [] w = made_within limit f i j ys (all_given (taking s k f ys) ys) (all_given_within limit (taking s k f ys) ys (taking_within limit s a ls tag rs k f ys w) w)
  built_within k f i j ys (e ∷ es) w = made_within limit f i j ys ys w
