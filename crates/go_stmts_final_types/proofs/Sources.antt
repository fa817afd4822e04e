-- What a specification of constants repeats is the rest of one.
use Rattle.std.proofs.Common.{◌≡◌, ℕ, Bool, true, false, cond, [], ◌∷◌, ◌++◌, List, Option, Some, None, refl, sym, subst, ◌∙◌}
use Rattle.go_grammar.specs.declared.kind.Category.{Category}
use Rattle.go_grammar.specs.declared.kind.Category.TheVariants as category
use Rattle.go_grammar.specs.declared.kind.Kind.{Kind}
use Rattle.go_grammar.specs.declared.kind.Kind.TheVariants as kind
use Rattle.go_grammar.specs.declared.kind.Place.{Place}
use Rattle.go_grammar.specs.declared.kind.Sort.TheVariants as declaring
use Rattle.go_grammar.specs.Categories.{place_of}
use Rattle.go_grammar.specs.Grammar.{rule}
use Rattle.go_grammar.specs.Rules.{Rule}
use Rattle.go_grammar.specs.Trees.{Tree, node, Trees, none, more, skip, kind_of}
use Rattle.go_types.specs.Trees.{TypeTree}
use Rattle.go_typed.specs.Trees.{sort_of, form_of, parts_of, list_of}
use Rattle.go_typed.specs.Trees as sort
use Rattle.go_exprs_rules.specs.Scopes.{Hint}
use Rattle.go_exprs_rules.specs.Settling.{Part}
use Rattle.go_exprs_rules.specs.Sorts.{Stands}
use Rattle.go_exprs_rules.specs.Tables.{Parts}
use Rattle.go_exprs_rules.specs.TypeNodes.{entry_types, part_type}
use Rattle.go_stmts_defs.specs.Frames.{Frame, with_own_right}
use Rattle.go_stmts_defs.specs.Laying.{told, local_named, type_number}
use Rattle.go_stmts_defs.specs.Reading.{Found, read, Readings, all_read, reading, readings, entry_names, first_parts, with_parameter, with_parameters, signature_results, in_function, in_switch, in_constants, entering, with_type, beginning, declares_sort, is_new, declares_name, declares_all, part_source, right_side, back, leaving, left_out, left_out_faults, closed, is_statement}
use Rattle.go_stmts_final_types.specs.Shapes.{IsShaped, AreShaped}
use Rattle.go_stmts_final_types.proofs.Reading.{tree_in, found_in, frame_in, frame_all, after_is}
use Rattle.go_stmts_final_types.proofs.RowRules.{front, behind_front, shaped_front, shaped_behind, shaped_skip}

abbrev pub SourceShaped : Option Tree → Type 0
SourceShaped None = Unit {0}
SourceShaped (Some t) = IsShaped category.ConstantRest t

-- ---- what keeps it

parameter_source : (n : Option ℕ) (t : Option TypeTree) (s : Frame) → (with_parameter n t s).source ≡ s.source
parameter_source (Some n) (Some t) s = refl
parameter_source (Some n) None s = refl
parameter_source None t s = refl

parameters_source : (ns : List (Option ℕ)) (ts : List (Option TypeTree)) (s : Frame) → (with_parameters ns ts s).source ≡ s.source
parameters_source [] ts s = refl
parameters_source (n ∷ ns) [] s = refl
parameters_source (n ∷ ns) (t ∷ ts) s = parameters_source ns ts (with_parameter n t s) ∙ parameter_source n t s

function_source : (xs : Parts) (s : Frame) → (in_function xs s).source ≡ s.source
function_source [] s = refl
function_source (g ∷ []) s = parameters_source (entry_names (first_parts g)) (entry_types (first_parts g)) (record s { results = signature_results s (part_type g) })
function_source (g ∷ x ∷ xs) s = refl

switch_source : (xs : Parts) (s : Frame) → (in_switch xs s).source ≡ s.source
switch_source [] s = refl
switch_source (x ∷ []) s = refl
switch_source (x ∷ y ∷ xs) s = refl

sort_source : (o : Option ℕ) (z : Stands) (s : Frame) → (declares_sort o z s).source ≡ s.source
sort_source (Some n) sort.Nothing s = refl
sort_source (Some n) z s = refl
sort_source None z s = refl

name_source : (x : Option Part) (s : Frame) → (declares_name x s).source ≡ s.source
name_source None s = refl
name_source (Some x) s = sort_source (is_new (form_of x)) (sort_of x) s

names_source : (xs : Parts) (s : Frame) → (declares_all xs s).source ≡ s.source
names_source [] s = refl
names_source (x ∷ xs) s = names_source xs (declares_name x s) ∙ name_source x s

right_source : (o : Option ℕ) (t : Option TypeTree) (s : Frame) → (with_own_right o t s).source ≡ s.source
right_source (Some n) t s = refl
right_source None t s = refl

type_source : (o : Option ℕ) (s : Frame) → (with_type o s).source ≡ s.source
type_source (Some n) s = refl
type_source None s = refl

pub beginning_source : (k : Kind) (i : ℕ) (s : Frame) → SourceShaped s.source → SourceShaped (beginning k i s).source
beginning_source (kind.Specification declaring.Type) i s h = subst SourceShaped (sym (type_source (local_named (s.around.objects i)) s)) h
beginning_source k i s h = h

constants_source : (xs : Parts) (s : Frame) → SourceShaped s.source → SourceShaped (in_constants xs s).source
constants_source [] s h = tt
constants_source (x ∷ xs) s h = h

pub entering_source : (k : Kind) (xs : Parts) (s : Frame) → SourceShaped s.source → SourceShaped (entering k xs s).source
entering_source (kind.Declaration declaring.Constant) xs s h = constants_source xs s h
entering_source (kind.Group declaring.Constant) xs s h = constants_source xs s h
entering_source kind.Switch xs s h = subst SourceShaped (sym (switch_source xs s)) h
entering_source kind.FunctionDeclaration xs s h = subst SourceShaped (sym (function_source xs s)) h
entering_source k xs s h = h

repeated_shaped : (p : Place) (ps : Trees) (old : Option Tree) → AreShaped (rule p (kind.Specification declaring.Constant)) ps → SourceShaped old → SourceShaped (part_source ps old)
repeated_shaped p none old w h = h
repeated_shaped p (skip ps) old w h = h
repeated_shaped p (more n none) old w h = h
repeated_shaped p (more n (skip ps)) old w h = h
repeated_shaped p (more n (more r none)) old w h = w.1.0
repeated_shaped p (more n (more r (more q ps))) old w h = h
repeated_shaped p (more n (more r (skip ps))) old w h = h

leaving_source : (p : Place) (k : Kind) (i : ℕ) (ps : Trees) (x : Part) (s : Frame) → AreShaped (rule p k) ps → SourceShaped s.source → SourceShaped (leaving k i ps x s).source
leaving_source p (kind.Specification declaring.Type) i ps x s w h = subst SourceShaped (sym (right_source (type_number s i) (right_side (list_of (parts_of x))) s)) h
leaving_source p (kind.Specification declaring.Variable) i ps x s w h = subst SourceShaped (sym (names_source (list_of (parts_of x)) s)) h
leaving_source p (kind.Specification declaring.Constant) i ps x s w h =
    subst SourceShaped (sym (names_source (list_of (parts_of x)) (record s { source = part_source ps s.source }))) (repeated_shaped p ps s.source w h)
leaving_source p kind.Define i ps x s w h = subst SourceShaped (sym (names_source (list_of (parts_of x)) s)) h
leaving_source p kind.DefiningRange i ps x s w h = subst SourceShaped (sym (names_source (list_of (parts_of x)) s)) h
leaving_source p k i ps x s w h = h

closed_source : (before : Frame) (p : Place) (k : Kind) (i j : ℕ) (ps : Trees) (r : Readings) → AreShaped (rule p k) ps → SourceShaped (frame_all r).source → SourceShaped (frame_in (closed before k i j ps r)).source
closed_source before p k i j ps (all_read xs fs s) w h = leaving_source p k i ps _ (back before s) w h

-- ---- readings

read_by : (s : Frame) (p : Place) (k : Kind) (i j : ℕ) (ps : Trees) (r : Readings) (x : Part) (fs : Found) (b : Bool) → AreShaped (rule p k) ps → SourceShaped s.source → SourceShaped (frame_all r).source → SourceShaped (frame_in (cond b (closed s k i j ps r) (read x fs s))).source
read_by s p k i j ps r x fs true w h g = closed_source s p k i j ps r w g
read_by s p k i j ps r x fs false w h g = h

mutual
  pub reading_source : (s : Frame) (h : Hint) (c : Category) (t : Tree) → IsShaped c t → SourceShaped s.source → SourceShaped (frame_in (reading s h t)).source
  reading_source s h c (node k i j ps) w g =
      read_by s (place_of c) k i j ps (readings (beginning k i s) k h ps [] [] ps) _ _ (is_statement k) w.1 g (readings_source (beginning k i s) k h ps [] [] ps (rule (place_of c) k) w.1 (beginning_source k i s g))

  readings_source : (s : Frame) (k : Kind) (h : Hint) (all : Trees) (xs : Parts) (fs : Found) (ps : Trees) (r : Rule) → AreShaped r ps → SourceShaped s.source → SourceShaped (frame_all (readings s k h all xs fs ps)).source
  readings_source s k h all xs fs none r w g = g
  readings_source s k h all xs fs (more p ps) r w g =
      let t = entering k xs s in
      let q = reading t (told k h all xs (kind_of p)) p in
      let own = reading_source t (told k h all xs (kind_of p)) (front r) p (shaped_front r p ps w) (entering_source k xs s g) in
      subst (λ (z : Readings). SourceShaped (frame_all z).source) (sym (after_is q (λ x gs u. readings u k h all (xs ++ Some x ∷ []) (fs ++ gs) ps)))
      (readings_source (frame_in q) k h all (xs ++ Some (tree_in q) ∷ []) (fs ++ found_in q) ps (behind_front r) (shaped_behind r p ps w) own)
  readings_source s k h all xs fs (skip ps) r w g =
      let t = entering k xs s in readings_source t k h all (xs ++ left_out t k ∷ []) (fs ++ left_out_faults t k) ps (behind_front r) (shaped_skip r ps w) (entering_source k xs s g)
