-- What the reading of a statement leaves as it was: the tag, and right sides where no type is declared.
use Rattle.std.proofs.Common.{◌≡◌, ◌∙◌, ℕ, Bool, true, false, List, [], ◌∷◌, ◌++◌, Option, Some, None, refl, ap}
use Rattle.std.specs.Prelude.{◌&&◌, not, if◌then◌else◌}
use Rattle.go_grammar.specs.declared.kind.Kind.{Kind}
use Rattle.go_grammar.specs.declared.kind.Kind.TheVariants as kind
use Rattle.go_grammar.specs.declared.kind.Sort.TheVariants as declaring
use Rattle.go_grammar.specs.Trees.{Tree, node, Trees, none, more, skip, kind_of}
use Rattle.go_types.specs.Trees.{TypeTree}
use Rattle.go_typed.specs.Trees.{sort_of, form_of, parts_of, list_of}
use Rattle.go_typed.specs.Trees as sort
use Rattle.go_exprs_rules.specs.Scopes.{Hint, value}
use Rattle.go_exprs_rules.specs.Settling.{Part}
use Rattle.go_exprs_rules.specs.Sorts.{Stands}
use Rattle.go_exprs_rules.specs.Tables.{Parts}
use Rattle.go_stmts_defs.specs.Frames.{Frame, rights_of, with_own_right}
use Rattle.go_exprs_rules.specs.TypeNodes.{part_type, entry_types}
use Rattle.go_stmts_defs.specs.Laying.{told, layout, form_by, type_number}
use Rattle.go_stmts_defs.specs.Reading.{Found, Readings, read, all_read, reading, readings, beginning, entering, leaving, back, is_statement, is_new, closed, holding, held_faults, declares_sort, declares_name, declares_all}
use Rattle.go_stmts_defs.specs.Reading.{with_parameter, with_parameters, entry_names, first_parts, signature_results, part_source, right_side, left_out, left_out_faults}
use Rattle.go_stmts_defs.specs.Rules.{own_faults, built_by}
use Rattle.go_stmts_variables.specs.Statements.{tree_in, found_in, frame_in}
use Rattle.go_stmts_variables.specs.Steady.{declares_type, is_typeless, are_typeless}
use Rattle.go_stmts_variables.proofs.Rows.{after_is, frame_behind}

-- ---- tags

own_tag : (o : Option ℕ) (r : Option TypeTree) (s : Frame) → (with_own_right o r s).tag ≡ s.tag
own_tag None r s = refl
own_tag (Some n) r s = refl

sort_tag : (o : Option ℕ) (z : Stands) (s : Frame) → (declares_sort o z s).tag ≡ s.tag
sort_tag None z s = refl
sort_tag (Some n) sort.Nothing s = refl
sort_tag (Some n) z s = refl

name_tag : (x : Option Part) (s : Frame) → (declares_name x s).tag ≡ s.tag
name_tag None s = refl
name_tag (Some x) s = sort_tag (is_new (form_of x)) (sort_of x) s

names_tag : (xs : Parts) (s : Frame) → (declares_all xs s).tag ≡ s.tag
names_tag [] s = refl
names_tag (x ∷ xs) s = names_tag xs (declares_name x s) ∙ name_tag x s

leaving_tag : (k : Kind) (i : ℕ) (ps : Trees) (x : Part) (s : Frame) → (leaving k i ps x s).tag ≡ s.tag
leaving_tag (kind.Specification declaring.Type) i ps x s = own_tag (type_number s i) (right_side (list_of (parts_of x))) s
leaving_tag (kind.Specification declaring.Variable) i ps x s = names_tag (list_of (parts_of x)) s
leaving_tag (kind.Specification declaring.Constant) i ps x s = names_tag (list_of (parts_of x)) (record s { source = part_source ps s.source })
leaving_tag kind.Define i ps x s = names_tag (list_of (parts_of x)) s
leaving_tag kind.DefiningRange i ps x s = names_tag (list_of (parts_of x)) s
leaving_tag k i ps x s = refl

-- a node over parts that were read
abbrev node_over : Frame → Kind → ℕ → ℕ → Parts → Part
node_over s k i j xs = built_by s k (form_by k xs) i j (layout s k i xs) (own_faults s k (form_by k xs) i j (layout s k i xs))

closed_tag : (f : Frame) (k : Kind) (i j : ℕ) (ps : Trees) (r : Readings) → (frame_in (closed f k i j ps r)).tag ≡ f.tag
closed_tag f k i j ps (all_read xs fs s) = leaving_tag k i ps (node_over s k i j xs) (back f s)

-- Behind a statement the tag is that in front of it.
pub reading_tag : (f : Frame) (h : Hint) (x : Tree) → (frame_in (reading f h x)).tag ≡ f.tag
reading_tag f h (node k i j ps) = by (is_statement k)
  where
    by : (b : Bool) → (frame_in (if b then closed f k i j ps (readings (beginning k i f) k h ps [] [] ps) else read (holding f h (node k i j ps)) (held_faults f h (node k i j ps)) f)).tag ≡ f.tag
    by true = closed_tag f k i j ps (readings (beginning k i f) k h ps [] [] ps)
    by false = refl

pub behind_tag : (f : Frame) (ps : Trees) → (frame_behind f ps).tag ≡ f.tag
behind_tag f none = refl
behind_tag f (more p ps) = behind_tag (frame_in (reading f value p)) ps ∙ reading_tag f value p
behind_tag f (skip ps) = behind_tag f ps

-- ---- right sides

sort_rights : (o : Option ℕ) (z : Stands) (s : Frame) → rights_of (declares_sort o z s) ≡ rights_of s
sort_rights None z s = refl
sort_rights (Some n) sort.Nothing s = refl
sort_rights (Some n) z s = refl

name_rights : (x : Option Part) (s : Frame) → rights_of (declares_name x s) ≡ rights_of s
name_rights None s = refl
name_rights (Some x) s = sort_rights (is_new (form_of x)) (sort_of x) s

names_rights : (xs : Parts) (s : Frame) → rights_of (declares_all xs s) ≡ rights_of s
names_rights [] s = refl
names_rights (x ∷ xs) s = names_rights xs (declares_name x s) ∙ name_rights x s

pub leaving_rights : (k : Kind) (i : ℕ) (ps : Trees) (x : Part) (s : Frame) → declares_type k ≡ false → rights_of (leaving k i ps x s) ≡ rights_of s
leaving_rights (kind.Specification declaring.Type) i ps x s e = cc
leaving_rights (kind.Specification declaring.Variable) i ps x s e = names_rights (list_of (parts_of x)) s
leaving_rights (kind.Specification declaring.Constant) i ps x s e = names_rights (list_of (parts_of x)) (record s { source = part_source ps s.source })
leaving_rights kind.Define i ps x s e = names_rights (list_of (parts_of x)) s
leaving_rights kind.DefiningRange i ps x s e = names_rights (list_of (parts_of x)) s
leaving_rights k i ps x s e = refl

parameter_rights : (n : Option ℕ) (t : Option TypeTree) (s : Frame) → rights_of (with_parameter n t s) ≡ rights_of s
parameter_rights None t s = refl
parameter_rights (Some n) None s = refl
parameter_rights (Some n) (Some t) s = refl

parameters_rights : (ns : List (Option ℕ)) (ts : List (Option TypeTree)) (s : Frame) → rights_of (with_parameters ns ts s) ≡ rights_of s
parameters_rights [] ts s = refl
parameters_rights (n ∷ ns) [] s = refl
parameters_rights (n ∷ ns) (t ∷ ts) s = parameters_rights ns ts (with_parameter n t s) ∙ parameter_rights n t s

beginning_rights : (k : Kind) (i : ℕ) (s : Frame) → declares_type k ≡ false → rights_of (beginning k i s) ≡ rights_of s
beginning_rights (kind.Specification declaring.Type) i s e = cc
beginning_rights k i s e = refl

entering_rights : (k : Kind) (xs : Parts) (s : Frame) → rights_of (entering k xs s) ≡ rights_of s
entering_rights (kind.Declaration declaring.Constant) [] s = refl
entering_rights (kind.Declaration declaring.Constant) (x ∷ xs) s = refl
entering_rights (kind.Group declaring.Constant) [] s = refl
entering_rights (kind.Group declaring.Constant) (x ∷ xs) s = refl
entering_rights kind.Switch [] s = refl
entering_rights kind.Switch (x ∷ []) s = refl
entering_rights kind.Switch (x ∷ y ∷ xs) s = refl
entering_rights kind.FunctionDeclaration [] s = refl
entering_rights kind.FunctionDeclaration (g ∷ []) s = parameters_rights (entry_names (first_parts g)) (entry_types (first_parts g)) (record s { results = signature_results s (part_type g) })
entering_rights kind.FunctionDeclaration (g ∷ y ∷ xs) s = refl
entering_rights k xs s = refl

abbrev frame_of : Readings → Frame
frame_of (all_read xs fs s) = s

closed_rights : (f : Frame) (k : Kind) (i j : ℕ) (ps : Trees) (r : Readings) → declares_type k ≡ false → rights_of (frame_in (closed f k i j ps r)) ≡ rights_of (frame_of r)
closed_rights f k i j ps (all_read xs fs s) e = leaving_rights k i ps (node_over s k i j xs) (back f s) e

both_flags : (b c : Bool) → (not b && c) ≡ true → (b ≡ false) × (c ≡ true)
both_flags true c e = cc
both_flags false c e = (refl, e)

two_flags : (b c : Bool) → (b && c) ≡ true → (b ≡ true) × (c ≡ true)
two_flags true c e = (refl, e)
two_flags false c e = cc

node_rights : (f : Frame) (h : Hint) (k : Kind) (i j : ℕ) (ps : Trees) → declares_type k ≡ false → rights_of (frame_of (readings (beginning k i f) k h ps [] [] ps)) ≡ rights_of (beginning k i f) → (b : Bool)
    → rights_of (frame_in (if b then closed f k i j ps (readings (beginning k i f) k h ps [] [] ps) else read (holding f h (node k i j ps)) (held_faults f h (node k i j ps)) f)) ≡ rights_of f
node_rights f h k i j ps d e true = closed_rights f k i j ps (readings (beginning k i f) k h ps [] [] ps) d ∙ e ∙ beginning_rights k i f d
node_rights f h k i j ps d e false = refl

mutual
  -- Where no type is declared in it a statement adds no right side.
  pub reading_rights : (f : Frame) (h : Hint) (x : Tree) → is_typeless x ≡ true → rights_of (frame_in (reading f h x)) ≡ rights_of f
  reading_rights f h (node k i j ps) e =
      let both = both_flags (declares_type k) (are_typeless ps) e in node_rights f h k i j ps both.0 (readings_rights (beginning k i f) k h ps [] [] ps both.1) (is_statement k)

  readings_rights : (f : Frame) (k : Kind) (h : Hint) (all : Trees) (xs : Parts) (fs : Found) (ps : Trees) → are_typeless ps ≡ true → rights_of (frame_of (readings f k h all xs fs ps)) ≡ rights_of f
  readings_rights f k h all xs fs none e = refl
  readings_rights f k h all xs fs (skip ps) e =
      let s = entering k xs f in readings_rights s k h all (xs ++ left_out s k ∷ []) (fs ++ left_out_faults s k) ps e ∙ entering_rights k xs f
  readings_rights f k h all xs fs (more p ps) e =
      let both = two_flags (is_typeless p) (are_typeless ps) e in
      let r = reading (entering k xs f) (told k h all xs (kind_of p)) p in
      ap (λ z. rights_of (frame_of z)) (after_is r (λ x gs t. readings t k h all (xs ++ Some x ∷ []) (fs ++ gs) ps))
      ∙ readings_rights (frame_in r) k h all (xs ++ Some (tree_in r) ∷ []) (fs ++ found_in r) ps both.1
      ∙ reading_rights (entering k xs f) (told k h all xs (kind_of p)) p both.0 ∙ entering_rights k xs f
