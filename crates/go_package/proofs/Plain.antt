-- A specification of variables leaves the right sides as they are.
use Rattle.std.proofs.Common.{◌≡◌, ℕ, false, List, [], ◌∷◌, ◌++◌, Option, Some, None, refl, ap, ◌∙◌}
use Rattle.std.specs.Prelude.{if◌then◌else◌}
use Rattle.go_grammar.specs.declared.kind.Kind.{Kind}
use Rattle.go_grammar.specs.declared.kind.Kind.TheVariants as kind
use Rattle.go_grammar.specs.declared.kind.Sort.TheVariants as declaring
use Rattle.go_grammar.specs.Trees.{Tree, node, Trees, none, more, skip, kind_of}
use Rattle.go_typed.specs.Trees as sort
use Rattle.go_typed.specs.Trees.{form_of, sort_of, parts_of, list_of}
use Rattle.go_typed.specs.declared.form.Form.{Form}
use Rattle.go_exprs_rules.specs.declared.fault.TypeFault.{TypeFault}
use Rattle.go_exprs_rules.specs.Scopes.{Hint}
use Rattle.go_exprs_rules.specs.Sorts.{Stands}
use Rattle.go_exprs_rules.specs.Tables.{Parts}
use Rattle.go_exprs_rules.specs.Settling.{Part}
use Rattle.go_stmts_defs.specs.Bodies.{based, all_based}
use Rattle.go_stmts_defs.specs.Frames.{Frame}
use Rattle.go_stmts_defs.specs.Laying.{told, layout, form_by}
use Rattle.go_stmts_defs.specs.Rules.{own_faults, built_by}
use Rattle.go_stmts_defs.specs.Reading.{Found, read, Readings, all_read, reading, readings, after, completed, closed_on, closed}
use Rattle.go_stmts_defs.specs.Reading.{back, beginning, holding, held_faults, is_statement, is_new, declares_sort, declares_name, declares_all, left_out, left_out_faults}
use Rattle.go_stmts.specs.Bodies.{frame_in, frame_behind}
use Rattle.go_package.specs.Functions.{ArePlain, IsPlain}

-- ---- what is declared behind it

sort_rights : (o : Option ℕ) (x : Stands) (s : Frame) → (declares_sort o x s).around.rights ≡ s.around.rights
sort_rights None x s = refl
sort_rights (Some n) sort.Nothing s = refl
sort_rights (Some n) x s = refl

name_rights : (o : Option Part) (s : Frame) → (declares_name o s).around.rights ≡ s.around.rights
name_rights None s = refl
name_rights (Some x) s = sort_rights (is_new (form_of x)) (sort_of x) s

all_rights : (xs : Parts) (s : Frame) → (declares_all xs s).around.rights ≡ s.around.rights
all_rights [] s = refl
all_rights (x ∷ xs) s = all_rights xs (declares_name x s) ∙ name_rights x s

-- ---- its parts

reading_plain : (s : Frame) (h : Hint) (p : Tree) → is_statement (kind_of p) ≡ false → reading s h p ≡ read (holding s h p) (held_faults s h p) s
reading_plain s h (node k i j ps) e =
    ap (λ b. if b then closed s k i j ps (readings (beginning k i s) k h ps [] [] ps) else read (holding s h (node k i j ps)) (held_faults s h (node k i j ps)) s) e

abbrev variables : Kind
variables = kind.Specification declaring.Variable

readings_plain : (s : Frame) (h : Hint) (all : Trees) (xs : Parts) (fs : Found) (ps : Trees) → ArePlain ps → frame_behind (readings s variables h all xs fs ps) ≡ s
readings_plain s h all xs fs none p = refl
readings_plain s h all xs fs (more q ps) p =
    let g = told variables h all xs (kind_of q) in
    ap (λ r. frame_behind (after r (λ x gs t. readings t variables h all (xs ++ Some x ∷ []) (fs ++ gs) ps))) (reading_plain s g q p.0)
    ∙ readings_plain s h all (xs ++ Some (holding s g q) ∷ []) (fs ++ held_faults s g q) ps p.1
readings_plain s h all xs fs (skip ps) p = readings_plain s h all (xs ++ left_out s variables ∷ []) (fs ++ left_out_faults s variables) ps p

completed_rights : (before s : Frame) (i : ℕ) (ps : Trees) (x : Part) (fs : Found) (own : List TypeFault) → (frame_in (completed before variables i ps x fs own s)).around.rights ≡ s.around.rights
completed_rights before s i ps x fs own = all_rights (list_of (parts_of x)) (back before s)

over_rights : (before s : Frame) (f : Form) (i j : ℕ) (ps : Trees) (ys : Parts) (fs : Found) (own : List TypeFault) → (frame_in (closed_on before variables f i j ps ys fs own s)).around.rights ≡ s.around.rights
over_rights before s f i j ps ys fs own = completed_rights before s i ps (built_by s variables f i j ys own) fs own

closed_rights : (before : Frame) (i j : ℕ) (ps : Trees) (r : Readings) → (frame_in (closed before variables i j ps r)).around.rights ≡ (frame_behind r).around.rights
closed_rights before i j ps (all_read xs fs s) =
    let f = form_by variables xs in
    let ys = layout s variables i xs in
    over_rights before s f i j ps ys fs (own_faults s variables f i j ys)

pub plain_rights : (s : Frame) (h : Hint) (t : Tree) → IsPlain (Some t) → (frame_in (reading s h t)).around.rights ≡ s.around.rights
plain_rights s h (node (kind.Specification declaring.Variable) i j ps) p =
    closed_rights s i j ps (readings s variables h ps [] [] ps) ∙ ap (λ (f : Frame). f.around.rights) (readings_plain s h ps [] [] ps p)
plain_rights s h (node k i j ps) p = absurd p

-- ---- by its first token

kind_based : (b : ℕ) (p : Tree) → kind_of (based b p) ≡ kind_of p
kind_based b (node k i j ps) = refl

parts_based : (b : ℕ) (ps : Trees) → ArePlain ps → ArePlain (all_based b ps)
parts_based b none h = tt
parts_based b (more p ps) h = (ap is_statement (kind_based b p) ∙ h.0, parts_based b ps h.1)
parts_based b (skip ps) h = parts_based b ps h

pub based_plain : (b : ℕ) (t : Tree) → IsPlain (Some t) → IsPlain (Some (based b t))
based_plain b (node (kind.Specification declaring.Variable) i j ps) h = parts_based b ps h
based_plain b (node k i j ps) h = absurd h
