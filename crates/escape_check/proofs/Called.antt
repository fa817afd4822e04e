-- Statements in which a call takes the place of a window, by their forms and their parts.
use Rattle.std.proofs.Common.{◌≡◌, ◌∙◌, ℕ, Bool, true, false, List, [], ◌∷◌, length, ◌≤◌, map, Option, Some, None, refl, sym, ap, arith}
use Rattle.std.specs.Prelude.{◌&&◌, ◌||◌, not, nat_eq, nat_lt, if◌then◌else◌}
use Rattle.std.specs.List.{list_all, list_any}
use Rattle.std.specs.Option.{option_map}
use Rattle.go_types.specs.Tables.{Table, type_of}
use Rattle.go_types.specs.Trees.{TypeTree, row}
use Rattle.go_typed.specs.declared.node.TypedNode.{TypedNode}
use Rattle.go_typed.specs.declared.form.Form.{Form}
use Rattle.go_typed.specs.declared.form.Form.TheVariants as form
use Rattle.go_typed.specs.Forms.{is_default, is_function, is_statement_list}
use Rattle.go_typed.specs.Trees.{Sort, Nothing, Unknown, Blank, Nil, Builtin, Println, Package, IsType, Value, Constant, Open, OpenConstant, Results}
use Rattle.go_typed.specs.Trees.{Typed, typed, Typeds, none, more, skip, first_of, form_of, sort_of, parts_of, list_of, mapped}
use Rattle.go_typed.specs.Views.{seen, view}
use Rattle.go_exprs_rules.specs.Names.{is_row_empty}
use Rattle.go_exprs_rules.specs.Tables.{on_one}
use Rattle.go_stmts_defs.specs.Targets.{is_panic, is_panic_call}
use Rattle.go_stmts_defs.specs.Ending.{any_breaks, breaks, clauses_end, branches_end, is_default_clause, is_fallthrough, is_fallthrough_part, last_flag, last_falls, loop_ends, part_breaks, terminates, which_terminate}
use Rattle.go_stmts_defs.specs.Rows.{all_clauses_end, both_branches, first_there, last_ends, part_ends}
use Rattle.extract_trees.specs.Filled.{all_filled, row_with}
use Rattle.extract_trees.specs.Numberings.{form_numbered, sort_numbered}
use Rattle.escape_check.specs.declared.ends.Gap.{Gap as Found}
use Rattle.escape_check.specs.Endings.{body_terminates, call_statement, tree_terminates, unchanged}
use Rattle.escape_check.specs.Called.{gap_view, called, all_called, staying, last_or, breaks_over, keyed_value, panic_over, panic_call_over, ends_over, body_over}

abbrev Part : Type 0
Part = Typed TypeTree

abbrev Parts : Type 0
Parts = List (Option Part)

-- ---- forms and sorts

form_same : (f : Form) → form_numbered unchanged f ≡ f
form_same (form.Local n) = refl
form_same (form.New n) = refl
form_same (form.Declared n) = refl
form_same (form.Object r) = refl
form_same f = refl

form_called : (g : Found) (x : Part) → form_of (called g x) ≡ form_of x
form_called g (typed f i j l ps) = form_same f

panic_same : (s : Sort TypeTree) → is_panic (sort_numbered unchanged s) ≡ is_panic s
panic_same Nothing = refl
panic_same Unknown = refl
panic_same Blank = refl
panic_same Nil = refl
panic_same (Builtin b) = refl
panic_same Println = refl
panic_same Package = refl
panic_same (IsType t) = refl
panic_same (Value t) = refl
panic_same (Constant t c) = refl
panic_same (Open u) = refl
panic_same (OpenConstant c) = refl
panic_same (Results t) = refl

-- ---- rows

any_by : (ps : Typeds TypeTree) → any_breaks ps ≡ list_any part_breaks (list_of ps)
any_by none = refl
any_by (more p ps) = ap (λ b. breaks p || b) (any_by ps)
any_by (skip ps) = any_by ps

flags : (ps : Typeds TypeTree) → which_terminate ps ≡ map part_ends (list_of ps)
flags none = refl
flags (more p ps) = ap (λ bs. terminates p ∷ bs) (flags ps)
flags (skip ps) = ap (λ bs. false ∷ bs) (flags ps)

any_flag : (q : Option Part → Bool) (xs : Parts) → list_any q xs ≡ list_any (λ b. b) (map q xs)
any_flag q [] = refl
any_flag q (x ∷ xs) = ap (λ b. q x || b) (any_flag q xs)

last_by : (xs : Parts) → last_flag (map part_ends xs) ≡ last_ends xs
last_by [] = refl
last_by (x ∷ []) = refl
last_by (x ∷ y ∷ xs) = last_by (y ∷ xs)

falls_by : (xs : Parts) → last_flag (map is_fallthrough_part xs) ≡ last_falls xs
falls_by [] = refl
falls_by (x ∷ []) = refl
falls_by (x ∷ y ∷ xs) = falls_by (y ∷ xs)

branches_by : (xs : Parts) → branches_end (map part_ends xs) ≡ both_branches xs
branches_by [] = refl
branches_by (a ∷ []) = refl
branches_by (a ∷ b ∷ []) = refl
branches_by (a ∷ b ∷ c ∷ []) = refl
branches_by (a ∷ b ∷ c ∷ d ∷ []) = refl
branches_by (a ∷ b ∷ c ∷ d ∷ e ∷ xs) = refl

all_by : (xs : Parts) → list_all (λ b. b) (map part_ends xs) ≡ list_all part_ends xs
all_by [] = refl
all_by (x ∷ xs) = ap (λ b. part_ends x && b) (all_by xs)

clauses_by : (xs : Parts) → clauses_end xs (map part_ends xs) ≡ all_clauses_end xs
clauses_by [] = refl
clauses_by (a ∷ []) = refl
clauses_by (a ∷ t ∷ xs) = ap (λ b. list_any is_default_clause xs && not (list_any part_breaks xs) && b) (all_by xs)

module _ (g : Found) where
  abbrev filled_row : Bool → ℕ → Typeds TypeTree → Typeds TypeTree
  filled_row b u ps = all_filled unchanged (gap_view g ∷ []) b u ps

  -- of a node that is no statement list
  plain : (ps : Typeds TypeTree) → list_of (filled_row false 0 ps) ≡ all_called g (list_of ps)
  plain none = refl
  plain (more p ps) = ap (λ xs. Some (called g p) ∷ xs) (plain ps)
  plain (skip ps) = ap (λ xs. None ∷ xs) (plain ps)

  -- of a statement list, for a test that takes the call as a part that is left out
  module _ (q : Option Part → Bool) (e : q (Some (call_statement g.from g.upto)) ≡ q None) where
    abbrev tested : Typeds TypeTree → List Bool
    tested ps = map q (list_of ps)

    abbrev left : Parts → List Bool
    left xs = map q (all_called g xs)

    one : (b at : Bool) (p : Part) (u : ℕ) (R : ℕ → Typeds TypeTree) (S : ℕ → Parts) → ((v : ℕ) → tested (R v) ≡ left (S v)) →
        tested (if b then R u else row_with (if at then Some (gap_view g) else None) (called g p) u R) ≡ left (if b then S u else (if at then None ∷ S g.upto else Some p ∷ S u))
    one true at p u R S h = h u
    one false true p u R S h = ap (λ y. y ∷ tested (R g.upto)) e ∙ ap (λ ys. q None ∷ ys) (h g.upto)
    one false false p u R S h = ap (λ ys. q (Some (called g p)) ∷ ys) (h u)

    stays : (u : ℕ) (ps : Typeds TypeTree) → tested (filled_row true u ps) ≡ left (staying g u (list_of ps))
    stays u none = refl
    stays u (skip ps) = ap (λ ys. q None ∷ ys) (stays u ps)
    stays u (more p ps) = one (nat_lt (first_of p) u) (nat_eq g.from (first_of p)) p u (λ v. filled_row true v ps) (λ v. staying g v (list_of ps)) (λ v. stays v ps)

  list_breaks : (ps : Typeds TypeTree) → any_breaks (filled_row true 0 ps) ≡ list_any part_breaks (all_called g (staying g 0 (list_of ps)))
  list_breaks ps =
      any_by (filled_row true 0 ps)
      ∙ any_flag part_breaks (list_of (filled_row true 0 ps))
      ∙ ap (list_any (λ b. b)) (stays part_breaks refl 0 ps)
      ∙ sym (any_flag part_breaks (all_called g (staying g 0 (list_of ps))))

  list_ends : (ps : Typeds TypeTree) → last_flag (which_terminate (filled_row true 0 ps)) ≡ last_ends (all_called g (staying g 0 (list_of ps)))
  list_ends ps = ap last_flag (flags (filled_row true 0 ps) ∙ stays part_ends refl 0 ps) ∙ last_by (all_called g (staying g 0 (list_of ps)))

  list_falls : (ps : Typeds TypeTree) → last_falls (list_of (filled_row true 0 ps)) ≡ last_falls (all_called g (staying g 0 (list_of ps)))
  list_falls ps =
      sym (falls_by (list_of (filled_row true 0 ps))) ∙ ap last_flag (stays is_fallthrough_part refl 0 ps) ∙ falls_by (all_called g (staying g 0 (list_of ps)))

  plain_flags : (ps : Typeds TypeTree) → which_terminate (filled_row false 0 ps) ≡ map part_ends (all_called g (list_of ps))
  plain_flags ps = flags (filled_row false 0 ps) ∙ ap (map part_ends) (plain ps)

-- ---- nodes

pub breaks_by : (g : Found) (x : Part) → breaks (called g x) ≡ breaks_over g (form_of x) (list_of (parts_of x))
breaks_by g (typed form.Block i j l ps) = list_breaks g ps
breaks_by g (typed (form.Case n) i j l ps) = list_breaks g ps
breaks_by g (typed form.Default i j l ps) = list_breaks g ps
breaks_by g (typed form.If i j l ps) = any_by (filled_row g false 0 ps) ∙ ap (list_any part_breaks) (plain g ps)
breaks_by g x = refl

pub panic_by : (g : Found) (x : Part) → is_panic (sort_of (called g x)) ≡ panic_over g (sort_of x) (keyed_value x)
panic_by g (typed (form.Keyed n) i j l none) = panic_same l.sort
panic_by g (typed (form.Keyed n) i j l (more p ps)) = refl
panic_by g (typed (form.Keyed n) i j l (skip ps)) = panic_same l.sort
panic_by g (typed f i j l ps) = panic_same l.sort

pub panic_call_by : (g : Found) (x : Part) → is_panic_call (called g x) ≡ panic_call_over g (form_of x) (first_there (list_of (parts_of x)))
panic_call_by g (typed form.Parenthesized i j l none) = refl
panic_call_by g (typed form.Parenthesized i j l (more p ps)) = refl
panic_call_by g (typed form.Parenthesized i j l (skip ps)) = refl
panic_call_by g (typed form.Call i j l none) = refl
panic_call_by g (typed form.Call i j l (more p ps)) = refl
panic_call_by g (typed form.Call i j l (skip ps)) = refl
panic_call_by g (typed f i j l none) = refl
panic_call_by g (typed f i j l (more p ps)) = refl
panic_call_by g (typed f i j l (skip ps)) = refl

pub terminates_by : (g : Found) (x : Part) → terminates (called g x) ≡ ends_over g (form_of x) (list_of (parts_of x))
terminates_by g (typed form.Expression i j l ps) = ap (on_one false is_panic_call) (plain g ps)
terminates_by g (typed form.Block i j l ps) = list_ends g ps
terminates_by g (typed form.If i j l ps) = ap branches_end (plain_flags g ps) ∙ branches_by (all_called g (list_of ps))
terminates_by g (typed form.For i j l ps) = ap loop_ends (plain g ps)
terminates_by g (typed form.Switch i j l ps) =
    ap (λ bs. clauses_end (list_of (filled_row g false 0 ps)) bs) (plain_flags g ps)
    ∙ ap (λ xs. clauses_end xs (map part_ends (all_called g (list_of ps)))) (plain g ps)
    ∙ clauses_by (all_called g (list_of ps))
terminates_by g (typed (form.Case n) i j l ps) =
    ap (λ b. b || last_falls (list_of (filled_row g true 0 ps))) (list_ends g ps) ∙ ap (λ b. last_ends (all_called g (staying g 0 (list_of ps))) || b) (list_falls g ps)
terminates_by g (typed form.Default i j l ps) =
    ap (λ b. b || last_falls (list_of (filled_row g true 0 ps))) (list_ends g ps) ∙ ap (λ b. last_ends (all_called g (staying g 0 (list_of ps))) || b) (list_falls g ps)
terminates_by g x = refl

-- ---- single parts

pub default_by : (g : Found) (x : Option Part) → is_default_clause (option_map (called g) x) ≡ is_default_clause x
default_by g None = refl
default_by g (Some x) = ap is_default (form_called g x)

falls_same : (g : Found) (x : Option Part) → is_fallthrough_part (option_map (called g) x) ≡ is_fallthrough_part x
falls_same g None = refl
falls_same g (Some x) = ap is_fallthrough (form_called g x)

pub ends_last : (g : Found) (xs : Parts) → last_ends (all_called g xs) ≡ part_ends (option_map (called g) (last_or None xs))
ends_last g [] = refl
ends_last g (x ∷ []) = refl
ends_last g (x ∷ y ∷ xs) = ends_last g (y ∷ xs)

pub falls_last : (g : Found) (xs : Parts) → last_falls (all_called g xs) ≡ is_fallthrough_part (last_or None xs)
falls_last g [] = refl
falls_last g (x ∷ []) = falls_same g x
falls_last g (x ∷ y ∷ xs) = falls_last g (y ∷ xs)

-- the body of a function
row_terminates : (g : Found) (ps : Typeds TypeTree) → body_terminates (filled_row g false 0 ps) ≡ body_over g (first_there (list_of ps))
row_terminates g none = refl
row_terminates g (more p ps) = refl
row_terminates g (skip ps) = refl

list_or_not : (g : Found) (f : Form) (ps : Typeds TypeTree) → is_function f ≡ true → body_terminates (filled_row g (is_statement_list f) 0 ps) ≡ body_over g (first_there (list_of ps))
list_or_not g form.Function ps e = row_terminates g ps
list_or_not g f ps e = cc

body_of : (g : Found) (x : Part) → is_function (form_of x) ≡ true → tree_terminates (called g x) ≡ body_over g (first_there (list_of (parts_of x)))
body_of g (typed f i j l ps) e = list_or_not g f ps e

form_mapped : (h : ℕ → TypeTree) (x : Typed ℕ) → form_of (mapped h x) ≡ form_of x
form_mapped h (typed f i j l ps) = refl

pub body_by : (t : Table) (g : Found) (n : TypedNode) → is_function (form_of (view n)) ≡ true → tree_terminates (called g (seen t n)) ≡ body_over g (first_there (list_of (parts_of (seen t n))))
body_by t g n e = body_of g (seen t n) (ap is_function (form_mapped (type_of t.shapes) (view n)) ∙ e)

-- ---- results

pub row_not_empty : (f : ℕ → TypeTree) (rs : List ℕ) → 1 ≤ length rs → is_row_empty (row (map f rs)) ≡ false
row_not_empty f [] h = absurd (omega (arith, h))
row_not_empty f (r ∷ rs) h = refl
