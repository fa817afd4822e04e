-- The tests of statements by the rows of their parts.
use Rattle.std.proofs.Common.{◌≡◌, List, [], ◌∷◌, ◌++◌, map, Option, None, Bool, true, false, cond, refl, ap, ◌∙◌}
use Rattle.std.specs.Prelude.{◌&&◌, ◌||◌, not}
use Rattle.std.specs.List.{list_any, list_all}
use Rattle.std.specs.Option.{option_map}
use Rattle.go_types.specs.Trees.{TypeTree}
use Rattle.go_types.specs.Relations.{Rights}
use Rattle.go_typed.specs.declared.form.Form.TheVariants as form
use Rattle.go_typed.specs.Trees.{typed, Typeds, none, more, skip, form_of, sort_of, parts_of, list_of}
use Rattle.go_exprs_rules.specs.Settling.{Part}
use Rattle.go_exprs_rules.specs.Sorts.{Stands}
use Rattle.go_exprs_rules.specs.Tables.{Parts, is_call, is_variable_name, on_first}
use Rattle.go_stmts_defs.specs.Targets.{is_variable, bare, is_panic, acts, callee_passes, is_statement_call, is_panic_call}
use Rattle.go_stmts_defs.specs.Ending.{is_break, lets_break, breaks, any_breaks, part_breaks, last_flag, last_falls, is_default_clause, branches_end, clauses_end, ends, which_terminate, terminates, is_fallthrough_part}
use Rattle.go_stmts_defs.specs.Rows.{first_there, varies_by_first, inner_or, is_parenthesized, callee_of, passes, part_ends, last_ends, both_branches, all_clauses_end, ends_over}

pub variable_by : (rights : Rights) (x : Part) → is_variable rights x ≡ (is_variable_name (form_of x) (sort_of x) || varies_by_first rights (form_of x) (first_there (list_of (parts_of x))))
variable_by rights (typed f i j l none) = refl
variable_by rights (typed f i j l (more p ps)) = refl
variable_by rights (typed f i j l (skip ps)) = refl

pub bare_by : (x : Part) → bare x ≡ cond (is_parenthesized (form_of x)) (inner_or x (first_there (list_of (parts_of x)))) x
bare_by (typed form.Parenthesized i j l none) = refl
bare_by (typed form.Parenthesized i j l (more p ps)) = refl
bare_by (typed form.Parenthesized i j l (skip ps)) = refl
bare_by x = refl

passes_by : (g : Stands → Bool) (b : Bool) (ps : Typeds TypeTree) → (b && on_first false (λ c xs. g (sort_of c)) (list_of ps)) ≡ passes g (cond b (option_map sort_of (first_there (list_of ps))) None)
passes_by g true none = refl
passes_by g true (more p ps) = refl
passes_by g true (skip ps) = refl
passes_by g false ps = refl

callee_by : (g : Stands → Bool) (x : Part) → callee_passes g x ≡ passes g (callee_of x)
callee_by g (typed f i j l ps) = passes_by g (is_call f) ps

pub statement_call_by : (x : Part) → is_statement_call x ≡ passes acts (callee_of (bare x))
statement_call_by x = callee_by acts (bare x)

pub panic_call_by : (x : Part) → is_panic_call x ≡ passes is_panic (callee_of (bare x))
panic_call_by x = callee_by is_panic (bare x)

-- ---- breaks

any_by : (ps : Typeds TypeTree) → any_breaks ps ≡ list_any part_breaks (list_of ps)
any_by none = refl
any_by (more p ps) = ap (λ b. breaks p || b) (any_by ps)
any_by (skip ps) = any_by ps

pub breaks_by : (x : Part) → breaks x ≡ (is_break (form_of x) || (lets_break (form_of x) && list_any part_breaks (list_of (parts_of x))))
breaks_by (typed f i j l ps) = ap (λ b. is_break f || (lets_break f && b)) (any_by ps)

-- ---- terminating statements

flags : (ps : Typeds TypeTree) → which_terminate ps ≡ map part_ends (list_of ps)
flags none = refl
flags (more p ps) = ap (λ bs. terminates p ∷ bs) (flags ps)
flags (skip ps) = ap (λ bs. false ∷ bs) (flags ps)

last_by : (xs : Parts) → last_flag (map part_ends xs) ≡ last_ends xs
last_by [] = refl
last_by (x ∷ []) = refl
last_by (x ∷ y ∷ xs) = last_by (y ∷ xs)

branches_by : (xs : Parts) → branches_end (map part_ends xs) ≡ both_branches xs
branches_by [] = refl
branches_by (a ∷ []) = refl
branches_by (a ∷ b ∷ []) = refl
branches_by (a ∷ b ∷ c ∷ []) = refl
branches_by (a ∷ b ∷ c ∷ d ∷ []) = refl
branches_by (a ∷ b ∷ c ∷ d ∷ e ∷ xs) = refl

all_by : (xs : Parts) → list_all (λ b. b) (map part_ends xs) ≡ list_all part_ends xs
all_by [] = refl
all_by (x ∷ xs) = ap (λ b. part_ends x && b) (all_by xs)

clauses_by : (xs : Parts) → clauses_end xs (map part_ends xs) ≡ all_clauses_end xs
clauses_by [] = refl
clauses_by (a ∷ []) = refl
clauses_by (a ∷ t ∷ xs) = ap (λ b. list_any is_default_clause xs && not (list_any part_breaks xs) && b) (all_by xs)

ends_by : (x : Part) → ends (form_of x) (list_of (parts_of x)) (map part_ends (list_of (parts_of x))) ≡ ends_over (form_of x) (list_of (parts_of x))
ends_by (typed form.Block i j l ps) = last_by (list_of ps)
ends_by (typed form.If i j l ps) = branches_by (list_of ps)
ends_by (typed form.Switch i j l ps) = clauses_by (list_of ps)
ends_by (typed (form.Case n) i j l ps) = ap (λ b. b || last_falls (list_of ps)) (last_by (list_of ps))
ends_by (typed form.Default i j l ps) = ap (λ b. b || last_falls (list_of ps)) (last_by (list_of ps))
ends_by x = refl

pub terminates_by : (x : Part) → terminates x ≡ ends_over (form_of x) (list_of (parts_of x))
terminates_by (typed f i j l ps) = ap (ends f (list_of ps)) (flags ps) ∙ ends_by (typed f i j l ps)

-- ---- the last of some parts

module _ {A : Type 0} (f : A → Option Part) where
  pub falls_last : (ns : List A) (n : A) → last_falls (map f (ns ++ n ∷ [])) ≡ is_fallthrough_part (f n)
  falls_last [] n = refl
  falls_last (m ∷ []) n = refl
  falls_last (m ∷ k ∷ ns) n = falls_last (k ∷ ns) n

  pub ends_last : (ns : List A) (n : A) → last_ends (map f (ns ++ n ∷ [])) ≡ part_ends (f n)
  ends_last [] n = refl
  ends_last (m ∷ []) n = refl
  ends_last (m ∷ k ∷ ns) n = ends_last (k ∷ ns) n
