-- Terminating statements at their new places.
use Rattle.std.proofs.Common.{◌≡◌, ◌∙◌, Bool, false, List, [], ◌∷◌, Option, Some, None, refl, ap}
use Rattle.std.specs.Prelude.{not}
use Rattle.go_types.specs.Trees.{TypeTree}
use Rattle.go_typed.specs.Forms.{is_default}
use Rattle.go_typed.specs.declared.form.Form.{Form}
use Rattle.go_typed.specs.declared.form.Form.TheVariants as form
use Rattle.go_typed.specs.Trees.{typed, Typeds, list_of}
use Rattle.go_typed.specs.Trees as sort
use Rattle.go_exprs_rules.specs.Settling.{Part}
use Rattle.go_exprs_rules.specs.Tables.{Parts}
use Rattle.go_stmts_defs.specs.Ending.{lets_break, is_break, breaks, any_breaks, is_fallthrough, is_fallthrough_part, last_falls, is_default_clause, part_breaks, loop_ends, clauses_end, ends, terminates, which_terminate}
use Rattle.go_stmts_defs.specs.Targets.{is_panic, is_panic_call, callee_passes, bare}
use Rattle.go_exprs_elsewhere.specs.Elsewhere.{Moves, form_moved, placed, all_placed}
use Rattle.go_exprs_elsewhere.proofs.Public.{optional, parts, list_kept, some_kept, one_kept}
use Rattle.go_stmts_elsewhere.proofs.Assigning.{bare_kept, passes_kept}

module _ (m : Moves) where
  panic_call_kept : (x : Part) → is_panic_call (placed m x) ≡ is_panic_call x
  panic_call_kept x = ap (callee_passes is_panic) (bare_kept m x) ∙ passes_kept m is_panic (bare x)

  -- ---- forms

  lets_moved : (f : Form) → lets_break (form_moved m f) ≡ lets_break f
  lets_moved form.Block = refl
  lets_moved form.If = refl
  lets_moved (form.Case n) = refl
  lets_moved form.Default = refl
  lets_moved f = refl

  break_moved : (f : Form) → is_break (form_moved m f) ≡ is_break f
  break_moved form.Break = refl
  break_moved f = refl

  fallthrough_moved : (f : Form) → is_fallthrough (form_moved m f) ≡ is_fallthrough f
  fallthrough_moved form.Fallthrough = refl
  fallthrough_moved f = refl

  default_moved : (f : Form) → is_default (form_moved m f) ≡ is_default f
  default_moved form.Default = refl
  default_moved f = refl

  -- ---- breaks

  mutual
    pub breaks_kept : (x : Part) → breaks (placed m x) ≡ breaks x
    breaks_kept (typed f i j l ps) = let e = break_moved f in let d = lets_moved f in let r = any_breaks_kept ps in cc

    any_breaks_kept : (ps : Typeds TypeTree) → any_breaks (all_placed m ps) ≡ any_breaks ps
    any_breaks_kept sort.none = refl
    any_breaks_kept (sort.more x ps) = let e = breaks_kept x in let f = any_breaks_kept ps in cc
    any_breaks_kept (sort.skip ps) = any_breaks_kept ps

  fallthrough_kept : (x : Option Part) → is_fallthrough_part (optional m x) ≡ is_fallthrough_part x
  fallthrough_kept None = refl
  fallthrough_kept (Some (typed f i j l ps)) = fallthrough_moved f

  last_falls_kept : (xs : Parts) → last_falls (parts m xs) ≡ last_falls xs
  last_falls_kept [] = refl
  last_falls_kept (x ∷ []) = fallthrough_kept x
  last_falls_kept (x ∷ y ∷ ys) = last_falls_kept (y ∷ ys)

  default_kept : (x : Option Part) → is_default_clause (optional m x) ≡ is_default_clause x
  default_kept None = refl
  default_kept (Some (typed f i j l ps)) = default_moved f

  part_breaks_kept : (x : Option Part) → part_breaks (optional m x) ≡ part_breaks x
  part_breaks_kept None = refl
  part_breaks_kept (Some x) = breaks_kept x

  loop_ends_kept : (xs : Parts) → loop_ends (parts m xs) ≡ loop_ends xs
  loop_ends_kept [] = refl
  loop_ends_kept (a ∷ []) = refl
  loop_ends_kept (a ∷ None ∷ []) = refl
  loop_ends_kept (a ∷ Some b ∷ xs) = refl
  loop_ends_kept (a ∷ None ∷ c ∷ []) = refl
  loop_ends_kept (a ∷ None ∷ c ∷ b ∷ []) = ap not (part_breaks_kept b)
  loop_ends_kept (a ∷ None ∷ c ∷ b ∷ d ∷ xs) = refl

  clauses_end_kept : (xs : Parts) (bs : List Bool) → clauses_end (parts m xs) bs ≡ clauses_end xs bs
  clauses_end_kept [] bs = refl
  clauses_end_kept (a ∷ []) bs = refl
  clauses_end_kept (a ∷ t ∷ xs) [] = refl
  clauses_end_kept (a ∷ t ∷ xs) (b ∷ []) = refl
  clauses_end_kept (a ∷ t ∷ xs) (b ∷ c ∷ bs) = let e = some_kept m is_default_clause default_kept xs in let f = some_kept m part_breaks part_breaks_kept xs in cc

  abbrev itself : {A : Type 0} → A → A
  itself x = x

  ends_kept : (f : Form) (xs : Parts) (bs : List Bool) → ends (form_moved m f) (parts m xs) bs ≡ ends f xs bs
  ends_kept form.Expression xs bs = one_kept m itself false is_panic_call is_panic_call panic_call_kept xs
  ends_kept form.For xs bs = loop_ends_kept xs
  ends_kept form.Switch xs bs = clauses_end_kept xs bs
  ends_kept (form.Case n) xs bs = let e = last_falls_kept xs in cc
  ends_kept form.Default xs bs = let e = last_falls_kept xs in cc
  ends_kept f xs bs = refl

  mutual
    -- a statement is terminating also at its new place
    pub terminates_kept : (x : Part) → terminates (placed m x) ≡ terminates x
    terminates_kept (typed f i j l ps) =
        ap (λ xs. ends (form_moved m f) xs (which_terminate (all_placed m ps))) (list_kept m ps) ∙ ap (ends (form_moved m f) (parts m (list_of ps))) (which_kept ps) ∙ ends_kept f (list_of ps) (which_terminate ps)

    which_kept : (ps : Typeds TypeTree) → which_terminate (all_placed m ps) ≡ which_terminate ps
    which_kept sort.none = refl
    which_kept (sort.more x ps) = let e = terminates_kept x in let f = which_kept ps in cc
    which_kept (sort.skip ps) = ap (λ bs. false ∷ bs) (which_kept ps)
