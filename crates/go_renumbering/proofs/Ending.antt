-- Variables, calls that are statements, and terminating statements, with other numbers of declared types.
use Rattle.std.proofs.Common.{◌≡◌, ◌∙◌, ℕ, Bool, false, List, [], ◌∷◌, Option, Some, None, refl, ap}
use Rattle.std.specs.Prelude.{◌&&◌, not}
use Rattle.go_types.specs.Trees.{TypeTree, slice}
use Rattle.go_types.specs.Relations.{Rights}
use Rattle.go_types_relations.specs.Renaming.{IsOneToOne, AreRenamed}
use Rattle.go_typed.specs.declared.form.Form.{Form}
use Rattle.go_typed.specs.declared.form.Form.TheVariants as form
use Rattle.go_typed.specs.Trees.{typed, Typeds, form_of, sort_of, list_of, parts_of}
use Rattle.go_typed.specs.Trees as sort
use Rattle.go_exprs_rules.specs.Names.{is_blank}
use Rattle.go_exprs_rules.specs.Settling.{Part}
use Rattle.go_exprs_rules.specs.Sorts.{Stands, form_of_value}
use Rattle.go_exprs_rules.specs.Tables.{Parts, is_call, on_first}
use Rattle.go_stmts_defs.specs.Ending.{breaks, any_breaks, is_fallthrough_part, last_falls, is_default_clause, part_breaks, loop_ends, clauses_end, ends, terminates, which_terminate}
use Rattle.go_stmts_defs.specs.Targets.{varies_by, through, is_variable, first_varies, is_target, bare, first_bare, is_panic, acts, callee_passes, is_statement_call, is_panic_call}
use Rattle.go_renumbering.specs.Renumbered.{stands_renamed, part_renamed}
use Rattle.go_renumbering.proofs.LaidOut.{one_kept, first_kept}
use Rattle.go_renumbering.proofs.Nodes.{variable_same}
use Rattle.go_renumbering.proofs.Parts.{optional, parts, inner, list_kept, some_kept}
use Rattle.go_renumbering.proofs.Settling.{sort_kept}
use Rattle.go_renumbering.proofs.Sorts.{maybe, unknown_same, form_same}

module _ (name : ℕ → ℕ) where
  -- ---- calls

  mutual
    bare_kept : (x : Part) → bare (part_renamed name x) ≡ part_renamed name (bare x)
    bare_kept (typed form.Parenthesized i j l ps) = first_bare_kept (typed form.Parenthesized i j l ps) ps
    bare_kept (typed f i j l ps) = refl

    first_bare_kept : (x : Part) (ps : Typeds TypeTree) → first_bare (part_renamed name x) (inner name ps) ≡ part_renamed name (first_bare x ps)
    first_bare_kept x sort.none = refl
    first_bare_kept x (sort.more p ps) = bare_kept p
    first_bare_kept x (sort.skip ps) = refl

  panic_same : (x : Stands) → is_panic (stands_renamed name x) ≡ is_panic x
  panic_same (sort.Builtin p) = refl
  panic_same x = refl

  acts_same : (x : Stands) → acts (stands_renamed name x) ≡ acts x
  acts_same (sort.Builtin p) = refl
  acts_same x = refl

  abbrev itself : {A : Type 0} → A → A
  itself x = x

  passes_same : (t : Stands → Bool) → ((x : Stands) → t (stands_renamed name x) ≡ t x) → (x : Part) → callee_passes t (part_renamed name x) ≡ callee_passes t x
  passes_same t e (typed f i j l ps) =
      ap (λ xs. is_call f && on_first false (λ c ys. t (sort_of c)) xs) (list_kept name ps)
      ∙ ap (λ b. is_call f && b) (first_kept name itself false (λ c ys. t (sort_of c)) (λ c ys. t (sort_of c)) (λ c ys. ap t (sort_kept name c) ∙ e (sort_of c)) (list_of ps))

  pub statement_call_same : (x : Part) → is_statement_call (part_renamed name x) ≡ is_statement_call x
  statement_call_same x = ap (callee_passes acts) (bare_kept x) ∙ passes_same acts acts_same (bare x)

  panic_call_same : (x : Part) → is_panic_call (part_renamed name x) ≡ is_panic_call x
  panic_call_same x = ap (callee_passes is_panic) (bare_kept x) ∙ passes_same is_panic panic_same (bare x)

  -- ---- terminating statements

  mutual
    pub breaks_same : (x : Part) → breaks (part_renamed name x) ≡ breaks x
    breaks_same (typed f i j l ps) = let e = any_breaks_same ps in cc

    any_breaks_same : (ps : Typeds TypeTree) → any_breaks (inner name ps) ≡ any_breaks ps
    any_breaks_same sort.none = refl
    any_breaks_same (sort.more x ps) = let e = breaks_same x in let f = any_breaks_same ps in cc
    any_breaks_same (sort.skip ps) = any_breaks_same ps

  fallthrough_same : (x : Option Part) → is_fallthrough_part (optional name x) ≡ is_fallthrough_part x
  fallthrough_same None = refl
  fallthrough_same (Some (typed f i j l ps)) = refl

  last_falls_same : (xs : Parts) → last_falls (parts name xs) ≡ last_falls xs
  last_falls_same [] = refl
  last_falls_same (x ∷ []) = fallthrough_same x
  last_falls_same (x ∷ y ∷ ys) = last_falls_same (y ∷ ys)

  default_same : (x : Option Part) → is_default_clause (optional name x) ≡ is_default_clause x
  default_same None = refl
  default_same (Some (typed f i j l ps)) = refl

  part_breaks_same : (x : Option Part) → part_breaks (optional name x) ≡ part_breaks x
  part_breaks_same None = refl
  part_breaks_same (Some x) = breaks_same x

  loop_ends_same : (xs : Parts) → loop_ends (parts name xs) ≡ loop_ends xs
  loop_ends_same [] = refl
  loop_ends_same (a ∷ []) = refl
  loop_ends_same (a ∷ None ∷ []) = refl
  loop_ends_same (a ∷ Some b ∷ xs) = refl
  loop_ends_same (a ∷ None ∷ c ∷ []) = refl
  loop_ends_same (a ∷ None ∷ c ∷ b ∷ []) = ap not (part_breaks_same b)
  loop_ends_same (a ∷ None ∷ c ∷ b ∷ d ∷ xs) = refl

  clauses_end_same : (xs : Parts) (bs : List Bool) → clauses_end (parts name xs) bs ≡ clauses_end xs bs
  clauses_end_same [] bs = refl
  clauses_end_same (a ∷ []) bs = refl
  clauses_end_same (a ∷ t ∷ xs) [] = refl
  clauses_end_same (a ∷ t ∷ xs) (b ∷ []) = refl
  clauses_end_same (a ∷ t ∷ xs) (b ∷ c ∷ bs) =
      let e = some_kept name is_default_clause is_default_clause default_same xs in
      let f = some_kept name part_breaks part_breaks part_breaks_same xs in
      cc

  ends_same : (f : Form) (xs : Parts) (bs : List Bool) → ends f (parts name xs) bs ≡ ends f xs bs
  ends_same form.Expression xs bs = one_kept name itself false is_panic_call is_panic_call panic_call_same xs
  ends_same form.For xs bs = loop_ends_same xs
  ends_same form.Switch xs bs = clauses_end_same xs bs
  ends_same (form.Case n) xs bs = let e = last_falls_same xs in cc
  ends_same form.Default xs bs = let e = last_falls_same xs in cc
  ends_same f xs bs = refl

  mutual
    pub terminates_same : (x : Part) → terminates (part_renamed name x) ≡ terminates x
    terminates_same (typed f i j l ps) =
        ap (λ xs. ends f xs (which_terminate (inner name ps))) (list_kept name ps) ∙ ap (ends f (parts name (list_of ps))) (which_same ps) ∙ ends_same f (list_of ps) (which_terminate ps)

    which_same : (ps : Typeds TypeTree) → which_terminate (inner name ps) ≡ which_terminate ps
    which_same sort.none = refl
    which_same (sort.more x ps) = let e = terminates_same x in let f = which_same ps in cc
    which_same (sort.skip ps) = ap (λ bs. false ∷ bs) (which_same ps)

-- ---- variables

module _ (name : ℕ → ℕ) (one : IsOneToOne name) (old new : Rights) (same : AreRenamed name old new) where
  varies_same : (o : Option TypeTree) (b : Bool) → varies_by (maybe name o) b ≡ varies_by o b
  varies_same None b = refl
  varies_same (Some (slice t)) b = refl
  varies_same (Some t) b = refl

  through_same : (f : Form) (x : Stands) (b : Bool) → through new f (stands_renamed name x) b ≡ through old f x b
  through_same form.Index x b = ap (λ o. varies_by o b) (form_same name one old new same x) ∙ varies_same (form_of_value old x) b
  through_same form.Parenthesized x b = refl
  through_same f x b = refl

  mutual
    pub variable_kept : (x : Part) → is_variable new (part_renamed name x) ≡ is_variable old x
    variable_kept (typed f i j l ps) = let e = variable_same name f l.sort in let h = first_varies_kept f ps in cc

    first_varies_kept : (f : Form) (ps : Typeds TypeTree) → first_varies new f (inner name ps) ≡ first_varies old f ps
    first_varies_kept f sort.none = refl
    first_varies_kept f (sort.more x ps) =
        ap (λ s. through new f s (is_variable new (part_renamed name x))) (sort_kept name x) ∙ ap (through new f (stands_renamed name (sort_of x))) (variable_kept x) ∙ through_same f (sort_of x) (is_variable old x)
    first_varies_kept f (sort.skip ps) = refl

  blank_same : (x : Stands) → is_blank (stands_renamed name x) ≡ is_blank x
  blank_same sort.Blank = refl
  blank_same x = refl

  pub target_kept : (x : Part) → is_target new (part_renamed name x) ≡ is_target old x
  target_kept (typed f i j l ps) = let b = blank_same l.sort in let u = unknown_same name l.sort in let v = variable_kept (typed f i j l ps) in cc
