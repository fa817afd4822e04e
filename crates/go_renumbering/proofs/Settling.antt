-- What parts take of their places, and what these refuse, with other numbers of declared types.
use Rattle.std.proofs.Common.{◌≡◌, ◌∙◌, ℕ, Bool, true, false, Option, Some, None, refl, sym, ap, cond}
use Rattle.go_constants.specs.declared.values.Const.{Const}
use Rattle.go_types.specs.Trees.{TypeTree}
use Rattle.go_types.specs.Relations.{Rights}
use Rattle.go_types_relations.specs.Renaming.{renamed, IsOneToOne, AreRenamed}
use Rattle.go_typed.specs.Trees.{Label, typed, Typeds, label_mapped, sort_of}
use Rattle.go_typed.specs.Trees as sort
use Rattle.go_exprs_rules.specs.declared.family.OpenKind.{OpenKind}
use Rattle.go_base.specs.declared.fault.FaultCode.{FaultCode}
use Rattle.go_exprs_rules.specs.Names.{is_no_value, is_no_callee, is_no_target, is_no_statement, is_no_type, are_results, one_value, too_many, is_row_empty, place_failing}
use Rattle.go_exprs_rules.specs.Scopes.{Hint, several, type_place, loose, inside, one_inside, loose_inside, callee, statement, target, declares, free}
use Rattle.go_exprs_rules.specs.Settling.{Part, at_part, settled, all_settled, unrepresented_constant, unrepresented, all_unrepresented, Take, stay, default, as_type, defaulted, given, undefaulted_by, undefaulted, untyped_unassignable, unassignable_by, unassignable}
use Rattle.go_exprs_rules.specs.Sorts.{Stands, takes_type, open_kind, constant_of, retyped, default_type}
use Rattle.go_types_relations.specs.Tests.{underlying_of}
use Rattle.go_exprs_rules.specs.Calls.{results_of}
use Rattle.go_renumbering.specs.Renumbered.{stands_renamed, part_renamed, hint_renamed}
use Rattle.go_renumbering.proofs.Parts.{inner}
use Rattle.go_renumbering.proofs.Sorts.{open_same, constant_same, takes_same, default_same, retyped_same, results_same, empty_same, und, assignable_same, type_nil_same, suits_same, represents_same}

module _ (name : ℕ → ℕ) where
  abbrev pub take_renamed : Take → Take
  take_renamed (as_type t) = as_type (renamed name t)
  take_renamed k = k

  pub sort_kept : (x : Part) → sort_of (part_renamed name x) ≡ stands_renamed name (sort_of x)
  sort_kept (typed f i j l ps) = refl

  pub at_part_kept : (c : FaultCode) (x : Part) → at_part c (part_renamed name x) ≡ at_part c x
  at_part_kept c (typed f i j l ps) = refl

  abbrev with_sort : Label TypeTree → Stands → Label TypeTree
  with_sort l x = record l { sort = x }

  mutual
    pub settled_kept : (t : TypeTree) (x : Part) → settled (renamed name t) (part_renamed name x) ≡ part_renamed name (settled t x)
    settled_kept t (typed f i j l ps) =
        ap (λ b. cond b (typed f i j (with_sort (label_mapped (renamed name) l) (retyped (renamed name t) (stands_renamed name l.sort))) (all_settled (renamed name t) (inner name ps))) (part_renamed name (typed f i j l ps))) (takes_same name l.sort)
        ∙ by (takes_type l.sort) (retyped_same name t l.sort) (all_settled_kept t ps)
      where
        by : (b : Bool) → retyped (renamed name t) (stands_renamed name l.sort) ≡ stands_renamed name (retyped t l.sort) → all_settled (renamed name t) (inner name ps) ≡ inner name (all_settled t ps)
            → cond b (typed f i j (with_sort (label_mapped (renamed name) l) (retyped (renamed name t) (stands_renamed name l.sort))) (all_settled (renamed name t) (inner name ps))) (part_renamed name (typed f i j l ps))
            ≡ part_renamed name (cond b (typed f i j (with_sort l (retyped t l.sort)) (all_settled t ps)) (typed f i j l ps))
        by true e h =
            ap (λ x. typed f i j (with_sort (label_mapped (renamed name) l) x) (all_settled (renamed name t) (inner name ps))) e
            ∙ ap (typed f i j (with_sort (label_mapped (renamed name) l) (stands_renamed name (retyped t l.sort)))) h
        by false e h = refl

    all_settled_kept : (t : TypeTree) (ps : Typeds TypeTree) → all_settled (renamed name t) (inner name ps) ≡ inner name (all_settled t ps)
    all_settled_kept t sort.none = refl
    all_settled_kept t (sort.more x xs) = let e = settled_kept t x in let f = all_settled_kept t xs in cc
    all_settled_kept t (sort.skip xs) = ap sort.skip (all_settled_kept t xs)

  defaulted_kept : (o : Option OpenKind) (x : Part) → defaulted o (part_renamed name x) ≡ part_renamed name (defaulted o x)
  defaulted_kept None x = refl
  defaulted_kept (Some k) x = ap (λ t. settled t (part_renamed name x)) (sym (default_same name k)) ∙ settled_kept (default_type k) x

  pub given_kept : (k : Take) (x : Part) → given (take_renamed k) (part_renamed name x) ≡ part_renamed name (given k x)
  given_kept stay x = refl
  given_kept default (typed f i j l ps) = ap (λ o. defaulted o (part_renamed name (typed f i j l ps))) (open_same name l.sort) ∙ defaulted_kept (open_kind l.sort) (typed f i j l ps)
  given_kept (as_type t) x = settled_kept t x

  -- ---- places

  no_type_same : (x : Stands) → is_no_type (stands_renamed name x) ≡ is_no_type x
  no_type_same (sort.IsType t) = refl
  no_type_same x = refl

  no_statement_same : (x : Stands) → is_no_statement (stands_renamed name x) ≡ is_no_statement x
  no_statement_same (sort.IsType t) = refl
  no_statement_same x = refl

  results_are_same : (x : Stands) → are_results (stands_renamed name x) ≡ are_results x
  results_are_same (sort.Results t) = refl
  results_are_same x = refl

  one_value_same : (b : Bool) (x : Stands) (i j : ℕ) → one_value b (stands_renamed name x) i j ≡ one_value b x i j
  one_value_same true x i j = refl
  one_value_same false x i j = let r = results_are_same x in cc

  too_many_same : (b : Bool) (x : Stands) (i j : ℕ) → too_many b (stands_renamed name x) i j ≡ too_many b x i j
  too_many_same true x i j = refl
  too_many_same false x i j = one_value_same false x i j

module _ (name : ℕ → ℕ) (one : IsOneToOne name) (old new : Rights) (same : AreRenamed name old new) where
  constant_kept : (t : TypeTree) (i j : ℕ) (o : Option Const) → unrepresented_constant new (renamed name t) i j o ≡ unrepresented_constant old t i j o
  constant_kept t i j None = refl
  constant_kept t i j (Some c) = let e = represents_same name one old new same t c in cc

  mutual
    pub unrepresented_kept : (t : TypeTree) (x : Part) → unrepresented new (renamed name t) (part_renamed name x) ≡ unrepresented old t x
    unrepresented_kept t (typed f i j l ps) =
        let o = open_same name l.sort in
        let k = constant_same name l.sort in
        let e = constant_kept t i j (constant_of l.sort) in
        let h = all_unrepresented_kept t ps in
        cc

    all_unrepresented_kept : (t : TypeTree) (ps : Typeds TypeTree) → all_unrepresented new (renamed name t) (inner name ps) ≡ all_unrepresented old t ps
    all_unrepresented_kept t sort.none = refl
    all_unrepresented_kept t (sort.more x ps) = let e = unrepresented_kept t x in let h = all_unrepresented_kept t ps in cc
    all_unrepresented_kept t (sort.skip ps) = all_unrepresented_kept t ps

  pub default_unrepresented : (k : OpenKind) (x : Part) → unrepresented new (default_type k) (part_renamed name x) ≡ unrepresented old (default_type k) x
  default_unrepresented k x = ap (λ t. unrepresented new t (part_renamed name x)) (sym (default_same name k)) ∙ unrepresented_kept (default_type k) x

  undefaulted_by_kept : (o : Option OpenKind) (x : Part) → undefaulted_by new o (part_renamed name x) ≡ undefaulted_by old o x
  undefaulted_by_kept None x = refl
  undefaulted_by_kept (Some k) x = default_unrepresented k x

  pub undefaulted_kept : (x : Part) → undefaulted new (part_renamed name x) ≡ undefaulted old x
  undefaulted_kept (typed f i j l ps) = ap (λ o. undefaulted_by new o (part_renamed name (typed f i j l ps))) (open_same name l.sort) ∙ undefaulted_by_kept (open_kind l.sort) (typed f i j l ps)

  untyped_kept : (t : TypeTree) (o : Option OpenKind) (x : Part) → untyped_unassignable new (renamed name t) o (part_renamed name x) ≡ untyped_unassignable old t o x
  untyped_kept t None x = at_part_kept name _ x
  untyped_kept t (Some k) (typed f i j l ps) = let e = suits_same name one old new same k t in let h = unrepresented_kept t (typed f i j l ps) in cc

  unassignable_by_kept : (t : TypeTree) (s : Stands) (x : Part) → unassignable_by new (renamed name t) (stands_renamed name s) (part_renamed name x) ≡ unassignable_by old t s x
  unassignable_by_kept t sort.Unknown x = refl
  unassignable_by_kept t (sort.Value u) (typed f i j l ps) = let e = assignable_same name one old new same u t in cc
  unassignable_by_kept t (sort.Constant u c) (typed f i j l ps) = let e = assignable_same name one old new same u t in cc
  unassignable_by_kept t sort.Nil (typed f i j l ps) = let e = type_nil_same name one old new same t in cc
  unassignable_by_kept t s x = untyped_kept t (open_kind s) x

  pub unassignable_kept : (t : TypeTree) (x : Part) → unassignable new (renamed name t) (part_renamed name x) ≡ unassignable old t x
  unassignable_kept t (typed f i j l ps) = unassignable_by_kept t l.sort (typed f i j l ps)

  -- ---- places

  no_results : (t : TypeTree) → is_row_empty (results_of (underlying_of new (renamed name t))) ≡ is_row_empty (results_of (underlying_of old t))
  no_results t = ap (λ o. is_row_empty (results_of o)) (und name one old new same t) ∙ ap is_row_empty (results_same name (underlying_of old t)) ∙ empty_same name (results_of (underlying_of old t))

  no_value_same : (x : Stands) → is_no_value new (stands_renamed name x) ≡ is_no_value old x
  no_value_same (sort.Results t) = no_results t
  no_value_same x = refl

  no_callee_same : (x : Stands) → is_no_callee new (stands_renamed name x) ≡ is_no_callee old x
  no_callee_same (sort.Results t) = no_results t
  no_callee_same x = refl

  no_target_same : (x : Stands) → is_no_target new (stands_renamed name x) ≡ is_no_target old x
  no_target_same sort.Blank = refl
  no_target_same x = no_value_same x

  pub place_kept : (h : Hint) (i j : ℕ) (x : Stands) → place_failing new (hint_renamed name h) i j (stands_renamed name x) ≡ place_failing old h i j x
  place_kept several i j x = let e = no_value_same x in cc
  place_kept type_place i j x = let e = no_type_same name x in cc
  place_kept loose i j x = let e = no_type_same name x in cc
  place_kept statement i j x = let e = no_statement_same name x in cc
  place_kept callee i j x = ap (λ b. one_value b (stands_renamed name x) i j) (no_callee_same x) ∙ one_value_same name (is_no_callee old x) x i j
  place_kept target i j x = ap (λ b. one_value b (stands_renamed name x) i j) (no_target_same x) ∙ one_value_same name (is_no_target old x) x i j
  place_kept inside i j x = refl
  place_kept one_inside i j x = ap (λ b. too_many b (stands_renamed name x) i j) (no_value_same x) ∙ too_many_same name (is_no_value old x) x i j
  place_kept loose_inside i j x = refl
  place_kept declares i j x = refl
  place_kept free i j x = refl
  place_kept h i j x = ap (λ b. one_value b (stands_renamed name x) i j) (no_value_same x) ∙ one_value_same name (is_no_value old x) x i j
