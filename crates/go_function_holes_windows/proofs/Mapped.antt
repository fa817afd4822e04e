-- Typed trees under other words for types, and the parts of a tree that is sound.
use Rattle.std.proofs.Common.{◌≡◌, ◌∙◌, ℕ, zero, suc, List, [], ◌∷◌, drop, Some, slice_get, refl, sym, ap, subst}
use Rattle.std.specs.Prelude.{◌&&◌, not}
use Rattle.std.specs.List.{AllByRecursion}
use Rattle.go_types.specs.Trees.{TypeTree}
use Rattle.go_typed.specs.declared.form.Form.{Form}
use Rattle.go_typed.specs.declared.form.Form.TheVariants as form
use Rattle.go_typed.specs.Forms.{is_statement_list, values_count}
use Rattle.go_typed.specs.Lists.{own_list, statement_lists, lists_among, present, statements_of}
use Rattle.go_typed.specs.Trees.{typed, Typeds, none, more, skip, sort_mapped, label_mapped, mapped, all_mapped}
use Rattle.go_typed.specs.Trees as sort
use Rattle.go_exprs_rules.specs.Settling.{Part}
use Rattle.go_exprs_rules.specs.Sorts.{Stands, is_unknown}
use Rattle.clone_window.specs.Masses.{is_constant, is_expression}
use Rattle.go_stmts_final_types.specs.Known.{AreOwn, DeclaresOwn}
use Rattle.go_function_holes.specs.Holes.{applies, is_first_constant}
use Rattle.go_function_holes.proofs.Public.{AllHoles, AllSound, Here, Holes, OfHole, Sound, all-at, all-both, both}

module _ (g : TypeTree → TypeTree) where
  unknown-mapped : (s : Stands) → is_unknown (sort_mapped g s) ≡ is_unknown s
  unknown-mapped (sort.IsType t) = refl
  unknown-mapped (sort.Value t) = refl
  unknown-mapped (sort.Constant t c) = refl
  unknown-mapped (sort.Results t) = refl
  unknown-mapped s = refl

  constant-mapped : (s : Stands) → is_constant (sort_mapped g s) ≡ is_constant s
  constant-mapped (sort.IsType t) = refl
  constant-mapped (sort.Value t) = refl
  constant-mapped (sort.Constant t c) = refl
  constant-mapped (sort.Results t) = refl
  constant-mapped s = refl

  first-mapped : (ps : Typeds TypeTree) → is_first_constant (all_mapped g ps) ≡ is_first_constant ps
  first-mapped none = refl
  first-mapped (more (typed f i j l qs) ps) = constant-mapped l.sort
  first-mapped (skip ps) = refl

  applies-mapped : (f : Form) (ps : Typeds TypeTree) → applies f (all_mapped g ps) ≡ applies f ps
  applies-mapped form.Call ps = ap not (first-mapped ps)
  applies-mapped (form.Selector n) ps = ap not (first-mapped ps)
  applies-mapped f ps = refl

  own-mapped : (ps : Typeds TypeTree) → AreOwn (all_mapped g ps) → AreOwn ps
  own-mapped none h = tt
  own-mapped (more (typed f i j l qs) ps) h = (h.0, own-mapped ps h.1)
  own-mapped (skip ps) h = own-mapped ps h

  declares-mapped : (f : Form) (ps : Typeds TypeTree) → DeclaresOwn f (all_mapped g ps) → DeclaresOwn f ps
  declares-mapped form.Constants ps h = own-mapped ps h
  declares-mapped f ps h = tt

  mutual
    pub sound-mapped : (x : Part) → Sound (mapped g x) → Sound x
    sound-mapped (typed f i j l ps) h = (sym (unknown-mapped l.sort) ∙ h.0, sym (applies-mapped f ps) ∙ h.1, declares-mapped f ps h.2, all-sound-mapped ps h.3)

    all-sound-mapped : (ps : Typeds TypeTree) → AllSound (all_mapped g ps) → AllSound ps
    all-sound-mapped none h = tt
    all-sound-mapped (more p ps) h = (sound-mapped p h.0, all-sound-mapped ps h.1)
    all-sound-mapped (skip ps) h = all-sound-mapped ps h

  module _ (P : OfHole) where
    mutual
      pub holes-mapped : (x : Part) → Holes P x → Holes P (mapped g x)
      holes-mapped (typed f i j l ps) h = (subst (λ b. Here (is_expression f && b) l.varies (P i j)) (sym (constant-mapped l.sort)) h.0, all-holes-mapped ps h.1)

      all-holes-mapped : (ps : Typeds TypeTree) → AllHoles P ps → AllHoles P (all_mapped g ps)
      all-holes-mapped none h = tt
      all-holes-mapped (more p ps) h = (holes-mapped p h.0, all-holes-mapped ps h.1)
      all-holes-mapped (skip ps) h = all-holes-mapped ps h

-- ---- statement lists

mutual
  lists-sound : (x : Part) → Sound x → AllByRecursion Sound (statement_lists x)
  lists-sound (typed f i j l ps) h =
      let x = typed f i j l ps in all-both Sound (own_list x) (lists_among ps) (both (AllByRecursion Sound) (is_statement_list f) (x ∷ []) [] (h, tt) tt) (among-sound ps h.3)

  among-sound : (ps : Typeds TypeTree) → AllSound ps → AllByRecursion Sound (lists_among ps)
  among-sound none h = tt
  among-sound (more p ps) h = all-both Sound (statement_lists p) (lists_among ps) (lists-sound p h.0) (among-sound ps h.1)
  among-sound (skip ps) h = among-sound ps h

present-sound : (ps : Typeds TypeTree) → AllSound ps → AllByRecursion Sound (present ps)
present-sound none h = tt
present-sound (more p ps) h = (h.0, present-sound ps h.1)
present-sound (skip ps) h = present-sound ps h

pub drop-sound : (n : ℕ) (xs : List Part) → AllByRecursion Sound xs → AllByRecursion Sound (drop n xs)
drop-sound zero xs h = h
drop-sound (suc n) [] h = tt
drop-sound (suc n) (x ∷ xs) h = drop-sound n xs h.1

statements-sound : (l : Part) → Sound l → AllByRecursion Sound (statements_of l)
statements-sound (typed f i j m ps) h = drop-sound (values_count f) (present ps) (present-sound ps h.3)

-- the statements of a list of a sound tree are sound
pub list-sound : (x l : Part) (n : ℕ) → Sound x → slice_get (statement_lists x) n ≡ Some l → AllByRecursion Sound (statements_of l)
list-sound x l n h e = statements-sound l (all-at Sound (statement_lists x) n l (lists-sound x h) e)
