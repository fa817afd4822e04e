-- Trees whose nodes stand at tokens that have bytes, and what is held of one object.
use Rattle.std.proofs.Common.{◌≡◌, ℕ, zero, suc, ◌+◌, Bool, false, List, [], ◌∷◌, ◌++◌, map, drop, Option, Some, refl, ap, sym, ◌∙◌, arith}
use Rattle.std.specs.Prelude.{◌&&◌, not, slice_get, codes}
use Rattle.go_grammar.specs.Trees.{Trees, none, more, skip}
use Rattle.go_tokens.specs.Spellings.{same_text}
use Rattle.go_tree.specs.declared.object.Declared.{Declared}
use Rattle.go_tree.specs.Failures.{Failure, least_from}
use Rattle.go_package_laws.specs.Places.{EachPart}
use Rattle.go_package_defs.specs.Answer.{failures_at, fault_if, is_main_package, is_procedure, main_faults, mains_from}
use Rattle.go_package_defs.specs.Declarations.{trees_of}
use Rattle.go_package_defs.specs.Knowledge.{Outline, State, is_sound, passes, state_of}
use Rattle.go_package_defs.specs.Sources.{Package, text_at}
use Rattle.go_exprs_rules.specs.Scopes.{at_once}
use Rattle.go_types.specs.Tables.{Table}
use Rattle.go_package_rounds.specs.declared.held.Held.{Held}
use Rattle.go_package_rounds.specs.Held.{summary, held_seen, all_seen}
use Rattle.go_package_rounds.proofs.Public.{head_same, tail_same}
use Rattle.go_package_types.specs.Places.{EachStands}
use Rattle.go_package_types.proofs.Merged.{least_from_append}

-- ---- rows of parts

module _ (q : ℕ → ℕ → Bool) where
  pub each_listed : (ps : Trees) → EachPart q ps → EachStands q (trees_of ps)
  each_listed none h = tt
  each_listed (more p ps) h = (h.0, each_listed ps h.1)
  each_listed (skip ps) h = each_listed ps h

-- ---- one object

pub seen_at : (t : Table) (hs : List Held) (ss : List State) (n : ℕ) (h : Held) → all_seen t hs ≡ map summary ss → slice_get hs n ≡ Some h → held_seen t h ≡ summary (state_of ss n)
seen_at t [] ss n h e g = absurd cc
seen_at t (x ∷ hs) [] n h e g = absurd cc
seen_at t (x ∷ hs) (s ∷ ss) zero h e g =
    let same : x ≡ h = cc in
    ap (held_seen t) (sym same) ∙ head_same (held_seen t x) (summary s) (all_seen t hs) (map summary ss) e
seen_at t (x ∷ hs) (s ∷ ss) (suc n) h e g = seen_at t hs ss n h (tail_same (held_seen t x) (summary s) (all_seen t hs) (map summary ss) e) g

-- ---- the function `main`

drop_at : (ds : List Declared) (n : ℕ) (d : Declared) → slice_get ds n ≡ Some d → drop n ds ≡ d ∷ drop (n + 1) ds
drop_at [] n d h = absurd cc
drop_at (x ∷ ds) zero d h = let same : x ≡ d = cc in ap (λ y. y ∷ ds) same
drop_at (x ∷ ds) (suc n) d h = let e : suc (n + 1) ≡ suc n + 1 = omega arith in drop_at ds n d h ∙ ap (λ j. d ∷ drop j (x ∷ ds)) e

module _ (p : Package) (os : List Outline) (ss : List State) where
  -- one object further
  pub mains_step : (ds : List Declared) (n : ℕ) (d : Declared) (found now : Option Failure) → slice_get ds n ≡ Some d
      → now ≡ least_from found (failures_at p d.file (main_faults p os ss n d))
      → least_from now (mains_from p os ss (n + 1) (drop (n + 1) ds)) ≡ least_from found (mains_from p os ss n (drop n ds))
  mains_step ds n d found now h e =
      let one : n + 1 ≡ suc n = omega arith in
      ap (λ f. least_from f (mains_from p os ss (n + 1) (drop (n + 1) ds))) e
      ∙ ap (λ m. least_from (least_from found (failures_at p d.file (main_faults p os ss n d))) (mains_from p os ss m (drop (n + 1) ds))) one
      ∙ sym (least_from_append found (failures_at p d.file (main_faults p os ss n d)) (mains_from p os ss (suc n) (drop (n + 1) ds)))
      ∙ ap (λ xs. least_from found (mains_from p os ss n xs)) (sym (drop_at ds n d h))

  -- no object is reported where the package isn't `main`
  pub mains_none : is_main_package p ≡ false → (n : ℕ) (ds : List Declared) → mains_from p os ss n ds ≡ []
  mains_none e n [] = refl
  mains_none e n (d ∷ ds) =
      ap (λ b. failures_at p d.file (fault_if ((b && same_text (text_at p d.file d.name) (codes "main")) && passes is_sound os ss at_once n && not (is_procedure d.entity (state_of ss n).stands)) d.name) ++ mains_from p os ss (suc n) ds) e
      ∙ mains_none e (suc n) ds
