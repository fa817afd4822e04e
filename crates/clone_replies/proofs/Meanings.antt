-- Trees and functions do the same under other numbers of declared types.
use mathlib.Core.Path.{fun_ext}
use Rattle.std.proofs.Common.{◌≡◌, ◌∙◌, refl, sym, ap, ℕ, zero, suc, List, [], ◌∷◌, length, map, Option, Some, None}
use Rattle.std.specs.Prelude.{slice_get, replicate}
use Rattle.std.specs.Option.{option_map}
use Rattle.std.proofs.lemmas.List.{length-map}
use Rattle.std.proofs.lemmas.Option.{slice_get-map}
use Rattle.go_types.specs.Trees.{TypeTree}
use Rattle.go_types.specs.Relations.{Rights}
use Rattle.go_tree.specs.Uses.{UsesView}
use Rattle.go_types_relations.specs.Renaming.{renamed}
use Rattle.go_typed.specs.declared.form.Form.{Form}
use Rattle.go_typed.specs.declared.form.Form.TheVariants as form
use Rattle.go_typed.specs.Contents.{FuncContent, func_renamed}
use Rattle.go_typed.specs.Trees.{Typed, typed, Typeds, none, more, skip, parts_of, sort_mapped, label_mapped, mapped, all_mapped}
use Rattle.go_meaning.specs.Values.{Value, NilFunction}
use Rattle.go_meaning.specs.Computations.{Comp, spend, then_do, in_order}
use Rattle.go_meaning.specs.Doings.{Doing, absent, doing_of}
use Rattle.go_meaning.specs.Plans.{Course}
use Rattle.go_meaning.specs.Planning.{part_at, is_there, plan}
use Rattle.go_meaning.specs.Meaning.{Code, Program, turned, meaning, meanings, with_arguments, entered, frame_of, has_body, called, bounded, all_bounded, program, run, run_of, start}
use Rattle.clone_replies.specs.RunContents.{code_in, program_by}
use Rattle.clone_replies.proofs.Plans.{AreTold, plan-other, there-other}

abbrev Calls : Type 0
Calls = ℕ → List Value → Comp

module _ (name : ℕ → ℕ) (old new : Rights) (told : AreTold name old new) where
  abbrev other : Typed TypeTree → Typed TypeTree
  other = mapped (renamed name)

  abbrev others : Typeds TypeTree → Typeds TypeTree
  others = all_mapped (renamed name)

  turned-other : (f : Form) (ps : Typeds TypeTree) → turned f (others ps) ≡ others (turned f ps)
  turned-other form.For none = refl
  turned-other form.For (more p ps) = refl
  turned-other form.For (skip ps) = refl
  turned-other f ps = refl

  -- ---- trees, once what calls and further turns do is the same

  module _ (call : Calls) (later later' : Typed TypeTree → Comp) (alike : (t : Typed TypeTree) → later' (other t) ≡ later t) where
    mutual
      meaning-other : (t : Typed TypeTree) → meaning new call later' (other t) ≡ meaning old call later t
      meaning-other (typed f i j l ps) =
          let there = meanings new call later' (others ps) in
          let course = plan new f (label_mapped (renamed name) l) (others ps) in
          ap (λ qs. doing_of call (later' (typed f i j (label_mapped (renamed name) l) qs)) course there) (turned-other f ps)
          ∙ ap (λ c. doing_of call c course there) (alike (typed f i j l (turned f ps)))
          ∙ ap (λ c. doing_of call (later (typed f i j l (turned f ps))) c there) (plan-other name old new told f l ps)
          ∙ ap (doing_of call (later (typed f i j l (turned f ps))) (plan old f l ps)) (meanings-other ps)

      meanings-other : (ps : Typeds TypeTree) → meanings new call later' (others ps) ≡ meanings old call later ps
      meanings-other none = refl
      meanings-other (more p ps) = ap (λ d. d ∷ meanings new call later' (others ps)) (meaning-other p) ∙ ap (λ ds. meaning old call later p ∷ ds) (meanings-other ps)
      meanings-other (skip ps) = ap (λ ds. absent ∷ ds) (meanings-other ps)

  -- ---- functions

  parts-other : (t : Typed TypeTree) → parts_of (other t) ≡ others (parts_of t)
  parts-other (typed f i j l ps) = refl

  body-other : (t : Typed TypeTree) → is_there (part_at (parts_of (other t)) 0) ≡ is_there (part_at (parts_of t) 0)
  body-other t = ap (λ ps. is_there (part_at ps 0)) (parts-other t) ∙ there-other name (parts_of t) 0

  module _ (later later' : Typed TypeTree → Comp) (alike : (t : Typed TypeTree) → later' (other t) ≡ later t) where
    entered-other : (f : FuncContent) (vs : List Value) → entered (has_body (code_in (func_renamed name f))) (frame_of (code_in (func_renamed name f)) vs) (later' (other f.tree)) ≡ entered (has_body (code_in f)) (frame_of (code_in f) vs) (later f.tree)
    entered-other f vs =
        ap (λ b. entered b (frame_of (code_in (func_renamed name f)) vs) (later' (other f.tree))) (body-other f.tree)
        ∙ ap (λ n. entered (has_body (code_in f)) (with_arguments f.parameters vs (replicate n NilFunction)) (later' (other f.tree))) (length-map f.locals (sort_mapped (renamed name)))
        ∙ ap (entered (has_body (code_in f)) (frame_of (code_in f) vs)) (alike f.tree)

    called-there : (o : Option FuncContent) (vs : List Value) → called later' vs (option_map code_in (option_map (func_renamed name) o)) ≡ called later vs (option_map code_in o)
    called-there None vs = refl
    called-there (Some f) vs = ap spend (entered-other f vs)

    called-other : (fs : List FuncContent) (n : ℕ) (vs : List Value) → called later' vs (slice_get (map code_in (map (func_renamed name) fs)) n) ≡ called later vs (slice_get (map code_in fs) n)
    called-other fs n vs =
        ap (called later' vs) (slice_get-map code_in (map (func_renamed name) fs) n ∙ ap (option_map code_in) (slice_get-map (func_renamed name) fs n))
        ∙ called-there (slice_get fs n) vs
        ∙ ap (called later vs) (sym (slice_get-map code_in fs n))

  -- ---- packages

  module _ (variables : List (Typed TypeTree)) (uses : UsesView) (fs : List FuncContent) (main : ℕ) where
    abbrev before : Program
    before = program_by old variables uses fs main

    abbrev after : Program
    after = program_by new (map other variables) uses (map (func_renamed name) fs) main

    bounded-other : (n : ℕ) (t : Typed TypeTree) → bounded after n (other t) ≡ bounded before n t
    bounded-other zero t = refl
    bounded-other (suc n) t =
        ap (λ (call : Calls). (meaning new call (bounded after n) (other t)).value) (fun_ext (λ g. fun_ext (λ vs. called-other (bounded before n) (bounded after n) (bounded-other n) fs g vs)))
        ∙ ap (λ (d : Doing). d.value) (meaning-other (λ g vs. called (bounded before n) vs (slice_get before.functions g)) (bounded before n) (bounded after n) (bounded-other n) t)

    all-other : (n : ℕ) (ts : List (Typed TypeTree)) → all_bounded after n (map other ts) ≡ all_bounded before n ts
    all-other n [] = refl
    all-other n (t ∷ ts) = ap (λ c. c ∷ all_bounded after n (map other ts)) (bounded-other n t) ∙ ap (λ cs. bounded before n t ∷ cs) (all-other n ts)

    program-other : (n : ℕ) → program after n ≡ program before n
    program-other n =
        ap (λ cs. then_do (in_order cs) (λ no. called (bounded after n) [] (slice_get after.functions main))) (all-other n variables)
        ∙ ap (λ c. then_do (in_order (all_bounded before n variables)) (λ no. c)) (called-other (bounded before n) (bounded after n) (bounded-other n) fs main [])

    pub run-other : (input : List ℕ) (turns depth : ℕ) → run after input turns depth ≡ run before input turns depth
    run-other input turns depth = ap (λ (c : Comp). run_of (c depth [] (start before input) turns)) (program-other (suc turns))
