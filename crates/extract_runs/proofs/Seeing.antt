-- What a plan sees of copied parts.
use Rattle.std.proofs.Common.{◌≡◌, ℕ, List, [], ◌∷◌, refl, sym, ap, ◌∙◌, Option, Some, None}
use Rattle.std.specs.Prelude.{Bool, true, false, ◌&&◌, ◌||◌, not}
use Rattle.go_types.specs.Trees.{TypeTree}
use Rattle.go_types.specs.Relations.{Rights}
use Rattle.go_types_relations.specs.Renaming.{renamed}
use Rattle.go_typed.specs.declared.form.Form.{Form}
use Rattle.go_typed.specs.declared.form.Form.TheVariants as form
use Rattle.go_typed.specs.Trees.{Sort, Constant, Label, typed, Typeds, none, more, skip, sort_mapped, mapped, all_mapped}
use Rattle.go_typed.specs.Forms.{is_default}
use Rattle.go_meaning.specs.Planning.{sort_type, form_plan}
use Rattle.go_exprs_rules.specs.Tables.{is_call}
use Rattle.clone_window.specs.Masses.{is_constant, is_expression, is_constant_expression, is_hole, is_inside}
use Rattle.extract_trees.specs.Numberings.{Numbering, form_numbered, any_calls, calls_over, first_sort, sort_over, label_numbered, node_numbered}
use Rattle.extract_trees.specs.Copied.{value_of, parameter_at, copy_over, all_copied}
use Rattle.go_meaning_simulation.specs.Seen.{Seen, Callee, callee_of, key_of, seen_of, seen}
use Rattle.go_meaning_simulation.proofs.Public.{sight}
use Rattle.extract_runs.specs.Quiet.{IsKeyed, HasCalls, AreQuiet}

pub default_numbered : (c : Numbering) (f : Form) → is_default (form_numbered c f) ≡ is_default f
default_numbered c form.Default = refl
default_numbered c f = refl

pub key_numbered : (c : Numbering) (f : Form) → key_of (form_numbered c f) ≡ key_of f
key_numbered c (form.Keyed n) = refl
key_numbered c f = refl

-- an expression is no default clause and no keyed element
pub no_default : (f : Form) → is_expression f ≡ true → is_default f ≡ false
no_default form.Default e = absurd cc
no_default f e = refl

pub no_key : (f : Form) → is_expression f ≡ true → key_of f ≡ None
no_key (form.Keyed n) e = absurd cc
no_key f e = refl

first_holds : (a b : Bool) → a && b ≡ true → a ≡ true
first_holds true b e = refl
first_holds false b e = absurd cc

second_holds : (a b : Bool) → a && b ≡ true → b ≡ true
second_holds true b e = e
second_holds false b e = absurd cc

pub hole_expression : (a : Bool) (f : Form) (l : Label TypeTree) → is_hole a f l ≡ true → is_expression f ≡ true
hole_expression a f l e = first_holds (is_expression f) (is_constant l.sort) (second_holds (not a) (is_constant_expression f l) (first_holds (not a && is_constant_expression f l) (not l.varies) e))

hole_constant : (a : Bool) (f : Form) (l : Label TypeTree) → is_hole a f l ≡ true → is_constant l.sort ≡ true
hole_constant a f l e = second_holds (is_expression f) (is_constant l.sort) (second_holds (not a) (is_constant_expression f l) (first_holds (not a && is_constant_expression f l) (not l.varies) e))

type_of_value : (g : TypeTree → TypeTree) (s : Sort TypeTree) → is_constant s ≡ true → sort_type (sort_mapped g (value_of s)) ≡ sort_type (sort_mapped g s)
type_of_value g (Constant t v) e = refl
type_of_value g s e = refl

callee_of_value : (g : TypeTree → TypeTree) (s : Sort TypeTree) → is_constant s ≡ true → callee_of (sort_mapped g (value_of s)) ≡ callee_of (sort_mapped g s)
callee_of_value g (Constant t v) e = refl
callee_of_value g s e = refl

abbrev told : TypeTree → Callee → Bool → Bool → Option ℕ → Seen
told t k b d o = record { type = t; callee = k; calls = b; default = d; key = o }

module _ (c : Numbering) where
  abbrev g : TypeTree → TypeTree
  g = renamed c.type

  -- what the first of these parts is told to be
  abbrev first_type : List (Option Seen) → TypeTree → TypeTree
  first_type (Some x ∷ os) t = x.type
  first_type os t = t

  abbrev first_callee : List (Option Seen) → Callee → Callee
  first_callee (Some x ∷ os) k = x.callee
  first_callee os k = k

  type_first : (s : Sort TypeTree) (qs : Typeds TypeTree) → sort_type (first_sort s qs) ≡ first_type (seen qs) (sort_type s)
  type_first s none = refl
  type_first s (skip qs) = refl
  type_first s (more (typed f i j l ps) qs) = refl

  callee_first : (s : Sort TypeTree) (qs : Typeds TypeTree) → callee_of (first_sort s qs) ≡ first_callee (seen qs) (callee_of s)
  callee_first s none = refl
  callee_first s (skip qs) = refl
  callee_first s (more (typed f i j l ps) qs) = refl

  mapped_type : (n : ℕ) (s : Sort TypeTree) (ps : Typeds TypeTree) → IsKeyed (form.Keyed n) s ps → first_type (seen (all_mapped g ps)) (sort_type (sort_mapped g s)) ≡ sort_type (sort_mapped g s)
  mapped_type n s none k = refl
  mapped_type n s (skip ps) k = refl
  mapped_type n s (more (typed f i j l qs) ps) k = ap (λ x. sort_type (sort_mapped g x)) (sym k)

  mapped_callee : (n : ℕ) (s : Sort TypeTree) (ps : Typeds TypeTree) → IsKeyed (form.Keyed n) s ps → first_callee (seen (all_mapped g ps)) (callee_of (sort_mapped g s)) ≡ callee_of (sort_mapped g s)
  mapped_callee n s none k = refl
  mapped_callee n s (skip ps) k = refl
  mapped_callee n s (more (typed f i j l qs) ps) k = ap (λ x. callee_of (sort_mapped g x)) (sym k)

  over_type : (f : Form) (s : Sort TypeTree) (ps qs : Typeds TypeTree) → seen qs ≡ seen (all_mapped g ps) → IsKeyed f s ps → sort_type (sort_over f (sort_mapped g s) qs) ≡ sort_type (sort_mapped g s)
  over_type (form.Keyed n) s ps qs e k = type_first (sort_mapped g s) qs ∙ ap (λ os. first_type os (sort_type (sort_mapped g s))) e ∙ mapped_type n s ps k
  over_type f s ps qs e k = refl

  over_callee : (f : Form) (s : Sort TypeTree) (ps qs : Typeds TypeTree) → seen qs ≡ seen (all_mapped g ps) → IsKeyed f s ps → callee_of (sort_over f (sort_mapped g s) qs) ≡ callee_of (sort_mapped g s)
  over_callee (form.Keyed n) s ps qs e k = callee_first (sort_mapped g s) qs ∙ ap (λ os. first_callee os (callee_of (sort_mapped g s))) e ∙ mapped_callee n s ps k
  over_callee f s ps qs e k = refl

  -- ---- whether a part calls

  abbrev heard : List (Option Seen) → Bool
  heard [] = false
  heard (None ∷ os) = heard os
  heard (Some x ∷ os) = x.calls || heard os

  -- told whether the node is a call itself, and whether it called
  abbrev over_heard : Bool → Bool → List (Option Seen) → Bool
  over_heard own v [] = v
  over_heard own v (o ∷ os) = own || heard (o ∷ os)

  any_heard : (qs : Typeds TypeTree) → any_calls qs ≡ heard (seen qs)
  any_heard none = refl
  any_heard (more (typed f i j l ps) qs) = ap (λ b. l.calls || b) (any_heard qs)
  any_heard (skip qs) = any_heard qs

  over_is_heard : (f : Form) (s : Sort TypeTree) (v : Bool) (qs : Typeds TypeTree) → calls_over f s v qs ≡ over_heard (is_call f && not (is_constant s)) v (seen qs)
  over_is_heard f s v none = refl
  over_is_heard f s v (more (typed f1 i j l ps) qs) = ap (λ b. (is_call f && not (is_constant s)) || b) (any_heard (more (typed f1 i j l ps) qs))
  over_is_heard f s v (skip qs) = ap (λ b. (is_call f && not (is_constant s)) || b) (any_heard qs)

  heard_mapped : (ps : Typeds TypeTree) → heard (seen (all_mapped g ps)) ≡ heard (seen ps)
  heard_mapped none = refl
  heard_mapped (more (typed f i j l qs) ps) = ap (λ b. l.calls || b) (heard_mapped ps)
  heard_mapped (skip ps) = heard_mapped ps

  over_mapped : (own v : Bool) (ps : Typeds TypeTree) → over_heard own v (seen (all_mapped g ps)) ≡ over_heard own v (seen ps)
  over_mapped own v none = refl
  over_mapped own v (more (typed f i j l qs) ps) = ap (λ b. own || (l.calls || b)) (heard_mapped ps)
  over_mapped own v (skip ps) = ap (λ b. own || b) (heard_mapped ps)

  constant_mapped : (s : Sort TypeTree) → is_constant (sort_mapped g s) ≡ is_constant s
  constant_mapped (Constant t v) = refl
  constant_mapped s = refl

  own_stays : (f : Form) (s : Sort TypeTree) (qs : Typeds TypeTree) → (is_call f && not (is_constant (sort_over f (sort_mapped g s) qs))) ≡ (is_call f && not (is_constant s))
  own_stays form.Call s qs = ap (λ b. not b) (constant_mapped s)
  own_stays f s qs = refl

  calls_stay : (f : Form) (l : Label TypeTree) (ps qs : Typeds TypeTree) → seen qs ≡ seen (all_mapped g ps) → HasCalls f l ps → calls_over f (sort_over f (sort_mapped g l.sort) qs) l.calls qs ≡ l.calls
  calls_stay f l ps qs same h =
      over_is_heard f (sort_over f (sort_mapped g l.sort) qs) l.calls qs
      ∙ ap (λ b. over_heard b l.calls (seen qs)) (own_stays f l.sort qs)
      ∙ ap (over_heard (is_call f && not (is_constant l.sort)) l.calls) same
      ∙ over_mapped (is_call f && not (is_constant l.sort)) l.calls ps
      ∙ sym (over_is_heard f l.sort l.calls ps)
      ∙ h

  pub numbered_seen : (f : Form) (i j : ℕ) (l : Label TypeTree) (ps qs : Typeds TypeTree) → seen qs ≡ seen (all_mapped g ps) → HasCalls f l ps → IsKeyed f l.sort ps → seen_of (node_numbered c f i j l qs) ≡ seen_of (mapped g (typed f i j l ps))
  numbered_seen f i j l ps qs same h k =
      ap (λ t. told t (callee_of (sort_over f (sort_mapped g l.sort) qs)) (label_numbered c f l qs).calls (is_default (form_numbered c f)) (key_of (form_numbered c f))) (over_type f l.sort ps qs same k)
      ∙ ap (λ x. told (sort_type (sort_mapped g l.sort)) x (label_numbered c f l qs).calls (is_default (form_numbered c f)) (key_of (form_numbered c f))) (over_callee f l.sort ps qs same k)
      ∙ ap (λ b. told (sort_type (sort_mapped g l.sort)) (callee_of (sort_mapped g l.sort)) b (is_default (form_numbered c f)) (key_of (form_numbered c f))) (calls_stay f l ps qs same h)
      ∙ ap (λ d. told (sort_type (sort_mapped g l.sort)) (callee_of (sort_mapped g l.sort)) l.calls d (key_of (form_numbered c f))) (default_numbered c f)
      ∙ ap (told (sort_type (sort_mapped g l.sort)) (callee_of (sort_mapped g l.sort)) l.calls (is_default f)) (key_numbered c f)

  over : (a : Bool) (f : Form) (i j : ℕ) (l : Label TypeTree) (ps qs : Typeds TypeTree) → seen qs ≡ seen (all_mapped g ps) → HasCalls f l ps → IsKeyed f l.sort ps → (is_hole a f l ≡ true → l.calls ≡ false) → (b : Bool) → is_hole a f l ≡ b → seen_of (copy_over c (parameter_at c b i) f i j l qs) ≡ seen_of (mapped g (typed f i j l ps))
  over a f i j l ps qs same hc k quiet false e = numbered_seen f i j l ps qs same hc k
  over a f i j l ps qs same hc k quiet true e = by_parameter (c.parameter i)
    where
      by_parameter : (p : Option ℕ) → seen_of (copy_over c p f i j l qs) ≡ seen_of (mapped g (typed f i j l ps))
      by_parameter None = numbered_seen f i j l ps qs same hc k
      by_parameter (Some p) =
          ap (λ t. told t (callee_of (sort_mapped g (value_of l.sort))) false false None) (type_of_value g l.sort (hole_constant a f l e))
          ∙ ap (λ k. told (sort_type (sort_mapped g l.sort)) k false false None) (callee_of_value g l.sort (hole_constant a f l e))
          ∙ ap (λ b. told (sort_type (sort_mapped g l.sort)) (callee_of (sort_mapped g l.sort)) b false None) (sym (quiet e))
          ∙ ap (λ d. told (sort_type (sort_mapped g l.sort)) (callee_of (sort_mapped g l.sort)) l.calls d None) (sym (no_default f (hole_expression a f l e)))
          ∙ ap (told (sort_type (sort_mapped g l.sort)) (callee_of (sort_mapped g l.sort)) l.calls (is_default f)) (sym (no_key f (hole_expression a f l e)))

  pub copied_seen : (a : Bool) (ps : Typeds TypeTree) → AreQuiet a ps → seen (all_copied c a ps) ≡ seen (all_mapped g ps)
  copied_seen a none q = refl
  copied_seen a (skip ps) q = ap (λ r. None ∷ r) (copied_seen a ps q)
  copied_seen a (more (typed f i j l qs) ps) q =
      ap (λ x. Some x ∷ seen (all_copied c a ps)) (over a f i j l qs (all_copied c (is_inside a f l) qs) (copied_seen (is_inside a f l) qs q.0.3) q.0.1 q.0.2 q.0.0 (is_hole a f l) refl) ∙ ap (λ r. Some (seen_of (mapped g (typed f i j l qs))) ∷ r) (copied_seen a ps q.1)

  pub plans_same : (a : Bool) (rights : Rights) (ps : Typeds TypeTree) → AreQuiet a ps → (f : Form) (t : TypeTree) → form_plan rights f t (all_copied c a ps) ≡ form_plan rights f t (all_mapped g ps)
  plans_same a rights ps q f t = sight rights (all_copied c a ps) (all_mapped g ps) (copied_seen a ps q) f t
