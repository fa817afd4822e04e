-- The rules of nodes in which statements are replaced at some depth: none reads what stands in blocks and clauses.
use Rattle.std.proofs.Common.{◌≡◌, ◌∙◌, ℕ, Bool, false, List, [], ◌∷◌, Option, Some, None, refl, sym, ap, subst}
use Rattle.std.specs.Prelude.{if◌then◌else◌, take}
use Rattle.go_grammar.specs.declared.kind.Kind.{Kind}
use Rattle.go_grammar.specs.declared.kind.Kind.TheVariants as kind
use Rattle.go_grammar.specs.Trees as tree
use Rattle.go_typed.specs.declared.form.Form.{Form}
use Rattle.go_typed.specs.declared.form.Form.TheVariants as form
use Rattle.go_typed.specs.Trees.{typed, row}
use Rattle.go_typed.specs.Trees as sort
use Rattle.go_exprs_rules.specs.declared.fault.TypeFault.{TypeFault}
use Rattle.go_exprs_rules.specs.Settling.{Part}
use Rattle.go_exprs_rules.specs.Tables.{Parts, present}
use Rattle.go_stmts_defs.specs.Frames.{Frame, rights_of}
use Rattle.go_stmts_defs.specs.Laying.{layout, form_by}
use Rattle.go_stmts_defs.specs.Rules.{each, case_failing, second_condition, second_tag, loop_failing, names_in, judges, own_faults}
use Rattle.go_exprs_elsewhere.specs.Elsewhere.{Moves, form_moved, placed}
use Rattle.go_exprs_elsewhere.proofs.Public.{optional, parts, fails}
use Rattle.go_stmts_elsewhere.specs.Above.{Container, a_block, an_if, a_switch, a_for, a_range, a_case, a_default, form_in, quiet, Similar, same, loose, elsed, AllSimilar, no_parts, next_parts, IsAbove, NodeAbove}
use Rattle.go_stmts_elsewhere.specs.Frames.{PlaceKept, form_named}
use Rattle.go_stmts_elsewhere.specs.Marked.{AlongAt}
use Rattle.go_stmts_elsewhere.specs.Replaced.{Gap, ChangedPart, absent, stays, around, around_else, ChangedParts, no_more, one_more}
use Rattle.go_stmts_elsewhere.proofs.Above.{nodes_above}
use Rattle.go_stmts_elsewhere.proofs.Arranging.{form_kept}
use Rattle.go_stmts_elsewhere.proofs.Naming.{AllNamed}
use Rattle.go_stmts_elsewhere.proofs.Reading.{own_along}

-- ---- containers

pub container_moved : (m : Moves) (c : Container) → form_moved m (form_in c) ≡ form_in c
container_moved m a_block = refl
container_moved m an_if = refl
container_moved m a_switch = refl
container_moved m a_for = refl
container_moved m (a_range b n) = refl
container_moved m (a_case n) = refl
container_moved m a_default = refl

pub container_named : (l : ℕ → Bool) (c : Container) → form_named l (form_in c)
container_named l a_block = tt
container_named l an_if = tt
container_named l a_switch = tt
container_named l a_for = tt
container_named l (a_range b n) = tt
container_named l (a_case n) = tt
container_named l a_default = tt

-- ---- parts with nothing in their blocks

-- Between old parts and new ones stand the old ones without what is in their blocks: these name locals that count alone.
pub record Hollow (m : Moves) (l : ℕ → Bool) (xs ys : Parts) : Type 0 where
  pub middle : Parts
  pub old : AllSimilar xs middle
  pub new : AllSimilar (parts m middle) ys
  pub named : AllNamed l middle

record HollowPart (m : Moves) (l : ℕ → Bool) (x y : Option Part) : Type 0 where
  middle : Option Part
  old : Similar x middle
  new : Similar (optional m middle) y
  named : AllNamed l (middle ∷ [])

module _ (m : Moves) (l : ℕ → Bool) (gaps : List Gap) where
  hollow_part : (x y : Option Part) → ChangedPart m l gaps x y → HollowPart m l x y
  hollow_part x y absent = record { middle = None; old = same None; new = same None; named = tt }
  hollow_part x y (stays z n) = record { middle = Some z; old = same (Some z); new = same (Some (placed m z)); named = (n, tt) }
  hollow_part x y (around c i j a b d e z xs ys w) = record {
    middle = Some (typed (form_in c) i j (quiet a b) sort.none);
    old = loose c i j a b a b (row xs) sort.none;
    new = subst (λ f. Similar (Some (typed f (m.token i) (m.token j) (quiet a b) sort.none)) (Some (typed (form_in c) (m.token i) (m.token j) (quiet d e) (row ys)))) (sym (container_moved m c))
        (loose c (m.token i) (m.token j) a b d e sort.none (row ys));
    named = ((container_named l c, tt), tt);
  }
  hollow_part x y (around_else c i j n k a b d e s t u v z xs ys w) = record {
    middle = Some (typed (form.Held kind.Else) i j (quiet a b) (sort.more (typed (form_in c) n k (quiet d e) sort.none) sort.none));
    old = elsed c i j n k a b d e a b d e (row xs) sort.none;
    new = subst (λ f. Similar (Some (typed (form.Held kind.Else) (m.token i) (m.token j) (quiet a b) (sort.more (typed f (m.token n) (m.token k) (quiet d e) sort.none) sort.none)))
        (Some (typed (form.Held kind.Else) (m.token i) (m.token j) (quiet s t) (sort.more (typed (form_in c) (m.token n) (m.token k) (quiet u v) (row ys)) sort.none)))) (sym (container_moved m c))
        (elsed c (m.token i) (m.token j) (m.token n) (m.token k) a b d e s t u v sort.none (row ys));
    named = ((tt, ((container_named l c, tt), tt)), tt);
  }

  in_front : (x : Option Part) (xs : Parts) → AllNamed l (x ∷ []) → AllNamed l xs → AllNamed l (x ∷ xs)
  in_front None xs a b = b
  in_front (Some x) xs a b = (a.0, b)

  pub hollow : (xs ys : Parts) → ChangedParts m l gaps false xs ys → Hollow m l xs ys
  hollow xs ys (no_more b) = record { middle = []; old = no_parts; new = no_parts; named = tt }
  hollow xs ys (one_more b x y us vs c d) =
      let one = hollow_part x y c in
      let rest = hollow us vs d in
      record {
        middle = one.middle ∷ rest.middle;
        old = next_parts x one.middle us rest.middle one.old rest.old;
        new = next_parts (optional m one.middle) y (parts m rest.middle) vs one.new rest.new;
        named = in_front one.middle rest.middle one.named rest.named;
      }

-- ---- rules

place_above : (m : Moves) (k : Kind) → IsAbove k → (i j : ℕ) → PlaceKept m k i j
place_above m kind.Block w i j = tt
place_above m kind.If w i j = tt
place_above m kind.Else w i j = tt
place_above m kind.Switch w i j = tt
place_above m kind.Case w i j = tt
place_above m kind.Default w i j = tt
place_above m kind.For w i j = tt
place_above m k w i j = absurd w

-- They read right sides and the tag of a frame alone.
pub own_by : (s t : Frame) → rights_of t ≡ rights_of s → t.tag ≡ s.tag → (k : Kind) → IsAbove k → (f : Form) (i j : ℕ) (ys : Parts) → own_faults t k f i j ys ≡ own_faults s k f i j ys
own_by s t e d kind.Block w f i j ys = refl
own_by s t e d kind.Else w f i j ys = refl
own_by s t e d kind.Default w f i j ys = refl
own_by s t e d kind.If w f i j ys = ap (λ r. if judges kind.If ys then second_condition r ys else []) e
own_by s t e d kind.Switch w f i j ys = ap (λ r. if judges kind.Switch ys then second_tag r ys else []) e
own_by s t e d kind.Case w f i j ys =
    ap (λ r. if judges kind.Case ys then each (case_failing r t.tag) (take (names_in f) (present ys)) else []) e
    ∙ ap (λ z. if judges kind.Case ys then each (case_failing (rights_of s) z) (take (names_in f) (present ys)) else []) d
own_by s t e d kind.For w f i j ys = ap (λ r. if judges kind.For ys then loop_failing r f i j ys else []) e
own_by s t e d k w f i j ys = absurd w

layout_by : (s t : Frame) (k : Kind) → IsAbove k → (i : ℕ) (xs : Parts) → layout t k i xs ≡ layout s k i xs
layout_by s t kind.Block w i xs = refl
layout_by s t kind.Else w i xs = refl
layout_by s t kind.Default w i xs = refl
layout_by s t kind.If w i xs = refl
layout_by s t kind.Switch w i xs = refl
layout_by s t kind.Case w i xs = refl
layout_by s t kind.For w i xs = refl
layout_by s t k w i xs = absurd w

none_kept : (m : Moves) (fs : List TypeFault) → fs ≡ [] → fails m fs ≡ []
none_kept m fs e = ap (fails m) e

module _ (p q : ℕ → Bool) (m : Moves) (l : ℕ → Bool) (a b : Frame) (c : AlongAt p q m l a b) (k : Kind) (w : IsAbove k) (i j : ℕ) (xs ys : Parts) (h : Hollow m l xs ys) where
  abbrev old_side : NodeAbove a k i j xs h.middle
  old_side = nodes_above a k w i j xs h.middle h.old

  abbrev new_side : NodeAbove b k (m.token i) (m.token j) (parts m h.middle) ys
  new_side = nodes_above b k w (m.token i) (m.token j) (parts m h.middle) ys h.new

  pub same_form : form_by k ys ≡ form_by k xs
  same_form = new_side.formed ∙ form_kept m k h.middle ∙ old_side.formed

  abbrev of_frame : Frame → Form → ℕ → ℕ → Parts → List TypeFault
  of_frame s f u v zs = own_faults s k f u v (layout s k u zs)

  other_frame : (s t : Frame) → rights_of t ≡ rights_of s → t.tag ≡ s.tag → (f : Form) (u v : ℕ) (zs : Parts) → of_frame t f u v zs ≡ of_frame s f u v zs
  other_frame s t e d f u v zs = own_by s t e d k w f u v (layout t k u zs) ∙ ap (own_faults s k f u v) (layout_by s t k w u zs)

  pub none_fails : own_faults a k (form_by k xs) i j (layout a k i xs) ≡ [] → own_faults b k (form_by k ys) (m.token i) (m.token j) (layout b k (m.token i) ys) ≡ []
  none_fails e =
      let start : of_frame c.old (form_by k h.middle) i j h.middle ≡ [] =
      other_frame a c.old (sym c.old_same.around.rights) (sym c.old_same.tag) (form_by k h.middle) i j h.middle
      ∙ ap (λ f. of_frame a f i j h.middle) old_side.formed ∙ old_side.failing ∙ e in
      ap (λ f. of_frame b f (m.token i) (m.token j) ys) new_side.formed
      ∙ new_side.failing
      ∙ other_frame c.new b c.new_same.around.rights c.new_same.tag (form_by k (parts m h.middle)) (m.token i) (m.token j) (parts m h.middle)
      ∙ own_along m l k i j tree.none (place_above m k w i j) tt c.old c.new c.along h.middle h.named
      ∙ none_kept m (of_frame c.old (form_by k h.middle) i j h.middle) start
