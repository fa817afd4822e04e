-- The members of windows, and what is written at them.
use Rattle.std.proofs.Common.{◌≡◌, ◌∙◌, ℕ, List, [], ◌∷◌, ◌++◌, Option, Some, None, refl, ap, subst}
use Rattle.std.specs.Prelude.{slice_get}
use Rattle.std.specs.List.{AllByRecursion}
use Rattle.std.specs.Option.{option_map, option_to_list}
use Rattle.go_types.specs.Trees.{TypeTree}
use Rattle.go_typed.specs.declared.window.Window.{Window}
use Rattle.go_typed.specs.Contents.{Content, FuncContent}
use Rattle.param_choose.specs.Choosing.{chosen_of}
use Rattle.param_choose.specs.Members.{Member, member_of, member_over, members_of, template_of}
use Rattle.escape_check.specs.Places.{sources_of}
use Rattle.extract_texts.specs.Texts.{call_among, call_at, call_text}
use Rattle.extract_rewrite_files.proofs.Splits.{same_some}

module _ (c : Content) where
  abbrev pub over : Window → FuncContent → Member TypeTree
  over w f = member_over c.uses w f.locals f.tokens f.tree

  -- what holds of the member of each window holds of all members
  one_of : (P : Member TypeTree → Type 0) (w : Window) (o : Option FuncContent) (ms : List (Member TypeTree)) → slice_get c.functions w.func ≡ o → ((f : FuncContent) → slice_get c.functions w.func ≡ Some f → P (over w f))
      → AllByRecursion P ms
      → AllByRecursion P (option_to_list (option_map (λ f. member_over c.uses w f.locals f.tokens f.tree) o) ++ ms)
  one_of P w None ms e p k = k
  one_of P w (Some f) ms e p k = (p f e, k)

  pub all_of : (Q : Window → Type 0) (P : Member TypeTree → Type 0) → ((w : Window) (f : FuncContent) → Q w → slice_get c.functions w.func ≡ Some f → P (over w f)) → (ws : List Window) → AllByRecursion Q ws
      → AllByRecursion P (members_of c ws)
  all_of Q P p [] q = tt
  all_of Q P p (w ∷ ws) q = one_of P w (slice_get c.functions w.func) (members_of c ws) refl (λ f e. p w f q.0 e) (all_of Q P p ws q.1)

  -- and so of the template
  one_template : (P : Member TypeTree → Type 0) (w : Window) (o : Option FuncContent) (t : Member TypeTree) → slice_get c.functions w.func ≡ o → ((f : FuncContent) → slice_get c.functions w.func ≡ Some f → P (over w f))
      → option_map (λ f. member_over c.uses w f.locals f.tokens f.tree) o ≡ Some t → P t
  one_template P w None t e p k = absurd cc
  one_template P w (Some f) t e p k = subst P (same_some (over w f) t k) (p f e)

  pub template_has : (Q : Window → Type 0) (P : Member TypeTree → Type 0) → ((w : Window) (f : FuncContent) → Q w → slice_get c.functions w.func ≡ Some f → P (over w f)) → (ws : List Window) (t : Member TypeTree)
      → AllByRecursion Q ws → template_of c ws ≡ Some t → P t
  template_has Q P p [] t q e = absurd cc
  template_has Q P p (w ∷ ws) t q e = one_template P w (slice_get c.functions w.func) t refl (λ f k. p w f q.0 k) e

  -- a member is that of its window
  pub own_member : (w : Window) (f : FuncContent) → slice_get c.functions w.func ≡ Some f → member_of c w ≡ Some (over w f)
  own_member w f e = ap (option_map (λ f. member_over c.uses w f.locals f.tokens f.tree)) e

  -- what stands at its window is its call
  pub own_call : (name : List ℕ) (ws : List Window) (t m : Member TypeTree) → template_of c ws ≡ Some t → member_of c m.window ≡ Some m → call_at c name ws m.window ≡ call_text (λ x. x) (sources_of c) name t (chosen_of c ws) m
  own_call name ws t m a b = ap (λ o. call_among c name o (chosen_of c ws) (member_of c m.window)) a ∙ ap (call_among c name (Some t) (chosen_of c ws)) b
