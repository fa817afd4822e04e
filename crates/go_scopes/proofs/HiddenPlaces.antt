-- The places of lists of which a name is hidden, one event after another.
use Rattle.std.proofs.Common.{◌≡◌, ◌∙◌, ℕ, suc, ◌+◌, ◌<◌, ◌&&◌, refl, sym, ap, subst, Option, List, [], ◌∷◌, ◌++◌, length, take, drop, get_or, drop-cons, add-one}
use Rattle.std.proofs.Math.Seq.{take-suc}
use Rattle.go_base.specs.declared.fault.FaultCode.{FaultCode}
use Rattle.go_tree.specs.declared.event.Event.{Event}
use Rattle.go_tree.specs.declared.event.Event.TheVariants as event
use Rattle.go_tree.specs.Constants.{list_of, is_hidden, is_repetition, hidden_at, hidden_lists_by}
use Rattle.go_tree.specs.Failures.{Failure}
use Rattle.go_tree.specs.Units.{Place}
use Rattle.go_scopes.specs.Noted.{noted}
use Rattle.go_scopes.proofs.Least.{noted_place_if}

module _ (c : FaultCode) (text : ℕ → List ℕ) (place : ℕ → Place) where
  noted_hidden_at : (f : Option Failure) (before : List Event) (e : Event) (ss : List Place) → noted f c (hidden_at text place before e ss) ≡ noted (noted f c (hidden_at text place before e [])) c ss
  noted_hidden_at f before (event.Declaration d) ss = noted_place_if f c (is_repetition d && is_hidden (list_of d) text before) (place d.name) ss
  noted_hidden_at f before e ss = refl

  -- one event further, where the events are read from a copy of their list
  pub noted_hidden : (f g : Option Failure) (i : ℕ) (es read : List Event) (d : Event) → read ≡ es → i < length read → g ≡ noted f c (hidden_at text place (take i es) (get_or read i d) []) → noted g c (hidden_lists_by text place (take (i + 1) es) (drop (i + 1) es)) ≡ noted f c (hidden_lists_by text place (take i es) (drop i es))
  noted_hidden f g i es read d same inside found =
      let here : i < length es = subst (λ l. i < length l) same inside in
      let e : Event = get_or es i d in
      let told : g ≡ noted f c (hidden_at text place (take i es) e []) = found ∙ ap (λ l. noted f c (hidden_at text place (take i es) (get_or l i d) [])) same in
      ap (λ k. noted g c (hidden_lists_by text place (take k es) (drop k es))) (add-one i)
      ∙ ap (λ l. noted g c (hidden_lists_by text place l (drop (suc i) es))) (take-suc es i d here)
      ∙ ap (λ x. noted x c (hidden_lists_by text place (take i es ++ e ∷ []) (drop (suc i) es))) told
      ∙ sym (noted_hidden_at f (take i es) e (hidden_lists_by text place (take i es ++ e ∷ []) (drop (suc i) es)))
      ∙ ap (λ l. noted f c (hidden_lists_by text place (take i es) l)) (sym (drop-cons es i d here))
