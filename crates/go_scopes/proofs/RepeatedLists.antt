-- The lists of events one behind the other.
use Rattle.std.proofs.Common.{◌≡◌, ◌∙◌, ℕ, refl, sym, ap, Bool, true, false, ◌&&◌, ◌||◌, not, List, [], ◌∷◌, ◌++◌}
use Rattle.go_tokens.specs.Spellings.{same_text}
use Rattle.go_tree.specs.declared.event.Event.{Event}
use Rattle.go_tree.specs.declared.event.Event.TheVariants as event
use Rattle.go_tree.specs.Constants.{is_list, list_of, list_around, uses_name, hides_one}
use Rattle.go_tree.specs.Units.{is_blank}

or_assoc : (a b c : Bool) → ((a || b) || c) ≡ (a || (b || c))
or_assoc true b c = refl
or_assoc false b c = refl

module _ (s : ℕ) (text : ℕ → List ℕ) where
  pub uses_both : (w : List ℕ) (xs ys : List Event) → uses_name s w text (xs ++ ys) ≡ (uses_name s w text xs || uses_name s w text ys)
  uses_both w [] ys = refl
  uses_both w (event.Use u ∷ xs) ys =
      let here : Bool = is_list s (list_around u) && same_text w (text u.name) in
      ap (λ b. here || b) (uses_both w xs ys) ∙ sym (or_assoc here (uses_name s w text xs) (uses_name s w text ys))
  uses_both w (e ∷ xs) ys = uses_both w xs ys

  pub hides_both : (all xs ys : List Event) → hides_one s text all (xs ++ ys) ≡ (hides_one s text all xs || hides_one s text all ys)
  hides_both all [] ys = refl
  hides_both all (event.Declaration d ∷ xs) ys =
      let here : Bool = is_list s (list_of d) && not (is_blank (text d.name)) && uses_name s (text d.name) text all in
      ap (λ b. here || b) (hides_both all xs ys) ∙ sym (or_assoc here (hides_one s text all xs) (hides_one s text all ys))
  hides_both all (e ∷ xs) ys = hides_both all xs ys

  -- two lists of events that use the same names
  pub hides_alike : (all other es : List Event) → ((w : List ℕ) → uses_name s w text all ≡ uses_name s w text other) → hides_one s text all es ≡ hides_one s text other es
  hides_alike all other [] h = refl
  hides_alike all other (event.Declaration d ∷ es) h =
      ap (λ b. (is_list s (list_of d) && not (is_blank (text d.name)) && b) || hides_one s text all es) (h (text d.name))
      ∙ ap (λ b. (is_list s (list_of d) && not (is_blank (text d.name)) && uses_name s (text d.name) text other) || b) (hides_alike all other es h)
  hides_alike all other (e ∷ es) h = hides_alike all other es h
