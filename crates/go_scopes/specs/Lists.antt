-- What the events of a file tell of the lists of its constants.
use Rattle.std.specs.Prelude.{ℕ, ◌≡◌, Bool, false, ◌&&◌, ◌||◌, not, nat_eq, List, [], ◌∷◌}
use Rattle.std.specs.HashSet as set
use Rattle.std.specs.Borrow.{Bor}
use Rattle.go_tokens.specs.Spellings.{same_text}
use Rattle.go_tree.specs.declared.event.Event.{Event}
use Rattle.go_tree.specs.declared.event.Event.TheVariants as event
use Rattle.go_tree.specs.Constants.{is_list, list_of, uses_name, hides_one}
use Rattle.go_tree.specs.Units.{is_blank}
use Rattle.go_scopes.specs.declared.lists.Lists.{Lists}
use Rattle.go_scopes.specs.Gathered.{same_name}

-- whether a constant that has the list s has the name w
abbrev pub names_one : ℕ → List ℕ → (ℕ → List ℕ) → List Event → Bool
names_one s w text [] = false
names_one s w text (event.Declaration d ∷ es) = (is_list s (list_of d) && not (is_blank (text d.name)) && same_text w (text d.name)) || names_one s w text es
names_one s w text (e ∷ es) = names_one s w text es

abbrev pub has_used : Lists → ℕ → Bor (List ℕ) → Bool
has_used ls s w = set.contains same_name ls.used (s, w)

abbrev pub has_declared : Lists → ℕ → Bor (List ℕ) → Bool
has_declared ls s w = set.contains same_name ls.declared (s, w)

abbrev pub has_hidden : Lists → ℕ → Bool
has_hidden ls s = set.contains nat_eq ls.hidden s

-- They are those that the events tell of.
pub record KnowsLists (ls : Lists) (text : ℕ → List ℕ) (es : List Event) : Type 0 where
  pub used : (s : ℕ) (w : Bor (List ℕ)) → has_used ls s w ≡ uses_name s w.now text es
  pub declared : (s : ℕ) (w : Bor (List ℕ)) → has_declared ls s w ≡ names_one s w.now text es
  pub hidden : (s : ℕ) → has_hidden ls s ≡ hides_one s text es es

-- The second lists are the first ones where the list s uses the name w too.
pub record AddsUse (old new : Lists) (s : ℕ) (w : Bor (List ℕ)) : Type 0 where
  pub used : (t : ℕ) (v : Bor (List ℕ)) → has_used new t v ≡ ((nat_eq t s && same_text v.now w.now) || has_used old t v)
  pub declared : (t : ℕ) (v : Bor (List ℕ)) → has_declared new t v ≡ has_declared old t v
  pub hidden : (t : ℕ) → has_hidden new t ≡ ((nat_eq t s && has_declared old s w) || has_hidden old t)

-- The second lists are the first ones where a constant that has the list s has the name w too.
pub record AddsConstant (old new : Lists) (s : ℕ) (w : Bor (List ℕ)) : Type 0 where
  pub used : (t : ℕ) (v : Bor (List ℕ)) → has_used new t v ≡ has_used old t v
  pub declared : (t : ℕ) (v : Bor (List ℕ)) → has_declared new t v ≡ ((nat_eq t s && not (is_blank w.now) && same_text v.now w.now) || has_declared old t v)
  pub hidden : (t : ℕ) → has_hidden new t ≡ ((nat_eq t s && not (is_blank w.now) && has_used old s w) || has_hidden old t)
