-- Objects by the way in which they are needed.
use Rattle.std.proofs.Common.{◌≡◌, ℕ, ◌<◌, ◌≤◌, List, length, map, Option, Some, None, refl, ap, sym, subst, ◌∙◌}
use Rattle.std.specs.Prelude.{slice_get}
use Rattle.std.specs.Option.{option_map}
use Rattle.std.proofs.lemmas.Option.{slice_get-map, slice_get_past}
use Rattle.go_types.specs.Tables.{Table, type_of}
use Rattle.go_typed.specs.declared.sort.Sort as program
use Rattle.go_typed.specs.Trees.{Sort}
use Rattle.go_typed.specs.Views.{KnownSort}
use Rattle.go_exprs_rules.specs.Scopes.{Needed, in_full, at_once, loosely}
use Rattle.go_exprs_rules.specs.Sorts.{Stands, known}
use Rattle.go_exprs_types.specs.declared.standing.Standing.{Standing}
use Rattle.go_exprs_types.specs.Naming.{KnownStanding, by_need, told_seen, told_or}

pub known_by_need : (n : ℕ) (x : Standing) (m : Needed) → KnownStanding n x → KnownSort n (by_need x.in_full x.at_once x.loosely m)
known_by_need n x in_full h = h.in_full
known_by_need n x at_once h = h.at_once
known_by_need n x loosely h = h.loosely

nothing_past : {A B : Type 0} (f : A → B) (xs : List A) (k : ℕ) → length xs ≤ k → slice_get (map f xs) k ≡ None
nothing_past f xs k h = slice_get-map f xs k ∙ ap (option_map f) (slice_get_past xs k h)

untold : (t : Table) (xs : List Standing) (m : Needed) (k : ℕ) → length xs ≤ k → slice_get (told_seen t xs m) k ≡ None
untold t xs in_full k h = nothing_past _ xs k h
untold t xs at_once k h = nothing_past _ xs k h
untold t xs loosely k h = nothing_past _ xs k h

-- behind the end of what is told the package says it
pub behind_told : (t : Table) (xs : List Standing) (m : Needed) (k : ℕ) (o : Option Stands) → length xs ≤ k → told_or (slice_get (told_seen t xs m) k) o ≡ known o
behind_told t xs m k o h = ap (λ z. told_or z o) (untold t xs m k h)

joined : {A B C : Type 0} (f : A → B) (g : B → C) (o : Option A) → option_map (λ x. g (f x)) o ≡ option_map g (option_map f o)
joined f g None = refl
joined f g (Some x) = refl

-- what the package says, in a table
pub mapped_there : {A B C : Type 0} (f : A → B) (g : B → C) (xs : List B) (k : ℕ) (o : Option A) → slice_get xs k ≡ option_map f o → option_map (λ x. g (f x)) o ≡ slice_get (map g xs) k
mapped_there f g xs k o e = joined f g o ∙ ap (option_map g) (sym e) ∙ sym (slice_get-map g xs k)
