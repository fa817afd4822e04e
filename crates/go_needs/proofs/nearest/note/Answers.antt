use Rattle.std.proofs.Common.{◌≡◌, ◌∙◌, ℕ, Bool, true, false, cond, Option, Some, None, refl, sym, ap}
use Rattle.std.specs.Prelude.{if◌then◌else◌}
use Rattle.std.specs.HashMap as hash
use Rattle.go_needs.specs.Levels.{nearer, here}
use Rattle.go_scopes_cycles.specs.Ranks.{same_place}
use Rattle.go_scopes_cycles.proofs.Public.{place_sound}
use Rattle.go_needs.proofs.nearest.note.Goals as goal

-- a level is noted where there was none
noted : (b : Bool) (l : ℕ) (old new : Option ℕ) → new ≡ cond b (Some l) old → (b ≡ true → old ≡ None) → new ≡ nearer (if b then Some l else None) old
noted true l old new e none = e ∙ ap (nearer (Some l)) (sym (none refl))
noted false l old new e none = e

pub returns-in_ok-insert-in-None : goal.returns-in_ok-insert-in-None
returns-in_ok-insert-in-None c k =
    let m = c.args.nearest.now in
    let place = c.in-Some.place in
    let level = c.in-Some-level.level in
    let new = hash.get same_place c.insert.new.self k in
    let written : new ≡ cond (same_place place k) (Some level) (hash.get same_place m k) =
    c.in_ok-insert-in-None.ensures.updates.0 k ∙ ap (λ n. cond (same_place place k) (Some level) (hash.get same_place n k)) c.get_mut.follows.holds-at-none in
    let none : same_place place k ≡ true → hash.get same_place m k ≡ None = λ e. sym (ap (hash.get same_place m) (place_sound place k e)) ∙ sym c.in-None.ensures.value in
    let here_is : here c.args.place k c.args.level ≡ here (Some place) k (Some level) = ap (λ p. here p k c.args.level) c.in-Some.is ∙ ap (here (Some place) k) c.in-Some-level.is in
    noted (same_place place k) level (hash.get same_place m k) new written none ∙ sym (ap (λ l. nearer l (hash.get same_place m k)) here_is)
