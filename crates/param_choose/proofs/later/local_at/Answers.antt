use Rattle.std.proofs.Common.{◌≡◌, ◌∙◌, Some, None, slice_get, refl, sym, ap, nat_eq}
use Rattle.std.specs.Prelude.{unwrap_or}
use Rattle.std.specs.Option.{option_copied}
use Rattle.std.specs.HashMap.{get}
use Rattle.std.proofs.lemmas.Option.{slice_get_past, slice_get_read}
use Rattle.param_choose.proofs.Ends.{at_place, second_at}
use Rattle.param_choose.proofs.later.local_at.Goals as goal

pub returns-in-Some-get : goal.returns-in-Some-get
returns-in-Some-get c = λ left h.
    let xs = c.args.others.now in
    let n = c.args.local in
    let p = c.in-Some.place.now in
    let found : get nat_eq c.args.places.now n ≡ Some p = sym c.get.ensures.value ∙ ap option_copied c.in-Some.is in
    let other : slice_get xs p ≡ Some c.in-Some-get.other.now = slice_get_read xs _ p c.in-Some-get.other.now refl c.in-Some-get.ensures.lookup.3.0 c.in-Some-get.ensures.lookup.1 in
    sym (second_at left xs n ∙ ap (λ o. at_place o xs n) (sym (h n) ∙ found) ∙ ap (λ o. unwrap_or o n) other)

pub returns-in-None-get : goal.returns-in-None-get
returns-in-None-get c = λ left h.
    let xs = c.args.others.now in
    let n = c.args.local in
    let p = c.in-Some.place.now in
    let found : get nat_eq c.args.places.now n ≡ Some p = sym c.get.ensures.value ∙ ap option_copied c.in-Some.is in
    let none : slice_get xs p ≡ None = slice_get_past xs p c.in-None-get.ensures.lookup.3 in
    sym (second_at left xs n ∙ ap (λ o. at_place o xs n) (sym (h n) ∙ found) ∙ ap (λ o. unwrap_or o n) none)
