use Rattle.std.proofs.Common.{ℕ, List, Vec, Global, ◌∙◌, sym, ap}
use Rattle.std.specs.Prelude.{is_some}
use Rattle.std.specs.Option.{option_or}
use Rattle.go_types.specs.FieldPlaces.{entry_of}
use Rattle.go_types.proofs.FieldPlacing.{one_more, entered}
use Rattle.go_types.proofs.placed.note.Goals as goal

abbrev items : Vec ℕ Global → List ℕ
items v = v.items

pub returns-in_ok-insert : goal.returns-in_ok-insert
returns-in_ok-insert c w =
    let es = c.args.places.now.entries in
    let key = c.in_ok-from_slice.field-0 in
    let named = c.in_ok-from_slice.ensures.items in
    let absent = ap (λ v. is_some (entry_of items es v)) named ∙ (sym c.contains_key.ensures ∙ c.if-not-contains_key.true) in
    ap (λ fs. entry_of items fs w) c.in_ok-insert.ensures.entries
    ∙ (entered items es key w c.args.number absent
    ∙ ap (λ v. option_or (entry_of items es w) (one_more w v c.args.number)) named)
