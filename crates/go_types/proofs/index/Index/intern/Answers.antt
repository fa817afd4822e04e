use Rattle.std.proofs.Common.{ℕ, List, Vec, Global, ◌∙◌, sym, ap, inl, refl}
use Rattle.std.specs.Prelude.{slice_get}
use Rattle.go_types.specs.Keys.{key}
use Rattle.go_types.proofs.Entries.{not_found, found}
use Rattle.go_types.proofs.index.Index.intern.Goals as goal

abbrev items : Vec ℕ Global → List ℕ
items v = v.items

pub add-requires-clause-absent : goal.add-requires-clause-absent
add-requires-clause-absent c j there =
    not_found items c.self.inside.entries.entries c.in_ok-key.key.items c.in_ok-copy_of-in-None.field-0 c.self.invariant (c.in_ok-key.ensures ∙ ap key (sym c.in_ok-copy_of-in-None.ensures)) (sym c.in-None.ensures.found) j (ap (λ l. slice_get l j) c.self.view_is ∙ there)

pub returns-in-Some-clause-number : goal.returns-in-Some-clause-number
returns-in-Some-clause-number c =
    inl (record {
      there = ap (λ l. slice_get l c.in-Some.number) (sym c.self.view_is) ∙ (c.in-Some.ensures.value ∙ found items c.self.inside.entries.entries c.in_ok-key.key.items c.args.shape.now c.self.invariant c.in_ok-key.ensures (sym c.in-Some.ensures.found));
      same = refl;
    })
