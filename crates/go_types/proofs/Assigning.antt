-- Assignability, by numbers.
use Rattle.std.proofs.Common.{◌≡◌, ℕ, ◌<◌, inl, inr, length, subst, false}
use Rattle.std.specs.Prelude.{◌&&◌}
use Rattle.go_types.specs.Trees.{Identical, is_named}
use Rattle.go_types.specs.Relations.{Assignable, SameUnderlying}
use Rattle.go_types.specs.Tables.{Table, IsTable, type_of, rights_of}
use Rattle.go_types.specs.Changes.{Leads}
use Rattle.go_types.proofs.TypeNumbers.{number_from_identical, identical_from_number}
use Rattle.go_types.proofs.Underlyings.{leads_underlying, leads_within, one_underlying}

module _ (t : Table) (ok : IsTable t) (from to : ℕ) (from_known : from < length t.shapes) (to_known : to < length t.shapes) where
  abbrev IsAssignable : Type 0
  IsAssignable = Assignable (rights_of t) (type_of t.shapes from) (type_of t.shapes to)

  pub assignable_same : from ≡ to → IsAssignable
  assignable_same e = inl (identical_from_number t from to e)

  pub same_from_identical : Identical (type_of t.shapes from) (type_of t.shapes to) → from ≡ to
  same_from_identical h = number_from_identical t ok from to from_known to_known h

  module _ (u v : ℕ) (from_leads : Leads t from u) (to_leads : Leads t to v) where
    pub assignable_by_form : u ≡ v → (is_named (type_of t.shapes from) && is_named (type_of t.shapes to)) ≡ false → IsAssignable
    assignable_by_form e unnamed = inr (record {
      from_underlying = type_of t.shapes u;
      to_underlying = type_of t.shapes v;
      from_is = leads_underlying t ok from u from_known from_leads;
      to_is = leads_underlying t ok to v to_known to_leads;
      identical = identical_from_number t u v e;
      unnamed = unnamed;
    })

    by_form : SameUnderlying (rights_of t) (type_of t.shapes from) (type_of t.shapes to) → u ≡ v
    by_form s =
        let left = one_underlying (rights_of t) (type_of t.shapes from) s.from_underlying (type_of t.shapes u) s.from_is (leads_underlying t ok from u from_known from_leads) in
        let right = one_underlying (rights_of t) (type_of t.shapes to) s.to_underlying (type_of t.shapes v) s.to_is (leads_underlying t ok to v to_known to_leads) in
        number_from_identical t ok u v (leads_within t ok from u from_known from_leads) (leads_within t ok to v to_known to_leads) (subst (λ x. Identical x (type_of t.shapes v)) left (subst (Identical s.from_underlying) right s.identical))

    pub only_by_form : (from ≡ to → ⊥) → IsAssignable → (u ≡ v) × ((is_named (type_of t.shapes from) && is_named (type_of t.shapes to)) ≡ false)
    only_by_form other (inl h) = absurd (other (same_from_identical h))
    only_by_form other (inr s) = (by_form s, s.unnamed)
