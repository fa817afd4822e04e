use Rattle.std.proofs.Common.{◌≡◌, ℕ, List, Some, Vec, Global, map, ◌++◌, ◌∷◌, [], ◌∙◌, sym, ap, subst, length}
use Rattle.std.specs.Prelude.{slice_get}
use Rattle.std.proofs.lemmas.List.{length-map}
use Rattle.go_types.proofs.Entries.{AreKeyed, insert_last, keyed_longer, shapes_longer}
use Rattle.go_types.proofs.index.Index.add.Goals as goal

abbrev items : Vec ℕ Global → List ℕ
items v = v.items

longer : (c : goal.Joined-branch-2) → c.insert.new.self.entries ≡ c.self.inside.entries.entries ++ (c.args.key, c.args.shape) ∷ []
longer c =
    let absent : (j : ℕ) → slice_get (map (λ e. e.1) c.self.inside.entries.entries) j ≡ Some c.args.shape → ⊥ = λ j there. c.requires.absent j (ap (λ l. slice_get l j) (sym c.self.view_is) ∙ there) in
    c.in_ok-insert.ensures.entries ∙ insert_last items c.self.inside.entries.entries c.args.key c.args.shape c.self.invariant c.requires.key absent

pub invariant_of-self-2 : goal.invariant_of-self-2
invariant_of-self-2 c = subst (AreKeyed items) (sym (longer c)) (keyed_longer items c.self.inside.entries.entries c.args.key c.args.shape c.self.invariant c.requires.key)

pub returns-clause-number : goal.returns-clause-number
returns-clause-number c = record {
  absent = c.requires.absent;
  last = (c.len-number.ensures.len ∙ sym (length-map c.self.inside.entries.entries (λ e. e.1))) ∙ ap length c.self.view_is;
  longer = (ap (map (λ e. e.1)) (longer c) ∙ shapes_longer items c.self.inside.entries.entries c.args.key c.args.shape) ∙ ap (λ l. l ++ c.args.shape ∷ []) c.self.view_is;
}
