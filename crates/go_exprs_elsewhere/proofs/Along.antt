-- The scope in which tokens say and mean what other tokens do in this one.
use Rattle.std.proofs.Common.{ℕ, List, Option}
use Rattle.go_tree.specs.declared.object.Object.{Object}
use Rattle.go_typed.specs.declared.form.Referent.{Referent}
use Rattle.go_exprs_rules.specs.Scopes.{Needed, Scope}
use Rattle.go_exprs_rules.specs.Sorts.{Stands}

-- What tokens say and mean in front of the move.
pub record Meant : Type 0 where
  pub iota : ℕ
  pub texts : ℕ → List ℕ
  pub characters : ℕ → List ℕ
  pub objects : ℕ → Option Object
  pub sorts : Needed → Object → Stands
  pub referents : ℕ → Referent

-- the scope in which tokens say and mean this
abbrev pub along : Meant → Scope → Scope
along a s = record {
  rights = s.rights;
  iota = a.iota;
  texts = a.texts;
  characters = a.characters;
  objects = a.objects;
  sorts = a.sorts;
  referents = a.referents;
  needed = s.needed;
  limits = s.limits;
}
