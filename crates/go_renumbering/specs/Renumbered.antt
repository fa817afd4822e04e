-- Scopes that differ in the numbers of declared types, and what is typed in them.
use Rattle.std.specs.Prelude.{◌≡◌, ℕ}
use Rattle.go_grammar.specs.Trees.{Tree}
use Rattle.go_typed.specs.Trees.{sort_mapped, mapped}
use Rattle.go_types_relations.specs.Renaming.{renamed, IsOneToOne, AreRenamed}
use Rattle.go_exprs_rules.specs.Names.{object_sort, object_form, declared_form}
use Rattle.go_exprs_rules.specs.Scopes.{Needed, Scope, Hint, element, member}
use Rattle.go_exprs_rules.specs.Settling.{Part}
use Rattle.go_exprs_rules.specs.Sorts.{Stands}
use Rattle.go_exprs_rules.specs.Typing.{typing, faults}

-- what a node stands for, and a typed node, with other numbers of declared types
abbrev pub stands_renamed : (ℕ → ℕ) → Stands → Stands
stands_renamed name x = sort_mapped (renamed name) x

abbrev pub part_renamed : (ℕ → ℕ) → Part → Part
part_renamed name x = mapped (renamed name) x

abbrev pub hint_renamed : (ℕ → ℕ) → Hint → Hint
hint_renamed name (element t) = element (renamed name t)
hint_renamed name (member t) = member (renamed name t)
hint_renamed name h = h

-- The tokens say the same in both scopes. What they stand for in t is what they stand for in s with the declared types renamed, one to
-- one, and the right sides of t at the new numbers are those of s, renamed.
pub record RenamedScopes (name : ℕ → ℕ) (s t : Scope) : Type 0 where
  pub one_to_one : IsOneToOne name
  pub rights : AreRenamed name s.rights t.rights
  pub texts : (i : ℕ) → t.texts i ≡ s.texts i
  pub characters : (i : ℕ) → t.characters i ≡ s.characters i
  pub standing : (n : Needed) (i : ℕ) → object_sort t n (t.objects i) ≡ stands_renamed name (object_sort s n (s.objects i))
  pub object : (i : ℕ) → object_form t (t.objects i) ≡ object_form s (s.objects i)
  pub declared : (i : ℕ) → declared_form t (t.objects i) ≡ declared_form s (s.objects i)
  pub needed : t.needed ≡ s.needed
  pub limits : t.limits ≡ s.limits

-- The tree has in t the types that it has in s, renamed, and the same rules fail in it at the same places.
pub record IsTypedRenamed (name : ℕ → ℕ) (s t : Scope) (h : Hint) (x : Tree) : Type 0 where
  pub typed : typing t (hint_renamed name h) x ≡ part_renamed name (typing s h x)
  pub failing : faults t (hint_renamed name h) x ≡ faults s h x
