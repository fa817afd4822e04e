-- Numberings under which plans stay, up to their locals and functions.
use Rattle.std.specs.Prelude.{◌≡◌, ℕ}
use Rattle.go_types.specs.Trees.{TypeTree}
use Rattle.go_types.specs.Relations.{Rights}
use Rattle.go_types_relations.specs.Renaming.{renamed}
use Rattle.go_types_relations.specs.Zeros.{zero_of}
use Rattle.go_typed.specs.declared.form.Form.{Form}
use Rattle.go_typed.specs.declared.form.Referent.{Referent}
use Rattle.go_typed.specs.declared.form.Referent.TheVariants as referent
use Rattle.go_typed.specs.Trees.{Label, Typeds, label_mapped, all_mapped}
use Rattle.go_meaning.specs.Planning.{plan}
use Rattle.extract_trees.specs.Numberings.{Numbering}

-- other numbers for functions alone
abbrev pub referent_moved : (ℕ → ℕ) → Referent → Referent
referent_moved s (referent.Function n) = referent.Function (s n)
referent_moved s r = r

-- Functions are numbered by s, and other numbers of declared types change no plan.
pub record Renumbers (c : Numbering) (s : ℕ → ℕ) (old new : Rights) : Type 0 where
  pub referents : (r : Referent) → c.referent r ≡ referent_moved s r
  pub zero : (t : TypeTree) → zero_of new (renamed c.type t) ≡ zero_of old t
  pub plans : (f : Form) (l : Label TypeTree) (ps : Typeds TypeTree) → plan new f (label_mapped (renamed c.type) l) (all_mapped (renamed c.type) ps) ≡ plan old f l ps
