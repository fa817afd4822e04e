-- What is known between two statements, with other numbers of declared types.
use Rattle.std.specs.Prelude.{◌≡◌, ℕ, Bool, map, is_some, slice_get}
use Rattle.std.specs.Option.{option_map}
use Rattle.go_tree.specs.declared.object.Object.{Object}
use Rattle.go_types.specs.Relations.{Rights}
use Rattle.go_types_relations.specs.Renaming.{renamed, IsOneToOne, AreRenamed}
use Rattle.go_exprs_rules.specs.Scopes.{Needed}
use Rattle.go_stmts_defs.specs.Frames.{Frame, Locals}
use Rattle.go_stmts_defs.specs.Reading.{Reading, read}
use Rattle.go_renumbering.specs.Renumbered.{stands_renamed, part_renamed}

abbrev pub locals_renamed : (ℕ → ℕ) → Locals → Locals
locals_renamed name ls = map (λ o. option_map (stands_renamed name) o) ls

-- whether there is a place for the right side of this number
abbrev pub has_place : Rights → ℕ → Bool
has_place rights n = is_some (slice_get rights n)

-- The tokens say and mean the same. What is declared stands for the same with the declared types renamed, one to one, right sides at
-- the new numbers are the old ones, renamed, and local types have their new numbers, with a place for a right side where they had one.
pub record RenamedFrames (name : ℕ → ℕ) (f g : Frame) : Type 0 where
  pub one_to_one : IsOneToOne name
  pub rights : AreRenamed name f.around.rights g.around.rights
  pub room : (n : ℕ) → has_place g.around.rights (name (f.types n)) ≡ has_place f.around.rights (f.types n)
  pub iota : g.around.iota ≡ f.around.iota
  pub texts : (i : ℕ) → g.around.texts i ≡ f.around.texts i
  pub characters : (i : ℕ) → g.around.characters i ≡ f.around.characters i
  pub objects : (i : ℕ) → g.around.objects i ≡ f.around.objects i
  pub sorts : (n : Needed) (o : Object) → g.around.sorts n o ≡ stands_renamed name (f.around.sorts n o)
  pub referents : (n : ℕ) → g.around.referents n ≡ f.around.referents n
  pub needed : g.around.needed ≡ f.around.needed
  pub limits : g.around.limits ≡ f.around.limits
  pub locals : g.locals ≡ locals_renamed name f.locals
  pub types : (n : ℕ) → g.types n ≡ name (f.types n)
  pub source : g.source ≡ f.source
  pub tag : g.tag ≡ stands_renamed name f.tag
  pub results : g.results ≡ map (renamed name) f.results

-- The same tree is read with its types renamed, the same rules fail, and the frames behind it are renamed again.
abbrev pub RenamedReadings : (ℕ → ℕ) → Reading → Reading → Type 0
RenamedReadings name (read x fs f) (read y gs g) = (y ≡ part_renamed name x) × (gs ≡ fs) × RenamedFrames name f g
