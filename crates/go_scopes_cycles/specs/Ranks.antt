-- Ranks of declarations: none needs one of a higher rank.
--
-- A declaration that needs only ones of lower ranks doesn't need itself. What it needs in a part of its own is compared
-- with the greatest rank of all that stands in that part.
use Rattle.std.specs.Prelude.{◌≡◌, ℕ, ◌≤◌, ◌-◌, Bool, true, false, ◌&&◌, nat_le, List, [], ◌∷◌, Option, Some, None, unwrap_or}
use Rattle.std.specs.HashMap.{HashMap}
use Rattle.std.specs.HashMap as hash
use Rattle.go_tree.specs.declared.context.Site.{Site}
use Rattle.go_tree.specs.declared.context.Site.TheVariants as site
use Rattle.go_tree.specs.declared.context.Reach.TheVariants as reach
use Rattle.go_tree.specs.Declarations.{Found}
use Rattle.go_tree.specs.Lookups.{Asked}
use Rattle.go_scopes_lookup.specs.Tables.{same_spot}
use Rattle.go_scopes_cycles.specs.Needs.{source_of}
use Rattle.go_scopes_cycles.specs.declared.ranks.Rank.{Rank}
use Rattle.go_scopes_cycles.specs.declared.ranks.Part.{Part}
use Rattle.go_scopes_cycles.specs.declared.ranks.Part.TheVariants as part
use Rattle.go_scopes_cycles.specs.contracts.ranks.PartPartialEq.TheImpl as part_eq

-- the rank of a declaration, needed in full or in part; the greatest number where there is none
abbrev pub rank_in : Option Rank → Bool → ℕ
rank_in None f = 18446744073709551615
rank_in (Some r) true = r.full
rank_in (Some r) false = r.partial

abbrev pub rank_of : {S : Type 0} → HashMap (ℕ × ℕ) Rank S → ℕ → ℕ → Bool → ℕ
rank_of m n t f = rank_in (hash.get same_spot m (n, t)) f

abbrev pub same_part : Part → Part → Bool
same_part = (part_eq.ghosts).eq

-- a part of a specification of a file
abbrev pub Place : Type 0
Place = (ℕ × ℕ) × Part

abbrev pub same_place : Place → Place → Bool
same_place a b = same_spot a.0 b.0 && same_part a.1 b.1

-- the greatest rank of what stands in a part
abbrev pub bound_of : {S : Type 0} → HashMap Place ℕ S → Place → ℕ
bound_of m k = unwrap_or (hash.get same_place m k) 0

-- the part in which a name stands that is needed in full
abbrev pub full_part : Site → Option (ℕ × Part)
full_part site.Elsewhere = None
full_part (site.Type s) = Some (s, part.Always)
full_part (site.Value s column true) = Some (s, part.Always)
full_part (site.Value s column false) = Some (s, part.Value column)
full_part (site.Right s reach.Direct) = Some (s, part.Full)
full_part (site.Right s reach.Indirect) = Some (s, part.Full)
full_part (site.Right s reach.Length) = Some (s, part.Always)

-- the same of one that is needed in part
abbrev pub partial_part : Site → Option (ℕ × Part)
partial_part (site.Right s reach.Direct) = Some (s, part.Partial)
partial_part s = None

abbrev pub part_of : Bool → Site → Option (ℕ × Part)
part_of true s = full_part s
part_of false s = partial_part s

abbrev pub own_part : Bool → Part
own_part true = part.Full
own_part false = part.Partial

-- whether what stands in the parts of a declaration's specification has no higher rank than r
abbrev pub are_within : {S : Type 0} → HashMap Place ℕ S → ℕ → Option ℕ → ℕ → Bool → ℕ → Bool
are_within m n None column f r = true
are_within m n (Some s) column f r = nat_le (bound_of m ((n, s), part.Always)) r && nat_le (bound_of m ((n, s), part.Value column)) r && nat_le (bound_of m ((n, s), own_part f)) r

-- whether what the declaration needs has no higher rank than r
abbrev pub is_within : {S : Type 0} → HashMap Place ℕ S → Found → Bool → ℕ → Bool
is_within m d f r = are_within m d.file d.it.source d.it.column f r

-- The bounds have the rank v in the part of the file n, if there is a part.
abbrev pub HasRank : {S : Type 0} → HashMap Place ℕ S → ℕ → Option (ℕ × Part) → ℕ → Type 0
HasRank m n p v = (s : ℕ) (q : Part) → p ≡ Some (s, q) → v ≤ bound_of m ((n, s), q)

-- No bound is lower than before.
abbrev pub Grows : {S : Type 0} → HashMap Place ℕ S → HashMap Place ℕ S → Type 0
Grows old new = (k : Place) → bound_of old k ≤ bound_of new k

-- The bounds have the ranks of the declaration that a name calls for.
abbrev pub Covers : {S T : Type 0} → HashMap Place ℕ S → HashMap (ℕ × ℕ) Rank T → Asked → Type 0
Covers m ranks a = (d : Found) (f : Bool) → source_of a.meaning ≡ Some d → HasRank m a.file (part_of f a.it.site) (rank_of ranks d.file d.it.name f)

abbrev pub CoversAll : {S T : Type 0} → HashMap Place ℕ S → HashMap (ℕ × ℕ) Rank T → List Asked → Type 0
CoversAll m ranks [] = Unit {0}
CoversAll m ranks (a ∷ asks) = Covers m ranks a × CoversAll m ranks asks

-- whether a declaration needs none of a higher rank than its own
abbrev pub is_ranked : {S T : Type 0} → HashMap Place ℕ S → HashMap (ℕ × ℕ) Rank T → Found → Bool
is_ranked m ranks d = is_within m d true (rank_of ranks d.file d.it.name true) && is_within m d false (rank_of ranks d.file d.it.name false)

abbrev pub is_source_ranked : {S T : Type 0} → HashMap Place ℕ S → HashMap (ℕ × ℕ) Rank T → Option Found → Bool
is_source_ranked m ranks None = true
is_source_ranked m ranks (Some d) = is_ranked m ranks d

-- whether this holds of all that the names call for
abbrev pub are_ranked : {S T : Type 0} → HashMap Place ℕ S → HashMap (ℕ × ℕ) Rank T → List Asked → Bool
are_ranked m ranks [] = true
are_ranked m ranks (a ∷ asks) = is_source_ranked m ranks (source_of a.meaning) && are_ranked m ranks asks

-- whether a declaration needs only ones of lower ranks than its own, in full and in part
abbrev pub is_above : {S T : Type 0} → HashMap Place ℕ S → HashMap (ℕ × ℕ) Rank T → Found → Bool
is_above m ranks d = nat_le 1 (rank_of ranks d.file d.it.name false) && nat_le (rank_of ranks d.file d.it.name false) (rank_of ranks d.file d.it.name true) && is_within m d false (rank_of ranks d.file d.it.name false - 1)

abbrev pub is_source_above : {S T : Type 0} → HashMap Place ℕ S → HashMap (ℕ × ℕ) Rank T → Option Found → Bool
is_source_above m ranks None = true
is_source_above m ranks (Some d) = is_above m ranks d

-- whether this holds of all that the names call for
abbrev pub are_above : {S T : Type 0} → HashMap Place ℕ S → HashMap (ℕ × ℕ) Rank T → List Asked → Bool
are_above m ranks [] = true
are_above m ranks (a ∷ asks) = is_source_above m ranks (source_of a.meaning) && are_above m ranks asks
