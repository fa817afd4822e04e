-- What holds of a table holds of one that has the same types and right sides there.
use Rattle.std.proofs.Common.{◌≡◌, ℕ, ◌<◌, List, Option, Some, None, length, refl, sym, ◌∙◌, ap}
use Rattle.std.specs.Prelude.{slice_get}
use Rattle.std.specs.Option.{option_map}
use Rattle.std.proofs.lemmas.Option.{slice_get-map}
use Rattle.go_types.specs.declared.shape.Shape.{Shape}
use Rattle.go_types.specs.declared.shape.Shape.TheVariants as shape
use Rattle.go_types.specs.declared.types.Definition.{Definition}
use Rattle.go_types.specs.Tables.{Table, HasShape, HasRightId, held, Holds, Contains, at_once, through}
use Rattle.go_types.specs.Changes.{declaration, Leads, stays, goes, table_of}
use Rattle.go_types.proofs.Places.{get_there}
use Rattle.go_types.proofs.Containment.{listed_right, right_listed}

-- ---- what a type contains

held_by_rights : (t u : Table) → ((n r : ℕ) → HasRightId t n r → HasRightId u n r) → (s : Shape) (k j : ℕ) → slice_get (held t s) k ≡ Some j → (l : ℕ) × (slice_get (held u s) l ≡ Some j)
held_by_rights t u f shape.Bool k j e = (k, e)
held_by_rights t u f shape.Text k j e = (k, e)
held_by_rights t u f (shape.Int _) k j e = (k, e)
held_by_rights t u f (shape.Array _ _) k j e = (k, e)
held_by_rights t u f (shape.Slice _) k j e = (k, e)
held_by_rights t u f (shape.Struct _) k j e = (k, e)
held_by_rights t u f (shape.Func _ _) k j e = (k, e)
held_by_rights t u f (shape.Named n) k j e = (0, right_listed (slice_get u.rights n) j (f n j (listed_right (slice_get t.rights n) k j e)))

pub holds_also : (t u : Table) (i j : ℕ) → ((s : Shape) → HasShape t i s → HasShape u i s) → ((n r : ℕ) → HasRightId t n r → HasRightId u n r) → Holds t i j → Holds u i j
holds_also t u i j same rights h =
    let there = held_by_rights t u rights h.its_shape h.place j h.held_is in
    record { its_shape = h.its_shape; shape_is = same h.its_shape h.shape_is; place = there.0; held_is = there.1 }

-- steps that stay where P holds
pub contains_also : (t u : Table) (P : ℕ → Type 0) → ((i j : ℕ) → P i → Holds t i j → Holds u i j × P j) → (i j : ℕ) → P i → Contains t i j → Contains u i j
contains_also t u P f i j p (at_once _ _ h) = at_once i j (f i j p h).0
contains_also t u P f i j p (through _ k _ h c) = let s = f i k p h in through i k j s.0 (contains_also t u P f k j s.1 c)

-- ---- by right sides

-- right sides that stay where P holds
pub leads_also : (t u : Table) (P : ℕ → Type 0) → ((i : ℕ) → P i → i < length t.shapes) → ((i : ℕ) (s : Shape) → P i → HasShape t i s → HasShape u i s) → ((i n r : ℕ) → P i → HasShape t i (shape.Named n) → HasRightId t n r → HasRightId u n r × P r) → (i v : ℕ) → P i → Leads t i v → Leads u i v × P v
leads_also t u P within same rights i v p (stays _ e) =
    let there = get_there t.shapes i (within i p) in
    let new = same i there.0 p there.1 in
    (stays i (ap declaration new ∙ (ap declaration (sym there.1) ∙ e)), p)
leads_also t u P within same rights i v p (goes _ n r _ s k l) =
    let right = rights i n r p s k in
    let rest = leads_also t u P within same rights r v right.1 l in
    (goes i n r v (same i (shape.Named n) p s) right.0 rest.0, rest.1)

-- ---- definitions

right_of_some : (o : Option (Option Definition)) (r : ℕ) → option_map (option_map (λ d. d.right)) o ≡ Some (Some r) → (d : Definition) × (o ≡ Some (Some d)) × (d.right ≡ r)
right_of_some None r e = cc
right_of_some (Some None) r e = cc
right_of_some (Some (Some d)) r e = let same : d.right ≡ r = cc in (d, refl, same)

-- a right side is that of a definition
pub right_definition : (shapes : List Shape) (definitions : List (Option Definition)) (n r : ℕ) → HasRightId (table_of shapes definitions) n r → (d : Definition) × (slice_get definitions n ≡ Some (Some d)) × (d.right ≡ r)
right_definition shapes definitions n r h =
    right_of_some (slice_get definitions n) r (sym (slice_get-map (option_map (λ d. d.right)) definitions n) ∙ h)

pub definition_right : (shapes : List Shape) (definitions : List (Option Definition)) (n : ℕ) (d : Definition) → slice_get definitions n ≡ Some (Some d) → HasRightId (table_of shapes definitions) n d.right
definition_right shapes definitions n d e = slice_get-map (option_map (λ x. x.right)) definitions n ∙ ap (option_map (option_map (λ x. x.right))) e
