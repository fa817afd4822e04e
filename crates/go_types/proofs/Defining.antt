-- A table in which one declared type gets its right side is a table.
use Rattle.std.proofs.Common.{◌≡◌, ℕ, ◌<◌, ◌⊎◌, inl, inr, List, Option, Some, None, map, length, get_or, refl, sym, ◌∙◌, ap, subst}
use Rattle.std.specs.Prelude.{slice_get, slice_set}
use Rattle.std.specs.Option.{option_map}
use Rattle.std.proofs.lemmas.List.{length-map, length-set, map-set}
use Rattle.std.proofs.lemmas.Option.{slice_get-map, get_or_from_slice_get}
use Rattle.go_types.specs.declared.shape.Shape.{Shape}
use Rattle.go_types.specs.declared.shape.Shape.TheVariants as shape
use Rattle.go_types.specs.declared.types.Definition.{Definition}
use Rattle.go_types.specs.Trees.{TypeTree}
use Rattle.go_types.specs.Relations.{Underlying}
use Rattle.go_types.specs.Relations as relations
use Rattle.go_types.specs.Tables.{Table, IsTable, HasRightId, IsDefined, NoneContainsItself, type_of, rights_of}
use Rattle.go_types.specs.Changes.{Leads, goes, declaration, table_of, defined, rights_with, IsOpen, IsResolved}
use Rattle.go_types.proofs.Places.{get_set, get_set_other, get_set_same, get_within}
use Rattle.go_types.proofs.Carrying.{leads_also, right_definition, definition_right}
use Rattle.go_types.proofs.Underlyings.{right_within, declared_type, right_type}

-- the right side's number is that of the new definition
pub defined_table : (shapes : List Shape) (definitions : List (Option Definition)) (named n : ℕ) (d : Definition) → slice_get shapes named ≡ Some (shape.Named n) → defined (table_of shapes definitions) named d.right ≡ table_of shapes (slice_set definitions n (Some d))
defined_table shapes definitions named n d e =
    let rights = ap (λ o. rights_with o d.right (map (option_map (λ x. x.right)) definitions)) e ∙ sym (map-set (option_map (λ x. x.right)) definitions n (Some d)) in
    ap (λ (x : List (Option ℕ)). let t : Table = record { shapes = shapes; rights = x } in t) rights

module _ (shapes : List Shape) (definitions : List (Option Definition)) (n : ℕ) (d : Definition) (ok : IsResolved shapes definitions) (open_before : slice_get definitions n ≡ Some None) where
  abbrev old : Table
  old = table_of shapes definitions

  abbrev new : Table
  new = table_of shapes (slice_set definitions n (Some d))

  new_right : (m r : ℕ) → HasRightId old m r → HasRightId new m r
  new_right m r h =
      let was = right_definition shapes definitions m r h in
      let other : m ≡ n → ⊥ = λ e. let both : Some (Some was.0) ≡ Some None = sym was.1 ∙ (ap (slice_get definitions) e ∙ open_before) in cc in
      subst (HasRightId new m) was.2 (definition_right shapes (slice_set definitions n (Some d)) m was.0 (get_set_other definitions n (Some d) m (Some was.0) was.1 other))

  new_defined : (r : ℕ) → IsDefined old r → IsDefined new r
  new_defined r f m h = let right = f m h in (right.0, new_right m right.0 right.1)

  new_leads : (i u : ℕ) → i < length shapes → Leads old i u → Leads new i u
  new_leads i u l h = (leads_also old new (λ j. j < length shapes) (λ j p. p) (λ j s p e. e) (λ j m r p s k. (new_right m r k, right_within old ok.table m r k)) i u l h).0

  right_sides : d.right < length shapes → IsDefined old d.right → (m r : ℕ) → HasRightId new m r → (r < length shapes) × IsDefined new r
  right_sides within settled m r h =
      let is = right_definition shapes (slice_set definitions n (Some d)) m r h in
      elim (get_set definitions n (Some d) m (Some is.0) is.1) [
        | inl e ↦
            let side = ok.table.right_sides m r (subst (HasRightId old m) is.2 (definition_right shapes definitions m is.0 e)) in
            (side.0, new_defined r side.1)
        | inr p ↦
            let same : is.0 ≡ d = cc in
            let at : d.right ≡ r = ap (λ x. x.right) (sym same) ∙ is.2 in
            (subst (λ x. x < length shapes) at within, new_defined r (subst (IsDefined old) at settled))
      ]

  pub with_definition : d.right < length shapes → IsDefined old d.right → Leads old d.right d.underlying → d.underlying < length shapes → NoneContainsItself new → IsResolved shapes (slice_set definitions n (Some d))
  with_definition within settled leads below finite = record {
    table = record {
      parts_below = ok.table.parts_below;
      distinct = ok.table.distinct;
      numbered = ok.table.numbered;
      declarations = (length-map (slice_set definitions n (Some d)) (option_map (λ x. x.right)) ∙ length-set definitions n (Some d)) ∙ (sym (length-map definitions (option_map (λ x. x.right))) ∙ ok.table.declarations);
      right_sides = right_sides within settled;
      finite = finite;
    };
    leads = λ m x e. new_lead m x within leads below (get_set definitions n (Some d) m (Some x) e);
  }
    where
      new_lead : (m : ℕ) (x : Definition) → d.right < length shapes → Leads old d.right d.underlying → d.underlying < length shapes → (slice_get definitions m ≡ Some (Some x)) ⊎ ((m ≡ n) × (Some x ≡ Some d)) → Leads new x.right x.underlying × (x.underlying < length shapes)
      new_lead m x within leads below (inl e) =
          let before = ok.leads m x e in
          (new_leads x.right x.underlying (right_within old ok.table m x.right (definition_right shapes definitions m x e)) before.0, before.1)
      new_lead m x within leads below (inr p) =
          let same : d ≡ x = cc in
          let P : Definition → Type 0 = λ y. Leads new y.right y.underlying × (y.underlying < length shapes) in
          subst P same (new_leads d.right d.underlying within leads, below)

-- ---- the definition of a declared type

-- what has the number of a declared type is that type
pub declaration_shape : (o : Option Shape) (n : ℕ) → declaration o ≡ Some n → o ≡ Some (shape.Named n)
declaration_shape None n e = cc
declaration_shape (Some (shape.Named m)) n e = let same : m ≡ n = cc in ap (λ x. Some (shape.Named x)) same
declaration_shape (Some _) n e = cc

pub definition_leads : (shapes : List Shape) (definitions : List (Option Definition)) → IsResolved shapes definitions → (i n : ℕ) (d : Definition) → declaration (slice_get shapes i) ≡ Some n → slice_get definitions n ≡ Some (Some d) → Leads (table_of shapes definitions) i d.underlying × (d.underlying < length shapes)
definition_leads shapes definitions ok i n d e h =
    let lead = ok.leads n d h in
    (goes i n d.right d.underlying (declaration_shape (slice_get shapes i) n e) (definition_right shapes definitions n d h) lead.0, lead.1)

-- the definition that is read of a declared type with a right side
pub read_definition : (shapes : List Shape) (definitions : List (Option Definition)) (n r : ℕ) (x : Option Definition) (d : Definition) → HasRightId (table_of shapes definitions) n r → x ≡ get_or definitions n x → x ≡ Some d → slice_get definitions n ≡ Some (Some d)
read_definition shapes definitions n r x d h read is =
    let there = right_definition shapes definitions n r h in
    there.1 ∙ ap Some (sym (get_or_from_slice_get definitions n (Some there.0) x there.1) ∙ (sym read ∙ is))

open_option : (o : Option (Option Definition)) → option_map (option_map (λ x. x.right)) o ≡ Some None → o ≡ Some None
open_option None e = cc
open_option (Some None) e = refl
open_option (Some (Some d)) e = let wrong : Some d.right ≡ None = cc in cc

-- what `define` needs of a table
abbrev pub CanDefine : ℕ → ℕ → ℕ → Table → Type 0
CanDefine named right underlying t =
    IsOpen t named × (right < length t.shapes) × IsDefined t right × NoneContainsItself (defined t named right) × Leads t right underlying × (underlying < length t.shapes)

-- it has no definition yet
pub open_definition : (shapes : List Shape) (definitions : List (Option Definition)) (named n : ℕ) → declaration (slice_get shapes named) ≡ Some n → IsOpen (table_of shapes definitions) named → slice_get definitions n ≡ Some None
open_definition shapes definitions named n e o =
    let is = declaration_shape (slice_get shapes named) n e in
    let number : shape.Named o.0 ≡ shape.Named n = cc in
    let same : o.0 ≡ n = cc in
    let free : slice_get (table_of shapes definitions).rights n ≡ Some None = subst (λ m. slice_get (table_of shapes definitions).rights m ≡ Some None) same o.2 in
    open_option (slice_get definitions n) (sym (slice_get-map (option_map (λ x. x.right)) definitions n) ∙ free)

pub defined_resolved : (shapes : List Shape) (definitions : List (Option Definition)) → IsResolved shapes definitions → (named n : ℕ) (d : Definition) → declaration (slice_get shapes named) ≡ Some n → CanDefine named d.right d.underlying (table_of shapes definitions) → IsResolved shapes (slice_set definitions n (Some d))
defined_resolved shapes definitions ok named n d e can =
    let is = declaration_shape (slice_get shapes named) n e in
    with_definition shapes definitions n d ok (open_definition shapes definitions named n e can.0) can.1 can.2 can.4 can.5 (subst NoneContainsItself (defined_table shapes definitions named n d is) can.3)

-- ---- the underlying type of a declared type that gets its right side

pub defined_underlying : (t : Table) (named right : ℕ) (u : TypeTree) → IsTable t → IsOpen t named → Underlying (rights_of (defined t named right)) (type_of t.shapes right) u → Underlying (rights_of (defined t named right)) (type_of t.shapes named) u
defined_underlying t named right u ok o below =
    let rights = ap (λ x. rights_with x right t.rights) o.1 in
    let within = get_within t.rights o.0 None o.2 in
    let has : HasRightId (defined t named right) o.0 right = ap (λ l. slice_get l o.0) rights ∙ get_set_same t.rights o.0 (Some right) within in
    subst (λ x. Underlying (rights_of (defined t named right)) x u) (sym (declared_type t ok named o.0 o.1))
    (relations.through o.0 (type_of t.shapes right) u (right_type (defined t named right) o.0 right has) below)
