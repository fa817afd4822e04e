-- The objects of a package, by what is held of it.
use Rattle.std.proofs.Common.{◌≡◌, ◌∙◌, ℕ, Bool, true, false, List, ◌++◌, length, Option, Some, None, is_some, refl, ap, sym, arith}
use Rattle.std.specs.Prelude.{slice_get}
use Rattle.std.specs.Option.{option_map}
use Rattle.std.specs.List.{list_any}
use Rattle.std.specs.HashMap.{HashMap}
use Rattle.std.specs.HashMap as hash
use Rattle.go_tree.specs.declared.object.Declared.{Declared}
use Rattle.go_tree.specs.Declarations.{Found}
use Rattle.go_tree.specs.Needs.{Needed}
use Rattle.go_package_defs.specs.Declarations.{Specification}
use Rattle.go_package_defs.specs.Knowledge.{Outline, declaring, outline_by, outlines}
use Rattle.go_package_defs.specs.Sources.{Package, declared_at, needed_by, needed_from, needed_at}
use Rattle.go_needs.specs.declared.declaring.Declaring.{Declaring}
use Rattle.go_needs.specs.declared.needs.Needs.{Needs}
use Rattle.go_needs.specs.declared.owners.Owner.{Owner}
use Rattle.go_needs.specs.Declaring.{declaring_in}
use Rattle.go_needs.specs.Groups.{roots}
use Rattle.go_needs.specs.Levels.{near}
use Rattle.go_needs.specs.Objects.{with_column, owner_in}
use Rattle.go_needs.specs.Owners.{owner_of}
use Rattle.go_scopes_cycles.specs.Ranks.{Place, same_place}
use Rattle.go_needs.specs.Reached.{IsOurs, Reaches}
use Rattle.go_needs.specs.Tells.{TellsNeeds}
use Rattle.go_needs.proofs.Declares.{declares}
use Rattle.go_needs.proofs.Here.{ours_object}
use Rattle.go_needs.proofs.Maps.{some_is, map_length, at_map, from_one}

-- the declaration with another column
abbrev pub with_number : Found → ℕ → Found
with_number d c = record d { it = record (d.it) { column = c } }

-- An object has a specification, by the declaration that is found at its name, and the number of this name as its column.
pub record Holds (p : Package) (ds : List Specification) (d : Declared) (o : Owner) : Type 0 where
  pub found : Found
  pub there : declared_at d.file d.name p.declared ≡ Some found
  pub own : owner_of (with_number found (declaring ds d.file d.name).1) ≡ o

holds_by : (p : Package) (ds : List Specification) (d : Declared) (o : Owner) (f : Option Found) (x : Option Declaring) → declared_at d.file d.name p.declared ≡ f → declaring_in ds d ≡ x
    → with_column (option_map owner_of f) x ≡ Some o → Holds p ds d o
holds_by p ds d o None x fe xe e = absurd (grind (arith, e))
holds_by p ds d o (Some f) None fe xe e = absurd (grind (arith, e))
holds_by p ds d o (Some f) (Some x) fe xe e =
    record { found = f; there = fe; own = ap (λ c. owner_of (with_number f c)) (sym (declares ds 0 d.file d.name x xe).column) ∙ some_is (record { file = f.file; source = f.it.source; column = x.column }) o e }

holds : (p : Package) (ds : List Specification) (d : Declared) (o : Owner) → owner_in p.declared ds d ≡ Some o → Holds p ds d o
holds p ds d o e = holds_by p ds d o (declared_at d.file d.name p.declared) (declaring_in ds d) refl refl e

needed_there : (p : Package) (d : Declared) (c : ℕ) (f : Bool) (fd : Found) → declared_at d.file d.name p.declared ≡ Some fd → needed_at p d.file d.name c f ≡ needed_by p (record { it = with_number fd c; full = f })
needed_there p d c f fd e = ap (needed_from p c f) e

abbrev pub needed_of : Bool → Outline → List ℕ
needed_of true o = o.fully
needed_of false o = o.partly

outline_needs : (p : Package) (d : Declared) (z : Specification × ℕ) (f : Bool) → needed_of f (outline_by p d z) ≡ needed_at p d.file d.name z.1 f
outline_needs p d (s, c) true = refl
outline_needs p d (s, c) false = refl

pub outline_specification : (p : Package) (d : Declared) (z : Specification × ℕ) → (outline_by p d z).specification ≡ z.0
outline_specification p d (s, c) = refl

pub outline_column : (p : Package) (d : Declared) (z : Specification × ℕ) → (outline_by p d z).column ≡ z.1
outline_column p d (s, c) = refl

module _ (n : Needs) (p : Package) (ds : List Specification) (t : TellsNeeds n p ds) where
  abbrev pub everything : List Owner
  everything = n.owners.items ++ roots n.groups.items

  -- The declaration by which an object with this specification is found, needed in this way; and what it needs.
  pub record NeedsFound (o : Owner) (w : Outline) (g : Bool) : Type 0 where
    pub it : Needed
    pub own : owner_of it.it ≡ o
    pub way : it.full ≡ g
    pub needed : needed_of g w ≡ needed_by p it
    pub ours : IsOurs everything it.it.file it.it.it.source

  pub needs_found : (k : ℕ) (o : Owner) (w : Outline) (g : Bool) → slice_get n.owners.items k ≡ Some o → slice_get (outlines p ds) k ≡ Some w → NeedsFound o w g
  needs_found k o w g e h =
      let b = from_one Some (owner_in p.declared ds) n.owners.items p.uses.package_level k o t.owners e in
      let d = b.it in
      let z = declaring ds d.file d.name in
      let own = holds p ds d o b.is in
      let x : Needed = record { it = with_number own.found z.1; full = g } in
      let same : outline_by p d z ≡ w = some_is (outline_by p d z) w (sym (at_map (λ d. outline_by p d (declaring ds d.file d.name)) p.uses.package_level k d b.there) ∙ h) in
      record {
        it = x;
        own = own.own;
        way = refl;
        needed = ap (needed_of g) (sym same) ∙ (outline_needs p d z g ∙ needed_there p d z.1 g own.found own.there);
        ours = ours_object n.owners.items (roots n.groups.items) x.it.file x.it.it.source o k e (ap (λ v. v.file) (sym own.own)) (ap (λ v. v.source) (sym own.own));
      }

  -- what an object needs is what is reached from its specification
  pub object_reaches : {S : Type 0} (m : HashMap Place ℕ S) (f : ℕ → Bool) (k : ℕ) (o : Owner) (w : Outline) (g : Bool) → Reaches m p everything f → slice_get n.owners.items k ≡ Some o → slice_get (outlines p ds) k ≡ Some w
      → is_some (near (hash.get same_place m) o g) ≡ list_any f (needed_of g w)
  object_reaches m f k o w g r e h =
      let s = needs_found k o w g e h in
      ap (λ v. is_some (near (hash.get same_place m) v g)) (sym s.own) ∙ (ap (λ b. is_some (near (hash.get same_place m) (owner_of s.it.it) b)) (sym s.way) ∙ (r s.it s.ours ∙ ap (list_any f) (sym s.needed)))

  -- An object is declared by the specification of its outline.
  pub record DeclaredBy (k : ℕ) (x : Declaring) (w : Outline) : Type 0 where
    pub specification : slice_get ds x.specification ≡ Some w.specification
    pub column : x.column ≡ w.column

  pub declared_by : (k : ℕ) (x : Declaring) (w : Outline) → slice_get n.declaring.items k ≡ Some x → slice_get (outlines p ds) k ≡ Some w → DeclaredBy k x w
  declared_by k x w e h =
      let b = from_one Some (declaring_in ds) n.declaring.items p.uses.package_level k x t.declaring e in
      let d = b.it in
      let z = declaring ds d.file d.name in
      let same : outline_by p d z ≡ w = some_is (outline_by p d z) w (sym (at_map (λ d. outline_by p d (declaring ds d.file d.name)) p.uses.package_level k d b.there) ∙ h) in
      let i = declares ds 0 d.file d.name x b.is in
      let number = i.number in
      let offset : x.specification ≡ i.offset = omega (arith, number) in
      record {
        specification = ap (slice_get ds) offset ∙ (i.specification ∙ ap Some (sym (outline_specification p d z) ∙ ap (λ v. v.specification) same));
        column = i.column ∙ (sym (outline_column p d z) ∙ ap (λ v. v.column) same);
      }

  pub as_many_declaring : length n.declaring.items ≡ length p.uses.package_level
  as_many_declaring = sym (map_length Some n.declaring.items) ∙ (ap length t.declaring ∙ map_length (declaring_in ds) p.uses.package_level)

  pub as_many_outlines : length (outlines p ds) ≡ length p.uses.package_level
  as_many_outlines = map_length (λ d. outline_by p d (declaring ds d.file d.name)) p.uses.package_level
