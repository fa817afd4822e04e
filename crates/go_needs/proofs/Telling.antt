-- What is held of a package tells what its objects need.
use Rattle.std.proofs.Common.{◌≡◌, ◌∙◌, ℕ, true, List, [], ◌∷◌, map, length, max, Some, refl, ap, sym}
use Rattle.std.specs.Option.{option_map}
use Rattle.std.specs.HashMap.{HashMap}
use Rattle.std.specs.HashMap as hash
use Rattle.go_scopes_lookup.specs.Tables.{same_spot}
use Rattle.go_tree.specs.File.{FileTree}
use Rattle.go_tree.specs.Declarations.{Found}
use Rattle.go_tree.specs.Units.{Unit}
use Rattle.go_tree.specs.Uses.{UsesView, object_of}
use Rattle.go_scopes.specs.Resolve.{units_of}
use Rattle.go_package_defs.specs.Declarations.{Specification}
use Rattle.go_package_defs.specs.Sources.{Package, source_of, unit_of, number_in, number_before, declared_at}
use Rattle.go_package_defs.specs.Verdicts.{first_name, numbers_of}
use Rattle.go_needs.specs.declared.calls.Call.{Call}
use Rattle.go_needs.specs.declared.declaring.Declaring.{Declaring}
use Rattle.go_needs.specs.declared.needs.Held.{Held}
use Rattle.go_needs.specs.declared.owners.Owner.{Owner}
use Rattle.go_needs.specs.Calls.{calls_of, fits}
use Rattle.go_needs.specs.Declaring.{KnowsDeclaring, declaring_by, declaring_in}
use Rattle.go_needs.specs.Groups.{group_view, numbers_in, group_by, group_in, roots}
use Rattle.go_needs.specs.Objects.{KnowsOwners, with_column, owner_by, owner_in}
use Rattle.go_needs.specs.Owners.{owner_of}
use Rattle.go_needs.specs.Reached.{AreCalls}
use Rattle.go_needs.specs.Tells.{TellsDeclared, all_owners, names_asked}
use Rattle.go_needs.proofs.Maps.{map_length, map_same}

-- the files as names see them
pub units_same : (fs : List FileTree) → map unit_of (map source_of fs) ≡ units_of fs
units_same [] = refl
units_same (f ∷ fs) = ap (λ us. unit_of (source_of f) ∷ us) (units_same fs)

numbers_same : (p : Package) (n : ℕ) (ts : List ℕ) → numbers_in p.uses n ts ≡ numbers_of p n ts
numbers_same p n [] = refl
numbers_same p n (t ∷ ts) = ap (number_before (number_in (object_of p.uses n t))) (numbers_same p n ts)

pub declared_told : {S T : Type 0} (h : Held) (p : Package) (m : HashMap (ℕ × ℕ) Owner S) (w : HashMap (ℕ × ℕ) Declaring T) (ds : List Specification) (u : UsesView) (fs : List Found)
    → p.uses ≡ u → p.declared ≡ fs → KnowsDeclaring w ds → KnowsOwners m fs
    → map Some h.declaring.items ≡ map (declaring_by w) u.package_level
    → map Some h.owners.items ≡ map (owner_by m w) u.package_level
    → map group_view h.groups.items ≡ map (group_by u m) ds
    → TellsDeclared h p ds
declared_told h p m w ds u fs pu pf kd ko hd ho hg =
    let owned : (k t : ℕ) → hash.get same_spot m (k, t) ≡ option_map owner_of (declared_at k t p.declared) = λ k t. ko k t ∙ ap (λ l. option_map owner_of (declared_at k t l)) (sym pf) in
    record {
      declaring = hd ∙ (ap (λ v. map (declaring_by w) v.package_level) (sym pu) ∙ map_same (declaring_by w) (declaring_in ds) p.uses.package_level (λ d. kd d.file d.name));
      owners = ho ∙ (ap (λ v. map (owner_by m w) v.package_level) (sym pu)
          ∙ map_same (owner_by m w) (owner_in p.declared ds) p.uses.package_level (λ d. ap (λ o. with_column o (declaring_by w d)) (owned d.file d.name)
          ∙ ap (with_column (option_map owner_of (declared_at d.file d.name p.declared))) (kd d.file d.name)));
      groups = hg ∙ (ap (λ v. map (group_by v m) ds) (sym pu) ∙ map_same (group_by p.uses m) (group_in p) ds (λ d. group_same d (owned d.file (first_name d.names))));
    }
  where
    group_same : (d : Specification) → hash.get same_spot m (d.file, first_name d.names) ≡ option_map owner_of (declared_at d.file (first_name d.names) p.declared) → group_by p.uses m d ≡ group_in p d
    group_same d e =
        ap (λ ns. record { numbers = ns; columns = max (length d.names) (length d.values); root = hash.get same_spot m (d.file, first_name d.names) }) (numbers_same p d.file d.names)
        ∙ ap (λ r. record { numbers = numbers_of p d.file d.names; columns = max (length d.names) (length d.values); root = r }) e

pub are_calls : (h : Held) (p : Package) (ds : List Specification) (us : List Unit) (cs : List Call) → TellsDeclared h p ds → p.asked ≡ names_asked us
    → cs ≡ calls_of p.uses (all_owners h) (names_asked us)
    → fits p.uses h.owners.items (all_owners h) (names_asked us) ≡ true
    → AreCalls p h.owners.items (all_owners h) cs
are_calls h p ds us cs told pa hc hf = record {
  calls = hc ∙ ap (calls_of p.uses (all_owners h)) (sym pa);
  fit = ap (fits p.uses h.owners.items (all_owners h)) pa ∙ hf;
  as_many = sym (map_length Some h.owners.items) ∙ (ap length told.owners ∙ map_length (owner_in p.declared ds) p.uses.package_level);
  others = roots h.groups.items;
  among = refl;
}
