-- What the objects of a package stand for, in the table.
use Rattle.std.proofs.Common.{◌≡◌, ℕ, zero, suc, ◌<◌, Bool, true, false, List, [], ◌∷◌, length, map, Option, Some, None, refl, ap, subst, ◌∙◌}
use Rattle.std.specs.Prelude.{slice_get, is_some, not}
use Rattle.std.specs.List.{list_all}
use Rattle.std.specs.Option.{option_map}
use Rattle.go_tree.specs.declared.object.Declared.{Declared}
use Rattle.go_types.specs.Trees.{TypeTree}
use Rattle.go_types.specs.Relations.{Rights}
use Rattle.go_types.specs.Tables.{Table, IsTable, type_of, rights_of}
use Rattle.go_types_relations.specs.Extends.{Grows}
use Rattle.go_typed.specs.Packages.{is_there}
use Rattle.go_typed.specs.Trees as trees
use Rattle.go_typed.specs.Trees.{sort_mapped, SortHas}
use Rattle.go_typed.specs.Views.{sort_view}
use Rattle.go_exprs_rules.specs.declared.fault.TypeFault.{TypeFault}
use Rattle.go_exprs_rules.specs.Faults.{least, earlier}
use Rattle.go_exprs_rules.specs.Tables.{no_faults}
use Rattle.go_needs.specs.Passing.{is_faulty, is_misassigned}
use Rattle.go_package_defs.specs.Knowledge.{State, is_type}
use Rattle.go_package_rounds.specs.declared.held.Held.{Held}
use Rattle.go_package_rounds.specs.Held.{Summary, summary, held_seen, all_seen, AllHeld}
use Rattle.go_package_rounds.specs.declared.world.World.{World}
use Rattle.go_package_rounds.specs.World.{Shows}
use Rattle.go_package_rounds.proofs.Public.{all_stay, head_same, tail_same}
use Rattle.go_package_rounds.specs.Rights.{behind, rights_held}
use Rattle.go_package_types.specs.Answers.{HasRight, HaveRights}

-- ---- what is held, and the states

module _ (t : Table) where
  pub stands_are : (hs : List Held) (ss : List State) → all_seen t hs ≡ map summary ss → map (sort_mapped (type_of t.shapes)) (map sort_view (map (λ h. h.stands) hs)) ≡ map (λ s. s.stands) ss
  stands_are [] [] e = refl
  stands_are [] (s ∷ ss) e = absurd cc
  stands_are (h ∷ hs) [] e = absurd cc
  stands_are (h ∷ hs) (s ∷ ss) e =
      ap (λ x. x ∷ map (sort_mapped (type_of t.shapes)) (map sort_view (map (λ h. h.stands) hs))) (ap (λ (z : Summary). z.stands) (head_same (held_seen t h) (summary s) (all_seen t hs) (map summary ss) e))
      ∙ ap (λ xs. s.stands ∷ xs) (stands_are hs ss (tail_same (held_seen t h) (summary s) (all_seen t hs) (map summary ss) e))

some_earlier : (f : TypeFault) (o : Option TypeFault) → is_some (earlier (Some f) o) ≡ true
some_earlier f None = refl
some_earlier f (Some g) = refl

some_least : (fs : List TypeFault) → is_some (least fs) ≡ not (no_faults fs)
some_least [] = refl
some_least (f ∷ fs) = some_earlier f (least fs)

module _ (t : Table) where
  pub faulty_are : (hs : List Held) (ss : List State) → all_seen t hs ≡ map summary ss → map (λ h. is_some h.fault) hs ≡ map is_faulty ss
  faulty_are [] [] e = refl
  faulty_are [] (s ∷ ss) e = absurd cc
  faulty_are (h ∷ hs) [] e = absurd cc
  faulty_are (h ∷ hs) (s ∷ ss) e =
      ap (λ b. b ∷ map (λ h. is_some h.fault) hs) (ap (λ (z : Summary). is_some z.fault) (head_same (held_seen t h) (summary s) (all_seen t hs) (map summary ss) e) ∙ some_least s.faults)
      ∙ ap (λ bs. is_faulty s ∷ bs) (faulty_are hs ss (tail_same (held_seen t h) (summary s) (all_seen t hs) (map summary ss) e))

  pub misassigned_are : (hs : List Held) (ss : List State) → all_seen t hs ≡ map summary ss → map (λ h. is_some h.assigning) hs ≡ map is_misassigned ss
  misassigned_are [] [] e = refl
  misassigned_are [] (s ∷ ss) e = absurd cc
  misassigned_are (h ∷ hs) [] e = absurd cc
  misassigned_are (h ∷ hs) (s ∷ ss) e =
      ap (λ b. b ∷ map (λ h. is_some h.assigning) hs) (ap (λ (z : Summary). is_some z.assigning) (head_same (held_seen t h) (summary s) (all_seen t hs) (map summary ss) e) ∙ some_least s.assigning)
      ∙ ap (λ bs. is_misassigned s ∷ bs) (misassigned_are hs ss (tail_same (held_seen t h) (summary s) (all_seen t hs) (map summary ss) e))

  -- ---- right sides

  behind_there : (b : Bool) (h : Held) (xs : Rights) → HasRight b h → list_all is_some xs ≡ true → list_all is_some (behind b (option_map (type_of t.shapes) h.right) xs) ≡ true
  behind_there false h xs r e = e
  behind_there true h xs r e = there h.right r where
    there : (o : Option ℕ) → is_some o ≡ true → list_all is_some (option_map (type_of t.shapes) o ∷ xs) ≡ true
    there None w = absurd cc
    there (Some i) w = e

  held_there : (ds : List Declared) (hs : List Held) → HaveRights ds hs → list_all is_some (rights_held t ds hs) ≡ true
  held_there [] [] h = refl
  held_there [] (k ∷ hs) h = absurd h
  held_there (d ∷ ds) [] h = absurd h
  held_there (d ∷ ds) (k ∷ hs) h = behind_there (is_type d.entity) k (rights_held t ds hs) h.0 (held_there ds hs h.1)

  mapped_there : (f : ℕ → TypeTree) (rs : List (Option ℕ)) → list_all is_some (map (option_map f) rs) ≡ true → list_all is_there rs ≡ true
  mapped_there f [] e = refl
  mapped_there f (None ∷ rs) e = absurd cc
  mapped_there f (Some r ∷ rs) e = mapped_there f rs e

  pub all_there : (ds : List Declared) (hs : List Held) → HaveRights ds hs → rights_of t ≡ rights_held t ds hs → list_all is_there t.rights ≡ true
  unfolding rights_of
  all_there ds hs h e = mapped_there (type_of t.shapes) t.rights (ap (list_all is_some) e ∙ held_there ds hs h)

-- ---- known types

pub stands_known : (n : ℕ) (hs : List Held) → AllHeld n hs → (j : ℕ) (x : trees.Sort ℕ) → slice_get (map sort_view (map (λ h. h.stands) hs)) j ≡ Some x → SortHas (λ i. i < n) x
stands_known n [] a j x e = absurd cc
stands_known n (h ∷ hs) a zero x e = subst (SortHas (λ i. i < n)) (let is : sort_view h.stands ≡ x = cc in is) a.0.stands
stands_known n (h ∷ hs) a (suc j) x e = stands_known n hs a.1 j x e

-- in a table with more types
pub shows_more : (old new : Table) (ok : IsTable old) (g : Grows old new) (w : World) (hs : List Held) (ss : List State) → AllHeld (length old.shapes) hs → Shows old w hs ss → Shows new w hs ss
shows_more old new ok g w hs ss a h = record { states = all_stay old new ok g.extends hs a ∙ h.states; rights = g.rights ∙ h.rights; as_many = h.as_many }
