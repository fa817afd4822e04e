-- What one round more finds again. Only the least faults are held of a state, but scopes read no more of it than whether there are any: so
-- states that are found from any ones that are held so are found again from themselves.
use Rattle.std.proofs.Common.{◌≡◌, cond, List, [], ◌∷◌, length, map, Option, Some, None, refl, ap, sym, ◌∙◌}
use Rattle.std.specs.Option.{option_map}
use Rattle.std.proofs.lemmas.List.{length-map}
use Rattle.go_types.specs.Tables.{Table, type_of, rights_of}
use Rattle.go_typed.specs.Views.{sort_seen}
use Rattle.go_exprs_rules.specs.declared.fault.TypeFault.{TypeFault}
use Rattle.go_exprs_rules.specs.Faults.{least}
use Rattle.go_tree.specs.declared.object.Declared.{Declared}
use Rattle.go_package_defs.specs.Knowledge.{State, is_type}
use Rattle.go_package_defs.specs.Knowledge as knowledge
use Rattle.go_package_defs.specs.Verdicts.{next_states}
use Rattle.go_package_rounds.specs.declared.held.Held.{Held}
use Rattle.go_package_rounds.specs.declared.world.World.{World}
use Rattle.go_package_rounds.specs.Held.{summary, held_seen, all_seen, AllReadAlike}
use Rattle.go_package_rounds.specs.Rights.{rights_held}
use Rattle.go_package_rounds.specs.World.{package_in, outlines_in, Shows}
use Rattle.go_package_rounds.proofs.Public.{same_summary, held_are, same_at, next_same}

abbrev listed : Option TypeFault → List TypeFault
listed None = []
listed (Some f) = f ∷ []

least_listed : (o : Option TypeFault) → o ≡ least (listed o)
least_listed None = refl
least_listed (Some f) = refl

-- states that are held so
abbrev state_held : Table → Held → State
state_held t h = record { right = option_map (type_of t.shapes) h.right; stands = sort_seen t h.stands; faults = listed h.fault; assigning = listed h.assigning }

held_is : (t : Table) (h : Held) → held_seen t h ≡ summary (state_held t h)
held_is t h = same_summary (held_seen t h) (summary (state_held t h)) refl refl (least_listed h.fault) (least_listed h.assigning)

abbrev pub states_held : Table → List Held → List State
states_held t hs = map (state_held t) hs

states_are : (t : Table) (hs : List Held) → all_seen t hs ≡ map summary (states_held t hs)
states_are t [] = refl
states_are t (h ∷ hs) = ap (λ x. x ∷ all_seen t hs) (held_is t h) ∙ ap (λ xs. summary (state_held t h) ∷ xs) (states_are t hs)

pub held_shown : (t : Table) (w : World) (hs : List Held) → length hs ≡ length w.uses.now.package_level → rights_of t ≡ rights_held t w.uses.now.package_level hs → Shows t w hs (states_held t hs)
held_shown t w hs many rights = record {
  states = states_are t hs;
  rights = rights ∙ held_are t w.uses.now.package_level hs (states_held t hs) (states_are t hs);
  as_many = length-map hs (state_held t) ∙ many;
}

-- what is read alike has the same right sides
rights_read : (t : Table) (ds : List Declared) (hs ks : List Held) → AllReadAlike hs ks → rights_held t ds hs ≡ rights_held t ds ks
rights_read t [] [] [] a = refl
rights_read t [] [] (k ∷ ks) a = refl
rights_read t [] (h ∷ hs) [] a = refl
rights_read t [] (h ∷ hs) (k ∷ ks) a = refl
rights_read t (d ∷ ds) [] [] a = refl
rights_read t (d ∷ ds) [] (k ∷ ks) a = absurd a
rights_read t (d ∷ ds) (h ∷ hs) [] a = absurd a
rights_read t (d ∷ ds) (h ∷ hs) (k ∷ ks) a =
    ap (λ r. cond (is_type d.entity) (option_map (type_of t.shapes) r ∷ rights_held t ds hs) (rights_held t ds hs)) a.0.right
    ∙ ap (λ xs. cond (is_type d.entity) (option_map (type_of t.shapes) k.right ∷ xs) xs) (rights_read t ds hs ks a.1)

module _ (t : Table) (w : World) (hs ks : List Held) (ss : List State) where
  abbrev zs : List State
  zs = next_states (package_in w) (outlines_in w) ss 0 (outlines_in w)

  module _ (alike : AllReadAlike hs ks) (before : all_seen t hs ≡ map summary ss) (found : all_seen t ks ≡ map summary zs) where
    rights_same : knowledge.rights_of (package_in w) ss ≡ knowledge.rights_of (package_in w) zs
    rights_same =
        sym (held_are t w.uses.now.package_level hs ss before) ∙ rights_read t w.uses.now.package_level hs ks alike ∙ held_are t w.uses.now.package_level ks zs found

    pub found_so : next_states (package_in w) (outlines_in w) zs 0 (outlines_in w) ≡ zs
    found_so = sym (next_same (package_in w) (outlines_in w) ss zs (same_at t hs ks ss zs alike before found) rights_same 0 (outlines_in w))
