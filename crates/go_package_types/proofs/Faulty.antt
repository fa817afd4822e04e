-- Where rules fail, as the table of types grows.
use Rattle.std.proofs.Common.{◌≡◌, ℕ, suc, ◌+◌, ◌≤◌, Bool, true, false, List, [], ◌∷◌, length, drop, Option, Some, None, refl, ap, sym, subst, ◌∙◌, arith}
use Rattle.std.specs.Prelude.{is_some}
use Rattle.std.proofs.lemmas.List.{drop_all}
use Rattle.std.specs.Option.{option_map}
use Rattle.go_base.specs.declared.fault.Fault.{Fault}
use Rattle.go_tokens.specs.Tokens.{TokenList}
use Rattle.go_tree.specs.Failures.{Failure, least_from}
use Rattle.go_types.specs.Tables.{Table, IsTable}
use Rattle.go_types_relations.specs.Extends.{Grows}
use Rattle.go_exprs_rules.specs.declared.fault.TypeFault.{TypeFault}
use Rattle.go_exprs_rules.specs.Faults.{least}
use Rattle.go_exprs_rules.specs.Scopes.{Scope}
use Rattle.go_package_defs.specs.Answer.{all_failures, failures_at, mains_from}
use Rattle.go_package_defs.specs.Declarations.{Specification}
use Rattle.go_package_defs.specs.Knowledge.{Outline, State, free_scope}
use Rattle.go_package_defs.specs.Knowledge as knowledge
use Rattle.go_package_defs.specs.Sources.{Package}
use Rattle.go_package_defs.specs.Verdicts.{expression_faults, specification_rule, is_blocked, specification_faults, specification_faults_on}
use Rattle.go_package_types.specs.Whole.{unless_failing, failing_as_whole}
use Rattle.go_package_laws.specs.Places.{EachFault}
use Rattle.go_package_rounds.specs.declared.world.World.{World}
use Rattle.go_package_rounds.specs.World.{Fits, KnownStandings}
use Rattle.go_package_rounds.proofs.Public.{fits_more, standings_more, stand_more}
use Rattle.go_package_types.specs.declared.faults.Known.{Known}
use Rattle.go_scopes.specs.Views.{failure_of}
use Rattle.go_package_types.specs.Known.{Tells}
use Rattle.go_package_types.specs.Merged.{merged, failure_in}
use Rattle.go_package_types.specs.Places.{SpecificationStands}
use Rattle.go_package_types.proofs.Merged.{least_from_append}
use Rattle.go_package_types.proofs.Noted.{nothing_fails, inner_fails, own_fails, blocked_fails}
use Rattle.go_package_types.proofs.WholeAnswers.{whole_at}

-- what is known stays known
pub tells_more : (old new : Table) → IsTable old → Grows old new → (w : World) (k : Known) (ss : List State) → KnownStandings (length old.shapes) k.sound.now → Tells old w k ss → Tells new w k ss
tells_more old new ok g w k ss known h = record {
  stands = stand_more old new ok g.extends w knowledge.is_sound k.sound.now ss known h.stands;
  rights = g.rights ∙ h.rights;
  faulty = h.faulty;
  assigning = h.assigning;
  blocked = h.blocked;
  as_many = h.as_many;
}

pub fits_grown : (old new : Table) → IsTable old → Grows old new → (w : World) → Fits old w → Fits new w
fits_grown old new ok g w h = fits_more old new ok g.extends w h

pub known_grown : (old new : Table) → IsTable old → Grows old new → (k : Known) → KnownStandings (length old.shapes) k.sound.now → KnownStandings (length new.shapes) k.sound.now
known_grown old new ok g k h = standings_more old new ok g.extends k.sound.now h

-- what is told beside a fault that may be there
abbrev pub told : Option Fault → TokenList → Option TypeFault → Option Failure
told found ts o = merged (option_map failure_of found) (option_map (failure_in ts) o)

-- ---- the rules that fail at a specification

faults_by : (p : Package) (os : List Outline) (ss : List State) (s : Scope) (d : Specification) (fs : List TypeFault) → specification_faults_on p os ss s d fs ≡ unless_failing (is_blocked p os ss d) (specification_rule s d) fs
faults_by p os ss s d [] = refl
faults_by p os ss s d (f ∷ fs) = refl

module _ (p : Package) (os : List Outline) (ss : List State) (d : Specification) where
  abbrev scope : Scope
  scope = free_scope p os ss d

  abbrev whole : Bool → List TypeFault
  whole b = failing_as_whole b scope d

  abbrev blocked : Bool
  blocked = is_blocked p os ss d

  faults_are : specification_faults p os ss d ≡ whole blocked
  faults_are = faults_by p os ss scope d (expression_faults scope d)

  pub nothing_there : (o : Option TypeFault) → o ≡ None → o ≡ least (whole false) → o ≡ least (specification_faults p os ss d)
  nothing_there o n e = n ∙ nothing_fails blocked (specification_rule scope d) (expression_faults scope d) (sym n ∙ e) ∙ ap least (sym faults_are)

  pub inner_there : (f : TypeFault) → Some f ≡ least (whole true) → Some f ≡ least (specification_faults p os ss d)
  inner_there f e = inner_fails blocked f (specification_rule scope d) (expression_faults scope d) e ∙ ap least (sym faults_are)

  pub some_there : (o : Option TypeFault) → is_some o ≡ true → o ≡ least (whole true) → o ≡ least (specification_faults p os ss d)
  some_there None n e = absurd cc
  some_there (Some f) n e = inner_there f e

  pub no_inner : (o : Option TypeFault) → is_some o ≡ false → o ≡ least (whole true) → None ≡ least (whole true)
  no_inner None n e = e
  no_inner (Some f) n e = absurd cc

  pub own_there : (o : Option TypeFault) → None ≡ least (whole true) → o ≡ least (whole false) → false ≡ blocked → o ≡ least (specification_faults p os ss d)
  own_there o n e b = own_fails blocked o (specification_rule scope d) (expression_faults scope d) n e (sym b) ∙ ap least (sym faults_are)

  pub blocked_there : None ≡ least (whole true) → true ≡ blocked → None ≡ least (specification_faults p os ss d)
  blocked_there n b = blocked_fails blocked (specification_rule scope d) (expression_faults scope d) n (sym b) ∙ ap least (sym faults_are)

  pub each_there : (q : ℕ → ℕ → Bool) → SpecificationStands q d → EachFault q (specification_faults p os ss d)
  each_there q h = subst (EachFault q) (sym faults_are) (whole_at q blocked scope d h)

  -- a fault that isn't before the one that is there changes nothing, whether or not it is blocked
  changes_by : (b : Bool) → b ≡ blocked → (found : Option Fault) (ts : TokenList) (f : TypeFault) → None ≡ least (whole true) → Some f ≡ least (whole false) → merged (option_map failure_of found) (Some (failure_in ts f)) ≡ option_map failure_of found
      → told found ts None ≡ told found ts (least (specification_faults p os ss d))
  changes_by true h found ts f n e same = ap (told found ts) (blocked_there n h)
  changes_by false h found ts f n e same = sym same ∙ ap (told found ts) (own_there (Some f) n e h)

  pub changes_nothing : (found : Option Fault) (ts : TokenList) (f : TypeFault) → None ≡ least (whole true) → Some f ≡ least (whole false) → merged (option_map failure_of found) (Some (failure_in ts f)) ≡ option_map failure_of found
      → told found ts None ≡ told found ts (least (specification_faults p os ss d))
  changes_nothing found ts f n e same = changes_by blocked refl found ts f n e same

-- ---- all specifications

module _ (p : Package) (os : List Outline) (ss : List State) (ds : List Specification) (n : ℕ) (all : Option Failure) where
  pub one_behind : (d : Specification) (found new : Option Failure) → drop n ds ≡ d ∷ drop (suc n) ds → new ≡ least_from found (failures_at p d.file (specification_faults p os ss d)) → least_from found (all_failures p os ss (drop n ds)) ≡ all
      → least_from new (all_failures p os ss (drop (n + 1) ds)) ≡ all
  one_behind d found new e step h =
      let next : n + 1 ≡ suc n = omega arith in
      let rest = all_failures p os ss (drop (suc n) ds) in
      ap (λ m. least_from new (all_failures p os ss (drop m ds))) next
      ∙ ap (λ o. least_from o rest) step
      ∙ sym (least_from_append found (failures_at p d.file (specification_faults p os ss d)) rest)
      ∙ ap (λ xs. least_from found (all_failures p os ss xs)) (sym e) ∙ h

  pub all_behind : (found : Option Failure) → length ds ≤ n → least_from found (all_failures p os ss (drop n ds)) ≡ all → least_from found (mains_from p os ss 0 p.uses.package_level) ≡ all
  all_behind found le h = ap (λ xs. least_from found (all_failures p os ss xs)) (sym (drop_all n ds le)) ∙ h
