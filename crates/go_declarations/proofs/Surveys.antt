-- Parts that were typed, in a table with more types.
use Rattle.std.proofs.Common.{◌≡◌, length, Option, Some, None, refl, ap}
use Rattle.std.specs.Option.{option_map}
use Rattle.go_types.specs.Tables.{Table, IsTable}
use Rattle.go_types_relations.specs.Extends.{Extends}
use Rattle.go_typed.specs.Views.{seen}
use Rattle.go_exprs_engine.proofs.Public.{node_stays, node_known}
use Rattle.go_exprs_engine.specs.declared.survey_nodes.Survey.{Survey}
use Rattle.go_declarations.specs.Judged.{KnownPart}

module _ (old new : Table) (ok : IsTable old) (e : Extends old new) where
  pub part_stays : (o : Option Survey) → KnownPart (length old.shapes) o → option_map (λ w. seen new w.node) o ≡ option_map (λ w. seen old w.node) o
  part_stays None h = refl
  part_stays (Some w) h = ap (λ x. Some x) (node_stays old new ok e w.node h)

  pub part_known : (o : Option Survey) → KnownPart (length old.shapes) o → KnownPart (length new.shapes) o
  part_known None h = tt
  part_known (Some w) h = node_known old new ok e w.node h
