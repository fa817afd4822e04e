use Rattle.extract_names_derived.proofs.FieldsOnce.{type_free}
use Rattle.extract_names_derived.proofs.laws.printed_types_tell_members_once.Goals as goal

pub returns : goal.returns
returns c = type_free
