use Rattle.std.proofs.Common.{refl}
use Rattle.go_stmts_scopes.proofs.NamedReadings.{reading_means}
use Rattle.go_stmts_scopes.proofs.laws.names_stand_where_they_are_meant.Goals as goal

pub returns : goal.returns
returns c = λ s h t. (reading_means s.around.objects s h t refl).names
