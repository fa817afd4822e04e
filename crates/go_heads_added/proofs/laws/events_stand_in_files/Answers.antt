use Rattle.go_grammar.specs.declared.kind.Category.TheVariants as category
use Rattle.go_scopes_events.proofs.Public.{derives_laid}
use Rattle.go_heads_added.proofs.Within.{file_within}
use Rattle.go_heads_added.proofs.laws.events_stand_in_files.Goals as goal

pub returns : goal.returns
returns c ts t n f l = file_within n t (derives_laid ts t category.File f.derives) l
