use Rattle.go_grammar.specs.declared.kind.Category.TheVariants as category
use Rattle.go_scopes_events.proofs.Public.{derives_laid}
use Rattle.go_heads_added.proofs.Blocks.{file_in}
use Rattle.go_heads_added.proofs.laws.blocks_begin_in_files.Goals as goal

pub returns : goal.returns
returns c ts t n f l = file_in n t (derives_laid ts t category.File f.derives) l
