use Rattle.std.proofs.Common.{◌∙◌, ap}
use Rattle.go_grammar.specs.declared.kind.Category.TheVariants as category
use Rattle.go_grammar.specs.declared.kind.Kind.TheVariants as kind
use Rattle.go_grammar.specs.Trees.{node}
use Rattle.go_tree.specs.Contexts.{file_context}
use Rattle.go_tree.specs.Events.{events}
use Rattle.go_tree.specs.Imports.{imports_fmt}
use Rattle.go_scopes_events.proofs.Public.{derives_laid}
use Rattle.go_heads_added.specs.Appended.{context_behind}
use Rattle.go_heads_added.proofs.Appended.{file_added}
use Rattle.go_heads_added.proofs.Imports.{declaration_imports_nothing, imports_kept, paths_in}
use Rattle.go_heads_added.proofs.laws.longer_files_import_the_same.Goals as goal

pub returns : goal.returns
returns c ts us i j n end a b ps d f l h g =
    let t = node kind.File i j ps in
    ap (imports_fmt b) (file_added i j end ps d)
    ∙ imports_kept n end a b (events (file_context j) t) (events (context_behind end ps d) d) g.words (paths_in n (file_context j) t (derives_laid ts t category.File f.derives) l)
    (declaration_imports_nothing us (context_behind end ps d) d h)
