use Rattle.std.proofs.Common.{◌∙◌, ap, subst}
use Rattle.go_grammar.specs.Trees.{first}
use Rattle.go_tree.specs.File.{IsFileTree}
use Rattle.go_tree.specs.Views.{view}
use Rattle.go_tree.proofs.Package.{name_behind}
use Rattle.go_tree.proofs.file.File.package_name.Goals as goal

pub returns-clause-within : goal.returns-clause-within
returns-clause-within c =
    (name_behind c.args.self.now c.first.result (subst IsFileTree c.self.view_is c.self.invariant) (c.first.ensures ∙ ap (λ f. first (view f.root)) c.self.view_is)).within

pub returns-clause-identifier : goal.returns-clause-identifier
returns-clause-identifier c =
    (name_behind c.args.self.now c.first.result (subst IsFileTree c.self.view_is c.self.invariant) (c.first.ensures ∙ ap (λ f. first (view f.root)) c.self.view_is)).identifier
