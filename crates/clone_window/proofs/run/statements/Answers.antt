use Rattle.std.proofs.Common.{◌∙◌, ap}
use Rattle.std.specs.Option.{option_map}
use Rattle.go_typed.specs.Funcs.{tree_of}
use Rattle.go_typed.specs.Views.{view}
use Rattle.clone_window.proofs.RunParts.{lists-full}
use Rattle.clone_window.proofs.run.statements.Goals as goal

pub run_of-requires : goal.run_of-requires
run_of-requires c =
    record {
      full = lists-full c.args.f.now.tokens (tree_of c.args.f.now) (view c.in-Some.list.now) c.args.window.now.list c.root-root.ensures.stands.whole (c.list.ensures ∙ ap (option_map (λ n. view n.now)) c.in-Some.is);
    }
