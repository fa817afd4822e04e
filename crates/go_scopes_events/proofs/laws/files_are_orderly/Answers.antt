use Rattle.std.proofs.Common.{subst}
use Rattle.go_grammar.specs.declared.kind.Category.TheVariants as category
use Rattle.go_grammar.specs.Trees.{last}
use Rattle.go_tree.specs.Contexts.{file_context}
use Rattle.go_tree.specs.Events.{events}
use Rattle.go_scopes_events.specs.Orders.{AreInOrder}
use Rattle.go_scopes_events.proofs.Rising.{derives_laid, events_order}
use Rattle.go_scopes_events.proofs.Layers.{derives_layered}
use Rattle.go_scopes_events.proofs.Nesting.{file_nested, file_follows}
use Rattle.go_scopes_events.proofs.Outer.{file_behind}
use Rattle.go_scopes_events.proofs.laws.files_are_orderly.Goals as goal

pub returns : goal.returns
returns c ts t f =
    let laid = derives_laid ts t category.File f.derives in
    let layered = derives_layered ts t category.File f.derives in
    record {
      end = last t;
      order = subst (λ i. AreInOrder i (last t) (events (file_context (last t)) t)) f.begins (events_order (file_context (last t)) t laid);
      nest = (file_nested t layered laid).nest;
      follow = file_follows t layered laid;
      behind = file_behind ts t f;
    }
