use Rattle.std.proofs.Common.{subst}
use Rattle.go_grammar.specs.declared.kind.Category.TheVariants as category
use Rattle.go_grammar.specs.Trees.{last}
use Rattle.go_tree.specs.Contexts.{file_context}
use Rattle.go_tree.specs.Events.{events}
use Rattle.go_scopes_events.specs.Orders.{AreInOrder}
use Rattle.go_scopes_events.proofs.Rising.{derives_laid, events_order}
use Rattle.go_scopes_events.proofs.laws.names_are_in_order.Goals as goal

pub returns : goal.returns
returns c ts t f = subst (λ i. AreInOrder i (last t) (events (file_context (last t)) t)) f.begins (events_order (file_context (last t)) t (derives_laid ts t category.File f.derives))
