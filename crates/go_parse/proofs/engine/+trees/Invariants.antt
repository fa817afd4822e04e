use Rattle.std.proofs.Common.{◌≡◌, ◌+◌, ◌-◌, ◌*◌, ◌<◌, ◌≤◌, length, drop, Option}
use Rattle.std.specs.Prelude.{slice_get, if◌then◌else◌}
use Rattle.go_tokens.specs.Tokens.{kinds}
use Rattle.go_grammar.specs.Reader.{read, grow, spell, items, turn, Tends}
use Rattle.go_grammar.specs.Symbols.{right, repeated}
use Rattle.go_grammar.specs.Trees.{Tree, kind_of, first, last, depth}
use Rattle.go_tree.specs.Views.{view}
use Rattle.go_parse.specs.Engine.{IsLow, LeadsOn, rank, is_word_first, lag}
use Rattle.go_parse.proofs.engine.+trees.Given as goal

abbrev pub decreases-items : goal.decreases-items
decreases-items l = 8 * (length l.tokens.now.tokens - l.row.last) + 5

abbrev pub decreases-joined_node : goal.decreases-joined_node
decreases-joined_node l = 8 * (length l.tokens.now.tokens - first (view l.grown.node)) + 3

abbrev pub decreases-opened_node : goal.decreases-opened_node
decreases-opened_node l = 8 * (length l.tokens.now.tokens - l.at) + 3

abbrev pub decreases-optional : goal.decreases-optional
decreases-optional l = 8 * (length l.tokens.now.tokens - l.row.last) + 5

abbrev pub decreases-spelled : goal.decreases-spelled
decreases-spelled l = 8 * (length l.tokens.now.tokens - l.row.last) + (if is_word_first l.symbols.now then 2 else 6)

abbrev pub decreases-tree : goal.decreases-tree
decreases-tree l = 8 * (length l.tokens.now.tokens - l.at) + 4

abbrev pub invariant-items-loop-alloc : goal.invariant-items-loop-alloc
invariant-items-loop-alloc l = record {
  low : IsLow l.room l.so_far;
  told : l.turned ≡ turn (repeated l.repetition) (slice_get (kinds l.tokens.tokens) l.so_far.last);
  later : l.fn.row.last ≤ l.so_far.last;
  leads : LeadsOn (λ n. items n (kinds l.tokens.tokens) l.room (repeated l.repetition) l.fn.row.last) (λ n. items n (kinds l.tokens.tokens) l.room (repeated l.repetition) l.so_far.last) l.fn.row l.so_far;
}

abbrev pub decreases-items-loop-alloc : goal.decreases-items-loop-alloc
decreases-items-loop-alloc l = length l.tokens.tokens - l.so_far.last

abbrev pub invariant-spelled-loop-symbol : goal.invariant-spelled-loop-symbol
invariant-spelled-loop-symbol l = record {
  low : IsLow l.room l.so_far;
  later : l.fn.row.last + lag l.symbols l.symbol-index ≤ l.so_far.last;
  within : lag l.symbols l.symbol-index ≡ 1 → l.fn.row.last < length l.tokens.tokens;
  leads : LeadsOn (λ n. spell n (kinds l.tokens.tokens) l.room (right l.symbols) l.fn.row.last) (λ n. spell n (kinds l.tokens.tokens) l.room (right (drop l.symbol-index l.symbols)) l.so_far.last) l.fn.row l.so_far;
}

abbrev pub invariant-tree-loop-kind : goal.invariant-tree-loop-kind
invariant-tree-loop-kind l = record {
  told : l.grown.depth ≡ depth (view l.grown.node);
  low : l.grown.depth ≤ l.room;
  begins : first (view l.grown.node) ≡ l.at;
  grows : l.at < last (view l.grown.node);
  ends : last (view l.grown.node) ≤ length l.tokens.tokens;
  leads : (x : Option Tree) → Tends (λ n. grow n (kinds l.tokens.tokens) l.room l.category (view l.grown.node)) x → Tends (λ n. read n (kinds l.tokens.tokens) l.room l.category l.at) x;
}

abbrev pub decreases-tree-loop-kind : goal.decreases-tree-loop-kind
decreases-tree-loop-kind l = 8 * (length l.tokens.tokens - last (view l.grown.node)) + rank (kind_of (view l.grown.node))
