use Rattle.std.proofs.Common.{nat_lt}
use Rattle.indexmap.specs.IndexMap.{get}
use Rattle.go_tokens.specs.Spellings.{same_text}
use Rattle.go_scopes_lookup.specs.Stacks.{same_name}
use Rattle.go_scopes_lookup.proofs.Stacks.{one_text, block_step}
use Rattle.go_scopes_lookup.proofs.scopes.Block.put.Goals as goal

pub returns-clause-names : goal.returns-clause-names
returns-clause-names c t w =
    let block = c.args.self.now in
    let m = c.args.meaning.now in
    block_step (nat_lt t block.end) (same_name m.entry.now.name w) (same_text m.entry.now.name.now w.now) m (get same_name block.names w) (get same_name c.insert.new.self w) (one_text m.entry.now.name.now w.now) (c.in_ok-insert.ensures.updates.0 w)
