use Rattle.go_tree.proofs.Tiles.{derives_tiles}
use Rattle.go_tree.proofs.laws.parts_lie_in_order.Goals as goal

pub returns : goal.returns
returns c = derives_tiles
