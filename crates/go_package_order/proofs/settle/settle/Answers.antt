use Rattle.std.proofs.Common.{length}
use Rattle.go_package_order.proofs.settle.settle.Goals as goal

pub returns : goal.returns
returns c = λ t f. record {
  all = f.all;
  sound = c.in_ok-hide_unless.ensures (length t.shapes) f.sound;
  told = c.in_ok-hide_unless-2.ensures (length t.shapes) f.told;
  rights = f.rights;
}
