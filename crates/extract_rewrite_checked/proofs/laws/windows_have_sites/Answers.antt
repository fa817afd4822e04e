use Rattle.extract_rewrite_checked.proofs.Sites.{windows_have_sites}
use Rattle.extract_rewrite_checked.proofs.laws.windows_have_sites.Goals as goal

pub returns : goal.returns
returns c = windows_have_sites c.windows_stand.ensures
