use Rattle.std.proofs.Common.{◌≡◌}
use Rattle.std.proofs.lemmas.Bool.Decides.{Decides-at}
use Rattle.go_base.specs.Name.{is_go_file_name}
use Rattle.go_base.proofs.NameLemmas.{go_file_name_decides}
use Rattle.go_base.proofs.name.Name.is_go_file.Goals as goal

pub returns-clause-form : goal.returns-clause-form
returns-clause-form c =
    let same : c.is_go_file_name.result ≡ is_go_file_name c.args.self.now = cc in
    Decides-at _ _ same (go_file_name_decides c.args.self.now)
