use Rattle.clone_script.specs.Script.{done}
use Rattle.clone_server.specs.Made.{made_script}
use Rattle.clone_server.proofs.MadeScript.{made_done}
use Rattle.clone_server.proofs.laws.made_scripts_are_done.Goals as goal

pub returns : goal.returns
returns c o h = c.one_outcome.ensures.one made_script o done h made_done
