use Rattle.extract_names.proofs.ExampleSite.{example_site}
use Rattle.extract_names.proofs.laws.the_example_is_a_site.Goals as goal

pub returns : goal.returns
returns c = example_site
