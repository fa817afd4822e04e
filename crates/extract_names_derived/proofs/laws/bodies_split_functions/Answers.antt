use Rattle.extract_names_derived.proofs.BodyParts.{body_splits}
use Rattle.extract_names_derived.proofs.laws.bodies_split_functions.Goals as goal

pub returns : goal.returns
returns c ts a i j k e s xs ys same f = body_splits c.lists_tell_each_statement.ensures c.lists_tell_one_behind_the_other.ensures a i j k e xs ys ts s same f
