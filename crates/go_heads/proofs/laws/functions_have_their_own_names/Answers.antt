use Rattle.std.proofs.Common.{◌∙◌, Some, ap}
use Rattle.go_heads.specs.FunctionNames.{function_name}
use Rattle.go_heads.proofs.Told.{own_names}
use Rattle.go_heads.proofs.FunctionNumbers.{name_at}
use Rattle.go_heads.proofs.laws.functions_have_their_own_names.Goals as goal

pub returns : goal.returns
returns c fs h e k l f g s t same =
    own_names c.functions_are_told_in_order.ensures fs h (c.locals_follow_from_functions.ensures fs h (c.functions_have_names.ensures fs h e)) e k l (function_name f)
    (name_at fs k f s) (name_at fs l g t ∙ ap (λ w. Some w) same)
