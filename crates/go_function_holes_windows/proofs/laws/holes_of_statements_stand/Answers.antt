use Rattle.go_function_holes_windows.proofs.Found.{each-hole}
use Rattle.go_function_holes_windows.proofs.laws.holes_of_statements_stand.Goals as goal

pub returns : goal.returns
returns l s h t w f known calls k n inside hole there = each-hole s h t w f known calls k n inside hole there
